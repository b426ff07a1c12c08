use Rattle.sb_checkpoint.proofs.PieceComparison.{found_so}
use Rattle.sb_checkpoint.proofs.folder_file.FolderFileFileWithSpare.has_content.Goals as goal

pub returns-clause-value : goal.returns-clause-value
returns-clause-value g c = found_so c.match-open.result c.args.bytes.now
