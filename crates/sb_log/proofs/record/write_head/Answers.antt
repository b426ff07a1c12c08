use Rattle.std.proofs.Common.{◌≡◌, ◌++◌, ◌-◌, length, drop, arith, ap, sym, ◌∙◌, length-append, length-drop, length-take}
use Rattle.std.proofs.lemmas.Slice.{drop-put_mid}
use Rattle.sb_log.specs.Records.{size_field}
use Rattle.sb_log.proofs.Records.{behind_field, length-size_field, written}
use Rattle.sb_log.proofs.record.write_head.Goals as goal

pub overflow_cast-size : goal.overflow_cast-size
overflow_cast-size c = omega (arith, length-drop 40 c.args.bytes.now)

pub returns-clause-record : goal.returns-clause-record
returns-clause-record c before holds =
    let bytes = c.args.bytes.now in
    let field : c.copy_from_slice.new.self ≡ size_field (length (drop 40 bytes)) =
    c.copy_from_slice.ensures.after ∙ c.size_field.ensures ∙ ap size_field (sym (length-drop 40 bytes)) in
    written before bytes c.copy_from_slice.new.self c.copy_from_slice-2.new.self c.requires.head field
    (c.copy_from_slice-2.ensures.after ∙ c.digest_of.ensures (before ++ drop 40 bytes) holds)

pub returns-clause-body : goal.returns-clause-body
returns-clause-body c =
    let bytes = c.args.bytes.now in
    let size : length c.copy_from_slice.new.self ≡ 8 =
    ap length (c.copy_from_slice.ensures.after ∙ c.size_field.ensures) ∙ length-size_field (length bytes - 40) in
    let all = c.copy_from_slice.new.self ++ drop 8 bytes in
    drop-put_mid 8 32 all c.copy_from_slice-2.new.self 40 (omega arith)
    (omega (arith, size, length-append c.copy_from_slice.new.self (drop 8 bytes)))
    (omega (
      arith,
      size,
      length-append c.copy_from_slice.new.self
          (drop 8 bytes),
      length-drop 8 bytes,
      c.requires.head,
      ap length c.copy_from_slice-2.ensures.after,
      length-take 32
          (drop 8 all),
      length-drop 8 all,
      c.copy_from_slice-2.ensures.len,
    ))
    ∙ behind_field bytes c.copy_from_slice.new.self size
