use Rattle.sb_rows.proofs.CustomerPush.{IsDirectory-push, names-insert_key}
use Rattle.sb_rows.proofs.directory.Directory.push.Goals as goal

pub invariant_of-self-2 : goal.invariant_of-self-2
invariant_of-self-2 c =
    let names = c.args.self.now in
    let valid = rw c.self.view_is at c.self.invariant in
    rw (names-insert_key names c.self.inside.names.keys c.insert.new.self.keys c.args.name c.self.view_is c.requires.new c.in_ok-insert.ensures.keys)
    (IsDirectory-push names c.args.name valid c.text-valid.ensures.valid c.requires.new c.requires.room)

pub returns-clause-ok : goal.returns-clause-ok
returns-clause-ok c =
    names-insert_key c.args.self.now c.self.inside.names.keys c.insert.new.self.keys c.args.name c.self.view_is c.requires.new c.in_ok-insert.ensures.keys

pub returns-clause-valid : goal.returns-clause-valid
returns-clause-valid c = invariant_of-self-2 c
