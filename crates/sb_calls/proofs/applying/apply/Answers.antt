use Rattle.std.proofs.Common.{◌≡◌, ap, ◌∙◌}
use Rattle.sb_calls.proofs.DeclaredCowns.{declared_below, declared_cown_values, applied_follows, applied_places}
use Rattle.sb_calls.specs.Behaviour.{declared_cowns, effect_of}
use Rattle.sb_calls.specs.inner.BehaviourLaws.{effect_in_range}
use Rattle.sb_calls.specs.Cowns.{contents_of, read_cowns, write_cowns}
use Rattle.sb_calls.proofs.applying.apply.Goals as goal

pub read_cowns-inputs-requires-clause-cowns : goal.read_cowns-inputs-requires-clause-cowns
read_cowns-inputs-requires-clause-cowns c =
    let cowns : c.deref.result.now ≡ declared_cowns c.args.op = c.deref.ensures.0 ∙ c.cowns_of-cowns.ensures in
    rw cowns (declared_below c.args.columns.now c.args.op c.customers.ensures.valid.same c.requires)

pub perform-reply-requires : goal.perform-reply-requires
perform-reply-requires c =
    let inputs : c.deref-2.result.now ≡ read_cowns (contents_of c.args.columns.now) (declared_cowns c.args.op) =
    c.deref-2.ensures.0 ∙ c.read_cowns-inputs.ensures
    ∙ ap (read_cowns (contents_of c.args.columns.now)) (c.deref.ensures.0 ∙ c.cowns_of-cowns.ensures) in
    rw inputs (declared_cown_values c.args.columns.now c.args.op c.customers.ensures.valid c.requires)

pub write_cowns-requires-clause-cowns : goal.write_cowns-requires-clause-cowns
write_cowns-requires-clause-cowns c =
    let cowns : c.deref-3.result.now ≡ declared_cowns c.args.op = c.deref-3.ensures.0 ∙ c.cowns_of-cowns.ensures in
    rw cowns (declared_below c.args.columns.now c.args.op c.customers.ensures.valid.same c.requires)

pub write_cowns-requires-clause-values : goal.write_cowns-requires-clause-values
write_cowns-requires-clause-values c =
    let inputs = read_cowns (contents_of c.args.columns.now) (declared_cowns c.args.op) in
    let cowns : c.deref-3.result.now ≡ declared_cowns c.args.op = c.deref-3.ensures.0 ∙ c.cowns_of-cowns.ensures in
    let read : c.deref-2.result.now ≡ inputs =
    c.deref-2.ensures.0 ∙ c.read_cowns-inputs.ensures
    ∙ ap (read_cowns (contents_of c.args.columns.now)) (c.deref.ensures.0 ∙ c.cowns_of-cowns.ensures) in
    let outputs : c.deref-4.result.now ≡ (effect_of c.args.op inputs).1 =
    c.deref-4.ensures.0 ∙ ap (λ effect. effect.1) c.perform-reply.ensures ∙ ap (λ values. (effect_of c.args.op values).1) read in
    rw (cowns, outputs) (effect_in_range c.args.op inputs (declared_cown_values c.args.columns.now c.args.op c.customers.ensures.valid c.requires))

-- what the cowns contained
read : (c : goal.Else-prove-2) → c.deref-2.result.now ≡ read_cowns (contents_of c.args.columns.now) (declared_cowns c.args.op)
read c =
    c.deref-2.ensures.0 ∙ c.read_cowns-inputs.ensures
    ∙ ap (read_cowns (contents_of c.args.columns.now)) (c.deref.ensures.0 ∙ c.cowns_of-cowns.ensures)

-- the contents afterwards
written : (c : goal.Else-prove-2) → let inputs = read_cowns (contents_of c.args.columns.now) (declared_cowns c.args.op) in
    contents_of c.write_cowns.new.columns ≡ write_cowns (contents_of c.args.columns.now) (declared_cowns c.args.op) (effect_of c.args.op inputs).1
written c =
    let cowns : c.deref-3.result.now ≡ declared_cowns c.args.op = c.deref-3.ensures.0 ∙ c.cowns_of-cowns.ensures in
    let outputs = c.deref-4.ensures.0 ∙ ap (λ effect. effect.1) c.perform-reply.ensures ∙ ap (λ values. (effect_of c.args.op values).1) (read c) in
    c.write_cowns.ensures ∙ (λ i. write_cowns (contents_of c.args.columns.now) (cowns i) (outputs i))

pub returns-clause-procedure : goal.returns-clause-procedure
returns-clause-procedure c directory call same e =
    let reply : c.perform-reply.result.0 ≡ (effect_of c.args.op (read_cowns (contents_of c.args.columns.now) (declared_cowns c.args.op))).0 =
    ap (λ effect. effect.0) c.perform-reply.ensures ∙ ap (λ values. (effect_of c.args.op values).0) (read c) in
    rw reply (applied_follows c.args.columns.now c.write_cowns.new.columns c.args.op (written c) directory call same e c.customers-2.ensures.valid.same)

pub returns-clause-same_length : goal.returns-clause-same_length
returns-clause-same_length c =
    applied_places c.args.columns.now c.write_cowns.new.columns c.args.op (written c) c.customers.ensures.valid.same c.customers-2.ensures.valid.same
