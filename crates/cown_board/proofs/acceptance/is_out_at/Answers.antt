use Rattle.std.proofs.Common.{◌≡◌, Some, length, refl, sym, ap, ◌∙◌, subst, arith}
use Rattle.std.specs.Prelude.{slice_get}
use Rattle.std.proofs.lemmas.Bool.{both_ways}
use Rattle.std.proofs.lemmas.Option.{slice_get_read}
use Rattle.sb_calls.specs.Cowns.{AreBelow, contents_of, read_cowns}
use Rattle.cown_board.proofs.LogLaws.{injective}
use Rattle.cown_board.specs.declared.state.State.{State}
use Rattle.cown_board.proofs.acceptance.is_out_at.Given.{Over}
use Rattle.cown_board.proofs.acceptance.is_out_at.Goals as goal
use Rattle.cown_board.proofs.acceptance.is_out_at.Goals.{After-index, then-not-is_out-via-then-not-is_out, then-not-is_out-via-else-not-is_out+then-not-same_behaviour}

-- what was read is what stands at the position
behaviour_at : (g : Over) (c : After-index g) → slice_get c.args.log.now.items c.args.position ≡ Some c.index-behaviour.result.now
behaviour_at g c = slice_get_read c.args.log.now.items _ c.args.position c.index-behaviour.result.now refl c.requires.position c.index-behaviour.ensures

state_at : (g : Over) (c : After-index g) → slice_get c.args.states.now.items c.args.position ≡ Some c.index.result.now
state_at g c =
    slice_get_read c.args.states.now.items (length c.args.log.now.items) c.args.position c.index.result.now c.requires.beside c.requires.position
    c.index.ensures

pub index-requires : goal.index-requires
index-requires g c = omega (arith, c.requires.position, c.requires.beside, c.args.states.now.ok)

pub index-behaviour-requires : goal.index-behaviour-requires
index-behaviour-requires g c = omega (arith, c.requires.position, c.args.log.now.ok)

pub read_cowns-inputs-requires-clause-cowns : goal.read_cowns-inputs-requires-clause-cowns
read_cowns-inputs-requires-clause-cowns g c =
    let read = (goal.at.read_cowns-inputs-requires-clause-cowns g c).After-index in
    subst (AreBelow (length (contents_of c.args.columns.now))) (sym (c.as_slice.ensures.value ∙ c.cowns.ensures))
    (c.requires.cowns c.args.position c.index-behaviour.result.now (behaviour_at g read))

pub returns-then-not-is_out : goal.returns-then-not-is_out
returns-then-not-is_out g c =
    let read = (goal.at.returns-then-not-is_out g c).After-index in (
      λ out. absurd (both_ways _ refl out),
      λ all. absurd (elim c.then-not-is_out.branch [
        | then-not-is_out-via-then-not-is_out w ↦
            both_ways c.is_out.result w.if-not-is_out.true (c.is_out.ensures.1 (injective (sym (state_at g read) ∙ all.0)))
        | then-not-is_out-via-else-not-is_out+then-not-same_behaviour w ↦
            both_ways w.same_behaviour.result w.if-not-same_behaviour.true
            (w.same_behaviour.ensures.1 (injective (sym (behaviour_at g read) ∙ all.1) ∙ sym w.behaviour.ensures))
      ]),
    )

pub returns : goal.returns
returns g c =
    let read = (goal.at.returns g c).After-index in
    let touches = g.B.Behaviour.touches in
    let contents = contents_of c.args.columns.now in
    let same : c.index-behaviour.result.now ≡ c.args.done.now.behaviour = c.same_behaviour.ensures.0 c.if-not-same_behaviour.false ∙ c.behaviour.ensures in
    let inputs : c.as_slice-2.result.now ≡ read_cowns contents (touches c.args.done.now.behaviour) =
    c.as_slice-2.ensures.value ∙ c.read_cowns-inputs.ensures
    ∙ ap (read_cowns contents) (c.as_slice.ensures.value ∙ c.cowns.ensures ∙ ap touches same) in (
      λ equal. (
        state_at g read ∙ ap (λ (s : State). Some s) (c.is_out.ensures.0 c.if-not-is_out.false),
        behaviour_at g read ∙ ap (λ (b : g.row.B.Denot). Some b) same,
        sym c.inputs.ensures ∙ c.same_values.ensures.0 equal ∙ inputs,
      ),
      λ all. c.same_values.ensures.1 (c.inputs.ensures ∙ all.2 ∙ sym inputs),
    )
