use Rattle.std.proofs.Common.{ℕ, List, subst}
use Rattle.std.proofs.lemmas.Result.{err_from_is_err_and}
use Rattle.checkpoint_text.specs.Faults.{IsCheckpointListFault}
use Rattle.checkpoint_text.specs.Origins.{opening_origin}
use Rattle.checkpoint_text.specs.Listing.{IsCheckpointListing, IsOpeningListing}
use Rattle.checkpoint_text.specs.declared.listing.CheckpointListing.TheVariants.{Balances, Check}
use Rattle.bank_service.specs.Opening.{IsOpeningOf, whole_opening_of}
use Rattle.bank_program.proofs.ShownCheckpoints.{if_known, names_fault}
use Rattle.bank_program.proofs.program_checkpoint.checkpoint_program.Goals as goal
use Rattle.bank_program.proofs.program_checkpoint.checkpoint_program.Goals.{in-Balances+in_ok-list_checkpoint-in-Balances, in-Check+in_ok-list_checkpoint-in-Check, in-Opening+in_ok-text-in-Opening+in_ok-opening-in-Opening+in_ok-list_as_opening-in-Opening}

pub returns-in_err-list_as_opening-in-Opening-clause-fault : goal.returns-in_err-list_as_opening-in-Opening-clause-fault
returns-in_err-list_as_opening-in-Opening-clause-fault g c =
    let r = c.from_residual-in_err-list_as_opening-in-Opening in
    let p = err_from_is_err_and r.result r.ensures.1 in
    rw (p.1, p.2, c.in-Opening.is)
    (names_fault (g.F.NamedFiles.content c.args.files.now) c.args.words.file.now c.in-Opening.file c.in_ok-bytes.bytes.items
    c.in_ok-text-in-Opening.text.items c.in_ok-opening-in-Opening.opening c.in_err-list_as_opening-in-Opening.field-0.0 c.in_ok-bytes.ensures.read
    c.in_ok-text-in-Opening.ensures.read
    (subst (λ (t : List ℕ). IsOpeningOf (whole_opening_of t) c.in_ok-opening-in-Opening.opening) c.deref-in-Opening.ensures.value
    c.in_ok-opening-in-Opening.ensures.whole)
    (subst (λ (b : List ℕ). IsCheckpointListFault b (opening_origin c.in_ok-opening-in-Opening.opening.columns)
    c.in_err-list_as_opening-in-Opening.field-0.0)
    c.deref-in-Opening-2.ensures.value c.in_err-list_as_opening-in-Opening.ensures.fault))

pub returns-clause-shown : goal.returns-clause-shown
returns-clause-shown g c =
    let content = g.F.NamedFiles.content c.args.files.now in
    let bytes = c.in_ok-bytes.bytes.items in elim c.match-words.branch [
      | in-Balances+in_ok-list_checkpoint-in-Balances w ↦
          let l = w.in_ok-list_checkpoint-in-Balances.ensures.listed in
          rw (w.in-Balances.is, w.writer-is) (
            l.0,
            if_known (content c.args.words.file.now) bytes (λ (b : List ℕ). IsCheckpointListing Balances b l.0)
                c.in_ok-bytes.ensures.read (subst (λ (b : List ℕ). IsCheckpointListing Balances b l.0) w.deref.ensures.value l.1),
            l.2,
          )
      | in-Check+in_ok-list_checkpoint-in-Check w ↦
          let l = w.in_ok-list_checkpoint-in-Check.ensures.listed in
          rw (w.in-Check.is, w.writer-is) (
            l.0,
            if_known (content c.args.words.file.now) bytes (λ (b : List ℕ). IsCheckpointListing Check b l.0)
                c.in_ok-bytes.ensures.read (subst (λ (b : List ℕ). IsCheckpointListing Check b l.0) w.deref-in-Check.ensures.value l.1),
            l.2,
          )
      | in-Opening+in_ok-text-in-Opening+in_ok-opening-in-Opening+in_ok-list_as_opening-in-Opening w ↦
          let l = w.in_ok-list_as_opening-in-Opening.ensures.listed in
          rw (w.in-Opening.is, w.writer-is) (
            l.0,
            if_known (content c.args.words.file.now) bytes _ c.in_ok-bytes.ensures.read
                (if_known (content w.in-Opening.file.now) w.in_ok-text-in-Opening.text.items _ w.in_ok-text-in-Opening.ensures.read (
                  w.in_ok-opening-in-Opening.opening,
                  subst (λ (t : List ℕ). IsOpeningOf (whole_opening_of t) w.in_ok-opening-in-Opening.opening) w.deref-in-Opening.ensures.value
                      w.in_ok-opening-in-Opening.ensures.whole,
                  subst (λ (b : List ℕ). IsOpeningListing w.in_ok-opening-in-Opening.opening b l.0) w.deref-in-Opening-2.ensures.value l.1,
                )),
            l.2,
          )
    ]
