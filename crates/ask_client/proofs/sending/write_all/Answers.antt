use Rattle.std.proofs.Common.{◌≡◌, ℕ, List, ◌++◌, ap, ◌∙◌, sym, take, drop, append_assoc}
use Rattle.std.proofs.KnownBytes.{Appends-kept, Appends-trans}
use Rattle.std.proofs.lemmas.List.{take-append-drop}
use Rattle.std.specs.Borrow.{Bor}
use Rattle.sb_rows.proofs.SplitAtFirstByte.{to_end}
use Rattle.ask_client.proofs.sending.write_all.Goals as goal
use Rattle.ask_client.proofs.sending.write_all.Goals.{in-Ok, in-Err+else-ne}

pub loop-preserved : goal.loop-preserved
loop-preserved g c =
    let (front, parts, written) = c.loop.invariant in
    elim c.match-write.branch [
      | in-Ok w ↦
          let n = w.in-Ok.count in
          let left : c.match-write.rest.now ≡ drop n c.loop.rest.now =
          ap (λ (r : Bor (List ℕ)). r.now) w.rest-is ∙ to_end c.loop.rest.now n in (
            front ++ take n c.loop.rest.now,
            parts ∙ ap (λ (l : List ℕ). front ++ l) (sym (take-append-drop n c.loop.rest.now))
                ∙ sym (append_assoc front (take n c.loop.rest.now) (drop n c.loop.rest.now))
                ∙ ap (λ (l : List ℕ). (front ++ take n c.loop.rest.now) ++ l) (sym left),
            Appends-trans _ _ _ front (take n c.loop.rest.now) written w.in-Ok.ensures.bytes,
          )
      | in-Err+else-ne w ↦ (
        front,
        parts ∙ ap (λ (r : Bor (List ℕ)). front ++ r.now) (sym w.rest-is),
        Appends-kept _ _ _ front written w.in-Err.ensures.bytes,
      )
    ]
