use Rattle.std.proofs.Common.{arith, ◌≡◌, ℕ, ◌-◌, Option, List, ◌++◌, Bor, append_assoc, ap, drop, length, length-drop, subst, sym, take, ◌∙◌}
use Rattle.std.specs.Io.KnownBytes.{Appends}
use Rattle.std.proofs.KnownBytes.{Appends-kept, Appends-trans}
use Rattle.std.proofs.lemmas.List.{take-append-drop, take_all}
use Rattle.bank_clients.specs.declared.one_by_one.Guest.{Guest}
use Rattle.bank_clients.proofs.one_by_one.Guest.write_whole.Goals.{in-Ok-eq0, in-Ok, in-Err}
use Rattle.bank_clients.proofs.one_by_one.Guest.write_whole.Goals as goal

-- so many bytes more are written
wrote_more : (a b c : Option (List ℕ)) (bytes written rest : List ℕ) (count : ℕ) → bytes ≡ written ++ rest → Appends a b written
    → Appends b c (take count rest) → (more : List ℕ) × (bytes ≡ more ++ drop count rest) × Appends a c more
wrote_more a b c bytes written rest count is first then = (
  written ++ take count rest,
  is ∙ ap (λ (l : List ℕ). written ++ l) (sym (take-append-drop count rest)) ∙ sym (append_assoc written (take count rest) (drop count rest)),
  Appends-trans a b c written (take count rest) first then,
)

pub loop-preserved : goal.loop-preserved
loop-preserved g c =
    let contents = g.T.Write.contents in
    let a = contents c.args.self.now.stream in
    let b = contents c.loop.self.stream in
    let bytes = c.args.bytes.now in
    let (written, is, so_far) = c.loop.invariant in
    let now = c.match-write.rest.now in
    let new = c.write.new.self in
    elim c.match-write.branch [
      | in-Ok-eq0 w ↦
          let rest : now ≡ drop 0 c.loop.rest.now = ap (λ (r : Bor (List ℕ)). r.now) w.rest-is in
          let same : c.match-write.self.stream ≡ new = ap (λ (s : Guest g.row.T.Denot). s.stream) w.self-is in
          rw (rest, same) (wrote_more a b (contents new) bytes written c.loop.rest.now 0 is so_far
          (subst (λ (n : ℕ). Appends b (contents new) (take n c.loop.rest.now)) w.in-Ok-eq0.field-0-test w.in-Ok-eq0.ensures.bytes))
      | in-Ok w ↦
          let count = w.in-Ok.count in
          let before = c.loop.rest.now in
          let part : now ≡ take (length before - count) (drop count before) = ap (λ (r : Bor (List ℕ)). r.now) w.rest-is in
          let rest : now ≡ drop count before = part ∙ take_all (length before - count) (drop count before) (omega (arith, length-drop count before)) in
          let same : c.match-write.self.stream ≡ new = ap (λ (s : Guest g.row.T.Denot). s.stream) w.self-is in
          rw (rest, same) (wrote_more a b (contents new) bytes written before count is so_far w.in-Ok.ensures.bytes)
      | in-Err w ↦
          let rest : now ≡ c.loop.rest.now = ap (λ (r : Bor (List ℕ)). r.now) w.rest-is in
          let same : c.match-write.self.stream ≡ new = ap (λ (s : Guest g.row.T.Denot). s.stream) w.self-is in
          rw (rest, same) (written, is, Appends-kept a b (contents new) written so_far w.in-Err.ensures.bytes)
    ]
