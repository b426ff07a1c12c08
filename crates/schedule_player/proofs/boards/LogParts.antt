-- A part of a log, run one by one from what the log before it leaves.
use Rattle.std.proofs.Common.{◌≡◌, ℕ, suc, ◌+◌, ◌<◌, ◌≤◌, ℤ, Option, Some, None, List, [], ◌∷◌, ◌++◌, length, take, refl, ap, ◌∙◌, arith}
use Rattle.std.specs.Prelude.{slice_get, option_map}
use Rattle.std.proofs.lemmas.List.{take-append-le}
use Rattle.std.proofs.Math.Seq.{take-append-add}
use Rattle.std.proofs.lemmas.Option.{slice_get_within}
use Rattle.cown_board.proofs.PositionLaws.{slice_get-left, slice_get-right}
use Rattle.sb_calls.specs.SerialRun.{reply_of, contents_after, contents_after_one, contents_after_first, reply_by_log}
use Rattle.sb_calls.specs.declared.reply.Reply.{Reply}
use Rattle.cown_board.proofs.LogLaws.{no_some as none_some}

module _ {B : Type 0} (touches : B → List ℕ) (effect : B → List ℤ → Reply × List ℤ) where
  pub held_append : (opening : List ℤ) (first rest : List B)
      → contents_after touches effect opening (first ++ rest) ≡ contents_after touches effect (contents_after touches effect opening first) rest
  held_append opening [] rest = refl
  held_append opening (b ∷ first) rest = held_append (contents_after_one touches effect opening b) first rest

  -- what is held within a part of a log
  pub held_in_part : (opening : List ℤ) (before part later : List B) (k : ℕ) → k ≤ length part
      → contents_after_first touches effect opening (before ++ (part ++ later)) (length before + k)
      ≡ contents_after_first touches effect (contents_after touches effect opening before) part k
  held_in_part opening before part later k within =
      ap (contents_after touches effect opening) (take-append-add before (part ++ later) k ∙ ap (λ xs. before ++ xs) (take-append-le k part later within))
      ∙ held_append opening before (take k part)

  pub at_in_part : (before part later : List B) (k : ℕ) → k < length part
      → slice_get (before ++ (part ++ later)) (length before + k) ≡ slice_get part k
  at_in_part before part later k within =
      slice_get-right before (part ++ later) (length before + k) k refl ∙ slice_get-left part later k within

  -- the reply to an op in a part of a log
  pub reply_in_part : (opening : List ℤ) (before part later : List B) (k : ℕ) → k < length part
      → reply_by_log touches effect opening (before ++ (part ++ later)) (suc (length before + k))
      ≡ reply_by_log touches effect (contents_after touches effect opening before) part (suc k)
  reply_in_part opening before part later k within =
      ap (λ held. option_map (reply_of touches effect held) (slice_get (before ++ (part ++ later)) (length before + k)))
      (held_in_part opening before part later k (omega (arith, within)))
      ∙ ap (option_map (reply_of touches effect (contents_after_first touches effect (contents_after touches effect opening before) part k)))
      (at_in_part before part later k within)

  -- a log that goes on holds the same at each of its places
  pub held_longer : (opening : List ℤ) (log more : List B) (k : ℕ) → k ≤ length log
      → contents_after_first touches effect opening (log ++ more) k ≡ contents_after_first touches effect opening log k
  held_longer opening log more k within = ap (contents_after touches effect opening) (take-append-le k log more within)

  some_within : (opening : List ℤ) (log : List B) (k : ℕ) (reply : Reply) (op : Option B) → slice_get log k ≡ op
      → option_map (reply_of touches effect (contents_after_first touches effect opening log k)) op ≡ Some reply → k < length log
  some_within opening log k reply None is h = absurd (none_some h)
  some_within opening log k reply (Some b) is h = slice_get_within log k b is

  pub reply_within : (opening : List ℤ) (log : List B) (k : ℕ) (reply : Reply)
      → reply_by_log touches effect opening log (suc k) ≡ Some reply → k < length log
  reply_within opening log k reply h = some_within opening log k reply (slice_get log k) refl h

  -- and gives the same replies
  pub reply_longer : (opening : List ℤ) (log more : List B) (k : ℕ) (reply : Reply)
      → reply_by_log touches effect opening log (suc k) ≡ Some reply
      → reply_by_log touches effect opening (log ++ more) (suc k) ≡ Some reply
  reply_longer opening log more k reply h =
      let within = reply_within opening log k reply h in
      ap (λ held. option_map (reply_of touches effect held) (slice_get (log ++ more) k)) (held_longer opening log more k (omega (arith, within)))
      ∙ ap (option_map (reply_of touches effect (contents_after_first touches effect opening log k))) (slice_get-left log more k within)
      ∙ h
