-- A log of behaviours, run one by one over the cowns.
use Rattle.std.specs.Prelude.{ℕ, zero, suc, ℤ, Bool, false, ◌||◌, ◌==◌, Option, None, List, [], ◌∷◌, take, slice_get, option_map}
use Rattle.sb_calls.specs.Cowns.{read_cowns, write_cowns}
use Rattle.sb_calls.specs.declared.reply.Reply.{Reply}

-- a cown is one of these, and two lists share one (by recursion, because proofs go by its cases)
abbrev pub is_among : ℕ → List ℕ → Bool
is_among cown [] = false
is_among cown (c ∷ cowns) = (cown == c) || is_among cown cowns

abbrev pub share_cown : List ℕ → List ℕ → Bool
share_cown [] other = false
share_cown (cown ∷ cowns) other = is_among cown other || share_cown cowns other

-- for any kind of behaviours, given what they declare and their effect
module _ {B : Type 0} (touches : B → List ℕ) (effect : B → List ℤ → Reply × List ℤ) where
  -- the inputs of a behaviour: what its cowns contain
  abbrev pub inputs_of : List ℤ → B → List ℤ
  inputs_of contents behaviour = read_cowns contents (touches behaviour)

  -- the reply to it, and the contents after it
  abbrev pub reply_of : List ℤ → B → Reply
  reply_of contents behaviour = (effect behaviour (inputs_of contents behaviour)).0

  abbrev pub contents_after_one : List ℤ → B → List ℤ
  contents_after_one contents behaviour =
      write_cowns contents (touches behaviour) (effect behaviour (inputs_of contents behaviour)).1

  -- the contents after the whole log
  abbrev pub contents_after : List ℤ → List B → List ℤ
  contents_after contents [] = contents
  contents_after contents (behaviour ∷ log) = contents_after (contents_after_one contents behaviour) log

  -- the contents after the first k behaviours of a log
  abbrev pub contents_after_first : List ℤ → List B → ℕ → List ℤ
  contents_after_first opening log k = contents_after opening (take k log)

  -- the reply to number n of a log, counted from 1, if there is one
  abbrev pub reply_by_log : List ℤ → List B → ℕ → Option Reply
  reply_by_log opening log zero = None
  reply_by_log opening log (suc k) = option_map (reply_of (contents_after_first opening log k)) (slice_get log k)
