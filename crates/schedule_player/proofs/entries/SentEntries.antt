-- The entries of the log, as they are sent.
use Rattle.std.proofs.Common.{◌≡◌, ℕ, zero, suc, ◌+◌, Option, Some, None, List, [], ◌∷◌, map, take, drop, refl, sym, ap, ◌∙◌, arith}
use Rattle.std.specs.Prelude.{slice_get, option_map}
use Rattle.std.proofs.lemmas.Option.{slice_get-map}
use Rattle.sb_calls.specs.declared.ask.Key.{Key}
use Rattle.sb_calls.specs.declared.call.Call.{Call}
use Rattle.sb_frames.specs.declared.frame.Frame.{Frame}
use Rattle.sb_frames.specs.declared.frame.Frame.TheVariants as frame
use Rattle.sb_rows.specs.Balances.{Balances}
use Rattle.sb_sequencer.specs.Entries.{entry_of, entries_from, entries, entries_after, entries_for_replica, entries_to_resend}
use Rattle.sb_sequencer.specs.Numbering.{call_of_number}
use Rattle.sb_sequencer.specs.Sequencer.{SequencerOf}
use Rattle.schedule_player.specs.FramesOfLog.{IsEntryOf}
use Rattle.schedule_player.specs.OneBased.{nth_item, Every}
use Rattle.schedule_player.specs.World.{bank_with}
use Rattle.schedule_player.proofs.Lists.{every_nil, every_cons}
use Rattle.cown_board.proofs.LogLaws.{no_some as none_some}
use Rattle.cown_board.proofs.LogLaws.{injective as some_is}

module _ (names : List (List ℕ)) (opening : Balances) (log : List (Key × Call)) where
  call_numbered : (n : ℕ) → nth_item (map (λ entry. entry.1) log) n ≡ call_of_number log n
  call_numbered zero = refl
  call_numbered (suc k) = slice_get-map (λ entry. entry.1) log k

  pub entry_is : (n : ℕ) (entry : Frame) → entry_of log n ≡ Some entry → IsEntryOf (bank_with names opening log) entry
  entry_is n entry here = by (call_of_number log n) refl (here)
    where
      by : (call : Option Call) → call_of_number log n ≡ call → entry_of log n ≡ Some entry → IsEntryOf (bank_with names opening log) entry
      by None none e = absurd (none_some (sym (ap (option_map (frame.Entry n)) none) ∙ e))
      by (Some call) found e = record {
        number = n;
        call = call;
        frame_is = some_is (sym e ∙ ap (option_map (frame.Entry n)) found);
        in_log = call_numbered n ∙ found;
      }

  -- ---- all of them

  entry_at : (n k : ℕ) (asks : List (Key × Call)) → slice_get (entries_from n asks) k ≡ option_map (λ ask. frame.Entry (n + k) ask.1) (slice_get asks k)
  entry_at n k [] = refl
  entry_at n zero (ask ∷ asks) = let e : n ≡ n + 0 = omega arith in ap (λ m. Some (frame.Entry m ask.1)) e
  entry_at n (suc k) (ask ∷ asks) =
      let e : suc n + k ≡ n + suc k = omega arith in
      entry_at (suc n) k asks ∙ ap (λ m. option_map (λ ask. frame.Entry m ask.1) (slice_get asks k)) e

  every_entry : Every (IsEntryOf (bank_with names opening log)) (entries log)
  every_entry k sent here = by (slice_get log k) refl
    where
      by : (ask : Option (Key × Call)) → slice_get log k ≡ ask → IsEntryOf (bank_with names opening log) sent
      by None none = absurd (none_some (sym (entry_at 1 k log ∙ ap (option_map (λ ask. frame.Entry (1 + k) ask.1)) none) ∙ here))
      by (Some ask) found = record {
        number = suc k;
        call = ask.1;
        frame_is =
            let e : 1 + k ≡ suc k = omega arith in
            some_is (sym here ∙ entry_at 1 k log ∙ ap (option_map (λ ask. frame.Entry (1 + k) ask.1)) found) ∙ ap (λ m. frame.Entry m ask.1) e;
        in_log = slice_get-map (λ entry. entry.1) log k ∙ ap (option_map (λ entry. entry.1)) found;
      }

every_drop : {A : Type 0} (P : A → Type 0) (n : ℕ) (xs : List A) → Every P xs → Every P (drop n xs)
every_drop P zero xs all = all
every_drop P (suc n) [] all = all
every_drop P (suc n) (x ∷ xs) all = every_drop P n xs (λ k item here. all (suc k) item here)

every_take : {A : Type 0} (P : A → Type 0) (n : ℕ) (xs : List A) → Every P xs → Every P (take n xs)
every_take P zero xs all = every_nil P
every_take P (suc n) [] all = all
every_take P (suc n) (x ∷ xs) all = every_cons P x (take n xs) (all 0 x refl) (every_take P n xs (λ k item here. all (suc k) item here))

every_after : (names : List (List ℕ)) (opening : Balances) (log : List (Key × Call)) (size : ℕ)
    → Every (IsEntryOf (bank_with names opening log)) (entries_after log size)
unfolding entries_after
every_after names opening log size =
    every_take (IsEntryOf (bank_with names opening log)) 16 (drop size (entries log))
    (every_drop (IsEntryOf (bank_with names opening log)) size (entries log) (every_entry names opening log))

pub resent_are : (names : List (List ℕ)) (opening : Balances) (s : SequencerOf) (r : ℕ)
    → Every (IsEntryOf (bank_with names opening s.log)) (entries_to_resend s r)
resent_are names opening s r = by (slice_get s.recorded r)
  where
    by : (size : Option ℕ) → Every (IsEntryOf (bank_with names opening s.log)) (entries_for_replica s.log size)
    by None = every_nil (IsEntryOf (bank_with names opening s.log))
    by (Some size) = every_after names opening s.log size
