-- The asks that a flush follows, with one more frame.
use Rattle.std.proofs.Common.{◌≡◌, Bool, true, false, ◌||◌, if◌then◌else◌, List, [], ◌∷◌, ◌++◌, refl, sym, ap, ◌∙◌, append_assoc, append-nil}
use Rattle.std.specs.List.{list_any}
use Rattle.std.proofs.lemmas.Grind.{flat_map-append}
use Rattle.std.proofs.lemmas.List.Folds.{list_any-append}
use Rattle.sb_frames.specs.declared.frame.Frame.{Frame}
use Rattle.sb_frames.specs.declared.frame.Frame.TheVariants.{Flush}
use Rattle.bank_server.specs.Pending.{unflushed_asks}
use Rattle.bank_server.specs.Session.{ask_of_frame, asks_in, is_flush, flushed_asks}

-- each ask gets its outcome or waits
pub all_asks : (frames : List Frame) → asks_in frames ≡ flushed_asks frames ++ unflushed_asks frames
all_asks [] = refl
all_asks (frame ∷ frames) = by (all_asks frames) (list_any is_flush frames)
  where
    by : asks_in frames ≡ flushed_asks frames ++ unflushed_asks frames → (b : Bool) → asks_in (frame ∷ frames)
        ≡ (if b then ask_of_frame frame ++ flushed_asks frames else []) ++ (if b then unflushed_asks frames else asks_in (frame ∷ frames))
    by behind true = ap (λ l. ask_of_frame frame ++ l) behind ∙ sym (append_assoc (ask_of_frame frame) (flushed_asks frames) (unflushed_asks frames))
    by behind false = refl

pub asks_push : (frames : List Frame) (frame : Frame) → asks_in (frames ++ frame ∷ []) ≡ asks_in frames ++ ask_of_frame frame
asks_push frames frame = flat_map-append ask_of_frame frames (frame ∷ []) ∙ ap (λ l. asks_in frames ++ l) (append-nil (ask_of_frame frame))

or_false : (b : Bool) → (b || false) ≡ b
or_false true = refl
or_false false = refl

or_true : (b : Bool) → (b || true) ≡ true
or_true true = refl
or_true false = refl

-- ---- behind another frame

any_same : (frames : List Frame) (frame : Frame) → is_flush frame ≡ false → list_any is_flush (frames ++ frame ∷ []) ≡ list_any is_flush frames
any_same frames frame never =
    list_any-append is_flush frames (frame ∷ []) ∙ ap (λ b. list_any is_flush frames || (b || false)) never
    ∙ or_false (list_any is_flush frames)

pub told_same : (frames : List Frame) (frame : Frame) → is_flush frame ≡ false → flushed_asks (frames ++ frame ∷ []) ≡ flushed_asks frames
told_same [] frame never = refl
told_same (f ∷ frames) frame never =
    ap (λ b. if b then ask_of_frame f ++ flushed_asks (frames ++ frame ∷ []) else []) (any_same frames frame never)
    ∙ ap (λ l. if list_any is_flush frames then ask_of_frame f ++ l else []) (told_same frames frame never)

pub untold_more : (frames : List Frame) (frame : Frame) → is_flush frame ≡ false
    → unflushed_asks (frames ++ frame ∷ []) ≡ unflushed_asks frames ++ ask_of_frame frame
untold_more [] frame never = append-nil (ask_of_frame frame)
untold_more (f ∷ frames) frame never =
    ap (λ b. if b then unflushed_asks (frames ++ frame ∷ []) else asks_in (f ∷ frames ++ frame ∷ [])) (any_same frames frame never)
    ∙ by (untold_more frames frame never) (list_any is_flush frames)
  where
    by : unflushed_asks (frames ++ frame ∷ []) ≡ unflushed_asks frames ++ ask_of_frame frame
        → (b : Bool) → (if b then unflushed_asks (frames ++ frame ∷ []) else asks_in (f ∷ frames ++ frame ∷ []))
        ≡ (if b then unflushed_asks frames else asks_in (f ∷ frames)) ++ ask_of_frame frame
    by behind true = behind
    by behind false = asks_push (f ∷ frames) frame

-- ---- behind a flush

any_flush : (frames : List Frame) → list_any is_flush (frames ++ Flush ∷ []) ≡ true
any_flush frames = list_any-append is_flush frames (Flush ∷ []) ∙ or_true (list_any is_flush frames)

pub told_all : (frames : List Frame) → flushed_asks (frames ++ Flush ∷ []) ≡ asks_in frames
told_all [] = refl
told_all (f ∷ frames) =
    ap (λ b. if b then ask_of_frame f ++ flushed_asks (frames ++ Flush ∷ []) else []) (any_flush frames) ∙ ap (λ l. ask_of_frame f ++ l) (told_all frames)

pub untold_none : (frames : List Frame) → unflushed_asks (frames ++ Flush ∷ []) ≡ []
untold_none [] = refl
untold_none (f ∷ frames) =
    ap (λ b. if b then unflushed_asks (frames ++ Flush ∷ []) else asks_in (f ∷ frames ++ Flush ∷ [])) (any_flush frames) ∙ untold_none frames
