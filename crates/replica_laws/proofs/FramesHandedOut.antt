-- What a stream hands out, and what is left of it.
use Rattle.std.proofs.Common.{◌≡◌, ℕ, ◌<◌, Bool, true, false, Option, Some, None, List, [], ◌∷◌, ◌++◌, drop, length, map, Result, Ok, Err, refl, sym, ap, subst, ◌∙◌, append_assoc, arith}
use Rattle.std.proofs.lemmas.List.{drop_at, length-append, map-append, take-append-drop}
use Rattle.std.specs.List.{AllByRecursion, All, flat_map}
use Rattle.std.proofs.lemmas.List.Elements.{All-drop, recursion_from_All}
use Rattle.sb_frames.proofs.Frames.{decoded_takes, one_frame, spelling_size}
use Rattle.sb_frames.specs.Decoding.{decode_result}
use Rattle.sb_frames.specs.Grammar.{IsFrame, spelling}
use Rattle.sb_frames.specs.Streaming.{AreBytes, Next, StepsTo, StreamCall, StreamState, next_by, next_of}
use Rattle.sb_frames.specs.declared.fault.FrameFault.{FrameFault}
use Rattle.sb_frames.specs.declared.fault.FrameFault.TheVariants.{Short, BadLength, UnknownTag, BadName, BadAmount, BadReply, BadStatus}
use Rattle.sb_frames.specs.declared.fault.StreamFault.{StreamFault}
use Rattle.sb_frames.specs.declared.frame.Frame.{Frame}
use Rattle.schedule_player.specs.Bank.{BankOf}
use Rattle.bank_server.proofs.clients.ClientAsks.{All-behind, All-front}
use Rattle.replica_laws.specs.FollowerMoves.{HandsOutAll, HandsOutTheLog, IsSentToFollowers, SpellTheLog}

-- ---- one part after another

steps_append : (xs ys : List StreamCall) (a b c : StreamState) → StepsTo a xs b → StepsTo b ys c → StepsTo a (xs ++ ys) c
steps_append [] ys a b c h k = subst (λ (s : StreamState). StepsTo s ys c) h k
steps_append (x ∷ xs) ys a b c h k = (h.0, h.1, steps_append xs ys h.0 b c h.2 k)

next : Frame → StreamCall
next frame = Next (Ok (Some frame))

pub handed_append : (xs ys : List Frame) (a b c : StreamState) → HandsOutAll a xs b → HandsOutAll b ys c → HandsOutAll a (xs ++ ys) c
unfolding next
handed_append xs ys a b c h k =
    subst (λ (calls : List StreamCall). StepsTo a calls c) (sym (map-append next xs ys)) (steps_append (map next xs) (map next ys) a b c h k)

-- ---- frames before the rest

-- an answer of next, and with it the stream after it
abbrev Answer : Type 0
Answer = Result (Option Frame) StreamFault

abbrev After : Type 0
After = Answer × StreamState

handed_is : {f g : Frame} → ◌≡◌ {A = Answer} (Ok (Some f)) (Ok (Some g)) → f ≡ g
handed_is h = cc

handed_some : {f : Frame} → ◌≡◌ {A = Answer} (Ok (Some f)) (Ok None) → ⊥
handed_some h = cc

handed_ok : {f : Frame} {fault : StreamFault} → ◌≡◌ {A = Answer} (Ok (Some f)) (Err fault) → ⊥
handed_ok h = cc

-- a valid frame was before the rest, which is bytes
record IsBefore (unread : List ℕ) (frame : Frame) (rest : StreamState) : Type 0 where
  valid : IsFrame frame
  spelled : unread ≡ spelling frame ++ rest.unread
  bytes : AreBytes rest.unread

found_before : (unread : List ℕ) (read : Result (Frame × ℕ) FrameFault) (frame : Frame) (rest : StreamState) → AreBytes unread → decode_result unread ≡ read
    → ◌≡◌ {A = After} (Ok (Some frame), rest) (next_by read unread) → IsBefore unread frame rest
found_before unread (Ok found) frame rest are e is =
    let same : frame ≡ found.0 = handed_is (ap (λ (a : After). a.0) is) in
    let left : rest.unread ≡ drop found.1 unread = ap (λ (a : After). a.1.unread) is in
    let spells = (decoded_takes unread found.0 found.1 are e).1 in
    record {
      valid = subst IsFrame (sym same) spells.valid;
      spelled =
          sym (take-append-drop found.1 unread) ∙ ap (λ front. front ++ drop found.1 unread) (spells.spelled ∙ ap spelling (sym same))
          ∙ ap (λ behind. spelling frame ++ behind) (sym left);
      bytes = subst AreBytes (sym left) (All-drop (λ byte. byte < 256) found.1 unread are);
    }
found_before unread (Err Short) frame rest are e is = absurd (handed_some (ap (λ (a : After). a.0) is))
found_before unread (Err BadLength) frame rest are e is = absurd (handed_ok (ap (λ (a : After). a.0) is))
found_before unread (Err UnknownTag) frame rest are e is = absurd (handed_ok (ap (λ (a : After). a.0) is))
found_before unread (Err BadName) frame rest are e is = absurd (handed_ok (ap (λ (a : After). a.0) is))
found_before unread (Err BadAmount) frame rest are e is = absurd (handed_ok (ap (λ (a : After). a.0) is))
found_before unread (Err BadReply) frame rest are e is = absurd (handed_ok (ap (λ (a : After). a.0) is))
found_before unread (Err BadStatus) frame rest are e is = absurd (handed_ok (ap (λ (a : After). a.0) is))

next_before : (unread : List ℕ) (failed : Bool) (frame : Frame) (rest : StreamState) → AreBytes unread
    → ◌≡◌ {A = After} (Ok (Some frame), rest) (next_of (record { unread = unread; failed = failed })) → IsBefore unread frame rest
next_before unread true frame rest are is = absurd (handed_ok (ap (λ (a : After). a.0) is))
next_before unread false frame rest are is = found_before unread (decode_result unread) frame rest are refl is

-- valid frames were before the rest, which is bytes
pub record AreBefore (unread : List ℕ) (frames : List Frame) (rest : List ℕ) : Type 0 where
  pub valid : AllByRecursion IsFrame frames
  pub spelled : unread ≡ flat_map spelling frames ++ rest
  pub bytes : AreBytes rest

-- so are all frames that a stream of bytes hands out
pub all_before : (frames : List Frame) (old new : StreamState) → AreBytes old.unread → HandsOutAll old frames new
    → AreBefore old.unread frames new.unread
all_before [] old new are same =
    subst (λ (s : StreamState). AreBefore old.unread [] s.unread) (sym same) (record { valid = tt; spelled = refl; bytes = are })
all_before (frame ∷ frames) old new are handed =
    let mid = handed.0 in
    let first = next_before old.unread old.failed frame mid are handed.1 in
    let others = all_before frames mid new first.bytes handed.2 in
    record {
      valid = (first.valid, others.valid);
      spelled =
          first.spelled ∙ ap (λ behind. spelling frame ++ behind) others.spelled
          ∙ sym (append_assoc (spelling frame) (flat_map spelling frames) new.unread);
      bytes = others.bytes;
    }

-- a stream that handed out some frames of the log hands out the log from there on
pub log_from_there : (bank : BankOf) (frames : List Frame) (old new : StreamState) → HandsOutTheLog bank old → HandsOutAll old frames new
    → HandsOutTheLog bank new
log_from_there bank frames old new log handed = record {
  bytes = (all_before frames old new log.bytes handed).bytes;
  frames = λ more rest later.
      All-behind (IsSentToFollowers bank) frames more
      (log.frames (frames ++ more) rest (handed_append frames more old new rest handed later));
}

-- ---- bytes that spell the log

-- frames before some bytes that spell frames are the first of these
pub given_first : (given left : List Frame) (rest : List ℕ) → AllByRecursion IsFrame given → AllByRecursion IsFrame left
    → flat_map spelling given ++ rest ≡ flat_map spelling left
    → (behind : List Frame) × (left ≡ given ++ behind) × (rest ≡ flat_map spelling behind)
given_first [] left rest given_valid left_valid e = (left, refl, e)
given_first (g ∷ given) [] rest given_valid left_valid e =
    let front = spelling g in
    let size = spelling_size g in
    let all = length-append (front ++ flat_map spelling given) rest in
    let first = length-append front (flat_map spelling given) in
    let none = ap length e in
    absurd (omega (arith, size, all, first, none))
given_first (g ∷ given) (f ∷ left) rest given_valid left_valid e =
    let more = flat_map spelling given ++ rest in
    let whole : spelling g ++ more ≡ spelling f ++ flat_map spelling left = sym (append_assoc (spelling g) (flat_map spelling given) rest) ∙ e in
    let same = one_frame g f (spelling g) (spelling f) more (flat_map spelling left) (record { valid = given_valid.0; spelled = refl })
    (record { valid = left_valid.0; spelled = refl }) whole in
    let size = length (spelling g) in
    let behind : more ≡ flat_map spelling left =
    sym (drop_at (spelling g) more size refl) ∙ ap (drop size) whole ∙ drop_at (spelling f) (flat_map spelling left) size (ap length (sym same.1)) in
    let others = given_first given left rest given_valid.1 left_valid.1 behind in
    (others.0, ap (λ frames. f ∷ frames) others.1 ∙ ap (λ frame. frame ∷ (given ++ others.0)) (sym same.0), others.2)

-- a stream whose bytes, with more to come, spell frames of the log hands out frames of the log
pub spelled_log : (bank : BankOf) (stream : StreamState) (more : List ℕ) (left : List Frame) → SpellTheLog bank (stream.unread ++ more) left
    → HandsOutTheLog bank stream
spelled_log bank stream more left log = record { bytes = bytes; frames = sent }
  where
    bytes : AreBytes stream.unread
    bytes = All-front (λ byte. byte < 256) stream.unread more log.are_bytes

    sent : (given : List Frame) (rest : StreamState) → HandsOutAll stream given rest → All (IsSentToFollowers bank) given
    sent given rest handed =
        let before = all_before given stream rest bytes handed in
        let first = given_first given left (rest.unread ++ more) before.valid (recursion_from_All IsFrame left log.valid)
        (sym (append_assoc (flat_map spelling given) rest.unread more) ∙ ap (λ front. front ++ more) (sym before.spelled) ∙ log.spelled) in
        All-front (IsSentToFollowers bank) given first.0 (subst (All (IsSentToFollowers bank)) first.1 log.sent)
