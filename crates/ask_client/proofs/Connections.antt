-- Connections, one after another, and what they brought.
use Rattle.std.proofs.Common.{◌≡◌, ℕ, ◌+◌, Option, Some, None, List, [], ◌∷◌, ◌++◌, length, refl, sym, ap, subst, ◌∙◌, arith, append_assoc, append-nil, length-append}
use Rattle.std.specs.Prelude.{OnOk, Ok, Err}
use Rattle.std.specs.List.{flat_map}
use Rattle.std.specs.Io.KnownBytes.{Consumes, IsAtEnd}
use Rattle.std.proofs.KnownBytes.{Consumes-nil, Consumes-trans}
use Rattle.sb_frames.specs.Grammar.{spelling}
use Rattle.sb_frames.specs.declared.frame.AskOutcome.{AskOutcome}
use Rattle.ask_client.specs.Asking.{AskEnd, LeavesAll}
use Rattle.ask_client.specs.Batches.{outcome_frames}
use Rattle.ask_client.specs.Connections.{AllBring, Brings, BringsAll, DialerStreams, DialsNext, IsLastAtEnd, LeavesStream}
use Rattle.ask_client.specs.declared.server_stream.ServerStream.{ServerStream}
use Rattle.ask_client.specs.inner.Progress.{BringsSoFar}
use Rattle.ask_client.proofs.Told.{spellings-append}

module _ {R W : Type 0} where
  -- these are coming, and these were left
  abbrev known : List (ServerStream R W) → List (ServerStream R W) → Option (DialerStreams R W)
  known coming left = Some (record { coming = coming; left = left })

  module _ (remaining : R → Option (List ℕ)) (client : ℕ) where
    -- the last connection is at its end
    last_at_end : (left : List (ServerStream R W)) (last : ServerStream R W) → IsAtEnd (remaining last.reader) → IsLastAtEnd remaining (left ++ last ∷ [])
    last_at_end [] last end = end
    last_at_end (stream ∷ []) last end = end
    last_at_end (stream ∷ next ∷ more) last end = last_at_end (next ∷ more) last end

    -- one connection more
    AllBring-push : (first : ℕ) (earlier later : List AskOutcome) (made left : List (ServerStream R W)) (stream last : ServerStream R W) (rest : List ℕ)
        → AllBring remaining client first earlier made left → Brings remaining client (first + length earlier) later rest stream last
        → AllBring remaining client first (earlier ++ later) (made ++ stream ∷ []) (left ++ last ∷ [])
    AllBring-push first earlier later [] [] stream last rest none brings =
        let at : first + length earlier ≡ first = ap (λ (l : List AskOutcome). first + length l) none ∙ (omega arith) in (
          later,
          [],
          rest,
          ap (λ (l : List AskOutcome). l ++ later) none ∙ sym (append-nil later),
          subst (λ (n : ℕ). Brings remaining client n later rest stream last) at brings,
          refl,
        )
    AllBring-push first earlier later [] (gone ∷ left) stream last rest never brings = absurd never
    AllBring-push first earlier later (one ∷ made) [] stream last rest never brings = absurd never
    AllBring-push first earlier later (one ∷ made) (gone ∷ left) stream last rest (now, then, behind, are, brought, all) brings =
        let counts : length earlier ≡ length (now ++ then) = ap length are in
        let at : first + length earlier ≡ (first + length now) + length then = omega (arith, counts, length-append now then) in (
          now,
          then ++ later,
          behind,
          ap (λ (l : List AskOutcome). l ++ later) are ∙ append_assoc now then later,
          brought,
          AllBring-push (first + length now) then later made left stream last rest all
              (subst (λ (n : ℕ). Brings remaining client n later rest stream last) at brings),
        )

    -- no connection was made yet
    pub none_made : (start : Option (DialerStreams R W)) (first : ℕ) → BringsAll remaining client (λ left. Unit {0}) start start first []
    none_made None first = tt
    none_made (Some streams) first = ([], [], streams.coming, refl, ap (known streams.coming) (sym (append-nil streams.left)), refl, tt)

    -- the connection that was made last is left
    pub one_left : (Left : List (ServerStream R W) → Type 0) (start mid now new : Option (DialerStreams R W)) (first : ℕ) (earlier later : List AskOutcome)
        (rest : List ℕ) (made last : ServerStream R W) → BringsAll remaining client (λ left. Unit {0}) start mid first earlier → DialsNext made mid now
        → Brings remaining client (first + length earlier) later rest made last → LeavesStream last now new
        → ((left : List (ServerStream R W)) → Left (left ++ last ∷ []))
        → BringsAll remaining client Left start new first (earlier ++ later)
    one_left Left None mid now new first earlier later rest made last before dials brings leaves ends = tt
    one_left Left (Some streams) mid now new first earlier later rest made last (came, left, coming, parts, is, all, any) dials brings leaves ends =
        let dialed = subst (λ (m : Option (DialerStreams R W)). DialsNext made m now) is dials in
        let gone = subst (λ (m : Option (DialerStreams R W)). LeavesStream last m new) dialed.2 leaves in (
          came ++ made ∷ [],
          left ++ last ∷ [],
          dialed.0,
          parts ∙ ap (λ (l : List (ServerStream R W)). came ++ l) dialed.1 ∙ sym (append_assoc came (made ∷ []) dialed.0),
          gone ∙ ap (known dialed.0) (append_assoc streams.left left (last ∷ [])),
          AllBring-push first earlier later came left made last rest all brings,
          ends left,
        )

    -- a connection is made
    pub one_made : (start old new : Option (DialerStreams R W)) (first : ℕ) (told : List AskOutcome) (stream : ServerStream R W)
        → BringsAll remaining client (λ left. Unit {0}) start old first told → DialsNext stream old new
        → BringsSoFar remaining client start new (Some stream) first told
    one_made start old new first told stream before dials =
        (told, [], stream, old, sym (append-nil told), before, dials, Consumes-nil (remaining stream.reader))

    -- more came over the open connection, behind which there is this rest
    pub more_brought : (first : ℕ) (earlier later more : List AskOutcome) (rest : List ℕ) (made stream last : ServerStream R W) (told : List AskOutcome)
        → told ≡ earlier ++ later → Brings remaining client (first + length earlier) later [] made stream
        → Consumes (remaining stream.reader) (remaining last.reader)
        (flat_map spelling (outcome_frames client (first + length told) more) ++ rest)
        → Brings remaining client (first + length earlier) (later ++ more) rest made last
    more_brought first earlier later more rest made stream last told are brings reads =
        let at : first + length told ≡ (first + length earlier) + length later =
        omega (arith, ap length are, length-append earlier later) in
        let old = flat_map spelling (outcome_frames client (first + length earlier) later) in
        let new = flat_map spelling (outcome_frames client ((first + length earlier) + length later) more) in
        let read : Consumes (remaining stream.reader) (remaining last.reader) (new ++ rest) =
        subst (λ (n : ℕ). Consumes (remaining stream.reader) (remaining last.reader) (flat_map spelling (outcome_frames client n more) ++ rest)) at reads in
        let bytes : (old ++ []) ++ (new ++ rest) ≡ flat_map spelling (outcome_frames client (first + length earlier) (later ++ more)) ++ rest =
        ap (λ (l : List ℕ). l ++ (new ++ rest)) (append-nil old) ∙ sym (append_assoc old new rest)
        ∙ ap (λ (l : List ℕ). l ++ rest) (sym (spellings-append client (first + length earlier) later more)) in
        subst (Consumes (remaining made.reader) (remaining last.reader)) bytes
        (Consumes-trans (remaining made.reader) (remaining stream.reader) (remaining last.reader) (old ++ []) (new ++ rest) brings read)

    -- the open connection is left after it brought more, and then this rest
    pub open_left : (Left : List (ServerStream R W) → Type 0) (start now new : Option (DialerStreams R W)) (first : ℕ)
        (told more : List AskOutcome) (rest : List ℕ) (stream last : ServerStream R W) → BringsSoFar remaining client start now (Some stream) first told
        → Consumes (remaining stream.reader) (remaining last.reader) (flat_map spelling (outcome_frames client (first + length told) more) ++ rest)
        → LeavesStream last now new → ((left : List (ServerStream R W)) → Left (left ++ last ∷ []))
        → BringsAll remaining client Left start new first (told ++ more)
    open_left Left start now new first told more rest stream last (earlier, later, made, mid, are, before, dials, brings) reads leaves ends =
        let whole : earlier ++ (later ++ more) ≡ told ++ more =
        sym (append_assoc earlier later more) ∙ ap (λ (l : List AskOutcome). l ++ more) (sym are) in
        subst (BringsAll remaining client Left start new first) whole
        (one_left Left start mid now new first earlier (later ++ more) rest made last before dials
        (more_brought first earlier later more rest made stream last told are brings reads) leaves ends)

    -- the open connection brought more, and stays open
    pub open_stays : (start now : Option (DialerStreams R W)) (first : ℕ) (told more : List AskOutcome)
        (stream last : ServerStream R W) → BringsSoFar remaining client start now (Some stream) first told
        → Consumes (remaining stream.reader) (remaining last.reader) (flat_map spelling (outcome_frames client (first + length told) more) ++ [])
        → BringsSoFar remaining client start now (Some last) first (told ++ more)
    open_stays start now first told more stream last (earlier, later, made, mid, are, before, dials, brings) reads = (
      earlier,
      later ++ more,
      made,
      mid,
      ap (λ (l : List AskOutcome). l ++ more) are ∙ append_assoc earlier later more,
      before,
      dials,
      more_brought first earlier later more [] made stream last told are brings reads,
    )

    -- what holds of all that were left is forgotten, or is so anyhow
    pub left_so : (Left : List (ServerStream R W) → Type 0) (start new : Option (DialerStreams R W)) (first : ℕ) (told : List AskOutcome)
        → ((left : List (ServerStream R W)) → Left left) → BringsAll remaining client (λ left. Unit {0}) start new first told
        → BringsAll remaining client Left start new first told
    left_so Left None new first told so brings = tt
    left_so Left (Some streams) new first told so (made, left, coming, parts, is, all, any) = (made, left, coming, parts, is, all, so left)

    -- how the last connection was left
    pub leaves_all : (result : AskEnd) (told : List AskOutcome) (rest : List ℕ) (last : ServerStream R W)
        → OnOk result ((rest ≡ []) × IsAtEnd (remaining last.reader)) → (left : List (ServerStream R W))
        → LeavesAll remaining result told (left ++ last ∷ [])
    leaves_all (Ok done) told rest last end left = λ some. last_at_end left last end.1
    leaves_all (Err fault) told rest last end left = tt
