-- The connections of a client.
use Rattle.std.specs.Prelude.{◌≡◌, ℕ, ◌+◌, Option, Some, IfSome, List, [], ◌∷◌, ◌++◌, length}
use Rattle.std.specs.Io.KnownBytes.{Consumes, IsAtEnd}
use Rattle.std.specs.List.{flat_map}
use Rattle.sb_frames.specs.Grammar.{spelling}
use Rattle.sb_frames.specs.declared.frame.AskOutcome.{AskOutcome}
use Rattle.ask_client.specs.Batches.{outcome_frames}
use Rattle.ask_client.specs.declared.server_stream.ServerStream.{ServerStream}

-- a dialer's connections: those that it will make, and those that were left, as they were left, in order
pub record DialerStreams (R W : Type 0) : Type 0 where
  pub coming : List (ServerStream R W)
  pub left : List (ServerStream R W)

module _ {R W : Type 0} where
  -- the first of those that will be made is made
  abbrev pub DialsNext : ServerStream R W → Option (DialerStreams R W) → Option (DialerStreams R W) → Type 0
  DialsNext stream old new = IfSome old (λ streams. (rest : List (ServerStream R W))
      × (streams.coming ≡ stream ∷ rest) × (new ≡ Some (record { coming = rest; left = streams.left })))

  -- a connection is left, and stays as it is
  abbrev pub LeavesStream : ServerStream R W → Option (DialerStreams R W) → Option (DialerStreams R W) → Type 0
  LeavesStream stream old new = IfSome old (λ streams.
      new ≡ Some (record { coming = streams.coming; left = streams.left ++ stream ∷ [] }))

  module _ (remaining : R → Option (List ℕ)) where
    -- the server ended the last of these connections
    abbrev pub IsLastAtEnd : List (ServerStream R W) → Type 0
    IsLastAtEnd [] = Unit {0}
    IsLastAtEnd (stream ∷ []) = IsAtEnd (remaining stream.reader)
    IsLastAtEnd (stream ∷ next ∷ more) = IsLastAtEnd (next ∷ more)

  module _ (remaining : R → Option (List ℕ)) (client : ℕ) where
    -- since a connection was made, these outcomes came over it, one whole frame each, in order, the first of
    -- the request with this number, each other of the next one; and then the rest
    abbrev pub Brings : ℕ → List AskOutcome → List ℕ → ServerStream R W → ServerStream R W → Type 0
    Brings first outcomes rest made last = Consumes (remaining made.reader) (remaining last.reader)
        (flat_map spelling (outcome_frames client first outcomes) ++ rest)

    -- the same of connections that were made one after another, and were left so
    abbrev pub AllBring : ℕ → List AskOutcome → List (ServerStream R W) → List (ServerStream R W) → Type 0
    AllBring first outcomes [] [] = outcomes ≡ []
    AllBring first outcomes [] (last ∷ left) = ⊥
    AllBring first outcomes (stream ∷ made) [] = ⊥
    AllBring first outcomes (stream ∷ made) (last ∷ left) = (now later : List AskOutcome) × (rest : List ℕ)
        × (outcomes ≡ now ++ later) × Brings first now rest stream last
        × AllBring (first + length now) later made left

    -- a dialer made the first of its connections, they brought these outcomes, and they were left as this says
    abbrev pub BringsAll : (List (ServerStream R W) → Type 0) → Option (DialerStreams R W) → Option (DialerStreams R W)
        → ℕ → List AskOutcome → Type 0
    BringsAll Left old new first outcomes = IfSome old (λ streams. (made left coming : List (ServerStream R W))
        × (streams.coming ≡ made ++ coming) × (new ≡ Some (record { coming = coming; left = streams.left ++ left }))
        × AllBring first outcomes made left × Left left)
