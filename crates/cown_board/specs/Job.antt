-- What a board hands out and takes back.
use Rattle.std.specs.Prelude.{ℕ, ℤ, List}
use Rattle.sb_calls.specs.declared.reply.Reply.{Reply}

-- a job: a behaviour, its number, and the contents of its cowns
pub record JobOf (B : Type 0) : Type 0 where
  pub number : ℕ
  pub behaviour : B
  pub inputs : List ℤ

-- the result of a job: also the reply, and what the behaviour left in its cowns
pub record DoneOf (B : Type 0) : Type 0 where
  pub number : ℕ
  pub behaviour : B
  pub inputs : List ℤ
  pub reply : Reply
  pub outputs : List ℤ
