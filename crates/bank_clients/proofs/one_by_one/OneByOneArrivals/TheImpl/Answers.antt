use Rattle.std.proofs.Common.{Option, Some, None, refl}
use Rattle.std.specs.Prelude.{IfNone, IfSome}
use Rattle.bank_clients.proofs.one_by_one.OneByOneArrivals.TheImpl.Goals as goal

if_some : {A : Type 0} (P : A → Type 0) → ((a : A) → P a) → (o : Option A) → IfSome o P
if_some P each None = tt
if_some P each (Some a) = each a

if_none : {A : Type 0} (P : Type 0) → P → (o : Option A) → IfNone o P
if_none P is None = is
if_none P is (Some a) = tt

-- nothing is known of what comes
pub next-tells : goal.next-tells
next-tells g c = record {
  within = c.ensures.within;
  next = if_some _ (λ arrival. tt) c.result;
  one = if_some _ (λ arrival. tt) c.result;
  none = if_none _ (refl, tt) c.result;
  outgoing = refl;
}
