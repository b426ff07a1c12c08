-- Why a call answers that the device failed.
use Rattle.std.proofs.Common.{◌≡◌, ◌≤◌, ℕ, Bool, List, length, take, true, false, OnOk, OnErr, is_err, length-take, ap, arith, subst, inl, inr, Result, Ok, Err}
use Rattle.std.specs.Result.{IsErr, IsErrAnd}
use Rattle.sb_text.specs.declared.input.TheConstants.{READS}
use Rattle.sb_log.specs.LogFiles.{HasFailed}

-- the same file at an earlier time
pub failed_before : {Now Before : Type 0} (failed : Bool) (now before : List ℕ) → (Before → Now) → (Before → now ≡ before)
    → HasFailed failed Now now → HasFailed failed Before before
failed_before failed now before honest same h = elim h [
  | inl failed ↦ inl failed
  | inr long ↦ inr (λ there. subst (λ (l : List ℕ). READS ≤ length l) (same there) (long (honest there)))
]

-- a result that is a fault
pub err_is : {A E : Type 0} (result : Result A E) (fault : E) → IsErr result → IsErrAnd result (λ other. other ≡ fault) → result ≡ Err fault
err_is (Ok done) fault is same = absurd (cc)
err_is (Err other) fault is same = ap Err same

pub on_err : {A E : Type 0} (result : Result A E) (P : Type 0) → is_err result ≡ true → OnErr result P → P
on_err (Ok done) P was p = absurd (cc)
on_err (Err other) P was p = p

pub on_ok : {A E : Type 0} (result : Result A E) (P : Type 0) → is_err result ≡ false → OnOk result P → P
on_ok (Ok done) P was p = p
on_ok (Err other) P was p = absurd (cc)

-- the same file before it was cut
pub failed_before_cut : {Now Before : Type 0} (failed : Bool) (size : ℕ) (now before : List ℕ) → (Before → Now) → (Before → now ≡ take size before)
    → HasFailed failed Now now → HasFailed failed Before before
failed_before_cut failed size now before honest cut h = elim h [
  | inl failed ↦ inl failed
  | inr long ↦ inr (λ there. omega (arith, long (honest there), ap length (cut there), length-take size before))
]
