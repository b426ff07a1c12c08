use Rattle.std.proofs.Common.{◌≡◌, ◌≤◌, ◌<◌, ◌+◌, ◌++◌, ℕ, List, true≢false, length, take, drop, refl, sym, ap, subst, ◌∙◌, arith, rules, length-take, inr}
use Rattle.sha2.specs.Hashers.{Holds256}
use Rattle.sha2.specs.Sha256.{sha256}
use Rattle.sb_log.proofs.Counts.{IsBlank}
use Rattle.sb_log.proofs.Failures.{failed_before}
use Rattle.sb_log.proofs.Fronts.{StatesNone, all_read, all_there, bad_digest, first_read, no_record_stated, none_stated, not_torn_stated, second_read, stated, too_few, whole}
use Rattle.sb_log.proofs.Records.{longer_holds}
use Rattle.sb_log.proofs.front.read_front.Goals as goal

pub returns-in_err-size-clause-device : goal.returns-in_err-size-clause-device
returns-in_err-size-clause-device g c err =
    failed_before _ _ _ c.read_at.ensures.file.honest.0 c.read_at.ensures.file.content_is (c.in_err-size.ensures.device (search (rules, err)))

pub returns-in_err-size-2-clause-device : goal.returns-in_err-size-2-clause-device
returns-in_err-size-2-clause-device g c err =
    failed_before _ _ _ c.read_at.ensures.file.honest.0 c.read_at.ensures.file.content_is
    (failed_before _ _ _ c.read_at-2.ensures.file.honest.0 c.read_at-2.ensures.file.content_is (c.in_err-size-2.ensures.device (search (rules, err))))

pub returns-then-blank-clause-front : goal.returns-then-blank-clause-front
returns-then-blank-clause-front g c honest before holds =
    let content = (g.F.LogFile.model c.args.file.now).content in
    let rest = drop c.args.at content in
    let first : c.deref.result.now ≡ take 40 rest =
    first_read content c.clear.new.self.items c.read_at.new.out.items c.deref.result.now c.args.at c.clear.ensures.items
    (c.in_ok-read_at.ensures.read honest) c.deref.ensures.value in
    let none : StatesNone rest = none_stated rest c.deref.result.now first c.in_default.ensures in
    let same : drop c.args.at (g.F.LogFile.model c.read_at.new.self).content ≡ rest = ap (drop c.args.at) (c.read_at.ensures.file.content_is honest) in
    let there = c.read_at.ensures.file.honest.0 honest in (
      inr (subst IsBlank same ((c.in_ok-size.ensures.blank there).0 c.if-blank.true)),
      c.in_ok-size.ensures.size there ∙ ap length same,
      no_record_stated before rest none,
      holds,
    )

pub returns-else-blank-clause-front : goal.returns-else-blank-clause-front
returns-else-blank-clause-front g c honest before holds =
    let content = (g.F.LogFile.model c.args.file.now).content in
    let rest = drop c.args.at content in
    let first : c.deref.result.now ≡ take 40 rest =
    first_read content c.clear.new.self.items c.read_at.new.out.items c.deref.result.now c.args.at c.clear.ensures.items
    (c.in_ok-read_at.ensures.read honest) c.deref.ensures.value in
    let none : StatesNone rest = none_stated rest c.deref.result.now first c.in_default.ensures in
    let same : drop c.args.at (g.F.LogFile.model c.read_at.new.self).content ≡ rest = ap (drop c.args.at) (c.read_at.ensures.file.content_is honest) in
    let there = c.read_at.ensures.file.honest.0 honest in (
      not_torn_stated rest none
          (λ blank. true≢false (sym ((c.in_ok-size.ensures.blank there).1 (subst IsBlank (sym same) blank)) ∙ c.if-blank.false)),
      c.in_ok-size.ensures.size there ∙ ap length same,
      no_record_stated before rest none,
    )

pub returns-then-len-lt-HEAD-clause-front : goal.returns-then-len-lt-HEAD-clause-front
returns-then-len-lt-HEAD-clause-front g c honest before holds =
    let content = (g.F.LogFile.model c.args.file.now).content in
    let rest = drop c.args.at content in
    let read = c.deref.result.now in
    let first : read ≡ take 40 rest =
    first_read content c.clear.new.self.items c.read_at.new.out.items read c.args.at c.clear.ensures.items
    (c.in_ok-read_at.ensures.read honest) c.deref.ensures.value in
    let begins = stated rest read c.in-Some.size first c.in-Some.ensures in
    let len : c.len-then-len-lt-HEAD.result ≡ length read =
    c.len-then-len-lt-HEAD.ensures ∙ c.read_at.new.out.ok.0 ∙ ap length (sym c.deref.ensures.value) in
    let few : length read < 40 = omega (arith, len, c.len.ensures, c.len-then-len-lt-HEAD.ensures) in
    let all : length read ≡ length rest = all_read rest read 40 first few in
    let torn = too_few before rest c.in-Some.size (omega arith) begins (omega (arith, all, few)) in
    (torn.0, len ∙ all, torn.1, holds)

pub returns-then-len-size-clause-front : goal.returns-then-len-size-clause-front
returns-then-len-size-clause-front g c honest before holds =
    let content = (g.F.LogFile.model c.args.file.now).content in
    let rest = drop c.args.at content in
    let size = c.in-Some.size in
    let first : c.deref.result.now ≡ take 40 rest =
    first_read content c.clear.new.self.items c.read_at.new.out.items c.deref.result.now c.args.at c.clear.ensures.items
    (c.in_ok-read_at.ensures.read honest) c.deref.ensures.value in
    let begins = stated rest c.deref.result.now size first c.in-Some.ensures in
    let read = c.read_at-2.new.out.items in
    let bytes : read ≡ take (40 + size) rest =
    second_read content (g.F.LogFile.model c.read_at.new.self).content c.read_at.new.out.items read read c.args.at size
    (c.read_at.ensures.file.content_is honest) (sym c.deref.ensures.value ∙ first)
    (c.in_ok-read_at-2.ensures.read (c.read_at.ensures.file.honest.0 honest)) refl in
    let len : c.len-then-len-size.result ≡ length read = c.len-then-len-size.ensures ∙ c.read_at-2.new.out.ok.0 in
    let few : length read < 40 + size = omega (arith, len, c.len-2.ensures, c.len-then-len-size.ensures) in
    let all : length read ≡ length rest = all_read rest read (40 + size) bytes few in
    let torn = too_few before rest size (omega arith) begins (omega (arith, all, few)) in
    (torn.0, len ∙ all, torn.1, holds)

pub returns-then-not-are_same-clause-front : goal.returns-then-not-are_same-clause-front
returns-then-not-are_same-clause-front g c honest before holds =
    let content = (g.F.LogFile.model c.args.file.now).content in
    let rest = drop c.args.at content in
    let size = c.in-Some.size in
    let first : c.deref.result.now ≡ take 40 rest =
    first_read content c.clear.new.self.items c.read_at.new.out.items c.deref.result.now c.args.at c.clear.ensures.items
    (c.in_ok-read_at.ensures.read honest) c.deref.ensures.value in
    let begins = stated rest c.deref.result.now size first c.in-Some.ensures in
    let read = c.read_at-2.new.out.items in
    let bytes : read ≡ take (40 + size) rest =
    second_read content (g.F.LogFile.model c.read_at.new.self).content c.read_at.new.out.items read read c.args.at size
    (c.read_at.ensures.file.content_is honest) (sym c.deref.ensures.value ∙ first)
    (c.in_ok-read_at-2.ensures.read (c.read_at.ensures.file.honest.0 honest)) refl in
    let head : 40 ≤ length rest =
    all_there rest c.deref.result.now 40 first (omega
    (arith, c.len.ensures, c.read_at.new.out.ok.0, ap length c.deref.ensures.value, c.if-len-lt-HEAD.false)) in
    let long = all_there rest read (40 + size) bytes
    (omega (arith, head, ap length bytes, length-take (40 + size) rest, c.len-2.ensures, c.read_at-2.new.out.ok.0, c.if-len-size.false)) in
    let longer = longer_holds c.deref-2.result.now c.with_body-longer.result before (c.with_body-longer.ensures before holds) in
    let digest : c.digest_of-digest.result ≡ sha256 (before ++ drop 40 read) =
    c.digest_of-digest.ensures (before ++ drop 40 c.deref-2.result.now) longer ∙ ap (λ (l : List ℕ). sha256 (before ++ drop 40 l)) c.deref-2.ensures.value in
    let bad = bad_digest before rest read size bytes long (omega arith) begins
    (λ same.
    true≢false (sym (c.are_same.ensures.1 (ap (λ (l : List ℕ). take 32 (drop 8 l)) c.deref-3.ensures.value ∙ same ∙ sym digest)) ∙ c.if-not-are_same.true)) in
    let same : drop c.args.at (g.F.LogFile.model c.read_at-2.new.self).content ≡ rest =
    ap (drop c.args.at) (c.read_at-2.ensures.file.content_is (c.read_at.ensures.file.honest.0 honest) ∙ c.read_at.ensures.file.content_is honest) in
    let there = c.read_at-2.ensures.file.honest.0 (c.read_at.ensures.file.honest.0 honest) in
    (bad.0, c.in_ok-size-2.ensures.size there ∙ ap length same, bad.1)

pub returns-clause-front : goal.returns-clause-front
returns-clause-front g c honest before holds =
    let content = (g.F.LogFile.model c.args.file.now).content in
    let rest = drop c.args.at content in
    let size = c.in-Some.size in
    let first : c.deref.result.now ≡ take 40 rest =
    first_read content c.clear.new.self.items c.read_at.new.out.items c.deref.result.now c.args.at c.clear.ensures.items
    (c.in_ok-read_at.ensures.read honest) c.deref.ensures.value in
    let begins = stated rest c.deref.result.now size first c.in-Some.ensures in
    let read = c.read_at-2.new.out.items in
    let bytes : read ≡ take (40 + size) rest =
    second_read content (g.F.LogFile.model c.read_at.new.self).content c.read_at.new.out.items read read c.args.at size
    (c.read_at.ensures.file.content_is honest) (sym c.deref.ensures.value ∙ first)
    (c.in_ok-read_at-2.ensures.read (c.read_at.ensures.file.honest.0 honest)) refl in
    let head : 40 ≤ length rest =
    all_there rest c.deref.result.now 40 first (omega
    (arith, c.len.ensures, c.read_at.new.out.ok.0, ap length c.deref.ensures.value, c.if-len-lt-HEAD.false)) in
    let long = all_there rest read (40 + size) bytes
    (omega (arith, head, ap length bytes, length-take (40 + size) rest, c.len-2.ensures, c.read_at-2.new.out.ok.0, c.if-len-size.false)) in
    let longer = longer_holds c.deref-2.result.now c.with_body-longer.result before (c.with_body-longer.ensures before holds) in
    let digest : c.digest_of-digest.result ≡ sha256 (before ++ drop 40 read) =
    c.digest_of-digest.ensures (before ++ drop 40 c.deref-2.result.now) longer ∙ ap (λ (l : List ℕ). sha256 (before ++ drop 40 l)) c.deref-2.ensures.value in
    let found = whole before rest read size bytes long (omega arith) begins
    (ap (λ (l : List ℕ). take 32 (drop 8 l)) (sym c.deref-3.ensures.value) ∙ c.are_same.ensures.0 c.if-not-are_same.false ∙ digest) in (
      drop 40 read,
      drop (40 + size) rest,
      found.0,
      found.1,
      found.2,
      subst (λ (l : List ℕ). Holds256 c.with_body-longer.result
          (before ++ drop 40 l)) c.deref-2.ensures.value longer,
    )

pub returns-clause-hasher : goal.returns-clause-hasher
returns-clause-hasher g c before holds =
    let longer = longer_holds c.deref-2.result.now c.with_body-longer.result before (c.with_body-longer.ensures before holds) in
    subst (λ (l : List ℕ). Holds256 c.with_body-longer.result (before ++ drop 40 l)) c.deref-2.ensures.value longer
