use Rattle.std.proofs.Common.{◌≡◌, ◌+◌, ◌∙◌, List, ℕ, ap, arith, length, min, sym, take}
use Rattle.std.proofs.lemmas.List.{take_min}
use Rattle.sb_calls.specs.declared.ask.Key.{Key}
use Rattle.sb_calls.specs.declared.call.Call.{Call}
use Rattle.sb_ask_log.specs.MemoryLog.{bytes_of_asks}
use Rattle.sb_ask_log.proofs.MemoryLogs.{no_bytes, size_one_more}
use Rattle.sb_ask_log.proofs.memory_log.size_of_first.Goals as goal

pub loop-before-init : goal.loop-before-init
loop-before-init c = (sym no_bytes, omega arith)

pub overflow_add-size-in-loop-before-2 : goal.overflow_add-size-in-loop-before-2
overflow_add-size-in-loop-before-2 c =
    omega (
      arith,
      c.loop-before.invariant.1,
      c.loop-before-test.true,
      c.min-before-end.ensures,
      c.length.ensures.value,
      c.length.ensures.valid.limit,
      c.len.ensures.fits,
    )

pub loop-before-preserved : goal.loop-before-preserved
loop-before-preserved c = (
  ap (λ (n : ℕ). c.loop-before.size + (40 + n)) c.len.ensures.value
      ∙ size_one_more c.args.log.now.log c.loop-before.before c.loop-before.size c.unwrap-call.result c.encode-body.result.items
      (omega (arith, c.loop-before-test.true, c.min-before-end.ensures, c.length.ensures.value)) (sym c.ask_of.ensures ∙ c.unwrap-call.ensures)
      (record { valid = c.encode-body.ensures.valid; spelled = c.encode-body.ensures.spelled }) c.loop-before.invariant.0,
  omega (arith, c.loop-before.invariant.1, c.len.ensures.fits),
)

pub returns : goal.returns
returns c =
    let log = c.args.log.now.log in
    let all : c.loop-before.before ≡ min c.args.count (length log) =
    omega (arith, c.loop-before-test.false, c.loop-before.auto.before-end, c.min-before-end.ensures, c.length.ensures.value) in
    c.loop-before.invariant.0 ∙ ap (λ (n : ℕ). length (bytes_of_asks (take n log))) all
    ∙ ap (λ (l : List (Key × Call)). length (bytes_of_asks l)) (take_min c.args.count log)
