use Rattle.std.proofs.Common.{◌≡◌, ◌+◌, ◌-◌, arith, append_assoc}
use Rattle.sb_amount.proofs.MoneyLengths.{length-unsigned_money}
use Rattle.sb_amount.proofs.printing.write_size.Goals as goal

pub overflow_sub-end : goal.overflow_sub-end
overflow_sub-end c = omega (arith, length-unsigned_money c.args.size)

pub write_decimals-requires-clause-room : goal.write_decimals-requires-clause-room
write_decimals-requires-clause-room c = omega (arith, length-unsigned_money c.args.size)

pub overflow_sub-end-2 : goal.overflow_sub-end-2
overflow_sub-end-2 c = omega (arith, length-unsigned_money c.args.size)

pub write_digits-requires : goal.write_digits-requires
write_digits-requires c = omega (arith, length-unsigned_money c.args.size)

pub returns-clause-start : goal.returns-clause-start
returns-clause-start c = omega (arith, length-unsigned_money c.args.size)

pub returns-clause-written : goal.returns-clause-written
returns-clause-written c =
    let long = length-unsigned_money c.args.size in
    let e : c.args.end - 3 + 3 ≡ c.args.end = omega arith in
    rw (c.write_digits.ensures.written, c.write_decimals.ensures.written, e, append_assoc)
