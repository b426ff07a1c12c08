-- Each word is that of the reply.
use Rattle.sb_calls.proofs.text.printing.write_reply.Goals as goal

pub returns-in-Done : goal.returns-in-Done
returns-in-Done c = rw c.in-Done.is c.write_word-in-Done.ensures

pub returns-in-Penalised : goal.returns-in-Penalised
returns-in-Penalised c = rw c.in-Penalised.is c.write_word-in-Penalised.ensures

pub returns-in-NoCustomer : goal.returns-in-NoCustomer
returns-in-NoCustomer c = rw c.in-NoCustomer.is c.write_word-in-NoCustomer.ensures

pub returns-in-SameCustomer : goal.returns-in-SameCustomer
returns-in-SameCustomer c = rw c.in-SameCustomer.is c.write_word-in-SameCustomer.ensures

pub returns-in-Negative : goal.returns-in-Negative
returns-in-Negative c = rw c.in-Negative.is c.write_word-in-Negative.ensures

pub returns-in-WouldOverdraw : goal.returns-in-WouldOverdraw
returns-in-WouldOverdraw c = rw c.in-WouldOverdraw.is c.write_word-in-WouldOverdraw.ensures

pub returns-in-OverLimit : goal.returns-in-OverLimit
returns-in-OverLimit c = rw c.in-OverLimit.is c.write_word-in-OverLimit.ensures
