-- The texts of replies.
use Rattle.std.specs.Prelude.{ℕ, List, ◌++◌, codes}
use Rattle.sb_amount.specs.Money.{money}
use Rattle.sb_calls.specs.declared.reply.Reply.{Reply}
use Rattle.sb_calls.specs.declared.reply.Reply.TheVariants.{Shown, Done, Penalised, NoCustomer, SameCustomer, Negative, WouldOverdraw, OverLimit}

-- the text of a reply
abbrev pub reply_text : Reply → List ℕ
reply_text (Shown total) = codes "shown " ++ money total
reply_text Done = codes "done"
reply_text Penalised = codes "penalised"
reply_text NoCustomer = codes "no customer"
reply_text SameCustomer = codes "same customer"
reply_text Negative = codes "negative"
reply_text WouldOverdraw = codes "would overdraw"
reply_text OverLimit = codes "over limit"
