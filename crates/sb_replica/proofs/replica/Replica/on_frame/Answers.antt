use Rattle.std.proofs.Common.{refl, sym, ◌∙◌}
use Rattle.sb_replica.proofs.replica.Replica.on_frame.Goals as goal

pub returns-in-Err : goal.returns-in-Err
returns-in-Err g c = record { outcome = (sym c.whole_frame.ensures ∙ c.in-Err.is, refl) }

pub returns-in-Ok-receive_decoded : goal.returns-in-Ok-receive_decoded
returns-in-Ok-receive_decoded g c = record {
  outcome = record {
    frame = c.in-Ok.frame;
    whole = sym c.whole_frame.ensures ∙ c.in-Ok.is;
    answer_is = c.in-Ok-receive_decoded.ensures.answer;
    after = c.in-Ok-receive_decoded.ensures.state;
  };
}

pub returns-in-Err-receive_decoded : goal.returns-in-Err-receive_decoded
returns-in-Err-receive_decoded g c =
    let refused = c.in-Err-receive_decoded.ensures in
    record { outcome = ((c.in-Ok.frame, refused.err.0, sym c.whole_frame.ensures ∙ c.in-Ok.is, refused.err.1), refused.state) }
