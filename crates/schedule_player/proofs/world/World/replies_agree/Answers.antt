use Rattle.schedule_player.proofs.observers.SameAnswers.{same_answers}
use Rattle.schedule_player.proofs.world.World.replies_agree.Goals as goal

pub returns : goal.returns
returns c = record {
  agree =
      c.have_same_reply.ensures.1
      (same_answers c.args.self.now c.args.a c.args.b c.args.number c.reply.result c.reply-2.result c.reply.ensures.value c.reply-2.ensures.value);
}
