-- Each reply adds its line.
use Rattle.std.proofs.Common.{arith}
use Rattle.kb_dkms.proofs.ScriptLaws.{one_ending_more}
use Rattle.kb_dkms.proofs.scripts.push_endings.Goals as goal

pub loop-reply-preserved : goal.loop-reply-preserved
loop-reply-preserved c =
    one_ending_more c.args.which.now c.args.replies.now c.loop-reply.reply-index c.reply-item.result c.reply-item.result c.loop-reply.err c.args.err.now c.push_ended.new.err (omega arith) c.reply-item.is
    c.loop-reply.invariant c.in_ok-push_ended.ensures
