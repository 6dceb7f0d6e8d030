use Rattle.std.proofs.Common.{◌≡◌, ◌++◌, take}
use Rattle.kb_dkms.specs.Commit.{endings}
use Rattle.kb_dkms.proofs.scripts.push_endings.Given as goal

abbrev pub invariant-loop-reply : goal.invariant-loop-reply
invariant-loop-reply l = l.err ≡ l.initial.err ++ endings l.which (take l.reply-index l.replies)
