use Rattle.std.proofs.Common.{sym, ◌∙◌}
use Rattle.kb_dkms.proofs.TreeConf.{refuses_directory, reads_directory, not_own}
use Rattle.kb_dkms.proofs.copying.load_tree_conf.Goals as goal

pub returns-then-is_no_source-clause-read : goal.returns-then-is_no_source-clause-read
returns-then-is_no_source-clause-read g c = refuses_directory c.args.job.now.host c.args.from.now c.in_ok-clone.field-0 c.args.given.now (g.W.World.state c.args.world.now) c.in_ok-clone.ensures.cases c.requires
    (sym c.is_no_source.ensures ∙ c.if-is_no_source.true)

pub returns-clause-read : goal.returns-clause-read
returns-clause-read g c = reads_directory c.args.job.now.host c.args.from.now c.args.given.now (g.W.World.state c.args.world.now) (g.W.World.state c.load_conf.new.world) c.load_conf.result c.requires
    (sym c.is_no_source.ensures ∙ c.if-is_no_source.false) c.load_conf.ensures.given

pub returns-clause-own : goal.returns-clause-own
returns-clause-own g c = not_own c.load_conf.result _ _ (sym c.is_no_source.ensures ∙ c.if-is_no_source.false)
