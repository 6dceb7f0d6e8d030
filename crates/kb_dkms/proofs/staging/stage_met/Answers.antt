-- By its kind.
use Rattle.std.proofs.Common.{ap, sym, ◌∙◌, inl, inr}
use Rattle.kb_world.specs.Tree.{node_at}
use Rattle.kb_walk.specs.Walking.{is_leaf_kind}
use Rattle.kb_walk.proofs.CopyCalls.{file_met, link_met}
use Rattle.kb_dkms.proofs.StageLaws.{leaf_staged, none_of_it, sources_nothing}
use Rattle.kb_dkms.proofs.staging.stage_met.Goals as goal

pub stage_file_at-requires-clause-file : goal.stage_file_at-requires-clause-file
stage_file_at-requires-clause-file g c tree told = file_met (node_at tree c.args.met.now.path) c.in-File.len c.in-File.exec (sym (c.requires.met tree told).kind ∙ c.in-File.is)

pub stage_link_at-requires-clause-link : goal.stage_link_at-requires-clause-link
stage_link_at-requires-clause-link g c tree told = link_met (node_at tree c.args.met.now.path) (sym (c.requires.met tree told).kind ∙ c.in-Link.is)

pub returns-in-File : goal.returns-in-File
returns-in-File g c = leaf_staged c.args.met.now _ _ _ _ _ (ap is_leaf_kind c.in-File.is) c.stage_file_at.ensures

pub returns-in-Link : goal.returns-in-Link
returns-in-Link g c = leaf_staged c.args.met.now _ _ _ _ _ (ap is_leaf_kind c.in-Link.is) c.stage_link_at.ensures

pub returns-in-Absent : goal.returns-in-Absent
returns-in-Absent g c = none_of_it c.args.met.now _ _ _ _ _ (elim c.in-Absent.is [ inl is ↦ ap is_leaf_kind is | inr is ↦ ap is_leaf_kind is ]) (sources_nothing c.args.txn.now _)
