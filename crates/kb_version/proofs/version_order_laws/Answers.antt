use Rattle.kb_version.specs.OrderLaws.{version_order_total, version_order_exact}
use Rattle.kb_version.proofs.version_order_laws.Goals as goal

pub returns-clause-total : goal.returns-clause-total
returns-clause-total c = version_order_total

pub returns-clause-exact : goal.returns-clause-exact
returns-clause-exact c = version_order_exact

pub returns-clause-swapped : goal.returns-clause-swapped
returns-clause-swapped c a b = version_order_total.antisymm b a

pub returns-clause-transitive : goal.returns-clause-transitive
returns-clause-transitive c a b other = version_order_total.trans a b other
