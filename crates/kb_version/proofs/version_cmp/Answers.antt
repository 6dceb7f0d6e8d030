use Rattle.std.proofs.Common.{◌≡◌, rules, ◌∙◌, sym, subst}
use Rattle.std.proofs.lemmas.Cmp.{tied_itself}
use Rattle.std.specs.declared.cmp.Ordering.TheVariants.{Equal}
use Rattle.kb_version.specs.Order.{version_order}
use Rattle.kb_version.specs.OrderLaws.{version_order_total, version_order_exact}
use Rattle.kb_version.proofs.version_cmp.Goals as goal

pub returns-clause-equal : goal.returns-clause-equal
returns-clause-equal c =
    let order : c.then_with.result ≡ version_order c.args.a.now c.args.b.now = search rules in (
      λ e. version_order_exact c.args.a.now c.args.b.now (sym order ∙ e),
      λ e. order ∙ subst (λ t. version_order c.args.a.now t ≡ Equal) e (tied_itself version_order_total c.args.a.now),
    )
