-- Trees that are alike but for the journal have one public and one foreign tree, since the journal is private.
use Rattle.std.proofs.Common.{◌≡◌, Bool, true, false, cond, not, ◌&&◌, Option, None, inl, inr, refl, sym, ap, ◌∙◌}
use Rattle.std.proofs.lemmas.Bool.{cases_Bool, false_from_ne_true, or_left}
use Rattle.kb_world.specs.Path.{Path}
use Rattle.kb_world.specs.Public.{is_private, is_public, is_loose, public_tree, foreign_tree}
use Rattle.kb_world.specs.Tree.{Tree, node_at}
use Rattle.kb_world.specs.TreeLaws.{same_tree}
use Rattle.kb_world.specs.declared.roots.Roots.{Roots}
use Rattle.kb_world.specs.declared.tree.Node.{Node}
use Rattle.kb_world.proofs.PublicLaws.{node_at-public_tree, node_at-foreign_tree}
use Rattle.kb_changes.specs.Valid.{written_roots}
use Rattle.kb_again.specs.Unseen.{is_shown, AreAlike}
use Rattle.kb_again.proofs.Ends.{is_under_one}
use Rattle.kb_again.proofs.FactLaws.{untouched_is}
use Rattle.kb_again.proofs.PathLaws.{and_false}
use Rattle.kb_again.proofs.RootLaws.{untouched_private}

-- what isn't private is shown
open_shown : (r : Roots) (q : Path) → is_private r q ≡ false → is_shown r q ≡ true
open_shown r q out = ap not (sym (untouched_is r q) ∙ false_from_ne_true _ (λ under. is_not (or_left _ _ (untouched_private r q under))))
  where
    is_not : is_private r q ≡ true → ⊥
    is_not is = let both : true ≡ false = sym is ∙ out in cc

no_second : (a c : Bool) → ((a && false) && c) ≡ false
no_second true c = refl
no_second false c = refl

-- a private path is neither public nor foreign
no_public : (r : Roots) (q : Path) (at : Option Node) → is_private r q ≡ true → is_public r q at ≡ false
no_public r q at is =
    ap (λ b. (is_under_one (written_roots r) q && not b) && not (is_loose r q at)) is
    ∙ no_second (is_under_one (written_roots r) q) (not (is_loose r q at))

no_foreign : (r : Roots) (q : Path) (at : Option Node) → is_private r q ≡ true → (not (is_public r q at) && not (is_private r q)) ≡ false
no_foreign r q at is = ap (λ b. not (is_public r q at) && not b) is ∙ and_false (not (is_public r q at))

pub alike_parts : (r : Roots) (a b : Tree) → AreAlike r a b → (public_tree r a ≡ public_tree r b) × (foreign_tree r a ≡ foreign_tree r b)
alike_parts r a b alike = (same_tree _ _ public, same_tree _ _ foreign)
  where
    is_foreign : Path → Option Node → Bool
    is_foreign q at = not (is_public r q at) && not (is_private r q)

    public : (q : Path) → node_at (public_tree r a) q ≡ node_at (public_tree r b) q
    public q = node_at-public_tree r a q ∙ elim (cases_Bool (is_private r q)) [
      | inl is ↦
          ap (λ t. cond t (node_at a q) None) (no_public r q (node_at a q) is)
          ∙ sym (ap (λ t. cond t (node_at b q) None) (no_public r q (node_at b q) is))
      | inr out ↦ ap (λ at. cond (is_public r q at) at None) (alike.shown q (open_shown r q out))
    ] ∙ sym (node_at-public_tree r b q)

    foreign : (q : Path) → node_at (foreign_tree r a) q ≡ node_at (foreign_tree r b) q
    foreign q = node_at-foreign_tree r a q ∙ elim (cases_Bool (is_private r q)) [
      | inl is ↦
          ap (λ t. cond t (node_at a q) None) (no_foreign r q (node_at a q) is)
          ∙ sym (ap (λ t. cond t (node_at b q) None) (no_foreign r q (node_at b q) is))
      | inr out ↦ ap (λ at. cond (not (is_public r q at) && not (is_private r q)) at None) (alike.shown q (open_shown r q out))
    ] ∙ sym (node_at-foreign_tree r b q)
