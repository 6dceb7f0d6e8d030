-- Steps from the front, and public trees.
use Rattle.std.proofs.Common.{◌≡◌, inl, inr, ◌+◌, Bool, true, false, not, cond, ◌&&◌, List, [], ◌∷◌, ◌++◌, map, length, nat_eq, refl, sym, ap, ◌∙◌, subst, Option, None, eq-eqb}
use Rattle.std.proofs.lemmas.Bool.{cases_Bool, and_from, and_cases, or_left}
use Rattle.kb_world.specs.Path.{Path, is_under}
use Rattle.kb_world.specs.Public.{is_public, is_loose, public_tree}
use Rattle.kb_world.specs.Script.{Script}
use Rattle.kb_world.specs.Tree.{Tree, node_at, is_dir}
use Rattle.kb_world.specs.TreeLaws.{same_tree}
use Rattle.kb_world.specs.declared.child.Request.{Request}
use Rattle.kb_world.specs.declared.roots.Roots.{Roots}
use Rattle.kb_world.specs.declared.tree.Node.{Node}
use Rattle.kb_world.proofs.PathLaws.{under-append}
use Rattle.kb_world.proofs.PublicLaws.{node_at-public_tree}
use Rattle.kb_changes.specs.Valid.{is_initrd, written_roots}
use Rattle.kb_again.proofs.EditLaws.{dir_is}
use Rattle.kb_again.proofs.Ends.{in_turn, is_under_one}
use Rattle.kb_again.proofs.Facts.{AreRoots, Lists, groups_of, is_open, is_beside, is_kept, IsValidUnder}
use Rattle.kb_again.proofs.Flat.{Act, to_drop, to_wipe, to_drop_dir, to_make, to_put, do_act, acts_of}
use Rattle.kb_again.proofs.FrontLaws.{in_turn-append, all_done}
use Rattle.kb_again.proofs.Kept.{SameOn, SameDirs, IsWhole}
use Rattle.kb_again.proofs.KeptLaws.{drops_whole, wipes_whole, drop_dir_whole, make_dir_whole, move_whole}
use Rattle.kb_again.proofs.PathLaws.{and_false}
use Rattle.kb_again.proofs.PlaceLaws.{initrd_child}
use Rattle.kb_again.proofs.RootLaws.{length_child}
use Rattle.kb_again.proofs.RunLaws.{left_same}
use Rattle.kb_again.proofs.Steps.{Step, act, run, do_step, do_steps, steps_of, run_request, after_runs, after_all, IsBehind}
use Rattle.kb_again.proofs.ValidLaws.{not_false}
use Rattle.kb_again.proofs.WriteLaws.{run_whole}

change_whole : (c : Act) (t : Tree) → IsWhole t → IsWhole (do_act c t)
change_whole (to_drop p) t whole = drops_whole (p ∷ []) t whole
change_whole (to_wipe p) t whole = wipes_whole (p ∷ []) t whole
change_whole (to_drop_dir p) t whole = drop_dir_whole p t whole
change_whole (to_make p) t whole = make_dir_whole p t whole
change_whole (to_put staged target) t whole = move_whole (staged, target) t whole

pub turn_map : {A B : Type 0} (h : A → B) (k : B → Tree → Tree) (xs : List A) (t : Tree)
    → in_turn k (map h xs) t ≡ in_turn (λ x. k (h x)) xs t
turn_map h k [] t = refl
turn_map h k (x ∷ xs) t = turn_map h k xs (k (h x) t)

pub steps_all : (f : Script) (r : Roots) (s : Lists) (rs : List Request) (t : Tree)
    → do_steps f r (map act (acts_of (groups_of r s)) ++ map run rs) t ≡ after_runs f r s rs t
steps_all f r s rs t =
    in_turn-append (do_step f r) (map act (acts_of (groups_of r s))) (map run rs) t
    ∙ turn_map run (do_step f r) rs (do_steps f r (map act (acts_of (groups_of r s))) t)
    ∙ ap (in_turn (run_request f r) rs) (turn_map act (do_step f r) (acts_of (groups_of r s)) t ∙ all_done (groups_of r s) t)

-- ---- public trees

hidden_there : (r : Roots) (v : Tree) (q : Path) → is_public r q (node_at v q) ≡ false → node_at (public_tree r v) q ≡ None
hidden_there r v q h = node_at-public_tree r v q ∙ ap (λ b. cond b (node_at v q) None) h

shown_alike : (r : Roots) (t u : Tree) (q : Path) → node_at t q ≡ node_at u q → node_at (public_tree r t) q ≡ node_at (public_tree r u) q
shown_alike r t u q e = node_at-public_tree r t q ∙ ap (λ o. cond (is_public r q o) o None) e ∙ sym (node_at-public_tree r u q)

no_second : (a c : Bool) → ((a && false) && c) ≡ false
no_second true c = refl
no_second false c = refl

-- an initrd's file or link lies loose in the boot root
initrd_loose : (r : Roots) (q : Path) (o : Option Node) → is_initrd r q ≡ true → is_dir o ≡ false → is_loose r q o ≡ true
initrd_loose r q o is file =
    let w = initrd_child r q is in
    let under : is_under q r.boot ≡ true = subst (λ x. is_under x r.boot ≡ true) (sym w.1) (under-append r.boot (w.0 ∷ [])) in
    let deep : nat_eq (length q) (length r.boot + 1) ≡ true =
    eq-eqb (length q) (length r.boot + 1) (ap length w.1 ∙ length_child r.boot w.0) in
    and_from _ _ (and_from _ _ under deep) (ap not file)

pub public_same : (r : Roots) (t u : Tree) → SameOn (is_kept r) t u → SameDirs (is_beside r) t u → public_tree r t ≡ public_tree r u
public_same r t u same dirs = same_tree _ _ (λ q.
    let written = is_under_one (written_roots r) q in
    let beyond : (v : Tree) → written ≡ false → node_at (public_tree r v) q ≡ None =
    λ v out. hidden_there r v q (ap (λ b. (b && is_open r q) && not (is_loose r q (node_at v q))) out) in
    let none : (v : Tree) → is_open r q ≡ false → node_at (public_tree r v) q ≡ None = λ v out.
    hidden_there r v q
    (ap (λ b. (written && b) && not (is_loose r q (node_at v q))) out ∙ no_second written (not (is_loose r q (node_at v q)))) in
    let loose : (v : Tree) → is_loose r q (node_at v q) ≡ true → node_at (public_tree r v) q ≡ None = λ v is.
    hidden_there r v q (ap (λ b. (written && is_open r q) && not b) is ∙ and_false (written && is_open r q)) in
    elim (cases_Bool (is_kept r q)) [
      | inl is ↦ shown_alike r t u q (same q is)
      | inr out ↦ elim (and_cases written (is_open r q && not (is_initrd r q)) out) [
        | inl outside ↦ beyond t outside ∙ sym (beyond u outside)
        | inr inner ↦ elim (and_cases (is_open r q) (not (is_initrd r q)) inner) [
          | inl private_one ↦ none t private_one ∙ sym (none u private_one)
          | inr beside ↦
              let is = not_false _ beside in
              let alike = dirs q (or_left _ _ is) in
              elim (cases_Bool (is_dir (node_at t q))) [
                | inl dir ↦ shown_alike r t u q (dir_is _ dir ∙ sym (dir_is _ (sym alike ∙ dir)))
                | inr file ↦
                    loose t (initrd_loose r q (node_at t q) is file) ∙ sym (loose u (initrd_loose r q (node_at u q) is (sym alike ∙ file)))
              ]
        ]
      ]
    ])

pub public_left : (f : Script) (r : Roots) (s : Lists) (t u : Tree) → AreRoots r → IsValidUnder r s → IsWhole t → IsWhole u
    → IsBehind f r s t u
    → public_tree r (do_steps f r (steps_of r s) u) ≡ public_tree r (do_steps f r (steps_of r s) t)
public_left f r s t u roots valid whole whole_u left =
    let same = left_same r s roots valid f t u whole whole_u left in
    ap (public_tree r) (steps_all f r s s.runs u)
    ∙ sym (public_same r (after_all f r s t) (after_all f r s u) same.0 same.1)
    ∙ sym (ap (public_tree r) (steps_all f r s s.runs t))

-- steps leave a tree whole
pub step_whole : (f : Script) (r : Roots) (x : Step) (t : Tree) → IsWhole t → IsWhole (do_step f r x t)
step_whole f r (act c) t whole = change_whole c t whole
step_whole f r (run c) t whole = run_whole f r c t whole
