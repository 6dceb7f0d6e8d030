-- What a child's edits leave: they lie in its area, and a crash at any moment meanwhile leaves no more than its area lets.
use Rattle.std.proofs.Common.{◌≡◌, inl, inr, Bool, true, false, cond, ◌&&◌, ◌||◌, not, List, [], ◌∷◌, ◌++◌, Option, Some, None, IsTrue, refl, sym, ap, subst, ◌∙◌, append_assoc}
use Rattle.std.specs.List.{list_all}
use Rattle.std.specs.Cmp.{first_so, second_so}
use Rattle.kb_world.specs.Path.{Path, parent}
use Rattle.kb_world.specs.Area.{holds, lets_differ, IsLeft}
use Rattle.kb_world.specs.Crash.{Moment, IsImageOfOne}
use Rattle.kb_world.specs.Script.{can_edit, with_edit, after_edits}
use Rattle.kb_world.specs.Tree.{Tree, node_at, edited, is_dir, IsFormed}
use Rattle.kb_world.specs.declared.child.Area.{Area}
use Rattle.kb_world.specs.declared.child.Area.TheVariants as areas
use Rattle.kb_world.specs.declared.tree.Edit.{Edit}
use Rattle.kb_world.specs.declared.tree.Node.{Node}
use Rattle.kb_world.proofs.CrashLaws.{image-append}
use Rattle.kb_world.proofs.LeftLaws.{left_same, left_then, left_first, left_edit}
use Rattle.kb_disk.specs.Stored.{Stored, with_change, with_area, with_effect, with_effects}
use Rattle.kb_disk.proofs.EditLaws.{edited-formed}

never : (b : Bool) → b ≡ true → b ≡ false → ⊥
never b t f = let q : true ≡ false = sym t ∙ f in cc

turn : (b : Bool) → not b ≡ true → b ≡ false
turn true h = let q : false ≡ true = h in cc
turn false h = refl

-- ---- an edit that can be made keeps the tree formed

module _ (area : Area) (tree : Tree) (path : Path) (can : can_edit area tree path ≡ true) where
  pub inside : holds area tree path ≡ true
  inside = first_so (holds area tree path) _ (first_so (holds area tree path && not (is_dir (node_at tree path))) _ can)

  pub undirected : is_dir (node_at tree path) ≡ false
  undirected = turn (is_dir (node_at tree path)) (second_so (holds area tree path) _ (first_so (holds area tree path && not (is_dir (node_at tree path))) _ can))

  in_directory : is_dir (node_at tree (parent path)) ≡ true
  in_directory = second_so (holds area tree path && not (is_dir (node_at tree path))) _ can

  no_directory_here : IsTrue (is_dir (node_at tree path)) → ⊥
  no_directory_here dir = never (is_dir (node_at tree path)) dir undirected

  pub can_edit-formed : (at : Option Node) → IsFormed tree → IsFormed (edited path at tree)
  can_edit-formed at formed = edited-formed tree path at formed (record {
    below_root = λ is_root. no_directory_here (subst (λ p. IsTrue (is_dir (node_at tree p))) (ap parent is_root ∙ sym is_root) in_directory);
    in_directory = in_directory;
    empty = λ dir. absurd (no_directory_here dir);
  })

-- ---- and lies in the area, unless it puts a directory

-- it puts no directory
abbrev pub is_plain : Option Edit → Bool
is_plain None = true
is_plain (Some edit) = not (is_dir edit.at)

both : (a b : Bool) → a ≡ true → b ≡ true → a && b ≡ true
both true b ha hb = hb
both false b ha hb = ha

or_false : (b : Bool) → b ≡ true → b || false ≡ true
or_false true h = refl
or_false false h = h

pub lets : (area : Area) (tree : Tree) (path : Path) (at : Option Node) → holds area tree path ≡ true → is_dir at ≡ false → lets_differ area path (node_at tree path) at ≡ true
lets areas.Nothing tree path at h bare = h
lets (areas.Under directory) tree path at h bare = h
lets (areas.Names directory names) tree path at h bare = both _ (not (is_dir at)) h (ap not bare)

-- what an edit leaves
edit_left : (area : Area) (tree : Tree) (path : Path) (at : Option Node) → IsFormed tree → can_edit area tree path ≡ true → is_dir at ≡ false → IsLeft (area ∷ []) tree (edited path at tree)
edit_left area tree path at formed can bare =
    left_edit (area ∷ []) path at tree (can_edit-formed area tree path can at formed)
    (or_false (lets_differ area path (node_at tree path) at) (lets area tree path at (inside area tree path can) bare))

-- ---- one edit after another

-- A child with the area did something, and nothing else was done.
pub record IsWithin (area : Area) (was now : Stored) : Type 0 where
  pub left : IsLeft (area ∷ []) was.tree now.tree
  pub soft : now.history.soft ≡ area ∷ was.history.soft
  pub moments : List Moment
  pub added : now.history.past ≡ was.history.past ++ moments
  pub only : (image : Tree) → IsImageOfOne moments image → IsLeft (area ∷ was.history.soft) was.tree image
  pub inside : (image : Tree) → IsLeft (area ∷ was.history.soft) was.tree image → IsImageOfOne moments image

pub within_given : (area : Area) (was : Stored) → IsFormed was.tree → IsWithin area was (with_area area was)
within_given area was formed = record {
  left = left_same (area ∷ []) was.tree formed;
  soft = refl;
  moments = record { tree = was.tree; soft = area ∷ was.history.soft; putting = None } ∷ [];
  added = refl;
  only = λ image left. elim left [ inl now ↦ elim now [ inl is ↦ is | inr torn ↦ absurd torn ] | inr none ↦ absurd none ];
  inside = λ image left. inl (inl left);
}

module _ (area : Area) (was now : Stored) (within : IsWithin area was now) (path : Path) (at : Option Node) (can : can_edit area now.tree path ≡ true) (bare : is_dir at ≡ false) where
  -- what stands now may be left of what stood at first
  left_now : (image : Tree) → IsLeft now.history.soft now.tree image → IsLeft (area ∷ was.history.soft) was.tree image
  left_now image left =
      left_then (area ∷ was.history.soft) was.tree now.tree image (left_first area was.history.soft was.tree now.tree within.left)
      (subst (λ soft. IsLeft soft now.tree image) within.soft left)

  within_change : IsWithin area was (with_change (edited path at) now)
  within_change = record {
    left = left_then (area ∷ []) was.tree now.tree (edited path at now.tree) within.left (edit_left area now.tree path at within.left.formed can bare);
    soft = within.soft;
    moments = within.moments ++ record { tree = now.tree; soft = now.history.soft; putting = None } ∷ [];
    added = ap (λ past. past ++ record { tree = now.tree; soft = now.history.soft; putting = None } ∷ []) within.added ∙ append_assoc was.history.past within.moments (record { tree = now.tree; soft = now.history.soft; putting = None } ∷ []);
    only = λ image left. elim (image-append within.moments (record { tree = now.tree; soft = now.history.soft; putting = None } ∷ []) image left) [
      | inl before ↦ within.only image before
      | inr last ↦ elim last [ inl is ↦ elim is [ inl now_left ↦ left_now image now_left | inr torn ↦ absurd torn ] | inr none ↦ absurd none ]
    ];
    inside = λ image left. image_before within.moments _ image (within.inside image left);
  }
    where
      image_before : (front back : List Moment) (image : Tree) → IsImageOfOne front image → IsImageOfOne (front ++ back) image
      image_before [] back image none = absurd none
      image_before (moment ∷ front) back image (inl here) = inl here
      image_before (moment ∷ front) back image (inr later) = inr (image_before front back image later)

within_effect : (area : Area) (was now : Stored) (edit : Option Edit) → IsWithin area was now → is_plain edit ≡ true → IsWithin area was (with_effect area now edit)
within_effect area was now None within plain = within
within_effect area was now (Some edit) within plain = by_test (can_edit area now.tree edit.path) refl
  where
    by_test : (b : Bool) → can_edit area now.tree edit.path ≡ b → IsWithin area was (cond b (with_change (edited edit.path edit.at) now) now)
    by_test true can = within_change area was now within edit.path edit.at can (turn (is_dir edit.at) plain)
    by_test false can = within

pub within_effects : (area : Area) (was now : Stored) (edits : List (Option Edit)) → IsWithin area was now → list_all is_plain edits ≡ true → IsWithin area was (with_effects area now edits)
within_effects area was now [] within plain = within
within_effects area was now (edit ∷ edits) within plain =
    within_effects area was (with_effect area now edit) edits (within_effect area was now edit within (first_so (is_plain edit) _ plain)) (second_so (is_plain edit) _ plain)

-- ---- the tree after them

effect_tree : (area : Area) (was : Stored) (edit : Option Edit) → (with_effect area was edit).tree ≡ with_edit area was.tree edit
effect_tree area was None = refl
effect_tree area was (Some edit) = by_test (can_edit area was.tree edit.path)
  where
    by_test : (b : Bool) → (cond b (with_change (edited edit.path edit.at) was) was).tree ≡ cond b (edited edit.path edit.at was.tree) was.tree
    by_test true = refl
    by_test false = refl

pub effects_tree : (area : Area) (was : Stored) (edits : List (Option Edit)) → (with_effects area was edits).tree ≡ after_edits area was.tree edits
effects_tree area was [] = refl
effects_tree area was (edit ∷ edits) = effects_tree area (with_effect area was edit) edits ∙ ap (λ tree. after_edits area tree edits) (effect_tree area was edit)
