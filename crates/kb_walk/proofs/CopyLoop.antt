-- Entries are copied one by one, each directory before what is in it.
use Rattle.std.proofs.Common.{◌≡◌, ℕ, Bool, true, false, cond, ◌&&◌, ◌||◌, not, List, [], ◌∷◌, ◌++◌, length, drop, Option, Some, None, is_some, refl, sym, ap, ◌∙◌, subst, inl, inr, append_assoc, append-nil}
use Rattle.std.specs.List.{list_any}
use Rattle.std.specs.Ordering.{is_lt}
use Rattle.std.specs.FinMap.{keys}
use Rattle.std.specs.Cmp.{first_so, second_so, both_ways}
use Rattle.std.specs.Cmp.Derive.{both_true}
use Rattle.std.proofs.lemmas.List.Folds.{list_any-append}
use Rattle.kb_world.specs.Path.{Path, path_cmp, child, parent, is_under, are_apart}
use Rattle.kb_world.specs.Roots.{is_below}
use Rattle.kb_world.specs.Tree.{Tree, node_at, kind_of, is_dir, edited, CanMake, IsFormed}
use Rattle.kb_world.specs.TreeLaws.{same_path, same_path-true, same_path-refl, node_at-with_node, node_at-remove}
use Rattle.kb_world.specs.declared.tree.Node.{Node}
use Rattle.kb_world.proofs.FormedLaws.{dir_stands, dir_above}
use Rattle.kb_world.proofs.PathLaws.{by_test, drop-front, elsewhere, under-append, under-self, under-split}
use Rattle.kb_world.proofs.StepLaws.{parent-child, child-other}
use Rattle.kb_walk.specs.Walking.{paths_below, met_at, rises}
use Rattle.kb_walk.specs.declared.walking.Met.{Met}
use Rattle.kb_walk.specs.Copy.{place_copied, IsCopied, copied_in_part, IsCopiedInPart, CanCopyEntry}
use Rattle.kb_walk.proofs.OrderLaws.{is_in, in_front, in_more, untrue}
use Rattle.kb_walk.proofs.MemberLaws.{not_itself, not_both, later_than, front_or_behind, in_filter, in_right, in_either, rises_filter, rises_behind}
use Rattle.kb_walk.proofs.WalkLaws.{standing, rises_keys, below_more}
use Rattle.kb_walk.proofs.WipeLaws.{split_last, front_less, child_greater}

-- what stands at a path once something else stands at another
pub edited_at : (tree : Tree) (path : Path) (at : Option Node) (q : Path) → node_at (edited path at tree) q ≡ cond (same_path q path) at (node_at tree q)
edited_at tree path None q = node_at-remove tree path q
edited_at tree path (Some node) q = node_at-with_node tree path node q

no_more : (base : Path) (name : List ℕ) (rest : Path) → base ≡ base ++ name ∷ rest → ⊥
no_more [] name rest e = let impossible : [] ≡ name ∷ rest = e in cc
no_more (first ∷ base) name rest e = let later : base ≡ base ++ name ∷ rest = cc in no_more base name rest later

same_behind : (a p q : Path) → a ++ p ≡ a ++ q → p ≡ q
same_behind a p q e = sym (drop-front a p) ∙ ap (drop (length a)) e ∙ drop-front a q

module _ (from to : Path) (apart : are_apart from to ≡ true) where
  -- nothing at or below the original lies at or below the copy
  original_apart : (p : Path) → is_under p from ≡ true → is_under p to ≡ false
  original_apart p h = elsewhere p from to apart h

  place_at : (rest : Path) → place_copied from to (to ++ rest) ≡ from ++ rest
  place_at rest = ap (λ r. from ++ r) (drop-front to rest)

  place_for : (rest : Path) → place_copied to from (from ++ rest) ≡ to ++ rest
  place_for rest = ap (λ r. to ++ r) (drop-front from rest)

  module _ (paths : List Path) (before now : Tree) (part : IsCopiedInPart from to paths before now) where
    -- what is copied stands as it did
    pub original_stands : (p : Path) → is_under p from ≡ true → node_at now p ≡ node_at before p
    original_stands p h = part p ∙ ap (λ b. cond b (cond (list_any (same_path (place_copied from to p)) paths) (node_at before (place_copied from to p)) None) (node_at before p)) (original_apart p h)

    -- what stands at a place
    pub place_stands : (rest : Path) → node_at now (to ++ rest) ≡ cond (list_any (same_path (from ++ rest)) paths) (node_at before (from ++ rest)) None
    place_stands rest =
        part (to ++ rest) ∙ ap (λ b. cond b (cond (list_any (same_path (place_copied from to (to ++ rest))) paths) (node_at before (place_copied from to (to ++ rest))) None) (node_at before (to ++ rest))) (under-append to rest)
        ∙ ap (λ x. cond (list_any (same_path x) paths) (node_at before x) None) (place_at rest)

    -- one more is copied
    pub one_copied : (p : Path) → is_under p from ≡ true → IsCopiedInPart from to (paths ++ p ∷ []) before (edited (place_copied to from p) (node_at now p) now)
    one_copied p h q = edited_at now (place_copied to from p) (node_at now p) q ∙ by (is_under q to) refl
      where
        rest : Path
        rest = drop (length from) p

        is : p ≡ from ++ rest
        is = under-split p from h

        at_now : node_at now p ≡ node_at before p
        at_now = original_stands p h

        joined : (s b : Bool) (here at : Option Node) → (s ≡ true → here ≡ at) → cond s here (cond b at None) ≡ cond (b || (s || false)) at None
        joined true true here at e = e refl
        joined true false here at e = e refl
        joined false true here at e = refl
        joined false false here at e = refl

        by : (b : Bool) → is_under q to ≡ b → cond (same_path q (place_copied to from p)) (node_at now p) (node_at now q) ≡ copied_in_part from to (paths ++ p ∷ []) before q
        by false e =
            let other : same_path q (to ++ rest) ≡ false = by_test (same_path q (to ++ rest)) (λ s. untrue (sym e ∙ ap (λ x. is_under x to) (same_path-true q (to ++ rest) s) ∙ under-append to rest)) in
            ap (λ b. cond b (node_at now p) (node_at now q)) other ∙ part q
            ∙ ap (λ b. cond b (cond (list_any (same_path (place_copied from to q)) paths) (node_at before (place_copied from to q)) None) (node_at before q)) e
            ∙ sym (ap (λ b. cond b (cond (list_any (same_path (place_copied from to q)) (paths ++ p ∷ [])) (node_at before (place_copied from to q)) None) (node_at before q)) e)
        by true e =
            let r : Path = drop (length to) q in
            let there : q ≡ to ++ r = under-split q to e in
            let tests : same_path q (to ++ rest) ≡ same_path (from ++ r) p = both_ways (same_path q (to ++ rest)) (same_path (from ++ r) p)
            (λ s. let rests = same_behind to r rest (sym there ∙ same_path-true q (to ++ rest) s) in ap (same_path (from ++ r)) (is ∙ ap (λ x. from ++ x) (sym rests)) ∙ same_path-refl (from ++ r))
            (λ s. let rests = same_behind from r rest (same_path-true (from ++ r) p s ∙ is) in ap (same_path q) (ap (λ x. to ++ x) (sym rests) ∙ sym there) ∙ same_path-refl q) in
            ap (λ b. cond b (node_at now p) (node_at now q)) tests
            ∙ ap (λ at. cond (same_path (from ++ r) p) (node_at now p) at) (part q ∙ ap (λ b. cond b (cond (list_any (same_path (from ++ r)) paths) (node_at before (from ++ r)) None) (node_at before q)) e)
            ∙ joined (same_path (from ++ r) p) (list_any (same_path (from ++ r)) paths) (node_at now p) (node_at before (from ++ r)) (λ s. at_now ∙ ap (node_at before) (sym (same_path-true (from ++ r) p s)))
            ∙ ap (λ b. cond b (node_at before (from ++ r)) None) (sym (list_any-append (same_path (from ++ r)) paths (p ∷ [])))
            ∙ sym (ap (λ b. cond b (cond (list_any (same_path (from ++ r)) (paths ++ p ∷ [])) (node_at before (from ++ r)) None) (node_at before q)) e)

  -- ---- nothing, and everything

  -- where nothing stands at or below the place, none is copied
  pub none_copied : (before : Tree) → IsFormed before → node_at before to ≡ None → IsCopiedInPart from to [] before before
  none_copied before formed free q = by (is_under q to) refl
    where
      nothing : (rest : Path) → q ≡ to ++ rest → node_at before q ≡ None
      nothing [] e = ap (node_at before) (e ∙ append-nil to) ∙ free
      nothing (name ∷ rest) e = absent (node_at before q) refl
        where
          absent : (at : Option Node) → node_at before q ≡ at → at ≡ None
          absent None h = refl
          absent (Some at) h = absurd (untrue (sym (ap is_dir free) ∙ dir_above before formed to name rest (ap (λ p. is_some (node_at before p)) (sym e) ∙ ap is_some h)))

      by : (b : Bool) → is_under q to ≡ b → node_at before q ≡ cond b (cond false (node_at before (place_copied from to q)) None) (node_at before q)
      by true e = nothing (drop (length to) q) (under-split q to e)
      by false e = refl

  -- where the directory itself and all entries are copied, it is copied whole
  pub all_copied : (before now : Tree) → IsCopiedInPart from to (from ∷ paths_below before from) before now → IsCopied from to before now
  all_copied before now part q = part q ∙ by (is_under q to)
    where
      x : Path
      x = place_copied from to q

      known : (a b : Bool) (at : Option Node) → b ≡ is_some at → cond (a || b) at None ≡ at
      known true b at e = refl
      known false true at e = refl
      known false false None e = refl
      known false false (Some at) e = absurd (untrue e)

      listed : (rest : Path) → cond (same_path (from ++ rest) from || list_any (same_path (from ++ rest)) (paths_below before from)) (node_at before (from ++ rest)) None ≡ node_at before (from ++ rest)
      listed [] = ap (λ b. cond (b || list_any (same_path (from ++ [])) (paths_below before from)) (node_at before (from ++ [])) None) (ap (same_path (from ++ [])) (sym (append-nil from)) ∙ same_path-refl (from ++ []))
      listed (name ∷ rest) = known (same_path (from ++ name ∷ rest) from) _ (node_at before (from ++ name ∷ rest))
          (in_filter (λ p. is_below p from) (keys before) (from ++ name ∷ rest) ∙ ap (λ b. b && list_any (same_path (from ++ name ∷ rest)) (keys before)) (below_more from name rest) ∙ sym (standing before (from ++ name ∷ rest)))

      by : (b : Bool) → cond b (cond (list_any (same_path x) (from ∷ paths_below before from)) (node_at before x) None) (node_at before q) ≡ node_at before (cond b x q)
      by true = listed (drop (length to) q)
      by false = refl

  -- ---- the next entry

  module _ (before now : Tree) (formed : IsFormed before) (directory : is_dir (node_at before from) ≡ true) (front back : List Path) (p : Path) (split : paths_below before from ≡ front ++ p ∷ back)
      (part : IsCopiedInPart from to (from ∷ front) before now) where
    up : rises (front ++ p ∷ back) ≡ true
    up = ap rises (sym split) ∙ rises_filter (λ q. is_below q from) (keys before) (rises_keys before)

    met_parts : (is_below p from && list_any (same_path p) (keys before)) ≡ true
    met_parts = sym (in_filter (λ q. is_below q from) (keys before) p) ∙ ap (λ l. list_any (same_path p) l) split ∙ in_right p front (p ∷ back) (in_front p back)

    pub entry_under : is_under p from ≡ true
    entry_under = first_so (is_under p from) (not (is_under from p)) (first_so (is_below p from) _ met_parts)

    there : is_some (node_at before p) ≡ true
    there = standing before p ∙ second_so (is_below p from) _ met_parts

    abbrev rest : Path
    rest = drop (length from) p

    is : p ≡ from ++ rest
    is = under-split p from entry_under

    not_from : p ≡ from → ⊥
    not_from e = untrue (sym (ap not (ap (is_under from) e ∙ under-self from)) ∙ second_so (is_under p from) (not (is_under from p)) (first_so (is_below p from) _ met_parts))

    not_yet : list_any (same_path p) (from ∷ front) ≡ false
    not_yet = by_test _ (λ h. front_or_behind p from front ⊥ not_from (λ k. not_itself p (front_less front back p p up k)) h)

    -- its directory is copied
    listed_above : (name : List ℕ) (dir : Path) → rest ≡ child dir name → list_any (same_path (from ++ dir)) (from ∷ front) ≡ true
    listed_above name [] e = ap (λ b. b || list_any (same_path (from ++ [])) front) (ap (same_path (from ++ [])) (sym (append-nil from)) ∙ same_path-refl (from ++ []))
    listed_above name (first ∷ more) e = in_more d from front (in_either d front (p ∷ back) (is_in d front) (λ h. h)
        (λ h. absurd (front_or_behind d p back ⊥ (λ same. child-other d name (sym here ∙ sym same)) (λ k. not_both d p lower (later_than p back (rises_behind front (p ∷ back) up) d k)) h))
        (sym (ap (λ l. list_any (same_path d) l) split) ∙ in_filter (λ q. is_below q from) (keys before) d ∙ both_true (below_more from first more) (sym (standing before d) ∙ stands)))
      where
        d : Path
        d = from ++ first ∷ more

        here : p ≡ child d name
        here = is ∙ ap (λ r. from ++ r) e ∙ sym (append_assoc from (first ∷ more) (name ∷ []))

        lower : is_lt (path_cmp d p) ≡ true
        lower = ap (λ x. is_lt (path_cmp d x)) here ∙ child_greater d name

        stands : is_some (node_at before d) ≡ true
        stands = dir_stands (node_at before d) (ap (λ x. is_dir (node_at before x)) (sym (ap parent here ∙ parent-child d name)) ∙ formed p there)

    in_its_directory : is_dir (node_at now (parent (to ++ rest))) ≡ true
    in_its_directory = elim (split_last rest) as (λ _. is_dir (node_at now (parent (to ++ rest))) ≡ true) [
      | inl none ↦ absurd (not_from (is ∙ ap (λ r. from ++ r) none ∙ append-nil from))
      | inr more ↦
          let place : parent (to ++ rest) ≡ to ++ more.0 = ap (λ r. parent (to ++ r)) more.2 ∙ ap parent (sym (append_assoc to more.0 (more.1 ∷ []))) ∙ parent-child (to ++ more.0) more.1 in
          let original : parent p ≡ from ++ more.0 = ap parent (is ∙ ap (λ r. from ++ r) more.2 ∙ sym (append_assoc from more.0 (more.1 ∷ []))) ∙ parent-child (from ++ more.0) more.1 in
          ap (λ x. is_dir (node_at now x)) place ∙ ap is_dir (place_stands (from ∷ front) before now part more.0 ∙ ap (λ b. cond b (node_at before (from ++ more.0)) None) (listed_above more.1 more.0 more.2))
          ∙ ap (λ x. is_dir (node_at before x)) (sym original) ∙ formed p there
    ]

    pub can_copy_next : (met : Met) → met ≡ met_at before p → CanCopyEntry from to now met
    can_copy_next met seen = record {
      kind = ap (λ (m : Met). m.kind) seen ∙ ap kind_of (sym (original_stands (from ∷ front) before now part p entry_under)) ∙ ap (λ q. kind_of (node_at now q)) (sym at_path);
      stands = λ none. untrue (sym (ap is_some (sym (original_stands (from ∷ front) before now part p entry_under) ∙ ap (node_at now) (sym at_path) ∙ none)) ∙ there);
      can_make = subst (λ q. CanMake now (place_copied to from q)) (sym at_path) (record {
        free = place_stands (from ∷ front) before now part rest ∙ ap (λ x. cond (list_any (same_path x) (from ∷ front)) (node_at before x) None) (sym is) ∙ ap (λ b. cond b (node_at before p) None) not_yet;
        in_directory = in_its_directory;
      });
    }
      where
        at_path : met.path ≡ p
        at_path = ap (λ (m : Met). m.path) seen
