-- What is lost may be left by a crash, and each of what a crash may lose is lost by some choice.
use Rattle.std.proofs.Common.{◌≡◌, ◌⊎◌, inl, inr, ◌+◌, ◌-◌, ◌*◌, ◌<◌, ◌≤◌, ◌^◌, ℕ, Bool, true, false, cond, not, ◌&&◌, ◌||◌, nat_eq, length, List, [], ◌∷◌, Option, Some, None, refl, sym, ap, subst, ◌∙◌, arith}
use Rattle.std.specs.Prelude.{◌/◌, ◌%◌, option_map}
use Rattle.std.specs.List.{list_any, slice_get}
use Rattle.std.proofs.lemmas.Option.{slice_get_within}
use Rattle.std.proofs.lemmas.Bool.Decides.{nat_tests}
use Rattle.kb_world.specs.Area.{is_soft_at, lets_differ, IsLeft}
use Rattle.kb_world.specs.Path.{Path}
use Rattle.kb_world.specs.Script.{Script, can_edit}
use Rattle.kb_world.specs.Tree.{Tree, node_at, with_node, without, edited, is_dir, IsFormed}
use Rattle.kb_world.specs.declared.child.Area.{Area}
use Rattle.kb_world.specs.declared.child.Effect.{Effect}
use Rattle.kb_world.specs.declared.child.Effect.TheVariants as effects
use Rattle.kb_world.specs.declared.tree.Node.{Node}
use Rattle.kb_world.specs.declared.tree.Node.TheVariants.{File}
use Rattle.kb_world.proofs.LeftLaws.{left_same, left_edit}
use Rattle.kb_disk.proofs.EffectLaws.{inside, undirected, can_edit-formed, lets}
use Rattle.kb_memory.specs.Lost.{effects_of, changed_path, copied_path, named_path, file_by, lost_node, can_lose, lost_at, lost}

-- ---- an image

-- an area in which something can be lost at the path
record LosesIn (soft : List Area) (tree : Tree) (path : Path) : Type 0 where
  pub area : Area
  pub can : can_edit area tree path ≡ true
  pub differs : (at : Option Node) → is_dir at ≡ false → is_soft_at soft path (node_at tree path) at ≡ true

either : (a b : Bool) → b ≡ true → a || b ≡ true
either true b h = refl
either false b h = h

loses_in : (soft : List Area) (tree : Tree) (path : Path) → can_lose soft tree path ≡ true → LosesIn soft tree path
loses_in [] tree path can = let q : false ≡ true = can in absurd (cc)
loses_in (area ∷ soft) tree path can = by_test (loses_in soft tree path) (can_edit area tree path) refl can
  where
    by_test : (can_lose soft tree path ≡ true → LosesIn soft tree path) → (b : Bool) → can_edit area tree path ≡ b → b || can_lose soft tree path ≡ true → LosesIn (area ∷ soft) tree path
    by_test more true is can = record {
      area = area;
      can = is;
      differs = λ at bare. ap (λ b. b || is_soft_at soft path (node_at tree path) at) (lets area tree path at (inside area tree path is) bare);
    }
    by_test more false is can = let rest = more can in record {
      area = rest.area;
      can = rest.can;
      differs = λ at bare. either (lets_differ area path (node_at tree path) at) _ (rest.differs at bare);
    }

file_bare : (effect : Option Effect) (was : Option Node) → is_dir was ≡ false → is_dir (file_by effect was) ≡ false
file_bare (Some (effects.Write path bytes exec)) was bare = refl
file_bare (Some (effects.Copy from to)) was bare = bare
file_bare (Some (effects.Remove path)) was bare = bare
file_bare None was bare = bare

lost_bare : (script : Script) (content : ℕ) (was : Option Node) → is_dir was ≡ false → is_dir (lost_node script content was) ≡ false
lost_bare script content was bare = by_tests (nat_eq content 0) (nat_eq content 1)
  where
    by_tests : (zero one : Bool) → is_dir (cond zero was (cond one None (file_by (slice_get (effects_of script) (content - 2)) was))) ≡ false
    by_tests true one = bare
    by_tests false true = refl
    by_tests false false = file_bare (slice_get (effects_of script) (content - 2)) was bare

at_left : (soft : List Area) (path : Option Path) (left : Option Node → Option Node) (tree : Tree) → IsFormed tree → ((was : Option Node) → is_dir was ≡ false → is_dir (left was) ≡ false) → IsLeft soft tree (lost_at soft path left tree)
at_left soft None left tree formed bare = left_same soft tree formed
at_left soft (Some path) left tree formed bare = by_test (can_lose soft tree path) refl
  where
    by_test : (b : Bool) → can_lose soft tree path ≡ b → IsLeft soft tree (cond b (edited path (left (node_at tree path)) tree) tree)
    by_test true can =
        let here = loses_in soft tree path can in
        let none = bare (node_at tree path) (undirected here.area tree path here.can) in
        left_edit soft path (left (node_at tree path)) tree (can_edit-formed here.area tree path here.can (left (node_at tree path)) formed) (here.differs (left (node_at tree path)) none)
    by_test false cannot = left_same soft tree formed

-- what is lost may be left by a crash
pub lost_left : (script : Script) (soft : List Area) (choice : ℕ) (tree : Tree) → IsFormed tree → IsLeft soft tree (lost script soft choice tree)
lost_left script soft choice tree formed = at_left soft (named_path script (choice % 4294967296)) (lost_node script (choice / 4294967296)) tree formed (lost_bare script (choice / 4294967296))

-- the edit that is made can be made
pub lost-formed : (soft : List Area) (tree : Tree) (path : Path) (at : Option Node) → can_lose soft tree path ≡ true → IsFormed tree → IsFormed (edited path at tree)
lost-formed soft tree path at can formed = let here = loses_in soft tree path can in can_edit-formed here.area tree path here.can at formed

-- ---- the choices

-- the choice that loses the path of a number, and leaves this content
module _ (script : Script) (soft : List Area) (tree : Tree) (number content : ℕ) (path : Path) (few : number < 4294967296) (named : named_path script number ≡ Some path) (can : can_lose soft tree path ≡ true) where
  lower : (number + content * 4294967296) % 4294967296 ≡ number
  lower = omega arith

  upper : (number + content * 4294967296) / 4294967296 ≡ content
  upper = omega arith

  pub lost_so : lost script soft (number + content * 4294967296) tree ≡ edited path (lost_node script content (node_at tree path)) tree
  lost_so = (λ i. lost_at soft (named_path script (lower i)) (lost_node script (upper i)) tree)
      ∙ ap (λ at. lost_at soft at (lost_node script content) tree) named
      ∙ ap (λ b. cond b (edited path (lost_node script content (node_at tree path)) tree) tree) can

-- ---- there is one for each

module _ (script : Script) (few : length (effects_of script) ≤ 2 ^ 31) where
  named_within : (number : ℕ) (path : Path) → named_path script number ≡ Some path → number < 4294967296
  named_within number path named = by_effect (slice_get (effects_of script) (number / 2)) refl named
    where
      by_effect : (effect : Option Effect) → slice_get (effects_of script) (number / 2) ≡ effect
          → option_map (cond (nat_eq (number % 2) 0) changed_path copied_path) effect ≡ Some path → number < 4294967296
      by_effect None is named = absurd (cc)
      by_effect (Some effect) is named = let within : number / 2 < length (effects_of script) = slice_get_within (effects_of script) (number / 2) effect is in omega arith

  module _ (soft : List Area) (tree : Tree) (number : ℕ) (path : Path) (named : named_path script number ≡ Some path) (can : can_lose soft tree path ≡ true) where
    pub nothing_by : (choice : ℕ) × (choice < 2 ^ 64) × (lost script soft choice tree ≡ without path tree)
    nothing_by =
        let within : number < 4294967296 = named_within number path named in
        (number + 1 * 4294967296, omega arith, lost_so script soft tree number 1 path within named can)

    written : (i : ℕ) (to : Path) (bytes : List ℕ) (exec : Bool) (was : Option Node) → slice_get (effects_of script) i ≡ Some (effects.Write to bytes exec) → lost_node script (i + 2) was ≡ Some (File bytes exec)
    written i to bytes exec was is =
        let a : nat_eq (i + 2) 0 ≡ false = grind (arith, nat_tests) in
        let b : nat_eq (i + 2) 1 ≡ false = grind (arith, nat_tests) in
        let d : i + 2 - 2 ≡ i = omega arith in
        ap (λ t. cond t was (cond (nat_eq (i + 2) 1) None (file_by (slice_get (effects_of script) (i + 2 - 2)) was))) a
        ∙ ap (λ t. cond t None (file_by (slice_get (effects_of script) (i + 2 - 2)) was)) b
        ∙ ap (λ k. file_by (slice_get (effects_of script) k) was) d ∙ ap (λ effect. file_by effect was) is

    pub file_left : (i : ℕ) (to : Path) (bytes : List ℕ) (exec : Bool) → slice_get (effects_of script) i ≡ Some (effects.Write to bytes exec)
        → (choice : ℕ) × (choice < 2 ^ 64) × (lost script soft choice tree ≡ with_node path (File bytes exec) tree)
    file_left i to bytes exec is =
        let within : number < 4294967296 = named_within number path named in
        let least : i < length (effects_of script) = slice_get_within (effects_of script) i (effects.Write to bytes exec) is in
        (number + (i + 2) * 4294967296, omega arith, lost_so script soft tree number (i + 2) path within named can ∙ ap (λ at. edited path at tree) (written i to bytes exec (node_at tree path) is))

-- ---- each effect names its paths

pub names_changed : (script : Script) (i : ℕ) (effect : Effect) → slice_get (effects_of script) i ≡ Some effect → named_path script (2 * i) ≡ Some (changed_path effect)
names_changed script i effect is =
    let a : (2 * i) % 2 ≡ 0 = omega arith in
    let b : (2 * i) / 2 ≡ i = omega arith in
    (λ k. option_map (cond (nat_eq (a k) 0) changed_path copied_path) (slice_get (effects_of script) (b k))) ∙ ap (option_map changed_path) is

pub names_source : (script : Script) (i : ℕ) (effect : Effect) → slice_get (effects_of script) i ≡ Some effect → named_path script (2 * i + 1) ≡ Some (copied_path effect)
names_source script i effect is =
    let a : (2 * i + 1) % 2 ≡ 1 = omega arith in
    let b : (2 * i + 1) / 2 ≡ i = omega arith in
    (λ k. option_map (cond (nat_eq (a k) 0) changed_path copied_path) (slice_get (effects_of script) (b k))) ∙ ap (option_map copied_path) is
