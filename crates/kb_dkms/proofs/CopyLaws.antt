-- What refuses the copy of a directory is asked of the tree, and found in the whole that stands.
use Rattle.std.proofs.Common.{◌≡◌, true, cond, Option, Some, None, is_some, sym, ap, ◌∙◌}
use Rattle.std.specs.Prelude.{Result, Ok, Err, IfOk}
use Rattle.std.specs.Option.{ForSome}
use Rattle.kb_world.specs.Damage.{hurt}
use Rattle.kb_world.specs.Read.{Decides}
use Rattle.kb_world.specs.Layout.{whole_tree}
use Rattle.kb_machine.specs.Outcome.{◌or◌}
use Rattle.kb_world.specs.Path.{Path}
use Rattle.kb_world.specs.Public.{is_private, public_tree}
use Rattle.kb_world.specs.Roots.{AreApart}
use Rattle.kb_world.specs.State.{State}
use Rattle.kb_world.specs.Store.{is_key, source_path}
use Rattle.kb_world.specs.Tree.{Tree}
use Rattle.kb_world.specs.declared.job.Key.{Key}
use Rattle.kb_world.specs.declared.refusal.Refusal.{Refusal}
use Rattle.kb_world.specs.declared.refusal.Refusal.TheVariants as refusal
use Rattle.kb_world.specs.declared.roots.Roots.{Roots}
use Rattle.kb_world.specs.declared.sequence.Sequence.{Sequence}
use Rattle.kb_world.specs.declared.stop.Stop.{Stop}
use Rattle.kb_world.specs.declared.tree.Node.{Node}
use Rattle.kb_world.specs.declared.world.WorldError.{WorldError}
use Rattle.kb_world.proofs.LayoutLaws.{whole_shown}
use Rattle.kb_walk.specs.Copy.{met_below, too_much, too_much_met}
use Rattle.kb_walk.specs.Walking.{LIMITS, walked}
use Rattle.kb_walk.specs.declared.walking.Met.{Met}
use Rattle.kb_walk.specs.declared.walking.Walk.{Walk}
use Rattle.kb_walk.proofs.WholeLaws.{walked_whole}
use Rattle.kb_dkms.specs.Add.{already_added, blocked}
use Rattle.kb_dkms.specs.AddTree.{source_there, package_there, no_copy}
use Rattle.kb_dkms.specs.Places.{package_places, standing, place_blocked}
use Rattle.kb_dkms.specs.declared.places.Places.{Places}
use Rattle.kb_dkms.proofs.AddLaws.{are_public, standing_shown, blocked_shown}
use Rattle.kb_dkms.proofs.DecideLaws.{decided_first, decided_then, decided_as, stops}

abbrev right : {T : Type 0} → T → Result T WorldError
right value = Ok value

module _ (roots : Roots) (apart : AreApart roots) (key : Key) (good : is_key key ≡ true) (places : Places) (are : places ≡ package_places roots key) where
  module _ (old new : State) where
    unadded_as : {A : Type 0} (result : Result A Stop) → ForSome old.tree (λ tree. hurt roots (public_tree roots tree) ≡ None)
        → Decides (standing key places.link) old new result → Decides (λ tree. already_added roots key (whole_tree roots tree)) old new result
    unadded_as result sound d = decided_as (standing key places.link) (λ tree. already_added roots key (whole_tree roots tree)) old new result
        (λ tree told. ap (λ (p : Places). standing key p.link tree) are ∙ standing_shown roots apart key good tree (sound tree told)) d

    source_as : {A : Type 0} (result : Result A Stop) → Decides (source_there places.source) old new result
        → Decides (λ tree. source_there (source_path roots key) (whole_tree roots tree)) old new result
    source_as result d = decided_as (source_there places.source) (λ tree. source_there (source_path roots key) (whole_tree roots tree)) old new result
        (λ tree told. ap (λ (p : Places). source_there p.source tree) are
        ∙ ap (λ (at : Option Node). cond (is_some at) (Some (refusal.SourceThere (source_path roots key))) None) (sym (whole_shown roots tree (source_path roots key) (are_public roots apart key good).source))) d

    blocked_as : {A : Type 0} (result : Result A Stop) → Decides (place_blocked places) old new result → Decides (λ tree. blocked roots key (whole_tree roots tree)) old new result
    blocked_as result d = decided_as (place_blocked places) (λ tree. blocked roots key (whole_tree roots tree)) old new result
        (λ tree told. ap (λ (p : Places). place_blocked p tree) are ∙ blocked_shown roots apart key good tree) d

  -- ---- no package is there

  pub package_stops : {A : Type 0} (old mid : State) (stop : Stop) → ForSome old.tree (λ tree. hurt roots (public_tree roots tree) ≡ None)
      → Decides (standing key places.link) old mid (stops {T = A} stop) → Decides (λ tree. package_there roots key (whole_tree roots tree)) old mid (stops {T = A} stop)
  package_stops {A = A} old mid stop sound d = decided_first {A = A} (λ tree. already_added roots key (whole_tree roots tree)) (λ tree. source_there (source_path roots key) (whole_tree roots tree)) old mid stop
      (unadded_as old mid {A = A} (stops {T = A} stop) sound d)

  pub package_decided : {A B : Type 0} (old mid new : State) (value : A) (result : Result B Stop) → ForSome old.tree (λ tree. hurt roots (public_tree roots tree) ≡ None)
      → Decides (standing key places.link) old mid (Ok value) → Decides (source_there places.source) mid new result
      → Decides (λ tree. package_there roots key (whole_tree roots tree)) old new result
  package_decided old mid new value result sound d e = decided_then (λ tree. already_added roots key (whole_tree roots tree)) (λ tree. source_there (source_path roots key) (whole_tree roots tree)) old mid new value result
      (unadded_as old mid (Ok value) sound d) (source_as mid new result e)

  -- ---- all of it

  pub copy_decided : {A B C : Type 0} (from : _) (old mid next new : State) (value : A) (met : B) (result : Result C Stop)
      → Decides (λ tree. package_there roots key (whole_tree roots tree)) old mid (Ok value) → Decides (λ tree. too_much from (whole_tree roots tree)) mid next (Ok met)
      → Decides (place_blocked places) next new result → Decides (λ tree. no_copy roots key from (whole_tree roots tree)) old new result
  copy_decided from old mid next new value met result d e f =
      let there : Tree → Option Refusal = λ tree. package_there roots key (whole_tree roots tree) in
      let much : Tree → Option Refusal = λ tree. too_much from (whole_tree roots tree) in
      decided_then (λ tree. (package_there roots key or too_much from) (whole_tree roots tree)) (λ tree. blocked roots key (whole_tree roots tree)) old next new met result
      (decided_then there much old mid next value (Ok met) d e) (blocked_as next new result f)

-- ---- what stands below the directory

-- the walk that skips what is private is one of the whole that stands
module _ (roots : Roots) (from : Path) (old new : State) where
  pub much_decided : {A : Type 0} (result : Result A Stop) → Decides (λ tree. too_much_met (walked LIMITS tree (is_private roots) from)) old new result → Decides (λ tree. too_much from (whole_tree roots tree)) old new result
  much_decided result d = decided_as (λ tree. too_much_met (walked LIMITS tree (is_private roots) from)) (λ tree. too_much from (whole_tree roots tree)) old new result
      (λ tree told. ap too_much_met (walked_whole roots LIMITS tree from)) d

  pub whole_met : (result : Result (Sequence Met) Stop) → IfOk result (λ met. ForSome old.tree (λ tree. met ≡ (walked LIMITS tree (is_private roots) from).met))
      → IfOk result (λ met. ForSome old.tree (λ tree. met ≡ met_below from (whole_tree roots tree)))
  whole_met (Ok met) is = λ tree told. is tree told ∙ ap (λ (w : Walk). w.met) (walked_whole roots LIMITS tree from)
  whole_met (Err stop) is = tt
