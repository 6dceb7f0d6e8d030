-- A change is done: what the operations and children of a world make of it.
use Rattle.std.proofs.Common.{◌≡◌, ℕ, Bool, true, false, ◌&&◌, ◌||◌, [], ◌∷◌, ◌++◌, map, Some, None, Result, Ok, Err, refl, sym, ap, ◌∙◌, subst, inl, arith, codes, append_assoc, append-nil}
use Rattle.std.specs.Prelude.{option_map}
use Rattle.std.specs.List.{list_any}
use Rattle.std.specs.Option.{ForSome}
use Rattle.std.specs.Cmp.{second_so}
use Rattle.std.specs.Cmp.Derive.{both_true}
use Rattle.kb_world.specs.Area.{IsLeft}
use Rattle.kb_world.specs.Crash.{Adds}
use Rattle.kb_world.specs.Path.{Path}
use Rattle.kb_world.specs.Roots.{is_below, share_root, based_roots}
use Rattle.kb_world.specs.Script.{Script, answer_in}
use Rattle.kb_world.specs.State.{State, HasCause}
use Rattle.kb_world.specs.Tree.{Tree}
use Rattle.kb_world.specs.declared.roots.Roots.{Roots}
use Rattle.kb_world.specs.declared.world.WorldError.{WorldError}
use Rattle.kb_world.specs.declared.world.WorldError.TheVariants.{Failed, NoMemory}
use Rattle.kb_world.proofs.CrashLaws.{adds_none, adds_wider}
use Rattle.kb_changes.specs.Change.{root_path, staged_path, do_change, request_at}
use Rattle.kb_changes.specs.Valid.{is_changeable, is_well_placed}
use Rattle.kb_changes.specs.declared.change.Change.{Change}
use Rattle.kb_changes.specs.declared.change.Change.TheVariants as changes
use Rattle.kb_changes.specs.declared.change.RootName.{RootName}
use Rattle.kb_changes.specs.declared.change.RootName.TheVariants as root_name
use Rattle.kb_walk.proofs.WipeCalls.{cause_handed, done_not_failed}
use Rattle.kb_again.specs.Sparing.{areas_of}
use Rattle.kb_again.specs.Within.{IsWithin}
use Rattle.kb_machine.proofs.BehindLaws.{front_none}
use Rattle.kb_world.specs.Steps.{tidied}
use Rattle.std.specs.Fmt.{decimal}
use Rattle.kb_walk.proofs.WalkLaws.{below_more}
use Rattle.kb_intent.specs.Doing.{made_dir_at, dropped_leaf_at, put_staged_at, StepsTo, IsEitherOf, DoesChange, IsWithinNow, LeftWithin}

-- ---- the cause of a call that hands an answer on

pub cause_of_ok : {A B : Type 0} (old new : State) (a : A) (b : B) → HasCause {T = A} Failed old new (Ok a) → HasCause {T = B} Failed old new (Ok b)
cause_of_ok old new a b c = record { later = c.later; rose = λ failed. absurd (done_not_failed b failed); steady = c.steady; never = λ told is failed. done_not_failed b failed }

-- ---- changes that are one file operation

-- what such a change asks of the definitions: it makes no request, has no area, and is within at its two ends alone
pub record IsPlain (roots : Roots) (change : Change) (step : Tree → Tree) (script : Script) : Type 0 where
  pub steps : (tree : Tree) → step tree ≡ do_change roots script change tree
  pub ends : (tree now : Tree) → IsEitherOf step tree now → IsWithin roots script change tree now
  pub requests : (tree : Tree) → request_at change tree ≡ []
  pub areas : areas_of (change ∷ []) ≡ []

module _ (roots : Roots) (change : Change) (step : Tree → Tree) (old new : State) (plain : IsPlain roots change step old.script) where
  plain_within : {T : Type 0} (result : Result T WorldError) → StepsTo step old new result → ForSome old.tree (IsWithinNow roots old.script change new.tree)
  plain_within result s tree told = let now = s.either tree told in (now.0, now.1, plain.ends tree now.0 now.2)

  plain_moments : {T : Type 0} (result : Result T WorldError) → StepsTo step old new result → ForSome old.tree (λ tree. Adds (LeftWithin roots old.script change old.history.soft tree) old.history new.history)
  plain_moments result s tree told = adds_wider _ (LeftWithin roots old.script change old.history.soft tree) old.history new.history
      (λ image left. record {
        mid = left.0;
        within = plain.ends tree left.0 left.1;
        left = subst (λ own. IsLeft (own ++ old.history.soft) left.0 image) (sym plain.areas) left.2;
      }) (s.moments tree told)

  pub does_plain : (u : Unit {0}) → StepsTo step old new (Ok u) → DoesChange roots change old new (Ok None)
  does_plain u s = record {
    done = λ tree told. record {
      tree = s.done ∙ ap (option_map step) told ∙ ap Some (plain.steps tree);
      ran = s.ran_none.ran ∙ sym (append-nil old.ran) ∙ ap (λ r. old.ran ++ r) (sym (plain.requests tree));
      said = sym (ap (map (λ request. (answer_in roots old.script request tree).reply)) (plain.requests tree));
    };
    ran = λ tree told. front_none (request_at change tree) old new s.ran_none.ran;
    within = plain_within (Ok u) s;
    soft = inl s.soft;
    moments = plain_moments (Ok u) s;
    lasts = s.ran_none.lasts;
    cause = cause_of_ok old new u None s.cause;
  }

  pub stops_plain : (error : WorldError) → StepsTo step {T = Unit {0}} old new (Err error) → DoesChange roots change old new (Err error)
  stops_plain error s = record {
    done = λ tree told. tt;
    ran = λ tree told. front_none (request_at change tree) old new s.ran_none.ran;
    within = plain_within (Err error) s;
    soft = inl s.soft;
    moments = plain_moments (Err error) s;
    lasts = s.ran_none.lasts;
    cause = cause_handed old new error s.cause;
  }

-- nothing was begun, for want of memory
pub unstepped : (step : Tree → Tree) (state : State) → StepsTo step {T = Unit {0}} state state (Err NoMemory)
unstepped step state = record {
  done = tt;
  either = λ tree told. (tree, told, inl refl);
  soft = refl;
  moments = λ tree told. adds_none _ state.history state.history refl;
  ran_none = record { ran = refl; lasts = record { roots = refl; script = refl; told = refl } };
  cause = record { later = omega arith; rose = λ failed. absurd (other failed); steady = λ is. is; never = λ told is failed. other failed };
}
  where
    gave : WorldError → Result (Unit {0}) WorldError
    gave error = Err error

    other : gave NoMemory ≡ gave Failed → ⊥
    other e = cc

pub wants_plain : (roots : Roots) (change : Change) (step : Tree → Tree) (state : State) → IsPlain roots change step state.script → DoesChange roots change state state (Err NoMemory)
wants_plain roots change step state plain = stops_plain roots change step state state plain NoMemory (unstepped step state)

pub plain_dir : (roots : Roots) (script : Script) (path : Path) → IsPlain roots (changes.Dir path) (made_dir_at path) script
plain_dir roots script path = record { steps = λ tree. refl; ends = λ tree now either. either; requests = λ tree. refl; areas = refl }

pub plain_drop : (roots : Roots) (script : Script) (path : Path) → IsPlain roots (changes.Drop path) (dropped_leaf_at path) script
plain_drop roots script path = record { steps = λ tree. refl; ends = λ tree now either. either; requests = λ tree. refl; areas = refl }

pub plain_drop_dir : (roots : Roots) (script : Script) (path : Path) → IsPlain roots (changes.DropDir path) (tidied path) script
plain_drop_dir roots script path = record { steps = λ tree. refl; ends = λ tree now either. either; requests = λ tree. refl; areas = refl }

pub plain_put : (roots : Roots) (script : Script) (root : RootName) (number : ℕ) (staged target : Path) → staged ≡ staged_path roots root number
    → IsPlain roots (changes.Put root number target) (put_staged_at staged target) script
plain_put roots script root number staged target is =
    subst (λ path. IsPlain roots (changes.Put root number target) (put_staged_at path target) script) (sym is)
    (record { steps = λ tree. refl; ends = λ tree now either. either; requests = λ tree. refl; areas = refl })

-- a staged place and a well placed target are below one root
pub shares_root : (roots : Roots) (root : RootName) (number : ℕ) (staged target : Path) → staged ≡ staged_path roots root number → is_well_placed roots (changes.Put root number target) ≡ true
    → share_root roots staged target ≡ true
shares_root roots root number staged target is placed =
    ap (λ path. share_root roots path target) is
    ∙ any_root (λ r. is_below (staged_path roots root number) r && is_below target r) roots root
    (both_true (staged_below root) (second_so (is_changeable roots target) (is_below target (root_path roots root)) placed))
  where
    staged_below : (root : RootName) → is_below (staged_path roots root number) (root_path roots root) ≡ true
    staged_below root = ap (λ path. is_below path (root_path roots root)) (append_assoc (root_path roots root) (codes ".kb-staged" ∷ []) (decimal number ∷ [])) ∙ below_more (root_path roots root) (codes ".kb-staged") (decimal number ∷ [])

    or_right : (a b : Bool) → b ≡ true → (a || b) ≡ true
    or_right true b e = refl
    or_right false b e = e

    first_of : (a b : Bool) → a ≡ true → (a || b) ≡ true
    first_of true b e = refl
    first_of false b e = let impossible : false ≡ true = e in cc

    any_root : (test : Path → Bool) (roots : Roots) (root : RootName) → test (root_path roots root) ≡ true → list_any test (roots.boot ∷ based_roots roots) ≡ true
    any_root test roots root_name.Boot e = ap (λ b. b || list_any test (based_roots roots)) e
    any_root test roots root_name.Dkms e = or_right (test roots.boot) (list_any test (based_roots roots)) (first_of (test roots.dkms) _ e)
    any_root test roots root_name.Src e = or_right (test roots.boot) (list_any test (based_roots roots)) (or_right (test roots.dkms) _ (first_of (test roots.src) _ e))
    any_root test roots root_name.Modules e = or_right (test roots.boot) (list_any test (based_roots roots)) (or_right (test roots.dkms) _ (or_right (test roots.src) _ (first_of (test roots.modules) _ e)))
