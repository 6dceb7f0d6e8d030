-- The transaction of an add is put together aside from all that counts.
use Rattle.std.proofs.Common.{◌≡◌, ℕ, true, false, cond, List, [], ◌∷◌, ◌++◌, map, Option, Some, None, is_some, refl, sym, ap, ◌∙◌, subst}
use Rattle.std.specs.Prelude.{Result, Ok, Err, codes, IsErrOf}
use Rattle.std.specs.Option.{ForSome}
use Rattle.kb_world.specs.Patch.{Patch}
use Rattle.kb_world.specs.Path.{Path, is_under}
use Rattle.kb_world.specs.Roots.{AreApart}
use Rattle.kb_world.specs.State.{State}
use Rattle.kb_world.specs.Steps.{add_patch}
use Rattle.kb_world.specs.Store.{link_path, source_text}
use Rattle.kb_world.specs.Tree.{Tree, node_at, is_dir}
use Rattle.kb_world.specs.declared.child.Request.{Request}
use Rattle.kb_world.specs.declared.job.Job.{Job}
use Rattle.kb_world.specs.declared.job.Key.{Key}
use Rattle.kb_world.specs.declared.roots.Roots.{Roots}
use Rattle.kb_world.specs.declared.stop.Stop.{Stop}
use Rattle.kb_world.specs.declared.stop.Stop.TheVariants.{Refused, Fault, NoMemory}
use Rattle.kb_world.specs.declared.tree.Node.{Node}
use Rattle.kb_world.specs.declared.tree.Node.TheVariants as node
use Rattle.kb_world.proofs.CallLaws.{cause_then, cause_other, ran_none_then}
use Rattle.kb_world.proofs.PathLaws.{under-append, under-self, under-beside}
use Rattle.kb_changes.specs.Changes.{Staged, nodes_of, root_of, same_root, HasStaged}
use Rattle.kb_changes.specs.PatchPaths.{ArePathsOf}
use Rattle.kb_changes.specs.Valid.{new_intent_path}
use Rattle.kb_changes.specs.declared.change.RootName.{RootName}
use Rattle.kb_changes.specs.declared.change.RootName.TheVariants as root_name
use Rattle.kb_changes.specs.declared.patch_paths.PatchPaths.{PatchPaths}
use Rattle.kb_again.proofs.RootLaws.{at_0}
use Rattle.kb_machine.specs.Aside.{is_aside, IsSameBut, WorksAside}
use Rattle.kb_machine.proofs.AsideThenLaws.{aside_then}
use Rattle.kb_machine.proofs.FitLaws.{root_aside}
use Rattle.kb_intent.specs.Txn.{StaysAside, BeginsTransaction, Stages, IsStagedFor, AreStagedFor, none_staged, with_staged}
use Rattle.kb_intent.specs.declared.txn.Txn.{Txn}
use Rattle.kb_dkms.specs.Commit.{changes_with, Prepares}
use Rattle.kb_dkms.specs.Places.{package_places}
use Rattle.kb_dkms.specs.declared.places.Places.{Places}

-- ---- the tree behind work aside, and the one before

-- the tree before it, which is the same but for what is aside
pub record ToldBefore (roots : Roots) (old : State) (now : Tree) : Type 0 where
  pub tree : Tree
  pub told : old.tree ≡ Some tree
  pub same : IsSameBut (is_aside roots) tree now

pub before_aside : (roots : Roots) (old new : State) (now : Tree) → new.tree ≡ Some now → is_some new.tree ≡ is_some old.tree → WorksAside roots old new → ToldBefore roots old now
before_aside roots old new now told lasts w = by old.tree refl
  where
    some_same : (a b : Tree) → Some a ≡ Some b → a ≡ b
    some_same a b e = cc

    by : (o : Option Tree) → old.tree ≡ o → ToldBefore roots old now
    by None e = let impossible : true ≡ false = sym (ap is_some told) ∙ lasts ∙ ap is_some e in absurd (cc)
    by (Some tree) e =
        let was = w.tree tree e in
        record { tree = tree; told = e; same = subst (IsSameBut (is_aside roots) tree) (some_same was.0 now (sym was.1 ∙ told)) was.2 }

-- ---- calls that stay aside, one after another

pub stays_then : {A B : Type 0} (roots : Roots) (old mid new : State) (first : Result A Stop) (second : Result B Stop) → StaysAside roots old mid first → StaysAside roots mid new second → StaysAside roots old new second
stays_then roots old mid new first second a b = record {
  aside = aside_then roots old mid new a.aside b.aside;
  ran_none = ran_none_then old mid new a.ran_none b.ran_none;
  unrefused = b.unrefused;
  cause = cause_then Fault old mid new first second a.ran_none.lasts.told a.cause b.cause;
}

abbrev right : {A : Type 0} → A → Result A Stop
right value = Ok value

-- it stopped for a reason of which the world knows nothing
pub stays_as : {A B : Type 0} (roots : Roots) (old new : State) (first : A) (second : Result B Stop) → ((why : Stop) → IsErrOf second why → why ≡ NoMemory) → StaysAside roots old new (right first) → StaysAside roots old new second
stays_as roots old new first second due a = record {
  aside = a.aside;
  ran_none = a.ran_none;
  unrefused = λ refusal failed. let impossible : Refused refusal ≡ NoMemory = due (Refused refusal) failed in cc;
  cause = cause_other old new (Ok first) second a.cause (λ failed. let impossible : Fault ≡ NoMemory = due Fault failed in cc);
}

abbrev stopped : {A : Type 0} → Stop → Result A Stop
stopped stop = Err stop

-- it stopped for the same reason
pub stays_stop : {A B : Type 0} (roots : Roots) (old new : State) (stop : Stop) → StaysAside roots old new (stopped {A = A} stop) → StaysAside roots old new (stopped {A = B} stop)
stays_stop {A = A} {B = B} roots old new stop a = record {
  aside = a.aside;
  ran_none = a.ran_none;
  unrefused = λ refusal failed. a.unrefused refusal (back (Refused refusal) failed);
  cause = record { later = a.cause.later; rose = λ failed. a.cause.rose (back Fault failed); steady = a.cause.steady; never = λ told is failed. a.cause.never told is (back Fault failed) };
}
  where
    back : (why : Stop) → stopped {A = B} stop ≡ stopped why → stopped {A = A} stop ≡ stopped why
    back why failed = let is : stop ≡ why = cc in ap (λ s. stopped {A = A} s) is

-- ---- the link of a package is staged

-- the text that is staged is the link's
pub with_text : (text said : List ℕ) (before after : Txn) (old new : State) (result : Result ℕ Stop) → said ≡ text
    → Stages root_name.Dkms (node.Link said) before after old new result → Stages root_name.Dkms (node.Link text) before after old new result
with_text text said before after old new result is s = subst (λ t. Stages root_name.Dkms (node.Link t) before after old new result) is s

-- that is all that the patch puts
link_alone : (roots : Roots) (key : Key) → with_staged root_name.Dkms (node.Link (source_text roots key)) none_staged ≡ nodes_of roots (add_patch roots key)
link_alone roots key = sym (ap staged_in in_dkms)
  where
    link : Path × Node
    link = (link_path roots key, node.Link (source_text roots key))

    in_dkms : root_of roots (link_path roots key) ≡ root_name.Dkms
    in_dkms = ap (λ b. cond b root_name.Dkms (cond (is_under (link_path roots key) roots.src) root_name.Src (cond (is_under (link_path roots key) roots.modules) root_name.Modules root_name.Boot)))
        (under-append roots.dkms (key.module ∷ key.version ∷ codes "source" ∷ []))

    nodes : RootName → RootName → List Node
    nodes put root = map (λ (p : Path × Node). p.1) (cond (same_root put root) (link ∷ []) [])

    staged_in : RootName → Staged
    staged_in put = record { dkms = nodes put root_name.Dkms; src = nodes put root_name.Src; «modules» = nodes put root_name.Modules; boot = nodes put root_name.Boot }

-- the paths of the patch are those that the code has
pub link_paths_are : (roots : Roots) (key : Key) (paths : PatchPaths) (places : Places) → places ≡ package_places roots key → paths ≡ record { drops = []; wipes = []; dirs = []; puts = places.link ∷ [] }
    → ArePathsOf (add_patch roots key) paths
link_paths_are roots key paths places are is = record {
  drops = ap (λ (p : PatchPaths). p.drops) is;
  wipes = ap (λ (p : PatchPaths). p.wipes) is;
  dirs = ap (λ (p : PatchPaths). p.dirs) is;
  puts = ap (λ (p : PatchPaths). p.puts) is ∙ ap (λ (p : Places). p.link ∷ []) are;
}

module _ (job : Job) (old mid : State) (begun : Txn) (b : BeginsTransaction job old mid (Ok begun)) where
  abbrev roots : Roots
  roots = job.host.roots

  -- the directory of the packages is still there
  pub still_root : AreApart roots → ForSome old.tree (λ tree. is_dir (node_at tree roots.dkms) ≡ true) → ForSome mid.tree (λ tree. is_dir (node_at tree begun.roots.dkms) ≡ true)
  still_root apart root now told =
      let was = before_aside roots old mid now told b.aside.ran_none.lasts.told b.aside.aside in
      ap (λ (r : Roots). is_dir (node_at now r.dkms)) b.begun.roots
      ∙ ap is_dir (was.same roots.dkms (root_aside roots apart roots.dkms (at_0 roots.dkms (roots.src ∷ roots.modules ∷ roots.boot ∷ [])))) ∙ root was.tree was.told

  some_same : (a b : Tree) → Some a ≡ Some b → a ≡ b
  some_same a b e = cc

  pub none_is_staged : ForSome mid.tree (IsStagedFor begun)
  none_is_staged now told =
      let was = before_aside roots old mid now told b.aside.ran_none.lasts.told b.aside.aside in
      let cleared = b.cleared was.tree was.told in
      (none_staged, subst (AreStagedFor begun none_staged) (some_same cleared.0 now (sym cleared.1 ∙ told)) cleared.2.staged)

  module _ (key : Key) (request : Option Request) (new : State) where
    abbrev patch : Tree → Patch
    patch tree = add_patch roots key

    module _ (staged : Txn) (number : ℕ) (s : Stages root_name.Dkms (node.Link (source_text roots key)) begun staged mid new (Ok number)) where
      begun_aside : StaysAside roots mid new (Ok number)
      begun_aside = subst (λ r. StaysAside r mid new (right number)) b.begun.roots s.aside

      both : StaysAside roots old new (Ok number)
      both = stays_then roots old mid new (Ok begun) (Ok number) b.aside begun_aside

      pub prepared : (txn : Txn) → txn.roots ≡ staged.roots → txn.intent.changes ≡ staged.intent.changes ++ changes_with staged.roots (add_patch roots key) request → Prepares roots patch request old new (Ok txn)
      prepared txn same changes = record {
        roots_are = same ∙ kept;
        prepared = λ tree told.
            let cleared = b.cleared tree told in
            let now = s.staged cleared.0 cleared.1 in
            let holds = (now.2.staged none_staged cleared.2.staged).held in
            record {
              now = now.0;
              told = now.1;
              changes = changes ∙ ap (λ (t : Txn). t.intent.changes ++ changes_with t.roots (add_patch roots key) request) s.counted
                  ∙ (λ i. b.begun.changes i ++ changes_with (b.begun.roots i) (add_patch roots key) request);
              staged = subst (λ nodes. HasStaged roots nodes now.0) (link_alone roots key)
                  (subst (λ r. HasStaged r (with_staged root_name.Dkms (node.Link (source_text roots key)) none_staged) now.0) b.begun.roots (λ root number at got. (holds root).held number at got));
              unbegun = ap (λ (r : Roots). node_at now.0 (new_intent_path r)) (sym b.begun.roots)
                  ∙ now.2.same (new_intent_path begun.roots) (under-beside begun.roots.dkms (codes ".intent.new" ∷ []) (codes ".kb-staged" ∷ []))
                  ∙ cleared.2.unbegun (new_intent_path begun.roots) (under-self (new_intent_path begun.roots));
            };
        aside = stays_as roots old new number (Ok txn) (λ why failed. let impossible : ◌≡◌ {A = Result Txn Stop} (Ok txn) (Err why) = failed in cc) both;
      }
        where
          kept : staged.roots ≡ roots
          kept = ap (λ (t : Txn). t.roots) s.counted ∙ b.begun.roots

      pub unprepared : Prepares roots patch request old new (Err NoMemory)
      unprepared = record {
        roots_are = tt;
        prepared = λ tree told. tt;
        aside = stays_as roots old new number (Err NoMemory) (λ why failed. let same : NoMemory ≡ why = cc in sym same) both;
      }

    pub unstaged : (staged : Txn) (stop : Stop) → Stages root_name.Dkms (node.Link (source_text roots key)) begun staged mid new (Err stop) → Prepares roots patch request old new (Err stop)
    unstaged staged stop s = record {
      roots_are = tt;
      prepared = λ tree told. tt;
      aside = stays_stop roots old new stop (stays_then roots old mid new (Ok begun) (stopped {A = ℕ} stop) b.aside (subst (λ r. StaysAside r mid new (stopped {A = ℕ} stop)) b.begun.roots s.aside));
    }
