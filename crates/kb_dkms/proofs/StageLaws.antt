-- Files and links are staged below the root of sources, one behind another.
use Rattle.std.proofs.Common.{◌≡◌, ℕ, ◌+◌, ◌<◌, ◌^◌, false, true, cond, not, ◌&&◌, List, [], ◌∷◌, ◌++◌, length, take, get_or, map, Option, Some, refl, sym, ap, ◌∙◌, subst, append_assoc, arith, length-append}
use Rattle.std.proofs.lemmas.List.{append-nil, map-append, length-take-le}
use Rattle.std.proofs.lemmas.List.Elements.{filter_more, All-get_or}
use Rattle.std.proofs.lemmas.List.Filters.{length-filter_both}
use Rattle.std.specs.Prelude.{Result, Ok, Err, OnOk, unwrap_or}
use Rattle.std.specs.List.{All, AllByRecursion}
use Rattle.std.specs.Option.{ForSome}
use Rattle.kb_world.specs.Crash.{History}
use Rattle.kb_world.specs.Path.{Path, is_under}
use Rattle.kb_world.specs.Public.{intent_path, is_private, staging_path}
use Rattle.kb_world.specs.Roots.{AreApart}
use Rattle.kb_world.specs.State.{State, Looks, Unchanged}
use Rattle.kb_world.specs.Stop.{stop_for}
use Rattle.kb_world.specs.Tree.{Tree, node_at, kind_of, is_dir}
use Rattle.kb_world.specs.declared.roots.Roots.{Roots}
use Rattle.kb_world.specs.declared.stop.Stop.{Stop}
use Rattle.kb_world.specs.declared.tree.Node.{Node}
use Rattle.kb_world.specs.declared.tree.Node.TheVariants as node
use Rattle.kb_world.specs.declared.world.WorldError.{WorldError}
use Rattle.kb_world.proofs.CrashLaws.{adds_none}
use Rattle.kb_world.proofs.CallLaws.{unchanged_none, no_cause}
use Rattle.kb_walk.specs.Walking.{is_leaf_kind}
use Rattle.kb_walk.specs.declared.walking.Met.{Met}
use Rattle.kb_changes.specs.declared.change.RootName.TheVariants as root_name
use Rattle.kb_machine.specs.Aside.{is_aside, IsSameBut, IsOldOrAside, LeftAside, WorksAside}
use Rattle.kb_again.proofs.RootLaws.{at_1}
use Rattle.kb_machine.proofs.AsideThenLaws.{aside_none}
use Rattle.kb_machine.proofs.FitLaws.{root_aside}
use Rattle.kb_intent.specs.Txn.{StaysAside, Stages, IsStagedFor, AreStagedFor}
use Rattle.kb_intent.specs.declared.txn.Txn.{Txn}
use Rattle.kb_intent.proofs.ButLaws.{stays_done, stays_stopped}
use Rattle.kb_intent.proofs.StopLaws.{done_unrefused}
use Rattle.kb_dkms.specs.Copying.{leaves_met, node_there, nodes_met, StandsAsMet, with_sources, with_sources_counted, AreSourcesStaged, AreSourcesStagedNow, StagesSources, StagesMet}
use Rattle.kb_dkms.proofs.PrepareLaws.{ToldBefore, before_aside, stays_then, stays_as, stays_stop}

abbrev right : {T : Type 0} → T → Result T Stop
right value = Ok value

abbrev found : {T : Type 0} → T → Result T WorldError
found value = Ok value

abbrev stopped : {T : Type 0} → Stop → Result T Stop
stopped stop = Err stop

-- ---- none, and one

none_more : (before : Txn) → before ≡ with_sources_counted 0 before
none_more before = (λ i. record before { staged = record before.staged { src = plus_none i } })
  where
    plus_none : before.staged.src ≡ before.staged.src + 0
    plus_none = omega arith

-- what only looks stages none
pub sources_none : {T : Type 0} (before : Txn) (old new : State) (result : Result T Stop) → ((tree : Tree) → old.tree ≡ Some tree → new.tree ≡ Some tree) → StaysAside before.roots old new result
    → StagesSources (λ tree. []) 0 before before old new result
sources_none before old new result same aside = record {
  counted = by_result result;
  roots = refl;
  intent = refl;
  staged = λ tree told. at_result tree told result;
  aside = aside;
}
  where
    by_result : {T : Type 0} (r : Result T Stop) → OnOk r (before ≡ with_sources_counted 0 before)
    by_result (Ok value) = none_more before
    by_result (Err stop) = tt

    none_staged : (tree : Tree) → AreSourcesStaged before before [] tree tree
    none_staged tree = record {
      staged = λ staged are. subst (λ src. AreStagedFor before (record { dkms = staged.dkms; src = src; «modules» = staged.«modules»; boot = staged.boot }) tree) (sym (append-nil staged.src)) are;
      same = λ path none. refl;
    }

    at_result : {T : Type 0} (tree : Tree) → old.tree ≡ Some tree → (r : Result T Stop) → OnOk r (AreSourcesStagedNow before before [] new.tree tree)
    at_result tree told (Ok value) = (tree, same tree told, none_staged tree)
    at_result tree told (Err stop) = tt

-- nothing was done
pub sources_nothing : (before : Txn) (state : State) → StagesSources (λ tree. []) 0 before before {T = Unit {0}} state state (Ok tt)
sources_nothing before state = sources_none before state state (right tt) (λ tree told. told) (record {
  aside = aside_none before.roots state;
  ran_none = (unchanged_none state).ran_none;
  unrefused = done_unrefused tt;
  cause = no_cause state tt;
})

-- ---- a call that looked

looks_aside : (roots : Roots) (old new : State) → Unchanged old new → WorksAside roots old new
looks_aside roots old new same = record {
  tree = λ tree told. (tree, same.tree ∙ told, λ path none. refl);
  soft = subst (λ (h : History). AllByRecursion (IsOldOrAside roots old.history.soft) h.soft) (sym same.history) (aside_none roots old).soft;
  moments = λ tree told. adds_none (LeftAside roots old.history.soft tree) old.history new.history (ap (λ (h : History). h.past) same.history);
}

pub sources_looked : {A : Type 0} (before : Txn) (old new : State) (value : A) → Looks old new (found value) → StagesSources (λ tree. []) 0 before before old new (right value)
sources_looked before old new value looked =
    sources_none before old new (right value) (λ tree told. looked.unchanged.tree ∙ told)
    (stays_done before.roots old new value value (looks_aside before.roots old new looked.unchanged) looked.unchanged.ran_none looked.cause)

pub sources_unread : {A : Type 0} (nodes : Tree → List Node) (count : ℕ) (before : Txn) (old new : State) (error : WorldError) (stop : Stop) → stop ≡ stop_for error → Looks {T = A} old new (Err error)
    → StagesSources nodes count before before {T = Unit {0}} old new (Err stop)
sources_unread {A = A} nodes count before old new error stop is looked = record {
  counted = tt;
  roots = refl;
  intent = refl;
  staged = λ tree told. tt;
  aside = stays_stopped {T = Unit {0}} before.roots {A = A} old new error stop is (looks_aside before.roots old new looked.unchanged) looked.unchanged.ran_none looked.cause;
}

-- ---- a call that stages one

pub sources_one : (node : Node) (before after : Txn) (old new : State) (number : ℕ) (u : Unit {0}) → Stages root_name.Src node before after old new (Ok number)
    → StagesSources (λ tree. node ∷ []) 1 before after old new (right u)
sources_one node before after old new number u s = record {
  counted = s.counted;
  roots = ap (λ (t : Txn). t.roots) s.counted;
  intent = ap (λ (t : Txn). t.intent) s.counted;
  staged = λ tree told.
      let now = s.staged tree told in
      (now.0, now.1, record { staged = λ staged are. subst (λ (t : Txn). AreStagedFor t (with_sources (node ∷ []) staged) now.0) (sym s.counted) (now.2.staged staged are); same = now.2.same });
  aside = stays_as before.roots old new number (right u) (λ why failed. let impossible : right u ≡ stopped why = failed in cc) s.aside;
}

pub sources_unstaged : (nodes : Tree → List Node) (count : ℕ) (node : Node) (before after : Txn) (old new : State) (stop : Stop) → Stages root_name.Src node before after old new (Err stop)
    → StagesSources nodes count before after {T = Unit {0}} old new (Err stop)
sources_unstaged nodes count node before after old new stop s = record {
  counted = tt;
  roots = ap (λ (t : Txn). t.roots) s.uncounted;
  intent = ap (λ (t : Txn). t.intent) s.uncounted;
  staged = λ tree told. tt;
  aside = stays_stop before.roots old new stop s.aside;
}

-- ---- one call behind another

-- whatever was to be staged, it stopped so
pub sources_stopped : (nodes other : Tree → List Node) (count more : ℕ) (before after : Txn) (old new : State) (stop : Stop) → StagesSources nodes count before after {T = Unit {0}} old new (Err stop)
    → StagesSources other more before after {T = Unit {0}} old new (Err stop)
sources_stopped nodes other count more before after old new stop s = record { counted = tt; roots = s.roots; intent = s.intent; staged = λ tree told. tt; aside = s.aside }

module _ {A B : Type 0} (first second whole : Tree → List Node) (m n count : ℕ) (before between after : Txn) (old mid new : State) (value : A) (result : Result B Stop)
    (a : StagesSources first m before between old mid (right value)) (b : StagesSources second n between after mid new result) (counts : m + n ≡ count)
    (nodes : (tree now : Tree) → old.tree ≡ Some tree → IsSameBut (is_aside before.roots) tree now → first tree ++ second now ≡ whole tree) where
  some_same : (x y : Tree) → Some x ≡ Some y → x ≡ y
  some_same x y e = cc

  same_roots : StaysAside before.roots mid new result
  same_roots = subst (λ roots. StaysAside roots mid new result) a.roots b.aside

  both_staged : (tree mid_now now : Tree) → old.tree ≡ Some tree → mid.tree ≡ Some mid_now → AreSourcesStaged before between (first tree) tree mid_now → AreSourcesStaged between after (second mid_now) mid_now now
      → AreSourcesStaged before after (whole tree) tree now
  both_staged tree mid_now now told mid_told one two = record {
    staged = λ staged are. subst (λ src. AreStagedFor after (record { dkms = staged.dkms; src = src; «modules» = staged.«modules»; boot = staged.boot }) now)
        (append_assoc staged.src (first tree) (second mid_now) ∙ ap (λ more. staged.src ++ more) (nodes tree mid_now told same_aside))
        (two.staged (with_sources (first tree) staged) (one.staged staged are));
    same = λ path none. two.same path (ap (λ (r : Roots). is_under path (staging_path r.src)) a.roots ∙ none) ∙ one.same path none;
  }
    where
      same_aside : IsSameBut (is_aside before.roots) tree mid_now
      same_aside =
          let was = a.aside.aside.tree tree told in
          subst (IsSameBut (is_aside before.roots) tree) (some_same was.0 mid_now (sym was.1 ∙ mid_told)) was.2

  pub sources_then : StagesSources whole count before after old new result
  sources_then = record {
    counted = by_result result b.counted;
    roots = b.roots ∙ a.roots;
    intent = b.intent ∙ a.intent;
    staged = λ tree told. let one = a.staged tree told in at_result tree told one.0 one.1 one.2 result (b.staged one.0 one.1);
    aside = stays_then before.roots old mid new (right value) result a.aside same_roots;
  }
    where
      more_counted : after ≡ with_sources_counted n between → after ≡ with_sources_counted count before
      more_counted is =
          let plus : (before.staged.src + m) + n ≡ before.staged.src + count = omega (arith, counts) in
          is ∙ ap (with_sources_counted n) a.counted ∙ (λ i. record before { staged = record before.staged { src = plus i } })

      by_result : (r : Result B Stop) → OnOk r (after ≡ with_sources_counted n between) → OnOk r (after ≡ with_sources_counted count before)
      by_result (Ok u) is = more_counted is
      by_result (Err stop) is = tt

      at_result : (tree : Tree) → old.tree ≡ Some tree → (mid_now : Tree) → mid.tree ≡ Some mid_now → AreSourcesStaged before between (first tree) tree mid_now → (r : Result B Stop)
          → OnOk r (AreSourcesStagedNow between after (second mid_now) new.tree mid_now) → OnOk r (AreSourcesStagedNow before after (whole tree) new.tree tree)
      at_result tree told mid_now mid_told one (Ok u) two = (two.0, two.1, both_staged tree mid_now two.0 told mid_told one two.2)
      at_result tree told mid_now mid_told one (Err stop) two = tt

-- ---- a copy of what stands at a path

node_is : (tree : Tree) (path : Path) (at : Node) → node_at tree path ≡ Some at → node_there tree path ≡ at
node_is tree path at is = ap (λ (o : Option Node). unwrap_or o node.Dir) is

-- the node that is staged is the one that was read
module _ {A : Type 0} (path : Path) (at : Node) (before after : Txn) (old mid new : State) (value : A) (looked : Looks old mid (found value)) where
  abbrev there : Tree → List Node
  there tree = node_there tree path ∷ []

  pub copied : (number : ℕ) (said : Node) → ForSome old.tree (λ tree. node_at tree path ≡ Some at) → said ≡ at → Stages root_name.Src said before after mid new (Ok number)
      → StagesSources there 1 before after {T = Unit {0}} old new (Ok tt)
  copied number said is same_node s =
      sources_then (λ tree. []) (λ tree. at ∷ []) there 0 1 1 before before after old mid new value (right tt) (sources_looked before old mid value looked) (sources_one at before after mid new number tt (subst (λ n. Stages root_name.Src n before after mid new (Ok number)) same_node s)) refl
      (λ tree now told same. ap (λ n. n ∷ []) (sym (node_is tree path at (is tree told))))

  pub uncopied : (stop : Stop) → Stages root_name.Src at before after mid new (Err stop) → StagesSources there 1 before after {T = Unit {0}} old new (Err stop)
  uncopied stop s =
      sources_stopped (λ tree. at ∷ []) there 1 1 before after old new stop
      (sources_then {A = A} (λ tree. []) (λ tree. at ∷ []) (λ tree. at ∷ []) 0 1 1 before before after old mid new value (stopped stop) (sources_looked before old mid value looked)
      (sources_unstaged (λ tree. at ∷ []) 1 at before after mid new stop s) refl (λ tree now told same. refl))

-- ---- what was met

module _ (entry : Met) (before after : Txn) (old new : State) (result : Result (Unit {0}) Stop) where
  by_leaf : (leaf : _) → is_leaf_kind entry.kind ≡ leaf → StagesSources (λ tree. map (λ (e : Met). node_there tree e.path) (cond leaf (entry ∷ []) [])) (length (cond leaf (entry ∷ []) [])) before after old new result
      → StagesMet (entry ∷ []) before after old new result
  by_leaf leaf is s = subst (λ b. StagesSources (λ tree. map (λ (e : Met). node_there tree e.path) (cond b (entry ∷ []) [])) (length (cond b (entry ∷ []) [])) before after old new result) (sym is) s

  pub leaf_staged : is_leaf_kind entry.kind ≡ true → StagesSources (λ tree. node_there tree entry.path ∷ []) 1 before after old new result → StagesMet (entry ∷ []) before after old new result
  leaf_staged is s = by_leaf true is s

  pub none_of_it : is_leaf_kind entry.kind ≡ false → StagesSources (λ tree. []) 0 before after old new result → StagesMet (entry ∷ []) before after old new result
  none_of_it is s = by_leaf false is s

-- ---- one entry behind another

module _ (met : List Met) (i : ℕ) (entry : Met) (within : i < length met) (is : entry ≡ get_or met i entry) where
  leaves_more : leaves_met (take (i + 1) met) ≡ leaves_met (take i met) ++ leaves_met (entry ∷ [])
  leaves_more = filter_more (λ (e : Met). is_leaf_kind e.kind) met i entry within ∙ ap (λ e. leaves_met (take i met) ++ leaves_met (e ∷ [])) (sym is)

  nodes_more : (tree : Tree) → nodes_met (take (i + 1) met) tree ≡ nodes_met (take i met) tree ++ nodes_met (entry ∷ []) tree
  nodes_more tree = ap (map (λ (e : Met). node_there tree e.path)) leaves_more ∙ map-append (λ (e : Met). node_there tree e.path) (leaves_met (take i met)) (leaves_met (entry ∷ []))

  count_more : length (leaves_met (take i met)) + length (leaves_met (entry ∷ [])) ≡ length (leaves_met (take (i + 1) met))
  count_more = omega (arith, ap length leaves_more, length-append (leaves_met (take i met)) (leaves_met (entry ∷ [])))

-- where the same stands at each path, the same nodes are copied
pub nodes_agree : (a b : Tree) (met : List Met) → AllByRecursion (λ (e : Met). node_at a e.path ≡ node_at b e.path) met → nodes_met met a ≡ nodes_met met b
nodes_agree a b [] same = refl
nodes_agree a b (entry ∷ met) same = by (is_leaf_kind entry.kind) (ap (λ (at : Option Node). unwrap_or at node.Dir) same.0) (nodes_agree a b met same.1)
  where
    by : (leaf : _) → node_there a entry.path ≡ node_there b entry.path → nodes_met met a ≡ nodes_met met b
        → map (λ (e : Met). node_there a e.path) (cond leaf (entry ∷ leaves_met met) (leaves_met met)) ≡ map (λ (e : Met). node_there b e.path) (cond leaf (entry ∷ leaves_met met) (leaves_met met))
    by true there later = (λ i. there i ∷ later i)
    by false there later = later

-- what isn't private isn't aside
pub own_aside : (roots : Roots) (path : Path) → is_private roots path ≡ false → is_aside roots path ≡ false
own_aside roots path own = ap (λ b. b && not (is_under path (intent_path roots))) own

pub src_kept : (roots : Roots) → AreApart roots → is_aside roots roots.src ≡ false
src_kept roots apart = root_aside roots apart roots.src (at_1 roots.dkms roots.src (roots.modules ∷ roots.boot ∷ []))

module _ (met : List Met) (i : ℕ) (before between : Txn) (old mid : State) (apart : AreApart before.roots) (standing : ForSome old.tree (λ tree. All (StandsAsMet before.roots tree) met))
    (so_far : StagesMet (take i met) before between {T = Unit {0}} old mid (right tt)) where
  was : (now : Tree) → mid.tree ≡ Some now → ToldBefore before.roots old now
  was now told = before_aside before.roots old mid now told so_far.aside.ran_none.lasts.told so_far.aside.aside

  pub still_there : ForSome old.tree (λ tree. is_dir (node_at tree before.roots.src) ≡ true) → ForSome mid.tree (λ tree. is_dir (node_at tree between.roots.src) ≡ true)
  still_there there now told =
      ap (λ (r : Roots). is_dir (node_at now r.src)) so_far.roots
      ∙ ap is_dir ((was now told).same before.roots.src (src_kept before.roots apart)) ∙ there (was now told).tree (was now told).told

  pub still_staged : ForSome old.tree (IsStagedFor before) → ForSome mid.tree (IsStagedFor between)
  still_staged staged now told =
      let before_now = was now told in
      let held = staged before_now.tree before_now.told in
      let then = so_far.staged before_now.tree before_now.told in
      (with_sources (nodes_met (take i met) before_now.tree) held.0, subst (AreStagedFor between _) (some_tree then.0 now (sym then.1 ∙ told)) (then.2.staged held.0 held.1))
    where
      some_tree : (x y : Tree) → Some x ≡ Some y → x ≡ y
      some_tree x y e = cc

  pub still_room : before.staged.src ≡ 0 → i < length met → length met < 2 ^ 64 → between.staged.src + 1 < 2 ^ 64
  still_room none within short = omega (arith, none, ap (λ (t : Txn). t.staged.src) so_far.counted, length-filter_both (λ (e : Met). is_leaf_kind e.kind) (λ (e : Met). not (is_leaf_kind e.kind)) (λ e. refl) (take i met), length-take-le i met)

  module _ (entry : Met) (within : i < length met) (is : entry ≡ get_or met i entry) where
    pub still_met : ForSome mid.tree (λ tree. StandsAsMet between.roots tree entry)
    still_met now told =
        let before_now = was now told in
        let stood = subst (StandsAsMet before.roots before_now.tree) (sym is) (All-get_or (StandsAsMet before.roots before_now.tree) met i entry within (standing before_now.tree before_now.told)) in
        record {
          kind = stood.kind ∙ ap kind_of (sym (before_now.same entry.path (own_aside before.roots entry.path stood.own)));
          own = ap (λ (r : Roots). is_private r entry.path) so_far.roots ∙ stood.own;
        }

    module _ (after : Txn) (new : State) (result : Result (Unit {0}) Stop) (s : StagesMet (entry ∷ []) between after mid new result) where
      pub one_more_met : StagesMet (take (i + 1) met) before after old new result
      one_more_met =
          sources_then (nodes_met (take i met)) (nodes_met (entry ∷ [])) (nodes_met (take (i + 1) met)) (length (leaves_met (take i met))) (length (leaves_met (entry ∷ []))) (length (leaves_met (take (i + 1) met)))
          before between after old mid new tt result so_far s (count_more met i entry within is)
          (λ tree now told same. ap (λ more. nodes_met (take i met) tree ++ more) (same_nodes tree now told same) ∙ sym (nodes_more met i entry within is tree))
        where
          same_nodes : (tree now : Tree) → old.tree ≡ Some tree → IsSameBut (is_aside before.roots) tree now → nodes_met (entry ∷ []) now ≡ nodes_met (entry ∷ []) tree
          same_nodes tree now told same =
              let stood = subst (StandsAsMet before.roots tree) (sym is) (All-get_or (StandsAsMet before.roots tree) met i entry within (standing tree told)) in
              nodes_agree now tree (entry ∷ []) (same entry.path (own_aside before.roots entry.path stood.own), tt)
