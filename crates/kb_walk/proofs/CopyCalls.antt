-- What the calls that copy a directory do, put together.
use Rattle.std.proofs.Common.{◌≡◌, ◌≢◌, ℕ, ◌+◌, ◌<◌, ◌≤◌, Bool, true, false, List, [], ◌∷◌, ◌++◌, length, take, drop, map, get_or, Option, Some, None, is_some, Result, Ok, Err, refl, sym, ap, ◌∙◌, subst, append-nil, arith}
use Rattle.std.specs.Prelude.{option_map, IsErrOf, OnOk}
use Rattle.std.specs.Option.{ForSome, option_or}
use Rattle.std.proofs.lemmas.List.{drop_all, get_or-map, length-map, take_all, take_more}
use Rattle.kb_world.specs.Path.{Path, are_apart}
use Rattle.kb_world.specs.Tree.{Tree, node_at, kind_of, is_dir, with_node, edited, file_bytes, link_text, CanMake}
use Rattle.kb_world.specs.Read.{Agrees, Decides}
use Rattle.kb_world.specs.State.{State, Changes, Looks, Puts, Unchanged, HasCause}
use Rattle.kb_world.specs.Stop.{stop_for}
use Rattle.kb_world.specs.declared.refusal.Refusal.{Refusal}
use Rattle.kb_world.specs.declared.refusal.Refusal.TheVariants as refusal
use Rattle.kb_world.specs.declared.stop.Stop.{Stop}
use Rattle.kb_world.specs.declared.stop.Stop.TheVariants as stops
use Rattle.kb_world.specs.declared.tree.Kind.TheVariants as kinds
use Rattle.kb_world.specs.declared.tree.Node.{Node}
use Rattle.kb_world.specs.declared.tree.Node.TheVariants as nodes
use Rattle.kb_world.specs.declared.world.WorldError.{WorldError}
use Rattle.kb_world.specs.declared.world.WorldError.TheVariants.{Failed, NoMemory}
use Rattle.kb_world.proofs.CallLaws.{unchanged_none}
use Rattle.kb_world.proofs.CrashLaws.{adds_none}
use Rattle.kb_world.proofs.LeftLaws.{left_same}
use Rattle.kb_world.proofs.PathLaws.{under-append, under-self}
use Rattle.kb_walk.specs.Walking.{LIMITS, met_at, paths_below}
use Rattle.kb_walk.specs.declared.walking.Met.{Met}
use Rattle.kb_walk.specs.Copy as copy
use Rattle.kb_walk.specs.Copy.{place_copied, too_much, CanCopyEntry, CanCopyTo, ChangesUnder, Copies, CopiesEntries, CopiesOne, CopiesWhole, IsCopyBegun, IsCopiedInPart, IsCopiedNow, WasCopyBegun}
use Rattle.kb_walk.proofs.OrderLaws.{untrue}
use Rattle.kb_walk.proofs.LimitLaws.{met_all}
use Rattle.kb_walk.proofs.MemberLaws.{skips_none}
use Rattle.kb_walk.proofs.WipeCalls.{HasFormedTree}
use Rattle.kb_walk.proofs.WipeLoop.{path_of, paths_of_met, met_cut, met_seen}
use Rattle.kb_walk.proofs.CopyLoop.{none_copied, one_copied, all_copied, can_copy_next, entry_under}
use Rattle.kb_walk.proofs.UnderLaws.{under_looked, under_made, under_put, under_then, under_wider, under_as, under_stop}

-- ---- what was met, and what was read there

pub file_met : (at : Option Node) (len : ℕ) (exec : Bool) → kind_of at ≡ kinds.File len exec → (bytes : List ℕ) × (at ≡ Some (nodes.File bytes exec))
file_met None len exec e = let impossible : kinds.Absent ≡ kinds.File len exec = e in absurd (cc)
file_met (Some nodes.Dir) len exec e = let impossible : kinds.Dir ≡ kinds.File len exec = e in absurd (cc)
file_met (Some (nodes.File bytes own)) len exec e = (bytes, let same : own ≡ exec = cc in ap (λ x. Some (nodes.File bytes x)) same)
file_met (Some (nodes.Link text)) len exec e = let impossible : kinds.Link ≡ kinds.File len exec = e in absurd (cc)

pub link_met : (at : Option Node) → kind_of at ≡ kinds.Link → (text : List ℕ) × (at ≡ Some (nodes.Link text))
link_met None e = let impossible : kinds.Absent ≡ kinds.Link = e in absurd (cc)
link_met (Some nodes.Dir) e = let impossible : kinds.Dir ≡ kinds.Link = e in absurd (cc)
link_met (Some (nodes.File bytes exec)) e = let impossible : kinds.File (length bytes) exec ≡ kinds.Link = e in absurd (cc)
link_met (Some (nodes.Link text)) e = (text, refl)

pub dir_met : (at : Option Node) → kind_of at ≡ kinds.Dir → at ≡ Some nodes.Dir
dir_met None e = let impossible : kinds.Absent ≡ kinds.Dir = e in absurd (cc)
dir_met (Some nodes.Dir) e = refl
dir_met (Some (nodes.File bytes exec)) e = let impossible : kinds.File (length bytes) exec ≡ kinds.Dir = e in absurd (cc)
dir_met (Some (nodes.Link text)) e = let impossible : kinds.Link ≡ kinds.Dir = e in absurd (cc)

-- a file holds what was read of it
pub file_read : (at : Option Node) (exec : Bool) (bytes : List ℕ) → (held : List ℕ) × (at ≡ Some (nodes.File held exec)) → file_bytes at ≡ Some bytes → at ≡ Some (nodes.File bytes exec)
file_read at exec bytes file read =
    let same : file.0 ≡ bytes = some_bytes file.0 bytes (sym (ap file_bytes file.1) ∙ read) in
    file.1 ∙ ap (λ b. Some (nodes.File b exec)) same
  where
    some_bytes : (x y : List ℕ) → Some x ≡ Some y → x ≡ y
    some_bytes x y e = cc

-- and a link says what was read of it
pub link_read : (at : Option Node) (text : List ℕ) → (said : List ℕ) × (at ≡ Some (nodes.Link said)) → link_text at ≡ Some text → at ≡ Some (nodes.Link text)
link_read at text link read =
    let same : link.0 ≡ text = some_text link.0 text (sym (ap link_text link.1) ∙ read) in
    link.1 ∙ ap (λ t. Some (nodes.Link t)) same
  where
    some_text : (x y : List ℕ) → Some x ≡ Some y → x ≡ y
    some_text x y e = cc

dir_stands_as : (at : Option Node) → is_dir at ≡ true → at ≡ Some nodes.Dir
dir_stands_as None e = absurd (untrue e)
dir_stands_as (Some nodes.Dir) e = refl
dir_stands_as (Some (nodes.File bytes exec)) e = absurd (untrue e)
dir_stands_as (Some (nodes.Link text)) e = absurd (untrue e)

-- ---- one node

abbrev found : {T : Type 0} → T → Result T WorldError
found value = Ok value

abbrev stopped : {T : Type 0} → WorldError → Result T WorldError
stopped error = Err error

no_look : (state : State) → Looks {T = Unit {0}} state state (Ok tt)
no_look state = record {
  unchanged = unchanged_none state;
  cause = record {
    later = omega arith;
    rose = λ failed. let impossible : found tt ≡ stopped Failed = failed in cc;
    steady = λ is. is;
    never = λ told is failed. let impossible : found tt ≡ stopped Failed = failed in cc;
  };
}

-- nothing was done, for want of memory
pub one_wanting : (path place : Path) (state : State) → HasFormedTree state → CopiesOne path place {T = Unit {0}} state state (Err NoMemory)
one_wanting path place state formed = record {
  done = tt;
  under = under_looked place Failed state state (found tt) (stopped {T = Unit {0}} NoMemory) formed (no_look state) (record {
    later = omega arith;
    rose = λ failed. absurd (other failed);
    steady = λ is. is;
    never = λ told is failed. other failed;
  });
}
  where
    other : stopped {T = Unit {0}} NoMemory ≡ stopped Failed → ⊥
    other e = cc

-- the node couldn't be read
pub one_unread : {A : Type 0} (path place : Path) (old new : State) (error : WorldError) → HasFormedTree old → Looks {T = A} old new (Err error) → CopiesOne path place {T = Unit {0}} old new (Err error)
one_unread {A = A} path place old new error formed looked = record {
  done = tt;
  under = under_as {T = A} {U = Unit {0}} place Failed Failed old new (Err error) (Err error) (λ failed. by error failed) (under_looked place Failed old new (stopped {T = A} error) (stopped {T = A} error) formed looked looked.cause);
}
  where
    by : (error : WorldError) → IsErrOf {T = Unit {0}} (stopped error) Failed → IsErrOf {T = A} (stopped error) Failed
    by Failed failed = refl
    by NoMemory failed = let impossible : stopped {T = Unit {0}} NoMemory ≡ stopped Failed = failed in absurd (cc)

-- where a told tree can't be, nothing is to be done
pub one_absent : (path place : Path) (state : State) → HasFormedTree state → ForSome state.tree (λ tree. ⊥) → CopiesOne path place {T = Unit {0}} state state (Ok tt)
one_absent path place state formed never = record {
  done = λ tree told. absurd (never tree told);
  under = under_looked place Failed state state (found tt) (found tt) formed (no_look state) (no_look state).cause;
}

module _ {A T : Type 0} (path place : Path) (at : Node) (old mid new : State) (value : A) (result : Result T WorldError) (formed : HasFormedTree old) (looked : Looks old mid (found value))
    (stands : ForSome old.tree (λ tree. node_at tree path ≡ Some at)) where
  one_behind : OnOk result (new.tree ≡ option_map (with_node place at) mid.tree) → ChangesUnder place Failed mid new result → CopiesOne path place old new result
  one_behind made under = record {
    done = by result made;
    under = under_then place Failed old mid new (found value) result (under_looked place Failed old mid (found value) (found value) formed looked looked.cause) under;
  }
    where
      by : (r : Result T WorldError) → OnOk r (new.tree ≡ option_map (with_node place at) mid.tree) → OnOk r (ForSome old.tree (λ tree. new.tree ≡ Some (edited place (node_at tree path) tree)))
      by (Ok done) made = λ tree told. made ∙ ap (option_map (with_node place at)) (looked.unchanged.tree ∙ told) ∙ ap (λ o. Some (edited place o tree)) (sym (stands tree told))
      by (Err error) made = tt

  pub one_put : (bytes : List ℕ) (exec : Bool) → at ≡ nodes.File bytes exec → HasFormedTree mid → ForSome mid.tree (λ tree. CanMake tree place) → Puts place bytes exec mid new result → CopiesOne path place old new result
  one_put bytes exec is formed_mid can puts = one_behind (subst (λ n. OnOk result (new.tree ≡ option_map (with_node place n) mid.tree)) (sym is) puts.done) (under_put place mid new result formed_mid can bytes exec puts)

  pub one_made : (node : Node) → at ≡ node → HasFormedTree mid → ForSome mid.tree (λ tree. CanMake tree place) → Changes (with_node place node) mid new result → CopiesOne path place old new result
  one_made node is formed_mid can made = one_behind (subst (λ n. OnOk result (new.tree ≡ option_map (with_node place n) mid.tree)) (sym is) made.done) (under_made place mid new result formed_mid can node made)

-- a directory is made
pub one_dir : {T : Type 0} (path place : Path) (old new : State) (result : Result T WorldError) → HasFormedTree old → ForSome old.tree (λ tree. node_at tree path ≡ Some nodes.Dir) → ForSome old.tree (λ tree. CanMake tree place)
    → Changes (with_node place nodes.Dir) old new result → CopiesOne path place old new result
one_dir path place old new result formed stands can made = one_made path place nodes.Dir old old new tt result formed (no_look old) stands nodes.Dir refl formed can made

-- ---- one entry after another

-- so many entries are copied
pub record HasCopied (from to : Path) (mets : List Met) (n : ℕ) (old new : State) : Type 0 where
  pub done : ForSome old.tree (λ tree. (now : Tree) × (new.tree ≡ Some now) × ((before : Tree) → IsCopyBegun from to mets tree before → IsCopiedInPart from to (from ∷ take n (map path_of mets)) before now))
  pub under : ChangesUnder to Failed {T = Unit {0}} old new (Ok tt)

pub none_yet : (from to : Path) (mets : List Met) (state : State) → HasFormedTree state → HasCopied from to mets 0 state state
none_yet from to mets state formed = record {
  done = λ tree told. (tree, told, λ before begun. begun.first);
  under = under_looked to Failed state state (found tt) (found tt) formed (no_look state) (no_look state).cause;
}

told_back : (old mid : State) (now : Tree) → is_some mid.tree ≡ is_some old.tree → mid.tree ≡ Some now → (tree : Tree) × (old.tree ≡ Some tree)
told_back old mid now same told = by old.tree refl
  where
    by : (o : Option Tree) → old.tree ≡ o → (tree : Tree) × (old.tree ≡ Some tree)
    by None e = absurd (untrue (sym (ap is_some e) ∙ sym same ∙ ap is_some told))
    by (Some tree) e = (tree, e)

some_same : (a b : Tree) → Some a ≡ Some b → a ≡ b
some_same a b e = cc

module _ (from to : Path) (apart : are_apart from to ≡ true) (mets : List Met) (old mid : State) (begun : ForSome old.tree (WasCopyBegun from to mets)) (n : ℕ) (h : HasCopied from to mets n old mid) (met : Met) (within : n < length mets)
    (is : met ≡ get_or mets n met) where
  pub can_copy_met : ForSome mid.tree (λ tree. CanCopyEntry from to tree met)
  can_copy_met now told =
      let first = told_back old mid now h.under.ran_none.lasts.told told in
      let done = h.done first.0 first.1 in
      let before = begun first.0 first.1 in
      let b = before.1 in
      subst (λ t. CanCopyEntry from to t met) (some_same done.0 now (sym done.1 ∙ told))
      (can_copy_next from to apart before.0 done.0 b.formed b.directory (take n (map path_of mets)) (drop (n + 1) (map path_of mets)) met.path (met_cut before.0 from mets met n within is b.met) (done.2 before.0 b) met
      (met_seen before.0 from mets met n within is b.met))

  module _ {T : Type 0} (new : State) (result : Result T WorldError) (one : CopiesOne met.path (place_copied to from met.path) mid new result) where
    pub under_more : ChangesUnder to Failed old new result
    under_more = under_then to Failed old mid new (found tt) result h.under (under_wider (place_copied to from met.path) to Failed mid new result (under-append to _) one.under)

  pub one_more : (u : Unit {0}) (new : State) → CopiesOne met.path (place_copied to from met.path) mid new (Ok u) → HasCopied from to mets (n + 1) old new
  one_more u new one = record {
    done = λ tree told.
        let so_far = h.done tree told in (
          edited (place_copied to from met.path) (node_at so_far.0 met.path) so_far.0,
          one.done so_far.0 so_far.1,
          λ before b.
              let under = entry_under from to apart before so_far.0 b.formed b.directory (take n (map path_of mets)) (drop (n + 1) (map path_of mets)) met.path (met_cut before from mets met n within is b.met) (so_far.2 before b) in
              subst (λ paths. IsCopiedInPart from to (from ∷ paths) before (edited (place_copied to from met.path) (node_at so_far.0 met.path) so_far.0))
              (sym (take_more (map path_of mets) n met.path (subst (λ k. n < k) (sym (length-map mets path_of)) within) ∙ ap (λ p. take n (map path_of mets) ++ p ∷ []) (get_or-map path_of mets n met met.path within ∙ ap path_of (sym is))))
              (one_copied from to apart (from ∷ take n (map path_of mets)) before so_far.0 (so_far.2 before b) met.path under),
        );
    under = under_more new (Ok u) one;
  }

  pub one_stopped : (error : WorldError) (new : State) → CopiesOne met.path (place_copied to from met.path) {T = Unit {0}} mid new (Err error) → CopiesEntries from to mets {T = Unit {0}} old new (Err error)
  one_stopped error new one = record { done = tt; under = under_more new (stopped error) one }

pub entries_copied : (from to : Path) → are_apart from to ≡ true → (mets : List Met) (n : ℕ) (old new : State) → length mets ≤ n → HasCopied from to mets n old new → CopiesEntries from to mets {T = Unit {0}} old new (Ok tt)
entries_copied from to apart mets n old new all h = record {
  done = λ tree told before b.
      let so_far = h.done tree told in (
        so_far.0,
        so_far.1,
        all_copied from to apart before so_far.0
            (subst (λ paths. IsCopiedInPart from to (from ∷ paths) before so_far.0) (take_all n (map path_of mets) (omega (arith, all, length-map mets path_of)) ∙ paths_of_met mets from before b.met) (so_far.2 before b)),
      );
  under = h.under;
}

-- ---- the directory itself, and its entries

module _ (from to : Path) (apart : are_apart from to ≡ true) (mets : List Met) (old mid : State) (formed : HasFormedTree old) (can : ForSome old.tree (CanCopyTo from to)) (met : ForSome old.tree (λ tree. mets ≡ map (met_at tree) (paths_below tree from))) where
  begun_of : (u : Unit {0}) → Changes (with_node to nodes.Dir) old mid (Ok u) → (tree : Tree) → old.tree ≡ Some tree → IsCopyBegun from to mets (with_node to nodes.Dir tree) tree
  begun_of u made tree told = record {
    formed = formed tree told;
    directory = (can tree told).directory;
    met = met tree told;
    first = subst (λ t. IsCopiedInPart from to (from ∷ []) tree t) there (one_copied from to apart [] tree tree (none_copied from to apart tree (formed tree told) (can tree told).can_make.free) from (under-self from));
  }
    where
      itself : drop (length from) from ≡ []
      itself = drop_all (length from) from (omega arith)

      there : edited (place_copied to from from) (node_at tree from) tree ≡ with_node to nodes.Dir tree
      there = (λ i. edited ((ap (λ r. to ++ r) itself ∙ append-nil to) i) (dir_stands_as (node_at tree from) (can tree told).directory i) tree)

  pub copy_begun : (u : Unit {0}) → Changes (with_node to nodes.Dir) old mid (Ok u) → ForSome mid.tree (WasCopyBegun from to mets)
  copy_begun u made now told =
      let first = told_back old mid now made.ran_none.lasts.told told in
      (first.0, subst (λ t. IsCopyBegun from to mets t first.0) (some_same (with_node to nodes.Dir first.0) now (sym (made.done ∙ ap (option_map (with_node to nodes.Dir)) first.1) ∙ told)) (begun_of u made first.0 first.1))

  can_make : ForSome old.tree (λ tree. CanMake tree to)
  can_make tree told = (can tree told).can_make

  pub whole_unmade : (error : WorldError) → Changes (with_node to nodes.Dir) {T = Unit {0}} old mid (Err error) → CopiesWhole from to {T = Unit {0}} old mid (Err error)
  whole_unmade error made = record { done = tt; under = under_made to old mid (stopped error) formed can_make nodes.Dir made }

  pub whole_copied : {T : Type 0} (u : Unit {0}) (new : State) (result : Result T WorldError) → Changes (with_node to nodes.Dir) old mid (Ok u) → CopiesEntries from to mets mid new result → CopiesWhole from to old new result
  whole_copied {T = T} u new result made entries = record {
    done = by result entries.done;
    under = under_then to Failed old mid new (found u) result (under_made to old mid (found u) formed can_make nodes.Dir made) entries.under;
  }
    where
      by : (r : Result T WorldError) → OnOk r (ForSome mid.tree (λ tree. (before : Tree) → IsCopyBegun from to mets tree before → IsCopiedNow from to new.tree before)) → OnOk r (ForSome old.tree (IsCopiedNow from to new.tree))
      by (Ok value) done = λ tree told. done (with_node to nodes.Dir tree) (made.done ∙ ap (option_map (with_node to nodes.Dir)) told) tree (begun_of u made tree told)
      by (Err error) done = tt

-- ---- all of it, behind what refuses it

abbrev done_stop : {T : Type 0} → Stop → Result T Stop
done_stop stop = Err stop

agrees_stop : (A B : Type 0) (stop : Stop) (due : Option Refusal) → Agrees (done_stop {T = A} stop) due → Agrees (done_stop {T = B} stop) due
agrees_stop A B (stops.Refused why) due a = a
agrees_stop A B stops.Fault due a = tt
agrees_stop A B stops.NoMemory due a = tt

fault_back : (A B : Type 0) (stop : Stop) → IsErrOf (done_stop {T = B} stop) stops.Fault → IsErrOf (done_stop {T = A} stop) stops.Fault
fault_back A B stop failed = let is : stop ≡ stops.Fault = cc in ap (done_stop {T = A}) is

unchanged_under : {T : Type 0} (path : Path) (old new : State) (result : Result T Stop) → HasFormedTree old → Unchanged old new → HasCause stops.Fault old new result → ChangesUnder path stops.Fault old new result
unchanged_under path old new result formed same cause = record {
  partly = λ tree told. (tree, same.tree ∙ told, left_same _ tree (formed tree told));
  soft = λ i. (same.history i).soft;
  moments = λ tree told. adds_none _ old.history new.history (λ i. (same.history i).past);
  ran_none = same.ran_none;
  cause = cause;
}

module _ (from to : Path) (old mid : State) (formed : HasFormedTree old) where
  -- what was met is too much, or a call stopped
  pub copy_refused : (A : Type 0) (stop : Stop) → Decides (too_much from) old mid (done_stop {T = A} stop) → Copies from to {T = Unit {0}} old mid (Err stop)
  copy_refused A stop d = record {
    done = tt;
    agrees = λ tree told. agrees_stop A (Unit {0}) stop (too_much from tree) (d.agrees tree told);
    bounded = λ tree told much. d.unchanged;
    refused = λ why failed. d.unchanged;
    under = unchanged_under to old mid (done_stop {T = Unit {0}} stop) formed d.unchanged (record {
      later = d.cause.later;
      rose = λ failed. d.cause.rose (fault_back A (Unit {0}) stop failed);
      steady = d.cause.steady;
      never = λ told is failed. d.cause.never told is (fault_back A (Unit {0}) stop failed);
    });
  }

  no_first : {A : Type 0} (f : A → Refusal) (o : Option A) (other : Option Refusal) → option_or (option_map f o) other ≡ None → o ≡ None
  no_first f None other e = refl
  no_first f (Some x) other e = let impossible : Some (f x) ≡ None = e in absurd (cc)

  module _ {A : Type 0} (value : A) (d : Decides (too_much from) old mid (Ok value)) where
    -- all that lies below was met
    pub all_met_small : (mets : List Met) → ForSome old.tree (λ tree. mets ≡ copy.met_below from tree) → ForSome mid.tree (λ tree. mets ≡ map (met_at tree) (paths_below tree from))
    all_met_small mets is tree told =
        let was = sym d.unchanged.tree ∙ told in
        is tree was ∙ met_all LIMITS tree (λ path. false) from (no_first refusal.TooMany _ _ (d.agrees tree was)) ∙ ap (map (met_at tree)) (skips_none tree from)

    before_under : ChangesUnder to stops.Fault old mid (Ok value)
    before_under = unchanged_under to old mid (Ok value) formed d.unchanged d.cause

    small : (tree : Tree) → old.tree ≡ Some tree → too_much from tree ≢ None → ⊥
    small tree told much = much (d.agrees tree told)

    pub copy_done : (u : Unit {0}) (new : State) → CopiesWhole from to mid new (found u) → Copies from to {T = Unit {0}} old new (Ok tt)
    copy_done u new whole = record {
      done = λ tree told. whole.done tree (d.unchanged.tree ∙ told);
      agrees = d.agrees;
      bounded = λ tree told much. absurd (small tree told much);
      refused = λ why failed. absurd (unrefused why failed);
      under = under_then {E = Stop} to stops.Fault old mid new (Ok value) (Ok tt) before_under (under_as to Failed stops.Fault mid new (found u) (Ok tt) (λ failed. absurd (faultless failed)) whole.under);
    }
      where
        unrefused : (why : Refusal) → IsErrOf {T = Unit {0}} {E = Stop} (Ok tt) (stops.Refused why) → ⊥
        unrefused why failed = let impossible : ◌≡◌ {A = Result (Unit {0}) Stop} (Ok tt) (Err (stops.Refused why)) = failed in cc

        faultless : IsErrOf {T = Unit {0}} {E = Stop} (Ok tt) stops.Fault → ⊥
        faultless failed = let impossible : ◌≡◌ {A = Result (Unit {0}) Stop} (Ok tt) (Err stops.Fault) = failed in cc

    pub copy_stopped : (error : WorldError) (stop : Stop) (new : State) → stop ≡ stop_for error → CopiesWhole from to {T = Unit {0}} mid new (Err error) → Copies from to {T = Unit {0}} old new (Err stop)
    copy_stopped error stop new is whole = record {
      done = tt;
      agrees = λ tree told. subst (λ s. Agrees (done_stop {T = Unit {0}} s) (too_much from tree)) (sym is) (no_refusal error (too_much from tree));
      bounded = λ tree told much. absurd (small tree told much);
      refused = λ why failed. absurd (unrefused error why (subst (λ s. IsErrOf (done_stop {T = Unit {0}} s) (stops.Refused why)) is failed));
      under = under_then to stops.Fault old mid new (Ok value) (done_stop {T = Unit {0}} stop) before_under (under_stop to mid new error stop is whole.under);
    }
      where
        no_refusal : (error : WorldError) (due : Option Refusal) → Agrees (done_stop {T = Unit {0}} (stop_for error)) due
        no_refusal Failed due = tt
        no_refusal NoMemory due = tt

        unrefused : (error : WorldError) (why : Refusal) → IsErrOf (done_stop {T = Unit {0}} (stop_for error)) (stops.Refused why) → ⊥
        unrefused Failed why failed = let impossible : done_stop {T = Unit {0}} stops.Fault ≡ done_stop (stops.Refused why) = failed in cc
        unrefused NoMemory why failed = let impossible : done_stop {T = Unit {0}} stops.NoMemory ≡ done_stop (stops.Refused why) = failed in cc
