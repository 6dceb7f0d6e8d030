-- What a recovery does, by what stands at the journal's path.
use Rattle.std.proofs.Common.{◌≡◌, ◌⊎◌, ℕ, Bool, List, [], Option, Some, None, Result, Ok, Err, refl, sym, ap, ◌∙◌, subst, inl, inr, arith}
use Rattle.std.specs.Prelude.{IfOk}
use Rattle.std.specs.Option.{ForSome}
use Rattle.kb_world.specs.Area.{IsLeft}
use Rattle.kb_world.specs.Crash.{LeftOf, Adds, History}
use Rattle.kb_world.specs.Public.{intent_path, public_tree}
use Rattle.kb_world.specs.Script.{Script}
use Rattle.kb_world.specs.State.{State, HasCause, Looks, Unchanged}
use Rattle.kb_world.specs.Stop.{stop_for}
use Rattle.kb_world.specs.Tree.{Tree, node_at, kind_of, file_bytes, IsFormed}
use Rattle.kb_world.specs.declared.child.Area.{Area}
use Rattle.kb_world.specs.declared.refusal.Refusal.{Refusal}
use Rattle.kb_world.specs.declared.refusal.Refusal.TheVariants.{Damaged}
use Rattle.kb_world.specs.declared.roots.Roots.{Roots}
use Rattle.kb_world.specs.declared.stop.Stop.{Stop}
use Rattle.kb_world.specs.declared.stop.Stop.TheVariants.{Refused, Fault}
use Rattle.kb_world.specs.declared.stop.Stop.TheVariants as stops
use Rattle.kb_world.specs.declared.tree.Kind.{Kind}
use Rattle.kb_world.specs.declared.tree.Kind.TheVariants as kinds
use Rattle.kb_world.specs.declared.tree.Node.{Node}
use Rattle.kb_world.specs.declared.tree.Node.TheVariants as nodes
use Rattle.kb_world.specs.declared.world.WorldError.{WorldError}
use Rattle.kb_world.specs.declared.world.WorldError.TheVariants.{Failed, NoMemory}
use Rattle.kb_world.proofs.CrashLaws.{adds_none}
use Rattle.kb_world.proofs.CallLaws.{rose_since, unchanged_none}
use Rattle.kb_changes.specs.Change.{done, requests_of}
use Rattle.kb_changes.specs.Text.{IsJournal}
use Rattle.kb_changes.specs.declared.change.Intent.{Intent}
use Rattle.kb_changes.specs.declared.change.Recovered.{Recovered}
use Rattle.kb_again.specs.Sparing.{AreSparing, areas_of}
use Rattle.kb_machine.specs.Behind.{touched_by, LeavesBehind}
use Rattle.kb_machine.specs.Opens.{IsReady, at_rest, recovers, own_areas}
use Rattle.kb_machine.specs.Stands.{Stands}
use Rattle.kb_machine.proofs.RestLaws.{spared_journal, ready_at_rest}
use Rattle.kb_walk.proofs.WipeCalls.{HasFormedTree}
use Rattle.kb_intent.specs.Finish.{HasJournal, store_after, KeepsOpening, EndsTransaction}
use Rattle.kb_intent.specs.Recover.{FoundJournal, HasDamagedJournal, IsDamageTold, Recovers}
use Rattle.kb_intent.specs.declared.changing.Ran.{Ran}
use Rattle.kb_intent.proofs.BehindLaws.{unchanged_behind}
use Rattle.kb_intent.proofs.EndLaws.{stands_same}

some_same : (a b : Tree) → Some a ≡ Some b → a ≡ b
some_same a b e = cc

-- ---- nothing is changed

unchanged_stands : (roots : Roots) (store : Tree) (old new : State) → Unchanged old new → Stands roots store old → Stands roots store new
unchanged_stands roots store old new u s = stands_same roots store old new u.tree (ap (λ (h : History). h.soft) u.history) u.ran_none.lasts.script s

unchanged_moments : (Has : Tree → Type 0) (old new : State) → Unchanged old new → Adds Has old.history new.history
unchanged_moments Has old new u = adds_none Has old.history new.history (ap (λ (h : History). h.past) u.history)

abbrev stopped : Stop → Result (Option Recovered) Stop
stopped stop = Err stop

stops_same : (a b : Stop) → stopped a ≡ stopped b → a ≡ b
stops_same a b e = cc

-- it stopped before anything was done
pub recovers_stopped : (roots : Roots) (old new : State) (stop : Stop) → Unchanged old new → HasCause {T = Option Recovered} Fault old new (Err stop) → ((why : Refusal) → stop ≡ Refused why → IsDamageTold roots old why)
    → Recovers roots old new (Err stop)
recovers_stopped roots old new stop u cause refused = record {
  found = λ tree told. tt;
  refused = λ why is. refused why (stops_same stop (Refused why) is);
  damaged = λ tree told damage. u;
  at_rest = λ tree told bare. u;
  behind = λ tree told intent journal. unchanged_behind roots (requests_of roots old.script intent.changes tree) (touched_by intent.changes) tree old new told u;
  survives = λ tree told store stands. record { each_moment = unchanged_moments _ old new u; stands = unchanged_stands roots store old new u stands; rests = tt };
  lasts = u.ran_none.lasts;
  cause = cause;
}

quiet_cause : (old : State) (stop : Stop) → (stop ≡ Fault → ⊥) → HasCause {T = Option Recovered} Fault old old (Err stop)
quiet_cause old stop never = record {
  later = omega arith;
  rose = λ failed. absurd (never (stops_same stop Fault failed));
  steady = λ is. is;
  never = λ told is failed. never (stops_same stop Fault failed);
}

-- memory ran out before anything was done
pub recovers_wanting : (roots : Roots) (state : State) → Recovers roots state state (Err stops.NoMemory)
recovers_wanting roots state = recovers_stopped roots state state stops.NoMemory (unchanged_none state) (quiet_cause state stops.NoMemory (λ e. let impossible : stops.NoMemory ≡ Fault = e in cc)) (λ why e. absurd (let impossible : stops.NoMemory ≡ Refused why = e in cc))

-- what stands there is damaged
pub recovers_damaged : (roots : Roots) (state : State) (path : List (List ℕ)) → path ≡ intent_path roots → ForSome state.tree (HasDamagedJournal roots) → Recovers roots state state (Err (Refused (Damaged path)))
recovers_damaged roots state path there damage =
    recovers_stopped roots state state (Refused (Damaged path)) (unchanged_none state) (quiet_cause state (Refused (Damaged path)) (λ e. let impossible : Refused (Damaged path) ≡ Fault = e in cc))
    (λ why e. record { path = sym (same_why (Damaged path) why e) ∙ ap Damaged there; damaged = damage })
  where
    same_why : (a b : Refusal) → Refused a ≡ Refused b → a ≡ b
    same_why a b e = cc

-- the cause of a call of the world that stopped is that of the stop
pub stop_cause : {A : Type 0} (old new : State) (error : WorldError) → HasCause {T = A} Failed old new (Err error) → HasCause {T = Option Recovered} Fault old new (Err (stop_for error))
stop_cause old new Failed c = record { later = c.later; rose = λ failed. c.rose refl; steady = c.steady; never = λ told is failed. c.never told is refl }
stop_cause old new NoMemory c = record {
  later = c.later;
  rose = λ failed. absurd (quiet (stops_same stops.NoMemory Fault failed));
  steady = c.steady;
  never = λ told is failed. quiet (stops_same stops.NoMemory Fault failed);
}
  where
    quiet : stops.NoMemory ≡ Fault → ⊥
    quiet e = cc

unrefused : (error : WorldError) (why : Refusal) → stop_for error ≡ Refused why → ⊥
unrefused Failed why e = let impossible : Fault ≡ Refused why = e in cc
unrefused NoMemory why e = let impossible : stops.NoMemory ≡ Refused why = e in cc

-- a call that looked stopped it
pub recovers_unseen : {A : Type 0} (roots : Roots) (old new : State) (error : WorldError) (stop : Stop) → stop ≡ stop_for error → Looks {T = A} old new (Err error) → Recovers roots old new (Err stop)
recovers_unseen roots old new error stop is l =
    subst (λ s. Recovers roots old new (Err s)) (sym is) (recovers_stopped roots old new (stop_for error) l.unchanged (stop_cause old new error l.cause) (λ why e. absurd (unrefused error why e)))

-- ---- behind a call that looked

module _ {A : Type 0} (roots : Roots) (old mid new : State) (looked : Result A WorldError) (result : Result (Option Recovered) Stop) (l : Looks old mid looked) where
  abbrev as_old : State
  as_old = record { tree = old.tree; roots = old.roots; script = old.script; ran = old.ran; faults = mid.faults; steady = mid.steady; history = old.history }

  is_as_old : mid ≡ as_old
  is_as_old = λ i. record {
    tree = l.unchanged.tree i;
    roots = l.unchanged.ran_none.lasts.roots i;
    script = l.unchanged.ran_none.lasts.script i;
    ran = l.unchanged.ran_none.ran i;
    faults = mid.faults;
    steady = mid.steady;
    history = l.unchanged.history i;
  }

  unchanged_since : Unchanged as_old new → Unchanged old new
  unchanged_since u = record {
    tree = u.tree;
    history = u.history;
    ran_none = record { ran = u.ran_none.ran; lasts = record { roots = u.ran_none.lasts.roots; script = u.ran_none.lasts.script; told = u.ran_none.lasts.told } };
  }

  found_since : (tree : Tree) (r : Result (Option Recovered) Stop) → IfOk r (FoundJournal roots as_old new tree) → IfOk r (FoundJournal roots old new tree)
  found_since tree (Err stop) f = tt
  found_since tree (Ok None) f = record { bare = f.bare; unchanged = unchanged_since f.unchanged }
  found_since tree (Ok (Some found)) f = record {
    intent = f.intent;
    stood = f.stood;
    words = f.words;
    committed = record { tree = f.committed.tree; ran = f.committed.ran; said = f.committed.said };
    requests = f.requests;
  }

  by_parts : Recovers roots as_old new result → Recovers roots old new result
  by_parts h = record {
    found = λ tree told. found_since tree result (h.found tree told);
    refused = λ why is. let d = h.refused why is in record { path = d.path; damaged = d.damaged };
    damaged = λ tree told damage. unchanged_since (h.damaged tree told damage);
    at_rest = λ tree told bare. unchanged_since (h.at_rest tree told bare);
    behind = λ tree told intent journal.
        let b = h.behind tree told intent journal in
        record { ran = record { front = b.ran.front; back = b.ran.back; split = b.ran.split; ran = b.ran.ran }; foreign = b.foreign };
    survives = λ tree told store stands.
        let k = h.survives tree told store (record { opens = stands.opens; spares = stands.spares }) in
        record { each_moment = k.each_moment; stands = k.stands; rests = k.rests };
    lasts = record { roots = h.lasts.roots; script = h.lasts.script; told = h.lasts.told };
    cause = record {
      later = omega (arith, l.cause.later, h.cause.later);
      rose = λ failed. rose_since old.faults mid.faults new.faults l.cause.later (h.cause.rose failed);
      steady = λ is. h.cause.steady (l.cause.steady is);
      never = λ told is failed. h.cause.never told (l.cause.steady is) failed;
    };
  }

  pub recovers_since : Recovers roots mid new result → Recovers roots old new result
  recovers_since h = by_parts (subst (λ s. Recovers roots s new result) is_as_old h)

-- ---- nothing stands at the journal's path

pub absent_stands : (at : Option Node) → kinds.Absent ≡ kind_of at → at ≡ None
absent_stands None e = refl
absent_stands (Some nodes.Dir) e = absurd (let impossible : kinds.Absent ≡ kinds.Dir = e in cc)
absent_stands (Some (nodes.File bytes exec)) e = absurd (let impossible : kinds.Absent ≡ kind_of (Some (nodes.File bytes exec)) = e in cc)
absent_stands (Some (nodes.Link text)) e = absurd (let impossible : kinds.Absent ≡ kinds.Link = e in cc)

left_itself : (soft : List Area) (tree : Tree) → IsFormed tree → IsLeft soft tree tree
left_itself soft tree formed = record { each = λ q. inl refl; formed = formed }

pub recovers_bare : (roots : Roots) (state : State) → ForSome state.tree (λ tree. node_at tree (intent_path roots) ≡ None) → Recovers roots state state (Ok None)
recovers_bare roots state bare = record {
  found = λ tree told. record { bare = bare tree told; unchanged = unchanged_none state };
  refused = λ why is. absurd (not_refused why is);
  damaged = λ tree told damage. unchanged_none state;
  at_rest = λ tree told none. unchanged_none state;
  behind = λ tree told intent journal.
      unchanged_behind roots (requests_of roots state.script intent.changes tree) (touched_by intent.changes) tree state state told (unchanged_none state);
  survives = λ tree told store stands. record {
    each_moment = adds_none _ state.history state.history refl;
    stands = stands;
    rests = record {
      no_journal = λ image left.
          let ready = stands.spares tree told in
          let spares : AreSparing roots [] state.history.soft = subst (λ found. AreSparing roots (own_areas found) state.history.soft) (ready_at_rest roots state.script tree ready.0 ready.1 (bare tree told) ready.2).1 ready.3 in
          spared_journal roots [] state.history.soft tree image spares (subst (λ o. LeftOf state.history.soft o image) told left) ∙ bare tree told;
      stands = stands;
    };
  };
  lasts = record { roots = refl; script = refl; told = refl };
  cause = record {
    later = omega arith;
    rose = λ failed. absurd (not_failed failed);
    steady = λ is. is;
    never = λ told is failed. not_failed failed;
  };
}
  where
    nothing : Result (Option Recovered) Stop
    nothing = Ok None

    not_refused : (why : Refusal) → Ok None ≡ stopped (Refused why) → ⊥
    not_refused why e = cc

    not_failed : Ok None ≡ stopped Fault → ⊥
    not_failed e = cc

-- ---- no file with the text of an intent stands there

not_none : (node : Node) → Some node ≡ None → ⊥
not_none node e = cc

-- a directory or a link
pub unfit_damaged : (roots : Roots) (tree : Tree) (kind : Kind) → (kind ≡ kinds.Dir) ⊎ (kind ≡ kinds.Link) → kind ≡ kind_of (node_at tree (intent_path roots)) → HasDamagedJournal roots tree
unfit_damaged roots tree kind unfit is = record {
  stands = λ none. by_none unfit (is ∙ ap kind_of none);
  no_journal = λ intent journal. by_file journal.bytes journal.exec unfit (is ∙ ap kind_of journal.stands);
}
  where
    by_none : (kind ≡ kinds.Dir) ⊎ (kind ≡ kinds.Link) → kind ≡ kinds.Absent → ⊥
    by_none (inl dir) e = let impossible : kinds.Dir ≡ kinds.Absent = sym dir ∙ e in cc
    by_none (inr link) e = let impossible : kinds.Link ≡ kinds.Absent = sym link ∙ e in cc

    by_file : (bytes : List ℕ) (exec : Bool) → (kind ≡ kinds.Dir) ⊎ (kind ≡ kinds.Link) → kind ≡ kind_of (Some (nodes.File bytes exec)) → ⊥
    by_file bytes exec (inl dir) e = let impossible : kinds.Dir ≡ kind_of (Some (nodes.File bytes exec)) = sym dir ∙ e in cc
    by_file bytes exec (inr link) e = let impossible : kinds.Link ≡ kind_of (Some (nodes.File bytes exec)) = sym link ∙ e in cc

-- a file with this text, which no valid intent has
pub text_damaged : (roots : Roots) (tree : Tree) (text : List ℕ) → file_bytes (node_at tree (intent_path roots)) ≡ Some text → ((intent : Intent) → IsJournal roots text intent → ⊥) → HasDamagedJournal roots tree
text_damaged roots tree text there none = record {
  stands = λ absent. let impossible : None ≡ Some text = sym (ap file_bytes absent) ∙ there in cc;
  no_journal = λ intent journal. none intent (subst (λ t. IsJournal roots t intent) (text_is journal.bytes (sym (ap file_bytes journal.stands) ∙ there)) journal.journal);
}
  where
    text_is : (bytes : List ℕ) → Some bytes ≡ Some text → bytes ≡ text
    text_is bytes e = cc

-- ---- the journal of an intent stands

-- a file with this text stands there
pub text_stands : (at : Option Node) (text : List ℕ) → file_bytes at ≡ Some text → (exec : Bool) × (at ≡ Some (nodes.File text exec))
text_stands (Some (nodes.File bytes exec)) text e = (exec, ap (λ b. Some (nodes.File b exec)) (let same : bytes ≡ text = cc in same))
text_stands (Some nodes.Dir) text e = absurd (let impossible : None ≡ Some text = e in cc)
text_stands (Some (nodes.Link other)) text e = absurd (let impossible : None ≡ Some text = e in cc)
text_stands None text e = absurd (let impossible : None ≡ Some text = e in cc)

pub text_journal : (roots : Roots) (tree : Tree) (text : List ℕ) (intent : Intent) → file_bytes (node_at tree (intent_path roots)) ≡ Some text → IsJournal roots text intent → HasJournal roots intent tree
text_journal roots tree text intent there journal = let s = text_stands (node_at tree (intent_path roots)) text there in record { bytes = text; exec = s.0; stands = s.1; journal = journal }

pub text_only : (roots : Roots) (tree : Tree) (text : List ℕ) (intent : Intent) → file_bytes (node_at tree (intent_path roots)) ≡ Some text → ((other : Intent) → IsJournal roots text other → other ≡ intent)
    → (other : Intent) → HasJournal roots other tree → other ≡ intent
text_only roots tree text intent there only other journal = only other (subst (λ t. IsJournal roots t other) (text_is journal.bytes (sym (ap file_bytes journal.stands) ∙ there)) journal.journal)
  where
    text_is : (bytes : List ℕ) → Some bytes ≡ Some text → bytes ≡ text
    text_is bytes e = cc

-- what stands is ready by that intent
ready_by : (roots : Roots) (script : Script) (tree ready : Tree) (found : Option Intent) (intent : Intent) → HasJournal roots intent tree → ((other : Intent) → HasJournal roots other tree → other ≡ intent)
    → IsReady roots script tree ready found → (ready ≡ done roots script intent.changes tree) × (found ≡ Some intent)
ready_by roots script tree ready found intent journal only (at_rest none is nothing) = absurd (not_none (nodes.File journal.bytes journal.exec) (sym journal.stands ∙ none))
ready_by roots script tree ready found intent journal only (recovers bytes exec other there text is something) =
    let same = only other (record { bytes = bytes; exec = exec; stands = there; journal = text }) in
    (is ∙ ap (λ (i : Intent). done roots script i.changes tree) same, something ∙ ap Some same)

module _ (roots : Roots) (intent : Intent) (old new : State) (formed : HasFormedTree old) (journal : ForSome old.tree (HasJournal roots intent))
    (only : ForSome old.tree (λ tree. (other : Intent) → HasJournal roots other tree → other ≡ intent)) where
  -- the store that stands is the one that doing it leaves, and no soft area does harm
  store_is : (tree : Tree) → old.tree ≡ Some tree → (store : Tree) → Stands roots store old → (store_after roots old.script intent.changes tree ≡ store) × AreSparing roots (areas_of intent.changes) old.history.soft
  store_is tree told store stands =
      let opened = stands.opens tree (subst (λ o. LeftOf old.history.soft o tree) (sym told) (left_itself old.history.soft tree (formed tree told))) in
      let spared = stands.spares tree told in (
        ap (public_tree roots) (sym (ready_by roots old.script tree opened.0 opened.1 intent (journal tree told) (only tree told) opened.2).0) ∙ opened.3,
        subst (λ found. AreSparing roots (own_areas found) old.history.soft) (ready_by roots old.script tree spared.0 spared.1 intent (journal tree told) (only tree told) spared.2).1 spared.3,
      )

  keeps : (result : Result Ran WorldError) → EndsTransaction roots intent.changes old new result → (tree : Tree) → old.tree ≡ Some tree → (store : Tree) → Stands roots store old → KeepsOpening roots store old new result
  keeps result f tree told store stands =
      let is = store_is tree told store stands in
      subst (λ other. KeepsOpening roots other old new result) is.0 (f.survives tree told intent (journal tree told) refl is.1)

  -- one stands, and it is this intent's
  not_at_rest : (tree : Tree) → old.tree ≡ Some tree → node_at tree (intent_path roots) ≡ None → ⊥
  not_at_rest tree told none = let stood = journal tree told in not_none (nodes.File stood.bytes stood.exec) (sym stood.stands ∙ none)

  left_behind : (result : Result Ran WorldError) → EndsTransaction roots intent.changes old new result → (tree : Tree) → old.tree ≡ Some tree → (other : Intent) → HasJournal roots other tree
      → LeavesBehind roots (requests_of roots old.script other.changes tree) (touched_by other.changes) tree old new
  left_behind result f tree told other stood =
      subst (λ (i : Intent). LeavesBehind roots (requests_of roots old.script i.changes tree) (touched_by i.changes) tree old new) (sym (only tree told other stood)) (f.behind tree told)

  pub recovers_done : (ran : Ran) → EndsTransaction roots intent.changes old new (Ok ran) → Recovers roots old new (Ok (Some (record { words = intent.words; requests = ran.requests; replies = ran.replies })))
  recovers_done ran f = record {
    found = λ tree told. record {
      intent = intent;
      stood = journal tree told;
      words = refl;
      committed = (f.done tree told).committed;
      requests = (f.done tree told).requests;
    };
    refused = λ why is. absurd (not_stopped (Refused why) is);
    damaged = λ tree told damage. absurd (damage.no_journal intent (journal tree told));
    at_rest = λ tree told none. absurd (not_at_rest tree told none);
    behind = left_behind (Ok ran) f;
    survives = λ tree told store stands. let k = keeps (Ok ran) f tree told store stands in record { each_moment = k.each_moment; stands = k.stands; rests = k.rests };
    lasts = f.lasts;
    cause = record {
      later = f.cause.later;
      rose = λ failed. absurd (not_stopped Fault failed);
      steady = f.cause.steady;
      never = λ told is failed. not_stopped Fault failed;
    };
  }
    where
      not_stopped : (stop : Stop) → Ok (Some (record { words = intent.words; requests = ran.requests; replies = ran.replies })) ≡ stopped stop → ⊥
      not_stopped stop e = cc

  pub recovers_cut : (error : WorldError) (stop : Stop) → stop ≡ stop_for error → EndsTransaction roots intent.changes old new (Err error) → Recovers roots old new (Err stop)
  recovers_cut error stop is f = subst (λ s. Recovers roots old new (Err s)) (sym is) (record {
    found = λ tree told. tt;
    refused = λ why failed. absurd (unrefused error why (stops_same (stop_for error) (Refused why) failed));
    damaged = λ tree told damage. absurd (damage.no_journal intent (journal tree told));
    at_rest = λ tree told none. absurd (not_at_rest tree told none);
    behind = left_behind (Err error) f;
    survives = λ tree told store stands. let k = keeps (Err error) f tree told store stands in record { each_moment = k.each_moment; stands = k.stands; rests = tt };
    lasts = f.lasts;
    cause = stop_cause old new error f.cause;
  })
