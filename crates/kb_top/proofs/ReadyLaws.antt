-- What a recovery leaves is the tree that is ready, and the call goes on from there.
use Rattle.std.proofs.Common.{◌≡◌, Bool, true, false, cond, not, ◌||◌, List, [], ◌∷◌, ◌++◌, Option, Some, None, is_some, refl, sym, ap, ◌∙◌, subst, inl, inr, append_assoc}
use Rattle.std.specs.Prelude.{Result, Ok, Err}
use Rattle.std.specs.List.{list_any}
use Rattle.std.specs.Option.{ForSome}
use Rattle.std.proofs.lemmas.List.{append-nil}
use Rattle.kb_world.specs.Crash.{LeftOf, Adds}
use Rattle.kb_machine.specs.Does.{Answers}
use Rattle.kb_machine.specs.Outcome.{Outcome}
use Rattle.kb_world.specs.Public.{intent_path, staging_path, public_tree, foreign_tree}
use Rattle.kb_world.specs.Path.{Path, is_under}
use Rattle.kb_world.specs.Script.{Script}
use Rattle.kb_world.specs.State.{State, HasCause, Lasts}
use Rattle.kb_world.specs.Tree.{Tree, node_at, file_bytes, IsFormed}
use Rattle.kb_world.specs.TreeLaws.{node_at-retain}
use Rattle.kb_world.specs.declared.job.Host.{Host}
use Rattle.kb_world.specs.declared.job.Report.{Report}
use Rattle.kb_world.specs.declared.refusal.Refusal.{Refusal}
use Rattle.kb_world.specs.declared.refusal.Refusal.TheVariants as refusal
use Rattle.kb_world.specs.declared.child.Request.{Request}
use Rattle.kb_world.specs.declared.roots.Roots.{Roots}
use Rattle.kb_world.specs.declared.stop.Stop.{Stop}
use Rattle.kb_world.specs.declared.stop.Stop.TheVariants.{Refused, Fault, NoMemory}
use Rattle.kb_world.specs.declared.tree.Node.TheVariants as nodes
use Rattle.kb_world.proofs.CrashLaws.{adds_then, adds_wider}
use Rattle.kb_world.proofs.PathLaws.{under-self}
use Rattle.kb_world.proofs.CallLaws.{cause_then, lasts_then}
use Rattle.kb_machine.proofs.OutcomeLaws.{stays_refused}
use Rattle.kb_changes.specs.Change.{done}
use Rattle.kb_changes.specs.Text.{IsJournal}
use Rattle.kb_changes.specs.Valid.{is_kept_out}
use Rattle.kb_changes.specs.declared.change.Intent.{Intent}
use Rattle.kb_changes.specs.declared.change.Recovered.{Recovered}
use Rattle.kb_journal.proofs.IntentLaws.{one_journal}
use Rattle.kb_machine.specs.Across.{Survives, LeavesStanding, DoesAcrossCrashes}
use Rattle.kb_machine.specs.Behind.{is_reached, LeavesBehind, LeavesBehindOf}
use Rattle.kb_machine.specs.Commits.{cleaned}
use Rattle.kb_machine.specs.Opens.{IsReady, at_rest, recovers, Opens}
use Rattle.kb_machine.specs.Stands.{Stands, Rests, OpensOneOf}
use Rattle.kb_machine.proofs.BehindLaws.{front_none, front_then, front_first, keeps_same, keeps_then, keeps_wider, kept_at, unreached_second}
use Rattle.kb_machine.proofs.RestLaws.{ready_at_rest, rests_public}
use Rattle.kb_machine.proofs.TransactLaws.{cleaned_public, cleaned_foreign}
use Rattle.kb_walk.proofs.WipeCalls.{HasFormedTree}
use Rattle.kb_intent.specs.Finish.{HasJournal, KeepsOpening}
use Rattle.kb_intent.specs.Recover.{FoundJournal, HasDamagedJournal, Recovers}
use Rattle.kb_words.specs.Reading.{reading}
use Rattle.kb_words.specs.Words.{Word}
use Rattle.kb_top.specs.Machine.{journal_words, requests_found, behind, machine, outcome_of, damaged_outcome}
use Rattle.kb_top.specs.Serve.{Serves, LeavesBehindAll, touched_by_found, RefusesUnread}
use Rattle.kb_top.specs.Telling.{words_found}

some_same : {T : Type 0} → (a b : T) → Some a ≡ Some b → a ≡ b
some_same a b e = cc

-- ---- what is ready, by what stood

-- where the journal of an intent stands the tree is ready by that intent
pub ready_by : (roots : Roots) (script : Script) (tree ready : Tree) (found : Option Intent) (intent : Intent) → HasJournal roots intent tree → IsReady roots script tree ready found
    → (ready ≡ done roots script intent.changes tree) × (found ≡ Some intent)
ready_by roots script tree ready found intent journal (at_rest none is nothing) = let impossible : Some (nodes.File journal.bytes journal.exec) ≡ None = sym journal.stands ∙ none in absurd (cc)
ready_by roots script tree ready found intent journal (recovers bytes exec other there text is something) =
    let bytes_same : journal.bytes ≡ bytes = some_same journal.bytes bytes (ap file_bytes (sym journal.stands ∙ there)) in
    let same : other ≡ intent = one_journal roots roots bytes other intent text (subst (λ b. IsJournal roots b intent) bytes_same journal.journal) in
    (is ∙ ap (λ (i : Intent). done roots script i.changes tree) same, something ∙ ap Some same)

-- a tree with a damaged journal is never ready
pub never_ready : (roots : Roots) (script : Script) (tree ready : Tree) (found : Option Intent) → HasDamagedJournal roots tree → IsReady roots script tree ready found → ⊥
never_ready roots script tree ready found damage (at_rest none is nothing) = damage.stands none
never_ready roots script tree ready found damage (recovers bytes exec intent there text is something) =
    damage.no_journal intent (record { bytes = bytes; exec = exec; stands = there; journal = text })

-- a tree is ready as one tree
one_ready : (roots : Roots) (script : Script) (tree a b : Tree) (found other : Option Intent) → IsReady roots script tree a found → IsReady roots script tree b other → a ≡ b
one_ready roots script tree a b found other (at_rest none is nothing) second = is ∙ sym (ready_at_rest roots script tree b other none second).0
one_ready roots script tree a b found other (recovers bytes exec intent there text is something) second =
    is ∙ sym (ready_by roots script tree b other intent (record { bytes = bytes; exec = exec; stands = there; journal = text }) second).0

-- the store that stands is its public tree
pub stands_ready : (roots : Roots) (store : Tree) (state : State) (tree ready : Tree) (found : Option Intent) → state.tree ≡ Some tree → IsFormed tree → IsReady roots state.script tree ready found → Stands roots store state
    → public_tree roots ready ≡ store
stands_ready roots store state tree ready found told formed is stands =
    let opened = stands.opens tree (subst (λ t. LeftOf state.history.soft t tree) (sym told) (record { each = λ q. inl refl; formed = formed })) in
    ap (public_tree roots) (one_ready roots state.script tree ready opened.0 found opened.1 is opened.2) ∙ opened.3

-- the tree that the recovery left shows what is ready, and its children ran
record IsReadied (roots : Roots) (old mid : State) (tree ready : Tree) (found : Option Intent) (said : Option Recovered) : Type 0 where
  now : Tree
  told : mid.tree ≡ Some now
  public : public_tree roots now ≡ public_tree roots ready
  foreign : foreign_tree roots now ≡ foreign_tree roots ready
  ran : mid.ran ≡ old.ran ++ requests_found roots old.script found tree
  words : words_found said ≡ journal_words found

readied : (roots : Roots) (old mid : State) (tree ready : Tree) (found : Option Intent) (said : Option Recovered) → old.tree ≡ Some tree → IsReady roots old.script tree ready found → FoundJournal roots old mid tree said
    → IsReadied roots old mid tree ready found said
readied roots old mid tree ready found None told is f =
    let r = ready_at_rest roots old.script tree ready found f.bare is in
    record {
      now = tree;
      told = f.unchanged.tree ∙ told;
      public = ap (public_tree roots) (sym r.0);
      foreign = ap (foreign_tree roots) (sym r.0);
      ran = f.unchanged.ran_none.ran ∙ sym (append-nil old.ran) ∙ ap (λ o. old.ran ++ requests_found roots old.script o tree) (sym r.1);
      words = ap journal_words (sym r.1);
    }
readied roots old mid tree ready found (Some recovered) told is f =
    let r = ready_by roots old.script tree ready found f.intent f.stood is in
    let ended : Tree = done roots old.script f.intent.changes tree in
    record {
      now = cleaned roots ended;
      told = f.committed.tree;
      public = cleaned_public roots ended ∙ ap (public_tree roots) (sym r.0);
      foreign = cleaned_foreign roots ended ∙ ap (foreign_tree roots) (sym r.0);
      ran = f.committed.ran ∙ ap (λ o. old.ran ++ requests_found roots old.script o tree) (sym r.1);
      words = ap Some f.words ∙ ap journal_words (sym r.1);
    }

-- no journal is left
cleaned_bare : (roots : Roots) (tree : Tree) → node_at (cleaned roots tree) (intent_path roots) ≡ None
cleaned_bare roots tree = node_at-retain tree (λ path. not (is_kept_out roots path)) (intent_path roots) ∙ ap (λ b. cond (not b) (node_at tree (intent_path roots)) None) kept
  where
    kept : is_kept_out roots (intent_path roots) ≡ true
    kept = ap (λ b. b || list_any (is_under (intent_path roots)) (staging_path roots.dkms ∷ staging_path roots.src ∷ staging_path roots.modules ∷ staging_path roots.boot ∷ [])) (under-self (intent_path roots))

-- a tree that is told now was told
was_told : (old new : Option Tree) (tree : Tree) → is_some new ≡ is_some old → new ≡ Some tree → (was : Tree) × (old ≡ Some was)
was_told (Some was) new tree same told = (was, refl)
was_told None new tree same told = let impossible : true ≡ false = sym (ap is_some told) ∙ same in absurd (cc)

pub left_rooted : (roots : Roots) (old mid : State) → ForSome old.tree (λ tree. old.roots ≡ roots) → Lasts old mid → ForSome mid.tree (λ tree. mid.roots ≡ roots)
left_rooted roots old mid rooted lasts now told = let was = was_told old.tree mid.tree now lasts.told told in lasts.roots ∙ rooted was.0 was.1

pub left_bare : (roots : Roots) (old mid : State) (said : Option Recovered) → Recovers roots old mid (Ok said) → ForSome mid.tree (λ tree. node_at tree (intent_path roots) ≡ None)
left_bare roots old mid said r now told = let was = was_told old.tree mid.tree now r.lasts.told told in by was.0 was.1 said (r.found was.0 was.1)
  where
    by : (was : Tree) → old.tree ≡ Some was → (s : Option Recovered) → FoundJournal roots old mid was s → node_at now (intent_path roots) ≡ None
    by was before None f = ap (λ t. node_at t (intent_path roots)) (some_same now was (sym told ∙ f.unchanged.tree ∙ before)) ∙ f.bare
    by was before (Some recovered) f =
        let ended : Tree = done roots old.script f.intent.changes was in
        ap (λ t. node_at t (intent_path roots)) (some_same now (cleaned roots ended) (sym told ∙ f.committed.tree)) ∙ cleaned_bare roots ended

-- ---- what the recovery left behind, whatever it answered

recovered_behind : (roots : Roots) (old new : State) (result : Result (Option Recovered) Stop) (tree ready : Tree) (found : Option Intent) → Recovers roots old new result → old.tree ≡ Some tree
    → IsReady roots old.script tree ready found → LeavesBehind roots (requests_found roots old.script found tree) (touched_by_found found) tree old new
recovered_behind roots old new result tree ready found r told (at_rest none is nothing) =
    let same = r.at_rest tree told none in
    record {
      ran = front_none (requests_found roots old.script found tree) old new same.ran_none.ran;
      foreign = keeps_same roots (touched_by_found found) tree tree new (same.tree ∙ told) refl;
    }
recovered_behind roots old new result tree ready found r told (recovers bytes exec intent stands text is something) =
    subst (λ f. LeavesBehind roots (requests_found roots old.script f tree) (touched_by_found f) tree old new) (sym something)
    (r.behind tree told intent (record { bytes = bytes; exec = exec; stands = stands; journal = text }))

unreached : (a b : Bool) → (a || b) ≡ false → (a ≡ false) × (b ≡ false)
unreached true b e = let impossible : true ≡ false = e in absurd (cc)
unreached false b e = (refl, e)

-- what came about behind these children
answers_behind : (roots : Roots) (store : Tree) (requests : List Request) (outcome : Outcome) (old mid new : State) (before after : Report) (result : Result (Unit {0}) Stop) → mid.ran ≡ old.ran ++ requests
    → Answers roots store outcome result mid new before after → Answers roots store (behind requests outcome) result old new before after
answers_behind roots store requests outcome old mid new before after (Ok u) ran a = record {
  end = a.end;
  tree = a.tree;
  ran = a.ran ∙ ap (λ so_far. so_far ++ outcome.requests) ran ∙ append_assoc old.ran requests outcome.requests;
  out = a.out;
  err = a.err;
}
answers_behind roots store requests outcome old mid new before after (Err (Refused why)) ran a = record {
  end = a.end;
  tree = a.tree;
  ran = a.ran ∙ ap (λ so_far. so_far ++ outcome.requests) ran ∙ append_assoc old.ran requests outcome.requests;
  out = a.out;
  err = a.err;
}
answers_behind roots store requests outcome old mid new before after (Err Fault) ran a = tt
answers_behind roots store requests outcome old mid new before after (Err NoMemory) ran a = tt

-- ---- the words were done behind the recovery

module _ (host : Host) (words : List Word) (old mid new : State) (said : Option Recovered) (before after : Report) (result : Result (Unit {0}) Stop)
    (rooted : ForSome old.tree (λ tree. old.roots ≡ host.roots)) (formed : HasFormedTree mid) (r : Recovers host.roots old mid (Ok said))
    (d : DoesAcrossCrashes host.roots (machine host mid.script words (words_found said)) mid new before after result)
    (u : (why : Refusal) → reading words ≡ Err why → RefusesUnread host.roots why result) where
  module _ (tree ready : Tree) (found : Option Intent) (told : old.tree ≡ Some tree) (is : IsReady host.roots old.script tree ready found) where
    abbrev there : IsReadied host.roots old mid tree ready found said
    there = readied host.roots old mid tree ready found said told is (r.found tree told)

    abbrev done_there : Outcome
    done_there = machine host mid.script words (words_found said) (public_tree host.roots there.now) (foreign_tree host.roots there.now)

    abbrev right : Outcome
    right = machine host old.script words (journal_words found) (public_tree host.roots ready) (foreign_tree host.roots ready)

    same_outcome : done_there ≡ right
    same_outcome = λ i. machine host (r.lasts.script i) words (there.words i) (there.public i) (there.foreign i)

    roots_there : mid.roots ≡ host.roots
    roots_there = r.lasts.roots ∙ rooted tree told

    answered : Answers host.roots (public_tree host.roots ready) (outcome_of host old.script words tree ready found) result old new before after
    answered =
        let P : Tree → Outcome → Type 0 = λ s o. Answers host.roots s o result mid new before after in
        let came = subst (λ o. P (public_tree host.roots ready) o) same_outcome (subst (λ s. P s done_there) there.public (d.does.answers there.now there.told roots_there)) in
        answers_behind host.roots (public_tree host.roots ready) (requests_found host.roots old.script found tree) right old mid new before after result there.ran came

    survived : (store : Tree) → Stands host.roots store old → Survives host.roots store (outcome_of host old.script words tree ready found) old new result
    survived store stands =
        let kept : KeepsOpening host.roots store old mid (Ok said) = r.survives tree told store stands in
        let same : public_tree host.roots there.now ≡ store = rests_public host.roots store mid there.now there.told (formed there.now there.told) kept.rests in
        let one : Survives host.roots (public_tree host.roots there.now) done_there mid new result = d.survives there.now there.told roots_there (subst (λ s. Rests host.roots s mid) (sym same) kept.rests) in
        let two : Survives host.roots store right mid new result = subst (λ o. Survives host.roots store o mid new result) same_outcome (subst (λ s. Survives host.roots s done_there mid new result) same one) in
        record {
          each_moment = adds_then (OpensOneOf host.roots old.script (store ∷ right.after)) old.history mid.history new.history
              (adds_wider (λ image. Opens host.roots old.script image store) (OpensOneOf host.roots old.script (store ∷ right.after)) old.history mid.history (λ image o. (store, inl refl, o)) kept.each_moment)
              (subst (λ script. Adds (OpensOneOf host.roots script (store ∷ right.after)) mid.history new.history) r.lasts.script two.each_moment);
          end = two.end;
        }

    left_behind : LeavesBehindAll host.roots (outcome_of host old.script words tree ready found) found tree old new
    left_behind =
        let requests = requests_found host.roots old.script found tree in
        let may : Path → Bool = λ path. is_reached (requests ++ right.requests) path || touched_by_found found path in
        let first = recovered_behind host.roots old mid (Ok said) tree ready found r told is in
        let second : LeavesBehindOf host.roots right there.now mid new = subst (λ o. LeavesBehindOf host.roots o there.now mid new) same_outcome (d.behind there.now there.told roots_there) in
        record {
          ran = front_then requests right.requests old mid new there.ran second.ran;
          foreign = keeps_then host.roots may tree there.now new
              (λ path out. kept_at host.roots (touched_by_found found) tree there.now mid there.told first.foreign path (unreached (is_reached (requests ++ right.requests) path) (touched_by_found found path) out).1)
              (keeps_wider host.roots (is_reached right.requests) may there.now new
              (λ path out. unreached_second requests right.requests path (unreached (is_reached (requests ++ right.requests) path) (touched_by_found found path) out).0) second.foreign);
        }

  undamaged : (tree : Tree) → old.tree ≡ Some tree → HasDamagedJournal host.roots tree → ⊥
  undamaged tree told damage = by said (r.found tree told)
    where
      by : (s : Option Recovered) → FoundJournal host.roots old mid tree s → ⊥
      by None f = damage.stands f.bare
      by (Some recovered) f = damage.no_journal f.intent f.stood

  pub serves_on : Serves host words old new before after result
  serves_on = record {
    answers = λ tree told ready found is. answered tree ready found told is;
    refused = λ tree told damage. absurd (undamaged tree told damage);
    damaged = λ tree told damage. absurd (undamaged tree told damage);
    survives = λ tree told ready found is store stands. survived tree ready found told is store stands;
    behind = λ tree told ready found is. left_behind tree ready found told is;
    unread = u;
    lasts = lasts_then old mid new r.lasts d.does.lasts;
    cause = cause_then Fault old mid new (Ok said) result r.lasts.told r.cause d.does.cause;
  }

-- ---- the recovery stopped

abbrev before_words : Stop → Result (Option Recovered) Stop
before_words stop = Err stop

abbrev ended_so : Stop → Result (Unit {0}) Stop
ended_so stop = Err stop

same_fault : (stop : Stop) → ended_so stop ≡ ended_so Fault → before_words stop ≡ before_words Fault
same_fault stop e = ap before_words (let same : stop ≡ Fault = cc in same)

stop_cause : (old new : State) (stop : Stop) → HasCause Fault old new (before_words stop) → HasCause Fault old new (ended_so stop)
stop_cause old new stop a = record {
  later = a.later;
  rose = λ failed. a.rose (same_fault stop failed);
  steady = a.steady;
  never = λ told is failed. a.never told is (same_fault stop failed);
}

pub serves_stopped : (host : Host) (words : List Word) (old new : State) (report : Report) (stop : Stop) → Recovers host.roots old new (Err stop) → Serves host words old new report report (Err stop)
serves_stopped host words old new report stop r = record {
  answers = λ tree told ready found is. answered stop tree ready found told is r;
  refused = λ tree told damage. refused stop tree told damage r;
  damaged = r.damaged;
  survives = λ tree told ready found is store stands. record {
    each_moment = adds_wider (λ image. Opens host.roots old.script image store) _ old.history new.history (λ image o. (store, inl refl, o)) (r.survives tree told store stands).each_moment;
    end = left stop tree ready found told is store (r.survives tree told store stands).stands r;
  };
  behind = λ tree told ready found is. left_behind tree ready found told is;
  unread = λ why read. unread stop why r;
  lasts = r.lasts;
  cause = stop_cause old new stop r.cause;
}
  where
    answered : (s : Stop) (tree ready : Tree) (found : Option Intent) → old.tree ≡ Some tree → IsReady host.roots old.script tree ready found → Recovers host.roots old new (Err s)
        → Answers {T = Unit {0}} host.roots (public_tree host.roots ready) (outcome_of host old.script words tree ready found) (Err s) old new report report
    answered (Refused why) tree ready found told is r = absurd (never_ready host.roots old.script tree ready found ((r.refused why refl).damaged tree told) is)
    answered Fault tree ready found told is r = tt
    answered NoMemory tree ready found told is r = tt

    left : (s : Stop) (tree ready : Tree) (found : Option Intent) → old.tree ≡ Some tree → IsReady host.roots old.script tree ready found → (store : Tree) → Stands host.roots store new → Recovers host.roots old new (Err s)
        → LeavesStanding {T = Unit {0}} host.roots store (outcome_of host old.script words tree ready found).after (Err s) new
    left (Refused why) tree ready found told is store stands r = absurd (never_ready host.roots old.script tree ready found ((r.refused why refl).damaged tree told) is)
    left Fault tree ready found told is store stands r = (store, inl refl, stands)
    left NoMemory tree ready found told is store stands r = (store, inl refl, stands)

    left_behind : (tree ready : Tree) (found : Option Intent) → old.tree ≡ Some tree → IsReady host.roots old.script tree ready found
        → LeavesBehindAll host.roots (outcome_of host old.script words tree ready found) found tree old new
    left_behind tree ready found told is =
        let requests = requests_found host.roots old.script found tree in
        let more : List Request = (machine host old.script words (journal_words found) (public_tree host.roots ready) (foreign_tree host.roots ready)).requests in
        let first = recovered_behind host.roots old new (Err stop) tree ready found r told is in
        record {
          ran = front_first requests more old new first.ran;
          foreign = keeps_wider host.roots (touched_by_found found) (λ path. is_reached (requests ++ more) path || touched_by_found found path) tree new
              (λ path out. (unreached (is_reached (requests ++ more) path) (touched_by_found found path) out).1) first.foreign;
        }

    unread : (s : Stop) (why : Refusal) → Recovers host.roots old new (Err s) → RefusesUnread host.roots why (Err s)
    unread (Refused due) why r = inr (r.refused due refl).path
    unread Fault why r = tt
    unread NoMemory why r = tt

    refused : (s : Stop) (tree : Tree) → old.tree ≡ Some tree → HasDamagedJournal host.roots tree → Recovers host.roots old new (Err s)
        → Answers {T = Unit {0}} host.roots (public_tree host.roots tree) (damaged_outcome host.roots tree) (Err s) old new report report
    refused (Refused why) tree told damage r =
        let same = r.damaged tree told damage in
        subst (λ w. Answers {T = Unit {0}} host.roots (public_tree host.roots tree) (damaged_outcome host.roots tree) (Err (Refused w)) old new report report) (sym (r.refused why refl).path)
        (stays_refused host.roots tree old new (refusal.Damaged (intent_path host.roots)) report (same.tree ∙ told) same.ran_none.ran)
    refused Fault tree told damage r = tt
    refused NoMemory tree told damage r = tt
