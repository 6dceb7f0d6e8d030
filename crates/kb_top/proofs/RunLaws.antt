-- The top call is a command and the writing of its report.
use Rattle.std.proofs.Common.{◌≡◌, ◌⊎◌, ℕ, List, [], ◌∷◌, ◌++◌, Option, Some, None, refl, sym, ap, ◌∙◌, subst, inl, inr, arith}
use Rattle.std.specs.Prelude.{Result, Ok, Err}
use Rattle.kb_world.specs.Tree.{Tree}
use Rattle.kb_world.specs.State.{State}
use Rattle.kb_world.specs.Crash.{IsImageOfOne, LeftOf}
use Rattle.kb_world.specs.SinkState.{SinkState}
use Rattle.kb_world.specs.Public.{intent_path, public_tree}
use Rattle.kb_world.specs.Script.{Script}
use Rattle.kb_world.specs.Refusal.{message_of, fault_line, no_memory_line}
use Rattle.kb_machine.specs.Outcome.{Outcome, last_of}
use Rattle.kb_machine.specs.Does.{Answers}
use Rattle.kb_world.specs.declared.roots.Roots.{Roots}
use Rattle.kb_world.specs.declared.job.Host.{Host}
use Rattle.kb_world.specs.declared.job.Report.{Report}
use Rattle.kb_world.specs.declared.refusal.Refusal.{Refusal}
use Rattle.kb_world.specs.declared.refusal.Refusal.TheVariants as refusal
use Rattle.kb_world.specs.declared.stop.Stop.{Stop}
use Rattle.kb_world.specs.declared.stop.Stop.TheVariants.{Refused, Fault, NoMemory}
use Rattle.kb_top.specs.declared.end.End.{End}
use Rattle.kb_top.specs.declared.end.End.TheVariants as end
use Rattle.kb_world.proofs.CrashLaws.{moments_since-added}
use Rattle.kb_world.proofs.CallLaws.{unchanged_none}
use Rattle.std.proofs.lemmas.List.{append-nil}
use Rattle.kb_machine.specs.Across.{Survives, LeavesStanding}
use Rattle.kb_machine.proofs.BehindLaws.{front_none, keeps_same}
use Rattle.kb_machine.specs.Opens.{Opens}
use Rattle.kb_machine.specs.Stands.{Stands, Rests, IsOneOf, OpensOneOf, StandsOneOf}
use Rattle.kb_words.specs.Words.{Word}
use Rattle.kb_top.specs.Machine.{outcome_of, damaged_outcome}
use Rattle.kb_top.specs.Serve.{Serves, ForReady, ForDamaged, RefusesUnread}
use Rattle.kb_top.specs.Run.{Outside, RunsCommand, EndsUnread, RunSurvives, LeavesAtEnd, IsEndOf, IsGivenUp, IsDone, WroteFront, Wrote, WroteNothing, err_text, with_line}
use Rattle.kb_top.specs.Tell.{Sinks, Tells, TellsAs, FinishesAs, SinkFailed, SaysFront, with_message}

-- the end of a command that is due to be refused so, or not
abbrev end_for : Option Refusal → End
end_for None = end.Done
end_for (Some why) = end.Refused why

done_means : (due : Option Refusal) → end_for due ≡ end.Done → due ≡ None
done_means None e = refl
done_means (Some why) e = let impossible : end.Refused why ≡ end.Done = e in cc

refused_means : (due : Option Refusal) (why : Refusal) → end_for due ≡ end.Refused why → due ≡ Some why
refused_means None why e = let impossible : end.Done ≡ end.Refused why = e in cc
refused_means (Some other) why e = let same : end.Refused other ≡ end.Refused why = e in cc

abbrev sinks_of : Outside → Sinks
sinks_of outside = record { out = outside.out; err = outside.err }

-- an outcome whose texts are written ends as it has to
finished : (roots : Roots) (store : Tree) (outcome : Outcome) (due : Option Refusal) (report : Report) (old new : Outside) (result : End)
    → outcome.end ≡ due → IsDone roots store outcome new.world.tree → new.world.ran ≡ old.world.ran ++ outcome.requests → report.out ≡ outcome.out → report.err ≡ err_text outcome
    → FinishesAs (end_for due) report (sinks_of old) (sinks_of new) result → IsEndOf roots store outcome old new result
finished roots store outcome due report old new end.Done ended tree ran out err f = record {
  ended = ended ∙ done_means due f.0;
  tree = tree;
  ran = ran;
  out = subst (λ t. Wrote t old.out new.out) out f.1.out;
  err = subst (λ t. Wrote t old.err new.err) err f.1.err;
}
finished roots store outcome due report old new (end.Refused why) ended tree ran out err f = record {
  ended = ended ∙ refused_means due why f.0;
  tree = tree;
  ran = ran;
  out = subst (λ t. Wrote t old.out new.out) out f.1.out;
  err = subst (λ t. Wrote t old.err new.err) err f.1.err;
}
finished roots store outcome due report old new end.SinkFault ended tree ran out err f = record {
  tree = tree;
  ran = ran;
  out = subst (λ t. WroteFront t old.out new.out) out f.out;
  err = subst (λ t. WroteFront t old.err new.err) err f.err;
  in_order = subst (λ t. Wrote t old.out new.out ⊎ WroteNothing old.err new.err) out f.in_order;
}
finished roots store outcome due report old new end.NoMemory ended tree ran out err f = record {
  out = subst (λ t. WroteNothing old.out new.out ⊎ Wrote t old.out new.out) out f.out;
  err = f.err;
}
finished roots store outcome due report old new end.Fault ended tree ran out err f = absurd f
finished roots store outcome due report old new end.BadRoot ended tree ran out err f = absurd f
finished roots store outcome due report old new end.BadBoot ended tree ran out err f = absurd f

abbrev nothing_said : Report
nothing_said = record { out = []; err = [] }

-- what was served is told
ends_as : (roots : Roots) (store : Tree) (outcome : Outcome) (old new : Outside) (report : Report) (answer : Result (Unit {0}) Stop) (result : End)
    → Answers roots store outcome answer old.world new.world nothing_said report → TellsAs answer report (sinks_of old) (sinks_of new) result → IsEndOf roots store outcome old new result
ends_as roots store outcome old new report (Ok u) result came told =
    finished roots store outcome None report old new result came.end came.tree came.ran came.out (came.err ∙ ap (with_line outcome.err) (sym came.end)) told
ends_as roots store outcome old new report (Err (Refused why)) result came told =
    finished roots store outcome (Some why) (with_message report why) old new result came.end came.tree came.ran came.out
    (ap (λ t. t ++ message_of why) came.err ∙ ap (with_line outcome.err) (sym came.end)) told
ends_as roots store outcome old new report (Err Fault) result came told = subst (λ e. IsEndOf roots store outcome old new e) (sym told.0) tt
ends_as roots store outcome old new report (Err NoMemory) result came told =
    let given_up : IsGivenUp outcome old new = record { out = inl told.1; err = told.2 } in
    subst (λ e. IsEndOf roots store outcome old new e) (sym told.0) given_up

-- ---- which end comes when

tells_fault : (report : Report) (old new : Sinks) (result : End) (answer : Result (Unit {0}) Stop) → TellsAs answer report old new result → result ≡ end.Fault
    → (answer ≡ Err Fault) × WroteNothing old.out new.out × WroteFront fault_line old.err new.err
tells_fault report old new result (Ok u) told e = absurd (subst (λ r. FinishesAs end.Done report old new r) e told)
tells_fault report old new result (Err (Refused why)) told e = absurd (subst (λ r. FinishesAs (end.Refused why) (with_message report why) old new r) e told)
tells_fault report old new result (Err Fault) told e = (refl, told.1, told.2)
tells_fault report old new result (Err NoMemory) told e = let impossible : end.NoMemory ≡ end.Fault = sym told.0 ∙ e in (cc, cc, cc)

tells_sink : (report : Report) (old new : Sinks) (result : End) (answer : Result (Unit {0}) Stop) → TellsAs answer report old new result → result ≡ end.SinkFault → SinkFailed old new
tells_sink report old new result (Ok u) told e = (subst (λ r. FinishesAs end.Done report old new r) e told).failed
tells_sink report old new result (Err (Refused why)) told e = (subst (λ r. FinishesAs (end.Refused why) (with_message report why) old new r) e told).failed
tells_sink report old new result (Err Fault) told e = let impossible : end.Fault ≡ end.SinkFault = sym told.0 ∙ e in cc
tells_sink report old new result (Err NoMemory) told e = let impossible : end.NoMemory ≡ end.SinkFault = sym told.0 ∙ e in cc

-- none of the ends of a setting
abbrev pub IsNoSetting : End → Type 0
IsNoSetting result = (result ≡ end.BadRoot → ⊥) × (result ≡ end.BadBoot → ⊥)

tells_no_setting : (report : Report) (old new : Sinks) (result : End) (answer : Result (Unit {0}) Stop) → TellsAs answer report old new result → IsNoSetting result
tells_no_setting report old new result (Ok u) told = (λ e. subst (λ r. FinishesAs end.Done report old new r) e told, λ e. subst (λ r. FinishesAs end.Done report old new r) e told)
tells_no_setting report old new result (Err (Refused why)) told =
    (λ e. subst (λ r. FinishesAs (end.Refused why) (with_message report why) old new r) e told, λ e. subst (λ r. FinishesAs (end.Refused why) (with_message report why) old new r) e told)
tells_no_setting report old new result (Err Fault) told =
    (λ e. let impossible : end.Fault ≡ end.BadRoot = sym told.0 ∙ e in cc, λ e. let impossible : end.Fault ≡ end.BadBoot = sym told.0 ∙ e in cc)
tells_no_setting report old new result (Err NoMemory) told =
    (λ e. let impossible : end.NoMemory ≡ end.BadRoot = sym told.0 ∙ e in cc, λ e. let impossible : end.NoMemory ≡ end.BadBoot = sym told.0 ∙ e in cc)

-- ---- words that are no command line

unread_finished : (roots : Roots) (why due : Refusal) (report : Report) (old new : Sinks) (result : End) → (due ≡ why) ⊎ (due ≡ refusal.Damaged (intent_path roots))
    → FinishesAs (end.Refused due) report old new result → EndsUnread roots why result
unread_finished roots why due report old new end.Done one f = let impossible : end.Refused due ≡ end.Done = f.0 in absurd (cc)
unread_finished roots why due report old new (end.Refused other) one f =
    let ends : end.Refused due ≡ end.Refused other = f.0 in
    let same : due ≡ other = cc in
    subst (λ w. (w ≡ why) ⊎ (w ≡ refusal.Damaged (intent_path roots))) same one
unread_finished roots why due report old new end.SinkFault one f = tt
unread_finished roots why due report old new end.NoMemory one f = tt
unread_finished roots why due report old new end.Fault one f = absurd f
unread_finished roots why due report old new end.BadRoot one f = absurd f
unread_finished roots why due report old new end.BadBoot one f = absurd f

ends_unread : (roots : Roots) (why : Refusal) (report : Report) (old new : Sinks) (result : End) (answer : Result (Unit {0}) Stop) → TellsAs answer report old new result → RefusesUnread roots why answer
    → EndsUnread roots why result
ends_unread roots why report old new result (Ok u) told one = absurd one
ends_unread roots why report old new result (Err (Refused due)) told one = unread_finished roots why due (with_message report due) old new result one told
ends_unread roots why report old new result (Err Fault) told one = subst (EndsUnread roots why) (sym told.0) tt
ends_unread roots why report old new result (Err NoMemory) told one = subst (EndsUnread roots why) (sym told.0) tt

-- ---- what a crash leaves

last_is_one : (store : Tree) (after : List Tree) → IsOneOf (last_of store after) (store ∷ after)
last_is_one store [] = inl refl
last_is_one store (next ∷ after) = inr (last_is_one next after)

module _ (roots : Roots) (store : Tree) (after : List Tree) (new : State) where
  rests_one : Rests roots (last_of store after) new → StandsOneOf roots (store ∷ after) new
  rests_one rests = (last_of store after, last_is_one store after, rests.stands)

  -- whatever the command answered, one of the stores stands
  one_stands : (answer : Result (Unit {0}) Stop) → LeavesStanding roots store after answer new → StandsOneOf roots (store ∷ after) new
  one_stands (Ok u) rests = rests_one rests
  one_stands (Err (Refused why)) rests = rests_one rests
  one_stands (Err Fault) one = one
  one_stands (Err NoMemory) one = one

  leaves_finished : (due : End) (report : Report) (before behind : Sinks) (result : End) → FinishesAs due report before behind result → Rests roots (last_of store after) new → LeavesAtEnd roots store after new result
  leaves_finished due report before behind end.Done f rests = rests
  leaves_finished due report before behind (end.Refused why) f rests = rests
  leaves_finished due report before behind end.SinkFault f rests = rests
  leaves_finished due report before behind end.NoMemory f rests = rests_one rests
  leaves_finished due report before behind end.Fault f rests = absurd f
  leaves_finished due report before behind end.BadRoot f rests = absurd f
  leaves_finished due report before behind end.BadBoot f rests = absurd f

  leaves_told : (report : Report) (before behind : Sinks) (result : End) (answer : Result (Unit {0}) Stop) → TellsAs answer report before behind result → LeavesStanding roots store after answer new
      → LeavesAtEnd roots store after new result
  leaves_told report before behind result (Ok u) told left = leaves_finished end.Done report before behind result told left
  leaves_told report before behind result (Err (Refused why)) told left = leaves_finished (end.Refused why) (with_message report why) before behind result told left
  leaves_told report before behind result (Err Fault) told left = subst (LeavesAtEnd roots store after new) (sym told.0) left
  leaves_told report before behind result (Err NoMemory) told left = subst (LeavesAtEnd roots store after new) (sym told.0) left

-- a crash now opens one of the stores, where one of them stands
opens_now : (roots : Roots) (script : Script) (stores : List Tree) (new : State) → new.script ≡ script → StandsOneOf roots stores new → (image : Tree) → LeftOf new.history.soft new.tree image → OpensOneOf roots script stores image
opens_now roots script stores new same one image left = (one.0, one.1, subst (λ s. Opens roots s image one.0) same (one.2.opens image left))

run_survives : (roots : Roots) (store : Tree) (outcome : Outcome) (old new : State) (before behind : Sinks) (report : Report) (answer : Result (Unit {0}) Stop) (result : End) → new.script ≡ old.script
    → TellsAs answer report before behind result → Survives roots store outcome old new answer → RunSurvives roots store outcome old new result
run_survives roots store outcome old new before behind report answer result same told s = record {
  opens = λ image left. elim left [
    | inl past ↦ s.each_moment.only image (subst (λ moments. IsImageOfOne moments image) (moments_since-added old.history new.history s.each_moment.moments s.each_moment.added) past)
    | inr now ↦ opens_now roots old.script (store ∷ outcome.after) new same (one_stands roots store outcome.after new answer s.end) image now
  ];
  leaves = leaves_told roots store outcome.after new report before behind result answer told s.end;
}

-- nothing was done, and the store stands as it stood
stays_standing : (roots : Roots) (store : Tree) (outcome : Outcome) (state : State) → Stands roots store state → RunSurvives roots store outcome state state end.NoMemory
stays_standing roots store outcome state stands = record {
  opens = λ image left. elim left [
    | inl past ↦ absurd (subst (λ moments. IsImageOfOne moments image) (moments_since-added state.history state.history [] (sym (append-nil state.history.past))) past)
    | inr now ↦ (store, inl refl, stands.opens image now)
  ];
  leaves = (store, inl refl, stands);
}

-- the whole call
pub runs : (host : Host) (words : List Word) (old_world new_world : State) (old new : Sinks) (report : Report) (answer : Result (Unit {0}) Stop) (result : End)
    → Serves host words old_world new_world nothing_said report answer → Tells answer report old new result
    → RunsCommand host words (record { world = old_world; out = old.out; err = old.err }) (record { world = new_world; out = new.out; err = new.err }) result
runs host words old_world new_world old new report answer result s t =
    let before : Outside = record { world = old_world; out = old.out; err = old.err } in
    let after : Outside = record { world = new_world; out = new.out; err = new.err } in
    let ends : ForReady host.roots old_world (λ tree ready found. IsEndOf host.roots (public_tree host.roots ready) (outcome_of host old_world.script words tree ready found) before after result) =
    λ tree told ready found is.
    ends_as host.roots (public_tree host.roots ready) (outcome_of host old_world.script words tree ready found) before after report answer result (s.answers tree told ready found is) t.ends in
    let refused : ForDamaged host.roots old_world (λ tree. IsEndOf host.roots (public_tree host.roots tree) (damaged_outcome host.roots tree) before after result) =
    λ tree told damage. ends_as host.roots (public_tree host.roots tree) (damaged_outcome host.roots tree) before after report answer result (s.refused tree told damage) t.ends in
    record {
      ends = ends;
      refused = refused;
      damaged = s.damaged;
      survives = λ tree told ready found is store stands.
          run_survives host.roots store (outcome_of host old_world.script words tree ready found) old_world new_world old new report answer result s.lasts.script t.ends (s.survives tree told ready found is store stands);
      behind = s.behind;
      unread = λ why read. ends_unread host.roots why report old new result answer t.ends (s.unread why read);
      fault = λ is. let f = tells_fault report old new result answer t.ends is in record { rose = s.cause.rose f.0; out = f.1; err = f.2 };
      sink_fault = λ is. (tells_sink report old new result answer t.ends is).rose;
      world_keeps = record { steady = s.cause.steady; faultless = λ told steady is. s.cause.never told steady (tells_fault report old new result answer t.ends is).0 };
      sinks_keep = record {
        out = t.go_on.out_steady;
        err = t.go_on.err_steady;
        faultless = λ out err is. (tells_sink report old new result answer t.ends is).unsteady out err;
      };
      no_setting = tells_no_setting report old new result answer t.ends;
      counts = record { world = s.cause.later; out = t.go_on.out_later; err = t.go_on.err_later };
      lasts = s.lasts;
    }

-- the same, from a report that is known to be empty
pub runs_from_empty : (host : Host) (words : List Word) (old_world new_world : State) (old new : Sinks) (out err : List ℕ) (report : Report) (answer : Result (Unit {0}) Stop) (result : End)
    → out ≡ [] → err ≡ [] → Serves host words old_world new_world (record { out = out; err = err }) report answer → Tells answer report old new result
    → RunsCommand host words (record { world = old_world; out = old.out; err = old.err }) (record { world = new_world; out = new.out; err = new.err }) result
runs_from_empty host words old_world new_world old new out err report answer result no_out no_err s t =
    runs host words old_world new_world old new report answer result
    (subst (λ e. Serves host words old_world new_world (record { out = []; err = e }) report answer) no_err
    (subst (λ o. Serves host words old_world new_world (record { out = o; err = err }) report answer) no_out s)) t

-- want of memory before anything was done
pub runs_wanting : (host : Host) (words : List Word) (world : State) (out old_err new_err : SinkState) → SaysFront no_memory_line old_err new_err
    → RunsCommand host words (record { world = world; out = out; err = old_err }) (record { world = world; out = out; err = new_err }) end.NoMemory
runs_wanting host words world out old_err new_err says = record {
  ends = λ tree told ready found is. record { out = inl refl; err = says.front };
  refused = λ tree told damage. record { out = inl refl; err = says.front };
  damaged = λ tree told damage. unchanged_none world;
  survives = λ tree told ready found is store stands. stays_standing host.roots store (outcome_of host world.script words tree ready found) world stands;
  behind = λ tree told ready found is. record { ran = front_none _ world world refl; foreign = keeps_same host.roots _ tree tree world told refl };
  unread = λ why read. tt;
  fault = λ is. let impossible : end.NoMemory ≡ end.Fault = is in cc;
  sink_fault = λ is. let impossible : end.NoMemory ≡ end.SinkFault = is in cc;
  world_keeps = record { steady = λ is. is; faultless = λ told steady is. let impossible : end.NoMemory ≡ end.Fault = is in cc };
  sinks_keep = record { out = λ is. is; err = says.steady; faultless = λ out err is. let impossible : end.NoMemory ≡ end.SinkFault = is in cc };
  no_setting = (λ is. let impossible : end.NoMemory ≡ end.BadRoot = is in cc, λ is. let impossible : end.NoMemory ≡ end.BadBoot = is in cc);
  counts = record { world = omega arith; out = omega arith; err = says.later };
  lasts = record { roots = refl; script = refl; told = refl };
}
