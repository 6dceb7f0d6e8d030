-- An action that may be refused first.
use Rattle.std.proofs.Common.{◌≡◌, ◌++◌, Option, Some, None, refl, sym, ap, ◌∙◌, subst}
use Rattle.std.proofs.lemmas.List.{append-nil}
use Rattle.std.specs.Prelude.{Result, Ok, Err}
use Rattle.kb_world.specs.Tree.{Tree}
use Rattle.kb_world.specs.State.{State}
use Rattle.kb_world.specs.Public.{public_tree, foreign_tree}
use Rattle.kb_machine.specs.Outcome.{Outcome, Action, refuse_if, unless, go_on, ◌then◌}
use Rattle.kb_world.specs.Read.{Decides}
use Rattle.kb_machine.specs.Does.{CameAbout, Does, Answers}
use Rattle.kb_world.specs.Layout.{united, whole_tree}
use Rattle.kb_world.specs.declared.roots.Roots.{Roots}
use Rattle.kb_world.specs.declared.job.Report.{Report}
use Rattle.kb_world.specs.declared.refusal.Refusal.{Refusal}
use Rattle.kb_world.specs.declared.stop.Stop.{Stop}
use Rattle.kb_world.specs.declared.stop.Stop.TheVariants.{Refused, Fault, NoMemory}
use Rattle.kb_world.proofs.CallLaws.{cause_then, lasts_then}

pub unless_refused : (due : Tree → Option Refusal) (second : Action) (store foreign : Tree) (refusal : Refusal) → due (united store foreign) ≡ Some refusal
    → (unless due then second) store foreign ≡ refuse_if (Some refusal) store foreign
unless_refused due second store foreign refusal is = ap (λ d. go_on store (refuse_if d store foreign) second) is

pub unless_passed : (due : Tree → Option Refusal) (second : Action) (store foreign : Tree) → due (united store foreign) ≡ None → (unless due then second) store foreign ≡ second store foreign
unless_passed due second store foreign is = ap (λ d. go_on store (refuse_if d store foreign) second) is

-- a refusal, and the tree and the report as they were
pub came_refused : (roots : Roots) (due : Tree → Option Refusal) (second : Action) (tree : Tree) (old mid : State) (refusal : Refusal) (report : Report)
    → due (whole_tree roots tree) ≡ Some refusal → mid.tree ≡ Some tree → mid.ran ≡ old.ran
    → CameAbout roots (public_tree roots tree) ((unless due then second) (public_tree roots tree) (foreign_tree roots tree)) (Some refusal) old mid report report
came_refused roots due second tree old mid refusal report is told ran =
    let P : Outcome → Type 0 = λ outcome. CameAbout roots (public_tree roots tree) outcome (Some refusal) old mid report report in
    subst P (sym (unless_refused due second (public_tree roots tree) (foreign_tree roots tree) refusal is)) (record {
      end = refl;
      tree = (tree, told, record { public_part = refl; foreign_part = refl });
      ran = ran ∙ sym (append-nil old.ran);
      out = sym (append-nil report.out);
      err = sym (append-nil report.err);
    })

-- the call that decides on the refusal was refused
pub does_refused : (roots : Roots) (read due : Tree → Option Refusal) (second : Action) (old mid : State) (report : Report) (stop : Stop)
    → ((tree : Tree) → read tree ≡ due (whole_tree roots tree)) → Decides read {T = Unit {0}} old mid (Err stop)
    → Does roots (unless due then second) {T = Unit {0}} old mid report report (Err stop)
does_refused roots read due second old mid report (Refused refusal) same d = record {
  answers = λ tree told rooted. came_refused roots due second tree old mid refusal report (sym (same tree) ∙ d.agrees tree told) (d.unchanged.tree ∙ told) d.unchanged.ran_none.ran;
  lasts = d.unchanged.ran_none.lasts;
  cause = d.cause;
}
does_refused roots read due second old mid report Fault same d = record { answers = λ tree told rooted. tt; lasts = d.unchanged.ran_none.lasts; cause = d.cause }
does_refused roots read due second old mid report NoMemory same d = record { answers = λ tree told rooted. tt; lasts = d.unchanged.ran_none.lasts; cause = d.cause }

-- what came about since a moment at which no child had run, came about since an earlier one
pub answers_since : (roots : Roots) (store : Tree) (outcome : Outcome) (old mid new : State) (before after : Report) (result : Result (Unit {0}) Stop) → mid.ran ≡ old.ran
    → Answers roots store outcome result mid new before after → Answers roots store outcome result old new before after
answers_since roots store outcome old mid new before after (Ok u) ran a = record { end = a.end; tree = a.tree; ran = a.ran ∙ ap (λ so_far. so_far ++ outcome.requests) ran; out = a.out; err = a.err }
answers_since roots store outcome old mid new before after (Err (Refused refusal)) ran a = record { end = a.end; tree = a.tree; ran = a.ran ∙ ap (λ so_far. so_far ++ outcome.requests) ran; out = a.out; err = a.err }
answers_since roots store outcome old mid new before after (Err Fault) ran a = tt
answers_since roots store outcome old mid new before after (Err NoMemory) ran a = tt

-- it wasn't, and the second part does what it does
pub does_passed : (roots : Roots) (read due : Tree → Option Refusal) (second : Action) (old mid new : State) (before after : Report) (result : Result (Unit {0}) Stop)
    → ((tree : Tree) → read tree ≡ due (whole_tree roots tree)) → Decides read {T = Unit {0}} old mid (Ok tt) → Does roots second mid new before after result
    → Does roots (unless due then second) old new before after result
does_passed roots read due second old mid new before after result same d e = record {
  answers = λ tree told rooted.
      let P : Outcome → Type 0 = λ outcome. Answers roots (public_tree roots tree) outcome result old new before after in
      let second_outcome = second (public_tree roots tree) (foreign_tree roots tree) in
      subst P (sym (unless_passed due second (public_tree roots tree) (foreign_tree roots tree) (sym (same tree) ∙ d.agrees tree told)))
      (answers_since roots (public_tree roots tree) second_outcome old mid new before after result d.unchanged.ran_none.ran (e.answers tree (d.unchanged.tree ∙ told) (d.unchanged.ran_none.lasts.roots ∙ rooted)));
  lasts = lasts_then old mid new d.unchanged.ran_none.lasts e.lasts;
  cause = cause_then Fault old mid new (Ok tt) result d.unchanged.ran_none.lasts.told d.cause e.cause;
}
