-- A part that is refused, and what goes on behind it.
use Rattle.std.proofs.Common.{◌++◌, Option, Some, None, sym, ap, ◌∙◌, subst, append_assoc}
use Rattle.std.specs.Prelude.{Result, Ok, Err}
use Rattle.kb_world.specs.Tree.{Tree}
use Rattle.kb_world.specs.Public.{public_tree, foreign_tree}
use Rattle.kb_world.specs.State.{State}
use Rattle.kb_machine.specs.Outcome.{Outcome, Action, last_of, joined}
use Rattle.kb_machine.specs.Does.{CameAbout, Answers}
use Rattle.kb_world.specs.declared.job.Report.{Report}
use Rattle.kb_world.specs.declared.roots.Roots.{Roots}
use Rattle.kb_world.specs.declared.refusal.Refusal.{Refusal}
use Rattle.kb_world.specs.declared.stop.Stop.{Stop}
use Rattle.kb_world.specs.declared.stop.Stop.TheVariants.{Refused, Fault, NoMemory}
use Rattle.kb_world.proofs.CallLaws.{cause_then, lasts_then}
use Rattle.kb_machine.proofs.OutcomeLaws.{last_of-append}
use Rattle.kb_machine.specs.Stands.{Rests}
use Rattle.kb_machine.specs.Across.{Survives, DoesAcrossCrashes}
use Rattle.kb_machine.proofs.ThenLaws.{survives_then}
use Rattle.kb_machine.specs.Each.{gathers}
use Rattle.kb_machine.specs.Behind.{LeavesBehindOf}
use Rattle.kb_machine.proofs.BehindLaws.{behind_then}

came_on : (roots : Roots) (store : Tree) (first second : Outcome) (was due : Option Refusal) (old mid new : State) (before between after : Report)
    → CameAbout roots store first was old mid before between → CameAbout roots (last_of store first.after) second due mid new between after
    → CameAbout roots store (joined first second) due old new before after
came_on roots store first second was due old mid new before between after a b = record {
  end = b.end;
  tree = (b.tree.0, b.tree.1, record { public_part = b.tree.2.public_part ∙ sym (last_of-append store first.after second.after); foreign_part = b.tree.2.foreign_part });
  ran = b.ran ∙ ap (λ so_far. so_far ++ second.requests) a.ran ∙ append_assoc old.ran first.requests second.requests;
  out = b.out ∙ ap (λ so_far. so_far ++ second.out) a.out ∙ append_assoc before.out first.out second.out;
  err = b.err ∙ ap (λ so_far. so_far ++ second.err) a.err ∙ append_assoc before.err first.err second.err;
}

answers_on : (roots : Roots) (store : Tree) (first second : Outcome) (was : Option Refusal) (result : Result (Unit {0}) Stop) (old mid new : State) (before between after : Report)
    → CameAbout roots store first was old mid before between → Answers roots (last_of store first.after) second result mid new between after
    → Answers roots store (joined first second) result old new before after
answers_on roots store first second was (Ok u) old mid new before between after a b = came_on roots store first second was None old mid new before between after a b
answers_on roots store first second was (Err (Refused why)) old mid new before between after a b = came_on roots store first second was (Some why) old mid new before between after a b
answers_on roots store first second was (Err Fault) old mid new before between after a b = tt
answers_on roots store first second was (Err NoMemory) old mid new before between after a b = tt

abbrev refused : Refusal → Result (Unit {0}) Stop
refused why = Err (Refused why)

pub does_gathered : (roots : Roots) (part : Action) (next : Option Refusal → Action) (why : Refusal) (old mid new : State) (before between after : Report) (result : Result (Unit {0}) Stop)
    → DoesAcrossCrashes roots part {T = Unit {0}} old mid before between (Err (Refused why)) → DoesAcrossCrashes roots (next (Some why)) mid new between after result
    → DoesAcrossCrashes roots (gathers part next) old new before after result
does_gathered roots part next why old mid new before between after result a b = record {
  does = record {
    answers = λ tree told rooted.
        let store = public_tree roots tree in
        let first = part store (foreign_tree roots tree) in
        let came : CameAbout roots store first (Some why) old mid before between = a.does.answers tree told rooted in
        let last = last_of store first.after in
        let P : Tree → Tree → Type 0 = λ s f. Answers roots s (next (Some why) s f) result mid new between after in
        let goes : P last first.foreign =
        subst (λ (f : Tree). P last f) came.tree.2.foreign_part
        (subst (λ (s : Tree). P s (foreign_tree roots came.tree.0)) came.tree.2.public_part (b.does.answers came.tree.0 came.tree.1 (a.does.lasts.roots ∙ rooted))) in
        subst (λ (e : Option Refusal). Answers roots store (joined first (next e last first.foreign)) result old new before after) (sym came.end)
        (answers_on roots store first (next (Some why) last first.foreign) (Some why) result old mid new before between after came goes);
    lasts = lasts_then old mid new a.does.lasts b.does.lasts;
    cause = cause_then _ old mid new (refused why) result a.does.lasts.told a.does.cause b.does.cause;
  };
  survives = λ tree told rooted rests.
      let store = public_tree roots tree in
      let first = part store (foreign_tree roots tree) in
      let came : CameAbout roots store first (Some why) old mid before between = a.does.answers tree told rooted in
      let stood : Survives {T = Unit {0}} roots store first old mid (Err (Refused why)) = a.survives tree told rooted rests in
      let one : Survives {T = Unit {0}} roots store first old mid (Ok tt) = record { each_moment = stood.each_moment; end = stood.end } in
      let last = last_of store first.after in
      let P : Tree → Tree → Type 0 = λ s f. Rests roots s mid → Survives roots s (next (Some why) s f) mid new result in
      let goes : P last first.foreign =
      subst (λ (f : Tree). P last f) came.tree.2.foreign_part
      (subst (λ (s : Tree). P s (foreign_tree roots came.tree.0)) came.tree.2.public_part (b.survives came.tree.0 came.tree.1 (a.does.lasts.roots ∙ rooted))) in
      subst (λ (e : Option Refusal). Survives roots store (joined first (next e last first.foreign)) old new result) (sym came.end)
      (survives_then roots store first (next (Some why) last first.foreign) old mid new result a.does.lasts.script one (goes stood.end));
  behind = λ tree told rooted.
      let store = public_tree roots tree in
      let first = part store (foreign_tree roots tree) in
      let came : CameAbout roots store first (Some why) old mid before between = a.does.answers tree told rooted in
      let last = last_of store first.after in
      let P : Tree → Tree → Type 0 = λ s f. LeavesBehindOf roots (next (Some why) s f) came.tree.0 mid new in
      let goes : P last first.foreign =
      subst (λ (f : Tree). P last f) came.tree.2.foreign_part
      (subst (λ (s : Tree). P s (foreign_tree roots came.tree.0)) came.tree.2.public_part (b.behind came.tree.0 came.tree.1 (a.does.lasts.roots ∙ rooted))) in
      subst (λ (e : Option Refusal). LeavesBehindOf roots (joined first (next e last first.foreign)) tree old new) (sym came.end)
      (behind_then roots first (next (Some why) last first.foreign) tree came.tree.0 old mid new came.tree.1 came.ran (a.behind tree told rooted) goes);
}
