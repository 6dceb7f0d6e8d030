use Rattle.std.proofs.Common.{◌≡◌, false, Ok, Err, refl, sym, ap, subst, ◌∙◌}
use Rattle.kb_world.specs.Script.{answer_in, tree_after}
use Rattle.kb_world.specs.declared.world.WorldError.TheVariants.{Failed}
use Rattle.kb_disk.specs.Stored.{Stored, stored_of}
use Rattle.kb_disk.proofs.EffectLaws.{IsWithin, within_given}
use Rattle.kb_memory.specs.Calls.{halted}
use Rattle.kb_memory.specs.World.{state_of, disk_of, tree_of}
use Rattle.kb_memory.proofs.CallLaws.{follows, left_done, done_no_fail}
use Rattle.kb_memory.proofs.RunLaws.{runs_unbegun, runs_begun, runs_early, within_all, within_some, after_all, undone_fails}
use Rattle.kb_memory.proofs.world.MemoryWorldWorld.run.Goals as goal

pub returns-in_err-fate-clause-ran : goal.returns-in_err-fate-clause-ran
returns-in_err-fate-clause-ran c =
    let old = c.args.self.now in
    let new = c.begin_run.new.self in
    let begins = c.in_err-fate.ensures.begins in
    runs_unbegun c.args.request.now (state_of old) (state_of new) (disk_of old) (disk_of new) old.calls new.calls begins.counted _ refl begins.roots (ap (λ script. script.items) begins.script)
    c.from_residual.result c.from_residual.ensures.1 old.disk.formed begins.begun.0 begins.begun.1

pub returns-then-not-is_done-clause-ran : goal.returns-then-not-is_done-clause-ran
returns-then-not-is_done-clause-ran c =
    let old = c.args.self.now in
    let new = c.begin_run.new.self in
    let request = c.args.request.now in
    let begins = c.in_ok-fate.ensures.begins in
    runs_begun request (state_of old) (state_of new) (disk_of old) (disk_of new) old.calls new.calls begins.counted c.in_ok-fate.fate c.in_ok-fate.ensures.fate begins.roots (ap (λ script. script.items) begins.script)
    (Err Failed) (record { passed = tt; failed = λ e. undone_fails c.in_ok-fate.fate (sym c.if-not-is_done.ensures) })
    (subst (IsWithin request.area (disk_of old)) (sym begins.begun.0) (within_given request.area (disk_of old) old.disk.formed)) begins.begun.1 tt tt

pub returns-in_err-reply-clause-ran : goal.returns-in_err-reply-clause-ran
returns-in_err-reply-clause-ran c =
    let old = c.args.self.now in
    let new = c.begin_run.new.self in
    let request = c.args.request.now in
    let begins = c.in_ok-fate.ensures.begins in
    let fate = c.in_ok-fate.fate in
    let result = c.from_residual-in_err-reply.result in
    let now = stored_of c.perform.new.disk in
    let within = within_some new.roots c.deref.result.now request (disk_of old) (disk_of new) now old.disk.formed begins.begun.0 c.in_err-reply.ensures.cut_off in
    runs_early request (state_of old) (state_of new) (disk_of old) now old.calls new.calls begins.counted fate c.in_ok-fate.ensures.fate begins.roots (ap (λ script. script.items) begins.script)
    result c.from_residual-in_err-reply.ensures.1 within begins.begun.1

pub returns-then-passes-clause-ran : goal.returns-then-passes-clause-ran
returns-then-passes-clause-ran c =
    let old = c.args.self.now in
    let new = c.begin_run.new.self in
    let request = c.args.request.now in
    let begins = c.in_ok-fate.ensures.begins in
    let fate = c.in_ok-fate.fate in
    let now = stored_of c.perform.new.disk in
    let done = c.in_ok-reply.ensures.done in
    let same : c.deref.result.now ≡ old.script.items = c.deref.ensures.value ∙ ap (λ script. script.items) begins.script in
    runs_begun request (state_of old) (state_of new) (disk_of old) now old.calls new.calls begins.counted fate c.in_ok-fate.ensures.fate begins.roots (ap (λ script. script.items) begins.script)
    (Ok c.in_ok-reply.reply) (record { passed = sym c.if-passes.ensures; failed = λ e. absurd (cc) })
    (within_all new.roots c.deref.result.now request (disk_of old) (disk_of new) now old.disk.formed begins.begun.0 done) begins.begun.1
    (c.in_ok-reply.ensures.reply ∙ (λ i. (answer_in (begins.roots i) (same i) request ((begins.begun.0 i).tree)).reply))
    (after_all new.roots c.deref.result.now request (disk_of old) (disk_of new) now begins.begun.0 done ∙ (λ i. tree_after (begins.roots i) (same i) request (tree_of old)))

pub returns-else-passes-clause-ran : goal.returns-else-passes-clause-ran
returns-else-passes-clause-ran c =
    let old = c.args.self.now in
    let new = c.begin_run.new.self in
    let request = c.args.request.now in
    let begins = c.in_ok-fate.ensures.begins in
    let now = stored_of c.perform.new.disk in
    runs_begun request (state_of old) (state_of new) (disk_of old) now old.calls new.calls begins.counted c.in_ok-fate.fate c.in_ok-fate.ensures.fate begins.roots (ap (λ script. script.items) begins.script)
    (Err Failed) (record { passed = tt; failed = λ e. sym c.if-passes.ensures })
    (within_all new.roots c.deref.result.now request (disk_of old) (disk_of new) now old.disk.formed begins.begun.0 c.in_ok-reply.ensures.done) begins.begun.1 tt tt

pub returns-else-passes-clause-plan : goal.returns-else-passes-clause-plan
returns-else-passes-clause-plan c =
    let old = c.args.self.now in
    let new = c.begin_run.new.self in
    let request = c.args.request.now in
    let begins = c.in_ok-fate.ensures.begins in
    let fate = c.in_ok-fate.fate in
    let now = stored_of c.perform.new.disk in
    let same : c.deref.result.now ≡ old.script.items = c.deref.ensures.value ∙ ap (λ script. script.items) begins.script in
    let after : now.tree ≡ tree_after old.roots old.script.items request (tree_of old) =
    after_all new.roots c.deref.result.now request (disk_of old) (disk_of new) now begins.begun.0 c.in_ok-reply.ensures.done ∙ (λ i. tree_after (begins.roots i) (same i) request (tree_of old)) in
    follows (halted (tree_after old.roots old.script.items request)) old (record new { disk = c.perform.new.disk }) (Err Failed) fate c.in_ok-fate.ensures.fate
    (record { passed = tt; failed = λ e. sym c.if-passes.ensures }) begins.counted
    (λ e. left_done (tree_after old.roots old.script.items request) fate (tree_of old) now.tree (sym c.if-not-is_done.ensures) (sym c.if-passes.ensures) after)
    (λ fails. absurd (done_no_fail fate (sym c.if-not-is_done.ensures) fails))
