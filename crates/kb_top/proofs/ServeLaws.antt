-- What a command needs is public, and what it does is the machine's.
use Rattle.std.proofs.Common.{◌≡◌, ℕ, Bool, true, false, cond, List, [], Option, Some, None, refl, sym, ap, ◌∙◌, subst, inl, arith}
use Rattle.std.specs.Prelude.{Result, Ok, Err, codes}
use Rattle.std.specs.Option.{option_or}
use Rattle.std.specs.Cmp.Derive.{both_true}
use Rattle.std.proofs.lemmas.List.{append-nil}
use Rattle.kb_world.specs.Names.{is_kernel, is_arch}
use Rattle.kb_world.specs.Path.{Path}
use Rattle.kb_world.specs.Tree.{Tree, node_at, is_dir}
use Rattle.kb_world.specs.Roots.{AreApart}
use Rattle.kb_world.specs.State.{State}
use Rattle.kb_world.specs.Public.{foreign_tree, public_tree}
use Rattle.kb_world.specs.Layout.{whole_tree}
use Rattle.kb_machine.specs.Outcome.{refuse_if, print, ◌then◌}
use Rattle.kb_world.specs.Read.{IsRead}
use Rattle.kb_world.specs.declared.roots.Roots.{Roots}
use Rattle.kb_world.specs.declared.job.Host.{Host}
use Rattle.kb_world.specs.declared.job.Report.{Report}
use Rattle.kb_world.specs.declared.refusal.Refusal.{Refusal}
use Rattle.kb_world.specs.declared.refusal.Refusal.TheVariants as refusal
use Rattle.kb_world.specs.declared.stop.Stop.{Stop}
use Rattle.kb_world.specs.declared.stop.Stop.TheVariants.{Refused, Fault, NoMemory}
use Rattle.kb_world.proofs.PublicLaws.{IsAlwaysPublic, in_dkms, in_src}
use Rattle.kb_world.proofs.LayoutLaws.{whole_shown, public_whole}
use Rattle.kb_world.proofs.CrashLaws.{adds_none}
use Rattle.kb_machine.proofs.OutcomeLaws.{stays_refused}
use Rattle.kb_machine.specs.Across.{DoesAcrossCrashes}
use Rattle.kb_machine.proofs.BehindLaws.{behind_none}
use Rattle.kb_machine.proofs.EachLaws.{printed, unprinted}
use Rattle.kb_machine.proofs.LookLaws.{warned}
use Rattle.kb_machine.proofs.ThenLaws.{does_then}
use Rattle.kb_store.specs.Read.{read_of}
use Rattle.kb_store.proofs.PublicNotes.{read_public}
use Rattle.kb_dkms.specs.Host.{is_kernel_if_any, host_keeps_rules}
use Rattle.kb_words.specs.declared.command.Command.{Command}
use Rattle.kb_words.specs.Words.{Word}
use Rattle.kb_words.specs.Reading.{reading}
use Rattle.kb_top.specs.Machine.{known_kernel, known_arch, known_host, no_root, no_roots_of_add, recovery_printed, recovery_warned, is_recovery, telling, perform, perform_read, machine}
use Rattle.kb_top.specs.Serve.{RefusesUnread}
use Rattle.kb_top.specs.Telling.{told_to}

dkms_public : (roots : Roots) → AreApart roots → IsAlwaysPublic roots roots.dkms
dkms_public roots apart = subst (IsAlwaysPublic roots) (append-nil roots.dkms) (in_dkms roots apart [] refl refl)

src_public : (roots : Roots) → AreApart roots → IsAlwaysPublic roots roots.src
src_public roots apart = subst (IsAlwaysPublic roots) (append-nil roots.src) (in_src roots apart [] refl)

same_roots_of_add : (roots : Roots) (a b : Tree) → node_at a roots.dkms ≡ node_at b roots.dkms → node_at a roots.src ≡ node_at b roots.src → no_roots_of_add roots a ≡ no_roots_of_add roots b
same_roots_of_add roots a b dkms src = cc

pub roots_shown : (roots : Roots) → AreApart roots → (tree : Tree) → no_roots_of_add roots tree ≡ no_roots_of_add roots (whole_tree roots tree)
roots_shown roots apart tree = same_roots_of_add roots tree (whole_tree roots tree) (sym (whole_shown roots tree roots.dkms (dkms_public roots apart))) (sym (whole_shown roots tree roots.src (src_public roots apart)))

-- the store is read of what is public
pub store_shown : (roots : Roots) → AreApart roots → (tree : Tree) → read_of roots (public_tree roots tree) ≡ read_of roots (whole_tree roots tree)
store_shown roots apart tree = ap (read_of roots) (sym (public_whole roots tree)) ∙ read_public roots apart (whole_tree roots tree)

same_root : (path : Path) (a b : Tree) → node_at a path ≡ node_at b path → no_root path a ≡ no_root path b
same_root path a b same = cc

pub dkms_shown : (roots : Roots) → AreApart roots → (tree : Tree) → no_root roots.dkms tree ≡ no_root roots.dkms (whole_tree roots tree)
dkms_shown roots apart tree = same_root roots.dkms tree (whole_tree roots tree) (sym (whole_shown roots tree roots.dkms (dkms_public roots apart)))

-- a root that isn't missing is a directory
pub root_there : (path : Path) (tree : Tree) → no_root path tree ≡ None → is_dir (node_at tree path) ≡ true
root_there path tree none = by (is_dir (node_at tree path)) refl
  where
    by : (b : Bool) → is_dir (node_at tree path) ≡ b → is_dir (node_at tree path) ≡ true
    by true e = e
    by false e =
        let found : no_root path tree ≡ Some (refusal.NoRoot path) = ap (λ b. cond b None (Some (refusal.NoRoot path))) e in
        let impossible : Some (refusal.NoRoot path) ≡ None = sym found ∙ none in cc

-- where no root of `dkms add` is missing, both are directories
pub dkms_there : (roots : Roots) (tree : Tree) → no_roots_of_add roots tree ≡ None → is_dir (node_at tree roots.dkms) ≡ true
dkms_there roots tree none = root_there roots.dkms tree (first_none (no_root roots.dkms tree) (no_root roots.src tree) none)
  where
    first_none : (first second : Option Refusal) → option_or first second ≡ None → first ≡ None
    first_none None second h = refl
    first_none (Some why) second h = cc

pub src_there : (roots : Roots) (tree : Tree) → no_roots_of_add roots tree ≡ None → is_dir (node_at tree roots.src) ≡ true
src_there roots tree none = root_there roots.src tree (second_none (no_root roots.dkms tree) (no_root roots.src tree) none)
  where
    second_none : (first second : Option Refusal) → option_or first second ≡ None → second ≡ None
    second_none None second h = h
    second_none (Some why) second h = cc

-- what is known of a machine keeps its rules
kernel_keeps : (kernel : Option (List ℕ)) → is_kernel_if_any (known_kernel kernel) ≡ true
kernel_keeps None = refl
kernel_keeps (Some kernel) = by (is_kernel kernel) refl
  where
    by : (b : Bool) → is_kernel kernel ≡ b → is_kernel_if_any (cond b (Some kernel) None) ≡ true
    by true e = e
    by false e = refl

arch_keeps : (arch : List ℕ) → is_arch (known_arch arch) ≡ true
arch_keeps arch = by (is_arch arch) refl
  where
    by : (b : Bool) → is_arch arch ≡ b → is_arch (cond b arch (codes "unknown")) ≡ true
    by true e = e
    by false e = refl

pub known_keeps_rules : (host : Host) → host_keeps_rules (known_host host) ≡ true
known_keeps_rules host = both_true (kernel_keeps host.kernel) (arch_keeps host.arch)

-- ---- a recovery is told, and then the words

told_so : (roots : Roots) (found : Option (List Word)) (asked : Bool) (state : State) (before after : Report) → after ≡ told_to found asked before
    → DoesAcrossCrashes roots (telling found asked) {T = Unit {0}} state state before after (Ok tt)
told_so roots found true state before after is = printed roots (recovery_printed found) state before after (ap (λ (r : Report). r.out) is) (ap (λ (r : Report). r.err) is)
told_so roots found false state before after is = warned roots (recovery_warned found) state before after (ap (λ (r : Report). r.out) is) (ap (λ (r : Report). r.err) is)

-- refused whatever stands
refused_so : (roots : Roots) (state : State) (report : Report) (why : Refusal) → DoesAcrossCrashes roots (refuse_if (Some why)) {T = Unit {0}} state state report report (Err (Refused why))
refused_so roots state report why = record {
  does = record {
    answers = λ tree told rooted. stays_refused roots tree state state why report told refl;
    lasts = record { roots = refl; script = refl; told = refl };
    cause = record { later = omega arith; rose = λ failed. absurd (no_fault failed); steady = λ is. is; never = λ told is failed. no_fault failed };
  };
  survives = λ tree told rooted rests. record { each_moment = adds_none _ state.history state.history refl; end = rests };
  behind = λ tree told rooted. behind_none roots (refuse_if (Some why) (public_tree roots tree) (foreign_tree roots tree)) tree state state told refl;
}
  where
    stopped : Stop → Result (Unit {0}) Stop
    stopped stop = Err stop

    no_fault : stopped (Refused why) ≡ stopped Fault → ⊥
    no_fault e = cc

-- nothing more is done once the recovery is told
pub nothing_more : (roots : Roots) (state : State) (report : Report) → DoesAcrossCrashes roots (print []) {T = Unit {0}} state state report report (Ok tt)
nothing_more roots state report = printed roots [] state report report (sym (append-nil report.out)) refl

-- the words are no command
pub words_unread : (host : Host) (words : List Word) (found : Option (List Word)) (state : State) (before after : Report) (stop : Stop) → after ≡ told_to found (is_recovery {E = Stop} (Err stop)) before
    → IsRead {T = Command} (Err stop) (reading words) → DoesAcrossCrashes host.roots (machine host state.script words found) {T = Unit {0}} state state before after (Err stop)
words_unread host words found state before after (Refused why) is read =
    let P : Result Command Refusal → Type 0 = λ r. DoesAcrossCrashes host.roots (telling found (is_recovery r) then perform_read (known_host host) state.script r) {T = Unit {0}} state state before after (Err (Refused why)) in
    subst P (sym read)
    (does_then host.roots (telling found false) (refuse_if (Some why)) state state state before after after (Err (Refused why)) (told_so host.roots found false state before after is) (refused_so host.roots state after why))
words_unread host words found state before after Fault is read = absurd read
words_unread host words found state before after NoMemory is read = unprinted host.roots (machine host state.script words found) state before after

-- they are refused so, or the call gave up
pub unread_refused : (roots : Roots) (words : List Word) (stop : Stop) → IsRead {T = Command} (Err stop) (reading words) → (why : Refusal) → reading words ≡ Err why → RefusesUnread roots why (Err stop)
unread_refused roots words (Refused due) is why read = inl (let same : ◌≡◌ {A = Result Command Refusal} (Err due) (Err why) = sym is ∙ read in cc)
unread_refused roots words Fault is why read = absurd is
unread_refused roots words NoMemory is why read = tt

pub never_unread : (roots : Roots) (words : List Word) (it : Command) (result : Result (Unit {0}) Stop) → IsRead {T = Command} (Ok it) (reading words) → (why : Refusal) → reading words ≡ Err why
    → RefusesUnread roots why result
never_unread roots words it result is why read = let impossible : ◌≡◌ {A = Result Command Refusal} (Ok it) (Err why) = sym is ∙ read in absurd (cc)

-- they are one, and it was done
pub words_done : (host : Host) (words : List Word) (found : Option (List Word)) (it : Command) (old new : State) (before between after : Report) (result : Result (Unit {0}) Stop)
    → between ≡ told_to found (is_recovery {E = Stop} (Ok it)) before → reading words ≡ Ok it → DoesAcrossCrashes host.roots (perform (known_host host) old.script it) old new between after result
    → DoesAcrossCrashes host.roots (machine host old.script words found) old new before after result
words_done host words found it old new before between after result is read d =
    let P : Result Command Refusal → Type 0 = λ r. DoesAcrossCrashes host.roots (telling found (is_recovery r) then perform_read (known_host host) old.script r) old new before after result in
    subst P (sym read)
    (does_then host.roots (telling found (is_recovery {E = Stop} (Ok it))) (perform (known_host host) old.script it) old old new before between after result (told_so host.roots found (is_recovery {E = Stop} (Ok it)) old before between is) d)
