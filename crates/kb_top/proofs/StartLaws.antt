-- A setting tells of one machine's roots or is bad, and what the program's call does then.
use Rattle.std.proofs.Common.{◌≡◌, ℕ, List, Option, Some, None, refl, sym, ap, ◌∙◌, subst, inl, inr, arith}
use Rattle.kb_world.specs.Path.{Path}
use Rattle.kb_world.specs.Roots.{AreApart, roots_under}
use Rattle.kb_world.specs.State.{State}
use Rattle.kb_world.specs.SinkState.{SinkState}
use Rattle.kb_world.specs.Refusal.{no_memory_line, bad_root_line, bad_boot_line}
use Rattle.kb_world.specs.declared.roots.Roots.{Roots}
use Rattle.kb_world.specs.declared.job.Host.{Host}
use Rattle.kb_world.proofs.PathText.{same_path}
use Rattle.kb_words.specs.Words.{Word}
use Rattle.kb_top.specs.declared.setting.Setting.{Setting}
use Rattle.kb_top.specs.declared.end.End.{End}
use Rattle.kb_top.specs.declared.end.End.TheVariants as end
use Rattle.kb_top.specs.Run.{Outside, RunsCommand}
use Rattle.kb_top.specs.Tell.{SaysFront}
use Rattle.kb_top.specs.Setting.{IsPathOf, IsBase, with_boot, HasBoot, IsHostOf, IsBadBase, IsBadRoot, IsBadBootFor, IsBadBoot}
use Rattle.kb_top.specs.Start.{IsSetAside, Starts}
use Rattle.kb_top.proofs.RunLaws.{runs_wanting}
use Rattle.kb_top.proofs.SettingLaws.{good_or_bad}

same : (text : List ℕ) (a b : Path) → IsPathOf text a → IsPathOf text b → a ≡ b
same text a b is other = same_path a b is.0 other.0 (is.1 ∙ sym other.1)

-- there is one base, and none where the root is bad
one_base : (root : Option (List ℕ)) (a b : Path) → IsBase root a → IsBase root b → a ≡ b
one_base None a b is other = is ∙ sym other
one_base (Some text) a b is other = same text a b is other

no_base : (root : Option (List ℕ)) (base : Path) → IsBase root base → IsBadBase root → ⊥
no_base None base is bad = bad
no_base (Some text) base is bad = bad base is

-- the roots below it are one, and none where the boot is bad
one_boot : (boot : Option (List ℕ)) (base : Path) (a b : Roots) → HasBoot boot base a → HasBoot boot base b → a ≡ b
one_boot None base a b is other = is ∙ sym other
one_boot (Some text) base a b is other =
    is.2 ∙ ap (λ p. with_boot p (roots_under base)) (same text is.0 other.0 is.1 other.1) ∙ sym other.2

no_boot : (boot : Option (List ℕ)) (base : Path) (roots : Roots) → HasBoot boot base roots → AreApart roots → IsBadBootFor base boot → ⊥
no_boot None base roots is apart bad = bad
no_boot (Some text) base roots is apart (inl none) = none is.0 is.1
no_boot (Some text) base roots is apart (inr found) =
    found.2 (subst AreApart (is.2 ∙ ap (λ p. with_boot p (roots_under base)) (same text is.0 found.0 is.1 found.1)) apart)

pub one_roots : (setting : Setting) (a b : Host) → IsHostOf setting a → IsHostOf setting b → a.roots ≡ b.roots
one_roots setting a b is other =
    one_boot setting.boot is.base a.roots b.roots is.roots_are
    (subst (λ base. HasBoot setting.boot base b.roots) (one_base setting.root other.base is.base other.base_is is.base_is) other.roots_are)

one_host : (setting : Setting) (a b : Host) → IsHostOf setting a → IsHostOf setting b → a ≡ b
one_host setting a b is other =
    ap (λ (kernel : Option (List ℕ)). record { kernel = kernel; arch = a.arch; roots = a.roots }) (is.kernel_is ∙ sym other.kernel_is)
    ∙ ap (λ (arch : List ℕ). record { kernel = b.kernel; arch = arch; roots = a.roots }) (is.arch_is ∙ sym other.arch_is)
    ∙ ap (λ (roots : Roots). record { kernel = b.kernel; arch = b.arch; roots = roots }) (one_roots setting a b is other)

pub good_or_bad_root : (setting : Setting) (host : Host) → IsHostOf setting host → IsBadRoot setting → ⊥
good_or_bad_root setting host is bad = no_base setting.root is.base is.base_is bad

pub good_or_bad_boot : (setting : Setting) (host : Host) → IsHostOf setting host → IsBadBoot setting → ⊥
good_or_bad_boot setting host is bad =
    no_boot setting.boot is.base host.roots is.roots_are is.apart
    (subst (λ base. IsBadBootFor base setting.boot) (one_base setting.root bad.base is.base bad.base_is is.base_is) bad.bad)

pub bad_root_or_boot : (setting : Setting) → IsBadRoot setting → IsBadBoot setting → ⊥
bad_root_or_boot setting root boot = no_base setting.root boot.base boot.base_is root

-- the words were run
pub starts_good : (setting : Setting) (host : Host) (words : List Word) (old new : Outside) (result : End) → IsHostOf setting host → RunsCommand host words old new result
    → Starts setting words old new result
starts_good setting host words old new result is ran = record {
  good = λ other also. subst (λ h. RunsCommand h words old new result) (one_host setting host other is also) ran;
  bad_root = λ bad. absurd (good_or_bad_root setting host is bad);
  bad_boot = λ bad. absurd (good_or_bad_boot setting host is bad);
}

-- what was handed over is known to be the line
pub says_line : (line piece : List ℕ) (old new : SinkState) → piece ≡ line → SaysFront piece old new → SaysFront line old new
says_line line piece old new is says = subst (λ p. SaysFront p old new) is says

-- a line was written, and nothing else done
set_aside : (due : End) (line : List ℕ) (world : State) (out old_err new_err : SinkState) → SaysFront line old_err new_err
    → IsSetAside due line (record { world = world; out = out; err = old_err }) (record { world = world; out = out; err = new_err }) due
set_aside due line world out old_err new_err says = record {
  world = refl;
  out = refl;
  says = inl (refl, says.front);
  steady = says.steady;
  counts = record { world = omega arith; out = omega arith; err = says.later };
}

set_aside_wanting : (due : End) (line : List ℕ) (world : State) (out old_err new_err : SinkState) → SaysFront no_memory_line old_err new_err
    → IsSetAside due line (record { world = world; out = out; err = old_err }) (record { world = world; out = out; err = new_err }) end.NoMemory
set_aside_wanting due line world out old_err new_err says = record {
  world = refl;
  out = refl;
  says = inr (refl, says.front);
  steady = says.steady;
  counts = record { world = omega arith; out = omega arith; err = says.later };
}

pub starts_bad_root : (setting : Setting) (words : List Word) (world : State) (out old_err new_err : SinkState) → IsBadRoot setting → SaysFront bad_root_line old_err new_err
    → Starts setting words (record { world = world; out = out; err = old_err }) (record { world = world; out = out; err = new_err }) end.BadRoot
starts_bad_root setting words world out old_err new_err bad says = record {
  good = λ host is. absurd (good_or_bad_root setting host is bad);
  bad_root = λ again. set_aside end.BadRoot bad_root_line world out old_err new_err says;
  bad_boot = λ boot. absurd (bad_root_or_boot setting bad boot);
}

pub starts_bad_boot : (setting : Setting) (words : List Word) (world : State) (out old_err new_err : SinkState) → IsBadBoot setting → SaysFront bad_boot_line old_err new_err
    → Starts setting words (record { world = world; out = out; err = old_err }) (record { world = world; out = out; err = new_err }) end.BadBoot
starts_bad_boot setting words world out old_err new_err bad says = record {
  good = λ host is. absurd (good_or_bad_boot setting host is bad);
  bad_root = λ root. absurd (bad_root_or_boot setting root bad);
  bad_boot = λ again. set_aside end.BadBoot bad_boot_line world out old_err new_err says;
}

-- memory ran out before anything was done
pub starts_wanting : (setting : Setting) (words : List Word) (world : State) (out old_err new_err : SinkState) → SaysFront no_memory_line old_err new_err
    → Starts setting words (record { world = world; out = out; err = old_err }) (record { world = world; out = out; err = new_err }) end.NoMemory
starts_wanting setting words world out old_err new_err says = record {
  good = λ host is. runs_wanting host words world out old_err new_err says;
  bad_root = λ bad. set_aside_wanting end.BadRoot bad_root_line world out old_err new_err says;
  bad_boot = λ bad. set_aside_wanting end.BadBoot bad_boot_line world out old_err new_err says;
}

-- whatever the setting is, the world keeps its roots
pub starts_rooted : (setting : Setting) (words : List Word) (old new : Outside) (result : End) → Starts setting words old new result → new.world.roots ≡ old.world.roots
starts_rooted setting words old new result s = elim (good_or_bad setting) [
  | inl good ↦ (s.good good.0 good.1).lasts.roots
  | inr bad ↦ elim bad [
    | inl root ↦ ap (λ (w : State). w.roots) (s.bad_root root).world
    | inr boot ↦ ap (λ (w : State). w.roots) (s.bad_boot boot).world
  ]
]
