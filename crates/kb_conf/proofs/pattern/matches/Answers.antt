use Rattle.std.proofs.Common.{ℕ, List, ◌<◌, get_or, All, subst}
use Rattle.std.proofs.lemmas.List.{get_or_default}
use Rattle.kb_conf.specs.Built.{IsBuilt}
use Rattle.kb_conf.proofs.PatternLaws.{finds, finds_nothing}
use Rattle.kb_conf.proofs.pattern.matches.Goals as goal

bytes : (hay : List ℕ) → ((k : ℕ) → get_or hay k 0 < 256) → All (λ x. x < 256) hay
bytes hay h k d lt = rw (get_or_default hay k d 0 lt) (h k)

pub returns-in_ok-matcher-in-Some : goal.returns-in_ok-matcher-in-Some
returns-in_ok-matcher-in-Some c =
    let built = subst (IsBuilt c.args.pattern.now) c.in-Some.is c.in_ok-regex.ensures in
    rw (c.is_match.ensures.found, c.in_ok-matcher-in-Some.ensures.pattern)
    (finds c.args.pattern.now _ built.0 built.1 built.2 c.args.text.now (bytes c.args.text.now (λ k. (c.type_inv.text k).fits)))

pub returns-in-None : goal.returns-in-None
returns-in-None c = finds_nothing c.args.pattern.now c.args.text.now (subst (IsBuilt c.args.pattern.now) c.in-None.is c.in_ok-regex.ensures)
