-- The first bad value among those so far and the next.
use Rattle.std.proofs.Common.{◌≡◌, ℕ, suc, ◌+◌, ◌<◌, Bool, List, [], ◌∷◌, ◌++◌, length, take, drop, get_or, Option, Some, None, sym, ap, ◌∙◌, arith}
use Rattle.std.specs.Option.{option_or}
use Rattle.std.proofs.lemmas.List.{take_more}
use Rattle.std.proofs.Math.Seq.{drop-cons}
use Rattle.kb_conf.specs.declared.rule.Rule.{Rule}
use Rattle.kb_conf.specs.Rule.{keeps}
use Rattle.kb_conf.specs.Bad.{bad_unless}
use Rattle.kb_conf.specs.Values.{Values, value_of}
use Rattle.kb_conf.specs.Targets.{bad_target, bad_targets}

-- what the reader finds of one value
pub bad_at : (rule : Rule) (values : Values) (name : List ℕ) (i : ℕ) (good : Bool) (v : List ℕ) (b : Option (List ℕ)) →
    good ≡ keeps rule v → v ≡ value_of values name i → b ≡ bad_unless good name i → bad_unless (keeps rule (value_of values name i)) name i ≡ b
bad_at rule values name i good v b e f h = sym (h ∙ ap (λ g. bad_unless g name i) (e ∙ ap (keeps rule) f))

next_target : (values : Values) (numbers : List ℕ) (k : ℕ) → k < length numbers →
    bad_targets values (take k numbers) (drop k numbers)
    ≡ option_or (bad_target values (take k numbers) (get_or numbers k 0)) (bad_targets values (take k numbers ++ get_or numbers k 0 ∷ []) (drop (suc k) numbers))
unfolding bad_targets
next_target values numbers k lt = ap (bad_targets values (take k numbers)) (drop-cons numbers k 0 lt)

-- where a target is good, the rest decides
pub target_passes : (values : Values) (numbers : List ℕ) (k : ℕ) → k < length numbers → bad_target values (take k numbers) (get_or numbers k 0) ≡ None →
    bad_targets values (take k numbers) (drop k numbers) ≡ bad_targets values (take (k + 1) numbers) (drop (k + 1) numbers)
target_passes values numbers k lt none =
    next_target values numbers k lt
    ∙ ap (λ o. option_or o (bad_targets values (take k numbers ++ get_or numbers k 0 ∷ []) (drop (suc k) numbers))) none
    ∙ ap (λ t. bad_targets values t (drop (suc k) numbers)) (sym (take_more numbers k 0 lt))
    ∙ ap (λ n. bad_targets values (take (k + 1) numbers) (drop n numbers)) next
  where
    next : suc k ≡ k + 1
    next = omega arith

pub target_found : (values : Values) (numbers : List ℕ) (k : ℕ) (b : List ℕ) → k < length numbers → bad_target values (take k numbers) (get_or numbers k 0) ≡ Some b →
    bad_targets values (take k numbers) (drop k numbers) ≡ Some b
target_found values numbers k b lt found =
    next_target values numbers k lt
    ∙ ap (λ o. option_or o (bad_targets values (take k numbers ++ get_or numbers k 0 ∷ []) (drop (suc k) numbers))) found

pub targets_end : (values : Values) (earlier rest : List ℕ) → rest ≡ [] → bad_targets values earlier rest ≡ None
unfolding bad_targets
targets_end values earlier rest e = ap (bad_targets values earlier) e
