-- What is assigned is text.
use Rattle.std.proofs.Common.{◌≡◌, ℕ, suc, zero, ◌<◌, Bool, true, false, cond, List, [], ◌∷◌, length, map, get_or, Option, Some, None, subst, arith}
use Rattle.std.specs.Option.{option_or}
use Rattle.std.specs.List.{AllByRecursion}
use Rattle.std.specs.Str.{IsUtf8}
use Rattle.std.proofs.lemmas.Option.{none-some, same_Some}
use Rattle.kb_conf.specs.Assignment.{Assignment, last_value, is_of}
use Rattle.kb_conf.specs.TextOf.{IsTextAssignment}
use Rattle.kb_conf.specs.Table.{view_assignment}
use Rattle.kb_conf.specs.declared.table.Assignment as code

own : (b : Bool) (value v : List ℕ) → IsUtf8 value → cond b (Some value) None ≡ Some v → IsUtf8 v
own true value v h e = subst IsUtf8 (same_Some _ _ e) h
own false value v h e = absurd (none-some _ e)

either : (o : Option (List ℕ)) (b : Bool) (value v : List ℕ) → ((w : List ℕ) → o ≡ Some w → IsUtf8 w) → IsUtf8 value →
    option_or o (cond b (Some value) None) ≡ Some v → IsUtf8 v
either None b value v later h e = own b value v h e
either (Some w) b value v later h e = later v e

pub last_is_text : (values : List Assignment) → AllByRecursion IsTextAssignment values → (name : List ℕ) (i : ℕ) (v : List ℕ) →
    last_value values name i ≡ Some v → IsUtf8 v
unfolding last_value
last_is_text [] all name i v e = absurd (none-some _ e)
last_is_text (a ∷ later) all name i v e =
    either (last_value later name i) (is_of name i a) a.value v (λ w here. last_is_text later all.1 name i w here) all.0.value e

pub name_is_text : (list : List code.Assignment) → AllByRecursion IsTextAssignment (map view_assignment list) → (k : ℕ) (d : code.Assignment) →
    k < length list → IsUtf8 (get_or list k d).name.now
name_is_text [] all k d lt = absurd (omega arith)
name_is_text (a ∷ later) all zero d lt = all.0.name
name_is_text (a ∷ later) all (suc k) d lt = name_is_text later all.1 k d (omega arith)
