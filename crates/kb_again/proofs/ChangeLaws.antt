-- Changes as steps: doing them, cutting them off, and what their runs answer.
use Rattle.std.proofs.Common.{◌≡◌, ◌⊎◌, inl, inr, true, List, [], ◌∷◌, ◌++◌, map, take, refl, sym, ap, ◌∙◌, subst}
use Rattle.kb_world.specs.Path.{parent}
use Rattle.kb_world.specs.Script.{Script}
use Rattle.kb_world.specs.Tree.{Tree, node_at, IsFormed}
use Rattle.kb_world.specs.declared.roots.Roots.{Roots}
use Rattle.kb_changes.specs.Change.{do_change, done}
use Rattle.kb_changes.specs.Valid.{is_valid}
use Rattle.kb_changes.specs.declared.change.Change.{Change}
use Rattle.kb_changes.specs.declared.change.Change.TheVariants.{Dir, Put, Drop, DropDir, Wipe, Run}
use Rattle.kb_again.specs.Sparing.{areas_of}
use Rattle.kb_again.specs.Within.{IsWithin, IsWithinNext}
use Rattle.kb_again.proofs.BetweenLaws.{IsCutNext, areas_in}
use Rattle.kb_again.proofs.EditLaws.{dir_is, dir_test}
use Rattle.kb_again.proofs.FactLaws.{known_valid}
use Rattle.kb_again.proofs.Facts.{lists_of}
use Rattle.kb_again.proofs.Kept.{IsWhole}
use Rattle.kb_again.proofs.KeptLaws.{turn_whole}
use Rattle.kb_again.proofs.OrderLaws.{in_groups}
use Rattle.kb_again.proofs.PublicLaws.{step_whole}
use Rattle.kb_again.proofs.Steps.{step_of, do_step, do_steps, steps_of}
use Rattle.kb_again.proofs.WriteLaws.{run_is}

-- ---- formed trees

pub whole_of : (t : Tree) → IsFormed t → IsWhole t
whole_of t formed q stands = dir_is (node_at t (parent q)) (formed q stands)

pub formed_of : (t : Tree) → IsWhole t → IsFormed t
formed_of t whole q stands = dir_test (node_at t (parent q)) (whole q stands)

-- ---- doing them

pub change_same : (r : Roots) (f : Script) (c : Change) (t : Tree) → do_change r f c t ≡ do_step f r (step_of r c) t
change_same r f (Dir path) t = refl
change_same r f (Put name number target) t = refl
change_same r f (Drop path) t = refl
change_same r f (DropDir path) t = refl
change_same r f (Wipe path) t = refl
change_same r f (Run request) t = run_is f r request t

pub done_same : (r : Roots) (f : Script) (cs : List Change) (t : Tree) → done r f cs t ≡ do_steps f r (map (step_of r) cs) t
done_same r f [] t = refl
done_same r f (c ∷ cs) t = ap (done r f cs) (change_same r f c t) ∙ done_same r f cs (do_step f r (step_of r c) t)

pub areas_same : (r : Roots) (cs : List Change) → areas_of cs ≡ areas_in (map (step_of r) cs)
areas_same r [] = refl
areas_same r (Dir path ∷ cs) = areas_same r cs
areas_same r (Put name number target ∷ cs) = areas_same r cs
areas_same r (Drop path ∷ cs) = areas_same r cs
areas_same r (DropDir path ∷ cs) = areas_same r cs
areas_same r (Wipe path ∷ cs) = areas_same r cs
areas_same r (Run request ∷ cs) = ap (λ l. request.area ∷ l) (areas_same r cs)

pub mapped_parts : {A B : Type 0} (h : A → B) (xs ys : List A) → map h (xs ++ ys) ≡ map h xs ++ map h ys
mapped_parts h [] ys = refl
mapped_parts h (x ∷ xs) ys = ap (λ l. h x ∷ l) (mapped_parts h xs ys)

pub mapped_next : {A B : Type 0} (h : A → B) (xs : List A) → map h (take 1 xs) ≡ take 1 (map h xs)
mapped_next h [] = refl
mapped_next h (x ∷ xs) = refl

-- ---- cut off

-- the tree that is left within the next change, which is formed
pub record IsCutThere (r : Roots) (f : Script) (back : List Change) (w v : Tree) : Type 0 where
  pub cut : IsCutNext (map (step_of r) back) w v
  pub whole : IsWhole v

either_whole : (r : Roots) (f : Script) (c : Change) (w v : Tree) → IsWhole w → (v ≡ w) ⊎ (v ≡ do_change r f c w) → IsWhole v
either_whole r f c w v whole (inl same) = subst IsWhole (sym same) whole
either_whole r f c w v whole (inr now) = subst IsWhole (sym (now ∙ change_same r f c w)) (step_whole f r (step_of r c) w whole)

pub cut_there : (r : Roots) (f : Script) (back : List Change) (w v : Tree) → IsWhole w → IsWithinNext r f back w v → IsCutThere r f back w v
cut_there r f [] w v whole within = record { cut = within; whole = subst IsWhole (sym within) whole }
cut_there r f (Dir path ∷ back) w v whole within = record { cut = within; whole = either_whole r f (Dir path) w v whole within }
cut_there r f (Put name number target ∷ back) w v whole within =
    record { cut = within; whole = either_whole r f (Put name number target) w v whole within }
cut_there r f (Drop path ∷ back) w v whole within = record { cut = within; whole = either_whole r f (Drop path) w v whole within }
cut_there r f (DropDir path ∷ back) w v whole within = record { cut = within; whole = either_whole r f (DropDir path) w v whole within }
cut_there r f (Wipe path ∷ back) w v whole within = record { cut = within.1; whole = whole_of v within.0 }
cut_there r f (Run request ∷ back) w v whole within = record { cut = within.each; whole = whole_of v within.formed }

-- ---- valid changes

pub steps_are : (r : Roots) (cs : List Change) → is_valid r cs ≡ true → map (step_of r) cs ≡ steps_of r (lists_of cs)
steps_are r cs valid = in_groups r cs (known_valid r cs valid).order

pub done_is : (r : Roots) (f : Script) (cs : List Change) (t : Tree) → is_valid r cs ≡ true
    → done r f cs t ≡ do_steps f r (steps_of r (lists_of cs)) t
done_is r f cs t valid = done_same r f cs t ∙ ap (λ xs. do_steps f r xs t) (steps_are r cs valid)

pub done_whole : (r : Roots) (f : Script) (cs : List Change) (t : Tree) → IsWhole t → IsWhole (done r f cs t)
done_whole r f cs t whole =
    subst IsWhole (sym (done_same r f cs t)) (turn_whole (do_step f r) (step_whole f r) (map (step_of r) cs) t whole)

-- ---- formed trees stay formed

pub done_formed : (r : Roots) (f : Script) (cs : List Change) (t : Tree) → IsFormed t → IsFormed (done r f cs t)
done_formed r f cs t formed = formed_of (done r f cs t) (done_whole r f cs t (whole_of t formed))

pub within_formed : (r : Roots) (f : Script) (c : Change) (t v : Tree) → IsFormed t → IsWithin r f c t v → IsFormed v
within_formed r f c t v formed within = formed_of v (cut_there r f (c ∷ []) t v (whole_of t formed) within).whole
