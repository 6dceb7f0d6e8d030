-- Changes in order are the lists of their groups, one behind another.
use Rattle.std.proofs.Common.{◌≡◌, true, false, List, [], ◌∷◌, ◌++◌, map, refl, sym, ap, ◌∙◌}
use Rattle.std.proofs.lemmas.Bool.{true≢false}
use Rattle.kb_world.specs.Path.{Path}
use Rattle.kb_world.specs.declared.roots.Roots.{Roots}
use Rattle.kb_changes.specs.Change.{staged_path}
use Rattle.kb_changes.specs.Groups.{drops_in, wipes_in, drop_dirs_in, first_drop_dirs, second_drop_dirs, dirs_in, runs_in}
use Rattle.kb_changes.specs.Valid.{are_in_order}
use Rattle.kb_changes.specs.declared.change.Change.{Change}
use Rattle.kb_changes.specs.declared.change.Change.TheVariants.{Dir, Put, Drop, DropDir, Wipe, Run}
use Rattle.kb_again.proofs.Flat.{Act, to_drop, to_wipe, to_drop_dir, to_make, to_put, put_of}
use Rattle.kb_again.proofs.Facts.{puts_in, lists_of, move_of}
use Rattle.kb_again.proofs.Steps.{Step, act, run, step_of, steps_of}

abbrev steps_in : Roots → List Change → List Step
steps_in r cs = map (step_of r) cs

abbrev runs_behind : List Act → List Change → List Step
runs_behind acts cs = map act acts ++ map run (runs_in cs)

abbrev drop_dir_acts : List Path → List Act
drop_dir_acts paths = map to_drop_dir paths

abbrev put_acts : Roots → List Change → List Act
put_acts r cs = map put_of (map (move_of r) (puts_in cs))

abbrev made_acts : Roots → List Change → List Path → List Act
made_acts r cs second = map to_make (dirs_in cs) ++ (put_acts r cs ++ drop_dir_acts second)

-- runs alone
record AreRuns (r : Roots) (cs : List Change) : Type 0 where
  steps : steps_in r cs ≡ map run (runs_in cs)
  no_drops : drops_in cs ≡ []
  no_wipes : wipes_in cs ≡ []
  no_drop_dirs : drop_dirs_in cs ≡ []
  no_first : first_drop_dirs cs ≡ []
  no_second : second_drop_dirs cs ≡ []
  no_dirs : dirs_in cs ≡ []
  no_puts : puts_in cs ≡ []

clash : false ≡ true → ⊥
clash h = true≢false (sym h)

runs_alone : (r : Roots) (cs : List Change) → are_in_order 6 cs ≡ true → AreRuns r cs
runs_alone r [] h =
    record { steps = refl; no_drops = refl; no_wipes = refl; no_drop_dirs = refl; no_first = refl; no_second = refl; no_dirs = refl; no_puts = refl }
runs_alone r (Run request ∷ cs) h =
    let rest = runs_alone r cs h in
    record {
      steps = ap (λ l. run request ∷ l) rest.steps;
      no_drops = rest.no_drops;
      no_wipes = rest.no_wipes;
      no_drop_dirs = rest.no_drop_dirs;
      no_first = rest.no_first;
      no_second = rest.no_second;
      no_dirs = rest.no_dirs;
      no_puts = rest.no_puts;
    }
runs_alone r (Drop path ∷ cs) h = absurd (clash h)
runs_alone r (Wipe path ∷ cs) h = absurd (clash h)
runs_alone r (DropDir path ∷ cs) h = absurd (clash h)
runs_alone r (Dir path ∷ cs) h = absurd (clash h)
runs_alone r (Put name number target ∷ cs) h = absurd (clash h)

-- DropDirs, and then runs
record AreSecond (r : Roots) (cs : List Change) : Type 0 where
  steps : steps_in r cs ≡ runs_behind (drop_dir_acts (drop_dirs_in cs)) cs
  no_drops : drops_in cs ≡ []
  no_wipes : wipes_in cs ≡ []
  no_dirs : dirs_in cs ≡ []
  no_puts : puts_in cs ≡ []

second_then : (r : Roots) (cs : List Change) → are_in_order 5 cs ≡ true → AreSecond r cs
second_then r [] h = record { steps = refl; no_drops = refl; no_wipes = refl; no_dirs = refl; no_puts = refl }
second_then r (DropDir path ∷ cs) h =
    let rest = second_then r cs h in
    record {
      steps = ap (λ l. act
          (to_drop_dir path) ∷ l) rest.steps;
      no_drops = rest.no_drops;
      no_wipes = rest.no_wipes;
      no_dirs = rest.no_dirs;
      no_puts = rest.no_puts;
    }
second_then r (Run request ∷ cs) h =
    let rest = runs_alone r cs h in
    record {
      steps = ap (λ l. run request ∷ l) rest.steps ∙ sym (ap (λ l. runs_behind (drop_dir_acts l) (Run request ∷ cs)) rest.no_drop_dirs);
      no_drops = rest.no_drops;
      no_wipes = rest.no_wipes;
      no_dirs = rest.no_dirs;
      no_puts = rest.no_puts;
    }
second_then r (Drop path ∷ cs) h = absurd (clash h)
second_then r (Wipe path ∷ cs) h = absurd (clash h)
second_then r (Dir path ∷ cs) h = absurd (clash h)
second_then r (Put name number target ∷ cs) h = absurd (clash h)

-- Puts before these
record ArePuts (r : Roots) (cs : List Change) : Type 0 where
  steps : steps_in r cs ≡ runs_behind (put_acts r cs ++ drop_dir_acts (drop_dirs_in cs)) cs
  no_drops : drops_in cs ≡ []
  no_wipes : wipes_in cs ≡ []
  no_dirs : dirs_in cs ≡ []

no_more_puts : (r : Roots) (cs : List Change) → AreSecond r cs → ArePuts r cs
no_more_puts r cs w = record {
  steps = w.steps ∙ sym (ap (λ l. runs_behind (map put_of (map (move_of r) l) ++ drop_dir_acts (drop_dirs_in cs)) cs) w.no_puts);
  no_drops = w.no_drops;
  no_wipes = w.no_wipes;
  no_dirs = w.no_dirs;
}

puts_then : (r : Roots) (cs : List Change) → are_in_order 4 cs ≡ true → ArePuts r cs
puts_then r [] h = record { steps = refl; no_drops = refl; no_wipes = refl; no_dirs = refl }
puts_then r (Put name number target ∷ cs) h =
    let rest = puts_then r cs h in
    record {
      steps = ap (λ l. act
          (to_put (staged_path r name number) target) ∷ l) rest.steps;
      no_drops = rest.no_drops;
      no_wipes = rest.no_wipes;
      no_dirs = rest.no_dirs;
    }
puts_then r (DropDir path ∷ cs) h = no_more_puts r (DropDir path ∷ cs) (second_then r (DropDir path ∷ cs) h)
puts_then r (Run request ∷ cs) h = no_more_puts r (Run request ∷ cs) (second_then r (Run request ∷ cs) h)
puts_then r (Drop path ∷ cs) h = absurd (clash h)
puts_then r (Wipe path ∷ cs) h = absurd (clash h)
puts_then r (Dir path ∷ cs) h = absurd (clash h)

-- Dirs before these
record AreMade (r : Roots) (cs : List Change) : Type 0 where
  steps : steps_in r cs ≡ runs_behind (made_acts r cs (drop_dirs_in cs)) cs
  no_drops : drops_in cs ≡ []
  no_wipes : wipes_in cs ≡ []

no_more_dirs : (r : Roots) (cs : List Change) → ArePuts r cs → AreMade r cs
no_more_dirs r cs w = record {
  steps = w.steps ∙ sym (ap (λ l. runs_behind (map to_make l ++ (put_acts r cs ++ drop_dir_acts (drop_dirs_in cs))) cs) w.no_dirs);
  no_drops = w.no_drops;
  no_wipes = w.no_wipes;
}

dirs_then : (r : Roots) (cs : List Change) → are_in_order 3 cs ≡ true → AreMade r cs
dirs_then r [] h = record { steps = refl; no_drops = refl; no_wipes = refl }
dirs_then r (Dir path ∷ cs) h =
    let rest = dirs_then r cs h in
    record { steps = ap (λ l. act (to_make path) ∷ l) rest.steps; no_drops = rest.no_drops; no_wipes = rest.no_wipes }
dirs_then r (Put name number target ∷ cs) h = no_more_dirs r (Put name number target ∷ cs) (puts_then r (Put name number target ∷ cs) h)
dirs_then r (DropDir path ∷ cs) h = no_more_dirs r (DropDir path ∷ cs) (puts_then r (DropDir path ∷ cs) h)
dirs_then r (Run request ∷ cs) h = no_more_dirs r (Run request ∷ cs) (puts_then r (Run request ∷ cs) h)
dirs_then r (Drop path ∷ cs) h = absurd (clash h)
dirs_then r (Wipe path ∷ cs) h = absurd (clash h)

-- DropDirs before these
abbrev first_acts : Roots → List Change → List Act
first_acts r cs = drop_dir_acts (first_drop_dirs cs) ++ made_acts r cs (second_drop_dirs cs)

record AreFirst (r : Roots) (cs : List Change) : Type 0 where
  steps : steps_in r cs ≡ runs_behind (first_acts r cs) cs
  no_drops : drops_in cs ≡ []
  no_wipes : wipes_in cs ≡ []

first_then : (r : Roots) (cs : List Change) → are_in_order 2 cs ≡ true → AreFirst r cs
first_then r [] h = record { steps = refl; no_drops = refl; no_wipes = refl }
first_then r (DropDir path ∷ cs) h =
    let rest = first_then r cs h in
    record { steps = ap (λ l. act (to_drop_dir path) ∷ l) rest.steps; no_drops = rest.no_drops; no_wipes = rest.no_wipes }
first_then r (Dir path ∷ cs) h =
    let all = dirs_then r (Dir path ∷ cs) h in
    record { steps = all.steps; no_drops = all.no_drops; no_wipes = all.no_wipes }
first_then r (Put name number target ∷ cs) h =
    let all = dirs_then r (Put name number target ∷ cs) h in
    record { steps = all.steps; no_drops = all.no_drops; no_wipes = all.no_wipes }
first_then r (Run request ∷ cs) h =
    let rest = runs_alone r cs h in
    let all = dirs_then r (Run request ∷ cs) h in
    record {
      steps = all.steps ∙ ap (λ l. runs_behind (made_acts r cs l) (Run request ∷ cs)) (rest.no_drop_dirs ∙ sym rest.no_second)
          ∙ sym (ap (λ l. runs_behind (drop_dir_acts l ++ made_acts r cs (second_drop_dirs cs)) (Run request ∷ cs)) rest.no_first);
      no_drops = all.no_drops;
      no_wipes = all.no_wipes;
    }
first_then r (Drop path ∷ cs) h = absurd (clash h)
first_then r (Wipe path ∷ cs) h = absurd (clash h)

-- Wipes before these
record AreWipes (r : Roots) (cs : List Change) : Type 0 where
  steps : steps_in r cs ≡ runs_behind (map to_wipe (wipes_in cs) ++ first_acts r cs) cs
  no_drops : drops_in cs ≡ []

no_more_wipes : (r : Roots) (cs : List Change) → AreFirst r cs → AreWipes r cs
no_more_wipes r cs w = record {
  steps = w.steps ∙ sym (ap (λ l. runs_behind (map to_wipe l ++ first_acts r cs) cs) w.no_wipes);
  no_drops = w.no_drops;
}

wipes_then : (r : Roots) (cs : List Change) → are_in_order 1 cs ≡ true → AreWipes r cs
wipes_then r [] h = record { steps = refl; no_drops = refl }
wipes_then r (Wipe path ∷ cs) h =
    let rest = wipes_then r cs h in record { steps = ap (λ l. act (to_wipe path) ∷ l) rest.steps; no_drops = rest.no_drops }
wipes_then r (DropDir path ∷ cs) h = no_more_wipes r (DropDir path ∷ cs) (first_then r (DropDir path ∷ cs) h)
wipes_then r (Dir path ∷ cs) h = no_more_wipes r (Dir path ∷ cs) (first_then r (Dir path ∷ cs) h)
wipes_then r (Put name number target ∷ cs) h = no_more_wipes r (Put name number target ∷ cs) (first_then r (Put name number target ∷ cs) h)
wipes_then r (Run request ∷ cs) h = no_more_wipes r (Run request ∷ cs) (first_then r (Run request ∷ cs) h)
wipes_then r (Drop path ∷ cs) h = absurd (clash h)

-- Drops before these: all changes
no_more_drops : (r : Roots) (cs : List Change) → AreWipes r cs → steps_in r cs ≡ steps_of r (lists_of cs)
no_more_drops r cs w = w.steps ∙ sym (ap (λ l. runs_behind (map to_drop l ++ (map to_wipe (wipes_in cs) ++ first_acts r cs)) cs) w.no_drops)

pub in_groups : (r : Roots) (cs : List Change) → are_in_order 0 cs ≡ true → map (step_of r) cs ≡ steps_of r (lists_of cs)
in_groups r [] h = refl
in_groups r (Drop path ∷ cs) h = ap (λ l. act (to_drop path) ∷ l) (in_groups r cs h)
in_groups r (Wipe path ∷ cs) h = no_more_drops r (Wipe path ∷ cs) (wipes_then r (Wipe path ∷ cs) h)
in_groups r (DropDir path ∷ cs) h = no_more_drops r (DropDir path ∷ cs) (wipes_then r (DropDir path ∷ cs) h)
in_groups r (Dir path ∷ cs) h = no_more_drops r (Dir path ∷ cs) (wipes_then r (Dir path ∷ cs) h)
in_groups r (Put name number target ∷ cs) h = no_more_drops r (Put name number target ∷ cs) (wipes_then r (Put name number target ∷ cs) h)
in_groups r (Run request ∷ cs) h = no_more_drops r (Run request ∷ cs) (wipes_then r (Run request ∷ cs) h)
