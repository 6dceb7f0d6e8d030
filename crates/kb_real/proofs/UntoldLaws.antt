-- What calls do to a world and a sink that tell their counts of faults alone.
use Rattle.std.proofs.Common.{◌≡◌, ℕ, ◌≤◌, Bool, List, Result, Ok, Err, OnOk, OnErr, IsErrOf, refl, [], inl, arith}
use Rattle.std.proofs.lemmas.Option.{none-some}
use Rattle.kb_world.specs.Path.{Path}
use Rattle.kb_world.specs.Tree.{Tree}
use Rattle.kb_world.specs.State.{HasCause, Lasts, RanNone, Looks, Changes, Puts, Runs, Settles, NoneForgotten, Rose}
use Rattle.kb_world.specs.Crash.{Adds, Turns}
use Rattle.kb_world.specs.declared.child.Area.{Area}
use Rattle.kb_world.specs.declared.child.Request.{Request}
use Rattle.kb_world.specs.declared.child.Reply.{Reply}
use Rattle.kb_world.specs.SinkState.{Writes}
use Rattle.kb_world.specs.declared.sink.SinkError.TheVariants as sink_error
use Rattle.kb_world.specs.declared.world.WorldError.{WorldError}
use Rattle.kb_world.specs.declared.world.WorldError.TheVariants.{Failed, NoMemory}
use Rattle.kb_real.specs.Faults.{one_more_fault, faults_after}
use Rattle.kb_real.specs.Untold.{untold, untold_sink}

rose : {T : Type 0} (before after : ℕ) (result : Result T WorldError) → after ≡ faults_after result before → IsErrOf result Failed → Rose before after
rose before after (Ok value) faults failed = grind arith
rose before after (Err Failed) faults failed = grind arith
rose before after (Err NoMemory) faults failed = grind arith

pub untold_cause : {T : Type 0} (before after : ℕ) (result : Result T WorldError) → before ≤ after → after ≡ faults_after result before
    → HasCause Failed (untold before) (untold after) result
untold_cause before after result later faults = record {
  later = later;
  rose = rose before after result faults;
  steady = λ steady. steady;
  never = λ told steady _. grind arith;
}

untold_lasts : (before after : ℕ) → Lasts (untold before) (untold after)
untold_lasts before after = record { roots = refl; script = refl; told = refl }

-- such a world tells no moments
untold_adds : (Has : Tree → Type 0) (before after : ℕ) → Adds Has (untold before).history (untold after).history
untold_adds Has before after = record { moments = []; added = refl; only = λ image left. absurd left }

untold_turns : (Early Late : Tree → Type 0) (before after : ℕ) → Turns Early Late (untold before).history (untold after).history
untold_turns Early Late before after = record { early = []; late = []; added = refl; early_only = λ image left. absurd left; late_only = λ image left. absurd left }

-- and of no tree a crash could leave anything
untold_forgets_none : (before after : ℕ) → NoneForgotten (untold before) (untold after)
untold_forgets_none before after image left = absurd left

untold_ran_none : (before after : ℕ) → RanNone (untold before) (untold after)
untold_ran_none before after = record { ran = refl; lasts = untold_lasts before after }

pub untold_looks : {T : Type 0} (before after : ℕ) (result : Result T WorldError) → before ≤ after → after ≡ faults_after result before
    → Looks (untold before) (untold after) result
untold_looks before after result later faults = record {
  unchanged = record { tree = refl; history = refl; ran_none = untold_ran_none before after };
  cause = untold_cause before after result later faults;
}

on_ok : {T : Type 0} (result : Result T WorldError) (P : Type 0) → P → OnOk result P
on_ok (Ok value) P holds = holds
on_ok (Err error) P holds = tt

pub untold_changes : {T : Type 0} (change : Tree → Tree) (before after : ℕ) (result : Result T WorldError) → before ≤ after → after ≡ faults_after result before
    → Changes change (untold before) (untold after) result
untold_changes change before after result later faults = record {
  done = on_ok result _ refl;
  failed = λ _. inl refl;
  no_memory = λ _. refl;
  soft = refl;
  moments = untold_turns _ _ before after;
  none_forgotten = untold_forgets_none before after;
  ran_none = untold_ran_none before after;
  cause = untold_cause before after result later faults;
}

pub untold_puts : {T : Type 0} (path : Path) (bytes : List ℕ) (exec : Bool) (before after : ℕ) (result : Result T WorldError) → before ≤ after → after ≡ faults_after result before
    → Puts path bytes exec (untold before) (untold after) result
untold_puts path bytes exec before after result later faults = record {
  done = on_ok result _ refl;
  failed = λ _. inl refl;
  no_memory = λ _. refl;
  soft = refl;
  moments = untold_adds _ before after;
  none_forgotten = untold_forgets_none before after;
  torn = λ tried image left. absurd left;
  ran_none = untold_ran_none before after;
  cause = untold_cause before after result later faults;
}

pub untold_runs : (request : Request) (before after : ℕ) (result : Result Reply WorldError) → before ≤ after → after ≡ faults_after result before
    → Runs request (untold before) (untold after) result
untold_runs request before after result later faults = record {
  ends = λ tree told. absurd (none-some tree told);
  begun = inl (record { tree = refl; soft = refl });
  given = λ tried tree told. absurd (none-some tree told);
  moments = untold_adds _ before after;
  none_forgotten = untold_forgets_none before after;
  inside = λ tried image left. absurd left;
  lasts = untold_lasts before after;
  cause = untold_cause before after result later faults;
}

on_err : {T : Type 0} (result : Result T WorldError) (P : Type 0) → P → OnErr result P
on_err (Ok value) P holds = tt
on_err (Err error) P holds = holds

pub untold_settles : {T : Type 0} (area : Area) (before after : ℕ) (result : Result T WorldError) → before ≤ after → after ≡ faults_after result before
    → Settles area (untold before) (untold after) result
untold_settles area before after result later faults = record {
  tree = refl;
  soft = on_ok result _ refl;
  soft_err = on_err result _ refl;
  moments = untold_adds _ before after;
  none_forgotten = untold_forgets_none before after;
  ran_none = untold_ran_none before after;
  cause = untold_cause before after result later faults;
}

pub untold_write_fails : {T : Type 0} (piece : List ℕ) (before after : ℕ) → before ≤ after → after ≡ one_more_fault before
    → Writes piece {T = T} (untold_sink before) (untold_sink after) (Err sink_error.Failed)
untold_write_fails piece before after later faults = record {
  done = tt;
  failed = λ _. (0, refl);
  no_memory = λ _. refl;
  later = later;
  rose = λ _. grind arith;
  steady = λ steady. steady;
  never = λ steady _. grind arith;
}
