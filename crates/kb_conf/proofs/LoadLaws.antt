-- The calls of a world that a conf is loaded by.
use Rattle.std.proofs.Common.{◌≡◌, ℕ, Bool, true, false, cond, List, Option, Some, None, refl, sym, ap, ◌∙◌, arith}
use Rattle.std.specs.Prelude.{Result, Ok, Err, unwrap_or, codes, IsErrOf}
use Rattle.std.specs.Option.{option_or}
use Rattle.kb_world.specs.Path.{Path}
use Rattle.kb_world.specs.Tree.{Tree, node_at, is_file, file_bytes}
use Rattle.kb_world.specs.State.{State, HasCause}
use Rattle.kb_world.specs.Read.{Decides, Agrees, IsAnswer, Gives, IsRead, unless_due}
use Rattle.kb_world.proofs.CallLaws.{unchanged_then}
use Rattle.kb_world.specs.declared.job.Key.{Key}
use Rattle.kb_world.specs.declared.refusal.Refusal.{Refusal}
use Rattle.kb_world.specs.declared.stop.Stop.{Stop}
use Rattle.kb_world.specs.declared.stop.Stop.TheVariants.{Refused, Fault, NoMemory}
use Rattle.kb_conf.specs.declared.conf.Conf.{Conf}
use Rattle.kb_conf.specs.Assignment.{Given}
use Rattle.kb_conf.specs.Conf.{conf_of}
use Rattle.kb_conf.specs.Load.{conf_below, bytes_at, no_conf, no_source, matched, loaded_conf, GivesFile}

-- where no refusal of the source is due, its conf is a file
is_conf_file : (path : Path) (tree : Tree) → no_conf path tree ≡ None → is_file (node_at tree path) ≡ true
is_conf_file path tree e = by_cases (is_file (node_at tree path)) _ _ e
  where
    by_cases : (b : Bool) (o : Option Refusal) (r : Refusal) → cond b o (Some r) ≡ None → b ≡ true
    by_cases true o r e = refl
    by_cases false o r e = let impossible : Some r ≡ None = e in cc

second_none : (a b : Option Refusal) → option_or a b ≡ None → b ≡ None
second_none None b e = e
second_none (Some x) b e = let impossible : Some x ≡ None = e in cc

pub source_has_file : (dir path : Path) (tree : Tree) → no_source dir path tree ≡ None → is_file (node_at tree path) ≡ true
source_has_file dir path tree e = is_conf_file path tree (second_none _ _ e)

error_moves : {T U : Type 0} (stop other : Stop) → ◌≡◌ {A = Result T Stop} (Err stop) (Err other) → ◌≡◌ {A = Result U Stop} (Err stop) (Err other)
error_moves stop other e = let same : stop ≡ other = cc in ap Err same

cause_moves : {T U : Type 0} (old new : State) (stop : Stop) → HasCause {T = T} Fault old new (Err stop) → HasCause {T = U} Fault old new (Err stop)
cause_moves old new stop h = record {
  later = h.later;
  rose = λ e. h.rose (error_moves stop Fault e);
  steady = h.steady;
  never = λ told is e. h.never told is (error_moves stop Fault e);
}

after_due : (o : Option Refusal) (due : Refusal) (said : Result Conf Refusal) → o ≡ Some due → unless_due o said ≡ Err due
after_due o due said e = ap (λ x. unless_due x said) e

refused_answer : (dir : Path) (key : Option Key) (given : Given) (path : Path) → path ≡ conf_below dir → (tree : Tree) (stop : Stop) →
    Agrees {T = Unit {0}} (Err stop) (no_source dir path tree) → IsAnswer (Err stop) (loaded_conf dir key given tree)
unfolding loaded_conf
refused_answer dir key given path is tree (Refused due) e = after_due _ due _ (ap (λ p. no_source dir p tree) (sym is) ∙ e)
refused_answer dir key given path is tree Fault e = tt
refused_answer dir key given path is tree NoMemory e = tt

-- where the source is refused
pub gives_refused : (dir : Path) (key : Option Key) (given : Given) (path : Path) → path ≡ conf_below dir → (old mid : State) (stop : Stop) →
    Decides (no_source dir path) {T = Unit {0}} old mid (Err stop) → Gives (loaded_conf dir key given) old mid (Err stop)
gives_refused dir key given path is old mid stop d = record {
  answers = λ tree told. refused_answer dir key given path is tree stop (d.agrees tree told);
  unchanged = d.unchanged;
  cause = cause_moves old mid stop d.cause;
}

read_answer : (result : Result Conf Stop) (right said : Result Conf Refusal) → right ≡ said → IsRead result said → IsAnswer result right
read_answer (Ok conf) right said e h = e ∙ h
read_answer (Err (Refused due)) right said e h = e ∙ h
read_answer (Err Fault) right said e h = tt
read_answer (Err NoMemory) right said e h = tt

no_fault : (result : Result Conf Stop) (said : Result Conf Refusal) → IsRead result said → IsErrOf result Fault → ⊥
no_fault (Ok conf) said h e = let impossible : Ok conf ≡ Err Fault = e in cc
no_fault (Err (Refused due)) said h e = let impossible : Err (Refused due) ≡ Err Fault = e in cc
no_fault (Err Fault) said h e = h
no_fault (Err NoMemory) said h e = let impossible : Err NoMemory ≡ Err Fault = e in cc

loaded_is : (dir : Path) (key : Option Key) (given : Given) (path : Path) → path ≡ conf_below dir → (tree : Tree) (bytes : List ℕ) →
    no_source dir path tree ≡ None → file_bytes (node_at tree path) ≡ Some bytes → loaded_conf dir key given tree ≡ matched key (conf_of bytes given)
unfolding loaded_conf
loaded_is dir key given path is tree bytes none held =
    ap (λ p. unless_due (no_source dir p tree) (matched key (conf_of (bytes_at p tree) given))) (sym is)
    ∙ ap (λ o. unless_due o (matched key (conf_of (bytes_at path tree) given))) none
    ∙ ap (λ o. matched key (conf_of (unwrap_or o (codes "")) given)) held

-- where the file is read
pub gives_read : (dir : Path) (key : Option Key) (given : Given) (path : Path) → path ≡ conf_below dir → (old mid new : State) (u : Unit {0}) (bytes : List ℕ) (result : Result Conf Stop) →
    Decides (no_source dir path) {T = Unit {0}} old mid (Ok u) → GivesFile path mid new (Ok bytes) → IsRead result (matched key (conf_of bytes given)) →
    Gives (loaded_conf dir key given) old new result
gives_read dir key given path is old mid new u bytes result d f h = record {
  answers = λ tree told. read_answer result _ _ (loaded_is dir key given path is tree bytes (d.agrees tree told) (f.bytes tree (d.unchanged.tree ∙ told))) h;
  unchanged = unchanged_then old mid new d.unchanged f.unchanged;
  cause = record {
    later = omega (arith, d.cause.later, f.cause.later);
    rose = λ e. absurd (no_fault result _ h e);
    steady = λ was. f.cause.steady (d.cause.steady was);
    never = λ told was e. no_fault result _ h e;
  };
}
