-- The facts of what was read are those of the tree.
use Rattle.std.proofs.Common.{◌≡◌, ℕ, Bool, true, List, map, refl, sym, ap, ◌∙◌, subst, arith}
use Rattle.std.specs.Prelude.{Option, Some, None, Result, Ok, Err, IsErrOf}
use Rattle.std.specs.Option.{ForSome}
use Rattle.kb_world.specs.Path.{Path, child}
use Rattle.kb_world.specs.Names.{is_name}
use Rattle.kb_world.specs.Tree.{Tree, node_at, is_dir}
use Rattle.kb_world.specs.State.{State, HasCause, Looks}
use Rattle.kb_world.specs.Read.{Gives, IsAnswer, IsRead, unless_due}
use Rattle.kb_world.proofs.CallLaws.{unchanged_then}
use Rattle.kb_world.specs.declared.job.TokenChoice.{TokenChoice}
use Rattle.kb_world.specs.declared.roots.Roots.{Roots}
use Rattle.kb_world.specs.declared.refusal.Refusal.{Refusal}
use Rattle.kb_world.specs.declared.stop.Stop.{Stop}
use Rattle.kb_world.specs.declared.stop.Stop.TheVariants.{Refused, Fault, NoMemory}
use Rattle.kb_world.specs.declared.world.WorldError.{WorldError}
use Rattle.kb_world.specs.declared.world.WorldError.TheVariants.{Failed}
use Rattle.kb_token.specs.Sources.{Contents, contents_in, contents_of, all_sources}
use Rattle.kb_token.specs.Facts.{facts, facts_for, facts_with, token_from, chosen_token, first_too_large}
use Rattle.kb_token.specs.Token.{token_of}
use Rattle.kb_token.specs.declared.facts.BootFacts.{BootFacts}
use Rattle.kb_token.specs.declared.sources.Content.{Content}
use Rattle.kb_token.specs.declared.sources.Source.{Source}
use Rattle.kb_token.specs.declared.sources.Source.TheVariants as source
use Rattle.kb_token.proofs.TokenLaws.{chosen_named}

-- what was read of each source stands there
each_is : (f : Contents) (s : Source) → contents_of (map f all_sources) s ≡ f s
unfolding contents_of
each_is f source.MachineId = refl
each_is f source.Release = refl
each_is f source.VendorRelease = refl
each_is f source.EntryToken = refl
each_is f source.InstallConf = refl
each_is f source.VendorInstallConf = refl
each_is f source.EntriesSrel = refl
each_is f source.Cmdline = refl
each_is f source.VendorCmdline = refl
each_is f source.OwnCmdline = refl
each_is f source.Tries = refl

contents_are : (f : Contents) (read : List Content) → read ≡ map f all_sources → contents_of read ≡ f
contents_are f read is = ap contents_of is ∙ (λ i. λ s. each_is f s i)

-- a call that ends without a fault has the cause of the looks before it
no_fault : {T : Type 0} (result : Result T Stop) (right : Result T Refusal) → IsRead result right → IsErrOf result Fault → ⊥
no_fault (Ok value) right h e = let impossible : Ok value ≡ Err Fault = e in cc
no_fault (Err (Refused due)) right h e = let impossible : Err (Refused due) ≡ Err Fault = e in cc
no_fault (Err Fault) right h e = h
no_fault (Err NoMemory) right h e = let impossible : Err NoMemory ≡ Err Fault = e in cc

other_cause : {T U : Type 0} (old new : State) (first : Result T WorldError) (second : Result U Stop) → HasCause Failed old new first → (IsErrOf second Fault → ⊥) → HasCause Fault old new second
other_cause old new first second a never = record {
  later = a.later;
  rose = λ failed. absurd (never failed);
  steady = a.steady;
  never = λ told is failed. never failed;
}

same_error : {T U : Type 0} (stop : Stop) → ◌≡◌ {A = Result U Stop} (Err stop) (Err Fault) → ◌≡◌ {A = Result T Stop} (Err stop) (Err Fault)
same_error stop e = let same : stop ≡ Fault = cc in ap Err same

-- the refusal of what was read
refused_answer : (roots : Roots) (choice : TokenChoice) (tree : Tree) (stop : Stop) → IsRead {T = List ℕ} (Err stop) (token_from roots (contents_in roots tree) choice) → IsAnswer (Err stop) (facts roots choice tree)
refused_answer roots choice tree (Refused due) h = ap (facts_for roots tree (contents_in roots tree)) h
refused_answer roots choice tree Fault h = tt
refused_answer roots choice tree NoMemory h = tt

pub gives_refused : (roots : Roots) (choice : TokenChoice) (old new : State) (read : List Content) (stop : Stop) → ForSome old.tree (λ tree. read ≡ map (contents_in roots tree) all_sources) → Looks {T = List Content} old new (Ok read)
    → IsRead {T = List ℕ} (Err stop) (token_from roots (contents_of read) choice) → Gives {T = BootFacts} (facts roots choice) old new (Err stop)
gives_refused roots choice old new read stop are looks said = record {
  answers = λ tree told. refused_answer roots choice tree stop (subst (λ contents. IsRead {T = List ℕ} (Err stop) (token_from roots contents choice)) (contents_are (contents_in roots tree) read (are tree told)) said);
  unchanged = looks.unchanged;
  cause = other_cause old new (Ok read) (Err stop) looks.cause (λ e. no_fault {T = List ℕ} (Err stop) _ said (same_error stop e));
}

-- the facts of what was read
facts_are : (roots : Roots) (choice : TokenChoice) (tree : Tree) (read : List Content) (token : List ℕ) (path : Path) (token_dir : Bool) (made : BootFacts) → contents_of read ≡ contents_in roots tree
    → token_from roots (contents_of read) choice ≡ Ok token → path ≡ child roots.boot token → token_dir ≡ is_dir (node_at tree path) → made ≡ facts_with roots (contents_of read) token token_dir
    → facts roots choice tree ≡ Ok made
facts_are roots choice tree read token path token_dir made same said at dir is =
    ap (facts_for roots tree (contents_in roots tree)) (ap (λ contents. token_from roots contents choice) (sym same) ∙ said)
    ∙ ap (λ b. Ok (facts_with roots (contents_in roots tree) token b)) (sym (dir ∙ ap (λ p. is_dir (node_at tree p)) at)) ∙ ap (λ contents. Ok (facts_with roots contents token token_dir)) (sym same) ∙ ap Ok (sym is)

pub gives_facts : (roots : Roots) (choice : TokenChoice) (old mid new : State) (read : List Content) (token : List ℕ) (path : Path) (token_dir : Bool) (made : BootFacts)
    → ForSome old.tree (λ tree. read ≡ map (contents_in roots tree) all_sources) → Looks {T = List Content} old mid (Ok read) → token_from roots (contents_of read) choice ≡ Ok token → path ≡ child roots.boot token
    → ForSome mid.tree (λ tree. token_dir ≡ is_dir (node_at tree path)) → Looks {T = Bool} mid new (Ok token_dir) → made ≡ facts_with roots (contents_of read) token token_dir → Gives (facts roots choice) old new (Ok made)
gives_facts roots choice old mid new read token path token_dir made are looks said at dir looked is = record {
  answers = λ tree told.
      facts_are roots choice tree read token path token_dir made (contents_are (contents_in roots tree) read (are tree told)) said at (dir tree (looks.unchanged.tree ∙ told)) is;
  unchanged = unchanged_then old mid new looks.unchanged looked.unchanged;
  cause = record {
    later = omega (arith, looks.cause.later, looked.cause.later);
    rose = λ failed. let impossible : Ok made ≡ Err Fault = failed in cc;
    steady = λ was. looked.cause.steady (looks.cause.steady was);
    never = λ told was failed. let impossible : Ok made ≡ Err Fault = failed in cc;
  };
}

-- a token that was found can name the directory
pub token_names : (roots : Roots) (contents : Contents) (choice : TokenChoice) (token : List ℕ) → token_from roots contents choice ≡ Ok token → is_name token ≡ true
token_names roots contents choice token e = by_due (first_too_large roots contents all_sources) e
  where
    by_due : (due : Option Refusal) → unless_due due (token_of (chosen_token contents choice)) ≡ Ok token → is_name token ≡ true
    by_due None h = chosen_named (chosen_token contents choice) token h
    by_due (Some due) h = let impossible : ◌≡◌ {A = Result (List ℕ) Refusal} (Err due) (Ok token) = h in cc
