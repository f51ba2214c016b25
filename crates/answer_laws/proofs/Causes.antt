-- What each request finds in its files, and the status that this calls for.
use Rattle.std.proofs.Common.{◌≡◌, ◌≢◌, ℕ, zero, suc, ◌<◌, ◌⊎◌, List, [], ◌∷◌, length, Option, Some, None, IfSome, refl, sym, ap, subst, inl, inr, arith}
use Rattle.std.specs.Prelude.{slice_get}
use Rattle.boolean_trial.specs.Plain.{IsPlain}
use Rattle.check_command.specs.CheckCommand.{CheckSays, IsNotTried, IsTried}
use Rattle.cnf_core.specs.Clauses.{Clauses}
use Rattle.command_files.specs.Answers.{IsOverLong, NoSecond, Tells}
use Rattle.command_files.specs.Slots.{TextFile}
use Rattle.derivation.specs.Logs.{IsFirstBad, Valid}
use Rattle.derivation.specs.Step.{Step}
use Rattle.evidence.specs.declared.Evidence.{Evidence}
use Rattle.formula_commands.specs.ProofCommand.{ProofSays, IsJudged, LiesIn, TellsLog, HoldsSome as HoldsFormulaOf}
use Rattle.formula_commands.specs.SatCommand.{SatSays}
use Rattle.formula_commands.specs.Texts.{text_limit, formula_file, IsFormula, IsNoFormula, IsLog, IsNoLog}
use Rattle.heap_core.specs.declared.start.Start.{Start}
use Rattle.heap_core.specs.Judge.{Violable, judged}
use Rattle.heap_core.specs.Posed.{Posed}
use Rattle.posed_files.specs.Problems.{java_file, java_limit, IsPosed, IsRefused, LacksMethod}
use Rattle.refusals.specs.declared.refusal.Refusal.{Refusal}
use Rattle.replay_command.specs.ReplayCommand.{ReplaySays, state_file, state_limit, status_of, IsNoState, IsReplayed, IsState, LacksState, HoldsSome as HoldsProblemOf}
use Rattle.taco_report.specs.declared.status.Status.{Status}
use Rattle.taco_report.specs.declared.status.Status.TheVariants as status
use Rattle.taco_words.specs.declared.request.Job.{Job}
use Rattle.answer_laws.proofs.Found.{Found, Long, Bad, Good, Finds, at_told}
use Rattle.answer_laws.proofs.Texts.{PosesNot}

-- A FILE THAT IS TOO LONG

only_file : (f g : TextFile) (slot : ℕ) → slot ≡ 0 → slice_get (f ∷ []) slot ≡ Some g → f ≡ g
only_file f g slot zero_ there = some_same (subst (λ (n : ℕ). slice_get (f ∷ []) n ≡ Some g) zero_ there)
  where
    some_same : Some f ≡ Some g → f ≡ g
    some_same e = cc

record FirstLong (f : TextFile) (bytes : List ℕ) (slot : ℕ) : Type 0 where
  first : slot ≡ 0
  long : f.limit < length bytes

long_of : (f g : TextFile) (told : List ℕ → Option (List ℕ)) (bytes : List ℕ) → told f.name ≡ Some bytes → f ≡ g → IfSome (told g.name) (λ b. g.limit < length b) → f.limit < length bytes
long_of f g told bytes is same long =
    at_told (λ b. f.limit < length b) (told f.name) bytes is (subst (λ (h : TextFile). IfSome (told h.name) (λ b. h.limit < length b)) (sym same) long)

one_long : (f : TextFile) (told : List ℕ → Option (List ℕ)) (bytes : List ℕ) (slot : ℕ) → told f.name ≡ Some bytes → IsOverLong (f ∷ []) ⊥ told slot → FirstLong f bytes slot
one_long f told bytes slot is x = by x.reached.comes
  where
    by : (slot ≡ 0) ⊎ ⊥ → FirstLong f bytes slot
    by (inl first) = record { first = first; long = long_of f x.file told bytes is (only_file f x.file slot first x.reached.listed) x.long }
    by (inr none) = absurd none

-- which of two files is too long
data TwoLong (f g : TextFile) (S : Type 0) (bytes more : List ℕ) (slot : ℕ) : Type 0 where
  first_long : slot ≡ 0 → f.limit < length bytes → TwoLong f g S bytes more slot
  second_long : slot ≡ 1 → S → g.limit < length more → TwoLong f g S bytes more slot

two_long : (f g : TextFile) (S : Type 0) (told : List ℕ → Option (List ℕ)) (bytes more : List ℕ) (slot : ℕ) → told f.name ≡ Some bytes → told g.name ≡ Some more
    → IsOverLong (f ∷ g ∷ []) S told slot → TwoLong f g S bytes more slot
two_long f g S told bytes more slot is is' x = by_slot slot refl x.reached.listed x.reached.comes
  where
    some_same : (h k : TextFile) → Some h ≡ Some k → h ≡ k
    some_same h k e = cc

    by_slot : (n : ℕ) → n ≡ slot → slice_get (f ∷ g ∷ []) n ≡ Some x.file → (slot ≡ 0) ⊎ S → TwoLong f g S bytes more slot
    by_slot zero e there comes = first_long (sym e) (long_of f x.file told bytes is (some_same f x.file there) x.long)
    by_slot (suc zero) e there (inl first) = absurd (omega (arith, e, first))
    by_slot (suc zero) e there (inr second) = second_long (sym e) second (long_of g x.file told more is' (some_same g x.file there) x.long)
    by_slot (suc (suc n)) e there comes = absurd (cc)

-- JAVA TEXTS

abbrev pub EndsPosed : (Posed → Status → Type 0) → Found Posed (Option Refusal) → Status → Type 0
EndsPosed Ends Long ends = ends ≡ status.TooLong 0
EndsPosed Ends (Bad (Some refusal)) ends = ends ≡ status.Source refusal
EndsPosed Ends (Bad None) ends = ends ≡ status.NoMethod
EndsPosed Ends (Good p) ends = Ends p ends

-- what the first file holds, and how a request ends that goes on so with a problem
pub record PosedCause (Ends : Posed → Status → Type 0) (job : Job) (bytes : List ℕ) (ends : Status) : Type 0 where
  pub found : Found Posed (Option Refusal)
  pub finds : Finds java_limit (IsPosed bytes job) (PosesNot bytes job) bytes found
  pub ends_is : EndsPosed Ends found ends

-- CHECK

pub data IsChecked (p : Posed) (ends : Status) : Type 0 where
  holding : ends ≡ status.Holds → IsPlain p.unit p.method → (Violable p → ⊥) → IsChecked p ends
  broken_ : ends ≡ status.Violated → IsPlain p.unit p.method → Violable p → IsChecked p ends
  not_plain_ : ends ≡ status.NotBuilt → (IsPlain p.unit p.method → ⊥) → IsChecked p ends

pub check_cause : (job : Job) (told : List ℕ → Option (List ℕ)) (bytes : List ℕ) (ends : Status) (output : List ℕ) → told job.file ≡ Some bytes → ends ≢ status.NoMemory → ends ≢ status.ReadFault
    → Tells (java_file job ∷ []) NoSecond (CheckSays job) told ends output → PosedCause IsChecked job bytes ends
check_cause job told bytes status.Holds output is no_want no_fault t =
    let x : IsTried bytes job t.problem = at_told (λ b. IsTried b job t.problem) (told job.file) bytes is t.tried in
    record { found = Good t.problem; finds = x.posed; ends_is = holding refl x.plain t.not_violable }
check_cause job told bytes status.Violated output is no_want no_fault t =
    let x : IsTried bytes job t.problem = at_told (λ b. IsTried b job t.problem) (told job.file) bytes is t.tried in
    record { found = Good t.problem; finds = x.posed; ends_is = broken_ refl x.plain (t.start, t.broken, t.violates) }
check_cause job told bytes status.Done output is no_want no_fault t = absurd t
check_cause job told bytes status.Broken output is no_want no_fault t = absurd t
check_cause job told bytes status.Usage output is no_want no_fault t = absurd t
check_cause job told bytes status.NotBuilt output is no_want no_fault t =
    let x : IsNotTried bytes job = at_told (λ b. IsNotTried b job) (told job.file) bytes is t.1 in
    record { found = Good x.problem; finds = x.posed; ends_is = not_plain_ refl x.not_plain }
check_cause job told bytes (status.Source r) output is no_want no_fault t = record { found = Bad (Some r); finds = at_told (λ b. IsRefused b r) (told job.file) bytes is t.1; ends_is = refl }
check_cause job told bytes status.NoMethod output is no_want no_fault t = record { found = Bad None; finds = at_told (λ b. LacksMethod b job) (told job.file) bytes is t.1; ends_is = refl }
check_cause job told bytes (status.BadState at) output is no_want no_fault t = absurd t
check_cause job told bytes (status.BadText slot at) output is no_want no_fault t = absurd t
check_cause job told bytes (status.TooLong slot) output is no_want no_fault t =
    let l : FirstLong (java_file job) bytes slot = one_long (java_file job) told bytes slot is t.1 in
    record { found = Long; finds = l.long; ends_is = ap status.TooLong l.first }
check_cause job told bytes status.Unknown output is no_want no_fault t = absurd t
check_cause job told bytes status.ReadFault output is no_want no_fault t = absurd (no_fault refl)
check_cause job told bytes status.WriteFault output is no_want no_fault t = absurd t
check_cause job told bytes status.NoMemory output is no_want no_fault t = absurd (no_want refl)

-- REPLAY

abbrev pub EndsState : Posed → Found Start ℕ → Status → Type 0
EndsState p Long ends = ends ≡ status.TooLong 1
EndsState p (Bad at) ends = ends ≡ status.BadState at
EndsState p (Good s) ends = ends ≡ status_of (judged p s)

pub record StateCause (more : List ℕ) (p : Posed) (ends : Status) : Type 0 where
  pub found : Found Start ℕ
  pub finds : Finds state_limit (IsState p more) (IsNoState p more) more found
  pub ends_is : EndsState p found ends

replay_long : (job : Job) (state : List ℕ) (told : List ℕ → Option (List ℕ)) (bytes more : List ℕ) (slot : ℕ) → told job.file ≡ Some bytes
    → TwoLong (java_file job) (state_file state) (HoldsProblemOf job told) bytes more slot → PosedCause (StateCause more) job bytes (status.TooLong slot)
replay_long job state told bytes more slot is (first_long e l) = record { found = Long; finds = l; ends_is = ap status.TooLong e }
replay_long job state told bytes more slot is (second_long e s l) =
    record {
      found = Good s.problem;
      finds = at_told (λ b. IsPosed b job s.problem) (told job.file) bytes is s.holds.is;
      ends_is = record {
        found = Long;
        finds = l;
        ends_is = ap status.TooLong e;
      };
    }

replayed_cause : (job : Job) (state : List ℕ) (told : List ℕ → Option (List ℕ)) (bytes more : List ℕ) (ends : Status) (output : List ℕ) → told job.file ≡ Some bytes → told state ≡ Some more
    → IsReplayed told job state ends output → PosedCause (StateCause more) job bytes ends
replayed_cause job state told bytes more ends output is is' t =
    record {
      found = Good t.problem;
      finds = at_told (λ b. IsPosed b job t.problem) (told job.file) bytes is t.posed.is;
      ends_is = record { found = Good t.start; finds = at_told (λ b. IsState t.problem b t.start) (told state) more is' t.state_is; ends_is = t.ends_is };
    }

pub replay_cause : (job : Job) (state : List ℕ) (told : List ℕ → Option (List ℕ)) (bytes more : List ℕ) (ends : Status) (output : List ℕ) → told job.file ≡ Some bytes → told state ≡ Some more
    → ends ≢ status.NoMemory → ends ≢ status.ReadFault → Tells (java_file job ∷ state_file state ∷ []) (HoldsProblemOf job) (ReplaySays job state) told ends output
    → PosedCause (StateCause more) job bytes ends
replay_cause job state told bytes more status.Holds output is is' no_want no_fault t = absurd t
replay_cause job state told bytes more status.Violated output is is' no_want no_fault t = absurd t
replay_cause job state told bytes more status.Done output is is' no_want no_fault t = replayed_cause job state told bytes more status.Done output is is' t
replay_cause job state told bytes more status.Broken output is is' no_want no_fault t = replayed_cause job state told bytes more status.Broken output is is' t
replay_cause job state told bytes more status.Usage output is is' no_want no_fault t = absurd t
replay_cause job state told bytes more status.NotBuilt output is is' no_want no_fault t = absurd t
replay_cause job state told bytes more (status.Source r) output is is' no_want no_fault t =
    record { found = Bad (Some r); finds = at_told (λ b. IsRefused b r) (told job.file) bytes is t.1; ends_is = refl }
replay_cause job state told bytes more status.NoMethod output is is' no_want no_fault t =
    record { found = Bad None; finds = at_told (λ b. LacksMethod b job) (told job.file) bytes is t.1; ends_is = refl }
replay_cause job state told bytes more (status.BadState at) output is is' no_want no_fault t =
    let x : LacksState told job state at = t.1 in
    record {
      found = Good x.problem;
      finds = at_told (λ b. IsPosed b job x.problem) (told job.file) bytes is x.posed.is;
      ends_is = record { found = Bad at; finds = at_told (λ b. IsNoState x.problem b at) (told state) more is' x.no_state; ends_is = refl };
    }
replay_cause job state told bytes more (status.BadText slot at) output is is' no_want no_fault t = absurd t
replay_cause job state told bytes more (status.TooLong slot) output is is' no_want no_fault t =
    replay_long job state told bytes more slot is (two_long (java_file job) (state_file state) (HoldsProblemOf job told) told bytes more slot is is' t.1)
replay_cause job state told bytes more status.Unknown output is is' no_want no_fault t = absurd t
replay_cause job state told bytes more status.ReadFault output is is' no_want no_fault t = absurd (no_fault refl)
replay_cause job state told bytes more status.WriteFault output is is' no_want no_fault t = absurd t
replay_cause job state told bytes more status.NoMemory output is is' no_want no_fault t = absurd (no_want refl)

-- FORMULAS

abbrev pub EndsFormula : (Clauses → Status → Type 0) → Found Clauses ℕ → Status → Type 0
EndsFormula Ends Long ends = ends ≡ status.TooLong 0
EndsFormula Ends (Bad at) ends = ends ≡ status.BadText 0 at
EndsFormula Ends (Good c) ends = Ends c ends

pub record FormulaCause (Ends : Clauses → Status → Type 0) (bytes : List ℕ) (ends : Status) : Type 0 where
  pub found : Found Clauses ℕ
  pub finds : Finds text_limit (IsFormula bytes) (IsNoFormula bytes) bytes found
  pub ends_is : EndsFormula Ends found ends

-- SAT

pub data IsSearchEnd (budget : ℕ) (c : Clauses) (ends : Status) : Type 0 where
  found_out : ends ≡ status.Done → IsSearchEnd budget c ends
  gave_up : ends ≡ status.Unknown → 0 < budget → IsSearchEnd budget c ends

pub sat_cause : (cnf : List ℕ) (budget : ℕ) (evidence : Option Evidence) (told : List ℕ → Option (List ℕ)) (bytes : List ℕ) (ends : Status) (output : List ℕ) → told cnf ≡ Some bytes
    → ends ≢ status.NoMemory → ends ≢ status.ReadFault
    → Tells (formula_file cnf ∷ []) NoSecond (SatSays cnf budget evidence) told ends output → FormulaCause (IsSearchEnd budget) bytes ends
sat_cause cnf budget evidence told bytes status.Holds output is no_want no_fault t = absurd t
sat_cause cnf budget evidence told bytes status.Violated output is no_want no_fault t = absurd t
sat_cause cnf budget (Some e) told bytes status.Done output is no_want no_fault t =
    record { found = Good e.cnf; finds = at_told (λ b. IsFormula b e.cnf) (told cnf) bytes is t.cnf_is; ends_is = found_out refl }
sat_cause cnf budget None told bytes status.Done output is no_want no_fault t = absurd t
sat_cause cnf budget evidence told bytes status.Broken output is no_want no_fault t = absurd t
sat_cause cnf budget evidence told bytes status.Usage output is no_want no_fault t = absurd t
sat_cause cnf budget evidence told bytes status.NotBuilt output is no_want no_fault t = absurd t
sat_cause cnf budget evidence told bytes (status.Source r) output is no_want no_fault t = absurd t
sat_cause cnf budget evidence told bytes status.NoMethod output is no_want no_fault t = absurd t
sat_cause cnf budget evidence told bytes (status.BadState at) output is no_want no_fault t = absurd t
sat_cause cnf budget evidence told bytes (status.BadText slot at) output is no_want no_fault t =
    record { found = Bad at; finds = at_told (λ b. IsNoFormula b at) (told cnf) bytes is t.2; ends_is = ap (λ (n : ℕ). status.BadText n at) t.1 }
sat_cause cnf budget evidence told bytes (status.TooLong slot) output is no_want no_fault t =
    let l : FirstLong (formula_file cnf) bytes slot = one_long (formula_file cnf) told bytes slot is t.1 in
    record { found = Long; finds = l.long; ends_is = ap status.TooLong l.first }
sat_cause cnf budget (Some e) told bytes status.Unknown output is no_want no_fault t =
    record { found = Good e.cnf; finds = at_told (λ b. IsFormula b e.cnf) (told cnf) bytes is t.cnf_is; ends_is = gave_up refl t.verdict.spends.some }
sat_cause cnf budget None told bytes status.Unknown output is no_want no_fault t = absurd t
sat_cause cnf budget evidence told bytes status.ReadFault output is no_want no_fault t = absurd (no_fault refl)
sat_cause cnf budget evidence told bytes status.WriteFault output is no_want no_fault t = absurd t
sat_cause cnf budget evidence told bytes status.NoMemory output is no_want no_fault t = absurd (no_want refl)

-- PROOF

pub data IsLogEnd (c : Clauses) (steps : List Step) (ends : Status) : Type 0 where
  following : ends ≡ status.Done → Valid c.clauses steps → IsLogEnd c steps ends
  breaking : ends ≡ status.Broken → (n : ℕ) → IsFirstBad c.clauses steps n → IsLogEnd c steps ends

abbrev pub EndsLog : Clauses → Found (List Step) ℕ → Status → Type 0
EndsLog c Long ends = ends ≡ status.TooLong 1
EndsLog c (Bad at) ends = ends ≡ status.BadText 1 at
EndsLog c (Good steps) ends = IsLogEnd c steps ends

pub record LogCause (more : List ℕ) (c : Clauses) (ends : Status) : Type 0 where
  pub found : Found (List Step) ℕ
  pub finds : Finds text_limit (IsLog c.vars more) (IsNoLog c.vars more) more found
  pub ends_is : EndsLog c found ends

proof_long : (cnf log : List ℕ) (told : List ℕ → Option (List ℕ)) (bytes more : List ℕ) (slot : ℕ) → told cnf ≡ Some bytes
    → TwoLong (formula_file cnf) (formula_file log) (HoldsFormulaOf cnf told) bytes more slot → FormulaCause (LogCause more) bytes (status.TooLong slot)
proof_long cnf log told bytes more slot is (first_long e l) = record { found = Long; finds = l; ends_is = ap status.TooLong e }
proof_long cnf log told bytes more slot is (second_long e s l) =
    record { found = Good s.formula; finds = at_told (λ b. IsFormula b s.formula) (told cnf) bytes is s.holds.is; ends_is = record { found = Long; finds = l; ends_is = ap status.TooLong e } }

judged_cause : (cnf log : List ℕ) (told : List ℕ → Option (List ℕ)) (bytes more : List ℕ) (ends : Status) (output : List ℕ) → told cnf ≡ Some bytes → told log ≡ Some more
    → (t : IsJudged told cnf log ends output) → IsLogEnd t.formula t.steps ends → FormulaCause (LogCause more) bytes ends
judged_cause cnf log told bytes more ends output is is' t e =
    record {
      found = Good t.formula;
      finds = at_told (λ b. IsFormula b t.formula) (told cnf) bytes is t.cnf_is;
      ends_is = record { found = Good t.steps; finds = at_told (λ b. IsLog t.formula.vars b t.steps) (told log) more is' t.log_is; ends_is = e };
    }

done_valid : (c : Clauses) (steps : List Step) (output : List ℕ) → TellsLog c steps status.Done output → Valid c.clauses steps
done_valid c steps output (inl x) = x.log.0
done_valid c steps output (inr x) = x.log

bad_cause : (cnf log : List ℕ) (told : List ℕ → Option (List ℕ)) (bytes more : List ℕ) (slot at : ℕ) → told cnf ≡ Some bytes → told log ≡ Some more → LiesIn told cnf log slot at
    → FormulaCause (LogCause more) bytes (status.BadText slot at)
bad_cause cnf log told bytes more slot at is is' (inl x) =
    record { found = Bad at; finds = at_told (λ b. IsNoFormula b at) (told cnf) bytes is x.1; ends_is = ap (λ (n : ℕ). status.BadText n at) x.0 }
bad_cause cnf log told bytes more slot at is is' (inr x) =
    record {
      found = Good x.0;
      finds = at_told (λ b. IsFormula b x.0) (told cnf) bytes is x.2.is;
      ends_is = record { found = Bad at; finds = at_told (λ b. IsNoLog x.0.vars b at) (told log) more is' x.3; ends_is = ap (λ (n : ℕ). status.BadText n at) x.1 };
    }

pub proof_cause : (cnf log : List ℕ) (told : List ℕ → Option (List ℕ)) (bytes more : List ℕ) (ends : Status) (output : List ℕ) → told cnf ≡ Some bytes → told log ≡ Some more
    → ends ≢ status.NoMemory → ends ≢ status.ReadFault → Tells (formula_file cnf ∷ formula_file log ∷ []) (HoldsFormulaOf cnf) (ProofSays cnf log) told ends output
    → FormulaCause (LogCause more) bytes ends
proof_cause cnf log told bytes more status.Holds output is is' no_want no_fault t = absurd t
proof_cause cnf log told bytes more status.Violated output is is' no_want no_fault t = absurd t
proof_cause cnf log told bytes more status.Done output is is' no_want no_fault t =
    judged_cause cnf log told bytes more status.Done output is is' t (following refl (done_valid t.formula t.steps output t.verdict))
proof_cause cnf log told bytes more status.Broken output is is' no_want no_fault t = judged_cause cnf log told bytes more status.Broken output is is' t (breaking refl t.verdict.n t.verdict.first)
proof_cause cnf log told bytes more status.Usage output is is' no_want no_fault t = absurd t
proof_cause cnf log told bytes more status.NotBuilt output is is' no_want no_fault t = absurd t
proof_cause cnf log told bytes more (status.Source r) output is is' no_want no_fault t = absurd t
proof_cause cnf log told bytes more status.NoMethod output is is' no_want no_fault t = absurd t
proof_cause cnf log told bytes more (status.BadState at) output is is' no_want no_fault t = absurd t
proof_cause cnf log told bytes more (status.BadText slot at) output is is' no_want no_fault t = bad_cause cnf log told bytes more slot at is is' t.1
proof_cause cnf log told bytes more (status.TooLong slot) output is is' no_want no_fault t =
    proof_long cnf log told bytes more slot is (two_long (formula_file cnf) (formula_file log) (HoldsFormulaOf cnf told) told bytes more slot is is' t.1)
proof_cause cnf log told bytes more status.Unknown output is is' no_want no_fault t = absurd t
proof_cause cnf log told bytes more status.ReadFault output is is' no_want no_fault t = absurd (no_fault refl)
proof_cause cnf log told bytes more status.WriteFault output is is' no_want no_fault t = absurd t
proof_cause cnf log told bytes more status.NoMemory output is is' no_want no_fault t = absurd (no_want refl)
