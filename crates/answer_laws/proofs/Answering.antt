-- Two answers to one request have one status.
use Rattle.std.proofs.Common.{◌≡◌, ◌≢◌, ℕ, ◌<◌, List, [], ◌∷◌, All, Option, Some, None, refl, sym, ap, subst, ◌∙◌, arith}
use Rattle.std.specs.Prelude.{IsSome, slice_get}
use Rattle.std.proofs.lemmas.List.Elements.{All-head, All-tail}
use Rattle.check_command.specs.CheckCommand.{CheckSays}
use Rattle.cnf_core.specs.Clauses.{Clauses}
use Rattle.command_files.specs.Answers.{NoSecond, Tells}
use Rattle.command_files.specs.Slots.{TextFile}
use Rattle.derivation.specs.Step.{Step}
use Rattle.derivation.proofs.LogLemmas.{none_bad}
use Rattle.evidence.specs.declared.Evidence.{Evidence}
use Rattle.formula_commands.specs.ProofCommand.{ProofSays, HoldsSome as HoldsFormulaOf}
use Rattle.formula_commands.specs.SatCommand.{SatSays}
use Rattle.formula_commands.specs.Texts.{text_limit, formula_file, IsFormula, IsNoFormula, IsLog, IsNoLog}
use Rattle.heap_core.specs.declared.start.Start.{Start}
use Rattle.heap_core.specs.Posed.{Posed}
use Rattle.posed_files.specs.Problems.{java_file, java_limit, IsPosed}
use Rattle.refusals.specs.declared.refusal.Refusal.{Refusal}
use Rattle.replay_command.specs.ReplayCommand.{ReplaySays, state_file, state_limit, IsNoState, IsState, HoldsSome as HoldsProblemOf}
use Rattle.taco_report.specs.declared.status.Status.{Status}
use Rattle.taco_report.specs.declared.status.Status.TheVariants as status
use Rattle.taco_report.specs.RefusalLines.{refusal_line}
use Rattle.taco_report.specs.Statuses.{IsRefusal}
use Rattle.taco_run.specs.Requests.{UsageSays}
use Rattle.taco_unit.specs.Scopes.{IsScope}
use Rattle.taco_words.specs.declared.request.Job.{Job}
use Rattle.taco_words.specs.declared.request.Request.{Request}
use Rattle.taco_words.specs.declared.request.Request.TheVariants as request
use Rattle.answer_laws.specs.OneStatus.{gone_on, AreOne, IsAnswer, IsTold, MayGiveUp}
use Rattle.answer_laws.proofs.Found.{Found, Long, Bad, Good, Finds, one_found}
use Rattle.answer_laws.proofs.Texts.{PosesNot, few_vars, formula_told, java_told, log_told, posed_range, posed_well, state_told}
use Rattle.answer_laws.proofs.Causes.{EndsFormula, EndsLog, EndsPosed, EndsState, FormulaCause, IsChecked, IsLogEnd, IsSearchEnd, LogCause, PosedCause, StateCause}
use Rattle.answer_laws.proofs.Causes.{breaking, broken_, check_cause, following, found_out, gave_up, holding, not_plain_, proof_cause, replay_cause, sat_cause}

-- ONE CAUSE

one_posed : (Ends : Posed → Status → Type 0) (job : Job) (bytes : List ℕ) (e d : Status) → ((p : Posed) → IsPosed bytes job p → Ends p e → Ends p d → e ≡ d)
    → PosedCause Ends job bytes e → PosedCause Ends job bytes d → e ≡ d
one_posed Ends job bytes e d law x y = by_found x.found x.finds x.ends_is (subst (λ (f : Found Posed (Option Refusal)). EndsPosed Ends f d) (sym same) y.ends_is)
  where
    same : x.found ≡ y.found
    same = one_found java_limit (IsPosed bytes job) (PosesNot bytes job) bytes (java_told bytes job) x.found y.found x.finds y.finds

    by_found : (f : Found Posed (Option Refusal)) → Finds java_limit (IsPosed bytes job) (PosesNot bytes job) bytes f → EndsPosed Ends f e → EndsPosed Ends f d → e ≡ d
    by_found Long h a b = a ∙ sym b
    by_found (Bad (Some r)) h a b = a ∙ sym b
    by_found (Bad None) h a b = a ∙ sym b
    by_found (Good p) h a b = law p h a b

one_formula : (Ends : Clauses → Status → Type 0) (bytes : List ℕ) (e d : Status) (R : Type 0) → (e ≡ d → R) → ((c : Clauses) → IsFormula bytes c → Ends c e → Ends c d → R)
    → FormulaCause Ends bytes e → FormulaCause Ends bytes d → R
one_formula Ends bytes e d R equal law x y = by_found x.found x.finds x.ends_is (subst (λ (f : Found Clauses ℕ). EndsFormula Ends f d) (sym same) y.ends_is)
  where
    same : x.found ≡ y.found
    same = one_found text_limit (IsFormula bytes) (IsNoFormula bytes) bytes (formula_told bytes) x.found y.found x.finds y.finds

    by_found : (f : Found Clauses ℕ) → Finds text_limit (IsFormula bytes) (IsNoFormula bytes) bytes f → EndsFormula Ends f e → EndsFormula Ends f d → R
    by_found Long h a b = equal (a ∙ sym b)
    by_found (Bad at) h a b = equal (a ∙ sym b)
    by_found (Good c) h a b = law c h a b

check_once : (p : Posed) (e d : Status) → IsChecked p e → IsChecked p d → e ≡ d
check_once p e d (holding a plain none) (holding b plain' none') = a ∙ sym b
check_once p e d (holding a plain none) (broken_ b plain' some) = absurd (none some)
check_once p e d (holding a plain none) (not_plain_ b no_plain) = absurd (no_plain plain)
check_once p e d (broken_ a plain some) (holding b plain' none) = absurd (none some)
check_once p e d (broken_ a plain some) (broken_ b plain' some') = a ∙ sym b
check_once p e d (broken_ a plain some) (not_plain_ b no_plain) = absurd (no_plain plain)
check_once p e d (not_plain_ a no_plain) (holding b plain none) = absurd (no_plain plain)
check_once p e d (not_plain_ a no_plain) (broken_ b plain some) = absurd (no_plain plain)
check_once p e d (not_plain_ a no_plain) (not_plain_ b no_plain') = a ∙ sym b

replay_once : (bytes more : List ℕ) (job : Job) (p : Posed) (e d : Status) → IsScope job.scope → IsPosed bytes job p → StateCause more p e → StateCause more p d → e ≡ d
replay_once bytes more job p e d scope posed x y = by_found x.found x.ends_is (subst (λ (f : Found Start ℕ). EndsState p f d) (sym same) y.ends_is)
  where
    same : x.found ≡ y.found
    same = one_found state_limit (IsState p more) (IsNoState p more) more (state_told p more (posed_well bytes job p posed) (posed_range bytes job p scope posed)) x.found y.found x.finds y.finds

    by_found : (f : Found Start ℕ) → EndsState p f e → EndsState p f d → e ≡ d
    by_found Long a b = a ∙ sym b
    by_found (Bad at) a b = a ∙ sym b
    by_found (Good s) a b = a ∙ sym b

log_end_once : (c : Clauses) (steps : List Step) (e d : Status) → IsLogEnd c steps e → IsLogEnd c steps d → e ≡ d
log_end_once c steps e d (following a valid) (following b valid') = a ∙ sym b
log_end_once c steps e d (following a valid) (breaking b n bad) = absurd (none_bad c.clauses steps n valid bad)
log_end_once c steps e d (breaking a n bad) (following b valid) = absurd (none_bad c.clauses steps n valid bad)
log_end_once c steps e d (breaking a n bad) (breaking b n' bad') = a ∙ sym b

log_once : (bytes more : List ℕ) (c : Clauses) (e d : Status) → IsFormula bytes c → LogCause more c e → LogCause more c d → e ≡ d
log_once bytes more c e d formula x y = by_found x.found x.ends_is (subst (λ (f : Found (List Step) ℕ). EndsLog c f d) (sym same) y.ends_is)
  where
    same : x.found ≡ y.found
    same = one_found text_limit (IsLog c.vars more) (IsNoLog c.vars more) more (log_told c.vars more (few_vars bytes c formula)) x.found y.found x.finds y.finds

    by_found : (f : Found (List Step) ℕ) → EndsLog c f e → EndsLog c f d → e ≡ d
    by_found Long a b = a ∙ sym b
    by_found (Bad at) a b = a ∙ sym b
    by_found (Good steps) a b = log_end_once c steps e d a b

search_gone : (budget : ℕ) (c : Clauses) (e : Status) → IsSearchEnd budget c e → gone_on e ≡ status.Done
search_gone budget c e (found_out a) = ap gone_on a
search_gone budget c e (gave_up a some) = ap gone_on a

search_done : (budget : ℕ) (c : Clauses) (e : Status) → (0 < budget → ⊥) → IsSearchEnd budget c e → e ≡ status.Done
search_done budget c e none (found_out a) = a
search_done budget c e none (gave_up a some) = absurd (none some)

-- REFUSALS

refusal_kept : (e : Status) → IsRefusal e → gone_on e ≡ e
refusal_kept status.Holds h = refl
refusal_kept status.Violated h = refl
refusal_kept status.Done h = refl
refusal_kept status.Broken h = refl
refusal_kept status.Usage h = refl
refusal_kept status.NotBuilt h = refl
refusal_kept (status.Source r) h = refl
refusal_kept status.NoMethod h = refl
refusal_kept (status.BadState at) h = refl
refusal_kept (status.BadText slot at) h = refl
refusal_kept (status.TooLong slot) h = refl
refusal_kept status.Unknown h = absurd (omega (arith, h.high))
refusal_kept status.ReadFault h = refl
refusal_kept status.WriteFault h = refl
refusal_kept status.NoMemory h = refl

refusal_same : (e d : Status) → IsRefusal e → gone_on e ≡ gone_on d → e ≡ d
refusal_same e status.Holds h same = sym (refusal_kept e h) ∙ same
refusal_same e status.Violated h same = sym (refusal_kept e h) ∙ same
refusal_same e status.Done h same = sym (refusal_kept e h) ∙ same
refusal_same e status.Broken h same = sym (refusal_kept e h) ∙ same
refusal_same e status.Usage h same = sym (refusal_kept e h) ∙ same
refusal_same e status.NotBuilt h same = sym (refusal_kept e h) ∙ same
refusal_same e (status.Source r) h same = sym (refusal_kept e h) ∙ same
refusal_same e status.NoMethod h same = sym (refusal_kept e h) ∙ same
refusal_same e (status.BadState at) h same = sym (refusal_kept e h) ∙ same
refusal_same e (status.BadText slot at) h same = sym (refusal_kept e h) ∙ same
refusal_same e (status.TooLong slot) h same = sym (refusal_kept e h) ∙ same
refusal_same e status.Unknown h same = let done : IsRefusal status.Done = subst IsRefusal (sym (refusal_kept e h) ∙ same) h in absurd (omega (arith, done.low))
refusal_same e status.ReadFault h same = sym (refusal_kept e h) ∙ same
refusal_same e status.WriteFault h same = sym (refusal_kept e h) ∙ same
refusal_same e status.NoMemory h same = sym (refusal_kept e h) ∙ same

check_said : (job : Job) (told : List ℕ → Option (List ℕ)) (ends : Status) (output : List ℕ) → Tells (java_file job ∷ []) NoSecond (CheckSays job) told ends output → IsRefusal ends
    → output ≡ refusal_line ends
check_said job told status.Holds output t h = absurd (omega (arith, h.low))
check_said job told status.Violated output t h = absurd (omega (arith, h.low))
check_said job told status.Done output t h = absurd (omega (arith, h.low))
check_said job told status.Broken output t h = absurd (omega (arith, h.low))
check_said job told status.Usage output t h = absurd t
check_said job told status.NotBuilt output t h = t.0
check_said job told (status.Source r) output t h = t.0
check_said job told status.NoMethod output t h = t.0
check_said job told (status.BadState at) output t h = absurd t
check_said job told (status.BadText slot at) output t h = absurd t
check_said job told (status.TooLong slot) output t h = t.0
check_said job told status.Unknown output t h = absurd (omega (arith, h.high))
check_said job told status.ReadFault output t h = absurd (omega (arith, h.high))
check_said job told status.WriteFault output t h = absurd (omega (arith, h.high))
check_said job told status.NoMemory output t h = absurd (omega (arith, h.high))

replay_said : (job : Job) (state : List ℕ) (told : List ℕ → Option (List ℕ)) (ends : Status) (output : List ℕ)
    → Tells (java_file job ∷ state_file state ∷ []) (HoldsProblemOf job) (ReplaySays job state) told ends output → IsRefusal ends → output ≡ refusal_line ends
replay_said job state told status.Holds output t h = absurd (omega (arith, h.low))
replay_said job state told status.Violated output t h = absurd (omega (arith, h.low))
replay_said job state told status.Done output t h = absurd (omega (arith, h.low))
replay_said job state told status.Broken output t h = absurd (omega (arith, h.low))
replay_said job state told status.Usage output t h = absurd t
replay_said job state told status.NotBuilt output t h = absurd t
replay_said job state told (status.Source r) output t h = t.0
replay_said job state told status.NoMethod output t h = t.0
replay_said job state told (status.BadState at) output t h = t.0
replay_said job state told (status.BadText slot at) output t h = absurd t
replay_said job state told (status.TooLong slot) output t h = t.0
replay_said job state told status.Unknown output t h = absurd (omega (arith, h.high))
replay_said job state told status.ReadFault output t h = absurd (omega (arith, h.high))
replay_said job state told status.WriteFault output t h = absurd (omega (arith, h.high))
replay_said job state told status.NoMemory output t h = absurd (omega (arith, h.high))

sat_said : (cnf : List ℕ) (budget : ℕ) (evidence : Option Evidence) (told : List ℕ → Option (List ℕ)) (ends : Status) (output : List ℕ)
    → Tells (formula_file cnf ∷ []) NoSecond (SatSays cnf budget evidence) told ends output → IsRefusal ends → output ≡ refusal_line ends
sat_said cnf budget evidence told status.Holds output t h = absurd (omega (arith, h.low))
sat_said cnf budget evidence told status.Violated output t h = absurd (omega (arith, h.low))
sat_said cnf budget evidence told status.Done output t h = absurd (omega (arith, h.low))
sat_said cnf budget evidence told status.Broken output t h = absurd (omega (arith, h.low))
sat_said cnf budget evidence told status.Usage output t h = absurd t
sat_said cnf budget evidence told status.NotBuilt output t h = absurd t
sat_said cnf budget evidence told (status.Source r) output t h = absurd t
sat_said cnf budget evidence told status.NoMethod output t h = absurd t
sat_said cnf budget evidence told (status.BadState at) output t h = absurd t
sat_said cnf budget evidence told (status.BadText slot at) output t h = t.0
sat_said cnf budget evidence told (status.TooLong slot) output t h = t.0
sat_said cnf budget evidence told status.Unknown output t h = absurd (omega (arith, h.high))
sat_said cnf budget evidence told status.ReadFault output t h = absurd (omega (arith, h.high))
sat_said cnf budget evidence told status.WriteFault output t h = absurd (omega (arith, h.high))
sat_said cnf budget evidence told status.NoMemory output t h = absurd (omega (arith, h.high))

proof_said : (cnf log : List ℕ) (told : List ℕ → Option (List ℕ)) (ends : Status) (output : List ℕ)
    → Tells (formula_file cnf ∷ formula_file log ∷ []) (HoldsFormulaOf cnf) (ProofSays cnf log) told ends output → IsRefusal ends → output ≡ refusal_line ends
proof_said cnf log told status.Holds output t h = absurd (omega (arith, h.low))
proof_said cnf log told status.Violated output t h = absurd (omega (arith, h.low))
proof_said cnf log told status.Done output t h = absurd (omega (arith, h.low))
proof_said cnf log told status.Broken output t h = absurd (omega (arith, h.low))
proof_said cnf log told status.Usage output t h = absurd t
proof_said cnf log told status.NotBuilt output t h = absurd t
proof_said cnf log told (status.Source r) output t h = absurd t
proof_said cnf log told status.NoMethod output t h = absurd t
proof_said cnf log told (status.BadState at) output t h = absurd t
proof_said cnf log told (status.BadText slot at) output t h = t.0
proof_said cnf log told (status.TooLong slot) output t h = t.0
proof_said cnf log told status.Unknown output t h = absurd (omega (arith, h.high))
proof_said cnf log told status.ReadFault output t h = absurd (omega (arith, h.high))
proof_said cnf log told status.WriteFault output t h = absurd (omega (arith, h.high))
proof_said cnf log told status.NoMemory output t h = absurd (omega (arith, h.high))

usage_said : (told : List ℕ → Option (List ℕ)) (ends : Status) (output : List ℕ) → Tells [] NoSecond UsageSays told ends output → IsRefusal ends → output ≡ refusal_line ends
usage_said told status.Holds output t h = absurd (omega (arith, h.low))
usage_said told status.Violated output t h = absurd (omega (arith, h.low))
usage_said told status.Done output t h = absurd (omega (arith, h.low))
usage_said told status.Broken output t h = absurd (omega (arith, h.low))
usage_said told status.Usage output t h = t
usage_said told status.NotBuilt output t h = absurd t
usage_said told (status.Source r) output t h = absurd t
usage_said told status.NoMethod output t h = absurd t
usage_said told (status.BadState at) output t h = absurd t
usage_said told (status.BadText slot at) output t h = absurd t
usage_said told (status.TooLong slot) output t h = t.0
usage_said told status.Unknown output t h = absurd (omega (arith, h.high))
usage_said told status.ReadFault output t h = absurd (omega (arith, h.high))
usage_said told status.WriteFault output t h = absurd (omega (arith, h.high))
usage_said told status.NoMemory output t h = absurd (omega (arith, h.high))

no_file : (slot : ℕ) (f : TextFile) → slice_get [] slot ≡ Some f → ⊥
no_file slot f there = cc

usage_cause : (told : List ℕ → Option (List ℕ)) (ends : Status) (output : List ℕ) → ends ≢ status.NoMemory → ends ≢ status.ReadFault → Tells [] NoSecond UsageSays told ends output
    → ends ≡ status.Usage
usage_cause told status.Holds output no_want no_fault t = absurd t
usage_cause told status.Violated output no_want no_fault t = absurd t
usage_cause told status.Done output no_want no_fault t = absurd t
usage_cause told status.Broken output no_want no_fault t = absurd t
usage_cause told status.Usage output no_want no_fault t = refl
usage_cause told status.NotBuilt output no_want no_fault t = absurd t
usage_cause told (status.Source r) output no_want no_fault t = absurd t
usage_cause told status.NoMethod output no_want no_fault t = absurd t
usage_cause told (status.BadState at) output no_want no_fault t = absurd t
usage_cause told (status.BadText slot at) output no_want no_fault t = absurd t
usage_cause told (status.TooLong slot) output no_want no_fault t = absurd (no_file slot t.1.file t.1.reached.listed)
usage_cause told status.Unknown output no_want no_fault t = absurd t
usage_cause told status.ReadFault output no_want no_fault t = absurd (no_fault refl)
usage_cause told status.WriteFault output no_want no_fault t = absurd t
usage_cause told status.NoMemory output no_want no_fault t = absurd (no_want refl)

-- THE LAW

settled : (asked : Option Request) (e d : Status) (o p : List ℕ) → gone_on e ≡ gone_on d → ((MayGiveUp asked → ⊥) → e ≡ d) → (IsRefusal e → o ≡ refusal_line e) → (IsRefusal d → p ≡ refusal_line d)
    → AreOne asked e d o p
settled asked e d o p gone same said said' =
    record {
      status_is = same;
      search_is = gone;
      refusal_is = λ h. let one : e ≡ d = refusal_same e d h gone in said h ∙ ap refusal_line one ∙ sym (said' (subst IsRefusal one h));
    }

equal : (asked : Option Request) (e d : Status) (o p : List ℕ) → e ≡ d → (IsRefusal e → o ≡ refusal_line e) → (IsRefusal d → p ≡ refusal_line d) → AreOne asked e d o p
equal asked e d o p same said said' = settled asked e d o p (ap gone_on same) (λ h. same) said said'

record HasBytes (o : Option (List ℕ)) : Type 0 where
  bytes : List ℕ
  is : o ≡ Some bytes

has_bytes : (o : Option (List ℕ)) → IsSome o → HasBytes o
has_bytes None h = absurd (cc)
has_bytes (Some bytes) h = record { bytes = bytes; is = refl }

first_told : (told : List ℕ → Option (List ℕ)) (f : TextFile) (fs : List TextFile) → All (λ g. IsSome (told g.name)) (f ∷ fs) → HasBytes (told f.name)
first_told told f fs all = has_bytes (told f.name) (All-head (λ (g : TextFile). IsSome (told g.name)) f fs all)

second_told : (told : List ℕ → Option (List ℕ)) (f g : TextFile) (fs : List TextFile) → All (λ h. IsSome (told h.name)) (f ∷ g ∷ fs) → HasBytes (told g.name)
second_told told f g fs all = first_told told g fs (All-tail (λ (h : TextFile). IsSome (told h.name)) f (g ∷ fs) all)

pub one_status : (asked : Option Request) (told : List ℕ → Option (List ℕ)) (e d : Status) (o p : List ℕ) → IsTold asked told → IsAnswer asked told e o → IsAnswer asked told d p
    → AreOne asked e d o p
one_status None told e d o p is x y =
    equal _ e d o p (usage_cause told e o x.no_want x.no_fault x.tells ∙ sym (usage_cause told d p y.no_want y.no_fault y.tells)) (usage_said told e o x.tells) (usage_said told d p y.tells)
one_status (Some (request.Bounds job schedule)) told e d o p is x y =
    equal _ e d o p (usage_cause told e o x.no_want x.no_fault x.tells ∙ sym (usage_cause told d p y.no_want y.no_fault y.tells)) (usage_said told e o x.tells) (usage_said told d p y.tells)
one_status (Some (request.Stress number)) told e d o p is x y =
    equal _ e d o p (usage_cause told e o x.no_want x.no_fault x.tells ∙ sym (usage_cause told d p y.no_want y.no_fault y.tells)) (usage_said told e o x.tells) (usage_said told d p y.tells)
one_status (Some (request.Check job budget)) told e d o p is x y =
    let first : HasBytes (told job.file) = first_told told (java_file job) [] is.files in
    let one : e ≡ d =
    one_posed IsChecked job first.bytes e d (λ q posed. check_once q e d) (check_cause job told first.bytes e o first.is x.no_want x.no_fault x.tells)
    (check_cause job told first.bytes d p first.is y.no_want y.no_fault y.tells) in
    equal _ e d o p one (check_said job told e o x.tells) (check_said job told d p y.tells)
one_status (Some (request.Replay job state)) told e d o p is x y =
    let first : HasBytes (told job.file) = first_told told (java_file job) (state_file state ∷ []) is.files in
    let second : HasBytes (told state) = second_told told (java_file job) (state_file state) [] is.files in
    let one : e ≡ d =
    one_posed (StateCause second.bytes) job first.bytes e d (λ q posed. replay_once first.bytes second.bytes job q e d is.within.scope posed)
    (replay_cause job state told first.bytes second.bytes e o first.is second.is x.no_want x.no_fault x.tells)
    (replay_cause job state told first.bytes second.bytes d p first.is second.is y.no_want y.no_fault y.tells) in
    equal _ e d o p one (replay_said job state told e o x.tells) (replay_said job state told d p y.tells)
one_status (Some (request.Sat cnf budget)) told e d o p is x y =
    let first : HasBytes (told cnf) = first_told told (formula_file cnf) [] is.files in
    let a : FormulaCause (IsSearchEnd budget) first.bytes e = sat_cause cnf budget x.proof told first.bytes e o first.is x.no_want x.no_fault x.tells in
    let b : FormulaCause (IsSearchEnd budget) first.bytes d = sat_cause cnf budget y.proof told first.bytes d p first.is y.no_want y.no_fault y.tells in
    let gone : gone_on e ≡ gone_on d =
    one_formula (IsSearchEnd budget) first.bytes e d (gone_on e ≡ gone_on d) (ap gone_on) (λ c formula h k. search_gone budget c e h ∙ sym (search_gone budget c d k)) a b in
    let exact : (0 < budget → ⊥) → e ≡ d =
    λ none. one_formula (IsSearchEnd budget) first.bytes e d (e ≡ d) (λ same. same) (λ c formula h k. search_done budget c e none h ∙ sym (search_done budget c d none k)) a b in
    settled _ e d o p gone exact (sat_said cnf budget x.proof told e o x.tells) (sat_said cnf budget y.proof told d p y.tells)
one_status (Some (request.Proof cnf log)) told e d o p is x y =
    let first : HasBytes (told cnf) = first_told told (formula_file cnf) (formula_file log ∷ []) is.files in
    let second : HasBytes (told log) = second_told told (formula_file cnf) (formula_file log) [] is.files in
    let one : e ≡ d =
    one_formula (LogCause second.bytes) first.bytes e d (e ≡ d) (λ same. same) (λ c formula. log_once first.bytes second.bytes c e d formula)
    (proof_cause cnf log told first.bytes second.bytes e o first.is second.is x.no_want x.no_fault x.tells)
    (proof_cause cnf log told first.bytes second.bytes d p first.is second.is y.no_want y.no_fault y.tells) in
    equal _ e d o p one (proof_said cnf log told e o x.tells) (proof_said cnf log told d p y.tells)
