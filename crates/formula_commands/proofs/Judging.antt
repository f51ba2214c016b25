-- The verdict on a log as the answer of the command.
use Rattle.std.proofs.Common.{◌≡◌, ℕ, List, [], ◌∷◌, Option, refl, subst, arith, inl, inr}
use Rattle.std.specs.Prelude.{IfSome, IfOk, Result, Ok, Err}
use Rattle.cnf_core.specs.Clauses.{Clauses}
use Rattle.derivation.specs.Step.{Step}
use Rattle.no_memory.specs.declared.NoMemory.{NoMemory}
use Rattle.taco_io.specs.Shelf.{Shelf, Stays}
use Rattle.taco_report.specs.declared.status.Status.{Status}
use Rattle.taco_report.specs.declared.status.Status.TheVariants as status
use Rattle.command_files.specs.declared.outcome.Outcome.{Outcome}
use Rattle.command_files.specs.Outcomes.{IsOrNoMemory}
use Rattle.command_files.specs.Answers.{IsAnswered}
use Rattle.command_files.specs.Slots.{IsReadWhole}
use Rattle.command_files.proofs.Walking.{IsThrough, none_read, one_more_read, or_wanting, said}
use Rattle.formula_commands.specs.declared.text.TextEnd.{TextEnd}
use Rattle.formula_commands.specs.ProofCommand.{HoldsSome, ProofSays, TellsLog}
use Rattle.formula_commands.specs.Texts.{EndsText, Fetches, HoldsFormula, IsFormula, IsLog, IsNoFormula, IsNoLog, formula_file}
use Rattle.formula_commands.proofs.Fetching.{text_answered}

module _ (cnf log : List ℕ) (old new : Shelf) (formula : Clauses) (steps : List Step) (through : IsThrough (formula_file cnf ∷ formula_file log ∷ []) 2 old new)
    (cnf_is : IfSome (old.content cnf) (λ bytes. IsFormula bytes formula)) (log_is : IfSome (old.content log) (λ bytes. IsLog formula.vars bytes steps)) where
  by_status : (ends : Status) (output : List ℕ) → TellsLog formula steps ends output → IsAnswered (formula_file cnf ∷ formula_file log ∷ []) (HoldsSome cnf) (ProofSays cnf log) old new ends output
  by_status status.Done output tells =
      said (formula_file cnf ∷ formula_file log ∷ []) (HoldsSome cnf) (ProofSays cnf log) 2 old new status.Done output through (omega arith) (omega arith) (λ limit. omega arith) (λ fault. cc)
      (record { formula = formula; steps = steps; cnf_is = cnf_is; log_is = log_is; verdict = tells })
  by_status status.Broken output tells =
      said (formula_file cnf ∷ formula_file log ∷ []) (HoldsSome cnf) (ProofSays cnf log) 2 old new status.Broken output through (omega arith) (omega arith) (λ limit. omega arith) (λ fault. cc)
      (record { formula = formula; steps = steps; cnf_is = cnf_is; log_is = log_is; verdict = tells })
  by_status _ output tells = absurd tells

  -- the verdict, or want of memory
  pub judged_answered : (r : Result Outcome NoMemory) (o : Outcome) → IfOk r (λ d. TellsLog formula steps d.status d.output.items) → IsOrNoMemory r o
      → IsAnswered (formula_file cnf ∷ formula_file log ∷ []) (HoldsSome cnf) (ProofSays cnf log) old new o.status o.output.items
  judged_answered r o tells is = or_wanting (formula_file cnf ∷ formula_file log ∷ []) (HoldsSome cnf) (ProofSays cnf log) 2 old new r o through (omega arith) (answers r tells) is
    where
      answers : (x : Result Outcome NoMemory) → IfOk x (λ d. TellsLog formula steps d.status d.output.items)
          → IfOk x (λ d. IsAnswered (formula_file cnf ∷ formula_file log ∷ []) (HoldsSome cnf) (ProofSays cnf log) old new d.status d.output.items)
      answers (Ok d) is = by_status d.status d.output.items is
      answers (Err refused) is = tt

module _ (cnf log : List ℕ) where
  -- the first file gave no formula
  pub formula_ended : (old new : Shelf) (e : TextEnd) (o : Outcome) → Fetches {V = Clauses} 0 (formula_file cnf) IsFormula IsNoFormula old new (Err e) → Stays 0 old new → EndsText 0 e o
      → IsAnswered (formula_file cnf ∷ formula_file log ∷ []) (HoldsSome cnf) (ProofSays cnf log) old new o.status o.output.items
  formula_ended old new e o fetches stays ends =
      text_answered {V = Clauses} (formula_file cnf ∷ formula_file log ∷ []) (HoldsSome cnf) (ProofSays cnf log) 0 (formula_file cnf) IsFormula IsNoFormula old old new e o refl (inl refl) (omega arith)
      (none_read (formula_file cnf ∷ formula_file log ∷ []) old) stays fetches ends (λ at no. (refl, inl (refl, no)))

  -- the first file holds a formula, and the second gave no log over its variables
  pub log_ended : (old mid new : Shelf) (formula : Clauses) (vars : ℕ) → vars ≡ formula.vars → (e : TextEnd) (o : Outcome)
      → Fetches {V = Clauses} 0 (formula_file cnf) IsFormula IsNoFormula old mid (Ok formula) → Stays 0 old mid
      → Fetches {V = List Step} 1 (formula_file log) (IsLog vars) (IsNoLog vars) mid new (Err e) → Stays 1 mid new → EndsText 1 e o
      → IsAnswered (formula_file cnf ∷ formula_file log ∷ []) (HoldsSome cnf) (ProofSays cnf log) old new o.status o.output.items
  log_ended old mid new formula vars same e o read first fetches second ends =
      let holds : HoldsFormula old.content cnf formula = record { is = read.0 } in
      text_answered {V = List Step} (formula_file cnf ∷ formula_file log ∷ []) (HoldsSome cnf) (ProofSays cnf log) 1 (formula_file log) (IsLog vars) (IsNoLog vars) old mid new e o refl
      (inr (record { formula = formula; holds = holds })) (omega arith) (through_first old mid read.1 first) second fetches ends
      (λ at no. (refl, inr (formula, refl, holds, subst (λ (v : ℕ). IfSome (old.content log) (λ bytes. IsNoLog v bytes at)) same no)))
    where
      through_first : (old mid : Shelf) → IsReadWhole 0 (formula_file cnf) old mid → Stays 0 old mid → IsThrough (formula_file cnf ∷ formula_file log ∷ []) 1 old mid
      through_first old mid whole stays =
          one_more_read (formula_file cnf ∷ formula_file log ∷ []) 0 (formula_file cnf) refl old old mid (none_read (formula_file cnf ∷ formula_file log ∷ []) old) stays whole
