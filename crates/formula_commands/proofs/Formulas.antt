-- Texts of formulas that are refused.
use Rattle.std.proofs.Common.{◌≡◌, ℕ, ◌≤◌, List, length, sym, subst}
use Rattle.std.specs.Prelude.{Result, Ok, Err, IsErrAnd}
use Rattle.cnf_core.specs.Clauses.{Clauses}
use Rattle.derivation.specs.CnfText.{BlamesCnf, IsCnfText}
use Rattle.derivation.specs.Reading.{IsReadAs}
use Rattle.derivation.specs.declared.fault.TextFault.{TextFault}
use Rattle.derivation.specs.declared.fault.TextFault.TheVariants as fault
use Rattle.formula_commands.specs.declared.text.TextEnd.{TextEnd}
use Rattle.formula_commands.specs.Texts.{text_limit, IsFormula, IsNoFormula, TakesFor}
use Rattle.formula_commands.specs.TextEnds.{end_of}

no_formula : (bytes : List ℕ) (f : TextFault) → length bytes ≤ text_limit → BlamesCnf bytes f → ((v : Clauses) → IsCnfText bytes v → IsReadAs (Err f) v)
    → TakesFor IsFormula IsNoFormula bytes (Err (end_of f))
no_formula bytes (fault.BadText at) short first none = record { short = short; first = first; none = none }
no_formula bytes fault.NoMemory short first none = tt

-- a text of which the reader says that it is that of no formula
pub not_formula : (bytes : List ℕ) (f : TextFault) (r : Result Clauses TextEnd) → IsErrAnd r (λ e. e ≡ end_of f) → length bytes ≤ text_limit → BlamesCnf bytes f
    → ((v : Clauses) → IsCnfText bytes v → IsReadAs (Err f) v) → TakesFor IsFormula IsNoFormula bytes r
not_formula bytes f (Ok v) is short first none = absurd is
not_formula bytes f (Err e) is short first none = subst (λ x. TakesFor IsFormula IsNoFormula bytes (Err x)) (sym is) (no_formula bytes f short first none)
