-- The trial of one list of arguments.
use Rattle.std.specs.Prelude.{◌≡◌, ℕ, ◌+◌, Bool, false, List, [], ◌∷◌, ◌++◌, length, map, Option, Some, None, if◌then◌else◌}
use Rattle.std.specs.List.{list_all}
use Rattle.taco_unit.specs.declared.expr.Expr.{Expr}
use Rattle.taco_unit.specs.declared.unit.Clause.{Clause}
use Rattle.heap_core.specs.declared.value.Value.TheVariants.{Null, Flag}
use Rattle.heap_core.specs.declared.start.Start.{Start}
use Rattle.boolean_trial.specs.Truth.{truth_of}

-- the start with these arguments: no objects and no receiver
abbrev pub start_of : List Bool → Start
start_of args = record { objects = []; this = Null; args = map Flag args }

-- the number, counted from this one, of the first clause that is not true
abbrev pub first_untrue : ℕ → List Clause → List Bool → Bool → Option ℕ
first_untrue n [] args result = None
first_untrue n (c ∷ cs) args result = if truth_of c.expr args result then first_untrue (n + 1) cs args result else Some n

-- the number of the `ensures` clause that the method breaks with these arguments, where they meet the
-- `requires` clauses and there is one
abbrev pub failing : List Clause → Expr → List Clause → List Bool → Option ℕ
failing needs value gives args =
    if list_all (λ c. truth_of c.expr args false) needs then first_untrue 1 gives args (truth_of value args false) else None

-- no list of so many truth values behind these fails
pub record NoneFails (fails : List Bool → Option ℕ) (front : List Bool) (count : ℕ) : Type 0 where
  pub none : (more : List Bool) → length more ≡ count → fails (front ++ more) ≡ None
