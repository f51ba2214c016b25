-- The instances of a quantifier, gathered one after the other. (This project's own.)
use Rattle.std.specs.Prelude.{◌≡◌, ℕ, Bool, not, ◌&&◌, ◌||◌, IsTrue, IsFalse, List}
use Rattle.std.specs.List.{list_any, list_all}
use Rattle.heap_core.specs.declared.value.Seen.{Seen}
use Rattle.heap_core.specs.Outcomes.{is_out, is_true, as_flag}
use Rattle.heap_core.specs.Posed.{Posed}
use Rattle.rel_core.specs.declared.formula.Formula.{Formula}
use Rattle.rel_core.specs.Reading.{Reading, numbers_below}
use Rattle.rel_core.specs.Meaning.{holds}
use Rattle.rel_core.specs.Uses.{Kinds, is_sorted}
use Rattle.clause_terms.specs.declared.instances.Instances.{Instances}
use Rattle.clause_terms.specs.Terms.{gives_flag}

-- all of the formulas hold, some of them do
abbrev pub all_hold : List Formula → Reading → Bool
all_hold fs m = list_all (λ f. holds f m) fs

abbrev pub some_hold : List Formula → Reading → Bool
some_hold fs m = list_any (λ f. holds f m) fs

-- at each number below n that is in the domain the instance is a truth value, stays inside, is true
abbrev pub all_fine : (ℕ → Bool) → (ℕ → Seen) → ℕ → Bool
all_fine domain instance n = list_all (λ o. not (domain o) || gives_flag (instance o)) (numbers_below n)

abbrev pub all_inside : (ℕ → Bool) → (ℕ → Seen) → ℕ → Bool
all_inside domain instance n = list_all (λ o. not (domain o) || not (is_out (as_flag (instance o)))) (numbers_below n)

abbrev pub all_true : (ℕ → Bool) → (ℕ → Seen) → ℕ → Bool
all_true domain instance n = list_all (λ o. not (domain o) || is_true (instance o)) (numbers_below n)

-- at some number below n that is in the domain it is true
abbrev pub some_true : (ℕ → Bool) → (ℕ → Seen) → ℕ → Bool
some_true domain instance n = list_any (λ o. domain o && is_true (instance o)) (numbers_below n)

-- the lists tell the instances at the numbers below n
pub record Gathered (m : Reading) (all : Bool) (domain : ℕ → Bool) (instance : ℕ → Seen) (n : ℕ) (i : Instances) : Type 0 where
  pub fine : all_hold i.fine m ≡ all_fine domain instance n
  pub inside : all_hold i.inside m ≡ all_inside domain instance n
  pub every : IsTrue all → IsTrue (all_fine domain instance n) → all_hold i.values m ≡ all_true domain instance n
  pub some : IsFalse all → IsTrue (all_fine domain instance n) → some_hold i.values m ≡ some_true domain instance n

pub record AreSorted (p : Posed) (kinds : Kinds) (i : Instances) : Type 0 where
  pub fine : IsTrue (list_all (is_sorted p kinds) i.fine)
  pub inside : IsTrue (list_all (is_sorted p kinds) i.inside)
  pub values : IsTrue (list_all (is_sorted p kinds) i.values)
