-- What an outcome is shown by: a value with two formulas, where there is one and where the evaluation stays within
-- the scopes. (This project's own.)
use Rattle.std.specs.Prelude.{◌≡◌, Bool, true, false, not, Some, option_map, IsTrue}
use Rattle.heap_core.specs.declared.value.Value.{Value}
use Rattle.heap_core.specs.declared.value.Value.TheVariants.{Num, Flag}
use Rattle.heap_core.specs.declared.value.Seen.{Seen}
use Rattle.heap_core.specs.declared.value.Seen.TheVariants.{Is, Bad, Out}
use Rattle.heap_core.specs.Outcomes.{is_out, is_true, is_value, as_flag}
use Rattle.heap_core.specs.Posed.{Posed}
use Rattle.rel_core.specs.Reading.{Reading, is_reference}
use Rattle.rel_core.specs.Meaning.{ValueSet, set_of, number_of, holds}
use Rattle.rel_core.specs.Uses.{Kinds, is_sorted, is_sorted_number, is_sorted_set}
use Rattle.clause_terms.specs.declared.term.Shape.{Shape}
use Rattle.clause_terms.specs.declared.term.Shape.TheVariants as shape
use Rattle.clause_terms.specs.declared.term.Term.{Term}
use Rattle.clause_terms.specs.declared.term.Truth.{Truth}

-- the evaluation gives a value, a truth value
abbrev pub gives_value : Seen → Bool
gives_value (Is v) = true
gives_value _ = false

abbrev pub gives_flag : Seen → Bool
gives_flag (Is (Flag b)) = true
gives_flag _ = false

-- what is said of the value that an evaluation gives
abbrev pub OnValue : Seen → (Value → Type 0) → Type 0
OnValue (Is v) P = P v
OnValue Bad P = Unit {0}
OnValue Out P = Unit {0}

-- the set is the value and nothing else, which is null or an object below K
pub record IsOnly (m : Reading) (s : ValueSet) (v : Value) : Type 0 where
  pub reference : IsTrue (is_reference m.objects v)
  pub exact : (u : Value) → s u ≡ is_value v u

-- the value is what the shape has under the reading
abbrev pub HasValue : Reading → Shape → Value → Type 0
HasValue m (shape.Set e) v = IsOnly m (set_of e m) v
HasValue m (shape.Number n) v = option_map Num (number_of n m) ≡ Some v
HasValue m (shape.Truth f) v = v ≡ Flag (holds f m)

-- the term tells the outcome: where it is a value, and which, and where it is not Out
pub record Tells (s : Seen) (t : Term) (m : Reading) : Type 0 where
  pub fine : holds t.fine m ≡ gives_value s
  pub inside : holds t.inside m ≡ not (is_out s)
  pub value : OnValue s (HasValue m t.value)

-- the truth tells the outcome as a truth value: what is no truth value is Out
pub record Judges (s : Seen) (t : Truth) (m : Reading) : Type 0 where
  pub fine : holds t.fine m ≡ gives_flag s
  pub inside : holds t.inside m ≡ not (is_out (as_flag s))
  pub value : IsTrue (gives_flag s) → holds t.value m ≡ is_true s

-- ## each relation is used by its kind

abbrev pub is_sorted_shape : Posed → Kinds → Shape → Bool
is_sorted_shape p kinds (shape.Set e) = is_sorted_set p kinds e
is_sorted_shape p kinds (shape.Number n) = is_sorted_number p kinds n
is_sorted_shape p kinds (shape.Truth f) = is_sorted p kinds f

pub record IsSortedTerm (p : Posed) (kinds : Kinds) (t : Term) : Type 0 where
  pub value : IsTrue (is_sorted_shape p kinds t.value)
  pub fine : IsTrue (is_sorted p kinds t.fine)
  pub inside : IsTrue (is_sorted p kinds t.inside)

pub record IsSortedTruth (p : Posed) (kinds : Kinds) (t : Truth) : Type 0 where
  pub value : IsTrue (is_sorted p kinds t.value)
  pub fine : IsTrue (is_sorted p kinds t.fine)
  pub inside : IsTrue (is_sorted p kinds t.inside)
