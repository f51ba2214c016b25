-- Statements whose kinds fit. (Java Language Specification, "Blocks, Statements, and Patterns": the
-- types of "Assignment Operators", "The if Statement", "The while Statement", "The return Statement".)
use Rattle.std.specs.Prelude.{ℕ, Bool, true, false, ◌&&◌, slice_get, Option, Some, None, is_none}
use Rattle.std.specs.List.{list_all}
use Rattle.taco_unit.specs.declared.kind.Kind.TheVariants.{Int}
use Rattle.taco_unit.specs.declared.expr.Expr.{Expr}
use Rattle.taco_unit.specs.declared.expr.Expr.TheVariants as e
use Rattle.taco_unit.specs.declared.stmt.Stmt.{Stmt, fold-Stmt}
use Rattle.taco_unit.specs.declared.stmt.Stmt.TheOpen.{Stmt-F}
use Rattle.taco_unit.specs.Kinds.{Around, Sort, Of, NoValue, suits, sort_of_kind, field_sort, sort_of, is_condition}

-- what is wanted where a value of this sort goes
abbrev pub takes : Sort → Sort → Bool
takes (Of k) s = suits k s
takes _ s = false

-- the sort of a field of this number of an object
abbrev pub place_sort : Around → Expr → ℕ → Sort
place_sort k a f = field_sort (slice_get k.unit.fields f) (sort_of a k)

-- a call that may stand as a statement: it may give no value
abbrev pub is_call : Sort → Bool
is_call (Of k) = true
is_call NoValue = true
is_call _ = false

-- a `return` gives a value exactly in a method with a result, and a value of its kind
abbrev pub returns : Around → Option Expr → Bool
returns k None = is_none k.result
returns k (Some a) = takes (sort_of_kind k.result) (sort_of a k)

-- all kinds of a statement fit, by what is known around it
abbrev pub Fitting : Type 0
Fitting = Around → Bool

-- by cases on the statement's form
abbrev pub fitting_step : Stmt-F Fitting → Fitting
fitting_step (Stmt-F.Block parts) k = list_all (λ p. p k) parts
fitting_step (Stmt-F.Set i a) k = takes (sort_of_kind (slice_get k.locals i)) (sort_of a k)
fitting_step (Stmt-F.Write a f b) k = takes (place_sort k a f) (sort_of b k)
fitting_step (Stmt-F.StepLocal i up) k = takes (sort_of_kind (slice_get k.locals i)) (Of Int)
fitting_step (Stmt-F.StepField a f up) k = takes (place_sort k a f) (Of Int)
fitting_step (Stmt-F.If a s t) k = is_condition k a && s k && t k
fitting_step (Stmt-F.While a s) k = is_condition k a && s k
fitting_step (Stmt-F.Return a) k = returns k a
fitting_step (Stmt-F.Run c) k = is_call (sort_of (e.Call c) k)

-- all kinds of a statement fit
abbrev pub is_fitting : Stmt → Fitting
is_fitting = fold-Stmt Fitting fitting_step
