-- What one action does, in heap_core's words. (DynAlloy's atomic actions; which there are, and that one that
-- would be Bad or Out has no following state, is this project's own.)
use Rattle.std.specs.Prelude.{ℕ, List, length, Option, Some, None, option_map}
use Rattle.taco_unit.specs.declared.unit.ClassDef.{ClassDef}
use Rattle.taco_unit.specs.declared.expr.Op.TheVariants as op
use Rattle.heap_core.specs.declared.value.Value.{Value}
use Rattle.heap_core.specs.declared.value.Value.TheVariants.{Obj, Num}
use Rattle.heap_core.specs.declared.value.Seen.{Seen}
use Rattle.heap_core.specs.declared.value.Seen.TheVariants.{Is, Out}
use Rattle.heap_core.specs.Posed.{Posed}
use Rattle.heap_core.specs.Outcomes.{number, operated}
use Rattle.heap_core.specs.Heap.{Heap, field, put, grown}
use Rattle.dyn_core.specs.declared.prog.Act.{Act}
use Rattle.dyn_core.specs.declared.prog.Act.TheVariants.{Copy, Const, Sum, Diff, Product, Same, Below, Read, Write, Make}
use Rattle.dyn_core.specs.declared.state.DynState.{DynState}
use Rattle.dyn_core.specs.States.{var_at, with_var}

-- the state with a variable set to what an evaluation gives; None where it is Bad or Out
abbrev pub with_given : ℕ → DynState → Seen → Option DynState
with_given x s (Is v) = Some (record s { vars = with_var s.vars x v })
with_given x s _ = None

-- a constant: a number where it lies in w bits, and no object, since no program names one
abbrev pub constant : ℕ → Value → Seen
constant w (Num z) = number w z
constant w (Obj o) = Out
constant w v = Is v

-- the heap, with a field set of the object that the first value is; None where it is no object
abbrev pub put_through : List ClassDef → Heap → ℕ → Value → Value → Option Heap
put_through classes heap f (Obj o) v = put classes heap f o v
put_through classes heap f _ v = None

-- the state after one action; None where its evaluation is Bad or Out, or the heap has no room
abbrev pub acted : Posed → Act → DynState → Option DynState
acted p (Copy x y) s = with_given x s (Is (var_at s.vars y))
acted p (Const x v) s = with_given x s (constant p.scope.ints v)
acted p (Sum x y z) s = with_given x s (operated op.Add p.scope.ints (var_at s.vars y) (var_at s.vars z))
acted p (Diff x y z) s = with_given x s (operated op.Sub p.scope.ints (var_at s.vars y) (var_at s.vars z))
acted p (Product x y z) s = with_given x s (operated op.Mul p.scope.ints (var_at s.vars y) (var_at s.vars z))
acted p (Same x y z) s = with_given x s (operated op.Eq p.scope.ints (var_at s.vars y) (var_at s.vars z))
acted p (Below x y z) s = with_given x s (operated op.Lt p.scope.ints (var_at s.vars y) (var_at s.vars z))
acted p (Read x y f) s = with_given x s (field p.unit.classes s.objects f (var_at s.vars y))
acted p (Write x f y) s = option_map (λ h. record s { objects = h }) (put_through p.unit.classes s.objects f (var_at s.vars x) (var_at s.vars y))
acted p (Make x c) s = option_map (λ h. record { vars = with_var s.vars x (Obj (length s.objects)); objects = h }) (grown p s.objects c)
