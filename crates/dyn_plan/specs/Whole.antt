-- The program of a method. (This project's own.)
use Rattle.std.specs.Prelude.{ℕ, zero, suc, ◌+◌, ◌==◌, nat_lt, max, pos, Bool, true, false, ◌||◌, if◌then◌else◌, List, [], ◌∷◌, ◌++◌, map, length, Option, Some, None, option_map}
use Rattle.std.specs.List.{range_with_len}
use Rattle.taco_unit.specs.declared.kind.Kind.{Kind}
use Rattle.taco_unit.specs.declared.kind.Kind.TheVariants.{Int, Flag, Ref}
use Rattle.taco_unit.specs.declared.unit.MethodDef.{MethodDef}
use Rattle.taco_unit.specs.Parts.{Parts}
use Rattle.taco_unit.specs.Well.{param_kinds}
use Rattle.heap_core.specs.declared.value.Value.TheVariants as v
use Rattle.heap_core.specs.Outcomes.{zero_of}
use Rattle.heap_core.specs.Posed.{Posed}
use Rattle.heap_core.specs.Start.{method_of}
use Rattle.dyn_core.specs.declared.prog.Act.{Act}
use Rattle.dyn_core.specs.declared.prog.Act.TheVariants.{Copy, Const, Sum, Diff, Product, Same, Below, Read, Write, Make}
use Rattle.dyn_plan.specs.declared.plan.Plan.{Plan, fold-Plan}
use Rattle.dyn_plan.specs.declared.plan.Plan.TheOpen.{Plan-F}
use Rattle.dyn_plan.specs.declared.plan.Plan.TheVariants as l
use Rattle.dyn_plan.specs.Places.{Ground, Spots, width, slot}
use Rattle.dyn_plan.specs.Guards.{Lowered}
use Rattle.dyn_plan.specs.Frames.{result_of, inline_body, inlined}

-- ## which variables are named

abbrev pub greatest_in : List ℕ → ℕ
greatest_in [] = 0
greatest_in (x ∷ xs) = max x (greatest_in xs)

abbrev pub greatest_of_act : Act → ℕ
greatest_of_act (Copy x y) = max x y
greatest_of_act (Const x c) = x
greatest_of_act (Sum x y z) = max x (max y z)
greatest_of_act (Diff x y z) = max x (max y z)
greatest_of_act (Product x y z) = max x (max y z)
greatest_of_act (Same x y z) = max x (max y z)
greatest_of_act (Below x y z) = max x (max y z)
greatest_of_act (Read x y f) = max x y
greatest_of_act (Write x f y) = max x y
greatest_of_act (Make x c) = x

abbrev pub greatest_step : Plan-F ℕ → ℕ
greatest_step (Plan-F.Do a) = greatest_of_act a
greatest_step Plan-F.Fail = 0
greatest_step (Plan-F.If x taken other) = max x (max (greatest_in taken) (greatest_in other))
greatest_step (Plan-F.While x body) = max x (greatest_in body)

-- the greatest variable that steps name
abbrev pub greatest : List Plan → ℕ
greatest steps = greatest_in (map (fold-Plan ℕ greatest_step) steps)

-- ## kinds

-- the kinds of a row
abbrev pub row_kinds : Ground → List Kind
row_kinds g = Int ∷ Flag ∷ map (λ c. Ref c) (range_with_len 0 (length g.unit.classes))

-- the kinds of the rows that begin at b and of which the last has the variable x
abbrev pub rows_up_to : ℕ → Ground → ℕ → ℕ → List Kind
rows_up_to zero g b x = []
rows_up_to (suc n) g b x = if nat_lt x b then [] else row_kinds g ++ rows_up_to n g (b + width g) x

-- ## the method

-- the program of a method: its variables and their kinds, and the steps
pub record Whole : Type 0 where
  pub result : ℕ
  pub thrown : ℕ
  pub kinds : List Kind
  pub steps : List Plan

-- what the lowering of a method stands on
abbrev pub ground : Parts → Bool → MethodDef → Ground
ground u turnless d = record { unit = u; first = length d.params + 1; turnless = turnless }

abbrev pub receiver_in : Bool → ℕ → Option ℕ
receiver_in true x = None
receiver_in false x = Some x

-- the row behind the two that stand still
abbrev pub frame_row : Ground → ℕ
frame_row g = g.first + width g + width g

-- the frame around the method: its locals are the arguments
abbrev pub outer_frame : Ground → MethodDef → Spots
outer_frame g d = record {
  this = receiver_in d.fixed (length d.params);
  class = d.class;
  locals = range_with_len 0 (length d.params);
  kinds = param_kinds d;
  done = frame_row g + width g + width g + 1;
  thrown = frame_row g + width g + 1;
  result = frame_row g + slot g (result_of d);
  gives = result_of d;
  wanted = false;
  base = frame_row g + width g + width g + width g;
}

-- the second row stands still with 1 and true, and its classes with null
abbrev pub ones : ℕ → List Kind → List Plan
ones x [] = []
ones x (Int ∷ ks) = l.Do (Const x (v.Num (pos 1))) ∷ ones (x + 1) ks
ones x (Flag ∷ ks) = l.Do (Const x (v.Flag true)) ∷ ones (x + 1) ks
ones x (Ref c ∷ ks) = ones (x + 1) ks

-- variables from x on are set to 0, false or null
abbrev pub zeros : ℕ → List Kind → List Plan
zeros x [] = []
zeros x (k ∷ ks) = l.Do (Const x (zero_of k)) ∷ zeros (x + 1) ks

-- the same, but for two of them
abbrev pub zeros_but : ℕ → ℕ → ℕ → List Kind → List Plan
zeros_but y z x [] = []
zeros_but y z x (k ∷ ks) = (if x == y || x == z then [] else l.Do (Const x (zero_of k)) ∷ []) ++ zeros_but y z (x + 1) ks

-- what stands still, and the flags of the outer frame
abbrev pub opening : Ground → Spots → List Plan
opening g f =
    zeros g.first (row_kinds g)
    ++ (ones (g.first + width g) (row_kinds g) ++ (l.Do (Const f.done (v.Flag false)) ∷ l.Do (Const f.thrown (v.Flag false)) ∷ []))

-- the method is run in its frame, and its result is copied
abbrev pub run_inside : Ground → Spots → Lowered → List Plan
run_inside g f x = opening g f ++ (x.steps ++ (l.Do (Copy f.result x.place) ∷ []))

-- no temporary is left: all variables behind the receiver begin anew, but the result and whether it has thrown
abbrev pub closed : Ground → Spots → List Kind → List Plan → List Plan
closed g f rows steps = steps ++ zeros_but f.result f.thrown g.first rows

abbrev pub whole_of : Ground → MethodDef → Spots → List Plan → List Kind → Whole
whole_of g d f steps rows =
    record { result = f.result; thrown = f.thrown; kinds = param_kinds d ++ (Ref d.class ∷ rows); steps = closed g f rows steps }

abbrev pub with_rows : Ground → MethodDef → Spots → List Plan → Whole
with_rows g d f steps = whole_of g d f steps (rows_up_to (greatest steps + 1) g g.first (greatest steps))

abbrev pub whole_in : Ground → ℕ → MethodDef → Spots → Whole
whole_in g calls d f = with_rows g d f (run_inside g f (inline_body g (inlined g calls) (Some d) f.this f.locals false f f.base))

-- the method, in which calls are inlined so deep; loops may have turns or, where that is said, none
abbrev pub whole : Parts → Bool → ℕ → MethodDef → Whole
whole u turnless calls d = whole_in (ground u turnless d) calls d (outer_frame (ground u turnless d) d)

-- the steps of the method of a problem
abbrev pub lowered : Posed → Bool → Option Whole
lowered p turnless = option_map (whole p.unit turnless p.scope.calls) (method_of p)
