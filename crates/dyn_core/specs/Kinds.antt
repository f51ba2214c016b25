-- Programs whose kinds fit, and states whose values have kinds. (This project's own.)
use Rattle.std.specs.Prelude.{◌≡◌, ℕ, ◌≤◌, Bool, true, false, ◌&&◌, List, length, slice_get, Some, IsTrue}
use Rattle.std.specs.List.{list_all}
use Rattle.std.specs.Option.{option_map_or}
use Rattle.taco_unit.specs.declared.kind.Kind.{Kind}
use Rattle.taco_unit.specs.declared.kind.Kind.TheVariants.{Int, Flag, Ref}
use Rattle.taco_unit.specs.Kinds.{same_kind}
use Rattle.taco_unit.specs.Parts.{Parts}
use Rattle.heap_core.specs.declared.value.Value.{Value}
use Rattle.heap_core.specs.declared.value.Value.TheVariants as v
use Rattle.heap_core.specs.Posed.{Posed}
use Rattle.heap_core.specs.Heap.{is_of}
use Rattle.heap_core.specs.Start.{has_kind, is_whole}
use Rattle.dyn_core.specs.declared.prog.Act.{Act}
use Rattle.dyn_core.specs.declared.prog.Act.TheVariants.{Copy, Const, Sum, Diff, Product, Same, Below, Read, Write, Make}
use Rattle.dyn_core.specs.declared.prog.Prog.{Prog, fold-Prog}
use Rattle.dyn_core.specs.declared.prog.Prog.TheOpen.{Prog-F}
use Rattle.dyn_core.specs.declared.state.DynState.{DynState}
use Rattle.dyn_core.specs.States.{var_at}

-- the variable has this kind; one without a kind has none
abbrev pub is_var : List Kind → ℕ → Kind → Bool
is_var kinds x k = option_map_or (same_kind k) (slice_get kinds x) false

-- two variables have one kind
abbrev pub are_alike : List Kind → ℕ → ℕ → Bool
are_alike kinds x y = option_map_or (is_var kinds x) (slice_get kinds y) false

-- a constant can stand where this kind is wanted: null where any class is
abbrev pub takes_constant : Value → Kind → Bool
takes_constant (v.Num z) Int = true
takes_constant (v.Flag b) Flag = true
takes_constant v.Null (Ref c) = true
takes_constant _ _ = false

-- the first variable is for objects of the class that declares the field, the second for the field's values
abbrev pub fit_field : Parts → List Kind → ℕ → ℕ → ℕ → Bool
fit_field u kinds f x y = option_map_or (λ d. is_var kinds x (Ref d.class) && is_var kinds y d.kind) (slice_get u.fields f) false

-- the first variable has this kind, and the two others are numbers
abbrev pub are_numbers : List Kind → ℕ → Kind → ℕ → ℕ → Bool
are_numbers kinds x k y z = is_var kinds x k && is_var kinds y Int && is_var kinds z Int

-- all kinds of an action fit
abbrev pub is_kinded_act : Posed → List Kind → Act → Bool
is_kinded_act p kinds (Copy x y) = are_alike kinds x y
is_kinded_act p kinds (Const x c) = option_map_or (takes_constant c) (slice_get kinds x) false
is_kinded_act p kinds (Sum x y z) = are_numbers kinds x Int y z
is_kinded_act p kinds (Diff x y z) = are_numbers kinds x Int y z
is_kinded_act p kinds (Product x y z) = are_numbers kinds x Int y z
is_kinded_act p kinds (Same x y z) = is_var kinds x Flag && are_alike kinds y z
is_kinded_act p kinds (Below x y z) = are_numbers kinds x Flag y z
is_kinded_act p kinds (Read x y f) = fit_field p.unit kinds f y x
is_kinded_act p kinds (Write x f y) = fit_field p.unit kinds f x y
is_kinded_act p kinds (Make x c) = is_var kinds x (Ref c)

-- by cases on the program's form
abbrev pub kinded_step : Posed → List Kind → Prog-F Bool → Bool
kinded_step p kinds (Prog-F.Act a) = is_kinded_act p kinds a
kinded_step p kinds (Prog-F.Test x b) = is_var kinds x Flag
kinded_step p kinds (Prog-F.Seq parts) = list_all (λ b. b) parts
kinded_step p kinds (Prog-F.Choice parts) = list_all (λ b. b) parts
kinded_step p kinds (Prog-F.Star body) = body

-- all kinds of a program fit, where its variables have these kinds
abbrev pub is_kinded : Posed → List Kind → Prog → Bool
is_kinded p kinds = fold-Prog Bool (kinded_step p kinds)

-- each variable with a kind has a value of it in the heap, and the heap has at most K objects, all whole
pub record HasKinds (p : Posed) (kinds : List Kind) (s : DynState) : Type 0 where
  pub vars : (x : ℕ) (k : Kind) → slice_get kinds x ≡ Some k → IsTrue (has_kind p.scope.ints s.objects k (var_at s.vars x))
  pub objects_whole : IsTrue (list_all (is_whole p.unit p.scope.ints s.objects) s.objects)
  pub few_objects : length s.objects ≤ p.scope.objects

-- a state with kinds that comes after another: each object of the earlier heap is in the later one, with its
-- number and its class
pub record KeepsKinds (p : Posed) (kinds : List Kind) (s t : DynState) : Type 0 where
  pub kinded : HasKinds p kinds t
  pub objects : (class o : ℕ) → IsTrue (is_of s.objects class o) → IsTrue (is_of t.objects class o)
