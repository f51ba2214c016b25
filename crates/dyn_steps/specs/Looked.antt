-- Sets of variables: those that are looked at. (Live variables, as compilers have them; this project's own form.)
use Rattle.std.specs.Prelude.{◌≡◌, ℕ, ◌==◌, Bool, true, not, ◌&&◌, ◌||◌, if◌then◌else◌, List, get_or, slice_get, None}
use Rattle.taco_unit.specs.declared.kind.Kind.{Kind}
use Rattle.taco_unit.specs.declared.kind.Kind.TheVariants.{Int}
use Rattle.rel_core.specs.declared.relation.What.{What}
use Rattle.rel_core.specs.declared.relation.What.TheVariants as what
use Rattle.rel_core.specs.Uses.{Kinds}
use Rattle.dyn_core.specs.declared.prog.Act.{Act}
use Rattle.dyn_core.specs.declared.prog.Act.TheVariants.{Copy, Const, Sum, Diff, Product, Same, Below, Read, Write, Make}

-- a set of program variables
abbrev pub Vars : Type 0
Vars = ℕ → Bool

abbrev pub all_vars : Vars
all_vars x = true

-- all but one
abbrev pub without : ℕ → Vars → Vars
without x vars y = not (y == x) && vars y

-- one more
abbrev pub with_one : ℕ → Vars → Vars
with_one x vars y = y == x || vars y

-- the kind of a variable, where it has one
abbrev pub kind_at : List Kind → ℕ → Kind
kind_at kinds x = get_or kinds x Int

-- the kinds of these variables alone
abbrev pub kinds_in : List Kind → Vars → Kinds
kinds_in kinds vars x = if vars x then slice_get kinds x else None

-- the variables that are looked at from before an action on, by those that are looked at after it: its target goes
-- out, and what it is found from comes in
abbrev pub looked_at : Act → Vars → Vars
looked_at (Copy x y) vars = with_one y (without x vars)
looked_at (Const x v) vars = without x vars
looked_at (Sum x y z) vars = with_one y (with_one z (without x vars))
looked_at (Diff x y z) vars = with_one y (with_one z (without x vars))
looked_at (Product x y z) vars = with_one y (with_one z (without x vars))
looked_at (Same x y z) vars = with_one y (with_one z (without x vars))
looked_at (Below x y z) vars = with_one y (with_one z (without x vars))
looked_at (Read x y f) vars = with_one y (without x vars)
looked_at (Write x f y) vars = with_one x (with_one y vars)
looked_at (Make x c) vars = without x vars

-- whether a relation is looked at: of the variables those of the set alone
abbrev pub IsLooked : Vars → What → Type 0
IsLooked vars (what.Slot x) = vars x ≡ true
IsLooked vars w = Unit {0}
