-- The states of a program: its variables and its heap. (This project's own.)
use Rattle.std.specs.Prelude.{ℕ, zero, suc, List, [], ◌∷◌, slice_get, unwrap_or}
use Rattle.heap_core.specs.declared.value.Value.{Value}
use Rattle.heap_core.specs.declared.value.Value.TheVariants.{Null}

-- the value of the variable of this number; one that the list lacks is null
abbrev pub var_at : List Value → ℕ → Value
var_at vars x = unwrap_or (slice_get vars x) Null

-- the variables, with the one of this number set; those that the list lacks below it become null
abbrev pub with_var : List Value → ℕ → Value → List Value
with_var [] zero v = v ∷ []
with_var [] (suc x) v = Null ∷ with_var [] x v
with_var (u ∷ vars) zero v = v ∷ vars
with_var (u ∷ vars) (suc x) v = u ∷ with_var vars x v
