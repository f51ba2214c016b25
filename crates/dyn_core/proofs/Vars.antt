-- Variables: what a variable is after one was set.
use Rattle.std.proofs.Common.{◌≡◌, ℕ, zero, suc, List, [], ◌∷◌, refl, ap}
use Rattle.heap_core.specs.declared.value.Value.{Value}
use Rattle.dyn_core.specs.States.{var_at, with_var}

pub var_set : (vars : List Value) (x : ℕ) (v : Value) → var_at (with_var vars x v) x ≡ v
var_set [] zero v = refl
var_set [] (suc x) v = var_set [] x v
var_set (u ∷ vars) zero v = refl
var_set (u ∷ vars) (suc x) v = var_set vars x v

pub var_apart : (vars : List Value) (x : ℕ) (v : Value) (y : ℕ) → (y ≡ x → ⊥) → var_at (with_var vars x v) y ≡ var_at vars y
var_apart [] zero v zero apart = absurd (apart refl)
var_apart [] zero v (suc y) apart = refl
var_apart [] (suc x) v zero apart = refl
var_apart [] (suc x) v (suc y) apart = var_apart [] x v y (λ same. apart (ap suc same))
var_apart (u ∷ vars) zero v zero apart = absurd (apart refl)
var_apart (u ∷ vars) zero v (suc y) apart = refl
var_apart (u ∷ vars) (suc x) v zero apart = refl
var_apart (u ∷ vars) (suc x) v (suc y) apart = var_apart vars x v y (λ same. apart (ap suc same))
