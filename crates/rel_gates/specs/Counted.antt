-- The gates of numbers: their bits, and one gate that says whether the number is there. (This project's own.)
use Rattle.std.specs.Prelude.{◌≡◌, ℕ, ◌-◌, ◌^◌, ℤ, pos, negsuc, Bool, false, List, length, Option, Some, None, IsTrue, All, if◌then◌else◌}
use Rattle.gate_core.specs.declared.circuit.Node.{Node}
use Rattle.gate_core.specs.Circuit.{value, IsOf}
use Rattle.gate_arith.specs.Operations.{shown, IsTruth}
use Rattle.heap_core.specs.Posed.{Posed}
use Rattle.rel_core.specs.declared.numbers.NumExpr.{NumExpr}
use Rattle.rel_core.specs.Reading.{Reading}
use Rattle.rel_core.specs.Meaning.{number_of, fitting, with_both}
use Rattle.rel_core.specs.Uses.{Kinds, is_sorted_number}
use Rattle.rel_gates.specs.Shown.{Named}
use Rattle.rel_gates.specs.Meant.{IsSeen}

-- what the bits below the sign count
abbrev pub low_part : ℕ → ℤ → ℕ
low_part top (pos n) = n
low_part top (negsuc k) = 2 ^ top - 1 - k

-- as many bits of the circuit as the problem's numbers have, and a gate of it
pub record IsStanding (p : Posed) (nodes : List Node) (bits : List ℕ) (there : ℕ) : Type 0 where
  pub of : All (IsOf nodes) bits
  pub wide : length bits ≡ p.scope.ints
  pub there_of : IsOf nodes there

-- the number that the gates show, where it is there
abbrev pub counted : List Node → List ℕ → ℕ → (ℕ → Bool) → Option ℤ
counted nodes bits there inputs = if value inputs nodes there then Some (shown nodes bits inputs) else None

-- the gates of a number
pub record IsNumberOf (p : Posed) (es : Named) (nodes : List Node) (e : NumExpr) (bits : List ℕ) (there : ℕ) : Type 0 where
  pub stands : IsStanding p nodes bits there
  pub values : (kinds : Kinds) (m : Reading) (inputs : ℕ → Bool) → IsTrue (is_sorted_number p kinds e) → IsSeen p kinds nodes es inputs m → counted nodes bits there inputs ≡ number_of e m

-- the gates of a number that is made of two others, where both are there and it lies in the width
pub record IsOperation (p : Posed) (op : ℤ → ℤ → ℤ) (old new : List Node) (a : List ℕ) (a_there : ℕ) (b : List ℕ) (b_there : ℕ) (bits : List ℕ) (there : ℕ) : Type 0 where
  pub stands : IsStanding p new bits there
  pub values : (inputs : ℕ → Bool) → counted new bits there inputs
      ≡ with_both (counted old a a_there inputs) (counted old b b_there inputs) (λ x y. fitting p.scope.ints (op x y)) None

-- the gate of a test of two numbers, false where one is not there
abbrev pub IsComparison : (ℤ → ℤ → Bool) → List Node → List Node → List ℕ → ℕ → List ℕ → ℕ → ℕ → Type 0
IsComparison test old new a a_there b b_there gate =
    IsTruth new (λ inputs. with_both (counted old a a_there inputs) (counted old b b_there inputs) test false) gate
