-- What contracts see of a problem. (This project's own.)
use Rattle.std.specs.Prelude.{ℕ, ◌<◌, length}
use Rattle.taco_unit.specs.Parts.{Parts}
use Rattle.taco_unit.specs.Scopes.{IsScope}
use Rattle.taco_unit.specs.declared.scope.Scope.{Scope}

-- a unit, the number of one of its methods, and the scope
pub record Posed : Type 0 where
  pub unit : Parts
  pub method : ℕ
  pub scope : Scope

-- the method is one of the unit's, and the scope's numbers are in their ranges
pub record InRange (p : Posed) : Type 0 where
  pub method_there : p.method < length p.unit.methods
  pub scope : IsScope p.scope
