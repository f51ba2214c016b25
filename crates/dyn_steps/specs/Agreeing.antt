-- Readings that agree. (This project's own.)
use Rattle.std.specs.Prelude.{◌≡◌, ℕ, ◌<◌}
use Rattle.heap_core.specs.declared.value.Value.{Value}
use Rattle.rel_core.specs.declared.relation.RelVar.{RelVar}
use Rattle.rel_core.specs.Reading.{Reading}

-- what one relation has under one reading at each place, another has under another
pub record IsAlike (m : Reading) (r : RelVar) (u : Reading) (q : RelVar) : Type 0 where
  pub refs : (o : ℕ) (v : Value) → u.refs q o v ≡ m.refs r o v
  pub number : (o : ℕ) → u.number q o ≡ m.number r o
  pub flag : (o : ℕ) → u.flag q o ≡ m.flag r o

-- the relations whose index is below n are alike
abbrev pub Agree : ℕ → Reading → Reading → Type 0
Agree n m u = (r : RelVar) → r.index < n → IsAlike m r u r
