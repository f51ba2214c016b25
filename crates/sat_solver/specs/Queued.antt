-- The decision queue beside the table of set variables.
use Rattle.std.specs.Prelude.{◌≡◌, ℕ, Bool, true, false, List, length}
use Rattle.sat_order.specs.Lists.{holds}
use Rattle.sat_order.specs.Order.{Order, passed, IsOrder, is_free}

-- The queue has each variable, and those before its cursor have values.
pub record IsQueued (vars : ℕ) (queue : Order) (set : List Bool) : Type 0 where
  pub order : IsOrder queue.vars
  pub all : length queue.vars ≡ vars
  pub passed : (var : ℕ) → holds (passed queue) var ≡ true → is_free set var ≡ false
