-- A table of the objects' new numbers.
use Rattle.std.specs.Prelude.{◌≡◌, ℕ, ◌<◌, ◌≤◌, List, length, slice_get, Some}
use Rattle.canonical_order.specs.Canonical.{number_in}

-- the table has the place of each object that the order holds; the order holds the objects below its length alone
pub record AreNumbers (table order : List ℕ) : Type 0 where
  pub as_many : length table ≡ length order
  pub at : (o : ℕ) → o < length order → slice_get table o ≡ Some (number_in order o)
  pub beyond : (o : ℕ) → length order ≤ o → number_in order o ≡ length order
