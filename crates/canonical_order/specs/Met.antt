-- Which objects were met, and the table that tells it at once.
use Rattle.std.specs.Prelude.{◌≡◌, ℕ, ◌<◌, ◌==◌, Bool, List, length, slice_get, Some}
use Rattle.std.specs.List.{list_any}

-- of so many objects these were met, in this order
pub record Met : Type 0 where
  pub count : ℕ
  pub order : List ℕ

-- the table says of each object whether it was met, and has a place for each that was
pub record AreMet (table : List Bool) (order : List ℕ) : Type 0 where
  pub tells : (o : ℕ) (b : Bool) → slice_get table o ≡ Some b → b ≡ list_any (λ q. q == o) order
  pub has_place : (i o : ℕ) → slice_get order i ≡ Some o → o < length table
