-- Class numbers that are shown are those of classes. (This project's own.)
use Rattle.std.specs.Prelude.{◌≡◌, ℕ, ◌*◌, ◌==◌, ◌&&◌, nat_lt, Bool, true, false, List, length, map, Some, if◌then◌else◌}
use Rattle.std.specs.List.{list_all, range_with_len}
use Rattle.heap_core.specs.Posed.{Posed}
use Rattle.gate_arith.specs.Numbers.{number}
use Rattle.rel_core.specs.declared.relation.RelVar.{RelVar}
use Rattle.rel_core.specs.declared.relation.What.{What}
use Rattle.rel_core.specs.declared.relation.What.TheVariants as what
use Rattle.rel_gates.specs.Shown.{Named, gates_of, class_bits, row_bits}

-- the number of a row is that of a class
abbrev pub row_fits : Posed → (ℕ → Bool) → List ℕ → Bool
row_fits p truth row = nat_lt (number (map truth row)) (length p.unit.classes)

-- that of each object
abbrev pub rows_fit : Posed → (ℕ → Bool) → List ℕ → Bool
rows_fit p truth rows = list_all (λ o. nat_lt (number (row_bits truth (class_bits p) rows o)) (length p.unit.classes)) (range_with_len 0 p.scope.objects)

-- the number of a row is that of this class of the unit
abbrev pub row_is : Posed → (ℕ → Bool) → List ℕ → ℕ → Bool
row_is p truth row c = nat_lt c (length p.unit.classes) && (number (map truth row) == c)

-- that of an object's row
abbrev pub is_class_at : Posed → (ℕ → Bool) → List ℕ → ℕ → ℕ → Bool
is_class_at p truth rows c o = nat_lt c (length p.unit.classes) && (number (row_bits truth (class_bits p) rows o) == c)

abbrev pub is_class_of : What → Bool
is_class_of what.ClassOf = true
is_class_of _ = false

-- that of each object, where the relation has class numbers
abbrev pub is_fitting : Posed → (ℕ → Bool) → RelVar × List ℕ → Bool
is_fitting p truth e = if is_class_of e.0.what then rows_fit p truth e.1 else true

-- that of each object, for each relation that has class numbers
abbrev pub all_fit : Posed → (ℕ → Bool) → Named → Bool
all_fit p truth es = list_all (is_fitting p truth) es

-- a relation of class numbers has as many gates as it wants
abbrev pub ClassesCounted : Posed → Named → Type 0
ClassesCounted p es = (r : RelVar) (gates : List ℕ) → gates_of es r ≡ Some gates → r.what ≡ what.ClassOf → length gates ≡ p.scope.objects * class_bits p
