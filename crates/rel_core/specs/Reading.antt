-- What formulas see of a valuation. (This project's own; the TACO article, "TACO: Translation of Annotated Code",
-- has fields as relations and states as indexed variables.)
use Rattle.std.specs.Prelude.{ℕ, ◌==◌, nat_lt, ℤ, pos, Bool, true, false, ◌&&◌, if◌then◌else◌, List, [], ◌∷◌, map}
use Rattle.std.specs.List.{list_any, range_with_len}
use Rattle.heap_core.specs.declared.value.Value.{Value}
use Rattle.heap_core.specs.declared.value.Value.TheVariants.{Null, Obj, Num, Flag}
use Rattle.heap_core.specs.Outcomes.{is_value}
use Rattle.rel_core.specs.declared.relation.RelVar.{RelVar}
use Rattle.rel_core.specs.declared.relation.What.{What}
use Rattle.rel_core.specs.declared.relation.What.TheVariants as what

-- of each relation at each place: which references it has, its number and its truth value
pub record Reading : Type 0 where
  -- the number of objects that are looked at, K: places and objects of K and more play no part
  pub objects : ℕ
  -- the bits of a number
  pub ints : ℕ
  pub refs : RelVar → ℕ → Value → Bool
  pub number : RelVar → ℕ → ℤ
  pub flag : RelVar → ℕ → Bool

-- the numbers of the objects that are looked at
abbrev pub numbers_below : ℕ → List ℕ
numbers_below objects = range_with_len 0 objects

-- the references that are looked at: null, then the objects
abbrev pub references : ℕ → List Value
references objects = Null ∷ map Obj (numbers_below objects)

-- the value is one of these
abbrev pub is_reference : ℕ → Value → Bool
is_reference objects Null = true
is_reference objects (Obj o) = nat_lt o objects
is_reference objects _ = false

-- ## the reading of triples

abbrev pub Triple : Type 0
Triple = RelVar × ℕ × Value

abbrev pub same_what : What → What → Bool
same_what what.Live what.Live = true
same_what what.ClassOf what.ClassOf = true
same_what (what.Field f) (what.Field g) = f == g
same_what (what.Slot x) (what.Slot y) = x == y
same_what _ _ = false

-- two relations are one
abbrev pub same_relation : RelVar → RelVar → Bool
same_relation r s = same_what r.what s.what && r.index == s.index

-- the triple is of this relation at this place
abbrev pub is_at : RelVar → ℕ → Triple → Bool
is_at r o t = same_relation t.0 r && t.1 == o

-- the number, or the truth value, that a value is; what it is where it is none
abbrev pub number_or : ℤ → Value → ℤ
number_or z (Num x) = x
number_or z _ = z

abbrev pub flag_or : Bool → Value → Bool
flag_or b (Flag x) = x
flag_or b _ = b

-- the first number among the triples of a relation at a place, and 0 where there is none
abbrev pub first_number : RelVar → ℕ → List Triple → ℤ
first_number r o [] = pos 0
first_number r o (t ∷ ts) = if is_at r o t then number_or (first_number r o ts) t.2 else first_number r o ts

-- the first truth value, and false where there is none
abbrev pub first_flag : RelVar → ℕ → List Triple → Bool
first_flag r o [] = false
first_flag r o (t ∷ ts) = if is_at r o t then flag_or (first_flag r o ts) t.2 else first_flag r o ts

-- what triples say, of the objects below K and in w bits: a triple that gives a number or a truth value has no
-- part in the references
abbrev pub reading_of : ℕ → ℕ → List Triple → Reading
reading_of objects ints ts = record {
  objects = objects;
  ints = ints;
  refs = λ r o v. nat_lt o objects && is_reference objects v && list_any (λ t. is_at r o t && is_value t.2 v) ts;
  number = λ r o. if nat_lt o objects then first_number r o ts else pos 0;
  flag = λ r o. nat_lt o objects && first_flag r o ts;
}
