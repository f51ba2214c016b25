-- What truth values of gates show of the relations that have gates. (This project's own.)
use Rattle.std.specs.Prelude.{
  ◌≡◌,
  ℕ,
  zero,
  suc,
  ◌+◌,
  ◌*◌,
  ◌^◌,
  nat_lt,
  ℤ,
  pos,
  Bool,
  false,
  ◌&&◌,
  if◌then◌else◌,
  List,
  [],
  ◌∷◌,
  map,
  length,
  count_by,
  slice_get,
  Option,
  Some,
  None,
  is_some,
  IsTrue,
}
use Rattle.std.specs.List.{slice_index_or, range_with_len}
use Rattle.std.specs.Option.{option_map_or}
use Rattle.heap_core.specs.declared.value.Value.{Value}
use Rattle.heap_core.specs.declared.value.Value.TheVariants.{Obj}
use Rattle.heap_core.specs.Posed.{Posed}
use Rattle.heap_core.specs.Start.{method_of}
use Rattle.canonical_order.specs.declared.tuple.Tuple.{Tuple}
use Rattle.canonical_order.specs.declared.tuple.Tuple.TheVariants.{Root, Field}
use Rattle.canonical_order.specs.Tuples.{tuples}
use Rattle.tuple_sets.specs.Words.{has}
use Rattle.gate_arith.specs.Numbers.{number, signed}
use Rattle.rel_core.specs.declared.relation.RelVar.{RelVar}
use Rattle.rel_core.specs.declared.relation.What.{What}
use Rattle.rel_core.specs.declared.relation.What.TheVariants as what
use Rattle.rel_core.specs.Reading.{Reading, same_relation, is_reference}
use Rattle.rel_core.specs.Uses.{Kinds, Use, AsSet, AsNumber, AsFlag, AsClass, is_slot, has_place}

-- ## named relations

-- relations, each with its gates
abbrev pub Named : Type 0
Named = List (RelVar × List ℕ)

-- the gates of a relation, where it is named: those that are named first
abbrev pub gates_of : Named → RelVar → Option (List ℕ)
gates_of [] r = None
gates_of (e ∷ es) r = if same_relation e.0 r then Some e.1 else gates_of es r

abbrev pub is_named : Named → RelVar → Bool
is_named es r = is_some (gates_of es r)

-- ## how the gates of a relation lie: a row for each place, one behind the other

-- as many bits as the class numbers of the unit need
abbrev pub class_bits : Posed → ℕ
class_bits p = count_by (λ b. nat_lt (2 ^ b) (length p.unit.classes)) (range_with_len 0 4)

-- the gates of a row: null's and each object's, the bits of a number, a flag, the bits of a class number
abbrev pub width_of : Posed → Use → ℕ
width_of p AsSet = p.scope.objects + 1
width_of p AsNumber = p.scope.ints
width_of p AsFlag = 1
width_of p AsClass = class_bits p

-- a variable has one row, and any other relation one for each object
abbrev pub rows_of : Posed → What → ℕ
rows_of p w = if is_slot w then 1 else p.scope.objects

abbrev pub gate_count : Posed → Use → RelVar → ℕ
gate_count p u r = rows_of p r.what * width_of p u

-- the place of a reference in a row: null's, and then those of the objects
abbrev pub place_of : Value → ℕ
place_of (Obj o) = o + 1
place_of _ = 0

-- the truth at a place of a row, where gates have these truth values
abbrev pub in_row : (ℕ → Bool) → ℕ → List ℕ → ℕ → ℕ → Bool
in_row truth width gates o i = truth (slice_index_or gates (o * width + i) 0)

abbrev pub row_bits : (ℕ → Bool) → ℕ → List ℕ → ℕ → List Bool
row_bits truth width gates o = map (in_row truth width gates o) (range_with_len 0 width)

-- ## the reading that is shown: decoded at named relations, empty at all others

abbrev pub refs_shown : Posed → Kinds → (ℕ → Bool) → Option (List ℕ) → RelVar → ℕ → Value → Bool
refs_shown p kinds truth found r o v =
    has_place p kinds AsSet r o && is_reference p.scope.objects v
    && option_map_or (λ gates. in_row truth (p.scope.objects + 1) gates o (place_of v)) found false

abbrev pub number_shown : Posed → Kinds → (ℕ → Bool) → Option (List ℕ) → RelVar → ℕ → ℤ
number_shown p kinds truth found r o =
    if has_place p kinds AsNumber r o then option_map_or (λ gates. signed (row_bits truth p.scope.ints gates o)) found (pos 0)
    else (if has_place p kinds AsClass r o then option_map_or (λ gates. pos (number (row_bits truth (class_bits p) gates o))) found (pos 0) else pos 0)

abbrev pub flag_shown : Posed → Kinds → (ℕ → Bool) → Option (List ℕ) → RelVar → ℕ → Bool
flag_shown p kinds truth found r o = has_place p kinds AsFlag r o && option_map_or (λ gates. in_row truth 1 gates o 0) found false

abbrev pub reading_shown : Posed → Kinds → (ℕ → Bool) → Named → Reading
reading_shown p kinds truth es = record {
  objects = p.scope.objects;
  ints = p.scope.ints;
  refs = λ r o v. refs_shown p kinds truth (gates_of es r) r o v;
  number = λ r o. number_shown p kinds truth (gates_of es r) r o;
  flag = λ r o. flag_shown p kinds truth (gates_of es r) r o;
}

-- two readings have the same at a relation
pub record AgreeAt (m other : Reading) (r : RelVar) : Type 0 where
  pub refs : (o : ℕ) (v : Value) → m.refs r o v ≡ other.refs r o v
  pub number : (o : ℕ) → m.number r o ≡ other.number r o
  pub flag : (o : ℕ) → m.flag r o ≡ other.flag r o

-- the gates of each named relation show what the reading has
abbrev pub Agrees : Posed → Kinds → (ℕ → Bool) → Named → Reading → Type 0
Agrees p kinds truth es m = (r : RelVar) → IsTrue (is_named es r) → AgreeAt m (reading_shown p kinds truth es) r

-- ## the tuples of a reading

-- the program variable of a root: the parameters in order, and the receiver behind them
abbrev pub variable_of : Posed → ℕ → ℕ
variable_of p zero = option_map_or (λ d. length d.params) (method_of p) 0
variable_of p (suc i) = i

-- the reading has the tuple's value at its place, at index 0
abbrev pub has_tuple : Posed → Reading → Tuple → Bool
has_tuple p m (Root i v) = m.refs (record { what = what.Slot (variable_of p i); index = 0 }) 0 v
has_tuple p m (Field f o v) = m.refs (record { what = what.Field f; index = 0 }) o v

-- the reading's start holds only tuples of the set
abbrev pub HoldsOnly : Posed → List ℕ → Reading → Type 0
HoldsOnly p upper m = (t : ℕ) (x : Tuple) → slice_get (tuples p) t ≡ Some x → IsTrue (has_tuple p m x) → has upper t ≡ 1
