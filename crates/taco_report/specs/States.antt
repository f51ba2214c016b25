-- The texts of states: which line is right where it stands, and the first that is not.
use Rattle.std.specs.Prelude.{◌≡◌, ◌≢◌, ℕ, ◌≤◌, ◌<◌, ◌==◌, ◌||◌, not, nat_lt, Bool, true, false, List, [], ◌∷◌, ◌++◌, length, flat_map, zip, take, slice_get, IsTrue, Some, Result, Ok, Err}
use Rattle.std.specs.List.{enumerate_from, list_all}
use Rattle.std.specs.Option.{option_map_or}
use Rattle.std.specs.Cmp.Lexicographic.{pointwise}
use Rattle.taco_unit.specs.declared.kind.Kind.{Kind}
use Rattle.taco_unit.specs.declared.kind.Kind.TheVariants as kind
use Rattle.taco_unit.specs.declared.unit.ParamDef.{ParamDef}
use Rattle.taco_unit.specs.Parts.{Parts}
use Rattle.heap_core.specs.declared.value.Value.{Value}
use Rattle.heap_core.specs.declared.value.Value.TheVariants.{Null, Obj, Num, Flag}
use Rattle.heap_core.specs.declared.value.Object.{Object}
use Rattle.heap_core.specs.declared.start.Start.{Start}
use Rattle.heap_core.specs.Posed.{Posed}
use Rattle.heap_core.specs.Outcomes.{in_bits}
use Rattle.heap_core.specs.Start.{Fits, method_of}
use Rattle.taco_report.specs.declared.fault.StateFault.{StateFault}
use Rattle.taco_report.specs.declared.fault.StateFault.TheVariants.{BadState, NoMemory}
use Rattle.taco_report.specs.Texts.{state_text, objects_line, object_line, this_line, argument_line, params_of}

-- the value may stand where one of the kind is asked for, in a text of n objects: an object is below n, and a number is
-- one of 32 bits
abbrev pub is_value : ℕ → Kind → Value → Bool
is_value n kind.Int (Num z) = in_bits 32 z
is_value n kind.Flag (Flag b) = true
is_value n (kind.Ref c) Null = true
is_value n (kind.Ref c) (Obj o) = nat_lt o n
is_value n _ _ = false

-- the value may stand where that of the field of this number is asked for
abbrev pub is_cell : Parts → ℕ → ℕ → Value → Bool
is_cell u n f v = option_map_or (λ d. is_value n d.kind v) (slice_get u.fields f) false

-- the object may stand on a line: its class is of the unit, and it has a value for each of its fields
abbrev pub is_listed : Parts → ℕ → Object → Bool
is_listed u n x = option_map_or (λ d. pointwise (is_cell u n) d.fields x.cells) (slice_get u.classes x.class) false

-- the value may stand on the line of the receiver: an object, and of a static method none
abbrev pub is_named : ℕ → Bool → Value → Bool
is_named n true Null = true
is_named n false (Obj o) = nat_lt o n
is_named n _ _ = false

-- the value may be the receiver on the problem's line
abbrev pub is_receiver_named : Posed → ℕ → Value → Bool
is_receiver_named p n v = option_map_or (λ m. is_named n m.fixed v) (method_of p) false

-- the value may stand on the line of the parameter
abbrev pub is_given : ℕ → ParamDef → Value → Bool
is_given n q v = is_value n q.kind v

-- the lines of objects, from number 0 on
abbrev pub object_lines : Posed → List Object → List ℕ
object_lines p xs = flat_map (object_line p) (enumerate_from 0 xs)

-- the lines of the first arguments
abbrev pub argument_lines : Posed → List Value → List ℕ
argument_lines p vs = flat_map argument_line (zip (params_of p) vs)

-- no such thing is written at the front of the bytes
abbrev pub NoLine : {V : Type 0} → (V → Bool) → (V → List ℕ) → List ℕ → Type 0
NoLine {V} is write bytes = (v : V) (more : List ℕ) → IsTrue (is v) → bytes ≡ write v ++ more → ⊥

-- All lines of the text are right, and say this start.
pub record IsStateText (p : Posed) (text : List ℕ) (s : Start) : Type 0 where
  pub few : length s.objects ≤ 12
  pub objects : IsTrue (list_all (is_listed p.unit (length s.objects)) s.objects)
  pub receiver : IsTrue (is_receiver_named p (length s.objects) s.this)
  pub arguments : IsTrue (pointwise (is_given (length s.objects)) (params_of p) s.args)
  pub text_is : text ≡ state_text p s

-- the first line says that there are n objects, and behind it stand the lines of these
pub record HasObjects (p : Posed) (n : ℕ) (xs : List Object) (front : List ℕ) : Type 0 where
  pub few : n ≤ 12
  pub listed : IsTrue (list_all (is_listed p.unit n) xs)
  pub front_is : front ≡ objects_line n ++ object_lines p xs

-- the lines of all n objects, that of the receiver, and those of the first arguments
pub record HasArguments (p : Posed) (n : ℕ) (xs : List Object) (this : Value) (vs : List Value) (front : List ℕ) : Type 0 where
  pub heap : List ℕ
  pub objects : HasObjects p n xs heap
  pub all : length xs ≡ n
  pub receiver : IsTrue (is_receiver_named p n this)
  pub arguments : IsTrue (pointwise (is_given n) (take (length vs) (params_of p)) vs)
  pub front_is : front ≡ heap ++ this_line this ++ argument_lines p vs

-- The place is that of the first line that is not right where it stands: behind the right lines in front no right line
-- stands, or more does where there is no line left. Where all lines are right, it is the text's length, and the start
-- does not fit. Where a line is missing it is the text's length too, since the right lines in front are all of the text.
pub data IsBadState (p : Posed) (text : List ℕ) (at : ℕ) : Type 0 where
  no_count : at ≡ 0 → NoLine (λ n. nat_lt n 13) objects_line text → IsBadState p text at
  no_object : (n : ℕ) (xs : List Object) (front rest : List ℕ) → HasObjects p n xs front → length xs < n → text ≡ front ++ rest → at ≡ length front
      → NoLine (is_listed p.unit n) (λ x. object_line p (length xs, x)) rest → IsBadState p text at
  no_receiver : (n : ℕ) (xs : List Object) (front rest : List ℕ) → HasObjects p n xs front → length xs ≡ n → text ≡ front ++ rest → at ≡ length front
      → NoLine (is_receiver_named p n) this_line rest → IsBadState p text at
  no_argument : (n : ℕ) (xs : List Object) (this : Value) (vs : List Value) (q : ParamDef) (front rest : List ℕ) → HasArguments p n xs this vs front
      → slice_get (params_of p) (length vs) ≡ Some q → text ≡ front ++ rest → at ≡ length front
      → NoLine (is_given n q) (λ v. argument_line (q, v)) rest → IsBadState p text at
  too_many : (n : ℕ) (xs : List Object) (this : Value) (vs : List Value) (front rest : List ℕ) → HasArguments p n xs this vs front
      → length vs ≡ length (params_of p) → text ≡ front ++ rest → at ≡ length front → rest ≢ [] → IsBadState p text at
  unfit : (s : Start) → IsStateText p text s → (Fits s p → ⊥) → at ≡ length text → IsBadState p text at

-- what a refused text has; want of memory says nothing
abbrev pub BlamesState : Posed → List ℕ → StateFault → Type 0
BlamesState p text (BadState at) = IsBadState p text at
BlamesState p text NoMemory = Unit {0}

-- the answer is this start, unless memory was wanting
abbrev pub IsReadAs : Result Start StateFault → Start → Type 0
IsReadAs (Ok x) s = x ≡ s
IsReadAs (Err (BadState at)) s = ⊥
IsReadAs (Err NoMemory) s = Unit {0}

-- the byte is one of a word: neither the space behind it nor the end of its line
abbrev pub is_inner : ℕ → Bool
is_inner b = not (b == 32 || b == 10)

-- no byte of a word stands first
abbrev pub ends : List ℕ → Bool
ends [] = true
ends (b ∷ bs) = not (is_inner b)

-- a text says one start at most
abbrev pub OneStart : Posed → Type 0
OneStart p = (text : List ℕ) (s t : Start) → IsStateText p text s → IsStateText p text t → s ≡ t
