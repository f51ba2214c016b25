-- Where values stand: rows of variables, and the frame of a method that is inlined. (This project's own.)
--
-- The arguments of the method that is lowered are the first variables, its receiver is the next. Behind
-- these stand rows. A row has a variable for each kind: a number, a truth value, and an object of each
-- class, in this order; so the kind of a variable is that of its place in its row, whatever stands there.
use Rattle.std.specs.Prelude.{ℕ, ◌+◌, ◌==◌, nat_lt, Bool, true, false, if◌then◌else◌, List, [], ◌∷◌, length, Option}
use Rattle.std.specs.Option.{option_map_or}
use Rattle.taco_unit.specs.declared.kind.Kind.{Kind}
use Rattle.taco_unit.specs.declared.kind.Kind.TheVariants.{Int, Flag, Ref}
use Rattle.taco_unit.specs.Parts.{Parts}

-- what a lowering stands on: the unit, the first variable behind the receiver, and whether loops have no
-- turn, so that their bodies are left out
pub record Ground : Type 0 where
  pub unit : Parts
  pub first : ℕ
  pub turnless : Bool

-- the variables of a row
abbrev pub width : Ground → ℕ
width g = 2 + length g.unit.classes

-- the place of a kind in its row; a class that the unit lacks has that of numbers
abbrev pub slot : Ground → Kind → ℕ
slot g Int = 0
slot g Flag = 1
slot g (Ref c) = if nat_lt c (length g.unit.classes) then 2 + c else 0

-- the first free row, where the one from b on has a value at x, unless x stands before it
abbrev pub behind : Ground → ℕ → ℕ → ℕ
behind g b x = if nat_lt x b then b else b + width g

-- the first row stands still: 0, false, and null of each class; and so does the second, with 1 and true
abbrev pub zero_number : Ground → ℕ
zero_number g = g.first

abbrev pub flag_of : Ground → Bool → ℕ
flag_of g false = g.first + 1
flag_of g true = g.first + width g + 1

abbrev pub one_number : Ground → ℕ
one_number g = g.first + width g

-- the frame of a method: the variables of its receiver, where it has one, of its locals, of its result and
-- of two flags, and the first free row
pub record Spots : Type 0 where
  pub this : Option ℕ
  -- the class of the receiver
  pub class : ℕ
  pub locals : List ℕ
  pub kinds : List Kind
  -- the method has returned or thrown
  pub done : ℕ
  -- the method has thrown
  pub thrown : ℕ
  pub result : ℕ
  -- the kind of the result; that of numbers where the method has none
  pub gives : Kind
  -- a value is wanted of the method, so that an end without one leaves the scope
  pub wanted : Bool
  pub base : ℕ

-- the variable is that of the receiver, which is an object
abbrev pub is_receiver : Spots → ℕ → Bool
is_receiver f x = option_map_or (λ y. x == y) f.this false

-- a row for each kind, from b on, with its variable
abbrev pub in_rows : Ground → ℕ → List Kind → List ℕ
in_rows g b [] = []
in_rows g b (k ∷ ks) = (b + slot g k) ∷ in_rows g (b + width g) ks

-- the row behind these
abbrev pub past_rows : Ground → ℕ → List Kind → ℕ
past_rows g b [] = b
past_rows g b (k ∷ ks) = past_rows g (b + width g) ks

-- the first of the kinds that are left, and those behind it; that of numbers where there are too few
abbrev pub first_kind : List Kind → Kind
first_kind [] = Int
first_kind (k ∷ ks) = k

abbrev pub later_kinds : List Kind → List Kind
later_kinds [] = []
later_kinds (k ∷ ks) = ks

-- a kind for each of these arguments
abbrev pub for_each_argument : List Kind → List ℕ → List Kind
for_each_argument ks [] = []
for_each_argument ks (x ∷ xs) = first_kind ks ∷ for_each_argument (later_kinds ks) xs
