-- How readers of parts are put together.
use Rattle.std.specs.Prelude.{ℕ, zero, suc, Bool, true, false, List, [], ◌∷◌, length, Option, Some, None}
use Rattle.java_lex.specs.declared.token.Token.{Token}
use Rattle.reading_core.specs.Read.{Read, Got, Bad, Deep, ◌>>=◌}

-- a reader of parts that have such a value
abbrev pub Reader : Type 0 → Type 0
Reader A = List Token → Read A

abbrev pub head : List Token → Option Token
head [] = None
head (t ∷ ts) = Some t

-- what is read, made into something else
abbrev pub give : {A B : Type 0} → (A → B) → Read A → Read B
give f (Got a rest) = Got (f a) rest
give f (Bad rest) = Bad rest
give f (Deep rest) = Deep rest

abbrev pub with_first : {A B : Type 0} → A → Read B → Read (A × B)
with_first a o = give (λ b. (a, b)) o

-- one part and then another: both values
abbrev pub and_then : {A B : Type 0} → Read A → (A → Reader B) → Read (A × B)
and_then o next = o >>= (λ a rest. with_first a (next a rest))

-- one token that passes the test, as the value that it has
abbrev pub taken : {A : Type 0} → (Token → Bool) → (Token → A) → Reader A
taken test value [] = Bad []
taken test value (t ∷ ts) = elim (test t) [ true ↦ Got (value t) ts | false ↦ Bad (t ∷ ts) ]

-- Behind a token that opens a level, with which ts begin; below: the reader one level deeper, if a level is left.
abbrev pub deeper_by : {A B : Type 0} → Option (Reader B) → List Token → A → Reader (A × B)
deeper_by None ts a rest = Deep ts
deeper_by (Some read) ts a rest = with_first a (read rest)

-- one token that passes the test and opens a level, and then what stands one level deeper
abbrev pub opening : {A B : Type 0} → (Token → Bool) → (Token → A) → Option (Reader B) → Reader (A × B)
opening test value below ts = taken test value ts >>= deeper_by below ts

module _ {A : Type 0} (begins : Option Token → Bool) (item : Reader A) where
  -- at most so many of the part, as long as one begins
  abbrev pub repeat_by : ℕ → Reader (List A)
  repeat_by zero ts = Got [] ts
  repeat_by (suc n) ts = elim (begins (head ts)) [ true ↦ give (λ (x : A × List A). x.0 ∷ x.1) (and_then (item ts) (λ a rest. repeat_by n rest)) | false ↦ Got [] ts ]

  -- the part as long as one begins, where each has a token at least
  unfoldable pub repeat : Reader (List A)
  repeat ts = repeat_by (suc (length ts)) ts

  -- the part if it begins
  abbrev pub optional : Reader (Option A)
  optional ts = elim (begins (head ts)) [ true ↦ give Some (item ts) | false ↦ Got None ts ]

-- the levels that are left one level deeper, where so many are left
abbrev pub left_below : ℕ → Option ℕ
left_below zero = None
left_below (suc n) = Some n

-- one level deeper, where so many levels are left
abbrev pub lower : {B : Type 0} → ℕ → (ℕ → Reader B) → Option (Reader B)
lower left read = elim (left_below left) [ None ↦ None | Some n ↦ Some (read n) ]

-- what is read is another value with it
abbrev pub second : {A B : Type 0} → Read (A × B) → Read B
second o = give (λ x. x.1) o

abbrev pub first : {A B : Type 0} → Read (A × B) → Read A
first o = give (λ x. x.0) o
