-- Arguments are read by the readers that parts of a text are put together of.
use Rattle.std.proofs.Common.{◌≡◌, ℕ, zero, suc, Bool, true, false, not, List, [], ◌∷◌, length, Option, Some, None, refl, sym, ◌∙◌, ap}
use Rattle.java_lex.specs.declared.spelling.Terminal.{Terminal}
use Rattle.java_lex.specs.declared.spelling.Terminal.TheVariants as terminal
use Rattle.java_lex.specs.declared.token.Token.{Token}
use Rattle.java_tree.specs.Trees.{Expr, Exprs, none, also}
use Rattle.reading_core.specs.Read.{Read, Got, Bad, Deep, ◌>>=◌, at_side, expect, is_open, is_close, is_comma, is_open_terminal, is_close_terminal, is_comma_terminal}
use Rattle.reading_core.specs.Deeper.{deeper, always}
use Rattle.reading_core.specs.Loops.{repeat_by as loop_by, repeat as loop}
use Rattle.expression_reading.specs.Operators.{top}
use Rattle.expression_reading.specs.Reading.{Below, exprs, first_is, argument_in, arguments_in, below, operand_in, chain_in, step_in}
use Rattle.java_reading.specs.declared.marks.Fixed.{Fixed}
use Rattle.java_reading.specs.declared.marks.Fixed.TheVariants.{OpenParen, CloseParen, Comma}
use Rattle.java_reading.specs.Readers.{Reader, head, give, with_first, second, and_then, opening, deeper_by, lower, optional, repeat_by, repeat}
use Rattle.java_reading.specs.Tokens.{is_fixed, stands, fixed, next_is}
use Rattle.java_reading.specs.MemberReading.{not_close}
use Rattle.java_reading.proofs.Parts.{second_with}
use Rattle.text_reading.specs.Readers.{expression_at, arguments_at}

-- "," Expr
abbrev pub comma_in : Reader Expr → Reader Expr
comma_in r ts = second (and_then (fixed false Comma ts) (λ u. r))

-- { "," Expr }
abbrev pub more_in : Reader Expr → Reader (List Expr)
more_in r = repeat (next_is false Comma) (comma_in r)

-- Expr { "," Expr }
abbrev pub some_in : Reader Expr → Reader (List Expr)
some_in r ts = give (λ x. x.0 ∷ x.1) (and_then (r ts) (λ e. more_in r))

abbrev pub listed : Option (List Expr) → Exprs
listed None = none
listed (Some es) = exprs es

-- [ Expr { "," Expr } ]
abbrev pub list_in : Reader Expr → Reader Exprs
list_in r ts = give listed (optional not_close (some_in r) ts)

-- and the `)`
abbrev pub inside_in : Reader Expr → Reader (Exprs × Unit {0})
inside_in r ts = and_then (list_in r ts) (λ es. fixed false CloseParen)

-- and the `(` before them, which opens a level
abbrev pub in_brackets : ℕ → Reader (Unit {0} × (Exprs × Unit {0}))
in_brackets left = opening (stands false OpenParen) (λ t. tt) (lower left (λ n. inside_in (expression_at n)))

-- TOKENS

comma_same : (x : Terminal) → is_comma_terminal x ≡ is_fixed Comma x
comma_same terminal.Comma = refl
comma_same x = refl

close_same : (x : Terminal) → is_close_terminal x ≡ is_fixed CloseParen x
close_same terminal.CloseParen = refl
close_same x = refl

open_same : (x : Terminal) → is_open_terminal x ≡ is_fixed OpenParen x
open_same terminal.OpenParen = refl
open_same x = refl

first_comma : (ts : List Token) → first_is (is_comma false) ts ≡ next_is false Comma (head ts)
first_comma [] = refl
first_comma (t ∷ ts) = comma_same (at_side false t)

first_close : (ts : List Token) → not (first_is (is_close false) ts) ≡ not_close (head ts)
first_close [] = refl
first_close (t ∷ ts) = ap not (close_same (at_side false t))

-- one token, and what is read behind it
module _ {A B : Type 0} (is : Token → Bool) (x : Fixed) (same : (t : Token) → is t ≡ stands false x t) (f : Token → List Token → Read A) (g : List Token → Read B) (of : B → A) where
  behind_by : (t : Token) (ts : List Token) (b c : Bool) → b ≡ c → f t ts ≡ give of (g ts)
      → elim b as (λ _. Read Token) [ true ↦ Got t ts | false ↦ Bad (t ∷ ts) ] >>= f
      ≡ give of (elim c as (λ _. Read (Unit {0})) [ true ↦ Got tt ts | false ↦ Bad (t ∷ ts) ] >>= (λ u rest. g rest))
  behind_by t ts true true is goes = goes
  behind_by t ts true false is goes = absurd (cc)
  behind_by t ts false true is goes = absurd (cc)
  behind_by t ts false false is goes = refl

  behind_token : ((t : Token) (ts : List Token) → f t ts ≡ give of (g ts)) → (ts : List Token) → expect is ts >>= f ≡ give of (fixed false x ts >>= (λ u rest. g rest))
  behind_token goes [] = refl
  behind_token goes (t ∷ ts) = behind_by t ts (is t) (stands false x t) (same t) (goes t ts)

choice : {A : Type 0} (b c : Bool) (x y z : Read A) → b ≡ c → x ≡ z → elim b as (λ _. Read A) [ true ↦ x | false ↦ y ] ≡ elim c as (λ _. Read A) [ true ↦ z | false ↦ y ]
choice true true x y z is same = same
choice true false x y z is same = absurd (cc)
choice false true x y z is same = absurd (cc)
choice false false x y z is same = refl

-- LISTS

-- r: what is read one level deeper, and its expressions
module _ (b : Below) where
  abbrev r : Reader Expr
  r ts = b.operand (top false) ts

  argument_same : (ts : List Token) → argument_in b ts ≡ comma_in r ts
  argument_same ts = behind_token (is_comma false) Comma (λ t. comma_same (at_side false t)) (λ t rest. r rest) (λ rest. with_first (tt {0}) (r rest)) (λ x. x.1) (λ t rest. sym (second_with (tt {0}) (r rest))) ts

  cons_same : (e : Expr) (o o' : Read (List Expr)) → o ≡ o' → o >>= (λ es rest. Got (e ∷ es) rest) ≡ give (λ (x : Expr × List Expr). x.0 ∷ x.1) (with_first e o')
  cons_same e o o' is = ap (λ o. o >>= (λ es rest. Got (e ∷ es) rest)) is ∙ by o'
    where
      by : (o : Read (List Expr)) → o >>= (λ es rest. Got (e ∷ es) rest) ≡ give (λ (x : Expr × List Expr). x.0 ∷ x.1) (with_first e o)
      by (Got es rest) = refl
      by (Bad rest) = refl
      by (Deep rest) = refl

  turn_same : (o : Read Expr) (f g : List Token → Read (List Expr)) → ((rest : List Token) → f rest ≡ g rest)
      → o >>= (λ e rest. f rest >>= (λ es rest'. Got (e ∷ es) rest')) ≡ give (λ (x : Expr × List Expr). x.0 ∷ x.1) (and_then o (λ e. g))
  turn_same (Got e rest) f g same = cons_same e (f rest) (g rest) (same rest)
  turn_same (Bad rest) f g same = refl
  turn_same (Deep rest) f g same = refl

  loop_same : (n : ℕ) (ts : List Token) → loop_by (first_is (is_comma false)) (argument_in b) n ts ≡ repeat_by (next_is false Comma) (comma_in r) n ts
  loop_same zero ts = refl
  loop_same (suc n) ts =
      choice (first_is (is_comma false) ts) (next_is false Comma (head ts)) _ _ _ (first_comma ts)
      (turn_same (argument_in b ts) (loop_by (first_is (is_comma false)) (argument_in b) n) (repeat_by (next_is false Comma) (comma_in r) n) (loop_same n)
      ∙ ap (λ o. give (λ (x : Expr × List Expr). x.0 ∷ x.1) (and_then o (λ e. repeat_by (next_is false Comma) (comma_in r) n))) (argument_same ts))

  more_same : (ts : List Token) → loop (first_is (is_comma false)) (argument_in b) ts ≡ more_in r ts
  unfolding loop repeat
  more_same ts = loop_same (suc (length ts)) ts

  some_same : (o : Read Expr) → o >>= (λ e rest. loop (first_is (is_comma false)) (argument_in b) rest >>= (λ es rest'. Got (also e (exprs es)) rest'))
      ≡ give listed (give Some (give (λ (x : Expr × List Expr). x.0 ∷ x.1) (and_then o (λ e. more_in r))))
  some_same (Got e rest) = ap (λ o. o >>= (λ es rest'. Got (also e (exprs es)) rest')) (more_same rest) ∙ by (more_in r rest)
    where
      by : (o : Read (List Expr)) → o >>= (λ es rest. Got (also e (exprs es)) rest) ≡ give listed (give Some (give (λ (x : Expr × List Expr). x.0 ∷ x.1) (with_first e o)))
      by (Got es rest) = refl
      by (Bad rest) = refl
      by (Deep rest) = refl
  some_same (Bad rest) = refl
  some_same (Deep rest) = refl

  list_by : (ts : List Token) (x : Read Exprs) (y : Read (Option (List Expr))) → x ≡ give listed y → (c d : Bool) → not c ≡ d
      → elim c as (λ _. Read Exprs) [ true ↦ Got none ts | false ↦ x ] ≡ give listed (elim d as (λ _. Read (Option (List Expr))) [ true ↦ y | false ↦ Got None ts ])
  list_by ts x y same true true is = absurd (cc)
  list_by ts x y same true false is = refl
  list_by ts x y same false true is = same
  list_by ts x y same false false is = absurd (cc)

  list_same : (ts : List Token) → arguments_in b ts ≡ list_in r ts
  list_same ts = list_by ts _ (give Some (some_in r ts)) (some_same (r ts)) (first_is (is_close false) ts) (not_close (head ts)) (first_close ts)

  -- and the `)`
  inside_same : (ts : List Token) → arguments_in b ts >>= (λ es rest. expect (is_close false) rest >>= (λ _ rest'. Got es rest')) ≡ give (λ (x : Exprs × Unit {0}). x.0) (inside_in r ts)
  inside_same ts = ap (λ o. o >>= (λ es rest. expect (is_close false) rest >>= (λ _ rest'. Got es rest'))) (list_same ts) ∙ by (list_in r ts)
    where
      closed_by : (es : Exprs) (o : Read (Unit {0})) → o >>= (λ u rest. Got es rest) ≡ give (λ (x : Exprs × Unit {0}). x.0) (with_first es o)
      closed_by es (Got u rest) = refl
      closed_by es (Bad rest) = refl
      closed_by es (Deep rest) = refl

      given : (o : Read Exprs) → give (λ (es : Exprs). es) o ≡ o
      given (Got es rest) = refl
      given (Bad rest) = refl
      given (Deep rest) = refl

      by : (o : Read Exprs) → o >>= (λ es rest. expect (is_close false) rest >>= (λ _ rest'. Got es rest')) ≡ give (λ (x : Exprs × Unit {0}). x.0) (and_then o (λ es. fixed false CloseParen))
      by (Got es rest) =
          behind_token (is_close false) CloseParen (λ t. close_same (at_side false t)) (λ t rest'. Got es rest') (λ rest'. Got es rest') (λ e. e) (λ t rest'. refl) rest
          ∙ given (fixed false CloseParen rest >>= (λ u rest'. Got es rest')) ∙ closed_by es (fixed false CloseParen rest)
      by (Bad rest) = refl
      by (Deep rest) = refl

abbrev first_list : Unit {0} × (Exprs × Unit {0}) → Exprs
first_list x = x.1.0

-- in brackets, one level deeper
deeper_same : (left : ℕ) (t : Token) (ts : List Token)
    → deeper (below false always left) (t ∷ ts) ts (λ b. arguments_in b ts >>= (λ es rest. expect (is_close false) rest >>= (λ _ rest'. Got es rest')))
    ≡ give first_list (deeper_by (lower left (λ n. inside_in (expression_at n))) (t ∷ ts) (tt {0}) ts)
unfolding below
deeper_same zero t ts = refl
deeper_same (suc n) t ts = inside_same (record { operand = operand_in false (below false always n); chain = chain_in false (below false always n); step = step_in false (below false always n) }) ts ∙ by (inside_in (expression_at n) ts)
  where
    by : (o : Read (Exprs × Unit {0})) → give (λ (x : Exprs × Unit {0}). x.0) o ≡ give first_list (with_first (tt {0}) o)
    by (Got x rest) = refl
    by (Bad rest) = refl
    by (Deep rest) = refl

bracket_by : (left : ℕ) (t : Token) (ts : List Token) (b c : Bool) → b ≡ c
    → elim b as (λ _. Read Token) [ true ↦ Got t ts | false ↦ Bad (t ∷ ts) ]
    >>= (λ t rest. deeper (below false always left) (t ∷ rest) rest (λ b. arguments_in b rest >>= (λ es rest. expect (is_close false) rest >>= (λ _ rest'. Got es rest'))))
    ≡ give first_list (elim c as (λ _. Read (Unit {0})) [ true ↦ Got tt ts | false ↦ Bad (t ∷ ts) ] >>= deeper_by (lower left (λ n. inside_in (expression_at n))) (t ∷ ts))
bracket_by left t ts true true is = deeper_same left t ts
bracket_by left t ts true false is = absurd (cc)
bracket_by left t ts false true is = absurd (cc)
bracket_by left t ts false false is = refl

pub arguments_same : (left : ℕ) (ts : List Token) → arguments_at left ts ≡ give first_list (in_brackets left ts)
arguments_same left [] = refl
arguments_same left (t ∷ ts) = bracket_by left t ts (is_open false t) (stands false OpenParen t) (open_same (at_side false t))
