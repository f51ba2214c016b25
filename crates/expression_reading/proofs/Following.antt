-- What a token behind an expression is to it: an operator's token is its own, and what does not go on with one tier does not with a lower.
use Rattle.std.proofs.Common.{◌≡◌, ℕ, ◌<◌, ◌≤◌, ◌==◌, suc, Bool, true, false, List, [], ◌∷◌, refl, sym, ◌∙◌, ap, subst, arith}
use Rattle.std.specs.Prelude.{Some, None}
use Rattle.std.proofs.lemmas.Bool.{eq-eqb, ne_eqb}
use Rattle.java_lex.specs.declared.spelling.Terminal.{Terminal}
use Rattle.java_lex.specs.declared.token.Token.{Token}
use Rattle.java_tree.specs.declared.expressions.Sign.{Sign}
use Rattle.java_tree.specs.declared.expressions.Sign.TheVariants as sign
use Rattle.java_tree.specs.Phrases.{letter}
use Rattle.java_tree.specs.Expressions.{tier_of, terminal_of_sign}
use Rattle.reading_core.specs.Read.{is_open, is_open_terminal}
use Rattle.reading_core.proofs.Runs.{when_true, when_false}
use Rattle.reading_core.proofs.Tokens.{at_letter}
use Rattle.expression_reading.specs.declared.operators.Link.TheVariants.{Ends}
use Rattle.expression_reading.specs.Operators.{sign_of, link_by, link_at, link_of}
use Rattle.expression_reading.specs.Reading.{is_dot_terminal}
use Rattle.expression_reading.specs.Free.{IsFree, NotCalled}

-- OPERATORS

-- an operator's token is its own
pub sign_again : (s : Sign) → sign_of (terminal_of_sign s) ≡ Some s
sign_again sign.Mul = refl
sign_again sign.Add = refl
sign_again sign.Sub = refl
sign_again sign.Lt = refl
sign_again sign.Le = refl
sign_again sign.Gt = refl
sign_again sign.Ge = refl
sign_again sign.Eq = refl
sign_again sign.Ne = refl
sign_again sign.And = refl
sign_again sign.Or = refl
sign_again sign.Implies = refl
sign_again sign.Iff = refl

pub sign_no_dot : (s : Sign) → is_dot_terminal (terminal_of_sign s) ≡ false
sign_no_dot sign.Mul = refl
sign_no_dot sign.Add = refl
sign_no_dot sign.Sub = refl
sign_no_dot sign.Lt = refl
sign_no_dot sign.Le = refl
sign_no_dot sign.Gt = refl
sign_no_dot sign.Ge = refl
sign_no_dot sign.Eq = refl
sign_no_dot sign.Ne = refl
sign_no_dot sign.And = refl
sign_no_dot sign.Or = refl
sign_no_dot sign.Implies = refl
sign_no_dot sign.Iff = refl

pub sign_no_open : (s : Sign) → is_open_terminal (terminal_of_sign s) ≡ false
sign_no_open sign.Mul = refl
sign_no_open sign.Add = refl
sign_no_open sign.Sub = refl
sign_no_open sign.Lt = refl
sign_no_open sign.Le = refl
sign_no_open sign.Gt = refl
sign_no_open sign.Ge = refl
sign_no_open sign.Eq = refl
sign_no_open sign.Ne = refl
sign_no_open sign.And = refl
sign_no_open sign.Or = refl
sign_no_open sign.Implies = refl
sign_no_open sign.Iff = refl

pub link_signed : (side : Bool) (n : ℕ) (t : Token) (s : Sign) → letter t ≡ (side, terminal_of_sign s) → link_of side n t ≡ link_at n (Some s)
link_signed side n t s is = ap (λ x. link_at n (sign_of x)) (at_letter side t (terminal_of_sign s) is) ∙ ap (link_at n) (sign_again s)

pub link_own : (side : Bool) (n : ℕ) (t : Token) (s : Sign) → letter t ≡ (side, terminal_of_sign s) → tier_of s ≡ suc (suc n) → link_of side n t ≡ link_by s
link_own side n t s is tier = link_signed side n t s is ∙ when_true (tier_of s == suc (suc n)) _ _ (eq-eqb (tier_of s) (suc (suc n)) tier)

pub link_other : (side : Bool) (n : ℕ) (t : Token) (s : Sign) → letter t ≡ (side, terminal_of_sign s) → (tier_of s ≡ suc (suc n) → ⊥) → link_of side n t ≡ Ends
link_other side n t s is not = link_signed side n t s is ∙ when_false (tier_of s == suc (suc n)) _ _ (ne_eqb (tier_of s) (suc (suc n)) not)

-- WHAT FOLLOWS

pub uncalled : (side : Bool) (t : Token) → is_open side t ≡ false → NotCalled side t
uncalled true t not = tt {0}
uncalled false t not = not

pub free_less : (side : Bool) (m n : ℕ) → m ≤ n → (ts : List Token) → IsFree side n ts → IsFree side m ts
free_less side m n low [] free = tt {0}
free_less side m n low (t ∷ ts) free = (λ i less. free.0 i (omega arith), free.1, free.2)

-- a token that is neither an operator nor a `.` or `(`
pub free_letter : (side : Bool) (n : ℕ) (t : Token) (ts : List Token) (x : Terminal) → letter t ≡ (side, x) → sign_of x ≡ None → is_dot_terminal x ≡ false → is_open_terminal x ≡ false → IsFree side n (t ∷ ts)
free_letter side n t ts x is no_sign no_dot no_open =
    let at = at_letter side t x is in
    (λ m less. ap (λ y. link_at m (sign_of y)) at ∙ ap (link_at m) no_sign, ap is_dot_terminal at ∙ no_dot, uncalled side t (ap is_open_terminal at ∙ no_open))

-- an operator of a higher tier
pub free_sign : (side : Bool) (n : ℕ) (t : Token) (ts : List Token) (s : Sign) → letter t ≡ (side, terminal_of_sign s) → suc n < tier_of s → IsFree side n (t ∷ ts)
free_sign side n t ts s is high =
    let at = at_letter side t (terminal_of_sign s) is in
    (λ m less. link_other side m t s is (λ same. omega arith), ap is_dot_terminal at ∙ sign_no_dot s, uncalled side t (ap is_open_terminal at ∙ sign_no_open s))

-- the tokens are this one and others
pub free_first : (side : Bool) (n : ℕ) (t : Token) (ts us : List Token) → us ≡ t ∷ ts → IsFree side n (t ∷ ts) → IsFree side n us
free_first side n t ts us is free = subst (λ (vs : List Token). IsFree side n vs) (sym is) free
