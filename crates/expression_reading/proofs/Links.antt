-- What the operator behind an operand tells.
use Rattle.std.proofs.Common.{◌≡◌, ℕ, ◌-◌, ◌==◌, suc, Bool, true, false, refl, sym, ◌∙◌, ap, arith}
use Rattle.std.specs.Prelude.{Option, Some, None}
use Rattle.std.proofs.lemmas.Bool.{eqb-true}
use Rattle.java_lex.specs.declared.spelling.Terminal.{Terminal}
use Rattle.java_lex.specs.declared.spelling.Terminal.TheVariants as terminal
use Rattle.java_lex.specs.declared.token.Token.{Token}
use Rattle.java_tree.specs.declared.expressions.Sign.{Sign}
use Rattle.java_tree.specs.declared.expressions.Sign.TheVariants as sign
use Rattle.java_tree.specs.Trees.{Expr, bin}
use Rattle.java_tree.specs.Phrases.{letter}
use Rattle.java_tree.specs.Expressions.{tier_of, terminal_of_sign, left_tier, right_tier, is_chain}
use Rattle.reading_core.specs.Read.{at_side}
use Rattle.reading_core.proofs.Tokens.{is_reserved, letter_at}
use Rattle.expression_reading.specs.declared.operators.Link.{Link}
use Rattle.expression_reading.specs.declared.operators.Link.TheVariants.{Ends, Left, Right}
use Rattle.expression_reading.specs.Operators.{sign_of, link_by, link_at, link_of}

-- an expression is a chain of this tier
abbrev pub is_of : ℕ → Expr → Bool
is_of tier (bin at s a b) = tier_of s == tier
is_of tier e = false

abbrev is_implies : Sign → Bool
is_implies sign.Implies = true
is_implies s = false

-- What is told by an operator of a chain behind an operand of the number n.
pub record LeftLink (side : Bool) (n : ℕ) (t : Token) (s : Sign) : Type 0 where
  pub tier : tier_of s ≡ suc (suc n)
  pub letter_is : letter t ≡ (side, terminal_of_sign s)
  pub left : left_tier s ≡ suc (suc n)
  pub right : right_tier s ≡ suc n
  pub chain : (e : Expr) → is_chain s e ≡ is_of (suc (suc n)) e
  pub other : n ≡ 6 → ⊥

terminal_of_sign_of : (x : Terminal) (s : Sign) → sign_of x ≡ Some s → x ≡ terminal_of_sign s
terminal_of_sign_of terminal.Times s is = let same : sign.Mul ≡ s = cc in ap terminal_of_sign same
terminal_of_sign_of terminal.Plus s is = let same : sign.Add ≡ s = cc in ap terminal_of_sign same
terminal_of_sign_of terminal.Minus s is = let same : sign.Sub ≡ s = cc in ap terminal_of_sign same
terminal_of_sign_of terminal.Less s is = let same : sign.Lt ≡ s = cc in ap terminal_of_sign same
terminal_of_sign_of terminal.AtMost s is = let same : sign.Le ≡ s = cc in ap terminal_of_sign same
terminal_of_sign_of terminal.Greater s is = let same : sign.Gt ≡ s = cc in ap terminal_of_sign same
terminal_of_sign_of terminal.AtLeast s is = let same : sign.Ge ≡ s = cc in ap terminal_of_sign same
terminal_of_sign_of terminal.Equal s is = let same : sign.Eq ≡ s = cc in ap terminal_of_sign same
terminal_of_sign_of terminal.NotEqual s is = let same : sign.Ne ≡ s = cc in ap terminal_of_sign same
terminal_of_sign_of terminal.And s is = let same : sign.And ≡ s = cc in ap terminal_of_sign same
terminal_of_sign_of terminal.Or s is = let same : sign.Or ≡ s = cc in ap terminal_of_sign same
terminal_of_sign_of terminal.Implies s is = let same : sign.Implies ≡ s = cc in ap terminal_of_sign same
terminal_of_sign_of terminal.Iff s is = let same : sign.Iff ≡ s = cc in ap terminal_of_sign same
terminal_of_sign_of x s is = absurd (cc)

link_by_left : (r s : Sign) → link_by r ≡ Left s → (r ≡ s) × (is_implies r ≡ false)
link_by_left sign.Mul s is = (cc, refl)
link_by_left sign.Add s is = (cc, refl)
link_by_left sign.Sub s is = (cc, refl)
link_by_left sign.Lt s is = (cc, refl)
link_by_left sign.Le s is = (cc, refl)
link_by_left sign.Gt s is = (cc, refl)
link_by_left sign.Ge s is = (cc, refl)
link_by_left sign.Eq s is = (cc, refl)
link_by_left sign.Ne s is = (cc, refl)
link_by_left sign.And s is = (cc, refl)
link_by_left sign.Or s is = (cc, refl)
link_by_left sign.Iff s is = (cc, refl)
link_by_left sign.Implies s is = absurd (cc)

link_by_right : (r : Sign) → link_by r ≡ Right → r ≡ sign.Implies
link_by_right sign.Implies is = refl
link_by_right r is = absurd (cc)

left_same : (s : Sign) → is_implies s ≡ false → left_tier s ≡ tier_of s
left_same sign.Implies is = absurd (cc)
left_same s is = refl

right_less : (s : Sign) → is_implies s ≡ false → right_tier s ≡ tier_of s - 1
right_less sign.Implies is = absurd (cc)
right_less s is = refl

chain_same : (s : Sign) (e : Expr) → is_implies s ≡ false → is_chain s e ≡ is_of (tier_of s) e
chain_same sign.Implies e is = absurd (cc)
chain_same s (bin at r a b) is = refl
chain_same s e is = refl

tier_not : (s : Sign) → is_implies s ≡ false → tier_of s ≡ 8 → ⊥
tier_not sign.Implies not is = cc
tier_not s not is = omega arith

link_found : (n : ℕ) (x : Option Sign) (k : Link) → link_at n x ≡ k → (k ≡ Ends → ⊥) → (r : Sign) × (x ≡ Some r) × (tier_of r ≡ suc (suc n)) × (link_by r ≡ k)
link_found n None k is some = absurd (some (sym is))
link_found n (Some r) k is some = by (tier_of r == suc (suc n)) refl is
  where
    by : (b : Bool) → (tier_of r == suc (suc n)) ≡ b → elim b as (λ _. Link) [ true ↦ link_by r | false ↦ Ends ] ≡ k → (s : Sign) × (Some r ≡ Some s) × (tier_of s ≡ suc (suc n)) × (link_by s ≡ k)
    by true same so = (r, refl, eqb-true (tier_of r) (suc (suc n)) same, so)
    by false same so = absurd (some (sym so))

-- an operator of a chain
pub left_link : (side : Bool) (n : ℕ) (t : Token) (s : Sign) → link_of side n t ≡ Left s → LeftLink side n t s
left_link side n t s is =
    let (r, found, tier, by) = link_found n (sign_of (at_side side t)) (Left s) is (λ no. cc) in
    let (same, plain) = link_by_left r s by in
    let plain_s : is_implies s ≡ false = ap is_implies (sym same) ∙ plain in
    let tier_s : tier_of s ≡ suc (suc n) = ap tier_of (sym same) ∙ tier in
    let sign_s : sign_of (at_side side t) ≡ Some s = found ∙ ap Some same in
    record {
      tier = tier_s;
      letter_is = letter_at side t (terminal_of_sign s) (terminal_of_sign_of (at_side side t) s sign_s) (free s);
      left = left_same s plain_s ∙ tier_s;
      right = right_less s plain_s ∙ ap (λ m. m - 1) tier_s ∙ less n;
      chain = λ e. chain_same s e plain_s ∙ ap (λ m. is_of m e) tier_s;
      other = λ six. tier_not s plain_s (tier_s ∙ ap (λ m. suc (suc m)) six);
    }
  where
    less : (n : ℕ) → suc (suc n) - 1 ≡ suc n
    less n = omega arith

    free : (s : Sign) → is_reserved (terminal_of_sign s) ≡ false
    free sign.Mul = refl
    free sign.Add = refl
    free sign.Sub = refl
    free sign.Lt = refl
    free sign.Le = refl
    free sign.Gt = refl
    free sign.Ge = refl
    free sign.Eq = refl
    free sign.Ne = refl
    free sign.And = refl
    free sign.Or = refl
    free sign.Implies = refl
    free sign.Iff = refl

-- `==>`
pub right_link : (side : Bool) (n : ℕ) (t : Token) → link_of side n t ≡ Right → (n ≡ 6) × (letter t ≡ (side, terminal.Implies))
right_link side n t is =
    let (r, found, tier, by) = link_found n (sign_of (at_side side t)) Right is (λ no. cc) in
    let same = link_by_right r by in
    let tier_8 : 8 ≡ suc (suc n) = sym (ap tier_of same) ∙ tier in
    (omega (arith, tier_8), letter_at side t terminal.Implies (terminal_of_sign_of (at_side side t) sign.Implies (found ∙ ap Some same)) refl)

-- WHAT AN OPERATOR IS, BUT `==>`

pub left_of : (s : Sign) → (tier_of s ≡ 8 → ⊥) → link_by s ≡ Left s
left_of sign.Mul other = refl
left_of sign.Add other = refl
left_of sign.Sub other = refl
left_of sign.Lt other = refl
left_of sign.Le other = refl
left_of sign.Gt other = refl
left_of sign.Ge other = refl
left_of sign.Eq other = refl
left_of sign.Ne other = refl
left_of sign.And other = refl
left_of sign.Or other = refl
left_of sign.Iff other = refl
left_of sign.Implies other = absurd (other refl)

not_implies : (s : Sign) → (tier_of s ≡ 8 → ⊥) → is_implies s ≡ false
not_implies sign.Mul other = refl
not_implies sign.Add other = refl
not_implies sign.Sub other = refl
not_implies sign.Lt other = refl
not_implies sign.Le other = refl
not_implies sign.Gt other = refl
not_implies sign.Ge other = refl
not_implies sign.Eq other = refl
not_implies sign.Ne other = refl
not_implies sign.And other = refl
not_implies sign.Or other = refl
not_implies sign.Iff other = refl
not_implies sign.Implies other = absurd (other refl)

pub left_tier_of : (s : Sign) → (tier_of s ≡ 8 → ⊥) → left_tier s ≡ tier_of s
left_tier_of s other = left_same s (not_implies s other)

pub right_tier_of : (s : Sign) → (tier_of s ≡ 8 → ⊥) → right_tier s ≡ tier_of s - 1
right_tier_of s other = right_less s (not_implies s other)

pub is_chain_of : (s : Sign) (e : Expr) → (tier_of s ≡ 8 → ⊥) → is_chain s e ≡ is_of (tier_of s) e
is_chain_of s e other = chain_same s e (not_implies s other)

-- only `==>` has its tier
pub implies_of : (s : Sign) → tier_of s ≡ 8 → s ≡ sign.Implies
implies_of sign.Implies is = refl
implies_of s is = absurd (omega arith)

-- each operator has a tier from 2
pub tier_from_2 : (s : Sign) → (n : ℕ) × (tier_of s ≡ suc (suc n))
tier_from_2 sign.Mul = (0, refl)
tier_from_2 sign.Add = (1, refl)
tier_from_2 sign.Sub = (1, refl)
tier_from_2 sign.Lt = (2, refl)
tier_from_2 sign.Le = (2, refl)
tier_from_2 sign.Gt = (2, refl)
tier_from_2 sign.Ge = (2, refl)
tier_from_2 sign.Eq = (3, refl)
tier_from_2 sign.Ne = (3, refl)
tier_from_2 sign.And = (4, refl)
tier_from_2 sign.Or = (5, refl)
tier_from_2 sign.Implies = (6, refl)
tier_from_2 sign.Iff = (7, refl)
