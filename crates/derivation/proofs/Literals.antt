-- The texts of literals: their bytes, and that no two have one text.
use Rattle.std.proofs.Common.{◌≡◌, ◌≢◌, ℕ, ◌/◌, ◌%◌, ◌^◌, ◌<◌, true, false, Option, Some, None, IfNone, List, ◌∷◌, length, get_or, drop, sym, ap, inl, inr, ◌∙◌, arith}
use Rattle.std.specs.Fmt.{decimal}
use Rattle.std.specs.Int.{IsInRange}
use Rattle.std.proofs.lemmas.Bool.{cases_Bool, cond-true, cond-false, eqb-true, eqb-false}
use Rattle.std.proofs.lemmas.Fmt.{decimal_nonempty, decimal_injective}
use Rattle.cnf_core.specs.Literal.{is_negative}
use Rattle.derivation.specs.Texts.{literal_text}
use Rattle.derivation.proofs.Numbers.{decimal_digits}

pub none_gives : {T P Q : Type 0} (o : Option T) → IfNone o P → (P → Q) → IfNone o Q
none_gives None p f = f p
none_gives (Some x) p f = tt

pub negative_text : (lit : ℕ) → is_negative lit ≡ true → literal_text lit ≡ 45 ∷ decimal (lit / 2)
negative_text lit is = cond-true (is_negative lit) _ _ is

pub positive_text : (lit : ℕ) → is_negative lit ≡ false → literal_text lit ≡ decimal (lit / 2)
positive_text lit is = cond-false (is_negative lit) _ _ is

-- a number does not begin with a minus
no_minus : (n : ℕ) (rest : List ℕ) → n < 2 ^ 64 → 45 ∷ rest ≡ decimal n → ⊥
no_minus n rest small is =
    let first : IsInRange 48 57 (get_or (decimal n) 0 0) = decimal_digits n 0 small (decimal_nonempty n small) in
    let minus : get_or (decimal n) 0 0 ≡ 45 = ap (λ bs. get_or bs 0 0) (sym is) in
    absurd (omega arith)

-- what a minus begins is a negative literal
pub record IsNegative (lit : ℕ) (rest : List ℕ) : Type 0 where
  pub sign : is_negative lit ≡ true
  pub digits : rest ≡ decimal (lit / 2)

pub minus_first : (lit : ℕ) (rest : List ℕ) → lit / 2 < 2 ^ 64 → 45 ∷ rest ≡ literal_text lit → IsNegative lit rest
minus_first lit rest small is =
    elim (cases_Bool (is_negative lit)) [
      | inl negative ↦ record { sign = negative; digits = ap (drop 1) (is ∙ negative_text lit negative) }
      | inr positive ↦ absurd (no_minus (lit / 2) rest small (is ∙ positive_text lit positive))
    ]

-- no text of a literal is empty
pub some_text : (lit : ℕ) → lit / 2 < 2 ^ 64 → 0 < length (literal_text lit)
some_text lit small =
    elim (cases_Bool (is_negative lit)) [
      | inl negative ↦ omega (arith, ap length (negative_text lit negative))
      | inr positive ↦ omega (arith, ap length (positive_text lit positive), decimal_nonempty (lit / 2) small)
    ]

-- no two literals have one text
pub literal_injective : (x y : ℕ) → x / 2 < 2 ^ 64 → y / 2 < 2 ^ 64 → literal_text x ≡ literal_text y → x ≡ y
literal_injective x y small_x small_y same =
    elim (cases_Bool (is_negative x)) [
      | inl negative ↦
          let h : IsNegative y (decimal (x / 2)) = minus_first y (decimal (x / 2)) small_y (sym (negative_text x negative) ∙ same) in
          let half : x / 2 ≡ y / 2 = decimal_injective (x / 2) (y / 2) small_x small_y h.digits in
          omega (arith, eqb-true (x % 2) 1 negative, eqb-true (y % 2) 1 h.sign)
      | inr positive ↦
          elim (cases_Bool (is_negative y)) [
            | inl negative_y ↦ absurd (no_minus (x / 2) (decimal (y / 2)) small_x (sym (sym (positive_text x positive) ∙ same ∙ negative_text y negative_y)))
            | inr positive_y ↦
                let half : x / 2 ≡ y / 2 = decimal_injective (x / 2) (y / 2) small_x small_y (sym (positive_text x positive) ∙ same ∙ positive_text y positive_y) in
                let odd_x : x % 2 ≢ 1 = eqb-false (x % 2) 1 positive in
                let odd_y : y % 2 ≢ 1 = eqb-false (y % 2) 1 positive_y in
                omega arith
          ]
    ]
