-- The law of arguments, at each level.
use Rattle.std.proofs.Common.{◌≡◌, ◌⊎◌, ℕ, ◌+◌, zero, suc, true, false, not, List, [], ◌∷◌, Option, Some, None, refl, sym, ◌∙◌, ap, subst, inl, inr, arith}
use Rattle.java_lex.specs.declared.spelling.Terminal.{Terminal}
use Rattle.java_lex.specs.declared.spelling.Terminal.TheVariants as terminal
use Rattle.java_lex.specs.declared.token.Token.{Token}
use Rattle.java_tree.specs.Trees.{Expr, Exprs, none, also}
use Rattle.java_tree.specs.Phrases.{Limit, letter, ◌▸◌, nothing, where_, one}
use Rattle.java_tree.specs.Expressions.{expression, arguments, more_arguments}
use Rattle.expression_reading.specs.Reading.{exprs}
use Rattle.java_reading.specs.declared.marks.Fixed.TheVariants.{OpenParen, CloseParen, Comma}
use Rattle.java_reading.specs.Readers.{Reader, head, and_then, lower, optional}
use Rattle.java_reading.specs.Tokens.{is_fixed, stands, fixed, at_head, next_is}
use Rattle.java_reading.specs.Expressions.{starts, extends}
use Rattle.java_reading.specs.MemberReading.{not_close}
use Rattle.java_reading.proofs.Law.{Family, Extends, never, any, Sample, Law, Exact}
use Rattle.java_reading.proofs.Seq.{seq, seq_law}
use Rattle.java_reading.proofs.Parts.{give_law, give_sample, same_law}
use Rattle.java_reading.proofs.Levels.{Below, full, room, opened, opening_law, opened_sample}
use Rattle.java_reading.proofs.Many.{each, many_law, optional_of, optional_law, May_be}
use Rattle.java_reading.proofs.TokenLaws.{fixed_decided, one_head}
use Rattle.java_reading.proofs.Shapes.{then_it, it_then, then_fixed, fixed_then, then_fixed_sample}
use Rattle.java_reading.proofs.Starts.{expression_starts}
use Rattle.java_reading.proofs.DeclarationLaws.{EF, EX, expression_sample, no_extension, next_at}
use Rattle.java_reading.proofs.Tails.{ArgsF}
use Rattle.text_reading.specs.Readers.{expression_at, arguments_at}
use Rattle.text_reading.proofs.ArgumentReaders.{comma_in, more_in, some_in, listed, list_in, inside_in, in_brackets, arguments_same}
use Rattle.text_reading.proofs.ExpressionLaw.{expression_exact}

-- THE GRAMMAR'S LISTS

abbrev list_of : Exprs → List Expr
list_of none = []
list_of (also e es) = e ∷ list_of es

exprs_list : (es : Exprs) → exprs (list_of es) ≡ es
exprs_list none = refl
exprs_list (also e es) = ap (also e) (exprs_list es)

abbrev CommaF : Family Expr
CommaF May e = one (false, terminal.Comma) ▸ expression May e

abbrev MoreF : Family (List Expr)
MoreF May es = more_arguments May (exprs es)

abbrev SomeF : Family (List Expr)
SomeF May [] = where_ ⊥ nothing
SomeF May (e ∷ es) = expression May e ▸ more_arguments May (exprs es)

abbrev InsideF : Family Exprs
InsideF May none = nothing
InsideF May (also e es) = expression May e ▸ more_arguments May es

not_end : terminal.CloseParen ≡ terminal.End → ⊥
not_end e = cc

-- and the `)`
abbrev InF : Family (Exprs × Unit {0})
InF = then_it false CloseParen refl not_end InsideF

-- what makes a list of them longer
abbrev MoreX : Extends (List Expr)
MoreX es h = (next_is false Comma h ≡ true) ⊎ (extends false h ≡ true)

abbrev InsideX : Extends Exprs
InsideX es h = (not_close h ≡ true) ⊎ ((next_is false Comma h ≡ true) ⊎ (extends false h ≡ true))

more_to : (May : Limit) (es : List Expr) (m : ℕ) (us : List Token) (k : ℕ) (r : List Token) → each CommaF May es m us k r → MoreF May es m us k r
more_to May [] m us k r h = h
more_to May (e ∷ es) m us k r (m1, us1, (m2, us2, h, h'), rest) = (m2, us2, h, (m1, us1, h', more_to May es m1 us1 k r rest))

more_from : (May : Limit) (es : List Expr) (m : ℕ) (us : List Token) (k : ℕ) (r : List Token) → MoreF May es m us k r → each CommaF May es m us k r
more_from May [] m us k r h = h
more_from May (e ∷ es) m us k r (m2, us2, h, (m1, us1, h', rest)) = (m1, us1, (m2, us2, h, h'), more_from May es m1 us1 k r rest)

comma_first : (May : Limit) (e : Expr) (m : ℕ) (us : List Token) (k : ℕ) (r : List Token) → CommaF May e m us k r → next_is false Comma (head us) ≡ true
comma_first May e m us k r (m1, us1, h, h') = ap (is_fixed Comma) (one_head false terminal.Comma m us m1 us1 h)

no_comma : (h : Option Token) → extends false h ≡ true → next_is false Comma h ≡ true → ⊥
no_comma h ext is = no_extension Comma refl h (next_at false Comma h is) ext

-- an expression does not begin with `)`
some_first : (May : Limit) (es : List Expr) (m : ℕ) (us : List Token) (k : ℕ) (r : List Token) → SomeF May es m us k r → not_close (head us) ≡ true
some_first May [] m us k r h = absurd h.0
some_first May (e ∷ es) m us k r (m1, us1, h, h') = by (at_head false (head us)) (expression_starts May e m us m1 us1 h)
  where
    by : (x : Terminal) → starts x ≡ true → not (is_fixed CloseParen x) ≡ true
    by terminal.CloseParen is = absurd (cc)
    by x is = refl

-- before `)` a list of them ends
ends_close : (es : Exprs) (h : Option Token) → InsideX es h → at_head false h ≡ terminal.CloseParen → ⊥
ends_close es h (inl more) at = let no : false ≡ true = sym (ap (λ x. not (is_fixed CloseParen x)) at) ∙ more in cc
ends_close es h (inr (inl comma)) at = let no : terminal.Comma ≡ terminal.CloseParen = sym (next_at false Comma h comma) ∙ at in cc
ends_close es h (inr (inr ext)) at = no_extension CloseParen refl h at ext

-- THE LAW OF A LIST, BY THAT OF ITS EXPRESSIONS

module _ (r : Reader Expr) (l : ℕ) (law : Exact Expr EF EX any l r) where
  comma_law : Exact Expr CommaF EX any l (comma_in r)
  comma_law ts =
      give_law (Unit {0} × Expr) Expr (it_then false Comma refl (λ e. cc) EF) (λ x. EX x.1) (λ x. any x.1) CommaF EX any (λ x. x.1) (λ May x m us k rest h. h) (λ x h ext. ext) (λ x h s. tt) l ts (and_then (fixed false Comma ts) (λ u. r))
      (λ May e us k rest same h. inl ((tt, e), refl, h)) (fixed_then false Comma refl (λ e. cc) Expr EF EX any expression_sample l r law ts)

  more_law : Exact (List Expr) MoreF MoreX any l (more_in r)
  more_law ts =
      same_law (List Expr) (each CommaF) MoreF MoreX any more_to more_from l ts (more_in r ts)
      (many_law Expr CommaF EX any (next_is false Comma) (λ h. extends false h ≡ true) comma_first (λ e h ext. ext) no_comma refl l (comma_in r) comma_law ts)

  some_law : Exact (List Expr) SomeF MoreX any l (some_in r)
  some_law ts =
      give_law (Expr × List Expr) (List Expr) (seq EF (λ e. MoreF)) (λ x. MoreX x.1) (λ x h. Unit {0}) SomeF MoreX any (λ x. x.0 ∷ x.1) (λ May x m us k rest h. h) (λ x h e. e) (λ x h s. tt) l ts
      (and_then (r ts) (λ e. more_in r)) (λ May es us k rest same h. inl (back May es us k rest h))
      (seq_law Expr (List Expr) EF EX any (λ e. MoreF) (λ e. MoreX) (λ e. any) (λ e m. record { tokens = []; tree = []; is = λ May c frees. (refl, refl) }) (λ e May es m us k rest h ext. goes_on May es m us k rest h ext) l ts (r ts) (law ts)
      (λ e. more_in r) (λ e mid got. more_law mid))
    where
      back : (May : Limit) (es : List Expr) (us : List Token) (k : ℕ) (rest : List Token) → SomeF May es l us k rest → (x : Expr × List Expr) × (es ≡ x.0 ∷ x.1) × seq EF (λ e. MoreF) May x l us k rest
      back May [] us k rest h = absurd h.0
      back May (e ∷ es) us k rest h = ((e, es), refl, h)

      goes_on : (May : Limit) (es : List Expr) (m : ℕ) (us : List Token) (k : ℕ) (rest : List Token) → MoreF May es m us k rest → extends false (head us) ≡ true → MoreX es (head rest)
      goes_on May [] m us k rest (up, same) ext = inr (subst (λ (vs : List Token). extends false (head vs) ≡ true) (sym same) ext)
      goes_on May (e ∷ es) m us k rest (m1, us1, h, h') ext = absurd (no_comma (head us) ext (ap (is_fixed Comma) (one_head false terminal.Comma m us m1 us1 h)))

  list_law : Exact Exprs InsideF InsideX any l (list_in r)
  list_law ts =
      give_law (Option (List Expr)) Exprs (optional_of SomeF) (May_be (List Expr) SomeF MoreX any not_close some_first l) any InsideF InsideX any listed to grows (λ x h s. tt) l ts (optional not_close (some_in r) ts)
      (λ May es us k rest same h. inl (back May es us k rest h)) (optional_law (List Expr) SomeF MoreX any not_close some_first l (some_in r) some_law ts)
    where
      to : (May : Limit) (o : Option (List Expr)) (m : ℕ) (us : List Token) (k : ℕ) (rest : List Token) → optional_of SomeF May o m us k rest → InsideF May (listed o) m us k rest
      to May None m us k rest h = h
      to May (Some []) m us k rest h = absurd h.0
      to May (Some (e ∷ es)) m us k rest h = h

      grows : (o : Option (List Expr)) (h : Option Token) → May_be (List Expr) SomeF MoreX any not_close some_first l o h → InsideX (listed o) h
      grows None h e = inl e
      grows (Some es) h e = inr e

      back : (May : Limit) (es : Exprs) (us : List Token) (k : ℕ) (rest : List Token) → InsideF May es l us k rest → (o : Option (List Expr)) × (es ≡ listed o) × optional_of SomeF May o l us k rest
      back May none us k rest h = (None, refl, h)
      back May (also e es) us k rest h = (Some (e ∷ list_of es), ap (also e) (sym (exprs_list es)), subst (λ (v : Exprs). (expression May e ▸ more_arguments May v) l us k rest) (sym (exprs_list es)) h)

  inside_law : Exact (Exprs × Unit {0}) InF never any l (inside_in r)
  inside_law = then_fixed false CloseParen refl not_end Exprs InsideF InsideX any ends_close l (list_in r) list_law

-- BRACKETS

in_sample : (l : ℕ) → Sample (Exprs × Unit {0}) InF l
in_sample l = then_fixed_sample false CloseParen refl not_end Exprs InsideF l (record { tokens = []; tree = none; is = λ May c frees. (refl, refl) })

abbrev ParenF : Family (Unit {0} × (Exprs × Unit {0}))
ParenF = opened (λ u t. letter t ≡ (false, terminal.OpenParen)) InF

to_arguments : (May : Limit) (es : Exprs) (m : ℕ) (us : List Token) (k : ℕ) (r : List Token) → ParenF May (tt, (es, tt)) m us k r → arguments May es m us k r
to_arguments May none m us k r h = h
to_arguments May (also e es) m us k r h = h

of_arguments : (May : Limit) (es : Exprs) (m : ℕ) (us : List Token) (k : ℕ) (r : List Token) → arguments May es m us k r → ParenF May (tt, (es, tt)) m us k r
of_arguments May none m us k r h = h
of_arguments May (also e es) m us k r h = h

inside_below : (left l : ℕ) → l + left ≡ 64 → Below (Exprs × Unit {0}) InF never any l (lower left (λ n. inside_in (expression_at n)))
inside_below zero l sum = full (omega arith)
inside_below (suc left) l sum = room _ (omega arith) (inside_law (expression_at left) (suc l) (expression_exact false left (suc l) (omega arith)))

-- Arguments are read exactly.
pub arguments_exact : (left l : ℕ) → l + left ≡ 64 → Exact Exprs ArgsF never any l (arguments_at left)
arguments_exact left l sum ts =
    subst (λ o. Law Exprs ArgsF never any l ts o) (sym (arguments_same left ts))
    (give_law (Unit {0} × (Exprs × Unit {0})) Exprs ParenF never any ArgsF never any (λ x. x.1.0) (λ May x m us k r h. to_arguments May x.1.0 m us k r h) (λ x h no. no) (λ x h s. tt) l ts (in_brackets left ts)
    (λ May es us k r same h. inl ((tt, (es, tt)), refl, of_arguments May es l us k r h))
    (opening_law (Unit {0}) (Exprs × Unit {0}) (λ u t. letter t ≡ (false, terminal.OpenParen)) (stands false OpenParen) (λ t. tt) (fixed_decided false OpenParen refl (λ e. cc)) InF never any in_sample l
    (lower left (λ n. inside_in (expression_at n))) (inside_below left l sum) ts))

pub arguments_sample : (l : ℕ) → Sample Exprs ArgsF l
arguments_sample l =
    give_sample (Unit {0} × (Exprs × Unit {0})) Exprs ParenF ArgsF (λ x. x.1.0) l (λ May x us k r h. to_arguments May x.1.0 l us k r h)
    (opened_sample (Unit {0}) (Exprs × Unit {0}) (λ u t. letter t ≡ (false, terminal.OpenParen)) (stands false OpenParen) (λ t. tt) (fixed_decided false OpenParen refl (λ e. cc)) InF never any in_sample l)
