-- A phrase is one by its own tokens: behind them others may be left, and its levels may be opened by another limit.
use Rattle.std.proofs.Common.{◌≡◌, ℕ, Bool, true, false, List, [], ◌∷◌, ◌++◌, refl, sym, ◌∙◌, ap, subst, append_assoc}
use Rattle.java_lex.specs.declared.spelling.Terminal.{Terminal}
use Rattle.java_lex.specs.declared.spelling.Terminal.TheVariants as terminal
use Rattle.java_lex.specs.declared.token.Token.{Token}
use Rattle.java_lex.specs.Terminals.{terminal_of}
use Rattle.java_tree.specs.declared.expressions.Sign.{Sign}
use Rattle.java_tree.specs.declared.expressions.Sign.TheVariants as sign
use Rattle.java_tree.specs.declared.names.Ident.{Ident}
use Rattle.java_tree.specs.Trees.{Expr, num, flag, null, this, outcome, make, named, call, read, call_on, paren, negation, minus, bin, old, quant, quant_in, has, size, Exprs, none, also}
use Rattle.java_tree.specs.Phrases.{Phrase, Limit, letter, ◌▸◌, nothing, where_, token, opens, closed}
use Rattle.java_tree.specs.Expressions.{phrase, arguments, more_arguments, more_fields, fields_of, bracketed, chained, is_steps, is_chain, left_tier, right_tier, whole, unary, post, terminal_of_sign, quantifier}
use Rattle.java_reading.proofs.Law.{Plain, plain_append}

-- THE END OF THE TEXT

abbrev pub is_end : Terminal → Bool
is_end terminal.End = true
is_end x = false

-- a token of another letter is not the end of the text
pub no_end : (side : Bool) (x : Terminal) (t : Token) → is_end x ≡ false → letter t ≡ (side, x) → terminal_of t ≡ terminal.End → ⊥
no_end side x t not is end = let so : true ≡ false = ap is_end (sym end ∙ ap (λ l. l.1) is) ∙ not in cc

sign_goes_on : (s : Sign) → is_end (terminal_of_sign s) ≡ false
sign_goes_on sign.Mul = refl
sign_goes_on sign.Add = refl
sign_goes_on sign.Sub = refl
sign_goes_on sign.Lt = refl
sign_goes_on sign.Le = refl
sign_goes_on sign.Gt = refl
sign_goes_on sign.Ge = refl
sign_goes_on sign.Eq = refl
sign_goes_on sign.Ne = refl
sign_goes_on sign.And = refl
sign_goes_on sign.Or = refl
sign_goes_on sign.Implies = refl
sign_goes_on sign.Iff = refl

quantifier_goes_on : (all : Bool) → is_end (quantifier all) ≡ false
quantifier_goes_on true = refl
quantifier_goes_on false = refl

-- The tokens of a phrase: none of them is the end of the text, and with others behind them they are the same phrase
-- wherever the limit lets open what these have opened.
pub record Framed (May : Limit) (p : Limit → Phrase) (l : ℕ) (ts : List Token) (k : ℕ) (rest : List Token) : Type 1 where
  pub front : List Token
  pub parts : ts ≡ front ++ rest
  pub plain : Plain front
  pub same : (May' : Limit) (c : List Token) → ((j : ℕ) (us : List Token) → May j (us ++ rest) → May' j (us ++ c)) → p May' l (front ++ c) k c

pub record Frames (May : Limit) (p : Limit → Phrase) : Type 1 where
  pub frame : (l : ℕ) (ts : List Token) (k : ℕ) (rest : List Token) → p May l ts k rest → Framed May p l ts k rest

module _ {May : Limit} where
  pub tok : {P : Token → Type 0} → ((t : Token) → P t → terminal_of t ≡ terminal.End → ⊥) → Frames May (λ M. token P)
  tok plain = record {
    frame = λ l ts k rest (t, is, parts, level). record { front = t ∷ []; parts = parts; plain = (plain t is, tt {0}); same = λ May' c wider. (t, is, refl, level) };
  }

  pub still : Frames May (λ M. nothing)
  still = record { frame = λ l ts k rest (level, parts). record { front = []; parts = sym parts; plain = tt {0}; same = λ May' c wider. (level, refl) } }

  pub opened : Frames May (λ M. opens M)
  opened = record {
    frame = λ l ts k rest (up, may, is). record {
      front = [];
      parts = sym is;
      plain = tt {0};
      same = λ May' c wider. (up, wider k [] (subst (λ (us : List Token). May k us) (sym is) may), refl);
    };
  }

  pub thens : {p q : Limit → Phrase} → Frames May p → Frames May q → Frames May (λ M. p M ▸ q M)
  thens {p} {q} f g = record {
    frame = λ l ts k rest (m, mid, x, y).
        let a = f.frame l ts m mid x in
        let b = g.frame m mid k rest y in
        record {
          front = a.front ++ b.front;
          parts = a.parts ∙ ap (λ us. a.front ++ us) b.parts ∙ sym (append_assoc a.front b.front rest);
          plain = plain_append a.front b.front a.plain b.plain;
          same = λ May' c wider. subst (λ (us : List Token). (p May' ▸ q May') l us k c) (sym (append_assoc a.front b.front c))
              (m, b.front ++ c, a.same May' (b.front ++ c) (λ j us may. before May' b.front mid rest c j us b.parts wider may), b.same May' c wider);
        };
  }
    where
      before : (May' : Limit) (back mid rest c : List Token) (j : ℕ) (us : List Token) → mid ≡ back ++ rest → ((j : ℕ) (us : List Token) → May j (us ++ rest) → May' j (us ++ c)) → May j (us ++ mid) → May' j (us ++ (back ++ c))
      before May' back mid rest c j us parts wider may =
          subst (λ (vs : List Token). May' j vs) (append_assoc us back c)
          (wider j (us ++ back) (subst (λ (vs : List Token). May j vs) (ap (λ vs. us ++ vs) parts ∙ sym (append_assoc us back rest)) may))

  pub closes : {p : Limit → Phrase} → Frames May p → Frames May (λ M. closed (p M))
  closes f = record {
    frame = λ l ts k rest (m, x, is).
        let a = f.frame l ts m rest x in
        record { front = a.front; parts = a.parts; plain = a.plain; same = λ May' c wider. (m, a.same May' c wider, is) };
  }

  pub wheres : {P : Type 0} {p : Limit → Phrase} → Frames May p → Frames May (λ M. where_ P (p M))
  wheres f = record {
    frame = λ l ts k rest (is, x).
        let a = f.frame l ts k rest x in
        record { front = a.front; parts = a.parts; plain = a.plain; same = λ May' c wider. (is, a.same May' c wider) };
  }

  pub chains : {p : Limit → Phrase} (goes_on : Bool) → Frames May p → Frames May (λ M. chained goes_on (p M))
  chains true f = f
  chains false f = closes f

  -- one token, by its letter, and by this and more
  pub its : (side : Bool) (x : Terminal) → is_end x ≡ false → Frames May (λ M. token (λ t. letter t ≡ (side, x)))
  its side x not = tok (λ t is. no_end side x t not is)

  pub its_with : (side : Bool) (x : Terminal) {P : Token → Type 0} → is_end x ≡ false → Frames May (λ M. token (λ t. (letter t ≡ (side, x)) × P t))
  its_with side x not = tok (λ t is. no_end side x t not is.0)

  pub brackets : {p : Limit → Phrase} (side : Bool) → Frames May p → Frames May (λ M. bracketed M side (p M))
  brackets side f = closes (thens (its side terminal.OpenParen refl) (thens opened (thens f (its side terminal.CloseParen refl))))

  fields_frames : (fs : List Ident) → Frames May (λ M. more_fields fs)
  fields_frames [] = still
  fields_frames (f ∷ fs) = thens (its true terminal.Plus refl) (thens (its_with true terminal.Name refl) (fields_frames fs))

  some_fields_frames : (fs : List Ident) → Frames May (λ M. fields_of fs)
  some_fields_frames [] = wheres still
  some_fields_frames (f ∷ fs) = thens (its_with true terminal.Name refl) (fields_frames fs)

  mutual
    pub phrase_frames : (e : Expr) (side : Bool) (tier : ℕ) → Frames May (λ M. phrase M e side tier)
    phrase_frames (negation at e) side tier = wheres (closes (thens (its_with side terminal.Not refl) (thens opened (closes (phrase_frames e side unary)))))
    phrase_frames (minus at e) side tier = wheres (closes (thens (its_with side terminal.Minus refl) (thens opened (closes (phrase_frames e side unary)))))
    phrase_frames (num at n) side tier = wheres (tok (λ t is. no_end side terminal.Number t refl is.0))
    phrase_frames (flag at true) side tier = wheres (its_with side terminal.True refl)
    phrase_frames (flag at false) side tier = wheres (its_with side terminal.False refl)
    phrase_frames (null at) side tier = wheres (its_with side terminal.Null refl)
    phrase_frames (this at) side tier = its_with side terminal.This refl
    phrase_frames (named at i) side tier = wheres (its_with side terminal.Name refl)
    phrase_frames (call at i args) side tier = wheres (wheres (thens (its_with side terminal.Name refl) (arguments_frames args)))
    phrase_frames (make at i) side tier = wheres (thens (its_with side terminal.New refl) (thens (its_with side terminal.Name refl) (brackets side still)))
    phrase_frames (outcome at) side tier = wheres (its_with side terminal.ResultValue refl)
    phrase_frames (old at e) side tier = wheres (thens (its_with side terminal.Old refl) (brackets side (closes (phrase_frames e side (whole true)))))
    phrase_frames (paren at e) side tier = closes (thens (its_with side terminal.OpenParen refl) (thens opened (thens (closes (phrase_frames e side (whole side))) (its side terminal.CloseParen refl))))
    phrase_frames (read at e i) side tier = wheres (thens (chains (is_steps e) (phrase_frames e side post)) (thens (its side terminal.Dot refl) (thens opened (its_with side terminal.Name refl))))
    phrase_frames (call_on at e i args) side tier =
        wheres (wheres (thens (chains (is_steps e) (phrase_frames e side post)) (thens (its side terminal.Dot refl) (thens opened (thens (its_with side terminal.Name refl) (arguments_frames args))))))
    phrase_frames (quant at all kind i body) side tier =
        wheres (wheres (closes
        (thens (its_with side terminal.OpenParen refl) (thens opened (thens (its side (quantifier all) (quantifier_goes_on all)) (thens (its_with side terminal.Name refl) (thens (its_with side terminal.Name refl)
        (thens (its side terminal.Semicolon refl) (thens (closes (phrase_frames body side (whole true))) (its side terminal.CloseParen refl))))))))))
    phrase_frames (quant_in at all kind i range body) side tier =
        wheres (wheres (closes
        (thens (its_with side terminal.OpenParen refl) (thens opened (thens (its side (quantifier all) (quantifier_goes_on all)) (thens (its_with side terminal.Name refl) (thens (its_with side terminal.Name refl)
        (thens (its side terminal.Semicolon refl) (thens (closes (phrase_frames range side (whole true))) (thens (its side terminal.Semicolon refl)
        (thens (closes (phrase_frames body side (whole true))) (its side terminal.CloseParen refl))))))))))))
    phrase_frames (has at e kind is b) side tier =
        wheres (wheres (thens (its_with side terminal.Reach refl) (thens (brackets side (thens (closes (phrase_frames e side (whole true))) (thens (its side terminal.Comma refl) (thens (its_with side terminal.Name refl) (thens (its side terminal.Comma refl) (some_fields_frames is))))))
        (thens (its side terminal.Dot refl) (thens (its_with side terminal.Name refl) (brackets side (closes (phrase_frames b side (whole true)))))))))
    phrase_frames (size at e kind is) side tier =
        wheres (wheres (thens (its_with side terminal.Reach refl) (thens (brackets side (thens (closes (phrase_frames e side (whole true))) (thens (its side terminal.Comma refl) (thens (its_with side terminal.Name refl) (thens (its side terminal.Comma refl) (some_fields_frames is)))))) (thens (its side terminal.Dot refl) (thens (its_with side terminal.Name refl) (brackets side still))))))
    phrase_frames (bin at s e b) side tier =
        wheres (wheres (thens (chains (is_chain s e) (phrase_frames e side (left_tier s))) (thens (its side (terminal_of_sign s) (sign_goes_on s)) (thens opened (closes (phrase_frames b side (right_tier s)))))))

    pub arguments_frames : (es : Exprs) → Frames May (λ M. arguments M es)
    arguments_frames none = brackets false still
    arguments_frames (also e es) = brackets false (thens (closes (phrase_frames e false (whole false))) (more_frames es))

    pub more_frames : (es : Exprs) → Frames May (λ M. more_arguments M es)
    more_frames none = still
    more_frames (also e es) = thens (its false terminal.Comma refl) (thens (closes (phrase_frames e false (whole false))) (more_frames es))
