-- Each token opens one level at most: what is read of a list of tokens opens no level beyond their number, and it
-- leaves fewer tokens.
use Rattle.std.proofs.Common.{ℕ, ◌+◌, ◌<◌, ◌≤◌, suc, Bool, true, false, List, [], ◌∷◌, length, ap, arith}
use Rattle.java_lex.specs.declared.token.Token.{Token}
use Rattle.java_tree.specs.declared.names.Ident.{Ident}
use Rattle.java_tree.specs.Trees.{Expr, num, flag, null, this, outcome, make, named, call, read, call_on, paren, negation, minus, bin, old, quant, quant_in, has, size, Exprs, none, also}
use Rattle.java_tree.specs.Phrases.{Phrase, Limit, ◌▸◌, nothing, where_, token, opens, closed}
use Rattle.java_tree.specs.Expressions.{phrase, arguments, more_arguments, more_fields, fields_of, bracketed, chained, is_steps, is_chain, left_tier, right_tier, whole, expression, predicate, unary, post}

-- Each phrase of the one kind is one of the other, where levels and tokens left come up to the bound at most, with
-- so much to spare before it and behind it.
pub record Keeps (bound before behind : ℕ) (p q : Phrase) : Type 0 where
  pub keep : (l : ℕ) (ts : List Token) (k : ℕ) (rest : List Token) → l + length ts + before ≤ bound → p l ts k rest → q l ts k rest × (k + length rest + behind ≤ bound) × (l ≤ k)

module _ {bound : ℕ} where
  pub tok : {a : ℕ} {P : Token → Type 0} → Keeps bound a (suc a) (token P) (token P)
  tok = record { keep = λ l ts k rest low (t, is, parts, level). ((t, is, parts, level), omega (arith, ap length parts, level), omega (arith, level)) }

  pub still : {a : ℕ} → Keeps bound a a nothing nothing
  still = record { keep = λ l ts k rest low (level, parts). ((level, parts), omega (arith, ap length parts, level), omega (arith, level)) }

  pub thens : {a b c : ℕ} {p p' q q' : Phrase} → Keeps bound a b p p' → Keeps bound b c q q' → Keeps bound a c (p ▸ q) (p' ▸ q')
  thens f g = record {
    keep = λ l ts k rest low (m, mid, x, y).
        let (x', low', up) = f.keep l ts m mid low x in
        let (y', low'', up') = g.keep m mid k rest low' y in
        ((m, mid, x', y'), low'', omega (arith, up, up'));
  }

  pub closes : {a b : ℕ} {p p' : Phrase} → Keeps bound a b p p' → Keeps bound a b (closed p) (closed p')
  closes f = record {
    keep = λ l ts k rest low (m, x, is).
        let (x', low', up) = f.keep l ts m rest low x in
        ((m, x', is), omega (arith, low', up, is), omega (arith, is));
  }

  pub wheres : {a b : ℕ} {P : Type 0} {p p' : Phrase} → Keeps bound a b p p' → Keeps bound a b (where_ P p) (where_ P p')
  wheres f = record {
    keep = λ l ts k rest low (is, x).
        let (x', low', up) = f.keep l ts k rest low x in
        ((is, x'), low', up);
  }

  pub chains : {a b : ℕ} {p p' : Phrase} (goes_on : Bool) → Keeps bound a b p p' → Keeps bound a b (chained goes_on p) (chained goes_on p')
  chains true f = f
  chains false f = closes f

  pub weak : {a b c : ℕ} {p q : Phrase} → c ≤ b → Keeps bound a b p q → Keeps bound a c p q
  weak less f = record {
    keep = λ l ts k rest low x.
        let (x', low', up) = f.keep l ts k rest low x in
        (x', omega (arith, low', less), up);
  }

-- tokens, one behind the other
abbrev pub more_fields_keeps : {bound : ℕ} (fs : List Ident) (a : ℕ) → Keeps bound a a (more_fields fs) (more_fields fs)
more_fields_keeps [] a = still
more_fields_keeps (f ∷ fs) a = weak (omega arith) (thens tok (thens tok (more_fields_keeps fs (suc (suc a)))))

pub fields_keeps : {bound : ℕ} (fs : List Ident) (a : ℕ) → Keeps bound a (suc a) (fields_of fs) (fields_of fs)
fields_keeps [] a = record { keep = λ l ts k rest low x. absurd x.0 }
fields_keeps (f ∷ fs) a = thens tok (more_fields_keeps fs (suc a))

module _ {bound : ℕ} {May May' : Limit} (wider : (k : ℕ) (ts : List Token) → k + length ts ≤ bound → May k ts → May' k ts) where
  pub open_keeps : {a : ℕ} → Keeps bound (suc a) a (opens May) (opens May')
  open_keeps = record {
    keep = λ l ts k rest low (up, may, is).
        ((up, wider k ts (omega (arith, up)) may, is), omega (arith, up, ap length is), omega (arith, up));
  }

  pub brackets : {a b : ℕ} {p p' : Phrase} (side : Bool) → Keeps bound a b p p' → Keeps bound a (suc b) (bracketed May side p) (bracketed May' side p')
  brackets side f = closes (thens tok (thens open_keeps (thens f tok)))

  mutual
    pub phrase_keeps : (e : Expr) (side : Bool) (tier a : ℕ) → Keeps bound a (suc a) (phrase May e side tier) (phrase May' e side tier)
    phrase_keeps (negation at e) side tier a = wheres (closes (thens tok (thens open_keeps (closes (phrase_keeps e side unary a)))))
    phrase_keeps (minus at e) side tier a = wheres (closes (thens tok (thens open_keeps (closes (phrase_keeps e side unary a)))))
    phrase_keeps (num at n) side tier a = wheres tok
    phrase_keeps (flag at true) side tier a = wheres tok
    phrase_keeps (flag at false) side tier a = wheres tok
    phrase_keeps (null at) side tier a = wheres tok
    phrase_keeps (this at) side tier a = tok
    phrase_keeps (named at i) side tier a = wheres tok
    phrase_keeps (call at i args) side tier a = wheres (wheres (weak (omega arith) (thens tok (arguments_keeps args (suc a)))))
    phrase_keeps (make at i) side tier a = wheres (weak (omega arith) (thens tok (thens tok (brackets side still))))
    phrase_keeps (outcome at) side tier a = wheres tok
    phrase_keeps (old at e) side tier a = wheres (weak (omega arith) (thens tok (brackets side (closes (phrase_keeps e side (whole true) (suc a))))))
    phrase_keeps (paren at e) side tier a = weak (omega arith) (closes (thens tok (thens open_keeps (thens (closes (phrase_keeps e side (whole side) a)) tok))))
    phrase_keeps (read at e i) side tier a = wheres (weak (omega arith) (thens (chains (is_steps e) (phrase_keeps e side post a)) (thens tok (thens open_keeps tok))))
    phrase_keeps (call_on at e i args) side tier a =
        wheres (wheres (weak (omega arith) (thens (chains (is_steps e) (phrase_keeps e side post a)) (thens tok (thens open_keeps (thens tok (arguments_keeps args (suc (suc a)))))))))
    phrase_keeps (quant at all kind i body) side tier a =
        wheres (wheres (weak (omega arith) (closes
        (thens tok (thens open_keeps (thens tok (thens tok (thens tok (thens tok (thens (closes (phrase_keeps body side (whole true) _)) tok))))))))))
    phrase_keeps (quant_in at all kind i range body) side tier a =
        wheres (wheres (weak (omega arith) (closes
        (thens tok (thens open_keeps (thens tok (thens tok (thens tok (thens tok (thens (closes (phrase_keeps range side (whole true) _))
        (thens tok (thens (closes (phrase_keeps body side (whole true) _)) tok))))))))))))
    phrase_keeps (has at e kind is b) side tier a =
        wheres (wheres (weak (omega arith)
        (thens tok (thens (brackets side (thens (closes (phrase_keeps e side (whole true) (suc a))) (thens tok (thens tok (thens tok (fields_keeps is _))))))
        (thens tok (thens tok (brackets side (closes (phrase_keeps b side (whole true) _)))))))))
    phrase_keeps (size at e kind is) side tier a =
        wheres (wheres (weak (omega arith)
        (thens tok (thens (brackets side (thens (closes (phrase_keeps e side (whole true) (suc a))) (thens tok (thens tok (thens tok (fields_keeps is _))))))
        (thens tok (thens tok (brackets side still)))))))
    phrase_keeps (bin at s e b) side tier a =
        wheres (wheres (weak (omega arith) (thens (chains (is_chain s e) (phrase_keeps e side (left_tier s) a)) (thens tok (thens open_keeps (closes (phrase_keeps b side (right_tier s) (suc a))))))))

    pub arguments_keeps : (es : Exprs) (a : ℕ) → Keeps bound a (suc a) (arguments May es) (arguments May' es)
    arguments_keeps none a = brackets false still
    arguments_keeps (also e es) a = weak (omega arith) (brackets false (thens (closes (phrase_keeps e false (whole false) a)) (more_arguments_keeps es (suc a))))

    pub more_arguments_keeps : (es : Exprs) (a : ℕ) → Keeps bound a a (more_arguments May es) (more_arguments May' es)
    more_arguments_keeps none a = still
    more_arguments_keeps (also e es) a = weak (omega arith) (thens tok (thens (closes (phrase_keeps e false (whole false) (suc a))) (more_arguments_keeps es (suc (suc a)))))

  pub expression_keeps : (e : Expr) (a : ℕ) → Keeps bound a (suc a) (expression May e) (expression May' e)
  expression_keeps e a = closes (phrase_keeps e false (whole false) a)

  pub predicate_keeps : (e : Expr) (a : ℕ) → Keeps bound a (suc a) (predicate May e) (predicate May' e)
  predicate_keeps e a = closes (phrase_keeps e true (whole true) a)

-- what keeps leaves fewer tokens, where none is to spare before it
pub shorter : {p q : Phrase} (l : ℕ) (ts : List Token) (k : ℕ) (rest : List Token) → Keeps (l + length ts) 0 1 p q → p l ts k rest → length rest < length ts
shorter l ts k rest keeps x =
    let (x', low, up) = keeps.keep l ts k rest (omega arith) x in
    omega (arith, low, up)
