-- With what an expression begins.
use Rattle.std.proofs.Common.{◌≡◌, ℕ, Bool, true, false, List, refl, sym, ap, ◌∙◌, subst}
use Rattle.java_lex.specs.declared.spelling.Terminal.{Terminal}
use Rattle.java_lex.specs.declared.spelling.Terminal.TheVariants as terminal
use Rattle.java_lex.specs.declared.token.Token.{Token}
use Rattle.java_tree.specs.Trees.{Expr, num, flag, null, this, outcome, make, named, call, read, call_on, paren, negation, minus, bin, old, quant, quant_in, has, size, Exprs, none, also}
use Rattle.java_tree.specs.Phrases.{Phrase, Limit, ◌▸◌, letter, one_at, closed}
use Rattle.java_tree.specs.Expressions.{phrase, chained, is_steps, is_chain, left_tier, post, expression, predicate, arguments}
use Rattle.java_reading.specs.Readers.{head}
use Rattle.java_reading.specs.Tokens.{at_head}
use Rattle.java_reading.specs.Expressions.{starts}
use Rattle.java_reading.proofs.TokenLaws.{on_side, one_head, one_at_head, name_head}

-- a phrase begins with a token that is such
abbrev pub StartsBy : (Terminal → Type 0) → Bool → Phrase → Type 0
StartsBy P side p = (l : ℕ) (us : List Token) (k : ℕ) (r : List Token) → p l us k r → P (at_head side (head us))

pub starts_closed : (P : Terminal → Type 0) (side : Bool) (p : Phrase) → StartsBy P side p → StartsBy P side (closed p)
starts_closed P side p f l us k r (m, h, up) = f l us m r h

pub starts_then : (P : Terminal → Type 0) (side : Bool) (p q : Phrase) → StartsBy P side p → StartsBy P side (p ▸ q)
starts_then P side p q f l us k r (m, mid, h, h') = f l us m mid h

starts_chained : (P : Terminal → Type 0) (side b : Bool) (p : Phrase) → StartsBy P side p → StartsBy P side (chained b p)
starts_chained P side true p f = f
starts_chained P side false p f = starts_closed P side p f

module _ (May : Limit) where
  abbrev Begun : Terminal → Type 0
  Begun x = starts x ≡ true

  pub starts_one_at : (P : Terminal → Type 0) (side : Bool) (x : Terminal) (at : ℕ) → P x → StartsBy P side (one_at (side, x) at)
  starts_one_at P side x at is l us k r h = subst P (sym (one_at_head side x at l us k r h)) is

  pub phrase_starts : (e : Expr) (side : Bool) (tier : ℕ) → StartsBy Begun side (phrase May e side tier)
  phrase_starts (negation at a) side tier l us k r (is, (m, (m', mid, h, h'), up)) = starts_one_at Begun side terminal.Not at refl l us m' mid h
  phrase_starts (minus at a) side tier l us k r (is, (m, (m', mid, h, h'), up)) = starts_one_at Begun side terminal.Minus at refl l us m' mid h
  phrase_starts (num at n) side tier l us k r (is, (t, its, parts, up)) = subst Begun (sym (ap (λ v. at_head side (head v)) parts ∙ on_side side (letter t) terminal.Number its.0)) refl
  phrase_starts (flag at true) side tier l us k r (is, h) = starts_one_at Begun side terminal.True at refl l us k r h
  phrase_starts (flag at false) side tier l us k r (is, h) = starts_one_at Begun side terminal.False at refl l us k r h
  phrase_starts (null at) side tier l us k r (is, h) = starts_one_at Begun side terminal.Null at refl l us k r h
  phrase_starts (this at) side tier l us k r h = starts_one_at Begun side terminal.This at refl l us k r h
  phrase_starts (named at i) side tier l us k r (is, h) = subst Begun (sym (name_head side i l us k r h)) refl
  phrase_starts (call at i args) side tier l us k r (is, (is', (m, mid, h, h'))) = subst Begun (sym (name_head side i l us m mid h)) refl
  phrase_starts (make at i) side tier l us k r (is, (m, mid, h, h')) = starts_one_at Begun side terminal.New at refl l us m mid h
  phrase_starts (outcome at) side tier l us k r (is, h) = starts_one_at Begun side terminal.ResultValue at refl l us k r h
  phrase_starts (old at a) side tier l us k r (is, (m, mid, h, h')) = starts_one_at Begun side terminal.Old at refl l us m mid h
  phrase_starts (paren at a) side tier l us k r (m, (m', mid, h, h'), up) = starts_one_at Begun side terminal.OpenParen at refl l us m' mid h
  phrase_starts (read at a i) side tier l us k r (is, (m, mid, h, h')) = starts_chained Begun side (is_steps a) _ (phrase_starts a side post) l us m mid h
  phrase_starts (call_on at a i args) side tier l us k r (is, (is', (m, mid, h, h'))) = starts_chained Begun side (is_steps a) _ (phrase_starts a side post) l us m mid h
  phrase_starts (quant at all kind i body) side tier l us k r (is, (is', (m, (m', mid, h, h'), up))) = starts_one_at Begun side terminal.OpenParen at refl l us m' mid h
  phrase_starts (quant_in at all kind i range body) side tier l us k r (is, (is', (m, (m', mid, h, h'), up))) = starts_one_at Begun side terminal.OpenParen at refl l us m' mid h
  phrase_starts (has at a kind is b) side tier l us k r (e, (e', (m, mid, h, h'))) = starts_one_at Begun side terminal.Reach at refl l us m mid h
  phrase_starts (size at a kind is) side tier l us k r (e, (e', (m, mid, h, h'))) = starts_one_at Begun side terminal.Reach at refl l us m mid h
  phrase_starts (bin at s a b) side tier l us k r (is, (is', (m, mid, h, h'))) = starts_chained Begun side (is_chain s a) _ (phrase_starts a side (left_tier s)) l us m mid h

  pub expression_starts : (e : Expr) → StartsBy Begun false (expression May e)
  expression_starts e = starts_closed Begun false _ (phrase_starts e false _)

  pub predicate_starts : (e : Expr) → StartsBy Begun true (predicate May e)
  predicate_starts e = starts_closed Begun true _ (phrase_starts e true _)

  pub arguments_start : (es : Exprs) → StartsBy (λ x. x ≡ terminal.OpenParen) false (arguments May es)
  arguments_start none l us k r (m, (m', mid, h, h'), up) = one_head false terminal.OpenParen l us m' mid h
  arguments_start (also e es) l us k r (m, (m', mid, h, h'), up) = one_head false terminal.OpenParen l us m' mid h
