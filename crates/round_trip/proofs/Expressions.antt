-- Expressions, printed and read again.
use Rattle.std.proofs.Common.{◌≡◌, ℕ, ◌≤◌, ◌==◌, Bool, true, false, List, [], ◌∷◌, ◌++◌, map, refl, sym, ◌∙◌, ap, subst, append_assoc, arith, lit≤}
use Rattle.java_lex.specs.declared.token.TokenKind.TheVariants as kind
use Rattle.java_lex.specs.declared.token.Token.{Token}
use Rattle.java_tree.specs.declared.expressions.Sign.{Sign}
use Rattle.java_tree.specs.declared.expressions.Sign.TheVariants.{Add, Sub, Mul, Eq, Ne, Lt, Le, Gt, Ge, And, Or, Implies, Iff}
use Rattle.java_tree.specs.declared.names.Ident.{Ident}
use Rattle.java_tree.specs.Trees.{Expr, num, flag, null, this, outcome, make, named, call, read, call_on, paren, negation, minus, bin, old, quant, quant_in, has, size, Exprs, none, also}
use Rattle.java_tree.specs.Phrases.{Phrase, one}
use Rattle.java_tree.specs.Expressions.{post, unary, whole, tier_of, terminal_of_sign, left_tier, right_tier, place, is_chain, is_steps, chained, quantifier, more_fields, fields_of, bracketed, phrase, arguments, more_arguments, expression, predicate}
use Rattle.java_tree.specs.Reading.{within}
use Rattle.java_tree.specs.Print.{Word, sign_text, quantifier_text, behind_each, fields_written, written, args_written, more_args_written}
use Rattle.java_lex.specs.declared.words.TheConstants.{PLUS, OPEN_PAREN, CLOSE_PAREN}
use Rattle.round_trip.specs.Bare.{bare, bare_all, bare_name}
use Rattle.round_trip.proofs.Redo.{Again, thens, closes, chains, recast, given, nothing_again, opens_again, fixed, placed, name_again, number_again, word_again, two, three, four}
use Rattle.round_trip.proofs.Fixed.{true_word, false_word, null_word, this_word, open_paren, close_paren, comma, dot, semicolon, plus, minus_sign, times_sign, equal, not_equal, less, at_most, greater, at_least, and_sign, or_sign, not_sign, implies_sign, iff_sign, result_value, old_word, forall, exists, reach, has_name, size_name, new_word}

-- WHAT IS THE SAME WITHOUT PLACES

steps_bare : (e : Expr) → is_steps (bare e) ≡ is_steps e
steps_bare (num at n) = refl
steps_bare (flag at b) = refl
steps_bare (null at) = refl
steps_bare (this at) = refl
steps_bare (outcome at) = refl
steps_bare (make at i) = refl
steps_bare (named at i) = refl
steps_bare (call at i args) = refl
steps_bare (read at a i) = refl
steps_bare (call_on at a i args) = refl
steps_bare (paren at a) = refl
steps_bare (negation at a) = refl
steps_bare (minus at a) = refl
steps_bare (bin at s a b) = refl
steps_bare (old at a) = refl
steps_bare (quant at all k i body) = refl
steps_bare (quant_in at all k i range body) = refl
steps_bare (has at a k fields b) = refl
steps_bare (size at a k fields) = refl

steps_same : (a b : Expr) → bare a ≡ bare b → is_steps b ≡ is_steps a
steps_same a b same = sym (steps_bare b) ∙ sym (ap is_steps same) ∙ steps_bare a

-- whether it is a chain of this tier
abbrev in_tier : ℕ → Expr → Bool
in_tier n (bin at r a b) = tier_of r == n
in_tier n a = false

in_tier_bare : (n : ℕ) (e : Expr) → in_tier n (bare e) ≡ in_tier n e
in_tier_bare n (num at m) = refl
in_tier_bare n (flag at b) = refl
in_tier_bare n (null at) = refl
in_tier_bare n (this at) = refl
in_tier_bare n (outcome at) = refl
in_tier_bare n (make at i) = refl
in_tier_bare n (named at i) = refl
in_tier_bare n (call at i args) = refl
in_tier_bare n (read at a i) = refl
in_tier_bare n (call_on at a i args) = refl
in_tier_bare n (paren at a) = refl
in_tier_bare n (negation at a) = refl
in_tier_bare n (minus at a) = refl
in_tier_bare n (bin at s a b) = refl
in_tier_bare n (old at a) = refl
in_tier_bare n (quant at all k i body) = refl
in_tier_bare n (quant_in at all k i range body) = refl
in_tier_bare n (has at a k fields b) = refl
in_tier_bare n (size at a k fields) = refl

in_tier_same : (n : ℕ) (a b : Expr) → bare a ≡ bare b → in_tier n b ≡ in_tier n a
in_tier_same n a b same = sym (in_tier_bare n b) ∙ sym (ap (in_tier n) same) ∙ in_tier_bare n a

-- a chain of the operator's own production
chain_same : (s : Sign) (a b : Expr) → bare a ≡ bare b → is_chain s b ≡ is_chain s a
chain_same Add a b same = in_tier_same 3 a b same
chain_same Sub a b same = in_tier_same 3 a b same
chain_same Mul a b same = in_tier_same 2 a b same
chain_same Eq a b same = in_tier_same 5 a b same
chain_same Ne a b same = in_tier_same 5 a b same
chain_same Lt a b same = in_tier_same 4 a b same
chain_same Le a b same = in_tier_same 4 a b same
chain_same Gt a b same = in_tier_same 4 a b same
chain_same Ge a b same = in_tier_same 4 a b same
chain_same And a b same = in_tier_same 6 a b same
chain_same Or a b same = in_tier_same 7 a b same
chain_same Implies a b same = refl
chain_same Iff a b same = in_tier_same 9 a b same

-- TIERS

unary_low : (side : Bool) → unary ≤ whole side
unary_low true = lit≤ tt
unary_low false = lit≤ tt

left_low : (s : Sign) → left_tier s ≤ tier_of s
left_low Add = lit≤ tt
left_low Sub = lit≤ tt
left_low Mul = lit≤ tt
left_low Eq = lit≤ tt
left_low Ne = lit≤ tt
left_low Lt = lit≤ tt
left_low Le = lit≤ tt
left_low Gt = lit≤ tt
left_low Ge = lit≤ tt
left_low And = lit≤ tt
left_low Or = lit≤ tt
left_low Implies = lit≤ tt
left_low Iff = lit≤ tt

right_low : (s : Sign) → right_tier s ≤ tier_of s
right_low Add = lit≤ tt
right_low Sub = lit≤ tt
right_low Mul = lit≤ tt
right_low Eq = lit≤ tt
right_low Ne = lit≤ tt
right_low Lt = lit≤ tt
right_low Le = lit≤ tt
right_low Gt = lit≤ tt
right_low Ge = lit≤ tt
right_low And = lit≤ tt
right_low Or = lit≤ tt
right_low Implies = lit≤ tt
right_low Iff = lit≤ tt

-- THE PARTS OF EXPRESSIONS

abbrev Nothing : Unit {0} → Type 0
Nothing u = Unit {0}

sign_again : (side : Bool) (s : Sign) → tier_of s ≤ whole side → Again (Unit {0}) ((side, kind.Symbol (sign_text s)) ∷ []) (one (side, terminal_of_sign s)) (λ u. one (side, terminal_of_sign s)) Nothing
sign_again side Add low = fixed (plus side)
sign_again side Sub low = fixed (minus_sign side)
sign_again side Mul low = fixed (times_sign side)
sign_again side Eq low = fixed (equal side)
sign_again side Ne low = fixed (not_equal side)
sign_again side Lt low = fixed (less side)
sign_again side Le low = fixed (at_most side)
sign_again side Gt low = fixed (greater side)
sign_again side Ge low = fixed (at_least side)
sign_again side And low = fixed (and_sign side)
sign_again side Or low = fixed (or_sign side)
sign_again true Implies low = fixed implies_sign
sign_again false Implies low = absurd (omega arith)
sign_again true Iff low = fixed iff_sign
sign_again false Iff low = absurd (omega arith)

quantifier_again : (all : Bool) → Again (Unit {0}) ((true, kind.Slashed (quantifier_text all)) ∷ []) (one (true, quantifier all)) (λ u. one (true, quantifier all)) Nothing
quantifier_again true = fixed forall
quantifier_again false = fixed exists

-- in brackets
pub brackets_again : {A : Type 0} {W : List Word} {p : Phrase} {q : A → Phrase} {S : A → Type 0} (side : Bool) → Again A W p q S
    → Again A ((side, kind.Symbol OPEN_PAREN.now) ∷ (W ++ (side, kind.Symbol CLOSE_PAREN.now) ∷ [])) (bracketed within side p) (λ a. bracketed within side (q a)) S
brackets_again side f =
    recast (closes (thens (fixed (open_paren side)) (thens opens_again (thens f (fixed (close_paren side)))))) (λ x. x.1.1.0) refl (λ x s. s.1.1.0) (λ x s l ts k rest y. y)

chained_as : (p : Phrase) (b c : Bool) (l : ℕ) (ts : List Token) (k : ℕ) (rest : List Token) → b ≡ c → chained b p l ts k rest → chained c p l ts k rest
chained_as p b c l ts k rest is x = subst (λ (d : Bool). chained d p l ts k rest) is x

-- the same fields
abbrev SameFields : List Ident → List Ident → Type 0
SameFields is js = map bare_name js ≡ map bare_name is

more_fields_again : (is : List Ident) → Again (List Ident) (behind_each true PLUS.now is) (more_fields is) more_fields (SameFields is)
more_fields_again [] = recast nothing_again (λ u. []) refl (λ u s. refl) (λ u s l ts k rest y. y)
more_fields_again (i ∷ is) =
    recast (thens (fixed (plus true)) (thens (name_again true i) (more_fields_again is))) (λ x. x.1.0 ∷ x.1.1) refl (λ x s. two (λ a b. a ∷ b) s.1.0 s.1.1) (λ x s l ts k rest y. y)

fields_again : (is : List Ident) → Again (List Ident) (fields_written is) (fields_of is) fields_of (SameFields is)
fields_again [] = given (λ no. absurd no)
fields_again (i ∷ is) = recast (thens (name_again true i) (more_fields_again is)) (λ x. x.0 ∷ x.1) refl (λ x s. two (λ a b. a ∷ b) s.0 s.1) (λ x s l ts k rest y. y)

-- the words of a reach and of what is asked of it, however they are put together
reach_words : (a f b : List Word) (r o c k x d h : Word) → r ∷ ((o ∷ ((a ++ c ∷ k ∷ c ∷ f) ++ x ∷ [])) ++ (d ∷ h ∷ o ∷ (b ++ x ∷ []))) ≡ ((((r ∷ o ∷ a) ++ c ∷ k ∷ c ∷ (f ++ x ∷ [])) ++ d ∷ []) ++ h ∷ []) ++ (o ∷ (b ++ x ∷ []))
reach_words a f b r o c k x d h =
    let behind : List Word = o ∷ (b ++ x ∷ []) in
    let inside : List Word = c ∷ k ∷ c ∷ f in
    let closed_ : List Word = c ∷ k ∷ c ∷ (f ++ x ∷ []) in
    ap (λ (w : List Word). r ∷ o ∷ w)
    (append_assoc (a ++ inside) (x ∷ []) (d ∷ h ∷ behind) ∙ append_assoc a inside (x ∷ d ∷ h ∷ behind)
    ∙ sym (append_assoc ((a ++ closed_) ++ d ∷ []) (h ∷ []) behind ∙ append_assoc (a ++ closed_) (d ∷ []) (h ∷ behind) ∙ append_assoc a closed_ (d ∷ h ∷ behind) ∙ ap (λ (w : List Word). a ++ c ∷ k ∷ c ∷ w) (append_assoc f (x ∷ []) (d ∷ h ∷ behind))))

size_words : (a f : List Word) (r o c k x d h : Word) → r ∷ ((o ∷ ((a ++ c ∷ k ∷ c ∷ f) ++ x ∷ [])) ++ (d ∷ h ∷ o ∷ x ∷ [])) ≡ (((((r ∷ o ∷ a) ++ c ∷ k ∷ c ∷ (f ++ x ∷ [])) ++ d ∷ []) ++ h ∷ []) ++ o ∷ []) ++ x ∷ []
size_words a f r o c k x d h =
    let front : List Word = (((r ∷ o ∷ a) ++ c ∷ k ∷ c ∷ (f ++ x ∷ [])) ++ d ∷ []) ++ h ∷ [] in
    reach_words a f [] r o c k x d h ∙ sym (append_assoc front (o ∷ []) (x ∷ []))

-- EXPRESSIONS

-- the same expression but for its places
abbrev pub Same : Expr → Expr → Type 0
Same a b = bare b ≡ bare a

mutual
  pub expression_again : (e : Expr) (side : Bool) (tier : ℕ) → tier ≤ whole side → Again Expr (written e side) (phrase within e side tier) (λ b. phrase within b side tier) (Same e)
  expression_again (num at n) side tier low = given (λ is. recast (number_again side at n) (λ m. num m n) refl (λ m s. refl) (λ m s l ts k rest y. (is, y)))
  expression_again (flag at true) side tier low = given (λ is. recast (placed (true_word side) at) (λ m. flag m true) refl (λ m s. refl) (λ m s l ts k rest y. (is, y)))
  expression_again (flag at false) side tier low = given (λ is. recast (placed (false_word side) at) (λ m. flag m false) refl (λ m s. refl) (λ m s l ts k rest y. (is, y)))
  expression_again (null at) side tier low = given (λ is. recast (placed (null_word side) at) (λ m. null m) refl (λ m s. refl) (λ m s l ts k rest y. (is, y)))
  expression_again (this at) side tier low = recast (placed (this_word side) at) (λ m. this m) refl (λ m s. refl) (λ m s l ts k rest y. y)
  expression_again (outcome at) true tier low = given (λ is. recast (placed result_value at) (λ m. outcome m) refl (λ m s. refl) (λ m s l ts k rest y. (is, y)))
  expression_again (outcome at) false tier low = given (λ is. absurd (cc))
  expression_again (make at i) false tier low =
      given (λ is. recast (thens (placed new_word at) (thens (name_again false i) (brackets_again false nothing_again))) (λ x. make x.0 x.1.0) refl (λ x s. ap (λ j. make 0 j) s.1.0) (λ x s l ts k rest y. (is, y)))
  expression_again (make at i) true tier low = given (λ is. absurd (cc))
  expression_again (named at i) side tier low = given (λ is. recast (name_again side i) (λ j. named j.at j) refl (λ j s. ap (λ j. named 0 j) s) (λ j s l ts k rest y. (refl, y)))
  expression_again (call at i args) false tier low =
      given (λ is. given (λ here. recast (thens (name_again false i) (arguments_again args)) (λ x. call x.0.at x.0 x.1) refl (λ x s. two (λ j es. call 0 j es) s.0 s.1) (λ x s l ts k rest y. (is, (refl, y)))))
  expression_again (call at i args) true tier low = given (λ is. absurd (cc))
  expression_again (read at a i) side tier low =
      given (λ here. recast (thens (chains (expression_again a side post (omega (arith, unary_low side))) (is_steps a)) (thens (fixed (dot side)) (thens opens_again (name_again side i)))) (λ x. read (place x.0) x.0 x.1.1.1)
      (sym (append_assoc (written a side) _ _)) (λ x s. two (λ b j. read 0 b j) s.0 s.1.1.1)
      (λ x s l ts k rest (m, mid, y, z). (refl, (m, mid, chained_as _ (is_steps a) (is_steps x.0) l ts m mid (sym (steps_same a x.0 (sym s.0))) y, z))))
  expression_again (call_on at a i args) false tier low =
      given (λ is. given (λ here. recast (thens (chains (expression_again a false post (lit≤ tt)) (is_steps a)) (thens (fixed (dot false)) (thens opens_again (thens (name_again false i) (arguments_again args)))))
      (λ x. call_on (place x.0) x.0 x.1.1.1.0 x.1.1.1.1) (sym (append_assoc (written a false) _ _)) (λ x s. three (λ b j es. call_on 0 b j es) s.0 s.1.1.1.0 s.1.1.1.1)
      (λ x s l ts k rest (m, mid, y, z). (is, (refl, (m, mid, chained_as _ (is_steps a) (is_steps x.0) l ts m mid (sym (steps_same a x.0 (sym s.0))) y, z))))))
  expression_again (call_on at a i args) true tier low = given (λ is. absurd (cc))
  expression_again (paren at a) side tier low =
      recast (closes (thens (placed (open_paren side) at) (thens opens_again (thens (closes (expression_again a side (whole side) (omega arith))) (fixed (close_paren side))))))
      (λ x. paren x.0 x.1.1.0) refl (λ x s. ap (λ b. paren 0 b) s.1.1.0) (λ x s l ts k rest y. y)
  expression_again (negation at a) side tier low =
      given (λ is. recast (closes (thens (placed (not_sign side) at) (thens opens_again (closes (expression_again a side unary (unary_low side)))))) (λ x. negation x.0 x.1.1) refl (λ x s. ap (λ b. negation 0 b) s.1.1) (λ x s l ts k rest y. (is, y)))
  expression_again (minus at a) side tier low =
      given (λ is. recast (closes (thens (placed (minus_sign side) at) (thens opens_again (closes (expression_again a side unary (unary_low side)))))) (λ x. minus x.0 x.1.1) refl (λ x s. ap (λ b. minus 0 b) s.1.1) (λ x s l ts k rest y. (is, y)))
  expression_again (bin at s a b) side tier low =
      given (λ is. given (λ here. recast
      (thens (chains (expression_again a side (left_tier s) (omega (arith, left_low s))) (is_chain s a))
      (thens (sign_again side s (omega arith)) (thens opens_again (closes (expression_again b side (right_tier s) (omega (arith, right_low s)))))))
      (λ x. bin (place x.0) s x.0 x.1.1.1) (sym (append_assoc (written a side) _ _)) (λ x t. two (λ c d. bin 0 s c d) t.0 t.1.1.1)
      (λ x t l ts k rest (m, mid, y, z). (is, (refl, (m, mid, chained_as _ (is_chain s a) (is_chain s x.0) l ts m mid (sym (chain_same s a x.0 (sym t.0))) y, z))))))
  expression_again (old at a) true tier low =
      given (λ is. recast (thens (placed old_word at) (brackets_again true (closes (expression_again a true (whole true) (lit≤ tt))))) (λ x. old x.0 x.1) refl (λ x s. ap (λ b. old 0 b) s.1) (λ x s l ts k rest y. (is, y)))
  expression_again (old at a) false tier low = given (λ is. absurd (cc))
  expression_again (quant at all j i body) true tier low =
      given (λ is. given (λ high. recast
      (closes (thens (placed (open_paren true) at) (thens opens_again (thens (quantifier_again all) (thens (name_again true j) (thens (name_again true i) (thens (fixed (semicolon true))
      (thens (closes (expression_again body true (whole true) (lit≤ tt))) (fixed (close_paren true))))))))))
      (λ x. quant x.0 all x.1.1.1.0 x.1.1.1.1.0 x.1.1.1.1.1.1.0) refl (λ x s. three (λ j i b. quant 0 all j i b) s.1.1.1.0 s.1.1.1.1.0 s.1.1.1.1.1.1.0) (λ x s l ts k rest y. (is, (high, y)))))
  expression_again (quant at all j i body) false tier low = given (λ is. absurd (cc))
  expression_again (quant_in at all j i range body) true tier low =
      given (λ is. given (λ high. recast
      (closes (thens (placed (open_paren true) at) (thens opens_again (thens (quantifier_again all) (thens (name_again true j) (thens (name_again true i) (thens (fixed (semicolon true))
      (thens (closes (expression_again range true (whole true) (lit≤ tt))) (thens (fixed (semicolon true))
      (thens (closes (expression_again body true (whole true) (lit≤ tt))) (fixed (close_paren true))))))))))))
      (λ x. quant_in x.0 all x.1.1.1.0 x.1.1.1.1.0 x.1.1.1.1.1.1.0 x.1.1.1.1.1.1.1.1.0) (simp append_assoc)
      (λ x s. four (λ j i r b. quant_in 0 all j i r b) s.1.1.1.0 s.1.1.1.1.0 s.1.1.1.1.1.1.0 s.1.1.1.1.1.1.1.1.0) (λ x s l ts k rest y. (is, (high, y)))))
  expression_again (quant_in at all j i range body) false tier low = given (λ is. absurd (cc))
  expression_again (has at a j is_ b) true tier low =
      given (λ is. given (λ high. recast
      (thens (placed reach at) (thens (brackets_again true (thens (closes (expression_again a true (whole true) (lit≤ tt))) (thens (fixed (comma true)) (thens (name_again true j) (thens (fixed (comma true)) (fields_again is_))))))
      (thens (fixed (dot true)) (thens (word_again has_name) (brackets_again true (closes (expression_again b true (whole true) (lit≤ tt))))))))
      (λ x. has x.0 x.1.0.0 x.1.0.1.1.0 x.1.0.1.1.1.1 x.1.1.1.1) (reach_words (written a true) (fields_written is_) (written b true) _ _ _ _ _ _ _)
      (λ x s. four (λ e j is c. has 0 e j is c) s.1.0.0 s.1.0.1.1.0 s.1.0.1.1.1.1 s.1.1.1.1) (λ x s l ts k rest y. (is, (high, y)))))
  expression_again (has at a j is_ b) false tier low = given (λ is. absurd (cc))
  expression_again (size at a j is_) true tier low =
      given (λ is. given (λ high. recast
      (thens (placed reach at) (thens (brackets_again true (thens (closes (expression_again a true (whole true) (lit≤ tt))) (thens (fixed (comma true)) (thens (name_again true j) (thens (fixed (comma true)) (fields_again is_))))))
      (thens (fixed (dot true)) (thens (word_again size_name) (brackets_again true nothing_again)))))
      (λ x. size x.0 x.1.0.0 x.1.0.1.1.0 x.1.0.1.1.1.1) (size_words (written a true) (fields_written is_) _ _ _ _ _ _ _)
      (λ x s. three (λ e j is. size 0 e j is) s.1.0.0 s.1.0.1.1.0 s.1.0.1.1.1.1) (λ x s l ts k rest y. (is, (high, y)))))
  expression_again (size at a j is_) false tier low = given (λ is. absurd (cc))

  pub arguments_again : (es : Exprs) → Again Exprs ((false, kind.Symbol OPEN_PAREN.now) ∷ (args_written es ++ (false, kind.Symbol CLOSE_PAREN.now) ∷ [])) (arguments within es) (arguments within) (λ fs. bare_all fs ≡ bare_all es)
  arguments_again none = recast (brackets_again false nothing_again) (λ u. none) refl (λ u s. refl) (λ u s l ts k rest y. y)
  arguments_again (also e es) =
      recast (brackets_again false (thens (closes (expression_again e false (whole false) (lit≤ tt))) (more_arguments_again es))) (λ x. also x.0 x.1) refl (λ x s. two (λ b bs. also b bs) s.0 s.1) (λ x s l ts k rest y. y)

  pub more_arguments_again : (es : Exprs) → Again Exprs (more_args_written es) (more_arguments within es) (more_arguments within) (λ fs. bare_all fs ≡ bare_all es)
  more_arguments_again none = recast nothing_again (λ u. none) refl (λ u s. refl) (λ u s l ts k rest y. y)
  more_arguments_again (also e es) =
      recast (thens (fixed (comma false)) (thens (closes (expression_again e false (whole false) (lit≤ tt))) (more_arguments_again es))) (λ x. also x.1.0 x.1.1) refl (λ x s. two (λ b bs. also b bs) s.1.0 s.1.1) (λ x s l ts k rest y. y)

-- a whole expression of code, and one of a clause
pub code_again : (e : Expr) → Again Expr (written e false) (expression within e) (expression within) (Same e)
code_again e = closes (expression_again e false (whole false) (lit≤ tt))

pub predicate_again : (e : Expr) → Again Expr (written e true) (predicate within e) (predicate within) (Same e)
predicate_again e = closes (expression_again e true (whole true) (lit≤ tt))
