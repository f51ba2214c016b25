-- The law of expressions, of code and of clauses, at each level.
use Rattle.std.proofs.Common.{◌≡◌, ◌⊎◌, ℕ, ◌+◌, ◌-◌, ◌<◌, ◌≤◌, suc, Bool, true, false, nat_le, List, [], ◌∷◌, ◌++◌, length, Option, refl, sym, ◌∙◌, ap, subst, inl, inr, arith, append_assoc, length-append}
use Rattle.std.proofs.lemmas.Bool.{le-leb, leb-true, leb-false, lt-leb}
use Rattle.std.proofs.lemmas.List.{append-nil}
use Rattle.java_lex.specs.declared.token.Token.{Token}
use Rattle.java_tree.specs.Trees.{Expr}
use Rattle.java_tree.specs.Phrases.{Limit}
use Rattle.java_tree.specs.Expressions.{whole}
use Rattle.java_tree.specs.Reading.{within_before}
use Rattle.reading_core.specs.Read.{Read, Got, Bad, Deep, OnGot}
use Rattle.reading_core.specs.Deeper.{always}
use Rattle.reading_core.specs.Machine.{Test, Fine, BadAt, DeepAt, run}
use Rattle.reading_core.specs.Follow.{follow}
use Rattle.reading_core.specs.Exact.{Decided, up_to_64}
use Rattle.reading_core.proofs.Runs.{tested, when_true, when_false, fine_free, bad_stops, deep_stops, deep_over, Plain as Blind}
use Rattle.reading_core.proofs.Ends.{capped, complete}
use Rattle.reading_core.proofs.Instance.{left_of, capped_counts}
use Rattle.reading_core.proofs.Told.{always_counts}
use Rattle.expression_reading.specs.Reading.{expression_in}
use Rattle.expression_reading.specs.Wants.{is_ready}
use Rattle.expression_reading.proofs.Alone.{alone, react, endings}
use Rattle.java_reading.specs.Readers.{head}
use Rattle.java_reading.specs.Expressions.{extends}
use Rattle.java_reading.proofs.Law.{any, Stops, IsGot, Begun, IsBad, IsDeep, Law, Exact, Plain}
use Rattle.text_reading.proofs.Frames.{Frames, Framed, closes, phrase_frames}
use Rattle.text_reading.proofs.Stops.{bad_again, deep_again, fine_plain}
use Rattle.text_reading.proofs.Beyond.{Within, Any, beyond, beyond_ready, any_fine, untaken}
use Rattle.text_reading.proofs.Wholes.{every, before, Whole, Longer, start, sim, sound, whole_read, finished, within_cap}

-- TESTS

blind : Blind up_to_64
blind k us vs = refl

abbrev caps_every : ℕ → Test
caps_every cap = capped cap every

low_every : (cap : ℕ) → 64 ≤ cap → (k : ℕ) (a b : List Token) → up_to_64 k a ≡ true → caps_every cap k b ≡ true
low_every cap high k a b low = when_true (nat_le k cap) _ _ (le-leb k cap (let le : k ≤ 64 = leb-true k 64 low in omega arith))

before_low : (last k : ℕ) (us vs : List Token) → up_to_64 k us ≡ true → before last k vs ≡ true
before_low last k us vs low = when_true (nat_le k 64) _ _ low

before_last : (last k : ℕ) (us : List Token) → length us < last → before last k us ≡ true
before_last last k us less =
    elim (tested (nat_le k 64)) [
      | inl low ↦ when_true (nat_le k 64) _ _ low
      | inr not ↦ when_false (nat_le k 64) _ _ not ∙ le-leb (suc (length us)) last (omega arith)
    ]

before_is : (last k : ℕ) (us : List Token) → before last k us ≡ true → (k ≤ 64) ⊎ (length us < last)
before_is last k us is =
    elim (tested (nat_le k 64)) [
      | inl low ↦ inl (leb-true k 64 low)
      | inr not ↦ inr (let le : suc (length us) ≤ last = leb-true (suc (length us)) last (sym (when_false (nat_le k 64) _ _ not) ∙ is) in omega arith)
    ]

-- where so many tokens are left the levels up to 64 alone may be opened
before_same : (cap last : ℕ) → 64 ≤ cap → (k : ℕ) (a b : List Token) → last ≤ length b → up_to_64 k a ≡ capped cap (before last) k b
before_same cap last high k a b many =
    elim (tested (nat_le k 64)) [
      | inl low ↦ low ∙ sym (when_true (nat_le k cap) _ _ (le-leb k cap (let le : k ≤ 64 = leb-true k 64 low in omega arith)) ∙ when_true (nat_le k 64) _ _ low)
      | inr not ↦ not ∙ sym (by (tested (nat_le k cap)) (when_false (nat_le k 64) _ _ not ∙ lt-leb (suc (length b)) last (omega arith)))
    ]
  where
    by : (nat_le k cap ≡ true) ⊎ (nat_le k cap ≡ false) → before last k b ≡ false → capped cap (before last) k b ≡ false
    by (inl is) shut = when_true (nat_le k cap) _ _ is ∙ shut
    by (inr not) shut = when_false (nat_le k cap) _ _ not

-- tokens that nothing awaits are the same where they stop in the same way
same_rest : (may : Test) (r c : List Token) → run react is_ready may r [] ≡ run react is_ready may c [] → r ≡ c
same_rest may [] [] is = refl
same_rest may [] (t ∷ c) is = absurd (cc)
same_rest may (u ∷ r) [] is = absurd (cc)
same_rest may (u ∷ r) (t ∷ c) is = let same : BadAt (u ∷ r) ≡ BadAt (t ∷ c) = is in cc

module _ (side : Bool) (l left : ℕ) (sum : l + left ≡ 64) where
  abbrev F : Limit → Expr → ℕ → List Token → ℕ → List Token → Type 0
  F May e = Whole side May e

  abbrev X : Expr → Option Token → Type 0
  X e h = Longer side e h

  frames : {May : Limit} (e : Expr) → Frames May (λ M. F M e)
  frames e = closes (phrase_frames e side (whole side))

  -- the run that reading is: by itself, and with anything behind it
  as_run : (ts : List Token) (o : Read Expr) → expression_in side always left ts ≡ o → follow o (λ _ rest. run react is_ready up_to_64 rest []) ≡ run react is_ready up_to_64 ts (start side l ∷ [])
  as_run ts o is = ap (λ r. follow r (λ _ rest. run react is_ready up_to_64 rest [])) (sym is) ∙ sim side always up_to_64 64 always_counts react is_ready alone (λ w t. refl) (λ w. refl) left l sum ts []

  as_run_beyond : (ts : List Token) (o : Read Expr) → expression_in side always left ts ≡ o
      → follow o (λ _ rest. run beyond beyond_ready up_to_64 rest (Any ∷ [])) ≡ run beyond beyond_ready up_to_64 ts (Within (start side l) ∷ Any ∷ [])
  as_run_beyond ts o is =
      ap (λ r. follow r (λ _ rest. run beyond beyond_ready up_to_64 rest (Any ∷ []))) (sym is) ∙ sim side always up_to_64 64 always_counts beyond beyond_ready Within (λ w t. refl) (λ w. refl) left l sum ts (Any ∷ [])

  -- levels enough for so many tokens
  abbrev enough : List Token → ℕ
  enough ts = 64 + (l + length ts)

  -- An expression with which nothing goes on is read, where levels enough are left.
  module _ (test : Test) (ts : List Token) (b : Expr) (k : ℕ) (r : List Token) (x : F (Decided (capped (enough ts) test)) b l ts k r) (ends : extends side (head r) ≡ false) where
    reads : expression_in side (left_of test (enough ts)) (enough ts - l) ts ≡ Got b r
    reads = whole_read side (left_of test (enough ts)) (capped (enough ts) test) (enough ts) (capped_counts test (enough ts)) l ts b k r x ends

    -- and the machine goes on behind it
    goes_alone : run react is_ready (capped (enough ts) test) r [] ≡ run react is_ready (capped (enough ts) test) ts (start side l ∷ [])
    goes_alone =
        ap (λ o. follow o (λ _ rest. run react is_ready (capped (enough ts) test) rest [])) (sym reads)
        ∙ sim side (left_of test (enough ts)) (capped (enough ts) test) (enough ts) (capped_counts test (enough ts)) react is_ready alone (λ w t. refl) (λ w. refl) (enough ts - l) l (omega arith) ts []

    goes_beyond : run beyond beyond_ready (capped (enough ts) test) ts (Within (start side l) ∷ Any ∷ []) ≡ Fine true
    goes_beyond =
        sym (ap (λ o. follow o (λ _ rest. run beyond beyond_ready (capped (enough ts) test) rest (Any ∷ []))) (sym reads)
        ∙ sim side (left_of test (enough ts)) (capped (enough ts) test) (enough ts) (capped_counts test (enough ts)) beyond beyond_ready Within (λ w t. refl) (λ w. refl) (enough ts - l) l (omega arith) ts (Any ∷ []))
        ∙ any_fine (capped (enough ts) test) r

  -- WHAT IS READ

  module _ (ts : List Token) (a : Expr) (rest : List Token) (is : expression_in side always left ts ≡ Got a rest) where
    framed : Framed (Decided up_to_64) (λ M. F M a) l ts l rest
    framed = (frames a).frame l ts l rest (subst (OnGot (λ e rest. F (Decided up_to_64) e l ts l rest)) is (sound side always up_to_64 64 always_counts left l sum ts))

    -- what stands behind it does not change where the machine stops
    stops_there : (cap : ℕ) → 64 ≤ cap → (front rest c : List Token) → head rest ≡ head c → run react is_ready up_to_64 rest [] ≡ run react is_ready up_to_64 (front ++ rest) (start side l ∷ [])
        → run react is_ready (caps_every cap) (front ++ c) (start side l ∷ []) ≡ run react is_ready (caps_every cap) c []
    stops_there cap high front [] [] same runs = fine_free react is_ready up_to_64 (caps_every cap) (front ++ []) true (λ k us less low. low_every cap high k us us low) (start side l ∷ []) (sym runs)
    stops_there cap high front [] (u ∷ c) same runs = absurd (cc)
    stops_there cap high front (t ∷ rest) [] same runs = absurd (cc)
    stops_there cap high front (t ∷ rest) (u ∷ c) same runs =
        subst (λ (v : Token). run react is_ready (caps_every cap) (front ++ v ∷ c) (start side l ∷ []) ≡ run react is_ready (caps_every cap) (v ∷ c) []) (cc)
        (bad_again react is_ready up_to_64 (caps_every cap) blind t rest c (low_every cap high) front (start side l ∷ []) (sym runs))

    only_got : (May : Limit) (c : List Token) → head rest ≡ head c → (b : Expr) (k : ℕ) (r : List Token) → F May b l (framed.front ++ c) k r → extends side (head r) ≡ false → (b ≡ a) × (k ≡ l) × (r ≡ c)
    only_got May c same b k r x ends =
        let us = framed.front ++ c in
        let cap = enough us in
        let y = within_cap side May every (λ j vs may. refl) b l us k r cap (omega arith) x in
        let here : r ≡ c
        = same_rest (caps_every cap) r c (goes_alone every us b k r y ends ∙ stops_there cap (omega arith) framed.front rest c same (as_run ts (Got a rest) is ∙ ap (λ vs. run react is_ready up_to_64 vs (start side l ∷ [])) framed.parts)) in
        let z = framed.same (Decided (caps_every cap)) c (λ j vs low. low_every cap (omega arith) j (vs ++ rest) (vs ++ c) low) in
        let both : Got b r ≡ Got a c = sym (reads every us b k r y ends) ∙ reads every us a l c z (ap (λ vs. extends side (head vs)) (sym here) ∙ ends) in
        (cc, x.2, here)

    got_law : IsGot Expr F X any l ts a rest
    got_law = record {
      front = framed.front;
      parts = framed.parts;
      plain = framed.plain;
      sound = λ May allows c. framed.same May c (λ j us may. allows j (us ++ c) (inl (leb-true j 64 may)));
      stop = tt {0};
      only = λ May c same b k r x. elim (tested (extends side (head r))) [ inl ext ↦ inr ext | inr ends ↦ inl (only_got May c same b k r x ends) ];
    }

  -- FAULTS

  plain_front : (front : List Token) (c : Bool) → run react is_ready up_to_64 front (start side l ∷ []) ≡ Fine c → Plain front
  plain_front front c fine = fine_plain react is_ready (untaken alone) up_to_64 front c (start side l ∷ []) fine

  -- what the machine takes begins an expression
  begun : (ts front : List Token) (c : Bool) → run react is_ready up_to_64 front (start side l ∷ []) ≡ Fine c → Begun Expr F X any l ts front
  begun ts front c fine =
      let end = complete react is_ready endings up_to_64 front (start side l ∷ []) c refl fine in
      let last = length end.more in
      let (e, x) = finished side (before last) l (front ++ end.more) (end.fine (before last) (λ k us vs low. before_low last k us vs low) (λ k us less. before_last last k us less)) in
      let framed = (frames e).frame l (front ++ end.more) l [] x in
      record {
        more = end.more;
        tree = e;
        is = λ May c allows. subst (λ (us : List Token). F May e l us l c) {x = framed.front ++ c} (regroup front end.more framed.front c framed.parts)
            (framed.same May c (λ j us may. allows j (us ++ c) (widen end.more c j us (before_is last j (us ++ []) may))));
      }
    where
      regroup : (front more f c : List Token) → front ++ more ≡ f ++ [] → f ++ c ≡ front ++ (more ++ c)
      regroup front more f c parts = ap (λ us. us ++ c) (sym (parts ∙ append-nil f)) ∙ append_assoc front more c

      widen : (more c : List Token) (j : ℕ) (us : List Token) → (j ≤ 64) ⊎ (length (us ++ []) < length more) → within_before (length (more ++ c)) j (us ++ c)
      widen more c j us (inl low) = inl low
      widen more c j us (inr less) = inr (omega (arith, length-append us [], length-append us c, length-append more c))

  -- the end of the tokens
  bad_end : (ts : List Token) → expression_in side always left ts ≡ Bad [] → IsBad Expr F X any l ts []
  bad_end ts is =
      let fine = sym (as_run ts (Bad []) is) in
      record {
        front = ts;
        parts = sym (append-nil ts);
        plain = plain_front ts false fine;
        before = begun ts ts false fine;
        only = λ May c same b k r x. by May c same b k r x (tested (extends side (head r)));
      }
    where
      by : (May : Limit) (c : List Token) → head [] ≡ head c → (b : Expr) (k : ℕ) (r : List Token) → F May b l (ts ++ c) k r → (extends side (head r) ≡ true) ⊎ (extends side (head r) ≡ false) → extends side (head r) ≡ true
      by May c same b k r x (inl ext) = ext
      by May (u ∷ c) same b k r x (inr ends) = absurd (cc)
      by May [] same b k r x (inr ends) =
          let us = ts ++ [] in
          let y = within_cap side May every (λ j vs may. refl) b l us k r (enough us) (omega arith) x in
          let here = fine_free beyond beyond_ready up_to_64 (caps_every (enough us)) us false (λ j vs less low. low_every (enough us) (omega arith) j vs vs low) (Within (start side l) ∷ Any ∷ [])
          (ap (λ vs. run beyond beyond_ready up_to_64 vs (Within (start side l) ∷ Any ∷ [])) (append-nil ts) ∙ sym (as_run_beyond ts (Bad []) is)) in
          let no : Fine false ≡ Fine true = sym here ∙ goes_beyond every us b k r y ends in
          absurd (cc)

  -- a token with which no expression goes on
  bad_token : (ts : List Token) (t : Token) (rest : List Token) → expression_in side always left ts ≡ Bad (t ∷ rest) → IsBad Expr F X any l ts (t ∷ rest)
  bad_token ts t rest is =
      let stops = bad_stops react is_ready up_to_64 blind ts (t ∷ rest) (start side l ∷ []) (sym (as_run ts (Bad (t ∷ rest)) is)) in
      record {
        front = stops.front;
        parts = stops.parts;
        plain = plain_front stops.front stops.before.0 stops.before.1;
        before = begun ts stops.front stops.before.0 stops.before.1;
        only = λ May c same b k r x. by stops.front stops.parts May c same b k r x (tested (extends side (head r)));
      }
    where
      by : (front : List Token) → ts ≡ front ++ t ∷ rest → (May : Limit) (c : List Token) → head (t ∷ rest) ≡ head c → (b : Expr) (k : ℕ) (r : List Token) → F May b l (front ++ c) k r
          → (extends side (head r) ≡ true) ⊎ (extends side (head r) ≡ false) → extends side (head r) ≡ true
      by front parts May c same b k r x (inl ext) = ext
      by front parts May [] same b k r x (inr ends) = absurd (cc)
      by front parts May (u ∷ c) same b k r x (inr ends) =
          let us = front ++ u ∷ c in
          let y = within_cap side May every (λ j vs may. refl) b l us k r (enough us) (omega arith) x in
          let first : t ≡ u = cc in
          let here = bad_again beyond beyond_ready up_to_64 (caps_every (enough us)) blind t rest c (low_every (enough us) (omega arith)) front (Within (start side l) ∷ Any ∷ [])
          (ap (λ vs. run beyond beyond_ready up_to_64 vs (Within (start side l) ∷ Any ∷ [])) (sym parts) ∙ sym (as_run_beyond ts (Bad (t ∷ rest)) is)) in
          let no : BadAt (t ∷ c) ≡ Fine true
          = sym here ∙ ap (λ v. run beyond beyond_ready (caps_every (enough us)) (front ++ v ∷ c) (Within (start side l) ∷ Any ∷ [])) first ∙ goes_beyond every us b k r y ends in
          absurd (cc)

  -- a token that opens a level too many
  deep_token : (ts rest : List Token) → expression_in side always left ts ≡ Deep rest → IsDeep Expr F X any l ts rest
  deep_token ts rest is =
      let stops = deep_stops react is_ready up_to_64 blind ts rest (start side l ∷ []) (sym (as_run ts (Deep rest) is)) in
      let over = deep_over react is_ready up_to_64 every (λ k us. refl) stops.front stops.at (start side l ∷ []) stops.with_it in
      let end = complete react is_ready endings every (stops.front ++ stops.at ∷ []) (start side l ∷ []) over.0 refl over.1 in
      let (e, y) = finished side every l ((stops.front ++ stops.at ∷ []) ++ end.more) (end.fine every (λ k us vs may. refl) (λ k us less. refl)) in
      let framed = (frames e).frame l ((stops.front ++ stops.at ∷ []) ++ end.more) l [] y in
      record {
        front = stops.front;
        at = stops.at;
        behind = stops.behind;
        here = stops.here;
        parts = stops.parts;
        plain = plain_front stops.front stops.before.0 stops.before.1;
        before = begun ts stops.front stops.before.0 stops.before.1;
        only = λ May c few b k r x. by stops.front stops.at stops.behind (stops.parts ∙ ap (λ us. stops.front ++ us) stops.here) stops.here May c few b k r x (tested (extends side (head r)));
        more = end.more;
        tree = e;
        deeper = λ May c all. subst (λ (us : List Token). F May e l us l c) {x = framed.front ++ c} (regroup stops.front stops.at end.more framed.front c framed.parts) (framed.same May c (λ j us may. all j (us ++ c)));
      }
    where
      regroup : (front : List Token) (at : Token) (more f c : List Token) → (front ++ at ∷ []) ++ more ≡ f ++ [] → f ++ c ≡ front ++ at ∷ (more ++ c)
      regroup front at more f c parts = ap (λ us. us ++ c) (sym (parts ∙ append-nil f)) ∙ append_assoc (front ++ at ∷ []) more c ∙ append_assoc front (at ∷ []) (more ++ c)

      by : (front : List Token) (at : Token) (behind : List Token) → ts ≡ front ++ at ∷ behind → rest ≡ at ∷ behind → (May : Limit) (c : List Token) → Stops (length c) May → (b : Expr) (k : ℕ) (r : List Token)
          → F May b l (front ++ at ∷ c) k r → (extends side (head r) ≡ true) ⊎ (extends side (head r) ≡ false) → extends side (head r) ≡ true
      by front at behind parts rest_is May c few b k r x (inl ext) = ext
      by front at behind parts rest_is May c few b k r x (inr ends) =
          let us = front ++ at ∷ c in
          let last = length c in
          let y = within_cap side May (before last) (λ j vs may. allowed j vs may (tested (nat_le (suc (length vs)) last))) b l us k r (enough us) (omega arith) x in
          let here = deep_again beyond beyond_ready up_to_64 (capped (enough us) (before last)) blind at behind c (before_same (enough us) last (omega arith)) front (Within (start side l) ∷ Any ∷ [])
          (ap (λ vs. run beyond beyond_ready up_to_64 vs (Within (start side l) ∷ Any ∷ [])) (sym parts) ∙ sym (as_run_beyond ts (Deep rest) is) ∙ ap DeepAt rest_is) in
          let no : DeepAt (at ∷ c) ≡ Fine true = sym here ∙ goes_beyond (before last) us b k r y ends in
          absurd (cc)
        where
          allowed : (j : ℕ) (vs : List Token) → May j vs → (nat_le (suc (length vs)) (length c) ≡ true) ⊎ (nat_le (suc (length vs)) (length c) ≡ false) → before (length c) j vs ≡ true
          allowed j vs may (inl less) = before_last (length c) j vs (let le : suc (length vs) ≤ length c = leb-true (suc (length vs)) (length c) less in omega arith)
          allowed j vs may (inr not) = when_true (nat_le j 64) _ _ (le-leb j 64 (few j vs (let over : length c < suc (length vs) = leb-false (suc (length vs)) (length c) not in omega arith) may))

  law_of : (ts : List Token) (o : Read Expr) → expression_in side always left ts ≡ o → Law Expr F X any l ts o
  law_of ts (Got a rest) is = got_law ts a rest is
  law_of ts (Bad []) is = bad_end ts is
  law_of ts (Bad (t ∷ rest)) is = bad_token ts t rest is
  law_of ts (Deep rest) is = deep_token ts rest is

-- An expression is read exactly, where 64 levels are left or opened before it.
pub expression_exact : (side : Bool) (left l : ℕ) → l + left ≡ 64 → Exact Expr (Whole side) (Longer side) any l (expression_in side always left)
expression_exact side left l sum ts = law_of side l left sum ts (expression_in side always left ts) refl
