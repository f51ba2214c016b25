-- What a definition of reading owes, and what follows: its machine takes the phrases of the grammar to their end, and
-- a list of tokens is one of them at most.
use Rattle.std.proofs.Common.{◌≡◌, ℕ, ◌+◌, ◌-◌, ◌≤◌, Bool, true, false, nat_le, List, [], ◌∷◌, length, refl, sym, ◌∙◌, ap, arith}
use Rattle.std.proofs.lemmas.Bool.{le-leb, lt-leb}
use Rattle.java_lex.specs.declared.token.Token.{Token}
use Rattle.java_tree.specs.Phrases.{Phrase, Limit}
use Rattle.java_tree.specs.Reading.{Limited, Parses, any_level}
use Rattle.java_tree.proofs.Fronts.{Grows, parses_more}
use Rattle.reading_core.specs.Read.{Read, Got, Bad, Deep, OnGot}
use Rattle.reading_core.specs.Machine.{Test, Act, Fine, run}
use Rattle.reading_core.specs.Follow.{follow}
use Rattle.reading_core.specs.Exact.{Decided, Counts, Reads}
use Rattle.reading_core.proofs.Runs.{when_true, when_false}
use Rattle.reading_core.proofs.Ends.{capped, caps}
use Rattle.reading_core.proofs.Keeps.{Keeps}

-- a test of open levels, as one of levels that are left
abbrev pub left_of : Test → ℕ → ℕ → List Token → Bool
left_of test cap left ts = test (cap - left) ts

pub capped_counts : (test : Test) (cap : ℕ) → Counts (left_of test cap) (capped cap test) cap
capped_counts test cap = record { opens = opens_; shuts = λ k ts over. when_false (nat_le k cap) _ _ (lt-leb k cap over) }
  where
    opens_ : (k left : ℕ) (ts : List Token) → k + left ≡ cap → left_of test cap left ts ≡ capped cap test k ts
    opens_ k left ts is =
        let low : k ≤ cap = omega arith in
        let same : cap - left ≡ k = omega arith in
        ap (λ n. test n ts) same ∙ sym (when_true (nat_le k cap) _ _ (le-leb k cap low))

capped_true : (test : Test) (cap k : ℕ) (ts : List Token) → capped cap test k ts ≡ true → test k ts ≡ true
capped_true test cap k ts is = by (nat_le k cap) is
  where
    by : (b : Bool) → elim b [ true ↦ test k ts | false ↦ false ] ≡ true → test k ts ≡ true
    by true so = so
    by false so = cc

-- q: the phrases, by their trees
module _ {W A : Type 0} (react : W → Token → Act W) (ready : W → Bool) (start : W) (q : Limit → A → Phrase) (reading : (ℕ → List Token → Bool) → ℕ → List Token → Read A) where
  abbrev pub some : Limited
  some May l ts k rest = (a : A) × q May a l ts k rest

  -- What a definition of reading owes. It says of the machine what it does,
  pub record Owes : Type 1 where
    pub sim : (may : ℕ → List Token → Bool) (test : Test) (cap : ℕ) → Counts may test cap → (ts : List Token)
        → follow (reading may cap ts) (λ _ rest. run react ready test rest []) ≡ run react ready test ts (start ∷ [])
    -- it is of the grammar what it reads,
    pub sound : (may : ℕ → List Token → Bool) (test : Test) (cap : ℕ) → Counts may test cap → (ts : List Token) → OnGot (λ a rest. (k : ℕ) × q (Decided test) a 0 ts k rest) (reading may cap ts)
    -- and it reads what is of the grammar.
    pub complete : (may : ℕ → List Token → Bool) (test : Test) (cap : ℕ) → Counts may test cap → (ts : List Token) (a : A) (k : ℕ) → q (Decided test) a 0 ts k [] → reading may cap ts ≡ Got a []
    pub grows : Grows some
    pub keeps : (bound : ℕ) (May May' : Limit) → ((k : ℕ) (ts : List Token) → k + length ts ≤ bound → May k ts → May' k ts) → (a : A) → Keeps bound 0 1 (q May a) (q May' a)

  module _ (owes : Owes) where
    -- on given tokens each phrase is read, with levels enough
    pub read_with : (test : Test) (ts : List Token) (a : A) (k cap : ℕ) → length ts ≤ cap → q (Decided test) a 0 ts k [] → reading (left_of test cap) cap ts ≡ Got a []
    read_with test ts a k cap enough x =
        let low = owes.keeps (length ts) (Decided test) (Decided (capped cap test)) (λ k us le may. when_true (nat_le k cap) _ _ (le-leb k cap (omega arith)) ∙ may) a in
        owes.complete (left_of test cap) (capped cap test) cap (capped_counts test cap) ts a k (low.keep 0 ts k [] (omega arith) x).0

    -- a list of tokens has one tree at most
    pub one_tree : (ts : List Token) (a b : A) (j k : ℕ) → q any_level a 0 ts j [] → q any_level b 0 ts k [] → a ≡ b
    one_tree ts a b j k x y =
        let every : Test = λ k us. true in
        let left : (c : A) (k : ℕ) → q any_level c 0 ts k [] → q (Decided every) c 0 ts k []
        = λ c k z. ((owes.keeps (length ts) any_level (Decided every) (λ k us le may. refl) c).keep 0 ts k [] (omega arith) z).0 in
        let same : Got a [] ≡ Got b []
        = sym (read_with every ts a j (length ts) (omega arith) (left a j x)) ∙ read_with every ts b k (length ts) (omega arith) (left b k y) in
        cc

    at_end : (test : Test) (ts : List Token) (r : Read A) → OnGot (λ a rest. (k : ℕ) × q (Decided test) a 0 ts k rest) r → follow r (λ _ rest. run react ready test rest []) ≡ Fine true
        → Parses (some (Decided test)) ts
    at_end test ts (Got a []) on fine = record { levels = on.0; parse = (a, on.1) }
    at_end test ts (Got a (t ∷ rest)) on fine = absurd (cc)
    at_end test ts (Bad []) on fine = absurd (cc)
    at_end test ts (Bad (t ∷ rest)) on fine = absurd (cc)
    at_end test ts (Deep rest) on fine = absurd (cc)

    pub reads : Reads react ready start some
    reads = record { sound = sound_; complete = complete_ }
      where
        sound_ : (test : Test) (ts : List Token) → run react ready test ts (start ∷ []) ≡ Fine true → Parses (some (Decided test)) ts
        sound_ test ts fine =
            let (cap, caps_) = caps react ready test ts (start ∷ []) in
            let counts = capped_counts test cap in
            parses_more some owes.grows (Decided (capped cap test)) (Decided test) (λ k us is. capped_true test cap k us is) ts
            (at_end (capped cap test) ts (reading (left_of test cap) cap ts) (owes.sound (left_of test cap) (capped cap test) cap counts ts)
            (owes.sim (left_of test cap) (capped cap test) cap counts ts ∙ caps_ cap (omega arith) ∙ fine))

        complete_ : (test : Test) (ts : List Token) → Parses (some (Decided test)) ts → run react ready test ts (start ∷ []) ≡ Fine true
        complete_ test ts parses =
            let (least, caps_) = caps react ready test ts (start ∷ []) in
            let cap = least + length ts in
            sym (caps_ cap (omega arith)) ∙ sym (owes.sim (left_of test cap) (capped cap test) cap (capped_counts test cap) ts)
            ∙ ap (λ r. follow r (λ _ rest. run react ready (capped cap test) rest [])) (read_with test ts parses.parse.0 parses.levels cap (omega arith) parses.parse.1)
