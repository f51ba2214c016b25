-- The words of a clause in a log, read one after the other.
use Rattle.std.proofs.Common.{◌≡◌, ℕ, ◌/◌, ◌^◌, ◌<◌, All, List, [], ◌∷◌, ◌++◌, map, sym, ap, subst, ◌∙◌, arith}
use Rattle.std.specs.Fmt.{decimal}
use Rattle.std.specs.List.Sorted.{IsStrictlyIncreasing}
use Rattle.std.proofs.lemmas.List.Elements.{All-head, All-tail}
use Rattle.std.proofs.lemmas.Fmt.{decimal_injective}
use Rattle.std.proofs.lemmas.List.{append-nil}
use Rattle.cnf_core.specs.Literal.{IsOver}
use Rattle.derivation.specs.Entry.{IsEntry}
use Rattle.derivation.specs.LogText.{IsClause, AreHints}
use Rattle.derivation.specs.Texts.{literal_text}
use Rattle.derivation.proofs.Literals.{literal_injective}
use Rattle.derivation.proofs.Rising.{vars_of, rising_to}
use Rattle.derivation.proofs.Sequences.{HasWords, Goes, goes}

-- literals over few enough variables have words of their own
pub literal_words : (vars : ℕ) → vars < 2 ^ 31 → HasWords literal_text (IsOver vars)
literal_words vars small =
    record {
      same = λ x y over_x over_y same. literal_injective x y (omega (arith, over_x.1)) (omega (arith, over_y.1)) same;
      apart = λ x over same. let zero_is : x ≡ 0 = literal_injective x 0 (omega (arith, over.1)) (omega arith) same in absurd (omega (arith, over.0, ap (λ n. n / 2) zero_is));
    }

-- hints have words of their own
pub hint_words : HasWords decimal (λ hint. (0 < hint) × (hint < 2 ^ 32))
hint_words =
    record {
      same = λ x y in_x in_y same. decimal_injective x y (omega (arith, in_x.1)) (omega (arith, in_y.1)) same;
      apart = λ x in_x same. let zero_is : x ≡ 0 = decimal_injective x 0 (omega (arith, in_x.1)) (omega arith) same in absurd (omega (arith, in_x.0));
    }

-- the words of a clause go on behind its first literals
pub clause_goes : (vars : ℕ) (before clause : List ℕ) (rest tail : List (List ℕ)) → vars < 2 ^ 31 → IsClause vars before → IsClause vars clause
    → map literal_text before ++ rest ≡ map literal_text (clause ++ 0 ∷ []) ++ tail → Goes literal_text before rest clause tail
clause_goes vars before clause rest tail small is_before is same =
    goes literal_text (IsOver vars) (literal_words vars small) before clause rest tail is_before.over is.over same

-- so there is a next word
pub no_end : (before clause : List ℕ) (rest tail : List (List ℕ)) → rest ≡ [] → Goes literal_text before rest clause tail → ⊥
no_end before clause rest tail none h = some h.later (sym none ∙ h.rest_is)
  where
    some : (later : List ℕ) → [] ≡ map literal_text (later ++ 0 ∷ []) ++ tail → ⊥
    some [] same = cc
    some (x ∷ xs) same = cc

pub all_behind : (P : ℕ → Type 0) (before : List ℕ) (x : ℕ) (xs : List ℕ) → All P (before ++ x ∷ xs) → P x
all_behind P [] x xs all = All-head P x xs all
all_behind P (y ∷ ys) x xs all = all_behind P ys x xs (All-tail P y (ys ++ x ∷ xs) all)

-- it is an entry
pub next_entry : (vars : ℕ) (before clause : List ℕ) (word : List ℕ) (rest : List (List ℕ)) (tail : List (List ℕ)) → IsClause vars clause
    → Goes literal_text before (word ∷ rest) clause tail → ((lit : ℕ) → IsEntry vars lit → word ≡ literal_text lit → ⊥) → ⊥
next_entry vars before clause word rest tail is h none = by_later h.later h.numbers_are h.rest_is
  where
    by_later : (later : List ℕ) → clause ≡ before ++ later → word ∷ rest ≡ map literal_text (later ++ 0 ∷ []) ++ tail → ⊥
    by_later [] numbers same =
        let first : word ≡ literal_text 0 = cc in
        none 0 (λ e. absurd (omega arith), omega arith) first
    by_later (x ∷ xs) numbers same =
        let first : word ≡ literal_text x = cc in
        let over : IsOver vars x = all_behind (IsOver vars) before x xs (subst (All (IsOver vars)) numbers is.over) in
        none x (λ e. absurd (omega (arith, over.0, ap (λ n. n / 2) e)), over.1) first

-- and a literal that it spells rises
pub next_rises : (vars : ℕ) (before clause : List ℕ) (lit : ℕ) (rest : List (List ℕ)) (tail : List (List ℕ)) → vars < 2 ^ 31 → IsClause vars clause → IsOver vars lit
    → Goes literal_text before (literal_text lit ∷ rest) clause tail → IsStrictlyIncreasing (vars_of (before ++ lit ∷ []))
next_rises vars before clause lit rest tail small is over h = by_later h.later h.numbers_are h.rest_is
  where
    by_later : (later : List ℕ) → clause ≡ before ++ later → literal_text lit ∷ rest ≡ map literal_text (later ++ 0 ∷ []) ++ tail
        → IsStrictlyIncreasing (vars_of (before ++ lit ∷ []))
    by_later [] numbers same =
        let first : literal_text lit ≡ literal_text 0 = cc in
        absurd ((literal_words vars small).apart lit over first)
    by_later (x ∷ xs) numbers same =
        let first : literal_text lit ≡ literal_text x = cc in
        let over_x : IsOver vars x = all_behind (IsOver vars) before x xs (subst (All (IsOver vars)) numbers is.over) in
        let here : x ≡ lit = sym ((literal_words vars small).same lit x over over_x first) in
        rising_to before lit xs (subst (λ (c : List ℕ). IsStrictlyIncreasing (vars_of c)) (numbers ∙ ap (λ y. before ++ y ∷ xs) here) is.rising)

-- the same for hints, behind which nothing stands
pub hints_go : (before hints : List ℕ) (rest : List (List ℕ)) → AreHints before → AreHints hints
    → map decimal before ++ rest ≡ map decimal (hints ++ 0 ∷ []) → Goes decimal before rest hints []
hints_go before hints rest is_before is same = goes decimal _ hint_words before hints rest [] is_before is (same ∙ sym (append-nil _))

pub no_end_hints : (before hints : List ℕ) (rest : List (List ℕ)) → rest ≡ [] → Goes decimal before rest hints [] → ⊥
no_end_hints before hints rest none h = some h.later (sym none ∙ h.rest_is)
  where
    some : (later : List ℕ) → [] ≡ map decimal (later ++ 0 ∷ []) ++ [] → ⊥
    some [] same = cc
    some (x ∷ xs) same = cc

pub next_number : (before hints : List ℕ) (word : List ℕ) (rest : List (List ℕ)) → AreHints hints → Goes decimal before (word ∷ rest) hints []
    → ((n : ℕ) → n < 2 ^ 32 → word ≡ decimal n → ⊥) → ⊥
next_number before hints word rest are h none = by_later h.later h.numbers_are h.rest_is
  where
    by_later : (later : List ℕ) → hints ≡ before ++ later → word ∷ rest ≡ map decimal (later ++ 0 ∷ []) ++ [] → ⊥
    by_later [] numbers same =
        let first : word ≡ decimal 0 = cc in
        none 0 (omega arith) first
    by_later (x ∷ xs) numbers same =
        let first : word ≡ decimal x = cc in
        none x (all_behind (λ hint. (0 < hint) × (hint < 2 ^ 32)) before x xs (subst AreHints numbers are)).1 first

pub zero_ends : (before hints : List ℕ) (word : List ℕ) (rest : List (List ℕ)) → AreHints hints → Goes decimal before (decimal 0 ∷ word ∷ rest) hints [] → ⊥
zero_ends before hints word rest are h = by_later h.later h.numbers_are h.rest_is
  where
    by_later : (later : List ℕ) → hints ≡ before ++ later → decimal 0 ∷ word ∷ rest ≡ map decimal (later ++ 0 ∷ []) ++ [] → ⊥
    by_later [] numbers same = cc
    by_later (x ∷ xs) numbers same =
        let first : decimal x ≡ decimal 0 = cc in
        hint_words.apart x (all_behind (λ hint. (0 < hint) × (hint < 2 ^ 32)) before x xs (subst AreHints numbers are)) first
