-- Logs one line longer.
use Rattle.std.proofs.Common.{◌≡◌, ◌≢◌, ℕ, suc, All, inl, inr, ◌+◌, ◌==◌, not, ◌<◌, length, length-take, take, drop, take-append-drop, drop-cons, get_or, arith, Bool, true, false, ◌&&◌, List, [], ◌∷◌, ◌++◌, refl, sym, ap, ◌∙◌}
use Rattle.std.proofs.lemmas.List.{append_assoc, append-nil, take_more, nil_from_length}
use Rattle.std.proofs.lemmas.List.Folds.{list_any_at}
use Rattle.std.specs.List.{list_any}
use Rattle.std.proofs.lemmas.Bool.{and_from, and_parts, or_cases, not-true, false_from_ne_true, false≢true, eqb-true}
use Rattle.derivation.specs.Step.{Step}
use Rattle.derivation.specs.Propagation.{follows}
use Rattle.derivation.specs.Logs.{clauses_of, contains_clause, each_line, fresh, is_new, valid, IsFirstBad}

pub each_line-append : (test : List (List ℕ) → Step → Bool) (known : List (List ℕ)) (xs ys : List Step)
    → each_line test known (xs ++ ys) ≡ (each_line test known xs && each_line test (known ++ clauses_of xs) ys)
each_line-append test known [] ys = ap (λ cs. each_line test cs ys) (sym (append-nil known))
each_line-append test known (x ∷ xs) ys =
    rw (each_line-append test (known ++ x.clause ∷ []) xs ys, append_assoc known (x.clause ∷ []) (clauses_of xs))
    (grouped (test known x) (each_line test (known ++ x.clause ∷ []) xs) (each_line test (known ++ x.clause ∷ clauses_of xs) ys))
  where
    grouped : (a b c : Bool) → (a && (b && c)) ≡ ((a && b) && c)
    grouped true b c = refl
    grouped false b c = refl

-- a valid log stays one with a line that follows
pub valid_push : (known : List (List ℕ)) (xs : List Step) (y : Step) → valid known xs ≡ true → follows (known ++ clauses_of xs) y ≡ true
    → valid known (xs ++ y ∷ []) ≡ true
valid_push known xs y before last = each_line-append follows known xs (y ∷ []) ∙ and_from _ _ before (and_from _ _ last refl)

-- the same at a place of a list of lines
pub valid_more : (known : List (List ℕ)) (xs : List Step) (place : ℕ) (y : Step) → place < length xs → y ≡ get_or xs place y
    → valid known (take place xs) ≡ true → follows (known ++ clauses_of (take place xs)) y ≡ true → valid known (take (place + 1) xs) ≡ true
valid_more known xs place y within is before last =
    ap (valid known) (take_more xs place y within ∙ ap (λ z. take place xs ++ z ∷ []) (sym is)) ∙ valid_push known (take place xs) y before last

-- a line at a place of a list of lines is the first bad one
pub bad_at : (clauses : List (List ℕ)) (steps : List Step) (place : ℕ) (y : Step) → place < length steps → y ≡ get_or steps place y
    → valid clauses (take place steps) ≡ true → follows (clauses ++ clauses_of (take place steps)) y ≡ false → IsFirstBad clauses steps (place + 1)
bad_at clauses steps place y within is before refused =
    record {
      front = take place steps;
      line = y;
      rest = drop (suc place) steps;
      parts = sym (take-append-drop place steps) ∙ ap (λ zs. take place steps ++ zs) (drop-cons steps place y within ∙ ap (λ z. z ∷ drop (suc place) steps) (sym is));
      place = omega (arith, length-take place steps);
      before = before;
      bad = λ followed. false≢true (sym refused ∙ followed);
    }

-- no line of a valid log is bad
pub none_bad : (clauses : List (List ℕ)) (steps : List Step) (n : ℕ) → valid clauses steps ≡ true → IsFirstBad clauses steps n → ⊥
none_bad clauses steps n is_valid bad =
    let known : List (List ℕ) = clauses ++ clauses_of bad.front in
    let parts : (valid clauses bad.front ≡ true) × ((follows known bad.line && valid (known ++ bad.line.clause ∷ []) bad.rest) ≡ true) =
    and_parts (valid clauses bad.front) _ (sym (each_line-append follows clauses bad.front (bad.line ∷ bad.rest)) ∙ ap (valid clauses) (sym bad.parts) ∙ is_valid) in
    bad.bad (and_parts (follows known bad.line) _ parts.1).0

-- a line of a fresh log that is not empty contains no clause known before it
pub fresh_apart : (clauses : List (List ℕ)) (front : List Step) (later : Step) (rest : List Step) → fresh clauses (front ++ later ∷ rest) ≡ true → later.clause ≢ []
    → All (λ known. contains_clause later.clause known ≡ false) (clauses ++ clauses_of front)
fresh_apart clauses front later rest is_fresh some k d within =
    let known : List (List ℕ) = clauses ++ clauses_of front in
    let parts : (fresh clauses front ≡ true) × ((is_new known later && fresh (known ++ later.clause ∷ []) rest) ≡ true) =
    and_parts (fresh clauses front) _ (sym (each_line-append is_new clauses front (later ∷ rest)) ∙ is_fresh) in
    let here : is_new known later ≡ true = (and_parts (is_new known later) _ parts.1).0 in
    false_from_ne_true (contains_clause later.clause (get_or known k d))
    (λ contains. elim (or_cases (length later.clause == 0) (not (list_any (contains_clause later.clause) known)) here) [
      | inl empty ↦ some (nil_from_length later.clause (eqb-true (length later.clause) 0 empty))
      | inr none ↦
          false≢true (sym (not-true (list_any (contains_clause later.clause) known) none) ∙ list_any_at (contains_clause later.clause) known k d within contains)
    ])
