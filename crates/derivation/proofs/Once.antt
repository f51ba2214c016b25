-- A clause has no variable twice exactly where each of its literals in turn has no value yet, those before it being false.
use Rattle.std.proofs.Common.{◌≡◌, ℕ, ◌/◌, ◌==◌, Bool, true, false, not, ◌&&◌, ◌||◌, List, [], ◌∷◌, ◌++◌, map, refl, sym, ap, ◌∙◌, arith}
use Rattle.std.proofs.lemmas.List.{map-append}
use Rattle.std.proofs.lemmas.List.Folds.{list_any-append}
use Rattle.std.proofs.lemmas.Bool.Decides.{nat_tests}
use Rattle.std.specs.List.{list_any, list_all}
use Rattle.cnf_core.specs.Literal.{negated}
use Rattle.cnf_core.specs.Trues.{is_true}
use Rattle.derivation.specs.Propagation.{once}

-- whether each literal in turn has no value yet, where those before it are made false
abbrev pub apart : List ℕ → List ℕ → Bool
apart trues [] = true
apart trues (lit ∷ lits) = not (is_true trues lit || is_true trues (negated lit)) && apart (trues ++ negated lit ∷ []) lits

-- whether a literal of the same variable is among these
abbrev pub same_var : List ℕ → ℕ → Bool
same_var lits lit = list_any (λ other. other / 2 == lit / 2) lits

same_var_one : (b l : ℕ) → ((negated b == l) || (negated b == negated l)) ≡ (b / 2 == l / 2)
same_var_one b l = grind (arith, nat_tests)

-- where literals are false, another one has a value exactly where its variable is among theirs
has_value : (before : List ℕ) (lit : ℕ) → (is_true (map negated before) lit || is_true (map negated before) (negated lit)) ≡ same_var before lit
has_value [] lit = refl
has_value (b ∷ bs) lit = joined (negated b == lit) (is_true (map negated bs) lit) (negated b == negated lit) (is_true (map negated bs) (negated lit)) ∙ ap (λ x. x || (is_true (map negated bs) lit || is_true (map negated bs) (negated lit))) (same_var_one b lit) ∙ ap (λ x. (b / 2 == lit / 2) || x) (has_value bs lit)
  where
    joined : (a b c d : Bool) → ((a || b) || (c || d)) ≡ ((a || c) || (b || d))
    joined true b c d = refl
    joined false true true d = refl
    joined false true false d = refl
    joined false false c d = refl

eqb_comm : (m n : ℕ) → (m == n) ≡ (n == m)
eqb_comm m n = grind (arith, nat_tests)

-- one literal more before
not_before : (before : List ℕ) (lit : ℕ) (lits : List ℕ)
    → list_all (λ l. not (same_var (before ++ lit ∷ []) l)) lits ≡ (list_all (λ l. not (same_var before l)) lits && not (same_var lits lit))
not_before before lit [] = refl
not_before before lit (l ∷ ls) =
    rw (list_any-append (λ other. other / 2 == l / 2) before (lit ∷ []), not_before before lit ls, eqb_comm (lit / 2) (l / 2))
    (parted (same_var before l) (l / 2 == lit / 2) (list_all (λ m. not (same_var before m)) ls) (same_var ls lit))
  where
    parted : (p q y z : Bool) → (not (p || (q || false)) && (y && not z)) ≡ ((not p && y) && not (q || z))
    parted true q y z = refl
    parted false true true z = refl
    parted false true false z = refl
    parted false false y z = refl

apart_is : (before lits : List ℕ) → apart (map negated before) lits ≡ (list_all (λ l. not (same_var before l)) lits && once lits)
apart_is before [] = refl
apart_is before (l ∷ ls) =
    rw (has_value before l, ← map-append negated before (l ∷ []), apart_is (before ++ l ∷ []) ls, not_before before l ls)
    (parted (same_var before l) (list_all (λ m. not (same_var before m)) ls) (same_var ls l) (once ls))
  where
    parted : (p y z w : Bool) → (not p && ((y && not z) && w)) ≡ ((not p && y) && (not z && w))
    parted true y z w = refl
    parted false true z w = refl
    parted false false z w = refl

none_before : (lits : List ℕ) → list_all (λ l. not (same_var [] l)) lits ≡ true
none_before [] = refl
none_before (l ∷ ls) = none_before ls

pub once_apart : (clause : List ℕ) → once clause ≡ apart [] clause
once_apart clause = ap (λ b. b && once clause) (sym (none_before clause)) ∙ sym (apart_is [] clause)
