-- Lists of gates that grow place by place, and tests of one place more.
use Rattle.std.proofs.Common.{◌≡◌, ℕ, zero, suc, ◌+◌, ◌*◌, ◌<◌, Bool, true, false, ◌&&◌, ◌||◌, List, [], ◌∷◌, ◌++◌, length, get_or, refl, sym, subst, ap, ◌∙◌, arith, inl, inr, length-append}
use Rattle.std.specs.List.{list_all, list_any, range_with_len}
use Rattle.std.proofs.lemmas.Bool.{cases_lt}
use Rattle.std.proofs.lemmas.List.{get_or_append_left, get_or-append-add, get_or_at}
use Rattle.std.proofs.lemmas.List.Elements.{All-append, All-cons}
use Rattle.std.proofs.lemmas.List.Folds.{list_all-append, list_any-append}
use Rattle.gate_core.specs.declared.circuit.Node.{Node}
use Rattle.gate_core.specs.Circuit.{value, IsOf, Keeps}
use Rattle.gate_core.proofs.Values.{all_more}
use Rattle.gate_arith.specs.Operations.{IsTruth}
use Rattle.gate_sets.specs.Lists.{AreTruths, AreRows}
use Rattle.gate_sets.proofs.Standing.{at_keeps, in_rows, rows_keep}

-- ## tests of numbers

range_last : (a n : ℕ) → range_with_len a (n + 1) ≡ range_with_len a n ++ (a + n) ∷ []
range_last a zero = let e : a ≡ a + 0 = omega arith in ap (λ x. x ∷ []) e
range_last a (suc n) =
    let longer : suc n + 1 ≡ suc (n + 1) = omega arith in
    let last : a + 1 + n ≡ a + suc n = omega arith in
    ap (range_with_len a) longer ∙ ap (λ xs. a ∷ xs) (range_last (a + 1) n) ∙ ap (λ x. a ∷ (range_with_len (a + 1) n ++ x ∷ [])) last

pub numbers_last : (n : ℕ) → range_with_len 0 (n + 1) ≡ range_with_len 0 n ++ n ∷ []
numbers_last n = let e : 0 + n ≡ n = omega arith in range_last 0 n ∙ ap (λ x. range_with_len 0 n ++ x ∷ []) e

or_none : (b : Bool) → (b || false) ≡ b
or_none true = refl
or_none false = refl

and_all : (b : Bool) → (b && true) ≡ b
and_all true = refl
and_all false = refl

pub any_last : (p : ℕ → Bool) (n : ℕ) → list_any p (range_with_len 0 (n + 1)) ≡ (list_any p (range_with_len 0 n) || p n)
any_last p n = ap (list_any p) (numbers_last n) ∙ list_any-append p (range_with_len 0 n) (n ∷ []) ∙ ap (λ b. list_any p (range_with_len 0 n) || b) (or_none (p n))

pub all_last : (p : ℕ → Bool) (n : ℕ) → list_all p (range_with_len 0 (n + 1)) ≡ (list_all p (range_with_len 0 n) && p n)
all_last p n = ap (list_all p) (numbers_last n) ∙ list_all-append p (range_with_len 0 n) (n ∷ []) ∙ ap (λ b. list_all p (range_with_len 0 n) && b) (and_all (p n))

-- ## one place more

pub any_more : (middle third new : List Node) (f : (ℕ → Bool) → ℕ → Bool) (n found here next : ℕ) → IsTruth middle (λ inputs. list_any (f inputs) (range_with_len 0 n)) found
    → Keeps middle third
    → IsTruth third (λ inputs. f inputs n) here → IsTruth new (λ inputs. value inputs third found || value inputs third here) next
    → IsTruth new (λ inputs. list_any (f inputs) (range_with_len 0 (n + 1))) next
any_more middle third new f n found here next before keeps is truth = record {
  of = truth.of;
  value_is = λ inputs.
      truth.value_is inputs
      ∙ ap (λ v. v || value inputs third here) (keeps.values inputs found before.of ∙ before.value_is inputs)
      ∙ ap (λ v. list_any (f inputs) (range_with_len 0 n) || v) (is.value_is inputs) ∙ sym (any_last (f inputs) n);
}

pub every_more : (middle third new : List Node) (f : (ℕ → Bool) → ℕ → Bool) (n every here next : ℕ) → IsTruth middle (λ inputs. list_all (f inputs) (range_with_len 0 n)) every
    → Keeps middle third
    → IsTruth third (λ inputs. f inputs n) here → IsTruth new (λ inputs. value inputs third every && value inputs third here) next
    → IsTruth new (λ inputs. list_all (f inputs) (range_with_len 0 (n + 1))) next
every_more middle third new f n every here next before keeps is truth = record {
  of = truth.of;
  value_is = λ inputs.
      truth.value_is inputs
      ∙ ap (λ v. v && value inputs third here) (keeps.values inputs every before.of ∙ before.value_is inputs)
      ∙ ap (λ v. list_all (f inputs) (range_with_len 0 n) && v) (is.value_is inputs) ∙ sym (all_last (f inputs) n);
}

pub truths_none : (nodes : List Node) (truth : (ℕ → Bool) → ℕ → Bool) → AreTruths nodes 0 truth []
truths_none nodes truth = record { of = λ k d within. absurd (omega arith); wide = refl; values = λ inputs i within. absurd (omega arith) }

pub truths_more : (middle new : List Node) (n : ℕ) (truth : (ℕ → Bool) → ℕ → Bool) (gates : List ℕ) (gate : ℕ) → AreTruths middle n truth gates → Keeps middle new
    → IsTruth new (λ inputs. truth inputs n) gate
    → AreTruths new (n + 1) truth (gates ++ gate ∷ [])
truths_more middle new n truth gates gate before keeps last = record {
  of = All-append (IsOf new) gates (gate ∷ []) (all_more middle new gates keeps before.of) (All-cons (IsOf new) gate [] last.of (λ k d within. absurd (omega arith)));
  wide = length-append gates (gate ∷ []) ∙ (let w = before.wide in omega arith);
  values = λ inputs i within.
      elim (cases_lt i n) [
        | inl below ↦
            let inside : i < length gates = omega (arith, before.wide) in
            ap (value inputs new) (get_or_append_left gates (gate ∷ []) 0 i inside) ∙ at_keeps middle new gates inputs i keeps before.of inside ∙ before.values inputs i below
        | inr past ↦
            let same : i ≡ n = omega arith in
            ap (value inputs new) (ap (λ k. get_or (gates ++ gate ∷ []) k 0) same ∙ get_or_at gates gate [] 0 n before.wide) ∙ last.value_is inputs ∙ ap (truth inputs) (sym same)
      ];
}

pub rows_none : (nodes : List Node) (width : ℕ) (truth : (ℕ → Bool) → ℕ → ℕ → Bool) → AreRows nodes 0 width truth []
rows_none nodes width truth = record { of = λ k d within. absurd (omega arith); long = omega arith; values = λ inputs o i row place. absurd (omega arith) }

pub rows_more : (middle new : List Node) (n width : ℕ) (truth : (ℕ → Bool) → ℕ → ℕ → Bool) (rows row : List ℕ) → AreRows middle n width truth rows → Keeps middle new
    → AreTruths new width (λ inputs i. truth inputs n i) row
    → AreRows new (n + 1) width truth (rows ++ row)
rows_more middle new n width truth rows row before keeps last = record {
  of = All-append (IsOf new) rows row (all_more middle new rows keeps before.of) last.of;
  long = length-append rows row ∙ (let w = last.wide in let l = before.long in grind arith);
  values = λ inputs o i in_count in_width.
      elim (cases_lt o n) [
        | inl below ↦
            let inside : o * width + i < length rows = subst (λ m. o * width + i < m) (sym before.long) (in_rows o n i width below in_width) in
            ap (value inputs new) (get_or_append_left rows row 0 (o * width + i) inside)
            ∙ rows_keep middle new rows inputs n width o i keeps before.of before.long below in_width ∙ before.values inputs o i below in_width
        | inr past ↦
            let same : o ≡ n = omega arith in
            let place : o * width + i ≡ length rows + i = ap (λ k. k * width + i) same ∙ ap (λ k. k + i) (sym before.long) in
            ap (value inputs new) (ap (λ k. get_or (rows ++ row) k 0) place ∙ get_or-append-add rows row i 0) ∙ last.values inputs i in_width ∙ ap (λ k. truth inputs k i) (sym same)
      ];
}
