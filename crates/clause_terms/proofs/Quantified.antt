-- What the instances of a quantifier give together.
use Rattle.std.proofs.Common.{◌≡◌, ℕ, zero, suc, ◌+◌, Bool, true, false, not, ◌&&◌, ◌||◌, List, [], ◌∷◌, ◌++◌, refl, sym, ap, ◌∙◌, arith}
use Rattle.std.specs.Prelude.{if◌then◌else◌, IsTrue}
use Rattle.std.specs.List.{list_any, list_all, range_with_len}
use Rattle.std.proofs.lemmas.Bool.{false≢true, and_parts, and_from}
use Rattle.heap_core.specs.declared.value.Value.TheVariants.{Null, Obj, Num, Flag}
use Rattle.heap_core.specs.declared.value.Seen.{Seen}
use Rattle.heap_core.specs.declared.value.Seen.TheVariants.{Is, Bad, Out}
use Rattle.heap_core.specs.Outcomes.{is_out, is_bad, is_true, flag, as_flag}
use Rattle.heap_core.specs.Eval.{over}
use Rattle.rel_core.specs.declared.formula.Formula.{Formula}
use Rattle.rel_core.specs.Reading.{Reading, numbers_below}
use Rattle.rel_core.specs.Meaning.{holds}
use Rattle.clause_terms.specs.declared.instances.Instances.{Instances}
use Rattle.clause_terms.specs.declared.term.Shape.TheVariants as shape
use Rattle.clause_terms.specs.declared.term.Truth.{Truth}
use Rattle.clause_terms.specs.Terms.{Judges, Tells, gives_flag}
use Rattle.clause_terms.specs.Gathering.{Gathered, all_hold, some_hold, all_fine, all_inside, all_true, some_true}

-- ## one number more

range_last : (a n : ℕ) → range_with_len a (n + 1) ≡ range_with_len a n ++ (a + n) ∷ []
range_last a zero = let e : a ≡ a + 0 = omega arith in ap (λ x. x ∷ []) e
range_last a (suc n) =
    let longer : suc n + 1 ≡ suc (n + 1) = omega arith in
    let last : a + 1 + n ≡ a + suc n = omega arith in
    ap (range_with_len a) longer ∙ ap (λ xs. a ∷ xs) (range_last (a + 1) n) ∙ ap (λ x. a ∷ (range_with_len (a + 1) n ++ x ∷ [])) last

numbers_last : (n : ℕ) → numbers_below (n + 1) ≡ numbers_below n ++ n ∷ []
numbers_last n = let e : 0 + n ≡ n = omega arith in range_last 0 n ∙ ap (λ x. range_with_len 0 n ++ x ∷ []) e

and_true : (b : Bool) → (b && true) ≡ b
and_true true = refl
and_true false = refl

or_false : (b : Bool) → (b || false) ≡ b
or_false true = refl
or_false false = refl

and_apart : (a b c : Bool) → (a && (b && c)) ≡ ((a && b) && c)
and_apart true b c = refl
and_apart false b c = refl

or_apart : (a b c : Bool) → (a || (b || c)) ≡ ((a || b) || c)
or_apart true b c = refl
or_apart false b c = refl

pub all_last : {A : Type 0} (p : A → Bool) (xs : List A) (x : A) → list_all p (xs ++ x ∷ []) ≡ (list_all p xs && p x)
all_last p [] x = and_true (p x)
all_last p (y ∷ ys) x = ap (λ b. p y && b) (all_last p ys x) ∙ and_apart (p y) (list_all p ys) (p x)

any_last : {A : Type 0} (p : A → Bool) (xs : List A) (x : A) → list_any p (xs ++ x ∷ []) ≡ (list_any p xs || p x)
any_last p [] x = or_false (p x)
any_last p (y ∷ ys) x = ap (λ b. p y || b) (any_last p ys x) ∙ or_apart (p y) (list_any p ys) (p x)

all_more : (p : ℕ → Bool) (n : ℕ) → list_all p (numbers_below (n + 1)) ≡ (list_all p (numbers_below n) && p n)
all_more p n = ap (list_all p) (numbers_last n) ∙ all_last p (numbers_below n) n

any_more : (p : ℕ → Bool) (n : ℕ) → list_any p (numbers_below (n + 1)) ≡ (list_any p (numbers_below n) || p n)
any_more p n = ap (list_any p) (numbers_last n) ∙ any_last p (numbers_below n) n

-- one instance more is told
module _ (m : Reading) (domain : ℕ → Bool) (instance : ℕ → Seen) (n : ℕ) (guard : Bool) (t : Truth) (at : guard ≡ domain n) (judged : Judges (instance n) t m) where
  every_value : IsTrue (not (domain n) || gives_flag (instance n)) → (not guard || holds t.value m) ≡ (not (domain n) || is_true (instance n))
  every_value given = ap (λ b. not b || holds t.value m) at ∙ go (domain n) given
    where
      go : (d : Bool) → IsTrue (not d || gives_flag (instance n)) → (not d || holds t.value m) ≡ (not d || is_true (instance n))
      go true is = judged.value is
      go false is = refl

  some_value : IsTrue (not (domain n) || gives_flag (instance n)) → (guard && holds t.value m) ≡ (domain n && is_true (instance n))
  some_value given = ap (λ b. b && holds t.value m) at ∙ go (domain n) given
    where
      go : (d : Bool) → IsTrue (not d || gives_flag (instance n)) → (d && holds t.value m) ≡ (d && is_true (instance n))
      go true is = judged.value is
      go false is = refl

  pub gathered_more : (all : Bool) (old new : Instances) (fine inside value : Formula)
      → new.fine ≡ old.fine ++ fine ∷ [] → new.inside ≡ old.inside ++ inside ∷ [] → new.values ≡ old.values ++ value ∷ []
      → holds fine m ≡ (not guard || holds t.fine m) → holds inside m ≡ (not guard || holds t.inside m)
      → holds value m ≡ (if all then (not guard || holds t.value m) else (guard && holds t.value m))
      → Gathered m all domain instance n old → Gathered m all domain instance (n + 1) new
  gathered_more all old new fine inside value fines insides values is_fine is_inside is_value before = record {
    fine = ap (λ fs. all_hold fs m) fines ∙ all_last (λ f. holds f m) old.fine fine ∙ ap (λ b. b && holds fine m) before.fine
        ∙ ap (λ b. all_fine domain instance n && b) (is_fine ∙ ap (λ b. not b || holds t.fine m) at ∙ ap (λ b. not (domain n) || b) judged.fine)
        ∙ sym (all_more (λ o. not (domain o) || gives_flag (instance o)) n);
    inside = ap (λ fs. all_hold fs m) insides ∙ all_last (λ f. holds f m) old.inside inside ∙ ap (λ b. b && holds inside m) before.inside
        ∙ ap (λ b. all_inside domain instance n && b) (is_inside ∙ ap (λ b. not b || holds t.inside m) at ∙ ap (λ b. not (domain n) || b) judged.inside)
        ∙ sym (all_more (λ o. not (domain o) || not (is_out (as_flag (instance o)))) n);
    every = λ is given.
        let parts = and_parts (all_fine domain instance n) (not (domain n) || gives_flag (instance n)) (sym (all_more (λ o. not (domain o) || gives_flag (instance o)) n) ∙ given) in
        ap (λ fs. all_hold fs m) values ∙ all_last (λ f. holds f m) old.values value ∙ ap (λ b. b && holds value m) (before.every is parts.0)
        ∙ ap (λ b. all_true domain instance n && b) (is_value ∙ ap (λ a. if a then (not guard || holds t.value m) else (guard && holds t.value m)) is ∙ every_value parts.1)
        ∙ sym (all_more (λ o. not (domain o) || is_true (instance o)) n);
    some = λ is given.
        let parts = and_parts (all_fine domain instance n) (not (domain n) || gives_flag (instance n)) (sym (all_more (λ o. not (domain o) || gives_flag (instance o)) n) ∙ given) in
        ap (λ fs. some_hold fs m) values ∙ any_last (λ f. holds f m) old.values value ∙ ap (λ b. b || holds value m) (before.some is parts.0)
        ∙ ap (λ b. some_true domain instance n || b) (is_value ∙ ap (λ a. if a then (not guard || holds t.value m) else (guard && holds t.value m)) is ∙ some_value parts.1)
        ∙ sym (any_more (λ o. domain o && is_true (instance o)) n);
  }

-- ## all instances

inside_one : (d : Bool) (s : Seen) (rest any : Bool) → rest ≡ not any → ((not d || not (is_out s)) && rest) ≡ not ((d && is_out s) || any)
inside_one true Bad rest any is = is
inside_one true Out rest any is = refl
inside_one true (Is v) rest any is = is
inside_one false s rest any is = is

-- a truth value is neither Out nor Bad
flag_is : (s : Seen) → as_flag s ≡ s → gives_flag s ≡ (not (is_out s) && not (is_bad s))
flag_is Bad is = refl
flag_is Out is = refl
flag_is (Is Null) is = absurd (false≢true (sym (ap is_out is)))
flag_is (Is (Obj o)) is = absurd (false≢true (sym (ap is_out is)))
flag_is (Is (Num z)) is = absurd (false≢true (sym (ap is_out is)))
flag_is (Is (Flag b)) is = refl

fine_one : (d : Bool) (s : Seen) (rest out bad : Bool) → as_flag s ≡ s → rest ≡ (not out && not bad) → ((not d || gives_flag s) && rest) ≡
    (not ((d && is_out s) || out) && not ((d && is_bad s) || bad))
fine_one false s rest out bad settled is = is
fine_one true s rest out bad settled is = ap (λ b. b && rest) (flag_is s settled) ∙ go (is_out s) (is_bad s) out is
  where
    go : (o b out : Bool) → rest ≡ (not out && not bad) → ((not o && not b) && rest) ≡ (not (o || out) && not (b || bad))
    go true b out is = refl
    go false true true is = refl
    go false true false is = refl
    go false false out is = is

module _ (domain : ℕ → Bool) (instance : ℕ → Seen) (settled : (o : ℕ) → as_flag (instance o) ≡ instance o) where
  inside_all : (xs : List ℕ) → list_all (λ o. not (domain o) || not (is_out (as_flag (instance o)))) xs ≡ not (list_any (λ o. domain o && is_out (instance o)) xs)
  inside_all [] = refl
  inside_all (x ∷ xs) =
      ap (λ s. (not (domain x) || not (is_out s)) && list_all (λ o. not (domain o) || not (is_out (as_flag (instance o)))) xs) (settled x)
      ∙ inside_one (domain x) (instance x) _ _ (inside_all xs)

  fine_all : (xs : List ℕ) → list_all (λ o. not (domain o) || gives_flag (instance o)) xs ≡
      (not (list_any (λ o. domain o && is_out (instance o)) xs) && not (list_any (λ o. domain o && is_bad (instance o)) xs))
  fine_all [] = refl
  fine_all (x ∷ xs) = fine_one (domain x) (instance x) _ _ _ (settled x) (fine_all xs)

  pub told_over : (m : Reading) (all : Bool) (n : ℕ) (i : Instances) (fine inside value : Formula)
      → Gathered m all domain instance n i
      → holds fine m ≡ all_hold i.fine m → holds inside m ≡ all_hold i.inside m → holds value m ≡ (if all then all_hold i.values m else some_hold i.values m)
      → Tells (over all domain instance n) (record { value = shape.Truth value; fine = fine; inside = inside }) m
  told_over m all n i fine inside value g is_fine is_inside is_value =
      go (list_any (λ o. domain o && is_out (instance o)) (numbers_below n)) (list_any (λ o. domain o && is_bad (instance o)) (numbers_below n)) all
      (is_fine ∙ g.fine ∙ fine_all (numbers_below n)) (is_inside ∙ g.inside ∙ inside_all (numbers_below n))
      (λ f is. is_value ∙ ap (λ a. if a then all_hold i.values m else some_hold i.values m) is ∙ g.every is (sym (is_fine ∙ g.fine) ∙ f))
      (λ f is. is_value ∙ ap (λ a. if a then all_hold i.values m else some_hold i.values m) is ∙ g.some is (sym (is_fine ∙ g.fine) ∙ f))
      refl
    where
      go : (out bad a : Bool) → holds fine m ≡ (not out && not bad) → holds inside m ≡ not out
          → (holds fine m ≡ true → all ≡ true → holds value m ≡ all_true domain instance n)
          → (holds fine m ≡ true → all ≡ false → holds value m ≡ some_true domain instance n)
          → all ≡ a
          → Tells (if out then Out else (if bad then Bad else (if a then flag (all_true domain instance n) else flag (some_true domain instance n))))
          (record { value = shape.Truth value; fine = fine; inside = inside }) m
      go true bad a f i every some is = record { fine = f; inside = i; value = tt }
      go false true a f i every some is = record { fine = f; inside = i; value = tt }
      go false false true f i every some is = record { fine = f; inside = i; value = ap Flag (sym (every f is)) }
      go false false false f i every some is = record { fine = f; inside = i; value = ap Flag (sym (some f is)) }

-- all pass, and one more
pub all_with : {A : Type 0} (p : A → Bool) (xs ys : List A) (x : A) → ys ≡ xs ++ x ∷ [] → list_all p xs ≡ true → p x ≡ true → list_all p ys ≡ true
all_with p xs ys x is all one = ap (list_all p) is ∙ all_last p xs x ∙ and_from (list_all p xs) (p x) all one
