-- Terms of `\reach`.
use Rattle.std.proofs.Common.{◌≡◌, ℕ, ◌+◌, Bool, true, false, cond, List, [], ◌∷◌, inl, inr, refl, sym, ap, ◌∙◌, subst}
use Rattle.std.specs.Prelude.{◌==◌, ℤ, pos, count_by, option_map}
use Rattle.std.specs.List.{range_with_len}
use Rattle.std.proofs.lemmas.Bool.{false≢true, cases_eq, eq-eqb, ne_eqb}
use Rattle.std.proofs.lemmas.List.Sums.{sum_by-cons}
use Rattle.heap_core.specs.declared.value.Value.{Value}
use Rattle.heap_core.specs.declared.value.Value.TheVariants.{Null, Obj, Num, Flag}
use Rattle.heap_core.specs.declared.value.Seen.TheVariants.{Is, Out}
use Rattle.heap_core.specs.Outcomes.{is_object, number, value_in}
use Rattle.heap_core.specs.Closure.{closure}
use Rattle.heap_core.specs.Eval.{Env, points, reached, has, size}
use Rattle.heap_core.proofs.Closure.{rounds_agree}
use Rattle.rel_core.specs.declared.formula.Formula.{Formula}
use Rattle.rel_core.specs.declared.numbers.NumExpr.{NumExpr}
use Rattle.rel_core.specs.declared.relation.RelVar.{RelVar}
use Rattle.rel_core.specs.declared.sets.RelExpr.{RelExpr}
use Rattle.rel_core.specs.Reading.{Reading, numbers_below}
use Rattle.rel_core.specs.Meaning.{ValueSet, has_object, objects_only, leads, reached_from, set_of, fitting, number_of, is_subset, holds}
use Rattle.clause_terms.specs.declared.term.Shape.{Shape}
use Rattle.clause_terms.specs.declared.term.Shape.TheVariants as shape
use Rattle.clause_terms.specs.declared.term.Term.{Term}
use Rattle.clause_terms.specs.Terms.{IsOnly, HasValue, Tells}
use Rattle.clause_terms.specs.Reaching.{LeadAlike}
use Rattle.clause_terms.proofs.Only.{subset_one}
use Rattle.clause_terms.proofs.Fitting.{told_fitting}
use Rattle.clause_terms.proofs.NumberTerms.{has_number}

flipped : (a b : ℕ) → (a == b) ≡ (b == a)
flipped a b = elim (cases_eq a b) [
  | inl same ↦ eq-eqb a b same ∙ sym (eq-eqb b a (sym same))
  | inr other ↦ ne_eqb a b other ∙ sym (ne_eqb b a (λ same. other (sym same)))
]

-- the objects of a set that is one value
object_one : (m : Reading) (s : ValueSet) (v : Value) (o : ℕ) → IsOnly m s v → has_object s o ≡ is_object o v
object_one m s Null o one = one.exact (Obj o)
object_one m s (Obj q) o one = one.exact (Obj o) ∙ flipped q o
object_one m s (Num z) o one = absurd (false≢true one.reference)
object_one m s (Flag b) o one = absurd (false≢true one.reference)

-- what is reached by relations is what is reached by fields
pub reached_alike : (m : Reading) (rs : List RelVar) (env : Env) (fields : List ℕ) (s : ValueSet) (v : Value) (o : ℕ) → LeadAlike m rs env fields → IsOnly m s v → reached_from m rs s o ≡
    reached env fields v o
reached_alike m rs env fields s v o alike one =
    rounds_agree m.objects (leads m rs) (points env fields) m.objects (has_object s) (λ q. is_object q v) (λ p q within. alike.edges p q) (λ q. object_one m s v q one) o
    ∙ ap (λ k. closure (points env fields) k (λ q. is_object q v) o) alike.objects

-- ## `.has`

pub told_has : (m : Reading) (rs : List RelVar) (env : Env) (fields : List ℕ) (root member : RelExpr) (all : ValueSet) (f : Formula) (t : Term) (v u : Value)
    → LeadAlike m rs env fields
    → all ≡ objects_only (reached_from m rs (set_of root m))
    → holds f m ≡ is_subset m (set_of member m) all
    → ((w : Value) → HasValue m (shape.Truth f) w → Tells (Is w) t m)
    → HasValue m (shape.Set root) v → HasValue m (shape.Set member) u → Tells (has env fields v u) t m
told_has m rs env fields root member all f t v u alike all_is f_is told one other = go v u one other (f_is ∙ subset_one m (set_of member m) all u other ∙ ap (λ s. s u) all_is)
  where
    go : (v u : Value) → IsOnly m (set_of root m) v → IsOnly m (set_of member m) u → holds f m ≡ objects_only (reached_from m rs (set_of root m)) u → Tells (has env fields v u) t m
    go Null Null one other is = told (Flag false) (ap Flag (sym is))
    go (Obj p) Null one other is = told (Flag false) (ap Flag (sym is))
    go Null (Obj o) one other is = told (Flag (reached env fields Null o)) (ap Flag (sym (is ∙ reached_alike m rs env fields (set_of root m) Null o alike one)))
    go (Obj p) (Obj o) one other is = told (Flag (reached env fields (Obj p) o)) (ap Flag (sym (is ∙ reached_alike m rs env fields (set_of root m) (Obj p) o alike one)))
    go (Num z) u one other is = absurd (false≢true one.reference)
    go (Flag b) u one other is = absurd (false≢true one.reference)
    go Null (Num z) one other is = absurd (false≢true other.reference)
    go Null (Flag b) one other is = absurd (false≢true other.reference)
    go (Obj p) (Num z) one other is = absurd (false≢true other.reference)
    go (Obj p) (Flag b) one other is = absurd (false≢true other.reference)

-- ## `.int_size`

count_alike : (p q : ℕ → Bool) (xs : List ℕ) → ((o : ℕ) → p o ≡ q o) → count_by p xs ≡ count_by q xs
count_alike p q [] same = refl
count_alike p q (x ∷ xs) same =
    sum_by-cons (λ o. cond (p o) 1 0) x xs ∙ ap (λ b. cond b 1 0 + count_by p xs) (same x) ∙ ap (λ n. cond (q x) 1 0 + n) (count_alike p q xs same) ∙ sym (sum_by-cons (λ o. cond (q o) 1 0) x xs)

size_is : (env : Env) (fields : List ℕ) (m : Reading) (s : ValueSet) (v : Value) → IsOnly m s v → size env fields v ≡ number env.ints
    (pos (count_by (reached env fields v) (range_with_len 0 env.objects)))
size_is env fields m s Null one = refl
size_is env fields m s (Obj o) one = refl
size_is env fields m s (Num z) one = absurd (false≢true one.reference)
size_is env fields m s (Flag b) one = absurd (false≢true one.reference)

pub told_size : (m : Reading) (rs : List RelVar) (env : Env) (fields : List ℕ) (root : RelExpr) (all : ValueSet) (n : NumExpr) (t : Term) (v : Value)
    → LeadAlike m rs env fields
    → all ≡ objects_only (reached_from m rs (set_of root m))
    → number_of n m ≡ fitting m.ints (pos (count_by (has_object all) (numbers_below m.objects)))
    → Tells (value_in (option_map Num (number_of n m))) t m
    → HasValue m (shape.Set root) v → Tells (size env fields v) t m
told_size m rs env fields root all n t v alike all_is n_is told one =
    let counted : count_by (has_object all) (numbers_below m.objects) ≡ count_by (reached env fields v) (range_with_len 0 env.objects) =
    count_alike (has_object all) (reached env fields v) (numbers_below m.objects) (λ o. ap (λ s. s (Obj o)) all_is ∙ reached_alike m rs env fields (set_of root m) v o alike one)
    ∙ ap (λ k. count_by (reached env fields v) (range_with_len 0 k)) alike.objects
    in
    let here : number m.ints (pos (count_by (has_object all) (numbers_below m.objects))) ≡ size env fields v =
    ap (λ w. number w (pos (count_by (has_object all) (numbers_below m.objects)))) alike.ints ∙ ap (λ c. number env.ints (pos c)) counted ∙ sym (size_is env fields m (set_of root m) v one)
    in
    subst (λ s. Tells s t m) here (told_fitting m t (number_of n m) (pos (count_by (has_object all) (numbers_below m.objects))) n_is told)

-- ## what is no reference

abbrev pub is_set_shape : Shape → Bool
is_set_shape (shape.Set e) = true
is_set_shape _ = false

pub has_no_root : (m : Reading) (env : Env) (fields : List ℕ) (s : Shape) (t : Term) (v u : Value) → is_set_shape s ≡ false → HasValue m s v → Tells Out t m → Tells (has env fields v u) t m
has_no_root m env fields (shape.Set e) t v u is given told = absurd (false≢true (sym is))
has_no_root m env fields (shape.Number n) t v u is given told = subst (λ w. Tells (has env fields w u) t m) (sym (has_number m n v given).is) told
has_no_root m env fields (shape.Truth f) t v u is given told = subst (λ w. Tells (has env fields w u) t m) (sym given) told

pub size_no_root : (m : Reading) (env : Env) (fields : List ℕ) (s : Shape) (t : Term) (v : Value) → is_set_shape s ≡ false → HasValue m s v → Tells Out t m → Tells (size env fields v) t m
size_no_root m env fields (shape.Set e) t v is given told = absurd (false≢true (sym is))
size_no_root m env fields (shape.Number n) t v is given told = subst (λ w. Tells (size env fields w) t m) (sym (has_number m n v given).is) told
size_no_root m env fields (shape.Truth f) t v is given told = subst (λ w. Tells (size env fields w) t m) (sym given) told

-- a number or a truth value is no member
number_no_member : (env : Env) (fields : List ℕ) (v : Value) (z : ℤ) → has env fields v (Num z) ≡ Out
number_no_member env fields Null z = refl
number_no_member env fields (Obj o) z = refl
number_no_member env fields (Num y) z = refl
number_no_member env fields (Flag b) z = refl

truth_no_member : (env : Env) (fields : List ℕ) (v : Value) (c : Bool) → has env fields v (Flag c) ≡ Out
truth_no_member env fields Null c = refl
truth_no_member env fields (Obj o) c = refl
truth_no_member env fields (Num y) c = refl
truth_no_member env fields (Flag b) c = refl

pub has_no_member : (m : Reading) (env : Env) (fields : List ℕ) (s : Shape) (t : Term) (v u : Value) → is_set_shape s ≡ false → HasValue m s u → Tells Out t m → Tells (has env fields v u) t m
has_no_member m env fields (shape.Set e) t v u is given told = absurd (false≢true (sym is))
has_no_member m env fields (shape.Number n) t v u is given told =
    let a = has_number m n u given in
    subst (λ s. Tells s t m) (sym (ap (has env fields v) a.is ∙ number_no_member env fields v a.whole)) told
has_no_member m env fields (shape.Truth f) t v u is given told = subst (λ s. Tells s t m) (sym (ap (has env fields v) given ∙ truth_no_member env fields v (holds f m))) told
