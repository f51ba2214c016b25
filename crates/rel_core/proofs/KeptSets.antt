-- What is kept of a set is all of it that formulas look at.
use Rattle.std.proofs.Common.{◌≡◌, ℕ, zero, suc, ◌+◌, ◌<◌, Bool, not, ◌&&◌, ◌||◌, cond, refl, ap, ◌∙◌, sym, arith}
use Rattle.std.specs.Prelude.{pos, filter, count_by, if◌then◌else◌}
use Rattle.std.specs.Ordering.{int_eq}
use Rattle.std.specs.List.{list_all, range_with_len}
use Rattle.std.proofs.lemmas.List.Sums.{sum_by-cons}
use Rattle.heap_core.specs.declared.value.Value.TheVariants.{Null}
use Rattle.rel_core.specs.declared.relation.RelVar.{RelVar}
use Rattle.rel_core.specs.declared.holds.members.Members.{Members}
use Rattle.rel_core.specs.Reading.{Reading, numbers_below}
use Rattle.rel_core.specs.Meaning.{ValueSet, has_object, only, only_object, is_subset, are_of, same_at, is_changed}
use Rattle.rel_core.specs.Views.{kept_set, AreMembers}
use Rattle.rel_core.proofs.MarkedSets.{all_references}

-- ## tests that are alike at the numbers of a range

all_alike : (p q : ℕ → Bool) (a n : ℕ) → ((o : ℕ) → o < a + n → p o ≡ q o) → list_all p (range_with_len a n) ≡ list_all q (range_with_len a n)
all_alike p q a zero agree = refl
all_alike p q a (suc n) agree = rw (agree a (omega arith), all_alike p q (a + 1) n (λ o below. agree o (omega arith))) refl

filter_alike : (p q : ℕ → Bool) (a n : ℕ) → ((o : ℕ) → o < a + n → p o ≡ q o) → filter p (range_with_len a n) ≡ filter q (range_with_len a n)
filter_alike p q a zero agree = refl
filter_alike p q a (suc n) agree = rw (agree a (omega arith), filter_alike p q (a + 1) n (λ o below. agree o (omega arith))) refl

abbrev one : Bool → ℕ
one b = cond b 1 0

count_alike : (p q : ℕ → Bool) (a n : ℕ) → ((o : ℕ) → o < a + n → p o ≡ q o) → count_by p (range_with_len a n) ≡ count_by q (range_with_len a n)
count_alike p q a zero agree = refl
count_alike p q a (suc n) agree =
    let first : one (p a) ≡ one (q a) = ap one (agree a (omega arith)) in
    let rest = count_alike p q (a + 1) n (λ o below. agree o (omega arith)) in
    omega (arith, first, rest, sum_by-cons (λ o. cond (p o) 1 0) a (range_with_len (a + 1) n), sum_by-cons (λ o. cond (q o) 1 0) a (range_with_len (a + 1) n))

-- ## what is found from the set is found from what is kept of it

pub only_kept : (m : Reading) (s : ValueSet) (found : Members) → AreMembers m s found → only_object m (kept_set found) ≡ only_object m s
only_kept m s found are = ap only (filter_alike (has_object (kept_set found)) (has_object s) 0 m.objects (λ o below. are.objects o (omega arith)))

pub count_kept : (m : Reading) (s : ValueSet) (found : Members) → AreMembers m s found
    → count_by (has_object (kept_set found)) (numbers_below m.objects) ≡ count_by (has_object s) (numbers_below m.objects)
count_kept m s found are = count_alike (has_object (kept_set found)) (has_object s) 0 m.objects (λ o below. are.objects o (omega arith))

pub subset_kept : (m : Reading) (s t : ValueSet) (part whole : Members) → AreMembers m s part → AreMembers m t whole
    → is_subset m (kept_set part) (kept_set whole) ≡ is_subset m s t
subset_kept m s t part whole are also =
    let kept = λ (o : ℕ). not (has_object (kept_set part) o) || has_object (kept_set whole) o in
    let wanted = λ (o : ℕ). not (has_object s o) || has_object t o in
    let objects : list_all kept (numbers_below m.objects) ≡ list_all wanted (numbers_below m.objects) =
    all_alike kept wanted 0 m.objects (λ o below. rw (are.objects o (omega arith), also.objects o (omega arith)) refl)
    in
    all_references (λ v. not (kept_set part v) || kept_set whole v) m.objects
    ∙ ap (λ b. b && list_all kept (numbers_below m.objects)) (rw (are.null, also.null) refl)
    ∙ ap (λ b. (not (s Null) || t Null) && b) objects
    ∙ sym (all_references (λ v. not (s v) || t v) m.objects)

pub class_kept : (m : Reading) (s : ValueSet) (found : Members) (c : ℕ) (r : RelVar) → AreMembers m s found
    → are_of m (kept_set found) c r ≡ are_of m s c r
class_kept m s found c r are =
    let kept = λ (o : ℕ). not (has_object (kept_set found) o) || int_eq (m.number r o) (pos c) in
    let wanted = λ (o : ℕ). not (has_object s o) || int_eq (m.number r o) (pos c) in
    all_alike kept wanted 0 m.objects (λ o below. rw (are.objects o (omega arith)) refl)

pub changed_kept : (m : Reading) (s : ValueSet) (found : Members) (new given old : RelVar) → AreMembers m s found
    → is_changed m new (kept_set found) given old ≡ is_changed m new s given old
changed_kept m s found new given old are =
    let at = λ (b : Bool) (o : ℕ). if b then same_at m new o given 0 else same_at m new o old o in
    all_alike (λ o. at (has_object (kept_set found) o) o) (λ o. at (has_object s o) o) 0 m.objects (λ o below. ap (λ b. at b o) (are.objects o (omega arith)))
