-- What operators make of truth values and of outcomes.
use Rattle.std.proofs.Common.{◌≡◌, Bool, true, false, not, ◌&&◌, ◌||◌, refl, sym, ap, ◌∙◌, subst}
use Rattle.std.specs.Prelude.{if◌then◌else◌, ℤ, Option, Some, None, option_map}
use Rattle.std.proofs.lemmas.Bool.{false≢true}
use Rattle.heap_core.specs.declared.value.Value.{Value}
use Rattle.heap_core.specs.declared.value.Value.TheVariants.{Null, Obj, Num, Flag}
use Rattle.heap_core.specs.declared.value.Seen.{Seen}
use Rattle.heap_core.specs.declared.value.Seen.TheVariants.{Is, Bad, Out}
use Rattle.heap_core.specs.Outcomes.{is_out, is_true, value_in, flag, as_flag, with_flag}
use Rattle.rel_core.specs.declared.formula.Formula.{Formula}
use Rattle.rel_core.specs.declared.formula.Formula.TheVariants.{Const}
use Rattle.rel_core.specs.Reading.{Reading}
use Rattle.rel_core.specs.Meaning.{number_of, holds}
use Rattle.rel_core.proofs.Forms.{holds_const}
use Rattle.clause_terms.specs.declared.term.Shape.{Shape}
use Rattle.clause_terms.specs.declared.term.Shape.TheVariants as shape
use Rattle.clause_terms.specs.declared.term.Term.{Term}
use Rattle.clause_terms.specs.declared.term.Truth.{Truth}
use Rattle.clause_terms.specs.Terms.{HasValue, Tells, Judges, gives_flag}

or_true : (b : Bool) → (b || true) ≡ true
or_true true = refl
or_true false = refl

and_true : (b : Bool) → (b && true) ≡ b
and_true true = refl
and_true false = refl

and_false : (b : Bool) → (b && false) ≡ false
and_false true = refl
and_false false = refl

-- the constant true is implied
pub certain : (f : Formula) (m : Reading) (b : Bool) → f ≡ Const true → holds f m ≡ (b || holds f m)
certain f m b is = let here : holds f m ≡ true = ap (λ g. holds g m) is ∙ holds_const true m in here ∙ sym (ap (λ x. b || x) here ∙ or_true b)

-- ## an outcome as a truth value

pub gives_as_flag : (s : Seen) → gives_flag (as_flag s) ≡ gives_flag s
gives_as_flag Bad = refl
gives_as_flag Out = refl
gives_as_flag (Is Null) = refl
gives_as_flag (Is (Obj o)) = refl
gives_as_flag (Is (Num z)) = refl
gives_as_flag (Is (Flag b)) = refl

pub twice_as_flag : (s : Seen) → as_flag (as_flag s) ≡ as_flag s
twice_as_flag Bad = refl
twice_as_flag Out = refl
twice_as_flag (Is Null) = refl
twice_as_flag (Is (Obj o)) = refl
twice_as_flag (Is (Num z)) = refl
twice_as_flag (Is (Flag b)) = refl

pub true_as_flag : (s : Seen) → is_true (as_flag s) ≡ is_true s
true_as_flag Bad = refl
true_as_flag Out = refl
true_as_flag (Is Null) = refl
true_as_flag (Is (Obj o)) = refl
true_as_flag (Is (Num z)) = refl
true_as_flag (Is (Flag b)) = refl

pub judges_as_flag : (s : Seen) (t : Truth) (m : Reading) → Judges s t m → Judges (as_flag s) t m
judges_as_flag s t m j = record {
  fine = j.fine ∙ sym (gives_as_flag s);
  inside = j.inside ∙ ap (λ x. not (is_out x)) (sym (twice_as_flag s));
  value = λ is. j.value (sym (gives_as_flag s) ∙ is) ∙ sym (true_as_flag s);
}

-- a term of a truth value is a truth
pub truth_is : (x : Seen) (t : Term) (f : Formula) (m : Reading) → t.value ≡ shape.Truth f → Tells x t m → Judges x (record { value = f; fine = t.fine; inside = t.inside }) m
truth_is Bad t f m is told = record { fine = told.fine; inside = told.inside; value = λ no. absurd (false≢true no) }
truth_is Out t f m is told = record { fine = told.fine; inside = told.inside; value = λ no. absurd (false≢true no) }
truth_is (Is v) t f m is told =
    let same : v ≡ Flag (holds f m) = subst (λ s. HasValue m s v) is told.value in
    subst (λ w. Judges (Is w) (record { value = f; fine = t.fine; inside = t.inside }) m) (sym same) (record { fine = told.fine; inside = told.inside; value = λ yes. refl })

-- a term of another shape is none
abbrev pub is_truth_shape : Shape → Bool
is_truth_shape (shape.Truth f) = true
is_truth_shape _ = false

no_flag : (m : Reading) (s : Shape) (v : Value) → is_truth_shape s ≡ false → HasValue m s v → (gives_flag (Is v) ≡ false) × (as_flag (Is v) ≡ Out)
no_flag m s Null other has = (refl, refl)
no_flag m s (Obj o) other has = (refl, refl)
no_flag m s (Num z) other has = (refl, refl)
no_flag m (shape.Set e) (Flag b) other has = absurd (false≢true has.reference)
no_flag m (shape.Number n) (Flag b) other has = absurd (never (number_of n m) has)
  where
    never : (z : Option ℤ) → option_map Num z ≡ Some (Flag b) → ⊥
    never None is = false≢true (ap (λ v. gives_flag (value_in v)) is)
    never (Some z) is = false≢true (ap (λ v. gives_flag (value_in v)) is)
no_flag m (shape.Truth f) (Flag b) other has = absurd (false≢true (sym other))

pub truth_is_none : (x : Seen) (t : Term) (r : Truth) (m : Reading) → is_truth_shape t.value ≡ false → holds r.fine m ≡ false → holds r.inside m ≡ (holds t.inside m && not (holds t.fine m))
    → Tells x t m → Judges x r m
truth_is_none Bad t r m other fine inside told = record { fine = fine; inside = rw (inside, told.inside, told.fine) refl; value = λ no. absurd (false≢true no) }
truth_is_none Out t r m other fine inside told = record { fine = fine; inside = rw (inside, told.inside) refl; value = λ no. absurd (false≢true no) }
truth_is_none (Is v) t r m other fine inside told =
    let none = no_flag m t.value v other told.value in
    record {
      fine = fine ∙ sym none.0;
      inside = inside ∙ ap (λ b. holds t.inside m && not b) told.fine ∙ and_false (holds t.inside m) ∙ sym (ap (λ s. not (is_out s)) none.1);
      value = λ no. absurd (false≢true (sym none.0 ∙ no));
    }

-- ## operators that look at the right operand where the left one decides nothing

pub told_lazy : (m : Reading) (goes : Bool → Bool) (decided : Bool) (k : Bool → Seen) (x y : Seen) (a b r : Truth) (when : Bool)
    → ((v : Bool) → k v ≡ (if goes v then as_flag y else flag decided))
    → Judges x a m → Judges y b m
    → when ≡ goes (holds a.value m)
    → holds r.fine m ≡ (holds a.fine m && (not when || holds b.fine m))
    → holds r.inside m ≡ (holds a.inside m && (not (holds a.fine m) || (not when || holds b.inside m)))
    → holds r.value m ≡ (if when then holds b.value m else decided)
    → Judges (with_flag x k) r m
told_lazy m goes decided k Bad y a b r when means left right is fine inside value =
    record { fine = rw (fine, left.fine) refl; inside = rw (inside, left.inside, left.fine) refl; value = λ no. absurd (false≢true no) }
told_lazy m goes decided k Out y a b r when means left right is fine inside value =
    record { fine = rw (fine, left.fine) refl; inside = rw (inside, left.inside) refl; value = λ no. absurd (false≢true no) }
told_lazy m goes decided k (Is Null) y a b r when means left right is fine inside value =
    record { fine = rw (fine, left.fine) refl; inside = rw (inside, left.inside) refl; value = λ no. absurd (false≢true no) }
told_lazy m goes decided k (Is (Obj o)) y a b r when means left right is fine inside value =
    record { fine = rw (fine, left.fine) refl; inside = rw (inside, left.inside) refl; value = λ no. absurd (false≢true no) }
told_lazy m goes decided k (Is (Num z)) y a b r when means left right is fine inside value =
    record { fine = rw (fine, left.fine) refl; inside = rw (inside, left.inside) refl; value = λ no. absurd (false≢true no) }
told_lazy m goes decided k (Is (Flag v)) y a b r when means left right is fine inside value =
    let here : when ≡ goes v = is ∙ ap goes (left.value refl) in
    subst (λ s. Judges s r m) (sym (means v)) (go (goes v) (sym here))
  where
    go : (g : Bool) → g ≡ when → Judges (if g then as_flag y else flag decided) r m
    go true w =
        let j = judges_as_flag y b m right in
        record {
          fine = rw (fine, left.fine, ← w) j.fine;
          inside = rw (inside, left.inside, left.fine, ← w) j.inside;
          value = λ yes. rw (value, ← w) (j.value yes);
        }
    go false w = record {
      fine = rw (fine, left.fine, ← w) refl;
      inside = rw (inside, left.inside, left.fine, ← w) refl;
      value = λ yes. rw (value, ← w) refl;
    }

pub and_is : (a b : Bool) → (a && b) ≡ (if a then b else false)
and_is true b = refl
and_is false b = refl

pub implies_is : (a b : Bool) → (not a || b) ≡ (if a then b else true)
implies_is true b = refl
implies_is false b = refl

pub or_is : (w a b : Bool) → w ≡ not a → (a || b) ≡ (if w then b else true)
or_is w true b is = rw is refl
or_is w false b is = rw is refl

pub or_means : (y : Seen) (v : Bool) → (if v then flag true else as_flag y) ≡ (if not v then as_flag y else flag true)
or_means y true = refl
or_means y false = refl
