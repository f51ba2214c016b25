-- Operators of references and of truth values, and of values of two kinds.
use Rattle.std.proofs.Common.{◌≡◌, ℕ, Bool, false, refl, sym, ap, ◌∙◌, subst}
use Rattle.std.specs.Prelude.{◌≢◌, ◌==◌, ℤ}
use Rattle.std.proofs.lemmas.Bool.{false≢true}
use Rattle.taco_unit.specs.declared.expr.Op.{Op}
use Rattle.taco_unit.specs.declared.expr.Op.TheVariants as op
use Rattle.heap_core.specs.declared.value.Value.{Value}
use Rattle.heap_core.specs.declared.value.Value.TheVariants.{Null, Obj, Num, Flag}
use Rattle.heap_core.specs.declared.value.Seen.{Seen}
use Rattle.heap_core.specs.declared.value.Seen.TheVariants.{Out}
use Rattle.heap_core.specs.Outcomes.{same, is_value, flag, opposite, with_value, on_numbers, equivalent, operated}
use Rattle.rel_core.specs.declared.sets.RelExpr.{RelExpr}
use Rattle.rel_core.specs.Reading.{Reading}
use Rattle.clause_terms.specs.declared.term.Shape.{Shape}
use Rattle.clause_terms.specs.declared.term.Shape.TheVariants as shape
use Rattle.clause_terms.specs.declared.term.Term.{Term}
use Rattle.clause_terms.specs.Terms.{HasValue, Tells}
use Rattle.clause_terms.proofs.NumberTerms.{has_number}

-- ## an operator that gives nothing

operated_out : (o : Op) (w : ℕ) (v u : Value) → ((k : ℤ → ℤ → Seen) → on_numbers k v u ≡ Out) → (o ≡ op.Eq → same v u ≡ Out) → (o ≡ op.Ne → same v u ≡ Out) →
    (o ≡ op.Iff → equivalent v u ≡ Out) → operated o w v u ≡ Out
operated_out op.Add w v u nums eq ne iff = nums _
operated_out op.Sub w v u nums eq ne iff = nums _
operated_out op.Mul w v u nums eq ne iff = nums _
operated_out op.Lt w v u nums eq ne iff = nums _
operated_out op.Le w v u nums eq ne iff = nums _
operated_out op.Gt w v u nums eq ne iff = nums _
operated_out op.Ge w v u nums eq ne iff = nums _
operated_out op.Eq w v u nums eq ne iff = eq refl
operated_out op.Ne w v u nums eq ne iff = ap (λ s. with_value s opposite) (ne refl)
operated_out op.Iff w v u nums eq ne iff = iff refl
operated_out op.And w v u nums eq ne iff = refl
operated_out op.Or w v u nums eq ne iff = refl
operated_out op.Implies w v u nums eq ne iff = refl

-- ## values of two kinds

-- references, numbers and truth values
abbrev tag : Value → ℕ
tag Null = 0
tag (Obj o) = 0
tag (Num z) = 1
tag (Flag b) = 2

numbers_apart : (k : ℤ → ℤ → Seen) (v u : Value) → (tag v == tag u) ≡ false → on_numbers k v u ≡ Out
numbers_apart k Null u apart = refl
numbers_apart k (Obj o) u apart = refl
numbers_apart k (Flag b) u apart = refl
numbers_apart k (Num x) Null apart = refl
numbers_apart k (Num x) (Obj p) apart = refl
numbers_apart k (Num x) (Flag c) apart = refl
numbers_apart k (Num x) (Num y) apart = absurd (false≢true (sym apart))

same_apart : (v u : Value) → (tag v == tag u) ≡ false → same v u ≡ Out
same_apart Null Null apart = absurd (false≢true (sym apart))
same_apart Null (Obj p) apart = absurd (false≢true (sym apart))
same_apart Null (Num y) apart = refl
same_apart Null (Flag c) apart = refl
same_apart (Obj o) Null apart = absurd (false≢true (sym apart))
same_apart (Obj o) (Obj p) apart = absurd (false≢true (sym apart))
same_apart (Obj o) (Num y) apart = refl
same_apart (Obj o) (Flag c) apart = refl
same_apart (Num x) Null apart = refl
same_apart (Num x) (Obj p) apart = refl
same_apart (Num x) (Num y) apart = absurd (false≢true (sym apart))
same_apart (Num x) (Flag c) apart = refl
same_apart (Flag b) Null apart = refl
same_apart (Flag b) (Obj p) apart = refl
same_apart (Flag b) (Num y) apart = refl
same_apart (Flag b) (Flag c) apart = absurd (false≢true (sym apart))

equivalent_apart : (v u : Value) → (tag v == tag u) ≡ false → equivalent v u ≡ Out
equivalent_apart Null u apart = refl
equivalent_apart (Obj o) u apart = refl
equivalent_apart (Num x) u apart = refl
equivalent_apart (Flag b) Null apart = refl
equivalent_apart (Flag b) (Obj p) apart = refl
equivalent_apart (Flag b) (Num y) apart = refl
equivalent_apart (Flag b) (Flag c) apart = absurd (false≢true (sym apart))

-- the kind of a shape is that of its value
abbrev pub shape_tag : Shape → ℕ
shape_tag (shape.Set e) = 0
shape_tag (shape.Number n) = 1
shape_tag (shape.Truth f) = 2

same_tag : (m : Reading) (s : Shape) (v : Value) → HasValue m s v → tag v ≡ shape_tag s
same_tag m (shape.Set e) Null has = refl
same_tag m (shape.Set e) (Obj o) has = refl
same_tag m (shape.Set e) (Num z) has = absurd (false≢true has.reference)
same_tag m (shape.Set e) (Flag b) has = absurd (false≢true has.reference)
same_tag m (shape.Number n) v has = ap tag (has_number m n v has).is
same_tag m (shape.Truth f) v has = ap tag has

pub mixed : (o : Op) (m : Reading) (s q : Shape) (t : Term) (v u : Value) → (shape_tag s == shape_tag q) ≡ false → HasValue m s v → HasValue m q u → Tells Out t m → Tells (operated o m.ints v u) t m
mixed o m s q t v u apart one two told =
    let a : (tag v == tag u) ≡ false = ap (λ x. x == tag u) (same_tag m s v one) ∙ ap (λ x. shape_tag s == x) (same_tag m q u two) ∙ apart in
    subst (λ r. Tells r t m) (sym (operated_out o m.ints v u (λ k. numbers_apart k v u a) (λ is. same_apart v u a) (λ is. same_apart v u a) (λ is. equivalent_apart v u a))) told

-- ## two references

pub reference_same : (m : Reading) (d e : RelExpr) (v u : Value) → HasValue m (shape.Set d) v → HasValue m (shape.Set e) u → same v u ≡ flag (is_value v u)
reference_same m d e Null Null one two = refl
reference_same m d e Null (Obj p) one two = refl
reference_same m d e (Obj o) Null one two = refl
reference_same m d e (Obj o) (Obj p) one two = refl
reference_same m d e Null (Num y) one two = absurd (false≢true two.reference)
reference_same m d e Null (Flag c) one two = absurd (false≢true two.reference)
reference_same m d e (Obj o) (Num y) one two = absurd (false≢true two.reference)
reference_same m d e (Obj o) (Flag c) one two = absurd (false≢true two.reference)
reference_same m d e (Num x) u one two = absurd (false≢true one.reference)
reference_same m d e (Flag b) u one two = absurd (false≢true one.reference)

pub references_out : (o : Op) (m : Reading) (d : RelExpr) (t : Term) (v u : Value) → o ≢ op.Eq → o ≢ op.Ne → HasValue m (shape.Set d) v → Tells Out t m → Tells (operated o m.ints v u) t m
references_out o m d t Null u eq ne one told = subst (λ r. Tells r t m) (sym (operated_out o m.ints Null u (λ k. refl) (λ is. absurd (eq is)) (λ is. absurd (ne is)) (λ is. refl))) told
references_out o m d t (Obj p) u eq ne one told = subst (λ r. Tells r t m) (sym (operated_out o m.ints (Obj p) u (λ k. refl) (λ is. absurd (eq is)) (λ is. absurd (ne is)) (λ is. refl))) told
references_out o m d t (Num z) u eq ne one told = absurd (false≢true one.reference)
references_out o m d t (Flag b) u eq ne one told = absurd (false≢true one.reference)

-- ## two truth values

pub truths_out : (o : Op) (m : Reading) (t : Term) (a b : Bool) → o ≢ op.Eq → o ≢ op.Ne → o ≢ op.Iff → Tells Out t m → Tells (operated o m.ints (Flag a) (Flag b)) t m
truths_out o m t a b eq ne iff told = subst (λ r. Tells r t m) (sym (operated_out o m.ints (Flag a) (Flag b) (λ k. refl) (λ is. absurd (eq is)) (λ is. absurd (ne is)) (λ is. absurd (iff is)))) told
