-- Operators have their kinds.
use Rattle.std.proofs.Common.{◌≡◌, ℕ, ◌++◌, [], Option, None, Some, Bool, true, false, refl, ap, ◌∙◌}
use Rattle.std.specs.Prelude.{◌&&◌, ◌||◌, neg_ℤ}
use Rattle.java_tree.specs.declared.expressions.Sign.{Sign}
use Rattle.java_tree.specs.declared.expressions.Sign.TheVariants as sign
use Rattle.taco_unit.specs.declared.kind.Kind.TheVariants as kind
use Rattle.taco_unit.specs.declared.expr.Expr.TheVariants as e
use Rattle.taco_unit.specs.declared.expr.Op.TheVariants as op
use Rattle.taco_unit.specs.Kinds.{Around, Sort as UnitSort, Of, Form as UnitForm, Code, Entry, Exit, Past, suits, alike, where_, sort_of, in_clause, in_code, in_exit}
use Rattle.taco_unit.proofs.KindForms.{sort_bin, sort_not, sort_neg, sort_num}
use Rattle.declared_names.specs.declared.fault.Cause.TheVariants.{Kinds}
use Rattle.declared_names.specs.declared.sort.Sort.TheVariants.{Int, Flag}
use Rattle.typed_forms.specs.declared.typed.Typed.{Typed}
use Rattle.declared_names.specs.declared.world.Form.{Form}
use Rattle.declared_names.specs.declared.world.Form.TheVariants as form
use Rattle.declared_names.specs.Faults.{check}
use Rattle.typed_forms.specs.Operators.{typed, wants, operand_sort, operand_faults, operated, op_of, result_sort, is_of_code, negated, minus_value, minus_of, literal}
use Rattle.declared_names.specs.Seen.{Seen}
use Rattle.typed_forms.specs.Clauses.{is_clause, is_exit}
use Rattle.typed_statements.proofs.Stand.{OnStands, on_unless, on_over, nothing_left, nothing_right, passes}
use Rattle.typed_statements.proofs.Suits.{as_sort, is_known, HasSort, wanted_suits, compared_alike, both_pass, one_passes}

-- where an expression stands, in the unit
abbrev pub form_of : Form → UnitForm
form_of form.Code = Code
form_of form.Entry = Entry
form_of form.Exit = Exit
form_of form.Past = Past

pub clause_form : (f : Form) (s : UnitSort) → is_clause f ≡ true → in_clause (form_of f) s ≡ s
clause_form form.Code s is = absurd (cc)
clause_form form.Entry s is = refl
clause_form form.Exit s is = refl
clause_form form.Past s is = refl

pub code_form : (f : Form) (s : UnitSort) → is_clause f ≡ false → in_code (form_of f) s ≡ s
code_form form.Code s is = refl
code_form form.Entry s is = absurd (cc)
code_form form.Exit s is = absurd (cc)
code_form form.Past s is = absurd (cc)

pub exit_form : (f : Form) (s : UnitSort) → is_exit f ≡ true → in_exit (form_of f) s ≡ s
exit_form form.Code s is = absurd (cc)
exit_form form.Entry s is = absurd (cc)
exit_form form.Exit s is = refl
exit_form form.Past s is = absurd (cc)

or_true : (b : Bool) → (b || false) ≡ true → b ≡ true
or_true true is = refl
or_true false is = is

ints : (x y : Typed) (k : Around) (r : UnitSort) → HasSort k x → HasSort k y → wants Int x ++ wants Int y ≡ [] → where_ (suits kind.Int (sort_of x.expr k) && suits kind.Int (sort_of y.expr k)) r ≡ r
ints x y k r h i none =
    both_pass (suits kind.Int (sort_of x.expr k)) (suits kind.Int (sort_of y.expr k)) r (wanted_suits Int x k refl h (nothing_left (wants Int x) (wants Int y) none))
    (wanted_suits Int y k refl i (nothing_right (wants Int x) (wants Int y) none))

flags : (x y : Typed) (k : Around) (r : UnitSort) → HasSort k x → HasSort k y → wants Flag x ++ wants Flag y ≡ [] → where_ (suits kind.Flag (sort_of x.expr k) && suits kind.Flag (sort_of y.expr k)) r ≡ r
flags x y k r h i none =
    both_pass (suits kind.Flag (sort_of x.expr k)) (suits kind.Flag (sort_of y.expr k)) r (wanted_suits Flag x k refl h (nothing_left (wants Flag x) (wants Flag y) none))
    (wanted_suits Flag y k refl i (nothing_right (wants Flag x) (wants Flag y) none))

bin_sort : (s : Sign) (f : Form) (x y : Typed) (k : Around) → k.form ≡ form_of f → HasSort k x → HasSort k y → (is_clause f || is_of_code s) ≡ true → operand_faults (operand_sort s) x y ≡ []
    → sort_of (e.Bin (op_of s) x.expr y.expr) k ≡ as_sort (result_sort s)
bin_sort sign.Add f x y k at h i side none = sort_bin op.Add x.expr y.expr k ∙ ints x y k (Of kind.Int) h i none
bin_sort sign.Sub f x y k at h i side none = sort_bin op.Sub x.expr y.expr k ∙ ints x y k (Of kind.Int) h i none
bin_sort sign.Mul f x y k at h i side none = sort_bin op.Mul x.expr y.expr k ∙ ints x y k (Of kind.Int) h i none
bin_sort sign.Eq f x y k at h i side none = sort_bin op.Eq x.expr y.expr k ∙ one_passes (alike (sort_of x.expr k) (sort_of y.expr k)) (Of kind.Flag) (compared_alike x y k h i none)
bin_sort sign.Ne f x y k at h i side none = sort_bin op.Ne x.expr y.expr k ∙ one_passes (alike (sort_of x.expr k) (sort_of y.expr k)) (Of kind.Flag) (compared_alike x y k h i none)
bin_sort sign.Lt f x y k at h i side none = sort_bin op.Lt x.expr y.expr k ∙ ints x y k (Of kind.Flag) h i none
bin_sort sign.Le f x y k at h i side none = sort_bin op.Le x.expr y.expr k ∙ ints x y k (Of kind.Flag) h i none
bin_sort sign.Gt f x y k at h i side none = sort_bin op.Gt x.expr y.expr k ∙ ints x y k (Of kind.Flag) h i none
bin_sort sign.Ge f x y k at h i side none = sort_bin op.Ge x.expr y.expr k ∙ ints x y k (Of kind.Flag) h i none
bin_sort sign.And f x y k at h i side none = sort_bin op.And x.expr y.expr k ∙ flags x y k (Of kind.Flag) h i none
bin_sort sign.Or f x y k at h i side none = sort_bin op.Or x.expr y.expr k ∙ flags x y k (Of kind.Flag) h i none
bin_sort sign.Implies f x y k at h i side none =
    sort_bin op.Implies x.expr y.expr k ∙ ap (λ g. in_clause g (where_ (suits kind.Flag (sort_of x.expr k) && suits kind.Flag (sort_of y.expr k)) (Of kind.Flag))) at ∙ ap (in_clause (form_of f)) (flags x y k (Of kind.Flag) h i none) ∙ clause_form f (Of kind.Flag) (or_true (is_clause f) side)
bin_sort sign.Iff f x y k at h i side none =
    sort_bin op.Iff x.expr y.expr k ∙ ap (λ g. in_clause g (where_ (suits kind.Flag (sort_of x.expr k) && suits kind.Flag (sort_of y.expr k)) (Of kind.Flag))) at ∙ ap (in_clause (form_of f)) (flags x y k (Of kind.Flag) h i none) ∙ clause_form f (Of kind.Flag) (or_true (is_clause f) side)

result_known : (s : Sign) → is_known (result_sort s) ≡ true
result_known sign.Add = refl
result_known sign.Sub = refl
result_known sign.Mul = refl
result_known sign.Eq = refl
result_known sign.Ne = refl
result_known sign.Lt = refl
result_known sign.Le = refl
result_known sign.Gt = refl
result_known sign.Ge = refl
result_known sign.And = refl
result_known sign.Or = refl
result_known sign.Implies = refl
result_known sign.Iff = refl

pub operated_sort : (at : ℕ) (s : Sign) (f : Form) (x y : Typed) (k : Around) → k.form ≡ form_of f → HasSort k x → HasSort k y → OnStands (operated at (is_clause f) s x y) (HasSort k)
operated_sort at s f x y k is h i =
    on_unless (HasSort k) (check (is_clause f || is_of_code s) at Kinds ++ operand_faults (operand_sort s) x y) (typed at (result_sort s) (e.Bin (op_of s) x.expr y.expr))
    (λ none.
    record {
      sort = bin_sort s f x y k is h i (passes (is_clause f || is_of_code s) at Kinds (nothing_left (check (is_clause f || is_of_code s) at Kinds) (operand_faults (operand_sort s) x y) none))
          (nothing_right (check (is_clause f || is_of_code s) at Kinds) (operand_faults (operand_sort s) x y) none);
      known = result_known s;
    })

pub negated_sort : (at : ℕ) (x : Typed) (k : Around) → HasSort k x → OnStands (negated at x) (HasSort k)
negated_sort at x k h =
    on_unless (HasSort k) (wants Flag x) (typed at Flag (e.Not x.expr))
    (λ none. record { sort = sort_not x.expr k ∙ one_passes (suits kind.Flag (sort_of x.expr k)) (Of kind.Flag) (wanted_suits Flag x k refl h none); known = refl })

pub minus_value_sort : (at : ℕ) (x : Typed) (k : Around) → HasSort k x → OnStands (minus_value at x) (HasSort k)
minus_value_sort at x k h =
    on_unless (HasSort k) (wants Int x) (typed at Int (e.Neg x.expr))
    (λ none. record { sort = sort_neg x.expr k ∙ one_passes (suits kind.Int (sort_of x.expr k)) (Of kind.Int) (wanted_suits Int x k refl h none); known = refl })

pub minus_sort : (at : ℕ) (n : Option ℕ) (a : Seen Typed) (k : Around) → OnStands a (HasSort k) → OnStands (minus_of at n a) (HasSort k)
minus_sort at None a k h = on_over (HasSort k) (HasSort k) a (minus_value at) h (λ x i. minus_value_sort at x k i)
minus_sort at (Some n) a k h = record { sort = sort_num (neg_ℤ (literal n)) k; known = refl }
