-- The parts of actions that set a variable.
use Rattle.std.proofs.Common.{◌≡◌, ℕ, Bool, true, false, not, ◌&&◌, List, Some, refl, sym, ◌∙◌, ap, subst}
use Rattle.std.specs.Prelude.{◌==◌, ℤ, ◌+ℤ◌, ◌-ℤ◌, ◌*ℤ◌, int_lt, slice_get, option_map, unwrap_or}
use Rattle.std.specs.Option.{option_map_or}
use Rattle.std.proofs.lemmas.Bool.{and_parts, and_from, or_left, or_right, eq-eqb, ne_eqb, false≢true}
use Rattle.std.proofs.lemmas.Option.{unwrap_or-slice_get}
use Rattle.taco_unit.specs.declared.kind.Kind.{Kind}
use Rattle.taco_unit.specs.declared.kind.Kind.TheVariants as kind
use Rattle.taco_unit.specs.declared.unit.FieldDef.{FieldDef}
use Rattle.taco_unit.specs.Well.{IsWell}
use Rattle.heap_core.specs.declared.value.Value.{Value}
use Rattle.heap_core.specs.declared.value.Value.TheVariants.{Null, Obj, Num, Flag}
use Rattle.heap_core.specs.declared.value.Seen.{Seen}
use Rattle.heap_core.specs.declared.value.Seen.TheVariants.{Is}
use Rattle.heap_core.specs.Posed.{Posed, InRange}
use Rattle.heap_core.specs.Outcomes.{number, flag, on_numbers, same, same_flag}
use Rattle.heap_core.specs.Heap.{field}
use Rattle.heap_core.specs.Start.{has_kind}
use Rattle.rel_core.specs.declared.formula.Formula.{Formula}
use Rattle.rel_core.specs.declared.relation.RelVar.{RelVar}
use Rattle.rel_core.specs.declared.relation.What.TheVariants as what
use Rattle.rel_core.specs.Reading.{Reading}
use Rattle.rel_core.specs.Meaning.{holds, fitting}
use Rattle.rel_core.specs.Uses.{Kinds, Use, AsSet, AsNumber, AsFlag, AsClass, same_use, use_of_kind, is_variable, is_spread, is_sorted, IsOf}
use Rattle.rel_core.specs.Shown.{ShowsValue}
use Rattle.dyn_core.specs.declared.prog.Act.TheVariants.{Copy, Const, Sum, Diff, Product, Same, Below, Read}
use Rattle.dyn_core.specs.declared.state.DynState.{DynState}
use Rattle.dyn_core.specs.States.{var_at}
use Rattle.dyn_core.specs.Actions.{constant}
use Rattle.dyn_core.specs.Kinds.{is_var, are_alike, are_numbers, takes_constant, HasKinds}
use Rattle.dyn_core.proofs.Fitting.{there_passes, var_is, alike_is, field_is}
use Rattle.dyn_core.proofs.Kept.{act_keeps_kinds}
use Rattle.dyn_steps.specs.declared.part.Front.{Front}
use Rattle.dyn_steps.specs.Points.{relation_at, slot}
use Rattle.dyn_steps.specs.Looked.{Vars, without, with_one, kind_at, looked_at}
use Rattle.dyn_steps.specs.Meanings.{same_variables, is_number, is_constant, is_through, is_cell}
use Rattle.dyn_steps.specs.Paths.{Shows, IsStep, var_set}
use Rattle.dyn_steps.proofs.Moving.{vars_shown}
use Rattle.dyn_steps.proofs.SetVars.{Sets, set_path}
use Rattle.dyn_steps.proofs.Saying.{Says, says_number, says_flag, says_null, says_copy, sameness, says_cell, says_through, says_null_way}

-- ## sets of variables

pub one_in : (x : ℕ) (vars : Vars) → with_one x vars x ≡ true
one_in x vars = or_left (x == x) (vars x) (eq-eqb x x refl)

pub more_in : (x : ℕ) (vars : Vars) (y : ℕ) → vars y ≡ true → with_one x vars y ≡ true
more_in x vars y inside = or_right (y == x) (vars y) inside

pub others_in : (x : ℕ) (vars : Vars) (y : ℕ) → vars y ≡ true → (y ≡ x → ⊥) → without x vars y ≡ true
others_in x vars y inside apart = and_from (not (y == x)) (vars y) (ap not (ne_eqb y x apart)) inside

-- ## uses

pub use_self : (u : Use) → same_use u u ≡ true
use_self AsSet = refl
use_self AsNumber = refl
use_self AsFlag = refl
use_self AsClass = refl

pub variable_used : (p : Posed) (kinds : List Kind) (x i : ℕ) (k : Kind) → slice_get kinds x ≡ Some k → is_variable p (slice_get kinds) (use_of_kind k) (slot x i) ≡ true
variable_used p kinds x i k is = ap (λ o. option_map_or (same_use (use_of_kind k)) (option_map use_of_kind o) false) is ∙ use_self (use_of_kind k)

pub field_used : (p : Posed) (kinds : Kinds) (f i : ℕ) (d : FieldDef) → slice_get p.unit.fields f ≡ Some d → is_spread p kinds (use_of_kind d.kind) (record { what = what.Field f; index = i }) ≡ true
field_used p kinds f i d is = ap (λ o. option_map_or (same_use (use_of_kind d.kind)) (option_map (λ (d : FieldDef). use_of_kind d.kind) o) false) is ∙ use_self (use_of_kind d.kind)

pub kind_known : (kinds : List Kind) (x : ℕ) (k : Kind) → slice_get kinds x ≡ Some k → kind_at kinds x ≡ k
kind_known kinds x k is = sym (unwrap_or-slice_get kinds x kind.Int) ∙ ap (λ o. unwrap_or o kind.Int) is

-- ## what a formula says

sets_from :
    (p : Posed) (kinds : List Kind) (before : Vars) (x : ℕ) (k : Kind) (eval : DynState → Seen) (from : Front) (f : Formula) (truth : Reading → Bool)
    → is_sorted p (slice_get kinds) f ≡ true
    → ((m : Reading) → holds f m ≡ truth m)
    → ((m : Reading) (s : DynState) → IsOf p (slice_get kinds) m → HasKinds p kinds s → Shows p kinds before m from.at s → Says m k (slot x from.next) (eval s) (truth m))
    → Sets p kinds before x k eval from f
sets_from p kinds before x k eval from f truth sorted meaning says = record {
  sorted = sorted;
  sound = λ m s of has shown is. (says m s of has shown).sound (sym (meaning m) ∙ is);
  full = λ m s v of has shown gives value. meaning m ∙ (says m s of has shown).full v gives value;
}

module _ (p : Posed) (kinds : List Kind) (from : Front) (f : Formula) (well : IsWell p.unit) (range : InRange p) where
  abbrev Sorted : Type 0
  Sorted = is_sorted p (slice_get kinds) f ≡ true

  abbrev old : ℕ → RelVar
  old y = relation_at from.at (what.Slot y)

  pub copy_step : (x y : ℕ) → ((k : Kind) → slice_get kinds x ≡ Some k → slice_get kinds y ≡ Some k → Sorted)
      → ((m : Reading) → holds f m ≡ same_variables m (kind_at kinds x) (slot x from.next) (old y)) → IsStep p kinds (Copy x y) from (var_set from x f)
  copy_step x y sorted meaning fits point after =
      let k = alike_is kinds x y fits in
      set_path p kinds (looked_at (Copy x y) after) after x k.0 (λ s. Is (var_at s.vars y)) from f well range k.1 point
      (λ z inside apart. more_in y (without x after) z (others_in x after z inside apart))
      (λ s t has run. (act_keeps_kinds p kinds well (Copy x y) s t fits has run).kinded)
      (sets_from p kinds (looked_at (Copy x y) after) x k.0 (λ s. Is (var_at s.vars y)) from f (λ m. same_variables m k.0 (slot x from.next) (old y)) (sorted k.0 k.1 k.2)
      (λ m. meaning m ∙ ap (λ j. same_variables m j (slot x from.next) (old y)) (kind_known kinds x k.0 k.1))
      (λ m s of has shown. says_copy p (slice_get kinds) m of k.0 (slot x from.next) (old y) (var_at s.vars y)
      (vars_shown p kinds (looked_at (Copy x y) after) m from.at s shown y k.0 (one_in y (without x after)) k.2)))

  pub const_step : (x : ℕ) (v : Value) → ((k : Kind) → slice_get kinds x ≡ Some k → takes_constant v k ≡ true → Sorted) → ((m : Reading) → holds f m ≡ is_constant m (slot x from.next) v)
      → IsStep p kinds (Const x v) from (var_set from x f)
  const_step x v sorted meaning fits point after =
      let k = there_passes (takes_constant v) (slice_get kinds x) fits in
      set_path p kinds (looked_at (Const x v) after) after x k.0 (λ s. constant p.scope.ints v) from f well range k.1 point
      (λ z inside apart. others_in x after z inside apart)
      (λ s t has run. (act_keeps_kinds p kinds well (Const x v) s t fits has run).kinded)
      (sets_from p kinds (looked_at (Const x v) after) x k.0 (λ s. constant p.scope.ints v) from f (λ m. is_constant m (slot x from.next) v) (sorted k.0 k.1 k.2) meaning
      (λ m s of has shown. says m of v k.0 k.2))
    where
      says : (m : Reading) → IsOf p (slice_get kinds) m → (v : Value) (k : Kind) → takes_constant v k ≡ true
          → Says m k (slot x from.next) (constant p.scope.ints v) (is_constant m (slot x from.next) v)
      says m of (Num z) kind.Int takes = subst (λ w. Says m kind.Int (slot x from.next) (number w z) (is_number m (slot x from.next) (fitting m.ints z))) of.ints (says_number m (slot x from.next) z)
      says m of (Num z) kind.Flag takes = absurd (false≢true takes)
      says m of (Num z) (kind.Ref c) takes = absurd (false≢true takes)
      says m of (Flag b) kind.Flag takes = says_flag m (slot x from.next) b
      says m of (Flag b) kind.Int takes = absurd (false≢true takes)
      says m of (Flag b) (kind.Ref c) takes = absurd (false≢true takes)
      says m of Null (kind.Ref c) takes = says_null p (slice_get kinds) m of c (slot x from.next)
      says m of Null kind.Int takes = absurd (false≢true takes)
      says m of Null kind.Flag takes = absurd (false≢true takes)
      says m of (Obj o) k takes = absurd (false≢true takes)

  -- ## operators on two numbers

  -- the kinds of their variables
  numbers_are : (x : ℕ) (k : Kind) (y z : ℕ) → are_numbers kinds x k y z ≡ true → (slice_get kinds x ≡ Some k) × (slice_get kinds y ≡ Some kind.Int) × (slice_get kinds z ≡ Some kind.Int)
  numbers_are x k y z fits =
      let both = and_parts (is_var kinds x k && is_var kinds y kind.Int) (is_var kinds z kind.Int) fits in
      let front = and_parts (is_var kinds x k) (is_var kinds y kind.Int) both.0 in
      (var_is kinds x k front.0, var_is kinds y kind.Int front.1, var_is kinds z kind.Int both.1)

  -- what is looked at before an action on two variables
  abbrev two : ℕ → ℕ → ℕ → Vars → Vars
  two x y z after = with_one y (with_one z (without x after))

  first_in : (x y z : ℕ) (after : Vars) → two x y z after y ≡ true
  first_in x y z after = one_in y (with_one z (without x after))

  second_in : (x y z : ℕ) (after : Vars) → two x y z after z ≡ true
  second_in x y z after = more_in y (with_one z (without x after)) z (one_in z (without x after))

  rest_in : (x y z : ℕ) (after : Vars) (w : ℕ) → after w ≡ true → (w ≡ x → ⊥) → two x y z after w ≡ true
  rest_in x y z after w inside apart = more_in y (with_one z (without x after)) w (more_in z (without x after) w (others_in x after w inside apart))

  operator_sets :
      (x y z : ℕ) (k : Kind) (make : ℤ → ℤ → Seen) (truth : Reading → Bool) (after : Vars)
      → are_numbers kinds x k y z ≡ true
      → Sorted
      → ((m : Reading) → holds f m ≡ truth m)
      → ((m : Reading) → m.ints ≡ p.scope.ints → Says m k (slot x from.next) (make (m.number (old y) 0) (m.number (old z) 0)) (truth m))
      → Sets p kinds (two x y z after) x k (λ s. on_numbers make (var_at s.vars y) (var_at s.vars z)) from f
  operator_sets x y z k make truth after fits sorted meaning says =
      let kinds_are = numbers_are x k y z fits in
      sets_from p kinds (two x y z after) x k (λ s. on_numbers make (var_at s.vars y) (var_at s.vars z)) from f truth sorted meaning (λ m s of has shown.
      let first : var_at s.vars y ≡ Num (m.number (old y) 0) = vars_shown p kinds (two x y z after) m from.at s shown y kind.Int (first_in x y z after) kinds_are.1 in
      let second : var_at s.vars z ≡ Num (m.number (old z) 0) = vars_shown p kinds (two x y z after) m from.at s shown z kind.Int (second_in x y z after) kinds_are.2 in
      subst (λ e. Says m k (slot x from.next) e (truth m)) (sym (ap (λ v. on_numbers make v (var_at s.vars z)) first ∙ ap (λ v. on_numbers make (Num (m.number (old y) 0)) v) second))
      (says m of.ints))

  says_made : (m : Reading) (x : ℕ) (z : ℤ) → m.ints ≡ p.scope.ints → Says m kind.Int (slot x from.next) (number p.scope.ints z) (is_number m (slot x from.next) (fitting m.ints z))
  says_made m x z same = subst (λ w. Says m kind.Int (slot x from.next) (number w z) (is_number m (slot x from.next) (fitting m.ints z))) same (says_number m (slot x from.next) z)

  -- the formula is sorted, where the kinds fit
  abbrev SortedNumbers : ℕ → Kind → ℕ → ℕ → Type 0
  SortedNumbers x k y z = slice_get kinds x ≡ Some k → slice_get kinds y ≡ Some kind.Int → slice_get kinds z ≡ Some kind.Int → Sorted

  abbrev made : (ℤ → ℤ → ℤ) → ℕ → ℕ → ℕ → Reading → Bool
  made make x y z m = is_number m (slot x from.next) (fitting m.ints (make (m.number (old y) 0) (m.number (old z) 0)))

  pub sum_step : (x y z : ℕ) → SortedNumbers x kind.Int y z → ((m : Reading) → holds f m ≡ made (λ a b. a +ℤ b) x y z m) → IsStep p kinds (Sum x y z) from (var_set from x f)
  sum_step x y z sorted meaning fits point after =
      let are = numbers_are x kind.Int y z fits in
      set_path p kinds (looked_at (Sum x y z) after) after x kind.Int (λ s. on_numbers (λ a b. number p.scope.ints (a +ℤ b)) (var_at s.vars y) (var_at s.vars z)) from f well range are.0 point
      (rest_in x y z after)
      (λ s t has run. (act_keeps_kinds p kinds well (Sum x y z) s t fits has run).kinded)
      (operator_sets x y z kind.Int (λ a b. number p.scope.ints (a +ℤ b)) (made (λ a b. a +ℤ b) x y z) after fits (sorted are.0 are.1 are.2) meaning
      (λ m same. says_made m x (m.number (old y) 0 +ℤ m.number (old z) 0) same))

  pub difference_step : (x y z : ℕ) → SortedNumbers x kind.Int y z → ((m : Reading) → holds f m ≡ made (λ a b. a -ℤ b) x y z m) → IsStep p kinds (Diff x y z) from (var_set from x f)
  difference_step x y z sorted meaning fits point after =
      let are = numbers_are x kind.Int y z fits in
      set_path p kinds (looked_at (Diff x y z) after) after x kind.Int (λ s. on_numbers (λ a b. number p.scope.ints (a -ℤ b)) (var_at s.vars y) (var_at s.vars z)) from f well range are.0 point
      (rest_in x y z after)
      (λ s t has run. (act_keeps_kinds p kinds well (Diff x y z) s t fits has run).kinded)
      (operator_sets x y z kind.Int (λ a b. number p.scope.ints (a -ℤ b)) (made (λ a b. a -ℤ b) x y z) after fits (sorted are.0 are.1 are.2) meaning
      (λ m same. says_made m x (m.number (old y) 0 -ℤ m.number (old z) 0) same))

  pub product_step : (x y z : ℕ) → SortedNumbers x kind.Int y z → ((m : Reading) → holds f m ≡ made (λ a b. a *ℤ b) x y z m) → IsStep p kinds (Product x y z) from (var_set from x f)
  product_step x y z sorted meaning fits point after =
      let are = numbers_are x kind.Int y z fits in
      set_path p kinds (looked_at (Product x y z) after) after x kind.Int (λ s. on_numbers (λ a b. number p.scope.ints (a *ℤ b)) (var_at s.vars y) (var_at s.vars z)) from f well range are.0 point
      (rest_in x y z after)
      (λ s t has run. (act_keeps_kinds p kinds well (Product x y z) s t fits has run).kinded)
      (operator_sets x y z kind.Int (λ a b. number p.scope.ints (a *ℤ b)) (made (λ a b. a *ℤ b) x y z) after fits (sorted are.0 are.1 are.2) meaning
      (λ m same. says_made m x (m.number (old y) 0 *ℤ m.number (old z) 0) same))

  abbrev ordered : ℕ → ℕ → ℕ → Reading → Bool
  ordered x y z m = same_flag (m.flag (slot x from.next) 0) (int_lt (m.number (old y) 0) (m.number (old z) 0))

  pub below_step : (x y z : ℕ) → SortedNumbers x kind.Flag y z → ((m : Reading) → holds f m ≡ ordered x y z m) → IsStep p kinds (Below x y z) from (var_set from x f)
  below_step x y z sorted meaning fits point after =
      let are = numbers_are x kind.Flag y z fits in
      set_path p kinds (looked_at (Below x y z) after) after x kind.Flag (λ s. on_numbers (λ a b. flag (int_lt a b)) (var_at s.vars y) (var_at s.vars z)) from f well range are.0 point
      (rest_in x y z after)
      (λ s t has run. (act_keeps_kinds p kinds well (Below x y z) s t fits has run).kinded)
      (operator_sets x y z kind.Flag (λ a b. flag (int_lt a b)) (ordered x y z) after fits (sorted are.0 are.1 are.2) meaning
      (λ m same. says_flag m (slot x from.next) (int_lt (m.number (old y) 0) (m.number (old z) 0))))

  -- ## whether two values are the same

  pub same_step :
      (x y z : ℕ)
      → ((k : Kind) → slice_get kinds x ≡ Some kind.Flag → slice_get kinds y ≡ Some k → slice_get kinds z ≡ Some k → Sorted)
      → ((m : Reading) → holds f m ≡ same_flag (m.flag (slot x from.next) 0) (same_variables m (kind_at kinds y) (old y) (old z)))
      → IsStep p kinds (Same x y z) from (var_set from x f)
  same_step x y z sorted meaning fits point after =
      let both = and_parts (is_var kinds x kind.Flag) (are_alike kinds y z) fits in
      let target = var_is kinds x kind.Flag both.0 in
      let k = alike_is kinds y z both.1 in
      set_path p kinds (looked_at (Same x y z) after) after x kind.Flag (λ s. same (var_at s.vars y) (var_at s.vars z)) from f well range target point
      (rest_in x y z after)
      (λ s t has run. (act_keeps_kinds p kinds well (Same x y z) s t fits has run).kinded)
      (sets_from p kinds (looked_at (Same x y z) after) x kind.Flag (λ s. same (var_at s.vars y) (var_at s.vars z)) from f
      (λ m. same_flag (m.flag (slot x from.next) 0) (same_variables m k.0 (old y) (old z))) (sorted k.0 target k.1 k.2)
      (λ m. meaning m ∙ ap (λ j. same_flag (m.flag (slot x from.next) 0) (same_variables m j (old y) (old z))) (kind_known kinds y k.0 k.1))
      (λ m s of has shown.
      let first = vars_shown p kinds (looked_at (Same x y z) after) m from.at s shown y k.0 (first_in x y z after) k.1 in
      let second = vars_shown p kinds (looked_at (Same x y z) after) m from.at s shown z k.0 (second_in x y z after) k.2 in
      subst (λ e. Says m kind.Flag (slot x from.next) e (same_flag (m.flag (slot x from.next) 0) (same_variables m k.0 (old y) (old z))))
      (sym (sameness p (slice_get kinds) m of k.0 (old y) (old z) (var_at s.vars y) (var_at s.vars z) first second))
      (says_flag m (slot x from.next) (same_variables m k.0 (old y) (old z)))))

  -- ## a field

  says_read : (x y g : ℕ) (d : FieldDef) (before : Vars) (m : Reading) (s : DynState) → slice_get p.unit.fields g ≡ Some d → slice_get kinds y ≡ Some (kind.Ref d.class) → before y ≡ true
      → IsOf p (slice_get kinds) m → HasKinds p kinds s → Shows p kinds before m from.at s
      → Says m d.kind (slot x from.next) (field p.unit.classes s.objects g (var_at s.vars y)) (is_through m (old y) && is_cell m d.kind (slot x from.next) (old y) (relation_at from.at (what.Field g)))
  says_read x y g d before m s there is inside of has shown =
      at (var_at s.vars y) (has.vars y (kind.Ref d.class) is) (vars_shown p kinds before m from.at s shown y (kind.Ref d.class) inside is)
    where
      truth : Bool
      truth = is_cell m d.kind (slot x from.next) (old y) (relation_at from.at (what.Field g))

      at : (v : Value) → has_kind p.scope.ints s.objects (kind.Ref d.class) v ≡ true → ShowsValue m (kind.Ref d.class) (old y) 0 v
          → Says m d.kind (slot x from.next) (field p.unit.classes s.objects g v) (is_through m (old y) && truth)
      at Null kinded value = says_null_way m d.kind (slot x from.next) (old y) truth (value.1 Null)
      at (Obj o) kinded value =
          let cell = shown.heap.cells g d o there kinded in
          says_through m d.kind (slot x from.next) (old y) (field p.unit.classes s.objects g (Obj o)) truth (value.1 Null)
          (subst (λ e. Says m d.kind (slot x from.next) e truth) (sym cell.is)
          (says_cell p (slice_get kinds) m of d.kind (slot x from.next) (old y) (relation_at from.at (what.Field g)) d.class o cell.value value cell.shown))
      at (Num z) kinded value = absurd (false≢true kinded)
      at (Flag b) kinded value = absurd (false≢true kinded)

  pub read_step :
      (x y g : ℕ)
      → ((d : FieldDef) → slice_get p.unit.fields g ≡ Some d → slice_get kinds x ≡ Some d.kind → slice_get kinds y ≡ Some (kind.Ref d.class) → Sorted)
      → ((m : Reading) → holds f m ≡ (is_through m (old y) && is_cell m (kind_at kinds x) (slot x from.next) (old y) (relation_at from.at (what.Field g))))
      → IsStep p kinds (Read x y g) from (var_set from x f)
  read_step x y g sorted meaning fits point after =
      let d = field_is p.unit kinds g y x fits in
      set_path p kinds (looked_at (Read x y g) after) after x d.declared.kind (λ s. field p.unit.classes s.objects g (var_at s.vars y)) from f well range d.value point
      (λ z inside apart. more_in y (without x after) z (others_in x after z inside apart))
      (λ s t has run. (act_keeps_kinds p kinds well (Read x y g) s t fits has run).kinded)
      (sets_from p kinds (looked_at (Read x y g) after) x d.declared.kind (λ s. field p.unit.classes s.objects g (var_at s.vars y)) from f
      (λ m. is_through m (old y) && is_cell m d.declared.kind (slot x from.next) (old y) (relation_at from.at (what.Field g))) (sorted d.declared d.there d.value d.object)
      (λ m. meaning m ∙ ap (λ j. is_through m (old y) && is_cell m j (slot x from.next) (old y) (relation_at from.at (what.Field g))) (kind_known kinds x d.declared.kind d.value))
      (λ m s of has shown. says_read x y g d.declared (looked_at (Read x y g) after) m s d.there d.object (one_in y (without x after)) of has shown))
