-- The parts of actions, from what the formulas that are built are promised to mean.
use Rattle.std.proofs.Common.{◌≡◌, ℕ, Bool, true, false, ◌&&◌, List, Some, refl, sym, ◌∙◌, ap, subst, get_or}
use Rattle.std.specs.Prelude.{◌==◌, option_map, ℤ, ◌+ℤ◌, ◌-ℤ◌, ◌*ℤ◌, int_lt, slice_get}
use Rattle.std.specs.Option.{option_map_or}
use Rattle.std.proofs.lemmas.Bool.{and_from, eq-eqb}
use Rattle.taco_unit.specs.declared.kind.Kind.{Kind}
use Rattle.taco_unit.specs.declared.kind.Kind.TheVariants as kind
use Rattle.taco_unit.specs.declared.unit.FieldDef.{FieldDef}
use Rattle.taco_unit.specs.Well.{IsWell}
use Rattle.heap_core.specs.declared.value.Value.{Value}
use Rattle.heap_core.specs.Posed.{Posed, InRange}
use Rattle.heap_core.specs.Outcomes.{same_flag}
use Rattle.rel_core.specs.declared.formula.Formula.{Formula}
use Rattle.rel_core.specs.declared.relation.RelVar.{RelVar}
use Rattle.rel_core.specs.declared.relation.What.TheVariants as what
use Rattle.rel_core.specs.Reading.{Reading}
use Rattle.rel_core.specs.Meaning.{holds, fitting, is_changed}
use Rattle.rel_core.specs.Uses.{Kinds, AsSet, AsNumber, AsFlag, use_of_kind, is_variable, use_of, has_use, can_change, is_spread, is_sorted}
use Rattle.dyn_core.specs.declared.prog.Act.TheVariants.{Copy, Const, Sum, Diff, Product, Same, Below, Read, Write}
use Rattle.dyn_core.specs.Kinds.{takes_constant}
use Rattle.dyn_steps.specs.declared.part.Front.{Front}
use Rattle.dyn_steps.specs.declared.part.Part.{Part}
use Rattle.dyn_steps.specs.Points.{relation_at, slot, field_at}
use Rattle.dyn_steps.specs.Looked.{kind_at}
use Rattle.dyn_steps.specs.Meanings.{same_variables, is_number, is_constant, is_through, is_cell}
use Rattle.dyn_steps.specs.Paths.{IsStep, var_set, field_set}
use Rattle.dyn_steps.proofs.Written.{write_step}
use Rattle.dyn_steps.proofs.Acts.{variable_used, field_used, kind_known, copy_step, const_step, sum_step, difference_step, product_step, below_step, same_step, read_step}

module _ (p : Posed) (kinds : List Kind) (well : IsWell p.unit) (range : InRange p) (from : Front) (part : Part) (f : Formula) where
  abbrev old : ℕ → RelVar
  old y = relation_at from.at (what.Slot y)

  abbrev new : ℕ → RelVar
  new x = slot x from.next

  -- a relation of a variable of this kind
  used : (k : Kind) (r : RelVar) (x i : ℕ) → r ≡ slot x i → slice_get kinds x ≡ Some k → is_variable p (slice_get kinds) (use_of_kind k) r ≡ true
  used k r x i is there = ap (λ z. is_variable p (slice_get kinds) (use_of_kind k) z) is ∙ variable_used p kinds x i k there

  -- by the kind that was looked up for a variable
  used_as : (j k : Kind) (y : ℕ) (r : RelVar) (x i : ℕ) → j ≡ kind_at kinds y → slice_get kinds y ≡ Some k → r ≡ slot x i → slice_get kinds x ≡ Some k
      → is_variable p (slice_get kinds) (use_of_kind j) r ≡ true
  used_as j k y r x i looked_up known is there =
      ap (λ z. is_variable p (slice_get kinds) (use_of_kind z) r) (looked_up ∙ kind_known kinds y k known) ∙ used k r x i is there

  -- a relation of a variable for three, one after the other
  three : (F : RelVar → RelVar → RelVar → Bool) (a b d a' b' d' : RelVar) → a ≡ a' → b ≡ b' → d ≡ d' → F a b d ≡ F a' b' d'
  three F a b d a' b' d' first second third = ap (λ z. F z b d) first ∙ ap (λ z. F a' z d) second ∙ ap (λ z. F a' b' z) third

  pub copy_part :
      (x y : ℕ) (k : Kind) (r q : RelVar)
      → k ≡ kind_at kinds x → r ≡ new x → q ≡ old y → part ≡ var_set from x f
      → ((m : Reading) → holds f m ≡ same_variables m k r q)
      → ((p : Posed) (kinds : Kinds) → is_variable p kinds (use_of_kind k) r ≡ true → is_variable p kinds (use_of_kind k) q ≡ true → is_sorted p kinds f ≡ true)
      → IsStep p kinds (Copy x y) from part
  copy_part x y k r q kind_is r_is q_is is meaning sorted =
      subst (λ z. IsStep p kinds (Copy x y) from z) (sym is)
      (copy_step p kinds from f well range x y
      (λ j target source. sorted p (slice_get kinds) (used_as k j x r x from.next kind_is target r_is target) (used_as k j x q y _ kind_is target q_is source))
      (λ m. meaning m ∙ ap (λ z. same_variables m z r q) kind_is ∙ ap (λ z. same_variables m (kind_at kinds x) z q) r_is ∙ ap (λ z. same_variables m (kind_at kinds x) (new x) z) q_is))

  pub const_part :
      (x : ℕ) (v : Value) (r : RelVar)
      → r ≡ new x → part ≡ var_set from x f
      → ((m : Reading) → holds f m ≡ is_constant m r v)
      → ((p : Posed) (kinds : Kinds) (k : Kind) → takes_constant v k ≡ true → is_variable p kinds (use_of_kind k) r ≡ true → is_sorted p kinds f ≡ true)
      → IsStep p kinds (Const x v) from part
  const_part x v r r_is is meaning sorted =
      subst (λ z. IsStep p kinds (Const x v) from z) (sym is)
      (const_step p kinds from f well range x v (λ k target takes. sorted p (slice_get kinds) k takes (used k r x from.next r_is target))
      (λ m. meaning m ∙ ap (λ z. is_constant m z v) r_is))

  -- a formula over three variables, by its uses and its meaning
  abbrev Three : Kind → (Reading → RelVar → RelVar → RelVar → Bool) → RelVar → RelVar → RelVar → Type 0
  Three k F r a b =
      ((m : Reading) → holds f m ≡ F m r a b)
      × ((p : Posed) (kinds : Kinds) → is_variable p kinds (use_of_kind k) r ≡ true → is_variable p kinds AsNumber a ≡ true → is_variable p kinds AsNumber b ≡ true → is_sorted p kinds f ≡ true)

  three_sorted : (k : Kind) (F : Reading → RelVar → RelVar → RelVar → Bool) (x y z : ℕ) (r a b : RelVar) → r ≡ new x → a ≡ old y → b ≡ old z → Three k F r a b
      → slice_get kinds x ≡ Some k → slice_get kinds y ≡ Some kind.Int → slice_get kinds z ≡ Some kind.Int → is_sorted p (slice_get kinds) f ≡ true
  three_sorted k F x y z r a b r_is a_is b_is over target first second =
      over.1 p (slice_get kinds) (used k r x from.next r_is target) (used kind.Int a y _ a_is first) (used kind.Int b z _ b_is second)

  three_meaning : (k : Kind) (F : Reading → RelVar → RelVar → RelVar → Bool) (x y z : ℕ) (r a b : RelVar) → r ≡ new x → a ≡ old y → b ≡ old z → Three k F r a b → (m : Reading)
      → holds f m ≡ F m (new x) (old y) (old z)
  three_meaning k F x y z r a b r_is a_is b_is over m = over.0 m ∙ three (F m) r a b (new x) (old y) (old z) r_is a_is b_is

  abbrev computed : (ℤ → ℤ → ℤ) → Reading → RelVar → RelVar → RelVar → Bool
  computed make m r a b = is_number m r (fitting m.ints (make (m.number a 0) (m.number b 0)))

  pub sum_part : (x y z : ℕ) (r a b : RelVar) → r ≡ new x → a ≡ old y → b ≡ old z → part ≡ var_set from x f → Three kind.Int (computed (λ i j. i +ℤ j)) r a b → IsStep p kinds (Sum x y z) from part
  sum_part x y z r a b r_is a_is b_is is over =
      let F = computed (λ (i j : ℤ). i +ℤ j) in
      subst (λ w. IsStep p kinds (Sum x y z) from w) (sym is)
      (sum_step p kinds from f well range x y z (three_sorted kind.Int F x y z r a b r_is a_is b_is over) (three_meaning kind.Int F x y z r a b r_is a_is b_is over))

  pub difference_part : (x y z : ℕ) (r a b : RelVar) → r ≡ new x → a ≡ old y → b ≡ old z → part ≡ var_set from x f → Three kind.Int (computed (λ i j. i -ℤ j)) r a b
      → IsStep p kinds (Diff x y z) from part
  difference_part x y z r a b r_is a_is b_is is over =
      let F = computed (λ (i j : ℤ). i -ℤ j) in
      subst (λ w. IsStep p kinds (Diff x y z) from w) (sym is)
      (difference_step p kinds from f well range x y z (three_sorted kind.Int F x y z r a b r_is a_is b_is over) (three_meaning kind.Int F x y z r a b r_is a_is b_is over))

  pub product_part : (x y z : ℕ) (r a b : RelVar) → r ≡ new x → a ≡ old y → b ≡ old z → part ≡ var_set from x f → Three kind.Int (computed (λ i j. i *ℤ j)) r a b
      → IsStep p kinds (Product x y z) from part
  product_part x y z r a b r_is a_is b_is is over =
      let F = computed (λ (i j : ℤ). i *ℤ j) in
      subst (λ w. IsStep p kinds (Product x y z) from w) (sym is)
      (product_step p kinds from f well range x y z (three_sorted kind.Int F x y z r a b r_is a_is b_is over) (three_meaning kind.Int F x y z r a b r_is a_is b_is over))

  abbrev orders : Reading → RelVar → RelVar → RelVar → Bool
  orders m r a b = same_flag (m.flag r 0) (int_lt (m.number a 0) (m.number b 0))

  pub below_part : (x y z : ℕ) (r a b : RelVar) → r ≡ new x → a ≡ old y → b ≡ old z → part ≡ var_set from x f → Three kind.Flag orders r a b → IsStep p kinds (Below x y z) from part
  below_part x y z r a b r_is a_is b_is is over =
      subst (λ w. IsStep p kinds (Below x y z) from w) (sym is)
      (below_step p kinds from f well range x y z (three_sorted kind.Flag orders x y z r a b r_is a_is b_is over) (three_meaning kind.Flag orders x y z r a b r_is a_is b_is over))

  pub same_part :
      (x y z : ℕ) (k : Kind) (r a b : RelVar)
      → k ≡ kind_at kinds y → r ≡ new x → a ≡ old y → b ≡ old z → part ≡ var_set from x f
      → ((m : Reading) → holds f m ≡ same_flag (m.flag r 0) (same_variables m k a b))
      → ((p : Posed) (kinds : Kinds) → is_variable p kinds AsFlag r ≡ true → is_variable p kinds (use_of_kind k) a ≡ true → is_variable p kinds (use_of_kind k) b ≡ true → is_sorted p kinds f ≡ true)
      → IsStep p kinds (Same x y z) from part
  same_part x y z k r a b kind_is r_is a_is b_is is meaning sorted =
      subst (λ w. IsStep p kinds (Same x y z) from w) (sym is)
      (same_step p kinds from f well range x y z
      (λ j target first second. sorted p (slice_get kinds) (used kind.Flag r x from.next r_is target) (used_as k j y a y _ kind_is first a_is first) (used_as k j y b z _ kind_is first b_is second))
      (λ m. meaning m ∙ ap (λ w. same_flag (m.flag r 0) (same_variables m w a b)) kind_is
      ∙ three (λ u v w. same_flag (m.flag u 0) (same_variables m (kind_at kinds y) v w)) r a b (new x) (old y) (old z) r_is a_is b_is))

  pub read_part :
      (x y g : ℕ) (k : Kind) (r a b : RelVar)
      → k ≡ kind_at kinds x → r ≡ new x → a ≡ old y → b ≡ relation_at from.at (what.Field g) → part ≡ var_set from x f
      → ((m : Reading) → holds f m ≡ (is_through m a && is_cell m k r a b))
      → ((p : Posed) (kinds : Kinds) → is_variable p kinds AsSet a ≡ true → is_variable p kinds (use_of_kind k) r ≡ true → is_spread p kinds (use_of_kind k) b ≡ true → is_sorted p kinds f ≡ true)
      → IsStep p kinds (Read x y g) from part
  read_part x y g k r a b kind_is r_is a_is b_is is meaning sorted =
      subst (λ w. IsStep p kinds (Read x y g) from w) (sym is)
      (read_step p kinds from f well range x y g
      (λ d there target object. sorted p (slice_get kinds) (used (kind.Ref d.class) a y _ a_is object) (used_as k d.kind x r x from.next kind_is target r_is target)
      (ap (λ z. is_spread p (slice_get kinds) (use_of_kind z) b) (kind_is ∙ kind_known kinds x d.kind target)
      ∙ ap (λ z. is_spread p (slice_get kinds) (use_of_kind d.kind) z) b_is ∙ field_used p (slice_get kinds) g (get_or from.at.fields g 0) d there))
      (λ m. meaning m ∙ ap (λ w. is_through m a && is_cell m w r a b) kind_is
      ∙ three (λ u v w. is_through m v && is_cell m (kind_at kinds x) u v w) r a b (new x) (old y) (relation_at from.at (what.Field g)) r_is a_is b_is))

  -- a field can change to the value of a variable of its kind
  field_changes : (g y i j k : ℕ) (d : FieldDef) → slice_get p.unit.fields g ≡ Some d → slice_get kinds y ≡ Some d.kind → can_change p (slice_get kinds) (field_at g i) (slot y j) (field_at g k) ≡ true
  field_changes g y i j k d there value =
      and_from (g == g) (option_map_or (λ u. has_use p (slice_get kinds) u (what.Slot y)) (use_of p (slice_get kinds) (what.Field g)) false) (eq-eqb g g refl)
      (ap (λ o. option_map_or (λ u. has_use p (slice_get kinds) u (what.Slot y)) (option_map (λ (d : FieldDef). use_of_kind d.kind) o) false) there
      ∙ variable_used p kinds y j d.kind value)

  pub write_part :
      (x g y : ℕ) (r a b d : RelVar)
      → r ≡ field_at g from.next → a ≡ old x → b ≡ old y → d ≡ relation_at from.at (what.Field g) → part ≡ field_set from g f
      → ((m : Reading) → holds f m ≡ (is_through m a && is_changed m r (m.refs a 0) b d))
      → ((p : Posed) (kinds : Kinds) → is_variable p kinds AsSet a ≡ true → can_change p kinds r b d ≡ true → is_sorted p kinds f ≡ true)
      → IsStep p kinds (Write x g y) from part
  write_part x g y r a b d r_is a_is b_is d_is is meaning sorted =
      subst (λ w. IsStep p kinds (Write x g y) from w) (sym is)
      (write_step p kinds from f x g y well range
      (λ e there object value. sorted p (slice_get kinds) (used (kind.Ref e.class) a x (get_or from.at.vars x 0) a_is object)
      (ap (λ z. can_change p (slice_get kinds) z b d) r_is ∙ ap (λ z. can_change p (slice_get kinds) (field_at g from.next) z d) b_is
      ∙ ap (λ z. can_change p (slice_get kinds) (field_at g from.next) (old y) z) d_is
      ∙ field_changes g y from.next (get_or from.at.vars y 0) (get_or from.at.fields g 0) e there value))
      (λ m. meaning m ∙ ap (λ z. is_through m z && is_changed m r (m.refs z 0) b d) a_is
      ∙ three (λ u v w. is_through m (old x) && is_changed m u (m.refs (old x) 0) v w) r b d (field_at g from.next) (old y) (relation_at from.at (what.Field g)) r_is b_is d_is))
