-- The part of a test, parts with other sets of variables, and one relation at two indices.
use Rattle.std.proofs.Common.{◌≡◌, ℕ, Bool, true, false, ◌&&◌, List, Option, Some, None, inl, inr, refl, sym, ◌∙◌, ap, subst, arith, get_or}
use Rattle.std.specs.Prelude.{◌==◌, nat_lt, pos, slice_get, is_some, option_map}
use Rattle.std.specs.Option.{option_map_or}
use Rattle.std.proofs.lemmas.Bool.{cases_eq, and_parts, and_from, eqb-true, eq-eqb, false≢true, false_from_ne_true}
use Rattle.taco_unit.specs.declared.kind.Kind.{Kind}
use Rattle.taco_unit.specs.declared.kind.Kind.TheVariants as kind
use Rattle.heap_core.specs.declared.value.Value.{Value}
use Rattle.heap_core.specs.declared.value.Value.TheVariants.{Flag}
use Rattle.heap_core.specs.Posed.{Posed}
use Rattle.heap_core.specs.Outcomes.{is_null, same_flag}
use Rattle.rel_core.specs.declared.formula.Formula.{Formula}
use Rattle.rel_core.specs.declared.relation.RelVar.{RelVar}
use Rattle.rel_core.specs.declared.relation.What.{What}
use Rattle.rel_core.specs.declared.relation.What.TheVariants as what
use Rattle.rel_core.specs.Reading.{Reading}
use Rattle.rel_core.specs.Meaning.{is_changed, holds}
use Rattle.rel_core.specs.Uses.{Kinds, Use, AsSet, AsNumber, AsFlag, AsClass, same_use, use_of_kind, use_of, has_use, can_change, is_slot, has_place, is_variable, is_sorted, IsOf}
use Rattle.dyn_core.specs.declared.state.DynState.{DynState}
use Rattle.dyn_core.specs.States.{var_at}
use Rattle.dyn_core.proofs.Fitting.{var_is}
use Rattle.dyn_steps.specs.declared.part.Front.{Front}
use Rattle.dyn_steps.specs.declared.part.Part.{Part}
use Rattle.dyn_steps.specs.Points.{relation_at, slot, IsPoint}
use Rattle.dyn_steps.specs.Agreeing.{IsAlike}
use Rattle.dyn_steps.specs.Looked.{Vars, with_one, kind_at}
use Rattle.dyn_steps.specs.Meanings.{same_variables}
use Rattle.dyn_steps.specs.Paths.{Shows, Relation, IsPath, IsTest, IsSameness}
use Rattle.dyn_steps.proofs.Moving.{alike_self, agree_at, shows_both, vars_shown, shows_move}
use Rattle.dyn_steps.proofs.Saying.{int_same, same_int, flag_same, same_flags, refs_within}
use Rattle.dyn_steps.proofs.Numbers.{sets_alike, sets_same}
use Rattle.dyn_steps.proofs.Acts.{one_in, more_in, use_self as same_self, variable_used, kind_known}
use Rattle.dyn_steps.proofs.Places.{IsAlikeAt, all_places, no_refs, no_flag, no_number, not_used, changed_alike, alike_changed}

-- ## sets of variables

pub shows_less : (p : Posed) (kinds : List Kind) (more less : Vars) (m : Reading) (at : _) (s : DynState) → ((x : ℕ) → less x ≡ true → more x ≡ true) → Shows p kinds more m at s
    → Shows p kinds less m at s
shows_less p kinds more less m at s each shown = shows_both p kinds less m at s shown.heap (λ x k inside is. vars_shown p kinds more m at s shown x k (each x inside) is)

-- a part stays one where more is looked at before it, and less after it
pub path_widened :
    (p : Posed) (kinds : List Kind) (before more after less : Vars) (R : Relation) (from : Front) (part : Part)
    → ((x : ℕ) → before x ≡ true → more x ≡ true)
    → ((x : ℕ) → less x ≡ true → after x ≡ true)
    → IsPath p kinds before after R from part
    → IsPath p kinds more less R from part
path_widened p kinds before more after less R from part first last path = record {
  up = path.up;
  point = path.point;
  indices = path.indices;
  sorted = path.sorted;
  sound = λ m s of is has shown.
      let run = path.sound m s of is has (shows_less p kinds more before m from.at s first shown) in
      (run.0, run.1, shows_less p kinds after less m part.end.at run.0 last run.2);
  full = λ m s t of has shown run.
      let g = path.full m s t of has (shows_less p kinds more before m from.at s first shown) run in
      record { reading = g.reading; of_problem = g.of_problem; agrees = g.agrees; shown = shows_less p kinds after less g.reading part.end.at t last g.shown; holds = g.holds };
}

-- and of another relation between the same states
pub path_alike :
    (p : Posed) (kinds : List Kind) (before after : Vars) (R S : Relation) (from : Front) (part : Part)
    → ((s t : DynState) → R s t → S s t)
    → ((s t : DynState) → S s t → R s t)
    → IsPath p kinds before after R from part
    → IsPath p kinds before after S from part
path_alike p kinds before after R S from part on back path = record {
  up = path.up;
  point = path.point;
  indices = path.indices;
  sorted = path.sorted;
  sound = λ m s of is has shown. let run = path.sound m s of is has shown in (run.0, on s run.0 run.1, run.2);
  full = λ m s t of has shown run. path.full m s t of has shown (back s t run);
}

-- a formula that never holds is one of no run
pub no_path :
    (p : Posed) (kinds : List Kind) (before after : Vars) (from : Front) (f : Formula)
    → ((m : Reading) → holds f m ≡ false)
    → is_sorted p (slice_get kinds) f ≡ true
    → IsPoint p kinds from.next from.at
    → IsPath p kinds before after (λ s t. ⊥) from (record { formula = f; end = from })
no_path p kinds before after from f never sorted point = record {
  up = omega arith;
  point = point;
  indices = λ w. inl refl;
  sorted = sorted;
  sound = λ m s of is has shown. absurd (false≢true (sym (never m) ∙ is));
  full = λ m s t of has shown run. absurd run;
}

-- ## tests

flags_one : {a b : Bool} → Flag a ≡ Flag b → a ≡ b
flags_one is = cc

pub test_path :
    (p : Posed) (kinds : List Kind) (from : Front) (f : Formula) (x : ℕ) (b : Bool)
    → ((m : Reading) → holds f m ≡ same_flag (m.flag (relation_at from.at (what.Slot x)) 0) b)
    → (slice_get kinds x ≡ Some kind.Flag → is_sorted p (slice_get kinds) f ≡ true)
    → IsTest p kinds x b from (record { formula = f; end = from })
test_path p kinds from f x b meaning sorted fits point after = record {
  up = omega arith;
  point = point;
  indices = λ w. inl refl;
  sorted = sorted known;
  sound = λ m s of is has shown.
      let truth : m.flag (relation_at from.at (what.Slot x)) 0 ≡ b = flag_same (m.flag (relation_at from.at (what.Slot x)) 0) b (sym (meaning m) ∙ is) in
      (s, (value m s shown ∙ ap Flag truth, refl), shows_less p kinds (with_one x after) after m from.at s (more_in x after) shown);
  full = λ m s t of has shown run. record {
    reading = m;
    of_problem = of;
    agrees = λ r below. alike_self m r;
    shown = subst (λ z. Shows p kinds after m from.at z) run.1 (shows_less p kinds (with_one x after) after m from.at s (more_in x after) shown);
    holds = λ u is agree.
        let shown_u = shows_move p kinds (with_one x after) m u from.at from.at s (is.objects ∙ sym of.objects) (λ w looked. agree_at p kinds from.next from.at m u point agree w) shown in
        meaning u ∙ same_flags (u.flag (relation_at from.at (what.Slot x)) 0) b (flags_one (sym (value u s shown_u) ∙ run.0));
  };
}
  where
    known : slice_get kinds x ≡ Some kind.Flag
    known = var_is kinds x kind.Flag fits

    value : (m : Reading) (s : DynState) → Shows p kinds (with_one x after) m from.at s → var_at s.vars x ≡ Flag (m.flag (relation_at from.at (what.Slot x)) 0)
    value m s shown = vars_shown p kinds (with_one x after) m from.at s shown x kind.Flag (one_in x after) known

pub test_part :
    (from : Front) (part : Part) (f : Formula) (x : ℕ) (b : Bool) (r : RelVar)
    → r ≡ relation_at from.at (what.Slot x)
    → part ≡ record { formula = f; end = from }
    → ((m : Reading) → holds f m ≡ same_flag (m.flag r 0) b)
    → ((p : Posed) (kinds : Kinds) → is_variable p kinds AsFlag r ≡ true → is_sorted p kinds f ≡ true)
    → (p : Posed) (kinds : List Kind) → IsTest p kinds x b from part
test_part from part f x b r r_is is meaning sorted p kinds =
    subst (λ z. IsTest p kinds x b from z) (sym is)
    (test_path p kinds from f x b (λ m. meaning m ∙ ap (λ z. same_flag (m.flag z 0) b) r_is)
    (λ known. sorted p (slice_get kinds) (ap (λ z. is_variable p (slice_get kinds) AsFlag z) r_is ∙ variable_used p kinds x (get_or from.at.vars x 0) kind.Flag known)))

-- ## one relation at two indices

module _ (p : Posed) (kinds : List Kind) (m : Reading) (of : IsOf p (slice_get kinds) m) where
  abbrev Placed : Use → ℕ → ℕ → ℕ → Bool
  Placed u x i o = has_place p (slice_get kinds) u (slot x i) o

  -- a variable has nothing but at place 0
  beside_slot : (u : Use) (x i o : ℕ) → (o ≡ 0 → ⊥) → Placed u x i o ≡ false
  beside_slot u x i o other = false_from_ne_true (Placed u x i o) (λ is. other (eqb-true o 0 (and_parts (has_use p (slice_get kinds) u (what.Slot x) && nat_lt o p.scope.objects) (o == 0) is).1))

  nothing_beside : (x i j o : ℕ) → (o ≡ 0 → ⊥) → IsAlikeAt m (slot x j) o m (slot x i) o
  nothing_beside x i j o other = record {
    refs = λ v. no_refs p (slice_get kinds) m of (slot x i) o v (beside_slot AsSet x i o other) ∙ sym (no_refs p (slice_get kinds) m of (slot x j) o v (beside_slot AsSet x j o other));
    number = no_number p (slice_get kinds) m of (slot x i) o (beside_slot AsNumber x i o other) (beside_slot AsClass x i o other)
        ∙ sym (no_number p (slice_get kinds) m of (slot x j) o (beside_slot AsNumber x j o other) (beside_slot AsClass x j o other));
    flag = no_flag p (slice_get kinds) m of (slot x i) o (beside_slot AsFlag x i o other) ∙ sym (no_flag p (slice_get kinds) m of (slot x j) o (beside_slot AsFlag x j o other));
  }

  -- what a variable of another use has at place 0
  other_refs : (x i : ℕ) (v : Value) (k : Kind) → slice_get kinds x ≡ Some k → same_use AsSet (use_of_kind k) ≡ false → m.refs (slot x i) 0 v ≡ false
  other_refs x i v k is other = no_refs p (slice_get kinds) m of (slot x i) 0 v (not_used p (slice_get kinds) m of AsSet (use_of_kind k) (slot x i) 0 (ap (option_map use_of_kind) is) other)

  other_flag : (x i : ℕ) (k : Kind) → slice_get kinds x ≡ Some k → same_use AsFlag (use_of_kind k) ≡ false → m.flag (slot x i) 0 ≡ false
  other_flag x i k is other = no_flag p (slice_get kinds) m of (slot x i) 0 (not_used p (slice_get kinds) m of AsFlag (use_of_kind k) (slot x i) 0 (ap (option_map use_of_kind) is) other)

  other_number : (x i : ℕ) (k : Kind) → slice_get kinds x ≡ Some k → same_use AsNumber (use_of_kind k) ≡ false → same_use AsClass (use_of_kind k) ≡ false → m.number (slot x i) 0 ≡ pos 0
  other_number x i k is other also = no_number p (slice_get kinds) m of (slot x i) 0
      (not_used p (slice_get kinds) m of AsNumber (use_of_kind k) (slot x i) 0 (ap (option_map use_of_kind) is) other)
      (not_used p (slice_get kinds) m of AsClass (use_of_kind k) (slot x i) 0 (ap (option_map use_of_kind) is) also)

  at_first : (x i j : ℕ) (k : Kind) → slice_get kinds x ≡ Some k → same_variables m k (slot x i) (slot x j) ≡ true → IsAlikeAt m (slot x j) 0 m (slot x i) 0
  at_first x i j kind.Int is same = record {
    refs = λ v. other_refs x i v kind.Int is refl ∙ sym (other_refs x j v kind.Int is refl);
    number = int_same (m.number (slot x i) 0) (m.number (slot x j) 0) same;
    flag = other_flag x i kind.Int is refl ∙ sym (other_flag x j kind.Int is refl);
  }
  at_first x i j kind.Flag is same = record {
    refs = λ v. other_refs x i v kind.Flag is refl ∙ sym (other_refs x j v kind.Flag is refl);
    number = other_number x i kind.Flag is refl refl ∙ sym (other_number x j kind.Flag is refl refl);
    flag = flag_same (m.flag (slot x i) 0) (m.flag (slot x j) 0) same;
  }
  at_first x i j (kind.Ref c) is same = record {
    refs = sets_alike m (m.refs (slot x i) 0) (m.refs (slot x j) 0) (refs_within p (slice_get kinds) m of (slot x i) 0) (refs_within p (slice_get kinds) m of (slot x j) 0) same;
    number = other_number x i (kind.Ref c) is refl refl ∙ sym (other_number x j (kind.Ref c) is refl refl);
    flag = other_flag x i (kind.Ref c) is refl ∙ sym (other_flag x j (kind.Ref c) is refl);
  }

  slots_alike : (x i j : ℕ) (k : Kind) → slice_get kinds x ≡ Some k → same_variables m k (slot x i) (slot x j) ≡ true → IsAlike m (slot x j) m (slot x i)
  slots_alike x i j k is same = all_places m (slot x j) m (slot x i) (λ o. elim (cases_eq o 0) [
    | inl first ↦ subst (λ z. IsAlikeAt m (slot x j) z m (slot x i) z) (sym first) (at_first x i j k is same)
    | inr other ↦ nothing_beside x i j o other
  ])

  alike_slots : (x i j : ℕ) (k : Kind) → IsAlike m (slot x j) m (slot x i) → same_variables m k (slot x i) (slot x j) ≡ true
  alike_slots x i j kind.Int alike = same_int (m.number (slot x i) 0) (m.number (slot x j) 0) (alike.number 0)
  alike_slots x i j kind.Flag alike = same_flags (m.flag (slot x i) 0) (m.flag (slot x j) 0) (alike.flag 0)
  alike_slots x i j (kind.Ref c) alike = sets_same m (m.refs (slot x i) 0) (m.refs (slot x j) 0) (alike.refs 0)

-- of a variable
pub slot_sameness :
    (p : Posed) (kinds : List Kind) (x new old : ℕ) (k : Kind) (f : Formula)
    → slice_get kinds x ≡ Some k
    → ((m : Reading) → holds f m ≡ same_variables m k (slot x new) (slot x old))
    → is_sorted p (slice_get kinds) f ≡ true
    → IsSameness p kinds (what.Slot x) new old f
slot_sameness p kinds x new old k f is meaning sorted = record {
  sorted = sorted;
  meaning = λ m of. (λ true_here. slots_alike p kinds m of x new old k is (sym (meaning m) ∙ true_here), λ alike. meaning m ∙ alike_slots p kinds m of x new old k alike);
}

-- of any other
pub spread_sameness :
    (p : Posed) (kinds : List Kind) (w : What) (new old : ℕ) (f : Formula)
    → ((m : Reading) → holds f m ≡ is_changed m (record { what = w; index = new }) is_null (record { what = w; index = old }) (record { what = w; index = old }))
    → is_sorted p (slice_get kinds) f ≡ true
    → IsSameness p kinds w new old f
spread_sameness p kinds w new old f meaning sorted = record {
  sorted = sorted;
  meaning = λ m of. (
    λ true_here. changed_alike p (slice_get kinds) m of (record { what = w; index = new }) (record { what = w; index = old }) (sym (meaning m) ∙ true_here),
    λ alike. meaning m ∙ alike_changed p (slice_get kinds) m of (record { what = w; index = new }) (record { what = w; index = old }) alike,
  );
}

-- of a variable, by what was promised of the formula
pub slot_part :
    (p : Posed) (kinds : List Kind) (w : What) (x new old : ℕ) (k : Kind) (left right : RelVar) (f : Formula)
    → w ≡ what.Slot x → k ≡ kind_at kinds x → left ≡ slot x new → right ≡ slot x old
    → ((m : Reading) → holds f m ≡ same_variables m k left right)
    → ((p : Posed) (kinds : Kinds) → is_variable p kinds (use_of_kind k) left ≡ true → is_variable p kinds (use_of_kind k) right ≡ true → is_sorted p kinds f ≡ true)
    → is_some (use_of p (slice_get kinds) w) ≡ true
    → IsSameness p kinds w new old f
slot_part p kinds w x new old k left right f is kind_is left_is right_is meaning sorted known =
    subst (λ z. IsSameness p kinds z new old f) (sym is) (at (slice_get kinds x) refl (sym (ap (λ z. is_some (use_of p (slice_get kinds) z)) is) ∙ known))
  where
    there : (j : Kind) → slice_get kinds x ≡ Some j → IsSameness p kinds (what.Slot x) new old f
    there j has =
        let same : k ≡ j = kind_is ∙ kind_known kinds x j has in
        slot_sameness p kinds x new old j f has
        (λ m. meaning m ∙ ap (λ z. same_variables m z left right) same ∙ ap (λ z. same_variables m j z right) left_is ∙ ap (λ z. same_variables m j (slot x new) z) right_is)
        (sorted p (slice_get kinds)
        (ap (λ z. is_variable p (slice_get kinds) (use_of_kind z) left) same ∙ ap (λ z. is_variable p (slice_get kinds) (use_of_kind j) z) left_is ∙ variable_used p kinds x new j has)
        (ap (λ z. is_variable p (slice_get kinds) (use_of_kind z) right) same ∙ ap (λ z. is_variable p (slice_get kinds) (use_of_kind j) z) right_is ∙ variable_used p kinds x old j has))

    at : (j : Option Kind) → slice_get kinds x ≡ j → is_some (option_map use_of_kind j) ≡ true → IsSameness p kinds (what.Slot x) new old f
    at (Some j) has known = there j has
    at None has known = absurd (false≢true known)

-- a relation that is of no variable can be the same at another index
pub copy_changes : (p : Posed) (kinds : Kinds) (w : What) (new old : ℕ) → is_slot w ≡ false → is_some (use_of p kinds w) ≡ true
    → can_change p kinds (record { what = w; index = new }) (record { what = w; index = old }) (record { what = w; index = old }) ≡ true
copy_changes p kinds what.Live new old spread known = refl
copy_changes p kinds what.ClassOf new old spread known = refl
copy_changes p kinds (what.Field g) new old spread known =
    and_from (g == g) (option_map_or (λ u. has_use p kinds u (what.Field g)) (use_of p kinds (what.Field g)) false) (eq-eqb g g refl) (at (use_of p kinds (what.Field g)) refl known)
  where
    at : (u : Option Use) → use_of p kinds (what.Field g) ≡ u → is_some u ≡ true → option_map_or (λ u. has_use p kinds u (what.Field g)) u false ≡ true
    at (Some u) is known = ap (λ z. option_map_or (same_use u) z false) is ∙ same_self u
    at None is known = absurd (false≢true known)
copy_changes p kinds (what.Slot x) new old spread known = absurd (false≢true (sym spread))

-- of any other
pub spread_part :
    (p : Posed) (kinds : List Kind) (w : What) (new old : ℕ) (f : Formula)
    → is_slot w ≡ false
    → ((m : Reading) → holds f m ≡ is_changed m (record { what = w; index = new }) is_null (record { what = w; index = old }) (record { what = w; index = old }))
    → ((p : Posed) (kinds : Kinds) → can_change p kinds (record { what = w; index = new }) (record { what = w; index = old }) (record { what = w; index = old }) ≡ true → is_sorted p kinds f ≡ true)
    → is_some (use_of p (slice_get kinds) w) ≡ true
    → IsSameness p kinds w new old f
spread_part p kinds w new old f spread meaning sorted known =
    spread_sameness p kinds w new old f meaning (sorted p (slice_get kinds) (copy_changes p (slice_get kinds) w new old spread known))

pub not_slot : (w : What) → ((x : ℕ) → w ≡ what.Slot x → ⊥) → is_slot w ≡ false
not_slot what.Live never = refl
not_slot what.ClassOf never = refl
not_slot (what.Field g) never = refl
not_slot (what.Slot x) never = absurd (never x refl)
