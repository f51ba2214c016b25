-- The point behind two branches, and what is said of it.
use Rattle.std.proofs.Common.{◌≡◌, ◌⊎◌, ℕ, zero, suc, ◌+◌, ◌<◌, ◌≤◌, Bool, true, false, ◌&&◌, ◌||◌, List, []}
use Rattle.std.proofs.Common.{◌∷◌, ◌++◌, length, map, Option, Some, None, inl, inr, refl, sym, ◌∙◌, ap, subst, arith, get_or}
use Rattle.std.specs.Prelude.{◌==◌, nat_lt, if◌then◌else◌, slice_get, is_some, option_map}
use Rattle.std.proofs.lemmas.Bool.{and_parts, and_from, ltb-true, false≢true}
use Rattle.std.proofs.lemmas.List.{get_or_past}
use Rattle.std.proofs.lemmas.List.FromFn.{length-map-range_with_len, get_or-map-range_with_len, map-range_with_len_more}
use Rattle.taco_unit.specs.declared.kind.Kind.{Kind}
use Rattle.taco_unit.specs.declared.unit.FieldDef.{FieldDef}
use Rattle.heap_core.specs.Posed.{Posed}
use Rattle.rel_core.specs.declared.formula.Formula.{Formula}
use Rattle.rel_core.specs.declared.relation.What.{What}
use Rattle.rel_core.specs.declared.relation.What.TheVariants as what
use Rattle.rel_core.specs.Reading.{Reading, numbers_below}
use Rattle.rel_core.specs.Meaning.{holds}
use Rattle.rel_core.specs.Uses.{use_of_kind, use_of, IsOf, is_sorted}
use Rattle.dyn_steps.specs.declared.point.Point.{Point}
use Rattle.dyn_steps.specs.declared.part.Part.{Part}
use Rattle.dyn_steps.specs.Points.{index_of, relation_at, IsPoint}
use Rattle.dyn_steps.specs.Agreeing.{IsAlike}
use Rattle.dyn_steps.specs.Looked.{Vars, IsLooked}
use Rattle.dyn_steps.specs.Paths.{IsSameness}
use Rattle.dyn_steps.specs.Joining.{joined, Joins, Equates, AreJoined}
use Rattle.dyn_steps.proofs.Moving.{alike_self}
use Rattle.dyn_rel.specs.Joining.{all_joined, joint_point, IsOver, SaysOne, SaysSame}
use Rattle.dyn_rel.specs.Looking.{IsList}

pub less_or_not : (a b : ℕ) → (a < b) ⊎ (b ≤ a)
less_or_not a b = at (nat_lt a b) refl
  where
    at : (t : Bool) → nat_lt a b ≡ t → (a < b) ⊎ (b ≤ a)
    at true is = inl (ltb-true a b is)
    at false is = inr (grind (arith, is))

-- ## indices

joined_below : (n old i j : ℕ) → i < n → j < n → joined old i j < n
joined_below n old i j one two = at (j == old)
  where
    at : (b : Bool) → (if b then i else j) < n
    at true = one
    at false = two

pub joined_length : (olds is js : List ℕ) → length (all_joined olds is js) ≡ length is
joined_length olds is js = length-map-range_with_len (λ x. joined (get_or olds x 0) (get_or is x 0) (get_or js x 0)) 0 (length is)

-- an index of a list, also where it has none
joined_at : (olds is js : List ℕ) → length olds ≡ length is → length js ≡ length is → (x : ℕ)
    → get_or (all_joined olds is js) x 0 ≡ joined (get_or olds x 0) (get_or is x 0) (get_or js x 0)
joined_at olds is js few many x = elim (less_or_not x (length is)) [
  | inl low ↦ get_or-map-range_with_len (λ x. joined (get_or olds x 0) (get_or is x 0) (get_or js x 0)) 0 (length is) x x 0 low (omega arith)
  | inr high ↦
      get_or_past (all_joined olds is js) x 0 (let same = joined_length olds is js in omega (arith, high, same))
      ∙ sym (ap (λ z. joined z (get_or is x 0) (get_or js x 0)) (get_or_past olds x 0 (omega (arith, high, few)))
      ∙ ap (λ z. joined 0 z (get_or js x 0)) (get_or_past is x 0 high)
      ∙ ap (λ z. joined 0 0 z) (get_or_past js x 0 (omega (arith, high, many))))
]

module _ (p : Posed) (kinds : List Kind) (n : ℕ) (at a b : Point) (begun : IsPoint p kinds n at) (first : IsPoint p kinds n a) (second : IsPoint p kinds n b) where
  pub joint_joins : Joins at a b (joint_point at a b)
  joint_joins what.Live = refl
  joint_joins what.ClassOf = refl
  joint_joins (what.Field f) = joined_at at.fields a.fields b.fields (begun.fields ∙ sym first.fields) (second.fields ∙ sym first.fields) f
  joint_joins (what.Slot x) = joined_at at.vars a.vars b.vars (begun.vars ∙ sym first.vars) (second.vars ∙ sym first.vars) x

  pub joint_is_point : IsPoint p kinds n (joint_point at a b)
  joint_is_point = record {
    fields = joined_length at.fields a.fields b.fields ∙ first.fields;
    vars = joined_length at.vars a.vars b.vars ∙ first.vars;
    below = λ w. subst (λ i. i < n) (sym (joint_joins w)) (joined_below n (index_of at w) (index_of a w) (index_of b w) (first.below w) (second.below w));
  }

-- one more index
pub indices_more :
    (olds is js all ys : List ℕ) (i old first second x : ℕ)
    → ys ≡ all ++ i ∷ []
    → i ≡ joined old first second
    → old ≡ get_or olds x 0
    → first ≡ get_or is x 0
    → second ≡ get_or js x 0
    → all ≡ map (λ z. joined (get_or olds z 0) (get_or is z 0) (get_or js z 0)) (numbers_below x)
    → ys ≡ map (λ z. joined (get_or olds z 0) (get_or is z 0) (get_or js z 0)) (numbers_below (x + 1))
indices_more olds is js all ys i old first second x is_ys is_i is_old is_first is_second before =
    is_ys ∙ ap (λ zs. zs ++ i ∷ []) before
    ∙ ap (λ z. map (λ z. joined (get_or olds z 0) (get_or is z 0) (get_or js z 0)) (numbers_below x) ++ z ∷ [])
    (is_i ∙ ap (λ z. joined z first second) is_old ∙ ap (λ z. joined (get_or olds x 0) z second) is_first ∙ ap (λ z. joined (get_or olds x 0) (get_or is x 0) z) is_second)
    ∙ sym (map-range_with_len_more (λ z. joined (get_or olds z 0) (get_or is z 0) (get_or js z 0)) 0 x x (omega arith))

-- ## equalities

-- a relation is the same at one index
pub same_index :
    (p : Posed) (kinds : List Kind) (w : What) (new old : ℕ) (f : Formula)
    → new ≡ old → ((m : Reading) → holds f m ≡ true) → is_sorted p (slice_get kinds) f ≡ true → IsSameness p kinds w new old f
same_index p kinds w new old f same always sorted = record {
  sorted = sorted;
  meaning = λ m of. (
    λ is. subst (λ i. IsAlike m (record { what = w; index = old }) m (record { what = w; index = i })) (sym same) (alike_self m (record { what = w; index = old })),
    λ alike. always m,
  );
}

-- what is said where it is so, and nothing where it is not
pub one_said : (p : Posed) (kinds : List Kind) (so : Bool) (w : What) (new old : ℕ) (f : Formula) → so ≡ true → IsSameness p kinds w new old f → SaysOne p kinds so w new old f
one_said p kinds so w new old f is same = record {
  sorted = same.sorted;
  meaning = λ m of. (λ has is_so. (same.meaning m of).0 has, λ each. (same.meaning m of).1 (each is));
}

pub none_said :
    (p : Posed) (kinds : List Kind) (so : Bool) (w : What) (new old : ℕ) (f : Formula)
    → so ≡ false → ((m : Reading) → holds f m ≡ true) → is_sorted p (slice_get kinds) f ≡ true → SaysOne p kinds so w new old f
none_said p kinds so w new old f is always sorted = record {
  sorted = sorted;
  meaning = λ m of. (λ has is_so. absurd (false≢true (sym is ∙ is_so)), λ each. always m);
}

there_within : {A : Type 0} (xs : List A) (i : ℕ) → i < length xs → is_some (slice_get xs i) ≡ true
there_within [] i low = absurd (omega (arith, low))
there_within (x ∷ xs) zero low = refl
there_within (x ∷ xs) (suc i) low = there_within xs i (omega (arith, low))

mapped : {A B : Type 0} (f : A → B) (x : Option A) → is_some x ≡ true → is_some (option_map f x) ≡ true
mapped f (Some x) is = refl
mapped f None is = absurd (false≢true is)

-- fields of the unit and variables that have kinds have uses
pub known_field : (p : Posed) (kinds : List Kind) (f : ℕ) → f < length p.unit.fields → is_some (use_of p (slice_get kinds) (what.Field f)) ≡ true
known_field p kinds f low = mapped (λ (d : FieldDef). use_of_kind d.kind) (slice_get p.unit.fields f) (there_within p.unit.fields f low)

pub known_slot : (p : Posed) (kinds : List Kind) (x : ℕ) → x < length kinds → is_some (use_of p (slice_get kinds) (what.Slot x)) ≡ true
known_slot p kinds x low = mapped use_of_kind (slice_get kinds x) (there_within kinds x low)

-- each relation is said to be the same at two points, of the variables those that are looked at
pub record SaysAll (p : Posed) (kinds : List Kind) (set : List Bool) (at joint : Point) (f g a b : Formula) : Type 0 where
  pub fields : SaysSame p kinds (λ x. what.Field x) (λ x. true) joint.fields at.fields (length at.fields) f
  pub slots : SaysSame p kinds (λ x. what.Slot x) (λ x. get_or set x false) joint.vars at.vars (length at.vars) g
  pub live : IsSameness p kinds what.Live joint.live at.live a
  pub class : IsSameness p kinds what.ClassOf joint.live at.live b

pub point_equates :
    (p : Posed) (kinds : List Kind) (vars : Vars) (set : List Bool) (at joint : Point) (f fields slots live class : Formula)
    → IsList (length kinds) vars set
    → IsOver p kinds at joint
    → SaysAll p kinds set at joint fields slots live class
    → ((m : Reading) → holds f m ≡ (holds fields m && holds slots m && (holds live m && holds class m)))
    → is_sorted p (slice_get kinds) f ≡ true
    → Equates p kinds vars at joint f
point_equates p kinds vars set at joint f fields slots live class list over of meaning sorted = record {
  sorted = sorted;
  alike = λ m is_of is w looked. each m is_of is w looked;
  holds = λ m is_of all.
      meaning m ∙ and_from (holds fields m && holds slots m) (holds live m && holds class m)
      (and_from (holds fields m) (holds slots m) ((of.fields.meaning m is_of).1 (λ x low inside. all (what.Field x))) ((of.slots.meaning m is_of).1 (λ x low inside. all (what.Slot x))))
      (and_from (holds live m) (holds class m) ((of.live.meaning m is_of).1 (all what.Live)) ((of.class.meaning m is_of).1 (all what.ClassOf)));
}
  where
    past : (m : Reading) (w : What) → index_of at w ≡ 0 → index_of joint w ≡ 0 → IsAlike m (relation_at at w) m (relation_at joint w)
    past m w first second =
        subst (λ i. IsAlike m (record { what = w; index = i }) m (relation_at joint w)) (sym first)
        (subst (λ i. IsAlike m (record { what = w; index = 0 }) m (record { what = w; index = i })) (sym second) (alike_self m (record { what = w; index = 0 })))

    each : (m : Reading) → IsOf p (slice_get kinds) m → holds f m ≡ true → (w : What) → IsLooked vars w → IsAlike m (relation_at at w) m (relation_at joint w)
    each m is_of is w looked =
        let both = and_parts (holds fields m && holds slots m) (holds live m && holds class m) (sym (meaning m) ∙ is) in
        let lists = and_parts (holds fields m) (holds slots m) both.0 in
        let heap = and_parts (holds live m) (holds class m) both.1 in
        one w looked lists.0 lists.1 heap.0 heap.1
      where
        one : (w : What) → IsLooked vars w → holds fields m ≡ true → holds slots m ≡ true → holds live m ≡ true → holds class m ≡ true
            → IsAlike m (relation_at at w) m (relation_at joint w)
        one what.Live looked a b c d = (of.live.meaning m is_of).0 c
        one what.ClassOf looked a b c d = (of.class.meaning m is_of).0 d
        one (what.Field g) looked a b c d = elim (less_or_not g (length at.fields)) [
          | inl low ↦ (of.fields.meaning m is_of).0 a g low refl
          | inr high ↦ past m (what.Field g) (get_or_past at.fields g 0 high) (get_or_past joint.fields g 0 (let few = over.joint_fields in omega (arith, high, few)))
        ]
        one (what.Slot x) looked a b c d = elim (less_or_not x (length at.vars)) [
          | inl low ↦ (of.slots.meaning m is_of).0 b x low (list.same x (let many = over.vars in omega (arith, low, many)) ∙ looked)
          | inr high ↦ past m (what.Slot x) (get_or_past at.vars x 0 high) (get_or_past joint.vars x 0 (let also = over.joint_vars in omega (arith, high, also)))
        ]

-- the same, by the lists that were handed on
pub point_said :
    (p : Posed) (kinds : List Kind) (vars : Vars) (set : List Bool) (at joint : Point)
    → IsList (length kinds) vars set
    → IsOver p kinds at joint
    → (f fields slots live class : Formula) (to_fields from_fields to_slots from_slots : List ℕ)
    → to_fields ≡ joint.fields → from_fields ≡ at.fields → to_slots ≡ joint.vars → from_slots ≡ at.vars
    → (length from_fields ≡ length p.unit.fields → SaysSame p kinds (λ x. what.Field x) (λ x. true) to_fields from_fields (length from_fields) fields)
    → (length from_slots ≡ length kinds → SaysSame p kinds (λ x. what.Slot x) (λ x. get_or set x false) to_slots from_slots (length from_slots) slots)
    → IsSameness p kinds what.Live joint.live at.live live
    → IsSameness p kinds what.ClassOf joint.live at.live class
    → ((m : Reading) → holds f m ≡ (holds fields m && holds slots m && (holds live m && holds class m)))
    → (is_sorted p (slice_get kinds) fields ≡ true → is_sorted p (slice_get kinds) slots ≡ true → is_sorted p (slice_get kinds) live ≡ true
    → is_sorted p (slice_get kinds) class ≡ true → is_sorted p (slice_get kinds) f ≡ true)
    → Equates p kinds vars at joint f
point_said p kinds vars set at joint list over f fields slots live class to_fields from_fields to_slots from_slots tf ff ts fs of_fields of_slots of_live of_class meaning sorted =
    point_equates p kinds vars set at joint f fields slots live class list over (record { fields = said; slots = also; live = of_live; class = of_class }) meaning
    (sorted said.sorted also.sorted of_live.sorted of_class.sorted)
  where
    said : SaysSame p kinds (λ x. what.Field x) (λ x. true) joint.fields at.fields (length at.fields) fields
    said = subst (λ xs. SaysSame p kinds (λ x. what.Field x) (λ x. true) xs at.fields (length at.fields) fields) tf
        (subst (λ xs. SaysSame p kinds (λ x. what.Field x) (λ x. true) to_fields xs (length xs) fields) ff (of_fields (ap length ff ∙ over.fields)))

    also : SaysSame p kinds (λ x. what.Slot x) (λ x. get_or set x false) joint.vars at.vars (length at.vars) slots
    also = subst (λ xs. SaysSame p kinds (λ x. what.Slot x) (λ x. get_or set x false) xs at.vars (length at.vars) slots) ts
        (subst (λ xs. SaysSame p kinds (λ x. what.Slot x) (λ x. get_or set x false) to_slots xs (length xs) slots) fs (of_slots (ap length fs ∙ over.vars)))

-- ## two branches

pub are_joined :
    (p : Posed) (kinds : List Kind) (vars : Vars) (begun : Point) (a b : Part) (at : Point) (f left right same also : Formula)
    → at ≡ joint_point begun a.end.at b.end.at
    → (IsOver p kinds a.end.at at → Equates p kinds vars a.end.at at same)
    → (IsOver p kinds b.end.at at → Equates p kinds vars b.end.at at also)
    → ((m : Reading) → holds left m ≡ (holds a.formula m && holds same m))
    → ((m : Reading) → holds right m ≡ (holds b.formula m && holds also m))
    → ((m : Reading) → holds f m ≡ (holds left m || holds right m))
    → (is_sorted p (slice_get kinds) a.formula ≡ true → is_sorted p (slice_get kinds) same ≡ true → is_sorted p (slice_get kinds) left ≡ true)
    → (is_sorted p (slice_get kinds) b.formula ≡ true → is_sorted p (slice_get kinds) also ≡ true → is_sorted p (slice_get kinds) right ≡ true)
    → (is_sorted p (slice_get kinds) left ≡ true → is_sorted p (slice_get kinds) right ≡ true → is_sorted p (slice_get kinds) f ≡ true)
    → IsPoint p kinds b.end.next begun
    → IsPoint p kinds b.end.next a.end.at
    → IsPoint p kinds b.end.next b.end.at
    → AreJoined p kinds vars begun a b (record { formula = f; end = record { at = at; next = b.end.next } })
are_joined p kinds vars begun a b at f left right same also at_is equate equate_also of_left of_right of_all sorted_left sorted_right sorted_all start first second = record {
  first_equal = same;
  second_equal = also;
  next = refl;
  point = subst (λ z. IsPoint p kinds b.end.next z) (sym at_is) (joint_is_point p kinds b.end.next begun a.end.at b.end.at start first second);
  joins = subst (λ z. Joins begun a.end.at b.end.at z) (sym at_is) (joint_joins p kinds b.end.next begun a.end.at b.end.at start first second);
  first_equates = equate over_first;
  second_equates = equate_also over_second;
  meaning = λ m. of_all m ∙ ap (λ z. z || holds right m) (of_left m) ∙ ap (λ z. (holds a.formula m && holds same m) || z) (of_right m);
  sorted = λ one two. sorted_all (sorted_left one (equate over_first).sorted) (sorted_right two (equate_also over_second).sorted);
}
  where
    fields : length a.end.at.fields ≡ length b.end.at.fields
    fields = first.fields ∙ sym second.fields

    slots : length a.end.at.vars ≡ length b.end.at.vars
    slots = first.vars ∙ sym second.vars

    joint_fields : length at.fields ≡ length a.end.at.fields
    joint_fields = ap (λ (z : Point). length z.fields) at_is ∙ joined_length begun.fields a.end.at.fields b.end.at.fields

    joint_vars : length at.vars ≡ length a.end.at.vars
    joint_vars = ap (λ (z : Point). length z.vars) at_is ∙ joined_length begun.vars a.end.at.vars b.end.at.vars

    over_first : IsOver p kinds a.end.at at
    over_first = record { fields = first.fields; vars = first.vars; joint_fields = joint_fields; joint_vars = joint_vars }

    over_second : IsOver p kinds b.end.at at
    over_second = record { fields = second.fields; vars = second.vars; joint_fields = joint_fields ∙ fields; joint_vars = joint_vars ∙ slots }
