-- Actions that set a variable to what an evaluation gives: from a formula that says so at the next index.
use Rattle.std.proofs.Common.{◌≡◌, ◌⊎◌, ℕ, ◌+◌, ◌<◌, true, false, List, [], length, Option, Some, None, refl, sym, ◌∙◌, ap, subst, inl, inr, arith}
use Rattle.std.specs.Prelude.{nat_lt, pos, slice_get, option_map}
use Rattle.std.proofs.lemmas.Bool.{cases_eq}
use Rattle.std.proofs.lemmas.Option.{slice_get_within}
use Rattle.std.proofs.lemmas.List.{length-set, get_or-set_same, get_or-set_other}
use Rattle.taco_unit.specs.declared.kind.Kind.{Kind}
use Rattle.taco_unit.specs.Well.{IsWell}
use Rattle.taco_unit.specs.declared.unit.FieldDef.{FieldDef}
use Rattle.heap_core.specs.declared.value.Value.{Value}
use Rattle.heap_core.specs.declared.value.Value.TheVariants.{Obj}
use Rattle.heap_core.specs.declared.value.Object.{Object}
use Rattle.heap_core.specs.declared.value.Seen.{Seen}
use Rattle.heap_core.specs.declared.value.Seen.TheVariants.{Is, Bad, Out}
use Rattle.heap_core.specs.Posed.{Posed, InRange}
use Rattle.heap_core.specs.Heap.{is_of, class_at, field}
use Rattle.heap_core.proofs.FieldLaws.{none_some, some_same}
use Rattle.rel_core.specs.declared.formula.Formula.{Formula}
use Rattle.rel_core.specs.declared.relation.RelVar.{RelVar}
use Rattle.rel_core.specs.declared.relation.What.{What}
use Rattle.rel_core.specs.declared.relation.What.TheVariants as what
use Rattle.rel_core.specs.Reading.{Reading}
use Rattle.rel_core.specs.Meaning.{holds}
use Rattle.rel_core.specs.Uses.{IsOf, is_slot, is_sorted}
use Rattle.rel_core.specs.Shown.{ShowsValue, IsFirst}
use Rattle.rel_core.specs.States.{IsState, reading_of_state}
use Rattle.rel_core.proofs.StartsShown.{states_are_shown}
use Rattle.dyn_core.specs.declared.state.DynState.{DynState}
use Rattle.dyn_core.specs.States.{var_at, with_var}
use Rattle.dyn_core.specs.Actions.{with_given}
use Rattle.dyn_core.specs.Kinds.{HasKinds}
use Rattle.dyn_core.proofs.Vars.{var_set, var_apart}
use Rattle.dyn_steps.specs.declared.point.Point.{Point}
use Rattle.dyn_steps.specs.declared.part.Front.{Front}
use Rattle.dyn_steps.specs.declared.part.Part.{Part}
use Rattle.dyn_steps.specs.Points.{index_of, relation_at, indices_of, var_moved, IsPoint}
use Rattle.dyn_steps.specs.Agreeing.{IsAlike, Agree}
use Rattle.dyn_steps.specs.Looked.{Vars}
use Rattle.dyn_steps.specs.Paths.{state_in, Shows, GoesOn, IsPath}
use Rattle.dyn_steps.proofs.Moving.{alike_self, agree_less, value_moves, heap_moves, ShowsVars, shows_both, vars_shown, shows_move, agree_at}
use Rattle.dyn_steps.proofs.Readings.{renewed, moved, renewed_of, moved_of, renewed_new, renewed_old, moved_alike}

-- ## the reading of a state, at any index

-- each relation is at index 0
abbrev pub first_index : What → ℕ
first_index w = 0

-- at every index what the state has
abbrev pub state_reading : Posed → List Kind → DynState → Reading
state_reading p kinds t = moved first_index (reading_of_state p (slice_get kinds) (state_in t))

is_state : (p : Posed) (kinds : List Kind) (t : DynState) → HasKinds p kinds t → IsState p (slice_get kinds) (state_in t)
is_state p kinds t has = record { few_objects = has.few_objects; objects_whole = has.objects_whole; values = has.vars }

-- no field and no variable has an index of its own
abbrev first_point : Point
first_point = record { fields = []; live = 0; vars = [] }

first_is : IsFirst (indices_of first_point)
first_is = record { live = refl; fields = λ f. refl; slots = λ x. refl }

pub state_of : (p : Posed) (kinds : List Kind) (t : DynState) → IsWell p.unit → InRange p → HasKinds p kinds t → IsOf p (slice_get kinds) (state_reading p kinds t)
state_of p kinds t well range has =
    moved_of p (slice_get kinds) first_index (reading_of_state p (slice_get kinds) (state_in t)) (states_are_shown p (slice_get kinds) (state_in t) well range (is_state p kinds t has)).of_problem

pub state_value : (p : Posed) (kinds : List Kind) (t : DynState) → IsWell p.unit → InRange p → HasKinds p kinds t → (x : ℕ) (k : Kind) (n : ℕ) → slice_get kinds x ≡ Some k
    → ShowsValue (state_reading p kinds t) k (record { what = what.Slot x; index = n }) 0 (var_at t.vars x)
state_value p kinds t well range has x k n is =
    let at_first = reading_of_state p (slice_get kinds) (state_in t) in
    let shown = (states_are_shown p (slice_get kinds) (state_in t) well range (is_state p kinds t has)).shown (indices_of first_point) first_is in
    value_moves at_first (record { what = what.Slot x; index = 0 }) (state_reading p kinds t) (record { what = what.Slot x; index = n }) k 0 (var_at t.vars x) refl
    (moved_alike first_index at_first (record { what = what.Slot x; index = n })) (shown.values x k is)

-- the value of a field at an object of its class
pub state_cell : (p : Posed) (kinds : List Kind) (t : DynState) → IsWell p.unit → InRange p → HasKinds p kinds t → (g : ℕ) (d : FieldDef) (o n : ℕ) (v : Value)
    → slice_get p.unit.fields g ≡ Some d → is_of t.objects d.class o ≡ true
    → field p.unit.classes t.objects g (Obj o) ≡ Is v
    → ShowsValue (state_reading p kinds t) d.kind (record { what = what.Field g; index = n }) o v
state_cell p kinds t well range has g d o n v there of gives =
    let at_first = reading_of_state p (slice_get kinds) (state_in t) in
    let shown = (states_are_shown p (slice_get kinds) (state_in t) well range (is_state p kinds t has)).shown (indices_of first_point) first_is in
    let cell = shown.heap.cells g d o there of in
    let same : cell.value ≡ v = is_same (sym cell.is ∙ gives) in
    subst (λ u. ShowsValue (state_reading p kinds t) d.kind (record { what = what.Field g; index = n }) o u) same
    (value_moves at_first (record { what = what.Field g; index = 0 }) (state_reading p kinds t) (record { what = what.Field g; index = n }) d.kind o cell.value refl
    (moved_alike first_index at_first (record { what = what.Field g; index = n })) cell.shown)
  where
    is_same : {u v : Value} → Is u ≡ Is v → u ≡ v
    is_same is = cc

-- which objects are there, and of which class each is
pub state_live : (p : Posed) (kinds : List Kind) (t : DynState) → IsWell p.unit → InRange p → HasKinds p kinds t → (o n : ℕ)
    → (state_reading p kinds t).flag (record { what = what.Live; index = n }) o ≡ nat_lt o (length t.objects)
state_live p kinds t well range has o n = ((states_are_shown p (slice_get kinds) (state_in t) well range (is_state p kinds t has)).shown (indices_of first_point) first_is).heap.live o

pub state_class : (p : Posed) (kinds : List Kind) (t : DynState) → IsWell p.unit → InRange p → HasKinds p kinds t → (o n c : ℕ) → class_at t.objects o ≡ Some c
    → (state_reading p kinds t).number (record { what = what.ClassOf; index = n }) o ≡ pos c
state_class p kinds t well range has o n c is = at (slice_get t.objects o) refl is
  where
    at : (y : Option Object) → slice_get t.objects o ≡ y → option_map (λ (y : Object). y.class) y ≡ Some c → (state_reading p kinds t).number (record { what = what.ClassOf; index = n }) o ≡ pos c
    at (Some y) there is = ((states_are_shown p (slice_get kinds) (state_in t) well range (is_state p kinds t has)).shown (indices_of first_point) first_is).heap.classes o y there
        ∙ ap pos (some_same is)
    at None there is = absurd (none_some is)

-- ## a variable at another index

pub var_index : (at : Point) (x n : ℕ) → x < length at.vars → index_of (var_moved at x n) (what.Slot x) ≡ n
var_index at x n within = get_or-set_same at.vars x n 0 within

pub var_index_apart : (at : Point) (x n y : ℕ) → (y ≡ x → ⊥) → index_of (var_moved at x n) (what.Slot y) ≡ index_of at (what.Slot y)
var_index_apart at x n y apart = get_or-set_other at.vars x y n 0 apart

-- each index is the one before, or the new one
pub var_indices : (at : Point) (x n : ℕ) → x < length at.vars → (w : What) → (index_of (var_moved at x n) w ≡ index_of at w) ⊎ (index_of (var_moved at x n) w ≡ n)
var_indices at x n within what.Live = inl refl
var_indices at x n within what.ClassOf = inl refl
var_indices at x n within (what.Field f) = inl refl
var_indices at x n within (what.Slot y) = elim (cases_eq y x) [
  | inl same ↦ inr (ap (λ z. index_of (var_moved at x n) (what.Slot z)) same ∙ var_index at x n within)
  | inr apart ↦ inl (var_index_apart at x n y apart)
]

pub var_point : (p : Posed) (kinds : List Kind) (n : ℕ) (at : Point) (x : ℕ) → x < length at.vars → IsPoint p kinds n at → IsPoint p kinds (n + 1) (var_moved at x n)
var_point p kinds n at x within point = record {
  fields = point.fields;
  vars = length-set at.vars x n ∙ point.vars;
  below = λ w. elim (var_indices at x n within w) [
    | inl old ↦ subst (λ i. i < n + 1) (sym old) (let low = point.below w in omega (arith, low))
    | inr new ↦ subst (λ i. i < n + 1) (sym new) (omega arith)
  ];
}

var_heap_alike : (at : Point) (x n : ℕ) (m : Reading) (w : What) → is_slot w ≡ false → IsAlike m (relation_at at w) m (relation_at (var_moved at x n) w)
var_heap_alike at x n m what.Live is = alike_self m (relation_at at what.Live)
var_heap_alike at x n m what.ClassOf is = alike_self m (relation_at at what.ClassOf)
var_heap_alike at x n m (what.Field f) is = alike_self m (relation_at at (what.Field f))
var_heap_alike at x n m (what.Slot y) is = absurd (cc)

-- a state is shown after a variable was set to a value, where the value is shown at the new index
pub var_shown_after :
    (p : Posed) (kinds : List Kind) (before after : Vars) (m : Reading) (at : Point) (n x : ℕ) (k : Kind) (s : DynState) (v : Value)
    → x < length at.vars
    → slice_get kinds x ≡ Some k
    → ((y : ℕ) → after y ≡ true → (y ≡ x → ⊥) → before y ≡ true)
    → Shows p kinds before m at s
    → ShowsValue m k (record { what = what.Slot x; index = n }) 0 v
    → Shows p kinds after m (var_moved at x n) (record s { vars = with_var s.vars x v })
var_shown_after p kinds before after m at n x k s v within there kept shown value =
    shows_both p kinds after m (var_moved at x n) (record s { vars = with_var s.vars x v })
    (heap_moves p.unit m m at (var_moved at x n) s.objects refl (var_heap_alike at x n m) shown.heap) each
  where
    each : ShowsVars kinds after m (var_moved at x n) (record s { vars = with_var s.vars x v })
    each y l inside is = elim (cases_eq y x) [
      | inl same ↦
          let one : k ≡ l = some_same (sym there ∙ ap (slice_get kinds) (sym same) ∙ is) in
          let now : v ≡ var_at (with_var s.vars x v) y = sym (ap (var_at (with_var s.vars x v)) same ∙ var_set s.vars x v) in
          let at_x : ShowsValue m l (record { what = what.Slot x; index = n }) 0 (var_at (with_var s.vars x v) y) = subst
          (λ u. ShowsValue m l (record { what = what.Slot x; index = n }) 0 u) now (subst (λ j. ShowsValue m j (record { what = what.Slot x; index = n }) 0 v) one value) in
          let index : n ≡ index_of (var_moved at x n) (what.Slot x) = sym (var_index at x n within) in
          let here : ShowsValue m l (relation_at (var_moved at x n) (what.Slot x)) 0 (var_at (with_var s.vars x v) y) = subst
          (λ i. ShowsValue m l (record { what = what.Slot x; index = i }) 0 (var_at (with_var s.vars x v) y)) index at_x in
          subst (λ z. ShowsValue m l (relation_at (var_moved at x n) (what.Slot z)) 0 (var_at (with_var s.vars x v) y)) (sym same) here
      | inr apart ↦
          let old : ShowsValue m l (relation_at at (what.Slot y)) 0 (var_at s.vars y) = vars_shown p kinds before m at s shown y l (kept y inside apart) is in
          let index : index_of at (what.Slot y) ≡ index_of (var_moved at x n) (what.Slot y) = sym (var_index_apart at x n y apart) in
          subst (λ u. ShowsValue m l (relation_at (var_moved at x n) (what.Slot y)) 0 u) (sym (var_apart s.vars x v y apart))
          (subst (λ i. ShowsValue m l (record { what = what.Slot y; index = i }) 0 (var_at s.vars y)) index old)
    ]

-- ## the part of such an action

-- the formula says that the variable is, at the next index, what the evaluation gives
pub record Sets (p : Posed) (kinds : List Kind) (before : Vars) (x : ℕ) (k : Kind) (eval : DynState → Seen) (from : Front) (f : Formula) : Type 0 where
  pub sorted : is_sorted p (slice_get kinds) f ≡ true
  pub sound :
      (m : Reading) (s : DynState)
      → IsOf p (slice_get kinds) m
      → HasKinds p kinds s
      → Shows p kinds before m from.at s
      → holds f m ≡ true
      → (v : Value) × (eval s ≡ Is v) × ShowsValue m k (record { what = what.Slot x; index = from.next }) 0 v
  pub full :
      (m : Reading) (s : DynState) (v : Value)
      → IsOf p (slice_get kinds) m
      → HasKinds p kinds s
      → Shows p kinds before m from.at s
      → eval s ≡ Is v
      → ShowsValue m k (record { what = what.Slot x; index = from.next }) 0 v
      → holds f m ≡ true

-- what is given, where a variable is set to it
given_is : (x : ℕ) (s t : DynState) (e : Seen) → with_given x s e ≡ Some t → (v : Value) × (e ≡ Is v) × (record s { vars = with_var s.vars x v } ≡ t)
given_is x s t (Is v) is = (v, refl, some_same is)
given_is x s t Bad is = absurd (none_some is)
given_is x s t Out is = absurd (none_some is)

abbrev pub Gives : ℕ → (DynState → Seen) → DynState → DynState → Type 0
Gives x eval s t = with_given x s (eval s) ≡ Some t

module _ (p : Posed) (kinds : List Kind) (before after : Vars) (x : ℕ) (k : Kind) (eval : DynState → Seen) (from : Front) (f : Formula)
    (well : IsWell p.unit) (range : InRange p) (there : slice_get kinds x ≡ Some k)
    (point : IsPoint p kinds from.next from.at)
    (kept : (y : ℕ) → after y ≡ true → (y ≡ x → ⊥) → before y ≡ true)
    (keeps : (s t : DynState) → HasKinds p kinds s → Gives x eval s t → HasKinds p kinds t)
    (sets : Sets p kinds before x k eval from f) where
  abbrev set_part : Part
  set_part = record { formula = f; end = record { at = var_moved from.at x from.next; next = from.next + 1 } }

  within : x < length from.at.vars
  within = let low : x < length kinds = slice_get_within kinds x k there in let vars = point.vars in omega (arith, low, vars)

  set_sound : (m : Reading) (s : DynState) → IsOf p (slice_get kinds) m → holds f m ≡ true → HasKinds p kinds s → Shows p kinds before m from.at s → (t : DynState) × Gives x eval s t
      × Shows p kinds after m set_part.end.at t
  set_sound m s of is has shown =
      let v = sets.sound m s of has shown is in
      (record s { vars = with_var s.vars x v.0 }, ap (with_given x s) v.1, var_shown_after p kinds before after m from.at from.next x k s v.0 within there kept shown v.2)

  set_full : (m : Reading) (s t : DynState) → IsOf p (slice_get kinds) m → HasKinds p kinds s → Shows p kinds before m from.at s → Gives x eval s t → GoesOn p kinds after m from.next set_part t
  set_full m s t of has shown run = record {
    reading = reading;
    of_problem = renewed_of p (slice_get kinds) from.next (state_reading p kinds t) m (state_of p kinds t well range has_after) of;
    agrees = agrees;
    shown = subst (λ z. Shows p kinds after reading set_part.end.at z) v.2 (var_shown_after p kinds before after reading from.at from.next x k s v.0 within there kept shown_on value_on);
    holds = λ u is agree.
        let near : Agree from.next reading u = agree_less from.next (from.next + 1) reading u (omega arith) agree in
        sets.full u s v.0 is has (shows_move p kinds before reading u from.at from.at s (is.objects ∙ sym of.objects)
        (λ w looked. agree_at p kinds from.next from.at reading u point near w) shown_on) v.1
        (value_moves reading new u new k 0 v.0 (is.objects ∙ sym of.objects) (agree new (omega arith)) value_on);
  }
    where
      v : (v : Value) × (eval s ≡ Is v) × (record s { vars = with_var s.vars x v } ≡ t)
      v = given_is x s t (eval s) run

      has_after : HasKinds p kinds t
      has_after = keeps s t has run

      reading : Reading
      reading = renewed from.next (state_reading p kinds t) m

      agrees : Agree from.next m reading
      agrees = renewed_old from.next (state_reading p kinds t) m

      new : RelVar
      new = record { what = what.Slot x; index = from.next }

      shown_on : Shows p kinds before reading from.at s
      shown_on = shows_move p kinds before m reading from.at from.at s refl (λ w looked. agree_at p kinds from.next from.at m reading point agrees w) shown

      value_on : ShowsValue reading k new 0 v.0
      value_on =
          let now : var_at t.vars x ≡ v.0 = ap (λ (z : DynState). var_at z.vars x) (sym v.2) ∙ var_set s.vars x v.0 in
          let same : m.objects ≡ p.scope.objects = of.objects in
          value_moves (state_reading p kinds t) new reading new k 0 v.0 same (renewed_new from.next (state_reading p kinds t) m new refl)
          (subst (λ u. ShowsValue (state_reading p kinds t) k new 0 u) now (state_value p kinds t well range has_after x k from.next there))

  pub set_path : IsPath p kinds before after (Gives x eval) from set_part
  set_path = record {
    up = omega arith;
    point = var_point p kinds from.next from.at x within point;
    indices = λ w. elim (var_indices from.at x from.next within w) [
      | inl old ↦ inl old
      | inr new ↦ inr (omega (arith, new))
    ];
    sorted = sets.sorted;
    sound = set_sound;
    full = set_full;
  }
