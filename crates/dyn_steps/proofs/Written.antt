-- The part of a write.
use Rattle.std.proofs.Common.{◌≡◌, ◌⊎◌, ℕ, ◌+◌, ◌<◌, ◌≤◌, Bool, true, false, not, ◌&&◌, List, length, Option, Some, None, inl, inr, refl, sym, ◌∙◌, ap, subst, arith}
use Rattle.std.specs.Prelude.{◌==◌, nat_lt, pos, if◌then◌else◌, slice_get, option_map}
use Rattle.std.specs.Option.{option_map_or}
use Rattle.std.proofs.lemmas.Bool.{cases_eq, eq-eqb, ne_eqb, eqb-true, and_parts, and_from, false≢true, false_from_ne_true}
use Rattle.std.proofs.lemmas.Option.{slice_get_within}
use Rattle.std.proofs.lemmas.List.{length-set, get_or-set_same, get_or-set_other}
use Rattle.taco_unit.specs.declared.kind.Kind.{Kind}
use Rattle.taco_unit.specs.declared.kind.Kind.TheVariants as kind
use Rattle.taco_unit.specs.declared.unit.FieldDef.{FieldDef}
use Rattle.taco_unit.specs.Kinds.{is_class_kind}
use Rattle.taco_unit.specs.Well.{IsWell}
use Rattle.heap_core.specs.declared.value.Value.{Value}
use Rattle.heap_core.specs.declared.value.Value.TheVariants.{Null, Obj, Num, Flag}
use Rattle.heap_core.specs.declared.value.Object.{Object}
use Rattle.heap_core.specs.declared.value.Seen.TheVariants.{Is}
use Rattle.heap_core.specs.Posed.{Posed, InRange}
use Rattle.heap_core.specs.Outcomes.{gives, is_value}
use Rattle.heap_core.specs.Heap.{Heap, is_of, field, put}
use Rattle.heap_core.specs.Start.{has_kind}
use Rattle.heap_core.proofs.FieldLaws.{none_some, some_same, IsPut, put_is, put_length, put_class, put_field}
use Rattle.rel_core.specs.declared.formula.Formula.{Formula}
use Rattle.rel_core.specs.declared.relation.RelVar.{RelVar}
use Rattle.rel_core.specs.declared.relation.What.{What}
use Rattle.rel_core.specs.declared.relation.What.TheVariants as what
use Rattle.rel_core.specs.Reading.{Reading}
use Rattle.rel_core.specs.Meaning.{has_object, is_changed, holds}
use Rattle.rel_core.specs.Uses.{use_of_kind, is_sorted, IsOf}
use Rattle.rel_core.specs.Shown.{ShowsValue, ShowsCell, ShowsHeap, field_relation}
use Rattle.dyn_core.specs.declared.prog.Act.TheVariants.{Write}
use Rattle.dyn_core.specs.declared.state.DynState.{DynState}
use Rattle.dyn_core.specs.States.{var_at}
use Rattle.dyn_core.specs.Actions.{put_through}
use Rattle.dyn_core.specs.Kinds.{HasKinds}
use Rattle.dyn_core.proofs.Fitting.{field_is}
use Rattle.dyn_core.proofs.Kept.{act_keeps_kinds}
use Rattle.dyn_steps.specs.declared.point.Point.{Point}
use Rattle.dyn_steps.specs.declared.part.Front.{Front}
use Rattle.dyn_steps.specs.Points.{index_of, relation_at, indices_of, field_moved, IsPoint}
use Rattle.dyn_steps.specs.Agreeing.{IsAlike, Agree}
use Rattle.dyn_steps.specs.Looked.{Vars, with_one, looked_at}
use Rattle.dyn_steps.specs.Meanings.{is_through}
use Rattle.dyn_steps.specs.Paths.{Shows, Acts, GoesOn, IsPath, IsStep, field_set}
use Rattle.dyn_steps.proofs.Moving.{agree_less, agree_at, shows_both, vars_shown, shows_move}
use Rattle.dyn_steps.proofs.Readings.{renewed, moved, spliced, renewed_of, moved_of, spliced_of, renewed_new, renewed_old, moved_alike}
use Rattle.dyn_steps.proofs.Puts.{is_of_class, put_works}
use Rattle.dyn_steps.proofs.Numbers.{through_is}
use Rattle.dyn_steps.proofs.Saying.{object_set, object_low}
use Rattle.dyn_steps.proofs.SetVars.{state_reading, state_of, state_cell}
use Rattle.dyn_steps.proofs.Acts.{one_in, more_in}
use Rattle.dyn_steps.proofs.Places.{spliced_first, spliced_second, IsAlikeAt, place_back, place_on, place_at, place_moves, changed_here, changed_apart, changed_from, shown_alike}

-- ## a field at another index

pub field_index : (at : Point) (g n : ℕ) → g < length at.fields → index_of (field_moved at g n) (what.Field g) ≡ n
field_index at g n within = get_or-set_same at.fields g n 0 within

pub field_index_apart : (at : Point) (g n h : ℕ) → (h ≡ g → ⊥) → index_of (field_moved at g n) (what.Field h) ≡ index_of at (what.Field h)
field_index_apart at g n h apart = get_or-set_other at.fields g h n 0 apart

pub field_indices : (at : Point) (g n : ℕ) → g < length at.fields → (w : What) → (index_of (field_moved at g n) w ≡ index_of at w) ⊎ (index_of (field_moved at g n) w ≡ n)
field_indices at g n within what.Live = inl refl
field_indices at g n within what.ClassOf = inl refl
field_indices at g n within (what.Slot x) = inl refl
field_indices at g n within (what.Field h) = elim (cases_eq h g) [
  | inl same ↦ inr (ap (λ z. index_of (field_moved at g n) (what.Field z)) same ∙ field_index at g n within)
  | inr apart ↦ inl (field_index_apart at g n h apart)
]

pub field_point : (p : Posed) (kinds : List Kind) (n : ℕ) (at : Point) (g : ℕ) → g < length at.fields → IsPoint p kinds n at → IsPoint p kinds (n + 1) (field_moved at g n)
field_point p kinds n at g within point = record {
  fields = length-set at.fields g n ∙ point.fields;
  vars = point.vars;
  below = λ w. elim (field_indices at g n within w) [
    | inl old ↦ subst (λ i. i < n + 1) (sym old) (let low = point.below w in omega (arith, low))
    | inr new ↦ subst (λ i. i < n + 1) (sym new) (omega arith)
  ];
}

-- ## heaps

-- the references of a relation that shows a value of class kind
refs_of_class : (m : Reading) (k : Kind) (r : RelVar) (o : ℕ) (v w : Value) → is_class_kind k ≡ true → ShowsValue m k r o v → m.refs r o w ≡ is_value v w
refs_of_class m (kind.Ref c) r o v w is shown = shown.1 w
refs_of_class m kind.Int r o v w is shown = absurd (false≢true is)
refs_of_class m kind.Flag r o v w is shown = absurd (false≢true is)

module _ (p : Posed) (kinds : List Kind) (from : Front) (g : ℕ) (d : FieldDef) (there : slice_get p.unit.fields g ≡ Some d) (point : IsPoint p kinds from.next from.at) where
  abbrev new : RelVar
  new = record { what = what.Field g; index = from.next }

  abbrev old : RelVar
  old = relation_at from.at (what.Field g)

  abbrev to : Point
  to = field_moved from.at g from.next

  within : g < length from.at.fields
  within = let low : g < length p.unit.fields = slice_get_within p.unit.fields g d there in let fields = point.fields in omega (arith, low, fields)

  -- the relation of the field, of another
  moved_new : (h : ℕ) → h ≡ g → field_relation (indices_of to) h ≡ new
  moved_new h same = ap (λ z. field_relation (indices_of to) z) same ∙ ap (λ (i : ℕ). record { what = what.Field g; index = i }) (field_index from.at g from.next within)

  moved_old : (h : ℕ) → (h ≡ g → ⊥) → field_relation (indices_of to) h ≡ field_relation (indices_of from.at) h
  moved_old h apart = ap (λ (i : ℕ). record { what = what.Field h; index = i }) (field_index_apart from.at g from.next h apart)

  -- the heap that is written is shown, where the new relation has the value at the object, and else what the old one has
  written_heap :
      (m : Reading) (heap after : Heap) (o : ℕ) (v : Value) (given : RelVar)
      → IsPut p.unit.classes heap g o v after
      → ShowsHeap p.unit m (indices_of from.at) heap
      → ShowsValue m d.kind given 0 v
      → IsAlikeAt m given 0 m new o
      → ((q : ℕ) → (q ≡ o → ⊥) → IsAlikeAt m old q m new q)
      → ShowsHeap p.unit m (indices_of to) after
  written_heap m heap after o v given w shown value here apart = record {
    few = subst (λ k. k ≤ m.objects) (sym (put_length w)) shown.few;
    live = λ q. shown.live q ∙ ap (nat_lt q) (sym (put_length w));
    classes = λ q x is. class_shown q x.class (slice_get heap q) refl (sym (put_class w q) ∙ ap (option_map (λ (x : Object). x.class)) is);
    cells = λ h e q is of. cell_shown h e q is (same_class e.class q ∙ of) (cases_eq h g) (cases_eq q o);
    links = λ h e q u is class. link_shown h e q u is class (cases_eq h g) (cases_eq q o);
  }
    where
      class_shown : (q c : ℕ) (x : Option Object) → slice_get heap q ≡ x → option_map (λ (x : Object). x.class) x ≡ Some c → m.number (relation_at from.at what.ClassOf) q ≡ pos c
      class_shown q c (Some x) at is = shown.classes q x at ∙ ap pos (some_same is)
      class_shown q c None at is = absurd (none_some is)

      same_class : (c q : ℕ) → is_of heap c q ≡ is_of after c q
      same_class c q = is_of_class heap c q ∙ ap (λ k. option_map_or (λ l. l == c) k false) (sym (put_class w q)) ∙ sym (is_of_class after c q)

      at_new : (h q : ℕ) → h ≡ g → q ≡ o → field p.unit.classes after h (Obj q) ≡ Is v
      at_new h q field_is place_is = put_field w h q ∙ ap (λ b. if b then Is v else field p.unit.classes heap h (Obj q)) (and_from (q == o) (h == g) (eq-eqb q o place_is) (eq-eqb h g field_is))

      at_old : (h q : ℕ) → ((q == o && h == g) ≡ true → ⊥) → field p.unit.classes after h (Obj q) ≡ field p.unit.classes heap h (Obj q)
      at_old h q other = put_field w h q ∙ ap (λ b. if b then Is v else field p.unit.classes heap h (Obj q)) (false_from_ne_true (q == o && h == g) other)

      other_place : (h q : ℕ) → (q ≡ o → ⊥) → (q == o && h == g) ≡ true → ⊥
      other_place h q other is = other (eqb-true q o (and_parts (q == o) (h == g) is).0)

      other_field : (h q : ℕ) → (h ≡ g → ⊥) → (q == o && h == g) ≡ true → ⊥
      other_field h q other is = other (eqb-true h g (and_parts (q == o) (h == g) is).1)

      one_field : (h : ℕ) (e : FieldDef) → h ≡ g → slice_get p.unit.fields h ≡ Some e → d ≡ e
      one_field h e same is = some_same (sym there ∙ ap (slice_get p.unit.fields) (sym same) ∙ is)

      cell_shown : (h : ℕ) (e : FieldDef) (q : ℕ) → slice_get p.unit.fields h ≡ Some e → is_of heap e.class q ≡ true → (h ≡ g) ⊎ (h ≡ g → ⊥) → (q ≡ o) ⊎ (q ≡ o → ⊥)
          → ShowsCell p.unit m (indices_of to) after h e q
      cell_shown h e q is of (inl same) (inl place) = record {
        value = v;
        is = at_new h q same place;
        shown =
            let one : ShowsValue m d.kind new o v = place_moves m given 0 m new o d.kind v refl here value in
            subst (λ r. ShowsValue m e.kind r q v) (sym (moved_new h same))
            (subst (λ i. ShowsValue m e.kind new i v) (sym place) (subst (λ (z : FieldDef). ShowsValue m z.kind new o v) (one_field h e same is) one));
      }
      cell_shown h e q is of (inl same) (inr other) =
          let cell = shown.cells h e q is of in
          record {
            value = cell.value;
            is = at_old h q (other_place h q other) ∙ cell.is;
            shown =
                let before : ShowsValue m e.kind old q cell.value = subst (λ z. ShowsValue m e.kind (relation_at from.at (what.Field z)) q cell.value) same cell.shown in
                subst (λ r. ShowsValue m e.kind r q cell.value) (sym (moved_new h same)) (place_moves m old q m new q e.kind cell.value refl (apart q other) before);
          }
      cell_shown h e q is of (inr other) place =
          let cell = shown.cells h e q is of in
          record { value = cell.value; is = at_old h q (other_field h q other) ∙ cell.is; shown = subst (λ r. ShowsValue m e.kind r q cell.value) (sym (moved_old h other)) cell.shown }

      link_shown : (h : ℕ) (e : FieldDef) (q : ℕ) (u : Value) → slice_get p.unit.fields h ≡ Some e → is_class_kind e.kind ≡ true → (h ≡ g) ⊎ (h ≡ g → ⊥) → (q ≡ o) ⊎ (q ≡ o → ⊥)
          → m.refs (field_relation (indices_of to) h) q u ≡ gives u (field p.unit.classes after h (Obj q))
      link_shown h e q u is class (inl same) (inl place) =
          ap (λ r. m.refs r q u) (moved_new h same) ∙ ap (λ i. m.refs new i u) place ∙ here.refs u
          ∙ refs_of_class m d.kind given 0 v u (ap (λ (z : FieldDef). is_class_kind z.kind) (one_field h e same is) ∙ class) value
          ∙ ap (gives u) (sym (at_new h q same place))
      link_shown h e q u is class (inl same) (inr other) =
          ap (λ r. m.refs r q u) (moved_new h same) ∙ (apart q other).refs u ∙ ap (λ z. m.refs (relation_at from.at (what.Field z)) q u) (sym same) ∙ shown.links h e q u is class
          ∙ ap (gives u) (sym (at_old h q (other_place h q other)))
      link_shown h e q u is class (inr other) place =
          ap (λ r. m.refs r q u) (moved_old h other) ∙ shown.links h e q u is class ∙ ap (gives u) (sym (at_old h q (other_field h q other)))

  -- ## the part

  module _ (x y : ℕ) (f : Formula) (well : IsWell p.unit) (range : InRange p) (object : slice_get kinds x ≡ Some (kind.Ref d.class)) (value : slice_get kinds y ≡ Some d.kind)
      (meaning : (m : Reading) → holds f m ≡ (is_through m (relation_at from.at (what.Slot x)) && is_changed m new (m.refs (relation_at from.at (what.Slot x)) 0)
      (relation_at from.at (what.Slot y)) old))
      (sorted : is_sorted p (slice_get kinds) f ≡ true) (after : Vars)
      (keeps : (s t : DynState) → HasKinds p kinds s → Acts p (Write x g y) s t → HasKinds p kinds t) where
    abbrev Of : Reading → Type 0
    Of = IsOf p (slice_get kinds)

    abbrev through : RelVar
    through = relation_at from.at (what.Slot x)

    abbrev given : RelVar
    given = relation_at from.at (what.Slot y)

    abbrev before : Vars
    before = looked_at (Write x g y) after

    abbrev Before : Reading → DynState → Type 0
    Before m s = Shows p kinds before m from.at s

    object_shown : (m : Reading) (s : DynState) → Before m s → ShowsValue m (kind.Ref d.class) through 0 (var_at s.vars x)
    object_shown m s shown = vars_shown p kinds before m from.at s shown x (kind.Ref d.class) (one_in x (with_one y after)) object

    value_shown : (m : Reading) (s : DynState) → Before m s → ShowsValue m d.kind given 0 (var_at s.vars y)
    value_shown m s shown = vars_shown p kinds before m from.at s shown y d.kind (more_in x (with_one y after) y (one_in y after)) value

    -- the write of an object that is there
    record Writes (s t : DynState) : Type 0 where
      pub place : ℕ
      pub heap : Heap
      pub is_object : var_at s.vars x ≡ Obj place
      pub put : IsPut p.unit.classes s.objects g place (var_at s.vars y) heap
      pub ends : record s { objects = heap } ≡ t

    -- what is shown after it
    written_shown : (m : Reading) (s t : DynState) (w : Writes s t) → Before m s → IsAlikeAt m given 0 m new w.place → ((q : ℕ) → (q ≡ w.place → ⊥) → IsAlikeAt m old q m new q)
        → Shows p kinds after m to t
    written_shown m s t w shown here apart = subst (λ z. Shows p kinds after m to z) w.ends
        (shows_both p kinds after m to (record s { objects = w.heap })
        (written_heap m s.objects w.heap w.place (var_at s.vars y) given w.put shown.heap (value_shown m s shown) here apart)
        (λ z k inside is. vars_shown p kinds before m from.at s shown z k (more_in x (with_one y after) z (more_in y after z inside)) is))

    -- where the first variable is an object
    alone : (m : Reading) (s : DynState) (o : ℕ) → var_at s.vars x ≡ Obj o → Before m s → (q : ℕ) → has_object (m.refs through 0) q ≡ (o == q)
    alone m s o is shown = object_set m d.class through o (subst (λ v. ShowsValue m (kind.Ref d.class) through 0 v) is (object_shown m s shown))

    low : (m : Reading) (s : DynState) (o : ℕ) → var_at s.vars x ≡ Obj o → Before m s → o < m.objects
    low m s o is shown = object_low m d.class through o (subst (λ v. ShowsValue m (kind.Ref d.class) through 0 v) is (object_shown m s shown))

    -- what the formula says of a write
    sound_at : (m : Reading) (s : DynState) (v : Value) → Of m → HasKinds p kinds s → Before m s → var_at s.vars x ≡ v → is_through m through ≡ true
        → is_changed m new (m.refs through 0) given old ≡ true
        → (t : DynState) × Acts p (Write x g y) s t × Shows p kinds after m to t
    sound_at m s Null of has shown is open_way changed =
        let null : m.refs through 0 Null ≡ true = (object_shown m s shown).1 Null ∙ ap (λ v. is_value v Null) is in
        absurd (false≢true (sym (through_is m through ∙ ap not null) ∙ open_way))
    sound_at m s (Obj o) of has shown is open_way changed =
        let there_object : is_of s.objects d.class o ≡ true = ap (has_kind p.scope.ints s.objects (kind.Ref d.class)) (sym is) ∙ has.vars x (kind.Ref d.class) object in
        let cell = shown.heap.cells g d o there there_object in
        let done = put_works p.unit.classes s.objects g o (var_at s.vars y) cell.value cell.is in
        let t : DynState = record s { objects = done.0 } in
        let w : Writes s t = record { place = o; heap = done.0; is_object = is; put = put_is p.unit.classes s.objects g o (var_at s.vars y) done.0 done.1; ends = refl } in
        let acts : Acts p (Write x g y) s t = ap (λ v. option_map (λ h. record s { objects = h }) (put_through p.unit.classes s.objects g v (var_at s.vars y))) is
        ∙ ap (option_map (λ h. record s { objects = h })) done.1 in
        let here = changed_here p (slice_get kinds) m of new (m.refs through 0) given old changed o (low m s o is shown) (alone m s o is shown o ∙ eq-eqb o o refl) in (
          t,
          acts,
          written_shown m s t w shown here
              (λ q apart. changed_apart p (slice_get kinds) m of new (m.refs through 0) given old changed q (alone m s o is shown q ∙ ne_eqb o q (λ same. apart (sym same)))),
        )
    sound_at m s (Num z) of has shown is open_way changed = absurd (false≢true (ap (has_kind p.scope.ints s.objects (kind.Ref d.class)) (sym is) ∙ has.vars x (kind.Ref d.class) object))
    sound_at m s (Flag b) of has shown is open_way changed = absurd (false≢true (ap (has_kind p.scope.ints s.objects (kind.Ref d.class)) (sym is) ∙ has.vars x (kind.Ref d.class) object))

    write_sound : (m : Reading) (s : DynState) → Of m → holds f m ≡ true → HasKinds p kinds s → Before m s → (t : DynState) × Acts p (Write x g y) s t × Shows p kinds after m to t
    write_sound m s of is has shown =
        let both = and_parts (is_through m through) (is_changed m new (m.refs through 0) given old) (sym (meaning m) ∙ is) in
        sound_at m s (var_at s.vars x) of has shown refl both.0 both.1

    -- a write is one of an object that is there
    writes : (s t : DynState) → Acts p (Write x g y) s t → Writes s t
    writes s t run = at (var_at s.vars x) refl run
      where
        ended : (o : ℕ) → var_at s.vars x ≡ Obj o → (h : Option Heap) → put p.unit.classes s.objects g o (var_at s.vars y) ≡ h → option_map (λ h. record s { objects = h }) h ≡ Some t → Writes s t
        ended o is (Some h) done ends = record { place = o; heap = h; is_object = is; put = put_is p.unit.classes s.objects g o (var_at s.vars y) h done; ends = some_same ends }
        ended o is None done ends = absurd (none_some ends)

        at : (v : Value) → var_at s.vars x ≡ v → option_map (λ h. record s { objects = h }) (put_through p.unit.classes s.objects g v (var_at s.vars y)) ≡ Some t → Writes s t
        at (Obj o) is ends = ended o is (put p.unit.classes s.objects g o (var_at s.vars y)) refl ends
        at Null is ends = absurd (none_some ends)
        at (Num z) is ends = absurd (none_some ends)
        at (Flag b) is ends = absurd (none_some ends)

    -- the reading of the state afterwards at one place, and what the relations had at all others
    abbrev at_place : ℕ → RelVar → ℕ → Bool
    at_place o r q = q == o

    abbrev chosen_at : Reading → DynState → ℕ → Reading
    chosen_at m t o = spliced (at_place o) (state_reading p kinds t) (moved (index_of from.at) m)

    abbrev reading_at : Reading → DynState → ℕ → Reading
    reading_at m t o = renewed from.next (chosen_at m t o) m

    write_full : (m : Reading) (s t : DynState) → Of m → HasKinds p kinds s → Before m s → Acts p (Write x g y) s t → GoesOn p kinds after m from.next (field_set from g f) t
    write_full m s t of has shown run = record {
      reading = (reading_at m t w.place);
      of_problem = reading_of;
      agrees = agrees;
      shown = written_shown (reading_at m t w.place) s t w shown_on here_on apart_on;
      holds = λ u is agree.
          let near : Agree from.next (reading_at m t w.place) u = agree_less from.next (from.next + 1) (reading_at m t w.place) u (omega arith) agree in
          let shown_u : Before u s = shows_move p kinds before (reading_at m t w.place) u from.at from.at s (is.objects ∙ sym reading_of.objects)
          (λ z looked. agree_at p kinds from.next from.at (reading_at m t w.place) u point near z) shown_on in
          let new_u : IsAlike (reading_at m t w.place) new u new = agree new (omega arith) in
          let null : u.refs through 0 Null ≡ false = (object_shown u s shown_u).1 Null ∙ ap (λ v. is_value v Null) w.is_object in
          meaning u ∙ and_from (is_through u through) (is_changed u new (u.refs through 0) given old) (through_is u through ∙ ap not null)
          (changed_from p (slice_get kinds) u is new (u.refs through 0) given old
          (λ q below one.
          let same : w.place ≡ q = eqb-true w.place q (sym (alone u s w.place w.is_object shown_u q) ∙ one) in
          subst (λ i. IsAlikeAt u given 0 u new i) same
          (place_on (place_back (place_at (agree_at p kinds from.next from.at (reading_at m t w.place) u point near (what.Slot y)) 0)) (place_on here_on (place_at new_u w.place))))
          (λ q lacks.
          let other : q ≡ w.place → ⊥ = λ same. false≢true (sym lacks ∙ alone u s w.place w.is_object shown_u q ∙ eq-eqb w.place q (sym same)) in
          place_on (place_back (place_at (agree_at p kinds from.next from.at (reading_at m t w.place) u point near (what.Field g)) q)) (place_on (apart_on q other) (place_at new_u q))));
    }
      where
        w : Writes s t
        w = writes s t run

        has_after : HasKinds p kinds t
        has_after = keeps s t has run

        reading_of : Of (reading_at m t w.place)
        reading_of = renewed_of p (slice_get kinds) from.next (chosen_at m t w.place) m
            (spliced_of p (slice_get kinds) (at_place w.place) (state_reading p kinds t) (moved (index_of from.at) m) (state_of p kinds t well range has_after)
            (moved_of p (slice_get kinds) (index_of from.at) m of)) of

        agrees : Agree from.next m (reading_at m t w.place)
        agrees = renewed_old from.next (chosen_at m t w.place) m

        shown_on : Before (reading_at m t w.place) s
        shown_on = shows_move p kinds before m (reading_at m t w.place) from.at from.at s refl (λ z looked. agree_at p kinds from.next from.at m (reading_at m t w.place) point agrees z) shown

        new_on : IsAlike (chosen_at m t w.place) new (reading_at m t w.place) new
        new_on = renewed_new from.next (chosen_at m t w.place) m new refl

        apart_on : (q : ℕ) → (q ≡ w.place → ⊥) → IsAlikeAt (reading_at m t w.place) old q (reading_at m t w.place) new q
        apart_on q other =
            place_on (place_back (place_at (agree_at p kinds from.next from.at m (reading_at m t w.place) point agrees (what.Field g)) q))
            (place_on (place_at (moved_alike (index_of from.at) m new) q)
            (place_on (spliced_second (at_place w.place) (state_reading p kinds t) (moved (index_of from.at) m) new q (ne_eqb q w.place other)) (place_at new_on q)))

        there_object : is_of t.objects d.class w.place ≡ true
        there_object =
            let before_write : is_of s.objects d.class w.place ≡ true = ap (has_kind p.scope.ints s.objects (kind.Ref d.class)) (sym w.is_object) ∙ has.vars x (kind.Ref d.class) object in
            let same : is_of w.heap d.class w.place ≡ is_of s.objects d.class w.place =
            is_of_class w.heap d.class w.place ∙ ap (λ k. option_map_or (λ l. l == d.class) k false) (put_class w.put w.place) ∙ sym (is_of_class s.objects d.class w.place) in
            ap (λ (z : DynState). is_of z.objects d.class w.place) (sym w.ends) ∙ same ∙ before_write

        gives_value : field p.unit.classes t.objects g (Obj w.place) ≡ Is (var_at s.vars y)
        gives_value =
            let both : (w.place == w.place && g == g) ≡ true = and_from (w.place == w.place) (g == g) (eq-eqb w.place w.place refl) (eq-eqb g g refl) in
            ap (λ (z : DynState). field p.unit.classes z.objects g (Obj w.place)) (sym w.ends) ∙ put_field w.put g w.place
            ∙ ap (λ b. if b then Is (var_at s.vars y) else field p.unit.classes s.objects g (Obj w.place)) both

        here_on : IsAlikeAt (reading_at m t w.place) given 0 (reading_at m t w.place) new w.place
        here_on =
            let at_state : ShowsValue (state_reading p kinds t) d.kind new w.place (var_at s.vars y) = state_cell p kinds t well range has_after g d w.place from.next
            (var_at s.vars y) there there_object gives_value in
            let at_chosen = place_on (spliced_first (at_place w.place) (state_reading p kinds t) (moved (index_of from.at) m) new w.place (eq-eqb w.place w.place refl)) (place_at new_on w.place) in
            shown_alike p (slice_get kinds) (reading_at m t w.place) (reading_at m t w.place) reading_of reading_of d.kind given 0 new w.place (var_at s.vars y)
            (ap (option_map use_of_kind) value) (ap (option_map (λ (e : FieldDef). use_of_kind e.kind)) there)
            (value_shown (reading_at m t w.place) s shown_on)
            (place_moves (state_reading p kinds t) new w.place (reading_at m t w.place) new w.place d.kind (var_at s.vars y) of.objects at_chosen at_state)

    write_path : IsPath p kinds before after (Acts p (Write x g y)) from (field_set from g f)
    write_path = record {
      up = omega arith;
      point = field_point p kinds from.next from.at g within point;
      indices = λ z. elim (field_indices from.at g from.next within z) [
        | inl same ↦ inl same
        | inr fresh ↦ inr (omega (arith, fresh))
      ];
      sorted = sorted;
      sound = write_sound;
      full = write_full;
    }

pub write_step :
    (p : Posed) (kinds : List Kind) (from : Front) (f : Formula) (x g y : ℕ)
    → IsWell p.unit
    → InRange p
    → ((d : FieldDef) → slice_get p.unit.fields g ≡ Some d → slice_get kinds x ≡ Some (kind.Ref d.class) → slice_get kinds y ≡ Some d.kind → is_sorted p (slice_get kinds) f ≡ true)
    → ((m : Reading) → holds f m ≡ (is_through m (relation_at from.at (what.Slot x)) && is_changed m (record { what = what.Field g; index = from.next })
    (m.refs (relation_at from.at (what.Slot x)) 0) (relation_at from.at (what.Slot y)) (relation_at from.at (what.Field g))))
    → IsStep p kinds (Write x g y) from (field_set from g f)
write_step p kinds from f x g y well range sorted meaning fits point after =
    let d = field_is p.unit kinds g x y fits in
    write_path p kinds from g d.declared d.there point x y f well range d.object d.value meaning (sorted d.declared d.there d.object d.value) after
    (λ s t has run. (act_keeps_kinds p kinds well (Write x g y) s t fits has run).kinded)
