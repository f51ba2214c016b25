-- The part of a new object.
use Rattle.std.proofs.Common.{◌≡◌, ◌⊎◌, ℕ, ◌+◌, ◌-◌, ◌<◌, Bool, true, false, not, ◌&&◌, ◌||◌, List, []}
use Rattle.std.proofs.Common.{◌∷◌, ◌++◌, length, map, Option, Some, None, inl, inr, refl, sym, ◌∙◌, ap, subst, arith, get_or}
use Rattle.std.specs.Prelude.{◌==◌, nat_lt, if◌then◌else◌, slice_get, is_some, option_map}
use Rattle.std.specs.List.{list_all}
use Rattle.std.proofs.lemmas.Bool.{eq-eqb, ne_eqb, eqb-true, or_right, lt-ltb}
use Rattle.std.proofs.lemmas.Option.{slice_get_within}
use Rattle.std.proofs.lemmas.List.{length-set}
use Rattle.taco_unit.specs.declared.kind.Kind.{Kind}
use Rattle.taco_unit.specs.declared.kind.Kind.TheVariants as kind
use Rattle.taco_unit.specs.declared.unit.ClassDef.{ClassDef}
use Rattle.taco_unit.specs.declared.unit.FieldDef.{FieldDef}
use Rattle.taco_unit.specs.Well.{IsWell}
use Rattle.heap_core.specs.declared.value.Value.TheVariants.{Obj}
use Rattle.heap_core.specs.Posed.{Posed, InRange}
use Rattle.heap_core.specs.Outcomes.{zero_of}
use Rattle.heap_core.specs.Heap.{Heap, class_at, first_value, blank, has_room, grown}
use Rattle.heap_core.proofs.FieldLaws.{none_some, some_same}
use Rattle.heap_core.proofs.Lists.{all_from}
use Rattle.heap_core.proofs.GivenFields.{IsGrown, grown_is, grown_length, grown_class}
use Rattle.rel_core.specs.declared.formula.Formula.{Formula}
use Rattle.rel_core.specs.declared.relation.RelVar.{RelVar}
use Rattle.rel_core.specs.declared.relation.What.{What}
use Rattle.rel_core.specs.declared.relation.What.TheVariants as what
use Rattle.rel_core.specs.Reading.{Reading, numbers_below}
use Rattle.rel_core.specs.Meaning.{holds}
use Rattle.rel_core.specs.Uses.{Kinds, AsSet, is_slot, is_variable, is_sorted, IsOf}
use Rattle.rel_core.specs.Shown.{ShowsValue}
use Rattle.dyn_core.specs.declared.prog.Act.TheVariants.{Make}
use Rattle.dyn_core.specs.declared.state.DynState.{DynState}
use Rattle.dyn_core.specs.States.{var_at, with_var}
use Rattle.dyn_core.specs.Kinds.{HasKinds}
use Rattle.dyn_steps.specs.declared.point.Point.{Point}
use Rattle.dyn_steps.specs.declared.part.Front.{Front}
use Rattle.dyn_steps.specs.declared.part.Part.{Part}
use Rattle.dyn_steps.specs.Points.{index_of, relation_at, slot, fields_moved, made_point, IsPoint}
use Rattle.dyn_steps.specs.Agreeing.{IsAlike, Agree}
use Rattle.dyn_steps.specs.Looked.{Vars, looked_at}
use Rattle.dyn_steps.specs.Meanings.{there, is_placed, live_grown as live_part, class_grown as class_part, field_grown, is_made}
use Rattle.dyn_steps.specs.Paths.{Shows, Acts, GoesOn, IsPath, IsStep, made_set}
use Rattle.dyn_core.proofs.Vars.{var_set}
use Rattle.dyn_core.proofs.Fitting.{var_is}
use Rattle.dyn_core.proofs.Kept.{act_keeps_kinds}
use Rattle.dyn_steps.proofs.Moving.{alike_on, agree_less, agree_on, agree_at, shows_both, vars_shown, shows_move}
use Rattle.dyn_steps.proofs.Readings.{renewed, moved, spliced, shifted, renewed_of, moved_of, spliced_of, shifted_of, renewed_new, renewed_old, moved_alike}
use Rattle.dyn_steps.proofs.SetVars.{state_reading, state_of, state_value, state_cell, state_live, state_class, var_indices, var_shown_after}
use Rattle.dyn_steps.proofs.Acts.{others_in, variable_used}
use Rattle.dyn_steps.proofs.Tested.{path_alike}
use Rattle.dyn_steps.proofs.Places.{IsAlikeAt, place_back, place_on, place_at, place_moves}
use Rattle.dyn_steps.proofs.Places.{spliced_first, spliced_second}
use Rattle.dyn_steps.proofs.MovedFields.{is_listed, listed_at, listed_own, listed_there, fields_length, fields_vars, fields_kept, fields_new}
use Rattle.dyn_steps.proofs.MadeHeap as heaps
use Rattle.dyn_steps.proofs.MadeSaid as said

module _ (p : Posed) (kinds : List Kind) (from : Front) (x c : ℕ) (d : ClassDef) (well : IsWell p.unit) (range : InRange p) (class : slice_get p.unit.classes c ≡ Some d)
    (point : IsPoint p kinds from.next from.at) where
  abbrev new : What → RelVar
  new = heaps.new p kinds from x c d well range class point

  abbrev given : What → RelVar
  given = heaps.given p kinds from x c d well range class point

  abbrev old : What → RelVar
  old = heaps.old p kinds from x c d well range class point

  abbrev IsMoved : What → Type 0
  IsMoved = heaps.IsMoved p kinds from x c d well range class point

  abbrev IsMade : Reading → ℕ → Type 0
  IsMade = heaps.IsMade p kinds from x c d well range class point

  abbrev middle : Point
  middle = heaps.middle p kinds from x c d well range class point

  abbrev target_relation : RelVar
  target_relation = slot x from.next

  abbrev Of : Reading → Type 0
  Of = IsOf p (slice_get kinds)

  abbrev made : Reading → Bool
  made m = is_made m p from.at from.next x c d.fields

  -- ## a reading with the new object

  abbrev test_new : ℕ → RelVar → ℕ → Bool
  test_new h r o = is_slot r.what || o == h

  -- at the next index what the state afterwards has of the variables and of the new object, and of all others what they had
  abbrev with_new : Reading → DynState → ℕ → Reading
  with_new m t h = spliced (test_new h) (state_reading p kinds t) (moved (index_of from.at) m)

  abbrev next_reading : Reading → DynState → ℕ → Reading
  next_reading m t h = renewed from.next (with_new m t h) m

  -- at the one behind it what the new object has, at place 0
  abbrev made_reading : Reading → DynState → ℕ → Reading
  made_reading m t h = renewed (from.next + 1) (shifted h (state_reading p kinds t)) (next_reading m t h)

  module _ (m : Reading) (of : Of m) (t : DynState) (has : HasKinds p kinds t) (h : ℕ) where
    abbrev state : Reading
    state = state_reading p kinds t

    abbrev reading : Reading
    reading = made_reading m t h

    some_places : nat_lt 0 p.scope.objects ≡ true
    some_places = lt-ltb 0 p.scope.objects (let low = range.scope.objects_low in omega (arith, low))

    state_is : Of state
    state_is = state_of p kinds t well range has

    reading_is : Of reading
    reading_is =
        renewed_of p (slice_get kinds) (from.next + 1) (shifted h state) (next_reading m t h) (shifted_of p (slice_get kinds) some_places h state state_is)
        (renewed_of p (slice_get kinds) from.next (with_new m t h) m
        (spliced_of p (slice_get kinds) (test_new h) state (moved (index_of from.at) m) state_is (moved_of p (slice_get kinds) (index_of from.at) m of)) of)

    next_kept : Agree (from.next + 1) (next_reading m t h) reading
    next_kept = renewed_old (from.next + 1) (shifted h state) (next_reading m t h)

    reading_kept : Agree from.next m reading
    reading_kept = agree_on from.next m (next_reading m t h) reading (renewed_old from.next (with_new m t h) m)
        (agree_less from.next (from.next + 1) (next_reading m t h) reading (omega arith) next_kept)

    -- a relation at the next index
    at_next : (w : What) → IsAlike (with_new m t h) (new w) reading (new w)
    at_next w = alike_on (renewed_new from.next (with_new m t h) m (new w) refl) (next_kept (new w) (omega arith))

    -- where the state is taken
    from_state : (w : What) (o : ℕ) → test_new h (new w) o ≡ true → IsAlikeAt state (new w) o reading (new w) o
    from_state w o is = place_on (spliced_first (test_new h) state (moved (index_of from.at) m) (new w) o is) (place_at (at_next w) o)

    from_old : (w : What) (o : ℕ) → test_new h (new w) o ≡ false → IsAlikeAt reading (old w) o reading (new w) o
    from_old w o is =
        place_on (place_back (place_at (agree_at p kinds from.next from.at m reading point reading_kept w) o))
        (place_on (place_at (moved_alike (index_of from.at) m (new w)) o)
        (place_on (spliced_second (test_new h) state (moved (index_of from.at) m) (new w) o is) (place_at (at_next w) o)))

    from_given : (w : What) → IsAlikeAt state (given w) h reading (given w) 0
    from_given w = place_on (record { refs = λ v. refl; number = refl; flag = refl }) (place_at (renewed_new (from.next + 1) (shifted h state) (next_reading m t h) (given w) refl) 0)

    given_here : (w : What) → IsAlikeAt reading (given w) 0 reading (new w) h
    given_here w =
        place_on (place_back (from_given w)) (place_on (record { refs = λ v. refl; number = refl; flag = refl })
        (from_state w h (or_right (is_slot w) (h == h) (eq-eqb h h refl))))

    not_a_slot : (w : What) → IsMoved w → is_slot w ≡ false
    not_a_slot what.Live moved = refl
    not_a_slot what.ClassOf moved = refl
    not_a_slot (what.Field f) moved = refl
    not_a_slot (what.Slot y) moved = absurd moved

    is_made_reading :
        (heap : Heap) → h ≡ length heap → IsGrown p heap c t.objects → slice_get kinds x ≡ Some (kind.Ref c) → var_at t.vars x ≡ Obj h → IsMade reading h
    is_made_reading heap last g known value = record {
      target =
          place_moves state target_relation 0 reading target_relation 0 (kind.Ref c) (Obj h) objects (from_state (what.Slot x) 0 refl)
          (subst (λ v. ShowsValue state (kind.Ref c) target_relation 0 v) value (state_value p kinds t well range has x (kind.Ref c) from.next known));
      live_first = (from_given what.Live).flag ∙ state_live p kinds t well range has h (from.next + 1) ∙ lt-ltb h (length t.objects) (let more = grown_length g in omega (arith, more, last));
      class_first = (from_given what.ClassOf).number ∙ state_class p kinds t well range has h (from.next + 1) c
          (grown_class g h ∙ ap (λ b. if b then Some c else class_at heap h) (eq-eqb h (length heap) last));
      first = λ f e there listed.
          place_moves state (given (what.Field f)) h reading (given (what.Field f)) 0 e.kind (zero_of e.kind) objects (from_given (what.Field f))
          (state_cell p kinds t well range has f e h (from.next + 1) (zero_of e.kind) there
          (heaps.new_of p kinds from x c d well range class point heap t.objects g e.class h last ∙ own f e there listed)
          (heaps.new_field p kinds from x c d well range class point heap t.objects g f h e there listed last));
      here = λ w moved. given_here w;
      apart = λ w moved o other. from_old w o (ap (λ b. b || o == h) (not_a_slot w moved) ∙ ne_eqb o h other);
    }
      where
        objects : reading.objects ≡ state.objects
        objects = of.objects

        own : (f : ℕ) (e : FieldDef) → slice_get p.unit.fields f ≡ Some e → is_listed d.fields f ≡ true → (c == e.class) ≡ true
        own f e there listed = eq-eqb c e.class (sym (eqb-true e.class c (sym (listed_own p.unit well c d class f e there) ∙ listed)))

  -- ## the part

  -- each index is the one before, or the next
  middle_vars : middle.vars ≡ from.at.vars
  middle_vars = fields_vars d.fields from.at from.next

  made_indices : slice_get kinds x ≡ Some (kind.Ref c) → (w : What)
      → (index_of (made_point from.at x d.fields from.next) w ≡ index_of from.at w) ⊎ (index_of (made_point from.at x d.fields from.next) w ≡ from.next)
  made_indices known what.Live = inr refl
  made_indices known what.ClassOf = inr refl
  made_indices known (what.Field f) = at (is_listed d.fields f) refl
    where
      at : (b : Bool) → is_listed d.fields f ≡ b
          → (index_of (fields_moved from.at d.fields from.next) (what.Field f) ≡ index_of from.at (what.Field f)) ⊎ (index_of (fields_moved from.at d.fields from.next) (what.Field f) ≡ from.next)
      at false other = inl (fields_kept d.fields from.at f from.next other)
      at true listed =
          let e = listed_there p.unit well c d class f listed in
          let low : f < length p.unit.fields = slice_get_within p.unit.fields f e.0 e.1 in
          let fields = point.fields in
          inr (fields_new d.fields from.at f from.next (omega (arith, low, fields)) listed)
  made_indices known (what.Slot y) = elim (var_indices middle x from.next (within known) (what.Slot y)) [
    | inl old_one ↦ inl (old_one ∙ ap (λ vars. get_or vars y 0) middle_vars)
    | inr new_one ↦ inr new_one
  ]
    where
      within : slice_get kinds x ≡ Some (kind.Ref c) → x < length middle.vars
      within known = let low : x < length kinds = slice_get_within kinds x (kind.Ref c) known in let vars = point.vars in let same = ap length middle_vars in omega (arith, low, vars, same)

  module _ (f : Formula) (known : slice_get kinds x ≡ Some (kind.Ref c)) (meaning : (m : Reading) → holds f m ≡ made m) (sorted : is_sorted p (slice_get kinds) f ≡ true) (after : Vars)
      (keeps : (s t : DynState) → HasKinds p kinds s → Acts p (Make x c) s t → HasKinds p kinds t) where
    abbrev before : Vars
    before = looked_at (Make x c) after

    abbrev to : Point
    to = made_point from.at x d.fields from.next

    within_middle : x < length middle.vars
    within_middle = let low : x < length kinds = slice_get_within kinds x (kind.Ref c) known in let vars = point.vars in let same = ap length middle_vars in omega (arith, low, vars, same)

    made_shown : (m : Reading) (s : DynState) (heap : Heap) → IsGrown p s.objects c heap → m.objects ≡ p.scope.objects → Shows p kinds before m from.at s → IsMade m (length s.objects)
        → Shows p kinds after m to (record { vars = with_var s.vars x (Obj (length s.objects)); objects = heap })
    made_shown m s heap g objects shown is =
        var_shown_after p kinds before after m middle from.next x (kind.Ref c) (record s { objects = heap }) (Obj (length s.objects)) within_middle known
        (λ y inside apart. others_in x after y inside apart)
        (shows_both p kinds before m middle (record s { objects = heap }) (heaps.made_heap p kinds from x c d well range class point m s.objects heap g objects shown.heap is)
        (λ y k inside there. subst (λ i. ShowsValue m k (slot y i) 0 (var_at s.vars y)) (sym (ap (λ vars. get_or vars y 0) middle_vars))
        (vars_shown p kinds before m from.at s shown y k inside there)))
        is.target

    -- there is room, and so a new object
    grown_works : (heap : Heap) → length heap < p.scope.objects → (after : Heap) × (grown p heap c ≡ Some after)
    grown_works heap room = (
      heap ++ record { class = c; cells = map (first_value p.unit.fields) d.fields } ∷ [],
      ap (λ b. if b then option_map (λ y. heap ++ y ∷ []) (blank p.unit c) else None) (lt-ltb (length heap) p.scope.objects room)
          ∙ ap (λ z. option_map (λ y. heap ++ y ∷ []) (option_map (λ (e : ClassDef). record { class = c; cells = map (first_value p.unit.fields) e.fields }) z)) class,
    )

    make_sound : (m : Reading) (s : DynState) → Of m → holds f m ≡ true → HasKinds p kinds s → Shows p kinds before m from.at s → (t : DynState) × Acts p (Make x c) s t × Shows p kinds after m to t
    make_sound m s of is has shown =
        let both = said.made_sound p kinds from x c d well range class point m s.objects of shown.heap (sym (meaning m) ∙ is) in
        let done = grown_works s.objects both.0 in (
          record { vars = with_var s.vars x (Obj (length s.objects)); objects = done.0 },
          ap (option_map (λ h. record { vars = with_var s.vars x (Obj (length s.objects)); objects = h })) done.1,
          made_shown m s done.0 (grown_is p s.objects c done.0 done.1) of.objects shown both.1,
        )

    -- what the action has done
    record Grows (s t : DynState) : Type 0 where
      pub heap : Heap
      pub grown : IsGrown p s.objects c heap
      pub ends : record { vars = with_var s.vars x (Obj (length s.objects)); objects = heap } ≡ t

    grows : (s t : DynState) → Acts p (Make x c) s t → Grows s t
    grows s t run = at (grown p s.objects c) refl run
      where
        at : (h : Option Heap) → grown p s.objects c ≡ h → option_map (λ h. record { vars = with_var s.vars x (Obj (length s.objects)); objects = h }) h ≡ Some t → Grows s t
        at (Some h) done is = record { heap = h; grown = grown_is p s.objects c h done; ends = some_same is }
        at None done is = absurd (none_some is)

    make_full : (m : Reading) (s t : DynState) → Of m → HasKinds p kinds s → Shows p kinds before m from.at s → Acts p (Make x c) s t → GoesOn p kinds after m from.next (made_set from x d.fields f) t
    make_full m s t of has shown run = subst (λ z. GoesOn p kinds after m from.next (made_set from x d.fields f) z) w.ends (record {
      reading = made_reading m ended (length s.objects);
      of_problem = is_of_problem;
      agrees = kept;
      shown = made_shown (made_reading m ended (length s.objects)) s w.heap w.grown is_of_problem.objects shown_on is_made_on;
      holds = λ u is agree.
          let same : u.objects ≡ (made_reading m ended (length s.objects)).objects = is.objects ∙ sym is_of_problem.objects in
          let near : Agree from.next (made_reading m ended (length s.objects)) u = agree_less from.next (from.next + 1 + 1) (made_reading m ended (length s.objects)) u (omega arith) agree in
          let shown_u = shows_move p kinds before (made_reading m ended (length s.objects)) u from.at from.at s same
          (λ z looked. agree_at p kinds from.next from.at (made_reading m ended (length s.objects)) u point near z) shown_on in
          meaning u ∙ said.made_full p kinds from x c d well range class point u s.objects is shown_u.heap w.grown.room
          (said.made_agree p kinds from x c d well range class point (made_reading m ended (length s.objects)) u (length s.objects) same agree is_made_on);
    })
      where
        w : Grows s t
        w = grows s t run

        ended : DynState
        ended = record { vars = with_var s.vars x (Obj (length s.objects)); objects = w.heap }

        has_after : HasKinds p kinds ended
        has_after = subst (λ z. HasKinds p kinds z) (sym w.ends) (keeps s t has run)

        is_of_problem : Of (made_reading m ended (length s.objects))
        is_of_problem = reading_is m of ended has_after (length s.objects)

        kept : Agree from.next m (made_reading m ended (length s.objects))
        kept = reading_kept m of ended has_after (length s.objects)

        shown_on : Shows p kinds before (made_reading m ended (length s.objects)) from.at s
        shown_on = shows_move p kinds before m (made_reading m ended (length s.objects)) from.at from.at s refl
            (λ z looked. agree_at p kinds from.next from.at m (made_reading m ended (length s.objects)) point kept z) shown

        is_made_on : IsMade (made_reading m ended (length s.objects)) (length s.objects)
        is_made_on = is_made_reading m of ended has_after (length s.objects) s.objects refl w.grown known (var_set s.vars x (Obj (length s.objects)))

    make_path : IsPath p kinds before after (Acts p (Make x c)) from (made_set from x d.fields f)
    make_path = record {
      up = omega arith;
      point = record {
        fields = fields_length d.fields from.at from.next ∙ point.fields;
        vars = length-set middle.vars x from.next ∙ ap length middle_vars ∙ point.vars;
        below = λ z. elim (made_indices known z) [
          | inl old_one ↦ subst (λ i. i < from.next + 1 + 1) (sym old_one) (let low = point.below z in omega (arith, low))
          | inr new_one ↦ subst (λ i. i < from.next + 1 + 1) (sym new_one) (omega arith)
        ];
      };
      indices = λ z. elim (made_indices known z) [
        | inl old_one ↦ inl old_one
        | inr new_one ↦ inr (omega (arith, new_one))
      ];
      sorted = sorted;
      sound = make_sound;
      full = make_full;
    }

-- the part, from what was promised of its formula
pub make_part :
    (p : Posed) (kinds : List Kind) (from : Front) (part : Part) (f : Formula) (x c : ℕ) (fs : List ℕ) (d : ClassDef)
    → IsWell p.unit
    → InRange p
    → part ≡ made_set from x fs f
    → ((m : Reading) → holds f m ≡ is_made m p from.at from.next x c fs)
    → ((kinds : Kinds) → is_variable p kinds AsSet (slot x from.next) ≡ true → list_all (λ g. is_some (slice_get p.unit.fields g)) fs ≡ true → is_sorted p kinds f ≡ true)
    → slice_get p.unit.classes c ≡ Some d
    → d.fields ≡ fs
    → IsStep p kinds (Make x c) from part
make_part p kinds from part f x c fs d well range is meaning sorted class listed fits point after =
    let known = var_is kinds x (kind.Ref c) fits in
    let all = all_from (λ g. is_some (slice_get p.unit.fields g)) d.fields (λ i g at. let e = listed_there p.unit well c d class g (listed_at d.fields i g at) in ap is_some e.1) in
    subst (λ z. IsPath p kinds (looked_at (Make x c) after) after (Acts p (Make x c)) from z) (ap (λ gs. made_set from x gs f) listed ∙ sym is)
    (make_path p kinds from x c d well range class point f known (λ m. meaning m ∙ ap (λ gs. is_made m p from.at from.next x c gs) (sym listed))
    (sorted (slice_get kinds) (variable_used p kinds x from.next (kind.Ref c) known) (ap (list_all (λ g. is_some (slice_get p.unit.fields g))) (sym listed) ∙ all))
    after (λ s t has run. (act_keeps_kinds p kinds well (Make x c) s t fits has run).kinded))

-- without the class there is no run
pub make_missing :
    (p : Posed) (kinds : List Kind) (from : Front) (part : Part) (x c : ℕ)
    → slice_get p.unit.classes c ≡ None
    → ((p : Posed) (kinds : List Kind) (before after : Vars) → IsPoint p kinds from.next from.at → IsPath p kinds before after (λ s t. ⊥) from part)
    → IsStep p kinds (Make x c) from part
make_missing p kinds from part x c lacks path fits point after =
    path_alike p kinds (looked_at (Make x c) after) after (λ s t. ⊥) (Acts p (Make x c)) from part (λ s t run. absurd run) none (path p kinds (looked_at (Make x c) after) after point)
  where
    no_heap : (heap : Heap) → grown p heap c ≡ None
    no_heap heap = at (has_room p heap c)
      where
        at : (b : Bool) → (if b then option_map (λ y. heap ++ y ∷ []) (blank p.unit c) else None) ≡ None
        at true = ap (λ z. option_map (λ y. heap ++ y ∷ []) (option_map (λ (e : ClassDef). record { class = c; cells = map (first_value p.unit.fields) e.fields }) z)) lacks
        at false = refl

    none : (s t : DynState) → Acts p (Make x c) s t → ⊥
    none s t run = none_some (sym (ap (option_map (λ h. record { vars = with_var s.vars x (Obj (length s.objects)); objects = h })) (no_heap s.objects)) ∙ run)

-- the same, of a part that was put together
pub make_built :
    (p : Posed) (kinds : List Kind) (from : Front) (f : Formula) (at : Point) (behind next x c : ℕ) (fs : List ℕ)
    → IsWell p.unit
    → InRange p
    → at ≡ made_point from.at x fs from.next
    → behind ≡ from.next + 1
    → next ≡ behind + 1
    → ((m : Reading) → holds f m ≡ is_made m p from.at from.next x c fs)
    → ((kinds : Kinds) → is_variable p kinds AsSet (slot x from.next) ≡ true → list_all (λ g. is_some (slice_get p.unit.fields g)) fs ≡ true → is_sorted p kinds f ≡ true)
    → (d : ClassDef)
    → slice_get p.unit.classes c ≡ Some d
    → d.fields ≡ fs
    → IsStep p kinds (Make x c) from (record { formula = f; end = record { at = at; next = next } })
make_built p kinds from f at behind next x c fs well range at_is behind_is next_is meaning sorted d class listed =
    make_part p kinds from (record { formula = f; end = record { at = at; next = next } }) f x c fs d well range
    (ap (λ (z : Point). record { formula = f; end = record { at = z; next = next } }) at_is
    ∙ ap (λ (i : ℕ). record { formula = f; end = record { at = made_point from.at x fs from.next; next = i } }) (next_is ∙ ap (λ i. i + 1) behind_is))
    meaning sorted class listed

-- what the parts of the formula mean, by the relation and the fields that they were made for
pub made_of :
    (m : Reading) (p : Posed) (at : Point) (n x c : ℕ) (fs : List ℕ) (r : RelVar) (declared : List FieldDef)
    → r ≡ slot x n
    → declared ≡ p.unit.fields
    → (not (there m (relation_at at what.Live) (p.scope.objects - 1)) && list_all (is_placed m r (relation_at at what.Live))
    (numbers_below p.scope.objects) && live_part m at n r && class_part m at n r c && list_all (field_grown m declared at n r) fs)
    ≡ is_made m p at n x c fs
made_of m p at n x c fs r declared is same =
    ap (λ z. not (there m (relation_at at what.Live) (p.scope.objects - 1)) && list_all (is_placed m z (relation_at at what.Live))
    (numbers_below p.scope.objects) && live_part m at n z && class_part m at n z c && list_all (field_grown m declared at n z) fs) is
    ∙ ap (λ ds. not (there m (relation_at at what.Live) (p.scope.objects - 1)) && list_all (is_placed m (slot x n) (relation_at at what.Live))
    (numbers_below p.scope.objects) && live_part m at n (slot x n) && class_part m at n (slot x n) c && list_all (field_grown m ds at n (slot x n)) fs) same
