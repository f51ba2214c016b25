-- Laws of fields: what a write and a new object change of a heap, and what a field gives.
use Rattle.std.proofs.Common.{◌≡◌, ℕ, ◌<◌, Bool, true, false, ◌&&◌, cond, List, length, Option, Some, None, refl, sym, ◌∙◌, subst, ap, inl, inr, arith, get_or}
use Rattle.std.specs.Prelude.{◌==◌, nat_lt, if◌then◌else◌, position, slice_get, slice_set, option_map, option_and_then}
use Rattle.std.specs.List.{list_all}
use Rattle.std.specs.Option.{option_map_or}
use Rattle.std.specs.Cmp.Lexicographic.{pointwise}
use Rattle.std.proofs.lemmas.Bool.{cases_eq, eqb-true, eq-eqb, ne_eqb}
use Rattle.std.proofs.lemmas.Option.{slice_get_within, slice_get-get_or}
use Rattle.std.proofs.lemmas.List.{length-set}
use Rattle.std.proofs.lemmas.List.Quantifiers.{position-Some}
use Rattle.taco_unit.specs.declared.unit.ClassDef.{ClassDef}
use Rattle.taco_unit.specs.declared.unit.FieldDef.{FieldDef}
use Rattle.taco_unit.specs.declared.kind.Kind.{Kind}
use Rattle.taco_unit.specs.declared.kind.Kind.TheVariants as kind
use Rattle.taco_unit.specs.Parts.{Parts}
use Rattle.heap_core.specs.declared.value.Value.{Value}
use Rattle.heap_core.specs.declared.value.Value.TheVariants.{Null, Obj, Num, Flag}
use Rattle.heap_core.specs.declared.value.Object.{Object}
use Rattle.heap_core.specs.declared.value.Seen.TheVariants.{Is}
use Rattle.heap_core.specs.Outcomes.{value_in}
use Rattle.heap_core.specs.Heap.{Heap, is_of, class_at, place_of, cell, cell_of, field, put, put_cell}
use Rattle.heap_core.specs.Start.{has_kind, has_field_kind, is_whole}
use Rattle.heap_core.proofs.Lists.{set_at, set_apart, all_at, all_from, beside_set, beside_more}

pub none_some : {A : Type 0} {x : A} → None ≡ Some x → ⊥
none_some is = absurd (cc)

pub below : (a b : ℕ) → nat_lt a b ≡ true → a < b
below a b is = grind (arith, is)

-- ## where a field lies

-- two fields at one place are one
places_apart : (classes : List ClassDef) (c f g i : ℕ) → place_of classes c f ≡ Some i → place_of classes c g ≡ Some i → f ≡ g
places_apart classes c f g i here there = go (slice_get classes c) here there
  where
    go : (d : Option ClassDef) → option_and_then (λ d. position (λ h. h == f) d.fields) d ≡ Some i → option_and_then (λ d. position (λ h. h == g) d.fields) d ≡ Some i → f ≡ g
    go None first second = absurd (none_some first)
    go (Some d) first second =
        let p = position-Some (λ h. h == f) d.fields i 0 first in
        let q = position-Some (λ h. h == g) d.fields i 0 second in
        sym (eqb-true (get_or d.fields i 0) f p.1) ∙ eqb-true (get_or d.fields i 0) g q.1

-- ## a write

-- what a write has done: the object is there, and this is the cell that was set
pub record IsPut (classes : List ClassDef) (heap : Heap) (f o : ℕ) (v : Value) (after : Heap) : Type 0 where
  pub object : Object
  pub place : ℕ
  pub there : slice_get heap o ≡ Some object
  pub placed : place_of classes object.class f ≡ Some place
  pub within : place < length object.cells
  pub is : after ≡ slice_set heap o (record object { cells = slice_set object.cells place v })

pub put_is : (classes : List ClassDef) (heap : Heap) (f o : ℕ) (v : Value) (after : Heap) → put classes heap f o v ≡ Some after → IsPut classes heap f o v after
put_is classes heap f o v after = at (slice_get heap o) refl
  where
    within : (x : Object) → slice_get heap o ≡ Some x → (i : ℕ) → place_of classes x.class f ≡ Some i → (b : Bool) → nat_lt i (length x.cells) ≡ b → cond b (Some (slice_set heap o (record x { cells = slice_set x.cells i v }))) None ≡ Some after → IsPut classes heap f o v after
    within x there i placed false small is = absurd (none_some is)
    within x there i placed true small is = record { object = x; place = i; there = there; placed = placed; within = below i (length x.cells) small; is = cc }

    placing : (x : Object) → slice_get heap o ≡ Some x → (i : Option ℕ) → place_of classes x.class f ≡ i → option_and_then (put_cell heap o x v) i ≡ Some after → IsPut classes heap f o v after
    placing x there None placed is = absurd (none_some is)
    placing x there (Some i) placed is = within x there i placed (nat_lt i (length x.cells)) refl is

    at : (x : Option Object) → slice_get heap o ≡ x → option_and_then (λ x. option_and_then (put_cell heap o x v) (place_of classes x.class f)) x ≡ Some after → IsPut classes heap f o v after
    at None there is = absurd (none_some is)
    at (Some x) there is = placing x there (place_of classes x.class f) refl is

pub put_length : {classes : List ClassDef} {heap : Heap} {f o : ℕ} {v : Value} {after : Heap} → IsPut classes heap f o v after → length after ≡ length heap
put_length {classes} {heap} {f} {o} {v} w = ap length w.is ∙ length-set heap o (record w.object { cells = slice_set w.object.cells w.place v })

-- the object that was written, afterwards
put_there : {classes : List ClassDef} {heap : Heap} {f o : ℕ} {v : Value} {after : Heap} → (w : IsPut classes heap f o v after) → slice_get after o ≡ Some (record w.object { cells = slice_set w.object.cells w.place v })
put_there {classes} {heap} {f} {o} {v} w =
    ap (λ h. slice_get h o) w.is ∙ set_at heap o (record w.object { cells = slice_set w.object.cells w.place v }) (slice_get_within heap o w.object w.there)

-- and all others
put_apart : {classes : List ClassDef} {heap : Heap} {f o : ℕ} {v : Value} {after : Heap} → (w : IsPut classes heap f o v after) → (p : ℕ) → (o ≡ p → ⊥) → slice_get after p ≡ slice_get heap p
put_apart {classes} {heap} {f} {o} {v} w p apart =
    ap (λ h. slice_get h p) w.is ∙ set_apart heap o p (record w.object { cells = slice_set w.object.cells w.place v }) apart

-- each object keeps its class
pub put_class : {classes : List ClassDef} {heap : Heap} {f o : ℕ} {v : Value} {after : Heap} → IsPut classes heap f o v after → (p : ℕ) → class_at after p ≡ class_at heap p
put_class {classes} {heap} {f} {o} {v} {after} w p =
    elim (cases_eq o p) [
      | inl same ↦ subst (λ q. class_at after q ≡ class_at heap q) same (ap (option_map (λ x. x.class)) (put_there w) ∙ sym (ap (option_map (λ x. x.class)) w.there))
      | inr apart ↦ ap (option_map (λ x. x.class)) (put_apart w p apart)
    ]

-- the cell of a field of the object that was written
put_cells : {classes : List ClassDef} {heap : Heap} {f o : ℕ} {v : Value} {after : Heap} → (w : IsPut classes heap f o v after) → (g : ℕ) → (g ≡ f → ⊥) → cell classes g (record w.object { cells = slice_set w.object.cells w.place v }) ≡ cell classes g w.object
put_cells {classes} {heap} {f} {o} {v} w g apart = go (place_of classes w.object.class g) refl
  where
    go : (i : Option ℕ) → place_of classes w.object.class g ≡ i → option_and_then (λ i. slice_get (slice_set w.object.cells w.place v) i) i ≡ option_and_then (λ i. slice_get w.object.cells i) i
    go None is = refl
    go (Some i) is =
        set_apart w.object.cells w.place i v (λ same. apart (sym (places_apart classes w.object.class f g i (w.placed ∙ ap Some same) is)))

-- a field gives what was written, where it was written, and else what it gave
pub put_field : {classes : List ClassDef} {heap : Heap} {f o : ℕ} {v : Value} {after : Heap} → IsPut classes heap f o v after → (g p : ℕ) → field classes after g (Obj p) ≡ (if p == o && g == f then Is v else field classes heap g (Obj p))
put_field {classes} {heap} {f} {o} {v} {after} w g p =
    elim (cases_eq o p) [
      | inl same ↦ subst (λ q. field classes after g (Obj q) ≡ (if q == o && g == f then Is v else field classes heap g (Obj q))) same here
      | inr apart ↦
          let other : (p == o) ≡ false = ne_eqb p o (λ is. apart (sym is)) in
          ap (cell_of classes g) (put_apart w p apart) ∙ sym (rw other refl)
    ]
  where
    here : field classes after g (Obj o) ≡ (if o == o && g == f then Is v else field classes heap g (Obj o))
    here = elim (cases_eq g f) [
      | inl is ↦
          let this : (g == f) ≡ true = eq-eqb g f is in
          let same : (o == o) ≡ true = eq-eqb o o refl in
          ap (cell_of classes g) (put_there w) ∙ ap (λ i. value_in (option_and_then (λ i. slice_get (slice_set w.object.cells w.place v) i) i)) (ap (place_of classes w.object.class) is ∙ w.placed) ∙ ap value_in (set_at w.object.cells w.place v w.within) ∙ sym (rw (this, same) refl)
      | inr apart ↦
          let other : (g == f) ≡ false = ne_eqb g f apart in
          let same : (o == o) ≡ true = eq-eqb o o refl in
          ap (cell_of classes g) (put_there w) ∙ ap value_in (put_cells w g apart) ∙ sym (ap (cell_of classes g) w.there) ∙ sym (rw (other, same) refl)
    ]

-- ## kinds by classes

-- an object of a class, by the class at its number
is_of_at : (heap : Heap) (c o : ℕ) → is_of heap c o ≡ option_map_or (λ k. k == c) (class_at heap o) false
is_of_at heap c o = go (slice_get heap o)
  where
    go : (x : Option Object) → option_map_or (λ x. x.class == c) x false ≡ option_map_or (λ k. k == c) (option_map (λ x. x.class) x) false
    go None = refl
    go (Some x) = refl

-- objects that are there keep their class
abbrev pub Keeps : Heap → Heap → Type 0
Keeps heap after = (c o : ℕ) → is_of heap c o ≡ true → is_of after c o ≡ true

-- a value of a kind stays one where objects keep their class
pub kind_kept : (w : ℕ) (heap after : Heap) → Keeps heap after → (k : Kind) (v : Value) → has_kind w heap k v ≡ true → has_kind w after k v ≡ true
kind_kept w heap after keeps kind.Int (Num z) is = is
kind_kept w heap after keeps kind.Int Null is = is
kind_kept w heap after keeps kind.Int (Obj o) is = is
kind_kept w heap after keeps kind.Int (Flag b) is = is
kind_kept w heap after keeps kind.Flag v is = flag_kept v is
  where
    flag_kept : (v : Value) → has_kind w heap kind.Flag v ≡ true → has_kind w after kind.Flag v ≡ true
    flag_kept (Flag b) is = refl
    flag_kept (Num z) is = is
    flag_kept Null is = is
    flag_kept (Obj o) is = is
kind_kept w heap after keeps (kind.Ref c) v is = ref_kept v is
  where
    ref_kept : (v : Value) → has_kind w heap (kind.Ref c) v ≡ true → has_kind w after (kind.Ref c) v ≡ true
    ref_kept Null is = refl
    ref_kept (Obj o) is = keeps c o is
    ref_kept (Num z) is = is
    ref_kept (Flag b) is = is

-- so does a whole object
pub whole_kept : (u : Parts) (w : ℕ) (heap after : Heap) → Keeps heap after → (x : Object) → is_whole u w heap x ≡ true → is_whole u w after x ≡ true
whole_kept u w heap after keeps x = go (slice_get u.classes x.class)
  where
    fields : (f : ℕ) (v : Value) → has_field_kind u.fields w heap f v ≡ true → has_field_kind u.fields w after f v ≡ true
    fields f v = at (slice_get u.fields f)
      where
        at : (d : Option FieldDef) → option_map_or (λ d. has_kind w heap d.kind v) d false ≡ true → option_map_or (λ d. has_kind w after d.kind v) d false ≡ true
        at None is = is
        at (Some d) is = kind_kept w heap after keeps d.kind v is

    go : (d : Option ClassDef) → option_map_or (λ d. pointwise (has_field_kind u.fields w heap) d.fields x.cells) d false ≡ true → option_map_or (λ d. pointwise (has_field_kind u.fields w after) d.fields x.cells) d false ≡ true
    go None is = is
    go (Some d) is = beside_more (has_field_kind u.fields w heap) (has_field_kind u.fields w after) fields d.fields x.cells is

pub some_same : {A : Type 0} {x y : A} → Some x ≡ Some y → x ≡ y
some_same is = cc

-- an object whose cell was set to a value of the field's kind
written_whole : (u : Parts) (w : ℕ) (heap : Heap) (f : ℕ) (v : Value) (x : Object) (i : ℕ) → place_of u.classes x.class f ≡ Some i → has_field_kind u.fields w heap f v ≡ true → is_whole u w heap x ≡ true → is_whole u w heap (record x { cells = slice_set x.cells i v }) ≡ true
written_whole u w heap f v x i placed kinded = go (slice_get u.classes x.class) placed
  where
    go : (d : Option ClassDef) → option_and_then (λ d. position (λ g. g == f) d.fields) d ≡ Some i → option_map_or (λ d. pointwise (has_field_kind u.fields w heap) d.fields x.cells) d false ≡ true → option_map_or (λ d. pointwise (has_field_kind u.fields w heap) d.fields (slice_set x.cells i v)) d false ≡ true
    go None at is = is
    go (Some d) at is =
        let found = position-Some (λ g. g == f) d.fields i 0 at in
        let field_is : slice_get d.fields i ≡ Some f = slice_get-get_or d.fields i 0 found.0 ∙ ap Some (eqb-true (get_or d.fields i 0) f found.1) in
        beside_set (has_field_kind u.fields w heap) d.fields x.cells i f v is field_is kinded

-- the heap stays whole, where a value of the field's kind is written
pub put_whole : (u : Parts) {heap : Heap} {f o : ℕ} {v : Value} {after : Heap} → (w : ℕ) → IsPut u.classes heap f o v after → has_field_kind u.fields w heap f v ≡ true → list_all (is_whole u w heap) heap ≡ true → list_all (is_whole u w after) after ≡ true
put_whole u {heap} {f} {o} {v} {after} w is kinded whole = all_from (is_whole u w after) after each
  where
    same : (c p : ℕ) → is_of heap c p ≡ is_of after c p
    same c p = is_of_at heap c p ∙ ap (λ k. option_map_or (λ k. k == c) k false) (sym (put_class is p)) ∙ sym (is_of_at after c p)

    kept : (x : Object) → is_whole u w heap x ≡ true → is_whole u w after x ≡ true
    kept x before = whole_kept u w heap after (λ c p there. sym (same c p) ∙ there) x before

    each : (p : ℕ) (x : Object) → slice_get after p ≡ Some x → is_whole u w after x ≡ true
    each p x there = elim (cases_eq o p) [
      | inr apart ↦ kept x (all_at (is_whole u w heap) heap p x whole (sym (put_apart is p apart) ∙ there))
      | inl here ↦
          let written : Some x ≡ Some (record is.object { cells = slice_set is.object.cells is.place v }) = sym there ∙ ap (slice_get after) (sym here) ∙ put_there is in
          let before : is_whole u w heap is.object ≡ true = all_at (is_whole u w heap) heap o is.object whole is.there in
          subst (λ y. is_whole u w after y ≡ true) (sym (some_same written)) (kept (record is.object { cells = slice_set is.object.cells is.place v }) (written_whole u w heap f v is.object is.place is.placed kinded before))
    ]
