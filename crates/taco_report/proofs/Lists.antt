-- Values that are asked for one after the other.
use Rattle.std.proofs.Common.{◌≡◌, ℕ, ◌^◌, ◌<◌, true, false, Option, Some, None, Result, Ok, Err, IfOk, List, [], ◌∷◌, ◌++◌, flat_map, refl, sym, ap, ◌∙◌, append_assoc}
use Rattle.std.specs.Prelude.{IfNone, option_map, slice_get, zip, codes}
use Rattle.std.specs.Option.{option_map_or}
use Rattle.std.specs.Cmp.Lexicographic.{pointwise}
use Rattle.std.proofs.lemmas.Bool.{and_parts, false≢true}
use Rattle.taco_unit.specs.declared.kind.Kind.{Kind}
use Rattle.taco_unit.specs.declared.unit.FieldDef.{FieldDef}
use Rattle.taco_unit.specs.Parts.{Parts}
use Rattle.heap_core.specs.declared.value.Value.{Value}
use Rattle.heap_core.specs.Posed.{Posed}
use Rattle.std.proofs.lemmas.List.{append_cancel_left}
use Rattle.taco_report.proofs.Values.{SameValue, same_value}
use Rattle.taco_report.specs.Texts.{cell_text, field_text, value_text}
use Rattle.taco_report.specs.States.{ends, is_cell, is_value}

pub none_from : {X E : Type 0} {P Q : Type 0} (r : Result (Option X) E) → (P → Q) → IfOk r (λ x. IfNone x P) → IfOk r (λ x. IfNone x Q)
none_from (Ok None) f none = f none
none_from (Ok (Some x)) f none = none
none_from (Err e) f none = none

by_field : (o : Option FieldDef) (n : ℕ) (k : Kind) (v : Value) → option_map (λ d. d.kind) o ≡ Some k → option_map_or (λ d. is_value n d.kind v) o false ≡ is_value n k v
by_field None n k v is = absurd (cc)
by_field (Some d) n k v is = let h : d.kind ≡ k = cc in ap (λ (j : Kind). is_value n j v) h

-- a field's value is one of its kind
pub cell_kind : (u : Parts) (n f : ℕ) (k : Kind) (v : Value) → option_map (λ d. d.kind) (slice_get u.fields f) ≡ Some k → is_cell u n f v ≡ is_value n k v
cell_kind u n f k v is = by_field (slice_get u.fields f) n k v is

pub cells_end : (p : Posed) (fs : List ℕ) (vs : List Value) (more : List ℕ) → ends more ≡ true → ends (flat_map (cell_text p) (zip fs vs) ++ more) ≡ true
cells_end p [] vs more end = end
cells_end p (f ∷ fs) [] more end = end
cells_end p (f ∷ fs) (v ∷ vs) more end = refl

-- the values of several fields are that of the first, and those of the others
pub record FirstCell (p : Posed) (n f : ℕ) (fs : List ℕ) (vs : List Value) (more : List ℕ) : Type 0 where
  pub value : Value
  pub values : List Value
  pub vs_are : vs ≡ value ∷ values
  pub is : is_cell p.unit n f value ≡ true
  pub are : pointwise (is_cell p.unit n) fs values ≡ true
  pub end : ends (flat_map (cell_text p) (zip fs values) ++ more) ≡ true
  pub text : flat_map (cell_text p) (zip (f ∷ fs) vs) ++ more ≡ cell_text p (f, value) ++ (flat_map (cell_text p) (zip fs values) ++ more)

pub first_cell : (p : Posed) (n f : ℕ) (fs : List ℕ) (vs : List Value) (more : List ℕ) → pointwise (is_cell p.unit n) (f ∷ fs) vs ≡ true → ends more ≡ true → FirstCell p n f fs vs more
first_cell p n f fs [] more are end = absurd (false≢true are)
first_cell p n f fs (v ∷ vs) more are end =
    let parts : (is_cell p.unit n f v ≡ true) × (pointwise (is_cell p.unit n) fs vs ≡ true) = and_parts (is_cell p.unit n f v) (pointwise (is_cell p.unit n) fs vs) are in
    record {
      value = v;
      values = vs;
      vs_are = refl;
      is = parts.0;
      are = parts.1;
      end = cells_end p fs vs more end;
      text = append_assoc (cell_text p (f, v)) (flat_map (cell_text p) (zip fs vs)) more;
    }

-- a field's value in front is the only one
pub record SameCell (p : Posed) (v w : Value) (more more' : List ℕ) : Type 0 where
  pub value : v ≡ w
  pub rest : more ≡ more'

kind_of_field : (u : Parts) (n f : ℕ) (v : Value) → is_cell u n f v ≡ true → (k : Kind) × (option_map (λ d. d.kind) (slice_get u.fields f) ≡ Some k)
kind_of_field u n f v is = by_kind (slice_get u.fields f) is
  where
    by_kind : (o : Option FieldDef) → option_map_or (λ d. is_value n d.kind v) o false ≡ true → (k : Kind) × (option_map (λ d. d.kind) o ≡ Some k)
    by_kind None h = absurd (false≢true h)
    by_kind (Some d) h = (d.kind, refl)

pub same_cell : (p : Posed) (n f : ℕ) (v w : Value) (more more' : List ℕ) → n < 2 ^ 64 → is_cell p.unit n f v ≡ true → is_cell p.unit n f w ≡ true → ends more ≡ true → ends more' ≡ true
    → cell_text p (f, v) ++ more ≡ cell_text p (f, w) ++ more' → SameCell p v w more more'
same_cell p n f v w more more' small is_v is_w end end' same =
    let k : (k : Kind) × (option_map (λ d. d.kind) (slice_get p.unit.fields f) ≡ Some k) = kind_of_field p.unit n f v is_v in
    let front : List ℕ = codes " " ++ field_text p f ++ codes "=" in
    let values : value_text v ++ more ≡ value_text w ++ more' =
    append_cancel_left front (value_text v ++ more) (value_text w ++ more') (sym (append_assoc front (value_text v) more) ∙ same ∙ append_assoc front (value_text w) more') in
    let h : SameValue v w more more' =
    same_value n k.0 v w more more' small (sym (cell_kind p.unit n f k.0 v k.1) ∙ is_v) (sym (cell_kind p.unit n f k.0 w k.1) ∙ is_w) end end' values in
    record { value = h.value; rest = h.rest }

-- several fields' values in front are the only ones
pub record SameCells (vs ws : List Value) (more more' : List ℕ) : Type 0 where
  pub values : vs ≡ ws
  pub rest : more ≡ more'

pub same_cells : (p : Posed) (n : ℕ) (fs : List ℕ) (vs ws : List Value) (more more' : List ℕ) → n < 2 ^ 64 → pointwise (is_cell p.unit n) fs vs ≡ true → pointwise (is_cell p.unit n) fs ws ≡ true
    → ends more ≡ true → ends more' ≡ true → flat_map (cell_text p) (zip fs vs) ++ more ≡ flat_map (cell_text p) (zip fs ws) ++ more' → SameCells vs ws more more'
same_cells p n [] [] [] more more' small is_v is_w end end' same = record { values = refl; rest = same }
same_cells p n [] (v ∷ vs) ws more more' small is_v is_w end end' same = absurd (false≢true is_v)
same_cells p n [] [] (w ∷ ws) more more' small is_v is_w end end' same = absurd (false≢true is_w)
same_cells p n (f ∷ fs) vs ws more more' small is_v is_w end end' same =
    let g : FirstCell p n f fs vs more = first_cell p n f fs vs more is_v end in
    let h : FirstCell p n f fs ws more' = first_cell p n f fs ws more' is_w end' in
    let k : SameCell p g.value h.value (flat_map (cell_text p) (zip fs g.values) ++ more) (flat_map (cell_text p) (zip fs h.values) ++ more') =
    same_cell p n f g.value h.value _ _ small g.is h.is g.end h.end (sym g.text ∙ same ∙ h.text) in
    let l : SameCells g.values h.values more more' = same_cells p n fs g.values h.values more more' small g.are h.are end end' k.rest in
    record { values = g.vs_are ∙ cc (k.value, l.values) ∙ sym h.vs_are; rest = l.rest }
