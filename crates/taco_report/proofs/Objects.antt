-- Objects and their lines.
use Rattle.std.proofs.Common.{◌≡◌, ℕ, ◌<◌, Bool, true, false, Option, Some, None, List, [], ◌∷◌, ◌++◌, length, get_or, flat_map, refl, sym, ap, subst, inl, inr, ◌∙◌, append_assoc, arith}
use Rattle.std.specs.Prelude.{slice_get, position, zip, codes, not}
use Rattle.std.specs.List.{list_all, position_or_len}
use Rattle.std.proofs.lemmas.List.Sums.{prefix_len_passes}
use Rattle.std.specs.Option.{option_map_or}
use Rattle.std.specs.Cmp.Lexicographic.{pointwise}
use Rattle.std.proofs.lemmas.Bool.{and_parts, and_from, false≢true, cases_lt, cond-true, lt-ltb, not-true}
use Rattle.std.proofs.lemmas.Option.{slice_get_within, get_or_from_slice_get, slice_get-get_or}
use Rattle.std.proofs.lemmas.Slice.Eq.{bytes_eq-Decides}
use Rattle.std.proofs.lemmas.List.Quantifiers.{position-Some}
use Rattle.taco_unit.specs.declared.unit.ClassDef.{ClassDef}
use Rattle.taco_unit.specs.Named.{class_number, is_class_named}
use Rattle.taco_unit.specs.Parts.{Parts}
use Rattle.taco_unit.specs.Well.{IsWell}
use Rattle.taco_unit.specs.Words.{begins_word, continues_word, is_word}
use Rattle.heap_core.specs.declared.value.Object.{Object}
use Rattle.heap_core.specs.Posed.{Posed}
use Rattle.heap_core.specs.declared.value.Value.{Value}
use Rattle.taco_report.specs.Texts.{cell_text, class_text, fields_of_class, object_line, object_text}
use Rattle.taco_report.specs.States.{ends, is_inner, is_cell, is_listed}
use Rattle.taco_report.proofs.Cuts.{SameCut, inner_from, same_cut}
use Rattle.taco_report.proofs.Lists.{cells_end}
use Rattle.taco_report.proofs.Pieces.{behind_one}

continues_inner : (b : ℕ) → continues_word b ≡ true → is_inner b ≡ true
continues_inner b is =
    inner_from b (λ e. false≢true (subst (λ (x : ℕ). continues_word x ≡ true) e is)) (λ e. false≢true (subst (λ (x : ℕ). continues_word x ≡ true) e is))

begins_inner : (b : ℕ) → begins_word b ≡ true → is_inner b ≡ true
begins_inner b is =
    inner_from b (λ e. false≢true (subst (λ (x : ℕ). begins_word x ≡ true) e is)) (λ e. false≢true (subst (λ (x : ℕ). begins_word x ≡ true) e is))

all_inner : (bytes : List ℕ) → list_all continues_word bytes ≡ true → list_all is_inner bytes ≡ true
all_inner [] all = refl
all_inner (b ∷ bs) all =
    let parts : (continues_word b ≡ true) × (list_all continues_word bs ≡ true) = and_parts (continues_word b) (list_all continues_word bs) all in
    and_from (is_inner b) _ (continues_inner b parts.0) (all_inner bs parts.1)

-- a name has no space and no line feed
pub name_inner : (name : List ℕ) → is_word name ≡ true → list_all is_inner name ≡ true
name_inner [] is = refl
name_inner (b ∷ bs) is =
    let parts : (begins_word b ≡ true) × (list_all continues_word bs ≡ true) = and_parts (begins_word b) (list_all continues_word bs) is in
    and_from (is_inner b) _ (begins_inner b parts.0) (all_inner bs parts.1)

-- an object that may stand on a line has a class, and values for its fields
pub record Listed (p : Posed) (n : ℕ) (x : Object) : Type 0 where
  pub def : ClassDef
  pub there : slice_get p.unit.classes x.class ≡ Some def
  pub name : class_text p x.class ≡ def.name
  pub cells : pointwise (is_cell p.unit n) (fields_of_class p x.class) x.cells ≡ true

pub listed : (p : Posed) (n : ℕ) (x : Object) → is_listed p.unit n x ≡ true → Listed p n x
listed p n x is = by_class (slice_get p.unit.classes x.class) refl is
  where
    by_class : (o : Option ClassDef) → slice_get p.unit.classes x.class ≡ o → option_map_or (λ d. pointwise (is_cell p.unit n) d.fields x.cells) o false ≡ true → Listed p n x
    by_class None there h = absurd (false≢true h)
    by_class (Some d) there h =
        record {
          def = d;
          there = there;
          name = ap (λ o. option_map_or (λ (e : ClassDef). e.name) o []) there;
          cells = ap (λ o. pointwise (is_cell p.unit n) (option_map_or (λ (e : ClassDef). e.fields) o []) x.cells) there ∙ h;
        }

-- an element that passes is found
not_lost : (test : ClassDef → Bool) (xs : List ClassDef) (c : ℕ) (d : ClassDef) → c < length xs → test (get_or xs c d) ≡ true → position test xs ≡ None → ⊥
not_lost test xs c d within passes none =
    elim (cases_lt (position_or_len test xs) (length xs)) [
      | inl inside ↦ let some : position test xs ≡ Some (position_or_len test xs) = cond-true _ _ _ (lt-ltb (position_or_len test xs) (length xs) inside) in absurd (cc)
      | inr past ↦
          let fails : test (get_or xs c d) ≡ false = not-true (test (get_or xs c d)) (prefix_len_passes (λ (x : ClassDef). not (test x)) xs c d (omega arith)) in
          false≢true (sym fails ∙ passes)
    ]

-- a class is found by its name
pub class_found : (u : Parts) (c : ℕ) (d : ClassDef) → IsWell u → slice_get u.classes c ≡ Some d → class_number u d.name ≡ Some c
class_found u c d well there = by_place (position (is_class_named d.name) u.classes) refl
  where
    within : c < length u.classes
    within = slice_get_within u.classes c d there

    here : get_or u.classes c d ≡ d
    here = get_or_from_slice_get u.classes c d d there

    named : is_class_named d.name (get_or u.classes c d) ≡ true
    named = ap (is_class_named d.name) here ∙ (bytes_eq-Decides d.name d.name).1 refl

    by_place : (r : Option ℕ) → position (is_class_named d.name) u.classes ≡ r → r ≡ Some c
    by_place None is = absurd (not_lost (is_class_named d.name) u.classes c d within named is)
    by_place (Some i) is =
        let told : (i < length u.classes) × (is_class_named d.name (get_or u.classes i d) ≡ true) × ((k : ℕ) → k < i → is_class_named d.name (get_or u.classes k d) ≡ false) =
        position-Some (is_class_named d.name) u.classes i d is in
        let same : (get_or u.classes i d).name ≡ d.name = (bytes_eq-Decides (get_or u.classes i d).name d.name).0 told.1 in
        let same' : (get_or u.classes c d).name ≡ d.name = ap (λ (e : ClassDef). e.name) here in
        elim (cases_lt i c) [
          | inl before ↦ absurd (well.classes_apart i c d before within (same ∙ sym same'))
          | inr from ↦
              elim (cases_lt c i) [
                | inl behind ↦ absurd (false≢true (sym (told.2 c behind) ∙ named))
                | inr upto ↦ let e : i ≡ c = omega arith in ap Some e
              ]
        ]

class_in : (name : List ℕ) (cs : List ClassDef) (c : ℕ) → position (is_class_named name) cs ≡ Some c → (d : ClassDef) × (slice_get cs c ≡ Some d) × (d.name ≡ name)
class_in name [] c is = absurd (cc)
class_in name (x ∷ xs) c is =
    let told : (c < length (x ∷ xs)) × (is_class_named name (get_or (x ∷ xs) c x) ≡ true) × ((k : ℕ) → k < c → is_class_named name (get_or (x ∷ xs) k x) ≡ false) =
    position-Some (is_class_named name) (x ∷ xs) c x is in
    (get_or (x ∷ xs) c x, slice_get-get_or (x ∷ xs) c x told.0, (bytes_eq-Decides (get_or (x ∷ xs) c x).name name).0 told.1)

-- what stands behind the number on the line of an object
line_opened : (a b c d more : List ℕ) → ((a ++ b ++ c ++ d) ++ 10 ∷ []) ++ more ≡ (a ++ b) ++ (c ++ (d ++ (10 ∷ more)))
line_opened a b c d more =
    append_assoc (a ++ b ++ c ++ d) (10 ∷ []) more ∙ append_assoc (a ++ b ++ c) d (10 ∷ more) ∙ append_assoc (a ++ b) c (d ++ (10 ∷ more))

-- the cells of an object of this class, as they are written
abbrev pub cells_text : Posed → ℕ → List Value → List ℕ
cells_text p class vs = flat_map (cell_text p) (zip (fields_of_class p class) vs)

pub object_opened : (p : Posed) (number : ℕ) (x : Object) (more text : List ℕ) → text ≡ object_line p (number, x) ++ more
    → text ≡ (object_text number ++ codes " ") ++ (class_text p x.class ++ (cells_text p x.class x.cells ++ (10 ∷ more)))
object_opened p number x more text same = same ∙ line_opened (object_text number) (codes " ") (class_text p x.class) (cells_text p x.class x.cells) more

-- an object in front, cut behind the name of its class
pub record ObjectFront (p : Posed) (n : ℕ) (x : Object) (word fields more : List ℕ) : Type 0 where
  pub class : class_number p.unit word ≡ Some x.class
  pub fields_are : fields ≡ cells_text p x.class x.cells ++ (10 ∷ more)
  pub cells : pointwise (is_cell p.unit n) (fields_of_class p x.class) x.cells ≡ true

pub object_front : (p : Posed) (n number : ℕ) (x : Object) (head name word fields more text : List ℕ) → IsWell p.unit → is_listed p.unit n x ≡ true
    → head ≡ object_text number ++ codes " " → text ≡ head ++ name → name ≡ word ++ fields → list_all is_inner word ≡ true → ends fields ≡ true
    → text ≡ object_line p (number, x) ++ more → ObjectFront p n x word fields more
object_front p n number x head name word fields more text well is head_is text_is name_is inner end same =
    let l : Listed p n x = listed p n x is in
    let class_inner : list_all is_inner (class_text p x.class) ≡ true = ap (list_all is_inner) l.name ∙ name_inner l.def.name (well.classes x.class l.def l.there).named in
    let behind : name ≡ class_text p x.class ++ (cells_text p x.class x.cells ++ (10 ∷ more)) =
    behind_one head _ text name text_is (object_opened p number x more text same ∙ ap (λ h. h ++ (class_text p x.class ++ (cells_text p x.class x.cells ++ (10 ∷ more)))) (sym head_is)) in
    let h : SameCut word (class_text p x.class) fields (cells_text p x.class x.cells ++ (10 ∷ more)) =
    same_cut word (class_text p x.class) fields _ inner class_inner end (cells_end p (fields_of_class p x.class) x.cells (10 ∷ more) refl) (sym name_is ∙ behind) in
    record {
      class = ap (class_number p.unit) (h.word ∙ l.name) ∙ class_found p.unit x.class l.def well l.there;
      fields_are = h.rest;
      cells = l.cells;
    }

-- what was read of the line of an object is one
pub record ObjectRead (p : Posed) (n number : ℕ) (x : Object) (text rest : List ℕ) : Type 0 where
  pub is : is_listed p.unit n x ≡ true
  pub text_is : text ≡ object_line p (number, x) ++ rest

pub object_read : (p : Posed) (n number : ℕ) (x : Object) (text head name word fields end rest : List ℕ) → head ≡ object_text number ++ codes " " → text ≡ head ++ name
    → name ≡ word ++ fields → class_number p.unit word ≡ Some x.class → pointwise (is_cell p.unit n) (fields_of_class p x.class) x.cells ≡ true
    → fields ≡ cells_text p x.class x.cells ++ end → end ≡ 10 ∷ rest → ObjectRead p n number x text rest
object_read p n number x text head name word fields end rest head_is text_is name_is class cells fields_are end_is =
    let d : (d : ClassDef) × (slice_get p.unit.classes x.class ≡ Some d) × (d.name ≡ word) = class_in word p.unit.classes x.class class in
    let there : slice_get p.unit.classes x.class ≡ Some d.0 = d.1 in
    let named : class_text p x.class ≡ word = ap (λ o. option_map_or (λ (e : ClassDef). e.name) o []) there ∙ d.2 in
    let behind : fields ≡ cells_text p x.class x.cells ++ (10 ∷ rest) = fields_are ∙ ap (λ l. cells_text p x.class x.cells ++ l) end_is in
    record {
      is = ap (λ o. option_map_or (λ (e : ClassDef). pointwise (is_cell p.unit n) e.fields x.cells) o false) there ∙ sym (ap (λ o. pointwise (is_cell p.unit n) (option_map_or (λ (e : ClassDef). e.fields) o []) x.cells) there) ∙ cells;
      text_is =
          text_is ∙ ap (λ h. h ++ name) head_is
          ∙ ap (λ l. (object_text number ++ codes " ") ++ l) (name_is ∙ ap (λ w. w ++ fields) (sym named) ∙ ap (λ l. class_text p x.class ++ l) behind)
          ∙ sym (line_opened (object_text number) (codes " ") (class_text p x.class) (cells_text p x.class x.cells) rest);
    }
