-- A text without a fault stands for a unit that is well.
use Rattle.std.proofs.Common.{◌≡◌, ◌≢◌, ◌≤◌, ◌<◌, ◌+◌, ℕ, zero, suc, Bool, true, false, List, [], ◌∷◌, Option, None, Some, length, refl, ap, sym, ◌∙◌, subst, arith}
use Rattle.std.specs.Prelude.{map, slice_get, option_map, ◌==◌, bytes_eq, filter, cond, AllPairs}
use Rattle.std.specs.List.{range_with_len}
use Rattle.std.specs.Option.{option_map_or}
use Rattle.std.proofs.lemmas.Option.{slice_get_within, slice_get-map, get_or_from_slice_get}
use Rattle.std.proofs.lemmas.Bool.{eqb-true}
use Rattle.std.proofs.lemmas.List.{length-map}
use Rattle.std.proofs.lemmas.List.Quantifiers.{position-Some}
use Rattle.java_tree.specs.declared.names.Ident.{Ident}
use Rattle.java_tree.specs.Trees.{Class, Classes}
use Rattle.taco_unit.specs.declared.unit.ClassDef.{ClassDef}
use Rattle.taco_unit.specs.declared.unit.FieldDef.{FieldDef}
use Rattle.taco_unit.specs.declared.unit.MethodDef.{MethodDef}
use Rattle.taco_unit.specs.Words.{is_word}
use Rattle.taco_unit.specs.Well.{IsWell, IsWellClass, IsWellField, IsWellMethod}
use Rattle.declared_names.specs.declared.world.World.{World}
use Rattle.declared_names.specs.declared.world.Slot.{Slot}
use Rattle.declared_names.specs.declared.world.FieldKnown.{FieldKnown}
use Rattle.declared_names.specs.declared.world.MethodKnown.{MethodKnown}
use Rattle.declared_names.specs.Seen.{Stands}
use Rattle.declared_names.specs.Lookups.{is_key, place_in, field_slot, slot, method_at}
use Rattle.typed_forms.specs.Calls.{byte}
use Rattle.typed_statements.specs.Kinds.{kind_of}
use Rattle.typed_statements.specs.Heads.{class_names, bare_world, world_of}
use Rattle.typed_statements.proofs.Stand.{OnStands, weaker}
use Rattle.typed_statements.proofs.Suits.{is_kind}
use Rattle.typed_statements.proofs.Agrees.{FieldAt, MethodAt, Knows, chained, mapped}
use Rattle.typed_statements.proofs.CallKinds.{left_of}
use Rattle.typed_core.specs.declared.members.Built.{Built}
use Rattle.typed_core.specs.declared.members.ClassPart.{ClassPart}
use Rattle.typed_core.specs.Members.{numbers_of, class_def, class_defs, unit_of, nothing_built, no_counts, seen_text}
use Rattle.typed_core.proofs.Each.{each_none, each_back, apart_from}
use Rattle.typed_core.proofs.Growth.{after_classes, Even, even_classes}
use Rattle.typed_core.proofs.Totals.{Whole, FieldFine, MethodFine}
use Rattle.typed_core.proofs.ClassesFine.{ClassFine, AllFine, classes_fine}

-- CLASSES OF THE UNIT

pub as_many : (fs : List FieldDef) (ms : List MethodDef) (n : ℕ) (cs : List ClassPart) → length (class_defs fs ms n cs) ≡ length cs
as_many fs ms n [] = refl
as_many fs ms n (c ∷ cs) = ap suc (as_many fs ms (n + 1) cs)

class_at : (fs : List FieldDef) (ms : List MethodDef) (n : ℕ) (cs : List ClassPart) (i : ℕ) (d : ClassDef) → slice_get (class_defs fs ms n cs) i ≡ Some d → (c : ClassPart) × (slice_get cs i ≡ Some c) × (d ≡ class_def fs ms (n + i) c)
class_at fs ms n [] i d is = absurd (cc)
class_at fs ms n (c ∷ cs) zero d is =
    let same : class_def fs ms n c ≡ d = cc in
    let here : n ≡ n + 0 = omega arith in
    (c, refl, sym same ∙ ap (λ k. class_def fs ms k c) here)
class_at fs ms n (c ∷ cs) (suc i) d is =
    let found = class_at fs ms (n + 1) cs i d is in
    let here : (n + 1) + i ≡ n + suc i = omega arith in
    (found.0, found.1, found.2 ∙ ap (λ k. class_def fs ms k found.0) here)

class_here : (b : Built) (i : ℕ) (d : ClassDef) → slice_get (unit_of b).classes i ≡ Some d → (c : ClassPart) × (slice_get b.classes i ≡ Some c) × (d ≡ class_def b.fields b.methods i c)
class_here b i d is =
    let found = class_at b.fields b.methods 0 b.classes i d is in
    let here : 0 + i ≡ i = omega arith in
    (found.0, found.1, found.2 ∙ ap (λ k. class_def b.fields b.methods k found.0) here)

-- the numbers of a class are those at which its own stand
numbers_from : {A : Type 0} (class : A → ℕ) (owner : ℕ) (ds : List A) (n : ℕ) (g : ℕ → Bool) → ((i : ℕ) → g (n + i) ≡ option_map_or (λ d. class d == owner) (slice_get ds i) false)
    → numbers_of owner n (map class ds) ≡ filter g (range_with_len n (length ds))
numbers_from class owner [] n g same = refl
numbers_from class owner (d ∷ ds) n g same =
    let here : g n ≡ (class d == owner) = ap g (omega arith) ∙ same 0 in
    let rest : numbers_of owner (n + 1) (map class ds) ≡ filter g (range_with_len (n + 1) (length ds)) = numbers_from class owner ds (n + 1) g (λ i. ap g (omega arith) ∙ same (suc i)) in
    ap (λ l. cond (class d == owner) (n ∷ l) l) rest ∙ ap (λ b. cond b (n ∷ filter g (range_with_len (n + 1) (length ds))) (filter g (range_with_len (n + 1) (length ds)))) (sym here)

numbers_are : {A : Type 0} (class : A → ℕ) (owner : ℕ) (ds : List A) → numbers_of owner 0 (map class ds) ≡ filter (λ i. option_map_or (λ d. class d == owner) (slice_get ds i) false) (range_with_len 0 (length ds))
numbers_are class owner ds =
    numbers_from class owner ds 0 (λ i. option_map_or (λ d. class d == owner) (slice_get ds i) false) (λ i. ap (λ k. option_map_or (λ d. class d == owner) (slice_get ds k) false) (omega arith))

-- NAMES

key_at : (names : List (ℕ × List ℕ)) (owner : ℕ) (name : List ℕ) (i : ℕ) (k : ℕ × List ℕ) → place_in names owner name ≡ Some i → slice_get names i ≡ Some k → is_key owner name k ≡ true
key_at names owner name i k is there =
    let found = position-Some (is_key owner name) names i k is in
    ap (is_key owner name) (sym (get_or_from_slice_get names i k k there)) ∙ found.1

owner_is : (owner : ℕ) (name : List ℕ) (k : ℕ × List ℕ) → is_key owner name k ≡ true → k.0 ≡ owner
owner_is owner name k is = eqb-true k.0 owner (left_of (k.0 == owner) (bytes_eq k.1 name) is)

-- two names with one meaning stand at one place
one_place : (names : List (ℕ × List ℕ)) (a b : ℕ) (x y : List ℕ) (i j : ℕ) → place_in names a x ≡ Some i → place_in names b y ≡ Some j → a ≡ b → x ≡ y → i ≡ j
one_place names a b x y i j at_i at_j same_owner same_name =
    let same : Some i ≡ Some j = sym at_i ∙ ap (λ o. place_in names o x) same_owner ∙ ap (place_in names b) same_name ∙ at_j in
    cc

small : (n k : ℕ) → n < k → k ≤ 64 → byte n ≡ n
small n k within few = omega arith

-- WHAT THE UNIT KNOWS

long_text : (w : World) (all : Classes) → w.classes ≡ class_names all → length w.classes ≡ length all
long_text w all names = ap length names ∙ length-map all (λ (x : Class). (0, x.name.text))

many_classes : (w : World) (all : Classes) (b : Built) → w.classes ≡ class_names all → AllFine w all b → length (unit_of b).classes ≡ length w.classes
many_classes w all b names fine = as_many b.fields b.methods 0 b.classes ∙ sym fine.classes.same ∙ sym (long_text w all names)

class_known : (w : World) (all : Classes) (b : Built) → w.classes ≡ class_names all → AllFine w all b → (name : List ℕ) (c : ℕ) → place_in w.classes 0 name ≡ Some c → c < length (unit_of b).classes
class_known w all b names fine name c is =
    let within : c < length w.classes = (position-Some (is_key 0 name) w.classes c (0, []) is).0 in
    let P : ℕ → Type 0 = λ n. c < n in
    subst P (sym (many_classes w all b names fine)) within

field_known_at : (w : World) (all : Classes) (b : Built) → Even w → AllFine w all b → (owner : ℕ) (name : List ℕ) (s : Slot) → field_slot w owner name ≡ Some s → FieldAt (unit_of b) owner s
field_known_at w all b even fine owner name s is =
    let found = chained (λ i. option_map (λ (d : FieldKnown). slot i d.sort) (slice_get w.fields i)) (place_in w.field_names owner name) s is in
    let i : ℕ = found.0 in
    let made = mapped (λ (d : FieldKnown). slot i d.sort) (slice_get w.fields i) s found.2 in
    let d : FieldKnown = made.0 in
    let n : i ≡ s.number = ap (λ (t : Slot). t.number) made.2 in
    let k : d.sort ≡ s.sort = ap (λ (t : Slot). t.sort) made.2 in
    let there = fine.fields.at i d made.1 in
    let name_there : slice_get w.field_names i ≡ Some (d.class, d.name) =
    ap (λ l. slice_get l i) even.fields ∙ slice_get-map (λ (x : FieldKnown). (x.class, x.name)) w.fields i ∙ ap (option_map (λ (x : FieldKnown). (x.class, x.name))) made.1
    in
    let own : d.class ≡ owner = owner_is owner name (d.class, d.name) (key_at w.field_names owner name i (d.class, d.name) found.1 name_there) in
    let place : byte s.number ≡ i = ap byte (sym n) ∙ small i (length w.fields) (slice_get_within w.fields i d made.1) fine.few_fields in
    record {
      def = there.0;
      at = ap (slice_get b.fields) place ∙ there.1;
      class = ap (λ (x : FieldDef). x.class) there.2.is ∙ ap byte own;
      kind = ap (λ (x : FieldDef). x.kind) there.2.is ∙ ap kind_of k;
      fixed = ap is_kind (sym k) ∙ there.2.fixed;
    }

method_by : (w : World) (all : Classes) (b : Built) → Even w → AllFine w all b → (owner : ℕ) (i : Ident) (m : ℕ × MethodKnown) (found : Option ℕ) → place_in w.method_names owner i.text ≡ found → method_at w found ≡ Some m → MethodAt (unit_of b) owner m
method_by w all b even fine owner i m None was is = absurd (cc)
method_by w all b even fine owner i m (Some n) was is =
    let made = mapped (λ (x : MethodKnown). (n, x)) (slice_get w.methods n) m is in
    let d : MethodKnown = made.0 in
    let number : n ≡ m.0 = ap (λ (x : ℕ × MethodKnown). x.0) made.2 in
    let known : d ≡ m.1 = ap (λ (x : ℕ × MethodKnown). x.1) made.2 in
    let there = fine.methods.at n d made.1 in
    let name_there : slice_get w.method_names n ≡ Some (d.class, d.name) =
    ap (λ l. slice_get l n) even.methods ∙ slice_get-map (λ (x : MethodKnown). (x.class, x.name)) w.methods n ∙ ap (option_map (λ (x : MethodKnown). (x.class, x.name))) made.1
    in
    let own : d.class ≡ owner = owner_is owner i.text (d.class, d.name) (key_at w.method_names owner i.text n (d.class, d.name) was name_there) in
    let place : byte m.0 ≡ n = ap byte (sym number) ∙ small n (length w.methods) (slice_get_within w.methods n d made.1) fine.few_methods in
    let P : MethodKnown → Type 0 = λ x. MethodAt (unit_of b) owner (n, x) in
    let Q : ℕ → Type 0 = λ k. MethodAt (unit_of b) owner (k, m.1) in
    let here : MethodAt (unit_of b) owner (n, d) =
    record {
      def = there.0;
      at = ap (slice_get b.methods) (small n (length w.methods) (slice_get_within w.methods n d made.1) fine.few_methods) ∙ there.1;
      class = there.2.class ∙ ap byte own;
      is_static = there.2.is_static;
      params = there.2.params;
      result = there.2.result;
      params_fixed = there.2.params_fixed;
      result_fixed = there.2.result_fixed;
    }
    in
    subst Q number (subst P known here)

knows : (w : World) (all : Classes) (b : Built) → w.classes ≡ class_names all → Even w → AllFine w all b → Knows w (unit_of b)
knows w all b names even fine =
    let P : ℕ → Type 0 = λ n. n ≤ 16 in
    record {
      classes = class_known w all b names fine;
      few = subst P (sym (many_classes w all b names fine ∙ long_text w all names)) fine.few;
      fields = field_known_at w all b even fine;
      methods = λ owner i m is. method_by w all b even fine owner i m (place_in w.method_names owner i.text) refl is;
    }

-- THE UNIT IS WELL

well_class : (w : World) (all : Classes) (b : Built) → Whole w (unit_of b) → AllFine w all b → (c : ℕ) (d : ClassDef) → slice_get (unit_of b).classes c ≡ Some d → IsWellClass (unit_of b) c d
well_class w all b whole fine c d is =
    let found = class_here b c d is in
    let back = each_back (ClassFine w) all b.classes fine.classes c found.0 found.1 in
    let P : ClassDef → Type 0 = λ x. IsWellClass (unit_of b) c x in
    let Named : List ℕ → Type 0 = λ x. is_word x ≡ true in
    subst P (sym found.2)
    (record {
      named = subst Named (sym back.2.name) back.2.named;
      lists_fields = numbers_are (λ (x : FieldDef). x.class) c b.fields;
      lists_methods = numbers_are (λ (x : MethodDef). x.class) c b.methods;
      invariants = back.2.invariants (unit_of b) whole;
      few_invariants = back.2.few;
    })

byte_within : (n k : ℕ) → n < k → byte n < k
byte_within n k within = omega arith

well_field : (w : World) (all : Classes) (b : Built) → Whole w (unit_of b) → AllFine w all b → (f : ℕ) (d : FieldDef) → slice_get b.fields f ≡ Some d → IsWellField (unit_of b) d
well_field w all b whole fine f d is =
    let back = each_back (FieldFine w) w.fields b.fields fine.fields f d is in
    let known : FieldKnown = back.0 in
    let P : FieldDef → Type 0 = λ x. IsWellField (unit_of b) x in
    let Q : ℕ → Type 0 = λ n. byte known.class < n in
    subst P (sym back.2.is)
    (record { named = back.2.named; in_class = subst Q (sym whole.classes) (byte_within known.class (length w.classes) back.2.in_class); kind_there = back.2.there (unit_of b) whole })

well_method : (w : World) (all : Classes) (b : Built) → Whole w (unit_of b) → AllFine w all b → (m : ℕ) (d : MethodDef) → slice_get b.methods m ≡ Some d → IsWellMethod (unit_of b) d
well_method w all b whole fine m d is =
    let back = each_back (MethodFine w) w.methods b.methods fine.methods m d is in
    back.2.well (unit_of b) whole

classes_differ : (w : World) (all : Classes) (b : Built) → AllFine w all b → AllPairs (λ (c : ClassDef) (d : ClassDef). c.name ≢ d.name) (unit_of b).classes
classes_differ w all b fine =
    apart_from (λ (c : ClassDef) (d : ClassDef). c.name ≢ d.name) (unit_of b).classes
    (λ i j x y less is_x is_y same.
    let a = class_here b i x is_x in
    let z = class_here b j y is_y in
    let back_i = each_back (ClassFine w) all b.classes fine.classes i a.0 a.1 in
    let back_j = each_back (ClassFine w) all b.classes fine.classes j z.0 z.1 in
    let name : back_i.0.name.text ≡ back_j.0.name.text =
    sym back_i.2.name ∙ ap (λ (d : ClassDef). d.name) (sym a.2) ∙ same ∙ ap (λ (d : ClassDef). d.name) z.2 ∙ back_j.2.name
    in
    let place : i ≡ j = one_place w.classes 0 0 back_i.0.name.text back_j.0.name.text i j back_i.2.first back_j.2.first refl name in
    omega arith)

same_owner : (a b n : ℕ) → a < n → b < n → n ≤ 16 → byte a ≡ byte b → a ≡ b
same_owner a b n less_a less_b few same = omega arith

fields_differ : (w : World) (all : Classes) (b : Built) → length w.classes ≤ 16 → AllFine w all b → AllPairs (λ (f : FieldDef) (g : FieldDef). f.class ≡ g.class → f.name ≢ g.name) b.fields
fields_differ w all b few fine =
    apart_from (λ (f : FieldDef) (g : FieldDef). f.class ≡ g.class → f.name ≢ g.name) b.fields
    (λ i j x y less is_x is_y same_class same.
    let back_i = each_back (FieldFine w) w.fields b.fields fine.fields i x is_x in
    let back_j = each_back (FieldFine w) w.fields b.fields fine.fields j y is_y in
    let d : FieldKnown = back_i.0 in
    let e : FieldKnown = back_j.0 in
    let bytes_ : byte d.class ≡ byte e.class = ap (λ (f : FieldDef). f.class) (sym back_i.2.is) ∙ same_class ∙ ap (λ (f : FieldDef). f.class) back_j.2.is in
    let name : d.name ≡ e.name = ap (λ (f : FieldDef). f.name) (sym back_i.2.is) ∙ same ∙ ap (λ (f : FieldDef). f.name) back_j.2.is in
    let owner : d.class ≡ e.class = same_owner d.class e.class (length w.classes) back_i.2.in_class back_j.2.in_class few bytes_ in
    let place : i ≡ j = one_place w.field_names d.class e.class d.name e.name i j back_i.2.first back_j.2.first owner name in
    omega arith)

well : (w : World) (all : Classes) (b : Built) → w.classes ≡ class_names all → Even w → AllFine w all b → IsWell (unit_of b)
well w all b names even fine =
    let few : length w.classes ≤ 16 = let P : ℕ → Type 0 = λ n. n ≤ 16 in subst P (sym (long_text w all names)) fine.few in
    let whole : Whole w (unit_of b) = record { knows = knows w all b names even fine; classes = many_classes w all b names fine } in
    let Few : ℕ → Type 0 = λ n. n ≤ 64 in
    let Many : ℕ → Type 0 = λ n. n ≤ 255 in
    let methods : length w.methods ≤ 64 = fine.few_methods in
    record {
      classes = well_class w all b whole fine;
      fields = well_field w all b whole fine;
      methods = well_method w all b whole fine;
      classes_apart = classes_differ w all b fine;
      fields_apart = fields_differ w all b few fine;
      few_classes = whole.knows.few;
      few_fields = subst Few fine.fields.same fine.few_fields;
      few_references = fine.few_references;
      few_methods = subst Many fine.methods.same (omega arith);
    }

-- what stands of a text
pub text_well : (cs : Classes) → OnStands (seen_text cs) (λ b. IsWell (unit_of b))
text_well cs =
    let w : World = world_of cs in
    let bare : World = bare_world (class_names cs) in
    let names : w.classes ≡ class_names cs = (after_classes 0 bare cs).classes in
    let even_bare : Even bare = record { fields = refl; methods = refl } in
    weaker (AllFine w cs) (λ b. IsWell (unit_of b)) (seen_text cs)
    (classes_fine w bare cs [] cs 0 no_counts (Stands nothing_built) names refl refl even_bare
    (record {
      classes = each_none (ClassFine w);
      totals = record {
        fields = each_none (FieldFine w);
        methods = each_none (MethodFine w);
        many_fields = refl;
        few_fields = omega arith;
        many_methods = refl;
        few_methods = omega arith;
        many_references = refl;
        few_references = omega arith;
      };
      number = refl;
      few = omega arith;
    }))
    (λ b fine. well w cs b names (even_classes 0 bare cs even_bare) fine)
