-- All fields and methods that are made go with those that are declared.
use Rattle.std.proofs.Common.{◌≡◌, ◌≤◌, ◌<◌, ◌+◌, ℕ, Bool, true, false, List, [], ◌∷◌, ◌++◌, Option, None, Some, length, cond, refl, ap, sym, ◌∙◌, subst, arith}
use Rattle.std.specs.Prelude.{map, slice_get, option_map, count_by, not, ◌==◌, ◌&&◌}
use Rattle.std.specs.List.{list_all}
use Rattle.std.proofs.lemmas.List.{length-map, length-append}
use Rattle.std.proofs.lemmas.List.Sums.{sum_by-append, sum_by-cons}
use Rattle.java_tree.specs.declared.names.Ident.{Ident}
use Rattle.java_tree.specs.declared.names.Modifier.{Modifier}
use Rattle.java_tree.specs.declared.names.TypeTree.{TypeTree}
use Rattle.java_tree.specs.declared.names.TypeTree.TheVariants as type
use Rattle.java_tree.specs.Trees.{Method}
use Rattle.taco_unit.specs.declared.unit.FieldDef.{FieldDef}
use Rattle.taco_unit.specs.declared.unit.MethodDef.{MethodDef}
use Rattle.taco_unit.specs.Parts.{Parts}
use Rattle.taco_unit.specs.Words.{is_word}
use Rattle.taco_unit.specs.Kinds.{is_kind_of, is_class_kind}
use Rattle.taco_unit.specs.Well.{IsWellMethod}
use Rattle.declared_names.specs.declared.fault.Fault.{Fault}
use Rattle.refusals.specs.declared.refusal.Many.TheVariants as many
use Rattle.declared_names.specs.declared.fault.Cause.TheVariants.{Unknown, Twice, TooMany}
use Rattle.declared_names.specs.declared.world.World.{World}
use Rattle.declared_names.specs.declared.world.FieldKnown.{FieldKnown}
use Rattle.declared_names.specs.declared.world.ParamKnown.{ParamKnown}
use Rattle.declared_names.specs.declared.world.ResultKnown.{ResultKnown}
use Rattle.declared_names.specs.declared.world.MethodKnown.{MethodKnown}
use Rattle.declared_names.specs.Faults.{check}
use Rattle.declared_names.specs.Lookups.{place_in}
use Rattle.typed_forms.specs.Calls.{byte}
use Rattle.typed_forms.specs.Clauses.{class_sort}
use Rattle.typed_statements.specs.Kinds.{kind_of, param_def, result_def}
use Rattle.typed_statements.specs.Heads.{Names, next, type_sort, is_object_type, typed_faults, word_faults, field_known, method_known, with_field, with_method}
use Rattle.typed_statements.proofs.Stand.{nothing_left, nothing_right, passes}
use Rattle.typed_statements.proofs.Suits.{is_kind}
use Rattle.taco_unit.proofs.Lists.{append_last}
use Rattle.typed_statements.proofs.Agrees.{Knows, kept}
use Rattle.typed_statements.proofs.Fitting.{Before}
use Rattle.typed_statements.proofs.BodiesFit.{typed_quiet, type_fixed, typed_in_unit}
use Rattle.typed_core.specs.declared.members.Counts.{Counts}
use Rattle.typed_core.specs.Members.{is_first, field_def, field_faults, one_more, reference_count}
use Rattle.typed_core.proofs.Each.{Each, each_push, is_here}
use Rattle.typed_core.proofs.Growth.{Even}

-- a unit of these classes that knows what is declared
pub record Whole (w : World) (u : Parts) : Type 0 where
  pub knows : Knows w u
  pub classes : length u.classes ≡ length w.classes

-- a field of the unit that goes with its declaration
pub record FieldFine (w : World) (i : ℕ) (d : FieldKnown) (def : FieldDef) : Type 0 where
  pub is : def ≡ field_def d
  pub named : is_word d.name ≡ true
  pub first : place_in w.field_names d.class d.name ≡ Some i
  pub in_class : d.class < length w.classes
  pub fixed : is_kind d.sort ≡ true
  pub there : (u : Parts) → Whole w u → is_kind_of u (kind_of d.sort) ≡ true

-- a method of the unit that goes with its declaration
pub record MethodFine (w : World) (i : ℕ) (m : MethodKnown) (def : MethodDef) : Type 0 where
  pub class : def.class ≡ byte m.class
  pub is_static : def.fixed ≡ m.fixed
  pub params : def.params ≡ map param_def m.params
  pub result : def.result ≡ option_map result_def m.result
  pub params_fixed : list_all (λ (p : ParamKnown). is_kind p.sort) m.params ≡ true
  pub result_fixed : (r : ResultKnown) → m.result ≡ Some r → is_kind r.sort ≡ true
  pub well : (u : Parts) → Whole w u → IsWellMethod u def

-- so far these are declared, and those are made
pub record Totals (w before : World) (counts : Counts) (fs : List FieldDef) (ms : List MethodDef) : Type 0 where
  pub fields : Each (FieldFine w) before.fields fs
  pub methods : Each (MethodFine w) before.methods ms
  pub many_fields : counts.fields ≡ length before.fields
  pub few_fields : counts.fields ≤ 64
  pub many_methods : counts.methods ≡ length before.methods
  pub few_methods : counts.methods ≤ 64
  pub many_references : counts.references ≡ count_by (λ (f : FieldDef). is_class_kind f.kind) fs
  pub few_references : counts.references ≤ 32

-- LIMITS

pub below_limit : (n k : ℕ) → n ≤ k → not (n == k) ≡ true → n + 1 ≤ k
below_limit n k few is = by_order (n == k) refl is
  where
    by_order : (b : Bool) → (n == k) ≡ b → not b ≡ true → n + 1 ≤ k
    by_order true same test = absurd (cc)
    by_order false other test = grind (arith, other)

pub next_is : (n : ℕ) → n ≤ 1000 → next n ≡ n + 1
next_is n few = omega arith

counted_push : {A : Type 0} (p : A → Bool) (xs : List A) (x : A) → count_by p (xs ++ x ∷ []) ≡ count_by p xs + cond (p x) 1 0
counted_push p xs x = sum_by-append (λ y. cond (p y) 1 0) xs (x ∷ []) ∙ ap (λ n. count_by p xs + n) (sum_by-cons (λ y. cond (p y) 1 0) x [] ∙ one_only (cond (p x) 1 0))
  where
    one_only : (n : ℕ) → n + 0 ≡ n
    one_only n = omega arith

-- a type of objects has a class kind
reference_class : (o : Option ℕ) → is_kind (class_sort o) ≡ true → is_class_kind (kind_of (class_sort o)) ≡ true
reference_class None fixed = absurd (cc)
reference_class (Some c) fixed = refl

reference_by : (names : Names) (kind : TypeTree) → is_kind (type_sort names kind) ≡ true → is_class_kind (kind_of (type_sort names kind)) ≡ is_object_type kind
reference_by names type.Int fixed = refl
reference_by names type.Flag fixed = refl
reference_by names (type.Class i) fixed = reference_class (place_in names 0 i.text) fixed

more_references : (object : Bool) (n : ℕ) → n ≤ 32 → one_more object n ≡ n + cond object 1 0
more_references true n few = omega arith
more_references false n few = omega arith

few_more : (object : Bool) (n : ℕ) → n ≤ 32 → not (object && n == 32) ≡ true → n + cond object 1 0 ≤ 32
few_more true n few is = below_limit n 32 few is
few_more false n few is = omega arith

-- FIELDS

-- what a field without a fault keeps
record Quiet (w : World) (n : ℕ) (counts : Counts) (mods : List Modifier) (kind : TypeTree) (i : Ident) : Type 0 where
  typed : typed_faults w.classes mods kind ≡ []
  named : is_word i.text ≡ true
  first : is_first (place_in w.field_names n i.text) counts.fields ≡ true
  fewer : not (counts.fields == 64) ≡ true
  fewer_references : not (is_object_type kind && counts.references == 32) ≡ true

quiet_field : (w : World) (n : ℕ) (counts : Counts) (mods : List Modifier) (kind : TypeTree) (i : Ident) → field_faults w n counts mods kind i ≡ [] → Quiet w n counts mods kind i
quiet_field w n counts mods kind i quiet =
    let a : List Fault = typed_faults w.classes mods kind in
    let b : List Fault = check (is_first (place_in w.field_names n i.text) counts.fields) i.at Twice in
    let c : List Fault = check (not (counts.fields == 64)) i.at (TooMany many.Fields) in
    let d : List Fault = check (not (is_object_type kind && counts.references == 32)) i.at (TooMany many.RefFields) in
    let e : List Fault = word_faults i in
    let ebcd = nothing_right a (e ++ (b ++ (c ++ d))) quiet in
    let bcd = nothing_right e (b ++ (c ++ d)) ebcd in
    let cd = nothing_right b (c ++ d) bcd in
    record {
      typed = nothing_left a (e ++ (b ++ (c ++ d))) quiet;
      named = passes (is_word i.text) i.at Unknown (nothing_left e (b ++ (c ++ d)) ebcd);
      first = passes (is_first (place_in w.field_names n i.text) counts.fields) i.at Twice (nothing_left b (c ++ d) bcd);
      fewer = passes (not (counts.fields == 64)) i.at (TooMany many.Fields) (nothing_left c d cd);
      fewer_references = passes (not (is_object_type kind && counts.references == 32)) i.at (TooMany many.RefFields) (nothing_right c d cd);
    }

-- the name stands in the text where the count says
name_at : (w before : World) (key : ℕ × List ℕ) (n : ℕ) → Even before → n ≡ length before.fields → Before (before.field_names ++ key ∷ []) w.field_names → slice_get w.field_names n ≡ Some key
name_at w before key n even many behind =
    let long : n ≡ length before.field_names = many ∙ sym (ap length even.fields ∙ length-map before.fields (λ (d : FieldKnown). (d.class, d.name))) in
    ap (slice_get w.field_names) long
    ∙ ap (λ l. slice_get l (length before.field_names)) behind.is
    ∙ kept (before.field_names ++ key ∷ []) behind.more (length before.field_names) key (append_last before.field_names key)

pub totals_field : (w before : World) (n : ℕ) (default : Bool) (counts : Counts) (mods : List Modifier) (kind : TypeTree) (i : Ident) (fs : List FieldDef) (ms : List MethodDef) → Even before → w.classes ≡ before.classes
    → Before (before.field_names ++ (n, i.text) ∷ []) w.field_names → n < length w.classes → field_faults w n counts mods kind i ≡ [] → Totals w before counts fs ms
    → Totals w (with_field before (field_known before.classes n default mods kind i)) (record counts { fields = next counts.fields; references = reference_count kind counts.references })
    (fs ++ field_def (field_known w.classes n default mods kind i) ∷ []) ms
totals_field w before n default counts mods kind i fs ms even same behind within quiet so_far =
    let own = quiet_field w n counts mods kind i quiet in
    let d : FieldKnown = field_known w.classes n default mods kind i in
    let fixed = type_fixed w.classes kind (typed_quiet w.classes mods kind own.typed) in
    let few : counts.fields ≤ 64 = so_far.few_fields in
    let step : next counts.fields ≡ counts.fields + 1 = next_is counts.fields (omega arith) in
    let new : FieldFine w (length before.fields) d (field_def d) =
    record {
      is = refl;
      named = own.named;
      first = is_here w.field_names n i.text counts.fields (name_at w before (n, i.text) counts.fields even so_far.many_fields behind) own.first ∙ ap Some so_far.many_fields;
      in_class = within;
      fixed = fixed;
      there = λ u whole. (typed_in_unit w u mods kind whole.knows own.typed).there;
    }
    in
    let P : Names → Type 0 = λ names. Each (FieldFine w) (before.fields ++ field_known names n default mods kind i ∷ []) (fs ++ field_def d ∷ []) in
    let Q : ℕ → Type 0 = λ x. x ≤ 64 in
    let R : ℕ → Type 0 = λ x. x ≤ 32 in
    let refs : reference_count kind counts.references ≡ counts.references + cond (is_object_type kind) 1 0 = more_references (is_object_type kind) counts.references so_far.few_references in
    record {
      fields = subst P same (each_push (FieldFine w) before.fields fs d (field_def d) so_far.fields new);
      methods = so_far.methods;
      many_fields = step ∙ ap (λ x. x + 1) so_far.many_fields ∙ sym (length-append before.fields (field_known before.classes n default mods kind i ∷ []));
      few_fields = subst Q (sym step) (below_limit counts.fields 64 so_far.few_fields own.fewer);
      many_methods = so_far.many_methods;
      few_methods = so_far.few_methods;
      many_references = refs ∙ ap (λ x. x + cond (is_object_type kind) 1 0) so_far.many_references
          ∙ ap (λ b. count_by (λ (f : FieldDef). is_class_kind f.kind) fs + cond b 1 0) (sym (reference_by w.classes kind fixed)) ∙ sym (counted_push (λ (f : FieldDef). is_class_kind f.kind) fs (field_def d));
      few_references = subst R (sym refs) (few_more (is_object_type kind) counts.references so_far.few_references own.fewer_references);
    }

-- METHODS

pub totals_method : (w before : World) (n : ℕ) (default : Bool) (counts : Counts) (m : Method) (fs : List FieldDef) (ms : List MethodDef) (def : MethodDef) → w.classes ≡ before.classes → not (counts.methods == 64) ≡ true
    → MethodFine w (length before.methods) (method_known w.classes n default m) def → Totals w before counts fs ms
    → Totals w (with_method before (method_known before.classes n default m)) (record counts { methods = next counts.methods }) fs (ms ++ def ∷ [])
totals_method w before n default counts m fs ms def same fewer new so_far =
    let few : counts.methods ≤ 64 = so_far.few_methods in
    let step : next counts.methods ≡ counts.methods + 1 = next_is counts.methods (omega arith) in
    let P : Names → Type 0 = λ names. Each (MethodFine w) (before.methods ++ method_known names n default m ∷ []) (ms ++ def ∷ []) in
    let Q : ℕ → Type 0 = λ x. x ≤ 64 in
    record {
      fields = so_far.fields;
      methods = subst P same (each_push (MethodFine w) before.methods ms (method_known w.classes n default m) def so_far.methods new);
      many_fields = so_far.many_fields;
      few_fields = so_far.few_fields;
      many_methods = step ∙ ap (λ x. x + 1) so_far.many_methods ∙ sym (length-append before.methods (method_known before.classes n default m ∷ []));
      few_methods = subst Q (sym step) (below_limit counts.methods 64 so_far.few_methods fewer);
      many_references = so_far.many_references;
      few_references = so_far.few_references;
    }
