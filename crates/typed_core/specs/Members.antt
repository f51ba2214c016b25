-- Members, classes and the whole text: the unit, or the faults. (Java Language Specification, "Classes"; JML Reference
-- Manual, "Method Specifications", "Type Specifications".)
use Rattle.std.specs.Prelude.{ℕ, ◌+◌, ◌==◌, ◌&&◌, Bool, true, false, not, List, [], ◌∷◌, ◌++◌, map, cond, Option, None, Some, option_map}
use Rattle.java_tree.specs.declared.names.Ident.{Ident}
use Rattle.java_tree.specs.declared.names.Modifier.{Modifier}
use Rattle.java_tree.specs.declared.names.TypeTree.{TypeTree}
use Rattle.java_tree.specs.Trees.{Clause as ClauseTree, needs, gives, Method, Part, invariant, field, method, Class, Classes}
use Rattle.taco_unit.specs.declared.stmt.Stmt.{Stmt as UnitStmt}
use Rattle.taco_unit.specs.declared.stmt.Stmt.TheVariants as s
use Rattle.taco_unit.specs.declared.unit.Clause.{Clause}
use Rattle.taco_unit.specs.declared.unit.ClassDef.{ClassDef}
use Rattle.taco_unit.specs.declared.unit.FieldDef.{FieldDef}
use Rattle.taco_unit.specs.declared.unit.MethodDef.{MethodDef}
use Rattle.taco_unit.specs.Parts.{Parts}
use Rattle.declared_names.specs.declared.fault.Fault.{Fault}
use Rattle.refusals.specs.declared.refusal.Many.TheVariants as many
use Rattle.declared_names.specs.declared.fault.Cause.TheVariants.{Twice, TooMany}
use Rattle.declared_names.specs.declared.sort.Sort.{Sort}
use Rattle.declared_names.specs.declared.sort.Sort.TheVariants.{Flag}
use Rattle.typed_forms.specs.declared.typed.Typed.{Typed}
use Rattle.declared_names.specs.declared.world.World.{World}
use Rattle.declared_names.specs.declared.world.Here.{Here}
use Rattle.declared_names.specs.declared.world.FieldKnown.{FieldKnown}
use Rattle.declared_names.specs.declared.world.MethodKnown.{MethodKnown}
use Rattle.declared_names.specs.declared.world.Form.TheVariants as form
use Rattle.declared_names.specs.Faults.{check}
use Rattle.declared_names.specs.Seen.{Seen, Stands, over, over_two, unless, beside}
use Rattle.declared_names.specs.Lookups.{place_in, in_clause}
use Rattle.typed_forms.specs.Operators.{wants}
use Rattle.typed_forms.specs.Calls.{byte}
use Rattle.typed_expressions.specs.Expressions.{seen}
use Rattle.typed_core.specs.declared.members.Made.{Made}
use Rattle.typed_core.specs.declared.members.Made.TheVariants as made
use Rattle.typed_core.specs.declared.members.Counts.{Counts}
use Rattle.typed_core.specs.declared.members.Spec.{Spec}
use Rattle.typed_core.specs.declared.members.Members.{Members}
use Rattle.typed_core.specs.declared.members.Built.{Built}
use Rattle.typed_core.specs.declared.members.ClassPart.{ClassPart}
use Rattle.typed_statements.specs.Kinds.{kind_of, param_def, result_def}
use Rattle.typed_statements.specs.Modifiers.{marks_of, modifier_faults, nullness_faults}
use Rattle.typed_statements.specs.Heads.{next, is_object_type, typed_faults, word_faults, field_known, method_known, is_default, world_of, here_of, here_in, params_faults}
use Rattle.typed_statements.specs.Statements.{seen_body}

-- a name that means this declaration, and no earlier one
abbrev pub is_first : Option ℕ → ℕ → Bool
is_first None n = true
is_first (Some i) n = i == n

-- DEFINITIONS OF THE UNIT

abbrev pub field_def : FieldKnown → FieldDef
field_def d = record { name = d.name; class = byte d.class; kind = kind_of d.sort; nullable = d.nullable }

abbrev pub method_def : MethodKnown → Spec → List Sort → List UnitStmt → MethodDef
method_def m spec locals ss =
    record {
      name = m.name;
      class = byte m.class;
      fixed = m.fixed;
      params = map param_def m.params;
      result = option_map result_def m.result;
      locals = map kind_of locals;
      needs = spec.needs;
      gives = spec.gives;
      body = s.Block ss;
    }

-- CLAUSES

abbrev pub clause_of : Typed → Seen Clause
clause_of x = unless (wants Flag x) (record { expr = x.expr })

abbrev pub with_need : Spec → Clause → Spec
with_need spec c = record spec { needs = spec.needs ++ c ∷ [] }

abbrev pub with_give : Spec → Clause → Spec
with_give spec c = record spec { gives = spec.gives ++ c ∷ [] }

-- there are so many clauses of the sort before
abbrev pub many_clauses : ℕ → ℕ → List Fault
many_clauses n at = check (not (n == 255)) at (TooMany many.Clauses)

-- the clauses of a method behind others: so many `requires` and so many `ensures`
abbrev pub seen_clauses : World → Here → ℕ → ℕ → Seen Spec → List ClauseTree → Seen Spec
seen_clauses w h a b so_far [] = so_far
seen_clauses w h a b so_far (needs at e ∷ more) =
    seen_clauses w h (next a) b (over_two so_far (beside (many_clauses a at) (over (seen e (in_clause w h form.Entry [])) clause_of)) (λ spec c. Stands (with_need spec c))) more
seen_clauses w h a b so_far (gives at e ∷ more) =
    seen_clauses w h a (next b) (over_two so_far (beside (many_clauses b at) (over (seen e (in_clause w h form.Exit [])) clause_of)) (λ spec c. Stands (with_give spec c))) more

abbrev pub no_clauses : Spec
no_clauses = record { needs = []; gives = [] }

-- MEMBERS; the counts are those of the members before

abbrev pub field_faults : World → ℕ → Counts → List Modifier → TypeTree → Ident → List Fault
field_faults w n counts mods type i =
    typed_faults w.classes mods type
    ++ (word_faults i
    ++ (check (is_first (place_in w.field_names n i.text) counts.fields) i.at Twice
    ++ (check (not (counts.fields == 64)) i.at (TooMany many.Fields)
    ++ check (not (is_object_type type && counts.references == 32)) i.at (TooMany many.RefFields))))

abbrev pub result_faults : World → List Modifier → Option TypeTree → List Fault
result_faults w mods None = modifier_faults mods ++ nullness_faults false (marks_of mods)
result_faults w mods (Some type) = typed_faults w.classes mods type

abbrev pub method_faults : World → ℕ → Counts → Method → List Fault
method_faults w n counts m =
    result_faults w m.mods m.result
    ++ (word_faults m.name
    ++ (check (is_first (place_in w.method_names n m.name.text) counts.methods) m.name.at Twice
    ++ (check (not (counts.methods == 64)) m.name.at (TooMany many.Methods)
    ++ params_faults w.classes [] m.params)))

abbrev pub seen_method : World → ℕ → Bool → Counts → Method → Seen Made
seen_method w n default counts m =
    beside (method_faults w n counts m)
    (over_two
    (seen_clauses w (here_of (method_known w.classes n default m)) 0 0 (Stands no_clauses) m.spec)
    (seen_body w (here_of (method_known w.classes n default m)) m.body).is
    (λ spec ss.
    Stands (made.Method (method_def (method_known w.classes n default m) spec (seen_body w (here_of (method_known w.classes n default m)) m.body).state.sorts ss))))

abbrev pub seen_part : World → ℕ → Bool → Counts → Part → Seen Made
seen_part w n default counts (invariant at e) =
    over (beside (many_clauses counts.invariants at) (over (seen e (in_clause w (here_in n) form.Entry [])) clause_of)) (λ c. Stands (made.Invariant c))
seen_part w n default counts (field mods type i) =
    unless (field_faults w n counts mods type i) (made.Field (field_def (field_known w.classes n default mods type i)))
seen_part w n default counts (method m) = seen_method w n default counts m

abbrev pub one_more : Bool → ℕ → ℕ
one_more true n = next n
one_more false n = n

abbrev pub reference_count : TypeTree → ℕ → ℕ
reference_count type n = one_more (is_object_type type) n

abbrev pub counted : Counts → Part → Counts
counted counts (invariant at e) = record counts { invariants = next counts.invariants }
counted counts (field mods type i) = record counts { fields = next counts.fields; references = reference_count type counts.references }
counted counts (method m) = record counts { methods = next counts.methods }

abbrev pub with_made : Members → Made → Members
with_made ms (made.Invariant c) = record ms { invariants = ms.invariants ++ c ∷ [] }
with_made ms (made.Field d) = record ms { fields = ms.fields ++ d ∷ [] }
with_made ms (made.Method d) = record ms { methods = ms.methods ++ d ∷ [] }

abbrev pub no_members : Members
no_members = record { invariants = []; fields = []; methods = [] }

abbrev pub counted_parts : Counts → List Part → Counts
counted_parts counts [] = counts
counted_parts counts (p ∷ ps) = counted_parts (counted counts p) ps

abbrev pub seen_parts : World → ℕ → Bool → Counts → Seen Members → List Part → Seen Members
seen_parts w n default counts so_far [] = so_far
seen_parts w n default counts so_far (p ∷ ps) =
    seen_parts w n default (counted counts p) (over_two so_far (seen_part w n default counts p) (λ ms m. Stands (with_made ms m))) ps

-- CLASSES; `n` is the number of the class

abbrev pub class_faults : World → ℕ → Class → List Fault
class_faults w n c =
    modifier_faults c.mods
    ++ (word_faults c.name
    ++ (check (is_first (place_in w.classes 0 c.name.text) n) c.name.at Twice ++ check (not (n == 16)) c.name.at (TooMany many.Classes)))

abbrev pub fresh_class : Counts → Counts
fresh_class counts = record counts { invariants = 0 }

abbrev pub seen_class : World → ℕ → Counts → Class → Seen Members
seen_class w n counts c = beside (class_faults w n c) (seen_parts w n (is_default c.mods) (fresh_class counts) (Stands no_members) c.members)

abbrev pub with_class : Built → Class → Members → Built
with_class b c ms =
    record {
      classes = b.classes ++ record { name = c.name.text; invariants = ms.invariants } ∷ [];
      fields = b.fields ++ ms.fields;
      methods = b.methods ++ ms.methods;
    }

abbrev pub seen_classes : World → ℕ → Counts → Seen Built → Classes → Seen Built
seen_classes w n counts so_far [] = so_far
seen_classes w n counts so_far (c ∷ cs) =
    seen_classes w (next n) (counted_parts (fresh_class counts) c.members) (over_two so_far (seen_class w n counts c) (λ b ms. Stands (with_class b c ms))) cs

-- THE UNIT

-- those of these places, counted from `n` on, at which the owner stands
abbrev pub numbers_of : ℕ → ℕ → List ℕ → List ℕ
numbers_of owner n [] = []
numbers_of owner n (o ∷ os) = cond (o == owner) (n ∷ numbers_of owner (n + 1) os) (numbers_of owner (n + 1) os)

-- the class of this number with the numbers of its fields and methods
abbrev pub class_def : List FieldDef → List MethodDef → ℕ → ClassPart → ClassDef
class_def fs ms n c = record { name = c.name; fields = numbers_of n 0 (map (λ (d : FieldDef). d.class) fs); methods = numbers_of n 0 (map (λ (d : MethodDef). d.class) ms); invariants = c.invariants }

abbrev pub class_defs : List FieldDef → List MethodDef → ℕ → List ClassPart → List ClassDef
class_defs fs ms n [] = []
class_defs fs ms n (c ∷ cs) = class_def fs ms n c ∷ class_defs fs ms (n + 1) cs

abbrev pub unit_of : Built → Parts
unit_of b = record { classes = class_defs b.fields b.methods 0 b.classes; fields = b.fields; methods = b.methods }

abbrev pub nothing_built : Built
nothing_built = record { classes = []; fields = []; methods = [] }

abbrev pub no_counts : Counts
no_counts = record { fields = 0; references = 0; methods = 0; invariants = 0 }

abbrev pub seen_text : Classes → Seen Built
seen_text cs = seen_classes (world_of cs) 0 no_counts (Stands nothing_built) cs

-- what a text stands for: its unit, or its faults
abbrev pub resolved : Classes → Seen Parts
resolved cs = over (seen_text cs) (λ b. Stands (unit_of b))
