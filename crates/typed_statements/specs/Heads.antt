-- What is declared in a text: its classes, fields and methods in text order. (Java Language Specification, "Names", "Classes".)
use Rattle.std.specs.Prelude.{ℕ, ◌+◌, ◌-◌, ◌^◌, min, ◌==◌, Bool, true, false, not, List, [], ◌∷◌, ◌++◌, length, map, Option, None, option_map, is_some, is_none}
use Rattle.java_tree.specs.declared.names.Ident.{Ident}
use Rattle.java_tree.specs.declared.names.Modifier.{Modifier}
use Rattle.java_tree.specs.declared.names.TypeTree.{TypeTree}
use Rattle.java_tree.specs.declared.names.TypeTree.TheVariants as type
use Rattle.java_tree.specs.Trees.{Param, Method, Part, invariant, field, method, Classes}
use Rattle.taco_unit.specs.Words.{is_word}
use Rattle.declared_names.specs.declared.fault.Fault.{Fault}
use Rattle.refusals.specs.declared.refusal.Many.TheVariants.{Params}
use Rattle.declared_names.specs.declared.fault.Cause.TheVariants.{Unknown, Twice, TooMany}
use Rattle.declared_names.specs.declared.sort.Sort.{Sort}
use Rattle.declared_names.specs.declared.sort.Sort.TheVariants.{Int, Flag}
use Rattle.declared_names.specs.declared.world.World.{World}
use Rattle.declared_names.specs.declared.world.Here.{Here}
use Rattle.declared_names.specs.declared.world.FieldKnown.{FieldKnown}
use Rattle.declared_names.specs.declared.world.ParamKnown.{ParamKnown}
use Rattle.declared_names.specs.declared.world.ResultKnown.{ResultKnown}
use Rattle.declared_names.specs.declared.world.MethodKnown.{MethodKnown}
use Rattle.declared_names.specs.Faults.{check}
use Rattle.declared_names.specs.Lookups.{place_in}
use Rattle.typed_forms.specs.Clauses.{class_sort}
use Rattle.typed_statements.specs.Modifiers.{marks_of, modifier_faults, nullness_faults, is_nullable}

-- one more; a count stands still at its type's end
abbrev pub next : ℕ → ℕ
next n = min (n + 1) (2 ^ 64 - 1)

-- names of classes, of which each has 0 as its owner
abbrev pub Names : Type 0
Names = List (ℕ × List ℕ)

-- TYPES

abbrev pub is_object_type : TypeTree → Bool
is_object_type type.Int = false
is_object_type type.Flag = false
is_object_type (type.Class i) = true

-- the kind of a type; that of an unknown class is not known
abbrev pub type_sort : Names → TypeTree → Sort
type_sort names type.Int = Int
type_sort names type.Flag = Flag
type_sort names (type.Class i) = class_sort (place_in names 0 i.text)

abbrev pub type_faults : Names → TypeTree → List Fault
type_faults names type.Int = []
type_faults names type.Flag = []
type_faults names (type.Class i) = check (is_some (place_in names 0 i.text)) i.at Unknown

-- modifiers with a type
abbrev pub typed_faults : Names → List Modifier → TypeTree → List Fault
typed_faults names mods kind = modifier_faults mods ++ (type_faults names kind ++ nullness_faults (is_object_type kind) (marks_of mods))

-- FIELDS, PARAMETERS, METHODS; `default` says that their class is nullable by default

abbrev pub field_known : Names → ℕ → Bool → List Modifier → TypeTree → Ident → FieldKnown
field_known names owner default mods kind i =
    record { name = i.text; class = owner; sort = type_sort names kind; nullable = is_nullable default (is_object_type kind) (marks_of mods) }

abbrev pub param_known : Names → Bool → Param → ParamKnown
param_known names default p =
    record { name = p.name.text; sort = type_sort names p.kind; nullable = is_nullable default (is_object_type p.kind) (marks_of p.mods) }

abbrev pub result_known : Names → Bool → Method → Option ResultKnown
result_known names default m =
    option_map (λ kind. record { sort = type_sort names kind; nullable = is_nullable default (is_object_type kind) (marks_of m.mods) }) m.result

abbrev pub method_known : Names → ℕ → Bool → Method → MethodKnown
method_known names owner default m =
    record {
      name = m.name.text;
      class = owner;
      fixed = is_some (marks_of m.mods).fixed;
      params = map (param_known names default) m.params;
      result = result_known names default m;
    }

-- the class is nullable by default
abbrev pub is_default : List Modifier → Bool
is_default mods = is_some (marks_of mods).nullable_by_default

-- THE WORLD, part by part

abbrev pub with_field : World → FieldKnown → World
with_field w d = record w { field_names = w.field_names ++ (d.class, d.name) ∷ []; fields = w.fields ++ d ∷ [] }

abbrev pub with_method : World → MethodKnown → World
with_method w m = record w { method_names = w.method_names ++ (m.class, m.name) ∷ []; methods = w.methods ++ m ∷ [] }

-- `n` is the number of the class
abbrev pub with_part : ℕ → Bool → World → Part → World
with_part n default w (invariant at e) = w
with_part n default w (field mods kind i) = with_field w (field_known w.classes n default mods kind i)
with_part n default w (method m) = with_method w (method_known w.classes n default m)

abbrev pub with_parts : ℕ → Bool → World → List Part → World
with_parts n default w [] = w
with_parts n default w (p ∷ ps) = with_parts n default (with_part n default w p) ps

abbrev pub with_classes : ℕ → World → Classes → World
with_classes n w [] = w
with_classes n w (c ∷ cs) = with_classes (next n) (with_parts n (is_default c.mods) w c.members) cs

abbrev pub class_names : Classes → Names
class_names cs = map (λ c. (0, c.name.text)) cs

abbrev pub bare_world : Names → World
bare_world names = record { classes = names; field_names = []; fields = []; method_names = []; methods = [] }

-- all that is declared in the classes of a text, in text order
abbrev pub world_of : Classes → World
world_of cs = with_classes 0 (bare_world (class_names cs)) cs

-- the class and the method that code and clauses of a method stand in
abbrev pub here_of : MethodKnown → Here
here_of m =
    record {
      class = m.class;
      fixed = m.fixed;
      params = map (λ p. (0, p.name)) m.params;
      sorts = map (λ p. p.sort) m.params;
      result = option_map (λ r. r.sort) m.result;
    }

-- what an invariant of the class of this number stands in
abbrev pub here_in : ℕ → Here
here_in owner = record { class = owner; fixed = false; params = []; sorts = []; result = None }

-- a name that is declared and is no word; no text has one
abbrev pub word_faults : Ident → List Fault
word_faults i = check (is_word i.text) i.at Unknown

-- FAULTS OF PARAMETERS: a name that is there already, the ninth

abbrev pub param_faults : Names → Names → Param → List Fault
param_faults names before p =
    typed_faults names p.mods p.kind
    ++ (word_faults p.name ++ (check (is_none (place_in before 0 p.name.text)) p.name.at Twice ++ check (not (length before == 8)) p.name.at (TooMany Params)))

abbrev pub params_faults : Names → Names → List Param → List Fault
params_faults names before [] = []
params_faults names before (p ∷ more) = param_faults names before p ++ params_faults names (before ++ (0, p.name.text) ∷ []) more
