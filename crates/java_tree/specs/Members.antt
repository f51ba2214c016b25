-- The grammar of members, classes and texts, production by production. (Java Language Specification, "Packages and
-- Modules", "Classes"; JML Reference Manual, "Type Specifications", "Method Specifications".)
--
--     Unit      = [ Package ] { Import } Class { Class }
--     Package   = "package" Name { "." Name } ";"
--     Import    = "import" [ "static" ] Name { "." Name } [ "." "*" ] ";"
--     Class     = { ClassMod } "class" Name "{" { Member } "}"
--     ClassMod  = "public" | "final" | j"nullable_by_default" | j"non_null_by_default" | j"spec_public"
--     Member    = ";" | Invariant | Field | Method
--     JVis      = j"public" | j"protected" | j"private"
--     Invariant = [ JVis ] j"invariant" JExpr j";"
--     Mod       = "public" | "protected" | "private" | "final" | Null | j"spec_public" | j"spec_protected"
--     Field     = { Mod } Type Name { "," Name } ";"
--     Method    = [ Spec ] { Mod | "static" } ( "void" | Type ) Name "(" [ Param { "," Param } ] ")" Block
--     Spec      = [ JVis ] Normal { SpecPart } | SpecPart { SpecPart }
--     Normal    = j"normal_behavior" | j"normal_behaviour"
--     SpecPart  = ( j"requires" | j"ensures" ) JExpr j";"
--     Param     = { "final" | Null } Type Name
use Rattle.std.specs.Prelude.{◌≡◌, Bool, true, false, List, [], ◌∷◌, Option, None, Some, map}
use Rattle.std.specs.List.{flat_map}
use Rattle.java_lex.specs.declared.spelling.Terminal.TheVariants as terminal
use Rattle.java_tree.specs.declared.names.Ident.{Ident}
use Rattle.java_tree.specs.declared.names.Modifier.{Modifier}
use Rattle.java_tree.specs.declared.names.TypeTree.{TypeTree}
use Rattle.java_tree.specs.Trees.{Clause, needs, gives, Param, Method, Part, invariant, field, method, Class, Classes}
use Rattle.java_tree.specs.Phrases.{Letter, java, jml, Phrase, Limit, ◌▸◌, nothing, either, maybe, many, where_, one, one_at, name, any_name, closed}
use Rattle.java_tree.specs.Expressions.{predicate}
use Rattle.java_tree.specs.Statements.{is_null, is_local_modifier, modifiers, type_of, statements}

abbrev pub is_class_modifier : Letter → Bool
is_class_modifier (false, terminal.Public) = true
is_class_modifier (false, terminal.Final) = true
is_class_modifier (true, terminal.NullableByDefault) = true
is_class_modifier (true, terminal.NonNullByDefault) = true
is_class_modifier (true, terminal.SpecPublic) = true
is_class_modifier x = false

-- Mod
abbrev pub is_modifier : Letter → Bool
is_modifier (false, terminal.Public) = true
is_modifier (false, terminal.Protected) = true
is_modifier (false, terminal.Private) = true
is_modifier (false, terminal.Final) = true
is_modifier (true, terminal.SpecPublic) = true
is_modifier (true, terminal.SpecProtected) = true
is_modifier x = is_null x

-- Mod | "static"
abbrev pub is_method_modifier : Letter → Bool
is_method_modifier (false, terminal.Static) = true
is_method_modifier x = is_modifier x

-- JVis
abbrev pub visibility : Phrase
visibility = either (one (jml terminal.Public)) (either (one (jml terminal.Protected)) (one (jml terminal.Private)))

-- Param
abbrev pub parameter : Param → Phrase
parameter p = modifiers is_local_modifier p.mods ▸ type_of p.kind ▸ name false p.name

abbrev pub more_parameters : List Param → Phrase
more_parameters [] = nothing
more_parameters (p ∷ ps) = one (java terminal.Comma) ▸ parameter p ▸ more_parameters ps

-- [ Param { "," Param } ]
abbrev pub parameters : List Param → Phrase
parameters [] = nothing
parameters (p ∷ ps) = parameter p ▸ more_parameters ps

-- "void" | Type
abbrev pub result_of : Option TypeTree → Phrase
result_of None = one (java terminal.Void)
result_of (Some kind) = type_of kind

-- a Member as it is written: a declaration of fields has one or more names
pub data Written : Type 0 where
  empty : Written
  one_part : Part → Written
  fields : List Modifier → TypeTree → Ident → List Ident → Written

-- the members of the tree that it stands for: none, itself, or a field for each name
abbrev pub parts_of : Written → List Part
parts_of empty = []
parts_of (one_part p) = p ∷ []
parts_of (fields mods kind i is) = map (field mods kind) (i ∷ is)

-- { "," Name }
abbrev pub more_names : List Ident → Phrase
more_names [] = nothing
more_names (i ∷ is) = one (java terminal.Comma) ▸ name false i ▸ more_names is

-- Name { "." Name }
abbrev pub dotted : Phrase
dotted = any_name false ▸ many (one (java terminal.Dot) ▸ any_name false)

-- Package
abbrev pub package_line : Phrase
package_line = one (java terminal.Package) ▸ dotted ▸ one (java terminal.Semicolon)

-- Import
abbrev pub import_line : Phrase
import_line =
    one (java terminal.Import) ▸ maybe (one (java terminal.Static)) ▸ dotted
    ▸ maybe (one (java terminal.Dot) ▸ one (java terminal.Times)) ▸ one (java terminal.Semicolon)

-- May: which levels may be opened
module _ (May : Limit) where
  -- SpecPart
  abbrev pub clause : Clause → Phrase
  clause (needs at e) = one_at (jml terminal.Requires) at ▸ predicate May e ▸ one (jml terminal.Semicolon)
  clause (gives at e) = one_at (jml terminal.Ensures) at ▸ predicate May e ▸ one (jml terminal.Semicolon)

  -- { SpecPart }
  abbrev pub clauses : List Clause → Phrase
  clauses [] = nothing
  clauses (c ∷ cs) = clause c ▸ clauses cs

  -- SpecPart { SpecPart }
  abbrev pub some_clauses : List Clause → Phrase
  some_clauses [] = where_ ⊥ nothing
  some_clauses (c ∷ cs) = clauses (c ∷ cs)

  -- [ Spec ]
  abbrev pub specification : List Clause → Phrase
  specification cs = either (where_ (cs ≡ []) nothing) (either (maybe visibility ▸ one (jml terminal.NormalBehavior) ▸ clauses cs) (some_clauses cs))

  -- Method; the braces of its body open no level, and the levels are counted anew in each body
  abbrev pub procedure : Method → Phrase
  procedure m =
      specification m.spec ▸ modifiers is_method_modifier m.mods ▸ result_of m.result ▸ name false m.name
      ▸ one (java terminal.OpenParen) ▸ parameters m.params ▸ one (java terminal.CloseParen)
      ▸ one (java terminal.OpenBrace) ▸ closed (statements May m.body) ▸ one (java terminal.CloseBrace)

  -- Invariant or Method
  abbrev pub part : Part → Phrase
  part (invariant at e) = maybe visibility ▸ one_at (jml terminal.Invariant) at ▸ predicate May e ▸ one (jml terminal.Semicolon)
  part (field mods kind i) = where_ ⊥ nothing
  part (method m) = procedure m

  -- Member
  abbrev pub member : Written → Phrase
  member empty = one (java terminal.Semicolon)
  member (one_part p) = part p
  member (fields mods kind i is) = modifiers is_modifier mods ▸ type_of kind ▸ name false i ▸ more_names is ▸ one (java terminal.Semicolon)

  -- { Member }
  abbrev pub members : List Written → Phrase
  members [] = nothing
  members (w ∷ ws) = member w ▸ members ws

  -- Class
  abbrev pub class_body : List Part → Phrase
  class_body parts l ts k rest = (written : List Written) × (parts ≡ flat_map parts_of written) × members written l ts k rest

  abbrev pub class : Class → Phrase
  class c =
      modifiers is_class_modifier c.mods ▸ one (java terminal.Class) ▸ name false c.name
      ▸ one (java terminal.OpenBrace) ▸ class_body c.members ▸ one (java terminal.CloseBrace)

  -- Class { Class }
  abbrev pub classes : List Class → Phrase
  classes [] = nothing
  classes (c ∷ cs) = class c ▸ classes cs

  -- Unit
  abbrev pub unit : Classes → Phrase
  unit [] = where_ ⊥ nothing
  unit (c ∷ cs) = maybe package_line ▸ many import_line ▸ classes (c ∷ cs)

  -- a whole text: its tokens end with the end
  abbrev pub text : Classes → Phrase
  text cs = unit cs ▸ one (java terminal.End)
