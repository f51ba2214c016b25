-- Reading members, classes and texts.
use Rattle.std.specs.Prelude.{ℕ, zero, suc, Bool, true, false, ◌||◌, not, List, [], ◌∷◌, length, Option, Some, None}
use Rattle.std.specs.List.{flat_map, list_any}
use Rattle.java_lex.specs.declared.spelling.Terminal.{Terminal}
use Rattle.java_lex.specs.declared.spelling.Terminal.TheVariants as terminal
use Rattle.java_lex.specs.declared.token.Token.{Token}
use Rattle.java_tree.specs.declared.names.Ident.{Ident}
use Rattle.java_tree.specs.declared.names.ModWord.{ModWord}
use Rattle.java_tree.specs.declared.names.ModWord.TheVariants.{Static as StaticWord, Nullable, NonNull, NullableByDefault, NonNullByDefault}
use Rattle.java_tree.specs.declared.names.Modifier.{Modifier}
use Rattle.java_tree.specs.declared.names.TypeTree.{TypeTree}
use Rattle.java_tree.specs.Trees.{Expr, Exprs, Stmt, Clause, needs, gives, Param, invariant, method, Class, Classes}
use Rattle.java_tree.specs.Phrases.{letter}
use Rattle.java_tree.specs.Statements.{is_local_modifier}
use Rattle.java_tree.specs.Members.{is_class_modifier, is_method_modifier, Written, empty, one_part, fields, parts_of}
use Rattle.reading_core.specs.Read.{Read, Got, Bad, ◌>>=◌, at_side}
use Rattle.java_reading.specs.declared.marks.Fixed.TheVariants.{OpenBrace, CloseBrace, OpenParen, CloseParen, Semicolon, Comma, Dot, Class as ClassWord, Package, Import, Static, Times, Invariant, NormalBehavior, End}
use Rattle.java_reading.specs.Readers.{Reader, head, give, first, second, and_then, taken, repeat, optional}
use Rattle.java_reading.specs.Tokens.{stands, fixed, fixed_at, name_in, next_is, at_head}
use Rattle.java_reading.specs.StatementReading.{modifiers_in, is_type, type_by, type_in, statements_in, stmts_of}
use Rattle.java_reading.specs.declared.part_form.PartForm.{PartForm}
use Rattle.java_reading.specs.declared.part_form.PartForm.TheVariants as form
use Rattle.java_reading.specs.PartForms.{part_form_of, begins_part}

-- DOTTED NAMES

-- Name { "." Name }
abbrev pub dotted_in : Reader (Unit {0})
dotted_in ts = give (λ x. tt {0}) (and_then (name_in false ts) (λ i. repeat (next_is false Dot) (λ ts. second (and_then (fixed false Dot ts) (λ u. name_in false)))))

-- Package
abbrev pub package_in : Reader (Unit {0})
package_in ts = give (λ x. tt {0}) (and_then (fixed false Package ts) (λ u ts. and_then (dotted_in ts) (λ u. fixed false Semicolon)))

-- { "." Name } [ "." "*" ] ";", with at most so many names
abbrev pub import_tail_by : ℕ → Reader (Unit {0})
import_tail_by zero ts = Bad ts
import_tail_by (suc n) ts =
    elim (next_is false Dot (head ts)) [
      | true ↦ fixed false Dot ts >>= (λ u mid. elim (next_is false Times (head mid)) [ true ↦ fixed false Times mid >>= (λ v. fixed false Semicolon) | false ↦ name_in false mid >>= (λ i. import_tail_by n) ])
      | false ↦ fixed false Semicolon ts
    ]

-- Import
abbrev pub import_in : Reader (Unit {0})
import_in ts =
    fixed false Import ts
    >>= (λ u rest. optional (next_is false Static) (fixed false Static) rest
    >>= (λ o rest. name_in false rest
    >>= (λ i rest. import_tail_by (suc (length rest)) rest)))

-- CLAUSES

-- `requires` (true) or `ensures`, and its place
abbrev pub is_clause : Terminal → Bool
is_clause terminal.Requires = true
is_clause terminal.Ensures = true
is_clause x = false

abbrev pub is_requires : Terminal → Bool
is_requires terminal.Requires = true
is_requires x = false

abbrev pub clause_word_in : Reader (Bool × ℕ)
clause_word_in = taken (λ t. is_clause (at_side true t)) (λ t. (is_requires (at_side true t), t.from))

abbrev pub clause_of : Bool → ℕ → Expr → Clause
clause_of true at e = needs at e
clause_of false at e = gives at e

-- a modifier that a field has not
abbrev pub is_static : ModWord → Bool
is_static StaticWord = true
is_static Nullable = false
is_static NonNull = false
is_static NullableByDefault = false
is_static NonNullByDefault = false

abbrev pub has_static : List Modifier → Bool
has_static mods = list_any (λ m. is_static m.word) mods

abbrev pub is_result : Terminal → Bool
is_result terminal.Void = true
is_result x = is_type x

abbrev pub result_by : Terminal → Token → Option TypeTree
result_by terminal.Void t = None
result_by x t = Some (type_by x t)

-- "void" | Type
abbrev pub result_in : Reader (Option TypeTree)
result_in = taken (λ t. is_result (at_side false t)) (λ t. result_by (at_side false t) t)

-- Param
abbrev pub parameter_in : Reader Param
parameter_in ts = give (λ x. record { mods = x.0; kind = x.1.0; name = x.1.1 }) (and_then (modifiers_in is_local_modifier ts) (λ mods ts. and_then (type_in ts) (λ kind. name_in false)))

abbrev pub more_parameters_in : Reader (List Param)
more_parameters_in = repeat (next_is false Comma) (λ ts. second (and_then (fixed false Comma ts) (λ u. parameter_in)))

abbrev pub not_close : Option Token → Bool
not_close h = not (next_is false CloseParen h)

abbrev pub listed : Option (List Param) → List Param
listed None = []
listed (Some ps) = ps

-- [ Param { "," Param } ]
abbrev pub parameters_in : Reader (List Param)
parameters_in ts = give listed (optional not_close (λ ts. give (λ x. x.0 ∷ x.1) (and_then (parameter_in ts) (λ p. more_parameters_in))) ts)

-- { "," Name } ";"
abbrev pub names_in : Reader (List Ident)
names_in ts = first (and_then (repeat (next_is false Comma) (λ ts. second (and_then (fixed false Comma ts) (λ u. name_in false))) ts) (λ is. fixed false Semicolon))

module _ (expression : ℕ → Reader Expr) (arguments : ℕ → Reader Exprs) (predicate : ℕ → Reader Expr) (left : ℕ) where
  -- SpecPart
  abbrev pub clause_in : Reader Clause
  clause_in ts = give (λ x. clause_of x.0.0 x.0.1 x.1.0) (and_then (clause_word_in ts) (λ w ts. and_then (predicate left ts) (λ e. fixed true Semicolon)))

  -- { SpecPart }
  abbrev pub clauses_in : Reader (List Clause)
  clauses_in = repeat (λ h. is_clause (at_head true h)) clause_in

  -- Invariant, without its visibility
  abbrev pub invariant_in : Reader Written
  invariant_in ts = give (λ x. one_part (invariant x.0 x.1.0)) (and_then (fixed_at true Invariant ts) (λ at ts. and_then (predicate left ts) (λ e. fixed true Semicolon)))

  -- "(" [ Param { "," Param } ] ")" "{" { Stmt } "}"
  abbrev pub body_in : Reader (List Param × List Stmt)
  body_in ts =
      give (λ x. (x.1.0, x.1.1.1.1.0))
      (and_then (fixed false OpenParen ts) (λ u ts. and_then (parameters_in ts) (λ ps ts. and_then (fixed false CloseParen ts) (λ u ts. and_then (fixed false OpenBrace ts) (λ u ts. and_then (statements_in expression arguments left ts) (λ ss. fixed false CloseBrace))))))

  -- A method, behind its name
  abbrev pub method_in : List Clause → List Modifier → Option TypeTree → Ident → Reader Written
  method_in spec mods result i ts = give (λ x. one_part (method (record { spec = spec; mods = mods; result = result; name = i; params = x.0; body = stmts_of x.1 }))) (body_in ts)

  -- specified: whether a specification stands before it
  -- what stands behind the name of a field or of a method
  abbrev pub named_part_in : Bool → List Clause → List Modifier → Option TypeTree → Ident → Reader Written
  named_part_in specified spec mods None i ts = method_in spec mods None i ts
  named_part_in specified spec mods (Some kind) i ts =
      elim (specified || has_static mods || next_is false OpenParen (head ts)) [ true ↦ method_in spec mods (Some kind) i ts | false ↦ give (fields mods kind i) (names_in ts) ]

  -- { Mod | "static" } ( "void" | Type ) Name ..
  abbrev pub declared_part_in : Bool → List Clause → Reader Written
  declared_part_in specified spec ts =
      modifiers_in is_method_modifier ts >>= (λ mods rest. result_in rest >>= (λ result rest. name_in false rest >>= (λ i rest. named_part_in specified spec mods result i rest)))

  -- Normal { SpecPart } and a method
  abbrev pub normal_in : Reader Written
  normal_in ts = fixed true NormalBehavior ts >>= (λ u rest. clauses_in rest >>= (λ spec rest. declared_part_in true spec rest))

  -- SpecPart { SpecPart } and a method
  abbrev pub specified_in : Reader Written
  specified_in ts = clauses_in ts >>= (λ spec rest. declared_part_in true spec rest)

  -- behind a visibility in an annotation
  abbrev pub visible_in : Reader Written
  visible_in ts = elim (next_is true Invariant (head ts)) [ true ↦ invariant_in ts | false ↦ normal_in ts ]

  abbrev pub part_by_form : PartForm → Token → List Token → Read Written
  part_by_form form.Empty t ts = Got empty ts
  part_by_form form.Visible t ts = visible_in ts
  part_by_form form.Invariant t ts = invariant_in (t ∷ ts)
  part_by_form form.Normal t ts = normal_in (t ∷ ts)
  part_by_form form.Clause t ts = specified_in (t ∷ ts)
  part_by_form form.Plain t ts = declared_part_in false [] (t ∷ ts)
  part_by_form form.None t ts = Bad (t ∷ ts)

  -- Member
  abbrev pub member_in : Reader Written
  member_in [] = Bad []
  member_in (t ∷ ts) = part_by_form (part_form_of (letter t)) t ts

  -- { Member }
  abbrev pub members_in : Reader (List Written)
  members_in = repeat begins_part member_in

  -- Class
  abbrev pub class_in : Reader Class
  class_in ts =
      give (λ x. record { mods = x.0; name = x.1.1.0; members = flat_map parts_of x.1.1.1.1.0 })
      (and_then (modifiers_in is_class_modifier ts) (λ mods ts. and_then (fixed false ClassWord ts) (λ u ts. and_then (name_in false ts) (λ i ts. and_then (fixed false OpenBrace ts) (λ u ts. and_then (members_in ts) (λ ws. fixed false CloseBrace))))))

  abbrev pub begins_class : Option Token → Bool
  begins_class None = false
  begins_class (Some t) = is_class_modifier (letter t) || stands false ClassWord t

  -- Class { Class }
  abbrev pub classes_in : Reader Classes
  classes_in ts = give (λ x. x.0 ∷ x.1) (and_then (class_in ts) (λ c. repeat begins_class class_in))

  -- Unit
  abbrev pub unit_in : Reader Classes
  unit_in ts = optional (next_is false Package) package_in ts >>= (λ o rest. repeat (next_is false Import) import_in rest >>= (λ us rest. classes_in rest))

  -- a whole text
  abbrev pub text_in : Reader Classes
  text_in ts = first (and_then (unit_in ts) (λ cs. fixed false End))
