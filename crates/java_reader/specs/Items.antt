-- The parts that stand in lists, each with what parts it from the one before.
use Rattle.std.specs.Prelude.{ℕ, false, List, ◌∷◌}
use Rattle.java_tree.specs.declared.names.Ident.{Ident}
use Rattle.java_tree.specs.Trees.{Decl, Param}
use Rattle.java_reading.specs.declared.marks.Fixed.TheVariants.{Comma, Dot}
use Rattle.java_reading.specs.Readers.{Reader, give, second, and_then, repeat}
use Rattle.java_reading.specs.Tokens.{fixed, name_in, next_is}
use Rattle.java_reading.specs.StatementReading.{declaration_in}
use Rattle.java_reading.specs.MemberReading.{parameter_in, more_parameters_in}
use Rattle.text_reading.specs.Readers.{expression_at, arguments_at}

-- "," Decl
abbrev pub comma_declaration_in : ℕ → Reader Decl
comma_declaration_in left ts = second (and_then (fixed false Comma ts) (λ x. declaration_in expression_at arguments_at left))

-- "," Name
abbrev pub comma_name_in : Reader Ident
comma_name_in ts = second (and_then (fixed false Comma ts) (λ u. name_in false))

-- "." Name
abbrev pub dot_name_in : Reader Ident
dot_name_in ts = second (and_then (fixed false Dot ts) (λ u. name_in false))

-- "," Param
abbrev pub comma_parameter_in : Reader Param
comma_parameter_in ts = second (and_then (fixed false Comma ts) (λ u. parameter_in))

-- Param { "," Param }
abbrev pub some_parameters_in : Reader (List Param)
some_parameters_in ts = give (λ x. x.0 ∷ x.1) (and_then (parameter_in ts) (λ p. more_parameters_in))

-- { "," Name }
abbrev pub more_names_in : Reader (List Ident)
more_names_in = repeat (next_is false Comma) comma_name_in
