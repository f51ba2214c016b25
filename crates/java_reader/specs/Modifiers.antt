-- Which modifiers may stand where.
use Rattle.std.specs.Prelude.{Bool, false, Option, Some, None}
use Rattle.java_lex.specs.declared.token.Token.{Token}
use Rattle.java_tree.specs.Phrases.{Letter, letter}
use Rattle.java_tree.specs.Statements.{is_local_modifier}
use Rattle.java_tree.specs.Members.{is_class_modifier, is_method_modifier}
use Rattle.java_reader.specs.declared.modifiers.Modified.{Modified}
use Rattle.java_reader.specs.declared.modifiers.Modified.TheVariants.{Local, Member, Class}

abbrev pub allowed_at : Modified → Letter → Bool
allowed_at Local = is_local_modifier
allowed_at Member = is_method_modifier
allowed_at Class = is_class_modifier

abbrev pub begins_modifier : Modified → Option Token → Bool
begins_modifier modified None = false
begins_modifier modified (Some t) = allowed_at modified (letter t)
