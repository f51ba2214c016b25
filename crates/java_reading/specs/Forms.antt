-- What a statement is by its first token.
use Rattle.std.specs.Prelude.{Bool, true, false, Option, Some, None}
use Rattle.java_lex.specs.declared.spelling.Terminal.TheVariants as terminal
use Rattle.java_lex.specs.declared.token.Token.{Token}
use Rattle.java_tree.specs.Phrases.{Letter, letter}
use Rattle.java_reading.specs.declared.form.Form.{Form}
use Rattle.java_reading.specs.declared.form.Form.TheVariants as form

abbrev pub form_of : Letter → Form
form_of (false, terminal.OpenBrace) = form.Block
form_of (false, terminal.Semicolon) = form.Blank
form_of (false, terminal.If) = form.If
form_of (false, terminal.While) = form.While
form_of (false, terminal.Return) = form.Return
form_of (false, terminal.Int) = form.Local
form_of (false, terminal.Boolean) = form.Local
form_of (false, terminal.Final) = form.Local
form_of (true, terminal.Nullable) = form.Local
form_of (true, terminal.NonNull) = form.Local
form_of (false, terminal.Name) = form.Name
form_of (false, terminal.This) = form.This
form_of x = form.None

abbrev pub is_some_form : Form → Bool
is_some_form form.None = false
is_some_form f = true

abbrev pub begins_statement : Option Token → Bool
begins_statement None = false
begins_statement (Some t) = is_some_form (form_of (letter t))
