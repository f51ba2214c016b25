-- What a member of a class is by its first token.
use Rattle.std.specs.Prelude.{Bool, true, false, Option, Some, None}
use Rattle.java_lex.specs.declared.spelling.Terminal.TheVariants as terminal
use Rattle.java_lex.specs.declared.token.Token.{Token}
use Rattle.java_tree.specs.Phrases.{Letter, letter}
use Rattle.java_reading.specs.declared.part_form.PartForm.{PartForm}
use Rattle.java_reading.specs.declared.part_form.PartForm.TheVariants as form

abbrev pub part_form_of : Letter → PartForm
part_form_of (false, terminal.Semicolon) = form.Empty
part_form_of (true, terminal.Public) = form.Visible
part_form_of (true, terminal.Protected) = form.Visible
part_form_of (true, terminal.Private) = form.Visible
part_form_of (true, terminal.Invariant) = form.Invariant
part_form_of (true, terminal.NormalBehavior) = form.Normal
part_form_of (true, terminal.Requires) = form.Clause
part_form_of (true, terminal.Ensures) = form.Clause
part_form_of (false, terminal.Public) = form.Plain
part_form_of (false, terminal.Protected) = form.Plain
part_form_of (false, terminal.Private) = form.Plain
part_form_of (false, terminal.Final) = form.Plain
part_form_of (false, terminal.Static) = form.Plain
part_form_of (false, terminal.Void) = form.Plain
part_form_of (false, terminal.Int) = form.Plain
part_form_of (false, terminal.Boolean) = form.Plain
part_form_of (false, terminal.Name) = form.Plain
part_form_of (true, terminal.Nullable) = form.Plain
part_form_of (true, terminal.NonNull) = form.Plain
part_form_of (true, terminal.SpecPublic) = form.Plain
part_form_of (true, terminal.SpecProtected) = form.Plain
part_form_of x = form.None

abbrev pub is_part : PartForm → Bool
is_part form.None = false
is_part f = true

abbrev pub head_part : Option Token → PartForm
head_part None = form.None
head_part (Some t) = part_form_of (letter t)

abbrev pub begins_part : Option Token → Bool
begins_part h = is_part (head_part h)
