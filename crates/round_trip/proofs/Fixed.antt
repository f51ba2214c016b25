-- The words and symbols that mean something by themselves: what they are to the grammar, and that a text can hold them.
use Rattle.std.proofs.Common.{ℕ, ◌+◌, Bool, true, false, List, [], ◌∷◌, ◌++◌, length, refl, lit<}
use Rattle.java_lex.specs.declared.spelling.Terminal.TheVariants as terminal
use Rattle.java_lex.specs.declared.token.TokenKind.TheVariants as kind
use Rattle.java_lex.specs.declared.words.TheConstants.{AND, ASSIGN, AT_LEAST, AT_MOST, BOOLEAN, CLASS, CLOSE_BRACE, CLOSE_PAREN, COMMA, DECREMENT, DOT, ELSE, ENSURES, EQUAL, EXISTS, FALSE, FORALL, GREATER, HAS, IF, IFF, IMPLIES, INCREMENT, INT, INT_SIZE, INVARIANT, LESS, MINUS, NEW, NON_NULL, NON_NULL_BY_DEFAULT, NOT, NOT_EQUAL, NULL, NULLABLE, NULLABLE_BY_DEFAULT, OLD, OPEN_BRACE, OPEN_PAREN, OR, PLUS, REACH, REQUIRES, RESULT_VALUE, RETURN, SEMICOLON, STATIC, THIS, TIMES, TRUE, VOID, WHILE}
use Rattle.java_lex.specs.declared.token.TokenKind.{TokenKind}
use Rattle.java_lex.specs.Fronts.{token_front}
use Rattle.java_lex.specs.Cut.{IsPlain, IsInside}
use Rattle.java_lex.proofs.Notes.{Starts, inside_text}
use Rattle.java_tree.specs.Print.{bytes_of}
use Rattle.round_trip.proofs.Redo.{Fixed}

in_note : (k : TokenKind) (at : ℕ) (rest : List ℕ) → Starts (bytes_of k ++ 32 ∷ rest)
    → IsPlain true (token_front true (bytes_of k ++ 32 ∷ rest)) at (bytes_of k ++ 32 ∷ rest) (length (bytes_of k)) (record { kind = k; jml = true; from = at; to = at + length (bytes_of k) } ∷ [])
    → IsInside true at (bytes_of k ++ 32 ∷ rest) (length (bytes_of k)) (record { kind = k; jml = true; from = at; to = at + length (bytes_of k) } ∷ [])
in_note k at rest starts piece = inside_text (bytes_of k ++ 32 ∷ rest) starts at (length (bytes_of k)) (record { kind = k; jml = true; from = at; to = at + length (bytes_of k) } ∷ []) piece

-- ON EITHER SIDE

pub true_word : (side : Bool) → Fixed side (kind.Word TRUE.now) terminal.True
true_word true = record { is = refl; spells = record { some = lit< tt; inner = refl; solid = λ rest. refl; piece = λ at rest. in_note (kind.Word TRUE.now) at rest (record { white = refl; sign = refl; slash = refl }) (refl, refl) } }
true_word false = record { is = refl; spells = record { some = lit< tt; inner = refl; solid = λ rest. refl; piece = λ at rest. (refl, refl) } }

pub false_word : (side : Bool) → Fixed side (kind.Word FALSE.now) terminal.False
false_word true = record { is = refl; spells = record { some = lit< tt; inner = refl; solid = λ rest. refl; piece = λ at rest. in_note (kind.Word FALSE.now) at rest (record { white = refl; sign = refl; slash = refl }) (refl, refl) } }
false_word false = record { is = refl; spells = record { some = lit< tt; inner = refl; solid = λ rest. refl; piece = λ at rest. (refl, refl) } }

pub null_word : (side : Bool) → Fixed side (kind.Word NULL.now) terminal.Null
null_word true = record { is = refl; spells = record { some = lit< tt; inner = refl; solid = λ rest. refl; piece = λ at rest. in_note (kind.Word NULL.now) at rest (record { white = refl; sign = refl; slash = refl }) (refl, refl) } }
null_word false = record { is = refl; spells = record { some = lit< tt; inner = refl; solid = λ rest. refl; piece = λ at rest. (refl, refl) } }

pub this_word : (side : Bool) → Fixed side (kind.Word THIS.now) terminal.This
this_word true = record { is = refl; spells = record { some = lit< tt; inner = refl; solid = λ rest. refl; piece = λ at rest. in_note (kind.Word THIS.now) at rest (record { white = refl; sign = refl; slash = refl }) (refl, refl) } }
this_word false = record { is = refl; spells = record { some = lit< tt; inner = refl; solid = λ rest. refl; piece = λ at rest. (refl, refl) } }

pub open_paren : (side : Bool) → Fixed side (kind.Symbol OPEN_PAREN.now) terminal.OpenParen
open_paren true = record { is = refl; spells = record { some = lit< tt; inner = refl; solid = λ rest. refl; piece = λ at rest. in_note (kind.Symbol OPEN_PAREN.now) at rest (record { white = refl; sign = refl; slash = refl }) (refl, refl) } }
open_paren false = record { is = refl; spells = record { some = lit< tt; inner = refl; solid = λ rest. refl; piece = λ at rest. (refl, refl) } }

pub close_paren : (side : Bool) → Fixed side (kind.Symbol CLOSE_PAREN.now) terminal.CloseParen
close_paren true = record { is = refl; spells = record { some = lit< tt; inner = refl; solid = λ rest. refl; piece = λ at rest. in_note (kind.Symbol CLOSE_PAREN.now) at rest (record { white = refl; sign = refl; slash = refl }) (refl, refl) } }
close_paren false = record { is = refl; spells = record { some = lit< tt; inner = refl; solid = λ rest. refl; piece = λ at rest. (refl, refl) } }

pub comma : (side : Bool) → Fixed side (kind.Symbol COMMA.now) terminal.Comma
comma true = record { is = refl; spells = record { some = lit< tt; inner = refl; solid = λ rest. refl; piece = λ at rest. in_note (kind.Symbol COMMA.now) at rest (record { white = refl; sign = refl; slash = refl }) (refl, refl) } }
comma false = record { is = refl; spells = record { some = lit< tt; inner = refl; solid = λ rest. refl; piece = λ at rest. (refl, refl) } }

pub dot : (side : Bool) → Fixed side (kind.Symbol DOT.now) terminal.Dot
dot true = record { is = refl; spells = record { some = lit< tt; inner = refl; solid = λ rest. refl; piece = λ at rest. in_note (kind.Symbol DOT.now) at rest (record { white = refl; sign = refl; slash = refl }) (refl, refl) } }
dot false = record { is = refl; spells = record { some = lit< tt; inner = refl; solid = λ rest. refl; piece = λ at rest. (refl, refl) } }

pub semicolon : (side : Bool) → Fixed side (kind.Symbol SEMICOLON.now) terminal.Semicolon
semicolon true = record { is = refl; spells = record { some = lit< tt; inner = refl; solid = λ rest. refl; piece = λ at rest. in_note (kind.Symbol SEMICOLON.now) at rest (record { white = refl; sign = refl; slash = refl }) (refl, refl) } }
semicolon false = record { is = refl; spells = record { some = lit< tt; inner = refl; solid = λ rest. refl; piece = λ at rest. (refl, refl) } }

pub plus : (side : Bool) → Fixed side (kind.Symbol PLUS.now) terminal.Plus
plus true = record { is = refl; spells = record { some = lit< tt; inner = refl; solid = λ rest. refl; piece = λ at rest. in_note (kind.Symbol PLUS.now) at rest (record { white = refl; sign = refl; slash = refl }) (refl, refl) } }
plus false = record { is = refl; spells = record { some = lit< tt; inner = refl; solid = λ rest. refl; piece = λ at rest. (refl, refl) } }

pub minus_sign : (side : Bool) → Fixed side (kind.Symbol MINUS.now) terminal.Minus
minus_sign true = record { is = refl; spells = record { some = lit< tt; inner = refl; solid = λ rest. refl; piece = λ at rest. in_note (kind.Symbol MINUS.now) at rest (record { white = refl; sign = refl; slash = refl }) (refl, refl) } }
minus_sign false = record { is = refl; spells = record { some = lit< tt; inner = refl; solid = λ rest. refl; piece = λ at rest. (refl, refl) } }

pub times_sign : (side : Bool) → Fixed side (kind.Symbol TIMES.now) terminal.Times
times_sign true = record { is = refl; spells = record { some = lit< tt; inner = refl; solid = λ rest. refl; piece = λ at rest. in_note (kind.Symbol TIMES.now) at rest (record { white = refl; sign = refl; slash = refl }) (refl, refl) } }
times_sign false = record { is = refl; spells = record { some = lit< tt; inner = refl; solid = λ rest. refl; piece = λ at rest. (refl, refl) } }

pub equal : (side : Bool) → Fixed side (kind.Symbol EQUAL.now) terminal.Equal
equal true = record { is = refl; spells = record { some = lit< tt; inner = refl; solid = λ rest. refl; piece = λ at rest. in_note (kind.Symbol EQUAL.now) at rest (record { white = refl; sign = refl; slash = refl }) (refl, refl) } }
equal false = record { is = refl; spells = record { some = lit< tt; inner = refl; solid = λ rest. refl; piece = λ at rest. (refl, refl) } }

pub not_equal : (side : Bool) → Fixed side (kind.Symbol NOT_EQUAL.now) terminal.NotEqual
not_equal true = record { is = refl; spells = record { some = lit< tt; inner = refl; solid = λ rest. refl; piece = λ at rest. in_note (kind.Symbol NOT_EQUAL.now) at rest (record { white = refl; sign = refl; slash = refl }) (refl, refl) } }
not_equal false = record { is = refl; spells = record { some = lit< tt; inner = refl; solid = λ rest. refl; piece = λ at rest. (refl, refl) } }

pub less : (side : Bool) → Fixed side (kind.Symbol LESS.now) terminal.Less
less true = record { is = refl; spells = record { some = lit< tt; inner = refl; solid = λ rest. refl; piece = λ at rest. in_note (kind.Symbol LESS.now) at rest (record { white = refl; sign = refl; slash = refl }) (refl, refl) } }
less false = record { is = refl; spells = record { some = lit< tt; inner = refl; solid = λ rest. refl; piece = λ at rest. (refl, refl) } }

pub at_most : (side : Bool) → Fixed side (kind.Symbol AT_MOST.now) terminal.AtMost
at_most true = record { is = refl; spells = record { some = lit< tt; inner = refl; solid = λ rest. refl; piece = λ at rest. in_note (kind.Symbol AT_MOST.now) at rest (record { white = refl; sign = refl; slash = refl }) (refl, refl) } }
at_most false = record { is = refl; spells = record { some = lit< tt; inner = refl; solid = λ rest. refl; piece = λ at rest. (refl, refl) } }

pub greater : (side : Bool) → Fixed side (kind.Symbol GREATER.now) terminal.Greater
greater true = record { is = refl; spells = record { some = lit< tt; inner = refl; solid = λ rest. refl; piece = λ at rest. in_note (kind.Symbol GREATER.now) at rest (record { white = refl; sign = refl; slash = refl }) (refl, refl) } }
greater false = record { is = refl; spells = record { some = lit< tt; inner = refl; solid = λ rest. refl; piece = λ at rest. (refl, refl) } }

pub at_least : (side : Bool) → Fixed side (kind.Symbol AT_LEAST.now) terminal.AtLeast
at_least true = record { is = refl; spells = record { some = lit< tt; inner = refl; solid = λ rest. refl; piece = λ at rest. in_note (kind.Symbol AT_LEAST.now) at rest (record { white = refl; sign = refl; slash = refl }) (refl, refl) } }
at_least false = record { is = refl; spells = record { some = lit< tt; inner = refl; solid = λ rest. refl; piece = λ at rest. (refl, refl) } }

pub and_sign : (side : Bool) → Fixed side (kind.Symbol AND.now) terminal.And
and_sign true = record { is = refl; spells = record { some = lit< tt; inner = refl; solid = λ rest. refl; piece = λ at rest. in_note (kind.Symbol AND.now) at rest (record { white = refl; sign = refl; slash = refl }) (refl, refl) } }
and_sign false = record { is = refl; spells = record { some = lit< tt; inner = refl; solid = λ rest. refl; piece = λ at rest. (refl, refl) } }

pub or_sign : (side : Bool) → Fixed side (kind.Symbol OR.now) terminal.Or
or_sign true = record { is = refl; spells = record { some = lit< tt; inner = refl; solid = λ rest. refl; piece = λ at rest. in_note (kind.Symbol OR.now) at rest (record { white = refl; sign = refl; slash = refl }) (refl, refl) } }
or_sign false = record { is = refl; spells = record { some = lit< tt; inner = refl; solid = λ rest. refl; piece = λ at rest. (refl, refl) } }

pub not_sign : (side : Bool) → Fixed side (kind.Symbol NOT.now) terminal.Not
not_sign true = record { is = refl; spells = record { some = lit< tt; inner = refl; solid = λ rest. refl; piece = λ at rest. in_note (kind.Symbol NOT.now) at rest (record { white = refl; sign = refl; slash = refl }) (refl, refl) } }
not_sign false = record { is = refl; spells = record { some = lit< tt; inner = refl; solid = λ rest. refl; piece = λ at rest. (refl, refl) } }

-- IN ANNOTATIONS

pub implies_sign : Fixed true (kind.Symbol IMPLIES.now) terminal.Implies
implies_sign = record { is = refl; spells = record { some = lit< tt; inner = refl; solid = λ rest. refl; piece = λ at rest. in_note (kind.Symbol IMPLIES.now) at rest (record { white = refl; sign = refl; slash = refl }) (refl, refl) } }

pub iff_sign : Fixed true (kind.Symbol IFF.now) terminal.Iff
iff_sign = record { is = refl; spells = record { some = lit< tt; inner = refl; solid = λ rest. refl; piece = λ at rest. in_note (kind.Symbol IFF.now) at rest (record { white = refl; sign = refl; slash = refl }) (refl, refl) } }

pub result_value : Fixed true (kind.Slashed RESULT_VALUE.now) terminal.ResultValue
result_value = record { is = refl; spells = record { some = lit< tt; inner = refl; solid = λ rest. refl; piece = λ at rest. in_note (kind.Slashed RESULT_VALUE.now) at rest (record { white = refl; sign = refl; slash = refl }) (refl, refl) } }

pub old_word : Fixed true (kind.Slashed OLD.now) terminal.Old
old_word = record { is = refl; spells = record { some = lit< tt; inner = refl; solid = λ rest. refl; piece = λ at rest. in_note (kind.Slashed OLD.now) at rest (record { white = refl; sign = refl; slash = refl }) (refl, refl) } }

pub forall : Fixed true (kind.Slashed FORALL.now) terminal.Forall
forall = record { is = refl; spells = record { some = lit< tt; inner = refl; solid = λ rest. refl; piece = λ at rest. in_note (kind.Slashed FORALL.now) at rest (record { white = refl; sign = refl; slash = refl }) (refl, refl) } }

pub exists : Fixed true (kind.Slashed EXISTS.now) terminal.Exists
exists = record { is = refl; spells = record { some = lit< tt; inner = refl; solid = λ rest. refl; piece = λ at rest. in_note (kind.Slashed EXISTS.now) at rest (record { white = refl; sign = refl; slash = refl }) (refl, refl) } }

pub reach : Fixed true (kind.Slashed REACH.now) terminal.Reach
reach = record { is = refl; spells = record { some = lit< tt; inner = refl; solid = λ rest. refl; piece = λ at rest. in_note (kind.Slashed REACH.now) at rest (record { white = refl; sign = refl; slash = refl }) (refl, refl) } }

pub has_name : Fixed true (kind.Word HAS.now) terminal.Name
has_name = record { is = refl; spells = record { some = lit< tt; inner = refl; solid = λ rest. refl; piece = λ at rest. in_note (kind.Word HAS.now) at rest (record { white = refl; sign = refl; slash = refl }) (refl, refl) } }

pub size_name : Fixed true (kind.Word INT_SIZE.now) terminal.Name
size_name = record { is = refl; spells = record { some = lit< tt; inner = refl; solid = λ rest. refl; piece = λ at rest. in_note (kind.Word INT_SIZE.now) at rest (record { white = refl; sign = refl; slash = refl }) (refl, refl) } }

pub requires_word : Fixed true (kind.Word REQUIRES.now) terminal.Requires
requires_word = record { is = refl; spells = record { some = lit< tt; inner = refl; solid = λ rest. refl; piece = λ at rest. in_note (kind.Word REQUIRES.now) at rest (record { white = refl; sign = refl; slash = refl }) (refl, refl) } }

pub ensures_word : Fixed true (kind.Word ENSURES.now) terminal.Ensures
ensures_word = record { is = refl; spells = record { some = lit< tt; inner = refl; solid = λ rest. refl; piece = λ at rest. in_note (kind.Word ENSURES.now) at rest (record { white = refl; sign = refl; slash = refl }) (refl, refl) } }

pub invariant_word : Fixed true (kind.Word INVARIANT.now) terminal.Invariant
invariant_word = record { is = refl; spells = record { some = lit< tt; inner = refl; solid = λ rest. refl; piece = λ at rest. in_note (kind.Word INVARIANT.now) at rest (record { white = refl; sign = refl; slash = refl }) (refl, refl) } }

pub nullable_word : Fixed true (kind.Word NULLABLE.now) terminal.Nullable
nullable_word = record { is = refl; spells = record { some = lit< tt; inner = refl; solid = λ rest. refl; piece = λ at rest. in_note (kind.Word NULLABLE.now) at rest (record { white = refl; sign = refl; slash = refl }) (refl, refl) } }

pub non_null_word : Fixed true (kind.Word NON_NULL.now) terminal.NonNull
non_null_word = record { is = refl; spells = record { some = lit< tt; inner = refl; solid = λ rest. refl; piece = λ at rest. in_note (kind.Word NON_NULL.now) at rest (record { white = refl; sign = refl; slash = refl }) (refl, refl) } }

pub nullable_default : Fixed true (kind.Word NULLABLE_BY_DEFAULT.now) terminal.NullableByDefault
nullable_default = record { is = refl; spells = record { some = lit< tt; inner = refl; solid = λ rest. refl; piece = λ at rest. in_note (kind.Word NULLABLE_BY_DEFAULT.now) at rest (record { white = refl; sign = refl; slash = refl }) (refl, refl) } }

pub non_null_default : Fixed true (kind.Word NON_NULL_BY_DEFAULT.now) terminal.NonNullByDefault
non_null_default = record { is = refl; spells = record { some = lit< tt; inner = refl; solid = λ rest. refl; piece = λ at rest. in_note (kind.Word NON_NULL_BY_DEFAULT.now) at rest (record { white = refl; sign = refl; slash = refl }) (refl, refl) } }

-- OUTSIDE ANNOTATIONS

pub new_word : Fixed false (kind.Word NEW.now) terminal.New
new_word = record { is = refl; spells = record { some = lit< tt; inner = refl; solid = λ rest. refl; piece = λ at rest. (refl, refl) } }

pub class_word : Fixed false (kind.Word CLASS.now) terminal.Class
class_word = record { is = refl; spells = record { some = lit< tt; inner = refl; solid = λ rest. refl; piece = λ at rest. (refl, refl) } }

pub static_word : Fixed false (kind.Word STATIC.now) terminal.Static
static_word = record { is = refl; spells = record { some = lit< tt; inner = refl; solid = λ rest. refl; piece = λ at rest. (refl, refl) } }

pub void_word : Fixed false (kind.Word VOID.now) terminal.Void
void_word = record { is = refl; spells = record { some = lit< tt; inner = refl; solid = λ rest. refl; piece = λ at rest. (refl, refl) } }

pub int_word : Fixed false (kind.Word INT.now) terminal.Int
int_word = record { is = refl; spells = record { some = lit< tt; inner = refl; solid = λ rest. refl; piece = λ at rest. (refl, refl) } }

pub boolean_word : Fixed false (kind.Word BOOLEAN.now) terminal.Boolean
boolean_word = record { is = refl; spells = record { some = lit< tt; inner = refl; solid = λ rest. refl; piece = λ at rest. (refl, refl) } }

pub if_word : Fixed false (kind.Word IF.now) terminal.If
if_word = record { is = refl; spells = record { some = lit< tt; inner = refl; solid = λ rest. refl; piece = λ at rest. (refl, refl) } }

pub else_word : Fixed false (kind.Word ELSE.now) terminal.Else
else_word = record { is = refl; spells = record { some = lit< tt; inner = refl; solid = λ rest. refl; piece = λ at rest. (refl, refl) } }

pub while_word : Fixed false (kind.Word WHILE.now) terminal.While
while_word = record { is = refl; spells = record { some = lit< tt; inner = refl; solid = λ rest. refl; piece = λ at rest. (refl, refl) } }

pub return_word : Fixed false (kind.Word RETURN.now) terminal.Return
return_word = record { is = refl; spells = record { some = lit< tt; inner = refl; solid = λ rest. refl; piece = λ at rest. (refl, refl) } }

pub open_brace : Fixed false (kind.Symbol OPEN_BRACE.now) terminal.OpenBrace
open_brace = record { is = refl; spells = record { some = lit< tt; inner = refl; solid = λ rest. refl; piece = λ at rest. (refl, refl) } }

pub close_brace : Fixed false (kind.Symbol CLOSE_BRACE.now) terminal.CloseBrace
close_brace = record { is = refl; spells = record { some = lit< tt; inner = refl; solid = λ rest. refl; piece = λ at rest. (refl, refl) } }

pub assign : Fixed false (kind.Symbol ASSIGN.now) terminal.Assign
assign = record { is = refl; spells = record { some = lit< tt; inner = refl; solid = λ rest. refl; piece = λ at rest. (refl, refl) } }

pub increment : Fixed false (kind.Symbol INCREMENT.now) terminal.Increment
increment = record { is = refl; spells = record { some = lit< tt; inner = refl; solid = λ rest. refl; piece = λ at rest. (refl, refl) } }

pub decrement : Fixed false (kind.Symbol DECREMENT.now) terminal.Decrement
decrement = record { is = refl; spells = record { some = lit< tt; inner = refl; solid = λ rest. refl; piece = λ at rest. (refl, refl) } }
