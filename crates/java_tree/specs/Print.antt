-- How a tree is printed: its tokens in the order of the grammar, and their layout.
use Rattle.std.specs.Prelude.{ℕ, Bool, true, false, List, [], ◌∷◌, ◌++◌, Option, None, Some, map, decimal, codes}
use Rattle.std.specs.List.{flat_map, join_with_byte}
use Rattle.java_lex.specs.declared.words.TheConstants.{CLASS, NULLABLE_BY_DEFAULT, NON_NULL_BY_DEFAULT, STATIC, NULLABLE, NON_NULL, INVARIANT, REQUIRES, ENSURES, VOID, INT, BOOLEAN, IF, ELSE, WHILE, RETURN, THIS, NEW, TRUE, FALSE, NULL, RESULT_VALUE, OLD, FORALL, EXISTS, REACH, HAS, INT_SIZE, OPEN_BRACE, CLOSE_BRACE, OPEN_PAREN, CLOSE_PAREN, SEMICOLON, COMMA, DOT, ASSIGN, EQUAL, NOT_EQUAL, LESS, AT_MOST, GREATER, AT_LEAST, PLUS, MINUS, TIMES, NOT, AND, OR, INCREMENT, DECREMENT, IMPLIES, IFF}
use Rattle.java_lex.specs.declared.token.TokenKind.{TokenKind}
use Rattle.java_lex.specs.declared.token.TokenKind.TheVariants as kind
use Rattle.java_tree.specs.declared.expressions.Sign.{Sign}
use Rattle.java_tree.specs.declared.expressions.Sign.TheVariants.{Add, Sub, Mul, Eq, Ne, Lt, Le, Gt, Ge, And, Or, Implies, Iff}
use Rattle.java_tree.specs.declared.names.Ident.{Ident}
use Rattle.java_tree.specs.declared.names.ModWord.{ModWord}
use Rattle.java_tree.specs.declared.names.ModWord.TheVariants.{Static, Nullable, NonNull, NullableByDefault, NonNullByDefault}
use Rattle.java_tree.specs.declared.names.Modifier.{Modifier}
use Rattle.java_tree.specs.declared.names.TypeTree.{TypeTree}
use Rattle.java_tree.specs.declared.names.TypeTree.TheVariants.{Int, Flag, Class as class_type}
use Rattle.java_tree.specs.Trees.{Expr, num, flag, null, this, outcome, make, named, call, read, call_on, paren, negation, minus, bin, old, quant, quant_in, has, size, Exprs, none, also, Decl, Stmt, block, blank, if_only, if_else, loops, gives_back, local, set, step, run, Stmts, done, next, Clause, needs, gives, Param, Method, Part, invariant, field, method, Class, Classes}

-- a token that is printed: whether it stands in an annotation, and what it is
abbrev pub Word : Type 0
Word = Bool × TokenKind

-- its bytes
abbrev pub bytes_of : TokenKind → List ℕ
bytes_of (kind.Word bytes) = bytes
bytes_of (kind.Number n) = decimal n
bytes_of kind.Quoted = []
bytes_of (kind.Slashed bytes) = bytes
bytes_of (kind.Symbol bytes) = bytes
bytes_of kind.End = []

-- one token on a side: outside annotations (false) or in one (true)
abbrev pub word : Bool → List ℕ → List Word
word side bytes = (side, kind.Word bytes) ∷ []

abbrev pub symbol : Bool → List ℕ → List Word
symbol side bytes = (side, kind.Symbol bytes) ∷ []

abbrev pub slashed : Bool → List ℕ → List Word
slashed side bytes = (side, kind.Slashed bytes) ∷ []

abbrev pub number : Bool → ℕ → List Word
number side n = (side, kind.Number n) ∷ []

abbrev pub flag_text : Bool → List ℕ
flag_text true = TRUE.now
flag_text false = FALSE.now

abbrev pub sign_text : Sign → List ℕ
sign_text Add = PLUS.now
sign_text Sub = MINUS.now
sign_text Mul = TIMES.now
sign_text Eq = EQUAL.now
sign_text Ne = NOT_EQUAL.now
sign_text Lt = LESS.now
sign_text Le = AT_MOST.now
sign_text Gt = GREATER.now
sign_text Ge = AT_LEAST.now
sign_text And = AND.now
sign_text Or = OR.now
sign_text Implies = IMPLIES.now
sign_text Iff = IFF.now

abbrev pub quantifier_text : Bool → List ℕ
quantifier_text true = FORALL.now
quantifier_text false = EXISTS.now

-- names behind a separator each
abbrev pub behind_each : Bool → List ℕ → List Ident → List Word
behind_each side separator is = flat_map (λ i. symbol side separator ++ word side i.text) is

-- the fields of a reach, parted by `+`
abbrev pub fields_written : List Ident → List Word
fields_written [] = []
fields_written (i ∷ is) = word true i.text ++ behind_each true PLUS.now is

-- the class and the fields of a reach, up to the bracket
abbrev pub over_written : Ident → List Ident → List Word
over_written kind fields = symbol true COMMA.now ++ word true kind.text ++ symbol true COMMA.now ++ fields_written fields ++ symbol true CLOSE_PAREN.now

-- `\reach (root, class, fields)`, by what the root has
abbrev pub reach_written : List Word → Ident → List Ident → List Word
reach_written root kind fields = slashed true REACH.now ++ symbol true OPEN_PAREN.now ++ root ++ over_written kind fields

-- the head of a quantifier, up to its first semicolon
abbrev pub quantifier_written : Bool → Ident → Ident → List Word
quantifier_written all kind i = symbol true OPEN_PAREN.now ++ slashed true (quantifier_text all) ++ word true kind.text ++ word true i.text ++ symbol true SEMICOLON.now

-- an expression of a clause in brackets, by what it has
abbrev pub bracketed_written : List Word → List Word
bracketed_written a = symbol true OPEN_PAREN.now ++ a ++ symbol true CLOSE_PAREN.now

-- a name and arguments in brackets, by what those have
abbrev pub call_written : Ident → List Word → List Word
call_written i args = word false i.text ++ symbol false OPEN_PAREN.now ++ args ++ symbol false CLOSE_PAREN.now

-- an expression of code (false) or of a clause (true)
abbrev mutual
  pub written : Expr → Bool → List Word
  written (num at n) side = number side n
  written (flag at b) side = word side (flag_text b)
  written (null at) side = word side NULL.now
  written (this at) side = word side THIS.now
  written (outcome at) side = slashed side RESULT_VALUE.now
  written (make at i) side = word side NEW.now ++ word side i.text ++ symbol side OPEN_PAREN.now ++ symbol side CLOSE_PAREN.now
  written (named at i) side = word side i.text
  written (call at i args) side = call_written i (args_written args)
  written (read at a i) side = written a side ++ symbol side DOT.now ++ word side i.text
  written (call_on at a i args) side = written a side ++ symbol side DOT.now ++ call_written i (args_written args)
  written (paren at a) side = symbol side OPEN_PAREN.now ++ written a side ++ symbol side CLOSE_PAREN.now
  written (negation at a) side = symbol side NOT.now ++ written a side
  written (minus at a) side = symbol side MINUS.now ++ written a side
  written (bin at s a b) side = written a side ++ symbol side (sign_text s) ++ written b side
  written (old at a) side = slashed true OLD.now ++ bracketed_written (written a side)
  written (quant at all kind i body) side = quantifier_written all kind i ++ written body side ++ symbol true CLOSE_PAREN.now
  written (quant_in at all kind i range body) side = quantifier_written all kind i ++ written range side ++ symbol true SEMICOLON.now ++ written body side ++ symbol true CLOSE_PAREN.now
  written (has at a kind fields b) side = reach_written (written a side) kind fields ++ symbol true DOT.now ++ word true HAS.now ++ bracketed_written (written b side)
  written (size at a kind fields) side = reach_written (written a side) kind fields ++ symbol true DOT.now ++ word true INT_SIZE.now ++ symbol true OPEN_PAREN.now ++ symbol true CLOSE_PAREN.now

  -- arguments, parted by commas
  pub args_written : Exprs → List Word
  args_written none = []
  args_written (also e es) = written e false ++ more_args_written es

  pub more_args_written : Exprs → List Word
  more_args_written none = []
  more_args_written (also e es) = symbol false COMMA.now ++ written e false ++ more_args_written es

abbrev pub modifier_word : ModWord → Word
modifier_word Static = (false, kind.Word STATIC.now)
modifier_word Nullable = (true, kind.Word NULLABLE.now)
modifier_word NonNull = (true, kind.Word NON_NULL.now)
modifier_word NullableByDefault = (true, kind.Word NULLABLE_BY_DEFAULT.now)
modifier_word NonNullByDefault = (true, kind.Word NON_NULL_BY_DEFAULT.now)

abbrev pub modifiers_written : List Modifier → List Word
modifiers_written mods = map (λ m. modifier_word m.word) mods

abbrev pub type_text : TypeTree → List ℕ
type_text Int = INT.now
type_text Flag = BOOLEAN.now
type_text (class_type i) = i.text

-- `= value`, where there is one
abbrev pub value_written : Option Expr → List Word
value_written None = []
value_written (Some e) = symbol false ASSIGN.now ++ written e false

abbrev pub decl_written : Decl → List Word
decl_written d = word false d.name.text ++ value_written d.value

-- declarations, parted by commas
abbrev pub decls_written : List Decl → List Word
decls_written [] = []
decls_written (d ∷ ds) = decl_written d ++ flat_map (λ e. symbol false COMMA.now ++ decl_written e) ds

-- a condition in its brackets
abbrev pub condition_written : Expr → List Word
condition_written c = symbol false OPEN_PAREN.now ++ written c false ++ symbol false CLOSE_PAREN.now

abbrev pub returned_written : Option Expr → List Word
returned_written None = []
returned_written (Some e) = written e false

abbrev pub stepped_text : Bool → List ℕ
stepped_text true = INCREMENT.now
stepped_text false = DECREMENT.now

-- what stands in braces
abbrev pub block_written : List Word → List Word
block_written inner = symbol false OPEN_BRACE.now ++ inner ++ symbol false CLOSE_BRACE.now

abbrev mutual
  pub stmt_written : Stmt → List Word
  stmt_written (block ss) = block_written (stmts_written ss)
  stmt_written blank = symbol false SEMICOLON.now
  stmt_written (if_only c a) = word false IF.now ++ condition_written c ++ stmt_written a
  stmt_written (if_else c a b) = word false IF.now ++ condition_written c ++ stmt_written a ++ word false ELSE.now ++ stmt_written b
  stmt_written (loops at c a) = word false WHILE.now ++ condition_written c ++ stmt_written a
  stmt_written (gives_back at e) = word false RETURN.now ++ returned_written e ++ symbol false SEMICOLON.now
  stmt_written (local mods kind ds) = modifiers_written mods ++ word false (type_text kind) ++ decls_written ds ++ symbol false SEMICOLON.now
  stmt_written (set a e) = written a false ++ symbol false ASSIGN.now ++ written e false ++ symbol false SEMICOLON.now
  stmt_written (step a up) = written a false ++ symbol false (stepped_text up) ++ symbol false SEMICOLON.now
  stmt_written (run e) = written e false ++ symbol false SEMICOLON.now

  pub stmts_written : Stmts → List Word
  stmts_written done = []
  stmts_written (next s ss) = stmt_written s ++ stmts_written ss

-- a clause behind its word
abbrev pub predicate_written : List ℕ → Expr → List Word
predicate_written name e = word true name ++ written e true ++ symbol true SEMICOLON.now

abbrev pub clause_written : Clause → List Word
clause_written (needs at e) = predicate_written REQUIRES.now e
clause_written (gives at e) = predicate_written ENSURES.now e

abbrev pub param_written : Param → List Word
param_written p = modifiers_written p.mods ++ word false (type_text p.kind) ++ word false p.name.text

-- parameters, parted by commas
abbrev pub params_written : List Param → List Word
params_written [] = []
params_written (p ∷ ps) = param_written p ++ flat_map (λ q. symbol false COMMA.now ++ param_written q) ps

abbrev pub result_text : Option TypeTree → List ℕ
result_text None = VOID.now
result_text (Some kind) = type_text kind

-- the head of a method, from its result to the bracket behind its parameters
abbrev pub head_written : Option TypeTree → Ident → List Param → List Word
head_written kind i ps = word false (result_text kind) ++ word false i.text ++ symbol false OPEN_PAREN.now ++ params_written ps ++ symbol false CLOSE_PAREN.now

abbrev pub method_written : Method → List Word
method_written m = flat_map clause_written m.spec ++ modifiers_written m.mods ++ head_written m.result m.name m.params ++ block_written (stmts_written m.body)

-- a member; a field has a declaration of its own
abbrev pub part_written : Part → List Word
part_written (invariant at e) = predicate_written INVARIANT.now e
part_written (field mods kind i) = modifiers_written mods ++ word false (type_text kind) ++ word false i.text ++ symbol false SEMICOLON.now
part_written (method m) = method_written m

abbrev pub class_written : Class → List Word
class_written c = modifiers_written c.mods ++ word false CLASS.now ++ word false c.name.text ++ block_written (flat_map part_written c.members)

-- the tokens of a tree
abbrev pub tree_written : Classes → List Word
tree_written cs = flat_map class_written cs

-- what stands between tokens on the two sides: inside: whether the last one stood in an annotation
abbrev pub sign_between : Bool → Bool → List (List ℕ)
sign_between false true = codes "/*@" ∷ []
sign_between true false = codes "@*/" ∷ []
sign_between before behind = []

-- the pieces of the text: each longest run of tokens of annotations stands between `/*@` and `@*/`
abbrev pub pieces : Bool → List Word → List (List ℕ)
pieces inside [] = sign_between inside false
pieces inside (token ∷ words) = sign_between inside token.0 ++ bytes_of token.1 ∷ pieces token.0 words

-- the text: its pieces parted by one space, and a line feed
abbrev pub laid_out : List Word → List ℕ
laid_out words = join_with_byte 32 (pieces false words) ++ 10 ∷ []
