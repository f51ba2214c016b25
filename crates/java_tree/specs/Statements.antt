-- The grammar of statements, production by production. (Java Language Specification, "Blocks, Statements, and
-- Patterns".)
--
--     Block = "{" { Stmt } "}"
--     Stmt  = Block | ";" | "if" "(" Expr ")" Stmt [ "else" Stmt ]
--           | "while" "(" Expr ")" Stmt | "return" [ Expr ] ";"
--           | { "final" | Null } Type Decl { "," Decl } ";"
--           | Place ( "=" Expr | "++" | "--" ) ";" | Run ";"
--     Decl  = Name [ "=" Expr ]
--     Place = [ "this" "." ] { Step "." } Name
--     Run   = [ "this" "." ] { Step "." } Name Args
use Rattle.std.specs.Prelude.{◌≡◌, ℕ, Bool, true, false, ◌==◌, List, [], ◌∷◌, ◌++◌, Option, None, Some, option_map, IsTrue, filter}
use Rattle.std.specs.List.{list_all, filter_map, flat_map}
use Rattle.java_lex.specs.declared.spelling.Terminal.{Terminal}
use Rattle.java_lex.specs.declared.spelling.Terminal.TheVariants as terminal
use Rattle.java_lex.specs.declared.token.Token.{Token}
use Rattle.java_tree.specs.declared.names.ModWord.{ModWord}
use Rattle.java_tree.specs.declared.names.ModWord.TheVariants.{Static, Nullable, NonNull, NullableByDefault, NonNullByDefault}
use Rattle.java_tree.specs.declared.names.Modifier.{Modifier}
use Rattle.java_tree.specs.declared.names.TypeTree.{TypeTree}
use Rattle.java_tree.specs.declared.names.TypeTree.TheVariants.{Int, Flag, Class}
use Rattle.java_tree.specs.Trees.{Expr, this, named, call, read, call_on, Decl, Stmt, block, blank, if_only, if_else, loops, gives_back, local, set, step, run, Stmts, done, next}
use Rattle.java_tree.specs.Phrases.{Letter, letter, java, Phrase, Limit, ◌▸◌, nothing, where_, one, one_at, name, opens, closed}
use Rattle.java_tree.specs.Expressions.{bracketed, expression}

-- MODIFIERS

-- the modifier that a token is, if the tree keeps it
abbrev pub kept_word : Letter → Option ModWord
kept_word (false, terminal.Static) = Some Static
kept_word (true, terminal.Nullable) = Some Nullable
kept_word (true, terminal.NonNull) = Some NonNull
kept_word (true, terminal.NullableByDefault) = Some NullableByDefault
kept_word (true, terminal.NonNullByDefault) = Some NonNullByDefault
kept_word x = None

-- with its place
abbrev pub kept : Token → Option Modifier
kept t = option_map (λ word. record { word = word; at = t.from }) (kept_word (letter t))

abbrev pub rank : ModWord → ℕ
rank Static = 0
rank Nullable = 1
rank NonNull = 2
rank NullableByDefault = 3
rank NonNullByDefault = 4

-- the modifiers in the order in which a tree keeps them: by their words, and equal ones as they stand in the text
abbrev pub in_order : List Modifier → List Modifier
in_order mods = flat_map (λ n. filter (λ m. rank m.word == n) mods) (0 ∷ 1 ∷ 2 ∷ 3 ∷ 4 ∷ [])

-- tokens that are all modifiers of these; the tree keeps those that have an effect
abbrev pub modifiers : (Letter → Bool) → List Modifier → Phrase
modifiers allowed mods l ts k rest =
    (front : List Token) × (ts ≡ front ++ rest) × IsTrue (list_all (λ t. allowed (letter t)) front) × (mods ≡ in_order (filter_map kept front)) × (k ≡ l)

-- Null = j"nullable" | j"non_null"
abbrev pub is_null : Letter → Bool
is_null (true, terminal.Nullable) = true
is_null (true, terminal.NonNull) = true
is_null x = false

-- { "final" | Null }
abbrev pub is_local_modifier : Letter → Bool
is_local_modifier (false, terminal.Final) = true
is_local_modifier x = is_null x

-- TYPES

-- Type = "int" | "boolean" | Name
abbrev pub type_of : TypeTree → Phrase
type_of Int = one (java terminal.Int)
type_of Flag = one (java terminal.Boolean)
type_of (Class i) = name false i

-- STATEMENTS

-- what may stand before the last `.` of a Place or a Run
abbrev pub is_target : Expr → Bool
is_target (this at) = true
is_target (named at i) = true
is_target (call at i args) = true
is_target (read at a i) = is_target a
is_target (call_on at a i args) = is_target a
is_target e = false

abbrev pub is_place : Expr → Bool
is_place (named at i) = true
is_place (read at a i) = is_target a
is_place e = false

abbrev pub is_run : Expr → Bool
is_run (call at i args) = true
is_run (call_on at a i args) = is_target a
is_run e = false

-- the statement ends in an `if` that an `else` behind it would belong to
abbrev pub takes_else : Stmt → Bool
takes_else (if_only c a) = true
takes_else (if_else c a b) = takes_else b
takes_else (loops at c a) = takes_else a
takes_else s = false

-- `++` or `--`
abbrev pub stepped : Bool → Terminal
stepped true = terminal.Increment
stepped false = terminal.Decrement

-- May: which levels may be opened
module _ (May : Limit) where
  -- Decl = Name [ "=" Expr ]
  abbrev pub value_of : Option Expr → Phrase
  value_of None = nothing
  value_of (Some e) = one (java terminal.Assign) ▸ expression May e

  abbrev pub declaration : Decl → Phrase
  declaration d = name false d.name ▸ value_of d.value

  -- { "," Decl }
  abbrev pub more_declarations : List Decl → Phrase
  more_declarations [] = nothing
  more_declarations (d ∷ ds) = one (java terminal.Comma) ▸ declaration d ▸ more_declarations ds

  -- Decl { "," Decl }
  abbrev pub declarations : List Decl → Phrase
  declarations [] = where_ ⊥ nothing
  declarations (d ∷ ds) = declaration d ▸ more_declarations ds

  -- a condition in its brackets
  abbrev pub condition : Expr → Phrase
  condition c = bracketed May false (expression May c)

  abbrev pub returned : Option Expr → Phrase
  returned None = nothing
  returned (Some e) = expression May e

  abbrev mutual
    pub statement : Stmt → Phrase
    -- Block, whose `{` opens a level
    statement (block ss) = closed (one (java terminal.OpenBrace) ▸ opens May ▸ statements ss ▸ one (java terminal.CloseBrace))
    statement blank = one (java terminal.Semicolon)
    -- `if`, `else` and `while` open a level each, up to the end of the statement under them
    statement (if_only c a) = closed (one (java terminal.If) ▸ opens May ▸ condition c ▸ statement a)
    statement (if_else c a b) =
        where_ (takes_else a ≡ false) (closed (one (java terminal.If) ▸ opens May ▸ condition c ▸ statement a) ▸ closed (one (java terminal.Else) ▸ opens May ▸ statement b))
    statement (loops at c a) = closed (one_at (java terminal.While) at ▸ opens May ▸ condition c ▸ statement a)
    statement (gives_back at e) = one_at (java terminal.Return) at ▸ returned e ▸ one (java terminal.Semicolon)
    statement (local mods kind ds) = modifiers is_local_modifier mods ▸ type_of kind ▸ declarations ds ▸ one (java terminal.Semicolon)
    statement (set a e) = where_ (IsTrue (is_place a)) (expression May a ▸ one (java terminal.Assign) ▸ expression May e ▸ one (java terminal.Semicolon))
    statement (step a up) = where_ (IsTrue (is_place a)) (expression May a ▸ one (java (stepped up)) ▸ one (java terminal.Semicolon))
    statement (run e) = where_ (IsTrue (is_run e)) (expression May e ▸ one (java terminal.Semicolon))

    pub statements : Stmts → Phrase
    statements done = nothing
    statements (next s ss) = statement s ▸ statements ss
