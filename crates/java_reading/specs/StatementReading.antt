-- Reading statements.
use Rattle.std.specs.Prelude.{ℕ, zero, suc, Bool, true, false, List, [], ◌∷◌, ◌++◌, Option, Some, None}
use Rattle.std.specs.List.{cons_option}
use Rattle.java_lex.specs.declared.spelling.Terminal.{Terminal}
use Rattle.java_lex.specs.declared.spelling.Terminal.TheVariants as terminal
use Rattle.java_lex.specs.declared.token.Token.{Token}
use Rattle.java_tree.specs.declared.names.Modifier.{Modifier}
use Rattle.java_tree.specs.declared.names.TypeTree.{TypeTree}
use Rattle.java_tree.specs.declared.names.TypeTree.TheVariants.{Int, Flag, Class as class_type}
use Rattle.java_tree.specs.Trees.{Expr, this, named, call, read, call_on, Exprs, Decl, Stmt, block, blank, if_only, if_else, loops, gives_back, local, set, step, run, Stmts, done, next}
use Rattle.java_tree.specs.Phrases.{Letter, letter, ident_of}
use Rattle.java_tree.specs.Expressions.{place}
use Rattle.java_tree.specs.Statements.{is_local_modifier, in_order, kept}
use Rattle.reading_core.specs.Read.{Read, Got, Bad, Deep, ◌>>=◌, at_side}
use Rattle.java_reading.specs.declared.marks.Fixed.TheVariants.{OpenBrace, CloseBrace, OpenParen, CloseParen, Semicolon, Comma, Assign, If, Else, While, Return}
use Rattle.java_reading.specs.declared.form.Reached.{Reached}
use Rattle.java_reading.specs.declared.form.Reached.TheVariants.{Bare, Place, Call}
use Rattle.java_reading.specs.declared.form.Turn.{Turn}
use Rattle.java_reading.specs.declared.form.Turn.TheVariants.{Assigns, Up, Down, Ends, Goes, Fails}
use Rattle.java_reading.specs.declared.form.Form.{Form}
use Rattle.java_reading.specs.declared.form.Form.TheVariants as form
use Rattle.java_reading.specs.Readers.{Reader, head, give, first, second, and_then, taken, opening, repeat, optional, lower, left_below}
use Rattle.java_reading.specs.Tokens.{stands, fixed, fixed_at, name_in, next_is, next_is_name}
use Rattle.java_reading.specs.Forms.{form_of, begins_statement}

-- MODIFIERS AND TYPES

-- the modifiers of the longest front of tokens that are such, behind these
abbrev pub gather : (Letter → Bool) → List Modifier → Reader (List Modifier)
gather allowed mods [] = Got (in_order mods) []
gather allowed mods (t ∷ ts) = elim (allowed (letter t)) [ true ↦ gather allowed (mods ++ cons_option (kept t) []) ts | false ↦ Got (in_order mods) (t ∷ ts) ]

abbrev pub modifiers_in : (Letter → Bool) → Reader (List Modifier)
modifiers_in allowed ts = gather allowed [] ts

abbrev pub is_type : Terminal → Bool
is_type terminal.Int = true
is_type terminal.Boolean = true
is_type terminal.Name = true
is_type x = false

abbrev pub type_by : Terminal → Token → TypeTree
type_by terminal.Int t = Int
type_by terminal.Boolean t = Flag
type_by x t = class_type (ident_of t)

abbrev pub type_in : Reader TypeTree
type_in = taken (λ t. is_type (at_side false t)) (λ t. type_by (at_side false t) t)

-- PLACES AND RUNS

abbrev pub turn_of : Reached → Terminal → Turn
turn_of r terminal.Dot = Goes
turn_of Place terminal.Assign = Assigns
turn_of Place terminal.Increment = Up
turn_of Place terminal.Decrement = Down
turn_of Call terminal.Semicolon = Ends
turn_of r x = Fails

abbrev pub stmts_of : List Stmt → Stmts
stmts_of [] = done
stmts_of (s ∷ ss) = next s (stmts_of ss)

-- expression, arguments: their readers, where so many levels are left
module _ (expression : ℕ → Reader Expr) (arguments : ℕ → Reader Exprs) where
  -- base: how many levels are left where the statement begins; further: what is read behind a `.`
  module _ (base : ℕ) (further : Option (Expr → Reader Stmt)) where
    -- Expr ";"
    abbrev pub assigned_in : Expr → Reader Stmt
    assigned_in e ts = give (λ x. set e x.0) (and_then (expression base ts) (λ v. fixed false Semicolon))

    abbrev pub turn_in : Expr → Token → List Token → Turn → Read Stmt
    turn_in e t ts Assigns = assigned_in e ts
    turn_in e t ts Up = give (λ x. step e true) (fixed false Semicolon ts)
    turn_in e t ts Down = give (λ x. step e false) (fixed false Semicolon ts)
    turn_in e t ts Ends = Got (run e) ts
    turn_in e t ts Goes = elim further [ None ↦ Deep (t ∷ ts) | Some go ↦ go e ts ]
    turn_in e t ts Fails = Bad (t ∷ ts)

    -- { "." Step } and what makes a statement of it
    abbrev pub reached_in : Reached → Expr → Reader Stmt
    reached_in r e [] = Bad []
    reached_in r e (t ∷ ts) = turn_in e t ts (turn_of r (at_side false t))

    -- [ Args ] and so on, behind a name: what it is without arguments, and with them; left: the levels left there
    abbrev pub named_in : ℕ → Expr → (Exprs → Expr) → Reader Stmt
    named_in left plain with_ ts = elim (next_is false OpenParen (head ts)) [ true ↦ arguments left ts >>= (λ es rest. reached_in Call (with_ es) rest) | false ↦ reached_in Place plain ts ]

  -- Step { "." Step } .., behind a `.`, where so many levels are left in front of it
  abbrev pub further_in : ℕ → ℕ → Option (Expr → Reader Stmt)
  further_in base zero = None
  further_in base (suc left) = Some (λ e ts. name_in false ts >>= (λ i rest. named_in base (further_in base left) left (read (place e) e i) (call_on (place e) e i) rest))

  abbrev pub step_in : ℕ → ℕ → Expr → Reader Stmt
  step_in base left e ts = name_in false ts >>= (λ i rest. named_in base (further_in base left) left (read (place e) e i) (call_on (place e) e i) rest)

  -- DECLARATIONS

  -- "=" Expr
  abbrev pub value_in : ℕ → Reader Expr
  value_in left ts = second (and_then (fixed false Assign ts) (λ x. expression left))

  abbrev pub declaration_in : ℕ → Reader Decl
  declaration_in left ts = give (λ x. record { name = x.0; value = x.1 }) (and_then (name_in false ts) (λ i. optional (next_is false Assign) (value_in left)))

  -- { "," Decl }
  abbrev pub more_declarations_in : ℕ → Reader (List Decl)
  more_declarations_in left = repeat (next_is false Comma) (λ ts. second (and_then (fixed false Comma ts) (λ x. declaration_in left)))

  -- Decl { "," Decl }
  abbrev pub declarations_in : ℕ → Reader (List Decl)
  declarations_in left ts = give (λ x. x.0 ∷ x.1) (and_then (declaration_in left ts) (λ d. more_declarations_in left))

  -- Decl { "," Decl } ";"
  abbrev pub declared_in : ℕ → Reader (List Decl)
  declared_in left ts = first (and_then (declarations_in left ts) (λ ds. fixed false Semicolon))

  abbrev pub local_in : ℕ → Reader Stmt
  local_in left ts = give (λ x. local x.0 x.1.0 x.1.1) (and_then (modifiers_in is_local_modifier ts) (λ mods ts. and_then (type_in ts) (λ kind. declared_in left)))

  -- STATEMENTS

  -- a condition in its brackets
  abbrev pub condition_in : ℕ → Reader Expr
  condition_in left ts = give (λ x. x.1.0) (opening (stands false OpenParen) (λ t. tt {0}) (lower left (λ n ts. and_then (expression n ts) (λ e. fixed false CloseParen))) ts)

  abbrev pub returned_in : ℕ → Reader Stmt
  returned_in left ts = give (λ x. gives_back x.0 x.1.0) (and_then (fixed_at false Return ts) (λ at ts. and_then (optional (λ h. elim (next_is false Semicolon h) [ true ↦ false | false ↦ true ]) (expression left) ts) (λ e. fixed false Semicolon)))

  -- left: how many levels are left; under: the reader of statements one level deeper
  module _ (left : ℕ) (under : Option (Reader Stmt)) where
    -- what stands one level deeper, by the reader of statements there
    abbrev pub deeper_in : {B : Type 0} → (ℕ → Reader Stmt → Reader B) → Option (Reader B)
    deeper_in go = elim under [ Some s ↦ lower left (λ n. go n s) | None ↦ None ]

    -- "(" Expr ")" Stmt
    abbrev pub headed_in : Option (Reader (Expr × Stmt))
    headed_in = deeper_in (λ n s ts. and_then (condition_in n ts) (λ c. s))

    abbrev pub block_in : Reader Stmt
    block_in ts = give (λ x. block (stmts_of x.1.0)) (opening (stands false OpenBrace) (λ t. tt {0}) (deeper_in (λ n s ts. and_then (repeat begins_statement s ts) (λ ss. fixed false CloseBrace))) ts)

    abbrev pub while_in : Reader Stmt
    while_in ts = give (λ x. loops x.0 x.1.0 x.1.1) (opening (stands false While) (λ t. t.from) headed_in ts)

    abbrev pub else_in : Reader Stmt
    else_in ts = second (opening (stands false Else) (λ t. tt {0}) (deeper_in (λ n s. s)) ts)

    abbrev pub choice_of : (Unit {0} × (Expr × Stmt)) × Option Stmt → Stmt
    choice_of x = elim x.1 [ None ↦ if_only x.0.1.0 x.0.1.1 | Some b ↦ if_else x.0.1.0 x.0.1.1 b ]

    abbrev pub if_in : Reader Stmt
    if_in ts = give choice_of (and_then (opening (stands false If) (λ t. tt {0}) headed_in ts) (λ x. optional (next_is false Else) else_in))

    -- behind a name: a declaration where another name follows
    abbrev pub behind_name_in : Token → Reader Stmt
    behind_name_in t ts =
        elim (next_is_name (head ts)) [
          | true ↦ give (local [] (class_type (ident_of t))) (declared_in left ts)
          | false ↦ named_in left (further_in left left) left (named t.from (ident_of t)) (call t.from (ident_of t)) ts
        ]

    abbrev pub statement_by : Form → Token → List Token → Read Stmt
    statement_by form.Block t ts = block_in (t ∷ ts)
    statement_by form.Blank t ts = Got blank ts
    statement_by form.If t ts = if_in (t ∷ ts)
    statement_by form.While t ts = while_in (t ∷ ts)
    statement_by form.Return t ts = returned_in left (t ∷ ts)
    statement_by form.Local t ts = local_in left (t ∷ ts)
    statement_by form.Name t ts = behind_name_in t ts
    statement_by form.This t ts = reached_in left (further_in left left) Bare (this t.from) ts
    statement_by form.None t ts = Bad (t ∷ ts)

    abbrev pub statement_in : Reader Stmt
    statement_in [] = Bad []
    statement_in (t ∷ ts) = statement_by (form_of (letter t)) t ts

  unfoldable pub statement_at : ℕ → Reader Stmt
  statement_at zero = statement_in zero None
  statement_at (suc left) = statement_in (suc left) (Some (statement_at left))

  -- the reader of statements one level deeper
  abbrev pub under_at : ℕ → Option (Reader Stmt)
  under_at left = elim (left_below left) [ None ↦ None | Some n ↦ Some (statement_at n) ]

  -- { Stmt }
  abbrev pub statements_in : ℕ → Reader (List Stmt)
  statements_in left = repeat begins_statement (statement_at left)
