-- What a statement is read as, by what the code has seen of it.
use Rattle.std.proofs.Common.{◌≡◌, ℕ, zero, suc, true, false, List, [], ◌∷◌, map, Option, Some, None, refl, sym, ap, ◌∙◌, subst, Bor}
use Rattle.std.specs.Prelude.{Result, Err}
use Rattle.java_lex.specs.declared.token.Token.{Token}
use Rattle.java_tree.specs.declared.names.Ident.{Ident}
use Rattle.java_tree.specs.declared.statements.StmtTree.{StmtTree}
use Rattle.java_tree.specs.Trees.{Expr, Stmt, Stmts, block, if_else}
use Rattle.java_tree.specs.Phrases.{letter, ident_of}
use Rattle.java_tree.specs.Seen.{stmt_tree, stmt_trees}
use Rattle.reading_core.specs.declared.stop.Stop.{Stop}
use Rattle.reading_core.specs.declared.stop.Stop.TheVariants.{Memory, Wrong, Deep as DeepStop}
use Rattle.reading_core.specs.Read.{Read, Got, Bad, Deep, ◌>>=◌ as ◌⟫◌}
use Rattle.reading_core.specs.Gives.{Gives}
use Rattle.reading_core.proofs.Runs.{when_true, when_false}
use Rattle.java_reading.specs.declared.form.Form.{Form}
use Rattle.java_reading.specs.declared.marks.Fixed.TheVariants.{OpenBrace, CloseBrace, If, Else}
use Rattle.java_reading.specs.Forms.{form_of}
use Rattle.java_reading.specs.Readers.{Reader, head, give, and_then, with_first, deeper_by, opening, optional, left_below}
use Rattle.java_reading.specs.Tokens.{fixed, next_is, next_is_name, stands}
use Rattle.java_reading.specs.StatementReading.{stmts_of, statement_at, statement_in, statement_by, statements_in, under_at, headed_in, block_in, if_in, else_in, choice_of, behind_name_in, named_in, further_in}
use Rattle.text_reading.specs.Readers.{expression_at, arguments_at}
use Rattle.java_reader.specs.Code.{headed_at}
use Rattle.code_reader.specs.Targets.{plain_of, called_on}
use Rattle.java_reader.proofs.CodeLemmas.{list_stmts, statement_is}

give_with : {A B C : Type 0} (f : B → C) (a : A) (o : Read B) → give (λ (x : A × B). f x.1) (with_first a o) ≡ give f o
give_with f a (Got b rest) = refl
give_with f a (Bad rest) = refl
give_with f a (Deep rest) = refl

-- BLOCKS

abbrev inner : ℕ → Reader (List Stmt × Unit {0})
inner n us = and_then (statements_in expression_at arguments_at n us) (λ ss. fixed false CloseBrace)

behind_brace : (n : ℕ) (ts rest : List Token) → fixed false OpenBrace ts ≡ Got tt rest
    → block_in expression_at arguments_at (suc n) (under_at expression_at arguments_at (suc n)) ts
    ≡ give (λ (x : List Stmt × Unit {0}). block (stmts_of x.0)) (and_then (statements_in expression_at arguments_at n rest) (λ ss. fixed false CloseBrace))
behind_brace n ts rest is =
    ap (λ (o : Read (Unit {0})). give (λ (x : Unit {0} × (List Stmt × Unit {0})). block (stmts_of x.1.0)) (o ⟫ deeper_by (Some (inner n)) ts)) is
    ∙ give_with (λ (x : List Stmt × Unit {0}). block (stmts_of x.0)) (tt {0}) (inner n rest)

pub block_is : (left less : ℕ) (ts rest : List Token) (ss : List StmtTree) (behind behind' : List Token) → left_below left ≡ Some less → fixed false OpenBrace ts ≡ Got tt rest
    → statements_in expression_at arguments_at less rest ≡ Got (map stmt_tree ss) behind → fixed false CloseBrace behind ≡ Got tt behind'
    → block_in expression_at arguments_at left (under_at expression_at arguments_at left) ts ≡ Got (block (stmt_trees ss)) behind'
block_is zero less ts rest ss behind behind' below brace body close = absurd (cc)
block_is (suc n) less ts rest ss behind behind' below brace body close =
    let same : n ≡ less = cc in
    behind_brace n ts rest brace
    ∙ ap (λ (m : ℕ). give (λ (x : List Stmt × Unit {0}). block (stmts_of x.0)) (and_then (statements_in expression_at arguments_at m rest) (λ ss. fixed false CloseBrace))) same
    ∙ ap (λ (o : Read (List Stmt)). give (λ (x : List Stmt × Unit {0}). block (stmts_of x.0)) (and_then o (λ ss. fixed false CloseBrace))) body
    ∙ ap (λ (o : Read (Unit {0})). give (λ (x : List Stmt × Unit {0}). block (stmts_of x.0)) (with_first (map stmt_tree ss) o)) close
    ∙ ap (λ (s : Stmts). Got (block s) behind') (list_stmts ss)

-- IF AND ELSE

head_is : (left : ℕ) (ts behind : List Token) → fixed false If ts ≡ Got tt behind
    → opening (stands false If) (λ t. tt {0}) (headed_in expression_at arguments_at left (under_at expression_at arguments_at left)) ts ≡ with_first (tt {0}) (headed_at left ts behind)
head_is zero ts behind is = ap (λ (o : Read (Unit {0})). o ⟫ deeper_by (headed_in expression_at arguments_at zero (under_at expression_at arguments_at zero)) ts) is
head_is (suc n) ts behind is = ap (λ (o : Read (Unit {0})). o ⟫ deeper_by (headed_in expression_at arguments_at (suc n) (under_at expression_at arguments_at (suc n))) ts) is

choice : (left : ℕ) (c : Expr) (s : Stmt) (o : Read Stmt) → give (choice_of expression_at arguments_at left (under_at expression_at arguments_at left)) (with_first (tt {0}, (c, s)) (give Some o)) ≡ give (if_else c s) o
choice left c s (Got b rest) = refl
choice left c s (Bad rest) = refl
choice left c s (Deep rest) = refl

pub if_else_is : (left : ℕ) (ts behind rest : List Token) (c : Expr) (s : Stmt) → fixed false If ts ≡ Got tt behind → headed_at left ts behind ≡ Got (c, s) rest → next_is false Else (head rest) ≡ true
    → if_in expression_at arguments_at left (under_at expression_at arguments_at left) ts ≡ give (if_else c s) (else_in expression_at arguments_at left (under_at expression_at arguments_at left) rest)
if_else_is left ts behind rest c s word headed is_else =
    let go : Unit {0} × (Expr × Stmt) → Reader (Option Stmt) = λ x. optional (next_is false Else) (else_in expression_at arguments_at left (under_at expression_at arguments_at left)) in
    ap (λ (o : Read (Unit {0} × (Expr × Stmt))). give (choice_of expression_at arguments_at left (under_at expression_at arguments_at left)) (and_then o go)) (head_is left ts behind word ∙ ap (with_first (tt {0})) headed)
    ∙ ap (λ (o : Read (Option Stmt)). give (choice_of expression_at arguments_at left (under_at expression_at arguments_at left)) (with_first (tt {0}, (c, s)) o)) (when_true (next_is false Else (head rest)) _ _ is_else)
    ∙ choice left c s (else_in expression_at arguments_at left (under_at expression_at arguments_at left) rest)

pub give_stops : {A B V W : Type 0} (seen : V → A) (seen' : W → B) (f : A → B) (o : Read A) (r : Result (W × Bor (List Token)) Stop) (stop : Stop) → r ≡ Err stop → Gives seen (Err stop) o → Gives seen' r (give f o)
give_stops seen seen' f o r stop is gives = subst (λ (r : Result (_ × Bor (List Token)) Stop). Gives seen' r (give f o)) (sym is) (by stop gives)
  where
    by : (stop : Stop) → Gives seen (Err stop) o → Gives seen' (Err stop) (give f o)
    by Memory gives = tt {0}
    by (Wrong at) gives = ap (give f) gives
    by (DeepStop at) gives = ap (give f) gives

-- THE FORM OF A STATEMENT

pub statement_form : (left : ℕ) (ts : List Token) (t : Token) (rest : List Token) (form other : Form) → ts ≡ t ∷ rest → form ≡ form_of (letter t) → form ≡ other
    → statement_at expression_at arguments_at left ts ≡ statement_by expression_at arguments_at left (under_at expression_at arguments_at left) other t rest
statement_form left ts t rest form other here is same =
    statement_is expression_at arguments_at left ts ∙ ap (statement_in expression_at arguments_at left (under_at expression_at arguments_at left)) here
    ∙ ap (λ (f : Form). statement_by expression_at arguments_at left (under_at expression_at arguments_at left) f t rest) (sym is ∙ same)

pub no_statement : (left : ℕ) (ts : List Token) → ts ≡ [] → statement_at expression_at arguments_at left ts ≡ Bad ts
no_statement left ts none = statement_is expression_at arguments_at left ts ∙ ap (statement_in expression_at arguments_at left (under_at expression_at arguments_at left)) none ∙ ap (λ (us : List Token). Bad us) (sym none)

-- behind a name that begins an assignment or a call
pub behind_name_is : (left : ℕ) (t : Token) (i : Ident) (ts : List Token) → i ≡ ident_of t → next_is_name (head ts) ≡ false
    → behind_name_in expression_at arguments_at left (under_at expression_at arguments_at left) t ts ≡ named_in expression_at arguments_at left (further_in expression_at arguments_at left left) left (plain_of None i) (called_on None i) ts
behind_name_is left t i ts is no_name =
    when_false (next_is_name (head ts)) _ _ no_name ∙ ap (λ (i : Ident). named_in expression_at arguments_at left (further_in expression_at arguments_at left left) left (plain_of None i) (called_on None i) ts) (sym is)
