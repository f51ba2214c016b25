-- Names with their arguments, and what goes on with them by steps.
use Rattle.std.proofs.Common.{◌≡◌, ℕ, false, List, [], ◌∷◌, map, Option, Some, None, refl, sym, ◌∙◌, ap}
use Rattle.java_lex.specs.declared.spelling.Terminal.{Terminal}
use Rattle.java_lex.specs.declared.spelling.Terminal.TheVariants as terminal
use Rattle.java_lex.specs.declared.token.Token.{Token}
use Rattle.java_tree.specs.declared.expressions.JavaTree.{JavaTree}
use Rattle.java_tree.specs.Trees.{Expr, Exprs, also, call_on, read}
use Rattle.java_tree.specs.Phrases.{ident_of}
use Rattle.java_tree.specs.Expressions.{place}
use Rattle.java_tree.specs.Seen.{java_tree, java_trees}
use Rattle.reading_core.specs.Read.{Read, Got, Bad, Deep, at_side, expect, is_name, ◌>>=◌ as ◌⟫◌}
use Rattle.reading_core.specs.Deeper.{deeper, enclosed}
use Rattle.reading_core.proofs.Runs.{when_true}
use Rattle.expression_reading.specs.Levels.{level_of, within_left}
use Rattle.expression_reading.specs.Reading.{arguments_in, called_by, called_in, exprs, is_dot, is_dot_terminal, step_in, steps_in, unary_in}
use Rattle.expression_reading.proofs.Operands.{unary_is}
use Rattle.code_reader.specs.Targets.{step_on}
use Rattle.code_reader.specs.Descent.{given_by, given_in, named_in, step_of}

-- trees of the code, as arguments
pub exprs_trees : (ts : List JavaTree) → exprs (map java_tree ts) ≡ java_trees ts
exprs_trees [] = refl
exprs_trees (t ∷ ts) = ap (also (java_tree t)) (exprs_trees ts)

some_first : (r : Read Exprs) (f : Option Exprs → List Token → Read Expr) → r ⟫ (λ es rest. f (Some es) rest) ≡ (r ⟫ (λ es rest. Got (Some es) rest)) ⟫ f
some_first (Got es rest) f = refl
some_first (Bad rest) f = refl
some_first (Deep rest) f = refl

-- the steps behind an expression
abbrev steps_at : ℕ → Expr → List Token → Read Expr
steps_at left e rest = steps_in false (within_left false left) e rest

-- tree: what the name is with the arguments that are given
module _ (left : ℕ) (tree : Option Exprs → Expr) where
  called_by_given : (x : Terminal) (t : Token) (ts : List Token) → called_by x (within_left false left) (tree None) (λ es. tree (Some es)) t ts ≡ given_by x left t ts ⟫ (λ es rest. steps_at left (tree es) rest)
  called_by_given terminal.OpenParen t ts = some_first (enclosed false (within_left false left) t ts arguments_in) (λ es rest. steps_at left (tree es) rest)
  called_by_given x t ts = refl

  -- [ Args ], and then steps
  called_given : (ts : List Token) → called_in false (within_left false left) (tree None) (λ es. tree (Some es)) ts ≡ given_in left ts ⟫ (λ es rest. steps_at left (tree es) rest)
  called_given [] = refl
  called_given (t ∷ ts) = called_by_given (at_side false t) t ts

-- a name that begins an expression
pub name_is : (left : ℕ) (t : Token) (ts rest : List Token) → ts ≡ t ∷ rest → terminal.Name ≡ at_side false t → unary_in false (within_left false left) ts ≡ named_in left t rest
name_is left t ts rest parts is = unary_is false left terminal.Name t ts rest parts is ∙ called_given left (step_on None (ident_of t)) rest

-- a name behind a `.`, and then steps
step_given : (left : ℕ) (e : Expr) (ts : List Token) → step_in false (within_left false left) e ts ≡ step_of left e ts ⟫ steps_at left
step_given left e ts = by (expect (is_name false) ts)
  where
    inner : (i : Token) (r : Read (Option Exprs)) → r ⟫ (λ es rest. steps_at left (step_on (Some e) (ident_of i) es) rest) ≡ (r ⟫ (λ es rest. Got (step_on (Some e) (ident_of i) es) rest)) ⟫ steps_at left
    inner i (Got es rest) = refl
    inner i (Bad rest) = refl
    inner i (Deep rest) = refl

    by : (r : Read Token) → r ⟫ (λ i rest. called_in false (within_left false left) (read (place e) e (ident_of i)) (call_on (place e) e (ident_of i)) rest)
        ≡ (r ⟫ (λ i rest. given_in left rest ⟫ (λ es rest'. Got (step_on (Some e) (ident_of i) es) rest'))) ⟫ steps_at left
    by (Got i rest) = called_given left (step_on (Some e) (ident_of i)) rest ∙ inner i (given_in left rest)
    by (Bad rest) = refl
    by (Deep rest) = refl

-- a `.` opens a level, and what stands behind it goes on there
pub dot_is : (left less : ℕ) (e : Expr) (t : Token) (ts rest : List Token) → ts ≡ t ∷ rest → terminal.Dot ≡ at_side false t → within_left false left ≡ Some (level_of false less)
    → steps_in false (within_left false left) e ts ≡ step_of less e rest ⟫ (λ e rest. steps_in false (within_left false less) e rest)
dot_is left less e t ts rest parts is level =
    ap (steps_in false (within_left false left) e) parts ∙ when_true (is_dot false t) _ _ (ap is_dot_terminal (sym is)) ∙ ap (λ l. deeper l (t ∷ rest) rest (λ b. b.step e rest)) level ∙ step_given less e rest
