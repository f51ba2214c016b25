-- What the code's proofs cite.
use Rattle.std.proofs.Common.{◌≡◌, ℕ, zero, suc, false, List, [], ◌∷◌, map, Option, Some, None, refl, sym, ap, ◌∙◌}
use Rattle.java_lex.specs.declared.token.Token.{Token}
use Rattle.java_tree.specs.declared.statements.StmtTree.{StmtTree}
use Rattle.java_tree.specs.Trees.{Expr, Exprs, Stmt, next}
use Rattle.java_tree.specs.Seen.{stmt_tree, stmt_trees}
use Rattle.reading_core.specs.Read.{at_side}
use Rattle.java_reading.specs.declared.form.Reached.{Reached}
use Rattle.java_lex.specs.declared.spelling.Terminal.{Terminal}
use Rattle.java_reading.specs.declared.form.Turn.{Turn}
use Rattle.java_reading.specs.declared.form.Turn.TheVariants.{Goes}
use Rattle.java_reading.specs.Readers.{Reader, left_below}
use Rattle.java_reading.specs.StatementReading.{turn_of, turn_in, reached_in, further_in, step_in, statement_at, statement_in, under_at, stmts_of}

pub list_stmts : (ss : List StmtTree) → stmts_of (map stmt_tree ss) ≡ stmt_trees ss
list_stmts [] = refl
list_stmts (s ∷ ss) = ap (next (stmt_tree s)) (list_stmts ss)

module _ (expression : ℕ → Reader Expr) (arguments : ℕ → Reader Exprs) where
  pub further_some : (base left less : ℕ) → left_below left ≡ Some less → further_in expression arguments base left ≡ Some (step_in expression arguments base less)
  further_some base zero less is = cc
  further_some base (suc left) less is = let e : left ≡ less = cc in ap (λ n. Some (step_in expression arguments base n)) e

  pub further_none : (base left : ℕ) → left_below left ≡ None → further_in expression arguments base left ≡ None
  further_none base zero is = refl
  further_none base (suc left) is = cc

  -- a `.` and what stands behind it
  pub goes_is : (base left less : ℕ) (r : Reached) (e : Expr) (t : Token) (ts : List Token) → turn_of r (at_side false t) ≡ Goes → left_below left ≡ Some less
      → reached_in expression arguments base (further_in expression arguments base left) r e (t ∷ ts) ≡ step_in expression arguments base less e ts
  goes_is base left less r e t ts turn is = by (turn_of r (at_side false t)) turn ∙ further (further_in expression arguments base left) (further_some base left less is)
    where
      by : (w : Turn) → w ≡ Goes → turn_in expression arguments base (further_in expression arguments base left) e t ts w ≡ turn_in expression arguments base (further_in expression arguments base left) e t ts Goes
      by w same = ap (turn_in expression arguments base (further_in expression arguments base left) e t ts) same

      further : (f : Option (Expr → Reader Stmt)) → f ≡ Some (step_in expression arguments base less) → turn_in expression arguments base f e t ts Goes ≡ step_in expression arguments base less e ts
      further f same = ap (λ g. turn_in expression arguments base g e t ts Goes) same

  -- the same, by what the code has seen
  pub reached_goes : (base left less : ℕ) (r : Reached) (e : Expr) (t : Token) (rest ts : List Token) (x : Terminal) (w : Turn) (o : Option ℕ) → ts ≡ t ∷ rest → x ≡ at_side false t → w ≡ turn_of r x → w ≡ Goes → o ≡ left_below left → o ≡ Some less
      → reached_in expression arguments base (further_in expression arguments base left) r e ts ≡ step_in expression arguments base less e rest
  reached_goes base left less r e t rest ts x w o here terminal turn goes below is =
      ap (reached_in expression arguments base (further_in expression arguments base left) r e) here
      ∙ goes_is base left less r e t rest (ap (turn_of r) (sym terminal) ∙ sym turn ∙ goes) (sym below ∙ is)

  pub statement_is : (left : ℕ) (ts : List Token) → statement_at expression arguments left ts ≡ statement_in expression arguments left (under_at expression arguments left) ts
  unfolding statement_at
  statement_is zero ts = refl
  statement_is (suc left) ts = refl
