-- Statements, printed and read again.
use Rattle.std.proofs.Common.{◌≡◌, Bool, true, false, List, [], ◌∷◌, ◌++◌, map, refl, sym, ◌∙◌, ap, append_assoc}
use Rattle.std.specs.Prelude.{Option, Some, None, option_map}
use Rattle.std.specs.List.{flat_map}
use Rattle.java_lex.specs.declared.words.TheConstants.{COMMA}
use Rattle.java_tree.specs.declared.names.TypeTree.{TypeTree}
use Rattle.java_tree.specs.declared.names.TypeTree.TheVariants.{Int, Flag, Class as class_type}
use Rattle.java_tree.specs.Trees.{Expr, num, flag, null, this, outcome, make, named, call, read, call_on, paren, negation, minus, bin, old, quant, quant_in, has, size, Decl, Stmt, block, blank, if_only, if_else, loops, gives_back, local, set, step, run, Stmts, done, next}
use Rattle.java_tree.specs.Phrases.{java, one}
use Rattle.java_tree.specs.Statements.{type_of, is_target, is_place, is_run, takes_else, stepped, value_of, declaration, more_declarations, declarations, condition, returned, statement, statements, is_local_modifier}
use Rattle.java_tree.specs.Reading.{within}
use Rattle.java_tree.specs.Print.{symbol, word, type_text, value_written, decl_written, decls_written, condition_written, returned_written, stepped_text, stmt_written, stmts_written}
use Rattle.round_trip.specs.Bare.{bare, bare_type, bare_declaration, bare_statement, bare_statements}
use Rattle.round_trip.proofs.Redo.{Again, thens, closes, recast, given, nothing_again, opens_again, fixed, placed, name_again, two, three}
use Rattle.round_trip.proofs.Fixed.{semicolon, comma, assign, increment, decrement, open_brace, close_brace, if_word, else_word, while_word, return_word, int_word, boolean_word}
use Rattle.round_trip.proofs.Expressions.{Same, code_again, brackets_again}
use Rattle.round_trip.proofs.Modifiers.{modifiers_again}

-- WHAT IS THE SAME WITHOUT PLACES

target_bare : (e : Expr) → is_target (bare e) ≡ is_target e
target_bare (num at n) = refl
target_bare (flag at b) = refl
target_bare (null at) = refl
target_bare (this at) = refl
target_bare (outcome at) = refl
target_bare (make at i) = refl
target_bare (named at i) = refl
target_bare (call at i args) = refl
target_bare (read at a i) = target_bare a
target_bare (call_on at a i args) = target_bare a
target_bare (paren at a) = refl
target_bare (negation at a) = refl
target_bare (minus at a) = refl
target_bare (bin at s a b) = refl
target_bare (old at a) = refl
target_bare (quant at all k i body) = refl
target_bare (quant_in at all k i range body) = refl
target_bare (has at a k fields b) = refl
target_bare (size at a k fields) = refl

place_bare : (e : Expr) → is_place (bare e) ≡ is_place e
place_bare (num at n) = refl
place_bare (flag at b) = refl
place_bare (null at) = refl
place_bare (this at) = refl
place_bare (outcome at) = refl
place_bare (make at i) = refl
place_bare (named at i) = refl
place_bare (call at i args) = refl
place_bare (read at a i) = target_bare a
place_bare (call_on at a i args) = refl
place_bare (paren at a) = refl
place_bare (negation at a) = refl
place_bare (minus at a) = refl
place_bare (bin at s a b) = refl
place_bare (old at a) = refl
place_bare (quant at all k i body) = refl
place_bare (quant_in at all k i range body) = refl
place_bare (has at a k fields b) = refl
place_bare (size at a k fields) = refl

run_bare : (e : Expr) → is_run (bare e) ≡ is_run e
run_bare (num at n) = refl
run_bare (flag at b) = refl
run_bare (null at) = refl
run_bare (this at) = refl
run_bare (outcome at) = refl
run_bare (make at i) = refl
run_bare (named at i) = refl
run_bare (call at i args) = refl
run_bare (read at a i) = refl
run_bare (call_on at a i args) = target_bare a
run_bare (paren at a) = refl
run_bare (negation at a) = refl
run_bare (minus at a) = refl
run_bare (bin at s a b) = refl
run_bare (old at a) = refl
run_bare (quant at all k i body) = refl
run_bare (quant_in at all k i range body) = refl
run_bare (has at a k fields b) = refl
run_bare (size at a k fields) = refl

same_test : (test : Expr → Bool) → ((e : Expr) → test (bare e) ≡ test e) → (a b : Expr) → Same a b → test a ≡ true → test b ≡ true
same_test test bare_so a b same is = sym (bare_so b) ∙ ap test same ∙ bare_so a ∙ is

-- the same statement but for its places
abbrev pub SameStatement : Stmt → Stmt → Type 0
SameStatement s t = bare_statement t ≡ bare_statement s

else_bare : (s : Stmt) → takes_else (bare_statement s) ≡ takes_else s
else_bare (block ss) = refl
else_bare blank = refl
else_bare (if_only c a) = refl
else_bare (if_else c a b) = else_bare b
else_bare (loops at c a) = else_bare a
else_bare (gives_back at e) = refl
else_bare (local mods kind ds) = refl
else_bare (set a e) = refl
else_bare (step a up) = refl
else_bare (run e) = refl

-- THE PARTS OF STATEMENTS

pub type_again : (k : TypeTree) → Again TypeTree (word false (type_text k)) (type_of k) type_of (λ t. bare_type t ≡ bare_type k)
type_again Int = recast (fixed int_word) (λ u. Int) refl (λ u s. refl) (λ u s l ts k rest y. y)
type_again Flag = recast (fixed boolean_word) (λ u. Flag) refl (λ u s. refl) (λ u s l ts k rest y. y)
type_again (class_type i) = recast (name_again false i) (λ j. class_type j) refl (λ j s. ap (λ n. class_type n) s) (λ j s l ts k rest y. y)

value_again : (v : Option Expr) → Again (Option Expr) (value_written v) (value_of within v) (value_of within) (λ w. option_map bare w ≡ option_map bare v)
value_again None = recast nothing_again (λ u. None) refl (λ u s. refl) (λ u s l ts k rest y. y)
value_again (Some e) = recast (thens (fixed assign) (code_again e)) (λ x. Some x.1) refl (λ x s. ap (λ b. Some b) s.1) (λ x s l ts k rest y. y)

declaration_again : (d : Decl) → Again Decl (decl_written d) (declaration within d) (declaration within) (λ e. bare_declaration e ≡ bare_declaration d)
declaration_again d =
    recast (thens (name_again false d.name) (value_again d.value)) (λ x. record { name = x.0; value = x.1 }) refl (λ x s. two (λ n v. record { name = n; value = v }) s.0 s.1) (λ x s l ts k rest y. y)

more_declarations_again : (ds : List Decl)
    → Again (List Decl) (flat_map (λ e. symbol false COMMA.now ++ decl_written e) ds) (more_declarations within ds) (more_declarations within) (λ es. map bare_declaration es ≡ map bare_declaration ds)
more_declarations_again [] = recast nothing_again (λ u. []) refl (λ u s. refl) (λ u s l ts k rest y. y)
more_declarations_again (d ∷ ds) =
    recast (thens (fixed (comma false)) (thens (declaration_again d) (more_declarations_again ds))) (λ x. x.1.0 ∷ x.1.1) refl (λ x s. two (λ e es. e ∷ es) s.1.0 s.1.1) (λ x s l ts k rest y. y)

declarations_again : (ds : List Decl) → Again (List Decl) (decls_written ds) (declarations within ds) (declarations within) (λ es. map bare_declaration es ≡ map bare_declaration ds)
declarations_again [] = given (λ no. absurd no)
declarations_again (d ∷ ds) =
    recast (thens (declaration_again d) (more_declarations_again ds)) (λ x. x.0 ∷ x.1) refl (λ x s. two (λ e es. e ∷ es) s.0 s.1) (λ x s l ts k rest y. y)

condition_again : (c : Expr) → Again Expr (condition_written c) (condition within c) (condition within) (Same c)
condition_again c = brackets_again false (code_again c)

returned_again : (v : Option Expr) → Again (Option Expr) (returned_written v) (returned within v) (returned within) (λ w. option_map bare w ≡ option_map bare v)
returned_again None = recast nothing_again (λ u. None) refl (λ u s. refl) (λ u s l ts k rest y. y)
returned_again (Some e) = recast (code_again e) (λ b. Some b) refl (λ b s. ap (λ c. Some c) s) (λ b s l ts k rest y. y)

stepped_again : (up : Bool) → Again (Unit {0}) (symbol false (stepped_text up)) (one (java (stepped up))) (λ u. one (java (stepped up))) (λ u. Unit {0})
stepped_again true = fixed increment
stepped_again false = fixed decrement

-- STATEMENTS

mutual
  pub statement_again : (s : Stmt) → Again Stmt (stmt_written s) (statement within s) (statement within) (SameStatement s)
  statement_again (block ss) =
      recast (closes (thens (fixed open_brace) (thens opens_again (thens (statements_again ss) (fixed close_brace))))) (λ x. block x.1.1.0) refl (λ x s. ap (λ b. block b) s.1.1.0) (λ x s l ts k rest y. y)
  statement_again blank = recast (fixed (semicolon false)) (λ u. blank) refl (λ u s. refl) (λ u s l ts k rest y. y)
  statement_again (if_only c a) =
      recast (closes (thens (fixed if_word) (thens opens_again (thens (condition_again c) (statement_again a))))) (λ x. if_only x.1.1.0 x.1.1.1) (simp append_assoc)
      (λ x s. two (λ d b. if_only d b) s.1.1.0 s.1.1.1) (λ x s l ts k rest y. y)
  statement_again (if_else c a b) =
      given (λ no_else. recast
      (thens (closes (thens (fixed if_word) (thens opens_again (thens (condition_again c) (statement_again a))))) (closes (thens (fixed else_word) (thens opens_again (statement_again b)))))
      (λ x. if_else x.0.1.1.0 x.0.1.1.1 x.1.1.1) (simp append_assoc) (λ x s. three (λ d e f. if_else d e f) s.0.1.1.0 s.0.1.1.1 s.1.1.1)
      (λ x s l ts k rest y. (sym (else_bare x.0.1.1.1) ∙ ap takes_else s.0.1.1.1 ∙ else_bare a ∙ no_else, y)))
  statement_again (loops at c a) =
      recast (closes (thens (placed while_word at) (thens opens_again (thens (condition_again c) (statement_again a))))) (λ x. loops x.0 x.1.1.0 x.1.1.1) (simp append_assoc)
      (λ x s. two (λ d b. loops 0 d b) s.1.1.0 s.1.1.1) (λ x s l ts k rest y. y)
  statement_again (gives_back at e) =
      recast (thens (placed return_word at) (thens (returned_again e) (fixed (semicolon false)))) (λ x. gives_back x.0 x.1.0) (simp append_assoc) (λ x s. ap (λ f. gives_back 0 f) s.1.0) (λ x s l ts k rest y. y)
  statement_again (local mods k ds) =
      recast (thens (modifiers_again is_local_modifier mods) (thens (type_again k) (thens (declarations_again ds) (fixed (semicolon false))))) (λ x. local x.0 x.1.0 x.1.1.0) (simp append_assoc)
      (λ x s. three (λ m t d. local m t d) s.0 s.1.0 s.1.1.0) (λ x s l ts k rest y. y)
  statement_again (set a e) =
      given (λ is. recast (thens (code_again a) (thens (fixed assign) (thens (code_again e) (fixed (semicolon false))))) (λ x. set x.0 x.1.1.0) (simp append_assoc)
      (λ x s. two (λ b c. set b c) s.0 s.1.1.0) (λ x s l ts k rest y. (same_test is_place place_bare a x.0 s.0 is, y)))
  statement_again (step a up) =
      given (λ is. recast (thens (code_again a) (thens (stepped_again up) (fixed (semicolon false)))) (λ x. step x.0 up) (simp append_assoc) (λ x s. ap (λ b. step b up) s.0) (λ x s l ts k rest y. (same_test is_place place_bare a x.0 s.0 is, y)))
  statement_again (run e) =
      given (λ is. recast (thens (code_again e) (fixed (semicolon false))) (λ x. run x.0) refl (λ x s. ap (λ b. run b) s.0) (λ x s l ts k rest y. (same_test is_run run_bare e x.0 s.0 is, y)))

  pub statements_again : (ss : Stmts) → Again Stmts (stmts_written ss) (statements within ss) (statements within) (λ us. bare_statements us ≡ bare_statements ss)
  statements_again done = recast nothing_again (λ u. done) refl (λ u s. refl) (λ u s l ts k rest y. y)
  statements_again (next s ss) = recast (thens (statement_again s) (statements_again ss)) (λ x. next x.0 x.1) refl (λ x t. two (λ b bs. next b bs) t.0 t.1) (λ x t l ts k rest y. y)
