-- What stands within a limit on levels stands within a wider one.
use Rattle.std.proofs.Common.{ℕ, Bool, true, false, List, [], ◌∷◌, Option, None, Some, inl, inr}
use Rattle.java_lex.specs.declared.token.Token.{Token}
use Rattle.java_tree.specs.Trees.{Expr, num, flag, null, this, outcome, make, named, call, read, call_on, paren, negation, minus, bin, old, quant, quant_in, has, size, Exprs, none, also, Decl, Stmt, block, blank, if_only, if_else, loops, gives_back, local, set, step, run, Stmts, done, next, Clause, needs, gives, Method, Part, invariant, field, method, Class}
use Rattle.java_tree.specs.Phrases.{Phrase, Limit, ◌▸◌, either, where_, opens, closed}
use Rattle.java_tree.specs.Expressions.{phrase, arguments, more_arguments, bracketed, chained, is_steps, is_chain, left_tier, right_tier, whole, expression, predicate, unary, post}
use Rattle.java_tree.specs.Statements.{value_of, declaration, more_declarations, declarations, condition, returned, statement, statements}
use Rattle.java_tree.specs.Members.{Written, empty, one_part, fields, clause, clauses, some_clauses, specification, procedure, part, member, members, class_body, class, classes, unit, text}

-- each phrase of the one kind is one of the other
abbrev pub Sub : Phrase → Phrase → Type 0
Sub p q = (l : ℕ) (ts : List Token) (k : ℕ) (rest : List Token) → p l ts k rest → q l ts k rest

pub same : (p : Phrase) → Sub p p
same p l ts k rest h = h

pub thens : (p p' q q' : Phrase) → Sub p p' → Sub q q' → Sub (p ▸ q) (p' ▸ q')
thens p p' q q' f g l ts k rest (m, mid, a, b) = (m, mid, f l ts m mid a, g m mid k rest b)

pub closes : (p p' : Phrase) → Sub p p' → Sub (closed p) (closed p')
closes p p' f l ts k rest (m, a, is) = (m, f l ts m rest a, is)

pub wheres : (P : Type 0) (p p' : Phrase) → Sub p p' → Sub (where_ P p) (where_ P p')
wheres P p p' f l ts k rest (is, a) = (is, f l ts k rest a)

pub eithers : (p p' q q' : Phrase) → Sub p p' → Sub q q' → Sub (either p q) (either p' q')
eithers p p' q q' f g l ts k rest (inl a) = inl (f l ts k rest a)
eithers p p' q q' f g l ts k rest (inr b) = inr (g l ts k rest b)

pub chains : (goes_on : Bool) (p p' : Phrase) → Sub p p' → Sub (chained goes_on p) (chained goes_on p')
chains true p p' f = f
chains false p p' f = closes p p' f

module _ (May May' : Limit) (wider : (k : ℕ) (ts : List Token) → May k ts → May' k ts) where
  pub open_sub : Sub (opens May) (opens May')
  open_sub l ts k rest (up, may, is) = (up, wider k ts may, is)

  pub brackets : (side : Bool) (p p' : Phrase) → Sub p p' → Sub (bracketed May side p) (bracketed May' side p')
  brackets side p p' f = closes _ _ (thens _ _ _ _ (same _) (thens _ _ _ _ open_sub (thens _ _ _ _ f (same _))))

  mutual
    pub phrase_sub : (e : Expr) (side : Bool) (tier : ℕ) → Sub (phrase May e side tier) (phrase May' e side tier)
    phrase_sub (negation at a) side tier = wheres _ _ _ (closes _ _ (thens _ _ _ _ (same _) (thens _ _ _ _ open_sub (closes _ _ (phrase_sub a side unary)))))
    phrase_sub (minus at a) side tier = wheres _ _ _ (closes _ _ (thens _ _ _ _ (same _) (thens _ _ _ _ open_sub (closes _ _ (phrase_sub a side unary)))))
    phrase_sub (num at n) side tier = same _
    phrase_sub (flag at true) side tier = same _
    phrase_sub (flag at false) side tier = same _
    phrase_sub (null at) side tier = same _
    phrase_sub (this at) side tier = same _
    phrase_sub (named at i) side tier = same _
    phrase_sub (call at i args) side tier = wheres _ _ _ (wheres _ _ _ (thens _ _ _ _ (same _) (arguments_sub args)))
    phrase_sub (make at i) side tier = wheres _ _ _ (thens _ _ _ _ (same _) (thens _ _ _ _ (same _) (brackets side _ _ (same _))))
    phrase_sub (outcome at) side tier = same _
    phrase_sub (old at a) side tier = wheres _ _ _ (thens _ _ _ _ (same _) (brackets side _ _ (closes _ _ (phrase_sub a side (whole true)))))
    phrase_sub (paren at a) side tier = closes _ _ (thens _ _ _ _ (same _) (thens _ _ _ _ open_sub (thens _ _ _ _ (closes _ _ (phrase_sub a side (whole side))) (same _))))
    phrase_sub (read at a i) side tier = wheres _ _ _ (thens _ _ _ _ (chains (is_steps a) _ _ (phrase_sub a side post)) (thens _ _ _ _ (same _) (thens _ _ _ _ open_sub (same _))))
    phrase_sub (call_on at a i args) side tier =
        wheres _ _ _ (wheres _ _ _ (thens _ _ _ _ (chains (is_steps a) _ _ (phrase_sub a side post)) (thens _ _ _ _ (same _) (thens _ _ _ _ open_sub (thens _ _ _ _ (same _) (arguments_sub args))))))
    phrase_sub (quant at all kind i body) side tier =
        wheres _ _ _ (wheres _ _ _ (closes _ _ (thens _ _ _ _ (same _) (thens _ _ _ _ open_sub (thens _ _ _ _ (same _) (thens _ _ _ _ (same _) (thens _ _ _ _ (same _) (thens _ _ _ _ (same _)
        (thens _ _ _ _ (closes _ _ (phrase_sub body side (whole true))) (same _))))))))))
    phrase_sub (quant_in at all kind i range body) side tier =
        wheres _ _ _ (wheres _ _ _ (closes _ _ (thens _ _ _ _ (same _) (thens _ _ _ _ open_sub (thens _ _ _ _ (same _) (thens _ _ _ _ (same _) (thens _ _ _ _ (same _) (thens _ _ _ _ (same _)
        (thens _ _ _ _ (closes _ _ (phrase_sub range side (whole true))) (thens _ _ _ _ (same _) (thens _ _ _ _ (closes _ _ (phrase_sub body side (whole true))) (same _))))))))))))
    phrase_sub (has at a kind is b) side tier =
        wheres _ _ _ (wheres _ _ _ (thens _ _ _ _ (same _) (thens _ _ _ _ (brackets side _ _ (thens _ _ _ _ (closes _ _ (phrase_sub a side (whole true))) (same _)))
        (thens _ _ _ _ (same _) (thens _ _ _ _ (same _) (brackets side _ _ (closes _ _ (phrase_sub b side (whole true)))))))))
    phrase_sub (size at a kind is) side tier =
        wheres _ _ _ (wheres _ _ _ (thens _ _ _ _ (same _) (thens _ _ _ _ (brackets side _ _ (thens _ _ _ _ (closes _ _ (phrase_sub a side (whole true))) (same _)))
        (thens _ _ _ _ (same _) (thens _ _ _ _ (same _) (brackets side _ _ (same _)))))))
    phrase_sub (bin at s a b) side tier =
        wheres _ _ _ (wheres _ _ _ (thens _ _ _ _ (chains (is_chain s a) _ _ (phrase_sub a side (left_tier s))) (thens _ _ _ _ (same _) (thens _ _ _ _ open_sub (closes _ _ (phrase_sub b side (right_tier s)))))))

    pub arguments_sub : (es : Exprs) → Sub (arguments May es) (arguments May' es)
    arguments_sub none = brackets false _ _ (same _)
    arguments_sub (also e es) = brackets false _ _ (thens _ _ _ _ (closes _ _ (phrase_sub e false (whole false))) (more_arguments_sub es))

    pub more_arguments_sub : (es : Exprs) → Sub (more_arguments May es) (more_arguments May' es)
    more_arguments_sub none = same _
    more_arguments_sub (also e es) = thens _ _ _ _ (same _) (thens _ _ _ _ (closes _ _ (phrase_sub e false (whole false))) (more_arguments_sub es))

  pub expression_sub : (e : Expr) → Sub (expression May e) (expression May' e)
  expression_sub e = closes _ _ (phrase_sub e false (whole false))

  pub predicate_sub : (e : Expr) → Sub (predicate May e) (predicate May' e)
  predicate_sub e = closes _ _ (phrase_sub e true (whole true))

  -- statements

  value_sub : (v : Option Expr) → Sub (value_of May v) (value_of May' v)
  value_sub None = same _
  value_sub (Some e) = thens _ _ _ _ (same _) (expression_sub e)

  declaration_sub : (d : Decl) → Sub (declaration May d) (declaration May' d)
  declaration_sub d = thens _ _ _ _ (same _) (value_sub d.value)

  more_declarations_sub : (ds : List Decl) → Sub (more_declarations May ds) (more_declarations May' ds)
  more_declarations_sub [] = same _
  more_declarations_sub (d ∷ ds) = thens _ _ _ _ (same _) (thens _ _ _ _ (declaration_sub d) (more_declarations_sub ds))

  declarations_sub : (ds : List Decl) → Sub (declarations May ds) (declarations May' ds)
  declarations_sub [] = same _
  declarations_sub (d ∷ ds) = thens _ _ _ _ (declaration_sub d) (more_declarations_sub ds)

  condition_sub : (c : Expr) → Sub (condition May c) (condition May' c)
  condition_sub c = brackets false _ _ (expression_sub c)

  returned_sub : (v : Option Expr) → Sub (returned May v) (returned May' v)
  returned_sub None = same _
  returned_sub (Some e) = expression_sub e

  mutual
    pub statement_sub : (s : Stmt) → Sub (statement May s) (statement May' s)
    statement_sub (block ss) = closes _ _ (thens _ _ _ _ (same _) (thens _ _ _ _ open_sub (thens _ _ _ _ (statements_sub ss) (same _))))
    statement_sub blank = same _
    statement_sub (if_only c a) = closes _ _ (thens _ _ _ _ (same _) (thens _ _ _ _ open_sub (thens _ _ _ _ (condition_sub c) (statement_sub a))))
    statement_sub (if_else c a b) =
        wheres _ _ _ (thens _ _ _ _ (closes _ _ (thens _ _ _ _ (same _) (thens _ _ _ _ open_sub (thens _ _ _ _ (condition_sub c) (statement_sub a)))))
        (closes _ _ (thens _ _ _ _ (same _) (thens _ _ _ _ open_sub (statement_sub b)))))
    statement_sub (loops at c a) = closes _ _ (thens _ _ _ _ (same _) (thens _ _ _ _ open_sub (thens _ _ _ _ (condition_sub c) (statement_sub a))))
    statement_sub (gives_back at v) = thens _ _ _ _ (same _) (thens _ _ _ _ (returned_sub v) (same _))
    statement_sub (local mods kind ds) = thens _ _ _ _ (same _) (thens _ _ _ _ (same _) (thens _ _ _ _ (declarations_sub ds) (same _)))
    statement_sub (set a e) = wheres _ _ _ (thens _ _ _ _ (expression_sub a) (thens _ _ _ _ (same _) (thens _ _ _ _ (expression_sub e) (same _))))
    statement_sub (step a up) = wheres _ _ _ (thens _ _ _ _ (expression_sub a) (same _))
    statement_sub (run e) = wheres _ _ _ (thens _ _ _ _ (expression_sub e) (same _))

    pub statements_sub : (ss : Stmts) → Sub (statements May ss) (statements May' ss)
    statements_sub done = same _
    statements_sub (next s ss) = thens _ _ _ _ (statement_sub s) (statements_sub ss)

  -- members

  clause_sub : (c : Clause) → Sub (clause May c) (clause May' c)
  clause_sub (needs at e) = thens _ _ _ _ (same _) (thens _ _ _ _ (predicate_sub e) (same _))
  clause_sub (gives at e) = thens _ _ _ _ (same _) (thens _ _ _ _ (predicate_sub e) (same _))

  clauses_sub : (cs : List Clause) → Sub (clauses May cs) (clauses May' cs)
  clauses_sub [] = same _
  clauses_sub (c ∷ cs) = thens _ _ _ _ (clause_sub c) (clauses_sub cs)

  some_clauses_sub : (cs : List Clause) → Sub (some_clauses May cs) (some_clauses May' cs)
  some_clauses_sub [] = same _
  some_clauses_sub (c ∷ cs) = clauses_sub (c ∷ cs)

  specification_sub : (cs : List Clause) → Sub (specification May cs) (specification May' cs)
  specification_sub cs = eithers _ _ _ _ (same _) (eithers _ _ _ _ (thens _ _ _ _ (same _) (thens _ _ _ _ (same _) (clauses_sub cs))) (some_clauses_sub cs))

  procedure_sub : (m : Method) → Sub (procedure May m) (procedure May' m)
  procedure_sub m =
      thens _ _ _ _ (specification_sub m.spec) (thens _ _ _ _ (same _) (thens _ _ _ _ (same _) (thens _ _ _ _ (same _) (thens _ _ _ _ (same _) (thens _ _ _ _ (same _) (thens _ _ _ _ (same _)
      (thens _ _ _ _ (same _) (thens _ _ _ _ (closes _ _ (statements_sub m.body)) (same _)))))))))

  part_sub : (p : Part) → Sub (part May p) (part May' p)
  part_sub (invariant at e) = thens _ _ _ _ (same _) (thens _ _ _ _ (same _) (thens _ _ _ _ (predicate_sub e) (same _)))
  part_sub (field mods kind i) = same _
  part_sub (method m) = procedure_sub m

  member_sub : (w : Written) → Sub (member May w) (member May' w)
  member_sub empty = same _
  member_sub (one_part p) = part_sub p
  member_sub (fields mods kind i is) = same _

  members_sub : (ws : List Written) → Sub (members May ws) (members May' ws)
  members_sub [] = same _
  members_sub (w ∷ ws) = thens _ _ _ _ (member_sub w) (members_sub ws)

  class_body_sub : (ps : List Part) → Sub (class_body May ps) (class_body May' ps)
  class_body_sub ps l ts k rest (written, is, h) = (written, is, members_sub written l ts k rest h)

  class_sub : (c : Class) → Sub (class May c) (class May' c)
  class_sub c = thens _ _ _ _ (same _) (thens _ _ _ _ (same _) (thens _ _ _ _ (same _) (thens _ _ _ _ (same _) (thens _ _ _ _ (class_body_sub c.members) (same _)))))

  classes_sub : (cs : List Class) → Sub (classes May cs) (classes May' cs)
  classes_sub [] = same _
  classes_sub (c ∷ cs) = thens _ _ _ _ (class_sub c) (classes_sub cs)

  unit_sub : (cs : List Class) → Sub (unit May cs) (unit May' cs)
  unit_sub [] = same _
  unit_sub (c ∷ cs) = thens _ _ _ _ (same _) (thens _ _ _ _ (same _) (classes_sub (c ∷ cs)))

  pub text_sub : (cs : List Class) → Sub (text May cs) (text May' cs)
  text_sub cs = thens _ _ _ _ (unit_sub cs) (same _)
