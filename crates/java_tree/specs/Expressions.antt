-- The grammar of expressions, production by production. (Java Language Specification, "Expressions"; JML
-- Reference Manual, "Predicates and Specification Expressions".)
--
--     Expr    = Or                                            JExpr   = Implies { "<==>" Implies }
--     Or      = And { "||" And }                              Implies = Or [ "==>" Implies ]
--     And     = Equal { "&&" Equal }
--     Equal   = Order { ( "==" | "!=" ) Order }
--     Order   = Sum { ( "<" | "<=" | ">" | ">=" ) Sum }
--     Sum     = Product { ( "+" | "-" ) Product }
--     Product = Unary { "*" Unary }
--
-- These are tiers: a production of one tier stands wherever one of a higher tier may. Clauses have the same
-- tiers up to Or, all of their tokens in annotations.
use Rattle.std.specs.Prelude.{◌≡◌, ℕ, ◌-◌, ◌≤◌, ◌==◌, Bool, true, false, List, [], ◌∷◌}
use Rattle.java_lex.specs.declared.spelling.Terminal.{Terminal}
use Rattle.java_lex.specs.declared.spelling.Terminal.TheVariants as terminal
use Rattle.java_lex.specs.declared.words.TheConstants.{HAS, INT_SIZE}
use Rattle.java_tree.specs.declared.expressions.Sign.{Sign}
use Rattle.java_tree.specs.declared.expressions.Sign.TheVariants.{Add, Sub, Mul, Eq, Ne, Lt, Le, Gt, Ge, And, Or, Implies, Iff}
use Rattle.java_tree.specs.declared.names.Ident.{Ident}
use Rattle.java_tree.specs.Trees.{Expr, num, flag, null, this, outcome, make, named, call, read, call_on, paren, negation, minus, bin, old, quant, quant_in, has, size, Exprs, none, also}
use Rattle.java_tree.specs.Phrases.{Phrase, Limit, ◌▸◌, nothing, where_, one, one_at, name, word, number, opens, closed}

-- the tiers
abbrev pub post : ℕ
post = 0

abbrev pub unary : ℕ
unary = 1

abbrev pub or : ℕ
or = 7

abbrev pub implies : ℕ
implies = 8

-- the tier of a whole expression: of code, and of a clause
abbrev pub whole : Bool → ℕ
whole false = or
whole true = 9

-- the tier of the production that an operator belongs to
abbrev pub tier_of : Sign → ℕ
tier_of Mul = 2
tier_of Add = 3
tier_of Sub = 3
tier_of Lt = 4
tier_of Le = 4
tier_of Gt = 4
tier_of Ge = 4
tier_of Eq = 5
tier_of Ne = 5
tier_of And = 6
tier_of Or = or
tier_of Implies = implies
tier_of Iff = 9

abbrev pub terminal_of_sign : Sign → Terminal
terminal_of_sign Mul = terminal.Times
terminal_of_sign Add = terminal.Plus
terminal_of_sign Sub = terminal.Minus
terminal_of_sign Lt = terminal.Less
terminal_of_sign Le = terminal.AtMost
terminal_of_sign Gt = terminal.Greater
terminal_of_sign Ge = terminal.AtLeast
terminal_of_sign Eq = terminal.Equal
terminal_of_sign Ne = terminal.NotEqual
terminal_of_sign And = terminal.And
terminal_of_sign Or = terminal.Or
terminal_of_sign Implies = terminal.Implies
terminal_of_sign Iff = terminal.Iff

-- the tier of the left operand: chains associate to the left, `==>` to the right
abbrev pub left_tier : Sign → ℕ
left_tier Implies = or
left_tier s = tier_of s

-- the tier of the right operand
abbrev pub right_tier : Sign → ℕ
right_tier Implies = implies
right_tier s = tier_of s - 1

-- the place of an expression's first token
abbrev pub place : Expr → ℕ
place (num at n) = at
place (flag at b) = at
place (null at) = at
place (this at) = at
place (outcome at) = at
place (make at name) = at
place (named at name) = at
place (call at name args) = at
place (read at a name) = at
place (call_on at a name args) = at
place (paren at a) = at
place (negation at a) = at
place (minus at a) = at
place (bin at s a b) = at
place (old at a) = at
place (quant at all kind name body) = at
place (quant_in at all kind name range body) = at
place (has at a kind fields b) = at
place (size at a kind fields) = at

-- an operator's left operand is a chain of the operator's own production
abbrev pub is_chain : Sign → Expr → Bool
is_chain Implies a = false
is_chain s (bin at r a b) = tier_of r == tier_of s
is_chain s a = false

-- what stands before a `.` has one itself
abbrev pub is_steps : Expr → Bool
is_steps (read at a name) = true
is_steps (call_on at a name args) = true
is_steps a = false

-- each operator of a chain, and each `.`, opens a level up to the end of the chain; other operands close theirs
abbrev pub chained : Bool → Phrase → Phrase
chained true p = p
chained false p = closed p

-- the names of fields of a reach: JName { "+" JName }
abbrev pub more_fields : List Ident → Phrase
more_fields [] = nothing
more_fields (f ∷ fs) = one (true, terminal.Plus) ▸ name true f ▸ more_fields fs

abbrev pub fields_of : List Ident → Phrase
fields_of [] = where_ ⊥ nothing
fields_of (f ∷ fs) = name true f ▸ more_fields fs

abbrev pub quantifier : Bool → Terminal
quantifier true = terminal.Forall
quantifier false = terminal.Exists

-- May: which levels may be opened
module _ (May : Limit) where
  -- `(`, the phrase, `)`; the `(` opens a level
  abbrev pub bracketed : Bool → Phrase → Phrase
  bracketed side p = closed (one (side, terminal.OpenParen) ▸ opens May ▸ p ▸ one (side, terminal.CloseParen))

  -- an expression of the tier, of code (false) or of a clause (true); the levels of its own chain stay open
  abbrev mutual
    pub phrase : Expr → Bool → ℕ → Phrase
    -- Unary = ( "!" | "-" ) Unary | Number | "true" | "false" | "null" | Post
    phrase (negation at a) side tier = where_ (unary ≤ tier) (closed (one_at (side, terminal.Not) at ▸ opens May ▸ closed (phrase a side unary)))
    phrase (minus at a) side tier = where_ (unary ≤ tier) (closed (one_at (side, terminal.Minus) at ▸ opens May ▸ closed (phrase a side unary)))
    phrase (num at n) side tier = where_ (unary ≤ tier) (number side at n)
    phrase (flag at true) side tier = where_ (unary ≤ tier) (one_at (side, terminal.True) at)
    phrase (flag at false) side tier = where_ (unary ≤ tier) (one_at (side, terminal.False) at)
    phrase (null at) side tier = where_ (unary ≤ tier) (one_at (side, terminal.Null) at)
    -- Post = ( "this" | Step | "new" Name "(" ")" | "(" Expr ")" ) { "." Step }
    -- Step = Name [ Args ]
    -- JPost = ( "this" | JName | "\result" | "\old" "(" JExpr ")" | "(" JExpr ")" ) { "." JName }
    phrase (this at) side tier = one_at (side, terminal.This) at
    phrase (named at i) side tier = where_ (at ≡ i.at) (name side i)
    phrase (call at i args) side tier = where_ (side ≡ false) (where_ (at ≡ i.at) (name side i ▸ arguments args))
    phrase (make at i) side tier = where_ (side ≡ false) (one_at (side, terminal.New) at ▸ name side i ▸ bracketed side nothing)
    phrase (outcome at) side tier = where_ (side ≡ true) (one_at (side, terminal.ResultValue) at)
    phrase (old at a) side tier = where_ (side ≡ true) (one_at (side, terminal.Old) at ▸ bracketed side (closed (phrase a side (whole true))))
    phrase (paren at a) side tier = closed (one_at (side, terminal.OpenParen) at ▸ opens May ▸ closed (phrase a side (whole side)) ▸ one (side, terminal.CloseParen))
    phrase (read at a i) side tier = where_ (at ≡ place a) (chained (is_steps a) (phrase a side post) ▸ one (side, terminal.Dot) ▸ opens May ▸ name side i)
    phrase (call_on at a i args) side tier = where_ (side ≡ false) (where_ (at ≡ place a) (chained (is_steps a) (phrase a side post) ▸ one (side, terminal.Dot) ▸ opens May ▸ name side i ▸ arguments args))
    -- JPost = .. | "(" ( "\forall" | "\exists" ) JName JName ";" JExpr [ ";" JExpr ] ")"
    phrase (quant at all kind i body) side tier =
        where_ (side ≡ true) (where_ (unary ≤ tier)
        (closed (one_at (side, terminal.OpenParen) at ▸ opens May ▸ one (side, quantifier all) ▸ name side kind ▸ name side i ▸ one (side, terminal.Semicolon) ▸ closed (phrase body side (whole true)) ▸ one (side, terminal.CloseParen))))
    phrase (quant_in at all kind i range body) side tier =
        where_ (side ≡ true) (where_ (unary ≤ tier)
        (closed (one_at (side, terminal.OpenParen) at ▸ opens May ▸ one (side, quantifier all) ▸ name side kind ▸ name side i ▸ one (side, terminal.Semicolon) ▸ closed (phrase range side (whole true)) ▸ one (side, terminal.Semicolon) ▸ closed (phrase body side (whole true)) ▸ one (side, terminal.CloseParen))))
    -- JUnary = .. | Reach "." "has" "(" JExpr ")" | Reach "." "int_size" "(" ")"
    -- Reach = "\reach" "(" JExpr "," JName "," JName { "+" JName } ")"
    phrase (has at a kind fields b) side tier =
        where_ (side ≡ true) (where_ (unary ≤ tier)
        (one_at (side, terminal.Reach) at ▸ bracketed side (closed (phrase a side (whole true)) ▸ one (side, terminal.Comma) ▸ name side kind ▸ one (side, terminal.Comma) ▸ fields_of fields)
        ▸ one (side, terminal.Dot) ▸ word side HAS.now ▸ bracketed side (closed (phrase b side (whole true)))))
    phrase (size at a kind fields) side tier =
        where_ (side ≡ true) (where_ (unary ≤ tier)
        (one_at (side, terminal.Reach) at ▸ bracketed side (closed (phrase a side (whole true)) ▸ one (side, terminal.Comma) ▸ name side kind ▸ one (side, terminal.Comma) ▸ fields_of fields)
        ▸ one (side, terminal.Dot) ▸ word side INT_SIZE.now ▸ bracketed side nothing))
    -- the chains of operators, from Product to Or, `<==>`; and `==>`
    phrase (bin at s a b) side tier =
        where_ (tier_of s ≤ tier) (where_ (at ≡ place a)
        (chained (is_chain s a) (phrase a side (left_tier s)) ▸ one (side, terminal_of_sign s) ▸ opens May ▸ closed (phrase b side (right_tier s))))

    -- Args = "(" [ Expr { "," Expr } ] ")"
    pub arguments : Exprs → Phrase
    arguments none = bracketed false nothing
    arguments (also e es) = bracketed false (closed (phrase e false (whole false)) ▸ more_arguments es)

    pub more_arguments : Exprs → Phrase
    more_arguments none = nothing
    more_arguments (also e es) = one (false, terminal.Comma) ▸ closed (phrase e false (whole false)) ▸ more_arguments es

  -- an expression of code
  abbrev pub expression : Expr → Phrase
  expression e = closed (phrase e false (whole false))

  -- an expression of a clause
  abbrev pub predicate : Expr → Phrase
  predicate e = closed (phrase e true (whole true))
