-- The trees of texts, as the grammar sees them: without boxes and lists of the code.
use Rattle.std.specs.Prelude.{ℕ, Bool, List, Option}
use Rattle.java_tree.specs.declared.expressions.Sign.{Sign}
use Rattle.java_tree.specs.declared.names.Ident.{Ident}
use Rattle.java_tree.specs.declared.names.Modifier.{Modifier}
use Rattle.java_tree.specs.declared.names.TypeTree.{TypeTree}

-- an expression, of code or of a clause, with the place of its first token
mutual
  pub data Expr : Type 0 where
    num : ℕ → ℕ → Expr
    flag : ℕ → Bool → Expr
    null : ℕ → Expr
    this : ℕ → Expr
    outcome : ℕ → Expr
    make : ℕ → Ident → Expr
    named : ℕ → Ident → Expr
    call : ℕ → Ident → Exprs → Expr
    read : ℕ → Expr → Ident → Expr
    call_on : ℕ → Expr → Ident → Exprs → Expr
    paren : ℕ → Expr → Expr
    negation : ℕ → Expr → Expr
    minus : ℕ → Expr → Expr
    bin : ℕ → Sign → Expr → Expr → Expr
    old : ℕ → Expr → Expr
    quant : ℕ → Bool → Ident → Ident → Expr → Expr
    quant_in : ℕ → Bool → Ident → Ident → Expr → Expr → Expr
    has : ℕ → Expr → Ident → List Ident → Expr → Expr
    size : ℕ → Expr → Ident → List Ident → Expr

  pub data Exprs : Type 0 where
    none : Exprs
    also : Expr → Exprs → Exprs

-- a name that is declared, and the value that it begins with
pub record Decl : Type 0 where
  pub name : Ident
  pub value : Option Expr

-- a statement
mutual
  pub data Stmt : Type 0 where
    block : Stmts → Stmt
    blank : Stmt
    if_only : Expr → Stmt → Stmt
    if_else : Expr → Stmt → Stmt → Stmt
    loops : ℕ → Expr → Stmt → Stmt
    gives_back : ℕ → Option Expr → Stmt
    local : List Modifier → TypeTree → List Decl → Stmt
    set : Expr → Expr → Stmt
    step : Expr → Bool → Stmt
    run : Expr → Stmt

  pub data Stmts : Type 0 where
    done : Stmts
    next : Stmt → Stmts → Stmts

-- a clause of a method, with the place of its word
pub data Clause : Type 0 where
  needs : ℕ → Expr → Clause
  gives : ℕ → Expr → Clause

pub record Param : Type 0 where
  pub mods : List Modifier
  pub kind : TypeTree
  pub name : Ident

pub record Method : Type 0 where
  pub spec : List Clause
  pub mods : List Modifier
  pub result : Option TypeTree
  pub name : Ident
  pub params : List Param
  pub body : Stmts

-- a member of a class
pub data Part : Type 0 where
  invariant : ℕ → Expr → Part
  field : List Modifier → TypeTree → Ident → Part
  method : Method → Part

pub record Class : Type 0 where
  pub mods : List Modifier
  pub name : Ident
  pub members : List Part

-- the classes of a text
abbrev pub Classes : Type 0
Classes = List Class
