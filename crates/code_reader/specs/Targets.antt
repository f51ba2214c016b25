-- A name behind a `.`, or alone.
use Rattle.std.specs.Prelude.{Option, Some, None}
use Rattle.java_tree.specs.declared.names.Ident.{Ident}
use Rattle.java_tree.specs.Trees.{Expr, named, call, read, call_on, Exprs}
use Rattle.java_tree.specs.Expressions.{place}

abbrev pub plain_of : Option Expr → Ident → Expr
plain_of None i = named i.at i
plain_of (Some e) i = read (place e) e i

-- with arguments
abbrev pub called_on : Option Expr → Ident → Exprs → Expr
called_on None i es = call i.at i es
called_on (Some e) i es = call_on (place e) e i es

-- with arguments or without
abbrev pub step_on : Option Expr → Ident → Option Exprs → Expr
step_on target i None = plain_of target i
step_on target i (Some es) = called_on target i es
