-- Trees but for their places.
use Rattle.std.specs.Prelude.{map, option_map}
use Rattle.java_tree.specs.declared.names.Ident.{Ident}
use Rattle.java_tree.specs.declared.names.Modifier.{Modifier}
use Rattle.java_tree.specs.declared.names.TypeTree.{TypeTree}
use Rattle.java_tree.specs.declared.names.TypeTree.TheVariants.{Int, Flag, Class as class_type}
use Rattle.java_tree.specs.Trees.{Expr, num, flag, null, this, outcome, make, named, call, read, call_on, paren, negation, minus, bin, old, quant, quant_in, has, size, Exprs, none, also, Decl, Stmt, block, blank, if_only, if_else, loops, gives_back, local, set, step, run, Stmts, done, next, Clause, needs, gives, Param, Method, Part, invariant, field, method, Class, Classes}

-- each place is 0

abbrev pub bare_name : Ident → Ident
bare_name i = record { text = i.text; at = 0 }

abbrev pub bare_modifier : Modifier → Modifier
bare_modifier m = record { word = m.word; at = 0 }

abbrev pub bare_type : TypeTree → TypeTree
bare_type Int = Int
bare_type Flag = Flag
bare_type (class_type i) = class_type (bare_name i)

abbrev mutual
  pub bare : Expr → Expr
  bare (num at n) = num 0 n
  bare (flag at b) = flag 0 b
  bare (null at) = null 0
  bare (this at) = this 0
  bare (outcome at) = outcome 0
  bare (make at i) = make 0 (bare_name i)
  bare (named at i) = named 0 (bare_name i)
  bare (call at i args) = call 0 (bare_name i) (bare_all args)
  bare (read at a i) = read 0 (bare a) (bare_name i)
  bare (call_on at a i args) = call_on 0 (bare a) (bare_name i) (bare_all args)
  bare (paren at a) = paren 0 (bare a)
  bare (negation at a) = negation 0 (bare a)
  bare (minus at a) = minus 0 (bare a)
  bare (bin at s a b) = bin 0 s (bare a) (bare b)
  bare (old at a) = old 0 (bare a)
  bare (quant at all kind i body) = quant 0 all (bare_name kind) (bare_name i) (bare body)
  bare (quant_in at all kind i range body) = quant_in 0 all (bare_name kind) (bare_name i) (bare range) (bare body)
  bare (has at a kind fields b) = has 0 (bare a) (bare_name kind) (map bare_name fields) (bare b)
  bare (size at a kind fields) = size 0 (bare a) (bare_name kind) (map bare_name fields)

  pub bare_all : Exprs → Exprs
  bare_all none = none
  bare_all (also e es) = also (bare e) (bare_all es)

abbrev pub bare_declaration : Decl → Decl
bare_declaration d = record { name = bare_name d.name; value = option_map bare d.value }

abbrev mutual
  pub bare_statement : Stmt → Stmt
  bare_statement (block ss) = block (bare_statements ss)
  bare_statement blank = blank
  bare_statement (if_only c a) = if_only (bare c) (bare_statement a)
  bare_statement (if_else c a b) = if_else (bare c) (bare_statement a) (bare_statement b)
  bare_statement (loops at c a) = loops 0 (bare c) (bare_statement a)
  bare_statement (gives_back at e) = gives_back 0 (option_map bare e)
  bare_statement (local mods kind ds) = local (map bare_modifier mods) (bare_type kind) (map bare_declaration ds)
  bare_statement (set a e) = set (bare a) (bare e)
  bare_statement (step a up) = step (bare a) up
  bare_statement (run e) = run (bare e)

  pub bare_statements : Stmts → Stmts
  bare_statements done = done
  bare_statements (next s ss) = next (bare_statement s) (bare_statements ss)

abbrev pub bare_clause : Clause → Clause
bare_clause (needs at e) = needs 0 (bare e)
bare_clause (gives at e) = gives 0 (bare e)

abbrev pub bare_parameter : Param → Param
bare_parameter p = record { mods = map bare_modifier p.mods; kind = bare_type p.kind; name = bare_name p.name }

abbrev pub bare_method : Method → Method
bare_method m = record {
  spec = map bare_clause m.spec;
  mods = map bare_modifier m.mods;
  result = option_map bare_type m.result;
  name = bare_name m.name;
  params = map bare_parameter m.params;
  body = bare_statements m.body;
}

abbrev pub bare_part : Part → Part
bare_part (invariant at e) = invariant 0 (bare e)
bare_part (field mods kind i) = field (map bare_modifier mods) (bare_type kind) (bare_name i)
bare_part (method m) = method (bare_method m)

abbrev pub bare_class : Class → Class
bare_class c = record { mods = map bare_modifier c.mods; name = bare_name c.name; members = map bare_part c.members }

-- the classes of a text without their places
abbrev pub bare_classes : Classes → Classes
bare_classes cs = map bare_class cs
