-- What a term that tells the outcome of a form tells of the clause.
use Rattle.std.proofs.Common.{◌≡◌, ℕ, Bool, true, false, ◌&&◌, List, map, Option, Some, None, refl, sym, ap, ◌∙◌, subst}
use Rattle.std.specs.Prelude.{nat_lt, pos, slice_get, option_map, IsTrue}
use Rattle.std.specs.Ordering.{int_eq}
use Rattle.std.specs.List.{list_all, list_any}
use Rattle.taco_unit.specs.Well.{IsWell}
use Rattle.std.specs.Option.{option_map_or}
use Rattle.std.proofs.lemmas.Option.{slice_get-map}
use Rattle.taco_unit.specs.declared.kind.Kind.{Kind}
use Rattle.taco_unit.specs.declared.kind.Kind.TheVariants as kind
use Rattle.taco_unit.specs.declared.unit.FieldDef.{FieldDef}
use Rattle.taco_unit.specs.declared.expr.Expr.{Expr}
use Rattle.taco_unit.specs.declared.expr.Expr.TheVariants as e
use Rattle.taco_unit.specs.declared.expr.Op.{Op}
use Rattle.taco_unit.specs.declared.expr.Quant.{Quant, out-Quant}
use Rattle.taco_unit.specs.declared.expr.Op.TheVariants as op
use Rattle.heap_core.specs.declared.value.Seen.{Seen}
use Rattle.heap_core.specs.declared.value.Value.{Value}
use Rattle.heap_core.specs.declared.value.Value.TheVariants.{Obj}
use Rattle.heap_core.specs.Outcomes.{as_flag, gives_object, is_object, value_in}
use Rattle.heap_core.specs.Heap.{field}
use Rattle.heap_core.specs.Posed.{Posed}
use Rattle.heap_core.specs.Eval.{Env, eval, binary, instance_of}
use Rattle.heap_core.proofs.EvalForms.{eval_bin}
use Rattle.heap_core.proofs.Lists.{all_at}
use Rattle.rel_core.specs.declared.indices.Indices.{Indices}
use Rattle.rel_core.specs.declared.relation.RelVar.{RelVar}
use Rattle.rel_core.specs.Reading.{Reading}
use Rattle.rel_core.specs.Meaning.{ValueSet, leads, only_object, are_of}
use Rattle.rel_core.specs.Uses.{Kinds, is_spread, same_use, use_of_kind}
use Rattle.rel_core.specs.Shown.{live_relation, class_relation, field_relation}
use Rattle.rel_core.specs.Laws.{is_of_shown}
use Rattle.clause_terms.specs.declared.term.Term.{Term}
use Rattle.clause_terms.specs.declared.term.Truth.{Truth}
use Rattle.clause_terms.specs.Terms.{IsOnly, Judges, Tells}
use Rattle.clause_terms.proofs.Flags.{judges_as_flag}
use Rattle.clause_terms.proofs.Settled.{chains_go_right, flags_settle}
use Rattle.jml_rel.specs.Parts.{chain_operator, instance_at, range_operator}
use Rattle.clause_terms.specs.Reaching.{LeadAlike}
use Rattle.clause_terms.proofs.Only.{class_one}
use Rattle.jml_rel.specs.Links.{links_of}
use Rattle.jml_rel.specs.Places.{Point, Shows}
use Rattle.jml_rel.proofs.Linking.{links_lead}
use Rattle.clause_terms.proofs.FieldTerms.{flag_at_object, object_exact}

pub as_form : (e f : Expr) (env : Env) (s : Seen) (t : Term) (m : Reading) → e ≡ f → eval f env ≡ s → Tells s t m → Tells (eval e env) t m
as_form e f env s t m is gives told = subst (λ r. Tells r t m) (sym (ap (λ g. eval g env) is ∙ gives)) told

-- a relation has the use of its field's kind
pub same_use_is : (k : Kind) → same_use (use_of_kind k) (use_of_kind k) ≡ true
same_use_is kind.Int = refl
same_use_is kind.Flag = refl
same_use_is (kind.Ref c) = refl

pub field_spread : (p : Posed) (kinds : Kinds) (at : Indices) (f : ℕ) (d : FieldDef) → slice_get p.unit.fields f ≡ Some d → is_spread p kinds (use_of_kind d.kind) (field_relation at f) ≡ true
field_spread p kinds at f d there = ap (λ e. option_map_or (same_use (use_of_kind d.kind)) (option_map (λ g. use_of_kind g.kind) e) false) there ∙ same_use_is d.kind

-- the object of this number is there, and of the class
pub told_guard : (m : Reading) (at : Indices) (s t : ValueSet) (c o : ℕ) (live of : Bool)
    → IsTrue (nat_lt o m.objects) → s ≡ is_object o → t ≡ is_object o
    → live ≡ option_map_or (m.flag (live_relation at)) (only_object m s) false → of ≡ are_of m t c (class_relation at)
    → (live && of) ≡ is_of_shown m at c o
told_guard m at s t c o live of below first second live_is of_is =
    let alone : (r : ValueSet) → r ≡ is_object o → IsOnly m r (Obj o) = λ r is. record { reference = below; exact = λ u. ap (λ f. f u) is ∙ object_exact o u } in
    let a : live ≡ m.flag (live_relation at) o = live_is ∙ flag_at_object m s o (live_relation at) (alone s first) in
    let b : of ≡ int_eq (m.number (class_relation at) o) (pos c) = of_is ∙ class_one m t (Obj o) c (class_relation at) (alone t second) ∙ and_true (int_eq (m.number (class_relation at) o) (pos c)) in
    rw (a, b) refl
  where
    and_true : (b : Bool) → (b && true) ≡ b
    and_true true = refl
    and_true false = refl

-- an object of a quantified variable is below K
pub bound_below : (k n i o : ℕ) (os : List ℕ) → n ≡ k → list_all (λ p. nat_lt p k) os ≡ true → slice_get os i ≡ Some o → nat_lt o n ≡ true
bound_below k n i o os same all there = ap (nat_lt o) same ∙ all_at (λ p. nat_lt p k) os i o all there

pub bound_is : (vs : List Value) (os : List ℕ) (i : ℕ) (o : Option ℕ) → vs ≡ map Obj os → slice_get os i ≡ o → value_in (slice_get vs i) ≡ value_in (option_map Obj o)
bound_is vs os i o same there = ap (λ xs. value_in (slice_get xs i)) same ∙ ap value_in (slice_get-map Obj os i ∙ ap (option_map Obj) there)

pub as_part : (e f : Expr) (env : Env) (t : Term) (m : Reading) → e ≡ f → Tells (eval e env) t m → Tells (eval f env) t m
as_part e f env t m is told = subst (λ g. Tells (eval g env) t m) is told

-- relations of fields lead where the fields do
pub lead_alike : (q : Point) (env : Env) (m : Reading) (fs : List ℕ) (rs : List RelVar) → IsWell q.problem.unit → Shows q env m → rs ≡ links_of q.problem.unit.fields q.heap fs → LeadAlike m rs env fs
lead_alike q env m fs rs well shown is = record {
  objects = shown.numbers;
  ints = shown.ints;
  edges = λ p o. ap (λ rs. leads m rs p o) is ∙ links_lead q.problem.unit m q.heap env.heap well shown.heap p o fs
      ∙ ap (λ cs. list_any (λ f. gives_object o (field cs env.heap f (Obj p))) fs) (sym shown.classes);
}

-- ## instances of quantifiers

pub instance_settled : (q : Quant) (env : Env) → as_flag (instance_at q env) ≡ instance_at q env
instance_settled q env = flags_settle.instance_settled (out-Quant q).all (option_map eval (out-Quant q).range) (eval (out-Quant q).body) env

instance_range_none : (all : Bool) (range : Option Expr) (body : Expr) (env : Env) → range ≡ None → instance_of all (option_map eval range) (eval body) env ≡ as_flag (eval body env)
instance_range_none true range body env is = ap (λ r. instance_of true (option_map eval r) (eval body) env) is
instance_range_none false range body env is = ap (λ r. instance_of false (option_map eval r) (eval body) env) is

pub instance_none : (q : Quant) (env : Env) (t : Truth) (m : Reading) → (out-Quant q).range ≡ None → Judges (eval (out-Quant q).body env) t m → Judges (instance_at q env) t m
instance_none q env t m is judged =
    subst (λ s. Judges s t m) (sym (instance_range_none (out-Quant q).all (out-Quant q).range (out-Quant q).body env is)) (judges_as_flag (eval (out-Quant q).body env) t m judged)

-- the operator between the range of a quantifier and its body
pub instance_some : (q : Quant) (env : Env) (r : Expr) (all : Bool) (t : Truth) (m : Reading) → (out-Quant q).range ≡ Some r → (out-Quant q).all ≡ all → m.ints ≡ env.ints
    → Judges (binary (range_operator all) m.ints (eval r env) (eval (out-Quant q).body env)) t m → Judges (instance_at q env) t m
instance_some q env r all t m is every ints judged = subst (λ s. Judges s t m) (go all every) judged
  where
    go : (all : Bool) → (out-Quant q).all ≡ all → binary (range_operator all) m.ints (eval r env) (eval (out-Quant q).body env) ≡ instance_at q env
    go true every = ap (λ w. binary op.Implies w (eval r env) (eval (out-Quant q).body env)) ints
        ∙ sym (ap (λ x. instance_of (out-Quant q).all (option_map eval x) (eval (out-Quant q).body) env) is ∙ ap (λ a. instance_of a (Some (eval r)) (eval (out-Quant q).body) env) every)
    go false every = ap (λ w. binary op.And w (eval r env) (eval (out-Quant q).body env)) ints
        ∙ sym (ap (λ x. instance_of (out-Quant q).all (option_map eval x) (eval (out-Quant q).body) env) is ∙ ap (λ a. instance_of a (Some (eval r)) (eval (out-Quant q).body) env) every)

-- ## chains

chain_law : (any : Bool) (w : ℕ) (x y z : Seen) → binary (chain_operator any) w (binary (chain_operator any) w x y) z ≡ binary (chain_operator any) w x (binary (chain_operator any) w y z)
chain_law true w x y z = chains_go_right.or_chain w x y z
chain_law false w x y z = chains_go_right.and_chain w x y z

pub chain_step : (any : Bool) (expr a b first second : Expr) (o : Op) (env : Env) (y : Seen) (t : Truth) (m : Reading)
    → expr ≡ e.Bin o a b → o ≡ chain_operator any → first ≡ a → second ≡ b → m.ints ≡ env.ints
    → Judges (binary (chain_operator any) m.ints (eval first env) (binary (chain_operator any) m.ints (eval second env) y)) t m
    → Judges (binary (chain_operator any) m.ints (eval expr env) y) t m
chain_step any expr a b first second o env y t m is op_is one two ints judged =
    let whole : eval expr env ≡ binary (chain_operator any) m.ints (eval a env) (eval b env) =
    ap (λ g. eval g env) is ∙ eval_bin o a b env ∙ ap (λ k. binary k env.ints (eval a env) (eval b env)) op_is ∙ ap (λ w. binary (chain_operator any) w (eval a env) (eval b env)) (sym ints)
    in
    let turned : binary (chain_operator any) m.ints (eval expr env) y ≡ binary (chain_operator any) m.ints (eval a env) (binary (chain_operator any) m.ints (eval b env) y) =
    ap (λ x. binary (chain_operator any) m.ints x y) whole ∙ chain_law any m.ints (eval a env) (eval b env) y
    in
    let parts : binary (chain_operator any) m.ints (eval first env) (binary (chain_operator any) m.ints (eval second env) y) ≡ binary (chain_operator any) m.ints (eval a env)
    (binary (chain_operator any) m.ints (eval b env) y) =
    ap (λ f. binary (chain_operator any) m.ints (eval f env) (binary (chain_operator any) m.ints (eval second env) y)) one
    ∙ ap (λ s. binary (chain_operator any) m.ints (eval a env) (binary (chain_operator any) m.ints (eval s env) y)) two
    in
    subst (λ s. Judges s t m) (parts ∙ sym turned) judged
