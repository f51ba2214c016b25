-- A place is gone through.
use Rattle.std.proofs.Common.{◌≡◌, ◌<◌, length, ◌++◌, true, false, sym, subst, ◌∙◌, arith, refl}
use Rattle.std.proofs.lemmas.Bool.{false≢true}
use Rattle.std.proofs.lemmas.List.{get_or_default}
use Rattle.std.proofs.lemmas.Option.{same_Some}
use Rattle.gate_core.specs.declared.circuit.Node.TheVariants.{And}
use Rattle.cnf_core.specs.Clauses.{Clauses}
use Rattle.cnf_writer.specs.Progress.{IsDown, is_marked, node_clauses}
use Rattle.cnf_writer.proofs.Down.{down_over, down_node}
use Rattle.cnf_writer.proofs.writer.visit.Goals as goal

pub returns-then-not-index-clause-step : goal.returns-then-not-index-clause-step
returns-then-not-index-clause-step c = λ roots down.
    let marks = c.args.marks.now.items in
    let within : c.args.place < length marks = grind (arith, c.requires.within, c.requires.wide) in
    let unmarked : is_marked marks c.args.place ≡ false =
    get_or_default marks c.args.place false c.index.result.now within ∙ sym c.index.ensures ∙ c.if-not-index.true in
    down_over c.args.gates.now roots c.args.place marks c.args.cnf.now.clauses (λ a b marked at. false≢true (sym unmarked ∙ marked)) down

pub returns-in_ok-write_node-in-And-clause-step : goal.returns-in_ok-write_node-in-And-clause-step
returns-in_ok-write_node-in-And-clause-step c = λ roots down.
    let nodes = c.args.gates.now in
    let marks = c.args.marks.now.items in
    let place = c.args.place in
    let within : place < length marks = grind (arith, c.requires.within, c.requires.wide) in
    let marked : is_marked marks place ≡ true = get_or_default marks place false c.index.result.now within ∙ sym c.index.ensures ∙ c.if-not-index.false in
    let earlier = c.requires.circuit.earlier place c.in-And.a c.in-And.b c.in-And.ensures in
    subst (λ (f : Clauses). IsDown nodes roots place c.write_node.new.marks.items f.clauses) (sym c.in_ok-write_node-in-And.ensures.ok)
    (subst (λ ms. IsDown nodes roots place ms (c.args.cnf.now.clauses ++ node_clauses place c.in-And.a c.in-And.b)) (sym c.in_ok-write_node-in-And.ensures.marks)
    (down_node nodes roots place c.in-And.a c.in-And.b marks c.args.cnf.now.clauses marked c.in-And.ensures within earlier.0 earlier.1 down))

pub returns-in_default : goal.returns-in_default
returns-in_default c = record {
  step = λ roots down. down_over c.args.gates.now roots c.args.place c.args.marks.now.items c.args.cnf.now.clauses
      (λ a b marked at. c.in_default.not-And a b (same_Some c.node.result (And a b) (sym c.node.ensures ∙ at))) down;
  wide = refl;
  vars = refl;
}
