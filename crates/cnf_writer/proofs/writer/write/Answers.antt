-- The roots are written, and then what is below them.
use Rattle.std.proofs.Common.{◌≡◌, ◌+◌, ◌/◌, ◌<◌, ◌++◌, length, sym, ap, subst, ◌∙◌, arith}
use Rattle.gate_core.specs.Circuit.{IsOf}
use Rattle.cnf_core.specs.Clauses.{Clauses}
use Rattle.cnf_writer.specs.Progress.{IsRooted, root_clauses}
use Rattle.cnf_writer.proofs.Whole.{rooted_more, written}
use Rattle.cnf_writer.proofs.writer.write.Goals as goal

pub loop-index-preserved : goal.loop-index-preserved
loop-index-preserved c =
    let roots = c.args.roots.now in
    let i = c.loop-index.index in
    let r = c.index-roots-index.result in
    let within : i < length roots = omega arith in
    let of : IsOf c.args.gates.now r = grind (arith, c.requires i r within, c.index-roots-index.is) in
    let marks = c.loop-index.marks.items in
    let inside : r / 2 < length marks = omega (arith, c.loop-index.invariant.wide) in
    record {
      wide = grind (arith, c.in_ok-write_root.ensures.wide, c.loop-index.invariant.wide);
      vars = ap (λ (f : Clauses). f.vars + 1) c.in_ok-write_root.ensures.ok ∙ c.loop-index.invariant.vars;
      rooted = subst (λ (f : Clauses). IsRooted roots (i + 1) c.write_root.new.marks.items f.clauses) (sym c.in_ok-write_root.ensures.ok)
          (subst (λ ms. IsRooted roots (i + 1) ms (c.loop-index.cnf.clauses ++ root_clauses r)) (sym c.in_ok-write_root.ensures.marks)
          (rooted_more roots i r marks c.loop-index.cnf.clauses c.loop-index.invariant.rooted within c.index-roots-index.is inside));
    }

pub returns : goal.returns
returns c =
    let roots = c.args.roots.now in
    let all : c.loop-index.index ≡ length roots = omega arith in
    let rooted : IsRooted roots (length roots) c.loop-index.marks.items c.loop-index.cnf.clauses =
    subst (λ n. IsRooted roots n c.loop-index.marks.items c.loop-index.cnf.clauses) all c.loop-index.invariant.rooted in
    written c.args.gates.now roots c.write_below.new.marks.items c.write_below.new.cnf c.nodes-nodes.ensures.circuit
    (omega (arith, c.in_ok-write_below.ensures.vars, c.loop-index.invariant.vars)) c.requires
    (c.in_ok-write_below.ensures.down roots rooted)
