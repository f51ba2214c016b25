-- One object more.
use Rattle.std.proofs.Common.{◌≡◌, ℕ, ◌+◌, ◌*◌, ◌<◌, Bool, ◌&&◌, length, get_or, sym, subst, ap, ◌∙◌, arith}
use Rattle.std.specs.Prelude.{◌==◌, nat_lt}
use Rattle.gate_core.specs.Circuit.{value}
use Rattle.gate_core.proofs.Values.{keeps_twice}
use Rattle.gate_arith.specs.Numbers.{number}
use Rattle.gate_sets.specs.Lists.{AreTruths}
use Rattle.gate_sets.proofs.Standing.{truth_alike}
use Rattle.gate_sets.proofs.Places.{truths_more}
use Rattle.heap_core.specs.Posed.{Posed}
use Rattle.rel_gates.specs.Shown.{class_bits}
use Rattle.rel_gates.specs.Limits.{row_is, is_class_at}
use Rattle.rel_gates.proofs.BitRows.{row_kept}
use Rattle.rel_gates.proofs.classes.class_gates.Goals as goal

pub loop-object-preserved : goal.loop-object-preserved
loop-object-preserved c =
    let p = c.args.problem.now in
    let old = c.args.gates.now in
    let middle = c.loop-object.gates in
    let new = c.row_class.new.gates in
    let rows = c.args.rows.now in
    let row = c.row.result.now in
    let class = c.args.class in
    let object = c.loop-object.object in
    let inv = c.loop-object.invariant in
    let bits = c.class_bits-width.ensures.bits in
    let truth = λ (inputs : ℕ → Bool) (o : ℕ). is_class_at p (value inputs old) rows class o in
    let last : c.from-object-end.result ≡ p.scope.objects = c.from-object-end.ensures ∙ ap (λ (q : Posed). q.scope.objects) c.problem.view_is in
    let below : object < p.scope.objects = omega (arith, last) in
    let places : (i : ℕ) → i < class_bits p → get_or row i 0 ≡ get_or rows (object * class_bits p + i) 0 =
    subst (λ w. (i : ℕ) → i < w → get_or row i 0 ≡ get_or rows (object * w + i) 0) bits c.row.ensures.gates in
    record {
      keeps = keeps_twice old middle new inv.keeps c.in_ok-gate.ensures.keeps;
      places = subst (λ gs. AreTruths new (object + 1) truth gs) (sym c.in_ok-push.ensures.items)
          (truths_more middle new object truth c.loop-object.list.items c.in_ok-gate.gate inv.places c.in_ok-gate.ensures.keeps
          (truth_alike new (λ (inputs : ℕ → Bool). row_is p (value inputs middle) row class) (λ (inputs : ℕ → Bool). truth inputs object) c.in_ok-gate.gate c.in_ok-gate.ensures.truth (λ inputs.
          ap (λ bs. nat_lt class (length p.unit.classes) && (number bs == class))
          (row_kept old middle rows row (class_bits p) object p.scope.objects inputs inv.keeps c.requires.rows below c.requires.long (c.row.ensures.wide ∙ bits) places))));
    }
