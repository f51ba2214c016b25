-- One object more.
use Rattle.std.proofs.Common.{◌≡◌, ℕ, ◌+◌, ◌*◌, ◌<◌, Bool, length, get_or, subst, ap, ◌∙◌, arith}
use Rattle.std.specs.Prelude.{nat_lt}
use Rattle.gate_core.specs.Circuit.{value}
use Rattle.gate_core.proofs.Values.{keeps_twice}
use Rattle.gate_arith.specs.Numbers.{number}
use Rattle.gate_sets.proofs.Standing.{truth_alike}
use Rattle.gate_sets.proofs.Places.{every_more}
use Rattle.heap_core.specs.Posed.{Posed}
use Rattle.rel_gates.specs.Shown.{class_bits, row_bits}
use Rattle.rel_gates.specs.Limits.{row_fits}
use Rattle.rel_gates.proofs.BitRows.{row_kept}
use Rattle.rel_gates.proofs.limits.rows_limit.Goals as goal

pub loop-object-preserved : goal.loop-object-preserved
loop-object-preserved c =
    let p = c.args.problem.now in
    let old = c.args.gates.now in
    let middle = c.loop-object.gates in
    let third = c.row_limit.new.gates in
    let new = c.both.new.gates in
    let rows = c.args.rows.now in
    let row = c.row.result.now in
    let object = c.loop-object.object in
    let inv = c.loop-object.invariant in
    let bits = c.class_bits-width.ensures.bits in
    let fits = λ (inputs : ℕ → Bool) (o : ℕ). nat_lt (number (row_bits (value inputs old) (class_bits p) rows o)) (length p.unit.classes) in
    let last : c.from-object-end.result ≡ p.scope.objects = c.from-object-end.ensures ∙ ap (λ (q : Posed). q.scope.objects) c.problem.view_is in
    let below : object < p.scope.objects = omega (arith, last) in
    let places : (i : ℕ) → i < class_bits p → get_or row i 0 ≡ get_or rows (object * class_bits p + i) 0 =
    subst (λ w. (i : ℕ) → i < w → get_or row i 0 ≡ get_or rows (object * w + i) 0) bits c.row.ensures.gates in
    record {
      keeps = keeps_twice old third new (keeps_twice old middle third inv.keeps c.in_ok-here.ensures.keeps) c.in_ok-every.ensures.keeps;
      every = every_more middle third new fits object c.loop-object.every c.in_ok-here.here c.in_ok-every.every inv.every c.in_ok-here.ensures.keeps
          (truth_alike third (λ (inputs : ℕ → Bool). row_fits p (value inputs middle) row) (λ (inputs : ℕ → Bool). fits inputs object) c.in_ok-here.here c.in_ok-here.ensures.truth (λ inputs.
          ap (λ bs. nat_lt (number bs) (length p.unit.classes))
          (row_kept old middle rows row (class_bits p) object p.scope.objects inputs inv.keeps c.requires.rows below c.requires.long (c.row.ensures.wide ∙ bits) places)))
          c.in_ok-every.ensures.truth;
    }
