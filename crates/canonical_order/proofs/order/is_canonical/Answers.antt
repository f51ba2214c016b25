use Rattle.std.proofs.Common.{◌≡◌, length, Some, ap, sym, ◌∙◌}
use Rattle.std.specs.Prelude.{flat_map}
use Rattle.std.proofs.lemmas.List.Sums.{fold-append}
use Rattle.heap_core.specs.declared.value.Object.{Object}
use Rattle.canonical_order.specs.Meeting.{met, met_all, places_in_order}
use Rattle.canonical_order.proofs.InOrder.{canonical_met}
use Rattle.canonical_order.proofs.order.is_canonical.Goals as goal

pub returns : goal.returns
returns c =
    let s = c.args.start.now in
    let n = length c.args.start.now.objects in
    let cells = flat_map (λ (x : Object). x.cells) c.args.start.now.objects in
    let count : c.len-count.result ≡ n = cc in
    let done : c.meet_fields.result ≡ met_all n (met_all n (met n (Some 0) s.this) s.args) cells = cc in
    let whole : met_all n (Some 0) (places_in_order s) ≡ c.meet_fields.result =
    fold-append (met n) (met n (Some 0) s.this) s.args cells ∙ sym done
    in
    let both = canonical_met s c.args._problem.now c.requires in
    (λ is. both.0 (whole ∙ c.are_all.ensures.0 is ∙ ap Some count), λ visit. c.are_all.ensures.1 (sym whole ∙ both.1 visit ∙ ap Some (sym count)))
