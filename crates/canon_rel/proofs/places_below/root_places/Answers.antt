use Rattle.std.proofs.Common.{◌∷◌, ◌++◌, [], sym, ap, ◌∙◌, arith}
use Rattle.std.specs.Prelude.{map, filter, if◌then◌else◌}
use Rattle.std.specs.List.{range_with_len}
use Rattle.std.specs.Option.{option_map_or}
use Rattle.taco_unit.specs.declared.unit.MethodDef.{MethodDef}
use Rattle.canonical_order.specs.Tuples.{is_root, roots_of}
use Rattle.canon_rel.specs.Places.{root_place}
use Rattle.canon_rel.proofs.Gathered.{kept_more}
use Rattle.canon_rel.proofs.places_below.root_places.Goals as goal

pub loop-root-init : goal.loop-root-init
loop-root-init c = c.new-places.ensures

pub loop-root-preserved : goal.loop-root-preserved
loop-root-preserved c =
    let at = c.args.at.now in
    let d = c.method_in-method.result.now in
    let r = c.loop-root.root in
    c.in_ok-push_root.ensures ∙ ap (λ ps. ps ++ (if is_root d r then root_place at d r ∷ [] else [])) c.loop-root.invariant ∙ sym (kept_more (root_place at d) (is_root d) r)

pub returns : goal.returns
returns c =
    let at = c.args.at.now in
    let d = c.method_in-method.result.now in
    c.loop-root.invariant ∙ ap (λ n. map (root_place at d) (filter (is_root d) (range_with_len 0 n))) (omega (arith, c.loop-root-test.false, c.loop-root.auto.root-end, c.len-count.ensures))
    ∙ sym (ap (λ d. option_map_or (λ (d : MethodDef). map (root_place at d) (roots_of d)) d []) c.method_in-method.ensures.there)
