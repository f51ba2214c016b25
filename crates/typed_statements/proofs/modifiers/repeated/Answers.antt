use Rattle.std.proofs.Common.{◌≤◌, ◌<◌, ◌+◌, length, drop, get_or, ap, sym, ◌∙◌, arith}
use Rattle.std.proofs.lemmas.List.{drop_all, drop_more}
use Rattle.java_tree.specs.declared.names.ModWord.TheVariants.{Static}
use Rattle.java_tree.specs.declared.names.Modifier.{Modifier}
use Rattle.declared_names.specs.Faults.{soonest, earlier}
use Rattle.declared_names.proofs.Told.{next_fault, last_fault, none-earlier}
use Rattle.typed_statements.specs.Modifiers.{repeated_at, repeated_from, marked}
use Rattle.typed_statements.proofs.modifiers.repeated.Goals as goal

pub loop-modifier-init : goal.loop-modifier-init
loop-modifier-init c = none-earlier _ ∙ ap (λ m. soonest (repeated_from m c.args.mods.now)) c.no_marks-marks.ensures

pub loop-modifier-preserved : goal.loop-modifier-preserved
loop-modifier-preserved c =
    let within : c.loop-modifier.modifier-index < length c.args.mods.now = omega arith in
    let none : Modifier = record { word = Static; at = 0 } in
    let item : Modifier = get_or c.args.mods.now c.loop-modifier.modifier-index none in
    let left = drop_more c.args.mods.now c.loop-modifier.modifier-index none within in
    ap (λ r. earlier r (soonest (repeated_from c.marked-marks.result (drop (c.loop-modifier.modifier-index + 1) c.args.mods.now)))) c.earlier-found.ensures
    ∙ ap (λ m. earlier (earlier c.loop-modifier.found c.repeats.result) (soonest (repeated_from m (drop (c.loop-modifier.modifier-index + 1) c.args.mods.now)))) c.marked-marks.ensures
    ∙ next_fault c.loop-modifier.found c.repeats.result (repeated_at c.loop-modifier.marks item)
    (repeated_from (marked c.loop-modifier.marks item.word item.at) (drop (c.loop-modifier.modifier-index + 1) c.args.mods.now)) c.repeats.ensures
    ∙ ap (λ ms. earlier c.loop-modifier.found (soonest (repeated_from c.loop-modifier.marks ms))) (sym left)
    ∙ c.loop-modifier.invariant

pub returns : goal.returns
returns c =
    let past : length c.args.mods.now ≤ c.loop-modifier.modifier-index = omega arith in
    sym (ap (λ ms. earlier c.loop-modifier.found (soonest (repeated_from c.loop-modifier.marks ms))) (drop_all c.loop-modifier.modifier-index c.args.mods.now past) ∙ last_fault c.loop-modifier.found)
    ∙ c.loop-modifier.invariant
