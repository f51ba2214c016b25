use Rattle.std.proofs.Common.{◌≡◌, ℕ, ◌+◌, length, refl, sym, ap, ◌∙◌, get_or}
use Rattle.std.specs.Prelude.{map}
use Rattle.std.proofs.lemmas.Option.{same_Some}
use Rattle.taco_unit.specs.declared.unit.MethodDef.{MethodDef}
use Rattle.rel_core.specs.Reading.{numbers_below}
use Rattle.rel_core.specs.Shown.{slot_index}
use Rattle.rel_core.proofs.Ranges.{all_alike, indices_zero, first_of_pairs}
use Rattle.rel_core.proofs.indices.Indices.first.Goals as goal

pub returns-clause-first : goal.returns-clause-first
returns-clause-first c = record {
  live = refl;
  fields = λ f. ap (λ heap. get_or heap f 0) c.in_ok-heap.ensures ∙ all_alike 0 _ f;
  slots = λ x. ap (λ slots. slot_index slots x) c.in_ok-slots.ensures ∙ indices_zero _ x;
}

pub returns-clause-variables : goal.returns-clause-variables
returns-clause-variables c = λ d there.
    let same : c.method_in.result.now ≡ d = same_Some c.method_in.result.now d (sym c.method_in.ensures.there ∙ there) in
    ap (map (λ (s : ℕ × ℕ). s.0)) c.in_ok-slots.ensures ∙ first_of_pairs _ ∙ ap (λ (n : ℕ). numbers_below (n + 1)) (c.len-2.ensures ∙ ap (λ (m : MethodDef). length m.params) same)
