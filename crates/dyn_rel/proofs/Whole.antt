-- The formula of a whole program, from the part that is built at index 0.
use Rattle.std.proofs.Common.{◌≡◌, ℕ, Bool, true, List, length, inr, refl, sym, ◌∙◌, ap, subst, arith}
use Rattle.std.specs.Prelude.{replicate, slice_get, Contains}
use Rattle.std.proofs.lemmas.List.{length-replicate}
use Rattle.taco_unit.specs.declared.kind.Kind.{Kind}
use Rattle.taco_unit.specs.Well.{IsWell}
use Rattle.heap_core.specs.Posed.{Posed, InRange}
use Rattle.rel_core.specs.declared.indices.Indices.{Indices}
use Rattle.rel_core.specs.declared.relation.RelVar.{RelVar}
use Rattle.rel_core.specs.declared.relation.What.{What}
use Rattle.rel_core.specs.declared.relation.What.TheVariants as what
use Rattle.rel_core.specs.Reading.{Reading, numbers_below}
use Rattle.rel_core.specs.Shown.{IsFirst}
use Rattle.rel_core.specs.States.{reading_of_state}
use Rattle.rel_core.specs.Laws.{StateIsShown}
use Rattle.rel_core.proofs.StartsShown.{states_are_shown}
use Rattle.dyn_core.specs.declared.prog.Prog.{Prog}
use Rattle.dyn_core.specs.declared.state.DynState.{DynState}
use Rattle.dyn_core.specs.Runs.{RunUpTo, Run}
use Rattle.dyn_core.specs.Kinds.{is_kinded, HasKinds}
use Rattle.dyn_core.specs.Unrolled.{starless}
use Rattle.dyn_core.proofs.Alike.{starless_runs_alike}
use Rattle.dyn_steps.specs.declared.point.Point.{Point}
use Rattle.dyn_steps.specs.declared.part.Part.{Part}
use Rattle.dyn_steps.specs.Points.{index_of, indices_of, IsPoint}
use Rattle.dyn_steps.specs.Looked.{all_vars}
use Rattle.dyn_steps.specs.Paths.{state_in, Shows, IsPath}
use Rattle.dyn_steps.proofs.Tested.{path_widened}
use Rattle.dyn_steps.proofs.Moving.{slot_is, alike_self, agree_at, shows_move}
use Rattle.dyn_rel.specs.Runs.{IsProgPath}
use Rattle.dyn_rel.specs.Formulas.{first_point, IsIndexed, ShowsRun, IsPathFormula}
use Rattle.dyn_rel.specs.Looking.{looked_from, IsBehind}
use Rattle.dyn_rel.proofs.Lists.{zero_at, numbers_of}
use Rattle.dyn_rel.proofs.LookedSets.{list_all_vars}

-- ## indices

pub is_indexed : (p : Posed) (kinds : List Kind) (n : ℕ) (at : Point) → IsPoint p kinds n at → IsIndexed p kinds (indices_of at)
is_indexed p kinds n at point = record {
  fields = point.fields;
  slots = numbers_of 0 at.vars ∙ ap numbers_below point.vars;
  result = refl;
}

first_index : (fields vars : ℕ) (w : What) → index_of (first_point fields vars) w ≡ 0
first_index fields vars what.Live = refl
first_index fields vars what.ClassOf = refl
first_index fields vars (what.Field f) = zero_at fields f
first_index fields vars (what.Slot x) = zero_at vars x

first_is_point : (p : Posed) (kinds : List Kind) → IsPoint p kinds 1 (first_point (length p.unit.fields) (length kinds))
first_is_point p kinds = record {
  fields = length-replicate (length p.unit.fields) 0;
  vars = length-replicate (length kinds) 0;
  below = λ w. let low = first_index (length p.unit.fields) (length kinds) w in omega (arith, low);
}

first_is_first : (fields vars : ℕ) → IsFirst (indices_of (first_point fields vars))
first_is_first fields vars = record {
  live = refl;
  fields = λ f. zero_at fields f;
  slots = λ x. ap (λ (r : RelVar). r.index) (slot_is (first_point fields vars) x) ∙ zero_at vars x;
}

-- ## runs

-- a program without iterations has no other runs
only_run : (p : Posed) (prog : Prog) (s t : DynState) → starless prog ≡ true → Run p prog s t → RunUpTo p 0 prog s t
only_run p prog s t plain run = subst (λ xs. Contains xs t) (starless_runs_alike p run.0 0 prog s plain) run.1

module _ (p : Posed) (kinds : List Kind) (prog : Prog) (part : Part) (well : IsWell p.unit) (range : InRange p) (plain : starless prog ≡ true) where
  abbrev begun : Point
  begun = first_point (length p.unit.fields) (length kinds)

  abbrev whole : Indices → Indices → Type 0
  whole first last = IsPathFormula p kinds prog (record { formula = part.formula; first = first; last = last })

  path_whole : IsPath p kinds all_vars all_vars (RunUpTo p 0 prog) (record { at = begun; next = 1 }) part → whole (indices_of begun) (indices_of part.end.at)
  path_whole path = record {
    first = first_is_first (length p.unit.fields) (length kinds);
    first_indexed = is_indexed p kinds 1 begun (first_is_point p kinds);
    last_indexed = is_indexed p kinds part.end.next part.end.at path.point;
    sorted = path.sorted;
    sound = λ m s of is has shown. let led = path.sound m s of is has shown in (led.0, (0, led.1), led.2);
    full = λ s t has run. shown_run s t has (only_run p prog s t plain run);
  }
    where
      shown_run : (s t : DynState) → HasKinds p kinds s → RunUpTo p 0 prog s t
          → ShowsRun p kinds (record { formula = part.formula; first = indices_of begun; last = indices_of part.end.at }) s t
      shown_run s t has run =
          let at_first : StateIsShown p (slice_get kinds) (state_in s) (reading_of_state p (slice_get kinds) (state_in s)) =
          states_are_shown p (slice_get kinds) (state_in s) well range (record { few_objects = has.few_objects; objects_whole = has.objects_whole; values = has.vars })
          in
          let m : Reading = reading_of_state p (slice_get kinds) (state_in s) in
          let shown : Shows p kinds all_vars m begun s = at_first.shown (indices_of begun) (first_is_first (length p.unit.fields) (length kinds)) in
          let on = path.full m s t at_first.of_problem has shown run in
          record {
            reading = on.reading;
            of_problem = on.of_problem;
            first = shows_move p kinds all_vars m on.reading begun begun s (on.of_problem.objects ∙ sym at_first.of_problem.objects)
                (λ w looked. agree_at p kinds 1 begun m on.reading (first_is_point p kinds) on.agrees w) shown;
            last = on.shown;
            holds = on.holds on.reading on.of_problem (λ r below. alike_self on.reading r);
          }

  -- the same, by what was handed on
  pub path_formula_is :
      (at also : Point) (first last : Indices) (set after : List Bool)
      → is_kinded p kinds prog ≡ true
      → at ≡ begun
      → also ≡ at
      → first ≡ indices_of also
      → last ≡ indices_of part.end.at
      → set ≡ replicate (length kinds) true
      → after ≡ set
      → (IsBehind prog (length kinds) all_vars after → IsProgPath p kinds all_vars prog (record { at = at; next = 1 }) part)
      → whole first last
  path_formula_is at also first last set after kinded at_is also_is first_is last_is set_is after_is path =
      subst (λ z. whole z last) (sym (first_is ∙ ap indices_of (also_is ∙ at_is)))
      (subst (λ z. whole (indices_of begun) z) (sym last_is)
      (path_whole (path_widened p kinds (looked_from prog all_vars) all_vars all_vars all_vars (RunUpTo p 0 prog) (record { at = begun; next = 1 }) part
      (λ x inside. refl) (λ x inside. refl)
      ((subst (λ z. IsProgPath p kinds all_vars prog (record { at = z; next = 1 }) part) at_is (path (inr (list_all_vars (length kinds) after (after_is ∙ set_is)))))
      kinded (first_is_point p kinds)))))
