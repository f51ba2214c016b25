-- The sequence of two parts.
use Rattle.std.proofs.Common.{◌≡◌, ◌≤◌, true, ◌&&◌, List, sym, ◌∙◌, subst, inl, inr, arith}
use Rattle.std.specs.Prelude.{slice_get}
use Rattle.std.proofs.lemmas.Bool.{and_parts, and_from}
use Rattle.taco_unit.specs.declared.kind.Kind.{Kind}
use Rattle.heap_core.specs.Posed.{Posed}
use Rattle.rel_core.specs.Reading.{Reading}
use Rattle.rel_core.specs.Meaning.{holds}
use Rattle.rel_core.specs.Uses.{IsOf, is_sorted}
use Rattle.dyn_core.specs.declared.state.DynState.{DynState}
use Rattle.dyn_core.specs.Kinds.{HasKinds}
use Rattle.dyn_steps.specs.declared.part.Front.{Front}
use Rattle.dyn_steps.specs.declared.part.Part.{Part}
use Rattle.dyn_steps.specs.Looked.{Vars}
use Rattle.dyn_steps.specs.Paths.{Shows, Relation, GoesOn, IsPath}
use Rattle.dyn_steps.proofs.Moving.{agree_less, agree_on}

-- one relation and then the other
abbrev pub Then : Relation → Relation → Relation
Then R S s t = (between : DynState) × R s between × S between t

-- states keep their kinds
abbrev pub KeepsAll : Posed → List Kind → Relation → Type 0
KeepsAll p kinds R = (s t : DynState) → HasKinds p kinds s → R s t → HasKinds p kinds t

module _ (p : Posed) (kinds : List Kind) (before between after : Vars) (R S : Relation) (from : Front) (a b whole : Part)
    (first : IsPath p kinds before between R from a) (second : IsPath p kinds between after S a.end b) (keeps : KeepsAll p kinds R)
    (end : whole.end ≡ b.end)
    (meaning : (m : Reading) → holds whole.formula m ≡ (holds a.formula m && holds b.formula m))
    (sorted : is_sorted p (slice_get kinds) a.formula ≡ true → is_sorted p (slice_get kinds) b.formula ≡ true → is_sorted p (slice_get kinds) whole.formula ≡ true) where
  then_sound : (m : Reading) (s : DynState) → IsOf p (slice_get kinds) m → holds whole.formula m ≡ true → HasKinds p kinds s → Shows p kinds before m from.at s → (t : DynState)
      × Then R S s t × Shows p kinds after m b.end.at t
  then_sound m s of is has shown =
      let both = and_parts (holds a.formula m) (holds b.formula m) (sym (meaning m) ∙ is) in
      let one = first.sound m s of both.0 has shown in
      let two = second.sound m one.0 of both.1 (keeps s one.0 has one.1) one.2 in
      (two.0, (one.0, one.1, two.1), two.2)

  then_full : (m : Reading) (s t : DynState) → IsOf p (slice_get kinds) m → HasKinds p kinds s → Shows p kinds before m from.at s → Then R S s t
      → GoesOn p kinds after m from.next (record { formula = whole.formula; end = b.end }) t
  then_full m s t of has shown run =
      let one = first.full m s run.0 of has shown run.1 in
      let two = second.full one.reading run.0 t one.of_problem (keeps s run.0 has run.1) one.shown run.2 in
      record {
        reading = two.reading;
        of_problem = two.of_problem;
        agrees = agree_on from.next m one.reading two.reading one.agrees (agree_less from.next a.end.next one.reading two.reading first.up two.agrees);
        shown = two.shown;
        holds = λ u is agree.
            meaning u ∙ and_from (holds a.formula u) (holds b.formula u)
            (one.holds u is (agree_on a.end.next one.reading two.reading u two.agrees (agree_less a.end.next b.end.next two.reading u second.up agree)))
            (two.holds u is agree);
      }

  then_ended : IsPath p kinds before after (Then R S) from (record { formula = whole.formula; end = b.end })
  then_ended = record {
    up = let one = first.up in let two = second.up in omega (arith, one, two);
    point = second.point;
    indices = λ w. elim (second.indices w) [
      | inl same ↦ elim (first.indices w) [
        | inl old ↦ inl (same ∙ old)
        | inr new ↦ inr (subst (λ i. from.next ≤ i) (sym same) new)
      ]
      | inr new ↦ inr (let one = first.up in omega (arith, one, new))
    ];
    sorted = sorted first.sorted second.sorted;
    sound = then_sound;
    full = then_full;
  }

  pub then_path : IsPath p kinds before after (Then R S) from whole
  then_path = subst (λ e. IsPath p kinds before after (Then R S) from (record { formula = whole.formula; end = e })) (sym end) then_ended
