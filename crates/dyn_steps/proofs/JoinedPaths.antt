-- The join of two branches: the formula of either, with each relation at one index behind both.
use Rattle.std.proofs.Common.{◌≡◌, ◌⊎◌, ℕ, ◌≤◌, Bool, true, false, ◌&&◌, ◌||◌, List, refl, sym, ◌∙◌, ap, subst, inl, inr, arith}
use Rattle.std.specs.Prelude.{if◌then◌else◌, slice_get}
use Rattle.std.proofs.lemmas.Bool.{and_parts, and_from, or_left, or_right, eq-eqb, ne_eqb}
use Rattle.taco_unit.specs.declared.kind.Kind.{Kind}
use Rattle.heap_core.specs.Posed.{Posed}
use Rattle.rel_core.specs.declared.formula.Formula.{Formula}
use Rattle.rel_core.specs.declared.relation.What.{What}
use Rattle.rel_core.specs.Reading.{Reading}
use Rattle.rel_core.specs.Meaning.{holds}
use Rattle.rel_core.specs.Uses.{IsOf}
use Rattle.dyn_core.specs.declared.state.DynState.{DynState}
use Rattle.dyn_core.specs.Kinds.{HasKinds}
use Rattle.dyn_steps.specs.declared.point.Point.{Point}
use Rattle.dyn_steps.specs.declared.part.Front.{Front}
use Rattle.dyn_steps.specs.declared.part.Part.{Part}
use Rattle.dyn_steps.specs.Points.{index_of, relation_at, IsPoint}
use Rattle.dyn_steps.specs.Agreeing.{IsAlike, Agree}
use Rattle.dyn_steps.specs.Looked.{Vars}
use Rattle.dyn_steps.specs.Paths.{Shows, Relation, GoesOn, IsPath}
use Rattle.dyn_steps.specs.Joining.{joined, Equates, Either, AreJoined}
use Rattle.dyn_steps.proofs.Moving.{alike_self, alike_back, alike_on, agree_less, agree_on, agree_at, shows_move}
use Rattle.dyn_steps.proofs.Readings.{held, held_of, held_old, held_new}

-- of one branch: how it goes on behind both, by a reading in which the relations behind both are those of the branch
branch_goes_on :
    (p : Posed) (kinds : List Kind) (after : Vars) (m : Reading) (k : ℕ) (part : Part) (t : DynState) (joint : Part) (equal : Formula)
    → k ≤ part.end.next
    → part.end.next ≤ joint.end.next
    → IsPoint p kinds part.end.next part.end.at
    → IsPoint p kinds joint.end.next joint.end.at
    → Equates p kinds after part.end.at joint.end.at equal
    → ((u : Reading) → holds part.formula u ≡ true → holds equal u ≡ true → holds joint.formula u ≡ true)
    → (g : GoesOn p kinds after m k part t)
    → (reading : Reading)
    → IsOf p (slice_get kinds) reading
    → Agree part.end.next g.reading reading
    → ((w : What) → IsAlike g.reading (relation_at part.end.at w) reading (relation_at joint.end.at w))
    → GoesOn p kinds after m k joint t
branch_goes_on p kinds after m k part t joint equal up few point whole equates either g reading of_reading old alike = record {
  reading = reading;
  of_problem = of_reading;
  agrees = agree_on k m g.reading reading g.agrees (agree_less k part.end.next g.reading reading up old);
  shown = shows_move p kinds after g.reading reading part.end.at joint.end.at t (of_reading.objects ∙ sym g.of_problem.objects) (λ w is. alike w) g.shown;
  holds = λ u of near.
      let below : Agree part.end.next g.reading u = agree_on part.end.next g.reading reading u old (agree_less part.end.next joint.end.next reading u few near) in
      either u (g.holds u of below) (equates.holds u of (λ w.
      alike_on (alike_back (agree_at p kinds part.end.next part.end.at g.reading u point below w))
      (alike_on (alike w) (agree_at p kinds joint.end.next joint.end.at reading u whole near w))));
}

or_either : (x y : Bool) → (x || y) ≡ true → (x ≡ true) ⊎ (y ≡ true)
or_either true y is = inl refl
or_either false y is = inr is

module _ (p : Posed) (kinds : List Kind) (before after : Vars) (R S : Relation) (from : Front) (a b joint : Part)
    (begun : IsPoint p kinds from.next from.at)
    (first : IsPath p kinds before after R from a) (second : IsPath p kinds before after S (record { at = from.at; next = a.end.next }) b)
    (are : AreJoined p kinds after from.at a b joint) where
  -- a state that is shown behind a branch is shown behind both
  behind : (part : Part) (equal : Formula) (m : Reading) (t : DynState) → Equates p kinds after part.end.at joint.end.at equal → IsOf p (slice_get kinds) m → holds equal m ≡ true
      → Shows p kinds after m part.end.at t → Shows p kinds after m joint.end.at t
  behind part equal m t equates of is shown = shows_move p kinds after m m part.end.at joint.end.at t refl (equates.alike m of is) shown

  joined_sound : (m : Reading) (s : DynState) → IsOf p (slice_get kinds) m → holds joint.formula m ≡ true → HasKinds p kinds s → Shows p kinds before m from.at s → (t : DynState)
      × Either R S s t × Shows p kinds after m joint.end.at t
  joined_sound m s of is has shown = elim (or_either (holds a.formula m && holds are.first_equal m) (holds b.formula m && holds are.second_equal m) (sym (are.meaning m) ∙ is)) [
    | inl one ↦
        let both = and_parts (holds a.formula m) (holds are.first_equal m) one in
        let run = first.sound m s of both.0 has shown in
        (run.0, inl run.1, behind a are.first_equal m run.0 are.first_equates of both.1 run.2)
    | inr other ↦
        let both = and_parts (holds b.formula m) (holds are.second_equal m) other in
        let run = second.sound m s of both.0 has shown in
        (run.0, inr run.1, behind b are.second_equal m run.0 are.second_equates of both.1 run.2)
  ]

  -- ## indices

  abbrev old : What → ℕ
  old = index_of from.at

  -- either the second branch left the relation alone, and it is at the first one's index, or it gave it a new one
  by_second : (w : What) → ((index_of b.end.at w ≡ old w) × (index_of joint.end.at w ≡ index_of a.end.at w))
      ⊎ ((a.end.next ≤ index_of b.end.at w) × (index_of joint.end.at w ≡ index_of b.end.at w))
  by_second w = elim (second.indices w) [
    | inl same ↦ inl (same, are.joins w ∙ ap (λ c. if c then index_of a.end.at w else index_of b.end.at w) (eq-eqb (index_of b.end.at w) (old w) same))
    | inr new ↦ inr (
      new,
      are.joins w ∙ ap (λ c. if c then index_of a.end.at w else index_of b.end.at w) (ne_eqb (index_of b.end.at w) (old w) (λ same.
          let low = begun.below w in
          let up = first.up in
          absurd (omega (arith, new, same, low, up)))),
    )
  ]

  -- the relation of this index, instead of another
  at_index : (m u : Reading) (r : What) (w : What) (i j : ℕ) (k : ℕ) → i ≡ j → IsAlike m (record { what = r; index = k }) u (record { what = w; index = j })
      → IsAlike m (record { what = r; index = k }) u (record { what = w; index = i })
  at_index m u r w i j k same alike = subst (λ z. IsAlike m (record { what = r; index = k }) u (record { what = w; index = z })) (sym same) alike

  -- ## a run of the first branch: what the second changed is what the first left

  first_on : (m : Reading) (s t : DynState) → IsOf p (slice_get kinds) m → HasKinds p kinds s → Shows p kinds before m from.at s → R s t → GoesOn p kinds after m from.next joint t
  first_on m s t of has shown run =
      let up = second.up in
      let next = are.next in
      branch_goes_on p kinds after m from.next a t joint are.first_equal first.up (omega (arith, up, next)) first.point (subst (λ n. IsPoint p kinds n joint.end.at) (sym are.next) are.point)
      are.first_equates
      (λ u holds_a equal. are.meaning u ∙ or_left (holds a.formula u && holds are.first_equal u) (holds b.formula u && holds are.second_equal u)
      (and_from (holds a.formula u) (holds are.first_equal u) holds_a equal))
      g reading (held_of p (slice_get kinds) a.end.next (index_of a.end.at) g.reading g.of_problem) (held_old a.end.next (index_of a.end.at) g.reading) alike
    where
      g : GoesOn p kinds after m from.next a t
      g = first.full m s t of has shown run

      reading : Reading
      reading = held a.end.next (index_of a.end.at) g.reading

      alike : (w : What) → IsAlike g.reading (relation_at a.end.at w) reading (relation_at joint.end.at w)
      alike w = elim (by_second w) [
        | inl kept ↦
            at_index g.reading reading w w (index_of joint.end.at w) (index_of a.end.at w) (index_of a.end.at w) kept.1
            (held_old a.end.next (index_of a.end.at) g.reading (relation_at a.end.at w) (first.point.below w))
        | inr new ↦
            at_index g.reading reading w w (index_of joint.end.at w) (index_of b.end.at w) (index_of a.end.at w) new.1
            (held_new a.end.next (index_of a.end.at) g.reading (relation_at b.end.at w) new.0)
      ]

  -- ## a run of the second branch: it begins where what the first changed is what it was at the beginning

  second_on : (m : Reading) (s t : DynState) → IsOf p (slice_get kinds) m → HasKinds p kinds s → Shows p kinds before m from.at s → S s t → GoesOn p kinds after m from.next joint t
  second_on m s t of has shown run =
      let up = first.up in
      let also = second.up in
      let next = are.next in
      branch_goes_on p kinds after m from.next b t joint are.second_equal (omega (arith, up, also)) (omega (arith, next)) second.point (subst (λ n. IsPoint p kinds n joint.end.at)
      (sym are.next) are.point)
      are.second_equates
      (λ u holds_b equal. are.meaning u ∙ or_right (holds a.formula u && holds are.first_equal u) (holds b.formula u && holds are.second_equal u)
      (and_from (holds b.formula u) (holds are.second_equal u) holds_b equal))
      (record {
        reading = g.reading;
        of_problem = g.of_problem;
        agrees = agree_on from.next m start g.reading start_old (agree_less from.next a.end.next start g.reading first.up g.agrees);
        shown = g.shown;
        holds = g.holds;
      })
      g.reading g.of_problem (λ r low. alike_self g.reading r) alike
    where
      start : Reading
      start = held from.next old m

      start_old : Agree from.next m start
      start_old = held_old from.next old m

      start_of : IsOf p (slice_get kinds) start
      start_of = held_of p (slice_get kinds) from.next old m of

      start_shown : Shows p kinds before start from.at s
      start_shown = shows_move p kinds before m start from.at from.at s refl (λ w looked. agree_at p kinds from.next from.at m start begun start_old w) shown

      g : GoesOn p kinds after start a.end.next b t
      g = second.full start s t start_of has start_shown run

      -- what it was at the beginning
      first_alike : (w : What) → IsAlike g.reading (relation_at from.at w) start (relation_at from.at w)
      first_alike w = alike_back (g.agrees (relation_at from.at w) (let low = begun.below w in let up = first.up in omega (arith, low, up)))

      kept_alike : (w : What) → IsAlike g.reading (relation_at from.at w) g.reading (relation_at a.end.at w)
      kept_alike w = elim (first.indices w) [
        | inl same ↦ at_index g.reading g.reading w w (index_of a.end.at w) (old w) (old w) same (alike_self g.reading (relation_at from.at w))
        | inr new ↦
            alike_on (first_alike w)
            (alike_on (alike_back (start_old (relation_at from.at w) (begun.below w)))
            (alike_on (held_new from.next old m (relation_at a.end.at w) new) (g.agrees (relation_at a.end.at w) (first.point.below w))))
      ]

      alike : (w : What) → IsAlike g.reading (relation_at b.end.at w) g.reading (relation_at joint.end.at w)
      alike w = elim (by_second w) [
        | inl kept ↦
            subst (λ z. IsAlike g.reading (record { what = w; index = z }) g.reading (relation_at joint.end.at w)) (sym kept.0)
            (at_index g.reading g.reading w w (index_of joint.end.at w) (index_of a.end.at w) (old w) kept.1 (kept_alike w))
        | inr new ↦ at_index g.reading g.reading w w (index_of joint.end.at w) (index_of b.end.at w) (index_of b.end.at w) new.1 (alike_self g.reading (relation_at b.end.at w))
      ]

  joined_full : (m : Reading) (s t : DynState) → IsOf p (slice_get kinds) m → HasKinds p kinds s → Shows p kinds before m from.at s → Either R S s t → GoesOn p kinds after m from.next joint t
  joined_full m s t of has shown (inl run) = first_on m s t of has shown run
  joined_full m s t of has shown (inr run) = second_on m s t of has shown run

  pub joined_path : IsPath p kinds before after (Either R S) from joint
  joined_path = record {
    up = let one = first.up in let two = second.up in let next = are.next in omega (arith, one, two, next);
    point = subst (λ n. IsPoint p kinds n joint.end.at) (sym are.next) are.point;
    indices = λ w. elim (by_second w) [
      | inl kept ↦ elim (first.indices w) [
        | inl same ↦ inl (kept.1 ∙ same)
        | inr new ↦ inr (subst (λ i. from.next ≤ i) (sym kept.1) new)
      ]
      | inr new ↦ inr (subst (λ i. from.next ≤ i) (sym new.1) (let one = first.up in let low = new.0 in omega (arith, one, low)))
    ];
    sorted = are.sorted first.sorted second.sorted;
    sound = joined_sound;
    full = joined_full;
  }
