use Rattle.std.proofs.Common.{◌≡◌, ℕ, ◌+◌, ◌/◌, ◌<◌, ◌≤◌, List, [], ◌∷◌, ◌++◌, true, length, reverse, get_or, subst, sym, ap, ◌∙◌, arith}
use Rattle.std.specs.List.Sorted.{IsPermutation}
use Rattle.cnf_core.specs.Literal.{negated}
use Rattle.sat_watch.specs.declared.trail.Entry.{Entry}
use Rattle.sat_watch.specs.Literals.{has, EachOnce}
use Rattle.sat_analysis.proofs.Learning.{IsGathered, IsMinimal, gathered, point_from, learnt_is}
use Rattle.sat_analysis.proofs.Order.{All_has}
use Rattle.sat_analysis.proofs.Settling.{false_over}
use Rattle.sat_analysis.proofs.learn.conclude.Goals as goal

pub returns : goal.returns
returns g c =
    let e = c.index-entries-place.result in
    let t = c.args.trail.now in
    let table = c.args.notes.now.levels.items in
    let m = c.args.minimiser.now in
    let sound = c.entries.ensures.sound in
    let min : IsMinimal g.known t table c.args.marks.now.lits m = record {
      settled = c.requires.1.1.1.1.1.1.0;
      implies = c.requires.1.1.1.1.1.1.1.0;
      covered = c.requires.1.1.1.1.1.1.1.1;
      once = subst EachOnce c.lits.ensures.value c.lits.ensures.once;
    } in
    let order : List ℕ = m.hints.items ++ reverse c.args.hints.now in
    let all : IsGathered g.known t table order (negated e.lit) (negated e.lit ∷ m.kept.lits) =
    gathered g.known t table c.args.marks.now.lits c.args.hints.now c.args.place e m
    (point_from g.known t table c.args.marks.now.lits c.args.hints.now c.entries.result.now c.args.place e sound c.requires.1.0 c.requires.1.1.0 c.requires.1.1.1.0 c.entries.ensures.value c.index-entries-place.is
    c.requires.1.1.1.1.0 c.requires.1.1.1.1.1.0) min in
    let pushed : c.push.new.self.items ≡ negated e.lit ∷ [] =
    c.in_ok-push.ensures.items ∙ ap (λ l. l ++ c.negated.result ∷ []) c.new-lits.ensures.items ∙ ap (λ x. x ∷ []) (c.negated.ensures ∙ ap (λ (x : Entry). negated x.lit) (sym c.index-entries-place.is)) in
    let lits_are : c.extend_from_slice.new.self.items ≡ negated e.lit ∷ m.kept.lits =
    c.in_ok-extend_from_slice.ensures.items ∙ ap (λ l. l ++ c.lits.result.now) pushed ∙ ap (λ l. negated e.lit ∷ l) c.lits.ensures.value in
    let all' : IsGathered g.known t table order (negated e.lit) c.extend_from_slice.new.self.items = subst (IsGathered g.known t table order (negated e.lit)) (sym lits_are) all in
    let same : c.deref.result.now ≡ table = c.deref.ensures.value in
    let lits = c.raise_highest-level.new.lits.items in
    learnt_is g.known t table order c.extend_from_slice.new.self.items lits (negated e.lit) c.raise_highest-level.result c.in_ok-line.line
    sound c.requires.1.0 c.requires.1.1.0 all'
    (omega (arith, ap length lits_are)) (ap (λ xs. get_or xs 0 0) lits_are)
    c.raise_highest-level.ensures.moved c.raise_highest-level.ensures.first
    (λ h. ap (λ t. get_or t (get_or lits 1 0 / 2) 0) (sym same) ∙ c.raise_highest-level.ensures.second h)
    c.raise_highest-level.ensures.alone
    (λ k a b. subst (λ t. get_or t (get_or lits k 0 / 2) 0 ≤ c.raise_highest-level.result) same (c.raise_highest-level.ensures.highest k a b))
    (subst (λ xs. IsPermutation xs c.in_ok-line.line.clause) c.deref-2.ensures.value c.in_ok-line.ensures.clause)
    c.in_ok-line.ensures.sorted (c.in_ok-line.ensures.hints ∙ ap (λ l. l ++ reverse c.args.hints.now) c.deref-3.ensures.value)

pub raise_highest-level-requires : goal.raise_highest-level-requires
raise_highest-level-requires g c =
    let e = c.index-entries-place.result in
    let t = c.args.trail.now in
    let table = c.args.notes.now.levels.items in
    let m = c.args.minimiser.now in
    let sound = c.entries.ensures.sound in
    let min : IsMinimal g.known t table c.args.marks.now.lits m = record {
      settled = c.requires.1.1.1.1.1.1.0;
      implies = c.requires.1.1.1.1.1.1.1.0;
      covered = c.requires.1.1.1.1.1.1.1.1;
      once = subst EachOnce c.lits.ensures.value c.lits.ensures.once;
    } in
    let all : IsGathered g.known t table (m.hints.items ++ reverse c.args.hints.now) (negated e.lit) (negated e.lit ∷ m.kept.lits) =
    gathered g.known t table c.args.marks.now.lits c.args.hints.now c.args.place e m
    (point_from g.known t table c.args.marks.now.lits c.args.hints.now c.entries.result.now c.args.place e sound c.requires.1.0 c.requires.1.1.0 c.requires.1.1.1.0 c.entries.ensures.value c.index-entries-place.is
    c.requires.1.1.1.1.0 c.requires.1.1.1.1.1.0) min in
    let pushed : c.push.new.self.items ≡ negated e.lit ∷ [] =
    c.in_ok-push.ensures.items ∙ ap (λ l. l ++ c.negated.result ∷ []) c.new-lits.ensures.items ∙ ap (λ x. x ∷ []) (c.negated.ensures ∙ ap (λ (x : Entry). negated x.lit) (sym c.index-entries-place.is)) in
    let lits_are : c.extend_from_slice.new.self.items ≡ negated e.lit ∷ m.kept.lits =
    c.in_ok-extend_from_slice.ensures.items ∙ ap (λ l. l ++ c.lits.result.now) pushed ∙ ap (λ l. negated e.lit ∷ l) c.lits.ensures.value in
    let size : length c.deref.result.now ≡ t.vars + 1 = ap length c.deref.ensures.value ∙ c.requires.0 in
    record { table = All_has (λ lit. lit / 2 < length c.deref.result.now) c.extend_from_slice.new.self.items (λ lit h. omega (arith, false_over t lit sound (all.are_false lit (subst (λ l. has l lit ≡ true) lits_are h)), size)) }
