-- From the first unique implication point to the line that is learnt.
use Rattle.std.proofs.Common.{◌≡◌, ◌≢◌, ℕ, ◌+◌, ◌/◌, ◌<◌, ◌≤◌, true, false, cond, eqb, ◌&&◌, ◌||◌, List, [], ◌∷◌, ◌++◌, length, map, take, reverse, get_or, refl, sym, ap, ◌∙◌, subst, inl, inr, arith}
use Rattle.std.specs.List.Sorted.{IsPermutation, IsSorted}
use Rattle.std.specs.Ordering.{nat_cmp}
use Rattle.std.proofs.lemmas.Bool.{and_from, or_cases, or_left, or_right, cases_lt, false_from_ne_true}
use Rattle.std.proofs.lemmas.List.Elements.{All-take}
use Rattle.std.proofs.lemmas.List.Sorted.{length_permutation}
use Rattle.cnf_core.specs.Literal.{negated, IsOver}
use Rattle.derivation.specs.Step.{Step}
use Rattle.derivation.specs.Propagation.{once, ends}
use Rattle.sat_watch.specs.declared.trail.Entry.{Entry}
use Rattle.cnf_core.specs.Trues.{is_true}
use Rattle.sat_watch.specs.Literals.{has, EachOnce}
use Rattle.sat_watch.specs.Trail.{TrailState, literals, IsSound}
use Rattle.sat_watch.proofs.LiteralLemmas.{tested, equal, unequal, negated-negated, is_true-append, over_negated}
use Rattle.sat_watch.proofs.WatchLemmas.{over_has}
use Rattle.sat_analysis.specs.Learnt.{level_of, IsLearnt}
use Rattle.sat_analysis.specs.declared.minimise.Minimiser.{Minimiser}
use Rattle.sat_analysis.specs.Settled.{Covers, Implies, IsSettled}
use Rattle.sat_analysis.specs.Walk.{marked_at, AreLeveled, IsAt}
use Rattle.sat_analysis.proofs.Levels.{level_negated, level_within, marked_zero, true_before}
use Rattle.sat_analysis.proofs.Lits.{AreFalse, negated_has, once_false}
use Rattle.sat_analysis.proofs.Order.{once_moved, has_moved, place_has, has_place, All_has, once_apart, rising_sorted}
use Rattle.sat_analysis.proofs.Steps.{IsUpTo, up_to_place, front_true, level_here, marked_split, entry_is}

-- The place of the first unique implication point, with all that is marked.
pub record IsPoint (known : List (List ℕ)) (t : TrailState) (table marks hints : List ℕ) (place : ℕ) (e : Entry) : Type 0 where
  pub sound : IsSound t
  pub leveled : AreLeveled table t.entries
  pub above : 0 < t.level
  pub within : place < length t.entries
  pub entry : e ≡ get_or t.entries place e
  pub marked : has marks (negated e.lit) ≡ true
  pub at : IsAt known t.entries marks hints t.level 1 (place + 1)

-- What is gathered there: in that order the hints end in a conflict where its literals are false.
pub record IsGathered (known : List (List ℕ)) (t : TrailState) (table order : List ℕ) (first : ℕ) (lits : List ℕ) : Type 0 where
  pub first_level : level_of table first ≡ t.level
  pub once : EachOnce lits
  pub are_false : AreFalse (literals t.entries) lits
  pub others : (lit : ℕ) → has lits lit ≡ true → lit ≢ first → level_of table lit < t.level
  pub ends : (clause : List ℕ) → ((lit : ℕ) → has clause lit ≡ has lits lit) → ends known order (map negated clause) ≡ true

-- All marked literals of lower levels are settled, and what follows from the kept ones is known.
pub record IsMinimal (known : List (List ℕ)) (t : TrailState) (table marks : List ℕ) (m : Minimiser) : Type 0 where
  pub settled : IsSettled t table m
  pub implies : Implies known (literals t.entries) m
  pub covered : (lit : ℕ) → has marks lit ≡ true → level_of table lit < t.level → Covers m lit
  pub once : EachOnce m.kept.lits

pub gathered : (known : List (List ℕ)) (t : TrailState) (table marks hints : List ℕ) (place : ℕ) (e : Entry) (m : Minimiser) → IsPoint known t table marks hints place e → IsMinimal known t table marks m
    → IsGathered known t table (m.hints.items ++ reverse hints) (negated e.lit) (negated e.lit ∷ m.kept.lits)
gathered known t table marks hints place e m p min =
    let trues : List ℕ = literals t.entries in
    let front : List ℕ = literals (take (place + 1) t.entries) in
    let first = negated e.lit in
    let lits = first ∷ m.kept.lits in
    let u : IsUpTo t.entries place e = up_to_place t.entries place e p.within p.entry in
    let here : e.level ≡ t.level = level_here t.entries marks t.level place e p.within p.entry p.sound.rises (omega (arith, p.at.counted)) in
    let top : level_of table first ≡ t.level = level_negated table e.lit ∙ leveled_at p.leveled ∙ here in
    let none : marked_at marks t.level (take place t.entries) ≡ 0 =
    (let on : eqb e.level t.level ≡ true = grind (arith, here) in
    let one : marked_at marks t.level (take place t.entries) + cond (eqb e.level t.level && has marks (negated e.lit)) 1 0 ≡ marked_at marks t.level (take place t.entries) + 1 = rw (on, p.marked) refl in
    omega (arith, p.at.counted, ap (marked_at marks t.level) u.front ∙ marked_split marks t.level (take place t.entries) e ∙ one)) in
    let split : (x : ℕ) → is_true front x ≡ (is_true (literals (take place t.entries)) x || is_true (e.lit ∷ []) x) = λ x. ap (λ ls. is_true ls x) u.lits ∙ is_true-append (literals (take place t.entries)) (e.lit ∷ []) x in
    let first_front : is_true front (negated first) ≡ true = split (negated first) ∙ or_right (is_true (literals (take place t.entries)) (negated first)) _ (let q : e.lit ≡ negated first = sym (negated-negated e.lit) in grind (arith, q)) in
    let low_front : (lit : ℕ) → is_true trues (negated lit) ≡ true → level_of table lit < t.level → is_true front (negated lit) ≡ true =
    λ lit made below. split (negated lit) ∙ or_left _ (is_true (e.lit ∷ []) (negated lit)) (true_before table t.entries 0 t.level place (negated lit) e p.leveled p.sound.rises made p.within p.entry (omega (arith, below, here, level_negated table lit))) in
    let kept_low : (lit : ℕ) → has m.kept.lits lit ≡ true → level_of table lit < t.level = λ lit h. min.settled.low lit (or_left (has m.kept.lits lit) _ h) in
    let implied_low : (lit : ℕ) → has m.implied.lits lit ≡ true → level_of table lit < t.level = λ lit h. min.settled.low lit (or_right (has m.kept.lits lit) _ h) in
    let on_front : (lit : ℕ) → has lits lit ≡ true → is_true front (negated lit) ≡ true = λ lit h. elim (tested (eqb first lit)) [
      | inl same ↦ subst (λ x. is_true front (negated x) ≡ true) (equal first lit same) first_front
      | inr other ↦ let k : has m.kept.lits lit ≡ true = grind (arith, h, other) in low_front lit (min.settled.kept_false lit k) (kept_low lit k)
    ] in
    let first_off : has m.kept.lits first ≡ false = false_from_ne_true (has m.kept.lits first) (λ h. absurd (omega (arith, kept_low first h, top))) in
    record {
      first_level = top;
      once = (first_off, min.once);
      are_false = λ lit h. front_true t.entries (place + 1) (negated lit) (on_front lit h);
      others = λ lit h d. elim (tested (eqb first lit)) [
        | inl same ↦ absurd (d (sym (equal first lit same)))
        | inr other ↦ kept_low lit (grind (arith, h, other))
      ];
      ends = λ clause same.
          let told : (lit : ℕ) → is_true (map negated clause) (negated lit) ≡ has lits lit = λ lit. negated_has clause (negated lit) ∙ ap (has clause) (negated-negated lit) ∙ same lit in
          let state : List ℕ = map negated clause ++ map negated m.implied.lits in
          let joined : (x : ℕ) → is_true state x ≡ (is_true (map negated clause) x || is_true (map negated m.implied.lits) x) = λ x. is_true-append (map negated clause) (map negated m.implied.lits) x in
          let implied_told : (lit : ℕ) → is_true (map negated m.implied.lits) (negated lit) ≡ has m.implied.lits lit = λ lit. negated_has m.implied.lits (negated lit) ∙ ap (has m.implied.lits) (negated-negated lit) in
          let part_front : (x : ℕ) → is_true (map negated clause) x ≡ true → is_true front x ≡ true = λ x h.
          subst (λ y. is_true front y ≡ true) (negated-negated x) (on_front (negated x) (sym (told (negated x)) ∙ ap (is_true (map negated clause)) (negated-negated x) ∙ h)) in
          let implied_front : (x : ℕ) → is_true (map negated m.implied.lits) x ≡ true → is_true front x ≡ true = λ x h.
          let k : has m.implied.lits (negated x) ≡ true = sym (negated_has m.implied.lits x) ∙ h in
          subst (λ y. is_true front y ≡ true) (negated-negated x) (low_front (negated x) (min.settled.implied_false (negated x) k) (implied_low (negated x) k)) in
          min.implies (map negated clause) (reverse hints)
          (λ x h. front_true t.entries (place + 1) x (part_front x h))
          (λ lit h. told lit ∙ grind (arith, h))
          (λ lit h. told lit ∙ elim (tested (eqb first lit)) [
            | inl is ↦ absurd (let low : level_of table first < t.level = subst (λ x. level_of table x < t.level) (sym (equal first lit is)) (implied_low lit h) in omega (arith, low, top))
            | inr other ↦
                let off : has m.kept.lits lit ≡ false = false_from_ne_true (has m.kept.lits lit) (λ k. absurd (let both : true ≡ false = sym h ∙ min.settled.apart lit k in cc)) in
                grind (arith, off, other)
          ])
          (p.at.derives state
          (λ x h. elim (or_cases (is_true (map negated clause) x) (is_true (map negated m.implied.lits) x) (sym (joined x) ∙ h)) [ inl a ↦ part_front x a | inr b ↦ implied_front x b ])
          (λ lit m' on. joined (negated lit) ∙ elim (tested (eqb first lit)) [
            | inl is ↦ or_left (is_true (map negated clause) (negated lit)) _ (told lit ∙ grind (arith, is))
            | inr other ↦
                let before : is_true (literals (take place t.entries)) (negated lit) ≡ true = elim (or_cases (is_true (literals (take place t.entries)) (negated lit)) (is_true (e.lit ∷ []) (negated lit)) (sym (split (negated lit)) ∙ on)) [
                  | inl a ↦ a
                  | inr b ↦ absurd (unequal first lit other (ap negated (equal e.lit (negated lit) (grind (arith, b))) ∙ negated-negated lit))
                ] in
                let whole : is_true trues (negated lit) ≡ true = front_true t.entries place (negated lit) before in
                let at_most : level_of table (negated lit) ≤ t.level = level_within table t.entries 0 t.level (negated lit) p.leveled p.sound.rises whole in
                let away : level_of table lit ≢ t.level = marked_zero table (take place t.entries) marks t.level lit (leveled_front p.leveled) none m' before in
                elim (or_cases (has m.kept.lits lit) (has m.implied.lits lit) (min.covered lit m' (omega (arith, at_most, away, level_negated table lit)))) [
                  | inl k ↦ or_left (is_true (map negated clause) (negated lit)) _ (told lit ∙ grind (arith, k))
                  | inr k ↦ or_right (is_true (map negated clause) (negated lit)) _ (implied_told lit ∙ k)
                ]
          ]));
    }
  where
    leveled_at : AreLeveled table t.entries → get_or table (e.lit / 2) 0 ≡ e.level
    leveled_at l = subst (λ (x : Entry). get_or table (x.lit / 2) 0 ≡ x.level) (sym p.entry) (l place e p.within)

    leveled_front : AreLeveled table t.entries → AreLeveled table (take place t.entries)
    leveled_front l = All-take (λ (x : Entry). get_or table (x.lit / 2) 0 ≡ x.level) place t.entries l

-- the line over what is gathered, in whichever order
pub learnt_is : (known : List (List ℕ)) (t : TrailState) (table order gathered_lits lits : List ℕ) (first back : ℕ) (line : Step) → IsSound t → AreLeveled table t.entries → 0 < t.level
    → IsGathered known t table order first gathered_lits → 0 < length gathered_lits → get_or gathered_lits 0 0 ≡ first → IsPermutation gathered_lits lits → get_or lits 0 0 ≡ get_or gathered_lits 0 0
    → (1 < length lits → level_of table (get_or lits 1 0) ≡ back) → (length lits ≤ 1 → back ≡ 0) → ((k : ℕ) → 0 < k → k < length lits → level_of table (get_or lits k 0) ≤ back)
    → IsPermutation lits line.clause → IsSorted nat_cmp line.clause → line.hints ≡ order → IsLearnt known t table line lits back
learnt_is known t table order gathered_lits lits first back line s l above g some head moved head' second alone highest ordered sorted hs =
    let lits_first : get_or lits 0 0 ≡ first = head' ∙ head in
    let same : (lit : ℕ) → has gathered_lits lit ≡ has lits lit = λ lit. has_moved gathered_lits lits lit moved in
    let same' : (lit : ℕ) → has line.clause lit ≡ has lits lit = λ lit. sym (has_moved lits line.clause lit ordered) in
    let lits_false : AreFalse (literals t.entries) lits = λ lit h. g.are_false lit (same lit ∙ h) in
    let lits_once : EachOnce lits = once_moved gathered_lits lits moved g.once in
    let apart : once line.clause ≡ true = once_false (literals t.entries) line.clause s.apart (once_moved lits line.clause ordered lits_once) (λ lit h. lits_false lit (sym (same' lit) ∙ h)) in
    let over : (lit : ℕ) → has lits lit ≡ true → IsOver t.vars lit =
    λ lit h. subst (IsOver t.vars) (negated-negated lit) (over_negated t.vars (negated lit) (over_has t.vars (literals t.entries) (negated lit) s.over (lits_false lit h))) in
    let some' : 0 < length lits = omega (arith, some, length_permutation gathered_lits lits moved) in
    record {
      follows = and_from (once line.clause) _ apart (subst (λ h. ends known h (map negated line.clause) ≡ true) (sym hs) (g.ends line.clause (λ lit. same' lit ∙ sym (same lit))));
      clause = record { rising = rising_sorted line.clause sorted apart; over = All_has (IsOver t.vars) line.clause (λ lit h. over lit (sym (same' lit) ∙ h)) };
      same = same';
      some = some';
      over = All_has (IsOver t.vars) lits over;
      once = lits_once;
      are_false = lits_false;
      first = ap (level_of table) lits_first ∙ g.first_level;
      below = elim (cases_lt 1 (length lits)) [
        | inl many ↦
            let apart' : get_or lits 0 0 ≢ get_or lits 1 0 = once_apart lits 0 1 lits_once (omega arith) many in
            let low : level_of table (get_or lits 1 0) < t.level = g.others (get_or lits 1 0) (same (get_or lits 1 0) ∙ place_has lits 1 0 many) (λ q. apart' (lits_first ∙ sym q)) in
            omega (arith, low, second many)
        | inr one ↦ omega (arith, alone one, above)
      ];
      others = λ lit h d.
          let p = has_place lits lit h in
          elim (cases_lt 0 p.0) [
            | inl behind ↦ subst (λ x. level_of table x ≤ back) p.2 (highest p.0 behind p.1)
            | inr here ↦ absurd (let z : p.0 ≡ 0 = omega arith in d (sym p.2 ∙ ap (λ k. get_or lits k 0) z))
          ];
      second = second;
      alone = λ e. alone (omega (arith, e));
    }

-- at level 0, where no marked literal is left, the hints refute
pub refuted : (known : List (List ℕ)) (t : TrailState) (table marks hints : List ℕ) (left : ℕ) → IsSound t → AreLeveled table t.entries → t.level ≡ 0 → IsAt known t.entries marks hints t.level 0 left
    → ends known (reverse hints) [] ≡ true
refuted known t table marks hints left s l root at =
    at.derives [] (λ lit h. absurd (let both : false ≡ true = h in cc))
    (λ lit m h. absurd (
    let whole : is_true (literals t.entries) (negated lit) ≡ true = front_true t.entries left (negated lit) h in
    let at_most : level_of table (negated lit) ≤ t.level = level_within table t.entries 0 t.level (negated lit) l s.rises whole in
    marked_zero table (take left t.entries) marks t.level lit (All-take (λ (x : Entry). get_or table (x.lit / 2) 0 ≡ x.level) left t.entries l) (sym at.counted) m h (omega (arith, at_most, root, level_negated table lit))))

pub point_from : (known : List (List ℕ)) (t : TrailState) (table marks hints : List ℕ) (entries : List Entry) (place : ℕ) (e : Entry) → IsSound t → AreLeveled table t.entries → 0 < t.level
    → place < length t.entries → entries ≡ t.entries → e ≡ get_or entries place e → ((d : Entry) → has marks (negated (get_or t.entries place d).lit) ≡ true) → IsAt known t.entries marks hints t.level 1 (place + 1)
    → IsPoint known t table marks hints place e
point_from known t table marks hints entries place e s l above within en is m at =
    let is' : e ≡ get_or t.entries place e = entry_is entries t.entries place e en is in
    record {
      sound = s;
      leveled = l;
      above = above;
      within = within;
      entry = is';
      marked = subst (λ (x : Entry). has marks (negated x.lit) ≡ true) (sym is') (m e);
      at = at;
    }
