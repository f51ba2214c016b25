-- What stays right of the watches where the trail grows or goes back.
use Rattle.std.proofs.Common.{◌≡◌, ◌≢◌, ℕ, zero, suc, ◌+◌, ◌-◌, ◌*◌, ◌/◌, ◌<◌, ◌≤◌, true, false, eqb, ltb, List, [], ◌∷◌, ◌++◌, length, get_or, set, refl, sym, ap, ◌∙◌, subst, inl, inr, ◌⊎◌, arith, get_or-set_same, get_or-set_other, length-append}
use Rattle.std.specs.Prelude.{nat_le, min}
use Rattle.std.proofs.lemmas.List.{length-map, map-append, length-set, length_push, get_or_append_left, get_or_push, get_or-append_right, get_or-map}
use Rattle.cnf_core.specs.Literal.{negated}
use Rattle.sat_watch.specs.declared.trail.Entry.{Entry}
use Rattle.sat_watch.specs.Literals.{has}
use Rattle.sat_watch.specs.Trail.{TrailState, literals, levels, up_to, IsFront, Rises}
use Rattle.sat_watch.specs.Watching.{WatchState, twin, clause_of, IsWatch, IsSet, IsTrueBy, IsGuarded, CanPair, Right, RightBut}
use Rattle.sat_watch.proofs.LiteralLemmas.{tested, equal, unequal, halves, negated-half}
use Rattle.sat_watch.proofs.WatchLemmas.{twin_even, twin_odd}
use Rattle.sat_watch.proofs.TrailLemmas.{up_to_none}

-- what was true by some entry is so with more entries
pub true_by_more : (lits levels more more' : List ℕ) (lit level : ℕ) → length levels ≡ length lits → IsTrueBy lits levels lit level → IsTrueBy (lits ++ more) (levels ++ more') lit level
true_by_more lits levels more more' lit level pair t = record {
  place = t.place;
  within = omega (arith, t.within, length-append lits more);
  is = get_or_append_left lits more 0 t.place t.within ∙ t.is;
  below = rw (get_or_append_left levels more' 0 t.place (rw pair t.within)) t.below;
}

pub guarded_more : (lits levels more more' : List ℕ) (passed one other : ℕ) → length levels ≡ length lits → passed ≤ length lits
    → IsGuarded lits levels passed one other → IsGuarded (lits ++ more) (levels ++ more') passed one other
guarded_more lits levels more more' passed one other pair within g i lt h =
    let here : i < length lits = omega arith in
    let old : get_or lits i 0 ≡ negated one = sym (get_or_append_left lits more 0 i here) ∙ h in
    subst (λ l. IsTrueBy (lits ++ more) (levels ++ more') other l) (sym (get_or_append_left levels more' 0 i (rw pair here)))
    (true_by_more lits levels more more' other (get_or levels i 0) pair (g i lt old))

paired : (entries : List Entry) → length (levels entries) ≡ length (literals entries)
paired entries = length-map entries (λ x. x.level) ∙ sym (length-map entries (λ x. x.lit))

pub right_more : (w : WatchState) (vars level passed level' : ℕ) (entries : List Entry) (e : Entry)
    → Right w (record { vars = vars; entries = entries; level = level; passed = passed }) → e.level ≡ level' → passed ≤ length entries
    → (level' ≡ level) ⊎ (passed ≡ length entries)
    → Right w (record { vars = vars; entries = entries ++ e ∷ []; level = level'; passed = passed })
right_more w vars level passed level' entries e r is within either = record {
  set = r.set;
  pending = λ i le lt.
      let lvls : levels (entries ++ e ∷ []) ≡ levels entries ++ e.level ∷ [] = map-append (λ x. x.level) entries (e ∷ []) in
      let count : length (levels entries) ≡ length entries = length-map entries (λ x. x.level) in
      let few : i < length entries + 1 = omega (arith, length_push entries e) in
      elim (tested (ltb i (length entries))) [
        | inl old ↦
            let here : i < length entries = grind (arith, old) in
            elim either [
              | inl same ↦ ap (λ ls. get_or ls i 0) lvls ∙ get_or_append_left (levels entries) (e.level ∷ []) 0 i (omega arith) ∙ r.pending i le here ∙ sym same
              | inr all ↦ absurd (omega arith)
            ]
        | inr new ↦
            let here : length (levels entries) ≡ i = let ge : length entries ≤ i = grind (arith, new) in omega arith in
            ap (λ ls. get_or ls i 0) lvls ∙ get_or_push (levels entries) e.level 0 i here ∙ is
      ];
  guarded = λ s watch.
      let lits : literals (entries ++ e ∷ []) ≡ literals entries ++ e.lit ∷ [] = map-append (λ x. x.lit) entries (e ∷ []) in
      let lvls : levels (entries ++ e ∷ []) ≡ levels entries ++ e.level ∷ [] = map-append (λ x. x.level) entries (e ∷ []) in
      let count : length (literals entries) ≡ length entries = length-map entries (λ x. x.lit) in
      subst (λ ls. IsGuarded ls (levels (entries ++ e ∷ [])) passed (get_or w.watched s 0) (get_or w.watched (twin s) 0)) (sym lits)
      (subst (λ ls. IsGuarded (literals entries ++ e.lit ∷ []) ls passed (get_or w.watched s 0) (get_or w.watched (twin s) 0)) (sym lvls)
      (guarded_more (literals entries) (levels entries) (e.lit ∷ []) (e.level ∷ []) passed (get_or w.watched s 0) (get_or w.watched (twin s) 0) (paired entries) (omega arith) (r.guarded s watch)));
}

-- the entries up to a level, and those above it behind them
record IsSplit (level : ℕ) (entries : List Entry) : Type 0 where
  rest : List Entry
  is : entries ≡ up_to level entries ++ rest
  below : (i : ℕ) → i < length (up_to level entries) → get_or (levels (up_to level entries)) i 0 ≤ level
  above : (i : ℕ) → i < length rest → level < get_or (levels rest) i 0

rises_above : (from to : ℕ) (ls : List ℕ) (i : ℕ) → Rises from ls to → i < length ls → from ≤ get_or ls i 0
rises_above from to [] i r lt = absurd (omega arith)
rises_above from to (x ∷ xs) zero r lt = r.0
rises_above from to (x ∷ xs) (suc i) r lt = omega (arith, r.0, rises_above x to xs i r.2 (omega arith))

split_up_to : (from to level : ℕ) (entries : List Entry) → Rises from (levels entries) to → IsSplit level entries
split_up_to from to level [] r = record { rest = []; is = refl; below = λ i lt. absurd (omega arith); above = λ i lt. absurd (omega arith) }
split_up_to from to level (e ∷ es) r = elim (tested (nat_le e.level level)) [
  | inl below ↦ split_below level e es below (split_up_to e.level to level es r.2)
  | inr above ↦ split_above level e es above (up_to_none e.level to level es r.2 (grind (arith, above))) (λ i lt. rises_above e.level to (levels es) i r.2 (rw length-map lt))
]
  where
    split_below : (level : ℕ) (e : Entry) (es : List Entry) → nat_le e.level level ≡ true → IsSplit level es → IsSplit level (e ∷ es)
    split_below level e es b s =
        let front : up_to level (e ∷ es) ≡ e ∷ up_to level es = rw b refl in
        record {
          rest = s.rest;
          is = ap (λ xs. e ∷ xs) s.is ∙ ap (λ xs. xs ++ s.rest) (sym front);
          below = subst (λ xs. (i : ℕ) → i < length xs → get_or (levels xs) i 0 ≤ level) (sym front) (front_below level e es b s.below);
          above = s.above;
        }
      where
        front_below : (level : ℕ) (e : Entry) (es : List Entry) → nat_le e.level level ≡ true → ((i : ℕ) → i < length (up_to level es) → get_or (levels (up_to level es)) i 0 ≤ level)
            → (i : ℕ) → i < length (e ∷ up_to level es) → get_or (levels (e ∷ up_to level es)) i 0 ≤ level
        front_below level e es b h zero lt = grind (arith, b)
        front_below level e es b h (suc i) lt = h i (omega arith)

    split_above : (level : ℕ) (e : Entry) (es : List Entry) → nat_le e.level level ≡ false → up_to level es ≡ []
        → ((i : ℕ) → i < length es → e.level ≤ get_or (levels es) i 0) → IsSplit level (e ∷ es)
    split_above level e es b n h =
        let front : up_to level (e ∷ es) ≡ [] = rw b n in
        record {
          rest = e ∷ es;
          is = ap (λ xs. xs ++ e ∷ es) (sym front);
          below = subst (λ xs. (i : ℕ) → i < length xs → get_or (levels xs) i 0 ≤ level) (sym front) (λ i lt. absurd (omega arith));
          above = all_above level e es b h;
        }
      where
        all_above : (level : ℕ) (e : Entry) (es : List Entry) → nat_le e.level level ≡ false → ((i : ℕ) → i < length es → e.level ≤ get_or (levels es) i 0)
            → (i : ℕ) → i < length (e ∷ es) → level < get_or (levels (e ∷ es)) i 0
        all_above level e es b h zero lt = grind (arith, b)
        all_above level e es b h (suc i) lt = let gt : level < e.level = grind (arith, b) in let le : e.level ≤ get_or (levels es) i 0 = h i (omega arith) in omega arith

-- the entries up to a level are the front of all
pub front_up_to : (to level : ℕ) (entries entries' : List Entry) → Rises 0 (levels entries) to → entries' ≡ up_to level entries → IsFront level entries' entries
front_up_to to level entries entries' r e =
    let s : IsSplit level entries = split_up_to 0 to level entries r in
    subst (λ es. IsFront level es entries) (sym e) (record {
      rest = s.rest;
      is = s.is;
      below = λ k d h. subst (λ n. n ≤ level) (get_or-map (λ (x : Entry). x.level) (up_to level entries) k d 0 h) (s.below k h);
      above = λ k d h. subst (λ n. level < n) (get_or-map (λ (x : Entry). x.level) s.rest k d 0 h) (s.above k h);
    })

pub right_back : (w : WatchState) (vars level passed level' passed' : ℕ) (entries entries' : List Entry)
    → Right w (record { vars = vars; entries = entries; level = level; passed = passed }) → Rises 0 (levels entries) level
    → level' ≤ level → entries' ≡ up_to level' entries → passed' ≡ min passed (length entries')
    → Right w (record { vars = vars; entries = entries'; level = level'; passed = passed' })
right_back w vars level passed level' passed' entries entries' r rises l is p =
    let s : IsSplit level' entries = split_up_to 0 level level' entries rises in
    right_front w vars level passed level' passed' entries entries' s.rest r l (s.is ∙ ap (λ es. es ++ s.rest) (sym is))
    (subst (λ es. (i : ℕ) → i < length es → get_or (levels es) i 0 ≤ level') (sym is) s.below) s.above p
  where
    right_front : (w : WatchState) (vars level passed level' passed' : ℕ) (entries front rest : List Entry)
        → Right w (record { vars = vars; entries = entries; level = level; passed = passed })
        → level' ≤ level → entries ≡ front ++ rest
        → ((i : ℕ) → i < length front → get_or (levels front) i 0 ≤ level') → ((i : ℕ) → i < length rest → level' < get_or (levels rest) i 0)
        → passed' ≡ min passed (length front)
        → Right w (record { vars = vars; entries = front; level = level'; passed = passed' })
    right_front w vars level passed level' passed' entries front rest r l is below above p =
        let lits : literals entries ≡ literals front ++ literals rest = ap literals is ∙ map-append (λ x. x.lit) front rest in
        let lvls : levels entries ≡ levels front ++ levels rest = ap levels is ∙ map-append (λ x. x.level) front rest in
        let all : length entries ≡ length front + length rest = ap length is ∙ length-append front rest in
        let lits_count : length (literals front) ≡ length front = length-map front (λ x. x.lit) in
        let lvls_count : length (levels front) ≡ length front = length-map front (λ x. x.level) in
        record {
          set = r.set;
          pending = λ i le lt.
              let old : get_or (levels front) i 0 ≡ level =
              sym (get_or_append_left (levels front) (levels rest) 0 i (omega arith)) ∙ ap (λ ls. get_or ls i 0) (sym lvls) ∙ r.pending i (omega (arith, p)) (omega arith) in
              let small : get_or (levels front) i 0 ≤ level' = below i lt in
              omega arith;
          guarded = λ watch known i lt h.
              let here : i < length front = omega (arith, p) in
              let before : i < passed = omega (arith, p) in
              let old : get_or (literals entries) i 0 ≡ negated (get_or w.watched watch 0) =
              ap (λ ls. get_or ls i 0) lits ∙ get_or_append_left (literals front) (literals rest) 0 i (omega arith) ∙ h in
              let t : IsTrueBy (literals entries) (levels entries) (get_or w.watched (twin watch) 0) (get_or (levels entries) i 0) = r.guarded watch known i before old in
              let lev : get_or (levels entries) i 0 ≡ get_or (levels front) i 0 = ap (λ ls. get_or ls i 0) lvls ∙ get_or_append_left (levels front) (levels rest) 0 i (omega arith) in
              let small : get_or (levels front) i 0 ≤ level' = below i here in
              let total : length (literals entries) ≡ length entries = length-map entries (λ x. x.lit) in
              let rest_count : length (levels rest) ≡ length rest = length-map rest (λ x. x.level) in
              elim (tested (ltb t.place (length front))) [
                | inl inside ↦
                    let within : t.place < length front = grind (arith, inside) in
                    record {
                      place = t.place;
                      within = omega arith;
                      is = sym (get_or_append_left (literals front) (literals rest) 0 t.place (omega arith)) ∙ ap (λ ls. get_or ls t.place 0) (sym lits) ∙ t.is;
                      below = let e : get_or (levels entries) t.place 0 ≡ get_or (levels front) t.place 0 = ap (λ ls. get_or ls t.place 0) lvls ∙ get_or_append_left (levels front) (levels rest) 0 t.place (omega arith) in omega (arith, t.below);
                    }
                | inr outside ↦
                    let past : length front ≤ t.place = grind (arith, outside) in
                    let e : get_or (levels entries) t.place 0 ≡ get_or (levels rest) (t.place - length (levels front)) 0 =
                    ap (λ ls. get_or ls t.place 0) lvls ∙ get_or-append_right (levels front) (levels rest) (length (levels front)) t.place 0 refl (omega arith) in
                    absurd (let high : level' < get_or (levels rest) (t.place - length (levels front)) 0 = above (t.place - length (levels front)) (omega (arith, t.within)) in omega (arith, t.below))
              ];
        }

pub get_two : (watched : List ℕ) (s : ℕ) → get_or (watched ++ 0 ∷ 0 ∷ []) s 0 ≡ get_or watched s 0
get_two [] zero = refl
get_two [] (suc zero) = refl
get_two [] (suc (suc s)) = refl
get_two (x ∷ xs) zero = refl
get_two (x ∷ xs) (suc s) = get_two xs s

-- a clause more, which watches nothing
pub right_added : (w : WatchState) (t : TrailState) (lits : List ℕ) → Right w t
    → RightBut (length w.clauses) (record w { clauses = w.clauses ++ lits ∷ []; watched = w.watched ++ 0 ∷ 0 ∷ [] }) t
right_added w t lits r = record {
  set = λ k known d.
      let old : IsWatch w k = was w k lits known d in
      let s : IsSet w k = r.set k old in
      record {
        inside = ap (has (clause_of (record w { clauses = w.clauses ++ lits ∷ []; watched = w.watched ++ 0 ∷ 0 ∷ [] }) k)) (get_two w.watched k)
            ∙ ap (λ c. has c (get_or w.watched k 0)) (get_or_append_left w.clauses (lits ∷ []) [] (k / 2 - (w.vars + 1)) (omega (arith, old))) ∙ s.inside;
        apart = λ q. s.apart (sym (get_two w.watched k) ∙ q ∙ get_two w.watched (twin k));
      };
  pending = r.pending;
  guarded = λ k known d.
      subst (λ x. IsGuarded (literals t.entries) (levels t.entries) t.passed x (get_or (w.watched ++ 0 ∷ 0 ∷ []) (twin k) 0)) (sym (get_two w.watched k))
      (subst (λ x. IsGuarded (literals t.entries) (levels t.entries) t.passed (get_or w.watched k 0) x) (sym (get_two w.watched (twin k))) (r.guarded k (was w k lits known d)));
}
  where
    was : (w : WatchState) (k : ℕ) (lits : List ℕ) → (2 * (w.vars + 1) ≤ k) × (k < 2 * (w.vars + 1 + length (w.clauses ++ lits ∷ []))) → k / 2 ≢ w.vars + 1 + length w.clauses → IsWatch w k
    was w k lits known d = let count : length (w.clauses ++ lits ∷ []) ≡ length w.clauses + 1 = length_push w.clauses lits in (known.0, omega (arith, known.1))

-- it watches two literals that may be watched together
pub right_watched : (w : WatchState) (t : TrailState) (clause first second : ℕ) (watched' : List ℕ) → RightBut clause w t → CanPair t first second
    → watched' ≡ set (set w.watched (2 * (w.vars + 1 + clause)) first) (2 * (w.vars + 1 + clause) + 1) second → 2 * (w.vars + 1 + clause) + 1 < length w.watched
    → IsSet (record w { watched = watched' }) (2 * (w.vars + 1 + clause)) → IsSet (record w { watched = watched' }) (2 * (w.vars + 1 + clause) + 1)
    → Right (record w { watched = watched' }) t
right_watched w t clause first second watched' r pair e l s0 s1 = record {
  set = λ k known. elim (tested (eqb (k / 2) (w.vars + 1 + clause))) [
    | inl same ↦ elim (sides k (w.vars + 1 + clause) (equal (k / 2) (w.vars + 1 + clause) same)) [
      | inl q ↦ subst (IsSet (record w { watched = watched' })) (sym q) s0
      | inr q ↦ subst (IsSet (record w { watched = watched' })) (sym q) s1
    ]
    | inr other ↦
        let d : k / 2 ≢ w.vars + 1 + clause = unequal (k / 2) (w.vars + 1 + clause) other in
        let s : IsSet w k = r.set k known d in
        record {
          inside = ap (has (clause_of w k)) (apart_get k d) ∙ s.inside;
          apart = λ q. s.apart (sym (apart_get k d) ∙ q ∙ apart_get (twin k) (λ p. d (sym (negated-half k) ∙ p)));
        }
  ];
  pending = r.pending;
  guarded = λ k known. elim (tested (eqb (k / 2) (w.vars + 1 + clause))) [
    | inl same ↦ elim (sides k (w.vars + 1 + clause) (equal (k / 2) (w.vars + 1 + clause) same)) [
      | inl q ↦
          let here : get_or watched' k 0 ≡ first = ap (λ j. get_or watched' j 0) q ∙ get_first in
          let there : get_or watched' (twin k) 0 ≡ second = ap (λ j. get_or watched' j 0) (ap twin q ∙ twin_even (w.vars + 1 + clause)) ∙ get_second in
          subst (λ x. IsGuarded (literals t.entries) (levels t.entries) t.passed x (get_or watched' (twin k) 0)) (sym here)
          (subst (λ x. IsGuarded (literals t.entries) (levels t.entries) t.passed first x) (sym there) pair.one)
      | inr q ↦
          let here : get_or watched' k 0 ≡ second = ap (λ j. get_or watched' j 0) q ∙ get_second in
          let there : get_or watched' (twin k) 0 ≡ first = ap (λ j. get_or watched' j 0) (ap twin q ∙ twin_odd (w.vars + 1 + clause)) ∙ get_first in
          subst (λ x. IsGuarded (literals t.entries) (levels t.entries) t.passed x (get_or watched' (twin k) 0)) (sym here)
          (subst (λ x. IsGuarded (literals t.entries) (levels t.entries) t.passed second x) (sym there) pair.other)
    ]
    | inr other ↦
        let d : k / 2 ≢ w.vars + 1 + clause = unequal (k / 2) (w.vars + 1 + clause) other in
        subst (λ x. IsGuarded (literals t.entries) (levels t.entries) t.passed x (get_or watched' (twin k) 0)) (sym (apart_get k d))
        (subst (λ x. IsGuarded (literals t.entries) (levels t.entries) t.passed (get_or w.watched k 0) x) (sym (apart_get (twin k) (λ p. d (sym (negated-half k) ∙ p)))) (r.guarded k known d))
  ];
}
  where
    sides : (k n : ℕ) → k / 2 ≡ n → (k ≡ 2 * n) ⊎ (k ≡ 2 * n + 1)
    sides k n e = elim (halves k) [ inl h ↦ inl (omega (arith, h.0)) | inr h ↦ inr (omega (arith, h.0)) ]

    apart_get : (k : ℕ) → k / 2 ≢ w.vars + 1 + clause → get_or watched' k 0 ≡ get_or w.watched k 0
    apart_get k d =
        let one : k ≢ 2 * (w.vars + 1 + clause) + 1 = λ q. d (omega (arith, q)) in
        let two : k ≢ 2 * (w.vars + 1 + clause) = λ q. d (omega (arith, q)) in
        ap (λ ws. get_or ws k 0) e ∙ get_or-set_other (set w.watched (2 * (w.vars + 1 + clause)) first) (2 * (w.vars + 1 + clause) + 1) k second 0 one
        ∙ get_or-set_other w.watched (2 * (w.vars + 1 + clause)) k first 0 two

    get_first : get_or watched' (2 * (w.vars + 1 + clause)) 0 ≡ first
    get_first = ap (λ ws. get_or ws (2 * (w.vars + 1 + clause)) 0) e
        ∙ get_or-set_other (set w.watched (2 * (w.vars + 1 + clause)) first) (2 * (w.vars + 1 + clause) + 1) (2 * (w.vars + 1 + clause)) second 0 (λ q. omega arith)
        ∙ get_or-set_same w.watched (2 * (w.vars + 1 + clause)) first 0 (omega arith)

    get_second : get_or watched' (2 * (w.vars + 1 + clause) + 1) 0 ≡ second
    get_second = ap (λ ws. get_or ws (2 * (w.vars + 1 + clause) + 1) 0) e
        ∙ get_or-set_same (set w.watched (2 * (w.vars + 1 + clause)) first) (2 * (w.vars + 1 + clause) + 1) second 0 (rw length-set l)
