-- A walk over the watches of a false literal: where it begins, how a watch stays or moves, and what holds at its end.
use Rattle.std.proofs.Common.{◌≡◌, ◌≢◌, ℕ, zero, suc, ◌+◌, ◌-◌, ◌*◌, ◌/◌, ◌<◌, ◌≤◌, true, false, eqb, ltb, List, [], ◌∷◌, ◌++◌, length, get_or, set, refl, sym, ap, ◌∙◌, subst, inl, inr, Option, Some, None, arith, get_or-set_same, get_or-set_other, length-append}
use Rattle.std.proofs.lemmas.List.{length-map, map-append, append_assoc, append-nil, get_or_read, get_or_append_left}
use Rattle.std.specs.Prelude.{IfNone}
use Rattle.cnf_core.specs.Clauses.{Clauses}
use Rattle.cnf_core.specs.Literal.{negated, IsOver}
use Rattle.sat_watch.specs.declared.trail.Entry.{Entry}
use Rattle.cnf_core.specs.Trues.{is_true}
use Rattle.sat_watch.specs.Literals.{has, AreApart}
use Rattle.sat_watch.specs.Trail.{TrailState, literals, levels, Rises, IsSound}
use Rattle.sat_watch.specs.Threads.{Chain, IsThread, CanWatch, IsWatches}
use Rattle.sat_watch.specs.Watching.{WatchState, twin, clause_of, IsWatch, IsSet, IsTrueBy, IsGuarded, Right}
use Rattle.sat_watch.specs.Propagation.{Forces, IsQuiet, AreForced, Grows}
use Rattle.sat_watch.specs.Visit.{state, read, IsVisit}
use Rattle.sat_watch.proofs.LiteralLemmas.{tested, equal, unequal, halves, negated-half, negated_apart, negated-negated, is_true-append}
use Rattle.sat_watch.proofs.TrailLemmas.{rises_up}
use Rattle.sat_watch.proofs.ThreadLemmas.{has-append, walk_last}
use Rattle.sat_watch.proofs.WatchLemmas.{IsWay, IsNext, IsMoved, way_start, way_next, way_step, way_read, way_list, moved, over_has, within_by, twin_even, twin_odd}

-- a literal that is true stands somewhere
pub true_place : (lits : List ℕ) (lit : ℕ) → is_true lits lit ≡ true → (j : ℕ) × (j < length lits) × (get_or lits j 0 ≡ lit)
true_place [] lit h = absurd (grind (arith, h))
true_place (x ∷ xs) lit h = elim (tested (eqb x lit)) [
  | inl same ↦ (zero, omega arith, grind (arith, same))
  | inr other ↦ let p = true_place xs lit (grind (arith, h, other)) in (suc p.0, omega (arith, p.1), p.2)
]

pub place_true : (lits : List ℕ) (j : ℕ) → j < length lits → is_true lits (get_or lits j 0) ≡ true
place_true [] j l = absurd (omega arith)
place_true (x ∷ xs) zero l = grind arith
place_true (x ∷ xs) (suc j) l = grind (arith, place_true xs j (omega arith))

-- no literal and its negation are both true
pub apart_both : (lits : List ℕ) (lit : ℕ) → AreApart lits → is_true lits lit ≡ true → is_true lits (negated lit) ≡ true → ⊥
apart_both [] lit a h g = grind (arith, h)
apart_both (x ∷ xs) lit a h g = elim (tested (eqb x lit)) [
  | inl same ↦
      let e : x ≡ lit = grind (arith, same) in
      let off : is_true xs (negated lit) ≡ false = ap (λ k. is_true xs (negated k)) (sym e) ∙ a.0.1 in
      elim (tested (eqb x (negated lit))) [
        | inl both ↦ self_apart lit (sym e ∙ grind (arith, both))
        | inr one ↦ let contra : false ≡ true = sym off ∙ grind (arith, g, one) in cc
      ]
  | inr other ↦
      let in_rest : is_true xs lit ≡ true = grind (arith, h, other) in
      elim (tested (eqb x (negated lit))) [
        | inl both ↦
            let e : negated x ≡ lit = ap negated (grind (arith, both)) ∙ negated-negated lit in
            let contra : false ≡ true = sym a.0.1 ∙ ap (is_true xs) e ∙ in_rest in cc
        | inr one ↦ apart_both xs lit a.1 in_rest (grind (arith, g, one))
      ]
]
  where
    self_apart : (n : ℕ) → n ≡ negated n → ⊥
    self_apart n e = elim (halves n) [ inl h ↦ omega (arith, h.1, e) | inr h ↦ omega (arith, h.0, h.1, e) ]

-- no entry is of a level above the present one
pub rises_below : (from to : ℕ) (ls : List ℕ) (j : ℕ) → Rises from ls to → j < length ls → get_or ls j 0 ≤ to
rises_below from to [] j r l = absurd (omega arith)
rises_below from to (x ∷ xs) zero r l = rises_up x to xs r.2
rises_below from to (x ∷ xs) (suc j) r l = rises_below x to xs j r.2 (omega arith)

-- the literal of the twin is one of the clause
pub other_of : (cnf : Clauses) (watched : List ℕ) (at : ℕ) → IsSet (state cnf watched) (twin at) → CanWatch cnf.vars (clause_of (state cnf watched) at)
    → (has (clause_of (state cnf watched) at) (get_or watched (twin at) 0) ≡ true) × IsOver cnf.vars (get_or watched (twin at) 0)
other_of cnf watched at s c =
    let same : clause_of (state cnf watched) (twin at) ≡ clause_of (state cnf watched) at = ap (λ h. get_or cnf.clauses (h - (cnf.vars + 1)) []) (negated-half at) in
    let inside : has (clause_of (state cnf watched) at) (get_or watched (twin at) 0) ≡ true = ap (λ xs. has xs (get_or watched (twin at) 0)) (sym same) ∙ s.inside in
    (inside, over_has cnf.vars (clause_of (state cnf watched) at) (get_or watched (twin at) 0) c.over inside)

pub if_none : {P : Type 0} (o : Option ℕ) → ((x : ℕ) → o ≡ Some x → ⊥) → IfNone o P → P
if_none None n p = p
if_none (Some x) n p = absurd (n x refl)

-- one forced entry more
pub grown_one : (clauses : List (List ℕ)) (old new : TrailState) (lit clause : ℕ) → clause < length clauses → Forces (literals old.entries) (get_or clauses clause []) lit
    → new ≡ record old { entries = old.entries ++ record { lit = lit; level = old.level; reason = Some clause } ∷ [] }
    → Grows clauses old new × (is_true (literals new.entries) lit ≡ true)
grown_one clauses old new lit clause l f e =
    let lits : literals new.entries ≡ literals old.entries ++ lit ∷ [] =
    ap (λ (t : TrailState). literals t.entries) e ∙ map-append (λ (x : Entry). x.lit) old.entries (record { lit = lit; level = old.level; reason = Some clause } ∷ []) in (
      record {
        added = record { lit = lit; level = old.level; reason = Some clause } ∷ [];
        is = ap (λ (t : TrailState). t.entries) e;
        forced = (record { clause = clause; reason = refl; known = l; forces = f; present = refl }, tt);
        level = ap (λ (t : TrailState). t.level) e;
        vars = ap (λ (t : TrailState). t.vars) e;
      },
      ap (λ xs. is_true xs lit) lits ∙ is_true-append (literals old.entries) (lit ∷ []) lit ∙ grind arith,
    )

pub grown_none : (clauses : List (List ℕ)) (t : TrailState) → Grows clauses t t
grown_none clauses t = record { added = []; is = sym (append-nil t.entries); forced = tt; level = refl; vars = refl }

forced-append : (clauses : List (List ℕ)) (trues : List ℕ) (level : ℕ) (xs ys : List Entry) → AreForced clauses trues level xs → AreForced clauses (trues ++ literals xs) level ys → AreForced clauses trues level (xs ++ ys)
forced-append clauses trues level [] ys f g = subst (λ ts. AreForced clauses ts level ys) (append-nil trues) g
forced-append clauses trues level (x ∷ xs) ys f g =
    (f.0, forced-append clauses (trues ++ x.lit ∷ []) level xs ys f.1 (subst (λ ts. AreForced clauses ts level ys) (sym (append_assoc trues (x.lit ∷ []) (literals xs))) g))

-- growing goes on
pub grown_more : (clauses : List (List ℕ)) (one two three : TrailState) → Grows clauses one two → Grows clauses two three → Grows clauses one three
grown_more clauses one two three g h =
    let lits : literals two.entries ≡ literals one.entries ++ literals g.added = ap literals g.is ∙ map-append (λ (x : Entry). x.lit) one.entries g.added in
    record {
      added = g.added ++ h.added;
      is = h.is ∙ ap (λ xs. xs ++ h.added) g.is ∙ append_assoc one.entries g.added h.added;
      forced = forced-append clauses (literals one.entries) one.level g.added h.added g.forced
          (subst (λ ts. AreForced clauses ts one.level h.added) lits (subst (λ l. AreForced clauses (literals two.entries) l h.added) g.level h.forced));
      level = h.level ∙ g.level;
      vars = h.vars ∙ g.vars;
    }

-- the other watch of a clause is a watch
pub twin_watch : (w : WatchState) (s : ℕ) → IsWatch w s → IsWatch w (twin s)
twin_watch w s h = elim (halves s) [ inl e ↦ rw e.1 ((omega (arith, h, e.0), omega (arith, h, e.0))) | inr e ↦ rw e.1 ((omega (arith, h, e.0), omega (arith, h, e.0))) ]

pub visit_way : (cnf : Clauses) (links watched : List ℕ) (start now : TrailState) (lit to : ℕ) → (v : IsVisit cnf links watched start now lit to) → IsWay links watched lit to v.front v.rest
visit_way cnf links watched start now lit to v = record { walked = v.walked; left = v.left; ends = v.ends }

-- the literal of the next entry is over the variables, and so is the one that it makes false
pub visit_lit : (cnf : Clauses) (links watched : List ℕ) (start now : TrailState) (lit to : ℕ) → IsVisit cnf links watched start now lit to → (0 < lit) × (lit < 2 * (cnf.vars + 1))
visit_lit cnf links watched start now lit to v =
    let count : length (literals now.entries) ≡ length now.entries = length-map now.entries (λ (x : Entry). x.lit) in
    let over : IsOver now.vars (get_or (literals now.entries) now.passed 0) = v.sound.over now.passed 0 (omega (arith, v.within)) in
    let half : get_or (literals now.entries) now.passed 0 / 2 ≡ lit / 2 = ap (λ n. n / 2) v.next ∙ negated-half lit in
    (omega (arith, over, half), omega (arith, over, half, v.vars))

-- the literal is false
pub visit_false : (cnf : Clauses) (links watched : List ℕ) (start now : TrailState) (lit to : ℕ) → IsVisit cnf links watched start now lit to → is_true (literals now.entries) (negated lit) ≡ true
visit_false cnf links watched start now lit to v =
    let count : length (literals now.entries) ≡ length now.entries = length-map now.entries (λ (x : Entry). x.lit) in
    ap (is_true (literals now.entries)) (sym v.next) ∙ place_true (literals now.entries) now.passed (omega (arith, v.within))

-- the place that the walk has come to has a link
pub visit_from : (cnf : Clauses) (links watched : List ℕ) (start now : TrailState) (lit to : ℕ) → IsVisit cnf links watched start now lit to → to < length links
visit_from cnf links watched start now lit to v =
    let range = visit_lit cnf links watched start now lit to v in
    let t : IsThread links watched lit = v.whole.threaded lit range.0 range.1 in
    let same : v.front ++ v.rest ≡ t.list = way_list cnf.vars cnf.clauses links watched v.front v.rest lit to v.whole range.0 range.1 (visit_way cnf links watched start now lit to v) in
    let last : has (lit ∷ v.front) to ≡ true = walk_last links v.front lit to v.walked in
    elim (tested (eqb lit to)) [
      | inl here ↦ let e : lit ≡ to = grind (arith, here) in omega (arith, v.whole.linked, range.1)
      | inr there ↦
          let in_front : has v.front to ≡ true = grind (arith, last, there) in
          let on : has t.list to ≡ true = ap (λ xs. has xs to) (sym same) ∙ has-append v.front v.rest to ∙ grind (arith, in_front) in
          let w : to < length watched = within_by watched to lit range.0 ((t.exact to).0 on) in omega (arith, v.whole.paired)
    ]

pub visit_start : (cnf : Clauses) (links watched : List ℕ) (now : TrailState) (lit : ℕ) → IsWatches cnf links watched → Right (state cnf watched) now → IsSound now → now.vars ≡ cnf.vars
    → now.passed < length now.entries → get_or (literals now.entries) now.passed 0 ≡ negated lit → IsVisit cnf links watched now now lit lit
visit_start cnf links watched now lit i r s e w n =
    let count : length (literals now.entries) ≡ length now.entries = length-map now.entries (λ (x : Entry). x.lit) in
    let over : IsOver now.vars (get_or (literals now.entries) now.passed 0) = s.over now.passed 0 (omega arith) in
    let half : get_or (literals now.entries) now.passed 0 / 2 ≡ lit / 2 = ap (λ k. k / 2) n ∙ negated-half lit in
    let z : 0 < lit = omega (arith, over, half) in
    let l : lit < 2 * (cnf.vars + 1) = omega (arith, over, half, e) in
    let way : IsWay links watched lit lit [] (i.threaded lit z l).list = way_start cnf.vars cnf.clauses links watched lit i z l in
    record {
      whole = i;
      right = r;
      sound = s;
      grown = grown_none cnf.clauses now;
      passed = refl;
      vars = e;
      within = w;
      next = n;
      front = [];
      rest = (i.threaded lit z l).list;
      walked = way.walked;
      left = way.left;
      ends = way.ends;
      twins = λ watch h. absurd (grind (arith, h));
    }

-- the next watch of a visit, and what is known of it
pub record IsTurn (cnf : Clauses) (links watched : List ℕ) (lit to at : ℕ) (front : List ℕ) : Type 0 where
  pub rest : List ℕ
  pub way : IsWay links watched lit to front (at ∷ rest)
  pub for : get_or watched at 0 ≡ lit
  pub watch : IsWatch (state cnf watched) at
  pub set : IsSet (state cnf watched) at
  pub twin_set : IsSet (state cnf watched) (twin at)
  pub clause : CanWatch cnf.vars (clause_of (state cnf watched) at)
  pub inside : at < length links
  pub shorter : length rest < length (read links (length links) to)

pub visit_turn : (cnf : Clauses) (links watched : List ℕ) (start now : TrailState) (lit to at : ℕ) → (v : IsVisit cnf links watched start now lit to) → at ≡ get_or links to at → at ≢ 0
    → IsTurn cnf links watched lit to at v.front
visit_turn cnf links watched start now lit to at v e n =
    let from : to < length links = visit_from cnf links watched start now lit to v in
    let is : get_or links to 0 ≡ at = sym (get_or_read links to at from e 0) in
    let range = visit_lit cnf links watched start now lit to v in
    go v.front v.rest range.0 range.1 (visit_way cnf links watched start now lit to v) is v.right v.whole
  where
    go : (front rest : List ℕ) → 0 < lit → lit < 2 * (cnf.vars + 1) → IsWay links watched lit to front rest → get_or links to 0 ≡ at → Right (state cnf watched) now → IsWatches cnf links watched
        → IsTurn cnf links watched lit to at front
    go front [] z l way is r i = absurd (n (sym is ∙ way.left))
    go front (x ∷ rest) z l way is r i =
        let same : x ≡ at = sym way.left.0 ∙ is in
        let way' : IsWay links watched lit to front (at ∷ rest) = subst (λ k. IsWay links watched lit to front (k ∷ rest)) same way in
        let next : IsNext links watched (2 * (cnf.vars + 1)) lit to at front rest = way_next cnf.vars cnf.clauses links watched front rest lit to at i z l way' in
        let watch : IsWatch (state cnf watched) at = (next.behind, omega (arith, next.inside, i.linked)) in
        record {
          rest = rest;
          way = way';
          for = next.for;
          watch = watch;
          set = r.set at watch;
          twin_set = r.set (twin at) (twin_watch (state cnf watched) at watch);
          clause = i.clauses (at / 2 - (cnf.vars + 1)) (omega (arith, watch));
          inside = next.inside;
          shorter = rw (way_read cnf.vars cnf.clauses links watched front (at ∷ rest) lit to i z l way') (omega arith);
        }

grown_true : (clauses : List (List ℕ)) (old new : TrailState) (lit : ℕ) → Grows clauses old new → is_true (literals old.entries) lit ≡ true → is_true (literals new.entries) lit ≡ true
grown_true clauses old new lit g h =
    let lits : literals new.entries ≡ literals old.entries ++ literals g.added = ap literals g.is ∙ map-append (λ (x : Entry). x.lit) old.entries g.added in
    ap (λ xs. is_true xs lit) lits ∙ is_true-append (literals old.entries) (literals g.added) lit ∙ grind (arith, h)

-- what a turn of a visit leaves: the walk goes on, and less is to come
pub record IsTurned (cnf : Clauses) (links watched : List ℕ) (start now : TrailState) (lit to before : ℕ) : Type 0 where
  pub visit : IsVisit cnf links watched start now lit to
  pub shorter : length (read links (length links) to) < before

in_front : (front : List ℕ) (at s : ℕ) → has (front ++ at ∷ []) s ≡ true → eqb at s ≡ false → has front s ≡ true
in_front front at s h n = grind (arith, has-append front (at ∷ []) s, h, n)

-- a watch stays, since its twin is true
pub visit_stays : (cnf : Clauses) (links watched : List ℕ) (start now new : TrailState) (lit to at : ℕ) → (v : IsVisit cnf links watched start now lit to) → at ≡ get_or links to at → at ≢ 0
    → Grows cnf.clauses now new → is_true (literals new.entries) (get_or watched (twin at) 0) ≡ true → Right (state cnf watched) new → IsSound new → new.vars ≡ now.vars → new.passed ≡ now.passed
    → IsTurned cnf links watched start new lit at (length (read links (length links) to))
visit_stays cnf links watched start now new lit to at v e n g twin_true r s vars passed =
    let t : IsTurn cnf links watched lit to at v.front = visit_turn cnf links watched start now lit to at v e n in
    let range = visit_lit cnf links watched start now lit to v in
    let way : IsWay links watched lit at (v.front ++ at ∷ []) t.rest = way_step links watched v.front t.rest lit to at t.way in
    let lits : literals new.entries ≡ literals now.entries ++ literals g.added = ap literals g.is ∙ map-append (λ (x : Entry). x.lit) now.entries g.added in
    let count : length (literals now.entries) ≡ length now.entries = length-map now.entries (λ (x : Entry). x.lit) in
    record {
      visit = record {
        whole = v.whole;
        right = r;
        sound = s;
        grown = grown_more cnf.clauses start now new v.grown g;
        passed = passed ∙ v.passed;
        vars = vars ∙ v.vars;
        within = omega (arith, v.within, passed, ap length g.is, length-append now.entries g.added);
        next = ap (λ k. get_or (literals new.entries) k 0) passed ∙ ap (λ xs. get_or xs now.passed 0) lits
            ∙ get_or_append_left (literals now.entries) (literals g.added) 0 now.passed (omega (arith, v.within)) ∙ v.next;
        front = v.front ++ at ∷ [];
        rest = t.rest;
        walked = way.walked;
        left = way.left;
        ends = way.ends;
        twins = λ watch h. elim (tested (eqb at watch)) [
          | inl same ↦ let q : at ≡ watch = equal at watch same in subst (λ k. is_true (literals new.entries) (get_or watched (twin k) 0) ≡ true) q twin_true
          | inr other ↦ grown_true cnf.clauses now new (get_or watched (twin watch) 0) g (v.twins watch (in_front v.front at watch h other))
        ];
      };
      shorter = rw (way_read cnf.vars cnf.clauses links watched (v.front ++ at ∷ []) t.rest lit at v.whole range.0 range.1 way) t.shorter;
    }

-- a watch moves to a literal of its clause that is not false
pub right_moved : (cnf : Clauses) (links watched : List ℕ) (now : TrailState) (lit at new : ℕ) → IsWatches cnf links watched → Right (state cnf watched) now → IsSound now
    → get_or watched at 0 ≡ lit → IsWatch (state cnf watched) at → has (clause_of (state cnf watched) at) new ≡ true → new ≢ get_or watched (twin at) 0
    → is_true (literals now.entries) (negated new) ≡ false → is_true (literals now.entries) (negated lit) ≡ true
    → Right (state cnf (set watched at new)) now
right_moved cnf links watched now lit at new i r s is watch inside apart unfalse falsified =
    let place : at < length watched = omega (arith, i.paired, i.linked, watch) in
    let here : get_or (set watched at new) at 0 ≡ new = get_or-set_same watched at new 0 place in
    let twin_other : twin at ≢ at = negated_apart at in
    let there : get_or (set watched at new) (twin at) 0 ≡ get_or watched (twin at) 0 = get_or-set_other watched at (twin at) new 0 twin_other in
    let back : twin (twin at) ≡ at = negated-negated at in
    let count : length (literals now.entries) ≡ length now.entries = length-map now.entries (λ (x : Entry). x.lit) in
    record {
      set = λ k known. elim (tested (eqb k at)) [
        | inl same ↦ let e : at ≡ k = sym (equal k at same) in subst (IsSet (state cnf (set watched at new))) e (record {
          inside = ap (has (clause_of (state cnf watched) at)) here ∙ inside;
          apart = λ q. apart (sym here ∙ q ∙ there);
        })
        | inr other ↦
            let d : k ≢ at = unequal k at other in
            let old : get_or (set watched at new) k 0 ≡ get_or watched k 0 = get_or-set_other watched at k new 0 d in
            let was : IsSet (state cnf watched) k = r.set k known in
            elim (tested (eqb (twin k) at)) [
              | inl twins ↦
                  let e : twin k ≡ at = equal (twin k) at twins in
                  let k_is : k ≡ twin at = sym (negated-negated k) ∙ ap twin e in
                  record {
                    inside = ap (has (clause_of (state cnf watched) k)) old ∙ was.inside;
                    apart = λ q. apart (sym here ∙ ap (λ j. get_or (set watched at new) j 0) (sym e) ∙ sym q ∙ old ∙ ap (λ j. get_or watched j 0) k_is);
                  }
              | inr away ↦
                  let d' : twin k ≢ at = unequal (twin k) at away in
                  record {
                    inside = ap (has (clause_of (state cnf watched) k)) old ∙ was.inside;
                    apart = λ q. was.apart (sym old ∙ q ∙ get_or-set_other watched at (twin k) new 0 d');
                  }
            ]
      ];
      pending = r.pending;
      guarded = λ k known. elim (tested (eqb k at)) [
        | inl same ↦ let e : at ≡ k = sym (equal k at same) in
            λ j lt h. absurd (let t : is_true (literals now.entries) (negated new) ≡ true =
            ap (is_true (literals now.entries)) (ap negated (sym here ∙ ap (λ q. get_or (set watched at new) q 0) e) ∙ sym h) ∙ place_true (literals now.entries) j (omega (arith, s.within)) in
            let both : true ≡ false = sym t ∙ unfalse in cc)
        | inr other ↦
            let d : k ≢ at = unequal k at other in
            let old : get_or (set watched at new) k 0 ≡ get_or watched k 0 = get_or-set_other watched at k new 0 d in
            elim (tested (eqb (twin k) at)) [
              | inl twins ↦
                  let e : twin k ≡ at = equal (twin k) at twins in
                  λ j lt h. absurd (
                  let t : IsTrueBy (literals now.entries) (levels now.entries) (get_or watched (twin k) 0) (get_or (levels now.entries) j 0) = r.guarded k known j lt (h ∙ ap negated old) in
                  let value : get_or (literals now.entries) t.place 0 ≡ lit = t.is ∙ ap (λ q. get_or watched q 0) e ∙ is in
                  let true_lit : is_true (literals now.entries) lit ≡ true = ap (is_true (literals now.entries)) (sym value) ∙ place_true (literals now.entries) t.place t.within in
                  apart_both (literals now.entries) lit s.apart true_lit falsified)
              | inr away ↦
                  let d' : twin k ≢ at = unequal (twin k) at away in
                  subst (λ x. IsGuarded (literals now.entries) (levels now.entries) now.passed x (get_or (set watched at new) (twin k) 0)) (sym old)
                  (subst (λ x. IsGuarded (literals now.entries) (levels now.entries) now.passed (get_or watched k 0) x) (sym (get_or-set_other watched at (twin k) new 0 d')) (r.guarded k known))
            ]
      ];
    }

pub visit_moves : (cnf : Clauses) (links watched links' : List ℕ) (start now : TrailState) (lit to at new : ℕ) → (v : IsVisit cnf links watched start now lit to) → at ≡ get_or links to at → at ≢ 0
    → has (clause_of (state cnf watched) at) new ≡ true → new ≢ get_or watched (twin at) 0 → is_true (literals now.entries) (negated new) ≡ false
    → links' ≡ set (set (set links to (get_or links at 0)) at (get_or (set links to (get_or links at 0)) new 0)) new at
    → IsTurned cnf links' (set watched at new) start now lit to (length (read links (length links) to))
visit_moves cnf links watched links' start now lit to at new v e n inside apart unfalse is =
    let t : IsTurn cnf links watched lit to at v.front = visit_turn cnf links watched start now lit to at v e n in
    let range = visit_lit cnf links watched start now lit to v in
    let falsified : is_true (literals now.entries) (negated lit) ≡ true = visit_false cnf links watched start now lit to v in
    let over : IsOver cnf.vars new = over_has cnf.vars (clause_of (state cnf watched) at) new t.clause.over inside in
    let differs : new ≢ lit = λ q. let both : false ≡ true = sym unfalse ∙ ap (λ k. is_true (literals now.entries) (negated k)) q ∙ falsified in cc in
    let m : IsMoved cnf.vars cnf.clauses (set (set (set links to (get_or links at 0)) at (get_or (set links to (get_or links at 0)) new 0)) new at) (set watched at new) lit to v.front t.rest =
    moved cnf.vars cnf.clauses links watched v.front t.rest lit to at new v.whole range.0 range.1 t.way (omega (arith, over)) (omega (arith, over)) differs in
    let whole : IsWatches cnf links' (set watched at new) = subst (λ ls. IsWatches cnf ls (set watched at new)) (sym is) m.whole in
    let way : IsWay links' (set watched at new) lit to v.front t.rest = subst (λ ls. IsWay ls (set watched at new) lit to v.front t.rest) (sym is) m.way in
    record {
      visit = record {
        whole = whole;
        right = right_moved cnf links watched now lit at new v.whole v.right v.sound t.for t.watch inside apart unfalse falsified;
        sound = v.sound;
        grown = v.grown;
        passed = v.passed;
        vars = v.vars;
        within = v.within;
        next = v.next;
        front = v.front;
        rest = t.rest;
        walked = way.walked;
        left = way.left;
        ends = way.ends;
        twins = λ watch h.
            let on_list = on_way cnf links watched start now lit to v watch h in
            let away : twin watch ≢ at = λ q. t.set.apart (t.for ∙ sym on_list ∙ ap (λ k. get_or watched k 0) (sym (negated-negated watch) ∙ ap twin q)) in
            ap (is_true (literals now.entries)) (get_or-set_other watched at (twin watch) new 0 away) ∙ v.twins watch h;
      };
      shorter = rw (way_read cnf.vars cnf.clauses links' (set watched at new) v.front t.rest lit to whole range.0 range.1 way) t.shorter;
    }
  where
    on_way : (cnf : Clauses) (links watched : List ℕ) (start now : TrailState) (lit to : ℕ) → (v : IsVisit cnf links watched start now lit to) → (s : ℕ) → has v.front s ≡ true → get_or watched s 0 ≡ lit
    on_way cnf links watched start now lit to v s h =
        let range = visit_lit cnf links watched start now lit to v in
        let t : IsThread links watched lit = v.whole.threaded lit range.0 range.1 in
        let same : v.front ++ v.rest ≡ t.list = way_list cnf.vars cnf.clauses links watched v.front v.rest lit to v.whole range.0 range.1 (visit_way cnf links watched start now lit to v) in
        (t.exact s).0 (ap (λ xs. has xs s) (sym same) ∙ has-append v.front v.rest s ∙ grind (arith, h))

-- at the end of the walk the entry has been gone through
pub visit_ends : (cnf : Clauses) (links watched : List ℕ) (start now : TrailState) (lit to : ℕ) → (v : IsVisit cnf links watched start now lit to) → get_or links to 0 ≡ 0
    → Right (state cnf watched) (record now { passed = now.passed + 1 })
visit_ends cnf links watched start now lit to v e =
    let range = visit_lit cnf links watched start now lit to v in
    let t : IsThread links watched lit = v.whole.threaded lit range.0 range.1 in
    let none : v.rest ≡ [] = nothing_left links v.rest to v.left (grind (arith, v.ends, has-append v.front v.rest 0)) e in
    let same : v.front ≡ t.list = sym (append-nil v.front) ∙ ap (λ xs. v.front ++ xs) (sym none)
    ∙ way_list cnf.vars cnf.clauses links watched v.front v.rest lit to v.whole range.0 range.1 (visit_way cnf links watched start now lit to v) in
    let lits_count : length (literals now.entries) ≡ length now.entries = length-map now.entries (λ (x : Entry). x.lit) in
    let lvls_count : length (levels now.entries) ≡ length now.entries = length-map now.entries (λ (x : Entry). x.level) in
    record {
      set = v.right.set;
      pending = λ i le lt. v.right.pending i (omega arith) lt;
      guarded = λ k known i lt h. elim (tested (ltb i now.passed)) [
        | inl old ↦ v.right.guarded k known i (below i now.passed old) h
        | inr new ↦
            let here : i ≡ now.passed = at_end i now.passed new lt in
            let for : get_or watched k 0 ≡ lit = sym (negated-negated (get_or watched k 0)) ∙ ap negated (sym h ∙ ap (λ j. get_or (literals now.entries) j 0) here ∙ v.next) ∙ negated-negated lit in
            let on : has v.front k ≡ true = ap (λ xs. has xs k) same ∙ (t.exact k).1 for in
            let p = true_place (literals now.entries) (get_or watched (twin k) 0) (v.twins k on) in
            let top : get_or (levels now.entries) now.passed 0 ≡ now.level = v.right.pending now.passed (omega arith) v.within in
            record {
              place = p.0;
              within = p.1;
              is = p.2;
              below = let low : get_or (levels now.entries) p.0 0 ≤ now.level = rises_below 0 now.level (levels now.entries) p.0 v.sound.rises (omega (arith, p.1)) in
                  subst (λ j. get_or (levels now.entries) p.0 0 ≤ get_or (levels now.entries) j 0) (sym here) (omega arith);
            }
      ];
    }
  where
    nothing_left : (links rest : List ℕ) (to : ℕ) → Chain links to rest → has rest 0 ≡ false → get_or links to 0 ≡ 0 → rest ≡ []
    nothing_left links [] to c o e = refl
    nothing_left links (x ∷ xs) to c o e = absurd (let z : x ≡ 0 = sym c.0 ∙ e in grind (arith, o, z))

    below : (i n : ℕ) → ltb i n ≡ true → i < n
    below i n h = grind (arith, h)

    at_end : (i n : ℕ) → ltb i n ≡ false → i < n + 1 → i ≡ n
    at_end i n h l = let ge : n ≤ i = grind (arith, h) in omega arith

-- where all entries were gone through, a clause is neither false nor unit
pub quiet_clause : (w : WatchState) (t : TrailState) (clause : ℕ) → Right w t → IsSound t → t.passed ≡ length t.entries → clause < length w.clauses
    → IsQuiet (literals t.entries) (get_or w.clauses clause [])
quiet_clause w t clause r s all l =
    let s0 : IsSet w (2 * (w.vars + 1 + clause)) = r.set (2 * (w.vars + 1 + clause)) (omega arith, omega arith) in
    let watch1 : IsWatch w (2 * (w.vars + 1 + clause) + 1) = (omega arith, omega arith) in
    let s1 : IsSet w (2 * (w.vars + 1 + clause) + 1) = r.set (2 * (w.vars + 1 + clause) + 1) watch1 in
    let even : clause_of w (2 * (w.vars + 1 + clause)) ≡ get_or w.clauses clause [] = ap (λ k. get_or w.clauses k []) (let e : 2 * (w.vars + 1 + clause) / 2 - (w.vars + 1) ≡ clause = omega arith in e) in
    let odd : clause_of w (2 * (w.vars + 1 + clause) + 1) ≡ get_or w.clauses clause [] = ap (λ k. get_or w.clauses k []) (let e : (2 * (w.vars + 1 + clause) + 1) / 2 - (w.vars + 1) ≡ clause = omega arith in e) in
    let twin0 : twin (2 * (w.vars + 1 + clause)) ≡ 2 * (w.vars + 1 + clause) + 1 = twin_even (w.vars + 1 + clause) in
    let twin1 : twin (2 * (w.vars + 1 + clause) + 1) ≡ 2 * (w.vars + 1 + clause) = twin_odd (w.vars + 1 + clause) in
    let first = get_or w.watched (2 * (w.vars + 1 + clause)) 0 in
    let second = get_or w.watched (2 * (w.vars + 1 + clause) + 1) 0 in
    let apart : first ≢ second = λ q. s0.apart (q ∙ ap (λ k. get_or w.watched k 0) (sym twin0)) in
    let inside0 : has (get_or w.clauses clause []) first ≡ true = ap (λ xs. has xs first) (sym even) ∙ s0.inside in
    let inside1 : has (get_or w.clauses clause []) second ≡ true = ap (λ xs. has xs second) (sym odd) ∙ s1.inside in
    let one : is_true (literals t.entries) (negated first) ≡ true → is_true (literals t.entries) second ≡ true =
    λ f. ap (λ k. is_true (literals t.entries) (get_or w.watched k 0)) (sym twin0) ∙ other_true w t (2 * (w.vars + 1 + clause)) r s all (omega arith, omega arith) f in
    let two : is_true (literals t.entries) (negated second) ≡ true → is_true (literals t.entries) first ≡ true =
    λ f. ap (λ k. is_true (literals t.entries) (get_or w.watched k 0)) (sym twin1) ∙ other_true w t (2 * (w.vars + 1 + clause) + 1) r s all watch1 f in
    record {
      not_false = λ f. apart_both (literals t.entries) first s.apart (two (f second inside1)) (f first inside0);
      not_unit = λ lit u. elim (tested (eqb first lit)) [
        | inl same ↦
            let e : first ≡ lit = equal first lit same in
            let f2 : is_true (literals t.entries) (negated second) ≡ true = u.others second inside1 (λ q. apart (e ∙ sym q)) in
            let contra : true ≡ false = sym (two f2) ∙ ap (is_true (literals t.entries)) e ∙ u.unset.0 in cc
        | inr other ↦
            let f1 : is_true (literals t.entries) (negated first) ≡ true = u.others first inside0 (unequal first lit other) in
            elim (tested (eqb second lit)) [
              | inl same ↦ let e : second ≡ lit = equal second lit same in
                  let contra : true ≡ false = sym (one f1) ∙ ap (is_true (literals t.entries)) e ∙ u.unset.0 in cc
              | inr away ↦ apart_both (literals t.entries) second s.apart (one f1) (u.others second inside1 (unequal second lit away))
            ]
      ];
    }
  where
    other_true : (w : WatchState) (t : TrailState) (k : ℕ) → Right w t → IsSound t → t.passed ≡ length t.entries → IsWatch w k
        → is_true (literals t.entries) (negated (get_or w.watched k 0)) ≡ true → is_true (literals t.entries) (get_or w.watched (twin k) 0) ≡ true
    other_true w t k r s all known f =
        let p = true_place (literals t.entries) (negated (get_or w.watched k 0)) f in
        let count : length (literals t.entries) ≡ length t.entries = length-map t.entries (λ (x : Entry). x.lit) in
        let b : IsTrueBy (literals t.entries) (levels t.entries) (get_or w.watched (twin k) 0) (get_or (levels t.entries) p.0 0) = r.guarded k known p.0 (omega (arith, p.1)) p.2 in
        ap (is_true (literals t.entries)) (sym b.is) ∙ place_true (literals t.entries) b.place b.within

-- how many entries were gone through is no part of growing
pub grown_passed : (clauses : List (List ℕ)) (one two : TrailState) (passed : ℕ) → Grows clauses one two → Grows clauses one (record two { passed = passed })
grown_passed clauses one two passed g = record { added = g.added; is = g.is; forced = g.forced; level = g.level; vars = g.vars }
