-- The tables that follow the trail.
use Rattle.std.proofs.Common.{◌≡◌, ◌≢◌, ℕ, ◌+◌, ◌-◌, ◌/◌, ◌<◌, ◌≤◌, Bool, true, false, eqb, not, ◌&&◌, ◌||◌, List, [], ◌∷◌, ◌++◌, length, map, take, get_or, set, refl, sym, ap, ◌∙◌, subst, inl, inr, arith, All, get_or-set_other}
use Rattle.std.proofs.lemmas.Bool.{or_cases, false≢true}
use Rattle.std.proofs.lemmas.List.{get_or-map, map-append, length-map}
use Rattle.std.specs.List.{list_any}
use Rattle.std.proofs.lemmas.List.Elements.{All-map, All-head, All-tail}
use Rattle.cnf_core.specs.Literal.{IsOver}
use Rattle.derivation.specs.Propagation.{once}
use Rattle.derivation.proofs.Rising.{vars_of}
use Rattle.sat_order.specs.Lists.{holds, before, EachOnce}
use Rattle.sat_order.specs.Order.{Order, passed, IsOrder, is_free}
use Rattle.sat_watch.specs.declared.trail.Entry.{Entry}
use Rattle.sat_watch.specs.Literals.{IsOpen, AreApart}
use Rattle.sat_watch.specs.Trail.{TrailState, literals, IsSound}
use Rattle.sat_watch.proofs.LiteralLemmas.{tested, equal, unequal}
use Rattle.sat_watch.proofs.TrailLemmas.{take_entry}
use Rattle.sat_analysis.specs.Walk.{AreLeveled}
use Rattle.sat_analysis.proofs.Steps.{IsUpTo, up_to_place, front_apart, open_last, entry_over}
use Rattle.sat_solver.specs.Queued.{IsQueued}
use Rattle.sat_solver.specs.Search.{AreSet}
use Rattle.sat_solver.proofs.Running.{leveled_push, set_push, set_pop, no_value}

pub record AreNoted (table : List ℕ) (values : List Bool) (entries : List Entry) : Type 0 where
  pub leveled : AreLeveled table entries
  pub marked : AreSet values (literals entries)

-- one entry more is noted
pub noted_more : (t : TrailState) (table : List ℕ) (values : List Bool) (place : ℕ) (e : Entry) → IsSound t → place < length t.entries → e ≡ get_or t.entries place e → length table ≡ t.vars + 1 → length values ≡ t.vars
    → AreLeveled table (take place t.entries) → AreSet values (literals (take place t.entries))
    → AreNoted (set table (e.lit / 2) e.level) (set values (e.lit / 2 - 1) true) (take (place + 1) t.entries)
noted_more t table values place e s l is lt lv leveled marked =
    let u : IsUpTo t.entries place e = up_to_place t.entries place e l is in
    let over : IsOver t.vars e.lit = entry_over t place e s l is in
    let free : IsOpen (literals (take place t.entries)) e.lit = open_last (literals (take place t.entries)) e.lit (subst AreApart u.lits (front_apart t.entries (place + 1) s.apart)) in
    record {
      leveled = subst (AreLeveled (set table (e.lit / 2) e.level)) (sym u.front) (leveled_push table (take place t.entries) e leveled free (omega (arith, over, lt)));
      marked = subst (AreSet (set values (e.lit / 2 - 1) true)) (sym u.lits) (set_push values (literals (take place t.entries)) e.lit marked over.0 (omega (arith, over, lv)));
    }

pub lit_over : (entries : List Entry) (vars place : ℕ) (e : Entry) → All (IsOver vars) (literals entries) → place < length entries → e ≡ get_or entries place e → IsOver vars e.lit
lit_over entries vars place e over l is =
    let at : get_or (literals entries) place 0 ≡ e.lit = get_or-map (λ (x : Entry). x.lit) entries place e 0 l ∙ ap (λ (x : Entry). x.lit) (sym is) in
    subst (IsOver vars) at (over place 0 (rw length-map l))

-- the last entry is released
pub set_less : (entries : List Entry) (values : List Bool) (kept vars : ℕ) (e : Entry) → AreApart (literals entries) → All (IsOver vars) (literals entries) → 0 < kept → kept ≤ length entries → e ≡ get_or entries (kept - 1) e
    → length values ≡ vars → AreSet values (literals (take kept entries)) → AreSet (set values (e.lit / 2 - 1) false) (literals (take (kept - 1) entries))
set_less entries values kept vars e a over z l is lv marked =
    let p = take_entry entries kept e z l is in
    let lits : literals (take kept entries) ≡ literals (take (kept - 1) entries) ++ e.lit ∷ [] = ap literals p.0 ∙ map-append (λ (x : Entry). x.lit) (take (kept - 1) entries) (e ∷ []) in
    let on : IsOver vars e.lit = lit_over entries vars (kept - 1) e over (omega (arith, z, l)) is in
    let free : IsOpen (literals (take (kept - 1) entries)) e.lit = open_last (literals (take (kept - 1) entries)) e.lit (subst AreApart lits (front_apart entries kept a)) in
    set_pop values (literals (take (kept - 1) entries)) e.lit (subst (AreSet values) lits marked) (no_value (literals (take (kept - 1) entries)) e.lit free) on.0 (omega (arith, on, lv))

-- what stands before an element stands there
pub before_holds : (x : ℕ) (xs : List ℕ) (v : ℕ) → holds (before x xs) v ≡ true → holds xs v ≡ true
before_holds x [] v h = h
before_holds x (y ∷ ys) v h = elim (tested (eqb y x)) [
  | inl same ↦ absurd (let none : holds [] v ≡ true = rw same at h in false≢true none)
  | inr other ↦ let g : holds (y ∷ before x ys) v ≡ true = rw other at h in elim (tested (eqb y v)) [ inl here ↦ rw here refl | inr there ↦ rw there (before_holds x ys v (rw there at g)) ]
]

-- a variable loses its value, and the queue knows
pub freed_more : (old new : Order) (values : List Bool) (var : ℕ) → IsOrder new.vars → 0 < var → ((v : ℕ) → holds (passed old) v ≡ true → is_free values v ≡ false)
    → ((v : ℕ) → holds (passed new) v ≡ true → (holds (passed old) v ≡ true) × ((eqb v var) ≡ false)) → (v : ℕ) → holds (passed new) v ≡ true → is_free (set values (var - 1) false) v ≡ false
freed_more old new values var o z all moved v h =
    let p = moved v h in
    let positive : 0 < v = ((o.each v).0 (before_holds new.cursor new.vars v h)).0 in
    let apart : v - 1 ≢ var - 1 = λ q. unequal v var p.1 (omega (arith, q, positive, z)) in
    ap not (get_or-set_other values (var - 1) (v - 1) false false apart) ∙ all v p.0

-- VARIABLES OF LITERALS

pub variables_from_one : (vars : ℕ) (lits : List ℕ) → All (IsOver vars) lits → All (λ var. 0 < var) (vars_of lits)
variables_from_one vars lits over = All-map (λ var. 0 < var) (λ lit. lit / 2) lits (λ k d lt. (over k d lt).0)

pub variables_within : (vars most : ℕ) (lits : List ℕ) → All (IsOver vars) lits → vars ≡ most → All (λ var. var ≤ most) (vars_of lits)
variables_within vars most lits over same = All-map (λ var. var ≤ most) (λ lit. lit / 2) lits (λ k d lt. omega (arith, (over k d lt).1, same))

absent : (x : ℕ) (lits : List ℕ) → list_any (λ other. eqb (other / 2) x) lits ≡ false → holds (vars_of lits) x ≡ false
absent x [] h = refl
absent x (y ∷ ys) h = grind (arith, h, absent x ys)

pub variables_once : (lits : List ℕ) → once lits ≡ true → EachOnce (vars_of lits)
variables_once [] h = tt
variables_once (x ∷ xs) h =
    let both : ((list_any (λ other. eqb (other / 2) (x / 2)) xs) ≡ false) × (once xs ≡ true) = split (list_any (λ other. eqb (other / 2) (x / 2)) xs) (once xs) h in
    (absent (x / 2) xs both.0, variables_once xs both.1)
  where
    split : (a b : Bool) → (not a && b) ≡ true → (a ≡ false) × (b ≡ true)
    split true b h = absurd (let both : false ≡ true = h in cc)
    split false b h = (refl, h)

-- a variable of literals whose variables have values has one
values_there : (set : List Bool) (lits : List ℕ) (v : ℕ) → All (λ lit. is_free set (lit / 2) ≡ false) lits → holds (vars_of lits) v ≡ true → is_free set v ≡ false
values_there set [] v all h = absurd (let both : false ≡ true = h in cc)
values_there set (x ∷ xs) v all h = elim (tested (eqb (x / 2) v)) [
  | inl same ↦ subst (λ w. is_free set w ≡ false) (equal (x / 2) v same) (All-head (λ lit. is_free set (lit / 2) ≡ false) x xs all)
  | inr other ↦ values_there set xs v (All-tail (λ lit. is_free set (lit / 2) ≡ false) x xs all) (grind (arith, h, other))
]

-- variables with values come to the front
pub queued_bumped : (vars : ℕ) (old new : Order) (values : List Bool) (lits moved : List ℕ) → IsQueued vars old values → All (λ lit. is_free values (lit / 2) ≡ false) lits → moved ≡ vars_of lits
    → ((v : ℕ) → holds (passed new) v ≡ true → (holds moved v || holds (passed old) v) ≡ true) → length new.vars ≡ length old.vars → IsOrder new.vars → IsQueued vars new values
queued_bumped vars old new values lits moved q f is more count each = record {
  order = each;
  all = count ∙ q.all;
  passed = λ v h. elim (or_cases (holds moved v) (holds (passed old) v) (more v h)) [
    | inl here ↦ values_there values lits v f (ap (λ l. holds l v) (sym is) ∙ here)
    | inr there ↦ q.passed v there
  ];
}
