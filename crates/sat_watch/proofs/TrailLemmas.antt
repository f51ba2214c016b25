-- How a trail grows and goes back.
use Rattle.std.proofs.Common.{◌≡◌, ℕ, ◌+◌, ◌-◌, ◌<◌, ◌≤◌, Bool, true, false, List, [], ◌∷◌, ◌++◌, length, take, drop, get_or, set, refl, sym, ap, ◌∙◌, subst, inl, inr, All, arith, length-append}
use Rattle.std.specs.Prelude.{nat_le, min}
use Rattle.std.proofs.lemmas.List.{length-map, map-append, length-set, length_push, take_more, drop_more, take-append-drop, append-nil, get_or-map, length-take-le, get_or_append_left}
use Rattle.std.proofs.lemmas.List.Elements.{All-push}
use Rattle.cnf_core.specs.Literal.{IsOver}
use Rattle.sat_watch.specs.declared.trail.Entry.{Entry}
use Rattle.cnf_core.specs.Trues.{AreMarks}
use Rattle.sat_watch.specs.Literals.{IsOpen, AreApart}
use Rattle.sat_watch.specs.Trail.{literals, levels, up_to, Rises, IsSound, IsMarked}
use Rattle.sat_watch.proofs.LiteralLemmas.{tested, few_apart, apart-push, marks-push, apart-front, apart-last, marks-pop}

pub rises-push : (from to level : ℕ) (levels : List ℕ) → Rises from levels to → to ≤ level → level ≤ to + 1 → Rises from (levels ++ level ∷ []) level
rises-push from to level [] r l m = (omega arith, omega arith, refl)
rises-push from to level (x ∷ xs) r l m = (r.0, r.1, rises-push x to level xs r.2 l m)

-- one more entry, at the present level or the next
pub marked_more : (vars level passed level' : ℕ) (entries : List Entry) (marks : List Bool) (e : Entry)
    → IsMarked (record { vars = vars; entries = entries; level = level; passed = passed }) marks
    → IsOver vars e.lit → IsOpen (literals entries) e.lit → e.level ≡ level' → level ≤ level' → level' ≤ level + 1
    → IsMarked (record { vars = vars; entries = entries ++ e ∷ []; level = level'; passed = passed }) (set marks e.lit true)
marked_more vars level passed level' entries marks e m over unset same up step =
    let lits : literals (entries ++ e ∷ []) ≡ literals entries ++ e.lit ∷ [] = map-append (λ x. x.lit) entries (e ∷ []) in
    let lvls : levels (entries ++ e ∷ []) ≡ levels entries ++ e.level ∷ [] = map-append (λ x. x.level) entries (e ∷ []) in
    let apart : AreApart (literals entries ++ e.lit ∷ []) = apart-push (literals entries) e.lit m.sound.apart unset in
    let all : All (IsOver vars) (literals entries ++ e.lit ∷ []) = All-push (IsOver vars) (literals entries) e.lit m.sound.over over in
    let place : e.lit < length marks = omega (arith, over, m.whole) in
    record {
      sound = record {
        small = m.sound.small;
        over = subst (All (IsOver vars)) (sym lits) all;
        apart = subst AreApart (sym lits) apart;
        rises = subst (λ ls. Rises 0 ls level') (sym lvls) (subst (λ l. Rises 0 (levels entries ++ l ∷ []) level') (sym same) (rises-push 0 level level' (levels entries) m.sound.rises up step));
        within = omega (arith, m.sound.within, length_push entries e);
        few = omega (arith, few_apart (literals entries ++ e.lit ∷ []) vars apart all, length_push entries e, length_push (literals entries) e.lit, length-map entries (λ x. x.lit));
      };
      marked = subst (AreMarks (set marks e.lit true)) (sym lits) (marks-push marks (literals entries) e.lit m.marked place);
      whole = length-set marks e.lit true ∙ m.whole;
    }

-- the room for one more
pub room_more : (vars level passed : ℕ) (entries : List Entry) (lit : ℕ)
    → IsSound (record { vars = vars; entries = entries; level = level; passed = passed }) → IsOver vars lit → IsOpen (literals entries) lit → length entries < vars
room_more vars level passed entries lit s over unset =
    omega (
      arith,
      few_apart (literals entries ++ lit ∷ []) vars (apart-push (literals entries) lit s.apart unset) (All-push (IsOver vars) (literals entries) lit s.over over),
      length_push (literals entries) lit,
      length-map entries (λ x. x.lit),
    )

-- no level is above the number of entries, nor a level of an entry above the last
pub rises_few : (from to : ℕ) (levels : List ℕ) → Rises from levels to → to ≤ from + length levels
rises_few from to [] r = omega arith
rises_few from to (x ∷ xs) r = omega (arith, r.0, r.1, rises_few x to xs r.2)

pub rises_up : (from to : ℕ) (levels : List ℕ) → Rises from levels to → from ≤ to
rises_up from to [] r = omega arith
rises_up from to (x ∷ xs) r = omega (arith, r.0, rises_up x to xs r.2)

pub rises-front : (from to : ℕ) (front more : List ℕ) → Rises from (front ++ more) to → (middle : ℕ) × Rises from front middle × Rises middle more to
rises-front from to [] more r = (from, refl, r)
rises-front from to (x ∷ xs) more r = let p = rises-front x to xs more r.2 in (p.0, (r.0, r.1, p.1), p.2)

-- where the levels rise to one that is not above, none is above
pub up_to_all : (from to level : ℕ) (entries : List Entry) → Rises from (levels entries) to → to ≤ level → up_to level entries ≡ entries
up_to_all from to level [] r l = refl
up_to_all from to level (e ∷ es) r l =
    let below : nat_le e.level level ≡ true = grind (arith, rises_up e.level to (levels es) r.2) in
    rw below (ap (λ xs. e ∷ xs) (up_to_all e.level to level es r.2 l))

pub up_to-append : (level : ℕ) (xs ys : List Entry) → up_to level (xs ++ ys) ≡ up_to level xs ++ up_to level ys
up_to-append level [] ys = refl
up_to-append level (x ∷ xs) ys = elim (tested (nat_le x.level level)) [
  | inl below ↦ rw below (ap (λ zs. x ∷ zs) (up_to-append level xs ys))
  | inr above ↦ rw above (up_to-append level xs ys)
]

-- the entries split before the one at a place
pub take_entry : (entries : List Entry) (kept : ℕ) (e : Entry) → 0 < kept → kept ≤ length entries → e ≡ get_or entries (kept - 1) e
    → (take kept entries ≡ take (kept - 1) entries ++ e ∷ []) × (drop (kept - 1) entries ≡ e ∷ drop kept entries)
take_entry entries kept e z l is =
    let one : kept - 1 + 1 ≡ kept = omega arith in (
      ap (λ k. take k entries) (sym one) ∙ take_more entries (kept - 1) e (omega arith) ∙ ap (λ x. take (kept - 1) entries ++ x ∷ []) (sym is),
      drop_more entries (kept - 1) e (omega arith) ∙ ap (λ x. x ∷ drop (kept - 1 + 1) entries) (sym is) ∙ ap (λ k. e ∷ drop k entries) one,
    )

pub above_more : (entries : List Entry) (kept level : ℕ) (e : Entry) → 0 < kept → kept ≤ length entries → e ≡ get_or entries (kept - 1) e
    → level < e.level → up_to level (drop kept entries) ≡ [] → up_to level (drop (kept - 1) entries) ≡ []
above_more entries kept level e z l is above rest =
    let no : nat_le e.level level ≡ false = grind (arith, above) in
    let both : up_to level (e ∷ drop kept entries) ≡ [] = rw no rest in
    ap (up_to level) (take_entry entries kept e z l is).1 ∙ both

pub kept_all : (entries : List Entry) (kept level top : ℕ) (e : Entry) → Rises 0 (levels entries) top → 0 < kept → kept ≤ length entries → e ≡ get_or entries (kept - 1) e
    → e.level ≤ level → up_to level (drop kept entries) ≡ [] → take kept entries ≡ up_to level entries
kept_all entries kept level top e r z l is below rest =
    let front : take kept entries ≡ take (kept - 1) entries ++ e ∷ [] = (take_entry entries kept e z l is).0 in
    let whole : levels (take kept entries) ++ levels (drop kept entries) ≡ levels entries =
    sym (map-append (λ x. x.level) (take kept entries) (drop kept entries)) ∙ ap levels (take-append-drop kept entries) in
    let p = rises-front 0 top (levels (take kept entries)) (levels (drop kept entries)) (subst (λ ls. Rises 0 ls top) (sym whole) r) in
    let last : levels (take kept entries) ≡ levels (take (kept - 1) entries) ++ e.level ∷ [] = ap levels front ∙ map-append (λ x. x.level) (take (kept - 1) entries) (e ∷ []) in
    let q = rises-front 0 p.0 (levels (take (kept - 1) entries)) (e.level ∷ []) (subst (λ ls. Rises 0 ls p.0) last p.1) in
    let ends : e.level ≡ p.0 = q.2.2 in
    let all : up_to level (take kept entries) ≡ take kept entries = up_to_all 0 p.0 level (take kept entries) p.1 (omega arith) in
    sym all ∙ sym (append-nil (up_to level (take kept entries))) ∙ ap (λ ys. up_to level (take kept entries) ++ ys) (sym rest)
    ∙ sym (up_to-append level (take kept entries) (drop kept entries)) ∙ ap (up_to level) (take-append-drop kept entries)

pub unmarked : (entries : List Entry) (marks : List Bool) (kept : ℕ) (e : Entry) → AreApart (literals entries) → 0 < kept → kept ≤ length entries → e ≡ get_or entries (kept - 1) e
    → AreMarks marks (literals (take kept entries)) → e.lit < length marks → AreMarks (set marks e.lit false) (literals (take (kept - 1) entries))
unmarked entries marks kept e a z l is m w =
    let front : literals (take kept entries) ≡ literals (take (kept - 1) entries) ++ e.lit ∷ [] =
    ap literals (take_entry entries kept e z l is).0 ∙ map-append (λ x. x.lit) (take (kept - 1) entries) (e ∷ []) in
    let whole : literals (take kept entries) ++ literals (drop kept entries) ≡ literals entries =
    sym (map-append (λ x. x.lit) (take kept entries) (drop kept entries)) ∙ ap literals (take-append-drop kept entries) in
    let apart : AreApart (literals (take kept entries)) = apart-front (literals (take kept entries)) (literals (drop kept entries)) (subst AreApart (sym whole) a) in
    marks-pop marks (literals (take (kept - 1) entries)) e.lit (subst (AreMarks marks) front m) (apart-last (literals (take (kept - 1) entries)) e.lit (subst AreApart front apart)) w

-- the place of an entry's literal in a table for all of them
pub entry_place : (entries : List Entry) (n k : ℕ) (e : Entry) → All (λ lit. lit < n) (literals entries) → k < length entries → e ≡ get_or entries k e → e.lit < n
entry_place entries n k e a l is =
    let at : get_or (literals entries) k 0 ≡ e.lit = get_or-map (λ x. x.lit) entries k e 0 l ∙ ap (λ x. x.lit) (sym is) in
    subst (λ lit. lit < n) at (a k 0 (rw length-map l))

pub up_to_none : (from to level : ℕ) (entries : List Entry) → Rises from (levels entries) to → level < from → up_to level entries ≡ []
up_to_none from to level [] r l = refl
up_to_none from to level (e ∷ es) r l =
    let no : nat_le e.level level ≡ false = grind (arith, r.0) in rw no (up_to_none e.level to level es r.2 (omega (arith, r.0)))

-- the levels up to one that was reached rise to it
pub rises-up_to : (from to level : ℕ) (entries : List Entry) → Rises from (levels entries) to → from ≤ level → level ≤ to → Rises from (levels (up_to level entries)) level
rises-up_to from to level [] r l m = omega arith
rises-up_to from to level (e ∷ es) r l m = elim (tested (nat_le e.level level)) [
  | inl below ↦ let le : e.level ≤ level = grind (arith, below) in rw below ((r.0, r.1, rises-up_to e.level to level es r.2 le m))
  | inr above ↦
      let gt : level < e.level = grind (arith, above) in
      rw above (subst (λ es'. Rises from (levels es') level) (sym (up_to_none e.level to level es r.2 gt)) (let e : from ≡ level = omega (arith, r.0, r.1) in e))
]

-- the trail that is left, once the entries above a level are gone
pub marked_back : (vars level passed level' kept passed' : ℕ) (entries entries' : List Entry) (marks marks' : List Bool)
    → IsMarked (record { vars = vars; entries = entries; level = level; passed = passed }) marks
    → level' ≤ level → entries' ≡ take kept entries → kept ≤ length entries → take kept entries ≡ up_to level' entries
    → AreMarks marks' (literals (take kept entries)) → length marks' ≡ length marks → passed' ≡ min passed kept
    → IsMarked (record { vars = vars; entries = entries'; level = level'; passed = passed' }) marks'
marked_back vars level passed level' kept passed' entries entries' marks marks' m l is w up marked whole p =
    let lits : literals entries ≡ literals (take kept entries) ++ literals (drop kept entries) =
    ap literals (sym (take-append-drop kept entries)) ∙ map-append (λ x. x.lit) (take kept entries) (drop kept entries) in
    let count : length (take kept entries) ≡ kept = length-take-le kept entries w in
    let count' : length entries' ≡ kept = ap length is ∙ count in
    let apart : AreApart (literals (take kept entries)) = apart-front (literals (take kept entries)) (literals (drop kept entries)) (subst AreApart lits m.sound.apart) in
    let over : All (IsOver vars) (literals (take kept entries)) =
    λ k d h. subst (IsOver vars) (get_or_append_left (literals (take kept entries)) (literals (drop kept entries)) d k h)
    (subst (All (IsOver vars)) lits m.sound.over k d (omega (arith, length-append (literals (take kept entries)) (literals (drop kept entries))))) in
    record {
      sound = record {
        small = m.sound.small;
        over = subst (λ es. All (IsOver vars) (literals es)) (sym is) over;
        apart = subst (λ es. AreApart (literals es)) (sym is) apart;
        rises = subst (λ es. Rises 0 (levels es) level') (sym (is ∙ up)) (rises-up_to 0 level level' entries m.sound.rises (omega arith) l);
        within = omega (arith, count', p, w);
        few = omega (arith, count', w, m.sound.few);
      };
      marked = subst (λ es. AreMarks marks' (literals es)) (sym is) marked;
      whole = whole ∙ m.whole;
    }
