-- What a search keeps where the trail grows or goes back, and where a clause comes.
use Rattle.std.proofs.Common.{◌≡◌, ◌≢◌, ℕ, zero, suc, ◌+◌, ◌-◌, ◌*◌, ◌/◌, ◌<◌, ◌≤◌, Bool, true, false, eqb, ◌||◌, Option, Some, None, List, [], ◌∷◌, ◌++◌, length, take, get_or, set, refl, sym, ap, ◌∙◌, subst, inl, inr, ◌⊎◌, arith, All, length-append, get_or-set_same, get_or-set_other}
use Rattle.std.specs.Prelude.{nat_le, nat_lt}
use Rattle.std.specs.Option.{MatchOption}
use Rattle.std.proofs.lemmas.Bool.{or_left, or_right, or_parts, cases_lt, leb-true, le-leb, lt-leb, leb-false, and_from, lt-ltb, and_parts, ltb-true, false_from_ne_true, false≢true}
use Rattle.std.proofs.lemmas.List.{get_or_append_left, get_or_push, take-append-le, take_at, map-append, length_push, append-nil, append_assoc}
use Rattle.std.proofs.lemmas.List.Elements.{All-head, All-tail, All-cons}
use Rattle.cnf_core.specs.Literal.{negated}
use Rattle.sat_watch.specs.declared.trail.Entry.{Entry}
use Rattle.cnf_core.specs.Trues.{is_true}
use Rattle.sat_watch.specs.Literals.{has, IsOpen}
use Rattle.sat_watch.specs.Propagation.{Forces, AreForced}
use Rattle.sat_watch.specs.Trail.{literals, up_to}
use Rattle.sat_watch.proofs.LiteralLemmas.{tested, equal, unequal, is_true-append, same_half, halves}
use Rattle.sat_watch.proofs.TrailLemmas.{up_to-append}
use Rattle.sat_analysis.specs.Reasons.{IsNumberOf, IsRoot, IsDecision, IsBacked, AreBacked}
use Rattle.sat_analysis.specs.Walk.{AreLeveled}
use Rattle.sat_solver.specs.Search.{IsWatchedAs, IsRootOf, AreHeld, has_value, AreSet}

pub up_to_twice : (k b : ℕ) (es : List Entry) → k ≤ b → up_to k (up_to b es) ≡ up_to k es
up_to_twice k b [] l = refl
up_to_twice k b (e ∷ es) l = elim (tested (nat_le e.level b)) [
  | inl below ↦ rw below (elim (tested (nat_le e.level k)) [ inl low ↦ rw low (ap (λ xs. e ∷ xs) (up_to_twice k b es l)) | inr high ↦ rw high (up_to_twice k b es l) ])
  | inr above ↦
      let high : nat_le e.level k ≡ false = lt-leb e.level k (omega (arith, leb-false e.level b above)) in
      rw (above, high) (up_to_twice k b es l)
]

-- entries above a level do not show up to it
pub up_to_above : (k : ℕ) (es : List Entry) → All (λ (e : Entry). k < e.level) es → up_to k es ≡ []
up_to_above k [] a = refl
up_to_above k (e ∷ es) a =
    let above : k < e.level = All-head (λ (x : Entry). k < x.level) e es a in
    let high : nat_le e.level k ≡ false = lt-leb e.level k above in
    rw high (up_to_above k es (All-tail (λ (x : Entry). k < x.level) e es a))

pub up_to_more : (k : ℕ) (es more : List Entry) → All (λ (e : Entry). k < e.level) more → up_to k (es ++ more) ≡ up_to k es
up_to_more k es more a = up_to-append k es more ∙ ap (λ xs. up_to k es ++ xs) (up_to_above k more a) ∙ append-nil (up_to k es)

-- numbers of known clauses stay where more are known
pub number_more : (known more : List (List ℕ)) (clause : List ℕ) (number : ℕ) → IsNumberOf known clause number → IsNumberOf (known ++ more) clause number
number_more known more clause number n =
    let range : (nat_lt 0 number ≡ true) × (nat_le number (length known) ≡ true) = and_parts (nat_lt 0 number) (nat_le number (length known)) n.hint in
    let low : 0 < number = ltb-true 0 number range.0 in
    let high : number ≤ length known = leb-true number (length known) range.1 in
    record {
      hint = and_from (nat_lt 0 number) (nat_le number (length (known ++ more))) range.0 (le-leb number (length (known ++ more)) (omega (arith, high, length-append known more)));
      same = λ lit. ap (λ cl. has cl lit) (get_or_append_left known more [] (number - 1) (omega arith)) ∙ n.same lit;
    }

-- the next known clause has the next number
pub number_new : (known : List (List ℕ)) (clause line : List ℕ) (number : ℕ) → number ≡ length known + 1 → ((lit : ℕ) → has line lit ≡ has clause lit) → IsNumberOf (known ++ line ∷ []) clause number
number_new known clause line number e same =
    let long : length (known ++ line ∷ []) ≡ length known + 1 = length_push known line in
    let place : number - 1 ≡ length known = omega arith in
    record {
      hint = and_from (nat_lt 0 number) (nat_le number (length (known ++ line ∷ []))) (lt-ltb 0 number (omega arith)) (le-leb number (length (known ++ line ∷ [])) (omega arith));
      same = λ lit. ap (λ cl. has cl lit) (ap (λ k. get_or (known ++ line ∷ []) k []) place ∙ get_or_push known line [] (length known) refl) ∙ same lit;
    }

-- the clause at a place has the next number, counted from 1
pub number_at : (known : List (List ℕ)) (clause : List ℕ) (place : ℕ) → place < length known → ((lit : ℕ) → has (get_or known place []) lit ≡ has clause lit) → IsNumberOf known clause (place + 1)
number_at known clause place l same =
    let back : place + 1 - 1 ≡ place = omega arith in
    record {
      hint = and_from (nat_lt 0 (place + 1)) (nat_le (place + 1) (length known)) (lt-ltb 0 (place + 1) (omega arith)) (le-leb (place + 1) (length known) (omega arith));
      same = λ lit. ap (λ k. has (get_or known k []) lit) back ∙ same lit;
    }

-- reasons stay where more clauses are known and more are watched
pub backed_known : (known more : List (List ℕ)) (clauses more' : List (List ℕ)) (units : List ℕ) (front : List Entry) (e : Entry) → IsBacked known clauses units front e → IsBacked (known ++ more) (clauses ++ more') units front e
backed_known known more clauses more' units front e b = go e.reason b
  where
    go : (o : Option ℕ) → MatchOption o (IsRoot known units e ⊎ IsDecision front e) (λ c. (c < length clauses) × Forces (literals front) (get_or clauses c []) e.lit)
        → MatchOption o (IsRoot (known ++ more) units e ⊎ IsDecision front e) (λ c. (c < length (clauses ++ more')) × Forces (literals front) (get_or (clauses ++ more') c []) e.lit)
    go None (inl root) = inl (record { root = root.root; number = number_more known more (e.lit ∷ []) (get_or units (e.lit / 2) 0) root.number })
    go None (inr decision) = inr decision
    go (Some c) p = (omega (arith, p.0, length-append clauses more'), subst (λ cl. Forces (literals front) cl e.lit) (sym (get_or_append_left clauses more' [] c p.0)) p.1)

-- and where another variable's number is noted
pub backed_unit : (known clauses : List (List ℕ)) (units : List ℕ) (front : List Entry) (e : Entry) (var number : ℕ) → e.lit / 2 ≢ var → IsBacked known clauses units front e → IsBacked known clauses (set units var number) front e
backed_unit known clauses units front e var number d b = go e.reason b
  where
    go : (o : Option ℕ) → MatchOption o (IsRoot known units e ⊎ IsDecision front e) (λ c. (c < length clauses) × Forces (literals front) (get_or clauses c []) e.lit)
        → MatchOption o (IsRoot known (set units var number) e ⊎ IsDecision front e) (λ c. (c < length clauses) × Forces (literals front) (get_or clauses c []) e.lit)
    go None (inl root) = inl (record { root = root.root; number = subst (IsNumberOf known (e.lit ∷ [])) (sym (get_or-set_other units var (e.lit / 2) number 0 d)) root.number })
    go None (inr decision) = inr decision
    go (Some c) p = p

pub backed_front : (known clauses : List (List ℕ)) (units : List ℕ) (entries front rest : List Entry) → entries ≡ front ++ rest → AreBacked known clauses units entries → AreBacked known clauses units front
backed_front known clauses units entries front rest is b i d lt =
    let whole : AreBacked known clauses units (front ++ rest) = subst (AreBacked known clauses units) is b in
    let at : IsBacked known clauses units (take i (front ++ rest)) (get_or (front ++ rest) i d) = whole i d (omega (arith, lt, length-append front rest)) in
    subst (λ f. IsBacked known clauses units f (get_or front i d)) (take-append-le i front rest (omega arith))
    (subst (IsBacked known clauses units (take i (front ++ rest))) (get_or_append_left front rest d i lt) at)

pub backed_push : (known clauses : List (List ℕ)) (units : List ℕ) (entries : List Entry) (e : Entry) → AreBacked known clauses units entries → IsBacked known clauses units entries e → AreBacked known clauses units (entries ++ e ∷ [])
backed_push known clauses units entries e b new i d lt = elim (cases_lt i (length entries)) [
  | inl old ↦
      subst (λ f. IsBacked known clauses units f (get_or (entries ++ e ∷ []) i d)) (sym (take-append-le i entries (e ∷ []) (omega arith)))
      (subst (IsBacked known clauses units (take i entries)) (sym (get_or_append_left entries (e ∷ []) d i old)) (b i d old))
  | inr at ↦
      let is : length entries ≡ i = omega (arith, lt, at, length_push entries e) in
      subst (λ f. IsBacked known clauses units f (get_or (entries ++ e ∷ []) i d)) (sym (take_at entries (e ∷ []) i is))
      (subst (IsBacked known clauses units entries) (sym (get_or_push entries e d i is)) new)
]

-- forced entries are backed by their clauses
pub backed_forced : (known clauses : List (List ℕ)) (units : List ℕ) (entries added : List Entry) (level : ℕ) → AreBacked known clauses units entries → AreForced clauses (literals entries) level added
    → AreBacked known clauses units (entries ++ added)
backed_forced known clauses units entries [] level b f = subst (AreBacked known clauses units) (sym (append-nil entries)) b
backed_forced known clauses units entries (e ∷ es) level b f =
    let new : IsBacked known clauses units entries e = go e.reason f.0.reason in
    let lits : literals (entries ++ e ∷ []) ≡ literals entries ++ e.lit ∷ [] = map-append (λ (x : Entry). x.lit) entries (e ∷ []) in
    subst (AreBacked known clauses units) (append_assoc entries (e ∷ []) es)
    (backed_forced known clauses units (entries ++ e ∷ []) es level (backed_push known clauses units entries e b new) (subst (λ ls. AreForced clauses ls level es) (sym lits) f.1))
  where
    go : (o : Option ℕ) → o ≡ Some f.0.clause → MatchOption o (IsRoot known units e ⊎ IsDecision entries e) (λ c. (c < length clauses) × Forces (literals entries) (get_or clauses c []) e.lit)
    go o is = subst (λ p. MatchOption p (IsRoot known units e ⊎ IsDecision entries e) (λ c. (c < length clauses) × Forces (literals entries) (get_or clauses c []) e.lit)) (sym is) ((f.0.known, f.0.forces))

pub forced_present : (clauses : List (List ℕ)) (trues : List ℕ) (level : ℕ) (added : List Entry) → AreForced clauses trues level added → All (λ (e : Entry). e.level ≡ level) added
forced_present clauses trues level [] f = λ k d l. absurd (omega arith)
forced_present clauses trues level (e ∷ es) f = All-cons (λ (x : Entry). x.level ≡ level) e es f.0.present (forced_present clauses (trues ++ e.lit ∷ []) level es f.1)

-- held clauses stay so on a longer trail, and beside more clauses
pub held_more : (done clauses more : List (List ℕ)) (entries added : List Entry) → AreHeld done clauses entries → AreHeld done (clauses ++ more) (entries ++ added)
held_more done clauses more entries added h k l = elim (h k l) [
  | inl w ↦ inl (record { place = w.place; within = omega (arith, w.within, length-append clauses more); same = λ lit. ap (λ cl. has cl lit) (get_or_append_left clauses more [] w.place w.within) ∙ w.same lit })
  | inr r ↦ inr (record {
    lit = r.lit;
    inside = r.inside;
    only = r.only;
    root = ap (λ es. is_true (literals es) r.lit) (up_to-append 0 entries added) ∙ ap (λ ls. is_true ls r.lit) (map-append (λ (x : Entry). x.lit) (up_to 0 entries) (up_to 0 added))
        ∙ is_true-append (literals (up_to 0 entries)) (literals (up_to 0 added)) r.lit ∙ or_left _ (is_true (literals (up_to 0 added)) r.lit) r.root;
  })
]

pub held_back : (done clauses : List (List ℕ)) (entries : List Entry) (level : ℕ) → AreHeld done clauses entries → AreHeld done clauses (up_to level entries)
held_back done clauses entries level h k l = elim (h k l) [
  | inl w ↦ inl w
  | inr r ↦ inr (record { lit = r.lit; inside = r.inside; only = r.only; root = ap (λ es. is_true (literals es) r.lit) (up_to_twice 0 level entries (omega arith)) ∙ r.root })
]

-- one clause more is held
pub held_push : (done clauses : List (List ℕ)) (entries : List Entry) (clause : List ℕ) → AreHeld done clauses entries → IsWatchedAs clauses clause ⊎ IsRootOf entries clause → AreHeld (done ++ clause ∷ []) clauses entries
held_push done clauses entries clause h new k l = elim (cases_lt k (length done)) [
  | inl old ↦ subst (λ cl. IsWatchedAs clauses cl ⊎ IsRootOf entries cl) (sym (get_or_append_left done (clause ∷ []) [] k old)) (h k old)
  | inr at ↦ subst (λ cl. IsWatchedAs clauses cl ⊎ IsRootOf entries cl) (sym (get_or_push done clause [] k (omega (arith, l, at, length_push done clause)))) new
]

-- The variable of the literal has none of these entries.
pub other_var : (entries : List Entry) (lit : ℕ) → IsOpen (literals entries) lit → (k : ℕ) (d : Entry) → k < length entries → (get_or entries k d).lit / 2 ≢ lit / 2
other_var [] lit o k d l q = omega arith
other_var (e ∷ es) lit o zero d l q = elim (same_half e.lit lit q) [
  | inl same ↦ let on : eqb e.lit lit ≡ true = grind (arith, same) in false≢true (sym (or_parts (eqb e.lit lit) (is_true (literals es) lit) o.0).0 ∙ on)
  | inr other ↦ let on : eqb e.lit (negated lit) ≡ true = grind (arith, other) in false≢true (sym (or_parts (eqb e.lit (negated lit)) (is_true (literals es) (negated lit)) o.1).0 ∙ on)
]
other_var (e ∷ es) lit o (suc k) d l q = other_var es lit ((or_parts (eqb e.lit lit) (is_true (literals es) lit) o.0).1, (or_parts (eqb e.lit (negated lit)) (is_true (literals es) (negated lit)) o.1).1) k d (omega arith) q

-- the level of one entry more is noted
pub leveled_push : (table : List ℕ) (entries : List Entry) (e : Entry) → AreLeveled table entries → IsOpen (literals entries) e.lit → e.lit / 2 < length table → AreLeveled (set table (e.lit / 2) e.level) (entries ++ e ∷ [])
leveled_push table entries e a o l k d lt = elim (cases_lt k (length entries)) [
  | inl old ↦
      let at : get_or (entries ++ e ∷ []) k d ≡ get_or entries k d = get_or_append_left entries (e ∷ []) d k old in
      subst (λ (x : Entry). get_or (set table (e.lit / 2) e.level) (x.lit / 2) 0 ≡ x.level) (sym at)
      (get_or-set_other table (e.lit / 2) ((get_or entries k d).lit / 2) e.level 0 (other_var entries e.lit o k d old) ∙ a k d old)
  | inr new ↦
      let at : get_or (entries ++ e ∷ []) k d ≡ e = get_or_push entries e d k (omega (arith, lt, new, length_push entries e)) in
      subst (λ (x : Entry). get_or (set table (e.lit / 2) e.level) (x.lit / 2) 0 ≡ x.level) (sym at) (get_or-set_same table (e.lit / 2) e.level 0 l)
]

pub backed_units : (known clauses : List (List ℕ)) (units : List ℕ) (entries : List Entry) (lit number : ℕ) → IsOpen (literals entries) lit → AreBacked known clauses units entries → AreBacked known clauses (set units (lit / 2) number) entries
backed_units known clauses units entries lit number o b i d lt = backed_unit known clauses units (take i entries) (get_or entries i d) (lit / 2) number (other_var entries lit o i d lt) (b i d lt)

-- a variable has a value exactly where one of its literals is true
pub value_push : (trues : List ℕ) (lit var : ℕ) → has_value (trues ++ lit ∷ []) var ≡ (has_value trues var || eqb (lit / 2) var)
value_push trues lit var =
    rw (is_true-append trues (lit ∷ []) (2 * var), is_true-append trues (lit ∷ []) (2 * var + 1))
    (mixed (is_true trues (2 * var)) (is_true trues (2 * var + 1)) (eqb lit (2 * var)) (eqb lit (2 * var + 1)) (eqb (lit / 2) var) (either lit var))
  where
    either : (x v : ℕ) → (eqb x (2 * v) || eqb x (2 * v + 1)) ≡ eqb (x / 2) v
    either x v = elim (tested (eqb (x / 2) v)) [
      | inl same ↦
          let e : x / 2 ≡ v = equal (x / 2) v same in
          elim (cases_lt x (2 * v + 1)) [
            | inl low ↦ let on : eqb x (2 * v) ≡ true = let q : x ≡ 2 * v = omega (arith, e, low) in grind (arith, q) in rw on (sym same)
            | inr high ↦
                let on : eqb x (2 * v + 1) ≡ true = let q : x ≡ 2 * v + 1 = omega (arith, e, high) in grind (arith, q) in
                or_right (eqb x (2 * v)) _ on ∙ sym same
          ]
      | inr other ↦
          let one : eqb x (2 * v) ≡ false = false_from_ne_true (eqb x (2 * v)) (λ h. let q : x ≡ 2 * v = equal x (2 * v) h in unequal (x / 2) v other (omega (arith, q))) in
          let two : eqb x (2 * v + 1) ≡ false = false_from_ne_true (eqb x (2 * v + 1)) (λ h. let q : x ≡ 2 * v + 1 = equal x (2 * v + 1) h in unequal (x / 2) v other (omega (arith, q))) in
          rw (one, two) (sym other)
    ]

    mixed : (a b p q r : Bool) → (p || q) ≡ r → ((a || (p || false)) || (b || (q || false))) ≡ ((a || b) || r)
    mixed true b p q r h = refl
    mixed false true true q r h = refl
    mixed false true false q r h = refl
    mixed false false true q r h = h
    mixed false false false true r h = h
    mixed false false false false r h = h

pub set_push : (table : List Bool) (trues : List ℕ) (lit : ℕ) → AreSet table trues → 0 < lit / 2 → lit / 2 - 1 < length table → AreSet (set table (lit / 2 - 1) true) (trues ++ lit ∷ [])
set_push table trues lit a from_one l var z = elim (tested (eqb (lit / 2) var)) [
  | inl same ↦
      let e : lit / 2 ≡ var = equal (lit / 2) var same in
      ap (λ k. get_or (set table (lit / 2 - 1) true) (k - 1) false) (sym e) ∙ get_or-set_same table (lit / 2 - 1) true false l
      ∙ sym (value_push trues lit var ∙ or_right (has_value trues var) _ same)
  | inr other ↦
      let d : var - 1 ≢ lit / 2 - 1 = λ q. unequal (lit / 2) var other (omega (arith, q, z, from_one)) in
      get_or-set_other table (lit / 2 - 1) (var - 1) true false d ∙ a var z ∙ sym (value_push trues lit var ∙ (rw other (flat (has_value trues var))))
]
  where
    flat : (b : Bool) → (b || false) ≡ b
    flat true = refl
    flat false = refl

-- the last entry loses its value
pub set_pop : (table : List Bool) (trues : List ℕ) (lit : ℕ) → AreSet table (trues ++ lit ∷ []) → has_value trues (lit / 2) ≡ false → 0 < lit / 2 → lit / 2 - 1 < length table → AreSet (set table (lit / 2 - 1) false) trues
set_pop table trues lit a none from_one l var z = elim (tested (eqb (lit / 2) var)) [
  | inl same ↦
      let e : lit / 2 ≡ var = equal (lit / 2) var same in
      ap (λ k. get_or (set table (lit / 2 - 1) false) (k - 1) false) (sym e) ∙ get_or-set_same table (lit / 2 - 1) false false l ∙ sym (ap (has_value trues) (sym e) ∙ none)
  | inr other ↦
      let d : var - 1 ≢ lit / 2 - 1 = λ q. unequal (lit / 2) var other (omega (arith, q, z, from_one)) in
      get_or-set_other table (lit / 2 - 1) (var - 1) false false d ∙ a var z ∙ value_push trues lit var ∙ (rw other (flat (has_value trues var)))
]
  where
    flat : (b : Bool) → (b || false) ≡ b
    flat true = refl
    flat false = refl

-- a variable with no value has no literal that is
pub no_value : (trues : List ℕ) (lit : ℕ) → IsOpen trues lit → has_value trues (lit / 2) ≡ false
no_value trues lit o = elim (halves lit) [
  | inl even ↦
      let one : lit ≡ 2 * (lit / 2) = omega (arith, even.0) in
      let two : negated lit ≡ 2 * (lit / 2) + 1 = even.1 ∙ omega (arith, even.0) in
      rw (ap (is_true trues) (sym one) ∙ o.0) (ap (is_true trues) (sym two) ∙ o.1)
  | inr odd ↦
      let one : lit ≡ 2 * (lit / 2) + 1 = omega (arith, odd.0) in
      let two : negated lit ≡ 2 * (lit / 2) = odd.1 ∙ omega (arith, odd.0) in
      rw (ap (is_true trues) (sym two) ∙ o.1) (ap (is_true trues) (sym one) ∙ o.0)
]

-- and one with no value is open with either sign
pub open_free : (trues : List ℕ) (var : ℕ) → has_value trues var ≡ false → IsOpen trues (2 * var) × IsOpen trues (2 * var + 1)
open_free trues var h =
    let parts = or_parts (is_true trues (2 * var)) (is_true trues (2 * var + 1)) h in
    let up : negated (2 * var) ≡ 2 * var + 1 = elim (halves (2 * var)) [ inl e ↦ e.1 | inr o ↦ absurd (omega (arith, o.0)) ] in
    let down : negated (2 * var + 1) ≡ 2 * var = elim (halves (2 * var + 1)) [ inl e ↦ absurd (omega (arith, e.0)) | inr o ↦ o.1 ∙ omega arith ] in
    ((parts.0, ap (is_true trues) up ∙ parts.1), (parts.1, ap (is_true trues) down ∙ parts.0))
