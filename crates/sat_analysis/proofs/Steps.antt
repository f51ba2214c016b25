-- Steps of the walk back over the trail.
use Rattle.std.proofs.Common.{◌≡◌, ℕ, zero, suc, ◌+◌, ◌-◌, ◌/◌, ◌<◌, ◌≤◌, Bool, true, false, cond, eqb, ◌||◌, ◌&&◌, Some, None, List, [], ◌∷◌, ◌++◌, length, take, drop, reverse, get_or, refl, sym, ap, ◌∙◌, subst, inl, inr, ◌⊎◌, arith, All, length-append}
use Rattle.std.specs.Prelude.{filter}
use Rattle.std.proofs.lemmas.List.{append-nil, take_all, take_more, map-append, reverse-append, take-append-drop, length-map, length-take, get_or-map, get_or_read}
use Rattle.std.proofs.lemmas.List.Sums.{count_by-le-length, length-filter}
use Rattle.std.proofs.lemmas.Option.{MatchOption-at_some, MatchOption-at_none}
use Rattle.std.proofs.lemmas.List.Elements.{filter-append, All-take}
use Rattle.std.proofs.lemmas.Bool.{or_left, or_right, or_cases}
use Rattle.cnf_core.specs.Literal.{negated}
use Rattle.sat_watch.specs.declared.trail.Entry.{Entry}
use Rattle.cnf_core.specs.Trues.{is_true}
use Rattle.sat_watch.specs.Literals.{has, IsOpen, AreApart, EachOnce}
use Rattle.cnf_core.specs.Literal.{IsOver}
use Rattle.sat_watch.specs.Trail.{TrailState, literals, levels, Rises, IsSound}
use Rattle.sat_watch.specs.Watching.{WatchState}
use Rattle.sat_analysis.specs.declared.notes.Notes.{Notes}
use Rattle.sat_analysis.specs.Noted.{IsNoted}
use Rattle.sat_watch.specs.Propagation.{IsFalse, Forces}
use Rattle.sat_watch.proofs.LiteralLemmas.{tested, equal, is_true-append, apart-front, negated-negated}
use Rattle.sat_watch.proofs.TrailLemmas.{rises-front, rises_up}
use Rattle.sat_watch.proofs.ThreadLemmas.{has-append}
use Rattle.sat_analysis.specs.Reasons.{IsNumberOf, IsRoot, IsDecision, IsBacked, Derives}
use Rattle.sat_analysis.specs.Walk.{Adds, marked_at, AreLeveled, IsAt}
use Rattle.sat_analysis.proofs.Count.{marked_more, marked_late, marked_low}
use Rattle.sat_analysis.proofs.Derives.{derives_first, derives_step, derives_skip}

-- The entries up to one, and their literals.
pub record IsUpTo (entries : List Entry) (place : ℕ) (e : Entry) : Type 0 where
  pub front : take (place + 1) entries ≡ take place entries ++ e ∷ []
  pub lits : literals (take (place + 1) entries) ≡ literals (take place entries) ++ e.lit ∷ []

pub up_to_place : (entries : List Entry) (place : ℕ) (e : Entry) → place < length entries → e ≡ get_or entries place e → IsUpTo entries place e
up_to_place entries place e l is =
    let f : take (place + 1) entries ≡ take place entries ++ e ∷ [] = take_more entries place e l ∙ ap (λ x. take place entries ++ x ∷ []) (sym is) in
    record { front = f; lits = ap literals f ∙ map-append (λ (x : Entry). x.lit) (take place entries) (e ∷ []) }

-- what the front makes true, all do
pub front_true : (entries : List Entry) (place lit : ℕ) → is_true (literals (take place entries)) lit ≡ true → is_true (literals entries) lit ≡ true
front_true entries place lit h =
    let whole : literals (take place entries) ++ literals (drop place entries) ≡ literals entries =
    sym (map-append (λ (x : Entry). x.lit) (take place entries) (drop place entries)) ∙ ap literals (take-append-drop place entries) in
    subst (λ ls. is_true ls lit ≡ true) whole (is_true-append (literals (take place entries)) (literals (drop place entries)) lit ∙ or_left _ (is_true (literals (drop place entries)) lit) h)

pub front_apart : (entries : List Entry) (place : ℕ) → AreApart (literals entries) → AreApart (literals (take place entries))
front_apart entries place a =
    let whole : literals entries ≡ literals (take place entries) ++ literals (drop place entries) =
    ap literals (sym (take-append-drop place entries)) ∙ map-append (λ (x : Entry). x.lit) (take place entries) (drop place entries) in
    apart-front (literals (take place entries)) (literals (drop place entries)) (subst AreApart whole a)

pub marked_nil : (entries : List Entry) (level : ℕ) → marked_at [] level entries ≡ 0
marked_nil [] level = refl
marked_nil (e ∷ es) level = none (eqb e.level level) e (filter (λ (x : Entry). eqb x.level level && has [] (negated x.lit)) es) (marked_nil es level)
  where
    none : (b : Bool) (e : Entry) (xs : List Entry) → length xs ≡ 0 → length (cond (b && false) (e ∷ xs) xs) ≡ 0
    none true e xs h = h
    none false e xs h = h

pub marked_split : (marks : List ℕ) (level : ℕ) (xs : List Entry) (e : Entry) → marked_at marks level (xs ++ e ∷ []) ≡ marked_at marks level xs + cond (eqb e.level level && has marks (negated e.lit)) 1 0
marked_split marks level xs e =
    ap length (filter-append (λ (x : Entry). eqb x.level level && has marks (negated x.lit)) xs (e ∷ []))
    ∙ length-append (filter (λ (x : Entry). eqb x.level level && has marks (negated x.lit)) xs) (filter (λ (x : Entry). eqb x.level level && has marks (negated x.lit)) (e ∷ []))
    ∙ one (eqb e.level level && has marks (negated e.lit)) (marked_at marks level xs)
  where
    one : (b : Bool) (n : ℕ) → n + length (cond b (e ∷ []) []) ≡ n + cond b 1 0
    one true n = refl
    one false n = refl

-- at the conflict
pub at_first : (known : List (List ℕ)) (entries : List Entry) (table clause marks : List ℕ) (number level count : ℕ) → IsNumberOf known clause number → IsFalse (literals entries) clause
    → AreApart (literals entries) → AreLeveled table entries → EachOnce marks → Adds table clause None level [] marks count → IsAt known entries marks (number ∷ []) level count (length entries)
at_first known entries table clause marks number level count n f a l o adds =
    let all : take (length entries) entries ≡ entries = take_all (length entries) entries (omega arith) in
    let on : (lit : ℕ) → has adds.more lit ≡ true → is_true (literals entries) (negated lit) ≡ true = λ lit h. f lit (adds.from lit h).0 in
    let on' : (lit : ℕ) → has marks lit ≡ true → is_true (literals entries) (negated lit) ≡ true = λ lit h. on lit (subst (λ ms. has ms lit ≡ true) adds.is h) in
    record {
      within = omega arith;
      are_false = on';
      counted = adds.counted ∙ (let e : length (filter (λ lit. eqb (get_or table (lit / 2) 0) level) adds.more) ≡ marked_at [] level entries + length (filter (λ lit. eqb (get_or table (lit / 2) 0) level) adds.more) = omega (arith, marked_nil entries level) in e)
          ∙ sym (marked_more entries table [] adds.more level a l (subst EachOnce adds.is o) on) ∙ ap (λ ms. marked_at ms level entries) (sym adds.is) ∙ ap (marked_at marks level) (sym all);
      derives = subst (λ es. Derives known marks (number ∷ []) (literals es)) (sym all) (derives_first known clause number marks (literals entries) n (λ lit h. adds.all lit h refl) f);
    }

-- past an entry that is not marked
pub at_skip : (known : List (List ℕ)) (entries : List Entry) (marks hints : List ℕ) (level count place : ℕ) (e : Entry) → place < length entries → e ≡ get_or entries place e
    → has marks (negated e.lit) ≡ false → IsAt known entries marks hints level count (place + 1) → IsAt known entries marks hints level count place
at_skip known entries marks hints level count place e l is n at =
    let u : IsUpTo entries place e = up_to_place entries place e l is in
    record {
      within = omega arith;
      are_false = at.are_false;
      counted = at.counted ∙ ap (marked_at marks level) u.front ∙ marked_split marks level (take place entries) e ∙ (let z : marked_at marks level (take place entries) + cond (eqb e.level level && has marks (negated e.lit)) 1 0 ≡ marked_at marks level (take place entries) = rw n (off (eqb e.level level) (marked_at marks level (take place entries))) in z);
      derives = derives_skip known e.lit (reverse hints) marks (literals (take place entries)) n (subst (λ ls. Derives known marks (reverse hints) ls) u.lits at.derives);
    }
  where
    off : (b : Bool) (m : ℕ) → m + cond (b && false) 1 0 ≡ m
    off true m = omega arith
    off false m = omega arith

-- past an entry that its reason forces
pub at_reason : (known : List (List ℕ)) (entries : List Entry) (table clause marks marks' hints : List ℕ) (number level count n place : ℕ) (e : Entry) → place < length entries → e ≡ get_or entries place e
    → has marks (negated e.lit) ≡ true → e.level ≡ level → IsNumberOf known clause number → Forces (literals (take place entries)) clause e.lit
    → AreApart (literals entries) → AreLeveled table entries → EachOnce marks' → Adds table clause (Some e.lit) level marks marks' n
    → IsAt known entries marks hints level count (place + 1) → IsAt known entries marks' (hints ++ number ∷ []) level (count - 1 + n) place
at_reason known entries table clause marks marks' hints number level count n place e l is m same num f a lev o adds at =
    let u : IsUpTo entries place e = up_to_place entries place e l is in
    let on : (lit : ℕ) → has adds.more lit ≡ true → is_true (literals (take place entries)) (negated lit) ≡ true =
    λ lit h. f.others lit (adds.from lit h).0 (λ q. let named : eqb e.lit lit ≡ true = grind (arith, q) in let both : true ≡ false = sym named ∙ (adds.from lit h).1 in cc) in
    let one : count ≡ marked_at marks level (take place entries) + 1 =
    at.counted ∙ ap (marked_at marks level) u.front ∙ marked_split marks level (take place entries) e ∙ (let here : eqb e.level level ≡ true = grind (arith, same) in rw (here, m) refl) in
    let more : marked_at (marks ++ adds.more) level (take place entries) ≡ marked_at marks level (take place entries) + length (filter (λ lit. eqb (get_or table (lit / 2) 0) level) adds.more) =
    marked_more (take place entries) table marks adds.more level (front_apart entries place a) (All-take (λ (x : Entry). get_or table (x.lit / 2) 0 ≡ x.level) place entries lev) (subst EachOnce adds.is o) on in
    record {
      within = omega arith;
      are_false = λ lit h. elim (or_cases (has marks lit) (has adds.more lit) (sym (split lit) ∙ h)) [
        | inl old ↦ at.are_false lit old
        | inr new ↦ front_true entries place (negated lit) (on lit new)
      ];
      counted = sym (ap (λ ms. marked_at ms level (take place entries)) adds.is ∙ more ∙ (let e' : marked_at marks level (take place entries) + length (filter (λ lit. eqb (get_or table (lit / 2) 0) level) adds.more) ≡ count - 1 + n = omega (arith, one, adds.counted) in e'));
      derives = subst (λ hs. Derives known marks' hs (literals (take place entries))) (sym (reverse-append hints (number ∷ [])))
          (derives_step known clause number e.lit (reverse hints) marks marks' (literals (take place entries)) num f
          (λ x h. split x ∙ or_left (has marks x) (has adds.more x) h)
          (λ x h d. adds.all x h (let away : eqb e.lit x ≡ false = grind (arith, d) in away))
          (subst (λ ls. Derives known marks (reverse hints) ls) u.lits at.derives));
    }
  where
    split : (x : ℕ) → has marks' x ≡ (has marks x || has adds.more x)
    split x = ap (λ ms. has ms x) adds.is ∙ has-append marks adds.more x

-- the last of literals that are apart has no value by the others
pub open_last : (lits : List ℕ) (lit : ℕ) → AreApart (lits ++ lit ∷ []) → IsOpen lits lit
open_last [] lit a = (refl, refl)
open_last (y ∷ ys) lit a =
    let rest : IsOpen ys lit = open_last ys lit a.1 in
    let first : eqb y lit ≡ false = elim (tested (eqb y lit)) [
      | inl q ↦ absurd (let e : y ≡ lit = equal y lit q in let on : is_true (ys ++ lit ∷ []) y ≡ true = is_true-append ys (lit ∷ []) y ∙ or_right (is_true ys y) _ (grind (arith, e)) in let both : true ≡ false = sym on ∙ a.0.0 in cc)
      | inr q ↦ q
    ] in
    let second : eqb y (negated lit) ≡ false = elim (tested (eqb y (negated lit))) [
      | inl q ↦ absurd (let e : negated y ≡ lit = ap negated (equal y (negated lit) q) ∙ negated-negated lit in let on : is_true (ys ++ lit ∷ []) (negated y) ≡ true = is_true-append ys (lit ∷ []) (negated y) ∙ or_right (is_true ys (negated y)) _ (grind (arith, e)) in let both : true ≡ false = sym on ∙ a.0.1 in cc)
      | inr q ↦ q
    ] in
    (rw first rest.0, rw second rest.1)

-- past an entry whose literal is a clause by itself
pub at_root : (known : List (List ℕ)) (entries : List Entry) (table units marks hints : List ℕ) (level count place : ℕ) (e : Entry) → place < length entries → e ≡ get_or entries place e
    → has marks (negated e.lit) ≡ true → e.level ≡ level → IsRoot known units e
    → AreApart (literals entries) → AreLeveled table entries → EachOnce marks
    → IsAt known entries marks hints level count (place + 1) → IsAt known entries marks (hints ++ get_or units (e.lit / 2) 0 ∷ []) level (count - 1) place
at_root known entries table units marks hints level count place e l is m same r a lev o at =
    let u : IsUpTo entries place e = up_to_place entries place e l is in
    let apart : AreApart (literals (take place entries) ++ e.lit ∷ []) = subst AreApart u.lits (front_apart entries (place + 1) a) in
    let zero_more : count - 1 + 0 ≡ count - 1 = omega arith in
    subst (λ k. IsAt known entries marks (hints ++ get_or units (e.lit / 2) 0 ∷ []) level k place) zero_more
    (at_reason known entries table (e.lit ∷ []) marks marks hints (get_or units (e.lit / 2) 0) level count 0 place e l is m same r.number
    (record {
      inside = grind arith;
      unset = open_last (literals (take place entries)) e.lit apart;
      others = λ other h d. absurd (d (sym (equal e.lit other (grind (arith, h)))));
    }) a lev o
    (record { more = []; is = sym (append-nil marks); from = λ lit h. absurd (let both : false ≡ true = h in cc); all = λ lit h n. absurd (let both : true ≡ false = sym (let q : eqb e.lit lit ≡ true = grind (arith, h) in q) ∙ n in cc); counted = refl }) at)

-- where some entry up to one is of the present level, this one is
pub level_here : (entries : List Entry) (marks : List ℕ) (level place : ℕ) (e : Entry) → place < length entries → e ≡ get_or entries place e → Rises 0 (levels entries) level
    → 0 < marked_at marks level (take (place + 1) entries) → e.level ≡ level
level_here entries marks level place e l is r c =
    let u : IsUpTo entries place e = up_to_place entries place e l is in
    let whole : levels (take (place + 1) entries) ++ levels (drop (place + 1) entries) ≡ levels entries =
    sym (map-append (λ x. x.level) (take (place + 1) entries) (drop (place + 1) entries)) ∙ ap levels (take-append-drop (place + 1) entries) in
    let p = rises-front 0 level (levels (take (place + 1) entries)) (levels (drop (place + 1) entries)) (subst (λ ls. Rises 0 ls level) (sym whole) r) in
    let last : levels (take (place + 1) entries) ≡ levels (take place entries) ++ e.level ∷ [] = ap levels u.front ∙ map-append (λ x. x.level) (take place entries) (e ∷ []) in
    let q = rises-front 0 p.0 (levels (take place entries)) (e.level ∷ []) (subst (λ ls. Rises 0 ls p.0) last p.1) in
    let ends : e.level ≡ p.0 = q.2.2 in
    omega (arith, marked_late (take (place + 1) entries) marks level 0 p.0 p.1 c, rises_up p.0 level (levels (drop (place + 1) entries)) p.2)

-- where more of the level are marked, this one did not open it
pub no_decision : (known : List (List ℕ)) (entries : List Entry) (marks hints : List ℕ) (level count place : ℕ) (e : Entry) → place < length entries → e ≡ get_or entries place e
    → has marks (negated e.lit) ≡ true → e.level ≡ level → (level ≡ 0) ⊎ (1 < count) → IsAt known entries marks hints level count (place + 1) → IsDecision (take place entries) e → ⊥
no_decision known entries marks hints level count place e l is m same either at d = elim either [
  | inl zero_level ↦ let above : 0 < e.level = d.above in omega arith
  | inr many ↦
      let u : IsUpTo entries place e = up_to_place entries place e l is in
      let none : marked_at marks level (take place entries) ≡ 0 = marked_low (take place entries) marks level (subst (λ k. All (λ (x : Entry). x.level < k) (take place entries)) same d.opens) in
      let one : count ≡ marked_at marks level (take place entries) + 1 =
      at.counted ∙ ap (marked_at marks level) u.front ∙ marked_split marks level (take place entries) e ∙ (let here : eqb e.level level ≡ true = grind (arith, same) in rw (here, m) refl) in
      omega arith
]

pub entry_is : (xs ys : List Entry) (place : ℕ) (e : Entry) → xs ≡ ys → e ≡ get_or xs place e → e ≡ get_or ys place e
entry_is xs ys place e same is = is ∙ ap (λ zs. get_or zs place e) same

-- the literal of an entry is over the variables
pub entry_over : (t : TrailState) (place : ℕ) (e : Entry) → IsSound t → place < length t.entries → e ≡ get_or t.entries place e → IsOver t.vars e.lit
entry_over t place e s l is =
    let at : get_or (literals t.entries) place 0 ≡ e.lit = get_or-map (λ (x : Entry). x.lit) t.entries place e 0 l ∙ ap (λ (x : Entry). x.lit) (sym is) in
    subst (IsOver t.vars) at (s.over place 0 (rw length-map l))

pub backed_at : (known : List (List ℕ)) (w : WatchState) (t : TrailState) (notes : Notes) (place : ℕ) (e : Entry) → IsNoted known w t notes → place < length t.entries → e ≡ get_or t.entries place e
    → IsBacked known w.clauses notes.units.items (take place t.entries) e
backed_at known w t notes place e n l is = subst (IsBacked known w.clauses notes.units.items (take place t.entries)) (sym is) (n.backed place e l)

-- one step back over an entry with a reason, and over one whose literal is a clause by itself
pub stepped_some : (known : List (List ℕ)) (w : WatchState) (t : TrailState) (notes : Notes) (marks marks' hints : List ℕ) (pending n place clause number : ℕ) (e : Entry) → IsNoted known w t notes → IsSound t
    → place < length t.entries → e ≡ get_or t.entries place e → has marks (negated e.lit) ≡ true → 0 < pending → e.reason ≡ Some clause → EachOnce marks' → number ≡ get_or notes.numbers.items clause number
    → Adds notes.levels.items (get_or w.clauses clause []) (Some e.lit) t.level marks marks' n
    → IsAt known t.entries marks hints t.level pending (place + 1) → IsAt known t.entries marks' (hints ++ number ∷ []) t.level (pending - 1 + n) place
stepped_some known w t notes marks marks' hints pending n place clause number e noted s l is m some why once num adds at =
    let back : (clause < length w.clauses) × Forces (literals (take place t.entries)) (get_or w.clauses clause []) e.lit =
    MatchOption-at_some (IsRoot known notes.units.items e ⊎ IsDecision (take place t.entries) e) (λ c. (c < length w.clauses) × Forces (literals (take place t.entries)) (get_or w.clauses c []) e.lit) clause why
    (backed_at known w t notes place e noted l is) in
    let here : e.level ≡ t.level = level_here t.entries marks t.level place e l is s.rises (omega (arith, at.counted)) in
    let num_is : get_or notes.numbers.items clause 0 ≡ number = sym (get_or_read notes.numbers.items clause number (omega (arith, noted.numbers, back.0)) num 0) in
    at_reason known t.entries notes.levels.items (get_or w.clauses clause []) marks marks' hints number t.level pending n place e l is m here
    (subst (IsNumberOf known (get_or w.clauses clause [])) num_is (noted.numbered clause back.0)) back.1 s.apart noted.leveled once adds at

pub stepped_none : (known : List (List ℕ)) (w : WatchState) (t : TrailState) (notes : Notes) (marks hints : List ℕ) (pending place var number : ℕ) (e : Entry) → IsNoted known w t notes → IsSound t
    → place < length t.entries → e ≡ get_or t.entries place e → has marks (negated e.lit) ≡ true → 0 < pending → (t.level ≡ 0) ⊎ (1 < pending) → e.reason ≡ None → EachOnce marks → var ≡ e.lit / 2 → number ≡ get_or notes.units.items var number
    → IsAt known t.entries marks hints t.level pending (place + 1) → IsAt known t.entries marks (hints ++ number ∷ []) t.level (pending - 1) place
stepped_none known w t notes marks hints pending place var number e noted s l is m some more why once v num at =
    let back : IsRoot known notes.units.items e ⊎ IsDecision (take place t.entries) e =
    MatchOption-at_none (IsRoot known notes.units.items e ⊎ IsDecision (take place t.entries) e) (λ c. (c < length w.clauses) × Forces (literals (take place t.entries)) (get_or w.clauses c []) e.lit) why
    (backed_at known w t notes place e noted l is) in
    let here : e.level ≡ t.level = level_here t.entries marks t.level place e l is s.rises (omega (arith, at.counted)) in
    let over : IsOver t.vars e.lit = entry_over t place e s l is in
    let unit_is : get_or notes.units.items (e.lit / 2) 0 ≡ number =
    ap (λ k. get_or notes.units.items k 0) (sym v) ∙ sym (get_or_read notes.units.items var number (omega (arith, noted.units, over, v)) num 0) in
    elim back [
      | inl root ↦ subst (λ u. IsAt known t.entries marks (hints ++ u ∷ []) t.level (pending - 1) place) unit_is (at_root known t.entries notes.levels.items notes.units.items marks hints t.level pending place e l is m here root s.apart noted.leveled once at)
      | inr decision ↦ absurd (no_decision known t.entries marks hints t.level pending place e l is m here more at decision)
    ]

-- no more are marked than there are entries
pub pending_few : (known : List (List ℕ)) (entries : List Entry) (marks hints : List ℕ) (level pending place : ℕ) → IsAt known entries marks hints level pending place → pending ≤ place
pending_few known entries marks hints level pending place at =
    omega (arith, at.counted, count_by-le-length (λ (x : Entry). eqb x.level level && has marks (negated x.lit)) (take place entries), length-filter (λ (x : Entry). eqb x.level level && has marks (negated x.lit)) (take place entries), length-take place entries)

-- an entry that is not marked does not count
pub marked_skip : (entries : List Entry) (marks : List ℕ) (level place : ℕ) (e : Entry) → place < length entries → e ≡ get_or entries place e → has marks (negated e.lit) ≡ false
    → marked_at marks level (take (place + 1) entries) ≡ marked_at marks level (take place entries)
marked_skip entries marks level place e l is n =
    let u : IsUpTo entries place e = up_to_place entries place e l is in
    ap (marked_at marks level) u.front ∙ marked_split marks level (take place entries) e
    ∙ (let z : marked_at marks level (take place entries) + cond (eqb e.level level && has marks (negated e.lit)) 1 0 ≡ marked_at marks level (take place entries) = rw n (off (eqb e.level level) (marked_at marks level (take place entries))) in z)
  where
    off : (b : Bool) (m : ℕ) → m + cond (b && false) 1 0 ≡ m
    off true m = omega arith
    off false m = omega arith

-- where one is marked, there is an entry
pub some_left : (entries : List Entry) (marks : List ℕ) (level left : ℕ) → 1 ≡ marked_at marks level (take left entries) → 0 < left
some_left entries marks level zero h = absurd (omega arith)
some_left entries marks level (suc left) h = omega arith
