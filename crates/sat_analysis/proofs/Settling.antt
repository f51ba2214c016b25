-- What the literals that are kept imply.
use Rattle.std.proofs.Common.{◌≡◌, ◌≢◌, ℕ, ◌/◌, ◌<◌, true, false, cond, ◌||◌, Bool, Some, None, ◌⊎◌, List, [], ◌∷◌, ◌++◌, length, map, take, get_or, refl, sym, ap, ◌∙◌, subst, inl, inr, arith}
use Rattle.std.proofs.lemmas.Bool.{or_left, or_right, or_cases, false_from_ne_true}
use Rattle.std.proofs.lemmas.List.{append-nil, append_assoc, map-append}
use Rattle.std.proofs.lemmas.List.{get_or_read}
use Rattle.std.proofs.lemmas.Option.{MatchOption-at_some, MatchOption-at_none}
use Rattle.cnf_core.specs.Literal.{negated, IsOver}
use Rattle.derivation.specs.Propagation.{ends, hinted}
use Rattle.sat_watch.specs.declared.trail.Entry.{Entry}
use Rattle.sat_watch.specs.Trail.{TrailState, literals, IsSound}
use Rattle.sat_watch.specs.Watching.{WatchState}
use Rattle.cnf_core.specs.Trues.{is_true}
use Rattle.sat_watch.specs.Literals.{has, AreApart}
use Rattle.sat_watch.specs.Propagation.{IsFalse, Forces as ForcesLit}
use Rattle.sat_watch.proofs.LiteralLemmas.{tested, equal, negated-negated, negated-half, over_negated, is_true-append}
use Rattle.sat_watch.proofs.WatchLemmas.{over_has}
use Rattle.sat_watch.proofs.ThreadLemmas.{has-append}
use Rattle.sat_watch.proofs.VisitLemmas.{apart_both}
use Rattle.sat_analysis.specs.declared.minimise.Minimiser.{Minimiser}
use Rattle.sat_analysis.specs.declared.notes.Notes.{Notes}
use Rattle.sat_analysis.specs.Learnt.{level_of}
use Rattle.sat_analysis.specs.Noted.{IsNoted}
use Rattle.sat_analysis.specs.Reasons.{IsNumberOf, IsRoot, IsDecision}
use Rattle.sat_analysis.specs.Settled.{covers, Covers, HasRoom, Implies, ImpliesBy, IsSettled, IsSupported, IsCoveredReason, IsEntryOf}
use Rattle.sat_analysis.proofs.Bridge.{effect_forces}
use Rattle.sat_analysis.proofs.Derives.{ends_after}
use Rattle.sat_analysis.proofs.Lits.{negated_has}
use Rattle.sat_analysis.proofs.Steps.{front_true, entry_over, backed_at}

-- nothing is settled yet
pub implies_none : (known : List (List ℕ)) (trues : List ℕ) → ImpliesBy known trues [] [] []
implies_none known trues part left w f n e = subst (λ s. ends known left s ≡ true) (append-nil part) e

-- with more kept literals the same follows
pub implies_kept : (known : List (List ℕ)) (trues kept implied hints : List ℕ) (lit : ℕ) → ImpliesBy known trues kept implied hints → ImpliesBy known trues (kept ++ lit ∷ []) implied hints
implies_kept known trues kept implied hints lit by part left w f n e =
    by part left w (λ x h. f x (has-append kept (lit ∷ []) x ∙ or_left (has kept x) _ h)) n e

-- A clause whose other literals are settled, and a literal of it.
pub record IsRest (known : List (List ℕ)) (kept implied : List ℕ) (lit number : ℕ) : Type 0 where
  pub clause : List ℕ
  pub number_of : IsNumberOf known clause number
  pub inside : has clause (negated lit) ≡ true
  pub others : (other : ℕ) → has clause other ≡ true → other ≢ negated lit → covers kept implied other ≡ true

-- one more implied literal
pub implies_one : (known : List (List ℕ)) (trues kept implied hints : List ℕ) (lit number : ℕ) → AreApart trues → IsFalse trues implied → is_true trues (negated lit) ≡ true → has implied lit ≡ false
    → IsRest known kept implied lit number → ImpliesBy known trues kept implied hints → ImpliesBy known trues kept (implied ++ lit ∷ []) (hints ++ number ∷ [])
implies_one known trues kept implied hints lit number apart off made new rest by part left w f n e =
    let state : List ℕ = part ++ map negated implied in
    let told : (x : ℕ) → is_true state x ≡ (is_true part x || has implied (negated x)) = λ x. is_true-append part (map negated implied) x ∙ ap (λ b. is_true part x || b) (negated_has implied x) in
    let lit_part : is_true part (negated lit) ≡ false = n lit (has-append implied (lit ∷ []) lit ∙ or_right (has implied lit) _ (grind arith)) in
    let unset_part : is_true part (negated (negated lit)) ≡ false = false_from_ne_true (is_true part (negated (negated lit))) (λ on. absurd (apart_both trues (negated lit) apart made (w (negated (negated lit)) on))) in
    let unset_implied : has implied (negated (negated (negated lit))) ≡ false = false_from_ne_true (has implied (negated (negated (negated lit)))) (λ on.
    let back : is_true trues (negated (negated (negated (negated lit)))) ≡ true = off (negated (negated (negated lit))) on in
    absurd (apart_both trues (negated lit) apart made (subst (λ x. is_true trues (negated x) ≡ true) (negated-negated (negated lit)) back))) in
    let forces : ForcesLit state (hinted known number) (negated lit) = record {
      inside = rest.number_of.same (negated lit) ∙ rest.inside;
      unset = (
        told (negated lit) ∙ (let z : has implied (negated (negated lit)) ≡ false = ap (has implied) (negated-negated lit) ∙ new in rw (lit_part, z) refl),
        told (negated (negated lit)) ∙ rw (unset_part, unset_implied) refl,
      );
      others = λ other h away. told (negated other) ∙ elim (or_cases (has kept other) (has implied other) (rest.others other (sym (rest.number_of.same other) ∙ h) away)) [
        | inl held ↦ or_left (is_true part (negated other)) _ (f other held)
        | inr held ↦ or_right (is_true part (negated other)) _ (ap (has implied) (negated-negated other) ∙ held)
      ];
    } in
    let after_ : ends known left (state ++ negated lit ∷ []) ≡ true =
    subst (λ s. ends known left s ≡ true) (ap (λ l. part ++ l) (map-append negated implied (lit ∷ [])) ∙ sym (append_assoc part (map negated implied) (negated lit ∷ []))) e in
    let goes : ends known (number ∷ left) state ≡ true = ends_after known number (negated lit) left state rest.number_of.hint (effect_forces state (hinted known number) (negated lit) forces) after_ in
    subst (λ hs. ends known hs part ≡ true) (sym (append_assoc hints (number ∷ []) left))
    (by part (number ∷ left) w f (λ x h. n x (has-append implied (lit ∷ []) x ∙ or_left (has implied x) _ h)) goes)

-- LISTS

-- what is said of settled literals, over their lists
pub record AreSettled (t : TrailState) (table kept implied : List ℕ) : Type 0 where
  pub kept_false : IsFalse (literals t.entries) kept
  pub implied_false : IsFalse (literals t.entries) implied
  pub low : (lit : ℕ) → covers kept implied lit ≡ true → level_of table lit < t.level
  pub apart : (lit : ℕ) → has kept lit ≡ true → has implied lit ≡ false

pub lists : (t : TrailState) (table : List ℕ) (m : Minimiser) → IsSettled t table m → AreSettled t table m.kept.lits m.implied.lits
lists t table m s = record { kept_false = s.kept_false; implied_false = s.implied_false; low = s.low; apart = s.apart }

pub settled : (t : TrailState) (table : List ℕ) (m : Minimiser) → HasRoom t.vars m → AreSettled t table m.kept.lits m.implied.lits → IsSettled t table m
settled t table m r s = record { room = r; kept_false = s.kept_false; implied_false = s.implied_false; low = s.low; apart = s.apart }

-- a literal is one of the list, or the one behind it
behind : (xs : List ℕ) (lit x : ℕ) → has (xs ++ lit ∷ []) x ≡ true → (has xs x ≡ true) ⊎ (lit ≡ x)
behind xs lit x h = elim (or_cases (has xs x) (has (lit ∷ []) x) (sym (has-append xs (lit ∷ []) x) ∙ h)) [
  | inl a ↦ inl a
  | inr b ↦ inr (equal lit x (grind (arith, b)))
]

none_of : (a b : Bool) → (a || b) ≡ false → (a ≡ false) × (b ≡ false)
none_of true b h = absurd (grind (arith, h))
none_of false b h = (refl, h)

are_false_more : (trues xs : List ℕ) (lit : ℕ) → IsFalse trues xs → is_true trues (negated lit) ≡ true → IsFalse trues (xs ++ lit ∷ [])
are_false_more trues xs lit f made x h = elim (behind xs lit x h) [
  | inl a ↦ f x a
  | inr is ↦ subst (λ y. is_true trues (negated y) ≡ true) is made
]

pub are_implied : (t : TrailState) (table kept implied : List ℕ) (lit : ℕ) → AreSettled t table kept implied → covers kept implied lit ≡ false
    → is_true (literals t.entries) (negated lit) ≡ true → level_of table lit < t.level → AreSettled t table kept (implied ++ lit ∷ [])
are_implied t table kept implied lit s new made below = record {
  kept_false = s.kept_false;
  implied_false = are_false_more (literals t.entries) implied lit s.implied_false made;
  low = λ x h. elim (or_cases (has kept x) (has (implied ++ lit ∷ []) x) h) [
    | inl a ↦ s.low x (or_left (has kept x) _ a)
    | inr b ↦ elim (behind implied lit x b) [
      | inl c ↦ s.low x (or_right (has kept x) _ c)
      | inr is ↦ subst (λ y. level_of table y < t.level) is below
    ]
  ];
  apart = λ x h. false_from_ne_true (has (implied ++ lit ∷ []) x) (λ b. elim (behind implied lit x b) [
    | inl c ↦ absurd (let both : true ≡ false = sym c ∙ s.apart x h in cc)
    | inr is ↦ absurd (let off : has kept x ≡ false = ap (has kept) (sym is) ∙ (none_of (has kept lit) (has implied lit) new).0 in let both : true ≡ false = sym h ∙ off in cc)
  ]);
}

pub are_kept : (t : TrailState) (table kept implied : List ℕ) (lit : ℕ) → AreSettled t table kept implied → covers kept implied lit ≡ false
    → is_true (literals t.entries) (negated lit) ≡ true → level_of table lit < t.level → AreSettled t table (kept ++ lit ∷ []) implied
are_kept t table kept implied lit s new made below = record {
  kept_false = are_false_more (literals t.entries) kept lit s.kept_false made;
  implied_false = s.implied_false;
  low = λ x h. elim (or_cases (has (kept ++ lit ∷ []) x) (has implied x) h) [
    | inl b ↦ elim (behind kept lit x b) [
      | inl c ↦ s.low x (or_left (has kept x) _ c)
      | inr is ↦ subst (λ y. level_of table y < t.level) is below
    ]
    | inr a ↦ s.low x (or_right (has kept x) _ a)
  ];
  apart = λ x h. elim (behind kept lit x h) [
    | inl c ↦ s.apart x c
    | inr is ↦ ap (has implied) (sym is) ∙ (none_of (has kept lit) (has implied lit) new).1
  ];
}

-- STEPS

-- How imply leaves the lists: with one more implied literal, unless it is settled.
pub record IsImply (old new : Minimiser) (lit number : ℕ) : Type 0 where
  pub kept : new.kept ≡ old.kept
  pub failed : new.failed ≡ old.failed
  pub places : new.implied.places ≡ old.implied.places
  pub implied : new.implied.lits ≡ cond (covers old.kept.lits old.implied.lits lit) old.implied.lits (old.implied.lits ++ lit ∷ [])
  pub hints : new.hints.items ≡ cond (covers old.kept.lits old.implied.lits lit) old.hints.items (old.hints.items ++ number ∷ [])

pub settled_imply : (t : TrailState) (table : List ℕ) (old new : Minimiser) (lit number : ℕ) → IsImply old new lit number → IsSettled t table old
    → is_true (literals t.entries) (negated lit) ≡ true → level_of table lit < t.level → IsSettled t table new
settled_imply t table old new lit number i s made below =
    let kept : new.kept.lits ≡ old.kept.lits = ap (λ m. m.lits) i.kept in
    settled t table new
    (record { kept = ap (λ m. m.places) i.kept ∙ s.room.kept; implied = i.places ∙ s.room.implied; failed = ap (λ m. m.places) i.failed ∙ s.room.failed })
    (subst (λ ks. AreSettled t table ks new.implied.lits) (sym kept) (subst (AreSettled t table old.kept.lits) (sym i.implied) (elim (tested (covers old.kept.lits old.implied.lits lit)) [
      | inl on ↦ rw on (lists t table old s)
      | inr off ↦ rw off (are_implied t table old.kept.lits old.implied.lits lit (lists t table old s) off made below)
    ])))

pub implies_imply : (known : List (List ℕ)) (t : TrailState) (table : List ℕ) (old new : Minimiser) (lit number : ℕ) → IsImply old new lit number → IsSound t → IsSettled t table old
    → is_true (literals t.entries) (negated lit) ≡ true → IsCoveredReason known old lit number → Implies known (literals t.entries) old → Implies known (literals t.entries) new
implies_imply known t table old new lit number i sound s made rest by =
    let trues : List ℕ = literals t.entries in
    let kept : new.kept.lits ≡ old.kept.lits = ap (λ m. m.lits) i.kept in
    let body : ImpliesBy known trues old.kept.lits new.implied.lits new.hints.items = elim (tested (covers old.kept.lits old.implied.lits lit)) [
      | inl on ↦
          let same : new.implied.lits ≡ old.implied.lits = i.implied ∙ rw on refl in
          let hints_same : new.hints.items ≡ old.hints.items = i.hints ∙ rw on refl in
          subst (λ hs. ImpliesBy known trues old.kept.lits new.implied.lits hs) (sym hints_same) (subst (λ is. ImpliesBy known trues old.kept.lits is old.hints.items) (sym same) by)
      | inr off ↦
          let more : new.implied.lits ≡ old.implied.lits ++ lit ∷ [] = i.implied ∙ rw off refl in
          let hints_more : new.hints.items ≡ old.hints.items ++ number ∷ [] = i.hints ∙ rw off refl in
          subst (λ hs. ImpliesBy known trues old.kept.lits new.implied.lits hs) (sym hints_more) (subst (λ is. ImpliesBy known trues old.kept.lits is (old.hints.items ++ number ∷ [])) (sym more)
          (implies_one known trues old.kept.lits old.implied.lits old.hints.items lit number sound.apart s.implied_false made (none_of (has old.kept.lits lit) (has old.implied.lits lit) off).1
          (record { clause = rest.clause; number_of = rest.number_of; inside = rest.inside; others = rest.others }) by))
    ] in
    subst (λ ks. ImpliesBy known trues ks new.implied.lits new.hints.items) (sym kept) body

-- How keep_or_give_up leaves the lists: with one more kept literal of the line, unless it is settled.
pub record IsKeep (old new : Minimiser) (stays : Bool) (lit : ℕ) : Type 0 where
  pub implied : new.implied ≡ old.implied
  pub hints : new.hints ≡ old.hints
  pub places : new.kept.places ≡ old.kept.places
  pub failed : new.failed.places ≡ old.failed.places
  pub kept : new.kept.lits ≡ cond stays old.kept.lits (old.kept.lits ++ lit ∷ [])

left_off : (a b : Bool) → (a || b) ≡ false → a ≡ false
left_off a b h = (none_of a b h).0

pub settled_keep : (t : TrailState) (table : List ℕ) (old new : Minimiser) (lit : ℕ) (other : Bool) → IsKeep old new (covers old.kept.lits old.implied.lits lit || other) lit → IsSettled t table old
    → is_true (literals t.entries) (negated lit) ≡ true → level_of table lit < t.level → IsSettled t table new
settled_keep t table old new lit other i s made below =
    let implied : new.implied.lits ≡ old.implied.lits = ap (λ m. m.lits) i.implied in
    settled t table new
    (record { kept = i.places ∙ s.room.kept; implied = ap (λ m. m.places) i.implied ∙ s.room.implied; failed = i.failed ∙ s.room.failed })
    (subst (λ is. AreSettled t table new.kept.lits is) (sym implied) (subst (λ ks. AreSettled t table ks old.implied.lits) (sym i.kept) (elim (tested (covers old.kept.lits old.implied.lits lit || other)) [
      | inl on ↦ rw on (lists t table old s)
      | inr off ↦ rw off (are_kept t table old.kept.lits old.implied.lits lit (lists t table old s) (left_off (covers old.kept.lits old.implied.lits lit) other off) made below)
    ])))

pub implies_keep : (known : List (List ℕ)) (trues : List ℕ) (old new : Minimiser) (lit : ℕ) (stays : Bool) → IsKeep old new stays lit → Implies known trues old → Implies known trues new
implies_keep known trues old new lit stays i by =
    let body : ImpliesBy known trues new.kept.lits old.implied.lits old.hints.items = subst (λ ks. ImpliesBy known trues ks old.implied.lits old.hints.items) (sym i.kept) (elim (tested stays) [
      | inl on ↦ rw on by
      | inr off ↦ rw off (implies_kept known trues old.kept.lits old.implied.lits old.hints.items lit by)
    ]) in
    subst (λ is. ImpliesBy known trues new.kept.lits is new.hints.items) (sym (ap (λ m. m.lits) i.implied)) (subst (λ hs. ImpliesBy known trues new.kept.lits old.implied.lits hs) (sym (ap (λ v. v.items) i.hints)) body)

pub stay_keep : (old new : Minimiser) (stays : Bool) (lit : ℕ) → IsKeep old new stays lit → (x : ℕ) → Covers old x → Covers new x
stay_keep old new stays lit i x h =
    let implied : new.implied.lits ≡ old.implied.lits = ap (λ m. m.lits) i.implied in
    let more : has old.kept.lits x ≡ true → has new.kept.lits x ≡ true = λ m. subst (λ ks. has ks x ≡ true) (sym i.kept) (elim (tested stays) [
      | inl on ↦ rw on m
      | inr off ↦ rw off (has-append old.kept.lits (lit ∷ []) x ∙ or_left (has old.kept.lits x) _ m)
    ]) in
    elim (or_cases (has old.kept.lits x) (has old.implied.lits x) h) [
      | inl a ↦ or_left (has new.kept.lits x) _ (more a)
      | inr b ↦ or_right (has new.kept.lits x) _ (ap (λ l. has l x) implied ∙ b)
    ]

-- REASONS

-- the other literals of a reason are false
pub others_false : {w : WatchState} {t : TrailState} {notes : Notes} {e : Entry} {lit clause : ℕ} {lits : List ℕ} → IsSupported w t notes → IsEntryOf t e lit → e.reason ≡ Some clause
    → lits ≡ get_or w.clauses clause [] → (other : ℕ) → has lits other ≡ true → other ≢ e.lit → is_true (literals t.entries) (negated other) ≡ true
others_false {w} {t} {notes} {e} {lit} {clause} {lits} s at why is other h away =
    let back : (clause < length w.clauses) × ForcesLit (literals (take at.place t.entries)) (get_or w.clauses clause []) e.lit =
    MatchOption-at_some (IsRoot s.known notes.units.items e ⊎ IsDecision (take at.place t.entries) e) (λ c. (c < length w.clauses) × ForcesLit (literals (take at.place t.entries)) (get_or w.clauses c []) e.lit) clause why
    (backed_at s.known w t notes at.place e s.noted at.within at.is) in
    front_true t.entries at.place (negated other) (back.1.others other (subst (λ c. has c other ≡ true) is h) away)

pub reason_within : {w : WatchState} {t : TrailState} {notes : Notes} {e : Entry} {lit clause : ℕ} → IsSupported w t notes → IsEntryOf t e lit → e.reason ≡ Some clause → clause < length w.clauses
reason_within {w} {t} {notes} {e} {lit} {clause} s at why =
    (MatchOption-at_some (IsRoot s.known notes.units.items e ⊎ IsDecision (take at.place t.entries) e) (λ c. (c < length w.clauses) × ForcesLit (literals (take at.place t.entries)) (get_or w.clauses c []) e.lit) clause why
    (backed_at s.known w t notes at.place e s.noted at.within at.is)).0

-- the reason of an entry, all of whose other literals are covered
pub reason_covered : (known : List (List ℕ)) (w : WatchState) (t : TrailState) (notes : Notes) (m : Minimiser) (e : Entry) (lit clause number : ℕ) (lits : List ℕ) → IsNoted known w t notes → IsEntryOf t e (negated lit)
    → e.reason ≡ Some clause → lits ≡ get_or w.clauses clause [] → number ≡ get_or notes.numbers.items clause number
    → ((other : ℕ) → has lits other ≡ true → other ≢ e.lit → Covers m other) → IsCoveredReason known m lit number
reason_covered known w t notes m e lit clause number lits noted at why is num covered =
    let back : (clause < length w.clauses) × ForcesLit (literals (take at.place t.entries)) (get_or w.clauses clause []) e.lit =
    MatchOption-at_some (IsRoot known notes.units.items e ⊎ IsDecision (take at.place t.entries) e) (λ c. (c < length w.clauses) × ForcesLit (literals (take at.place t.entries)) (get_or w.clauses c []) e.lit) clause why
    (backed_at known w t notes at.place e noted at.within at.is) in
    let num_is : get_or notes.numbers.items clause 0 ≡ number = sym (get_or_read notes.numbers.items clause number (omega (arith, noted.numbers, back.0)) num 0) in
    record {
      clause = get_or w.clauses clause [];
      number_of = subst (IsNumberOf known (get_or w.clauses clause [])) num_is (noted.numbered clause back.0);
      inside = subst (λ x. has (get_or w.clauses clause []) x ≡ true) at.made back.1.inside;
      others = λ other h away. covered other (subst (λ c. has c other ≡ true) (sym is) h) (λ q. away (q ∙ at.made));
    }

-- a literal that is a clause by itself
pub unit_covered : (known : List (List ℕ)) (w : WatchState) (t : TrailState) (notes : Notes) (m : Minimiser) (e : Entry) (lit var number : ℕ) → IsNoted known w t notes → IsSound t → IsEntryOf t e (negated lit)
    → e.reason ≡ None → e.level ≡ 0 → var ≡ lit / 2 → number ≡ get_or notes.units.items var number → IsCoveredReason known m lit number
unit_covered known w t notes m e lit var number noted s at why root v num =
    let back : IsRoot known notes.units.items e ⊎ IsDecision (take at.place t.entries) e =
    MatchOption-at_none (IsRoot known notes.units.items e ⊎ IsDecision (take at.place t.entries) e) (λ c. (c < length w.clauses) × ForcesLit (literals (take at.place t.entries)) (get_or w.clauses c []) e.lit) why
    (backed_at known w t notes at.place e noted at.within at.is) in
    let over : IsOver t.vars e.lit = entry_over t at.place e s at.within at.is in
    let same : e.lit / 2 ≡ var = ap (λ x. x / 2) at.made ∙ negated-half lit ∙ sym v in
    let unit_is : get_or notes.units.items (e.lit / 2) 0 ≡ number = ap (λ k. get_or notes.units.items k 0) same ∙ sym (get_or_read notes.units.items var number (omega (arith, noted.units, over, same)) num 0) in
    elim back [
      | inl is ↦ record {
        clause = e.lit ∷ [];
        number_of = subst (IsNumberOf known (e.lit ∷ [])) unit_is is.number;
        inside = subst (λ x. has (e.lit ∷ []) x ≡ true) at.made (grind arith);
        others = λ other h away. absurd (away (sym (equal e.lit other (grind (arith, h))) ∙ at.made));
      }
      | inr decision ↦ absurd (omega (arith, decision.above, root))
    ]

-- a false literal is over the variables
pub false_over : (t : TrailState) (lit : ℕ) → IsSound t → is_true (literals t.entries) (negated lit) ≡ true → IsOver t.vars lit
false_over t lit s made = subst (IsOver t.vars) (negated-negated lit) (over_negated t.vars (negated lit) (over_has t.vars (literals t.entries) (negated lit) s.over made))
