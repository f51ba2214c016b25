-- Clauses cut out of one list: how many there are, each of them, and one more at the end.
use Rattle.std.proofs.Common.{◌≡◌, ℕ, ◌+◌, ◌-◌, ◌^◌, ◌<◌, ◌≤◌, All, List, [], ◌∷◌, ◌++◌, length, take, drop, get_or, suc, zero, refl, sym, ap, subst, ◌∙◌, arith, length-append, length-drop}
use Rattle.std.proofs.lemmas.List.{take-append-le, drop-append-le, take_all, drop_all, drop-drop}
use Rattle.std.proofs.lemmas.List.Elements.{All-append}
use Rattle.cnf_core.specs.Arena.{cut, AreEnds, IsArena}
use Rattle.cnf_core.specs.Literal.{IsOver}

pub length-cut : (from : ℕ) (ends lits : List ℕ) → length (cut from ends lits) ≡ length ends
length-cut from [] lits = refl
length-cut from (end ∷ ends) lits = ap suc (length-cut end ends (drop (end - from) lits))

-- where the clause at a place begins and ends, and what it is
pub record IsPiece (from : ℕ) (ends lits : List ℕ) (place start end : ℕ) : Type 0 where
  pub behind : from ≤ start
  pub rises : start ≤ end
  pub within : end - from ≤ length lits
  pub value : get_or (cut from ends lits) place [] ≡ take (end - start) (drop (start - from) lits)

pub piece : (from : ℕ) (ends lits : List ℕ) → AreEnds from ends lits → (place : ℕ) → place < length ends
    → IsPiece from ends lits place (get_or (from ∷ ends) place 0) (get_or ends place 0)
piece from [] lits is place lt = absurd (omega arith)
piece from (end ∷ ends) lits is zero lt =
    record { behind = omega arith; rises = is.0; within = is.1; value = ap (λ n. take (end - from) (drop n lits)) (let e : 0 ≡ from - from = omega arith in e) }
piece from (end ∷ ends) lits is (suc place) lt =
    let start = get_or (end ∷ ends) place 0 in
    let stop = get_or ends place 0 in
    let h : IsPiece end ends (drop (end - from) lits) place start stop = piece end ends (drop (end - from) lits) is.2 place (omega arith) in
    let moved : (end - from) + (start - end) ≡ start - from = omega (arith, h.behind, is.0) in
    record {
      behind = omega (arith, is.0, h.behind);
      rises = h.rises;
      within = omega (arith, h.within, length-drop (end - from) lits, is.0, is.1);
      value = h.value ∙ ap (take (stop - start)) (drop-drop (start - end) (end - from) lits ∙ ap (λ n. drop n lits) moved);
    }

-- One clause more at the end keeps those before it.
pub record Pushes (from : ℕ) (ends lits more : List ℕ) (last : ℕ) : Type 0 where
  pub value : cut from (ends ++ last ∷ []) (lits ++ more) ≡ cut from ends lits ++ more ∷ []
  pub rising : AreEnds from (ends ++ last ∷ []) (lits ++ more)

pub cut-push : (from : ℕ) (ends lits more : List ℕ) (last : ℕ) → AreEnds from ends lits → last ≡ from + length lits + length more
    → Pushes from ends lits more last
cut-push from [] lits more last is at =
    let all : last - from ≡ length more = omega (arith, ap length is) in
    subst (λ (xs : List ℕ). Pushes from [] xs more last) (sym is)
    (record {
      value = ap (λ xs. xs ∷ []) (take_all (last - from) more (omega arith));
      rising = (omega arith, omega arith, drop_all (last - from) more (omega arith));
    })
cut-push from (end ∷ ends) lits more last is at =
    let len = length-drop (end - from) lits in
    let h : Pushes end ends (drop (end - from) lits) more last =
    cut-push end ends (drop (end - from) lits) more last is.2 (omega (arith, at, len, is.0, is.1)) in
    let dropped : drop (end - from) (lits ++ more) ≡ drop (end - from) lits ++ more = drop-append-le (end - from) lits more is.1 in
    let taken : take (end - from) (lits ++ more) ≡ take (end - from) lits = take-append-le (end - from) lits more is.1 in
    record {
      value = rw (taken, dropped) (ap (λ xs. take (end - from) lits ∷ xs) h.value);
      rising = (is.0, omega (arith, is.1, length-append lits more), rw dropped h.rising);
    }

-- the same, in all of the list
pub record IsSpan (ends lits : List ℕ) (place start end : ℕ) : Type 0 where
  pub rises : start ≤ end
  pub inside : end ≤ length lits
  pub value : get_or (cut 0 ends lits) place [] ≡ take (end - start) (drop start lits)

span_of : (ends lits : List ℕ) (place start end : ℕ) → IsPiece 0 ends lits place start end → IsSpan ends lits place start end
span_of ends lits place start end is =
    record {
      rises = is.rises;
      inside = omega (arith, is.within);
      value = is.value ∙ ap (λ n. take (end - start) (drop n lits)) (let e : start - 0 ≡ start = omega arith in e);
    }

-- the piece behind another one begins where that one ends
pub piece_behind : (ends lits : List ℕ) → AreEnds 0 ends lits → (place : ℕ) → (place ≡ 0 → ⊥) → place < length ends
    → IsSpan ends lits place (get_or ends (place - 1) 0) (get_or ends place 0)
piece_behind ends lits is zero later lt = absurd (later refl)
piece_behind ends lits is (suc before) later lt =
    subst (λ (k : ℕ). IsSpan ends lits (suc before) (get_or ends k 0) (get_or ends (suc before) 0)) (let e : before ≡ suc before - 1 = omega arith in e)
    (span_of ends lits (suc before) _ _ (piece 0 ends lits is (suc before) lt))

-- An arena with one clause more is one.
pub record Grows (vars : ℕ) (ends lits more ends' lits' : List ℕ) : Type 0 where
  pub whole : IsArena vars ends' lits'
  pub value : cut 0 ends' lits' ≡ cut 0 ends lits ++ more ∷ []

pub grows : (vars : ℕ) (ends lits more ends' lits' : List ℕ) → IsArena vars ends lits → All (IsOver vars) more → length ends + 1 < 2 ^ 32
    → lits' ≡ lits ++ more → ends' ≡ ends ++ length lits' ∷ [] → Grows vars ends lits more ends' lits'
grows vars ends lits more ends' lits' is over room lits_is ends_is =
    let last : length lits' ≡ 0 + length lits + length more = ap length lits_is ∙ length-append lits more ∙ omega arith in
    let h : Pushes 0 ends lits more (length lits') = cut-push 0 ends lits more (length lits') is.rising last in
    record {
      whole = record {
        small = is.small;
        few = omega (arith, ap length ends_is, length-append ends (length lits' ∷ []), room);
        rising = rw (ends_is, lits_is) (rw lits_is at h.rising);
        over = rw lits_is (All-append (IsOver vars) lits more is.over over);
      };
      value = rw (ends_is, lits_is) (rw lits_is at h.value);
    }
