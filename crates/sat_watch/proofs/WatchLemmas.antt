-- What stays of the watches where a clause comes, where it begins to watch, and where a watch moves.
use Rattle.std.proofs.Common.{◌≡◌, ◌≢◌, ℕ, zero, suc, ◌+◌, ◌-◌, ◌*◌, ◌/◌, ◌<◌, ◌≤◌, ◌^◌, true, false, eqb, ltb, List, [], ◌∷◌, ◌++◌, length, get_or, set, refl, sym, ap, ◌∙◌, subst, inl, inr, ◌⊎◌, All, arith, get_or-set_same, get_or-set_other, length-append}
use Rattle.std.proofs.Math.ListN.{length-set}
use Rattle.std.specs.List.{list_any, AllByRecursion, IsDistinct}
use Rattle.std.proofs.lemmas.List.{set_past, set-set, get_or_past, get_or_append_left, get_or_push, length_push, get_or_read, append_assoc}
use Rattle.std.proofs.lemmas.Map.Steps.{length-le_from_distinct_below}
use Rattle.cnf_core.specs.Literal.{IsOver}
use Rattle.sat_watch.specs.Literals.{has, EachOnce}
use Rattle.sat_watch.specs.Threads.{Chain, Walk, IsThread, Threaded, CanWatch, IsWatches}
use Rattle.sat_watch.specs.Visit.{read}
use Rattle.sat_watch.specs.Watching.{WatchState, watch_of, side_of, twin, clause_of, IsSet}
use Rattle.sat_watch.proofs.LiteralLemmas.{tested, halves}
use Rattle.sat_watch.proofs.ThreadLemmas.{has-append, AreHeads, off_list, list_is, unlinked, IsOut, pushed, walk_pushed, chain_pushed, walk-chain, walk-push, walk_last}

-- one more place at the end, for no watch, reads as before
pub get_more : (watched : List ℕ) (s : ℕ) → get_or (watched ++ 0 ∷ []) s 0 ≡ get_or watched s 0
get_more [] zero = refl
get_more [] (suc s) = refl
get_more (x ∷ xs) zero = refl
get_more (x ∷ xs) (suc s) = get_more xs s

pub within_by : (watched : List ℕ) (s lit : ℕ) → 0 < lit → get_or watched s 0 ≡ lit → s < length watched
within_by watched s lit z e = elim (tested (ltb s (length watched))) [
  | inl yes' ↦ grind (arith, yes')
  | inr past ↦ absurd (let q : 0 ≡ lit = sym (get_or_past watched s 0 (grind (arith, past))) ∙ e in omega arith)
]

chain_more : (links xs : List ℕ) (at u : ℕ) → Chain links at xs → at < length links → ((s : ℕ) → has xs s ≡ true → s < length links) → Chain (links ++ u ∷ []) at xs
chain_more links [] at u c l w = get_or_append_left links (u ∷ []) 0 at l ∙ c
chain_more links (x ∷ xs) at u c l w =
    (get_or_append_left links (u ∷ []) 0 at l ∙ c.0, chain_more links xs x u c.1 (w x (grind arith)) (λ s m. w s (grind (arith, m))))

pub threaded_more : (literals : ℕ) (links watched : List ℕ) (u : ℕ) → Threaded literals links watched → length watched ≡ length links → literals ≤ length links
    → Threaded literals (links ++ u ∷ []) (watched ++ 0 ∷ [])
threaded_more literals links watched u th pair big lit z l =
    let t : IsThread links watched lit = th lit z l in
    record {
      list = t.list;
      read = chain_more links t.list lit u t.read (omega arith) (λ s m. let w : s < length watched = within_by watched s lit z ((t.exact s).0 m) in omega arith);
      once = t.once;
      exact = λ s. (λ on. get_more watched s ∙ (t.exact s).0 on, λ is. (t.exact s).1 (sym (get_more watched s) ∙ is));
    }

-- a clause more, in no list
pub watches_more : (vars : ℕ) (clauses clauses' : List (List ℕ)) (links watched links' watched' lits : List ℕ)
    → IsWatches (record { vars = vars; clauses = clauses }) links watched → CanWatch vars lits → vars + length clauses + 1 < 2 ^ 31
    → clauses' ≡ clauses ++ lits ∷ [] → links' ≡ (links ++ 0 ∷ []) ++ 0 ∷ [] → watched' ≡ (watched ++ 0 ∷ []) ++ 0 ∷ []
    → IsWatches (record { vars = vars; clauses = clauses' }) links' watched'
watches_more vars clauses clauses' links watched links' watched' lits i can room c l w =
    let count : length clauses' ≡ length clauses + 1 = ap length c ∙ length_push clauses lits in
    let long : length links' ≡ length links + 2 = ap length l ∙ length_push (links ++ 0 ∷ []) 0 ∙ omega (arith, length_push links 0) in
    let wide : length watched' ≡ length watched + 2 = ap length w ∙ length_push (watched ++ 0 ∷ []) 0 ∙ omega (arith, length_push watched 0) in
    let same : (s : ℕ) → get_or watched' s 0 ≡ get_or watched s 0 = λ s. ap (λ ws. get_or ws s 0) w ∙ get_more (watched ++ 0 ∷ []) s ∙ get_more watched s in
    let once : Threaded (2 * (vars + 1)) (links ++ 0 ∷ []) (watched ++ 0 ∷ []) = threaded_more (2 * (vars + 1)) links watched 0 i.threaded i.paired (omega (arith, i.linked)) in
    let twice : Threaded (2 * (vars + 1)) ((links ++ 0 ∷ []) ++ 0 ∷ []) ((watched ++ 0 ∷ []) ++ 0 ∷ []) =
    threaded_more (2 * (vars + 1)) (links ++ 0 ∷ []) (watched ++ 0 ∷ []) 0 once (omega (arith, length_push links 0, length_push watched 0, i.paired)) (omega (arith, i.linked, length_push links 0)) in
    record {
      small = omega (arith, count);
      linked = omega (arith, long, count, i.linked);
      paired = omega (arith, long, wide, i.paired);
      heads = λ place h. same place ∙ i.heads place h;
      over = λ place. rw (same place) (i.over place);
      threaded = rw (l, w) twice;
      clauses = λ k h. subst (λ cs. CanWatch vars (get_or cs k [])) (sym c) (elim (tested (ltb k (length clauses))) [
        | inl old ↦ let here : k < length clauses = grind (arith, old) in subst (CanWatch vars) (sym (get_or_append_left clauses (lits ∷ []) [] k here)) (i.clauses k here)
        | inr new ↦ let here : length clauses ≡ k = let ge : length clauses ≤ k = grind (arith, new) in omega arith in
            subst (CanWatch vars) (sym (get_or_push clauses lits [] k here)) can
      ]);
    }

-- a write of one watch, and what it asks of the links
pub watches_written : (vars : ℕ) (clauses : List (List ℕ)) (links watched links' : List ℕ) (at lit : ℕ)
    → IsWatches (record { vars = vars; clauses = clauses }) links watched → 2 * (vars + 1) ≤ at → lit < 2 * (vars + 1)
    → length links' ≡ length links → Threaded (2 * (vars + 1)) links' (set watched at lit)
    → IsWatches (record { vars = vars; clauses = clauses }) links' (set watched at lit)
watches_written vars clauses links watched links' at lit i h o len th = record {
  small = i.small;
  linked = omega (arith, len, i.linked);
  paired = omega (arith, length-set watched at lit, len, i.paired);
  heads = λ place p. let d : place ≢ at = λ q. omega arith in get_or-set_other watched at place lit 0 d ∙ i.heads place p;
  over = λ place. elim (tested (eqb place at)) [
    | inl same ↦ let e : place ≡ at = grind (arith, same) in written_over watched place at lit (2 * (vars + 1)) e o (i.over place)
    | inr other ↦ let d : place ≢ at = λ q. grind (arith, other, q) in rw get_or-set_other (i.over place)
  ];
  threaded = th;
  clauses = i.clauses;
}
  where
    written_over : (watched : List ℕ) (place at lit most : ℕ) → place ≡ at → lit < most → get_or watched place 0 < most → get_or (set watched at lit) place 0 < most
    written_over watched place at lit most e o old = elim (tested (ltb at (length watched))) [
      | inl inside ↦ let w : at < length watched = grind (arith, inside) in
          subst (λ n. n < most) (sym (ap (λ k. get_or (set watched at lit) k 0) e ∙ get_or-set_same watched at lit 0 w)) o
      | inr past ↦ subst (λ n. n < most) (sym (ap (λ ws. get_or ws place 0) (set_past watched at lit (grind (arith, past))))) old
    ]

-- a watch that is in no list comes into one
pub watches_pushed : (vars : ℕ) (clauses : List (List ℕ)) (links watched : List ℕ) (at lit : ℕ)
    → IsWatches (record { vars = vars; clauses = clauses }) links watched → 2 * (vars + 1) ≤ at → at < length links → 0 < lit → lit < 2 * (vars + 1) → get_or watched at 0 ≡ 0
    → IsWatches (record { vars = vars; clauses = clauses }) (set (set links at (get_or links lit 0)) lit at) (set watched at lit)
watches_pushed vars clauses links watched at lit i h w z o free =
    watches_written vars clauses links watched (set (set links at (get_or links lit 0)) lit at) at lit i h o (length-set (set links at (get_or links lit 0)) lit at ∙ length-set links at (get_or links lit 0))
    (pushed (2 * (vars + 1)) links watched lit at i.threaded i.heads free h w i.paired z o)

-- what is read along the links
pub read_chain : (links xs : List ℕ) (steps at : ℕ) → Chain links at xs → has xs 0 ≡ false → length xs ≤ steps → read links steps at ≡ xs
read_chain links [] zero at c o l = refl
read_chain links [] (suc n) at c o l = rw c refl
read_chain links (x ∷ xs) zero at c o l = absurd (omega arith)
read_chain links (x ∷ xs) (suc n) at c o l =
    let no : eqb x 0 ≡ false = grind (arith, o) in
    rw (c.0, no) (ap (λ ys. x ∷ ys) (read_chain links xs n x c.1 (grind (arith, o)) (omega arith)))

distinct_once : (xs : List ℕ) → EachOnce xs → IsDistinct eqb xs
unfolding IsDistinct
distinct_once [] o = tt
distinct_once (x ∷ xs) o = (apart_all x xs o.0, distinct_once xs o.1)
  where
    apart_all : (x : ℕ) (xs : List ℕ) → has xs x ≡ false → AllByRecursion (λ y. eqb x y ≡ false) xs
    apart_all x [] h = tt
    apart_all x (y ∷ ys) h = (grind (arith, h), apart_all x ys (grind (arith, h)))

flipped : (xs : List ℕ) (q : ℕ) → list_any (eqb q) xs ≡ true → has xs q ≡ true
flipped [] q h = h
flipped (x ∷ xs) q h = grind (arith, flipped xs q, h)

-- no list is longer than the links
pub thread_few : (links watched : List ℕ) (lit : ℕ) (t : IsThread links watched lit) → 0 < lit → length watched ≡ length links → length t.list ≤ length links
thread_few links watched lit t z pair =
    length-le_from_distinct_below t.list (length links) (distinct_once t.list t.once)
    (λ q h. let w : q < length watched = within_by watched q lit z ((t.exact q).0 (flipped t.list q h)) in omega arith)

-- a walk that is under way: what is in front of it and what is to come are the whole list
pub record IsWay (links watched : List ℕ) (lit at : ℕ) (front rest : List ℕ) : Type 0 where
  pub walked : Walk links lit front at
  pub left : Chain links at rest
  pub ends : has (front ++ rest) 0 ≡ false

pub way_list : (vars : ℕ) (clauses : List (List ℕ)) (links watched front rest : List ℕ) (lit at : ℕ) → (i : IsWatches (record { vars = vars; clauses = clauses }) links watched)
    → (z : 0 < lit) → (l : lit < 2 * (vars + 1)) → IsWay links watched lit at front rest → front ++ rest ≡ (i.threaded lit z l).list
way_list vars clauses links watched front rest lit at i z l y =
    list_is (2 * (vars + 1)) links watched (front ++ rest) lit (i.threaded lit z l) (omega arith) z i.heads (walk-chain links front rest lit at y.walked y.left) y.ends

pub way_few : (vars : ℕ) (clauses : List (List ℕ)) (links watched front rest : List ℕ) (lit at : ℕ) → IsWatches (record { vars = vars; clauses = clauses }) links watched
    → 0 < lit → lit < 2 * (vars + 1) → IsWay links watched lit at front rest → length rest ≤ length links
way_few vars clauses links watched front rest lit at i z l y =
    omega (arith, ap length (way_list vars clauses links watched front rest lit at i z l y), length-append front rest, thread_few links watched lit (i.threaded lit z l) z i.paired)

pub way_read : (vars : ℕ) (clauses : List (List ℕ)) (links watched front rest : List ℕ) (lit at : ℕ) → IsWatches (record { vars = vars; clauses = clauses }) links watched
    → 0 < lit → lit < 2 * (vars + 1) → IsWay links watched lit at front rest → read links (length links) at ≡ rest
way_read vars clauses links watched front rest lit at i z l y =
    read_chain links rest (length links) at y.left (grind (arith, y.ends, has-append front rest 0)) (way_few vars clauses links watched front rest lit at i z l y)

-- the next watch of a way
pub record IsNext (links watched : List ℕ) (literals lit to at : ℕ) (front rest : List ℕ) : Type 0 where
  pub for : get_or watched at 0 ≡ lit
  pub behind : literals ≤ at
  pub inside : at < length links
  pub from : to < length links

pub way_next : (vars : ℕ) (clauses : List (List ℕ)) (links watched front rest : List ℕ) (lit to at : ℕ) → IsWatches (record { vars = vars; clauses = clauses }) links watched
    → 0 < lit → lit < 2 * (vars + 1) → IsWay links watched lit to front (at ∷ rest) → IsNext links watched (2 * (vars + 1)) lit to at front rest
way_next vars clauses links watched front rest lit to at i z l y =
    let t : IsThread links watched lit = i.threaded lit z l in
    let same : front ++ at ∷ rest ≡ t.list = way_list vars clauses links watched front (at ∷ rest) lit to i z l y in
    let on : has t.list at ≡ true = ap (λ xs. has xs at) (sym same) ∙ has-append front (at ∷ rest) at ∙ grind arith in
    let is : get_or watched at 0 ≡ lit = (t.exact at).0 on in
    let last : has (lit ∷ front) to ≡ true = walk_last links front lit to y.walked in
    let within : at < length watched = within_by watched at lit z is in
    record {
      for = is;
      behind = elim (tested (ltb at (2 * (vars + 1)))) [
        | inl low ↦ absurd (let q : 0 ≡ lit = sym (i.heads at (grind (arith, low))) ∙ is in omega arith)
        | inr high ↦ grind (arith, high)
      ];
      inside = omega (arith, i.paired);
      from = elim (tested (eqb lit to)) [
        | inl here ↦ let e : lit ≡ to = grind (arith, here) in omega (arith, i.linked)
        | inr there ↦
            let in_front : has front to ≡ true = grind (arith, last, there) in
            let on' : has t.list to ≡ true = ap (λ xs. has xs to) (sym same) ∙ has-append front (at ∷ rest) to ∙ grind (arith, in_front) in
            let w : to < length watched = within_by watched to lit z ((t.exact to).0 on') in omega (arith, i.paired)
      ];
    }

-- a watch that moves: it leaves its list and comes to the front of another
pub record IsMoved (vars : ℕ) (clauses : List (List ℕ)) (links watched : List ℕ) (lit to : ℕ) (front rest : List ℕ) : Type 0 where
  pub whole : IsWatches (record { vars = vars; clauses = clauses }) links watched
  pub way : IsWay links watched lit to front rest

pub moved : (vars : ℕ) (clauses : List (List ℕ)) (links watched front rest : List ℕ) (lit to at new : ℕ) → IsWatches (record { vars = vars; clauses = clauses }) links watched
    → 0 < lit → lit < 2 * (vars + 1) → IsWay links watched lit to front (at ∷ rest) → 0 < new → new < 2 * (vars + 1) → new ≢ lit
    → IsMoved vars clauses (set (set (set links to (get_or links at 0)) at (get_or (set links to (get_or links at 0)) new 0)) new at) (set watched at new) lit to front rest
moved vars clauses links watched front rest lit to at new i z l y zn ln d =
    let next : IsNext links watched (2 * (vars + 1)) lit to at front rest = way_next vars clauses links watched front rest lit to at i z l y in
    let t : IsThread links watched lit = i.threaded lit z l in
    let same : front ++ at ∷ rest ≡ t.list = way_list vars clauses links watched front (at ∷ rest) lit to i z l y in
    let out : IsOut (2 * (vars + 1)) links watched lit to at front rest =
    unlinked (2 * (vars + 1)) links watched front rest lit to at i.threaded i.heads z l (omega (arith, i.linked)) i.paired y.walked y.left
    (λ s e. let w : s < length watched = within_by watched s lit z e in omega (arith, i.paired)) y.ends in
    let links₁ = set links to (get_or links at 0) in
    let len : length links₁ ≡ length links = length-set links to (get_or links at 0) in
    let heads : AreHeads (2 * (vars + 1)) (set watched at 0) = λ place h. let a : place ≢ at = λ q. omega (arith, next.behind) in get_or-set_other watched at place 0 0 a ∙ i.heads place h in
    let free : get_or (set watched at 0) at 0 ≡ 0 = get_or-set_same watched at 0 0 (omega (arith, next.inside, i.paired)) in
    let th : Threaded (2 * (vars + 1)) (set (set links₁ at (get_or links₁ new 0)) new at) (set (set watched at 0) at new) =
    pushed (2 * (vars + 1)) links₁ (set watched at 0) new at out.threaded heads free next.behind (omega (arith, next.inside)) (omega (arith, length-set watched at 0, i.paired)) zn ln in
    let th' : Threaded (2 * (vars + 1)) (set (set links₁ at (get_or links₁ new 0)) new at) (set watched at new) =
    subst (Threaded (2 * (vars + 1)) (set (set links₁ at (get_or links₁ new 0)) new at)) (set-set watched at 0 new) th in
    let new_off : has (front ++ at ∷ rest) new ≡ false = ap (λ xs. has xs new) same ∙ off_list links watched lit new t (λ q. let e : 0 ≡ lit = sym (i.heads new ln) ∙ q in omega arith) in
    let off : has (front ++ rest) at ≡ false = out.off in
    let parts = has-append front (at ∷ rest) new in
    let joined = has-append front rest at in
    let last : has (lit ∷ front) to ≡ true = walk_last links front lit to y.walked in
    let front_at : has (lit ∷ front) at ≡ false = let a : lit ≢ at = λ q. omega (arith, next.behind) in grind (arith, a, off, joined) in
    let front_new : has (lit ∷ front) new ≡ false = grind (arith, d, new_off, parts) in
    let to_at : to ≢ at = apart_on (lit ∷ front) to at last front_at in
    let to_new : to ≢ new = apart_on (lit ∷ front) to new last front_new in
    record {
      whole = watches_written vars clauses links watched (set (set links₁ at (get_or links₁ new 0)) new at) at new i next.behind ln
          (length-set (set links₁ at (get_or links₁ new 0)) new at ∙ length-set links₁ at (get_or links₁ new 0) ∙ len) th';
      way = record {
        walked = walk_pushed links₁ front lit to at new (get_or links₁ new 0) out.walked front_at front_new;
        left = chain_pushed links₁ rest to at new (get_or links₁ new 0) out.left (grind (arith, to_at, off, joined)) (grind (arith, to_new, new_off, parts));
        ends = grind (arith, y.ends, has-append front rest 0, has-append front (at ∷ rest) 0);
      };
    }
  where
    apart_on : (xs : List ℕ) (x y : ℕ) → has xs x ≡ true → has xs y ≡ false → x ≢ y
    apart_on xs x y h n e = let both : true ≡ false = sym h ∙ ap (has xs) e ∙ n in cc

pub twin_even : (n : ℕ) → twin (2 * n) ≡ 2 * n + 1
twin_even n = elim (halves (2 * n)) [ inl h ↦ h.1 | inr h ↦ absurd (omega (arith, h.0)) ]

pub twin_odd : (n : ℕ) → twin (2 * n + 1) ≡ 2 * n
twin_odd n = elim (halves (2 * n + 1)) [ inl h ↦ absurd (omega (arith, h.0)) | inr h ↦ h.1 ∙ omega arith ]

-- the literals of a clause that can watch
pub record AreTwo (vars : ℕ) (clause : List ℕ) (first second : ℕ) : Type 0 where
  pub has_first : has clause first ≡ true
  pub has_second : has clause second ≡ true
  pub apart : first ≢ second
  pub first_over : IsOver vars first
  pub second_over : IsOver vars second

pub first_two : (vars : ℕ) (clause : List ℕ) → CanWatch vars clause → AreTwo vars clause (get_or clause 0 0) (get_or clause 1 0)
first_two vars [] c = absurd (omega (arith, c.two))
first_two vars (x ∷ []) c = absurd (omega (arith, c.two))
first_two vars (x ∷ y ∷ xs) c = record {
  has_first = grind arith;
  has_second = grind arith;
  apart = λ q. grind (arith, c.once.0, q);
  first_over = c.over 0 0 (omega arith);
  second_over = c.over 1 0 (omega arith);
}

-- a clause that watches two of its literals
pub set_both : (w : WatchState) (clause first second : ℕ) → get_or w.watched (2 * (w.vars + 1 + clause)) 0 ≡ first → get_or w.watched (2 * (w.vars + 1 + clause) + 1) 0 ≡ second
    → has (get_or w.clauses clause []) first ≡ true → has (get_or w.clauses clause []) second ≡ true → first ≢ second
    → IsSet w (2 * (w.vars + 1 + clause)) × IsSet w (2 * (w.vars + 1 + clause) + 1)
set_both w clause first second f s hf hs d =
    let n = w.vars + 1 + clause in
    let even : 2 * n / 2 - (w.vars + 1) ≡ clause = omega arith in
    let odd : (2 * n + 1) / 2 - (w.vars + 1) ≡ clause = omega arith in
    let one : get_or w.watched (twin (2 * n)) 0 ≡ second = ap (λ k. get_or w.watched k 0) (twin_even n) ∙ s in
    let two : get_or w.watched (twin (2 * n + 1)) 0 ≡ first = ap (λ k. get_or w.watched k 0) (twin_odd n) ∙ f in (
      record {
        inside = ap (has (clause_of w (2 * n))) f ∙ ap (λ k. has (get_or w.clauses k []) first) even ∙ hf;
        apart = λ q. d (sym f ∙ q ∙ one);
      },
      record {
        inside = ap (has (clause_of w (2 * n + 1))) s ∙ ap (λ k. has (get_or w.clauses k []) second) odd ∙ hs;
        apart = λ q. d (sym (sym s ∙ q ∙ two));
      },
    )

-- a clause that is in no list comes into the lists of two of its literals
pub record IsWatched (vars : ℕ) (clauses : List (List ℕ)) (links watched : List ℕ) (clause : ℕ) : Type 0 where
  pub whole : IsWatches (record { vars = vars; clauses = clauses }) links watched
  pub first : IsSet (record { vars = vars; clauses = clauses; watched = watched }) (2 * (vars + 1 + clause))
  pub second : IsSet (record { vars = vars; clauses = clauses; watched = watched }) (2 * (vars + 1 + clause) + 1)

pub watched_both : (vars : ℕ) (clauses : List (List ℕ)) (links watched : List ℕ) (clause at first second : ℕ) → IsWatches (record { vars = vars; clauses = clauses }) links watched
    → clause < length clauses → at ≡ 2 * (vars + 1 + clause) → get_or watched at 0 ≡ 0 → get_or watched (at + 1) 0 ≡ 0
    → first ≡ get_or (get_or clauses clause []) 0 0 → second ≡ get_or (get_or clauses clause []) 1 0
    → (links' : List ℕ) → links' ≡ set (set links at (get_or links first 0)) first at
    → IsWatched vars clauses (set (set links' (at + 1) (get_or links' second 0)) second (at + 1)) (set (set watched at first) (at + 1) second) clause
watched_both vars clauses links watched clause at first second i l a free free' f s links' lk =
    let two : AreTwo vars (get_or clauses clause []) (get_or (get_or clauses clause []) 0 0) (get_or (get_or clauses clause []) 1 0) = first_two vars (get_or clauses clause []) (i.clauses clause l) in
    let fo : IsOver vars first = subst (IsOver vars) (sym f) two.first_over in
    let so : IsOver vars second = subst (IsOver vars) (sym s) two.second_over in
    let i₁ : IsWatches (record { vars = vars; clauses = clauses }) links' (set watched at first) =
    subst (λ ls. IsWatches (record { vars = vars; clauses = clauses }) ls (set watched at first)) (sym lk)
    (watches_pushed vars clauses links watched at first i (omega arith) (omega (arith, i.linked)) (omega (arith, fo)) (omega (arith, fo)) free) in
    let wide : length watched ≡ 2 * (vars + 1 + length clauses) = i.paired ∙ i.linked in
    let other : at + 1 ≢ at = λ q. omega arith in
    let free₁ : get_or (set watched at first) (at + 1) 0 ≡ 0 = get_or-set_other watched at (at + 1) first 0 other ∙ free' in
    let here : get_or (set (set watched at first) (at + 1) second) at 0 ≡ first =
    get_or-set_other (set watched at first) (at + 1) at second 0 (λ q. omega arith) ∙ get_or-set_same watched at first 0 (omega arith) in
    let there : get_or (set (set watched at first) (at + 1) second) (at + 1) 0 ≡ second =
    get_or-set_same (set watched at first) (at + 1) second 0 (omega (arith, length-set watched at first)) in
    let both = set_both (record { vars = vars; clauses = clauses; watched = set (set watched at first) (at + 1) second }) clause first second
    (ap (λ k. get_or (set (set watched at first) (at + 1) second) k 0) (sym a) ∙ here)
    (ap (λ k. get_or (set (set watched at first) (at + 1) second) (k + 1) 0) (sym a) ∙ there)
    (ap (has (get_or clauses clause [])) f ∙ two.has_first) (ap (has (get_or clauses clause [])) s ∙ two.has_second) (λ q. two.apart (sym f ∙ q ∙ s)) in
    record {
      whole = watches_pushed vars clauses links' (set watched at first) (at + 1) second i₁ (omega arith) (omega (arith, i₁.linked)) (omega (arith, so)) (omega (arith, so)) free₁;
      first = both.0;
      second = both.1;
    }

-- The links lead from a place of a literal's list on to a watch of it.
pub record Leads (links watched : List ℕ) (lit to at : ℕ) : Type 0 where
  pub front : List ℕ
  pub rest : List ℕ
  pub way : IsWay links watched lit to front rest
  pub on : has rest at ≡ true

pub way_start : (vars : ℕ) (clauses : List (List ℕ)) (links watched : List ℕ) (lit : ℕ) → (i : IsWatches (record { vars = vars; clauses = clauses }) links watched)
    → (z : 0 < lit) → (l : lit < 2 * (vars + 1)) → IsWay links watched lit lit [] (i.threaded lit z l).list
way_start vars clauses links watched lit i z l =
    let t : IsThread links watched lit = i.threaded lit z l in
    record { walked = refl; left = t.read; ends = off_list links watched lit 0 t (λ q. let e : 0 ≡ lit = sym (i.heads 0 (omega arith)) ∙ q in omega arith) }

pub way_step : (links watched front rest : List ℕ) (lit to x : ℕ) → IsWay links watched lit to front (x ∷ rest) → IsWay links watched lit x (front ++ x ∷ []) rest
way_step links watched front rest lit to x y = record {
  walked = walk-push links front lit to x y.walked y.left.0;
  left = y.left.1;
  ends = ap (λ xs. has xs 0) (append_assoc front (x ∷ []) rest) ∙ y.ends;
}

pub leads_start : (vars : ℕ) (clauses : List (List ℕ)) (links watched : List ℕ) (lit at : ℕ) → IsWatches (record { vars = vars; clauses = clauses }) links watched
    → 0 < lit → lit < 2 * (vars + 1) → get_or watched at 0 ≡ lit → Leads links watched lit lit at
leads_start vars clauses links watched lit at i z l e = record {
  front = [];
  rest = (i.threaded lit z l).list;
  way = way_start vars clauses links watched lit i z l;
  on = ((i.threaded lit z l).exact at).1 e;
}

-- the next watch on the way
pub record IsStep (links watched : List ℕ) (literals lit to at : ℕ) : Type 0 where
  pub next : ℕ
  pub front : List ℕ
  pub rest : List ℕ
  pub way : IsWay links watched lit to front (next ∷ rest)
  pub on : has (next ∷ rest) at ≡ true
  pub is : get_or links to 0 ≡ next
  pub known : IsNext links watched literals lit to next front rest

pub leads_step : (vars : ℕ) (clauses : List (List ℕ)) (links watched : List ℕ) (lit to at : ℕ) → IsWatches (record { vars = vars; clauses = clauses }) links watched
    → 0 < lit → lit < 2 * (vars + 1) → Leads links watched lit to at → IsStep links watched (2 * (vars + 1)) lit to at
leads_step vars clauses links watched lit to at i z l leads = go leads.front leads.rest leads.way leads.on
  where
    go : (front rest : List ℕ) → IsWay links watched lit to front rest → has rest at ≡ true → IsStep links watched (2 * (vars + 1)) lit to at
    go front [] way on = absurd (grind (arith, on))
    go front (x ∷ rest) way on = record {
      next = x;
      front = front;
      rest = rest;
      way = way;
      on = on;
      is = way.left.0;
      known = way_next vars clauses links watched front rest lit to x i z l way;
    }

pub leads_on : (vars : ℕ) (clauses : List (List ℕ)) (links watched : List ℕ) (lit to at n : ℕ) → IsWatches (record { vars = vars; clauses = clauses }) links watched
    → 0 < lit → lit < 2 * (vars + 1) → Leads links watched lit to at → n ≡ get_or links to n → n ≢ at
    → Leads links watched lit n at × (length (read links (length links) n) < length (read links (length links) to))
leads_on vars clauses links watched lit to at n i z l leads e d =
    let s : IsStep links watched (2 * (vars + 1)) lit to at = leads_step vars clauses links watched lit to at i z l leads in
    let is : n ≡ s.next = get_or_read links to n s.known.from e 0 ∙ s.is in
    let apart : s.next ≢ at = λ q. d (is ∙ q) in
    let way : IsWay links watched lit s.next (s.front ++ s.next ∷ []) s.rest = way_step links watched s.front s.rest lit to s.next s.way in
    let here : read links (length links) to ≡ s.next ∷ s.rest = way_read vars clauses links watched s.front (s.next ∷ s.rest) lit to i z l s.way in
    let there : read links (length links) s.next ≡ s.rest = way_read vars clauses links watched (s.front ++ s.next ∷ []) s.rest lit s.next i z l way in (
      subst (λ k. Leads links watched lit k at) (sym is) (record { front = s.front ++ s.next ∷ []; rest = s.rest; way = way; on = grind (arith, s.on, apart) }),
      let lt : length (read links (length links) s.next) < length (read links (length links) to) = rw (here, there) (omega arith) in
          subst (λ k. length (read links (length links) k) < length (read links (length links) to)) (sym is) lt,
    )

pub leads_at : (vars : ℕ) (clauses : List (List ℕ)) (links watched : List ℕ) (lit to at n new : ℕ) → IsWatches (record { vars = vars; clauses = clauses }) links watched
    → 0 < lit → lit < 2 * (vars + 1) → Leads links watched lit to at → n ≡ get_or links to n → n ≡ at → 0 < new → new < 2 * (vars + 1) → new ≢ lit
    → IsWatches (record { vars = vars; clauses = clauses }) (set (set (set links to (get_or links at 0)) at (get_or (set links to (get_or links at 0)) new 0)) new at) (set watched at new)
leads_at vars clauses links watched lit to at n new i z l leads e q zn ln d =
    let s : IsStep links watched (2 * (vars + 1)) lit to at = leads_step vars clauses links watched lit to at i z l leads in
    let is : s.next ≡ at = sym (get_or_read links to n s.known.from e 0 ∙ s.is) ∙ q in
    let way : IsWay links watched lit to s.front (at ∷ s.rest) = subst (λ k. IsWay links watched lit to s.front (k ∷ s.rest)) is s.way in
    (moved vars clauses links watched s.front s.rest lit to at new i z l way zn ln d).whole

pub over_has : (vars : ℕ) (xs : List ℕ) (x : ℕ) → All (IsOver vars) xs → has xs x ≡ true → IsOver vars x
over_has vars [] x a h = absurd (grind (arith, h))
over_has vars (y ∷ ys) x a h = elim (tested (eqb y x)) [
  | inl same ↦ let e : y ≡ x = grind (arith, same) in subst (IsOver vars) e (a 0 0 (omega arith))
  | inr other ↦ over_has vars ys x (λ k d lt. a (suc k) d (omega arith)) (grind (arith, h, other))
]

-- a side of a clause is one of its two watches
pub side_cases : (w : WatchState) (clause lit : ℕ) → (side_of w clause lit ≡ watch_of w clause) ⊎ (side_of w clause lit ≡ watch_of w clause + 1)
side_cases w clause lit = elim (tested (eqb (get_or w.watched (watch_of w clause) 0) lit)) [
  | inl same ↦ inl (rw same refl)
  | inr other ↦ inr (rw other refl)
]

pub side_apart : (w : WatchState) (clause old new : ℕ) → get_or w.watched (side_of w clause old) 0 ≡ old → get_or w.watched (watch_of w clause) 0 ≢ new → get_or w.watched (watch_of w clause + 1) 0 ≢ new → new ≢ old
side_apart w clause old new is a b q = elim (side_cases w clause old) [
  | inl e ↦ a (ap (λ k. get_or w.watched k 0) (sym e) ∙ is ∙ sym q)
  | inr e ↦ b (ap (λ k. get_or w.watched k 0) (sym e) ∙ is ∙ sym q)
]
