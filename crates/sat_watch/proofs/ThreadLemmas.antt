-- Lists linked by index: what a write to a link leaves, and how a watch leaves one list and joins another.
use Rattle.std.proofs.Common.{◌≡◌, ◌≢◌, ◌↔◌, ℕ, ◌<◌, ◌≤◌, true, false, eqb, ltb, ◌||◌, List, [], ◌∷◌, ◌++◌, length, get_or, set, refl, sym, ap, ◌∙◌, subst, inl, inr, ◌⊎◌, arith, get_or-set_same, get_or-set_other}
use Rattle.std.proofs.Math.ListN.{length-set}
use Rattle.std.proofs.lemmas.List.{set_past}
use Rattle.sat_watch.specs.Literals.{has, EachOnce}
use Rattle.sat_watch.specs.Threads.{Chain, Walk, IsThread, Threaded}
use Rattle.sat_watch.proofs.LiteralLemmas.{tested}

pub has-append : (xs ys : List ℕ) (q : ℕ) → has (xs ++ ys) q ≡ (has xs q || has ys q)
has-append [] ys q = refl
has-append (x ∷ xs) ys q = grind (arith, has-append xs ys q)

-- an element that stands between others once
pub once_between : (front rest : List ℕ) (x : ℕ) → EachOnce (front ++ x ∷ rest) → EachOnce (front ++ rest) × (has (front ++ rest) x ≡ false)
once_between [] rest x o = (o.1, o.0)
once_between (y ∷ ys) rest x o =
    let h : EachOnce (ys ++ rest) × (has (ys ++ rest) x ≡ false) = once_between ys rest x o.1 in
    let apart : has (ys ++ x ∷ rest) y ≡ (has ys y || has (x ∷ rest) y) = has-append ys (x ∷ rest) y in
    let joined : has (ys ++ rest) y ≡ (has ys y || has rest y) = has-append ys rest y in
    ((grind (arith, o.0, apart, joined), h.0), grind (arith, o.0, apart, h.1))

-- the same list without it has the others
pub has_between : (front rest : List ℕ) (x s : ℕ) → s ≢ x → has (front ++ rest) s ≡ has (front ++ x ∷ rest) s
has_between front rest x s d = has-append front rest s ∙ grind (arith, d) ∙ sym (has-append front (x ∷ rest) s)

-- a link that is not on the way may be written
pub chain_kept : (links xs : List ℕ) (at i u : ℕ) → Chain links at xs → has (at ∷ xs) i ≡ false → Chain (set links i u) at xs
chain_kept links [] at i u c o = grind (arith, get_or-set_other links i at u 0)
chain_kept links (x ∷ xs) at i u c o = grind (arith, get_or-set_other links i at u 0, chain_kept links xs x i u c.1)

pub walk_kept : (links xs : List ℕ) (at to i u : ℕ) → Walk links at xs to → has (at ∷ xs) i ≡ false → Walk (set links i u) at xs to
walk_kept links [] at to i u c o = c
walk_kept links (x ∷ xs) at to i u c o = grind (arith, get_or-set_other links i at u 0, walk_kept links xs x to i u c.1)

-- the link at the end of a walk is not on it
pub walk_last : (links xs : List ℕ) (at to : ℕ) → Walk links at xs to → has (at ∷ xs) to ≡ true
walk_last links [] at to w = grind arith
walk_last links (x ∷ xs) at to w = grind (arith, walk_last links xs x to w.1)

pub walk_end_kept : (links xs : List ℕ) (at to u : ℕ) → Walk links at xs to → EachOnce (at ∷ xs) → Walk (set links to u) at xs to
walk_end_kept links [] at to u w o = w
walk_end_kept links (x ∷ xs) at to u w o =
    let last : has (x ∷ xs) to ≡ true = walk_last links xs x to w.1 in
    let apart : at ≢ to = λ q. grind (arith, o.0, last, q) in
    (get_or-set_other links to at u 0 apart ∙ w.0, walk_end_kept links xs x to u w.1 o.1)

pub walk-chain : (links xs ys : List ℕ) (at to : ℕ) → Walk links at xs to → Chain links to ys → Chain links at (xs ++ ys)
walk-chain links [] ys at to w c = subst (λ k. Chain links k ys) (sym w) c
walk-chain links (x ∷ xs) ys at to w c = (w.0, walk-chain links xs ys x to w.1 c)

pub walk-push : (links xs : List ℕ) (at to next : ℕ) → Walk links at xs to → get_or links to 0 ≡ next → Walk links at (xs ++ next ∷ []) next
walk-push links [] at to next w e = (ap (λ k. get_or links k 0) w ∙ e, refl)
walk-push links (x ∷ xs) at to next w e = (w.0, walk-push links xs x to next w.1 e)

-- links lead over one list alone
pub chain_same : (links xs ys : List ℕ) (at : ℕ) → Chain links at xs → Chain links at ys → has xs 0 ≡ false → has ys 0 ≡ false → xs ≡ ys
chain_same links [] [] at c d h i = refl
chain_same links [] (y ∷ ys) at c d h i = absurd (let e : y ≡ 0 = sym d.0 ∙ c in grind (arith, i, e))
chain_same links (x ∷ xs) [] at c d h i = absurd (let e : x ≡ 0 = sym c.0 ∙ d in grind (arith, h, e))
chain_same links (x ∷ xs) (y ∷ ys) at c d h i =
    let e : x ≡ y = sym c.0 ∙ d.0 in
    let rest : xs ≡ ys = chain_same links xs ys x c.1 (subst (λ k. Chain links k ys) (sym e) d.1) (grind (arith, h)) (grind (arith, i)) in cc

-- the watch behind the end of a walk leaves the list
pub chain_out : (links rest : List ℕ) (to x : ℕ) → Chain links to (x ∷ rest) → has rest to ≡ false → to < length links
    → Chain (set links to (get_or links x 0)) to rest
chain_out links [] to x c o l = get_or-set_same links to (get_or links x 0) 0 l ∙ c.1
chain_out links (y ∷ ys) to x c o l =
    (get_or-set_same links to (get_or links x 0) 0 l ∙ c.1.0, chain_kept links ys y to (get_or links x 0) c.1.1 o)

-- a watch comes to the front
pub chain_in : (links list : List ℕ) (lit at : ℕ) → Chain links lit list → has (lit ∷ list) at ≡ false → has list lit ≡ false → lit < length links → at < length links
    → Chain (set (set links at (get_or links lit 0)) lit at) lit (at ∷ list)
chain_in links list lit at c o p l m =
    let apart : at ≢ lit = λ q. grind (arith, o, q) in
    (get_or-set_same (set links at (get_or links lit 0)) lit at 0 (rw length-set l), behind links list lit at c o p apart m)
  where
    behind : (links list : List ℕ) (lit at : ℕ) → Chain links lit list → has (lit ∷ list) at ≡ false → has list lit ≡ false → at ≢ lit → at < length links
        → Chain (set (set links at (get_or links lit 0)) lit at) at list
    behind links [] lit at c o p d m = get_or-set_other (set links at (get_or links lit 0)) lit at at 0 d ∙ get_or-set_same links at (get_or links lit 0) 0 m ∙ c
    behind links (x ∷ xs) lit at c o p d m = (
      get_or-set_other (set links at (get_or links lit 0)) lit at at 0 d ∙ get_or-set_same links at (get_or links lit 0) 0 m ∙ c.0,
      chain_kept (set links at (get_or links lit 0)) xs x lit at (chain_kept links xs x at (get_or links lit 0) c.1 (grind (arith, o))) p,
    )

-- The places of the literals are for no watch.
abbrev pub AreHeads : ℕ → List ℕ → Type 0
AreHeads literals watched = (place : ℕ) → place < literals → get_or watched place 0 ≡ 0

-- what is for another literal, or for none, is not on the list
pub off_list : (links watched : List ℕ) (lit place : ℕ) (t : IsThread links watched lit) → get_or watched place 0 ≢ lit → has t.list place ≡ false
off_list links watched lit place t n = elim (tested (has t.list place)) [
  | inl on ↦ absurd (n ((t.exact place).0 on))
  | inr off ↦ off
]

pub off_way : (links watched : List ℕ) (lit place : ℕ) (t : IsThread links watched lit) → lit ≢ place → get_or watched place 0 ≢ lit → has (lit ∷ t.list) place ≡ false
off_way links watched lit place t d n = grind (arith, d, off_list links watched lit place t n)

-- the list that is read along the links is the literal's
pub list_is : (literals : ℕ) (links watched xs : List ℕ) (lit : ℕ) (t : IsThread links watched lit) → 0 < literals → 0 < lit → AreHeads literals watched
    → Chain links lit xs → has xs 0 ≡ false → xs ≡ t.list
list_is literals links watched xs lit t z l h c o =
    chain_same links xs t.list lit c t.read o (off_list links watched lit 0 t (λ q. let e : 0 ≡ lit = sym (h 0 z) ∙ q in omega arith))

-- a thread that a write of one link and of one watch leaves as it was
pub thread_kept : (links watched : List ℕ) (lit i u at new : ℕ) (t : IsThread links watched lit) → has (lit ∷ t.list) i ≡ false
    → get_or watched at 0 ≢ lit → new ≢ lit → IsThread (set links i u) (set watched at new) lit
thread_kept links watched lit i u at new t o n m = record {
  list = t.list;
  read = chain_kept links t.list lit i u t.read o;
  once = t.once;
  exact = λ s. elim (tested (eqb s at)) [
    | inl same ↦
        let e : s ≡ at = grind (arith, same) in (
          λ on. absurd (n (subst (λ k. get_or watched k 0 ≡ lit) e ((t.exact s).0 on))),
          λ is. absurd (kept_apart watched s at new lit e n m is),
        )
    | inr other ↦
        let d : s ≢ at = λ q. grind (arith, other, q) in
        (λ on. get_or-set_other watched at s new 0 d ∙ (t.exact s).0 on, λ is. (t.exact s).1 (sym (get_or-set_other watched at s new 0 d) ∙ is))
  ];
}
  where
    kept_apart : (watched : List ℕ) (s at new lit : ℕ) → s ≡ at → get_or watched at 0 ≢ lit → new ≢ lit → get_or (set watched at new) s 0 ≡ lit → ⊥
    kept_apart watched s at new lit e n m is = elim (tested (ltb at (length watched))) [
      | inl within ↦ let w : at < length watched = grind (arith, within) in
          m (sym (get_or-set_same watched at new 0 w) ∙ ap (λ k. get_or (set watched at new) k 0) (sym e) ∙ is)
      | inr past ↦ n (sym (ap (λ ws. get_or ws at 0) (set_past watched at new (grind (arith, past)))) ∙ ap (λ k. get_or (set watched at new) k 0) (sym e) ∙ is)
    ]

-- a watch leaves its list, whose links lead over it behind to
pub record IsOut (literals : ℕ) (links watched : List ℕ) (lit to at : ℕ) (front rest : List ℕ) : Type 0 where
  pub threaded : Threaded literals (set links to (get_or links at 0)) (set watched at 0)
  pub walked : Walk (set links to (get_or links at 0)) lit front to
  pub left : Chain (set links to (get_or links at 0)) to rest
  pub off : has (front ++ rest) at ≡ false

pub unlinked : (literals : ℕ) (links watched front rest : List ℕ) (lit to at : ℕ) → Threaded literals links watched → AreHeads literals watched
    → 0 < lit → lit < literals → literals ≤ length links → length watched ≡ length links → Walk links lit front to → Chain links to (at ∷ rest)
    → ((s : ℕ) → get_or watched s 0 ≡ lit → s < length links) → has (front ++ at ∷ rest) 0 ≡ false
    → IsOut literals links watched lit to at front rest
unlinked literals links watched front rest lit to at th h z l big pair w c within no0 =
    let t : IsThread links watched lit = th lit z l in
    let whole : Chain links lit (front ++ at ∷ rest) = walk-chain links front (at ∷ rest) lit to w c in
    let same : front ++ at ∷ rest ≡ t.list = list_is literals links watched (front ++ at ∷ rest) lit t (omega arith) z h whole no0 in
    let once : EachOnce (front ++ at ∷ rest) = subst EachOnce (sym same) t.once in
    let exact : (s : ℕ) → (has (front ++ at ∷ rest) s ≡ true) ↔ (get_or watched s 0 ≡ lit) = subst (λ xs. (s : ℕ) → (has xs s ≡ true) ↔ (get_or watched s 0 ≡ lit)) (sym same) t.exact in
    let on : has (front ++ at ∷ rest) at ≡ true = has-append front (at ∷ rest) at ∙ grind arith in
    let is_at : get_or watched at 0 ≡ lit = (exact at).0 on in
    let head : has (front ++ at ∷ rest) lit ≡ false = ap (λ xs. has xs lit) same ∙ off_list links watched lit lit t (λ q. let e : 0 ≡ lit = sym (h lit l) ∙ q in omega arith) in
    let between : EachOnce (front ++ rest) × (has (front ++ rest) at ≡ false) = once_between front rest at once in
    let front_once : EachOnce (lit ∷ front) = (grind (arith, head, has-append front (at ∷ rest) lit), once_front front (at ∷ rest) once) in
    let last : has (lit ∷ front) to ≡ true = walk_last links front lit to w in
    let off_rest : has rest to ≡ false = end_off front rest lit to at head once last in
    let to_is : (lit ≡ to) ⊎ (get_or watched to 0 ≡ lit) = end_is front rest lit to at watched exact last in
    let to_within : to < length links = elim to_is [ inl e ↦ omega arith | inr e ↦ within to e ] in
    let walked' : Walk (set links to (get_or links at 0)) lit front to = walk_end_kept links front lit to (get_or links at 0) w front_once in
    let left' : Chain (set links to (get_or links at 0)) to rest = chain_out links rest to at c off_rest to_within in
    record {
      threaded = λ lit' z' l'. elim (tested (eqb lit' lit)) [
        | inl eq ↦
            let e : lit ≡ lit' = grind (arith, eq) in
            subst (IsThread (set links to (get_or links at 0)) (set watched at 0)) e (record {
              list = front ++ rest;
              read = walk-chain (set links to (get_or links at 0)) front rest lit to walked' left';
              once = between.0;
              exact = out_exact watched front rest lit at z (omega (arith, within at is_at)) exact between.1;
            })
        | inr ne ↦
            let d : lit ≢ lit' = λ q. grind (arith, ne, q) in
            let t' : IsThread links watched lit' = th lit' z' l' in
            let off : has (lit' ∷ t'.list) to ≡ false = elim to_is [
              | inl e ↦ off_way links watched lit' to t' (λ q. d (e ∙ sym q)) (λ q. let p : 0 ≡ lit' = sym (h lit l) ∙ ap (λ k. get_or watched k 0) e ∙ q in omega arith)
              | inr e ↦ off_way links watched lit' to t' (λ q. let p : 0 ≡ lit = sym (h lit' l') ∙ ap (λ k. get_or watched k 0) q ∙ e in omega arith) (λ q. d (sym e ∙ q))
            ] in
            thread_kept links watched lit' to (get_or links at 0) at 0 t' off (λ q. d (sym is_at ∙ q)) (λ q. omega arith)
      ];
      walked = walked';
      left = left';
      off = between.1;
    }
  where
    once_front : (front more : List ℕ) → EachOnce (front ++ more) → EachOnce front
    once_front [] more o = tt
    once_front (y ∷ ys) more o = (grind (arith, has-append ys more y, o.0), once_front ys more o.1)

    end_off : (front rest : List ℕ) (lit to at : ℕ) → has (front ++ at ∷ rest) lit ≡ false → EachOnce (front ++ at ∷ rest) → has (lit ∷ front) to ≡ true → has rest to ≡ false
    end_off front rest lit to at n o h = elim (tested (eqb lit to)) [
      | inl same ↦ let e : lit ≡ to = grind (arith, same) in ap (has rest) (sym e) ∙ grind (arith, n, has-append front (at ∷ rest) lit)
      | inr other ↦ let off : has (at ∷ rest) to ≡ false = apart_parts front (at ∷ rest) to o (grind (arith, h, other)) in grind (arith, off)
    ]
      where
        apart_parts : (front more : List ℕ) (x : ℕ) → EachOnce (front ++ more) → has front x ≡ true → has more x ≡ false
        apart_parts [] more x o h = absurd (grind arith)
        apart_parts (y ∷ ys) more x o h = elim (tested (eqb y x)) [
          | inl same ↦ let e : y ≡ x = grind (arith, same) in ap (has more) (sym e) ∙ grind (arith, o.0, has-append ys more y)
          | inr other ↦ apart_parts ys more x o.1 (grind (arith, h, other))
        ]

    end_is : (front rest : List ℕ) (lit to at : ℕ) (watched : List ℕ) → ((s : ℕ) → (has (front ++ at ∷ rest) s ≡ true) ↔ (get_or watched s 0 ≡ lit)) → has (lit ∷ front) to ≡ true
        → (lit ≡ to) ⊎ (get_or watched to 0 ≡ lit)
    end_is front rest lit to at watched exact h = elim (tested (eqb lit to)) [
      | inl same ↦ inl (grind (arith, same))
      | inr other ↦ inr ((exact to).0 (has-append front (at ∷ rest) to ∙ grind (arith, h, other)))
    ]

    out_exact : (watched front rest : List ℕ) (lit at : ℕ) → 0 < lit → at < length watched → ((s : ℕ) → (has (front ++ at ∷ rest) s ≡ true) ↔ (get_or watched s 0 ≡ lit)) → has (front ++ rest) at ≡ false
        → (s : ℕ) → (has (front ++ rest) s ≡ true) ↔ (get_or (set watched at 0) s 0 ≡ lit)
    out_exact watched front rest lit at z w exact off s = elim (tested (eqb s at)) [
      | inl same ↦
          let e : s ≡ at = grind (arith, same) in (
            λ on. absurd (let both : true ≡ false = sym on ∙ ap (has (front ++ rest)) e ∙ off in cc),
            λ is. absurd (let p : 0 ≡ lit = sym (get_or-set_same watched at 0 0 w) ∙ ap (λ k. get_or (set watched at 0) k 0) (sym e) ∙ is in omega arith),
          )
      | inr other ↦
          let d : s ≢ at = λ q. grind (arith, other, q) in (
            λ on. get_or-set_other watched at s 0 0 d ∙ (exact s).0 (sym (has_between front rest at s d) ∙ on),
            λ is. has_between front rest at s d ∙ (exact s).1 (sym (get_or-set_other watched at s 0 0 d) ∙ is),
          )
    ]

-- a watch that is in no list comes to the front of one
pub pushed : (literals : ℕ) (links watched : List ℕ) (lit at : ℕ) → Threaded literals links watched → AreHeads literals watched → get_or watched at 0 ≡ 0
    → literals ≤ at → at < length links → length watched ≡ length links → 0 < lit → lit < literals
    → Threaded literals (set (set links at (get_or links lit 0)) lit at) (set watched at lit)
pushed literals links watched lit at th h free l w pair z lt lit' z' l' = elim (tested (eqb lit' lit)) [
  | inl eq ↦ let e : lit ≡ lit' = grind (arith, eq) in
      subst (IsThread (set (set links at (get_or links lit 0)) lit at) (set watched at lit)) e (pushed_here literals links watched lit at (th lit z lt) h free l w pair z lt)
  | inr ne ↦
      let d : lit ≢ lit' = λ q. grind (arith, ne, q) in
      let t' : IsThread links watched lit' = th lit' z' l' in
      let off_at : has (lit' ∷ t'.list) at ≡ false = off_way links watched lit' at t' (λ q. omega arith) (λ q. let p : 0 ≡ lit' = sym free ∙ q in omega arith) in
      let off_lit : has (lit' ∷ t'.list) lit ≡ false = off_way links watched lit' lit t' (λ q. d (sym q)) (λ q. let p : 0 ≡ lit' = sym (h lit lt) ∙ q in omega arith) in
      let one : IsThread (set links at (get_or links lit 0)) watched lit' = record {
        list = t'.list;
        read = chain_kept links t'.list lit' at (get_or links lit 0) t'.read off_at;
        once = t'.once;
        exact = t'.exact;
      } in
      thread_kept (set links at (get_or links lit 0)) watched lit' lit at at lit one off_lit (λ q. let p : 0 ≡ lit' = sym free ∙ q in omega arith) d
]
  where
    pushed_here : (literals : ℕ) (links watched : List ℕ) (lit at : ℕ) → IsThread links watched lit → AreHeads literals watched → get_or watched at 0 ≡ 0
        → literals ≤ at → at < length links → length watched ≡ length links → 0 < lit → lit < literals
        → IsThread (set (set links at (get_or links lit 0)) lit at) (set watched at lit) lit
    pushed_here literals links watched lit at t h free l w pair z lt =
        let off_at : has (lit ∷ t.list) at ≡ false = off_way links watched lit at t (λ q. omega arith) (λ q. let p : 0 ≡ lit = sym free ∙ q in omega arith) in
        let off_lit : has t.list lit ≡ false = off_list links watched lit lit t (λ q. let p : 0 ≡ lit = sym (h lit lt) ∙ q in omega arith) in
        record {
          list = at ∷ t.list;
          read = chain_in links t.list lit at t.read off_at off_lit (omega arith) w;
          once = (grind (arith, off_at), t.once);
          exact = λ s. elim (tested (eqb s at)) [
            | inl same ↦
                let e : s ≡ at = grind (arith, same) in (
                  λ on. ap (λ k. get_or (set watched at lit) k 0) e ∙ get_or-set_same watched at lit 0 (omega arith),
                  λ is. grind (arith, e),
                )
            | inr other ↦
                let d : s ≢ at = λ q. grind (arith, other, q) in (
                  λ on. get_or-set_other watched at s lit 0 d ∙ (t.exact s).0 (grind (arith, on, d)),
                  λ is. let old : has t.list s ≡ true = (t.exact s).1 (sym (get_or-set_other watched at s lit 0 d) ∙ is) in grind (arith, old),
                )
          ];
        }

-- a walk that neither write touches
pub walk_pushed : (links xs : List ℕ) (from to at lit u : ℕ) → Walk links from xs to → has (from ∷ xs) at ≡ false → has (from ∷ xs) lit ≡ false → Walk (set (set links at u) lit at) from xs to
walk_pushed links xs from to at lit u w o p = walk_kept (set links at u) xs from to lit at (walk_kept links xs from to at u w o) p

pub chain_pushed : (links xs : List ℕ) (from at lit u : ℕ) → Chain links from xs → has (from ∷ xs) at ≡ false → has (from ∷ xs) lit ≡ false → Chain (set (set links at u) lit at) from xs
chain_pushed links xs from at lit u c o p = chain_kept (set links at u) xs from lit at (chain_kept links xs from at u c o) p
