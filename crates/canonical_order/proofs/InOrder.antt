-- A start that fits is canonical exactly where its objects are met in number order.
use Rattle.std.proofs.Common.{◌≡◌, ◌↔◌, ℕ, zero, suc, ◌+◌, ◌<◌, List, [], ◌∷◌, ◌++◌, length, Some, refl, sym, ◌∙◌, ap, subst, arith, append_assoc}
use Rattle.std.specs.Prelude.{map, flat_map, slice_get, slice_index, Contains, option_to_list}
use Rattle.std.specs.List.{range_with_len}
use Rattle.std.proofs.lemmas.List.{length-append, append-nil}
use Rattle.std.proofs.lemmas.List.Concat.{flat_map-cons}
use Rattle.std.proofs.lemmas.List.Elements.{Contains-append_left, Contains-append_right}
use Rattle.std.proofs.lemmas.List.FromFn.{length-range_with_len, get_or-range_with_len, get_or-map-range_with_len, length-map-range_with_len}
use Rattle.heap_core.specs.declared.value.Value.{Value}
use Rattle.heap_core.specs.declared.value.Value.TheVariants.{Obj}
use Rattle.heap_core.specs.declared.value.Object.{Object}
use Rattle.heap_core.specs.declared.start.Start.{Start}
use Rattle.heap_core.specs.Posed.{Posed}
use Rattle.heap_core.specs.Start.{Fits, Reached, root, held}
use Rattle.canonical_order.specs.Canonical.{cells_of, places, first_place, HoldsEachOnce, IsCanonical}
use Rattle.canonical_order.specs.Meeting.{met_all, places_in_order}
use Rattle.canonical_order.proofs.Counting.{range_at}
use Rattle.canonical_order.proofs.FirstPlaces.{first_within}
use Rattle.canonical_order.proofs.Meeting.{IsMet, met_rises, rises_met}

-- ## the places in number order

at_end : (pre : List Object) (x : Object) (xs : List Object) → slice_get (pre ++ x ∷ xs) (length pre) ≡ Some x
at_end [] x xs = refl
at_end (y ∷ pre) x xs = at_end pre x xs

pushed : (pre : List Object) (x : Object) → length (pre ++ x ∷ []) ≡ length pre + 1
pushed pre x = length-append pre (x ∷ []) ∙ omega arith

single : (x : Object) → flat_map (λ (y : Object). y.cells) (x ∷ []) ≡ x.cells
single x = flat_map-cons (λ (y : Object). y.cells) x [] ∙ append-nil x.cells

cells_from : (pre xs : List Object) → flat_map (cells_of (pre ++ xs)) (range_with_len (length pre) (length xs)) ≡ flat_map (λ x. x.cells) xs
cells_from pre [] = refl
cells_from pre (x ∷ xs) =
    let here : slice_get (pre ++ x ∷ xs) (length pre) ≡ Some x = at_end pre x xs in
    let first : cells_of (pre ++ x ∷ xs) (length pre) ≡ x.cells = ap (λ o. flat_map (λ (y : Object). y.cells) (option_to_list o)) here ∙ single x in
    let whole : (pre ++ x ∷ []) ++ xs ≡ pre ++ x ∷ xs = append_assoc pre (x ∷ []) xs in
    let long : length (pre ++ x ∷ []) ≡ length pre + 1 = pushed pre x in
    let rest : flat_map (cells_of (pre ++ x ∷ xs)) (range_with_len (length pre + 1) (length xs)) ≡ flat_map (λ y. y.cells) xs =
    ap (λ n. flat_map (cells_of (pre ++ x ∷ xs)) (range_with_len n (length xs))) (sym long) ∙ ap (λ ys. flat_map (cells_of ys) (range_with_len (length (pre ++ x ∷ [])) (length xs))) (sym whole) ∙ cells_from (pre ++ x ∷ []) xs
    in
    flat_map-cons (cells_of (pre ++ x ∷ xs)) (length pre) (range_with_len (length pre + 1) (length xs)) ∙ ap (λ cs. cs ++ flat_map (cells_of (pre ++ x ∷ xs)) (range_with_len (length pre + 1) (length xs))) first ∙ ap (λ cs. x.cells ++ cs) rest ∙ sym (flat_map-cons (λ (y : Object). y.cells) x xs)

places_are : (s : Start) → places s (range_with_len 0 (length s.objects)) ≡ places_in_order s
places_are s = ap (λ cs. s.this ∷ (s.args ++ cs)) (cells_from [] s.objects)

-- ## every object that is reached has a place

cells_contain : (xs : List Object) (p o : ℕ) (x : Object) → slice_get xs p ≡ Some x → Contains x.cells (Obj o) → Contains (flat_map (λ y. y.cells) xs) (Obj o)
cells_contain [] p o x there cell = absurd (cc)
cells_contain (y ∷ xs) zero o x there cell =
    let same : x ≡ y = cc in
    subst (λ cs. Contains cs (Obj o)) (sym (flat_map-cons (λ (z : Object). z.cells) y xs)) (Contains-append_left y.cells (flat_map (λ z. z.cells) xs) (Obj o) (subst (λ z. Contains z.cells (Obj o)) same cell))
cells_contain (y ∷ xs) (suc p) o x there cell =
    subst (λ cs. Contains cs (Obj o)) (sym (flat_map-cons (λ (z : Object). z.cells) y xs)) (Contains-append_right y.cells (flat_map (λ z. z.cells) xs) (Obj o) (cells_contain xs p o x there cell))

reached_placed : (s : Start) (o : ℕ) → Reached s o → Contains (places_in_order s) (Obj o)
reached_placed s _ (root o at_root) =
    Contains-append_left (s.this ∷ s.args) (flat_map (λ y. y.cells) s.objects) (Obj o) at_root
reached_placed s _ (held p o x from there cell) =
    Contains-append_right (s.this ∷ s.args) (flat_map (λ y. y.cells) s.objects) (Obj o) (cells_contain s.objects p o x there cell)

-- ## 0, 1, 2 and so on holds each number once

pub range_each_once : (n : ℕ) → HoldsEachOnce (range_with_len 0 n) n
range_each_once n = record {
  as_many = length-range_with_len 0 n;
  within = λ i o there. omega (arith, (range_at n i o there).0, (range_at n i o there).1);
  apart = λ i j o here there. omega (arith, (range_at n i o here).1, (range_at n j o there).1);
  each = λ o within. (o, omega (arith, within, length-range_with_len 0 n), get_or-range_with_len 0 n o o within ∙ omega arith);
}

-- ## the two together

rising_at : (f : ℕ → ℕ) (n k : ℕ) → k < n → slice_index (map f (range_with_len 0 n)) k ≡ f k
rising_at f n k within = get_or-map-range_with_len f 0 n k k 0 within (omega arith)

begun : (n : ℕ) (vs : List Value) → IsMet n vs 0 0
begun n vs = record {
  within = omega arith;
  below = λ o lt. absurd (omega arith);
  above = λ o le lt. omega arith;
  rising = λ o lt. absurd (omega arith);
}

canonical : (s : Start) → met_all (length s.objects) (Some 0) (places_in_order s) ≡ Some (length s.objects) → IsCanonical s
canonical s is = record {
  each_once = range_each_once (length s.objects);
  rising = λ k lt.
      let n = length s.objects in
      let small : k + 1 < n = omega (arith, lt, length-map-range_with_len (first_place (places s (range_with_len 0 n))) 0 n) in
      let f = first_place (places s (range_with_len 0 n)) in
      let rises : first_place (places_in_order s) k < first_place (places_in_order s) (k + 1) =
      met_rises n (places_in_order s) [] (places_in_order s) 0 refl (begun n (places_in_order s)) is k small
      in
      let same : first_place (places s (range_with_len 0 n)) k < first_place (places s (range_with_len 0 n)) (k + 1) =
      subst (λ vs. first_place vs k < first_place vs (k + 1)) (sym (places_are s)) rises
      in
      omega (arith, same, rising_at f n k (omega (arith, small)), rising_at f n (k + 1) small);
}

in_order : (s : Start) (p : Posed) → Fits s p → IsCanonical s → met_all (length s.objects) (Some 0) (places_in_order s) ≡ Some (length s.objects)
in_order s p fits visit =
    rises_met (length s.objects) (places_in_order s) [] (places_in_order s) 0 refl (begun (length s.objects) (places_in_order s)) (rises s visit) (λ o within. first_within (places_in_order s) o (reached_placed s o (fits.all_reached o within)))
  where
    rises : (s : Start) → IsCanonical s → (o : ℕ) → o + 1 < length s.objects → first_place (places_in_order s) o < first_place (places_in_order s) (o + 1)
    rises s visit o small =
        let n = length s.objects in
        let f = first_place (places s (range_with_len 0 n)) in
        let up : slice_index (map f (range_with_len 0 n)) o < slice_index (map f (range_with_len 0 n)) (o + 1) =
        visit.rising o (omega (arith, small, length-map-range_with_len f 0 n))
        in
        let at : f o < f (o + 1) = omega (arith, up, rising_at f n o (omega (arith, small)), rising_at f n (o + 1) small) in
        subst (λ vs. first_place vs o < first_place vs (o + 1)) (places_are s) at

pub canonical_met : (s : Start) (p : Posed) → Fits s p → (met_all (length s.objects) (Some 0) (places_in_order s) ≡ Some (length s.objects)) ↔ IsCanonical s
canonical_met s p fits = (canonical s, in_order s p fits)
