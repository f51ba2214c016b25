-- The first fault of the text of a formula has one place.
use Rattle.std.proofs.Common.{◌≡◌, ℕ, suc, zero, true, ◌⊎◌, List, [], ◌∷◌, ◌++◌, refl, sym, ap, subst, inl, inr, ◌∙◌}
use Rattle.std.specs.List.{list_all}
use Rattle.std.proofs.lemmas.Bool.{and_parts, and_from}
use Rattle.std.proofs.lemmas.List.{append_assoc, map-append}
use Rattle.derivation.specs.declared.fault.TextFault.TheVariants.{BadText}
use Rattle.derivation.specs.CnfText.{spelling, in_line, placed, Begin, IsWrongWord, IsShort, BlamesWords}
use Rattle.derivation.specs.Runs.{Run, is_blank}

in_line_front : (n : ℕ) (xs ys : List Run) → in_line n (xs ++ ys) ≡ true → in_line n xs ≡ true
in_line_front n [] ys h = refl
in_line_front zero (x ∷ xs) ys h = h
in_line_front (suc n) (x ∷ xs) ys h =
    let parts : (list_all is_blank x.gap ≡ true) × (in_line n (xs ++ ys) ≡ true) = and_parts (list_all is_blank x.gap) (in_line n (xs ++ ys)) h in
    and_from _ _ parts.0 (in_line_front n xs ys parts.1)

placed_front : (xs ys : List Run) → placed (xs ++ ys) ≡ true → placed xs ≡ true
placed_front [] ys h = refl
placed_front (x ∷ xs) ys h = in_line_front 3 xs ys h

-- words that begin a formula's are so in each front
begin_front : (xs ys : List Run) → Begin (xs ++ ys) → Begin xs
begin_front xs ys b =
    record {
      formula = b.formula;
      more = spelling ys ++ b.more;
      small = b.small;
      same = b.same ∙ ap (λ bs. bs ++ b.more) (map-append (λ (w : Run). w.bytes) xs ys) ∙ append_assoc (spelling xs) (spelling ys) b.more;
      header = placed_front xs ys b.header;
    }

begin_one : (words xs : List Run) (m : Run) (ms : List Run) → words ≡ xs ++ m ∷ ms → Begin words → Begin (xs ++ m ∷ [])
begin_one words xs m ms is b = begin_front (xs ++ m ∷ []) ms (subst Begin (is ∙ sym (append_assoc xs (m ∷ []) ms)) b)

-- two ways to part a list: one front is in front of the other
record IsLonger (xs ys xs' ys' : List Run) : Type 0 where
  middle : List Run
  fronts : xs ≡ ys ++ middle
  rests : ys' ≡ middle ++ xs'

parted : (xs ys xs' ys' : List Run) → xs ++ xs' ≡ ys ++ ys' → IsLonger xs ys xs' ys' ⊎ IsLonger ys xs ys' xs'
parted [] ys xs' ys' same = inr (record { middle = ys; fronts = refl; rests = same })
parted (x ∷ xs) [] xs' ys' same = inl (record { middle = x ∷ xs; fronts = refl; rests = sym same })
parted (x ∷ xs) (y ∷ ys) xs' ys' same =
    let here : x ≡ y = cc in
    let later : xs ++ xs' ≡ ys ++ ys' = cc in
    elim (parted xs ys xs' ys' later) [
      | inl h ↦ inl (record { middle = h.middle; fronts = cc (here, h.fronts); rests = h.rests })
      | inr h ↦ inr (record { middle = h.middle; fronts = cc (here, h.fronts); rests = h.rests })
    ]

first_wrong : (words : List Run) (a b : ℕ) (x : IsWrongWord words a) (y : IsWrongWord words b) → IsLonger x.front y.front (x.word ∷ x.rest) (y.word ∷ y.rest) → a ≡ b
first_wrong words a b x y h = by_middle h.middle h.fronts h.rests
  where
    by_middle : (ms : List Run) → x.front ≡ y.front ++ ms → y.word ∷ y.rest ≡ ms ++ x.word ∷ x.rest → a ≡ b
    by_middle [] fronts rests = let one : y.word ≡ x.word = cc in x.place ∙ ap (λ (w : Run). w.at) (sym one) ∙ sym y.place
    by_middle (m ∷ ms) fronts rests =
        let one : m ≡ y.word = cc in
        absurd (y.with_it (begin_one x.front y.front y.word ms (fronts ∙ ap (λ w. y.front ++ w ∷ ms) one) x.before))

not_short : (words : List Run) (end a b : ℕ) → IsWrongWord words a → IsShort words end b → ⊥
not_short words end a b x y = x.with_it (begin_one words x.front x.word x.rest x.parts y.before)

pub one_fault : (words : List Run) (end a b : ℕ) → BlamesWords words end (BadText a) → BlamesWords words end (BadText b) → a ≡ b
one_fault words end a b (inl x) (inl y) =
    elim (parted x.front y.front (x.word ∷ x.rest) (y.word ∷ y.rest) (sym x.parts ∙ y.parts)) [
      | inl h ↦ first_wrong words a b x y h
      | inr h ↦ sym (first_wrong words b a y x h)
    ]
one_fault words end a b (inl x) (inr y) = absurd (not_short words end a b x y)
one_fault words end a b (inr x) (inl y) = absurd (not_short words end b a y x)
one_fault words end a b (inr x) (inr y) = x.place ∙ sym y.place
