-- Modifiers, printed and read again: they stand in a tree in one order, so reading them again keeps it.
use Rattle.std.proofs.Common.{◌≡◌, ℕ, ◌≤◌, ◌<◌, ◌==◌, Bool, true, false, List, [], ◌∷◌, ◌++◌, map, refl, sym, ◌∙◌, ap, subst, arith, lit≤, lit<, cond, ◌&&◌}
use Rattle.std.proofs.lemmas.Bool.{eqb-true}
use Rattle.std.specs.Prelude.{Option, Some, None, option_map, filter}
use Rattle.std.specs.List.{list_all, filter_map, cons_option}
use Rattle.java_lex.specs.declared.spelling.Terminal.TheVariants as terminal
use Rattle.java_lex.specs.declared.token.Token.{Token}
use Rattle.java_lex.specs.Terminals.{terminal_of_kind}
use Rattle.java_tree.specs.declared.names.ModWord.{ModWord}
use Rattle.java_tree.specs.declared.names.ModWord.TheVariants.{Static, Nullable, NonNull, NullableByDefault, NonNullByDefault}
use Rattle.java_tree.specs.declared.names.Modifier.{Modifier}
use Rattle.java_tree.specs.Phrases.{Letter, letter}
use Rattle.java_tree.specs.Statements.{kept_word, kept, rank, in_order, modifiers}
use Rattle.java_tree.specs.Print.{modifier_word, modifiers_written}
use Rattle.round_trip.specs.Bare.{bare_modifier}
use Rattle.round_trip.proofs.Spells.{Spells, Spellable, AllSpellable, Known}
use Rattle.round_trip.proofs.Redo.{Again, two}
use Rattle.round_trip.proofs.Fixed.{static_word, nullable_word, non_null_word, nullable_default, non_null_default}

pub known_behind : (front rest : List Token) → Known (front ++ rest) → Known rest
known_behind [] rest known = known
known_behind (t ∷ front) rest known = known_behind front rest known.1

-- THE LETTER OF A MODIFIER

abbrev pub letter_of : ModWord → Letter
letter_of Static = (false, terminal.Static)
letter_of Nullable = (true, terminal.Nullable)
letter_of NonNull = (true, terminal.NonNull)
letter_of NullableByDefault = (true, terminal.NullableByDefault)
letter_of NonNullByDefault = (true, terminal.NonNullByDefault)

kept_letter : (x : Letter) (w : ModWord) → kept_word x ≡ Some w → x ≡ letter_of w
kept_letter (false, terminal.Static) w is = let so : Static ≡ w = cc in ap letter_of so
kept_letter (true, terminal.Nullable) w is = let so : Nullable ≡ w = cc in ap letter_of so
kept_letter (true, terminal.NonNull) w is = let so : NonNull ≡ w = cc in ap letter_of so
kept_letter (true, terminal.NullableByDefault) w is = let so : NullableByDefault ≡ w = cc in ap letter_of so
kept_letter (true, terminal.NonNullByDefault) w is = let so : NonNullByDefault ≡ w = cc in ap letter_of so
kept_letter x w is = absurd (cc)

letter_kept : (w : ModWord) → kept_word (letter_of w) ≡ Some w
letter_kept Static = refl
letter_kept Nullable = refl
letter_kept NonNull = refl
letter_kept NullableByDefault = refl
letter_kept NonNullByDefault = refl

-- what a modifier's word is to the grammar
word_letter : (w : ModWord) → ◌≡◌ {A = Letter} ((modifier_word w).0, terminal_of_kind (modifier_word w).0 (modifier_word w).1) (letter_of w)
word_letter Static = ap (λ x. (false, x)) static_word.is
word_letter Nullable = ap (λ x. (true, x)) nullable_word.is
word_letter NonNull = ap (λ x. (true, x)) non_null_word.is
word_letter NullableByDefault = ap (λ x. (true, x)) nullable_default.is
word_letter NonNullByDefault = ap (λ x. (true, x)) non_null_default.is

word_spells : (w : ModWord) → Spellable (modifier_word w)
word_spells Static = static_word.spells
word_spells Nullable = nullable_word.spells
word_spells NonNull = non_null_word.spells
word_spells NullableByDefault = nullable_default.spells
word_spells NonNullByDefault = non_null_default.spells

words_spell : (mods : List Modifier) → AllSpellable (modifiers_written mods)
words_spell [] = tt {0}
words_spell (m ∷ mods) = (word_spells m.word, words_spell mods)

-- THEIR ORDER

-- each is of a rank of at least this one, and of that of the one before it
abbrev Rises : ℕ → List Modifier → Type 0
Rises n [] = Unit {0}
Rises n (m ∷ ms) = (n ≤ rank m.word) × Rises (rank m.word) ms

rises_less : (m n : ℕ) (ms : List Modifier) → m ≤ n → Rises n ms → Rises m ms
rises_less m n [] low up = tt {0}
rises_less m n (x ∷ ms) low up = (omega (arith, up.0), up.1)

-- those of a rank
abbrev of_rank : ℕ → List Modifier → List Modifier
of_rank n ms = filter (λ m. rank m.word == n) ms

of_rank_rises : (n : ℕ) (xs tail : List Modifier) → Rises n tail → Rises n (of_rank n xs ++ tail)
of_rank_rises n [] tail up = up
of_rank_rises n (x ∷ xs) tail up = by (rank x.word == n) (λ is. eqb-true (rank x.word) n is) (of_rank_rises n xs tail up)
  where
    by : (b : Bool) → (b ≡ true → rank x.word ≡ n) → Rises n (of_rank n xs ++ tail) → Rises n (cond b (x ∷ of_rank n xs) (of_rank n xs) ++ tail)
    by true is behind = let same = is refl in (omega (arith, same), subst (λ (k : ℕ). Rises k (of_rank n xs ++ tail)) (sym same) behind)
    by false is behind = behind

in_order_rises : (xs : List Modifier) → Rises 0 (in_order xs)
in_order_rises xs =
    of_rank_rises 0 xs _ (rises_less 0 1 _ (lit≤ tt)
    (of_rank_rises 1 xs _ (rises_less 1 2 _ (lit≤ tt)
    (of_rank_rises 2 xs _ (rises_less 2 3 _ (lit≤ tt)
    (of_rank_rises 3 xs _ (rises_less 3 4 _ (lit≤ tt)
    (of_rank_rises 4 xs [] (tt {0})))))))))

-- none is of a lower rank
none_low : (i n : ℕ) (ms : List Modifier) → i < n → Rises n ms → of_rank i ms ≡ []
none_low i n [] less up = refl
none_low i n (m ∷ ms) less up =
    by (rank m.word == i) (λ is. let same = eqb-true (rank m.word) i is in let low = up.0 in omega (arith, same, low)) (let low = up.0 in none_low i (rank m.word) ms (omega (arith, low)) up.1)
  where
    by : (b : Bool) → (b ≡ true → ⊥) → of_rank i ms ≡ [] → cond b (m ∷ of_rank i ms) (of_rank i ms) ≡ []
    by true not behind = absurd (not refl)
    by false not behind = behind

shift : (m : Modifier) (low high : List Modifier) → low ≡ [] → low ++ m ∷ high ≡ m ∷ (low ++ high)
shift m low high none = ap (λ (l : List Modifier). l ++ m ∷ high) none ∙ sym (ap (λ (l : List Modifier). m ∷ (l ++ high)) none)

ordered_by : (w : ModWord) (at : ℕ) (ms : List Modifier) → ((i : ℕ) → i < rank w → of_rank i ms ≡ []) → in_order ms ≡ ms → in_order (record { word = w; at = at } ∷ ms) ≡ record { word = w; at = at } ∷ ms
ordered_by Static at ms low rest = ap (λ (l : List Modifier). record { word = Static; at = at } ∷ l) rest
ordered_by Nullable at ms low rest =
    let m : Modifier = record { word = Nullable; at = at } in
    shift m (of_rank 0 ms) _ (low 0 (lit< tt)) ∙ ap (λ (l : List Modifier). m ∷ l) rest
ordered_by NonNull at ms low rest =
    let m : Modifier = record { word = NonNull; at = at } in
    ap (λ (l : List Modifier). of_rank 0 ms ++ l) (shift m (of_rank 1 ms) _ (low 1 (lit< tt)))
    ∙ shift m (of_rank 0 ms) _ (low 0 (lit< tt)) ∙ ap (λ (l : List Modifier). m ∷ l) rest
ordered_by NullableByDefault at ms low rest =
    let m : Modifier = record { word = NullableByDefault; at = at } in
    ap (λ (l : List Modifier). of_rank 0 ms ++ (of_rank 1 ms ++ l)) (shift m (of_rank 2 ms) _ (low 2 (lit< tt)))
    ∙ ap (λ (l : List Modifier). of_rank 0 ms ++ l) (shift m (of_rank 1 ms) _ (low 1 (lit< tt)))
    ∙ shift m (of_rank 0 ms) _ (low 0 (lit< tt)) ∙ ap (λ (l : List Modifier). m ∷ l) rest
ordered_by NonNullByDefault at ms low rest =
    let m : Modifier = record { word = NonNullByDefault; at = at } in
    ap (λ (l : List Modifier). of_rank 0 ms ++ (of_rank 1 ms ++ (of_rank 2 ms ++ l))) (shift m (of_rank 3 ms) _ (low 3 (lit< tt)))
    ∙ ap (λ (l : List Modifier). of_rank 0 ms ++ (of_rank 1 ms ++ l)) (shift m (of_rank 2 ms) _ (low 2 (lit< tt)))
    ∙ ap (λ (l : List Modifier). of_rank 0 ms ++ l) (shift m (of_rank 1 ms) _ (low 1 (lit< tt)))
    ∙ shift m (of_rank 0 ms) _ (low 0 (lit< tt)) ∙ ap (λ (l : List Modifier). m ∷ l) rest

-- what rises is in order
rises_ordered : (n : ℕ) (ms : List Modifier) → Rises n ms → in_order ms ≡ ms
rises_ordered n [] up = refl
rises_ordered n (m ∷ ms) up = ordered_by m.word m.at ms (λ i less. none_low i (rank m.word) ms less up.1) (rises_ordered (rank m.word) ms up.1)

-- WHICH ARE ALLOWED

and_parts : (a b : Bool) → (a && b) ≡ true → (a ≡ true) × (b ≡ true)
and_parts true b is = (refl, is)
and_parts false b is = absurd (cc)

both : (a b : Bool) → a ≡ true → b ≡ true → (a && b) ≡ true
both true b x y = y
both false b x y = absurd (cc)

module _ (allowed : Letter → Bool) where
  abbrev All_allowed : List Modifier → Type 0
  All_allowed ms = list_all (λ m. allowed (letter_of m.word)) ms ≡ true

  allowed_append : (xs ys : List Modifier) → All_allowed xs → All_allowed ys → All_allowed (xs ++ ys)
  allowed_append [] ys a b = b
  allowed_append (x ∷ xs) ys a b =
      let parts = and_parts (allowed (letter_of x.word)) _ a in
      both (allowed (letter_of x.word)) _ parts.0 (allowed_append xs ys parts.1 b)

  allowed_of_rank : (n : ℕ) (xs : List Modifier) → All_allowed xs → All_allowed (of_rank n xs)
  allowed_of_rank n [] a = refl
  allowed_of_rank n (x ∷ xs) a = by (rank x.word == n) (allowed_of_rank n xs (and_parts (allowed (letter_of x.word)) _ a).1)
    where
      parts : (allowed (letter_of x.word) ≡ true) × All_allowed xs
      parts = and_parts (allowed (letter_of x.word)) _ a

      by : (b : Bool) → All_allowed (of_rank n xs) → All_allowed (cond b (x ∷ of_rank n xs) (of_rank n xs))
      by true behind = both (allowed (letter_of x.word)) _ parts.0 behind
      by false behind = behind

  allowed_in_order : (xs : List Modifier) → All_allowed xs → All_allowed (in_order xs)
  allowed_in_order xs a =
      allowed_append _ _ (allowed_of_rank 0 xs a) (allowed_append _ _ (allowed_of_rank 1 xs a) (allowed_append _ _ (allowed_of_rank 2 xs a) (allowed_append _ _ (allowed_of_rank 3 xs a) (allowed_append _ [] (allowed_of_rank 4 xs a) refl))))

  kept_by : (t : Token) (front : List Token) (o : Option ModWord) → kept_word (letter t) ≡ o → allowed (letter t) ≡ true → All_allowed (filter_map kept front)
      → All_allowed (cons_option (option_map (λ word. record { word = word; at = t.from }) o) (filter_map kept front))
  kept_by t front None is one rest = rest
  kept_by t front (Some w) is one rest = both (allowed (letter_of w)) _ (sym (ap allowed (kept_letter (letter t) w is)) ∙ one) rest

  -- those of allowed tokens
  allowed_kept : (front : List Token) → list_all (λ t. allowed (letter t)) front ≡ true → All_allowed (filter_map kept front)
  allowed_kept [] a = refl
  allowed_kept (t ∷ front) a =
      let parts = and_parts (allowed (letter t)) _ a in
      kept_by t front (kept_word (letter t)) refl parts.0 (allowed_kept front parts.1)

  -- AGAIN

  pub record Redone (n : ℕ) (mods : List Modifier) (us end : List Token) : Type 0 where
    pub mods_again : List Modifier
    pub front : List Token
    pub parts : us ≡ front ++ end
    pub all : list_all (λ t. allowed (letter t)) front ≡ true
    pub kept_so : filter_map kept front ≡ mods_again
    pub same : map bare_modifier mods_again ≡ map bare_modifier mods
    pub up : Rises n mods_again

  redone : (mods : List Modifier) (n : ℕ) → All_allowed mods → Rises n mods → (us end : List Token) → Spells (modifiers_written mods) us end → Redone n mods us end
  redone [] n a up us end spelled = record { mods_again = []; front = []; parts = spelled; all = refl; kept_so = refl; same = refl; up = tt {0} }
  redone (m ∷ mods) n a up us end (u, more, here, jml_is, kind_is, spelled) =
      let rest = redone mods (rank m.word) (and_parts (allowed (letter_of m.word)) _ a).1 up.1 more end spelled in
      let is : letter u ≡ letter_of m.word = two (λ j k. (j, terminal_of_kind j k)) jml_is kind_is ∙ word_letter m.word in
      let one : kept_word (letter u) ≡ Some m.word = ap kept_word is ∙ letter_kept m.word in
      let again : Modifier = record { word = m.word; at = u.from } in
      record {
        mods_again = again ∷ rest.mods_again;
        front = u ∷ rest.front;
        parts = here ∙ ap (λ (ts : List Token). u ∷ ts) rest.parts;
        all = both (allowed (letter u)) _ (ap allowed is ∙ (and_parts (allowed (letter_of m.word)) _ a).0) rest.all;
        kept_so = ap (λ (o : Option ModWord). cons_option (option_map (λ word. record { word = word; at = u.from }) o) (filter_map kept rest.front)) one ∙ ap (λ (ms : List Modifier). again ∷ ms) rest.kept_so;
        same = ap (λ (ms : List Modifier). bare_modifier m ∷ ms) rest.same;
        up = (up.0, rest.up);
      }

  pub modifiers_again : (mods : List Modifier) → Again (List Modifier) (modifiers_written mods) (modifiers allowed mods) (modifiers allowed) (λ ns. map bare_modifier ns ≡ map bare_modifier mods)
  modifiers_again mods = record {
    again = λ l ts k rest known (front, parts, all, is, level).
        let kept_mods = filter_map kept front in
        let a : All_allowed mods = subst All_allowed (sym is) (allowed_in_order kept_mods (allowed_kept front all)) in
        let up : Rises 0 mods = subst (Rises 0) (sym is) (in_order_rises kept_mods) in (
          known_behind front rest (subst Known parts known),
          record {
            good = words_spell mods;
            redo = λ us end spelled.
                let r = redone mods 0 a up us end spelled in (
                  r.mods_again,
                  r.same,
                  (r.front, r.parts, r.all, sym (rises_ordered 0 r.mods_again r.up) ∙ ap in_order (sym r.kept_so), level),
                );
          },
        );
  }
