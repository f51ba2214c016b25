-- The first word of bytes.
use Rattle.std.proofs.Common.{◌≡◌, ℕ, ◌+◌, ◌≤◌, ◌==◌, suc, false, not, List, [], ◌∷◌, ◌++◌, length, take, drop, cond, refl, sym, ap, inl, inr, ◌∙◌, arith}
use Rattle.std.specs.List.{prefix_len}
use Rattle.std.proofs.lemmas.List.{append-nil, length-take-le, nil_from_length}
use Rattle.std.proofs.lemmas.Bool.{cases_Bool, cond-true, cond-false, not_from_true, not_from_false, ne_eqb}
use Rattle.derivation.specs.Runs.{Run, is_white, widened, begun, runs}

-- white space before the first of these words
abbrev pub behind_gap : List ℕ → List Run → List Run
behind_gap gap [] = []
behind_gap gap (w ∷ ws) = record { at = w.at; gap = gap ++ w.gap; bytes = w.bytes } ∷ ws

widened_gap : (b : ℕ) (gap : List ℕ) (ws : List Run) → widened b (behind_gap gap ws) ≡ behind_gap (b ∷ gap) ws
widened_gap b gap [] = refl
widened_gap b gap (w ∷ ws) = refl

no_gap : (ws : List Run) → ws ≡ behind_gap [] ws
no_gap [] = refl
no_gap (w ∷ ws) = refl

pub runs_gap : (at : ℕ) (bytes : List ℕ)
    → runs at bytes ≡ behind_gap (take (prefix_len is_white bytes) bytes) (runs (at + prefix_len is_white bytes) (drop (prefix_len is_white bytes) bytes))
runs_gap at [] = refl
runs_gap at (b ∷ bs) =
    elim (cases_Bool (is_white b)) [
      | inl white ↦
          let m = prefix_len is_white bs in
          let G : ℕ → List Run = λ k. behind_gap (take k (b ∷ bs)) (runs (at + k) (drop k (b ∷ bs))) in
          let count : suc m ≡ cond (is_white b) (1 + m) 0 = rw white (omega arith) in
          cond-true (is_white b) _ _ white
          ∙ ap (widened b) (runs_gap (suc at) bs)
          ∙ widened_gap b (take m bs) (runs (suc at + m) (drop m bs))
          ∙ ap (λ p. behind_gap (b ∷ take m bs) (runs p (drop m bs))) (let e : suc at + m ≡ at + suc m = omega arith in e)
          ∙ ap G count
      | inr dark ↦
          let G : ℕ → List Run = λ k. behind_gap (take k (b ∷ bs)) (runs (at + k) (drop k (b ∷ bs))) in
          let count : 0 ≡ cond (is_white b) (1 + prefix_len is_white bs) 0 = sym (cond-false (is_white b) _ _ dark) in
          no_gap (runs at (b ∷ bs)) ∙ ap (λ p. behind_gap [] (runs p (b ∷ bs))) (let e : at ≡ at + 0 = omega arith in e) ∙ ap G count
    ]

-- a byte before white space is a word of its own
begun_apart : (at b c : ℕ) (ws : List Run) → let first : Run = record { at = at; gap = []; bytes = b ∷ [] } in begun at b (widened c ws) ≡ first ∷ widened c ws
begun_apart at b c [] = refl
begun_apart at b c (w ∷ ws) = cond-false (length (c ∷ w.gap) == 0) _ _ (ne_eqb (length (c ∷ w.gap)) 0 (λ e. absurd (omega arith)))

-- how many bytes that are no white space stand first
abbrev pub dark_len : List ℕ → ℕ
dark_len bytes = prefix_len (λ x. not (is_white x)) bytes

-- the first word, and the words behind it
abbrev pub split_off : ℕ → List ℕ → ℕ → List Run
split_off at bytes k = record { at = at; gap = []; bytes = take k bytes } ∷ runs (at + k) (drop k bytes)

-- the same where a byte of the word stands before these bytes
abbrev pub split_with : ℕ → ℕ → List ℕ → ℕ → List Run
split_with at b bytes k = record { at = at; gap = []; bytes = b ∷ take k bytes } ∷ runs (suc at + k) (drop k bytes)

joined : (at b c : ℕ) (cs : List ℕ) → (is_white c ≡ false → runs (suc at) (c ∷ cs) ≡ split_off (suc at) (c ∷ cs) (dark_len (c ∷ cs)))
    → begun at b (runs (suc at) (c ∷ cs)) ≡ split_with at b (c ∷ cs) (dark_len (c ∷ cs))
joined at b c cs later =
    elim (cases_Bool (is_white c)) [
      | inl white ↦
          let alone : Run = record { at = at; gap = []; bytes = b ∷ [] } in
          let count : 0 ≡ dark_len (c ∷ cs) = sym (cond-false (not (is_white c)) (1 + dark_len cs) 0 (not_from_true (is_white c) white)) in
          ap (begun at b) (cond-true (is_white c) _ _ white)
          ∙ begun_apart at b c (runs (suc (suc at)) cs)
          ∙ ap (λ ws. alone ∷ ws) (sym (cond-true (is_white c) _ _ white))
          ∙ ap (λ p. alone ∷ runs p (c ∷ cs)) (let e : suc at ≡ suc at + 0 = omega arith in e)
          ∙ ap (split_with at b (c ∷ cs)) count
      | inr dark ↦ ap (begun at b) (later dark)
    ]

with_first : (at b : ℕ) (bs : List ℕ) → is_white b ≡ false → begun at b (runs (suc at) bs) ≡ split_with at b bs (dark_len bs)
    → runs at (b ∷ bs) ≡ split_off at (b ∷ bs) (dark_len (b ∷ bs))
with_first at b bs dark h =
    let first : Run = record { at = at; gap = []; bytes = b ∷ take (dark_len bs) bs } in
    let count : suc (dark_len bs) ≡ dark_len (b ∷ bs) = sym (cond-true (not (is_white b)) (1 + dark_len bs) 0 (not_from_false (is_white b) dark) ∙ omega arith) in
    cond-false (is_white b) _ _ dark
    ∙ h
    ∙ ap (λ p. first ∷ runs p (drop (dark_len bs) bs)) (let e : suc at + dark_len bs ≡ at + suc (dark_len bs) = omega arith in e)
    ∙ ap (split_off at (b ∷ bs)) count

-- a run of bytes without white space, up to white space or the end, is the first word
pub runs_word : (at b : ℕ) (bs : List ℕ) → is_white b ≡ false → runs at (b ∷ bs) ≡ split_off at (b ∷ bs) (dark_len (b ∷ bs))
runs_word at b [] dark = with_first at b [] dark refl
runs_word at b (c ∷ cs) dark = with_first at b (c ∷ cs) dark (joined at b c cs (runs_word (suc at) c cs))

-- behind the white space that stands first something else stands
first_dark : (bytes : List ℕ) (b : ℕ) (bs : List ℕ) → drop (prefix_len is_white bytes) bytes ≡ b ∷ bs → is_white b ≡ false
first_dark [] b bs is = absurd (let h : [] ≡ b ∷ bs = is in cc)
first_dark (c ∷ cs) b bs is =
    elim (cases_Bool (is_white c)) [
      | inl white ↦
          let count : cond (is_white c) (1 + prefix_len is_white cs) 0 ≡ suc (prefix_len is_white cs) = cond-true (is_white c) (1 + prefix_len is_white cs) 0 white ∙ omega arith in
          first_dark cs b bs (ap (λ k. drop k (c ∷ cs)) (sym count) ∙ is)
      | inr dark ↦
          let here : c ∷ cs ≡ b ∷ bs = ap (λ k. drop k (c ∷ cs)) (sym (cond-false (is_white c) (1 + prefix_len is_white cs) 0 dark)) ∙ is in
          let same : c ≡ b = cc in
          ap is_white (sym same) ∙ dark
    ]

-- only white space is left
pub no_run : (at : ℕ) (bytes behind : List ℕ) → behind ≡ drop (prefix_len is_white bytes) bytes → length behind ≡ 0 → runs at bytes ≡ []
no_run at bytes behind is none =
    runs_gap at bytes
    ∙ ap (λ xs. behind_gap (take (prefix_len is_white bytes) bytes) (runs (at + prefix_len is_white bytes) xs)) (sym is ∙ nil_from_length behind none)

-- the next word, behind the white space that stands first
pub next_run : (at : ℕ) (bytes gap behind : List ℕ) → gap ≡ take (prefix_len is_white bytes) bytes → behind ≡ drop (prefix_len is_white bytes) bytes
    → prefix_len is_white bytes ≤ length bytes → (length behind ≡ 0 → ⊥)
    → let word : Run = record { at = at + length gap; gap = gap; bytes = take (dark_len behind) behind } in
    runs at bytes ≡ word ∷ runs (at + length gap + dark_len behind) (drop (dark_len behind) behind)
next_run at bytes gap [] gap_is is within some = absurd (some refl)
next_run at bytes gap (b ∷ bs) gap_is is within some =
    let n = prefix_len is_white bytes in
    let size : n ≡ length gap = sym (ap length gap_is ∙ length-take-le n bytes within) in
    let W : ℕ → List ℕ → List Run = λ p g. record { at = p; gap = g; bytes = take (dark_len (b ∷ bs)) (b ∷ bs) } ∷ runs (p + dark_len (b ∷ bs)) (drop (dark_len (b ∷ bs)) (b ∷ bs)) in
    runs_gap at bytes
    ∙ ap (λ xs. behind_gap (take n bytes) (runs (at + n) xs)) (sym is)
    ∙ ap (behind_gap (take n bytes)) (runs_word (at + n) b bs (first_dark bytes b bs (sym is)))
    ∙ ap (W (at + n)) (append-nil (take n bytes) ∙ sym gap_is)
    ∙ ap (λ p. W (at + p) gap) size
