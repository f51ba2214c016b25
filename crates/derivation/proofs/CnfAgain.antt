-- A text is that of one formula alone, and then it has no fault.
use Rattle.std.proofs.Common.{◌≡◌, ◌≢◌, ℕ, ◌^◌, ◌≤◌, ◌<◌, ◌==◌, suc, zero, true, ◌⊎◌, All, Result, Ok, Err, IfOk, IfErr, List, [], ◌∷◌, ◌++◌, map, length, get_or, codes, refl, sym, ap, subst, inl, inr, ◌∙◌, arith}
use Rattle.std.specs.List.{list_all}
use Rattle.std.specs.Fmt.{decimal}
use Rattle.std.proofs.lemmas.Bool.{and_parts, and_from, eqb-true}
use Rattle.std.proofs.lemmas.Fmt.{decimal_injective}
use Rattle.std.proofs.lemmas.List.{append_assoc, append-nil, map-append}
use Rattle.std.proofs.lemmas.List.Elements.{All-head, All-tail, All-cons, All-nil}
use Rattle.cnf_core.specs.Clauses.{Clauses}
use Rattle.cnf_core.specs.Literal.{IsOver}
use Rattle.derivation.specs.declared.fault.TextFault.{TextFault}
use Rattle.derivation.specs.declared.fault.TextFault.TheVariants.{BadText, NoMemory}
use Rattle.derivation.specs.CnfText.{IsSmall, entries, cnf_words, spelling, in_line, placed, Spell, Begin, closes, IsClosing, AreOf, IsWrongWord, IsShort, BlamesWords}
use Rattle.derivation.specs.Entry.{IsEntry}
use Rattle.derivation.specs.Reading.{IsReadAs}
use Rattle.derivation.specs.Runs.{Run, is_blank}
use Rattle.derivation.specs.Texts.{literal_text}
use Rattle.derivation.proofs.Bodies.{AreOver, entries_are}
use Rattle.derivation.proofs.LineTexts.{IsWord, number_word, literal_word}
use Rattle.derivation.proofs.LogWords.{literal_words}
use Rattle.derivation.proofs.Sequences.{SameFront, same_front}

-- No word of a formula begins with `%`.
abbrev IsOpen : List ℕ → Type 0
IsOpen bytes = get_or bytes 0 0 ≢ 37

word_open : (bytes : List ℕ) → IsWord bytes → IsOpen bytes
word_open [] word e = absurd (omega arith)
word_open (b ∷ bs) word e = let h : 45 ≤ b = word.high 0 (omega arith) in absurd (omega arith)

all_open : (vars : ℕ) (numbers : List ℕ) → vars ≤ 1000000 → All (IsEntry vars) numbers → All IsOpen (map literal_text numbers)
all_open vars [] few are = All-nil IsOpen
all_open vars (n ∷ ns) few are =
    All-cons IsOpen (literal_text n) (map literal_text ns)
    (word_open (literal_text n) (literal_word n (omega (arith, (All-head (IsEntry vars) n ns are).1))))
    (all_open vars ns few (All-tail (IsEntry vars) n ns are))

words_open : (v : Clauses) → IsSmall v → All IsOpen (cnf_words v)
words_open v small =
    let body : List (List ℕ) = map literal_text (entries v.clauses) in
    All-cons IsOpen (codes "p") (codes "cnf" ∷ decimal v.vars ∷ decimal (length v.clauses) ∷ body) (λ e. absurd (omega arith))
    (All-cons IsOpen (codes "cnf") (decimal v.vars ∷ decimal (length v.clauses) ∷ body) (λ e. absurd (omega arith))
    (All-cons IsOpen (decimal v.vars) (decimal (length v.clauses) ∷ body) (word_open _ (number_word v.vars (omega (arith, small.vars))))
    (All-cons IsOpen (decimal (length v.clauses)) body (word_open _ (number_word (length v.clauses) (omega (arith, small.count))))
    (all_open v.vars (entries v.clauses) small.vars (entries_are v.vars v.clauses small.over)))))

open_behind : (before : List (List ℕ)) (word : List ℕ) (more : List (List ℕ)) → All IsOpen (before ++ word ∷ more) → IsOpen word
open_behind [] word more all = All-head IsOpen word more all
open_behind (b ∷ bs) word more all = open_behind bs word more (All-tail IsOpen b (bs ++ word ∷ more) all)

-- so none of them ends the reading
goes_on_open : (front before : List Run) (word : Run) (more : List Run) → Begin front → front ≡ before ++ word ∷ more → closes word ≡ true → ⊥
goes_on_open front before word more begin is ends =
    let words : cnf_words begin.formula ≡ spelling before ++ word.bytes ∷ (spelling more ++ begin.more) =
    begin.same ∙ ap (λ ws. spelling ws ++ begin.more) is ∙ ap (λ bs. bs ++ begin.more) (map-append (λ (w : Run). w.bytes) before (word ∷ more))
    ∙ append_assoc (spelling before) (word.bytes ∷ spelling more) begin.more in
    open_behind (spelling before) word.bytes (spelling more ++ begin.more) (subst (All IsOpen) words (words_open begin.formula begin.small))
    (eqb-true (get_or word.bytes 0 0) 37 (and_parts (get_or word.bytes 0 0 == 37) _ ends).0)

begins_with : (words : List Run) (v : Clauses) → Spell words v → Begin words
begins_with words v spell = record { formula = v; more = []; small = spell.small; same = sym spell.same ∙ sym (append-nil (spelling words)); header = spell.header }

in_line_front : (n : ℕ) (xs ys : List Run) → in_line n (xs ++ ys) ≡ true → in_line n xs ≡ true
in_line_front n [] ys h = refl
in_line_front zero (x ∷ xs) ys h = h
in_line_front (suc n) (x ∷ xs) ys h =
    let parts : (list_all is_blank x.gap ≡ true) × (in_line n (xs ++ ys) ≡ true) = and_parts (list_all is_blank x.gap) (in_line n (xs ++ ys)) h in
    and_from _ _ parts.0 (in_line_front n xs ys parts.1)

placed_front : (xs ys : List Run) → placed (xs ++ ys) ≡ true → placed xs ≡ true
placed_front [] ys h = refl
placed_front (x ∷ xs) ys h = in_line_front 3 xs ys h

-- a part in front of a formula's words begins them
begins_front : (words xs ys : List Run) (v : Clauses) → Spell words v → words ≡ xs ++ ys → Begin xs
begins_front words xs ys v spell is =
    record {
      formula = v;
      more = spelling ys;
      small = spell.small;
      same = sym spell.same ∙ ap spelling is ∙ map-append (λ (w : Run). w.bytes) xs ys;
      header = placed_front xs ys (ap placed (sym is) ∙ spell.header);
    }

-- two ways to part a list: one front is in front of the other
record IsLonger (xs ys xs' ys' : List Run) : Type 0 where
  middle : List Run
  fronts : xs ≡ ys ++ middle
  rests : ys' ≡ middle ++ xs'

parted : (xs ys xs' ys' : List Run) → xs ++ xs' ≡ ys ++ ys' → IsLonger xs ys xs' ys' ⊎ IsLonger ys xs ys' xs'
parted [] ys xs' ys' same = inr (record { middle = ys; fronts = refl; rests = same })
parted (x ∷ xs) [] xs' ys' same = inl (record { middle = x ∷ xs; fronts = refl; rests = sym same })
parted (x ∷ xs) (y ∷ ys) xs' ys' same =
    let here : x ≡ y = cc in
    let later : xs ++ xs' ≡ ys ++ ys' = cc in
    elim (parted xs ys xs' ys' later) [
      | inl h ↦ inl (record { middle = h.middle; fronts = cc (here, h.fronts); rests = h.rests })
      | inr h ↦ inr (record { middle = h.middle; fronts = cc (here, h.fronts); rests = h.rests })
    ]

-- the words up to the end of the reading are told by the text
longer_same : (xs ys xs' ys' : List Run) → Begin xs → IsClosing ys' → IsLonger xs ys xs' ys' → xs ≡ ys
longer_same xs ys xs' ys' begin closed h = by_middle h.middle h.fronts h.rests
  where
    by_middle : (ms : List Run) → xs ≡ ys ++ ms → ys' ≡ ms ++ xs' → xs ≡ ys
    by_middle [] fronts rests = fronts ∙ append-nil ys
    by_middle (m ∷ ms) fronts rests = absurd (goes_on_open xs ys m ms begin fronts (subst IsClosing rests closed))

same_words : (words : List Run) (v w : Clauses) (a : AreOf words v) (b : AreOf words w) → a.front ≡ b.front
same_words words v w a b =
    elim (parted a.front b.front a.closing b.closing (sym a.parts ∙ b.parts)) [
      | inl h ↦ longer_same a.front b.front a.closing b.closing (begins_with a.front v a.spelled) b.closed h
      | inr h ↦ sym (longer_same b.front a.front b.closing a.closing (begins_with b.front w b.spelled) a.closed h)
    ]

-- clauses are told by their entries
same_clauses : (vars : ℕ) (cs ds : List (List ℕ)) → vars < 2 ^ 31 → AreOver vars cs → AreOver vars ds → map literal_text (entries cs) ≡ map literal_text (entries ds) → cs ≡ ds
same_clauses vars [] [] small over_c over_d same = refl
same_clauses vars [] (d ∷ ds) small over_c over_d same = absurd (no_entry d same)
  where
    no_entry : (clause : List ℕ) → [] ≡ map literal_text ((clause ++ 0 ∷ []) ++ entries ds) → ⊥
    no_entry [] e = cc
    no_entry (x ∷ xs) e = cc
same_clauses vars (c ∷ cs) [] small over_c over_d same = absurd (no_entry c (sym same))
  where
    no_entry : (clause : List ℕ) → [] ≡ map literal_text ((clause ++ 0 ∷ []) ++ entries cs) → ⊥
    no_entry [] e = cc
    no_entry (x ∷ xs) e = cc
same_clauses vars (c ∷ cs) (d ∷ ds) small over_c over_d same =
    let P : List ℕ → Type 0 = λ clause. All (IsOver vars) clause in
    let words : map literal_text (c ++ 0 ∷ []) ++ map literal_text (entries cs) ≡ map literal_text (d ++ 0 ∷ []) ++ map literal_text (entries ds) =
    sym (map-append literal_text (c ++ 0 ∷ []) (entries cs)) ∙ same ∙ map-append literal_text (d ++ 0 ∷ []) (entries ds) in
    let h : SameFront literal_text (IsOver vars) (literal_words vars small) c d (map literal_text (entries cs)) (map literal_text (entries ds)) =
    same_front literal_text (IsOver vars) (literal_words vars small) c d _ _ (All-head P c cs over_c) (All-head P d ds over_d) words in
    cc (h.numbers, same_clauses vars cs ds small (All-tail P c cs over_c) (All-tail P d ds over_d) h.tails)

same_formula : (v w : Clauses) → IsSmall v → IsSmall w → cnf_words v ≡ cnf_words w → v ≡ w
same_formula v w small_v small_w same =
    let a : decimal v.vars ≡ decimal w.vars = cc in
    let rest : map literal_text (entries v.clauses) ≡ map literal_text (entries w.clauses) = cc in
    let vars : v.vars ≡ w.vars = decimal_injective _ _ (omega (arith, small_v.vars)) (omega (arith, small_w.vars)) a in
    let clauses : v.clauses ≡ w.clauses =
    same_clauses v.vars v.clauses w.clauses (omega (arith, small_v.vars)) small_v.over (subst (λ (n : ℕ). AreOver n w.clauses) (sym vars) small_w.over) rest in
    ap (λ n. let f : Clauses = record { vars = n; clauses = v.clauses } in f) vars ∙ ap (λ cs. let f : Clauses = record { vars = w.vars; clauses = cs } in f) clauses

one_formula : (words : List Run) (v w : Clauses) → AreOf words v → AreOf words w → v ≡ w
one_formula words v w a b =
    same_formula v w a.spelled.small b.spelled.small (sym a.spelled.same ∙ ap spelling (same_words words v w a b) ∙ b.spelled.same)

-- words of a formula have no wrong word
not_wrong : (words : List Run) (at : ℕ) (v : Clauses) → IsWrongWord words at → AreOf words v → ⊥
not_wrong words at v wrong a =
    elim (parted a.front wrong.front a.closing (wrong.word ∷ wrong.rest) (sym a.parts ∙ wrong.parts)) [
      | inl h ↦ by_middle h.middle h.fronts h.rests
      | inr h ↦ by_other h.middle h.fronts h.rests
    ]
  where
    at_end : a.front ≡ wrong.front → a.closing ≡ wrong.word ∷ wrong.rest → ⊥
    at_end fronts rests = wrong.reading v (subst (λ (ws : List Run). Spell ws v) fronts a.spelled) (subst IsClosing rests a.closed)

    by_middle : (ms : List Run) → a.front ≡ wrong.front ++ ms → wrong.word ∷ wrong.rest ≡ ms ++ a.closing → ⊥
    by_middle [] fronts rests = at_end (fronts ∙ append-nil wrong.front) (sym rests)
    by_middle (m ∷ ms) fronts rests =
        let here : wrong.word ≡ m = cc in
        wrong.with_it
        (begins_front a.front (wrong.front ++ wrong.word ∷ []) ms v a.spelled
        (fronts ∙ ap (λ w. wrong.front ++ w ∷ ms) (sym here) ∙ sym (append_assoc wrong.front (wrong.word ∷ []) ms)))

    by_other : (ms : List Run) → wrong.front ≡ a.front ++ ms → a.closing ≡ ms ++ wrong.word ∷ wrong.rest → ⊥
    by_other [] fronts rests = at_end (sym (fronts ∙ append-nil a.front)) rests
    by_other (m ∷ ms) fronts rests = goes_on_open wrong.front a.front m ms wrong.before fronts (subst IsClosing rests a.closed)

-- nor do they fall short
not_short : (words : List Run) (end at : ℕ) (v : Clauses) → IsShort words end at → AreOf words v → ⊥
not_short words end at v short a = by_closing a.closing a.parts a.closed
  where
    by_closing : (ws : List Run) → words ≡ a.front ++ ws → IsClosing ws → ⊥
    by_closing [] parts closed = short.unfinished v (subst (λ (xs : List Run). Spell xs v) (sym (parts ∙ append-nil a.front)) a.spelled)
    by_closing (w ∷ ws) parts closed = goes_on_open words a.front w ws short.before parts closed

pub cnf_again : (words : List Run) (end : ℕ) (result : Result Clauses TextFault) (v : Clauses) → IfOk result (AreOf words) → IfErr result (BlamesWords words end) → AreOf words v → IsReadAs result v
cnf_again words end (Ok cnf) v read fault is = one_formula words cnf v read is
cnf_again words end (Err (BadText at)) v read fault is =
    elim fault [ inl wrong ↦ not_wrong words at v wrong is | inr short ↦ not_short words end at v short is ]
cnf_again words end (Err NoMemory) v read fault is = tt
