-- The clauses of a formula's text: what its words can be behind the header.
use Rattle.std.proofs.Common.{◌≡◌, ℕ, ◌+◌, ◌-◌, ◌/◌, ◌^◌, ◌≤◌, ◌<◌, ◌==◌, suc, zero, Bool, true, false, ◌&&◌, All, List, [], ◌∷◌, ◌++◌, map, length, get_or, replicate, refl, sym, ap, subst, ◌∙◌, arith, length-append}
use Rattle.std.specs.List.{list_all, list_any}
use Rattle.std.specs.Fmt.{decimal}
use Rattle.std.proofs.lemmas.Bool.{and_parts, and_from, false≢true, ne_eqb}
use Rattle.std.proofs.lemmas.Fmt.{decimal_injective}
use Rattle.std.proofs.lemmas.Grind.{flat_map-append}
use Rattle.std.proofs.lemmas.List.{append_assoc, append-nil, map-append, length-replicate}
use Rattle.std.proofs.lemmas.List.Elements.{All-head, All-tail, All-append, All-cons, All-nil, All-replicate}
use Rattle.cnf_core.specs.Clauses.{Clauses}
use Rattle.cnf_core.specs.Literal.{IsOver}
use Rattle.derivation.specs.CnfText.{IsSmall, entries, cnf_words, spelling, in_line, placed, Spell, Begin, closes, IsClosing, AreOf, IsWrongWord, BlamesWords}
use Rattle.derivation.specs.declared.fault.TextFault.{TextFault}
use Rattle.derivation.specs.declared.entry.Entry.{Entry}
use Rattle.derivation.specs.declared.entry.Entry.TheVariants.{End, Literal}
use Rattle.derivation.specs.Entry.{IsEntry, IsWithin, entry_number, Puts}
use Rattle.derivation.specs.Runs.{Run, is_blank, is_line_end}
use Rattle.derivation.specs.Slots.{IsNextEntry, IsHeader, IsBody, Misses}
use Rattle.derivation.specs.Texts.{literal_text}
use Rattle.derivation.proofs.Headers.{HeadAt, missed}
use Rattle.derivation.proofs.Literals.{literal_injective}
use Rattle.derivation.proofs.LogWords.{all_behind}

-- small enough to have a text of its own
abbrev IsTold : ℕ → Type 0
IsTold n = n / 2 < 2 ^ 64

abbrev one_if : Bool → ℕ
one_if true = 1
one_if false = 0

-- how many of the numbers are 0
abbrev zeros : List ℕ → ℕ
zeros [] = 0
zeros (n ∷ ns) = one_if (n == 0) + zeros ns

zeros_append : (xs ys : List ℕ) → zeros (xs ++ ys) ≡ zeros xs + zeros ys
zeros_append [] ys = omega arith
zeros_append (x ∷ xs) ys = omega (arith, zeros_append xs ys)

no_zeros : (vars : ℕ) (clause : List ℕ) → All (IsOver vars) clause → zeros clause ≡ 0
no_zeros vars [] over = refl
no_zeros vars (x ∷ xs) over =
    let here : IsOver vars x = All-head (IsOver vars) x xs over in
    let some : one_if (x == 0) ≡ 0 = ap one_if (ne_eqb x 0 (λ e. absurd (omega (arith, here.0, ap (λ n. n / 2) e)))) in
    omega (arith, some, no_zeros vars xs (All-tail (IsOver vars) x xs over))

-- clauses over the variables
abbrev pub AreOver : ℕ → List (List ℕ) → Type 0
AreOver vars clauses = All (λ clause. All (IsOver vars) clause) clauses

zeros_entries : (vars : ℕ) (clauses : List (List ℕ)) → AreOver vars clauses → zeros (entries clauses) ≡ length clauses
zeros_entries vars [] over = refl
zeros_entries vars (c ∷ cs) over =
    let here : zeros c ≡ 0 = no_zeros vars c (All-head (λ (clause : List ℕ). All (IsOver vars) clause) c cs over) in
    let rest : zeros (entries cs) ≡ length cs = zeros_entries vars cs (All-tail (λ (clause : List ℕ). All (IsOver vars) clause) c cs over) in
    omega (arith, zeros_append (c ++ 0 ∷ []) (entries cs), zeros_append c (0 ∷ []), here, rest)

-- whether the last number is 0, if there is one
abbrev ends_zero : List ℕ → Bool
ends_zero [] = true
ends_zero (x ∷ []) = x == 0
ends_zero (x ∷ y ∷ ys) = ends_zero (y ∷ ys)

ends_behind : (xs : List ℕ) (y : ℕ) (ys : List ℕ) → ends_zero (xs ++ y ∷ ys) ≡ ends_zero (y ∷ ys)
ends_behind [] y ys = refl
ends_behind (x ∷ []) y ys = refl
ends_behind (x ∷ z ∷ zs) y ys = ends_behind (z ∷ zs) y ys

ends_both : (xs ys : List ℕ) → ends_zero xs ≡ true → ends_zero ys ≡ true → ends_zero (xs ++ ys) ≡ true
ends_both xs [] ends_x ends_y = ap ends_zero (append-nil xs) ∙ ends_x
ends_both xs (y ∷ ys) ends_x ends_y = ends_behind xs y ys ∙ ends_y

ends_entries : (clauses : List (List ℕ)) → ends_zero (entries clauses) ≡ true
ends_entries [] = refl
ends_entries (c ∷ cs) = ends_both (c ++ 0 ∷ []) (entries cs) (ends_behind c 0 []) (ends_entries cs)

some_zero : (y : ℕ) (ys : List ℕ) → ends_zero (y ∷ ys) ≡ true → 0 < zeros (y ∷ ys)
some_zero y [] ends = omega (arith, ap one_if ends)
some_zero y (z ∷ zs) ends = omega (arith, some_zero z zs ends)

-- each entry of clauses is one
pub entries_are : (vars : ℕ) (clauses : List (List ℕ)) → AreOver vars clauses → All (IsEntry vars) (entries clauses)
entries_are vars [] over = All-nil (IsEntry vars)
entries_are vars (c ∷ cs) over =
    All-append (IsEntry vars) (c ++ 0 ∷ []) (entries cs)
    (All-append (IsEntry vars) c (0 ∷ [])
    (λ k d within. let here : IsOver vars (get_or c k d) = All-head (λ (clause : List ℕ). All (IsOver vars) clause) c cs over k d within in
    (λ e. absurd (omega (arith, here.0, ap (λ n. n / 2) e)), here.1))
    (All-cons (IsEntry vars) 0 [] (λ e. absurd (omega arith), omega arith) (All-nil (IsEntry vars))))
    (entries_are vars cs (All-tail (λ (clause : List ℕ). All (IsOver vars) clause) c cs over))

-- the numbers that words spell are the only ones, and the next word spells the next number
record GoesOn (before numbers : List ℕ) (word : List ℕ) : Type 0 where
  next : ℕ
  later : List ℕ
  numbers_are : numbers ≡ before ++ next ∷ later
  word_is : word ≡ literal_text next

entries_go : (before numbers : List ℕ) (word : List ℕ) (more : List (List ℕ)) → All IsTold before → All IsTold numbers
    → map literal_text numbers ≡ map literal_text before ++ word ∷ more → GoesOn before numbers word
entries_go [] [] word more told_before told same = absurd (let h : [] ≡ word ∷ more = same in cc)
entries_go [] (n ∷ ns) word more told_before told same =
    let first : literal_text n ≡ word = cc in
    record { next = n; later = ns; numbers_are = refl; word_is = sym first }
entries_go (b ∷ bs) [] word more told_before told same = absurd (let h : [] ≡ literal_text b ∷ (map literal_text bs ++ word ∷ more) = same in cc)
entries_go (b ∷ bs) (n ∷ ns) word more told_before told same =
    let first : literal_text n ≡ literal_text b = cc in
    let others : map literal_text ns ≡ map literal_text bs ++ word ∷ more = cc in
    let h : GoesOn bs ns word = entries_go bs ns word more (All-tail IsTold b bs told_before) (All-tail IsTold n ns told) others in
    let here : n ≡ b = literal_injective n b (All-head IsTold n ns told) (All-head IsTold b bs told_before) first in
    record { next = h.next; later = h.later; numbers_are = cc (here, h.numbers_are); word_is = h.word_is }

same_numbers : (xs ys : List ℕ) → All IsTold xs → All IsTold ys → map literal_text xs ≡ map literal_text ys → xs ≡ ys
same_numbers [] [] told_x told_y same = refl
same_numbers [] (y ∷ ys) told_x told_y same = cc
same_numbers (x ∷ xs) [] told_x told_y same = cc
same_numbers (x ∷ xs) (y ∷ ys) told_x told_y same =
    let first : literal_text x ≡ literal_text y = cc in
    let others : map literal_text xs ≡ map literal_text ys = cc in
    let here : x ≡ y = literal_injective x y (All-head IsTold x xs told_x) (All-head IsTold y ys told_y) first in
    cc (here, same_numbers xs ys (All-tail IsTold x xs told_x) (All-tail IsTold y ys told_y) others)

told_entries : (vars : ℕ) (numbers : List ℕ) → vars ≤ 1000000 → All (IsEntry vars) numbers → All IsTold numbers
told_entries vars numbers few are k d within = omega (arith, (are k d within).1)

-- the entries so far
abbrev pub entries_with : List (List ℕ) → List ℕ → List ℕ
entries_with done pending = entries done ++ pending

-- The words before these are the entries of the clauses that are done, and of one that is begun.
pub record IsSoFar (vars count : ℕ) (old now : List Run) (done : List (List ℕ)) (pending : List ℕ) : Type 0 where
  pub middle : List Run
  pub parts : old ≡ middle ++ now
  pub same : spelling middle ≡ map literal_text (entries_with done pending)
  pub line : in_line 0 middle ≡ true
  pub done_over : AreOver vars done
  pub pending_over : All (IsOver vars) pending
  pub room : length done ≤ count
  pub ended : length done ≡ count → pending ≡ []

so_far_entries : (vars : ℕ) (done : List (List ℕ)) (pending : List ℕ) → AreOver vars done → All (IsOver vars) pending → All (IsEntry vars) (entries_with done pending)
so_far_entries vars done pending done_over pending_over =
    All-append (IsEntry vars) (entries done) pending (entries_are vars done done_over)
    (λ k d within. let here : IsOver vars (get_or pending k d) = pending_over k d within in (λ e. absurd (omega (arith, here.0, ap (λ n. n / 2) e)), here.1))

-- clauses that are still to come: the one begun first
abbrev filled : ℕ → List ℕ → List (List ℕ)
filled zero pending = []
filled (suc n) pending = pending ∷ replicate n []

-- the header's words, and then these
abbrev pub behind_header : {vars count : ℕ} {words after : List Run} → IsHeader vars count words after → List Run → List Run
behind_header h middle = h.p ∷ h.cnf ∷ h.first ∷ h.second ∷ middle

spelled : {vars count : ℕ} {words after : List Run} (h : IsHeader vars count words after) (middle : List Run) (v : Clauses) → v.vars ≡ vars → length v.clauses ≡ count
    → (more : List (List ℕ)) → map literal_text (entries v.clauses) ≡ spelling middle ++ more → cnf_words v ≡ spelling (behind_header h middle) ++ more
spelled {vars} {count} h middle v vars_are count_is more same =
    let a : decimal v.vars ≡ h.first.bytes = ap decimal vars_are ∙ sym h.first_is in
    let b : decimal (length v.clauses) ≡ h.second.bytes = ap decimal count_is ∙ sym h.second_is in
    cc (h.p_is, h.cnf_is, a, b, same)

lined : {vars count : ℕ} {words after : List Run} (h : IsHeader vars count words after) (middle : List Run) → in_line 0 middle ≡ true → placed (behind_header h middle) ≡ true
lined h middle line =
    let one : (list_all is_blank h.cnf.gap ≡ true) × ((list_all is_blank h.first.gap && list_all is_blank h.second.gap) ≡ true) =
    and_parts (list_all is_blank h.cnf.gap) (list_all is_blank h.first.gap && list_all is_blank h.second.gap) h.blanks in
    let two : (list_all is_blank h.first.gap ≡ true) × (list_all is_blank h.second.gap ≡ true) =
    and_parts (list_all is_blank h.first.gap) (list_all is_blank h.second.gap) one.1 in
    and_from _ _ one.0 (and_from _ _ two.0 (and_from _ _ two.1 line))

small_with : (vars : ℕ) (clauses : List (List ℕ)) (count : ℕ) → vars ≤ 1000000 → count ≤ 1000000 → length clauses ≡ count → AreOver vars clauses
    → IsSmall (record { vars = vars; clauses = clauses })
small_with vars clauses count few_vars few_clauses number over = record { vars = few_vars; count = omega arith; over = over }

-- what a formula says whose words go on from these
record IsGoing (vars count : ℕ) (before : List ℕ) (word : List ℕ) : Type 0 where
  formula : Clauses
  over : AreOver vars formula.clauses
  number : length formula.clauses ≡ count
  next : ℕ
  later : List ℕ
  numbers_are : entries formula.clauses ≡ before ++ next ∷ later
  entry : IsEntry vars next
  word_is : word ≡ literal_text next

going : {vars count : ℕ} {words after old now : List Run} (h : IsHeader vars count words after) (done : List (List ℕ)) (pending : List ℕ) (s : IsSoFar vars count old now done pending) (word : Run)
    → Begin (behind_header h s.middle ++ word ∷ []) → IsGoing vars count (entries_with done pending) word.bytes
going {vars} {count} h done pending s word begin =
    let whole : cnf_words begin.formula ≡ h.p.bytes ∷ h.cnf.bytes ∷ h.first.bytes ∷ h.second.bytes ∷ (spelling (s.middle ++ word ∷ []) ++ begin.more) = begin.same in
    let a : decimal begin.formula.vars ≡ h.first.bytes = cc in
    let b : decimal (length begin.formula.clauses) ≡ h.second.bytes = cc in
    let rest : map literal_text (entries begin.formula.clauses) ≡ spelling (s.middle ++ word ∷ []) ++ begin.more = cc in
    let vars_are : begin.formula.vars ≡ vars = decimal_injective _ _ (omega (arith, begin.small.vars)) (omega (arith, h.few_vars)) (a ∙ h.first_is) in
    let count_is : length begin.formula.clauses ≡ count = decimal_injective _ _ (omega (arith, begin.small.count)) (omega (arith, h.few_clauses)) (b ∙ h.second_is) in
    let over : AreOver vars begin.formula.clauses = subst (λ (n : ℕ). AreOver n begin.formula.clauses) vars_are begin.small.over in
    let words : map literal_text (entries begin.formula.clauses) ≡ map literal_text (entries_with done pending) ++ word.bytes ∷ begin.more =
    rest ∙ ap (λ ws. ws ++ begin.more) (map-append (λ (w : Run). w.bytes) s.middle (word ∷ [])) ∙ append_assoc (spelling s.middle) (word.bytes ∷ []) begin.more
    ∙ ap (λ ws. ws ++ word.bytes ∷ begin.more) s.same in
    let all : All (IsEntry vars) (entries begin.formula.clauses) = entries_are vars begin.formula.clauses over in
    let g : GoesOn (entries_with done pending) (entries begin.formula.clauses) word.bytes =
    entries_go _ _ word.bytes begin.more (told_entries vars _ h.few_vars (so_far_entries vars done pending s.done_over s.pending_over)) (told_entries vars _ h.few_vars all) words in
    record {
      formula = begin.formula;
      over = over;
      number = count_is;
      next = g.next;
      later = g.later;
      numbers_are = g.numbers_are;
      entry = all_behind (IsEntry vars) (entries_with done pending) g.next g.later (subst (All (IsEntry vars)) g.numbers_are all);
      word_is = g.word_is;
    }

-- a formula that the words spell has as many clauses as are done
spelt : {vars count : ℕ} {words after old now : List Run} (h : IsHeader vars count words after) (done : List (List ℕ)) (pending : List ℕ) (s : IsSoFar vars count old now done pending) (v : Clauses)
    → Spell (behind_header h s.middle) v → length done ≡ count
spelt {vars} {count} h done pending s v spell =
    let whole : h.p.bytes ∷ h.cnf.bytes ∷ h.first.bytes ∷ h.second.bytes ∷ spelling s.middle ≡ cnf_words v = spell.same in
    let a : decimal v.vars ≡ h.first.bytes = cc in
    let b : decimal (length v.clauses) ≡ h.second.bytes = cc in
    let rest : map literal_text (entries v.clauses) ≡ spelling s.middle = cc in
    let vars_are : v.vars ≡ vars = decimal_injective _ _ (omega (arith, spell.small.vars)) (omega (arith, h.few_vars)) (a ∙ h.first_is) in
    let count_is : length v.clauses ≡ count = decimal_injective _ _ (omega (arith, spell.small.count)) (omega (arith, h.few_clauses)) (b ∙ h.second_is) in
    let over : AreOver vars v.clauses = subst (λ (n : ℕ). AreOver n v.clauses) vars_are spell.small.over in
    let same : entries v.clauses ≡ entries_with done pending =
    same_numbers _ _ (told_entries vars _ h.few_vars (entries_are vars v.clauses over))
    (told_entries vars _ h.few_vars (so_far_entries vars done pending s.done_over s.pending_over)) (rest ∙ s.same) in
    omega (arith, ap zeros same, zeros_entries vars v.clauses over, zeros_append (entries done) pending, zeros_entries vars done s.done_over, no_zeros vars pending s.pending_over)

filled_number : (n : ℕ) (pending : List ℕ) → length (filled (suc n) pending) ≡ suc n
filled_number n pending = ap suc (length-replicate n [])

begins : {vars count : ℕ} {words after old now : List Run} (h : IsHeader vars count words after) (done : List (List ℕ)) (pending : List ℕ) (s : IsSoFar vars count old now done pending) (left : ℕ)
    → length done + suc left ≡ count → Begin (behind_header h s.middle)
begins {vars} {count} h done pending s left room =
    let clauses : List (List ℕ) = done ++ filled (suc left) pending in
    let formula : Clauses = record { vars = vars; clauses = clauses } in
    let more : List (List ℕ) = map literal_text (0 ∷ entries (replicate left [])) in
    let number : length clauses ≡ count = length-append done (filled (suc left) pending) ∙ ap (λ n. length done + n) (filled_number left pending) ∙ room in
    let over : AreOver vars clauses =
    All-append (λ (clause : List ℕ). All (IsOver vars) clause) done (filled (suc left) pending) s.done_over
    (All-cons (λ (clause : List ℕ). All (IsOver vars) clause) pending (replicate left []) s.pending_over
    (All-replicate (λ (clause : List ℕ). All (IsOver vars) clause) left [] (All-nil (IsOver vars)))) in
    let numbers : entries clauses ≡ entries_with done pending ++ (0 ∷ entries (replicate left [])) =
    flat_map-append (λ clause. clause ++ 0 ∷ []) done (filled (suc left) pending)
    ∙ regrouped (entries done) pending (entries (replicate left [])) in
    let same : map literal_text (entries clauses) ≡ spelling s.middle ++ more =
    ap (map literal_text) numbers ∙ map-append literal_text (entries_with done pending) (0 ∷ entries (replicate left [])) ∙ ap (λ ws. ws ++ more) (sym s.same) in
    record {
      formula = formula;
      more = more;
      small = small_with vars clauses count h.few_vars h.few_clauses number over;
      same = spelled h s.middle formula refl number more same;
      header = lined h s.middle s.line;
    }
  where
    regrouped : (a b c : List ℕ) → a ++ ((b ++ 0 ∷ []) ++ c) ≡ (a ++ b) ++ (0 ∷ c)
    regrouped a b c = simp append_assoc

-- where clauses are still to come, the next word is an entry
pub body_at : {vars count : ℕ} {words after old now : List Run} (h : IsHeader vars count words after) (done : List (List ℕ)) (pending : List ℕ) (s : IsSoFar vars count old now done pending)
    → length done < count → (first : Bool) → (first ≡ true → s.middle ≡ []) → HeadAt (behind_header h s.middle) (IsNextEntry vars first)
body_at {vars} {count} h done pending s left first at_first =
    record {
      before = begins h done pending s (count - length done - 1) (omega arith);
      next = λ word begin.
          let g : IsGoing vars count (entries_with done pending) word.bytes = going h done pending s word begin in
          (g.next, g.entry, g.word_is, λ is_first. own_line s.middle word begin.header (at_first is_first));
      longer = λ v spell. absurd (omega (arith, spelt h done pending s v spell));
    }
  where
    own_line : (middle : List Run) (word : Run) → placed (behind_header h middle ++ word ∷ []) ≡ true → middle ≡ [] → list_any is_line_end word.gap ≡ true
    own_line [] word header none =
        let one : (list_all is_blank h.cnf.gap ≡ true) × ((list_all is_blank h.first.gap && (list_all is_blank h.second.gap && list_any is_line_end word.gap)) ≡ true) =
        and_parts (list_all is_blank h.cnf.gap) (list_all is_blank h.first.gap && (list_all is_blank h.second.gap && list_any is_line_end word.gap)) header in
        let two : (list_all is_blank h.first.gap ≡ true) × ((list_all is_blank h.second.gap && list_any is_line_end word.gap) ≡ true) =
        and_parts (list_all is_blank h.first.gap) (list_all is_blank h.second.gap && list_any is_line_end word.gap) one.1 in
        (and_parts (list_all is_blank h.second.gap) (list_any is_line_end word.gap) two.1).1
    own_line (m ∷ ms) word header none = absurd (let e : m ∷ ms ≡ [] = none in cc)

-- nothing is read yet
pub so_far_start : (vars count : ℕ) (words : List Run) → IsSoFar vars count words words [] []
so_far_start vars count words =
    record {
      middle = [];
      parts = refl;
      same = refl;
      line = refl;
      done_over = All-nil (λ (clause : List ℕ). All (IsOver vars) clause);
      pending_over = All-nil (IsOver vars);
      room = omega arith;
      ended = λ _. refl;
    }

-- whether nothing is read yet
abbrev pub at_start : List (List ℕ) → List ℕ → Bool
at_start done pending = (length done == 0) && (length pending == 0)

pub starts : {vars count : ℕ} {old now : List Run} (done : List (List ℕ)) (pending : List ℕ) (s : IsSoFar vars count old now done pending) → at_start done pending ≡ true → s.middle ≡ []
starts done pending s is = by_middle s.middle (s.same ∙ none done pending is)
  where
    none : (cs : List (List ℕ)) (ns : List ℕ) → at_start cs ns ≡ true → map literal_text (entries_with cs ns) ≡ []
    none [] [] h = refl
    none [] (n ∷ ns) h = absurd (false≢true (sym (ne_eqb (length (n ∷ ns)) 0 (λ e. absurd (omega arith))) ∙ h))
    none (c ∷ cs) ns h =
        absurd (false≢true (sym (ne_eqb (length (c ∷ cs)) 0 (λ e. absurd (omega arith))) ∙ (and_parts (length (c ∷ cs) == 0) (length ns == 0) h).0))

    by_middle : (ms : List Run) → spelling ms ≡ [] → ms ≡ []
    by_middle [] e = refl
    by_middle (m ∷ ms) e = cc

pub start_is : {vars count : ℕ} {old now : List Run} (done : List (List ℕ)) (pending : List ℕ) (s : IsSoFar vars count old now done pending) → s.middle ≡ [] → at_start done pending ≡ true
start_is done pending s none = by_parts done pending (ap spelling (sym none) ∙ s.same)
  where
    by_parts : (cs : List (List ℕ)) (ns : List ℕ) → [] ≡ map literal_text (entries_with cs ns) → at_start cs ns ≡ true
    by_parts [] [] e = refl
    by_parts [] (n ∷ ns) e = cc
    by_parts ([] ∷ cs) ns e = cc
    by_parts ((n ∷ c) ∷ cs) ns e = cc

-- one word more
more_line : (middle : List Run) (word : Run) → in_line 0 middle ≡ true → (middle ≡ [] → list_any is_line_end word.gap ≡ true) → in_line 0 (middle ++ word ∷ []) ≡ true
more_line [] word line own = own refl
more_line (m ∷ ms) word line own = line

more_words : (middle now now' old : List Run) (word : Run) → old ≡ middle ++ now → now ≡ word ∷ now' → old ≡ (middle ++ word ∷ []) ++ now'
more_words middle now now' old word parts is = parts ∙ ap (λ ws. middle ++ ws) is ∙ sym (append_assoc middle (word ∷ []) now')

more_spelled : (middle : List Run) (word : Run) (numbers : List ℕ) (number : ℕ) → spelling middle ≡ map literal_text numbers → word.bytes ≡ literal_text number
    → spelling (middle ++ word ∷ []) ≡ map literal_text (numbers ++ number ∷ [])
more_spelled middle word numbers number same is =
    map-append (λ (w : Run). w.bytes) middle (word ∷ []) ∙ ap (λ ws. ws ++ word.bytes ∷ []) same ∙ ap (λ b. map literal_text numbers ++ b ∷ []) is
    ∙ sym (map-append literal_text numbers (number ∷ []))

pub so_far_literal : {vars count : ℕ} {old now : List Run} (done : List (List ℕ)) (pending : List ℕ) (s : IsSoFar vars count old now done pending) (now' : List Run) (word : Run) (lit : ℕ)
    → now ≡ word ∷ now' → word.bytes ≡ literal_text lit → IsOver vars lit → length done < count → (at_start done pending ≡ true → list_any is_line_end word.gap ≡ true)
    → IsSoFar vars count old now' done (pending ++ lit ∷ [])
so_far_literal {vars} {count} {old} {now} done pending s now' word lit is spelled_is over left own =
    record {
      middle = s.middle ++ word ∷ [];
      parts = more_words s.middle now now' old word s.parts is;
      same = more_spelled s.middle word (entries_with done pending) lit s.same spelled_is ∙ ap (map literal_text) (append_assoc (entries done) pending (lit ∷ []));
      line = more_line s.middle word s.line (λ none. own (start_is done pending s none));
      done_over = s.done_over;
      pending_over = All-append (IsOver vars) pending (lit ∷ []) s.pending_over (All-cons (IsOver vars) lit [] over (All-nil (IsOver vars)));
      room = s.room;
      ended = λ e. absurd (omega arith);
    }

pub so_far_end : {vars count : ℕ} {old now : List Run} (done : List (List ℕ)) (pending : List ℕ) (s : IsSoFar vars count old now done pending) (now' : List Run) (word : Run)
    → now ≡ word ∷ now' → word.bytes ≡ literal_text 0 → length done < count → (at_start done pending ≡ true → list_any is_line_end word.gap ≡ true)
    → IsSoFar vars count old now' (done ++ pending ∷ []) []
so_far_end {vars} {count} {old} {now} done pending s now' word is spelled_is left own =
    record {
      middle = s.middle ++ word ∷ [];
      parts = more_words s.middle now now' old word s.parts is;
      same = more_spelled s.middle word (entries_with done pending) 0 s.same spelled_is ∙ ap (map literal_text) (sym (regrouped (entries done) pending) ∙ ap (λ ns. ns ++ []) (sym (flat_map-append (λ clause. clause ++ 0 ∷ []) done (pending ∷ []))));
      line = more_line s.middle word s.line (λ none. own (start_is done pending s none));
      done_over = All-append (λ (clause : List ℕ). All (IsOver vars) clause) done (pending ∷ []) s.done_over
          (All-cons (λ (clause : List ℕ). All (IsOver vars) clause) pending [] s.pending_over (All-nil (λ (clause : List ℕ). All (IsOver vars) clause)));
      pending_over = All-nil (IsOver vars);
      room = omega (arith, length-append done (pending ∷ []));
      ended = λ _. refl;
    }
  where
    regrouped : (a b : List ℕ) → (a ++ ((b ++ 0 ∷ []) ++ [])) ++ [] ≡ (a ++ b) ++ 0 ∷ []
    regrouped a b = simp (append_assoc, append-nil)

-- all clauses are read
pub so_far_body : {vars count : ℕ} {old now : List Run} (done : List (List ℕ)) (pending : List ℕ) (s : IsSoFar vars count old now done pending) → length done ≡ count → IsBody vars count old now done
so_far_body done pending s all =
    record {
      middle = s.middle;
      parts = s.parts;
      same = s.same ∙ ap (λ ns. map literal_text (entries done ++ ns)) (s.ended all) ∙ ap (map literal_text) (append-nil (entries done));
      line = s.line;
      over = s.done_over;
      number = all;
    }

-- the words of a header and its clauses spell the formula
pub whole_spelled : {vars count : ℕ} {words after now : List Run} (h : IsHeader vars count words after) (clauses : List (List ℕ)) (b : IsBody vars count after now clauses)
    → Spell (behind_header h b.middle) (record { vars = vars; clauses = clauses })
whole_spelled {vars} {count} h clauses b =
    let formula : Clauses = record { vars = vars; clauses = clauses } in
    let words : cnf_words formula ≡ spelling (behind_header h b.middle) ++ [] =
    spelled h b.middle formula refl b.number [] (sym b.same ∙ sym (append-nil (spelling b.middle))) in
    record {
      small = small_with vars clauses count h.few_vars h.few_clauses b.number b.over;
      same = sym (append-nil (spelling (behind_header h b.middle))) ∙ sym words;
      header = lined h b.middle b.line;
    }

body_so_far : {vars count : ℕ} {old now : List Run} (clauses : List (List ℕ)) (b : IsBody vars count old now clauses) → IsSoFar vars count old now clauses []
body_so_far {vars} clauses b =
    record {
      middle = b.middle;
      parts = b.parts;
      same = b.same ∙ ap (map literal_text) (sym (append-nil (entries clauses)));
      line = b.line;
      done_over = b.over;
      pending_over = All-nil (IsOver vars);
      room = omega (arith, b.number);
      ended = λ _. refl;
    }

-- and no formula's words go on behind them
pub whole_ends : {vars count : ℕ} {words after now : List Run} (h : IsHeader vars count words after) (clauses : List (List ℕ)) (b : IsBody vars count after now clauses) (word : Run)
    → Begin (behind_header h b.middle ++ word ∷ []) → ⊥
unfolding body_so_far
whole_ends {vars} {count} h clauses b word begin =
    let g : IsGoing vars count (entries_with clauses []) word.bytes = going h clauses [] (body_so_far clauses b) word begin in
    let same : entries g.formula.clauses ≡ entries clauses ++ g.next ∷ g.later = g.numbers_are ∙ ap (λ ns. ns ++ g.next ∷ g.later) (append-nil (entries clauses)) in
    let ends : ends_zero (g.next ∷ g.later) ≡ true = sym (ends_behind (entries clauses) g.next g.later) ∙ ap ends_zero (sym same) ∙ ends_entries g.formula.clauses in
    absurd (omega (
      arith,
      ap zeros same,
      zeros_append (entries clauses) (g.next ∷ g.later),
      zeros_entries vars clauses b.over,
      zeros_entries vars g.formula.clauses g.over,
      g.number,
      b.number,
      some_zero g.next g.later ends,
    ))

-- an entry more, put to the others
pub so_far_put : {vars count : ℕ} {old now : List Run} (done : List (List ℕ)) (pending : List ℕ) (s : IsSoFar vars count old now done pending) (now' : List Run) (word : Run) (entry : Entry)
    (done' : List (List ℕ)) (pending' : List ℕ) → now ≡ word ∷ now' → word.bytes ≡ literal_text (entry_number entry) → IsWithin vars entry → length done < count
    → (at_start done pending ≡ true → list_any is_line_end word.gap ≡ true) → Puts entry done pending done' pending' → IsSoFar vars count old now' done' pending'
so_far_put {vars} {count} {old} done pending s now' word End done' pending' is spelled_is within left own puts =
    subst (λ (ds : List (List ℕ)). IsSoFar vars count old now' ds pending') (sym puts.0)
    (subst (λ (ps : List ℕ). IsSoFar vars count old now' (done ++ pending ∷ []) ps) (sym puts.1) (so_far_end done pending s now' word is spelled_is left own))
so_far_put {vars} {count} {old} done pending s now' word (Literal lit) done' pending' is spelled_is within left own puts =
    subst (λ (ds : List (List ℕ)). IsSoFar vars count old now' ds pending') (sym puts.0)
    (subst (λ (ps : List ℕ). IsSoFar vars count old now' done ps) (sym puts.1) (so_far_literal done pending s now' word lit is spelled_is within left own))

-- the words of the header, then those read, then the rest
pub whole_parts : {vars count : ℕ} {words after : List Run} (h : IsHeader vars count words after) (middle now : List Run) → after ≡ middle ++ now → words ≡ behind_header h middle ++ now
whole_parts h middle now parts = h.parts ∙ ap (λ ws. h.p ∷ h.cnf ∷ h.first ∷ h.second ∷ ws) parts

-- where an entry is missed, it is the fault of the whole
pub entry_missed : {vars count : ℕ} {old now : List Run} (done : List (List ℕ)) (pending : List ℕ) (s : IsSoFar vars count old now done pending) (given end : ℕ) (first : Bool) (fault : TextFault)
    → given ≡ vars → length done < count → first ≡ at_start done pending → Misses (IsNextEntry given first) now end fault → (whole : List Run) → IsHeader vars count whole old → BlamesWords whole end fault
entry_missed {vars} {count} {old} {now} done pending s given end first fault same left first_is misses whole h =
    missed (IsNextEntry vars first) (behind_header h s.middle) now whole end fault
    (body_at h done pending s left first (λ e. starts done pending s (sym first_is ∙ e)))
    (whole_parts h s.middle now s.parts)
    (subst (λ (n : ℕ). Misses (IsNextEntry n first) now end fault) same misses)

-- the same header and clauses, where their words and their number of variables are told by other names
pub header_as : {vars count : ℕ} {words after : List Run} (h : IsHeader vars count words after) (vars' : ℕ) (words' : List Run) → vars ≡ vars' → words ≡ words' → IsHeader vars' count words' after
header_as {vars} {count} {words} {after} h vars' words' same_vars same_words =
    subst (λ (n : ℕ). IsHeader n count words' after) same_vars (subst (λ (ws : List Run). IsHeader vars count ws after) same_words h)

pub body_as : {vars count : ℕ} {old now : List Run} (clauses : List (List ℕ)) (b : IsBody vars count old now clauses) (vars' : ℕ) → vars ≡ vars' → IsBody vars' count old now clauses
body_as {vars} {count} {old} {now} clauses b vars' same = subst (λ (n : ℕ). IsBody n count old now clauses) same b

-- behind all clauses another word is wrong, unless it ends the reading
pub ends_wrong : {vars count : ℕ} {words after now : List Run} (h : IsHeader vars count words after) (clauses : List (List ℕ)) (b : IsBody vars count after now clauses) (word : Run) (rest : List Run)
    → now ≡ word ∷ rest → closes word ≡ false → IsWrongWord words word.at
ends_wrong h clauses b word rest is stays =
    record {
      front = behind_header h b.middle;
      word = word;
      rest = rest;
      parts = whole_parts h b.middle _ b.parts ∙ ap (λ ws. behind_header h b.middle ++ ws) is;
      place = refl;
      before = begins_whole (whole_spelled h clauses b);
      with_it = whole_ends h clauses b word;
      reading = λ v spell ends. false≢true (sym stays ∙ ends);
    }
  where
    begins_whole : {ws : List Run} {v : Clauses} → Spell ws v → Begin ws
    begins_whole {ws} {v} spell = record { formula = v; more = []; small = spell.small; same = sym spell.same ∙ sym (append-nil (spelling ws)); header = spell.header }

-- where such a word or none is there, the words are those of the formula
pub ends_right : {vars count : ℕ} {words after now : List Run} (h : IsHeader vars count words after) (clauses : List (List ℕ)) (b : IsBody vars count after now clauses) → IsClosing now
    → AreOf words (record { vars = vars; clauses = clauses })
ends_right {vars} {count} {words} {after} {now} h clauses b closed =
    record {
      front = behind_header h b.middle;
      closing = now;
      parts = whole_parts h b.middle now b.parts;
      spelled = whole_spelled h clauses b;
      closed = closed;
    }
