-- The text of a formula: DIMACS CNF, as the SAT competitions use it.
use Rattle.std.specs.Prelude.{◌≡◌, ℕ, ◌-◌, ◌≤◌, ◌==◌, zero, suc, Bool, true, ◌&&◌, ◌⊎◌, List, [], ◌∷◌, ◌++◌, All, length, map, codes, slice_index, IsTrue}
use Rattle.std.specs.List.{flat_map, join_with_byte, list_any, list_all}
use Rattle.std.specs.Fmt.{decimal}
use Rattle.cnf_core.specs.Clauses.{Clauses}
use Rattle.cnf_core.specs.Literal.{IsOver}
use Rattle.derivation.specs.declared.fault.TextFault.{TextFault}
use Rattle.derivation.specs.declared.fault.TextFault.TheVariants.{BadText, NoMemory}
use Rattle.derivation.specs.Runs.{Run, is_blank, is_line_end, words_of}
use Rattle.derivation.specs.Texts.{literal_text}

-- the literals of clauses one after the other, with a 0 behind each clause
abbrev pub entries : List (List ℕ) → List ℕ
entries clauses = flat_map (λ clause. clause ++ 0 ∷ []) clauses

-- the words of a formula: `p`, `cnf`, how many variables and clauses, and the clauses
abbrev pub cnf_words : Clauses → List (List ℕ)
cnf_words v = codes "p" ∷ codes "cnf" ∷ decimal v.vars ∷ decimal (length v.clauses) ∷ map literal_text (entries v.clauses)

-- A formula that a text may hold.
pub record IsSmall (v : Clauses) : Type 0 where
  pub vars : v.vars ≤ 1000000
  pub count : length v.clauses ≤ 1000000
  pub over : All (λ clause. All (IsOver v.vars) clause) v.clauses

-- the bytes of words
abbrev pub spelling : List Run → List (List ℕ)
spelling words = map (λ word. word.bytes) words

-- whether the next n words follow on the same line, parted by blanks alone, and the word behind them stands on a later line
abbrev pub in_line : ℕ → List Run → Bool
in_line n [] = true
in_line zero (word ∷ words) = list_any is_line_end word.gap
in_line (suc n) (word ∷ words) = list_all is_blank word.gap && in_line n words

-- whether the header stands on a line of its own
abbrev pub placed : List Run → Bool
placed [] = true
placed (word ∷ words) = in_line 3 words

-- The words spell the formula.
pub record Spell (words : List Run) (v : Clauses) : Type 0 where
  pub small : IsSmall v
  pub same : spelling words ≡ cnf_words v
  pub header : IsTrue (placed words)

-- Some formula's words begin with these.
pub record Begin (words : List Run) : Type 0 where
  pub formula : Clauses
  pub more : List (List ℕ)
  pub small : IsSmall formula
  pub same : cnf_words formula ≡ spelling words ++ more
  pub header : IsTrue (placed words)

-- whether a word stands at the start of its line and begins with `%`: it ends the reading
abbrev pub closes : Run → Bool
closes word = (slice_index word.bytes 0 == 37) && is_line_end (slice_index word.gap (length word.gap - 1))

-- Nothing is left, or a line that ends the reading.
abbrev pub IsClosing : List Run → Type 0
IsClosing [] = Unit {0}
IsClosing (word ∷ words) = IsTrue (closes word)

-- Words of a text spell the formula, up to its end or a line that ends the reading.
pub record AreOf (words : List Run) (v : Clauses) : Type 0 where
  pub front : List Run
  pub closing : List Run
  pub parts : words ≡ front ++ closing
  pub spelled : Spell front v
  pub closed : IsClosing closing

-- The text is one of this formula.
abbrev pub IsCnfText : List ℕ → Clauses → Type 0
IsCnfText text v = AreOf (words_of text) v

-- At this place the first word stands with which no formula's words begin, and which does not end the reading.
pub record IsWrongWord (words : List Run) (at : ℕ) : Type 0 where
  pub front : List Run
  pub word : Run
  pub rest : List Run
  pub parts : words ≡ front ++ word ∷ rest
  pub place : at ≡ word.at
  pub before : Begin front
  pub with_it : Begin (front ++ word ∷ []) → ⊥
  pub reading : (v : Clauses) → Spell front v → IsTrue (closes word) → ⊥

-- Some formula's words begin with all of these, but they spell none: at the end something is missing.
pub record IsShort (words : List Run) (end at : ℕ) : Type 0 where
  pub place : at ≡ end
  pub before : Begin words
  pub unfinished : (v : Clauses) → Spell words v → ⊥

-- What refused words have. Want of memory says nothing.
abbrev pub BlamesWords : List Run → ℕ → TextFault → Type 0
BlamesWords words end (BadText at) = IsWrongWord words at ⊎ IsShort words end at
BlamesWords words end NoMemory = Unit {0}

-- What a refused text has: its first wrong word, or its end.
abbrev pub BlamesCnf : List ℕ → TextFault → Type 0
BlamesCnf text fault = BlamesWords (words_of text) (length text) fault

-- a clause of the written text: its literals and 0, parted by one space, and a line feed
abbrev pub clause_line : List ℕ → List ℕ
clause_line clause = join_with_byte 32 (map literal_text (clause ++ 0 ∷ [])) ++ 10 ∷ []

-- the written text: the header, and each clause on a line
abbrev pub text_of_cnf : Clauses → List ℕ
text_of_cnf v = (((codes "p cnf " ++ decimal v.vars) ++ 32 ∷ []) ++ decimal (length v.clauses)) ++ (10 ∷ [] ++ flat_map clause_line v.clauses)
