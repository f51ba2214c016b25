-- One word that is expected, and the parts of a text of a formula that are read one after the other.
use Rattle.std.specs.Prelude.{◌≡◌, ℕ, ◌≤◌, Bool, ◌||◌, ◌&&◌, ◌⊎◌, List, [], ◌∷◌, ◌++◌, All, length, map, codes, IsTrue}
use Rattle.std.specs.List.{list_any, list_all}
use Rattle.std.specs.Fmt.{decimal}
use Rattle.cnf_core.specs.Literal.{IsOver}
use Rattle.derivation.specs.declared.fault.TextFault.{TextFault}
use Rattle.derivation.specs.declared.fault.TextFault.TheVariants.{BadText, NoMemory}
use Rattle.derivation.specs.CnfText.{spelling, in_line, entries}
use Rattle.derivation.specs.Entry.{IsEntry}
use Rattle.derivation.specs.Runs.{Run, is_blank, is_line_end}
use Rattle.derivation.specs.Texts.{literal_text}

-- The word is this one, and on the line of the one before it unless it is the first.
abbrev pub IsNamed : List ℕ → Bool → Run → Type 0
IsNamed bytes first word = (word.bytes ≡ bytes) × IsTrue (first || list_all is_blank word.gap)

-- The word is a number of the header.
abbrev pub IsCount : Run → Type 0
IsCount word = (n : ℕ) × (n ≤ 1000000) × (word.bytes ≡ decimal n) × IsTrue (list_all is_blank word.gap)

-- The word is an entry of a clause, the first one on a line behind the header's.
abbrev pub IsNextEntry : ℕ → Bool → Run → Type 0
IsNextEntry vars first word = (lit : ℕ) × IsEntry vars lit × (word.bytes ≡ literal_text lit) × (IsTrue first → IsTrue (list_any is_line_end word.gap))

-- No such word stands first: there is none, or it is another, at this place.
pub record IsMissed (P : Run → Type 0) (words : List Run) (end at : ℕ) : Type 0 where
  pub why : ((words ≡ []) × (at ≡ end)) ⊎ ((word : Run) × (rest : List Run) × (words ≡ word ∷ rest) × (at ≡ word.at) × (P word → ⊥))

-- What a call has that expects such a word and is refused.
abbrev pub Misses : (Run → Type 0) → List Run → ℕ → TextFault → Type 0
Misses P words end (BadText at) = IsMissed P words end at
Misses P words end NoMemory = Unit {0}

-- The header's four words stand before the others.
pub record IsHeader (vars count : ℕ) (words after : List Run) : Type 0 where
  pub p : Run
  pub cnf : Run
  pub first : Run
  pub second : Run
  pub parts : words ≡ p ∷ cnf ∷ first ∷ second ∷ after
  pub p_is : p.bytes ≡ codes "p"
  pub cnf_is : cnf.bytes ≡ codes "cnf"
  pub first_is : first.bytes ≡ decimal vars
  pub second_is : second.bytes ≡ decimal count
  pub blanks : IsTrue (list_all is_blank cnf.gap && (list_all is_blank first.gap && list_all is_blank second.gap))
  pub few_vars : vars ≤ 1000000
  pub few_clauses : count ≤ 1000000

-- The words before these are the entries of the clauses, as many as the header says.
pub record IsBody (vars count : ℕ) (words after : List Run) (clauses : List (List ℕ)) : Type 0 where
  pub middle : List Run
  pub parts : words ≡ middle ++ after
  pub same : spelling middle ≡ map literal_text (entries clauses)
  pub line : IsTrue (in_line 0 middle)
  pub over : All (λ clause. All (IsOver vars) clause) clauses
  pub number : length clauses ≡ count
