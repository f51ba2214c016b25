-- The texts about a formula and a log over it, of the commands `sat` and `proof`: lines that end with LF, with decimal numbers.
use Rattle.std.specs.Prelude.{ℕ, Bool, List, ◌++◌, flat_map, decimal, codes, if◌then◌else◌}
use Rattle.std.specs.List.{enumerate_from}
use Rattle.derivation.specs.LogText.{text_of_log}
use Rattle.derivation.specs.Step.{Step}
use Rattle.taco_report.specs.Texts.{line}

-- the lines about a log of so many lines that refutes its formula, and of one that is valid but does not
abbrev pub refuted_line : ℕ → List ℕ
refuted_line lines = codes "refuted " ++ (decimal lines ++ codes "\n")

abbrev pub valid_line : ℕ → List ℕ
valid_line lines = codes "valid " ++ (decimal lines ++ codes "\n")

-- the line about a log whose line of this number is the first that does not follow
abbrev pub badline_line : ℕ → List ℕ
badline_line n = codes "badline " ++ (decimal n ++ codes "\n")

-- a variable as a literal that is true under its value, behind a space
abbrev pub literal_word : ℕ × Bool → List ℕ
literal_word e = (if e.1 then codes " " else codes " -") ++ decimal e.0

-- the line of values, of which the first is that of variable 1: `v`, a literal for each variable, and `0`
abbrev pub values_line : List Bool → List ℕ
values_line values = codes "v" ++ flat_map literal_word (enumerate_from 1 values) ++ codes " 0\n"

-- the text of values that satisfy a formula, that of a log that refutes it, and that of a spent budget
abbrev pub satisfiable_text : List Bool → List ℕ
satisfiable_text values = codes "s SATISFIABLE\n" ++ values_line values

abbrev pub unsatisfiable_text : List Step → List ℕ
unsatisfiable_text steps = codes "s UNSATISFIABLE\n" ++ text_of_log steps

abbrev pub unknown_text : List ℕ
unknown_text = line (codes "s UNKNOWN")
