-- The one line that a refusal prints.
use Rattle.std.specs.Prelude.{ℕ, List, [], ◌++◌, decimal, codes}
use Rattle.java_lex.specs.declared.spelling.Absent.{Absent}
use Rattle.java_lex.specs.declared.spelling.Absent.TheVariants as absent
use Rattle.refusals.specs.declared.refusal.Many.{Many}
use Rattle.refusals.specs.declared.refusal.Many.TheVariants as many
use Rattle.refusals.specs.declared.refusal.Refusal.{Refusal}
use Rattle.refusals.specs.declared.refusal.Refusal.TheVariants as source
use Rattle.taco_report.specs.declared.status.Status.{Status}
use Rattle.taco_report.specs.declared.status.Status.TheVariants as status
use Rattle.taco_report.specs.Texts.{line}

-- what the profile has not
abbrev pub absent_text : Absent → List ℕ
absent_text absent.Array = codes "array"
absent_text absent.Text = codes "text"
absent_text absent.TypeWord = codes "type"
absent_text absent.Class = codes "class"
absent_text absent.Statement = codes "statement"
absent_text absent.Modifier = codes "modifier"
absent_text absent.Operator = codes "operator"
absent_text absent.Super = codes "super"
absent_text absent.Jml = codes "jml"

-- what there is too much of
abbrev pub many_text : Many → List ℕ
many_text many.Classes = codes "classes"
many_text many.Fields = codes "fields"
many_text many.RefFields = codes "reffields"
many_text many.Methods = codes "methods"
many_text many.Params = codes "params"
many_text many.Locals = codes "locals"
many_text many.Clauses = codes "clauses"
many_text many.Loops = codes "loops"
many_text many.Quantifiers = codes "quantifiers"

-- words with a place behind them
abbrev pub placed : List ℕ → ℕ → List ℕ
placed words at = words ++ codes " " ++ decimal at

-- why the bytes of a Java text stand for no unit
abbrev pub source_words : Refusal → List ℕ
source_words (source.BadToken at) = placed (codes "badtoken") at
source_words (source.Syntax at) = placed (codes "syntax") at
source_words (source.Unsupported part at) = codes "unsupported" ++ codes " " ++ placed (absent_text part) at
source_words (source.Deep at) = placed (codes "deep") at
source_words (source.Unknown at) = placed (codes "unknown") at
source_words (source.Twice at) = placed (codes "twice") at
source_words (source.Kinds at) = placed (codes "kinds") at
source_words (source.TooMany many at) = codes "toomany" ++ codes " " ++ placed (many_text many) at

-- the words of a refusal; other statuses are none and have no words
abbrev pub refusal_words : Status → List ℕ
refusal_words status.Usage = codes "usage"
refusal_words status.NotBuilt = codes "notbuilt"
refusal_words (status.Source refusal) = codes "source " ++ source_words refusal
refusal_words status.NoMethod = codes "nomethod"
refusal_words (status.BadState at) = placed (codes "badstate") at
refusal_words (status.BadText slot at) = codes "badtext " ++ decimal slot ++ codes " " ++ decimal at
refusal_words (status.TooLong slot) = codes "toolong"
refusal_words _ = []

abbrev pub refusal_line : Status → List ℕ
refusal_line s = line (refusal_words s)
