-- How what is awaited within an expression is brought to its end: its next token on the way, and what is awaited
-- then.
use Rattle.std.specs.Prelude.{ℕ, zero, suc, Bool, true, false, List, [], ◌∷◌, ◌++◌, codes}
use Rattle.java_lex.specs.declared.token.Token.{Token}
use Rattle.java_lex.specs.declared.token.TokenKind.{TokenKind}
use Rattle.java_lex.specs.declared.token.TokenKind.TheVariants.{Word, Number, Symbol}
use Rattle.java_lex.specs.declared.words.TheConstants.{INT_SIZE}
use Rattle.expression_reading.specs.Operators.{top}
use Rattle.expression_reading.specs.Wants.{Want, Operand, Chain, Steps, Called, Step, Args, MoreArgs, New, NewOpen, Bracket, Empty, Group, Second, Reach, Fields, Dot, Question, Name, Close, Comma, Semicolon}

-- some token of this kind
abbrev pub some_token : Bool → TokenKind → Token
some_token side kind = record { kind = kind; jml = side; from = 0; to = 0 }

abbrev pub symbol : Bool → List ℕ → Token
symbol side bytes = some_token side (Symbol bytes)

-- `x`
abbrev pub some_name : Bool → Token
some_name side = some_token side (Word (codes "x"))

-- `0` ends an operand, and `()` or a name what is not one
abbrev pub want_token : Want → Token
want_token (Operand side n l) = some_token side (Number 0)
want_token (Chain side n l) = some_token side (Number 0)
want_token (Steps side l) = some_token side (Number 0)
want_token (Called l) = some_token false (Number 0)
want_token (Step side l) = some_name side
want_token (Args l) = symbol false (codes ")")
want_token (MoreArgs l) = symbol false (codes ")")
want_token (New l) = some_name false
want_token (NewOpen l) = symbol false (codes "(")
want_token (Bracket l) = symbol true (codes "(")
want_token (Empty l) = symbol true (codes "(")
want_token (Group l) = some_token true (Number 0)
want_token (Second l) = symbol true (codes ")")
want_token (Reach l) = symbol true (codes "(")
want_token (Fields l) = symbol true (codes ")")
want_token (Dot l) = symbol true (codes ".")
want_token (Question l) = some_token true (Word INT_SIZE.now)
want_token (Name side) = some_name side
want_token (Close side) = symbol side (codes ")")
want_token Comma = symbol true (codes ",")
want_token Semicolon = symbol true (codes ";")

-- what may go on behind an operand of the number n
abbrev pub chains : Bool → ℕ → ℕ → List Want
chains side zero l = []
chains side (suc n) l = chains side n l ++ Chain side n l ∷ []

abbrev pub behind_name : Bool → ℕ → Want
behind_name false l = Called l
behind_name true l = Steps true l

-- what is awaited behind that token
abbrev pub want_behind : Want → List Want
want_behind (Operand side n l) = chains side n l
want_behind (Chain side n l) = []
want_behind (Steps side l) = []
want_behind (Called l) = []
want_behind (Step side l) = behind_name side l ∷ []
want_behind (Args l) = []
want_behind (MoreArgs l) = []
want_behind (New l) = NewOpen l ∷ []
want_behind (NewOpen l) = Close false ∷ []
want_behind (Bracket l) = Operand true (top true) (suc l) ∷ Close true ∷ []
want_behind (Empty l) = Close true ∷ []
want_behind (Group l) = chains true (top true) (suc l) ++ Close true ∷ Steps true l ∷ []
want_behind (Second l) = []
want_behind (Reach l) = Operand true (top true) (suc l) ∷ Comma ∷ Name true ∷ Comma ∷ Name true ∷ Fields l ∷ []
want_behind (Fields l) = Dot l ∷ []
want_behind (Dot l) = Question l ∷ []
want_behind (Question l) = Empty l ∷ []
want_behind (Name side) = []
want_behind (Close side) = []
want_behind Comma = []
want_behind Semicolon = []

-- how many tokens bring it to its end
abbrev pub want_rank : Want → ℕ
want_rank (Operand side n l) = 1
want_rank (Chain side n l) = 0
want_rank (Steps side l) = 0
want_rank (Called l) = 0
want_rank (Step side l) = 1
want_rank (Args l) = 1
want_rank (MoreArgs l) = 1
want_rank (New l) = 3
want_rank (NewOpen l) = 2
want_rank (Bracket l) = 3
want_rank (Empty l) = 2
want_rank (Group l) = 2
want_rank (Second l) = 1
want_rank (Reach l) = 11
want_rank (Fields l) = 5
want_rank (Dot l) = 4
want_rank (Question l) = 3
want_rank (Name side) = 1
want_rank (Close side) = 1
want_rank Comma = 1
want_rank Semicolon = 1

-- whether that token is a quiet one
abbrev pub is_calm : Want → Bool
is_calm (NewOpen l) = false
is_calm (Bracket l) = false
is_calm (Empty l) = false
is_calm (Reach l) = false
is_calm (Dot l) = false
is_calm w = true
