-- What the code that reads a part answers: what reading gives, or want of memory.
use Rattle.std.specs.Prelude.{◌≡◌, List, Result, Ok, Err}
use Rattle.std.specs.Borrow.{Bor}
use Rattle.java_lex.specs.declared.token.Token.{Token}
use Rattle.reading_core.specs.declared.stop.Stop.{Stop}
use Rattle.reading_core.specs.declared.stop.Stop.TheVariants as stop
use Rattle.reading_core.specs.Read.{Read, Got, Bad, Deep}

-- seen: what the code's value is
abbrev pub Gives : {T A : Type 0} → (T → A) → Result (T × Bor (List Token)) Stop → Read A → Type 0
Gives seen (Ok x) read = read ≡ Got (seen x.0) x.1.now
Gives seen (Err stop.Memory) read = Unit {0}
Gives seen (Err (stop.Wrong rest)) read = read ≡ Bad rest.now
Gives seen (Err (stop.Deep rest)) read = read ≡ Deep rest.now
