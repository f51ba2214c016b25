-- What stands before the classes of a text, which no tree keeps.
use Rattle.std.specs.Prelude.{◌≡◌, false, List, Result, Ok, Err}
use Rattle.std.specs.Borrow.{Bor}
use Rattle.java_lex.specs.declared.token.Token.{Token}
use Rattle.reading_core.specs.declared.stop.Stop.{Stop}
use Rattle.reading_core.specs.Read.{Read, Got}
use Rattle.java_reading.specs.declared.marks.Fixed.TheVariants.{Package, Import, Static}
use Rattle.java_reading.specs.Gives.{Blames}
use Rattle.java_reading.specs.Readers.{Reader, give, optional, repeat}
use Rattle.java_reading.specs.Tokens.{fixed, name_in, next_is}
use Rattle.java_reading.specs.MemberReading.{package_in, import_in}
use Rattle.java_reader.specs.Items.{dot_name_in}

-- what is read, without its value
abbrev pub passed : {A : Type 0} → Read A → Read (Unit {0})
passed o = give (λ a. tt {0}) o

-- The tokens left are those behind what is read.
abbrev pub Passes : Result (Bor (List Token)) Stop → Read (Unit {0}) → Type 0
Passes (Ok rest) read = read ≡ Got tt rest.now
Passes (Err stop) read = Blames stop read

-- Name
abbrev pub name_passed : Reader (Unit {0})
name_passed ts = passed (name_in false ts)

-- "." Name
abbrev pub dot_name_passed : Reader (Unit {0})
dot_name_passed ts = passed (dot_name_in ts)

-- [ "static" ]
abbrev pub static_passed : Reader (Unit {0})
static_passed ts = passed (optional (next_is false Static) (fixed false Static) ts)

-- [ Package ]
abbrev pub own_package_passed : Reader (Unit {0})
own_package_passed ts = passed (optional (next_is false Package) package_in ts)

-- { Import }
abbrev pub imports_passed : Reader (Unit {0})
imports_passed ts = passed (repeat (next_is false Import) import_in ts)
