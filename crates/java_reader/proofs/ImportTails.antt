-- The loop over what stands behind the first name of an import.
use Rattle.std.proofs.Common.{◌≡◌, ℕ, zero, suc, ◌<◌, Bool, true, false, List, length, refl, sym, ap, ◌∙◌, subst, arith, Bor}
use Rattle.std.specs.Prelude.{Result, Err, Option}
use Rattle.java_lex.specs.declared.token.Token.{Token}
use Rattle.reading_core.specs.declared.stop.Stop.{Stop}
use Rattle.reading_core.specs.declared.stop.Stop.TheVariants.{Memory, Wrong, Deep as DeepStop}
use Rattle.reading_core.specs.Read.{Read, Got, Bad, Deep, ◌>>=◌ as ◌⟫◌}
use Rattle.java_reading.specs.declared.marks.Fixed.TheVariants.{Dot, Times, Semicolon, Import, Static}
use Rattle.java_reading.specs.Gives.{Blames}
use Rattle.java_reading.specs.Readers.{Reader, head, optional}
use Rattle.java_reading.specs.Tokens.{fixed, name_in, next_is}
use Rattle.java_reading.specs.MemberReading.{import_in, import_tail_by}
use Rattle.java_tree.specs.declared.names.Ident.{Ident}
use Rattle.java_reader.specs.Headers.{passed, Passes, name_passed, static_passed}
use Rattle.java_reader.proofs.Passing.{first_stops, then_passed}

-- What is left leads to the same as the whole.
pub record Leads (ts rest : List Token) : Type 0 where
  pub names : ℕ
  pub few : length rest < names
  pub is : import_tail_by (suc (length ts)) ts ≡ import_tail_by names rest

pub leads_start : (ts : List Token) → Leads ts ts
leads_start ts = record { names = suc (length ts); few = omega arith; is = refl }

-- what stands behind a `.`
abbrev behind_dot : ℕ → List Token → Bool → Read (Unit {0})
behind_dot n mid b = elim b [ true ↦ fixed false Times mid ⟫ (λ v. fixed false Semicolon) | false ↦ name_in false mid ⟫ (λ i. import_tail_by n) ]

turned : (n : ℕ) (rest : List Token) → next_is false Dot (head rest) ≡ true → import_tail_by (suc n) rest ≡ fixed false Dot rest ⟫ (λ u mid. behind_dot n mid (next_is false Times (head mid)))
turned n rest is = rw (is, import_tail_by) refl

ended : (n : ℕ) (rest : List Token) → next_is false Dot (head rest) ≡ false → import_tail_by (suc n) rest ≡ fixed false Semicolon rest
ended n rest is = rw (is, import_tail_by) refl

dotted : (n : ℕ) (rest mid : List Token) → next_is false Dot (head rest) ≡ true → fixed false Dot rest ≡ Got tt mid → import_tail_by (suc n) rest ≡ behind_dot n mid (next_is false Times (head mid))
dotted n rest mid dot got = turned n rest dot ∙ ap (λ o. o ⟫ (λ u mid. behind_dot n mid (next_is false Times (head mid)))) got

named : (n : ℕ) (rest mid : List Token) → next_is false Dot (head rest) ≡ true → fixed false Dot rest ≡ Got tt mid → next_is false Times (head mid) ≡ false → import_tail_by (suc n) rest ≡ name_in false mid ⟫ (λ i. import_tail_by n)
named n rest mid dot got other = dotted n rest mid dot got ∙ ap (behind_dot n mid) other

all : (n : ℕ) (rest mid : List Token) → next_is false Dot (head rest) ≡ true → fixed false Dot rest ≡ Got tt mid → next_is false Times (head mid) ≡ true → import_tail_by (suc n) rest ≡ fixed false Times mid ⟫ (λ v. fixed false Semicolon)
all n rest mid dot got times = dotted n rest mid dot got ∙ ap (behind_dot n mid) times

-- the first part is to blame
blames_first : {A : Type 0} (whole : Read (Unit {0})) (o : Read A) (next : A → List Token → Read (Unit {0})) (stop : Stop) → whole ≡ o ⟫ next → Blames stop o → Blames stop whole
blames_first whole o next Memory is blames = tt {0}
blames_first whole o next (Wrong at) is blames = is ∙ ap (λ o. o ⟫ next) blames
blames_first whole o next (DeepStop at) is blames = is ∙ ap (λ o. o ⟫ next) blames

blames_name : (o : Read Ident) (stop : Stop) → Blames stop (passed o) → Blames stop o
blames_name o Memory blames = tt {0}
blames_name (Got i rest) (Wrong at) blames = cc
blames_name (Bad rest) (Wrong at) blames = cc
blames_name (Deep rest) (Wrong at) blames = cc
blames_name (Got i rest) (DeepStop at) blames = cc
blames_name (Bad rest) (DeepStop at) blames = cc
blames_name (Deep rest) (DeepStop at) blames = cc

name_then : (n : ℕ) (o : Read Ident) (behind : List Token) → passed o ≡ Got tt behind → o ⟫ (λ i. import_tail_by n) ≡ import_tail_by n behind
name_then n (Got i rest) behind got = let same : rest ≡ behind = cc in ap (import_tail_by n) same
name_then n (Bad rest) behind got = cc
name_then n (Deep rest) behind got = cc

module _ (ts rest : List Token) where
  abbrev Whole : Read (Unit {0})
  Whole = import_tail_by (suc (length ts)) ts

  more_by : (n : ℕ) → length rest < n → Whole ≡ import_tail_by n rest → (mid behind : List Token) → next_is false Dot (head rest) ≡ true → fixed false Dot rest ≡ Got tt mid → next_is false Times (head mid) ≡ false
      → passed (name_in false mid) ≡ Got tt behind → length behind < length rest → Leads ts behind
  more_by zero few is mid behind dot got other name less = absurd (omega arith)
  more_by (suc n) few is mid behind dot got other name less = record { names = n; few = omega arith; is = is ∙ named n rest mid dot got other ∙ name_then n (name_in false mid) behind name }

  pub leads_more : Leads ts rest → (mid behind : List Token) → next_is false Dot (head rest) ≡ true → fixed false Dot rest ≡ Got tt mid → next_is false Times (head mid) ≡ false
      → passed (name_in false mid) ≡ Got tt behind → length behind < length rest → Leads ts behind
  leads_more leads mid behind dot got other name less = more_by leads.names leads.few leads.is mid behind dot got other name less

  end_by : (n : ℕ) → length rest < n → Whole ≡ import_tail_by n rest → next_is false Dot (head rest) ≡ false → Whole ≡ fixed false Semicolon rest
  end_by zero few is other = absurd (omega arith)
  end_by (suc n) few is other = is ∙ ended n rest other

  pub leads_end : Leads ts rest → next_is false Dot (head rest) ≡ false → Whole ≡ fixed false Semicolon rest
  leads_end leads other = end_by leads.names leads.few leads.is other

  all_by : (n : ℕ) → length rest < n → Whole ≡ import_tail_by n rest → (mid : List Token) → next_is false Dot (head rest) ≡ true → fixed false Dot rest ≡ Got tt mid → next_is false Times (head mid) ≡ true → Whole ≡ fixed false Times mid ⟫ (λ v. fixed false Semicolon)
  all_by zero few is mid dot got times = absurd (omega arith)
  all_by (suc n) few is mid dot got times = is ∙ all n rest mid dot got times

  pub leads_all : Leads ts rest → (mid behind : List Token) → next_is false Dot (head rest) ≡ true → fixed false Dot rest ≡ Got tt mid → next_is false Times (head mid) ≡ true → fixed false Times mid ≡ Got tt behind → Whole ≡ fixed false Semicolon behind
  leads_all leads mid behind dot got times passed_times = all_by leads.names leads.few leads.is mid dot got times ∙ ap (λ o. o ⟫ (λ (v : Unit {0}). fixed false Semicolon)) passed_times

  name_by : (n : ℕ) → length rest < n → Whole ≡ import_tail_by n rest → (mid : List Token) → next_is false Dot (head rest) ≡ true → fixed false Dot rest ≡ Got tt mid → next_is false Times (head mid) ≡ false → (stop : Stop) → Blames stop (name_in false mid) → Blames stop Whole
  name_by zero few is mid dot got other stop blames = absurd (omega arith)
  name_by (suc n) few is mid dot got other stop blames = blames_first Whole (name_in false mid) (λ i. import_tail_by n) stop (is ∙ named n rest mid dot got other) blames

  pub leads_name_stops : Leads ts rest → (mid : List Token) → next_is false Dot (head rest) ≡ true → fixed false Dot rest ≡ Got tt mid → next_is false Times (head mid) ≡ false → (r : Result (Bor (List Token)) Stop) (stop : Stop) → r ≡ Err stop
      → Passes (Err stop) (passed (name_in false mid)) → Passes r Whole
  leads_name_stops leads mid dot got other r stop is blames =
      subst (λ (r : Result (Bor (List Token)) Stop). Passes r Whole) (sym is) (name_by leads.names leads.few leads.is mid dot got other stop (blames_name (name_in false mid) stop blames))

-- THE WHOLE IMPORT

abbrev tail_behind : Ident → Reader (Unit {0})
tail_behind i rest = import_tail_by (suc (length rest)) rest

abbrev name_behind : Option (Unit {0}) → Reader (Unit {0})
name_behind o rest = name_in false rest ⟫ tail_behind

pub behind_import : (ts rest : List Token) → fixed false Import ts ≡ Got tt rest → import_in ts ≡ optional (next_is false Static) (fixed false Static) rest ⟫ name_behind
behind_import ts rest is = ap (λ (o : Read (Unit {0})). o ⟫ (λ u rest. optional (next_is false Static) (fixed false Static) rest ⟫ name_behind)) is

pub behind_static : (ts mid rest : List Token) → fixed false Import ts ≡ Got tt mid → static_passed mid ≡ Got tt rest → import_in ts ≡ name_in false rest ⟫ tail_behind
behind_static ts mid rest is static = behind_import ts mid is ∙ then_passed (optional (next_is false Static) (fixed false Static) mid) (λ rest. name_in false rest ⟫ tail_behind) rest static

pub behind_name : (ts mid mid' rest : List Token) → fixed false Import ts ≡ Got tt mid → static_passed mid ≡ Got tt mid' → name_passed mid' ≡ Got tt rest → import_in ts ≡ import_tail_by (suc (length rest)) rest
behind_name ts mid mid' rest is static name = behind_static ts mid mid' is static ∙ then_passed (name_in false mid') (λ rest. import_tail_by (suc (length rest)) rest) rest name

pub static_stops : (rest : List Token) (r : Result (Bor (List Token)) Stop) (stop : Stop) → r ≡ Err stop → Passes (Err stop) (static_passed rest) → Passes r (optional (next_is false Static) (fixed false Static) rest ⟫ name_behind)
static_stops rest r stop is blames = first_stops (optional (next_is false Static) (fixed false Static) rest) name_behind r stop is blames

pub name_stops : (rest : List Token) (r : Result (Bor (List Token)) Stop) (stop : Stop) → r ≡ Err stop → Passes (Err stop) (name_passed rest) → Passes r (name_in false rest ⟫ tail_behind)
name_stops rest r stop is blames = first_stops (name_in false rest) tail_behind r stop is blames
