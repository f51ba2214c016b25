-- From what `clap` made of the words to what they ask for.
use Rattle.std.proofs.Common.{◌≡◌, List, Bool, true, false, Option, None, ap, sym, ◌∙◌, subst}
use Rattle.std.specs.Prelude.{Result, Ok, Err, IsErrAnd, if◌then◌else◌}
use Rattle.clap.specs.Words.{App, Row, Text, fault_of, matches_of}
use Rattle.clap.specs.Walk.{is_empty}
use Rattle.taco_words.specs.declared.request.RequestFault.{RequestFault}
use Rattle.taco_words.specs.declared.request.RequestFault.TheVariants as fault
use Rattle.taco_words.specs.Parsing.{taken, Parses, Gives}

-- the same by the test of the faults
taken_by : {V : Type 0} (app : App) (meaning : List Row → Option V) (words : List Text) (b : Bool) → is_empty (fault_of app words) ≡ b
    → taken app meaning words ≡ (if b then meaning (matches_of app words) else None)
taken_by app meaning words b is = ap (λ t. if t then meaning (matches_of app words) else None) is

refused_by : {V : Type 0} (app : App) (meaning : List Row → Option V) (words : List Text) (e : RequestFault) → Parses app words (Err e) → Gives (taken app meaning words) (Err e)
refused_by app meaning words fault.Usage parses = taken_by app meaning words false parses
refused_by app meaning words fault.NoMemory parses = tt

-- words that are refused ask for nothing
pub refused : {V : Type 0} (a app : App) (meaning : List Row → Option V) (words : List Text) (e : RequestFault) (r : Result V RequestFault) → a ≡ app → IsErrAnd r (λ x. x ≡ e) → Parses a words (Err e)
    → Gives (taken app meaning words) r
refused a app meaning words e (Ok v) same is parses = absurd is
refused a app meaning words e (Err x) same is parses =
    subst (λ y. Gives (taken app meaning words) (Err y)) (sym is) (refused_by app meaning words e (subst (λ b. Parses b words (Err e)) same parses))

-- words that are taken ask for what their values say
pub accepted : {V : Type 0} (a app : App) (meaning : List Row → Option V) (words : List Text) (rows : List Row) (r : Result V RequestFault) → a ≡ app
    → (is_empty (fault_of a words) ≡ true) × (rows ≡ matches_of a words) → Gives (meaning rows) r → Gives (taken app meaning words) r
accepted a app meaning words rows r same parses gives =
    let none : is_empty (fault_of app words) ≡ true = subst (λ b. is_empty (fault_of b words) ≡ true) same parses.0 in
    let found : rows ≡ matches_of app words = subst (λ b. rows ≡ matches_of b words) same parses.1 in
    subst (λ m. Gives m r) (sym (taken_by app meaning words true none ∙ ap meaning (sym found))) gives
