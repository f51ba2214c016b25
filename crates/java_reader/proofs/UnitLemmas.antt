-- A unit, by what stands before its classes.
use Rattle.std.proofs.Common.{◌≡◌, ℕ, false, List, Option, ◌∙◌, sym, subst, Bor}
use Rattle.std.specs.Prelude.{Result, Err}
use Rattle.java_lex.specs.declared.token.Token.{Token}
use Rattle.java_tree.specs.Trees.{Classes}
use Rattle.reading_core.specs.declared.stop.Stop.{Stop}
use Rattle.reading_core.specs.declared.stop.Stop.TheVariants.{Memory, Wrong, Deep as DeepStop}
use Rattle.reading_core.specs.Read.{Read, Got, ◌>>=◌ as ◌⟫◌}
use Rattle.reading_core.specs.Gives.{Gives}
use Rattle.java_reading.specs.declared.marks.Fixed.TheVariants.{Package, Import}
use Rattle.java_reading.specs.Gives.{Blames}
use Rattle.java_reading.specs.Readers.{Reader, optional, repeat}
use Rattle.java_reading.specs.Tokens.{next_is}
use Rattle.java_reading.specs.MemberReading.{package_in, import_in, classes_in, unit_in}
use Rattle.text_reading.specs.Readers.{expression_at, arguments_at, predicate_at}
use Rattle.java_reader.specs.Headers.{Passes, own_package_passed, imports_passed}
use Rattle.java_reader.proofs.Passing.{first_blames, then_passed}

module _ (left : ℕ) where
  abbrev behind_imports : List (Unit {0}) → Reader Classes
  behind_imports us rest = classes_in expression_at arguments_at predicate_at left rest

  abbrev behind_package : Option (Unit {0}) → Reader Classes
  behind_package o rest = repeat (next_is false Import) import_in rest ⟫ behind_imports

  pub behind_package_is : (ts rest : List Token) → own_package_passed ts ≡ Got tt rest → unit_in expression_at arguments_at predicate_at left ts ≡ repeat (next_is false Import) import_in rest ⟫ behind_imports
  behind_package_is ts rest is = then_passed (optional (next_is false Package) package_in ts) (λ rest. repeat (next_is false Import) import_in rest ⟫ behind_imports) rest is

  pub behind_imports_is : (ts mid rest : List Token) → own_package_passed ts ≡ Got tt mid → imports_passed mid ≡ Got tt rest → unit_in expression_at arguments_at predicate_at left ts ≡ classes_in expression_at arguments_at predicate_at left rest
  behind_imports_is ts mid rest is imports = behind_package_is ts mid is ∙ then_passed (repeat (next_is false Import) import_in mid) (classes_in expression_at arguments_at predicate_at left) rest imports

  module _ {V : Type 0} (seen : V → Classes) where
    stopped : (o : Read Classes) (r : Result (V × Bor (List Token)) Stop) (stop : Stop) → r ≡ Err stop → Blames stop o → Gives seen r o
    stopped o r stop is blames = subst (λ (r : Result (V × Bor (List Token)) Stop). Gives seen r o) (sym is) (by stop blames)
      where
        by : (stop : Stop) → Blames stop o → Gives seen (Err stop) o
        by Memory blames = tt {0}
        by (Wrong at) blames = blames
        by (DeepStop at) blames = blames

    pub package_stops : (ts : List Token) (r : Result (V × Bor (List Token)) Stop) (stop : Stop) → r ≡ Err stop → Passes (Err stop) (own_package_passed ts) → Gives seen r (unit_in expression_at arguments_at predicate_at left ts)
    package_stops ts r stop is blames = stopped (unit_in expression_at arguments_at predicate_at left ts) r stop is (first_blames (optional (next_is false Package) package_in ts) behind_package stop blames)

    pub imports_stop : (ts rest : List Token) → own_package_passed ts ≡ Got tt rest → (r : Result (V × Bor (List Token)) Stop) (stop : Stop) → r ≡ Err stop → Passes (Err stop) (imports_passed rest)
        → Gives seen r (unit_in expression_at arguments_at predicate_at left ts)
    imports_stop ts rest own r stop is blames =
        subst (λ (o : Read Classes). Gives seen r o) (sym (behind_package_is ts rest own)) (stopped (repeat (next_is false Import) import_in rest ⟫ behind_imports) r stop is (first_blames (repeat (next_is false Import) import_in rest) behind_imports stop blames))
