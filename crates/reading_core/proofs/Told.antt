-- What reading within 64 levels tells.
use Rattle.std.proofs.Common.{◌≡◌, ℕ, Bool, List, [], ◌∷◌, sym, ◌∙◌, ap, arith}
use Rattle.std.proofs.lemmas.Bool.{le-leb, lt-leb}
use Rattle.java_lex.specs.declared.token.Token.{Token}
use Rattle.java_tree.specs.Phrases.{Phrase, Limit}
use Rattle.java_tree.specs.Reading.{FirstWrong, FirstDeep}
use Rattle.reading_core.specs.Read.{Read, Got, Bad, Deep}
use Rattle.reading_core.specs.Deeper.{always}
use Rattle.reading_core.specs.Machine.{Act, run}
use Rattle.reading_core.specs.Follow.{follow}
use Rattle.reading_core.specs.Endings.{Endings}
use Rattle.reading_core.specs.Exact.{Counts, up_to_64}
use Rattle.reading_core.proofs.Faults.{first_wrong, first_deep}
use Rattle.reading_core.proofs.Instance.{some, Owes, reads}

pub always_counts : Counts always up_to_64 64
always_counts = record { opens = λ k left ts is. sym (le-leb k 64 (omega arith)); shuts = λ k ts over. lt-leb k 64 over }

module _ {W A : Type 0} (react : W → Token → Act W) (ready : W → Bool) (start : W) (q : Limit → A → Phrase) (reading : (ℕ → List Token → Bool) → ℕ → List Token → Read A)
    (E : Endings react ready) (owes : Owes react ready start q reading) where
  told : (ts : List Token) (r : Read A) → reading always 64 ts ≡ r → follow r (λ _ rest. run react ready up_to_64 rest []) ≡ run react ready up_to_64 ts (start ∷ [])
  told ts r is = ap (λ r. follow r (λ _ rest. run react ready up_to_64 rest [])) (sym is) ∙ owes.sim always up_to_64 64 always_counts ts

  pub bad_told : (ts rest : List Token) (t : Token) → reading always 64 ts ≡ Bad (t ∷ rest) → FirstWrong (some react ready start q reading) ts (t ∷ rest)
  bad_told ts rest t is = first_wrong react ready start (some react ready start q reading) E owes.grows (reads react ready start q reading owes) ts (t ∷ rest) (sym (told ts (Bad (t ∷ rest)) is))

  -- the token behind what was read
  pub got_told : (ts rest : List Token) (t : Token) (a : A) → reading always 64 ts ≡ Got a (t ∷ rest) → FirstWrong (some react ready start q reading) ts (t ∷ rest)
  got_told ts rest t a is = first_wrong react ready start (some react ready start q reading) E owes.grows (reads react ready start q reading owes) ts (t ∷ rest) (sym (told ts (Got a (t ∷ rest)) is))

  pub deep_told : (ts rest : List Token) → reading always 64 ts ≡ Deep rest → FirstDeep (some react ready start q reading) ts rest
  deep_told ts rest is = first_deep react ready start (some react ready start q reading) E owes.grows (reads react ready start q reading owes) ts rest (sym (told ts (Deep rest) is))
