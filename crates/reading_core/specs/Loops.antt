-- Parts that come any number of times.
use Rattle.std.specs.Prelude.{ℕ, zero, suc, Bool, true, false, List, [], ◌∷◌, length}
use Rattle.java_lex.specs.declared.token.Token.{Token}
use Rattle.reading_core.specs.Read.{Read, Got, ◌>>=◌}

module _ {A : Type 0} (begins : List Token → Bool) (item : List Token → Read A) where
  abbrev pub repeat_by : ℕ → List Token → Read (List A)
  repeat_by zero ts = Got [] ts
  repeat_by (suc n) ts = elim (begins ts) [ true ↦ item ts >>= (λ a rest. repeat_by n rest >>= (λ as_ rest'. Got (a ∷ as_) rest')) | false ↦ Got [] ts ]

  -- the part as long as one begins, where each has a token at least (`repeat_step` of proofs/ReadLaws)
  unfoldable pub repeat : List Token → Read (List A)
  repeat ts = repeat_by (suc (length ts)) ts
