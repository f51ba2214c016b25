-- When a machine tells what begins a phrase of the grammar.
use Rattle.std.specs.Prelude.{◌≡◌, ℕ, ◌+◌, ◌<◌, Bool, true, false, List, [], ◌∷◌, nat_le}
use Rattle.java_lex.specs.declared.token.Token.{Token}
use Rattle.java_tree.specs.Phrases.{Limit}
use Rattle.java_tree.specs.Reading.{Limited, Parses}
use Rattle.reading_core.specs.Machine.{Test, Act, Fine, run}

-- the levels that a test lets be opened
abbrev pub Decided : Test → Limit
Decided may k us = may k us ≡ true

-- levels up to 64
abbrev pub up_to_64 : Test
up_to_64 k us = nat_le k 64

-- The machine that awaits this takes such phrases to their end, and no other tokens, whichever levels may be opened.
pub record Reads {W : Type 0} (react : W → Token → Act W) (ready : W → Bool) (start : W) (p : Limited) : Type 0 where
  pub sound : (may : Test) (ts : List Token) → run react ready may ts (start ∷ []) ≡ Fine true → Parses (p (Decided may)) ts
  pub complete : (may : Test) (ts : List Token) → Parses (p (Decided may)) ts → run react ready may ts (start ∷ []) ≡ Fine true

-- A test of levels that are left, and one of levels that are open: together they come to cap, and beyond it none
-- may be opened.
pub record Counts (may : ℕ → List Token → Bool) (test : Test) (cap : ℕ) : Type 0 where
  pub opens : (k left : ℕ) (ts : List Token) → k + left ≡ cap → may left ts ≡ test k ts
  pub shuts : (k : ℕ) (ts : List Token) → cap < k → test k ts ≡ false
