-- The machine of the expression of a clause by itself.
use Rattle.std.proofs.Common.{◌≡◌, ℕ, ◌-◌, Bool, true, List, [], ◌∷◌, map, refl, ◌∙◌, ap, arith}
use Rattle.java_lex.specs.declared.token.Token.{Token}
use Rattle.java_tree.specs.Trees.{Expr}
use Rattle.java_tree.specs.Expressions.{predicate}
use Rattle.java_tree.proofs.Fronts.{some_predicate_grows}
use Rattle.reading_core.specs.Read.{Got, OnGot}
use Rattle.reading_core.specs.Machine.{Test, Act, run}
use Rattle.reading_core.specs.Follow.{follow}
use Rattle.reading_core.specs.Endings.{Endings, quiet_token}
use Rattle.reading_core.specs.Exact.{Decided, Counts}
use Rattle.reading_core.proofs.ReadLaws.{on_weaken}
use Rattle.reading_core.proofs.Keeps.{predicate_keeps}
use Rattle.reading_core.proofs.Instance.{Owes}
use Rattle.expression_reading.specs.Reading.{below, operand_in, expression_in}
use Rattle.expression_reading.specs.Wants.{Want, Operand, is_ready, reacts}
use Rattle.expression_reading.specs.Ends.{want_token, want_behind, want_rank, is_calm}
use Rattle.expression_reading.proofs.Endings.{want_falls, want_quiets, want_leaves, want_takes, want_settles}
use Rattle.expression_reading.proofs.Sound.{operand_sound, Some_}
use Rattle.expression_reading.proofs.Sim.{operand_sim}
use Rattle.expression_reading.proofs.Below.{below_sound, below_sim}
use Rattle.expression_reading.proofs.Complete.{complete}

-- what is awaited, by itself
abbrev pub alone : Want → Want
alone w = w

abbrev pub react : Want → Token → Act Want
react w t = reacts alone w t

-- a whole expression of a clause
abbrev pub start : Want
start = Operand true 8 0

map_same : (ws : List Want) → map alone ws ≡ ws
map_same [] = refl
map_same (w ∷ ws) = ap (λ us. w ∷ us) (map_same ws)

pub endings : Endings react is_ready
endings = record {
  quiet = quiet_token;
  calm = is_calm;
  token = want_token;
  behind = λ w. map alone (want_behind w);
  rank = want_rank;
  takes = want_takes alone;
  falls = want_falls alone want_rank (λ w. refl);
  leaves = want_leaves alone;
  quiets = want_quiets alone;
  settles = want_settles alone is_calm (λ w. refl);
}

pub owes : Owes react is_ready start predicate (expression_in true)
owes = record { sim = sim_; sound = sound_; complete = complete_; grows = some_predicate_grows; keeps = λ bound May May' wider e. predicate_keeps wider e 0 }
  where
    sim_ : (may : ℕ → List Token → Bool) (test : Test) (cap : ℕ) → Counts may test cap → (ts : List Token)
        → follow (expression_in true may cap ts) (λ _ rest. run react is_ready test rest []) ≡ run react is_ready test ts (start ∷ [])
    sim_ may test cap counts ts =
        operand_sim react is_ready test alone (λ w t. refl) (λ w. refl) true 0 (below true may cap) (below_sim may test cap counts true react is_ready alone (λ w t. refl) (λ w. refl) cap 0 (omega arith)) 8 ts []

    sound_ : (may : ℕ → List Token → Bool) (test : Test) (cap : ℕ) → Counts may test cap → (ts : List Token) → OnGot (λ e rest. (k : ℕ) × predicate (Decided test) e 0 ts k rest) (expression_in true may cap ts)
    sound_ may test cap counts ts =
        on_weaken (Some_ test true 9 0 ts) _ (expression_in true may cap ts) (operand_sound test true 0 (below true may cap) (below_sound may test cap counts true cap 0 (omega arith)) 8 ts) (λ e rest x. (0, (x.0, x.1, refl)))

    complete_ : (may : ℕ → List Token → Bool) (test : Test) (cap : ℕ) → Counts may test cap → (ts : List Token) (e : Expr) (k : ℕ) → predicate (Decided test) e 0 ts k [] → expression_in true may cap ts ≡ Got e []
    complete_ may test cap counts ts e k (j, x, level) = let all : cap ≡ cap - 0 = omega arith in ap (λ left. operand_in true (below true may left) 8 ts) all ∙ (complete may test cap counts e).got true 8 0 ts j [] x (tt {0})
