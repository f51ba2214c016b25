-- What is read one level deeper, for each number of levels that are left.
use Rattle.std.proofs.Common.{◌≡◌, ℕ, ◌+◌, zero, suc, Bool, List, arith}
use Rattle.java_lex.specs.declared.token.Token.{Token}
use Rattle.reading_core.specs.Machine.{Test, Act}
use Rattle.reading_core.specs.Follow.{Allows}
use Rattle.reading_core.specs.Exact.{Counts}
use Rattle.expression_reading.specs.Reading.{operand_in, below}
use Rattle.expression_reading.specs.Wants.{Want, is_ready, reacts}
use Rattle.expression_reading.proofs.Sound.{IsSound, operand_sound, operand_short, chain_sound, step_sound}
use Rattle.expression_reading.proofs.Sim.{IsSim, operand_sim, chain_sim, step_sim}

module _ (may : ℕ → List Token → Bool) (test : Test) (cap : ℕ) (counts : Counts may test cap) (side : Bool) where
  -- it is of the grammar
  pub below_sound : (left l : ℕ) → l + left ≡ cap → Allows (IsSound test side (suc l)) test (suc l) (below side may left)
  unfolding below
  below_sound zero l is = λ ts. counts.shuts (suc l) ts (omega arith)
  below_sound (suc left) l is =
      let deeper = below_sound left (suc l) (omega arith) in (
        λ ts. counts.opens (suc l) left ts (omega arith),
        record {
          operand = operand_sound test side (suc l) (below side may left) deeper;
          chain = chain_sound test side (suc l) (below side may left) deeper;
          step = step_sound test side (suc l) (below side may left) deeper;
        },
      )

  module _ {W : Type 0} (react : W → Token → Act W) (ready : W → Bool) (inn : Want → W) (reacts_so : (w : Want) (t : Token) → react (inn w) t ≡ reacts inn w t) (ready_so : (w : Want) → ready (inn w) ≡ is_ready w) where
    -- it is what the machine does
    pub below_sim : (left l : ℕ) → l + left ≡ cap → Allows (IsSim react ready test inn reacts_so ready_so side (suc l)) test (suc l) (below side may left)
    unfolding below
    below_sim zero l is = λ ts. counts.shuts (suc l) ts (omega arith)
    below_sim (suc left) l is =
        let deeper = below_sim left (suc l) (omega arith) in
        let sound = below_sound left (suc l) (omega arith) in (
          λ ts. counts.opens (suc l) left ts (omega arith),
          record {
            operand = operand_sim react ready test inn reacts_so ready_so side (suc l) (below side may left) deeper;
            chain = chain_sim react ready test inn reacts_so ready_so side (suc l) (below side may left) deeper;
            step = step_sim react ready test inn reacts_so ready_so side (suc l) (below side may left) deeper;
            shorter = λ n ts. operand_short test side (suc l) n ts (operand_in side (below side may left) n ts) (operand_sound test side (suc l) (below side may left) sound n ts);
          },
        )
