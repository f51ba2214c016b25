-- Endings of what is awaited in a part of a larger machine.
use Rattle.std.proofs.Common.{◌≡◌, ℕ, Bool, true, false, List, [], ◌∷◌, map, refl, ◌∙◌, arith}
use Rattle.java_lex.specs.declared.spelling.Terminal.{Terminal}
use Rattle.java_lex.specs.declared.token.Token.{Token}
use Rattle.java_lex.specs.Terminals.{terminal_of}
use Rattle.reading_core.specs.Read.{on, at_side}
use Rattle.reading_core.specs.Machine.{Act, Take, Open, Leave, Refuse, then_}
use Rattle.reading_core.specs.Endings.{Settled, all_calm, tail_calm, ranks, is_quiet, quiet_token}
use Rattle.reading_core.proofs.Runs.{when_true, when_false}
use Rattle.reading_core.proofs.Ends.{tail_append}

on_quiet : (side jml : Bool) (x : Terminal) → is_quiet x ≡ true → is_quiet (on side (jml, x)) ≡ true
on_quiet true true x is = is
on_quiet false false x is = is
on_quiet true false x is = refl
on_quiet false true x is = refl

-- a quiet token is quiet on either side
pub quiet_at : (side : Bool) (t : Token) → quiet_token t ≡ true → is_quiet (at_side side t) ≡ true
quiet_at side t is = on_quiet side t.jml (terminal_of t) is

-- inn: how what is awaited in the part lies in the machine
module _ {V W : Type 0} (inn : V → W) where
  pub ranks_inside : (small : V → ℕ) (rank : W → ℕ) → ((v : V) → rank (inn v) ≡ small v) → (vs : List V) → ranks rank (map inn vs) ≡ ranks small vs
  ranks_inside small rank same [] = refl
  ranks_inside small rank same (v ∷ vs) = let ih : ranks rank (map inn vs) ≡ ranks small vs = ranks_inside small rank same vs in let one : rank (inn v) ≡ small v = same v in omega (arith, ih, one)

  calm_inside : (small calm : Bool) (rest : Bool) (rest' : Bool) → calm ≡ small → rest' ≡ rest → elim calm as (λ _. Bool) [ true ↦ rest' | false ↦ false ] ≡ elim small as (λ _. Bool) [ true ↦ rest | false ↦ false ]
  calm_inside true calm rest rest' is same = when_true calm _ _ is ∙ same
  calm_inside false calm rest rest' is same = when_false calm _ _ is

  pub all_calm_inside : (small : V → Bool) (calm : W → Bool) → ((v : V) → calm (inn v) ≡ small v) → (vs : List V) → all_calm calm (map inn vs) ≡ all_calm small vs
  all_calm_inside small calm same [] = refl
  all_calm_inside small calm same (v ∷ vs) = calm_inside (small v) (calm (inn v)) (all_calm small vs) (all_calm calm (map inn vs)) (same v) (all_calm_inside small calm same vs)

  -- what is calm behind its first, within the part
  pub tail_calm_inside : (small : V → Bool) (calm : W → Bool) → ((v : V) → calm (inn v) ≡ small v) → (vs : List V) → tail_calm small vs ≡ true → tail_calm calm (map inn vs) ≡ true
  tail_calm_inside small calm same [] is = refl
  tail_calm_inside small calm same (v ∷ vs) is = all_calm_inside small calm same vs ∙ is

-- what goes on with calm things is settled
pub then_settled : {W : Type 0} (calm : W → Bool) (a : Act W) (more : List W) → Settled calm a → all_calm calm more ≡ true → Settled calm (then_ a more)
then_settled calm (Take ws) more is calms = tail_append calm ws more is calms
then_settled calm (Open k ws) more is calms = tail_append calm ws more is calms
then_settled calm Leave more is calms = tt {0}
then_settled calm Refuse more is calms = tt {0}
