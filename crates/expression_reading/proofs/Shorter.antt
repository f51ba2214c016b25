-- What is read leaves fewer tokens behind it.
use Rattle.std.proofs.Common.{◌≡◌, ℕ, ◌<◌, ◌≤◌, Bool, true, false, zero, suc, nat_le, List, ◌∷◌, length, sym, subst, ap, arith}
use Rattle.std.specs.Prelude.{IfOk, Result, Ok, Err}
use Rattle.std.specs.Borrow.{Bor}
use Rattle.std.proofs.lemmas.Bool.{le-leb, lt-leb}
use Rattle.java_lex.specs.declared.token.Token.{Token}
use Rattle.java_tree.specs.Trees.{Exprs, none, also}
use Rattle.reading_core.specs.declared.stop.Stop.{Stop}
use Rattle.reading_core.specs.Gives.{Gives}
use Rattle.reading_core.specs.Read.{Read, Got, OnGot, expect, is_close, is_comma, is_open, ◌>>=◌}
use Rattle.reading_core.specs.Deeper.{always, bracket}
use Rattle.reading_core.specs.Loops.{repeat}
use Rattle.reading_core.specs.Machine.{Test}
use Rattle.reading_core.specs.Exact.{Counts}
use Rattle.reading_core.proofs.ReadLaws.{IsFirst, Short, on_bind, on_expect, on_repeat, on_weaken}
use Rattle.expression_reading.specs.Levels.{readers_of, within_left}
use Rattle.expression_reading.specs.Operators.{top}
use Rattle.expression_reading.specs.Reading.{argument_in, arguments_in, below, exprs, first_is, operand_in}
use Rattle.expression_reading.proofs.Sound.{operand_short, operand_sound}
use Rattle.expression_reading.proofs.Below.{below_sound}

-- levels up to so many
abbrev pub up_to : ℕ → Test
up_to cap k us = nat_le k cap

pub always_up_to : (cap : ℕ) → Counts always (up_to cap) cap
always_up_to cap = record { opens = λ k left ts is. sym (le-leb k cap (omega arith)); shuts = λ k ts over. lt-leb k cap over }

-- fewer tokens are left, or no more
abbrev pub Fewer : {A : Type 0} → List Token → A → List Token → Type 0
Fewer ts a rest = length rest < length ts

abbrev NoMore : {A : Type 0} → List Token → A → List Token → Type 0
NoMore ts a rest = length rest ≤ length ts

pub operand_fewer : (side : Bool) (left n : ℕ) (ts : List Token) → OnGot (Fewer ts) (operand_in side (within_left side left) n ts)
operand_fewer side left n ts =
    operand_short (up_to left) side 0 n ts (operand_in side (within_left side left) n ts)
    (operand_sound (up_to left) side 0 (within_left side left) (below_sound always (up_to left) left (always_up_to left) side left 0 (omega arith)) n ts)

-- an argument behind its comma
pub argument_fewer : (left : ℕ) → Short (first_is (is_comma false)) (argument_in (readers_of false left))
argument_fewer left ts =
    on_bind (IsFirst (is_comma false) ts) _ (expect (is_comma false) ts) _ (on_expect (is_comma false) ts) (λ t rest is.
    on_weaken _ _ (operand_in false (within_left false left) (top false) rest) (operand_fewer false left (top false) rest) (λ e rest' less.
    let longer : ts ≡ t ∷ rest = is.1 in
    let fewer : length rest' < length rest = less in
    omega (arith, ap length longer)))

more_fewer : (left : ℕ) (ts : List Token) → OnGot (NoMore ts) (repeat (first_is (is_comma false)) (argument_in (readers_of false left)) ts)
more_fewer left ts =
    on_repeat (first_is (is_comma false)) (argument_in (readers_of false left)) Fewer NoMore (λ us not. omega arith)
    (λ us mid rest e es is one others. let a : length mid < length us = one in let b : length rest ≤ length mid = others in omega arith) (argument_fewer left) (argument_fewer left) ts

inside_fewer_by : (left : ℕ) (ts : List Token) (closes : Bool)
    → OnGot (NoMore ts) (elim closes as (λ _. Read Exprs) [
      | true ↦ Got none ts
      | false ↦ operand_in false (within_left false left) (top false) ts >>= (λ e rest. repeat (first_is (is_comma false)) (argument_in (readers_of false left)) rest >>= (λ es rest'. Got (also e (exprs es)) rest'))
    ])
inside_fewer_by left ts true = omega arith
inside_fewer_by left ts false =
    on_bind (Fewer ts) _ (operand_in false (within_left false left) (top false) ts) _ (operand_fewer false left (top false) ts) (λ e rest one.
    on_bind (NoMore rest) _ (repeat (first_is (is_comma false)) (argument_in (readers_of false left)) rest) _ (more_fewer left rest) (λ es rest' others.
    let a : length rest < length ts = one in
    let b : length rest' ≤ length rest = others in
    omega arith))

inside_fewer : (left : ℕ) (ts : List Token) → OnGot (NoMore ts) (arguments_in (readers_of false left) ts)
inside_fewer left ts = inside_fewer_by left ts (first_is (is_close false) ts)

-- arguments in their brackets
pub arguments_fewer : (left : ℕ) (ts : List Token) → OnGot (Fewer ts) (bracket false (within_left false left) ts arguments_in)
unfolding below
arguments_fewer zero ts = on_bind (IsFirst (is_open false) ts) _ (expect (is_open false) ts) _ (on_expect (is_open false) ts) (λ t rest is. tt {0})
arguments_fewer (suc left) ts =
    on_bind (IsFirst (is_open false) ts) _ (expect (is_open false) ts) _ (on_expect (is_open false) ts) (λ t rest is.
    on_bind (NoMore rest) _ (arguments_in (readers_of false left) rest) _ (inside_fewer left rest) (λ es mid low.
    on_bind (IsFirst (is_close false) mid) _ (expect (is_close false) mid) _ (on_expect (is_close false) mid) (λ u rest' closes.
    let a : ts ≡ t ∷ rest = is.1 in
    let b : length mid ≤ length rest = low in
    let c : mid ≡ u ∷ rest' = closes.1 in
    omega (arith, ap length a, ap length c))))

-- so says what the code gives
pub gives_fewer : {T A : Type 0} (seen : T → A) (result : Result (T × Bor (List Token)) Stop) (ts : List Token) (r : Read A) → Gives seen result r → OnGot (Fewer ts) r → IfOk result (λ x. length x.1.now < length ts)
gives_fewer seen (Ok x) ts r gives on = subst (OnGot (Fewer ts)) gives on
gives_fewer seen (Err why) ts r gives on = tt {0}

pub got_fewer : {A : Type 0} (ts : List Token) (r : Read A) (a : A) (rest : List Token) → r ≡ Got a rest → OnGot (Fewer ts) r → length rest < length ts
got_fewer ts r a rest is on = subst (OnGot (Fewer ts)) is on
