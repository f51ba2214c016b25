-- What is awaited within an expression, alone and with anything behind it; and no part of it is the end of the text.
use Rattle.std.proofs.Common.{◌≡◌, ℕ, zero, suc, Bool, true, false, List, [], ◌∷◌, refl, sym}
use Rattle.java_lex.specs.declared.spelling.Terminal.{Terminal}
use Rattle.java_lex.specs.declared.spelling.Terminal.TheVariants as terminal
use Rattle.java_lex.specs.declared.token.Token.{Token}
use Rattle.java_lex.specs.declared.words.TheConstants.{HAS, INT_SIZE}
use Rattle.std.proofs.Common.{bytes_eq, subst}
use Rattle.java_tree.specs.Phrases.{text_of}
use Rattle.java_lex.specs.Terminals.{terminal_of}
use Rattle.reading_core.specs.Read.{on, at_side, is_name_terminal, is_open_terminal, is_close_terminal, is_comma_terminal, is_semicolon_terminal}
use Rattle.reading_core.specs.Machine.{Test, Act, Take, Open, Leave, Refuse, Fine, then_, takes_if, opens_if, run}
use Rattle.expression_reading.specs.Operators.{sign_of, link_at, top}
use Rattle.expression_reading.specs.Reading.{is_dot_terminal}
use Rattle.expression_reading.specs.Wants.{Want, Operand, Chain, Steps, Called, Step, Args, MoreArgs, New, NewOpen, Bracket, Empty, Group, Second, Reach, Fields, Dot, Question, Name, Close, Comma, Semicolon, is_ready, after_name, starts, goes_on, steps_on, calls, args_start, args_go_on, group_on, second_on, fields_on, reacts}
use Rattle.text_reading.proofs.Stops.{Untaken}

-- ANYTHING BEHIND IT

-- what is awaited within an expression, or any tokens at all
pub data Beyond : Type 0 where
  Within : Want → Beyond
  Any : Beyond

abbrev pub beyond : Beyond → Token → Act Beyond
beyond (Within w) t = reacts Within w t
beyond Any t = Take (Any ∷ [])

abbrev pub beyond_ready : Beyond → Bool
beyond_ready (Within w) = is_ready w
beyond_ready Any = true

-- any tokens are taken
pub any_fine : (may : Test) (ts : List Token) → run beyond beyond_ready may ts (Any ∷ []) ≡ Fine true
any_fine may [] = refl
any_fine may (t ∷ ts) = any_fine may ts

-- THE END OF THE TEXT

-- on each side the end is a token that stands in no expression
at_end : (P : Terminal → Type 0) → P terminal.End → P terminal.Reserved → (side : Bool) (t : Token) → terminal_of t ≡ terminal.End → P (at_side side t)
at_end P end other side t is = by side t.jml (terminal_of t) is
  where
    by : (side jml : Bool) (x : Terminal) → x ≡ terminal.End → P (on side (jml, x))
    by true true x is = subst P (sym is) end
    by false false x is = subst P (sym is) end
    by true false x is = other
    by false true x is = other

module _ {W : Type 0} (inn : Want → W) where
  then_untaken : (a : Act W) (more : List W) → Untaken a → Untaken (then_ a more)
  then_untaken (Take ws) more not = not
  then_untaken (Open k ws) more not = not
  then_untaken Leave more not = tt {0}
  then_untaken Refuse more not = tt {0}

  starts_end : (side : Bool) (n l : ℕ) → Untaken (starts inn side n l terminal.End)
  starts_end true zero l = tt {0}
  starts_end false zero l = tt {0}
  starts_end side (suc n) l = then_untaken (starts inn side n l terminal.End) (inn (Chain side n l) ∷ []) (starts_end side n l)

  starts_other : (side : Bool) (n l : ℕ) → Untaken (starts inn side n l terminal.Reserved)
  starts_other true zero l = tt {0}
  starts_other false zero l = tt {0}
  starts_other side (suc n) l = then_untaken (starts inn side n l terminal.Reserved) (inn (Chain side n l) ∷ []) (starts_other side n l)

  -- nothing that is awaited takes the end of the text
  pub untaken : (w : Want) (t : Token) → terminal_of t ≡ terminal.End → Untaken (reacts inn w t)
  untaken (Operand side n l) t end = at_end (λ x. Untaken (starts inn side n l x)) (starts_end side n l) (starts_other side n l) side t end
  untaken (Chain side n l) t end = at_end (λ x. Untaken (goes_on inn side n l (link_at n (sign_of x)))) (tt {0}) (tt {0}) side t end
  untaken (Steps side l) t end = at_end (λ x. Untaken (steps_on inn side l (is_dot_terminal x))) (tt {0}) (tt {0}) side t end
  untaken (Called l) t end = at_end (λ x. Untaken (calls inn l x)) (tt {0}) (tt {0}) false t end
  untaken (Step side l) t end = at_end (λ x. Untaken (takes_if (is_name_terminal x) (after_name inn side l ∷ []))) (tt {0}) (tt {0}) side t end
  untaken (Args l) t end =
      at_end (λ x. Untaken (args_start inn l x)) (then_untaken (starts inn false (top false) l terminal.End) (inn (MoreArgs l) ∷ []) (starts_end false (top false) l))
      (then_untaken (starts inn false (top false) l terminal.Reserved) (inn (MoreArgs l) ∷ []) (starts_other false (top false) l)) false t end
  untaken (MoreArgs l) t end = at_end (λ x. Untaken (args_go_on inn l x)) (tt {0}) (tt {0}) false t end
  untaken (New l) t end = at_end (λ x. Untaken (takes_if (is_name_terminal x) (inn (NewOpen l) ∷ []))) (tt {0}) (tt {0}) false t end
  untaken (NewOpen l) t end = at_end (λ x. Untaken (opens_if (is_open_terminal x) (suc l) (inn (Close false) ∷ []))) (tt {0}) (tt {0}) false t end
  untaken (Bracket l) t end = at_end (λ x. Untaken (opens_if (is_open_terminal x) (suc l) (inn (Operand true (top true) (suc l)) ∷ inn (Close true) ∷ []))) (tt {0}) (tt {0}) true t end
  untaken (Empty l) t end = at_end (λ x. Untaken (opens_if (is_open_terminal x) (suc l) (inn (Close true) ∷ []))) (tt {0}) (tt {0}) true t end
  untaken (Group l) t end =
      at_end (λ x. Untaken (group_on inn l x)) (then_untaken (starts inn true (top true) (suc l) terminal.End) (inn (Close true) ∷ inn (Steps true l) ∷ []) (starts_end true (top true) (suc l)))
      (then_untaken (starts inn true (top true) (suc l) terminal.Reserved) (inn (Close true) ∷ inn (Steps true l) ∷ []) (starts_other true (top true) (suc l))) true t end
  untaken (Second l) t end = at_end (λ x. Untaken (second_on inn l x)) (tt {0}) (tt {0}) true t end
  untaken (Reach l) t end =
      at_end (λ x. Untaken (opens_if (is_open_terminal x) (suc l) (inn (Operand true (top true) (suc l)) ∷ inn Comma ∷ inn (Name true) ∷ inn Comma ∷ inn (Name true) ∷ inn (Fields l) ∷ []))) (tt {0}) (tt {0}) true t end
  untaken (Fields l) t end = at_end (λ x. Untaken (fields_on inn l x)) (tt {0}) (tt {0}) true t end
  untaken (Dot l) t end = at_end (λ x. Untaken (takes_if (is_dot_terminal x) (inn (Question l) ∷ []))) (tt {0}) (tt {0}) true t end
  untaken (Question l) t end =
      at_end (λ x. Untaken (elim (elim (is_name_terminal x) as (λ _. Bool) [ true ↦ bytes_eq (text_of t.kind) HAS.now | false ↦ false ]) as (λ _. Act W) [
        | true ↦ Take (inn (Bracket l) ∷ [])
        | false ↦ elim (elim (is_name_terminal x) as (λ _. Bool) [ true ↦ bytes_eq (text_of t.kind) INT_SIZE.now | false ↦ false ]) as (λ _. Act W) [ true ↦ Take (inn (Empty l) ∷ []) | false ↦ Refuse ]
      ])) (tt {0}) (tt {0}) true t end
  untaken (Name side) t end = at_end (λ x. Untaken {W = W} (takes_if (is_name_terminal x) [])) (tt {0}) (tt {0}) side t end
  untaken (Close side) t end = at_end (λ x. Untaken {W = W} (takes_if (is_close_terminal x) [])) (tt {0}) (tt {0}) side t end
  untaken Comma t end = at_end (λ x. Untaken {W = W} (takes_if (is_comma_terminal x) [])) (tt {0}) (tt {0}) true t end
  untaken Semicolon t end = at_end (λ x. Untaken {W = W} (takes_if (is_semicolon_terminal x) [])) (tt {0}) (tt {0}) true t end
