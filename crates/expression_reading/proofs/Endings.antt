-- What is awaited within an expression can be brought to its end.
use Rattle.std.proofs.Common.{◌≡◌, ℕ, ◌<◌, zero, suc, Bool, true, false, List, [], ◌∷◌, map, refl, sym, ◌∙◌, ap, subst, arith, lit<}
use Rattle.std.proofs.lemmas.List.{map-append}
use Rattle.java_lex.specs.declared.spelling.Terminal.{Terminal}
use Rattle.java_lex.specs.declared.spelling.Terminal.TheVariants as terminal
use Rattle.java_lex.specs.declared.token.Token.{Token}
use Rattle.java_lex.specs.declared.words.TheConstants.{HAS, INT_SIZE}
use Rattle.std.specs.Prelude.{None}
use Rattle.reading_core.specs.Read.{at_side, is_name, is_open, is_close, is_comma, is_semicolon}
use Rattle.reading_core.specs.Machine.{Act, Take, Leave, Refuse, then_, takes_if, opens_if}
use Rattle.reading_core.specs.Endings.{Settled, Takes, all_calm, tail_calm, ranks, is_quiet, quiet_token}
use Rattle.reading_core.proofs.Ends.{ranks-append}
use Rattle.reading_core.proofs.Inside.{quiet_at, ranks_inside, all_calm_inside, tail_calm_inside, then_settled}
use Rattle.expression_reading.specs.declared.operators.Link.{Link}
use Rattle.expression_reading.specs.declared.operators.Link.TheVariants.{Ends, Left, Right}
use Rattle.expression_reading.specs.Operators.{sign_of, link_at, link_of, top}
use Rattle.expression_reading.specs.Reading.{is_word, is_dot, is_dot_terminal}
use Rattle.expression_reading.specs.Wants.{Want, Operand, Chain, Steps, Called, Step, Args, MoreArgs, New, NewOpen, Bracket, Empty, Group, Second, Reach, Fields, Dot, Question, Name, Close, Comma, Semicolon, is_ready, unary_starts, starts, goes_on, steps_on, calls, args_start, args_go_on, quantified, group_on, second_on, fields_on, reacts}
use Rattle.expression_reading.specs.Ends.{want_token, chains, want_behind, want_rank, is_calm}

quiet_sign : (x : Terminal) → is_quiet x ≡ true → sign_of x ≡ None
quiet_sign terminal.Times is = absurd (cc)
quiet_sign terminal.Plus is = absurd (cc)
quiet_sign terminal.Minus is = absurd (cc)
quiet_sign terminal.Less is = absurd (cc)
quiet_sign terminal.AtMost is = absurd (cc)
quiet_sign terminal.Greater is = absurd (cc)
quiet_sign terminal.AtLeast is = absurd (cc)
quiet_sign terminal.Equal is = absurd (cc)
quiet_sign terminal.NotEqual is = absurd (cc)
quiet_sign terminal.And is = absurd (cc)
quiet_sign terminal.Or is = absurd (cc)
quiet_sign terminal.Implies is = absurd (cc)
quiet_sign terminal.Iff is = absurd (cc)
quiet_sign x is = refl

quiet_dot : (x : Terminal) → is_quiet x ≡ true → is_dot_terminal x ≡ false
quiet_dot terminal.Dot is = absurd (cc)
quiet_dot x is = refl

chains_rank : (side : Bool) (n l : ℕ) → ranks want_rank (chains side n l) ≡ 0
chains_rank side zero l = refl
chains_rank side (suc n) l = let ih : ranks want_rank (chains side n l) ≡ 0 = chains_rank side n l in omega (arith, ih, ranks-append want_rank (chains side n l) (Chain side n l ∷ []))

rank_falls : (w : Want) → is_ready w ≡ false → ranks want_rank (want_behind w) < want_rank w
rank_falls (Operand side n l) not = let none : ranks want_rank (chains side n l) ≡ 0 = chains_rank side n l in omega (arith, none)
rank_falls (Chain side n l) not = absurd (cc)
rank_falls (Steps side l) not = absurd (cc)
rank_falls (Called l) not = absurd (cc)
rank_falls (Step false l) not = lit< tt
rank_falls (Step true l) not = lit< tt
rank_falls (Args l) not = lit< tt
rank_falls (MoreArgs l) not = lit< tt
rank_falls (New l) not = lit< tt
rank_falls (NewOpen l) not = lit< tt
rank_falls (Bracket l) not = lit< tt
rank_falls (Empty l) not = lit< tt
rank_falls (Group l) not = lit< tt
rank_falls (Second l) not = lit< tt
rank_falls (Reach l) not = lit< tt
rank_falls (Fields l) not = lit< tt
rank_falls (Dot l) not = lit< tt
rank_falls (Question l) not = lit< tt
rank_falls (Name side) not = lit< tt
rank_falls (Close side) not = lit< tt
rank_falls Comma not = lit< tt
rank_falls Semicolon not = lit< tt

module _ {W : Type 0} (inn : Want → W) where
  pub want_falls : (rank : W → ℕ) → ((w : Want) → rank (inn w) ≡ want_rank w) → (w : Want) → is_ready w ≡ false → ranks rank (map inn (want_behind w)) < rank (inn w)
  want_falls rank same w not =
      let inside : ranks rank (map inn (want_behind w)) ≡ ranks want_rank (want_behind w) = ranks_inside inn want_rank rank same (want_behind w) in
      let falls : ranks want_rank (want_behind w) < want_rank w = rank_falls w not in
      let one : rank (inn w) ≡ want_rank w = same w in
      omega (arith, inside, falls, one)

  pub want_quiets : (w : Want) → is_ready w ≡ false → is_calm w ≡ true → quiet_token (want_token w) ≡ true
  want_quiets (Operand side n l) not calm = refl
  want_quiets (Chain side n l) not calm = refl
  want_quiets (Steps side l) not calm = refl
  want_quiets (Called l) not calm = refl
  want_quiets (Step false l) not calm = refl
  want_quiets (Step true l) not calm = refl
  want_quiets (Args l) not calm = refl
  want_quiets (MoreArgs l) not calm = refl
  want_quiets (New l) not calm = refl
  want_quiets (NewOpen l) not calm = absurd (cc)
  want_quiets (Bracket l) not calm = absurd (cc)
  want_quiets (Empty l) not calm = absurd (cc)
  want_quiets (Group l) not calm = refl
  want_quiets (Second l) not calm = refl
  want_quiets (Reach l) not calm = absurd (cc)
  want_quiets (Fields l) not calm = refl
  want_quiets (Dot l) not calm = absurd (cc)
  want_quiets (Question l) not calm = refl
  want_quiets (Name false) not calm = refl
  want_quiets (Name true) not calm = refl
  want_quiets (Close false) not calm = refl
  want_quiets (Close true) not calm = refl
  want_quiets Comma not calm = refl
  want_quiets Semicolon not calm = refl

  -- LEAVES

  quiet_calls : (l : ℕ) (x : Terminal) → is_quiet x ≡ true → calls inn l x ≡ Leave
  quiet_calls l terminal.OpenParen is = absurd (cc)
  quiet_calls l terminal.Dot is = absurd (cc)
  quiet_calls l x is = refl

  pub want_leaves : (w : Want) (t : Token) → is_ready w ≡ true → quiet_token t ≡ true → reacts inn w t ≡ Leave
  want_leaves (Chain side n l) t is quiet = ap (λ s. goes_on inn side n l (link_at n s)) (quiet_sign (at_side side t) (quiet_at side t quiet))
  want_leaves (Steps side l) t is quiet = ap (steps_on inn side l) (quiet_dot (at_side side t) (quiet_at side t quiet))
  want_leaves (Called l) t is quiet = quiet_calls l (at_side false t) (quiet_at false t quiet)
  want_leaves w t is quiet = absurd (cc)

  -- TAKES

  takes_chains : (side : Bool) (n l : ℕ) → starts inn side n l terminal.Number ≡ Take (map inn (chains side n l))
  takes_chains side zero l = refl
  takes_chains side (suc n) l = ap (λ a. then_ a (inn (Chain side n l) ∷ [])) (takes_chains side n l) ∙ ap Take (sym (map-append inn (chains side n l) (Chain side n l ∷ [])))

  pub want_takes : (w : Want) → is_ready w ≡ false → Takes (reacts inn w (want_token w)) (map inn (want_behind w))
  want_takes (Operand false n l) not = subst (λ a. Takes a (map inn (chains false n l))) (sym (takes_chains false n l)) refl
  want_takes (Operand true n l) not = subst (λ a. Takes a (map inn (chains true n l))) (sym (takes_chains true n l)) refl
  want_takes (Chain side n l) not = absurd (cc)
  want_takes (Steps side l) not = absurd (cc)
  want_takes (Called l) not = absurd (cc)
  want_takes (Step false l) not = refl
  want_takes (Step true l) not = refl
  want_takes (Args l) not = refl
  want_takes (MoreArgs l) not = refl
  want_takes (New l) not = refl
  want_takes (NewOpen l) not = refl
  want_takes (Bracket l) not = refl
  want_takes (Empty l) not = refl
  want_takes (Group l) not = refl
  want_takes (Second l) not = refl
  want_takes (Reach l) not = refl
  want_takes (Fields l) not = refl
  want_takes (Dot l) not = refl
  want_takes (Question l) not = refl
  want_takes (Name false) not = refl
  want_takes (Name true) not = refl
  want_takes (Close false) not = refl
  want_takes (Close true) not = refl
  want_takes Comma not = refl
  want_takes Semicolon not = refl

  -- SETTLES

  module _ (calm : W → Bool) (same : (w : Want) → calm (inn w) ≡ is_calm w) where
    -- what is awaited behind a token
    these : (ws : List Want) → tail_calm is_calm ws ≡ true → tail_calm calm (map inn ws) ≡ true
    these ws is = tail_calm_inside inn is_calm calm same ws is

    all_these : (ws : List Want) → all_calm is_calm ws ≡ true → all_calm calm (map inn ws) ≡ true
    all_these ws is = all_calm_inside inn is_calm calm same ws ∙ is

    settles_takes : (b : Bool) (ws : List Want) → tail_calm is_calm ws ≡ true → Settled calm (takes_if b (map inn ws))
    settles_takes true ws is = these ws is
    settles_takes false ws is = tt {0}

    settles_opens : (b : Bool) (k : ℕ) (ws : List Want) → tail_calm is_calm ws ≡ true → Settled calm (opens_if b k (map inn ws))
    settles_opens true k ws is = these ws is
    settles_opens false k ws is = tt {0}

    settles_unary : (side : Bool) (l : ℕ) (x : Terminal) → Settled calm (unary_starts inn side l x)
    settles_unary side l terminal.Not = refl
    settles_unary side l terminal.Minus = refl
    settles_unary side l terminal.Number = refl
    settles_unary side l terminal.True = refl
    settles_unary side l terminal.False = refl
    settles_unary side l terminal.Null = refl
    settles_unary side l terminal.This = refl
    settles_unary false l terminal.Name = refl
    settles_unary true l terminal.Name = refl
    settles_unary false l terminal.OpenParen = these (Operand false (top false) (suc l) ∷ Close false ∷ Steps false l ∷ []) refl
    settles_unary true l terminal.OpenParen = refl
    settles_unary false l terminal.New = these (New l ∷ Steps false l ∷ []) refl
    settles_unary true l terminal.ResultValue = refl
    settles_unary true l terminal.Old = these (Bracket l ∷ Steps true l ∷ []) refl
    settles_unary true l terminal.Reach = refl
    settles_unary side l x = tt {0}

    settles_starts : (side : Bool) (n l : ℕ) (x : Terminal) → Settled calm (starts inn side n l x)
    settles_starts side zero l x = settles_unary side l x
    settles_starts side (suc n) l x = then_settled calm (starts inn side n l x) (inn (Chain side n l) ∷ []) (settles_starts side n l x) (all_these (Chain side n l ∷ []) refl)

    settles_goes_on : (side : Bool) (n l : ℕ) (k : Link) → Settled calm (goes_on inn side n l k)
    settles_goes_on side n l Ends = tt {0}
    settles_goes_on side n l (Left s) = these (Operand side n (suc l) ∷ Chain side n (suc l) ∷ []) refl
    settles_goes_on side n l Right = refl

    settles_steps : (side : Bool) (l : ℕ) (dot : Bool) → Settled calm (steps_on inn side l dot)
    settles_steps side l true = refl
    settles_steps side l false = tt {0}

    settles_calls : (l : ℕ) (x : Terminal) → Settled calm (calls inn l x)
    settles_calls l terminal.OpenParen = these (Args (suc l) ∷ Steps false l ∷ []) refl
    settles_calls l terminal.Dot = refl
    settles_calls l x = tt {0}

    settles_args : (l : ℕ) (x : Terminal) → Settled calm (args_start inn l x)
    settles_args l terminal.CloseParen = refl
    settles_args l x = then_settled calm (starts inn false (top false) l x) (inn (MoreArgs l) ∷ []) (settles_starts false (top false) l x) (all_these (MoreArgs l ∷ []) refl)

    settles_more_args : (l : ℕ) (x : Terminal) → Settled calm (args_go_on inn l x)
    settles_more_args l terminal.Comma = these (Operand false (top false) l ∷ MoreArgs l ∷ []) refl
    settles_more_args l terminal.CloseParen = refl
    settles_more_args l x = tt {0}

    settles_quantified : (l : ℕ) → Settled calm (quantified inn l)
    settles_quantified l = these (Name true ∷ Name true ∷ Semicolon ∷ Operand true (top true) (suc l) ∷ Second (suc l) ∷ []) refl

    settles_group : (l : ℕ) (x : Terminal) → Settled calm (group_on inn l x)
    settles_group l terminal.Forall = settles_quantified l
    settles_group l terminal.Exists = settles_quantified l
    settles_group l x =
        then_settled calm (starts inn true (top true) (suc l) x) (inn (Close true) ∷ inn (Steps true l) ∷ []) (settles_starts true (top true) (suc l) x) (all_these (Close true ∷ Steps true l ∷ []) refl)

    settles_second : (l : ℕ) (x : Terminal) → Settled calm (second_on inn l x)
    settles_second l terminal.Semicolon = these (Operand true (top true) l ∷ Close true ∷ []) refl
    settles_second l terminal.CloseParen = refl
    settles_second l x = tt {0}

    settles_fields : (l : ℕ) (x : Terminal) → Settled calm (fields_on inn l x)
    settles_fields l terminal.Plus = these (Name true ∷ Fields l ∷ []) refl
    settles_fields l terminal.CloseParen = refl
    settles_fields l x = tt {0}

    settles_question : (l : ℕ) (is_has is_size : Bool)
        → Settled calm (elim is_has as (λ _. Act W) [ true ↦ Take (inn (Bracket l) ∷ []) | false ↦ elim is_size as (λ _. Act W) [ true ↦ Take (inn (Empty l) ∷ []) | false ↦ Refuse ] ])
    settles_question l true is_size = refl
    settles_question l false true = refl
    settles_question l false false = tt {0}

    pub want_settles : (w : Want) (t : Token) → Settled calm (reacts inn w t)
    want_settles (Operand side n l) t = settles_starts side n l (at_side side t)
    want_settles (Chain side n l) t = settles_goes_on side n l (link_of side n t)
    want_settles (Steps side l) t = settles_steps side l (is_dot side t)
    want_settles (Called l) t = settles_calls l (at_side false t)
    want_settles (Step false l) t = settles_takes (is_name false t) (Called l ∷ []) refl
    want_settles (Step true l) t = settles_takes (is_name true t) (Steps true l ∷ []) refl
    want_settles (Args l) t = settles_args l (at_side false t)
    want_settles (MoreArgs l) t = settles_more_args l (at_side false t)
    want_settles (New l) t = settles_takes (is_name false t) (NewOpen l ∷ []) refl
    want_settles (NewOpen l) t = settles_opens (is_open false t) (suc l) (Close false ∷ []) refl
    want_settles (Bracket l) t = settles_opens (is_open true t) (suc l) (Operand true (top true) (suc l) ∷ Close true ∷ []) refl
    want_settles (Empty l) t = settles_opens (is_open true t) (suc l) (Close true ∷ []) refl
    want_settles (Group l) t = settles_group l (at_side true t)
    want_settles (Second l) t = settles_second l (at_side true t)
    want_settles (Reach l) t = settles_opens (is_open true t) (suc l) (Operand true (top true) (suc l) ∷ Comma ∷ Name true ∷ Comma ∷ Name true ∷ Fields l ∷ []) refl
    want_settles (Fields l) t = settles_fields l (at_side true t)
    want_settles (Dot l) t = settles_takes (is_dot true t) (Question l ∷ []) refl
    want_settles (Question l) t = settles_question l (is_word HAS.now t) (is_word INT_SIZE.now t)
    want_settles (Name side) t = settles_takes (is_name side t) [] refl
    want_settles (Close side) t = settles_takes (is_close side t) [] refl
    want_settles Comma t = settles_takes (is_comma true t) [] refl
    want_settles Semicolon t = settles_takes (is_semicolon true t) [] refl
