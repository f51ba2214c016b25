-- What begins a text is brought to its end.
use Rattle.std.proofs.Common.{◌≡◌, ℕ, ◌+◌, ◌<◌, ◌≤◌, zero, suc, Bool, true, false, nat_le, List, [], ◌∷◌, ◌++◌, length, refl, sym, ◌∙◌, ap, subst, arith, ◌⊎◌, inl, inr}
use Rattle.std.proofs.lemmas.Bool.{le-leb}
use Rattle.java_lex.specs.declared.token.Token.{Token}
use Rattle.reading_core.specs.Machine.{Test, Act, Take, Open, Leave, Refuse, Step, On, OnOpen, Stop, Fine, DeepAt, act, step, all_ready, run}
use Rattle.reading_core.specs.Follow.{behind}
use Rattle.reading_core.specs.Endings.{Endings, Settled, Takes, all_calm, tail_calm, ranks}
use Rattle.reading_core.proofs.Runs.{tested, when_true, when_false, fine_free}

-- LISTS OF WHAT IS AWAITED

calm_head : {W : Type 0} (calm : W → Bool) (w : W) (ws : List W) → all_calm calm (w ∷ ws) ≡ true → calm w ≡ true
calm_head calm w ws is = by (calm w) is
  where
    by : (b : Bool) → elim b [ true ↦ all_calm calm ws | false ↦ false ] ≡ true → b ≡ true
    by true is = refl
    by false is = is

calm_rest : {W : Type 0} (calm : W → Bool) (w : W) (ws : List W) → all_calm calm (w ∷ ws) ≡ true → all_calm calm ws ≡ true
calm_rest calm w ws is = by (calm w) is
  where
    by : (b : Bool) → elim b [ true ↦ all_calm calm ws | false ↦ false ] ≡ true → all_calm calm ws ≡ true
    by true is = is
    by false is = cc

pub calm_append : {W : Type 0} (calm : W → Bool) (vs ws : List W) → all_calm calm vs ≡ true → all_calm calm ws ≡ true → all_calm calm (vs ++ ws) ≡ true
calm_append calm [] ws v w = w
calm_append calm (x ∷ vs) ws v w = when_true (calm x) _ _ (calm_head calm x vs v) ∙ calm_append calm vs ws (calm_rest calm x vs v) w

calm_tail : {W : Type 0} (calm : W → Bool) (ws : List W) → all_calm calm ws ≡ true → tail_calm calm ws ≡ true
calm_tail calm [] is = refl
calm_tail calm (w ∷ ws) is = calm_rest calm w ws is

pub tail_append : {W : Type 0} (calm : W → Bool) (vs ws : List W) → tail_calm calm vs ≡ true → all_calm calm ws ≡ true → tail_calm calm (vs ++ ws) ≡ true
tail_append calm [] ws v w = calm_tail calm ws w
tail_append calm (x ∷ vs) ws v w = calm_append calm vs ws v w

pub ranks-append : {W : Type 0} (rank : W → ℕ) (vs ws : List W) → ranks rank (vs ++ ws) ≡ ranks rank vs + ranks rank ws
ranks-append rank [] ws = omega arith
ranks-append rank (v ∷ vs) ws = let ih : ranks rank (vs ++ ws) ≡ ranks rank vs + ranks rank ws = ranks-append rank vs ws in omega (arith, ih)

module _ {W : Type 0} (react : W → Token → Act W) (ready : W → Bool) (E : Endings react ready) where
  -- the first token, if there is one, is quiet
  abbrev pub Quietly : List Token → Type 0
  Quietly [] = Unit {0}
  Quietly (t ∷ ts) = E.quiet t ≡ true

  -- tokens that bring the stack to its end
  abbrev Finish : Test → List W → Type 0
  Finish may ws = (more : List Token) × (run react ready may more ws ≡ Fine true) × (all_calm E.calm ws ≡ true → Quietly more)

  abbrev All_ : Test → Type 0
  All_ may = (k : ℕ) (us : List Token) → may k us ≡ true

  quietly_past : (may : Test) (w : W) (ws : List W) (more : List Token) → ready w ≡ true → Quietly more → run react ready may more ws ≡ Fine true → run react ready may more (w ∷ ws) ≡ Fine true
  quietly_past may w ws [] is quiet fine = let all : Fine (all_ready react ready ws) ≡ Fine true = fine in when_ready (all_ready react ready ws) (cc)
    where
      when_ready : (b : Bool) → b ≡ true → Fine (elim (ready w) [ true ↦ b | false ↦ false ]) ≡ Fine true
      when_ready b so = ap Fine (when_true (ready w) _ _ is ∙ so)
  quietly_past may w ws (t ∷ ts) is quiet fine = ap (λ a. behind react ready may t ts (act a ws (step react ready t ws))) (E.leaves w t is quiet) ∙ fine

  took : (may : Test) → All_ may → (t : Token) (ts : List Token) (ws vs : List W) (left : Step W) (a : Act W) → Takes a vs
      → run react ready may ts (vs ++ ws) ≡ Fine true → behind react ready may t ts (act a ws left) ≡ Fine true
  took may all t ts ws vs left (Take more) is fine = ap (λ us. run react ready may ts (us ++ ws)) is ∙ fine
  took may all t ts ws vs left (Open k more) is fine = when_true (may k ts) _ _ (all k ts) ∙ ap (λ us. run react ready may ts (us ++ ws)) is ∙ fine
  took may all t ts ws vs left Leave is fine = absurd is
  took may all t ts ws vs left Refuse is fine = absurd is

  settled_of : (w : W) (vs : List W) (a : Act W) → Takes a vs → Settled E.calm a → tail_calm E.calm vs ≡ true
  settled_of w vs (Take more) is settled = subst (λ (us : List W). tail_calm E.calm us ≡ true) is settled
  settled_of w vs (Open k more) is settled = subst (λ (us : List W). tail_calm E.calm us ≡ true) is settled
  settled_of w vs Leave is settled = absurd is
  settled_of w vs Refuse is settled = absurd is

  finish_in : (may : Test) → All_ may → (n : ℕ) → ((ws : List W) → ranks E.rank ws < n → tail_calm E.calm ws ≡ true → Finish may ws)
      → (ws : List W) → ranks E.rank ws < suc n → tail_calm E.calm ws ≡ true → Finish may ws
  finish_in may all n ih [] low calm = ([], refl, λ is. tt {0})
  finish_in may all n ih (w ∷ ws) low calm =
      by (finish_in may all n ih ws (let le : E.rank w + ranks E.rank ws < suc n = low in omega (arith, le)) (calm_tail E.calm ws calm)) (tested (ready w))
    where
      by : Finish may ws → (ready w ≡ true) ⊎ (ready w ≡ false) → Finish may (w ∷ ws)
      by end (inl is) = (end.0, quietly_past may w ws end.0 is (end.2 calm) end.1, λ all_are. end.2 calm)
      by end (inr not) =
          let falls : ranks E.rank (E.behind w) < E.rank w = E.falls w not in
          let le : E.rank w + ranks E.rank ws < suc n = low in
          let go = ih (E.behind w ++ ws) (omega (arith, falls, le, ranks-append E.rank (E.behind w) ws))
          (tail_append E.calm (E.behind w) ws (settled_of w (E.behind w) (react w (E.token w)) (E.takes w not) (E.settles w (E.token w))) calm) in
          (E.token w ∷ go.0, took may all (E.token w) go.0 ws (E.behind w) (step react ready (E.token w) ws) (react w (E.token w)) (E.takes w not) go.1, λ are. E.quiets w not (calm_head E.calm w ws are))

  finish_by : (may : Test) → All_ may → (n : ℕ) (ws : List W) → ranks E.rank ws < n → tail_calm E.calm ws ≡ true → Finish may ws
  finish_by may all zero ws low calm = absurd (omega arith)
  finish_by may all (suc n) ws low calm = finish_in may all n (finish_by may all n) ws low calm

  finish : (may : Test) → All_ may → (ws : List W) → tail_calm E.calm ws ≡ true → Finish may ws
  finish may all ws calm = finish_by may all (suc (ranks E.rank ws)) ws (omega arith) calm

  -- Tokens behind the front bring it to its end: the same levels are opened in the front, and all that are opened
  -- behind it.
  pub record Completes (may : Test) (front : List Token) (ws : List W) : Type 0 where
    pub more : List Token
    pub fine : (wide : Test) → ((k : ℕ) (us vs : List Token) → may k us ≡ true → wide k vs ≡ true) → ((k : ℕ) (us : List Token) → length us < length more → wide k us ≡ true)
        → run react ready wide (front ++ more) ws ≡ Fine true

  abbrev Calm : Step W → Type 0
  Calm (On vs) = tail_calm E.calm vs ≡ true
  Calm (OnOpen k vs) = tail_calm E.calm vs ≡ true
  Calm Stop = Unit {0}

  settled_more : (a : Act W) (ws : List W) (left : Step W) → Settled E.calm a → all_calm E.calm ws ≡ true → Calm left → Calm (act a ws left)
  settled_more (Take more) ws left settled calm ih = tail_append E.calm more ws settled calm
  settled_more (Open k more) ws left settled calm ih = tail_append E.calm more ws settled calm
  settled_more Leave ws left settled calm ih = ih
  settled_more Refuse ws left settled calm ih = tt {0}

  -- the stack behind a token is settled too
  stays : (t : Token) (ws : List W) → tail_calm E.calm ws ≡ true → Calm (step react ready t ws)
  stays t [] calm = tt {0}
  stays t (w ∷ ws) calm = settled_more (react w t) ws (step react ready t ws) (E.settles w t) calm (stays t ws (calm_tail E.calm ws calm))

  complete_by : (may : Test) (t : Token) (front : List Token) (ws : List W)
      → ((vs : List W) (c : Bool) → tail_calm E.calm vs ≡ true → run react ready may front vs ≡ Fine c → Completes may front vs)
      → (c : Bool) (s : Step W) → step react ready t ws ≡ s
      → Calm s → behind react ready may t front s ≡ Fine c → Completes may (t ∷ front) ws
  complete_by may t front ws ih c (On vs) is calm fine =
      let go = ih vs c calm fine in
      record {
        more = go.more;
        fine = λ wide wider free. ap (behind react ready wide t (front ++ go.more)) is ∙ go.fine wide wider free;
      }
  complete_by may t front ws ih c (OnOpen k vs) is calm fine =
      elim (tested (may k front)) [
        | inl opens ↦
            let go = ih vs c calm (sym (when_true (may k front) _ _ opens) ∙ fine) in
            record {
              more = go.more;
              fine = λ wide wider free.
                  ap (behind react ready wide t (front ++ go.more)) is ∙ when_true (wide k (front ++ go.more)) _ _ (wider k front (front ++ go.more) opens) ∙ go.fine wide wider free;
            }
        | inr not ↦ let no : DeepAt (t ∷ front) ≡ Fine c = sym (when_false (may k front) _ _ not) ∙ fine in absurd (cc)
      ]
  complete_by may t front ws ih c Stop is calm fine = absurd (cc)

  pub complete : (may : Test) (front : List Token) (ws : List W) (c : Bool) → tail_calm E.calm ws ≡ true → run react ready may front ws ≡ Fine c → Completes may front ws
  complete may [] ws c calm fine =
      let end = finish (λ k us. true) (λ k us. refl) ws calm in
      record {
        more = end.0;
        fine = λ wide wider free. fine_free react ready (λ k us. true) wide end.0 true (λ k us less is. free k us less) ws end.1;
      }
  complete may (t ∷ front) ws c calm fine = complete_by may t front ws (complete may front) c (step react ready t ws) refl (stays t ws calm) fine

-- LEVELS THAT ARE OPENED

-- the same test, and no level beyond this one
abbrev pub capped : ℕ → Test → Test
capped cap may k us = elim (nat_le k cap) [ true ↦ may k us | false ↦ false ]

module _ {W : Type 0} (react : W → Token → Act W) (ready : W → Bool) where
  cap_by : (may : Test) (t : Token) (ts : List Token) → ((ws : List W) → (cap : ℕ) × ((d : ℕ) → cap ≤ d → run react ready (capped d may) ts ws ≡ run react ready may ts ws)) → (s : Step W)
      → (cap : ℕ) × ((d : ℕ) → cap ≤ d → behind react ready (capped d may) t ts s ≡ behind react ready may t ts s)
  cap_by may t ts ih (On ws) = ih ws
  cap_by may t ts ih (OnOpen k ws) =
      let go = ih ws in
      (k + go.0, λ d le. same d (omega arith) (go.1 d (omega arith)))
    where
      same : (d : ℕ) → k ≤ d → run react ready (capped d may) ts ws ≡ run react ready may ts ws
          → behind react ready (capped d may) t ts (OnOpen k ws) ≡ behind react ready may t ts (OnOpen k ws)
      same d le is =
          let equal : capped d may k ts ≡ may k ts = when_true (nat_le k d) _ _ (le-leb k d le) in
          elim (tested (may k ts)) [
            | inl opens ↦ when_true (capped d may k ts) _ _ (equal ∙ opens) ∙ is ∙ sym (when_true (may k ts) _ _ opens)
            | inr not ↦ when_false (capped d may k ts) _ _ (equal ∙ not) ∙ sym (when_false (may k ts) _ _ not)
          ]
  cap_by may t ts ih Stop = (0, λ d le. refl)

  -- on given tokens a run opens levels up to some one
  pub caps : (may : Test) (ts : List Token) (ws : List W) → (cap : ℕ) × ((d : ℕ) → cap ≤ d → run react ready (capped d may) ts ws ≡ run react ready may ts ws)
  caps may [] ws = (0, λ d le. refl)
  caps may (t ∷ ts) ws = cap_by may t ts (caps may ts) (step react ready t ws)
