-- The loop over the links of an operand in a reader's code, and the arms of what begins one.
use Rattle.std.proofs.Common.{◌≡◌, ℕ, ◌+◌, ◌-◌, ◌<◌, ◌≤◌, zero, suc, Bool, List, ◌∷◌, Bor, refl, sym, ◌∙◌, ap, subst, arith}
use Rattle.std.specs.Prelude.{Option, Result, Err}
use Rattle.java_lex.specs.declared.spelling.Terminal.{Terminal}
use Rattle.java_lex.specs.declared.spelling.Terminal.TheVariants as terminal
use Rattle.java_lex.specs.declared.token.Token.{Token}
use Rattle.java_tree.specs.Trees.{Expr}
use Rattle.reading_core.specs.declared.stop.Stop.{Stop}
use Rattle.reading_core.specs.Read.{Read, Got, Bad, Deep, at_side, ◌>>=◌ as ◌⟫◌}
use Rattle.reading_core.specs.Deeper.{Level}
use Rattle.reading_core.specs.Gives.{Gives}
use Rattle.expression_reading.specs.Levels.{links_in, within_left}
use Rattle.expression_reading.specs.Parts.{negated_in, subtracted_in, grouped_in}
use Rattle.expression_reading.specs.Reading.{Below, chain_in, operand_in, unary_by, unary_in}
use Rattle.expression_reading.proofs.Gathered.{gives_bind}

bind_bind : (r : Read Expr) (f g : Expr → List Token → Read Expr) → (r ⟫ f) ⟫ g ≡ r ⟫ (λ e rest. f e rest ⟫ g)
bind_bind (Got e rest) f g = refl
bind_bind (Bad rest) f g = refl
bind_bind (Deep rest) f g = refl

bind_end : (r : Read Expr) → r ≡ r ⟫ (λ e rest. Got e rest)
bind_end (Got e rest) = refl
bind_end (Bad rest) = refl
bind_end (Deep rest) = refl

module _ (side : Bool) (level : Option (Level Below)) where
  operand_from : (count i : ℕ) (ts : List Token) → operand_in side level (count + i) ts ≡ operand_in side level i ts ⟫ (λ e rest. links_in side level i count e rest)
  operand_from zero i ts = let none : zero + i ≡ i = omega arith in ap (λ n. operand_in side level n ts) none ∙ bind_end (operand_in side level i ts)
  operand_from (suc count) i ts =
      let more : suc count + i ≡ count + suc i = omega arith in
      ap (λ n. operand_in side level n ts) more ∙ operand_from count (suc i) ts
      ∙ bind_bind (operand_in side level i ts) (λ e rest. chain_in side level i e rest) (λ e rest. links_in side level (suc i) count e rest)

  -- an operand is what begins it, and then its links
  operand_links : (n : ℕ) (ts : List Token) → operand_in side level n ts ≡ unary_in side level ts ⟫ (λ e rest. links_in side level 0 n e rest)
  operand_links n ts = let all : n ≡ n + 0 = omega arith in ap (λ m. operand_in side level m ts) all ∙ operand_from n 0 ts

  -- one link, and then the others
  links_step : (i n : ℕ) (e : Expr) (ts : List Token) → i < n → links_in side level i (n - i) e ts ≡ chain_in side level i e ts ⟫ (λ e rest. links_in side level (i + 1) (n - (i + 1)) e rest)
  links_step i n e ts less =
      let more : n - i ≡ suc (n - (i + 1)) = omega arith in
      let next : suc i ≡ i + 1 = omega arith in
      ap (λ m. links_in side level i m e ts) more ∙ ap (λ j. chain_in side level i e ts ⟫ (λ e rest. links_in side level j (n - (i + 1)) e rest)) next

  -- the links from the number i on are left
  abbrev pub IsLeft : ℕ → List Token → ℕ → Expr → List Token → Type 0
  IsLeft n ts i e rest = operand_in side level n ts ≡ links_in side level i (n - i) e rest

  pub links_start : (n : ℕ) (ts : List Token) (e : Expr) (rest : List Token) → unary_in side level ts ≡ Got e rest → IsLeft n ts 0 e rest
  links_start n ts e rest got =
      let all : n ≡ n - 0 = omega arith in
      operand_links n ts ∙ ap (λ (r : Read Expr). r ⟫ (λ e rest. links_in side level 0 n e rest)) got ∙ ap (λ m. links_in side level 0 m e rest) all

  pub links_more : (n : ℕ) (ts : List Token) (i : ℕ) (e : Expr) (rest : List Token) (e' : Expr) (rest' : List Token) → IsLeft n ts i e rest → i < n → chain_in side level i e rest ≡ Got e' rest' → IsLeft n ts (i + 1) e' rest'
  links_more n ts i e rest e' rest' is less got = is ∙ links_step i n e rest less ∙ ap (λ (r : Read Expr). r ⟫ (λ e rest. links_in side level (i + 1) (n - (i + 1)) e rest)) got

  pub links_end : (n : ℕ) (ts : List Token) (i : ℕ) (e : Expr) (rest : List Token) → IsLeft n ts i e rest → n ≤ i → operand_in side level n ts ≡ Got e rest
  links_end n ts i e rest is low = let none : n - i ≡ 0 = omega arith in is ∙ ap (λ m. links_in side level i m e rest) none

  -- what stops the first part, or a link, stops the operand
  pub start_stops : {T : Type 0} (seen : T → Expr) (n : ℕ) (ts : List Token) (why : Stop) (result : Result (T × Bor (List Token)) Stop) → result ≡ Err why → Gives seen (Err why) (unary_in side level ts)
      → Gives seen result (operand_in side level n ts)
  start_stops {T} seen n ts why result is gives =
      subst (λ (r : Result (T × Bor (List Token)) Stop). Gives seen r (operand_in side level n ts)) (sym is)
      (subst (λ (r : Read Expr). Gives seen (Err why) r) (sym (operand_links n ts)) (gives_bind seen seen (unary_in side level ts) _ why gives))

  pub link_stops : {T : Type 0} (seen : T → Expr) (n : ℕ) (ts : List Token) (i : ℕ) (e : Expr) (rest : List Token) (why : Stop) (result : Result (T × Bor (List Token)) Stop) → result ≡ Err why → IsLeft n ts i e rest → i < n
      → Gives seen (Err why) (chain_in side level i e rest) → Gives seen result (operand_in side level n ts)
  link_stops {T} seen n ts i e rest why result is left less gives =
      subst (λ (r : Result (T × Bor (List Token)) Stop). Gives seen r (operand_in side level n ts)) (sym is)
      (subst (λ (r : Read Expr). Gives seen (Err why) r) (sym (left ∙ links_step i n e rest less)) (gives_bind seen seen (chain_in side level i e rest) _ why gives))

-- what begins with this token
pub unary_is : (side : Bool) (left : ℕ) (x : Terminal) (t : Token) (ts rest : List Token) → ts ≡ t ∷ rest → x ≡ at_side side t → unary_in side (within_left side left) ts ≡ unary_by side (within_left side left) x t rest
unary_is side left x t ts rest parts is = ap (unary_in side (within_left side left)) parts ∙ ap (λ y. unary_by side (within_left side left) y t rest) (sym is)

pub not_is : (side : Bool) (left : ℕ) (t : Token) (ts rest : List Token) → ts ≡ t ∷ rest → terminal.Not ≡ at_side side t → unary_in side (within_left side left) ts ≡ negated_in side left t.from ts rest
not_is side left t ts rest parts is = unary_is side left terminal.Not t ts rest parts is ∙ ap (λ us. negated_in side left t.from us rest) (sym parts)

pub minus_is : (side : Bool) (left : ℕ) (t : Token) (ts rest : List Token) → ts ≡ t ∷ rest → terminal.Minus ≡ at_side side t → unary_in side (within_left side left) ts ≡ subtracted_in side left t.from ts rest
minus_is side left t ts rest parts is = unary_is side left terminal.Minus t ts rest parts is ∙ ap (λ us. subtracted_in side left t.from us rest) (sym parts)

pub open_is : (side : Bool) (left : ℕ) (t : Token) (ts rest : List Token) → ts ≡ t ∷ rest → terminal.OpenParen ≡ at_side side t → unary_in side (within_left side left) ts ≡ grouped_in side left t.from ts rest
open_is side left t ts rest parts is = unary_is side left terminal.OpenParen t ts rest parts is ∙ ap (λ us. grouped_in side left t.from us rest) (sym parts)
