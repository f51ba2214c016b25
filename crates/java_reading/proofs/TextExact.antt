-- What reading a whole text tells: its one tree, or the first token at fault, for what it is or for its level alone.
use Rattle.std.proofs.Common.{◌≡◌, ℕ, ◌+◌, Bool, true, false, List, [], ◌∷◌, ◌++◌, length, Option, refl, sym, ap, ◌∙◌, subst, inl, inr, arith, append_assoc}
use Rattle.java_lex.specs.declared.spelling.Terminal.TheVariants as terminal
use Rattle.java_lex.specs.declared.token.Token.{Token}
use Rattle.java_lex.specs.Terminals.{terminal_of}
use Rattle.java_tree.specs.Trees.{Expr, Exprs, Classes}
use Rattle.java_tree.specs.Phrases.{Limit, Letter, letter}
use Rattle.java_tree.specs.Members.{text, unit}
use Rattle.java_tree.specs.Reading.{some_text, Parse, within, any_level, within_before, BeginsWithin, FirstWrong, FirstDeep}
use Rattle.reading_core.specs.Read.{Read, Got, Bad, Deep}
use Rattle.java_reading.specs.declared.marks.Fixed.TheVariants.{End}
use Rattle.java_reading.specs.Readers.{Reader, head, first, and_then}
use Rattle.java_reading.specs.Tokens.{is_fixed, stands, fixed, at_head}
use Rattle.java_reading.specs.MemberReading.{unit_in, text_in}
use Rattle.java_reading.proofs.Law.{never, any, Sample, Exact, Law, IsGot, Plain, Stops, Allows}
use Rattle.java_reading.proofs.TokenLaws.{example, stands_letter, one_head}
use Rattle.java_reading.proofs.DeclarationLaws.{EF, EX}
use Rattle.java_reading.proofs.Tails.{ArgsF}
use Rattle.java_reading.proofs.PartLaws.{PF, PX}
use Rattle.java_reading.proofs.TextLaws.{UF, ClassesX, no_class, unit_law}

-- the tokens end with the end of the text, and have it nowhere else
pub record Ended (ts : List Token) : Type 0 where
  pub front : List Token
  pub at : Token
  pub parts : ts ≡ front ++ at ∷ []
  pub end : letter at ≡ (false, terminal.End)
  pub plain : Plain front

end_token : Token
end_token = example false End

end_letter : letter (example false End) ≡ (false, terminal.End)
end_letter = refl

is_end : (t : Token) → letter t ≡ (false, terminal.End) → terminal_of t ≡ terminal.End
is_end t e = ap (λ (z : Letter). z.1) e

-- no front without the end is the whole
plain_end : (f : List Token) (at : Token) (g rest : List Token) → letter at ≡ (false, terminal.End) → Plain g → f ++ at ∷ [] ≡ g ++ rest → rest ≡ [] → ⊥
plain_end [] at [] rest e p is none = let f : at ∷ [] ≡ [] = is ∙ none in cc
plain_end [] at (t ∷ g) rest e p is none = let f : at ≡ t = cc in p.0 (subst (λ (v : Token). terminal_of v ≡ terminal.End) f (is_end at e))
plain_end (t ∷ f) at [] rest e p is none = let f : t ∷ (f ++ at ∷ []) ≡ [] = is ∙ none in cc
plain_end (t ∷ f) at (u ∷ g) rest e p is none = let h : f ++ at ∷ [] ≡ g ++ rest = cc in plain_end f at g rest e p.1 h none

-- the end of the text is the last token
last_end : (f : List Token) (at : Token) (g : List Token) (t : Token) (rest : List Token) → letter t ≡ (false, terminal.End) → Plain f → f ++ at ∷ [] ≡ g ++ t ∷ rest → rest ≡ []
last_end [] at [] t rest e p is = cc
last_end [] at (u ∷ g) t rest e p is = absurd (none g (sym is'))
  where
    is' : ◌≡◌ {A = List Token} [] (g ++ t ∷ rest)
    is' = cc

    none : (g : List Token) → g ++ t ∷ rest ≡ [] → ⊥
    none [] h = cc
    none (v ∷ g) h = cc
last_end (v ∷ f) at [] t rest e p is = let h : v ≡ t = cc in absurd (p.0 (ap terminal_of h ∙ is_end t e))
last_end (v ∷ f) at (u ∷ g) t rest e p is = let h : f ++ at ∷ [] ≡ g ++ t ∷ rest = cc in last_end f at g t rest e p.1 h

-- what a text ends with is its end
text_end : (May : Limit) (cs : Classes) (us : List Token) (k : ℕ) → text May cs 0 us k [] → (m : ℕ) × (mid : List Token) × unit May cs 0 us m mid × (at_head false (head mid) ≡ terminal.End) × (length mid ≡ 1)
text_end May cs us k (m, mid, h, (t, is, parts, up)) = (m, mid, h, one_head false terminal.End m mid k [] (t, is, parts, up), ap length parts)

no_longer : (cs : Classes) (h : Option Token) → ClassesX cs h → at_head false h ≡ terminal.End → ⊥
no_longer cs h (inl e) is = no_class terminal.End (λ f. cc) refl refl h is e
no_longer cs h (inr none) is = none

regroup : (f : List Token) (t : Token) (more : List Token) → (f ++ t ∷ []) ++ more ≡ f ++ t ∷ more
regroup f t more = append_assoc f (t ∷ []) more

-- a token behind which no text goes on is at fault, whatever levels are opened
module _ (ts rest front : List Token) (t : Token) (behind : List Token) (here : rest ≡ t ∷ behind) (parts : ts ≡ front ++ rest) where
  wrong_at : BeginsWithin some_text front → ((May : Limit) (cs : Classes) (more : List Token) (k : ℕ) → text May cs 0 (front ++ t ∷ more) k [] → ⊥) → FirstWrong some_text ts rest
  wrong_at before no_text = record {
    fault = record {
      front = front;
      at = t;
      behind = behind;
      here = here;
      parts = parts;
      before = before;
      with_it = λ b. no_text (within_before (length b.more)) b.parses.parse.0 b.more b.parses.levels
          (subst (λ (v : List Token). text (within_before (length b.more)) b.parses.parse.0 0 v b.parses.levels []) (regroup front t b.more) b.parses.parse.1);
    };
    wrong = λ b. no_text any_level b.parses.parse.0 b.more b.parses.levels (subst (λ (v : List Token). text any_level b.parses.parse.0 0 v b.parses.levels []) (regroup front t b.more) b.parses.parse.1);
  }

-- tokens that lead to the end of a unit, and the end
completed : (front more : List Token) (cs : Classes) → ((May : Limit) (c : List Token) → Allows (length (more ++ c)) May → unit May cs 0 (front ++ (more ++ c)) 0 c) → BeginsWithin some_text front
completed front more cs is = record {
  more = more ++ example false End ∷ [];
  parses = record {
    levels = 0;
    parse = (cs, (0, example false End ∷ [], is (within_before (length (more ++ example false End ∷ []))) (example false End ∷ []) (λ k r h. h), (example false End, end_letter, refl, refl)));
  };
}

module _ (expression : ℕ → Reader Expr) (arguments : ℕ → Reader Exprs) (predicate_in : ℕ → Reader Expr)
    (expression_law : (left l : ℕ) → l + left ≡ 64 → Exact Expr EF EX any l (expression left))
    (arguments_law : (left l : ℕ) → l + left ≡ 64 → Exact Exprs ArgsF never any l (arguments left)) (arguments_sample : (l : ℕ) → Sample Exprs ArgsF l)
    (predicate_law : (left l : ℕ) → l + left ≡ 64 → Exact Expr PF PX any l (predicate_in left)) (predicate_sample : (l : ℕ) → Sample Expr PF l) where
  abbrev units : Reader Classes
  units = unit_in expression arguments predicate_in 64

  -- what reading tells of these tokens
  abbrev pub Tells : List Token → Read Classes → Type 0
  Tells ts (Got cs rest) = (rest ≡ []) × Parse ts cs
  Tells ts (Bad rest) = FirstWrong some_text ts rest
  Tells ts (Deep rest) = FirstDeep some_text ts rest

  end_by : (ts : List Token) (ended : Ended ts) (cs : Classes) (t : Token) (more : List Token) → IsGot Classes UF ClassesX any 0 ts cs (t ∷ more) → (b : Bool) → stands false End t ≡ b
      → Tells ts (first (and_then (Got cs (t ∷ more)) (λ c rest. elim b [ true ↦ Got (tt {0}) more | false ↦ Bad (t ∷ more) ])))
  end_by ts ended cs t more got true is =
      let t_is : letter t ≡ (false, terminal.End) = stands_letter false End t is in
      let none : more ≡ [] = last_end ended.front ended.at got.front t more t_is ended.plain (sym ended.parts ∙ got.parts) in (
        none,
        record {
          levels = 0;
          parse = subst (λ (v : List Token). text within cs 0 v 0 []) (sym (got.parts ∙ ap (λ v. got.front ++ t ∷ v) none)) (0, t ∷ [], got.sound within within_allows (t ∷ []), (t, t_is, refl, refl));
        },
      )
    where
      within_allows : Allows 0 within
      within_allows k r (inl h) = h
      within_allows k r (inr h) = absurd (omega arith)
  end_by ts ended cs t more got false is =
      wrong_at ts (t ∷ more) got.front t more refl got.parts (completed got.front [] cs (λ May c allows. got.sound May (λ k r h. allows k r (widen k r c h)) c)) no_text
    where
      widen : (k : ℕ) (r c : List Token) → within_before 0 k r → within_before (length c) k r
      widen k r c (inl h) = inl h
      widen k r c (inr h) = absurd (omega arith)

      no_text : (May : Limit) (cs' : Classes) (more' : List Token) (k : ℕ) → text May cs' 0 (got.front ++ t ∷ more') k [] → ⊥
      no_text May cs' more' k h = by (text_end May cs' (got.front ++ t ∷ more') k h)
        where
          by : (m : ℕ) × (mid : List Token) × unit May cs' 0 (got.front ++ t ∷ more') m mid × (at_head false (head mid) ≡ terminal.End) × (length mid ≡ 1) → ⊥
          by (m, mid, u, at_end, one_is) = elim (got.only May (t ∷ more') refl cs' m mid u) [
            | inl e ↦ (let f : stands false End t ≡ true = ap (is_fixed End) (sym (ap (λ v. at_head false (head v)) e.2) ∙ at_end) in let g : true ≡ false = sym f ∙ is in cc)
            | inr x ↦ no_longer cs' (head mid) x at_end
          ]

  by_unit : (ts : List Token) (ended : Ended ts) (o : Read Classes) → Law Classes UF ClassesX any 0 ts o → Tells ts (first (and_then o (λ cs. fixed false End)))
  by_unit ts ended (Got cs []) got = absurd (plain_end ended.front ended.at got.front [] ended.end got.plain (sym ended.parts ∙ got.parts) refl)
  by_unit ts ended (Got cs (t ∷ more)) got = end_by ts ended cs t more got (stands false End t) refl
  by_unit ts ended (Bad []) law = absurd (plain_end ended.front ended.at law.front [] ended.end law.plain (sym ended.parts ∙ law.parts) refl)
  by_unit ts ended (Bad (t ∷ more)) law = wrong_at ts (t ∷ more) law.front t more refl law.parts (completed law.front law.before.more law.before.tree law.before.is) no_text
    where
      no_text : (May : Limit) (cs' : Classes) (more' : List Token) (k : ℕ) → text May cs' 0 (law.front ++ t ∷ more') k [] → ⊥
      no_text May cs' more' k h = by (text_end May cs' (law.front ++ t ∷ more') k h)
        where
          by : (m : ℕ) × (mid : List Token) × unit May cs' 0 (law.front ++ t ∷ more') m mid × (at_head false (head mid) ≡ terminal.End) × (length mid ≡ 1) → ⊥
          by (m, mid, u, at_end, one_is) = no_longer cs' (head mid) (law.only May (t ∷ more') refl cs' m mid u) at_end
  by_unit ts ended (Deep rest) law = record {
    fault = record {
      front = law.front;
      at = law.at;
      behind = law.behind;
      here = law.here;
      parts = law.parts;
      before = completed law.front law.before.more law.before.tree law.before.is;
      with_it = λ b. no_text b.more b.parses.parse.0 b.parses.levels (subst (λ (v : List Token). text (within_before (length b.more)) b.parses.parse.0 0 v b.parses.levels []) (regroup law.front law.at b.more) b.parses.parse.1);
    };
    deeper = record {
      more = law.more ++ example false End ∷ [];
      parses = record {
        levels = 0;
        parse = (law.tree, (0, example false End ∷ [], subst (λ (v : List Token). unit any_level law.tree 0 v 0 (example false End ∷ [])) (sym (regroup law.front law.at (law.more ++ example false End ∷ []))) (law.deeper any_level (example false End ∷ []) (λ k r. tt)), (example false End, end_letter, refl, refl)));
      };
    };
  }
    where
      no_text : (more' : List Token) (cs' : Classes) (k : ℕ) → text (within_before (length more')) cs' 0 (law.front ++ law.at ∷ more') k [] → ⊥
      no_text more' cs' k h = by (text_end (within_before (length more')) cs' (law.front ++ law.at ∷ more') k h)
        where
          stops : Stops (length more') (within_before (length more'))
          stops k r few (inl h) = h
          stops k r few (inr h) = absurd (omega arith)

          by : (m : ℕ) × (mid : List Token) × unit (within_before (length more')) cs' 0 (law.front ++ law.at ∷ more') m mid × (at_head false (head mid) ≡ terminal.End) × (length mid ≡ 1) → ⊥
          by (m, mid, u, at_end, one_is) = no_longer cs' (head mid) (law.only (within_before (length more')) more' stops cs' m mid u) at_end

  -- Each text is read as its tree, and other tokens are refused at the first token at fault.
  pub text_told : (ts : List Token) → Ended ts → Tells ts (text_in expression arguments predicate_in 64 ts)
  text_told ts ended = by_unit ts ended (units ts) (unit_law expression arguments predicate_in expression_law arguments_law arguments_sample predicate_law predicate_sample 64 0 refl ts)

  -- The tokens of a text are read as its tree, so they have one alone.
  read_by : (ts : List Token) (cs : Classes) (o : Read Classes) → Law Classes UF ClassesX any 0 ts o → Parse ts cs → first (and_then o (λ cs. fixed false End)) ≡ Got cs []
  read_by ts cs (Got cs0 rest) got parse = by (text_end within cs ts parse.levels parse.parse)
    where
      by : (m : ℕ) × (mid : List Token) × unit within cs 0 ts m mid × (at_head false (head mid) ≡ terminal.End) × (length mid ≡ 1) → first (and_then (Got cs0 rest) (λ cs. fixed false End)) ≡ Got cs []
      by (m, mid, u, at_end, one_is) = elim (got.only within rest refl cs m mid (subst (λ (v : List Token). unit within cs 0 v m mid) got.parts u)) [
        | inl e ↦ ending rest (ap (λ v. at_head false (head v)) (sym e.2) ∙ at_end) (ap length (sym e.2) ∙ one_is) ∙ ap (λ c. Got c []) (sym e.0)
        | inr x ↦ absurd (no_longer cs (head mid) x at_end)
      ]
        where
          ending : (rest : List Token) → at_head false (head rest) ≡ terminal.End → length rest ≡ 1 → first (and_then (Got cs0 rest) (λ cs. fixed false End)) ≡ Got cs0 []
          ending [] at_end one_is = absurd (omega arith)
          ending (t ∷ []) at_end one_is = by_test (stands false End t) (ap (is_fixed End) at_end)
            where
              by_test : (b : Bool) → b ≡ true → first (and_then (Got cs0 (t ∷ [])) (λ c r. elim b as (λ _. Read (Unit {0})) [ true ↦ Got tt [] | false ↦ Bad (t ∷ []) ])) ≡ Got cs0 []
              by_test true e = refl
              by_test false e = absurd (cc)
          ending (t ∷ (u ∷ rest)) at_end one_is = absurd (omega arith)
  read_by ts cs (Bad rest) law parse = by (text_end within cs ts parse.levels parse.parse)
    where
      by : (m : ℕ) × (mid : List Token) × unit within cs 0 ts m mid × (at_head false (head mid) ≡ terminal.End) × (length mid ≡ 1) → Bad rest ≡ Got cs []
      by (m, mid, u, at_end, one_is) = absurd (no_longer cs (head mid) (law.only within rest refl cs m mid (subst (λ (v : List Token). unit within cs 0 v m mid) law.parts u)) at_end)
  read_by ts cs (Deep rest) law parse = by (text_end within cs ts parse.levels parse.parse)
    where
      by : (m : ℕ) × (mid : List Token) × unit within cs 0 ts m mid × (at_head false (head mid) ≡ terminal.End) × (length mid ≡ 1) → Deep rest ≡ Got cs []
      by (m, mid, u, at_end, one_is) =
          absurd (no_longer cs (head mid) (law.only within law.behind (λ k r few h. h) cs m mid (subst (λ (v : List Token). unit within cs 0 v m mid) (law.parts ∙ ap (λ v. law.front ++ v) law.here) u)) at_end)

  pub text_read : (ts : List Token) (cs : Classes) → Parse ts cs → text_in expression arguments predicate_in 64 ts ≡ Got cs []
  text_read ts cs parse = read_by ts cs (units ts) (unit_law expression arguments predicate_in expression_law arguments_law arguments_sample predicate_law predicate_sample 64 0 refl ts) parse
