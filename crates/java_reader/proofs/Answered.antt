-- From what reading gives to what a text answers.
use Rattle.std.proofs.Common.{◌≡◌, ℕ, List, Option, Some, None, MatchOption, refl, sym, ap, ◌∙◌, subst, inl, inr, Bor}
use Rattle.std.specs.Prelude.{Result, Ok, Err}
use Rattle.java_lex.specs.declared.token.Token.{Token}
use Rattle.java_lex.specs.declared.spelling.Absent.{Absent}
use Rattle.java_lex.specs.declared.fault.LexFault.{LexFault}
use Rattle.java_lex.specs.declared.fault.LexFault.TheVariants.{BadToken as Unlexed, NoMemory as OutOfMemory}
use Rattle.java_lex.specs.Cut.{Cut, BadAt}
use Rattle.java_lex.specs.Steps.{BlamesText}
use Rattle.java_lex.proofs.OneCut.{cut_one, cut_or_bad, bad_one}
use Rattle.java_tree.specs.declared.members.Tree.{Tree}
use Rattle.java_tree.specs.Seen.{classes_tree}
use Rattle.java_tree.specs.Reading.{some_text, FirstWrong, FirstDeep, absent}
use Rattle.java_tree.specs.Trees.{Classes}
use Rattle.reading_core.specs.declared.stop.Stop.{Stop}
use Rattle.reading_core.specs.declared.stop.Stop.TheVariants.{Wrong, Deep as DeepStop}
use Rattle.reading_core.specs.Gives.{Gives}
use Rattle.reading_core.specs.Read.{Read, Got, Bad, Deep}
use Rattle.text_reading.specs.Readers.{text_at}
use Rattle.text_reading.specs.Verdicts.{Verdict, Text, WrongFrom, DeepFrom, Holds, told}
use Rattle.text_reading.proofs.TextLaw.{cut_ended, got_text, bad_wrong, deep_deep, tells}
use Rattle.java_reader.specs.declared.fault.SourceFault.{SourceFault}
use Rattle.java_reader.specs.declared.fault.SourceFault.TheVariants.{BadToken, Syntax, Unsupported, Deep as DeepFault, NoMemory}
use Rattle.java_reader.specs.Source.{of_lexer, Answers, DeepOf, Fails, Is, WrongOf}

pub gives_bad : (o : Read Classes) (stop : Stop) (rest : Bor (List Token)) → stop ≡ Wrong rest → Gives {T = Tree} classes_tree (Err stop) o → o ≡ Bad rest.now
gives_bad o stop rest is gives = subst (λ (s : Stop). Gives {T = Tree} classes_tree (Err s) o) is gives

pub gives_deep : (o : Read Classes) (stop : Stop) (rest : Bor (List Token)) → stop ≡ DeepStop rest → Gives {T = Tree} classes_tree (Err stop) o → o ≡ Deep rest.now
gives_deep o stop rest is gives = subst (λ (s : Stop). Gives {T = Tree} classes_tree (Err s) o) is gives

-- THE BYTES ARE NOT CUT

pub lexer_answers : (text : List ℕ) (lexed : LexFault) (fault : SourceFault) → fault ≡ of_lexer lexed → BlamesText text lexed → Answers text (Err fault)
lexer_answers text (Unlexed at) fault is bad = subst (λ f. Answers text (Err f)) (sym is) bad
lexer_answers text OutOfMemory fault is bad = subst (λ f. Answers text (Err f)) (sym is) (tt {0})

pub lexer_is : (text : List ℕ) (lexed : LexFault) (fault : SourceFault) → fault ≡ of_lexer lexed → BlamesText text lexed → (ts : List Token) (v : Verdict) → Cut text ts → Holds ts v → Is (Err fault) v
lexer_is text (Unlexed at) fault is bad ts v cut holds = absurd (cut_or_bad text ts at cut bad)
lexer_is text OutOfMemory fault is bad ts (Text cs) cut holds = is
lexer_is text OutOfMemory fault is bad ts (WrongFrom rest) cut holds = inl is
lexer_is text OutOfMemory fault is bad ts (DeepFrom rest) cut holds = inl is

pub lexer_fails : (text : List ℕ) (lexed : LexFault) (fault : SourceFault) → fault ≡ of_lexer lexed → BlamesText text lexed → (at : ℕ) → BadAt text at → Fails (Err fault) (BadToken at)
lexer_fails text (Unlexed place) fault is bad at here = inl (ap (λ f. Err f) (is ∙ ap BadToken (bad_one text place at bad here)))
lexer_fails text OutOfMemory fault is bad at here = inr (ap (λ f. Err f) is)

-- THE BYTES ARE CUT

module _ (text : List ℕ) (ts : List Token) (cut : Cut text ts) where
  pub cut_fails : (result : Result Tree SourceFault) (at : ℕ) → BadAt text at → Fails result (BadToken at)
  cut_fails result at bad = absurd (cut_or_bad text ts at cut bad)

  pub read_answers : (tree : Tree) (rest : List Token) → text_at ts ≡ Got (classes_tree tree) rest → Answers text (Ok tree)
  read_answers tree rest is = record { tokens = ts; cut = cut; parse = (got_text ts (cut_ended text ts cut) (classes_tree tree) rest is).1 }

  wrong_by : (rest : List Token) (wrong : FirstWrong some_text ts rest) (fault : SourceFault) (o : Option Absent) → absent wrong.fault.at ≡ o → MatchOption o (fault ≡ Syntax wrong.fault.at.from) (λ part. fault ≡ Unsupported part wrong.fault.at.from)
      → Answers text (Err fault)
  wrong_by rest wrong fault None kind is = subst (λ f. Answers text (Err f)) (sym is) (record { tokens = ts; cut = cut; rest = rest; wrong = wrong; place = refl; kind = kind })
  wrong_by rest wrong fault (Some part) kind is = subst (λ f. Answers text (Err f)) (sym is) (record { tokens = ts; cut = cut; rest = rest; wrong = wrong; place = refl; kind = kind })

  pub wrong_answers : (rest : List Token) (fault : SourceFault) → text_at ts ≡ Bad rest → WrongOf rest fault → Answers text (Err fault)
  wrong_answers rest fault is of =
      let wrong : FirstWrong some_text ts rest = bad_wrong ts (cut_ended text ts cut) rest is in
      wrong_by rest wrong fault (absent wrong.fault.at) refl (subst (λ (r : List Token). WrongOf r fault) wrong.fault.here of)

  pub deep_answers : (rest : List Token) (fault : SourceFault) → text_at ts ≡ Deep rest → DeepOf rest fault → Answers text (Err fault)
  deep_answers rest fault is of =
      let deep : FirstDeep some_text ts rest = deep_deep ts (cut_ended text ts cut) rest is in
      let same : fault ≡ DeepFault deep.fault.at.from = subst (λ (r : List Token). DeepOf r fault) deep.fault.here of in
      subst (λ f. Answers text (Err f)) (sym same) (record { tokens = ts; cut = cut; rest = rest; deep = deep; place = refl })

  -- the verdict that holds of the tokens is what reading gives
  read_told : (us : List Token) (v : Verdict) → Cut text us → Holds us v → text_at ts ≡ told v
  read_told us v other holds = (tells ts (cut_ended text ts cut) v).gives (subst (λ (w : List Token). Holds w v) (cut_one text us ts other cut) holds)

  pub read_is : (tree : Tree) (rest : List Token) → text_at ts ≡ Got (classes_tree tree) rest → (us : List Token) (v : Verdict) → Cut text us → Holds us v → Is (Ok tree) v
  read_is tree rest is us v other holds = by v (sym is ∙ read_told us v other holds)
    where
      by : (v : Verdict) → Got (classes_tree tree) rest ≡ told v → Is (Ok tree) v
      by (Text cs) same = cc
      by (WrongFrom r) same = absurd (cc)
      by (DeepFrom r) same = absurd (cc)

  pub wrong_is : (rest : List Token) (fault : SourceFault) → text_at ts ≡ Bad rest → WrongOf rest fault → (us : List Token) (v : Verdict) → Cut text us → Holds us v → Is (Err fault) v
  wrong_is rest fault is of us v other holds = by v (sym is ∙ read_told us v other holds)
    where
      by : (v : Verdict) → Bad rest ≡ told v → Is (Err fault) v
      by (Text cs) same = absurd (cc)
      by (WrongFrom r) same = let here : rest ≡ r = cc in inr (subst (λ (w : List Token). WrongOf w fault) here of)
      by (DeepFrom r) same = absurd (cc)

  pub deep_is : (rest : List Token) (fault : SourceFault) → text_at ts ≡ Deep rest → DeepOf rest fault → (us : List Token) (v : Verdict) → Cut text us → Holds us v → Is (Err fault) v
  deep_is rest fault is of us v other holds = by v (sym is ∙ read_told us v other holds)
    where
      by : (v : Verdict) → Deep rest ≡ told v → Is (Err fault) v
      by (Text cs) same = absurd (cc)
      by (WrongFrom r) same = absurd (cc)
      by (DeepFrom r) same = let here : rest ≡ r = cc in inr (subst (λ (w : List Token). DeepOf w fault) here of)

pub memory_is : (v : Verdict) → Is (Err NoMemory) v
memory_is (Text cs) = refl
memory_is (WrongFrom r) = inl refl
memory_is (DeepFrom r) = inl refl
