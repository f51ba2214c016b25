-- Reading a text tells the one verdict that holds of its tokens.
use Rattle.std.proofs.Common.{◌≡◌, ℕ, true, false, List, [], ◌∷◌, length, refl, sym, ◌∙◌, ap, subst, codes}
use Rattle.std.proofs.lemmas.List.Elements.{All-nil, All-cons, All-head, All-tail}
use Rattle.std.specs.Prelude.{All}
use Rattle.java_lex.specs.declared.token.Token.{Token}
use Rattle.java_lex.specs.Cut.{Cut, end_at}
use Rattle.java_lex.proofs.EndLemmas.{cut_endless, Endless}
use Rattle.java_tree.specs.Trees.{Expr, Classes, named}
use Rattle.java_tree.specs.Phrases.{ident_of}
use Rattle.java_tree.specs.Reading.{some_text, Parse, FirstWrong, FirstDeep}
use Rattle.java_tree.proofs.Fronts.{some_text_grows, fault_none, fault_one, deep_or_wrong}
use Rattle.reading_core.specs.Read.{Read, Got, Bad, Deep}
use Rattle.java_reading.proofs.Law.{Plain, Sample}
use Rattle.java_reading.proofs.PartLaws.{PF}
use Rattle.java_reading.proofs.TokenLaws.{word_at}
use Rattle.java_reading.proofs.TextExact.{Ended as LastEnded, Tells as TellsText, text_told, text_read}
use Rattle.text_reading.specs.Readers.{expression_at, predicate_at, arguments_at, text_at}
use Rattle.text_reading.specs.Verdicts.{GoesOn, Ended, Verdict, Text, WrongFrom, DeepFrom, Holds, Judged, told, Tells}
use Rattle.text_reading.proofs.ExpressionLaw.{expression_exact}
use Rattle.text_reading.proofs.ArgumentsLaw.{arguments_exact, arguments_sample}

-- a name is an expression of a clause
pub predicate_sample : (l : ℕ) → Sample Expr PF l
predicate_sample l = record {
  tokens = word_at true (codes "a") ∷ [];
  tree = named 0 (ident_of (word_at true (codes "a")));
  is = λ May c frees. (l, (refl, (word_at true (codes "a"), (refl, refl), refl, refl)), refl);
}

-- THE END OF A TEXT

plain_of : (ts : List Token) → All GoesOn ts → Plain ts
plain_of [] all = tt {0}
plain_of (t ∷ ts) all = (All-head GoesOn t ts all, plain_of ts (All-tail GoesOn t ts all))

last_of : (ts : List Token) → Ended ts → LastEnded ts
last_of ts ended = record { front = ended.before; at = ended.end; parts = ended.parts; end = ended.is_end; plain = plain_of ended.before ended.goes_on }

all_of : (ts : List Token) → Endless ts → All GoesOn ts
all_of [] endless = All-nil GoesOn
all_of (t ∷ ts) endless = All-cons GoesOn t ts endless.0 (all_of ts endless.1)

-- the tokens that a text is cut into end with its end, and have it nowhere else
pub cut_ended : (text : List ℕ) (ts : List Token) → Cut text ts → Ended ts
cut_ended text ts cut = record { before = cut.before; end = end_at (length text); parts = cut.whole; is_end = refl; goes_on = all_of cut.before (cut_endless text ts cut) }

-- ONE VERDICT

-- a text is read as its tree
pub read_text : (ts : List Token) (classes : Classes) → Parse ts classes → text_at ts ≡ Got classes []
read_text ts classes parse =
    text_read expression_at arguments_at predicate_at (λ left l. expression_exact false left l) arguments_exact arguments_sample (λ left l. expression_exact true left l) predicate_sample ts classes parse

one_text : (ts : List Token) (a b : Classes) → Parse ts a → Parse ts b → a ≡ b
one_text ts a b x y = let same : Got a [] ≡ Got b [] = sym (read_text ts a x) ∙ read_text ts b y in cc

one_verdict : (ts : List Token) (v w : Verdict) → Holds ts v → Holds ts w → w ≡ v
one_verdict ts (Text a) (Text b) x y = ap Text (one_text ts b a y x)
one_verdict ts (Text a) (WrongFrom rest) x y = absurd (none ts a rest x y)
  where
    none : (ts : List Token) (a : Classes) (rest : List Token) → Parse ts a → FirstWrong some_text ts rest → ⊥
    none ts a rest parse wrong = fault_none some_text some_text_grows ts rest (record { levels = parse.levels; parse = (a, parse.parse) }) wrong.fault
one_verdict ts (Text a) (DeepFrom rest) x y = absurd (none ts a rest x y)
  where
    none : (ts : List Token) (a : Classes) (rest : List Token) → Parse ts a → FirstDeep some_text ts rest → ⊥
    none ts a rest parse deep = fault_none some_text some_text_grows ts rest (record { levels = parse.levels; parse = (a, parse.parse) }) deep.fault
one_verdict ts (WrongFrom rest) (Text a) x y = absurd (fault_none some_text some_text_grows ts rest (record { levels = y.levels; parse = (a, y.parse) }) x.fault)
one_verdict ts (WrongFrom rest) (WrongFrom other) x y = ap WrongFrom (fault_one some_text some_text_grows ts other rest y.fault x.fault)
one_verdict ts (WrongFrom rest) (DeepFrom other) x y = absurd (deep_or_wrong some_text some_text_grows ts other rest y x)
one_verdict ts (DeepFrom rest) (Text a) x y = absurd (fault_none some_text some_text_grows ts rest (record { levels = y.levels; parse = (a, y.parse) }) x.fault)
one_verdict ts (DeepFrom rest) (WrongFrom other) x y = absurd (deep_or_wrong some_text some_text_grows ts rest other x y)
one_verdict ts (DeepFrom rest) (DeepFrom other) x y = ap DeepFrom (fault_one some_text some_text_grows ts other rest y.fault x.fault)

-- WHAT READING TELLS

abbrev TellsThis : List Token → Read Classes → Type 0
TellsThis ts o = TellsText expression_at arguments_at predicate_at (λ left l. expression_exact false left l) arguments_exact arguments_sample (λ left l. expression_exact true left l) predicate_sample ts o

tells_this : (ts : List Token) → Ended ts → (o : Read Classes) → text_at ts ≡ o → TellsThis ts o
tells_this ts ended o is =
    subst (TellsThis ts) is
    (text_told expression_at arguments_at predicate_at (λ left l. expression_exact false left l) arguments_exact arguments_sample (λ left l. expression_exact true left l) predicate_sample ts (last_of ts ended))

-- a tree is that of all tokens
pub got_text : (ts : List Token) → Ended ts → (classes : Classes) (rest : List Token) → text_at ts ≡ Got classes rest → (rest ≡ []) × Parse ts classes
got_text ts ended classes rest is = tells_this ts ended (Got classes rest) is

-- a fault is the first
pub bad_wrong : (ts : List Token) → Ended ts → (rest : List Token) → text_at ts ≡ Bad rest → FirstWrong some_text ts rest
bad_wrong ts ended rest is = tells_this ts ended (Bad rest) is

pub deep_deep : (ts : List Token) → Ended ts → (rest : List Token) → text_at ts ≡ Deep rest → FirstDeep some_text ts rest
deep_deep ts ended rest is = tells_this ts ended (Deep rest) is

record Found (ts : List Token) : Type 0 where
  verdict : Verdict
  holds : Holds ts verdict
  read : text_at ts ≡ told verdict

found : (ts : List Token) → Ended ts → Found ts
found ts ended = by (text_at ts) refl
  where
    by : (o : Read Classes) → text_at ts ≡ o → Found ts
    by (Got classes rest) is = let tells_ = got_text ts ended classes rest is in record { verdict = Text classes; holds = tells_.1; read = is ∙ ap (λ r. Got classes r) tells_.0 }
    by (Bad rest) is = record { verdict = WrongFrom rest; holds = bad_wrong ts ended rest is; read = is }
    by (Deep rest) is = record { verdict = DeepFrom rest; holds = deep_deep ts ended rest is; read = is }

pub judged : (ts : List Token) → Ended ts → Judged ts
judged ts ended = let f = found ts ended in record { verdict = f.verdict; holds = f.holds; only = λ other holds. one_verdict ts f.verdict other f.holds holds }

pub tells : (ts : List Token) → Ended ts → (verdict : Verdict) → Tells ts (text_at ts) verdict
tells ts ended verdict =
    let f = found ts ended in
    record {
      gives = λ holds. f.read ∙ ap told (sym (one_verdict ts f.verdict verdict f.holds holds));
      holds = λ read. subst (Holds ts) (told_one f.verdict verdict (sym f.read ∙ read)) f.holds;
    }
  where
    told_one : (v w : Verdict) → told v ≡ told w → v ≡ w
    told_one (Text a) (Text b) is = ap Text (cc)
    told_one (Text a) (WrongFrom s) is = absurd (cc)
    told_one (Text a) (DeepFrom s) is = absurd (cc)
    told_one (WrongFrom r) (Text b) is = absurd (cc)
    told_one (WrongFrom r) (WrongFrom s) is = ap WrongFrom (cc)
    told_one (WrongFrom r) (DeepFrom s) is = absurd (cc)
    told_one (DeepFrom r) (Text b) is = absurd (cc)
    told_one (DeepFrom r) (WrongFrom s) is = absurd (cc)
    told_one (DeepFrom r) (DeepFrom s) is = ap DeepFrom (cc)
