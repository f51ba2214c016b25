-- Bytes have one unit at most, or one first fault.
use Rattle.std.proofs.Common.{◌≡◌, ℕ, List, [], ◌∷◌, Option, Some, None, refl, sym, ◌∙◌, ap, subst}
use Rattle.std.specs.Prelude.{slice_get}
use Rattle.java_lex.specs.declared.spelling.Absent.{Absent}
use Rattle.java_lex.specs.declared.token.Token.{Token}
use Rattle.java_lex.specs.Cut.{Cut, BadAt}
use Rattle.java_lex.proofs.OneCut.{cut_one, cut_or_bad, bad_one}
use Rattle.java_tree.specs.Trees.{Classes}
use Rattle.java_tree.specs.Reading.{some_text, Parse, FirstWrong, FirstDeep, absent}
use Rattle.text_reading.specs.Verdicts.{Verdict as TokenVerdict, Text, WrongFrom, DeepFrom, Holds as HoldsOf}
use Rattle.text_reading.proofs.TextLaw.{cut_ended, judged}
use Rattle.java_reader.specs.Source.{IsText, IsWrongAt, IsDeepAt}
use Rattle.taco_unit.specs.Parts.{Parts}
use Rattle.declared_names.specs.declared.fault.Fault.{Fault}
use Rattle.declared_names.specs.Faults.{soonest}
use Rattle.declared_names.specs.Seen.{Seen, Stands, faults}
use Rattle.typed_core.specs.declared.fault.NameFault.{NameFault}
use Rattle.typed_core.specs.declared.fault.NameFault.TheVariants as name
use Rattle.typed_core.specs.Members.{resolved}
use Rattle.typed_core.specs.Resolved.{name_fault, Reports}
use Rattle.refusals.specs.declared.refusal.Refusal.{Refusal}
use Rattle.refusals.specs.declared.refusal.Refusal.TheVariants.{BadToken, Syntax, Unsupported, Deep, Unknown, Twice, Kinds, TooMany}
use Rattle.source_units.specs.Reading.{Reads, IsMisnamed, Faulty}
use Rattle.source_units.specs.Told.{Verdict, Unit_, Fault_, Holds}

-- TOKENS

one_verdict : (bytes : List ℕ) (ts : List Token) (v w : TokenVerdict) → Cut bytes ts → HoldsOf ts v → HoldsOf ts w → v ≡ w
one_verdict bytes ts v w cut x y = let j = judged ts (cut_ended bytes ts cut) in j.only v x ∙ sym (j.only w y)

-- of two lists of tokens that the bytes are cut into
same_tokens : (bytes : List ℕ) (ts us : List Token) (v w : TokenVerdict) → Cut bytes ts → Cut bytes us → HoldsOf ts v → HoldsOf us w → v ≡ w
same_tokens bytes ts us v w cut cut' x y = one_verdict bytes ts v w cut x (subst (λ (ts : List Token). HoldsOf ts w) (sym (cut_one bytes ts us cut cut')) y)

text_one : (bytes : List ℕ) (a b : Classes) → IsText bytes a → IsText bytes b → a ≡ b
text_one bytes a b x y = let same : Text a ≡ Text b = same_tokens bytes x.tokens y.tokens (Text a) (Text b) x.cut y.cut x.parse y.parse in cc

-- WHAT IS BLAMED

data Blame : Type 0 where
  Lexed : ℕ → Blame
  Wronged : ℕ → Option Absent → Blame
  Deepened : ℕ → Blame
  Misnamed : NameFault → Blame

abbrev blame_of : Refusal → Blame
blame_of (BadToken at) = Lexed at
blame_of (Syntax at) = Wronged at None
blame_of (Unsupported part at) = Wronged at (Some part)
blame_of (Deep at) = Deepened at
blame_of (Unknown at) = Misnamed (name.Unknown at)
blame_of (Twice at) = Misnamed (name.Twice at)
blame_of (Kinds at) = Misnamed (name.Kinds at)
blame_of (TooMany many at) = Misnamed (name.TooMany many at)

abbrev wronged : ℕ → Option Absent → Refusal
wronged at None = Syntax at
wronged at (Some part) = Unsupported part at

abbrev misnamed : NameFault → Refusal
misnamed (name.Unknown at) = Unknown at
misnamed (name.Twice at) = Twice at
misnamed (name.Kinds at) = Kinds at
misnamed (name.TooMany many at) = TooMany many at
misnamed name.NoMemory = BadToken 0

abbrev refusal_of : Blame → Refusal
refusal_of (Lexed at) = BadToken at
refusal_of (Wronged at part) = wronged at part
refusal_of (Deepened at) = Deep at
refusal_of (Misnamed fault) = misnamed fault

refusal_again : (r : Refusal) → refusal_of (blame_of r) ≡ r
refusal_again (BadToken at) = refl
refusal_again (Syntax at) = refl
refusal_again (Unsupported part at) = refl
refusal_again (Deep at) = refl
refusal_again (Unknown at) = refl
refusal_again (Twice at) = refl
refusal_again (Kinds at) = refl
refusal_again (TooMany many at) = refl

abbrev Blamed : List ℕ → Blame → Type 0
Blamed bytes (Lexed at) = BadAt bytes at
Blamed bytes (Wronged at part) = IsWrongAt bytes at part
Blamed bytes (Deepened at) = IsDeepAt bytes at
Blamed bytes (Misnamed fault) = IsMisnamed bytes fault

blamed : (bytes : List ℕ) (r : Refusal) → Faulty bytes r → Blamed bytes (blame_of r)
blamed bytes (BadToken at) x = x
blamed bytes (Syntax at) x = x
blamed bytes (Unsupported part at) x = x
blamed bytes (Deep at) x = x
blamed bytes (Unknown at) x = x
blamed bytes (Twice at) x = x
blamed bytes (Kinds at) x = x
blamed bytes (TooMany many at) x = x

-- ONE BLAME

head_same : (ts us : List Token) (a b : Token) (as_ bs : List Token) → ts ≡ us → ts ≡ a ∷ as_ → us ≡ b ∷ bs → a ≡ b
head_same ts us a b as_ bs same x y = cc

wrong_one : (bytes : List ℕ) (at at' : ℕ) (part part' : Option Absent) → IsWrongAt bytes at part → IsWrongAt bytes at' part' → Wronged at part ≡ Wronged at' part'
wrong_one bytes at at' part part' x y =
    let verdicts : WrongFrom x.rest ≡ WrongFrom y.rest = same_tokens bytes x.tokens y.tokens (WrongFrom x.rest) (WrongFrom y.rest) x.cut y.cut x.wrong y.wrong in
    let rests : x.rest ≡ y.rest = cc in
    let tokens : x.wrong.fault.at ≡ y.wrong.fault.at = head_same x.rest y.rest x.wrong.fault.at y.wrong.fault.at x.wrong.fault.behind y.wrong.fault.behind rests x.wrong.fault.here y.wrong.fault.here in
    let places : at ≡ at' = sym x.place ∙ ap (λ (t : Token). t.from) tokens ∙ y.place in
    let kinds : part ≡ part' = sym x.kind ∙ ap absent tokens ∙ y.kind in
    ap (λ n. Wronged n part) places ∙ ap (λ p. Wronged at' p) kinds

deep_one : (bytes : List ℕ) (at at' : ℕ) → IsDeepAt bytes at → IsDeepAt bytes at' → at ≡ at'
deep_one bytes at at' x y =
    let verdicts : DeepFrom x.rest ≡ DeepFrom y.rest = same_tokens bytes x.tokens y.tokens (DeepFrom x.rest) (DeepFrom y.rest) x.cut y.cut x.deep y.deep in
    let rests : x.rest ≡ y.rest = cc in
    let tokens : x.deep.fault.at ≡ y.deep.fault.at = head_same x.rest y.rest x.deep.fault.at y.deep.fault.at x.deep.fault.behind y.deep.fault.behind rests x.deep.fault.here y.deep.fault.here in
    sym x.place ∙ ap (λ (t : Token). t.from) tokens ∙ y.place

reports_one : (s : Seen Parts) (f g : NameFault) → Reports s f → Reports s g → f ≡ g
reports_one s f g x y =
    let both : Some x.fault ≡ Some y.fault = sym x.reported.first ∙ y.reported.first in
    let same : x.fault ≡ y.fault = cc in
    x.is ∙ ap name_fault same ∙ sym y.is

misnamed_one : (bytes : List ℕ) (f g : NameFault) → IsMisnamed bytes f → IsMisnamed bytes g → f ≡ g
misnamed_one bytes f g x y = reports_one (resolved x.classes) f g x.reports (subst (λ (cs : Classes). Reports (resolved cs) g) (sym (text_one bytes x.classes y.classes x.text y.text)) y.reports)

wrong_text : (bytes : List ℕ) (cs : Classes) (at : ℕ) (part : Option Absent) → IsText bytes cs → IsWrongAt bytes at part → ⊥
wrong_text bytes cs at part x y = let no : Text cs ≡ WrongFrom y.rest = same_tokens bytes x.tokens y.tokens (Text cs) (WrongFrom y.rest) x.cut y.cut x.parse y.wrong in cc

deep_text : (bytes : List ℕ) (cs : Classes) (at : ℕ) → IsText bytes cs → IsDeepAt bytes at → ⊥
deep_text bytes cs at x y = let no : Text cs ≡ DeepFrom y.rest = same_tokens bytes x.tokens y.tokens (Text cs) (DeepFrom y.rest) x.cut y.cut x.parse y.deep in cc

deep_wrong : (bytes : List ℕ) (at at' : ℕ) (part : Option Absent) → IsWrongAt bytes at part → IsDeepAt bytes at' → ⊥
deep_wrong bytes at at' part x y = let no : WrongFrom x.rest ≡ DeepFrom y.rest = same_tokens bytes x.tokens y.tokens (WrongFrom x.rest) (DeepFrom y.rest) x.cut y.cut x.wrong y.deep in cc

one_blame : (bytes : List ℕ) (a b : Blame) → Blamed bytes a → Blamed bytes b → a ≡ b
one_blame bytes (Lexed at) (Lexed at') x y = ap Lexed (bad_one bytes at at' x y)
one_blame bytes (Lexed at) (Wronged at' part) x y = absurd (cut_or_bad bytes y.tokens at y.cut x)
one_blame bytes (Lexed at) (Deepened at') x y = absurd (cut_or_bad bytes y.tokens at y.cut x)
one_blame bytes (Lexed at) (Misnamed f) x y = absurd (cut_or_bad bytes y.text.tokens at y.text.cut x)
one_blame bytes (Wronged at part) (Lexed at') x y = absurd (cut_or_bad bytes x.tokens at' x.cut y)
one_blame bytes (Wronged at part) (Wronged at' part') x y = wrong_one bytes at at' part part' x y
one_blame bytes (Wronged at part) (Deepened at') x y = absurd (deep_wrong bytes at at' part x y)
one_blame bytes (Wronged at part) (Misnamed f) x y = absurd (wrong_text bytes y.classes at part y.text x)
one_blame bytes (Deepened at) (Lexed at') x y = absurd (cut_or_bad bytes x.tokens at' x.cut y)
one_blame bytes (Deepened at) (Wronged at' part) x y = absurd (deep_wrong bytes at' at part y x)
one_blame bytes (Deepened at) (Deepened at') x y = ap Deepened (deep_one bytes at at' x y)
one_blame bytes (Deepened at) (Misnamed f) x y = absurd (deep_text bytes y.classes at y.text x)
one_blame bytes (Misnamed f) (Lexed at') x y = absurd (cut_or_bad bytes x.text.tokens at' x.text.cut y)
one_blame bytes (Misnamed f) (Wronged at' part) x y = absurd (wrong_text bytes x.classes at' part x.text y)
one_blame bytes (Misnamed f) (Deepened at') x y = absurd (deep_text bytes x.classes at' x.text y)
one_blame bytes (Misnamed f) (Misnamed g) x y = ap Misnamed (misnamed_one bytes f g x y)

-- THE LAW

unit_one : (bytes : List ℕ) (u v : Parts) → Reads bytes u → Reads bytes v → u ≡ v
unit_one bytes u v x y =
    let both : Stands u ≡ Stands v = sym x.stands ∙ ap resolved (text_one bytes x.classes y.classes x.text y.text) ∙ y.stands in
    cc

no_fault : (s : Seen Parts) (u : Parts) (f : NameFault) → s ≡ Stands u → Reports s f → ⊥
unfolding soonest
no_fault s u f is x = let none : Reports (Stands u) f = subst (λ (t : Seen Parts). Reports t f) is x in empty none
  where
    empty : Reports (Stands u) f → ⊥
    empty r = let no : None ≡ Some r.fault = r.reported.first in cc

unit_or_blame : (bytes : List ℕ) (u : Parts) (b : Blame) → Reads bytes u → Blamed bytes b → ⊥
unit_or_blame bytes u (Lexed at) x y = cut_or_bad bytes x.text.tokens at x.text.cut y
unit_or_blame bytes u (Wronged at part) x y = wrong_text bytes x.classes at part x.text y
unit_or_blame bytes u (Deepened at) x y = deep_text bytes x.classes at x.text y
unit_or_blame bytes u (Misnamed f) x y = no_fault (resolved x.classes) u f x.stands (subst (λ (cs : Classes). Reports (resolved cs) f) (sym (text_one bytes x.classes y.classes x.text y.text)) y.reports)

pub one : (bytes : List ℕ) (a b : Verdict) → Holds bytes a → Holds bytes b → a ≡ b
one bytes (Unit_ u) (Unit_ v) x y = ap Unit_ (unit_one bytes u v x y)
one bytes (Unit_ u) (Fault_ r) x y = absurd (unit_or_blame bytes u (blame_of r) x (blamed bytes r y))
one bytes (Fault_ r) (Unit_ u) x y = absurd (unit_or_blame bytes u (blame_of r) y (blamed bytes r x))
one bytes (Fault_ r) (Fault_ q) x y =
    ap Fault_ (sym (refusal_again r) ∙ ap refusal_of (one_blame bytes (blame_of r) (blame_of q) (blamed bytes r x) (blamed bytes q y)) ∙ refusal_again q)
