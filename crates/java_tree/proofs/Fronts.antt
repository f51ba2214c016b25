-- What begins a phrase: fronts of it, and of what begins one. A list of tokens has one first fault at most, and
-- none where it is such a phrase.
use Rattle.std.proofs.Common.{◌≡◌, ℕ, List, [], ◌∷◌, ◌++◌, length, refl, sym, ap, subst, ◌∙◌, inl, inr, arith, append_assoc, length-append}
use Rattle.java_lex.specs.declared.token.Token.{Token}
use Rattle.java_tree.specs.Phrases.{Limit}
use Rattle.java_tree.specs.Reading.{Limited, some_text, some_predicate, Parses, within, any_level, within_before, Begins, BeginsWithin, FirstFault, FirstDeep, FirstWrong}
use Rattle.java_tree.proofs.Limits.{Sub, text_sub, predicate_sub}

-- a wider limit leaves each phrase one
abbrev pub Grows : Limited → Type 1
Grows p = (May May' : Limit) → ((k : ℕ) (ts : List Token) → May k ts → May' k ts) → Sub (p May) (p May')

pub some_text_grows : Grows some_text
some_text_grows May May' wider l ts k rest (cs, h) = (cs, text_sub May May' wider cs l ts k rest h)

pub some_predicate_grows : Grows some_predicate
some_predicate_grows May May' wider l ts k rest (e, h) = (e, predicate_sub May May' wider e l ts k rest h)

pub parses_more : (p : Limited) → Grows p → (May May' : Limit) → ((k : ℕ) (ts : List Token) → May k ts → May' k ts) → (ts : List Token) → Parses (p May) ts → Parses (p May') ts
parses_more p grows May May' wider ts parses = record { levels = parses.levels; parse = grows May May' wider 0 ts parses.levels [] parses.parse }

-- what is such a phrase within the levels begins one, and so does each front of it
pub front_begins : (p : Limited) → Grows p → (front more : List Token) → Parses (p within) (front ++ more) → BeginsWithin p front
front_begins p grows front more parses = record { more = more; parses = parses_more p grows within (within_before (length more)) (λ k ts below. inl below) (front ++ more) parses }

-- each front of what begins such a phrase begins one
pub begins_front : (p : Limited) → Grows p → (front more : List Token) → BeginsWithin p (front ++ more) → BeginsWithin p front
begins_front p grows front more begins = record {
  more = more ++ begins.more;
  parses = subst (λ (ts : List Token). Parses (p (within_before (length (more ++ begins.more)))) ts) append_assoc_of
      (parses_more p grows (within_before (length begins.more)) (within_before (length (more ++ begins.more))) widens ((front ++ more) ++ begins.more) begins.parses);
}
  where
    append_assoc_of : (front ++ more) ++ begins.more ≡ front ++ (more ++ begins.more)
    append_assoc_of = append_assoc front more begins.more

    widens : (k : ℕ) (ts : List Token) → within_before (length begins.more) k ts → within_before (length (more ++ begins.more)) k ts
    widens k ts (inl below) = inl below
    widens k ts (inr last) = inr (omega (arith, length-append more begins.more))

-- what begins such a phrase within the levels begins one
pub begins_whatever : (p : Limited) → Grows p → (ts : List Token) → BeginsWithin p ts → Begins p ts
begins_whatever p grows ts begins = record { more = begins.more; parses = parses_more p grows (within_before (length begins.more)) any_level (λ k us may. tt) (ts ++ begins.more) begins.parses }

-- Two fronts of one list: the same, or one goes on where the other ends.
pub data Meet (a b xs ys : List Token) : Type 0 where
  equal : a ≡ b → xs ≡ ys → Meet a b xs ys
  behind : (t : Token) (more : List Token) → b ≡ a ++ t ∷ more → xs ≡ t ∷ (more ++ ys) → Meet a b xs ys
  before : (t : Token) (more : List Token) → a ≡ b ++ t ∷ more → ys ≡ t ∷ (more ++ xs) → Meet a b xs ys

longer : (t u : Token) (a b xs ys : List Token) → t ≡ u → Meet a b xs ys → Meet (t ∷ a) (u ∷ b) xs ys
longer t u a b xs ys same (equal x y) = equal (cc) y
longer t u a b xs ys same (behind v more x y) = behind v more (cc) y
longer t u a b xs ys same (before v more x y) = before v more (cc) y

heads : (t u : Token) (ts us : List Token) → t ∷ ts ≡ u ∷ us → t ≡ u
heads t u ts us is = cc

tails : (t u : Token) (ts us : List Token) → t ∷ ts ≡ u ∷ us → ts ≡ us
tails t u ts us is = cc

-- two ways to part one list
pub meet : (a b xs ys : List Token) → a ++ xs ≡ b ++ ys → Meet a b xs ys
meet [] [] xs ys is = equal refl is
meet [] (t ∷ b) xs ys is = behind t b refl is
meet (t ∷ a) [] xs ys is = before t a refl (sym is)
meet (t ∷ a) (u ∷ b) xs ys is = longer t u a b xs ys (heads t u (a ++ xs) (b ++ ys) is) (meet a b xs ys (tails t u (a ++ xs) (b ++ ys) is))

regroup : (front : List Token) (t : Token) (more : List Token) → front ++ t ∷ more ≡ (front ++ t ∷ []) ++ more
regroup front t more = sym (append_assoc front (t ∷ []) more)

-- a list of tokens has one first fault at most
pub fault_one : (p : Limited) → Grows p → (ts rest other : List Token) → FirstFault p ts rest → FirstFault p ts other → rest ≡ other
fault_one p grows ts rest other a b = at_meet (meet a.front b.front rest other (sym a.parts ∙ b.parts))
  where
    at_meet : Meet a.front b.front rest other → rest ≡ other
    at_meet (equal x y) = y
    at_meet (behind t more x y) =
        absurd (a.with_it (begins_front p grows (a.front ++ a.at ∷ []) more
        (subst (BeginsWithin p) (x ∙ ap (λ h. a.front ++ h ∷ more) (heads t a.at (more ++ other) a.behind (sym y ∙ a.here)) ∙ regroup a.front a.at more) b.before)))
    at_meet (before t more x y) =
        absurd (b.with_it (begins_front p grows (b.front ++ b.at ∷ []) more
        (subst (BeginsWithin p) (x ∙ ap (λ h. b.front ++ h ∷ more) (heads t b.at (more ++ rest) b.behind (sym y ∙ b.here)) ∙ regroup b.front b.at more) a.before)))

-- what is such a phrase has no first fault
pub fault_none : (p : Limited) → Grows p → (ts rest : List Token) → Parses (p within) ts → FirstFault p ts rest → ⊥
fault_none p grows ts rest parses fault =
    fault.with_it (front_begins p grows (fault.front ++ fault.at ∷ []) fault.behind
    (subst (Parses (p within)) (fault.parts ∙ ap (λ r. fault.front ++ r) fault.here ∙ regroup fault.front fault.at fault.behind) parses))

same_front : (a b rest : List Token) → Meet a b rest rest → a ≡ b
same_front a b rest (equal x y) = x
same_front a b rest (behind t more x y) = absurd (omega (arith, ap length y, length-append more rest))
same_front a b rest (before t more x y) = absurd (omega (arith, ap length y, length-append more rest))

-- a token is at fault for its level alone, or whatever levels are opened
pub deep_or_wrong : (p : Limited) → Grows p → (ts rest other : List Token) → FirstDeep p ts rest → FirstWrong p ts other → ⊥
deep_or_wrong p grows ts rest other deep wrong =
    let same = fault_one p grows ts rest other deep.fault wrong.fault in
    let at : deep.fault.at ≡ wrong.fault.at = heads _ _ _ _ (sym deep.fault.here ∙ same ∙ wrong.fault.here) in
    let parts : deep.fault.front ++ rest ≡ wrong.fault.front ++ rest = sym deep.fault.parts ∙ wrong.fault.parts ∙ ap (λ r. wrong.fault.front ++ r) (sym same) in
    let front = same_front deep.fault.front wrong.fault.front rest (meet deep.fault.front wrong.fault.front rest rest parts) in
    wrong.wrong (subst (Begins p) (ap (λ f. f ++ deep.fault.at ∷ []) front ∙ ap (λ t. wrong.fault.front ++ t ∷ []) at) deep.deeper)
