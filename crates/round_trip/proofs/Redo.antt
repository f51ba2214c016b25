-- Phrases that are printed and read again: how they are put together.
use Rattle.std.proofs.Common.{◌≡◌, ℕ, Bool, true, false, List, [], ◌∷◌, ◌++◌, refl, sym, ◌∙◌, ap, subst}
use Rattle.java_lex.specs.declared.spelling.Terminal.{Terminal}
use Rattle.java_lex.specs.declared.spelling.Terminal.TheVariants as terminal
use Rattle.java_lex.specs.declared.token.Token.{Token}
use Rattle.java_lex.specs.declared.token.TokenKind.{TokenKind}
use Rattle.java_lex.specs.declared.token.TokenKind.TheVariants as kind
use Rattle.java_lex.specs.Terminals.{terminal_of_kind}
use Rattle.java_tree.specs.declared.names.Ident.{Ident}
use Rattle.java_tree.specs.Phrases.{Letter, letter, text_of, ident_of, Phrase, ◌▸◌, nothing, where_, one, one_at, name, word as word_phrase, number, opens, closed}
use Rattle.java_tree.specs.Expressions.{chained}
use Rattle.java_tree.specs.Reading.{within}
use Rattle.java_tree.specs.Print.{Word, word, number as number_word}
use Rattle.reading_core.proofs.Tokens.{name_kind}
use Rattle.round_trip.specs.Bare.{bare_name}
use Rattle.round_trip.proofs.Spells.{Spells, spells_parts, Spellable, AllSpellable, spellable_append, IsKnown, Known}

-- Tokens that spell these words are such a phrase, of a tree of which this is so.
pub record Redo (A : Type 0) (W : List Word) (q : A → Phrase) (S : A → Type 0) (l k : ℕ) : Type 0 where
  pub good : AllSpellable W
  pub redo : (ts rest : List Token) → Spells W ts rest → (a : A) × S a × q a l ts k rest

-- Where tokens are a phrase, tokens that spell these words are one.
pub record Again (A : Type 0) (W : List Word) (p : Phrase) (q : A → Phrase) (S : A → Type 0) : Type 0 where
  pub again : (l : ℕ) (ts : List Token) (k : ℕ) (rest : List Token) → Known ts → p l ts k rest → Known rest × Redo A W q S l k

-- the one and then the other
pub redo_thens : {A B : Type 0} {V W : List Word} {q : A → Phrase} {s : B → Phrase} {S : A → Type 0} {R : B → Type 0} {l m k : ℕ}
    → Redo A V q S l m → Redo B W s R m k → Redo (A × B) (V ++ W) (λ x. q x.0 ▸ s x.1) (λ x. S x.0 × R x.1) l k
redo_thens {A} {B} {V} {W} {q} {s} {S} {R} {l} {m} {k} f g = record {
  good = spellable_append V W f.good g.good;
  redo = λ us end spelled.
      let (mid, one_, two_) = spells_parts V W us end spelled in
      let (a, same, x) = f.redo us mid one_ in
      let (b, same', y) = g.redo mid end two_ in
      ((a, b), (same, same'), (m, mid, x, y));
}

-- the tree made into another, which is written as these words
pub redo_recast : {A B : Type 0} {V W : List Word} {q : A → Phrase} {s : B → Phrase} {S : A → Type 0} {R : B → Type 0} {l k : ℕ}
    → Redo A V q S l k → (make : A → B) → V ≡ W → ((a : A) → S a → R (make a)) → ((a : A) → S a → (l : ℕ) (ts : List Token) (k : ℕ) (rest : List Token) → q a l ts k rest → s (make a) l ts k rest) → Redo B W s R l k
redo_recast {A} {B} {V} {W} {q} {s} {S} {R} {l} {k} f make is same_so so = record {
  good = subst AllSpellable is f.good;
  redo = λ us end spelled.
      let (a, same, x) = f.redo us end (subst (λ (w : List Word). Spells w us end) (sym is) spelled) in
      (make a, same_so a same, so a same l us k end x);
}

module _ {A : Type 0} {V : List Word} {p : Phrase} {q : A → Phrase} {S : A → Type 0} (f : Again A V p q S) where
  -- one phrase and then the other
  pub thens : {B : Type 0} {W : List Word} {r : Phrase} {s : B → Phrase} {R : B → Type 0} → Again B W r s R → Again (A × B) (V ++ W) (p ▸ r) (λ x. q x.0 ▸ s x.1) (λ x. S x.0 × R x.1)
  thens {B} {W} {r} {s} {R} g = record {
    again = λ l ts k rest known (m, mid, x, y).
        let (known', f') = f.again l ts m mid known x in
        let (known'', g') = g.again m mid k rest known' y in
        (known'', redo_thens f' g');
  }

  pub closes : Again A V (closed p) (λ a. closed (q a)) S
  closes = record {
    again = λ l ts k rest known (m, x, is).
        let (known', f') = f.again l ts m rest known x in (
          known',
          record {
            good = f'.good;
            redo = λ us end spelled. let (a, same, x') = f'.redo us end spelled in (a, same, (m, x', is));
          },
        );
  }

  -- the tree made into another, which is written as these words
  pub recast : {B : Type 0} {W : List Word} {s : B → Phrase} {R : B → Type 0} (make : A → B) → V ≡ W → ((a : A) → S a → R (make a)) → ((a : A) → S a → (l : ℕ) (ts : List Token) (k : ℕ) (rest : List Token) → q a l ts k rest → s (make a) l ts k rest) → Again B W p s R
  recast {B} {W} {s} {R} make is same_so so = record {
    again = λ l ts k rest known x.
        let (known', f') = f.again l ts k rest known x in
        (known', redo_recast f' make is same_so so);
  }

  -- levels that stay open to the end of a chain, or not
  pub chains : (goes_on : Bool) → Again A V (chained goes_on p) (λ a. chained goes_on (q a)) S
  chains true = f
  chains false = closes

-- where a fact holds
pub given : {A : Type 0} {W : List Word} {P : Type 0} {p : Phrase} {q : A → Phrase} {S : A → Type 0} → (P → Again A W p q S) → Again A W (where_ P p) q S
given f = record { again = λ l ts k rest known (is, x). (f is).again l ts k rest known x }

-- nothing
pub nothing_again : Again (Unit {0}) [] nothing (λ u. nothing) (λ u. Unit {0})
nothing_again = record {
  again = λ l ts k rest known (level, parts). (
    subst Known (sym parts) known,
    record {
      good = tt {0};
      redo = λ us end spelled. (tt {0}, tt {0}, (level, sym spelled));
    },
  );
}

-- a level that is opened
pub opens_again : Again (Unit {0}) [] (opens within) (λ u. opens within) (λ u. Unit {0})
opens_again = record {
  again = λ l ts k rest known (up, may, parts). (
    subst Known (sym parts) known,
    record {
      good = tt {0};
      redo = λ us end spelled. (tt {0}, tt {0}, (up, may, sym spelled));
    },
  );
}

-- equal parts make equal wholes
pub two : {A B C : Type 0} (f : A → B → C) {a c : A} {b d : B} → a ≡ c → b ≡ d → f a b ≡ f c d
two f {a} {c} {b} {d} p q = ap (λ x. f x b) p ∙ ap (λ y. f c y) q

pub three : {A B C D : Type 0} (f : A → B → C → D) {a d : A} {b e : B} {c g : C} → a ≡ d → b ≡ e → c ≡ g → f a b c ≡ f d e g
three f {a} {d} {b} {e} {c} {g} p q r = two (λ x y. f x y c) p q ∙ ap (λ z. f d e z) r

pub four : {A B C D E : Type 0} (f : A → B → C → D → E) {a a' : A} {b b' : B} {c c' : C} {d d' : D} → a ≡ a' → b ≡ b' → c ≡ c' → d ≡ d' → f a b c d ≡ f a' b' c' d'
four f {a} {a'} {b} {b'} {c} {c'} {d} {d'} p q r t = three (λ x y z. f x y z d) p q r ∙ ap (λ w. f a' b' c' w) t

-- WORDS THAT MEAN SOMETHING BY THEMSELVES

-- what the word is to the grammar, and that a text can hold it
pub record Fixed (side : Bool) (k : TokenKind) (x : Terminal) : Type 0 where
  pub is : terminal_of_kind side k ≡ x
  pub spells : Spellable (side, k)

letter_of : (t : Token) (side : Bool) (k : TokenKind) (x : Terminal) → terminal_of_kind side k ≡ x → t.jml ≡ side → t.kind ≡ k → letter t ≡ (side, x)
letter_of t side k x is jml_is kind_is = cc

pub known_rest : (ts rest : List Token) (t : Token) → ts ≡ t ∷ rest → Known ts → IsKnown t.jml t.kind × Known rest
known_rest ts rest t parts known = subst Known parts known

pub redo_fixed : {side : Bool} {k : TokenKind} {x : Terminal} → Fixed side k x → (l : ℕ) → Redo (Unit {0}) ((side, k) ∷ []) (λ u. one (side, x)) (λ u. Unit {0}) l l
redo_fixed {side} {k} {x} so l = record {
  good = (so.spells, tt {0});
  redo = λ us end (u, more, at, jml_is, kind_is, ends). (tt {0}, tt {0}, (u, letter_of u side k x so.is jml_is kind_is, at ∙ ap (λ r. u ∷ r) ends, refl));
}

pub fixed : {side : Bool} {k : TokenKind} {x : Terminal} → Fixed side k x → Again (Unit {0}) ((side, k) ∷ []) (one (side, x)) (λ u. one (side, x)) (λ u. Unit {0})
fixed {side} {k} {x} so = record {
  again = λ l ts m rest known (t, is, parts, level).
      ((known_rest ts rest t parts known).1, subst (λ (n : ℕ). Redo (Unit {0}) ((side, k) ∷ []) (λ u. one (side, x)) (λ u. Unit {0}) l n) (sym level) (redo_fixed so l));
}

-- at some place
pub placed : {side : Bool} {k : TokenKind} {x : Terminal} → Fixed side k x → (at : ℕ) → Again ℕ ((side, k) ∷ []) (one_at (side, x) at) (λ n. one_at (side, x) n) (λ n. Unit {0})
placed {side} {k} {x} so at = record {
  again = λ l ts m rest known (t, is, parts, level). (
    (known_rest ts rest t parts known).1,
    record {
      good = (so.spells, tt {0});
      redo = λ us end (u, more, here, jml_is, kind_is, ends). (u.from, tt {0}, (u, (letter_of u side k x so.is jml_is kind_is, refl), here ∙ ap (λ r. u ∷ r) ends, level));
    },
  );
}

-- NAMES AND NUMBERS

name_is : (side : Bool) (i : Ident) (t : Token) → letter t ≡ (side, terminal.Name) → ident_of t ≡ i → t.kind ≡ kind.Word i.text
name_is side i t is same = name_kind t.jml t.kind (ap (λ (x : Letter). x.1) is) ∙ ap (λ (j : Ident). kind.Word j.text) same

again_letter : (t u : Token) (side : Bool) (x : Terminal) (k : TokenKind) → letter t ≡ (side, x) → t.kind ≡ k → u.jml ≡ side → u.kind ≡ k → letter u ≡ (side, x)
again_letter t u side x k is kind_is jml_is same =
    let jml_of : t.jml ≡ side = ap (λ (x : Letter). x.0) is in
    let both : letter u ≡ letter t = cc in
    both ∙ is

pub name_again : (side : Bool) (i : Ident) → Again Ident (word side i.text) (name side i) (λ j. name side j) (λ j. bare_name j ≡ bare_name i)
name_again side i = record {
  again = λ l ts m rest known (t, (is, same), parts, level).
      let named = name_is side i t is same in
      let known' = known_rest ts rest t parts known in
      let jml_of : t.jml ≡ side = ap (λ (x : Letter). x.0) is in
      let spells : Spellable (t.jml, kind.Word i.text) = subst (λ (k : TokenKind). IsKnown t.jml k) named known'.0 in (
        known'.1,
        record {
          good = (subst (λ (b : Bool). Spellable (b, kind.Word i.text)) jml_of spells, tt {0});
          redo = λ us end (u, more, here, jml_is, kind_is, ends).
              (ident_of u, ap (λ (k : TokenKind). record { text = text_of k; at = 0 }) kind_is, (u, (again_letter t u side terminal.Name (kind.Word i.text) is named jml_is kind_is, refl), here ∙ ap (λ r. u ∷ r) ends, level));
        },
      );
}

pub number_again : (side : Bool) (at n : ℕ) → Again ℕ (number_word side n) (number side at n) (λ m. number side m n) (λ m. Unit {0})
number_again side at n = record {
  again = λ l ts m rest known (t, (is, kind_of, place_is), parts, level).
      let known' = known_rest ts rest t parts known in
      let jml_of : t.jml ≡ side = ap (λ (x : Letter). x.0) is in
      let spells : Spellable (t.jml, kind.Number n) = subst (λ (k : TokenKind). IsKnown t.jml k) kind_of known'.0 in (
        known'.1,
        record {
          good = (subst (λ (b : Bool). Spellable (b, kind.Number n)) jml_of spells, tt {0});
          redo = λ us end (u, more, here, jml_is, kind_is, ends).
              (u.from, tt {0}, (u, (again_letter t u side terminal.Number (kind.Number n) is kind_of jml_is kind_is, kind_is, refl), here ∙ ap (λ r. u ∷ r) ends, level));
        },
      );
}

-- a name that is this word
pub word_again : {side : Bool} {bytes : List ℕ} → Fixed side (kind.Word bytes) terminal.Name → Again (Unit {0}) (word side bytes) (word_phrase side bytes) (λ u. word_phrase side bytes) (λ u. Unit {0})
word_again {side} {bytes} so = record {
  again = λ l ts m rest known (t, is, parts, level). (
    (known_rest ts rest t parts known).1,
    record {
      good = (so.spells, tt {0});
      redo = λ us end (u, more, here, jml_is, kind_is, ends). (tt {0}, tt {0}, (u, (letter_of u side (kind.Word bytes) terminal.Name so.is jml_is kind_is, kind_is), here ∙ ap (λ r. u ∷ r) ends, level));
    },
  );
}
