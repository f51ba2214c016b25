-- The laws of modifiers and of types.
use Rattle.std.proofs.Common.{◌≡◌, ◌⊎◌, ℕ, Bool, true, false, List, [], ◌∷◌, ◌++◌, Option, Some, None, refl, sym, ap, ◌∙◌, subst, inl, inr, ◌&&◌, append_assoc, append-nil, codes}
use Rattle.std.specs.List.{list_all, filter_map, cons_option}
use Rattle.java_lex.specs.declared.spelling.Terminal.{Terminal}
use Rattle.java_lex.specs.declared.spelling.Terminal.TheVariants as terminal
use Rattle.java_lex.specs.declared.token.Token.{Token}
use Rattle.java_lex.specs.Terminals.{terminal_of}
use Rattle.java_tree.specs.declared.names.Modifier.{Modifier}
use Rattle.java_tree.specs.declared.names.TypeTree.{TypeTree}
use Rattle.java_tree.specs.declared.names.TypeTree.TheVariants.{Int, Flag, Class as class_type}
use Rattle.java_tree.specs.Phrases.{Letter, letter, ident_of, Limit}
use Rattle.java_tree.specs.Statements.{modifiers, in_order, kept, type_of}
use Rattle.reading_core.specs.Read.{Read, Got, at_side}
use Rattle.java_reading.specs.Readers.{head}
use Rattle.java_reading.specs.StatementReading.{gather, modifiers_in, is_type, type_by, type_in}
use Rattle.java_reading.proofs.Law.{Family, Extends, never, any, Sample, Exact, Law, Plain}
use Rattle.java_reading.proofs.Parts.{Decided, token_by, token_law, token_sample, same_law, same_sample, heads, tails}
use Rattle.java_reading.proofs.TokenLaws.{on_is, on_side, word_at}

both_left : (a b : Bool) → (a && b) ≡ true → a ≡ true
both_left true b e = refl
both_left false b e = e

both_right : (a b : Bool) → (a && b) ≡ true → b ≡ true
both_right true b e = e
both_right false b e = absurd (cc)

-- the first token is such
abbrev pub allowed_head : (Letter → Bool) → Option Token → Bool
allowed_head allowed None = false
allowed_head allowed (Some t) = allowed (letter t)

module _ (allowed : Letter → Bool) where
  abbrev pub MF : Family (List Modifier)
  MF May mods = modifiers allowed mods

  abbrev pub MX : Extends (List Modifier)
  MX mods h = allowed_head allowed h ≡ true

  pub modifiers_sample : (l : ℕ) → Sample (List Modifier) MF l
  modifiers_sample l = record { tokens = []; tree = []; is = λ May c frees. ([], refl, refl, refl, refl) }

  -- the longest front of tokens that are such
  record Longest (ts : List Token) : Type 0 where
    front : List Token
    rest : List Token
    parts : ts ≡ front ++ rest
    all : list_all (λ t. allowed (letter t)) front ≡ true
    ends : allowed_head allowed (head rest) ≡ false
    gathers : (mods : List Modifier) → gather allowed mods ts ≡ Got (in_order (mods ++ filter_map kept front)) rest

  longest_by : (t : Token) (ts : List Token) (b : Bool) → allowed (letter t) ≡ b → Longest ts → Longest (t ∷ ts)
  longest_by t ts true is more = record {
    front = t ∷ more.front;
    rest = more.rest;
    parts = ap (λ v. t ∷ v) more.parts;
    all = rw is more.all;
    ends = more.ends;
    gathers = λ mods. rw (is, gather) (more.gathers (mods ++ cons_option (kept t) []) ∙ ap (λ v. Got (in_order v) more.rest) (append_assoc mods (cons_option (kept t) []) (filter_map kept more.front) ∙ ap (λ v. mods ++ v) (by (kept t) (filter_map kept more.front))));
  }
    where
      by : (o : Option Modifier) (ms : List Modifier) → cons_option o [] ++ ms ≡ cons_option o ms
      by None ms = refl
      by (Some m) ms = refl
  longest_by t ts false is more = record { front = []; rest = t ∷ ts; parts = refl; all = refl; ends = is; gathers = λ mods. rw (is, gather) (ap (λ v. Got (in_order v) (t ∷ ts)) (sym (append-nil mods))) }

  longest : (ts : List Token) → Longest ts
  longest [] = record { front = []; rest = []; parts = refl; all = refl; ends = refl; gathers = λ mods. ap (λ v. Got (in_order v) []) (sym (append-nil mods)) }
  longest (t ∷ ts) = longest_by t ts (allowed (letter t)) refl (longest ts)

  -- another front of such tokens is this one, or shorter
  other_front : (f g c r : List Token) → f ++ c ≡ g ++ r → list_all (λ t. allowed (letter t)) f ≡ true → list_all (λ t. allowed (letter t)) g ≡ true → allowed_head allowed (head c) ≡ false
      → ((g ≡ f) × (r ≡ c)) ⊎ (allowed_head allowed (head r) ≡ true)
  other_front [] [] c r parts all all' ends = inl (refl, sym parts)
  other_front [] (t ∷ g) c r parts all all' ends = let so : allowed (letter t) ≡ true = both_left (allowed (letter t)) _ all' in let not_so : allowed (letter t) ≡ false = sym (ap (λ v. allowed_head allowed (head v)) parts) ∙ ends in absurd (cc)
  other_front (t ∷ f) [] c r parts all all' ends = inr (sym (ap (λ v. allowed_head allowed (head v)) parts) ∙ both_left (allowed (letter t)) _ all)
  other_front (t ∷ f) (u ∷ g) c r parts all all' ends =
      elim (other_front f g c r (sym (tails t u (f ++ c) (g ++ r) parts)) (both_right (allowed (letter t)) _ all) (both_right (allowed (letter u)) _ all') ends) [
        | inl e ↦ inl (let e0 : g ≡ f = e.0 in let e1 : t ≡ u = heads t u (f ++ c) (g ++ r) parts in cc, e.1)
        | inr x ↦ inr x
      ]

  module _ (plain : (z : Letter) → allowed z ≡ true → z.1 ≡ terminal.End → ⊥) (l : ℕ) where
    all_plain : (f : List Token) → list_all (λ t. allowed (letter t)) f ≡ true → Plain f
    all_plain [] all = tt
    all_plain (t ∷ f) all = (plain (letter t) (both_left (allowed (letter t)) _ all), all_plain f (both_right (allowed (letter t)) _ all))

    by_longest : (ts : List Token) (f : Longest ts) → Law (List Modifier) MF MX any l ts (Got (in_order (filter_map kept f.front)) f.rest)
    by_longest ts f = record {
      front = f.front;
      parts = f.parts;
      plain = all_plain f.front f.all;
      sound = λ May allows c. (f.front, refl, f.all, refl, refl);
      stop = tt;
      only = only_one;
    }
      where
        only_one : (May : Limit) (c : List Token) → head f.rest ≡ head c → (mods : List Modifier) (k : ℕ) (r : List Token) → MF May mods l (f.front ++ c) k r
            → ((mods ≡ in_order (filter_map kept f.front)) × (k ≡ l) × (r ≡ c)) ⊎ MX mods (head r)
        only_one May c same mods k r (g, parts, all, is, up) =
            elim (other_front f.front g c r parts f.all all (ap (allowed_head allowed) (sym same) ∙ f.ends)) [
              | inl e ↦ inl (is ∙ ap (λ v. in_order (filter_map kept v)) e.0, up, e.1)
              | inr x ↦ inr x
            ]

    pub modifiers_law : Exact (List Modifier) MF MX any l (modifiers_in allowed)
    modifiers_law ts = subst (λ (o : Read (List Modifier)). Law (List Modifier) MF MX any l ts o) (sym ((longest ts).gathers [])) (by_longest ts (longest ts))

-- TYPES

abbrev pub TF : Family TypeTree
TF May kind = type_of kind

abbrev pub TypeToken : TypeTree → Token → Type 0
TypeToken Int t = letter t ≡ (false, terminal.Int)
TypeToken Flag t = letter t ≡ (false, terminal.Boolean)
TypeToken (class_type i) t = (letter t ≡ (false, terminal.Name)) × (ident_of t ≡ i)

type_is : (y : Terminal) → is_type y ≡ true → (t : Token) → at_side false t ≡ y → TypeToken (type_by y t) t
type_is terminal.Int e t is = on_is false (letter t) terminal.Int is (λ f. cc)
type_is terminal.Boolean e t is = on_is false (letter t) terminal.Boolean is (λ f. cc)
type_is terminal.Name e t is = (on_is false (letter t) terminal.Name is (λ f. cc), refl)
type_is y e t is = absurd (cc)

type_means : (kind : TypeTree) (t : Token) → TypeToken kind t → (is_type (at_side false t) ≡ true) × (kind ≡ type_by (at_side false t) t)
type_means Int t e = let f : at_side false t ≡ terminal.Int = on_side false (letter t) terminal.Int e in (ap is_type f, sym (ap (λ y. type_by y t) f))
type_means Flag t e = let f : at_side false t ≡ terminal.Boolean = on_side false (letter t) terminal.Boolean e in (ap is_type f, sym (ap (λ y. type_by y t) f))
type_means (class_type i) t e = let f : at_side false t ≡ terminal.Name = on_side false (letter t) terminal.Name e.0 in (ap is_type f, sym (ap (λ y. type_by y t) f ∙ ap class_type e.1))

type_plain : (y : Terminal) → is_type y ≡ true → (t : Token) → at_side false t ≡ y → terminal_of t ≡ terminal.End → ⊥
type_plain terminal.Int e t is end = let f : letter t ≡ (false, terminal.Int) = on_is false (letter t) terminal.Int is (λ f. cc) in let g : terminal.Int ≡ terminal.End = sym (ap (λ (z : Letter). z.1) f) ∙ end in cc
type_plain terminal.Boolean e t is end = let f : letter t ≡ (false, terminal.Boolean) = on_is false (letter t) terminal.Boolean is (λ f. cc) in let g : terminal.Boolean ≡ terminal.End = sym (ap (λ (z : Letter). z.1) f) ∙ end in cc
type_plain terminal.Name e t is end = let f : letter t ≡ (false, terminal.Name) = on_is false (letter t) terminal.Name is (λ f. cc) in let g : terminal.Name ≡ terminal.End = sym (ap (λ (z : Letter). z.1) f) ∙ end in cc
type_plain y e t is end = absurd (cc)

pub type_decided : Decided TypeTree TypeToken (λ t. is_type (at_side false t)) (λ t. type_by (at_side false t) t)
type_decided = record {
  is = λ t e. type_is (at_side false t) e t refl;
  means = type_means;
  example = word_at false (codes "int");
  works = refl;
  plain = λ t e. type_plain (at_side false t) e t refl;
}

-- a type is one token
pub type_to : (kind : TypeTree) (l : ℕ) (us : List Token) (k : ℕ) (r : List Token) → token_by TypeToken (λ m v. Unit {0}) kind l us k r → type_of kind l us k r
type_to Int l us k r h = h
type_to Flag l us k r h = h
type_to (class_type i) l us k r h = h

pub type_from : (kind : TypeTree) (l : ℕ) (us : List Token) (k : ℕ) (r : List Token) → type_of kind l us k r → token_by TypeToken (λ m v. Unit {0}) kind l us k r
type_from Int l us k r h = h
type_from Flag l us k r h = h
type_from (class_type i) l us k r h = h

pub type_law : (l : ℕ) → Exact TypeTree TF never any l type_in
type_law l ts = same_law TypeTree (token_by TypeToken) TF never any (λ May. type_to) (λ May. type_from) l ts (type_in ts) (token_law TypeTree TypeToken (λ t. is_type (at_side false t)) (λ t. type_by (at_side false t) t) type_decided l ts)

pub type_sample : (l : ℕ) → Sample TypeTree TF l
type_sample l = same_sample TypeTree (token_by TypeToken) TF never any (λ May. type_to) (λ May. type_from) l (token_sample TypeTree TypeToken (λ t. is_type (at_side false t)) (λ t. type_by (at_side false t) t) type_decided l)

pub type_head : (kind : TypeTree) (l : ℕ) (us : List Token) (k : ℕ) (r : List Token) → type_of kind l us k r → (t : Token) × (head us ≡ Some t) × TypeToken kind t
type_head Int l us k r (t, is, parts, up) = (t, ap head parts, is)
type_head Flag l us k r (t, is, parts, up) = (t, ap head parts, is)
type_head (class_type i) l us k r (t, is, parts, up) = (t, ap head parts, is)
