-- Laws of tokens that stand at one place alone, and of names.
use Rattle.std.proofs.Common.{◌≡◌, ℕ, Bool, true, false, List, refl, sym, ap, ◌∙◌, codes}
use Rattle.java_lex.specs.declared.spelling.Terminal.{Terminal}
use Rattle.java_lex.specs.declared.spelling.Terminal.TheVariants as terminal
use Rattle.java_lex.specs.declared.token.Token.{Token}
use Rattle.java_lex.specs.declared.token.TokenKind.TheVariants as kind
use Rattle.java_lex.specs.Terminals.{terminal_of}
use Rattle.java_tree.specs.declared.names.Ident.{Ident}
use Rattle.java_tree.specs.Phrases.{Letter, letter, ident_of, one, one_at, name}
use Rattle.reading_core.specs.Read.{on, at_side}
use Rattle.java_reading.specs.declared.marks.Fixed.{Fixed}
use Rattle.java_reading.specs.declared.marks.Fixed.TheVariants.{OpenBrace, CloseBrace, OpenParen, CloseParen, Semicolon, Comma, Dot, Assign, If, Else, While, Return, Class, Package, Import, Static, Times, Requires, Ensures, Invariant, NormalBehavior, End}
use Rattle.java_reading.specs.Readers.{head}
use Rattle.java_reading.specs.Tokens.{is_fixed, terminal_of_fixed, stands, is_name, fixed, fixed_at, name_in, at_head}
use Rattle.java_reading.proofs.Law.{never, any, Sample, Exact}
use Rattle.java_reading.proofs.Parts.{Decided, token_law, token_sample}

pub fixed_is : (x : Fixed) (y : Terminal) → is_fixed x y ≡ true → y ≡ terminal_of_fixed x
fixed_is OpenBrace terminal.OpenBrace e = refl
fixed_is OpenBrace y e = cc
fixed_is CloseBrace terminal.CloseBrace e = refl
fixed_is CloseBrace y e = cc
fixed_is OpenParen terminal.OpenParen e = refl
fixed_is OpenParen y e = cc
fixed_is CloseParen terminal.CloseParen e = refl
fixed_is CloseParen y e = cc
fixed_is Semicolon terminal.Semicolon e = refl
fixed_is Semicolon y e = cc
fixed_is Comma terminal.Comma e = refl
fixed_is Comma y e = cc
fixed_is Dot terminal.Dot e = refl
fixed_is Dot y e = cc
fixed_is Assign terminal.Assign e = refl
fixed_is Assign y e = cc
fixed_is If terminal.If e = refl
fixed_is If y e = cc
fixed_is Else terminal.Else e = refl
fixed_is Else y e = cc
fixed_is While terminal.While e = refl
fixed_is While y e = cc
fixed_is Return terminal.Return e = refl
fixed_is Return y e = cc
fixed_is Class terminal.Class e = refl
fixed_is Class y e = cc
fixed_is Package terminal.Package e = refl
fixed_is Package y e = cc
fixed_is Import terminal.Import e = refl
fixed_is Import y e = cc
fixed_is Static terminal.Static e = refl
fixed_is Static y e = cc
fixed_is Times terminal.Times e = refl
fixed_is Times y e = cc
fixed_is Requires terminal.Requires e = refl
fixed_is Requires y e = cc
fixed_is Ensures terminal.Ensures e = refl
fixed_is Ensures y e = cc
fixed_is Invariant terminal.Invariant e = refl
fixed_is Invariant y e = cc
fixed_is NormalBehavior terminal.NormalBehavior e = refl
fixed_is NormalBehavior y e = cc
fixed_is End terminal.End e = refl
fixed_is End y e = cc

pub fixed_self : (x : Fixed) → is_fixed x (terminal_of_fixed x) ≡ true
fixed_self OpenBrace = refl
fixed_self CloseBrace = refl
fixed_self OpenParen = refl
fixed_self CloseParen = refl
fixed_self Semicolon = refl
fixed_self Comma = refl
fixed_self Dot = refl
fixed_self Assign = refl
fixed_self If = refl
fixed_self Else = refl
fixed_self While = refl
fixed_self Return = refl
fixed_self Class = refl
fixed_self Package = refl
fixed_self Import = refl
fixed_self Static = refl
fixed_self Times = refl
fixed_self Requires = refl
fixed_self Ensures = refl
fixed_self Invariant = refl
fixed_self NormalBehavior = refl
fixed_self End = refl

fixed_stands : (x : Fixed) → terminal_of_fixed x ≡ terminal.Reserved → ⊥
fixed_stands OpenBrace e = cc
fixed_stands CloseBrace e = cc
fixed_stands OpenParen e = cc
fixed_stands CloseParen e = cc
fixed_stands Semicolon e = cc
fixed_stands Comma e = cc
fixed_stands Dot e = cc
fixed_stands Assign e = cc
fixed_stands If e = cc
fixed_stands Else e = cc
fixed_stands While e = cc
fixed_stands Return e = cc
fixed_stands Class e = cc
fixed_stands Package e = cc
fixed_stands Import e = cc
fixed_stands Static e = cc
fixed_stands Times e = cc
fixed_stands Requires e = cc
fixed_stands Ensures e = cc
fixed_stands Invariant e = cc
fixed_stands NormalBehavior e = cc
fixed_stands End e = cc

pub on_is : (side : Bool) (z : Letter) (y : Terminal) → on side z ≡ y → (y ≡ terminal.Reserved → ⊥) → z ≡ (side, y)
on_is side (jml, x) y e stands = by side jml e
  where
    by : (side jml : Bool) → on side (jml, x) ≡ y → ◌≡◌ {A = Letter} (jml, x) (side, y)
    by true true e = ap (λ (v : Terminal). (true, v)) e
    by false false e = ap (λ (v : Terminal). (false, v)) e
    by true false e = absurd (stands (sym e))
    by false true e = absurd (stands (sym e))

pub on_side : (side : Bool) (z : Letter) (y : Terminal) → z ≡ (side, y) → on side z ≡ y
on_side true z y e = ap (on true) e
on_side false z y e = ap (on false) e

abbrev pub word_at : Bool → List ℕ → Token
word_at side bytes = record { kind = kind.Word bytes; jml = side; from = 0; to = 0 }

abbrev pub symbol_at : Bool → List ℕ → Token
symbol_at side bytes = record { kind = kind.Symbol bytes; jml = side; from = 0; to = 0 }

-- a token that is this one
abbrev pub example : Bool → Fixed → Token
example side OpenBrace = symbol_at side (codes "{")
example side CloseBrace = symbol_at side (codes "}")
example side OpenParen = symbol_at side (codes "(")
example side CloseParen = symbol_at side (codes ")")
example side Semicolon = symbol_at side (codes ";")
example side Comma = symbol_at side (codes ",")
example side Dot = symbol_at side (codes ".")
example side Assign = symbol_at side (codes "=")
example side If = word_at side (codes "if")
example side Else = word_at side (codes "else")
example side While = word_at side (codes "while")
example side Return = word_at side (codes "return")
example side Class = word_at side (codes "class")
example side Package = word_at side (codes "package")
example side Import = word_at side (codes "import")
example side Static = word_at side (codes "static")
example side Times = symbol_at side (codes "*")
example side Requires = word_at side (codes "requires")
example side Ensures = word_at side (codes "ensures")
example side Invariant = word_at side (codes "invariant")
example side NormalBehavior = word_at side (codes "normal_behavior")
example side End = record { kind = kind.End; jml = side; from = 0; to = 0 }

-- where its words mean what they say
abbrev pub on_its_side : Bool → Fixed → Bool
on_its_side side Requires = side
on_its_side side Ensures = side
on_its_side side Invariant = side
on_its_side side NormalBehavior = side
on_its_side side x = true

pub example_is : (side : Bool) (x : Fixed) → on_its_side side x ≡ true → letter (example side x) ≡ (side, terminal_of_fixed x)
example_is true OpenBrace e = refl
example_is false OpenBrace e = refl
example_is true CloseBrace e = refl
example_is false CloseBrace e = refl
example_is true OpenParen e = refl
example_is false OpenParen e = refl
example_is true CloseParen e = refl
example_is false CloseParen e = refl
example_is true Semicolon e = refl
example_is false Semicolon e = refl
example_is true Comma e = refl
example_is false Comma e = refl
example_is true Dot e = refl
example_is false Dot e = refl
example_is true Assign e = refl
example_is false Assign e = refl
example_is true If e = refl
example_is false If e = refl
example_is true Else e = refl
example_is false Else e = refl
example_is true While e = refl
example_is false While e = refl
example_is true Return e = refl
example_is false Return e = refl
example_is true Class e = refl
example_is false Class e = refl
example_is true Package e = refl
example_is false Package e = refl
example_is true Import e = refl
example_is false Import e = refl
example_is true Static e = refl
example_is false Static e = refl
example_is true Times e = refl
example_is false Times e = refl
example_is true Requires e = refl
example_is false Requires e = cc
example_is true Ensures e = refl
example_is false Ensures e = cc
example_is true Invariant e = refl
example_is false Invariant e = cc
example_is true NormalBehavior e = refl
example_is false NormalBehavior e = cc
example_is true End e = refl
example_is false End e = refl

pub stands_letter : (side : Bool) (x : Fixed) (t : Token) → stands side x t ≡ true → letter t ≡ (side, terminal_of_fixed x)
stands_letter side x t e = on_is side (letter t) (terminal_of_fixed x) (fixed_is x (at_side side t) e) (fixed_stands x)

pub letter_stands : (side : Bool) (x : Fixed) (t : Token) → letter t ≡ (side, terminal_of_fixed x) → stands side x t ≡ true
letter_stands side x t e = ap (is_fixed x) (on_side side (letter t) (terminal_of_fixed x) e) ∙ fixed_self x

module _ (side : Bool) (x : Fixed) (own : on_its_side side x ≡ true) (plain : terminal_of_fixed x ≡ terminal.End → ⊥) where
  stands_plain : (t : Token) → stands side x t ≡ true → terminal_of t ≡ terminal.End → ⊥
  stands_plain t e is_end = let f : letter t ≡ (side, terminal_of_fixed x) = stands_letter side x t e in plain (sym (ap (λ (z : Letter). z.1) f) ∙ is_end)

  pub fixed_decided : Decided (Unit {0}) (λ u t. letter t ≡ (side, terminal_of_fixed x)) (stands side x) (λ t. tt)
  fixed_decided = record {
    is = λ t e. stands_letter side x t e;
    means = λ u t e. (letter_stands side x t e, refl);
    example = example side x;
    works = letter_stands side x (example side x) (example_is side x own);
    plain = stands_plain;
  }

  pub fixed_at_decided : Decided ℕ (λ at t. (letter t ≡ (side, terminal_of_fixed x)) × (t.from ≡ at)) (stands side x) (λ t. t.from)
  fixed_at_decided = record {
    is = λ t e. (stands_letter side x t e, refl);
    means = λ at t e. (letter_stands side x t e.0, sym e.1);
    example = example side x;
    works = letter_stands side x (example side x) (example_is side x own);
    plain = stands_plain;
  }

  module _ (l : ℕ) where
    pub fixed_law : Exact (Unit {0}) (λ May u. one (side, terminal_of_fixed x)) never any l (fixed side x)
    fixed_law = token_law (Unit {0}) (λ u t. letter t ≡ (side, terminal_of_fixed x)) (stands side x) (λ t. tt) fixed_decided l

    pub fixed_sample : Sample (Unit {0}) (λ May u. one (side, terminal_of_fixed x)) l
    fixed_sample = token_sample (Unit {0}) (λ u t. letter t ≡ (side, terminal_of_fixed x)) (stands side x) (λ t. tt) fixed_decided l

    pub fixed_at_law : Exact ℕ (λ May at. one_at (side, terminal_of_fixed x) at) never any l (fixed_at side x)
    fixed_at_law = token_law ℕ (λ at t. (letter t ≡ (side, terminal_of_fixed x)) × (t.from ≡ at)) (stands side x) (λ t. t.from) fixed_at_decided l

    pub fixed_at_sample : Sample ℕ (λ May at. one_at (side, terminal_of_fixed x) at) l
    fixed_at_sample = token_sample ℕ (λ at t. (letter t ≡ (side, terminal_of_fixed x)) × (t.from ≡ at)) (stands side x) (λ t. t.from) fixed_at_decided l

-- what such a token is where it stands first
pub one_head : (side : Bool) (y : Terminal) (l : ℕ) (us : List Token) (k : ℕ) (r : List Token) → one (side, y) l us k r → at_head side (head us) ≡ y
one_head side y l us k r (t, is, parts, up) = ap (λ v. at_head side (head v)) parts ∙ on_side side (letter t) y is

pub one_at_head : (side : Bool) (y : Terminal) (at l : ℕ) (us : List Token) (k : ℕ) (r : List Token) → one_at (side, y) at l us k r → at_head side (head us) ≡ y
one_at_head side y at l us k r (t, is, parts, up) = ap (λ v. at_head side (head v)) parts ∙ on_side side (letter t) y is.0

-- NAMES

name_is : (y : Terminal) → is_name y ≡ true → y ≡ terminal.Name
name_is terminal.Name e = refl
name_is y e = cc

name_letter : (side : Bool) (t : Token) → is_name (at_side side t) ≡ true → letter t ≡ (side, terminal.Name)
name_letter side t e = on_is side (letter t) terminal.Name (name_is (at_side side t) e) (λ f. cc)

pub letter_name : (side : Bool) (t : Token) → letter t ≡ (side, terminal.Name) → is_name (at_side side t) ≡ true
letter_name side t e = ap is_name (on_side side (letter t) terminal.Name e)

pub name_decided : (side : Bool) → Decided Ident (λ i t. (letter t ≡ (side, terminal.Name)) × (ident_of t ≡ i)) (λ t. is_name (at_side side t)) ident_of
name_decided side = record {
  is = λ t e. (name_letter side t e, refl);
  means = λ i t e. (letter_name side t e.0, sym e.1);
  example = word_at side (codes "a");
  works = letter_name side (word_at side (codes "a")) (example_name side);
  plain = λ t e is_end. let f : letter t ≡ (side, terminal.Name) = name_letter side t e in let g : terminal.Name ≡ terminal.End = sym (ap (λ (z : Letter). z.1) f) ∙ is_end in cc;
}
  where
    example_name : (side : Bool) → letter (word_at side (codes "a")) ≡ (side, terminal.Name)
    example_name true = refl
    example_name false = refl

pub name_law : (side : Bool) (l : ℕ) → Exact Ident (λ May i. name side i) never any l (name_in side)
name_law side l = token_law Ident (λ i t. (letter t ≡ (side, terminal.Name)) × (ident_of t ≡ i)) (λ t. is_name (at_side side t)) ident_of (name_decided side) l

pub name_sample : (side : Bool) (l : ℕ) → Sample Ident (λ May i. name side i) l
name_sample side l = token_sample Ident (λ i t. (letter t ≡ (side, terminal.Name)) × (ident_of t ≡ i)) (λ t. is_name (at_side side t)) ident_of (name_decided side) l

pub name_head : (side : Bool) (i : Ident) (l : ℕ) (us : List Token) (k : ℕ) (r : List Token) → name side i l us k r → at_head side (head us) ≡ terminal.Name
name_head side i l us k r (t, is, parts, up) = ap (λ v. at_head side (head v)) parts ∙ on_side side (letter t) terminal.Name is.0
