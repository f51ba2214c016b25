-- What a token is, by its terminal.
use Rattle.std.proofs.Common.{◌≡◌, ℕ, ◌&&◌, cond, Bool, true, false, List, [], ◌∷◌, bytes_eq, refl, sym, ◌∙◌, ap, unwrap_or, option_map}
use Rattle.std.specs.Prelude.{find, Option, Some, None}
use Rattle.java_lex.specs.declared.spelling.Terminal.{Terminal}
use Rattle.java_lex.specs.declared.spelling.Terminal.TheVariants as terminal
use Rattle.java_lex.specs.declared.spelling.Absent.TheVariants.{Jml}
use Rattle.java_lex.specs.declared.token.Token.{Token}
use Rattle.java_lex.specs.declared.token.TokenKind.{TokenKind}
use Rattle.java_lex.specs.declared.token.TokenKind.TheVariants.{Word, Number, Quoted, Slashed, Symbol, End}
use Rattle.java_lex.specs.Spellings.{Spelling, means, symbols}
use Rattle.java_lex.specs.Terminals.{words, slashed, terminal_of_kind, terminal_of}
use Rattle.java_tree.specs.Phrases.{Letter, letter, text_of}
use Rattle.reading_core.specs.Read.{on, at_side, number_of, is_name_terminal, is_open_terminal, is_close_terminal, is_comma_terminal, is_semicolon_terminal, is_name, is_open, is_close, is_comma, is_semicolon}

-- SIDES

-- a terminal that stands on neither side
abbrev pub is_reserved : Terminal → Bool
is_reserved terminal.Reserved = true
is_reserved x = false

letter_by : (side jml : Bool) (x y : Terminal) → on side (jml, y) ≡ x → is_reserved x ≡ false → ◌≡◌ {A = Letter} (jml, y) (side, x)
letter_by true true x y is free = ap (λ z. (true, z)) is
letter_by false false x y is free = ap (λ z. (false, z)) is
letter_by true false x y is free = let no : true ≡ false = ap is_reserved is ∙ free in absurd (cc)
letter_by false true x y is free = let no : true ≡ false = ap is_reserved is ∙ free in absurd (cc)

-- what a token is on its side; each terminal but Reserved stands on one
pub letter_at : (side : Bool) (t : Token) (x : Terminal) → at_side side t ≡ x → is_reserved x ≡ false → letter t ≡ (side, x)
letter_at side t x is free = letter_by side t.jml x (terminal_of t) is free

on_same : (side : Bool) (x : Terminal) → on side (side, x) ≡ x
on_same true x = refl
on_same false x = refl

pub at_letter : (side : Bool) (t : Token) (x : Terminal) → letter t ≡ (side, x) → at_side side t ≡ x
at_letter side t x is = ap (on side) is ∙ on_same side x

-- TOKENS OF ONE KIND

name_of : (x : Terminal) → is_name_terminal x ≡ true → x ≡ terminal.Name
name_of terminal.Name is = refl
name_of x is = absurd (cc)

open_of : (x : Terminal) → is_open_terminal x ≡ true → x ≡ terminal.OpenParen
open_of terminal.OpenParen is = refl
open_of x is = absurd (cc)

close_of : (x : Terminal) → is_close_terminal x ≡ true → x ≡ terminal.CloseParen
close_of terminal.CloseParen is = refl
close_of x is = absurd (cc)

comma_of : (x : Terminal) → is_comma_terminal x ≡ true → x ≡ terminal.Comma
comma_of terminal.Comma is = refl
comma_of x is = absurd (cc)

semicolon_of : (x : Terminal) → is_semicolon_terminal x ≡ true → x ≡ terminal.Semicolon
semicolon_of terminal.Semicolon is = refl
semicolon_of x is = absurd (cc)

pub name_letter : (side : Bool) (t : Token) → is_name side t ≡ true → letter t ≡ (side, terminal.Name)
name_letter side t is = letter_at side t terminal.Name (name_of (at_side side t) is) refl

pub open_letter : (side : Bool) (t : Token) → is_open side t ≡ true → letter t ≡ (side, terminal.OpenParen)
open_letter side t is = letter_at side t terminal.OpenParen (open_of (at_side side t) is) refl

pub close_letter : (side : Bool) (t : Token) → is_close side t ≡ true → letter t ≡ (side, terminal.CloseParen)
close_letter side t is = letter_at side t terminal.CloseParen (close_of (at_side side t) is) refl

pub comma_letter : (side : Bool) (t : Token) → is_comma side t ≡ true → letter t ≡ (side, terminal.Comma)
comma_letter side t is = letter_at side t terminal.Comma (comma_of (at_side side t) is) refl

pub semicolon_letter : (side : Bool) (t : Token) → is_semicolon side t ≡ true → letter t ≡ (side, terminal.Semicolon)
semicolon_letter side t is = letter_at side t terminal.Semicolon (semicolon_of (at_side side t) is) refl

-- KINDS

-- no spelling of the tables is that of a name or a number
abbrev is_free : Terminal → Bool
is_free terminal.Name = true
is_free terminal.Number = true
is_free x = false

abbrev none_free : List Spelling → Bool
none_free [] = true
none_free (s ∷ ss) = elim (is_free s.2) [ true ↦ false | false ↦ none_free ss ]

free_head : (s : Spelling) (ss : List Spelling) → none_free (s ∷ ss) ≡ true → is_free s.2 ≡ false
free_head s ss none = by (is_free s.2) none
  where
    by : (free : Bool) → elim free [ true ↦ false | false ↦ none_free ss ] ≡ true → free ≡ false
    by true is = cc
    by false is = refl

free_tail : (s : Spelling) (ss : List Spelling) → none_free (s ∷ ss) ≡ true → none_free ss ≡ true
free_tail s ss none = by (is_free s.2) none
  where
    by : (free : Bool) → elim free [ true ↦ false | false ↦ none_free ss ] ≡ true → none_free ss ≡ true
    by true is = cc
    by false is = is

found_by : (s : Spelling) (rest : Option Spelling) (other : Terminal) (b : Bool) → is_free s.2 ≡ false → is_free (unwrap_or (option_map (λ (s : Spelling). s.2) rest) other) ≡ false
    → is_free (unwrap_or (option_map (λ (s : Spelling). s.2) (cond b (Some s) rest)) other) ≡ false
found_by s rest other true one others = one
found_by s rest other false one others = others

found : (p : Spelling → Bool) (table : List Spelling) (other : Terminal) → none_free table ≡ true → is_free other ≡ false
    → is_free (unwrap_or (option_map (λ (s : Spelling). s.2) (find p table)) other) ≡ false
found p [] other none is = is
found p (s ∷ ss) other none is = found_by s (find p ss) other (p s) (free_head s ss none) (found p ss other (free_tail s ss none) is)

-- a name is a word
pub name_kind : (jml : Bool) (kind : TokenKind) → terminal_of_kind jml kind ≡ terminal.Name → kind ≡ Word (text_of kind)
name_kind jml (Word bytes) is = refl
name_kind jml (Number n) is = absurd (cc)
name_kind jml Quoted is = absurd (cc)
name_kind jml (Slashed bytes) is = let no : true ≡ false = sym (ap is_free is) ∙ found (λ s. means true s && bytes_eq s.0 bytes) slashed (terminal.Absent Jml) refl refl in absurd (cc)
name_kind jml (Symbol bytes) is = let no : true ≡ false = sym (ap is_free is) ∙ found (λ s. means jml s && bytes_eq s.0 bytes) symbols terminal.Reserved refl refl in absurd (cc)
name_kind jml End is = absurd (cc)

word_not : (jml : Bool) (bytes : List ℕ) → terminal_of_kind jml (Word bytes) ≡ terminal.Number → ⊥
word_not jml bytes is = by (find (λ s. means jml s && bytes_eq s.0 bytes) words) refl is
  where
    by : (r : Option Spelling) → find (λ s. means jml s && bytes_eq s.0 bytes) words ≡ r → unwrap_or (option_map (λ (s : Spelling). s.2) r) terminal.Name ≡ terminal.Number → ⊥
    by None eq so = cc
    by (Some s) eq so =
        let one = found (λ s. means jml s && bytes_eq s.0 bytes) words terminal.Reserved refl refl in
        let two : is_free (unwrap_or (option_map (λ (s : Spelling). s.2) (Some s)) terminal.Reserved) ≡ false = ap (λ r. is_free (unwrap_or (option_map (λ (s : Spelling). s.2) r) terminal.Reserved)) (sym eq) ∙ one in
        let three : is_free s.2 ≡ true = ap is_free so in
        let no : true ≡ false = sym three ∙ two in
        cc

pub number_kind : (jml : Bool) (kind : TokenKind) → terminal_of_kind jml kind ≡ terminal.Number → kind ≡ Number (number_of kind)
number_kind jml (Word bytes) is = absurd (word_not jml bytes is)
number_kind jml (Number n) is = refl
number_kind jml Quoted is = absurd (cc)
number_kind jml (Slashed bytes) is = let no : true ≡ false = sym (ap is_free is) ∙ found (λ s. means true s && bytes_eq s.0 bytes) slashed (terminal.Absent Jml) refl refl in absurd (cc)
number_kind jml (Symbol bytes) is = let no : true ≡ false = sym (ap is_free is) ∙ found (λ s. means jml s && bytes_eq s.0 bytes) symbols terminal.Reserved refl refl in absurd (cc)
number_kind jml End is = absurd (cc)

-- what a token of a letter is
pub letter_terminal : (side : Bool) (t : Token) (x : Terminal) → letter t ≡ (side, x) → terminal_of t ≡ x
letter_terminal side t x is = ap (λ l. l.1) is
