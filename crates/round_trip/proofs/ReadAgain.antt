-- A printed text is cut into tokens that are its tree.
use Rattle.std.proofs.Common.{◌≡◌, ℕ, ◌≤◌, Bool, true, false, List, [], ◌∷◌, ◌++◌, length, lit<, lit≤, ◌+◌, refl, sym, ◌∙◌, ap, subst, append_assoc, append-nil as append_nil, arith}
use Rattle.std.specs.List.{flat_map}
use Rattle.std.specs.Fmt.{decimal}
use Rattle.java_lex.specs.declared.token.Token.{Token}
use Rattle.java_lex.specs.declared.token.TokenKind.{TokenKind}
use Rattle.java_lex.specs.declared.token.TokenKind.TheVariants as kind
use Rattle.java_lex.specs.declared.words.TheConstants.{CLASS, OPEN_BRACE, CLOSE_BRACE}
use Rattle.java_lex.specs.Cut.{IsPiece, Leads, Cut, end_at}
use Rattle.java_lex.proofs.Written.{IsWordText, IsWritten, AllWritten, cut_written, decimal_text, word_inside, word_outside, number_inside, number_outside}
use Rattle.java_lex.proofs.Notes.{word_solid, number_solid}
use Rattle.java_tree.specs.Trees.{Class, Classes}
use Rattle.java_tree.specs.Members.{text}
use Rattle.java_tree.specs.Reading.{Parse}
use Rattle.java_tree.specs.Print.{Word, symbol, word, modifiers_written, part_written, class_written, tree_written, laid_out, pieces}
use Rattle.java_tree.specs.Spaced.{spaced}
use Rattle.round_trip.specs.Again.{IsReadAgain}
use Rattle.round_trip.proofs.Spells.{Spellable, AllSpellable, IsKnown, Known}
use Rattle.round_trip.proofs.Members.{unit_again}
use Rattle.round_trip.proofs.PrintedText.{Laid, laid_last, text_laid, spellable_front, chain_end}

-- THE TOKENS OF A TEXT CAN BE WRITTEN AGAIN

word_known : (jml : Bool) (bytes : List ℕ) → IsWordText bytes → Spellable (jml, kind.Word bytes)
word_known true bytes is = let solid = word_solid bytes is in record { some = solid.some; solid = solid.solid; inner = solid.inner; piece = λ at rest. word_inside at bytes rest is }
word_known false bytes is = let solid = word_solid bytes is in record { some = solid.some; solid = solid.solid; inner = solid.inner; piece = λ at rest. word_outside at bytes rest is }

number_known : (jml : Bool) (n : ℕ) → n ≤ 2147483647 → Spellable (jml, kind.Number n)
number_known true n low =
    let is = decimal_text n low in
    let solid = number_solid n (decimal n) is in
    record { some = solid.some; solid = solid.solid; inner = solid.inner; piece = λ at rest. number_inside at n (decimal n) rest is }
number_known false n low =
    let is = decimal_text n low in
    let solid = number_solid n (decimal n) is in
    record { some = solid.some; solid = solid.solid; inner = solid.inner; piece = λ at rest. number_outside at n (decimal n) rest is }

kind_known : (jml : Bool) (k : TokenKind) → IsWritten k → IsKnown jml k
kind_known jml (kind.Word bytes) is = word_known jml bytes is
kind_known jml (kind.Number n) low = number_known jml n low
kind_known jml kind.Quoted is = tt
kind_known jml (kind.Slashed bytes) is = tt
kind_known jml (kind.Symbol bytes) is = tt
kind_known jml kind.End is = tt

known : (ts : List Token) (last : Token) → AllWritten ts → last.kind ≡ kind.End → Known (ts ++ last ∷ [])
known [] last is ends = (subst (λ (k : TokenKind). IsKnown last.jml k) (sym ends) tt, tt)
known (t ∷ ts) last is ends = (kind_known t.jml t.kind is.0, known ts last is.1 ends)

-- THE LAST BRACE

abbrev brace : List Word
brace = symbol false CLOSE_BRACE.now

-- the words up to the last brace
pub record Braced (cs : Classes) : Type 0 where
  pub front : List Word
  pub parts : tree_written cs ≡ front ++ brace

class_braced : (c : Class) → Braced (c ∷ [])
class_braced c = record {
  front = ((modifiers_written c.mods ++ word false CLASS.now) ++ word false c.name.text) ++ (symbol false OPEN_BRACE.now ++ flat_map part_written c.members);
  parts = append_nil (class_written c) ∙ sym (append_assoc ((modifiers_written c.mods ++ word false CLASS.now) ++ word false c.name.text) (symbol false OPEN_BRACE.now ++ flat_map part_written c.members) brace);
}

braced : (c : Class) (cs : Classes) → Braced (c ∷ cs)
braced c [] = class_braced c
braced c (d ∷ ds) =
    let rest = braced d ds in
    record {
      front = class_written c ++ rest.front;
      parts = ap (λ (ws : List Word). class_written c ++ ws) rest.parts ∙ sym (append_assoc (class_written c) rest.front brace);
    }

-- AGAIN

last_laid : (place : ℕ) → Laid IsPiece brace place (125 ∷ 10 ∷ [])
last_laid place = record {
  tokens = record { kind = kind.Symbol CLOSE_BRACE.now; jml = false; from = place; to = place + 1 } ∷ [];
  end = place + 1 + 1;
  leads = record { lengths = 1 ∷ 1 ∷ []; chain = (_ ∷ [], [], refl, lit< tt, lit≤ tt, (refl, refl), ([], [], refl, lit< tt, lit≤ tt, (refl, refl), (refl, refl, refl))) };
  spelled = λ behind. (record { kind = kind.Symbol CLOSE_BRACE.now; jml = false; from = place; to = place + 1 }, behind, refl, refl, refl, refl);
}

-- the whole text, and its tokens up to the end
printed : (cs : Classes) (b : Braced cs) → AllSpellable (tree_written cs) → Laid IsPiece (tree_written cs) 0 (laid_out (tree_written cs))
printed cs b good =
    let front = spellable_front b.front brace (subst AllSpellable b.parts good) in
    let laid = text_laid (length b.front) b.front (omega arith) front brace (125 ∷ 10 ∷ []) refl last_laid 0 in
    let words = subst (λ (ws : List Word). Laid IsPiece ws 0 (spaced (pieces false b.front) ++ 125 ∷ 10 ∷ [])) (sym b.parts) laid in
    subst (λ (t : List ℕ). Laid IsPiece (tree_written cs) 0 t) (sym (ap laid_out b.parts ∙ laid_last b.front (kind.Symbol CLOSE_BRACE.now))) words

read_by : (cs : Classes) → Braced cs → (tokens : List Token) → Known tokens → Parse tokens cs → IsReadAgain cs
read_by cs b tokens known_so parse =
    let (m, mid, is_unit, last) = parse.parse in
    let (known_behind, redo) = (unit_again cs).again 0 tokens m mid known_so is_unit in
    let laid = printed cs b redo.good in
    let printed_text = laid_out (tree_written cs) in
    let end = end_at (length printed_text) in
    let ends : laid.end ≡ length printed_text = let e = chain_end IsPiece laid.leads.lengths 0 printed_text laid.tokens laid.end [] laid.leads.chain in omega (arith, e) in
    let (ds, same, unit_so) = redo.redo (laid.tokens ++ end ∷ []) (end ∷ []) (laid.spelled (end ∷ [])) in
    record {
      tokens = laid.tokens ++ end ∷ [];
      classes = ds;
      cut = record { before = laid.tokens; leads = subst (λ (e : ℕ). Leads IsPiece 0 printed_text laid.tokens e []) ends laid.leads; whole = refl };
      parse = record { levels = m; parse = (m, end ∷ [], unit_so, (end, refl, refl, refl)) };
      same = same;
    }

-- each word that is written of a text can stand in one
pub words_spell : (text : List ℕ) (tokens : List Token) (cs : Classes) → Cut text tokens → Parse tokens cs → AllSpellable (tree_written cs)
words_spell text tokens cs cut parse =
    let (m, mid, is_unit, last) = parse.parse in
    let (known_behind, redo) = (unit_again cs).again 0 tokens m mid (subst Known (sym cut.whole) (known cut.before (end_at (length text)) (cut_written text tokens cut) refl)) is_unit in
    redo.good

pub read_again : (text : List ℕ) (tokens : List Token) (cs : Classes) → Cut text tokens → Parse tokens cs → IsReadAgain cs
read_again text tokens [] cut parse = absurd parse.parse.2.0
read_again text tokens (c ∷ cs) cut parse =
    read_by (c ∷ cs) (braced c cs) tokens (subst Known (sym cut.whole) (known cut.before (end_at (length text)) (cut_written text tokens cut) refl)) parse
