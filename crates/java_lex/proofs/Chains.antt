-- Chains of pieces.
use Rattle.std.proofs.Common.{◌≡◌, ℕ, Bool, true, ◌+◌, ◌<◌, ◌≤◌, List, [], ◌∷◌, ◌++◌, length, drop, refl, sym, ap, ◌∙◌, subst, arith, append_assoc, append-nil as append_nil}
use Rattle.std.proofs.lemmas.Grind.{common_steps}
use Rattle.java_lex.specs.declared.token.Token.{Token}
use Rattle.java_lex.specs.declared.front.Front.{Front}
use Rattle.java_lex.specs.Fronts.{front_in}
use Rattle.java_lex.specs.Cut.{Rule, Chain, IsPlain, IsInside}
use Rattle.java_lex.specs.Steps.{Takes, Reaches}

-- one more piece at the end
pub chain_more : (Piece : Rule) (ns : List ℕ) (at : ℕ) (text : List ℕ) (tokens : List Token) (end : ℕ) (rest : List ℕ) (n : ℕ) (gained : List Token)
    → Chain Piece ns at text tokens end rest → 0 < n → n ≤ length rest → Piece end rest n gained → Chain Piece (ns ++ n ∷ []) at text (tokens ++ gained) (end + n) (drop n rest)
chain_more Piece [] at text tokens end rest n gained (none, here, same) some within piece =
    (gained, [], ap (λ ts. ts ++ gained) none ∙ sym (append_nil gained), some, subst (λ (t : List ℕ). n ≤ length t) same within, subst (λ (t : List ℕ). Piece at t n gained) same (subst (λ (p : ℕ). Piece p rest n gained) here piece), (refl, ap (λ p. p + n) here, ap (drop n) same))
chain_more Piece (m ∷ ms) at text tokens end rest n gained (first, more, all, pos, fits, is, chain) some within piece =
    (first, more ++ gained, ap (λ ts. ts ++ gained) all ∙ append_assoc first more gained, pos, fits, is, chain_more Piece ms (at + m) (drop m text) more end rest n gained chain some within piece)

-- at the beginning
pub reaches_start : (Piece : Rule) (at : ℕ) (text : List ℕ) (old : List Token) → Reaches Piece at text old old at text
reaches_start Piece at text old = record { gained = []; all = sym (append_nil old); leads = record { lengths = []; chain = (refl, refl, refl) }; size = refl }

-- one more piece
pub reaches_more : (Piece : Rule) (at : ℕ) (text : List ℕ) (old new newer : List Token) (place : ℕ) (rest : List ℕ) (n : ℕ)
    → Reaches Piece at text old new place rest → Takes Piece place rest new newer n → Reaches Piece at text old newer (place + n) (drop n rest)
reaches_more Piece at text old new newer place rest n reaches takes = record {
  gained = reaches.gained ++ takes.gained;
  all = takes.all ∙ ap (λ ts. ts ++ takes.gained) reaches.all ∙ append_assoc old reaches.gained takes.gained;
  leads = record {
    lengths = reaches.leads.lengths ++ n ∷ [];
    chain = chain_more Piece reaches.leads.lengths at text reaches.gained place rest n takes.gained reaches.leads.chain takes.some takes.within takes.piece;
  };
  size = grind (arith, common_steps, reaches.size, takes.within);
}

-- one more piece, in a loop's words
pub reaches_next : {Piece : Rule} {at : ℕ} {text : List ℕ} {old new newer : List Token} {place : ℕ} {rest behind : List ℕ} {n : ℕ}
    → Reaches Piece at text old new place rest → Takes Piece place rest new newer n → behind ≡ drop n rest → Reaches Piece at text old newer (place + n) behind
reaches_next {Piece} {at} {text} {old} {new} {newer} {place} {rest} {behind} {n} reaches takes is =
    subst (λ (b : List ℕ). Reaches Piece at text old newer (place + n) b) (sym is) (reaches_more Piece at text old new newer place rest n reaches takes)

-- a piece of an annotation, by what stands at the front of its rest
pub takes_inside : (closed : Bool) {front : Front} {at : ℕ} {text : List ℕ} {old new : List Token} {n : ℕ}
    → Takes (IsPlain true front) at text old new n → front ≡ front_in closed text → Takes (IsInside closed) at text old new n
takes_inside closed {front} {at} {text} {old} {new} {n} takes is = record {
  gained = takes.gained;
  all = takes.all;
  some = takes.some;
  within = takes.within;
  piece = subst (λ (f : Front). IsPlain true f at text n takes.gained) is takes.piece;
}
