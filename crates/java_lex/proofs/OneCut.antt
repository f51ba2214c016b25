-- A text is cut in one way, or has one first bad place.
use Rattle.std.proofs.Common.{◌≡◌, ℕ, ◌+◌, ◌<◌, ◌≤◌, Bool, true, false, List, [], ◌∷◌, ◌++◌, length, take, drop, sym, ap, ◌∙◌, subst, arith}
use Rattle.java_lex.specs.declared.front.Front.{Front}
use Rattle.java_lex.specs.declared.front.Front.TheVariants.{Gap, Token as token, Bad}
use Rattle.java_lex.specs.declared.front.Outside.{Outside}
use Rattle.java_lex.specs.declared.front.Outside.TheVariants.{Plain, Note}
use Rattle.java_lex.specs.declared.token.Token.{Token}
use Rattle.java_lex.specs.Fronts.{front_in, front_out}
use Rattle.java_lex.specs.Cut.{Rule, Chain, IsPlain, IsInside, IsNote, IsOutside, IsPiece, Cut, IsBad, IsBadNote, BadAt, end_at}

-- at one place at most one piece stands
abbrev pub Single : Rule → Type 0
Single Piece = (at : ℕ) (text : List ℕ) (n m : ℕ) (ts us : List Token) → Piece at text n ts → Piece at text m us → (n ≡ m) × (ts ≡ us)

-- no piece that has bytes stands here
abbrev pub Final : Rule → ℕ → List ℕ → Type 0
Final Piece at text = (n : ℕ) (ts : List Token) → 0 < n → n ≤ length text → Piece at text n ts → ⊥

final_nil : (Piece : Rule) (at : ℕ) → Final Piece at []
final_nil Piece at n ts some within piece = omega arith

-- Chains from one place to ends behind which none goes on are the same.
pub record Same (ts us : List Token) (end end' : ℕ) (rest rest' : List ℕ) : Type 0 where
  pub tokens : ts ≡ us
  pub place : end ≡ end'
  pub left : rest ≡ rest'

final_here : (Piece : Rule) (at : ℕ) (text : List ℕ) (end : ℕ) (rest : List ℕ) → end ≡ at → rest ≡ text → Final Piece end rest → Final Piece at text
final_here Piece at text end rest here same final = subst (λ (p : ℕ). Final Piece p text) here (subst (λ (t : List ℕ). Final Piece end t) same final)

pub chain_same : (Piece : Rule) → Single Piece → (ns ms : List ℕ) (at : ℕ) (text : List ℕ) (ts us : List Token) (end end' : ℕ) (rest rest' : List ℕ)
    → Final Piece end rest → Final Piece end' rest' → Chain Piece ns at text ts end rest → Chain Piece ms at text us end' rest' → Same ts us end end' rest rest'
chain_same Piece single [] [] at text ts us end end' rest rest' final final' (none, here, same) (none', here', same') =
    record { tokens = none ∙ sym none'; place = here ∙ sym here'; left = same ∙ sym same' }
chain_same Piece single [] (m ∷ ms) at text ts us end end' rest rest' final final' (none, here, same) (first, more, all, some, within, piece, chain) =
    absurd (final_here Piece at text end rest here same final m first some within piece)
chain_same Piece single (n ∷ ns) [] at text ts us end end' rest rest' final final' (first, more, all, some, within, piece, chain) (none, here, same) =
    absurd (final_here Piece at text end' rest' here same final' n first some within piece)
chain_same Piece single (n ∷ ns) (m ∷ ms) at text ts us end end' rest rest' final final' (first, more, all, some, within, piece, chain) (first', more', all', some', within', piece', chain') =
    let one = single at text n m first first' piece piece' in
    let chain'' = subst (λ (k : ℕ). Chain Piece ms (at + k) (drop k text) more' end' rest') (sym one.0) chain' in
    let same = chain_same Piece single ns ms (at + n) (drop n text) more more' end end' rest rest' final final' chain chain'' in
    record { tokens = all ∙ ap (λ a. a ++ more) one.1 ∙ ap (λ b. first' ++ b) same.tokens ∙ sym all'; place = same.place; left = same.left }

-- inside annotations

plain_single : (jml : Bool) (front : Front) (at : ℕ) (text : List ℕ) (n m : ℕ) (ts us : List Token) → IsPlain jml front at text n ts → IsPlain jml front at text m us → (n ≡ m) × (ts ≡ us)
plain_single jml (Gap k) at text n m ts us (a, b) (c, d) = (a ∙ sym c, b ∙ sym d)
plain_single jml (token shape k) at text n m ts us (a, b) (c, d) = (a ∙ sym c, b ∙ sym d)
plain_single jml Bad at text n m ts us piece other = absurd piece

pub inside_single : (closed : Bool) → Single (IsInside closed)
inside_single closed at text n m ts us = plain_single true (front_in closed text) at text n m ts us

pub note_single : (closed : Bool) (at : ℕ) (content : List ℕ) (ts us : List Token) → IsNote closed at content ts → IsNote closed at content us → ts ≡ us
note_single closed at content ts us a b =
    (chain_same (IsInside closed) (inside_single closed) a.lengths b.lengths _ _ ts us _ _ [] [] (final_nil (IsInside closed) _) (final_nil (IsInside closed) _) a.chain b.chain).tokens

bad_final : (closed : Bool) (place : ℕ) (rest : List ℕ) → front_in closed rest ≡ Bad → Final (IsInside closed) place rest
bad_final closed place rest bad n ts some within piece = subst (λ (f : Front). IsPlain true f place rest n ts) bad piece

-- nothing is bad where nothing is left
no_bad_nil : (closed : Bool) → front_in closed [] ≡ Bad → ⊥
no_bad_nil true is = cc
no_bad_nil false is = cc

note_or_bad : (closed : Bool) (at : ℕ) (content : List ℕ) (ts : List Token) (place : ℕ) → IsNote closed at content ts → IsBadNote closed at content place → ⊥
note_or_bad closed at content ts place a b =
    let same = chain_same (IsInside closed) (inside_single closed) a.lengths b.leads.lengths _ _ ts b.before _ place [] b.rest (final_nil (IsInside closed) _) (bad_final closed place b.rest b.bad) a.chain b.leads.chain in
    no_bad_nil closed (ap (front_in closed) same.left ∙ b.bad)

bad_note_single : (closed : Bool) (at : ℕ) (content : List ℕ) (p q : ℕ) → IsBadNote closed at content p → IsBadNote closed at content q → p ≡ q
bad_note_single closed at content p q a b =
    (chain_same (IsInside closed) (inside_single closed) a.leads.lengths b.leads.lengths _ _ a.before b.before p q a.rest b.rest (bad_final closed p a.rest a.bad) (bad_final closed q b.rest b.bad) a.leads.chain b.leads.chain).place

-- outside

outside_single : (front : Outside) (at : ℕ) (text : List ℕ) (n m : ℕ) (ts us : List Token) → IsOutside front at text n ts → IsOutside front at text m us → (n ≡ m) × (ts ≡ us)
outside_single (Plain front) at text n m ts us a b = plain_single false front at text n m ts us a b
outside_single (Note content whole closed) at text n m ts us (a, b) (c, d) = (a ∙ sym c, note_single closed (at + 2) (take content (drop 2 text)) ts us b d)

pub piece_single : Single IsPiece
piece_single at text n m ts us = outside_single (front_out text) at text n m ts us

piece_or_bad : (front : Outside) (at : ℕ) (text : List ℕ) (n : ℕ) (ts : List Token) (place : ℕ) → IsOutside front at text n ts → IsBad at text front place → ⊥
piece_or_bad (Plain (Gap k)) at text n ts place piece bad = bad
piece_or_bad (Plain (token shape k)) at text n ts place piece bad = bad
piece_or_bad (Plain Bad) at text n ts place piece bad = piece
piece_or_bad (Note content whole closed) at text n ts place piece bad = note_or_bad closed (at + 2) (take content (drop 2 text)) ts place piece.1 bad

pub stuck_final : (at : ℕ) (rest : List ℕ) (place : ℕ) → IsBad at rest (front_out rest) place → Final IsPiece at rest
stuck_final at rest place bad n ts some within piece = piece_or_bad (front_out rest) at rest n ts place piece bad

bad_single : (front : Outside) (at : ℕ) (text : List ℕ) (p q : ℕ) → IsBad at text front p → IsBad at text front q → p ≡ q
bad_single (Plain (Gap k)) at text p q a b = absurd a
bad_single (Plain (token shape k)) at text p q a b = absurd a
bad_single (Plain Bad) at text p q a b = a ∙ sym b
bad_single (Note content whole closed) at text p q a b = bad_note_single closed (at + 2) (take content (drop 2 text)) p q a b

-- the laws

pub cut_one : (text : List ℕ) (ts us : List Token) → Cut text ts → Cut text us → ts ≡ us
cut_one text ts us a b =
    let same = chain_same IsPiece piece_single a.leads.lengths b.leads.lengths 0 text a.before b.before (length text) (length text) [] [] (final_nil IsPiece (length text)) (final_nil IsPiece (length text)) a.leads.chain b.leads.chain in
    a.whole ∙ ap (λ before. before ++ end_at (length text) ∷ []) same.tokens ∙ sym b.whole

pub cut_or_bad : (text : List ℕ) (ts : List Token) (place : ℕ) → Cut text ts → BadAt text place → ⊥
cut_or_bad text ts place a b =
    let same = chain_same IsPiece piece_single a.leads.lengths b.leads.lengths 0 text a.before b.before (length text) b.at [] b.rest (final_nil IsPiece (length text)) (stuck_final b.at b.rest place b.bad) a.leads.chain b.leads.chain in
    let P : List ℕ → Type 0 = λ rest. IsBad b.at rest (front_out rest) place in
    subst P (sym same.left) b.bad

pub bad_one : (text : List ℕ) (p q : ℕ) → BadAt text p → BadAt text q → p ≡ q
bad_one text p q a b =
    let same = chain_same IsPiece piece_single a.leads.lengths b.leads.lengths 0 text a.before b.before a.at b.at a.rest b.rest (stuck_final a.at a.rest p a.bad) (stuck_final b.at b.rest q b.bad) a.leads.chain b.leads.chain in
    let P : ℕ → List ℕ → Type 0 = λ at rest. IsBad at rest (front_out rest) q in
    bad_single (front_out a.rest) a.at a.rest p q a.bad (subst (λ (at : ℕ). P at a.rest) (sym same.place) (subst (λ (rest : List ℕ). P b.at rest) (sym same.left) b.bad))
