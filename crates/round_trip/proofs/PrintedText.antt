-- What is printed is cut into tokens that spell the words.
use Rattle.std.proofs.Common.{◌≡◌, ℕ, zero, suc, ◌+◌, ◌<◌, ◌≤◌, Bool, true, false, List, [], ◌∷◌, ◌++◌, length, drop, map, refl, sym, ◌∙◌, ap, subst, append_assoc, arith, codes, lit<, lit≤}
use Rattle.std.proofs.lemmas.Grind.{common_steps}
use Rattle.std.proofs.lemmas.List.Folds.{list_all-append}
use Rattle.std.specs.List.{join_with_byte, prefix_len, list_all}
use Rattle.java_lex.specs.declared.token.Token.{Token}
use Rattle.java_lex.specs.declared.token.TokenKind.{TokenKind}
use Rattle.java_lex.specs.Bytes.{is_white}
use Rattle.java_lex.specs.Cut.{Rule, Chain, Leads, IsInside, IsPiece}
use Rattle.java_lex.proofs.Notes.{is_inner, gap_outside, gap_inside, sign_inside, note_piece}
use Rattle.java_tree.specs.Print.{Word, bytes_of, sign_between, pieces, laid_out}
use Rattle.java_tree.specs.Spaced.{spaced}
use Rattle.round_trip.proofs.Spells.{Spells, spells_append, Spellable, AllSpellable, IsPieceOf}

-- THE TEXT UP TO ITS LAST WORD

join_last : (ps : List (List ℕ)) (b : List ℕ) → join_with_byte 32 (ps ++ b ∷ []) ≡ spaced ps ++ b
join_last [] b = refl
join_last (p ∷ []) b = simp append_assoc
join_last (p ∷ q ∷ ps) b = ap (λ (t : List ℕ). p ++ 32 ∷ t) (join_last (q ∷ ps) b) ∙ sym (append_assoc (p ++ 32 ∷ []) (spaced (q ∷ ps)) b ∙ append_assoc p (32 ∷ []) (spaced (q ∷ ps) ++ b))

pieces_last : (inside : Bool) (ws : List Word) (k : TokenKind) → pieces inside (ws ++ (false, k) ∷ []) ≡ pieces inside ws ++ bytes_of k ∷ []
pieces_last inside [] k = refl
pieces_last inside (v ∷ ws) k =
    ap (λ (ps : List (List ℕ)). sign_between inside v.0 ++ bytes_of v.1 ∷ ps) (pieces_last v.0 ws k) ∙ sym (append_assoc (sign_between inside v.0) (bytes_of v.1 ∷ pieces v.0 ws) (bytes_of k ∷ []))

pub laid_last : (ws : List Word) (k : TokenKind) → laid_out (ws ++ (false, k) ∷ []) ≡ spaced (pieces false ws) ++ (bytes_of k ++ 10 ∷ [])
laid_last ws k =
    ap (λ (ps : List (List ℕ)). join_with_byte 32 ps ++ 10 ∷ []) (pieces_last false ws k) ∙ ap (λ (t : List ℕ). t ++ 10 ∷ []) (join_last (pieces false ws) (bytes_of k)) ∙ append_assoc (spaced (pieces false ws)) (bytes_of k) (10 ∷ [])

spaced_append : (ps qs : List (List ℕ)) → spaced (ps ++ qs) ≡ spaced ps ++ spaced qs
spaced_append [] qs = refl
spaced_append (p ∷ ps) qs = ap (λ (t : List ℕ). (p ++ 32 ∷ []) ++ t) (spaced_append ps qs) ∙ sym (append_assoc (p ++ 32 ∷ []) (spaced ps) (spaced qs))

-- the first piece with its space
spaced_first : (p : List ℕ) (ps : List (List ℕ)) (rest : List ℕ) → spaced (p ∷ ps) ++ rest ≡ p ++ 32 ∷ (spaced ps ++ rest)
spaced_first p ps rest = append_assoc (p ++ 32 ∷ []) (spaced ps) rest ∙ append_assoc p (32 ∷ []) (spaced ps ++ rest)

-- PIECES

drop_all : (bs rest : List ℕ) → drop (length bs) (bs ++ rest) ≡ rest
drop_all [] rest = refl
drop_all (b ∷ bs) rest = drop_all bs rest

-- a piece before others
leads_add : (Piece : Rule) (bytes text : List ℕ) (at : ℕ) (first more : List Token) (end : ℕ) (rest : List ℕ)
    → 0 < length bytes → Piece at (bytes ++ text) (length bytes) first → Leads Piece (at + length bytes) text more end rest → Leads Piece at (bytes ++ text) (first ++ more) end rest
leads_add Piece bytes text at first more end rest some piece leads = record {
  lengths = length bytes ∷ leads.lengths;
  chain = (first, more, refl, some, grind (arith, common_steps), piece, subst (λ (t : List ℕ). Chain Piece leads.lengths (at + length bytes) t more end rest) (sym (drop_all bytes text)) leads.chain);
}

-- where pieces lead to
pub chain_end : (Piece : Rule) (ns : List ℕ) (at : ℕ) (text : List ℕ) (tokens : List Token) (end : ℕ) (rest : List ℕ) → Chain Piece ns at text tokens end rest → end + length rest ≡ at + length text
chain_end Piece [] at text tokens end rest (none, here, same) = let sizes = ap length same in omega arith
chain_end Piece (n ∷ ns) at text tokens end rest (first, more, all, some, fits, piece, chain) = let behind = chain_end Piece ns (at + n) (drop n text) more end rest chain in grind (arith, common_steps, behind, fits)

-- WORDS

-- Pieces from here to the end of the text, with tokens that spell the words.
pub record Laid (Piece : Rule) (ws : List Word) (at : ℕ) (text : List ℕ) : Type 0 where
  pub tokens : List Token
  pub end : ℕ
  pub leads : Leads Piece at text tokens end []
  pub spelled : (behind : List Token) → Spells ws (tokens ++ behind) behind

-- no white space stands first
abbrev pub Solid : List ℕ → Type 0
Solid text = prefix_len is_white text ≡ 0

gap_of : (side : Bool) (at : ℕ) (text : List ℕ) → Solid text → IsPieceOf side at (32 ∷ text) 1 []
gap_of false at text solid = gap_outside at text solid
gap_of true at text solid = gap_inside at text solid

-- a word and a space before others
word_laid : (side : Bool) (k : TokenKind) (ws : List Word) (at : ℕ) (text : List ℕ) → Spellable (side, k) → Solid text → Laid (IsPieceOf side) ws (at + length (bytes_of k) + 1) text → Laid (IsPieceOf side) ((side, k) ∷ ws) at (bytes_of k ++ 32 ∷ text)
word_laid side k ws at text good solid laid =
    let t : Token = record { kind = k; jml = side; from = at; to = at + length (bytes_of k) } in
    record {
      tokens = t ∷ laid.tokens;
      end = laid.end;
      leads = leads_add (IsPieceOf side) (bytes_of k) (32 ∷ text) at (t ∷ []) laid.tokens laid.end [] good.some (good.piece at text)
          (leads_add (IsPieceOf side) (32 ∷ []) text (at + length (bytes_of k)) [] laid.tokens laid.end [] (lit< tt) (gap_of side (at + length (bytes_of k)) text solid) laid.leads);
      spelled = λ behind. (t, laid.tokens ++ behind, refl, refl, refl, laid.spelled behind);
    }

-- words in an annotation
abbrev noted : List TokenKind → List Word
noted ks = map (λ k. (true, k)) ks

abbrev note_bytes : List TokenKind → List (List ℕ)
note_bytes ks = map bytes_of ks

note_solid : (ks : List TokenKind) → AllSpellable (noted ks) → Solid (spaced (note_bytes ks) ++ 64 ∷ [])
note_solid [] good = refl
note_solid (k ∷ ks) good = ap (prefix_len is_white) (spaced_first (bytes_of k) (note_bytes ks) (64 ∷ [])) ∙ good.0.solid (32 ∷ (spaced (note_bytes ks) ++ 64 ∷ []))

-- the words of an annotation, up to the `@` before its end
note_laid : (ks : List TokenKind) (at : ℕ) → AllSpellable (noted ks) → Laid (IsInside true) (noted ks) at (spaced (note_bytes ks) ++ 64 ∷ [])
note_laid [] at good = record {
  tokens = [];
  end = at + 1;
  leads = leads_add (IsInside true) (64 ∷ []) [] at [] [] (at + 1) [] (lit< tt) (sign_inside at) (record { lengths = []; chain = (refl, refl, refl) });
  spelled = λ behind. refl;
}
note_laid (k ∷ ks) at good =
    subst (λ (t : List ℕ). Laid (IsInside true) (noted (k ∷ ks)) at t) (sym (spaced_first (bytes_of k) (note_bytes ks) (64 ∷ [])))
    (word_laid true k (noted ks) at (spaced (note_bytes ks) ++ 64 ∷ []) good.0 (note_solid ks good.1) (note_laid ks (at + length (bytes_of k) + 1) good.1))

-- ANNOTATIONS

inner_append : (xs ys : List ℕ) → list_all is_inner xs ≡ true → list_all is_inner ys ≡ true → list_all is_inner (xs ++ ys) ≡ true
inner_append xs ys a b = grind (arith, common_steps, list_all-append is_inner xs ys, a, b)

note_inner : (ks : List TokenKind) → AllSpellable (noted ks) → list_all is_inner (spaced (note_bytes ks)) ≡ true
note_inner [] good = refl
note_inner (k ∷ ks) good = inner_append (bytes_of k ++ 32 ∷ []) (spaced (note_bytes ks)) (inner_append (bytes_of k) (32 ∷ []) good.0.inner refl) (note_inner ks good.1)

-- what stands behind the first `@` of an annotation with these words, up to its end
abbrev content_of : List TokenKind → List ℕ
content_of ks = 32 ∷ (spaced (note_bytes ks) ++ 64 ∷ [])

-- a whole annotation and a space, before others
annotation_laid : (ks : List TokenKind) (ws : List Word) (at : ℕ) (text : List ℕ) → AllSpellable (noted ks) → Solid text → ((place : ℕ) → Laid IsPiece ws place text)
    → Laid IsPiece (noted ks ++ ws) at ((47 ∷ 42 ∷ 64 ∷ (content_of ks ++ 42 ∷ 47 ∷ [])) ++ 32 ∷ text)
annotation_laid ks ws at text good solid behind =
    let inside = note_laid ks (at + 4) good in
    let content = content_of ks in
    let bytes : List ℕ = 47 ∷ 42 ∷ 64 ∷ (content ++ 42 ∷ 47 ∷ []) in
    let size : 4 + length (64 ∷ content) ≡ length bytes = grind (arith, common_steps) in
    let more = behind (at + length bytes + 1) in
    let ends : inside.end ≡ at + 2 + length (64 ∷ content) = let e = chain_end (IsInside true) inside.leads.lengths (at + 4) (spaced (note_bytes ks) ++ 64 ∷ []) inside.tokens inside.end [] inside.leads.chain in omega (arith, e) in
    let start : at + 2 + 1 + 1 ≡ at + 4 = omega arith in
    let leads_in : Leads (IsInside true) (at + 2 + 1) content inside.tokens inside.end []
    = leads_add (IsInside true) (32 ∷ []) (spaced (note_bytes ks) ++ 64 ∷ []) (at + 2 + 1) [] inside.tokens inside.end [] (lit< tt) (gap_inside (at + 2 + 1) (spaced (note_bytes ks) ++ 64 ∷ []) (note_solid ks good))
    (subst (λ (p : ℕ). Leads (IsInside true) p (spaced (note_bytes ks) ++ 64 ∷ []) inside.tokens inside.end []) (sym start) inside.leads) in
    let note = subst (λ (e : ℕ). Leads (IsInside true) (at + 2 + 1) content inside.tokens e []) ends leads_in in
    let piece : IsPiece at (47 ∷ 42 ∷ 64 ∷ (content ++ 42 ∷ 47 ∷ 32 ∷ text)) (4 + length (64 ∷ content)) inside.tokens
    = note_piece at content (32 ∷ text) inside.tokens (inner_append (spaced (note_bytes ks)) (64 ∷ []) (note_inner ks good) refl) note in
    let piece' : IsPiece at (bytes ++ 32 ∷ text) (length bytes) inside.tokens
    = subst (λ (t : List ℕ). IsPiece at t (length bytes) inside.tokens) (ap (λ (t : List ℕ). 47 ∷ 42 ∷ 64 ∷ t) (sym (append_assoc content (42 ∷ 47 ∷ []) (32 ∷ text))))
    (subst (λ (n : ℕ). IsPiece at (47 ∷ 42 ∷ 64 ∷ (content ++ 42 ∷ 47 ∷ 32 ∷ text)) n inside.tokens) size piece) in
    record {
      tokens = inside.tokens ++ more.tokens;
      end = more.end;
      leads = leads_add IsPiece bytes (32 ∷ text) at inside.tokens more.tokens more.end [] (omega arith) piece'
          (leads_add IsPiece (32 ∷ []) text (at + length bytes) [] more.tokens more.end [] (lit< tt) (gap_outside (at + length bytes) text solid) more.leads);
      spelled = λ rest. subst (λ (ts : List Token). Spells (noted ks ++ ws) ts rest) (sym (append_assoc inside.tokens more.tokens rest)) (spells_append (noted ks) ws _ _ _ (inside.spelled (more.tokens ++ rest)) (more.spelled rest));
    }

-- TEXTS

-- the longest front of the words that stands in annotations
pub record Parted (ws : List Word) : Type 0 where
  pub ks : List TokenKind
  pub rest : List Word
  pub parts : ws ≡ noted ks ++ rest
  pub laid : pieces true ws ≡ note_bytes ks ++ codes "@*/" ∷ pieces false rest
  pub less : length rest ≤ length ws

part : (ws : List Word) → Parted ws
part [] = record { ks = []; rest = []; parts = refl; laid = refl; less = lit≤ tt }
part ((false, k) ∷ ws) = record { ks = []; rest = (false, k) ∷ ws; parts = refl; laid = refl; less = omega arith }
part ((true, k) ∷ ws) =
    let p = part ws in
    record {
      ks = k ∷ p.ks;
      rest = p.rest;
      parts = ap (λ (vs : List Word). (true, k) ∷ vs) p.parts;
      laid = ap (λ (ps : List (List ℕ)). bytes_of k ∷ ps) p.laid;
      less = let low = p.less in omega arith;
    }

pub spellable_front : (v w : List Word) → AllSpellable (v ++ w) → AllSpellable v
spellable_front [] w good = tt
spellable_front (x ∷ v) w good = (good.0, spellable_front v w good.1)

pub spellable_behind : (v w : List Word) → AllSpellable (v ++ w) → AllSpellable w
spellable_behind [] w good = good
spellable_behind (x ∷ v) w good = spellable_behind v w good.1

text_solid : (ws : List Word) (rest : List ℕ) → AllSpellable ws → Solid rest → Solid (spaced (pieces false ws) ++ rest)
text_solid [] rest good solid = solid
text_solid ((false, k) ∷ ws) rest good solid = ap (prefix_len is_white) (spaced_first (bytes_of k) (pieces false ws) rest) ∙ good.0.solid (32 ∷ (spaced (pieces false ws) ++ rest))
text_solid ((true, k) ∷ ws) rest good solid = refl

-- an annotation first, by the words in it and those behind it
annotated : (ks : List TokenKind) (ps : List (List ℕ)) (rest : List ℕ)
    → (47 ∷ 42 ∷ 64 ∷ (content_of ks ++ 42 ∷ 47 ∷ [])) ++ 32 ∷ (spaced ps ++ rest) ≡ spaced (codes "/*@" ∷ (note_bytes ks ++ codes "@*/" ∷ ps)) ++ rest
annotated ks ps rest =
    let words = spaced (note_bytes ks) in
    let behind = spaced ps ++ rest in
    ap (λ (t : List ℕ). 47 ∷ 42 ∷ 64 ∷ 32 ∷ t)
    (append_assoc (words ++ 64 ∷ []) (42 ∷ 47 ∷ []) (32 ∷ behind) ∙ append_assoc words (64 ∷ []) (42 ∷ 47 ∷ 32 ∷ behind)
    ∙ sym (ap (λ (t : List ℕ). t ++ rest) (spaced_append (note_bytes ks) (codes "@*/" ∷ ps)) ∙ append_assoc words (64 ∷ 42 ∷ 47 ∷ 32 ∷ spaced ps) rest))

-- n: at least the number of the words; behind: what stands behind them
pub text_laid : (n : ℕ) (ws : List Word) → length ws ≤ n → AllSpellable ws → (vs : List Word) (rest : List ℕ) → Solid rest → ((place : ℕ) → Laid IsPiece vs place rest) → (at : ℕ) → Laid IsPiece (ws ++ vs) at (spaced (pieces false ws) ++ rest)
text_laid n [] few good vs rest solid behind at = behind at
text_laid zero (w ∷ ws) few good vs rest solid behind at = absurd (omega arith)
text_laid (suc n) ((false, k) ∷ ws) few good vs rest solid behind at =
    subst (λ (t : List ℕ). Laid IsPiece ((false, k) ∷ (ws ++ vs)) at t) (sym (spaced_first (bytes_of k) (pieces false ws) rest))
    (word_laid false k (ws ++ vs) at (spaced (pieces false ws) ++ rest) good.0 (text_solid ws rest good.1 solid) (text_laid n ws (omega arith) good.1 vs rest solid behind (at + length (bytes_of k) + 1)))
text_laid (suc n) ((true, k) ∷ ws) few good vs rest solid behind at =
    let p = part ws in
    let good' : AllSpellable (noted p.ks ++ p.rest) = subst AllSpellable p.parts good.1 in
    let good_rest = spellable_behind (noted p.ks) p.rest good' in
    let low : length p.rest ≤ n = let less = p.less in omega arith in
    let laid = annotation_laid (k ∷ p.ks) (p.rest ++ vs) at (spaced (pieces false p.rest) ++ rest) (good.0, spellable_front (noted p.ks) p.rest good') (text_solid p.rest rest good_rest solid)
    (λ place. text_laid n p.rest low good_rest vs rest solid behind place) in
    let words : noted (k ∷ p.ks) ++ (p.rest ++ vs) ≡ (true, k) ∷ (ws ++ vs) = ap (λ (us : List Word). (true, k) ∷ us) (sym (append_assoc (noted p.ks) p.rest vs) ∙ ap (λ (us : List Word). us ++ vs) (sym p.parts)) in
    let texts : (47 ∷ 42 ∷ 64 ∷ (content_of (k ∷ p.ks) ++ 42 ∷ 47 ∷ [])) ++ 32 ∷ (spaced (pieces false p.rest) ++ rest) ≡ spaced (pieces false ((true, k) ∷ ws)) ++ rest
    = annotated (k ∷ p.ks) (pieces false p.rest) rest ∙ ap (λ (ps : List (List ℕ)). spaced (codes "/*@" ∷ bytes_of k ∷ ps) ++ rest) (sym p.laid) in
    subst (λ (t : List ℕ). Laid IsPiece ((true, k) ∷ (ws ++ vs)) at t) texts (subst (λ (us : List Word). Laid IsPiece us at ((47 ∷ 42 ∷ 64 ∷ (content_of (k ∷ p.ks) ++ 42 ∷ 47 ∷ [])) ++ 32 ∷ (spaced (pieces false p.rest) ++ rest))) words laid)
