-- The first wrong line of the text of a log has one place.
use Rattle.std.proofs.Common.{◌≡◌, ℕ, ◌^◌, ◌<◌, All, List, [], ◌∷◌, ◌++◌, map, length, refl, sym, ap, ◌∙◌, arith}
use Rattle.std.specs.Fmt.{decimal}
use Rattle.std.specs.List.{join_with_byte}
use Rattle.std.proofs.lemmas.List.{append_assoc, append-nil}
use Rattle.std.proofs.lemmas.List.Elements.{All-head, All-tail}
use Rattle.cnf_core.specs.Literal.{IsOver}
use Rattle.derivation.specs.Cuts.{IsCut}
use Rattle.derivation.specs.LogText.{IsLine, IsBadLine, line_words, line_text, text_of_log}
use Rattle.derivation.specs.Step.{Step}
use Rattle.derivation.specs.Texts.{literal_text}
use Rattle.derivation.proofs.CutLemmas.{lacks_joined}
use Rattle.derivation.proofs.LineTexts.{IsFrontLine, front_line, line_lacks}
use Rattle.derivation.proofs.LogWords.{literal_words, hint_words}
use Rattle.derivation.proofs.Sequences.{SameFront, same_front}

-- two lines with the same words are one
same_line : (vars : ℕ) (x y : Step) → vars < 2 ^ 31 → IsLine vars x → IsLine vars y → line_words x ≡ line_words y → x ≡ y
same_line vars x y small is_x is_y same =
    let h : SameFront literal_text (IsOver vars) (literal_words vars small) x.clause y.clause (map decimal (x.hints ++ 0 ∷ [])) (map decimal (y.hints ++ 0 ∷ [])) =
    same_front literal_text (IsOver vars) (literal_words vars small) x.clause y.clause _ _ is_x.clause.over is_y.clause.over same in
    let k : SameFront decimal (λ hint. (0 < hint) × (hint < 2 ^ 32)) hint_words x.hints y.hints [] [] =
    same_front decimal _ hint_words x.hints y.hints [] [] is_x.hints is_y.hints (append-nil _ ∙ h.tails ∙ sym (append-nil _)) in
    ap (λ clause. let s : Step = record { clause = clause; hints = x.hints } in s) h.numbers
    ∙ ap (λ hints. let s : Step = record { clause = y.clause; hints = hints } in s) k.numbers

record SameLine (x y : Step) (more more' : List ℕ) : Type 0 where
  line : x ≡ y
  rest : more ≡ more'

line_once : (vars : ℕ) (x y : Step) (more more' : List ℕ) → vars < 2 ^ 31 → IsLine vars x → IsLine vars y → line_text x ++ more ≡ line_text y ++ more' → SameLine x y more more'
line_once vars x y more more' small is_x is_y same =
    let cut : IsCut 10 (line_text x ++ more) (join_with_byte 32 (line_words x)) more =
    record { parts = append_assoc (join_with_byte 32 (line_words x)) (10 ∷ []) more; first = lacks_joined 10 (line_words x) refl (line_lacks 10 vars x (omega arith) small is_x) } in
    let one : IsFrontLine x (join_with_byte 32 (line_words x)) more more = front_line vars _ _ _ x more small cut is_x refl in
    let two : IsFrontLine y (join_with_byte 32 (line_words x)) more more' = front_line vars _ _ _ y more' small cut is_y same in
    record { line = same_line vars x y small is_x is_y (sym one.words ∙ two.words); rest = two.rest }

-- no right line stands in front
abbrev NoneStands : ℕ → List ℕ → Type 0
NoneStands vars rest = (step : Step) (more : List ℕ) → IsLine vars step → rest ≡ line_text step ++ more → ⊥

-- the right lines in front, up to where none stands
one_front : (vars : ℕ) (xs ys : List Step) (rest rest' : List ℕ) → vars < 2 ^ 31 → All (IsLine vars) xs → All (IsLine vars) ys → NoneStands vars rest → NoneStands vars rest'
    → text_of_log xs ++ rest ≡ text_of_log ys ++ rest' → xs ≡ ys
one_front vars [] [] rest rest' small all_x all_y none none' same = refl
one_front vars [] (y ∷ ys) rest rest' small all_x all_y none none' same =
    absurd (none y (text_of_log ys ++ rest') (All-head (IsLine vars) y ys all_y) (same ∙ append_assoc (line_text y) (text_of_log ys) rest'))
one_front vars (x ∷ xs) [] rest rest' small all_x all_y none none' same =
    absurd (none' x (text_of_log xs ++ rest) (All-head (IsLine vars) x xs all_x) (sym same ∙ append_assoc (line_text x) (text_of_log xs) rest))
one_front vars (x ∷ xs) (y ∷ ys) rest rest' small all_x all_y none none' same =
    let h : SameLine x y (text_of_log xs ++ rest) (text_of_log ys ++ rest') =
    line_once vars x y _ _ small (All-head (IsLine vars) x xs all_x) (All-head (IsLine vars) y ys all_y)
    (sym (append_assoc (line_text x) (text_of_log xs) rest) ∙ same ∙ append_assoc (line_text y) (text_of_log ys) rest') in
    let k : xs ≡ ys = one_front vars xs ys rest rest' small (All-tail (IsLine vars) x xs all_x) (All-tail (IsLine vars) y ys all_y) none none' h.rest in
    cc (h.line, k)

pub one_bad : (vars : ℕ) (text : List ℕ) (a b : ℕ) → vars < 2 ^ 31 → IsBadLine vars text a → IsBadLine vars text b → a ≡ b
one_bad vars text a b small x y =
    let fronts : x.front ≡ y.front = one_front vars x.front y.front x.rest y.rest small x.before y.before x.none y.none (sym x.parts ∙ y.parts) in
    x.place ∙ ap (λ l. length (text_of_log l)) fronts ∙ sym y.place
