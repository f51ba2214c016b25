-- A text is that of one log alone, and then no line of it is bad.
use Rattle.std.proofs.Common.{◌≡◌, ℕ, ◌^◌, ◌<◌, All, Result, Ok, Err, IfOk, IfErr, List, [], ◌∷◌, ◌++◌, map, refl, sym, ap, subst, ◌∙◌, arith}
use Rattle.std.specs.Fmt.{decimal}
use Rattle.std.specs.List.{join_with_byte}
use Rattle.std.proofs.lemmas.List.{append_assoc, append-nil}
use Rattle.std.proofs.lemmas.List.Elements.{All-head, All-tail}
use Rattle.cnf_core.specs.Literal.{IsOver}
use Rattle.derivation.specs.Cuts.{IsCut}
use Rattle.derivation.specs.declared.fault.TextFault.{TextFault}
use Rattle.derivation.specs.declared.fault.TextFault.TheVariants.{BadText, NoMemory}
use Rattle.derivation.specs.LogText.{IsLine, IsLogText, IsBadLine, BlamesLine, line_words, line_text, text_of_log}
use Rattle.derivation.specs.Reading.{IsReadAs}
use Rattle.derivation.specs.Step.{Step}
use Rattle.derivation.specs.Texts.{literal_text}
use Rattle.derivation.proofs.CutLemmas.{lacks_joined}
use Rattle.derivation.proofs.LineTexts.{IsFrontLine, front_line, line_lacks}
use Rattle.derivation.proofs.LogWords.{literal_words, hint_words}
use Rattle.derivation.proofs.Sequences.{SameFront, same_front}

-- two lines with the same words are one
same_line : (vars : ℕ) (x y : Step) → vars < 2 ^ 31 → IsLine vars x → IsLine vars y → line_words x ≡ line_words y → x ≡ y
same_line vars x y small is_x is_y same =
    let h : SameFront literal_text (IsOver vars) (literal_words vars small) x.clause y.clause (map decimal (x.hints ++ 0 ∷ [])) (map decimal (y.hints ++ 0 ∷ [])) =
    same_front literal_text (IsOver vars) (literal_words vars small) x.clause y.clause _ _ is_x.clause.over is_y.clause.over same in
    let k : SameFront decimal (λ hint. (0 < hint) × (hint < 2 ^ 32)) hint_words x.hints y.hints [] [] =
    same_front decimal _ hint_words x.hints y.hints [] [] is_x.hints is_y.hints (append-nil _ ∙ h.tails ∙ sym (append-nil _)) in
    ap (λ clause. let s : Step = record { clause = clause; hints = x.hints } in s) h.numbers
    ∙ ap (λ hints. let s : Step = record { clause = y.clause; hints = hints } in s) k.numbers

pub record SameLine (x y : Step) (more more' : List ℕ) : Type 0 where
  pub line : x ≡ y
  pub rest : more ≡ more'

line_once : (vars : ℕ) (x y : Step) (more more' : List ℕ) → vars < 2 ^ 31 → IsLine vars x → IsLine vars y → line_text x ++ more ≡ line_text y ++ more' → SameLine x y more more'
line_once vars x y more more' small is_x is_y same =
    let cut : IsCut 10 (line_text x ++ more) (join_with_byte 32 (line_words x)) more =
    record { parts = append_assoc (join_with_byte 32 (line_words x)) (10 ∷ []) more; first = lacks_joined 10 (line_words x) refl (line_lacks 10 vars x (omega arith) small is_x) } in
    let one : IsFrontLine x (join_with_byte 32 (line_words x)) more more = front_line vars _ _ _ x more small cut is_x refl in
    let two : IsFrontLine y (join_with_byte 32 (line_words x)) more more' = front_line vars _ _ _ y more' small cut is_y same in
    record { line = same_line vars x y small is_x is_y (sym one.words ∙ two.words); rest = two.rest }

no_line_is_empty : (step : Step) (more : List ℕ) → line_text step ++ more ≡ [] → ⊥
no_line_is_empty step more e = by_words (join_with_byte 32 (line_words step)) e
  where
    by_words : (bytes : List ℕ) → (bytes ++ 10 ∷ []) ++ more ≡ [] → ⊥
    by_words [] same = cc
    by_words (b ∷ bs) same = cc

-- the lines that a text begins with are the first of its log
record GoesOn (front steps : List Step) (rest : List ℕ) : Type 0 where
  later : List Step
  steps_are : steps ≡ front ++ later
  rest_is : rest ≡ text_of_log later

goes_on : (vars : ℕ) (front steps : List Step) (rest : List ℕ) → vars < 2 ^ 31 → All (IsLine vars) front → All (IsLine vars) steps
    → text_of_log front ++ rest ≡ text_of_log steps → GoesOn front steps rest
goes_on vars [] steps rest small all_front all same = record { later = steps; steps_are = refl; rest_is = same }
goes_on vars (x ∷ xs) [] rest small all_front all same =
    absurd (no_line_is_empty x (text_of_log xs ++ rest) (sym (append_assoc (line_text x) (text_of_log xs) rest) ∙ same))
goes_on vars (x ∷ xs) (y ∷ ys) rest small all_front all same =
    let h : SameLine x y (text_of_log xs ++ rest) (text_of_log ys) =
    line_once vars x y _ _ small (All-head (IsLine vars) x xs all_front) (All-head (IsLine vars) y ys all) (sym (append_assoc (line_text x) (text_of_log xs) rest) ∙ same) in
    let k : GoesOn xs ys rest = goes_on vars xs ys rest small (All-tail (IsLine vars) x xs all_front) (All-tail (IsLine vars) y ys all) h.rest in
    record { later = k.later; steps_are = cc (h.line, k.steps_are); rest_is = k.rest_is }

line_behind : (vars : ℕ) (before : List Step) (x : Step) (xs : List Step) → All (IsLine vars) (before ++ x ∷ xs) → IsLine vars x
line_behind vars [] x xs all = All-head (IsLine vars) x xs all
line_behind vars (y ∷ ys) x xs all = line_behind vars ys x xs (All-tail (IsLine vars) y (ys ++ x ∷ xs) all)

-- a text with a bad line is of no log
not_bad : (vars : ℕ) (text : List ℕ) (at : ℕ) (steps : List Step) → vars < 2 ^ 31 → IsBadLine vars text at → IsLogText vars text steps → ⊥
not_bad vars text at steps small bad is = by_later h.later h.steps_are h.rest_is
  where
    h : GoesOn bad.front steps bad.rest
    h = goes_on vars bad.front steps bad.rest small bad.before is.lines (sym bad.parts ∙ is.text_is)

    by_later : (later : List Step) → steps ≡ bad.front ++ later → bad.rest ≡ text_of_log later → ⊥
    by_later [] steps_are rest_is = bad.some rest_is
    by_later (x ∷ xs) steps_are rest_is =
        bad.none x (text_of_log xs) (line_behind vars bad.front x xs (subst (All (IsLine vars)) steps_are is.lines)) rest_is

one_log : (vars : ℕ) (text : List ℕ) (xs ys : List Step) → vars < 2 ^ 31 → IsLogText vars text xs → IsLogText vars text ys → xs ≡ ys
one_log vars text xs ys small is_x is_y = by_later h.later h.steps_are h.rest_is
  where
    h : GoesOn xs ys []
    h = goes_on vars xs ys [] small is_x.lines is_y.lines (append-nil (text_of_log xs) ∙ sym is_x.text_is ∙ is_y.text_is)

    by_later : (later : List Step) → ys ≡ xs ++ later → [] ≡ text_of_log later → xs ≡ ys
    by_later [] steps_are rest_is = sym (steps_are ∙ append-nil xs)
    by_later (z ∷ zs) steps_are rest_is = absurd (no_line_is_empty z (text_of_log zs) (sym rest_is))

-- so what is read is the log of the text
pub read_again : (vars : ℕ) (text : List ℕ) (result : Result (List Step) TextFault) (steps : List Step) → vars < 2 ^ 31
    → IfOk result (IsLogText vars text) → IfErr result (BlamesLine vars text) → IsLogText vars text steps → IsReadAs result steps
read_again vars text (Ok log) steps small read fault is = one_log vars text log steps small read is
read_again vars text (Err (BadText at)) steps small read fault is = not_bad vars text at steps small fault is
read_again vars text (Err NoMemory) steps small read fault is = tt
