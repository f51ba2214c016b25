-- Texts that are put together of pieces, and taken apart from the front.
use Rattle.std.proofs.Common.{◌≡◌, ℕ, List, ◌++◌, sym, ap, ◌∙◌, append_assoc}
use Rattle.std.proofs.lemmas.List.{append_cancel_left}

pub three_pieces : (a b c more text one two : List ℕ) → text ≡ a ++ one → one ≡ b ++ two → two ≡ c ++ more → text ≡ (a ++ b ++ c) ++ more
three_pieces a b c more text one two is_text is_one is_two =
    is_text ∙ ap (λ l. a ++ l) (is_one ∙ ap (λ l. b ++ l) is_two) ∙ sym (append_assoc (a ++ b) c more ∙ append_assoc a b (c ++ more))

pub four_pieces : (a b c d more text one two three : List ℕ) → text ≡ a ++ one → one ≡ b ++ two → two ≡ c ++ three → three ≡ d ++ more
    → text ≡ (a ++ b ++ c ++ d) ++ more
four_pieces a b c d more text one two three is_text is_one is_two is_three =
    three_pieces a b c (d ++ more) text one two is_text is_one (is_two ∙ ap (λ l. c ++ l) is_three) ∙ sym (append_assoc (a ++ b ++ c) d more)

-- what is left behind a piece that stands in front
pub behind_one : (a more text one : List ℕ) → text ≡ a ++ one → text ≡ a ++ more → one ≡ more
behind_one a more text one is_text same = append_cancel_left a one more (sym is_text ∙ same)

pub opened_three : (a b c more text : List ℕ) → text ≡ (a ++ b ++ c) ++ more → text ≡ a ++ (b ++ (c ++ more))
opened_three a b c more text same = same ∙ append_assoc (a ++ b) c more ∙ append_assoc a b (c ++ more)

pub opened_four : (a b c d more text : List ℕ) → text ≡ (a ++ b ++ c ++ d) ++ more → text ≡ a ++ (b ++ (c ++ (d ++ more)))
opened_four a b c d more text same = opened_three a b c (d ++ more) text (same ∙ append_assoc (a ++ b ++ c) d more)
