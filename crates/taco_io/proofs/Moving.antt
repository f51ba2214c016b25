-- What a slot gives.
use Rattle.std.proofs.Common.{◌≡◌, ◌+◌, ℕ, List, ◌++◌, length, take, drop, sym, ap, ◌∙◌}
use Rattle.std.proofs.lemmas.List.{take-append-drop, drop-drop}
use Rattle.std.proofs.Math.Seq.{take-append_seam}

-- what lies at the front of a buffer, and then what is left behind it, is what was left
pub front_moved : (content moved buffer : List ℕ) (at count : ℕ) → moved ≡ take count (drop at content) → length moved ≡ count
    → drop at content ≡ take count (moved ++ drop count buffer) ++ drop (at + count) content
front_moved content moved buffer at count is len =
    sym (take-append-drop count (drop at content)) ∙ ap (λ l. l ++ drop count (drop at content)) (sym is)
    ∙ ap (λ l. moved ++ l) (drop-drop count at content)
    ∙ ap (λ l. l ++ drop (at + count) content) (sym (take-append_seam moved (drop count buffer)) ∙ ap (λ n. take n (moved ++ drop count buffer)) len)
