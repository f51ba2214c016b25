-- The end of a worker, by the entries that are looked up, and the opening state, by its parts.
use Rattle.std.proofs.Common.{◌≡◌, ◌≢◌, ℕ, ◌*◌, ◌<◌, List, [], ◌∷◌, length, get_or, set, length-set, get_or-set_other, sym, ap, ◌∙◌, arith}
use Rattle.std.specs.Prelude.{Option, Some, None, unwrap_or}
use Rattle.std.proofs.lemmas.List.{get_or_read, set_comm}
use Rattle.heap_core.specs.Posed.{Posed}
use Rattle.tuple_sets.specs.Words.{words_for, all_below, none_of}
use Rattle.bounds_table.specs.declared.known.Known.{Known}
use Rattle.bounds_table.specs.declared.event.Event.TheVariants.{Join}
use Rattle.bounds_table.specs.State.{State, blank, known_of, HasSameWords, IsSound}
use Rattle.bounds_table.specs.Core.{tuple_count, opening, IsLawful, joined, after}
use Rattle.bounds_table.proofs.Workers.{live_within}
use Rattle.bounds_table.proofs.Claiming.{looked_up}

module _ (s : State) (w v : ℕ) (x y gone : Option Known) (theirs : Known) (sound : IsSound s) (ok : IsLawful s (Join w v)) (before : x ≡ get_or s.workers v x) (was : Some theirs ≡ x) (ended : gone ≡ None) (entry : y ≡ get_or (set s.workers v gone) w y) where
  theirs_is : theirs ≡ known_of s v
  theirs_is = ap (λ o. unwrap_or o blank) was ∙ looked_up s v x (live_within s.workers v ok.1) before

  ours_is : unwrap_or y blank ≡ known_of s w
  ours_is =
      let apart : w ≢ v = λ e. ok.2 (sym e) in
      let within : w < length (set s.workers v gone) = let l = live_within s.workers w ok.0 in omega (arith, l, length-set s.workers v gone) in
      ap (λ o. unwrap_or o blank) (get_or_read (set s.workers v gone) w y within entry None ∙ get_or-set_other s.workers v w gone None apart)

  pub same_words : HasSameWords (unwrap_or y blank) theirs
  same_words =
      let a = sound.sized.workers w ok.0 in
      let b = sound.sized.workers v ok.1 in
      record {
        seen = ap (λ k. length k.seen) ours_is ∙ a.seen ∙ sym b.seen ∙ sym (ap (λ k. length k.seen) theirs_is);
        kept = ap (λ k. length k.kept) ours_is ∙ a.kept ∙ sym b.kept ∙ sym (ap (λ k. length k.kept) theirs_is);
        claimed = ap (λ k. length k.claimed) ours_is ∙ a.claimed ∙ sym b.claimed ∙ sym (ap (λ k. length k.claimed) theirs_is);
        claims = ap (λ k. length k.claims) ours_is ∙ a.claims ∙ sym b.claims ∙ sym (ap (λ k. length k.claims) theirs_is);
      }

  pub joined_is : (z : Option Known) → z ≡ Some (joined (unwrap_or y blank) theirs) → after s (Join w v) ≡ record s { workers = set (set s.workers v gone) w z }
  joined_is z e =
      let now : z ≡ Some (joined (known_of s w) (known_of s v)) = e ∙ ap {A = Known} {B = Option Known} (λ k. Some (joined k theirs)) ours_is ∙ ap {A = Known} {B = Option Known} (λ k. Some (joined (known_of s w) k)) theirs_is in
      ap {A = List (Option Known)} {B = State} (λ l. record s { workers = l })
      (set_comm s.workers w v (Some (joined (known_of s w) (known_of s v))) None (λ e'. ok.2 (sym e'))
      ∙ ap (λ o. set (set s.workers v o) w (Some (joined (known_of s w) (known_of s v)))) (sym ended)
      ∙ ap (λ o. set (set s.workers v gone) w o) (sym now))

pub opening_is : (p : Posed) (count words : ℕ) (table kept claimed : List ℕ) (k : Known) (ws : List (Option Known)) → count ≡ tuple_count p → words ≡ words_for count → table ≡ all_below count → kept ≡ none_of words → claimed ≡ none_of (8 * words)
    → k ≡ record { seen = all_below count; kept = none_of words; claimed = none_of (8 * words); claims = none_of (8 * words) } → ws ≡ Some k ∷ []
    → opening p ≡ record { problem = p; table = table; kept = kept; claimed = claimed; workers = ws }
opening_is p count words table kept claimed k ws a b d e f g h =
    let c' : tuple_count p ≡ count = sym a in
    let n' : words_for (tuple_count p) ≡ words = ap words_for c' ∙ sym b in
    ap {A = ℕ} {B = State} (λ n. record {
      problem = p;
      table = all_below (tuple_count p);
      kept = none_of n;
      claimed = none_of (8 * n);
      workers = Some (record { seen = all_below (tuple_count p); kept = none_of n; claimed = none_of (8 * n); claims = none_of (8 * n) }) ∷ [];
    }) n'
    ∙ ap {A = ℕ} {B = State} (λ n. record {
      problem = p;
      table = all_below n;
      kept = none_of words;
      claimed = none_of (8 * words);
      workers = Some (record { seen = all_below n; kept = none_of words; claimed = none_of (8 * words); claims = none_of (8 * words) }) ∷ [];
    }) c'
    ∙ ap {A = List ℕ} {B = State} (λ l. record {
      problem = p;
      table = l;
      kept = none_of words;
      claimed = none_of (8 * words);
      workers = Some (record { seen = all_below count; kept = none_of words; claimed = none_of (8 * words); claims = none_of (8 * words) }) ∷ [];
    }) (sym d)
    ∙ ap {A = List ℕ} {B = State} (λ l. record {
      problem = p;
      table = table;
      kept = l;
      claimed = none_of (8 * words);
      workers = Some (record { seen = all_below count; kept = none_of words; claimed = none_of (8 * words); claims = none_of (8 * words) }) ∷ [];
    }) (sym e)
    ∙ ap {A = List ℕ} {B = State} (λ l. record {
      problem = p;
      table = table;
      kept = kept;
      claimed = l;
      workers = Some (record { seen = all_below count; kept = none_of words; claimed = none_of (8 * words); claims = none_of (8 * words) }) ∷ [];
    }) (sym f)
    ∙ ap {A = List (Option Known)} {B = State} (λ l. record {
      problem = p;
      table = table;
      kept = kept;
      claimed = claimed;
      workers = l;
    }) (ap {A = Known} {B = List (Option Known)} (λ q. Some q ∷ []) (sym g) ∙ sym h)
