-- The state that words and views show, after a word or a view has changed.
use Rattle.std.proofs.Common.{◌≡◌, ℕ, zero, suc, ◌+◌, ◌*◌, ◌<◌, List, [], ◌∷◌, length, get_or, set, map, take, drop, sym, ap, ◌∙◌, arith}
use Rattle.std.specs.Prelude.{Option, Some, option_map}
use mathlib.Core.Option.{some, some-injective, some-ne-none}
use lib.ListN.{get_elem?}
use Rattle.std.proofs.Math.Seq.{take-set-lt}
use Rattle.std.proofs.lemmas.List.{take-set-le, drop-set-lt, drop-set-add, get_or-take, get_or-drop, map-set}
use Rattle.heap_core.specs.Posed.{Posed}
use Rattle.tuple_sets.specs.Numbered.{word_count}
use Rattle.bounds_table.specs.declared.known.Known.{Known}
use Rattle.bounds_table.specs.declared.rule.View.{View}
use Rattle.bounds_table.specs.State.{State}
use Rattle.bounds_table.specs.Rule.{worker_of, shown}

-- a live view is a worker
pub worker_at : (vs : List View) (id : ℕ) (v : View) (p : Posed) (d : Option Known) → get_elem? vs id ≡ some v → v.problem ≡ Some p → get_or (map worker_of vs) id d ≡ Some v.known
worker_at [] id v p d e h = absurd (some-ne-none v (sym e))
worker_at (x ∷ xs) zero v p d e h = ap worker_of (some-injective x v e) ∙ ap (λ o. option_map (λ q. v.known) o) h
worker_at (x ∷ xs) (suc id) v p d e h = worker_at xs id v p d e h

pub there_within : (vs : List View) (id : ℕ) (v : View) → get_elem? vs id ≡ some v → id < length vs
there_within [] id v e = absurd (some-ne-none v (sym e))
there_within (x ∷ xs) zero v e = omega arith
there_within (x ∷ xs) (suc id) v e = let h = there_within xs id v e in omega arith

module _ (p : Posed) (ws : List ℕ) (vs : List View) (id : ℕ) (v : View) (k : Known) (of : v.problem ≡ Some p) where
  -- the worker of a view that knows k now
  workers_set : map worker_of (set vs id (record v { known = k })) ≡ set (map worker_of vs) id (Some k)
  workers_set = map-set worker_of vs id (record v { known = k }) ∙ ap (λ o. set (map worker_of vs) id (option_map (λ q. k) o)) of

  pub shown_same : record (shown p ws vs) { workers = set (map worker_of vs) id (Some k) } ≡ shown p ws (set vs id (record v { known = k }))
  shown_same = ap {A = List (Option Known)} {B = State} (λ l. record (shown p ws vs) { workers = l }) (sym workers_set)

  module _ (i x : ℕ) (within : i < word_count p) where
    -- a table word was written
    pub shown_table : record (shown p ws vs) { table = set (take (word_count p) ws) i x; workers = set (map worker_of vs) id (Some k) } ≡ shown p (set ws i x) (set vs id (record v { known = k }))
    shown_table =
        let a : take (word_count p) (set ws i x) ≡ set (take (word_count p) ws) i x = take-set-lt (word_count p) ws i x within in
        let b : drop (word_count p) (set ws i x) ≡ drop (word_count p) ws = drop-set-lt (word_count p) ws i x within in
        let d : drop (2 * word_count p) (set ws i x) ≡ drop (2 * word_count p) ws = drop-set-lt (2 * word_count p) ws i x (omega arith) in
        let e = workers_set in
        ap {A = List ℕ} {B = State} (λ l. record { problem = p; table = l; kept = take (word_count p) (drop (word_count p) ws); claimed = take (8 * word_count p) (drop (2 * word_count p) ws); workers = set (map worker_of vs) id (Some k) }) (sym a)
        ∙ ap {A = List ℕ} {B = State} (λ l. record { problem = p; table = take (word_count p) (set ws i x); kept = take (word_count p) l; claimed = take (8 * word_count p) (drop (2 * word_count p) ws); workers = set (map worker_of vs) id (Some k) }) (sym b)
        ∙ ap {A = List ℕ} {B = State} (λ l. record { problem = p; table = take (word_count p) (set ws i x); kept = take (word_count p) (drop (word_count p) (set ws i x)); claimed = take (8 * word_count p) l; workers = set (map worker_of vs) id (Some k) }) (sym d)
        ∙ ap {A = List (Option Known)} {B = State} (λ l. record { problem = p; table = take (word_count p) (set ws i x); kept = take (word_count p) (drop (word_count p) (set ws i x)); claimed = take (8 * word_count p) (drop (2 * word_count p) (set ws i x)); workers = l }) (sym e)

    -- a kept word was written
    pub shown_kept : record (shown p ws vs) { kept = set (take (word_count p) (drop (word_count p) ws)) i x; workers = set (map worker_of vs) id (Some k) } ≡ shown p (set ws (word_count p + i) x) (set vs id (record v { known = k }))
    shown_kept =
        let at : ℕ = word_count p + i in
        let a : take (word_count p) (set ws (word_count p + i) x) ≡ take (word_count p) ws = take-set-le (word_count p) ws (word_count p + i) x (omega arith) in
        let b : take (word_count p) (drop (word_count p) (set ws (word_count p + i) x)) ≡ set (take (word_count p) (drop (word_count p) ws)) i x = ap (λ l. take (word_count p) l) (drop-set-add (word_count p) ws i x) ∙ take-set-lt (word_count p) (drop (word_count p) ws) i x within in
        let d : drop (2 * word_count p) (set ws (word_count p + i) x) ≡ drop (2 * word_count p) ws = drop-set-lt (2 * word_count p) ws (word_count p + i) x (omega arith) in
        let e = workers_set in
        ap {A = List ℕ} {B = State} (λ l. record { problem = p; table = l; kept = set (take (word_count p) (drop (word_count p) ws)) i x; claimed = take (8 * word_count p) (drop (2 * word_count p) ws); workers = set (map worker_of vs) id (Some k) }) (sym a)
        ∙ ap {A = List ℕ} {B = State} (λ l. record { problem = p; table = take (word_count p) (set ws at x); kept = l; claimed = take (8 * word_count p) (drop (2 * word_count p) ws); workers = set (map worker_of vs) id (Some k) }) (sym b)
        ∙ ap {A = List ℕ} {B = State} (λ l. record { problem = p; table = take (word_count p) (set ws at x); kept = take (word_count p) (drop (word_count p) (set ws at x)); claimed = take (8 * word_count p) l; workers = set (map worker_of vs) id (Some k) }) (sym d)
        ∙ ap {A = List (Option Known)} {B = State} (λ l. record { problem = p; table = take (word_count p) (set ws at x); kept = take (word_count p) (drop (word_count p) (set ws at x)); claimed = take (8 * word_count p) (drop (2 * word_count p) (set ws at x)); workers = l }) (sym e)

  module _ (j x : ℕ) (within : j < 8 * word_count p) where
    -- a claim word was written
    pub shown_claimed : record (shown p ws vs) { claimed = set (take (8 * word_count p) (drop (2 * word_count p) ws)) j x; workers = set (map worker_of vs) id (Some k) } ≡ shown p (set ws (2 * word_count p + j) x) (set vs id (record v { known = k }))
    shown_claimed =
        let at : ℕ = 2 * word_count p + j in
        let a : take (word_count p) (set ws at x) ≡ take (word_count p) ws = take-set-le (word_count p) ws at x (omega arith) in
        let more : at ≡ word_count p + (word_count p + j) = omega arith in
        let b : take (word_count p) (drop (word_count p) (set ws at x)) ≡ take (word_count p) (drop (word_count p) ws) =
        ap (λ m. take (word_count p) (drop (word_count p) (set ws m x))) more
        ∙ ap (λ l. take (word_count p) l) (drop-set-add (word_count p) ws (word_count p + j) x)
        ∙ take-set-le (word_count p) (drop (word_count p) ws) (word_count p + j) x (omega arith)
        in
        let d : take (8 * word_count p) (drop (2 * word_count p) (set ws at x)) ≡ set (take (8 * word_count p) (drop (2 * word_count p) ws)) j x =
        ap (λ l. take (8 * word_count p) l) (drop-set-add (2 * word_count p) ws j x) ∙ take-set-lt (8 * word_count p) (drop (2 * word_count p) ws) j x within
        in
        let e = workers_set in
        ap {A = List ℕ} {B = State} (λ l. record { problem = p; table = l; kept = take (word_count p) (drop (word_count p) ws); claimed = set (take (8 * word_count p) (drop (2 * word_count p) ws)) j x; workers = set (map worker_of vs) id (Some k) }) (sym a)
        ∙ ap {A = List ℕ} {B = State} (λ l. record { problem = p; table = take (word_count p) (set ws at x); kept = l; claimed = set (take (8 * word_count p) (drop (2 * word_count p) ws)) j x; workers = set (map worker_of vs) id (Some k) }) (sym b)
        ∙ ap {A = List ℕ} {B = State} (λ l. record { problem = p; table = take (word_count p) (set ws at x); kept = take (word_count p) (drop (word_count p) (set ws at x)); claimed = l; workers = set (map worker_of vs) id (Some k) }) (sym d)
        ∙ ap {A = List (Option Known)} {B = State} (λ l. record { problem = p; table = take (word_count p) (set ws at x); kept = take (word_count p) (drop (word_count p) (set ws at x)); claimed = take (8 * word_count p) (drop (2 * word_count p) (set ws at x)); workers = l }) (sym e)

-- the words of the parts, read in the whole
pub table_word : (n : ℕ) (ws : List ℕ) (i : ℕ) → i < n → get_or (take n ws) i 0 ≡ get_or ws i 0
table_word n ws i h = get_or-take n ws i 0 h

pub part_word : (n m : ℕ) (ws : List ℕ) (i : ℕ) → i < n → get_or (take n (drop m ws)) i 0 ≡ get_or ws (m + i) 0
part_word n m ws i h = get_or-take n (drop m ws) i 0 h ∙ get_or-drop m ws i 0
