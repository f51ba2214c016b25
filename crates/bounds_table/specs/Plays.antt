-- What each step on a shared word tells its pass. (This project's own.)
use Rattle.std.specs.Prelude.{◌≡◌, ℕ, ◌-◌, ◌*◌, ◌/◌, ◌%◌, ◌==◌, Bool, slice_set, bit_and, bit_or, if◌then◌else◌, IfSome, IsTrue}
use Rattle.atomic_table.specs.Table.{Me, Step}
use Rattle.heap_core.specs.Posed.{Posed}
use Rattle.tuple_sets.specs.Words.{has, one_bit, with_bits}
use Rattle.tuple_sets.specs.Numbered.{word_count, IsPossible, IsImpossible}
use Rattle.bounds_table.specs.declared.known.Known.{Known}
use Rattle.bounds_table.specs.declared.rule.View.{View}
use Rattle.bounds_table.specs.State.{HasWords, IsLater}

-- what a pass knows is right: it has the words of the problem, each tuple that it lacks is impossible, and each
-- that it saw kept is possible
pub record IsRight (p : Posed) (k : Known) : Type 0 where
  pub words : HasWords p k
  pub lacked : (t : ℕ) → has k.seen t ≡ 0 → IsImpossible p t
  pub kept : (t : ℕ) → has k.kept t ≡ 1 → IsPossible p t

-- what every step tells of what a pass knew and what it knows now
pub record Tells (p : Posed) (old new : Known) : Type 0 where
  pub later : IsLater old new
  pub right : IsRight p new

-- a step by which a pass of a problem comes to know this
abbrev pub knows_now : (Posed → Known → Known) → Me (Unit {0}) View → Me (Unit {0}) View → Type 0
knows_now f m m' = (m'.0.problem ≡ m.0.problem) × (m'.1 ≡ m.1) × IfSome m.0.problem (λ p. (m'.0.known ≡ f p m.0.known) × Tells p m.0.known m'.0.known)

-- a load of a table word: the word as it was found is what the pass has seen
abbrev pub copies : Step (Unit {0}) → Me (Unit {0}) View → ℕ → Me (Unit {0}) View → Type 0
copies st m found m' = knows_now (λ p k. record k { seen = slice_set k.seen st.word found }) m m'

-- a fetch_and on a table word: the pass has seen the word that is left
abbrev pub clears : Step (Unit {0}) → Me (Unit {0}) View → ℕ → Me (Unit {0}) View → Type 0
clears st m found m' = knows_now (λ p k. record k { seen = slice_set k.seen st.word (bit_and found st.first) }) m m'

-- a fetch_or on a kept word: the pass has seen the word that is left
abbrev pub keeps : Step (Unit {0}) → Me (Unit {0}) View → ℕ → Me (Unit {0}) View → Type 0
keeps st m found m' = knows_now (λ p k. record k { kept = slice_set k.kept (st.word - word_count p) (bit_or found st.first) }) m m'

-- a load of a kept word
abbrev pub sees : Step (Unit {0}) → Me (Unit {0}) View → ℕ → Me (Unit {0}) View → Type 0
sees st m found m' = knows_now (λ p k. record k { kept = slice_set k.kept (st.word - word_count p) found }) m m'

-- a fetch_or on a claim word, by the mask of one pair: it is claimed now, and its claim is the pass's where its bit was
-- not set
abbrev pub told : Bool → ℕ → ℕ → Known → Known
told free at mask k = record k { claimed = with_bits k.claimed at mask; claims = if free then with_bits k.claims at mask else k.claims }

-- where the bit was not set, the pass had no claim of the pair
abbrev pub IsNews : Bool → ℕ → ℕ → Known → Type 0
IsNews free at mask k = IsTrue free → (c : ℕ) → at ≡ c / 64 → mask ≡ one_bit (c % 64) → has k.claims c ≡ 0

abbrev pub claims : Step (Unit {0}) → Me (Unit {0}) View → ℕ → Me (Unit {0}) View → Type 0
claims st m found m' =
    knows_now (λ p k. told (bit_and found st.first == 0) (st.word - 2 * word_count p) st.first k) m m'
    × IfSome m.0.problem (λ p. IsNews (bit_and found st.first == 0) (st.word - 2 * word_count p) st.first m.0.known)
