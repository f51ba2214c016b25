-- What follows of tuples where each tuple that a set lacks is impossible, and of the set of a start.
use Rattle.std.proofs.Common.{◌≡◌, ℕ, ⊎_elim, List}
use Rattle.heap_core.specs.Posed.{Posed}
use Rattle.tuple_sets.specs.Words.{has}
use Rattle.tuple_sets.specs.Numbered.{IsPossible, IsImpossible, IsRefuted}
use Rattle.tuple_sets.specs.Occurring.{GoodStartsArePossible}
use Rattle.tuple_sets.proofs.Sets.{has_cases}

-- the set of a canonical start with a good heap has possible tuples alone
pub good_possible : GoodStartsArePossible
good_possible p s set fits canonical good is t one =
    let o = (is.exact t).0 one in
    (o.0, o.1, (s, record { fits = fits; canonical = canonical; good = good; holds = o.2 }))

module _ (p : Posed) (set : List ℕ) (lacked : (t : ℕ) → has set t ≡ 0 → IsImpossible p t) where
  -- a possible tuple is in the set
  pub has_possible : (t : ℕ) → IsPossible p t → has set t ≡ 1
  has_possible t h = ⊎_elim (λ none. absurd (lacked t none h)) (λ one. one) (has_cases set t)

  -- and a tuple that is refuted under the set is impossible: a start that shows it has all its tuples in the set
  pub refuted : (t : ℕ) → IsRefuted p set t → IsImpossible p t
  refuted t none h =
      let shows = h.2.1 in
      none h.0 h.2.0 h.1 shows (λ u y at holds. has_possible u (y, at, (h.2.0, record { fits = shows.fits; canonical = shows.canonical; good = shows.good; holds = holds })))
