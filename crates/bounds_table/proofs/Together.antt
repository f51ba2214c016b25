-- What two workers know together.
use Rattle.std.proofs.Common.{⊎_elim, sym, ◌∙◌, arith}
use Rattle.heap_core.specs.Posed.{Posed}
use Rattle.tuple_sets.proofs.Sets.{has_cases, has-le, has-meet, has-union, length-meet, length-union}
use Rattle.bounds_table.specs.declared.known.Known.{Known}
use Rattle.bounds_table.specs.State.{HasWords, IsLater}
use Rattle.bounds_table.specs.Core.{joined}
use Rattle.bounds_table.specs.Plays.{IsRight}

module _ (p : Posed) (a b : Known) (x : HasWords p a) (y : HasWords p b) where
  pub joined_words : HasWords p (joined a b)
  joined_words = record {
    seen = length-meet a.seen b.seen (x.seen ∙ sym y.seen) ∙ x.seen;
    kept = length-union a.kept b.kept (x.kept ∙ sym y.kept) ∙ x.kept;
    claimed = length-union a.claimed b.claimed (x.claimed ∙ sym y.claimed) ∙ x.claimed;
    claims = length-union a.claims b.claims (x.claims ∙ sym y.claims) ∙ x.claims;
  }

  pub joined_later : IsLater a (joined a b)
  joined_later = record {
    seen = λ t. let m = has-meet a.seen b.seen t (x.seen ∙ sym y.seen) in omega arith;
    kept = λ t. let m = has-union a.kept b.kept t (x.kept ∙ sym y.kept) in omega arith;
    claimed = λ t. let m = has-union a.claimed b.claimed t (x.claimed ∙ sym y.claimed) in omega arith;
    claims = λ t. let m = has-union a.claims b.claims t (x.claims ∙ sym y.claims) in omega arith;
  }

  pub joined_later_other : IsLater b (joined a b)
  joined_later_other = record {
    seen = λ t. let m = has-meet a.seen b.seen t (x.seen ∙ sym y.seen) in omega arith;
    kept = λ t. let m = has-union a.kept b.kept t (x.kept ∙ sym y.kept) in omega arith;
    claimed = λ t. let m = has-union a.claimed b.claimed t (x.claimed ∙ sym y.claimed) in omega arith;
    claims = λ t. let m = has-union a.claims b.claims t (x.claims ∙ sym y.claims) in omega arith;
  }

pub joined_right : (p : Posed) (a b : Known) → IsRight p a → IsRight p b → IsRight p (joined a b)
joined_right p a b x y = record {
  words = joined_words p a b x.words y.words;
  lacked = λ t none.
      let m = has-meet a.seen b.seen t (x.words.seen ∙ sym y.words.seen) in
      ⊎_elim (λ e. x.lacked t e) (λ e. y.lacked t (let l = has-le b.seen t in omega arith)) (has_cases a.seen t);
  kept = λ t one.
      let m = has-union a.kept b.kept t (x.words.kept ∙ sym y.words.kept) in
      ⊎_elim (λ e. y.kept t (omega arith)) (λ e. x.kept t e) (has_cases a.kept t);
}
