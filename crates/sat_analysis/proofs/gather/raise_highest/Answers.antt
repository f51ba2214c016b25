use Rattle.std.proofs.Common.{◌≡◌, ℕ, ◌<◌, List, length, get_or, set, ap, ◌∙◌, arith}
use Rattle.std.specs.List.Sorted.{IsPermutation}
use Rattle.std.proofs.lemmas.List.{get_or_read}
use Rattle.std.proofs.lemmas.List.Edits.{swap_is}
use Rattle.std.proofs.lemmas.List.Sorted.{IsPermutation-swap}
use Rattle.sat_analysis.proofs.gather.raise_highest.Goals as goal

exchanged : (xs : List ℕ) (i j x y : ℕ) → i < length xs → j < length xs → x ≡ get_or xs i x → y ≡ get_or xs j y → IsPermutation xs (set (set xs i y) j x)
exchanged xs i j x y li lj xi yj =
    IsPermutation-swap xs (set (set xs i y) j x) i j li lj
    (ap (λ v. set (set xs i v) j x) (get_or_read xs j y lj yj 0) ∙ ap (λ v. set (set xs i (get_or xs j 0)) j v) (get_or_read xs i x li xi 0) ∙ swap_is xs i j 0 li lj)

pub returns-clause-moved : goal.returns-clause-moved
returns-clause-moved c =
    let here : c.highest-place.result < length c.args.lits.now.items = omega (arith, c.highest-place.ensures.within, ap length c.deref.ensures.value) in
    let two : 1 < length c.args.lits.now.items = omega (arith, here, c.highest-place.ensures.from_one) in
    exchanged c.args.lits.now.items 1 c.highest-place.result c.index-second.result.now c.index-raised.result.now two here c.index-second.ensures c.index-raised.ensures
