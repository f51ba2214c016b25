-- How many parts a number has: those of each part are fewer.
use Rattle.std.proofs.Common.{◌≡◌, ℕ, ◌+◌, ◌<◌, refl, sym, subst, arith}
use Rattle.rel_core.specs.declared.numbers.NumExpr.{NumExpr, fold-NumExpr, fold_out-NumExpr}
use Rattle.rel_core.specs.declared.numbers.NumExpr.TheOpen.{NumExpr-F}
use Rattle.rel_core.specs.declared.numbers.NumExpr.TheVariants as n

abbrev pub parts_step : NumExpr-F ℕ → ℕ
parts_step (NumExpr-F.Const z) = 0
parts_step (NumExpr-F.Var r) = 0
parts_step (NumExpr-F.At e r) = 0
parts_step (NumExpr-F.Sum a b) = a + b + 1
parts_step (NumExpr-F.Diff a b) = a + b + 1
parts_step (NumExpr-F.Product a b) = a + b + 1
parts_step (NumExpr-F.Count e) = 0

abbrev pub parts : NumExpr → ℕ
parts = fold-NumExpr ℕ parts_step

pub parts_sum : (a b : NumExpr) → parts (n.Sum a b) ≡ parts a + parts b + 1
parts_sum a b = rw (fold_out-NumExpr ℕ parts_step (n.Sum a b), n.outs-Sum a b) refl

pub parts_difference : (a b : NumExpr) → parts (n.Diff a b) ≡ parts a + parts b + 1
parts_difference a b = rw (fold_out-NumExpr ℕ parts_step (n.Diff a b), n.outs-Diff a b) refl

pub parts_product : (a b : NumExpr) → parts (n.Product a b) ≡ parts a + parts b + 1
parts_product a b = rw (fold_out-NumExpr ℕ parts_step (n.Product a b), n.outs-Product a b) refl

first_fewer : (d da db t : ℕ) → d ≡ da + db + 1 → d ≡ t → da < t
first_fewer d da db t is all = omega arith

second_fewer : (d da db t : ℕ) → d ≡ da + db + 1 → d ≡ t → db < t
second_fewer d da db t is all = omega arith

pub first_falls : (a b x : NumExpr) (d t : ℕ) → x ≡ a → d ≡ parts a + parts b + 1 → d ≡ t → parts x < t
first_falls a b x d t same is all = subst (λ e. parts e < t) (sym same) (first_fewer d (parts a) (parts b) t is all)

pub second_falls : (a b x : NumExpr) (d t : ℕ) → x ≡ b → d ≡ parts a + parts b + 1 → d ≡ t → parts x < t
second_falls a b x d t same is all = subst (λ e. parts e < t) (sym same) (second_fewer d (parts a) (parts b) t is all)
