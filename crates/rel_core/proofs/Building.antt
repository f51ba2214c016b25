-- A form is sorted where its parts are.
use Rattle.std.proofs.Common.{◌≡◌, ℕ, true, List, ◌∙◌}
use Rattle.std.specs.List.{list_all}
use Rattle.std.proofs.lemmas.Bool.{and_from}
use Rattle.heap_core.specs.Posed.{Posed}
use Rattle.rel_core.specs.declared.relation.RelVar.{RelVar}
use Rattle.rel_core.specs.declared.sets.RelExpr.{RelExpr}
use Rattle.rel_core.specs.declared.sets.RelExpr.TheVariants as s
use Rattle.rel_core.specs.declared.numbers.NumExpr.{NumExpr}
use Rattle.rel_core.specs.declared.numbers.NumExpr.TheVariants as n
use Rattle.rel_core.specs.declared.formula.Formula.{Formula}
use Rattle.rel_core.specs.declared.formula.Formula.TheVariants as f
use Rattle.rel_core.specs.Uses.{Kinds, AsSet, AsNumber, AsFlag, AsClass, can_change, is_spread, is_sorted, is_sorted_number, is_sorted_set}
use Rattle.rel_core.proofs.Forms.{sorted_set_join, sorted_set_reach, sorted_number_at, sorted_number_sum, sorted_number_diff, sorted_number_product, sorted_flag_at, sorted_subset, sorted_is_class, sorted_same_number, sorted_below, sorted_changed, sorted_same}

pub sorted_join : (p : Posed) (kinds : Kinds) (e : RelExpr) (r : RelVar) → is_sorted_set p kinds e ≡ true → is_spread p kinds AsSet r ≡ true → is_sorted_set p kinds (s.Join e r) ≡ true
sorted_join p kinds e r set relation = sorted_set_join p kinds e r ∙ and_from (is_sorted_set p kinds e) (is_spread p kinds AsSet r) set relation

pub sorted_reach : (p : Posed) (kinds : Kinds) (e : RelExpr) (rs : List RelVar) → is_sorted_set p kinds e ≡ true → list_all (is_spread p kinds AsSet) rs ≡ true → is_sorted_set p kinds (s.Reach e rs) ≡ true
sorted_reach p kinds e rs set relations = sorted_set_reach p kinds e rs ∙ and_from (is_sorted_set p kinds e) (list_all (is_spread p kinds AsSet) rs) set relations

pub sorted_at : (p : Posed) (kinds : Kinds) (e : RelExpr) (r : RelVar) → is_sorted_set p kinds e ≡ true → is_spread p kinds AsNumber r ≡ true → is_sorted_number p kinds (n.At e r) ≡ true
sorted_at p kinds e r left right = sorted_number_at p kinds e r ∙ and_from (is_sorted_set p kinds e) (is_spread p kinds AsNumber r) left right

pub sorted_sum : (p : Posed) (kinds : Kinds) (a b : NumExpr) → is_sorted_number p kinds a ≡ true → is_sorted_number p kinds b ≡ true → is_sorted_number p kinds (n.Sum a b) ≡ true
sorted_sum p kinds a b left right = sorted_number_sum p kinds a b ∙ and_from (is_sorted_number p kinds a) (is_sorted_number p kinds b) left right

pub sorted_diff : (p : Posed) (kinds : Kinds) (a b : NumExpr) → is_sorted_number p kinds a ≡ true → is_sorted_number p kinds b ≡ true → is_sorted_number p kinds (n.Diff a b) ≡ true
sorted_diff p kinds a b left right = sorted_number_diff p kinds a b ∙ and_from (is_sorted_number p kinds a) (is_sorted_number p kinds b) left right

pub sorted_product : (p : Posed) (kinds : Kinds) (a b : NumExpr) → is_sorted_number p kinds a ≡ true → is_sorted_number p kinds b ≡ true → is_sorted_number p kinds (n.Product a b) ≡ true
sorted_product p kinds a b left right = sorted_number_product p kinds a b ∙ and_from (is_sorted_number p kinds a) (is_sorted_number p kinds b) left right

pub sorted_flag_there : (p : Posed) (kinds : Kinds) (e : RelExpr) (r : RelVar) → is_sorted_set p kinds e ≡ true → is_spread p kinds AsFlag r ≡ true → is_sorted p kinds (f.FlagAt e r) ≡ true
sorted_flag_there p kinds e r left right = sorted_flag_at p kinds e r ∙ and_from (is_sorted_set p kinds e) (is_spread p kinds AsFlag r) left right

pub sorted_inclusion : (p : Posed) (kinds : Kinds) (d e : RelExpr) → is_sorted_set p kinds d ≡ true → is_sorted_set p kinds e ≡ true → is_sorted p kinds (f.Subset d e) ≡ true
sorted_inclusion p kinds d e left right = sorted_subset p kinds d e ∙ and_from (is_sorted_set p kinds d) (is_sorted_set p kinds e) left right

pub sorted_class : (p : Posed) (kinds : Kinds) (e : RelExpr) (c : ℕ) (r : RelVar) → is_sorted_set p kinds e ≡ true → is_spread p kinds AsClass r ≡ true → is_sorted p kinds (f.IsClass e c r) ≡ true
sorted_class p kinds e c r left right = sorted_is_class p kinds e c r ∙ and_from (is_sorted_set p kinds e) (is_spread p kinds AsClass r) left right

pub sorted_equation : (p : Posed) (kinds : Kinds) (a b : NumExpr) → is_sorted_number p kinds a ≡ true → is_sorted_number p kinds b ≡ true → is_sorted p kinds (f.SameNum a b) ≡ true
sorted_equation p kinds a b left right = sorted_same_number p kinds a b ∙ and_from (is_sorted_number p kinds a) (is_sorted_number p kinds b) left right

pub sorted_order : (p : Posed) (kinds : Kinds) (a b : NumExpr) → is_sorted_number p kinds a ≡ true → is_sorted_number p kinds b ≡ true → is_sorted p kinds (f.BelowNum a b) ≡ true
sorted_order p kinds a b left right = sorted_below p kinds a b ∙ and_from (is_sorted_number p kinds a) (is_sorted_number p kinds b) left right

pub sorted_change : (p : Posed) (kinds : Kinds) (new : RelVar) (e : RelExpr) (given old : RelVar) → is_sorted_set p kinds e ≡ true → can_change p kinds new given old ≡ true → is_sorted p kinds (f.Changed new e given old) ≡ true
sorted_change p kinds new e given old left right = sorted_changed p kinds new e given old ∙ and_from (is_sorted_set p kinds e) (can_change p kinds new given old) left right

pub sorted_sameness : (p : Posed) (kinds : Kinds) (a b : Formula) → is_sorted p kinds a ≡ true → is_sorted p kinds b ≡ true → is_sorted p kinds (f.Same a b) ≡ true
sorted_sameness p kinds a b left right = sorted_same p kinds a b ∙ and_from (is_sorted p kinds a) (is_sorted p kinds b) left right
