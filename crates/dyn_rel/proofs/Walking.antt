-- Whole programs, by their forms: sequences grow by a part, choices by a branch.
use Rattle.std.proofs.Common.{◌≡◌, ◌⊎◌, ℕ, zero, suc, ◌+◌, ◌<◌, ◌≤◌, true, ◌&&◌, List, [], ◌∷◌, ◌++◌, length, map, take, Some, inl, inr, refl, sym, ◌∙◌, ap, subst, arith, get_or}
use Rattle.std.specs.Prelude.{Bool, slice_get, replicate, Any}
use Rattle.std.specs.List.{list_all}
use Rattle.std.proofs.lemmas.Bool.{and_parts, and_from}
use Rattle.std.proofs.lemmas.List.{take_more, take_all, drop_all}
use Rattle.std.proofs.lemmas.Option.{slice_get-get_or}
use Rattle.heap_core.proofs.Lists.{all_at}
use Rattle.taco_unit.specs.declared.kind.Kind.{Kind}
use Rattle.taco_unit.specs.Well.{IsWell}
use Rattle.heap_core.specs.Posed.{Posed}
use Rattle.rel_core.specs.declared.formula.Formula.{Formula}
use Rattle.rel_core.specs.declared.formula.Formula.TheVariants as form
use Rattle.rel_core.specs.Reading.{Reading}
use Rattle.rel_core.specs.Meaning.{holds}
use Rattle.rel_core.specs.Uses.{is_sorted}
use Rattle.rel_core.proofs.Forms.{holds_and, sorted_and}
use Rattle.dyn_core.specs.declared.prog.Act.{Act}
use Rattle.dyn_core.specs.declared.prog.Prog.{Prog}
use Rattle.dyn_core.specs.declared.prog.Prog.TheVariants as q
use Rattle.dyn_core.specs.declared.state.DynState.{DynState}
use Rattle.dyn_core.specs.Runs.{RunUpTo}
use Rattle.dyn_core.specs.Kinds.{is_kinded}
use Rattle.dyn_core.specs.Laws.{Chain}
use Rattle.dyn_core.proofs.Cases.{cases_up_to}
use Rattle.dyn_core.proofs.Forms.{kinded_act, kinded_test, kinded_seq, kinded_choice}
use Rattle.dyn_core.proofs.Kept.{runs_keep_kinds}
use Rattle.dyn_steps.specs.declared.point.Point.{Point}
use Rattle.dyn_steps.specs.declared.part.Front.{Front}
use Rattle.dyn_steps.specs.declared.part.Part.{Part}
use Rattle.dyn_steps.specs.Points.{IsPoint}
use Rattle.dyn_steps.specs.Looked.{Vars, looked_at, with_one}
use Rattle.dyn_steps.specs.Paths.{Shows, Relation, Acts, Passes, IsPath, IsStep, IsTest}
use Rattle.dyn_steps.specs.Joining.{Either, AreJoined}
use Rattle.dyn_steps.proofs.Moving.{alike_self, point_more}
use Rattle.dyn_rel.specs.Runs.{IsProgPath}
use Rattle.dyn_rel.specs.Looking.{looked_in_turn, looked_by_any, looked_from, IsList, is_single, IsBehind}
use Rattle.dyn_steps.proofs.Growing.{all_more}
use Rattle.dyn_steps.proofs.Following.{Then, KeepsAll, then_path}
use Rattle.dyn_steps.proofs.JoinedPaths.{joined_path}
use Rattle.dyn_steps.proofs.Tested.{path_widened, path_alike}
use Rattle.dyn_rel.proofs.LookedSets.{looked_act, looked_test, looked_seq, looked_choice, looked_star, single_seq, single_choice, any_looked, dropped, list_behind, behind}

-- ## nothing is done

pub stay_path :
    (p : Posed) (kinds : List Kind) (vars : Vars) (from : Front) (f : Formula)
    → ((m : Reading) → holds f m ≡ true)
    → is_sorted p (slice_get kinds) f ≡ true
    → IsPoint p kinds from.next from.at
    → IsPath p kinds vars vars (λ s t. s ≡ t) from (record { formula = f; end = from })
stay_path p kinds vars from f always sorted point = record {
  up = omega arith;
  point = point;
  indices = λ w. inl refl;
  sorted = sorted;
  sound = λ m s of is has shown. (s, refl, shown);
  full = λ m s t of has shown same. record {
    reading = m;
    of_problem = of;
    agrees = λ r below. alike_self m r;
    shown = subst (λ z. Shows p kinds vars m from.at z) same shown;
    holds = λ u is agree. always u;
  };
}

-- ## sequences

chain_split : (R : Prog → Relation) (xs : List Prog) (x : Prog) (s t : DynState) → Chain R (xs ++ x ∷ []) s t → Then (Chain R xs) (R x) s t
chain_split R [] x s t c = (s, refl, subst (λ z. R x s z) c.2 c.1)
chain_split R (y ∷ xs) x s t c =
    let rest = chain_split R xs x c.0 t c.2 in
    (rest.0, (c.0, c.1, rest.1), rest.2)

chain_joined : (R : Prog → Relation) (xs : List Prog) (x : Prog) (s t : DynState) → Then (Chain R xs) (R x) s t → Chain R (xs ++ x ∷ []) s t
chain_joined R [] x s t c = (t, subst (λ z. R x z t) (sym c.1) c.2, refl)
chain_joined R (y ∷ xs) x s t c = (c.1.0, c.1.1, chain_joined R xs x c.1.0 t (c.0, c.1.2, c.2))

-- the runs of a program in which no iteration takes a turn
abbrev pub Runs : Posed → Prog → Relation
Runs p prog = RunUpTo p 0 prog

chain_keeps : (p : Posed) (kinds : List Kind) → IsWell p.unit → (xs : List Prog) → list_all (is_kinded p kinds) xs ≡ true → KeepsAll p kinds (Chain (Runs p) xs)
chain_keeps p kinds well xs kinded s t has run =
    (runs_keep_kinds p kinds (q.Seq xs) s t well (kinded_seq p kinds xs ∙ kinded) has (0, ((cases_up_to p 0).seq xs s t).1 run)).kinded

pub seq_more :
    (p : Posed) (kinds : List Kind) (before between after : Vars) (from end : Front) (xs : List Prog) (x : Prog) (all ys : List Formula) (a : Formula) (made : Part)
    → IsWell p.unit
    → list_all (is_kinded p kinds) xs ≡ true
    → a ≡ made.formula
    → ys ≡ all ++ a ∷ []
    → IsPath p kinds before between (Chain (Runs p) xs) from (record { formula = form.And all; end = end })
    → IsPath p kinds between after (Runs p x) end made
    → IsPath p kinds before after (Chain (Runs p) (xs ++ x ∷ [])) from (record { formula = form.And ys; end = made.end })
seq_more p kinds before between after from end xs x all ys a made well kinded a_is is first second =
    path_alike p kinds before after (Then (Chain (Runs p) xs) (Runs p x)) (Chain (Runs p) (xs ++ x ∷ [])) from (record { formula = form.And ys; end = made.end })
    (chain_joined (Runs p) xs x) (chain_split (Runs p) xs x)
    (then_path p kinds before between after (Chain (Runs p) xs) (Runs p x) from (record { formula = form.And all; end = end }) made (record { formula = form.And ys; end = made.end })
    first second (chain_keeps p kinds well xs kinded) refl
    (λ m. holds_and ys m ∙ ap (list_all (λ b. holds b m)) is ∙ all_more (λ b. holds b m) all a ∙ ap (λ z. list_all (λ b. holds b m) all && z) (ap (λ b. holds b m) a_is)
    ∙ ap (λ z. z && holds made.formula m) (sym (holds_and all m)))
    (λ one two.
    sorted_and p (slice_get kinds) ys ∙ ap (list_all (is_sorted p (slice_get kinds))) is ∙ all_more (is_sorted p (slice_get kinds)) all a
    ∙ and_from (list_all (is_sorted p (slice_get kinds)) all) (is_sorted p (slice_get kinds) a) (sym (sorted_and p (slice_get kinds) all) ∙ one) (ap (is_sorted p (slice_get kinds)) a_is ∙ two)))

-- ## choices

-- one of the branches
abbrev pub AnyOf : (Prog → Type 0) → List Prog → Type 0
AnyOf P [] = ⊥
AnyOf P (x ∷ xs) = P x ⊎ AnyOf P xs

any_from : (P : Prog → Type 0) (xs : List Prog) (i : ℕ) (x : Prog) → i < length xs → get_or xs i x ≡ x → P x → AnyOf P xs
any_from P [] i x low is has = absurd (omega (arith, low))
any_from P (y ∷ xs) zero x low is has = inl (subst P (sym is) has)
any_from P (y ∷ xs) (suc i) x low is has = inr (any_from P xs i x (omega (arith, low)) is has)

any_to : (P : Prog → Type 0) (xs : List Prog) → AnyOf P xs → Any P xs
any_to P [] has = absurd has
any_to P (x ∷ xs) (inl has) = (0, x, omega arith, refl, has)
any_to P (x ∷ xs) (inr later) =
    let a = any_to P xs later in
    let low = a.2 in
    (suc a.0, a.1, omega (arith, low), a.3, a.4)

any_split : (P : Prog → Type 0) (xs : List Prog) (x : Prog) → AnyOf P (xs ++ x ∷ []) → AnyOf P xs ⊎ P x
any_split P [] x (inl has) = inr has
any_split P [] x (inr none) = absurd none
any_split P (y ∷ xs) x (inl has) = inl (inl has)
any_split P (y ∷ xs) x (inr later) = elim (any_split P xs x later) [
  | inl one ↦ inl (inr one)
  | inr last ↦ inr last
]

any_joined : (P : Prog → Type 0) (xs : List Prog) (x : Prog) → AnyOf P xs ⊎ P x → AnyOf P (xs ++ x ∷ [])
any_joined P [] x (inl none) = absurd none
any_joined P [] x (inr has) = inl has
any_joined P (y ∷ xs) x (inl (inl has)) = inl has
any_joined P (y ∷ xs) x (inl (inr later)) = inr (any_joined P xs x (inl later))
any_joined P (y ∷ xs) x (inr has) = inr (any_joined P xs x (inr has))

abbrev pub Branches : Posed → List Prog → Relation
Branches p xs s t = AnyOf (λ x. Runs p x s t) xs

pub choice_more :
    (p : Posed) (kinds : List Kind) (before after : Vars) (from : Front) (xs : List Prog) (x : Prog) (a b joint : Part)
    → IsPoint p kinds from.next from.at
    → IsPath p kinds before after (Branches p xs) from a
    → IsPath p kinds before after (Runs p x) (record { at = from.at; next = a.end.next }) b
    → AreJoined p kinds after from.at a b joint
    → IsPath p kinds before after (Branches p (xs ++ x ∷ [])) from joint
choice_more p kinds before after from xs x a b joint point first second are =
    path_alike p kinds before after (Either (Branches p xs) (Runs p x)) (Branches p (xs ++ x ∷ [])) from joint
    (λ s t run. any_joined (λ y. Runs p y s t) xs x run)
    (λ s t run. any_split (λ y. Runs p y s t) xs x run)
    (joined_path p kinds before after (Branches p xs) (Runs p x) from a b joint point first second are)

-- ## the forms of programs

pub seq_runs :
    (p : Posed) (kinds : List Kind) (vars : Vars) (parts : List Prog) (from : Front) (part : Part)
    → IsPath p kinds (looked_in_turn (map looked_from parts) vars) vars (Chain (Runs p) parts) from part
    → IsPath p kinds (looked_from (q.Seq parts) vars) vars (Runs p (q.Seq parts)) from part
seq_runs p kinds vars parts from part path =
    subst (λ b. IsPath p kinds b vars (Runs p (q.Seq parts)) from part) (sym (looked_seq parts vars))
    (path_alike p kinds (looked_in_turn (map looked_from parts) vars) vars (Chain (Runs p) parts) (Runs p (q.Seq parts)) from part
    (λ s t run. ((cases_up_to p 0).seq parts s t).1 run) (λ s t run. ((cases_up_to p 0).seq parts s t).0 run) path)

pub choice_runs :
    (p : Posed) (kinds : List Kind) (vars : Vars) (parts : List Prog) (from : Front) (part : Part)
    → IsPath p kinds (looked_by_any (map looked_from parts) vars) vars (Branches p parts) from part
    → IsPath p kinds (looked_from (q.Choice parts) vars) vars (Runs p (q.Choice parts)) from part
choice_runs p kinds vars parts from part path =
    subst (λ b. IsPath p kinds b vars (Runs p (q.Choice parts)) from part) (sym (looked_choice parts vars))
    (path_alike p kinds (looked_by_any (map looked_from parts) vars) vars (Branches p parts) (Runs p (q.Choice parts)) from part
    (λ s t run. ((cases_up_to p 0).choice parts s t).1 (any_to (λ x. Runs p x s t) parts run))
    (λ s t run. let a = ((cases_up_to p 0).choice parts s t).0 run in any_from (λ x. Runs p x s t) parts a.0 a.1 a.2 a.3 a.4)
    path)

pub act_runs :
    (p : Posed) (kinds : List Kind) (vars : Vars) (a : Act) (from : Front) (part : Part)
    → IsPath p kinds (looked_at a vars) vars (Acts p a) from part
    → IsPath p kinds (looked_from (q.Act a) vars) vars (Runs p (q.Act a)) from part
act_runs p kinds vars a from part path =
    subst (λ b. IsPath p kinds b vars (Runs p (q.Act a)) from part) (sym (looked_act a vars))
    (path_alike p kinds (looked_at a vars) vars (Acts p a) (Runs p (q.Act a)) from part
    (λ s t run. ((cases_up_to p 0).act a s t).1 run) (λ s t run. ((cases_up_to p 0).act a s t).0 run) path)

pub test_runs :
    (p : Posed) (kinds : List Kind) (vars : Vars) (x : ℕ) (b : Bool) (from : Front) (part : Part)
    → IsPath p kinds (with_one x vars) vars (Passes x b) from part
    → IsPath p kinds (looked_from (q.Test x b) vars) vars (Runs p (q.Test x b)) from part
test_runs p kinds vars x b from part path =
    subst (λ c. IsPath p kinds c vars (Runs p (q.Test x b)) from part) (sym (looked_test x b vars))
    (path_alike p kinds (with_one x vars) vars (Passes x b) (Runs p (q.Test x b)) from part
    (λ s t run. ((cases_up_to p 0).test x b s t).1 run) (λ s t run. ((cases_up_to p 0).test x b s t).0 run) path)

-- an iteration takes no turn
pub star_runs :
    (p : Posed) (kinds : List Kind) (vars : Vars) (body : Prog) (from : Front) (part : Part)
    → IsPath p kinds vars vars (λ s t. s ≡ t) from part
    → IsPath p kinds (looked_from (q.Star body) vars) vars (Runs p (q.Star body)) from part
star_runs p kinds vars body from part path =
    subst (λ b. IsPath p kinds b vars (Runs p (q.Star body)) from part) (sym (looked_star body vars))
    (path_alike p kinds vars vars (λ s t. s ≡ t) (Runs p (q.Star body)) from part
    (λ s t same. ((cases_up_to p 0).star body s t).1 (0, omega arith, same))
    (λ s t run. let k = ((cases_up_to p 0).star body s t).0 run in none k.0 k.1 s t k.2)
    path)
  where
    none : (k : ℕ) → k ≤ 0 → (s t : DynState) → Chain (Runs p) (replicate k body) s t → s ≡ t
    none zero low s t c = c
    none (suc k) low s t c = absurd (omega (arith, low))

all_taken : {A : Type 0} (test : A → Bool) (i : ℕ) (xs : List A) → list_all test xs ≡ true → list_all test (take i xs) ≡ true
all_taken test zero xs all = refl
all_taken test (suc i) [] all = refl
all_taken test (suc i) (x ∷ xs) all =
    let both = and_parts (test x) (list_all test xs) all in
    and_from (test x) (list_all test (take i xs)) both.0 (all_taken test i xs both.1)

one_more : (parts : List Prog) (i : ℕ) (x : Prog) → i < length parts → x ≡ get_or parts i x → take (i + 1) parts ≡ take i parts ++ x ∷ []
one_more parts i x low is = take_more parts i x low ∙ ap (λ z. take i parts ++ z ∷ []) (sym is)

item_kinded : (p : Posed) (kinds : List Kind) (parts : List Prog) (i : ℕ) (x : Prog) → list_all (is_kinded p kinds) parts ≡ true → i < length parts → x ≡ get_or parts i x → is_kinded p kinds x ≡ true
item_kinded p kinds parts i x all low is = all_at (is_kinded p kinds) parts i x all (slice_get-get_or parts i x low ∙ ap Some (sym is))

-- ## the walk over sequences

-- the first i parts of a sequence
abbrev pub IsBegun : Posed → List Kind → Vars → List Prog → ℕ → Front → Part → Type 0
IsBegun p kinds vars parts i from part = IsPath p kinds (looked_in_turn (map looked_from parts) vars) (behind vars parts i) (Chain (Runs p) (take i parts)) from part

pub seq_begun :
    (p : Posed) (kinds : List Kind) (vars : Vars) (parts : List Prog) (from : Front) (all : List Formula)
    → all ≡ []
    → IsPoint p kinds from.next from.at
    → IsBegun p kinds vars parts 0 from (record { formula = form.And all; end = from })
seq_begun p kinds vars parts from all is point =
    stay_path p kinds (looked_in_turn (map looked_from parts) vars) from (form.And all) (λ m. holds_and all m ∙ ap (list_all (λ b. holds b m)) is)
    (sorted_and p (slice_get kinds) all ∙ ap (list_all (is_sorted p (slice_get kinds))) is) point

pub seq_step :
    (p : Posed) (kinds : List Kind) (vars : Vars) (from end : Front) (parts : List Prog) (i : ℕ) (x : Prog) (all ys : List Formula) (a : Formula) (made : Part)
    → IsWell p.unit
    → is_kinded p kinds (q.Seq parts) ≡ true
    → i < length parts
    → x ≡ get_or parts i x
    → a ≡ made.formula
    → ys ≡ all ++ a ∷ []
    → IsBegun p kinds vars parts i from (record { formula = form.And all; end = end })
    → IsProgPath p kinds (behind vars parts (i + 1)) x end made
    → IsBegun p kinds vars parts (i + 1) from (record { formula = form.And ys; end = made.end })
seq_step p kinds vars from end parts i x all ys a made well kinded low is a_is ys_is first second =
    let each = sym (kinded_seq p kinds parts) ∙ kinded in
    let before = looked_in_turn (map looked_from parts) vars in
    let after = behind vars parts (i + 1) in
    subst (λ xs. IsPath p kinds before after (Chain (Runs p) xs) from (record { formula = form.And ys; end = made.end })) (sym (one_more parts i x low is))
    (seq_more p kinds before (looked_from x after) after from end (take i parts) x all ys a made well (all_taken (is_kinded p kinds) i parts each) a_is ys_is
    (subst (λ xs. IsPath p kinds before (looked_in_turn (map looked_from xs) vars) (Chain (Runs p) (take i parts)) from (record { formula = form.And all; end = end }))
    (dropped parts i x low is) first)
    (second (item_kinded p kinds parts i x each low is) first.point))

pub seq_ended :
    (p : Posed) (kinds : List Kind) (vars : Vars) (from end : Front) (parts : List Prog) (i : ℕ) (all : List Formula) (f : Formula)
    → length parts ≤ i
    → ((m : Reading) → holds f m ≡ list_all (λ b. holds b m) all)
    → (list_all (is_sorted p (slice_get kinds)) all ≡ true → is_sorted p (slice_get kinds) f ≡ true)
    → IsBegun p kinds vars parts i from (record { formula = form.And all; end = end })
    → IsPath p kinds (looked_from (q.Seq parts) vars) vars (Runs p (q.Seq parts)) from (record { formula = f; end = end })
seq_ended p kinds vars from end parts i all f high meaning sorted begun =
    seq_runs p kinds vars parts from (record { formula = f; end = end })
    (record {
      up = path.up;
      point = path.point;
      indices = path.indices;
      sorted = sorted (sym (sorted_and p (slice_get kinds) all) ∙ path.sorted);
      sound = λ m s of is has shown. path.sound m s of (holds_and all m ∙ sym (meaning m) ∙ is) has shown;
      full = λ m s t of has shown run.
          let g = path.full m s t of has shown run in
          record { reading = g.reading; of_problem = g.of_problem; agrees = g.agrees; shown = g.shown; holds = λ u is agree. meaning u ∙ sym (holds_and all u) ∙ g.holds u is agree };
    })
  where
    whole : Part
    whole = record { formula = form.And all; end = end }

    path : IsPath p kinds (looked_in_turn (map looked_from parts) vars) vars (Chain (Runs p) parts) from whole
    path = subst (λ xs. IsPath p kinds (looked_in_turn (map looked_from parts) vars) vars (Chain (Runs p) xs) from whole) (take_all i parts high)
        (subst (λ xs. IsPath p kinds (looked_in_turn (map looked_from parts) vars) (looked_in_turn (map looked_from xs) vars) (Chain (Runs p) (take i parts)) from whole)
        (drop_all i parts high) begun)

-- ## the walk over branches

-- the first i branches of a choice
abbrev pub IsOneOf : Posed → List Kind → Vars → List Prog → ℕ → Front → Part → Type 0
IsOneOf p kinds vars parts i from part = IsPath p kinds (looked_by_any (map looked_from parts) vars) vars (Branches p (take i parts)) from part

pub choice_step :
    (p : Posed) (kinds : List Kind) (vars : Vars) (from begun : Front) (parts : List Prog) (i : ℕ) (x : Prog) (a b joint : Part)
    → is_kinded p kinds (q.Choice parts) ≡ true
    → IsPoint p kinds from.next from.at
    → i < length parts
    → x ≡ get_or parts i x
    → begun ≡ record { at = from.at; next = a.end.next }
    → IsOneOf p kinds vars parts i from a
    → IsProgPath p kinds vars x begun b
    → (IsPoint p kinds b.end.next from.at → IsPoint p kinds b.end.next a.end.at → IsPoint p kinds b.end.next b.end.at → AreJoined p kinds vars from.at a b joint)
    → IsOneOf p kinds vars parts (i + 1) from joint
choice_step p kinds vars from begun parts i x a b joint kinded point low is begun_is first second are =
    subst (λ xs. IsPath p kinds before vars (Branches p xs) from joint) (sym (one_more parts i x low is))
    (choice_more p kinds before vars from (take i parts) x a b joint point first branch
    (are (point_more p kinds from.next b.end.next from.at (let one = first.up in let two = branch.up in omega (arith, one, two)) point)
    (point_more p kinds a.end.next b.end.next a.end.at branch.up first.point) branch.point))
  where
    before : Vars
    before = looked_by_any (map looked_from parts) vars

    each : list_all (is_kinded p kinds) parts ≡ true
    each = sym (kinded_choice p kinds parts) ∙ kinded

    branch : IsPath p kinds before vars (Runs p x) (record { at = from.at; next = a.end.next }) b
    branch = subst (λ z. IsPath p kinds before vars (Runs p x) z b) begun_is
        (path_widened p kinds (looked_from x vars) before vars vars (Runs p x) begun b (λ y inside. any_looked parts i x vars y low is inside) (λ y inside. inside)
        (second (item_kinded p kinds parts i x each low is) (subst (λ (z : Front). IsPoint p kinds z.next z.at) (sym begun_is) (point_more p kinds from.next a.end.next from.at first.up point))))

pub choice_begun :
    (p : Posed) (kinds : List Kind) (before after : Vars) (from : Front) (first : Point) (part : Part)
    → first ≡ from.at
    → (IsPoint p kinds from.next first → IsPath p kinds before after (λ s t. ⊥) (record { at = first; next = from.next }) part)
    → IsPoint p kinds from.next from.at
    → IsPath p kinds before after (λ s t. ⊥) from part
choice_begun p kinds before after from first part is path point =
    subst (λ z. IsPath p kinds before after (λ s t. ⊥) (record { at = z; next = from.next }) part) is (path (subst (λ z. IsPoint p kinds from.next z) (sym is) point))

pub choice_ended :
    (p : Posed) (kinds : List Kind) (vars : Vars) (from : Front) (parts : List Prog) (i : ℕ) (part : Part)
    → length parts ≤ i
    → IsOneOf p kinds vars parts i from part
    → IsPath p kinds (looked_from (q.Choice parts) vars) vars (Runs p (q.Choice parts)) from part
choice_ended p kinds vars from parts i part high path =
    choice_runs p kinds vars parts from part
    (subst (λ xs. IsPath p kinds (looked_by_any (map looked_from parts) vars) vars (Branches p xs) from part) (take_all i parts high) path)

-- ## the forms, as the walk needs them

pub prog_of_act :
    (p : Posed) (kinds : List Kind) (vars : Vars) (prog : Prog) (a : Act) (from : Front) (part : Part)
    → prog ≡ q.Act a → IsStep p kinds a from part → IsProgPath p kinds vars prog from part
prog_of_act p kinds vars prog a from part is step =
    subst (λ z. IsProgPath p kinds vars z from part) (sym is) (λ kinded point. act_runs p kinds vars a from part (step (sym (kinded_act p kinds a) ∙ kinded) point vars))

pub prog_of_test :
    (p : Posed) (kinds : List Kind) (vars : Vars) (prog : Prog) (x : ℕ) (b : Bool) (from : Front) (part : Part)
    → prog ≡ q.Test x b → IsTest p kinds x b from part → IsProgPath p kinds vars prog from part
prog_of_test p kinds vars prog x b from part is tested =
    subst (λ z. IsProgPath p kinds vars z from part) (sym is) (λ kinded point. test_runs p kinds vars x b from part (tested (sym (kinded_test p kinds x b) ∙ kinded) point vars))

pub prog_of_seq :
    (p : Posed) (kinds : List Kind) (vars : Vars) (prog : Prog) (parts slice : List Prog) (from : Front) (part : Part) (n : ℕ) (set : List Bool)
    → prog ≡ q.Seq parts
    → slice ≡ parts
    → (IsList n vars set → IsProgPath p kinds vars (q.Seq slice) from part)
    → IsBehind prog n vars set
    → IsProgPath p kinds vars prog from part
prog_of_seq p kinds vars prog parts slice from part n set is slice_is path there =
    subst (λ z. IsProgPath p kinds vars z from part) (sym (is ∙ ap (λ xs. q.Seq xs) (sym slice_is)))
    (path (list_behind prog n vars set (ap is_single is ∙ single_seq parts) there))

pub prog_of_choice :
    (p : Posed) (kinds : List Kind) (vars : Vars) (prog : Prog) (parts slice : List Prog) (from : Front) (part : Part) (n : ℕ) (set : List Bool)
    → prog ≡ q.Choice parts
    → slice ≡ parts
    → (IsList n vars set → IsProgPath p kinds vars (q.Choice slice) from part)
    → IsBehind prog n vars set
    → IsProgPath p kinds vars prog from part
prog_of_choice p kinds vars prog parts slice from part n set is slice_is path there =
    subst (λ z. IsProgPath p kinds vars z from part) (sym (is ∙ ap (λ xs. q.Choice xs) (sym slice_is)))
    (path (list_behind prog n vars set (ap is_single is ∙ single_choice parts) there))

pub prog_of_star :
    (p : Posed) (kinds : List Kind) (vars : Vars) (prog body : Prog) (from : Front) (f : Formula)
    → prog ≡ q.Star body → ((m : Reading) → holds f m ≡ true) → is_sorted p (slice_get kinds) f ≡ true
    → IsProgPath p kinds vars prog from (record { formula = f; end = from })
prog_of_star p kinds vars prog body from f is always sorted =
    subst (λ z. IsProgPath p kinds vars z from (record { formula = f; end = from })) (sym is)
    (λ kinded point. star_runs p kinds vars body from (record { formula = f; end = from }) (stay_path p kinds vars from f always sorted point))
