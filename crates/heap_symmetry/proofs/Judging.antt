-- A start under the new numbers is judged alike.
use Rattle.std.proofs.Common.{◌≡◌, ℕ, ◌+◌, ◌≤◌, Bool, true, false, cond, not, ◌&&◌, ◌||◌, List, [], ◌∷◌, ◌++◌, length, map, Option, Some, None, refl, sym, ◌∙◌, ap, arith}
use Rattle.std.specs.Prelude.{slice_get, option_map, filter, filter_map, flat_map, zip}
use Rattle.std.specs.List.{list_any, list_all, range_with_len, enumerate_from, cons_option}
use Rattle.std.specs.Option.{option_map_or}
use Rattle.std.proofs.lemmas.List.Concat.{flat_map-cons}
use Rattle.std.proofs.lemmas.List.Folds.{list_any-append}
use Rattle.taco_unit.specs.declared.unit.Clause.{Clause}
use Rattle.taco_unit.specs.declared.unit.ClassDef.{ClassDef}
use Rattle.taco_unit.specs.declared.unit.FieldDef.{FieldDef}
use Rattle.taco_unit.specs.declared.unit.ParamDef.{ParamDef}
use Rattle.taco_unit.specs.declared.unit.MethodDef.{MethodDef}
use Rattle.heap_core.specs.declared.value.Value.{Value}
use Rattle.heap_core.specs.declared.value.Value.TheVariants.{Null, Obj, Num, Flag}
use Rattle.heap_core.specs.declared.value.Object.{Object}
use Rattle.heap_core.specs.declared.value.Seen.{Seen}
use Rattle.heap_core.specs.declared.value.Seen.TheVariants.{Is, Bad, Out}
use Rattle.heap_core.specs.declared.start.Start.{Start}
use Rattle.heap_core.specs.declared.judged.Part.{Part}
use Rattle.heap_core.specs.declared.judged.Part.TheVariants as part
use Rattle.heap_core.specs.declared.judged.Judged.{Judged}
use Rattle.heap_core.specs.declared.judged.Judged.TheVariants.{Outside, NotAsked}
use Rattle.heap_core.specs.Posed.{Posed}
use Rattle.heap_core.specs.Outcomes.{is_null, is_out, is_true, gives_null}
use Rattle.heap_core.specs.Heap.{Heap, field}
use Rattle.heap_core.specs.Eval.{Env}
use Rattle.heap_core.specs.Exec.{Ends, Memory, calls}
use Rattle.heap_core.specs.Start.{method_of}
use Rattle.heap_core.specs.Judge.{numbers_of, invariant_env, entry_env, exit_env, values_of, at_class, invariants_of, fields_at, invariants_at, all_invariants, needs_of, gives_of, must_be_there, is_missing, missing_at, is_good_at, is_good, lacks_argument, is_asked, not_true, lacks_result, broken_at, broken_parts, first_broken, run_of, judged_end, judged_run, judged}
use Rattle.heap_symmetry.specs.Kinds.{IsOfKind, outside, not_asked, breaks, meets}
use Rattle.heap_symmetry.specs.Renaming.{IsNaming, value_as, object_as, seen_as, IsRenamed, IsRenamedStart}
use Rattle.heap_symmetry.proofs.Names.{any_same, all_same}
use Rattle.heap_symmetry.proofs.Evaluated.{IsRenamedEnv, named_within, field_as, same_value, out_as, true_as}
use Rattle.heap_symmetry.proofs.Coded.{SameMemory, SameEnds, gives, throws, leaves}
use Rattle.heap_symmetry.proofs.Called.{returned_as, run_body_same, calls_same}

-- ## lists of values

all_values_as : {n nb : ℕ → ℕ} (x y : Env) → IsRenamedEnv n nb x y → (cs : List Clause) → values_of y cs ≡ map (seen_as n) (values_of x cs)
all_values_as x y is [] = refl
all_values_as {n} x y is (c ∷ cs) = rw ((same_value c.expr).evaluated x y is, all_values_as x y is cs) refl

any_out_as : (n : ℕ → ℕ) (vs : List Seen) → list_any is_out (map (seen_as n) vs) ≡ list_any is_out vs
any_out_as n [] = refl
any_out_as n (v ∷ vs) = rw (out_as n v, any_out_as n vs) refl

all_true_as : (n : ℕ → ℕ) (vs : List Seen) → list_all is_true (map (seen_as n) vs) ≡ list_all is_true vs
all_true_as n [] = refl
all_true_as n (v ∷ vs) = rw (true_as n v, all_true_as n vs) refl

any_flat : {A B : Type 0} (t : B → Bool) (f : A → List B) (xs : List A) → list_any t (flat_map f xs) ≡ list_any (λ x. list_any t (f x)) xs
any_flat t f [] = refl
any_flat t f (x ∷ xs) = ap (list_any t) (flat_map-cons f x xs) ∙ list_any-append t (f x) (flat_map f xs) ∙ ap (λ b. list_any t (f x) || b) (any_flat t f xs)

-- ## one object

class_named : {A : Type 0} (p : Posed) {n : ℕ → ℕ} (h j : Heap) → IsRenamed n h j → (o : ℕ) (f : ClassDef → A) (missing : A) → at_class p j (n o) f missing ≡ at_class p h o f missing
class_named p {n} h j is o f missing = ap (λ x. option_map_or (λ (y : Object). option_map_or f (slice_get p.unit.classes y.class) missing) x missing) (is.objects o) ∙ go (slice_get h o)
  where
    go : (x : Option Object) → option_map_or (λ (y : Object). option_map_or f (slice_get p.unit.classes y.class) missing) (option_map (object_as n) x) missing ≡ option_map_or (λ (y : Object). option_map_or f (slice_get p.unit.classes y.class) missing) x missing
    go None = refl
    go (Some x) = refl

invariant_env_as : (p : Posed) {n nb : ℕ → ℕ} → IsNaming n nb → (h j : Heap) → IsRenamed n h j → length h ≤ p.scope.objects → (o : ℕ) → IsRenamedEnv n nb (invariant_env p h o) (invariant_env p j (n o))
invariant_env_as p naming h j is few o = record {
  naming = naming;
  few = few;
  classes = refl;
  objects = refl;
  ints = refl;
  this = refl;
  locals = refl;
  bound = refl;
  result = refl;
  heap = is;
  heap_before = is;
  few_before = few;
}

invariants_as : (p : Posed) {n nb : ℕ → ℕ} → IsNaming n nb → (h j : Heap) → IsRenamed n h j → length h ≤ p.scope.objects → (o : ℕ) → invariants_at p j (n o) ≡ map (seen_as n) (invariants_at p h o)
invariants_as p {n} naming h j is few o =
    ap (values_of (invariant_env p j (n o))) (class_named p h j is o (λ d. d.invariants) []) ∙ all_values_as (invariant_env p h o) (invariant_env p j (n o)) (invariant_env_as p naming h j is few o) (invariants_of p h o)

null_seen : (n : ℕ → ℕ) (s : Seen) → gives_null (seen_as n s) ≡ gives_null s
null_seen n (Is Null) = refl
null_seen n (Is (Obj o)) = refl
null_seen n (Is (Num z)) = refl
null_seen n (Is (Flag b)) = refl
null_seen n Bad = refl
null_seen n Out = refl

null_as : (n : ℕ → ℕ) (v : Value) → is_null (value_as n v) ≡ is_null v
null_as n Null = refl
null_as n (Obj o) = refl
null_as n (Num z) = refl
null_as n (Flag b) = refl

missing_as : (p : Posed) {n : ℕ → ℕ} (h j : Heap) → IsRenamed n h j → (o f : ℕ) → is_missing p j (n o) f ≡ is_missing p h o f
missing_as p {n} h j is o f = go (slice_get p.unit.fields f)
  where
    go : (d : Option FieldDef) → option_map_or (λ (x : FieldDef). must_be_there x.kind x.nullable && gives_null (field p.unit.classes j f (Obj (n o)))) d false ≡ option_map_or (λ (x : FieldDef). must_be_there x.kind x.nullable && gives_null (field p.unit.classes h f (Obj o))) d false
    go None = refl
    go (Some d) = ap (λ b. must_be_there d.kind d.nullable && b) (ap gives_null (field_as is p.unit.classes f (Obj o)) ∙ null_seen n (field p.unit.classes h f (Obj o)))

any_missing_as : (p : Posed) {n : ℕ → ℕ} (h j : Heap) → IsRenamed n h j → (o : ℕ) (fs : List ℕ) → list_any (is_missing p j (n o)) fs ≡ list_any (is_missing p h o) fs
any_missing_as p h j is o [] = refl
any_missing_as p h j is o (f ∷ fs) = rw (missing_as p h j is o f, any_missing_as p h j is o fs) refl

good_at_as : (p : Posed) {n nb : ℕ → ℕ} → IsNaming n nb → (h j : Heap) → IsRenamed n h j → length h ≤ p.scope.objects → (o : ℕ) → is_good_at p j (n o) ≡ is_good_at p h o
good_at_as p {n} naming h j is few o =
    let fields : list_any (is_missing p j (n o)) (fields_at p j (n o)) ≡ list_any (is_missing p h o) (fields_at p h o) =
    ap (list_any (is_missing p j (n o))) (class_named p h j is o (λ d. d.fields) []) ∙ any_missing_as p h j is o (fields_at p h o)
    in
    let invariants : list_all is_true (invariants_at p j (n o)) ≡ list_all is_true (invariants_at p h o) =
    ap (list_all is_true) (invariants_as p naming h j is few o) ∙ all_true_as n (invariants_at p h o)
    in
    rw (fields, invariants) refl

-- ## all objects

pub good_as : (p : Posed) {n nb : ℕ → ℕ} → IsNaming n nb → (h j : Heap) → IsRenamed n h j → length h ≤ p.scope.objects → is_good p j ≡ is_good p h
good_as p {n} naming h j is few =
    ap (λ k. list_all (is_good_at p j) (range_with_len 0 k)) is.as_many ∙ all_same (named_within naming is (length h) (omega arith)) (is_good_at p h) (is_good_at p j) (good_at_as p naming h j is few)

invariants_out_as : (p : Posed) {n nb : ℕ → ℕ} → IsNaming n nb → (h j : Heap) → IsRenamed n h j → length h ≤ p.scope.objects → list_any is_out (all_invariants p j) ≡ list_any is_out (all_invariants p h)
invariants_out_as p {n} naming h j is few =
    any_flat is_out (invariants_at p j) (numbers_of j) ∙ ap (λ k. list_any (λ o. list_any is_out (invariants_at p j o)) (range_with_len 0 k)) is.as_many ∙ any_same (named_within naming is (length h) (omega arith)) (λ o. list_any is_out (invariants_at p h o)) (λ o. list_any is_out (invariants_at p j o)) (λ o. ap (list_any is_out) (invariants_as p naming h j is few o) ∙ any_out_as n (invariants_at p h o)) ∙ sym (any_flat is_out (invariants_at p h) (numbers_of h))

-- ## the precondition

entry_env_as : (p : Posed) {n nb : ℕ → ℕ} → IsNaming n nb → (s t : Start) → IsRenamedStart n s t → length s.objects ≤ p.scope.objects → IsRenamedEnv n nb (entry_env p s) (entry_env p t)
entry_env_as p naming s t is few = record {
  naming = naming;
  few = few;
  classes = refl;
  objects = refl;
  ints = refl;
  this = is.this;
  locals = is.args;
  bound = refl;
  result = refl;
  heap = is.heap;
  heap_before = is.heap;
  few_before = few;
}

of_method : (p : Posed) {n nb : ℕ → ℕ} (x y : Env) → IsRenamedEnv n nb x y → (clauses : MethodDef → List Clause) (m : Option MethodDef) → option_map_or (λ d. values_of y (clauses d)) m [] ≡ map (seen_as n) (option_map_or (λ d. values_of x (clauses d)) m [])
of_method p x y is clauses None = refl
of_method p x y is clauses (Some d) = all_values_as x y is (clauses d)

needs_as : (p : Posed) {n nb : ℕ → ℕ} → IsNaming n nb → (s t : Start) → IsRenamedStart n s t → length s.objects ≤ p.scope.objects → needs_of p t ≡ map (seen_as n) (needs_of p s)
needs_as p naming s t is few = of_method p (entry_env p s) (entry_env p t) (entry_env_as p naming s t is few) (λ d. d.needs) (method_of p)

lacking_as : (n : ℕ → ℕ) (qs : List ParamDef) (vs : List Value) → list_any (λ e. must_be_there e.0.kind e.0.nullable && is_null e.1) (zip qs (map (value_as n) vs)) ≡ list_any (λ e. must_be_there e.0.kind e.0.nullable && is_null e.1) (zip qs vs)
lacking_as n [] vs = refl
lacking_as n (q ∷ qs) [] = refl
lacking_as n (q ∷ qs) (v ∷ vs) = rw (null_as n v, lacking_as n qs vs) refl

lacks_argument_as : (p : Posed) {n : ℕ → ℕ} (s t : Start) → IsRenamedStart n s t → lacks_argument p t ≡ lacks_argument p s
lacks_argument_as p {n} s t is = ap (λ vs. option_map_or (λ (m : MethodDef). list_any (λ e. must_be_there e.0.kind e.0.nullable && is_null e.1) (zip m.params vs)) (method_of p) false) is.args ∙ go (method_of p)
  where
    go : (m : Option MethodDef) → option_map_or (λ (d : MethodDef). list_any (λ e. must_be_there e.0.kind e.0.nullable && is_null e.1) (zip d.params (map (value_as n) s.args))) m false ≡ option_map_or (λ (d : MethodDef). list_any (λ e. must_be_there e.0.kind e.0.nullable && is_null e.1) (zip d.params s.args)) m false
    go None = refl
    go (Some d) = lacking_as n d.params s.args

asked_as : (p : Posed) {n nb : ℕ → ℕ} → IsNaming n nb → (s t : Start) → IsRenamedStart n s t → length s.objects ≤ p.scope.objects → is_asked p t ≡ is_asked p s
asked_as p {n} naming s t is few =
    let good = good_as p naming s.objects t.objects is.heap few in
    let needs : list_all is_true (needs_of p t) ≡ list_all is_true (needs_of p s) = ap (list_all is_true) (needs_as p naming s t is few) ∙ all_true_as n (needs_of p s) in
    rw (good, needs, lacks_argument_as p s t is) refl

-- ## the end

exit_env_as : (p : Posed) {n nb : ℕ → ℕ} → IsNaming n nb → (s t : Start) → IsRenamedStart n s t → length s.objects ≤ p.scope.objects → (r : Option Value) (m m' : Memory) → SameMemory p.scope.objects n m m' → IsRenamedEnv n nb (exit_env p s r m.heap) (exit_env p t (returned_as n r) m'.heap)
exit_env_as p naming s t is few r m m' same = record {
  naming = naming;
  few = same.few;
  classes = refl;
  objects = refl;
  ints = refl;
  this = is.this;
  locals = is.args;
  bound = refl;
  result = refl;
  heap = same.heap;
  heap_before = is.heap;
  few_before = few;
}

gives_as : (p : Posed) {n nb : ℕ → ℕ} → IsNaming n nb → (s t : Start) → IsRenamedStart n s t → length s.objects ≤ p.scope.objects → (r : Option Value) (m m' : Memory) → SameMemory p.scope.objects n m m' → gives_of p t (returned_as n r) m'.heap ≡ map (seen_as n) (gives_of p s r m.heap)
gives_as p {n} naming s t is few r m m' same =
    of_method p (exit_env p s r m.heap) (exit_env p t (returned_as n r) m'.heap) (exit_env_as p naming s t is few r m m' same) (λ d. d.gives) (method_of p)

lacks_result_as : (p : Posed) (n : ℕ → ℕ) (r : Option Value) → lacks_result p (returned_as n r) ≡ lacks_result p r
lacks_result_as p n None = refl
lacks_result_as p n (Some v) = ap (λ b. option_map_or (λ (m : MethodDef). option_map_or (λ k. must_be_there k.0 k.1 && b) m.result false) (method_of p) false) (null_as n v)

abbrev is_empty : {A : Type 0} → List A → Bool
is_empty [] = true
is_empty (x ∷ xs) = false

empty_both : {A : Type 0} (xs ys : List A) → is_empty (xs ++ ys) ≡ (is_empty xs && is_empty ys)
empty_both [] ys = refl
empty_both (x ∷ xs) ys = refl

empty_flat : {A B : Type 0} (f : A → List B) (xs : List A) → is_empty (flat_map f xs) ≡ list_all (λ x. is_empty (f x)) xs
empty_flat f [] = refl
empty_flat f (x ∷ xs) = ap is_empty (flat_map-cons f x xs) ∙ empty_both (f x) (flat_map f xs) ∙ ap (λ b. is_empty (f x) && b) (empty_flat f xs)

empty_either : {A : Type 0} (b : Bool) (x : A) (xs : List A) → is_empty (cond b (x ∷ xs) xs) ≡ (not b && is_empty xs)
empty_either true x xs = refl
empty_either false x xs = refl

not_either : (a b : Bool) → (not a && not b) ≡ not (a || b)
not_either true b = refl
not_either false b = refl

empty_filter : {A : Type 0} (test : A → Bool) (xs : List A) → is_empty (filter test xs) ≡ not (list_any test xs)
empty_filter test [] = refl
empty_filter test (x ∷ xs) =
    empty_either (test x) x (filter test xs) ∙ ap (λ b. not (test x) && b) (empty_filter test xs) ∙ not_either (test x) (list_any test xs)

empty_map : {A B : Type 0} (f : A → B) (xs : List A) → is_empty (map f xs) ≡ is_empty xs
empty_map f [] = refl
empty_map f (x ∷ xs) = refl

empty_part : (b : Bool) (x : Part) (xs : List Part) → is_empty (cons_option (cond b None (Some x)) xs) ≡ (b && is_empty xs)
empty_part true x xs = refl
empty_part false x xs = refl

empty_not_true : (named : ℕ → Part) (i : ℕ) (vs : List Seen) → is_empty (filter_map (λ e. cond (is_true e.1) None (Some (named e.0))) (enumerate_from i vs)) ≡ list_all is_true vs
empty_not_true named i [] = refl
empty_not_true named i (v ∷ vs) =
    empty_part (is_true v) (named i) (filter_map (λ e. cond (is_true e.1) None (Some (named e.0))) (enumerate_from (i + 1) vs)) ∙ ap (λ b. is_true v && b) (empty_not_true named (i + 1) vs)

empty_one : (b : Bool) → is_empty (cond b (part.Result ∷ []) []) ≡ not b
empty_one true = refl
empty_one false = refl

-- an object has no broken part exactly where it is good
empty_broken_at : (p : Posed) (h : Heap) (o : ℕ) → is_empty (broken_at p h o) ≡ is_good_at p h o
empty_broken_at p h o =
    empty_both (map (part.NonNull o) (missing_at p h o)) (not_true (λ k. part.Invariant k o) (invariants_at p h o)) ∙ ap (λ b. b && is_empty (not_true (λ k. part.Invariant k o) (invariants_at p h o))) (empty_map (part.NonNull o) (missing_at p h o) ∙ empty_filter (is_missing p h o) (fields_at p h o)) ∙ ap (λ b. not (list_any (is_missing p h o) (fields_at p h o)) && b) (empty_not_true (λ k. part.Invariant k o) 1 (invariants_at p h o))

all_alike : {A : Type 0} (f g : A → Bool) → ((x : A) → f x ≡ g x) → (xs : List A) → list_all f xs ≡ list_all g xs
all_alike f g same [] = refl
all_alike f g same (x ∷ xs) = rw (same x, all_alike f g same xs) refl

-- nothing is broken exactly where the clauses are true, a result is there that must be, and the heap is good
empty_broken : (p : Posed) (s : Start) (r : Option Value) (h : Heap) → is_empty (broken_parts p s r h) ≡ ((list_all is_true (gives_of p s r h) && not (lacks_result p r)) && is_good p h)
empty_broken p s r h =
    let clauses = not_true part.Ensures (gives_of p s r h) in
    let result = cond (lacks_result p r) (part.Result ∷ []) [] in
    let objects = flat_map (broken_at p h) (numbers_of h) in
    empty_both (clauses ++ result) objects ∙ ap (λ b. b && is_empty objects) (empty_both clauses result ∙ ap (λ b. b && is_empty result) (empty_not_true part.Ensures 1 (gives_of p s r h)) ∙ ap (λ b. list_all is_true (gives_of p s r h) && b) (empty_one (lacks_result p r))) ∙ ap (λ b. (list_all is_true (gives_of p s r h) && not (lacks_result p r)) && b) (empty_flat (broken_at p h) (numbers_of h) ∙ all_alike (λ o. is_empty (broken_at p h o)) (is_good_at p h) (empty_broken_at p h) (numbers_of h))

first_alike : (xs ys : List Part) → is_empty xs ≡ is_empty ys → IsOfKind (first_broken xs) (first_broken ys)
first_alike [] [] same = meets
first_alike [] (y ∷ ys) same = absurd (cc)
first_alike (x ∷ xs) [] same = absurd (cc)
first_alike (x ∷ xs) (y ∷ ys) same = breaks x y

chosen_alike : (b c : Bool) → b ≡ c → (x x' y y' : Judged) → IsOfKind x x' → IsOfKind y y' → IsOfKind (cond b x y) (cond c x' y')
chosen_alike true true same x x' y y' s t = s
chosen_alike false false same x x' y y' s t = t
chosen_alike true false same x x' y y' s t = absurd (cc)
chosen_alike false true same x x' y y' s t = absurd (cc)

end_alike : (p : Posed) {n nb : ℕ → ℕ} → IsNaming n nb → (s t : Start) → IsRenamedStart n s t → length s.objects ≤ p.scope.objects → (r : Option Value) (m m' : Memory) → SameMemory p.scope.objects n m m' → IsOfKind (judged_end p s r m) (judged_end p t (returned_as n r) m')
end_alike p {n} naming s t is few r m m' same =
    let given = gives_as p naming s t is few r m m' same in
    let outs : (list_any is_out (gives_of p s r m.heap) || list_any is_out (all_invariants p m.heap)) ≡ (list_any is_out (gives_of p t (returned_as n r) m'.heap) || list_any is_out (all_invariants p m'.heap)) =
    rw (given, any_out_as n (gives_of p s r m.heap), invariants_out_as p naming m.heap m'.heap same.heap same.few) refl
    in
    let good = good_as p naming m.heap m'.heap same.heap same.few in
    let clauses = ap (list_all is_true) given ∙ all_true_as n (gives_of p s r m.heap) in
    let none : is_empty (broken_parts p s r m.heap) ≡ is_empty (broken_parts p t (returned_as n r) m'.heap) =
    empty_broken p s r m.heap ∙ ap (λ b. (b && not (lacks_result p r)) && is_good p m.heap) (sym clauses) ∙ ap (λ b. (list_all is_true (gives_of p t (returned_as n r) m'.heap) && not b) && is_good p m.heap) (sym (lacks_result_as p n r)) ∙ ap (λ b. (list_all is_true (gives_of p t (returned_as n r) m'.heap) && not (lacks_result p (returned_as n r))) && b) (sym good) ∙ sym (empty_broken p t (returned_as n r) m'.heap)
    in
    chosen_alike _ _ outs Outside Outside (first_broken (broken_parts p s r m.heap)) (first_broken (broken_parts p t (returned_as n r) m'.heap)) outside (first_alike (broken_parts p s r m.heap) (broken_parts p t (returned_as n r) m'.heap) none)

run_alike : (p : Posed) {n nb : ℕ → ℕ} → IsNaming n nb → (s t : Start) → IsRenamedStart n s t → length s.objects ≤ p.scope.objects → (x y : Ends (Option Value)) → SameEnds p.scope.objects n (returned_as n) x y → IsOfKind (judged_run p s x) (judged_run p t y)
run_alike p naming s t is few _ _ (gives r m m' same) = end_alike p naming s t is few r m m' same
run_alike p naming s t is few _ _ (throws m m' same) = breaks part.Thrown part.Thrown
run_alike p naming s t is few _ _ leaves = outside

pub judged_alike : (p : Posed) {n nb : ℕ → ℕ} → IsNaming n nb → (s t : Start) → IsRenamedStart n s t → length s.objects ≤ p.scope.objects → IsOfKind (judged p s) (judged p t)
judged_alike p {n} naming s t is few =
    let outs : (list_any is_out (all_invariants p s.objects) || list_any is_out (needs_of p s)) ≡ (list_any is_out (all_invariants p t.objects) || list_any is_out (needs_of p t)) =
    rw (needs_as p naming s t is few, any_out_as n (needs_of p s), invariants_out_as p naming s.objects t.objects is.heap few) refl
    in
    let begun : SameMemory p.scope.objects n (record { heap = s.objects }) (record { heap = t.objects }) = record { heap = is.heap; few = few } in
    let run : SameEnds p.scope.objects n (returned_as n) (run_of p s) (run_of p t) =
    rw (is.this, is.args) (run_body_same p (calls p p.scope.calls) naming (calls_same p naming p.scope.calls) (method_of p) s.this s.args (record { heap = s.objects }) (record { heap = t.objects }) begun)
    in
    chosen_alike _ _ outs Outside Outside _ _ outside (chosen_alike _ _ (ap not (sym (asked_as p naming s t is few))) NotAsked NotAsked (judged_run p s (run_of p s)) (judged_run p t (run_of p t)) not_asked (run_alike p naming s t is few (run_of p s) (run_of p t) run))
