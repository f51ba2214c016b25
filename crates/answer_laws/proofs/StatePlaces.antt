-- A text with a line that is not right where it stands has one first such line.
use Rattle.std.proofs.Common.{◌≡◌, ℕ, zero, suc, ◌+◌, ◌^◌, ◌<◌, ◌≤◌, true, Some, List, [], ◌∷◌, ◌++◌, length, take, flat_map, refl, sym, ap, subst, ◌∙◌, append_assoc, append-nil, arith}
use Rattle.std.specs.Prelude.{Option, slice_get, zip, nat_lt}
use Rattle.std.specs.List.{enumerate_from, list_all}
use Rattle.std.specs.Cmp.Lexicographic.{pointwise}
use Rattle.std.proofs.lemmas.Bool.{and_parts, false≢true, lt-ltb}
use Rattle.std.proofs.lemmas.List.{take_all}
use Rattle.taco_unit.specs.declared.unit.ParamDef.{ParamDef}
use Rattle.taco_unit.specs.Well.{IsWell}
use Rattle.heap_core.specs.declared.value.Value.{Value}
use Rattle.heap_core.specs.declared.value.Object.{Object}
use Rattle.heap_core.specs.declared.start.Start.{Start}
use Rattle.heap_core.specs.Posed.{Posed}
use Rattle.taco_report.specs.Texts.{argument_line, object_line, objects_line, params_of, this_line}
use Rattle.taco_report.specs.States.{HasArguments, HasObjects, IsBadState, IsStateText, NoLine, argument_lines, is_given, is_listed}
use Rattle.taco_report.specs.States.{is_receiver_named, no_argument, no_count, no_object, no_receiver, object_lines, too_many, unfit}
use Rattle.taco_report.proofs.OneStart.{SameCount, SameObject, SameObjects, same_argument, same_count, same_object, same_objects, same_receiver}
use Rattle.taco_report.proofs.Values.{SameValue}

-- LENGTHS

data Order (m n : ℕ) : Type 0 where
  Below : m < n → Order m n
  Level : m ≡ n → Order m n
  Above : n < m → Order m n

next_order : (m n : ℕ) → Order m n → Order (suc m) (suc n)
next_order m n (Below h) = Below (omega (arith, h))
next_order m n (Level h) = Level (omega (arith, h))
next_order m n (Above h) = Above (omega (arith, h))

order : (m n : ℕ) → Order m n
order zero zero = Level refl
order zero (suc n) = Below (omega arith)
order (suc m) zero = Above (omega arith)
order (suc m) (suc n) = next_order m n (order m n)

nothing_behind : (qs : List ParamDef) (vs : List Value) (q : ParamDef) → length vs ≡ length qs → slice_get qs (length vs) ≡ Some q → ⊥
nothing_behind [] [] q long there = cc
nothing_behind [] (v ∷ vs) q long there = omega arith
nothing_behind (r ∷ qs) [] q long there = omega arith
nothing_behind (r ∷ qs) (v ∷ vs) q long there = nothing_behind qs vs q (omega (arith, long)) there

as_many : (n : ℕ) (qs : List ParamDef) (vs : List Value) → pointwise (is_given n) qs vs ≡ true → length vs ≡ length qs
as_many n [] [] are = refl
as_many n [] (v ∷ vs) are = absurd (false≢true are)
as_many n (q ∷ qs) [] are = absurd (false≢true are)
as_many n (q ∷ qs) (v ∷ vs) are =
    let h : length vs ≡ length qs = as_many n qs vs (and_parts (is_given n q v) (pointwise (is_given n) qs vs) are).1 in omega (arith, h)

-- OBJECTS

-- the next object on its line, and what is behind the line
record NextObject (p : Posed) (n number : ℕ) (rest : List ℕ) : Type 0 where
  object : Object
  behind : List ℕ
  is : is_listed p.unit n object ≡ true
  rest_is : rest ≡ object_line p (number, object) ++ behind

-- behind the lines of the first objects of a heap stands that of the next one
next_object : (p : Posed) (n k number : ℕ) (xs ys : List Object) (rest more : List ℕ) → n < 2 ^ 64 → IsWell p.unit → list_all (is_listed p.unit n) xs ≡ true
    → list_all (is_listed p.unit n) ys ≡ true
    → length xs < length ys → number ≡ k + length xs → flat_map (object_line p) (enumerate_from k ys) ++ more ≡ flat_map (object_line p) (enumerate_from k xs) ++ rest → NextObject p n number rest
next_object p n k number xs [] rest more small well all_x all_y less place same = absurd (omega arith)
next_object p n k number [] (y ∷ ys) rest more small well all_x all_y less place same =
    let later : List ℕ = flat_map (object_line p) (enumerate_from (k + 1) ys) ++ more in
    let here : k ≡ number = omega arith in
    record {
      object = y;
      behind = later;
      is = (and_parts (is_listed p.unit n y) (list_all (is_listed p.unit n) ys) all_y).0;
      rest_is = sym same ∙ append_assoc (object_line p (k, y)) (flat_map (object_line p) (enumerate_from (k + 1) ys)) more ∙ ap (λ (i : ℕ). object_line p (i, y) ++ later) here;
    }
next_object p n k number (x ∷ xs) (y ∷ ys) rest more small well all_x all_y less place same =
    let of_x : (is_listed p.unit n x ≡ true) × (list_all (is_listed p.unit n) xs ≡ true) = and_parts (is_listed p.unit n x) (list_all (is_listed p.unit n) xs) all_x in
    let of_y : (is_listed p.unit n y ≡ true) × (list_all (is_listed p.unit n) ys ≡ true) = and_parts (is_listed p.unit n y) (list_all (is_listed p.unit n) ys) all_y in
    let h : SameObject y x (flat_map (object_line p) (enumerate_from (k + 1) ys) ++ more) (flat_map (object_line p) (enumerate_from (k + 1) xs) ++ rest) =
    same_object p n k y x _ _ small well of_y.0 of_x.0
    (sym (append_assoc (object_line p (k, y)) (flat_map (object_line p) (enumerate_from (k + 1) ys)) more) ∙ same
    ∙ append_assoc (object_line p (k, x)) (flat_map (object_line p) (enumerate_from (k + 1) xs)) rest) in
    next_object p n (k + 1) number xs ys rest more small well of_x.1 of_y.1 (omega arith) (omega arith) h.rest

-- behind the first line
heap_opened : (p : Posed) (n : ℕ) (xs : List Object) (text front rest : List ℕ) → HasObjects p n xs front → text ≡ front ++ rest → text ≡ objects_line n ++ (object_lines p xs ++ rest)
heap_opened p n xs text front rest has text_is = text_is ∙ ap (λ l. l ++ rest) has.front_is ∙ append_assoc (objects_line n) (object_lines p xs) rest

one_count : (p : Posed) (n m : ℕ) (xs ys : List Object) (text front front' rest rest' : List ℕ) → HasObjects p n xs front → HasObjects p m ys front' → text ≡ front ++ rest → text ≡ front' ++ rest'
    → SameCount n m (object_lines p xs ++ rest) (object_lines p ys ++ rest')
one_count p n m xs ys text front front' rest rest' has has' is is' =
    same_count n m _ _ has.few has'.few (sym (heap_opened p n xs text front rest has is) ∙ heap_opened p m ys text front' rest' has' is')

-- where more objects stand, the line of the next one is right
heap_goes_on : (p : Posed) (n m : ℕ) (xs ys : List Object) (text front front' rest rest' : List ℕ) → IsWell p.unit → HasObjects p n xs front → HasObjects p m ys front' → text ≡ front ++ rest
    → text ≡ front' ++ rest' → length xs < length ys → NoLine (is_listed p.unit n) (λ x. object_line p (length xs, x)) rest → ⊥
heap_goes_on p n m xs ys text front front' rest rest' well has has' is is' longer none =
    let a : SameCount n m (object_lines p xs ++ rest) (object_lines p ys ++ rest') = one_count p n m xs ys text front front' rest rest' has has' is is' in
    let listed : list_all (is_listed p.unit n) ys ≡ true = subst (λ (k : ℕ). list_all (is_listed p.unit k) ys ≡ true) (sym a.count) has'.listed in
    let next : NextObject p n (length xs) rest = next_object p n 0 (length xs) xs ys rest rest' (omega (arith, has.few)) well has.listed listed longer (omega arith) (sym a.rest) in
    none next.object next.behind next.is next.rest_is

record SameHeap (n m : ℕ) (xs ys : List Object) (front front' rest rest' : List ℕ) : Type 0 where
  count : n ≡ m
  objects : xs ≡ ys
  fronts : front ≡ front'
  rests : rest ≡ rest'

same_heap : (p : Posed) (n m : ℕ) (xs ys : List Object) (text front front' rest rest' : List ℕ) → IsWell p.unit → HasObjects p n xs front → HasObjects p m ys front' → text ≡ front ++ rest
    → text ≡ front' ++ rest' → length xs ≡ length ys → SameHeap n m xs ys front front' rest rest'
same_heap p n m xs ys text front front' rest rest' well has has' is is' long =
    let a : SameCount n m (object_lines p xs ++ rest) (object_lines p ys ++ rest') = one_count p n m xs ys text front front' rest rest' has has' is is' in
    let listed : list_all (is_listed p.unit n) ys ≡ true = subst (λ (k : ℕ). list_all (is_listed p.unit k) ys ≡ true) (sym a.count) has'.listed in
    let b : SameObjects xs ys rest rest' = same_objects p n 0 xs ys _ _ (omega (arith, has.few)) well has.listed listed long a.rest in
    record {
      count = a.count;
      objects = b.objects;
      fronts = has.front_is ∙ ap (λ k. objects_line k ++ object_lines p xs) a.count ∙ ap (λ zs. objects_line m ++ object_lines p zs) b.objects ∙ sym has'.front_is;
      rests = b.rest;
    }

-- ARGUMENTS

-- the next argument on its line, and what is behind the line
record NextArgument (n : ℕ) (qs : List ParamDef) (k : ℕ) (rest : List ℕ) : Type 0 where
  param : ParamDef
  there : slice_get qs k ≡ Some param
  value : Value
  behind : List ℕ
  is : is_given n param value ≡ true
  rest_is : rest ≡ argument_line (param, value) ++ behind

-- behind the lines of the first arguments stands that of the next one
next_argument : (n : ℕ) (qs : List ParamDef) (vs ws : List Value) (rest more : List ℕ) → n < 2 ^ 64 → pointwise (is_given n) (take (length vs) qs) vs ≡ true
    → pointwise (is_given n) (take (length ws) qs) ws ≡ true → length vs < length ws → flat_map argument_line (zip qs vs) ++ rest ≡ flat_map argument_line (zip qs ws) ++ more
    → NextArgument n qs (length vs) rest
next_argument n qs vs [] rest more small of_v of_w longer same = absurd (omega arith)
next_argument n [] vs (w ∷ ws) rest more small of_v of_w longer same = absurd (false≢true of_w)
next_argument n (r ∷ qs) [] (w ∷ ws) rest more small of_v of_w longer same =
    record {
      param = r;
      there = refl;
      value = w;
      behind = flat_map argument_line (zip qs ws) ++ more;
      is = (and_parts (is_given n r w) (pointwise (is_given n) (take (length ws) qs) ws) of_w).0;
      rest_is = same ∙ append_assoc (argument_line (r, w)) (flat_map argument_line (zip qs ws)) more;
    }
next_argument n (r ∷ qs) (v ∷ vs) (w ∷ ws) rest more small of_v of_w longer same =
    let parts_v : (is_given n r v ≡ true) × (pointwise (is_given n) (take (length vs) qs) vs ≡ true) = and_parts (is_given n r v) (pointwise (is_given n) (take (length vs) qs) vs) of_v in
    let parts_w : (is_given n r w ≡ true) × (pointwise (is_given n) (take (length ws) qs) ws ≡ true) = and_parts (is_given n r w) (pointwise (is_given n) (take (length ws) qs) ws) of_w in
    let h : SameValue v w (10 ∷ (flat_map argument_line (zip qs vs) ++ rest)) (10 ∷ (flat_map argument_line (zip qs ws) ++ more)) =
    same_argument n r v w _ _ small parts_v.0 parts_w.0
    (sym (append_assoc (argument_line (r, v)) (flat_map argument_line (zip qs vs)) rest) ∙ same ∙ append_assoc (argument_line (r, w)) (flat_map argument_line (zip qs ws)) more) in
    let later : flat_map argument_line (zip qs vs) ++ rest ≡ flat_map argument_line (zip qs ws) ++ more = cc (h.rest) in
    let k : NextArgument n qs (length vs) rest = next_argument n qs vs ws rest more small parts_v.1 parts_w.1 (omega (arith, longer)) later in
    record { param = k.param; there = k.there; value = k.value; behind = k.behind; is = k.is; rest_is = k.rest_is }

same_values : (n : ℕ) (qs : List ParamDef) (vs ws : List Value) (rest more : List ℕ) → n < 2 ^ 64 → pointwise (is_given n) (take (length vs) qs) vs ≡ true
    → pointwise (is_given n) (take (length ws) qs) ws ≡ true → length vs ≡ length ws → flat_map argument_line (zip qs vs) ++ rest ≡ flat_map argument_line (zip qs ws) ++ more → vs ≡ ws
same_values n qs [] [] rest more small of_v of_w long same = refl
same_values n qs [] (w ∷ ws) rest more small of_v of_w long same = absurd (omega arith)
same_values n qs (v ∷ vs) [] rest more small of_v of_w long same = absurd (omega arith)
same_values n [] (v ∷ vs) (w ∷ ws) rest more small of_v of_w long same = absurd (false≢true of_w)
same_values n (r ∷ qs) (v ∷ vs) (w ∷ ws) rest more small of_v of_w long same =
    let parts_v : (is_given n r v ≡ true) × (pointwise (is_given n) (take (length vs) qs) vs ≡ true) = and_parts (is_given n r v) (pointwise (is_given n) (take (length vs) qs) vs) of_v in
    let parts_w : (is_given n r w ≡ true) × (pointwise (is_given n) (take (length ws) qs) ws ≡ true) = and_parts (is_given n r w) (pointwise (is_given n) (take (length ws) qs) ws) of_w in
    let h : SameValue v w (10 ∷ (flat_map argument_line (zip qs vs) ++ rest)) (10 ∷ (flat_map argument_line (zip qs ws) ++ more)) =
    same_argument n r v w _ _ small parts_v.0 parts_w.0
    (sym (append_assoc (argument_line (r, v)) (flat_map argument_line (zip qs vs)) rest) ∙ same ∙ append_assoc (argument_line (r, w)) (flat_map argument_line (zip qs ws)) more) in
    let later : flat_map argument_line (zip qs vs) ++ rest ≡ flat_map argument_line (zip qs ws) ++ more = cc (h.rest) in
    let k : vs ≡ ws = same_values n qs vs ws rest more small parts_v.1 parts_w.1 (omega (arith, long)) later in
    cc (h.value, k)

arguments_opened : (p : Posed) (n : ℕ) (xs : List Object) (this : Value) (vs : List Value) (text front rest : List ℕ) (has : HasArguments p n xs this vs front) → text ≡ front ++ rest
    → text ≡ has.heap ++ (this_line this ++ (argument_lines p vs ++ rest))
arguments_opened p n xs this vs text front rest has text_is =
    text_is ∙ ap (λ l. l ++ rest) has.front_is ∙ append_assoc (has.heap ++ this_line this) (argument_lines p vs) rest ∙ append_assoc has.heap (this_line this) (argument_lines p vs ++ rest)

-- THE PLACE

-- what a text with a line that is not right shows
pub data Shows (p : Posed) (text : List ℕ) (at : ℕ) : Type 0 where
  bare : at ≡ 0 → NoLine (λ n. nat_lt n 13) objects_line text → Shows p text at
  heaped : (n : ℕ) (xs : List Object) (front rest : List ℕ) → HasObjects p n xs front → length xs ≤ n → text ≡ front ++ rest → at ≡ length front
      → (length xs < n → NoLine (is_listed p.unit n) (λ x. object_line p (length xs, x)) rest) → (length xs ≡ n → NoLine (is_receiver_named p n) this_line rest) → Shows p text at
  argued : (n : ℕ) (xs : List Object) (this : Value) (vs : List Value) (front rest : List ℕ) → HasArguments p n xs this vs front → text ≡ front ++ rest → at ≡ length front
      → ((q : ParamDef) → slice_get (params_of p) (length vs) ≡ Some q → NoLine (is_given n q) (λ v. argument_line (q, v)) rest) → Shows p text at

whole_text : (p : Posed) (text : List ℕ) (s : Start) → IsStateText p text s → HasArguments p (length s.objects) s.objects s.this s.args text
whole_text p text s is =
    let many : length s.args ≡ length (params_of p) = as_many (length s.objects) (params_of p) s.args is.arguments in
    record {
      heap = objects_line (length s.objects) ++ object_lines p s.objects;
      objects = record { few = is.few; listed = is.objects; front_is = refl };
      all = refl;
      receiver = is.receiver;
      arguments = subst (λ (qs : List ParamDef). pointwise (is_given (length s.objects)) qs s.args ≡ true) (sym (take_all (length s.args) (params_of p) (omega (arith, many)))) is.arguments;
      front_is = is.text_is;
    }

shown : (p : Posed) (text : List ℕ) (at : ℕ) → IsBadState p text at → Shows p text at
shown p text at (no_count zero_ none) = bare zero_ none
shown p text at (no_object n xs front rest has fewer is at_is none) = heaped n xs front rest has (omega (arith, fewer)) is at_is (λ h. none) (λ h. absurd (omega (arith, h, fewer)))
shown p text at (no_receiver n xs front rest has all is at_is none) = heaped n xs front rest has (omega (arith, all)) is at_is (λ h. absurd (omega (arith, h, all))) (λ h. none)
shown p text at (no_argument n xs this vs q front rest has there is at_is none) =
    argued n xs this vs front rest has is at_is
    (λ r h. let one : q ≡ r = some_one q r (slice_get (params_of p) (length vs)) there h in subst (λ (s : ParamDef). NoLine (is_given n s) (λ v. argument_line (s, v)) rest) one none)
  where
    some_one : (q r : ParamDef) (o : Option ParamDef) → o ≡ Some q → o ≡ Some r → q ≡ r
    some_one q r o a b = cc
shown p text at (too_many n xs this vs front rest has all is at_is some) = argued n xs this vs front rest has is at_is (λ r h. absurd (nothing_behind (params_of p) vs r all h))
shown p text at (unfit s is misfits at_is) =
    argued (length s.objects) s.objects s.this s.args text [] (whole_text p text s is) (sym (append-nil text)) at_is
    (λ r h. absurd (nothing_behind (params_of p) s.args r (as_many (length s.objects) (params_of p) s.args is.arguments) h))

-- a first line that is right
not_bare : (p : Posed) (n : ℕ) (xs : List Object) (text front rest : List ℕ) → HasObjects p n xs front → text ≡ front ++ rest → NoLine (λ n. nat_lt n 13) objects_line text → ⊥
not_bare p n xs text front rest has is none = none n (object_lines p xs ++ rest) (lt-ltb n 13 (omega (arith, has.few))) (heap_opened p n xs text front rest has is)

heap_and_arguments : (p : Posed) (text : List ℕ) (n m : ℕ) (xs ys : List Object) (this : Value) (ws : List Value) (front rest front' rest' : List ℕ) → IsWell p.unit
    → HasObjects p n xs front → length xs ≤ n
    → text ≡ front ++ rest → (length xs < n → NoLine (is_listed p.unit n) (λ x. object_line p (length xs, x)) rest) → (length xs ≡ n → NoLine (is_receiver_named p n) this_line rest)
    → HasArguments p m ys this ws front' → text ≡ front' ++ rest' → ⊥
heap_and_arguments p text n m xs ys this ws front rest front' rest' well has few is next receiver has' is' = by_order (order (length xs) (length ys))
  where
    opened : text ≡ has'.heap ++ (this_line this ++ (argument_lines p ws ++ rest'))
    opened = arguments_opened p m ys this ws text front' rest' has' is'

    counts : n ≡ m
    counts = (one_count p n m xs ys text front has'.heap rest _ has has'.objects is opened).count

    by_order : Order (length xs) (length ys) → ⊥
    by_order (Below h) = heap_goes_on p n m xs ys text front has'.heap rest _ well has has'.objects is opened h (next (omega (arith, h, counts, has'.all)))
    by_order (Above h) = absurd (omega (arith, h, counts, has'.all, few))
    by_order (Level h) =
        let k : SameHeap n m xs ys front has'.heap rest (this_line this ++ (argument_lines p ws ++ rest')) = same_heap p n m xs ys text front has'.heap rest _ well has has'.objects is opened h in
        receiver (omega (arith, h, counts, has'.all)) this (argument_lines p ws ++ rest') (subst (λ (i : ℕ). is_receiver_named p i this ≡ true) (sym counts) has'.receiver) k.rests

pub one_shown : (p : Posed) (text : List ℕ) (a b : ℕ) → IsWell p.unit → Shows p text a → Shows p text b → a ≡ b
one_shown p text a b well (bare x none) (bare y none') = omega (arith, x, y)
one_shown p text a b well (bare x none) (heaped n xs front rest has few is at_is next receiver) = absurd (not_bare p n xs text front rest has is none)
one_shown p text a b well (heaped n xs front rest has few is at_is next receiver) (bare x none) = absurd (not_bare p n xs text front rest has is none)
one_shown p text a b well (bare x none) (argued n xs this vs front rest has is at_is next) =
    absurd (not_bare p n xs text has.heap _ has.objects (arguments_opened p n xs this vs text front rest has is) none)
one_shown p text a b well (argued n xs this vs front rest has is at_is next) (bare x none) =
    absurd (not_bare p n xs text has.heap _ has.objects (arguments_opened p n xs this vs text front rest has is) none)
one_shown p text a b well (heaped n xs front rest has few is at_is next receiver) (argued m ys this ws front' rest' has' is' at_is' next') =
    absurd (heap_and_arguments p text n m xs ys this ws front rest front' rest' well has few is next receiver has' is')
one_shown p text a b well (argued m ys this ws front' rest' has' is' at_is' next') (heaped n xs front rest has few is at_is next receiver) =
    absurd (heap_and_arguments p text n m xs ys this ws front rest front' rest' well has few is next receiver has' is')
one_shown p text a b well (heaped n xs front rest has few is at_is next receiver) (heaped m ys front' rest' has' few' is' at_is' next' receiver') = by_order (order (length xs) (length ys))
  where
    counts : n ≡ m
    counts = (one_count p n m xs ys text front front' rest rest' has has' is is').count

    by_order : Order (length xs) (length ys) → a ≡ b
    by_order (Below h) = absurd (heap_goes_on p n m xs ys text front front' rest rest' well has has' is is' h (next (omega (arith, h, counts, few'))))
    by_order (Above h) = absurd (heap_goes_on p m n ys xs text front' front rest' rest well has' has is' is h (next' (omega (arith, h, counts, few))))
    by_order (Level h) = at_is ∙ ap length (same_heap p n m xs ys text front front' rest rest' well has has' is is' h).fronts ∙ sym at_is'
one_shown p text a b well (argued n xs this vs front rest has is at_is next) (argued m ys this' ws front' rest' has' is' at_is' next') = by_order (order (length vs) (length ws))
  where
    tail : List ℕ
    tail = this_line this ++ (argument_lines p vs ++ rest)

    tail' : List ℕ
    tail' = this_line this' ++ (argument_lines p ws ++ rest')

    opened : text ≡ has.heap ++ tail
    opened = arguments_opened p n xs this vs text front rest has is

    opened' : text ≡ has'.heap ++ tail'
    opened' = arguments_opened p m ys this' ws text front' rest' has' is'

    counts : n ≡ m
    counts = (one_count p n m xs ys text has.heap has'.heap tail tail' has.objects has'.objects opened opened').count

    heap : SameHeap n m xs ys has.heap has'.heap tail tail'
    heap = same_heap p n m xs ys text has.heap has'.heap tail tail' well has.objects has'.objects opened opened' (omega (arith, has.all, has'.all, counts))

    small : n < 2 ^ 64
    small = omega (arith, has.objects.few)

    receiver : SameValue this this' (10 ∷ (argument_lines p vs ++ rest)) (10 ∷ (argument_lines p ws ++ rest'))
    receiver = same_receiver p n this this' _ _ small has.receiver (subst (λ (i : ℕ). is_receiver_named p i this' ≡ true) (sym counts) has'.receiver) heap.rests

    lines : argument_lines p vs ++ rest ≡ argument_lines p ws ++ rest'
    lines = cc (receiver.rest)

    given' : pointwise (is_given n) (take (length ws) (params_of p)) ws ≡ true
    given' = subst (λ (i : ℕ). pointwise (is_given i) (take (length ws) (params_of p)) ws ≡ true) (sym counts) has'.arguments

    by_order : Order (length vs) (length ws) → a ≡ b
    by_order (Below h) =
        let k : NextArgument n (params_of p) (length vs) rest = next_argument n (params_of p) vs ws rest rest' small has.arguments given' h lines in
        absurd (next k.param k.there k.value k.behind k.is k.rest_is)
    by_order (Above h) =
        let k : NextArgument n (params_of p) (length ws) rest' = next_argument n (params_of p) ws vs rest' rest small given' has.arguments h (sym lines) in
        absurd (next' k.param k.there k.value k.behind (subst (λ (i : ℕ). is_given i k.param k.value ≡ true) counts k.is) k.rest_is)
    by_order (Level h) =
        let values : vs ≡ ws = same_values n (params_of p) vs ws rest rest' small has.arguments given' h lines in
        let fronts : front ≡ front' =
        has.front_is ∙ ap (λ l. l ++ this_line this ++ argument_lines p vs) heap.fronts ∙ ap (λ v. has'.heap ++ this_line v ++ argument_lines p vs) receiver.value
        ∙ ap (λ us. has'.heap ++ this_line this' ++ argument_lines p us) values ∙ sym has'.front_is in
        at_is ∙ ap length fronts ∙ sym at_is'

-- the first line of a text that is not right has one place
pub one_place : (p : Posed) (text : List ℕ) (a b : ℕ) → IsWell p.unit → IsBadState p text a → IsBadState p text b → a ≡ b
one_place p text a b well x y = one_shown p text a b well (shown p text a x) (shown p text b y)
