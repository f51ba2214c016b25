-- A text all of whose lines are right, of a start that fits, has no line at which it may be refused.
use Rattle.std.proofs.Common.{◌≡◌, ℕ, ◌+◌, ◌^◌, ◌<◌, true, Some, Err, List, [], ◌∷◌, ◌++◌, length, take, flat_map, sym, ap, subst, ◌∙◌, append_assoc, append-nil, arith}
use Rattle.std.specs.Prelude.{slice_get, zip}
use Rattle.std.specs.List.{enumerate_from, list_all}
use Rattle.std.specs.Cmp.Lexicographic.{pointwise}
use Rattle.std.proofs.lemmas.Bool.{and_parts, false≢true, lt-ltb}
use Rattle.std.proofs.lemmas.List.{take_all}
use Rattle.taco_unit.specs.declared.unit.ParamDef.{ParamDef}
use Rattle.taco_unit.specs.Well.{IsWell}
use Rattle.heap_core.specs.declared.value.Value.{Value}
use Rattle.heap_core.specs.declared.value.Object.{Object}
use Rattle.heap_core.specs.declared.start.Start.{Start}
use Rattle.heap_core.specs.Posed.{InRange, Posed}
use Rattle.heap_core.specs.Start.{Fits}
use Rattle.taco_report.specs.declared.fault.StateFault.{StateFault}
use Rattle.taco_report.specs.declared.fault.StateFault.TheVariants.{BadState, NoMemory}
use Rattle.taco_report.specs.Texts.{argument_line, object_line, objects_line, params_of, state_text, this_line}
use Rattle.taco_report.specs.States.{BlamesState, HasArguments, HasObjects, IsBadState, IsReadAs, IsStateText, argument_lines, is_given, is_listed, is_receiver_named, no_argument, no_count, no_object, no_receiver, object_lines, too_many, unfit}
use Rattle.taco_report.proofs.FittingStarts.{fitting_text}
use Rattle.taco_report.proofs.OneStart.{SameArguments, SameCount, SameObject, SameObjects, one_start, same_argument, same_arguments, same_count, same_object, same_objects, same_receiver}
use Rattle.taco_report.proofs.Values.{SameValue}

-- the next object on its line, and what is behind the line
pub record NextObject (p : Posed) (n number : ℕ) (rest : List ℕ) : Type 0 where
  pub object : Object
  pub behind : List ℕ
  pub is : is_listed p.unit n object ≡ true
  pub rest_is : rest ≡ object_line p (number, object) ++ behind

-- behind the lines of the first objects of a heap stands that of the next one
next_object : (p : Posed) (n k number : ℕ) (xs ys : List Object) (rest more : List ℕ) → n < 2 ^ 64 → IsWell p.unit → list_all (is_listed p.unit n) xs ≡ true → list_all (is_listed p.unit n) ys ≡ true
    → length xs < length ys → number ≡ k + length xs → flat_map (object_line p) (enumerate_from k ys) ++ more ≡ flat_map (object_line p) (enumerate_from k xs) ++ rest → NextObject p n number rest
next_object p n k number xs [] rest more small well all_x all_y less place same = absurd (omega arith)
next_object p n k number [] (y ∷ ys) rest more small well all_x all_y less place same =
    let later : List ℕ = flat_map (object_line p) (enumerate_from (k + 1) ys) ++ more in
    let here : k ≡ number = omega arith in
    record {
      object = y;
      behind = later;
      is = (and_parts (is_listed p.unit n y) (list_all (is_listed p.unit n) ys) all_y).0;
      rest_is = sym same ∙ append_assoc (object_line p (k, y)) (flat_map (object_line p) (enumerate_from (k + 1) ys)) more ∙ ap (λ (i : ℕ). object_line p (i, y) ++ later) here;
    }
next_object p n k number (x ∷ xs) (y ∷ ys) rest more small well all_x all_y less place same =
    let of_x : (is_listed p.unit n x ≡ true) × (list_all (is_listed p.unit n) xs ≡ true) = and_parts (is_listed p.unit n x) (list_all (is_listed p.unit n) xs) all_x in
    let of_y : (is_listed p.unit n y ≡ true) × (list_all (is_listed p.unit n) ys ≡ true) = and_parts (is_listed p.unit n y) (list_all (is_listed p.unit n) ys) all_y in
    let h : SameObject y x (flat_map (object_line p) (enumerate_from (k + 1) ys) ++ more) (flat_map (object_line p) (enumerate_from (k + 1) xs) ++ rest) =
    same_object p n k y x _ _ small well of_y.0 of_x.0
    (sym (append_assoc (object_line p (k, y)) (flat_map (object_line p) (enumerate_from (k + 1) ys)) more) ∙ same ∙ append_assoc (object_line p (k, x)) (flat_map (object_line p) (enumerate_from (k + 1) xs)) rest) in
    next_object p n (k + 1) number xs ys rest more small well of_x.1 of_y.1 (omega arith) (omega arith) h.rest

-- the next argument on its line, and what is behind the line
pub record NextArgument (n : ℕ) (q : ParamDef) (rest : List ℕ) : Type 0 where
  pub value : Value
  pub behind : List ℕ
  pub is : is_given n q value ≡ true
  pub rest_is : rest ≡ argument_line (q, value) ++ behind

-- behind the lines of the first arguments stands that of the next one
next_argument : (n : ℕ) (qs : List ParamDef) (q : ParamDef) (vs ws : List Value) (rest more : List ℕ) → n < 2 ^ 64 → pointwise (is_given n) (take (length vs) qs) vs ≡ true → pointwise (is_given n) qs ws ≡ true
    → slice_get qs (length vs) ≡ Some q → flat_map argument_line (zip qs ws) ++ more ≡ flat_map argument_line (zip qs vs) ++ rest → NextArgument n q rest
next_argument n [] q [] ws rest more small of_v of_w there same = absurd (cc)
next_argument n [] q (v ∷ vs) ws rest more small of_v of_w there same = absurd (false≢true of_v)
next_argument n (r ∷ qs) q vs [] rest more small of_v of_w there same = absurd (false≢true of_w)
next_argument n (r ∷ qs) q [] (w ∷ ws) rest more small of_v of_w there same =
    let here : r ≡ q = cc in
    let later : List ℕ = flat_map argument_line (zip qs ws) ++ more in
    record {
      value = w;
      behind = later;
      is = ap (λ (s : ParamDef). is_given n s w) (sym here) ∙ (and_parts (is_given n r w) (pointwise (is_given n) qs ws) of_w).0;
      rest_is = sym same ∙ append_assoc (argument_line (r, w)) (flat_map argument_line (zip qs ws)) more ∙ ap (λ (s : ParamDef). argument_line (s, w) ++ later) here;
    }
next_argument n (r ∷ qs) q (v ∷ vs) (w ∷ ws) rest more small of_v of_w there same =
    let parts_v : (is_given n r v ≡ true) × (pointwise (is_given n) (take (length vs) qs) vs ≡ true) = and_parts (is_given n r v) (pointwise (is_given n) (take (length vs) qs) vs) of_v in
    let parts_w : (is_given n r w ≡ true) × (pointwise (is_given n) qs ws ≡ true) = and_parts (is_given n r w) (pointwise (is_given n) qs ws) of_w in
    let h : SameValue w v (10 ∷ (flat_map argument_line (zip qs ws) ++ more)) (10 ∷ (flat_map argument_line (zip qs vs) ++ rest)) =
    same_argument n r w v _ _ small parts_w.0 parts_v.0
    (sym (append_assoc (argument_line (r, w)) (flat_map argument_line (zip qs ws)) more) ∙ same ∙ append_assoc (argument_line (r, v)) (flat_map argument_line (zip qs vs)) rest) in
    let later : flat_map argument_line (zip qs ws) ++ more ≡ flat_map argument_line (zip qs vs) ++ rest = cc (h.rest) in
    next_argument n qs q vs ws rest more small parts_v.1 parts_w.1 there later

state_opened : (p : Posed) (s : Start) → state_text p s ≡ objects_line (length s.objects) ++ (object_lines p s.objects ++ (this_line s.this ++ argument_lines p s.args))
state_opened p s =
    append_assoc (objects_line (length s.objects) ++ object_lines p s.objects) (this_line s.this) (argument_lines p s.args)
    ∙ append_assoc (objects_line (length s.objects)) (object_lines p s.objects) (this_line s.this ++ argument_lines p s.args)

-- the first line says how many objects the start has
first_line : (p : Posed) (n : ℕ) (xs : List Object) (s : Start) (text front rest : List ℕ) → IsStateText p text s → HasObjects p n xs front → text ≡ front ++ rest
    → SameCount (length s.objects) n (object_lines p s.objects ++ (this_line s.this ++ argument_lines p s.args)) (object_lines p xs ++ rest)
first_line p n xs s text front rest is has text_is =
    same_count (length s.objects) n _ _ is.few has.few
    (sym (state_opened p s) ∙ sym is.text_is ∙ text_is ∙ ap (λ l. l ++ rest) has.front_is ∙ append_assoc (objects_line n) (object_lines p xs) rest)

-- behind the lines of all objects stand those of the receiver and the arguments
pub record BehindHeap (p : Posed) (n : ℕ) (s : Start) (rest : List ℕ) : Type 0 where
  pub count : length s.objects ≡ n
  pub rest_is : this_line s.this ++ argument_lines p s.args ≡ rest

behind_heap : (p : Posed) (n : ℕ) (xs : List Object) (s : Start) (text front rest : List ℕ) → IsWell p.unit → IsStateText p text s → HasObjects p n xs front → length xs ≡ n → text ≡ front ++ rest
    → BehindHeap p n s rest
behind_heap p n xs s text front rest well is has all text_is =
    let a : SameCount (length s.objects) n (object_lines p s.objects ++ (this_line s.this ++ argument_lines p s.args)) (object_lines p xs ++ rest) = first_line p n xs s text front rest is has text_is in
    let small : n < 2 ^ 64 = omega (arith, has.few) in
    let listed : list_all (is_listed p.unit n) s.objects ≡ true = subst (λ (m : ℕ). list_all (is_listed p.unit m) s.objects ≡ true) a.count is.objects in
    let b : SameObjects s.objects xs (this_line s.this ++ argument_lines p s.args) rest = same_objects p n 0 s.objects xs _ _ small well listed has.listed (a.count ∙ sym all) a.rest in
    record { count = a.count; rest_is = b.rest }

-- behind the line of the receiver stand those of the arguments
pub record BehindReceiver (p : Posed) (n : ℕ) (s : Start) (vs : List Value) (rest : List ℕ) : Type 0 where
  pub count : length s.objects ≡ n
  pub given : pointwise (is_given n) (params_of p) s.args ≡ true
  pub rest_is : argument_lines p s.args ≡ argument_lines p vs ++ rest

behind_receiver : (p : Posed) (n : ℕ) (xs : List Object) (this : Value) (vs : List Value) (s : Start) (text front rest : List ℕ) → IsWell p.unit → IsStateText p text s
    → HasArguments p n xs this vs front → text ≡ front ++ rest → BehindReceiver p n s vs rest
behind_receiver p n xs this vs s text front rest well is has text_is =
    let opened : front ++ rest ≡ has.heap ++ (this_line this ++ (argument_lines p vs ++ rest)) =
    ap (λ l. l ++ rest) has.front_is ∙ append_assoc (has.heap ++ this_line this) (argument_lines p vs) rest ∙ append_assoc has.heap (this_line this) (argument_lines p vs ++ rest) in
    let a : BehindHeap p n s (this_line this ++ (argument_lines p vs ++ rest)) = behind_heap p n xs s text has.heap _ well is has.objects has.all (text_is ∙ opened) in
    let small : n < 2 ^ 64 = omega (arith, has.objects.few) in
    let b : SameValue s.this this (10 ∷ argument_lines p s.args) (10 ∷ (argument_lines p vs ++ rest)) =
    same_receiver p n s.this this _ _ small (subst (λ (m : ℕ). is_receiver_named p m s.this ≡ true) a.count is.receiver) has.receiver a.rest_is in
    record {
      count = a.count;
      given = subst (λ (m : ℕ). pointwise (is_given m) (params_of p) s.args ≡ true) a.count is.arguments;
      rest_is = cc (b.rest);
    }

-- none of the reasons for a refusal holds
never_bad : (p : Posed) (text : List ℕ) (s : Start) (at : ℕ) → IsWell p.unit → Fits s p → IsStateText p text s → IsBadState p text at → ⊥
never_bad p text s at well fits is (no_count zero none) =
    none (length s.objects) (object_lines p s.objects ++ (this_line s.this ++ argument_lines p s.args)) (lt-ltb (length s.objects) 13 (omega (arith, is.few))) (is.text_is ∙ state_opened p s)
never_bad p text s at well fits is (no_object n xs front rest has less text_is at_is none) =
    let a : SameCount (length s.objects) n (object_lines p s.objects ++ (this_line s.this ++ argument_lines p s.args)) (object_lines p xs ++ rest) = first_line p n xs s text front rest is has text_is in
    let listed : list_all (is_listed p.unit n) s.objects ≡ true = subst (λ (m : ℕ). list_all (is_listed p.unit m) s.objects ≡ true) a.count is.objects in
    let next : NextObject p n (length xs) rest =
    next_object p n 0 (length xs) xs s.objects rest (this_line s.this ++ argument_lines p s.args) (omega (arith, has.few)) well has.listed listed (omega (arith, a.count)) (omega arith) a.rest in
    none next.object next.behind next.is next.rest_is
never_bad p text s at well fits is (no_receiver n xs front rest has all text_is at_is none) =
    let a : BehindHeap p n s rest = behind_heap p n xs s text front rest well is has all text_is in
    none s.this (argument_lines p s.args) (subst (λ (m : ℕ). is_receiver_named p m s.this ≡ true) a.count is.receiver) (sym a.rest_is)
never_bad p text s at well fits is (no_argument n xs this vs q front rest has there text_is at_is none) =
    let a : BehindReceiver p n s vs rest = behind_receiver p n xs this vs s text front rest well is has text_is in
    let next : NextArgument n q rest =
    next_argument n (params_of p) q vs s.args rest [] (omega (arith, has.objects.few)) has.arguments a.given there (append-nil (argument_lines p s.args) ∙ a.rest_is) in
    none next.value next.behind next.is next.rest_is
never_bad p text s at well fits is (too_many n xs this vs front rest has all text_is at_is more) =
    let a : BehindReceiver p n s vs rest = behind_receiver p n xs this vs s text front rest well is has text_is in
    let given : pointwise (is_given n) (params_of p) vs ≡ true =
    subst (λ (qs : List ParamDef). pointwise (is_given n) qs vs ≡ true) (take_all (length vs) (params_of p) (omega (arith, all))) has.arguments in
    let b : SameArguments s.args vs [] rest =
    same_arguments n (params_of p) s.args vs [] rest (omega (arith, has.objects.few)) a.given given (append-nil (argument_lines p s.args) ∙ a.rest_is) in
    more (sym b.rest)
never_bad p text s at well fits is (unfit t is_t misfits at_is) = misfits (subst (λ (u : Start). Fits u p) (one_start p text s t well is is_t) fits)

-- so the start that is read from the text of a start that fits is that start
pub read_start : (p : Posed) (text : List ℕ) (t : Start) → IsWell p.unit → InRange p → Fits t p × IsStateText p text t → (s : Start) → Fits s p → text ≡ state_text p s → t ≡ s
read_start p text t well range read s fits same = one_start p text t s well read.1 (fitting_text p text s range fits same)

-- and memory is all that can be wanting
pub read_fault : (p : Posed) (text : List ℕ) (fault : StateFault) → IsWell p.unit → InRange p → BlamesState p text fault → (s : Start) → Fits s p → text ≡ state_text p s → IsReadAs (Err fault) s
read_fault p text (BadState at) well range blames s fits same = never_bad p text s at well fits (fitting_text p text s range fits same) blames
read_fault p text NoMemory well range blames s fits same = tt
