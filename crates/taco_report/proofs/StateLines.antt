-- The lines of a state's text, one after the other.
use Rattle.std.proofs.Common.{◌≡◌, ◌≢◌, ℕ, suc, ◌+◌, ◌-◌, ◌<◌, ◌≤◌, true, Some, List, [], ◌∷◌, ◌++◌, length, take, get_or, flat_map, refl, sym, ap, subst, ◌∙◌, append_assoc, append-nil, length-append, arith}
use Rattle.std.specs.Prelude.{slice_get, zip}
use Rattle.std.specs.List.{enumerate_from, list_all}
use Rattle.std.specs.Cmp.Lexicographic.{pointwise}
use Rattle.std.proofs.lemmas.Bool.{and_parts, and_from, false≢true}
use Rattle.std.proofs.lemmas.List.{take_all}
use Rattle.std.proofs.lemmas.List.Folds.{list_all-append}
use Rattle.std.proofs.lemmas.Option.{slice_get-get_or}
use Rattle.taco_unit.specs.declared.unit.ParamDef.{ParamDef}
use Rattle.heap_core.specs.declared.value.Value.{Value}
use Rattle.heap_core.specs.declared.value.Object.{Object}
use Rattle.heap_core.specs.Posed.{Posed}
use Rattle.taco_report.specs.Texts.{argument_line, object_line, objects_line, params_of, this_line}
use Rattle.taco_report.specs.States.{HasArguments, HasObjects, IsBadState, IsStateText, NoLine, argument_lines, is_given, is_listed, is_receiver_named, no_argument, no_object, no_receiver, object_lines, too_many}

no_pairs_left : (ps : List ParamDef) → zip ps (let none : List Value = [] in none) ≡ []
no_pairs_left [] = refl
no_pairs_left (q ∷ qs) = refl

pub no_argument_lines : (p : Posed) (text : List ℕ) → text ≡ argument_lines p [] ++ text
no_argument_lines p text = ap (λ es. flat_map argument_line es ++ text) (sym (no_pairs_left (params_of p)))

lines_more : (p : Posed) (k : ℕ) (xs : List Object) (x : Object)
    → flat_map (object_line p) (enumerate_from k (xs ++ x ∷ [])) ≡ flat_map (object_line p) (enumerate_from k xs) ++ object_line p (k + length xs, x)
lines_more p k [] x = let e : k + 0 ≡ k = omega arith in append-nil (object_line p (k, x)) ∙ ap (λ i. object_line p (i, x)) (sym e)
lines_more p k (y ∷ ys) x =
    let e : (k + 1) + length ys ≡ k + suc (length ys) = omega arith in
    ap (λ l. object_line p (k, y) ++ l) (lines_more p (k + 1) ys x ∙ ap (λ i. flat_map (object_line p) (enumerate_from (k + 1) ys) ++ object_line p (i, x)) e)
    ∙ sym (append_assoc (object_line p (k, y)) (flat_map (object_line p) (enumerate_from (k + 1) ys)) (object_line p (k + suc (length ys), x)))

-- one object more was read
pub objects_more : (p : Posed) (n k : ℕ) (xs : List Object) (x : Object) (text rest behind : List ℕ) → list_all (is_listed p.unit n) xs ≡ true → is_listed p.unit n x ≡ true
    → text ≡ object_lines p xs ++ rest → k ≡ length xs → rest ≡ object_line p (k, x) ++ behind → length xs < n
    → (list_all (is_listed p.unit n) (xs ++ x ∷ []) ≡ true) × (text ≡ object_lines p (xs ++ x ∷ []) ++ behind) × (length (xs ++ x ∷ []) ≤ n)
objects_more p n k xs x text rest behind all is text_is k_is rest_is less = (
  list_all-append (is_listed p.unit n) xs (x ∷ []) ∙ and_from _ _ all (and_from _ _ is refl),
  text_is ∙ ap (λ l. object_lines p xs ++ l) (rest_is ∙ ap (λ i. object_line p (i, x) ++ behind) (k_is ∙ sym (zero_more (length xs))))
      ∙ sym (append_assoc (object_lines p xs) (object_line p (0 + length xs, x)) behind)
      ∙ ap (λ l. l ++ behind) (sym (lines_more p 0 xs x)),
  omega (arith, length-append xs (x ∷ [])),
)
  where
    zero_more : (i : ℕ) → 0 + i ≡ i
    zero_more i = omega arith

pub record OneMore (n : ℕ) (ps : List ParamDef) (vs : List Value) (q : ParamDef) (v : Value) : Type 0 where
  pub given : pointwise (is_given n) (take (length (vs ++ v ∷ [])) ps) (vs ++ v ∷ []) ≡ true
  pub lines : flat_map argument_line (zip ps (vs ++ v ∷ [])) ≡ flat_map argument_line (zip ps vs) ++ argument_line (q, v)

one_more : (n : ℕ) (ps : List ParamDef) (vs : List Value) (q : ParamDef) (v : Value) → pointwise (is_given n) (take (length vs) ps) vs ≡ true → slice_get ps (length vs) ≡ Some q
    → is_given n q v ≡ true → OneMore n ps vs q v
one_more n [] [] q v given there is = absurd (cc)
one_more n [] (w ∷ ws) q v given there is = absurd (false≢true given)
one_more n (r ∷ ps) [] q v given there is =
    let same : r ≡ q = cc in
    record {
      given = and_from (is_given n r v) true (ap (λ (s : ParamDef). is_given n s v) same ∙ is) refl;
      lines = ap (λ es. argument_line (r, v) ++ flat_map argument_line es) (no_pairs_left ps) ∙ append-nil (argument_line (r, v)) ∙ ap (λ (s : ParamDef). argument_line (s, v)) same;
    }
one_more n (r ∷ ps) (w ∷ ws) q v given there is =
    let parts : (is_given n r w ≡ true) × (pointwise (is_given n) (take (length ws) ps) ws ≡ true) = and_parts (is_given n r w) (pointwise (is_given n) (take (length ws) ps) ws) given in
    let h : OneMore n ps ws q v = one_more n ps ws q v parts.1 there is in
    record {
      given = and_from (is_given n r w) _ parts.0 h.given;
      lines = ap (λ l. argument_line (r, w) ++ l) h.lines ∙ sym (append_assoc (argument_line (r, w)) (flat_map argument_line (zip ps ws)) (argument_line (q, v)));
    }

-- one argument more was read
pub arguments_more : (p : Posed) (n : ℕ) (vs : List Value) (q : ParamDef) (v : Value) (text rest behind : List ℕ) → pointwise (is_given n) (take (length vs) (params_of p)) vs ≡ true
    → slice_get (params_of p) (length vs) ≡ Some q → is_given n q v ≡ true → text ≡ argument_lines p vs ++ rest → rest ≡ argument_line (q, v) ++ behind → length vs < length (params_of p)
    → (pointwise (is_given n) (take (length (vs ++ v ∷ [])) (params_of p)) (vs ++ v ∷ []) ≡ true) × (text ≡ argument_lines p (vs ++ v ∷ []) ++ behind) × (length (vs ++ v ∷ []) ≤ length (params_of p))
arguments_more p n vs q v text rest behind given there is text_is rest_is less =
    let h : OneMore n (params_of p) vs q v = one_more n (params_of p) vs q v given there is in (
      h.given,
      text_is ∙ ap (λ l. argument_lines p vs ++ l) rest_is ∙ sym (append_assoc (argument_lines p vs) (argument_line (q, v)) behind) ∙ ap (λ l. l ++ behind) (sym h.lines),
      omega (arith, length-append vs (v ∷ [])),
    )

some_at : {A : Type 0} (xs : List A) (i : ℕ) → i < length xs → (x : A) × (slice_get xs i ≡ Some x)
some_at [] i within = absurd (omega arith)
some_at (x ∷ xs) i within = (get_or (x ∷ xs) i x, slice_get-get_or (x ∷ xs) i x within)

place : (text front rest : List ℕ) → text ≡ front ++ rest → length text - length rest ≡ length front
place text front rest is = omega (arith, ap length is, length-append front rest)

-- the first lines of a text, up to those of objects
pub heap_lines : Posed → ℕ → List Object → List ℕ
heap_lines p n xs = objects_line n ++ object_lines p xs

pub record Heaped (p : Posed) (n : ℕ) (xs : List Object) (text rest : List ℕ) : Type 0 where
  pub front : List ℕ
  pub has : HasObjects p n xs front
  pub text_is : text ≡ front ++ rest

pub heaped : (p : Posed) (n : ℕ) (xs : List Object) (text lines rest : List ℕ) → n ≤ 12 → text ≡ objects_line n ++ lines → list_all (is_listed p.unit n) xs ≡ true → lines ≡ object_lines p xs ++ rest → Heaped p n xs text rest
heaped p n xs text lines rest few text_is all lines_are =
    record {
      front = objects_line n ++ object_lines p xs;
      has = record { few = few; listed = all; front_is = refl };
      text_is = text_is ∙ ap (λ l. objects_line n ++ l) lines_are ∙ sym (append_assoc (objects_line n) (object_lines p xs) rest);
    }

pub bad_object : (p : Posed) (n : ℕ) (xs : List Object) (text rest : List ℕ) → Heaped p n xs text rest → length xs < n → NoLine (is_listed p.unit n) (λ x. object_line p (length xs, x)) rest
    → IsBadState p text (length text - length rest)
bad_object p n xs text rest h less none = no_object n xs h.front rest h.has less h.text_is (place text h.front rest h.text_is) none

pub bad_receiver : (p : Posed) (n : ℕ) (xs : List Object) (text rest : List ℕ) → Heaped p n xs text rest → length xs ≡ n → NoLine (is_receiver_named p n) this_line rest
    → IsBadState p text (length text - length rest)
bad_receiver p n xs text rest h all none = no_receiver n xs h.front rest h.has all h.text_is (place text h.front rest h.text_is) none

pub record Argued (p : Posed) (n : ℕ) (xs : List Object) (this : Value) (vs : List Value) (text rest : List ℕ) : Type 0 where
  pub front : List ℕ
  pub has : HasArguments p n xs this vs front
  pub text_is : text ≡ front ++ rest

pub argued : (p : Posed) (n : ℕ) (xs : List Object) (this : Value) (vs : List Value) (text middle lines rest : List ℕ) → Heaped p n xs text middle → length xs ≡ n → is_receiver_named p n this ≡ true
    → middle ≡ this_line this ++ lines → pointwise (is_given n) (take (length vs) (params_of p)) vs ≡ true → lines ≡ argument_lines p vs ++ rest → Argued p n xs this vs text rest
argued p n xs this vs text middle lines rest h all receiver middle_is given lines_are =
    record {
      front = h.front ++ this_line this ++ argument_lines p vs;
      has = record { heap = h.front; objects = h.has; all = all; receiver = receiver; arguments = given; front_is = refl };
      text_is =
          h.text_is ∙ ap (λ l. h.front ++ l) (middle_is ∙ ap (λ l. this_line this ++ l) lines_are)
          ∙ sym (append_assoc (h.front ++ this_line this) (argument_lines p vs) rest ∙ append_assoc h.front (this_line this) (argument_lines p vs ++ rest));
    }

pub bad_argument : (p : Posed) (n : ℕ) (xs : List Object) (this : Value) (vs : List Value) (text rest : List ℕ) → Argued p n xs this vs text rest → length vs < length (params_of p)
    → ((q : ParamDef) → slice_get (params_of p) (length vs) ≡ Some q → NoLine (is_given n q) (λ v. argument_line (q, v)) rest) → IsBadState p text (length text - length rest)
bad_argument p n xs this vs text rest h less none =
    let q : (q : ParamDef) × (slice_get (params_of p) (length vs) ≡ Some q) = some_at (params_of p) (length vs) less in
    no_argument n xs this vs q.0 h.front rest h.has q.1 h.text_is (place text h.front rest h.text_is) (none q.0 q.1)

pub bad_more : (p : Posed) (n : ℕ) (xs : List Object) (this : Value) (vs : List Value) (text rest : List ℕ) → Argued p n xs this vs text rest → length vs ≡ length (params_of p) → rest ≢ []
    → IsBadState p text (length text - length rest)
bad_more p n xs this vs text rest h all some = too_many n xs this vs h.front rest h.has all h.text_is (place text h.front rest h.text_is) some

pub is_text : (p : Posed) (n : ℕ) (xs : List Object) (this : Value) (vs : List Value) (text rest : List ℕ) → Argued p n xs this vs text rest → length vs ≡ length (params_of p) → rest ≡ []
    → IsStateText p text (record { objects = xs; this = this; args = vs })
is_text p n xs this vs text rest h all none =
    record {
      few = omega (arith, h.has.objects.few, h.has.all);
      objects = subst (λ m. list_all (is_listed p.unit m) xs ≡ true) (sym h.has.all) h.has.objects.listed;
      receiver = subst (λ m. is_receiver_named p m this ≡ true) (sym h.has.all) h.has.receiver;
      arguments =
          subst (λ m. pointwise (is_given m) (params_of p) vs ≡ true) (sym h.has.all)
          (subst (λ qs. pointwise (is_given n) qs vs ≡ true) (take_all (length vs) (params_of p) (omega arith)) h.has.arguments);
      text_is =
          h.text_is ∙ ap (λ l. h.front ++ l) none ∙ append-nil h.front ∙ h.has.front_is
          ∙ ap (λ l. l ++ this_line this ++ argument_lines p vs) (h.has.objects.front_is ∙ ap (λ m. objects_line m ++ object_lines p xs) (sym h.has.all));
    }
