-- A text is that of one start at most.
use Rattle.std.proofs.Common.{◌≡◌, ℕ, ◌+◌, ◌^◌, ◌<◌, ◌≤◌, true, false, Option, Some, None, List, [], ◌∷◌, ◌++◌, length, flat_map, refl, sym, ap, subst, ◌∙◌, append_assoc, append-nil, arith}
use Rattle.std.specs.Prelude.{codes, zip}
use Rattle.std.specs.List.{enumerate_from, list_all}
use Rattle.std.specs.Fmt.{decimal}
use Rattle.std.specs.Option.{option_map_or}
use Rattle.std.specs.Cmp.Lexicographic.{pointwise}
use Rattle.std.proofs.lemmas.Bool.{and_parts, false≢true}
use Rattle.std.proofs.lemmas.Fmt.{decimal_injective}
use Rattle.taco_unit.specs.declared.unit.ParamDef.{ParamDef}
use Rattle.taco_unit.specs.Named.{class_number}
use Rattle.taco_unit.specs.Well.{IsWell}
use Rattle.heap_core.specs.declared.value.Value.{Value}
use Rattle.heap_core.specs.declared.value.Object.{Object}
use Rattle.heap_core.specs.Posed.{Posed}
use Rattle.taco_report.specs.Texts.{argument_line, class_text, fields_of_class, object_line, object_text, objects_line, params_of, state_text, this_line, this_value, value_text}
use Rattle.heap_core.specs.declared.start.Start.{Start}
use Rattle.heap_core.specs.Start.{method_of}
use Rattle.taco_unit.specs.declared.unit.MethodDef.{MethodDef}
use Rattle.taco_report.specs.States.{IsStateText, argument_lines, is_cell, is_given, is_inner, is_listed, is_named, is_receiver_named, object_lines}
use Rattle.taco_report.proofs.Cuts.{SameCut, same_cut}
use Rattle.taco_report.proofs.Lists.{SameCells, cells_end, same_cells}
use Rattle.taco_report.proofs.Objects.{Listed, ObjectFront, cells_text, class_found, listed, name_inner, object_front, object_opened}
use Rattle.taco_report.proofs.Pieces.{behind_one, opened_four}
use Rattle.taco_report.proofs.Values.{SameValue, decimal_inner, receiver_inner, receiver_once, same_value}

pub record SameObject (x y : Object) (more more' : List ℕ) : Type 0 where
  pub object : x ≡ y
  pub rest : more ≡ more'

-- an object's line in front is the only one
pub same_object : (p : Posed) (n number : ℕ) (x y : Object) (more more' : List ℕ) → n < 2 ^ 64 → IsWell p.unit → is_listed p.unit n x ≡ true → is_listed p.unit n y ≡ true
    → object_line p (number, x) ++ more ≡ object_line p (number, y) ++ more' → SameObject x y more more'
same_object p n number x y more more' small well is_x is_y same =
    let l : Listed p n x = listed p n x is_x in
    let fields : List ℕ = cells_text p x.class x.cells ++ (10 ∷ more) in
    let front : ObjectFront p n y (class_text p x.class) fields more' =
    object_front p n number y (object_text number ++ codes " ") (class_text p x.class ++ fields) (class_text p x.class) fields more' (object_line p (number, x) ++ more) well is_y refl
    (object_opened p number x more (object_line p (number, x) ++ more) refl) refl
    (ap (list_all is_inner) l.name ∙ name_inner l.def.name (well.classes x.class l.def l.there).named) (cells_end p (fields_of_class p x.class) x.cells (10 ∷ more) refl) same in
    let both : Some x.class ≡ Some y.class = sym (ap (class_number p.unit) l.name ∙ class_found p.unit x.class l.def well l.there) ∙ front.class in
    let class : x.class ≡ y.class = cc in
    let k : SameCells x.cells y.cells (10 ∷ more) (10 ∷ more') =
    same_cells p n (fields_of_class p x.class) x.cells y.cells (10 ∷ more) (10 ∷ more') small l.cells
    (subst (λ (c : ℕ). pointwise (is_cell p.unit n) (fields_of_class p c) y.cells ≡ true) (sym class) front.cells) refl refl
    (front.fields_are ∙ ap (λ (c : ℕ). cells_text p c y.cells ++ (10 ∷ more')) (sym class)) in
    record {
      object = ap (λ (c : ℕ). let z : Object = record { class = c; cells = x.cells } in z) class ∙ ap (λ (vs : List Value). let z : Object = record { class = y.class; cells = vs } in z) k.values;
      rest = cc (k.rest);
    }

pub record SameObjects (xs ys : List Object) (more more' : List ℕ) : Type 0 where
  pub objects : xs ≡ ys
  pub rest : more ≡ more'

pub same_objects : (p : Posed) (n k : ℕ) (xs ys : List Object) (more more' : List ℕ) → n < 2 ^ 64 → IsWell p.unit → list_all (is_listed p.unit n) xs ≡ true → list_all (is_listed p.unit n) ys ≡ true
    → length xs ≡ length ys → flat_map (object_line p) (enumerate_from k xs) ++ more ≡ flat_map (object_line p) (enumerate_from k ys) ++ more' → SameObjects xs ys more more'
same_objects p n k [] [] more more' small well all_x all_y many same = record { objects = refl; rest = same }
same_objects p n k [] (y ∷ ys) more more' small well all_x all_y many same = absurd (omega arith)
same_objects p n k (x ∷ xs) [] more more' small well all_x all_y many same = absurd (omega arith)
same_objects p n k (x ∷ xs) (y ∷ ys) more more' small well all_x all_y many same =
    let of_x : (is_listed p.unit n x ≡ true) × (list_all (is_listed p.unit n) xs ≡ true) = and_parts (is_listed p.unit n x) (list_all (is_listed p.unit n) xs) all_x in
    let of_y : (is_listed p.unit n y ≡ true) × (list_all (is_listed p.unit n) ys ≡ true) = and_parts (is_listed p.unit n y) (list_all (is_listed p.unit n) ys) all_y in
    let h : SameObject x y (flat_map (object_line p) (enumerate_from (k + 1) xs) ++ more) (flat_map (object_line p) (enumerate_from (k + 1) ys) ++ more') =
    same_object p n k x y _ _ small well of_x.0 of_y.0
    (sym (append_assoc (object_line p (k, x)) (flat_map (object_line p) (enumerate_from (k + 1) xs)) more) ∙ same ∙ append_assoc (object_line p (k, y)) (flat_map (object_line p) (enumerate_from (k + 1) ys)) more') in
    let l : SameObjects xs ys more more' = same_objects p n (k + 1) xs ys more more' small well of_x.1 of_y.1 (omega arith) h.rest in
    record { objects = cc (h.object, l.objects); rest = l.rest }

pub record SameArguments (vs ws : List Value) (more more' : List ℕ) : Type 0 where
  pub values : vs ≡ ws
  pub rest : more ≡ more'

pub same_argument : (n : ℕ) (q : ParamDef) (v w : Value) (more more' : List ℕ) → n < 2 ^ 64 → is_given n q v ≡ true → is_given n q w ≡ true
    → argument_line (q, v) ++ more ≡ argument_line (q, w) ++ more' → SameValue v w (10 ∷ more) (10 ∷ more')
same_argument n q v w more more' small is_v is_w same =
    let opened : argument_line (q, v) ++ more ≡ q.name ++ (codes "=" ++ (value_text v ++ (10 ∷ more))) = opened_four q.name (codes "=") (value_text v) (10 ∷ []) more _ refl in
    let opened' : argument_line (q, w) ++ more' ≡ q.name ++ (codes "=" ++ (value_text w ++ (10 ∷ more'))) = opened_four q.name (codes "=") (value_text w) (10 ∷ []) more' _ refl in
    let sign : codes "=" ++ (value_text v ++ (10 ∷ more)) ≡ codes "=" ++ (value_text w ++ (10 ∷ more')) =
    behind_one q.name _ (argument_line (q, v) ++ more) _ opened (same ∙ opened') in
    same_value n q.kind v w (10 ∷ more) (10 ∷ more') small is_v is_w refl refl (behind_one (codes "=") _ (codes "=" ++ (value_text v ++ (10 ∷ more))) _ refl sign)

pub same_arguments : (n : ℕ) (ps : List ParamDef) (vs ws : List Value) (more more' : List ℕ) → n < 2 ^ 64 → pointwise (is_given n) ps vs ≡ true → pointwise (is_given n) ps ws ≡ true
    → flat_map argument_line (zip ps vs) ++ more ≡ flat_map argument_line (zip ps ws) ++ more' → SameArguments vs ws more more'
same_arguments n [] [] [] more more' small is_v is_w same = record { values = refl; rest = same }
same_arguments n [] (v ∷ vs) ws more more' small is_v is_w same = absurd (false≢true is_v)
same_arguments n [] [] (w ∷ ws) more more' small is_v is_w same = absurd (false≢true is_w)
same_arguments n (q ∷ qs) [] ws more more' small is_v is_w same = absurd (false≢true is_v)
same_arguments n (q ∷ qs) (v ∷ vs) [] more more' small is_v is_w same = absurd (false≢true is_w)
same_arguments n (q ∷ qs) (v ∷ vs) (w ∷ ws) more more' small is_v is_w same =
    let of_v : (is_given n q v ≡ true) × (pointwise (is_given n) qs vs ≡ true) = and_parts (is_given n q v) (pointwise (is_given n) qs vs) is_v in
    let of_w : (is_given n q w ≡ true) × (pointwise (is_given n) qs ws ≡ true) = and_parts (is_given n q w) (pointwise (is_given n) qs ws) is_w in
    let h : SameValue v w (10 ∷ (flat_map argument_line (zip qs vs) ++ more)) (10 ∷ (flat_map argument_line (zip qs ws) ++ more')) =
    same_argument n q v w _ _ small of_v.0 of_w.0
    (sym (append_assoc (argument_line (q, v)) (flat_map argument_line (zip qs vs)) more) ∙ same ∙ append_assoc (argument_line (q, w)) (flat_map argument_line (zip qs ws)) more') in
    let rest : flat_map argument_line (zip qs vs) ++ more ≡ flat_map argument_line (zip qs ws) ++ more' = cc (h.rest) in
    let l : SameArguments vs ws more more' = same_arguments n qs vs ws more more' small of_v.1 of_w.1 rest in
    record { values = cc (h.value, l.values); rest = l.rest }

pub record SameCount (m n : ℕ) (more more' : List ℕ) : Type 0 where
  pub count : m ≡ n
  pub rest : more ≡ more'

pub same_count : (m n : ℕ) (more more' : List ℕ) → m ≤ 12 → n ≤ 12 → objects_line m ++ more ≡ objects_line n ++ more' → SameCount m n more more'
same_count m n more more' few few' same =
    let opened : objects_line m ++ more ≡ codes "objects " ++ (decimal m ++ (10 ∷ more)) = ap (λ l. codes "objects " ++ l) (append_assoc (decimal m) (10 ∷ []) more) in
    let opened' : objects_line n ++ more' ≡ codes "objects " ++ (decimal n ++ (10 ∷ more')) = ap (λ l. codes "objects " ++ l) (append_assoc (decimal n) (10 ∷ []) more') in
    let h : SameCut (decimal m) (decimal n) (10 ∷ more) (10 ∷ more') =
    same_cut (decimal m) (decimal n) (10 ∷ more) (10 ∷ more') (decimal_inner m (omega arith)) (decimal_inner n (omega arith)) refl refl
    (behind_one (codes "objects ") _ (objects_line m ++ more) _ opened (same ∙ opened')) in
    record { count = decimal_injective m n (omega arith) (omega arith) h.word; rest = cc (h.rest) }

-- the receiver's line in front is the only one
pub same_receiver : (p : Posed) (n : ℕ) (v w : Value) (more more' : List ℕ) → n < 2 ^ 64 → is_receiver_named p n v ≡ true → is_receiver_named p n w ≡ true
    → this_line v ++ more ≡ this_line w ++ more' → SameValue v w (10 ∷ more) (10 ∷ more')
same_receiver p n v w more more' small is_v is_w same = by_method (method_of p) is_v is_w
  where
    by_method : (o : Option MethodDef) → option_map_or (λ m. is_named n m.fixed v) o false ≡ true → option_map_or (λ m. is_named n m.fixed w) o false ≡ true → SameValue v w (10 ∷ more) (10 ∷ more')
    by_method None h k = absurd (false≢true h)
    by_method (Some m) h k =
        let opened : this_line v ++ more ≡ codes "this " ++ (this_value v ++ (10 ∷ more)) = ap (λ l. codes "this " ++ l) (append_assoc (this_value v) (10 ∷ []) more) in
        let opened' : this_line w ++ more' ≡ codes "this " ++ (this_value w ++ (10 ∷ more')) = ap (λ l. codes "this " ++ l) (append_assoc (this_value w) (10 ∷ []) more') in
        let c : SameCut (this_value v) (this_value w) (10 ∷ more) (10 ∷ more') =
        same_cut (this_value v) (this_value w) (10 ∷ more) (10 ∷ more') (receiver_inner n m.fixed v small h) (receiver_inner n m.fixed w small k) refl refl
        (behind_one (codes "this ") _ (this_line v ++ more) _ opened (same ∙ opened')) in
        record { value = receiver_once n m.fixed v w small h k c.word; rest = c.rest }

-- a text says one start at most
pub one_start : (p : Posed) (text : List ℕ) (s t : Start) → IsWell p.unit → IsStateText p text s → IsStateText p text t → s ≡ t
one_start p text s t well is_s is_t =
    let opened : (u : Start) → state_text p u ≡ objects_line (length u.objects) ++ (object_lines p u.objects ++ (this_line u.this ++ argument_lines p u.args)) =
    λ u.
    append_assoc (objects_line (length u.objects) ++ object_lines p u.objects) (this_line u.this) (argument_lines p u.args)
    ∙ append_assoc (objects_line (length u.objects)) (object_lines p u.objects) (this_line u.this ++ argument_lines p u.args) in
    let a : SameCount (length s.objects) (length t.objects) (object_lines p s.objects ++ (this_line s.this ++ argument_lines p s.args)) (object_lines p t.objects ++ (this_line t.this ++ argument_lines p t.args)) =
    same_count (length s.objects) (length t.objects) _ _ is_s.few is_t.few (sym (opened s) ∙ sym is_s.text_is ∙ is_t.text_is ∙ opened t) in
    let small : length s.objects < 2 ^ 64 = omega (arith, is_s.few) in
    let objects : list_all (is_listed p.unit (length s.objects)) t.objects ≡ true = subst (λ (n : ℕ). list_all (is_listed p.unit n) t.objects ≡ true) (sym a.count) is_t.objects in
    let receiver : is_receiver_named p (length s.objects) t.this ≡ true = subst (λ (n : ℕ). is_receiver_named p n t.this ≡ true) (sym a.count) is_t.receiver in
    let arguments : pointwise (is_given (length s.objects)) (params_of p) t.args ≡ true = subst (λ (n : ℕ). pointwise (is_given n) (params_of p) t.args ≡ true) (sym a.count) is_t.arguments in
    let b : SameObjects s.objects t.objects (this_line s.this ++ argument_lines p s.args) (this_line t.this ++ argument_lines p t.args) =
    same_objects p (length s.objects) 0 s.objects t.objects _ _ small well is_s.objects objects a.count a.rest in
    let c : SameValue s.this t.this (10 ∷ argument_lines p s.args) (10 ∷ argument_lines p t.args) = same_receiver p (length s.objects) s.this t.this _ _ small is_s.receiver receiver b.rest in
    let lines : argument_lines p s.args ≡ argument_lines p t.args = cc (c.rest) in
    let d : SameArguments s.args t.args [] [] =
    same_arguments (length s.objects) (params_of p) s.args t.args [] [] small is_s.arguments arguments (append-nil (argument_lines p s.args) ∙ lines ∙ sym (append-nil (argument_lines p t.args))) in
    ap (λ (xs : List Object). let u : Start = record { objects = xs; this = s.this; args = s.args } in u) b.objects
    ∙ ap (λ (v : Value). let u : Start = record { objects = t.objects; this = v; args = s.args } in u) c.value
    ∙ ap (λ (vs : List Value). let u : Start = record { objects = t.objects; this = t.this; args = vs } in u) d.values
