-- The grammar of members, parted by what stands first, and the laws of what stands behind a specification.
use Rattle.std.proofs.Common.{◌≡◌, ◌⊎◌, ℕ, ◌+◌, Bool, true, false, ◌&&◌, ◌||◌, List, [], ◌∷◌, ◌++◌, Option, Some, None, refl, sym, ap, ◌∙◌, subst, inl, inr, codes, filter, cond, ◌==◌, option_map}
use Rattle.std.specs.List.{list_all, filter_map, cons_option}
use Rattle.java_lex.specs.declared.spelling.Terminal.{Terminal}
use Rattle.java_lex.specs.declared.spelling.Terminal.TheVariants as terminal
use Rattle.java_lex.specs.declared.token.Token.{Token}
use Rattle.java_lex.specs.Terminals.{terminal_of}
use Rattle.java_tree.specs.declared.names.Ident.{Ident}
use Rattle.java_tree.specs.declared.names.ModWord.{ModWord}
use Rattle.java_tree.specs.declared.names.ModWord.TheVariants.{Static as StaticWord, Nullable, NonNull, NullableByDefault, NonNullByDefault}
use Rattle.java_tree.specs.declared.names.Modifier.{Modifier}
use Rattle.java_tree.specs.declared.names.TypeTree.{TypeTree}
use Rattle.java_tree.specs.declared.names.TypeTree.TheVariants.{Int, Flag, Class as class_type}
use Rattle.java_tree.specs.Trees.{Expr, Exprs, Stmt, Stmts, done, next, Clause, Param, Method, invariant, field, method}
use Rattle.java_tree.specs.Phrases.{Limit, Letter, Phrase, ◌▸◌, letter, one, one_at, name, maybe}
use Rattle.java_tree.specs.Expressions.{predicate}
use Rattle.java_tree.specs.Statements.{modifiers, statements, in_order, kept, kept_word, rank}
use Rattle.java_tree.specs.Members.{is_modifier, is_method_modifier, visibility, clauses, specification, procedure, member, result_of, Written, empty, one_part, fields}
use Rattle.reading_core.specs.Read.{◌>>=◌, at_side}
use Rattle.java_reading.specs.declared.marks.Fixed.TheVariants.{OpenBrace, CloseBrace, OpenParen, CloseParen}
use Rattle.java_reading.specs.Readers.{Reader, head, give, and_then}
use Rattle.java_reading.specs.Tokens.{is_fixed, fixed, name_in, next_is}
use Rattle.java_reading.specs.StatementReading.{modifiers_in, statement_at, statements_in, stmts_of}
use Rattle.java_reading.specs.MemberReading.{is_static, has_static, is_result, result_by, result_in, parameters_in, names_in, body_in, method_in, named_part_in, declared_part_in}
use Rattle.java_reading.proofs.Law.{Family, never, any, Sample, Exact, Law}
use Rattle.java_reading.proofs.Seq.{seq, seq_law, seq_sample}
use Rattle.java_reading.proofs.Parts.{Decided, token_by, token_law, token_sample, give_law, give_sample, same_law, same_sample, bind_law, recast_at}
use Rattle.java_reading.proofs.TokenLaws.{name_law, name_sample, one_head, on_is, on_side, word_at}
use Rattle.java_reading.proofs.Shapes.{then_it, it_then, then_fixed, fixed_then, fixed_then_sample, then_fixed_sample}
use Rattle.java_reading.proofs.ModifierLaws.{MF, MX, TypeToken, allowed_head, modifiers_law, modifiers_sample}
use Rattle.java_reading.proofs.DeclarationLaws.{EF, EX}
use Rattle.java_reading.proofs.Tails.{ArgsF}
use Rattle.java_reading.proofs.Beginnings.{and_left}
use Rattle.java_reading.proofs.StatementForms.{StF, EndX, brace_closes, statements_law}
use Rattle.java_reading.proofs.StatementLaw.{statement_law}
use Rattle.java_reading.proofs.Many.{each}
use Rattle.java_reading.proofs.PartLaws.{closed_of, closed_law, ParamsF, ParamsX, parameters_law, paren_closes, NamesF, names_law, names_head, type_no_modifier}

-- "void" OR A TYPE

abbrev pub RF : Family (Option TypeTree)
RF May o = result_of o

abbrev ResultToken : Option TypeTree → Token → Type 0
ResultToken None t = letter t ≡ (false, terminal.Void)
ResultToken (Some kind) t = TypeToken kind t

result_is : (y : Terminal) → is_result y ≡ true → (t : Token) → at_side false t ≡ y → ResultToken (result_by y t) t
result_is terminal.Void e t is = on_is false (letter t) terminal.Void is (λ f. cc)
result_is terminal.Int e t is = on_is false (letter t) terminal.Int is (λ f. cc)
result_is terminal.Boolean e t is = on_is false (letter t) terminal.Boolean is (λ f. cc)
result_is terminal.Name e t is = (on_is false (letter t) terminal.Name is (λ f. cc), refl)
result_is y e t is = absurd (cc)

result_means : (o : Option TypeTree) (t : Token) → ResultToken o t → (is_result (at_side false t) ≡ true) × (o ≡ result_by (at_side false t) t)
result_means None t e = let f : at_side false t ≡ terminal.Void = on_side false (letter t) terminal.Void e in (ap is_result f, sym (ap (λ y. result_by y t) f))
result_means (Some Int) t e = let f : at_side false t ≡ terminal.Int = on_side false (letter t) terminal.Int e in (ap is_result f, sym (ap (λ y. result_by y t) f))
result_means (Some Flag) t e = let f : at_side false t ≡ terminal.Boolean = on_side false (letter t) terminal.Boolean e in (ap is_result f, sym (ap (λ y. result_by y t) f))
result_means (Some (class_type i)) t e = let f : at_side false t ≡ terminal.Name = on_side false (letter t) terminal.Name e.0 in (ap is_result f, sym (ap (λ y. result_by y t) f ∙ ap (λ v. Some (class_type v)) e.1))

result_plain : (o : Option TypeTree) (t : Token) → ResultToken o t → terminal_of t ≡ terminal.End → ⊥
result_plain None t e end = let f : terminal.Void ≡ terminal.End = sym (ap (λ (z : Letter). z.1) e) ∙ end in cc
result_plain (Some Int) t e end = let f : terminal.Int ≡ terminal.End = sym (ap (λ (z : Letter). z.1) e) ∙ end in cc
result_plain (Some Flag) t e end = let f : terminal.Boolean ≡ terminal.End = sym (ap (λ (z : Letter). z.1) e) ∙ end in cc
result_plain (Some (class_type i)) t e end = let f : terminal.Name ≡ terminal.End = sym (ap (λ (z : Letter). z.1) e.0) ∙ end in cc

result_decided : Decided (Option TypeTree) ResultToken (λ t. is_result (at_side false t)) (λ t. result_by (at_side false t) t)
result_decided = record {
  is = λ t e. result_is (at_side false t) e t refl;
  means = result_means;
  example = word_at false (codes "int");
  works = refl;
  plain = λ t e. result_plain (result_by (at_side false t) t) t (result_is (at_side false t) e t refl);
}

result_to : (o : Option TypeTree) (l : ℕ) (us : List Token) (k : ℕ) (r : List Token) → token_by ResultToken (λ m v. Unit {0}) o l us k r → result_of o l us k r
result_to None l us k r h = h
result_to (Some Int) l us k r h = h
result_to (Some Flag) l us k r h = h
result_to (Some (class_type i)) l us k r h = h

result_from : (o : Option TypeTree) (l : ℕ) (us : List Token) (k : ℕ) (r : List Token) → result_of o l us k r → token_by ResultToken (λ m v. Unit {0}) o l us k r
result_from None l us k r h = h
result_from (Some Int) l us k r h = h
result_from (Some Flag) l us k r h = h
result_from (Some (class_type i)) l us k r h = h

result_law : (l : ℕ) → Exact (Option TypeTree) RF never any l result_in
result_law l ts =
    same_law (Option TypeTree) (token_by ResultToken) RF never any (λ May. result_to) (λ May. result_from) l ts (result_in ts)
    (token_law (Option TypeTree) ResultToken (λ t. is_result (at_side false t)) (λ t. result_by (at_side false t) t) result_decided l ts)

result_sample : (l : ℕ) → Sample (Option TypeTree) RF l
result_sample l =
    same_sample (Option TypeTree) (token_by ResultToken) RF never any (λ May. result_to) (λ May. result_from) l
    (token_sample (Option TypeTree) ResultToken (λ t. is_result (at_side false t)) (λ t. result_by (at_side false t) t) result_decided l)

-- a result is no modifier
result_no_modifier : (o : Option TypeTree) (m : ℕ) (us : List Token) (k : ℕ) (r : List Token) → result_of o m us k r → allowed_head is_method_modifier (head us) ≡ true → ⊥
result_no_modifier None m us k r (t, is, parts, up) e = let f : true ≡ false = sym e ∙ ap (λ v. allowed_head is_method_modifier (head v)) parts ∙ ap is_method_modifier is in cc
result_no_modifier (Some kind) m us k r h e = type_no_modifier is_method_modifier refl refl refl kind m us k r h e

pub method_plain : (z : Letter) → is_method_modifier z ≡ true → z.1 ≡ terminal.End → ⊥
method_plain (jml, x) e is = let e1 : is_method_modifier (jml, terminal.End) ≡ true = subst (λ (v : Terminal). is_method_modifier (jml, v) ≡ true) is e in by jml e1
  where
    by : (jml : Bool) → is_method_modifier (jml, terminal.End) ≡ true → ⊥
    by true e = cc
    by false e = cc

-- MODIFIERS OF FIELDS

all_right : (a b : Bool) → (a && b) ≡ true → b ≡ true
all_right true b e = e
all_right false b e = absurd (cc)

or_false : (a b : Bool) → a ≡ false → b ≡ false → (a || b) ≡ false
or_false true b e f = e
or_false false b e f = f

or_left : (a b : Bool) → (a || b) ≡ false → a ≡ false
or_left true b e = e
or_left false b e = refl

or_right : (a b : Bool) → (a || b) ≡ false → b ≡ false
or_right true b e = absurd (cc)
or_right false b e = e

any_append : (xs ys : List Modifier) → has_static xs ≡ false → has_static ys ≡ false → has_static (xs ++ ys) ≡ false
any_append [] ys e f = f
any_append (x ∷ xs) ys e f = or_false (is_static x.word) (has_static (xs ++ ys)) (or_left (is_static x.word) (has_static xs) e) (any_append xs ys (or_right (is_static x.word) (has_static xs) e) f)

any_left : (xs ys : List Modifier) → has_static (xs ++ ys) ≡ false → has_static xs ≡ false
any_left [] ys e = refl
any_left (x ∷ xs) ys e = or_false (is_static x.word) (has_static xs) (or_left (is_static x.word) (has_static (xs ++ ys)) e) (any_left xs ys (or_right (is_static x.word) (has_static (xs ++ ys)) e))

cond_static : (b : Bool) (x : Modifier) (fs : List Modifier) → is_static x.word ≡ false → has_static fs ≡ false → has_static (cond b (x ∷ fs) fs) ≡ false
cond_static true x fs e f = or_false (is_static x.word) (has_static fs) e f
cond_static false x fs e f = f

filter_static : (q : Modifier → Bool) (xs : List Modifier) → has_static xs ≡ false → has_static (filter q xs) ≡ false
filter_static q [] e = refl
filter_static q (x ∷ xs) e = cond_static (q x) x (filter q xs) (or_left (is_static x.word) (has_static xs) e) (filter_static q xs (or_right (is_static x.word) (has_static xs) e))

abbrev ranked : ℕ → List Modifier → List Modifier
ranked n xs = filter (λ m. rank m.word == n) xs

-- the modifiers in order have `static` exactly where they have it
order_static : (xs : List Modifier) → has_static xs ≡ false → has_static (in_order xs) ≡ false
order_static xs e =
    any_append (ranked 0 xs) (ranked 1 xs ++ (ranked 2 xs ++ (ranked 3 xs ++ (ranked 4 xs ++ [])))) (filter_static (λ m. rank m.word == 0) xs e)
    (any_append (ranked 1 xs) (ranked 2 xs ++ (ranked 3 xs ++ (ranked 4 xs ++ []))) (filter_static (λ m. rank m.word == 1) xs e)
    (any_append (ranked 2 xs) (ranked 3 xs ++ (ranked 4 xs ++ [])) (filter_static (λ m. rank m.word == 2) xs e)
    (any_append (ranked 3 xs) (ranked 4 xs ++ []) (filter_static (λ m. rank m.word == 3) xs e) (any_append (ranked 4 xs) [] (filter_static (λ m. rank m.word == 4) xs e) refl))))

static_first : (w : ModWord) → (rank w == 0) ≡ is_static w
static_first StaticWord = refl
static_first Nullable = refl
static_first NonNull = refl
static_first NullableByDefault = refl
static_first NonNullByDefault = refl

cond_back : (b s : Bool) (x : Modifier) (fs : List Modifier) → b ≡ s → is_static x.word ≡ s → has_static (cond b (x ∷ fs) fs) ≡ false → (is_static x.word ≡ false) × (has_static fs ≡ false)
cond_back true true x fs e is h = (or_left (is_static x.word) (has_static fs) h, or_right (is_static x.word) (has_static fs) h)
cond_back true false x fs e is h = absurd (cc)
cond_back false true x fs e is h = absurd (cc)
cond_back false false x fs e is h = (is, h)

first_static : (xs : List Modifier) → has_static (ranked 0 xs) ≡ false → has_static xs ≡ false
first_static [] e = refl
first_static (x ∷ xs) e = let both = cond_back (rank x.word == 0) (is_static x.word) x (ranked 0 xs) (static_first x.word) refl e in or_false (is_static x.word) (has_static xs) both.0 (first_static xs both.1)

static_order : (xs : List Modifier) → has_static (in_order xs) ≡ false → has_static xs ≡ false
static_order xs e = first_static xs (any_left (ranked 0 xs) (ranked 1 xs ++ (ranked 2 xs ++ (ranked 3 xs ++ (ranked 4 xs ++ [])))) e)

modifier_or_static : (z : Letter) → is_method_modifier z ≡ true → (is_modifier z ≡ true) ⊎ (z ≡ (false, terminal.Static))
modifier_or_static (false, terminal.Static) e = inr refl
modifier_or_static z e = inl e

modifier_is : (z : Letter) → is_modifier z ≡ true → is_method_modifier z ≡ true
modifier_is (false, terminal.Static) e = refl
modifier_is z e = e

abbrev kept_list : Letter → ℕ → List Modifier
kept_list z at = cons_option (option_map (λ w. record { word = w; at = at }) (kept_word z)) []

modifier_kept : (z : Letter) (at : ℕ) → is_modifier z ≡ true → has_static (kept_list z at) ≡ false
modifier_kept (false, terminal.Public) at e = refl
modifier_kept (false, terminal.Protected) at e = refl
modifier_kept (false, terminal.Private) at e = refl
modifier_kept (false, terminal.Final) at e = refl
modifier_kept (true, terminal.SpecPublic) at e = refl
modifier_kept (true, terminal.SpecProtected) at e = refl
modifier_kept (true, terminal.Nullable) at e = refl
modifier_kept (true, terminal.NonNull) at e = refl
modifier_kept z at e = absurd (cc)

cons_is : (o : Option Modifier) (ms : List Modifier) → cons_option o ms ≡ cons_option o [] ++ ms
cons_is None ms = refl
cons_is (Some m) ms = refl

-- modifiers of fields are those of methods without `static`
fields_all : (f : List Token) → list_all (λ t. is_method_modifier (letter t)) f ≡ true → has_static (filter_map kept f) ≡ false → list_all (λ t. is_modifier (letter t)) f ≡ true
fields_all [] all e = refl
fields_all (t ∷ f) all e = elim (modifier_or_static (letter t) (and_left (is_method_modifier (letter t)) _ all)) [ inl is ↦ both_true (is_modifier (letter t)) _ is (fields_all f (all_right (is_method_modifier (letter t)) _ all) (rest_static (kept t) (filter_map kept f) e)) | inr is ↦ absurd (clash is) ]
  where
    both_true : (a b : Bool) → a ≡ true → b ≡ true → (a && b) ≡ true
    both_true true b e f = f
    both_true false b e f = absurd (cc)

    rest_static : (o : Option Modifier) (ms : List Modifier) → has_static (cons_option o ms) ≡ false → has_static ms ≡ false
    rest_static None ms e = e
    rest_static (Some m) ms e = or_right (is_static m.word) (has_static ms) e

    clash : letter t ≡ (false, terminal.Static) → ⊥
    clash is =
        let k : kept t ≡ Some (record { word = StaticWord; at = t.from }) = ap (λ z. option_map (λ w. record { word = w; at = t.from }) (kept_word z)) is in
        let h : has_static (cons_option (Some (record { word = StaticWord; at = t.from })) (filter_map kept f)) ≡ false = subst (λ (o : Option Modifier). has_static (cons_option o (filter_map kept f)) ≡ false) k e in
        let h' : true ≡ false = h in cc

methods_all : (f : List Token) → list_all (λ t. is_modifier (letter t)) f ≡ true → (list_all (λ t. is_method_modifier (letter t)) f ≡ true) × (has_static (filter_map kept f) ≡ false)
methods_all [] all = (refl, refl)
methods_all (t ∷ f) all =
    let is : is_modifier (letter t) ≡ true = and_left (is_modifier (letter t)) _ all in
    let more = methods_all f (all_right (is_modifier (letter t)) _ all) in (
      both_true (is_method_modifier (letter t)) _ (modifier_is (letter t) is) more.0,
      ap has_static (cons_is (kept t) (filter_map kept f)) ∙ any_append (cons_option (kept t) []) (filter_map kept f) (modifier_kept (letter t) t.from is) more.1,
    )
  where
    both_true : (a b : Bool) → a ≡ true → b ≡ true → (a && b) ≡ true
    both_true true b e f = f
    both_true false b e f = absurd (cc)

pub field_modifiers : (mods : List Modifier) (l : ℕ) (us : List Token) (k : ℕ) (r : List Token) → has_static mods ≡ false → modifiers is_method_modifier mods l us k r → modifiers is_modifier mods l us k r
field_modifiers mods l us k r e (front, parts, all, mods_is, up) = (front, parts, fields_all front all (static_order (filter_map kept front) (ap has_static (sym mods_is) ∙ e)), mods_is, up)

pub method_modifiers : (mods : List Modifier) (l : ℕ) (us : List Token) (k : ℕ) (r : List Token) → modifiers is_modifier mods l us k r → (has_static mods ≡ false) × modifiers is_method_modifier mods l us k r
method_modifiers mods l us k r (front, parts, all, mods_is, up) =
    let both = methods_all front all in (ap has_static mods_is ∙ order_static (filter_map kept front) both.1, (front, parts, both.0, mods_is, up))

-- BEHIND THE NAME

abbrev ManyF : Family (List Stmt)
ManyF = each StF

abbrev F1 : Family (List Stmt × Unit {0})
F1 = then_it false CloseBrace refl (λ e. cc) (closed_of ManyF)

abbrev F2 : Family (Unit {0} × (List Stmt × Unit {0}))
F2 = it_then false OpenBrace refl (λ e. cc) F1

abbrev F3 : Family (Unit {0} × (Unit {0} × (List Stmt × Unit {0})))
F3 = it_then false CloseParen refl (λ e. cc) F2

abbrev F4 : Family (List Param × (Unit {0} × (Unit {0} × (List Stmt × Unit {0}))))
F4 = seq ParamsF (λ ps. F3)

abbrev F5 : Family (Unit {0} × (List Param × (Unit {0} × (Unit {0} × (List Stmt × Unit {0})))))
F5 = it_then false OpenParen refl (λ e. cc) F4

abbrev pub BodyMF : Family (List Param × List Stmt)
BodyMF May x = F5 May (tt, (x.0, (tt, (tt, (x.1, tt)))))

s1 : (m : ℕ) → Sample (List Stmt × Unit {0}) F1 m
s1 m = then_fixed_sample false CloseBrace refl (λ e. cc) (List Stmt) (closed_of ManyF) m (record { tokens = []; tree = []; is = λ May c frees. (m, (refl, refl), refl) })

s2 : (m : ℕ) → Sample (Unit {0} × (List Stmt × Unit {0})) F2 m
s2 m = fixed_then_sample false OpenBrace refl (λ e. cc) (List Stmt × Unit {0}) F1 m (s1 m)

s3 : (m : ℕ) → Sample (Unit {0} × (Unit {0} × (List Stmt × Unit {0}))) F3 m
s3 m = fixed_then_sample false CloseParen refl (λ e. cc) (Unit {0} × (List Stmt × Unit {0})) F2 m (s2 m)

s4 : (m : ℕ) → Sample (List Param × (Unit {0} × (Unit {0} × (List Stmt × Unit {0})))) F4 m
s4 m = seq_sample (List Param) (Unit {0} × (Unit {0} × (List Stmt × Unit {0}))) ParamsF (λ ps. F3) m (record { tokens = []; tree = []; is = λ May c frees. (refl, refl) }) (λ ps. s3 m)

s5 : (m : ℕ) → Sample (Unit {0} × (List Param × (Unit {0} × (Unit {0} × (List Stmt × Unit {0}))))) F5 m
s5 m = fixed_then_sample false OpenParen refl (λ e. cc) (List Param × (Unit {0} × (Unit {0} × (List Stmt × Unit {0})))) F4 m (s4 m)

abbrev made : List Clause → List Modifier → Option TypeTree → Ident → List Param × List Stmt → Written
made spec mods result i x = one_part (method (record { spec = spec; mods = mods; result = result; name = i; params = x.0; body = stmts_of x.1 }))

abbrev MethodF : List Clause → List Modifier → Option TypeTree → Ident → Family Written
MethodF spec mods result i May w l us k r = (x : List Param × List Stmt) × (w ≡ made spec mods result i x) × BodyMF May x l us k r

abbrev FieldsF : Bool → List Modifier → Option TypeTree → Ident → Family Written
FieldsF specified mods result i May w l us k r =
    (kind : TypeTree) × (is : List Ident) × (specified ≡ false) × (has_static mods ≡ false) × (result ≡ Some kind) × (w ≡ fields mods kind i is) × NamesF May is l us k r

-- behind the name of a method or of fields
abbrev pub NPartF : Bool → List Clause → List Modifier → Option TypeTree → Ident → Family Written
NPartF specified spec mods result i May w l us k r = MethodF spec mods result i May w l us k r ⊎ FieldsF specified mods result i May w l us k r

npart_sample : (specified : Bool) (spec : List Clause) (mods : List Modifier) (result : Option TypeTree) (i : Ident) (m : ℕ) → Sample Written (NPartF specified spec mods result i) m
npart_sample specified spec mods result i m =
    give_sample (Unit {0} × (List Param × (Unit {0} × (Unit {0} × (List Stmt × Unit {0}))))) Written F5 (NPartF specified spec mods result i) (λ x. made spec mods result i (x.1.0, x.1.1.1.1.0)) m (λ May x us k r h. inl ((x.1.0, x.1.1.1.1.0), refl, h)) (s5 m)

body_head : (May : Limit) (x : List Param × List Stmt) (l : ℕ) (us : List Token) (k : ℕ) (r : List Token) → BodyMF May x l us k r → next_is false OpenParen (head us) ≡ true
body_head May x l us k r (m, us1, h, h') = ap (is_fixed OpenParen) (one_head false terminal.OpenParen l us m us1 h)

-- modifiers, a result, a name and the rest
abbrev pub DeclF : Bool → List Clause → Family Written
DeclF specified spec May w l us k r =
    (mods : List Modifier) × (result : Option TypeTree) × (i : Ident) × (modifiers is_method_modifier mods ▸ result_of result ▸ name false i ▸ NPartF specified spec mods result i May w) l us k r

abbrev AfterModsF : Bool → List Clause → List Modifier → Family Written
AfterModsF specified spec mods May w l us k r = (result : Option TypeTree) × (i : Ident) × (result_of result ▸ name false i ▸ NPartF specified spec mods result i May w) l us k r

abbrev AfterResultF : Bool → List Clause → List Modifier → Option TypeTree → Family Written
AfterResultF specified spec mods result May w l us k r = (i : Ident) × (name false i ▸ NPartF specified spec mods result i May w) l us k r

module _ (expression : ℕ → Reader Expr) (arguments : ℕ → Reader Exprs) (predicate_in : ℕ → Reader Expr)
    (expression_law : (left l : ℕ) → l + left ≡ 64 → Exact Expr EF EX any l (expression left))
    (arguments_law : (left l : ℕ) → l + left ≡ 64 → Exact Exprs ArgsF never any l (arguments left)) (arguments_sample : (l : ℕ) → Sample Exprs ArgsF l)
    (left l : ℕ) (sum : l + left ≡ 64) where
  body_law : Exact (List Param × List Stmt) BodyMF never any l (body_in expression arguments predicate_in left)
  body_law ts =
      give_law (Unit {0} × (List Param × (Unit {0} × (Unit {0} × (List Stmt × Unit {0}))))) (List Param × List Stmt) F5 never any BodyMF never any (λ x. (x.1.0, x.1.1.1.1.0)) (λ May x m us k r h. h) (λ x h none. none) (λ x h s. tt) l ts
      (and_then (fixed false OpenParen ts) (λ u ts. and_then (parameters_in ts) (λ ps ts. and_then (fixed false CloseParen ts) (λ u ts. and_then (fixed false OpenBrace ts) (λ u ts. and_then (statements_in expression arguments left ts) (λ ss. fixed false CloseBrace))))))
      (λ May x us k r same h. inl ((tt, (x.0, (tt, (tt, (x.1, tt))))), refl, h))
      (fixed_then false OpenParen refl (λ e. cc) (List Param × (Unit {0} × (Unit {0} × (List Stmt × Unit {0})))) F4 never any s4 l
      (λ ts. and_then (parameters_in ts) (λ ps ts. and_then (fixed false CloseParen ts) (λ u ts. and_then (fixed false OpenBrace ts) (λ u ts. and_then (statements_in expression arguments left ts) (λ ss. fixed false CloseBrace)))))
      (λ ts. seq_law (List Param) (Unit {0} × (Unit {0} × (List Stmt × Unit {0}))) ParamsF ParamsX any (λ ps. F3) (λ ps. never) (λ ps. any) (λ ps. s3) (λ ps May x m us k r h e. paren_closes ps (head us) e (one_head false terminal.CloseParen m us h.0 h.1 h.2)) l ts
      (parameters_in ts) (parameters_law l ts) (λ ps ts. and_then (fixed false CloseParen ts) (λ u ts. and_then (fixed false OpenBrace ts) (λ u ts. and_then (statements_in expression arguments left ts) (λ ss. fixed false CloseBrace))))
      (λ ps mid got. fixed_then false CloseParen refl (λ e. cc) (Unit {0} × (List Stmt × Unit {0})) F2 never any s2 l (λ ts. and_then (fixed false OpenBrace ts) (λ u ts. and_then (statements_in expression arguments left ts) (λ ss. fixed false CloseBrace)))
      (fixed_then false OpenBrace refl (λ e. cc) (List Stmt × Unit {0}) F1 never any s1 l (λ ts. and_then (statements_in expression arguments left ts) (λ ss. fixed false CloseBrace))
      (then_fixed false CloseBrace refl (λ e. cc) (List Stmt) (closed_of ManyF) (EndX expression arguments expression_law) any (brace_closes expression arguments expression_law) l (statements_in expression arguments left)
      (λ ts. closed_law (List Stmt) ManyF (EndX expression arguments expression_law) any l ts (statements_in expression arguments left ts) (statements_law expression arguments expression_law l (statement_at expression arguments left) (statement_law expression arguments expression_law arguments_law arguments_sample left l sum) ts)))) mid)) ts)

  method_law : (spec : List Clause) (mods : List Modifier) (result : Option TypeTree) (i : Ident) → Exact Written (MethodF spec mods result i) never any l (method_in expression arguments predicate_in left spec mods result i)
  method_law spec mods result i ts =
      give_law (List Param × List Stmt) Written BodyMF never any (MethodF spec mods result i) never any (made spec mods result i) (λ May x m us k r h. (x, refl, h)) (λ x h none. none) (λ x h s. tt) l ts (body_in expression arguments predicate_in left ts)
      (λ May w us k r same h. inl (h.0, h.1, h.2)) (body_law ts)

  module _ (specified : Bool) (spec : List Clause) (mods : List Modifier) (i : Ident) where
    part_by : (kind : TypeTree) (ts : List Token) (b : Bool) → (specified || has_static mods || next_is false OpenParen (head ts)) ≡ b → Law Written (NPartF specified spec mods (Some kind) i) never any l ts
        (elim b [ true ↦ method_in expression arguments predicate_in left spec mods (Some kind) i ts | false ↦ give (fields mods kind i) (names_in ts) ])
    part_by kind ts true is =
        recast_at Written (MethodF spec mods (Some kind) i) (NPartF specified spec mods (Some kind) i) never never any any l (λ May w us k r h. inl h) (λ w h none. none) (λ w h s. s) ts (method_in expression arguments predicate_in left spec mods (Some kind) i ts) back
        (method_law spec mods (Some kind) i ts)
      where
        back : (May : Limit) (w : Written) (us : List Token) (k : ℕ) (r : List Token) → head us ≡ head ts → NPartF specified spec mods (Some kind) i May w l us k r → MethodF spec mods (Some kind) i May w l us k r ⊎ ⊥
        back May w us k r same (inl h) = inl h
        back May w us k r same (inr (kind', is', not_specified, no_static, kind_is, w_is, h)) =
            absurd (names_head May is' l us k r h (ap (next_is false OpenParen) same ∙ sym (ap (λ (b : Bool). b || has_static mods || next_is false OpenParen (head ts)) not_specified ∙ ap (λ (b : Bool). false || b || next_is false OpenParen (head ts)) no_static) ∙ is))
    part_by kind ts false is =
        give_law (List Ident) Written NamesF never any (NPartF specified spec mods (Some kind) i) never any (fields mods kind i)
        (λ May x m us k r h. inr (kind, x, or_left specified (has_static mods) first_two, or_right specified (has_static mods) first_two, refl, refl, h)) (λ x h none. none) (λ x h s. tt) l ts (names_in ts) back (names_law l ts)
      where
        first_two : (specified || has_static mods) ≡ false
        first_two = or_left (specified || has_static mods) (next_is false OpenParen (head ts)) is

        back : (May : Limit) (w : Written) (us : List Token) (k : ℕ) (r : List Token) → head us ≡ head ts → NPartF specified spec mods (Some kind) i May w l us k r → ((x : List Ident) × (w ≡ fields mods kind i x) × NamesF May x l us k r) ⊎ ⊥
        back May w us k r same (inl (x, w_is, h)) =
            let e : next_is false OpenParen (head ts) ≡ true = ap (next_is false OpenParen) (sym same) ∙ body_head May x l us k r h in
            let f : next_is false OpenParen (head ts) ≡ false = or_right (specified || has_static mods) (next_is false OpenParen (head ts)) is in
            let g : true ≡ false = sym e ∙ f in absurd (cc)
        back May w us k r same (inr (kind', is', not_specified, no_static, kind_is, w_is, h)) = inl (is', w_is ∙ ap (λ v. fields mods v i is') (sym (same_kind kind kind' kind_is)), h)
          where
            same_kind : (a b : TypeTree) → ◌≡◌ {A = Option TypeTree} (Some a) (Some b) → a ≡ b
            same_kind a b e = cc

    npart_law : (result : Option TypeTree) → Exact Written (NPartF specified spec mods result i) never any l (named_part_in expression arguments predicate_in left specified spec mods result i)
    npart_law None ts =
        recast_at Written (MethodF spec mods None i) (NPartF specified spec mods None i) never never any any l (λ May w us k r h. inl h) (λ w h none. none) (λ w h s. s) ts (method_in expression arguments predicate_in left spec mods None i ts) back
        (method_law spec mods None i ts)
      where
        back : (May : Limit) (w : Written) (us : List Token) (k : ℕ) (r : List Token) → head us ≡ head ts → NPartF specified spec mods None i May w l us k r → MethodF spec mods None i May w l us k r ⊎ ⊥
        back May w us k r same (inl h) = inl h
        back May w us k r same (inr (kind', is', not_specified, no_static, kind_is, w_is, h)) = cc
    npart_law (Some kind) ts = part_by kind ts (specified || has_static mods || next_is false OpenParen (head ts)) refl

  -- WITH OR WITHOUT A SPECIFICATION

  abbrev RestF : Bool → List Clause → List Modifier → Option TypeTree → Family Written
  RestF = AfterResultF

  result_bind : (specified : Bool) (spec : List Clause) (mods : List Modifier) (result : Option TypeTree) → Exact Written (AfterResultF specified spec mods result) never any l (λ ts. name_in false ts >>= (λ i rest. named_part_in expression arguments predicate_in left specified spec mods result i rest))
  result_bind specified spec mods result ts =
      bind_law Ident Written (λ May i. name false i) never any (λ i. NPartF specified spec mods result i) (λ i. never) (λ i. any) (λ i. npart_sample specified spec mods result i) (λ i May w m us k r h none. none)
      (AfterResultF specified spec mods result) never any (λ May x m us k r h. (x.0, h)) (λ x h none. none) (λ x h s. tt) l ts (name_in false ts) (name_law false l ts) (λ i. named_part_in expression arguments predicate_in left specified spec mods result i)
      (λ i mid got. npart_law specified spec mods i result mid) (λ May w us k r same h. inl ((h.0, w), refl, h.1))

  after_result_sample : (specified : Bool) (spec : List Clause) (mods : List Modifier) (result : Option TypeTree) (m : ℕ) → Sample Written (AfterResultF specified spec mods result) m
  after_result_sample specified spec mods result m =
      give_sample (Ident × Written) Written (seq (λ May i. name false i) (λ i. NPartF specified spec mods result i)) (AfterResultF specified spec mods result) (λ x. x.1) m (λ May x us k r h. (x.0, h))
      (seq_sample Ident Written (λ May i. name false i) (λ i. NPartF specified spec mods result i) m (name_sample false m) (λ i. npart_sample specified spec mods result i m))

  mods_bind : (specified : Bool) (spec : List Clause) (mods : List Modifier)
      → Exact Written (AfterModsF specified spec mods) never any l (λ ts. result_in ts >>= (λ result rest. name_in false rest >>= (λ i rest. named_part_in expression arguments predicate_in left specified spec mods result i rest)))
  mods_bind specified spec mods ts =
      bind_law (Option TypeTree) Written RF never any (λ result. AfterResultF specified spec mods result) (λ result. never) (λ result. any) (λ result. after_result_sample specified spec mods result) (λ result May w m us k r h none. none)
      (AfterModsF specified spec mods) never any (λ May x m us k r h. (x.0, h.3.0, (h.0, h.1, h.2, h.3.1))) (λ x h none. none) (λ x h s. tt) l ts (result_in ts) (result_law l ts)
      (λ result rest. name_in false rest >>= (λ i rest. named_part_in expression arguments predicate_in left specified spec mods result i rest)) (λ result mid got. result_bind specified spec mods result mid)
      (λ May w us k r same h. inl ((h.0, w), refl, (h.2.0, h.2.1, h.2.2, (h.1, h.2.3))))

  after_mods_sample : (specified : Bool) (spec : List Clause) (mods : List Modifier) (m : ℕ) → Sample Written (AfterModsF specified spec mods) m
  after_mods_sample specified spec mods m =
      give_sample (Option TypeTree × Written) Written (seq RF (λ result. AfterResultF specified spec mods result)) (AfterModsF specified spec mods) (λ x. x.1) m (λ May x us k r h. (x.0, h.3.0, (h.0, h.1, h.2, h.3.1)))
      (seq_sample (Option TypeTree) Written RF (λ result. AfterResultF specified spec mods result) m (result_sample m) (λ result. after_result_sample specified spec mods result m))

  pub decl_law : (specified : Bool) (spec : List Clause) → Exact Written (DeclF specified spec) never any l (declared_part_in expression arguments predicate_in left specified spec)
  decl_law specified spec ts =
      bind_law (List Modifier) Written (MF is_method_modifier) (MX is_method_modifier) any (λ mods. AfterModsF specified spec mods) (λ mods. never) (λ mods. any) (λ mods. after_mods_sample specified spec mods)
      (λ mods May w m us k r h e. result_no_modifier h.0 m us h.2.0 h.2.1 h.2.2 e) (DeclF specified spec) never any (λ May x m us k r h. (x.0, h.3.0, h.3.1, (h.0, h.1, h.2, h.3.2))) (λ x h none. none) (λ x h s. tt) l ts
      (modifiers_in is_method_modifier ts) (modifiers_law is_method_modifier method_plain l ts)
      (λ mods rest. result_in rest >>= (λ result rest. name_in false rest >>= (λ i rest. named_part_in expression arguments predicate_in left specified spec mods result i rest))) (λ mods mid got. mods_bind specified spec mods mid)
      (λ May w us k r same h. inl ((h.0, w), refl, (h.3.0, h.3.1, h.3.2, (h.1, h.2, h.3.3))))

  pub decl_sample : (specified : Bool) (spec : List Clause) (m : ℕ) → Sample Written (DeclF specified spec) m
  decl_sample specified spec m =
      give_sample (List Modifier × Written) Written (seq (MF is_method_modifier) (λ mods. AfterModsF specified spec mods)) (DeclF specified spec) (λ x. x.1) m (λ May x us k r h. (x.0, h.3.0, h.3.1, (h.0, h.1, h.2, h.3.2)))
      (seq_sample (List Modifier) Written (MF is_method_modifier) (λ mods. AfterModsF specified spec mods) m (modifiers_sample is_method_modifier m) (λ mods. after_mods_sample specified spec mods m))

-- THE GRAMMAR OF MEMBERS, PARTED BY WHAT STANDS FIRST

stmts_to : (May : Limit) (ss : List Stmt) (m : ℕ) (us : List Token) (k : ℕ) (r : List Token) → ManyF May ss m us k r → statements May (stmts_of ss) m us k r
stmts_to May [] m us k r h = h
stmts_to May (s ∷ ss) m us k r (m1, us1, h, h') = (m1, us1, h, stmts_to May ss m1 us1 k r h')

stmts_from : (May : Limit) (ss : Stmts) (m : ℕ) (us : List Token) (k : ℕ) (r : List Token) → statements May ss m us k r → (list : List Stmt) × (ss ≡ stmts_of list) × ManyF May list m us k r
stmts_from May done m us k r h = ([], refl, h)
stmts_from May (next s ss) m us k r (m1, us1, h, h') = let more = stmts_from May ss m1 us1 k r h' in (s ∷ more.0, ap (next s) more.1, (m1, us1, h, more.2))

-- what stands behind the specification of a method
abbrev HeadF : List Modifier → Option TypeTree → Ident → List Param × List Stmt → Limit → Phrase
HeadF mods result i x May = modifiers is_method_modifier mods ▸ result_of result ▸ name false i ▸ BodyMF May x

-- a method with what stands before it, in the order of the grammar
procedure_to : (May : Limit) (spec : List Clause) (mods : List Modifier) (result : Option TypeTree) (i : Ident) (x : List Param × List Stmt) (l : ℕ) (us : List Token) (m : ℕ) (vs : List Token) (k : ℕ) (r : List Token)
    → specification May spec l us m vs → HeadF mods result i x May m vs k r → member May (made spec mods result i x) l us k r
procedure_to May spec mods result i x l us m vs k r hs (m1, us1, h1, (m2, us2, h2, (m3, us3, h3, (m4, us4, h4, (m5, us5, h5, (m6, us6, h6, (m7, us7, h7, (m8, us8, (n, h8, up), h9)))))))) =
    (m, vs, hs, (m1, us1, h1, (m2, us2, h2, (m3, us3, h3, (m4, us4, h4, (m5, us5, h5, (m6, us6, h6, (m7, us7, h7, (m8, us8, (n, stmts_to May x.1 m7 us7 n us8 h8, up), h9)))))))))

procedure_from : (May : Limit) (v : Method) (l : ℕ) (us : List Token) (k : ℕ) (r : List Token) → procedure May v l us k r
    → (m : ℕ) × (vs : List Token) × (x : List Param × List Stmt) × specification May v.spec l us m vs × (one_part (method v) ≡ made v.spec v.mods v.result v.name x) × HeadF v.mods v.result v.name x May m vs k r
procedure_from May v l us k r (m, vs, hs, (m1, us1, h1, (m2, us2, h2, (m3, us3, h3, (m4, us4, h4, (m5, us5, h5, (m6, us6, h6, (m7, us7, h7, (m8, us8, (n, h8, up), h9))))))))) =
    let list = stmts_from May v.body m7 us7 n us8 h8 in (
      m,
      vs,
      (v.params, list.0),
      hs,
      ap (λ b. one_part (method (record { spec = v.spec; mods = v.mods; result = v.result; name = v.name; params = v.params; body = b }))) list.1,
      (m1, us1, h1, (m2, us2, h2, (m3, us3, h3, (m4, us4, h4, (m5, us5, h5, (m6, us6, h6, (m7, us7, h7, (m8, us8, (n, list.2, up), h9)))))))),
    )

abbrev pub InvF : Family Written
InvF May w l us k r = (at : ℕ) × (e : Expr) × (w ≡ one_part (invariant at e)) × (one_at (true, terminal.Invariant) at ▸ predicate May e ▸ one (true, terminal.Semicolon)) l us k r

-- clauses and a method
abbrev pub SpecF : Family Written
SpecF May w l us k r = (spec : List Clause) × (clauses May spec ▸ DeclF true spec May w) l us k r

abbrev pub NormF : Family Written
NormF May w = one (true, terminal.NormalBehavior) ▸ SpecF May w

abbrev pub VisF : Family Written
VisF May w l us k r = InvF May w l us k r ⊎ NormF May w l us k r

-- the members, by what stands first
pub data Parted (May : Limit) (w : Written) (l : ℕ) (us : List Token) (k : ℕ) (r : List Token) : Type 0 where
  semicolon : w ≡ empty → one (false, terminal.Semicolon) l us k r → Parted May w l us k r
  visible : (visibility ▸ VisF May w) l us k r → Parted May w l us k r
  condition : InvF May w l us k r → Parted May w l us k r
  behavior : NormF May w l us k r → Parted May w l us k r
  with_clauses : (c : Clause) (cs : List Clause) → (clauses May (c ∷ cs) ▸ DeclF true (c ∷ cs) May w) l us k r → Parted May w l us k r
  without : DeclF false [] May w l us k r → Parted May w l us k r

abbrev pub MemF : Family Written
MemF May w = member May w

method_parted : (May : Limit) (v : Method) (l : ℕ) (us : List Token) (k : ℕ) (r : List Token) → procedure May v l us k r → Parted May (one_part (method v)) l us k r
method_parted May v l us k r h = by v.spec (procedure_from May v l us k r h).0 (procedure_from May v l us k r h).1 (procedure_from May v l us k r h).2 (procedure_from May v l us k r h).3 (procedure_from May v l us k r h).4 (procedure_from May v l us k r h).5
  where
    decl : (specified : Bool) (spec : List Clause) (m : ℕ) (vs : List Token) (x : List Param × List Stmt) → one_part (method v) ≡ made spec v.mods v.result v.name x → HeadF v.mods v.result v.name x May m vs k r → DeclF specified spec May (one_part (method v)) m vs k r
    decl specified spec m vs x is (m1, us1, h1, (m2, us2, h2, (m3, us3, h3, h4))) = (v.mods, v.result, v.name, (m1, us1, h1, (m2, us2, h2, (m3, us3, h3, inl (x, is, h4)))))

    by : (spec : List Clause) (m : ℕ) (vs : List Token) (x : List Param × List Stmt) → specification May spec l us m vs → one_part (method v) ≡ made spec v.mods v.result v.name x → HeadF v.mods v.result v.name x May m vs k r → Parted May (one_part (method v)) l us k r
    by spec m vs x (inl (none, (up, same))) is head_is =
        without (subst (λ (z : List Token). DeclF false [] May (one_part (method v)) l z k r) same (subst (λ (n : ℕ). DeclF false [] May (one_part (method v)) n vs k r) up
        (decl false [] m vs x (is ∙ ap (λ c. made c v.mods v.result v.name x) none) head_is)))
    by spec m vs x (inr (inl (m1, us1, inl (up, same), (m2, us2, h2, h3)))) is head_is =
        behavior (subst (λ (z : List Token). NormF May (one_part (method v)) l z k r) same (subst (λ (n : ℕ). NormF May (one_part (method v)) n us1 k r) up (m2, us2, h2, (spec, (m, vs, h3, decl true spec m vs x is head_is)))))
    by spec m vs x (inr (inl (m1, us1, inr seen, (m2, us2, h2, h3)))) is head_is = visible (m1, us1, seen, inr (m2, us2, h2, (spec, (m, vs, h3, decl true spec m vs x is head_is))))
    by [] m vs x (inr (inr none)) is head_is = absurd none.0
    by (c ∷ cs) m vs x (inr (inr h)) is head_is = with_clauses c cs (m, vs, h, decl true (c ∷ cs) m vs x is head_is)

pub parted_of : (May : Limit) (w : Written) (l : ℕ) (us : List Token) (k : ℕ) (r : List Token) → member May w l us k r → Parted May w l us k r
parted_of May empty l us k r h = semicolon refl h
parted_of May (one_part (invariant at e)) l us k r (m1, us1, inl (up, same), h) =
    condition (
      at,
      e,
      refl,
      subst (λ (z : List Token). (one_at (true, terminal.Invariant) at ▸ predicate May e ▸ one (true, terminal.Semicolon)) l z k r) same
          (subst (λ (n : ℕ). (one_at (true, terminal.Invariant) at ▸ predicate May e ▸ one (true, terminal.Semicolon)) n us1 k r) up h),
    )
parted_of May (one_part (invariant at e)) l us k r (m1, us1, inr seen, h) = visible (m1, us1, seen, inl (at, e, refl, h))
parted_of May (one_part (field mods kind i)) l us k r h = absurd h.0
parted_of May (one_part (method v)) l us k r h = method_parted May v l us k r h
parted_of May (fields mods kind i is) l us k r (m1, us1, h1, (m2, us2, h2, (m3, us3, h3, h4))) =
    let both = method_modifiers mods l us m1 us1 h1 in without (mods, Some kind, i, (m1, us1, both.1, (m2, us2, h2, (m3, us3, h3, inr (kind, is, refl, both.0, refl, refl, h4)))))

-- a specified declaration is a method
pub decl_member : (May : Limit) (spec : List Clause) (w : Written) (l : ℕ) (us : List Token) (m : ℕ) (vs : List Token) (k : ℕ) (r : List Token) → specification May spec l us m vs → DeclF true spec May w m vs k r → member May w l us k r
decl_member May spec w l us m vs k r hs (mods, result, i, (m1, us1, h1, (m2, us2, h2, (m3, us3, h3, inl (x, is, h4))))) =
    subst (λ (v : Written). member May v l us k r) (sym is) (procedure_to May spec mods result i x l us m vs k r hs (m1, us1, h1, (m2, us2, h2, (m3, us3, h3, h4))))
decl_member May spec w l us m vs k r hs (mods, result, i, (m1, us1, h1, (m2, us2, h2, (m3, us3, h3, inr (kind, is, not_specified, no_static, kind_is, w_is, rest))))) = cc

norm_member : (May : Limit) (w : Written) (l : ℕ) (us : List Token) (m1 : ℕ) (us1 : List Token) (k : ℕ) (r : List Token) → maybe visibility l us m1 us1 → NormF May w m1 us1 k r → member May w l us k r
norm_member May w l us m1 us1 k r seen (m2, us2, h2, (spec, (m, vs, h3, d))) = decl_member May spec w l us m vs k r (inr (inl (m1, us1, seen, (m2, us2, h2, h3)))) d

plain_member : (May : Limit) (w : Written) (l : ℕ) (us : List Token) (k : ℕ) (r : List Token) → DeclF false [] May w l us k r → member May w l us k r
plain_member May w l us k r (mods, result, i, (m1, us1, h1, (m2, us2, h2, (m3, us3, h3, inl (x, is, h4))))) =
    subst (λ (v : Written). member May v l us k r) (sym is) (procedure_to May [] mods result i x l us l us k r (inl (refl, (refl, refl))) (m1, us1, h1, (m2, us2, h2, (m3, us3, h3, h4))))
plain_member May w l us k r (mods, result, i, (m1, us1, h1, (m2, us2, h2, (m3, us3, h3, inr (kind, is, not_specified, no_static, kind_is, w_is, h4))))) =
    subst (λ (v : Written). member May v l us k r) (sym w_is)
    (m1, us1, field_modifiers mods l us m1 us1 no_static h1, (m2, us2, subst (λ (o : Option TypeTree). result_of o m1 us1 m2 us2) kind_is h2, (m3, us3, h3, h4)))

pub parted_to : (May : Limit) (w : Written) (l : ℕ) (us : List Token) (k : ℕ) (r : List Token) → Parted May w l us k r → member May w l us k r
parted_to May w l us k r (semicolon is h) = subst (λ (v : Written). member May v l us k r) (sym is) h
parted_to May w l us k r (visible (m1, us1, seen, inl (at, e, is, h))) = subst (λ (v : Written). member May v l us k r) (sym is) (m1, us1, inr seen, h)
parted_to May w l us k r (visible (m1, us1, seen, inr h)) = norm_member May w l us m1 us1 k r (inr seen) h
parted_to May w l us k r (condition (at, e, is, h)) = subst (λ (v : Written). member May v l us k r) (sym is) (l, us, inl (refl, refl), h)
parted_to May w l us k r (behavior h) = norm_member May w l us l us k r (inl (refl, refl)) h
parted_to May w l us k r (with_clauses c cs (m, vs, h, d)) = decl_member May (c ∷ cs) w l us m vs k r (inr (inr h)) d
parted_to May w l us k r (without d) = plain_member May w l us k r d
