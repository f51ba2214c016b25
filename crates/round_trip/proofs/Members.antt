-- Members, classes and texts, printed and read again.
use Rattle.std.proofs.Common.{◌≡◌, inl, inr, ℕ, zero, suc, true, false, List, [], ◌∷◌, ◌++◌, map, refl, sym, ◌∙◌, ap, subst, append_assoc}
use Rattle.std.specs.Prelude.{Option, Some, None, option_map}
use Rattle.std.specs.List.{flat_map}
use Rattle.java_lex.specs.declared.token.Token.{Token}
use Rattle.java_lex.specs.declared.words.TheConstants.{COMMA}
use Rattle.java_tree.specs.declared.names.Ident.{Ident}
use Rattle.java_tree.specs.declared.names.Modifier.{Modifier}
use Rattle.java_tree.specs.declared.names.TypeTree.{TypeTree}
use Rattle.java_tree.specs.declared.names.TypeTree.TheVariants.{Int, Flag, Class as class_type}
use Rattle.java_tree.specs.Trees.{Stmts, Clause, needs, gives, Param, Method, Part, invariant, field, method, Class, Classes}
use Rattle.java_tree.specs.Phrases.{Letter, Phrase, ◌▸◌, nothing, either, maybe, many, times, one, name}
use Rattle.java_tree.specs.Statements.{is_local_modifier, modifiers, type_of}
use Rattle.java_tree.specs.Members.{is_class_modifier, is_modifier, is_method_modifier, visibility, parameter, more_parameters, parameters, result_of, Written, empty, one_part, fields, parts_of, more_names, dotted, package_line, import_line, clause, clauses, some_clauses, specification, procedure, part, member, members, class_body, class, classes, unit}
use Rattle.java_tree.specs.Reading.{within}
use Rattle.java_tree.specs.Print.{Word, word, symbol, type_text, clause_written, param_written, params_written, result_text, method_written, part_written, class_written, tree_written, modifiers_written}
use Rattle.round_trip.specs.Bare.{bare_name, bare_modifier, bare_type, bare_clause, bare_parameter, bare_method, bare_part, bare_class, bare_classes, bare_statements}
use Rattle.round_trip.proofs.Spells.{Known}
use Rattle.round_trip.proofs.Redo.{Redo, Again, thens, closes, recast, given, nothing_again, fixed, placed, name_again, two, three, redo_thens, redo_recast, redo_fixed, known_rest}
use Rattle.round_trip.proofs.Fixed.{open_paren, close_paren, semicolon, comma, open_brace, close_brace, class_word, void_word, requires_word, ensures_word, invariant_word}
use Rattle.round_trip.proofs.Expressions.{predicate_again}
use Rattle.round_trip.proofs.Modifiers.{modifiers_again}
use Rattle.round_trip.proofs.Statements.{type_again, statements_again}

-- WHAT IS NOT PRINTED

-- a phrase that opens no level, behind which the tokens are known as before it
pub record Skips (p : Phrase) : Type 0 where
  pub skip : (l : ℕ) (ts : List Token) (k : ℕ) (rest : List Token) → Known ts → p l ts k rest → Known rest × (k ≡ l)

skip_one : {x : Letter} → Skips (one x)
skip_one = record { skip = λ l ts k rest known (t, is, parts, level). ((known_rest ts rest t parts known).1, level) }

skip_nothing : Skips nothing
skip_nothing = record { skip = λ l ts k rest known (level, parts). (subst Known (sym parts) known, level) }

skip_thens : {p q : Phrase} → Skips p → Skips q → Skips (p ▸ q)
skip_thens f g = record {
  skip = λ l ts k rest known (m, mid, x, y).
      let (known', same) = f.skip l ts m mid known x in
      let (known'', same') = g.skip m mid k rest known' y in
      (known'', same' ∙ same);
}

skip_either : {p q : Phrase} → Skips p → Skips q → Skips (either p q)
skip_either {p} {q} f g = record { skip = skips }
  where
    skips : (l : ℕ) (ts : List Token) (k : ℕ) (rest : List Token) → Known ts → either p q l ts k rest → Known rest × (k ≡ l)
    skips l ts k rest known (inl x) = f.skip l ts k rest known x
    skips l ts k rest known (inr y) = g.skip l ts k rest known y

skip_maybe : {p : Phrase} → Skips p → Skips (maybe p)
skip_maybe f = skip_either skip_nothing f

skip_many : {p : Phrase} → Skips p → Skips (many p)
skip_many {p} f = record { skip = λ l ts k rest known (n, x). times_ n l ts k rest known x }
  where
    times_ : (n l : ℕ) (ts : List Token) (k : ℕ) (rest : List Token) → Known ts → times n p l ts k rest → Known rest × (k ≡ l)
    times_ zero l ts k rest known x = skip_nothing.skip l ts k rest known x
    times_ (suc n) l ts k rest known (m, mid, x, y) =
        let (known', same) = f.skip l ts m mid known x in
        let (known'', same') = times_ n m mid k rest known' y in
        (known'', same' ∙ same)

-- what is not printed, and then what is
behind : {A : Type 0} {W : List Word} {p r : Phrase} {q : A → Phrase} {S : A → Type 0} → Skips p → Again A W r q S → Again A W (p ▸ r) q S
behind {A} {W} {p} {r} {q} {S} f g = record {
  again = λ l ts k rest known (m, mid, x, y).
      let (known', same) = f.skip l ts m mid known x in
      let (known'', redo) = g.again m mid k rest known' y in
      (known'', subst (λ (n : ℕ). Redo A W q S n k) same redo);
}

skip_visibility : Skips visibility
skip_visibility = skip_either skip_one (skip_either skip_one skip_one)

skip_dotted : Skips dotted
skip_dotted = skip_thens skip_one (skip_many (skip_thens skip_one skip_one))

skip_package : Skips package_line
skip_package = skip_thens skip_one (skip_thens skip_dotted skip_one)

skip_import : Skips import_line
skip_import = skip_thens skip_one (skip_thens (skip_maybe skip_one) (skip_thens skip_dotted (skip_thens (skip_maybe (skip_thens skip_one skip_one)) skip_one)))

-- CLAUSES

abbrev SameClauses : List Clause → List Clause → Type 0
SameClauses cs ds = map bare_clause ds ≡ map bare_clause cs

clause_again : (c : Clause) → Again Clause (clause_written c) (clause within c) (clause within) (λ d. bare_clause d ≡ bare_clause c)
clause_again (needs at e) =
    recast (thens (placed requires_word at) (thens (predicate_again e) (fixed (semicolon true)))) (λ x. needs x.0 x.1.0) refl (λ x s. ap (λ b. needs 0 b) s.1.0) (λ x s l ts k rest y. y)
clause_again (gives at e) =
    recast (thens (placed ensures_word at) (thens (predicate_again e) (fixed (semicolon true)))) (λ x. gives x.0 x.1.0) refl (λ x s. ap (λ b. gives 0 b) s.1.0) (λ x s l ts k rest y. y)

clauses_again : (cs : List Clause) → Again (List Clause) (flat_map clause_written cs) (clauses within cs) (clauses within) (SameClauses cs)
clauses_again [] = recast nothing_again (λ u. []) refl (λ u s. refl) (λ u s l ts k rest y. y)
clauses_again (c ∷ cs) = recast (thens (clause_again c) (clauses_again cs)) (λ x. x.0 ∷ x.1) refl (λ x s. two (λ d ds. d ∷ ds) s.0 s.1) (λ x s l ts k rest y. y)

-- clauses alone are a specification
specified : (cs : List Clause) (l : ℕ) (ts : List Token) (k : ℕ) (rest : List Token) → clauses within cs l ts k rest → specification within cs l ts k rest
specified [] l ts k rest x = inl (refl, x)
specified (c ∷ cs) l ts k rest x = inr (inr x)

specification_again : (cs : List Clause) → Again (List Clause) (flat_map clause_written cs) (specification within cs) (specification within) (SameClauses cs)
specification_again cs = record { again = by }
  where
    alone : Again (List Clause) (flat_map clause_written cs) (clauses within cs) (specification within) (SameClauses cs)
    alone = recast (clauses_again cs) (λ ds. ds) refl (λ ds s. s) (λ ds s l ts k rest y. specified ds l ts k rest y)

    some : (ds : List Clause) (l : ℕ) (ts : List Token) (k : ℕ) (rest : List Token) → some_clauses within ds l ts k rest → clauses within ds l ts k rest
    some [] l ts k rest x = absurd x.0
    some (d ∷ ds) l ts k rest x = x

    none : (ds : List Clause) (l : ℕ) (ts : List Token) (k : ℕ) (rest : List Token) → ds ≡ [] → nothing l ts k rest → clauses within ds l ts k rest
    none [] l ts k rest is x = x
    none (d ∷ ds) l ts k rest is x = absurd (cc)

    by : (l : ℕ) (ts : List Token) (k : ℕ) (rest : List Token) → Known ts → specification within cs l ts k rest → Known rest × Redo (List Clause) (flat_map clause_written cs) (specification within) (SameClauses cs) l k
    by l ts k rest known (inl (is, x)) = alone.again l ts k rest known (none cs l ts k rest is x)
    by l ts k rest known (inr (inl x)) = (behind (skip_maybe skip_visibility) (behind skip_one alone)).again l ts k rest known x
    by l ts k rest known (inr (inr x)) = alone.again l ts k rest known (some cs l ts k rest x)

-- METHODS

parameter_again : (p : Param) → Again Param (param_written p) (parameter p) parameter (λ q. bare_parameter q ≡ bare_parameter p)
parameter_again p =
    recast (thens (modifiers_again is_local_modifier p.mods) (thens (type_again p.kind) (name_again false p.name))) (λ x. record { mods = x.0; kind = x.1.0; name = x.1.1 }) (simp append_assoc)
    (λ x s. three (λ m t n. record { mods = m; kind = t; name = n }) s.0 s.1.0 s.1.1) (λ x s l ts k rest y. y)

abbrev SameParameters : List Param → List Param → Type 0
SameParameters ps qs = map bare_parameter qs ≡ map bare_parameter ps

more_parameters_again : (ps : List Param) → Again (List Param) (flat_map (λ q. symbol false COMMA.now ++ param_written q) ps) (more_parameters ps) more_parameters (SameParameters ps)
more_parameters_again [] = recast nothing_again (λ u. []) refl (λ u s. refl) (λ u s l ts k rest y. y)
more_parameters_again (p ∷ ps) =
    recast (thens (fixed (comma false)) (thens (parameter_again p) (more_parameters_again ps))) (λ x. x.1.0 ∷ x.1.1) refl (λ x s. two (λ q qs. q ∷ qs) s.1.0 s.1.1) (λ x s l ts k rest y. y)

parameters_again : (ps : List Param) → Again (List Param) (params_written ps) (parameters ps) parameters (SameParameters ps)
parameters_again [] = recast nothing_again (λ u. []) refl (λ u s. refl) (λ u s l ts k rest y. y)
parameters_again (p ∷ ps) = recast (thens (parameter_again p) (more_parameters_again ps)) (λ x. x.0 ∷ x.1) refl (λ x s. two (λ q qs. q ∷ qs) s.0 s.1) (λ x s l ts k rest y. y)

result_again : (r : Option TypeTree) → Again (Option TypeTree) (word false (result_text r)) (result_of r) result_of (λ t. option_map bare_type t ≡ option_map bare_type r)
result_again None = recast (fixed void_word) (λ u. None) refl (λ u s. refl) (λ u s l ts k rest y. y)
result_again (Some t) = recast (type_again t) (λ u. Some u) refl (λ u s. ap (λ v. Some v) s) (λ u s l ts k rest y. y)

abbrev method_of : List Clause → List Modifier → Option TypeTree → Ident → List Param → Stmts → Method
method_of spec mods result i params body = record { spec = spec; mods = mods; result = result; name = i; params = params; body = body }

-- equal parts make equal methods
same_method : (m n : Method) → map bare_clause n.spec ≡ map bare_clause m.spec → map bare_modifier n.mods ≡ map bare_modifier m.mods → option_map bare_type n.result ≡ option_map bare_type m.result → bare_name n.name ≡ bare_name m.name
    → map bare_parameter n.params ≡ map bare_parameter m.params → bare_statements n.body ≡ bare_statements m.body → bare_method n ≡ bare_method m
same_method m n a b c d e f = cc

method_again : (m : Method) → Again Method (method_written m) (procedure within m) (procedure within) (λ n. bare_method n ≡ bare_method m)
method_again m =
    recast
    (thens (specification_again m.spec) (thens (modifiers_again is_method_modifier m.mods) (thens (result_again m.result) (thens (name_again false m.name)
    (thens (fixed (open_paren false)) (thens (parameters_again m.params) (thens (fixed (close_paren false)) (thens (fixed open_brace) (thens (closes (statements_again m.body)) (fixed close_brace))))))))))
    (λ x. method_of x.0 x.1.0 x.1.1.0 x.1.1.1.0 x.1.1.1.1.1.0 x.1.1.1.1.1.1.1.1.0)
    (simp append_assoc)
    (λ x s. same_method m (method_of x.0 x.1.0 x.1.1.0 x.1.1.1.0 x.1.1.1.1.1.0 x.1.1.1.1.1.1.1.1.0) s.0 s.1.0 s.1.1.0 s.1.1.1.0 s.1.1.1.1.1.0 s.1.1.1.1.1.1.1.1.0)
    (λ x s l ts k rest y. y)

-- MEMBERS

abbrev SamePart : Part → Part → Type 0
SamePart p q = bare_part q ≡ bare_part p

part_again : (p : Part) → Again Part (part_written p) (part within p) (part within) (SamePart p)
part_again (invariant at e) =
    behind (skip_maybe skip_visibility) (recast (thens (placed invariant_word at) (thens (predicate_again e) (fixed (semicolon true)))) (λ x. invariant x.0 x.1.0) refl (λ x s. ap (λ b. invariant 0 b) s.1.0)
    (λ x s l ts k rest y. (l, ts, inl (refl, refl), y)))
part_again (field mods k i) = given (λ no. absurd no)
part_again (method m) = recast (method_again m) (λ n. method n) refl (λ n s. ap (λ b. method b) s) (λ n s l ts k rest y. y)

-- the parts of members, written and without places
abbrev written_of : List Written → List Word
written_of ws = flat_map part_written (flat_map parts_of ws)

abbrev SameMembers : List Part → List Written → Type 0
SameMembers ps vs = map bare_part (flat_map parts_of vs) ≡ map bare_part ps

-- members whose parts these are
abbrev RedoParts : List Part → ℕ → ℕ → Type 0
RedoParts ps l k = Redo (List Written) (flat_map part_written ps) (members within) (SameMembers ps) l k

-- a field's declaration, by what it is made of
one_field : (mods : List Modifier) (t : TypeTree) (i : Ident) (l : ℕ) → Redo (List Modifier) (modifiers_written mods) (modifiers is_modifier) (λ ns. map bare_modifier ns ≡ map bare_modifier mods) l l
    → Redo TypeTree (word false (type_text t)) type_of (λ u. bare_type u ≡ bare_type t) l l → Redo Ident (word false i.text) (λ j. name false j) (λ j. bare_name j ≡ bare_name i) l l
    → Redo Written (part_written (field mods t i)) (member within) (λ v. map bare_part (parts_of v) ≡ bare_part (field mods t i) ∷ []) l l
one_field mods t i l m r n =
    redo_recast (redo_thens m (redo_thens r (redo_thens n (redo_fixed (semicolon false) l)))) (λ x. fields x.0 x.1.0 x.1.1.0 []) (simp append_assoc)
    (λ x s. ap (λ p. p ∷ []) (three (λ a b c. field a b c) s.0 s.1.0 s.1.1.0))
    (λ x s l ts k rest (a, b, c, (d, e, f, (g, h, j, o))). (a, b, c, (d, e, f, (g, h, j, (g, h, (refl, refl), o)))))

-- a member and others behind it
and_parts : (p : Part) (ps : List Part) (l m k : ℕ) → Redo Written (part_written p) (member within) (λ v. map bare_part (parts_of v) ≡ bare_part p ∷ []) l m → RedoParts ps m k → RedoParts (p ∷ ps) l k
and_parts p ps l m k f g =
    redo_recast (redo_thens f g) (λ x. x.0 ∷ x.1) refl
    (λ x s. map_parts (parts_of x.0) (flat_map parts_of x.1) ∙ two (λ a b. a ++ b) s.0 s.1)
    (λ x s l ts k rest y. y)
  where
    map_parts : (ps qs : List Part) → map bare_part (ps ++ qs) ≡ map bare_part ps ++ map bare_part qs
    map_parts [] qs = refl
    map_parts (p ∷ ps) qs = ap (λ rs. bare_part p ∷ rs) (map_parts ps qs)

-- the names behind the first, each with a declaration of its own; f: what stands behind the declaration
names_again : (mods : List Modifier) (t : TypeTree) (is : List Ident) (l : ℕ) (ts : List Token) (m : ℕ) (mid : List Token) → Redo (List Modifier) (modifiers_written mods) (modifiers is_modifier) (λ ns. map bare_modifier ns ≡ map bare_modifier mods) l l
    → Redo TypeTree (word false (type_text t)) type_of (λ u. bare_type u ≡ bare_type t) l l → Known ts → more_names is l ts m mid
    → Known mid × (m ≡ l) × ((ps : List Part) (k : ℕ) → RedoParts ps l k → RedoParts (map (field mods t) is ++ ps) l k)
names_again mods t [] l ts m mid a b known (level, parts) = (subst Known (sym parts) known, level, λ ps k f. f)
names_again mods t (i ∷ is) l ts m mid a b known (m1, mid1, (c, c_is, c_parts, c_level), (m2, mid2, n, more)) =
    let known1 = (known_rest ts mid1 c c_parts known).1 in
    let n' = subst (λ (v : ℕ). name false i v mid1 m2 mid2) c_level n in
    let (known2, redo) = (name_again false i).again l mid1 m2 mid2 known1 n' in
    let up : m2 ≡ l = n'.3 in
    let redo' = subst (λ (v : ℕ). Redo Ident (word false i.text) (λ j. name false j) (λ j. bare_name j ≡ bare_name i) l v) up redo in
    let (known3, up3, rest) = names_again mods t is l mid2 m mid a b known2 (subst (λ (v : ℕ). more_names is v mid2 m mid) up more) in
    (known3, up3, λ ps k f. and_parts (field mods t i) (map (field mods t) is ++ ps) l l k (one_field mods t i l a b redo') (rest ps k f))

type_level : (t : TypeTree) (l : ℕ) (ts : List Token) (k : ℕ) (rest : List Token) → type_of t l ts k rest → k ≡ l
type_level Int l ts k rest x = x.3
type_level Flag l ts k rest x = x.3
type_level (class_type i) l ts k rest x = x.3

members_again : (ws : List Written) → Again (List Written) (written_of ws) (members within ws) (members within) (SameMembers (flat_map parts_of ws))
members_again [] = recast nothing_again (λ u. []) refl (λ u s. refl) (λ u s l ts k rest y. y)
members_again (empty ∷ ws) = behind skip_one (members_again ws)
members_again (one_part p ∷ ws) = record {
  again = λ l ts k rest known (m, mid, x, y).
      let (known', f) = (part_again p).again l ts m mid known x in
      let (known'', g) = (members_again ws).again m mid k rest known' y in
      (known'', and_parts p (flat_map parts_of ws) l m k (redo_recast f (λ q. one_part q) refl (λ q s. ap (λ r. r ∷ []) s) (λ q s l ts k rest y. y)) g);
}
members_again (fields mods t i is ∷ ws) = record { again = by (members_again ws) }
  where
    by : Again (List Written) (written_of ws) (members within ws) (members within) (SameMembers (flat_map parts_of ws))
        → (l : ℕ) (ts : List Token) (k : ℕ) (rest : List Token) → Known ts → members within (fields mods t i is ∷ ws) l ts k rest → Known rest × RedoParts (flat_map parts_of (fields mods t i is ∷ ws)) l k
    by behind_again l ts k rest known (m, mid, (m1, mid1, xm, (m2, mid2, xt, (m3, mid3, xn, (m4, mid4, xs, (c, c_is, c_parts, c_level))))), y) =
        let (known1, a) = (modifiers_again is_modifier mods).again l ts m1 mid1 known xm in
        let a' = subst (λ (v : ℕ). Redo (List Modifier) (modifiers_written mods) (modifiers is_modifier) (λ ns. map bare_modifier ns ≡ map bare_modifier mods) l v) xm.4 a in
        let xt' = subst (λ (v : ℕ). type_of t v mid1 m2 mid2) xm.4 xt in
        let (known2, b) = (type_again t).again l mid1 m2 mid2 known1 xt' in
        let up2 = type_level t l mid1 m2 mid2 xt' in
        let b' = subst (λ (v : ℕ). Redo TypeTree (word false (type_text t)) type_of (λ u. bare_type u ≡ bare_type t) l v) up2 b in
        let xn' = subst (λ (v : ℕ). name false i v mid2 m3 mid3) up2 xn in
        let (known3, n) = (name_again false i).again l mid2 m3 mid3 known2 xn' in
        let n' = subst (λ (v : ℕ). Redo Ident (word false i.text) (λ j. name false j) (λ j. bare_name j ≡ bare_name i) l v) xn'.3 n in
        let (known4, up4, go) = names_again mods t is l mid3 m4 mid4 a' b' known3 (subst (λ (v : ℕ). more_names is v mid3 m4 mid4) xn'.3 xs) in
        let known5 = (known_rest mid4 mid c c_parts known4).1 in
        let (known6, g) = behind_again.again m mid k rest known5 y in
        let g' = subst (λ (v : ℕ). RedoParts (flat_map parts_of ws) v k) (c_level ∙ up4) g in
        (known6, and_parts (field mods t i) (map (field mods t) is ++ flat_map parts_of ws) l l k (one_field mods t i l a' b' n') (go (flat_map parts_of ws) k g'))

-- CLASSES

body_again : (ps : List Part) → Again (List Part) (flat_map part_written ps) (class_body within ps) (class_body within) (λ qs. map bare_part qs ≡ map bare_part ps)
body_again ps = record {
  again = λ l ts k rest known (ws, is, x).
      let (known', f) = (members_again ws).again l ts k rest known x in (
        known',
        redo_recast f (λ vs. flat_map parts_of vs) (ap (λ qs. flat_map part_written qs) (sym is)) (λ vs s. s ∙ ap (λ qs. map bare_part qs) (sym is)) (λ vs s l ts k rest y. (vs, refl, y)),
      );
}

class_again : (c : Class) → Again Class (class_written c) (class within c) (class within) (λ d. bare_class d ≡ bare_class c)
class_again c =
    recast
    (thens (modifiers_again is_class_modifier c.mods) (thens (fixed class_word) (thens (name_again false c.name) (thens (fixed open_brace) (thens (body_again c.members) (fixed close_brace))))))
    (λ x. record { mods = x.0; name = x.1.1.0; members = x.1.1.1.1.0 }) (simp append_assoc)
    (λ x s. three (λ m n b. record { mods = m; name = n; members = b }) s.0 s.1.1.0 s.1.1.1.1.0) (λ x s l ts k rest y. y)

abbrev SameClasses : Classes → Classes → Type 0
SameClasses cs ds = bare_classes ds ≡ bare_classes cs

classes_again : (cs : Classes) → Again Classes (tree_written cs) (classes within cs) (classes within) (SameClasses cs)
classes_again [] = recast nothing_again (λ u. []) refl (λ u s. refl) (λ u s l ts k rest y. y)
classes_again (c ∷ cs) = recast (thens (class_again c) (classes_again cs)) (λ x. x.0 ∷ x.1) refl (λ x s. two (λ d ds. d ∷ ds) s.0 s.1) (λ x s l ts k rest y. y)

-- one class or more
unit_of : (c : Class) (cs ds : Classes) → SameClasses (c ∷ cs) ds → (l : ℕ) (ts : List Token) (k : ℕ) (rest : List Token) → classes within ds l ts k rest → unit within ds l ts k rest
unit_of c cs [] s l ts k rest y = absurd (cc)
unit_of c cs (d ∷ ds) s l ts k rest y = (l, ts, inl (refl, refl), (l, ts, (zero, (refl, refl)), y))

pub unit_again : (cs : Classes) → Again Classes (tree_written cs) (unit within cs) (unit within) (SameClasses cs)
unit_again [] = given (λ no. absurd no)
unit_again (c ∷ cs) = behind (skip_maybe skip_package) (behind (skip_many skip_import) (recast (classes_again (c ∷ cs)) (λ ds. ds) refl (λ ds s. s) (λ ds s l ts k rest y. unit_of c cs ds s l ts k rest y)))
