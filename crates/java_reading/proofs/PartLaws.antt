-- The laws of clauses, parameters, and what stands behind the name of a method or a field.
use Rattle.std.proofs.Common.{◌≡◌, ◌⊎◌, ℕ, ◌+◌, Bool, true, false, not, List, [], ◌∷◌, Option, Some, None, refl, sym, ap, ◌∙◌, subst, inl, inr, codes}
use Rattle.java_lex.specs.declared.spelling.Terminal.{Terminal}
use Rattle.java_lex.specs.declared.spelling.Terminal.TheVariants as terminal
use Rattle.java_lex.specs.declared.token.Token.{Token}
use Rattle.java_tree.specs.declared.names.Ident.{Ident}
use Rattle.java_tree.specs.declared.names.Modifier.{Modifier}
use Rattle.java_tree.specs.declared.names.TypeTree.{TypeTree}
use Rattle.java_tree.specs.declared.names.TypeTree.TheVariants.{Int, Flag, Class as class_type}
use Rattle.java_tree.specs.Trees.{Expr, local, Exprs, Clause, needs, gives, Param}
use Rattle.java_tree.specs.Phrases.{Limit, Letter, ◌▸◌, letter, one, name, closed, nothing, where_}
use Rattle.java_tree.specs.Expressions.{predicate}
use Rattle.java_tree.specs.Statements.{is_local_modifier, type_of}
use Rattle.java_tree.specs.Members.{parameter, more_parameters, parameters, more_names, clause, clauses}
use Rattle.reading_core.specs.Read.{Read, Got, Bad, Deep, at_side}
use Rattle.java_reading.specs.declared.marks.Fixed.{Fixed}
use Rattle.java_reading.specs.declared.marks.Fixed.TheVariants.{OpenParen, CloseParen, Semicolon, Comma}
use Rattle.java_reading.specs.Readers.{Reader, head, give, second, and_then, optional, repeat}
use Rattle.java_reading.specs.Tokens.{is_fixed, terminal_of_fixed, fixed, name_in, at_head, next_is}
use Rattle.java_reading.specs.Forms.{begins_statement}
use Rattle.java_reading.specs.Expressions.{goes_on, extends}
use Rattle.java_reading.specs.StatementReading.{modifiers_in, type_in}
use Rattle.java_reading.specs.MemberReading.{is_clause, is_requires, clause_word_in, clause_of, clause_in, clauses_in, parameter_in, more_parameters_in, not_close, listed, parameters_in, names_in}
use Rattle.java_reading.proofs.Law.{Family, Extends, never, any, Sample, Exact, Law}
use Rattle.java_reading.proofs.Seq.{seq, seq_law, seq_sample}
use Rattle.java_reading.proofs.Parts.{Decided, token_by, token_law, give_law, give_sample, same_law}
use Rattle.java_reading.proofs.Many.{each, many_law, optional_of, optional_law, May_be}
use Rattle.java_reading.proofs.TokenLaws.{fixed_sample, name_law, name_sample, one_head, on_is, on_side, word_at}
use Rattle.java_reading.proofs.Shapes.{then_it, it_then, then_fixed, fixed_then, then_fixed_sample}
use Rattle.java_reading.proofs.ModifierLaws.{MF, MX, TF, TypeToken, allowed_head, modifiers_law, type_law, type_sample, type_head}
use Rattle.java_reading.proofs.DeclarationLaws.{next_at, local_plain}
use Rattle.java_reading.proofs.Beginnings.{local_fits, fits_some, some_begins, no_statement, head_form}

-- THE LEVELS OF A PART END WITH IT

abbrev pub closed_of : {A : Type 0} → Family A → Family A
closed_of p May a = closed (p May a)

pub closed_law : (A : Type 0) (p : Family A) (X S : Extends A) (l : ℕ) (ts : List Token) (o : Read A) → Law A p X S l ts o → Law A (closed_of p) X S l ts o
closed_law A p X S l ts (Got a rest) law = record {
  front = law.front;
  parts = law.parts;
  plain = law.plain;
  sound = λ May allows c. (l, law.sound May allows c, refl);
  stop = law.stop;
  only = λ May c h b k r parse. elim (law.only May c h b parse.0 r parse.1) [ inl e ↦ inl (e.0, parse.2, e.2) | inr x ↦ inr x ];
}
closed_law A p X S l ts (Bad rest) law = record {
  front = law.front;
  parts = law.parts;
  plain = law.plain;
  before = record { more = law.before.more; tree = law.before.tree; is = λ May c allows. (l, law.before.is May c allows, refl) };
  only = λ May c h b k r parse. law.only May c h b parse.0 r parse.1;
}
closed_law A p X S l ts (Deep rest) law = record {
  front = law.front;
  at = law.at;
  behind = law.behind;
  here = law.here;
  parts = law.parts;
  plain = law.plain;
  before = record { more = law.before.more; tree = law.before.tree; is = λ May c allows. (l, law.before.is May c allows, refl) };
  only = λ May c stops b k r parse. law.only May c stops b parse.0 r parse.1;
  more = law.more;
  tree = law.tree;
  deeper = λ May c all. (l, law.deeper May c all, refl);
}

pub closed_sample : (A : Type 0) (p : Family A) (l : ℕ) → Sample A p l → Sample A (closed_of p) l
closed_sample A p l s = record { tokens = s.tokens; tree = s.tree; is = λ May c frees. (l, s.is May c frees, refl) }

-- CLAUSES

abbrev pub PF : Family Expr
PF May e = predicate May e

abbrev pub PX : Extends Expr
PX e h = extends true h ≡ true

pub no_jml_extension : (x : Fixed) → goes_on (terminal_of_fixed x) ≡ false → (h : Option Token) → at_head true h ≡ terminal_of_fixed x → extends true h ≡ true → ⊥
no_jml_extension x ends h is so = let e : goes_on (terminal_of_fixed x) ≡ true = ap goes_on (sym is) ∙ so in cc

abbrev clause_terminal : Bool → Terminal
clause_terminal true = terminal.Requires
clause_terminal false = terminal.Ensures

abbrev WordToken : Bool × ℕ → Token → Type 0
WordToken w t = (letter t ≡ (true, clause_terminal w.0)) × (t.from ≡ w.1)

word_is : (y : Terminal) → is_clause y ≡ true → (t : Token) → at_side true t ≡ y → letter t ≡ (true, clause_terminal (is_requires y))
word_is terminal.Requires e t is = on_is true (letter t) terminal.Requires is (λ f. cc)
word_is terminal.Ensures e t is = on_is true (letter t) terminal.Ensures is (λ f. cc)
word_is y e t is = absurd (cc)

pair_of : (b b' : Bool) (m n : ℕ) → b ≡ b' → m ≡ n → ◌≡◌ {A = Bool × ℕ} (b, m) (b', n)
pair_of b b' m n e f = subst (λ (z : Bool). ◌≡◌ {A = Bool × ℕ} (b, m) (z, n)) e (ap (λ (z : ℕ). (b, z)) f)

word_means : (b : Bool) (at : ℕ) (t : Token) → WordToken (b, at) t → (is_clause (at_side true t) ≡ true) × (◌≡◌ {A = Bool × ℕ} (b, at) (is_requires (at_side true t), t.from))
word_means true at t (is, from) = let f : at_side true t ≡ terminal.Requires = on_side true (letter t) terminal.Requires is in (ap is_clause f, pair_of true (is_requires (at_side true t)) at t.from (sym (ap is_requires f)) (sym from))
word_means false at t (is, from) = let f : at_side true t ≡ terminal.Ensures = on_side true (letter t) terminal.Ensures is in (ap is_clause f, pair_of false (is_requires (at_side true t)) at t.from (sym (ap is_requires f)) (sym from))

clause_no_end : (b : Bool) → clause_terminal b ≡ terminal.End → ⊥
clause_no_end true e = cc
clause_no_end false e = cc

word_decided : Decided (Bool × ℕ) WordToken (λ t. is_clause (at_side true t)) (λ t. (is_requires (at_side true t), t.from))
word_decided = record {
  is = λ t e. (word_is (at_side true t) e t refl, refl);
  means = λ w t e. word_means w.0 w.1 t e;
  example = word_at true (codes "requires");
  works = refl;
  plain = λ t e end. clause_no_end (is_requires (at_side true t)) (sym (ap (λ (z : Letter). z.1) (word_is (at_side true t) e t refl)) ∙ end);
}

abbrev WF : Family (Bool × ℕ)
WF = token_by WordToken

abbrev pub ClauseF : Family Clause
ClauseF May c = clause May c

abbrev pub begins_clause : Option Token → Bool
begins_clause h = is_clause (at_head true h)

pub clause_first : (May : Limit) (c : Clause) (l : ℕ) (us : List Token) (k : ℕ) (r : List Token) → ClauseF May c l us k r → begins_clause (head us) ≡ true
clause_first May (needs at e) l us k r (m, mid, (t, is, parts, up), h') = ap (λ v. begins_clause (head v)) parts ∙ ap is_clause (on_side true (letter t) terminal.Requires is.0)
clause_first May (gives at e) l us k r (m, mid, (t, is, parts, up), h') = ap (λ v. begins_clause (head v)) parts ∙ ap is_clause (on_side true (letter t) terminal.Ensures is.0)

module _ (expression : ℕ → Reader Expr) (arguments : ℕ → Reader Exprs) (predicate_in : ℕ → Reader Expr)
    (predicate_law : (left l : ℕ) → l + left ≡ 64 → Exact Expr PF PX any l (predicate_in left)) (predicate_sample : (l : ℕ) → Sample Expr PF l) (left l : ℕ) (sum : l + left ≡ 64) where
  -- a predicate and its `;`
  abbrev pub EndedF : Family (Expr × Unit {0})
  EndedF = then_it true Semicolon refl (λ e. cc) PF

  pub ended_law : Exact (Expr × Unit {0}) EndedF never any l (λ ts. and_then (predicate_in left ts) (λ e. fixed true Semicolon))
  ended_law = then_fixed true Semicolon refl (λ e. cc) Expr PF PX any (λ e h x is. no_jml_extension Semicolon refl h is x) l (predicate_in left) (predicate_law left l sum)

  pub ended_sample : (m : ℕ) → Sample (Expr × Unit {0}) EndedF m
  ended_sample m = then_fixed_sample true Semicolon refl (λ e. cc) Expr PF m (predicate_sample m)

  abbrev WholeF : Family ((Bool × ℕ) × (Expr × Unit {0}))
  WholeF = seq WF (λ w. EndedF)

  clause_to : (May : Limit) (b : Bool) (at : ℕ) (x : Expr × Unit {0}) (m : ℕ) (us : List Token) (k : ℕ) (r : List Token) → WholeF May ((b, at), x) m us k r → clause May (clause_of b at x.0) m us k r
  clause_to May true at x m us k r h = h
  clause_to May false at x m us k r h = h

  clause_back : (May : Limit) (c : Clause) (us : List Token) (k : ℕ) (r : List Token) → clause May c l us k r → (x : (Bool × ℕ) × (Expr × Unit {0})) × (c ≡ clause_of x.0.0 x.0.1 x.1.0) × WholeF May x l us k r
  clause_back May (needs at e) us k r h = (((true, at), (e, tt)), refl, h)
  clause_back May (gives at e) us k r h = (((false, at), (e, tt)), refl, h)

  pub clause_law : Exact Clause ClauseF never any l (clause_in expression arguments predicate_in left)
  clause_law ts =
      give_law ((Bool × ℕ) × (Expr × Unit {0})) Clause WholeF never any ClauseF never any (λ x. clause_of x.0.0 x.0.1 x.1.0) (λ May x m us k r h. clause_to May x.0.0 x.0.1 x.1 m us k r h) (λ x h none. none) (λ x h s. tt) l ts
      (and_then (clause_word_in ts) (λ w ts. and_then (predicate_in left ts) (λ e. fixed true Semicolon))) (λ May c us k r same h. inl (clause_back May c us k r h))
      (seq_law (Bool × ℕ) (Expr × Unit {0}) WF never any (λ w. EndedF) (λ w. never) (λ w. any) (λ w. ended_sample) (λ w May x m us k r h none. none) l ts (clause_word_in ts)
      (token_law (Bool × ℕ) WordToken (λ t. is_clause (at_side true t)) (λ t. (is_requires (at_side true t), t.from)) word_decided l ts) (λ w ts. and_then (predicate_in left ts) (λ e. fixed true Semicolon)) (λ w mid got. ended_law mid))

  abbrev pub ClausesF : Family (List Clause)
  ClausesF May cs = clauses May cs

  abbrev pub ClausesX : Extends (List Clause)
  ClausesX cs h = (begins_clause h ≡ true) ⊎ ⊥

  clauses_to : (May : Limit) (cs : List Clause) (m : ℕ) (us : List Token) (k : ℕ) (r : List Token) → each ClauseF May cs m us k r → clauses May cs m us k r
  clauses_to May [] m us k r h = h
  clauses_to May (c ∷ cs) m us k r (m1, us1, h, h') = (m1, us1, h, clauses_to May cs m1 us1 k r h')

  clauses_from : (May : Limit) (cs : List Clause) (m : ℕ) (us : List Token) (k : ℕ) (r : List Token) → clauses May cs m us k r → each ClauseF May cs m us k r
  clauses_from May [] m us k r h = h
  clauses_from May (c ∷ cs) m us k r (m1, us1, h, h') = (m1, us1, h, clauses_from May cs m1 us1 k r h')

  pub clauses_law : Exact (List Clause) ClausesF ClausesX any l (clauses_in expression arguments predicate_in left)
  clauses_law ts =
      same_law (List Clause) (each ClauseF) ClausesF ClausesX any clauses_to clauses_from l ts (clauses_in expression arguments predicate_in left ts)
      (many_law Clause ClauseF never any begins_clause (λ h. ⊥) clause_first (λ c h none. none) (λ h none e. none) refl l (clause_in expression arguments predicate_in left) clause_law ts)

-- PARAMETERS

abbrev pub ParamF : Family Param
ParamF May p = parameter p

abbrev TypedF : Family (TypeTree × Ident)
TypedF = seq TF (λ kind May i. name false i)

-- a type is no modifier
pub type_no_modifier : (allowed : Letter → Bool) → allowed (false, terminal.Int) ≡ false → allowed (false, terminal.Boolean) ≡ false → allowed (false, terminal.Name) ≡ false
    → (kind : TypeTree) (m : ℕ) (us : List Token) (k : ℕ) (r : List Token) → type_of kind m us k r → allowed_head allowed (head us) ≡ true → ⊥
type_no_modifier allowed no_int no_flag no_name kind m us k r h e = by kind (type_head kind m us k r h)
  where
    by : (kind : TypeTree) → (t : Token) × (head us ≡ Some t) × TypeToken kind t → ⊥
    by Int (t, is, its) = let f : true ≡ false = sym e ∙ ap (allowed_head allowed) is ∙ ap allowed its ∙ no_int in cc
    by Flag (t, is, its) = let f : true ≡ false = sym e ∙ ap (allowed_head allowed) is ∙ ap allowed its ∙ no_flag in cc
    by (class_type i) (t, is, its) = let f : true ≡ false = sym e ∙ ap (allowed_head allowed) is ∙ ap allowed its.0 ∙ no_name in cc

pub parameter_law : (l : ℕ) → Exact Param ParamF never any l parameter_in
parameter_law l ts =
    give_law (List Modifier × (TypeTree × Ident)) Param (seq (MF is_local_modifier) (λ mods. TypedF)) never any ParamF never any (λ x. record { mods = x.0; kind = x.1.0; name = x.1.1 }) (λ May x m us k r h. h) (λ x h none. none) (λ x h s. tt) l ts
    (and_then (modifiers_in is_local_modifier ts) (λ mods ts. and_then (type_in ts) (λ kind. name_in false))) (λ May p us k r same h. inl ((p.mods, (p.kind, p.name)), refl, h))
    (seq_law (List Modifier) (TypeTree × Ident) (MF is_local_modifier) (MX is_local_modifier) any (λ mods. TypedF) (λ mods. never) (λ mods. any) (λ mods m. seq_sample TypeTree Ident TF (λ kind May i. name false i) m (type_sample m) (λ kind. name_sample false m))
    (λ mods May x m us k r h e. type_no_modifier is_local_modifier refl refl refl x.0 m us h.0 h.1 h.2 e) l ts (modifiers_in is_local_modifier ts) (modifiers_law is_local_modifier local_plain l ts) (λ mods ts. and_then (type_in ts) (λ kind. name_in false))
    (λ mods mid got. seq_law TypeTree Ident TF never any (λ kind May i. name false i) (λ kind. never) (λ kind. any) (λ kind. name_sample false) (λ kind May i m us k r h none. none) l mid (type_in mid) (type_law l mid) (λ kind. name_in false) (λ kind mid' got'. name_law false l mid')))

pub parameter_sample : (m : ℕ) → Sample Param ParamF m
parameter_sample m =
    give_sample (TypeTree × Ident) Param TypedF ParamF (λ x. record { mods = []; kind = x.0; name = x.1 }) m (λ May x us k r h. (m, us, ([], refl, refl, refl, refl), h)) (seq_sample TypeTree Ident TF (λ kind May i. name false i) m (type_sample m) (λ kind. name_sample false m))

-- a parameter does not begin with `)`
parameter_begins : (May : Limit) (p : Param) (m : ℕ) (us : List Token) (k : ℕ) (r : List Token) → ParamF May p m us k r → begins_statement (head us) ≡ true
parameter_begins May p m us k r (m1, us1, (front, parts, all, mods_is, up), (m2, us2, h, h')) = some_begins (head us) (fits_some (local p.mods p.kind []) (head_form (head us)) (local_fits May p.mods p.mods p.kind [] m1 us m2 us2 front us1 parts all h))

abbrev CommaF : Family Param
CommaF May p = one (false, terminal.Comma) ▸ parameter p

abbrev comma_in : Reader Param
comma_in ts = second (and_then (fixed false Comma ts) (λ u. parameter_in))

comma_law : (l : ℕ) → Exact Param CommaF never any l comma_in
comma_law l ts =
    give_law (Unit {0} × Param) Param (it_then false Comma refl (λ e. cc) ParamF) never any CommaF never any (λ x. x.1) (λ May x m us k r h. h) (λ x h none. none) (λ x h s. tt) l ts (and_then (fixed false Comma ts) (λ u. parameter_in))
    (λ May p us k r same h. inl ((tt, p), refl, h)) (fixed_then false Comma refl (λ e. cc) Param ParamF never any parameter_sample l parameter_in (parameter_law l) ts)

comma_first : (May : Limit) (p : Param) (m : ℕ) (us : List Token) (k : ℕ) (r : List Token) → CommaF May p m us k r → next_is false Comma (head us) ≡ true
comma_first May p m us k r (m1, us1, h, h') = ap (is_fixed Comma) (one_head false terminal.Comma m us m1 us1 h)

abbrev pub CommaX : {A : Type 0} → Extends (List A)
CommaX ps h = (next_is false Comma h ≡ true) ⊎ ⊥

params_to : (May : Limit) (ps : List Param) (m : ℕ) (us : List Token) (k : ℕ) (r : List Token) → each CommaF May ps m us k r → more_parameters ps m us k r
params_to May [] m us k r h = h
params_to May (p ∷ ps) m us k r (m1, us1, (m2, us2, h, h'), rest) = (m2, us2, h, (m1, us1, h', params_to May ps m1 us1 k r rest))

params_from : (May : Limit) (ps : List Param) (m : ℕ) (us : List Token) (k : ℕ) (r : List Token) → more_parameters ps m us k r → each CommaF May ps m us k r
params_from May [] m us k r h = h
params_from May (p ∷ ps) m us k r (m2, us2, h, (m1, us1, h', rest)) = (m1, us1, (m2, us2, h, h'), params_from May ps m1 us1 k r rest)

abbrev MoreF : Family (List Param)
MoreF May ps = more_parameters ps

more_law : (l : ℕ) → Exact (List Param) MoreF CommaX any l more_parameters_in
more_law l ts =
    same_law (List Param) (each CommaF) MoreF CommaX any params_to params_from l ts (more_parameters_in ts) (many_law Param CommaF never any (next_is false Comma) (λ h. ⊥) comma_first (λ p h none. none) (λ h none e. none) refl l comma_in (comma_law l) ts)

-- one parameter or more
abbrev SomeF : Family (List Param)
SomeF May [] = where_ ⊥ nothing
SomeF May (p ∷ ps) = parameter p ▸ more_parameters ps

abbrev some_in : Reader (List Param)
some_in ts = give (λ x. x.0 ∷ x.1) (and_then (parameter_in ts) (λ p. more_parameters_in))

some_law : (l : ℕ) → Exact (List Param) SomeF CommaX any l some_in
some_law l ts =
    give_law (Param × List Param) (List Param) (seq ParamF (λ p. MoreF)) (λ x. CommaX x.1) (λ x h. Unit {0}) SomeF CommaX any (λ x. x.0 ∷ x.1) (λ May x m us k r h. h) (λ x h e. e) (λ x h s. tt) l ts
    (and_then (parameter_in ts) (λ p. more_parameters_in)) (λ May ps us k r same h. inl (back May ps us k r h))
    (seq_law Param (List Param) ParamF never any (λ p. MoreF) (λ p. CommaX) (λ p. any) (λ p m. record { tokens = []; tree = []; is = λ May c frees. (refl, refl) }) (λ p May ps m us k r h none. absurd none) l ts (parameter_in ts) (parameter_law l ts)
    (λ p. more_parameters_in) (λ p mid got. more_law l mid))
  where
    back : (May : Limit) (ps : List Param) (us : List Token) (k : ℕ) (r : List Token) → SomeF May ps l us k r → (x : Param × List Param) × (ps ≡ x.0 ∷ x.1) × seq ParamF (λ p. MoreF) May x l us k r
    back May [] us k r h = absurd h.0
    back May (p ∷ ps) us k r h = ((p, ps), refl, h)

begins_open : (h : Option Token) → begins_statement h ≡ true → not_close h ≡ true
begins_open h is = by (next_is false CloseParen h) refl
  where
    by : (b : Bool) → next_is false CloseParen h ≡ b → not b ≡ true
    by true e = absurd (no_statement terminal.CloseParen (λ f. cc) refl h (next_at false CloseParen h e) is)
    by false e = refl

some_first : (May : Limit) (ps : List Param) (m : ℕ) (us : List Token) (k : ℕ) (r : List Token) → SomeF May ps m us k r → not_close (head us) ≡ true
some_first May [] m us k r h = absurd h.0
some_first May (p ∷ ps) m us k r (m1, us1, h, h') = begins_open (head us) (parameter_begins May p m us m1 us1 h)

abbrev pub ParamsF : Family (List Param)
ParamsF May ps = parameters ps

abbrev pub ParamsX : Extends (List Param)
ParamsX ps h = (not_close h ≡ true) ⊎ (next_is false Comma h ≡ true)

pub parameters_law : (l : ℕ) → Exact (List Param) ParamsF ParamsX any l parameters_in
parameters_law l ts =
    give_law (Option (List Param)) (List Param) (optional_of SomeF) (May_be (List Param) SomeF CommaX any not_close some_first l) any ParamsF ParamsX any listed to grows (λ x h s. tt) l ts (optional not_close some_in ts) (λ May ps us k r same h. inl (back May ps us k r h))
    (optional_law (List Param) SomeF CommaX any not_close some_first l some_in (some_law l) ts)
  where
    to : (May : Limit) (o : Option (List Param)) (m : ℕ) (us : List Token) (k : ℕ) (r : List Token) → optional_of SomeF May o m us k r → parameters (listed o) m us k r
    to May None m us k r h = h
    to May (Some []) m us k r h = absurd h.0
    to May (Some (p ∷ ps)) m us k r h = h

    grows : (o : Option (List Param)) (h : Option Token) → May_be (List Param) SomeF CommaX any not_close some_first l o h → ParamsX (listed o) h
    grows None h e = inl e
    grows (Some ps) h (inl e) = inr e
    grows (Some ps) h (inr none) = absurd none

    back : (May : Limit) (ps : List Param) (us : List Token) (k : ℕ) (r : List Token) → parameters ps l us k r → (o : Option (List Param)) × (ps ≡ listed o) × optional_of SomeF May o l us k r
    back May [] us k r h = (None, refl, h)
    back May (p ∷ ps) us k r h = (Some (p ∷ ps), refl, h)

pub paren_closes : (ps : List Param) (h : Option Token) → ParamsX ps h → at_head false h ≡ terminal.CloseParen → ⊥
paren_closes ps h (inl e) is = let f : false ≡ true = sym (ap (λ y. not (is_fixed CloseParen y)) is) ∙ e in cc
paren_closes ps h (inr e) is = let f : terminal.Comma ≡ terminal.CloseParen = sym (next_at false Comma h e) ∙ is in cc

-- FIELDS

abbrev CommaNameF : Family Ident
CommaNameF May i = one (false, terminal.Comma) ▸ name false i

abbrev pub NamesF : Family (List Ident)
NamesF May is = more_names is ▸ one (false, terminal.Semicolon)

abbrev comma_name_in : Reader Ident
comma_name_in ts = second (and_then (fixed false Comma ts) (λ u. name_in false))

comma_name_law : (l : ℕ) → Exact Ident CommaNameF never any l comma_name_in
comma_name_law l ts =
    give_law (Unit {0} × Ident) Ident (it_then false Comma refl (λ e. cc) (λ May i. name false i)) never any CommaNameF never any (λ x. x.1) (λ May x m us k r h. h) (λ x h none. none) (λ x h s. tt) l ts (and_then (fixed false Comma ts) (λ u. name_in false))
    (λ May i us k r same h. inl ((tt, i), refl, h)) (fixed_then false Comma refl (λ e. cc) Ident (λ May i. name false i) never any (name_sample false) l (name_in false) (name_law false l) ts)

comma_name_first : (May : Limit) (i : Ident) (m : ℕ) (us : List Token) (k : ℕ) (r : List Token) → CommaNameF May i m us k r → next_is false Comma (head us) ≡ true
comma_name_first May i m us k r (m1, us1, h, h') = ap (is_fixed Comma) (one_head false terminal.Comma m us m1 us1 h)

names_to : (May : Limit) (is : List Ident) (m : ℕ) (us : List Token) (k : ℕ) (r : List Token) → each CommaNameF May is m us k r → more_names is m us k r
names_to May [] m us k r h = h
names_to May (i ∷ is) m us k r (m1, us1, (m2, us2, h, h'), rest) = (m2, us2, h, (m1, us1, h', names_to May is m1 us1 k r rest))

names_from : (May : Limit) (is : List Ident) (m : ℕ) (us : List Token) (k : ℕ) (r : List Token) → more_names is m us k r → each CommaNameF May is m us k r
names_from May [] m us k r h = h
names_from May (i ∷ is) m us k r (m2, us2, h, (m1, us1, h', rest)) = (m1, us1, (m2, us2, h, h'), names_from May is m1 us1 k r rest)

abbrev MoreNamesF : Family (List Ident)
MoreNamesF May is = more_names is

more_names_law : (l : ℕ) → Exact (List Ident) MoreNamesF CommaX any l (repeat (next_is false Comma) comma_name_in)
more_names_law l ts =
    same_law (List Ident) (each CommaNameF) MoreNamesF CommaX any names_to names_from l ts (repeat (next_is false Comma) comma_name_in ts)
    (many_law Ident CommaNameF never any (next_is false Comma) (λ h. ⊥) comma_name_first (λ i h none. none) (λ h none e. none) refl l comma_name_in (comma_name_law l) ts)

names_close : (is : List Ident) (h : Option Token) → CommaX is h → at_head false h ≡ terminal.Semicolon → ⊥
names_close is h (inl e) at = let f : terminal.Comma ≡ terminal.Semicolon = sym (next_at false Comma h e) ∙ at in cc
names_close is h (inr none) at = none

pub names_law : (l : ℕ) → Exact (List Ident) NamesF never any l names_in
names_law l ts =
    give_law (List Ident × Unit {0}) (List Ident) (then_it false Semicolon refl (λ e. cc) MoreNamesF) never any NamesF never any (λ x. x.0) (λ May x m us k r h. h) (λ x h none. none) (λ x h s. tt) l ts
    (and_then (repeat (next_is false Comma) comma_name_in ts) (λ is. fixed false Semicolon)) (λ May is us k r same h. inl ((is, tt), refl, h))
    (then_fixed false Semicolon refl (λ e. cc) (List Ident) MoreNamesF CommaX any names_close l (repeat (next_is false Comma) comma_name_in) (more_names_law l) ts)

pub names_sample : (m : ℕ) → Sample (List Ident) NamesF m
names_sample m = give_sample (Unit {0}) (List Ident) (λ May u. one (false, terminal.Semicolon)) NamesF (λ u. []) m (λ May u us k r h. (m, us, (refl, refl), h)) (fixed_sample false Semicolon refl (λ e. cc) m)

-- what stands behind the name of fields
pub names_head : (May : Limit) (is : List Ident) (m : ℕ) (us : List Token) (k : ℕ) (r : List Token) → NamesF May is m us k r → next_is false OpenParen (head us) ≡ true → ⊥
names_head May [] m us k r (m1, us1, (up, same), h) open_is =
    let e : terminal.Semicolon ≡ terminal.OpenParen = sym (one_head false terminal.Semicolon m1 us1 k r h) ∙ ap (λ v. at_head false (head v)) same ∙ next_at false OpenParen (head us) open_is in cc
names_head May (i ∷ is) m us k r (m1, us1, (m2, us2, h, h'), h2) open_is = let e : terminal.Comma ≡ terminal.OpenParen = sym (one_head false terminal.Comma m us m2 us2 h) ∙ next_at false OpenParen (head us) open_is in cc
