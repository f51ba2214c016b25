use Rattle.std.proofs.Common.{rules, ◌≡◌, ℕ, Bool, true, false, List, ◌∷◌, Bor, Option, Some, None, sym, ◌∙◌, ap, subst}
use Rattle.std.specs.Prelude.{Result, Err}
use Rattle.java_lex.specs.declared.token.Token.{Token}
use Rattle.reading_core.specs.declared.stop.Stop.{Stop}
use Rattle.reading_core.specs.Deeper.{Level, deeper}
use Rattle.reading_core.specs.Gives.{Gives}
use Rattle.reading_core.specs.Read.{Read, Got, Deep, expect, is_close, is_open, ◌>>=◌ as ◌⟫◌}
use Rattle.expression_reading.specs.Levels.{level_of, within_left}
use Rattle.expression_reading.specs.Parts.{empty_in}
use Rattle.expression_reading.specs.Reading.{Below}
use Rattle.expression_reading.proofs.Gathered.{gives_bind}
use Rattle.expression_reading.proofs.brackets.empty.Goals as goal

-- on either side
none_left : (side : Bool) (left : ℕ) → within_left false left ≡ None → within_left true left ≡ None → within_left side left ≡ None
none_left false left code clause = code
none_left true left code clause = clause

some_left : (side : Bool) (left less : ℕ) → within_left false left ≡ Some (level_of false less) → within_left true left ≡ Some (level_of true less) → within_left side left ≡ Some (level_of side less)
some_left false left less code clause = code
some_left true left less code clause = clause

-- what stands behind the `(`
behind_in : Bool → Option (Level Below) → Token → List Token → Read (Unit {0})
behind_in side level t rest = deeper level (t ∷ rest) rest (λ b. expect (is_close side) rest ⟫ (λ _ rest'. Got (tt {0}) rest'))

opened : (side : Bool) (left : ℕ) (t : Token) (ts rest : List Token) (level : Option (Level Below)) → expect (is_open side) ts ≡ Got t rest → within_left side left ≡ level → empty_in side left ts ≡ behind_in side level t rest
unfolding behind_in
opened side left t ts rest level open_ is = ap (λ (r : Read Token). r ⟫ (λ t rest. behind_in side (within_left side left) t rest)) open_ ∙ ap (λ l. behind_in side l t rest) is

pub returns-in_default : goal.returns-in_default
unfolding behind_in
returns-in_default c =
    opened c.args.jml c.args.left c.in_ok-_open._open.now c.args.tokens.now c.in_ok-_open.rest.now None c.in_ok-_open.ensures.reads (none_left c.args.jml c.args.left c.in_default.ensures.code c.in_default.ensures.clause)
    ∙ ap Deep (sym c.in_ok-_open.ensures.parts)

some_opened : (c : goal.After-from_residual-in_err-_close) → empty_in c.args.jml c.args.left c.args.tokens.now ≡ expect (is_close c.args.jml) c.in_ok-_open.rest.now ⟫ (λ _ rest'. Got (tt {0}) rest')
unfolding behind_in
some_opened c =
    opened c.args.jml c.args.left c.in_ok-_open._open.now c.args.tokens.now c.in_ok-_open.rest.now (Some (level_of c.args.jml c.in-Some._less)) c.in_ok-_open.ensures.reads
    (some_left c.args.jml c.args.left c.in-Some._less c.in-Some.ensures.code c.in-Some.ensures.clause)

pub returns-in_err-_close : goal.returns-in_err-_close
returns-in_err-_close c =
    let same : c.from_residual-in_err-_close.result ≡ Err c.in_err-_close.field-0.0 = search rules in
    subst (λ (r : Result (Unit {0} × Bor (List Token)) Stop). Gives (λ _. tt {0}) r (empty_in c.args.jml c.args.left c.args.tokens.now)) (sym same)
    (subst (λ (r : Read (Unit {0})). Gives {T = Unit {0}} (λ _. tt {0}) (Err c.in_err-_close.field-0.0) r) (sym (some_opened c))
    (gives_bind (λ (t : Bor Token). t.now) (λ (u : Unit {0}). tt {0}) (expect (is_close c.args.jml) c.in_ok-_open.rest.now) _ c.in_err-_close.field-0.0 c.in_err-_close.ensures.reads))

pub returns : goal.returns
unfolding behind_in
returns c =
    opened c.args.jml c.args.left c.in_ok-_open._open.now c.args.tokens.now c.in_ok-_open.rest.now (Some (level_of c.args.jml c.in-Some._less)) c.in_ok-_open.ensures.reads
    (some_left c.args.jml c.args.left c.in-Some._less c.in-Some.ensures.code c.in-Some.ensures.clause)
    ∙ ap (λ (r : Read Token). r ⟫ (λ _ rest'. Got (tt {0}) rest')) c.in_ok-_close.ensures.reads
