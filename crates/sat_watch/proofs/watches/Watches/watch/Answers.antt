use Rattle.std.proofs.Common.{◌≡◌, ◌<◌, ◌≤◌, ◌+◌, ◌*◌, ◌∙◌, length, get_or, set, ap, sym, subst, arith, []}
use Rattle.std.proofs.lemmas.List.{get_or_read}
use Rattle.sat_watch.specs.Visit.{state}
use Rattle.sat_watch.specs.Watching.{watch_of, RightBut, CanPair}
use Rattle.sat_watch.proofs.RightLemmas.{right_watched}
use Rattle.sat_watch.proofs.WatchLemmas.{IsWatched, watched_both}
use Rattle.sat_watch.proofs.watches.Watches.watch.Goals as goal

-- what the two calls leave
both : (c : goal.After-thread-2) → IsWatched c.self.inside.clauses.vars c.self.inside.clauses.clauses c.thread-2.new.links.items c.thread-2.new.watched.items c.args.clause
both c =
    let added : c.args.clause < length c.self.inside.clauses.clauses = subst (λ w. c.args.clause < length w.clauses) (sym c.self.view_is) c.requires.added in
    let two : 2 ≤ length (get_or c.self.inside.clauses.clauses c.args.clause []) = (c.self.invariant.clauses c.args.clause added).two in
    let long : length c.clause-lits.result.now ≡ length (get_or c.self.inside.clauses.clauses c.args.clause []) = ap length c.clause-lits.ensures.value in
    let at : 2 * (c.vars.result + 1 + c.args.clause) ≡ 2 * (c.self.inside.clauses.vars + 1 + c.args.clause) = ap (λ n. 2 * (n + 1 + c.args.clause)) c.vars.ensures.value in
    let first : c.number-first.result ≡ get_or (get_or c.self.inside.clauses.clauses c.args.clause []) 0 0 =
    c.number-first.ensures.value ∙ get_or_read c.clause-lits.result.now 0 c.index-lits-0.result (omega arith) c.index-lits-0.is 0 ∙ ap (λ xs. get_or xs 0 0) c.clause-lits.ensures.value in
    let second : c.number-second.result ≡ get_or (get_or c.self.inside.clauses.clauses c.args.clause []) 1 0 =
    c.number-second.ensures.value ∙ get_or_read c.clause-lits.result.now 1 c.index-lits-1.result (omega arith) c.index-lits-1.is 0 ∙ ap (λ xs. get_or xs 1 0) c.clause-lits.ensures.value in
    let free : get_or c.self.inside.watched.items (2 * (c.vars.result + 1 + c.args.clause)) 0 ≡ 0 =
    ap (λ k. get_or c.self.inside.watched.items k 0) at ∙ subst (λ w. get_or w.watched (watch_of w c.args.clause) 0 ≡ 0) (sym c.self.view_is) c.requires.free.0 in
    let free' : get_or c.self.inside.watched.items (2 * (c.vars.result + 1 + c.args.clause) + 1) 0 ≡ 0 =
    ap (λ k. get_or c.self.inside.watched.items (k + 1) 0) at ∙ subst (λ w. get_or w.watched (watch_of w c.args.clause + 1) 0 ≡ 0) (sym c.self.view_is) c.requires.free.1 in
    rw (c.thread-2.ensures.links, c.thread-2.ensures.watched, c.thread.ensures.watched)
    (watched_both c.self.inside.clauses.vars c.self.inside.clauses.clauses c.self.inside.links.items c.self.inside.watched.items c.args.clause (2 * (c.vars.result + 1 + c.args.clause))
    c.number-first.result c.number-second.result c.self.invariant added at free free' first second c.thread.new.links.items c.thread.ensures.links)

pub invariant_of-self : goal.invariant_of-self
invariant_of-self c = (both c).whole

pub returns-clause-first : goal.returns-clause-first
returns-clause-first c = (both c).first

pub returns-clause-second : goal.returns-clause-second
returns-clause-second c = (both c).second

pub returns-clause-right : goal.returns-clause-right
returns-clause-right c = λ t r pair.
    let added : c.args.clause < length c.self.inside.clauses.clauses = subst (λ w. c.args.clause < length w.clauses) (sym c.self.view_is) c.requires.added in
    let two : 2 ≤ length (get_or c.self.inside.clauses.clauses c.args.clause []) = (c.self.invariant.clauses c.args.clause added).two in
    let long : length c.clause-lits.result.now ≡ length (get_or c.self.inside.clauses.clauses c.args.clause []) = ap length c.clause-lits.ensures.value in
    let at : 2 * (c.vars.result + 1 + c.args.clause) ≡ 2 * (c.self.inside.clauses.vars + 1 + c.args.clause) = ap (λ n. 2 * (n + 1 + c.args.clause)) c.vars.ensures.value in
    let first : c.number-first.result ≡ get_or (get_or c.self.inside.clauses.clauses c.args.clause []) 0 0 =
    c.number-first.ensures.value ∙ get_or_read c.clause-lits.result.now 0 c.index-lits-0.result (omega arith) c.index-lits-0.is 0 ∙ ap (λ xs. get_or xs 0 0) c.clause-lits.ensures.value in
    let second : c.number-second.result ≡ get_or (get_or c.self.inside.clauses.clauses c.args.clause []) 1 0 =
    c.number-second.ensures.value ∙ get_or_read c.clause-lits.result.now 1 c.index-lits-1.result (omega arith) c.index-lits-1.is 0 ∙ ap (λ xs. get_or xs 1 0) c.clause-lits.ensures.value in
    let written : c.thread-2.new.watched.items ≡ set (set c.self.inside.watched.items (2 * (c.self.inside.clauses.vars + 1 + c.args.clause)) (get_or (get_or c.self.inside.clauses.clauses c.args.clause []) 0 0))
    (2 * (c.self.inside.clauses.vars + 1 + c.args.clause) + 1) (get_or (get_or c.self.inside.clauses.clauses c.args.clause []) 1 0) =
    c.thread-2.ensures.watched ∙ ap (λ ws. set ws (2 * (c.vars.result + 1 + c.args.clause) + 1) c.number-second.result) c.thread.ensures.watched
    ∙ ap (λ k. set (set c.self.inside.watched.items k c.number-first.result) (k + 1) c.number-second.result) at
    ∙ ap (λ x. set (set c.self.inside.watched.items (2 * (c.self.inside.clauses.vars + 1 + c.args.clause)) x) (2 * (c.self.inside.clauses.vars + 1 + c.args.clause) + 1) c.number-second.result) first
    ∙ ap (λ x. set (set c.self.inside.watched.items (2 * (c.self.inside.clauses.vars + 1 + c.args.clause)) (get_or (get_or c.self.inside.clauses.clauses c.args.clause []) 0 0)) (2 * (c.self.inside.clauses.vars + 1 + c.args.clause) + 1) x) second in
    right_watched (state c.self.inside.clauses c.self.inside.watched.items) t c.args.clause (get_or (get_or c.self.inside.clauses.clauses c.args.clause []) 0 0) (get_or (get_or c.self.inside.clauses.clauses c.args.clause []) 1 0)
    c.thread-2.new.watched.items (subst (λ w. RightBut c.args.clause w t) (sym c.self.view_is) r)
    (subst (λ w. CanPair t (get_or (get_or w.clauses c.args.clause []) 0 0) (get_or (get_or w.clauses c.args.clause []) 1 0)) (sym c.self.view_is) pair)
    written (omega (arith, c.self.invariant.paired, c.self.invariant.linked)) (both c).first (both c).second
