-- The relation is put behind the others.
use Rattle.std.proofs.Common.{◌≡◌, ℕ, List, ◌∷◌, [], None, map, subst, sym, ap, ◌∙◌}
use Rattle.std.proofs.lemmas.List.{map-append}
use Rattle.rel_core.specs.declared.relation.RelVar.{RelVar}
use Rattle.rel_gates.specs.declared.named.Entry.{Entry}
use Rattle.rel_gates.specs.Shown.{gates_of}
use Rattle.rel_gates.specs.Naming.{IsOnce}
use Rattle.rel_gates.proofs.AllNamed.{once_more}
use Rattle.rel_gates.proofs.named.Relations.push.Goals as goal

pub invariant_of-self-2 : goal.invariant_of-self-2
invariant_of-self-2 c =
    let old = c.self.inside.entries.items in
    let entry : Entry = record { relation = c.args.relation; gates = c.args.gates } in
    let seen : Entry → RelVar × List ℕ = λ e. (e.relation, e.gates.items) in
    subst IsOnce (sym (ap (map seen) c.in_ok-push.ensures.items ∙ map-append seen old (entry ∷ [])))
    (once_more (map seen old) c.args.relation c.args.gates.items c.self.invariant (subst (λ es. gates_of es c.args.relation ≡ None) (sym c.self.view_is) c.requires.new))
