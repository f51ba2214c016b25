use Rattle.std.proofs.Common.{ap, ◌∙◌}
use Rattle.indexmap.specs.IndexMap.{get}
use Rattle.declared_names.specs.declared.names.Key.{Key}
use Rattle.declared_names.specs.Firsts.{same_key}
use Rattle.declared_names.specs.Lookups.{place_in}
use Rattle.declared_names.proofs.Firsts.{tells_place}
use Rattle.declared_names.proofs.names.Names.place.Goals as goal

pub returns : goal.returns
returns c =
    let key : Key = record { owner = c.args.owner; name = c.args.name } in
    c.copied.ensures ∙ c.get.ensures.value
    ∙ tells_place (get same_key c.self.inside.firsts) c.self.inside.keys.items key c.self.invariant
    ∙ ap (λ names. place_in names c.args.owner c.args.name.now) c.self.view_is
