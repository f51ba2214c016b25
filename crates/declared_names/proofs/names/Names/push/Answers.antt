use Rattle.std.proofs.Common.{◌∷◌, ◌++◌, [], length, ap, ◌∙◌, arith}
use Rattle.indexmap.specs.IndexMap.{get}
use Rattle.declared_names.specs.declared.names.Key.{Key}
use Rattle.declared_names.specs.Firsts.{same_key}
use Rattle.declared_names.proofs.Firsts.{tells_pushed}
use Rattle.declared_names.proofs.names.Names.push.Goals as goal

pub invariant_of-self-2 : goal.invariant_of-self-2
invariant_of-self-2 c =
    let key : Key = record { owner = c.args.owner; name = c.args.name } in
    let same = c.in_ok-reserve.ensures.items in
    tells_pushed (get same_key c.self.inside.firsts) (get same_key c.note_first.new.firsts) c.self.inside.keys.items c.push.new.self.items key c.len.result c.self.invariant c.in_ok-note_first.ensures.noted (omega (arith, ap length same)) (c.in_ok-push.ensures.items ∙ ap (λ keys. keys ++ key ∷ []) same)
