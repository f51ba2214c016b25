-- A cell is pushed behind the others, and put at the head of its chain.
use Rattle.std.proofs.Common.{◌≡◌, ◌+◌, ◌<◌, ◌^◌, length, sym, ap, ◌∙◌, subst, arith}
use Rattle.gate_core.specs.declared.arena.Cell.{Cell}
use Rattle.gate_core.specs.Chains.{nodes_of, IsChained}
use Rattle.std.proofs.lemmas.List.{length-map}
use Rattle.gate_core.proofs.Growth.{chained-push, arena-push}
use Rattle.gate_core.proofs.arena.append.Goals as goal

pub link-requires-clause-chained : goal.link-requires-clause-chained
link-requires-clause-chained c =
    let cells = c.make_room.new.cells.items in
    let heads = c.make_room.new.heads.items in
    let cell : Cell = record { node = c.args.node; next = 0 } in
    let place : c.len-place.result ≡ length cells = grind (arith, c.len-place.ensures) in
    subst (λ n. IsChained c.push.new.self.items heads n) (sym place)
    (subst (λ cs. IsChained cs heads (length cells)) (sym c.in_ok-push.ensures.items)
    (chained-push cells heads cell c.make_room.ensures.arena.chained))

pub returns-clause-arena : goal.returns-clause-arena
returns-clause-arena c =
    let cells = c.make_room.new.cells.items in
    let cell : Cell = record { node = c.args.node; next = 0 } in
    let place : c.len-place.result ≡ length cells = grind (arith, c.len-place.ensures) in
    let before : c.len.result ≡ length c.args.cells.now.items = grind (arith, c.len.ensures) in
    let few : length cells < 2 ^ 31 =
    omega (arith, c.if-len-ge-MOST_NODES.false, length-map cells (λ (x : Cell). x.node), length-map c.args.cells.now.items (λ (x : Cell). x.node), ap length c.make_room.ensures.nodes) in
    arena-push cells c.link.new.cells.items c.make_room.new.heads.items c.link.new.heads.items cell (nodes_of c.args.cells.now.items)
    c.make_room.ensures.arena c.make_room.ensures.nodes c.requires.follows few
    (c.link.ensures.nodes ∙ ap nodes_of c.in_ok-push.ensures.items)
    (subst (λ n. IsChained c.link.new.cells.items c.link.new.heads.items (n + 1)) place c.link.ensures.chained)
