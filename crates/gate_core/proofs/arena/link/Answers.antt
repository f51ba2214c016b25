-- The cell is written with its old node and the old head of its chain.
use Rattle.std.proofs.Common.{◌≡◌, ◌<◌, length, refl, sym, ap, ◌∙◌, arith}
use Rattle.std.specs.Prelude.{Some, slice_get}
use Rattle.std.proofs.lemmas.Option.{slice_get_read, same_Some}
use Rattle.std.proofs.lemmas.List.{get_or_default}
use Rattle.gate_core.specs.declared.arena.Cell.{Cell}
use Rattle.gate_core.specs.Chains.{chain_of}
use Rattle.gate_core.proofs.Links.{linked_cell, unlinked_cell, same_nodes}
use Rattle.gate_core.proofs.arena.link.Goals as goal

pub returns-in-And-clause-nodes : goal.returns-in-And-clause-nodes
returns-in-And-clause-nodes c =
    let cells = c.args.cells.now.items in
    let within : c.args.place < length cells = grind (arith, c.requires.within) in
    same_nodes cells c.args.place (record { node = c.index_mut.result.now.node; next = c.index-in-And.result.now }) c.index_mut.result.now
    (slice_get_read cells (length cells) c.args.place c.index_mut.result.now refl within c.index_mut.ensures.value) refl

pub returns-in-And-clause-chained : goal.returns-in-And-clause-chained
returns-in-And-clause-chained c =
    let cells = c.args.cells.now.items in
    let heads = c.args.heads.now.items in
    let within : c.args.place < length cells = grind (arith, c.requires.within) in
    let old : slice_get cells c.args.place ≡ Some c.index.result.now = slice_get_read cells (length cells) c.args.place c.index.result.now refl within c.index.ensures in
    let same : slice_get cells c.args.place ≡ Some c.index_mut.result.now = slice_get_read cells (length cells) c.args.place c.index_mut.result.now refl within c.index_mut.ensures.value in
    let count : c.len.result ≡ length heads = grind (arith, c.len.ensures) in
    let less : c.chain-chain.result < length heads = grind (arith, c.chain-chain.ensures.within) in
    let is : c.chain-chain.result ≡ chain_of (length heads) c.in-And.a c.in-And.b =
    c.chain-chain.ensures.is ∙ ap (λ n. chain_of n c.in-And.a c.in-And.b) count in
    linked_cell cells heads c.args.place c.chain-chain.result c.in-And.a c.in-And.b
    (record { node = c.index_mut.result.now.node; next = c.index-in-And.result.now }) c.index.result.now c.requires.chained old c.in-And.is
    (ap (λ (x : Cell). x.node) (same_Some c.index_mut.result.now c.index.result.now (sym same ∙ old)))
    (c.index-in-And.ensures ∙ get_or_default heads c.chain-chain.result c.index-in-And.result.now 0 less)
    is less

pub returns-in_default : goal.returns-in_default
returns-in_default c =
    let cells = c.args.cells.now.items in
    let within : c.args.place < length cells = grind (arith, c.requires.within) in
    record {
      nodes = refl;
      count = refl;
      chained = unlinked_cell cells c.args.heads.now.items c.args.place c.index.result.now c.requires.chained
          (slice_get_read cells (length cells) c.args.place c.index.result.now refl within c.index.ensures)
          (λ a b is. c.in_default.not-And a b is);
    }
