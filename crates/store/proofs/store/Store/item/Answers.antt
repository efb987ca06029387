use Rattle.std.proofs.Common.{◌+◌, get_or, sym, ap, ◌∙◌, arith}
use Rattle.store.specs.Units.{no_head}
use Rattle.store.specs.Bank.{bank}
use Rattle.store.proofs.Stores.{len_is, list_in}
use Rattle.store.proofs.Items.{owned_item, list_at}
use Rattle.store.proofs.store.Store.item.Goals as goal

pub cell-requires : goal.cell-requires
cell-requires g c =
    let s = c.args.self.now in
    let b = list_in s.blocks c.args.l in
    let n = len_is s c.args.l in
    omega arith

pub returns : goal.returns
unfolding bank
returns g c =
    let s = c.args.self.now in
    let n = len_is s c.args.l in
    let x = get_or s.blocks.heads.now c.args.l no_head in
    c.cell.ensures ∙ ap (λ a. get_or s.blocks.cells.now (a + c.args.i) c.cell.result) c.first_cell.ensures
    ∙ sym (ap (λ o. get_or o.items c.args.i c.cell.result) (list_at s.blocks.cells.now s.blocks.heads.now c.args.l)
    ∙ owned_item s.blocks.cells.now x c.args.i c.cell.result (omega arith))
