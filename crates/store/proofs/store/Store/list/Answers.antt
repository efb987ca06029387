use Rattle.std.proofs.Common.{get_or, take, drop, sym, ap, ◌∙◌, arith}
use Rattle.store.specs.Units.{no_head}
use Rattle.store.specs.Bank.{bank, owned}
use Rattle.store.specs.Held.{held}
use Rattle.store.proofs.Stores.{list_is, list_in}
use Rattle.store.proofs.store.Store.list.Goals as goal

pub part-requires : goal.part-requires
part-requires g c = let b = list_in c.args.self.now.blocks c.args.l in omega arith

pub returns : goal.returns
unfolding bank held owned
returns g c =
    let s = c.args.self.now in
    c.part.ensures ∙ (ap (λ a. take (get_or s.blocks.heads.now c.args.l no_head).len (drop a s.blocks.cells.now)) c.first_cell.ensures ∙ sym (ap (λ o. o.items) (list_is s.blocks c.args.l)))
