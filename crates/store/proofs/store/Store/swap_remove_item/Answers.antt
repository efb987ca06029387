use Rattle.std.proofs.Common.{sym, ◌∙◌, arith}
use Rattle.store.specs.Bank.{bank, items_of, swap_removed_at, swapped_out}
use Rattle.store.proofs.Acts.{emptied, shortened_none, shortened_some, swapped_length}
use Rattle.store.proofs.store.Store.swap_remove_item.Goals as goal

pub returns-then-n-eq1 : goal.returns-then-n-eq1
unfolding swap_removed_at
returns-then-n-eq1 g c =
    let s = c.args.self.now in
    let xs = items_of (bank s) c.args.l in
    let e = c.len-n.ensures in
    let n = swapped_length xs c.args.i c.requires.below in
    record { holds = emptied s _ c.args.l c.settle.ensures.holds ∙ sym (shortened_none (bank s) c.args.l (swapped_out xs c.args.i) (omega arith)) }

pub returns-else-n-eq1 : goal.returns-else-n-eq1
unfolding swap_removed_at
returns-else-n-eq1 g c =
    let s = c.args.self.now in
    let xs = items_of (bank s) c.args.l in
    let e = c.len-n.ensures in
    let n = swapped_length xs c.args.i c.requires.below in
    record {
      holds = c.swap_remove_within.ensures.holds ∙ sym (shortened_some (bank s) c.args.l (swapped_out xs c.args.i) (omega arith));
    }
