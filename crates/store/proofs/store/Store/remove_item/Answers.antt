use Rattle.std.proofs.Common.{sym, ◌∙◌, arith}
use Rattle.std.specs.List.{remove}
use Rattle.std.proofs.lemmas.List.Edits.{length-remove}
use Rattle.store.specs.Bank.{bank, items_of, removed_at}
use Rattle.store.proofs.Acts.{emptied, shortened_none, shortened_some}
use Rattle.store.proofs.store.Store.remove_item.Goals as goal

pub returns-then-len-eq1 : goal.returns-then-len-eq1
unfolding removed_at
returns-then-len-eq1 g c =
    let s = c.args.self.now in
    let xs = items_of (bank s) c.args.l in
    let e = c.len.ensures in
    let n = length-remove xs c.args.i c.requires.below in
    record { holds = emptied s _ c.args.l c.settle.ensures.holds ∙ sym (shortened_none (bank s) c.args.l (remove xs c.args.i) (omega arith)) }

pub returns-else-len-eq1 : goal.returns-else-len-eq1
unfolding removed_at
returns-else-len-eq1 g c =
    let s = c.args.self.now in
    let xs = items_of (bank s) c.args.l in
    let e = c.len.ensures in
    let n = length-remove xs c.args.i c.requires.below in
    record {
      holds = c.remove_within.ensures.holds ∙ sym (shortened_some (bank s) c.args.l (remove xs c.args.i) (omega arith));
    }
