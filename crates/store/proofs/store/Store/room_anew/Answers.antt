use Rattle.std.proofs.Common.{sym, ap, ◌∙◌, arith}
use Rattle.store.specs.Bank.{bank}
use Rattle.store.specs.Faults.{judged}
use Rattle.store.proofs.Stores.{class_of_is, free_many}
use Rattle.store.proofs.Models.{write_block, own_block, other_block}
use Rattle.store.proofs.store.Store.room_anew.Goals as goal

pub returns-then-class_for-self : goal.returns-then-class_for-self
returns-then-class_for-self g c =
    let s = c.args.self.now in
    let k = class_of_is s c.args.l in
    let f = (s.blocks.filled.1 c.args.l).1 in
    let e = sym c.class_for.ensures ∙ (c.if-class_for-self.true ∙ sym k) in
    sym (ap judged (write_block (bank s) c.args.l c.args.n c.in_ok-find.ensures.within
    ∙ own_block (bank s) c.args.l (free_many s) (omega arith) c.args.n e))

pub returns : goal.returns
returns g c =
    let s = c.args.self.now in
    let k = class_of_is s c.args.l in
    c.room_block.ensures ∙ sym (ap judged (write_block (bank s) c.args.l c.args.n c.in_ok-find.ensures.within
    ∙ other_block (bank s) c.args.l c.args.n (λ e. c.if-class_for-self.false (c.class_for.ensures ∙ (e ∙ k)))))
