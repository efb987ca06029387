use Rattle.std.proofs.Common.{◌-◌, ap, arith}
use Rattle.store.specs.Held.{held, shown}
use Rattle.store.proofs.Models.{had_size}
use Rattle.store.proofs.Stores.{free_is}
use Rattle.store.proofs.blocks.Blocks.take_hand.Goals as goal

pub record_of-requires : goal.record_of-requires
record_of-requires g c = (had_size (shown (held c.args.self.now)) c.args.class c.requires.some c.requires.had).0

pub take_new-requires-clause-few : goal.take_new-requires-clause-few
take_new-requires-clause-few g c = (had_size (shown (held c.args.self.now)) c.args.class c.requires.some c.requires.had).0

pub take_new-requires-clause-left : goal.take_new-requires-clause-left
unfolding held
take_new-requires-clause-left g c =
    let s = c.args.self.now in
    let e = ap (λ r. r.count) c.record_of.ensures in
    let f = free_is s (c.args.class - 1) in
    (had_size (shown (held s)) c.args.class c.requires.some c.requires.had).1 (omega arith)
