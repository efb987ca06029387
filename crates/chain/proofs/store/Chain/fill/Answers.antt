use Rattle.std.proofs.Common.{length, get_or, refl, arith}
use Rattle.ir.specs.declared.entities.Value.{Value}
use Rattle.table.specs.Table.{no_value}
use Rattle.chain.specs.Links.{Holds}
use Rattle.chain.proofs.Walks.{holds_more, holds_chained, holds_walked}
use Rattle.chain.proofs.Means.{free, inside, put_at, same_then}
use Rattle.chain.proofs.store.Chain.fill.Goals as goal

pub put-requires : goal.put-requires
put-requires c = free c.args.self.now c.loop-k.self _ c.loop-k.k c.requires c.loop-k.invariant.same c.loop-k-test.true

pub loop-k-preserved : goal.loop-k-preserved
loop-k-preserved c =
    let r = c.args.self.now in
    let s = c.loop-k.self in
    let i = c.loop-k.invariant in
    let k = c.loop-k.k in
    let v : Value = get_or c.args.operands.now k no_value in
    record {
      holds = holds_more s.links.now _ r.extent.operand_total k c.args.operands.now v (put_at r s _ k c.requires i.same c.loop-k-test.true v _ c.put.ensures.link) (inside r s _ k c.requires i.same c.loop-k-test.true) refl i.holds;
      same = same_then _ _ _ i.same c.put.ensures.same;
    }

pub returns : goal.returns
returns c =
    let i = c.loop-k.invariant in
    let os = c.args.operands.now in
    let used = c.args.self.now.extent.operand_total in
    let H : Holds c.loop-k.self.links.now used os (length os) = λ j h. i.holds j (omega arith) in
    record { chained = holds_chained _ used (length os) os H; holds = holds_walked _ used (length os) os refl H; same = i.same }
