use Rattle.values.proofs.Reading.{turn}
use Rattle.values.proofs.resolve.resolve.Goals as goal

pub loop-preserved : goal.loop-preserved
loop-preserved c =
    turn c.args.defs.now c.args.v c.loop.place c.loop.counter _ c.entry.result
    c.loop-test.true c.loop.invariant c.entry.ensures c.in-Link.ensures
