use Rattle.table.proofs.Driven.{part_more}
use Rattle.table.proofs.drive.answer_alike.Goals as goal

pub loop-call-preserved : goal.loop-call-preserved
loop-call-preserved g c =
    let E = c.apply_both-alike.ensures in
    part_more _ _ _ _ _ _ _ _ _ _ _ c.loop-call-test.true c.loop-call.invariant E.says E.left E.right
