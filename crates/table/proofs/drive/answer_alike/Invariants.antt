use Rattle.std.proofs.Common.{drop}
use Rattle.table.proofs.Driven.{Part}
use Rattle.table.proofs.drive.answer_alike.Given as goal

abbrev pub invariant-loop-call : goal.invariant-loop-call
invariant-loop-call g l =
    Part l.calls (drop l.call-index l.calls) l.alike (g.L.InstTable.meaning l.initial.left) (g.R.InstTable.meaning l.initial.right) (g.L.InstTable.meaning l.left) (g.R.InstTable.meaning l.right)
