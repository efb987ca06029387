use Rattle.std.proofs.Common.{◌≡◌, drop}
use Rattle.model.specs.Edits.{repeated, reused}
use Rattle.results.proofs.reuse.named_once.Given as goal

abbrev pub invariant-loop-k : goal.invariant-loop-k
invariant-loop-k l = repeated (reused (drop l.k l.reuse)) ≡ repeated (reused l.reuse)
