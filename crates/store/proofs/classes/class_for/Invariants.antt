use Rattle.std.proofs.Common.{◌≡◌, ◌-◌}
use Rattle.store.specs.Units.{smallest, first_class}
use Rattle.store.proofs.classes.class_for.Given as goal

abbrev pub invariant-loop-class : goal.invariant-loop-class
invariant-loop-class l = first_class (30 - l.class) l.class l.n ≡ smallest l.n
