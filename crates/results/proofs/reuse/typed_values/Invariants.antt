use Rattle.std.proofs.Common.{◌≡◌}
use Rattle.model.specs.Edits.{mistyped}
use Rattle.defs.specs.Graphs.{graph_of}
use Rattle.results.proofs.reuse.typed_values.Given as goal

abbrev pub invariant-loop-ty : goal.invariant-loop-ty
invariant-loop-ty l = mistyped (graph_of l.defs) l.ty-iterator.a.rest.now l.ty-iterator.b.rest.now ≡ mistyped (graph_of l.defs) l.types l.reuse
