use Rattle.std.proofs.Common.{inl, inr, ◌∙◌, ap}
use Rattle.defs.specs.Graphs.{graph_of, judged}
use Rattle.results.proofs.Each.{typed_done}
use Rattle.results.proofs.reuse.typed_values.Goals as goal

pub returns : goal.returns
returns c =
    typed_done (graph_of c.args.defs.now) _ _ (elim c.in-None.ensures.steps [ inl p ↦ inl p.1.0 | inr p ↦ inr p.1.0 ]) ∙ ap judged c.loop-ty.invariant
