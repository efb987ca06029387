use Rattle.defs.specs.Graphs.{graph_of}
use Rattle.results.proofs.Seating.{Seating}
use Rattle.results.proofs.seats.seat_results.Given as goal

abbrev pub invariant-loop-k : goal.invariant-loop-k
invariant-loop-k l =
    Seating (graph_of l.initial.defs) l.inst l.list l.types l.reuse l.k (graph_of l.defs)
