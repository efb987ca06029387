use Rattle.std.proofs.Common.{◌≡◌, drop}
use Rattle.store.specs.Bank.{items_of}
use Rattle.model.specs.Edits.{lowered, with_defs}
use Rattle.defs.specs.Graphs.{graph_of}
use Rattle.params.proofs.remove.lower_from.Given as goal

-- lowering the rest comes to what lowering all would
abbrev pub invariant-loop-place : goal.invariant-loop-place
invariant-loop-place l =
    record {
      same_words : (graph_of l.defs).words ≡ (graph_of l.initial.defs).words;
      rest : with_defs (graph_of l.defs) (lowered (graph_of l.defs).defs (drop l.place (items_of (graph_of l.initial.defs).words l.list)))
          ≡ with_defs (graph_of l.initial.defs) (lowered (graph_of l.initial.defs).defs (drop l.from (items_of (graph_of l.initial.defs).words l.list)));
    }
