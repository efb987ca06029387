-- The graph that the code's data is.
use Rattle.std.specs.Prelude.{◌≡◌, Some, None, Ok, Err, Result}
use Rattle.store.specs.Bank.{bank}
use Rattle.values.specs.Tables.{value_data}
use Rattle.model.specs.declared.fault.GraphFault.{GraphFault}
use Rattle.model.specs.Refusals.{Row}
use Rattle.model.specs.State.{Graph}
use Rattle.defs.specs.declared.state.Defs.{Defs}

abbrev pub graph_of : Defs → Graph
graph_of d =
    record {
      defs = value_data d.values;
      blocks = d.blocks;
      insts = d.insts;
      words = bank d.words;
      labels = d.labels.now;
      starts = bank d.starts;
      limits = record { values = d.values.limit; blocks = d.block_limit; insts = d.inst_limit };
    }

-- what a call answers that only judges
abbrev pub judged : Row → Result (Unit {0}) GraphFault
judged None = Ok tt
judged (Some f) = Err f

-- at a refusal everything is what it was, all lent memory with it
abbrev pub Kept : {A : Type 0} → Result A GraphFault → Defs → Defs → Type 0
Kept (Ok a) before after = Unit {0}
Kept (Err f) before after = after ≡ before
