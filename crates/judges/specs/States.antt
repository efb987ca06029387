-- A graph beside what its instruction table means, and what calls on them answer.
use Rattle.std.specs.Prelude.{◌≡◌, List, Some, None, Ok, Err, Result, nat_le}
use Rattle.ir.specs.declared.entities.Block.{Block}
use Rattle.table.specs.Table.{Table}
use Rattle.model.specs.declared.fault.GraphFault.{GraphFault}
use Rattle.model.specs.declared.fault.GraphFault.TheVariants.{Unknown}
use Rattle.model.specs.Refusals.{Row, first_among}
use Rattle.model.specs.State.{Graph, State}

abbrev pub state : Graph → Table → State
state g t = record { graph = g; table = t }

-- what a read answers: it is refused by a row, or says something and changes nothing
abbrev pub answered : {A : Type 0} → Row → A → Result A GraphFault
answered None a = Ok a
answered (Some f) a = Err f

-- the first of several blocks that does not exist
abbrev pub unknown_blocks : Graph → List Block → Row
unknown_blocks g bs = first_among (λ b. nat_le g.blocks b.0) (λ b. Unknown b.0) bs

-- at a refusal a table, or a memory, is what it was
abbrev pub Unchanged : {A X : Type 0} → Result A GraphFault → X → X → Type 0
Unchanged (Ok a) before after = Unit {0}
Unchanged (Err f) before after = after ≡ before
