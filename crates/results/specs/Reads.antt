-- What the reads of results answer.
use Rattle.std.specs.Prelude.{Bool, ◌&&◌, List, [], ◌∷◌, length, Some, None, Result, nat_lt, slice_index_or}
use Rattle.ir.specs.declared.entities.Inst.{Inst}
use Rattle.ir.specs.declared.entities.Value.{Value}
use Rattle.model.specs.declared.fault.GraphFault.{GraphFault}
use Rattle.model.specs.declared.fault.GraphFault.TheVariants.{Unknown}
use Rattle.model.specs.Refusals.{Row, first}
use Rattle.model.specs.State.{Graph, no_value, results}
use Rattle.model.specs.Edits.{unknown_inst}
use Rattle.judges.specs.States.{answered}

abbrev pub results_answer : Graph → Inst → Result (List Value) GraphFault
results_answer g i = answered (unknown_inst g i) (results g i)

-- an instruction with no result has no place 0
abbrev pub no_place : List Value → Row
no_place [] = Some (Unknown 0)
no_place (v ∷ vs) = None

abbrev pub first_result_answer : Graph → Inst → Result Value GraphFault
first_result_answer g i = answered (first (unknown_inst g i ∷ no_place (results g i) ∷ [])) (slice_index_or (results g i) 0 no_value)

-- an unknown instruction has none
abbrev pub has_results_answer : Graph → Inst → Bool
has_results_answer g i = nat_lt i.0 g.insts && nat_lt 0 (length (results g i))
