-- What the reads of values and of parameters answer.
use Rattle.std.specs.Prelude.{ℕ, Bool, true, false, not, ◌&&◌, List, [], ◌∷◌, map, length, Some, None, Ok, Err, Option, Result, nat_lt}
use Rattle.ir.specs.declared.entities.Value.{Value}
use Rattle.ir.specs.declared.entities.Block.{Block}
use Rattle.ir.specs.declared.entities.Type.{«Type» as Ty}
use Rattle.ir.specs.declared.value_data.ValueData.{ValueData}
use Rattle.ir.specs.declared.value_data.ValueData.TheVariants.{Inst, Param, Alias, Union}
use Rattle.ir.specs.declared.value_data.ValueDef.{ValueDef}
use Rattle.ir.specs.declared.value_data.ValueDef.TheVariants as of
use Rattle.ir.specs.Packing.{type}
use Rattle.values.specs.Leads.{at, leads_to}
use Rattle.model.specs.declared.fault.GraphFault.{GraphFault}
use Rattle.model.specs.declared.fault.GraphFault.TheVariants.{Retired}
use Rattle.model.specs.Refusals.{Row}
use Rattle.model.specs.State.{Graph, params}
use Rattle.model.specs.Edits.{unknown_block, unknown_values}
use Rattle.judges.specs.States.{answered}

-- a row, and what is answered where it does not hold
abbrev pub unless_refused : {A : Type 0} → Row → Result A GraphFault → Result A GraphFault
unless_refused None r = r
unless_refused (Some f) r = Err f

abbrev pub value_type_answer : Graph → Value → Result Ty GraphFault
value_type_answer g v = answered (unknown_values g (v ∷ [])) (type (at g.defs v))

-- what a value leads to; one that leads nowhere is as good as retired
abbrev pub led : Value → Option Value → Result Value GraphFault
led v None = Err (Retired v.0)
led v (Some r) = Ok r

abbrev pub resolve_answer : Graph → Value → Result Value GraphFault
resolve_answer g v = unless_refused (unknown_values g (v ∷ [])) (led v (leads_to g.defs v))

-- where a value comes from by its definition; an alias comes from nowhere itself
abbrev pub source : ValueData → Option ValueDef
source (Inst ty num inst) = Some (of.Result inst num)
source (Param ty num block) = Some (of.Param block num)
source (Alias ty original) = None
source (Union ty x y) = Some (of.Union x y)

abbrev pub sourced : Value → Option ValueDef → Result ValueDef GraphFault
sourced v None = Err (Retired v.0)
sourced v (Some d) = Ok d

-- where what a value leads to comes from
abbrev pub by_source : Graph → Value → Result Value GraphFault → Result ValueDef GraphFault
by_source g v (Ok r) = sourced v (source (at g.defs r))
by_source g v (Err f) = Err f

abbrev pub value_def_answer : Graph → Value → Result ValueDef GraphFault
value_def_answer g v = by_source g v (resolve_answer g v)

abbrev pub is_alias : ValueData → Bool
is_alias (Inst ty num inst) = false
is_alias (Param ty num block) = false
is_alias (Alias ty original) = true
is_alias (Union ty x y) = false

-- a retired value is an alias, of nothing
abbrev pub alias_answer : Graph → Value → Bool
alias_answer g v = nat_lt v.0 (length g.defs) && is_alias (at g.defs v)

abbrev pub real_answer : Graph → Value → Bool
real_answer g v = nat_lt v.0 (length g.defs) && not (is_alias (at g.defs v))

abbrev pub params_answer : Graph → Block → Result (List Value) GraphFault
params_answer g b = answered (unknown_block g b) (params g b)

abbrev pub num_params_answer : Graph → Block → Result ℕ GraphFault
num_params_answer g b = answered (unknown_block g b) (length (params g b))

abbrev pub param_types_answer : Graph → Block → Result (List Ty) GraphFault
param_types_answer g b = answered (unknown_block g b) (map (λ v. type (at g.defs v)) (params g b))
