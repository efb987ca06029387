-- What a definition says of where a value comes from.
use Rattle.std.specs.Prelude.{ℕ, Some, None, Option}
use Rattle.ir.specs.declared.entities.Inst.{Inst}
use Rattle.ir.specs.declared.entities.Block.{Block}
use Rattle.ir.specs.declared.value_data.ValueData.{ValueData}
use Rattle.ir.specs.declared.value_data.ValueData.TheVariants as of
use Rattle.ir.specs.declared.value_data.ValueDef.{ValueDef}
use Rattle.ir.specs.declared.value_data.ValueDef.TheVariants.{Result, Param, Union}

abbrev pub inst_of : ValueDef → Option Inst
inst_of (Result i n) = Some i
inst_of (Param b n) = None
inst_of (Union x y) = None

abbrev pub block_of : ValueDef → Option Block
block_of (Result i n) = None
block_of (Param b n) = Some b
block_of (Union x y) = None

abbrev pub place_of : ValueDef → ℕ
place_of (Result i n) = n
place_of (Param b n) = n
place_of (Union x y) = 0

-- place and instruction of a result, place and block of a parameter
abbrev pub result_of : ValueData → Option (ℕ × Inst)
result_of (of.Inst ty num inst) = Some (num, inst)
result_of (of.Param ty num block) = None
result_of (of.Alias ty original) = None
result_of (of.Union ty x y) = None

abbrev pub param_of : ValueData → Option (ℕ × Block)
param_of (of.Inst ty num inst) = None
param_of (of.Param ty num block) = Some (num, block)
param_of (of.Alias ty original) = None
param_of (of.Union ty x y) = None
