-- The nine worked cases: seven of the packing, and two of edits.
use Rattle.std.specs.Prelude.{◌≡◌, List, [], ◌∷◌, replicate, Result, None}
use Rattle.ir.specs.declared.entities.Type.{«Type» as Ty}
use Rattle.ir.specs.declared.value_data.ValueData.TheVariants.{Param}
use Rattle.ir.specs.declared.block_arg.BlockArg.TheVariants.{Value as ValueArg, TryCallRet}
use Rattle.ir.specs.Packing.{retired_mark}
use Rattle.ir.specs.Cases.{Worked as WorkedPacking}
use Rattle.store.specs.Bank.{fresh}
use Rattle.table.specs.Table.{empty, operands}
use Rattle.values.specs.Leads.{at}
use Rattle.model.specs.declared.fault.GraphFault.{GraphFault}
use Rattle.model.specs.State.{State, value, inst, block, params, call}
use Rattle.model.specs.Runs.{Edit, Answer, Runs, make_block, append_block_param, remove_block_param, make_inst, append_argument, change_to_alias, resolve_all_aliases}

-- a new graph and a new table with a little memory
abbrev pub small : State
small =
    record {
      graph =
          record {
            defs = [];
            blocks = 0;
            insts = 0;
            words = fresh 8 8;
            labels = replicate 4 None;
            starts = fresh 4 4;
            limits = record { values = 4; blocks = 2; insts = 2 };
          };
      table = empty 2 4;
    }

abbrev pub five : Ty
five = record { 0 = 5 }

-- a run of these edits ends in a state of which P holds
abbrev pub Ends : List Edit → (State → Type 0) → Type 0
Ends es P = (answers : List (Result Answer GraphFault)) × (t : State) × Runs small es answers t × P t

abbrev pub three_params : List Edit → List Edit
three_params es =
    make_block ∷ make_block ∷ append_block_param (block 0) five ∷ append_block_param (block 0) five
    ∷ append_block_param (block 0) five ∷ es

pub record Worked : Type 0 where
  pub packing : WorkedPacking
  -- from parameters 0, 1, 2, removing 1 leaves 0, 2, and value 2 has number 1
  pub removing :
      Ends (three_params (remove_block_param (value 1) ∷ []))
      (λ t. (params t.graph (block 0) ≡ value 0 ∷ value 2 ∷ []) × (at t.graph.defs (value 2) ≡ Param five 1 (block 0)))
  -- 1 and 2 are removed; instruction 0 has operand 2 and the call 1, 2, 0x40000002; alias 2 to 1, then 1 to 0, and
  -- flatten: the operand is 0, the call 1, 0, 0x40000002, and 1 and 2 are retired
  pub flattening :
      Ends
      (three_params
      (remove_block_param (value 1) ∷ remove_block_param (value 2)
      ∷ make_inst (record { 0 = 7 }) (value 2 ∷ []) (block 1 ∷ [])
      ∷ append_argument (inst 0) 0 (ValueArg (value 2))
      ∷ append_argument (inst 0) 0 (TryCallRet 2)
      ∷ change_to_alias (value 2) (value 1)
      ∷ change_to_alias (value 1) (value 0)
      ∷ resolve_all_aliases
      ∷ []))
      (λ t.
      (operands t.table 0 ≡ value 0 ∷ []) × (call t.graph (inst 0) 0 ≡ value 1 ∷ value 0 ∷ value 0x4000_0002 ∷ [])
      × (at t.graph.defs (value 1) ≡ retired_mark) × (at t.graph.defs (value 2) ≡ retired_mark))
