-- Faults that such a graph invites, and that the definitions tell from what is right.
use Rattle.std.specs.Prelude.{◌≡◌, ℕ, ◌<◌, false, ◌≢◌, List, [], ◌∷◌, length, take, None, slice_index_or}
use Rattle.ir.specs.declared.entities.Value.{Value}
use Rattle.ir.specs.declared.entities.Inst.{Inst as InstId}
use Rattle.table.specs.Table.{count, operands}
use Rattle.values.specs.Leads.{LiveAlias}
use Rattle.model.specs.declared.fault.GraphFault.TheVariants.{Loose, Types}
use Rattle.model.specs.Refusals.{done, refused}
use Rattle.model.specs.State.{State, value, inst, block, call, arguments, value_argument, attached, no_value}
use Rattle.model.specs.Runs.{Edit, a_block, does, make_inst, make_inst_results, make_block, remove_block_param, replace_block_param, replace_with_aliases}
use Rattle.model.specs.Laws.{Flattened}
use Rattle.model.specs.Cases.{Ends, three_params, five}

-- two instructions with two results each, of which the second ones differ in type
abbrev pub two_pairs : List Edit
two_pairs =
    make_inst (record { 0 = 1 }) [] [] ∷ make_inst (record { 0 = 1 }) [] []
    ∷ make_inst_results (inst 0) (five ∷ five ∷ []) []
    ∷ make_inst_results (inst 1) (five ∷ record { 0 = 6 } ∷ []) []
    ∷ []

pub record ToldApart : Type 0 where
  -- a flattening that leaves an operand on an alias, in whichever instruction
  pub renames_each : (s t : State) → Flattened s t → (i k : ℕ) (original : Value) → i < count s.table →
      k < length (operands s.table i) → LiveAlias s.graph.defs (slice_index_or (operands s.table i) k no_value) original →
      slice_index_or (operands t.table i) k no_value ≢ slice_index_or (operands s.table i) k no_value
  -- a target block renamed like a value
  pub targets_stay : (s t : State) → Flattened s t → (i : InstId) (j : ℕ) → i.0 < s.graph.insts → j < 2 →
      take 1 (call t.graph i j) ≢ take 1 (call s.graph i j) → ⊥
  -- a marked payload renamed like a value
  pub marks_stay : (s t : State) → Flattened s t → (i : InstId) (j k : ℕ) → i.0 < s.graph.insts → j < 2 →
      k < length (arguments s.graph i j) → value_argument (slice_index_or (arguments s.graph i j) k no_value) ≡ None →
      slice_index_or (arguments t.graph i j) k no_value ≢ slice_index_or (arguments s.graph i j) k no_value → ⊥
  -- a removed parameter's old number counted as attached: replacing it once more is refused
  pub removed_is_loose : Ends (three_params (remove_block_param (value 1) ∷ []))
      (λ t. (attached t.graph (value 1) ≡ false) × (does (replace_block_param (value 1) five) t ≡ refused (Loose 1)))
  -- aliasing results that stops half way: the second place is looked at before the first is written
  pub all_or_nothing : Ends two_pairs (λ t. does (replace_with_aliases (inst 0) (inst 1)) t ≡ refused (Types 1))
  -- a graph that refuses every edit
  pub accepts : (s : State) → s.graph.blocks < s.graph.limits.blocks →
      (t : State) × (does make_block s ≡ done (a_block (block s.graph.blocks)) t)
