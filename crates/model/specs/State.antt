-- What a graph is.
use Rattle.std.specs.Prelude.{ℕ, ◌+◌, ◌*◌, Bool, false, ◌&&◌, List, [], ◌∷◌, ◌++◌, length, slice_index_or, drop, Some, None, Ok, Err, Option, Result, ◌==◌, nat_lt}
use Rattle.ir.specs.declared.entities.Value.{Value}
use Rattle.ir.specs.declared.entities.Inst.{Inst as InstId}
use Rattle.ir.specs.declared.entities.Block.{Block}
use Rattle.ir.specs.declared.value_data.ValueData.{ValueData}
use Rattle.ir.specs.declared.value_data.ValueData.TheVariants.{Inst, Param, Alias, Union}
use Rattle.ir.specs.declared.block_arg.BlockArg.{BlockArg}
use Rattle.ir.specs.declared.fault.PackFault.{PackFault}
use Rattle.ir.specs.Arguments.{decoded, value_of}
use Rattle.store.specs.Bank.{Bank, items_of}
use Rattle.table.specs.Table.{Table, operands}
use Rattle.values.specs.Leads.{at}
use Rattle.model.specs.declared.labels.Start.{Start}
use Rattle.model.specs.declared.labels.Label.{Label}
use Rattle.model.specs.declared.labels.Label.TheVariants as label

-- how many there may be
pub record Limits : Type 0 where
  pub values : ℕ
  pub blocks : ℕ
  pub insts : ℕ

-- definitions and labels by value, how many blocks and instructions there are, one pool of words for the lists of
-- parameters, results and calls, and one of label starts, with a list for each value
pub record Graph : Type 0 where
  pub defs : List ValueData
  pub blocks : ℕ
  pub insts : ℕ
  pub words : Bank Value
  pub labels : List (Option Label)
  pub starts : Bank Start
  pub limits : Limits

-- a graph, and what its instruction table means
pub record State : Type 0 where
  pub graph : Graph
  pub table : Table

abbrev pub value : ℕ → Value
value n = record { 0 = n }

abbrev pub inst : ℕ → InstId
inst n = record { 0 = n }

abbrev pub block : ℕ → Block
block n = record { 0 = n }

-- The word lists: first those of the blocks, then three for each instruction: its results and its two calls.
abbrev pub param_list : Graph → Block → ℕ
param_list g b = b.0

abbrev pub result_list : Graph → InstId → ℕ
result_list g i = g.limits.blocks + 3 * i.0

abbrev pub call_list : Graph → InstId → ℕ → ℕ
call_list g i j = g.limits.blocks + (3 * i.0 + (1 + j))

abbrev pub params : Graph → Block → List Value
params g b = items_of g.words (param_list g b)

abbrev pub results : Graph → InstId → List Value
results g i = items_of g.words (result_list g i)

-- a call is a list of words: the target block, then the arguments; there is no call where there is no target
abbrev pub call : Graph → InstId → ℕ → List Value
call g i j = items_of g.words (call_list g i j)

abbrev pub has_call : Graph → InstId → ℕ → Bool
has_call g i j = nat_lt j 2 && nat_lt 0 (length (call g i j))

abbrev pub arguments : Graph → InstId → ℕ → List Value
arguments g i j = drop 1 (call g i j)

-- the value that a word of a call stands for; a marked argument stands for none
abbrev pub argument_value : Result BlockArg PackFault → Option Value
argument_value (Ok a) = value_of a
argument_value (Err e) = None

abbrev pub value_argument : Value → Option Value
value_argument w = argument_value (decoded w.0)

abbrev pub with_value : Option Value → List Value → List Value
with_value None vs = vs
with_value (Some v) vs = v ∷ vs

-- the value arguments among words
abbrev pub values_in : List Value → List Value
values_in [] = []
values_in (w ∷ ws) = with_value (value_argument w) (values_in ws)

-- what an instruction uses: its operands, then the value arguments of each call
abbrev pub call_values : Graph → InstId → List Value
call_values g i = values_in (arguments g i 0) ++ values_in (arguments g i 1)

abbrev pub inst_values : State → InstId → List Value
inst_values s i = operands s.table i.0 ++ call_values s.graph i

-- a label entry: starts, or an alias of a source place and a target value
pub data Entry : Type 0 where
  starts : List Start → Entry
  alias : ℕ → Value → Entry

abbrev pub as_entry : Option Label → List Start → Option Entry
as_entry None ss = None
as_entry (Some label.Starts) ss = Some (starts ss)
as_entry (Some (label.Alias from target)) ss = Some (alias from target)

abbrev pub label_at : Graph → Value → Option Label
label_at g v = slice_index_or g.labels v.0 None

-- a value has at most one entry
abbrev pub entry : Graph → Value → Option Entry
entry g v = as_entry (label_at g v) (items_of g.starts v.0)

-- a list holds v at place n
abbrev pub no_value : Value
no_value = record { 0 = 0 }

abbrev pub holds : List Value → ℕ → Value → Bool
holds vs n v = nat_lt n (length vs) && (slice_index_or vs n no_value).0 == v.0

-- A value is attached when it is a result or parameter and the list of its instruction or block holds it at its number.
abbrev pub attached_by : Graph → Value → ValueData → Bool
attached_by g v (Inst ty n i) = holds (results g i) n v
attached_by g v (Param ty n b) = holds (params g b) n v
attached_by g v (Alias ty original) = false
attached_by g v (Union ty x y) = false

abbrev pub attached : Graph → Value → Bool
attached g v = attached_by g v (at g.defs v)
