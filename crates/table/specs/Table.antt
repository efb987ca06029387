-- What an instruction table means, and what each call answers and leaves.
use Rattle.std.specs.Prelude.{ℕ, ◌+◌, ◌^◌, ◌<◌, ◌≤◌, cond, List, [], ◌∷◌, ◌++◌, length, Ok, Err, sum_by, Result, nat_le, nat_lt, slice_index_or, slice_set}
use Rattle.ir.specs.declared.entities.Value.{Value}
use Rattle.ir.specs.declared.entities.Inst.{Inst}
use Rattle.ir.specs.declared.entities.Opcode.{Opcode}
use Rattle.table.specs.declared.fault.TableFault.{TableFault}
use Rattle.table.specs.declared.fault.TableFault.TheVariants.{Unknown, Full}

pub record Row : Type 0 where
  pub opcode : Opcode
  pub operands : List Value

-- insts and words are how many instructions, and operands in all, there may be
pub record Table : Type 0 where
  pub rows : List Row
  pub insts : ℕ
  pub words : ℕ

abbrev pub empty : ℕ → ℕ → Table
empty insts words = record { rows = []; insts = insts; words = words }

abbrev pub no_value : Value
no_value = record { 0 = 0 }

abbrev pub no_row : Row
no_row = record { opcode = record { 0 = 0 }; operands = [] }

abbrev pub count : Table → ℕ
count t = length t.rows

abbrev pub row : Table → ℕ → Row
row t i = slice_index_or t.rows i no_row

abbrev pub operands : Table → ℕ → List Value
operands t i = (row t i).operands

-- how many operands all rows have
abbrev pub total : List Row → ℕ
total rows = sum_by (λ r. length r.operands) rows

-- what holds of every table
pub record Bounded (t : Table) : Type 0 where
  pub insts_small : t.insts ≤ 2 ^ 30
  pub words_small : t.words ≤ 2 ^ 30
  pub rows_fit : count t ≤ t.insts
  pub words_fit : total t.rows ≤ t.words

-- a place of an instruction's operands, and room for n operands more
pub record Placed (t : Table) (i k : ℕ) : Type 0 where
  pub within : i < count t
  pub place : k < length (operands t i)

pub record Fits (t : Table) (n : ℕ) : Type 0 where
  pub inst : count t < t.insts
  pub words : total t.rows + n ≤ t.words

-- an answer on an instruction, and on a place of its operands, where they exist
abbrev pub at_inst : {A : Type 0} → Table → Inst → Result A TableFault → Result A TableFault
at_inst t i answer = cond (nat_lt i.0 (count t)) answer (Err (Unknown i.0))

abbrev pub at_place : {A : Type 0} → Table → Inst → ℕ → Result A TableFault → Result A TableFault
at_place t i k answer = at_inst t i (cond (nat_lt k (length (operands t i.0))) answer (Err (Unknown k)))

-- a refusal changes nothing
abbrev pub accepted : {A : Type 0} → Result A TableFault → Table → Table → Table
accepted (Ok answer) after before = after
accepted (Err fault) after before = before

abbrev pub opcode_answer : Table → Inst → Result Opcode TableFault
opcode_answer t i = at_inst t i (Ok (row t i.0).opcode)

abbrev pub operand_count_answer : Table → Inst → Result ℕ TableFault
operand_count_answer t i = at_inst t i (Ok (length (operands t i.0)))

abbrev pub operand_answer : Table → Inst → ℕ → Result Value TableFault
operand_answer t i k = at_place t i k (Ok (slice_index_or (operands t i.0) k no_value))

-- one operand changed
abbrev pub with_operand : Table → ℕ → ℕ → Value → Table
with_operand t i k v =
    record {
      rows = slice_set t.rows i (record { opcode = (row t i).opcode; operands = slice_set (operands t i) k v });
      insts = t.insts;
      words = t.words;
    }

abbrev pub set_answer : Table → Inst → ℕ → Result (Unit {0}) TableFault
set_answer t i k = at_place t i k (Ok tt)

abbrev pub set_table : Table → Inst → ℕ → Value → Table
set_table t i k v = accepted (set_answer t i k) (with_operand t i.0 k v) t

-- one row more, at the end
abbrev pub with_row : Table → Row → Table
with_row t r = record { rows = t.rows ++ r ∷ []; insts = t.insts; words = t.words }

-- n operands more: refused where the rows, or else the operands, stand at their limit
abbrev pub add_answer : Table → ℕ → Result Inst TableFault
add_answer t n =
    cond (nat_lt (count t) t.insts)
    (cond (nat_le (total t.rows + n) t.words) (Ok (record { 0 = count t })) (Err (Full t.words)))
    (Err (Full t.insts))

abbrev pub add_table : Table → Opcode → List Value → Table
add_table t op os = accepted (add_answer t (length os)) (with_row t (record { opcode = op; operands = os })) t

abbrev pub copy_answer : Table → Inst → Result Inst TableFault
copy_answer t i = at_inst t i (add_answer t (length (operands t i.0)))

abbrev pub copy_table : Table → Inst → Table
copy_table t i = accepted (copy_answer t i) (with_row t (row t i.0)) t
