-- A call as a value, its answer and what it leaves.
use Rattle.std.specs.Prelude.{List, [], ◌∷◌, length, Ok, Err, fold, Result}
use Rattle.table.specs.declared.fault.TableFault.{TableFault}
use Rattle.table.specs.declared.calls.TableCall.{TableCall}
use Rattle.table.specs.declared.calls.TableCall.TheVariants.{Count, InstLimit, OperandLimit, OperandTotal, Opcode, OperandCount, Operand, SetOperand, Add, AddCopy}
use Rattle.table.specs.declared.calls.TableReply.{TableReply}
use Rattle.table.specs.declared.calls.TableReply.TheVariants.{Number, Code, Holds, Made, Done}
use Rattle.table.specs.Table.{Table, count, total, opcode_answer, operand_count_answer, operand_answer, set_answer, set_table, add_answer, add_table, copy_answer, copy_table}

abbrev pub replied : {A : Type 0} → (A → TableReply) → Result A TableFault → Result TableReply TableFault
replied reply (Ok a) = Ok (reply a)
replied reply (Err fault) = Err fault

abbrev pub answer : TableCall → Table → Result TableReply TableFault
answer Count t = Ok (Number (count t))
answer InstLimit t = Ok (Number t.insts)
answer OperandLimit t = Ok (Number t.words)
answer OperandTotal t = Ok (Number (total t.rows))
answer (Opcode i) t = replied Code (opcode_answer t i)
answer (OperandCount i) t = replied Number (operand_count_answer t i)
answer (Operand i k) t = replied Holds (operand_answer t i k)
answer (SetOperand i k v) t = replied (λ _. Done) (set_answer t i k)
answer (Add op os) t = replied Made (add_answer t (length os.now))
answer (AddCopy i) t = replied Made (copy_answer t i)

abbrev pub after : TableCall → Table → Table
after Count t = t
after InstLimit t = t
after OperandLimit t = t
after OperandTotal t = t
after (Opcode i) t = t
after (OperandCount i) t = t
after (Operand i k) t = t
after (SetOperand i k v) t = set_table t i k v
after (Add op os) t = add_table t op os.now
after (AddCopy i) t = copy_table t i

-- calls one after another
abbrev pub after_all : List TableCall → Table → Table
after_all calls t = fold (λ s c. after c s) t calls

abbrev pub answers : List TableCall → Table → List (Result TableReply TableFault)
answers [] t = []
answers (c ∷ cs) t = answer c t ∷ answers cs (after c t)
