-- What an extent says of a table, and what it has room for.
use Rattle.std.specs.Prelude.{◌≡◌, ℕ, ◌+◌, ◌^◌, ◌≤◌, cond, Ok, Err, Result, nat_le, nat_lt}
use Rattle.std.proofs.Common.{subst}
use Rattle.ir.specs.declared.entities.Inst.{Inst}
use Rattle.table.specs.declared.extent.Extent.{Extent}
use Rattle.table.specs.declared.fault.TableFault.{TableFault}
use Rattle.table.specs.declared.fault.TableFault.TheVariants.{Full}
use Rattle.table.specs.Table.{Table, Bounded, count, total}

pub record Measures (e : Extent) (t : Table) : Type 0 where
  pub count : e.count ≡ count t
  pub insts : e.inst_limit ≡ t.insts
  pub total : e.operand_total ≡ total t.rows
  pub words : e.operand_limit ≡ t.words

pub measured_bounded : (e : Extent) (t : Table) → Measures e t → Bounded t
measured_bounded e t m = record {
  insts_small = subst (λ (n : ℕ). n ≤ 2 ^ 30) m.insts e.insts_small;
  words_small = subst (λ (n : ℕ). n ≤ 2 ^ 30) m.words e.operands_small;
  rows_fit = subst (λ (n : ℕ). count t ≤ n) m.insts (subst (λ (n : ℕ). n ≤ e.inst_limit) m.count e.counted);
  words_fit = subst (λ (n : ℕ). total t.rows ≤ n) m.words (subst (λ (n : ℕ). n ≤ e.operand_limit) m.total e.totalled);
}

-- as add_answer says it of a table
abbrev pub room_answer : Extent → ℕ → Result Inst TableFault
room_answer e n =
    cond (nat_lt e.count e.inst_limit)
    (cond (nat_le (e.operand_total + n) e.operand_limit) (Ok (record { 0 = e.count })) (Err (Full e.operand_limit)))
    (Err (Full e.inst_limit))
