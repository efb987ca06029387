-- Rows and the run of words that longer lists lie in.
use Rattle.std.specs.Prelude.{◌≡◌, ℕ, ◌+◌, ◌<◌, ◌≤◌, cond, List, [], length, take, drop, nat_le, slice_index_or}
use Rattle.ir.specs.declared.entities.Value.{Value}
use Rattle.table.specs.Table.{Row}
use Rattle.rows.specs.declared.cell.RowCell.{RowCell}

abbrev pub no_cell : RowCell
no_cell = record { opcode = record { 0 = 0 }; count = 0; start = 0; short = [] }

abbrev pub at : List RowCell → ℕ → RowCell
at cs i = slice_index_or cs i no_cell

abbrev pub operands_of : List Value → RowCell → List Value
operands_of ws c = cond (nat_le c.count 3) (take c.count c.short) (take c.count (drop c.start ws))

abbrev pub row_of : List Value → RowCell → Row
row_of ws c = record { opcode = c.opcode; operands = operands_of ws c }

-- every operand is there
abbrev pub Full : List Value → List RowCell → Type 0
Full ws cs = (i : ℕ) → length (operands_of ws (at cs i)) ≡ (at cs i).count

-- longer lists lie below the mark, each behind the ones before
abbrev pub Below : List RowCell → ℕ → Type 0
Below cs used = (i : ℕ) → 3 < (at cs i).count → (at cs i).start + (at cs i).count ≤ used

pub record Before (cs : List RowCell) : Type 0 where
  pub one : ℕ
  pub two : ℕ
  pub less : one < two
  pub one_long : 3 < (at cs one).count
  pub two_long : 3 < (at cs two).count

abbrev pub Apart : List RowCell → Type 0
Apart cs = (p : Before cs) → (at cs p.one).start + (at cs p.one).count ≤ (at cs p.two).start
