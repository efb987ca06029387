-- What the memory of rows says of their meaning.
use Rattle.std.proofs.Common.{◌≡◌, ℕ, ◌<◌, List, length, take, sym, ap, ◌∙◌, arith}
use Rattle.std.proofs.lemmas.List.{get_or-take, length-take-le}
use Rattle.table.specs.Table.{Row, count, row, operands}
use Rattle.table.proofs.Held.{row_held}
use Rattle.rows.specs.declared.cell.RowCell.{RowCell}
use Rattle.rows.specs.declared.store.Rows.{Rows}
use Rattle.rows.specs.Cells.{at, no_cell, operands_of, row_of}
use Rattle.rows.specs.Rows.{rows_mean, rows_measured}

module _ (s : Rows) where
  abbrev pub cells : List RowCell
  cells = take s.extent.count s.rows.now

  pub length_cells : length cells ≡ s.extent.count
  length_cells = length-take-le s.extent.count s.rows.now (omega (arith, s.rows_room, s.extent.counted))

  pub count_is : count (rows_mean s) ≡ s.extent.count
  count_is = sym (rows_measured s).count

  module _ (i : ℕ) (h : i < count (rows_mean s)) where
    pub exists : i < s.extent.count
    exists = omega (arith, count_is)

    pub cell_is : at cells i ≡ at s.rows.now i
    cell_is = get_or-take s.extent.count s.rows.now i no_cell exists

    pub row_is : row (rows_mean s) i ≡ row_of s.words.now (at s.rows.now i)
    row_is = row_held no_cell row_of s.extent.inst_limit s.extent.operand_limit s.words.now cells i (omega (arith, length_cells, exists)) ∙ ap (row_of s.words.now) cell_is

    pub count_at : length (operands (rows_mean s) i) ≡ (at s.rows.now i).count
    count_at = ap (λ (r : Row). length r.operands) row_is ∙ ap (λ (c : RowCell). length (operands_of s.words.now c)) (sym cell_is) ∙ s.full i ∙ ap (λ (c : RowCell). c.count) cell_is

    pub in_row : (k : ℕ) → k < length (operands (rows_mean s) i) → k < (at s.rows.now i).count
    in_row k j = omega (arith, count_at)
