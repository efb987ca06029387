-- What rows mean.
use Rattle.std.specs.Prelude.{◌≡◌, map, take}
use Rattle.std.proofs.Common.{sym, refl, ◌∙◌, le_trans}
use Rattle.std.proofs.lemmas.List.{length-take-le, length-map}
use Rattle.table.specs.Table.{Table, Bounded}
use Rattle.table.specs.Extents.{Measures, measured_bounded}
use Rattle.rows.specs.declared.store.Rows.{Rows}
use Rattle.rows.specs.Cells.{row_of}

abbrev pub rows_mean : Rows → Table
rows_mean s = record { rows = map (row_of s.words.now) (take s.extent.count s.rows.now); insts = s.extent.inst_limit; words = s.extent.operand_limit }

pub rows_measured : (s : Rows) → Measures s.extent (rows_mean s)
rows_measured s =
    record {
      count = sym (length-map (take s.extent.count s.rows.now) (row_of s.words.now) ∙ length-take-le s.extent.count s.rows.now (le_trans s.extent.counted s.rows_room));
      insts = refl;
      total = s.sums;
      words = refl;
    }

pub rows_bounded : (s : Rows) → Bounded (rows_mean s)
rows_bounded s = measured_bounded s.extent (rows_mean s) (rows_measured s)

-- nothing but words has changed
pub record Same (s t : Rows) : Type 0 where
  pub mean : rows_mean t ≡ rows_mean s
  pub extent : t.extent ≡ s.extent
  pub used : t.used ≡ s.used
