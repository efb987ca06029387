-- What a reader of rows reads.
use Rattle.std.specs.Prelude.{cond, List, map, length, Ok, Err, Result, nat_lt, slice_index_or}
use Rattle.ir.specs.declared.entities.Inst.{Inst}
use Rattle.ir.specs.declared.entities.Value.{Value}
use Rattle.table.specs.declared.fault.TableFault.{TableFault}
use Rattle.table.specs.declared.fault.TableFault.TheVariants.{Unknown}
use Rattle.table.specs.Table.{Row, no_row}
use Rattle.rows.specs.declared.reader.RowsReader.{RowsReader}
use Rattle.rows.specs.Cells.{row_of}

abbrev pub reader_mean : RowsReader → List Row
reader_mean s = map (row_of s.words.now) s.rows.now

abbrev pub operands_answer : List Row → Inst → Result (List Value) TableFault
operands_answer rows i = cond (nat_lt i.0 (length rows)) (Ok (slice_index_or rows i.0 no_row).operands) (Err (Unknown i.0))
