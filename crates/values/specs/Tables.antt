-- What a value table holds: the first `count` entries of its memory, one for each value.
use Rattle.std.specs.Prelude.{◌≡◌, ◌≤◌, List, length}
use Rattle.ir.specs.declared.value_data.ValueData.{ValueData}
use Rattle.values.specs.declared.table.ValueTable.{ValueTable}
pub use Rattle.values.specs.Fronts.{listed, Canonicals, Put}

-- the definitions of the values that exist
abbrev pub value_data : ValueTable → List ValueData
value_data t = listed t.count t.defs.now

-- what each table keeps, by its ghost fields
pub record SoundValues (t : ValueTable) : Type 0 where
  pub counted : t.count ≤ t.limit
  pub limited : t.limit ≤ length t.defs.now
  pub few : t.limit ≤ 1073741824
  pub sized : length (value_data t) ≡ t.count
  pub canonical : Canonicals t.count t.defs.now
