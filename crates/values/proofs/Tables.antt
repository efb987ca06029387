-- What a table's ghost fields say, as one fact.
use Rattle.values.specs.declared.table.ValueTable.{ValueTable}
use Rattle.values.specs.Tables.{SoundValues}

pub sound_of : (t : ValueTable) → SoundValues t
sound_of t =
    record {
      counted = t.counted;
      limited = t.limited;
      few = t.few;
      sized = t.sized;
      canonical = t.canonical;
    }
