-- What packed memory says of values.
use Rattle.std.specs.Prelude.{◌≡◌, ℕ, ◌<◌, List, [], ◌∷◌, map}
use Rattle.std.specs.Result.{result_unwrap_or}
use Rattle.ir.specs.declared.value_data.ValueData.{ValueData}
use Rattle.ir.specs.declared.value_data.ValueDataPacked.{ValueDataPacked}
use Rattle.ir.specs.Packing.{packed, unpacked, type, retired_mark}

-- what an entry unpacks to; one that does not unpack reads as the retired mark
abbrev pub definition : ValueDataPacked → ValueData
definition p = result_unwrap_or (unpacked p) retired_mark

abbrev pub definitions : List ValueDataPacked → List ValueData
definitions ps = map definition ps

-- the retired mark, packed
abbrev pub retired_fields : ValueDataPacked
retired_fields = record { x = 0; y = 0xFFFF_FFFF; flags = 0x8000 }

-- the fields that a definition is kept in; its type is to fit beside the tag
abbrev pub stored : ValueData → ValueDataPacked
stored d = result_unwrap_or (packed d) retired_fields

abbrev pub Narrow : ValueData → Type 0
Narrow d = (type d).0 < 16384

-- packing what an entry unpacks to gives the same fields; as numbers, so that a ghost field can hold it
abbrev pub numbers : ValueDataPacked → List ℕ
numbers p = p.x ∷ p.y ∷ p.flags ∷ []

abbrev pub Canonical : ValueDataPacked → Type 0
Canonical p = numbers (stored (definition p)) ≡ numbers p
