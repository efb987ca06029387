-- The numbers of the refusals.
use Rattle.std.specs.Prelude.{ℕ}
use Rattle.ir.specs.declared.reason.Reason.{Reason}
use Rattle.ir.specs.declared.reason.Reason.TheVariants.{Unknown, Retired, Wide, Tag, Kind, Loose, Attached, Types, Loop, Count, Side, Twice, Full, NoBlock, Long}

abbrev pub number_of : Reason → ℕ
number_of Unknown = 1
number_of Retired = 2
number_of Wide = 3
number_of Tag = 4
number_of Kind = 5
number_of Loose = 6
number_of Attached = 7
number_of Types = 8
number_of Loop = 9
number_of Count = 10
number_of Side = 11
number_of Twice = 12
number_of Full = 13
number_of NoBlock = 14
number_of Long = 15
