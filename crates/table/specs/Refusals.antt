-- What a table's refusal says.
use Rattle.ir.specs.declared.fault.Layer.TheVariants.{Table as Tables}
use Rattle.ir.specs.Refusals.{Refusal}
use Rattle.table.specs.declared.fault.TableFault.{TableFault}
use Rattle.table.specs.declared.fault.TableFault.TheVariants.{Unknown, Full}

abbrev pub refusal : TableFault → Refusal
refusal (Unknown n) = record { number = 1; layer = Tables; detail = n }
refusal (Full n) = record { number = 13; layer = Tables; detail = n }
