-- What comes of a command, by the definitions of the packing.
use Rattle.std.specs.Prelude.{Ok, Err, Result}
use Rattle.ir.specs.declared.fault.PackFault.{PackFault}
use Rattle.ir.specs.Packing.{packed, unpacked}
use Rattle.ir.specs.Arguments.{encoded, decoded}
use Rattle.command_log.specs.declared.command.Command.{Command}
use Rattle.command_log.specs.declared.command.Command.TheVariants.{Pack, Unpack, Encode, Decode}
use Rattle.command_log.specs.declared.outcome.Answer.{Answer}
use Rattle.command_log.specs.declared.outcome.Answer.TheVariants.{Packed, Unpacked, Encoded, Decoded}

abbrev pub answered : {A : Type 0} → (A → Answer) → Result A PackFault → Result Answer PackFault
answered answer (Ok a) = Ok (answer a)
answered answer (Err f) = Err f

abbrev pub outcome : Command → Result Answer PackFault
outcome (Pack d) = answered Packed (packed d)
outcome (Unpack p) = answered Unpacked (unpacked p)
outcome (Encode a) = answered Encoded (encoded a)
outcome (Decode w) = answered Decoded (decoded w)
