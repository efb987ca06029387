-- How commands and what comes of them are written.
use Rattle.std.specs.Prelude.{ℕ, List, [], ◌∷◌, ◌++◌, codes, decimal, Ok, Err, Result}
use Rattle.ir.specs.declared.fault.PackFault.{PackFault}
use Rattle.ir.specs.Refusals.{refusal}
use Rattle.ir.specs.Writing.{Words, spaced, of_arg, of_data, of_packed, of_refusal}
use Rattle.command_log.specs.declared.command.Command.{Command}
use Rattle.command_log.specs.declared.command.Command.TheVariants.{Pack, Unpack, Encode, Decode}
use Rattle.command_log.specs.declared.outcome.Answer.{Answer}
use Rattle.command_log.specs.declared.outcome.Answer.TheVariants.{Packed, Unpacked, Encoded, Decoded}
use Rattle.command_log.specs.declared.outcome.Line.{Line}

abbrev pub of_command : Command → Words
of_command (Pack d) = codes "pack" ∷ of_data d
of_command (Unpack p) = codes "unpack" ∷ of_packed p
of_command (Encode a) = codes "encode" ∷ of_arg a
of_command (Decode w) = codes "decode" ∷ decimal w ∷ []

abbrev pub of_answer : Answer → Words
of_answer (Packed p) = of_packed p
of_answer (Unpacked d) = of_data d
of_answer (Encoded w) = decimal w ∷ []
of_answer (Decoded a) = of_arg a

abbrev pub of_outcome : Result Answer PackFault → Words
of_outcome (Ok a) = of_answer a
of_outcome (Err f) = of_refusal (refusal f)

abbrev pub line : Line → List ℕ
line l = spaced (of_command l.command) ++ codes " => " ++ spaced (of_outcome l.outcome)
