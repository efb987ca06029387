use Rattle.std.proofs.Common.{sym, subst}
use Rattle.command_log.specs.Reading.{Numbers}
use Rattle.command_log.proofs.Spelling.{narrowed}
use Rattle.command_log.proofs.reading.U16Numeral.read.Goals as goal

pub returns : goal.returns
returns c =
    subst (Numbers 65536 c.args.word.now) (sym c.ok.ensures.value)
    (narrowed c.args.word.now c.in_ok-read.field-0 c.try_from.result c.in_ok-read.ensures c.try_from.ensures)
