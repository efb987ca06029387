use Rattle.std.proofs.Common.{sym, ap, ◌∙◌, subst, arith}
use Rattle.command_log.specs.Reading.{Numbers, padded}
use Rattle.command_log.proofs.Spelling.{none_padded, read_bare}
use Rattle.command_log.proofs.reading.U32Numeral.read.Goals as goal

pub returns-then-is_padded : goal.returns-then-is_padded
returns-then-is_padded c =
    none_padded 4294967296 c.args.word.now (omega arith) (ap padded (sym c.as_bytes.ensures.value) ∙ sym c.if-is_padded.ensures)

pub returns : goal.returns
returns c =
    subst (Numbers 4294967296 c.args.word.now) (sym c.ok.ensures.value)
    (read_bare c.args.word.now c.parse.result c.parse.ensures.value.0 (ap padded (sym c.as_bytes.ensures.value) ∙ sym c.if-is_padded.ensures))
