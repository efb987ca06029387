-- What the closing line of a record counts.
use Rattle.std.specs.Prelude.{◌-◌, List, [], ◌∷◌, length, codes, decimal, count_by, is_ok, Result}
use Rattle.ir.specs.declared.fault.PackFault.{PackFault}
use Rattle.ir.specs.Writing.{Words}
use Rattle.command_log.specs.declared.counts.Counts.{Counts}
use Rattle.command_log.specs.declared.outcome.Answer.{Answer}

abbrev pub counted : List (Result Answer PackFault) → Counts
counted os = record { calls = length os; accepted = count_by is_ok os; refused = length os - count_by is_ok os }

abbrev pub of_counts : Counts → Words
of_counts c = codes "calls" ∷ decimal c.calls ∷ codes "accepted" ∷ decimal c.accepted ∷ codes "refused" ∷ decimal c.refused ∷ []
