use Rattle.values.proofs.Ways.{walk_finds, walk_fails, one_end, short_ways}
use Rattle.values.proofs.laws.leads_laws.Goals as goal

pub returns : goal.returns
returns c = record { finds = walk_finds; fails = walk_fails; one = one_end; short = short_ways }
