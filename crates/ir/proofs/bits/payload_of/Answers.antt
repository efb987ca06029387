use Rattle.std.proofs.lemmas.Nat.{and_mask}
use Rattle.ir.proofs.bits.payload_of.Goals as goal

pub returns : goal.returns
returns g c = rw c.limit.ensures (and_mask c.args.word g.row.LOW)
