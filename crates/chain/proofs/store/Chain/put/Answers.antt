use Rattle.std.proofs.Common.{◌+◌, refl, arith, length-set}
use Rattle.chain.proofs.Walks.{past_mean, past_sound}
use Rattle.chain.proofs.store.Chain.put.Goals as goal

pub invariant_of-self : goal.invariant_of-self
invariant_of-self c =
    let s = c.args.self.now in
    let at = s.extent.operand_total + c.args.k in
    let T = past_sound s at (record { value = c.args.value; next = at + 1 }) (omega arith) in
    record { rows_room = s.rows_room; links_room = simp length-set s.links_room; linked = T.linked; below = T.below; apart = T.apart; sums = T.sums }

pub returns-clause-same : goal.returns-clause-same
returns-clause-same c =
    let s = c.args.self.now in
    let at = s.extent.operand_total + c.args.k in
    record { mean = past_mean s at (record { value = c.args.value; next = at + 1 }) (omega arith); extent = refl }
