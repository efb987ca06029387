use Rattle.std.proofs.Common.{length-set}
use Rattle.chain.proofs.Walks.{push_sound}
use Rattle.chain.proofs.store.Chain.push_row.Goals as goal

pub invariant_of-self-3 : goal.invariant_of-self-3
invariant_of-self-3 c =
    let s = c.args.self.now in
    let T = push_sound s c.args.row c.requires.fits c.requires.behind c.requires.chained in
    record { rows_room = simp length-set s.rows_room; links_room = s.links_room; linked = T.linked; below = T.below; apart = T.apart; sums = T.sums }
