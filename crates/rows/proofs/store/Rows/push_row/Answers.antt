use Rattle.std.proofs.Common.{arith, length-set}
use Rattle.rows.proofs.Words.{push_sound}
use Rattle.rows.proofs.store.Rows.push_row.Goals as goal

pub invariant_of-self-3 : goal.invariant_of-self-3
invariant_of-self-3 c =
    let s = c.args.self.now in
    let T = push_sound s c.args.row c.requires.fits c.words.result c.words.ensures.is c.requires.whole c.requires.behind in
    record { rows_room = simp length-set s.rows_room; words_room = s.words_room; used_some = omega (arith, s.used_some, c.words.ensures.most); full = T.full; below = T.below; apart = T.apart; sums = T.sums }
