use Rattle.std.proofs.Common.{length-set}
use Rattle.rows.proofs.Words.{long_mean, long_sound}
use Rattle.rows.proofs.store.Rows.write_long.Goals as goal

pub invariant_of-self : goal.invariant_of-self
invariant_of-self c =
    let s = c.args.self.now in
    let T = long_sound s c.args.i c.args.place c.args.value c.requires.placed c.requires.many in
    record { rows_room = s.rows_room; words_room = simp length-set s.words_room; used_some = s.used_some; full = T.full; below = T.below; apart = T.apart; sums = T.sums }

pub returns : goal.returns
returns c = long_mean c.args.self.now c.args.i c.args.place c.args.value c.requires.placed c.requires.many
