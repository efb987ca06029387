use Rattle.std.proofs.Common.{length-set}
use Rattle.rows.proofs.Words.{short_mean, short_sound}
use Rattle.rows.proofs.store.Rows.write_short.Goals as goal

pub invariant_of-self : goal.invariant_of-self
invariant_of-self c =
    let s = c.args.self.now in
    let T = short_sound s c.args.i c.args.place c.args.value c.requires.placed c.requires.few in
    record { rows_room = simp length-set s.rows_room; words_room = s.words_room; used_some = s.used_some; full = T.full; below = T.below; apart = T.apart; sums = T.sums }

pub returns : goal.returns
returns c = short_mean c.args.self.now c.args.i c.args.place c.args.value c.requires.placed c.requires.few
