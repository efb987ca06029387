use Rattle.std.proofs.Common.{length, arith}
use Rattle.std.proofs.lemmas.Slice.{put_mid-paste}
use Rattle.store.proofs.cells.fill.Goals as goal

pub returns : goal.returns
returns g c =
    let n = length c.args.xs.now in
    put_mid-paste c.args.at _ c.args.cells.now c.copy_from_slice.new.self c.args.xs.now (length c.args.xs.now)
    c.copy_from_slice.ensures.after (omega arith) (omega arith)
