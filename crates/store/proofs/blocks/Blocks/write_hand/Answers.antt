use Rattle.std.proofs.Common.{◌+◌, ◌<◌, map, set, refl, ap, ◌∙◌, arith}
use Rattle.store.specs.Bank.{layout, owned}
use Rattle.store.specs.Held.{held}
use Rattle.store.proofs.Items.{write_hand, lists_kept_one}
use Rattle.store.proofs.Stores.{same_held, hand_in, hand_long}
use Rattle.store.proofs.blocks.Blocks.write_hand.Goals as goal

pub returns : goal.returns
unfolding held owned
returns g c =
    let s = c.args.self.now in
    let b = hand_in s in
    let n = hand_long s in
    let r : c.args.i < c.args.self.now.hand.len = omega arith in
    let e = c.put.ensures ∙ ap (λ a. set s.cells.now (a + c.args.i) c.args.v) c.first_cell.ensures in
    record {
      holds = same_held
          (ap (λ ys. owned ys s.hand) e ∙ write_hand s.cells.now s.hand c.args.i c.args.v r)
          (ap (λ ys. map (owned ys) s.heads.now) e ∙ lists_kept_one s.cells.now c.args.v (layout s) c.args.i s.apart s.filled (omega arith) (omega arith))
          refl refl;
    }
