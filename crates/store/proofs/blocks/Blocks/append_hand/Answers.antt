use Rattle.std.proofs.Common.{◌+◌, ◌*◌, ◌<◌, map, set, refl, ap, ◌∙◌, arith}
use Rattle.store.specs.Bank.{layout, owned}
use Rattle.store.specs.Held.{held}
use Rattle.store.specs.Units.{units}
use Rattle.store.proofs.Views.{resize_apart}
use Rattle.store.proofs.Items.{append_hand, lists_kept_one}
use Rattle.store.proofs.Stores.{same_held, hand_in, hand_long, resize_filled}
use Rattle.store.proofs.blocks.Blocks.append_hand.Goals as goal

pub invariant_of-self-clause-apart : goal.invariant_of-self-clause-apart
invariant_of-self-clause-apart g c = let s = c.args.self.now in resize_apart (layout s) (s.hand.len + 1) s.apart

pub invariant_of-self-clause-filled : goal.invariant_of-self-clause-filled
unfolding held owned
invariant_of-self-clause-filled g c =
    let n = hand_long c.args.self.now in
    resize_filled c.args.self.now (c.args.self.now.hand.len + 1) (omega arith)

pub returns : goal.returns
unfolding held owned
returns g c =
    let s = c.args.self.now in
    let b = hand_in s in
    let n = hand_long s in
    let r : c.args.self.now.hand.len < 4 * units c.args.self.now.hand.class = omega arith in
    let e = c.put.ensures ∙ ap (λ a. set s.cells.now (a + s.hand.len) c.args.v) c.first_cell.ensures in
    record {
      holds = same_held
          (ap (λ ys. owned ys (record { start = s.hand.start; len = s.hand.len + 1; class = s.hand.class })) e ∙ append_hand s.cells.now s.hand c.args.v (omega arith))
          (ap (λ ys. map (owned ys) s.heads.now) e ∙ lists_kept_one s.cells.now c.args.v (layout s) s.hand.len s.apart s.filled r (omega arith))
          refl refl;
    }
