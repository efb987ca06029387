use Rattle.std.proofs.Common.{◌+◌, ◌-◌, ◌*◌, ◌<◌, map, drop, refl, ap, ◌∙◌, arith}
use Rattle.std.proofs.Math.Seq.{paste}
use Rattle.store.specs.Bank.{layout, owned}
use Rattle.store.specs.Held.{held}
use Rattle.std.proofs.lemmas.List.{length-drop}
use Rattle.store.proofs.Views.{resize_apart}
use Rattle.store.proofs.Items.{gap_hand, lists_kept}
use Rattle.store.proofs.Stores.{same_held, hand_in, hand_long}
use Rattle.store.proofs.blocks.Blocks.close_gap.Goals as goal

pub invariant_of-self-clause-apart : goal.invariant_of-self-clause-apart
invariant_of-self-clause-apart g c = let s = c.args.self.now in resize_apart (layout s) (s.hand.len - 1) s.apart

pub returns : goal.returns
unfolding held owned
returns g c =
    let s = c.args.self.now in
    let i = c.args.i in
    let b = hand_in s in
    let n = hand_long s in
    let r : c.args.i < c.args.self.now.hand.len = omega arith in
    let at = 4 * s.hand.start + i in
    let m = s.hand.len - i - 1 in
    let ld = length-drop (4 * s.hand.start + i + 1) s.cells.now in
    let e = c.shift.ensures ∙ ap (λ a. paste s.cells.now (a + i) (drop (a + i + 1) s.cells.now) m) c.first_cell.ensures in
    record {
      holds = same_held
          (ap (λ ys. owned ys (record { start = s.hand.start; len = s.hand.len - 1; class = s.hand.class })) e
          ∙ gap_hand s.cells.now s.hand i (omega arith) r)
          (ap (λ ys. map (owned ys) s.heads.now) e
          ∙ lists_kept s.cells.now (drop (4 * s.hand.start + i + 1) s.cells.now) (layout s) i (s.hand.len - i - 1) s.apart s.filled (omega arith) (omega arith) (omega arith) (omega arith))
          refl refl;
    }
