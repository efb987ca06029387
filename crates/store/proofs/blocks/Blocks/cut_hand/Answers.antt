use Rattle.std.proofs.Common.{◌-◌, refl, arith}
use Rattle.store.specs.Bank.{layout, owned}
use Rattle.store.specs.Held.{held}
use Rattle.store.proofs.Views.{resize_apart}
use Rattle.store.proofs.Items.{cut_hand}
use Rattle.store.proofs.Stores.{same_held, hand_in}
use Rattle.store.proofs.blocks.Blocks.cut_hand.Goals as goal

pub invariant_of-self-clause-apart : goal.invariant_of-self-clause-apart
invariant_of-self-clause-apart g c = let s = c.args.self.now in resize_apart (layout s) (s.hand.len - 1) s.apart

pub returns : goal.returns
unfolding held owned
returns g c =
    let s = c.args.self.now in
    let b = hand_in s in
    record {
      holds = same_held (cut_hand s.cells.now s.hand (omega arith)) refl refl refl;
    }
