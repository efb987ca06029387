use Rattle.std.proofs.Common.{map, length, refl, ap, ◌∙◌, arith}
use Rattle.std.proofs.Math.Seq.{paste}
use Rattle.store.specs.Bank.{layout, owned}
use Rattle.store.specs.Held.{held}
use Rattle.std.proofs.lemmas.List.{take_all}
use Rattle.store.proofs.Views.{resize_apart, units_pos}
use Rattle.store.proofs.Items.{load_hand, lists_kept_from}
use Rattle.store.proofs.Stores.{same_held, hand_in}
use Rattle.store.proofs.blocks.Blocks.fill_hand.Goals as goal

pub invariant_of-self-clause-apart : goal.invariant_of-self-clause-apart
invariant_of-self-clause-apart g c = let s = c.args.self.now in resize_apart (layout s) (length c.args.xs.now) s.apart

pub returns : goal.returns
unfolding held owned
returns g c =
    let s = c.args.self.now in
    let xs = c.args.xs.now in
    let b = hand_in s in
    let u = units_pos s.hand.class c.requires.some in
    let e = c.fill.ensures ∙ ap (λ a. paste s.cells.now a xs (length xs)) c.first_cell.ensures in
    record {
      holds = same_held
          (ap (λ ys. owned ys (record { start = s.hand.start; len = length xs; class = s.hand.class })) e
          ∙ (load_hand s.cells.now xs s.hand.start (length xs) s.hand.class (omega arith) (omega arith)
          ∙ ap (λ ys. record { items = ys; class = s.hand.class }) (take_all (length xs) xs (omega arith))))
          (ap (λ ys. map (owned ys) s.heads.now) e ∙ lists_kept_from s.cells.now xs (layout s) (length xs) s.apart s.filled u (omega arith) (omega arith) (omega arith))
          refl refl;
    }
