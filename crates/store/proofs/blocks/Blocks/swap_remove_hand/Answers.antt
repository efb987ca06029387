use Rattle.std.proofs.Common.{◌-◌, length, take, ap, ◌∙◌, arith}
use Rattle.std.proofs.lemmas.List.{length-set}
use Rattle.store.specs.Held.{held, filling}
use Rattle.store.proofs.Acts.{swapped_set}
use Rattle.store.proofs.blocks.Blocks.swap_remove_hand.Goals as goal

pub cut_hand-requires : goal.cut_hand-requires
cut_hand-requires g c =
    let n = ap (λ h. length h.hand.items) c.write_hand.ensures.holds ∙ length-set _ _ _ in
    let r = c.requires.below in
    record { some = omega arith }

pub returns : goal.returns
returns g c =
    let h = held c.args.self.now in
    record {
      holds = c.cut_hand.ensures.holds
          ∙ (ap (λ h. filling h (take (length h.hand.items - 1) h.hand.items)) c.write_hand.ensures.holds
          ∙ ap (filling h) (swapped_set h.hand.items c.args.i c.args.last c.requires.below c.requires.last));
    }
