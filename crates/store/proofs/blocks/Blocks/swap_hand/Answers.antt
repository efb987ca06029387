use Rattle.std.proofs.Common.{◌<◌, length, sym, refl, arith}
use Rattle.store.specs.Bank.{layout, owned}
use Rattle.store.specs.Held.{held}
use Rattle.std.proofs.lemmas.List.{map-set}
use Rattle.store.proofs.Views.{swap_apart, swap_whole, set_fits}
use Rattle.store.proofs.Items.{list_at}
use Rattle.store.proofs.Stores.{same_held, lists_many}
use Rattle.store.proofs.blocks.Blocks.swap_hand.Goals as goal

pub invariant_of-self : goal.invariant_of-self
invariant_of-self g c =
    let s = c.args.self.now in
    let l = c.args.l in
    let m = lists_many s in
    let h : c.args.l < length c.args.self.now.heads.now = omega arith in
    record {
      apart = swap_apart (layout s) l h s.apart;
      filled = (s.filled.1 l, set_fits s.heads.now l s.hand h s.filled.0 s.filled.1);
      whole = swap_whole (layout s) l h s.whole;
      room = s.room;
    }

pub returns : goal.returns
unfolding held
returns g c =
    let s = c.args.self.now in
    let l = c.args.l in
    record { holds = same_held (sym (list_at s.cells.now s.heads.now l)) (map-set (owned s.cells.now) s.heads.now l s.hand) refl refl }
