use Rattle.std.proofs.Common.{◌+◌, ◌-◌, ◌<◌, map, length, get_or, set, sym, refl, ap, ◌∙◌, subst, arith}
use Rattle.store.specs.Bank.{layout, owned}
use Rattle.store.specs.Held.{held}
use Rattle.store.specs.Units.{no_record}
use Rattle.std.proofs.lemmas.List.{length-set, map-set}
use Rattle.store.specs.Units.{Apart, Whole}
use Rattle.store.proofs.Views.{units_pos, units_size, hand_below, release_apart, release_whole, is_released, count_below}
use Rattle.store.proofs.Models.{spared_some}
use Rattle.store.proofs.Stores.{same_held, count_at}
use Rattle.store.proofs.blocks.Blocks.free_hand.Goals as goal

pub push-requires : goal.push-requires
push-requires g c =
    let s = c.args.self.now in
    let k : c.args.self.now.hand.class - 1 < length c.args.self.now.sizes.records = omega arith in
    let n = count_below (layout s) (s.hand.class - 1) k s.whole in
    record { within = omega arith; few = omega arith }

pub link-requires : goal.link-requires
link-requires g c =
    let s = c.args.self.now in
    let p = units_pos s.hand.class c.requires.some in
    let b = hand_below (layout s) c.args.self.now.apart p in
    omega arith

pub invariant_of-self : goal.invariant_of-self
invariant_of-self g c =
    let s = c.args.self.now in
    let v = layout s in
    let k : c.args.self.now.hand.class - 1 < length c.args.self.now.sizes.records = omega arith in
    let u = units_size s.hand.class c.requires.some in
    let p = units_pos s.hand.class c.requires.some in
    let b = hand_below v s.apart p in
    let l : c.args.self.now.hand.start < length c.args.self.now.links.now = omega arith in
    let rs = c.push.ensures in
    let ls = c.link.ensures ∙ ap (λ r. set s.links.now s.hand.start r.first) c.record_of.ensures in
    let w = is_released v (s.hand.class - 1) c.link.new.links c.push.new.self.records ls rs in
    let n = ap length ls ∙ length-set _ _ _ in
    record {
      apart = subst Apart (sym w) (release_apart v (s.hand.class - 1) s.apart u k l);
      filled = ((omega arith, omega arith, omega arith), s.filled.1);
      whole = subst Whole (sym w) (release_whole v (s.hand.class - 1) s.apart u k l s.whole);
      room = (s.room.0, omega arith, s.room.2, s.room.3, ap length rs ∙ (length-set _ _ _ ∙ s.room.4));
    }

pub returns : goal.returns
unfolding held owned
returns g c =
    let s = c.args.self.now in
    record {
      holds = same_held refl refl
          (ap (map (λ x. x.count)) c.push.ensures
          ∙ (map-set (λ x. x.count) s.sizes.records (s.hand.class - 1) (record { first = s.hand.start; count = (get_or s.sizes.records (s.hand.class - 1) no_record).count + 1 })
          ∙ (ap (λ n. set (map (λ x. x.count) s.sizes.records) (s.hand.class - 1) (n + 1)) (sym (count_at s.sizes.records (s.hand.class - 1)))
          ∙ sym (spared_some (map (λ x. x.count) s.sizes.records) s.hand.class c.requires.some))))
          refl;
    }
