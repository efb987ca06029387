use Rattle.std.proofs.Common.{◌-◌, ◌<◌, map, length, get_or, set, sym, refl, ap, ◌∙◌, subst, arith}
use Rattle.store.specs.Bank.{layout, owned}
use Rattle.store.specs.Held.{held, shown}
use Rattle.store.specs.Units.{no_record}
use Rattle.std.proofs.lemmas.List.{length-set, map-set}
use Rattle.store.specs.Units.{Apart, Whole}
use Rattle.store.proofs.Views.{first_below, reuse_apart, reuse_whole, is_reused}
use Rattle.store.proofs.Models.{obtained_freed}
use Rattle.store.proofs.Stores.{same_held, count_at}
use Rattle.store.proofs.blocks.Blocks.take_freed.Goals as goal

pub bounds-self-block : goal.bounds-self-block
bounds-self-block g c =
    let s = c.args.self.now in
    let b = first_below (layout s) c.args.self.now.apart c.args.k c.requires.some in
    let e = ap (λ r. r.first) c.record_of-block.ensures in
    omega arith

pub invariant_of-self : goal.invariant_of-self
invariant_of-self g c =
    let s = c.args.self.now in
    let v = layout s in
    let j = c.args.k in
    let k : c.args.k < length c.args.self.now.sizes.records = omega arith in
    let f = ap (λ r. r.first) c.record_of-block.ensures in
    let w = is_reused v j c.record_of-block.result.first c.pop.new.self.records f c.pop.ensures in
    let b = first_below v s.apart j c.requires.some in
    record {
      apart = subst Apart (sym w) (reuse_apart v j c.requires.some k s.apart);
      filled = ((omega arith, omega arith, omega arith), s.filled.1);
      whole = subst Whole (sym w) (reuse_whole v j c.requires.some k c.requires.empty s.whole);
      room = (s.room.0, s.room.1, s.room.2, s.room.3, ap length c.pop.ensures ∙ (length-set _ _ _ ∙ s.room.4));
    }

pub returns : goal.returns
unfolding held owned
returns g c =
    let s = c.args.self.now in
    let j = c.args.k in
    let n : 0 < get_or (map (λ x. x.count) c.args.self.now.sizes.records) c.args.k 0 = omega (arith, count_at s.sizes.records j) in
    let o = obtained_freed (shown (held s)) j n in
    record {
      holds = same_held refl refl
          (ap (map (λ x. x.count)) c.pop.ensures
          ∙ (map-set (λ x. x.count) s.sizes.records j (record { first = get_or s.links.now c.record_of-block.result.first 0; count = (get_or s.sizes.records j no_record).count - 1 })
          ∙ (ap (λ n. set (map (λ x. x.count) s.sizes.records) j (n - 1)) (sym (count_at s.sizes.records j))
          ∙ sym (ap (λ b. b.free) o))))
          (sym (ap (λ b. b.left) o));
    }
