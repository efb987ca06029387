use Rattle.std.proofs.Common.{◌≡◌, ◌+◌, ◌-◌, ◌^◌, ◌≤◌, map, get_or, sym, refl, ap, ◌∙◌, subst, arith, rules}
use Rattle.store.specs.Bank.{layout, owned}
use Rattle.store.specs.Held.{held, shown}
use Rattle.store.specs.Units.{Apart, Whole}
use Rattle.store.proofs.Views.{units_at, break_apart, break_whole, is_broken}
use Rattle.store.proofs.Models.{obtained_new}
use Rattle.store.proofs.Stores.{same_held, count_at}
use Rattle.store.proofs.blocks.Blocks.take_new.Goals as goal

pub overflow_add-self-2 : goal.overflow_add-self-2
overflow_add-self-2 g c =
    let e = c.units_of-size.ensures in
    let u = units_at c.args.k in
    search rules

pub invariant_of-self : goal.invariant_of-self
invariant_of-self g c =
    let s = c.args.self.now in
    let v = layout s in
    let j = c.args.k in
    let e = c.units_of-size.ensures in
    let u = units_at c.args.k in
    let w = is_broken v j c.units_of-size.result e in
    record {
      apart = subst Apart (sym w) (break_apart v j s.apart);
      filled = ((omega arith, omega arith, omega arith), s.filled.1);
      whole = subst Whole (sym w) (break_whole v j c.requires.empty s.whole);
      room = (s.room.0, s.room.1, s.room.2, omega arith, s.room.4);
    }

pub returns : goal.returns
unfolding held owned
returns g c =
    let s = c.args.self.now in
    let j = c.args.k in
    let e = c.units_of-size.ensures in
    let u = units_at c.args.k in
    let n : get_or (map (λ x. x.count) c.args.self.now.sizes.records) c.args.k 0 ≤ 0 = omega (arith, count_at s.sizes.records j) in
    let o = obtained_new (shown (held s)) j n in
    let d : (c.args.self.now.limit - (c.args.self.now.used + c.units_of-size.result)) ≡ c.args.self.now.limit - c.args.self.now.used - 2 ^ c.args.k = omega arith in
    record {
      holds = same_held refl refl (sym (ap (λ b. b.free) o)) (d ∙ sym (ap (λ b. b.left) o));
    }
