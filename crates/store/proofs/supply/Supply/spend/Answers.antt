use Rattle.std.proofs.Common.{◌≡◌, ◌+◌, ◌-◌, map, get_or, set, sym, refl, ap, ◌∙◌, arith}
use Rattle.std.proofs.lemmas.List.{map-set}
use Rattle.store.specs.Units.{no_record}
use Rattle.store.specs.Bank.{stock, obtained}
use Rattle.store.proofs.Views.{units_size}
use Rattle.store.proofs.Models.{same_bank, had_size, obtained_freed, obtained_new}
use Rattle.store.proofs.Stores.{count_at}
use Rattle.store.proofs.supply.Supply.spend.Goals as goal

pub pop-requires : goal.pop-requires
pop-requires c =
    let e = ap (λ r. r.count) c.record_of.ensures in
    record { within = (had_size (stock c.args.self.now.sizes c.args.self.now.left) c.args.class (omega arith) c.requires).0; some = omega arith }

pub returns-then-record_of-gt0 : goal.returns-then-record_of-gt0
returns-then-record_of-gt0 c =
    let b = stock c.args.self.now.sizes c.args.self.now.left in
    let rs = c.args.self.now.sizes.records in
    let k = c.args.class - 1 in
    let n = count_at rs k in
    let e = ap (λ r. r.count) c.record_of.ensures in
    let w : (c.args.class - 1) + 1 ≡ c.args.class = omega arith in
    let o = ap (obtained b) (sym w) ∙ obtained_freed b k (omega arith) in
    same_bank refl
    (ap (map (λ x. x.count)) c.pop.ensures
    ∙ (map-set (λ x. x.count) rs k (record { first = 0; count = (get_or rs k no_record).count - 1 })
    ∙ ap (λ m. set (map (λ x. x.count) rs) k (m - 1)) (sym n)))
    refl
    ∙ sym o

pub overflow_sub-self : goal.overflow_sub-self
overflow_sub-self c =
    let h = had_size (stock c.args.self.now.sizes c.args.self.now.left) c.args.class (omega arith) c.requires in
    let n = count_at c.args.self.now.sizes.records (c.args.class - 1) in
    let e = ap (λ r. r.count) c.record_of.ensures in
    let u = units_size c.args.class (omega arith) in
    let v = c.units_of.ensures in
    let p = h.1 (omega arith) in
    omega arith

pub returns-else-record_of-gt0 : goal.returns-else-record_of-gt0
returns-else-record_of-gt0 c =
    let b = stock c.args.self.now.sizes c.args.self.now.left in
    let k = c.args.class - 1 in
    let n = count_at c.args.self.now.sizes.records k in
    let e = ap (λ r. r.count) c.record_of.ensures in
    let w : (c.args.class - 1) + 1 ≡ c.args.class = omega arith in
    let o = ap (obtained b) (sym w) ∙ obtained_new b k (omega arith) in
    same_bank refl refl (ap (λ u. c.args.self.now.left - u) (c.units_of.ensures ∙ units_size c.args.class (omega arith))) ∙ sym o
