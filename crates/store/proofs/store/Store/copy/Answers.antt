use Rattle.std.proofs.Common.{◌*◌, ◌≤◌, length, sym, ap, ◌∙◌, subst, arith}
use Rattle.store.specs.Units.{units, smallest}
use Rattle.store.specs.Bank.{bank, items_of, class_of, holding, cleared, obtainable}
use Rattle.store.specs.Held.{held}
use Rattle.store.proofs.Stores.{many, class_of_is, free_many}
use Rattle.store.proofs.Models.{had_class, copy_fits, other_offer}
use Rattle.store.proofs.Acts.{emptied, smallest_holds, smallest_none, anew_none, anew_own, anew_move, written_as, held_same}
use Rattle.store.proofs.store.Store.copy.Goals as goal

pub len-requires : goal.len-requires
len-requires g c = record { within = (copy_fits (bank c.args.self.now) c.args.from c.args.to c.requires.fits).0 }

pub settle-requires : goal.settle-requires
unfolding bank held
settle-requires g c = record { within = (copy_fits (bank c.args.self.now) c.args.from c.args.to c.requires.fits).1 }

pub bounds-self-to : goal.bounds-self-to
bounds-self-to g c =
    let m = many c.args.self.now in
    let h = (copy_fits (bank c.args.self.now) c.args.from c.args.to c.requires.fits).1 in
    omega arith

pub copy_anew-requires : goal.copy_anew-requires
copy_anew-requires g c =
    let s = c.args.self.now in
    let b = bank s in
    let n = length (items_of b c.args.from) in
    let e = c.class_for-class.ensures ∙ ap smallest c.len.ensures in
    let h = copy_fits b c.args.from c.args.to c.requires.fits in
    record {
      known = h.0;
      within = h.1;
      some = omega arith;
      had = sym (other_offer b c.args.to c.class_for-class.result (λ q. c.if-class-self.true (q ∙ class_of_is s c.args.to))) ∙ (ap (obtainable (cleared b c.args.to)) e ∙ h.2);
      room = subst (λ k. length (items_of (bank c.args.self.now) c.args.from) ≤ 4 * units k) (sym e) (smallest_holds n (had_class (cleared b c.args.to) (smallest n) h.2));
    }

pub copy_over-requires : goal.copy_over-requires
copy_over-requires g c =
    let s = c.args.self.now in
    let b = bank s in
    let n = length (items_of b c.args.from) in
    let k = class_of_is s c.args.to in
    let e = c.class_for-class.ensures ∙ ap smallest c.len.ensures in
    let h = copy_fits b c.args.from c.args.to c.requires.fits in
    record {
      known = h.0;
      within = h.1;
      other = c.if-from-to.true;
      some = omega arith;
      room = subst (λ k. length (items_of (bank c.args.self.now) c.args.from) ≤ 4 * units k) (sym e ∙ (c.if-class-self.false ∙ sym k)) (smallest_holds n (had_class (cleared b c.args.to) (smallest n) h.2));
    }

pub returns-then-class-eq0 : goal.returns-then-class-eq0
returns-then-class-eq0 g c =
    let s = c.args.self.now in
    let xs = items_of (bank s) c.args.from in
    let z = c.if-class-eq0.true in
    let e = c.class_for-class.ensures ∙ ap smallest c.len.ensures in
    record {
      holds = emptied s _ c.args.to c.settle.ensures.holds
          ∙ (sym (anew_none (bank s) c.args.to xs c.class_for-class.result z (smallest_none (length xs) (sym e ∙ z)))
          ∙ written_as (bank s) c.args.to xs c.class_for-class.result e);
    }

pub returns-then-class-self : goal.returns-then-class-self
returns-then-class-self g c =
    let s = c.args.self.now in
    let xs = items_of (bank s) c.args.from in
    let e = c.class_for-class.ensures ∙ ap smallest c.len.ensures in
    record {
      holds = c.copy_anew.ensures.holds
          ∙ (sym (anew_move (bank s) c.args.to xs c.class_for-class.result (λ q. c.if-class-self.true (q ∙ class_of_is s c.args.to)))
          ∙ written_as (bank s) c.args.to xs c.class_for-class.result e);
    }

pub returns-then-from-to : goal.returns-then-from-to
returns-then-from-to g c =
    let s = c.args.self.now in
    let xs = items_of (bank s) c.args.from in
    let k = class_of_is s c.args.to in
    let f = (s.blocks.filled.1 c.args.to).1 in
    let e = c.class_for-class.ensures ∙ ap smallest c.len.ensures in
    record {
      holds = c.copy_over.ensures.holds
          ∙ (sym (anew_own (bank s) c.args.to xs c.class_for-class.result (free_many s) (omega arith) (c.if-class-self.false ∙ sym k))
          ∙ written_as (bank s) c.args.to xs c.class_for-class.result e);
    }

pub returns-else-from-to : goal.returns-else-from-to
returns-else-from-to g c =
    let s = c.args.self.now in
    let xs = items_of (bank s) c.args.from in
    let k = class_of_is s c.args.to in
    let f = (s.blocks.filled.1 c.args.to).1 in
    let e = c.class_for-class.ensures ∙ ap smallest c.len.ensures in
    let same = ap (λ m. items_of (bank s) m) c.if-from-to.false in
    record {
      holds = sym (ap (λ ys. holding (bank s) c.args.to ys (class_of (bank s) c.args.to)) same ∙ held_same (bank s) c.args.to)
          ∙ (sym (anew_own (bank s) c.args.to xs c.class_for-class.result (free_many s) (omega arith) (c.if-class-self.false ∙ sym k))
          ∙ written_as (bank s) c.args.to xs c.class_for-class.result e);
    }
