use Rattle.std.proofs.Common.{sym, ap, ◌∙◌, arith}
use Rattle.store.specs.Units.{units}
use Rattle.store.specs.Bank.{bank}
use Rattle.store.proofs.Stores.{class_of_is, free_many}
use Rattle.store.proofs.Models.{other_offer}
use Rattle.store.proofs.Views.{none_units}
use Rattle.store.proofs.Acts.{emptied, anew_none, anew_own, anew_move}
use Rattle.store.proofs.store.Store.rewrite.Goals as goal

pub overwrite-requires-clause-some : goal.overwrite-requires-clause-some
overwrite-requires-clause-some g c = let k = class_of_is c.args.self.now c.args.l in omega arith

pub overwrite-requires-clause-room : goal.overwrite-requires-clause-room
overwrite-requires-clause-room g c =
    let u = ap units (c.if-class-self.true ∙ sym (class_of_is c.args.self.now c.args.l)) in
    omega arith

pub replace-requires-clause-had : goal.replace-requires-clause-had
replace-requires-clause-had g c =
    let s = c.args.self.now in
    sym (other_offer (bank s) c.args.l c.args.class (λ q. c.if-class-self.false (q ∙ class_of_is s c.args.l))) ∙ c.requires.had

pub returns-then-class-eq0 : goal.returns-then-class-eq0
returns-then-class-eq0 g c =
    let s = c.args.self.now in
    let u = ap units c.if-class-eq0.true ∙ none_units in
    record { holds = emptied s _ c.args.l c.settle.ensures.holds ∙ sym (anew_none (bank s) c.args.l c.args.xs.now c.args.class c.if-class-eq0.true (omega arith)) }

pub returns-then-class-self : goal.returns-then-class-self
returns-then-class-self g c =
    let s = c.args.self.now in
    let k = class_of_is s c.args.l in
    let f = (s.blocks.filled.1 c.args.l).1 in
    record {
      holds = c.overwrite.ensures.holds
          ∙ sym (anew_own (bank s) c.args.l c.args.xs.now c.args.class (free_many s) (omega arith) (c.if-class-self.true ∙ sym k));
    }

pub returns-else-class-self : goal.returns-else-class-self
returns-else-class-self g c =
    let s = c.args.self.now in
    record {
      holds = c.replace.ensures.holds
          ∙ sym (anew_move (bank s) c.args.l c.args.xs.now c.args.class (λ q. c.if-class-self.false (q ∙ class_of_is s c.args.l)));
    }
