use Rattle.std.proofs.Common.{◌+◌, ◌*◌, ◌<◌, [], ◌∷◌, ◌++◌, length, sym, ap, ◌∙◌, subst, arith}
use Rattle.std.proofs.lemmas.List.{length_push}
use Rattle.store.specs.Units.{units, smallest}
use Rattle.store.specs.Bank.{bank, items_of, obtainable}
use Rattle.store.proofs.Models.{push_known, push_fits, had_class}
use Rattle.store.proofs.Acts.{pushed_grown, grown_as, smallest_holds, smallest_some}
use Rattle.store.proofs.store.Store.append.Goals as goal

pub grow-requires : goal.grow-requires
grow-requires g c =
    let b = bank c.args.self.now in
    let l = c.args.l in
    let n = length (items_of b l) + 1 in
    let e = c.class_for-class.ensures ∙ ap (λ m. smallest (m + 1)) c.len.ensures in
    let o = push_fits b l c.requires.fits (sym c.if-is_roomy.ensures) in
    let r = smallest_holds n (had_class b (smallest n) o) in
    record {
      within = push_known b l c.requires.fits;
      some = subst (λ k. 0 < k) (sym e) (smallest_some n (omega arith));
      had = ap (obtainable b) e ∙ o;
      room = subst (λ k. length (items_of (bank c.args.self.now) c.args.l) < 4 * units k) (sym e) (omega arith);
    }

pub returns-else-is_roomy : goal.returns-else-is_roomy
returns-else-is_roomy g c =
    let b = bank c.args.self.now in
    let xs = items_of b c.args.l in
    let e = c.class_for-class.ensures ∙ ap smallest (ap (λ i. i + 1) c.len.ensures ∙ sym (length_push xs c.args.v)) in
    record {
      holds = c.grow.ensures.holds
          ∙ (grown_as b c.args.l c.class_for-class.result (xs ++ c.args.v ∷ []) e
          ∙ sym (pushed_grown b c.args.l c.args.v (sym c.if-is_roomy.ensures)));
    }
