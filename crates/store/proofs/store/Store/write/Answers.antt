use Rattle.std.proofs.Common.{◌*◌, ◌≤◌, length, sym, ap, ◌∙◌, subst}
use Rattle.store.specs.Units.{units, smallest}
use Rattle.store.specs.Bank.{bank, cleared, obtainable}
use Rattle.store.proofs.Models.{write_fits, had_class}
use Rattle.store.proofs.Acts.{smallest_holds, written_as}
use Rattle.store.proofs.store.Store.write.Goals as goal

pub rewrite-requires : goal.rewrite-requires
rewrite-requires g c =
    let b = bank c.args.self.now in
    let n = length c.args.xs.now in
    let e = c.class_for.ensures in
    let h = write_fits b c.args.l n c.requires.fits in
    record {
      within = h.0;
      had = ap (obtainable (cleared b c.args.l)) e ∙ h.1;
      room = subst (λ k. length c.args.xs.now ≤ 4 * units k) (sym e) (smallest_holds n (had_class (cleared b c.args.l) (smallest n) h.1));
    }

pub returns : goal.returns
returns g c =
    record { holds = c.rewrite.ensures.holds ∙ written_as (bank c.args.self.now) c.args.l c.args.xs.now c.class_for.result c.class_for.ensures }
