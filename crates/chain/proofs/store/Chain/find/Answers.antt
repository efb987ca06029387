use Rattle.std.proofs.Common.{◌≡◌, ℕ, ◌+◌, get_or, sym, ap, ◌∙◌, arith}
use Rattle.table.specs.Table.{Row, no_value}
use Rattle.chain.specs.declared.cell.ChainRow.{ChainRow}
use Rattle.chain.specs.Links.{at, link}
use Rattle.chain.proofs.Walks.{walked_read}
use Rattle.chain.proofs.Means.{row_is, chained_at, below_at, in_row}
use Rattle.chain.proofs.store.Chain.find.Goals as goal

pub bounds-self-at : goal.bounds-self-at
bounds-self-at c =
    let s = c.args.self.now in
    let h = c.requires.within in
    omega (arith, c.loop.invariant, in_row s c.args.i h c.args.place c.requires.place, below_at s c.args.i h, s.extent.totalled, s.links_room)

pub loop-preserved : goal.loop-preserved
loop-preserved c =
    let s = c.args.self.now in
    let h = c.requires.within in
    ap (λ (m : ℕ). (link s.links.now m).next) c.loop.invariant ∙ chained_at s c.args.i h c.loop.counter (omega (arith, in_row s c.args.i h c.args.place c.requires.place)) ∙ omega arith

pub returns : goal.returns
returns c =
    let s = c.args.self.now in
    let i = c.args.i in
    let h = c.requires.within in
    let x : ChainRow = at s.rows.now i in
    let k : c.loop.counter ≡ c.args.place = omega arith in
    let e : c.loop.at ≡ x.first + c.args.place = c.loop.invariant ∙ ap (λ (m : ℕ). x.first + m) k in
    let j = in_row s i h c.args.place c.requires.place in
    record {
      place = e;
      used = omega (arith, e, j, below_at s i h);
      value = sym (ap (λ (r : Row). get_or r.operands c.args.place no_value) (row_is s i h)
          ∙ walked_read s.links.now x.first x.count c.args.place (chained_at s i h) j ∙ ap (λ (m : ℕ). (link s.links.now m).value) (sym e));
    }
