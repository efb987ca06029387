use Rattle.std.proofs.Common.{◌≡◌, ◌+◌, List, sym, ap, ◌∙◌, arith}
use Rattle.std.proofs.lemmas.List.{get_or-set_other}
use Rattle.ir.specs.declared.entities.Value.{Value}
use Rattle.chain.specs.declared.cell.Link.{Link}
use Rattle.chain.specs.Links.{link, no_link, walked, Holds}
use Rattle.chain.proofs.Walks.{walked_read, holds_more, holds_chained, holds_walked}
use Rattle.chain.proofs.Means.{length_walked, free, inside, put_at, same_then}
use Rattle.chain.proofs.store.Chain.repeat.Goals as goal

pub bounds-self-from : goal.bounds-self-from
bounds-self-from c =
    let h = c.loop-k-test.true in
    omega (arith, c.loop-k.invariant.from h, c.requires.source, inside c.args.self.now c.loop-k.self _ c.loop-k.k c.requires.fits c.loop-k.invariant.same h)

pub put-requires : goal.put-requires
put-requires c = free c.args.self.now c.loop-k.self _ c.loop-k.k c.requires.fits c.loop-k.invariant.same c.loop-k-test.true

pub loop-k-preserved : goal.loop-k-preserved
loop-k-preserved c =
    let r = c.args.self.now in
    let s = c.loop-k.self in
    let i = c.loop-k.invariant in
    let k = c.loop-k.k in
    let h = c.loop-k-test.true in
    let n = c.args.n in
    let first = c.args.first in
    let used = r.extent.operand_total in
    let x : Link = link s.links.now c.loop-k.from in
    let same : x ≡ link r.links.now (first + k) = ap (link s.links.now) (i.from h) ∙ i.used (first + k) (omega (arith, c.requires.source)) in
    let wrote = put_at r s n k c.requires.fits i.same h x.value _ c.put.ensures.link in
    record {
      holds = holds_more s.links.now _ used k (walked r.links.now n first) x.value wrote (inside r s n k c.requires.fits i.same h)
          (ap (λ (y : Link). y.value) same ∙ sym (walked_read r.links.now first n k c.requires.chained h)) i.holds;
      from = λ l. ap (λ (y : Link). y.next) same ∙ c.requires.chained k l ∙ omega arith;
      used = λ j l. ap (λ (ls : List Link). link ls j) wrote ∙ get_or-set_other s.links.now (used + k) j _ no_link (λ z. absurd (omega (arith, z, l))) ∙ i.used j l;
      same = same_then _ _ _ i.same c.put.ensures.same;
    }

pub returns : goal.returns
returns c =
    let i = c.loop-k.invariant in
    let r = c.args.self.now in
    let used = r.extent.operand_total in
    let n = c.args.n in
    let os : List Value = walked r.links.now n c.args.first in
    let H : Holds c.loop-k.self.links.now used os n = λ j h. i.holds j (omega arith) in
    record { chained = holds_chained _ used n os H; holds = holds_walked _ used n os (length_walked r.links.now n c.args.first) H; same = i.same }
