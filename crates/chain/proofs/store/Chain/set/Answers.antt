use Rattle.std.proofs.Common.{ℕ, set, sym, ap, ◌∙◌, subst, length-set}
use Rattle.table.proofs.Held.{held}
use Rattle.chain.specs.Links.{no_cell, link, row_of}
use Rattle.chain.proofs.Walks.{Sound, set_mean, set_sound}
use Rattle.chain.proofs.Means.{cells}
use Rattle.chain.proofs.store.Chain.set.Goals as goal

pub invariant_of-self : goal.invariant_of-self
invariant_of-self c =
    let s = c.args.self.now in
    let ls = s.links.now in
    let T = subst (λ (m : ℕ). Sound (set ls m (record { value = c.args.value; next = (link ls m).next })) (cells s) s.extent.operand_total) (sym c.find-at.ensures.place) (set_sound s c.args.i c.args.place c.args.value c.requires) in
    record { rows_room = s.rows_room; links_room = simp length-set s.links_room; linked = T.linked; below = T.below; apart = T.apart; sums = T.sums }

pub returns : goal.returns
returns c =
    let s = c.args.self.now in
    let ls = s.links.now in
    ap (λ (m : ℕ). held no_cell row_of s.extent.inst_limit s.extent.operand_limit (set ls m (record { value = c.args.value; next = (link ls m).next })) (cells s)) c.find-at.ensures.place
    ∙ set_mean s c.args.i c.args.place c.args.value c.requires
