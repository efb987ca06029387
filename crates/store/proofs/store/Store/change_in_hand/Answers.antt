use Rattle.std.proofs.Common.{◌<◌, length, sym, ap, ◌∙◌, subst}
use Rattle.std.proofs.lemmas.List.{length-set}
use Rattle.store.specs.Bank.{bank}
use Rattle.store.specs.Held.{held, exchange, filling}
use Rattle.store.proofs.Acts.{relisted, relisted_idle}
use Rattle.store.proofs.store.Store.change_in_hand.Goals as goal

pub swap_hand-requires-2 : goal.swap_hand-requires-2
unfolding bank held
swap_hand-requires-2 g c =
    let f = c.requires.keeps _ _ c.swap_hand.ensures.holds c.step.ensures in
    record { within = subst (λ n. c.args.l < n) (sym (ap (λ h. length h.lists) (f ∙ ap (λ h. filling h (held c.step.new.arg2).hand.items) c.swap_hand.ensures.holds) ∙ length-set _ _ _)) c.requires.within }

pub invariant_of-self : goal.invariant_of-self
unfolding bank held
invariant_of-self g c =
    let s = c.args.self.now in
    let xs = (held c.step.new.arg2).hand.items in
    let f = c.requires.keeps _ _ c.swap_hand.ensures.holds c.step.ensures in
    let e = c.swap_hand-2.ensures.holds ∙ ap (λ h. exchange h c.args.l) (f ∙ ap (λ h. filling h xs) c.swap_hand.ensures.holds) in
    record { idle = relisted_idle s c.swap_hand-2.new.self c.args.l xs c.requires.within e }

pub returns : goal.returns
unfolding bank held
returns g c =
    let s = c.args.self.now in
    let xs = (held c.step.new.arg2).hand.items in
    let f = c.requires.keeps _ _ c.swap_hand.ensures.holds c.step.ensures in
    let e = c.swap_hand-2.ensures.holds ∙ ap (λ h. exchange h c.args.l) (f ∙ ap (λ h. filling h xs) c.swap_hand.ensures.holds) in
    record { holds = (_, _, c.swap_hand.ensures.holds, c.step.ensures, relisted s c.swap_hand-2.new.self c.args.l xs e) }
