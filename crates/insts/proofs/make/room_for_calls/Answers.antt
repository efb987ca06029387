use Rattle.std.proofs.Common.{ℕ, List, ap, ◌∙◌}
use Rattle.std.proofs.lemmas.Result.{err_from_is_err_and}
use Rattle.store.specs.Bank.{bank, fault_for}
use Rattle.store.specs.Faults.{judged as pool-judged}
use Rattle.insts.proofs.Aims.{ones}
use Rattle.insts.proofs.Makes.{pool_passes, pool_stops}
use Rattle.insts.proofs.make.room_for_calls.Goals as goal

pub returns-in_err-room_for : goal.returns-in_err-room_for
returns-in_err-room_for c =
    let p = err_from_is_err_and c.from_residual.result c.from_residual.ensures.1 in
    let o = ones c.args.targets.now c.requires.few in
    rw (p.1, p.2) (pool_stops _ _ (c.in_err-room_for.ensures ∙ ap (λ (ns : List ℕ). pool-judged (fault_for (bank c.args.defs.now.words) ns)) o))

pub returns : goal.returns
returns c =
    let o = ones c.args.targets.now c.requires.few in
    pool_passes _ (c.in_ok-room_for.ensures ∙ ap (λ (ns : List ℕ). pool-judged (fault_for (bank c.args.defs.now.words) ns)) o)
