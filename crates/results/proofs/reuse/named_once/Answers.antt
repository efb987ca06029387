use Rattle.std.proofs.Common.{◌+◌, List, get_or, None, Option, ap, ◌∙◌, arith}
use Rattle.std.proofs.lemmas.Result.{err_from_is_err_and}
use Rattle.ir.specs.declared.entities.Value.{Value}
use Rattle.model.specs.Refusals.{Row}
use Rattle.model.specs.Edits.{repeated, reused}
use Rattle.defs.specs.Graphs.{judged}
use Rattle.results.specs.Seats.{named_again}
use Rattle.results.proofs.Each.{stopped, repeated_each, rest_of}
use Rattle.results.proofs.reuse.named_once.Goals as goal

abbrev again : List (Option Value) → Row
again es = repeated (reused es)

pub returns-in_err-unique_entry : goal.returns-in_err-unique_entry
returns-in_err-unique_entry c =
    let p = err_from_is_err_and c.from_residual.result c.from_residual.ensures.1 in
    rw (p.1, p.2) (stopped again named_again repeated_each
    c.args.reuse.now c.loop-k.k None _ (omega arith)
    (c.in_err-unique_entry.ensures ∙ ap (λ (es : List (Option Value)). judged (named_again (get_or c.args.reuse.now c.loop-k.k None) es)) (rest_of c.args.reuse.now (c.loop-k.k + 1))) c.loop-k.invariant)
