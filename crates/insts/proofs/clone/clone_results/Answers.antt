use Rattle.std.proofs.Common.{◌≡◌, ℕ, ◌≤◌, List, length, sym, ap, ◌∙◌, subst, arith}
use Rattle.ir.specs.declared.entities.Value.{Value}
use Rattle.store.specs.Bank.{fault_copy, items_of}
use Rattle.model.specs.State.{Graph, result_list, results}
use Rattle.model.specs.Edits.{values_full}
use Rattle.defs.specs.Graphs.{graph_of}
use Rattle.insts.proofs.Clones.{renewed_copy}
use Rattle.insts.proofs.Copies.{copy_by_write, copy_items, copy_lists}
use Rattle.insts.proofs.clone.clone_results.Goals as goal

pub copy_list-requires : goal.copy_list-requires
copy_list-requires c =
    let g : Graph = graph_of c.args.defs.now in
    let p = c.result_list-from.ensures.says in
    let k = c.result_list-from.ensures.within in
    record {
      fits = ap (λ (l : ℕ). fault_copy g.words l c.result_list-to.result) p
          ∙ (ap (fault_copy g.words (result_list g c.args.inst)) c.result_list-to.ensures.says
          ∙ copy_by_write g.words (result_list g c.args.inst) (result_list g c.args.new) (omega arith) c.requires.fits);
    }

pub renew_results-requires : goal.renew_results-requires
renew_results-requires c =
    let g : Graph = graph_of c.args.defs.now in
    let h : Graph = graph_of c.copy_list.new.self in
    let e = c.copy_list.ensures.holds in
    let n = copy_lists g h c.result_list-from.result c.result_list-to.result e in
    let i : items_of h.words c.result_list-to.result ≡ results g c.args.inst =
    copy_items g h c.result_list-from.result c.result_list-to.result e c.result_list-to.ensures.within
    ∙ ap (items_of g.words) c.result_list-from.ensures.says in
    let k = c.result_list-to.ensures.within in
    record {
      within = omega arith;
      short = subst (λ (vs : List Value). length vs ≤ 65536) (sym i) c.requires.short;
      room = ap (λ (x : Graph). values_full x (length (items_of h.words c.result_list-to.result))) e
          ∙ (ap (λ (vs : List Value). values_full g (length vs)) i ∙ c.requires.room);
    }

pub returns : goal.returns
returns c =
    record {
      holds = c.renew_results.ensures.holds
          ∙ renewed_copy (graph_of c.args.defs.now) (graph_of c.copy_list.new.self) c.args.inst c.args.new c.result_list-from.result c.result_list-to.result
          c.result_list-from.ensures.says c.result_list-to.ensures.says c.result_list-to.ensures.within c.copy_list.ensures.holds;
    }
