use Rattle.std.proofs.Common.{ℕ, [], length, sym, refl, ap, ◌∙◌, subst}
use Rattle.std.proofs.lemmas.Result.{err_from_is_err_and}
use Rattle.store.specs.Bank.{cleared, holding, obtained}
use Rattle.store.specs.Units.{smallest}
use Rattle.model.specs.State.{Graph, result_list}
use Rattle.model.specs.Edits.{make_inst_results_rows, with_words}
use Rattle.defs.specs.Graphs.{graph_of}
use Rattle.results.specs.Seats.{Seatable, seated_in}
use Rattle.results.proofs.Made.{answered, made, refused_by, seatable}
use Rattle.results.proofs.make.make_inst_results.Goals as goal

pub returns-in_err-judge : goal.returns-in_err-judge
returns-in_err-judge c =
    let g = graph_of c.args.defs.now in
    let p = err_from_is_err_and c.from_residual.result c.from_residual.ensures.1 in
    rw (p.1, p.2) (record {
      says = refused_by (make_inst_results_rows g c.args.inst c.args.types.now c.args.reuse.now) _ _ g _ c.in_err-judge.ensures;
      kept = refl;
    })

pub seat_results-requires : goal.seat_results-requires
seat_results-requires c =
    let g = graph_of c.args.defs.now in
    let ts = c.args.types.now in
    let us = c.args.reuse.now in
    let h = c.reserve_list.ensures.holds
    ∙ ap (λ (l : ℕ). with_words g (holding (obtained (cleared g.words l) (smallest (length ts))) l [] (smallest (length ts)))) c.result_list-list.ensures.says in
    record {
      fits = subst (λ (l : ℕ). Seatable (graph_of c.reserve_list.new.self) l ts us) (sym c.result_list-list.ensures.says)
          (subst (λ (x : Graph). Seatable x (result_list g c.args.inst) ts us) (sym h) (seatable g c.args.inst ts us c.in_ok-judge.ensures));
    }

pub returns : goal.returns
returns c =
    let g = graph_of c.args.defs.now in
    let ts = c.args.types.now in
    let us = c.args.reuse.now in
    let l = c.result_list-list.ensures.says in
    let h = c.reserve_list.ensures.holds
    ∙ ap (λ (l : ℕ). with_words g (holding (obtained (cleared g.words l) (smallest (length ts))) l [] (smallest (length ts)))) l in
    record {
      says = answered g c.args.inst ts us c.in_ok-judge.ensures (graph_of c.seat_results.new.defs)
          (c.seat_results.ensures.holds ∙ ((λ j. seated_in (h j) c.args.inst (l j) ts us) ∙ made g c.args.inst ts us c.in_ok-judge.ensures));
      kept = tt;
    }
