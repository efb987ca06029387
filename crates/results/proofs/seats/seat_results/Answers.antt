use Rattle.std.proofs.Common.{◌≡◌, length, get_or, None, Option, sym, ap, ◌∙◌, subst, arith}
use Rattle.ir.specs.declared.entities.Value.{Value}
use Rattle.ir.specs.declared.value_data.ValueData.TheVariants.{Inst}
use Rattle.store.specs.Bank.{fault_push, pushed}
use Rattle.model.specs.State.{Graph}
use Rattle.model.specs.Edits.{defined, with_defs, with_words}
use Rattle.defs.specs.Graphs.{graph_of}
use Rattle.results.specs.Seats.{Open, seat_of}
use Rattle.results.proofs.Seating.{start, open_next, fits, more_seated}
use Rattle.results.proofs.seats.seat_results.Goals as goal

pub loop-k-init : goal.loop-k-init
loop-k-init c =
    start (graph_of c.args.defs.now) c.args.inst c.args.list c.args.types.now c.args.reuse.now c.requires.fits

pub seat-v-requires-clause-open : goal.seat-v-requires-clause-open
seat-v-requires-clause-open c =
    subst (λ (e : Option Value). Open (graph_of c.loop-k.defs) e) (sym c.entry_at.ensures)
    (open_next (graph_of c.args.defs.now) c.args.inst c.args.list c.args.types.now c.args.reuse.now c.requires.fits c.loop-k.k (omega arith)
    (graph_of c.loop-k.defs) c.loop-k.invariant)

pub push_word-requires : goal.push_word-requires
push_word-requires c =
    record {
      fits = ap (λ (g : Graph). fault_push g.words c.args.list) c.seat-v.ensures.holds
          ∙ fits (graph_of c.args.defs.now) c.args.inst c.args.list c.args.types.now c.args.reuse.now c.requires.fits c.loop-k.k (omega arith)
          (graph_of c.loop-k.defs) c.loop-k.invariant;
    }

pub loop-k-preserved : goal.loop-k-preserved
loop-k-preserved c =
    let h = graph_of c.loop-k.defs in
    let ty = get_or c.args.types.now c.loop-k.k (record { 0 = 0 }) in
    let e = c.entry_at.ensures in
    let v : c.seat-v.result ≡ seat_of (length (graph_of c.loop-k.defs).defs) (get_or c.args.reuse.now c.loop-k.k None) =
    c.seat-v.ensures.says ∙ ap (seat_of (length (graph_of c.loop-k.defs).defs)) e in
    more_seated (graph_of c.args.defs.now) c.args.inst c.args.list c.args.types.now c.args.reuse.now c.requires.fits c.loop-k.k (omega arith)
    (graph_of c.loop-k.defs) c.loop-k.invariant (graph_of c.push_word.new.self)
    (c.push_word.ensures.holds
    ∙ (ap (λ (x : Graph). with_words x (pushed x.words c.args.list c.seat-v.result)) c.seat-v.ensures.holds
    ∙ (λ j. with_words (with_defs h (defined h.defs (seat_of (length h.defs) (e j)) (Inst ty c.loop-k.k c.args.inst))) (pushed h.words c.args.list (v j)))))
