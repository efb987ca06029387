use Rattle.std.proofs.Common.{◌≡◌, ◌+◌, ◌<◌, length, sym, ap, subst, arith}
use Rattle.std.proofs.lemmas.Bool.{ltb-false}
use Rattle.model.specs.declared.fault.GraphFault.TheVariants.{Full}
use Rattle.model.proofs.Rows.{when_none}
use Rattle.ir.specs.declared.entities.Value.{Value}
use Rattle.store.specs.Bank.{Bank, items_of}
use Rattle.model.specs.State.{Graph}
use Rattle.defs.specs.Graphs.{graph_of}
use Rattle.insts.proofs.Clones.{renew_below, renew_ends, renew_lists, renew_more, renew_room, renew_starts, renew_type}
use Rattle.insts.proofs.clone.renew_results.Goals as goal

pub loop-k-init : goal.loop-k-init
loop-k-init c = renew_starts c.args.defs.now c.args.inst c.args.list

pub item-requires-clause-within : goal.item-requires-clause-within
item-requires-clause-within c =
    let e = renew_lists (graph_of c.args.defs.now) c.args.inst c.args.list c.loop-k.k c.loop-k.defs c.loop-k.invariant in omega arith

pub item-requires-clause-below : goal.item-requires-clause-below
item-requires-clause-below c =
    renew_below (graph_of c.args.defs.now) c.args.inst c.args.list c.loop-k.k c.loop-k.defs c.loop-k.invariant (omega arith) c.requires.within

pub define-v-requires-clause-room : goal.define-v-requires-clause-room
define-v-requires-clause-room c =
    let g = graph_of c.args.defs.now in
    let f = ltb-false g.limits.values (length g.defs + length (items_of g.words c.args.list)) (when_none _ (Full g.limits.values) c.requires.room) in
    renew_room g c.args.inst c.args.list c.loop-k.k c.loop-k.defs c.loop-k.invariant (omega arith) f

pub set_word-requires : goal.set_word-requires
set_word-requires c =
    let g = graph_of c.args.defs.now in
    let e = renew_lists g c.args.inst c.args.list c.loop-k.k c.loop-k.defs c.loop-k.invariant in
    let b = renew_below g c.args.inst c.args.list c.loop-k.k c.loop-k.defs c.loop-k.invariant (omega arith) c.requires.within in
    let w : (graph_of c.define-v.new.self).words ≡ (graph_of c.loop-k.defs).words = ap (λ (x : Graph). x.words) c.define-v.ensures.holds in
    record {
      within = subst (λ (x : Bank Value). c.args.list < length x.lists) (sym w) (omega arith);
      below = subst (λ (x : Bank Value). c.loop-k.k < length (items_of x c.args.list)) (sym w) b;
    }

pub loop-k-preserved : goal.loop-k-preserved
loop-k-preserved c =
    let g = graph_of c.args.defs.now in
    let t = renew_type g c.args.inst c.args.list c.loop-k.k c.loop-k.defs c.loop-k.invariant (omega arith) c.requires.within
    c.item.result c.type_among-ty.result c.args.defs.now.values.count c.item.ensures (sym c.args.defs.now.values.sized) c.type_among-ty.ensures.says in
    renew_more g c.args.inst c.args.list c.loop-k.k c.loop-k.defs c.loop-k.invariant (omega arith) c.requires.within
    c.type_among-ty.result c.define-v.result c.define-v.new.self c.set_word.new.self t c.define-v.ensures.says c.define-v.ensures.holds c.set_word.ensures.holds

pub returns : goal.returns
returns c =
    record {
      holds = renew_ends (graph_of c.args.defs.now) c.args.inst c.args.list c.loop-k.k c.loop-k.defs c.loop-k.invariant (omega arith);
    }
