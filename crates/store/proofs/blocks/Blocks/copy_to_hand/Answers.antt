use Rattle.std.proofs.Common.{◌*◌, map, get_or, drop, sym, refl, ap, ◌∙◌, arith}
use Rattle.std.proofs.Math.Seq.{paste}
use Rattle.store.specs.Bank.{layout, owned}
use Rattle.store.specs.Held.{held}
use Rattle.store.specs.Units.{no_head}
use Rattle.std.proofs.lemmas.List.{length-drop}
use Rattle.store.proofs.Views.{resize_apart, units_pos}
use Rattle.store.proofs.Items.{load_hand, lists_kept_from}
use Rattle.store.proofs.Stores.{same_held, resize_filled, hand_in, list_in, list_is, list_long}
use Rattle.store.proofs.blocks.Blocks.copy_to_hand.Goals as goal

pub shift-requires : goal.shift-requires
unfolding held owned
shift-requires g c =
    let s = c.args.self.now in
    let b = hand_in s in
    let a = list_in s c.args.l in
    let n = list_long s c.args.l in
    record { from = omega arith; to = omega arith }

pub invariant_of-self-clause-apart : goal.invariant_of-self-clause-apart
invariant_of-self-clause-apart g c = let s = c.args.self.now in resize_apart (layout s) (get_or s.heads.now c.args.l no_head).len s.apart

pub invariant_of-self-clause-filled : goal.invariant_of-self-clause-filled
unfolding held owned
invariant_of-self-clause-filled g c =
    let n = list_long c.args.self.now c.args.l in
    resize_filled c.args.self.now (get_or c.args.self.now.heads.now c.args.l no_head).len (omega arith)

pub returns : goal.returns
unfolding held owned
returns g c =
    let s = c.args.self.now in
    let l = c.args.l in
    let x = get_or s.heads.now l no_head in
    let b = hand_in s in
    let a = list_in s l in
    let n = list_long s l in
    let u = units_pos s.hand.class c.requires.some in
    let ld = length-drop (4 * x.start) s.cells.now in
    let e = c.shift.ensures
    ∙ (ap (λ a. paste s.cells.now c.first_cell-2.result (drop a s.cells.now) x.len) c.first_cell.ensures ∙ ap (λ a. paste s.cells.now a (drop (4 * x.start) s.cells.now) x.len) c.first_cell-2.ensures) in
    record {
      holds = same_held
          (ap (λ ys. owned ys (record { start = s.hand.start; len = x.len; class = s.hand.class })) e
          ∙ (load_hand s.cells.now (drop (4 * x.start) s.cells.now) s.hand.start x.len s.hand.class (omega arith) (omega arith)
          ∙ ap (λ o. record { items = o.items; class = s.hand.class }) (sym (list_is s l))))
          (ap (λ ys. map (owned ys) s.heads.now) e ∙ lists_kept_from s.cells.now (drop (4 * x.start) s.cells.now) (layout s) x.len s.apart s.filled u (omega arith) (omega arith) (omega arith))
          refl refl;
    }
