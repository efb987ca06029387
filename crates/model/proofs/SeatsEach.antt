-- Every edit keeps the lists of results and parameters in order, if flattening does.
use Rattle.std.proofs.Common.{◌≡◌, ◌+◌, ◌<◌, ◌≤◌, leb, List, [], ◌∷◌, ◌++◌, map, length, get_or, drop, set, refl, not-suc-le-zero, arith, ◌-◌, take}
use Rattle.model.specs.Refusals.{done, when}
use Rattle.model.specs.State.{State, Graph, arguments, values_in, value, inst, params, results, result_list, call_list, attached, no_value}
use Rattle.model.specs.Runs.{Edit, Answer, does, make_block, make_inst, make_inst_results, clear_results, replace_result, replace_block_param, remove_block_param, swap_remove_block_param, append_block_param, attach_block_param, detach_block_params, clone_inst, append_argument, remove, map_inst_values, overwrite_inst_values, change_to_alias, replace_with_aliases, union, resolve_all_aliases, set_label, is_plain, is_detached, a_value, an_inst, a_block, a_number}
use Rattle.model.proofs.Invariant.{Good}
use Rattle.model.proofs.Seats.{SeatsKept, result_of, param_of, members, NamesMade, Seated, good_seated, seat_made, alias_made, union_made, at_added_new, after_adding, after_setting, redefined, reseated, recalled, one_block_more, one_inst_more, places_differ, Apart, Differ}
use Rattle.std.proofs.lemmas.Bool.{ltb-false, leb-false, not-false}
use Rattle.std.proofs.lemmas.List.{length-map}
use Rattle.ir.specs.declared.entities.Value.{Value}
use Rattle.ir.specs.declared.value_data.ValueData.{ValueData}
use Rattle.ir.specs.declared.value_data.ValueData.TheVariants.{Param, Alias, Union}
use Rattle.ir.specs.Packing.{type}
use Rattle.store.specs.Bank.{cleared, copied}
use Rattle.table.specs.Table.{operands}
use Rattle.values.specs.Leads.{at}
use Rattle.values.proofs.Ways.{at_same}
use Rattle.renaming.specs.Renames.{end_of}
use Rattle.model.specs.Edits.{with_defs, with_words, with_inst, is_result, is_param, number, inst_of, block_of, numbered, lowered, moved, last_of, param_removed, param_swap_removed, defined, seats, seated, with_results, reused, of_inst, among, repeated, result_types, inst_cloned}
use Rattle.model.proofs.Rows.{Passes, when_none}
use Rattle.model.proofs.Banks.{pushed_only, cleared_only, removed_at_only, copied_only}
use Rattle.model.specs.Edits as edit
use Rattle.model.proofs.SeatsEdits.{by_graph, by_state, known_inst, known_block, room_for, seats_pushed, added_kept, added_fits, result_form, param_form, seats_changed, set_kept, set_fits, seats_cleared, aliased_away, aliased_length, aliased_homes, known_call, readdressed_both, aimed_kept, room_for_inst, labelled_kept}
use Rattle.model.proofs.SeatsRemoving.{seats_param_removed, block_made, place_inside, seats_param_swap_removed}
use Rattle.model.proofs.SeatsResults.{Below, none_reused, seats_results, repeated_differ, elsewhere_apart}
use Rattle.model.proofs.DefsEdits.{known as known_values}

abbrev pub KeepsSeats : Edit → Type 0
KeepsSeats e = (s t : State) (a : Answer) → Good s → does e s ≡ done a t → SeatsKept t

pub seats_each : KeepsSeats resolve_all_aliases → (e : Edit) → KeepsSeats e
seats_each flat make_block s t a good e =
    by_graph s a_block (when (leb s.graph.limits.blocks s.graph.blocks) _ ∷ []) _ _ a t
    (λ p. one_block_more s.graph (good_seated s good) (leb-false s.graph.limits.blocks s.graph.blocks (when_none _ _ p.0))) e
seats_each flat (make_inst op os ts) s t a good e =
    by_state an_inst (edit.make_inst_rows s os ts) _ _ a t
    (λ p. let two = ltb-false 2 (length ts) (when_none _ _ p.1.1.1.1.0) in
    aimed_kept ts s.graph (inst s.graph.insts) 0 s.graph.words (omega arith) (omega arith)
    (one_inst_more s.graph (good_seated s good) (room_for_inst s.graph p.1.1.1.1.1.0))) e
seats_each flat (make_inst_results i ts reuse) s t a good e =
    by_graph s a_number (edit.make_inst_results_rows s.graph i ts reuse) _ _ a t (after s.graph (good_seated s good)) e
  where
    after : (g : Graph) → Seated g → Passes (edit.make_inst_results_rows g i ts reuse) → Seated (with_results g i ts reuse)
    after g p q =
        seats_results g p i (known_inst g i q.0) ts reuse
        (known_values g (reused (take (length ts) reuse)) q.1.0)
        (repeated_differ (reused (take (length ts) reuse)) q.1.1.1.1.1.1.0)
        (elsewhere_apart g p i (reused (take (length ts) reuse)) q.1.1.1.1.0)
        (room_for g (length ts - length (reused (take (length ts) reuse))) q.1.1.1.1.1.1.1.0)
seats_each flat (clear_results i) s t a good e =
    by_graph s is_plain (edit.unknown_inst s.graph i ∷ []) _ _ a t
    (λ p. seats_cleared s.graph (good_seated s good) (result_of i) (known_inst s.graph i p.0)) e
seats_each flat (replace_result v ty) s t a good e =
    let g = s.graph in
    let d = at s.graph.defs v in
    by_graph s a_value (edit.replace_rows g v ty (is_result d)) _ _ a t
    (λ p. seats_changed g (good_seated s good) v ty (result_of (inst_of d)) (type d) (number d)
    (result_form d (not-false (is_result d) (when_none _ _ p.1.1.1.0)))
    (not-false (attached g v) (when_none _ _ p.1.1.1.1.0)) p.1.1.1.1.1.0) e
seats_each flat (replace_block_param v ty) s t a good e =
    let g = s.graph in
    let d = at s.graph.defs v in
    by_graph s a_value (edit.replace_rows g v ty (is_param d)) _ _ a t
    (λ p. seats_changed g (good_seated s good) v ty (param_of (block_of d)) (type d) (number d)
    (param_form d (not-false (is_param d) (when_none _ _ p.1.1.1.0)))
    (not-false (attached g v) (when_none _ _ p.1.1.1.1.0)) p.1.1.1.1.1.0) e
seats_each flat (remove_block_param v) s t a good e =
    let g = s.graph in
    let p = good_seated s good in
    by_graph s is_plain (edit.remove_rows g v) _ _ a t
    (λ q. seats_param_removed g p (block_of (at g.defs v)) (number (at g.defs v)) (block_made g p v q) (place_inside g p v q)) e
seats_each flat (swap_remove_block_param v) s t a good e =
    let g = s.graph in
    let p = good_seated s good in
    by_graph s a_number (edit.remove_rows g v) _ _ a t
    (λ q. seats_param_swap_removed g p (block_of (at g.defs v)) (number (at g.defs v)) (block_made g p v q) (place_inside g p v q)) e
seats_each flat (append_block_param b ty) s t a good e =
    by_graph s a_value (edit.append_param_rows s.graph b ty) _ _ a t (after s.graph (good_seated s good)) e
  where
    after : (g : Graph) → Seated g → Passes (edit.append_param_rows g b ty) → Seated (edit.param_appended g b ty)
    after g p q =
        let m = known_block g b q.0 in
        let d : ValueData = Param ty (length (params g b)) b in
        seats_pushed g p (g.defs ++ d ∷ []) (param_of b) m (value (length g.defs)) ty (added_fits g d q.1.1.0)
        (after_adding (NamesMade g) g.defs d p.homes (seat_made g (param_of b) ty (length (params g b)) m))
        (at_added_new g.defs d) (added_kept g p d)
seats_each flat (attach_block_param b v) s t a good e =
    by_graph s is_plain (edit.attach_param_rows s.graph b v) _ _ a t (after s.graph (good_seated s good)) e
  where
    after : (g : Graph) → Seated g → Passes (edit.attach_param_rows g b v) → Seated (edit.param_attached g b v)
    after g p q =
        let m = known_block g b q.0 in
        let l = known_values g (v ∷ []) q.1.0 0 (omega arith) in
        let loosely = when_none _ _ q.1.1.1.0 in
        let ty = type (at g.defs v) in
        let d : ValueData = Param ty (length (params g b)) b in
        seats_pushed g p (set g.defs v.0 d) (param_of b) m v ty (set_fits g p v d)
        (after_setting (NamesMade g) g.defs d p.homes (seat_made g (param_of b) ty (length (params g b)) m) v)
        (at_same g.defs v d l) (set_kept g p v d loosely)
seats_each flat (detach_block_params b out) s t a good e =
    by_graph s is_detached (edit.detach_rows s.graph b out) _ _ a t
    (λ p. seats_cleared s.graph (good_seated s good) (param_of b) (known_block s.graph b p.0)) e
-- one instruction more, its calls copied, and new results
seats_each flat (clone_inst i) s t a good e =
    by_state an_inst (edit.clone_rows s i) _ _ a t
    (λ q. after s.graph (good_seated s good) (room_for_inst s.graph q.1.1.0)
    (room_for s.graph (length (results s.graph i)) q.1.1.1.1.0)) e
  where
    after : (g : Graph) → Seated g → g.insts < g.limits.insts → length g.defs + length (results g i) ≤ g.limits.values →
        Seated (inst_cloned g i)
    after g p more room =
        let new = inst g.insts in
        let ts = result_types g i in
        let m : g.insts < g.insts + 1 = omega arith in
        let b = copied g.words (call_list g i 0) (call_list g new 0) in
        let q = recalled (with_inst g) b new 0 _ (one_inst_more g p more) m (omega arith) (copied_only g.words (call_list g i 0) (call_list g new 0)) in
        let c = copied b (call_list g i 1) (call_list g new 1) in
        let r = recalled (with_words (with_inst g) b) c new 1 _ q m (omega arith) (copied_only b (call_list g i 1) (call_list g new 1)) in
        let n = length-map (results g i) (λ (v : Value). type (at g.defs v)) in
        let z = none_reused (λ (vs : List Value). length vs ≡ 0) (length ts) refl in
        seats_results (with_words (with_inst g) c) r new m ts []
        (none_reused (Below (length g.defs)) (length ts) (λ k l. absurd (not-suc-le-zero l)))
        (none_reused Differ (length ts) (λ j k x l. absurd (not-suc-le-zero l)))
        (λ j k o ne l. none_reused (Apart (get_or (members (with_words (with_inst g) c) j) k no_value)) (length ts) (λ x y. absurd (not-suc-le-zero y)))
        (omega arith)
seats_each flat (append_argument i j arg) s t a good e =
    by_graph s is_plain (edit.append_argument_rows s.graph i j arg) _ _ a t
    (λ p. recalled s.graph _ i j _ (good_seated s good) (known_inst s.graph i p.0) (known_call s.graph i j p.1.0)
    (pushed_only s.graph.words (call_list s.graph i j) _)) e
seats_each flat (remove i j k) s t a good e =
    by_graph s is_plain (edit.remove_argument_rows s.graph i j k) _ _ a t
    (λ p. recalled s.graph _ i j _ (good_seated s good) (known_inst s.graph i p.0) (known_call s.graph i j p.1.0)
    (removed_at_only s.graph.words (call_list s.graph i j) (k + 1))) e
seats_each flat (map_inst_values i f) s t a good e =
    by_state is_plain (edit.map_rows s i f) _ _ a t
    (λ p. readdressed_both s.graph (good_seated s good) i (map (edit.renamed_word f)) (map (edit.renamed_word f)) (known_inst s.graph i p.0)) e
seats_each flat (overwrite_inst_values i vs) s t a good e =
    let rest = drop (length (operands s.table i.0)) vs in
    by_state is_plain (edit.overwrite_rows s i vs) _ _ a t
    (λ p. readdressed_both s.graph (good_seated s good) i (λ ws. edit.poured ws rest)
    (λ ws. edit.poured ws (drop (length (values_in (arguments s.graph i 0))) rest)) (known_inst s.graph i p.0)) e
-- the destination stands nowhere
seats_each flat (change_to_alias d v) s t a good e =
    by_graph s is_plain (edit.change_rows s.graph d v) _ _ a t (after s.graph (good_seated s good)) e
  where
    after : (g : Graph) → Seated g → Passes (edit.change_rows g d v) → Seated (with_defs g (edit.aliased g.defs d (end_of g.defs v)))
    after g p q =
        let r = end_of g.defs v in
        let new : ValueData = Alias (type (at g.defs r)) r in
        redefined g (set g.defs d.0 new) p (set_fits g p d new)
        (after_setting (NamesMade g) g.defs new p.homes (alias_made g (type (at g.defs r)) r) d)
        (set_kept g p d new (when_none _ _ q.1.1.0))
seats_each flat (replace_with_aliases d i) s t a good e =
    by_graph s is_plain (edit.replace_aliases_rows s.graph d i) _ _ a t (after s.graph (good_seated s good)) e
  where
    after : (g : Graph) → Seated g → Passes (edit.replace_aliases_rows g d i) →
        Seated (edit.without_results (with_defs g (edit.aliased_each g.defs (results g d) (results g i))) d)
    after g p q =
        let m = known_inst g d q.0 in
        let n = aliased_length (results g d) (results g i) g.defs in
        let z = p.sized.values_fit in
        reseated g (edit.aliased_each g.defs (results g d) (results g i)) (cleared g.words (result_list g d)) (result_of d) [] p m
        (cleared_only g.words (result_list g d)) (omega arith)
        (aliased_homes g (results g d) (results g i) g.defs p.homes)
        (λ k l. absurd (not-suc-le-zero l))
        (λ j k o ne l. aliased_away (results g d) (results g i) g.defs (get_or (members g j) k no_value)
        (λ x r same. ne (places_differ g p j (result_of d) k x o m l r same).0))
-- one value more, which stands nowhere
seats_each flat (union x y) s t a good e =
    by_graph s a_value (edit.union_rows s.graph x y) _ _ a t (after s.graph (good_seated s good)) e
  where
    after : (g : Graph) → Seated g → Passes (edit.union_rows g x y) → Seated (with_defs g (g.defs ++ Union (type (at g.defs x)) x y ∷ []))
    after g p q =
        let ty = type (at g.defs x) in
        let d : ValueData = Union ty x y in
        redefined g (g.defs ++ d ∷ []) p (added_fits g d q.1.1.1.0)
        (after_adding (NamesMade g) g.defs d p.homes (union_made g ty x y)) (added_kept g p d)
seats_each flat (set_label v en) s t a good e =
    by_graph s is_plain (edit.set_label_rows s.graph v en) _ _ a t (λ p. labelled_kept s.graph (good_seated s good) v en) e
seats_each flat resolve_all_aliases s t a good e = flat s t a good e
