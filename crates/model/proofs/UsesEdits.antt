-- Every edit but flattening keeps uses alive.
use Rattle.std.proofs.Common.{◌≡◌, ℕ, suc, ◌+◌, ◌*◌, ◌<◌, ◌≤◌, true, not, ltb, leb, ◌≢◌, List, [], ◌∷◌, ◌++◌, map, length, get_or, take, drop, set, None, Ok, Err, Option, Result, sym, refl, ap, ◌∙◌, subst, ◌⊎◌, inl, inr, arith, Some}
use Rattle.std.specs.List.{remove as removed, AllByRecursion as All}
use Rattle.std.proofs.lemmas.List.{get_or-set_same, get_or-set_other, length-set, length_push, length-append}
use Rattle.std.proofs.ByRecursion.{All-push, All-set, All-map}
use Rattle.std.proofs.lemmas.Bool.{cases_eq, leb-false, ltb-true, not-false, and_parts}
use Rattle.ir.specs.declared.entities.Value.{Value}
use Rattle.ir.specs.declared.entities.Inst.{Inst as InstId}
use Rattle.ir.specs.declared.entities.Block.{Block}
use Rattle.ir.specs.declared.value_data.ValueData.{ValueData}
use Rattle.ir.specs.declared.value_data.ValueData.TheVariants.{Inst, Param, Alias, Union}
use Rattle.ir.specs.Packing.{type}
use Rattle.ir.specs.Arguments.{encoded, value_of}
use Rattle.store.specs.Bank.{Bank, items_of, removed_at, written, cleared, copied}
use Rattle.table.specs.Table.{Table, Row as TableRow, count, operands, row, accepted, with_row, add_answer, add_table, copy_answer, copy_table}
use Rattle.table.specs.declared.fault.TableFault.{TableFault}
use Rattle.values.specs.Leads.{at}
use Rattle.renaming.specs.Renames.{end_of}
use Rattle.model.specs.declared.fault.GraphFault.TheVariants.{Kind, Full}
use Rattle.model.specs.declared.labels.Start.{Start}
use Rattle.model.specs.declared.labels.Label.{Label}
use Rattle.model.specs.declared.labels.Label.TheVariants as label
use Rattle.model.specs.Refusals.{Row, when, by_table, done, settle}
use Rattle.model.specs.State.{Graph, State, Limits, starts, alias, value, inst, block, param_list, result_list, call_list, params, results, call, has_call, arguments, values_in, call_values, inst_values}
use Rattle.model.specs.Edits.{is_param, is_result, block_of, inst_of, number, unknown_block, unknown_inst, make_inst_results_rows, with_results, without_results, replace_rows, replaced, remove_rows, param_removed, param_swap_removed, append_param_rows, param_appended, attach_param_rows, param_attached, detach_rows, without_params, written_over, change_rows, aliased, aliased_each, replace_aliases_rows, union_rows, with_defs, with_words, unknown_call, in_list, append_argument_rows, word_of, argument_appended, remove_argument_rows, set_label_rows, labelled, with_labels, with_inst, aimed, make_inst_rows, clone_rows, calls_copied, inst_cloned, map_rows, calls_renamed, renamed_word, with_operands, readdressed, overwrite_rows, calls_poured, poured}
use Rattle.model.specs.Runs.{Edit, Answer, on_graph, on_state, resolve_all_aliases, a_block, a_value, a_number, an_inst, is_plain, is_detached, does, make_block, make_inst, make_inst_results, clear_results, replace_result, replace_block_param, remove_block_param, swap_remove_block_param, append_block_param, attach_block_param, detach_block_params, clone_inst, append_argument, remove, map_inst_values, overwrite_inst_values, change_to_alias, replace_with_aliases, union, set_label}
use Rattle.model.specs.Laws.{Usable}
use Rattle.model.proofs.Rows.{Passes, graph_done, state_done, when_none}
use Rattle.model.proofs.Invariant.{Good}
use Rattle.model.proofs.Banks.{OnlyList, items_other, readdressed_only, written_only, cleared_only, changed_only, pushed_only, removed_at_only, swap_removed_at_only, copied_only}
use Rattle.model.proofs.UsesWords.{Fair, encoded_fair, renamed_alive, poured_fair}
use Rattle.model.proofs.Uses.{SpareLabels, StayUsable, UsesKept, all_split, all_unmap, all_take_split, all_appended, all_removed, all_readdressed, Args, args_away, args_only, usable_values, RowsAlive, CallsAlive, uses_from, operands_alive, rows_alive, calls_alive, labels_alive}

-- a call's list is no result's,
result_away : (g : Graph) (d i : InstId) (j : ℕ) → j < 2 → call_list g i j ≢ result_list g d
result_away g d i j h e = omega arith

-- and no parameter's
param_away : (g : Graph) (b : Block) → b.0 < g.limits.blocks → (i : InstId) (j : ℕ) → j < 2 → call_list g i j ≢ param_list g b
param_away g b l i j h e = omega arith

-- the block that a parameter names exists
block_exists : (s : State) → Good s → (v : Value) → is_param (at s.graph.defs v) ≡ true →
    (block_of (at s.graph.defs v)).0 < s.graph.limits.blocks
block_exists s good v h = by (at s.graph.defs v) refl h
  where
    by : (d : ValueData) → at s.graph.defs v ≡ d → is_param d ≡ true → (block_of d).0 < s.graph.limits.blocks
    by (Inst ty n i) e q = absurd cc
    by (Param ty n b) e q = omega (arith, good.homes.of_param v ty n b e, good.sized.blocks_fit)
    by (Alias ty r) e q = absurd cc
    by (Union ty x y) e q = absurd cc

-- new targets bring no arguments
aimed_args : (P : Value → Type 0) (g : Graph) (i : InstId) (j : ℕ) (ts : List Block) (b : Bank Value) (m : ℕ) → Args P b m →
    Args P (aimed g i j ts b) m
aimed_args P g i j [] b m h = h
aimed_args P g i j (x ∷ ts) b m h =
    aimed_args P g i (j + 1) ts (written b (call_list g i j) (value x.0 ∷ [])) m
    (args_only P (written_only b (call_list g i j) (value x.0 ∷ [])) tt m h)

-- a row that passed is added
added : {A : Type 0} (r : Result A TableFault) (x y : Table) → by_table r ≡ None → accepted r x y ≡ x
added (Ok a) x y e = refl
added (Err f) x y e = absurd cc

-- what may be used before an edit may be used after it, and no value is lost
abbrev pub Keeps : State → State → Type 0
Keeps s t = StayUsable s.graph.defs t.graph.defs × (length s.graph.defs ≤ length t.graph.defs)

-- the same instructions, labels and limits
abbrev Steady : Graph → Graph → Type 0
Steady g h = (h.insts ≡ g.insts) × (h.labels ≡ g.labels) × (h.limits ≡ g.limits)

module _ (s t : State) (a : Answer) (good : Good s) (spare : SpareLabels s.graph)
    (kept : StayUsable s.graph.defs t.graph.defs)
    (longer : length s.graph.defs ≤ length t.graph.defs) where
  -- the state that an edit gives is t
  there : (u : State) → u ≡ t → (Keeps s u → UsesKept u) → UsesKept t
  there u e f = subst (λ (x : State). Keeps s x → UsesKept x) e f (kept, longer)

  -- an edit that leaves labels and limits
  steady_kept : (u : State) → u ≡ t → (u.graph.labels ≡ s.graph.labels) × (u.graph.limits ≡ s.graph.limits) →
      (Keeps s u → RowsAlive u.graph.defs u.table × CallsAlive u.graph.defs s.graph u.graph.words
      × (u.graph.insts ≡ count u.table)) →
      UsesKept t
  steady_kept u e same f = there u e (λ k.
      let r = f k in
      uses_from u r.0
      (subst (λ (m : Limits). (i : InstId) (j : ℕ) → j < 2 →
      Args (Fair (Usable u.graph.defs)) u.graph.words (m.blocks + (3 * i.0 + (1 + j))))
      (sym same.1) r.1)
      (rw same.0 (labels_alive s good u.graph.defs k.0 spare)) r.2
      (λ m h. rw same.0 (spare m (omega (arith, k.1)))))

  -- a call's list stays where another list changes
  others_alive : (ds : List ValueData) → StayUsable s.graph.defs ds → {b : Bank Value} {l : ℕ} {xs : List Value} →
      OnlyList s.graph.words b l xs → ((i : InstId) (j : ℕ) → j < 2 → call_list s.graph i j ≢ l) → CallsAlive ds s.graph b
  others_alive ds k o away i j h = args_away (Fair (Usable ds)) o (call_list s.graph i j) (away i j h) (calls_alive s good ds k i j h)

  -- an edit of the graph alone, which leaves instructions, labels and limits
  graph_kept : {A : Type 0} (answer : A → Answer) (rows : List Row) (x : A) (g : Graph) → Steady s.graph g →
      on_graph s answer (settle rows x g) ≡ done a t →
      (Passes rows → StayUsable s.graph.defs g.defs → CallsAlive g.defs s.graph g.words) → UsesKept t
  graph_kept answer rows x g same e calls =
      let d = graph_done s answer rows x g a t e in
      steady_kept (record { graph = g; table = s.table }) d.1 (same.1, same.2)
      (λ k. (rows_alive s good g.defs k.0, calls d.0 k.0, same.0 ∙ good.counts))

  -- of a value that passed as a parameter
  param_of : (v : Value) → when (not (is_param (at s.graph.defs v))) (Kind v.0) ≡ None →
      (i : InstId) (j : ℕ) → j < 2 → call_list s.graph i j ≢ param_list s.graph (block_of (at s.graph.defs v))
  param_of v e = param_away s.graph (block_of (at s.graph.defs v))
      (block_exists s good v (not-false (is_param (at s.graph.defs v)) (when_none _ _ e)))

  -- of a block that passed
  params_of : (b : Block) → unknown_block s.graph b ≡ None → (i : InstId) (j : ℕ) → j < 2 →
      call_list s.graph i j ≢ param_list s.graph b
  params_of b e = param_away s.graph b
      (omega (arith, leb-false s.graph.blocks b.0 (when_none _ _ e), good.sized.blocks_fit))

  -- a call's list stays alive where what is put into a list is
  call_alive : (ds : List ValueData) → StayUsable s.graph.defs ds → {b : Bank Value} {l : ℕ} {xs : List Value} →
      OnlyList s.graph.words b l xs → All (Fair (Usable ds)) (drop 1 xs) → CallsAlive ds s.graph b
  call_alive ds k o p i j h = args_only (Fair (Usable ds)) o p (call_list s.graph i j) (calls_alive s good ds k i j h)

  -- a call that passed
  call_of : (i : InstId) (j : ℕ) → unknown_call s.graph i j ≡ None → j < 2
  call_of i j e =
      ltb-true j 2 (and_parts (ltb j 2) (ltb 0 (length (call s.graph i j)))
      (not-false (has_call s.graph i j) (when_none _ _ e))).0

  -- another label of a value that exists
  label_kept : (n : ℕ) (l : Option Label) (b : Bank Start) → n < length s.graph.defs →
      ((from : ℕ) (target : Value) → l ≡ Some (label.Alias from target) → Usable s.graph.defs target) →
      record { graph = with_labels s.graph (set s.graph.labels n l) b; table = s.table } ≡ t → UsesKept t
  label_kept n l b h new e = there _ e (λ k.
      uses_from (record { graph = with_labels s.graph (set s.graph.labels n l) b; table = s.table })
      (rows_alive s good s.graph.defs k.0) (calls_alive s good s.graph.defs k.0)
      (λ m from target q. elim (cases_eq m n) [
        | inl p ↦ new from target (sym (here m p) ∙ q)
        | inr ne ↦ labels_alive s good s.graph.defs k.0 spare m from target
            (sym (get_or-set_other s.graph.labels n m l None ne) ∙ q)
      ])
      good.counts
      (λ m i. get_or-set_other s.graph.labels n m l None (λ p. omega arith) ∙ spare m i))
    where
      here : (m : ℕ) → m ≡ n → get_or (set s.graph.labels n l) m None ≡ l
      here m p = rw p (get_or-set_same s.graph.labels n l None
          (omega (arith, good.sized.values_fit, good.sized.labels_enough)))

  -- an edit of the state, which leaves labels and limits
  state_kept : {A : Type 0} (answer : A → Answer) (rows : List Row) (x : A) (u : State) →
      (u.graph.labels ≡ s.graph.labels) × (u.graph.limits ≡ s.graph.limits) → on_state answer (settle rows x u) ≡ done a t →
      (Passes rows → Keeps s u → RowsAlive u.graph.defs u.table × CallsAlive u.graph.defs s.graph u.graph.words
      × (u.graph.insts ≡ count u.table)) →
      UsesKept t
  state_kept answer rows x u same e f = let d = state_done answer rows x u a t e in steady_kept u d.1 same (f d.0)

  -- a row more
  row_more : (ds : List ValueData) → StayUsable s.graph.defs ds → (r : TableRow) → All (Usable ds) r.operands →
      RowsAlive ds (with_row s.table r)
  row_more ds k r h = All-push (λ x. All (Usable ds) x.operands) s.table.rows r (rows_alive s good ds k) h

  count_more : (r : TableRow) → s.graph.insts + 1 ≡ count (with_row s.table r)
  count_more r = ap (λ (n : ℕ). n + 1) good.counts ∙ sym (length_push s.table.rows r)

  -- another row and other arguments of an instruction
  inst_kept : (ds : List ValueData) → StayUsable s.graph.defs ds →
      (i : InstId) (os : List Value) (c d : List Value → List Value) →
      All (Usable ds) os → All (Fair (Usable ds)) (c (arguments s.graph i 0)) → All (Fair (Usable ds)) (d (arguments s.graph i 1)) →
      RowsAlive ds (with_operands s.table i os)
      × CallsAlive ds s.graph (readdressed (readdressed s.graph.words (call_list s.graph i 0) c) (call_list s.graph i 1) d)
      × (s.graph.insts ≡ count (with_operands s.table i os))
  inst_kept ds k i os c d ho hc hd =
      let P : Value → Type 0 = Fair (Usable ds) in
      let b : Bank Value = s.graph.words in
      let l : ℕ = call_list s.graph i 0 in
      let m : ℕ = call_list s.graph i 1 in
      let one = readdressed_only b l c in
      let two = readdressed_only (readdressed b l c) m d in
      let r : TableRow = record { opcode = (row s.table i.0).opcode; operands = os } in
      let apart : m ≢ l = λ q. omega arith in (
        All-set (λ x. All (Usable ds) x.operands) s.table.rows i.0 r ho (rows_alive s good ds k),
        (λ x j h. args_only P two
            (all_readdressed P (items_of (readdressed b l c) m) (d (drop 1 (items_of (readdressed b l c) m)))
            (subst (λ (ws : List Value). All P (d (drop 1 ws))) (sym (items_other one m apart)) hd))
            (call_list s.graph x j)
            (call_alive ds k one (all_readdressed P (items_of b l) (c (drop 1 (items_of b l))) hc) x j h)),
        good.counts ∙ sym (length-set s.table.rows i.0 r),
      )

  -- each edit, but flattening
  pub uses_or_flat : (x : Edit) → does x s ≡ done a t → UsesKept t ⊎ (x ≡ resolve_all_aliases)
  uses_or_flat make_block e = inl (
      let g : Graph = s.graph in
      graph_kept a_block (when (leb g.limits.blocks g.blocks) (Full g.limits.blocks) ∷ []) (block g.blocks)
      (record { defs = g.defs; blocks = g.blocks + 1; insts = g.insts; words = g.words; labels = g.labels; starts = g.starts; limits = g.limits })
      (refl, refl, refl) e (λ p k. calls_alive s good s.graph.defs k))
  uses_or_flat (make_inst_results i ts reuse) e = inl (
      graph_kept a_number (make_inst_results_rows s.graph i ts reuse) (length ts) (with_results s.graph i ts reuse) (refl, refl, refl) e
      (λ p k. others_alive _ k (written_only s.graph.words (result_list s.graph i) _) (result_away s.graph i)))
  uses_or_flat (clear_results i) e = inl (
      graph_kept is_plain (unknown_inst s.graph i ∷ []) tt (without_results s.graph i) (refl, refl, refl) e
      (λ p k. others_alive _ k (cleared_only s.graph.words (result_list s.graph i)) (result_away s.graph i)))
  uses_or_flat (replace_result v ty) e = inl (
      let d : ValueData = at s.graph.defs v in
      graph_kept a_value (replace_rows s.graph v ty (is_result d)) (value (length s.graph.defs))
      (replaced s.graph (result_list s.graph (inst_of d)) (number d) (Inst ty (number d) (inst_of d))) (refl, refl, refl) e
      (λ p k. others_alive _ k
      (changed_only s.graph.words (result_list s.graph (inst_of d)) (number d) (value (length s.graph.defs)))
      (result_away s.graph (inst_of d))))
  uses_or_flat (replace_block_param v ty) e = inl (
      let d : ValueData = at s.graph.defs v in
      graph_kept a_value (replace_rows s.graph v ty (is_param d)) (value (length s.graph.defs))
      (replaced s.graph (param_list s.graph (block_of d)) (number d) (Param ty (number d) (block_of d))) (refl, refl, refl) e
      (λ p k. others_alive _ k
      (changed_only s.graph.words (param_list s.graph (block_of d)) (number d) (value (length s.graph.defs)))
      (param_of v p.1.1.1.0)))
  uses_or_flat (remove_block_param v) e = inl (
      let d : ValueData = at s.graph.defs v in
      graph_kept is_plain (remove_rows s.graph v) tt (param_removed s.graph (block_of d) (number d)) (refl, refl, refl) e
      (λ p k. others_alive _ k (removed_at_only s.graph.words (param_list s.graph (block_of d)) (number d)) (param_of v p.1.1.0)))
  uses_or_flat (swap_remove_block_param v) e = inl (
      let d : ValueData = at s.graph.defs v in
      graph_kept a_number (remove_rows s.graph v) (number d) (param_swap_removed s.graph (block_of d) (number d)) (refl, refl, refl) e
      (λ p k. others_alive _ k (swap_removed_at_only s.graph.words (param_list s.graph (block_of d)) (number d)) (param_of v p.1.1.0)))
  uses_or_flat (append_block_param b ty) e = inl (
      graph_kept a_value (append_param_rows s.graph b ty) (value (length s.graph.defs)) (param_appended s.graph b ty) (refl, refl, refl) e
      (λ p k. others_alive _ k (pushed_only s.graph.words (param_list s.graph b) (value (length s.graph.defs))) (params_of b p.0)))
  uses_or_flat (attach_block_param b v) e = inl (
      graph_kept is_plain (attach_param_rows s.graph b v) tt (param_attached s.graph b v) (refl, refl, refl) e
      (λ p k. others_alive _ k (pushed_only s.graph.words (param_list s.graph b) v) (params_of b p.0)))
  uses_or_flat (detach_block_params b out) e = inl (
      graph_kept is_detached (detach_rows s.graph b out) (length (params s.graph b), written_over out (params s.graph b))
      (without_params s.graph b) (refl, refl, refl) e
      (λ p k. others_alive _ k (cleared_only s.graph.words (param_list s.graph b)) (params_of b p.0)))
  uses_or_flat (change_to_alias d v) e = inl (
      graph_kept is_plain (change_rows s.graph d v) tt
      (with_defs s.graph (aliased s.graph.defs d (end_of s.graph.defs v))) (refl, refl, refl) e
      (λ p k. calls_alive s good _ k))
  uses_or_flat (replace_with_aliases d i) e = inl (
      graph_kept is_plain (replace_aliases_rows s.graph d i) tt
      (without_results (with_defs s.graph (aliased_each s.graph.defs (results s.graph d) (results s.graph i))) d) (refl, refl, refl) e
      (λ p k. others_alive _ k (cleared_only s.graph.words (result_list s.graph d)) (result_away s.graph d)))
  uses_or_flat (union x y) e = inl (
      graph_kept a_value (union_rows s.graph x y) (value (length s.graph.defs))
      (with_defs s.graph (s.graph.defs ++ Union (type (at s.graph.defs x)) x y ∷ [])) (refl, refl, refl) e
      (λ p k. calls_alive s good _ k))
  uses_or_flat (append_argument i j arg) e = inl (
      let l : ℕ = call_list s.graph i j in
      graph_kept is_plain (append_argument_rows s.graph i j arg) tt (argument_appended s.graph i j arg) (refl, refl, refl) e
      (λ p k. call_alive s.graph.defs k (pushed_only s.graph.words l (word_of (encoded arg)))
      (all_appended (Fair (Usable s.graph.defs)) (items_of s.graph.words l) (word_of (encoded arg))
      (calls_alive s good s.graph.defs k i j (call_of i j p.1.0))
      (encoded_fair (Usable s.graph.defs) arg p.1.1.1.1.0
      (usable_values s.graph (in_list (value_of arg)) p.1.1.0 p.1.1.1.0)))))
  uses_or_flat (remove i j n) e = inl (
      let l : ℕ = call_list s.graph i j in
      let one : suc n ≡ n + 1 = omega arith in
      graph_kept is_plain (remove_argument_rows s.graph i j n) tt
      (with_words s.graph (removed_at s.graph.words l (n + 1))) (refl, refl, refl) e
      (λ p k. call_alive s.graph.defs k (removed_at_only s.graph.words l (n + 1))
      (subst (λ (m : ℕ). All (Fair (Usable s.graph.defs)) (drop 1 (removed (items_of s.graph.words l) m))) one
      (all_removed (Fair (Usable s.graph.defs)) (items_of s.graph.words l) n
      (calls_alive s good s.graph.defs k i j (call_of i j p.1.0))))))
  uses_or_flat (set_label v (starts ss)) e = inl (
      let d = graph_done s is_plain (set_label_rows s.graph v (starts ss)) tt (labelled s.graph v (starts ss)) a t e in
      label_kept v.0 (Some label.Starts) (written s.graph.starts v.0 ss)
      (usable_values s.graph (v ∷ []) d.0.0 d.0.1.0).0.0
      (λ from target q. absurd cc) d.1)
  uses_or_flat (set_label v (alias from target)) e = inl (
      let d = graph_done s is_plain (set_label_rows s.graph v (alias from target)) tt (labelled s.graph v (alias from target)) a t e in
      let u = usable_values s.graph (v ∷ target ∷ []) d.0.0 d.0.1.0 in
      label_kept v.0 (Some (label.Alias from target)) (cleared s.graph.starts v.0) u.0.0
      (λ f w q. let p : target ≡ w = cc in subst (Usable s.graph.defs) p u.1.0) d.1)
  uses_or_flat (make_inst op os ts) e = inl (
      let i : InstId = inst s.graph.insts in
      let r : TableRow = record { opcode = op; operands = os } in
      state_kept an_inst (make_inst_rows s os ts) i
      (record { graph = with_inst (with_words s.graph (aimed s.graph i 0 ts s.graph.words)); table = add_table s.table op os })
      (refl, refl) e
      (λ p k.
      let t-is : add_table s.table op os ≡ with_row s.table r =
      added (add_answer s.table (length os)) (with_row s.table r) s.table p.1.1.1.1.1.1.0 in (
        subst (RowsAlive s.graph.defs) (sym t-is)
            (row_more s.graph.defs k.0 r (usable_values s.graph os p.0 p.1.1.0)),
        (λ d j h. aimed_args (Fair (Usable s.graph.defs)) s.graph i 0 ts s.graph.words (call_list s.graph d j)
            (calls_alive s good s.graph.defs k.0 d j h)),
        count_more r ∙ ap count (sym t-is),
      )))
  uses_or_flat (clone_inst i) e = inl (
      let g : Graph = s.graph in
      let new : InstId = inst g.insts in
      let r : TableRow = row s.table i.0 in
      let ds : List ValueData = (inst_cloned g i).defs in
      let first : Bank Value = copied g.words (call_list g i 0) (call_list g new 0) in
      state_kept an_inst (clone_rows s i) new (record { graph = inst_cloned g i; table = copy_table s.table i }) (refl, refl) e
      (λ p k.
      let t-is : copy_table s.table i ≡ with_row s.table r =
      added (copy_answer s.table i) (with_row s.table r) s.table p.1.1.1.0 in
      let one : CallsAlive ds g first =
      call_alive ds k.0 (copied_only g.words (call_list g i 0) (call_list g new 0))
      (calls_alive s good ds k.0 i 0 (omega arith)) in
      let two : CallsAlive ds g (calls_copied g i new) =
      λ d j h. args_only (Fair (Usable ds)) (copied_only first (call_list g i 1) (call_list g new 1)) (one i 1 (omega arith))
      (call_list g d j) (one d j h) in (
        subst (RowsAlive ds) (sym t-is) (row_more ds k.0 r (operands_alive s good ds k.0 i.0)),
        (λ d j h. args_away (Fair (Usable ds)) (written_only (calls_copied g i new) (result_list g new) _) (call_list g d j)
            (result_away g new d j h) (two d j h)),
        count_more r ∙ ap count (sym t-is),
      )))
  uses_or_flat (map_inst_values i f) e = inl (
      let U : Value → Type 0 = Usable s.graph.defs in
      let os : List Value = operands s.table i.0 in
      state_kept is_plain (map_rows s i f) tt
      (record { graph = with_words s.graph (calls_renamed s.graph f i s.graph.words); table = with_operands s.table i (map f os) })
      (refl, refl) e
      (λ p k.
      let h = all_split (λ v. U (f v)) os (call_values s.graph i)
      (all_unmap U f (inst_values s i) (usable_values s.graph (map f (inst_values s i)) p.1.0 p.1.1.0)) in
      let c = all_split (λ v. U (f v)) (values_in (arguments s.graph i 0)) (values_in (arguments s.graph i 1)) h.1 in
      inst_kept s.graph.defs k.0 i (map f os) (map (renamed_word f)) (map (renamed_word f)) (All-map U f os h.0)
      (renamed_alive U f (arguments s.graph i 0) c.0) (renamed_alive U f (arguments s.graph i 1) c.1)))
  uses_or_flat (overwrite_inst_values i vs) e = inl (
      let U : Value → Type 0 = Usable s.graph.defs in
      let os : List Value = operands s.table i.0 in
      let us : List Value = drop (length os) vs in
      let xs : List Value = arguments s.graph i 0 in
      let ys : List Value = arguments s.graph i 1 in
      let m : ℕ = length (values_in xs) in
      let n : ℕ = length (values_in ys) in
      let long : length (inst_values s i) ≡ length os + (m + n) =
      length-append os (call_values s.graph i) ∙ ap (λ (q : ℕ). length os + q) (length-append (values_in xs) (values_in ys)) in
      state_kept is_plain (overwrite_rows s i vs) tt
      (record { graph = with_words s.graph (calls_poured s.graph i us); table = with_operands s.table i (take (length os) vs) })
      (refl, refl) e
      (λ p k.
      let h = all_take_split U (length os) (m + n) vs
      (subst (λ (q : ℕ). All U (take q vs)) long
      (usable_values s.graph (take (length (inst_values s i)) vs) p.1.0 p.1.1.0)) in
      let c = all_take_split U m n us h.1 in
      inst_kept s.graph.defs k.0 i (take (length os) vs) (λ ws. poured ws us) (λ ws. poured ws (drop m us)) h.0
      (poured_fair U xs us (calls_alive s good s.graph.defs k.0 i 0 (omega arith)) c.0)
      (poured_fair U ys (drop m us) (calls_alive s good s.graph.defs k.0 i 1 (omega arith)) c.1)))
  uses_or_flat resolve_all_aliases e = inr refl

  -- each edit, given what flattening does
  pub uses_kept : (does resolve_all_aliases s ≡ done a t → UsesKept t) → (x : Edit) → does x s ≡ done a t → UsesKept t
  uses_kept flat x e = elim (uses_or_flat x e) [
    | inl u ↦ u
    | inr p ↦ flat (subst (λ (y : Edit). does y s ≡ done a t) p e)
  ]
