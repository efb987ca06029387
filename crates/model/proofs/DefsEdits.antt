-- What each accepted edit but flattening makes of the definitions.
use Rattle.std.proofs.Common.{◌≡◌, ℕ, zero, suc, ◌+◌, ◌<◌, Bool, true, false, cond, not, eqb, ltb, leb, ◌≢◌, List, [], ◌∷◌, ◌++◌, map, length, get_or, take, drop, Some, None, Option, sym, refl, ap, ◌∙◌, subst, not-suc-le-zero, arith, ◌⊎◌, inl, inr}
use Rattle.std.proofs.lemmas.Bool.{leb-false, eqb-true, eqb-false, not-false, or_parts, both_ways}
use Rattle.ir.specs.declared.entities.Value.{Value}
use Rattle.ir.specs.declared.entities.Inst.{Inst as InstId}
use Rattle.ir.specs.declared.entities.Block.{Block}
use Rattle.ir.specs.declared.entities.Type.{«Type» as Ty}
use Rattle.ir.specs.declared.value_data.ValueData.{ValueData}
use Rattle.ir.specs.declared.value_data.ValueData.TheVariants.{Inst, Param, Union}
use Rattle.ir.specs.Packing.{type, retired, retired_mark}
use Rattle.store.specs.Bank.{removed_at}
use Rattle.table.specs.Table.{operands, add_table, copy_table}
use Rattle.values.specs.declared.kind.Kind.TheVariants.{Root}
use Rattle.values.specs.Leads.{at, kind, Exists, NonAlias}
use Rattle.values.proofs.Ways.{end, non_alias_exists}
use Rattle.renaming.specs.Renames.{end_of}
use Rattle.renaming.proofs.Ends.{end_reached}
use Rattle.model.specs.declared.fault.GraphFault.{GraphFault}
use Rattle.model.specs.declared.fault.GraphFault.TheVariants.{Full}
use Rattle.model.specs.Refusals.{Row, when, done, settle}
use Rattle.model.specs.State.{Graph, State, starts, alias, value, inst, block, no_value, param_list, result_list, call_list, params, results}
use Rattle.model.specs.Edits as edit
use Rattle.model.specs.Edits.{unknown_values, retired_values, reused, mistyped, mistyped_places, types_differ, no_type}
use Rattle.model.specs.Runs.{Edit, Answer, a_value, an_inst, a_block, a_number, is_plain, is_detached, on_graph, on_state, does, make_block, make_inst, make_inst_results, clear_results, replace_result, replace_block_param, remove_block_param, swap_remove_block_param, append_block_param, attach_block_param, detach_block_params, clone_inst, append_argument, remove, map_inst_values, overwrite_inst_values, change_to_alias, replace_with_aliases, union, resolve_all_aliases, set_label}
use Rattle.model.specs.Laws.{Usable, ListsAreNamed}
use Rattle.model.proofs.Rows.{Passes, graph_done, state_done, when_none, first_of_none, cond_none}
use Rattle.model.proofs.Invariant.{Good}
use Rattle.model.proofs.Defs.{Sound, Kept, Fit, Aliasable, SidesOf, same_type, usable_leads, kept_same, kept_redefined, kept_aliased, kept_push, kept_lowered, kept_moved, kept_seated, kept_aliased_each, fit_none}

-- the definitions of t, which comes after s
abbrev pub DefsKept : State → State → Type 0
DefsKept s t = Kept s.graph.defs t.graph.defs

pub good_sound : (s : State) → Good s → Sound s.graph.defs
good_sound s g = record { home = g.home; sides = g.alive.sides_are }

-- an accepted edit keeps the definitions as what it gives does
module _ {A B : Type 0} (s t : State) (answer : A → Answer) (rows : List Row) (x : A) (a : Answer) where
  graph_kept : (after : Graph) → on_graph s answer (settle rows x after) ≡ done a t →
      (Passes rows → Kept s.graph.defs after.defs) → DefsKept s t ⊎ B
  graph_kept after e k =
      let q = graph_done s answer rows x after a t e in
      inl (subst (λ (u : State). DefsKept s u) q.1 (k q.0))

  state_kept : (after : State) → on_state answer (settle rows x after) ≡ done a t →
      (Passes rows → DefsKept s after) → DefsKept s t ⊎ B
  state_kept after e k =
      let q = state_done answer rows x after a t e in
      inl (subst (λ (u : State). DefsKept s u) q.1 (k q.0))

-- what the shared rows say where they do not hold

pub known : (g : Graph) (vs : List Value) → unknown_values g vs ≡ None → (k : ℕ) → k < length vs →
    Exists g.defs (get_or vs k no_value)
known g vs e k h =
    leb-false (length g.defs) (get_or vs k no_value).0
    (first_of_none (λ v. leb (length g.defs) v.0) _ vs e no_value k h)

unretired : (d : ValueData) → retired d ≡ false → d ≢ retired_mark
unretired d e p = both_ways (retired d) e (ap retired p)

pub usable : (g : Graph) (vs : List Value) → unknown_values g vs ≡ None → retired_values g vs ≡ None →
    (k : ℕ) → k < length vs → Usable g.defs (get_or vs k no_value)
usable g vs e f k h = (
  known g vs e k h,
  λ r. unretired (at g.defs (get_or vs k no_value)) (first_of_none (λ v. retired (at g.defs v)) _ vs f no_value k h) r.1,
)

-- the values to reuse, where the rows of make_inst_results do not hold
fits : (g : Graph) (ts : List Ty) (reuse : List (Option Value)) → unknown_values g (reused (take (length ts) reuse)) ≡ None →
    mistyped g ts reuse ≡ None → Fit g.defs ts reuse
fits g [] reuse e f = tt
fits g (t ∷ ts) [] e f = tt
fits g (t ∷ ts) (None ∷ reuse) e f = fits g ts reuse e f
fits g (t ∷ ts) (Some v ∷ reuse) e f =
    let u = cond_none (leb (length g.defs) v.0) _ (unknown_values g (reused (take (length ts) reuse))) e in
    let m = cond_kept (eqb (type (at g.defs v)).0 t.0) _ (mistyped g ts reuse) f in (
      leb-false (length g.defs) v.0 u.0,
      same_type (type (at g.defs v)) t (eqb-true (type (at g.defs v)).0 t.0 m.0),
      fits g ts reuse u.1 m.1,
    )
  where
    cond_kept : (b : Bool) (h : GraphFault) (r : Row) → cond b r (Some h) ≡ None → (b ≡ true) × (r ≡ None)
    cond_kept true h r p = (refl, p)
    cond_kept false h r p = absurd cc

-- types that do not differ are the same, and there is one
pub alike : (g : Graph) (d r : Value) → types_differ g d r ≡ false →
    (type (at g.defs r) ≡ type (at g.defs d)) × ((type (at g.defs d)).0 ≢ 0)
alike g d r e =
    let x : Ty = type (at g.defs d) in
    let y : Ty = type (at g.defs r) in
    let p = or_parts (not (eqb x.0 y.0)) (no_type x) e in
    (same_type y x (sym (eqb-true x.0 y.0 (not-false (eqb x.0 y.0) p.0))), eqb-false x.0 0 p.1)

alike_places : (g : Graph) (ds rs : List Value) → mistyped_places g ds rs ≡ None → (k : ℕ) → k < length ds → k < length rs →
    types_differ g (get_or ds k no_value) (get_or rs k no_value) ≡ false
alike_places g [] rs e k h l = absurd (not-suc-le-zero h)
alike_places g (d ∷ ds) [] e k h l = absurd (not-suc-le-zero l)
alike_places g (d ∷ ds) (r ∷ rs) e zero h l = (cond_none (types_differ g d r) _ (mistyped_places g ds rs) e).0
alike_places g (d ∷ ds) (r ∷ rs) e (suc k) h l =
    alike_places g ds rs (cond_none (types_differ g d r) _ (mistyped_places g ds rs) e).1 k (omega arith) (omega arith)

-- the results of two instructions
other_results : (s : State) → ListsAreNamed s → (d i : InstId) →
    d.0 < s.graph.insts → i.0 < s.graph.insts → d.0 ≢ i.0 →
    mistyped_places s.graph (results s.graph d) (results s.graph i) ≡ None →
    Aliasable s.graph.defs (results s.graph d) (results s.graph i)
other_results s n d i hd hi ne e =
    let g : Graph = s.graph in
    let x : ℕ → Value = λ k. get_or (results g d) k no_value in
    let y : ℕ → Value = λ k. get_or (results g i) k no_value in
    let types : (k : ℕ) → k < length (results g d) → k < length (results g i) → _ =
    λ k h l. alike g (x k) (y k) (alike_places g (results g d) (results g i) e k h l) in
    record {
      exist = λ k h. non_alias_exists g.defs (x k) (ap kind (n.by_results d k hd h).1);
      roots = λ k h. ap kind (n.by_results i k hi h).1;
      apart = λ j k h l p.
          let a = n.by_results d j hd h in
          let b = n.by_results i k hi l in
          let q : Inst b.0 k i ≡ Inst a.0 j d = sym b.1 ∙ ap (at g.defs) p ∙ a.1 in
          let z : i ≡ d = cc in
          ne (sym (ap (λ (m : InstId). m.0) z));
      same = λ k h l. (types k h l).0;
      typed = λ k h l. (types k h l).1;
    }

module _ (s t : State) (a : Answer) (G : Good s) where
  abbrev g : Graph
  g = s.graph

  -- the definitions as they are
  same : Kept g.defs g.defs
  same = kept_same g.defs (good_sound s G)

  -- one value more
  new : (x : ValueData) → kind x ≡ Root → SidesOf g.defs x → Kept g.defs (g.defs ++ x ∷ [])
  new x k u = kept_push g.defs x (good_sound s G) k u

  -- every edit, but flattening
  pub defs_kept : (x : Edit) → does x s ≡ done a t → DefsKept s t ⊎ (x ≡ resolve_all_aliases)
  defs_kept make_block e =
      graph_kept s t a_block (when (leb g.limits.blocks g.blocks) (Full g.limits.blocks) ∷ []) (block g.blocks) a
      (record { defs = g.defs; blocks = g.blocks + 1; insts = g.insts; words = g.words; labels = g.labels; starts = g.starts; limits = g.limits })
      e (λ p. same)
  defs_kept (make_inst op os ts) e =
      state_kept s t an_inst (edit.make_inst_rows s os ts) (inst g.insts) a
      (record {
        graph = edit.with_inst (edit.with_words g (edit.aimed g (inst g.insts) 0 ts g.words));
        table = add_table s.table op os;
      })
      e (λ p. same)
  defs_kept (clear_results i) e =
      graph_kept s t is_plain (edit.unknown_inst g i ∷ []) tt a (edit.without_results g i) e (λ p. same)
  defs_kept (detach_block_params b out) e =
      graph_kept s t is_detached (edit.detach_rows g b out) (length (params g b), edit.written_over out (params g b)) a
      (edit.without_params g b) e (λ p. same)
  defs_kept (append_argument i j arg) e =
      graph_kept s t is_plain (edit.append_argument_rows g i j arg) tt a (edit.argument_appended g i j arg) e (λ p. same)
  defs_kept (remove i j k) e =
      graph_kept s t is_plain (edit.remove_argument_rows g i j k) tt a
      (edit.with_words g (removed_at g.words (call_list g i j) (k + 1))) e (λ p. same)
  defs_kept (map_inst_values i f) e =
      state_kept s t is_plain (edit.map_rows s i f) tt a
      (record {
        graph = edit.with_words g (edit.calls_renamed g f i g.words);
        table = edit.with_operands s.table i (map f (operands s.table i.0));
      })
      e (λ p. same)
  defs_kept (overwrite_inst_values i vs) e =
      state_kept s t is_plain (edit.overwrite_rows s i vs) tt a
      (record {
        graph = edit.with_words g (edit.calls_poured g i (drop (length (operands s.table i.0)) vs));
        table = edit.with_operands s.table i (take (length (operands s.table i.0)) vs);
      })
      e (λ p. same)
  defs_kept (set_label v (starts ss)) e =
      graph_kept s t is_plain (edit.set_label_rows g v (starts ss)) tt a (edit.labelled g v (starts ss)) e (λ p. same)
  defs_kept (set_label v (alias from target)) e =
      graph_kept s t is_plain (edit.set_label_rows g v (alias from target)) tt a (edit.labelled g v (alias from target)) e (λ p. same)
  defs_kept (replace_result v ty) e =
      let x : ValueData = Inst ty (edit.number (at g.defs v)) (edit.inst_of (at g.defs v)) in
      graph_kept s t a_value (edit.replace_rows g v ty (edit.is_result (at g.defs v))) (value (length g.defs)) a
      (edit.replaced g (result_list g (edit.inst_of (at g.defs v))) (edit.number (at g.defs v)) x) e (λ p. new x refl tt)
  defs_kept (replace_block_param v ty) e =
      let x : ValueData = Param ty (edit.number (at g.defs v)) (edit.block_of (at g.defs v)) in
      graph_kept s t a_value (edit.replace_rows g v ty (edit.is_param (at g.defs v))) (value (length g.defs)) a
      (edit.replaced g (param_list g (edit.block_of (at g.defs v))) (edit.number (at g.defs v)) x) e (λ p. new x refl tt)
  defs_kept (append_block_param b ty) e =
      graph_kept s t a_value (edit.append_param_rows g b ty) (value (length g.defs)) a (edit.param_appended g b ty) e
      (λ p. new (Param ty (length (params g b)) b) refl tt)
  defs_kept (union x y) e =
      let u : ValueData = Union (type (at g.defs x)) x y in
      graph_kept s t a_value (edit.union_rows g x y) (value (length g.defs)) a (edit.with_defs g (g.defs ++ u ∷ [])) e (λ p.
      let side = usable g (x ∷ y ∷ []) p.0 p.1.0 in new u refl (side 0 (omega arith), side 1 (omega arith)))
  defs_kept (make_inst_results i ts reuse) e =
      graph_kept s t a_number (edit.make_inst_results_rows g i ts reuse) (length ts) a (edit.with_results g i ts reuse) e (λ p.
      kept_seated i 0 ts reuse g.defs (length g.defs) refl (good_sound s G) (fits g ts reuse p.1.0 p.1.1.1.1.1.0))
  defs_kept (clone_inst i) e =
      state_kept s t an_inst (edit.clone_rows s i) (inst g.insts) a
      (record { graph = edit.inst_cloned g i; table = copy_table s.table i }) e (λ p.
      kept_seated (inst g.insts) 0 (edit.result_types g i) [] g.defs (length g.defs) refl (good_sound s G)
      (fit_none g.defs (edit.result_types g i)))
  defs_kept (remove_block_param v) e =
      let b : Block = edit.block_of (at g.defs v) in
      let n : ℕ = edit.number (at g.defs v) in
      graph_kept s t is_plain (edit.remove_rows g v) tt a (edit.param_removed g b n) e (λ p.
      kept_lowered g.defs (drop (n + 1) (params g b)) (good_sound s G))
  defs_kept (swap_remove_block_param v) e =
      let b : Block = edit.block_of (at g.defs v) in
      let n : ℕ = edit.number (at g.defs v) in
      graph_kept s t a_number (edit.remove_rows g v) n a (edit.param_swap_removed g b n) e (λ p.
      kept_moved g.defs (edit.last_of (params g b)) n (ltb (n + 1) (length (params g b))) (good_sound s G))
  defs_kept (attach_block_param b v) e =
      graph_kept s t is_plain (edit.attach_param_rows g b v) tt a (edit.param_attached g b v) e (λ p.
      kept_redefined g.defs v (Param (type (at g.defs v)) (length (params g b)) b) (good_sound s G)
      (known g (v ∷ []) p.1.0 0 (omega arith)) refl tt refl)
  defs_kept (change_to_alias d v) e =
      let r : Value = end_of g.defs v in
      graph_kept s t is_plain (edit.change_rows g d v) tt a (edit.with_defs g (edit.aliased g.defs d r)) e (λ p.
      let S : Sound g.defs = good_sound s G in
      let l = usable_leads g.defs S.home v (usable g (d ∷ v ∷ []) p.0 p.1.0 1 (omega arith)) in
      let root : NonAlias g.defs r =
      subst (NonAlias g.defs) (sym (end_reached g.defs v l.0 l.1 l.2)) (end l.2) in
      let types = alike g d r (when_none (types_differ g d r) _ p.1.1.1.0) in
      kept_aliased g.defs d r S (known g (d ∷ v ∷ []) p.0 0 (omega arith)) root
      (λ z. eqb-false r.0 d.0 (when_none (eqb r.0 d.0) _ p.1.1.1.1.0) (ap (λ (w : Value). w.0) z))
      types.0 types.1)
  defs_kept (replace_with_aliases d i) e =
      graph_kept s t is_plain (edit.replace_aliases_rows g d i) tt a
      (edit.without_results (edit.with_defs g (edit.aliased_each g.defs (results g d) (results g i))) d) e (λ p.
      kept_aliased_each g.defs (results g d) (results g i) (good_sound s G)
      (other_results s G.named d i
      (leb-false g.insts d.0 (when_none (leb g.insts d.0) _ p.0))
      (leb-false g.insts i.0 (when_none (leb g.insts i.0) _ p.1.0))
      (eqb-false d.0 i.0 (when_none (eqb d.0 i.0) _ p.1.1.1.0))
      p.1.1.0))
  defs_kept resolve_all_aliases e = inr refl
