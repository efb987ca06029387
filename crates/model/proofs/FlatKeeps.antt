-- Flattening keeps what every edit keeps.
use Rattle.std.proofs.Common.{◌≡◌, ℕ, ◌<◌, Bool, true, false, cond, ◌||◌, ◌≢◌, List, map, length, get_or, Some, None, Option, sym, refl, ap, ◌∙◌, subst, inl, inr, arith}
use Rattle.std.proofs.lemmas.Bool.{cases_Bool, or_parts}
use Rattle.ir.specs.declared.entities.Value.{Value}
use Rattle.ir.specs.declared.entities.Inst.{Inst as InstId}
use Rattle.ir.specs.declared.value_data.ValueData.{ValueData}
use Rattle.ir.specs.declared.value_data.ValueData.TheVariants.{Inst, Param, Union}
use Rattle.store.specs.Bank.{items_of}
use Rattle.table.specs.Table.{count, operands}
use Rattle.values.specs.declared.kind.Kind.{Kind}
use Rattle.values.specs.declared.kind.Kind.TheVariants.{Root, Link, Gone}
use Rattle.values.specs.Leads.{at, kind, Exists, NonAlias}
use Rattle.values.proofs.Ways.{end, non_alias_exists}
use Rattle.renaming.specs.Renames.{end_of}
use Rattle.model.specs.declared.labels.Label.{Label}
use Rattle.model.specs.declared.labels.Label.TheVariants as label
use Rattle.model.specs.Refusals.{done}
use Rattle.model.specs.State.{State, alias, arguments, results, params, value_argument, as_entry, label_at, entry, no_value}
use Rattle.model.specs.Edits.{renamed_argument, renamed_word}
use Rattle.model.specs.Flattening.{live, flat, is_link, retargeted, alias_side, first_side, flatten_rows, flattened}
use Rattle.model.specs.Runs.{Answer, is_plain, does, resolve_all_aliases}
use Rattle.model.specs.Laws.{Usable}
use Rattle.model.proofs.Rows.{state_done}
use Rattle.model.proofs.Invariant.{Good}
use Rattle.model.proofs.UsesWords.{small_word}
use Rattle.model.proofs.Defs.{usable_kind, root_usable}
use Rattle.model.proofs.FlatLists.{all_count, all_others}
use Rattle.model.proofs.FlatParts.{live_of, root_not_live, flat_live, flat_other, led, relabelled_length, starts_count, side_absent}
use Rattle.model.proofs.Flat.{flattened_is, flat_at, keeps, argument_is, end_below, label_is, label_kept}
use Rattle.model.proofs.Uses.{entry_label}

-- a definition that is no alias was there before
flat_inv : (x d : ValueData) → flat x ≡ d → kind d ≡ Root → x ≡ d
flat_inv x d e k = elim (cases_Bool (live x)) [
  | inl t ↦
      let g : kind d ≡ Gone = ap kind (sym (sym (flat_live x t) ∙ e)) in
      absurd cc
  | inr f ↦ sym (flat_other x f) ∙ e
]

-- no live alias is left
flat_no_link : (x : ValueData) (o : Value) → kind (flat x) ≡ Link o → ⊥
flat_no_link x o e = elim (cases_Bool (live x)) [
  | inl t ↦ let g : Gone ≡ Link o = sym (ap kind (flat_live x t)) ∙ e in absurd cc
  | inr f ↦
      let g : live x ≡ true = live_of x o (sym (ap kind (flat_other x f)) ∙ e) in
      absurd cc
]

-- a usable value that is no live alias is a non-alias
root_by : (k : Kind) → k ≢ Gone → is_link k ≡ false → k ≡ Root
root_by Root g e = refl
root_by (Link o) g e = absurd cc
root_by Gone g e = absurd (g refl)

retargeted_alias : (ds : List ValueData) (l : Option Label) (from : ℕ) (target : Value) → retargeted ds l ≡ Some (label.Alias from target) →
    (old : Value) × (l ≡ Some (label.Alias from old)) × (end_of ds old ≡ target)
retargeted_alias ds None from target e = absurd cc
retargeted_alias ds (Some label.Starts) from target e = absurd cc
retargeted_alias ds (Some (label.Alias f old)) from target e =
    (old, cc, cc)

module _ (s : State) (good : Good s) (unsided : first_side s.graph.defs 0 s.graph.defs ≡ None) where
  abbrev ds : List ValueData
  ds = s.graph.defs

  abbrev after : State
  after = flattened s

  root_stays : (v : Value) → NonAlias ds v → at (map flat ds) v ≡ at ds v
  root_stays v e = keeps s good v (root_not_live (at ds v) e)

  root_remains : (v : Value) → NonAlias ds v → Usable (map flat ds) v
  root_remains v e = root_usable (map flat ds) v (ap kind (root_stays v e) ∙ e)

  was : (v : Value) (d : ValueData) → at (map flat ds) v ≡ d → kind d ≡ Root → at ds v ≡ d
  was v d e k = flat_inv (at ds v) d (sym (flat_at s good v) ∙ e) k

  end_remains : (v : Value) → Usable ds v → Usable (map flat ds) (end_of ds v)
  end_remains v u = root_remains (end_of ds v) (end (led s v good.home u).1)

  side_remains : (v : Value) → Usable ds v → live (at ds v) ≡ false → Usable (map flat ds) v
  side_remains v u e = root_remains v (root_by (kind (at ds v)) (usable_kind ds v u) e)

  argument_remains : (i : InstId) (j k : ℕ) (v : Value) → i.0 < s.graph.insts → j < 2 →
      k < length (arguments s.graph i j) → value_argument (get_or (arguments after.graph i j) k no_value) ≡ Some v → Usable (map flat ds) v
  argument_remains i j k v h q l e = by (value_argument (get_or (arguments s.graph i j) k no_value)) refl
    where
      word : get_or (arguments after.graph i j) k no_value ≡ renamed_word (end_of ds) (get_or (arguments s.graph i j) k no_value)
      word = argument_is s good i j k h q l

      by : (o : Option Value) → value_argument (get_or (arguments s.graph i j) k no_value) ≡ o → Usable (map flat ds) v
      by None p =
          let w : get_or (arguments after.graph i j) k no_value ≡ get_or (arguments s.graph i j) k no_value =
          word ∙ ap (renamed_argument (end_of ds) (get_or (arguments s.graph i j) k no_value)) p in
          let g : None ≡ Some v = sym p ∙ (sym (ap value_argument w) ∙ e) in
          absurd cc
      by (Some u) p =
          let usable = good.alive.arguments_are i j k u h q l p in
          let w : get_or (arguments after.graph i j) k no_value ≡ end_of ds u =
          word ∙ ap (renamed_argument (end_of ds) (get_or (arguments s.graph i j) k no_value)) p in
          let g : Some (end_of ds u) ≡ Some v = sym (small_word (end_of ds u) (end_below s good u usable)) ∙ (sym (ap value_argument w) ∙ e) in
          let r : end_of ds u ≡ v = cc in
          subst (Usable (map flat ds)) r (end_remains u usable)

  target_remains : (v target : Value) (from : ℕ) → Exists ds v → entry after.graph v ≡ Some (alias from target) → Usable (map flat ds) target
  target_remains v target from h e = elim (cases_Bool (live (at ds v))) [
    | inl t ↦
        let a : label_at after.graph v ≡ None =
        label_is s good v ∙ ap (λ (b : Bool). cond b None (retargeted ds (label_at s.graph v))) t in
        let g : None ≡ Some (alias from target) = sym (ap (λ (l : Option Label). as_entry l (items_of after.graph.starts v.0)) a) ∙ e in
        absurd cc
    | inr f ↦
        let l = entry_label (label_at after.graph v) (items_of after.graph.starts v.0) from target e in
        let t = retargeted_alias ds (label_at s.graph v) from target (sym (label_kept s good v f) ∙ l) in
        let old : entry s.graph v ≡ Some (alias from t.0) =
        ap (λ (l : Option Label). as_entry l (items_of s.graph.starts v.0)) t.1 in
        subst (Usable (map flat ds)) t.2 (end_remains t.0 (good.alive.targets_are v t.0 from h old))
  ]

  pub kept : Good (flattened s)
  kept =
      let F = flattened_is s good in
      record {
        sized = record {
          values_fit = omega (arith, good.sized.values_fit, F.as_many_values);
          values_small = good.sized.values_small;
          blocks_fit = good.sized.blocks_fit;
          insts_fit = good.sized.insts_fit;
          lists_enough = omega (arith, good.sized.lists_enough, all_count s.graph (end_of ds) s.graph.insts s.graph.words);
          labels_enough = relabelled_length ds s.graph.labels 0 ∙ good.sized.labels_enough;
          start_lists_enough = omega (arith, good.sized.start_lists_enough, starts_count ds 0 s.graph.starts);
        };
        homes = record {
          of_result = λ v ty n i e. good.homes.of_result v ty n i (was v (Inst ty n i) e refl);
          of_param = λ v ty n b e. good.homes.of_param v ty n b (was v (Param ty n b) e refl);
        };
        spare = record {
          of_blocks = λ l h k.
              all_others s.graph (end_of ds) s.graph.insts s.graph.words l (λ m q. (λ z. omega arith, λ z. omega arith))
              ∙ good.spare.of_blocks l h k;
          of_insts = λ l h.
              all_others s.graph (end_of ds) s.graph.insts s.graph.words l (λ m q. (λ z. omega arith, λ z. omega arith))
              ∙ good.spare.of_insts l h;
        };
        home = λ v o e. absurd (flat_no_link (at ds v) o (ap kind (sym (flat_at s good v)) ∙ e));
        named = record {
          by_results = λ i k h q.
              let p = F.results_kept i h in
              let t = good.named.by_results i k h (subst (λ (vs : List Value). k < length vs) p q) in (
                t.0,
                ap (λ (vs : List Value). at (map flat ds) (get_or vs k no_value)) p
                    ∙ (root_stays (get_or (results s.graph i) k no_value) (ap kind t.1) ∙ t.1),
              );
          by_params = λ b k h q.
              let p = F.params_kept b h in
              let t = good.named.by_params b k h (subst (λ (vs : List Value). k < length vs) p q) in (
                t.0,
                ap (λ (vs : List Value). at (map flat ds) (get_or vs k no_value)) p
                    ∙ (root_stays (get_or (params s.graph b) k no_value) (ap kind t.1) ∙ t.1),
              );
        };
        alive = record {
          operands_are = λ i k h q.
              let h' : i < count s.table = omega (arith, F.as_many_rows) in
              let q' : k < length (operands s.table i) = omega (arith, F.as_many_operands i) in
              let l = F.operands_led i k h' q' in
              root_remains (get_or (operands after.table i) k no_value) (end l.1);
          arguments_are = λ i j k v h q l e. argument_remains i j k v h q (omega (arith, F.as_many_arguments i j h q)) e;
          sides_are = λ v x y ty e.
              let p = was v (Union ty x y) e refl in
              let u = good.alive.sides_are v x y ty p in
              let h = non_alias_exists ds v (ap kind p) in
              let n : (live (at ds x) || live (at ds y)) ≡ false = ap (alias_side ds) (sym p) ∙ side_absent ds ds 0 unsided v.0 h in
              let o = or_parts (live (at ds x)) (live (at ds y)) n in
              (side_remains x u.0 o.0, side_remains y u.1 o.1);
          targets_are = λ v target from h e. target_remains v target from (omega (arith, F.as_many_values)) e;
        };
        counts = good.counts ∙ sym F.as_many_rows;
      }

pub good_flattened : (s t : State) (a : Answer) → Good s → does resolve_all_aliases s ≡ done a t → Good t
good_flattened s t a good e =
    let d = state_done is_plain (flatten_rows s) tt (flattened s) a t e in
    subst Good d.1 (kept s good d.0.1.1.1.0)
