-- What flattening does to a graph that edits alone have made.
use Rattle.std.proofs.Common.{◌≡◌, ℕ, ◌+◌, ◌<◌, Bool, true, false, cond, not, ◌⊎◌, List, [], ◌∷◌, map, length, get_or, take, drop, Some, None, sym, refl, ap, ◌∙◌, subst, inl, inr, arith, Option}
use lib.ListN
use lib.ListN.{length-map}
use Rattle.std.proofs.lemmas.List.{get_or-map}
use Rattle.std.proofs.lemmas.Bool.{lt-leb, eq-eqb}
use Rattle.ir.specs.declared.entities.Value.{Value}
use Rattle.ir.specs.declared.entities.Inst.{Inst as InstId}
use Rattle.ir.specs.declared.entities.Block.{Block}
use Rattle.ir.specs.declared.entities.Type.{«Type» as Ty}
use Rattle.ir.specs.declared.value_data.ValueData.{ValueData}
use Rattle.ir.specs.declared.value_data.ValueData.TheVariants.{Union}
use Rattle.ir.specs.Packing.{retired_mark}
use Rattle.store.specs.Bank.{Owned, items_of}
use Rattle.table.specs.Table.{Row as TableRow, no_row, count, operands}
use Rattle.values.specs.declared.kind.Kind.TheVariants.{Root}
use Rattle.values.specs.Leads.{at, kind, LiveAlias, Leads}
use Rattle.values.proofs.Ways.{end, non_alias_exists}
use Rattle.renaming.specs.Renames.{end_of}
use Rattle.model.specs.declared.fault.GraphFault.{GraphFault}
use Rattle.model.specs.declared.fault.GraphFault.TheVariants.{Count}
use Rattle.model.specs.declared.labels.Start.{Start}
use Rattle.model.specs.declared.labels.Label.{Label}
use Rattle.model.specs.declared.labels.Label.TheVariants as label
use Rattle.model.specs.Refusals.{Row, first, Outcome, refused, unless, when}
use Rattle.model.specs.State.{Graph, State, starts, value, result_list, params, results, call, arguments, value_argument, as_entry, label_at, entry, no_value}
use Rattle.model.specs.Edits.{renamed_argument, renamed_word, unknown_values, retired_values, counts_differ}
use Rattle.model.specs.Flattening.{live, flat, row_renamed, table_renamed, retargeted, all_operands, alias_side, first_side, flatten_rows, graph_flattened, flattened}
use Rattle.model.specs.Runs.{Answer, plain, is_plain, on_state, does, resolve_all_aliases}
use Rattle.model.specs.Laws.{Usable, AliasAsSide, Flattened, FlatteningLaw}
use Rattle.model.proofs.Rows.{state_done}
use Rattle.model.proofs.Invariant.{Good}
use Rattle.model.proofs.UsesWords.{small_word}
use Rattle.model.proofs.FlatLists.{call_renamed, all_others, all_renamed}
use Rattle.model.proofs.FlatParts.{live_inv, live_of, not_live, flat_live, flat_other, usable_not_retired, led, relabelled_at, starts_stay, side_inv, side_of, side_found, side_absent, no_operand, absent_either}
use Rattle.model.proofs.Uses.{entry_label}

-- a call by its target and its arguments
renamed_target : (f : Value → Value) (ws : List Value) → take 1 (call_renamed f ws) ≡ take 1 ws
renamed_target f [] = refl
renamed_target f (w ∷ ws) = refl

renamed_arguments : (f : Value → Value) (ws : List Value) → drop 1 (call_renamed f ws) ≡ map (renamed_word f) (drop 1 ws)
renamed_arguments f [] = refl
renamed_arguments f (w ∷ ws) = refl

first_one : (r : Row) → first (r ∷ []) ≡ r
first_one None = refl
first_one (Some f) = refl

none_then : (r : Row) (rows : List Row) → r ≡ None → first (r ∷ rows) ≡ first rows
none_then r rows e = ap (λ (q : Row). first (q ∷ rows)) e

-- entries by label
no_label : (l : Option Label) (ss : List Start) → as_entry l ss ≡ None → l ≡ None
no_label None ss e = refl
no_label (Some label.Starts) ss e = absurd cc
no_label (Some (label.Alias from target)) ss e = absurd cc

some_starts : (l : Option Label) (ss xs : List Start) → as_entry l ss ≡ Some (starts xs) → (l ≡ Some label.Starts) × (ss ≡ xs)
some_starts None ss xs e = absurd cc
some_starts (Some label.Starts) ss xs e = let p : ss ≡ xs = cc in (refl, p)
some_starts (Some (label.Alias from target)) ss xs e = absurd cc

module _ (s : State) (good : Good s) where
  abbrev ds : List ValueData
  ds = s.graph.defs

  abbrev ends : Value → Value
  ends = end_of s.graph.defs

  -- no row but the last can hold
  known : unknown_values s.graph (all_operands s.table.rows) ≡ None
  known = no_operand _ _ s.table.rows (λ i k p q.
      let u = good.alive.operands_are i k p q in lt-leb (length s.graph.defs) (get_or (operands s.table i) k no_value).0 u.0)

  unretired : retired_values s.graph (all_operands s.table.rows) ≡ None
  unretired = no_operand _ _ s.table.rows (λ i k p q.
      usable_not_retired s.graph.defs (get_or (operands s.table i) k no_value) (good.alive.operands_are i k p q))

  counted : counts_differ s ≡ None
  counted = ap (λ (b : Bool). when (not b) (Count (count s.table))) (eq-eqb s.graph.insts (count s.table) good.counts)

  only_sides : first (flatten_rows s) ≡ first_side s.graph.defs 0 s.graph.defs
  only_sides =
      none_then _ _ known ∙ (none_then _ _ unretired ∙ (none_then _ _ counted ∙ first_one (first_side s.graph.defs 0 s.graph.defs)))

  -- a live side, as a union of the graph
  as_side : (f : GraphFault) → first_side ds 0 ds ≡ Some f → AliasAsSide s
  as_side f e =
      let t = side_found ds ds 0 f e in
      let u = side_inv ds (get_or ds t.0 retired_mark) t.2 in
      by t.0 u
    where
      by : (k : ℕ) → ((ty : Ty) × (x : Value) × (y : Value) × (get_or ds k retired_mark ≡ Union ty x y) × ((live (at ds x) ≡ true) ⊎ (live (at ds y) ≡ true))) → AliasAsSide s
      by k (ty, x, y, p, inl q) =
          let o = live_inv (at ds x) q in
          record { union = value k; x = x; y = y; ty = ty; is_union = p; original = o.0; is_alias = inl o.1 }
      by k (ty, x, y, p, inr q) =
          let o = live_inv (at ds y) q in
          record { union = value k; x = x; y = y; ty = ty; is_union = p; original = o.0; is_alias = inr o.1 }

  side_live : AliasAsSide s → first_side ds 0 ds ≡ None → ⊥
  side_live a e =
      let k : kind (at ds a.union) ≡ Root = ap kind a.is_union in
      let h = non_alias_exists ds a.union k in
      let n : ◌≡◌ {A = Bool} (alias_side ds (at ds a.union)) false = side_absent ds ds 0 e a.union.0 h in
      let y : ◌≡◌ {A = Bool} (alias_side ds (at ds a.union)) true = side_of ds (at ds a.union) a.ty a.x a.y a.is_union (sides a.is_alias) in
      absurd cc
    where
      sides : LiveAlias ds a.x a.original ⊎ LiveAlias ds a.y a.original → (live (at ds a.x) ≡ true) ⊎ (live (at ds a.y) ≡ true)
      sides (inl p) = inl (live_of (at ds a.x) a.original p)
      sides (inr p) = inr (live_of (at ds a.y) a.original p)

  abbrev flat_does : Row → Outcome Answer State
  flat_does r = on_state is_plain (unless r tt (flattened s))

  to_side : (r : Row) → first_side ds 0 ds ≡ r → (f : GraphFault) → flat_does r ≡ refused f → AliasAsSide s
  to_side None e f q = absurd cc
  to_side (Some g) e f q = as_side g e

  from_side : (r : Row) → first_side ds 0 ds ≡ r → AliasAsSide s → (f : GraphFault) × (flat_does r ≡ refused f)
  from_side None e a = absurd (side_live a e)
  from_side (Some g) e a = (g, refl)

  refused_when : ((f : GraphFault) × (does resolve_all_aliases s ≡ refused f)) → AliasAsSide s
  refused_when t = to_side (first_side ds 0 ds) refl t.0 (ap flat_does (sym only_sides) ∙ t.1)

  refuses : AliasAsSide s → (f : GraphFault) × (does resolve_all_aliases s ≡ refused f)
  refuses a = let t = from_side (first_side ds 0 ds) refl a in (t.0, ap flat_does only_sides ∙ t.1)

  -- definitions
  pub flat_at : (v : Value) → at (map flat ds) v ≡ flat (at ds v)
  flat_at v = ListN.get_or-map flat ds v.0 retired_mark

  retires : (v o : Value) → LiveAlias ds v o → at (map flat ds) v ≡ retired_mark
  retires v o e = flat_at v ∙ flat_live (at ds v) (live_of (at ds v) o e)

  pub keeps : (v : Value) → live (at ds v) ≡ false → at (map flat ds) v ≡ at ds v
  keeps v e = flat_at v ∙ flat_other (at ds v) e

  abbrev after : Graph
  after = graph_flattened s.graph

  -- lists
  params_stay : (b : Block) → b.0 < s.graph.blocks → params after b ≡ params s.graph b
  params_stay b h =
      let k = good.sized.blocks_fit in
      ap (λ (o : Owned Value). o.items) (all_others s.graph ends s.graph.insts s.graph.words b.0 (λ m q. (λ z. omega arith, λ z. omega arith)))

  results_stay : (i : InstId) → results after i ≡ results s.graph i
  results_stay i =
      ap (λ (o : Owned Value). o.items)
      (all_others s.graph ends s.graph.insts s.graph.words (result_list s.graph i) (λ m q. (λ z. omega arith, λ z. omega arith)))

  call_is : (i : InstId) (j : ℕ) → i.0 < s.graph.insts → j < 2 → call after i j ≡ call_renamed ends (call s.graph i j)
  call_is i j h k =
      let a = good.sized.insts_fit in
      let b = good.sized.lists_enough in
      all_renamed s.graph ends s.graph.insts s.graph.words i.0 j h k (omega arith)

  arguments_are : (i : InstId) (j : ℕ) → i.0 < s.graph.insts → j < 2 → arguments after i j ≡ map (renamed_word ends) (arguments s.graph i j)
  arguments_are i j h k = ap (drop 1) (call_is i j h k) ∙ renamed_arguments ends (call s.graph i j)

  pub argument_is : (i : InstId) (j k : ℕ) → i.0 < s.graph.insts → j < 2 → k < length (arguments s.graph i j) →
      get_or (arguments after i j) k no_value ≡ renamed_word ends (get_or (arguments s.graph i j) k no_value)
  argument_is i j k h q l =
      ap (λ (ws : List Value). get_or ws k no_value) (arguments_are i j h q) ∙ get_or-map (renamed_word ends) (arguments s.graph i j) k no_value no_value l

  -- what a usable value leads to exists, so its number is a word
  pub end_below : (v : Value) → Usable ds v → (ends v).0 < 1073741824
  end_below v u =
      let l = led s v good.home u in
      let e : (ends v).0 < length ds = non_alias_exists ds (ends v) (end l.1) in
      let a = good.sized.values_fit in
      let b = good.sized.values_small in
      omega arith

  -- labels
  pub label_is : (v : Value) → label_at after v ≡ cond (live (at ds v)) None (retargeted ds (label_at s.graph v))
  label_is v =
      let p : 0 + v.0 ≡ v.0 = omega arith in
      relabelled_at ds s.graph.labels 0 v.0
      ∙ ap (λ (n : ℕ). cond (live (at ds (value n))) None (retargeted ds (label_at s.graph v))) p

  pub label_kept : (v : Value) → live (at ds v) ≡ false → label_at after v ≡ retargeted ds (label_at s.graph v)
  label_kept v e = label_is v ∙ ap (λ (b : Bool). cond b None (retargeted ds (label_at s.graph v))) e

  starts_are : (v : Value) → live (at ds v) ≡ false → items_of after.starts v.0 ≡ items_of s.graph.starts v.0
  starts_are v e =
      ap (λ (o : Owned Start). o.items) (starts_stay ds 0 v.0 s.graph.starts (λ k h q.
      let p : v.0 ≡ k = omega arith in subst (λ (n : ℕ). live (get_or ds n retired_mark) ≡ false) p e))

  unlabelled : (v : Value) → entry s.graph v ≡ None → entry after v ≡ None
  unlabelled v e =
      let a : label_at s.graph v ≡ None = no_label (label_at s.graph v) (items_of s.graph.starts v.0) e in
      ap (λ (l : Option Label). as_entry l (items_of after.starts v.0))
      (label_is v ∙ ap (λ (l : Option Label). cond (live (at ds v)) None (retargeted ds l)) a ∙ sym (absent_either (live (at ds v))))

  pub flattened_is : Flattened s (flattened s)
  flattened_is = record {
    as_many_values = length-map ds flat;
    as_many_blocks = refl;
    as_many_insts = refl;
    as_many_rows = length-map s.table.rows (row_renamed ends);
    aliases_retired = retires;
    others_kept = λ v h. keeps v (not_live (at ds v) h);
    params_kept = params_stay;
    results_kept = λ i h. results_stay i;
    opcodes_kept = λ i. ap (λ (r : TableRow). r.opcode) (ListN.get_or-map (row_renamed ends) s.table.rows i no_row);
    as_many_operands = λ i.
        ap (λ (r : TableRow). length r.operands) (ListN.get_or-map (row_renamed ends) s.table.rows i no_row) ∙ length-map (operands s.table i) ends;
    operands_led = λ i k h q.
        let u = led s (get_or (operands s.table i) k no_value) good.home (good.alive.operands_are i k h q) in
        let e : get_or (operands (table_renamed ends s.table) i) k no_value ≡ ends (get_or (operands s.table i) k no_value) =
        ap (λ (r : TableRow). get_or r.operands k no_value) (ListN.get_or-map (row_renamed ends) s.table.rows i no_row)
        ∙ get_or-map ends (operands s.table i) k no_value no_value q in
        (u.0, subst (λ (r : Value). Leads ds (get_or (operands s.table i) k no_value) r u.0) (sym e) u.1);
    targets_kept = λ i j h k. ap (take 1) (call_is i j h k) ∙ renamed_target ends (call s.graph i j);
    as_many_arguments = λ i j h k. ap length (arguments_are i j h k) ∙ length-map (arguments s.graph i j) (renamed_word ends);
    arguments_led = λ i j k v h q l e.
        let w : Value = get_or (arguments s.graph i j) k no_value in
        let u = good.alive.arguments_are i j k v h q l e in
        let t = led s v good.home u in
        let p : get_or (arguments after i j) k no_value ≡ ends v =
        argument_is i j k h q l ∙ ap (renamed_argument ends (get_or (arguments s.graph i j) k no_value)) e in
        (ends v, t.0, ap value_argument p ∙ small_word (ends v) (end_below v u), t.1);
    marked_kept = λ i j k h q l e.
        argument_is i j k h q l ∙ ap (renamed_argument ends (get_or (arguments s.graph i j) k no_value)) e;
    labels_dropped = λ v o e.
        ap (λ (l : Option Label). as_entry l (items_of after.starts v.0))
        (label_is v ∙ ap (λ (b : Bool). cond b None (retargeted ds (label_at s.graph v))) (live_of (at ds v) o e));
    unlabelled_kept = λ v h e. unlabelled v e;
    starts_kept = λ v ss h n e.
        let d = not_live (at ds v) n in
        let p = some_starts (label_at s.graph v) (items_of s.graph.starts v.0) ss e in
        ap (λ (l : Option Label). as_entry l (items_of after.starts v.0)) (label_kept v d ∙ ap (retargeted ds) p.0)
        ∙ ap (λ (xs : List Start). Some (starts xs)) (starts_are v d ∙ p.1);
    targets_led = λ v target from h n e.
        let d = not_live (at ds v) n in
        let p = entry_label (label_at s.graph v) (items_of s.graph.starts v.0) from target e in
        let t = led s target good.home (good.alive.targets_are v target from h e) in (
          ends target,
          t.0,
          ap (λ (l : Option Label). as_entry l (items_of after.starts v.0)) (label_kept v d ∙ ap (retargeted ds) p),
          t.1,
        );
  }

pub flattening_law : (s : State) → Good s → FlatteningLaw s
flattening_law s good = record {
  refused_exactly = (refused_when s good, refuses s good);
  flattens = λ t e. subst (Flattened s) (state_done is_plain (flatten_rows s) tt (flattened s) plain t e).1 (flattened_is s good);
}
