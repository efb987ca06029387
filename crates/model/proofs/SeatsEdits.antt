-- Every edit but flattening keeps the lists of results and parameters in order.
use Rattle.std.proofs.Common.{◌≡◌, ℕ, suc, ◌+◌, ◌<◌, ◌≤◌, true, false, ltb, ◌≢◌, List, [], ◌∷◌, ◌++◌, length, get_or, set, None, sym, refl, ◌∙◌, subst, inl, inr, not-suc-le-zero, arith, Some, Option}
use Rattle.std.proofs.lemmas.Bool.{cases_eq, cases_lt, ltb-false, leb-false, ltb-true, not-false, and_parts, false≢true}
use Rattle.std.proofs.lemmas.List.{length-set, length_push, get_or_push, get_or-set_same, get_or-set_other, get_or_append_left}
use Rattle.ir.specs.declared.entities.Value.{Value}
use Rattle.ir.specs.declared.entities.Inst.{Inst as InstId}
use Rattle.ir.specs.declared.entities.Block.{Block}
use Rattle.ir.specs.declared.entities.Type.{«Type» as Ty}
use Rattle.ir.specs.declared.value_data.ValueData.{ValueData}
use Rattle.ir.specs.declared.value_data.ValueData.TheVariants.{Inst, Param, Alias, Union}
use Rattle.ir.specs.Packing.{type}
use Rattle.store.specs.Bank.{Bank, cleared, pushed, changed, written}
use Rattle.values.specs.Leads.{at}
use Rattle.values.proofs.Ways.{at_other}
use Rattle.model.specs.Refusals.{Row, done, settle}
use Rattle.model.specs.State.{Graph, State, Entry, starts, alias, call, has_call, value, call_list, attached, no_value}
use Rattle.model.specs.Runs.{Answer, on_graph, on_state}
use Rattle.model.specs.declared.labels.Start.{Start}
use Rattle.model.specs.declared.labels.Label.{Label}
use Rattle.model.specs.declared.labels.Label.TheVariants as label
use Rattle.model.specs.Edits as edit
use Rattle.model.specs.Edits.{with_defs, with_words, with_inst, is_result, is_param, number, inst_of, block_of}
use Rattle.model.proofs.Rows.{Passes, state_done, graph_done, when_none}
use Rattle.model.proofs.Banks.{pushed_only, changed_only, cleared_only, written_only, readdressed_only}
use Rattle.model.proofs.Seats.{SeatsKept, Home, Made, list_of, members, seat, Names, NamesMade, Seated, kept, seat_made, alias_made, at_added_old, at_added_new, after_adding, after_setting, reseated, recalled, stands, loose, member_known}

-- an accepted edit of the graph, and one of the state
pub by_graph : {A : Type 0} (s : State) (answer : A → Answer) (rows : List Row) (x : A) (after : Graph) (a : Answer) (t : State) →
    (Passes rows → Seated after) → on_graph s answer (settle rows x after) ≡ done a t → SeatsKept t
by_graph s answer rows x after a t f e =
    let p = graph_done s answer rows x after a t e in
    let u : State = record { graph = after; table = s.table } in
    subst SeatsKept p.1 (kept u (f p.0))

pub by_state : {A : Type 0} (answer : A → Answer) (rows : List Row) (x : A) (after : State) (a : Answer) (t : State) →
    (Passes rows → Seated after.graph) → on_state answer (settle rows x after) ≡ done a t → SeatsKept t
by_state answer rows x after a t f e =
    let p = state_done answer rows x after a t e in
    subst SeatsKept p.1 (kept after (f p.0))

-- what rows say that do not hold

pub known_inst : (g : Graph) (i : InstId) → edit.unknown_inst g i ≡ None → i.0 < g.insts
known_inst g i e = leb-false g.insts i.0 (when_none _ _ e)

pub known_block : (g : Graph) (b : Block) → edit.unknown_block g b ≡ None → b.0 < g.blocks
known_block g b e = leb-false g.blocks b.0 (when_none _ _ e)

pub room_for : (g : Graph) (n : ℕ) → edit.values_full g n ≡ None → length g.defs + n ≤ g.limits.values
room_for g n e = ltb-false g.limits.values (length g.defs + n) (when_none _ _ e)

-- v at the end of a list, defined so; it stands in none
module _ (g : Graph) (p : Seated g) (ds : List ValueData) (h : Home) (m : Made g h) (v : Value) (ty : Ty)
    (fit : length ds ≤ g.limits.values) (homes : (w : Value) → NamesMade g (at ds w))
    (new : at ds v ≡ seat h ty (length (members g h)))
    (others : (j : Home) (k : ℕ) → Made g j → k < length (members g j) →
    at ds (get_or (members g j) k no_value) ≡ at g.defs (get_or (members g j) k no_value)) where
  pub seats_pushed : Seated (with_words (with_defs g ds) (pushed g.words (list_of g h) v))
  seats_pushed =
      reseated g ds (pushed g.words (list_of g h) v) h (members g h ++ v ∷ []) p m (pushed_only g.words (list_of g h) v)
      fit homes here (λ j k n ne l. others j k n l)
    where
      here : (k : ℕ) → k < length (members g h ++ v ∷ []) → Names ds (get_or (members g h ++ v ∷ []) k no_value) h k
      here k l =
          elim (cases_lt k (length (members g h))) [
            | inl q ↦ subst (λ (w : Value). Names ds w h k) (sym (get_or_append_left (members g h) (v ∷ []) no_value k q))
                ((p.named h k m q).0, others h k m q ∙ (p.named h k m q).1)
            | inr q ↦
                let n = length_push (members g h) v in
                let e : length (members g h) ≡ k = omega arith in
                subst (λ (w : Value). Names ds w h k) (sym (get_or_push (members g h) v no_value k e))
                (subst (λ (n : ℕ). Names ds v h n) e (ty, new))
          ]

-- a value added keeps the definitions of those that stand in lists
pub added_kept : (g : Graph) → Seated g → (d : ValueData) (j : Home) (k : ℕ) → Made g j → k < length (members g j) →
    at (g.defs ++ d ∷ []) (get_or (members g j) k no_value) ≡ at g.defs (get_or (members g j) k no_value)
added_kept g p d j k m l =
    let q = member_known g p j k m l in
    at_added_old g.defs d (get_or (members g j) k no_value) (λ e. omega arith)

pub added_fits : (g : Graph) (d : ValueData) → edit.values_full g 1 ≡ None → length (g.defs ++ d ∷ []) ≤ g.limits.values
added_fits g d e = let n = length_push g.defs d in let r = room_for g 1 e in omega arith

-- a result or parameter by its parts
pub result_form : (d : ValueData) → is_result d ≡ true → d ≡ Inst (type d) (number d) (inst_of d)
result_form (Inst ty n i) e = refl
result_form (Param ty n b) e = absurd (false≢true e)
result_form (Alias ty o) e = absurd (false≢true e)
result_form (Union ty x y) e = absurd (false≢true e)

pub param_form : (d : ValueData) → is_param d ≡ true → d ≡ Param (type d) (number d) (block_of d)
param_form (Inst ty n i) e = absurd (false≢true e)
param_form (Param ty n b) e = refl
param_form (Alias ty o) e = absurd (false≢true e)
param_form (Union ty x y) e = absurd (false≢true e)

-- replace_result and replace_block_param
module _ (g : Graph) (p : Seated g) (v : Value) (ty : Ty) (h : Home) (old : Ty) (n : ℕ) (is : at g.defs v ≡ seat h old n) where
  pub seats_changed : attached g v ≡ true → edit.values_full g 1 ≡ None → Seated (edit.replaced g (list_of g h) n (seat h ty n))
  seats_changed a full =
      reseated g (g.defs ++ seat h ty n ∷ []) (changed g.words (list_of g h) n (value (length g.defs))) h
      (set (members g h) n (value (length g.defs))) p m
      (changed_only g.words (list_of g h) n (value (length g.defs)))
      (added_fits g (seat h ty n) full)
      (after_adding (NamesMade g) g.defs (seat h ty n) p.homes (seat_made g h ty n m))
      here (λ j k o ne l. added_kept g p (seat h ty n) j k o l)
    where
      m : Made g h
      m = p.homes v h old n is

      here : (k : ℕ) → k < length (set (members g h) n (value (length g.defs))) →
          Names (g.defs ++ seat h ty n ∷ []) (get_or (set (members g h) n (value (length g.defs))) k no_value) h k
      here k l =
          let q = length-set (members g h) n (value (length g.defs)) in
          let r : k < length (members g h) = omega arith in
          elim (cases_eq k n) [
            | inr ne ↦ subst (λ (w : Value). Names (g.defs ++ seat h ty n ∷ []) w h k)
                (sym (get_or-set_other (members g h) n k (value (length g.defs)) no_value ne))
                ((p.named h k m r).0, added_kept g p (seat h ty n) h k m r ∙ (p.named h k m r).1)
            | inl e ↦ subst (λ (x : ℕ). Names (g.defs ++ seat h ty n ∷ []) (get_or (set (members g h) n (value (length g.defs))) x no_value) h x) (sym e)
                (subst (λ (w : Value). Names (g.defs ++ seat h ty n ∷ []) w h n)
                (sym (get_or-set_same (members g h) n (value (length g.defs)) no_value (stands g v h old n a is).0))
                (ty, at_added_new g.defs (seat h ty n)))
          ]

-- a value that stands nowhere, defined anew: those that stand in lists keep their definitions
pub set_kept : (g : Graph) → Seated g → (v : Value) (d : ValueData) → attached g v ≡ false → (j : Home) (k : ℕ) → Made g j → k < length (members g j) →
    at (set g.defs v.0 d) (get_or (members g j) k no_value) ≡ at g.defs (get_or (members g j) k no_value)
set_kept g p v d a j k m l = at_other g.defs v (get_or (members g j) k no_value) d (loose g p v a j k m l)

pub set_fits : (g : Graph) → Seated g → (v : Value) (d : ValueData) → length (set g.defs v.0 d) ≤ g.limits.values
set_fits g p v d = let n = length-set g.defs v.0 d in let z = p.sized.values_fit in omega arith

-- clear_results and detach_block_params
pub seats_cleared : (g : Graph) → Seated g → (h : Home) → Made g h → Seated (with_words g (cleared g.words (list_of g h)))
seats_cleared g p h m =
    reseated g g.defs (cleared g.words (list_of g h)) h [] p m (cleared_only g.words (list_of g h))
    p.sized.values_fit p.homes (λ k l. absurd (not-suc-le-zero l)) (λ j k n ne l. refl)

-- replace_with_aliases: the results of the first leave their list
pub aliased_away : (xs ys : List Value) (ds : List ValueData) (w : Value) → ((k : ℕ) → k < length xs → w ≢ get_or xs k no_value) →
    at (edit.aliased_each ds xs ys) w ≡ at ds w
aliased_away [] ys ds w f = refl
aliased_away (x ∷ xs) [] ds w f = refl
aliased_away (x ∷ xs) (y ∷ ys) ds w f =
    aliased_away xs ys (edit.aliased ds x y) w (λ k l. f (suc k) (omega arith))
    ∙ at_other ds x w (Alias (type (at ds y)) y) (f 0 (omega arith))

pub aliased_length : (xs ys : List Value) (ds : List ValueData) → length (edit.aliased_each ds xs ys) ≡ length ds
aliased_length [] ys ds = refl
aliased_length (x ∷ xs) [] ds = refl
aliased_length (x ∷ xs) (y ∷ ys) ds =
    aliased_length xs ys (edit.aliased ds x y) ∙ length-set ds x.0 (Alias (type (at ds y)) y)

pub aliased_homes : (g : Graph) (xs ys : List Value) (ds : List ValueData) → ((v : Value) → NamesMade g (at ds v)) →
    (v : Value) → NamesMade g (at (edit.aliased_each ds xs ys) v)
aliased_homes g [] ys ds f = f
aliased_homes g (x ∷ xs) [] ds f = f
aliased_homes g (x ∷ xs) (y ∷ ys) ds f =
    aliased_homes g xs ys (edit.aliased ds x y)
    (after_setting (NamesMade g) ds (Alias (type (at ds y)) y) f (alias_made g (type (at ds y)) y) x)

-- the edits of calls: map_inst_values, overwrite_inst_values, append_argument and remove change only call lists

pub known_call : (g : Graph) (i : InstId) (j : ℕ) → edit.unknown_call g i j ≡ None → j < 2
known_call g i j e =
    ltb-true j 2 (and_parts (ltb j 2) (ltb 0 (length (call g i j))) (not-false (has_call g i j) (when_none _ _ e))).0

-- other arguments in both calls
pub readdressed_both : (g : Graph) → Seated g → (i : InstId) (f h : List Value → List Value) → i.0 < g.insts →
    Seated (with_words g (edit.readdressed (edit.readdressed g.words (call_list g i 0) f) (call_list g i 1) h))
readdressed_both g p i f h m =
    let b = edit.readdressed g.words (call_list g i 0) f in
    let q = recalled g b i 0 _ p m (omega arith) (readdressed_only g.words (call_list g i 0) f) in
    recalled (with_words g b) _ i 1 _ q m (omega arith) (readdressed_only b (call_list g i 1) h)

-- make_inst: calls of the new instruction are written
pub aimed_kept : (ts : List Block) (g : Graph) (i : InstId) (j : ℕ) (b : Bank Value) → i.0 < g.insts + 1 → j + length ts ≤ 2 →
    Seated (with_inst (with_words g b)) → Seated (with_inst (with_words g (edit.aimed g i j ts b)))
aimed_kept [] g i j b m l p = p
aimed_kept (t ∷ ts) g i j b m l p =
    aimed_kept ts g i (j + 1) (written b (call_list g i j) (value t.0 ∷ [])) m (omega arith)
    (recalled (with_inst (with_words g b)) _ i j _ p m (omega arith) (written_only b (call_list g i j) (value t.0 ∷ [])))

pub room_for_inst : (g : Graph) → edit.insts_full g ≡ None → g.insts < g.limits.insts
room_for_inst g e = leb-false g.limits.insts g.insts (when_none _ _ e)

-- set_label: as many labels, and as many lists of starts
labels_kept : (g : Graph) (ls : List (Option Label)) (b : Bank Start) → Seated g → length ls ≡ length g.labels →
    length b.lists ≡ length g.starts.lists → Seated (edit.with_labels g ls b)
labels_kept g ls b p same more =
    record {
      sized = record {
        values_fit = p.sized.values_fit;
        values_small = p.sized.values_small;
        blocks_fit = p.sized.blocks_fit;
        insts_fit = p.sized.insts_fit;
        lists_enough = p.sized.lists_enough;
        labels_enough = same ∙ p.sized.labels_enough;
        start_lists_enough = let l = p.sized.start_lists_enough in omega arith;
      };
      homes = p.homes;
      spare = record { of_blocks = p.spare.of_blocks; of_insts = p.spare.of_insts };
      named = p.named;
    }

pub labelled_kept : (g : Graph) → Seated g → (v : Value) (e : Entry) → Seated (edit.labelled g v e)
labelled_kept g p v (starts ss) =
    labels_kept g _ _ p (length-set g.labels v.0 (Some label.Starts)) (written_only g.starts v.0 ss).count
labelled_kept g p v (alias from target) =
    labels_kept g _ _ p (length-set g.labels v.0 (Some (label.Alias from target))) (cleared_only g.starts v.0).count
