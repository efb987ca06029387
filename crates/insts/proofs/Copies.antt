-- A clone's lists, written one after another.
use Rattle.std.proofs.Common.{◌≡◌, ℕ, ◌+◌, ◌*◌, ◌<◌, ◌≤◌, Bool, true, false, cond, ltb, List, [], ◌∷◌, map, length, None, Ok, Err, Result, sym, refl, ap, ◌∙◌, arith}
use Rattle.std.proofs.lemmas.Bool.{leb-false, ltb-false}
use Rattle.ir.specs.declared.entities.Value.{Value}
use Rattle.ir.specs.declared.entities.Inst.{Inst as InstId}
use Rattle.ir.specs.Packing.{type}
use Rattle.store.specs.Bank.{Bank, copied, fault_copy, fault_for, fault_list, fault_write, items_of}
use Rattle.store.proofs.Models.{before_none, list_known}
use Rattle.table.specs.declared.fault.TableFault.{TableFault}
use Rattle.table.specs.Table.{Table, add_answer, copy_answer, copy_table, count, operands}
use Rattle.values.specs.Leads.{at}
use Rattle.model.specs.declared.fault.GraphFault.TheVariants.{Full, Long, Unknown}
use Rattle.model.specs.Refusals.{Row, by_table, done, first, outcome, unless}
use Rattle.model.specs.State.{Graph, State, call, call_list, inst, result_list, results}
use Rattle.model.specs.Edits.{calls_copied, clone_inst, clone_rows, insts_full, inst_cloned, result_types, values_full, with_inst, with_results, with_words}
use Rattle.model.proofs.Banks.{copied_only, items_other}
use Rattle.model.proofs.Rows.{passes, pool_none, when_none}
use Rattle.judges.specs.States.{state}
use Rattle.insts.proofs.Makes.{add_made, counts_same}
use Rattle.insts.proofs.Supplies.{first_fits, rest_fits}

-- a list can be copied where as many words can be written
pub copy_by_write : (b : Bank Value) (l m : ℕ) → l < length b.lists → fault_write b m (length (items_of b l)) ≡ None → fault_copy b l m ≡ None
unfolding fault_copy
copy_by_write b l m h f = before_none (fault_list b l) _ (list_known b l h) ∙ f

-- what a copy leaves
pub copy_lists : (g h : Graph) (l m : ℕ) → h ≡ with_words g (copied g.words l m) → length h.words.lists ≡ length g.words.lists
copy_lists g h l m e = ap (λ (x : Graph). length x.words.lists) e ∙ (copied_only g.words l m).count

pub copy_items : (g h : Graph) (l m : ℕ) → h ≡ with_words g (copied g.words l m) → m < length g.words.lists → items_of h.words m ≡ items_of g.words l
copy_items g h l m e k = ap (λ (x : Graph). items_of x.words m) e ∙ (copied_only g.words l m).here k

-- a list whose length is the first of those that fit can be copied
copy_fits : (b : Bank Value) (l m n : ℕ) (ns : List ℕ) → l < length b.lists → m < length b.lists → length (items_of b l) ≡ n →
    fault_for b (n ∷ ns) ≡ None → fault_copy b l m ≡ None
copy_fits b l m n ns h k e f = copy_by_write b l m h (ap (fault_write b m) e ∙ first_fits b m n ns k f)

module _ (g : Graph) (i new : InstId) where
  abbrev pub first_copied : Bank Value
  first_copied = copied g.words (call_list g i 0) (call_list g new 0)

  -- one call copied, then the other
  pub both_copied : (x y : Graph) → x ≡ with_words g first_copied →
      y ≡ with_words x (copied x.words (call_list x i 1) (call_list x new 1)) → y ≡ with_words g (calls_copied g i new)
  both_copied x y e f = f ∙ ap (λ (z : Graph). with_words z (copied z.words (call_list z i 1) (call_list z new 1))) e

  module _ (h : i.0 < new.0) where
    second_same : items_of first_copied (call_list g i 1) ≡ call g i 1
    second_same = items_other (copied_only g.words (call_list g i 0) (call_list g new 0)) (call_list g i 1) (λ e. omega arith)

    pub results_same : items_of (calls_copied g i new) (result_list g i) ≡ results g i
    results_same =
        items_other (copied_only first_copied (call_list g i 1) (call_list g new 1)) (result_list g i) (λ e. omega arith)
        ∙ items_other (copied_only g.words (call_list g i 0) (call_list g new 0)) (result_list g i) (λ e. omega arith)

    module _ (lists : g.limits.blocks + 3 * new.0 + 3 ≤ length g.words.lists)
        (fits : fault_for g.words (length (call g i 0) ∷ length (call g i 1) ∷ length (results g i) ∷ []) ≡ None) where
      pub first_copy_fits : fault_copy g.words (call_list g i 0) (call_list g new 0) ≡ None
      first_copy_fits =
          copy_fits g.words (call_list g i 0) (call_list g new 0) (length (call g i 0)) (length (call g i 1) ∷ length (results g i) ∷ [])
          (omega arith) (omega arith) refl fits

      second_fits : fault_for first_copied (length (call g i 1) ∷ length (results g i) ∷ []) ≡ None
      second_fits = rest_fits g.words (call_list g new 0) (length (call g i 0)) (length (call g i 1) ∷ length (results g i) ∷ []) (call g i 0) refl fits

      pub second_copy_fits : fault_copy first_copied (call_list g i 1) (call_list g new 1) ≡ None
      second_copy_fits =
          let c = (copied_only g.words (call_list g i 0) (call_list g new 0)).count in
          copy_fits first_copied (call_list g i 1) (call_list g new 1) (length (call g i 1)) (length (results g i) ∷ [])
          (omega arith) (omega arith) (ap length second_same) second_fits

      pub results_fit : fault_write (calls_copied g i new) (result_list g new) (length (items_of (calls_copied g i new) (result_list g i))) ≡ None
      results_fit =
          let c = (copied_only g.words (call_list g i 0) (call_list g new 0)).count in
          let d = (copied_only first_copied (call_list g i 1) (call_list g new 1)).count in
          ap (λ (vs : List Value). fault_write (calls_copied g i new) (result_list g new) (length vs)) results_same
          ∙ first_fits (calls_copied g i new) (result_list g new) (length (results g i)) [] (omega arith)
          (rest_fits first_copied (call_list g new 1) (length (call g i 1)) (length (results g i) ∷ []) (items_of first_copied (call_list g i 1)) (ap length second_same) second_fits)

    -- with the results, this is the clone
    pub clone_is : with_results (with_words g (calls_copied g i new)) new (result_types (with_words g (calls_copied g i new)) i) []
        ≡ with_results (with_words g (calls_copied g i new)) new (result_types g i) []
    clone_is =
        ap (λ (vs : List Value). with_results (with_words g (calls_copied g i new)) new (map (λ (v : Value). type (at g.defs v)) vs) []) results_same

pub record Clones (s : State) (i : InstId) : Type 0 where
  pub answer : copy_answer s.table i ≡ Ok (inst s.graph.insts)
  pub known : i.0 < s.graph.insts
  pub room : insts_full s.graph ≡ None
  pub below : s.graph.insts < s.graph.limits.insts
  pub values : values_full s.graph (length (results s.graph i)) ≡ None
  pub fits : fault_for s.graph.words (length (call s.graph i 0) ∷ length (call s.graph i 1) ∷ length (results s.graph i) ∷ []) ≡ None
  pub short : length (results s.graph i) ≤ 65536

-- a table that can copy answers its count
copy_by : (b : Bool) (r : Result InstId TableFault) (i : InstId) (f : TableFault) → (by_table r ≡ None → r ≡ Ok i) →
    by_table (cond b r (Err f)) ≡ None → cond b r (Err f) ≡ Ok i
copy_by true r i f h e = h e
copy_by false r i f h e = absurd cc

pub clones : (s : State) (i : InstId) → first (clone_rows s i) ≡ None → Clones s i
clones s i e =
    let q = passes (clone_rows s i) e in
    record {
      answer = copy_by (ltb i.0 (count s.table)) (add_answer s.table (length (operands s.table i.0))) (inst (count s.table)) _
          (add_made s.table (length (operands s.table i.0))) q.1.1.1.0
          ∙ ap (λ (n : ℕ). Ok (inst n)) (sym (counts_same s q.1.0));
      known = leb-false s.graph.insts i.0 (when_none _ (Unknown i.0) q.0);
      room = q.1.1.0;
      below = leb-false s.graph.limits.insts s.graph.insts (when_none _ (Full s.graph.limits.insts) q.1.1.0);
      values = q.1.1.1.1.0;
      fits = pool_none _ q.1.1.1.1.1.0;
      short = ltb-false 65536 (length (results s.graph i)) (when_none _ Long q.1.1.1.1.1.1.0);
    }

pub clones_answer : {s : State} {i : InstId} → Clones s i → (n : InstId) → Ok n ≡ copy_answer s.table i → n ≡ inst s.graph.insts
clones_answer m n e = let a = m.answer in cc

-- an accepted clone_inst
pub cloned : (s : State) (i new : InstId) (g : Graph) (t : Table) → first (clone_rows s i) ≡ None → new ≡ inst s.graph.insts →
    g ≡ with_inst (with_results (with_words s.graph (calls_copied s.graph i new)) new (result_types s.graph i) []) → t ≡ copy_table s.table i →
    outcome (Ok new) (state g t) ≡ clone_inst i s
cloned s i new g t e p q r =
    ap (λ (x : Graph). done new (state x t)) q
    ∙ (ap (λ (x : Table). done new (state (with_inst (with_results (with_words s.graph (calls_copied s.graph i new)) new (result_types s.graph i) [])) x)) r
    ∙ (ap (λ (x : InstId). done x (state (with_inst (with_results (with_words s.graph (calls_copied s.graph i x)) x (result_types s.graph i) [])) (copy_table s.table i))) p
    ∙ sym (ap (λ (x : Row). unless x (inst s.graph.insts) (state (inst_cloned s.graph i) (copy_table s.table i))) e)))

-- what each step of an accepted clone_inst asks
module _ (s : State) (i new : InstId) (m : Clones s i) (n : new ≡ inst s.graph.insts)
    (lists : s.graph.limits.blocks + 3 * s.graph.limits.insts ≤ length s.graph.words.lists) where
  pub new_below : new.0 < s.graph.limits.insts
  new_below = let e = ap (λ (x : InstId). x.0) n in let b = m.below in omega arith

  pub old_before : i.0 < new.0
  old_before = let e = ap (λ (x : InstId). x.0) n in let b = m.known in omega arith

  lists_in : s.graph.limits.blocks + 3 * new.0 + 3 ≤ length s.graph.words.lists
  lists_in = let b = new_below in omega arith

  pub first_asks : fault_copy s.graph.words (call_list s.graph i 0) (call_list s.graph new 0) ≡ None
  first_asks = first_copy_fits s.graph i new old_before lists_in m.fits

  pub second_asks : (x : Graph) → x ≡ with_words s.graph (first_copied s.graph i new) → fault_copy x.words (call_list x i 1) (call_list x new 1) ≡ None
  second_asks x e =
      ap (λ (y : Graph). fault_copy y.words (call_list y i 1) (call_list y new 1)) e ∙ second_copy_fits s.graph i new old_before lists_in m.fits

  module _ (x : Graph) (e : x ≡ with_words s.graph (calls_copied s.graph i new)) where
    results_are : results x i ≡ results s.graph i
    results_are = ap (λ (y : Graph). results y i) e ∙ results_same s.graph i new old_before

    pub results_short : length (results s.graph i) ≤ 65536 → length (results x i) ≤ 65536
    results_short h = let k = ap length results_are in omega arith

    pub results_room : values_full x (length (results x i)) ≡ None
    results_room = ap (λ (y : Graph). values_full y (length (results x i))) e ∙ (ap (λ (vs : List Value). values_full s.graph (length vs)) results_are ∙ m.values)

    pub results_asks : fault_write x.words (result_list x new) (length (results x i)) ≡ None
    results_asks =
        ap (λ (y : Graph). fault_write y.words (result_list y new) (length (results y i))) e ∙ results_fit s.graph i new old_before lists_in m.fits
