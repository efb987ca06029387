-- What judged results come to.
use Rattle.std.proofs.Common.{◌≡◌, ℕ, zero, suc, ◌+◌, ◌-◌, ◌*◌, ◌<◌, ◌≤◌, ltb, leb, List, [], ◌∷◌, length, get_or, take, Some, None, Ok, Err, Option, sym, refl, ap, ◌∙◌, subst, inl, inr, arith}
use Rattle.std.proofs.lemmas.List.{get_or-take}
use Rattle.std.proofs.lemmas.Bool.{cases_lt, leb-false, ltb-false}
use Rattle.ir.specs.declared.entities.Value.{Value}
use Rattle.ir.specs.declared.entities.Inst.{Inst as InstId}
use Rattle.ir.specs.declared.entities.Type.{«Type» as Ty}
use Rattle.ir.specs.declared.value_data.ValueData.{ValueData}
use Rattle.ir.specs.declared.fault.PackFault.TheVariants.{Wide}
use Rattle.store.specs.Units.{smallest, units}
use Rattle.store.specs.Bank.{Bank, Owned, class_of, cleared, fault_write, holding, obtained, written}
use Rattle.store.proofs.Models.{none_block, offer_past, write_block, write_known}
use Rattle.store.proofs.Acts.{smallest_holds}
use Rattle.model.specs.declared.fault.GraphFault.{GraphFault}
use Rattle.model.specs.declared.fault.GraphFault.TheVariants.{Full, Long, Packing, Unknown}
use Rattle.model.specs.Refusals.{Row, first, first_among, outcome, settle, unless}
use Rattle.model.specs.State.{Graph, result_list}
use Rattle.model.specs.Edits.{make_inst_results_rows, reused, seated, seats, with_defs, with_results, with_words}
use Rattle.model.proofs.Banks.{OnlyList, anew_only, cleared_only, obtained_lists}
use Rattle.model.proofs.Rows.{cond_none, first_of_none, passes, pool_none, when_none}
use Rattle.defs.specs.Graphs.{judged}
use Rattle.results.specs.Seats.{Known, Seatable, news, seated_in}
use Rattle.judges.proofs.Asks.{judged_none}
use Rattle.results.proofs.Each.{judged_err}
use Rattle.results.proofs.Seating.{again, held}

-- no value to reuse is unknown
known_each : (ds : List ValueData) (us : List (Option Value)) → first_among (λ v. leb (length ds) v.0) (λ v. Unknown v.0) (reused us) ≡ None →
    (k : ℕ) → Known ds (get_or us k None)
known_each ds [] e k = tt
known_each ds (None ∷ us) e zero = tt
known_each ds (None ∷ us) e (suc k) = known_each ds us e k
known_each ds (Some v ∷ us) e zero =
    leb-false (length ds) v.0 (cond_none (leb (length ds) v.0) (Unknown v.0) (first_among (λ v. leb (length ds) v.0) (λ v. Unknown v.0) (reused us)) e).0
known_each ds (Some v ∷ us) e (suc k) =
    known_each ds us (cond_none (leb (length ds) v.0) (Unknown v.0) (first_among (λ v. leb (length ds) v.0) (λ v. Unknown v.0) (reused us)) e).1 k

-- a place has a new value or one to reuse
news_are : (ts : List Ty) (us : List (Option Value)) → news ts us + length (reused (take (length ts) us)) ≡ length ts
news_are [] us = refl
news_are (t ∷ ts) [] = let h = news_none ts in omega arith
  where
    news_none : (ts : List Ty) → news ts [] ≡ length ts
    news_none [] = refl
    news_none (t ∷ ts) = ap suc (news_none ts)
news_are (t ∷ ts) (None ∷ us) = let h = news_are ts us in omega arith
news_are (t ∷ ts) (Some v ∷ us) = let h = news_are ts us in omega arith

seats_length : (n : ℕ) (ts : List Ty) (us : List (Option Value)) → length (seats n ts us) ≡ length ts
seats_length n [] us = refl
seats_length n (t ∷ ts) [] = ap suc (seats_length (n + 1) ts [])
seats_length n (t ∷ ts) (None ∷ us) = ap suc (seats_length (n + 1) ts us)
seats_length n (t ∷ ts) (Some v ∷ us) = ap suc (seats_length n ts us)

-- a list written anew, with no item yet and a block for n
module _ (w : Bank Value) (l n : ℕ) (ok : fault_write w l n ≡ None) where
  abbrev pub reserved : Bank Value
  reserved = holding (obtained (cleared w l) (smallest n)) l [] (smallest n)

  in_list : l < length w.lists
  in_list = write_known w l n ok

  still : l < length (obtained (cleared w l) (smallest n)).lists
  still =
      let e = ap length (obtained_lists (cleared w l) (smallest n)) ∙ (cleared_only w l).count in
      let h = in_list in
      omega arith

  only : OnlyList w reserved l []
  only = anew_only w l [] (smallest n)

  of_class : class_of reserved l ≡ smallest n
  of_class = ap (λ (o : Owned Value). o.class) (held (obtained (cleared w l) (smallest n)) l (smallest n) [] still)

  small : smallest n ≤ 29
  small = elim (cases_lt 29 (smallest n)) [
    | inl h ↦
        let a = offer_past (cleared w l) (smallest n) h in
        let b = none_block (cleared w l) n (sym (write_block w l n in_list) ∙ ok) in
        absurd cc
    | inr h ↦ h
  ]

  block : n ≤ 4 * units (class_of reserved l)
  block = subst (λ (c : ℕ). n ≤ 4 * units c) (sym of_class) (smallest_holds n small)

  filled : (xs : List Value) → length xs ≡ n → holding reserved l xs (class_of reserved l) ≡ written w l xs
  unfolding written
  filled xs e =
      ap (holding reserved l xs) of_class
      ∙ (again (obtained (cleared w l) (smallest n)) l (smallest n) [] still xs
      ∙ ap (λ (m : ℕ). holding (obtained (cleared w l) (smallest m)) l xs (smallest m)) (sym e))

module _ (g : Graph) (i : InstId) (ts : List Ty) (us : List (Option Value)) (e : Ok tt ≡ judged (first (make_inst_results_rows g i ts us))) where
  abbrev list : ℕ
  list = result_list g i

  no_row : first (make_inst_results_rows g i ts us) ≡ None
  no_row = judged_none (first (make_inst_results_rows g i ts us)) e

  pub block_had : fault_write g.words (result_list g i) (length ts) ≡ None
  block_had =
      let q = passes (make_inst_results_rows g i ts us) no_row in
      pool_none (fault_write g.words (result_list g i) (length ts)) q.1.1.1.1.1.1.1.1.0

  -- nothing stands in the way
  pub seatable : Seatable (with_words g (reserved g.words (result_list g i) (length ts) block_had)) (result_list g i) ts us
  seatable =
      let q = passes (make_inst_results_rows g i ts us) no_row in
      let n = length (reused (take (length ts) us)) in
      let o = only g.words list (length ts) block_had in
      let h = in_list g.words list (length ts) block_had in
      let c = o.count in
      let f = ltb-false g.limits.values (length g.defs + (length ts - length (reused (take (length ts) us)))) (when_none _ (Full g.limits.values) q.1.1.1.1.1.1.1.0) in
      let m = news_are ts us in
      record {
        list = omega arith;
        empty = o.here h;
        block = block g.words list (length ts) block_had;
        short = ltb-false 65536 (length ts) (when_none (ltb 65536 (length ts)) Long q.1.1.1.1.1.1.1.1.1.0);
        narrow = λ k l. leb-false 16384 (get_or ts k (record { 0 = 0 })).0
            (first_of_none (λ t. leb 16384 t.0) (λ t. Packing (Wide t.0)) ts q.1.1.1.0 (record { 0 = 0 }) k l);
        known = λ k l. subst (λ (u : Option Value). Known g.defs u) (get_or-take (length ts) us k None l) (known_each g.defs (take (length ts) us) q.1.0 k);
        room = omega arith;
      }

  -- and they are made
  pub made : seated_in (with_words g (reserved g.words (result_list g i) (length ts) block_had)) i (result_list g i) ts us ≡ with_results g i ts us
  made =
      ap (with_words (with_defs g (seated i 0 ts (seats (length g.defs) ts us) g.defs)))
      (filled g.words list (length ts) block_had (seats (length g.defs) ts us) (seats_length (length g.defs) ts us))

  pub answered : (x : Graph) → x ≡ with_results g i ts us → outcome (Ok (length ts)) x ≡ settle (make_inst_results_rows g i ts us) (length ts) (with_results g i ts us)
  answered x p = ap (outcome (Ok (length ts))) p ∙ ap (λ (r : Row). unless r (length ts) (with_results g i ts us)) (sym no_row)

-- a refusal
pub refused_by : {A : Type 0} (rows : List Row) (f : GraphFault) (a : A) (x y : Graph) → Err f ≡ judged (first rows) → outcome {A = A} (Err f) x ≡ settle rows a y
refused_by rows f a x y e = ap (λ (r : Row). unless r a y) (sym (judged_err (first rows) f e))
