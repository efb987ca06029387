-- The laws, call by call and over runs.
use Rattle.std.proofs.Common.{◌≡◌, ℕ, ◌+◌, ◌*◌, ◌^◌, ◌<◌, ◌≤◌, true, false, ◌≢◌, List, [], ◌∷◌, ◌++◌, length, get_or, set, Some, None, Option, sym, refl, ap, ◌∙◌, subst, inl, inr, add-one, arith}
use Rattle.std.specs.List.{remove as removed}
use Rattle.std.proofs.lemmas.List.{length-set, length_push}
use Rattle.std.proofs.lemmas.List.Edits.{length-remove}
use Rattle.std.proofs.lemmas.Bool.{cases_Bool, cases_lt, ltb-true, lt-ltb, le-ltb, lt-leb}
use Rattle.std.proofs.lemmas.Bool.Decides.{nat_tests}
use Rattle.store.specs.declared.parts.PoolFault.{PoolFault}
use Rattle.store.specs.Faults.{unless}
use Rattle.store.specs.Units.{Smallest, smallest, units}
use Rattle.store.specs.Bank.{Bank, nothing, items_of, class_of, fresh, roomy, obtainable, cleared, written, grown, pushed, changed, shortened, removed_at, swapped_out, swap_removed_at}
use Rattle.store.proofs.Models.{had_class, push_known, push_grows, none_block, known_list, known_at, write_known, write_block, copy_known, copy_write}
use Rattle.store.proofs.Acts.{pushed_within, pushed_grown, shortened_none, shortened_some, swapped_length, smallest_holds, smallest_least}
use Rattle.store.proofs.Outcomes.{cleared_other, written_other, pushed_other, changed_other, removed_other, swap_removed_other}
use Rattle.store.proofs.Sums.{Lawful, lawful_holding, lawful_cleared, lawful_anew, lawful_grown, lawful_fresh, good_smallest}
use Rattle.store.proofs.Views.{units_at, none_units}
use Rattle.pool.specs.Calls.{Call, push, change, remove, swap_remove, clear, write, copy, fault, done, does, run}
use Rattle.pool.specs.Laws.{target, Spared, Tidy}

done_other : {T : Type 0} (c : Call T) (b : Bank T) (m : ℕ) → target c ≢ m → get_or (done b c).lists m nothing ≡ get_or b.lists m nothing
done_other (push l x) b m ne = pushed_other b l m (λ e. ne (sym e)) x
done_other (change l i x) b m ne = changed_other b l m (λ e. ne (sym e)) i x
done_other (remove l i) b m ne = removed_other b l m (λ e. ne (sym e)) i
done_other (swap_remove l i) b m ne = swap_removed_other b l m (λ e. ne (sym e)) i
done_other (clear l) b m ne = cleared_other b l m (λ e. ne (sym e))
done_other (write l xs) b m ne = written_other b l m (λ e. ne (sym e)) xs
done_other (copy l t) b m ne = written_other b t m (λ e. ne (sym e)) (items_of b l)

unless_other : {T : Type 0} (f : Option PoolFault) (b d : Bank T) (m : ℕ) → get_or d.lists m nothing ≡ get_or b.lists m nothing → get_or (unless f b d).lists m nothing ≡ get_or b.lists m nothing
unless_other None b d m e = e
unless_other (Some x) b d m e = refl

pub others_kept : {T : Type 0} (cs : List (Call T)) (b : Bank T) (m : ℕ) → Spared m cs → get_or (run b cs).lists m nothing ≡ get_or b.lists m nothing
others_kept [] b m s = refl
others_kept (c ∷ cs) b m s = others_kept cs (does b c) m s.1 ∙ unless_other (fault b c) b (done b c) m (done_other c b m s.0)

-- each call keeps what makes a pool lawful
module _ {T : Type 0} (u : ℕ) (b : Bank T) (ok : Lawful u b) where
  lawful_shortened : (l : ℕ) → l < length b.lists → (xs : List T) → length xs ≤ length (items_of b l) → Lawful u (shortened b l xs)
  lawful_shortened l h xs n =
      let f = (ok.good l).0 in
      elim (cases_lt 0 (length xs)) [
        | inl p ↦ subst (Lawful u) (sym (shortened_some b l xs p)) (lawful_holding u b l ok h xs (omega arith) (λ q. p))
        | inr z ↦ subst (Lawful u) (sym (shortened_none b l xs (omega arith))) (lawful_cleared u b l ok h)
      ]

  lawful_pushed : (l : ℕ) (x : T) → fault b (push l x) ≡ None → Lawful u (pushed b l x)
  unfolding grown
  lawful_pushed l x e =
      let h = push_known b l e in
      let xs = items_of b l ++ x ∷ [] in
      let n = length_push (items_of b l) x in
      elim (cases_Bool (roomy b l)) [
        | inl y ↦ let r = ltb-true _ _ y in
            subst (Lawful u) (sym (pushed_within b l x y)) (lawful_holding u b l ok h (items_of b l ++ x ∷ []) (omega arith) (λ q. omega arith))
        | inr y ↦
            let o = none_block b (length (items_of b l) + 1) (sym (push_grows b l h y) ∙ e) in
            let c : obtainable b (smallest (length (items_of b l ++ x ∷ []))) ≡ true = ap (λ k. obtainable b (smallest k)) n ∙ o in
            subst (Lawful u) (sym (pushed_grown b l x y))
            (lawful_grown u b l ok h (items_of b l ++ x ∷ []) (smallest (length (items_of b l ++ x ∷ [])))
            (good_smallest (items_of b l ++ x ∷ []) (had_class b (smallest (length (items_of b l ++ x ∷ []))) c)) c)
      ]

  lawful_written : (l : ℕ) (xs : List T) → fault b (write l xs) ≡ None → Lawful u (written b l xs)
  unfolding written
  lawful_written l xs e =
      let h = write_known b l (length xs) e in
      let o = none_block (cleared b l) (length xs) (sym (write_block b l (length xs) h) ∙ e) in
      lawful_anew u b l ok h xs (smallest (length xs)) (good_smallest xs (had_class (cleared b l) (smallest (length xs)) o)) o

  lawful_done : (c : Call T) → fault b c ≡ None → Lawful u (done b c)
  unfolding changed removed_at swap_removed_at
  lawful_done (push l x) e = lawful_pushed l x e
  lawful_done (change l i x) e =
      let p = known_at b l i e in
      let n = length-set (items_of b l) i x in
      let f = (ok.good l).0 in
      lawful_holding u b l ok p.0 (set (items_of b l) i x) (omega arith) (λ q. omega (arith, p.1))
  lawful_done (remove l i) e =
      let p = known_at b l i e in
      let n = length-remove (items_of b l) i p.1 in
      lawful_shortened l p.0 (removed (items_of b l) i) (omega arith)
  lawful_done (swap_remove l i) e =
      let p = known_at b l i e in
      let n = swapped_length (items_of b l) i p.1 in
      lawful_shortened l p.0 (swapped_out (items_of b l) i) (omega arith)
  lawful_done (clear l) e = lawful_cleared u b l ok (known_list b l e)
  lawful_done (write l xs) e = lawful_written l xs e
  lawful_done (copy l t) e = lawful_written t (items_of b l) (sym (copy_write b l t (copy_known b l t e)) ∙ e)

lawful_does : {T : Type 0} (u : ℕ) (b : Bank T) (ok : Lawful u b) (c : Call T) → Lawful u (does b c)
lawful_does u b ok c = by (fault b c) refl where
  by : (f : Option PoolFault) → fault b c ≡ f → Lawful u (unless f b (done b c))
  by None e = lawful_done u b ok c e
  by (Some x) e = ok

lawful_run : {T : Type 0} (u : ℕ) (cs : List (Call T)) (b : Bank T) → Lawful u b → Lawful u (run b cs)
lawful_run u [] b ok = ok
lawful_run u (c ∷ cs) b ok = lawful_run u cs (does b c) (lawful_does u b ok c)

pub nothing_leaks : {T : Type 0} (n u : ℕ) (cs : List (Call T)) → Tidy u (run (fresh n u) cs)
nothing_leaks n u cs =
    let b = run (fresh n u) cs in
    let ok = lawful_run u cs (fresh n u) (lawful_fresh n u) in
    record {
      whole = ok.total;
      fits = λ l. (ok.good l).0;
      empty = λ l e. elim (cases_lt 0 (class_of b l)) [ inl p ↦ let q = (ok.good l).2 p in absurd (omega arith) | inr z ↦ omega arith ];
      filled = λ l e. let f = (ok.good l).0 in let k = ap units e ∙ none_units in omega arith;
    }

pub refused_when : {T : Type 0} (b : Bank T) (k : ℕ) → k ≤ 28
    → (obtainable b (k + 1) ≡ false → (get_or b.free k 0 ≡ 0) × (4 * b.left < 4 * 2 ^ k)) × ((get_or b.free k 0 ≡ 0) × (4 * b.left < 4 * 2 ^ k) → obtainable b (k + 1) ≡ false)
unfolding obtainable
refused_when b k h =
    rw add-one (
      (λ e. (grind (arith, nat_tests), grind (arith, nat_tests))),
      (λ p. rw (lt-ltb k 29 (omega arith), le-ltb 0 (get_or b.free k 0) (omega (arith, p.0)), lt-leb (2 ^ k) b.left (omega (arith, p.1)))),
    )

pub smallest_had : (n : ℕ) → n ≤ 2 ^ 30 → Smallest n (smallest n)
smallest_had n h =
    let u = units_at 28 in
    let l = smallest_least n 29 (omega arith) in
    (smallest_holds n l, λ d p. smallest_least n d p)
