-- Blocks that can be had one after another can be had as the lists are written, since writing a list anew only frees
-- what it had.
use Rattle.std.proofs.Common.{◌≡◌, ℕ, zero, suc, ◌+◌, ◌-◌, ◌^◌, ◌<◌, ◌≤◌, true, ◌&&◌, ◌||◌, ltb, leb, List, [], ◌∷◌, length, get_or, set, None, refl, ◌∙◌, subst, inl, inr, arith}
use Rattle.std.proofs.lemmas.List.{get_or_past, get_or-set_same, get_or-set_other, length-set}
use Rattle.std.proofs.lemmas.Bool.{cases_lt, cases_eq, lt-ltb, le-ltb}
use Rattle.std.proofs.lemmas.Bool.Decides.{nat_tests}
use Rattle.store.specs.Units.{smallest}
use Rattle.store.specs.Bank.{Bank, cleared, fault_block, fault_for, fault_list, fault_write, holding, obtainable, obtained, spared, taken, written, class_of}
use Rattle.store.proofs.Models.{before_first, before_none, before_second, block_none, list_known, none_block}

-- of c as much can be had as of b
pub record Ampler {T : Type 0} (b c : Bank T) : Type 0 where
  pub freed : (k : ℕ) → get_or b.free k 0 ≤ get_or c.free k 0
  pub left : b.left ≤ c.left

offers_by : (k f g m n : ℕ) → f ≤ g → m ≤ n → (ltb k 29 && (ltb 0 f || leb (2 ^ k) m)) ≡ true → (ltb k 29 && (ltb 0 g || leb (2 ^ k) n)) ≡ true
offers_by k f g m n p q e = grind (arith, nat_tests)

ampler_offers : {T : Type 0} (b c : Bank T) (n : ℕ) → Ampler b c → obtainable b n ≡ true → obtainable c n ≡ true
unfolding obtainable
ampler_offers b c zero a e = refl
ampler_offers b c (suc k) a e = offers_by k (get_or b.free k 0) (get_or c.free k 0) b.left c.left (a.freed k) a.left e

-- one block fewer of a size
fewer : (xs : List ℕ) (k : ℕ) → get_or (set xs k (get_or xs k 0 - 1)) k 0 ≡ get_or xs k 0 - 1
fewer xs k = elim (cases_lt k (length xs)) [
  | inl h ↦ get_or-set_same xs k (get_or xs k 0 - 1) 0 h
  | inr h ↦
      let p : length (set xs k (get_or xs k 0 - 1)) ≤ k = simp length-set (h) in
      let e = get_or_past (set xs k (get_or xs k 0 - 1)) k 0 p in
      let f = get_or_past xs k 0 h in
      omega arith
]

-- one block more
more : (xs : List ℕ) (k m : ℕ) → get_or xs m 0 ≤ get_or (set xs k (get_or xs k 0 + 1)) m 0
more xs k m = elim (cases_eq m k) [
  | inl e ↦ rw e (elim (cases_lt k (length xs)) [
    | inl h ↦ let p = get_or-set_same xs k (get_or xs k 0 + 1) 0 h in omega arith
    | inr h ↦ let f = get_or_past xs k 0 h in omega arith
  ])
  | inr ne ↦ let p = get_or-set_other xs k m (get_or xs k 0 + 1) 0 ne in omega arith
]

spared_more : (free : List ℕ) (c m : ℕ) → get_or free m 0 ≤ get_or (spared free c) m 0
unfolding spared
spared_more free zero m = omega arith
spared_more free (suc k) m = more free k m

ampler_cleared : {T : Type 0} (b c : Bank T) (l : ℕ) → Ampler b c → Ampler b (cleared c l)
unfolding cleared
ampler_cleared b c l a = record {
  freed = λ k. let p = spared_more c.free (class_of c l) k in let q = a.freed k in omega arith;
  left = a.left;
}

module _ {T : Type 0} (b c : Bank T) (k : ℕ) (a : Ampler b c) where
  both_freed : 0 < get_or b.free k 0 → Ampler (taken b k) (taken c k)
  unfolding taken
  both_freed h = let q = a.freed k in rw (lt-ltb 0 (get_or b.free k 0) h, lt-ltb 0 (get_or c.free k 0) (omega arith)) (record { freed = at; left = a.left })
    where
      at : (m : ℕ) → get_or (set b.free k (get_or b.free k 0 - 1)) m 0 ≤ get_or (set c.free k (get_or c.free k 0 - 1)) m 0
      at m = elim (cases_eq m k) [
        | inl e ↦ rw e (let p = fewer b.free k in let q = fewer c.free k in let r = a.freed k in omega arith)
        | inr ne ↦ let p = get_or-set_other b.free k m (get_or b.free k 0 - 1) 0 ne in
            let q = get_or-set_other c.free k m (get_or c.free k 0 - 1) 0 ne in let r = a.freed m in omega arith
      ]

  one_freed : get_or b.free k 0 ≤ 0 → 0 < get_or c.free k 0 → Ampler (taken b k) (taken c k)
  unfolding taken
  one_freed h j = rw (le-ltb 0 (get_or b.free k 0) h, lt-ltb 0 (get_or c.free k 0) j) (record { freed = at; left = let r = a.left in omega arith })
    where
      at : (m : ℕ) → get_or b.free m 0 ≤ get_or (set c.free k (get_or c.free k 0 - 1)) m 0
      at m = elim (cases_eq m k) [
        | inl e ↦ rw e (omega arith)
        | inr ne ↦ let q = get_or-set_other c.free k m (get_or c.free k 0 - 1) 0 ne in let r = a.freed m in omega arith
      ]

  none_freed : get_or b.free k 0 ≤ 0 → get_or c.free k 0 ≤ 0 → Ampler (taken b k) (taken c k)
  unfolding taken
  none_freed h j = rw (le-ltb 0 (get_or b.free k 0) h, le-ltb 0 (get_or c.free k 0) j) (record { freed = a.freed; left = let r = a.left in omega arith })

  ampler_taken : Ampler (taken b k) (taken c k)
  ampler_taken = elim (cases_lt 0 (get_or b.free k 0)) [
    | inl h ↦ both_freed h
    | inr h ↦ elim (cases_lt 0 (get_or c.free k 0)) [ inl j ↦ one_freed h j | inr j ↦ none_freed h j ]
  ]

ampler_obtained : {T : Type 0} (b c : Bank T) (n : ℕ) → Ampler b c → Ampler (obtained b n) (obtained c n)
unfolding obtained
ampler_obtained b c zero a = a
ampler_obtained b c (suc k) a = ampler_taken b c k a

ampler_written : {T : Type 0} (b : Bank T) (l : ℕ) (xs : List T) → Ampler (obtained b (smallest (length xs))) (written b l xs)
unfolding written holding
ampler_written b l xs =
    let a = ampler_obtained b (cleared b l) (smallest (length xs)) (ampler_cleared b b l (record { freed = λ k. omega arith; left = omega arith })) in
    record { freed = a.freed; left = a.left }

ampler_for : {T : Type 0} (ns : List ℕ) (b c : Bank T) → Ampler b c → fault_for b ns ≡ None → fault_for c ns ≡ None
unfolding fault_for
ampler_for [] b c a e = refl
ampler_for (n ∷ ns) b c a e =
    let p = before_first (fault_block b n) (fault_for (obtained b (smallest n)) ns) e in
    let q = before_second (fault_block b n) (fault_for (obtained b (smallest n)) ns) e in
    before_none (fault_block c n) _ (block_none c n (ampler_offers b c (smallest n) a (none_block b n p)))
    ∙ ampler_for ns (obtained b (smallest n)) (obtained c (smallest n)) (ampler_obtained b c (smallest n) a) q

module _ {T : Type 0} (b : Bank T) (l n : ℕ) (ns : List ℕ) where
  -- the first of the lists can be written
  pub first_fits : l < length b.lists → fault_for b (n ∷ ns) ≡ None → fault_write b l n ≡ None
  unfolding fault_for fault_write
  first_fits h e =
      let p = before_first (fault_block b n) (fault_for (obtained b (smallest n)) ns) e in
      let a = ampler_cleared b b l (record { freed = λ k. omega arith; left = omega arith }) in
      before_none (fault_list b l) _ (list_known b l h)
      ∙ block_none (cleared b l) n (ampler_offers b (cleared b l) (smallest n) a (none_block b n p))

  -- and then the others
  pub rest_fits : (xs : List T) → length xs ≡ n → fault_for b (n ∷ ns) ≡ None → fault_for (written b l xs) ns ≡ None
  unfolding fault_for
  rest_fits xs k e =
      let q = before_second (fault_block b n) (fault_for (obtained b (smallest n)) ns) e in
      let a : Ampler (obtained b (smallest n)) (written b l xs) = subst (λ (m : ℕ). Ampler (obtained b (smallest m)) (written b l xs)) k (ampler_written b l xs) in
      ampler_for ns (obtained b (smallest n)) (written b l xs) a q
