-- What the model's steps come to.
use Rattle.std.proofs.Common.{◌≡◌, ℕ, zero, suc, ◌+◌, ◌-◌, ◌*◌, ◌^◌, ◌<◌, ◌≤◌, Bool, true, false, cond, ◌&&◌, ◌||◌, ltb, leb, ◌≢◌, List, [], ◌∷◌, length, get_or, set, Some, None, Ok, Option, sym, refl, ap, ◌∙◌, subst, inl, inr, add-one, arith}
use Rattle.std.proofs.lemmas.Bool.Decides.{nat_tests}
use Rattle.std.proofs.lemmas.Bool.{lt-ltb, le-ltb, le-leb, lt-leb, cond-true, cond-false, cases_lt, ltb-true}
use Rattle.store.specs.Units.{units, smallest, first_class}
use Rattle.store.specs.declared.parts.PoolFault.{PoolFault}
use Rattle.store.specs.declared.parts.PoolFault.TheVariants.{Unknown}
use Rattle.store.specs.Faults.{before, judged}
use Rattle.store.specs.Bank.{Bank, items_of, class_of, taken, obtainable, obtained, spared, cleared, roomy, fault_list, fault_block, fault_for, fault_push, fault_write, fault_copy, fault_at, no_block}
use Rattle.std.proofs.lemmas.List.{get_or-set_same, get_or-set_other}

pub same_bank : {T : Type 0} {a b : Bank T} → a.lists ≡ b.lists → a.free ≡ b.free → a.left ≡ b.left → a ≡ b
same_bank q r s = λ i. record { lists = q i; free = r i; left = s i }

-- the search for a class
pub class_hit : (c n : ℕ) → c < 30 → n ≤ 4 * units c → first_class (30 - c) c n ≡ c
unfolding first_class
class_hit c n h p =
    let e : 30 - c ≡ suc (29 - c) = omega arith in
    ap (λ f. first_class f c n) e ∙ cond-true (leb n (4 * units c)) c (first_class (29 - c) (suc c) n) (le-leb n (4 * units c) p)

pub class_miss : (c n : ℕ) → c < 30 → 4 * units c < n → first_class (30 - c) c n ≡ first_class (30 - (c + 1)) (c + 1) n
unfolding first_class
class_miss c n h p =
    let e : 30 - c ≡ suc (29 - c) = omega arith in
    let f : 29 - c ≡ 30 - (c + 1) = omega arith in
    ap (λ m. first_class m c n) e
    ∙ (cond-false (leb n (4 * units c)) c (first_class (29 - c) (suc c) n) (lt-leb n (4 * units c) p)
    ∙ (ap (λ m. first_class m (suc c) n) f ∙ ap (λ d. first_class (30 - (c + 1)) d n) (sym (add-one c))))

pub class_end : (c n : ℕ) → 30 ≤ c → first_class (30 - c) c n ≡ c
unfolding first_class
class_end c n h = let e : 30 - c ≡ 0 = omega arith in ap (λ m. first_class m c n) e

pub class_start : (n : ℕ) → first_class (30 - 0) 0 n ≡ smallest n
unfolding smallest
class_start n = refl

-- blocks had and freed, by class
module _ {T : Type 0} (b : Bank T) (k : ℕ) where
  pub obtained_freed : 0 < get_or b.free k 0 → obtained b (k + 1) ≡ record { lists = b.lists; free = set b.free k (get_or b.free k 0 - 1); left = b.left }
  unfolding obtained taken
  obtained_freed h = let e = lt-ltb 0 (get_or b.free k 0) h in rw (add-one, e)

  pub obtained_new : get_or b.free k 0 ≤ 0 → obtained b (k + 1) ≡ record { lists = b.lists; free = b.free; left = b.left - 2 ^ k }
  unfolding obtained taken
  obtained_new h = let e = le-ltb 0 (get_or b.free k 0) h in rw (add-one, e)

pub spared_some : (free : List ℕ) (c : ℕ) → 0 < c → spared free c ≡ set free (c - 1) (get_or free (c - 1) 0 + 1)
unfolding spared
spared_some free zero h = absurd (omega arith)
spared_some free (suc k) h = let e : k ≡ suc k - 1 = omega arith in ap (λ n. set free n (get_or free n 0 + 1)) e

pub spared_none : (free : List ℕ) (c : ℕ) → c ≡ 0 → spared free c ≡ free
unfolding spared
spared_none free zero e = refl
spared_none free (suc k) e = absurd (omega arith)

pub had_size : {T : Type 0} (b : Bank T) (c : ℕ) → 0 < c → obtainable b c ≡ true → (c - 1 < 29) × ((get_or b.free (c - 1) 0 ≤ 0) → 2 ^ (c - 1) ≤ b.left)
unfolding obtainable
had_size b zero h e = absurd (omega arith)
had_size b (suc k) h e =
    let q : suc k - 1 ≡ k = omega arith in
    rw q (grind (arith, nat_tests), λ z. grind (arith, nat_tests))

-- a block that can be had is of one of the 29 sizes
pub had_class : {T : Type 0} (b : Bank T) (c : ℕ) → obtainable b c ≡ true → c ≤ 29
had_class b c e =
    elim (cases_lt 0 c) [ inl h ↦ let s = (had_size b c h e).0 in omega arith | inr z ↦ omega arith ]

-- what there is to have of decides what can be had
pub same_offer : {S T : Type 0} (b : Bank S) (d : Bank T) (c : ℕ) → b.free ≡ d.free → b.left ≡ d.left → obtainable b c ≡ obtainable d c
unfolding obtainable
same_offer b d zero p q = refl
same_offer b d (suc k) p q = λ i. ltb k 29 && (ltb 0 (get_or (p i) k 0) || leb (2 ^ k) (q i))

pub same_free : {S T : Type 0} (b : Bank S) (d : Bank T) (c : ℕ) → b.free ≡ d.free → b.left ≡ d.left → (obtained b c).free ≡ (obtained d c).free
unfolding obtained taken
same_free b d zero p q = p
same_free b d (suc k) p q =
    elim (cases_lt 0 (get_or b.free k 0)) [
      | inl h ↦
          let e = lt-ltb 0 (get_or b.free k 0) h in
          let f = sym (ap (λ xs. ltb 0 (get_or xs k 0)) p) ∙ e in
          rw (e, f) (ap (λ xs. set xs k (get_or xs k 0 - 1)) p)
      | inr h ↦
          let e = le-ltb 0 (get_or b.free k 0) h in
          let f = sym (ap (λ xs. ltb 0 (get_or xs k 0)) p) ∙ e in
          rw (e, f) p
    ]

pub same_left : {S T : Type 0} (b : Bank S) (d : Bank T) (c : ℕ) → b.free ≡ d.free → b.left ≡ d.left → (obtained b c).left ≡ (obtained d c).left
unfolding obtained taken
same_left b d zero p q = q
same_left b d (suc k) p q =
    elim (cases_lt 0 (get_or b.free k 0)) [
      | inl h ↦
          let e = lt-ltb 0 (get_or b.free k 0) h in
          let f = sym (ap (λ xs. ltb 0 (get_or xs k 0)) p) ∙ e in
          rw (e, f) q
      | inr h ↦
          let e = le-ltb 0 (get_or b.free k 0) h in
          let f = sym (ap (λ xs. ltb 0 (get_or xs k 0)) p) ∙ e in
          rw (e, f) (ap (λ n. n - 2 ^ k) q)
    ]

pub same_for : {S T : Type 0} (ns : List ℕ) (b : Bank S) (d : Bank T) → b.free ≡ d.free → b.left ≡ d.left → fault_for b ns ≡ fault_for d ns
unfolding fault_for fault_block
same_for [] b d p q = refl
same_for (n ∷ ns) b d p q =
    let e = same_offer b d (smallest n) p q in
    let f = same_for ns (obtained b (smallest n)) (obtained d (smallest n)) (same_free b d (smallest n) p q) (same_left b d (smallest n) p q) in
    λ i. before (cond (e i) None (Some (no_block n))) (f i)

-- by the steps of the code
pub offer_size : {T : Type 0} (b : Bank T) (c : ℕ) → 0 < c → c ≤ 29 → obtainable b c ≡ (ltb 0 (get_or b.free (c - 1) 0) || leb (units c) b.left)
unfolding obtainable units
offer_size b zero h l = absurd (omega arith)
offer_size b (suc k) h l =
    let q : k ≡ suc k - 1 = omega arith in
    let e = lt-ltb k 29 (omega arith) in
    rw e (ap (λ n. ltb 0 (get_or b.free n 0) || leb (2 ^ k) b.left) q)

pub offer_none : {T : Type 0} (b : Bank T) (c : ℕ) → c ≡ 0 → obtainable b c ≡ true
unfolding obtainable
offer_none b zero h = refl
offer_none b (suc k) h = absurd (omega arith)

pub offer_past : {T : Type 0} (b : Bank T) (c : ℕ) → 29 < c → obtainable b c ≡ false
unfolding obtainable
offer_past b zero h = absurd (omega arith)
offer_past b (suc k) h = rw (le-ltb k 29 (omega arith))

pub obtained_none : {T : Type 0} (b : Bank T) (c : ℕ) → c ≡ 0 → obtained b c ≡ b
unfolding obtained
obtained_none b zero h = refl
obtained_none b (suc k) h = absurd (omega arith)

pub before_none : (f g : Option PoolFault) → f ≡ None → before f g ≡ g
before_none f g e = ap (λ z. before z g) e

pub before_first : (f g : Option PoolFault) → before f g ≡ None → f ≡ None
before_first None g e = refl
before_first (Some x) g e = e

pub before_second : (f g : Option PoolFault) → before f g ≡ None → g ≡ None
before_second None g e = e
before_second (Some x) g e = let z : ◌≡◌ {A = ℕ} 0 1 = cc in absurd (omega arith)

pub cond_none : (t : Bool) (x : PoolFault) → cond t None (Some x) ≡ None → t ≡ true
cond_none true x e = refl
cond_none false x e = let z : ◌≡◌ {A = ℕ} 0 1 = cc in absurd (omega arith)

module _ {T : Type 0} (b : Bank T) where
  pub list_known : (l : ℕ) → l < length b.lists → fault_list b l ≡ None
  unfolding fault_list
  list_known l h = rw (lt-ltb l (length b.lists) h)

  pub known_list : (l : ℕ) → fault_list b l ≡ None → l < length b.lists
  unfolding fault_list
  known_list l e = ltb-true l (length b.lists) (cond_none (ltb l (length b.lists)) (Unknown l) e)

  pub block_none : (n : ℕ) → obtainable b (smallest n) ≡ true → fault_block b n ≡ None
  unfolding fault_block
  block_none n e = rw e

  pub block_some : (n : ℕ) → obtainable b (smallest n) ≡ false → fault_block b n ≡ Some (no_block n)
  unfolding fault_block
  block_some n e = rw e

  pub none_block : (n : ℕ) → fault_block b n ≡ None → obtainable b (smallest n) ≡ true
  unfolding fault_block
  none_block n e = cond_none (obtainable b (smallest n)) (no_block n) e

-- a list whose class is the one wanted keeps it
module _ {T : Type 0} (b : Bank T) (l : ℕ) (sized : length b.free ≡ 29) (fits : class_of b l ≤ 29) where
  own_offer : (c : ℕ) → c ≡ class_of b l → obtainable (cleared b l) c ≡ true
  unfolding obtainable cleared spared
  own_offer zero e = refl
  own_offer (suc k) e =
      let f : spared b.free (class_of b l) ≡ set b.free k (get_or b.free k 0 + 1) = ap (spared b.free) (sym e) in
      let g : 0 < get_or (spared b.free (class_of b l)) k 0 = subst (λ (xs : List ℕ). 0 < get_or xs k 0) (sym f) (subst (λ (n : ℕ). 0 < n) (sym (get_or-set_same b.free k (get_or b.free k 0 + 1) 0 (omega arith))) (omega arith)) in
      rw (lt-ltb k 29 (omega arith), lt-ltb 0 (get_or (spared b.free (class_of b l)) k 0) g)

  pub own_block : (n : ℕ) → smallest n ≡ class_of b l → fault_block (cleared b l) n ≡ None
  own_block n e = block_none (cleared b l) n (own_offer (smallest n) e)

-- else its own freed block does not matter
pub spared_other : (free : List ℕ) (c k : ℕ) → suc k ≢ c → get_or (spared free c) k 0 ≡ get_or free k 0
unfolding spared
spared_other free zero k ne = refl
spared_other free (suc j) k ne = get_or-set_other free j k (get_or free j 0 + 1) 0 (λ e. ne (ap suc e))

module _ {T : Type 0} (b : Bank T) (l : ℕ) where
  pub other_offer : (c : ℕ) → c ≢ class_of b l → obtainable (cleared b l) c ≡ obtainable b c
  unfolding obtainable cleared
  other_offer zero ne = refl
  other_offer (suc k) ne = ap (λ n. ltb k 29 && (ltb 0 n || leb (2 ^ k) b.left)) (spared_other b.free (class_of b l) k ne)

  pub other_block : (n : ℕ) → smallest n ≢ class_of b l → fault_block (cleared b l) n ≡ fault_block b n
  unfolding fault_block
  other_block n ne = ap (λ t. cond t None (Some (no_block n))) (other_offer (smallest n) ne)

module _ {T : Type 0} (b : Bank T) (l i : ℕ) where
  pub known_at : fault_at b l i ≡ None → (l < length b.lists) × (i < length (items_of b l))
  unfolding fault_at
  known_at e = (
    known_list b l (before_first (fault_list b l) _ e),
    ltb-true i (length (items_of b l)) (cond_none (ltb i (length (items_of b l))) (Unknown i) (before_second (fault_list b l) _ e)),
  )

module _ {T : Type 0} (b : Bank T) (l : ℕ) where
  pub push_roomy : l < length b.lists → roomy b l ≡ true → fault_push b l ≡ None
  unfolding fault_push
  push_roomy h e = before_none (fault_list b l) _ (list_known b l h) ∙ rw e

  pub push_grows : l < length b.lists → roomy b l ≡ false → fault_push b l ≡ fault_block b (length (items_of b l) + 1)
  unfolding fault_push
  push_grows h e = before_none (fault_list b l) _ (list_known b l h) ∙ rw e

  pub push_known : fault_push b l ≡ None → l < length b.lists
  unfolding fault_push
  push_known e = known_list b l (before_first (fault_list b l) _ e)

  pub write_block : (n : ℕ) → l < length b.lists → fault_write b l n ≡ fault_block (cleared b l) n
  unfolding fault_write
  write_block n h = before_none (fault_list b l) _ (list_known b l h)

  pub write_known : (n : ℕ) → fault_write b l n ≡ None → l < length b.lists
  unfolding fault_write
  write_known n e = known_list b l (before_first (fault_list b l) _ e)

  pub copy_write : (m : ℕ) → l < length b.lists → fault_copy b l m ≡ fault_write b m (length (items_of b l))
  unfolding fault_copy
  copy_write m h = before_none (fault_list b l) _ (list_known b l h)

  pub copy_known : (m : ℕ) → fault_copy b l m ≡ None → l < length b.lists
  unfolding fault_copy
  copy_known m e = known_list b l (before_first (fault_list b l) _ e)

-- what is known where a list can be written anew, and where it can have another's items
pub write_fits : {T : Type 0} (b : Bank T) (l n : ℕ) → fault_write b l n ≡ None → (l < length b.lists) × (obtainable (cleared b l) (smallest n) ≡ true)
write_fits b l n e =
    let h = write_known b l n e in
    (h, none_block (cleared b l) n (sym (write_block b l n h) ∙ e))

pub copy_fits : {T : Type 0} (b : Bank T) (l m : ℕ) → fault_copy b l m ≡ None
    → (l < length b.lists) × (m < length b.lists) × (obtainable (cleared b m) (smallest (length (items_of b l))) ≡ true)
copy_fits b l m e =
    let h = copy_known b l m e in
    let w = write_fits b m (length (items_of b l)) (sym (copy_write b l m h) ∙ e) in
    (h, w.0, w.1)

-- and where one can have another item, but has no room for it
pub push_fits : {T : Type 0} (b : Bank T) (l : ℕ) → fault_push b l ≡ None → roomy b l ≡ false → obtainable b (smallest (length (items_of b l) + 1)) ≡ true
push_fits b l e r = none_block b (length (items_of b l) + 1) (sym (push_grows b l (push_known b l e) r) ∙ e)

module _ {T : Type 0} (d : Bank T) (n : ℕ) (ns : List ℕ) where
  pub for_more : obtainable d (smallest n) ≡ true → fault_for d (n ∷ ns) ≡ fault_for (obtained d (smallest n)) ns
  unfolding fault_for
  for_more e = before_none (fault_block d n) (fault_for (obtained d (smallest n)) ns) (block_none d n e)

  pub for_stop : obtainable d (smallest n) ≡ false → fault_for d (n ∷ ns) ≡ Some (no_block n)
  unfolding fault_for
  for_stop e = ap (λ f. before f (fault_for (obtained d (smallest n)) ns)) (block_some d n e)

pub for_none : {T : Type 0} (d : Bank T) → fault_for d [] ≡ None
unfolding fault_for
for_none d = refl

-- what a question that was not refused says
pub judged_none : (f : Option PoolFault) → judged f ≡ Ok tt → f ≡ None
judged_none None e = refl
judged_none (Some x) e = let z : ◌≡◌ {A = ℕ} 0 1 = cc in absurd (omega arith)

pub found : {T : Type 0} (b : Bank T) (l : ℕ) → judged (fault_list b l) ≡ Ok tt → l < length b.lists
found b l e = known_list b l (judged_none (fault_list b l) e)
