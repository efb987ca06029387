-- What calls made of steps do to what a store holds.
use Rattle.std.proofs.Common.{◌≡◌, ℕ, zero, suc, ◌+◌, ◌-◌, ◌*◌, ◌<◌, ◌≤◌, true, false, ltb, ◌≢◌, List, [], ◌∷◌, ◌++◌, length, get_or, take, drop, set, sym, refl, ap, ◌∙◌, inl, inr, add-one, arith}
use Rattle.std.proofs.lemmas.List.{length-set, length-append, get_or-set_same, get_or-set_other, set-set, set_comm, set-get_or, set_split, length-take, length-drop, drop_more, drop_all, nil_from_length, append_assoc}
use Rattle.std.proofs.lemmas.Bool.{lt-ltb, le-ltb, le-leb, lt-leb, cases_lt, cases_eq}
use Rattle.store.specs.declared.blocks.Blocks.{Blocks}
use Rattle.store.specs.declared.store.Store.{Store}
use Rattle.store.specs.Units.{units, smallest, first_class}
use Rattle.store.specs.Bank.{Bank, Owned, bank, nothing, items_of, class_of, obtained, taken, spared, cleared, holding, written, grown, pushed, roomy, shortened, swapped_out}
use Rattle.store.specs.Held.{held, shown, exchange, filling, grasping, settled}
use Rattle.store.proofs.Views.{none_units}
use Rattle.store.proofs.Stores.{hand_class, nothing_in_hand}
use Rattle.store.proofs.Models.{same_bank, spared_other}

pub obtained_lists : {T : Type 0} (b : Bank T) (c : ℕ) → (obtained b c).lists ≡ b.lists
unfolding obtained taken
obtained_lists b zero = refl
obtained_lists b (suc k) =
    elim (cases_lt 0 (get_or b.free k 0)) [
      | inl h ↦ rw (lt-ltb 0 (get_or b.free k 0) h)
      | inr h ↦ rw (le-ltb 0 (get_or b.free k 0) h)
    ]

-- list l changed in the block that it has: in hand, and back
module _ {T : Type 0} (s : Store T) (t : Blocks T) (l : ℕ) (xs : List T) (h : l < length (bank s).lists) (e : held t ≡ exchange (filling (exchange (held s.blocks) l) xs) l) where
  -- the hand is empty again
  pub relisted_idle : t.hand.class ≡ 0
  unfolding bank held
  relisted_idle =
      sym (hand_class t)
      ∙ (ap (λ x. x.hand.class) e
      ∙ (ap (λ o. o.class) (get_or-set_same (held s.blocks).lists l (held s.blocks).hand nothing h) ∙ (hand_class s.blocks ∙ s.idle)))

pub relisted : {T : Type 0} (s : Store T) (t : Blocks T) (l : ℕ) (xs : List T) → held t ≡ exchange (filling (exchange (held s.blocks) l) xs) l
    → shown (held t) ≡ holding (bank s) l xs (class_of (bank s) l)
unfolding bank held holding
relisted s t l xs e =
    ap shown e
    ∙ same_bank (set-set (held s.blocks).lists l (held s.blocks).hand (record { items = xs; class = (get_or (held s.blocks).lists l nothing).class })) refl refl

-- list l in a new block, and its old one freed
pub moved : {T : Type 0} (s : Store T) (t : Blocks T) (l c : ℕ) (xs : List T) → held t ≡ settled (filling (grasping (held s.blocks) c) xs) l
    → shown (held t) ≡ holding (cleared (obtained (bank s) c) l) l xs c
unfolding bank held holding cleared
moved s t l c xs e =
    let b = shown (held s.blocks) in
    let ls = obtained_lists (shown (held s.blocks)) c in
    let new : Owned _ = record { items = xs; class = c } in
    ap shown e ∙ same_bank
    (ap (λ ys. set ys l new) (sym ls) ∙ sym (set-set (obtained (shown (held s.blocks)) c).lists l nothing new))
    (ap (λ ys. spared (obtained (shown (held s.blocks)) c).free (get_or ys l nothing).class) (sym ls))
    refl

-- list l emptied
pub emptied : {T : Type 0} (s t : Store T) (l : ℕ) → held t.blocks ≡ settled (held s.blocks) l → bank t ≡ cleared (bank s) l
unfolding bank held cleared
emptied s t l e = ap shown e ∙ same_bank (ap (set (held s.blocks).lists l) (nothing_in_hand s.blocks s.idle)) refl refl

-- the smallest class that holds n
holds_from : (f c n : ℕ) → first_class f c n < c + f → n ≤ 4 * units (first_class f c n)
unfolding first_class
holds_from zero c n h = absurd (omega arith)
holds_from (suc f) c n h =
    elim (cases_lt (4 * units c) n) [
      | inl m ↦ let e = lt-leb n (4 * units c) m in
          let k : first_class f (suc c) n < c + suc f = rw e at h in
          let g : first_class f (suc c) n < suc c + f = omega arith in
          rw e (holds_from f (suc c) n g)
      | inr p ↦ let e = le-leb n (4 * units c) p in rw e p
    ]

least_from : (f c n d : ℕ) → c ≤ d → n ≤ 4 * units d → first_class f c n ≤ d
unfolding first_class
least_from zero c n d h p = h
least_from (suc f) c n d h p =
    elim (cases_lt (4 * units c) n) [
      | inl m ↦
          let e = lt-leb n (4 * units c) m in
          let ne : suc c ≤ d = elim (cases_eq c d) [ inl q ↦ let u = ap units q in absurd (omega arith) | inr q ↦ omega arith ] in
          rw e (least_from f (suc c) n d ne p)
      | inr q ↦ let e = le-leb n (4 * units c) q in rw e h
    ]

pub smallest_holds : (n : ℕ) → smallest n ≤ 29 → n ≤ 4 * units (smallest n)
unfolding smallest
smallest_holds n h = holds_from 30 0 n (omega arith)

pub smallest_least : (n d : ℕ) → n ≤ 4 * units d → smallest n ≤ d
unfolding smallest
smallest_least n d p = least_from 30 0 n d (omega arith) p

pub smallest_none : (n : ℕ) → smallest n ≡ 0 → n ≡ 0
smallest_none n e =
    let h = smallest_holds n (omega arith) in
    let u = ap units e ∙ none_units in
    omega arith

-- freeing a block and having one of another class, in either order
spared_set : (f : List ℕ) (c k x : ℕ) → suc k ≢ c → set (spared f c) k x ≡ spared (set f k x) c
unfolding spared
spared_set f zero k x ne = refl
spared_set f (suc j) k x ne =
    let d : j ≢ k = λ e. ne (ap suc (sym e)) in
    set_comm f j k (get_or f j 0 + 1) x d ∙ ap (λ n. set (set f k x) j (n + 1)) (sym (get_or-set_other f k j x 0 d))

pub other_obtained : {T : Type 0} (b : Bank T) (l c : ℕ) → c ≢ class_of b l → obtained (cleared b l) c ≡ cleared (obtained b c) l
unfolding obtained taken cleared
other_obtained b l zero ne = refl
other_obtained b l (suc k) ne =
    let o = spared_other b.free (class_of b l) k ne in
    elim (cases_lt 0 (get_or b.free k 0)) [
      | inl h ↦
          let e = lt-ltb 0 (get_or b.free k 0) h in
          let f = ap (λ n. ltb 0 n) o ∙ e in
          rw (f, e) (same_bank refl
          (ap (λ n. set (spared b.free (class_of b l)) k (n - 1)) o ∙ spared_set b.free (class_of b l) k (get_or b.free k 0 - 1) ne)
          refl)
      | inr h ↦
          let e = le-ltb 0 (get_or b.free k 0) h in
          let f = ap (λ n. ltb 0 n) o ∙ e in
          rw (f, e)
    ]

own_obtained : {T : Type 0} (b : Bank T) (l : ℕ) (xs : List T) → length b.free ≡ 29 → class_of b l ≤ 29 → (c : ℕ) → c ≡ class_of b l
    → holding (obtained (cleared b l) c) l xs c ≡ holding b l xs c
unfolding obtained taken cleared holding spared
own_obtained b l xs n f zero e =
    same_bank (set-set b.lists l nothing (record { items = xs; class = 0 })) (ap (spared b.free) (sym e)) refl
own_obtained b l xs n f (suc k) e =
    let m = get_or b.free k 0 in
    let p : spared b.free (class_of b l) ≡ set b.free k (get_or b.free k 0 + 1) = ap (spared b.free) (sym e) in
    let q : get_or (spared b.free (class_of b l)) k 0 ≡ get_or b.free k 0 + 1 =
    ap (λ ys. get_or ys k 0) p ∙ get_or-set_same b.free k (get_or b.free k 0 + 1) 0 (omega arith) in
    let t = lt-ltb 0 (get_or (spared b.free (class_of b l)) k 0) (omega arith) in
    let z : get_or b.free k 0 + 1 - 1 ≡ get_or b.free k 0 = omega arith in
    rw t (same_bank (set-set b.lists l nothing (record { items = xs; class = suc k }))
    ((λ i. set (p i) k (q i - 1)) ∙ (set-set b.free k (get_or b.free k 0 + 1) (get_or b.free k 0 + 1 - 1) ∙ (ap (set b.free k) z ∙ set-get_or b.free k 0)))
    refl)

-- a list written anew, in a block of class c
module _ {T : Type 0} (b : Bank T) (l : ℕ) (xs : List T) (c : ℕ) where
  pub anew_none : c ≡ 0 → length xs ≡ 0 → holding (obtained (cleared b l) c) l xs c ≡ cleared b l
  unfolding holding cleared obtained
  anew_none e n =
      let z = nil_from_length xs n in
      (λ i. holding (obtained (cleared b l) (e i)) l (z i) (e i)) ∙ same_bank (set-set b.lists l nothing nothing) refl refl

  pub anew_own : length b.free ≡ 29 → class_of b l ≤ 29 → c ≡ class_of b l → holding (obtained (cleared b l) c) l xs c ≡ holding b l xs (class_of b l)
  anew_own n f e = own_obtained b l xs n f c e ∙ ap (holding b l xs) e

  pub anew_move : c ≢ class_of b l → holding (obtained (cleared b l) c) l xs c ≡ holding (cleared (obtained b c) l) l xs c
  anew_move ne = ap (λ d. holding d l xs c) (other_obtained b l c ne)

  pub written_as : c ≡ smallest (length xs) → holding (obtained (cleared b l) c) l xs c ≡ written b l xs
  unfolding written
  written_as e = ap (λ k. holding (obtained (cleared b l) k) l xs k) e

-- a list that holds what it did
pub held_same : {T : Type 0} (b : Bank T) (l : ℕ) → holding b l (items_of b l) (class_of b l) ≡ b
unfolding holding
held_same b l = same_bank (set-get_or b.lists l nothing) refl refl

-- a list shortened, by cases
module _ {T : Type 0} (b : Bank T) (l : ℕ) where
  pub shortened_none : (xs : List T) → length xs ≡ 0 → shortened b l xs ≡ cleared b l
  unfolding shortened
  shortened_none [] e = refl
  shortened_none (x ∷ xs) e = absurd (omega arith)

  pub shortened_some : (xs : List T) → 0 < length xs → shortened b l xs ≡ holding b l xs (class_of b l)
  unfolding shortened
  shortened_some [] h = absurd (omega arith)
  shortened_some (x ∷ xs) h = refl

  pub pushed_within : (x : T) → roomy b l ≡ true → pushed b l x ≡ holding b l (items_of b l ++ x ∷ []) (class_of b l)
  unfolding pushed
  pushed_within x e = rw e

  pub pushed_grown : (x : T) → roomy b l ≡ false → pushed b l x ≡ grown b l (items_of b l ++ x ∷ [])
  unfolding pushed
  pushed_grown x e = rw e

  pub grown_as : (c : ℕ) (xs : List T) → c ≡ smallest (length xs) → holding (cleared (obtained b c) l) l xs c ≡ grown b l xs
  unfolding grown
  grown_as c xs e = ap (λ k. holding (cleared (obtained b k) l) l xs k) e

-- the last item put in the place of the one at i
module _ {T : Type 0} (xs : List T) (i : ℕ) (x : T) (h : i < length xs) (e : x ≡ get_or xs (length xs - 1) x) where
  pub swapped_set : take (length (set xs i x) - 1) (set xs i x) ≡ swapped_out xs i
  unfolding swapped_out
  swapped_set =
      let n = length xs in
      let z : length xs ≤ length xs - 1 + 1 = omega arith in
      let last : drop (length xs - 1) xs ≡ x ∷ [] =
      drop_more xs (length xs - 1) x (omega arith) ∙ (λ j. sym e j ∷ drop_all (length xs - 1 + 1) xs z j) in
      let body : set xs i x ≡ take i xs ++ drop (length xs - 1) xs ++ drop (i + 1) xs =
      set_split xs i x h
      ∙ (sym (append_assoc (take i xs) (x ∷ []) (drop (suc i) xs))
      ∙ (ap (λ k. (take i xs ++ x ∷ []) ++ drop k xs) (sym (add-one i)) ∙ ap (λ ys. (take i xs ++ ys) ++ drop (i + 1) xs) (sym last))) in
      ap (λ k. take (k - 1) (set xs i x)) (length-set xs i x) ∙ ap (take (length xs - 1)) body

pub swapped_length : {T : Type 0} (xs : List T) (i : ℕ) → i < length xs → length (swapped_out xs i) ≡ length xs - 1
unfolding swapped_out
swapped_length xs i h = simp (length-take, length-append, length-take, length-drop) (omega arith)

pub smallest_some : (n : ℕ) → 0 < n → 0 < smallest n
smallest_some n h =
    elim (cases_lt 0 (smallest n)) [
      | inl p ↦ p
      | inr z ↦ let e : smallest n ≡ 0 = omega arith in let q = smallest_none n e in absurd (omega arith)
    ]
