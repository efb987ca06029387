-- How a step renames the owners of units: what keeps them apart.
use Rattle.std.proofs.Common.{◌≡◌, ℕ, zero, suc, ◌+◌, ◌-◌, ◌*◌, ◌%◌, ◌^◌, ◌<◌, ◌≤◌, cond, eqb, ltb, ◌⊎◌, List, [], ◌∷◌, map, length, get_or, set, replicate, sum_by, sym, refl, ap, ◌∙◌, subst, inl, inr, add-mul, mul-le-mul_left, zero-mul, mul-one, add-one, arith, pow_pos, pow_mono}
use Rattle.std.proofs.lemmas.List.{get_or-set_same, get_or-set_other, get_or-replicate, get_or_past, length-replicate, length-map, get_or-map, map-set}
use Rattle.std.proofs.lemmas.Bool.{cases_eq, cases_lt, cond-true, cond-false, eq-eqb, ne_eqb, lt-ltb, le-ltb}
use Rattle.std.proofs.lemmas.Nat.{one_shl}
use Rattle.std.proofs.lemmas.List.Sums.{sum_by-set, sum_by-cons}
use Rattle.store.specs.declared.parts.Head.{Head}
use Rattle.store.specs.declared.sizes.SizeRecord.{SizeRecord}
use Rattle.store.specs.Units.{View, Owner, in_hand, listed, freed, untouched, Owns, code, Apart, Whole, Filled, Fits, Block, Within, units, walk, freed_units, no_head, no_record}

same_owner : (a b : Owner) → code a ≡ code b → a ≡ b
same_owner in_hand in_hand e = refl
same_owner in_hand (listed m) e = cc
same_owner in_hand (freed k i) e = cc
same_owner in_hand untouched e = cc
same_owner (listed l) in_hand e = cc
same_owner (listed l) (listed m) e = cc
same_owner (listed l) (freed k i) e = cc
same_owner (listed l) untouched e = cc
same_owner (freed k i) in_hand e = cc
same_owner (freed k i) (listed m) e = cc
same_owner (freed k i) (freed m j) e = cc
same_owner (freed k i) untouched e = cc
same_owner untouched in_hand e = cc
same_owner untouched (listed m) e = cc
same_owner untouched (freed k i) e = cc
same_owner untouched untouched e = refl

pub one_owner : (v : View) → Apart v → (a b : Owner) (u : ℕ) → Owns v a u → Owns v b u → a ≡ b
one_owner v apart a b u p q =
    same_owner a b (apart (record { one = a; two = b; unit = u; by_one = p; by_two = q }))

-- each owner of a unit after a step has its name from the owner before it
pub renamed : (v w : View) (name : ℕ → Owner → Owner) → ((a : Owner) (u : ℕ) → Owns w a u → (b : Owner) × Owns v b u × (name u b ≡ a))
    → Apart v → Apart w
renamed v w name step apart c =
    let p = step c.one c.unit c.by_one in
    let q = step c.two c.unit c.by_two in
    let e = one_owner v apart p.0 q.0 c.unit p.1 q.1 in
    ap code (sym p.2 ∙ (ap (name c.unit) e ∙ q.2))

-- the hand and a list, exchanged
abbrev pub swapped : View → ℕ → View
swapped v l =
    record { hand = get_or v.heads l no_head; heads = set v.heads l v.hand; links = v.links; sizes = v.sizes; used = v.used }

swap_name : ℕ → Owner → Owner
swap_name l in_hand = listed l
swap_name l (listed m) = cond (eqb m l) in_hand (listed m)
swap_name l (freed k i) = freed k i
swap_name l untouched = untouched

swap_step : (v : View) (l : ℕ) → l < length v.heads → (a : Owner) (u : ℕ) → Owns (swapped v l) a u → (b : Owner) × Owns v b u × (swap_name l b ≡ a)
unfolding swap_name
swap_step v l h in_hand u o = (listed l, o, cond-true (eqb l l) in_hand (listed l) (eq-eqb l l refl))
swap_step v l h (listed m) u o =
    elim (cases_eq m l) [
      | inl e ↦ (in_hand, subst (λ x. Block x u) (ap (λ n. get_or (set v.heads l v.hand) n no_head) e ∙ get_or-set_same v.heads l v.hand no_head h) o, ap listed (sym e))
      | inr ne ↦ (listed m, subst (λ x. Block x u) (get_or-set_other v.heads l m v.hand no_head ne) o, cond-false (eqb m l) in_hand (listed m) (ne_eqb m l ne))
    ]
swap_step v l h (freed k i) u o = (freed k i, o, refl)
swap_step v l h untouched u o = (untouched, o, refl)

pub swap_apart : (v : View) (l : ℕ) → l < length v.heads → Apart v → Apart (swapped v l)
swap_apart v l h apart = renamed v (swapped v l) (λ u. swap_name l) (swap_step v l h) apart

pub set_fits : (heads : List Head) (l : ℕ) (x : Head) → l < length heads → Fits x → ((m : ℕ) → Fits (get_or heads m no_head)) → (m : ℕ) → Fits (get_or (set heads l x) m no_head)
set_fits heads l x h f all m =
    elim (cases_eq m l) [
      | inl e ↦ subst Fits (sym (ap (λ n. get_or (set heads l x) n no_head) e ∙ get_or-set_same heads l x no_head h)) f
      | inr ne ↦ subst Fits (sym (get_or-set_other heads l m x no_head ne)) (all m)
    ]

-- a count of a size, changed
freed_set : (k : ℕ) (ns : List ℕ) (i m : ℕ) → i < length ns → freed_units k (set ns i m) + get_or ns i 0 * 2 ^ (k + i) ≡ freed_units k ns + m * 2 ^ (k + i)
unfolding freed_units
freed_set k [] i m h = absurd (omega arith)
freed_set k (n ∷ ns) zero m h =
    let e : k + 0 ≡ k = omega arith in
    rw e (omega arith)
freed_set k (n ∷ ns) (suc i) m h =
    let e : k + suc i ≡ suc k + i = omega arith in
    let r = freed_set (suc k) ns i m (omega arith) in
    rw e (omega arith)

pub freed_at : (ns : List ℕ) (i m : ℕ) → i < length ns → freed_units 0 (set ns i m) + get_or ns i 0 * 2 ^ i ≡ freed_units 0 ns + m * 2 ^ i
freed_at ns i m h =
    let e : 0 + i ≡ i = omega arith in
    subst (λ z. freed_units 0 (set ns i m) + get_or ns i 0 * 2 ^ z ≡ freed_units 0 ns + m * 2 ^ z) e (freed_set 0 ns i m h)

pub count_freed : (rs : List SizeRecord) (k : ℕ) (r : SizeRecord) → k < length rs
    → freed_units 0 (map (λ x. x.count) (set rs k r)) + (get_or rs k no_record).count * 2 ^ k ≡ freed_units 0 (map (λ x. x.count) rs) + r.count * 2 ^ k
count_freed rs k r h =
    let n : k < length (map (λ (x : SizeRecord). x.count) rs) = simp length-map h in
    let f = freed_at (map (λ x. x.count) rs) k r.count n in
    let g = get_or-map (λ (x : SizeRecord). x.count) rs k no_record 0 h in
    let s = map-set (λ (x : SizeRecord). x.count) rs k r in
    subst (λ ys. freed_units 0 ys + (get_or rs k no_record).count * 2 ^ k ≡ freed_units 0 (map (λ x. x.count) rs) + r.count * 2 ^ k) (sym s)
    (subst (λ z. freed_units 0 (set (map (λ x. x.count) rs) k r.count) + z * 2 ^ k ≡ freed_units 0 (map (λ x. x.count) rs) + r.count * 2 ^ k) g f)

pub swap_whole : (v : View) (l : ℕ) → l < length v.heads → Whole v → Whole (swapped v l)
swap_whole v l h n =
    omega (arith, sum_by-set (λ x. units x.class) v.heads l v.hand no_head h)

pub units_pos : (c : ℕ) → 0 < c → 0 < units c
unfolding units
units_pos zero h = absurd (omega arith)
units_pos (suc k) h = pow_pos k

-- the units of a block by its size
pub units_at : (k : ℕ) → units (k + 1) ≡ 2 ^ k
unfolding units
units_at k = rw add-one

pub units_size : (c : ℕ) → 0 < c → units c ≡ 2 ^ (c - 1)
unfolding units
units_size zero h = absurd (omega arith)
units_size (suc k) h = let e : k ≡ suc k - 1 = omega arith in ap (λ n. 2 ^ n) e

pub none_units : units 0 ≡ 0
unfolding units
none_units = refl

-- what is owned is used
pub under : (v : View) → Apart v → (a : Owner) (u : ℕ) → Owns v a u → (a ≡ untouched → ⊥) → u < v.used
under v apart a u o ne =
    elim (cases_lt u v.used) [ inl h ↦ h | inr h ↦ absurd (ne (one_owner v apart a untouched u o h)) ]

held_is_used : in_hand ≡ untouched → ⊥
held_is_used e = let z : ◌≡◌ {A = ℕ} 0 1 = cc in omega arith

freed_is_used : (k i : ℕ) → freed k i ≡ untouched → ⊥
freed_is_used k i e = let z : ◌≡◌ {A = ℕ} 0 1 = cc in omega arith

held_is_not_listed : (l : ℕ) → in_hand ≡ listed l → ⊥
held_is_not_listed l e = let z : ◌≡◌ {A = ℕ} 0 1 = cc in omega arith

freed_is_not_in_hand : (k i : ℕ) → freed k i ≡ in_hand → ⊥
freed_is_not_in_hand k i e = let z : ◌≡◌ {A = ℕ} 0 1 = cc in omega arith

-- the block in hand ends among the used units
pub hand_below : (v : View) → Apart v → 0 < units v.hand.class → v.hand.start + units v.hand.class ≤ v.used
hand_below v apart p =
    let u : ℕ = v.hand.start + (units v.hand.class - 1) in
    let b : u < v.used = under v apart in_hand u (omega arith, omega arith) held_is_used in
    omega arith

-- the first freed block of a size that has one
pub first_below : (v : View) → Apart v → (k : ℕ) → 0 < (get_or v.sizes k no_record).count → (get_or v.sizes k no_record).first < v.used
unfolding walk
first_below v apart k n =
    let q = pow_pos k in
    under v apart (freed k 0) (get_or v.sizes k no_record).first (n, (omega arith, omega arith)) (freed_is_used k 0)

-- a length does not say who owns what
abbrev pub resized : View → ℕ → View
resized v n =
    record { hand = record { start = v.hand.start; len = n; class = v.hand.class }; heads = v.heads; links = v.links; sizes = v.sizes; used = v.used }

resize_step : (v : View) (n : ℕ) (a : Owner) (u : ℕ) → Owns (resized v n) a u → (b : Owner) × Owns v b u × (b ≡ a)
resize_step v n in_hand u o = (in_hand, o, refl)
resize_step v n (listed l) u o = (listed l, o, refl)
resize_step v n (freed k i) u o = (freed k i, o, refl)
resize_step v n untouched u o = (untouched, o, refl)

pub resize_apart : (v : View) (n : ℕ) → Apart v → Apart (resized v n)
resize_apart v n apart = renamed v (resized v n) (λ u s. s) (resize_step v n) apart

-- where a part of b cells from at on, and one of n from b on, have no cell in common
abbrev pub Outside : ℕ → ℕ → ℕ → ℕ → Type 0
Outside at m b n = (at + m ≤ b) ⊎ ((b + n ≤ at) ⊎ (n ≡ 0))

-- cells of the hand's block lie outside every list
pub hand_outside : (v : View) → Apart v → Filled v.hand v.heads → (i m l : ℕ) → 0 < units v.hand.class → i + m ≤ 4 * units v.hand.class
    → Outside (4 * v.hand.start + i) m (4 * (get_or v.heads l no_head).start) (get_or v.heads l no_head).len
hand_outside v apart filled i m l p h =
    let hand = v.hand in
    let x = get_or v.heads l no_head in
    let fits = (filled.1 l).0 in
    elim (cases_lt 0 x.len) [
      | inr z ↦ inr (inr (omega arith))
      | inl z ↦ elim (cases_lt x.start (hand.start + units hand.class)) [
        | inr b ↦ inl (omega arith)
        | inl b ↦ elim (cases_lt hand.start (x.start + units x.class)) [
          | inr e ↦ inr (inl (omega arith))
          | inl e ↦ absurd (elim (cases_lt hand.start x.start) [
            | inl f ↦ held_is_not_listed l (one_owner v apart in_hand (listed l) x.start (omega arith, b) (omega arith, omega arith))
            | inr f ↦ held_is_not_listed l (one_owner v apart in_hand (listed l) hand.start (omega arith, omega arith) (f, e))
          ])
        ]
      ]
    ]

-- a link that no chain goes over does not matter
walk_frame : (links : List ℕ) (s w : ℕ) (i at : ℕ) → ((j : ℕ) → j < i → walk links at j ≡ s → ⊥) → walk (set links s w) at i ≡ walk links at i
unfolding walk
walk_frame links s w zero at ne = refl
walk_frame links s w (suc i) at ne =
    ap (λ x. walk (set links s w) x i) (get_or-set_other links s at w 0 (ne 0 (omega arith)))
    ∙ walk_frame links s w i (get_or links at 0) (λ j h. ne (suc j) (omega arith))

chain_frame : (v : View) → Apart v → (w m i : ℕ) → 0 < units v.hand.class → i < (get_or v.sizes m no_record).count
    → walk (set v.links v.hand.start w) (get_or v.sizes m no_record).first i ≡ walk v.links (get_or v.sizes m no_record).first i
chain_frame v apart w m i p n =
    let q = pow_pos m in
    walk_frame v.links v.hand.start w i (get_or v.sizes m no_record).first
    (λ j h e. freed_is_not_in_hand m j
    (one_owner v apart (freed m j) in_hand v.hand.start (omega arith, (omega arith, omega arith)) (omega arith, omega arith)))

-- the hand's block, put before the freed ones of its size k
abbrev pub released : View → ℕ → View
released v k =
    record {
      hand = no_head;
      heads = v.heads;
      links = set v.links v.hand.start (get_or v.sizes k no_record).first;
      sizes = set v.sizes k (record { first = v.hand.start; count = (get_or v.sizes k no_record).count + 1 });
      used = v.used;
    }

release_name : ℕ → Owner → Owner
release_name k in_hand = freed k 0
release_name k (listed l) = listed l
release_name k (freed m i) = cond (eqb m k) (freed m (suc i)) (freed m i)
release_name k untouched = untouched

module _ (v : View) (k : ℕ) (apart : Apart v) (size : units v.hand.class ≡ 2 ^ k) (in-sizes : k < length v.sizes) (in-links : v.hand.start < length v.links) where
  some_units : 0 < units v.hand.class
  some_units = let p = pow_pos k in omega arith

  -- a freed block of the hand's size
  release_own : (i u : ℕ) → i < (get_or v.sizes k no_record).count + 1 → Within (walk (released v k).links v.hand.start i) (2 ^ k) u
      → (b : Owner) × Owns v b u × (release_name k b ≡ freed k i)
  unfolding walk release_name
  release_own zero u n o = (in_hand, subst (λ z. Within v.hand.start z u) (sym size) o, refl)
  release_own (suc j) u n o =
      let e : walk (released v k).links (get_or (released v k).links v.hand.start 0) j ≡ walk v.links (get_or v.sizes k no_record).first j =
      ap (λ x. walk (released v k).links x j) (get_or-set_same v.links v.hand.start (get_or v.sizes k no_record).first 0 in-links)
      ∙ chain_frame v apart (get_or v.sizes k no_record).first k j some_units (omega arith) in (
        freed k j,
        (omega arith, subst (λ x. Within x (2 ^ k) u) e o),
        cond-true (eqb k k) (freed k (suc j)) (freed k j) (eq-eqb k k refl),
      )

  release_step : (a : Owner) (u : ℕ) → Owns (released v k) a u → (b : Owner) × Owns v b u × (release_name k b ≡ a)
  unfolding release_name
  release_step in_hand u o = let z = none_units in absurd (omega arith)
  release_step (listed l) u o = (listed l, o, refl)
  release_step (freed m i) u o =
      let F : ℕ → SizeRecord → Type 0 = λ n r. (i < r.count) × Within (walk (released v k).links r.first i) (2 ^ n) u in
      let new : SizeRecord = record { first = v.hand.start; count = (get_or v.sizes k no_record).count + 1 } in
      elim (cases_eq m k) [
        | inl e ↦
            let o1 : F k (get_or (released v k).sizes k no_record) = subst (λ n. F n (get_or (released v k).sizes n no_record)) e o in
            let o2 : F k new = subst (F k) (get_or-set_same v.sizes k new no_record in-sizes) o1 in
            let r = release_own i u o2.0 o2.1 in
            (r.0, r.1, r.2 ∙ ap (λ n. freed n i) (sym e))
        | inr ne ↦
            let o1 : F m (get_or v.sizes m no_record) = subst (F m) (get_or-set_other v.sizes k m new no_record ne) o in (
              freed m i,
              (o1.0, subst (λ x. Within x (2 ^ m) u) (chain_frame v apart (get_or v.sizes k no_record).first m i some_units o1.0) o1.1),
              cond-false (eqb m k) (freed m (suc i)) (freed m i) (ne_eqb m k ne),
            )
      ]
  release_step untouched u o = (untouched, o, refl)

  pub release_apart : Apart (released v k)
  release_apart = renamed v (released v k) (λ u. release_name k) release_step apart

  pub release_whole : Whole v → Whole (released v k)
  release_whole n =
      let new : SizeRecord = record { first = v.hand.start; count = (get_or v.sizes k no_record).count + 1 } in
      let c = count_freed v.sizes k new in-sizes in
      let z = none_units in
      let d = add-mul (get_or v.sizes k no_record).count 1 (2 ^ k) in
      omega arith

-- the first freed block of size k, taken into the hand
abbrev pub reused : View → ℕ → View
reused v k =
    record {
      hand = record { start = (get_or v.sizes k no_record).first; len = 0; class = k + 1 };
      heads = v.heads;
      links = v.links;
      sizes = set v.sizes k (record { first = get_or v.links (get_or v.sizes k no_record).first 0; count = (get_or v.sizes k no_record).count - 1 });
      used = v.used;
    }

reuse_name : ℕ → Owner → Owner
reuse_name k in_hand = in_hand
reuse_name k (listed l) = listed l
reuse_name k (freed m zero) = cond (eqb m k) in_hand (freed m zero)
reuse_name k (freed m (suc i)) = cond (eqb m k) (freed m i) (freed m (suc i))
reuse_name k untouched = untouched

reuse_name_other : (k m i : ℕ) → (m ≡ k → ⊥) → reuse_name k (freed m i) ≡ freed m i
unfolding reuse_name
reuse_name_other k m zero ne = cond-false (eqb m k) in_hand (freed m zero) (ne_eqb m k ne)
reuse_name_other k m (suc i) ne = cond-false (eqb m k) (freed m i) (freed m (suc i)) (ne_eqb m k ne)

module _ (v : View) (k : ℕ) (some-freed : 0 < (get_or v.sizes k no_record).count) (in-sizes : k < length v.sizes) where
  reuse_step : (a : Owner) (u : ℕ) → Owns (reused v k) a u → (b : Owner) × Owns v b u × (reuse_name k b ≡ a)
  unfolding reuse_name walk
  reuse_step in_hand u o = (freed k 0, (some-freed, subst (λ z. Within (get_or v.sizes k no_record).first z u) (units_at k) o), cond-true (eqb k k) in_hand (freed k 0) (eq-eqb k k refl))
  reuse_step (listed l) u o = (listed l, o, refl)
  reuse_step (freed m i) u o =
      let F : ℕ → SizeRecord → Type 0 = λ n r. (i < r.count) × Within (walk v.links r.first i) (2 ^ n) u in
      let new : SizeRecord = record { first = get_or v.links (get_or v.sizes k no_record).first 0; count = (get_or v.sizes k no_record).count - 1 } in
      elim (cases_eq m k) [
        | inl e ↦
            let o1 : F k (get_or (reused v k).sizes k no_record) = subst (λ n. F n (get_or (reused v k).sizes n no_record)) e o in
            let o2 : F k new = subst (F k) (get_or-set_same v.sizes k new no_record in-sizes) o1 in (
              freed k (suc i),
              (omega (arith, o2.0), o2.1),
              cond-true (eqb k k) (freed k i) (freed k (suc i)) (eq-eqb k k refl) ∙ ap (λ n. freed n i) (sym e),
            )
        | inr ne ↦
            (freed m i, subst (F m) (get_or-set_other v.sizes k m new no_record ne) o, reuse_name_other k m i ne)
      ]
  reuse_step untouched u o = (untouched, o, refl)

  pub reuse_apart : Apart v → Apart (reused v k)
  reuse_apart apart = renamed v (reused v k) (λ u. reuse_name k) reuse_step apart

  pub reuse_whole : v.hand.class ≡ 0 → Whole v → Whole (reused v k)
  reuse_whole e n =
      let new : SizeRecord = record { first = get_or v.links (get_or v.sizes k no_record).first 0; count = (get_or v.sizes k no_record).count - 1 } in
      let c = count_freed v.sizes k new in-sizes in
      let z = none_units in
      let y = ap units e in
      let x = units_at k in
      let m : (get_or v.sizes k no_record).count ≡ ((get_or v.sizes k no_record).count - 1) + 1 = omega arith in
      let d = ap (λ t. t * 2 ^ k) m ∙ add-mul ((get_or v.sizes k no_record).count - 1) 1 (2 ^ k) in
      omega arith

-- a block of untouched units, taken into the hand
abbrev pub broken : View → ℕ → View
broken v k =
    record { hand = record { start = v.used; len = 0; class = k + 1 }; heads = v.heads; links = v.links; sizes = v.sizes; used = v.used + 2 ^ k }

break_name : ℕ → ℕ → Owner → Owner
break_name end u in_hand = in_hand
break_name end u (listed l) = listed l
break_name end u (freed m i) = freed m i
break_name end u untouched = cond (ltb u end) in_hand untouched

break_step : (v : View) (k : ℕ) (a : Owner) (u : ℕ) → Owns (broken v k) a u → (b : Owner) × Owns v b u × (break_name (v.used + 2 ^ k) u b ≡ a)
unfolding break_name
break_step v k in_hand u o = (let x = units_at k in (untouched, o.0, cond-true (ltb u (v.used + 2 ^ k)) in_hand untouched (lt-ltb u (v.used + 2 ^ k) (omega (arith, o.1)))))
break_step v k (listed l) u o = (listed l, o, refl)
break_step v k (freed m i) u o = (freed m i, o, refl)
break_step v k untouched u o = (untouched, omega arith, cond-false (ltb u (v.used + 2 ^ k)) in_hand untouched (le-ltb u (v.used + 2 ^ k) o))

pub break_apart : (v : View) (k : ℕ) → Apart v → Apart (broken v k)
break_apart v k apart = renamed v (broken v k) (break_name (v.used + 2 ^ k)) (break_step v k) apart

pub break_whole : (v : View) (k : ℕ) → v.hand.class ≡ 0 → Whole v → Whole (broken v k)
break_whole v k e n =
    let z = none_units in
    let y = ap units e in
    let x = units_at k in
    omega arith

pub units_shl : (k : ℕ) → 0 < k → k ≤ 29 → (1 * 2 ^ (k - 1)) % 4294967296 ≡ units k
unfolding units
units_shl zero p h = absurd (omega arith)
units_shl (suc j) p h =
    let e : suc j - 1 ≡ j = omega arith in
    ap (λ n. (1 * 2 ^ n) % 4294967296) e ∙ one_shl j 32 (omega arith)

listed_is_used : (l : ℕ) → listed l ≡ untouched → ⊥
listed_is_used l e = let z : ◌≡◌ {A = ℕ} 0 1 = cc in omega arith

-- a list's block ends among the used units
pub listed_below : (v : View) → Apart v → (l : ℕ) → 0 < units (get_or v.heads l no_head).class
    → (get_or v.heads l no_head).start + units (get_or v.heads l no_head).class ≤ v.used
listed_below v apart l p =
    let h = get_or v.heads l no_head in
    let u : ℕ = h.start + (units h.class - 1) in
    let b : u < v.used = under v apart (listed l) u (omega arith, omega arith) (listed_is_used l) in
    omega arith

pub units_most : (c : ℕ) → c ≤ 29 → units c ≤ 268435456
unfolding units
units_most zero h = omega arith
units_most (suc k) h = let p : k ≤ 28 = omega arith in pow_mono p

-- at the start nobody owns anything
pub rep_at : {X : Type 0} (n i : ℕ) (d : X) → get_or (replicate n d) i d ≡ d
rep_at n i d =
    elim (cases_lt i n) [
      | inl h ↦ get_or-replicate n i d d h
      | inr h ↦ get_or_past (replicate n d) i d (omega (arith, length-replicate n d))
    ]

pub rep_sum : {X : Type 0} (f : X → ℕ) (n : ℕ) (d : X) → f d ≡ 0 → sum_by f (replicate n d) ≡ 0
rep_sum f zero d e = refl
rep_sum f (suc n) d e = sum_by-cons f d (replicate n d) ∙ omega (arith, rep_sum f n d e)

abbrev pub start : ℕ → ℕ → List ℕ → View
start n m links = record { hand = no_head; heads = replicate n no_head; links = links; sizes = replicate m no_record; used = 0 }

start_owner : (n m : ℕ) (links : List ℕ) (a : Owner) (u : ℕ) → Owns (start n m links) a u → a ≡ untouched
start_owner n m links in_hand u o = let z = none_units in absurd (omega arith)
start_owner n m links (listed l) u o =
    let z = none_units in
    let p : Block no_head u = subst (λ h. Block h u) (rep_at n l no_head) o in
    absurd (omega (arith, p.0, p.1))
start_owner n m links (freed k i) u o =
    let p : i < 0 = subst (λ (x : SizeRecord). i < x.count) (rep_at m k no_record) o.0 in
    absurd (omega arith)
start_owner n m links untouched u o = refl

pub start_apart : (n m : ℕ) (links : List ℕ) → Apart (start n m links)
start_apart n m links c = ap code (start_owner n m links c.one c.unit c.by_one ∙ sym (start_owner n m links c.two c.unit c.by_two))

pub start_filled : (n : ℕ) → Filled no_head (replicate n no_head)
start_filled n = let f : Fits no_head = (omega arith, omega arith, omega arith) in (f, λ l. subst Fits (sym (rep_at n l no_head)) f)

pub zero_freed : (k n : ℕ) → freed_units k (replicate n 0) ≡ 0
unfolding freed_units
zero_freed k zero = refl
zero_freed k (suc n) = omega (arith, zero_freed (suc k) n)

map_rep : {A B : Type 0} (f : A → B) (n : ℕ) (d : A) → map f (replicate n d) ≡ replicate n (f d)
map_rep f zero d = refl
map_rep f (suc n) d = ap (λ xs. f d ∷ xs) (map_rep f n d)

pub start_whole : (n m : ℕ) (links : List ℕ) → Whole (start n m links)
start_whole n m links =
    let z = none_units in
    let a = rep_sum (λ (h : Head). units h.class) n no_head none_units in
    let b = ap (freed_units 0) (map_rep (λ (r : SizeRecord). r.count) m no_record) ∙ zero_freed 0 m in
    omega arith

-- a step's outcome, where a callee says what it is by an equation
pub is_released : (v : View) (k : ℕ) (ls : List ℕ) (rs : List SizeRecord) → ls ≡ set v.links v.hand.start (get_or v.sizes k no_record).first
    → rs ≡ set v.sizes k (record { first = v.hand.start; count = (get_or v.sizes k no_record).count + 1 })
    → record { hand = no_head; heads = v.heads; links = ls; sizes = rs; used = v.used } ≡ released v k
is_released v k ls rs p q = λ i. record { hand = no_head; heads = v.heads; links = p i; sizes = q i; used = v.used }

pub is_reused : (v : View) (k at : ℕ) (rs : List SizeRecord) → at ≡ (get_or v.sizes k no_record).first
    → rs ≡ set v.sizes k (record { first = get_or v.links at 0; count = (get_or v.sizes k no_record).count - 1 })
    → record { hand = record { start = at; len = 0; class = k + 1 }; heads = v.heads; links = v.links; sizes = rs; used = v.used } ≡ reused v k
is_reused v k at rs p q =
    let r = q ∙ ap (λ a. set v.sizes k (record { first = get_or v.links a 0; count = (get_or v.sizes k no_record).count - 1 })) p in
    λ i. record { hand = record { start = p i; len = 0; class = k + 1 }; heads = v.heads; links = v.links; sizes = r i; used = v.used }

pub is_broken : (v : View) (k n : ℕ) → n ≡ units (k + 1)
    → record { hand = record { start = v.used; len = 0; class = k + 1 }; heads = v.heads; links = v.links; sizes = v.sizes; used = v.used + n } ≡ broken v k
is_broken v k n p =
    let q = p ∙ units_at k in
    λ i. record { hand = record { start = v.used; len = 0; class = k + 1 }; heads = v.heads; links = v.links; sizes = v.sizes; used = v.used + q i }

-- a size has fewer freed blocks than there are units
pub count_below : (v : View) (k : ℕ) → k < length v.sizes → Whole v → (get_or v.sizes k no_record).count ≤ v.used
count_below v k h n =
    let c = count_freed v.sizes k no_record h in
    let p = pow_pos k in
    let m : (get_or v.sizes k no_record).count * 1 ≤ (get_or v.sizes k no_record).count * 2 ^ k = mul-le-mul_left (get_or v.sizes k no_record).count p in
    let e = mul-one (get_or v.sizes k no_record).count in
    let z = zero-mul (2 ^ k) in
    omega arith
