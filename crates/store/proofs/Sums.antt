-- What blocks had, freed and held make up.
use Rattle.std.proofs.Common.{◌≡◌, ℕ, zero, suc, ◌+◌, ◌-◌, ◌*◌, ◌^◌, ◌<◌, ◌≤◌, true, List, length, get_or, set, sum_by, sym, refl, ap, ◌∙◌, subst, inl, inr, add-mul, one-mul, arith}
use Rattle.std.proofs.lemmas.List.{length-set, get_or-set_same, get_or-set_other}
use Rattle.std.proofs.lemmas.List.Sums.{sum_by-set}
use Rattle.std.proofs.lemmas.Bool.{cases_lt, cases_eq}
use Rattle.store.specs.Units.{units, freed_units, smallest}
use Rattle.store.specs.Bank.{Bank, Owned, nothing, class_of, fresh, obtainable, obtained, spared, cleared, holding, listed_units}
use Rattle.store.proofs.Views.{freed_at, none_units, units_at, rep_at, rep_sum, zero_freed}
use Rattle.store.proofs.Models.{had_size, obtained_freed, obtained_new, obtained_none}
use Rattle.store.proofs.Acts.{obtained_lists, smallest_holds, smallest_least}

spared_length : (f : List ℕ) (c : ℕ) → length (spared f c) ≡ length f
unfolding spared
spared_length f zero = refl
spared_length f (suc k) = length-set f k (get_or f k 0 + 1)

spared_units : (f : List ℕ) (c : ℕ) → length f ≡ 29 → c ≤ 29 → freed_units 0 (spared f c) ≡ freed_units 0 f + units c
unfolding spared units
spared_units f zero n h = omega arith
spared_units f (suc k) n h =
    let a = freed_at f k (get_or f k 0 + 1) (omega arith) in
    let d = add-mul (get_or f k 0) 1 (2 ^ k) in
    let o = one-mul (2 ^ k) in
    omega arith

-- a block had: what is freed and untouched is less by its units
module _ {T : Type 0} (b : Bank T) (sized : length b.free ≡ 29) where
  had_freed : (k : ℕ) → k < 29 → 0 < get_or b.free k 0
      → (length (obtained b (k + 1)).free ≡ 29) × (freed_units 0 (obtained b (k + 1)).free + (obtained b (k + 1)).left + units (k + 1) ≡ freed_units 0 b.free + b.left)
  had_freed k h p =
      let o = obtained_freed b k p in
      let a = freed_at b.free k (get_or b.free k 0 - 1) (omega arith) in
      let m : get_or b.free k 0 ≡ (get_or b.free k 0 - 1) + 1 = omega arith in
      let d = ap (λ t. t * 2 ^ k) m ∙ add-mul (get_or b.free k 0 - 1) 1 (2 ^ k) in
      let w = one-mul (2 ^ k) in
      let u = units_at k in
      let l = length-set b.free k (get_or b.free k 0 - 1) in
      let f = ap (λ x. freed_units 0 x.free) o in
      let n = ap (λ x. length x.free) o in
      let e = ap (λ x. x.left) o in
      (omega arith, omega arith)

  had_new : (k : ℕ) → get_or b.free k 0 ≤ 0 → 2 ^ k ≤ b.left
      → (length (obtained b (k + 1)).free ≡ 29) × (freed_units 0 (obtained b (k + 1)).free + (obtained b (k + 1)).left + units (k + 1) ≡ freed_units 0 b.free + b.left)
  had_new k p q =
      let o = obtained_new b k p in
      let u = units_at k in
      let f = ap (λ x. freed_units 0 x.free) o in
      let n = ap (λ x. length x.free) o in
      let e = ap (λ x. x.left) o in
      (omega arith, omega arith)

  pub had_units : (c : ℕ) → obtainable b c ≡ true
      → (length (obtained b c).free ≡ 29) × (freed_units 0 (obtained b c).free + (obtained b c).left + units c ≡ freed_units 0 b.free + b.left)
  had_units c e =
      let P : ℕ → Type 0 = λ d. (length (obtained b d).free ≡ 29) × (freed_units 0 (obtained b d).free + (obtained b d).left + units d ≡ freed_units 0 b.free + b.left) in
      elim (cases_lt 0 c) [
        | inr z ↦
            let q : c ≡ 0 = omega arith in
            let o = obtained_none b c q in
            let u = ap units q ∙ none_units in
            let f = ap (λ x. freed_units 0 x.free) o in
            let n = ap (λ x. length x.free) o in
            let l = ap (λ x. x.left) o in
            (omega arith, omega arith)
        | inl h ↦
            let s = had_size b c h e in
            let q : c - 1 + 1 ≡ c = omega arith in
            elim (cases_lt 0 (get_or b.free (c - 1) 0)) [
              | inl p ↦ subst P q (had_freed (c - 1) s.0 p)
              | inr p ↦ subst P q (had_new (c - 1) p (s.1 p))
            ]
      ]

-- a list that no longer has a block
pub cleared_units : {T : Type 0} (b : Bank T) (l : ℕ) → length b.free ≡ 29 → l < length b.lists → class_of b l ≤ 29
    → (length (cleared b l).free ≡ 29) × (listed_units (cleared b l) + freed_units 0 (cleared b l).free ≡ listed_units b + freed_units 0 b.free)
unfolding cleared listed_units
cleared_units b l n h c =
    let s = sum_by-set (λ o. units o.class) b.lists l nothing nothing h in
    let f = spared_units b.free (class_of b l) n c in
    let k = spared_length b.free (class_of b l) in
    let z = none_units in
    (omega arith, omega arith)

-- a list with items in a block
pub holding_units : {T : Type 0} (b : Bank T) (l : ℕ) (xs : List T) (c : ℕ) → l < length b.lists → listed_units (holding b l xs c) + units (class_of b l) ≡ listed_units b + units c
unfolding holding listed_units
holding_units b l xs c h = sum_by-set (λ o. units o.class) b.lists l (record { items = xs; class = c }) nothing h

-- what every bank has that calls lead to
abbrev pub Good : {T : Type 0} → Owned T → Type 0
Good o = (length o.items ≤ 4 * units o.class) × (o.class ≤ 29) × (0 < o.class → 0 < length o.items)

pub record Lawful {T : Type 0} (u : ℕ) (b : Bank T) : Type 0 where
  pub total : listed_units b + (freed_units 0 b.free + b.left) ≡ u
  pub sized : length b.free ≡ 29
  pub good : (m : ℕ) → Good (get_or b.lists m nothing)

good_set : {T : Type 0} (ls : List (Owned T)) (l : ℕ) (o : Owned T) → l < length ls → Good o → ((m : ℕ) → Good (get_or ls m nothing)) → (m : ℕ) → Good (get_or (set ls l o) m nothing)
good_set ls l o h g all m =
    elim (cases_eq m l) [
      | inl e ↦ subst Good (sym (ap (λ n. get_or (set ls l o) n nothing) e ∙ get_or-set_same ls l o nothing h)) g
      | inr ne ↦ subst Good (sym (get_or-set_other ls l m o nothing ne)) (all m)
    ]

good_nothing : (T : Type 0) → Good {T = T} nothing
good_nothing T = (omega arith, omega arith, λ p. absurd (omega arith))

module _ {T : Type 0} (u : ℕ) (b : Bank T) (l : ℕ) (ok : Lawful u b) (h : l < length b.lists) where
  pub lawful_holding : (xs : List T) → length xs ≤ 4 * units (class_of b l) → (0 < class_of b l → 0 < length xs) → Lawful u (holding b l xs (class_of b l))
  unfolding holding
  lawful_holding xs f s =
      let e = holding_units b l xs (class_of b l) h in
      let t = ok.total in
      record {
        total = omega arith;
        sized = ok.sized;
        good = good_set b.lists l (record { items = xs; class = class_of b l }) h (f, (ok.good l).1, s) ok.good;
      }

  pub lawful_cleared : Lawful u (cleared b l)
  unfolding cleared
  lawful_cleared =
      let e = cleared_units b l ok.sized h (ok.good l).1 in
      let t = ok.total in
      record { total = omega arith; sized = e.0; good = good_set b.lists l nothing h (good_nothing T) ok.good }

cleared_class : {T : Type 0} (b : Bank T) (l : ℕ) → l < length b.lists → class_of (cleared b l) l ≡ 0
unfolding cleared
cleared_class b l h = ap (λ o. o.class) (get_or-set_same b.lists l nothing nothing h)

cleared_in : {T : Type 0} (b : Bank T) (l : ℕ) → l < length b.lists → l < length (cleared b l).lists
unfolding cleared
cleared_in b l h = simp length-set h

same_listed : {T : Type 0} (b d : Bank T) → b.lists ≡ d.lists → listed_units b ≡ listed_units d
unfolding listed_units
same_listed b d e = ap (λ ys. sum_by (λ o. units o.class) ys) e

-- list l without a block, given one that was had
placed : {T : Type 0} (u : ℕ) (d : Bank T) (l : ℕ) (xs : List T) (c : ℕ) → l < length d.lists → class_of d l ≡ 0 → length d.free ≡ 29
    → listed_units d + (freed_units 0 d.free + d.left) + units c ≡ u → ((m : ℕ) → Good (get_or d.lists m nothing)) → Good (record { items = xs; class = c }) → Lawful u (holding d l xs c)
unfolding holding
placed u d l xs c h z n t all g =
    let e = holding_units d l xs c h in
    let y = ap units z ∙ none_units in
    record { total = omega arith; sized = n; good = good_set d.lists l (record { items = xs; class = c }) h g all }

module _ {T : Type 0} (u : ℕ) (b : Bank T) (l : ℕ) (ok : Lawful u b) (h : l < length b.lists) (xs : List T) (c : ℕ) (g : Good (record { items = xs; class = c })) where
  pub lawful_anew : obtainable (cleared b l) c ≡ true → Lawful u (holding (obtained (cleared b l) c) l xs c)
  lawful_anew e =
      let k = lawful_cleared u b l ok h in
      let ls = obtained_lists (cleared b l) c in
      let w = had_units (cleared b l) k.sized c e in
      let t = k.total in
      let f : listed_units (obtained (cleared b l) c) ≡ listed_units (cleared b l) = same_listed (obtained (cleared b l) c) (cleared b l) ls in
      let z : class_of (obtained (cleared b l) c) l ≡ 0 = ap (λ ys. (get_or ys l nothing).class) ls ∙ cleared_class b l h in
      let n : l < length (obtained (cleared b l) c).lists = subst (λ (ys : List (Owned T)). l < length ys) (sym ls) (cleared_in b l h) in
      placed u (obtained (cleared b l) c) l xs c n z w.0 (omega arith) (λ m. subst (λ (ys : List (Owned T)). Good (get_or ys m nothing)) (sym ls) (k.good m)) g

  pub lawful_grown : obtainable b c ≡ true → Lawful u (holding (cleared (obtained b c) l) l xs c)
  lawful_grown e =
      let ls = obtained_lists b c in
      let w = had_units b ok.sized c e in
      let t = ok.total in
      let f : listed_units (obtained b c) ≡ listed_units b = same_listed (obtained b c) b ls in
      let n : l < length (obtained b c).lists = subst (λ (ys : List (Owned T)). l < length ys) (sym ls) h in
      let all : (m : ℕ) → Good (get_or (obtained b c).lists m nothing) = λ m. subst (λ (ys : List (Owned T)). Good (get_or ys m nothing)) (sym ls) (ok.good m) in
      let k : Lawful (listed_units (obtained b c) + (freed_units 0 (obtained b c).free + (obtained b c).left)) (obtained b c) = record { total = refl; sized = w.0; good = all } in
      let d = lawful_cleared (listed_units (obtained b c) + (freed_units 0 (obtained b c).free + (obtained b c).left)) (obtained b c) l k n in
      let s = d.total in
      placed u (cleared (obtained b c) l) l xs c (cleared_in (obtained b c) l n) (cleared_class (obtained b c) l n) d.sized (omega arith) d.good g

pub lawful_fresh : {T : Type 0} (n u : ℕ) → Lawful {T = T} u (fresh n u)
unfolding fresh listed_units
lawful_fresh {T = T} n u =
    let a = rep_sum (λ (o : Owned T). units o.class) n nothing none_units in
    let f = zero_freed 0 29 in
    record { total = omega arith; sized = refl; good = λ m. subst Good (sym (rep_at n m nothing)) (good_nothing T) }

-- the smallest block that holds items is no empty one
pub good_smallest : {T : Type 0} (xs : List T) → smallest (length xs) ≤ 29 → Good (record { items = xs; class = smallest (length xs) })
good_smallest xs h = (
  smallest_holds (length xs) h,
  h,
  λ p. elim (cases_lt 0 (length xs)) [
    | inl q ↦ q
    | inr z ↦ let u = none_units in let l = smallest_least (length xs) 0 (omega arith) in absurd (omega arith)
  ],
)
