-- What holds of every store, and of its blocks in the midst of a call.
use Rattle.std.proofs.Common.{◌≡◌, ℕ, zero, suc, ◌+◌, ◌-◌, ◌*◌, ◌^◌, ◌≤◌, List, [], ◌∷◌, map, length, get_or, replicate, sum_by, sym, refl, ap, ◌∙◌, inl, inr, arith}
use Rattle.std.proofs.lemmas.List.Sums.{sum_by-cons}
use Rattle.std.proofs.lemmas.List.{length-map}
use Rattle.std.proofs.lemmas.Bool.{cases_lt}
use Rattle.store.specs.declared.parts.Head.{Head}
use Rattle.store.specs.declared.blocks.Blocks.{Blocks}
use Rattle.store.specs.declared.store.Store.{Store}
use Rattle.store.specs.declared.sizes.SizeRecord.{SizeRecord}
use Rattle.store.specs.declared.supply.Supply.{Supply}
use Rattle.store.specs.Units.{no_head, no_record, units, placed, Filled, freed_units}
use Rattle.store.specs.Bank.{listed_units, layout, owned, nothing, bank, class_of, items_of, stock}
use Rattle.store.specs.Held.{Held, held}
use Rattle.store.proofs.Views.{listed_below, hand_below, units_pos, none_units, start}
use Rattle.store.proofs.Items.{list_at, owned_length, empty_owned}

pub same_held : {T : Type 0} {a b : Held T} → a.hand ≡ b.hand → a.lists ≡ b.lists → a.free ≡ b.free → a.left ≡ b.left → a ≡ b
same_held p q r s = λ i. record { hand = p i; lists = q i; free = r i; left = s i }

pub count_at : (rs : List SizeRecord) (k : ℕ) → get_or (map (λ x. x.count) rs) k 0 ≡ (get_or rs k no_record).count
count_at [] k = refl
count_at (c ∷ cs) zero = refl
count_at (c ∷ cs) (suc k) = count_at cs k

module _ {T : Type 0} (s : Blocks T) where
  -- the block in hand lies within the cells
  pub hand_in : (4 * s.hand.start + 4 * units s.hand.class ≤ length s.cells.now) × (4 * s.hand.start + 4 * units s.hand.class ≤ 2 ^ 30)
  hand_in =
      elim (cases_lt 0 s.hand.class) [
        | inl p ↦ let u = units_pos s.hand.class p in let b = hand_below (layout s) s.apart u in (omega arith, omega arith)
        | inr z ↦
            let c : s.hand.class ≡ 0 = omega arith in
            let u = ap units c ∙ none_units in
            (omega arith, omega arith)
      ]

  pub hand_long : length (held s).hand.items ≡ s.hand.len
  unfolding held
  hand_long = let b = hand_in.0 in owned_length s.cells.now s.hand (omega arith)

  pub lists_many : length (held s).lists ≡ length s.heads.now
  unfolding held
  lists_many = length-map s.heads.now _

  pub list_is : (l : ℕ) → get_or (held s).lists l nothing ≡ owned s.cells.now (get_or s.heads.now l no_head)
  unfolding held
  list_is l = list_at s.cells.now s.heads.now l

  pub class_is : (l : ℕ) → (get_or (held s).lists l nothing).class ≡ (get_or s.heads.now l no_head).class
  unfolding owned
  class_is l = ap (λ o. o.class) (list_is l)

  pub hand_class : (held s).hand.class ≡ s.hand.class
  unfolding held owned
  hand_class = refl

  -- a list lies within the cells
  pub list_in : (l : ℕ)
      → (4 * (get_or s.heads.now l no_head).start + (get_or s.heads.now l no_head).len ≤ length s.cells.now) × (4 * (get_or s.heads.now l no_head).start + (get_or s.heads.now l no_head).len ≤ 2 ^ 30)
  list_in l =
      let f = s.filled.1 l in
      elim (cases_lt 0 (get_or s.heads.now l no_head).class) [
        | inl p ↦
            let u = units_pos (get_or s.heads.now l no_head).class p in
            let b = listed_below (layout s) s.apart l u in
            (omega arith, omega arith)
        | inr z ↦
            let c : (get_or s.heads.now l no_head).class ≡ 0 = omega arith in
            let u = ap units c ∙ none_units in
            (omega arith, omega arith)
      ]

  pub list_long : (l : ℕ) → length (get_or (held s).lists l nothing).items ≡ (get_or s.heads.now l no_head).len
  list_long l =
      ap (λ o. length o.items) (list_is l) ∙ owned_length s.cells.now (get_or s.heads.now l no_head) (list_in l).0

  pub free_is : (k : ℕ) → get_or (held s).free k 0 ≡ (get_or s.sizes.records k no_record).count
  unfolding held
  free_is k = count_at s.sizes.records k

  pub nothing_in_hand : s.hand.class ≡ 0 → (held s).hand ≡ nothing
  unfolding held
  nothing_in_hand e = empty_owned s.cells.now s.hand s.filled.0 e

module _ {T : Type 0} (s : Store T) where
  pub class_of_is : (l : ℕ) → class_of (bank s) l ≡ (get_or s.blocks.heads.now l no_head).class
  unfolding bank held
  class_of_is l = class_is s.blocks l

  pub len_is : (l : ℕ) → length (items_of (bank s) l) ≡ (get_or s.blocks.heads.now l no_head).len
  unfolding bank held
  len_is l = list_long s.blocks l

  pub many : length (bank s).lists ≡ length s.blocks.heads.now
  unfolding bank
  many = length-map s.blocks.heads.now _

-- another number of items in hand
pub resize_filled : {T : Type 0} (s : Blocks T) (n : ℕ) → n ≤ 4 * units s.hand.class → Filled (record { start = s.hand.start; len = n; class = s.hand.class }) s.heads.now
resize_filled s n h = ((h, s.filled.0.1, s.filled.0.2), s.filled.1)

-- what can be had of a store, by its counts
pub store_supply : {T : Type 0} (s : Store T) (p : Supply) → p ≡ record { sizes = s.blocks.sizes; left = s.blocks.limit - s.blocks.used }
    → ((bank s).free ≡ (stock p.sizes p.left).free) × ((bank s).left ≡ (stock p.sizes p.left).left)
unfolding bank
store_supply s p e = (ap (λ q. map (λ r. r.count) q.sizes.records) (sym e), ap (λ q. q.left) (sym e))

pub free_many : {T : Type 0} (s : Store T) → length (bank s).free ≡ 29
unfolding bank
free_many s = length-map s.blocks.sizes.records _ ∙ s.blocks.room.4

pub start_lists : {T : Type 0} (cells : List T) (n : ℕ) → map (owned cells) (replicate n no_head) ≡ replicate n nothing
unfolding owned
start_lists cells zero = refl
start_lists cells (suc n) = ap (λ xs. nothing ∷ xs) (start_lists cells n)

-- a new store's layout
pub opened : (hand : Head) (heads : List Head) (links : List ℕ) (sizes : List SizeRecord) (n : ℕ) → hand ≡ no_head → heads ≡ replicate n no_head → sizes ≡ replicate 29 no_record
    → placed hand heads links sizes 0 ≡ start n 29 links
opened hand heads links sizes n h hs rs = λ i. record { hand = h i; heads = hs i; links = links; sizes = rs i; used = 0 }

sum_lists : {T : Type 0} (cells : List T) (heads : List Head) → sum_by (λ o. units o.class) (map (owned cells) heads) ≡ sum_by (λ h. units h.class) heads
unfolding owned
sum_lists cells [] = refl
sum_lists cells (h ∷ hs) =
    sum_by-cons (λ o. units o.class) (owned cells h) (map (owned cells) hs)
    ∙ (ap (λ n. units h.class + n) (sum_lists cells hs) ∙ sym (sum_by-cons (λ x. units x.class) h hs))

-- nothing leaks
pub all_units : {T : Type 0} (s : Store T) → listed_units (bank s) + (freed_units 0 (bank s).free + (bank s).left) ≡ s.blocks.limit
unfolding bank listed_units
all_units s =
    let a = sum_lists s.blocks.cells.now s.blocks.heads.now in
    let w = s.blocks.whole in
    let z = ap units s.idle ∙ none_units in
    let r = s.blocks.room.3 in
    omega arith
