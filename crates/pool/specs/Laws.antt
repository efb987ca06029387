-- What holds of every pool and of every run of calls.
use Rattle.std.specs.Prelude.{◌≡◌, ℕ, ◌+◌, ◌*◌, ◌^◌, ◌<◌, ◌≤◌, false, ◌≢◌, List, [], ◌∷◌, length, slice_index, slice_index_or}
use Rattle.store.specs.Units.{Smallest, smallest, units, freed_units}
use Rattle.store.specs.Bank.{Bank, nothing, items_of, class_of, fresh, listed_units, obtainable}
use Rattle.pool.specs.Calls.{Call, push, change, remove, swap_remove, clear, write, copy, run}

-- the list that a call is on
abbrev pub target : {T : Type 0} → Call T → ℕ
target (push l x) = l
target (change l i x) = l
target (remove l i) = l
target (swap_remove l i) = l
target (clear l) = l
target (write l xs) = l
target (copy l m) = m

-- no call of a run is on list m
abbrev pub Spared : {T : Type 0} → ℕ → List (Call T) → Type 0
Spared m [] = Unit {0}
Spared m (c ∷ cs) = (target c ≢ m) × Spared m cs

-- calls on other lists change neither items nor block class of a list
abbrev pub OthersKept : Type 0 → Type 0
OthersKept T =
    (b : Bank T) (cs : List (Call T)) (m : ℕ) → Spared m cs → slice_index_or (run b cs).lists m nothing ≡ slice_index_or b.lists m nothing

-- blocks of lists, freed blocks and untouched units make up all the units; a list fits its block, and has one exactly
-- when it has items
pub record Tidy {T : Type 0} (all : ℕ) (b : Bank T) : Type 0 where
  pub whole : listed_units b + (freed_units 0 b.free + b.left) ≡ all
  pub fits : (l : ℕ) → length (items_of b l) ≤ 4 * units (class_of b l)
  pub empty : (l : ℕ) → length (items_of b l) ≡ 0 → class_of b l ≡ 0
  pub filled : (l : ℕ) → class_of b l ≡ 0 → length (items_of b l) ≡ 0

-- whatever is called from new, nothing leaks
abbrev pub NothingLeaks : Type 0 → Type 0
NothingLeaks T = (n u : ℕ) (cs : List (Call T)) → Tidy u (run (fresh n u) cs)

-- a block of size k is refused exactly when none of that size is freed and fewer than its cells are untouched
abbrev pub RefusedWhen : Type 0 → Type 0
RefusedWhen T =
    (b : Bank T) (k : ℕ) → k ≤ 28
    → (obtainable b (k + 1) ≡ false → (slice_index b.free k ≡ 0) × (4 * b.left < 4 * 2 ^ k))
    × ((slice_index b.free k ≡ 0) × (4 * b.left < 4 * 2 ^ k) → obtainable b (k + 1) ≡ false)

-- up to 2^30 items, the class that a list gets holds them, and no smaller one does
abbrev pub SmallestHad : Type 0
SmallestHad = (n : ℕ) → n ≤ 2 ^ 30 → Smallest n (smallest n)
