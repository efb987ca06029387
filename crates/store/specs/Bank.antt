-- What a store holds, as its callers see it, and what each call does to it.
use Rattle.std.specs.Prelude.{ℕ, zero, suc, ◌+◌, ◌-◌, ◌*◌, ◌/◌, ◌^◌, min, Bool, true, cond, ◌&&◌, ◌||◌, List, [], ◌∷◌, ◌++◌, map, length, take, drop, replicate, Some, None, sum_by, Option, nat_le, nat_lt, slice_index, slice_index_or, slice_set}
use Rattle.std.specs.List.{remove}
use Rattle.store.specs.declared.parts.Head.{Head}
use Rattle.store.specs.declared.parts.PoolFault.{PoolFault}
use Rattle.store.specs.declared.parts.PoolFault.TheVariants.{Unknown, NoBlock}
use Rattle.store.specs.declared.sizes.SizeTable.{SizeTable}
use Rattle.store.specs.declared.blocks.Blocks.{Blocks}
use Rattle.store.specs.declared.store.Store.{Store}
use Rattle.store.specs.Faults.{before}
use Rattle.store.specs.Units.{View, placed, units, smallest}

-- a list's items and its block's class: 0 is no block, k + 1 a block of 4 * 2^k cells
pub record Owned (T : Type 0) : Type 0 where
  pub items : List T
  pub class : ℕ

-- the lists, how many freed blocks there are of each of the 29 sizes, and the untouched units of four cells
pub record Bank (T : Type 0) : Type 0 where
  pub lists : List (Owned T)
  pub free : List ℕ
  pub left : ℕ

-- an empty list, which has no block; a number that is no list's reads so too
abbrev pub nothing : {T : Type 0} → Owned T
nothing = record { items = []; class = 0 }

abbrev pub items_of : {T : Type 0} → Bank T → ℕ → List T
items_of b l = (slice_index_or b.lists l nothing).items

abbrev pub class_of : {T : Type 0} → Bank T → ℕ → ℕ
class_of b l = (slice_index_or b.lists l nothing).class

-- the units in blocks of lists
unfoldable pub listed_units : {T : Type 0} → Bank T → ℕ
listed_units b = sum_by (λ o. units o.class) b.lists

-- n empty lists, and so many untouched units
unfoldable pub fresh : {T : Type 0} → ℕ → ℕ → Bank T
fresh n left = record { lists = replicate n nothing; free = replicate 29 0; left = left }

-- the usable units of four cells, of so many cells and chain words
abbrev pub usable : ℕ → ℕ → ℕ
usable cells links = min (min (cells / 4) links) (2 ^ 28)

-- whether a block of size k can be had: one is freed, or as many cells are untouched
abbrev pub takable : {T : Type 0} → Bank T → ℕ → Bool
takable b k = nat_lt 0 (slice_index b.free k) || nat_le (2 ^ k) b.left

-- a block of size k had: a freed one, else of untouched cells
unfoldable pub taken : {T : Type 0} → Bank T → ℕ → Bank T
taken b k =
    cond (nat_lt 0 (slice_index b.free k))
    (record { lists = b.lists; free = slice_set b.free k (slice_index b.free k - 1); left = b.left })
    (record { lists = b.lists; free = b.free; left = b.left - 2 ^ k })

-- the same by class, of which 0 asks for nothing and 29 is the last
unfoldable pub obtainable : {T : Type 0} → Bank T → ℕ → Bool
obtainable b zero = true
obtainable b (suc k) = nat_lt k 29 && takable b k

unfoldable pub obtained : {T : Type 0} → Bank T → ℕ → Bank T
obtained b zero = b
obtained b (suc k) = taken b k

-- one more freed block of a class
unfoldable pub spared : List ℕ → ℕ → List ℕ
spared free zero = free
spared free (suc k) = slice_set free k (slice_index free k + 1)

-- list l emptied and its block freed
unfoldable pub cleared : {T : Type 0} → Bank T → ℕ → Bank T
cleared b l = record { lists = slice_set b.lists l nothing; free = spared b.free (class_of b l); left = b.left }

-- items xs in list l, in a block of class c
unfoldable pub holding : {T : Type 0} → Bank T → ℕ → List T → ℕ → Bank T
holding b l xs c = record { lists = slice_set b.lists l (record { items = xs; class = c }); free = b.free; left = b.left }

-- list l written anew: its block is freed, then the smallest that holds the items is had
unfoldable pub written : {T : Type 0} → Bank T → ℕ → List T → Bank T
written b l xs = holding (obtained (cleared b l) (smallest (length xs))) l xs (smallest (length xs))

-- the items of list l, written anew to list m
abbrev pub copied : {T : Type 0} → Bank T → ℕ → ℕ → Bank T
copied b l m = written b m (items_of b l)

-- whether list l's block has room for one more
abbrev pub roomy : {T : Type 0} → Bank T → ℕ → Bool
roomy b l = nat_lt (length (items_of b l)) (4 * units (class_of b l))

-- a list that outgrows its block gets the smallest that holds it, then the old one is freed
unfoldable pub grown : {T : Type 0} → Bank T → ℕ → List T → Bank T
grown b l xs = holding (cleared (obtained b (smallest (length xs))) l) l xs (smallest (length xs))

-- x at the end of list l
unfoldable pub pushed : {T : Type 0} → Bank T → ℕ → T → Bank T
pushed b l x =
    cond (roomy b l) (holding b l (items_of b l ++ x ∷ []) (class_of b l)) (grown b l (items_of b l ++ x ∷ []))

-- x at place i of list l
unfoldable pub changed : {T : Type 0} → Bank T → ℕ → ℕ → T → Bank T
changed b l i x = holding b l (slice_set (items_of b l) i x) (class_of b l)

-- list l shortened to xs: it keeps its block, unless it is emptied
unfoldable pub shortened : {T : Type 0} → Bank T → ℕ → List T → Bank T
shortened b l [] = cleared b l
shortened b l (x ∷ xs) = holding b l (x ∷ xs) (class_of b l)

-- the item at i taken out, and the gap closed
unfoldable pub removed_at : {T : Type 0} → Bank T → ℕ → ℕ → Bank T
removed_at b l i = shortened b l (remove (items_of b l) i)

-- the last item put in the place of the one at i
unfoldable pub swapped_out : {T : Type 0} → List T → ℕ → List T
swapped_out xs i = take (length xs - 1) (take i xs ++ drop (length xs - 1) xs ++ drop (i + 1) xs)

unfoldable pub swap_removed_at : {T : Type 0} → Bank T → ℕ → ℕ → Bank T
swap_removed_at b l i = shortened b l (swapped_out (items_of b l) i)

-- a number that is no list's; a place that the list does not have
unfoldable pub fault_list : {T : Type 0} → Bank T → ℕ → Option PoolFault
fault_list b l = cond (nat_lt l (length b.lists)) None (Some (Unknown l))

unfoldable pub fault_at : {T : Type 0} → Bank T → ℕ → ℕ → Option PoolFault
fault_at b l i = before (fault_list b l) (cond (nat_lt i (length (items_of b l))) None (Some (Unknown i)))

-- a block for n items cannot be had: its cells, or, past 2^30, n as far as it can be told
unfoldable pub no_block : ℕ → PoolFault
no_block n = NoBlock (cond (nat_le (smallest n) 29) (4 * units (smallest n)) (min n (2 ^ 32 - 1)))

unfoldable pub fault_block : {T : Type 0} → Bank T → ℕ → Option PoolFault
fault_block b n = cond (obtainable b (smallest n)) None (Some (no_block n))

-- one more item in list l
unfoldable pub fault_push : {T : Type 0} → Bank T → ℕ → Option PoolFault
fault_push b l =
    before (fault_list b l) (cond (roomy b l) None (fault_block b (length (items_of b l) + 1)))

-- n items in list l, written anew
unfoldable pub fault_write : {T : Type 0} → Bank T → ℕ → ℕ → Option PoolFault
fault_write b l n = before (fault_list b l) (fault_block (cleared b l) n)

-- list l copied to list m
unfoldable pub fault_copy : {T : Type 0} → Bank T → ℕ → ℕ → Option PoolFault
fault_copy b l m = before (fault_list b l) (fault_write b m (length (items_of b l)))

-- blocks for lists of the lengths ns, each had after the ones before it
unfoldable pub fault_for : {T : Type 0} → Bank T → List ℕ → Option PoolFault
fault_for b [] = None
fault_for b (n ∷ ns) = before (fault_block b n) (fault_for (obtained b (smallest n)) ns)

-- what a head says of the cells
unfoldable pub owned : {T : Type 0} → List T → Head → Owned T
owned cells h = record { items = take h.len (drop (4 * h.start) cells); class = h.class }

unfoldable pub bank : {T : Type 0} → Store T → Bank T
bank s =
    record {
      lists = map (owned s.blocks.cells.now) s.blocks.heads.now;
      free = map (λ r. r.count) s.blocks.sizes.records;
      left = s.blocks.limit - s.blocks.used;
    }

-- what there is to have of, for any lists
abbrev pub stock : SizeTable → ℕ → Bank ℕ
stock t left = record { lists = []; free = map (λ r. r.count) t.records; left = left }

abbrev pub layout : {T : Type 0} → Blocks T → View
layout s = placed s.hand s.heads.now s.links.now s.sizes.records s.used

abbrev pub view : {T : Type 0} → Store T → View
view s = layout s.blocks
