-- Blocks, counted in units of four cells, and who owns each unit.
use Rattle.std.specs.Prelude.{◌≡◌, ℕ, zero, suc, ◌+◌, ◌*◌, ◌^◌, ◌<◌, ◌≤◌, cond, List, [], ◌∷◌, map, slice_index_or, sum_by, nat_le, slice_index}
use Rattle.store.specs.declared.parts.Head.{Head}
use Rattle.store.specs.declared.sizes.SizeRecord.{SizeRecord}

-- the units of a block of a class; class 0 is no block
unfoldable pub units : ℕ → ℕ
units zero = 0
units (suc k) = 2 ^ k

-- the first of the classes from c on, of so many, whose block holds n items; else the one after them
unfoldable pub first_class : ℕ → ℕ → ℕ → ℕ
first_class zero c n = c
first_class (suc more) c n = cond (nat_le n (4 * units c)) c (first_class more (suc c) n)

-- the smallest class that holds n items, and 30 where none of at most 2^30 cells does
unfoldable pub smallest : ℕ → ℕ
smallest n = first_class 30 0 n

-- class c holds n items, and no smaller one does
abbrev pub Smallest : ℕ → ℕ → Type 0
Smallest n c = (n ≤ 4 * units c) × ((d : ℕ) → n ≤ 4 * units d → c ≤ d)

-- what a read gives past the end
abbrev pub no_head : Head
no_head = record { start = 0; len = 0; class = 0 }

abbrev pub no_record : SizeRecord
no_record = record { first = 0; count = 0 }

-- the block that is i links on
unfoldable pub walk : List ℕ → ℕ → ℕ → ℕ
walk links at zero = at
walk links at (suc i) = walk links (slice_index links at) i

-- what says where blocks lie
pub record View : Type 0 where
  pub hand : Head
  pub heads : List Head
  pub links : List ℕ
  pub sizes : List SizeRecord
  pub used : ℕ

abbrev pub placed : Head → List Head → List ℕ → List SizeRecord → ℕ → View
placed hand heads links sizes used = record { hand = hand; heads = heads; links = links; sizes = sizes; used = used }

-- who may own a unit: the block in hand, the block of a list, the i-th freed block of a size, or nobody yet
pub data Owner : Type 0 where
  in_hand : Owner
  listed : ℕ → Owner
  freed : ℕ → ℕ → Owner
  untouched : Owner

abbrev pub Within : ℕ → ℕ → ℕ → Type 0
Within start size u = (start ≤ u) × (u < start + size)

abbrev pub Block : Head → ℕ → Type 0
Block h u = Within h.start (units h.class) u

abbrev pub Owns : View → Owner → ℕ → Type 0
Owns v in_hand u = Block v.hand u
Owns v (listed l) u = Block (slice_index_or v.heads l no_head) u
Owns v (freed k i) u =
    (i < (slice_index_or v.sizes k no_record).count) × Within (walk v.links (slice_index_or v.sizes k no_record).first i) (2 ^ k) u
Owns v untouched u = v.used ≤ u

-- an owner as numbers, since a ghost field's equation is at a type made of numbers and lists
abbrev pub code : Owner → List ℕ
code in_hand = 0 ∷ []
code (listed l) = 1 ∷ l ∷ []
code (freed k i) = 2 ∷ k ∷ i ∷ []
code untouched = 3 ∷ []

-- a unit that two owners claim
pub record Clash (v : View) : Type 0 where
  pub one : Owner
  pub two : Owner
  pub unit : ℕ
  pub by_one : Owns v one unit
  pub by_two : Owns v two unit

-- no unit has two owners
abbrev pub Apart : View → Type 0
Apart v = (c : Clash v) → code c.one ≡ code c.two

-- the same, of two owners by themselves
abbrev pub OneOwner : View → Type 0
OneOwner v = (one two : Owner) (unit : ℕ) → Owns v one unit → Owns v two unit → one ≡ two

-- no list is longer than its block, of which there are 29 classes, and what has no block starts at 0
abbrev pub Fits : Head → Type 0
Fits h = (h.len ≤ 4 * units h.class) × (h.class ≤ 29) × (h.start ≤ 2 ^ 28 * h.class)

abbrev pub Filled : Head → List Head → Type 0
Filled hand heads = Fits hand × ((l : ℕ) → Fits (slice_index_or heads l no_head))

-- the units of freed blocks, counted for each size from k on
unfoldable pub freed_units : ℕ → List ℕ → ℕ
freed_units k [] = 0
freed_units k (n ∷ ns) = n * 2 ^ k + freed_units (suc k) ns

-- blocks of lists, the block in hand and freed blocks make up the used units
abbrev pub Whole : View → Type 0
Whole v =
    sum_by (λ h. units h.class) v.heads + (units v.hand.class + freed_units 0 (map (λ r. r.count) v.sizes)) ≡ v.used

-- the usable units lie within cells and chain words, the used ones within them, and each size has its record
abbrev pub Room : ℕ → ℕ → ℕ → ℕ → ℕ → Type 0
Room cells links sizes limit used = (4 * limit ≤ cells) × (limit ≤ links) × (limit ≤ 2 ^ 28) × (used ≤ limit) × (sizes ≡ 29)
