-- What a store holds in the midst of a call, when a block may be in hand.
use Rattle.std.specs.Prelude.{ℕ, ◌-◌, List, [], map, slice_index_or, slice_set}
use Rattle.store.specs.declared.blocks.Blocks.{Blocks}
use Rattle.store.specs.Bank.{Owned, Bank, owned, nothing, obtained, spared}

pub record Held (T : Type 0) : Type 0 where
  pub hand : Owned T
  pub lists : List (Owned T)
  pub free : List ℕ
  pub left : ℕ

unfoldable pub held : {T : Type 0} → Blocks T → Held T
held s =
    record {
      hand = owned s.cells.now s.hand;
      lists = map (owned s.cells.now) s.heads.now;
      free = map (λ r. r.count) s.sizes.records;
      left = s.limit - s.used;
    }

-- all but the hand
abbrev pub shown : {T : Type 0} → Held T → Bank T
shown h = record { lists = h.lists; free = h.free; left = h.left }

-- the hand and list l, exchanged
abbrev pub exchange : {T : Type 0} → Held T → ℕ → Held T
exchange h l =
    record { hand = slice_index_or h.lists l nothing; lists = slice_set h.lists l h.hand; free = h.free; left = h.left }

-- the items xs in hand, in the block there
abbrev pub filling : {T : Type 0} → Held T → List T → Held T
filling h xs =
    record { hand = record { items = xs; class = h.hand.class }; lists = h.lists; free = h.free; left = h.left }

-- a block of class c had, into the hand
abbrev pub grasping : {T : Type 0} → Held T → ℕ → Held T
grasping h c =
    record {
      hand = record { items = []; class = c };
      lists = h.lists;
      free = (obtained (shown h) c).free;
      left = (obtained (shown h) c).left;
    }

-- the block in hand freed
abbrev pub freeing : {T : Type 0} → Held T → Held T
freeing h = record { hand = nothing; lists = h.lists; free = spared h.free h.hand.class; left = h.left }

-- the block in hand given to list l, whose own is freed
abbrev pub settled : {T : Type 0} → Held T → ℕ → Held T
settled h l =
    record {
      hand = nothing;
      lists = slice_set h.lists l h.hand;
      free = spared h.free (slice_index_or h.lists l nothing).class;
      left = h.left;
    }
