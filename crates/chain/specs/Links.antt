-- Rows and the cells that their operands lie in.
use Rattle.std.specs.Prelude.{◌≡◌, ℕ, zero, suc, ◌+◌, ◌<◌, ◌≤◌, List, [], ◌∷◌, length, slice_index_or}
use Rattle.ir.specs.declared.entities.Value.{Value}
use Rattle.table.specs.Table.{Row, no_value}
use Rattle.chain.specs.declared.cell.ChainRow.{ChainRow}
use Rattle.chain.specs.declared.cell.Link.{Link}

abbrev pub no_cell : ChainRow
no_cell = record { opcode = record { 0 = 0 }; count = 0; first = 0 }

abbrev pub no_link : Link
no_link = record { value = no_value; next = 0 }

abbrev pub at : List ChainRow → ℕ → ChainRow
at cs i = slice_index_or cs i no_cell

abbrev pub link : List Link → ℕ → Link
link ls i = slice_index_or ls i no_link

-- the operands of n cells, each of which names the next
abbrev pub walked : List Link → ℕ → ℕ → List Value
walked ls zero i = []
walked ls (suc n) i = (link ls i).value ∷ walked ls n (link ls i).next

abbrev pub row_of : List Link → ChainRow → Row
row_of ls c = record { opcode = c.opcode; operands = walked ls c.count c.first }

-- n cells from a on, each naming the one behind it
abbrev pub Chained : List Link → ℕ → ℕ → Type 0
Chained ls a n = (k : ℕ) → k + 1 < n → (link ls (a + k)).next ≡ a + k + 1

-- the first k of a list's operands, in cells from a on
abbrev pub Holds : List Link → ℕ → List Value → ℕ → Type 0
Holds ls a os k = (j : ℕ) → j < k → link ls (a + j) ≡ record { value = slice_index_or os j no_value; next = a + j + 1 }

abbrev pub Linked : List Link → List ChainRow → Type 0
Linked ls cs = (i : ℕ) → Chained ls (at cs i).first (at cs i).count

-- no cell is shared: each list's lie behind those of the lists before, and below the mark
abbrev pub Below : List ChainRow → ℕ → Type 0
Below cs used = (i : ℕ) → (at cs i).first + (at cs i).count ≤ used

pub record Before (cs : List ChainRow) : Type 0 where
  pub one : ℕ
  pub two : ℕ
  pub less : one < two
  pub within : two < length cs

abbrev pub Apart : List ChainRow → Type 0
Apart cs = (p : Before cs) → (at cs p.one).first + (at cs p.one).count ≤ (at cs p.two).first
