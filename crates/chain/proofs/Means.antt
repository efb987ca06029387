-- What the memory of a chain says of its meaning.
use Rattle.std.proofs.Common.{◌≡◌, ℕ, zero, suc, ◌+◌, ◌<◌, ◌≤◌, List, length, take, set, sym, refl, ap, ◌∙◌, subst, arith}
use Rattle.std.proofs.lemmas.List.{get_or-take, length-take-le}
use Rattle.ir.specs.declared.entities.Value.{Value}
use Rattle.table.specs.declared.extent.Extent.{Extent}
use Rattle.table.specs.Table.{Row, Fits, count, row, operands}
use Rattle.table.proofs.Held.{row_held}
use Rattle.chain.specs.declared.cell.ChainRow.{ChainRow}
use Rattle.chain.specs.declared.cell.Link.{Link}
use Rattle.chain.specs.declared.store.Chain.{Chain}
use Rattle.chain.specs.Links.{at, no_cell, link, walked, row_of, Chained}
use Rattle.chain.specs.Chain.{chain_mean, chain_measured, Same}

pub length_walked : (ls : List Link) (n a : ℕ) → length (walked ls n a) ≡ n
length_walked ls zero a = refl
length_walked ls (suc n) a = ap suc (length_walked ls n (link ls a).next)

module _ (s : Chain) where
  abbrev pub cells : List ChainRow
  cells = take s.extent.count s.rows.now

  pub length_cells : length cells ≡ s.extent.count
  length_cells = length-take-le s.extent.count s.rows.now (omega (arith, s.rows_room, s.extent.counted))

  pub count_is : count (chain_mean s) ≡ s.extent.count
  count_is = sym (chain_measured s).count

  module _ (i : ℕ) (h : i < count (chain_mean s)) where
    pub exists : i < s.extent.count
    exists = omega (arith, count_is)

    pub cell_is : at cells i ≡ at s.rows.now i
    cell_is = get_or-take s.extent.count s.rows.now i no_cell exists

    pub row_is : row (chain_mean s) i ≡ row_of s.links.now (at s.rows.now i)
    row_is = row_held no_cell row_of s.extent.inst_limit s.extent.operand_limit s.links.now cells i (omega (arith, length_cells, exists)) ∙ ap (row_of s.links.now) cell_is

    pub count_at : length (operands (chain_mean s) i) ≡ (at s.rows.now i).count
    count_at = ap (λ (r : Row). length r.operands) row_is ∙ length_walked s.links.now (at s.rows.now i).count (at s.rows.now i).first

    pub chained_at : Chained s.links.now (at s.rows.now i).first (at s.rows.now i).count
    chained_at = subst (λ (c : ChainRow). Chained s.links.now c.first c.count) cell_is (s.linked i)

    pub below_at : (at s.rows.now i).first + (at s.rows.now i).count ≤ s.extent.operand_total
    below_at = subst (λ (c : ChainRow). c.first + c.count ≤ s.extent.operand_total) cell_is (s.below i)

    pub in_row : (k : ℕ) → k < length (operands (chain_mean s) i) → k < (at s.rows.now i).count
    in_row k j = omega (arith, count_at)

pub same_then : (r s t : Chain) → Same r s → Same s t → Same r t
same_then r s t a b = record { mean = b.mean ∙ a.mean; extent = b.extent ∙ a.extent }

-- the cells behind the used ones, before an instruction is there
module _ (r s : Chain) (n k : ℕ) (F : Fits (chain_mean r) n) (S : Same r s) (h : k < n) where
  total_is : s.extent.operand_total ≡ r.extent.operand_total
  total_is = ap (λ (e : Extent). e.operand_total) S.extent

  limit_is : s.extent.operand_limit ≡ r.extent.operand_limit
  limit_is = ap (λ (e : Extent). e.operand_limit) S.extent

  pub free : s.extent.operand_total + k < s.extent.operand_limit
  free = omega (arith, h, total_is, limit_is, F.words, r.sums)

  pub inside : r.extent.operand_total + k < length s.links.now
  inside = omega (arith, h, limit_is, F.words, r.sums, s.links_room)

  pub put_at : (v : Value) (us : List Link) → us ≡ set s.links.now (s.extent.operand_total + k) (record { value = v; next = s.extent.operand_total + k + 1 }) →
      us ≡ set s.links.now (r.extent.operand_total + k) (record { value = v; next = r.extent.operand_total + k + 1 })
  put_at v us e = e ∙ ap (λ (m : ℕ). set s.links.now (m + k) (record { value = v; next = m + k + 1 })) total_is
