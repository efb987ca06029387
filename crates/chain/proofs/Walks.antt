-- Rows and cells: what a write to either leaves of the others.
use Rattle.std.proofs.Common.{◌≡◌, ℕ, zero, suc, ◌+◌, ◌<◌, ◌≤◌, List, [], ◌∷◌, ◌++◌, map, length, get_or, take, set, sym, refl, ap, ◌∙◌, subst, inl, inr, not-suc-le-zero, arith, length-set}
use lib.ListN.{length-map}
use Rattle.std.proofs.lemmas.List.{get_or-set_same, get_or-set_other, ext_get_or, map_push, get_or_append_left, length_push, take_more_set}
use Rattle.std.proofs.lemmas.Bool.{cases_eq, cases_order}
use Rattle.ir.specs.declared.entities.Value.{Value}
use Rattle.table.specs.Table.{Table, Placed, Fits, no_value, total, with_operand}
use Rattle.table.proofs.Held.{held, at_end, push_cases, total_push, total_with, same_held, set_held}
use Rattle.chain.specs.declared.cell.ChainRow.{ChainRow}
use Rattle.chain.specs.declared.cell.Link.{Link}
use Rattle.chain.specs.declared.store.Chain.{Chain}
use Rattle.chain.specs.Chain.{chain_mean}
use Rattle.chain.specs.Links.{at, no_cell, link, no_link, walked, row_of, Chained, Holds, Linked, Below, Apart}
use Rattle.chain.proofs.Means.{cells, length_cells, length_walked, count_is, exists, cell_is, in_row}

-- the cell k steps on, from the start and at the end of the walk
abbrev hop : List Link → ℕ → ℕ → ℕ
hop ls zero a = a
hop ls (suc k) a = hop ls k (link ls a).next

hop_more : (ls : List Link) (k a : ℕ) → hop ls (k + 1) a ≡ (link ls (hop ls k a)).next
hop_more ls zero a = refl
hop_more ls (suc k) a =
    let e : suc k + 1 ≡ suc (k + 1) = omega arith in
    ap (λ (n : ℕ). hop ls n a) e ∙ hop_more ls k (link ls a).next

walked_at : (ls : List Link) (n a k : ℕ) → k < n → get_or (walked ls n a) k no_value ≡ (link ls (hop ls k a)).value
walked_at ls zero a k h = absurd (not-suc-le-zero h)
walked_at ls (suc n) a zero h = refl
walked_at ls (suc n) a (suc k) h = walked_at ls n (link ls a).next k (omega arith)

hop_chained : (ls : List Link) (a n : ℕ) → Chained ls a n → (k : ℕ) → k < n → hop ls k a ≡ a + k
hop_chained ls a n c zero h = omega arith
hop_chained ls a n c (suc k) h =
    let e : suc k ≡ k + 1 = omega arith in
    ap (λ (m : ℕ). hop ls m a) e ∙ hop_more ls k a ∙ ap (λ (m : ℕ). (link ls m).next) (hop_chained ls a n c k (omega arith)) ∙ c k (omega arith) ∙ omega arith

pub walked_read : (ls : List Link) (a n k : ℕ) → Chained ls a n → k < n → get_or (walked ls n a) k no_value ≡ (link ls (a + k)).value
walked_read ls a n k c h = walked_at ls n a k h ∙ ap (λ (m : ℕ). (link ls m).value) (hop_chained ls a n c k h)

-- chained cells hold the list whose operands stand in them
pub walked_is : (ls : List Link) (a n : ℕ) (os : List Value) → Chained ls a n → length os ≡ n → ((k : ℕ) → k < n → (link ls (a + k)).value ≡ get_or os k no_value) → walked ls n a ≡ os
walked_is ls a n os c e f =
    ext_get_or no_value (walked ls n a) os (length_walked ls n a ∙ sym e)
    (λ k q. let h : k < n = omega (arith, length_walked ls n a) in walked_read ls a n k c h ∙ f k h)

pub holds_chained : (ls : List Link) (a n : ℕ) (os : List Value) → Holds ls a os n → Chained ls a n
holds_chained ls a n os h k l = ap (λ (x : Link). x.next) (h k (omega arith))

pub holds_walked : (ls : List Link) (a n : ℕ) (os : List Value) → length os ≡ n → Holds ls a os n → walked ls n a ≡ os
holds_walked ls a n os e h = walked_is ls a n os (holds_chained ls a n os h) e (λ k l. ap (λ (x : Link). x.value) (h k l))

-- one operand more
pub holds_more : (ls ms : List Link) (a k : ℕ) (os : List Value) (v : Value) → ms ≡ set ls (a + k) (record { value = v; next = a + k + 1 }) → a + k < length ls → v ≡ get_or os k no_value → Holds ls a os k → Holds ms a os (k + 1)
holds_more ls ms a k os v e h is before j l =
    let new : Link = record { value = v; next = a + k + 1 } in
    ap (λ (x : List Link). link x (a + j)) e ∙ elim (cases_eq j k) [
      | inl p ↦ ap (λ (x : ℕ). link (set ls (a + k) new) (a + x)) p ∙ get_or-set_same ls (a + k) new no_link h
          ∙ ap (λ (x : Value). record { value = x; next = a + k + 1 }) is ∙ ap (λ (x : ℕ). record { value = get_or os x no_value; next = a + x + 1 }) (sym p)
      | inr ne ↦ get_or-set_other ls (a + k) (a + j) new no_link (λ z. ne (omega arith)) ∙ before j (omega (arith, λ (z : j ≡ k). ne z))
    ]

-- what the ghost fields say
pub record Sound (ls : List Link) (cs : List ChainRow) (used : ℕ) : Type 0 where
  pub linked : Linked ls cs
  pub below : Below cs used
  pub apart : Apart cs
  pub sums : used ≡ total (map (row_of ls) cs)

-- cells that a write spares keep their list
row_spared : (ls ms : List Link) (c : ChainRow) → Chained ls c.first c.count → ((k : ℕ) → k < c.count → link ms (c.first + k) ≡ link ls (c.first + k)) → row_of ms c ≡ row_of ls c
row_spared ls ms c h f =
    ap (λ (os : List Value). record { opcode = c.opcode; operands = os })
    (walked_is ms c.first c.count (walked ls c.count c.first) (λ k l. ap (λ (x : Link). x.next) (f k (omega arith)) ∙ h k l) (length_walked ls c.count c.first)
    (λ k l. ap (λ (x : Link). x.value) (f k l) ∙ sym (walked_read ls c.first c.count k h l)))

-- a write past the used cells
module _ (s : Chain) (p : ℕ) (x : Link) (h : s.extent.operand_total ≤ p) where
  abbrev written : List Link
  written = set s.links.now p x

  spared : (i k : ℕ) → k < (at (cells s) i).count → link written ((at (cells s) i).first + k) ≡ link s.links.now ((at (cells s) i).first + k)
  spared i k l = get_or-set_other s.links.now p ((at (cells s) i).first + k) x no_link (λ z. absurd (omega (arith, z, s.below i)))

  pub past_mean : held no_cell row_of s.extent.inst_limit s.extent.operand_limit written (cells s) ≡ chain_mean s
  past_mean = same_held no_cell row_of s.extent.inst_limit s.extent.operand_limit s.links.now written (cells s) (λ i q. row_spared s.links.now written (at (cells s) i) (s.linked i) (spared i))

  pub past_sound : Sound written (cells s) s.extent.operand_total
  past_sound =
      record {
        linked = λ i k l. ap (λ (y : Link). y.next) (spared i k (omega arith)) ∙ s.linked i k l;
        below = s.below;
        apart = s.apart;
        sums = s.sums ∙ ap (λ (t : Table). total t.rows) (sym past_mean);
      }

-- setting an operand
module _ (s : Chain) (i k : ℕ) (v : Value) (P : Placed (chain_mean s) i k) where
  abbrev ls : List Link
  ls = s.links.now

  abbrev cs : List ChainRow
  cs = cells s

  abbrev c : ChainRow
  c = at s.rows.now i

  abbrev p : ℕ
  p = c.first + k

  abbrev pub set_link : List Link
  set_link = set ls p (record { value = v; next = (link ls p).next })

  cell : at cs i ≡ c
  cell = cell_is s i P.within

  place : k < c.count
  place = in_row s i P.within k P.place

  within : i < length cs
  within = omega (arith, length_cells s, exists s i P.within)

  chained : Chained ls c.first c.count
  chained = subst (λ (x : ChainRow). Chained ls x.first x.count) cell (s.linked i)

  inside : p < length ls
  inside = omega (arith, place, s.extent.totalled, s.links_room, subst (λ (x : ChainRow). x.first + x.count ≤ s.extent.operand_total) cell (s.below i))

  next_same : (q : ℕ) → (link set_link q).next ≡ (link ls q).next
  next_same q = elim (cases_eq q p) [
    | inl e ↦ ap (λ (x : ℕ). (link set_link x).next) e ∙ ap (λ (x : Link). x.next) (get_or-set_same ls p _ no_link inside) ∙ ap (λ (x : ℕ). (link ls x).next) (sym e)
    | inr ne ↦ ap (λ (x : Link). x.next) (get_or-set_other ls p q _ no_link ne)
  ]

  own : walked set_link c.count c.first ≡ set (walked ls c.count c.first) k v
  own =
      let os : List Value = walked ls c.count c.first in
      let len : length os ≡ c.count = length_walked ls c.count c.first in
      walked_is set_link c.first c.count (set os k v) (λ m l. next_same (c.first + m) ∙ chained m l) (length-set os k v ∙ len)
      (λ m l. elim (cases_eq m k) [
        | inl e ↦ ap (λ (x : ℕ). (link set_link (c.first + x)).value) e ∙ ap (λ (x : Link). x.value) (get_or-set_same ls p _ no_link inside)
            ∙ sym (ap (λ (x : ℕ). get_or (set os k v) x no_value) e ∙ get_or-set_same os k v no_value (omega (arith, place)))
        | inr ne ↦ ap (λ (x : Link). x.value) (get_or-set_other ls p (c.first + m) _ no_link (λ z. ne (omega arith)))
            ∙ sym (get_or-set_other os k m v no_value ne ∙ walked_read ls c.first c.count m chained l)
      ])

  pub set_mean : held no_cell row_of s.extent.inst_limit s.extent.operand_limit set_link cs ≡ with_operand (held no_cell row_of s.extent.inst_limit s.extent.operand_limit ls cs) i k v
  set_mean =
      set_held no_cell row_of s.extent.inst_limit s.extent.operand_limit ls set_link cs i k v within
      (ap (row_of set_link) cell ∙ ap (λ (os : List Value). record { opcode = c.opcode; operands = os }) own
      ∙ ap (λ (x : ChainRow). record { opcode = x.opcode; operands = set (walked ls x.count x.first) k v }) (sym cell))
      (λ m q ne. row_spared ls set_link (at cs m) (s.linked m) (λ l r.
      get_or-set_other ls p ((at cs m).first + l) _ no_link (λ z.
      let e = ap (λ (x : ChainRow). x.first) cell in
      let f = ap (λ (x : ChainRow). x.count) cell in
      elim (cases_order m i) [
        | inl o ↦ ne o
        | inr w ↦ elim w [
          | inl o ↦ absurd (omega (arith, place, z, e, f, s.apart (record { one = m; two = i; less = o; within = within })))
          | inr o ↦ absurd (omega (arith, place, z, e, f, s.apart (record { one = i; two = m; less = o; within = q })))
        ]
      ])))

  pub set_sound : Sound set_link cs s.extent.operand_total
  set_sound =
      record {
        linked = λ m l r. next_same ((at cs m).first + l) ∙ s.linked m l r;
        below = s.below;
        apart = s.apart;
        sums = s.sums ∙ sym (total_with (held no_cell row_of s.extent.inst_limit s.extent.operand_limit ls cs) i k v (simp length-map within)) ∙ ap (λ (t : Table). total t.rows) (sym set_mean);
      }

-- one row more, whose cells lie from the mark on
module _ (s : Chain) (c : ChainRow) (F : Fits (chain_mean s) c.count) where
  room_for_row : s.extent.count < length s.rows.now
  room_for_row = omega (arith, F.inst, s.rows_room, count_is s)

  pub push_sound : c.first ≡ s.extent.operand_total → Chained s.links.now c.first c.count → Sound s.links.now (take (s.extent.count + 1) (set s.rows.now s.extent.count c)) (s.extent.operand_total + c.count)
  push_sound f chained =
      let ls : List Link = s.links.now in
      let cs : List ChainRow = cells s in
      let ds : List ChainRow = cs ++ c ∷ [] in
      let T : Sound ls ds (s.extent.operand_total + c.count) = record {
        linked = push_cases no_cell (λ x. Chained ls x.first x.count) cs c s.linked chained (λ k l. absurd (omega arith));
        below = push_cases no_cell (λ x. x.first + x.count ≤ s.extent.operand_total + c.count) cs c (λ i. omega (arith, s.below i)) (omega (arith, f)) (omega arith);
        apart = λ p. elim (at_end no_cell cs c p.two) [
          | inl q ↦
              let one : at ds p.one ≡ at cs p.one = get_or_append_left cs (c ∷ []) no_cell p.one (omega (arith, p.less, q.0)) in
              omega (arith, ap (λ (x : ChainRow). x.first) one, ap (λ (x : ChainRow). x.count) one, ap (λ (x : ChainRow). x.first) q.1, s.apart (record { one = p.one; two = p.two; less = p.less; within = q.0 }))
          | inr w ↦ elim w [
            | inl q ↦
                let one : at ds p.one ≡ at cs p.one = get_or_append_left cs (c ∷ []) no_cell p.one (omega (arith, p.less, q.0)) in
                omega (arith, f, ap (λ (x : ChainRow). x.first) one, ap (λ (x : ChainRow). x.count) one, ap (λ (x : ChainRow). x.first) q.1, s.below p.one)
            | inr q ↦ absurd (omega (arith, p.within, q.0, length_push cs c))
          ]
        ];
        sums = sym (ap total (map_push (row_of ls) cs c) ∙ total_push (map (row_of ls) cs) (row_of ls c) ∙ omega (arith, s.sums, length_walked ls c.count c.first));
      } in
      subst (λ (x : List ChainRow). Sound ls x (s.extent.operand_total + c.count)) (sym (take_more_set s.rows.now s.extent.count c room_for_row)) T
