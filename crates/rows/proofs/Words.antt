-- Rows and the run of words: what a write to either leaves of the others.
use Rattle.std.proofs.Common.{◌≡◌, ℕ, ◌+◌, ◌-◌, ◌<◌, ◌≤◌, ◌⊎◌, cond, leb, List, [], ◌∷◌, ◌++◌, map, length, take, drop, set, sym, refl, ap, ◌∙◌, subst, inl, inr, arith, length-drop, length-set, length-take}
use lib.ListN.{length-map}
use Rattle.std.proofs.lemmas.List.{get_or-set_same, get_or-set_other, map_push, take-set-le, drop-set-lt, drop-set-add, get_or_append_left, length-take-le, take_more_set, take-take, drop-take, take_at}
use Rattle.std.proofs.lemmas.List.Edits.{take-paste, length-paste}
use lib.Seq.{paste}
use Rattle.std.proofs.lemmas.Bool.{le-leb, lt-leb, cond-true, cond-false, cases_eq, cases_lt, cases_order}
use Rattle.ir.specs.declared.entities.Value.{Value}
use Rattle.table.specs.Table.{Row, Table, no_value, total, Placed, Fits, with_operand}
use Rattle.table.proofs.Held.{held, take_set, at_end, set_cases, push_cases, total_push, total_with, same_held, set_held, set_cell_held}
use Rattle.rows.specs.declared.cell.RowCell.{RowCell}
use Rattle.rows.specs.declared.store.Rows.{Rows}
use Rattle.rows.specs.Rows.{rows_mean}
use Rattle.rows.specs.Cells.{at, no_cell, operands_of, row_of, Full, Below, Before, Apart}
use Rattle.rows.proofs.Means.{cells, length_cells, count_is, exists, cell_is, in_row}

-- the operands of a cell
pub short_ops : (ws : List Value) (c : RowCell) → c.count ≤ 3 → operands_of ws c ≡ take c.count c.short
short_ops ws c h = cond-true _ _ _ (le-leb c.count 3 h)

pub long_ops : (ws : List Value) (c : RowCell) → 3 < c.count → operands_of ws c ≡ take c.count (drop c.start ws)
long_ops ws c h = cond-false _ _ _ (lt-leb c.count 3 h)

-- what the ghost fields say
pub record Sound (ws : List Value) (cs : List RowCell) (used all : ℕ) : Type 0 where
  pub full : Full ws cs
  pub below : Below cs used
  pub apart : Apart cs
  pub sums : all ≡ total (map (row_of ws) cs)

-- cells that differ in neither count nor start
abbrev Alike : List RowCell → List RowCell → Type 0
Alike cs ds = (i : ℕ) → ((at ds i).count ≡ (at cs i).count) × ((at ds i).start ≡ (at cs i).start)

apart_alike : (cs ds : List RowCell) → Alike cs ds → Apart cs → Apart ds
apart_alike cs ds a b p =
    let q : Before cs = record { one = p.one; two = p.two; less = p.less; one_long = omega (arith, p.one_long, (a p.one).0); two_long = omega (arith, p.two_long, (a p.two).0) } in
    omega (arith, b q, (a p.one).0, (a p.one).1, (a p.two).1)

alike_set : (cs : List RowCell) (i : ℕ) (c : RowCell) → c.count ≡ (at cs i).count → c.start ≡ (at cs i).start → i < length cs → Alike cs (set cs i c)
alike_set cs i c e f h j = elim (cases_eq j i) [
  | inl p ↦
      let s : at (set cs i c) j ≡ c = ap (at (set cs i c)) p ∙ get_or-set_same cs i c no_cell h in
      (ap (λ (x : RowCell). x.count) s ∙ e ∙ ap (λ (x : ℕ). (at cs x).count) (sym p), ap (λ (x : RowCell). x.start) s ∙ f ∙ ap (λ (x : ℕ). (at cs x).start) (sym p))
  | inr ne ↦
      let s : at (set cs i c) j ≡ at cs j = get_or-set_other cs i j c no_cell ne in
      (ap (λ (x : RowCell). x.count) s, ap (λ (x : RowCell). x.start) s)
]

-- a part of the words, and a write aside of it
pub aside : (ws : List Value) (from n p : ℕ) (v : Value) → (p < from) ⊎ (from + n ≤ p) → take n (drop from (set ws p v)) ≡ take n (drop from ws)
aside ws from n p v (inl h) = ap (take n) (drop-set-lt from ws p v h)
aside ws from n p v (inr h) =
    let e : p ≡ from + (p - from) = omega arith in
    ap (λ (x : ℕ). take n (drop from (set ws x v))) e ∙ ap (take n) (drop-set-add from ws (p - from) v) ∙ take-set-le n (drop from ws) (p - from) v (omega arith)

row_aside : (ws : List Value) (c : RowCell) (p : ℕ) (v : Value) → (3 < c.count → (p < c.start) ⊎ (c.start + c.count ≤ p)) → row_of (set ws p v) c ≡ row_of ws c
row_aside ws c p v h = ap (λ (os : List Value). record { opcode = c.opcode; operands = os }) (elim (cases_lt 3 c.count) [
  | inl l ↦ long_ops (set ws p v) c l ∙ aside ws c.start c.count p v (h l) ∙ sym (long_ops ws c l)
  | inr s ↦ short_ops (set ws p v) c s ∙ sym (short_ops ws c s)
])

full_words : (ws : List Value) (cs : List RowCell) (p : ℕ) (v : Value) → Full ws cs → Full (set ws p v) cs
full_words ws cs p v f i =
    let c : RowCell = at cs i in
    let e : length (take c.count (drop c.start (set ws p v))) ≡ length (take c.count (drop c.start ws)) = simp (length-take, length-drop, length-set) in
    let same : length (operands_of (set ws p v) c) ≡ length (operands_of ws c) = elim (cases_lt 3 c.count) [
      | inl l ↦ ap length (long_ops (set ws p v) c l) ∙ e ∙ sym (ap length (long_ops ws c l))
      | inr s ↦ ap length (short_ops (set ws p v) c s ∙ sym (short_ops ws c s))
    ] in
    same ∙ f i

-- setting an operand
module _ (s : Rows) (i k : ℕ) (v : Value) (P : Placed (rows_mean s) i k) where
  abbrev ws : List Value
  ws = s.words.now

  abbrev rs : List RowCell
  rs = s.rows.now

  abbrev cs : List RowCell
  cs = cells s

  abbrev c : RowCell
  c = at rs i

  abbrev mean : List Value → List RowCell → Table
  mean = held no_cell row_of s.extent.inst_limit s.extent.operand_limit

  room : s.extent.count ≤ length rs
  room = omega (arith, s.rows_room, s.extent.counted)

  cell : at cs i ≡ c
  cell = cell_is s i P.within

  exist : i < s.extent.count
  exist = exists s i P.within

  place : k < c.count
  place = in_row s i P.within k P.place

  within : i < length cs
  within = omega (arith, length_cells s, exist)

  whole : length (operands_of ws c) ≡ c.count
  whole = subst (λ (x : RowCell). length (operands_of ws x) ≡ x.count) cell (s.full i)

  abbrev row_set : RowCell → Row
  row_set x = record { opcode = x.opcode; operands = set (operands_of ws x) k v }

  abbrev pub set_short : RowCell
  set_short = record { opcode = c.opcode; count = c.count; start = c.start; short = set c.short k v }

  short_row : c.count ≤ 3 → row_of ws set_short ≡ row_set (at cs i)
  short_row m =
      let e : length (take c.count c.short) ≡ c.count = sym (ap length (short_ops ws c m)) ∙ whole in
      ap (λ (os : List Value). record { opcode = c.opcode; operands = os })
      (short_ops ws set_short m
      ∙ take_set no_value c.count c.short k v place (omega (arith, e, length-take c.count c.short))
      ∙ ap (λ (x : List Value). set x k v) (sym (short_ops ws c m)))
      ∙ ap row_set (sym cell)

  pub short_mean : c.count ≤ 3 → mean ws (take s.extent.count (set rs i set_short)) ≡ with_operand (mean ws cs) i k v
  short_mean m =
      ap (mean ws) (take_set no_cell s.extent.count rs i set_short exist room)
      ∙ set_cell_held no_cell row_of s.extent.inst_limit s.extent.operand_limit ws cs i k v set_short within (short_row m)

  pub short_sound : c.count ≤ 3 → Sound ws (take s.extent.count (set rs i set_short)) s.used s.extent.operand_total
  short_sound m =
      let al : Alike cs (set cs i set_short) = alike_set cs i set_short (ap (λ (x : RowCell). x.count) (sym cell)) (ap (λ (x : RowCell). x.start) (sym cell)) within in
      let f : length (operands_of ws set_short) ≡ c.count = ap (λ (r : Row). length r.operands) (short_row m) ∙ length-set (operands_of ws (at cs i)) k v ∙ ap (λ (x : RowCell). length (operands_of ws x)) cell ∙ whole in
      let T : Sound ws (set cs i set_short) s.used s.extent.operand_total = record {
        full = set_cases no_cell (λ x. length (operands_of ws x) ≡ x.count) cs i set_short f s.full within;
        below = λ q l. omega (arith, (al q).0, (al q).1, s.below q (omega (arith, (al q).0)));
        apart = apart_alike cs (set cs i set_short) al s.apart;
        sums = s.sums ∙ sym (total_with (mean ws cs) i k v (simp length-map within)) ∙ ap (λ (t : Table). total t.rows) (sym (set_cell_held no_cell row_of s.extent.inst_limit s.extent.operand_limit ws cs i k v set_short within (short_row m)));
      } in
      subst (λ (x : List RowCell). Sound ws x s.used s.extent.operand_total) (sym (take_set no_cell s.extent.count rs i set_short exist room)) T

  module _ (m : 3 < c.count) where
    long : 3 < (at cs i).count
    long = omega (arith, ap (λ (x : RowCell). x.count) cell)

    pub long_within : c.start + k < length ws
    long_within = omega (arith, place, s.words_room, s.used_some, s.extent.totalled, ap (λ (x : RowCell). x.start) cell, ap (λ (x : RowCell). x.count) cell, s.below i long)

    long_row : row_of (set ws (c.start + k) v) (at cs i) ≡ row_set (at cs i)
    long_row =
        let e : length (take c.count (drop c.start ws)) ≡ c.count = sym (ap length (long_ops ws c m)) ∙ whole in
        ap (row_of (set ws (c.start + k) v)) cell
        ∙ ap (λ (os : List Value). record { opcode = c.opcode; operands = os })
        (long_ops (set ws (c.start + k) v) c m ∙ ap (take c.count) (drop-set-add c.start ws k v)
        ∙ take_set no_value c.count (drop c.start ws) k v place (omega (arith, e, length-take c.count (drop c.start ws)))
        ∙ ap (λ (x : List Value). set x k v) (sym (long_ops ws c m)))
        ∙ ap row_set (sym cell)

    pub long_mean : mean (set ws (c.start + k) v) cs ≡ with_operand (mean ws cs) i k v
    long_mean =
        set_held no_cell row_of s.extent.inst_limit s.extent.operand_limit ws (set ws (c.start + k) v) cs i k v within long_row
        (λ o q ne. row_aside ws (at cs o) (c.start + k) v (λ lo.
        let e = ap (λ (x : RowCell). x.start) cell in
        let f = ap (λ (x : RowCell). x.count) cell in
        elim (cases_order o i) [
          | inl p ↦ absurd (ne p)
          | inr w ↦ elim w [
            | inl x ↦ inr (omega (arith, place, e, s.apart (record { one = o; two = i; less = x; one_long = lo; two_long = long })))
            | inr x ↦ inl (omega (arith, place, e, f, s.apart (record { one = i; two = o; less = x; one_long = long; two_long = lo })))
          ]
        ]))

    pub long_sound : Sound (set ws (c.start + k) v) cs s.used s.extent.operand_total
    long_sound =
        record {
          full = full_words ws cs (c.start + k) v s.full;
          below = s.below;
          apart = s.apart;
          sums = s.sums ∙ sym (total_with (mean ws cs) i k v (simp length-map within)) ∙ ap (λ (t : Table). total t.rows) (sym long_mean);
        }

-- words change past the used ones alone
pub record Past (ws us : List Value) (used : ℕ) : Type 0 where
  pub kept : take used us ≡ take used ws
  pub long : length us ≡ length ws

part_past : (ws us : List Value) (used from n : ℕ) → Past ws us used → from + n ≤ used → take n (drop from us) ≡ take n (drop from ws)
part_past ws us used from n P h =
    sym (drop-take from n us) ∙ ap (drop from) (sym (take-take (from + n) used us h) ∙ ap (take (from + n)) P.kept ∙ take-take (from + n) used ws h) ∙ drop-take from n ws

row_past : (ws us : List Value) (used : ℕ) (c : RowCell) → Past ws us used → (3 < c.count → c.start + c.count ≤ used) → row_of us c ≡ row_of ws c
row_past ws us used c P h = ap (λ (os : List Value). record { opcode = c.opcode; operands = os }) (elim (cases_lt 3 c.count) [
  | inl l ↦ long_ops us c l ∙ part_past ws us used c.start c.count P (h l) ∙ sym (long_ops ws c l)
  | inr s ↦ short_ops us c s ∙ sym (short_ops ws c s)
])

module _ (s : Rows) (us : List Value) (P : Past s.words.now us s.used) where
  pub past_mean : held no_cell row_of s.extent.inst_limit s.extent.operand_limit us (cells s) ≡ rows_mean s
  past_mean = same_held no_cell row_of s.extent.inst_limit s.extent.operand_limit s.words.now us (cells s) (λ m q. row_past s.words.now us s.used (at (cells s) m) P (s.below m))

  pub past_sound : Sound us (cells s) s.used s.extent.operand_total
  past_sound =
      record {
        full = λ i. ap (λ (r : Row). length r.operands) (row_past s.words.now us s.used (at (cells s) i) P (s.below i)) ∙ s.full i;
        below = s.below;
        apart = s.apart;
        sums = s.sums ∙ ap (λ (t : Table). total t.rows) (sym past_mean);
      }

-- a list pasted behind the used words
pub pasted_past : (ws xs : List Value) (used n : ℕ) → used + n ≤ length ws → n ≤ length xs → Past ws (paste ws used xs n) used
pasted_past ws xs used n h k = record {
  kept = sym (take-take used (used + n) (paste ws used xs n) (omega arith)) ∙ ap (take used) (take-paste ws used xs n (omega arith) k)
      ∙ take_at (take used ws) (take n xs) used (length-take-le used ws (omega arith));
  long = length-paste ws used xs n h k;
}

-- one cell more
apart_push : (cs : List RowCell) (c : RowCell) (used : ℕ) → Below cs used → Apart cs → (3 < c.count → used ≤ c.start) → Apart (cs ++ c ∷ [])
apart_push cs c used b a e p =
    let one : ℕ = p.one in
    let two : ℕ = p.two in
    let ds : List RowCell = cs ++ c ∷ [] in
    elim (at_end no_cell cs c two) [
      | inl q ↦
          let fst : at ds one ≡ at cs one = get_or_append_left cs (c ∷ []) no_cell one (omega (arith, p.less, q.0)) in
          let f1 = ap (λ (x : RowCell). x.count) fst in
          let f2 = ap (λ (x : RowCell). x.start) fst in
          let g1 = ap (λ (x : RowCell). x.count) q.1 in
          let g2 = ap (λ (x : RowCell). x.start) q.1 in
          omega (arith, f1, f2, g2, a (record { one = one; two = two; less = p.less; one_long = omega (arith, p.one_long, f1); two_long = omega (arith, p.two_long, g1) }))
      | inr w ↦ elim w [
        | inl q ↦
            let fst : at ds one ≡ at cs one = get_or_append_left cs (c ∷ []) no_cell one (omega (arith, p.less, q.0)) in
            let f1 = ap (λ (x : RowCell). x.count) fst in
            let f2 = ap (λ (x : RowCell). x.start) fst in
            let g1 = ap (λ (x : RowCell). x.count) q.1 in
            let g2 = ap (λ (x : RowCell). x.start) q.1 in
            omega (arith, f1, f2, g2, b one (omega (arith, p.one_long, f1)), e (omega (arith, p.two_long, g1)))
        | inr q ↦ let g1 = ap (λ (x : RowCell). x.count) q.1 in absurd (omega (arith, g1, p.two_long))
      ]
    ]

-- a new cell whose list, if long, lies behind the old mark
module _ (s : Rows) (c : RowCell) (F : Fits (rows_mean s) c.count) where
  room_for_row : s.extent.count < length s.rows.now
  room_for_row = omega (arith, F.inst, s.rows_room, count_is s)

  pub push_sound : (words : ℕ) → words ≡ cond (leb c.count 3) 0 c.count → length (operands_of s.words.now c) ≡ c.count → (3 < c.count → c.start ≡ s.used) →
      Sound s.words.now (take (s.extent.count + 1) (set s.rows.now s.extent.count c)) (s.used + words) (s.extent.operand_total + c.count)
  push_sound words is o behind =
      let ws : List Value = s.words.now in
      let end : 3 < c.count → c.start + c.count ≤ s.used + words = λ l. omega (arith, behind l, is ∙ cond-false _ _ _ (lt-leb c.count 3 l)) in
      let T : Sound ws (cells s ++ c ∷ []) (s.used + words) (s.extent.operand_total + c.count) = record {
        full = push_cases no_cell (λ x. length (operands_of ws x) ≡ x.count) (cells s) c s.full o refl;
        below = push_cases no_cell (λ x. 3 < x.count → x.start + x.count ≤ s.used + words) (cells s) c (λ m l. omega (arith, s.below m l)) end (λ l. absurd (omega arith));
        apart = apart_push (cells s) c s.used s.below s.apart (λ l. omega (arith, behind l));
        sums = sym (ap total (map_push (row_of ws) (cells s) c) ∙ total_push (map (row_of ws) (cells s)) (row_of ws c) ∙ omega (arith, s.sums, o));
      } in
      subst (λ (x : List RowCell). Sound ws x (s.used + words) (s.extent.operand_total + c.count)) (sym (take_more_set s.rows.now s.extent.count c room_for_row)) T
