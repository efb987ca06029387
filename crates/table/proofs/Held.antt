-- A table held in memory: row i is read from cell i and from a memory that all cells share.
use Rattle.std.proofs.Common.{◌≡◌, ℕ, ◌+◌, ◌<◌, ◌≤◌, ◌≢◌, ◌⊎◌, List, [], ◌∷◌, ◌++◌, map, length, get_or, take, set, sym, ap, ◌∙◌, subst, inl, inr, arith, length-set, length-take}
use lib.ListN.{length-map}
use Rattle.std.proofs.lemmas.List.{get_or-take, get_or_past, get_or_push, get_or_append_left, length_push, get_or-set_same, get_or-set_other, ext_get_or, map-set, get_or-map, length-take-le}
use Rattle.std.proofs.lemmas.List.Sums.{sum_by-set, sum_by_push}
use Rattle.std.proofs.lemmas.Bool.{cases_eq, cases_order}
use Rattle.ir.specs.declared.entities.Value.{Value}
use Rattle.table.specs.Table.{Row, Table, row, operands, no_row, total, with_operand}

pub take_set : {X : Type 0} (d : X) (n : ℕ) (l : List X) (i : ℕ) (a : X) → i < n → n ≤ length l → take n (set l i a) ≡ set (take n l) i a
take_set d n l i a h j =
    ext_get_or d (take n (set l i a)) (set (take n l) i a) (simp (length-take, length-set) (omega arith))
    (λ k q.
    let kn : k < n = omega (arith, length-take n (set l i a)) in
    let lt : length (take n l) ≡ n = length-take-le n l j in
    elim (cases_eq k i) [
      | inl p ↦ get_or-take n (set l i a) k d kn ∙ ap (λ (x : ℕ). get_or (set l i a) x d) p ∙ get_or-set_same l i a d (omega arith)
          ∙ sym (get_or-set_same (take n l) i a d (omega arith)) ∙ ap (λ (x : ℕ). get_or (set (take n l) i a) x d) (sym p)
      | inr ne ↦ get_or-take n (set l i a) k d kn ∙ get_or-set_other l i k a d ne
          ∙ sym (get_or-take n l k d kn) ∙ sym (get_or-set_other (take n l) i k a d ne)
    ])

-- one cell set, or one more
module _ {C : Type 0} (none : C) where
  pub set_cases : (P : C → Type 0) (cs : List C) (i : ℕ) (c : C) → P c → ((j : ℕ) → P (get_or cs j none)) → i < length cs → (j : ℕ) → P (get_or (set cs i c) j none)
  set_cases P cs i c new old h j = elim (cases_eq j i) [
    | inl p ↦ subst P (sym (ap (λ (x : ℕ). get_or (set cs i c) x none) p ∙ get_or-set_same cs i c none h)) new
    | inr ne ↦ subst P (sym (get_or-set_other cs i j c none ne)) (old j)
  ]

  pub at_end : (cs : List C) (c : C) (j : ℕ) → (j < length cs × (get_or (cs ++ c ∷ []) j none ≡ get_or cs j none)) ⊎ ((j ≡ length cs × (get_or (cs ++ c ∷ []) j none ≡ c)) ⊎ (length cs < j × (get_or (cs ++ c ∷ []) j none ≡ none)))
  at_end cs c j = elim (cases_order j (length cs)) [
    | inl p ↦ inr (inl (p, get_or_push cs c none j (sym p)))
    | inr w ↦ elim w [
      | inl h ↦ inl (h, get_or_append_left cs (c ∷ []) none j h)
      | inr h ↦ inr (inr (h, get_or_past (cs ++ c ∷ []) j none (omega (arith, length_push cs c))))
    ]
  ]

  pub push_cases : (P : C → Type 0) (cs : List C) (c : C) → ((j : ℕ) → P (get_or cs j none)) → P c → P none → (j : ℕ) → P (get_or (cs ++ c ∷ []) j none)
  push_cases P cs c old new past j = elim (at_end cs c j) [
    | inl h ↦ subst P (sym h.1) (old j)
    | inr w ↦ elim w [ inl h ↦ subst P (sym h.1) new | inr h ↦ subst P (sym h.1) past ]
  ]

pub total_push : (rs : List Row) (r : Row) → total (rs ++ r ∷ []) ≡ total rs + length r.operands
total_push rs r = sum_by_push (λ (x : Row). length x.operands) rs r

-- setting an operand does not change how many there are
pub total_with : (t : Table) (i k : ℕ) (v : Value) → i < length t.rows → total (with_operand t i k v).rows ≡ total t.rows
total_with t i k v h =
    omega (arith, sum_by-set (λ (x : Row). length x.operands) t.rows i (record { opcode = (row t i).opcode; operands = set (operands t i) k v }) no_row h, length-set (operands t i) k v)

module _ {C M : Type 0} (none : C) (read : M → C → Row) (insts words : ℕ) where
  abbrev pub held : M → List C → Table
  held m cs = record { rows = map (read m) cs; insts = insts; words = words }

  pub row_held : (m : M) (cs : List C) (i : ℕ) → i < length cs → row (held m cs) i ≡ read m (get_or cs i none)
  row_held m cs i h = get_or-map (read m) cs i none no_row h

  -- the shared memory changes, and no row
  pub same_held : (m n : M) (cs : List C) → ((j : ℕ) → j < length cs → read n (get_or cs j none) ≡ read m (get_or cs j none)) → held n cs ≡ held m cs
  same_held m n cs f =
      ap (λ (rs : List Row). record { rows = rs; insts = insts; words = words })
      (ext_get_or no_row (map (read n) cs) (map (read m) cs) (simp length-map)
      (λ j q.
      let h : j < length cs = omega (arith, length-map cs (read n)) in
      get_or-map (read n) cs j none no_row h ∙ f j h ∙ sym (get_or-map (read m) cs j none no_row h)))

  -- the shared memory changes, and one operand
  pub set_held : (m n : M) (cs : List C) (i k : ℕ) (v : Value) → i < length cs →
      read n (get_or cs i none) ≡ record { opcode = (read m (get_or cs i none)).opcode; operands = set (read m (get_or cs i none)).operands k v } →
      ((j : ℕ) → j < length cs → j ≢ i → read n (get_or cs j none) ≡ read m (get_or cs j none)) → held n cs ≡ with_operand (held m cs) i k v
  set_held m n cs i k v h own other =
      let rs : List Row = map (read m) cs in
      let r : Row = record { opcode = (row (held m cs) i).opcode; operands = set (operands (held m cs) i) k v } in
      let ri : i < length rs = simp length-map h in
      ap (λ (rs : List Row). record { rows = rs; insts = insts; words = words })
      (ext_get_or no_row (map (read n) cs) (set rs i r) (simp (length-map, length-set))
      (λ j q.
      let jh : j < length cs = omega (arith, length-map cs (read n)) in
      get_or-map (read n) cs j none no_row jh ∙ elim (cases_eq j i) [
        | inl p ↦ ap (λ (x : ℕ). read n (get_or cs x none)) p ∙ own
            ∙ ap (λ (x : Row). record { opcode = x.opcode; operands = set x.operands k v }) (sym (row_held m cs i h))
            ∙ sym (ap (λ (x : ℕ). get_or (set rs i r) x no_row) p ∙ get_or-set_same rs i r no_row ri)
        | inr ne ↦ other j jh ne ∙ sym (get_or-set_other rs i j r no_row ne ∙ get_or-map (read m) cs j none no_row jh)
      ]))

  -- a cell changes, and one operand
  pub set_cell_held : (m : M) (cs : List C) (i k : ℕ) (v : Value) (c : C) → i < length cs →
      read m c ≡ record { opcode = (read m (get_or cs i none)).opcode; operands = set (read m (get_or cs i none)).operands k v } → held m (set cs i c) ≡ with_operand (held m cs) i k v
  set_cell_held m cs i k v c h e =
      ap (λ (rs : List Row). record { rows = rs; insts = insts; words = words })
      (map-set (read m) cs i c
      ∙ ap (set (map (read m) cs) i) (e ∙ ap (λ (x : Row). record { opcode = x.opcode; operands = set x.operands k v }) (sym (row_held m cs i h))))
