-- Taking a parameter out of its list keeps the lists of results and parameters in order.
use Rattle.std.proofs.Common.{◌≡◌, ℕ, zero, suc, ◌+◌, ◌-◌, ◌<◌, ◌≤◌, ltb, ◌≢◌, List, [], ◌∷◌, ◌++◌, length, get_or, take, drop, set, sym, refl, ap, ◌∙◌, subst, inl, inr, not-suc-le-zero, arith}
use Rattle.std.specs.List.{remove}
use Rattle.std.proofs.lemmas.Bool.{cases_eq, cases_lt, cases_Bool, cond-true, cond-false, ltb-false, not-false}
use Rattle.std.proofs.lemmas.List.Edits.{length-remove, get_or-remove_below, get_or-remove_above}
use Rattle.std.proofs.lemmas.List.{length-set, length-take-le, length-drop, length-append, get_or-take, get_or-drop, get_or_append_left, get_or-append_right}
use Rattle.ir.specs.declared.entities.Value.{Value}
use Rattle.ir.specs.declared.entities.Block.{Block}
use Rattle.ir.specs.declared.value_data.ValueData.{ValueData}
use Rattle.ir.specs.declared.value_data.ValueData.TheVariants.{Inst, Param, Alias, Union}
use Rattle.ir.specs.Packing.{type}
use Rattle.store.specs.Bank.{removed_at, swap_removed_at, swapped_out}
use Rattle.values.specs.Leads.{at, Exists}
use Rattle.values.proofs.Ways.{at_same, at_other}
use Rattle.model.specs.State.{Graph, params, param_list, attached, no_value}
use Rattle.model.specs.Edits as edit
use Rattle.model.specs.Edits.{with_defs, with_words, is_param, number, block_of, numbered, lowered, moved, last_of, param_removed, param_swap_removed}
use Rattle.model.proofs.Rows.{Passes, when_none}
use Rattle.model.proofs.Banks.{removed_at_only, swap_removed_at_only}
use Rattle.model.proofs.Seats.{Home, param_of, Made, members, Names, NamesMade, Seated, seat_made, after_setting, reseated, stands, member_known, places_differ, Apart, Differ}
use Rattle.model.proofs.SeatsEdits.{param_form}

-- another number names no other list
numbered_made : (g : Graph) (n : ℕ) (d : ValueData) → NamesMade g d → NamesMade g (numbered n d)
numbered_made g n (Inst ty m i) f = f
numbered_made g n (Param ty m b) f = seat_made g (param_of b) ty n (f (param_of b) ty m refl)
numbered_made g n (Alias ty o) f = f
numbered_made g n (Union ty x y) f = f

-- a number one lower
abbrev lower : ValueData → ValueData
lower d = numbered (number d - 1) d

lowered_homes : (g : Graph) (vs : List Value) (ds : List ValueData) → ((v : Value) → NamesMade g (at ds v)) →
    (v : Value) → NamesMade g (at (lowered ds vs) v)
lowered_homes g [] ds f = f
lowered_homes g (v ∷ vs) ds f =
    lowered_homes g vs (set ds v.0 (lower (at ds v)))
    (after_setting (NamesMade g) ds (lower (at ds v)) f (numbered_made g (number (at ds v) - 1) (at ds v) (f v)) v)

lowered_length : (vs : List Value) (ds : List ValueData) → length (lowered ds vs) ≡ length ds
lowered_length [] ds = refl
lowered_length (v ∷ vs) ds = lowered_length vs (set ds v.0 (lower (at ds v))) ∙ length-set ds v.0 (lower (at ds v))

-- what is not among them keeps its definition, and each of them is lowered once
lowered_away : (vs : List Value) (ds : List ValueData) (w : Value) → Apart w vs → at (lowered ds vs) w ≡ at ds w
lowered_away [] ds w f = refl
lowered_away (v ∷ vs) ds w f =
    lowered_away vs (set ds v.0 (lower (at ds v))) w (λ k l. f (suc k) (omega arith))
    ∙ at_other ds v w (lower (at ds v)) (f 0 (omega arith))

lowered_at : (vs : List Value) (ds : List ValueData) (k : ℕ) → Differ vs → k < length vs → Exists ds (get_or vs k no_value) →
    at (lowered ds vs) (get_or vs k no_value) ≡ lower (at ds (get_or vs k no_value))
lowered_at [] ds k f l m = absurd (not-suc-le-zero l)
lowered_at (v ∷ vs) ds zero f l m =
    lowered_away vs (set ds v.0 (lower (at ds v))) v (λ k q. f 0 (suc k) (omega arith) (omega arith))
    ∙ at_same ds v (lower (at ds v)) m
lowered_at (v ∷ vs) ds (suc k) f l m =
    let n = length-set ds v.0 (lower (at ds v)) in
    let ne : get_or vs k no_value ≢ v = λ e. f 0 (suc k) (omega arith) l (sym e) in
    lowered_at vs (set ds v.0 (lower (at ds v))) k (λ i j p q. f (suc i) (suc j) (omega arith) (omega arith)) (omega arith) (omega arith)
    ∙ ap lower (at_other ds v (get_or vs k no_value) (lower (at ds v)) ne)

-- the parameter at place n of block b taken out
module _ (g : Graph) (p : Seated g) (b : Block) (n : ℕ) (m : b.0 < g.blocks) (inside : n < length (params g b)) where
  -- the later ones
  abbrev late : List Value
  late = drop (n + 1) (params g b)

  late_at : (k : ℕ) → get_or late k no_value ≡ get_or (params g b) (n + 1 + k) no_value
  late_at k = get_or-drop (n + 1) (params g b) k no_value

  late_long : length late ≡ length (params g b) - (n + 1)
  late_long = length-drop (n + 1) (params g b)

  late_differ : Differ late
  late_differ i j r q e =
      let l = late_long in
      let z = places_differ g p (param_of b) (param_of b) (n + 1 + i) (n + 1 + j) m m (omega arith) (omega arith)
      (sym (late_at i) ∙ (e ∙ late_at j)) in
      omega (arith, z.1)

  -- what stands elsewhere is none of them, and keeps its name
  elsewhere : (h : Home) (k : ℕ) → Made g h → k < length (members g h) → (h ≡ param_of b → k ≤ n) →
      at (lowered g.defs late) (get_or (members g h) k no_value) ≡ at g.defs (get_or (members g h) k no_value)
  elsewhere h k o l f =
      lowered_away late g.defs (get_or (members g h) k no_value) (λ j q e.
      let r = late_long in
      let z = places_differ g p h (param_of b) k (n + 1 + j) o m l (omega arith) (e ∙ late_at j) in
      let x = f z.0 in
      omega (arith, z.1))

  -- each of them stands one place earlier
  earlier : (k : ℕ) → n ≤ k → k + 1 < length (params g b) → Names (lowered g.defs late) (get_or (params g b) (k + 1) no_value) (param_of b) k
  earlier k r l =
      let w = get_or (params g b) (k + 1) no_value in
      let q = late_long in
      let a = p.named (param_of b) (k + 1) m l in
      let x : n + 1 + (k - n) ≡ k + 1 = omega arith in
      let y : get_or late (k - n) no_value ≡ w = late_at (k - n) ∙ ap (λ (j : ℕ). get_or (params g b) j no_value) x in
      let z : k + 1 - 1 ≡ k = omega arith in (
        a.0,
        subst (λ (v : Value). at (lowered g.defs late) v ≡ lower (at g.defs v)) y
            (lowered_at late g.defs (k - n) late_differ (omega arith)
            (subst (λ (v : Value). Exists g.defs v) (sym y) (member_known g p (param_of b) (k + 1) m l)))
            ∙ (ap lower a.1 ∙ ap (λ (j : ℕ). Param a.0 j b) z),
      )

  pub seats_param_removed : Seated (param_removed g b n)
  seats_param_removed =
      let z = p.sized.values_fit in
      let q = lowered_length late g.defs in
      reseated g (lowered g.defs late) (removed_at g.words (param_list g b) n) (param_of b) (remove (params g b) n) p m
      (removed_at_only g.words (param_list g b) n) (omega arith) (lowered_homes g late g.defs p.homes) here
      (λ j k o ne l. elsewhere j k o l (λ e. absurd (ne e)))
    where
      here : (k : ℕ) → k < length (remove (params g b) n) → Names (lowered g.defs late) (get_or (remove (params g b) n) k no_value) (param_of b) k
      here k l =
          let r = length-remove (params g b) n inside in
          elim (cases_lt k n) [
            | inl q ↦
                let x : k < length (params g b) = omega arith in
                subst (λ (v : Value). Names (lowered g.defs late) v (param_of b) k) (sym (get_or-remove_below (params g b) n no_value k q inside))
                ((p.named (param_of b) k m x).0, elsewhere (param_of b) k m x (λ e. omega arith) ∙ (p.named (param_of b) k m x).1)
            | inr q ↦ subst (λ (v : Value). Names (lowered g.defs late) v (param_of b) k) (sym (get_or-remove_above (params g b) n no_value k q inside))
                (earlier k q (omega arith))
          ]

-- what the rows of both removals say
module _ (g : Graph) (p : Seated g) (v : Value) (q : Passes (edit.remove_rows g v)) where
  removable : at g.defs v ≡ Param (type (at g.defs v)) (number (at g.defs v)) (block_of (at g.defs v))
  removable = param_form (at g.defs v) (not-false (is_param (at g.defs v)) (when_none _ _ q.1.1.0))

  pub block_made : (block_of (at g.defs v)).0 < g.blocks
  block_made = p.homes v (param_of (block_of (at g.defs v))) (type (at g.defs v)) (number (at g.defs v)) removable

  pub place_inside : number (at g.defs v) < length (params g (block_of (at g.defs v)))
  place_inside =
      (stands g v (param_of (block_of (at g.defs v))) (type (at g.defs v)) (number (at g.defs v))
      (not-false (attached g v) (when_none _ _ q.1.1.1.0)) removable).0

-- the last item in the place of the one at i

module _ (xs : List Value) (i : ℕ) (inside : i < length xs) where
  abbrev before : List Value
  before = take i xs ++ drop (length xs - 1) xs

  before_long : length before ≡ i + 1
  before_long =
      let a = length-append (take i xs) (drop (length xs - 1) xs) in
      let b = length-take-le i xs (omega arith) in
      let c = length-drop (length xs - 1) xs in
      omega arith

  swapped_length : length (swapped_out xs i) ≡ length xs - 1
  unfolding swapped_out
  swapped_length =
      let a = length-append before (drop (i + 1) xs) in
      let b = before_long in
      let c = length-drop (i + 1) xs in
      length-take-le (length xs - 1) (before ++ drop (i + 1) xs) (omega arith)

  swapped_read : (k : ℕ) → k < length xs - 1 → get_or (swapped_out xs i) k no_value ≡ get_or (before ++ drop (i + 1) xs) k no_value
  unfolding swapped_out
  swapped_read k l = get_or-take (length xs - 1) (before ++ drop (i + 1) xs) k no_value l

  swapped_here : i < length xs - 1 → get_or (swapped_out xs i) i no_value ≡ get_or xs (length xs - 1) no_value
  swapped_here l =
      let b = before_long in
      let z : length xs - 1 + (i - i) ≡ length xs - 1 = omega arith in
      swapped_read i l
      ∙ (get_or_append_left before (drop (i + 1) xs) no_value i (omega arith)
      ∙ (get_or-append_right (take i xs) (drop (length xs - 1) xs) i i no_value (length-take-le i xs (omega arith)) (omega arith)
      ∙ (get_or-drop (length xs - 1) xs (i - i) no_value ∙ ap (λ (j : ℕ). get_or xs j no_value) z)))

  swapped_other : (k : ℕ) → k ≢ i → k < length xs - 1 → get_or (swapped_out xs i) k no_value ≡ get_or xs k no_value
  swapped_other k ne l =
      let b = before_long in
      let t = length-take-le i xs (omega arith) in
      elim (cases_lt k i) [
        | inl q ↦
            swapped_read k l
            ∙ (get_or_append_left before (drop (i + 1) xs) no_value k (omega arith)
            ∙ (get_or_append_left (take i xs) (drop (length xs - 1) xs) no_value k (omega arith)
            ∙ get_or-take i xs k no_value q))
        | inr q ↦
            let z : i + 1 + (k - (i + 1)) ≡ k = elim (cases_lt i k) [ inl r ↦ omega arith | inr r ↦ absurd (ne (omega arith)) ] in
            let y : i + 1 ≤ k = elim (cases_lt i k) [ inl r ↦ omega arith | inr r ↦ absurd (ne (omega arith)) ] in
            swapped_read k l
            ∙ (get_or-append_right before (drop (i + 1) xs) (i + 1) k no_value b y
            ∙ (get_or-drop (i + 1) xs (k - (i + 1)) no_value ∙ ap (λ (j : ℕ). get_or xs j no_value) z))
      ]

-- the parameter at place n of block b taken out, the last in its place
module _ (g : Graph) (p : Seated g) (b : Block) (n : ℕ) (m : b.0 < g.blocks) (inside : n < length (params g b)) where
  abbrev final : Value
  final = last_of (params g b)

  -- an entry that is not the last keeps its definition
  not_last : (h : Home) (k : ℕ) → Made g h → k < length (members g h) → (h ≡ param_of b → k < length (params g b) - 1) →
      at (moved g.defs final n) (get_or (members g h) k no_value) ≡ at g.defs (get_or (members g h) k no_value)
  not_last h k o l f =
      at_other g.defs final (get_or (members g h) k no_value) (numbered n (at g.defs final)) (λ e.
      let z = places_differ g p h (param_of b) k (length (params g b) - 1) o m l (omega arith) e in
      let x = f z.0 in
      omega (arith, z.1))

  last_named : Names (moved g.defs final n) final (param_of b) n
  last_named =
      let a = p.named (param_of b) (length (params g b) - 1) m (omega arith) in (
        a.0,
        at_same g.defs final (numbered n (at g.defs final)) (member_known g p (param_of b) (length (params g b) - 1) m (omega arith))
            ∙ ap (numbered n) a.1,
      )

  swapped_seats : (ds : List ValueData) → length ds ≡ length g.defs → ((v : Value) → NamesMade g (at ds v)) →
      (n < length (params g b) - 1 → Names ds final (param_of b) n) →
      ((h : Home) (k : ℕ) → Made g h → k < length (members g h) → (h ≡ param_of b → k < length (params g b) - 1) →
      at ds (get_or (members g h) k no_value) ≡ at g.defs (get_or (members g h) k no_value)) →
      Seated (with_words (with_defs g ds) (swap_removed_at g.words (param_list g b) n))
  swapped_seats ds same homes new others =
      let z = p.sized.values_fit in
      reseated g ds (swap_removed_at g.words (param_list g b) n) (param_of b) (swapped_out (params g b) n) p m
      (swap_removed_at_only g.words (param_list g b) n) (omega arith) homes here
      (λ j k o ne l. others j k o l (λ e. absurd (ne e)))
    where
      here : (k : ℕ) → k < length (swapped_out (params g b) n) → Names ds (get_or (swapped_out (params g b) n) k no_value) (param_of b) k
      here k l =
          let r = swapped_length (params g b) n inside in
          let q : k < length (params g b) - 1 = omega arith in
          let x : k < length (params g b) = omega arith in
          elim (cases_eq k n) [
            | inr ne ↦ subst (λ (v : Value). Names ds v (param_of b) k) (sym (swapped_other (params g b) n inside k ne q))
                ((p.named (param_of b) k m x).0, others (param_of b) k m x (λ e. q) ∙ (p.named (param_of b) k m x).1)
            | inl e ↦
                let y : n < length (params g b) - 1 = omega arith in
                subst (λ (j : ℕ). Names ds (get_or (swapped_out (params g b) n) j no_value) (param_of b) j) (sym e)
                (subst (λ (v : Value). Names ds v (param_of b) n) (sym (swapped_here (params g b) n inside y)) (new y))
          ]

  pub seats_param_swap_removed : Seated (param_swap_removed g b n)
  seats_param_swap_removed =
      let test = ltb (n + 1) (length (params g b)) in
      elim (cases_Bool (ltb (n + 1) (length (params g b)))) [
        | inl t ↦ subst (λ (ds : List ValueData). Seated (with_words (with_defs g ds) (swap_removed_at g.words (param_list g b) n)))
            (sym (cond-true test (moved g.defs final n) g.defs t))
            (swapped_seats (moved g.defs final n) (length-set g.defs final.0 (numbered n (at g.defs final)))
            (after_setting (NamesMade g) g.defs (numbered n (at g.defs final)) p.homes
            (numbered_made g n (at g.defs final) (p.homes final)) final)
            (λ l. last_named) not_last)
        | inr f ↦ subst (λ (ds : List ValueData). Seated (with_words (with_defs g ds) (swap_removed_at g.words (param_list g b) n)))
            (sym (cond-false test (moved g.defs final n) g.defs f))
            (swapped_seats g.defs refl p.homes
            (λ l. let z = ltb-false (n + 1) (length (params g b)) f in absurd (omega arith)) (λ h k o l q. refl))
      ]
