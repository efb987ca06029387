-- Where an attached value stands.
use Rattle.std.proofs.Common.{◌≡◌, ℕ, ◌<◌, true, false, not, eqb, ltb, length, get_or, sym, ap, subst, inl, inr, arith}
use Rattle.std.proofs.lemmas.List.{get_or_past}
use Rattle.std.proofs.lemmas.Bool.{and_parts, ltb-true, not-false, cases_lt}
use Rattle.ir.specs.declared.entities.Value.{Value}
use Rattle.ir.specs.declared.value_data.ValueData.{ValueData}
use Rattle.ir.specs.declared.value_data.ValueData.TheVariants.{Inst, Param, Alias, Union}
use Rattle.store.specs.Bank.{Bank, Owned, items_of, nothing}
use Rattle.values.specs.Leads.{at}
use Rattle.model.specs.State.{Graph, holds, attached, attached_by, no_value, param_list, result_list}
use Rattle.model.specs.Edits.{block_of, inst_of, is_param, is_result, number}

-- a list that holds something has that place, and is a list
pub record Within (b : Bank Value) (l n : ℕ) : Type 0 where
  pub list : l < length b.lists
  pub place : n < length (items_of b l)

place_within : (b : Bank Value) (l n : ℕ) → n < length (items_of b l) → Within b l n
place_within b l n h = elim (cases_lt l (length b.lists)) [
  | inl k ↦ record { list = k; place = h }
  | inr k ↦ let e : length (items_of b l) ≡ 0 = ap (λ (o : Owned Value). length o.items) (get_or_past b.lists l nothing k) in absurd (omega arith)
]

pub holds_within : (b : Bank Value) (l n : ℕ) (v : Value) → holds (items_of b l) n v ≡ true → Within b l n
holds_within b l n v e =
    place_within b l n (ltb-true n (length (items_of b l)) (and_parts (ltb n (length (items_of b l))) (eqb (get_or (items_of b l) n no_value).0 v.0) e).0)

-- an attached parameter, and an attached result
param_by : (g : Graph) (v : Value) (d : ValueData) → is_param d ≡ true → attached_by g v d ≡ true → Within g.words (param_list g (block_of d)) (number d)
param_by g v (Inst ty n i) k e = let z : ◌≡◌ {A = ℕ} 0 1 = cc in absurd (omega arith)
param_by g v (Param ty n b) k e = holds_within g.words (param_list g b) n v e
param_by g v (Alias ty o) k e = let z : ◌≡◌ {A = ℕ} 0 1 = cc in absurd (omega arith)
param_by g v (Union ty x y) k e = let z : ◌≡◌ {A = ℕ} 0 1 = cc in absurd (omega arith)

pub attached_param : (g : Graph) (v : Value) → not (is_param (at g.defs v)) ≡ false → not (attached g v) ≡ false →
    Within g.words (param_list g (block_of (at g.defs v))) (number (at g.defs v))
attached_param g v k e =
    param_by g v (at g.defs v) (not-false (is_param (at g.defs v)) k) (not-false (attached g v) e)

result_by : (g : Graph) (v : Value) (d : ValueData) → is_result d ≡ true → attached_by g v d ≡ true → Within g.words (result_list g (inst_of d)) (number d)
result_by g v (Inst ty n i) k e = holds_within g.words (result_list g i) n v e
result_by g v (Param ty n b) k e = let z : ◌≡◌ {A = ℕ} 0 1 = cc in absurd (omega arith)
result_by g v (Alias ty o) k e = let z : ◌≡◌ {A = ℕ} 0 1 = cc in absurd (omega arith)
result_by g v (Union ty x y) k e = let z : ◌≡◌ {A = ℕ} 0 1 = cc in absurd (omega arith)

pub attached_result : (g : Graph) (v : Value) → not (is_result (at g.defs v)) ≡ false → not (attached g v) ≡ false →
    Within g.words (result_list g (inst_of (at g.defs v))) (number (at g.defs v))
attached_result g v k e =
    result_by g v (at g.defs v) (not-false (is_result (at g.defs v)) k) (not-false (attached g v) e)

-- where the words have not changed, so it stands still
pub within_still : (g h : Graph) (l n : ℕ) → h.words ≡ g.words → Within g.words l n → Within h.words l n
within_still g h l n e w = subst (λ (b : Bank Value). Within b l n) (sym e) w
