-- The functions that the two renamings are.
use Rattle.std.specs.Prelude.{◌≡◌, ℕ, ◌≢◌, List, ◌∷◌, ◌++◌, Option, ◌==◌, All, find}
use Rattle.std.specs.Option.{option_map_or, unwrap_or}
use Rattle.ir.specs.declared.entities.Value.{Value}
use Rattle.ir.specs.declared.value_data.ValueData.{ValueData}
use Rattle.values.specs.Leads.{Leads, LeadsNowhere, leads_to}
use Rattle.renaming.specs.declared.pairs.Pair.{Pair}

-- the first pair for v
abbrev pub first_for : List Pair → Value → Option Pair
first_for ps v = find (λ p. p.from.0 == v.0) ps

-- by the first pair that fits; other values stay
abbrev pub first_fit : List Pair → Value → Value
first_fit ps v = option_map_or (λ p. p.to) (first_for ps v) v

-- what a value leads to, or the value where it leads nowhere
abbrev pub end_of : List ValueData → Value → Value
end_of vs v = unwrap_or (leads_to vs v) v

-- no pair of the list is for v
abbrev pub NoFit : List Pair → Value → Type 0
NoFit ps v = All (λ p. p.from ≢ v) ps

-- whatever stands behind the first pair for v does not matter
abbrev pub FirstFits : Type 0
FirstFits = (before after : List Pair) (p : Pair) → NoFit before p.from → first_fit (before ++ p ∷ after) p.from ≡ p.to

abbrev pub NoneFits : Type 0
NoneFits = (ps : List Pair) (v : Value) → NoFit ps v → first_fit ps v ≡ v

abbrev pub EndReached : Type 0
EndReached = (vs : List ValueData) (v r : Value) (n : ℕ) → Leads vs v r n → end_of vs v ≡ r

abbrev pub StaysPut : Type 0
StaysPut = (vs : List ValueData) (v : Value) → LeadsNowhere vs v → end_of vs v ≡ v
