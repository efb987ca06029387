-- The first definitions of a memory.
use Rattle.std.specs.Prelude.{◌≡◌, ℕ, ◌+◌, ◌<◌, ◌≤◌, List, [], ◌∷◌, ◌++◌, length, take, slice_set, All}
use Rattle.ir.specs.declared.value_data.ValueData.{ValueData}
use Rattle.ir.specs.declared.value_data.ValueDataPacked.{ValueDataPacked}
use Rattle.values.specs.Defs.{definitions, stored, Canonical}

-- the first n definitions of a memory
unfoldable pub listed : ℕ → List ValueDataPacked → List ValueData
listed n ps = definitions (take n ps)

-- the first n entries are canonical
abbrev pub Canonicals : ℕ → List ValueDataPacked → Type 0
Canonicals n ps = All Canonical (take n ps)

-- One definition written into memory: what that is to the first n definitions, with the place among them or behind
-- them.
pub record Put (before after : List ValueDataPacked) (place : ℕ) (d : ValueData) : Type 0 where
  pub memory : after ≡ slice_set before place (stored d)
  pub within : (n : ℕ) → place < n → listed n after ≡ slice_set (listed n before) place d
  pub behind : listed (place + 1) after ≡ listed place before ++ d ∷ []
  pub long : (n : ℕ) → n ≤ length before → length (listed n after) ≡ n
  pub canonical_within : (n : ℕ) → place < n → Canonicals n before → Canonicals n after
  pub canonical_behind : Canonicals place before → Canonicals (place + 1) after
