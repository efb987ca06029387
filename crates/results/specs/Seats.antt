-- The values that results are made of: each place takes the one to reuse, or a new one.
use Rattle.std.specs.Prelude.{◌≡◌, ℕ, suc, ◌+◌, ◌*◌, ◌<◌, ◌≤◌, List, [], ◌∷◌, length, slice_index_or, Some, None, Option}
use Rattle.ir.specs.declared.entities.Value.{Value}
use Rattle.ir.specs.declared.entities.Inst.{Inst}
use Rattle.ir.specs.declared.entities.Type.{«Type» as Ty}
use Rattle.ir.specs.declared.value_data.ValueData.{ValueData}
use Rattle.store.specs.Units.{units}
use Rattle.store.specs.Bank.{class_of, holding, items_of}
use Rattle.values.specs.Leads.{Exists}
use Rattle.model.specs.declared.fault.GraphFault.TheVariants.{Twice}
use Rattle.model.specs.Refusals.{Row, when}
use Rattle.model.specs.State.{Graph, value}
use Rattle.model.specs.Edits.{among, reused, seated, seats, values_full, with_defs, with_words}

-- the row of one entry: a later one names its value again
abbrev pub named_again : Option Value → List (Option Value) → Row
named_again None later = None
named_again (Some v) later = when (among v (reused later)) (Twice v.0)

-- the value of one place, where so many exist
abbrev pub seat_of : ℕ → Option Value → Value
seat_of next None = value next
seat_of next (Some v) = v

-- a value to reuse exists
abbrev pub Known : List ValueData → Option Value → Type 0
Known ds None = Unit {0}
Known ds (Some v) = Exists ds v

-- and of one that is new there is room
abbrev pub Open : Graph → Option Value → Type 0
Open g None = values_full g 1 ≡ None
Open g (Some v) = Exists g.defs v

-- how many new values there will be
abbrev pub news : List Ty → List (Option Value) → ℕ
news [] us = 0
news (t ∷ ts) [] = suc (news ts [])
news (t ∷ ts) (None ∷ us) = suc (news ts us)
news (t ∷ ts) (Some v ∷ us) = news ts us

-- Nothing stands in the way of results of types ts in list l, which is empty: its block holds them, and there is room
-- for the new ones among them.
pub record Seatable (g : Graph) (l : ℕ) (ts : List Ty) (us : List (Option Value)) : Type 0 where
  pub list : l < length g.words.lists
  pub empty : items_of g.words l ≡ []
  pub block : length ts ≤ 4 * units (class_of g.words l)
  pub short : length ts ≤ 65536
  pub narrow : (k : ℕ) → k < length ts → (slice_index_or ts k (record { 0 = 0 })).0 < 16384
  pub known : (k : ℕ) → k < length ts → Known g.defs (slice_index_or us k None)
  pub room : length g.defs + news ts us ≤ g.limits.values

-- they stand there
abbrev pub seated_in : Graph → Inst → ℕ → List Ty → List (Option Value) → Graph
seated_in g i l ts us =
    with_words (with_defs g (seated i 0 ts (seats (length g.defs) ts us) g.defs))
    (holding g.words l (seats (length g.defs) ts us) (class_of g.words l))
