-- What a refusal of the graph says: its number, the layer that gives it, and what was found.
use Rattle.std.specs.Prelude.{ℕ, ◌≤◌, Bool, cond, List, [], ◌∷◌, Some, None, Ok, Err, Option, Result}
use Rattle.std.proofs.Common.{rules}
use Rattle.ir.specs.declared.fault.Layer.TheVariants as layer
use Rattle.ir.specs.declared.fault.PackFault.TheVariants as pack
use Rattle.ir.specs.Refusals.{Refusal, refusal as packing-refusal}
use Rattle.store.specs.declared.parts.PoolFault.{PoolFault}
use Rattle.store.specs.declared.parts.PoolFault.TheVariants as pool
use Rattle.store.specs.Faults.{refusal as pool-refusal}
use Rattle.table.specs.declared.fault.TableFault.{TableFault}
use Rattle.table.specs.declared.fault.TableFault.TheVariants as table
use Rattle.table.specs.Refusals.{refusal as table-refusal}
use Rattle.model.specs.declared.fault.GraphFault.{GraphFault}
use Rattle.model.specs.declared.fault.GraphFault.TheVariants.{Unknown, Retired, Kind, Loose, Attached, Types, Loop, Count, Side, Twice, Full, Long, Packing, Pool, Table}

abbrev pub of_graph : ℕ → ℕ → Refusal
of_graph number detail = record { number = number; layer = layer.Graph; detail = detail }

abbrev pub refusal : GraphFault → Refusal
refusal (Unknown n) = of_graph 1 n
refusal (Retired v) = of_graph 2 v
refusal (Kind v) = of_graph 5 v
refusal (Loose v) = of_graph 6 v
refusal (Attached v) = of_graph 7 v
refusal (Types v) = of_graph 8 v
refusal (Loop v) = of_graph 9 v
refusal (Count n) = of_graph 10 n
refusal (Side v) = of_graph 11 v
refusal (Twice v) = of_graph 12 v
refusal (Full n) = of_graph 13 n
refusal Long = of_graph 15 65536
refusal (Packing f) = packing-refusal f
refusal (Pool f) = pool-refusal f
refusal (Table f) = table-refusal f

-- its number is a row's
pub is_numbered : (f : GraphFault) → (1 ≤ (refusal f).number) × ((refusal f).number ≤ 15)
is_numbered (Unknown n) = search rules
is_numbered (Retired v) = search rules
is_numbered (Kind v) = search rules
is_numbered (Loose v) = search rules
is_numbered (Attached v) = search rules
is_numbered (Types v) = search rules
is_numbered (Loop v) = search rules
is_numbered (Count n) = search rules
is_numbered (Side v) = search rules
is_numbered (Twice v) = search rules
is_numbered (Full n) = search rules
is_numbered Long = search rules
is_numbered (Packing (pack.Wide n)) = search rules
is_numbered (Packing (pack.Tag w)) = search rules
is_numbered (Pool (pool.Unknown n)) = search rules
is_numbered (Pool (pool.NoBlock n)) = search rules
is_numbered (Table (table.Unknown n)) = search rules
is_numbered (Table (table.Full n)) = search rules

-- A row of a call's refusals: nothing where its condition does not hold, else what is answered.
abbrev pub Row : Type 0
Row = Option GraphFault

abbrev pub when : Bool → GraphFault → Row
when b fault = cond b (Some fault) None

-- for the first of several arguments that the row fits
abbrev pub first_among : {A : Type 0} → (A → Bool) → (A → GraphFault) → List A → Row
first_among fits fault [] = None
first_among fits fault (x ∷ xs) = cond (fits x) (Some (fault x)) (first_among fits fault xs)

-- what a layer below refuses travels whole
abbrev pub by_pool : Option PoolFault → Row
by_pool None = None
by_pool (Some f) = Some (Pool f)

abbrev pub by_table : {A : Type 0} → Result A TableFault → Row
by_table (Ok a) = None
by_table (Err f) = Some (Table f)

-- The rows stand in the order of their numbers; the first that holds is given.
abbrev pub first : List Row → Row
first [] = None
first (None ∷ rows) = first rows
first (Some fault ∷ rows) = Some fault

-- what an edit comes to: an answer and what is afterwards, or a refusal, which changes nothing
pub data Outcome (A S : Type 0) : Type 0 where
  done : A → S → Outcome A S
  refused : GraphFault → Outcome A S

abbrev pub unless : {A S : Type 0} → Row → A → S → Outcome A S
unless None answer after = done answer after
unless (Some fault) answer after = refused fault

abbrev pub settle : {A S : Type 0} → List Row → A → S → Outcome A S
settle rows answer after = unless (first rows) answer after

-- an outcome as a call of the code has it
abbrev pub outcome : {A S : Type 0} → Result A GraphFault → S → Outcome A S
outcome (Ok answer) after = done answer after
outcome (Err fault) after = refused fault
