-- What holds of every state that edits alone reach from a new graph and a new table, whatever edits these were, in any
-- order and number, refused ones counted. The statements are about the definitions that every edit's contract cites.
use Rattle.std.specs.Prelude.{◌≡◌, ℕ, ◌<◌, ◌≢◌, ◌⊎◌, ◌↔◌, List, [], ◌∷◌, length, take, Some, None, slice_index_or}
use mathlib.Core.List.{Permᴰ}
use Rattle.ir.specs.declared.entities.Value.{Value}
use Rattle.ir.specs.declared.entities.Inst.{Inst as InstId}
use Rattle.ir.specs.declared.entities.Block.{Block}
use Rattle.ir.specs.declared.entities.Type.{«Type» as Ty}
use Rattle.ir.specs.declared.value_data.ValueData.{ValueData}
use Rattle.ir.specs.declared.value_data.ValueData.TheVariants.{Inst, Param, Union}
use Rattle.ir.specs.Packing.{type, retired_mark}
use Rattle.table.specs.Table.{count, row, operands}
use Rattle.values.specs.Leads.{at, Exists, Retired, LiveAlias, NonAlias, Leads}
use Rattle.model.specs.declared.fault.GraphFault.{GraphFault}
use Rattle.model.specs.declared.labels.Start.{Start}
use Rattle.model.specs.Refusals.{done, refused}
use Rattle.model.specs.State.{State, starts, alias, params, results, call, arguments, value_argument, entry, no_value}
use Rattle.model.specs.Runs.{does, plain, change_to_alias, resolve_all_aliases, Reached, Equal}

-- Aliases lead home: each live alias leads, through fewer aliases than there are values, to a non-alias of its type.
abbrev pub AliasesLeadHome : State → Type 0
AliasesLeadHome s =
    (v original : Value) → LiveAlias s.graph.defs v original →
    (r : Value) × (n : ℕ) × Leads s.graph.defs v r n × (n < length s.graph.defs) × NonAlias s.graph.defs r
    × (type (at s.graph.defs r) ≡ type (at s.graph.defs v))

-- Lists are named by their members: the definition of each entry of a result or parameter list names that list and place.
pub record ListsAreNamed (s : State) : Type 0 where
  pub by_results : (i : InstId) (k : ℕ) → i.0 < s.graph.insts → k < length (results s.graph i) →
      (ty : Ty) × (at s.graph.defs (slice_index_or (results s.graph i) k no_value) ≡ Inst ty k i)
  pub by_params : (b : Block) (k : ℕ) → b.0 < s.graph.blocks → k < length (params s.graph b) →
      (ty : Ty) × (at s.graph.defs (slice_index_or (params s.graph b) k no_value) ≡ Param ty k b)

-- a value that may be used: it exists and is not retired
abbrev pub Usable : List ValueData → Value → Type 0
Usable ds v = Exists ds v × (Retired ds v → ⊥)

-- Uses are alive: operands, value arguments, union sides and label targets exist and are not retired.
pub record UsesAreAlive (s : State) : Type 0 where
  pub operands_are : (i k : ℕ) → i < count s.table → k < length (operands s.table i) →
      Usable s.graph.defs (slice_index_or (operands s.table i) k no_value)
  pub arguments_are : (i : InstId) (j k : ℕ) (v : Value) → i.0 < s.graph.insts → j < 2 →
      k < length (arguments s.graph i j) → value_argument (slice_index_or (arguments s.graph i j) k no_value) ≡ Some v →
      Usable s.graph.defs v
  pub sides_are : (v x y : Value) (ty : Ty) → at s.graph.defs v ≡ Union ty x y →
      Usable s.graph.defs x × Usable s.graph.defs y
  pub targets_are : (v target : Value) (from : ℕ) → Exists s.graph.defs v →
      entry s.graph v ≡ Some (alias from target) → Usable s.graph.defs target

-- a union has a live alias as a side
pub record AliasAsSide (s : State) : Type 0 where
  pub union : Value
  pub x : Value
  pub y : Value
  pub ty : Ty
  pub is_union : at s.graph.defs union ≡ Union ty x y
  pub original : Value
  pub is_alias : LiveAlias s.graph.defs x original ⊎ LiveAlias s.graph.defs y original

-- What flattening makes of s: each operand, value argument and kept label target becomes what it led to; exactly the live
-- aliases are retired, and exactly their labels dropped; everything else that makes graphs equal stays, target blocks
-- and marked arguments included.
pub record Flattened (s t : State) : Type 0 where
  pub as_many_values : length t.graph.defs ≡ length s.graph.defs
  pub as_many_blocks : t.graph.blocks ≡ s.graph.blocks
  pub as_many_insts : t.graph.insts ≡ s.graph.insts
  pub as_many_rows : count t.table ≡ count s.table
  pub aliases_retired : (v original : Value) → LiveAlias s.graph.defs v original → at t.graph.defs v ≡ retired_mark
  pub others_kept : (v : Value) → ((original : Value) → LiveAlias s.graph.defs v original → ⊥) →
      at t.graph.defs v ≡ at s.graph.defs v
  pub params_kept : (b : Block) → b.0 < s.graph.blocks → params t.graph b ≡ params s.graph b
  pub results_kept : (i : InstId) → i.0 < s.graph.insts → results t.graph i ≡ results s.graph i
  pub opcodes_kept : (i : ℕ) → (row t.table i).opcode ≡ (row s.table i).opcode
  pub as_many_operands : (i : ℕ) → length (operands t.table i) ≡ length (operands s.table i)
  pub operands_led : (i k : ℕ) → i < count s.table → k < length (operands s.table i) →
      (n : ℕ) × Leads s.graph.defs (slice_index_or (operands s.table i) k no_value) (slice_index_or (operands t.table i) k no_value) n
  pub targets_kept : (i : InstId) (j : ℕ) → i.0 < s.graph.insts → j < 2 →
      take 1 (call t.graph i j) ≡ take 1 (call s.graph i j)
  pub as_many_arguments : (i : InstId) (j : ℕ) → i.0 < s.graph.insts → j < 2 →
      length (arguments t.graph i j) ≡ length (arguments s.graph i j)
  pub arguments_led : (i : InstId) (j k : ℕ) (v : Value) → i.0 < s.graph.insts → j < 2 →
      k < length (arguments s.graph i j) → value_argument (slice_index_or (arguments s.graph i j) k no_value) ≡ Some v →
      (r : Value) × (n : ℕ) × (value_argument (slice_index_or (arguments t.graph i j) k no_value) ≡ Some r) × Leads s.graph.defs v r n
  pub marked_kept : (i : InstId) (j k : ℕ) → i.0 < s.graph.insts → j < 2 →
      k < length (arguments s.graph i j) → value_argument (slice_index_or (arguments s.graph i j) k no_value) ≡ None →
      slice_index_or (arguments t.graph i j) k no_value ≡ slice_index_or (arguments s.graph i j) k no_value
  pub labels_dropped : (v original : Value) → LiveAlias s.graph.defs v original → entry t.graph v ≡ None
  pub unlabelled_kept : (v : Value) → Exists s.graph.defs v → entry s.graph v ≡ None → entry t.graph v ≡ None
  pub starts_kept : (v : Value) (ss : List Start) → Exists s.graph.defs v →
      ((original : Value) → LiveAlias s.graph.defs v original → ⊥) →
      entry s.graph v ≡ Some (starts ss) → entry t.graph v ≡ Some (starts ss)
  pub targets_led : (v target : Value) (from : ℕ) → Exists s.graph.defs v →
      ((original : Value) → LiveAlias s.graph.defs v original → ⊥) → entry s.graph v ≡ Some (alias from target) →
      (r : Value) × (n : ℕ) × (entry t.graph v ≡ Some (alias from r)) × Leads s.graph.defs target r n

-- Flattening is refused exactly when a union has a live alias as a side, and else does what it should.
pub record FlatteningLaw (s : State) : Type 0 where
  pub refused_exactly : ((f : GraphFault) × (does resolve_all_aliases s ≡ refused f)) ↔ AliasAsSide s
  pub flattens : (t : State) → does resolve_all_aliases s ≡ done plain t → Flattened s t

-- one change_to_alias
pub record Aliasing : Type 0 where
  pub dest : Value
  pub source : Value

-- accepted, one after another
pub data Accepted : State → List Aliasing → State → Type 0 where
  none : {s : State} → Accepted s [] s
  more : {s t u : State} {a : Aliasing} {rest : List Aliasing} →
      does (change_to_alias a.dest a.source) s ≡ done plain t → Accepted t rest u → Accepted s (a ∷ rest) u

abbrev pub Away : Value → List Aliasing → Type 0
Away d [] = Unit {0}
Away d (a ∷ rest) = (a.dest ≢ d) × Away d rest

abbrev pub DestsDiffer : List Aliasing → Type 0
DestsDiffer [] = Unit {0}
DestsDiffer (a ∷ rest) = Away a.dest rest × DestsDiffer rest

abbrev pub NoDestIsAlias : State → List Aliasing → Type 0
NoDestIsAlias s [] = Unit {0}
NoDestIsAlias s (a ∷ rest) = ((original : Value) → LiveAlias s.graph.defs a.dest original → ⊥) × NoDestIsAlias s rest

-- flattening both gives the same refusal, or equal graphs
pub data FlattenAlike (s t : State) : Type 0 where
  both_refused : (f : GraphFault) → does resolve_all_aliases s ≡ refused f → does resolve_all_aliases t ≡ refused f →
      FlattenAlike s t
  both_equal : (u v : State) → does resolve_all_aliases s ≡ done plain u → does resolve_all_aliases t ≡ done plain v →
      Equal u v → FlattenAlike s t

-- Order does not matter: accepted aliasings in a row with different destinations, none an alias before the first, are
-- accepted in every order from the state before the first, and flattening after each order gives the same refusal or
-- equal graphs.
abbrev pub OrderDoesNotMatter : State → Type 0
OrderDoesNotMatter s =
    (es fs : List Aliasing) (t : State) → Accepted s es t → DestsDiffer es → NoDestIsAlias s es → Permᴰ es fs →
    (u : State) × Accepted s fs u × FlattenAlike t u

-- all laws of a state
pub record Lawful (s : State) : Type 0 where
  pub aliases_lead_home : AliasesLeadHome s
  pub lists_are_named : ListsAreNamed s
  pub uses_are_alive : UsesAreAlive s
  pub flattening : FlatteningLaw s
  pub order_does_not_matter : OrderDoesNotMatter s

abbrev pub LawsOverRuns : Type 0
LawsOverRuns = (s : State) → Reached s → Lawful s
