-- What every edit keeps. The laws over runs follow from it.
use Rattle.std.proofs.Common.{◌≡◌, ℕ, ◌+◌, ◌*◌, ◌^◌, ◌<◌, ◌≤◌, length, get_or}
use Rattle.ir.specs.declared.entities.Value.{Value}
use Rattle.ir.specs.declared.entities.Inst.{Inst as InstId}
use Rattle.ir.specs.declared.entities.Block.{Block}
use Rattle.ir.specs.declared.entities.Type.{«Type» as Ty}
use Rattle.ir.specs.declared.value_data.ValueData.TheVariants.{Inst, Param}
use Rattle.store.specs.Bank.{nothing}
use Rattle.table.specs.Table.{count}
use Rattle.values.specs.Leads.{at}
use Rattle.model.specs.State.{Graph, State}
use Rattle.model.specs.Laws.{AliasesLeadHome, ListsAreNamed, UsesAreAlive}

-- counts stand within limits, and there is a list for everything that may be made
pub record Sized (g : Graph) : Type 0 where
  pub values_fit : length g.defs ≤ g.limits.values
  pub values_small : g.limits.values ≤ 2 ^ 30
  pub blocks_fit : g.blocks ≤ g.limits.blocks
  pub insts_fit : g.insts ≤ g.limits.insts
  pub lists_enough : g.limits.blocks + 3 * g.limits.insts ≤ length g.words.lists
  pub labels_enough : length g.labels ≡ g.limits.values
  pub start_lists_enough : g.limits.values ≤ length g.starts.lists

-- the instruction or block that a definition names exists
pub record HomesExist (g : Graph) : Type 0 where
  pub of_result : (v : Value) (ty : Ty) (n : ℕ) (i : InstId) → at g.defs v ≡ Inst ty n i → i.0 < g.insts
  pub of_param : (v : Value) (ty : Ty) (n : ℕ) (b : Block) → at g.defs v ≡ Param ty n b → b.0 < g.blocks

-- the lists of what is not made yet are empty and have no block
pub record SpareLists (g : Graph) : Type 0 where
  pub of_blocks : (l : ℕ) → g.blocks ≤ l → l < g.limits.blocks → get_or g.words.lists l nothing ≡ nothing
  pub of_insts : (l : ℕ) → g.limits.blocks + 3 * g.insts ≤ l → get_or g.words.lists l nothing ≡ nothing

pub record Good (s : State) : Type 0 where
  pub sized : Sized s.graph
  pub homes : HomesExist s.graph
  pub spare : SpareLists s.graph
  pub home : AliasesLeadHome s
  pub named : ListsAreNamed s
  pub alive : UsesAreAlive s
  pub counts : s.graph.insts ≡ count s.table
