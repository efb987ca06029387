-- Edits as values, runs of them, and when two graphs are equal.
use Rattle.std.specs.Prelude.{◌≡◌, ℕ, ◌+◌, ◌*◌, ◌^◌, ◌<◌, ◌≤◌, List, [], ◌∷◌, length, replicate, Ok, Err, Option, Result, None}
use Rattle.ir.specs.declared.entities.Value.{Value}
use Rattle.ir.specs.declared.entities.Inst.{Inst as InstId}
use Rattle.ir.specs.declared.entities.Block.{Block}
use Rattle.ir.specs.declared.entities.Type.{«Type» as Ty}
use Rattle.ir.specs.declared.entities.Opcode.{Opcode}
use Rattle.ir.specs.declared.block_arg.BlockArg.{BlockArg}
use Rattle.store.specs.Bank.{fresh}
use Rattle.table.specs.Table.{count, row}
use Rattle.values.specs.Leads.{at}
use Rattle.model.specs.declared.fault.GraphFault.{GraphFault}
use Rattle.model.specs.Refusals.{Outcome, done, refused}
use Rattle.model.specs.State.{Graph, State, Entry, params, results, call, entry}
use Rattle.model.specs.Edits as edit
use Rattle.model.specs.Flattening as flattening

-- every edit, with its own lists, memory and renaming, which is any function
pub data Edit : Type 0 where
  make_block : Edit
  make_inst : Opcode → List Value → List Block → Edit
  make_inst_results : InstId → List Ty → List (Option Value) → Edit
  clear_results : InstId → Edit
  replace_result : Value → Ty → Edit
  replace_block_param : Value → Ty → Edit
  remove_block_param : Value → Edit
  swap_remove_block_param : Value → Edit
  append_block_param : Block → Ty → Edit
  attach_block_param : Block → Value → Edit
  detach_block_params : Block → List Value → Edit
  clone_inst : InstId → Edit
  append_argument : InstId → ℕ → BlockArg → Edit
  remove : InstId → ℕ → ℕ → Edit
  map_inst_values : InstId → (Value → Value) → Edit
  overwrite_inst_values : InstId → List Value → Edit
  change_to_alias : Value → Value → Edit
  replace_with_aliases : InstId → InstId → Edit
  union : Value → Value → Edit
  resolve_all_aliases : Edit
  set_label : Value → Entry → Edit

-- what an accepted edit answers; a detaching one also what the caller's memory then holds
pub data Answer : Type 0 where
  plain : Answer
  a_value : Value → Answer
  an_inst : InstId → Answer
  a_block : Block → Answer
  a_number : ℕ → Answer
  detached : ℕ → List Value → Answer

abbrev pub on_state : {A : Type 0} → (A → Answer) → Outcome A State → Outcome Answer State
on_state answer (done a s) = done (answer a) s
on_state answer (refused fault) = refused fault

abbrev pub on_graph : {A : Type 0} → State → (A → Answer) → Outcome A Graph → Outcome Answer State
on_graph s answer (done a g) = done (answer a) (record { graph = g; table = s.table })
on_graph s answer (refused fault) = refused fault

abbrev pub is_plain : Unit {0} → Answer
is_plain u = plain

abbrev pub is_detached : ℕ × List Value → Answer
is_detached p = detached p.0 p.1

abbrev pub does : Edit → State → Outcome Answer State
does make_block s = on_graph s a_block (edit.make_block s.graph)
does (make_inst op os ts) s = on_state an_inst (edit.make_inst op os ts s)
does (make_inst_results i ts reuse) s = on_graph s a_number (edit.make_inst_results i ts reuse s.graph)
does (clear_results i) s = on_graph s is_plain (edit.clear_results i s.graph)
does (replace_result v ty) s = on_graph s a_value (edit.replace_result v ty s.graph)
does (replace_block_param v ty) s = on_graph s a_value (edit.replace_block_param v ty s.graph)
does (remove_block_param v) s = on_graph s is_plain (edit.remove_block_param v s.graph)
does (swap_remove_block_param v) s = on_graph s a_number (edit.swap_remove_block_param v s.graph)
does (append_block_param b ty) s = on_graph s a_value (edit.append_block_param b ty s.graph)
does (attach_block_param b v) s = on_graph s is_plain (edit.attach_block_param b v s.graph)
does (detach_block_params b out) s = on_graph s is_detached (edit.detach_block_params b out s.graph)
does (clone_inst i) s = on_state an_inst (edit.clone_inst i s)
does (append_argument i j arg) s = on_graph s is_plain (edit.append_argument i j arg s.graph)
does (remove i j k) s = on_graph s is_plain (edit.remove i j k s.graph)
does (map_inst_values i f) s = on_state is_plain (edit.map_inst_values i f s)
does (overwrite_inst_values i vs) s = on_state is_plain (edit.overwrite_inst_values i vs s)
does (change_to_alias d v) s = on_graph s is_plain (edit.change_to_alias d v s.graph)
does (replace_with_aliases d i) s = on_graph s is_plain (edit.replace_with_aliases d i s.graph)
does (union x y) s = on_graph s a_value (edit.union x y s.graph)
does resolve_all_aliases s = on_state is_plain (flattening.resolve_all_aliases s)
does (set_label v e) s = on_graph s is_plain (edit.set_label v e s.graph)

-- One edit: accepted, it answers and changes the state; refused, it says why and changes nothing.
pub data Steps : State → Edit → Result Answer GraphFault → State → Type 0 where
  accepted : {s t : State} {e : Edit} {a : Answer} → does e s ≡ done a t → Steps s e (Ok a) t
  declined : {s : State} {e : Edit} {f : GraphFault} → does e s ≡ refused f → Steps s e (Err f) s

-- a run of edits, one after another, refused ones counted, with their answers
pub data Runs : State → List Edit → List (Result Answer GraphFault) → State → Type 0 where
  nothing : {s : State} → Runs s [] [] s
  next : {s t u : State} {e : Edit} {r : Result Answer GraphFault} {es : List Edit} {rs : List (Result Answer GraphFault)} →
      Steps s e r t → Runs t es rs u → Runs s (e ∷ es) (r ∷ rs) u

-- a new graph and a new table: empty, with limits
pub record New (s : State) : Type 0 where
  pub no_values : s.graph.defs ≡ []
  pub no_blocks : s.graph.blocks ≡ 0
  pub no_insts : s.graph.insts ≡ 0
  pub lists : ℕ
  pub cells : ℕ
  pub empty_words : s.graph.words ≡ fresh lists cells
  pub lists_enough : s.graph.limits.blocks + 3 * s.graph.limits.insts ≤ lists
  pub no_labels : s.graph.labels ≡ replicate s.graph.limits.values None
  pub start_lists : ℕ
  pub start_cells : ℕ
  pub empty_starts : s.graph.starts ≡ fresh start_lists start_cells
  pub start_lists_enough : s.graph.limits.values ≤ start_lists
  pub values_small : s.graph.limits.values ≤ 2 ^ 30
  pub blocks_small : s.graph.limits.blocks ≤ 2 ^ 30
  pub insts_small : s.graph.limits.insts ≤ 2 ^ 30
  pub no_rows : s.table.rows ≡ []

-- some run of edits leads from a new graph and a new table to it
pub record Reached (t : State) : Type 0 where
  pub start : State
  pub new : New start
  pub edits : List Edit
  pub answers : List (Result Answer GraphFault)
  pub runs : Runs start edits answers t

-- Graphs are equal when as many values, instructions and blocks exist and at each number definitions, result and
-- parameter lists, opcodes, operands, calls and labels agree. Limits and what the pools have left are not compared.
pub record Equal (s t : State) : Type 0 where
  pub values : length s.graph.defs ≡ length t.graph.defs
  pub blocks : s.graph.blocks ≡ t.graph.blocks
  pub insts : s.graph.insts ≡ t.graph.insts
  pub rows : count s.table ≡ count t.table
  pub defs : (v : Value) → at s.graph.defs v ≡ at t.graph.defs v
  pub params : (b : Block) → b.0 < s.graph.blocks → params s.graph b ≡ params t.graph b
  pub results : (i : InstId) → i.0 < s.graph.insts → results s.graph i ≡ results t.graph i
  pub calls : (i : InstId) (j : ℕ) → i.0 < s.graph.insts → j < 2 → call s.graph i j ≡ call t.graph i j
  pub instructions : (i : ℕ) → row s.table i ≡ row t.table i
  pub labels : (v : Value) → v.0 < length s.graph.defs → entry s.graph v ≡ entry t.graph v
