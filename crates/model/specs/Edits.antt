-- What each edit does, and when it is refused: its rows stand in the order of their numbers.
use Rattle.std.specs.Prelude.{ℕ, ◌+◌, ◌-◌, min, Bool, false, cond, not, ◌&&◌, ◌||◌, nat_le, List, [], ◌∷◌, ◌++◌, map, length, take, drop, Some, None, Ok, Err, Option, Result, ◌==◌, nat_lt, slice_index_or, slice_set}
use Rattle.std.specs.Option.{is_some}
use Rattle.ir.specs.declared.entities.Value.{Value}
use Rattle.ir.specs.declared.entities.Inst.{Inst as InstId}
use Rattle.ir.specs.declared.entities.Block.{Block}
use Rattle.ir.specs.declared.entities.Type.{«Type» as Ty}
use Rattle.ir.specs.declared.entities.Opcode.{Opcode}
use Rattle.ir.specs.declared.value_data.ValueData.{ValueData}
use Rattle.ir.specs.declared.value_data.ValueData.TheVariants.{Inst, Param, Alias, Union}
use Rattle.ir.specs.declared.block_arg.BlockArg.{BlockArg}
use Rattle.ir.specs.declared.fault.PackFault.{PackFault}
use Rattle.ir.specs.declared.fault.PackFault.TheVariants.{Wide}
use Rattle.ir.specs.Packing.{type, retired}
use Rattle.ir.specs.Definitions.{param_of, result_of}
use Rattle.ir.specs.Arguments.{encoded, value_of}
use Rattle.store.specs.Bank.{Bank, items_of, class_of, holding, pushed, changed, removed_at, swap_removed_at, cleared, written, copied, fault_push, fault_write, fault_for}
use Rattle.table.specs.Table.{Table, count, row, operands, add_answer, add_table, copy_answer, copy_table}
use Rattle.values.specs.Leads.{at}
use Rattle.renaming.specs.Renames.{end_of}
use Rattle.model.specs.declared.fault.GraphFault.TheVariants.{Unknown, Retired, Kind, Loose, Attached, Types, Loop, Count, Twice, Full, Long, Packing}
use Rattle.model.specs.declared.labels.Start.{Start}
use Rattle.model.specs.declared.labels.Label.{Label}
use Rattle.model.specs.declared.labels.Label.TheVariants as label
use Rattle.model.specs.Refusals.{Row, when, first_among, by_pool, by_table, Outcome, settle}
use Rattle.model.specs.State.{Graph, State, Entry, starts, alias, value, inst, block, param_list, result_list, call_list, params, results, call, has_call, arguments, value_argument, values_in, inst_values, attached, no_value}

-- a graph with other parts
abbrev pub with_defs : Graph → List ValueData → Graph
with_defs g ds = record { defs = ds; blocks = g.blocks; insts = g.insts; words = g.words; labels = g.labels; starts = g.starts; limits = g.limits }

abbrev pub with_words : Graph → Bank Value → Graph
with_words g b = record { defs = g.defs; blocks = g.blocks; insts = g.insts; words = b; labels = g.labels; starts = g.starts; limits = g.limits }

abbrev pub with_inst : Graph → Graph
with_inst g = record { defs = g.defs; blocks = g.blocks; insts = g.insts + 1; words = g.words; labels = g.labels; starts = g.starts; limits = g.limits }

-- the rows that many edits share
abbrev pub unknown_values : Graph → List Value → Row
unknown_values g vs = first_among (λ v. nat_le (length g.defs) v.0) (λ v. Unknown v.0) vs

abbrev pub retired_values : Graph → List Value → Row
retired_values g vs = first_among (λ v. retired (at g.defs v)) (λ v. Retired v.0) vs

abbrev pub unknown_inst : Graph → InstId → Row
unknown_inst g i = when (nat_le g.insts i.0) (Unknown i.0)

abbrev pub unknown_block : Graph → Block → Row
unknown_block g b = when (nat_le g.blocks b.0) (Unknown b.0)

abbrev pub wide_type : Ty → Row
wide_type ty = when (nat_le 16384 ty.0) (Packing (Wide ty.0))

-- the graph's and the table's counts differ
abbrev pub counts_differ : State → Row
counts_differ s = when (not (s.graph.insts == count s.table)) (Count (count s.table))

-- n values more
abbrev pub values_full : Graph → ℕ → Row
values_full g n = when (nat_lt g.limits.values (length g.defs + n)) (Full g.limits.values)

abbrev pub insts_full : Graph → Row
insts_full g = when (nat_le g.limits.insts g.insts) (Full g.limits.insts)

-- a list that stands at 65,536
abbrev pub long : List Value → Row
long vs = when (nat_le 65536 (length vs)) Long

-- what a definition says of where its value stands
abbrev pub is_result : ValueData → Bool
is_result d = is_some (result_of d)

abbrev pub is_param : ValueData → Bool
is_param d = is_some (param_of d)

abbrev pub number : ValueData → ℕ
number (Inst ty n i) = n
number (Param ty n b) = n
number (Alias ty original) = 0
number (Union ty x y) = 0

abbrev pub inst_of : ValueData → InstId
inst_of (Inst ty n i) = i
inst_of (Param ty n b) = inst 0
inst_of (Alias ty original) = inst 0
inst_of (Union ty x y) = inst 0

abbrev pub block_of : ValueData → Block
block_of (Inst ty n i) = block 0
block_of (Param ty n b) = b
block_of (Alias ty original) = block 0
block_of (Union ty x y) = block 0

-- make_block
abbrev pub make_block : Graph → Outcome Block Graph
make_block g =
    settle (when (nat_le g.limits.blocks g.blocks) (Full g.limits.blocks) ∷ []) (block g.blocks)
    (record { defs = g.defs; blocks = g.blocks + 1; insts = g.insts; words = g.words; labels = g.labels; starts = g.starts; limits = g.limits })

-- make_inst: one call for each target, its first word; a number of targets past 32 bits is told as the last that fits
abbrev pub aimed : Graph → InstId → ℕ → List Block → Bank Value → Bank Value
aimed g i j [] b = b
aimed g i j (t ∷ ts) b = aimed g i (j + 1) ts (written b (call_list g i j) (value t.0 ∷ []))

abbrev pub make_inst_rows : State → List Value → List Block → List Row
make_inst_rows s os ts =
    unknown_values s.graph os
    ∷ first_among (λ t. nat_le s.graph.blocks t.0) (λ t. Unknown t.0) ts
    ∷ retired_values s.graph os
    ∷ counts_differ s
    ∷ when (nat_lt 2 (length ts)) (Count (min (length ts) 4294967295))
    ∷ insts_full s.graph
    ∷ by_table (add_answer s.table (length os))
    ∷ by_pool (fault_for s.graph.words (map (λ t. 1) ts))
    ∷ []

abbrev pub make_inst : Opcode → List Value → List Block → State → Outcome InstId State
make_inst op os ts s =
    settle (make_inst_rows s os ts) (inst s.graph.insts)
    (record {
      graph = with_inst (with_words s.graph (aimed s.graph (inst s.graph.insts) 0 ts s.graph.words));
      table = add_table s.table op os;
    })

-- v defined as d: a new value stands last, another one changes
abbrev pub defined : List ValueData → Value → ValueData → List ValueData
defined ds v d = cond (nat_lt v.0 (length ds)) (slice_set ds v.0 d) (ds ++ d ∷ [])

-- the value at each place of a list of results: the one to reuse, or the next new one
abbrev pub seats : ℕ → List Ty → List (Option Value) → List Value
seats next [] reuse = []
seats next (t ∷ ts) [] = value next ∷ seats (next + 1) ts []
seats next (t ∷ ts) (None ∷ reuse) = value next ∷ seats (next + 1) ts reuse
seats next (t ∷ ts) (Some v ∷ reuse) = v ∷ seats next ts reuse

-- each defined as the result at its place
abbrev pub seated : InstId → ℕ → List Ty → List Value → List ValueData → List ValueData
seated i k [] vs ds = ds
seated i k (t ∷ ts) [] ds = ds
seated i k (t ∷ ts) (v ∷ vs) ds = seated i (k + 1) ts vs (defined ds v (Inst t k i))

-- new results of instruction i
abbrev pub with_results : Graph → InstId → List Ty → List (Option Value) → Graph
with_results g i ts reuse =
    with_words (with_defs g (seated i 0 ts (seats (length g.defs) ts reuse) g.defs))
    (written g.words (result_list g i) (seats (length g.defs) ts reuse))

-- make_inst_results: the values to reuse are those at places that have a type
abbrev pub reused : List (Option Value) → List Value
reused [] = []
reused (None ∷ reuse) = reused reuse
reused (Some v ∷ reuse) = v ∷ reused reuse

abbrev pub of_inst : ValueData → InstId → Bool
of_inst d i = is_result d && (inst_of d).0 == i.0

abbrev pub attached_elsewhere : Graph → InstId → List Value → Row
attached_elsewhere g i vs =
    first_among (λ v. attached g v && not (of_inst (at g.defs v) i)) (λ v. Attached v.0) vs

abbrev pub mistyped : Graph → List Ty → List (Option Value) → Row
mistyped g [] reuse = None
mistyped g (t ∷ ts) [] = None
mistyped g (t ∷ ts) (None ∷ reuse) = mistyped g ts reuse
mistyped g (t ∷ ts) (Some v ∷ reuse) =
    cond ((type (at g.defs v)).0 == t.0) (mistyped g ts reuse) (Some (Types v.0))

abbrev pub among : Value → List Value → Bool
among v [] = false
among v (u ∷ us) = u.0 == v.0 || among v us

-- the first value that comes again
abbrev pub repeated : List Value → Row
repeated [] = None
repeated (v ∷ vs) = cond (among v vs) (Some (Twice v.0)) (repeated vs)

abbrev pub make_inst_results_rows : Graph → InstId → List Ty → List (Option Value) → List Row
make_inst_results_rows g i ts reuse =
    unknown_inst g i
    ∷ unknown_values g (reused (take (length ts) reuse))
    ∷ retired_values g (reused (take (length ts) reuse))
    ∷ first_among (λ t. nat_le 16384 t.0) (λ t. Packing (Wide t.0)) ts
    ∷ attached_elsewhere g i (reused (take (length ts) reuse))
    ∷ mistyped g ts reuse
    ∷ repeated (reused (take (length ts) reuse))
    ∷ values_full g (length ts - length (reused (take (length ts) reuse)))
    ∷ by_pool (fault_write g.words (result_list g i) (length ts))
    ∷ when (nat_lt 65536 (length ts)) Long
    ∷ []

abbrev pub make_inst_results : InstId → List Ty → List (Option Value) → Graph → Outcome ℕ Graph
make_inst_results i ts reuse g = settle (make_inst_results_rows g i ts reuse) (length ts) (with_results g i ts reuse)

-- clear_results
abbrev pub without_results : Graph → InstId → Graph
without_results g i = with_words g (cleared g.words (result_list g i))

abbrev pub clear_results : InstId → Graph → Outcome (Unit {0}) Graph
clear_results i g = settle (unknown_inst g i ∷ []) tt (without_results g i)

-- replace_result and replace_block_param: a new value at the place of the old one
abbrev pub replaced : Graph → ℕ → ℕ → ValueData → Graph
replaced g list n d = with_words (with_defs g (g.defs ++ d ∷ [])) (changed g.words list n (value (length g.defs)))

abbrev pub replace_rows : Graph → Value → Ty → Bool → List Row
replace_rows g v ty right-kind =
    unknown_values g (v ∷ [])
    ∷ retired_values g (v ∷ [])
    ∷ wide_type ty
    ∷ when (not right-kind) (Kind v.0)
    ∷ when (not (attached g v)) (Loose v.0)
    ∷ values_full g 1
    ∷ []

abbrev pub replace_result : Value → Ty → Graph → Outcome Value Graph
replace_result v ty g =
    settle (replace_rows g v ty (is_result (at g.defs v))) (value (length g.defs))
    (replaced g (result_list g (inst_of (at g.defs v))) (number (at g.defs v))
    (Inst ty (number (at g.defs v)) (inst_of (at g.defs v))))

abbrev pub replace_block_param : Value → Ty → Graph → Outcome Value Graph
replace_block_param v ty g =
    settle (replace_rows g v ty (is_param (at g.defs v))) (value (length g.defs))
    (replaced g (param_list g (block_of (at g.defs v))) (number (at g.defs v))
    (Param ty (number (at g.defs v)) (block_of (at g.defs v))))

-- remove_block_param: the gap is closed, and later numbers fall by one
abbrev pub numbered : ℕ → ValueData → ValueData
numbered n (Inst ty m i) = Inst ty m i
numbered n (Param ty m b) = Param ty n b
numbered n (Alias ty original) = Alias ty original
numbered n (Union ty x y) = Union ty x y

abbrev pub lowered : List ValueData → List Value → List ValueData
lowered ds [] = ds
lowered ds (v ∷ vs) = lowered (slice_set ds v.0 (numbered (number (at ds v) - 1) (at ds v))) vs

abbrev pub param_removed : Graph → Block → ℕ → Graph
param_removed g b n =
    with_words (with_defs g (lowered g.defs (drop (n + 1) (params g b)))) (removed_at g.words (param_list g b) n)

abbrev pub remove_rows : Graph → Value → List Row
remove_rows g v =
    unknown_values g (v ∷ [])
    ∷ retired_values g (v ∷ [])
    ∷ when (not (is_param (at g.defs v))) (Kind v.0)
    ∷ when (not (attached g v)) (Loose v.0)
    ∷ []

abbrev pub remove_block_param : Value → Graph → Outcome (Unit {0}) Graph
remove_block_param v g =
    settle (remove_rows g v) tt (param_removed g (block_of (at g.defs v)) (number (at g.defs v)))

-- swap_remove_block_param: the last parameter moves into the gap
abbrev pub moved : List ValueData → Value → ℕ → List ValueData
moved ds v n = slice_set ds v.0 (numbered n (at ds v))

abbrev pub last_of : List Value → Value
last_of vs = slice_index_or vs (length vs - 1) no_value

abbrev pub param_swap_removed : Graph → Block → ℕ → Graph
param_swap_removed g b n =
    with_words
    (with_defs g (cond (nat_lt (n + 1) (length (params g b))) (moved g.defs (last_of (params g b)) n) g.defs))
    (swap_removed_at g.words (param_list g b) n)

abbrev pub swap_remove_block_param : Value → Graph → Outcome ℕ Graph
swap_remove_block_param v g =
    settle (remove_rows g v) (number (at g.defs v))
    (param_swap_removed g (block_of (at g.defs v)) (number (at g.defs v)))

-- append_block_param
abbrev pub append_param_rows : Graph → Block → Ty → List Row
append_param_rows g b ty =
    unknown_block g b
    ∷ wide_type ty
    ∷ values_full g 1
    ∷ by_pool (fault_push g.words (param_list g b))
    ∷ long (params g b)
    ∷ []

abbrev pub param_appended : Graph → Block → Ty → Graph
param_appended g b ty =
    with_words (with_defs g (g.defs ++ Param ty (length (params g b)) b ∷ []))
    (pushed g.words (param_list g b) (value (length g.defs)))

abbrev pub append_block_param : Block → Ty → Graph → Outcome Value Graph
append_block_param b ty g = settle (append_param_rows g b ty) (value (length g.defs)) (param_appended g b ty)

-- attach_block_param: the value keeps its type
abbrev pub attach_param_rows : Graph → Block → Value → List Row
attach_param_rows g b v =
    unknown_block g b
    ∷ unknown_values g (v ∷ [])
    ∷ retired_values g (v ∷ [])
    ∷ when (attached g v) (Attached v.0)
    ∷ by_pool (fault_push g.words (param_list g b))
    ∷ long (params g b)
    ∷ []

abbrev pub param_attached : Graph → Block → Value → Graph
param_attached g b v =
    with_words (with_defs g (slice_set g.defs v.0 (Param (type (at g.defs v)) (length (params g b)) b)))
    (pushed g.words (param_list g b) v)

abbrev pub attach_block_param : Block → Value → Graph → Outcome (Unit {0}) Graph
attach_block_param b v g = settle (attach_param_rows g b v) tt (param_attached g b v)

-- detach_block_params: the list into the caller's memory from its start, and what the memory then holds
abbrev pub written_over : List Value → List Value → List Value
written_over out vs = vs ++ drop (length vs) out

abbrev pub detach_rows : Graph → Block → List Value → List Row
detach_rows g b out = unknown_block g b ∷ when (nat_lt (length out) (length (params g b))) (Count (length out)) ∷ []

abbrev pub without_params : Graph → Block → Graph
without_params g b = with_words g (cleared g.words (param_list g b))

abbrev pub detach_block_params : Block → List Value → Graph → Outcome (ℕ × List Value) Graph
detach_block_params b out g =
    settle (detach_rows g b out) (length (params g b), written_over out (params g b)) (without_params g b)

-- clone_inst: opcode, operands and calls, and new results of the original's types
abbrev pub result_types : Graph → InstId → List Ty
result_types g i = map (λ v. type (at g.defs v)) (results g i)

abbrev pub clone_rows : State → InstId → List Row
clone_rows s i =
    unknown_inst s.graph i
    ∷ counts_differ s
    ∷ insts_full s.graph
    ∷ by_table (copy_answer s.table i)
    ∷ values_full s.graph (length (results s.graph i))
    ∷ by_pool (fault_for s.graph.words (length (call s.graph i 0) ∷ length (call s.graph i 1) ∷ length (results s.graph i) ∷ []))
    ∷ when (nat_lt 65536 (length (results s.graph i))) Long
    ∷ []

abbrev pub calls_copied : Graph → InstId → InstId → Bank Value
calls_copied g i new = copied (copied g.words (call_list g i 0) (call_list g new 0)) (call_list g i 1) (call_list g new 1)

abbrev pub inst_cloned : Graph → InstId → Graph
inst_cloned g i =
    with_inst (with_results (with_words g (calls_copied g i (inst g.insts))) (inst g.insts) (result_types g i) [])

abbrev pub clone_inst : InstId → State → Outcome InstId State
clone_inst i s =
    settle (clone_rows s i) (inst s.graph.insts)
    (record { graph = inst_cloned s.graph i; table = copy_table s.table i })

-- append_argument
abbrev pub unknown_call : Graph → InstId → ℕ → Row
unknown_call g i j = when (not (has_call g i j)) (Unknown j)

abbrev pub in_list : Option Value → List Value
in_list None = []
in_list (Some v) = v ∷ []

abbrev pub by_packing : {A : Type 0} → Result A PackFault → Row
by_packing (Ok a) = None
by_packing (Err f) = Some (Packing f)

abbrev pub append_argument_rows : Graph → InstId → ℕ → BlockArg → List Row
append_argument_rows g i j arg =
    unknown_inst g i
    ∷ unknown_call g i j
    ∷ unknown_values g (in_list (value_of arg))
    ∷ retired_values g (in_list (value_of arg))
    ∷ by_packing (encoded arg)
    ∷ by_pool (fault_push g.words (call_list g i j))
    ∷ []

abbrev pub word_of : Result ℕ PackFault → Value
word_of (Ok w) = value w
word_of (Err f) = no_value

abbrev pub argument_appended : Graph → InstId → ℕ → BlockArg → Graph
argument_appended g i j arg = with_words g (pushed g.words (call_list g i j) (word_of (encoded arg)))

abbrev pub append_argument : InstId → ℕ → BlockArg → Graph → Outcome (Unit {0}) Graph
append_argument i j arg g = settle (append_argument_rows g i j arg) tt (argument_appended g i j arg)

-- remove: the argument at an index
abbrev pub remove_argument_rows : Graph → InstId → ℕ → ℕ → List Row
remove_argument_rows g i j k =
    unknown_inst g i ∷ unknown_call g i j ∷ when (nat_le (length (arguments g i j)) k) (Unknown k) ∷ []

abbrev pub remove : InstId → ℕ → ℕ → Graph → Outcome (Unit {0}) Graph
remove i j k g =
    settle (remove_argument_rows g i j k) tt (with_words g (removed_at g.words (call_list g i j) (k + 1)))

-- other operands of instruction i
abbrev pub with_operands : Table → InstId → List Value → Table
with_operands t i os =
    record { rows = slice_set t.rows i.0 (record { opcode = (row t i.0).opcode; operands = os }); insts = t.insts; words = t.words }

-- other arguments in the call that is a list: the target stays
abbrev pub readdressed : Bank Value → ℕ → (List Value → List Value) → Bank Value
readdressed b l change =
    holding b l (take 1 (items_of b l) ++ change (drop 1 (items_of b l))) (class_of b l)

-- map_inst_values: a renaming goes over operands and value arguments; targets and marked arguments stay
abbrev pub renamed_argument : (Value → Value) → Value → Option Value → Value
renamed_argument f w None = w
renamed_argument f w (Some v) = f v

abbrev pub renamed_word : (Value → Value) → Value → Value
renamed_word f w = renamed_argument f w (value_argument w)

abbrev pub calls_renamed : Graph → (Value → Value) → InstId → Bank Value → Bank Value
calls_renamed g f i b = readdressed (readdressed b (call_list g i 0) (map (renamed_word f))) (call_list g i 1) (map (renamed_word f))

abbrev pub map_rows : State → InstId → (Value → Value) → List Row
map_rows s i f =
    unknown_inst s.graph i
    ∷ unknown_values s.graph (map f (inst_values s i))
    ∷ retired_values s.graph (map f (inst_values s i))
    ∷ counts_differ s
    ∷ []

abbrev pub map_inst_values : InstId → (Value → Value) → State → Outcome (Unit {0}) State
map_inst_values i f s =
    settle (map_rows s i f) tt
    (record {
      graph = with_words s.graph (calls_renamed s.graph f i s.graph.words);
      table = with_operands s.table i (map f (operands s.table i.0));
    })

-- overwrite_inst_values: from a list, operands first, then the value arguments of each call
abbrev pub poured_one : Value → Option Value → List Value → (List Value → List Value) → List Value
poured_one w None vs rest = w ∷ rest vs
poured_one w (Some u) [] rest = w ∷ rest []
poured_one w (Some u) (v ∷ vs) rest = v ∷ rest vs

abbrev pub poured : List Value → List Value → List Value
poured [] vs = []
poured (w ∷ ws) vs = poured_one w (value_argument w) vs (poured ws)

abbrev pub overwrite_rows : State → InstId → List Value → List Row
overwrite_rows s i vs =
    unknown_inst s.graph i
    ∷ unknown_values s.graph (take (length (inst_values s i)) vs)
    ∷ retired_values s.graph (take (length (inst_values s i)) vs)
    ∷ counts_differ s
    ∷ when (nat_lt (length vs) (length (inst_values s i))) (Count (length vs))
    ∷ []

abbrev pub calls_poured : Graph → InstId → List Value → Bank Value
calls_poured g i vs =
    readdressed (readdressed g.words (call_list g i 0) (λ ws. poured ws vs)) (call_list g i 1)
    (λ ws. poured ws (drop (length (values_in (arguments g i 0))) vs))

abbrev pub overwrite_inst_values : InstId → List Value → State → Outcome (Unit {0}) State
overwrite_inst_values i vs s =
    settle (overwrite_rows s i vs) tt
    (record {
      graph = with_words s.graph (calls_poured s.graph i (drop (length (operands s.table i.0)) vs));
      table = with_operands s.table i (take (length (operands s.table i.0)) vs);
    })

-- change_to_alias: of what the source leads to
abbrev pub no_type : Ty → Bool
no_type ty = ty.0 == 0

abbrev pub types_differ : Graph → Value → Value → Bool
types_differ g d r =
    not ((type (at g.defs d)).0 == (type (at g.defs r)).0) || no_type (type (at g.defs d))

abbrev pub change_rows : Graph → Value → Value → List Row
change_rows g d v =
    unknown_values g (d ∷ v ∷ [])
    ∷ retired_values g (d ∷ v ∷ [])
    ∷ when (attached g d) (Attached d.0)
    ∷ when (types_differ g d (end_of g.defs v)) (Types d.0)
    ∷ when ((end_of g.defs v).0 == d.0) (Loop d.0)
    ∷ []

abbrev pub aliased : List ValueData → Value → Value → List ValueData
aliased ds d r = slice_set ds d.0 (Alias (type (at ds r)) r)

abbrev pub change_to_alias : Value → Value → Graph → Outcome (Unit {0}) Graph
change_to_alias d v g =
    settle (change_rows g d v) tt (with_defs g (aliased g.defs d (end_of g.defs v)))

-- replace_with_aliases: each result of the first an alias of the second's at that place
abbrev pub mistyped_places : Graph → List Value → List Value → Row
mistyped_places g [] rs = None
mistyped_places g (d ∷ ds) [] = None
mistyped_places g (d ∷ ds) (r ∷ rs) = cond (types_differ g d r) (Some (Types d.0)) (mistyped_places g ds rs)

abbrev pub aliased_each : List ValueData → List Value → List Value → List ValueData
aliased_each vs [] rs = vs
aliased_each vs (d ∷ ds) [] = vs
aliased_each vs (d ∷ ds) (r ∷ rs) = aliased_each (aliased vs d r) ds rs

abbrev pub replace_aliases_rows : Graph → InstId → InstId → List Row
replace_aliases_rows g d i =
    unknown_inst g d
    ∷ unknown_inst g i
    ∷ mistyped_places g (results g d) (results g i)
    ∷ when (d.0 == i.0) (Loop d.0)
    ∷ when (not (length (results g d) == length (results g i))) (Count (length (results g i)))
    ∷ []

abbrev pub replace_with_aliases : InstId → InstId → Graph → Outcome (Unit {0}) Graph
replace_with_aliases d i g =
    settle (replace_aliases_rows g d i) tt
    (without_results (with_defs g (aliased_each g.defs (results g d) (results g i))) d)

-- union: of x's type
abbrev pub union_rows : Graph → Value → Value → List Row
union_rows g x y =
    unknown_values g (x ∷ y ∷ [])
    ∷ retired_values g (x ∷ y ∷ [])
    ∷ when (not ((type (at g.defs x)).0 == (type (at g.defs y)).0)) (Types x.0)
    ∷ values_full g 1
    ∷ []

abbrev pub union : Value → Value → Graph → Outcome Value Graph
union x y g =
    settle (union_rows g x y) (value (length g.defs))
    (with_defs g (g.defs ++ Union (type (at g.defs x)) x y ∷ []))

-- set label
abbrev pub entry_target : Entry → List Value
entry_target (starts ss) = []
entry_target (alias from target) = target ∷ []

abbrev pub entry_rows : Graph → Value → Entry → Row
entry_rows g v (starts ss) = by_pool (fault_write g.starts v.0 (length ss))
entry_rows g v (alias from target) = None

abbrev pub set_label_rows : Graph → Value → Entry → List Row
set_label_rows g v e =
    unknown_values g (v ∷ entry_target e) ∷ retired_values g (v ∷ entry_target e) ∷ entry_rows g v e ∷ []

abbrev pub with_labels : Graph → List (Option Label) → Bank Start → Graph
with_labels g ls b = record { defs = g.defs; blocks = g.blocks; insts = g.insts; words = g.words; labels = ls; starts = b; limits = g.limits }

abbrev pub labelled : Graph → Value → Entry → Graph
labelled g v (starts ss) = with_labels g (slice_set g.labels v.0 (Some label.Starts)) (written g.starts v.0 ss)
labelled g v (alias from target) = with_labels g (slice_set g.labels v.0 (Some (label.Alias from target))) (cleared g.starts v.0)

abbrev pub set_label : Value → Entry → Graph → Outcome (Unit {0}) Graph
set_label v e g = settle (set_label_rows g v e) tt (labelled g v e)
