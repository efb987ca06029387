-- resolve_all_aliases, called flattening: every use of an alias becomes what the alias led to, and the alias is retired.
use Rattle.std.specs.Prelude.{ℕ, zero, suc, ◌+◌, Bool, true, false, cond, ◌||◌, List, [], ◌∷◌, ◌++◌, map, Some, None, Option}
use Rattle.ir.specs.declared.entities.Value.{Value}
use Rattle.ir.specs.declared.value_data.ValueData.{ValueData}
use Rattle.ir.specs.declared.value_data.ValueData.TheVariants.{Inst, Param, Alias, Union}
use Rattle.ir.specs.Packing.{retired_mark}
use Rattle.store.specs.Bank.{Bank, cleared}
use Rattle.table.specs.Table.{Table, Row as TableRow}
use Rattle.values.specs.declared.kind.Kind.{Kind}
use Rattle.values.specs.declared.kind.Kind.TheVariants.{Root, Link, Gone}
use Rattle.values.specs.Leads.{at, kind}
use Rattle.renaming.specs.Renames.{end_of}
use Rattle.model.specs.declared.fault.GraphFault.TheVariants.{Side}
use Rattle.model.specs.declared.labels.Start.{Start}
use Rattle.model.specs.declared.labels.Label.{Label}
use Rattle.model.specs.declared.labels.Label.TheVariants as label
use Rattle.model.specs.Refusals.{Row, Outcome, settle}
use Rattle.model.specs.State.{Graph, State, value, inst}
use Rattle.model.specs.Edits.{calls_renamed, counts_differ, retired_values, unknown_values}

-- whether a definition is a live alias
abbrev pub is_link : Kind → Bool
is_link Root = false
is_link (Link original) = true
is_link Gone = false

abbrev pub live : ValueData → Bool
live d = is_link (kind d)

-- a live alias is retired, and nothing else
abbrev pub flat : ValueData → ValueData
flat d = cond (live d) retired_mark d

-- every operand of every instruction
abbrev pub all_operands : List TableRow → List Value
all_operands [] = []
all_operands (r ∷ rs) = r.operands ++ all_operands rs

abbrev pub row_renamed : (Value → Value) → TableRow → TableRow
row_renamed f r = record { opcode = r.opcode; operands = map f r.operands }

abbrev pub table_renamed : (Value → Value) → Table → Table
table_renamed f t = record { rows = map (row_renamed f) t.rows; insts = t.insts; words = t.words }

-- the calls of the first n instructions
abbrev pub all_calls_renamed : Graph → (Value → Value) → ℕ → Bank Value → Bank Value
all_calls_renamed g f zero b = b
all_calls_renamed g f (suc n) b = calls_renamed g f (inst n) (all_calls_renamed g f n b)

-- labels on live aliases are dropped, with their starts; other labels' targets become what they led to
abbrev pub retargeted : List ValueData → Option Label → Option Label
retargeted ds None = None
retargeted ds (Some label.Starts) = Some label.Starts
retargeted ds (Some (label.Alias from target)) = Some (label.Alias from (end_of ds target))

abbrev pub relabelled : List ValueData → ℕ → List (Option Label) → List (Option Label)
relabelled ds n [] = []
relabelled ds n (l ∷ ls) = cond (live (at ds (value n))) None (retargeted ds l) ∷ relabelled ds (n + 1) ls

abbrev pub starts_dropped : ℕ → List ValueData → Bank Start → Bank Start
starts_dropped n [] b = b
starts_dropped n (d ∷ ds) b = starts_dropped (n + 1) ds (cond (live d) (cleared b n) b)

-- the lowest union with a live alias as a side
abbrev pub alias_side : List ValueData → ValueData → Bool
alias_side ds (Inst ty n i) = false
alias_side ds (Param ty n b) = false
alias_side ds (Alias ty original) = false
alias_side ds (Union ty x y) = live (at ds x) || live (at ds y)

abbrev pub first_side : List ValueData → ℕ → List ValueData → Row
first_side all n [] = None
first_side all n (d ∷ ds) = cond (alias_side all d) (Some (Side n)) (first_side all (n + 1) ds)

abbrev pub flatten_rows : State → List Row
flatten_rows s =
    unknown_values s.graph (all_operands s.table.rows)
    ∷ retired_values s.graph (all_operands s.table.rows)
    ∷ counts_differ s
    ∷ first_side s.graph.defs 0 s.graph.defs
    ∷ []

abbrev pub graph_flattened : Graph → Graph
graph_flattened g =
    record {
      defs = map flat g.defs;
      blocks = g.blocks;
      insts = g.insts;
      words = all_calls_renamed g (end_of g.defs) g.insts g.words;
      labels = relabelled g.defs 0 g.labels;
      starts = starts_dropped 0 g.defs g.starts;
      limits = g.limits;
    }

abbrev pub flattened : State → State
flattened s = record { graph = graph_flattened s.graph; table = table_renamed (end_of s.graph.defs) s.table }

abbrev pub resolve_all_aliases : State → Outcome (Unit {0}) State
resolve_all_aliases s = settle (flatten_rows s) tt (flattened s)
