-- The faults that the definitions tell apart.
use Rattle.std.proofs.Common.{◌≡◌, ℕ, ◌+◌, ◌<◌, Bool, ◌≢◌, [], ◌∷◌, length, get_or, sym, refl, ap, ◌∙◌}
use Rattle.std.proofs.lemmas.Bool.{lt-leb}
use Rattle.ir.specs.declared.entities.Value.{Value}
use Rattle.store.specs.Units.{units, first_class, smallest}
use Rattle.store.specs.Bank.{fresh, taken, obtainable, obtained, spared, cleared, holding, written, grown, pushed, changed, shortened, removed_at, fault_list, fault_block, no_block, fault_push, fault_write, fault_for}
use Rattle.table.specs.Table.{count, operands}
use Rattle.values.specs.declared.kind.Kind.TheVariants.{Root, Link}
use Rattle.values.specs.Leads.{at, kind, LiveAlias}
use Rattle.values.proofs.Ways.{end}
use Rattle.model.specs.declared.fault.GraphFault.TheVariants.{Full}
use Rattle.model.specs.Refusals.{done, settle, when}
use Rattle.model.specs.State.{State, block, no_value}
use Rattle.model.specs.Runs.{a_block, does, make_block, on_graph, nothing, next, accepted}
use Rattle.model.specs.Laws.{Flattened}
use Rattle.model.specs.Faults.{ToldApart}

-- what an operand led to is no alias, so it is another value
moved_on : (s t : State) → Flattened s t → (i k : ℕ) (original : Value) → i < count s.table →
    k < length (operands s.table i) → LiveAlias s.graph.defs (get_or (operands s.table i) k no_value) original →
    get_or (operands t.table i) k no_value ≢ get_or (operands s.table i) k no_value
moved_on s t f i k original h q e same =
    let r : kind (at s.graph.defs (get_or (operands t.table i) k no_value)) ≡ Root = end (f.operands_led i k h q).1 in
    let l : Root ≡ Link original = sym (ap (λ (v : Value). kind (at s.graph.defs v)) (sym same) ∙ r) ∙ e in
    absurd cc

-- there is room for a block
accepts_block : (s : State) → s.graph.blocks < s.graph.limits.blocks →
    does make_block s ≡ done (a_block (block s.graph.blocks))
    (record {
      graph = record { defs = s.graph.defs; blocks = s.graph.blocks + 1; insts = s.graph.insts; words = s.graph.words; labels = s.graph.labels; starts = s.graph.starts; limits = s.graph.limits };
      table = s.table;
    })
accepts_block s h =
    ap (λ (b : Bool). on_graph s a_block (settle (when b (Full s.graph.limits.blocks) ∷ []) (block s.graph.blocks)
    (record { defs = s.graph.defs; blocks = s.graph.blocks + 1; insts = s.graph.insts; words = s.graph.words; labels = s.graph.labels; starts = s.graph.starts; limits = s.graph.limits })))
    (lt-leb s.graph.limits.blocks s.graph.blocks h)

pub told_apart : ToldApart
unfolding fresh taken obtainable obtained spared cleared holding written grown pushed changed shortened removed_at fault_list fault_block no_block fault_push fault_write fault_for units first_class smallest
told_apart = record {
  renames_each = moved_on;
  targets_stay = λ s t f i j h k ne. ne (f.targets_kept i j h k);
  marks_stay = λ s t f i j k h q l e ne. ne (f.marked_kept i j k h q l e);
  removed_is_loose = (
    _,
    _,
    next (accepted refl) (next (accepted refl) (next (accepted refl) (next (accepted refl) (next (accepted refl)
        (next (accepted refl) nothing))))),
    (refl, refl),
  );
  all_or_nothing =
      (_, _, next (accepted refl) (next (accepted refl) (next (accepted refl) (next (accepted refl) nothing))), refl);
  accepts = λ s h. (_, accepts_block s h);
}
