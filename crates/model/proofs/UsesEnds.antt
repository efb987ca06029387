-- Uses in a new state, and labels after flattening.
use Rattle.std.proofs.Common.{◌≡◌, ℕ, ◌+◌, ◌<◌, ◌≤◌, Bool, true, false, cond, List, length, get_or, sym, refl, ap, ◌∙◌, subst, not-suc-le-zero, None, Option}
use lib.ListN.{length-map}
use Rattle.ir.specs.declared.value_data.ValueData.{ValueData}
use Rattle.table.specs.Table.{Row}
use Rattle.values.specs.Leads.{at}
use Rattle.model.specs.declared.labels.Label.{Label}
use Rattle.model.specs.State.{Graph, State, value}
use Rattle.model.specs.Flattening.{flat, live, retargeted, graph_flattened}
use Rattle.model.specs.Runs.{New}
use Rattle.model.proofs.Uses.{SpareLabels, UsesKept}
use Rattle.model.proofs.FlatParts.{relabelled_at}
use Rattle.model.proofs.Banks.{all_alike}

-- nothing is used where there is nothing
pub uses_new : (s : State) → New s → UsesKept s
uses_new s new = record {
  operands_are = λ i k h. absurd (not-suc-le-zero (subst (λ (rs : List Row). i < length rs) new.no_rows h));
  arguments_are = λ i j k v h. absurd (not-suc-le-zero (subst (λ (n : ℕ). i.0 < n) new.no_insts h));
  targets_are = λ v target from h. absurd (not-suc-le-zero (subst (λ (ds : List ValueData). v.0 < length ds) new.no_values h));
  counts = new.no_insts ∙ sym (ap (λ (rs : List Row). length rs) new.no_rows);
  unlabelled = λ n h. ap (λ (ls : List (Option Label)). get_or ls n None) new.no_labels ∙ all_alike s.graph.limits.values n None;
}

-- an absent label stays absent
absent_flat : (b : Bool) (ds : List ValueData) (l : Option Label) → l ≡ None →
    cond b None (retargeted ds l) ≡ None
absent_flat true ds l e = refl
absent_flat false ds l e = ap (retargeted ds) e

pub flat_unlabelled : (g : Graph) → SpareLabels g → SpareLabels (graph_flattened g)
flat_unlabelled g spare n h =
    relabelled_at g.defs g.labels 0 n
    ∙ absent_flat (live (at g.defs (value (0 + n)))) g.defs (get_or g.labels n None) (spare n (subst (λ (m : ℕ). m ≤ n) (length-map g.defs flat) h))
