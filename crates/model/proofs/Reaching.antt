-- Every state that edits alone reach from a new one is lawful.
use Rattle.std.proofs.Common.{◌≡◌, ℕ, ◌<◌, List, [], length, get_or, Result, sym, ap, ◌∙◌, subst, inl, inr, not-suc-le-zero, arith, None}
use Rattle.std.proofs.lemmas.List.{length-replicate}
use Rattle.ir.specs.declared.entities.Value.{Value}
use Rattle.ir.specs.declared.value_data.ValueData.{ValueData}
use Rattle.ir.specs.declared.value_data.ValueData.TheVariants.{Inst, Param, Union}
use Rattle.ir.specs.Packing.{retired_mark}
use Rattle.store.specs.Bank.{Bank, nothing}
use Rattle.values.specs.declared.kind.Kind.TheVariants.{Link, Gone}
use Rattle.values.specs.Leads.{at, kind}
use Rattle.model.specs.declared.labels.Start.{Start}
use Rattle.model.specs.declared.fault.GraphFault.{GraphFault}
use Rattle.model.specs.Refusals.{done}
use Rattle.model.specs.State.{State}
use Rattle.model.specs.Runs.{Edit, Answer, is_plain, does, resolve_all_aliases, Steps, accepted, declined, Runs, nothing as no-edit, next, New}
use Rattle.model.specs.Flattening.{flatten_rows, flattened}
use Rattle.model.specs.Laws.{Lawful, LawsOverRuns}
use Rattle.model.proofs.Rows.{state_done}
use Rattle.model.proofs.Invariant.{Good}
use Rattle.model.proofs.DefsEdits.{defs_kept, DefsKept}
use Rattle.model.proofs.Seats.{SeatsKept}
use Rattle.model.proofs.SeatsEach.{seats_each}
use Rattle.model.proofs.Uses.{SpareLabels, UsesKept}
use Rattle.model.proofs.UsesEdits.{uses_kept}
use Rattle.model.proofs.UsesEnds.{uses_new, flat_unlabelled}
use Rattle.model.proofs.Flat.{flattening_law}
use Rattle.model.proofs.FlatKeeps.{good_flattened}
use Rattle.model.proofs.Order.{order_does_not_matter}
use Rattle.model.proofs.Banks.{fresh_count, fresh_at}

-- what every edit keeps, and that what does not exist has no label
pub record Tidy (s : State) : Type 0 where
  pub good : Good s
  pub unlabelled : SpareLabels s.graph

-- where there are no values, nothing is defined
no_definition : (ds : List ValueData) (v : Value) → ds ≡ [] → at ds v ≡ retired_mark
no_definition ds v e = ap (λ (xs : List ValueData). at xs v) e

pub tidy_new : (s : State) → New s → Tidy s
tidy_new s new =
    let uses = uses_new s new in
    let none = λ (v : Value). no_definition s.graph.defs v new.no_values in
    let values : length s.graph.defs ≡ 0 = ap (λ (ds : List ValueData). length ds) new.no_values in
    let lists : length s.graph.words.lists ≡ new.lists = ap (λ (b : Bank Value). length b.lists) new.empty_words ∙ fresh_count Value new.lists new.cells in
    let start_lists : length s.graph.starts.lists ≡ new.start_lists = ap (λ (b : Bank Start). length b.lists) new.empty_starts ∙ fresh_count Start new.start_lists new.start_cells in
    let empty = λ (l : ℕ). ap (λ (b : Bank Value). get_or b.lists l nothing) new.empty_words ∙ fresh_at Value new.lists new.cells l in
    record {
      good = record {
        sized = record {
          values_fit = omega arith;
          values_small = new.values_small;
          blocks_fit = omega (arith, new.no_blocks);
          insts_fit = omega (arith, new.no_insts);
          lists_enough = omega (arith, new.lists_enough);
          labels_enough = ap length new.no_labels ∙ length-replicate s.graph.limits.values None;
          start_lists_enough = omega (arith, new.start_lists_enough);
        };
        homes = record {
          of_result = λ v ty n i e. let z : retired_mark ≡ Inst ty n i = sym (none v) ∙ e in absurd cc;
          of_param = λ v ty n b e. let z : retired_mark ≡ Param ty n b = sym (none v) ∙ e in absurd cc;
        };
        spare = record {
          of_blocks = λ l h k. empty l;
          of_insts = λ l h. empty l;
        };
        home = λ v o e. let z : Gone ≡ Link o = sym (ap kind (none v)) ∙ e in absurd cc;
        named = record {
          by_results = λ i k h. absurd (not-suc-le-zero (subst (λ (n : ℕ). i.0 < n) new.no_insts h));
          by_params = λ b k h. absurd (not-suc-le-zero (subst (λ (n : ℕ). b.0 < n) new.no_blocks h));
        };
        alive = record {
          operands_are = uses.operands_are;
          arguments_are = uses.arguments_are;
          sides_are = λ v x y ty e. let z : retired_mark ≡ Union ty x y = sym (none v) ∙ e in absurd cc;
          targets_are = uses.targets_are;
        };
        counts = uses.counts;
      };
      unlabelled = uses.unlabelled;
    }

tidy_flattened : (s t : State) (a : Answer) → Tidy s → does resolve_all_aliases s ≡ done a t → Tidy t
tidy_flattened s t a tidy e =
    let d = state_done is_plain (flatten_rows s) tt (flattened s) a t e in
    record {
      good = good_flattened s t a tidy.good e;
      unlabelled = subst (λ (u : State). SpareLabels u.graph) d.1 (flat_unlabelled s.graph tidy.unlabelled);
    }

flat_seats : (s t : State) (a : Answer) → Good s → does resolve_all_aliases s ≡ done a t → SeatsKept t
flat_seats s t a good e =
    let g = good_flattened s t a good e in
    record { sized = g.sized; homes = g.homes; spare = g.spare; named = g.named }

flat_uses : (s t : State) (a : Answer) → Tidy s → does resolve_all_aliases s ≡ done a t → UsesKept t
flat_uses s t a tidy e =
    let after = tidy_flattened s t a tidy e in
    let g = after.good in
    record {
      operands_are = g.alive.operands_are;
      arguments_are = g.alive.arguments_are;
      targets_are = g.alive.targets_are;
      counts = g.counts;
      unlabelled = after.unlabelled;
    }

-- every other edit, by what it does to definitions, lists and uses
tidy_edited : (e : Edit) (s t : State) (a : Answer) → Tidy s → DefsKept s t → does e s ≡ done a t → Tidy t
tidy_edited e s t a tidy defs q =
    let good = tidy.good in
    let seats = seats_each flat_seats e s t a good q in
    let uses = uses_kept s t a good tidy.unlabelled defs.keeps defs.grows (flat_uses s t a tidy) e q in
    record {
      good = record {
        sized = seats.sized;
        homes = seats.homes;
        spare = seats.spare;
        home = defs.home;
        named = seats.named;
        alive = record {
          operands_are = uses.operands_are;
          arguments_are = uses.arguments_are;
          sides_are = defs.sides;
          targets_are = uses.targets_are;
        };
        counts = uses.counts;
      };
      unlabelled = uses.unlabelled;
    }

tidy_done : (e : Edit) (s t : State) (a : Answer) → Tidy s → does e s ≡ done a t → Tidy t
tidy_done e s t a tidy q = elim (defs_kept s t a tidy.good e q) [
  | inl defs ↦ tidy_edited e s t a tidy defs q
  | inr p ↦ tidy_flattened s t a tidy (ap (λ (x : Edit). does x s) (sym p) ∙ q)
]

tidy_step : {s t : State} {e : Edit} {r : Result Answer GraphFault} → Steps s e r t → Tidy s → Tidy t
tidy_step {s} {t} {e} (accepted {a = a} q) tidy = tidy_done e s t a tidy q
tidy_step (declined q) tidy = tidy

pub tidy_runs : {s t : State} {es : List Edit} {rs : List (Result Answer GraphFault)} → Runs s es rs t → Tidy s → Tidy t
tidy_runs no-edit tidy = tidy
tidy_runs (next step rest) tidy = tidy_runs rest (tidy_step step tidy)

pub lawful : (s : State) → Tidy s → Lawful s
lawful s tidy =
    let good = tidy.good in
    record {
      aliases_lead_home = good.home;
      lists_are_named = good.named;
      uses_are_alive = good.alive;
      flattening = flattening_law s good;
      order_does_not_matter = order_does_not_matter s good;
    }

pub laws_over_runs : LawsOverRuns
laws_over_runs t reached = lawful t (tidy_runs reached.runs (tidy_new reached.start reached.new))
