-- Uses that stay alive: what every edit's proof goes by.
use Rattle.std.proofs.Common.{◌≡◌, ℕ, suc, ◌+◌, ◌<◌, ◌≤◌, ◌≢◌, List, [], ◌∷◌, ◌++◌, map, length, get_or, take, drop, Some, None, sym, ap, subst, inl, inr, arith, Option}
use Rattle.std.specs.List.{remove, AllByRecursion as All}
use Rattle.std.proofs.lemmas.List.{get_or_past, take-take, drop-take}
use Rattle.std.proofs.ByRecursion.{All-append, All-drop, All-take, All-push, All-get_or, All-from_get_or}
use Rattle.std.proofs.lemmas.Bool.{cases_eq, cases_lt}
use Rattle.ir.specs.declared.entities.Value.{Value}
use Rattle.ir.specs.declared.entities.Inst.{Inst as InstId}
use Rattle.ir.specs.declared.value_data.ValueData.{ValueData}
use Rattle.store.specs.Bank.{Bank, Owned, nothing, items_of}
use Rattle.table.specs.Table.{Table, Row, count, operands, no_row}
use Rattle.values.specs.Leads.{Exists}
use Rattle.model.specs.declared.labels.Start.{Start}
use Rattle.model.specs.declared.labels.Label.{Label}
use Rattle.model.specs.declared.labels.Label.TheVariants as label
use Rattle.model.specs.State.{Graph, State, alias, value, call_list, arguments, value_argument, as_entry, label_at, entry, no_value}
use Rattle.model.specs.Edits.{unknown_values, retired_values}
use Rattle.model.specs.Laws.{Usable}
use Rattle.model.proofs.Invariant.{Good}
use Rattle.model.proofs.Banks.{OnlyList, items_other}
use Rattle.model.proofs.UsesWords.{Fair}
use Rattle.model.proofs.DefsEdits.{usable}

-- what does not exist has no label
abbrev pub SpareLabels : Graph → Type 0
SpareLabels g = (n : ℕ) → length g.defs ≤ n → get_or g.labels n None ≡ None

-- what may be used before may be used after
abbrev pub StayUsable : List ValueData → List ValueData → Type 0
StayUsable ds es = (v : Value) → Usable ds v → Usable es v

-- the uses of t are alive, but for sides of unions
pub record UsesKept (t : State) : Type 0 where
  pub operands_are : (i k : ℕ) → i < count t.table → k < length (operands t.table i) →
      Usable t.graph.defs (get_or (operands t.table i) k no_value)
  pub arguments_are : (i : InstId) (j k : ℕ) (v : Value) → i.0 < t.graph.insts → j < 2 →
      k < length (arguments t.graph i j) → value_argument (get_or (arguments t.graph i j) k no_value) ≡ Some v →
      Usable t.graph.defs v
  pub targets_are : (v target : Value) (from : ℕ) → Exists t.graph.defs v →
      entry t.graph v ≡ Some (alias from target) → Usable t.graph.defs target
  pub counts : t.graph.insts ≡ count t.table
  pub unlabelled : SpareLabels t.graph

-- lists of which P holds, and their parts

pub all_split : {X : Type 0} (P : X → Type 0) (xs ys : List X) → All P (xs ++ ys) → All P xs × All P ys
all_split P [] ys h = (tt, h)
all_split P (x ∷ xs) ys h = let r = all_split P xs ys h.1 in ((h.0, r.0), r.1)

pub all_unmap : {X Y : Type 0} (P : X → Type 0) (f : Y → X) (ys : List Y) → All P (map f ys) → All (λ y. P (f y)) ys
all_unmap P f [] h = tt
all_unmap P f (y ∷ ys) h = (h.0, all_unmap P f ys h.1)

pub all_take_split : {X : Type 0} (P : X → Type 0) (m n : ℕ) (xs : List X) → All P (take (m + n) xs) →
    All P (take m xs) × All P (take n (drop m xs))
all_take_split P m n xs h = (
  subst (All P) (take-take m (m + n) xs (omega arith)) (All-take P m (take (m + n) xs) h),
  subst (All P) (drop-take m n xs) (All-drop P m (take (m + n) xs) h),
)

-- arguments, behind the target: one more, one less, all others
pub all_appended : {X : Type 0} (P : X → Type 0) (xs : List X) (x : X) → All P (drop 1 xs) → P x → All P (drop 1 (xs ++ x ∷ []))
all_appended P [] x h p = tt
all_appended P (y ∷ xs) x h p = All-push P xs x h p

pub all_removed : {X : Type 0} (P : X → Type 0) (xs : List X) (i : ℕ) → All P (drop 1 xs) → All P (drop 1 (remove xs (suc i)))
all_removed P [] i h = tt
all_removed P (x ∷ xs) i h = All-append P (take i xs) (drop (suc i) xs) (All-take P i xs h) (All-drop P (suc i) xs h)

pub all_readdressed : {X : Type 0} (P : X → Type 0) (xs ys : List X) → All P ys → All P (drop 1 (take 1 xs ++ ys))
all_readdressed P [] ys h = All-drop P 1 ys h
all_readdressed P (x ∷ xs) ys h = h

-- P holds of the arguments in list l
abbrev pub Args : (Value → Type 0) → Bank Value → ℕ → Type 0
Args P b l = All P (drop 1 (items_of b l))

pub args_away : (P : Value → Type 0) {b c : Bank Value} {l : ℕ} {xs : List Value} → OnlyList b c l xs → (m : ℕ) → m ≢ l →
    Args P b m → Args P c m
args_away P o m ne h = subst (λ (ys : List Value). All P (drop 1 ys)) (sym (items_other o m ne)) h

pub args_only : (P : Value → Type 0) {b c : Bank Value} {l : ℕ} {xs : List Value} → OnlyList b c l xs → All P (drop 1 xs) →
    (m : ℕ) →
    Args P b m → Args P c m
args_only P {b} {c} {l} {xs} o p m h = elim (cases_eq m l) [
  | inl e ↦ subst (λ (n : ℕ). Args P c n) (sym e) here
  | inr ne ↦ args_away P o m ne h
]
  where
    here : Args P c l
    here = elim (cases_lt l (length b.lists)) [
      | inl i ↦ subst (λ (ys : List Value). All P (drop 1 ys)) (sym (o.here i)) p
      | inr i ↦ subst (λ (x : Owned Value). All P (drop 1 x.items)) (sym (get_or_past c.lists l nothing (omega (arith, o.count)))) tt
    ]

-- values that passed
pub usable_values : (g : Graph) (vs : List Value) → unknown_values g vs ≡ None → retired_values g vs ≡ None →
    All (Usable g.defs) vs
usable_values g vs u r = All-from_get_or (Usable g.defs) vs no_value (usable g vs u r)

-- Every row's operands, every call's arguments and every label's target are alive: what is not made yet has none.

abbrev pub RowsAlive : List ValueData → Table → Type 0
RowsAlive ds t = All (λ r. All (Usable ds) r.operands) t.rows

abbrev pub CallsAlive : List ValueData → Graph → Bank Value → Type 0
CallsAlive ds g b = (i : InstId) (j : ℕ) → j < 2 → Args (Fair (Usable ds)) b (call_list g i j)

abbrev pub LabelsAlive : List ValueData → List (Option Label) → Type 0
LabelsAlive ds ls = (n from : ℕ) (target : Value) → get_or ls n None ≡ Some (label.Alias from target) → Usable ds target

-- an alias entry is an alias label
pub entry_label : (l : Option Label) (ss : List Start) (from : ℕ) (target : Value) → as_entry l ss ≡ Some (alias from target) →
    l ≡ Some (label.Alias from target)
entry_label None ss from target e = absurd cc
entry_label (Some label.Starts) ss from target e = absurd cc
entry_label (Some (label.Alias f u)) ss from target e = cc

pub uses_from : (t : State) → RowsAlive t.graph.defs t.table → CallsAlive t.graph.defs t.graph t.graph.words →
    LabelsAlive t.graph.defs t.graph.labels → t.graph.insts ≡ count t.table → SpareLabels t.graph → UsesKept t
uses_from t rows calls labels counts spare = record {
  operands_are = λ i k h l.
      All-get_or (Usable t.graph.defs) (operands t.table i) k no_value l
      (All-get_or (λ r. All (Usable t.graph.defs) r.operands) t.table.rows i no_row h rows);
  arguments_are = λ i j k v h l n e.
      All-get_or (Fair (Usable t.graph.defs)) (arguments t.graph i j) k no_value n (calls i j l) v e;
  targets_are = λ v target from h e.
      labels v.0 from target (entry_label (label_at t.graph v) (items_of t.graph.starts v.0) from target e);
  counts = counts;
  unlabelled = spare;
}

-- what is alive in s, among the definitions that some edit leaves
module _ (s : State) (good : Good s) (ds : List ValueData) (kept : StayUsable s.graph.defs ds) where
  pub operands_alive : (i : ℕ) → All (Usable ds) (operands s.table i)
  operands_alive i = elim (cases_lt i (count s.table)) [
    | inl h ↦ All-from_get_or (Usable ds) (operands s.table i) no_value
        (λ k l. kept (get_or (operands s.table i) k no_value) (good.alive.operands_are i k h l))
    | inr h ↦ subst (λ (r : Row). All (Usable ds) r.operands) (sym (get_or_past s.table.rows i no_row h)) tt
  ]

  pub rows_alive : RowsAlive ds s.table
  rows_alive = All-from_get_or (λ r. All (Usable ds) r.operands) s.table.rows no_row (λ i h. operands_alive i)

  pub calls_alive : CallsAlive ds s.graph s.graph.words
  calls_alive i j h = elim (cases_lt i.0 s.graph.insts) [
    | inl l ↦ All-from_get_or (Fair (Usable ds)) (arguments s.graph i j) no_value
        (λ k n v e. kept v (good.alive.arguments_are i j k v l h n e))
    | inr l ↦ subst (λ (x : Owned Value). All (Fair (Usable ds)) (drop 1 x.items))
        (sym (good.spare.of_insts (call_list s.graph i j) (omega arith))) tt
  ]

  pub labels_alive : SpareLabels s.graph → LabelsAlive ds s.graph.labels
  labels_alive spare n from target e = elim (cases_lt n (length s.graph.defs)) [
    | inl h ↦ kept target (good.alive.targets_are (value n) target from h (ap (λ (l : Option Label). as_entry l (items_of s.graph.starts n)) e))
    | inr h ↦ let a = spare n h in absurd cc
  ]
