-- Aliasings in any order: from accepted edits to runs over tables, and back.
use Rattle.std.proofs.Common.{◌≡◌, ℕ, ◌<◌, Bool, false, cond, not, eqb, leb, List, [], ◌∷◌, length, get_or, set, Some, None, Option, unwrap_or, sym, refl, ap, ◌∙◌, subst, inl, inr, arith}
use Rattle.std.proofs.lemmas.Bool.{eq-eqb, ne_eqb, eqb-true, eqb-false, lt-leb, or_parts, or_from, not-false, not_from_true}
use Rattle.ir.specs.declared.entities.Value.{Value}
use Rattle.ir.specs.declared.entities.Type.{«Type» as Ty}
use Rattle.ir.specs.declared.value_data.ValueData.{ValueData}
use Rattle.ir.specs.declared.value_data.ValueData.TheVariants.{Inst, Param, Alias, Union}
use Rattle.ir.specs.Packing.{type, retired}
use Rattle.table.specs.Table.{Table}
use Rattle.values.specs.declared.kind.Kind.{Kind}
use Rattle.values.specs.declared.kind.Kind.TheVariants.{Root, Link, Gone}
use Rattle.values.specs.Leads.{kind, at, Exists, NonAlias, LiveAlias, Leads, here, step, leads_to}
use Rattle.values.proofs.Ways.{same_value, leads_some, some_leads, at_other, kind_other, non_alias_exists, live_alias_exists}
use Rattle.renaming.specs.Renames.{end_of}
use Rattle.model.specs.declared.fault.GraphFault.{GraphFault}
use Rattle.model.specs.declared.fault.GraphFault.TheVariants.{Unknown, Retired}
use Rattle.model.specs.Refusals.{Row, when, first_among, first, done, unless}
use Rattle.model.specs.State.{Graph, State, no_value, attached_by}
use Rattle.model.specs.Edits.{with_defs, types_differ, change_rows, aliased}
use Rattle.model.specs.Runs.{does, plain, is_plain, on_graph, change_to_alias}
use Rattle.model.specs.Laws.{AliasesLeadHome, Aliasing, Accepted, none, more, Away, DestsDiffer, NoDestIsAlias, FlattenAlike, OrderDoesNotMatter}
use Rattle.model.proofs.Rows.{Passes, graph_done, when_none, first_of_none}
use Rattle.model.proofs.Invariant.{Good}
use Rattle.model.proofs.OrderSwap.{to, moved}
use Rattle.model.proofs.Defs.{cases_value}
use Rattle.model.proofs.OrderTable.{gone_retired, root_usable, link_usable, Step, effect}
use Rattle.model.proofs.OrderRuns.{Linked, nothing, next, any_order}
use Rattle.model.proofs.OrderFlat.{flatten_alike}

-- aliasings change only definitions
abbrev state : Graph → Table → List ValueData → State
state g tb vs = record { graph = with_defs g vs; table = tb }

-- whatever may be used leads somewhere
abbrev Homes : List ValueData → Type 0
Homes vs = (v : Value) → retired (at vs v) ≡ false → (r : Value) × (leads_to vs v ≡ Some r)

not_gone : {A : Type 0} (x : ValueData) → retired x ≡ false → kind x ≡ Gone → A
not_gone x e k = let f = gone_retired x k in absurd cc

homes_of : (s : State) → AliasesLeadHome s → Homes s.graph.defs
homes_of s home v e = by (kind (at s.graph.defs v)) refl
  where
    by : (k : Kind) → kind (at s.graph.defs v) ≡ k → (r : Value) × (leads_to s.graph.defs v ≡ Some r)
    by Root k = (v, leads_some (here k))
    by (Link o) k = let t = home v o k in (t.0, leads_some t.2)
    by Gone k = not_gone (at s.graph.defs v) e k

homes_kept : (g : Graph) (vs : List ValueData) (a : Aliasing) (r : Value) → Step g vs a r → Homes vs → Homes (aliased vs a.dest r)
homes_kept g vs a r st h v e =
    let t = h v before in
    (to a.dest r t.0, effect g vs a r st v ∙ ap (moved a.dest r) t.1)
  where
    before : retired (at vs v) ≡ false
    before = elim (cases_value v a.dest) [
      | inl p ↦ ap (λ (w : Value). retired (at vs w)) p ∙ root_usable (at vs a.dest) st.root
      | inr ne ↦ sym (ap retired (at_other vs a.dest v _ ne)) ∙ e
    ]

-- attachment reads the lists and the value's own definition
attached_same : (g : Graph) (vs : List ValueData) (v : Value) (d : ValueData) → attached_by (with_defs g vs) v d ≡ attached_by g v d
attached_same g vs v (Inst ty n i) = refl
attached_same g vs v (Param ty n b) = refl
attached_same g vs v (Alias ty o) = refl
attached_same g vs v (Union ty x y) = refl

-- an accepted aliasing of a value that is no alias
module _ (g : Graph) (tb : Table) (vs : List ValueData) (a : Aliasing) (t : State)
    (accepted : does (change_to_alias a.dest a.source) (state g tb vs) ≡ done plain t)
    (homes : Homes vs) (no_alias : (o : Value) → LiveAlias vs a.dest o → ⊥) where
  abbrev goal : Value
  goal = end_of vs a.source

  passed : Passes (change_rows (with_defs g vs) a.dest a.source) × (state g tb (aliased vs a.dest goal) ≡ t)
  passed =
      graph_done (state g tb vs) is_plain (change_rows (with_defs g vs) a.dest a.source) tt
      (with_defs g (aliased vs a.dest goal)) plain t accepted

  both_usable : (k : ℕ) → k < 2 → retired (at vs (get_or (a.dest ∷ a.source ∷ []) k no_value)) ≡ false
  both_usable k h =
      first_of_none (λ v. retired (at vs v)) (λ v. Retired v.0) (a.dest ∷ a.source ∷ []) passed.0.1.0 no_value k h

  is_root : NonAlias vs a.dest
  is_root = by (kind (at vs a.dest)) refl
    where
      by : (k : Kind) → kind (at vs a.dest) ≡ k → NonAlias vs a.dest
      by Root k = k
      by (Link o) k = absurd (no_alias o k)
      by Gone k = not_gone (at vs a.dest) (both_usable 0 (omega arith)) k

  leads_there : leads_to vs a.source ≡ Some goal
  leads_there =
      let h = homes a.source (both_usable 1 (omega arith)) in
      h.1 ∙ ap Some (sym (ap (λ (o : Option Value). unwrap_or o a.source) h.1))

  alike : (not (eqb (type (at vs a.dest)).0 (type (at vs goal)).0) ≡ false) × (eqb (type (at vs a.dest)).0 0 ≡ false)
  alike = or_parts _ _ (when_none (types_differ (with_defs g vs) a.dest goal) _ passed.0.1.1.1.0)

  same_type : type (at vs goal) ≡ type (at vs a.dest)
  same_type = ap ty (sym (eqb-true _ _ (not-false _ alike.0)))
    where
      ty : ℕ → Ty
      ty n = record { 0 = n }

  pub step_of : Step g vs a goal
  step_of = record {
    root = is_root;
    free = sym (attached_same g vs a.dest (at vs a.dest)) ∙ when_none _ _ passed.0.1.1.0;
    typed = eqb-false _ _ alike.1;
    leads = leads_there;
    apart = λ p. eqb-false goal.0 a.dest.0 (when_none _ _ passed.0.1.1.1.1.0) (ap (λ (v : Value). v.0) p);
    same = same_type;
  }

  pub after_is : state g tb (aliased vs a.dest goal) ≡ t
  after_is = passed.1

-- such a step is accepted
rows_pass : (rows : List Row) → Passes rows → first rows ≡ None
rows_pass [] p = refl
rows_pass (r ∷ rows) p = ap (λ (x : Row). first (x ∷ rows)) p.0 ∙ rows_pass rows p.1

first_of_two : {A : Type 0} (fits : A → Bool) (fault : A → GraphFault) (x y : A) → fits x ≡ false → fits y ≡ false →
    first_among fits fault (x ∷ y ∷ []) ≡ None
first_of_two fits fault x y p q = λ i. cond (p i) (Some (fault x)) (cond (q i) (Some (fault y)) None)

when_false : (b : Bool) (f : GraphFault) → b ≡ false → when b f ≡ None
when_false b f e = ap (λ (x : Bool). when x f) e

module _ (g : Graph) (tb : Table) (vs : List ValueData) (a : Aliasing) (r : Value) (st : Step g vs a r) where
  end_is : end_of vs a.source ≡ r
  end_is = ap (λ (o : Option Value). unwrap_or o a.source) st.leads

  source_lives : (k : Kind) → kind (at vs a.source) ≡ k → Exists vs a.source × (retired (at vs a.source) ≡ false)
  source_lives Root k = (non_alias_exists vs a.source k, root_usable (at vs a.source) k)
  source_lives (Link o) k = (live_alias_exists vs a.source o k, link_usable (at vs a.source) o k)
  source_lives Gone k = dead (some_leads vs a.source r st.leads).1 k
    where
      dead : {A : Type 0} {v q : Value} {n : ℕ} → Leads vs v q n → kind (at vs v) ≡ Gone → A
      dead (here e) f = absurd cc
      dead (step e l) f = absurd cc

  differ_not : types_differ (with_defs g vs) a.dest (end_of vs a.source) ≡ false
  differ_not =
      or_from _ _
      (not_from_true _ (eq-eqb _ _ (ap (λ (ty : Ty). ty.0) (sym st.same ∙ sym (ap (λ (v : Value). type (at vs v)) end_is)))))
      (ne_eqb _ _ st.typed)

  passes_all : Passes (change_rows (with_defs g vs) a.dest a.source)
  passes_all =
      let lives = source_lives (kind (at vs a.source)) refl in (
        first_of_two (λ v. leb (length vs) v.0) (λ v. Unknown v.0) a.dest a.source
            (lt-leb _ _ (non_alias_exists vs a.dest st.root)) (lt-leb _ _ lives.0),
        (
          first_of_two (λ v. retired (at vs v)) (λ v. Retired v.0) a.dest a.source
              (root_usable (at vs a.dest) st.root) lives.1,
          (
            when_false _ _ (attached_same g vs a.dest (at vs a.dest) ∙ st.free),
            (
              when_false _ _ differ_not,
              (
                when_false _ _ (ne_eqb _ _ (λ p. st.apart (sym end_is ∙ same_value _ _ p))),
                tt,
              ),
            ),
          ),
        ),
      )

  pub step_does : does (change_to_alias a.dest a.source) (state g tb vs) ≡ done plain (state g tb (aliased vs a.dest r))
  step_does =
      ap (λ (x : Row). on_graph (state g tb vs) is_plain (unless x tt (with_defs g (aliased vs a.dest (end_of vs a.source)))))
      (rows_pass (change_rows (with_defs g vs) a.dest a.source) passes_all)
      ∙ ap (λ (v : Value). done plain (state g tb (aliased vs a.dest v))) end_is

accepted_of : {g : Graph} {vs ws : List ValueData} {es : List Aliasing} (tb : Table) → Linked g vs es ws →
    Accepted (state g tb vs) es (state g tb ws)
accepted_of tb nothing = none
accepted_of {g} tb (next {vs = vs} {a = a} r st l) = more (step_does g tb vs a r st) (accepted_of tb l)

-- other destinations stay what they are
no_alias_kept : (g : Graph) (tb : Table) (vs : List ValueData) (d : Value) (x : ValueData) (es : List Aliasing) → Away d es →
    NoDestIsAlias (state g tb vs) es → NoDestIsAlias (state g tb (set vs d.0 x)) es
no_alias_kept g tb vs d x [] away h = tt
no_alias_kept g tb vs d x (a ∷ es) away h =
    (λ o k. h.0 o (sym (kind_other vs d a.dest x away.0) ∙ k), no_alias_kept g tb vs d x es away.1 h.1)

linked_of : {s t : State} {es : List Aliasing} → Accepted s es t → (g : Graph) (tb : Table) (vs : List ValueData) →
    s ≡ state g tb vs → Homes vs → DestsDiffer es → NoDestIsAlias (state g tb vs) es →
    (ws : List ValueData) × (t ≡ state g tb ws) × Linked g vs es ws
linked_of none g tb vs e homes differ no_alias = (vs, e, nothing)
linked_of (more {t = t} {a = a} {rest = rest} h l) g tb vs e homes differ no_alias =
    let h' = sym (ap (does (change_to_alias a.dest a.source)) e) ∙ h in
    let st : Step g vs a (end_of vs a.source) = step_of g tb vs a t h' homes no_alias.0 in
    let i = linked_of l g tb (aliased vs a.dest (end_of vs a.source)) (sym (after_is g tb vs a t h' homes no_alias.0))
    (homes_kept g vs a (end_of vs a.source) st homes) differ.1 (no_alias_kept g tb vs a.dest _ rest differ.0 no_alias.1) in
    (i.0, i.1, next (end_of vs a.source) st i.2)

-- The law needs of the invariant only that aliases lead home.
pub order_does_not_matter : (s : State) → Good s → OrderDoesNotMatter s
order_does_not_matter s good es fs t accepted differ no_alias order =
    let i = linked_of accepted s.graph s.table s.graph.defs refl (homes_of s good.home) differ no_alias in
    let j = any_order order i.2 in (
      state s.graph s.table j.0,
      accepted_of s.table j.1,
      subst (λ (x : State). FlattenAlike x (state s.graph s.table j.0)) (sym i.1)
          (flatten_alike i.0 j.0 j.2 s.graph s.table),
    )
