-- One aliasing of a value that is no alias, as it acts on what each value leads to.
use Rattle.std.proofs.Common.{◌≡◌, ℕ, suc, true, false, ◌≢◌, List, Some, None, Option, sym, refl, ap, ◌∙◌, inl, inr}
use Rattle.std.proofs.lemmas.Bool.{eq-eqb, ne_eqb, cases_Bool}
use Rattle.ir.specs.declared.entities.Value.{Value}
use Rattle.ir.specs.declared.entities.Type.{«Type» as Ty}
use Rattle.ir.specs.declared.value_data.ValueData.{ValueData}
use Rattle.ir.specs.declared.value_data.ValueData.TheVariants.{Alias}
use Rattle.ir.specs.Packing.{type, retired}
use Rattle.values.specs.declared.kind.Kind.TheVariants.{Root, Link, Gone}
use Rattle.values.specs.Leads.{kind, at, NonAlias, Leads, here, step, leads_to}
use Rattle.values.proofs.Ways.{same_value, leads_some, some_leads, end, at_same, kind_other, non_alias_exists}
use Rattle.model.specs.State.{Graph, attached_by}
use Rattle.model.specs.Edits.{aliased}
use Rattle.model.specs.Laws.{Aliasing}
use Rattle.model.proofs.Defs.{cases_value, gone_mark, type_set, typed_link}
use Rattle.model.proofs.OrderSwap.{to, moved}
use Rattle.model.proofs.FlatParts.{retired_gone}

-- different values have different numbers
pub apart_numbers : (v w : Value) → v ≢ w → v.0 ≢ w.0
apart_numbers v w h p = h (same_value v w p)

to_here : (d r q : Value) → q ≡ d → to d r q ≡ r
to_here d r q p = rw (eq-eqb q.0 d.0 (ap (λ (x : Value). x.0) p))

to_other : (d r q : Value) → q ≢ d → to d r q ≡ q
to_other d r q h = rw (ne_eqb q.0 d.0 (apart_numbers q d h))

-- every definition but the retired mark may be used
usable : (x : ValueData) → (kind x ≡ Gone → ⊥) → retired x ≡ false
usable x h = elim (cases_Bool (retired x)) [ inl e ↦ absurd (h (retired_gone x e)) | inr e ↦ e ]

pub gone_retired : (x : ValueData) → kind x ≡ Gone → retired x ≡ true
gone_retired x e = ap retired (gone_mark x e)

pub root_usable : (x : ValueData) → kind x ≡ Root → retired x ≡ false
root_usable x e = usable x (λ f. cc)

pub link_usable : (x : ValueData) (o : Value) → kind x ≡ Link o → retired x ≡ false
link_usable x o e = usable x (λ f. cc)

-- An aliasing of a value that is no alias now, of what the source leads to; g has the lists.
pub record Step (g : Graph) (vs : List ValueData) (a : Aliasing) (r : Value) : Type 0 where
  pub root : NonAlias vs a.dest
  pub free : attached_by g a.dest (at vs a.dest) ≡ false
  pub typed : (type (at vs a.dest)).0 ≢ 0
  pub leads : leads_to vs a.source ≡ Some r
  pub apart : r ≢ a.dest
  pub same : type (at vs r) ≡ type (at vs a.dest)

-- What an aliasing does: what led to d now leads to r.
module _ (g : Graph) (vs : List ValueData) (a : Aliasing) (r : Value) (st : Step g vs a r) where
  abbrev new : ValueData
  new = Alias (type (at vs r)) r

  abbrev after : List ValueData
  after = aliased vs a.dest r

  pub alias_placed : kind (at after a.dest) ≡ Link r
  alias_placed =
      ap kind (at_same vs a.dest new (non_alias_exists vs a.dest st.root))
      ∙ typed_link (type (at vs r)) r (λ z. st.typed (ap (λ (ty : Ty). ty.0) (sym st.same) ∙ z))

  pub type_placed : (v : Value) → type (at after v) ≡ type (at vs v)
  type_placed v = type_set vs a.dest.0 new st.same v.0

  end_root : NonAlias vs r
  end_root = end (some_leads vs a.source r st.leads).1

  fore : {v q : Value} {n : ℕ} → Leads vs v q n → (m : ℕ) × Leads after v (to a.dest r q) m
  fore (here {v = v} k) = elim (cases_value v a.dest) [
    | inl p ↦ rw (to_here a.dest r v p) (1, rw p (step alias_placed (here (kind_other vs a.dest r new st.apart ∙ end_root))))
    | inr ne ↦ rw (to_other a.dest r v ne) (0, here (kind_other vs a.dest v new ne ∙ k))
  ]
  fore (step {v = v} {original = o} k l) =
      let i = fore l in
      let ne : v ≢ a.dest = λ p. let e : kind (at vs v) ≡ Root = ap (λ (w : Value). kind (at vs w)) p ∙ st.root in cc in
      (suc i.0, step (kind_other vs a.dest v new ne ∙ k) i.1)

  back : {v q : Value} {n : ℕ} → Leads after v q n → (p : Value) × (m : ℕ) × Leads vs v p m
  back (here {v = v} k) = elim (cases_value v a.dest) [
    | inl p ↦ (v, 0, here (ap (λ (w : Value). kind (at vs w)) p ∙ st.root))
    | inr ne ↦ (v, 0, here (sym (kind_other vs a.dest v new ne) ∙ k))
  ]
  back (step {v = v} k l) =
      let i = back l in
      elim (cases_value v a.dest) [
        | inl p ↦ (v, 0, here (ap (λ (w : Value). kind (at vs w)) p ∙ st.root))
        | inr ne ↦ (i.0, suc i.1, step (sym (kind_other vs a.dest v new ne) ∙ k) i.2)
      ]

  pub effect : (v : Value) → leads_to after v ≡ moved a.dest r (leads_to vs v)
  effect v = by (leads_to vs v) refl (leads_to after v) refl
    where
      by : (x : Option Value) → leads_to vs v ≡ x → (y : Option Value) → leads_to after v ≡ y →
          leads_to after v ≡ moved a.dest r (leads_to vs v)
      by (Some q) p y z = leads_some (fore (some_leads vs v q p).1).1 ∙ sym (ap (moved a.dest r) p)
      by None p None z = z ∙ sym (ap (moved a.dest r) p)
      by None p (Some q) z =
          let t = back (some_leads after v q z).1 in
          let w : leads_to vs v ≡ Some t.0 = leads_some t.2 in
          absurd cc
