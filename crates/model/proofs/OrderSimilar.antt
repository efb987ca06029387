-- Tables that differ only in the originals of live aliases: they take the same aliasings, and two neighbouring aliasings
-- in either order give such tables.
use Rattle.std.proofs.Common.{◌≡◌, ◌≢◌, ◌⊎◌, List, length, set, Some, sym, refl, ap, ◌∙◌, subst₂, inl, inr, length-set}
use Rattle.ir.specs.declared.entities.Value.{Value}
use Rattle.ir.specs.declared.entities.Type.{«Type» as Ty}
use Rattle.ir.specs.declared.value_data.ValueData.{ValueData}
use Rattle.ir.specs.declared.value_data.ValueData.TheVariants.{Alias}
use Rattle.ir.specs.Packing.{type}
use Rattle.values.specs.declared.kind.Kind.TheVariants.{Root, Link}
use Rattle.values.specs.Leads.{kind, at, Exists, leads_to}
use Rattle.values.proofs.Ways.{at_same, at_other, kind_other, non_alias_exists}
use Rattle.model.specs.State.{Graph, value, attached_by}
use Rattle.model.specs.Edits.{aliased}
use Rattle.model.specs.Laws.{Aliasing}
use Rattle.model.proofs.OrderSwap.{to, moved, Near, swap_apart₁, swap_apart₂, swap_type₁, swap_type₂, swap_moved}
use Rattle.model.proofs.Defs.{cases_value}
use Rattle.model.proofs.OrderTable.{apart_numbers, Step, effect, alias_placed, type_placed}

-- one definition, or two live aliases of one type
abbrev pub Like : ValueData → ValueData → Type 0
Like x y = (x ≡ y) ⊎ ((o : Value) × (p : Value) × (kind x ≡ Link o) × (kind y ≡ Link p) × (type x ≡ type y))

pub record Similar (vs ws : List ValueData) : Type 0 where
  pub long : length vs ≡ length ws
  pub like : (v : Value) → Like (at vs v) (at ws v)
  pub leads : (v : Value) → leads_to vs v ≡ leads_to ws v

like_type : {x y : ValueData} → Like x y → type x ≡ type y
like_type (inl p) = ap type p
like_type (inr t) = t.4

-- what is no alias is the same
like_root : {x y : ValueData} → Like x y → kind x ≡ Root → x ≡ y
like_root (inl p) e = p
like_root {x} (inr t) e = let k : kind x ≡ Link t.0 = t.2 in absurd cc

like_trans : {x y z : ValueData} → Like x y → Like y z → Like x z
like_trans (inl p) (inl q) = inl (p ∙ q)
like_trans (inl p) (inr t) = inr (t.0, t.1, ap kind p ∙ t.2, t.3, ap type p ∙ t.4)
like_trans (inr t) (inl q) = inr (t.0, t.1, t.2, sym (ap kind q) ∙ t.3, t.4 ∙ ap type q)
like_trans (inr t) (inr u) = inr (t.0, u.1, t.2, u.3, t.4 ∙ u.4)

like_eq : {a b x y : ValueData} → a ≡ x → b ≡ y → Like x y → Like a b
like_eq p q l = subst₂ Like (sym p) (sym q) l

like_set : (vs ws : List ValueData) (d : Value) (x y : ValueData) → Exists vs d → Exists ws d → Like x y →
    ((v : Value) → Like (at vs v) (at ws v)) → (v : Value) → Like (at (set vs d.0 x) v) (at (set ws d.0 y) v)
like_set vs ws d x y i j l f v = elim (cases_value v d) [
  | inl p ↦ like_eq (ap (at (set vs d.0 x)) p ∙ at_same vs d x i) (ap (at (set ws d.0 y)) p ∙ at_same ws d y j) l
  | inr ne ↦ like_eq (at_other vs d v x ne) (at_other ws d v y ne) (f v)
]

pub similar_refl : (vs : List ValueData) → Similar vs vs
similar_refl vs = record { long = refl; like = λ v. inl refl; leads = λ v. refl }

pub similar_trans : {vs ws xs : List ValueData} → Similar vs ws → Similar ws xs → Similar vs xs
similar_trans a b = record {
  long = a.long ∙ b.long;
  like = λ v. like_trans (a.like v) (b.like v);
  leads = λ v. a.leads v ∙ b.leads v;
}

-- similar tables take the same aliasing, and stay similar
module _ (g : Graph) (vs ws : List ValueData) (a : Aliasing) (r : Value) (si : Similar vs ws) (st : Step g vs a r) where
  unchanged : at vs a.dest ≡ at ws a.dest
  unchanged = like_root (si.like a.dest) st.root

  pub similar_step : Step g ws a r
  similar_step = record {
    root = sym (ap kind unchanged) ∙ st.root;
    free = sym (ap (attached_by g a.dest) unchanged) ∙ st.free;
    typed = λ z. st.typed (ap (λ (d : ValueData). (type d).0) unchanged ∙ z);
    leads = sym (si.leads a.source) ∙ st.leads;
    apart = st.apart;
    same = sym (like_type (si.like r)) ∙ st.same ∙ ap type unchanged;
  }

  pub similar_placed : Similar (aliased vs a.dest r) (aliased ws a.dest r)
  similar_placed = record {
    long = length-set vs a.dest.0 _ ∙ si.long ∙ sym (length-set ws a.dest.0 _);
    like = like_set vs ws a.dest _ _ (non_alias_exists vs a.dest st.root) (non_alias_exists ws a.dest similar_step.root)
        (inl (ap (λ (ty : Ty). Alias ty r) (like_type (si.like r)))) si.like;
    leads = λ v. effect g vs a r st v ∙ ap (moved a.dest r) (si.leads v) ∙ sym (effect g ws a r similar_step v);
  }

-- two aliasings change places
module _ (g : Graph) (vs : List ValueData) (a₁ a₂ : Aliasing) (r₁ q₂ : Value) (s₁ : Step g vs a₁ r₁)
    (l₂ : leads_to vs a₂.source ≡ Some q₂) (s₂ : Step g (aliased vs a₁.dest r₁) a₂ (to a₁.dest r₁ q₂)) where
  abbrev one : List ValueData
  one = aliased vs a₁.dest r₁

  abbrev end₂ : Value
  end₂ = to a₁.dest r₁ q₂

  abbrev end₁ : Value
  end₁ = to a₂.dest q₂ r₁

  differ : a₁.dest ≢ a₂.dest
  differ p =
      let root : kind (at one a₁.dest) ≡ Root = ap (λ (v : Value). kind (at one v)) p ∙ s₂.root in
      let link : kind (at one a₁.dest) ≡ Link r₁ = alias_placed g vs a₁ r₁ s₁ in cc

  differ' : a₂.dest ≢ a₁.dest
  differ' p = differ (sym p)

  near : Near (λ n. type (at vs (value n))) a₁.dest a₂.dest r₁ q₂
  near = record {
    differ = apart_numbers a₁.dest a₂.dest differ;
    apart₁ = apart_numbers r₁ a₁.dest s₁.apart;
    type₁ = s₁.same;
    apart₂ = apart_numbers end₂ a₂.dest s₂.apart;
    type₂ = sym (type_placed g vs a₁ r₁ s₁ end₂) ∙ s₂.same ∙ type_placed g vs a₁ r₁ s₁ a₂.dest;
  }

  kept₂ : at one a₂.dest ≡ at vs a₂.dest
  kept₂ = at_other vs a₁.dest a₂.dest _ differ'

  pub first : Step g vs a₂ q₂
  first = record {
    root = sym (ap kind kept₂) ∙ s₂.root;
    free = sym (ap (attached_by g a₂.dest) kept₂) ∙ s₂.free;
    typed = λ z. s₂.typed (ap (λ (d : ValueData). (type d).0) kept₂ ∙ z);
    leads = l₂;
    apart = λ p. swap_apart₂ near (ap (λ (v : Value). v.0) p);
    same = swap_type₂ near;
  }

  abbrev two : List ValueData
  two = aliased vs a₂.dest q₂

  kept₁ : at two a₁.dest ≡ at vs a₁.dest
  kept₁ = at_other vs a₂.dest a₁.dest _ differ

  pub second : Step g two a₁ end₁
  second = record {
    root = ap kind kept₁ ∙ s₁.root;
    free = ap (attached_by g a₁.dest) kept₁ ∙ s₁.free;
    typed = λ z. s₁.typed (sym (ap (λ (d : ValueData). (type d).0) kept₁) ∙ z);
    leads = effect g vs a₂ q₂ first a₁.source ∙ ap (moved a₂.dest q₂) s₁.leads;
    apart = λ p. swap_apart₁ near (ap (λ (v : Value). v.0) p);
    same = type_placed g vs a₂ q₂ first end₁ ∙ swap_type₁ near ∙ sym (type_placed g vs a₂ q₂ first a₁.dest);
  }

  abbrev left : List ValueData
  left = aliased one a₂.dest end₂

  abbrev pub right : List ValueData
  right = aliased two a₁.dest end₁

  types_same : (v : Value) → type (at left v) ≡ type (at right v)
  types_same v =
      type_placed g one a₂ end₂ s₂ v ∙ type_placed g vs a₁ r₁ s₁ v
      ∙ sym (type_placed g two a₁ end₁ second v ∙ type_placed g vs a₂ q₂ first v)

  like_swap : (v : Value) → Like (at left v) (at right v)
  like_swap v = elim (cases_value v a₁.dest) [
    | inl p ↦ inr (
      r₁,
      end₁,
      ap (λ (w : Value). kind (at left w)) p ∙ kind_other one a₂.dest a₁.dest _ differ ∙ alias_placed g vs a₁ r₁ s₁,
      ap (λ (w : Value). kind (at right w)) p ∙ alias_placed g two a₁ end₁ second,
      types_same v,
    )
    | inr n ↦ elim (cases_value v a₂.dest) [
      | inl p ↦ inr (
        end₂,
        q₂,
        ap (λ (w : Value). kind (at left w)) p ∙ alias_placed g one a₂ end₂ s₂,
        ap (λ (w : Value). kind (at right w)) p ∙ kind_other two a₁.dest a₂.dest _ differ' ∙ alias_placed g vs a₂ q₂ first,
        types_same v,
      )
      | inr m ↦ inl (at_other one a₂.dest v _ m ∙ at_other vs a₁.dest v _ n
          ∙ sym (at_other two a₁.dest v _ n ∙ at_other vs a₂.dest v _ m))
    ]
  ]

  pub similar_swap : Similar left right
  similar_swap = record {
    long =
        length-set one a₂.dest.0 _ ∙ length-set vs a₁.dest.0 _
        ∙ sym (length-set two a₁.dest.0 _ ∙ length-set vs a₂.dest.0 _);
    like = like_swap;
    leads = λ v.
        effect g one a₂ end₂ s₂ v
        ∙ ap (moved a₂.dest end₂) (effect g vs a₁ r₁ s₁ v)
        ∙ swap_moved near (leads_to vs v)
        ∙ sym (ap (moved a₁.dest end₁) (effect g vs a₂ q₂ first v))
        ∙ sym (effect g two a₁ end₁ second v);
  }
