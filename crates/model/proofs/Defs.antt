-- What becomes of definitions when one is added or changed: aliases still lead home, union sides are still usable, and
-- what could be used still can.
use Rattle.std.proofs.Common.{◌≡◌, ℕ, zero, suc, ◌+◌, ◌-◌, ◌<◌, ◌≤◌, Bool, true, false, cond, eqb, ltb, ◌≢◌, ◌⊎◌, List, [], ◌∷◌, ◌++◌, length, get_or, set, Some, None, Option, sym, refl, ap, ◌∙◌, subst, inl, inr, arith, length-set}
use Rattle.std.proofs.lemmas.List.{get_or_append_left, get_or_past, get_or_push, length_push, set-get_or}
use Rattle.std.proofs.lemmas.Bool.{and_parts, cases_eq, cases_order, eqb-true, ne_eqb, cond-true, cond-false, le-ltb, lt-ltb}
use Rattle.ir.specs.declared.entities.Value.{Value}
use Rattle.ir.specs.declared.entities.Inst.{Inst as InstId}
use Rattle.ir.specs.declared.entities.Type.{«Type» as Ty}
use Rattle.ir.specs.declared.value_data.ValueData.{ValueData}
use Rattle.ir.specs.declared.value_data.ValueData.TheVariants.{Inst, Param, Alias, Union}
use Rattle.ir.specs.Packing.{type, retired, retired_mark}
use Rattle.values.specs.declared.kind.Kind.{Kind}
use Rattle.values.specs.declared.kind.Kind.TheVariants.{Root, Link, Gone}
use Rattle.values.specs.Leads.{at, kind, Exists, LiveAlias, NonAlias, Leads, here, step}
use Rattle.values.proofs.Ways.{same_value, unique, end, at_same, at_other, kind_other, non_alias_exists, live_alias_exists, short}
use Rattle.model.specs.State.{value, no_value}
use Rattle.model.specs.Edits.{aliased, aliased_each, number, numbered, lowered, moved, defined, seats, seated}
use Rattle.model.specs.Laws.{Usable}

pub same_type : (a b : Ty) → a.0 ≡ b.0 → a ≡ b
same_type a b p = ap (λ (n : ℕ). let u : Ty = record { 0 = n } in u) p

pub cases_value : (a b : Value) → (a ≡ b) ⊎ (a ≢ b)
cases_value a b = elim (cases_eq a.0 b.0) [
  | inl p ↦ inl (same_value a b p)
  | inr h ↦ inr (λ e. h (ap (λ (v : Value). v.0) e))
]

-- Usable values are those whose kind is not Gone.

-- only the retired mark is gone
pub gone_mark : (d : ValueData) → kind d ≡ Gone → d ≡ retired_mark
gone_mark (Inst ty n i) e = absurd cc
gone_mark (Param ty n b) e = absurd cc
gone_mark (Union ty x y) e = absurd cc
gone_mark (Alias ty o) e = by (retired (Alias ty o)) refl e
  where
    by : (b : Bool) → retired (Alias ty o) ≡ b → cond b Gone (Link o) ≡ Gone → Alias ty o ≡ retired_mark
    by false p q = absurd cc
    by true p q =
        let h = and_parts (eqb ty.0 0) (eqb o.0 0xFFFF_FFFF) p in
        let t = same_type ty (record { 0 = 0 }) (eqb-true ty.0 0 h.0) in
        let u = same_value o (record { 0 = 0xFFFF_FFFF }) (eqb-true o.0 0xFFFF_FFFF h.1) in
        cc

pub usable_kind : (ds : List ValueData) (v : Value) → Usable ds v → kind (at ds v) ≢ Gone
usable_kind ds v u e = u.1 (u.0, gone_mark (at ds v) e)

pub kind_usable : (ds : List ValueData) (v : Value) → kind (at ds v) ≢ Gone → Usable ds v
kind_usable ds v h = (by (kind (at ds v)) refl, λ r. h (ap kind r.1))
  where
    by : (k : Kind) → kind (at ds v) ≡ k → Exists ds v
    by Root e = non_alias_exists ds v e
    by (Link o) e = live_alias_exists ds v o e
    by Gone e = absurd (h e)

pub root_usable : (ds : List ValueData) (v : Value) → NonAlias ds v → Usable ds v
root_usable ds v e = kind_usable ds v (λ f. cc)

pub link_usable : (ds : List ValueData) (v o : Value) → LiveAlias ds v o → Usable ds v
link_usable ds v o e = kind_usable ds v (λ f. cc)

pub leads_usable : {ds : List ValueData} {v r : Value} {n : ℕ} → Leads ds v r n → Usable ds v
leads_usable {ds} (here {v = v} e) = root_usable ds v e
leads_usable {ds} (step {v = v} {original = o} e l) = link_usable ds v o e

-- what holds of the definitions of every good state

abbrev pub Home : List ValueData → Type 0
Home ds =
    (v original : Value) → LiveAlias ds v original →
    (r : Value) × (n : ℕ) × Leads ds v r n × (n < length ds) × NonAlias ds r × (type (at ds r) ≡ type (at ds v))

abbrev pub Sides : List ValueData → Type 0
Sides ds = (v x y : Value) (ty : Ty) → at ds v ≡ Union ty x y → Usable ds x × Usable ds y

pub record Sound (ds : List ValueData) : Type 0 where
  pub home : Home ds
  pub sides : Sides ds

-- es come after ds: they are sound, what could be used still can, and no value is lost or gets another type
pub record Kept (ds es : List ValueData) : Type 0 where
  pub home : Home es
  pub sides : Sides es
  pub keeps : (v : Value) → Usable ds v → Usable es v
  pub types : (v : Value) → Exists ds v → type (at es v) ≡ type (at ds v)
  pub grows : length ds ≤ length es

pub kept_sound : {ds es : List ValueData} → Kept ds es → Sound es
kept_sound k = record { home = k.home; sides = k.sides }

pub kept_same : (ds : List ValueData) → Sound ds → Kept ds ds
kept_same ds S = record { home = S.home; sides = S.sides; keeps = λ v u. u; types = λ v h. refl; grows = omega arith }

pub kept_both : {ds es fs : List ValueData} → Kept ds es → Kept es fs → Kept ds fs
kept_both {ds} {es} {fs} k l = record {
  home = l.home;
  sides = l.sides;
  keeps = λ v u. l.keeps v (k.keeps v u);
  types = λ v h. l.types v (omega (arith, k.grows)) ∙ k.types v h;
  grows = omega (arith, k.grows, l.grows);
}

-- the sides of a definition, if it has any, are usable

abbrev pub SidesOf : List ValueData → ValueData → Type 0
SidesOf ds (Inst ty n i) = Unit {0}
SidesOf ds (Param ty n b) = Unit {0}
SidesOf ds (Alias ty o) = Unit {0}
SidesOf ds (Union ty x y) = Usable ds x × Usable ds y

sides_at : (ds : List ValueData) → Sides ds → (v : Value) → SidesOf ds (at ds v)
sides_at ds s v = by (at ds v) refl
  where
    by : (d : ValueData) → at ds v ≡ d → SidesOf ds d
    by (Inst ty n i) e = tt
    by (Param ty n b) e = tt
    by (Alias ty o) e = tt
    by (Union ty x y) e = s v x y ty e

sides_kept : (ds es : List ValueData) → ((v : Value) → Usable ds v → Usable es v) → (d : ValueData) → SidesOf ds d →
    SidesOf es d
sides_kept ds es keeps (Inst ty n i) s = tt
sides_kept ds es keeps (Param ty n b) s = tt
sides_kept ds es keeps (Alias ty o) s = tt
sides_kept ds es keeps (Union ty x y) s = (keeps x s.0, keeps y s.1)

-- in a sound table a value has the type of what it leads to
pub leads_type : {ds : List ValueData} {v r : Value} {n : ℕ} → Home ds → Leads ds v r n → type (at ds r) ≡ type (at ds v)
leads_type S (here e) = refl
leads_type {ds} {r = r} S (step {v = v} {original = o} e l) =
    let s = S v o e in
    let p : s.0 ≡ r = (unique s.2 (step e l)).0 in
    ap (λ (x : Value). type (at ds x)) (sym p) ∙ s.5

-- and a usable value leads somewhere
pub usable_leads : (ds : List ValueData) → Home ds → (v : Value) → Usable ds v → (r : Value) × (n : ℕ) × Leads ds v r n
usable_leads ds S v u = by (kind (at ds v)) refl
  where
    by : (k : Kind) → kind (at ds v) ≡ k → (r : Value) × (n : ℕ) × Leads ds v r n
    by Root e = (v, 0, here e)
    by (Link o) e = let s = S v o e in (s.0, s.1, s.2)
    by Gone e = absurd (usable_kind ds v u e)

-- a definition of the same type in place of another keeps all types
pub type_set : (ds : List ValueData) (i : ℕ) (x : ValueData) → type x ≡ type (get_or ds i retired_mark) →
    (j : ℕ) → type (get_or (set ds i x) j retired_mark) ≡ type (get_or ds j retired_mark)
type_set [] i x e j = refl
type_set (d ∷ ds) zero x e zero = e
type_set (d ∷ ds) zero x e (suc j) = refl
type_set (d ∷ ds) (suc i) x e zero = refl
type_set (d ∷ ds) (suc i) x e (suc j) = type_set ds i x e j

-- Another definition of d, of its type, that leads to a value of its type.
module _ (ds : List ValueData) (d : Value) (x : ValueData) (S : Sound ds) (same : type x ≡ type (at ds d)) (sided : SidesOf ds x)
    (q : Value) (m : ℕ) (new : Leads (set ds d.0 x) d q m) (typed : type (at ds q) ≡ type (at ds d)) where
  abbrev Ends : Value → Type 0
  Ends v = (p : Value) × (k : ℕ) × Leads (set ds d.0 x) v p k × (type (at ds p) ≡ type (at ds v))

  -- what led somewhere still does
  still : {v r : Value} {n : ℕ} → Leads ds v r n → Ends v
  still {v} (here e) = elim (cases_value v d) [
    | inl p ↦ subst Ends (sym p) (q, m, new, typed)
    | inr ne ↦ (v, 0, here (kind_other ds d v x ne ∙ e), refl)
  ]
  still {v} (step {original = o} {n = n} e l) =
      let i = still l in
      elim (cases_value v d) [
        | inl p ↦ subst Ends (sym p) (q, m, new, typed)
        | inr ne ↦ (
          i.0,
          suc i.1,
          step (kind_other ds d v x ne ∙ e) i.2,
          i.3 ∙ sym (leads_type S.home l) ∙ leads_type S.home (step e l),
        )
      ]

  types_set : (v : Value) → type (at (set ds d.0 x) v) ≡ type (at ds v)
  types_set v = type_set ds d.0 x same v.0

  keeps_set : (v : Value) → Usable ds v → Usable (set ds d.0 x) v
  keeps_set v u = let t = usable_leads ds S.home v u in leads_usable (still t.2).2

  home_set : Home (set ds d.0 x)
  home_set v o e =
      let i : Ends v = elim (cases_value v d) [
        | inl p ↦ subst Ends (sym p) (q, m, new, typed)
        | inr ne ↦ still (S.home v o (sym (kind_other ds d v x ne) ∙ e)).2
      ] in
      (i.0, i.1, i.2, short i.2, end i.2, types_set i.0 ∙ i.3 ∙ sym (types_set v))

  sides_set : (v : Value) → SidesOf (set ds d.0 x) (at (set ds d.0 x) v)
  sides_set v = elim (cases_value v d) [
    | inl p ↦
        let h : Exists ds d = simp length-set at (leads_usable new).0 in
        subst (SidesOf (set ds d.0 x)) (sym (ap (at (set ds d.0 x)) p ∙ at_same ds d x h))
        (sides_kept ds (set ds d.0 x) keeps_set x sided)
    | inr ne ↦
        subst (SidesOf (set ds d.0 x)) (sym (at_other ds d v x ne))
        (sides_kept ds (set ds d.0 x) keeps_set (at ds v) (sides_at ds S.sides v))
  ]

  pub kept_set : Kept ds (set ds d.0 x)
  kept_set = record {
    home = home_set;
    sides = λ v a b ty e. subst (SidesOf (set ds d.0 x)) e (sides_set v);
    keeps = keeps_set;
    types = λ v h. types_set v;
    grows = simp length-set (omega arith);
  }

-- a definition that is no alias, in place of one of its type
pub kept_redefined : (ds : List ValueData) (d : Value) (x : ValueData) → Sound ds → Exists ds d → kind x ≡ Root →
    SidesOf ds x → type x ≡ type (at ds d) → Kept ds (set ds d.0 x)
kept_redefined ds d x S h k s e = kept_set ds d x S e s d 0 (here (ap kind (at_same ds d x h) ∙ k)) refl

-- an alias with a type is live
pub typed_link : (ty : Ty) (o : Value) → ty.0 ≢ 0 → kind (Alias ty o) ≡ Link o
typed_link ty o h = rw (ne_eqb ty.0 0 h)

-- d an alias of r, which leads to itself
pub kept_aliased : (ds : List ValueData) (d r : Value) → Sound ds → Exists ds d → NonAlias ds r → r ≢ d →
    type (at ds r) ≡ type (at ds d) → (type (at ds d)).0 ≢ 0 → Kept ds (aliased ds d r)
kept_aliased ds d r S h root apart same typed =
    let x : ValueData = Alias (type (at ds r)) r in
    let link : LiveAlias (aliased ds d r) d r =
    ap kind (at_same ds d x h) ∙ typed_link (type (at ds r)) r (λ z. typed (ap (λ (t : Ty). t.0) (sym same) ∙ z)) in
    kept_set ds d x S same tt r 1 (step link (here (kind_other ds d r x apart ∙ root))) same

-- One definition more, which is no alias.

at_push : (ds : List ValueData) (x : ValueData) (v : Value) → Exists ds v → at (ds ++ x ∷ []) v ≡ at ds v
at_push ds x v h = get_or_append_left ds (x ∷ []) retired_mark v.0 h

leads_push : {ds : List ValueData} {v r : Value} {n : ℕ} → Leads ds v r n → (x : ValueData) → Leads (ds ++ x ∷ []) v r n
leads_push {ds} (here {v = v} e) x = here (ap kind (at_push ds x v (non_alias_exists ds v e)) ∙ e)
leads_push {ds} (step {v = v} {original = o} e l) x =
    step (ap kind (at_push ds x v (live_alias_exists ds v o e)) ∙ e) (leads_push l x)

module _ (ds : List ValueData) (x : ValueData) (S : Sound ds) (root : kind x ≡ Root) (sided : SidesOf ds x) where
  keeps_push : (v : Value) → Usable ds v → Usable (ds ++ x ∷ []) v
  keeps_push v u = kind_usable (ds ++ x ∷ []) v (λ e. usable_kind ds v u (sym (ap kind (at_push ds x v u.0)) ∙ e))

  -- an entry is one of before, the new one, or none
  old_or_new : (v : Value) → Exists ds v ⊎ ((at (ds ++ x ∷ []) v ≡ x) ⊎ (at (ds ++ x ∷ []) v ≡ retired_mark))
  old_or_new v = elim (cases_order v.0 (length ds)) [
    | inl p ↦ inr (inl (get_or_push ds x retired_mark v.0 (sym p)))
    | inr w ↦ elim w [
      | inl h ↦ inl h
      | inr h ↦ inr (inr (get_or_past (ds ++ x ∷ []) v.0 retired_mark (omega (arith, length_push ds x))))
    ]
  ]

  home_push : Home (ds ++ x ∷ [])
  home_push v o e = elim (old_or_new v) [
    | inl h ↦
        let q = S.home v o (sym (ap kind (at_push ds x v h)) ∙ e) in
        let l : Leads (ds ++ x ∷ []) v q.0 q.1 = leads_push q.2 x in (
          q.0,
          q.1,
          l,
          short l,
          end l,
          ap type (at_push ds x q.0 (non_alias_exists ds q.0 q.4)) ∙ q.5 ∙ sym (ap type (at_push ds x v h)),
        )
    | inr w ↦ elim w [
      | inl p ↦ let y : Root ≡ Link o = sym root ∙ sym (ap kind p) ∙ e in absurd cc
      | inr p ↦ let y : Gone ≡ Link o = sym (ap kind p) ∙ e in absurd cc
    ]
  ]

  sides_push : (v : Value) → SidesOf (ds ++ x ∷ []) (at (ds ++ x ∷ []) v)
  sides_push v = elim (old_or_new v) [
    | inl h ↦
        subst (SidesOf (ds ++ x ∷ [])) (sym (at_push ds x v h))
        (sides_kept ds (ds ++ x ∷ []) keeps_push (at ds v) (sides_at ds S.sides v))
    | inr w ↦ elim w [
      | inl p ↦ subst (SidesOf (ds ++ x ∷ [])) (sym p) (sides_kept ds (ds ++ x ∷ []) keeps_push x sided)
      | inr p ↦ subst (SidesOf (ds ++ x ∷ [])) (sym p) tt
    ]
  ]

  pub kept_push : Kept ds (ds ++ x ∷ [])
  kept_push = record {
    home = home_push;
    sides = λ v a b ty e. subst (SidesOf (ds ++ x ∷ [])) e (sides_push v);
    keeps = keeps_push;
    types = λ v h. ap type (at_push ds x v h);
    grows = omega (arith, length_push ds x);
  }

-- The edits' own ways to change definitions.

-- another place for a parameter, and nothing for what is none
pub kept_numbered : (ds : List ValueData) (v : Value) (n : ℕ) → Sound ds → Kept ds (set ds v.0 (numbered n (at ds v)))
kept_numbered ds v n S = by (at ds v) refl
  where
    same : Kept ds (set ds v.0 (at ds v))
    same = subst (Kept ds) (sym (set-get_or ds v.0 retired_mark)) (kept_same ds S)

    by : (d : ValueData) → at ds v ≡ d → Kept ds (set ds v.0 (numbered n d))
    by (Inst ty m i) e = subst (λ (d : ValueData). Kept ds (set ds v.0 d)) e same
    by (Alias ty o) e = subst (λ (d : ValueData). Kept ds (set ds v.0 d)) e same
    by (Union ty x y) e = subst (λ (d : ValueData). Kept ds (set ds v.0 d)) e same
    by (Param ty m b) e =
        kept_redefined ds v (Param ty n b) S (non_alias_exists ds v (ap kind e)) refl tt (sym (ap type e))

pub kept_lowered : (ds : List ValueData) (vs : List Value) → Sound ds → Kept ds (lowered ds vs)
kept_lowered ds [] S = kept_same ds S
kept_lowered ds (v ∷ vs) S =
    let k = kept_numbered ds v (number (at ds v) - 1) S in
    kept_both k (kept_lowered (set ds v.0 (numbered (number (at ds v) - 1) (at ds v))) vs (kept_sound k))

pub kept_moved : (ds : List ValueData) (v : Value) (n : ℕ) (b : Bool) → Sound ds → Kept ds (cond b (moved ds v n) ds)
kept_moved ds v n true S = kept_numbered ds v n S
kept_moved ds v n false S = kept_same ds S

-- the values to reuse exist and have the types of their places
abbrev pub Fit : List ValueData → List Ty → List (Option Value) → Type 0
Fit ds [] reuse = Unit {0}
Fit ds (t ∷ ts) [] = Unit {0}
Fit ds (t ∷ ts) (None ∷ reuse) = Fit ds ts reuse
Fit ds (t ∷ ts) (Some v ∷ reuse) = Exists ds v × (type (at ds v) ≡ t) × Fit ds ts reuse

pub fit_none : (ds : List ValueData) (ts : List Ty) → Fit ds ts []
fit_none ds [] = tt
fit_none ds (t ∷ ts) = tt

fit_kept : (ds es : List ValueData) → Kept ds es → (ts : List Ty) (reuse : List (Option Value)) → Fit ds ts reuse →
    Fit es ts reuse
fit_kept ds es k [] reuse f = tt
fit_kept ds es k (t ∷ ts) [] f = tt
fit_kept ds es k (t ∷ ts) (None ∷ reuse) f = fit_kept ds es k ts reuse f
fit_kept ds es k (t ∷ ts) (Some v ∷ reuse) f =
    (omega (arith, f.0, k.grows), k.types v f.0 ∙ f.1, fit_kept ds es k ts reuse f.2)

-- the next new value
kept_new : (ds : List ValueData) (n : ℕ) (x : ValueData) → n ≡ length ds → Sound ds → kind x ≡ Root → SidesOf ds x →
    Kept ds (defined ds (value n) x) × (length (defined ds (value n) x) ≡ n + 1)
kept_new ds n x e S k s =
    let p : defined ds (value n) x ≡ ds ++ x ∷ [] =
    cond-false (ltb n (length ds)) (set ds n x) (ds ++ x ∷ []) (le-ltb n (length ds) (omega arith)) in
    (subst (Kept ds) (sym p) (kept_push ds x S k s), ap length p ∙ omega (arith, length_push ds x))

-- one to reuse
kept_again : (ds : List ValueData) (v : Value) (x : ValueData) → Sound ds → kind x ≡ Root → SidesOf ds x → Exists ds v →
    type (at ds v) ≡ type x → Kept ds (defined ds v x) × (length (defined ds v x) ≡ length ds)
kept_again ds v x S k s h t =
    let p : defined ds v x ≡ set ds v.0 x =
    cond-true (ltb v.0 (length ds)) (set ds v.0 x) (ds ++ x ∷ []) (lt-ltb v.0 (length ds) h) in
    (subst (Kept ds) (sym p) (kept_redefined ds v x S h k s (sym t)), ap length p ∙ length-set ds v.0 x)

-- results at their places: types stay, so a value named twice would do no harm here
pub kept_seated : (i : InstId) (k : ℕ) (ts : List Ty) (reuse : List (Option Value)) (ds : List ValueData) (n : ℕ) →
    n ≡ length ds → Sound ds → Fit ds ts reuse → Kept ds (seated i k ts (seats n ts reuse) ds)
kept_seated i k [] reuse ds n e S f = kept_same ds S
kept_seated i k (t ∷ ts) [] ds n e S f =
    let c = kept_new ds n (Inst t k i) e S refl tt in
    let es : List ValueData = defined ds (value n) (Inst t k i) in
    kept_both c.0 (kept_seated i (k + 1) ts [] es (n + 1) (sym c.1) (kept_sound c.0) (fit_none es ts))
kept_seated i k (t ∷ ts) (None ∷ reuse) ds n e S f =
    let c = kept_new ds n (Inst t k i) e S refl tt in
    let es : List ValueData = defined ds (value n) (Inst t k i) in
    kept_both c.0 (kept_seated i (k + 1) ts reuse es (n + 1) (sym c.1) (kept_sound c.0) (fit_kept ds es c.0 ts reuse f))
kept_seated i k (t ∷ ts) (Some v ∷ reuse) ds n e S f =
    let c = kept_again ds v (Inst t k i) S refl tt f.0 f.1 in
    let es : List ValueData = defined ds v (Inst t k i) in
    kept_both c.0 (kept_seated i (k + 1) ts reuse es n (e ∙ sym c.1) (kept_sound c.0) (fit_kept ds es c.0 ts reuse f.2))

-- values to make aliases of others, place by place: each exists, has a type, which is that of the other, and the others
-- are no aliases and none of the first
pub record Aliasable (vs : List ValueData) (ds rs : List Value) : Type 0 where
  pub exist : (k : ℕ) → k < length ds → Exists vs (get_or ds k no_value)
  pub roots : (k : ℕ) → k < length rs → NonAlias vs (get_or rs k no_value)
  pub apart : (j k : ℕ) → j < length ds → k < length rs → get_or rs k no_value ≢ get_or ds j no_value
  pub same : (k : ℕ) → k < length ds → k < length rs → type (at vs (get_or rs k no_value)) ≡ type (at vs (get_or ds k no_value))
  pub typed : (k : ℕ) → k < length ds → k < length rs → (type (at vs (get_or ds k no_value))).0 ≢ 0

-- after the first place the others are as before
aliasable_rest : (vs : List ValueData) (d r : Value) (ds rs : List Value) → Aliasable vs (d ∷ ds) (r ∷ rs) →
    Kept vs (aliased vs d r) → Aliasable (aliased vs d r) ds rs
aliasable_rest vs d r ds rs a k =
    let others : (j : ℕ) → j < length rs → Exists vs (get_or rs j no_value) =
    λ j h. non_alias_exists vs (get_or rs j no_value) (a.roots (suc j) (omega arith)) in
    record {
      exist = λ j h. let l : Exists vs (get_or ds j no_value) = a.exist (suc j) (omega arith) in omega (arith, k.grows);
      roots = λ j h.
          kind_other vs d (get_or rs j no_value) (Alias (type (at vs r)) r) (a.apart zero (suc j) (omega arith) (omega arith))
          ∙ a.roots (suc j) (omega arith);
      apart = λ i j h l. a.apart (suc i) (suc j) (omega arith) (omega arith);
      same = λ j h l.
          k.types (get_or rs j no_value) (others j l)
          ∙ a.same (suc j) (omega arith) (omega arith)
          ∙ sym (k.types (get_or ds j no_value) (a.exist (suc j) (omega arith)));
      typed = λ j h l z.
          a.typed (suc j) (omega arith) (omega arith)
          (ap (λ (t : Ty). t.0) (sym (k.types (get_or ds j no_value) (a.exist (suc j) (omega arith)))) ∙ z);
    }

pub kept_aliased_each : (vs : List ValueData) (ds rs : List Value) → Sound vs → Aliasable vs ds rs →
    Kept vs (aliased_each vs ds rs)
kept_aliased_each vs [] rs S a = kept_same vs S
kept_aliased_each vs (d ∷ ds) [] S a = kept_same vs S
kept_aliased_each vs (d ∷ ds) (r ∷ rs) S a =
    let k : Kept vs (aliased vs d r) =
    kept_aliased vs d r S (a.exist zero (omega arith)) (a.roots zero (omega arith))
    (a.apart zero zero (omega arith) (omega arith))
    (a.same zero (omega arith) (omega arith)) (a.typed zero (omega arith) (omega arith)) in
    kept_both k (kept_aliased_each (aliased vs d r) ds rs (kept_sound k) (aliasable_rest vs d r ds rs a k))
