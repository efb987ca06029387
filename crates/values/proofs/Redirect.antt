-- A live alias that is made one of the value that it leads to.
use Rattle.std.proofs.Common.{◌≡◌, ℕ, suc, ◌≢◌, ◌⊎◌, List, set, Some, None, Option, sym, refl, ap, ◌∙◌, subst, inl, inr}
use Rattle.std.proofs.lemmas.Bool.{cases_eq}
use Rattle.ir.specs.declared.entities.Value.{Value}
use Rattle.ir.specs.declared.value_data.ValueData.{ValueData}
use Rattle.values.specs.declared.kind.Kind.TheVariants.{Link}
use Rattle.values.specs.Leads.{kind, at, NonAlias, LiveAlias, Leads, here, step, leads_to, Redirects}
use Rattle.values.proofs.Ways.{same_value, unique, unstep, end, at_same, kind_other, live_alias_exists, leads_some, some_leads, none_nowhere, nowhere_none}

same_or_not : (v w : Value) → (v ≡ w) ⊎ (v ≢ w)
same_or_not v w =
    elim (cases_eq v.0 w.0) [
      | inl e ↦ inl (same_value v w e)
      | inr ne ↦ inr (λ p. ne (ap (λ (u : Value). u.0) p))
    ]

module _ (vs : List ValueData) (v r : Value) (n : ℕ) (d : ValueData) (way : Leads vs v r (suc n)) (new : kind d ≡ Link r) where
  -- v is an alias before and after
  old : (o : Value) × LiveAlias vs v o
  old = let u = unstep way in (u.0, u.1)

  redirected : LiveAlias (set vs v.0 d) v r
  redirected = ap kind (at_same vs v d (live_alias_exists vs v old.0 old.1)) ∙ new

  -- so a value that is none is another
  root_apart : (w : Value) → NonAlias vs w → w ≢ v
  root_apart w e p =
      let f : kind (at vs w) ≡ Link old.0 = ap (λ (u : Value). kind (at vs u)) p ∙ old.1 in cc

  root_kept : (w : Value) → NonAlias vs w → NonAlias (set vs v.0 d) w
  root_kept w e = kind_other vs v w d (root_apart w e) ∙ e

  -- what a value led to it leads to
  forth : {w q : Value} {m : ℕ} → Leads vs w q m → (k : ℕ) × Leads (set vs v.0 d) w q k
  forth (here {v = w} e) = (0, here (root_kept w e))
  forth {q = q} (step {v = w} {n = m} e l) =
      elim (same_or_not w v) [
        | inl p ↦
            let u : r ≡ q = (unique way (subst (λ (x : Value). Leads vs x q (suc m)) p (step e l))).0 in
            let k : Leads (set vs v.0 d) v r 1 = step redirected (here (root_kept r (end way))) in
            (1, subst (λ (x : Value). Leads (set vs v.0 d) x q 1) (sym p) (subst (λ (x : Value). Leads (set vs v.0 d) v x 1) u k))
        | inr ne ↦ let t = forth l in (suc t.0, step (kind_other vs v w d ne ∙ e) t.1)
      ]

  -- and nothing else
  back : {w q : Value} {m : ℕ} → Leads (set vs v.0 d) w q m → (k : ℕ) × Leads vs w q k
  back (here {v = w} e) =
      let ne : w ≢ v = λ p.
      let f : kind (at (set vs v.0 d) w) ≡ Link r = ap (λ (u : Value). kind (at (set vs v.0 d) u)) p ∙ redirected in cc in
      (0, here (sym (kind_other vs v w d ne) ∙ e))
  back {q = q} (step {v = w} {original = o} {n = m} e l) =
      elim (same_or_not w v) [
        | inl p ↦
            let f : LiveAlias (set vs v.0 d) v o = ap (λ (u : Value). kind (at (set vs v.0 d) u)) (sym p) ∙ e in
            let s : o ≡ r = same_link f in
            let t = back l in
            let u : r ≡ q = (unique (here (end way)) (subst (λ (x : Value). Leads vs x q t.0) s t.1)).0 in
            (suc n, subst (λ (x : Value). Leads vs x q (suc n)) (sym p) (subst (λ (x : Value). Leads vs v x (suc n)) u way))
        | inr ne ↦ let t = back l in (suc t.0, step (sym (kind_other vs v w d ne) ∙ e) t.1)
      ]
    where
      same_link : {a : Value} → LiveAlias (set vs v.0 d) v a → a ≡ r
      same_link f = let g = redirected in cc

  ends_alike : (w : Value) → leads_to (set vs v.0 d) w ≡ leads_to vs w
  ends_alike w = by (leads_to vs w) refl
    where
      by : (o : Option Value) → leads_to vs w ≡ o → leads_to (set vs v.0 d) w ≡ leads_to vs w
      by (Some q) e = let t = some_leads vs w q e in leads_some (forth t.1).1 ∙ sym e
      by None e =
          nowhere_none (set vs v.0 d) w (λ q m l. let t = back l in none_nowhere vs w e q t.0 t.1) ∙ sym e

pub redirects : Redirects
redirects vs v r n d way new w = ends_alike vs v r n d way new w
