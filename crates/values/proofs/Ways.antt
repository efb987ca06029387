-- The relation "leads to" and the bounded walk, on every table.
use Rattle.std.proofs.Common.{◌≡◌, ℕ, zero, suc, ◌<◌, ◌≤◌, ◌≢◌, List, [], ◌∷◌, length, get_or, set, Some, None, Option, refl, ap, ◌∙◌, subst, zero-le, not-suc-le-zero, arith, get_or-set_other, get_or-set_same}
use Rattle.std.proofs.lemmas.List.Sums.{sum_by-cons, sum_by-set}
use Rattle.ir.specs.declared.entities.Value.{Value}
use Rattle.ir.specs.declared.value_data.ValueData.{ValueData}
use Rattle.ir.specs.declared.value_data.ValueData.TheVariants.{Union}
use Rattle.ir.specs.Packing.{retired_mark}
use Rattle.values.specs.declared.kind.Kind.{Kind}
use Rattle.values.specs.declared.kind.Kind.TheVariants.{Root, Link, Gone}
use Rattle.values.specs.Leads.{kind, at, Exists, NonAlias, LiveAlias, Leads, here, step, LeadsNowhere, onward, walk, leads_to, weight, live_aliases, WalkFinds, WalkFails, OneEnd, ShortWays}

-- the walk finds what the relation says, given the looks
pub walk_of : {vs : List ValueData} {v r : Value} {n : ℕ} → Leads vs v r n → (k : ℕ) → n < k → walk k vs v ≡ Some r
walk_of (here e) zero h = absurd (not-suc-le-zero h)
walk_of (here e) (suc k) h = rw e
walk_of (step e l) zero h = absurd (not-suc-le-zero h)
walk_of (step e l) (suc k) h = rw e (walk_of l k (omega arith))

-- and the relation holds of what the walk finds
pub of_walk : (vs : List ValueData) (k : ℕ) (v r : Value) → walk k vs v ≡ Some r → (n : ℕ) × Leads vs v r n
of_walk vs zero v r h = cc
of_walk vs (suc k) v r h = by (kind (at vs v)) refl (of_walk vs k) h
  where
    by : (c : Kind) → kind (at vs v) ≡ c → ((o q : Value) → walk k vs o ≡ Some q → (n : ℕ) × Leads vs o q n) →
        onward c (walk k vs) v ≡ Some r → (n : ℕ) × Leads vs v r n
    by Root e f q = let p : v ≡ r = cc in subst (λ (x : Value). (n : ℕ) × Leads vs v x n) p (0, here e)
    by (Link o) e f q = let t = f o r q in (suc t.0, step e t.1)
    by Gone e f q = cc

-- one end, and one count
pub unique : {vs : List ValueData} {v r s : Value} {m n : ℕ} → Leads vs v r m → Leads vs v s n → (r ≡ s) × (m ≡ n)
unique (here e) (here f) = (refl, refl)
unique (here e) (step f m) = cc
unique (step e l) (here f) = cc
unique {vs} {s = s} (step {original = o} e l) (step {original = q} {n = k} f m) =
    let p : q ≡ o = cc in
    let u = unique l (subst (λ (x : Value). Leads vs x s k) p m) in
    (u.0, ap suc u.1)

pub end : {vs : List ValueData} {v r : Value} {n : ℕ} → Leads vs v r n → NonAlias vs r
end (here e) = e
end (step e l) = end l

-- values are the same where their numbers are
pub same_value : (v w : Value) → v.0 ≡ w.0 → v ≡ w
same_value v w p = ap (λ (n : ℕ). let u : Value = record { 0 = n } in u) p

-- what stands after a write

pub at_same : (vs : List ValueData) (v : Value) (d : ValueData) → Exists vs v → at (set vs v.0 d) v ≡ d
at_same vs v d h = get_or-set_same vs v.0 d retired_mark h

pub at_other : (vs : List ValueData) (v o : Value) (d : ValueData) → o ≢ v → at (set vs v.0 d) o ≡ at vs o
at_other vs v o d h = get_or-set_other vs v.0 o.0 d retired_mark (λ p. h (same_value o v p))

-- a value with a definition that leads on exists

exists : (vs : List ValueData) (i : ℕ) → kind (get_or vs i retired_mark) ≢ Gone → i < length vs
exists [] i h = absurd (h refl)
exists (d ∷ ds) zero h = omega arith
exists (d ∷ ds) (suc i) h = let l : i < length ds = exists ds i h in omega arith

pub non_alias_exists : (vs : List ValueData) (v : Value) → NonAlias vs v → Exists vs v
non_alias_exists vs v e = exists vs v.0 (λ f. cc)

pub live_alias_exists : (vs : List ValueData) (v o : Value) → LiveAlias vs v o → Exists vs v
live_alias_exists vs v o e = exists vs v.0 (λ f. cc)

-- a way does not pass a value that is further off, so that a write to it leaves the way as it was

apart : {vs : List ValueData} {o r v q : Value} {m n : ℕ} → Leads vs o r m → Leads vs v q n → m < n → o ≢ v
apart {vs} {r = r} {m = m} l w h p =
    let u = unique (subst (λ (x : Value). Leads vs x r m) p l) w in
    let e : m ≡ _ = u.1 in omega arith

pub kind_other : (vs : List ValueData) (v o : Value) (d : ValueData) → o ≢ v → kind (at (set vs v.0 d) o) ≡ kind (at vs o)
kind_other vs v o d h = ap kind (at_other vs v o d h)

keep : {vs : List ValueData} {o r v q : Value} {m n : ℕ} → Leads vs o r m → Leads vs v q n → m < n → (d : ValueData) → Leads (set vs v.0 d) o r m
keep {vs} {v = v} (here {v = o} e) w h d = here (kind_other vs v o d (apart (here e) w h) ∙ e)
keep {vs} {v = v} (step {v = o} e l) w h d = step (kind_other vs v o d (apart (step e l) w h) ∙ e) (keep l w (omega arith) d)

-- counting live aliases

weight_le : (k : Kind) → weight k ≤ 1
weight_le Root = omega arith
weight_le (Link o) = omega arith
weight_le Gone = omega arith

pub live_aliases_le : (vs : List ValueData) → live_aliases vs ≤ length vs
live_aliases_le [] = omega arith
live_aliases_le (d ∷ ds) = simp sum_by-cons (omega (arith, weight_le (kind d), live_aliases_le ds))

-- a non-alias is there, so there are more values than aliases
room : (vs : List ValueData) (i : ℕ) → kind (get_or vs i retired_mark) ≡ Root → live_aliases vs < length vs
room [] i e = cc
room (d ∷ ds) zero e = simp sum_by-cons (omega (arith, ap weight e, live_aliases_le ds))
room (d ∷ ds) (suc i) e = simp sum_by-cons (omega (arith, weight_le (kind d), room ds i e))

pub unstep : {vs : List ValueData} {v r : Value} {n : ℕ} → Leads vs v r (suc n) → (o : Value) × LiveAlias vs v o × Leads vs o r n
unstep (step {original = o} e l) = (o, e, l)

-- take the first alias of a way out of the table: the rest of the way stays, and one live alias less is there
few : (n : ℕ) (vs : List ValueData) (v r : Value) → Leads vs v r n → n ≤ live_aliases vs
few zero vs v r l = zero-le
few (suc n) vs v r l =
    let u = unstep l in
    let d : ValueData = Union (record { 0 = 0 }) v v in
    let i = few n (set vs v.0 d) u.0 r (keep u.2 l (omega arith) d) in
    omega (arith, sum_by-set (λ x. weight (kind x)) vs v.0 d retired_mark (live_alias_exists vs v u.0 u.1), ap weight u.1, i)

pub short : {vs : List ValueData} {v r : Value} {n : ℕ} → Leads vs v r n → n < length vs
short {vs} {v} {r} {n} l = omega (arith, room vs r.0 (end l), few n vs v r l)

-- the laws

pub leads_some : {vs : List ValueData} {v r : Value} {n : ℕ} → Leads vs v r n → leads_to vs v ≡ Some r
leads_some {vs} l = walk_of l (length vs) (short l)

pub some_leads : (vs : List ValueData) (v r : Value) → leads_to vs v ≡ Some r → (n : ℕ) × Leads vs v r n
some_leads vs v r h = of_walk vs (length vs) v r h

pub walk_finds : WalkFinds
walk_finds vs v r = (some_leads vs v r, λ t. leads_some t.1)

pub none_nowhere : (vs : List ValueData) (v : Value) → leads_to vs v ≡ None → LeadsNowhere vs v
none_nowhere vs v e r n l = let p : leads_to vs v ≡ Some r = leads_some l in cc

pub nowhere_none : (vs : List ValueData) (v : Value) → LeadsNowhere vs v → leads_to vs v ≡ None
nowhere_none vs v nowhere = by (leads_to vs v) refl
  where
    by : (o : Option Value) → leads_to vs v ≡ o → leads_to vs v ≡ None
    by None e = e
    by (Some r) e = let t = some_leads vs v r e in absurd (nowhere r t.0 t.1)

pub walk_fails : WalkFails
walk_fails vs v = (none_nowhere vs v, nowhere_none vs v)

pub one_end : OneEnd
one_end vs v r s m n l k = let u = unique l k in (u.0, u.1, end l)

pub short_ways : ShortWays
short_ways vs v r n l = (few n vs v r l, short l)
