-- Runs of aliasings whose destinations are no aliases, in any order.
use Rattle.std.proofs.Common.{◌≡◌, List, [], ◌∷◌, Some, None, Option, sym, refl, ◌∙◌, subst, subst₂}
use mathlib.Core.List.{Permᴰ}
use Rattle.ir.specs.declared.entities.Value.{Value}
use Rattle.ir.specs.declared.value_data.ValueData.{ValueData}
use Rattle.values.specs.Leads.{leads_to}
use Rattle.model.specs.State.{Graph}
use Rattle.model.specs.Edits.{aliased}
use Rattle.model.specs.Laws.{Aliasing}
use Rattle.model.proofs.OrderSwap.{to, moved}
use Rattle.model.proofs.OrderTable.{Step, effect}
use Rattle.model.proofs.OrderSimilar.{Similar, similar_refl, similar_trans, similar_step, similar_placed, first, second, right, similar_swap}

-- each accepted, and its destination no alias then
pub data Linked (g : Graph) : List ValueData → List Aliasing → List ValueData → Type 0 where
  nothing : {vs : List ValueData} → Linked g vs [] vs
  next : {vs ws : List ValueData} {a : Aliasing} {rest : List Aliasing} (r : Value) → Step g vs a r →
      Linked g (aliased vs a.dest r) rest ws → Linked g vs (a ∷ rest) ws

-- one list is the other in another order
data Shuffle : List Aliasing → List Aliasing → Type 0 where
  nil : Shuffle [] []
  cons : {a : Aliasing} {es fs : List Aliasing} → Shuffle es fs → Shuffle (a ∷ es) (a ∷ fs)
  swap : {a b : Aliasing} {es : List Aliasing} → Shuffle (a ∷ b ∷ es) (b ∷ a ∷ es)
  trans : {es fs gs : List Aliasing} → Shuffle es fs → Shuffle fs gs → Shuffle es gs

shuffle_of : {es fs : List Aliasing} → Permᴰ es fs → Shuffle es fs
shuffle_of Permᴰ.nil = nil
shuffle_of (Permᴰ.cons {a = a} {l₁ = l₁} {l₂ = l₂} p q) =
    subst (λ (x : Aliasing). Shuffle (a ∷ l₁) (x ∷ l₂)) p (cons (shuffle_of q))
shuffle_of (Permᴰ.swap {a = a} {b = b} {l = l} p q) =
    subst₂ (λ (x y : Aliasing). Shuffle (a ∷ b ∷ l) (y ∷ x ∷ l)) p q swap
shuffle_of (Permᴰ.trans p q) = trans (shuffle_of p) (shuffle_of q)

-- the run goes through from vs and ends in a table similar to ws
abbrev Ends : Graph → List ValueData → List Aliasing → List ValueData → Type 0
Ends g vs fs ws = (xs : List ValueData) × Linked g vs fs xs × Similar ws xs

-- from a similar table
relink : {g : Graph} {vs ws : List ValueData} {es : List Aliasing} → Linked g vs es ws → (us : List ValueData) → Similar vs us →
    Ends g us es ws
relink nothing us si = (us, nothing, si)
relink {g} (next {vs = vs} {a = a} r st l) us si =
    let i = relink l (aliased us a.dest r) (similar_placed g vs us a r si st) in
    (i.0, next r (similar_step g vs us a r si st) i.1, i.2)

moved_inv : (d r p : Value) (x : Option Value) → moved d r x ≡ Some p → (q : Value) × (x ≡ Some q) × (to d r q ≡ p)
moved_inv d r p None e = absurd cc
moved_inv d r p (Some q) e = (q, refl, cc)

-- the first two the other way round
swap_front : (g : Graph) (vs xs : List ValueData) (a₁ a₂ : Aliasing) (es : List Aliasing) (r₁ q₂ : Value) (s₁ : Step g vs a₁ r₁)
    (l₂ : leads_to vs a₂.source ≡ Some q₂) (s₂ : Step g (aliased vs a₁.dest r₁) a₂ (to a₁.dest r₁ q₂)) →
    Linked g (right g vs a₁ a₂ r₁ q₂ s₁ l₂ s₂) es xs → Linked g vs (a₂ ∷ a₁ ∷ es) xs
swap_front g vs xs a₁ a₂ es r₁ q₂ s₁ l₂ s₂ l =
    next q₂ (first g vs a₁ a₂ r₁ q₂ s₁ l₂ s₂) (next (to a₂.dest q₂ r₁) (second g vs a₁ a₂ r₁ q₂ s₁ l₂ s₂) l)

relink_swap : (g : Graph) (vs ws : List ValueData) (a₁ a₂ : Aliasing) (es : List Aliasing) (r₁ q₂ : Value) (s₁ : Step g vs a₁ r₁)
    (l₂ : leads_to vs a₂.source ≡ Some q₂) (s₂ : Step g (aliased vs a₁.dest r₁) a₂ (to a₁.dest r₁ q₂)) →
    Linked g (aliased (aliased vs a₁.dest r₁) a₂.dest (to a₁.dest r₁ q₂)) es ws → Ends g vs (a₂ ∷ a₁ ∷ es) ws
relink_swap g vs ws a₁ a₂ es r₁ q₂ s₁ l₂ s₂ l =
    let i = relink l (right g vs a₁ a₂ r₁ q₂ s₁ l₂ s₂) (similar_swap g vs a₁ a₂ r₁ q₂ s₁ l₂ s₂) in
    (i.0, swap_front g vs i.0 a₁ a₂ es r₁ q₂ s₁ l₂ s₂ i.1, i.2)

swapped : (g : Graph) (vs ws : List ValueData) (a₁ a₂ : Aliasing) (es : List Aliasing) (r₁ r₂ : Value) → Step g vs a₁ r₁ →
    Step g (aliased vs a₁.dest r₁) a₂ r₂ → Linked g (aliased (aliased vs a₁.dest r₁) a₂.dest r₂) es ws →
    Ends g vs (a₂ ∷ a₁ ∷ es) ws
swapped g vs ws a₁ a₂ es r₁ r₂ s₁ s₂ l =
    let t = moved_inv a₁.dest r₁ r₂ (leads_to vs a₂.source) (sym (effect g vs a₁ r₁ s₁ a₂.source) ∙ s₂.leads) in
    let one : List ValueData = aliased vs a₁.dest r₁ in
    let k = subst (λ (r : Value). Step g one a₂ r × Linked g (aliased one a₂.dest r) es ws) (sym t.2) (s₂, l) in
    relink_swap g vs ws a₁ a₂ es r₁ t.0 s₁ t.1 k.0 k.1

-- The tables stand after the shuffle: what a recursive call changes is declared after what it takes apart.
shuffled : {g : Graph} {es fs : List Aliasing} → Shuffle es fs → {vs ws : List ValueData} → Linked g vs es ws →
    (us : List ValueData) → Similar vs us → Ends g us fs ws
shuffled nil l us si = relink l us si
shuffled {g} (cons p) (next {vs = vs} {a = a} r st l) us si =
    let i = shuffled p l (aliased us a.dest r) (similar_placed g vs us a r si st) in
    (i.0, next r (similar_step g vs us a r si st) i.1, i.2)
shuffled {g} swap {ws = ws} (next {vs = vs} {a = a₁} r₁ s₁ (next {a = a₂} {rest = es} r₂ s₂ l)) us si =
    let i = swapped g vs ws a₁ a₂ es r₁ r₂ s₁ s₂ l in
    let j = relink i.1 us si in
    (j.0, j.1, similar_trans i.2 j.2)
shuffled (trans p q) l us si =
    let i = shuffled p l us si in
    let j = shuffled q i.1 us (similar_refl us) in
    (j.0, j.1, similar_trans i.2 j.2)

pub any_order : {g : Graph} {es fs : List Aliasing} {vs ws : List ValueData} → Permᴰ es fs → Linked g vs es ws →
    Ends g vs fs ws
any_order {vs = vs} p l = shuffled (shuffle_of p) l vs (similar_refl vs)
