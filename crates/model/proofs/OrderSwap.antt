-- Why two aliasings may change places: about numbers alone.
use Rattle.std.proofs.Common.{◌≡◌, ℕ, cond, eqb, ◌≢◌, Some, None, Option, refl, ap, arith}
use Rattle.std.proofs.lemmas.Bool.Decides.{nat_tests}
use Rattle.ir.specs.declared.entities.Value.{Value}
use Rattle.ir.specs.declared.entities.Type.{«Type» as Ty}
use Rattle.model.specs.State.{value}

-- q, with r in place of d
abbrev pub to : Value → Value → Value → Value
to d r q = value (cond (eqb q.0 d.0) r.0 q.0)

abbrev pub moved : Value → Value → Option Value → Option Value
moved d r None = None
moved d r (Some q) = Some (to d r q)

-- d₁ is made an alias of r₁; then d₂, of what its source leads to now and led to q₂ before. Each has its end's type.
pub record Near (t : ℕ → Ty) (d₁ d₂ r₁ q₂ : Value) : Type 0 where
  pub differ : d₁.0 ≢ d₂.0
  pub apart₁ : r₁.0 ≢ d₁.0
  pub type₁ : t r₁.0 ≡ t d₁.0
  pub apart₂ : (to d₁ r₁ q₂).0 ≢ d₂.0
  pub type₂ : t (to d₁ r₁ q₂).0 ≡ t d₂.0

-- The same with d₂ first, which is then an alias of q₂.
module _ {t : ℕ → Ty} {d₁ d₂ r₁ q₂ : Value} (n : Near t d₁ d₂ r₁ q₂) where
  pub swap_apart₂ : q₂.0 ≢ d₂.0
  swap_apart₂ = grind (arith, nat_tests)

  pub swap_type₂ : t q₂.0 ≡ t d₂.0
  swap_type₂ = grind (arith, nat_tests)

  pub swap_apart₁ : (to d₂ q₂ r₁).0 ≢ d₁.0
  swap_apart₁ = grind (arith, nat_tests)

  pub swap_type₁ : t (to d₂ q₂ r₁).0 ≡ t d₁.0
  swap_type₁ = grind (arith, nat_tests)

  swap_to : (x : Value) → (to d₂ (to d₁ r₁ q₂) (to d₁ r₁ x)).0 ≡ (to d₁ (to d₂ q₂ r₁) (to d₂ q₂ x)).0
  swap_to x = grind (arith, nat_tests)

  -- what a value led to, after both
  pub swap_moved : (x : Option Value) → moved d₂ (to d₁ r₁ q₂) (moved d₁ r₁ x) ≡ moved d₁ (to d₂ q₂ r₁) (moved d₂ q₂ x)
  swap_moved None = refl
  swap_moved (Some x) = ap (λ (m : ℕ). Some (value m)) (swap_to x)
