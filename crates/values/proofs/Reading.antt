-- One turn of a walk over packed memory.
use Rattle.std.proofs.Common.{◌≡◌, ℕ, suc, ◌+◌, ◌-◌, ◌<◌, ◌≤◌, List, length, None, ap, ◌∙◌, arith}
use Rattle.std.proofs.lemmas.List.{length-map}
use Rattle.ir.specs.declared.entities.Value.{Value}
use Rattle.ir.specs.declared.value_data.ValueDataPacked.{ValueDataPacked}
use Rattle.values.specs.declared.kind.Kind.{Kind}
use Rattle.values.specs.Defs.{definition, definitions}
use Rattle.values.specs.Leads.{kind, at, onward, walk, leads_to}

-- one look, at an entry p of the kind c
pub turn : (ps : List ValueDataPacked) (v a : Value) (k : ℕ) (c : Kind) (p : ValueDataPacked) → k < length ps →
    walk (length (definitions ps) - k) (definitions ps) a ≡ leads_to (definitions ps) v →
    definition p ≡ at (definitions ps) a → c ≡ kind (definition p) →
    onward c (walk (length (definitions ps) - (k + 1)) (definitions ps)) a ≡ leads_to (definitions ps) v
turn ps v a k c p h i r e =
    let vs = definitions ps in
    let s : suc (length vs - (k + 1)) ≡ length vs - k = omega (arith, length-map ps definition) in
    ap (λ (x : Kind). onward x (walk (length vs - (k + 1)) vs) a) (e ∙ ap kind r) ∙ ap (λ (n : ℕ). walk n vs a) s ∙ i

-- no look is left
pub spent : (ps : List ValueDataPacked) (v a : Value) (k : ℕ) → length ps ≤ k →
    walk (length (definitions ps) - k) (definitions ps) a ≡ leads_to (definitions ps) v → None ≡ leads_to (definitions ps) v
spent ps v a k h i =
    let p : 0 ≡ length (definitions ps) - k = omega (arith, length-map ps definition) in
    ap (λ (n : ℕ). walk n (definitions ps) a) p ∙ i
