-- The first definitions of a memory, before and after a write.
use Rattle.std.proofs.Common.{◌≡◌, ℕ, ◌+◌, ◌<◌, ◌≤◌, List, [], ◌∷◌, ◌++◌, length, take, set, sym, ap, ◌∙◌, arith}
use lib.Seq.{take-set-lt}
use Rattle.std.proofs.lemmas.List.{length-map, length-take, length-set, map-set, map-append, take_more_set}
use Rattle.std.proofs.lemmas.List.Elements.{All-same, All-set, All-push}
use Rattle.ir.specs.declared.value_data.ValueData.{ValueData}
use Rattle.ir.specs.declared.value_data.ValueDataPacked.{ValueDataPacked}
use Rattle.values.specs.Defs.{definition, definitions, stored, numbers, Canonical}
use Rattle.values.specs.Fronts.{listed, Put}

listed_long : (n : ℕ) (ps : List ValueDataPacked) → n ≤ length ps → length (listed n ps) ≡ n
unfolding listed
listed_long n ps h = simp (length-map, length-take) (omega arith)

listed_within : (n : ℕ) (ps : List ValueDataPacked) (i : ℕ) (p : ValueDataPacked) → i < n →
    listed n (set ps i p) ≡ set (listed n ps) i (definition p)
unfolding listed
listed_within n ps i p h = ap definitions (take-set-lt n ps i p h) ∙ map-set definition (take n ps) i p

listed_behind : (ps : List ValueDataPacked) (i : ℕ) (p : ValueDataPacked) → i < length ps →
    listed (i + 1) (set ps i p) ≡ listed i ps ++ definition p ∷ []
unfolding listed
listed_behind ps i p h = ap definitions (take_more_set ps i p h) ∙ map-append definition (take i ps) (p ∷ [])

pub puts : (ps : List ValueDataPacked) (i : ℕ) (p : ValueDataPacked) (d : ValueData) → i < length ps →
    p ≡ stored d → definition p ≡ d → Put ps (set ps i p) i d
puts ps i p d h says back =
    let one : Canonical p = ap numbers (ap stored back ∙ sym says) in
    record {
      memory = ap (set ps i) says;
      within = λ n k. listed_within n ps i p k ∙ ap (set (listed n ps) i) back;
      behind = listed_behind ps i p h ∙ ap (λ (x : ValueData). listed i ps ++ x ∷ []) back;
      long = λ n k. listed_long n (set ps i p) (simp length-set k);
      canonical_within = λ n k all.
          All-same Canonical _ _ (take-set-lt n ps i p k) (All-set Canonical (take n ps) i p one all);
      canonical_behind = λ all.
          All-same Canonical _ _ (take_more_set ps i p h) (All-push Canonical (take i ps) p all one);
    }
