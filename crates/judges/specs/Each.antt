-- A question that is put to one item after another.
use Rattle.std.specs.Prelude.{◌≡◌, List, [], ◌∷◌, Ok, Err, Result}
use Rattle.std.specs.Result.{MatchResult}
use Rattle.model.specs.declared.fault.GraphFault.{GraphFault}

-- each item up to the first that is refused was asked, and r is that refusal, or there is none
abbrev pub AskedEach : {A : Type 0} → (A → Result (Unit {0}) GraphFault → Type 0) → List A → Result (Unit {0}) GraphFault → Type 0
AskedEach says [] r = r ≡ Ok tt
AskedEach says (x ∷ xs) r = (s : Result (Unit {0}) GraphFault) × says x s × MatchResult s (λ a. AskedEach says xs r) (λ f. r ≡ Err f)
