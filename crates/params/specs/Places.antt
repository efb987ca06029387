-- What a call leaves in memory that its caller lends.
use Rattle.std.specs.Prelude.{◌≡◌, ℕ, List, Ok, Err, Result}
use Rattle.model.specs.declared.fault.GraphFault.{GraphFault}
use Rattle.model.specs.Refusals.{Outcome, done, refused}
use Rattle.ir.specs.declared.entities.Value.{Value}

-- an outcome with what the caller's memory then holds
abbrev pub with_memory : {S : Type 0} → Result ℕ GraphFault → List Value → S → Outcome (ℕ × List Value) S
with_memory (Ok n) out after = done (n, out) after
with_memory (Err f) out after = refused f

-- a refusal leaves the caller's memory as it was
abbrev pub Untouched : {A : Type 0} → Result A GraphFault → List Value → List Value → Type 0
Untouched (Ok a) before after = Unit {0}
Untouched (Err f) before after = after ≡ before
