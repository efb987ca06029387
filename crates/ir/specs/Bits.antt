-- A word of a tag with bits below it: tag × 2^low + payload.
use Rattle.std.specs.Prelude.{ℕ, ◌+◌, ◌*◌, ◌^◌, cond, Ok, Err, Result, nat_lt}
use Rattle.ir.specs.declared.fault.PackFault.{PackFault}
use Rattle.ir.specs.declared.fault.PackFault.TheVariants.{Wide}

-- a payload from 2^low does not fit beside the tag
abbrev pub word_of : ℕ → ℕ → ℕ → Result ℕ PackFault
word_of low tag payload = cond (nat_lt payload (2 ^ low)) (Ok (tag * 2 ^ low + payload)) (Err (Wide payload))
