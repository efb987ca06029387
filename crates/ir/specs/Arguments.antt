-- A block argument in one word: tag × 2^30 + payload.
use Rattle.std.specs.Prelude.{ℕ, zero, suc, ◌+◌, ◌*◌, ◌/◌, ◌%◌, cond, Some, None, Ok, Err, Option, Result, nat_lt}
use Rattle.ir.specs.declared.entities.Value.{Value as Val}
use Rattle.ir.specs.declared.block_arg.BlockArg.{BlockArg}
use Rattle.ir.specs.declared.block_arg.BlockArg.TheVariants.{Value, TryCallRet, TryCallExn}
use Rattle.ir.specs.declared.fault.PackFault.{PackFault}
use Rattle.ir.specs.declared.fault.PackFault.TheVariants.{Wide, Tag}

-- a payload from 2^30 does not fit beside the tag
abbrev pub beside : ℕ → ℕ → Result ℕ PackFault
beside tag payload = cond (nat_lt payload 1073741824) (Ok (tag * 1073741824 + payload)) (Err (Wide payload))

abbrev pub encoded : BlockArg → Result ℕ PackFault
encoded (Value v) = beside 0 v.0
encoded (TryCallRet n) = beside 1 n
encoded (TryCallExn n) = beside 2 n

-- by tag, of which 3 is none
abbrev pub read : ℕ → ℕ → ℕ → Result BlockArg PackFault
read zero payload word = Ok (Value (record { 0 = payload }))
read (suc zero) payload word = Ok (TryCallRet payload)
read (suc (suc zero)) payload word = Ok (TryCallExn payload)
read (suc (suc (suc n))) payload word = Err (Tag word)

abbrev pub decoded : ℕ → Result BlockArg PackFault
decoded word = read (word / 1073741824) (word % 1073741824) word

abbrev pub value_of : BlockArg → Option Val
value_of (Value v) = Some v
value_of (TryCallRet n) = None
value_of (TryCallExn n) = None
