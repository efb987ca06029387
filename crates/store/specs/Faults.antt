-- The refusals of a pool.
use Rattle.std.specs.Prelude.{Some, None, Ok, Err, Option, Result}
use Rattle.ir.specs.declared.fault.Layer.TheVariants.{Pool}
use Rattle.ir.specs.Refusals.{Refusal}
use Rattle.store.specs.declared.parts.PoolFault.{PoolFault}
use Rattle.store.specs.declared.parts.PoolFault.TheVariants.{Unknown, NoBlock}

abbrev pub refusal : PoolFault → Refusal
refusal (Unknown n) = record { number = 1; layer = Pool; detail = n }
refusal (NoBlock n) = record { number = 14; layer = Pool; detail = n }

-- what a call answers that is refused so, or not at all
abbrev pub judged : Option PoolFault → Result (Unit {0}) PoolFault
judged None = Ok tt
judged (Some f) = Err f

-- a refusal that comes before another
abbrev pub before : Option PoolFault → Option PoolFault → Option PoolFault
before None g = g
before (Some f) g = Some f

-- what a refused call leaves, and what it else would
abbrev pub unless : {A : Type 0} → Option PoolFault → A → A → A
unless None was next = next
unless (Some f) was next = was
