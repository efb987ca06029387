-- What a refusal says: its number, the layer that gives it, and what was found.
use Rattle.std.specs.Prelude.{ℕ}
use Rattle.ir.specs.declared.fault.Layer.{Layer}
use Rattle.ir.specs.declared.fault.Layer.TheVariants.{Packing}
use Rattle.ir.specs.declared.fault.PackFault.{PackFault}
use Rattle.ir.specs.declared.fault.PackFault.TheVariants.{Wide, Tag}

pub record Refusal : Type 0 where
  pub number : ℕ
  pub layer : Layer
  pub detail : ℕ

abbrev pub refusal : PackFault → Refusal
refusal (Wide n) = record { number = 3; layer = Packing; detail = n }
refusal (Tag w) = record { number = 4; layer = Packing; detail = w }
