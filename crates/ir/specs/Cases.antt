-- Worked values of the packing.
use Rattle.std.specs.Prelude.{◌≡◌, Ok, Err}
use Rattle.ir.specs.declared.value_data.ValueData.TheVariants.{Inst, Alias, Union}
use Rattle.ir.specs.declared.block_arg.BlockArg.TheVariants.{TryCallExn}
use Rattle.ir.specs.declared.fault.PackFault.TheVariants.{Wide}
use Rattle.ir.specs.Packing.{packed, unpacked, retired_mark}
use Rattle.ir.specs.Arguments.{encoded}

pub record Worked : Type 0 where
  pub result : packed (Inst (record { 0 = 5 }) 2 (record { 0 = 7 })) ≡ Ok (record { x = 2; y = 7; flags = 0x0005 })
  pub alias : packed (Alias (record { 0 = 5 }) (record { 0 = 9 })) ≡ Ok (record { x = 0; y = 9; flags = 0x8005 })
  pub union : packed (Union (record { 0 = 5 }) (record { 0 = 1 }) (record { 0 = 2 })) ≡ Ok (record { x = 1; y = 2; flags = 0xC005 })
  pub retired : packed retired_mark ≡ Ok (record { x = 0; y = 0xFFFF_FFFF; flags = 0x8000 })
  pub widest_type : packed (Inst (record { 0 = 16383 }) 0 (record { 0 = 0 })) ≡ Ok (record { x = 0; y = 0; flags = 16383 })
  pub wide_type : packed (Inst (record { 0 = 16384 }) 0 (record { 0 = 0 })) ≡ Err (Wide 16384)
  pub last_place : unpacked (record { x = 65535; y = 0; flags = 5 }) ≡ Ok (Inst (record { 0 = 5 }) 65535 (record { 0 = 0 }))
  pub wide_place : unpacked (record { x = 65536; y = 0; flags = 5 }) ≡ Err (Wide 65536)
  pub exception : encoded (TryCallExn 1073741823) ≡ Ok 0xBFFF_FFFF
  pub wide_payload : encoded (TryCallExn 1073741824) ≡ Err (Wide 1073741824)
