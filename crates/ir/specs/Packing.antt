-- A definition in three fields: x and y of 32 bits, and flags of 16 bits that are tag × 16,384 + type.
use Rattle.std.specs.Prelude.{ℕ, zero, suc, ◌+◌, ◌*◌, ◌/◌, ◌%◌, Bool, false, cond, ◌&&◌, Ok, Err, Result, ◌==◌, nat_lt}
use Rattle.ir.specs.declared.entities.Type.{«Type» as Ty}
use Rattle.ir.specs.declared.value_data.ValueData.{ValueData}
use Rattle.ir.specs.declared.value_data.ValueData.TheVariants.{Inst, Param, Alias, Union}
use Rattle.ir.specs.declared.value_data.ValueDataPacked.{ValueDataPacked}
use Rattle.ir.specs.declared.value_data.Tag.{Tag}
use Rattle.ir.specs.declared.value_data.Tag.TheVariants as tag
use Rattle.ir.specs.declared.fault.PackFault.{PackFault}
use Rattle.ir.specs.declared.fault.PackFault.TheVariants.{Wide}

-- the type and the tag that flags hold
abbrev pub type_of : ValueDataPacked → Ty
type_of p = record { 0 = p.flags % 16384 }

abbrev pub tag_of : ValueDataPacked → ℕ
tag_of p = p.flags / 16384

-- the number of a tag
abbrev pub number_of : Tag → ℕ
number_of tag.Inst = 0
number_of tag.Param = 1
number_of tag.Alias = 2
number_of tag.Union = 3

abbrev pub fields : ℕ → Ty → ℕ → ℕ → ValueDataPacked
fields tag ty x y = record { x = x; y = y; flags = tag * 16384 + ty.0 }

-- a type from 16,384 does not fit beside the tag
abbrev pub beside : Ty → ValueDataPacked → Result ValueDataPacked PackFault
beside ty p = cond (nat_lt ty.0 16384) (Ok p) (Err (Wide ty.0))

abbrev pub packed : ValueData → Result ValueDataPacked PackFault
packed (Inst ty num inst) = beside ty (fields 0 ty num inst.0)
packed (Param ty num block) = beside ty (fields 1 ty num block.0)
packed (Alias ty original) = beside ty (fields 2 ty 0 original.0)
packed (Union ty x y) = beside ty (fields 3 ty x.0 y.0)

-- a place in a list has 16 bits
abbrev pub place : ℕ → Result ℕ PackFault
place x = cond (nat_lt x 65536) (Ok x) (Err (Wide x))

abbrev pub placed : ℕ → ValueData → Result ValueData PackFault
placed x d = cond (nat_lt x 65536) (Ok d) (Err (Wide x))

-- by tag: result, parameter, alias, which ignores x, and union
abbrev pub read : ℕ → Ty → ℕ → ℕ → Result ValueData PackFault
read zero ty x y = placed x (Inst ty x (record { 0 = y }))
read (suc zero) ty x y = placed x (Param ty x (record { 0 = y }))
read (suc (suc zero)) ty x y = Ok (Alias ty (record { 0 = y }))
read (suc (suc (suc n))) ty x y = Ok (Union ty (record { 0 = x }) (record { 0 = y }))

abbrev pub unpacked : ValueDataPacked → Result ValueData PackFault
unpacked p = read (tag_of p) (type_of p) p.x p.y

-- the type of a definition
abbrev pub type : ValueData → Ty
type (Inst ty num inst) = ty
type (Param ty num block) = ty
type (Alias ty original) = ty
type (Union ty x y) = ty

-- The retired mark: the alias of type 0 whose original is the reserved number. Every other alias is live.
abbrev pub retired_mark : ValueData
retired_mark = Alias (record { 0 = 0 }) (record { 0 = 0xFFFF_FFFF })

abbrev pub retired : ValueData → Bool
retired (Inst ty num inst) = false
retired (Param ty num block) = false
retired (Alias ty original) = ty.0 == 0 && original.0 == 0xFFFF_FFFF
retired (Union ty x y) = false
