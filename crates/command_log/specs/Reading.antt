-- Which words are a command: those that it is written with. So each command is read in one spelling alone.
use Rattle.std.specs.Prelude.{◌≡◌, ℕ, ◌<◌, Bool, cond, ◌&&◌, ◌||◌, List, [], ◌∷◌, map, length, Some, None, codes, decimal, Option, ◌==◌, ◌≢◌, nat_lt, slice_index}
use Rattle.std.specs.Borrow.{Bor}
use Rattle.std.specs.Str.{bytes_eq}
use Rattle.ir.specs.declared.value_data.ValueData.{ValueData}
use Rattle.ir.specs.declared.value_data.ValueData.TheVariants.{Inst, Param, Alias, Union}
use Rattle.ir.specs.declared.value_data.ValueDataPacked.{ValueDataPacked}
use Rattle.ir.specs.declared.block_arg.BlockArg.{BlockArg}
use Rattle.ir.specs.declared.block_arg.BlockArg.TheVariants.{Value, TryCallRet, TryCallExn}
use Rattle.command_log.specs.declared.command.Command.{Command}
use Rattle.command_log.specs.declared.command.Command.TheVariants.{Pack, Unpack, Encode, Decode}
use Rattle.command_log.specs.declared.expected.Expected.{Expected}
use Rattle.command_log.specs.declared.expected.Expected.TheVariants as ex
use Rattle.ir.specs.Writing.{Words}

-- r is what the text w writes, if it writes anything
abbrev pub Reads : {A W : Type 0} → (A → W) → (A → Type 0) → W → Option A → Type 0
Reads written Fits w (Some a) = Fits a × (w ≡ written a)
Reads written Fits w None = (a : _) → Fits a → w ≢ written a

-- the same of two values and of three
abbrev pub ReadsTwo : {A B W : Type 0} → (A → B → W) → (A → B → Type 0) → W → Option (A × B) → Type 0
ReadsTwo written Fits w (Some p) = Fits p.0 p.1 × (w ≡ written p.0 p.1)
ReadsTwo written Fits w None = (a : _) (b : _) → Fits a b → w ≢ written a b

abbrev pub ReadsThree : {A B C W : Type 0} → (A → B → C → W) → (A → B → C → Type 0) → W → Option (A × (B × C)) → Type 0
ReadsThree written Fits w (Some p) = Fits p.0 p.1.0 p.1.1 × (w ≡ written p.0 p.1.0 p.1.1)
ReadsThree written Fits w None = (a : _) (b : _) (c : _) → Fits a b c → w ≢ written a b c

abbrev pub Numbers : ℕ → List ℕ → Option ℕ → Type 0
Numbers m = Reads decimal (λ n. n < m)

-- a plus, or a zero before other digits
abbrev pub padded : List ℕ → Bool
padded w = slice_index w 0 == 43 || (slice_index w 0 == 48 && nat_lt 1 (length w))

abbrev pub texts : List (Bor (List ℕ)) → Words
texts ws = map (λ w. w.now) ws

-- the numbers have the bits that the code has for them
abbrev pub packed_fits : ValueDataPacked → Type 0
packed_fits p = (p.x < 4294967296) × ((p.y < 4294967296) × (p.flags < 65536))

abbrev pub data_fits : ValueData → Type 0
data_fits (Inst ty num inst) = (ty.0 < 65536) × ((num < 65536) × (inst.0 < 4294967296))
data_fits (Param ty num block) = (ty.0 < 65536) × ((num < 65536) × (block.0 < 4294967296))
data_fits (Alias ty original) = (ty.0 < 65536) × (original.0 < 4294967296)
data_fits (Union ty x y) = (ty.0 < 65536) × ((x.0 < 4294967296) × (y.0 < 4294967296))

abbrev pub arg_fits : BlockArg → Type 0
arg_fits (Value v) = v.0 < 4294967296
arg_fits (TryCallRet n) = n < 4294967296
arg_fits (TryCallExn n) = n < 4294967296

abbrev pub fits : Command → Type 0
fits (Pack d) = data_fits d
fits (Unpack p) = packed_fits p
fits (Encode a) = arg_fits a
fits (Decode w) = w < 4294967296

-- what was expected of words that are no command, by the first of them
abbrev pub expected : Words → Expected
expected [] = ex.Command
expected (w ∷ ws) =
    cond (bytes_eq w (codes "pack")) ex.Pack
    (cond (bytes_eq w (codes "unpack")) ex.Unpack
    (cond (bytes_eq w (codes "encode")) ex.Encode (cond (bytes_eq w (codes "decode")) ex.Decode ex.Command)))
