-- How definitions, arguments and refusals are written: words, with a space between any two.
use Rattle.std.specs.Prelude.{ℕ, ◌-◌, List, [], ◌∷◌, ◌++◌, codes, decimal, slice_index_or}
use Rattle.ir.specs.declared.value_data.ValueData.{ValueData}
use Rattle.ir.specs.declared.value_data.ValueData.TheVariants.{Inst, Param, Alias, Union}
use Rattle.ir.specs.declared.value_data.ValueDataPacked.{ValueDataPacked}
use Rattle.ir.specs.declared.block_arg.BlockArg.{BlockArg}
use Rattle.ir.specs.declared.block_arg.BlockArg.TheVariants.{Value, TryCallRet, TryCallExn}
use Rattle.ir.specs.declared.fault.Layer.{Layer}
use Rattle.ir.specs.declared.fault.Layer.TheVariants.{Packing, Pool, Table, Graph}
use Rattle.ir.specs.Refusals.{Refusal}

abbrev pub Words : Type 0
Words = List (List ℕ)

abbrev pub spaced : Words → List ℕ
spaced [] = []
spaced (w ∷ []) = w
spaced (w ∷ (v ∷ vs)) = w ++ (32 ∷ spaced (v ∷ vs))

abbrev pub of_data : ValueData → Words
of_data (Inst ty num inst) = codes "result" ∷ decimal ty.0 ∷ decimal num ∷ decimal inst.0 ∷ []
of_data (Param ty num block) = codes "param" ∷ decimal ty.0 ∷ decimal num ∷ decimal block.0 ∷ []
of_data (Alias ty original) = codes "alias" ∷ decimal ty.0 ∷ decimal original.0 ∷ []
of_data (Union ty x y) = codes "union" ∷ decimal ty.0 ∷ decimal x.0 ∷ decimal y.0 ∷ []

abbrev pub of_packed : ValueDataPacked → Words
of_packed p = decimal p.x ∷ decimal p.y ∷ decimal p.flags ∷ []

abbrev pub of_arg : BlockArg → Words
of_arg (Value v) = codes "value" ∷ decimal v.0 ∷ []
of_arg (TryCallRet n) = codes "ret" ∷ decimal n ∷ []
of_arg (TryCallExn n) = codes "exn" ∷ decimal n ∷ []

abbrev pub of_layer : Layer → List ℕ
of_layer Packing = codes "packing"
of_layer Pool = codes "pool"
of_layer Table = codes "table"
of_layer Graph = codes "graph"

-- the words of the refusals, from number 1 on
abbrev pub refusal_words : Words
refusal_words =
    codes "unknown" ∷ codes "retired" ∷ codes "wide" ∷ codes "tag" ∷ codes "kind"
    ∷ codes "loose" ∷ codes "attached" ∷ codes "type" ∷ codes "loop" ∷ codes "count"
    ∷ codes "union" ∷ codes "twice" ∷ codes "full" ∷ codes "pool" ∷ codes "long" ∷ []

abbrev pub word : ℕ → List ℕ
word number = slice_index_or refusal_words (number - 1) []

abbrev pub of_refusal : Refusal → Words
of_refusal r = codes "refused" ∷ decimal r.number ∷ word r.number ∷ of_layer r.layer ∷ decimal r.detail ∷ []
