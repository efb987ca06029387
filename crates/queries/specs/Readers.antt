-- What the readers over values and over types go over.
use Rattle.std.specs.Prelude.{ℕ, ◌+◌, cond, List, [], ◌∷◌, map, Some, None, Option}
use Rattle.ir.specs.declared.entities.Value.{Value}
use Rattle.ir.specs.declared.entities.Type.{«Type» as Ty}
use Rattle.ir.specs.declared.value_data.ValueData.{ValueData}
use Rattle.ir.specs.declared.value_data.ValueDef.{ValueDef}
use Rattle.ir.specs.Packing.{retired, type}
use Rattle.values.specs.Defs.{definitions}
use Rattle.values.specs.Leads.{at, leads_to}
use Rattle.model.specs.State.{value}
use Rattle.queries.specs.declared.readers.Values.{Values}
use Rattle.queries.specs.declared.readers.ValuesAndDefs.{ValuesAndDefs}
use Rattle.queries.specs.declared.readers.BlockParamTypes.{BlockParamTypes}
use Rattle.queries.specs.Answers.{source}

-- the values that are not retired, of definitions that begin with that of number n
abbrev pub unretired_from : ℕ → List ValueData → List Value
unretired_from n [] = []
unretired_from n (d ∷ ds) = cond (retired d) (unretired_from (n + 1) ds) (value n ∷ unretired_from (n + 1) ds)

abbrev pub values_left : Values → List Value
values_left r = unretired_from r.number (definitions r.rest.now)

-- where what a value leads to comes from, if it leads anywhere
abbrev pub source_at : List ValueData → Option Value → Option ValueDef
source_at ds None = None
source_at ds (Some r) = source (at ds r)

abbrev pub source_of : List ValueData → Value → Option ValueDef
source_of ds v = source_at ds (leads_to ds v)

abbrev pub paired : Value → Option ValueDef → List (Value × ValueDef) → List (Value × ValueDef)
paired v None ps = ps
paired v (Some d) ps = (v, d) ∷ ps

abbrev pub with_sources : List ValueData → List Value → List (Value × ValueDef)
with_sources ds [] = []
with_sources ds (v ∷ vs) = paired v (source_of ds v) (with_sources ds vs)

abbrev pub pairs_left : ValuesAndDefs → List (Value × ValueDef)
pairs_left r = with_sources (definitions r.defs.now) (values_left r.values)

abbrev pub types_left : BlockParamTypes → List Ty
types_left r = map (λ v. type (at (definitions r.defs.now) v)) r.params.now
