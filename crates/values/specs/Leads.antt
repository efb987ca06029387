-- What a value leads to through aliases.
use Rattle.std.specs.Prelude.{◌≡◌, ℕ, zero, suc, ◌<◌, ◌≤◌, cond, ◌↔◌, List, length, Some, None, Option, slice_index_or, slice_set, sum_by}
use Rattle.ir.specs.declared.entities.Value.{Value}
use Rattle.ir.specs.declared.value_data.ValueData.{ValueData}
use Rattle.ir.specs.declared.value_data.ValueData.TheVariants.{Inst, Param, Alias, Union}
use Rattle.ir.specs.Packing.{retired_mark, retired}
use Rattle.values.specs.declared.kind.Kind.{Kind}
use Rattle.values.specs.declared.kind.Kind.TheVariants.{Root, Link, Gone}

-- what a definition is to whoever follows aliases
abbrev pub kind : ValueData → Kind
kind (Inst ty num inst) = Root
kind (Param ty num block) = Root
kind (Alias ty original) = cond (retired (Alias ty original)) Gone (Link original)
kind (Union ty x y) = Root

-- the definition of a value; an unknown one reads as the retired mark
abbrev pub at : List ValueData → Value → ValueData
at vs v = slice_index_or vs v.0 retired_mark

abbrev pub Exists : List ValueData → Value → Type 0
Exists vs v = v.0 < length vs

abbrev pub Retired : List ValueData → Value → Type 0
Retired vs v = Exists vs v × (at vs v ≡ retired_mark)

-- v is a live alias, of that original
abbrev pub LiveAlias : List ValueData → Value → Value → Type 0
LiveAlias vs v original = kind (at vs v) ≡ Link original

-- v exists, is not retired and is no alias
abbrev pub NonAlias : List ValueData → Value → Type 0
NonAlias vs v = kind (at vs v) ≡ Root

-- v leads to r through n aliases: a live alias leads to what its original leads to, through itself and each alias on
-- the way; every other unretired value leads to itself
pub data Leads (vs : List ValueData) : Value → Value → ℕ → Type 0 where
  here : {v : Value} → NonAlias vs v → Leads vs v v zero
  step : {v original r : Value} {n : ℕ} → LiveAlias vs v original → Leads vs original r n → Leads vs v r (suc n)

abbrev pub LeadsNowhere : List ValueData → Value → Type 0
LeadsNowhere vs v = (r : Value) (n : ℕ) → Leads vs v r n → ⊥

-- where a walk goes from v
abbrev pub onward : Kind → (Value → Option Value) → Value → Option Value
onward Root walk-on v = Some v
onward (Link original) walk-on v = walk-on original
onward Gone walk-on v = None

-- a walk that looks at no more than n definitions
abbrev pub walk : ℕ → List ValueData → Value → Option Value
walk zero vs v = None
walk (suc n) vs v = onward (kind (at vs v)) (walk n vs) v

-- What v leads to, if anything; as many looks as there are definitions are enough.
abbrev pub leads_to : List ValueData → Value → Option Value
leads_to vs v = walk (length vs) vs v

-- how many live aliases there are
abbrev pub weight : Kind → ℕ
weight Root = 0
weight (Link original) = 1
weight Gone = 0

abbrev pub live_aliases : List ValueData → ℕ
live_aliases vs = sum_by (λ d. weight (kind d)) vs

-- On every table, rings included:

-- the function answers r exactly where the value leads to r,
abbrev pub WalkFinds : Type 0
WalkFinds = (vs : List ValueData) (v r : Value) → (leads_to vs v ≡ Some r) ↔ ((n : ℕ) × Leads vs v r n)

-- and nothing exactly where the value leads nowhere;
abbrev pub WalkFails : Type 0
WalkFails = (vs : List ValueData) (v : Value) → (leads_to vs v ≡ None) ↔ LeadsNowhere vs v

-- a value leads to one value only, by one way, and that one is no alias;
abbrev pub OneEnd : Type 0
OneEnd = (vs : List ValueData) (v r s : Value) (m n : ℕ) → Leads vs v r m → Leads vs v s n → (r ≡ s) × (m ≡ n) × NonAlias vs r

-- a way passes no more aliases than are live, which are fewer than the values.
abbrev pub ShortWays : Type 0
ShortWays =
    (vs : List ValueData) (v r : Value) (n : ℕ) → Leads vs v r n → (n ≤ live_aliases vs) × (n < length vs)

-- Redirecting a live alias straight to what it leads to leaves what each value leads to as it was.
abbrev pub Redirects : Type 0
Redirects =
    (vs : List ValueData) (v r : Value) (n : ℕ) (d : ValueData) → Leads vs v r (suc n) → kind d ≡ Link r →
    (w : Value) → leads_to (slice_set vs v.0 d) w ≡ leads_to vs w
