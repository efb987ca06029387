-- The alias resolver's function, by what values lead to.
use Rattle.std.proofs.Common.{Option, unwrap_or, ap}
use Rattle.ir.specs.declared.entities.Value.{Value}
use Rattle.values.proofs.Ways.{leads_some, nowhere_none}
use Rattle.renaming.specs.Renames.{EndReached, StaysPut}

pub end_reached : EndReached
end_reached vs v r n l = ap (λ (o : Option Value). unwrap_or o v) (leads_some l)

pub stays_put : StaysPut
stays_put vs v nowhere = ap (λ (o : Option Value). unwrap_or o v) (nowhere_none vs v nowhere)
