-- The pair list's function, by the pairs that fit.
use Rattle.std.proofs.Common.{◌≡◌, ◌==◌, ◌≢◌, List, [], ◌∷◌, ◌++◌, Some, None, Option, refl, ap, ◌∙◌}
use Rattle.std.specs.Option.{option_map_or}
use Rattle.std.proofs.lemmas.List.Elements.{All-head, All-tail}
use Rattle.std.proofs.lemmas.List.Folds.{find-append}
use Rattle.std.proofs.lemmas.Bool.{eq-eqb, ne_eqb}
use Rattle.ir.specs.declared.entities.Value.{Value}
use Rattle.values.proofs.Ways.{same_value}
use Rattle.renaming.specs.declared.pairs.Pair.{Pair}
use Rattle.renaming.specs.Renames.{first_for, NoFit, FirstFits, NoneFits}

none : (ps : List Pair) (v : Value) → NoFit ps v → first_for ps v ≡ None
none [] v h = refl
none (p ∷ ps) v h =
    let other : p.from.0 ≢ v.0 = λ e. All-head (λ q. q.from ≢ v) p ps h (same_value p.from v e) in
    rw (ne_eqb p.from.0 v.0 other) (none ps v (All-tail (λ q. q.from ≢ v) p ps h))

first : (before after : List Pair) (p : Pair) → NoFit before p.from → first_for (before ++ p ∷ after) p.from ≡ Some p
first before after p h =
    find-append (λ q. q.from.0 == p.from.0) before (p ∷ after)
    ∙ rw (none before p.from h, eq-eqb p.from.0 p.from.0 refl)

pub first_fits : FirstFits
first_fits before after p h = ap (λ (o : Option Pair). option_map_or (λ q. q.to) o p.from) (first before after p h)

pub none_fits : NoneFits
none_fits ps v h = ap (λ (o : Option Pair). option_map_or (λ q. q.to) o v) (none ps v h)
