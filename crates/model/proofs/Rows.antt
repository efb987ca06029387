-- What an accepted edit says: no row held, and the state after it is the one that the edit gives.
use Rattle.std.proofs.Common.{◌≡◌, ℕ, zero, suc, ◌<◌, Bool, true, false, cond, List, [], ◌∷◌, length, get_or, Some, None, Option, refl, not-suc-le-zero, arith}
use Rattle.model.specs.declared.fault.GraphFault.{GraphFault}
use Rattle.store.specs.declared.parts.PoolFault.{PoolFault}
use Rattle.model.specs.Refusals.{Row, by_pool, when, first_among, first, done, unless, settle}
use Rattle.model.specs.State.{Graph, State}
use Rattle.model.specs.Runs.{Answer, on_graph, on_state}

-- no row holds
abbrev pub Passes : List Row → Type 0
Passes [] = Unit {0}
Passes (r ∷ rows) = (r ≡ None) × Passes rows

pub passes : (rows : List Row) → first rows ≡ None → Passes rows
passes [] e = tt
passes (None ∷ rows) e = (refl, passes rows e)
passes (Some f ∷ rows) e = absurd cc

-- an accepted edit of the state
pub state_done : {A : Type 0} (answer : A → Answer) (rows : List Row) (x : A) (after : State) (a : Answer) (t : State) →
    on_state answer (settle rows x after) ≡ done a t → Passes rows × (after ≡ t)
state_done answer rows x after a t e = by (first rows) refl e
  where
    by : (r : Row) → first rows ≡ r → on_state answer (unless r x after) ≡ done a t → Passes rows × (after ≡ t)
    by None p q = let z : after ≡ t = cc in (passes rows p, z)
    by (Some f) p q = absurd cc

-- an accepted edit of the graph leaves the table
pub graph_done : {A : Type 0} (s : State) (answer : A → Answer) (rows : List Row) (x : A) (after : Graph) (a : Answer) (t : State) →
    on_graph s answer (settle rows x after) ≡ done a t → Passes rows × (record { graph = after; table = s.table } ≡ t)
graph_done s answer rows x after a t e = by (first rows) refl e
  where
    by : (r : Row) → first rows ≡ r → on_graph s answer (unless r x after) ≡ done a t → Passes rows × (record { graph = after; table = s.table } ≡ t)
    by None p q = let z : record { graph = after; table = s.table } ≡ t = cc in (passes rows p, z)
    by (Some f) p q = absurd cc

-- a row that does not hold
pub when_none : (b : Bool) (f : GraphFault) → when b f ≡ None → b ≡ false
when_none true f e = absurd cc
when_none false f e = refl

pub cond_none : (b : Bool) (f : GraphFault) (r : Row) → cond b (Some f) r ≡ None → (b ≡ false) × (r ≡ None)
cond_none true f r e = absurd cc
cond_none false f r e = (refl, e)

-- where the row fits no argument, it fits none of them
pub first_of_none : {A : Type 0} (fits : A → Bool) (fault : A → GraphFault) (xs : List A) → first_among fits fault xs ≡ None →
    (d : A) (k : ℕ) → k < length xs → fits (get_or xs k d) ≡ false
first_of_none fits fault [] e d k h = absurd (not-suc-le-zero h)
first_of_none fits fault (x ∷ xs) e d zero h = (cond_none (fits x) (fault x) (first_among fits fault xs) e).0
first_of_none fits fault (x ∷ xs) e d (suc k) h =
    first_of_none fits fault xs (cond_none (fits x) (fault x) (first_among fits fault xs) e).1 d k (omega arith)

pub pool_none : (o : Option PoolFault) → by_pool o ≡ None → o ≡ None
pool_none None e = refl
pool_none (Some f) e = absurd cc
