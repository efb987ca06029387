-- What the rows of a new instruction say once none of them holds.
use Rattle.std.proofs.Common.{◌≡◌, ℕ, ◌+◌, Bool, true, false, cond, ltb, leb, Some, None, Ok, Err, Option, Result, refl, ap, ◌∙◌}
use Rattle.std.proofs.lemmas.Bool.{eqb-true, not-false}
use Rattle.ir.specs.declared.entities.Inst.{Inst as InstId}
use Rattle.store.specs.declared.parts.PoolFault.{PoolFault}
use Rattle.store.specs.Faults.{judged as pool-judged}
use Rattle.table.specs.declared.fault.TableFault.{TableFault}
use Rattle.table.specs.Table.{Table, add_answer, count, total}
use Rattle.model.specs.declared.fault.GraphFault.{GraphFault}
use Rattle.model.specs.declared.fault.GraphFault.TheVariants.{Count, Pool}
use Rattle.model.specs.Refusals.{Row, by_pool, by_table, outcome, unless}
use Rattle.model.specs.State.{State, inst}
use Rattle.model.specs.Edits.{counts_differ}
use Rattle.model.proofs.Rows.{when_none}
use Rattle.defs.specs.Graphs.{judged}

-- what the pool answers, as a row
pub pool_passes : (o : Option PoolFault) → Ok tt ≡ pool-judged o → Ok tt ≡ judged (by_pool o)
pool_passes None e = refl
pool_passes (Some f) e = absurd cc

pub pool_stops : (o : Option PoolFault) (f : PoolFault) → Err f ≡ pool-judged o → Err (Pool f) ≡ judged (by_pool o)
pool_stops None f e = absurd cc
pool_stops (Some h) f e = let p : f ≡ h = cc in ap (λ (x : PoolFault). Err (Pool x)) p

-- a refusal is what the edit comes to, and leaves everything
pub refuses : {A S : Type 0} (q : Result A GraphFault) (x y : S) (a : A) (r : Row) (f : GraphFault) → q ≡ Err f → Err f ≡ judged r →
    outcome q x ≡ unless r a y
refuses q x y a None f p e = absurd cc
refuses {A} q x y a (Some h) f p e =
    let k : f ≡ h = cc in ap (λ (u : Result A GraphFault). outcome u x) (p ∙ ap (λ (u : GraphFault). Err u) k)

-- a table that has room answers its count
answer_by : (a b : Bool) (i : InstId) (f g : TableFault) → by_table (cond a (cond b (Ok i) (Err f)) (Err g)) ≡ None →
    cond a (cond b (Ok i) (Err f)) (Err g) ≡ Ok i
answer_by true true i f g e = refl
answer_by true false i f g e = absurd cc
answer_by false b i f g e = absurd cc

pub add_made : (t : Table) (n : ℕ) → by_table (add_answer t n) ≡ None → add_answer t n ≡ Ok (inst (count t))
add_made t n e = answer_by (ltb (count t) t.insts) (leb (total t.rows + n) t.words) (inst (count t)) _ _ e

pub counts_same : (s : State) → counts_differ s ≡ None → s.graph.insts ≡ count s.table
counts_same s e = eqb-true s.graph.insts (count s.table) (not-false _ (when_none _ (Count (count s.table)) e))
