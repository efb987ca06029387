-- Calls of two tables, one after another: what is left of them, and whether their answers agree.
use Rattle.std.proofs.Common.{◌≡◌, ℕ, ◌+◌, ◌<◌, Bool, true, false, ◌&&◌, List, ◌∷◌, length, get_or, drop, Decides, refl, ap, ◌∙◌, add-one, drop-cons}
use Rattle.std.specs.Cmp.Derive.{both_true}
use Rattle.table.specs.declared.calls.TableCall.{TableCall}
use Rattle.table.specs.Table.{Table}
use Rattle.table.specs.Calls.{answer, answers, after, after_all}

both : (a b : Bool) → (a && b) ≡ true → (a ≡ true) × (b ≡ true)
both true b e = (refl, e)
both false b e = (e, cc)

-- the calls cs of both, from s and t on, come to what the calls ds come to from u and v on, where the answers before agree if alike says so
pub record Part (cs ds : List TableCall) (alike : Bool) (s t u v : Table) : Type 0 where
  pub before : (alike ≡ true) × (answers ds u ≡ answers ds v) → answers cs s ≡ answers cs t
  pub behind : answers cs s ≡ answers cs t → (alike ≡ true) × (answers ds u ≡ answers ds v)
  pub left : after_all ds u ≡ after_all cs s
  pub right : after_all ds v ≡ after_all cs t

part_call : (cs ds : List TableCall) (c : TableCall) (alike x : Bool) (s t u v u2 v2 : Table) → Part cs (c ∷ ds) alike s t u v → Decides x (answer c u ≡ answer c v) → u2 ≡ after c u → v2 ≡ after c v → Part cs ds (alike && x) s t u2 v2
part_call cs ds c alike x s t u v u2 v2 P d l r =
    let lu : answers ds u2 ≡ answers ds (after c u) = ap (answers ds) l in
    let rv : answers ds v2 ≡ answers ds (after c v) = ap (answers ds) r in
    record {
      before = λ h. P.before ((both alike x h.0).0, let e = d.0 ((both alike x h.0).1) in let f = h.1 in cc);
      behind = λ q. let h = P.behind q in let e = h.1 in (both_true h.0 (d.1 cc), cc);
      left = ap (after_all ds) l ∙ P.left;
      right = ap (after_all ds) r ∙ P.right;
    }

-- the call at k
pub part_more : (cs : List TableCall) (k : ℕ) (d : TableCall) (alike x : Bool) (s t u v u2 v2 : Table) → k < length cs → Part cs (drop k cs) alike s t u v →
    Decides x (answer (get_or cs k d) u ≡ answer (get_or cs k d) v) → u2 ≡ after (get_or cs k d) u → v2 ≡ after (get_or cs k d) v → Part cs (drop (k + 1) cs) (alike && x) s t u2 v2
part_more cs k d alike x s t u v u2 v2 h P =
    let e : drop k cs ≡ get_or cs k d ∷ drop (k + 1) cs = rw (add-one, drop-cons cs k d) in
    part_call cs (drop (k + 1) cs) (get_or cs k d) alike x s t u v u2 v2 (rw e at P)
