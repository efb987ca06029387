-- Data whose words alone changed.
use Rattle.std.proofs.Common.{◌≡◌, ℕ, ◌≤◌, Bool, false, ◌&&◌, eqb, List, [], length, sym, ap, ◌∙◌, arith}
use Rattle.std.proofs.lemmas.List.{get_or_past, length-replicate, length-take}
use Rattle.std.proofs.lemmas.Bool.{le-ltb}
use Rattle.ir.specs.declared.entities.Value.{Value}
use Rattle.store.specs.Bank.{Bank, Owned, items_of, nothing, obtained, cleared, holding, written, copied, pushed, changed, removed_at, swap_removed_at}
use Rattle.model.specs.State.{holds}
use Rattle.model.proofs.Banks.{anew_only, cleared_only, written_only, copied_only, pushed_only, changed_only, removed_at_only, swap_removed_at_only, fresh_count}

-- a step changes one list, so there are as many as before
pub cleared_count : {T : Type 0} (b : Bank T) (l : ℕ) → length (cleared b l).lists ≡ length b.lists
cleared_count b l = (cleared_only b l).count

pub written_count : {T : Type 0} (b : Bank T) (l : ℕ) (xs : List T) → length (written b l xs).lists ≡ length b.lists
written_count b l xs = (written_only b l xs).count

pub copied_count : {T : Type 0} (b : Bank T) (l m : ℕ) → length (copied b l m).lists ≡ length b.lists
copied_count b l m = (copied_only b l m).count

pub pushed_count : {T : Type 0} (b : Bank T) (l : ℕ) (x : T) → length (pushed b l x).lists ≡ length b.lists
pushed_count b l x = (pushed_only b l x).count

pub changed_count : {T : Type 0} (b : Bank T) (l i : ℕ) (x : T) → length (changed b l i x).lists ≡ length b.lists
changed_count b l i x = (changed_only b l i x).count

pub removed_count : {T : Type 0} (b : Bank T) (l i : ℕ) → length (removed_at b l i).lists ≡ length b.lists
removed_count b l i = (removed_at_only b l i).count

pub swap_removed_count : {T : Type 0} (b : Bank T) (l i : ℕ) → length (swap_removed_at b l i).lists ≡ length b.lists
swap_removed_count b l i = (swap_removed_at_only b l i).count

pub reserved_count : {T : Type 0} (b : Bank T) (l k : ℕ) → length (holding (obtained (cleared b l) k) l [] k).lists ≡ length b.lists
reserved_count b l k = (anew_only b l [] k).count

pub ruleset counts = (cleared_count, written_count, copied_count, pushed_count, changed_count, removed_count, swap_removed_count, reserved_count)

-- past the lists nothing holds anything
pub holds_past : (b : Bank Value) (l n : ℕ) (v : Value) → length b.lists ≤ l → holds (items_of b l) n v ≡ false
holds_past b l n v h = ap (λ (o : Owned Value). holds o.items n v) (get_or_past b.lists l nothing h) ∙ none
  where
    none : holds [] n v ≡ false
    none = ap (λ (t : Bool). t && eqb 0 v.0) (le-ltb n 0 (omega arith))

-- a new pool has as many lists as it was asked for, and labels are as many as are cut
pub ruleset opening = (fresh_count, length-take, length-replicate)
