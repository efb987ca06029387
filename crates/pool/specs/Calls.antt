-- The calls that change a pool, and runs of them.
use Rattle.std.specs.Prelude.{◌≡◌, ℕ, List, [], ◌∷◌, length, Ok, Err, Option, Result}
use Rattle.store.specs.declared.parts.PoolFault.{PoolFault}
use Rattle.store.specs.declared.store.Store.{Store}
use Rattle.store.specs.Faults.{judged, unless}
use Rattle.store.specs.Bank.{Bank, bank, pushed, changed, removed_at, swap_removed_at, cleared, written, copied, fault_list, fault_at, fault_push, fault_write, fault_copy}

pub data Call (T : Type 0) : Type 0 where
  push : ℕ → T → Call T
  change : ℕ → ℕ → T → Call T
  remove : ℕ → ℕ → Call T
  swap_remove : ℕ → ℕ → Call T
  clear : ℕ → Call T
  write : ℕ → List T → Call T
  copy : ℕ → ℕ → Call T

-- what a call is refused with
abbrev pub fault : {T : Type 0} → Bank T → Call T → Option PoolFault
fault b (push l x) = fault_push b l
fault b (change l i x) = fault_at b l i
fault b (remove l i) = fault_at b l i
fault b (swap_remove l i) = fault_at b l i
fault b (clear l) = fault_list b l
fault b (write l xs) = fault_write b l (length xs)
fault b (copy l m) = fault_copy b l m

-- what it does else
abbrev pub done : {T : Type 0} → Bank T → Call T → Bank T
done b (push l x) = pushed b l x
done b (change l i x) = changed b l i x
done b (remove l i) = removed_at b l i
done b (swap_remove l i) = swap_removed_at b l i
done b (clear l) = cleared b l
done b (write l xs) = written b l xs
done b (copy l m) = copied b l m

-- a refused call changes nothing
abbrev pub does : {T : Type 0} → Bank T → Call T → Bank T
does b c = unless (fault b c) b (done b c)

-- and leaves what there was
abbrev pub Kept : {A : Type 0} → Result (Unit {0}) PoolFault → A → A → Type 0
Kept (Ok x) was is = Unit {0}
Kept (Err f) was is = is ≡ was

-- a call's answer, what it does, and that a refused one leaves every field and all lent memory as it was
pub record Answered {T : Type 0} (c : Call T) (r : Result (Unit {0}) PoolFault) (was is : Store T) : Type 0 where
  pub says : r ≡ judged (fault (bank was) c)
  pub leaves : bank is ≡ does (bank was) c
  pub kept : Kept r was is

abbrev pub run : {T : Type 0} → Bank T → List (Call T) → Bank T
run b [] = b
run b (c ∷ cs) = run (does b c) cs
