-- What each call leaves in the other lists.
use Rattle.std.proofs.Common.{◌≡◌, ℕ, ◌≢◌, List, [], ◌∷◌, ◌++◌, length, get_or, set, ap, ◌∙◌, inl, inr}
use Rattle.std.specs.List.{remove}
use Rattle.std.proofs.lemmas.List.{get_or-set_other}
use Rattle.std.proofs.lemmas.Bool.{cases_Bool}
use Rattle.store.specs.Units.{smallest}
use Rattle.store.specs.Bank.{Bank, nothing, items_of, class_of, roomy, obtained, cleared, holding, written, grown, pushed, changed, shortened, removed_at, swapped_out, swap_removed_at}
use Rattle.store.proofs.Acts.{obtained_lists, pushed_within, pushed_grown}

obtained_other : {T : Type 0} (b : Bank T) (c m : ℕ) → get_or (obtained b c).lists m nothing ≡ get_or b.lists m nothing
obtained_other b c m = ap (λ ls. get_or ls m nothing) (obtained_lists b c)

-- another list, past each thing that is done to list l
module _ {T : Type 0} (b : Bank T) (l m : ℕ) (ne : m ≢ l) where
  pub holding_other : (xs : List T) (c : ℕ) → get_or (holding b l xs c).lists m nothing ≡ get_or b.lists m nothing
  unfolding holding
  holding_other xs c = get_or-set_other b.lists l m (record { items = xs; class = c }) nothing ne

  pub cleared_other : get_or (cleared b l).lists m nothing ≡ get_or b.lists m nothing
  unfolding cleared
  cleared_other = get_or-set_other b.lists l m nothing nothing ne

  pub shortened_other : (xs : List T) → get_or (shortened b l xs).lists m nothing ≡ get_or b.lists m nothing
  unfolding shortened
  shortened_other [] = cleared_other
  shortened_other (x ∷ xs) = holding_other (x ∷ xs) (class_of b l)

module _ {T : Type 0} (b : Bank T) (l m : ℕ) (ne : m ≢ l) where
  pub written_other : (xs : List T) → get_or (written b l xs).lists m nothing ≡ get_or b.lists m nothing
  unfolding written
  written_other xs =
      holding_other (obtained (cleared b l) (smallest (length xs))) l m ne xs (smallest (length xs))
      ∙ (obtained_other (cleared b l) (smallest (length xs)) m ∙ cleared_other b l m ne)

  pub grown_other : (xs : List T) → get_or (grown b l xs).lists m nothing ≡ get_or b.lists m nothing
  unfolding grown
  grown_other xs =
      holding_other (cleared (obtained b (smallest (length xs))) l) l m ne xs (smallest (length xs))
      ∙ (cleared_other (obtained b (smallest (length xs))) l m ne ∙ obtained_other b (smallest (length xs)) m)

  pub pushed_other : (x : T) → get_or (pushed b l x).lists m nothing ≡ get_or b.lists m nothing
  pushed_other x =
      elim (cases_Bool (roomy b l)) [
        | inl y ↦ ap (λ d. get_or d.lists m nothing) (pushed_within b l x y) ∙ holding_other b l m ne (items_of b l ++ x ∷ []) (class_of b l)
        | inr n ↦ ap (λ d. get_or d.lists m nothing) (pushed_grown b l x n) ∙ grown_other (items_of b l ++ x ∷ [])
      ]

  pub changed_other : (i : ℕ) (x : T) → get_or (changed b l i x).lists m nothing ≡ get_or b.lists m nothing
  unfolding changed
  changed_other i x = holding_other b l m ne (set (items_of b l) i x) (class_of b l)

  pub removed_other : (i : ℕ) → get_or (removed_at b l i).lists m nothing ≡ get_or b.lists m nothing
  unfolding removed_at
  removed_other i = shortened_other b l m ne (remove (items_of b l) i)

  pub swap_removed_other : (i : ℕ) → get_or (swap_removed_at b l i).lists m nothing ≡ get_or b.lists m nothing
  unfolding swap_removed_at
  swap_removed_other i = shortened_other b l m ne (swapped_out (items_of b l) i)
