-- What each operation of a pool does to its lists: one gets other items, and every other stays.
use Rattle.std.proofs.Common.{◌≡◌, ℕ, zero, suc, ◌<◌, Bool, true, false, cond, ltb, ◌≢◌, List, [], ◌∷◌, ◌++◌, length, get_or, take, drop, set, sym, refl, ap, ◌∙◌, replicate}
use Rattle.std.specs.List.{remove}
use Rattle.std.proofs.lemmas.List.{length-set, get_or-set_same, get_or-set_other, length-replicate}
use Rattle.store.specs.Units.{smallest}
use Rattle.store.specs.Bank.{Bank, Owned, nothing, items_of, class_of, taken, obtained, cleared, holding, written, copied, roomy, grown, pushed, changed, shortened, removed_at, swapped_out, swap_removed_at, fresh}
use Rattle.ir.specs.declared.entities.Value.{Value}
use Rattle.model.specs.Edits.{readdressed}

-- c is b with xs in list l, whatever blocks that took
pub record OnlyList {T : Type 0} (b c : Bank T) (l : ℕ) (xs : List T) : Type 0 where
  pub count : length c.lists ≡ length b.lists
  pub here : l < length b.lists → items_of c l ≡ xs
  pub others : (m : ℕ) → m ≢ l → get_or c.lists m nothing ≡ get_or b.lists m nothing

-- a list put in its place
set_only : {T : Type 0} (b c : Bank T) (l : ℕ) (o : Owned T) → c.lists ≡ set b.lists l o → OnlyList b c l o.items
set_only b c l o e = record {
  count = ap length e ∙ length-set b.lists l o;
  here = λ h. ap (λ (x : List _). (get_or x l nothing).items) e ∙ ap (λ (x : Owned _). x.items) (get_or-set_same b.lists l o nothing h);
  others = λ m ne. ap (λ (x : List _). get_or x m nothing) e ∙ get_or-set_other b.lists l m o nothing ne;
}

-- after a change of free blocks alone
pub only_from : {T : Type 0} {a b c : Bank T} {l : ℕ} {xs : List T} → a.lists ≡ b.lists → OnlyList b c l xs → OnlyList a c l xs
only_from {a} {b} {c} {l} e o = record {
  count = o.count ∙ ap length (sym e);
  here = λ h. o.here (rw (sym e) h);
  others = λ m ne. o.others m ne ∙ ap (λ (x : List _). get_or x m nothing) (sym e);
}

-- one change of a list after another
pub only_then : {T : Type 0} {a b c : Bank T} {l : ℕ} {xs ys : List T} → OnlyList a b l xs → OnlyList b c l ys → OnlyList a c l ys
only_then p q = record {
  count = q.count ∙ p.count;
  here = λ h. q.here (rw p.count h);
  others = λ m ne. q.others m ne ∙ p.others m ne;
}

pub items_other : {T : Type 0} {b c : Bank T} {l : ℕ} {xs : List T} → OnlyList b c l xs → (m : ℕ) → m ≢ l → items_of c m ≡ items_of b m
items_other o m ne = ap (λ (x : Owned _). x.items) (o.others m ne)

same_lists : {T : Type 0} (t : Bool) (b c d : Bank T) → c.lists ≡ b.lists → d.lists ≡ b.lists → (cond t c d).lists ≡ b.lists
same_lists true b c d p q = p
same_lists false b c d p q = q

taken_lists : {T : Type 0} (b : Bank T) (k : ℕ) → (taken b k).lists ≡ b.lists
unfolding taken
taken_lists b k = same_lists (ltb 0 (get_or b.free k 0)) b _ _ refl refl

pub obtained_lists : {T : Type 0} (b : Bank T) (class : ℕ) → (obtained b class).lists ≡ b.lists
unfolding obtained
obtained_lists b zero = refl
obtained_lists b (suc k) = taken_lists b k

pub holding_only : {T : Type 0} (b : Bank T) (l : ℕ) (xs : List T) (class : ℕ) → OnlyList b (holding b l xs class) l xs
unfolding holding
holding_only b l xs class = set_only b (holding b l xs class) l (record { items = xs; class = class }) refl

pub cleared_only : {T : Type 0} (b : Bank T) (l : ℕ) → OnlyList b (cleared b l) l []
unfolding cleared
cleared_only b l = set_only b (cleared b l) l nothing refl

-- a list put anew in a block of some class
pub anew_only : {T : Type 0} (b : Bank T) (l : ℕ) (xs : List T) (class : ℕ) → OnlyList b (holding (obtained (cleared b l) class) l xs class) l xs
anew_only b l xs class =
    only_then (cleared_only b l)
    (only_from (sym (obtained_lists (cleared b l) class)) (holding_only (obtained (cleared b l) class) l xs class))

pub written_only : {T : Type 0} (b : Bank T) (l : ℕ) (xs : List T) → OnlyList b (written b l xs) l xs
unfolding written
written_only b l xs = anew_only b l xs (smallest (length xs))

pub copied_only : {T : Type 0} (b : Bank T) (l m : ℕ) → OnlyList b (copied b l m) m (items_of b l)
copied_only b l m = written_only b m (items_of b l)

grown_only : {T : Type 0} (b : Bank T) (l : ℕ) (xs : List T) → OnlyList b (grown b l xs) l xs
unfolding grown
grown_only b l xs =
    only_from (sym (obtained_lists b (smallest (length xs))))
    (only_then (cleared_only (obtained b (smallest (length xs))) l)
    (holding_only (cleared (obtained b (smallest (length xs))) l) l xs (smallest (length xs))))

either : {T : Type 0} (b c d : Bank T) (l : ℕ) (xs : List T) (t : Bool) → OnlyList b c l xs → OnlyList b d l xs → OnlyList b (cond t c d) l xs
either b c d l xs true p q = p
either b c d l xs false p q = q

pub pushed_only : {T : Type 0} (b : Bank T) (l : ℕ) (x : T) → OnlyList b (pushed b l x) l (items_of b l ++ x ∷ [])
unfolding pushed
pushed_only b l x =
    either b _ _ l (items_of b l ++ x ∷ []) (roomy b l) (holding_only b l (items_of b l ++ x ∷ []) (class_of b l))
    (grown_only b l (items_of b l ++ x ∷ []))

pub changed_only : {T : Type 0} (b : Bank T) (l i : ℕ) (x : T) → OnlyList b (changed b l i x) l (set (items_of b l) i x)
unfolding changed
changed_only b l i x = holding_only b l (set (items_of b l) i x) (class_of b l)

shortened_only : {T : Type 0} (b : Bank T) (l : ℕ) (xs : List T) → OnlyList b (shortened b l xs) l xs
unfolding shortened
shortened_only b l [] = cleared_only b l
shortened_only b l (x ∷ xs) = holding_only b l (x ∷ xs) (class_of b l)

pub removed_at_only : {T : Type 0} (b : Bank T) (l i : ℕ) → OnlyList b (removed_at b l i) l (remove (items_of b l) i)
unfolding removed_at
removed_at_only b l i = shortened_only b l (remove (items_of b l) i)

pub swap_removed_at_only : {T : Type 0} (b : Bank T) (l i : ℕ) → OnlyList b (swap_removed_at b l i) l (swapped_out (items_of b l) i)
unfolding swap_removed_at
swap_removed_at_only b l i = shortened_only b l (swapped_out (items_of b l) i)

pub readdressed_only : (b : Bank Value) (l : ℕ) (change : List Value → List Value) →
    OnlyList b (readdressed b l change) l (take 1 (items_of b l) ++ change (drop 1 (items_of b l)))
readdressed_only b l change = holding_only b l (take 1 (items_of b l) ++ change (drop 1 (items_of b l))) (class_of b l)

-- A new pool has as many lists as were asked for, and all are empty.

pub all_alike : {A : Type 0} (n l : ℕ) (x : A) → get_or (replicate n x) l x ≡ x
all_alike zero l x = refl
all_alike (suc n) zero x = refl
all_alike (suc n) (suc l) x = all_alike n l x

pub fresh_count : (T : Type 0) (n left : ℕ) → length (fresh {T = T} n left).lists ≡ n
unfolding fresh
fresh_count T n left = length-replicate n nothing

pub fresh_at : (T : Type 0) (n left l : ℕ) → get_or (fresh {T = T} n left).lists l nothing ≡ nothing
unfolding fresh
fresh_at T n left l = all_alike n l nothing
