-- What writes to cells do to the items of lists and of the hand.
use Rattle.std.proofs.Common.{◌≡◌, ℕ, zero, suc, ◌+◌, ◌-◌, ◌*◌, ◌<◌, ◌≤◌, List, [], ◌∷◌, ◌++◌, map, length, get_or, take, drop, set, sym, refl, ap, ◌∙◌, inl, inr, add-one, arith}
use lib.Seq.{paste}
use Rattle.std.specs.List.{remove}
use Rattle.std.proofs.lemmas.List.{take-take, length-drop, length-take, drop-set-add, take_more_set, append_assoc, drop_at, set_split, drop-drop, drop-take, drop-append-le, length-take-le, get_or-take, get_or-drop, take-append-le}
use Rattle.std.proofs.lemmas.List.Edits.{take-paste, drop-paste}
use Rattle.store.specs.declared.parts.Head.{Head}
use Rattle.store.specs.Units.{no_head, View, Apart, Filled, Fits, units}
use Rattle.store.specs.Bank.{owned, nothing}
use Rattle.store.proofs.Views.{Outside, hand_outside, none_units}

-- a head's items, by the list's number
pub list_at : {T : Type 0} (cells : List T) (heads : List Head) (l : ℕ) → get_or (map (owned cells) heads) l nothing ≡ owned cells (get_or heads l no_head)
unfolding owned
list_at cells [] l = refl
list_at cells (h ∷ hs) zero = refl
list_at cells (h ∷ hs) (suc l) = list_at cells hs l

map_same : {A B : Type 0} (f g : A → B) (xs : List A) (d : A) → ((l : ℕ) → f (get_or xs l d) ≡ g (get_or xs l d)) → map f xs ≡ map g xs
map_same f g [] d e = refl
map_same f g (x ∷ xs) d e = let p = e 0 in let q = map_same f g xs d (λ l. e (suc l)) in cc

-- a write outside a part
part_kept : {T : Type 0} (xs s : List T) (at m b n : ℕ) → at + m ≤ length xs → m ≤ length s → Outside at m b n → take n (drop b (paste xs at s m)) ≡ take n (drop b xs)
part_kept {T = T} xs s at m b n p q (inl h) =
    let e : (at + m) + (b - (at + m)) ≡ b = omega arith in
    let f : (ys : List T) → drop (b - (at + m)) (drop (at + m) ys) ≡ drop b ys = λ ys. drop-drop (b - (at + m)) (at + m) ys ∙ ap (λ k. drop k ys) e in
    ap (take n) (sym (f (paste xs at s m)) ∙ (ap (drop (b - (at + m))) (drop-paste xs at s m (omega arith) q) ∙ f xs))
part_kept xs s at m b n p q (inr (inl h)) =
    let t : take (b + n) (paste xs at s m) ≡ take (b + n) xs =
    ap (take (b + n)) (append_assoc (take at xs) (take m s) (drop (at + m) xs))
    ∙ (take-append-le (b + n) (take at xs) (take m s ++ drop (at + m) xs) (simp length-take (omega arith))
    ∙ take-take (b + n) at xs h) in
    sym (drop-take b n (paste xs at s m)) ∙ (ap (drop b) t ∙ drop-take b n xs)
part_kept xs s at m b n p q (inr (inr z)) = ap (λ k. take k (drop b (paste xs at s m))) z ∙ sym (ap (λ k. take k (drop b xs)) z)

pub set_paste : {T : Type 0} (xs : List T) (at : ℕ) (x : T) → at < length xs → set xs at x ≡ paste xs at (x ∷ []) 1
set_paste xs at x h =
    set_split xs at x h ∙ (sym (append_assoc (take at xs) (x ∷ []) (drop (suc at) xs)) ∙ ap (λ k. (take at xs ++ x ∷ []) ++ drop k xs) (sym (add-one at)))

-- a write into the hand's block keeps every list
pub lists_kept : {T : Type 0} (cells s : List T) (v : View) (i m : ℕ) → Apart v → Filled v.hand v.heads → 0 < units v.hand.class
    → i + m ≤ 4 * units v.hand.class → (4 * v.hand.start + i) + m ≤ length cells → m ≤ length s
    → map (owned (paste cells (4 * v.hand.start + i) s m)) v.heads ≡ map (owned cells) v.heads
unfolding owned
lists_kept cells s v i m apart filled p h q r =
    map_same (owned (paste cells (4 * v.hand.start + i) s m)) (owned cells) v.heads no_head
    (λ l. ap (λ y. record { items = y; class = (get_or v.heads l no_head).class })
    (part_kept cells s (4 * v.hand.start + i) m (4 * (get_or v.heads l no_head).start) (get_or v.heads l no_head).len q r
    (hand_outside v apart filled i m l p h)))

-- the same of one cell
pub lists_kept_one : {T : Type 0} (cells : List T) (x : T) (v : View) (i : ℕ) → Apart v → Filled v.hand v.heads
    → i < 4 * units v.hand.class → 4 * v.hand.start + i < length cells
    → map (owned (set cells (4 * v.hand.start + i) x)) v.heads ≡ map (owned cells) v.heads
lists_kept_one cells x v i apart filled h q =
    ap (λ ys. map (owned ys) v.heads) (set_paste cells (4 * v.hand.start + i) x q)
    ∙ lists_kept cells (x ∷ []) v i 1 apart filled (omega arith) (omega arith) (omega arith) (omega arith)

pub owned_length : {T : Type 0} (cells : List T) (h : Head) → 4 * h.start + h.len ≤ length cells → length (owned cells h).items ≡ h.len
unfolding owned
owned_length cells h p = simp (length-take, length-drop) (omega arith)

pub owned_item : {T : Type 0} (cells : List T) (h : Head) (i : ℕ) (d : T) → i < h.len → get_or (owned cells h).items i d ≡ get_or cells (4 * h.start + i) d
unfolding owned
owned_item cells h i d p = get_or-take h.len (drop (4 * h.start) cells) i d p ∙ get_or-drop (4 * h.start) cells i d

-- what has no block holds nothing
pub empty_owned : {T : Type 0} (cells : List T) (h : Head) → Fits h → h.class ≡ 0 → owned cells h ≡ nothing
unfolding owned
empty_owned cells h f e =
    let u : units h.class ≡ 0 = ap units e ∙ none_units in
    let z : h.len ≡ 0 = omega arith in
    let p : take h.len (drop (4 * h.start) cells) ≡ [] = ap (λ n. take n (drop (4 * h.start) cells)) z in
    λ i. record { items = p i; class = e i }

-- the hand with one more item, another item, one fewer, a copy of others, a gap closed
pub append_hand : {T : Type 0} (cells : List T) (h : Head) (x : T) → 4 * h.start + h.len < length cells
    → owned (set cells (4 * h.start + h.len) x) (record { start = h.start; len = h.len + 1; class = h.class }) ≡ record { items = (owned cells h).items ++ x ∷ []; class = h.class }
unfolding owned
append_hand cells h x p =
    ap (λ y. record { items = y; class = h.class })
    (ap (take (h.len + 1)) (drop-set-add (4 * h.start) cells h.len x) ∙ take_more_set (drop (4 * h.start) cells) h.len x (omega (arith, length-drop (4 * h.start) cells)))

take_set_in : {T : Type 0} (n : ℕ) (xs : List T) (i : ℕ) (x : T) → i < n → take n (set xs i x) ≡ set (take n xs) i x
take_set_in zero xs i x h = absurd (omega arith)
take_set_in (suc n) [] i x h = refl
take_set_in (suc n) (y ∷ xs) zero x h = refl
take_set_in (suc n) (y ∷ xs) (suc i) x h = ap (λ zs. y ∷ zs) (take_set_in n xs i x (omega arith))

pub write_hand : {T : Type 0} (cells : List T) (h : Head) (i : ℕ) (x : T) → i < h.len
    → owned (set cells (4 * h.start + i) x) h ≡ record { items = set (owned cells h).items i x; class = h.class }
unfolding owned
write_hand cells h i x p =
    ap (λ y. record { items = y; class = h.class })
    (ap (take h.len) (drop-set-add (4 * h.start) cells i x) ∙ take_set_in h.len (drop (4 * h.start) cells) i x p)

pub cut_hand : {T : Type 0} (cells : List T) (h : Head) → 4 * h.start + h.len ≤ length cells
    → owned cells (record { start = h.start; len = h.len - 1; class = h.class })
    ≡ record { items = take (length (owned cells h).items - 1) (owned cells h).items; class = h.class }
unfolding owned
cut_hand cells h p =
    let ys = drop (4 * h.start) cells in
    let n : length (take h.len ys) ≡ h.len = owned_length cells h p in
    ap (λ y. record { items = y; class = h.class })
    (sym (ap (λ m. take (m - 1) (take h.len ys)) n ∙ take-take (h.len - 1) h.len ys (omega arith)))

pub load_hand : {T : Type 0} (cells s : List T) (start m c : ℕ) → 4 * start + m ≤ length cells → m ≤ length s
    → owned (paste cells (4 * start) s m) (record { start = start; len = m; class = c }) ≡ record { items = take m s; class = c }
unfolding owned
load_hand cells s start m c p q =
    let e : length (take (4 * start) cells) ≡ 4 * start = length-take-le (4 * start) cells (omega arith) in
    ap (λ y. record { items = y; class = c })
    (sym (drop-take (4 * start) m (paste cells (4 * start) s m))
    ∙ (ap (drop (4 * start)) (take-paste cells (4 * start) s m (omega arith) q) ∙ drop_at (take (4 * start) cells) (take m s) (4 * start) e))

pub gap_hand : {T : Type 0} (cells : List T) (h : Head) (i : ℕ) → 4 * h.start + h.len ≤ length cells → i < h.len
    → owned (paste cells (4 * h.start + i) (drop (4 * h.start + i + 1) cells) (h.len - i - 1)) (record { start = h.start; len = h.len - 1; class = h.class })
    ≡ record { items = remove (owned cells h).items i; class = h.class }
unfolding owned
gap_hand cells h i p q =
    let B = 4 * h.start in
    let m = h.len - i - 1 in
    let new = paste cells (B + i) (drop (B + i + 1) cells) m in
    let ys = drop B cells in
    let ld = length-drop (B + i + 1) cells in
    let a : h.len - 1 ≡ i + m = omega arith in
    let b : B + (i + m) ≡ (B + i) + m = omega arith in
    let f : h.len ≡ suc i + m = omega arith in
    let g : B + i + 1 ≡ B + suc i = omega arith in
    let t : take (B + (i + m)) new ≡ take (B + i) cells ++ take m (drop (B + i + 1) cells) =
    ap (λ k. take k new) b ∙ take-paste cells (B + i) (drop (B + i + 1) cells) m (omega arith) (omega arith) in
    let d : drop B (take (B + i) cells) ≡ take i ys = drop-take B i cells in
    let front : take i (take h.len ys) ≡ take i ys = take-take i h.len ys (omega arith) in
    let back : drop (suc i) (take h.len ys) ≡ take m (drop (B + i + 1) cells) =
    ap (λ k. drop (suc i) (take k ys)) f ∙ (drop-take (suc i) m ys ∙ ap (take m) (drop-drop (suc i) B cells ∙ ap (λ k. drop k cells) (sym g))) in
    ap (λ y. record { items = y; class = h.class })
    (ap (λ k. take k (drop B new)) a
    ∙ (sym (drop-take B (i + m) new)
    ∙ (ap (drop B) t
    ∙ (drop-append-le B (take (B + i) cells) (take m (drop (B + i + 1) cells)) (simp length-take (omega arith))
    ∙ (ap (λ z. z ++ take m (drop (B + i + 1) cells)) (d ∙ sym front) ∙ ap (λ z. take i (take h.len ys) ++ z) (sym back))))))

-- a write from the block's start
pub lists_kept_from : {T : Type 0} (cells s : List T) (v : View) (m : ℕ) → Apart v → Filled v.hand v.heads → 0 < units v.hand.class
    → m ≤ 4 * units v.hand.class → 4 * v.hand.start + m ≤ length cells → m ≤ length s
    → map (owned (paste cells (4 * v.hand.start) s m)) v.heads ≡ map (owned cells) v.heads
lists_kept_from cells s v m apart filled p h q r =
    let e : 4 * v.hand.start ≡ 4 * v.hand.start + 0 = omega arith in
    ap (λ a. map (owned (paste cells a s m)) v.heads) e
    ∙ lists_kept cells s v 0 m apart filled p (omega arith) (omega arith) r
