-- Renaming the calls of all instructions changes the call lists alone.
use Rattle.std.proofs.Common.{◌≡◌, ℕ, zero, suc, ◌+◌, ◌*◌, ◌<◌, ◌≤◌, ◌≢◌, List, ◌++◌, map, length, get_or, take, drop, refl, ap, ◌∙◌, inl, inr, not-suc-le-zero, arith}
use Rattle.std.proofs.lemmas.Bool.{cases_eq}
use Rattle.ir.specs.declared.entities.Value.{Value}
use Rattle.store.specs.Bank.{Bank, nothing, items_of}
use Rattle.model.specs.State.{Graph, inst, call_list}
use Rattle.model.specs.Edits.{readdressed, renamed_word, calls_renamed}
use Rattle.model.specs.Flattening.{all_calls_renamed}
use Rattle.model.proofs.Banks.{readdressed_only, items_other}

-- a call with its arguments renamed
abbrev pub call_renamed : (Value → Value) → List Value → List Value
call_renamed f ws = take 1 ws ++ map (renamed_word f) (drop 1 ws)

module _ (g : Graph) (f : Value → Value) where
  -- the calls of one instruction
  one_count : (n : ℕ) (b : Bank Value) → length (calls_renamed g f (inst n) b).lists ≡ length b.lists
  one_count n b =
      (readdressed_only (readdressed b (call_list g (inst n) 0) (map (renamed_word f))) (call_list g (inst n) 1) (map (renamed_word f))).count
      ∙ (readdressed_only b (call_list g (inst n) 0) (map (renamed_word f))).count

  one_others : (n : ℕ) (b : Bank Value) (l : ℕ) → l ≢ call_list g (inst n) 0 → l ≢ call_list g (inst n) 1 →
      get_or (calls_renamed g f (inst n) b).lists l nothing ≡ get_or b.lists l nothing
  one_others n b l p q =
      (readdressed_only (readdressed b (call_list g (inst n) 0) (map (renamed_word f))) (call_list g (inst n) 1) (map (renamed_word f))).others l q
      ∙ (readdressed_only b (call_list g (inst n) 0) (map (renamed_word f))).others l p

  one_first : (n : ℕ) (b : Bank Value) → call_list g (inst n) 0 < length b.lists →
      items_of (calls_renamed g f (inst n) b) (call_list g (inst n) 0) ≡ call_renamed f (items_of b (call_list g (inst n) 0))
  one_first n b h =
      items_other (readdressed_only (readdressed b (call_list g (inst n) 0) (map (renamed_word f))) (call_list g (inst n) 1) (map (renamed_word f)))
      (call_list g (inst n) 0) (λ e. omega arith)
      ∙ (readdressed_only b (call_list g (inst n) 0) (map (renamed_word f))).here h

  one_second : (n : ℕ) (b : Bank Value) → call_list g (inst n) 1 < length b.lists →
      items_of (calls_renamed g f (inst n) b) (call_list g (inst n) 1) ≡ call_renamed f (items_of b (call_list g (inst n) 1))
  one_second n b h =
      let first = readdressed_only b (call_list g (inst n) 0) (map (renamed_word f)) in
      let c = first.count in
      let same = items_other first (call_list g (inst n) 1) (λ e. omega arith) in
      (readdressed_only (readdressed b (call_list g (inst n) 0) (map (renamed_word f))) (call_list g (inst n) 1) (map (renamed_word f))).here (omega arith)
      ∙ ap (call_renamed f) same

  pub all_count : (n : ℕ) (b : Bank Value) → length (all_calls_renamed g f n b).lists ≡ length b.lists
  all_count zero b = refl
  all_count (suc n) b = one_count n (all_calls_renamed g f n b) ∙ all_count n b

  -- a list that is no call list of the first n instructions stays
  pub all_others : (n : ℕ) (b : Bank Value) (l : ℕ) →
      ((m : ℕ) → m < n → (l ≢ call_list g (inst m) 0) × (l ≢ call_list g (inst m) 1)) →
      get_or (all_calls_renamed g f n b).lists l nothing ≡ get_or b.lists l nothing
  all_others zero b l h = refl
  all_others (suc n) b l h =
      one_others n (all_calls_renamed g f n b) l (h n (omega arith)).0 (h n (omega arith)).1
      ∙ all_others n b l (λ m k. h m (omega arith))

  -- each call of the first n instructions is renamed, once
  pub all_renamed : (n : ℕ) (b : Bank Value) (m j : ℕ) → m < n → j < 2 → g.limits.blocks + 3 * n ≤ length b.lists →
      items_of (all_calls_renamed g f n b) (call_list g (inst m) j) ≡ call_renamed f (items_of b (call_list g (inst m) j))
  all_renamed zero b m j h k e = absurd (not-suc-le-zero h)
  all_renamed (suc n) b m j h k e = elim (cases_eq m n) [
    | inl p ↦ rw p (last j k)
    | inr ne ↦
        ap (λ o. o.items) (one_others n (all_calls_renamed g f n b) (call_list g (inst m) j) (λ z. omega arith) (λ z. omega arith))
        ∙ all_renamed n b m j (omega arith) k (omega arith)
  ]
    where
      before : (j : ℕ) → j < 2 → items_of (all_calls_renamed g f n b) (call_list g (inst n) j) ≡ items_of b (call_list g (inst n) j)
      before j k = ap (λ o. o.items) (all_others n b (call_list g (inst n) j) (λ m q. (λ z. omega arith, λ z. omega arith)))

      last : (j : ℕ) → j < 2 → items_of (calls_renamed g f (inst n) (all_calls_renamed g f n b)) (call_list g (inst n) j) ≡ call_renamed f (items_of b (call_list g (inst n) j))
      last zero k = one_first n (all_calls_renamed g f n b) (omega (arith, all_count n b)) ∙ ap (call_renamed f) (before 0 k)
      last (suc zero) k = one_second n (all_calls_renamed g f n b) (omega (arith, all_count n b)) ∙ ap (call_renamed f) (before 1 k)
      last (suc (suc j)) k = absurd (omega arith)
