-- Words of calls, and the values that they stand for.
use Rattle.std.proofs.Common.{◌≡◌, ℕ, zero, suc, ◌+◌, ◌*◌, ◌/◌, ◌%◌, ◌^◌, ◌<◌, ◌≤◌, Bool, true, false, cond, ltb, List, [], ◌∷◌, map, length, take, Some, None, Ok, Err, Option, sym, refl, ap, subst, zero-add, arith}
use Rattle.std.specs.List.{AllByRecursion as All}
use Rattle.std.proofs.ByRecursion.{All-take, All-map, All-weaker}
use Rattle.ir.specs.declared.entities.Value.{Value}
use Rattle.ir.specs.declared.block_arg.BlockArg.{BlockArg}
use Rattle.ir.specs.declared.block_arg.BlockArg.TheVariants as arg
use Rattle.ir.specs.declared.fault.PackFault.TheVariants.{Wide}
use Rattle.ir.specs.Arguments.{read, beside, encoded, value_of}
use Rattle.model.specs.State.{value, argument_value, value_argument, with_value, values_in}
use Rattle.model.specs.Edits.{in_list, by_packing, word_of, renamed_argument, renamed_word, poured_one, poured}

-- what a tag and a payload stand for
read_value : (tag payload word : ℕ) (v : Value) → argument_value (read tag payload word) ≡ Some v → (tag ≡ 0) × (v.0 ≡ payload)
read_value zero payload word v e = let p : value payload ≡ v = cc in (refl, ap (λ (x : Value). x.0) (sym p))
read_value (suc zero) payload word v e = absurd cc
read_value (suc (suc zero)) payload word v e = absurd cc
read_value (suc (suc (suc tag))) payload word v e = absurd cc

-- a word below 2^30 is a value argument,
pub small_word : (w : Value) → w.0 < 2 ^ 30 → value_argument w ≡ Some w
small_word w h =
    let q : w.0 / 1073741824 ≡ 0 = omega arith in
    let r : w.0 % 1073741824 ≡ w.0 = omega arith in
    rw (q, r)

-- and no other
pub value_word : (w v : Value) → value_argument w ≡ Some v → (v ≡ w) × (w.0 < 2 ^ 30)
value_word w v e =
    let p = read_value (w.0 / 1073741824) (w.0 % 1073741824) w.0 v e in
    let n : v.0 ≡ w.0 = omega (arith, p.0, p.1) in
    (ap value n, omega (arith, p.0))

-- P holds of the value that a word stands for, if it stands for one
abbrev pub Fair : (Value → Type 0) → Value → Type 0
Fair P w = (v : Value) → value_argument w ≡ Some v → P v

-- a value as a word
pub fair_value : (P : Value → Type 0) (v : Value) → P v → Fair P v
fair_value P v h u e = subst P (sym (value_word v u e).0) h

-- a word past 2^30
pub fair_wide : (P : Value → Type 0) (w : Value) → 2 ^ 30 ≤ w.0 → Fair P w
fair_wide P w h u e = absurd (omega (arith, (value_word w u e).1))

beside_fair : (P : Value → Type 0) (tag payload : ℕ) → by_packing (beside tag payload) ≡ None →
    Fair P (value (tag * 1073741824 + payload)) →
    Fair P (word_of (beside tag payload))
beside_fair P tag payload e h = by (ltb payload 1073741824) e
  where
    by : (b : Bool) → by_packing (cond b (Ok (tag * 1073741824 + payload)) (Err (Wide payload))) ≡ None →
        Fair P (word_of (cond b (Ok (tag * 1073741824 + payload)) (Err (Wide payload))))
    by true q = h
    by false q = absurd cc

-- an argument as a word: a marked one stands for no value
pub encoded_fair : (P : Value → Type 0) (a : BlockArg) → by_packing (encoded a) ≡ None → All P (in_list (value_of a)) →
    Fair P (word_of (encoded a))
encoded_fair P (arg.Value v) e h = beside_fair P 0 v.0 e (simp zero-add (fair_value P v h.0))
encoded_fair P (arg.TryCallRet n) e h = beside_fair P 1 n e (fair_wide P (value (1 * 1073741824 + n)) (omega arith))
encoded_fair P (arg.TryCallExn n) e h = beside_fair P 2 n e (fair_wide P (value (2 * 1073741824 + n)) (omega arith))

-- a renamed word
pub renamed_fair : (P : Value → Type 0) (f : Value → Value) (w : Value) → Fair (λ v. P (f v)) w → Fair P (renamed_word f w)
renamed_fair P f w h = by (value_argument w) refl
  where
    by : (o : Option Value) → value_argument w ≡ o → Fair P (renamed_argument f w o)
    by None e = λ u q. absurd cc
    by (Some v) e = fair_value P (f v) (h v e)

-- Of words, P holds of the values among them exactly where it holds of what each stands for.
pub fair_from_values : (P : Value → Type 0) (ws : List Value) → All P (values_in ws) → All (Fair P) ws
fair_from_values P [] h = tt
fair_from_values P (w ∷ ws) h = by (value_argument w) refl (fair_from_values P ws) h
  where
    by : (o : Option Value) → value_argument w ≡ o → (All P (values_in ws) → All (Fair P) ws) →
        All P (with_value o (values_in ws)) →
        All (Fair P) (w ∷ ws)
    by None e rest q = ((λ u r. absurd cc), rest q)
    by (Some v) e rest q = ((λ u r. let p : v ≡ u = cc in subst P p q.0), rest q.1)

-- words with other values poured in
pub poured_fair : (P : Value → Type 0) (ws vs : List Value) → All (Fair P) ws → All P (take (length (values_in ws)) vs) →
    All (Fair P) (poured ws vs)
poured_fair P [] vs h g = tt
poured_fair P (w ∷ ws) vs h g = by (value_argument w) vs (λ us. poured_fair P ws us h.1) g
  where
    by : (o : Option Value) (us : List Value) →
        ((xs : List Value) → All P (take (length (values_in ws)) xs) → All (Fair P) (poured ws xs)) →
        All P (take (length (with_value o (values_in ws))) us) → All (Fair P) (poured_one w o us (poured ws))
    by None us rest q = (h.0, rest us q)
    by (Some u) [] rest q = (h.0, rest [] (All-take P (length (values_in ws)) [] tt))
    by (Some u) (x ∷ us) rest q = (fair_value P x q.0, rest us q.1)

-- words renamed
pub renamed_alive : (P : Value → Type 0) (f : Value → Value) (ws : List Value) → All (λ v. P (f v)) (values_in ws) →
    All (Fair P) (map (renamed_word f) ws)
renamed_alive P f ws h =
    All-map (Fair P) (renamed_word f) ws
    (All-weaker (Fair (λ v. P (f v))) (λ w. Fair P (renamed_word f w)) (renamed_fair P f) ws (fair_from_values (λ v. P (f v)) ws h))
