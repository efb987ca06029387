-- A number is read from no other text than the one that it is written as.
use Rattle.std.proofs.Common.{◌≡◌, ℕ, ◌^◌, ◌<◌, true, false, List, length, get_or, Some, None, Ok, Err, decimal, Result, sym, ap, ◌∙◌, subst, inl, inr, arith}
use Rattle.std.specs.Result.{OkIff, result_ok}
use Rattle.std.specs.Str.Parse.{AllDigits, ParsesUnsigned, digits_value}
use Rattle.std.specs.Int.{IsInRange}
use Rattle.std.proofs.lemmas.Fmt.{decimal_digit, decimal_nonempty, decimal-digits_value, digits_decimal, first_decimal, decimal_injective, digits_value-decimal}
use Rattle.std.proofs.lemmas.Str.Parse.{IsNumeralModel, digit_at, numerals_by_value, parse_plain, tells_digits}
use Rattle.std.proofs.lemmas.Bool.{cases_eq}
use Rattle.std.proofs.lemmas.Bool.Decides.{nat_tests}
use Rattle.command_log.specs.Reading.{Numbers, padded}

own : IsNumeralModel (AllDigits 10) (digits_value 10)
own = numerals_by_value (AllDigits 10) tells_digits

-- what a number is written as begins with a digit, which is 0 for 0 alone
begins : (n : ℕ) → n < 2 ^ 64 → IsInRange 48 57 (get_or (decimal n) 0 0)
begins n h = digit_at (decimal n) 0 (digits_decimal own n h) (decimal_nonempty n h)

zero_alone : (n : ℕ) → n < 2 ^ 64 → get_or (decimal n) 0 0 ≡ 48 → length (decimal n) ≡ 1
zero_alone n h e = elim (cases_eq n 0) [
  | inl z ↦ ap (λ (k : ℕ). length (decimal k)) z ∙ ap length (decimal_digit 0 (omega arith))
  | inr s ↦ absurd (omega (arith, first_decimal n (omega arith) h))
]

pub bare : (n : ℕ) → n < 2 ^ 64 → padded (decimal n) ≡ false
bare n h = let a = begins n h in let b = zero_alone n h in grind (arith, nat_tests)

pub none_padded : (m : ℕ) (w : List ℕ) → m < 2 ^ 64 → padded w ≡ true → Numbers m w None
none_padded m w small p n lt e = let b = bare n (omega arith) in let q = ap padded e in grind (arith, nat_tests)

pub read_bare : {E : Type 0} (w : List ℕ) (r : Result ℕ E) → ParsesUnsigned 32 10 w r → padded w ≡ false → Numbers 4294967296 w (result_ok r)
read_bare w r h p = by r (parse_plain own 32 w r h (let q = p in grind (arith, nat_tests)))
  where
    by : {E : Type 0} (r : Result ℕ E) → OkIff r (AllDigits 10 w × (0 < length w) × (digits_value 10 w < 2 ^ 32)) (digits_value 10 w) → Numbers 4294967296 w (result_ok r)
    by (Ok x) k = (omega (arith, k.0.2), sym (ap decimal k.1 ∙ decimal-digits_value own w k.0.0 k.0.1 (λ z. let q = p in let some = k.0.1 in grind (arith, nat_tests)) (omega (arith, k.0.2))))
    by (Err e) k = λ n lt same. let big : n < 2 ^ 64 = omega arith in k (subst (AllDigits 10) (sym same) (digits_decimal own n big), subst (λ (l : List ℕ). 0 < length l) (sym same) (decimal_nonempty n big), omega (arith, ap (digits_value 10) same, digits_value-decimal own n big))

-- a number of 32 bits as one of 16
pub narrowed : {E : Type 0} (w : List ℕ) (n : ℕ) (r : Result ℕ E) → Numbers 4294967296 w (Some n) → OkIff r (n < 65536) n → Numbers 65536 w (result_ok r)
narrowed w n (Ok x) is k = (omega (arith, k.0, k.1), is.1 ∙ ap decimal (sym k.1))
narrowed w n (Err e) is k = λ m lt same. let e : n ≡ m = decimal_injective n m (omega (arith, is.0)) (omega arith) (sym is.1 ∙ same) in k (omega arith)
