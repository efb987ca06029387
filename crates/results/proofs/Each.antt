-- Rows that are judged argument by argument.
use Rattle.std.proofs.Common.{◌≡◌, ℕ, ◌+◌, ◌-◌, ◌<◌, ◌≤◌, Bool, true, false, cond, ◌||◌, ◌⊎◌, inl, inr, eqb, List, [], ◌∷◌, length, get_or, take, drop, Some, None, Ok, Err, Option, Result, sym, refl, ap, ◌∙◌, arith}
use Rattle.std.specs.List.{list_any}
use Rattle.std.specs.Option.{is_some}
use Rattle.std.specs.Prelude.{count_by}
use Rattle.std.proofs.lemmas.List.Recursion.{is_count_by}
use Rattle.std.proofs.Math.Seq.{take-length}
use Rattle.std.proofs.lemmas.List.{drop_more, drop_all, length-drop, length-take}
use Rattle.ir.specs.declared.entities.Value.{Value}
use Rattle.ir.specs.declared.entities.Type.{«Type» as Ty}
use Rattle.model.specs.declared.fault.GraphFault.{GraphFault}
use Rattle.model.specs.declared.fault.GraphFault.TheVariants.{Twice}
use Rattle.model.specs.Refusals.{Row, first_among}
use Rattle.model.specs.State.{Graph}
use Rattle.model.specs.Edits.{among, mistyped, repeated, reused}
use Rattle.defs.specs.Graphs.{judged}
use Rattle.judges.specs.Each.{AskedEach}
use Rattle.judges.proofs.Asks.{or_else, asked_row, cond_else, first_more}
use Rattle.results.specs.Seats.{named_again}

pub judged_err : (r : Row) (f : GraphFault) → Err f ≡ judged r → r ≡ Some f
judged_err None f e = absurd cc
judged_err (Some g) f e = let p : f ≡ g = cc in ap Some (sym p)

-- F judges its arguments one after another; what it says of one may look at those behind it
module _ {X : Type 0} (F : List X → Row) (one : X → List X → Row) (each : (x : X) (xs : List X) → F (x ∷ xs) ≡ or_else (one x xs) (F xs)) where
  at : (xs : List X) (i : ℕ) (d : X) → i < length xs → F (drop i xs) ≡ or_else (one (get_or xs i d) (drop (i + 1) xs)) (F (drop (i + 1) xs))
  at xs i d h = ap F (drop_more xs i d h) ∙ each (get_or xs i d) (drop (i + 1) xs)

  -- one refused
  pub stopped : (xs : List X) (i : ℕ) (d : X) (f : GraphFault) → i < length xs → Err f ≡ judged (one (get_or xs i d) (drop (i + 1) xs)) → F (drop i xs) ≡ F xs → Err f ≡ judged (F xs)
  stopped xs i d f h e inv =
      ap judged (sym (at xs i d h ∙ ap (λ (r : Row). or_else r (F (drop (i + 1) xs))) (judged_err (one (get_or xs i d) (drop (i + 1) xs)) f e)) ∙ inv)

pub reused_each : (fits : Value → Bool) (fault : Value → GraphFault) (e : Option Value) (es : List (Option Value)) →
    first_among fits fault (reused (e ∷ es)) ≡ or_else (first_among fits fault (reused (e ∷ []))) (first_among fits fault (reused es))
reused_each fits fault None es = refl
reused_each fits fault (Some v) es = first_more fits fault v (reused es)

-- one of the lists is at its end
pub typed_done : (g : Graph) (ts : List Ty) (es : List (Option Value)) → (length ts ≡ 0) ⊎ (length es ≡ 0) → Ok tt ≡ judged (mistyped g ts es)
typed_done g [] es h = refl
typed_done g (t ∷ ts) [] h = refl
typed_done g (t ∷ ts) (e ∷ es) h = elim h [ inl p ↦ absurd (omega arith) | inr p ↦ absurd (omega arith) ]

pub repeated_each : (e : Option Value) (es : List (Option Value)) → repeated (reused (e ∷ es)) ≡ or_else (named_again e es) (repeated (reused es))
repeated_each None es = refl
repeated_each (Some v) es = cond_else (among v (reused es)) (Twice v.0) (repeated (reused es))

-- whether a value is among them, by a test of each
pub any_among : (test : Option Value → Bool) (v : Value) → test None ≡ false → ((u : Value) → test (Some u) ≡ eqb u.0 v.0) → (es : List (Option Value)) →
    list_any test es ≡ among v (reused es)
any_among test v none some [] = refl
any_among test v none some (None ∷ es) = ap (λ (b : Bool). b || list_any test es) none ∙ any_among test v none some es
any_among test v none some (Some u ∷ es) = λ i. some u i || any_among test v none some es i

-- how many there are
pub count_some : (es : List (Option Value)) → count_by is_some es ≡ length (reused es)
count_some es = sym (is_count_by (λ xs. length (reused xs)) is_some refl more es)
  where
    more : (e : Option Value) (es : List (Option Value)) → length (reused (e ∷ es)) ≡ cond (is_some e) (1 + length (reused es)) (length (reused es))
    more None es = refl
    more (Some v) es = omega arith

pub count_within : (es : List (Option Value)) → length (reused es) ≤ length es
count_within [] = omega arith
count_within (None ∷ es) = let h = count_within es in omega arith
count_within (Some v ∷ es) = let h = count_within es in omega arith

-- the rest of a list, as a slice to its end gives it
pub rest_of : {X : Type 0} (xs : List X) (k : ℕ) → take (length xs - k) (drop k xs) ≡ drop k xs
rest_of xs k = ap (λ (n : ℕ). take n (drop k xs)) (sym (length-drop k xs)) ∙ take-length (drop k xs)

-- what is asked of each entry by such a row
pub asked_reused : (fits : Value → Bool) (fault : Value → GraphFault) {says : Option Value → Result (Unit {0}) GraphFault → Type 0} →
    ((e : Option Value) (s : Result (Unit {0}) GraphFault) → says e s → s ≡ judged (first_among fits fault (reused (e ∷ [])))) →
    (es : List (Option Value)) {r : Result (Unit {0}) GraphFault} → AskedEach says es r → r ≡ judged (first_among fits fault (reused es))
asked_reused fits fault = asked_row (λ es. first_among fits fault (reused es)) (λ e. first_among fits fault (reused (e ∷ []))) refl (reused_each fits fault)

pub ruleset counts = (count_within, length-take)
