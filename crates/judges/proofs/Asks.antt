-- Items that are asked one after another.
use Rattle.std.proofs.Common.{◌≡◌, Bool, true, false, cond, List, [], ◌∷◌, Some, None, Ok, Err, Result, sym, refl, ap, ◌∙◌}
use Rattle.std.specs.Result.{MatchResult}
use Rattle.model.specs.declared.fault.GraphFault.{GraphFault}
use Rattle.model.specs.Refusals.{Row, first_among}
use Rattle.defs.specs.Graphs.{judged}
use Rattle.judges.specs.Each.{AskedEach}

abbrev Answer : Type 0
Answer = Result (Unit {0}) GraphFault

pub judged_none : (r : Row) → Ok tt ≡ judged r → r ≡ None
judged_none None e = refl
judged_none (Some f) e = absurd cc

-- a row that comes before another
abbrev pub or_else : Row → Row → Row
or_else None r = r
or_else (Some f) r = Some f

next_row : (row one : Row) (s r : Answer) {P : Type 0} → (P → r ≡ judged row) → s ≡ judged one → MatchResult s (λ a. P) (λ f. r ≡ Err f) → r ≡ judged (or_else one row)
next_row row None (Ok a) r rest e q = rest q
next_row row None (Err f) r rest e q = absurd cc
next_row row (Some g) (Ok a) r rest e q = absurd cc
next_row row (Some g) (Err f) r rest e q = q ∙ e

module _ {A : Type 0} (row : List A → Row) (one : A → Row) (none : row [] ≡ None) (more : (x : A) (xs : List A) → row (x ∷ xs) ≡ or_else (one x) (row xs)) where
  -- where each is told by a row, all are told by the rows, one before another
  pub asked_row : {says : A → Answer → Type 0} → ((x : A) (s : Answer) → says x s → s ≡ judged (one x)) → (xs : List A) {r : Answer} → AskedEach says xs r → r ≡ judged (row xs)
  asked_row told [] e = e ∙ sym (ap judged none)
  asked_row told (x ∷ xs) {r = r} (s, p, q) = next_row (row xs) (one x) s r (λ k. asked_row told xs k) (told x s p) q ∙ sym (ap judged (more x xs))

-- a test that is not met leaves it to what comes after
pub cond_else : (b : Bool) (f : GraphFault) (r : Row) → cond b (Some f) r ≡ or_else (cond b (Some f) None) r
cond_else true f r = refl
cond_else false f r = refl

-- a row that fits the first of several goes by one after another
pub first_more : {A : Type 0} (fits : A → Bool) (fault : A → GraphFault) (x : A) (xs : List A) →
    first_among fits fault (x ∷ xs) ≡ or_else (first_among fits fault (x ∷ [])) (first_among fits fault xs)
first_more fits fault x xs = cond_else (fits x) (fault x) (first_among fits fault xs)

-- what is asked of each by such a row
pub asked_among : {A : Type 0} (fits : A → Bool) (fault : A → GraphFault) {says : A → Answer → Type 0} →
    ((x : A) (s : Answer) → says x s → s ≡ judged (first_among fits fault (x ∷ []))) →
    (xs : List A) {r : Answer} → AskedEach says xs r → r ≡ judged (first_among fits fault xs)
asked_among fits fault = asked_row (first_among fits fault) (λ x. first_among fits fault (x ∷ [])) refl (first_more fits fault)
