-- New results of an instruction keep the lists of results and parameters in order.
use Rattle.std.proofs.Common.{◌≡◌, ℕ, zero, suc, ◌+◌, ◌-◌, ◌<◌, ◌≤◌, Bool, true, false, not, ◌&&◌, eqb, ltb, ◌≢◌, ◌⊎◌, List, [], ◌∷◌, ◌++◌, length, get_or, take, set, Some, None, Option, sym, refl, ap, ◌∙◌, subst, inl, inr, not-suc-le-zero, arith}
use Rattle.std.proofs.lemmas.Bool.{cond-true, cond-false, cond_both, lt-ltb, le-ltb, eqb-true, eqb-false, and_cases, or_parts, not-false, both_ways, false≢true}
use Rattle.std.proofs.lemmas.List.{length-set, length_push}
use Rattle.ir.specs.declared.entities.Value.{Value}
use Rattle.ir.specs.declared.entities.Inst.{Inst as InstId}
use Rattle.ir.specs.declared.entities.Type.{«Type» as Ty}
use Rattle.ir.specs.declared.value_data.ValueData.{ValueData}
use Rattle.ir.specs.declared.value_data.ValueData.TheVariants.{Inst}
use Rattle.store.specs.Bank.{written}
use Rattle.values.specs.Leads.{at}
use Rattle.values.proofs.Ways.{same_value, at_same, at_other}
use Rattle.model.specs.State.{Graph, value, inst, result_list, attached, no_value}
use Rattle.model.specs.Edits as edit
use Rattle.model.specs.Edits.{with_words, with_inst, defined, seats, seated, with_results, reused, of_inst, among, repeated, result_types, inst_cloned}
use Rattle.model.proofs.Rows.{first_of_none, cond_none}
use Rattle.model.proofs.Banks.{written_only}
use Rattle.model.proofs.Seats.{Home, result_of, param_of, Made, members, Names, NamesMade, Seated, seat_made, at_added_old, at_added_new, after_adding, after_setting, reseated, member_attached, member_known, Apart, Differ, apart_cons, differ_cons}

-- every value of a list is below n
abbrev pub Below : ℕ → List Value → Type 0
Below n vs = (k : ℕ) → k < length vs → (get_or vs k no_value).0 < n

-- no value is reused where none is given
pub none_reused : (P : List Value → Type 0) (n : ℕ) → P [] → P (reused (take n []))
none_reused P zero p = p
none_reused P (suc n) p = p

-- The seats are different: new values are past all that are reused.

newer : (w : Value) (next : ℕ) → w.0 < next → w ≢ value next
newer w next l e = let q : w.0 ≡ next = ap (λ (u : Value). u.0) e in omega arith

seats_apart : (ts : List Ty) (reuse : List (Option Value)) (next : ℕ) (w : Value) → w.0 < next →
    Apart w (reused (take (length ts) reuse)) → Apart w (seats next ts reuse)
seats_apart [] reuse next w l f = λ k q. absurd (not-suc-le-zero q)
seats_apart (t ∷ ts) [] next w l f =
    apart_cons w (value next) (seats (next + 1) ts []) (newer w next l)
    (seats_apart ts [] (next + 1) w (omega arith) (none_reused (Apart w) (length ts) f))
seats_apart (t ∷ ts) (None ∷ reuse) next w l f =
    apart_cons w (value next) (seats (next + 1) ts reuse) (newer w next l) (seats_apart ts reuse (next + 1) w (omega arith) f)
seats_apart (t ∷ ts) (Some v ∷ reuse) next w l f =
    apart_cons w v (seats next ts reuse) (f 0 (omega arith)) (seats_apart ts reuse next w l (λ k q. f (suc k) (omega arith)))

-- a new value is none of those below it
new_apart : (vs : List Value) (next : ℕ) → Below next vs → Apart (value next) vs
new_apart vs next below k l e = newer (get_or vs k no_value) next (below k l) (sym e)

seats_differ : (ts : List Ty) (reuse : List (Option Value)) (next : ℕ) → Below next (reused (take (length ts) reuse)) →
    Differ (reused (take (length ts) reuse)) → Differ (seats next ts reuse)
seats_differ [] reuse next below f = λ j k r l. absurd (not-suc-le-zero l)
seats_differ (t ∷ ts) [] next below f =
    differ_cons (value next) (seats (next + 1) ts [])
    (seats_apart ts [] (next + 1) (value next) (omega arith)
    (none_reused (Apart (value next)) (length ts) (λ k l. absurd (not-suc-le-zero l))))
    (seats_differ ts [] (next + 1) (none_reused (Below (next + 1)) (length ts) (λ k l. absurd (not-suc-le-zero l)))
    (none_reused Differ (length ts) f))
seats_differ (t ∷ ts) (None ∷ reuse) next below f =
    differ_cons (value next) (seats (next + 1) ts reuse)
    (seats_apart ts reuse (next + 1) (value next) (omega arith) (new_apart (reused (take (length ts) reuse)) next below))
    (seats_differ ts reuse (next + 1) (λ k l. let z = below k l in omega arith) f)
seats_differ (t ∷ ts) (Some v ∷ reuse) next below f =
    differ_cons v (seats next ts reuse)
    (seats_apart ts reuse next v (below 0 (omega arith)) (λ k l. f 0 (suc k) (omega arith) (omega arith)))
    (seats_differ ts reuse next (λ k l. below (suc k) (omega arith)) (λ j k r l. f (suc j) (suc k) (omega arith) (omega arith)))

seats_length : (ts : List Ty) (reuse : List (Option Value)) (next : ℕ) → length (seats next ts reuse) ≡ length ts
seats_length [] reuse next = refl
seats_length (t ∷ ts) [] next = ap suc (seats_length ts [] (next + 1))
seats_length (t ∷ ts) (None ∷ reuse) next = ap suc (seats_length ts reuse (next + 1))
seats_length (t ∷ ts) (Some v ∷ reuse) next = ap suc (seats_length ts reuse next)

-- Of n values, each in turn exists or is the next one.
abbrev Fits : ℕ → List Value → Type 0
Fits n [] = Unit {0}
Fits n (v ∷ vs) = ((v.0 < n) × Fits n vs) ⊎ ((v.0 ≡ n) × Fits (n + 1) vs)

seats_fit : (ts : List Ty) (reuse : List (Option Value)) (next : ℕ) → Below next (reused (take (length ts) reuse)) →
    Fits next (seats next ts reuse)
seats_fit [] reuse next below = tt
seats_fit (t ∷ ts) [] next below =
    inr (refl, seats_fit ts [] (next + 1) (none_reused (Below (next + 1)) (length ts) (λ k l. absurd (not-suc-le-zero l))))
seats_fit (t ∷ ts) (None ∷ reuse) next below =
    inr (refl, seats_fit ts reuse (next + 1) (λ k l. let z = below k l in omega arith))
seats_fit (t ∷ ts) (Some v ∷ reuse) next below =
    inl (below 0 (omega arith), seats_fit ts reuse next (λ k l. below (suc k) (omega arith)))

-- v defined as d
is_set : (ds : List ValueData) (v : Value) (d : ValueData) → v.0 < length ds → defined ds v d ≡ set ds v.0 d
is_set ds v d l = cond-true (ltb v.0 (length ds)) (set ds v.0 d) (ds ++ d ∷ []) (lt-ltb v.0 (length ds) l)

is_added : (ds : List ValueData) (v : Value) (d : ValueData) → v.0 ≡ length ds → defined ds v d ≡ ds ++ d ∷ []
is_added ds v d e = cond-false (ltb v.0 (length ds)) (set ds v.0 d) (ds ++ d ∷ []) (le-ltb v.0 (length ds) (omega arith))

set_long : (ds : List ValueData) (v : Value) (d : ValueData) → v.0 < length ds → length (defined ds v d) ≡ length ds
set_long ds v d l = ap length (is_set ds v d l) ∙ length-set ds v.0 d

added_long : (ds : List ValueData) (v : Value) (d : ValueData) → v.0 ≡ length ds → length (defined ds v d) ≡ length ds + 1
added_long ds v d e = ap length (is_added ds v d e) ∙ length_push ds d

record Defines (ds : List ValueData) (v : Value) (vs : List Value) (d : ValueData) : Type 0 where
  rest : Fits (length (defined ds v d)) vs
  here : at (defined ds v d) v ≡ d
  others : (w : Value) → w ≢ v → at (defined ds v d) w ≡ at ds w

defines : (ds : List ValueData) (v : Value) (vs : List Value) (d : ValueData) → Fits (length ds) (v ∷ vs) → Defines ds v vs d
defines ds v vs d (inl f) =
    record {
      rest = subst (λ (n : ℕ). Fits n vs) (sym (set_long ds v d f.0)) f.1;
      here = ap (λ (x : List ValueData). at x v) (is_set ds v d f.0) ∙ at_same ds v d f.0;
      others = λ w ne. ap (λ (x : List ValueData). at x w) (is_set ds v d f.0) ∙ at_other ds v w d ne;
    }
defines ds v vs d (inr f) =
    record {
      rest = subst (λ (n : ℕ). Fits n vs) (sym (added_long ds v d f.0)) f.1;
      here = ap (λ (x : List ValueData). at x v) (is_added ds v d f.0)
          ∙ (ap (λ (u : Value). at (ds ++ d ∷ []) u) (same_value v (value (length ds)) f.0) ∙ at_added_new ds d);
      others = λ w ne. ap (λ (x : List ValueData). at x w) (is_added ds v d f.0)
          ∙ at_added_old ds d w (λ e. ne (same_value w v (e ∙ sym f.0)));
    }

-- Each seat is defined as the result at its place, and no other value is touched.

seated_away : (ts : List Ty) (vs : List Value) (ds : List ValueData) (i : InstId) (k : ℕ) (w : Value) → Fits (length ds) vs → Apart w vs →
    at (seated i k ts vs ds) w ≡ at ds w
seated_away [] vs ds i k w f away = refl
seated_away (t ∷ ts) [] ds i k w f away = refl
seated_away (t ∷ ts) (v ∷ vs) ds i k w f away =
    let d = defines ds v vs (Inst t k i) f in
    seated_away ts vs (defined ds v (Inst t k i)) i (k + 1) w d.rest (λ j l. away (suc j) (omega arith))
    ∙ d.others w (away 0 (omega arith))

seated_at : (ts : List Ty) (vs : List Value) (ds : List ValueData) (i : InstId) (k j : ℕ) → length vs ≡ length ts → Fits (length ds) vs →
    Differ vs → j < length vs → Names (seated i k ts vs ds) (get_or vs j no_value) (result_of i) (k + j)
seated_at [] [] ds i k j e f g l = absurd (not-suc-le-zero l)
seated_at [] (v ∷ vs) ds i k j e f g l = absurd (omega arith)
seated_at (t ∷ ts) [] ds i k j e f g l = absurd (not-suc-le-zero l)
seated_at (t ∷ ts) (v ∷ vs) ds i k zero e f g l =
    let d = defines ds v vs (Inst t k i) f in
    let z : k ≡ k + 0 = omega arith in (
      t,
      seated_away ts vs (defined ds v (Inst t k i)) i (k + 1) v d.rest (λ j q. g 0 (suc j) (omega arith) (omega arith))
          ∙ (d.here ∙ ap (λ (n : ℕ). Inst t n i) z),
    )
seated_at (t ∷ ts) (v ∷ vs) ds i k (suc j) e f g l =
    let d = defines ds v vs (Inst t k i) f in
    let z : k + 1 + j ≡ k + suc j = omega arith in
    subst (λ (n : ℕ). Names (seated i (k + 1) ts vs (defined ds v (Inst t k i))) (get_or vs j no_value) (result_of i) n) z
    (seated_at ts vs (defined ds v (Inst t k i)) i (k + 1) j (omega arith) d.rest
    (λ x y p q. g (suc x) (suc y) (omega arith) (omega arith)) (omega arith))

seated_homes : (g : Graph) (i : InstId) → i.0 < g.insts → (ts : List Ty) (vs : List Value) (ds : List ValueData) (k : ℕ) →
    ((v : Value) → NamesMade g (at ds v)) → (v : Value) → NamesMade g (at (seated i k ts vs ds) v)
seated_homes g i m [] vs ds k f = f
seated_homes g i m (t ∷ ts) [] ds k f = f
seated_homes g i m (t ∷ ts) (v ∷ vs) ds k f =
    let new = seat_made g (result_of i) t k m in
    seated_homes g i m ts vs (defined ds v (Inst t k i)) (k + 1)
    (cond_both (ltb v.0 (length ds)) (set ds v.0 (Inst t k i)) (ds ++ Inst t k i ∷ [])
    (λ (x : List ValueData). (w : Value) → NamesMade g (at x w))
    (λ e. after_setting (NamesMade g) ds (Inst t k i) f new v) (λ e. after_adding (NamesMade g) ds (Inst t k i) f new))

-- as many values more as are not reused
seated_long : (ts : List Ty) (reuse : List (Option Value)) (ds : List ValueData) (i : InstId) (k next : ℕ) → next ≡ length ds →
    Below next (reused (take (length ts) reuse)) →
    length (seated i k ts (seats next ts reuse) ds) + length (reused (take (length ts) reuse)) ≡ length ds + length ts
seated_long [] reuse ds i k next e below = refl
seated_long (t ∷ ts) [] ds i k next e below =
    let l = added_long ds (value next) (Inst t k i) e in
    let z = none_reused (λ (vs : List Value). length vs ≡ 0) (length ts) refl in
    let r = seated_long ts [] (defined ds (value next) (Inst t k i)) i (k + 1) (next + 1) (omega arith)
    (none_reused (Below (next + 1)) (length ts) (λ j q. absurd (not-suc-le-zero q))) in
    omega arith
seated_long (t ∷ ts) (None ∷ reuse) ds i k next e below =
    let l = added_long ds (value next) (Inst t k i) e in
    let r = seated_long ts reuse (defined ds (value next) (Inst t k i)) i (k + 1) (next + 1) (omega arith)
    (λ j q. let z = below j q in omega arith) in
    omega arith
seated_long (t ∷ ts) (Some v ∷ reuse) ds i k next e below =
    let b = below 0 (omega arith) in
    let l = set_long ds v (Inst t k i) (omega arith) in
    let r = seated_long ts reuse (defined ds v (Inst t k i)) i (k + 1) next (omega arith) (λ j q. below (suc j) (omega arith)) in
    omega arith

-- New results of instruction i, where reused values exist, are different, and stand in no list of another.
module _ (g : Graph) (p : Seated g) (i : InstId) (m : i.0 < g.insts) (ts : List Ty) (reuse : List (Option Value))
    (below : Below (length g.defs) (reused (take (length ts) reuse))) (differ : Differ (reused (take (length ts) reuse)))
    (away : (j : Home) (k : ℕ) → Made g j → j ≢ result_of i → k < length (members g j) →
    Apart (get_or (members g j) k no_value) (reused (take (length ts) reuse)))
    (room : length g.defs + (length ts - length (reused (take (length ts) reuse))) ≤ g.limits.values) where
  abbrev chosen : List Value
  chosen = seats (length g.defs) ts reuse

  pub seats_results : Seated (with_results g i ts reuse)
  seats_results =
      let n = seated_long ts reuse g.defs i 0 (length g.defs) refl below in
      let fit = seats_fit ts reuse (length g.defs) below in
      reseated g (seated i 0 ts chosen g.defs) (written g.words (result_list g i) chosen) (result_of i) chosen p m
      (written_only g.words (result_list g i) chosen) (omega arith)
      (seated_homes g i m ts chosen g.defs 0 p.homes)
      (λ k l. let z : 0 + k ≡ k = omega arith in
      subst (λ (n : ℕ). Names (seated i 0 ts chosen g.defs) (get_or chosen k no_value) (result_of i) n) z
      (seated_at ts chosen g.defs i 0 k (seats_length ts reuse (length g.defs)) fit
      (seats_differ ts reuse (length g.defs) below differ) l))
      (λ j k o ne l. seated_away ts chosen g.defs i 0 (get_or (members g j) k no_value) fit
      (seats_apart ts reuse (length g.defs) (get_or (members g j) k no_value) (member_known g p j k o l) (away j k o ne l)))

-- what the rows of make_inst_results say

among_apart : (v : Value) (vs : List Value) → among v vs ≡ false → Apart v vs
among_apart v [] e = λ k l. absurd (not-suc-le-zero l)
among_apart v (u ∷ us) e =
    let q = or_parts (eqb u.0 v.0) (among v us) e in
    apart_cons v u us (λ s. eqb-false u.0 v.0 q.0 (ap (λ (x : Value). x.0) (sym s))) (among_apart v us q.1)

pub repeated_differ : (vs : List Value) → repeated vs ≡ None → Differ vs
repeated_differ [] e = λ j k r l. absurd (not-suc-le-zero l)
repeated_differ (v ∷ vs) e =
    let q = cond_none (among v vs) _ (repeated vs) e in
    differ_cons v vs (among_apart v vs q.0) (repeated_differ vs q.1)

-- a value that stands in another's list is no result of i
not_of_inst : (ds : List ValueData) (v : Value) (h : Home) (k : ℕ) (i : InstId) → h ≢ result_of i → Names ds v h k → of_inst (at ds v) i ≡ true → ⊥
not_of_inst ds v (result_of j) k i ne n e =
    let f : ValueData → Bool = λ d. of_inst d i in
    let q : eqb j.0 i.0 ≡ true = sym (ap f n.1) ∙ e in
    ne (ap (λ (x : ℕ). result_of (inst x)) (eqb-true j.0 i.0 q))
not_of_inst ds v (param_of b) k i ne n e =
    let f : ValueData → Bool = λ d. of_inst d i in
    false≢true (sym (ap f n.1) ∙ e)

pub elsewhere_apart : (g : Graph) → Seated g → (i : InstId) (vs : List Value) → edit.attached_elsewhere g i vs ≡ None →
    (j : Home) (k : ℕ) → Made g j → j ≢ result_of i → k < length (members g j) → Apart (get_or (members g j) k no_value) vs
elsewhere_apart g p i vs row j k o ne l n q e =
    let w = get_or (members g j) k no_value in
    let fits : Value → Bool = λ v. attached g v && not (of_inst (at g.defs v) i) in
    let r : fits w ≡ false = ap fits e ∙ first_of_none fits _ vs row no_value n q in
    elim (and_cases (attached g w) (not (of_inst (at g.defs w) i)) r) [
      | inl f ↦ both_ways (attached g w) f (member_attached g p j k o l)
      | inr f ↦ not_of_inst g.defs w j k i ne (p.named j k o l) (not-false (of_inst (at g.defs w) i) f)
    ]
