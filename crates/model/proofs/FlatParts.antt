-- Liveness, usable values and what they lead to, and the parts of a flattened graph.
use Rattle.std.proofs.Common.{◌≡◌, ℕ, zero, suc, ◌+◌, ◌<◌, Bool, true, false, cond, ◌≢◌, ◌⊎◌, List, [], ◌∷◌, ◌++◌, length, get_or, Some, None, sym, refl, ap, ◌∙◌, subst, inl, inr, not-suc-le-zero, arith, Option}
use Rattle.std.proofs.lemmas.Bool.{or_cases, or_left, or_right, cases_Bool}
use Rattle.ir.specs.declared.entities.Value.{Value}
use Rattle.ir.specs.declared.entities.Type.{«Type» as Ty}
use Rattle.ir.specs.declared.value_data.ValueData.{ValueData}
use Rattle.ir.specs.declared.value_data.ValueData.TheVariants.{Inst, Param, Alias, Union}
use Rattle.ir.specs.Packing.{retired_mark, retired}
use Rattle.store.specs.Bank.{Bank, nothing, cleared}
use Rattle.table.specs.Table.{Row as TableRow, no_row}
use Rattle.values.specs.declared.kind.Kind.{Kind}
use Rattle.values.specs.declared.kind.Kind.TheVariants.{Root, Link, Gone}
use Rattle.values.specs.Leads.{at, kind, Leads}
use Rattle.renaming.specs.Renames.{end_of}
use Rattle.renaming.proofs.Ends.{end_reached}
use Rattle.model.specs.declared.fault.GraphFault.{GraphFault}
use Rattle.model.specs.declared.fault.GraphFault.TheVariants.{Side}
use Rattle.model.specs.declared.labels.Start.{Start}
use Rattle.model.specs.declared.labels.Label.{Label}
use Rattle.model.specs.Refusals.{first_among}
use Rattle.model.specs.State.{State, value, no_value}
use Rattle.model.specs.Flattening.{is_link, live, flat, all_operands, retargeted, relabelled, starts_dropped, alias_side, first_side}
use Rattle.model.specs.Laws.{Usable, AliasesLeadHome}
use Rattle.model.proofs.Banks.{cleared_only}
use Rattle.model.proofs.Defs.{usable_kind, usable_leads}

-- live aliases
link_inv : (k : Kind) → is_link k ≡ true → (o : Value) × (k ≡ Link o)
link_inv Root e = absurd cc
link_inv (Link o) e = (o, refl)
link_inv Gone e = absurd cc

pub live_inv : (d : ValueData) → live d ≡ true → (o : Value) × (kind d ≡ Link o)
live_inv d e = link_inv (kind d) e

pub live_of : (d : ValueData) (o : Value) → kind d ≡ Link o → live d ≡ true
live_of d o e = ap is_link e

pub not_live : (d : ValueData) → ((o : Value) → kind d ≡ Link o → ⊥) → live d ≡ false
not_live d h = elim (cases_Bool (live d)) [
  | inl e ↦ absurd (h (live_inv d e).0 (live_inv d e).1)
  | inr e ↦ e
]

pub root_not_live : (d : ValueData) → kind d ≡ Root → live d ≡ false
root_not_live d e = ap is_link e

pub flat_live : (d : ValueData) → live d ≡ true → flat d ≡ retired_mark
flat_live d e = ap (λ (b : Bool). cond b retired_mark d) e

pub flat_other : (d : ValueData) → live d ≡ false → flat d ≡ d
flat_other d e = ap (λ (b : Bool). cond b retired_mark d) e

-- the retired mark stops a walk
pub retired_gone : (d : ValueData) → retired d ≡ true → kind d ≡ Gone
retired_gone (Inst ty n i) e = absurd cc
retired_gone (Param ty n b) e = absurd cc
retired_gone (Alias ty o) e = ap (λ (b : Bool). cond b Gone (Link o)) e
retired_gone (Union ty x y) e = absurd cc

pub usable_not_retired : (ds : List ValueData) (v : Value) → Usable ds v → retired (at ds v) ≡ false
usable_not_retired ds v u = elim (cases_Bool (retired (at ds v))) [
  | inl e ↦ absurd (usable_kind ds v u (retired_gone (at ds v) e))
  | inr e ↦ e
]

-- where aliases lead home, renaming a usable value by what it leads to follows the relation
pub led : (s : State) (v : Value) → AliasesLeadHome s → Usable s.graph.defs v →
    (n : ℕ) × Leads s.graph.defs v (end_of s.graph.defs v) n
led s v h u =
    let t = usable_leads s.graph.defs h v u in
    (t.1, subst (λ (r : Value). Leads s.graph.defs v r t.1) (sym (end_reached s.graph.defs v t.0 t.1 t.2)) t.2)

-- labels by number
pub absent_either : (b : Bool) → ◌≡◌ {A = Option Label} None (cond b None None)
absent_either true = refl
absent_either false = refl

pub relabelled_at : (ds : List ValueData) (ls : List (Option Label)) (n k : ℕ) →
    get_or (relabelled ds n ls) k None ≡ cond (live (at ds (value (n + k)))) None (retargeted ds (get_or ls k None))
relabelled_at ds [] n k = absent_either (live (at ds (value (n + k))))
relabelled_at ds (l ∷ ls) n zero =
    let p : n ≡ n + 0 = omega arith in
    ap (λ (m : ℕ). cond (live (at ds (value m))) None (retargeted ds l)) p
relabelled_at ds (l ∷ ls) n (suc k) =
    let p : (n + 1) + k ≡ n + suc k = omega arith in
    relabelled_at ds ls (n + 1) k ∙ ap (λ (m : ℕ). cond (live (at ds (value m))) None (retargeted ds (get_or ls k None))) p

pub relabelled_length : (ds : List ValueData) (ls : List (Option Label)) (n : ℕ) → length (relabelled ds n ls) ≡ length ls
relabelled_length ds [] n = refl
relabelled_length ds (l ∷ ls) n = ap suc (relabelled_length ds ls (n + 1))

-- the starts of what is no live alias stay
drop_one : (b : Bool) (c : Bank Start) (n l : ℕ) → (b ≡ true → l ≢ n) → get_or (cond b (cleared c n) c).lists l nothing ≡ get_or c.lists l nothing
drop_one true c n l h = (cleared_only c n).others l (h refl)
drop_one false c n l h = refl

drop_count : (b : Bool) (c : Bank Start) (n : ℕ) → length (cond b (cleared c n) c).lists ≡ length c.lists
drop_count true c n = (cleared_only c n).count
drop_count false c n = refl

pub starts_stay : (ds : List ValueData) (n l : ℕ) (b : Bank Start) → ((k : ℕ) → k < length ds → n + k ≡ l → live (get_or ds k retired_mark) ≡ false) →
    get_or (starts_dropped n ds b).lists l nothing ≡ get_or b.lists l nothing
starts_stay [] n l b h = refl
starts_stay (d ∷ ds) n l b h =
    starts_stay ds (n + 1) l (cond (live d) (cleared b n) b) (λ k q e. h (suc k) (omega arith) (omega arith))
    ∙ drop_one (live d) b n l (λ t e.
    let f : live d ≡ false = h 0 (omega arith) (omega arith) in absurd cc)

pub starts_count : (ds : List ValueData) (n : ℕ) (b : Bank Start) → length (starts_dropped n ds b).lists ≡ length b.lists
starts_count [] n b = refl
starts_count (d ∷ ds) n b = starts_count ds (n + 1) (cond (live d) (cleared b n) b) ∙ drop_count (live d) b n

-- a union with a live side
pub side_inv : (ds : List ValueData) (d : ValueData) → alias_side ds d ≡ true →
    (ty : Ty) × (x : Value) × (y : Value) × (d ≡ Union ty x y) × ((live (at ds x) ≡ true) ⊎ (live (at ds y) ≡ true))
side_inv ds (Inst ty n i) e = absurd cc
side_inv ds (Param ty n b) e = absurd cc
side_inv ds (Alias ty o) e = absurd cc
side_inv ds (Union ty x y) e = (ty, x, y, refl, or_cases (live (at ds x)) (live (at ds y)) e)

pub side_of : (ds : List ValueData) (d : ValueData) (ty : Ty) (x y : Value) → d ≡ Union ty x y →
    (live (at ds x) ≡ true) ⊎ (live (at ds y) ≡ true) → alias_side ds d ≡ true
side_of ds d ty x y e (inl p) = ap (alias_side ds) e ∙ or_left (live (at ds x)) (live (at ds y)) p
side_of ds d ty x y e (inr p) = ap (alias_side ds) e ∙ or_right (live (at ds x)) (live (at ds y)) p

-- the search finds one where there is one, and else nothing
pub side_found : (all ds : List ValueData) (n : ℕ) (f : GraphFault) → first_side all n ds ≡ Some f →
    (k : ℕ) × (k < length ds) × (alias_side all (get_or ds k retired_mark) ≡ true)
side_found all [] n f e = absurd cc
side_found all (d ∷ ds) n f e = by (alias_side all d) refl e (side_found all ds (n + 1) f)
  where
    by : (b : Bool) → alias_side all d ≡ b → cond b (Some (Side n)) (first_side all (n + 1) ds) ≡ Some f →
        (first_side all (n + 1) ds ≡ Some f → (k : ℕ) × (k < length ds) × (alias_side all (get_or ds k retired_mark) ≡ true)) →
        (k : ℕ) × (k < length (d ∷ ds)) × (alias_side all (get_or (d ∷ ds) k retired_mark) ≡ true)
    by true p q r = (0, omega arith, p)
    by false p q r = let t = r q in (suc t.0, omega (arith, t.1), t.2)

pub side_absent : (all ds : List ValueData) (n : ℕ) → first_side all n ds ≡ None →
    (k : ℕ) → k < length ds → alias_side all (get_or ds k retired_mark) ≡ false
side_absent all [] n e k h = absurd (not-suc-le-zero h)
side_absent all (d ∷ ds) n e k h = by (alias_side all d) refl e k h (side_absent all ds (n + 1))
  where
    by : (b : Bool) → alias_side all d ≡ b → cond b (Some (Side n)) (first_side all (n + 1) ds) ≡ None →
        (k : ℕ) → k < length (d ∷ ds) →
        (first_side all (n + 1) ds ≡ None → (k : ℕ) → k < length ds → alias_side all (get_or ds k retired_mark) ≡ false) →
        alias_side all (get_or (d ∷ ds) k retired_mark) ≡ false
    by true p q k h r = absurd cc
    by false p q zero h r = p
    by false p q (suc k) h r = r q k (omega arith)

-- a row that fits no operand does not hold
first_of_app : {A : Type 0} (fits : A → Bool) (fault : A → GraphFault) (xs ys : List A) (d : A) →
    ((k : ℕ) → k < length xs → fits (get_or xs k d) ≡ false) → first_among fits fault ys ≡ None → first_among fits fault (xs ++ ys) ≡ None
first_of_app fits fault [] ys d h e = e
first_of_app fits fault (x ∷ xs) ys d h e =
    let f : fits x ≡ false = h 0 (omega arith) in
    ap (λ (b : Bool). cond b (Some (fault x)) (first_among fits fault (xs ++ ys))) f
    ∙ first_of_app fits fault xs ys d (λ k q. h (suc k) (omega arith)) e

pub no_operand : (fits : Value → Bool) (fault : Value → GraphFault) (rows : List TableRow) →
    ((i k : ℕ) → i < length rows → k < length (get_or rows i no_row).operands → fits (get_or (get_or rows i no_row).operands k no_value) ≡ false) →
    first_among fits fault (all_operands rows) ≡ None
no_operand fits fault [] h = refl
no_operand fits fault (r ∷ rows) h =
    first_of_app fits fault r.operands (all_operands rows) no_value (λ k q. h 0 k (omega arith) q)
    (no_operand fits fault rows (λ i k p q. h (suc i) k (omega arith) q))
