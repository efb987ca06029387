-- Where values stand: the result lists and parameter lists of what exists, seen alike, and what keeps them in order.
use Rattle.std.proofs.Common.{◌≡◌, ℕ, zero, suc, ◌+◌, ◌*◌, ◌<◌, ◌≤◌, true, false, eqb, ltb, ◌≢◌, ◌⊎◌, List, [], ◌∷◌, ◌++◌, length, get_or, set, sym, refl, ap, ◌∙◌, subst, inl, inr, arith}
use Rattle.std.proofs.lemmas.Bool.{cases_eq, cases_lt, and_parts, and_from, ltb-true, eqb-true, lt-ltb, eq-eqb, both_ways}
use Rattle.std.proofs.lemmas.List.{length_push, get_or_push, get_or-set_other, get_or_append_left, get_or_past, set_past}
use Rattle.ir.specs.declared.entities.Value.{Value}
use Rattle.ir.specs.declared.entities.Inst.{Inst as InstId}
use Rattle.ir.specs.declared.entities.Block.{Block}
use Rattle.ir.specs.declared.entities.Type.{«Type» as Ty}
use Rattle.ir.specs.declared.value_data.ValueData.{ValueData}
use Rattle.ir.specs.declared.value_data.ValueData.TheVariants.{Inst, Param, Alias, Union}
use Rattle.ir.specs.Packing.{retired_mark}
use Rattle.store.specs.Bank.{Bank, Owned, items_of}
use Rattle.values.specs.Leads.{at, Exists}
use Rattle.values.proofs.Ways.{same_value, at_same}
use Rattle.model.specs.State.{Graph, State, value, block, inst, call_list, holds, attached, attached_by, no_value}
use Rattle.model.specs.Edits.{with_defs, with_words, with_inst}
use Rattle.model.specs.Laws.{ListsAreNamed}
use Rattle.model.proofs.Invariant.{Sized, HomesExist, SpareLists, Good}
use Rattle.model.proofs.Banks.{OnlyList, items_other}

-- what is shown of every edit
pub record SeatsKept (t : State) : Type 0 where
  pub sized : Sized t.graph
  pub homes : HomesExist t.graph
  pub spare : SpareLists t.graph
  pub named : ListsAreNamed t

-- whose list a value stands in
pub data Home : Type 0 where
  result_of : InstId → Home
  param_of : Block → Home

-- by counts alone, so that what a graph has else does not show
abbrev pub made : ℕ → ℕ → Home → Type 0
made blocks insts (result_of i) = i.0 < insts
made blocks insts (param_of b) = b.0 < blocks

abbrev pub Made : Graph → Home → Type 0
Made g h = made g.blocks g.insts h

abbrev pub list_from : ℕ → Home → ℕ
list_from first (result_of i) = first + 3 * i.0
list_from first (param_of b) = b.0

abbrev pub list_of : Graph → Home → ℕ
list_of g h = list_from g.limits.blocks h

abbrev pub members : Graph → Home → List Value
members g h = items_of g.words (list_of g h)

-- the definition that names a list and a place in it
abbrev pub seat : Home → Ty → ℕ → ValueData
seat (result_of i) ty k = Inst ty k i
seat (param_of b) ty k = Param ty k b

-- what a definition names exists
abbrev pub NamesMade : Graph → ValueData → Type 0
NamesMade g d = (h : Home) (ty : Ty) (k : ℕ) → d ≡ seat h ty k → Made g h

abbrev pub Names : List ValueData → Value → Home → ℕ → Type 0
Names ds v h k = (ty : Ty) × (at ds v ≡ seat h ty k)

pub record Seated (g : Graph) : Type 0 where
  pub sized : Sized g
  pub homes : (v : Value) → NamesMade g (at g.defs v)
  pub spare : SpareLists g
  pub named : (h : Home) (k : ℕ) → Made g h → k < length (members g h) → Names g.defs (get_or (members g h) k no_value) h k

pub good_seated : (s : State) → Good s → Seated s.graph
good_seated s good =
    record {
      sized = good.sized;
      homes = homes;
      spare = good.spare;
      named = named;
    }
  where
    homes : (v : Value) → NamesMade s.graph (at s.graph.defs v)
    homes v (result_of i) ty k e = good.homes.of_result v ty k i e
    homes v (param_of b) ty k e = good.homes.of_param v ty k b e

    named : (h : Home) (k : ℕ) → Made s.graph h → k < length (members s.graph h) →
        Names s.graph.defs (get_or (members s.graph h) k no_value) h k
    named (result_of i) k m l = good.named.by_results i k m l
    named (param_of b) k m l = good.named.by_params b k m l

pub kept : (t : State) → Seated t.graph → SeatsKept t
kept t p =
    record {
      sized = p.sized;
      homes = record {
        of_result = λ v ty n i e. p.homes v (result_of i) ty n e;
        of_param = λ v ty n b e. p.homes v (param_of b) ty n e;
      };
      spare = p.spare;
      named = record {
        by_results = λ i k m l. p.named (result_of i) k m l;
        by_params = λ b k m l. p.named (param_of b) k m l;
      };
    }

-- a definition names one list and one place
pub one_seat : (h j : Home) (ty tz : Ty) (k n : ℕ) → seat h ty k ≡ seat j tz n → (h ≡ j) × (k ≡ n)
one_seat (result_of i) (result_of j) ty tz k n e = (cc, cc)
one_seat (result_of i) (param_of b) ty tz k n e = absurd cc
one_seat (param_of b) (result_of j) ty tz k n e = absurd cc
one_seat (param_of b) (param_of c) ty tz k n e = (cc, cc)

-- an alias names none, and so an unknown value does not
pub no_seat : (h : Home) (ty tz : Ty) (o : Value) (k : ℕ) → Alias tz o ≡ seat h ty k → ⊥
no_seat (result_of i) ty tz o k e = cc
no_seat (param_of b) ty tz o k e = cc

pub known : (ds : List ValueData) (v : Value) (h : Home) (k : ℕ) → Names ds v h k → Exists ds v
known ds v h k p =
    elim (cases_lt v.0 (length ds)) [
      | inl l ↦ l
      | inr l ↦ absurd (no_seat h p.0 _ _ k (sym (get_or_past ds v.0 retired_mark l) ∙ p.1))
    ]

pub one_place : (ds : List ValueData) (v : Value) (h j : Home) (k n : ℕ) → Names ds v h k → Names ds v j n → (h ≡ j) × (k ≡ n)
one_place ds v h j k n p q = one_seat h j p.0 q.0 k n (sym p.1 ∙ q.1)

-- what names nothing that is not made

pub seat_made : (g : Graph) (h : Home) (ty : Ty) (k : ℕ) → Made g h → NamesMade g (seat h ty k)
seat_made g h ty k m j tz n e = subst (Made g) (one_seat h j ty tz k n e).0 m

pub alias_made : (g : Graph) (ty : Ty) (o : Value) → NamesMade g (Alias ty o)
alias_made g ty o h tz k e = absurd (no_seat h tz ty o k e)

pub union_made : (g : Graph) (ty : Ty) (x y : Value) → NamesMade g (Union ty x y)
union_made g ty x y (result_of i) tz k e = absurd cc
union_made g ty x y (param_of b) tz k e = absurd cc

-- a definition added at the end, or changed: what is read is an old one or the new one

pub at_added_old : (ds : List ValueData) (d : ValueData) (v : Value) → v.0 ≢ length ds → at (ds ++ d ∷ []) v ≡ at ds v
at_added_old ds d v ne =
    elim (cases_lt v.0 (length ds)) [
      | inl l ↦ get_or_append_left ds (d ∷ []) retired_mark v.0 l
      | inr l ↦
          let n = length_push ds d in
          let past : length ds < v.0 = elim (cases_lt (length ds) v.0) [ inl m ↦ m | inr m ↦ absurd (ne (omega arith)) ] in
          get_or_past (ds ++ d ∷ []) v.0 retired_mark (omega arith) ∙ sym (get_or_past ds v.0 retired_mark l)
    ]

pub at_added_new : (ds : List ValueData) (d : ValueData) → at (ds ++ d ∷ []) (value (length ds)) ≡ d
at_added_new ds d = get_or_push ds d retired_mark (length ds) refl

module _ (P : ValueData → Type 0) (ds : List ValueData) (d : ValueData) (old : (v : Value) → P (at ds v)) (new : P d) where
  pub after_adding : (v : Value) → P (at (ds ++ d ∷ []) v)
  after_adding v =
      elim (cases_eq v.0 (length ds)) [
        | inl e ↦ subst P (sym (ap (λ (w : Value). at (ds ++ d ∷ []) w) (same_value v (value (length ds)) e) ∙ at_added_new ds d)) new
        | inr ne ↦ subst P (sym (at_added_old ds d v ne)) (old v)
      ]

  pub after_setting : (v w : Value) → P (at (set ds v.0 d) w)
  after_setting v w =
      elim (cases_eq w.0 v.0) [
        | inr ne ↦ subst P (sym (get_or-set_other ds v.0 w.0 d retired_mark ne)) (old w)
        | inl e ↦ elim (cases_lt v.0 (length ds)) [
          | inr l ↦ subst P (ap (λ (x : List ValueData). at x w) (sym (set_past ds v.0 d l))) (old w)
          | inl l ↦ subst P (sym (ap (λ (u : Value). at (set ds v.0 d) u) (same_value w v e) ∙ at_same ds v d l)) new
        ]
      ]

-- where lists lie: within the pool, and those of different owners apart

-- list l is a parameter list of a block, or a list of an instruction, that is made
abbrev pub Inside : Graph → ℕ → Type 0
Inside g l = (l < g.blocks) ⊎ ((g.limits.blocks ≤ l) × (l < g.limits.blocks + 3 * g.insts))

pub inside_home : (g : Graph) (h : Home) → Made g h → Inside g (list_of g h)
inside_home g (result_of i) m = inr (omega arith, omega arith)
inside_home g (param_of b) m = inl m

pub inside_call : (g : Graph) (i : InstId) (j : ℕ) → i.0 < g.insts → j < 2 → Inside g (call_list g i j)
inside_call g i j m l = inr (omega arith, omega arith)

pub in_pool : (g : Graph) → Sized g → (l : ℕ) → Inside g l → l < length g.words.lists
in_pool g z l (inl m) = let a = z.lists_enough in let b = z.blocks_fit in omega arith
in_pool g z l (inr m) = let a = z.lists_enough in let b = z.insts_fit in let c = m.1 in omega arith

pub no_call : (g : Graph) → Sized g → (h : Home) (i : InstId) (j : ℕ) → Made g h → j < 2 → list_of g h ≢ call_list g i j
no_call g z (result_of k) i j m l e = omega arith
no_call g z (param_of b) i j m l e = let f = z.blocks_fit in omega arith

pub one_home : (g : Graph) → Sized g → (h j : Home) → Made g h → Made g j → list_of g h ≡ list_of g j → h ≡ j
one_home g z (result_of i) (result_of j) m n e = let p : i.0 ≡ j.0 = omega arith in ap (λ (x : ℕ). result_of (inst x)) p
one_home g z (result_of i) (param_of b) m n e = let f = z.blocks_fit in absurd (omega arith)
one_home g z (param_of b) (result_of i) m n e = let f = z.blocks_fit in absurd (omega arith)
one_home g z (param_of b) (param_of c) m n e = ap (λ (x : ℕ). param_of (block x)) e

pub spare_kept : (g : Graph) (b : Bank Value) (l : ℕ) (xs : List Value) → SpareLists g → Inside g l → OnlyList g.words b l xs →
    Sized g → SpareLists (with_words g b)
spare_kept g b l xs spare inside only z =
    record {
      of_blocks = λ m p q. only.others m (outside m p q inside) ∙ spare.of_blocks m p q;
      of_insts = λ m p. only.others m (beyond m p inside) ∙ spare.of_insts m p;
    }
  where
    outside : (m : ℕ) → g.blocks ≤ m → m < g.limits.blocks → Inside g l → m ≢ l
    outside m p q (inl a) e = omega arith
    outside m p q (inr a) e = let c = a.0 in omega arith

    beyond : (m : ℕ) → g.limits.blocks + 3 * g.insts ≤ m → Inside g l → m ≢ l
    beyond m p (inl a) e = let f = z.blocks_fit in omega arith
    beyond m p (inr a) e = let c = a.1 in omega arith

-- what keeps a graph in order

pub sized_defs : (g : Graph) (ds : List ValueData) → Sized g → length ds ≤ g.limits.values → Sized (with_defs g ds)
sized_defs g ds z l =
    record {
      values_fit = l;
      values_small = z.values_small;
      blocks_fit = z.blocks_fit;
      insts_fit = z.insts_fit;
      lists_enough = z.lists_enough;
      labels_enough = z.labels_enough;
      start_lists_enough = z.start_lists_enough;
    }

pub sized_words : (g : Graph) (b : Bank Value) → Sized g → length b.lists ≡ length g.words.lists → Sized (with_words g b)
sized_words g b z e =
    record {
      values_fit = z.values_fit;
      values_small = z.values_small;
      blocks_fit = z.blocks_fit;
      insts_fit = z.insts_fit;
      lists_enough = let l = z.lists_enough in omega arith;
      labels_enough = z.labels_enough;
      start_lists_enough = z.start_lists_enough;
    }

-- the entries of lists that are kept keep their names where their definitions stay
names_kept : (ds es : List ValueData) (v : Value) (h : Home) (k : ℕ) → at es v ≡ at ds v → Names ds v h k → Names es v h k
names_kept ds es v h k e p = (p.0, e ∙ p.1)

-- other definitions, of none that stands in a list
pub redefined : (g : Graph) (ds : List ValueData) → Seated g → length ds ≤ g.limits.values →
    ((v : Value) → NamesMade g (at ds v)) →
    ((h : Home) (k : ℕ) → Made g h → k < length (members g h) →
    at ds (get_or (members g h) k no_value) ≡ at g.defs (get_or (members g h) k no_value)) →
    Seated (with_defs g ds)
redefined g ds p fit homes same =
    record {
      sized = sized_defs g ds p.sized fit;
      homes = homes;
      spare = record { of_blocks = p.spare.of_blocks; of_insts = p.spare.of_insts };
      named = λ h k m l. names_kept g.defs ds (get_or (members g h) k no_value) h k (same h k m l) (p.named h k m l);
    }

-- xs in the list of h, and definitions that name its places; of what stands in other lists the definitions stay
module _ (g : Graph) (ds : List ValueData) (b : Bank Value) (h : Home) (xs : List Value)
    (p : Seated g) (m : Made g h) (only : OnlyList g.words b (list_of g h) xs) where
  pub reseated : length ds ≤ g.limits.values →
      ((v : Value) → NamesMade g (at ds v)) →
      ((k : ℕ) → k < length xs → Names ds (get_or xs k no_value) h k) →
      ((j : Home) (k : ℕ) → Made g j → j ≢ h → k < length (members g j) →
      at ds (get_or (members g j) k no_value) ≡ at g.defs (get_or (members g j) k no_value)) →
      Seated (with_words (with_defs g ds) b)
  reseated fit homes here others =
      record {
        sized = sized_words (with_defs g ds) b (sized_defs g ds p.sized fit) only.count;
        homes = homes;
        spare = let sp = spare_kept g b (list_of g h) xs p.spare (inside_home g h m) only p.sized in
            record { of_blocks = sp.of_blocks; of_insts = sp.of_insts };
        named = named;
      }
    where
      there : (ys : List Value) (j : Home) (k : ℕ) → items_of b (list_of g j) ≡ ys → (k < length ys → Names ds (get_or ys k no_value) j k) →
          k < length (items_of b (list_of g j)) → Names ds (get_or (items_of b (list_of g j)) k no_value) j k
      there ys j k e f l = subst (λ (zs : List Value). Names ds (get_or zs k no_value) j k) (sym e) (f (rw e at l))

      named : (j : Home) (k : ℕ) → Made g j → k < length (items_of b (list_of g j)) → Names ds (get_or (items_of b (list_of g j)) k no_value) j k
      named j k n =
          elim (cases_eq (list_of g j) (list_of g h)) [
            | inl e ↦ let same : h ≡ j = one_home g p.sized h j m n (sym e) in
                there xs j k (ap (λ (l : ℕ). items_of b l) e ∙ only.here (in_pool g p.sized (list_of g h) (inside_home g h m)))
                (λ l. subst (λ (x : Home). Names ds (get_or xs k no_value) x k) same (here k l))
            | inr ne ↦ there (members g j) j k (items_other only (list_of g j) ne)
                (λ l. names_kept g.defs ds (get_or (members g j) k no_value) j k
                (others j k n (λ e. ne (ap (list_of g) e)) l) (p.named j k n l))
          ]

-- another call list
pub recalled : (g : Graph) (b : Bank Value) (i : InstId) (j : ℕ) (xs : List Value) → Seated g → i.0 < g.insts → j < 2 →
    OnlyList g.words b (call_list g i j) xs → Seated (with_words g b)
recalled g b i j xs p m l only =
    record {
      sized = sized_words g b p.sized only.count;
      homes = p.homes;
      spare = spare_kept g b (call_list g i j) xs p.spare (inside_call g i j m l) only p.sized;
      named = λ h k n q.
          let e = items_other only (list_of g h) (no_call g p.sized h i j n l) in
          subst (λ (zs : List Value). Names g.defs (get_or zs k no_value) h k) (sym e) (p.named h k n (rw e at q));
    }

-- one block more, and one instruction more: their lists were spare
pub one_block_more : (g : Graph) → Seated g → g.blocks < g.limits.blocks →
    Seated (record { defs = g.defs; blocks = g.blocks + 1; insts = g.insts; words = g.words; labels = g.labels; starts = g.starts; limits = g.limits })
one_block_more g p room =
    record {
      sized = record {
        values_fit = p.sized.values_fit;
        values_small = p.sized.values_small;
        blocks_fit = omega arith;
        insts_fit = p.sized.insts_fit;
        lists_enough = p.sized.lists_enough;
        labels_enough = p.sized.labels_enough;
        start_lists_enough = p.sized.start_lists_enough;
      };
      homes = λ v h ty k e. older h (p.homes v h ty k e);
      spare = record { of_blocks = λ l q r. p.spare.of_blocks l (omega arith) r; of_insts = p.spare.of_insts };
      named = named;
    }
  where
    older : (h : Home) → Made g h → made (g.blocks + 1) g.insts h
    older (result_of i) m = m
    older (param_of b) m = omega arith

    named : (h : Home) (k : ℕ) → made (g.blocks + 1) g.insts h → k < length (members g h) → Names g.defs (get_or (members g h) k no_value) h k
    named (result_of i) k m l = p.named (result_of i) k m l
    named (param_of b) k m l =
        elim (cases_lt b.0 g.blocks) [
          | inl n ↦ p.named (param_of b) k n l
          | inr n ↦ let e = p.spare.of_blocks b.0 n (omega arith) in
              let z : length (members g (param_of b)) ≡ 0 = ap (λ (o : Owned Value). length o.items) e in absurd (omega arith)
        ]

pub one_inst_more : (g : Graph) → Seated g → g.insts < g.limits.insts → Seated (with_inst g)
one_inst_more g p room =
    record {
      sized = record {
        values_fit = p.sized.values_fit;
        values_small = p.sized.values_small;
        blocks_fit = p.sized.blocks_fit;
        insts_fit = omega arith;
        lists_enough = p.sized.lists_enough;
        labels_enough = p.sized.labels_enough;
        start_lists_enough = p.sized.start_lists_enough;
      };
      homes = λ v h ty k e. older h (p.homes v h ty k e);
      spare = record { of_blocks = p.spare.of_blocks; of_insts = λ l q. p.spare.of_insts l (omega arith) };
      named = named;
    }
  where
    older : (h : Home) → Made g h → made g.blocks (g.insts + 1) h
    older (result_of i) m = omega arith
    older (param_of b) m = m

    named : (h : Home) (k : ℕ) → made g.blocks (g.insts + 1) h → k < length (members g h) → Names g.defs (get_or (members g h) k no_value) h k
    named (param_of b) k m l = p.named (param_of b) k m l
    named (result_of i) k m l =
        elim (cases_lt i.0 g.insts) [
          | inl n ↦ p.named (result_of i) k n l
          | inr n ↦ let e = p.spare.of_insts (list_of g (result_of i)) (omega arith) in
              let z : length (members g (result_of i)) ≡ 0 = ap (λ (o : Owned Value). length o.items) e in absurd (omega arith)
        ]

-- Attached values are those that stand in a list.

attached_seat : (g : Graph) (v : Value) (h : Home) (ty : Ty) (k : ℕ) → at g.defs v ≡ seat h ty k → attached g v ≡ holds (members g h) k v
attached_seat g v (result_of i) ty k e = ap (attached_by g v) e
attached_seat g v (param_of b) ty k e = ap (attached_by g v) e

-- one that is attached stands at the place that its definition names
pub stands : (g : Graph) (v : Value) (h : Home) (ty : Ty) (k : ℕ) → attached g v ≡ true → at g.defs v ≡ seat h ty k →
    (k < length (members g h)) × (get_or (members g h) k no_value ≡ v)
stands g v h ty k a e =
    let q = and_parts (ltb k (length (members g h))) (eqb (get_or (members g h) k no_value).0 v.0) (sym (attached_seat g v h ty k e) ∙ a) in
    (ltb-true k (length (members g h)) q.0, same_value (get_or (members g h) k no_value) v (eqb-true (get_or (members g h) k no_value).0 v.0 q.1))

module _ (g : Graph) (p : Seated g) where
  pub member_attached : (h : Home) (k : ℕ) → Made g h → k < length (members g h) → attached g (get_or (members g h) k no_value) ≡ true
  member_attached h k m l =
      let v = get_or (members g h) k no_value in
      attached_seat g v h (p.named h k m l).0 k (p.named h k m l).1
      ∙ and_from (ltb k (length (members g h))) (eqb v.0 v.0) (lt-ltb k (length (members g h)) l) (eq-eqb v.0 v.0 refl)

  -- and one that is not stands nowhere
  pub loose : (v : Value) → attached g v ≡ false → (h : Home) (k : ℕ) → Made g h → k < length (members g h) → get_or (members g h) k no_value ≢ v
  loose v a h k m l e = both_ways (attached g v) a (subst (λ (w : Value). attached g w ≡ true) e (member_attached h k m l))

  pub member_known : (h : Home) (k : ℕ) → Made g h → k < length (members g h) → Exists g.defs (get_or (members g h) k no_value)
  member_known h k m l = known g.defs (get_or (members g h) k no_value) h k (p.named h k m l)

  -- entries at different places are different values
  pub places_differ : (h j : Home) (k n : ℕ) → Made g h → Made g j → k < length (members g h) → n < length (members g j) →
      get_or (members g h) k no_value ≡ get_or (members g j) n no_value → (h ≡ j) × (k ≡ n)
  places_differ h j k n m o l q e =
      one_place g.defs (get_or (members g h) k no_value) h j k n (p.named h k m l)
      (subst (λ (w : Value). Names g.defs w j n) (sym e) (p.named j n o q))

-- w stands nowhere in a list; the entries of a list are different values

abbrev pub Apart : Value → List Value → Type 0
Apart w vs = (k : ℕ) → k < length vs → w ≢ get_or vs k no_value

abbrev pub Differ : List Value → Type 0
Differ vs = (j k : ℕ) → j < k → k < length vs → get_or vs j no_value ≢ get_or vs k no_value

pub apart_cons : (w v : Value) (vs : List Value) → w ≢ v → Apart w vs → Apart w (v ∷ vs)
apart_cons w v vs ne f zero l = ne
apart_cons w v vs ne f (suc k) l = f k (omega arith)

pub differ_cons : (v : Value) (vs : List Value) → Apart v vs → Differ vs → Differ (v ∷ vs)
differ_cons v vs f d zero zero r l = absurd (omega arith)
differ_cons v vs f d zero (suc k) r l = f k (omega arith)
differ_cons v vs f d (suc j) zero r l = absurd (omega arith)
differ_cons v vs f d (suc j) (suc k) r l = d j k (omega arith) (omega arith)
