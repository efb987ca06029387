-- Results of a new instruction, made one after another in the places of a copy of another's.
use Rattle.std.proofs.Common.{◌≡◌, ℕ, suc, ◌+◌, ◌<◌, ◌≤◌, List, [], ◌∷◌, ◌++◌, map, length, get_or, take, drop, set, None, sym, refl, ap, ◌∙◌, append_assoc, append-nil, arith}
use Rattle.std.proofs.lemmas.List.{drop_all, drop_more, get_or_at, get_or-map, get_or-set_same, length-append, length-drop, length-map, length_push, length-take-le, set_at, set-set, take_all, take_at, take_more}
use Rattle.std.proofs.lemmas.Bool.{le-ltb}
use Rattle.ir.specs.declared.entities.Value.{Value}
use Rattle.ir.specs.declared.entities.Inst.{Inst as InstId}
use Rattle.ir.specs.declared.entities.Type.{«Type» as Ty}
use Rattle.ir.specs.declared.value_data.ValueData.{ValueData}
use Rattle.ir.specs.declared.value_data.ValueData.TheVariants.{Inst}
use Rattle.ir.specs.Packing.{type}
use Rattle.store.specs.Units.{smallest}
use Rattle.store.proofs.Acts.{held_same}
use Rattle.store.specs.Bank.{Bank, Owned, changed, class_of, cleared, holding, items_of, nothing, obtained, written}
use Rattle.values.specs.Leads.{at}
use Rattle.model.specs.State.{Graph, no_value, result_list, value}
use Rattle.model.specs.Edits.{defined, result_types, seated, seats, values_full, with_defs, with_results, with_words}
use Rattle.model.proofs.Banks.{cleared_only, holding_only, obtained_lists, written_only}
use Rattle.defs.specs.declared.state.Defs.{Defs}
use Rattle.defs.specs.Graphs.{graph_of}
use Rattle.insts.specs.Renewing.{renewed}

-- the definitions of results of i from place k on
abbrev pub laid : InstId → ℕ → List Ty → List ValueData
laid i k [] = []
laid i k (t ∷ ts) = Inst t k i ∷ laid i (k + 1) ts

length_laid : (i : InstId) (k : ℕ) (ts : List Ty) → length (laid i k ts) ≡ length ts
length_laid i k [] = refl
length_laid i k (t ∷ ts) = ap suc (length_laid i (k + 1) ts)

laid_push : (i : InstId) (k : ℕ) (ts : List Ty) (t : Ty) → laid i k (ts ++ t ∷ []) ≡ laid i k ts ++ Inst t (k + length ts) i ∷ []
laid_push i k [] t = let e : k ≡ k + 0 = omega arith in ap (λ (n : ℕ). Inst t n i ∷ []) e
laid_push i k (u ∷ ts) t =
    let e : k + 1 + length ts ≡ k + suc (length ts) = omega arith in
    ap (λ (ds : List ValueData). Inst u k i ∷ ds) (laid_push i (k + 1) ts t ∙ ap (λ (n : ℕ). laid i (k + 1) ts ++ Inst t n i ∷ []) e)

length_seats : (m : ℕ) (ts : List Ty) → length (seats m ts []) ≡ length ts
length_seats m [] = refl
length_seats m (t ∷ ts) = ap suc (length_seats (m + 1) ts)

seats_push : (m : ℕ) (ts : List Ty) (t : Ty) → seats m (ts ++ t ∷ []) [] ≡ seats m ts [] ++ value (m + length ts) ∷ []
seats_push m [] t = let e : m ≡ m + 0 = omega arith in ap (λ (n : ℕ). value n ∷ []) e
seats_push m (u ∷ ts) t =
    let e : m + 1 + length ts ≡ m + suc (length ts) = omega arith in
    ap (λ (vs : List Value). value m ∷ vs) (seats_push (m + 1) ts t ∙ ap (λ (n : ℕ). seats (m + 1) ts [] ++ value n ∷ []) e)

-- new values are defined behind the others
seated_laid : (ts : List Ty) (i : InstId) (k : ℕ) (ds : List ValueData) (m : ℕ) → m ≡ length ds → seated i k ts (seats m ts []) ds ≡ ds ++ laid i k ts
seated_laid [] i k ds m e = sym (append-nil ds)
seated_laid (t ∷ ts) i k ds m e =
    let p : defined ds (value m) (Inst t k i) ≡ ds ++ Inst t k i ∷ [] = rw (le-ltb m (length ds) (omega arith)) refl in
    ap (seated i (k + 1) ts (seats (m + 1) ts [])) p
    ∙ (seated_laid ts i (k + 1) (ds ++ Inst t k i ∷ []) (m + 1) (ap (λ (n : ℕ). n + 1) e ∙ sym (length_push ds (Inst t k i)))
    ∙ append_assoc ds (Inst t k i ∷ []) (laid i (k + 1) ts))

-- a word of a list just written
abbrev own : List Value → ℕ → Owned Value
own xs c = record { items = xs; class = c }

abbrev relisted : Bank Value → List (Owned Value) → Bank Value
relisted b ls = record { lists = ls; free = b.free; left = b.left }

changed_holding : (b : Bank Value) (l k c : ℕ) (xs : List Value) (v : Value) → l < length b.lists →
    changed (holding b l xs c) l k v ≡ holding b l (set xs k v) c
unfolding changed holding
changed_holding b l k c xs v h =
    ap (λ (o : Owned Value). relisted b (set (set b.lists l (own xs c)) l (own (set o.items k v) o.class))) (get_or-set_same b.lists l (own xs c) nothing h)
    ∙ ap (relisted b) (set-set b.lists l (own xs c) (own (set xs k v) c))

-- items of as many words in a list just written
pub written_held : (b : Bank Value) (l : ℕ) (xs ys : List Value) → l < length b.lists → length ys ≡ length xs →
    holding (written b l xs) l ys (class_of (written b l xs) l) ≡ written b l ys
unfolding written holding
written_held b l xs ys h e =
    let c : Bank Value = obtained (cleared b l) (smallest (length xs)) in
    let n : length (obtained (cleared b l) (smallest (length xs))).lists ≡ length b.lists =
    ap length (obtained_lists (cleared b l) (smallest (length xs))) ∙ (cleared_only b l).count in
    ap (λ (o : Owned Value). relisted c (set (set c.lists l (own xs (smallest (length xs)))) l (own ys o.class)))
    (get_or-set_same c.lists l (own xs (smallest (length xs))) nothing (omega arith))
    ∙ (ap (relisted c) (set-set c.lists l (own xs (smallest (length xs))) (own ys (smallest (length xs))))
    ∙ ap (λ (m : ℕ). relisted (obtained (cleared b l) (smallest m)) (set (obtained (cleared b l) (smallest m)).lists l (own ys (smallest m)))) (sym e))

-- new results of those types, written to list l
abbrev with_results_at : Graph → InstId → ℕ → List Ty → Graph
with_results_at g new l ts =
    with_words (with_defs g (seated new 0 ts (seats (length g.defs) ts []) g.defs)) (written g.words l (seats (length g.defs) ts []))

-- definitions and words once k values, of the types of rs, are made
abbrev pub types_of : List ValueData → List Value → List Ty
types_of ds rs = map (λ (v : Value). type (at ds v)) rs

abbrev pub made_defs : List ValueData → List Value → InstId → ℕ → List ValueData
made_defs ds rs new k = ds ++ laid new 0 (take k (types_of ds rs))

abbrev pub made_words : List ValueData → List Value → ℕ → List Value
made_words ds rs k = seats (length ds) (take k (types_of ds rs)) [] ++ drop k rs

module _ (ds : List ValueData) (rs : List Value) (new : InstId) (k : ℕ) where
  types_length : k ≤ length rs → length (take k (types_of ds rs)) ≡ k
  types_length h = let e = length-map rs (λ (v : Value). type (at ds v)) in length-take-le k (types_of ds rs) (omega arith)

  seats_length : k ≤ length rs → length (seats (length ds) (take k (types_of ds rs)) []) ≡ k
  seats_length h = length_seats (length ds) (take k (types_of ds rs)) ∙ types_length h

  defs_length : k ≤ length rs → length (made_defs ds rs new k) ≡ length ds + k
  defs_length h =
      length-append ds (laid new 0 (take k (types_of ds rs)))
      ∙ ap (λ (n : ℕ). length ds + n) (length_laid new 0 (take k (types_of ds rs)) ∙ types_length h)

  words_length : k ≤ length rs → length (made_words ds rs k) ≡ length rs
  words_length h =
      let e = length-append (seats (length ds) (take k (types_of ds rs)) []) (drop k rs) in
      let s = seats_length h in
      let d = length-drop k rs in
      omega arith

  module _ (h : k < length rs) where
    abbrev old : Value
    old = get_or rs k no_value

    type_more : take (k + 1) (types_of ds rs) ≡ take k (types_of ds rs) ++ type (at ds old) ∷ []
    type_more =
        let e = length-map rs (λ (v : Value). type (at ds v)) in
        take_more (types_of ds rs) k (record { 0 = 0 }) (omega arith)
        ∙ ap (λ (t : Ty). take k (types_of ds rs) ++ t ∷ []) (get_or-map (λ (v : Value). type (at ds v)) rs k no_value (record { 0 = 0 }) h)

    defs_more : made_defs ds rs new k ++ Inst (type (at ds old)) k new ∷ [] ≡ made_defs ds rs new (k + 1)
    defs_more =
        let z : k ≡ 0 + length (take k (types_of ds rs)) = let t = types_length (omega arith) in omega arith in
        append_assoc ds (laid new 0 (take k (types_of ds rs))) (Inst (type (at ds old)) k new ∷ [])
        ∙ ap (λ (xs : List ValueData). ds ++ xs)
        (ap (λ (n : ℕ). laid new 0 (take k (types_of ds rs)) ++ Inst (type (at ds old)) n new ∷ []) z
        ∙ (sym (laid_push new 0 (take k (types_of ds rs)) (type (at ds old))) ∙ ap (laid new 0) (sym type_more)))

    words_at : (d : Value) → get_or (made_words ds rs k) k d ≡ old
    words_at d =
        ap (λ (vs : List Value). get_or (seats (length ds) (take k (types_of ds rs)) [] ++ vs) k d) (drop_more rs k no_value h)
        ∙ get_or_at (seats (length ds) (take k (types_of ds rs)) []) old (drop (k + 1) rs) d k (seats_length (omega arith))

    words_more : set (made_words ds rs k) k (value (length ds + k)) ≡ made_words ds rs (k + 1)
    words_more =
        ap (λ (vs : List Value). set (seats (length ds) (take k (types_of ds rs)) [] ++ vs) k (value (length ds + k))) (drop_more rs k no_value h)
        ∙ (set_at (seats (length ds) (take k (types_of ds rs)) []) old (drop (k + 1) rs) (value (length ds + k)) k (seats_length (omega arith))
        ∙ (sym (append_assoc (seats (length ds) (take k (types_of ds rs)) []) (value (length ds + k) ∷ []) (drop (k + 1) rs))
        ∙ ap (λ (vs : List Value). vs ++ drop (k + 1) rs)
        (ap (λ (n : ℕ). seats (length ds) (take k (types_of ds rs)) [] ++ value (length ds + n) ∷ []) (sym (types_length (omega arith)))
        ∙ (sym (seats_push (length ds) (take k (types_of ds rs)) (type (at ds old))) ∙ ap (λ (ts : List Ty). seats (length ds) ts []) (sym type_more)))))

  module _ (h : length rs ≤ k) where
    all_types : take k (types_of ds rs) ≡ types_of ds rs
    all_types = let e = length-map rs (λ (v : Value). type (at ds v)) in take_all k (types_of ds rs) (omega arith)

    defs_end : made_defs ds rs new k ≡ seated new 0 (types_of ds rs) (seats (length ds) (types_of ds rs) []) ds
    defs_end =
        ap (λ (ts : List Ty). ds ++ laid new 0 ts) all_types
        ∙ sym (seated_laid (types_of ds rs) new 0 ds (length ds) refl)

    words_end : made_words ds rs k ≡ seats (length ds) (types_of ds rs) []
    words_end =
        ap (λ (vs : List Value). seats (length ds) (take k (types_of ds rs)) [] ++ vs) (drop_all k rs h)
        ∙ (append-nil (seats (length ds) (take k (types_of ds rs)) []) ∙ ap (λ (ts : List Ty). seats (length ds) ts []) all_types)

-- k words of the list are new results
abbrev pub renewing : Graph → InstId → ℕ → ℕ → Graph
renewing g new l k =
    with_words (with_defs g (made_defs g.defs (items_of g.words l) new k))
    (holding g.words l (made_words g.defs (items_of g.words l) k) (class_of g.words l))

pub record Renewing (g : Graph) (new : InstId) (l k : ℕ) (d : Defs) : Type 0 where
  pub same : graph_of d ≡ renewing g new l k

pub renew_starts : (d : Defs) (new : InstId) (l : ℕ) → Renewing (graph_of d) new l 0 d
renew_starts d new l =
    let g : Graph = graph_of d in
    record {
      same =
          ap (λ (xs : List ValueData). with_words (with_defs g xs) g.words) (sym (append-nil g.defs))
          ∙ ap (λ (b : Bank Value). with_words (with_defs g (made_defs g.defs (items_of g.words l) new 0)) b) (sym (held_same g.words l));
    }

module _ (g : Graph) (new : InstId) (l k : ℕ) (d : Defs) (a : Renewing g new l k d) where
  abbrev rs : List Value
  rs = items_of g.words l

  renew_defs : (graph_of d).defs ≡ made_defs g.defs rs new k
  renew_defs = ap (λ (x : Graph). x.defs) a.same

  renew_words : (graph_of d).words ≡ holding g.words l (made_words g.defs rs k) (class_of g.words l)
  renew_words = ap (λ (x : Graph). x.words) a.same

  pub renew_lists : length (graph_of d).words.lists ≡ length g.words.lists
  renew_lists = ap (λ (b : Bank Value). length b.lists) renew_words ∙ (holding_only g.words l (made_words g.defs rs k) (class_of g.words l)).count

  pub renew_ends : length rs ≤ k → graph_of d ≡ renewed g new l
  renew_ends h =
      a.same
      ∙ (ap (λ (ds : List ValueData). with_words (with_defs g ds) (holding g.words l (made_words g.defs rs k) (class_of g.words l))) (defs_end g.defs rs new k h)
      ∙ ap (λ (vs : List Value). with_words (with_defs g (seated new 0 (types_of g.defs rs) (seats (length g.defs) (types_of g.defs rs) []) g.defs)) (holding g.words l vs (class_of g.words l)))
      (words_end g.defs rs new k h))

  module _ (h : k < length rs) where
    -- there is room for one value more
    pub renew_room : length g.defs + length rs ≤ g.limits.values → values_full (graph_of d) 1 ≡ None
    renew_room f =
        let e = ap length renew_defs in
        let n = defs_length g.defs rs new k (omega arith) in
        let m = ap (λ (x : Graph). x.limits.values) a.same in
        rw (le-ltb (graph_of d).limits.values (length (graph_of d).defs + 1) (omega arith)) refl

    module _ (in-lists : l < length g.words.lists) where
      renew_items : items_of (graph_of d).words l ≡ made_words g.defs rs k
      renew_items = ap (λ (b : Bank Value). items_of b l) renew_words ∙ (holding_only g.words l (made_words g.defs rs k) (class_of g.words l)).here in-lists

      pub renew_below : k < length (items_of (graph_of d).words l)
      renew_below = let e = ap length renew_items in let n = words_length g.defs rs new k (omega arith) in omega arith

      -- the word at k is still the old one, and of its type is the next
      pub renew_type : (w : Value) (t : Ty) (n : ℕ) → w ≡ get_or (items_of (graph_of d).words l) k w → n ≡ length g.defs →
          t ≡ type (at (take n (graph_of d).defs) w) → t ≡ type (at g.defs (get_or rs k no_value))
      renew_type w t n p q r =
          let u : w ≡ get_or rs k no_value = p ∙ (ap (λ (vs : List Value). get_or vs k w) renew_items ∙ words_at g.defs rs new k h w) in
          let e : take n (graph_of d).defs ≡ g.defs = ap (take n) renew_defs ∙ take_at g.defs (laid new 0 (take k (types_of g.defs rs))) n (sym q) in
          r ∙ (ap (λ (ds : List ValueData). type (at ds w)) e ∙ ap (λ (x : Value). type (at g.defs x)) u)

      -- it is defined and takes that place
      pub renew_more : (t : Ty) (v : Value) (b c : Defs) → t ≡ type (at g.defs (get_or rs k no_value)) → v ≡ value (length (graph_of d).defs) →
          graph_of b ≡ with_defs (graph_of d) ((graph_of d).defs ++ Inst t k new ∷ []) →
          graph_of c ≡ with_words (graph_of b) (changed (graph_of b).words l k v) → Renewing g new l (k + 1) c
      renew_more t v b c p q r e =
          let ds : (graph_of d).defs ++ Inst t k new ∷ [] ≡ made_defs g.defs rs new (k + 1) =
          ap (λ (xs : List ValueData). xs ++ Inst t k new ∷ []) renew_defs
          ∙ (ap (λ (u : Ty). made_defs g.defs rs new k ++ Inst u k new ∷ []) p ∙ defs_more g.defs rs new k h) in
          let f : v ≡ value (length g.defs + k) = q ∙ (ap (λ (xs : List ValueData). value (length xs)) renew_defs ∙ ap value (defs_length g.defs rs new k (omega arith))) in
          let m : graph_of b ≡ with_words (with_defs g (made_defs g.defs rs new (k + 1))) (holding g.words l (made_words g.defs rs k) (class_of g.words l)) =
          r ∙ (ap (with_defs (graph_of d)) ds ∙ ap (λ (x : Graph). with_defs x (made_defs g.defs rs new (k + 1))) a.same) in
          let w : changed (graph_of b).words l k v ≡ holding g.words l (made_words g.defs rs (k + 1)) (class_of g.words l) =
          ap (λ (x : Graph). changed x.words l k v) m
          ∙ (changed_holding g.words l k (class_of g.words l) (made_words g.defs rs k) v in-lists
          ∙ (ap (λ (x : Value). holding g.words l (set (made_words g.defs rs k) k x) (class_of g.words l)) f
          ∙ ap (λ (vs : List Value). holding g.words l vs (class_of g.words l)) (words_more g.defs rs new k h))) in
          record {
            same = e ∙ (ap (with_words (graph_of b)) w ∙ ap (λ (x : Graph). with_words x (holding g.words l (made_words g.defs rs (k + 1)) (class_of g.words l))) m);
          }

-- over a copy of another instruction's results, these are a clone's results
pub renewed_copy : (g h : Graph) (i new : InstId) (from to : ℕ) → from ≡ result_list g i → to ≡ result_list g new → to < length g.words.lists →
    h ≡ with_words g (written g.words to (items_of g.words from)) → renewed h new to ≡ with_results g new (result_types g i) []
renewed_copy g h i new from to p q n e =
    let b : Bank Value = written g.words to (items_of g.words from) in
    let ts : List Ty = types_of g.defs (items_of g.words from) in
    let k : items_of (written g.words to (items_of g.words from)) to ≡ items_of g.words from = (written_only g.words to (items_of g.words from)).here n in
    let z : length (seats (length g.defs) ts []) ≡ length (items_of g.words from) =
    length_seats (length g.defs) ts ∙ length-map (items_of g.words from) (λ (v : Value). type (at g.defs v)) in
    ap (λ (x : Graph). renewed x new to) e
    ∙ (ap (λ (us : List Value). with_words (with_defs g (seated new 0 (types_of g.defs us) (seats (length g.defs) (types_of g.defs us) []) g.defs))
    (holding b to (seats (length g.defs) (types_of g.defs us) []) (class_of b to))) k
    ∙ (ap (with_words (with_defs g (seated new 0 ts (seats (length g.defs) ts []) g.defs)))
    (written_held g.words to (items_of g.words from) (seats (length g.defs) ts []) n z)
    ∙ (ap (λ (l : ℕ). with_results_at g new to (types_of g.defs (items_of g.words l))) p
    ∙ ap (λ (l : ℕ). with_results_at g new l (result_types g i)) q)))
