-- Results put in their places one after another.
use Rattle.std.proofs.Common.{◌≡◌, ℕ, ◌+◌, ◌*◌, ◌<◌, ◌≤◌, true, ltb, List, [], ◌∷◌, ◌++◌, length, get_or, drop, Some, None, Option, sym, refl, ap, ◌∙◌, subst, arith}
use Rattle.std.proofs.lemmas.List.{append_assoc, drop-drop, drop_more, get_or-drop, get_or-set_same, length_push, length-set, set-set}
use Rattle.std.proofs.lemmas.Bool.{le-ltb, lt-ltb}
use Rattle.ir.specs.declared.entities.Value.{Value}
use Rattle.ir.specs.declared.entities.Inst.{Inst as InstId}
use Rattle.ir.specs.declared.entities.Type.{«Type» as Ty}
use Rattle.ir.specs.declared.value_data.ValueData.{ValueData}
use Rattle.ir.specs.declared.value_data.ValueData.TheVariants.{Inst}
use Rattle.store.specs.Units.{units}
use Rattle.store.specs.Bank.{Bank, Owned, class_of, fault_push, holding, nothing, pushed, roomy}
use Rattle.store.proofs.Models.{push_roomy, same_bank}
use Rattle.store.proofs.Acts.{held_same, pushed_within}
use Rattle.model.specs.State.{Graph}
use Rattle.model.specs.Edits.{defined, seated, seats, with_defs, with_words}
use Rattle.results.specs.Seats.{Known, Open, Seatable, news, seat_of}

-- a list whose block has room takes one more
module _ (b : Bank Value) (l c : ℕ) (xs : List Value) (h : l < length b.lists) where
  pub held : get_or (holding b l xs c).lists l nothing ≡ record { items = xs; class = c }
  unfolding holding
  held = get_or-set_same b.lists l (record { items = xs; class = c }) nothing h

  still : l < length (holding b l xs c).lists
  unfolding holding
  still = simp length-set h

  pub again : (ys : List Value) → holding (holding b l xs c) l ys c ≡ holding b l ys c
  unfolding holding
  again ys = same_bank (set-set b.lists l (record { items = xs; class = c }) (record { items = ys; class = c })) refl refl

  module _ (n : length xs < 4 * units c) where
    room : roomy (holding b l xs c) l ≡ true
    room = ap (λ (o : Owned Value). ltb (length o.items) (4 * units o.class)) held ∙ lt-ltb (length xs) (4 * units c) n

    pub held_fits : fault_push (holding b l xs c) l ≡ None
    held_fits = push_roomy (holding b l xs c) l still room

    pub held_more : (x : Value) → pushed (holding b l xs c) l x ≡ holding b l (xs ++ x ∷ []) c
    held_more x =
        pushed_within (holding b l xs c) l x room
        ∙ (ap (λ (o : Owned Value). holding (holding b l xs c) l (o.items ++ x ∷ []) o.class) held ∙ again (xs ++ x ∷ []))

-- how many values exist after a place was filled
abbrev after : ℕ → Option Value → ℕ
after n None = n + 1
after n (Some v) = n

defined_length : (ds : List ValueData) (e : Option Value) (d : ValueData) → Known ds e → length (defined ds (seat_of (length ds) e) d) ≡ after (length ds) e
defined_length ds None d k = rw (le-ltb (length ds) (length ds) (omega arith)) (length_push ds d)
defined_length ds (Some v) d k = rw (lt-ltb v.0 (length ds) k) (length-set ds v.0 d)

seats_step : (n : ℕ) (t : Ty) (ts : List Ty) (us : List (Option Value)) →
    seats n (t ∷ ts) us ≡ seat_of n (get_or us 0 None) ∷ seats (after n (get_or us 0 None)) ts (drop 1 us)
seats_step n t ts [] = refl
seats_step n t ts (None ∷ us) = refl
seats_step n t ts (Some v ∷ us) = refl

news_step : (n : ℕ) (t : Ty) (ts : List Ty) (us : List (Option Value)) →
    n + news (t ∷ ts) us ≡ after n (get_or us 0 None) + news ts (drop 1 us)
news_step n t ts [] = omega arith
news_step n t ts (None ∷ us) = omega arith
news_step n t ts (Some v ∷ us) = refl

first_left : (us : List (Option Value)) (k : ℕ) → get_or (drop k us) 0 None ≡ get_or us k None
first_left us k = get_or-drop k us 0 None ∙ (let z : k + 0 ≡ k = omega arith in ap (λ (m : ℕ). get_or us m None) z)

module _ (ts : List Ty) (us : List (Option Value)) (k : ℕ) (t : Ty) (h : k < length ts) where
  seats_at : (n : ℕ) → seats n (drop k ts) (drop k us) ≡ seat_of n (get_or us k None) ∷ seats (after n (get_or us k None)) (drop (k + 1) ts) (drop (k + 1) us)
  seats_at n =
      ap (λ (xs : List Ty). seats n xs (drop k us)) (drop_more ts k t h)
      ∙ (seats_step n (get_or ts k t) (drop (k + 1) ts) (drop k us)
      ∙ (λ j. seat_of n (first_left us k j) ∷ seats (after n (first_left us k j)) (drop (k + 1) ts) (drop-drop 1 k us j)))

  news_at : (n : ℕ) → n + news (drop k ts) (drop k us) ≡ after n (get_or us k None) + news (drop (k + 1) ts) (drop (k + 1) us)
  news_at n =
      ap (λ (xs : List Ty). n + news xs (drop k us)) (drop_more ts k t h)
      ∙ (news_step n (get_or ts k t) (drop (k + 1) ts) (drop k us)
      ∙ (λ j. after n (first_left us k j) + news (drop (k + 1) ts) (drop-drop 1 k us j)))

-- the first k places are filled: h has come from g
pub record Seating (g : Graph) (i : InstId) (l : ℕ) (ts : List Ty) (us : List (Option Value)) (k : ℕ) (h : Graph) : Type 0 where
  pub items : List Value
  pub many : length items ≡ k
  pub rest : h ≡ with_words (with_defs g h.defs) (holding g.words l items (class_of g.words l))
  pub values : items ++ seats (length h.defs) (drop k ts) (drop k us) ≡ seats (length g.defs) ts us
  pub placed : seated i k (drop k ts) (seats (length h.defs) (drop k ts) (drop k us)) h.defs ≡ seated i 0 ts (seats (length g.defs) ts us) g.defs
  pub more : length g.defs ≤ length h.defs
  pub room : length h.defs + news (drop k ts) (drop k us) ≤ g.limits.values

pub start : (g : Graph) (i : InstId) (l : ℕ) (ts : List Ty) (us : List (Option Value)) → Seatable g l ts us → Seating g i l ts us 0 g
start g i l ts us s =
    record {
      items = [];
      many = refl;
      rest = ap (with_words g) (sym (ap (λ (xs : List Value). holding g.words l xs (class_of g.words l)) (sym s.empty) ∙ held_same g.words l));
      values = refl;
      placed = refl;
      more = omega arith;
      room = s.room;
    }

known_more : (ds es : List ValueData) (e : Option Value) → length ds ≤ length es → Known ds e → Known es e
known_more ds es None h k = tt
known_more ds es (Some v) h k = omega arith

module _ (g : Graph) (i : InstId) (l : ℕ) (ts : List Ty) (us : List (Option Value)) (s : Seatable g l ts us) (k : ℕ) (lt : k < length ts) (h : Graph) (w : Seating g i l ts us k h) where
  known : Known h.defs (get_or us k None)
  known = known_more g.defs h.defs (get_or us k None) w.more (s.known k lt)

  same_limit : h.limits.values ≡ g.limits.values
  same_limit = ap (λ (x : Graph). x.limits.values) w.rest

  same_words : h.words ≡ holding g.words l w.items (class_of g.words l)
  same_words = ap (λ (x : Graph). x.words) w.rest

  small : length w.items < 4 * units (class_of g.words l)
  small = let m = w.many in let b = s.block in omega arith

  open_by : (e : Option Value) → Known h.defs e → after (length h.defs) e ≤ h.limits.values → Open h e
  open_by None a b = rw (le-ltb h.limits.values (length h.defs + 1) b)
  open_by (Some v) a b = a

  -- what filling the next place asks
  pub open_next : Open h (get_or us k None)
  open_next =
      let e = news_at ts us k (record { 0 = 0 }) lt (length h.defs) in
      let r = w.room in
      let q = same_limit in
      open_by (get_or us k None) known (omega arith)

  pub fits : fault_push h.words l ≡ None
  fits = ap (λ (b : Bank Value). fault_push b l) same_words ∙ held_fits g.words l (class_of g.words l) w.items s.list small

  -- and what it comes to
  abbrev seat : Value
  seat = seat_of (length h.defs) (get_or us k None)

  abbrev defs : List ValueData
  defs = defined h.defs (seat_of (length h.defs) (get_or us k None)) (Inst (get_or ts k (record { 0 = 0 })) k i)

  many_defs : length defs ≡ after (length h.defs) (get_or us k None)
  many_defs = defined_length h.defs (get_or us k None) (Inst (get_or ts k (record { 0 = 0 })) k i) known

  left : seats (length h.defs) (drop k ts) (drop k us) ≡ seat ∷ seats (length defs) (drop (k + 1) ts) (drop (k + 1) us)
  left =
      seats_at ts us k (record { 0 = 0 }) lt (length h.defs)
      ∙ ap (λ (n : ℕ). seat ∷ seats n (drop (k + 1) ts) (drop (k + 1) us)) (sym many_defs)

  more_by : (e : Option Value) → length h.defs ≤ after (length h.defs) e
  more_by None = omega arith
  more_by (Some v) = omega arith

  next : Seating g i l ts us (k + 1) (with_words (with_defs h defs) (pushed h.words l seat))
  next =
      let n = many_defs in
      let m = more_by (get_or us k None) in
      let e = news_at ts us k (record { 0 = 0 }) lt (length h.defs) in
      let r = w.room in
      let q = w.more in
      record {
        items = w.items ++ seat ∷ [];
        many = length_push w.items seat ∙ ap (λ (n : ℕ). n + 1) w.many;
        rest = ap (λ (x : Graph). with_words (with_defs x defs) (pushed x.words l seat)) w.rest
            ∙ ap (with_words (with_defs g defs)) (held_more g.words l (class_of g.words l) w.items s.list small seat);
        values = append_assoc w.items (seat ∷ []) (seats (length defs) (drop (k + 1) ts) (drop (k + 1) us))
            ∙ (ap (λ (xs : List Value). w.items ++ xs) (sym left) ∙ w.values);
        placed = (λ j. seated i k (sym (drop_more ts k (record { 0 = 0 }) lt) j) (sym left j) h.defs) ∙ w.placed;
        more = omega arith;
        room = omega arith;
      }

  pub more_seated : (x : Graph) → x ≡ with_words (with_defs h defs) (pushed h.words l seat) → Seating g i l ts us (k + 1) x
  more_seated x e = subst (λ (y : Graph). Seating g i l ts us (k + 1) y) (sym e) next
