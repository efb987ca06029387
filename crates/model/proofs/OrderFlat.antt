-- Similar tables flatten alike.
use Rattle.std.proofs.Common.{◌≡◌, ℕ, zero, suc, ◌+◌, Bool, true, false, cond, ◌||◌, leb, List, [], ◌∷◌, map, Some, None, Option, unwrap_or, sym, refl, ap, ◌∙◌, inl, inr, ext_get_or}
use mathlib.Core.Path.{fun_ext}
use lib.ListN.{length-map, get_or-map}
use Rattle.ir.specs.declared.entities.Value.{Value}
use Rattle.ir.specs.declared.value_data.ValueData.{ValueData}
use Rattle.ir.specs.declared.value_data.ValueData.TheVariants.{Inst, Param, Alias, Union}
use Rattle.ir.specs.Packing.{retired, retired_mark}
use Rattle.store.specs.Bank.{Bank, cleared}
use Rattle.table.specs.Table.{Table}
use Rattle.values.specs.declared.kind.Kind.TheVariants.{Link}
use Rattle.values.specs.Leads.{kind, at}
use Rattle.renaming.specs.Renames.{end_of}
use Rattle.model.specs.declared.fault.GraphFault.TheVariants.{Unknown, Retired, Side}
use Rattle.model.specs.declared.labels.Start.{Start}
use Rattle.model.specs.declared.labels.Label.{Label}
use Rattle.model.specs.declared.labels.Label.TheVariants as label
use Rattle.model.specs.Refusals.{Row, first_among, first, done, refused, unless}
use Rattle.model.specs.State.{Graph, State, value, inst}
use Rattle.model.specs.Edits.{with_defs, calls_renamed, counts_differ}
use Rattle.model.specs.Flattening.{live, flat, all_operands, table_renamed, all_calls_renamed, retargeted, relabelled}
use Rattle.model.specs.Flattening.{starts_dropped, alias_side, first_side, flatten_rows, flattened}
use Rattle.model.specs.Runs.{does, plain, is_plain, on_state, resolve_all_aliases, Equal}
use Rattle.model.specs.Laws.{FlattenAlike, both_refused, both_equal}
use Rattle.model.proofs.OrderTable.{link_usable}
use Rattle.model.proofs.OrderSimilar.{Like, Similar}
use Rattle.model.proofs.FlatParts.{live_of}

link_no_side : (vs : List ValueData) (x : ValueData) (o : Value) → kind x ≡ Link o → alias_side vs x ≡ false
link_no_side vs (Inst ty n i) o e = refl
link_no_side vs (Param ty n b) o e = refl
link_no_side vs (Alias ty p) o e = refl
link_no_side vs (Union ty x y) o e = absurd cc

-- a function that has one answer for all live aliases does not tell like definitions apart
like_by : {B : Type 0} (f : ValueData → B) (b : B) → ((x : ValueData) (o : Value) → kind x ≡ Link o → f x ≡ b) →
    {x y : ValueData} → Like x y → f x ≡ f y
like_by f b h (inl p) = ap f p
like_by f b h {x} {y} (inr t) = h x t.0 t.2 ∙ sym (h y t.1 t.3)

like_live : {x y : ValueData} → Like x y → live x ≡ live y
like_live l = like_by live true live_of l

like_flat : {x y : ValueData} → Like x y → flat x ≡ flat y
like_flat l = like_by flat retired_mark (λ x o e. ap (λ (b : Bool). cond b retired_mark x) (live_of x o e)) l

-- steps of a refusal or a drop, over what they read of the definitions
abbrev lowest : ℕ → List Bool → Row
lowest n [] = None
lowest n (b ∷ bs) = cond b (Some (Side n)) (lowest (n + 1) bs)

side_lowest : (vs : List ValueData) (n : ℕ) (ds : List ValueData) → first_side vs n ds ≡ lowest n (map (alias_side vs) ds)
side_lowest vs n [] = refl
side_lowest vs n (d ∷ ds) = ap (cond (alias_side vs d) (Some (Side n))) (side_lowest vs (n + 1) ds)

abbrev dropped : ℕ → List Bool → Bank Start → Bank Start
dropped n [] b = b
dropped n (x ∷ xs) b = dropped (n + 1) xs (cond x (cleared b n) b)

starts_by : (n : ℕ) (ds : List ValueData) (b : Bank Start) → starts_dropped n ds b ≡ dropped n (map live ds) b
starts_by n [] b = refl
starts_by n (d ∷ ds) b = starts_by (n + 1) ds (cond (live d) (cleared b n) b)

module _ (vs ws : List ValueData) (si : Similar vs ws) where
  map_same : {B : Type 0} (f : ValueData → B) → ((x y : ValueData) → Like x y → f x ≡ f y) → map f vs ≡ map f ws
  map_same f h =
      ext_get_or (f retired_mark) (map f vs) (map f ws) (length-map vs f ∙ si.long ∙ sym (length-map ws f))
      (λ i l.
      get_or-map f vs i retired_mark ∙ h (at vs (value i)) (at ws (value i)) (si.like (value i))
      ∙ sym (get_or-map f ws i retired_mark))

  live_same : (v : Value) → live (at vs v) ≡ live (at ws v)
  live_same v = like_live (si.like v)

  ends_same : end_of vs ≡ end_of ws
  ends_same = fun_ext (λ v. ap (λ (o : Option Value). unwrap_or o v) (si.leads v))

  retired_same : ◌≡◌ {A = Value → Bool} (λ v. retired (at vs v)) (λ v. retired (at ws v))
  retired_same = fun_ext (λ v. like_by retired false link_usable (si.like v))

  side_same : (d : ValueData) → alias_side vs d ≡ alias_side ws d
  side_same (Inst ty n i) = refl
  side_same (Param ty n b) = refl
  side_same (Alias ty o) = refl
  side_same (Union ty x y) = λ i. live_same x i || live_same y i

  sides_same : first_side vs 0 vs ≡ first_side ws 0 ws
  sides_same =
      side_lowest vs 0 vs
      ∙ ap (lowest 0) (map_same (alias_side vs) (λ x y l. like_by (alias_side vs) false (link_no_side vs) l))
      ∙ ap (λ (f : ValueData → Bool). lowest 0 (map f ws)) (fun_ext side_same)
      ∙ sym (side_lowest ws 0 ws)

  retargeted_same : retargeted vs ≡ retargeted ws
  retargeted_same = fun_ext by
    where
      by : (l : Option Label) → retargeted vs l ≡ retargeted ws l
      by None = refl
      by (Some label.Starts) = refl
      by (Some (label.Alias from target)) = λ i. Some (label.Alias from (ends_same i target))

  relabelled_same : (n : ℕ) (ls : List (Option Label)) → relabelled vs n ls ≡ relabelled ws n ls
  relabelled_same n [] = refl
  relabelled_same n (l ∷ ls) =
      λ i. cond (live_same (value n) i) None (retargeted_same i l) ∷ relabelled_same (n + 1) ls i

  starts_same : (b : Bank Start) → starts_dropped 0 vs b ≡ starts_dropped 0 ws b
  starts_same b =
      starts_by 0 vs b ∙ ap (λ (xs : List Bool). dropped 0 xs b) (map_same live (λ x y l. like_live l)) ∙ sym (starts_by 0 ws b)

  module _ (g : Graph) (tb : Table) where
    abbrev with : List ValueData → State
    with ds = record { graph = with_defs g ds; table = tb }

    -- calls do not read the definitions
    calls_same : (f : Value → Value) (n : ℕ) (b : Bank Value) →
        all_calls_renamed (with_defs g vs) f n b ≡ all_calls_renamed (with_defs g ws) f n b
    calls_same f zero b = refl
    calls_same f (suc n) b = ap (calls_renamed g f (inst n)) (calls_same f n b)

    rows_same : flatten_rows (with vs) ≡ flatten_rows (with ws)
    rows_same = λ i.
        first_among (λ v. leb (si.long i) v.0) (λ v. Unknown v.0) (all_operands tb.rows)
        ∷ first_among (retired_same i) (λ v. Retired v.0) (all_operands tb.rows)
        ∷ counts_differ (with vs)
        ∷ sides_same i
        ∷ []

    flattened_same : flattened (with vs) ≡ flattened (with ws)
    flattened_same = λ i. record {
      graph = record {
        defs = map_same flat (λ x y l. like_flat l) i;
        blocks = g.blocks;
        insts = g.insts;
        words = words i;
        labels = relabelled_same 0 g.labels i;
        starts = starts_same g.starts i;
        limits = g.limits;
      };
      table = table_renamed (ends_same i) tb;
    }
      where
        words : all_calls_renamed (with_defs g vs) (end_of vs) g.insts g.words
            ≡ all_calls_renamed (with_defs g ws) (end_of ws) g.insts g.words
        words =
            calls_same (end_of vs) g.insts g.words
            ∙ ap (λ (f : Value → Value). all_calls_renamed (with_defs g ws) f g.insts g.words) ends_same

    outcome_same : does resolve_all_aliases (with vs) ≡ does resolve_all_aliases (with ws)
    outcome_same = λ i. on_state is_plain (unless (first (rows_same i)) tt (flattened_same i))

    pub flatten_alike : FlattenAlike (with vs) (with ws)
    flatten_alike = by (first (flatten_rows (with vs))) refl
      where
        by : (r : Row) → first (flatten_rows (with vs)) ≡ r → FlattenAlike (with vs) (with ws)
        by None e =
            let p : does resolve_all_aliases (with vs) ≡ done plain (flattened (with vs)) =
            ap (λ (r : Row). on_state is_plain (unless r tt (flattened (with vs)))) e in
            both_equal (flattened (with vs)) (flattened (with vs)) p (sym outcome_same ∙ p) same_state
          where
            same_state : Equal (flattened (with vs)) (flattened (with vs))
            same_state = record {
              values = refl;
              blocks = refl;
              insts = refl;
              rows = refl;
              defs = λ v. refl;
              params = λ b h. refl;
              results = λ i h. refl;
              calls = λ i j h k. refl;
              instructions = λ i. refl;
              labels = λ v h. refl;
            }
        by (Some f) e =
            let p : does resolve_all_aliases (with vs) ≡ refused f =
            ap (λ (r : Row). on_state is_plain (unless r tt (flattened (with vs)))) e in
            both_refused f p (sym outcome_same ∙ p)
