-- Calls written one after another, each its target alone.
use Rattle.std.proofs.Common.{◌≡◌, ℕ, ◌+◌, ◌-◌, ◌<◌, ◌≤◌, List, [], ◌∷◌, map, length, get_or, take, drop, None, sym, refl, ap, ◌∙◌, arith}
use Rattle.std.proofs.lemmas.List.{drop_more}
use Rattle.ir.specs.declared.entities.Value.{Value}
use Rattle.ir.specs.declared.entities.Inst.{Inst as InstId}
use Rattle.ir.specs.declared.entities.Block.{Block}
use Rattle.store.specs.Bank.{Bank, fault_for, fault_write, written}
use Rattle.model.specs.State.{Graph, block, call_list, value}
use Rattle.model.specs.Edits.{aimed, with_words}
use Rattle.defs.specs.declared.state.Defs.{Defs}
use Rattle.defs.specs.Graphs.{graph_of}
use Rattle.insts.proofs.Supplies.{first_fits, rest_fits}

-- one word for each target
pub ones : (ts : List Block) → length ts ≤ 2 → take {A = ℕ} (length ts - 0) (1 ∷ 1 ∷ []) ≡ map (λ t. 1) ts
ones [] h = refl
ones (t ∷ []) h = refl
ones (t ∷ u ∷ []) h = refl
ones (t ∷ u ∷ v ∷ ts) h = absurd (omega arith)

-- the calls before j are written
pub record Aiming (g : Graph) (i : InstId) (ts : List Block) (j : ℕ) (d : Defs) : Type 0 where
  pub same : graph_of d ≡ with_words g (graph_of d).words
  pub fits : fault_for (graph_of d).words (map (λ t. 1) (drop j ts)) ≡ None
  pub rest : aimed g i j (drop j ts) (graph_of d).words ≡ aimed g i 0 ts g.words

module _ (g : Graph) (i : InstId) (ts : List Block) (j : ℕ) (d : Defs) (a : Aiming g i ts j d) where
  module _ (h : j < length ts) where
    next_fits : fault_for (graph_of d).words (1 ∷ map (λ t. 1) (drop (j + 1) ts)) ≡ None
    next_fits = sym (ap (λ (us : List Block). fault_for (graph_of d).words (map (λ t. 1) us)) (drop_more ts j (block 0) h)) ∙ a.fits

    pub aim_fits : (l : ℕ) → l < length (graph_of d).words.lists → fault_write (graph_of d).words l 1 ≡ None
    aim_fits l k = first_fits (graph_of d).words l 1 (map (λ t. 1) (drop (j + 1) ts)) k next_fits

    pub aim_more : (l : ℕ) (e : Defs) → l ≡ call_list (graph_of d) i j →
        graph_of e ≡ with_words (graph_of d) (written (graph_of d).words l (value (get_or ts j (block 0)).0 ∷ [])) → Aiming g i ts (j + 1) e
    aim_more l e p q =
        let t : Value = value (get_or ts j (block 0)).0 in
        let w : Bank Value = written (graph_of d).words l (value (get_or ts j (block 0)).0 ∷ []) in
        let r : (graph_of e).words ≡ w = ap (λ (x : Graph). x.words) q in
        let m : l ≡ call_list g i j = p ∙ ap (λ (x : Graph). call_list x i j) a.same in
        record {
          same = q ∙ (ap (λ (x : Graph). with_words x w) a.same ∙ ap (with_words g) (sym r));
          fits = ap (λ (b : Bank Value). fault_for b (map (λ t. 1) (drop (j + 1) ts))) r
              ∙ rest_fits (graph_of d).words l 1 (map (λ t. 1) (drop (j + 1) ts)) (t ∷ []) refl next_fits;
          rest = ap (aimed g i (j + 1) (drop (j + 1) ts)) (r ∙ ap (λ (n : ℕ). written (graph_of d).words n (t ∷ [])) m)
              ∙ (sym (ap (λ (us : List Block). aimed g i j us (graph_of d).words) (drop_more ts j (block 0) h)) ∙ a.rest);
        }
