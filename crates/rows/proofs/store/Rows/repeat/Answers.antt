use Rattle.std.proofs.Common.{◌≡◌, ◌+◌, ◌≤◌, ℕ, List, length, sym, refl, subst, arith, length-drop}
use Rattle.std.specs.List.{copy_within}
use Rattle.ir.specs.declared.entities.Value.{Value}
use Rattle.table.specs.Table.{Fits}
use Rattle.rows.specs.declared.store.Rows.{Rows}
use Rattle.rows.specs.Rows.{rows_mean}
use Rattle.rows.proofs.Words.{Past, past_mean, past_sound, pasted_past}
use Rattle.rows.proofs.store.Rows.repeat.Goals as goal

repeated : (s : Rows) (start n : ℕ) (us : List Value) → Fits (rows_mean s) n → start + n ≤ s.used → us ≡ copy_within s.words.now start (start + n) s.used → Past s.words.now us s.used
repeated s start n us F h e =
    let room : s.used + n ≤ length s.words.now = omega (arith, F.words, s.sums, s.used_some, s.words_room) in
    subst (λ (us : List Value). Past s.words.now us s.used) (sym e) (pasted_past s.words.now _ s.used _ (omega (arith, room)) (omega (arith, length-drop start s.words.now, room)))

pub invariant_of-self : goal.invariant_of-self
invariant_of-self c =
    let s = c.args.self.now in
    let P = repeated s c.args.start c.args.n _ c.requires.fits c.requires.source c.copy_within.ensures.after in
    let T = past_sound s _ P in
    record { rows_room = s.rows_room; words_room = omega (arith, P.long, s.words_room); used_some = s.used_some; full = T.full; below = T.below; apart = T.apart; sums = T.sums }

pub returns-clause-same : goal.returns-clause-same
returns-clause-same c =
    let s = c.args.self.now in
    record { mean = past_mean s _ (repeated s c.args.start c.args.n _ c.requires.fits c.requires.source c.copy_within.ensures.after); extent = refl; used = refl }
