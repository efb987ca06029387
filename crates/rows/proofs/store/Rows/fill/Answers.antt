use Rattle.std.proofs.Common.{◌≡◌, ◌+◌, ◌-◌, List, length, sym, refl, subst, arith}
use borrow.Rule.Slice.PartMut.{put_mid}
use Rattle.std.proofs.lemmas.Slice.{put_mid-paste}
use Rattle.ir.specs.declared.entities.Value.{Value}
use Rattle.table.specs.Table.{Fits}
use Rattle.rows.specs.declared.store.Rows.{Rows}
use Rattle.rows.specs.Rows.{rows_mean}
use Rattle.rows.proofs.Words.{Past, past_mean, past_sound, pasted_past}
use Rattle.rows.proofs.store.Rows.fill.Goals as goal

filled : (s : Rows) (os xs : List Value) → Fits (rows_mean s) (length os) → xs ≡ os → Past s.words.now (put_mid s.used (s.used + length os - s.used) s.words.now xs) s.used
filled s os xs F e =
    subst (λ (us : List Value). Past s.words.now us s.used) (sym (put_mid-paste s.used _ s.words.now xs os (length os) e (omega arith) refl))
    (pasted_past s.words.now os s.used (length os) (omega (arith, F.words, s.sums, s.used_some, s.words_room)) (omega arith))

pub invariant_of-self : goal.invariant_of-self
invariant_of-self c =
    let s = c.args.self.now in
    let P = filled s c.args.operands.now c.copy_from_slice.new.self c.requires c.copy_from_slice.ensures.after in
    let T = past_sound s _ P in
    record { rows_room = s.rows_room; words_room = omega (arith, P.long, s.words_room); used_some = s.used_some; full = T.full; below = T.below; apart = T.apart; sums = T.sums }

pub returns-clause-same : goal.returns-clause-same
returns-clause-same c =
    let s = c.args.self.now in
    record { mean = past_mean s _ (filled s c.args.operands.now c.copy_from_slice.new.self c.requires c.copy_from_slice.ensures.after); extent = refl; used = refl }
