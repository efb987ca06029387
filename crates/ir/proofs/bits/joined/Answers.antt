use Rattle.std.proofs.Common.{ℕ, ap, ◌∙◌, arith}
use lib.Bits.{bit_or}
use Rattle.std.proofs.lemmas.Nat.{or_shifted, shl_whole}
use Rattle.ir.proofs.bits.joined.Goals as goal

pub returns : goal.returns
returns g c =
    ap (λ (n : ℕ). bit_or n c.args.payload) (shl_whole c.args.tag 2 g.row.LOW 32 c.requires.few (omega arith)) ∙ or_shifted c.args.tag g.row.LOW c.args.payload c.requires.fits
