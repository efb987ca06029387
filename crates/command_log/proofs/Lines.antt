-- Words that differ.
use Rattle.std.proofs.Common.{◌≡◌, ℕ, true, false, List, arith}
use Rattle.std.proofs.lemmas.Slice.Eq.{bytes_eq-Decides}
use Rattle.std.specs.Str.{bytes_eq}
use Rattle.std.proofs.lemmas.Bool.Decides.{nat_tests}

-- two words that differ are told apart by computation
pub clash : (a b : List ℕ) → bytes_eq a b ≡ false → a ≡ b → ⊥
clash a b h e = let t : bytes_eq a b ≡ true = (bytes_eq-Decides a b).1 e in absurd (grind (arith, nat_tests))
