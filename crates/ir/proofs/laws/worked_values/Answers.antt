use Rattle.std.proofs.Common.{refl}
use Rattle.ir.proofs.laws.worked_values.Goals as goal

pub returns : goal.returns
returns c =
    record {
      result = refl;
      alias = refl;
      union = refl;
      retired = refl;
      widest_type = refl;
      wide_type = refl;
      last_place = refl;
      wide_place = refl;
      exception = refl;
      wide_payload = refl;
    }
