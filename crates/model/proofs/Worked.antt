-- The worked cases, by computing.
use Rattle.std.proofs.Common.{refl}
use Rattle.store.specs.Units.{units, first_class, smallest}
use Rattle.store.specs.Bank.{fresh, taken, obtainable, obtained, spared, cleared, holding, written, grown, pushed, changed, shortened, removed_at, fault_list, fault_block, no_block, fault_push, fault_write, fault_for}
use Rattle.model.specs.Cases.{Worked}
use Rattle.model.specs.Runs.{nothing, next, accepted}

pub worked : Worked
unfolding fresh taken obtainable obtained spared cleared holding written grown pushed changed shortened removed_at fault_list fault_block no_block fault_push fault_write fault_for units first_class smallest
worked =
    record {
      packing =
          record {
            result = refl;
            alias = refl;
            union = refl;
            retired = refl;
            widest_type = refl;
            wide_type = refl;
            last_place = refl;
            wide_place = refl;
            exception = refl;
            wide_payload = refl;
          };
      removing = (
        _,
        _,
        next (accepted refl) (next (accepted refl) (next (accepted refl) (next (accepted refl) (next (accepted refl)
            (next (accepted refl) nothing))))),
        (refl, refl),
      );
      flattening = (
        _,
        _,
        next (accepted refl) (next (accepted refl) (next (accepted refl) (next (accepted refl) (next (accepted refl)
            (next (accepted refl) (next (accepted refl) (next (accepted refl) (next (accepted refl) (next (accepted refl)
            (next (accepted refl) (next (accepted refl) (next (accepted refl) nothing)))))))))))),
        (refl, refl, refl, refl),
      );
    }
