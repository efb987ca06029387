-- What a chain means.
use Rattle.std.specs.Prelude.{◌≡◌, map, take}
use Rattle.std.proofs.Common.{sym, refl, ◌∙◌, le_trans}
use Rattle.std.proofs.lemmas.List.{length-take-le, length-map}
use Rattle.table.specs.Table.{Table, Bounded}
use Rattle.table.specs.Extents.{Measures, measured_bounded}
use Rattle.chain.specs.declared.store.Chain.{Chain}
use Rattle.chain.specs.Links.{row_of}

abbrev pub chain_mean : Chain → Table
chain_mean s = record { rows = map (row_of s.links.now) (take s.extent.count s.rows.now); insts = s.extent.inst_limit; words = s.extent.operand_limit }

pub chain_measured : (s : Chain) → Measures s.extent (chain_mean s)
chain_measured s =
    record {
      count = sym (length-map (take s.extent.count s.rows.now) (row_of s.links.now) ∙ length-take-le s.extent.count s.rows.now (le_trans s.extent.counted s.rows_room));
      insts = refl;
      total = s.sums;
      words = refl;
    }

pub chain_bounded : (s : Chain) → Bounded (chain_mean s)
chain_bounded s = measured_bounded s.extent (chain_mean s) (chain_measured s)

-- nothing but cells has changed
pub record Same (s t : Chain) : Type 0 where
  pub mean : chain_mean t ≡ chain_mean s
  pub extent : t.extent ≡ s.extent
