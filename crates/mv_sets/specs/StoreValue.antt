-- A store of parameter sets, as contracts see it.
use Rattle.std.specs.Prelude.{◌≡◌, ◌*◌, ℕ, Option, length, All, IfSome}
use Rattle.mv_sets.specs.Sets.{PpsSetValue, SpsSetValue}
use Rattle.mv_sets.specs.Numbered.{Numbered, TableValue}
use Rattle.mv_sets.specs.Formats.{SpsFormatFits}

pub record StoreValue : Type 0 where
  pub sps : TableValue SpsSetValue
  pub pps : TableValue PpsSetValue

-- there is an entry for each of so many ids of 64 layers
pub record HasRoom {A : Type 0} (ids : ℕ) (t : TableValue A) : Type 0 where
  pub ids_are : t.ids ≡ ids
  pub entries_are : length t.entries ≡ 64 * ids

-- a layer has 16 ids of sequence parameter sets and 64 of picture parameter sets (7.4.3.2.1, 7.4.3.3.1), and the formats that are
-- coded are within their limits
pub record IsStore (s : StoreValue) : Type 0 where
  pub sps_room : HasRoom 16 s.sps
  pub pps_room : HasRoom 64 s.pps
  pub formats : All (λ (entry : Option (Numbered SpsSetValue)). IfSome entry (λ n. SpsFormatFits n.set.value.0)) s.sps.entries
