-- How long parameter sets are (this project's profile).
use Rattle.std.specs.Prelude.{◌≤◌, ◌≡◌, length, Ok}
use Rattle.std.specs.Option.{IfSome}
use Rattle.mv_pictures.specs.Carried.{Carried}
use Rattle.mv_pictures.specs.Facts.{Fact}

-- where a value reads in its payload, this has at most 65,536 bytes
abbrev pub IsShort : {A : Type 0} → Carried A → Type 0
IsShort {A} c = (v : A) → c.reading ≡ Ok v → length c.payload ≤ 65536

-- what a unit carries, and the sets that serve it
pub record AreShort (f : Fact) : Type 0 where
  pub sps_unit : IfSome f.sps_unit IsShort
  pub pps_unit : IfSome f.pps_unit IsShort
  pub sps : IfSome f.sets.sps IsShort
  pub pps : IfSome f.sets.pps IsShort
