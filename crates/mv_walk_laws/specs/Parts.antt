-- What a unit brings to what is kept of a stream. Histories have the latest first.
use Rattle.std.specs.Prelude.{ℕ, ◌≡◌, false, List, Some, None}
use Rattle.std.specs.List.{find}
use Rattle.mv_pictures.specs.Facts.{Fact, turned}
use Rattle.mv_pictures.specs.Judged.{Judged, au, is_picture, layer}

-- it carries neither a sequence nor a picture parameter set, and changes no video parameter set
pub record CarriesNothing (f : Fact) : Type 0 where
  pub stays : turned f ≡ false
  pub no_sps : f.sps_unit ≡ None
  pub no_pps : f.pps_unit ≡ None

-- the latest picture of a history is of layer n and of this access unit
pub record HasPicture (past : List Judged) (n current : ℕ) : Type 0 where
  pub it : Judged
  pub latest : find (λ (d : Judged). is_picture d.fact) past ≡ Some it
  pub layer_is : layer it.fact ≡ n
  pub here : au it.fact ≡ current
