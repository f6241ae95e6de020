-- What is decided of each unit. Histories have the latest first.
use Rattle.std.specs.Prelude.{ℕ, ℤ, Bool, not, ◌&&◌, ◌||◌, List, Option, nat_eq}
use Rattle.mv_sps.specs.Sps.{SpsValue}
use Rattle.mv_pictures.specs.Kinds.{is_eos_kind, is_eob_kind}
use Rattle.mv_pictures.specs.Carried.{Carried}
use Rattle.mv_pictures.specs.Layers.{InForce}
use Rattle.mv_pictures.specs.Items as items
use Rattle.mv_pictures.specs.Facts.{Fact}
use Rattle.mv_pictures.specs.Terms.{Tag, References, Lists}

-- a unit's fact; whether it is a picture that starts a coded video sequence, a start of its layer, a reset of its layer,
-- a decoded picture; its PicOrderCntVal, if it has one; of a decoded picture the access units of the pictures that its
-- entries match, and of those that its long-term entries match; its references, as parts and as terms; of a slice
-- segment its lists; of a picture the number of its sequence, and the video and the sequence parameter set of the base
-- picture that starts it
pub record Judged : Type 0 where
  pub fact : Fact
  pub seq : Bool
  pub start : Bool
  pub reset : Bool
  pub decoded : Bool
  pub count : Option ℤ
  pub names : List ℕ
  pub longs : List ℕ
  pub tags : List Tag
  pub references : References
  pub lists : Lists
  pub sequence : ℕ
  pub seq_vps : InForce
  pub seq_sps : Option (Carried SpsValue)

-- ---- Questions to facts

abbrev pub layer : Fact → ℕ
layer f = f.placed.item.head.layer

abbrev pub kind : Fact → ℕ
kind f = f.placed.item.head.kind

abbrev pub au : Fact → ℕ
au f = f.placed.au

abbrev pub vps_at : Fact → InForce
vps_at f = f.placed.item.at

abbrev pub is_slice : Fact → Bool
is_slice f = items.is_slice f.placed.item

abbrev pub is_picture : Fact → Bool
is_picture f = items.is_picture f.placed.item

-- a picture of layer 0
abbrev pub is_base : Fact → Bool
is_base f = nat_eq (layer f) 0 && is_picture f

-- the end of a sequence or of the bitstream, in layer 0
abbrev pub is_end : Fact → Bool
is_end f = nat_eq (layer f) 0 && items.is_known f.placed.item && (is_eos_kind (kind f) || is_eob_kind (kind f))

-- the end of a sequence in a layer above 0
abbrev pub is_layer_end : Fact → Bool
is_layer_end f = not (nat_eq (layer f) 0) && items.is_known f.placed.item && is_eos_kind (kind f)

-- ---- Questions to judgements

abbrev pub of_layer : ℕ → Judged → Bool
of_layer n d = nat_eq (layer d.fact) n

abbrev pub in_au : ℕ → Judged → Bool
in_au n d = nat_eq (au d.fact) n

-- a base picture that starts a coded video sequence
abbrev pub begins : Judged → Bool
begins d = of_layer 0 d && d.seq

-- a start of layer n, and what makes it uninitialised: the start of a sequence, or a reset of the layer
abbrev pub starts : ℕ → Judged → Bool
starts n d = of_layer n d && d.start

abbrev pub resets : ℕ → Judged → Bool
resets n d = begins d || (of_layer n d && d.reset)
