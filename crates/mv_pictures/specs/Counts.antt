-- Picture order counts (8.3.1, F.8.3.1; of starts of layers above 0 by this project's profile).
use Rattle.std.specs.Prelude.{◌≡◌, ℕ, ◌/◌, ℤ, pos, ◌+ℤ◌, ◌-ℤ◌, ◌<ℤ◌, ◌≤ℤ◌, Bool, not, ◌&&◌, ◌||◌, Option, Some, None, is_some, option_map, option_and_then, nat_eq, if◌then◌else◌}
use Rattle.std.specs.List.{find}
use Rattle.std.specs.Int.{int_rem_euclid}
use Rattle.mv_syntax.specs.Words.{or_zero}
use Rattle.mv_pictures.specs.Kinds.{is_rasl, is_radl, is_sub_layer_non_reference}
use Rattle.mv_pictures.specs.AccessUnits.{tid}
use Rattle.mv_pictures.specs.Facts.{Fact}
use Rattle.mv_pictures.specs.SliceFields.{coded_lsb, max_lsb}
use Rattle.mv_pictures.specs.Judged.{Judged, layer, kind, is_base}
use Rattle.mv_pictures.specs.Look.{Look}
use Rattle.mv_pictures.specs.Starts.{is_start, is_decoded, base_of}

-- the low bits of a count: what is left of it by MaxPicOrderCntLsb
abbrev pub residue : ℕ → ℤ → ℤ
residue max c = int_rem_euclid c (pos max)

-- slice_pic_order_cnt_lsb: 0 where it isn't coded
abbrev pub lsb : Fact → ℕ
lsb p = or_zero (coded_lsb p)

-- the lowest count that may follow the anchor a
abbrev pub lowest : ℕ → ℤ → ℤ
lowest max a = a -ℤ pos (max / 2) +ℤ pos 1

-- a count has these low bits and is nearest to a: it is above a - max / 2, and at most a + max / 2
pub record IsNearest (max bits : ℕ) (a c : ℤ) : Type 0 where
  pub low_bits : residue max c ≡ pos bits
  pub above : (a -ℤ pos (max / 2)) <ℤ c
  pub not_above : c ≤ℤ (a +ℤ pos (max / 2))

-- that count
unfoldable pub nearest : ℕ → ℕ → ℤ → ℤ
nearest max bits a = lowest max a +ℤ residue max (pos bits -ℤ lowest max a)

-- a picture that later ones take as their anchor: TemporalId 0, and no RASL, RADL or sub-layer non-reference picture
abbrev pub may_anchor : Fact → Bool
may_anchor p =
    nat_eq (tid p.placed) 0 && not (is_rasl (kind p) || is_radl (kind p) || is_sub_layer_non_reference (kind p))

-- prevTid0Pic: the latest picture of the layer that has a count and is a start or such a picture
unfoldable pub anchor : Look → Option ℤ
anchor l =
    option_and_then (λ (d : Judged). d.count) (find (λ (d : Judged). is_some d.count && (d.start || may_anchor d.fact)) l.own)

-- the count of the access unit's base picture
unfoldable pub base_count : Look → Fact → Option ℤ
base_count l p = option_and_then (λ (d : Judged). d.count) (base_of l p)

-- PicOrderCntVal: of a start of layer 0 its low bits, and of a start of another layer the count of the base picture; of any
-- other decoded picture or base picture the nearest to its anchor
unfoldable pub start_count : Look → Fact → Option ℤ
start_count l p = if nat_eq (layer p) 0 then Some (pos (lsb p)) else base_count l p

unfoldable pub count : Look → Fact → Option ℤ
count l p =
    if is_start l p then start_count l p
    else (if is_decoded l p || is_base p then option_map (nearest (max_lsb p) (lsb p)) (anchor l) else None)
