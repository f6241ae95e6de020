-- Coded video sequences, starts of layers, and which pictures are decoded (8.1.3, 8.3.1, F.8.1.3; layers above 0 by this
-- project's profile).
use Rattle.std.specs.Prelude.{ℕ, ◌-◌, Bool, true, false, not, ◌&&◌, ◌||◌, length, Option, Some, None, option_map, option_and_then, nat_eq, if◌then◌else◌}
use Rattle.std.specs.List.{find}
use Rattle.mv_syntax.specs.Words.{◌otherwise◌}
use Rattle.mv_slice.specs.Numbers.{is_idr, is_irap}
use Rattle.mv_pictures.specs.Kinds.{is_bla, is_rasl}
use Rattle.mv_pictures.specs.Carried.{Carried}
use Rattle.mv_pictures.specs.Layers.{InForce}
use Rattle.mv_pictures.specs.Facts.{Fact}
use Rattle.mv_pictures.specs.SliceFields.{entries}
use Rattle.mv_pictures.specs.Judged.{Judged, layer, kind, au, vps_at, is_picture, is_base, is_end, is_layer_end, in_au}
use Rattle.mv_pictures.specs.Look.{Look}
use Rattle.mv_sps.specs.Sps.{SpsValue}

-- an IDR or BLA picture
abbrev pub is_idr_or_bla : Fact → Bool
is_idr_or_bla p = is_idr (kind p) || is_bla (kind p)

-- no base picture stands before this unit, or an end of layer 0 stands behind the latest one
unfoldable pub is_anew : Look → Bool
is_anew l = option_map (λ (d : Judged). is_end d.fact) l.border otherwise true

-- a base picture that starts a coded video sequence: IDR or BLA, the first one, or the first behind an end of layer 0
unfoldable pub is_sequence_start : Look → Fact → Bool
is_sequence_start l p = is_base p && (is_idr_or_bla p || is_anew l)

-- the base picture of the unit's access unit
unfoldable pub base_of : Look → Fact → Option Judged
base_of l p = option_and_then (λ (d : Judged). if in_au (au p) d then Some d else None) l.base

-- the access unit's base picture starts a sequence
unfoldable pub in_first_au : Look → Fact → Bool
in_first_au l p = option_map (λ (d : Judged). d.seq) (base_of l p) otherwise false

-- a picture of a layer above 0 may start it where all direct reference layers are initialised: an IDR or BLA picture, an
-- IRAP picture of a layer that isn't initialised, or in the access unit that starts a sequence a picture of such a layer
-- whose reference picture set has no entry
unfoldable pub starts_layer : Look → Fact → Bool
starts_layer l p =
    l.ready
    && (is_idr_or_bla p || (is_irap (kind p) && not l.here) || (in_first_au l p && not l.here && nat_eq (length (entries p)) 0))

-- a start of its layer
unfoldable pub is_start : Look → Fact → Bool
is_start l p = if nat_eq (layer p) 0 then is_sequence_start l p else is_picture p && starts_layer l p

-- what makes its layer above 0 uninitialised: an end of it, or an IDR or BLA picture of it that can't start it again
unfoldable pub is_reset : Look → Fact → Bool
is_reset l p =
    not (nat_eq (layer p) 0)
    && (is_layer_end p || (is_picture p && is_idr_or_bla p && l.here && not (is_start l p)))

-- the latest picture of its layer that is an IRAP picture or a start is a start
unfoldable pub follows_start : Look → Bool
follows_start l =
    option_map (λ (d : Judged). d.start) (find (λ (d : Judged). is_picture d.fact && (is_irap (kind d.fact) || d.start)) l.own) otherwise false

-- a picture that isn't decoded: it is no start, and its layer isn't initialised, or it resets its layer, or it is a RASL
-- picture behind a start
unfoldable pub is_skipped : Look → Fact → Bool
is_skipped l p = not (is_start l p) && (not l.here || is_reset l p || (is_rasl (kind p) && follows_start l))

-- every other picture is decoded
unfoldable pub is_decoded : Look → Fact → Bool
is_decoded l p = is_picture p && not (is_skipped l p)

-- the number of a picture's sequence, from 0 on
unfoldable pub sequence_number : Look → Fact → ℕ
sequence_number l p = if is_sequence_start l p then l.seqs else l.seqs - 1

-- the video and the sequence parameter set of the base picture that starts a picture's sequence
unfoldable pub sequence_vps : Look → Fact → InForce
sequence_vps l p = if is_sequence_start l p then vps_at p else option_and_then (λ (d : Judged). vps_at d.fact) l.root

unfoldable pub sequence_sps : Look → Fact → Option (Carried SpsValue)
sequence_sps l p = if is_sequence_start l p then p.sets.sps else option_and_then (λ (d : Judged). d.fact.sets.sps) l.root
