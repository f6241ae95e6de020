-- What is kept of a layer's pictures, and what each step makes of it.
use Rattle.std.specs.Prelude.{ℕ, ◌-◌, ℤ, Bool, false, not, List, [], ◌∷◌, ◌++◌, length, map, nat_eq, bytes_eq, slice_get, Option, Some, None, option_and_then, option_map, refl, if◌then◌else◌}
use Rattle.std.specs.Coded.{Coded, code_by, coded×, coded_ℕ, coded_ℤ, coded_list, coded_option}
use Rattle.mv_syntax.specs.Words.{◌otherwise◌}
use Rattle.mv_common.specs.declared.format.Format.{Format}
use Rattle.mv_dpb.specs.declared.held.Held.{Held as InBuffer}
use Rattle.mv_dpb.specs.declared.held.Keep.{Keep}
use Rattle.mv_dpb.specs.Stored.{Stored, stored_code}
use Rattle.mv_dpb.specs.Buffer.{held_code, inserted, kept}
use Rattle.mv_rps.specs.declared.counts.PocAsk.{PocAsk}
use Rattle.mv_rps.specs.Asked.{anchor_after}

-- what is kept of a decoded picture: the number of its access unit, the payload of its sequence parameter set, its format
pub record LatestValue : Type 0 where
  pub au : ℕ
  pub payload : List ℕ
  pub format : Format

-- of a layer the count of the anchor; the pictures that are held, in decoding order; the latest decoded picture
pub record LayerValue (P : Type 0) : Type 0 where
  pub counts : Option ℤ
  pub buffer : List (Stored InBuffer P)
  pub latest : Option LatestValue

-- they are coded as the tuples of their parts
abbrev pub format_code : Coded Format
format_code =
    code_by (ℕ × (ℕ × (ℕ × (ℕ × ℕ)))) (coded× coded_ℕ (coded× coded_ℕ (coded× coded_ℕ (coded× coded_ℕ coded_ℕ))))
    (λ f. (f.width, (f.height, (f.chroma, (f.luma_depth, f.chroma_depth)))))
    (λ p. record { width = p.0; height = p.1.0; chroma = p.1.1.0; luma_depth = p.1.1.1.0; chroma_depth = p.1.1.1.1 }) (λ _. refl)

abbrev pub latest_code : Coded LatestValue
latest_code =
    code_by (ℕ × (List ℕ × Format)) (coded× coded_ℕ (coded× (coded_list coded_ℕ) format_code))
    (λ l. (l.au, (l.payload, l.format))) (λ p. record { au = p.0; payload = p.1.0; format = p.1.1 }) (λ _. refl)

abbrev pub layer_code : {P : Type 0} → Coded P → Coded (LayerValue P)
layer_code {P} code =
    code_by (Option ℤ × (List (Stored InBuffer P) × Option LatestValue))
    (coded× (coded_option coded_ℤ) (coded× (coded_list (stored_code held_code code)) (coded_option latest_code)))
    (λ l. (l.counts, (l.buffer, l.latest))) (λ p. record { counts = p.0; buffer = p.1.0; latest = p.1.1 }) (λ _. refl)

-- ---- Steps

-- nothing is kept
abbrev pub no_pictures : {P : Type 0} → LayerValue P
no_pictures = record { counts = None; buffer = []; latest = None }

-- behind a picture that is counted its count may be that of the anchor (8.3.1)
abbrev pub with_count : {P : Type 0} → PocAsk → LayerValue P → LayerValue P
with_count asked l = record { counts = anchor_after l.counts asked; buffer = l.buffer; latest = l.latest }

-- behind a picture that is decoded those are held that are kept, behind a start none, and it is the latest decoded one (8.3.2)
abbrev pub with_decoded : {P : Type 0} → Bool → List Keep → LatestValue → LayerValue P → LayerValue P
with_decoded start keep latest l = record { counts = l.counts; buffer = if start then [] else kept keep l.buffer; latest = Some latest }

-- a picture that is whole is held
abbrev pub with_picture : {P : Type 0} → ℤ → ℕ → P → LayerValue P → LayerValue P
with_picture count au picture l = record { counts = l.counts; buffer = l.buffer ++ inserted count au picture ∷ []; latest = l.latest }

-- ---- Questions

-- what is told of the pictures that are held; a start finds none held
abbrev pub told_held : {P : Type 0} → LayerValue P → List InBuffer
told_held l = map (λ s. s.told) l.buffer

abbrev pub found : {P : Type 0} → Bool → LayerValue P → List InBuffer
found start l = if start then [] else told_held l

-- the latest decoded picture has another sequence parameter set than the one with this payload
abbrev pub is_other_sps : {P : Type 0} → List ℕ → LayerValue P → Bool
is_other_sps payload l = option_map (λ latest. not (bytes_eq payload latest.payload)) l.latest otherwise false

-- the latest decoded picture, where it is of an access unit
abbrev pub latest_in : ℕ → LatestValue → Option LatestValue
latest_in au latest = if nat_eq latest.au au then Some latest else None

abbrev pub latest_here : {P : Type 0} → ℕ → LayerValue P → Option LatestValue
latest_here au l = option_and_then (latest_in au) l.latest

-- the picture at a place, from 0, with its count; the one at an index among those that are kept; the one that was decoded last
abbrev pub picture_at : {P : Type 0} → ℕ → LayerValue P → Option (ℤ × P)
picture_at place l = option_map (λ s. (s.told.count, s.picture)) (slice_get l.buffer place)

abbrev pub referred : {P : Type 0} → List Keep → ℕ → LayerValue P → Option (ℤ × P)
referred keep index l = option_and_then (λ (k : Keep). picture_at k.place l) (slice_get keep index)

abbrev pub last_picture : {P : Type 0} → LayerValue P → Option (ℤ × P)
last_picture l = picture_at (length l.buffer - 1) l
