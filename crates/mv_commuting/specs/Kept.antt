-- What of a stream is kept for an output layer set (this project's profile).
use Rattle.std.specs.Prelude.{◌≡◌, ℕ, ◌<◌, Bool, true, List, All, filter, map, reverse}
use Rattle.mv_layers.specs.OutputLayers.{is_among}
use Rattle.mv_pictures.specs.Layers.{keeps}
use Rattle.mv_pictures.specs.Items.{Item, items, stays}
use Rattle.mv_pictures.specs.Judged.{Judged, au, is_picture, layer}
use Rattle.mv_pictures.specs.History.{history_of}
use Rattle.mv_pictures.specs.Output.{outputs}
use Rattle.mv_pictures.specs.Decoding.{Decoded, decoded_of}

-- a judged unit that is kept for set o
abbrev pub is_kept : ℕ → Judged → Bool
is_kept o d = stays o d.fact.placed.item

-- the decoded pictures of a stream whose units are kept for set o, in the order of the stream
abbrev pub decode_kept : List (List ℕ) → ℕ → List Decoded
decode_kept us o = reverse (map (decoded_of (history_of us)) (filter (is_kept o) (filter (λ (d : Judged). d.decoded) (history_of us))))

-- by the video parameter set in force at each unit, the outputs of set p are kept for set o
abbrev pub KeepsOutputsOf : List (List ℕ) → ℕ → ℕ → Type 0
KeepsOutputsOf us o p = All (λ (i : Item). (layer : ℕ) → is_among (outputs i.at p) layer ≡ true → keeps o i.at layer ≡ true) (items (reverse us))

-- a unit isn't a picture of this picture's layer and access unit
abbrev pub IsOtherPicture : Judged → Judged → Type 0
IsOtherPicture d e = is_picture e.fact ≡ true → layer e.fact ≡ layer d.fact → au e.fact ≡ au d.fact → ⊥

-- a unit isn't a picture of this picture's layer, or is of an earlier access unit
abbrev pub IsEarlierPicture : Judged → Judged → Type 0
IsEarlierPicture d e = is_picture e.fact ≡ true → layer e.fact ≡ layer d.fact → au e.fact < au d.fact
