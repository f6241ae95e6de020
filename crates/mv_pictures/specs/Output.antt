-- Output pictures of an output layer set, their order, and which of them are late (C.5.2, F.7.4.3.1.1). A picture goes by
-- the parameter sets of the base picture that starts its sequence.
use Rattle.std.specs.Prelude.{ℕ, ℤ, pos, Bool, ◌&&◌, ◌||◌, List, [], ◌∷◌, map, length, Option, None, option_map, option_and_then, nat_eq, nat_lt, int_lt, if◌then◌else◌}
use Rattle.std.specs.List.{filter, last_or}
use Rattle.std.specs.Ordering.{int_eq}
use Rattle.mv_syntax.specs.Words.{◌otherwise◌}
use Rattle.mv_common.specs.declared.sub_layer_ordering.SubLayer.{SubLayer}
use Rattle.mv_common.specs.SubLayerOrdering.{SubLayerOrderingValue}
use Rattle.mv_layers.specs.Derived.{OlsValue}
use Rattle.mv_layers.specs.OutputLayers.{is_among}
use Rattle.mv_sps.specs.Sps.{SpsValue}
use Rattle.mv_pictures.specs.Carried.{Carried, value_of}
use Rattle.mv_pictures.specs.Layers.{InForce, set_at}
use Rattle.mv_pictures.specs.SliceFields.{is_put_out}
use Rattle.mv_pictures.specs.Judged.{Judged, layer, au}
use Rattle.mv_pictures.specs.Look.{sequence}

-- the output layers of set o
unfoldable pub outputs : InForce → ℕ → List ℕ
outputs at o = option_map (λ (s : OlsValue). s.outputs) (set_at at o) otherwise []

-- an output picture of set o: decoded, of an output layer, and with pic_output_flag 1
unfoldable pub is_output : ℕ → Judged → Bool
is_output o d = d.decoded && is_among (outputs d.seq_vps o) (layer d.fact) && is_put_out d.fact

-- ---- The reorder number: how many pictures may precede one in decoding order and follow it in output order

-- sps_max_num_reorder_pics of the greatest sub-layer
unfoldable pub sps_reorder : Option (Carried SpsValue) → ℕ
sps_reorder sps =
    let ordering : Option SubLayerOrderingValue = option_and_then (λ (v : SpsValue). v.pictures.ordering) (option_and_then value_of sps) in
    let greatest : Option SubLayer = option_and_then (λ (o : SubLayerOrderingValue). last_or None o.sub_layers) ordering in
    option_map (λ (s : SubLayer). s.max_num_reorder_pics) greatest otherwise 0

-- of set 0 it is that of the base layer's sequence parameter set, and else max_vps_num_reorder_pics of the set
unfoldable pub reorder : ℕ → Judged → ℕ
reorder o d = option_and_then (λ (s : OlsValue). s.reorder) (set_at d.seq_vps o) otherwise sps_reorder d.seq_sps

-- ---- Output order: by sequence, then by count, then by access unit, then by layer

abbrev pub count_of : Judged → ℤ
count_of d = d.count otherwise pos 0

unfoldable pub is_before : Judged → Judged → Bool
is_before a b =
    nat_lt a.sequence b.sequence
    || (nat_eq a.sequence b.sequence
    && (int_lt (count_of a) (count_of b)
    || (int_eq (count_of a) (count_of b)
    && (nat_lt (au a.fact) (au b.fact)
    || (nat_eq (au a.fact) (au b.fact) && nat_lt (layer a.fact) (layer b.fact))))))

-- ---- Late pictures

-- numbers, each once
unfoldable pub distinct : List ℕ → List ℕ
distinct [] = []
distinct (n ∷ ns) = if is_among ns n then distinct ns else n ∷ distinct ns

-- the units of a picture's sequence before it
unfoldable pub sequence_before : List Judged → Judged → List Judged
sequence_before past d = if d.seq then [] else sequence past

-- an output picture of set o of an earlier access unit, with a greater count
abbrev pub is_ahead : ℕ → Judged → Judged → Bool
is_ahead o d e = is_output o e && nat_lt (au e.fact) (au d.fact) && int_lt (count_of d) (count_of e)

-- the access units of the sequence that have one
unfoldable pub units_ahead : ℕ → List Judged → Judged → List ℕ
units_ahead o past d = distinct (map (λ (e : Judged). au e.fact) (filter (is_ahead o d) (sequence_before past d)))

-- an output picture is late: there are more of them than the reorder number
unfoldable pub is_late : ℕ → List Judged → Judged → Bool
is_late o past d = is_output o d && nat_lt (reorder o d) (length (units_ahead o past d))
