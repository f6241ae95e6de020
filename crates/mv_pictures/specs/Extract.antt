-- The extract of a stream for an output layer set (F.10.1; layer 0 is always kept, and no unit is written anew, in this
-- project's profile).
use Rattle.std.specs.Prelude.{ℕ, List, length, map, reverse}
use Rattle.std.specs.List.{filter}
use Rattle.mv_pictures.specs.Layers.{InForce, layers_at, sets_at}
use Rattle.mv_pictures.specs.Items.{Item, items, stays, vps_behind}
use Rattle.mv_pictures.specs.Judged.{begins}
use Rattle.mv_pictures.specs.History.{history_of}
use Rattle.mv_pictures.specs.Decoding.{decode}

-- the units that are kept for set o, in order, bytes unchanged: each whose layer is kept by the video parameter set in force
-- at it, and each before the first
unfoldable pub extract : List (List ℕ) → ℕ → List (List ℕ)
extract us o = reverse (map (λ (i : Item). i.bytes) (filter (stays o) (items (reverse us))))

-- ---- Totals

-- how many units a stream has, how many of them are kept, and how many decoded pictures, sequences, layers and output layer
-- sets it has, the last two by its last video parameter set
pub record Totals : Type 0 where
  pub units : ℕ
  pub kept : ℕ
  pub pictures : ℕ
  pub sequences : ℕ
  pub layers : ℕ
  pub sets : ℕ

-- the video parameter set in force behind all units
abbrev pub last_vps : List (List ℕ) → InForce
last_vps us = vps_behind (items (reverse us))

unfoldable pub totals : List (List ℕ) → ℕ → Totals
totals us o = record {
  units = length us;
  kept = length (extract us o);
  pictures = length (decode us);
  sequences = length (filter begins (history_of us));
  layers = length (layers_at (last_vps us));
  sets = length (sets_at (last_vps us));
}
