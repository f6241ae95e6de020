-- The pictures in a layer's buffer are the values of the pictures that are held (8.3.2). Histories have the latest first.
use Rattle.std.specs.Prelude.{◌≡◌, ℕ, ℤ, List, drop, map, reverse, Option, Some, None}
use Rattle.mv_pictures.specs.Held.{Held}
use Rattle.mv_pictures.specs.Judged.{Judged}
use Rattle.mv_commuting.specs.HeldOneMore.{held_of}
use Rattle.mv_rebuild.specs.Parts.{Part}
use Rattle.mv_walk_layer.specs.LayerValue.{LayerValue}
use Rattle.mv_walk_values.specs.Values.{value_of}

-- the pictures that are held of layer n, the latest first, but the one in the making, if one of the layer is: it is the latest
abbrev pub whole_held : List Judged → ℕ → Option (ℤ × ℕ) → List Held
whole_held past n None = held_of past n
whole_held past n (Some making) = drop 1 (held_of past n)

-- in decoding order they are in the buffer, each as the value of its term
abbrev pub HoldsValues : {P : Type 0} → (List (Part P) → P) → LayerValue P → List Judged → ℕ → Option (ℤ × ℕ) → Type 0
HoldsValues rebuild l past n making = map (λ s. s.picture) l.buffer ≡ map (λ (h : Held). value_of rebuild past h.it) (reverse (whole_held past n making))
