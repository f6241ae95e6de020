-- The extract of a stream (this project's profile): the units that are kept, bytes unchanged.
use Rattle.std.specs.Prelude.{ℕ, Bool, ◌==◌, List, filter, map}
use Rattle.mv_units.specs.Units.{NalUnit}
use Rattle.mv_judging.specs.Facts.{Fact, facts}

-- the bytes of each unit that is kept, in order, where a test of facts says which are
abbrev pub extract : (Fact → Bool) → List NalUnit → List (List ℕ)
extract kept us = map (λ (f : Fact). f.bytes) (filter kept (facts us))

-- whether a unit's layer is the base layer
abbrev pub in_base_layer : Fact → Bool
in_base_layer f = f.head.layer == 0
