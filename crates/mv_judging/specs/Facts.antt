-- Facts: each unit of a stream with what its bytes and the units before it say of it, without its number and its
-- place, which shift in an extract. Extraction and pictures ask facts, and not the stream.
use Rattle.std.specs.Prelude.{ℕ, List, [], ◌∷◌, ◌++◌}
use Rattle.mv_units.specs.declared.head.UnitHead.{UnitHead}
use Rattle.mv_units.specs.Units.{NalUnit}
use Rattle.mv_units.specs.Head.{head}

-- a unit's bytes, and its head (7.3.1.2)
pub record Fact : Type 0 where
  pub bytes : List ℕ
  pub head : UnitHead

-- the fact of a unit behind the units `before`
abbrev pub fact : List NalUnit → NalUnit → Fact
fact before u = record { bytes = u.bytes; head = head u.bytes }

-- the facts of units behind the units `before`
unfoldable pub facts_behind : List NalUnit → List NalUnit → List Fact
facts_behind before [] = []
facts_behind before (u ∷ us) = fact before u ∷ facts_behind (before ++ u ∷ []) us

-- the facts of the units of a stream
abbrev pub facts : List NalUnit → List Fact
facts us = facts_behind [] us
