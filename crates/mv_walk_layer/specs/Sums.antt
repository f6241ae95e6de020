-- How many references a picture has (8.3.2, F.8.1.6).
use Rattle.std.specs.Prelude.{ℕ, ◌+◌, length}
use Rattle.mv_pictures.specs.Facts.{Fact}
use Rattle.mv_pictures.specs.Look.{Look}
use Rattle.mv_pictures.specs.References.{inter_layer, matched}
use Rattle.mv_pictures.specs.Terms.{after, before, long}

-- the matches of the entries that it uses, and the pictures of its access unit that it actively refers to
abbrev pub num_references : Look → Fact → ℕ
num_references l p = length (matched l p before) + length (matched l p after) + length (matched l p long) + length (inter_layer l p)
