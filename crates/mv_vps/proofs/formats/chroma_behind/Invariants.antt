use Rattle.std.proofs.Common.{◌≡◌, take}
use Rattle.mv_vps.specs.Formats.{chroma_behind}
use Rattle.mv_vps.proofs.formats.chroma_behind.Given as goal

abbrev pub invariant-loop-format : goal.invariant-loop-format
invariant-loop-format l = l.last ≡ chroma_behind (take l.format-index l.formats)
