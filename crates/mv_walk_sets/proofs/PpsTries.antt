-- Which rules the table of picture parameter sets tries.
use Rattle.std.proofs.Common.{ℕ, Bool}
use Rattle.mv_syntax.specs.Loops.{each, items}
use Rattle.mv_pictures.specs.UnitRules.{pps_rules}
use Rattle.mv_pps.specs.Deblocking.{deblocking}
use Rattle.mv_pps.specs.Extension.{extension, multilayer_extension}
use Rattle.mv_pps.specs.Opening.{opening}
use Rattle.mv_pps.specs.Pps.{behind_opening, pps_fields}
use Rattle.mv_pps.specs.Quantization.{quantization}
use Rattle.mv_pps.specs.Tiles.{tiles}
use Rattle.mv_pps.specs.Tools.{tools}
use Rattle.mv_walk_sets.specs.Cuts.{is_of}
use Rattle.mv_walk_sets.proofs.Trying.{Tries}

abbrev ok : ℕ → Bool
ok = is_of (pps_rules)

tries_opening : Tries ok opening
unfolding opening
tries_opening = search depth 40 fits 4000

tries_quantization : Tries ok quantization
unfolding quantization
tries_quantization = search depth 40 fits 4000

tries_tools : Tries ok tools
unfolding tools
tries_tools = search depth 40 fits 4000

tries_tiles : Tries ok tiles
unfolding tiles items each
tries_tiles = search depth 40 fits 4000

tries_deblocking : Tries ok deblocking
unfolding deblocking
tries_deblocking = search depth 40 fits 4000

tries_multilayer_extension : Tries ok multilayer_extension
unfolding multilayer_extension
tries_multilayer_extension = search depth 40 fits 4000

tries_extension : Tries ok extension
unfolding extension
tries_extension = search (tries_multilayer_extension) depth 40 fits 4000

tries_behind_opening : Tries ok behind_opening
unfolding behind_opening
tries_behind_opening = search (tries_quantization, tries_tools, tries_tiles, tries_deblocking, tries_extension) depth 40 fits 4000

pub tries_pps_fields : Tries ok pps_fields
unfolding pps_fields
tries_pps_fields = search (tries_opening, tries_behind_opening) depth 40 fits 4000
