-- The rules of refusal: the number and the name of each, this project's profile.
use Rattle.std.specs.Prelude.{ℕ, List, ◌++◌, codes, decimal}
use Rattle.mv_rules.specs.declared.rule.Rule.{Rule}
use Rattle.mv_rules.specs.declared.rule.Rule.TheVariants.{Leading, Short, Emulation, Long, Head, VpsSyntax, ExternalBase, Splitting, Depth, Spatial, Auxiliary, ReservedDimension, NoViewDimension, SameView, AddedLayerSets, AltOutput, LayerSetBase, LayerSetClosure, LayerSetUnknown, ReservedOutput, DependencyType, VpsLimit, VpsTid, NoVps, SpsSyntax, SpsRange, Sps3d, SpsScc, ColourPlanes, SpsTid, SpsLimit, PpsSyntax, PpsRange, Pps3d, PpsScc, PocReset, LocationOffsets, ColourMapping, PpsLimit, MissingPps, MissingSps, SliceSyntax, CrossLayerBla, NoBase, LayerOrder, OrphanSlice, SliceDiffers, AddressOrder, TidDiffers, NoIrap, SpsChanged, FormatDiffers, PocRange, PocMismatch, IrapRefers, TooManyRefs, MissingRef, MissingInterLayer, ListEntry, NoRefs, Collocated, Reorder, NoPicture, VpsMidCvs, Truncated, InnerCode, LastZero}

-- a line for each rule: its number, and its name
abbrev pub entry : Rule → ℕ × List ℕ
entry Leading = (1, codes "Leading")
entry Short = (2, codes "Short")
entry Emulation = (3, codes "Emulation")
entry Long = (4, codes "Long")
entry Head = (5, codes "Head")
entry VpsSyntax = (10, codes "VpsSyntax")
entry ExternalBase = (11, codes "ExternalBase")
entry Splitting = (12, codes "Splitting")
entry Depth = (13, codes "Depth")
entry Spatial = (14, codes "Spatial")
entry Auxiliary = (15, codes "Auxiliary")
entry ReservedDimension = (16, codes "ReservedDimension")
entry NoViewDimension = (17, codes "NoViewDimension")
entry SameView = (18, codes "SameView")
entry AddedLayerSets = (19, codes "AddedLayerSets")
entry AltOutput = (20, codes "AltOutput")
entry LayerSetBase = (21, codes "LayerSetBase")
entry LayerSetClosure = (22, codes "LayerSetClosure")
entry LayerSetUnknown = (23, codes "LayerSetUnknown")
entry ReservedOutput = (24, codes "ReservedOutput")
entry DependencyType = (25, codes "DependencyType")
entry VpsLimit = (26, codes "VpsLimit")
entry VpsTid = (28, codes "VpsTid")
entry NoVps = (29, codes "NoVps")
entry SpsSyntax = (30, codes "SpsSyntax")
entry SpsRange = (31, codes "SpsRange")
entry Sps3d = (32, codes "Sps3d")
entry SpsScc = (33, codes "SpsScc")
entry ColourPlanes = (34, codes "ColourPlanes")
entry SpsTid = (35, codes "SpsTid")
entry SpsLimit = (36, codes "SpsLimit")
entry PpsSyntax = (40, codes "PpsSyntax")
entry PpsRange = (41, codes "PpsRange")
entry Pps3d = (42, codes "Pps3d")
entry PpsScc = (43, codes "PpsScc")
entry PocReset = (44, codes "PocReset")
entry LocationOffsets = (45, codes "LocationOffsets")
entry ColourMapping = (46, codes "ColourMapping")
entry PpsLimit = (47, codes "PpsLimit")
entry MissingPps = (50, codes "MissingPps")
entry MissingSps = (51, codes "MissingSps")
entry SliceSyntax = (52, codes "SliceSyntax")
entry CrossLayerBla = (53, codes "CrossLayerBla")
entry NoBase = (54, codes "NoBase")
entry LayerOrder = (55, codes "LayerOrder")
entry OrphanSlice = (56, codes "OrphanSlice")
entry SliceDiffers = (57, codes "SliceDiffers")
entry AddressOrder = (58, codes "AddressOrder")
entry TidDiffers = (59, codes "TidDiffers")
entry NoIrap = (60, codes "NoIrap")
entry SpsChanged = (61, codes "SpsChanged")
entry FormatDiffers = (62, codes "FormatDiffers")
entry PocRange = (63, codes "PocRange")
entry PocMismatch = (64, codes "PocMismatch")
entry IrapRefers = (65, codes "IrapRefers")
entry TooManyRefs = (66, codes "TooManyRefs")
entry MissingRef = (67, codes "MissingRef")
entry MissingInterLayer = (68, codes "MissingInterLayer")
entry ListEntry = (69, codes "ListEntry")
entry NoRefs = (70, codes "NoRefs")
entry Collocated = (71, codes "Collocated")
entry (Reorder set) = (72, codes "Reorder")
entry NoPicture = (73, codes "NoPicture")
entry VpsMidCvs = (74, codes "VpsMidCvs")
entry Truncated = (90, codes "Truncated")
entry InnerCode = (91, codes "InnerCode")
entry LastZero = (92, codes "LastZero")

-- the number of a rule
abbrev pub rule_number : Rule → ℕ
rule_number rule = (entry rule).0

-- the name of a rule alone
abbrev pub rule_word : Rule → List ℕ
rule_word rule = (entry rule).1

-- what Display writes of a rule: its name, and behind that of Reorder its output layer set in brackets
abbrev pub rule_name : Rule → List ℕ
rule_name (Reorder set) = rule_word (Reorder set) ++ codes "(" ++ decimal set ++ codes ")"
rule_name rule = rule_word rule
