-- The rules that are tried on parameter sets (this project's profile). One that a table tries holds where the reading of the
-- payload is cut at a field by that rule, and the syntax rule where nothing reads and no rule cuts.
use Rattle.std.specs.Prelude.{ℕ, ◌/◌, Bool, true, false, not, ◌&&◌, ◌||◌, List, [], ◌∷◌, length, slice_index, Option, is_none, option_map, nat_eq, nat_lt, Result, Ok, Err}
use Rattle.mv_syntax.specs.Bits.{Fault, short, breaks}
use Rattle.mv_syntax.specs.Words.{◌otherwise◌}
use Rattle.mv_rules.specs.Rule.{rule_number}
use Rattle.mv_rules.specs.declared.rule.Rule.{Rule}
use Rattle.mv_units.specs.Escapes.{payload}
use Rattle.mv_vps.specs.Vps.{WholeVps}
use Rattle.mv_pictures.specs.Kinds.{is_slice_kind, is_sps_kind, is_pps_kind}
use Rattle.mv_pictures.specs.Carried.{Carried}
use Rattle.mv_pictures.specs.Layers.{whole}
use Rattle.mv_pictures.specs.Items.{Item, is_vps, is_first_vps, is_known, turns}

-- ---- Readings that end in a fault

-- nothing reads, and no rule cuts
abbrev pub fails : {A : Type 0} → Result A Fault → Bool
fails (Ok v) = false
fails (Err short) = true
fails (Err (breaks r)) = false

-- a rule cuts
abbrev pub is_cut : {A : Type 0} → Rule → Result A Fault → Bool
is_cut rule (Ok v) = false
is_cut rule (Err short) = false
is_cut rule (Err (breaks r)) = nat_eq r (rule_number rule)

-- the same of a parameter set that a unit carries, if it carries one
abbrev pub set_fails : {A : Type 0} → Option (Carried A) → Bool
set_fails set = option_map (λ c. fails c.reading) set otherwise false

abbrev pub set_is_cut : {A : Type 0} → Rule → Option (Carried A) → Bool
set_is_cut rule set = option_map (λ c. is_cut rule c.reading) set otherwise false

-- ---- Which rules each table tries, in rising order

abbrev pub vps_rules : List Rule
vps_rules =
    Rule.ExternalBase ∷ Rule.Splitting ∷ Rule.Depth ∷ Rule.Spatial ∷ Rule.Auxiliary ∷ Rule.ReservedDimension ∷ Rule.NoViewDimension ∷ Rule.SameView
    ∷ Rule.AddedLayerSets ∷ Rule.AltOutput ∷ Rule.LayerSetBase ∷ Rule.LayerSetClosure ∷ Rule.LayerSetUnknown ∷ Rule.ReservedOutput ∷ Rule.DependencyType
    ∷ Rule.VpsLimit ∷ []

abbrev pub sps_rules : List Rule
sps_rules = Rule.SpsRange ∷ Rule.Sps3d ∷ Rule.SpsScc ∷ Rule.ColourPlanes ∷ []

abbrev pub pps_rules : List Rule
pps_rules =
    Rule.PpsRange ∷ Rule.Pps3d ∷ Rule.PpsScc ∷ Rule.PocReset ∷ Rule.LocationOffsets ∷ Rule.ColourMapping ∷ Rule.PpsLimit ∷ []

-- the rules of the table of video parameter sets are tried on the first and on each changed one
abbrev pub is_new_vps : Item → Bool
is_new_vps i = is_first_vps i || turns i

-- ---- Rules of their own

-- VpsTid: a video parameter set has TemporalId above 0
unfoldable pub vps_tid : Item → Bool
vps_tid i = is_vps i && nat_lt 0 i.head.tid

-- NoVps: no video parameter set is in force, and the unit is a sequence or picture parameter set, a slice segment or of a
-- layer above 0; or it is a sequence parameter set that names another video parameter set in its first four bits
abbrev pub needs_vps : Item → Bool
needs_vps i = is_sps_kind i.head.kind || is_pps_kind i.head.kind || is_slice_kind i.head.kind || nat_lt 0 i.head.layer

abbrev pub vps_id : WholeVps → ℕ
vps_id v = v.coded.0.base.opening.vps_video_parameter_set_id

abbrev pub names_other_vps : List ℕ → WholeVps → Bool
names_other_vps bytes v = nat_lt 0 (length bytes) && not (nat_eq (slice_index bytes 0 / 16) (vps_id v))

unfoldable pub no_vps : Item → Bool
no_vps i =
    (is_none i.at && needs_vps i)
    || (is_known i && is_sps_kind i.head.kind && (option_map (names_other_vps (payload i.bytes)) (whole i.at) otherwise false))

-- SpsTid: a sequence parameter set has TemporalId above 0
unfoldable pub sps_tid : Item → Bool
sps_tid i = is_known i && is_sps_kind i.head.kind && nat_lt 0 i.head.tid
