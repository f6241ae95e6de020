-- The case of the rule that cuts a payload.
use Rattle.std.proofs.Common.{◌≡◌, ◌⊎◌, inl, inr, Bool, true, false, List, ◌∷◌, ◌++◌, map, Some, Result, Err, refl, cond, ◌&&◌}
use Rattle.std.specs.Prelude.{nat_eq}
use Rattle.mv_syntax.specs.Bits.{Fault, breaks}
use Rattle.mv_rules.specs.Rule.{rule_number}
use Rattle.mv_rules.specs.declared.rule.Rule.{Rule}
use Rattle.mv_rules.specs.declared.rule.Rule.TheVariants.{Leading, Short, Emulation, Long, Head, VpsSyntax, ExternalBase, Splitting, Depth, Spatial, Auxiliary, ReservedDimension, NoViewDimension, SameView, AddedLayerSets, AltOutput, LayerSetBase, LayerSetClosure, LayerSetUnknown, ReservedOutput, DependencyType, VpsLimit, VpsTid, NoVps, SpsSyntax, SpsRange, Sps3d, SpsScc, ColourPlanes, SpsTid, SpsLimit, PpsSyntax, PpsRange, Pps3d, PpsScc, PocReset, LocationOffsets, ColourMapping, PpsLimit, MissingPps, MissingSps, SliceSyntax, CrossLayerBla, NoBase, LayerOrder, OrphanSlice, SliceDiffers, AddressOrder, TidDiffers, NoIrap, SpsChanged, FormatDiffers, PocRange, PocMismatch, IrapRefers, TooManyRefs, MissingRef, MissingInterLayer, ListEntry, NoRefs, Collocated, Reorder, NoPicture, VpsMidCvs, Truncated, InnerCode, LastZero}
use Rattle.mv_pictures.specs.UnitRules.{fails, is_cut, pps_rules, sps_rules, vps_rules}
use Rattle.mv_pictures.specs.Rules.{Case, case}
use Rattle.mv_walk_sets.specs.Cuts.{is_of}
use Rattle.mv_walk_sets.specs.Roles.{least}

-- the cases of a payload by what it reads as
abbrev pub table_cases : {A : Type 0} → Rule → List Rule → Result A Fault → List Case
table_cases syntax rules reading = case syntax (fails reading) ∷ map (λ r. case r (is_cut r reading)) rules

vps_case : (A : Type 0) (rule : Rule) (tail : List Case) → (least (table_cases {A = A} VpsSyntax vps_rules (Err (breaks (rule_number rule))) ++ tail) ≡ Some rule) ⊎ (is_of vps_rules (rule_number rule) ≡ false)
vps_case A Leading tail = inr refl
vps_case A Short tail = inr refl
vps_case A Emulation tail = inr refl
vps_case A Long tail = inr refl
vps_case A Head tail = inr refl
vps_case A VpsSyntax tail = inr refl
vps_case A ExternalBase tail = inl refl
vps_case A Splitting tail = inl refl
vps_case A Depth tail = inl refl
vps_case A Spatial tail = inl refl
vps_case A Auxiliary tail = inl refl
vps_case A ReservedDimension tail = inl refl
vps_case A NoViewDimension tail = inl refl
vps_case A SameView tail = inl refl
vps_case A AddedLayerSets tail = inl refl
vps_case A AltOutput tail = inl refl
vps_case A LayerSetBase tail = inl refl
vps_case A LayerSetClosure tail = inl refl
vps_case A LayerSetUnknown tail = inl refl
vps_case A ReservedOutput tail = inl refl
vps_case A DependencyType tail = inl refl
vps_case A VpsLimit tail = inl refl
vps_case A VpsTid tail = inr refl
vps_case A NoVps tail = inr refl
vps_case A SpsSyntax tail = inr refl
vps_case A SpsRange tail = inr refl
vps_case A Sps3d tail = inr refl
vps_case A SpsScc tail = inr refl
vps_case A ColourPlanes tail = inr refl
vps_case A SpsTid tail = inr refl
vps_case A SpsLimit tail = inr refl
vps_case A PpsSyntax tail = inr refl
vps_case A PpsRange tail = inr refl
vps_case A Pps3d tail = inr refl
vps_case A PpsScc tail = inr refl
vps_case A PocReset tail = inr refl
vps_case A LocationOffsets tail = inr refl
vps_case A ColourMapping tail = inr refl
vps_case A PpsLimit tail = inr refl
vps_case A MissingPps tail = inr refl
vps_case A MissingSps tail = inr refl
vps_case A SliceSyntax tail = inr refl
vps_case A CrossLayerBla tail = inr refl
vps_case A NoBase tail = inr refl
vps_case A LayerOrder tail = inr refl
vps_case A OrphanSlice tail = inr refl
vps_case A SliceDiffers tail = inr refl
vps_case A AddressOrder tail = inr refl
vps_case A TidDiffers tail = inr refl
vps_case A NoIrap tail = inr refl
vps_case A SpsChanged tail = inr refl
vps_case A FormatDiffers tail = inr refl
vps_case A PocRange tail = inr refl
vps_case A PocMismatch tail = inr refl
vps_case A IrapRefers tail = inr refl
vps_case A TooManyRefs tail = inr refl
vps_case A MissingRef tail = inr refl
vps_case A MissingInterLayer tail = inr refl
vps_case A ListEntry tail = inr refl
vps_case A NoRefs tail = inr refl
vps_case A Collocated tail = inr refl
vps_case A (Reorder set) tail = inr refl
vps_case A NoPicture tail = inr refl
vps_case A VpsMidCvs tail = inr refl
vps_case A Truncated tail = inr refl
vps_case A InnerCode tail = inr refl
vps_case A LastZero tail = inr refl

pps_case : (A : Type 0) (rule : Rule) (tail : List Case) → (least (table_cases {A = A} PpsSyntax pps_rules (Err (breaks (rule_number rule))) ++ tail) ≡ Some rule) ⊎ (is_of pps_rules (rule_number rule) ≡ false)
pps_case A Leading tail = inr refl
pps_case A Short tail = inr refl
pps_case A Emulation tail = inr refl
pps_case A Long tail = inr refl
pps_case A Head tail = inr refl
pps_case A VpsSyntax tail = inr refl
pps_case A ExternalBase tail = inr refl
pps_case A Splitting tail = inr refl
pps_case A Depth tail = inr refl
pps_case A Spatial tail = inr refl
pps_case A Auxiliary tail = inr refl
pps_case A ReservedDimension tail = inr refl
pps_case A NoViewDimension tail = inr refl
pps_case A SameView tail = inr refl
pps_case A AddedLayerSets tail = inr refl
pps_case A AltOutput tail = inr refl
pps_case A LayerSetBase tail = inr refl
pps_case A LayerSetClosure tail = inr refl
pps_case A LayerSetUnknown tail = inr refl
pps_case A ReservedOutput tail = inr refl
pps_case A DependencyType tail = inr refl
pps_case A VpsLimit tail = inr refl
pps_case A VpsTid tail = inr refl
pps_case A NoVps tail = inr refl
pps_case A SpsSyntax tail = inr refl
pps_case A SpsRange tail = inr refl
pps_case A Sps3d tail = inr refl
pps_case A SpsScc tail = inr refl
pps_case A ColourPlanes tail = inr refl
pps_case A SpsTid tail = inr refl
pps_case A SpsLimit tail = inr refl
pps_case A PpsSyntax tail = inr refl
pps_case A PpsRange tail = inl refl
pps_case A Pps3d tail = inl refl
pps_case A PpsScc tail = inl refl
pps_case A PocReset tail = inl refl
pps_case A LocationOffsets tail = inl refl
pps_case A ColourMapping tail = inl refl
pps_case A PpsLimit tail = inl refl
pps_case A MissingPps tail = inr refl
pps_case A MissingSps tail = inr refl
pps_case A SliceSyntax tail = inr refl
pps_case A CrossLayerBla tail = inr refl
pps_case A NoBase tail = inr refl
pps_case A LayerOrder tail = inr refl
pps_case A OrphanSlice tail = inr refl
pps_case A SliceDiffers tail = inr refl
pps_case A AddressOrder tail = inr refl
pps_case A TidDiffers tail = inr refl
pps_case A NoIrap tail = inr refl
pps_case A SpsChanged tail = inr refl
pps_case A FormatDiffers tail = inr refl
pps_case A PocRange tail = inr refl
pps_case A PocMismatch tail = inr refl
pps_case A IrapRefers tail = inr refl
pps_case A TooManyRefs tail = inr refl
pps_case A MissingRef tail = inr refl
pps_case A MissingInterLayer tail = inr refl
pps_case A ListEntry tail = inr refl
pps_case A NoRefs tail = inr refl
pps_case A Collocated tail = inr refl
pps_case A (Reorder set) tail = inr refl
pps_case A NoPicture tail = inr refl
pps_case A VpsMidCvs tail = inr refl
pps_case A Truncated tail = inr refl
pps_case A InnerCode tail = inr refl
pps_case A LastZero tail = inr refl

-- of a sequence parameter set, with TemporalId above 0 or not
abbrev pub sps_cases : {A : Type 0} → Bool → Result A Fault → List Case → List Case
sps_cases above reading tail = table_cases SpsSyntax sps_rules reading ++ case SpsTid above ∷ case SpsLimit (is_cut SpsLimit reading) ∷ tail

sps_case : (A : Type 0) (above : Bool) (rule : Rule) (tail : List Case) →
    (least (sps_cases {A = A} above (Err (breaks (rule_number rule))) tail) ≡ Some (cond (above && nat_eq (rule_number rule) (rule_number SpsLimit)) SpsTid rule)) ⊎ (is_of (SpsLimit ∷ sps_rules) (rule_number rule) ≡ false)
sps_case A above Leading tail = inr refl
sps_case A above Short tail = inr refl
sps_case A above Emulation tail = inr refl
sps_case A above Long tail = inr refl
sps_case A above Head tail = inr refl
sps_case A above VpsSyntax tail = inr refl
sps_case A above ExternalBase tail = inr refl
sps_case A above Splitting tail = inr refl
sps_case A above Depth tail = inr refl
sps_case A above Spatial tail = inr refl
sps_case A above Auxiliary tail = inr refl
sps_case A above ReservedDimension tail = inr refl
sps_case A above NoViewDimension tail = inr refl
sps_case A above SameView tail = inr refl
sps_case A above AddedLayerSets tail = inr refl
sps_case A above AltOutput tail = inr refl
sps_case A above LayerSetBase tail = inr refl
sps_case A above LayerSetClosure tail = inr refl
sps_case A above LayerSetUnknown tail = inr refl
sps_case A above ReservedOutput tail = inr refl
sps_case A above DependencyType tail = inr refl
sps_case A above VpsLimit tail = inr refl
sps_case A above VpsTid tail = inr refl
sps_case A above NoVps tail = inr refl
sps_case A above SpsSyntax tail = inr refl
sps_case A true SpsRange tail = inl refl
sps_case A false SpsRange tail = inl refl
sps_case A true Sps3d tail = inl refl
sps_case A false Sps3d tail = inl refl
sps_case A true SpsScc tail = inl refl
sps_case A false SpsScc tail = inl refl
sps_case A true ColourPlanes tail = inl refl
sps_case A false ColourPlanes tail = inl refl
sps_case A above SpsTid tail = inr refl
sps_case A true SpsLimit tail = inl refl
sps_case A false SpsLimit tail = inl refl
sps_case A above PpsSyntax tail = inr refl
sps_case A above PpsRange tail = inr refl
sps_case A above Pps3d tail = inr refl
sps_case A above PpsScc tail = inr refl
sps_case A above PocReset tail = inr refl
sps_case A above LocationOffsets tail = inr refl
sps_case A above ColourMapping tail = inr refl
sps_case A above PpsLimit tail = inr refl
sps_case A above MissingPps tail = inr refl
sps_case A above MissingSps tail = inr refl
sps_case A above SliceSyntax tail = inr refl
sps_case A above CrossLayerBla tail = inr refl
sps_case A above NoBase tail = inr refl
sps_case A above LayerOrder tail = inr refl
sps_case A above OrphanSlice tail = inr refl
sps_case A above SliceDiffers tail = inr refl
sps_case A above AddressOrder tail = inr refl
sps_case A above TidDiffers tail = inr refl
sps_case A above NoIrap tail = inr refl
sps_case A above SpsChanged tail = inr refl
sps_case A above FormatDiffers tail = inr refl
sps_case A above PocRange tail = inr refl
sps_case A above PocMismatch tail = inr refl
sps_case A above IrapRefers tail = inr refl
sps_case A above TooManyRefs tail = inr refl
sps_case A above MissingRef tail = inr refl
sps_case A above MissingInterLayer tail = inr refl
sps_case A above ListEntry tail = inr refl
sps_case A above NoRefs tail = inr refl
sps_case A above Collocated tail = inr refl
sps_case A above (Reorder set) tail = inr refl
sps_case A above NoPicture tail = inr refl
sps_case A above VpsMidCvs tail = inr refl
sps_case A above Truncated tail = inr refl
sps_case A above InnerCode tail = inr refl
sps_case A above LastZero tail = inr refl

-- ---- where the rules are those that are tried
pub vps_cut : (A : Type 0) (rule : Rule) (tail : List Case) → is_of vps_rules (rule_number rule) ≡ true → least (table_cases {A = A} VpsSyntax vps_rules (Err (breaks (rule_number rule))) ++ tail) ≡ Some rule
vps_cut A rule tail tried = elim (vps_case A rule tail) [ inl is ↦ is | inr not_tried ↦ absurd (cc) ]

pub pps_cut : (A : Type 0) (rule : Rule) (tail : List Case) → is_of pps_rules (rule_number rule) ≡ true → least (table_cases {A = A} PpsSyntax pps_rules (Err (breaks (rule_number rule))) ++ tail) ≡ Some rule
pps_cut A rule tail tried = elim (pps_case A rule tail) [ inl is ↦ is | inr not_tried ↦ absurd (cc) ]

pub sps_cut : (A : Type 0) (above : Bool) (rule : Rule) (tail : List Case) → is_of (SpsLimit ∷ sps_rules) (rule_number rule) ≡ true →
    least (sps_cases {A = A} above (Err (breaks (rule_number rule))) tail) ≡ Some (cond (above && nat_eq (rule_number rule) (rule_number SpsLimit)) SpsTid rule)
sps_cut A above rule tail tried = elim (sps_case A above rule tail) [ inl is ↦ is | inr not_tried ↦ absurd (cc) ]
