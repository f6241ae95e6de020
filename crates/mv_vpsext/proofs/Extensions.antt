-- The parts of an extension read one behind the other: a fault in a part is one of the whole.
use Rattle.std.proofs.Common.{◌≡◌, ℕ, ◌≤◌, Bool, List, get_or, Option, Some, None, Result, Ok, Err, IsErrAnd, inl, inr, refl, subst, sym}
use Rattle.mv_syntax.specs.Bits.{Fault}
use Rattle.mv_syntax.specs.Cursor.{Cursor}
use Rattle.mv_syntax.specs.Table.{Table, Valid, Reads, Cut}
use Rattle.mv_syntax.specs.inner.Reader.{read}
use Rattle.mv_syntax.specs.inner.Filling.{FailsAs, Fills}
use Rattle.mv_syntax.proofs.TableLaws.{reads-read, cut-read, short-neither, table_answered}
use Rattle.mv_rules.specs.Rule.{rule_number}
use Rattle.mv_rules.specs.declared.rule.Rule.{Rule}
use Rattle.mv_fields.specs.declared.fault.Fault.{Fault as PartFault}
use Rattle.mv_fields.specs.declared.fault.Fault.TheVariants.{NoBits, Breaks, Memory}
use Rattle.mv_fields.specs.Faults.{means, refusal}
use Rattle.mv_fields.specs.Reading.{ReadsWhole}
use Rattle.mv_layers.specs.LayerInfos.{LayerInfoValue}
use Rattle.mv_layers.specs.OutputLayers.{OlsLayers}
use Rattle.mv_vpsext.specs.Args.{VpsArgsValue}
use Rattle.mv_vpslayers.specs.Dependencies.{VpsDependenciesValue}
use Rattle.mv_vpssets.specs.DpbSizes.{DpbSetValue}
use Rattle.mv_vpsext.specs.VpsExt.{VpsExtValue, dpb_sizes, vps_extension}
use Rattle.mv_vpsext.specs.Derived.{no_dpb, reorder_pics}
use Rattle.mv_vpsext.proofs.Reordering.{reorder_within}

-- a fault of a part is one of the whole, where the reader on lists fails in the whole as it does in the part
fails_in : {V W : Type 0} (fault : Option Fault) (part : Result V Fault) (whole : Result W Fault) → ((f : Fault) → part ≡ Err f → whole ≡ Err f) → FailsAs fault part → FailsAs fault whole
fails_in None part whole alike e = tt
fails_in (Some f) part whole alike e = alike f e

-- and a call hands it on
pub handed_on : {A V X E : Type 0} (view : X → A) (meaning : E → Option Fault) (old new : Cursor) (r : Result X E) (fault : E) (part : Result V Fault) (whole : Result (A × List Bool) Fault)
    → IsErrAnd r (λ e. e ≡ fault) → FailsAs (meaning fault) part → ((f : Fault) → part ≡ Err f → whole ≡ Err f) → Fills view meaning old new r whole
handed_on view meaning old new (Ok x) fault part whole h why alike = absurd h
handed_on view meaning old new (Err e) fault part whole h why alike = subst (λ f. FailsAs (meaning f) whole) (sym h) (fails_in (meaning fault) part whole alike why)

-- the refusal of a whole extension, for which no bits behind it are told
pub refused_whole : {A X : Type 0} (t : Table A) (view : X → A) (b rest : List Bool) (syntax : Rule) (fault : PartFault Rule) → FailsAs (means fault) (read t b)
    → ReadsWhole (λ x. Reads t b (view x) rest) (Cut t b) syntax (Err (refusal syntax fault))
refused_whole t view b rest syntax NoBits e =
    let neither = short-neither (read t b) (λ v. Reads t b v.0 v.1) (Cut t b) (table_answered t b) e in
    inr (refl, ((λ x. neither.0 ((view x.0, rest), x.1)), neither.1))
refused_whole t view b rest syntax (Breaks rule) e = inl (cut-read t b (rule_number rule) e)
refused_whole t view b rest syntax Memory e = tt

-- a reorder number is at most 15
pub reorder_of_valid : (args : VpsArgsValue) (v : VpsExtValue) → Valid (vps_extension args) v → (k : ℕ) → reorder_pics (get_or v.dpb_size k no_dpb) ≤ 15
unfolding vps_extension dpb_sizes
reorder_of_valid args v h k = reorder_within _ v.dpb_size h.0.1.1.1.1.1.1.0 k

pub reorder_of_read : (args : VpsArgsValue) (infos : List LayerInfoValue) (second : VpsDependenciesValue) (sets : List OlsLayers) (b : List Bool) (v : List DpbSetValue) (rest : List Bool)
    → read (dpb_sizes args infos second sets) b ≡ Ok (v, rest) → (k : ℕ) → reorder_pics (get_or v k no_dpb) ≤ 15
unfolding dpb_sizes
reorder_of_read args infos second sets b v rest e k = reorder_within _ v (reads-read (dpb_sizes args infos second sets) b v rest e).0 k
