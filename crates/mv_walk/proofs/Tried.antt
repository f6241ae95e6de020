-- Which rule the first segment of a picture breaks, by the parts in which they are tried.
use Rattle.std.proofs.Common.{◌≡◌, Bool, true, false, cond, not, ◌&&◌, List, [], ◌∷◌, ◌++◌, Option, None, Some, refl, ap, ◌∙◌}
use Rattle.std.specs.Prelude.{drop, nat_eq, Result, Ok, Err}
use Rattle.std.specs.Option.{option_or}
use Rattle.mv_rules.specs.declared.rule.Rule.{Rule}
use Rattle.mv_units.specs.declared.head.UnitHead.{UnitHead}
use Rattle.mv_pictures.specs.AccessUnits.{has_changed_vps}
use Rattle.mv_pictures.specs.Facts.{Fact}
use Rattle.mv_pictures.specs.History.{judged}
use Rattle.mv_pictures.specs.Judged.{Judged, is_base, is_picture, layer}
use Rattle.mv_pictures.specs.Look.{look}
use Rattle.mv_pictures.specs.PictureRules.{no_irap, vps_mid_cvs}
use Rattle.mv_pictures.specs.Rules.{Case, case, output_cases}
use Rattle.mv_pictures.specs.Starts.{is_decoded, is_sequence_start, is_start, starts_layer}
use Rattle.mv_tried.specs.Decoded.{decoded_cases}
use Rattle.mv_tried.specs.Finer.{placed_in}
use Rattle.mv_tried.specs.Tried.{first_of, mid_cases}
use Rattle.mv_tried.proofs.Cases.{first_append, first_next, first_nothing, skip}
use Rattle.mv_walk_sets.specs.InForce.{VpsInForceValue}
use Rattle.mv_walk_laws.specs.Rest.{picture_rule}
use Rattle.mv_walk.specs.Firsts.{IsFirst, decided_rule, mid_rule, taken_rule, unchanged}
use Rattle.mv_walk.specs.declared.ending.Stop.{Stop}
use Rattle.mv_walk.specs.declared.first.FirstSegment.{FirstSegment}

-- ---- Behind NoIrap

abbrev decided_cases : List Judged → Fact → List Case
decided_cases past p = drop 1 (decoded_cases (look past p) p) ++ output_cases past (judged past p)

abbrev last : List Judged → Fact → List Case
last past p = mid_cases (placed_in past) (look past p) p

pub taken-decoded : (past : List Judged) (p : Fact) → is_decoded (look past p) p ≡ true → taken_rule past p ≡ option_or (decided_rule past p) (mid_rule past p)
taken-decoded past p decoded = ap (λ b. first_of (cond b (decided_cases past p) [] ++ last past p)) decoded ∙ first_append (decided_cases past p) (last past p)

pub taken-skipped : (past : List Judged) (p : Fact) → is_decoded (look past p) p ≡ false → taken_rule past p ≡ mid_rule past p
taken-skipped past p skipped = ap (λ b. first_of (cond b (decided_cases past p) [] ++ last past p)) skipped

-- a start or another picture that isn't refused by NoIrap
no_irap_case : List Judged → Fact → Case
no_irap_case past p = case Rule.NoIrap (no_irap (look past p) p)

picture-by : (past : List Judged) (p : Fact) (b : Bool) → is_decoded (look past p) p ≡ b → picture_rule past p ≡ first_of (no_irap_case past p ∷ (cond b (decided_cases past p) [] ++ last past p))
unfolding decoded_cases no_irap_case
picture-by past p true e = ap (λ b. first_of (cond b (decoded_cases (look past p) p ++ output_cases past (judged past p)) (case Rule.NoIrap (no_irap (look past p) p) ∷ []) ++ last past p)) e
picture-by past p false e = ap (λ b. first_of (cond b (decoded_cases (look past p) p ++ output_cases past (judged past p)) (case Rule.NoIrap (no_irap (look past p) p) ∷ []) ++ last past p)) e

pub picture-taken : (past : List Judged) (p : Fact) → no_irap (look past p) p ≡ false → picture_rule past p ≡ taken_rule past p
unfolding no_irap_case
picture-taken past p none = picture-by past p (is_decoded (look past p) p) refl ∙ skip (no_irap_case past p) (cond (is_decoded (look past p) p) (decided_cases past p) [] ++ last past p) none

pub picture-refused : (past : List Judged) (p : Fact) → no_irap (look past p) p ≡ true → picture_rule past p ≡ Some Rule.NoIrap
unfolding no_irap_case
picture-refused past p bad =
    picture-by past p (is_decoded (look past p) p) refl ∙ first_next (no_irap_case past p) (cond (is_decoded (look past p) p) (decided_cases past p) [] ++ last past p)
    ∙ ap (λ b. cond b (Some Rule.NoIrap) (first_of (cond (is_decoded (look past p) p) (decided_cases past p) [] ++ last past p))) bad

-- ---- VpsMidCvs

mid-is : (past : List Judged) (p : Fact) → mid_rule past p ≡ cond (vps_mid_cvs (placed_in past) (look past p) p) (Some Rule.VpsMidCvs) None
unfolding mid_cases
mid-is past p =
    first_next (case Rule.VpsMidCvs (vps_mid_cvs (placed_in past) (look past p) p)) []
    ∙ ap (λ (o : Option Rule). cond (vps_mid_cvs (placed_in past) (look past p) p) (Some Rule.VpsMidCvs) o) first_nothing

-- of a picture that starts no sequence
pub mid-goes : (vps : VpsInForceValue) (s : FirstSegment) (past : List Judged) (p : Fact) → IsFirst vps s past p → is_sequence_start (look past p) p ≡ false →
    mid_rule past p ≡ cond (nat_eq s.head.layer 0 && s.behind_change) (Some Rule.VpsMidCvs) None
unfolding vps_mid_cvs
mid-goes vps s past p f goes =
    mid-is past p
    ∙ ap (λ b. cond ((is_base p && not b) && has_changed_vps (placed_in past) p.placed) (Some Rule.VpsMidCvs) None) goes
    ∙ ap (λ b. cond (((nat_eq (layer p) 0 && b) && true) && has_changed_vps (placed_in past) p.placed) (Some Rule.VpsMidCvs) None) f.picture
    ∙ ap (λ (h : UnitHead). cond (((nat_eq h.layer 0 && true) && true) && has_changed_vps (placed_in past) p.placed) (Some Rule.VpsMidCvs) None) f.head_is
    ∙ ap (λ b. cond (((nat_eq s.head.layer 0 && true) && true) && b) (Some Rule.VpsMidCvs) None) f.changed_is
    ∙ same (nat_eq s.head.layer 0)
  where
    same : (z : Bool) → cond (((z && true) && true) && s.behind_change) (Some Rule.VpsMidCvs) None ≡ cond (z && s.behind_change) (Some Rule.VpsMidCvs) None
    same true = refl
    same false = refl

off : (b c : Bool) → cond ((b && false) && c) (Some Rule.VpsMidCvs) None ≡ None
off true c = refl
off false c = refl

-- a start of its layer breaks it never
pub mid-started : (past : List Judged) (p : Fact) → is_start (look past p) p ≡ true → mid_rule past p ≡ None
unfolding vps_mid_cvs is_start
mid-started past p start = mid-is past p ∙ go (nat_eq (layer p) 0) refl start
  where
    go : (z : Bool) → nat_eq (layer p) 0 ≡ z → cond z (is_sequence_start (look past p) p) (is_picture p && starts_layer (look past p) p) ≡ true →
        cond (((nat_eq (layer p) 0 && is_picture p) && not (is_sequence_start (look past p) p)) && has_changed_vps (placed_in past) p.placed) (Some Rule.VpsMidCvs) None ≡ None
    go true z starts =
        ap (λ b. cond (((nat_eq (layer p) 0 && is_picture p) && not b) && has_changed_vps (placed_in past) p.placed) (Some Rule.VpsMidCvs) None) starts
        ∙ off (nat_eq (layer p) 0 && is_picture p) (has_changed_vps (placed_in past) p.placed)
    go false z above = ap (λ b. cond (((b && is_picture p) && not (is_sequence_start (look past p) p)) && has_changed_vps (placed_in past) p.placed) (Some Rule.VpsMidCvs) None) z

-- ---- A picture that is no start, as it is answered

pub unchanged-ok : {T : Type 0} (s : FirstSegment) (taken told : T) → Ok told ≡ unchanged s taken → (told ≡ taken) × ((nat_eq s.head.layer 0 && s.behind_change) ≡ false)
unchanged-ok {T} s taken told h = go (nat_eq s.head.layer 0 && s.behind_change) refl h
  where
    go : (b : Bool) → (nat_eq s.head.layer 0 && s.behind_change) ≡ b → Ok told ≡ cond b (Err (Stop.Breaks Rule.VpsMidCvs)) (Ok taken) → (told ≡ taken) × ((nat_eq s.head.layer 0 && s.behind_change) ≡ false)
    go true e wrong = absurd (let w : Path (Result T Stop) (Ok told) (Err (Stop.Breaks Rule.VpsMidCvs)) = wrong in cc)
    go false e same = ((let w : Path (Result T Stop) (Ok told) (Ok taken) = same in cc), e)

pub unchanged-err : {T : Type 0} (s : FirstSegment) (taken : T) (stop : Stop) → Err stop ≡ unchanged s taken → (stop ≡ Stop.Breaks Rule.VpsMidCvs) × ((nat_eq s.head.layer 0 && s.behind_change) ≡ true)
unchanged-err {T} s taken stop h = go (nat_eq s.head.layer 0 && s.behind_change) refl h
  where
    go : (b : Bool) → (nat_eq s.head.layer 0 && s.behind_change) ≡ b → Err stop ≡ cond b (Err (Stop.Breaks Rule.VpsMidCvs)) (Ok taken) → (stop ≡ Stop.Breaks Rule.VpsMidCvs) × ((nat_eq s.head.layer 0 && s.behind_change) ≡ true)
    go true e same = ((let w : Path (Result T Stop) (Err stop) (Err (Stop.Breaks Rule.VpsMidCvs)) = same in cc), e)
    go false e wrong = absurd (let w : Path (Result T Stop) (Err stop) (Ok taken) = wrong in cc)
