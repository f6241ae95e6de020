-- Which cases of pictures are left of a unit, by whether it is a base picture, is decoded, and is a segment of a decoded picture.
use Rattle.std.proofs.Common.{◌≡◌, ℕ, Bool, true, false, cond, not, ◌&&◌, ◌||◌, List, [], ◌∷◌, length, None, refl, ap, ◌∙◌}
use Rattle.std.specs.Prelude.{nat_eq, nat_lt, option_map}
use Rattle.std.specs.List.{list_any, range_with_len}
use Rattle.mv_syntax.specs.Words.{◌otherwise◌}
use Rattle.mv_slice.specs.Numbers.{is_irap}
use Rattle.mv_rules.specs.declared.rule.Rule.{Rule}
use Rattle.mv_pictures.specs.AccessUnits.{Placed, has_changed_vps}
use Rattle.mv_history.specs.History.{from}
use Rattle.mv_pictures.specs.Facts.{Fact}
use Rattle.mv_pictures.specs.SliceFields.{Entry, entries, is_full, is_put_out, num_pic_total_curr, predicts}
use Rattle.mv_pictures.specs.Layers.{sets_at}
use Rattle.mv_layers.specs.OutputLayers.{is_among}
use Rattle.mv_pictures.specs.Judged.{Judged, is_base, is_picture, is_slice, kind, layer}
use Rattle.mv_pictures.specs.Lists.{picture_before}
use Rattle.mv_pictures.specs.Look.{Look, asked, look, sequence}
use Rattle.mv_pictures.specs.Output.{is_late, is_output, outputs, reorder, units_ahead}
use Rattle.mv_pictures.specs.PictureRules.{collocated, decoded_before, format_differs, has_base_count, has_low_bits, irap_refers, is_of_decoded, list_entry, missing_inter_layer, missing_ref, no_irap, no_refs, other_sps, poc_mismatch, poc_range, sps_changed, too_many_refs, vps_mid_cvs}
use Rattle.mv_pictures.specs.Rules.{Case, case, output_cases, picture_cases}
use Rattle.mv_pictures.specs.Starts.{is_anew, is_decoded, is_sequence_start, is_skipped, is_start}
use Rattle.mv_tried.specs.Decoded.{decoded_cases, decoded_list_cases, has_past_entry, has_too_many_refs, is_collocated_past_list, is_out_of_range, lacks_inter_layer, lacks_ref, refers_to_other_format}
use Rattle.mv_tried.specs.Tried.{first_of, list_cases, mid_cases}
use Rattle.mv_tried.proofs.Cases.{never, none_of, off}

-- ---- What there is of a unit that is no first segment, and of one that is no slice segment

pub no_base_picture : (p : Fact) → is_picture p ≡ false → is_base p ≡ false
no_base_picture p h = never (nat_eq (layer p) 0) (is_picture p) h

pub not_decoded : (l : Look) (p : Fact) → is_picture p ≡ false → is_decoded l p ≡ false
unfolding is_decoded
not_decoded l p h = off (is_picture p) (not (is_skipped l p)) h

pub of_decoded-first : (l : Look) (p : Fact) → is_picture p ≡ true → is_of_decoded l p ≡ (is_full p && is_decoded l p)
unfolding is_of_decoded
of_decoded-first l p h = ap (λ b. is_full p && cond b (is_decoded l p) (option_map (λ (d : Judged). d.decoded) (picture_before l p) otherwise false)) h

pub of_decoded-later : (l : Look) (p : Fact) → is_picture p ≡ false → is_of_decoded l p ≡ (is_full p && (option_map (λ (d : Judged). d.decoded) (picture_before l p) otherwise false))
unfolding is_of_decoded
of_decoded-later l p h = ap (λ b. is_full p && cond b (is_decoded l p) (option_map (λ (d : Judged). d.decoded) (picture_before l p) otherwise false)) h

full : (b : Bool) → (b && true) ≡ b
full true = refl
full false = refl

pub of_decoded-full : (l : Look) (p : Fact) → is_picture p ≡ true → is_decoded l p ≡ true → is_of_decoded l p ≡ is_full p
of_decoded-full l p picture here = of_decoded-first l p picture ∙ ap (λ b. is_full p && b) here ∙ full (is_full p)

pub of_decoded-later-full : (l : Look) (p : Fact) → is_picture p ≡ false → (option_map (λ (d : Judged). d.decoded) (picture_before l p) otherwise false) ≡ true → is_of_decoded l p ≡ is_full p
of_decoded-later-full l p later here = of_decoded-later l p later ∙ ap (λ b. is_full p && b) here ∙ full (is_full p)

-- a unit that is no slice segment asks nothing
pub of_decoded-other : (past : List Judged) (p : Fact) → is_slice p ≡ false → is_picture p ≡ false → is_of_decoded (look (asked past p) p) p ≡ false
unfolding asked look sequence from
of_decoded-other past p h none =
    ap (λ b. is_of_decoded (look (cond b past []) p) p) h
    ∙ of_decoded-later (look [] p) p none
    ∙ never (is_full p) false refl

-- ---- The cases of pictures

-- what they are of a base picture or not, of a decoded one or not, and of a segment of a decoded one or not
picture_list : Bool → Bool → Bool → Look → Fact → List Case
picture_list base here of l p =
    case Rule.NoIrap (base && is_anew l && not (is_irap (kind p)))
    ∷ case Rule.SpsChanged (here && not (is_start l p) && (option_map (other_sps p) (decoded_before l) otherwise false))
    ∷ case Rule.FormatDiffers (here && refers_to_other_format l p)
    ∷ case Rule.PocRange (here && is_out_of_range l p)
    ∷ case Rule.PocMismatch (here && not (nat_eq (layer p) 0) && (not (has_base_count l p) || (is_start l p && not (has_low_bits l p))))
    ∷ case Rule.IrapRefers (here && is_irap (kind p) && list_any (λ (e : Entry). e.used) (entries p))
    ∷ case Rule.TooManyRefs (here && has_too_many_refs p)
    ∷ case Rule.MissingRef (here && lacks_ref l p)
    ∷ case Rule.MissingInterLayer (here && lacks_inter_layer l p)
    ∷ case Rule.ListEntry (of && has_past_entry p)
    ∷ case Rule.NoRefs (of && predicts p && nat_eq (num_pic_total_curr p) 0)
    ∷ case Rule.Collocated (of && is_collocated_past_list p)
    ∷ []

picture_cases-are : (l : Look) (p : Fact) → picture_cases l p ≡ picture_list (is_base p) (is_decoded l p) (is_of_decoded l p) l p
unfolding picture_cases picture_list no_irap sps_changed format_differs poc_range poc_mismatch irap_refers too_many_refs missing_ref missing_inter_layer list_entry no_refs collocated
picture_cases-are l p = refl

-- of a later segment those of lists are left
pub pictures-later : (l : Look) (p : Fact) → is_picture p ≡ false → first_of (picture_cases l p) ≡ first_of (list_cases l p)
pictures-later l p h =
    ap first_of (picture_cases-are l p)
    ∙ ap (λ b. first_of (picture_list b (is_decoded l p) (is_of_decoded l p) l p)) (no_base_picture p h)
    ∙ ap (λ b. first_of (picture_list false b (is_of_decoded l p) l p)) (not_decoded l p h)
    ∙ left
  where
    left : first_of (picture_list false false (is_of_decoded l p) l p) ≡ first_of (list_cases l p)
    left = unfold picture_list list_cases first_of list_entry no_refs collocated in refl

-- of a unit that is no slice segment none
pub pictures-other : (past : List Judged) (p : Fact) → is_slice p ≡ false → is_picture p ≡ false → first_of (picture_cases (look (asked past p) p) p) ≡ None
pictures-other past p h none =
    let l : Look = look (asked past p) p in
    ap first_of (picture_cases-are l p)
    ∙ ap (λ b. first_of (picture_list b (is_decoded l p) (is_of_decoded l p) l p)) (no_base_picture p none)
    ∙ ap (λ b. first_of (picture_list false b (is_of_decoded l p) l p)) (not_decoded l p none)
    ∙ ap (λ b. first_of (picture_list false false b l p)) (of_decoded-other past p h none)
    ∙ left l
  where
    left : (l : Look) → first_of (picture_list false false false l p) ≡ None
    left l = unfold picture_list first_of in refl

-- of a skipped picture the rule on the first picture of a sequence is left
pub pictures-skipped : (l : Look) (p : Fact) → is_picture p ≡ true → is_decoded l p ≡ false → first_of (picture_cases l p) ≡ first_of (case Rule.NoIrap (no_irap l p) ∷ [])
pictures-skipped l p picture skipped =
    ap first_of (picture_cases-are l p)
    ∙ ap (λ b. first_of (picture_list (is_base p) (is_decoded l p) b l p)) (of_decoded-first l p picture ∙ never (is_full p) (is_decoded l p) skipped)
    ∙ ap (λ b. first_of (picture_list (is_base p) b false l p)) skipped
    ∙ left
  where
    left : first_of (picture_list (is_base p) false false l p) ≡ first_of (case Rule.NoIrap (no_irap l p) ∷ [])
    left = unfold picture_list first_of no_irap in refl

-- of a decoded one what is left of each
pub pictures-decoded : (l : Look) (p : Fact) → is_picture p ≡ true → is_decoded l p ≡ true → first_of (picture_cases l p) ≡ first_of (decoded_cases l p)
pictures-decoded l p picture here =
    ap first_of (picture_cases-are l p)
    ∙ ap (λ b. first_of (picture_list (is_base p) (is_decoded l p) b l p)) (of_decoded-full l p picture here)
    ∙ ap (λ b. first_of (picture_list (is_base p) b (is_full p) l p)) here
    ∙ left
  where
    left : first_of (picture_list (is_base p) true (is_full p) l p) ≡ first_of (decoded_cases l p)
    left = unfold picture_list first_of decoded_cases decoded_list_cases no_irap in refl

-- ---- The cases of lists, of later segments

list_list : Bool → Fact → List Case
list_list of p = case Rule.ListEntry (of && has_past_entry p) ∷ case Rule.NoRefs (of && predicts p && nat_eq (num_pic_total_curr p) 0) ∷ case Rule.Collocated (of && is_collocated_past_list p) ∷ []

list_cases-are : (l : Look) (p : Fact) → list_cases l p ≡ list_list (is_of_decoded l p) p
unfolding list_cases list_list list_entry no_refs collocated
list_cases-are l p = refl

pub lists-skipped : (l : Look) (p : Fact) → is_picture p ≡ false → (option_map (λ (d : Judged). d.decoded) (picture_before l p) otherwise false) ≡ false → first_of (list_cases l p) ≡ None
lists-skipped l p later skipped =
    ap first_of (list_cases-are l p)
    ∙ ap (λ b. first_of (list_list b p)) (of_decoded-later l p later ∙ never (is_full p) (option_map (λ (d : Judged). d.decoded) (picture_before l p) otherwise false) skipped)
    ∙ left
  where
    left : first_of (list_list false p) ≡ None
    left = unfold list_list first_of in refl

pub lists-decoded : (l : Look) (p : Fact) → is_picture p ≡ false → (option_map (λ (d : Judged). d.decoded) (picture_before l p) otherwise false) ≡ true → first_of (list_cases l p) ≡ first_of (decoded_list_cases p)
lists-decoded l p later here =
    ap first_of (list_cases-are l p)
    ∙ ap (λ b. first_of (list_list b p)) (of_decoded-later-full l p later here)
    ∙ left
  where
    left : first_of (list_list (is_full p) p) ≡ first_of (decoded_list_cases p)
    left = unfold list_list first_of decoded_list_cases in refl

-- ---- The cases of output, and of a changed video parameter set

-- what isn't decoded is not late
not_late : (o : ℕ) (past : List Judged) (d : Judged) → d.decoded ≡ false → is_late o past d ≡ false
unfolding is_late is_output
not_late o past d h =
    ap (λ b. (b && is_among (outputs d.seq_vps o) (layer d.fact) && is_put_out d.fact) && (nat_lt (reorder o d) (length (units_ahead o past d)))) h

pub outputs-other : (past : List Judged) (d : Judged) → d.decoded ≡ false → first_of (output_cases past d) ≡ None
unfolding output_cases
outputs-other past d h = none_of Rule.Reorder (λ o. is_late o past d) (λ o. not_late o past d h) (range_with_len 0 (length (sets_at d.seq_vps)))

pub mid-other : (earlier : List Placed) (l : Look) (p : Fact) → is_picture p ≡ false → first_of (mid_cases earlier l p) ≡ None
unfolding mid_cases first_of vps_mid_cvs
mid-other earlier l p h =
    ap (λ b. first_of (case Rule.VpsMidCvs (b && not (is_sequence_start l p) && has_changed_vps earlier p.placed) ∷ [])) (no_base_picture p h)
