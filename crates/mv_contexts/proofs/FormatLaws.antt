-- The format that valid sets give is sized.
use Rattle.std.proofs.Common.{◌≡◌, ◌⊎◌, ℕ, zero, suc, ◌+◌, ◌<◌, ◌≤◌, nat_eq, nat_lt, Bool, true, false, ◌||◌, List, length, get_or, take, Option, Some, None, option_map, option_and_then, refl, sym, ap, ◌∙◌, subst, inl, inr, zero-add, arith}
use Rattle.std.specs.List.{slice_get}
use Rattle.std.proofs.lemmas.Bool.{ltb-false, true≢false}
use Rattle.std.proofs.lemmas.Option.{slice_get_cases}
use Rattle.mv_syntax.specs.Table.{Valid, when}
use Rattle.mv_syntax.specs.Words.{is_set}
use Rattle.mv_syntax.proofs.LoopLaws.{items-valid}
use Rattle.mv_common.specs.declared.format.Format.{Format}
use Rattle.mv_vpsext.specs.declared.rep_format.ChromaAndDepth.{ChromaAndDepth}
use Rattle.mv_vpsext.specs.declared.rep_format.RepFormat.{RepFormat}
use Rattle.mv_vpsext.specs.Args.{VpsArgsValue}
use Rattle.mv_vpsext.specs.Formats.{formats, no_side, rep_format, rep_formats}
use Rattle.mv_vpsext.specs.VpsExt.{VpsExtValue, vps_extension}
use Rattle.mv_vps.specs.Base.{args_of}
use Rattle.mv_vps.specs.Formats.{chroma_behind, format_at, format_with, rep_formats_of}
use Rattle.mv_vps.specs.Vps.{ValidVps, WholeVps}
use Rattle.mv_sps.specs.declared.picture_format.SpsPictureFormat.{SpsPictureFormat}
use Rattle.mv_sps.specs.Format.{picture_format}
use Rattle.mv_sps.specs.Pictures.{pictures}
use Rattle.mv_sps.specs.Sps.{SpsValue, behind_opening, sps_fields}
use Rattle.mv_pictures.specs.Contexts.{format_index, format_of, own_format}
use Rattle.mv_contexts.specs.Sets.{IsSized}
use Rattle.mv_contexts.proofs.VpsLaws.{extension_valid}

-- ---- one side
first_false : (a b : Bool) → (a || b) ≡ false → a ≡ false
first_false true b e = e
first_false false b e = refl

second_false : (a b : Bool) → (a || b) ≡ false → b ≡ false
second_false true b e = absurd (true≢false e)
second_false false b e = e

above_zero : (n : ℕ) → nat_eq n 0 ≡ false → 1 ≤ n
above_zero zero e = absurd (true≢false e)
above_zero (suc n) e = omega arith

some_side : (n : ℕ) → no_side n ≡ false → 1 ≤ n
some_side n e = above_zero n (first_false (nat_eq n 0) (nat_lt 16384 n) e)

few_side : (n : ℕ) → no_side n ≡ false → n ≤ 16384
few_side n e = ltb-false 16384 n (second_false (nat_eq n 0) (nat_lt 16384 n) e)

some_value : {A : Type 0} (x y : A) → Path (Option A) (Some x) (Some y) → x ≡ y
some_value x y e = cc

none_value : {A : Type 0} (y : A) → Path (Option A) None (Some y) → ⊥
none_value y e = cc

-- ---- a format of a video parameter set
rep_sized : (i : ℕ) (chroma : ChromaAndDepth) (f : RepFormat) → Valid (rep_format i) f → IsSized (format_with chroma f)
unfolding rep_format
rep_sized i chroma f h = record {
  some_width = some_side f.pic_width_vps_in_luma_samples h.0.0.1;
  few_width = few_side f.pic_width_vps_in_luma_samples h.0.0.1;
  some_height = some_side f.pic_height_vps_in_luma_samples h.0.1.0.1;
  few_height = few_side f.pic_height_vps_in_luma_samples h.0.1.0.1;
}

listed_sized : (n : ℕ) (all : List RepFormat) (k : ℕ) (format : Format) → Valid (rep_formats n) all → format_at all k ≡ Some format → IsSized format
unfolding rep_formats
listed_sized n all k format h e = go (slice_get_cases all k).1
  where
    go : ((x : RepFormat) × (k < length all) × (slice_get all k ≡ Some x) × (get_or all k x ≡ x)) ⊎ ((length all ≤ k) × (slice_get all k ≡ None)) → IsSized format
    go (inl there) =
        let valid : Valid (rep_format k) (get_or all k there.0) = items-valid rep_format 0 (n + 1) all k k there.0 h there.1 (sym (zero-add k)) in
        let same : format_with (chroma_behind (take (k + 1) all)) there.0 ≡ format
        = some_value (format_with (chroma_behind (take (k + 1) all)) there.0) format (sym (ap (option_map (format_with (chroma_behind (take (k + 1) all)))) there.2) ∙ e) in
        subst IsSized same (rep_sized k (chroma_behind (take (k + 1) all)) there.0 (subst (λ f. Valid (rep_format k) f) there.3 valid))
    go (inr past) = absurd (none_value format (sym (ap (option_map (format_with (chroma_behind (take (k + 1) all)))) past.1) ∙ e))

ext_sized : (present : Bool) (args : VpsArgsValue) (ext : Option VpsExtValue) (k : ℕ) (format : Format) → Valid (when present (vps_extension args)) ext → format_at (rep_formats_of ext) k ≡ Some format → IsSized format
unfolding vps_extension formats
ext_sized present args None zero format h e = absurd (none_value format e)
ext_sized present args None (suc k) format h e = absurd (none_value format e)
ext_sized present args (Some ext) k format h e = listed_sized ext.formats.vps_num_rep_formats_minus1 ext.formats.rep_formats k format h.1.0.1.1.1.1.0.0.1.0 e

indexed_sized : (v : WholeVps) (index : Option ℕ) (format : Format) → ValidVps v → option_and_then (format_at (rep_formats_of v.coded.0.extension)) index ≡ Some format → IsSized format
indexed_sized v None format h e = absurd (none_value format e)
indexed_sized v (Some k) format h e = ext_sized (is_set v.coded.0.base.vps_extension_flag) (args_of v.coded.0.base) v.coded.0.extension k format (extension_valid v.coded.0 h.payload.fields) e

-- ---- a format of a sequence parameter set, or else one of the video parameter set
own_or_other : (present : Bool) (own : Option SpsPictureFormat) (other : Option Format) (format : Format) → Valid (when present picture_format) own → (other ≡ Some format → IsSized format)
    → elim own [ Some f ↦ Some (own_format f) | None ↦ other ] ≡ Some format → IsSized format
unfolding picture_format
own_or_other present None other format h rest e = rest e
own_or_other present (Some f) other format h rest e =
    subst IsSized (some_value (own_format f) format e) (record {
      some_width = some_side f.pic_width_in_luma_samples h.1.0.1.1.0.1;
      few_width = few_side f.pic_width_in_luma_samples h.1.0.1.1.0.1;
      some_height = some_side f.pic_height_in_luma_samples h.1.0.1.1.1.0.1;
      few_height = few_side f.pic_height_in_luma_samples h.1.0.1.1.1.0.1;
    })

pictures_own : (layer subs : ℕ) (v : SpsValue) → Valid (sps_fields layer subs) v → (present : Bool) × Valid (when present picture_format) v.pictures.picture_format
unfolding sps_fields behind_opening pictures
pictures_own layer subs v h = (_, h.0.1.0.0.1.0)

pub format-sized : (v : WholeVps) (layer id subs : ℕ) (sps : SpsValue) (format : Format) → ValidVps v → Valid (sps_fields id subs) sps → format_of v layer sps ≡ Some format → IsSized format
unfolding format_of
format-sized v layer id subs sps format h valid e =
    let own = pictures_own id subs sps valid in
    own_or_other own.0 sps.pictures.picture_format (option_and_then (format_at (rep_formats_of v.coded.0.extension)) (format_index v layer sps)) format own.1
    (λ other. indexed_sized v (format_index v layer sps) format h other) e
