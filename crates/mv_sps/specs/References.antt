-- The reference pictures that a sequence parameter set names (7.3.2.2.1): the sets of short-term ones, and the candidates for
-- long-term ones. Over 64 sets and over 32 candidates break the limit rule (this project's profile).
use Rattle.std.specs.Prelude.{ℕ, List, Option, refl}
use Rattle.mv_syntax.specs.Table.{Table, ◌>>=◌, u, ue, named, when, shaped}
use Rattle.mv_syntax.specs.Words.{◌under◌, ◌▸◌, ◌>>◌, ◌!◌∶◌, over, is_set, or_zero}
use Rattle.mv_syntax.specs.Loops.{each, items_after, columns}
use Rattle.mv_rules.specs.declared.rule.Rule.TheVariants.{SpsLimit}
use Rattle.mv_short_sets.specs.ShortSetValue.{ShortSetValue}
use Rattle.mv_short_sets.specs.Deltas.{deltas_of_each}
use Rattle.mv_short_sets.specs.ShortSet.{st_ref_pic_set}

-- set i of num, behind the sets before it
unfoldable pub short_set : ℕ → ℕ → List ShortSetValue → Table ShortSetValue
short_set num i before = st_ref_pic_set i num (deltas_of_each before) under SpsLimit

-- for i = 0 to num-1
unfoldable pub short_sets : ℕ → Table (List ShortSetValue)
short_sets num = items_after 0 num (short_set num)

-- a candidate: the lsb_bits low bits of its picture order count, and whether it is used
unfoldable pub candidate : ℕ → Table (ℕ × ℕ)
candidate lsb_bits = do
  named "lt_ref_pic_poc_lsb_sps" (u lsb_bits)
  named "used_by_curr_pic_lt_sps_flag" (u 1)

-- for i = 0 to n-1
unfoldable pub candidates : ℕ → ℕ → Table (List ℕ × List ℕ)
candidates lsb_bits n = columns 0 n (each (candidate lsb_bits))

-- the fields in coded order; the lists are empty where no candidates are coded
pub record SpsReferencesValue : Type 0 where
  pub num_short_term_ref_pic_sets : ℕ
  pub st_ref_pic_set : List ShortSetValue
  pub long_term_ref_pics_present_flag : ℕ
  pub num_long_term_ref_pics_sps : Option ℕ
  pub lt_ref_pic_poc_lsb_sps : List ℕ
  pub used_by_curr_pic_lt_sps_flag : List ℕ

unfoldable pub references : ℕ → Table SpsReferencesValue
references lsb_bits = shaped
    (λ (num_short_term_ref_pic_sets, (st_ref_pic_set, (long_term_ref_pics_present_flag, (num_long_term_ref_pics_sps, (lt_ref_pic_poc_lsb_sps, used_by_curr_pic_lt_sps_flag))))). record {
      num_short_term_ref_pic_sets = num_short_term_ref_pic_sets;
      st_ref_pic_set = st_ref_pic_set;
      long_term_ref_pics_present_flag = long_term_ref_pics_present_flag;
      num_long_term_ref_pics_sps = num_long_term_ref_pics_sps;
      lt_ref_pic_poc_lsb_sps = lt_ref_pic_poc_lsb_sps;
      used_by_curr_pic_lt_sps_flag = used_by_curr_pic_lt_sps_flag;
    })
    (λ v.
    v.num_short_term_ref_pic_sets
    ▸ v.st_ref_pic_set
    ▸ v.long_term_ref_pics_present_flag
    ▸ v.num_long_term_ref_pics_sps
    ▸ (v.lt_ref_pic_poc_lsb_sps, v.used_by_curr_pic_lt_sps_flag))
    (λ _. refl)
    do
      num_short_term_ref_pic_sets ← named "num_short_term_ref_pic_sets" (ue ! SpsLimit ∶ over 64)
      short_sets num_short_term_ref_pic_sets
      long_term_ref_pics_present_flag ← named "long_term_ref_pics_present_flag" (u 1)
      num_long_term_ref_pics_sps ← named "num_long_term_ref_pics_sps" (when (is_set long_term_ref_pics_present_flag) (ue ! SpsLimit ∶ over 32))
      candidates lsb_bits (or_zero num_long_term_ref_pics_sps)
