-- The long-term reference pictures of a slice segment header (7.3.6.1, 7.4.7.1). Over 16 from the sequence parameter set, over
-- 16 coded here, and an index past the candidates break the syntax rule, 52 (this project's profile).
use Rattle.std.specs.Prelude.{ℕ, ◌+◌, not, ◌&&◌, List, Option, nat_lt, refl}
use Rattle.mv_syntax.specs.Table.{Table, ◌>>=◌, u, ue, named, when, shaped}
use Rattle.mv_syntax.specs.Words.{◌▸◌, ◌>>◌, ◌!◌∶◌, at_least, over, is_set, or_zero}
use Rattle.mv_syntax.specs.Loops.{items}
use Rattle.mv_rules.specs.declared.rule.Rule.TheVariants.{SliceSyntax}
use Rattle.mv_slice.specs.declared.long_terms.LongTerm.{LongTerm}
use Rattle.mv_slice.specs.Context.{SliceContextValue}
use Rattle.mv_fields.specs.Widths.{clog2}

-- the fields in coded order, those of the loop as one entry a turn
pub record LongTermsValue : Type 0 where
  pub num_long_term_sps : Option ℕ
  pub num_long_term_pics : ℕ
  pub entries : List LongTerm

-- entry i: one of the candidates of the sequence parameter set for the first num_long_term_sps, and else coded here
unfoldable pub long_term : SliceContextValue → ℕ → ℕ → Table LongTerm
long_term ctx num_long_term_sps i = shaped
    (λ (lt_idx_sps, (poc_lsb_lt, (used_by_curr_pic_lt_flag, (delta_poc_msb_present_flag, delta_poc_msb_cycle_lt)))). record {
      lt_idx_sps = lt_idx_sps;
      poc_lsb_lt = poc_lsb_lt;
      used_by_curr_pic_lt_flag = used_by_curr_pic_lt_flag;
      delta_poc_msb_present_flag = delta_poc_msb_present_flag;
      delta_poc_msb_cycle_lt = delta_poc_msb_cycle_lt;
    })
    (λ v.
    v.lt_idx_sps
    ▸ v.poc_lsb_lt
    ▸ v.used_by_curr_pic_lt_flag
    ▸ v.delta_poc_msb_present_flag
    ▸ v.delta_poc_msb_cycle_lt)
    (λ _. refl)
    do
      named "lt_idx_sps" (when (nat_lt i num_long_term_sps && nat_lt 1 ctx.num_long_term_ref_pics_sps)
          (u (clog2 ctx.num_long_term_ref_pics_sps) ! SliceSyntax ∶ at_least ctx.num_long_term_ref_pics_sps))
      named "poc_lsb_lt" (when (not (nat_lt i num_long_term_sps)) (u ctx.lsb_bits))
      named "used_by_curr_pic_lt_flag" (when (not (nat_lt i num_long_term_sps)) (u 1))
      delta_poc_msb_present_flag ← named "delta_poc_msb_present_flag" (u 1)
      named "delta_poc_msb_cycle_lt" (when (is_set delta_poc_msb_present_flag) ue)

-- for i = 0 to num_long_term_sps + num_long_term_pics - 1
unfoldable pub entries : SliceContextValue → ℕ → ℕ → Table (List LongTerm)
entries ctx num_long_term_sps n = items 0 n (long_term ctx num_long_term_sps)

unfoldable pub long_terms : SliceContextValue → Table LongTermsValue
long_terms ctx = shaped
    (λ (num_long_term_sps, (num_long_term_pics, entries)). record {
      num_long_term_sps = num_long_term_sps;
      num_long_term_pics = num_long_term_pics;
      entries = entries;
    })
    (λ v.
    v.num_long_term_sps
    ▸ v.num_long_term_pics
    ▸ v.entries)
    (λ _. refl)
    do
      num_long_term_sps ← named "num_long_term_sps" (when (nat_lt 0 ctx.num_long_term_ref_pics_sps) (ue ! SliceSyntax ∶ over 16))
      num_long_term_pics ← named "num_long_term_pics" (ue ! SliceSyntax ∶ over 16)
      entries ctx (or_zero num_long_term_sps) (or_zero num_long_term_sps + num_long_term_pics)
