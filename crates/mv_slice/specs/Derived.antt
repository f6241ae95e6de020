-- Numbers that slice segment headers derive (7.4.7.1, 8.3.2, F.7.4.7.1).
use Rattle.std.specs.Prelude.{ℕ, zero, suc, ◌+◌, Bool, List, [], length, get_or, map, Option, Some, None, nat_eq, if◌then◌else◌}
use Rattle.std.specs.List.{filter}
use Rattle.mv_syntax.specs.Words.{is_set, or_zero, ◌otherwise◌}
use Rattle.mv_short_sets.specs.ShortSetValue.{ShortSetValue}
use Rattle.mv_short_sets.specs.Deltas.{deltas, deltas_of_each}
use Rattle.mv_short_sets.specs.declared.delta.Delta.{Delta}
use Rattle.mv_slice.specs.declared.long_terms.LongTerm.{LongTerm}
use Rattle.mv_slice.specs.Context.{SliceContextValue}
use Rattle.mv_slice.specs.LongTerms.{LongTermsValue}
use Rattle.mv_slice.specs.declared.picture.SliceReferences.{SliceReferences}

-- the short-term set of a picture: the one that is coded, or else the one of the sequence parameter set that is named
unfoldable pub short_deltas : SliceContextValue → Option ShortSetValue → Option ℕ → List Delta
short_deltas ctx (Some coded) idx = deltas ctx.num_short_term_ref_pic_sets (deltas_of_each ctx.short_sets) coded
short_deltas ctx None idx = get_or (deltas_of_each ctx.short_sets) (or_zero idx) []

-- whether a long-term entry is used by the picture: by its own flag, or else by that of its candidate (UsedByCurrPicLt)
unfoldable pub is_long_used : SliceContextValue → LongTerm → Bool
is_long_used ctx entry = is_set (entry.used_by_curr_pic_lt_flag otherwise get_or ctx.used_by_curr_pic_lt_sps_flag (or_zero entry.lt_idx_sps) 0)

-- the low bits of a long-term entry's picture order count: its own, or else those of its candidate (PocLsbLt)
abbrev pub long_lsb : SliceContextValue → LongTerm → ℕ
long_lsb ctx entry = entry.poc_lsb_lt otherwise get_or ctx.lt_ref_pic_poc_lsb_sps (or_zero entry.lt_idx_sps) 0

-- DeltaPocMsbCycleLt[i] (7-52): the coded cycle of entry i, which counts 0 where it is absent, plus that of the entry before, but for
-- the first entry and for the first that is coded in the header
abbrev pub coded_cycle : LongTermsValue → ℕ → ℕ
coded_cycle long_terms i = or_zero (get_or (map (λ (entry : LongTerm). entry.delta_poc_msb_cycle_lt) long_terms.entries) i None)

abbrev pub cycle : LongTermsValue → ℕ → ℕ
cycle long_terms zero = coded_cycle long_terms 0
cycle long_terms (suc i) =
    coded_cycle long_terms (suc i) + (if nat_eq (suc i) (or_zero long_terms.num_long_term_sps) then 0 else cycle long_terms i)

-- the used entries of the reference set
unfoldable pub num_short_used : List Delta → ℕ
num_short_used some = length (filter (λ delta. delta.used) some)

unfoldable pub num_long_used : SliceContextValue → List LongTerm → ℕ
num_long_used ctx some = length (filter (is_long_used ctx) some)

abbrev pub long_entries : Option LongTermsValue → List LongTerm
long_entries (Some long_terms) = long_terms.entries
long_entries None = []

unfoldable pub num_used : SliceContextValue → Option SliceReferences → ℕ
num_used ctx None = 0
num_used ctx (Some references) =
    num_short_used (short_deltas ctx references.st_ref_pic_set references.short_term_ref_pic_set_idx)
    + num_long_used ctx (long_entries references.long_terms)
