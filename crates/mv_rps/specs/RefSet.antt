-- The reference picture set of a picture: its entries, and the rules on them (8.3.2; this project's profile).
use Rattle.std.specs.Prelude.{ℕ, zero, suc, ℤ, Bool, ◌&&◌, List, [], length, Option, Some, None, option_map, option_and_then, nat_lt, if◌then◌else◌}
use Rattle.std.specs.List.{list_any}
use Rattle.mv_syntax.specs.Words.{◌otherwise◌, is_set}
use Rattle.mv_rules.specs.declared.rule.Rule.{Rule}
use Rattle.mv_rules.specs.declared.rule.Rule.TheVariants.{IrapRefers, TooManyRefs}
use Rattle.mv_slice.specs.declared.slice.SliceHead.{SliceHead}
use Rattle.mv_slice.specs.declared.slice.SliceFull.{SliceFull}
use Rattle.mv_slice.specs.declared.long_terms.LongTerm.{LongTerm}
use Rattle.mv_slice.specs.Context.{SliceContextValue}
use Rattle.mv_slice.specs.LongTerms.{LongTermsValue}
use Rattle.mv_slice.specs.Derived.{is_long_used, long_lsb, cycle}
use Rattle.mv_slice.specs.Numbers.{is_irap}
use Rattle.mv_pictures.specs.SliceFields.{Aim, Entry, at_delta, at_lsb, at_cycle, coded_entries}
use Rattle.mv_rps.specs.declared.entries.CodedEntry.{CodedEntry}
use Rattle.mv_rps.specs.declared.entries.CodedAim.{CodedAim}
use Rattle.mv_rps.specs.declared.entries.CodedAim.TheVariants.{Delta, Lsb, Cycle}

-- the entries of a header: none of a dependent segment, or of an IDR picture
abbrev pub entries_of : SliceContextValue → SliceHead → List Entry
entries_of ctx head = option_map (coded_entries ctx) (option_and_then (λ (full : SliceFull). full.picture.references) head.full) otherwise []

-- the rule that refuses a set: IrapRefers where an IRAP picture uses an entry, and else TooManyRefs where there are too many
abbrev pub refused_by : Bool → Bool → Option Rule
refused_by irap_refers too_many = if irap_refers then Some IrapRefers else (if too_many then Some TooManyRefs else None)

-- the same by the type of the picture: there are too many where there are over 15
abbrev pub refusal : ℕ → List Entry → Option Rule
refusal kind entries = refused_by (is_irap kind && list_any (λ (e : Entry). e.used) entries) (nat_lt 15 (length entries))

-- a set: its entries, MaxPicOrderCntLsb, and PicOrderCntVal of its picture
pub record RefSetValue : Type 0 where
  pub entries : List Entry
  pub max_lsb : ℕ
  pub current : ℤ

-- ---- Entries as they are kept

abbrev pub aim_of : CodedAim → Aim
aim_of (Delta delta) = at_delta delta
aim_of (Lsb bits) = at_lsb bits
aim_of (Cycle bits cycle) = at_cycle bits cycle

abbrev pub entry_of : CodedEntry → Entry
entry_of e = record { aim = aim_of e.aim; used = e.used }

-- a long-term entry whose cycle is known
abbrev pub aimed : ℕ → ℕ → ℕ → Aim
aimed present bits c = if is_set present then at_cycle bits c else at_lsb bits

abbrev pub with_cycle : SliceContextValue → LongTerm → ℕ → Entry
with_cycle ctx e c = record { aim = aimed e.delta_poc_msb_present_flag (long_lsb ctx e) c; used = is_long_used ctx e }

-- the cycle of the entry before
abbrev pub cycle_before : LongTermsValue → ℕ → ℕ
cycle_before long_terms zero = 0
cycle_before long_terms (suc i) = cycle long_terms i
