-- A valid sequence parameter set fits.
use Rattle.std.proofs.Common.{◌≡◌, ℕ, ◌+◌, ◌<◌, ◌≤◌, ◌^◌, Bool, false, List, [], ◌∷◌, ◌++◌, length, Option, Some, None, refl, ap, sym, ◌∙◌, subst, zero-add, arith}
use Rattle.std.specs.Prelude.{All}
use Rattle.std.proofs.lemmas.Bool.{ltb-false}
use Rattle.std.proofs.lemmas.List.Elements.{All-cons, All-nil, All-same}
use Rattle.mv_syntax.specs.Table.{EachValid, Valid, ue, refused, when}
use Rattle.mv_syntax.specs.Loops.{columns, each, items_after, unzipped, zipped}
use Rattle.mv_syntax.specs.Words.{or_zero, over}
use Rattle.mv_rules.specs.Rule.{rule_number}
use Rattle.mv_rules.specs.declared.rule.Rule.{Rule}
use Rattle.mv_short_sets.specs.Deltas.{deltas_of_each}
use Rattle.mv_short_sets.specs.ShortSetValue.{ShortSetValue}
use Rattle.mv_short_sets.specs.ShortSet.{ValidSets, st_ref_pic_set}
use Rattle.mv_sps.specs.Blocks.{blocks}
use Rattle.mv_sps.specs.Coding.{coding}
use Rattle.mv_sps.specs.Pictures.{pictures}
use Rattle.mv_sps.specs.References.{candidate, candidates, references, short_set, short_sets}
use Rattle.mv_sps.specs.Sps.{SpsValue, behind_opening, sps_fields}
use Rattle.mv_sps.specs.Tools.{tools}
use Rattle.mv_slice.specs.Context.{IsFlag}
use Rattle.mv_contexts.specs.SpsFits.{SpsFits}

flag : (n : ℕ) → n < 2 ^ 1 → IsFlag n
flag n h = omega (arith, h)

within : (n v : ℕ) → over n v ≡ false → v ≤ n
within n v h = ltb-false n v h

-- a loop whose items are valid by one test, where another follows
each_follows : {A : Type 0} (one other : List A → A → Type 0) → ((before : List A) (a : A) → one before a → other before a) → (before all : List A) → EachValid one before all → EachValid other before all
each_follows one other h before [] valid = valid
each_follows one other h before (a ∷ all) valid = (h before a valid.0, each_follows one other h (before ++ a ∷ []) all valid.1)

sets-valid : (num : ℕ) (sets : List ShortSetValue) → Valid (short_sets num) sets → (length sets ≡ num) × ValidSets num sets
unfolding short_sets items_after short_set
sets-valid num sets h = (
  h.0,
  each_follows (λ before s. Valid (st_ref_pic_set (0 + length before) num (deltas_of_each before)) s) (λ before s. Valid (st_ref_pic_set (length before) num (deltas_of_each before)) s)
      (λ before s valid. subst (λ i. Valid (st_ref_pic_set i num (deltas_of_each before)) s) (zero-add (length before)) valid) [] sets h.1,
)

first-length : (both : List (ℕ × ℕ)) → length (unzipped both).0 ≡ length both
first-length [] = refl
first-length (a ∷ both) = let rest : length (unzipped both).0 ≡ length both = first-length both in omega (arith, rest)

second-length : (both : List (ℕ × ℕ)) → length (unzipped both).1 ≡ length both
second-length [] = refl
second-length (a ∷ both) = let rest : length (unzipped both).1 ≡ length both = second-length both in omega (arith, rest)

module _ (bits : ℕ) where
  abbrev IsLsb : ℕ → Type 0
  IsLsb lsb = lsb < 2 ^ bits

  abbrev IsCandidate : List (ℕ × ℕ) → ℕ × ℕ → Type 0
  IsCandidate before a = (a.0 < 2 ^ bits) × (a.1 < 2 ^ 1)

  firsts : (before both : List (ℕ × ℕ)) → EachValid IsCandidate before both → All IsLsb (unzipped both).0
  firsts before [] h = All-nil IsLsb
  firsts before (a ∷ both) h = All-cons IsLsb a.0 (unzipped both).0 h.0.0 (firsts (before ++ a ∷ []) both h.1)

  seconds : (before both : List (ℕ × ℕ)) → EachValid IsCandidate before both → All IsFlag (unzipped both).1
  seconds before [] h = All-nil IsFlag
  seconds before (a ∷ both) h = All-cons IsFlag a.1 (unzipped both).1 (flag a.1 h.0.1) (seconds (before ++ a ∷ []) both h.1)

  record Candidates (n : ℕ) (lsbs used : List ℕ) : Type 0 where
    all_lsbs : length lsbs ≡ n
    within : All IsLsb lsbs
    all_used : length used ≡ n
    flags : All IsFlag used

  candidates-valid : (n : ℕ) (lsbs used : List ℕ) → Valid (candidates bits n) (lsbs, used) → Candidates n lsbs used
  unfolding candidates columns each candidate
  candidates-valid n lsbs used h =
      let both : List (ℕ × ℕ) = zipped (lsbs, used) in
      let one : (unzipped both).0 ≡ lsbs = ap (λ l. l.0) h.1 in
      let two : (unzipped both).1 ≡ used = ap (λ l. l.1) h.1 in
      record {
        all_lsbs = sym (ap length one) ∙ first-length both ∙ h.0.0;
        within = All-same IsLsb lsbs (unzipped both).0 (sym one) (firsts [] both h.0.1);
        all_used = sym (ap length two) ∙ second-length both ∙ h.0.0;
        flags = All-same IsFlag used (unzipped both).1 (sym two) (seconds [] both h.0.1);
      }

coded_within : (n r : ℕ) (c : Bool) (o : Option ℕ) → Valid (when c (refused r (over n) ue)) o → or_zero o ≤ n
coded_within n r c None h = omega arith
coded_within n r c (Some v) h = within n v h.1.1

pub sps-fits : (layer subs : ℕ) (v : SpsValue) → Valid (sps_fields layer subs) v → SpsFits v
unfolding sps_fields behind_opening pictures coding blocks tools references
sps-fits layer subs v h =
    let p = h.0.1.0.0 in
    let c = h.0.1.1.0.0 in
    let r = c.1.1.1.0.0 in
    let sets = sets-valid v.coding.references.num_short_term_ref_pic_sets v.coding.references.st_ref_pic_set r.1.0 in
    let long = candidates-valid (v.pictures.log2_max_pic_order_cnt_lsb_minus4 + 4) (or_zero v.coding.references.num_long_term_ref_pics_sps) v.coding.references.lt_ref_pic_poc_lsb_sps v.coding.references.used_by_curr_pic_lt_sps_flag r.1.1.1.1 in
    record {
      few_lsb_bits = within 12 v.pictures.log2_max_pic_order_cnt_lsb_minus4 p.1.1.0.1;
      small_blocks = within 3 (v.coding.blocks.log2_min_luma_coding_block_size_minus3 + v.coding.blocks.log2_diff_max_min_luma_coding_block_size) c.0.0.1.0.1;
      few_short_sets = within 64 v.coding.references.num_short_term_ref_pic_sets r.0.1;
      all_short_sets = sets.0;
      valid_short_sets = sets.1;
      few_long_terms = coded_within 32 (rule_number Rule.SpsLimit) _ v.coding.references.num_long_term_ref_pics_sps r.1.1.1.0;
      all_lsbs = long.all_lsbs;
      lsbs = long.within;
      all_used = long.all_used;
      used = long.flags;
      long_term_ref_pics_present_flag = flag v.coding.references.long_term_ref_pics_present_flag r.1.1.0;
      sps_temporal_mvp_enabled_flag = flag v.coding.sps_temporal_mvp_enabled_flag c.1.1.1.1.0;
      sample_adaptive_offset_enabled_flag = flag v.coding.tools.sample_adaptive_offset_enabled_flag c.1.1.0.0.1.0;
    }
