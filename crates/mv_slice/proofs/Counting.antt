-- The used pictures of a reference set, counted.
use Rattle.std.proofs.Common.{◌≡◌, ℕ, suc, ◌+◌, ◌<◌, ◌≤◌, Bool, true, false, cond, List, [], ◌∷◌, length, get_or, take, Option, Some, None, refl, sym, ap, ap₂, subst, ◌∙◌, arith, length-append}
use Rattle.std.specs.Prelude.{if◌then◌else◌}
use Rattle.std.specs.List.{filter}
use Rattle.std.proofs.lemmas.List.{get_or_past, length-take-le}
use Rattle.std.proofs.lemmas.List.Elements.{filter-append}
use Rattle.std.proofs.lemmas.Bool.{ltb-false}
use Rattle.mv_syntax.specs.Table.{Valid, ue, when}
use Rattle.mv_syntax.specs.Words.{◌!◌∶◌, over, is_set, or_zero, coded_set}
use Rattle.mv_syntax.proofs.LoopLaws.{each-valid, items-length}
use Rattle.mv_rules.specs.declared.rule.Rule.TheVariants.{SliceSyntax}
use Rattle.mv_short_sets.specs.ShortSetValue.{ShortSetValue}
use Rattle.mv_short_sets.specs.declared.delta.Delta.{Delta}
use Rattle.mv_short_sets.specs.declared.delta.Side.{Side}
use Rattle.mv_short_sets.specs.declared.delta.Side.TheVariants.{Before, After}
use Rattle.mv_short_sets.specs.Deltas.{at_distance, steps, direct, predicted, reference, deltas, deltas_of_each}
use Rattle.mv_short_sets.specs.ShortSet.{st_ref_pic_set, AreShortArgs}
use Rattle.mv_short_sets.proofs.DeltaLaws.{each-take, length-deltas_of_each, deltas-at}
use Rattle.mv_short_sets.proofs.SetLaws.{set_facts, fields_valid, deltas-few}
use Rattle.mv_slice.specs.Context.{SliceContextValue, Fits}
use Rattle.mv_slice.specs.LongTerms.{LongTermsValue, entries, long_terms}
use Rattle.mv_slice.specs.Derived.{num_short_used}

-- a filter keeps no more than there are
pub few_kept : {A : Type 0} (p : A → Bool) (xs : List A) → length (filter p xs) ≤ length xs
few_kept p [] = omega arith
few_kept {A} p (x ∷ xs) = go (p x) (few_kept p xs)
  where
    go : (b : Bool) → length (filter p xs) ≤ length xs → length (cond b (x ∷ filter p xs) (filter p xs)) ≤ suc (length xs)
    go true h = omega arith
    go false h = omega arith

-- the pictures on one side are used as their flags say
used-steps : (side : Side) (far : ℕ) (minus1 flags : List ℕ) → length flags ≡ length minus1
    → length (filter (λ (one : Delta). one.used) (steps side far minus1 flags)) ≡ length (filter is_set flags)
used-steps side far [] [] e = refl
used-steps side far [] (flag ∷ flags) e = absurd (omega arith)
used-steps side far (m ∷ more) [] e = refl
used-steps side far (m ∷ more) (flag ∷ flags) e = go (is_set flag) (used-steps side (far + m + 1) more flags (omega arith))
  where
    here : Bool → Delta
    here b = record { delta = at_distance side (far + m + 1); used = b }

    rest : List Delta
    rest = filter (λ (one : Delta). one.used) (steps side (far + m + 1) more flags)

    go : (b : Bool) → length rest ≡ length (filter is_set flags) → length (cond b (here b ∷ rest) rest) ≡ length (cond b (flag ∷ filter is_set flags) (filter is_set flags))
    go true h = ap suc h
    go false h = h

-- those of a set that is coded directly
pub used-direct : (idx num : ℕ) (earlier : List (List Delta)) (s : ShortSetValue) → Valid (st_ref_pic_set idx num earlier) s
    → coded_set s.inter_ref_pic_set_prediction_flag ≡ false
    → length (filter is_set s.used_by_curr_pic_s0_flag) + length (filter is_set s.used_by_curr_pic_s1_flag) ≡ num_short_used (deltas idx earlier s)
unfolding num_short_used deltas direct
used-direct idx num earlier s h e =
    let facts = set_facts idx num earlier s (fields_valid idx num earlier s h) in
    let p : Delta → Bool = λ one. one.used in
    sym
    (ap (λ c. length (filter p (if c then predicted (reference idx earlier s.delta_idx_minus1) s else direct s))) e
    ∙ ap length (filter-append p (steps Before 0 s.delta_poc_s0_minus1 s.used_by_curr_pic_s0_flag) (steps After 0 s.delta_poc_s1_minus1 s.used_by_curr_pic_s1_flag))
    ∙ length-append (filter p (steps Before 0 s.delta_poc_s0_minus1 s.used_by_curr_pic_s0_flag)) (filter p (steps After 0 s.delta_poc_s1_minus1 s.used_by_curr_pic_s1_flag))
    ∙ ap₂ (λ m n. m + n) (used-steps Before 0 s.delta_poc_s0_minus1 s.used_by_curr_pic_s0_flag facts.flags0) (used-steps After 0 s.delta_poc_s1_minus1 s.used_by_curr_pic_s1_flag facts.flags1))

-- there are at most 16
pub used-few : (idx num : ℕ) (earlier : List (List Delta)) (s : ShortSetValue) → Valid (st_ref_pic_set idx num earlier) s
    → num_short_used (deltas idx earlier s) ≤ 16
unfolding num_short_used
used-few idx num earlier s h = omega (arith, few_kept (λ (one : Delta). one.used) (deltas idx earlier s), deltas-few idx num earlier s h)

-- ---- the sets of a sequence parameter set
pub all_args : (ctx : SliceContextValue) → Fits ctx → AreShortArgs ctx.num_short_term_ref_pic_sets ctx.num_short_term_ref_pic_sets ctx.short_sets
all_args ctx h = record { within = omega arith; few = h.few_short_sets; all_earlier = h.all_short_sets; valid = h.valid_short_sets }

pub set_args : (ctx : SliceContextValue) (r num : ℕ) (before : List ShortSetValue) → Fits ctx → r < length ctx.short_sets
    → num ≡ ctx.num_short_term_ref_pic_sets → before ≡ take r ctx.short_sets → AreShortArgs r num before
set_args ctx r num before h less is are =
    rw (is, are) (record {
      within = omega (arith, h.all_short_sets);
      few = h.few_short_sets;
      all_earlier = length-take-le r ctx.short_sets (omega arith);
      valid = each-take (λ before s. Valid (st_ref_pic_set (length before) ctx.num_short_term_ref_pic_sets (deltas_of_each before)) s) [] ctx.short_sets r h.valid_short_sets;
    })

pub set_valid : (ctx : SliceContextValue) (r num : ℕ) (before : List ShortSetValue) (set : ShortSetValue) → Fits ctx → r < length ctx.short_sets
    → num ≡ ctx.num_short_term_ref_pic_sets → before ≡ take r ctx.short_sets → set ≡ get_or ctx.short_sets r set
    → Valid (st_ref_pic_set r num (deltas_of_each before)) set
set_valid ctx r num before set h less is are there =
    let P : ShortSetValue → Type 0 = λ s. Valid (st_ref_pic_set r num (deltas_of_each before)) s in
    let here : Valid (st_ref_pic_set (length (take r ctx.short_sets)) ctx.num_short_term_ref_pic_sets (deltas_of_each (take r ctx.short_sets))) (get_or ctx.short_sets r set) =
    each-valid (λ so_far s. Valid (st_ref_pic_set (length so_far) ctx.num_short_term_ref_pic_sets (deltas_of_each so_far)) s) [] ctx.short_sets r set h.valid_short_sets less in
    let counted : Valid (st_ref_pic_set r ctx.num_short_term_ref_pic_sets (deltas_of_each (take r ctx.short_sets))) (get_or ctx.short_sets r set) =
    subst (λ i. Valid (st_ref_pic_set i ctx.num_short_term_ref_pic_sets (deltas_of_each (take r ctx.short_sets))) (get_or ctx.short_sets r set))
    (length-take-le r ctx.short_sets (omega arith)) here in
    subst P (sym there) (rw (is, are) counted)

pub used-at : (ctx : SliceContextValue) (r : ℕ) (before : List ShortSetValue) (set : ShortSetValue) → r < length ctx.short_sets
    → before ≡ take r ctx.short_sets → set ≡ get_or ctx.short_sets r set
    → num_short_used (deltas r (deltas_of_each before) set) ≡ num_short_used (get_or (deltas_of_each ctx.short_sets) r [])
used-at ctx r before set less are there =
    ap num_short_used (ap₂ (λ b s. deltas r (deltas_of_each b) s) are there ∙ sym (deltas-at ctx.short_sets r set less))

-- a set that isn't there has no used pictures
pub used-none : (sets : List ShortSetValue) (r : ℕ) → length sets ≤ r → 0 ≡ num_short_used (get_or (deltas_of_each sets) r [])
unfolding num_short_used
used-none sets r h = ap (λ (l : List Delta). length (filter (λ one. one.used) l)) (sym (get_or_past (deltas_of_each sets) r [] (omega (arith, length-deltas_of_each sets))))

-- ---- long-term entries
pub few_entries : (ctx : SliceContextValue) (v : LongTermsValue) → Valid (long_terms ctx) v → length v.entries ≤ 32
unfolding long_terms entries
few_entries ctx v h =
    let listed : or_zero v.num_long_term_sps ≤ 16 = within_16 _ v.num_long_term_sps h.0.0 in
    let coded : v.num_long_term_pics ≤ 16 = ltb-false 16 v.num_long_term_pics h.0.1.0.1 in
    let all : length v.entries ≡ or_zero v.num_long_term_sps + v.num_long_term_pics = items-length _ 0 _ v.entries h.0.1.1 in
    omega arith
  where
    within_16 : (c : Bool) (o : Option ℕ) → Valid (when c (ue ! SliceSyntax ∶ over 16)) o → or_zero o ≤ 16
    within_16 c None h = omega arith
    within_16 c (Some n) h = ltb-false 16 n h.1.1
