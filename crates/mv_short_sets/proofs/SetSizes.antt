-- How many bits a short-term reference picture set has at most.
use Rattle.std.proofs.Common.{◌≡◌, ℕ, ◌+◌, ◌-◌, ◌*◌, ◌<◌, ◌≤◌, Bool, true, false, not, List, [], length, get_or, Option, refl, sym, ap, subst, arith}
use Rattle.std.specs.Prelude.{nat_lt}
use Rattle.std.proofs.lemmas.Bool.{ltb-true, ltb-false}
use Rattle.std.proofs.lemmas.List.{get_or_past}
use Rattle.mv_syntax.specs.Words.{or_zero, coded_set}
use Rattle.mv_syntax.specs.Loops.{each}
use Rattle.mv_syntax.proofs.SizeLaws.{AtMost, most_u, most_ue, most_named, most_refused, most_then, most_when, most_shaped, most_columns, most_each}
use Rattle.mv_short_sets.specs.ShortSetValue.{ShortSetValue}
use Rattle.mv_short_sets.specs.declared.delta.Delta.{Delta}
use Rattle.mv_short_sets.specs.declared.delta.Side.{Side}
use Rattle.mv_short_sets.specs.declared.delta.Side.TheVariants.{Before, After}
use Rattle.mv_short_sets.specs.Deltas.{reference, deltas_of_each}
use Rattle.mv_short_sets.specs.ShortSet.{candidate_flags, picture, num_candidates, set_fields, st_ref_pic_set, AreShortArgs}
use Rattle.mv_short_sets.proofs.DeltaLaws.{length-deltas_of_each}
use Rattle.mv_short_sets.proofs.SetLaws.{within, sum_within, reference_facts}

most_flags : AtMost candidate_flags 2
unfolding candidate_flags
most_flags = most_then _ _ 1 1 (most_named _ _ 1 (most_u 1)) (λ flag _. most_named _ _ 1 (most_when _ _ 1 (most_u 1)))

most_picture : (side : Side) → AtMost (picture side) 64
unfolding picture
most_picture side = most_then _ _ 63 1 (most_named _ _ 63 (most_refused _ _ _ 63 most_ue)) (λ _ _. most_named _ _ 1 (most_u 1))

candidates_few : (c : Bool) (ref : List Delta) → length ref ≤ 16 → num_candidates c ref * 2 ≤ 34
candidates_few true ref h = omega arith
candidates_few false ref h = omega arith

most_fields : (idx num : ℕ) (earlier : List (List Delta)) → ((back : Option ℕ) → length (reference idx earlier back) ≤ 16) → AtMost (set_fields idx num earlier) 2336
unfolding set_fields
most_fields idx num earlier few =
    most_shaped _ _ _ _ 2336
    (most_then _ _ 1 2335 (most_named _ _ 1 (most_when _ _ 1 (most_u 1))) (λ flag _.
    most_then _ _ 63 2272 (most_named _ _ 63 (most_when _ _ 63 (most_refused _ _ _ 63 most_ue))) (λ back _.
    most_then _ _ 1 2271 (most_named _ _ 1 (most_when _ _ 1 (most_u 1))) (λ _ _.
    most_then _ _ 63 2208 (most_named _ _ 63 (most_when _ _ 63 (most_refused _ _ _ 63 most_ue))) (λ _ _.
    most_then _ _ 34 2174 (most_columns 0 (num_candidates (coded_set flag) (reference idx earlier back)) (each candidate_flags) 2 34 (most_each candidate_flags 2 most_flags)
    (candidates_few (coded_set flag) (reference idx earlier back) (few back))) (λ _ _.
    most_then _ _ 63 2111 (most_named _ _ 63 (most_when _ _ 63 (most_refused _ _ _ 63 most_ue))) (λ negatives before.
    most_then _ _ 63 2048 (most_named _ _ 63 (most_when _ _ 63 (most_refused _ _ _ 63 most_ue))) (λ positives after.
    let some : or_zero negatives ≤ 16 = within (not (coded_set flag)) 16 negatives before in
    let more : or_zero positives ≤ 16 = sum_within (not (coded_set flag)) (or_zero negatives) 16 positives after in
    most_then _ _ 1024 1024 (most_columns 0 (or_zero negatives) (each (picture Before)) 64 1024 (most_each (picture Before) 64 (most_picture Before)) (omega arith)) (λ _ _.
    most_columns 0 (or_zero positives) (each (picture After)) 64 1024 (most_each (picture After) 64 (most_picture After)) (omega arith))))))))))

-- the deltas of a set that isn't there are none, those of one that is at most 16
pub deltas_few : (idx num : ℕ) (sets : List ShortSetValue) (r : ℕ) → AreShortArgs idx num sets → length (get_or (deltas_of_each sets) r []) ≤ 16
deltas_few idx num sets r args = go (nat_lt r idx) refl
  where
    go : (b : Bool) → nat_lt r idx ≡ b → length (get_or (deltas_of_each sets) r []) ≤ 16
    go true e = (reference_facts idx num sets r args (ltb-true r idx e)).few
    go false e =
        let past : idx ≤ r = ltb-false r idx e in
        subst (λ (l : List Delta). length l ≤ 16) (sym (get_or_past (deltas_of_each sets) r [] (omega (arith, length-deltas_of_each sets, args.all_earlier)))) (omega arith)

-- a set has at most 2336 bits
pub set_size : (idx num : ℕ) (sets : List ShortSetValue) → AreShortArgs idx num sets → AtMost (st_ref_pic_set idx num (deltas_of_each sets)) 2336
unfolding st_ref_pic_set
set_size idx num sets args =
    most_refused _ _ _ 2336 (most_fields idx num (deltas_of_each sets) (λ back. deltas_few idx num sets (idx - or_zero back - 1) args))
