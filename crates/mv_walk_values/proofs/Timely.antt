-- While no unit breaks a rule, histories are timely.
use Rattle.std.proofs.Common.{◌≡◌, ℕ, ◌+◌, ◌<◌, zero, suc, Bool, true, false, List, [], ◌∷◌, length, map, None, ap, sym, ◌∙◌, arith}
use Rattle.std.specs.List.{find, range_with_len}
use Rattle.mv_rules.specs.declared.rule.Rule.{Rule}
use Rattle.mv_history.specs.History.{Throughout, run}
use Rattle.mv_pictures.specs.Facts.{Fact}
use Rattle.mv_pictures.specs.History.{facts_of, history, history_of, judged}
use Rattle.mv_pictures.specs.Judged.{Judged}
use Rattle.mv_pictures.specs.Layers.{sets_at}
use Rattle.mv_pictures.specs.Output.{is_late}
use Rattle.mv_pictures.specs.Rules.{Case, case, output_cases}
use Rattle.mv_pictures.specs.Verdict.{breaks_none}
use Rattle.mv_commuting.proofs.Histories.{AllNone, all_none, breaks_none-at, breaks_none-of}
use Rattle.mv_walk_laws.proofs.OneCount.{one-count}
use Rattle.mv_walk_values.specs.Timely.{IsTimely}
use Rattle.mv_walk_values.proofs.Standing.{fact_is}

-- each unit of a history is judged by those before it
pub judged_by : (fs : List Fact) → Throughout (λ before (d : Judged). d ≡ judged before d.fact) (history fs)
unfolding history run
judged_by [] = tt
judged_by (p ∷ fs) = (ap (judged (run judged fs)) (sym (fact_is (run judged fs) p)), judged_by fs)

-- a rule that holds for none of some numbers
each_none : (rule : ℕ → Rule) (test : ℕ → Bool) (a n : ℕ) → AllNone (map (λ o. case (rule o) (test o)) (range_with_len a n)) → (o : ℕ) → o < n → test (a + o) ≡ false
each_none rule test a zero h o low = absurd (omega (arith, low))
each_none rule test a (suc n) h zero low = ap test (let same : a + 0 ≡ a = omega arith in same) ∙ h.0
each_none rule test a (suc n) h (suc o) low = ap test (let same : a + suc o ≡ a + 1 + o = omega arith in same) ∙ each_none rule test (a + 1) n h.1 o (omega (arith, low))

late_none : (past : List Judged) (d : Judged) → find (λ (c : Case). c.holds) (output_cases past d) ≡ None → (o : ℕ) → o < length (sets_at d.seq_vps) → is_late o past d ≡ false
unfolding output_cases
late_none past d h o low =
    ap (λ n. is_late n past d) (let same : o ≡ 0 + o = omega arith in same)
    ∙ each_none Rule.Reorder (λ n. is_late n past d) 0 (length (sets_at d.seq_vps)) (all_none (map (λ n. case (Rule.Reorder n) (is_late n past d)) (range_with_len 0 (length (sets_at d.seq_vps)))) h) o low

pub none_late : (past : List Judged) → breaks_none past ≡ true → Throughout (λ before (d : Judged). (o : ℕ) → o < length (sets_at d.seq_vps) → is_late o before d ≡ false) past
none_late [] h = tt
none_late (d ∷ past) h =
    let parts = breaks_none-at d past h in (
      late_none past d (breaks_none-of past d parts.0).of_output,
      none_late past parts.1,
    )

pub timely : (us : List (List ℕ)) → breaks_none (history_of us) ≡ true → IsTimely (history_of us)
timely us h = record {
  judgements = unfold history_of in judged_by (facts_of us);
  one_count = one-count us h;
  never_late = none_late (history_of us) h;
}
