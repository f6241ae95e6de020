-- What is said against a unit, and streams of which no unit breaks a rule.
use Rattle.std.proofs.Common.{◌≡◌, ℕ, true, false, List, [], ◌∷◌, ◌++◌, reverse, Option, None, Some, refl, ap, sym, ◌∙◌}
use Rattle.std.specs.Prelude.{All, is_none, option_map}
use Rattle.std.specs.Option.{option_or}
use Rattle.std.proofs.lemmas.Bool.{and_from, and_parts}
use Rattle.std.proofs.lemmas.List.{map-append}
use Rattle.mv_history.specs.History.{Throughout, run}
use Rattle.mv_rules.specs.declared.rule.Rule.{Rule}
use Rattle.mv_units.specs.Units.{NalUnit}
use Rattle.mv_judging.specs.declared.stop.Objection.{Objection}
use Rattle.mv_pictures.specs.AccessUnits.{all_placed, placed}
use Rattle.mv_pictures.specs.Facts.{Fact, facts}
use Rattle.mv_pictures.specs.History.{facts_of, history, history_of, judged, judgement}
use Rattle.mv_pictures.specs.Items.{item, items}
use Rattle.mv_pictures.specs.Judged.{Judged, is_picture, is_slice, vps_at}
use Rattle.mv_pictures.specs.Rules.{least_rule}
use Rattle.mv_pictures.specs.Verdict.{breaks_none, bytes_of, lacking, objection, pictures}
use Rattle.mv_commuting.specs.Kept.{IsEarlierPicture, IsOtherPicture}
use Rattle.mv_commuting.specs.OneMore.{fact_behind}
use Rattle.mv_commuting.proofs.Histories.{fine-accepted}
use Rattle.mv_commuting.proofs.More.{history-more}
use Rattle.mv_commuting.proofs.Rising.{pictures-rise}
use Rattle.mv_commuting.proofs.Seats.{names-one, seated-all}
use Rattle.mv_tried.specs.Tried.{first_of, tried}
use Rattle.mv_tried.proofs.Units.{only-tried}

-- ---- The verdict, unit by unit

objection_of : (o : ℕ) (past : List Judged) (p : Fact) → objection o (judged past p ∷ past) ≡ option_or (option_map Objection.Breaks (least_rule past (judged past p))) (lacking o p.placed.item)
unfolding objection judged judgement
objection_of o past p = refl

pub objection-more : (o : ℕ) (us : List (List ℕ)) (u : List ℕ) →
    objection o (history_of (us ++ u ∷ []))
    ≡ option_or (option_map Objection.Breaks (first_of (tried (history_of us) (judged (history_of us) (fact_behind us u))))) (lacking o (fact_behind us u).placed.item)
objection-more o us u =
    ap (objection o) (history-more us u)
    ∙ objection_of o (history_of us) (fact_behind us u)
    ∙ ap (λ r. option_or (option_map Objection.Breaks r) (lacking o (fact_behind us u).placed.item))
    (only-tried (history_of us) (facts_of us) (placed (all_placed (items (reverse us))) (item (items (reverse us)) u)))

bytes-more : (us : List NalUnit) (u : NalUnit) → bytes_of (us ++ u ∷ []) ≡ bytes_of us ++ u.bytes ∷ []
bytes-more us u = map-append (λ (u : NalUnit). u.bytes) us (u ∷ [])

pub judge-more : (o : ℕ) (us : List NalUnit) (u : NalUnit) →
    (pictures o).late us u
    ≡ option_or (option_map Objection.Breaks (first_of (tried (history_of (bytes_of us)) (judged (history_of (bytes_of us)) (fact_behind (bytes_of us) u.bytes)))))
    (lacking o (fact_behind (bytes_of us) u.bytes).placed.item)
unfolding pictures
judge-more o us u = ap (λ bs. objection o (history_of bs)) (bytes-more us u) ∙ objection-more o (bytes_of us) u.bytes

-- ---- No unit breaks a rule

none_is : (r : Option Rule) → is_none r ≡ true → r ≡ None
none_is None h = refl
none_is (Some r) h = absurd (let wrong : true ≡ false = sym h in cc)

pub none-each : (ds : List Judged) → breaks_none ds ≡ true → Throughout (λ past d. least_rule past d ≡ None) ds
unfolding breaks_none
none-each [] h = tt
none-each (d ∷ past) h =
    let parts : (is_none (least_rule past d) ≡ true) × (breaks_none past ≡ true) = and_parts (is_none (least_rule past d)) (breaks_none past) h in
    (none_is (least_rule past d) parts.0, none-each past parts.1)

pub each-none : (ds : List Judged) → Throughout (λ past d. least_rule past d ≡ None) ds → breaks_none ds ≡ true
unfolding breaks_none
each-none [] h = refl
each-none (d ∷ past) h = and_from (is_none (least_rule past d)) (breaks_none past) (ap is_none h.0) (each-none past h.1)

-- no objection, no broken rule
unobjected : (r : Option Rule) (other : Option Objection) → option_or (option_map Objection.Breaks r) other ≡ None → is_none r ≡ true
unobjected None other h = refl
unobjected (Some r) other h = absurd (cc)

pub none-first : breaks_none (history_of []) ≡ true
unfolding breaks_none history_of facts_of items all_placed facts history run
none-first = refl

pub none-more : (o : ℕ) (us : List (List ℕ)) (u : List ℕ) → breaks_none (history_of us) ≡ true → objection o (history_of (us ++ u ∷ [])) ≡ None → breaks_none (history_of (us ++ u ∷ [])) ≡ true
none-more o us u so_far h = ap breaks_none (history-more us u) ∙ now
  where
    now : breaks_none (judged (history_of us) (fact_behind us u) ∷ history_of us) ≡ true
    now = unfold breaks_none in
        and_from (is_none (least_rule (history_of us) (judged (history_of us) (fact_behind us u)))) (breaks_none (history_of us))
        (unobjected (least_rule (history_of us) (judged (history_of us) (fact_behind us u))) (lacking o (fact_behind us u).placed.item)
        (sym (ap (objection o) (history-more us u) ∙ objection_of o (history_of us) (fact_behind us u)) ∙ h))
        so_far

pub judge-silent : (o : ℕ) (us : List NalUnit) (u : NalUnit) → breaks_none (history_of (bytes_of us)) ≡ true → (pictures o).late us u ≡ None → breaks_none (history_of (bytes_of (us ++ u ∷ []))) ≡ true
unfolding pictures
judge-silent o us u so_far h =
    ap (λ bs. breaks_none (history_of bs)) (bytes-more us u)
    ∙ none-more o (bytes_of us) u.bytes so_far (ap (λ bs. objection o (history_of bs)) (sym (bytes-more us u)) ∙ h)

pub none-less : (us : List (List ℕ)) (u : List ℕ) → breaks_none (history_of (us ++ u ∷ [])) ≡ true → breaks_none (history_of us) ≡ true
none-less us u h = back (ap breaks_none (sym (history-more us u)) ∙ h)
  where
    back : breaks_none (judged (history_of us) (fact_behind us u) ∷ history_of us) ≡ true → breaks_none (history_of us) ≡ true
    back h = unfold breaks_none in (and_parts (is_none (least_rule (history_of us) (judged (history_of us) (fact_behind us u)))) (breaks_none (history_of us)) h).1

pub unobjected-each : (o : ℕ) (ds : List Judged) → Throughout (λ past d. objection o (d ∷ past) ≡ None) ds → breaks_none ds ≡ true
unfolding breaks_none objection
unobjected-each o [] h = refl
unobjected-each o (d ∷ past) h =
    and_from (is_none (least_rule past d)) (breaks_none past) (unobjected (least_rule past d) (lacking o d.fact.placed.item) h.0) (unobjected-each o past h.1)

-- ---- What such a stream obeys

pub names-unbroken : (us : List (List ℕ)) → breaks_none (history_of us) ≡ true → Throughout (λ past d. is_picture d.fact ≡ true → All (IsOtherPicture d) past) (history_of us)
unfolding history_of facts_of
names-unbroken us h = names-one (reverse us) (fine-accepted (reverse us) h)

pub rise-unbroken : (us : List (List ℕ)) → breaks_none (history_of us) ≡ true → Throughout (λ past d. is_picture d.fact ≡ true → All (IsEarlierPicture d) past) (history_of us)
unfolding history_of facts_of
rise-unbroken us h = pictures-rise (reverse us) (fine-accepted (reverse us) h)

pub seats-unbroken : (us : List (List ℕ)) → breaks_none (history_of us) ≡ true → All (λ (d : Judged). is_slice d.fact ≡ true → d.seq_vps ≡ vps_at d.fact) (history_of us)
unfolding history_of facts_of
seats-unbroken us h = seated-all (reverse us) (fine-accepted (reverse us) h)
