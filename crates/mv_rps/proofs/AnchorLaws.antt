-- The anchor's count behind one unit more.
use Rattle.std.proofs.Common.{◌≡◌, ℤ, Bool, true, false, cond, ◌&&◌, ◌||◌, List, ◌∷◌, Option, Some, None, refl, sym, ap, ◌∙◌}
use Rattle.std.specs.Prelude.{is_some, option_and_then, Ok, Err}
use Rattle.std.specs.List.{find}
use Rattle.mv_rules.specs.declared.rule.Rule.TheVariants.{PocMismatch, PocRange}
use Rattle.mv_pictures.specs.Facts.{Fact}
use Rattle.mv_pictures.specs.Judged.{Judged, is_base}
use Rattle.mv_pictures.specs.Look.{Look}
use Rattle.mv_pictures.specs.Starts.{is_start, is_decoded}
use Rattle.mv_pictures.specs.Counts.{anchor, count, may_anchor}
use Rattle.mv_pictures.specs.History.{judgement}
use Rattle.mv_pictures.specs.PictureRules.{is_in_range}
use Rattle.mv_rps.specs.declared.counts.PocAsk.{PocAsk}
use Rattle.mv_rps.specs.Asked.{anchor_after, count_of, counted, is_off_base, on_base, taken, within_range}
use Rattle.mv_rps.specs.Standing.{asked_of}
use Rattle.mv_rps.proofs.CountLaws.{counted_base, counted_decoded, counted_start}

-- what is counted is told
told : (a : Option ℤ) (p : PocAsk) (c : ℤ) → counted a p ≡ Ok c → count_of a p ≡ Some c
told a p c h = go (count_of a p) h
  where
    go : (o : Option ℤ) → on_base p (within_range o) ≡ Ok c → o ≡ Some c
    go None h = absurd (let wrong : Err PocRange ≡ Ok c = h in cc)
    go (Some n) h = inside (is_in_range n) h
      where
        inside : (b : Bool) → on_base p (cond b (Ok n) (Err PocRange)) ≡ Ok c → Some n ≡ Some c
        inside false h = absurd (let wrong : Err PocRange ≡ Ok c = h in cc)
        inside true h = on (is_off_base p n) h
          where
            on : (b : Bool) → cond b (Err PocMismatch) (Ok n) ≡ Ok c → Some n ≡ Some c
            on true h = absurd (let wrong : Err PocMismatch ≡ Ok c = h in cc)
            on false h = let same : n ≡ c = (let is : Ok n ≡ Ok c = h in cc) in ap (λ n. Some n) same

-- a judgement with a count that passes is the anchor
first : (c : Option ℤ) (n : ℤ) (s : Bool) (d : Judged) (earlier : List Judged) → c ≡ Some n → d.count ≡ c → s ≡ true
    → option_and_then (λ (d : Judged). d.count) (cond (is_some c && s) (Some d) (find (λ (d : Judged). is_some d.count && (d.start || may_anchor d.fact)) earlier)) ≡ Some n
first c n s d earlier is counted passes =
    ap (λ b. option_and_then (λ (d : Judged). d.count) (cond b (Some d) (find (λ (d : Judged). is_some d.count && (d.start || may_anchor d.fact)) earlier))) (ap (λ c. is_some c && s) is ∙ passes)
    ∙ counted ∙ is

anchor_where : (l m : Look) (p : Fact) (c : ℤ) → count_of (anchor l) (asked_of l p) ≡ count l p → counted (anchor l) (asked_of l p) ≡ Ok c → m.own ≡ judgement l p ∷ l.own → anchor_after (anchor l) (asked_of l p) ≡ anchor m
unfolding anchor judgement
anchor_where l m p c same h own =
    ap (taken (anchor l) (asked_of l p)) h
    ∙ go (is_start l p || may_anchor p) refl
    ∙ sym (ap (λ ds. option_and_then (λ (d : Judged). d.count) (find (λ (d : Judged). is_some d.count && (d.start || may_anchor d.fact)) ds)) own)
  where
    is : count l p ≡ Some c
    is = sym same ∙ told (anchor l) (asked_of l p) c h

    go : (s : Bool) → (is_start l p || may_anchor p) ≡ s → cond s (Some c) (anchor l)
        ≡ option_and_then (λ (d : Judged). d.count) (cond (is_some (count l p) && s) (Some (judgement l p)) (find (λ (d : Judged). is_some d.count && (d.start || may_anchor d.fact)) l.own))
    go true e = sym (first (count l p) c true (judgement l p) l.own is refl refl)
    go false e = sym (ap (λ o. option_and_then (λ (d : Judged). d.count) (cond (is_some o && false) (Some (judgement l p)) (find (λ (d : Judged). is_some d.count && (d.start || may_anchor d.fact)) l.own))) is)

pub anchor_decoded : (l m : Look) (p : Fact) (c : ℤ) → is_decoded l p ≡ true → counted (anchor l) (asked_of l p) ≡ Ok c → m.own ≡ judgement l p ∷ l.own → anchor_after (anchor l) (asked_of l p) ≡ anchor m
anchor_decoded l m p c h = anchor_where l m p c (counted_decoded l p h)

pub anchor_base : (l m : Look) (p : Fact) (c : ℤ) → is_base p ≡ true → counted (anchor l) (asked_of l p) ≡ Ok c → m.own ≡ judgement l p ∷ l.own → anchor_after (anchor l) (asked_of l p) ≡ anchor m
anchor_base l m p c h = anchor_where l m p c (counted_base l p h)

pub anchor_start : (l m : Look) (p : Fact) (c : ℤ) (earlier : List Judged) → is_start l p ≡ true → counted (anchor l) (asked_of l p) ≡ Ok c → m.own ≡ judgement l p ∷ earlier → anchor_after (anchor l) (asked_of l p) ≡ anchor m
unfolding anchor judgement
anchor_start l m p c earlier start h own =
    let is : count l p ≡ Some c = sym (counted_start l p start) ∙ told (anchor l) (asked_of l p) c h in
    ap (taken (anchor l) (asked_of l p)) h
    ∙ ap (λ s. cond (s || may_anchor p) (Some c) (anchor l)) start
    ∙ sym (first (count l p) c (is_start l p || may_anchor p) (judgement l p) earlier is refl (ap (λ s. s || may_anchor p) start))
    ∙ sym (ap (λ ds. option_and_then (λ (d : Judged). d.count) (find (λ (d : Judged). is_some d.count && (d.start || may_anchor d.fact)) ds)) own)

pub anchor_other : (l m : Look) (d : Judged) → d.count ≡ None → m.own ≡ d ∷ l.own → anchor m ≡ anchor l
unfolding anchor
anchor_other l m d none own =
    ap (λ ds. option_and_then (λ (d : Judged). d.count) (find (λ (d : Judged). is_some d.count && (d.start || may_anchor d.fact)) ds)) own
    ∙ ap (λ o. option_and_then (λ (d : Judged). d.count) (cond (is_some o && (d.start || may_anchor d.fact)) (Some d) (find (λ (d : Judged). is_some d.count && (d.start || may_anchor d.fact)) l.own))) none
