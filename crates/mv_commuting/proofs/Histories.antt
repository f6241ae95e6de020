-- The history of an extract is what is kept of the history.
use Rattle.std.proofs.Common.{◌≡◌, ℕ, Bool, true, false, cond, ◌&&◌, List, [], ◌∷◌, ◌++◌, Option, None, Some, refl, ap, sym, ◌∙◌, filter, map}
use Rattle.std.specs.Prelude.{option_map, is_none, ⊤}
use Rattle.std.specs.List.{find}
use Rattle.std.specs.Option.{option_or}
use Rattle.std.proofs.lemmas.Bool.{and_parts}
use Rattle.std.proofs.lemmas.List.Folds.{find-append}
use Rattle.mv_rules.specs.declared.rule.Rule.{Rule}
use Rattle.mv_history.specs.History.{IsAlone, Tells, Throughout, run}
use Rattle.mv_history.proofs.Runs.{run-filter, run_source}
use Rattle.mv_pictures.specs.Items.{Item, is_slice, items, stays}
use Rattle.mv_pictures.specs.AccessUnits.{all_placed, layer_order, no_base, orphan_slice, placed}
use Rattle.mv_pictures.specs.Facts.{Fact, fact, facts}
use Rattle.mv_pictures.specs.Judged.{Judged}
use Rattle.mv_pictures.specs.Look.{Look, asked, look}
use Rattle.mv_pictures.specs.PictureRules.{vps_mid_cvs}
use Rattle.mv_pictures.specs.History.{history, judged, judgement}
use Rattle.mv_pictures.specs.Rules.{Case, case, cases, least_rule, item_cases, set_cases, slice_cases, picture_cases, output_cases}
use Rattle.mv_pictures.specs.Verdict.{breaks_none}
use Rattle.mv_commuting.proofs.Alike.{judged_stays, look-kept}
use Rattle.mv_commuting.proofs.Facts.{HasPictures, all_facts, extract-facts, fact_stays, facts_placed, this}
use Rattle.mv_commuting.proofs.Places.{HasBases}
use Rattle.mv_commuting.proofs.Steady.{AllFine, IsFine, hist, this_fact, this_judged}

judged_tells : Tells judged (λ (d : Judged). d.fact)
unfolding judged judgement
judged_tells past p = refl

pub history_facts : (us : List (List ℕ)) → map (λ (d : Judged). d.fact) (hist us) ≡ all_facts us
unfolding history
history_facts us = run_source judged (λ (d : Judged). d.fact) judged_tells (all_facts us)

pub asked-kept : (o : ℕ) (us : List (List ℕ)) (u : List ℕ) → AllFine us → IsFine us u → stays o (this us u).item ≡ true →
    look (asked (filter (judged_stays o) (hist us)) (this_fact us u)) (this_fact us u) ≡ look (asked (hist us) (this_fact us u)) (this_fact us u)
unfolding asked fact
asked-kept o us u fine here kept = go (is_slice (this us u).item) refl
  where
    go : (b : Bool) → is_slice (this us u).item ≡ b →
        look (cond b (filter (judged_stays o) (hist us)) []) (this_fact us u) ≡ look (cond b (hist us) []) (this_fact us u)
    go false e = refl
    go true e = look-kept o us u fine here e kept

judged_alone : (o : ℕ) (us : List (List ℕ)) (u : List ℕ) → AllFine us → IsFine us u → IsAlone judged (judged_stays o) (all_facts us) (this_fact us u)
unfolding judged judgement history fact
judged_alone o us u fine here kept = ap (λ l. judgement l (this_fact us u)) (asked-kept o us u fine here kept)

all_alone : (o : ℕ) (us : List (List ℕ)) → AllFine us → Throughout (IsAlone judged (judged_stays o)) (all_facts us)
unfolding items all_placed facts run
all_alone o [] fine = tt
all_alone o (u ∷ us) fine = (judged_alone o us u fine.1 fine.0, all_alone o us fine.1)

pub history-keep : (o : ℕ) (us : List (List ℕ)) → AllFine us → history (filter (fact_stays o) (all_facts us)) ≡ filter (judged_stays o) (hist us)
unfolding history
history-keep o us fine = run-filter judged (λ (d : Judged). d.fact) (fact_stays o) judged_tells (all_facts us) (all_alone o us fine)

fine_bases : (us : List (List ℕ)) → AllFine us → HasBases (items us)
unfolding items run placed all_placed
fine_bases [] fine = tt
fine_bases (u ∷ us) fine = (fine.0.base, fine_bases us fine.1)

fine_pictures : (us : List (List ℕ)) → AllFine us → HasPictures us
fine_pictures [] fine = tt
fine_pictures (u ∷ us) fine = (fine.0.own, fine_pictures us fine.1)

-- the units of an extract, the latest first
abbrev pub kept_units : ℕ → List (List ℕ) → List (List ℕ)
kept_units o us = map (λ (i : Item). i.bytes) (filter (stays o) (items us))

pub extract-history : (o : ℕ) (us : List (List ℕ)) → AllFine us → hist (kept_units o us) ≡ filter (judged_stays o) (hist us)
extract-history o us fine = ap history (extract-facts o us (fine_bases us fine) (fine_pictures us fine)) ∙ history-keep o us fine

-- ---- What an accepted stream obeys

none_or : {A : Type 0} (x y : Option A) → option_or x y ≡ None → (x ≡ None) × (y ≡ None)
none_or None y h = (refl, h)
none_or (Some a) y h = absurd (cc)

pub none_append : (xs ys : List Case) → find (λ (c : Case). c.holds) (xs ++ ys) ≡ None → (find (λ (c : Case). c.holds) xs ≡ None) × (find (λ (c : Case). c.holds) ys ≡ None)
none_append xs ys h = none_or (find (λ (c : Case). c.holds) xs) (find (λ (c : Case). c.holds) ys) (sym (find-append (λ (c : Case). c.holds) xs ys) ∙ h)

pub none_first : (c : Case) (cs : List Case) → find (λ (c : Case). c.holds) (c ∷ cs) ≡ None → (c.holds ≡ false) × (find (λ (c : Case). c.holds) cs ≡ None)
none_first c cs h = go (c.holds) refl h
  where
    go : (b : Bool) → c.holds ≡ b → cond b (Some c) (find (λ (c : Case). c.holds) cs) ≡ None → (c.holds ≡ false) × (find (λ (c : Case). c.holds) cs ≡ None)
    go true e h = absurd (cc)
    go false e h = (e, h)

-- none of some cases holds
abbrev pub AllNone : List Case → Type 0
AllNone [] = ⊤
AllNone (c ∷ cs) = (c.holds ≡ false) × AllNone cs

pub all_none : (cs : List Case) → find (λ (c : Case). c.holds) cs ≡ None → AllNone cs
all_none [] h = tt
all_none (c ∷ cs) h = let parts = none_first c cs h in (parts.0, all_none cs parts.1)

pub none_from : (cs : List Case) → AllNone cs → find (λ (c : Case). c.holds) cs ≡ None
none_from [] h = refl
none_from (c ∷ cs) h = ap (λ b. cond b (Some c) (find (λ (c : Case). c.holds) cs)) h.0 ∙ none_from cs h.1

none_map : (x : Option Case) → is_none (option_map (λ (c : Case). c.rule) x) ≡ true → x ≡ None
none_map None h = refl
none_map (Some c) h = absurd (let wrong : true ≡ false = sym h in cc)

-- no case of rules holds of a unit
abbrev pub BreaksNone : List Judged → Judged → Type 0
BreaksNone past d = find (λ (c : Case). c.holds) (cases past d) ≡ None

pub breaks_none-at : (d : Judged) (past : List Judged) → breaks_none (d ∷ past) ≡ true → BreaksNone past d × (breaks_none past ≡ true)
unfolding breaks_none least_rule
breaks_none-at d past h =
    let parts : (is_none (option_map (λ (c : Case). c.rule) (find (λ (c : Case). c.holds) (cases past d))) ≡ true) × (breaks_none past ≡ true) =
    and_parts (is_none (option_map (λ (c : Case). c.rule) (find (λ (c : Case). c.holds) (cases past d)))) (breaks_none past) h in
    (none_map (find (λ (c : Case). c.holds) (cases past d)) parts.0, parts.1)

pub breaks_none-more : (d : Judged) (past : List Judged) → BreaksNone past d → breaks_none past ≡ true → breaks_none (d ∷ past) ≡ true
unfolding breaks_none least_rule
breaks_none-more d past h rest = ap (λ c. is_none (option_map (λ (c : Case). c.rule) c) && breaks_none past) h ∙ rest

-- the cases of a unit, by what they speak of
pub record BreaksNoneOf (earlier : List Fact) (seen : Look) (past : List Judged) (d : Judged) : Type 0 where
  pub of_item : find (λ (c : Case). c.holds) (item_cases d.fact.placed.item) ≡ None
  pub of_set : find (λ (c : Case). c.holds) (set_cases d.fact) ≡ None
  pub of_slice : find (λ (c : Case). c.holds) (slice_cases earlier d.fact) ≡ None
  pub of_picture : find (λ (c : Case). c.holds) (picture_cases seen d.fact) ≡ None
  pub of_output : find (λ (c : Case). c.holds) (output_cases past d) ≡ None
  pub mid : vps_mid_cvs (map (λ (f : Fact). f.placed) earlier) seen d.fact ≡ false

pub breaks_none-of : (past : List Judged) (d : Judged) → BreaksNone past d → BreaksNoneOf (map (λ (e : Judged). e.fact) past) (look (asked past d.fact) d.fact) past d
unfolding cases
breaks_none-of past d h =
    let earlier : List Fact = map (λ (e : Judged). e.fact) past in
    let seen : Look = look (asked past d.fact) d.fact in
    let last : List Case = case Rule.VpsMidCvs (vps_mid_cvs (map (λ (f : Fact). f.placed) earlier) seen d.fact) ∷ [] in
    let one = none_append ((((item_cases d.fact.placed.item ++ set_cases d.fact) ++ slice_cases earlier d.fact) ++ picture_cases seen d.fact) ++ output_cases past d) last h in
    let two = none_append (((item_cases d.fact.placed.item ++ set_cases d.fact) ++ slice_cases earlier d.fact) ++ picture_cases seen d.fact) (output_cases past d) one.0 in
    let three = none_append ((item_cases d.fact.placed.item ++ set_cases d.fact) ++ slice_cases earlier d.fact) (picture_cases seen d.fact) two.0 in
    let four = none_append (item_cases d.fact.placed.item ++ set_cases d.fact) (slice_cases earlier d.fact) three.0 in
    let five = none_append (item_cases d.fact.placed.item) (set_cases d.fact) four.0 in
    record {
      of_item = five.0;
      of_set = five.1;
      of_slice = four.1;
      of_picture = three.1;
      of_output = two.1;
      mid = (none_first (case Rule.VpsMidCvs (vps_mid_cvs (map (λ (f : Fact). f.placed) earlier) seen d.fact)) [] one.1).0;
    }

-- the rules of access units and of a changed video parameter set, of a unit behind others
hist_placed : (us : List (List ℕ)) → map (λ (f : Fact). f.placed) (map (λ (d : Judged). d.fact) (hist us)) ≡ all_placed (items us)
hist_placed us = ap (map (λ (f : Fact). f.placed)) (history_facts us) ∙ facts_placed us

fine-of : (us : List (List ℕ)) (u : List ℕ) → BreaksNone (hist us) (this_judged us u) → IsFine us u
unfolding slice_cases item_cases judged judgement fact
fine-of us u h =
    let parts = breaks_none-of (hist us) (this_judged us u) h in
    let each : AllNone (slice_cases (map (λ (d : Judged). d.fact) (hist us)) (this_fact us u)) = all_none (slice_cases (map (λ (d : Judged). d.fact) (hist us)) (this_fact us u)) parts.of_slice in
    let of_item : AllNone (item_cases (this us u).item) = all_none (item_cases (this us u).item) parts.of_item in
    record {
      base = ap (λ ps. no_base ps (this us u)) (sym (hist_placed us)) ∙ each.1.1.1.1.0;
      order = ap (λ ps. layer_order ps (this us u)) (sym (hist_placed us)) ∙ each.1.1.1.1.1.0;
      vps = of_item.1.1.1.1.1.1.1.1.1.1.1.1.1.1.1.1.1.1.1.0;
      own = ap (λ ps. orphan_slice ps (this us u)) (sym (hist_placed us)) ∙ each.1.1.1.1.1.1.0;
      mid = ap (λ ps. vps_mid_cvs ps (look (asked (hist us) (this_fact us u)) (this_fact us u)) (this_fact us u)) (sym (hist_placed us)) ∙ parts.mid;
    }

pub fine-accepted : (us : List (List ℕ)) → breaks_none (hist us) ≡ true → AllFine us
unfolding items run placed all_placed facts history
fine-accepted [] h = tt
fine-accepted (u ∷ us) h =
    let parts = breaks_none-at (this_judged us u) (hist us) h in
    (fine-of us u parts.0, fine-accepted us parts.1)
