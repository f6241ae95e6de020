-- The judge of pictures objects by rules by which no bytes are refused before their unit's end is known.
use Rattle.std.proofs.Common.{◌≡◌, inl, inr, ℕ, Bool, true, false, cond, List, [], ◌∷◌, ◌++◌, length, Option, None, Some, refl, ap, sym, ◌∙◌, map, if◌then◌else◌}
use Rattle.std.specs.Prelude.{option_map}
use Rattle.std.specs.List.{find, list_any, range_with_len}
use Rattle.std.specs.Option.{option_or}
use Rattle.std.proofs.lemmas.Bool.{or_from, or_parts}
use Rattle.std.proofs.lemmas.List.Folds.{list_any-append}
use Rattle.mv_rules.specs.declared.rule.Rule.{Rule}
use Rattle.mv_units.specs.Shown.{IsOneOf, early_rules}
use Rattle.mv_judging.specs.declared.stop.Objection.{Objection}
use Rattle.mv_judging.specs.Event.{IsLate}
use Rattle.mv_judging.specs.Format.{byte_stream}
use Rattle.mv_pictures.specs.Layers.{sets_at}
use Rattle.mv_pictures.specs.Facts.{Fact}
use Rattle.mv_pictures.specs.Judged.{Judged}
use Rattle.mv_pictures.specs.Look.{Look, asked, look}
use Rattle.mv_pictures.specs.Output.{is_late}
use Rattle.mv_pictures.specs.History.{history_of}
use Rattle.mv_pictures.specs.Rules.{Case, case, cases, item_cases, least_rule, output_cases, picture_cases, set_cases, slice_cases}
use Rattle.mv_pictures.specs.Verdict.{bytes_of, lacking, lacks, no_picture, objection, pictures}

-- a rule by which bytes are refused before their unit's end is known
is_early : Rule → Bool
is_early r = elim r [ Rule.Leading ↦ true | Rule.Emulation ↦ true | Rule.Long ↦ true | _ ↦ false ]

early_is : (r : Rule) → IsOneOf early_rules r → is_early r ≡ true
unfolding is_early
early_is r (inl h) = ap is_early h
early_is r (inr (inl h)) = ap is_early h
early_is r (inr (inr (inl h))) = ap is_early h
early_is r (inr (inr (inr h))) = absurd h

has_early : List Case → Bool
has_early cs = list_any (λ (c : Case). is_early c.rule) cs

output_early : (past : List Judged) (d : Judged) → has_early (output_cases past d) ≡ false
unfolding output_cases has_early is_early
output_early past d = go (range_with_len 0 (length (sets_at d.seq_vps)))
  where
    go : (ns : List ℕ) → list_any (λ (c : Case). is_early c.rule) (map (λ o. case (Rule.Reorder o) (is_late o past d)) ns) ≡ false
    go [] = refl
    go (n ∷ ns) = go ns

both : (xs ys : List Case) → has_early xs ≡ false → has_early ys ≡ false → has_early (xs ++ ys) ≡ false
unfolding has_early
both xs ys h k = list_any-append (λ (c : Case). is_early c.rule) xs ys ∙ or_from (has_early xs) (has_early ys) h k

no_early : (past : List Judged) (d : Judged) → has_early (cases past d) ≡ false
unfolding cases has_early is_early
no_early past d =
    let earlier : List Fact = map (λ (e : Judged). e.fact) past in
    let seen : Look = look (asked past d.fact) d.fact in
    both ((((item_cases d.fact.placed.item ++ set_cases d.fact) ++ slice_cases earlier d.fact) ++ picture_cases seen d.fact) ++ output_cases past d) _
    (both (((item_cases d.fact.placed.item ++ set_cases d.fact) ++ slice_cases earlier d.fact) ++ picture_cases seen d.fact) (output_cases past d)
    (both ((item_cases d.fact.placed.item ++ set_cases d.fact) ++ slice_cases earlier d.fact) (picture_cases seen d.fact)
    (both (item_cases d.fact.placed.item ++ set_cases d.fact) (slice_cases earlier d.fact)
    (both (item_cases d.fact.placed.item) (set_cases d.fact) (unfold item_cases in refl) (unfold set_cases in refl))
    (unfold slice_cases in refl))
    (unfold picture_cases in refl))
    (output_early past d))
    refl

found_early : (cs : List Case) (c : Case) → has_early cs ≡ false → find (λ (c : Case). c.holds) cs ≡ Some c → is_early c.rule ≡ false
unfolding has_early
found_early [] c h is = absurd (cc)
found_early (e ∷ es) c h is = go (e.holds) refl is (found_early es c)
  where
    parts : (is_early e.rule ≡ false) × (list_any (λ (c : Case). is_early c.rule) es ≡ false)
    parts = or_parts (is_early e.rule) (list_any (λ (c : Case). is_early c.rule) es) h

    go : (b : Bool) → e.holds ≡ b → cond b (Some e) (find (λ (c : Case). c.holds) es) ≡ Some c → (has_early es ≡ false → find (λ (c : Case). c.holds) es ≡ Some c → is_early c.rule ≡ false) → is_early c.rule ≡ false
    go true holds is rest = let same : e ≡ c = cc in ap (λ (c : Case). is_early c.rule) (sym same) ∙ parts.0
    go false holds is rest = rest parts.1 is

least_late : (past : List Judged) (d : Judged) (r : Rule) → least_rule past d ≡ Some r → is_early r ≡ false
unfolding least_rule
least_late past d r h = go (find (λ (c : Case). c.holds) (cases past d)) refl h
  where
    go : (x : Option Case) → find (λ (c : Case). c.holds) (cases past d) ≡ x → option_map (λ (c : Case). c.rule) x ≡ Some r → is_early r ≡ false
    go None is h = absurd (cc)
    go (Some c) is h = let same : c.rule ≡ r = cc in ap is_early (sym same) ∙ found_early (cases past d) c (no_early past d) is

objection_late : (n : ℕ) (ds : List Judged) (r : Rule) → objection n ds ≡ Some (Objection.Breaks r) → is_early r ≡ false
unfolding objection lacking
objection_late n [] r h = absurd (cc)
objection_late n (d ∷ past) r h = go (least_rule past d) refl h
  where
    last : (b : Bool) → cond b (Some (Objection.NoSuchSet n (length (sets_at d.fact.placed.item.at)))) None ≡ Some (Objection.Breaks r) → is_early r ≡ false
    last true h = absurd (cc)
    last false h = absurd (cc)

    go : (x : Option Rule) → least_rule past d ≡ x → option_or (option_map Objection.Breaks x) (if lacks n d.fact.placed.item then Some (Objection.NoSuchSet n (length (sets_at d.fact.placed.item.at))) else None) ≡ Some (Objection.Breaks r) → is_early r ≡ false
    go None is h = last (lacks n d.fact.placed.item) h
    go (Some s) is h = let same : s ≡ r = cc in least_late past d r (is ∙ ap Some same)

pub judged_late : (n : ℕ) → IsLate byte_stream (pictures n)
unfolding pictures is_early
judged_late n = record {
  late = λ before u rule h early. let wrong : true ≡ false = sym (early_is rule early) ∙ objection_late n (history_of (bytes_of (before ++ u ∷ []))) rule h in cc;
  ending = λ us rule h early. go rule (no_picture (history_of (bytes_of us))) h early;
}
  where
    go : (rule : Rule) (b : Bool) → cond b (Some (Objection.Breaks Rule.NoPicture)) None ≡ Some (Objection.Breaks rule) → IsOneOf early_rules rule → ⊥
    go rule true h early = let same : Rule.NoPicture ≡ rule = cc in let wrong : true ≡ false = sym (early_is rule early) ∙ ap is_early (sym same) in cc
    go rule false h early = cc
