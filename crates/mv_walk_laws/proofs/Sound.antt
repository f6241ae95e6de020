-- Units of which none is objected to.
use Rattle.std.proofs.Common.{◌≡◌, ℕ, Bool, true, false, cond, List, [], ◌∷◌, ◌++◌, length, reverse, Option, None, Some, refl, ap, sym, subst, ◌∙◌}
use Rattle.std.specs.Prelude.{All, option_map}
use Rattle.std.specs.Option.{option_or}
use Rattle.std.proofs.lemmas.List.Elements.{All-cons, All-nil, All-push}
use Rattle.mv_history.specs.History.{run}
use Rattle.mv_rules.specs.declared.rule.Rule.{Rule}
use Rattle.mv_units.specs.Rules.{unit_rule}
use Rattle.mv_judging.specs.declared.stop.Objection.{Objection}
use Rattle.mv_pictures.specs.Facts.{fact}
use Rattle.mv_pictures.specs.AccessUnits.{placed}
use Rattle.mv_pictures.specs.History.{judged, judgement}
use Rattle.mv_pictures.specs.Items.{Item, items}
use Rattle.mv_pictures.specs.Layers.{sets_at}
use Rattle.mv_pictures.specs.Verdict.{lacking, lacks, objection}
use Rattle.mv_commuting.proofs.More.{history-more}
use Rattle.mv_tried.proofs.Verdicts.{none-first, none-more}
use Rattle.mv_walk_laws.specs.Streams.{IsSound, broken_behind, item_behind, objected}
use Rattle.mv_walk_laws.proofs.OneMore.{items-more}

-- what is said against the next unit, by the least rule that it breaks
pub objected-is : (o : ℕ) (us : List (List ℕ)) (u : List ℕ) → objected o us u ≡ option_or (option_map Objection.Breaks (broken_behind us u)) (lacking o (item_behind us u))
unfolding objection judged judgement fact placed
objected-is o us u = ap (objection o) (history-more us u)

pub broken-objected : (o : ℕ) (us : List (List ℕ)) (u : List ℕ) (rule : Rule) → broken_behind us u ≡ Some rule → objected o us u ≡ Some (Objection.Breaks rule)
broken-objected o us u rule h = objected-is o us u ∙ ap (λ r. option_or (option_map Objection.Breaks r) (lacking o (item_behind us u))) h

pub unbroken-objected : (o : ℕ) (us : List (List ℕ)) (u : List ℕ) → broken_behind us u ≡ None → objected o us u ≡ lacking o (item_behind us u)
unbroken-objected o us u h = objected-is o us u ∙ ap (λ r. option_or (option_map Objection.Breaks r) (lacking o (item_behind us u))) h

-- a unit that isn't objected to breaks no rule, and has the output layer set that is asked for
none_said : (o : ℕ) (i : Item) (r : Option Rule) → option_or (option_map Objection.Breaks r) (lacking o i) ≡ None → (r ≡ None) × (lacks o i ≡ false)
unfolding lacking
none_said o i (Some r) h = absurd (let wrong : Some (Objection.Breaks r) ≡ None = h in cc)
none_said o i None h = (refl, go (lacks o i) h)
  where
    go : (b : Bool) → cond b (Some (Objection.NoSuchSet o (length (sets_at i.at)))) None ≡ None → b ≡ false
    go true wrong = absurd (let e : Some (Objection.NoSuchSet o (length (sets_at i.at))) ≡ None = wrong in cc)
    go false same = refl

pub accepted-unbroken : (o : ℕ) (us : List (List ℕ)) (u : List ℕ) → objected o us u ≡ None → broken_behind us u ≡ None
accepted-unbroken o us u h = (none_said o (item_behind us u) (broken_behind us u) (sym (objected-is o us u) ∙ h)).0

pub accepted-has : (o : ℕ) (us : List (List ℕ)) (u : List ℕ) → objected o us u ≡ None → lacks o (item_behind us u) ≡ false
accepted-has o us u h = (none_said o (item_behind us u) (broken_behind us u) (sym (objected-is o us u) ∙ h)).1

pub sound-first : (o : ℕ) → IsSound o []
unfolding items run
sound-first o = record { clean = All-nil (λ (u : List ℕ). unit_rule u ≡ None); breaks = none-first; has_set = All-nil (λ (i : Item). lacks o i ≡ false) }

pub sound-more : (o : ℕ) (us : List (List ℕ)) (u : List ℕ) → IsSound o us → unit_rule u ≡ None → objected o us u ≡ None → IsSound o (us ++ u ∷ [])
sound-more o us u s clean accepted = record {
  clean = All-push (λ (u : List ℕ). unit_rule u ≡ None) us u s.clean clean;
  breaks = none-more o us u s.breaks accepted;
  has_set = subst (All (λ (i : Item). lacks o i ≡ false)) (sym (items-more us u))
      (All-cons (λ (i : Item). lacks o i ≡ false) (item_behind us u) (items (reverse us)) (accepted-has o us u accepted) s.has_set);
}
