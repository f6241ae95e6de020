-- The access unit of the next unit, and what a tracker answers of it.
use Rattle.std.proofs.Common.{◌≡◌, ℕ, ◌+◌, ◌<◌, ◌≤◌, Bool, true, false, ◌&&◌, ◌||◌, List, reverse, Option, None, Some, Result, Ok, Err, refl, ap, sym, subst, ◌∙◌, arith, if◌then◌else◌}
use Rattle.std.specs.Prelude.{All, nat_eq}
use Rattle.std.proofs.lemmas.List.Elements.{All-weaker}
use Rattle.mv_history.proofs.Kept.{All-unmap}
use Rattle.mv_rules.specs.declared.rule.Rule.{Rule}
use Rattle.mv_pictures.specs.AccessUnits.{Placed, all_placed, begins, has_slices, number, placed}
use Rattle.mv_pictures.specs.History.{facts_of, history_of}
use Rattle.mv_pictures.specs.Items.{is_known, is_picture, is_slice, is_vps, items}
use Rattle.mv_pictures.specs.Judged.{Judged, au}
use Rattle.mv_pictures.specs.Kinds.{is_opening_kind, is_slice_kind}
use Rattle.mv_commuting.proofs.OneVps.{vps_triggers}
use Rattle.mv_commuting.proofs.Places.{numbers_within}
use Rattle.mv_commuting.proofs.Shown.{placed_of_hist}
use Rattle.mv_commuting.proofs.Steady.{item_orderly}
use Rattle.mv_tried.proofs.Cases.{never}
use Rattle.mv_tried.proofs.Heads.{units-other}
use Rattle.mv_tried.proofs.Roles.{video_no_slice}
use Rattle.mv_au.specs.Tracker.{answer, broken, latest_au}
use Rattle.mv_au.specs.declared.access_units.AuStep.{AuStep}
use Rattle.mv_walk_laws.specs.Streams.{current, item_behind, placed_behind, placed_units}
use Rattle.mv_walk_laws.proofs.ByKind.{broken-is}
use Rattle.mv_walk_laws.proofs.OneMore.{number-is}

-- ---- Which access unit

pub joins-same : (us : List (List ℕ)) (u : List ℕ) → begins (placed_units us) (item_behind us u) ≡ false → number (placed_units us) (item_behind us u) ≡ current us
joins-same us u none =
    let is : number (placed_units us) (item_behind us u) ≡ current us + 0 = number-is us u ∙ ap (λ b. current us + (if b then 1 else 0)) none in
    omega (arith, is)

pub begins-next : (us : List (List ℕ)) (u : List ℕ) → begins (placed_units us) (item_behind us u) ≡ true → number (placed_units us) (item_behind us u) ≡ current us + 1
begins-next us u it = number-is us u ∙ ap (λ b. current us + (if b then 1 else 0)) it

-- a stray begins none
pub stray-begins : (us : List (List ℕ)) (u : List ℕ) → is_known (item_behind us u) ≡ false → begins (placed_units us) (item_behind us u) ≡ false
unfolding begins
stray-begins us u unknown =
    ap (λ k. (k && nat_eq (item_behind us u).head.layer 0 && (is_opening_kind (item_behind us u).head.kind || is_picture (item_behind us u))) && has_slices (placed_units us)) unknown

pub stray-same : (us : List (List ℕ)) (u : List ℕ) → is_known (item_behind us u) ≡ false → number (placed_units us) (item_behind us u) ≡ current us
stray-same us u unknown = joins-same us u (stray-begins us u unknown)

-- ---- No unit before it is of a later one

of-history : (P : ℕ → Type 0) (us : List (List ℕ)) → All (λ (q : Placed). P q.au) (placed_units us) → All (λ (d : Judged). P (au d.fact)) (history_of us)
unfolding history_of facts_of
of-history P us h = All-unmap (λ (q : Placed). P q.au) (λ (d : Judged). d.fact.placed) (history_of us) (subst (All (λ (q : Placed). P q.au)) (sym (placed_of_hist (reverse us))) h)

units-within : (us : List (List ℕ)) → All (λ (q : Placed). q.au ≤ current us) (placed_units us)
unfolding latest_au all_placed
units-within us = numbers_within (items (reverse us))

pub all-within : (us : List (List ℕ)) → All (λ (d : Judged). au d.fact ≤ current us) (history_of us)
all-within us = of-history (λ n. n ≤ current us) us (units-within us)

pub none-later : (us : List (List ℕ)) (u : List ℕ) → All (λ (d : Judged). au d.fact ≤ number (placed_units us) (item_behind us u)) (history_of us)
none-later us u =
    All-weaker (λ (d : Judged). au d.fact ≤ current us) (λ (d : Judged). au d.fact ≤ number (placed_units us) (item_behind us u)) (λ d le. let is = number-is us u in omega (arith, is, le)) (history_of us) (all-within us)

pub all-earlier : (us : List (List ℕ)) (u : List ℕ) → begins (placed_units us) (item_behind us u) ≡ true → All (λ (d : Judged). au d.fact < number (placed_units us) (item_behind us u)) (history_of us)
all-earlier us u it =
    All-weaker (λ (d : Judged). au d.fact ≤ current us) (λ (d : Judged). au d.fact < number (placed_units us) (item_behind us u)) (λ d le. let is = begins-next us u it in omega (arith, is, le)) (history_of us) (all-within us)

-- ---- Video parameter sets

pub vps-known : (us : List (List ℕ)) (u : List ℕ) → is_vps (item_behind us u) ≡ true → is_known (item_behind us u) ≡ true
vps-known us u is =
    first (is_known (item_behind us u)) (nat_eq (item_behind us u).head.layer 0) (is_opening_kind (item_behind us u).head.kind || is_picture (item_behind us u))
    (vps_triggers (item_behind us u) (item_orderly (reverse us) u) is)
  where
    first : (a b c : Bool) → (a && b && c) ≡ true → a ≡ true
    first true b c h = refl
    first false b c h = h

pub vps-no_slice : (us : List (List ℕ)) (u : List ℕ) → is_vps (item_behind us u) ≡ true → is_slice (item_behind us u) ≡ false
vps-no_slice us u is = never (is_known (item_behind us u)) (is_slice_kind (item_behind us u).head.kind) (video_no_slice (item_behind us u) is)

-- ---- What a tracker answers

pub answer-is : (us : List (List ℕ)) (u : List ℕ) →
    answer (items (reverse us)) (item_behind us u)
    ≡ (elim (broken (placed_units us) (placed_behind us u)) [ Some r ↦ Err r | None ↦ Ok (record { au = number (placed_units us) (item_behind us u); begins = begins (placed_units us) (item_behind us u) }) ])
unfolding answer placed
answer-is us u = refl

abbrev told : Option Rule → AuStep → Result AuStep Rule
told (Some r) step = Err r
told None step = Ok step

abbrev step_of : List (List ℕ) → List ℕ → AuStep
step_of us u = record { au = number (placed_units us) (item_behind us u); begins = begins (placed_units us) (item_behind us u) }

answer-told : (us : List (List ℕ)) (u : List ℕ) → answer (items (reverse us)) (item_behind us u) ≡ told (broken (placed_units us) (placed_behind us u)) (step_of us u)
answer-told us u = answer-is us u ∙ go (broken (placed_units us) (placed_behind us u))
  where
    go : (b : Option Rule) → Path (Result AuStep Rule) (elim b [ Some r ↦ Err r | None ↦ Ok (step_of us u) ]) (told b (step_of us u))
    go None = refl
    go (Some r) = refl

-- of a unit that is no slice segment
pub answer-other : (us : List (List ℕ)) (u : List ℕ) → is_slice (item_behind us u) ≡ false →
    answer (items (reverse us)) (item_behind us u) ≡ Ok (record { au = number (placed_units us) (item_behind us u); begins = begins (placed_units us) (item_behind us u) })
unfolding placed
answer-other us u none =
    answer-told us u
    ∙ ap (λ b. told b (step_of us u)) (sym (broken-is (placed_units us) (placed_behind us u)) ∙ units-other (placed_units us) (placed_behind us u) none)

-- and of any unit, by the least rule on access units that it breaks
pub answer-ok : (us : List (List ℕ)) (u : List ℕ) (step : AuStep) → answer (items (reverse us)) (item_behind us u) ≡ Ok step →
    (step ≡ record { au = number (placed_units us) (item_behind us u); begins = begins (placed_units us) (item_behind us u) }) × (broken (placed_units us) (placed_behind us u) ≡ None)
answer-ok us u step h = go (broken (placed_units us) (placed_behind us u)) (sym (answer-told us u) ∙ h)
  where
    go : (b : Option Rule) → told b (step_of us u) ≡ Ok step → (step ≡ step_of us u) × (b ≡ None)
    go None e = (let same : step ≡ step_of us u = cc in same, refl)
    go (Some r) e = absurd (let wrong : Path (Result AuStep Rule) (Err r) (Ok step) = e in cc)

pub answer-err : (us : List (List ℕ)) (u : List ℕ) (r : Rule) → answer (items (reverse us)) (item_behind us u) ≡ Err r → broken (placed_units us) (placed_behind us u) ≡ Some r
answer-err us u r h = go (broken (placed_units us) (placed_behind us u)) (sym (answer-told us u) ∙ h)
  where
    go : (b : Option Rule) → told b (step_of us u) ≡ Err r → b ≡ Some r
    go None e = absurd (let wrong : Path (Result AuStep Rule) (Ok (step_of us u)) (Err r) = e in cc)
    go (Some s) e = let same : s ≡ r = cc in ap Some same
