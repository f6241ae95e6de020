-- Units that join an access unit: what the tracker answers, and what is kept of pictures then.
use Rattle.std.proofs.Common.{◌≡◌, ℕ, ◌<◌, ◌+◌, ◌^◌, Bool, true, false, cond, List, ◌∷◌, length, reverse, Option, None, Some, refl, ap, sym, subst, ◌∙◌}
use Rattle.std.specs.Prelude.{◌≤◌, All, Result, Ok, Err, is_some}
use Rattle.std.specs.Option.{IfSome}
use Rattle.mv_units.specs.declared.head.UnitHead.{UnitHead}
use Rattle.mv_pictures.specs.AccessUnits.{begins, number}
use Rattle.mv_pictures.specs.History.{history_of}
use Rattle.mv_pictures.specs.Items.{Item, is_picture, is_slice, items}
use Rattle.mv_pictures.specs.Judged.{Judged, au}
use Rattle.mv_reflists.specs.Sizes.{total}
use Rattle.mv_au.specs.Tracker as tracker
use Rattle.mv_au.specs.Tracker.{IsTold}
use Rattle.mv_au.specs.declared.access_units.AuStep.{AuStep}
use Rattle.mv_walk_segment.specs.Open as open_picture
use Rattle.mv_walk_segment.specs.OpenValue.{OpenValue}
use Rattle.mv_walk_segment.specs.Serving.{IsServing}
use Rattle.mv_walk_segment.specs.Taken.{AreShort}
use Rattle.mv_walk_segment.proofs.AfterLaws.{none-stands}
use Rattle.mv_walk_sets.specs.InForce.{VpsInForceValue}
use Rattle.mv_walk_laws.specs.Streams.{current, item_behind, placed_units}
use Rattle.mv_walk_laws.proofs.Lengths.{items-length}
use Rattle.mv_walk_laws.proofs.Steps.{all-earlier, answer-other, joins-same}
use Rattle.mv_walk.specs.Courses.{Stood}
use Rattle.mv_walk.specs.Decoders.{Between, DecoderStands, IsClosed, Keeps, Opens, is_decoded_open}
use Rattle.mv_walk.specs.Taking.{Joins, step_behind}
use Rattle.mv_walk.specs.declared.course.Course.{Course}
use Rattle.mv_walk.specs.declared.decoder.Decoder.{Decoder}

-- ---- The tracker

pub few-items : (us : List (List ℕ)) → length us + 1 < 2 ^ 64 → length (items (reverse us)) + 1 < 2 ^ 64
few-items us few = subst (λ n. n + 1 < 2 ^ 64) (sym (items-length us)) few

no-segment : (b p : Bool) → None ≡ cond b (Some p) None → b ≡ false
no-segment true p h = absurd (let e : None ≡ Some p = h in cc)
no-segment false p h = refl

pub told-no_slice : (i : Item) (h : UnitHead) → IsTold i h None → is_slice i ≡ false
told-no_slice i h told = no-segment (is_slice i) (is_picture i) told.first_is

pub no-refusal : {A E : Type 0} (r : Result A E) (e : E) (a : A) → r ≡ Err e → r ≡ Ok a → ⊥
no-refusal r e a err ok = cc

-- ---- Pictures

closed-opens : (vps : Option VpsInForceValue) (picture : Option OpenValue) (past : List Judged) (n : ℕ) → picture ≡ None → All (λ (d : Judged). au d.fact < n) past → Opens vps picture past n
closed-opens None picture past n none earlier = none
closed-opens (Some v) picture past n none earlier = record {
  stands = subst (λ o. open_picture.Stands v.value o past n) (sym none) (none-stands v.value past n earlier);
  serving = subst (λ o. IfSome o (λ it. IsServing v.value it.head it.served)) (sym none) tt;
  few = subst (λ o. IfSome o (λ (it : OpenValue). IfSome it.decoded (λ decoded. (total decoded.sizes ≤ 255) × AreShort decoded.lists))) (sym none) tt;
}

-- where all pictures are whole, what is kept stands behind the beginning of an access unit
pub closed-stands : {R W P : Type 0} (d : Decoder R W P) (vps : Option VpsInForceValue) (past : List Judged) (n : ℕ) → IsClosed d past → All (λ (e : Judged). au e.fact < n) past → DecoderStands d vps past n
closed-stands d vps past n c earlier = record {
  keeps = subst (Keeps d past) (sym c.none_made) c.keeps;
  open_is = closed-opens vps d.picture past n c.none_open earlier;
  made = ap is_some c.none_made ∙ sym (ap is_decoded_open c.none_open);
}

between-stands : {R W P : Type 0} (old new : Decoder R W P) (vps : Option VpsInForceValue) (us : List (List ℕ)) (u : List ℕ) (b : Bool) → begins (placed_units us) (item_behind us u) ≡ b →
    Between b old new → DecoderStands old vps (history_of us) (current us) → DecoderStands new vps (history_of us) (number (placed_units us) (item_behind us u))
between-stands old new vps us u true starts between h = closed-stands new vps (history_of us) (number (placed_units us) (item_behind us u)) (between (history_of us) h.keeps) (all-earlier us u starts)
between-stands old new vps us u false goes between h =
    subst (λ n. DecoderStands new vps (history_of us) n) (sym (joins-same us u goes)) (subst (λ d. DecoderStands d vps (history_of us) (current us)) (sym between) h)

-- a unit that is no slice segment joined its access unit
pub joined : {R W P : Type 0} (old new : Course R W P) (us : List (List ℕ)) (u : List ℕ) (h : UnitHead) (step : AuStep) → Stood old us → IsTold (item_behind us u) h None →
    Ok step ≡ tracker.answer (items (reverse us)) (item_behind us u) → tracker.Stands new.units (item_behind us u ∷ items (reverse us)) → Between step.begins old.decoder new.decoder →
    new ≡ record old { units = new.units; decoder = new.decoder } → new.decoder.asked ≡ old.decoder.asked → Joins us u old new (Ok step)
joined {R} {W} {P} old new us u h step s told answered tracked between rest asked =
    let is : step ≡ step_behind us u = (let e : Ok step ≡ Ok (step_behind us u) = answered ∙ answer-other us u (told-no_slice (item_behind us u) h told) in cc) in
    let vps : new.vps ≡ old.vps = ap (λ (c : Course R W P). c.vps) rest in (
      record {
        units_are = tracked;
        decoder_is = subst (λ v. DecoderStands new.decoder v (history_of us) (number (placed_units us) (item_behind us u))) (sym vps)
            (between-stands old.decoder new.decoder old.vps us u step.begins (sym (ap (λ (t : AuStep). t.begins) is)) between s.decoder_is);
        vps_is = vps;
        changed_is = ap (λ (c : Course R W P). c.changed) rest;
        sets_are = ap (λ (c : Course R W P). c.sets) rest;
        asked_is = asked;
      },
      is,
    )
