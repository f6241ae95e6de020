-- A base picture that isn't decoded: what is answered of it, by the count that its layer answers.
use Rattle.std.proofs.Common.{◌≡◌, ◌<◌, ℕ, ℤ, Bool, true, false, cond, ◌&&◌, List, length, Option, None, refl, ap, sym, subst, ◌∙◌, arith}
use Rattle.std.specs.Prelude.{get_or, nat_eq, slice_set, Result, Ok, Err}
use Rattle.std.specs.Vec.{with_item}
use Rattle.std.proofs.lemmas.Bool.{eqb-true}
use Rattle.std.proofs.lemmas.List.{get_or-set_same, set-get_or}
use Rattle.std.specs.Result.{result_ok}
use Rattle.mv_rules.specs.declared.rule.Rule.{Rule}
use Rattle.mv_units.specs.declared.head.UnitHead.{UnitHead}
use Rattle.mv_pictures.specs.Counts.{count}
use Rattle.mv_pictures.specs.Facts.{Fact}
use Rattle.mv_pictures.specs.Judged.{Judged, layer}
use Rattle.mv_pictures.specs.Look.{look}
use Rattle.mv_pictures.specs.Starts.{is_decoded}
use Rattle.mv_rps.specs.Asked.{counted}
use Rattle.mv_rps.specs.declared.counts.PocAsk.{PocAsk}
use Rattle.mv_walk_layer.specs.LayerValue.{LayerValue, no_pictures, with_count}
use Rattle.mv_walk_layer.specs.Standing as layers
use Rattle.mv_walk_layer.specs.Standing.{asked_within, within}
use Rattle.mv_walk_segment.specs.Serving.{context_by}
use Rattle.mv_walk_sets.specs.InForce.{VpsInForceValue}
use Rattle.mv_walk_decoded.specs.Asked.{asked_by}
use Rattle.mv_walk.specs.Decoders.{KeepsPictures, layer_at}
use Rattle.mv_walk.specs.Firsts.{IsFirst, TakesPicture, place, unchanged}
use Rattle.mv_walk.specs.declared.decoder.Decoder.{Decoder}
use Rattle.mv_walk.specs.declared.ending.Stop.{Stop}
use Rattle.mv_walk.specs.declared.first.FirstSegment.{FirstSegment}
use Rattle.mv_walk.proofs.Skipping.{base-answers, base-counts, base-refused, base-takes, told_of}

told-ok : (r : Result ℤ Rule) → result_ok r ≡ told_of r
unfolding told_of
told-ok (Ok c) = refl
told-ok (Err rule) = refl

-- a place within a list has one value, whatever is told beside it
at-list : {A : Type 0} (xs : List A) (i : ℕ) (d e : A) → i < length xs → get_or xs i d ≡ get_or xs i e
at-list xs i d e lt = sym (get_or-set_same xs i (get_or xs i d) e lt) ∙ ap (λ ys. get_or ys i e) (set-get_or xs i d)

pub base-answered : {R W P : Type 0} (old : Decoder R W P) (vps : VpsInForceValue) (s : FirstSegment) (past : List Judged) (p : Fact) (q : PocAsk) (found after : LayerValue P) (answer : Result ℤ Rule) (c : Option ℤ) →
    KeepsPictures old past None → IsFirst vps s past p → is_decoded (look past p) p ≡ false → nat_eq s.head.layer 0 ≡ true → old.making ≡ None →
    q ≡ asked_by (place old.base_count s false) (context_by vps.value s.served.active s.head) s.header → found ≡ get_or old.layers.items 0 found → answer ≡ counted found.counts q → after ≡ with_count q found →
    c ≡ result_ok answer → TakesPicture past p (record old { layers = with_item old.layers 0 after; base_count = c }) (unchanged s (c, None))
base-answered {R} {W} {P} old vps s past p q found after answer c k f skipped zero making asked is counts kept ok = go (nat_eq s.head.layer 0 && s.behind_change) refl
  where
    its : LayerValue P
    its = layer_at old.layers.items 0

    base : nat_eq (layer p) 0 ≡ true
    base = ap (λ (h : UnitHead). nat_eq h.layer 0) f.head_is ∙ zero

    here : found ≡ its
    here = is ∙ at-list old.layers.items 0 found no_pictures (omega (arith, k.all))

    stands : layers.Stands its past (layer p) None
    stands = subst (λ n. layers.Stands its past n None) (sym (eqb-true (layer p) 0 base)) (k.layers_are 0 (omega arith))

    its_count : c ≡ within (count (look past p) p)
    its_count =
        ok ∙ told-ok answer ∙ ap told_of counts ∙ ap (λ (l : LayerValue P). told_of (counted l.counts q)) here ∙ ap (λ a. told_of (counted its.counts a)) asked
        ∙ base-answers its old.base_count vps s past p stands f skipped base

    its_layer : after ≡ with_count (asked_within (look past p) p) its
    its_layer = kept ∙ ap (with_count q) here ∙ ap (λ a. with_count a its) asked ∙ base-counts its old.base_count vps s past p f skipped base

    go : (b : Bool) → (nat_eq s.head.layer 0 && s.behind_change) ≡ b →
        TakesPicture past p (record old { layers = with_item old.layers 0 after; base_count = c }) (cond b (Err (Stop.Breaks Rule.VpsMidCvs)) (Ok (c, None)))
    go true e = base-refused (record old { layers = with_item old.layers 0 after; base_count = c }) vps s past p f skipped e
    go false e =
        base-takes old (record old { layers = with_item old.layers 0 after; base_count = c }) vps s past p c k f skipped zero e its_count (ap (slice_set old.layers.items 0) its_layer) refl refl refl refl making
