-- What is kept, made and shown stays the values of its terms by a unit that is no slice segment.
use Rattle.std.proofs.Common.{◌≡◌, ℕ, false, cond, ◌&&◌, All, List, [], ◌∷◌, filter, get_or, length, ◌-◌, reverse, Option, Some, None, refl, sym, ap, ◌∙◌, subst}
use Rattle.std.specs.Option.{IfSome}
use Rattle.std.specs.List.{find}
use Rattle.std.proofs.lemmas.List.Elements.{All-cons, All-nil}
use Rattle.mv_dpb.specs.declared.shown.Shown.{Shown}
use Rattle.mv_dpb.specs.Waiting.{WaitingValue}
use Rattle.mv_pictures.specs.Facts.{Fact}
use Rattle.mv_pictures.specs.Held.{Held}
use Rattle.mv_pictures.specs.History.{judged, judgement}
use Rattle.mv_pictures.specs.Judged.{Judged, begins, is_picture, is_slice, layer}
use Rattle.mv_pictures.specs.Output.{is_before, is_output, outputs}
use Rattle.mv_pictures.specs.SliceFields.{is_put_out}
use Rattle.mv_history.specs.Order.{sorted}
use Rattle.mv_layers.specs.OutputLayers.{is_among}
use Rattle.mv_commuting.proofs.NoPicture.{held-same}
use Rattle.mv_rebuild.specs.Parts.{Making}
use Rattle.mv_walk_laws.proofs.Behind.{plain-begins, plain-decoded}
use Rattle.mv_walk_layer.specs.LayerValue.{LayerValue, no_pictures}
use Rattle.mv_walk_values.specs.Holding.{whole_held}
use Rattle.mv_walk_values.specs.InMaking.{IsInMaking, MadeValue, is_output_made, made_in}
use Rattle.mv_walk_values.specs.Showing.{in_order}
use Rattle.mv_walk_values.specs.Standing.{ValuesStand}
use Rattle.mv_walk_values.specs.Values.{is_segment_of}
use Rattle.mv_walk_values.proofs.Holding.{holds_kept}
use Rattle.mv_walk_values.proofs.Showing.{same_whole_later, shows_kept}
use Rattle.mv_walk_values.proofs.Terms.{no_slice, parts_kept, shown_same}

pub fact_is : (past : List Judged) (p : Fact) → (judged past p).fact ≡ p
unfolding judged judgement
fact_is past p = refl

pub no_output : (o : ℕ) (d : Judged) → d.decoded ≡ false → is_output o d ≡ false
unfolding is_output
no_output o d h = ap (λ b. b && is_among (outputs d.seq_vps o) (layer d.fact) && is_put_out d.fact) h

pub every : {A : Type 0} (Q : A → Type 0) → ((x : A) → Q x) → (xs : List A) → All Q xs
every Q h [] = All-nil Q
every Q h (x ∷ xs) = All-cons Q x xs (h x) (every Q h xs)

made_kept : {W P : Type 0} (meaning : Making W P) (o : ℕ) (past : List Judged) (e : Judged) (m : MadeValue W) → is_picture e.fact ≡ false → is_slice e.fact ≡ false → IsInMaking meaning o past m → IsInMaking meaning o (e ∷ past) m
made_kept meaning o past e m none slice made =
    record {
      it = made.it;
      latest = ap (λ b. cond b (Some e) (find (λ (d : Judged). is_picture d.fact) past)) none ∙ made.latest;
      decoded = made.decoded;
      work_stands = subst (meaning.stands m.work) (sym (parts_kept meaning.picture e made.it past (no_slice e made.it slice))) made.work_stands;
      shown_is = made.shown_is ∙ shown_same past (e ∷ past) made.it;
      au_is = made.au_is;
      output_is = made.output_is;
    }

-- a passed unit, a stray, a parameter set, an end: what is kept stands for the history with it too
pub no_segment : {W P : Type 0} (meaning : Making W P) (o : ℕ) (past : List Judged) (p : Fact) (layers : List (LayerValue P)) (making : Option (MadeValue W)) (q : Option (WaitingValue P)) (shown : List (Shown × P)) →
    is_picture p ≡ false → is_slice p ≡ false → ValuesStand meaning o past layers making q shown → ValuesStand meaning o (judged past p ∷ past) layers making q shown
no_segment {W} {P} meaning o past p layers making q shown none slice stands =
    record {
      held = λ n low.
          holds_kept meaning.picture (get_or layers n no_pictures) (judged past p) past n (made_in making n) (held-same past p n none)
          (every (λ (h : Held). is_segment_of h.it (judged past p) ≡ false) (λ h. no_slice (judged past p) h.it this_slice) (reverse (whole_held past n (made_in making n)))) (stands.held n low);
      made = still making stands.made;
      output =
          shows_kept meaning.picture o (judged past p) past (is_output_made making) (is_output_made making) q shown
          (ap (sorted is_before) (same_whole_later o (judged past p) past (is_output_made making) (no_output o (judged past p) (plain-decoded past p none))))
          (every (λ d. is_segment_of d (judged past p) ≡ false) (λ d. no_slice (judged past p) d this_slice) (in_order o past (is_output_made making)))
          (ap (λ b. length (cond b (judged past p ∷ filter begins past) (filter begins past)) - 1) (plain-begins past p none))
          stands.output;
    }
  where
    this_slice : is_slice (judged past p).fact ≡ false
    this_slice = ap is_slice (fact_is past p) ∙ slice

    still : (m : Option (MadeValue W)) → IfSome m (IsInMaking meaning o past) → IfSome m (IsInMaking meaning o (judged past p ∷ past))
    still None h = h
    still (Some m) h = made_kept meaning o past (judged past p) m (ap is_picture (fact_is past p) ∙ none) this_slice h
