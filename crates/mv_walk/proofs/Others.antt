-- Units that are no slice segments: what is kept of pictures stands for them too.
use Rattle.std.proofs.Common.{◌≡◌, ℕ, Bool, true, false, cond, not, ◌&&◌, ◌||◌, List, ◌∷◌, length, Option, None, Some, refl, ap, sym, ◌∙◌, filter}
use Rattle.std.specs.Prelude.{nat_eq, option_and_then}
use Rattle.mv_pictures.specs.Facts.{Fact}
use Rattle.mv_pictures.specs.History.{judged, judgement}
use Rattle.mv_pictures.specs.Judged.{Judged, begins, is_picture, is_slice, layer, of_layer}
use Rattle.mv_pictures.specs.Items.{is_first_segment}
use Rattle.mv_pictures.specs.Look.{asked, look}
use Rattle.mv_pictures.specs.Starts.{is_anew, is_decoded, is_idr_or_bla, is_sequence_start, is_skipped}
use Rattle.mv_au.specs.States as states
use Rattle.mv_walk_layer.proofs.Stepping.{no-picture}
use Rattle.mv_walk_layer.specs.Standing.{within}
use Rattle.mv_walk_order.proofs.OrderLaws.{no_picture}
use Rattle.mv_walk_segment.proofs.AfterLaws.{other-stands}
use Rattle.mv_walk_segment.specs.OpenValue.{OpenValue}
use Rattle.mv_walk_sets.specs.InForce.{VpsInForceValue}
use Rattle.mv_walk.specs.Decoders.{DecoderStands, KeepsPictures, Opens, base_count, in_making, layer_at}
use Rattle.mv_walk.specs.declared.decoder.Decoder.{Decoder}
use Rattle.mv_walk.specs.declared.making.Making.{Making}

-- what is no picture is neither decoded nor the start of a sequence
undecoded : (past : List Judged) (p : Fact) → is_picture p ≡ false → (judged past p).decoded ≡ false
unfolding judged judgement is_decoded
undecoded past p none = ap (λ b. b && not (is_skipped (look (asked past p) p) p)) none

and-false : (b : Bool) → (b && false) ≡ false
and-false true = refl
and-false false = refl

starts-none : (past : List Judged) (p : Fact) → is_picture p ≡ false → (judged past p).seq ≡ false
unfolding judged judgement is_sequence_start
starts-none past p none =
    ap (λ b. (nat_eq (layer p) 0 && b) && (is_idr_or_bla p || is_anew (look (asked past p) p))) none
    ∙ ap (λ b. b && (is_idr_or_bla p || is_anew (look (asked past p) p))) (and-false (nat_eq (layer p) 0))

begins-none : (past : List Judged) (p : Fact) → is_picture p ≡ false → begins (judged past p) ≡ false
begins-none past p none = ap (λ b. of_layer 0 (judged past p) && b) (starts-none past p none) ∙ and-false (of_layer 0 (judged past p))

-- the latest base picture is the one before
same-base : (past : List Judged) (p q : Fact) → is_picture p ≡ false → base_count (judged past p ∷ past) q ≡ base_count past q
unfolding look judged judgement
same-base past p q none =
    ap (λ b. within (option_and_then (λ (d : Judged). d.count) (cond (of_layer 0 (judged past p) && b) (Some (judged past p)) (look past q).base))) none
    ∙ ap (λ b. within (option_and_then (λ (d : Judged). d.count) (cond b (Some (judged past p)) (look past q).base))) (and-false (of_layer 0 (judged past p)))

same-count : (test : Judged → Bool) (past : List Judged) (d : Judged) → test d ≡ false → length (filter test (d ∷ past)) ≡ length (filter test past)
same-count test past d none = ap (λ b. length (cond b (d ∷ filter test past) (filter test past))) none

-- what is kept of pictures beside the states of layers goes on
pub pictures-over : {R W P : Type 0} (d : Decoder R W P) (past : List Judged) (p : Fact) (making : Option (Making R W P)) → is_picture p ≡ false →
    KeepsPictures d past making → KeepsPictures d (judged past p ∷ past) making
pictures-over d past p making none k = record {
  all = k.all;
  layers_are = λ n lt. no-picture (layer_at d.layers.items n) past p n (in_making making n) none (k.layers_are n lt);
  order_is = no_picture d.order past p none k.order_is;
  base_is = λ q. same-base past p q none ∙ k.base_is q;
  pictures_are = k.pictures_are ∙ sym (same-count (λ (q : Judged). q.decoded) past (judged past p) (undecoded past p none));
  sequences_are = k.sequences_are ∙ sym (same-count begins past (judged past p) (begins-none past p none));
  in_layer = k.in_layer;
}

-- ---- The open picture

no-picture-in : (p : Fact) → is_slice p ≡ false → is_picture p ≡ false
no-picture-in p none = ap (λ b. b && is_first_segment p.placed.item.opening) none

pub opens-over : (vps : Option VpsInForceValue) (picture : Option OpenValue) (past : List Judged) (p : Fact) (unit : ℕ) → is_slice p ≡ false →
    Opens vps picture past unit → Opens vps picture (judged past p ∷ past) unit
opens-over None picture past p unit none h = h
opens-over (Some v) picture past p unit none h = record { stands = other-stands past p none v.value picture unit h.stands; serving = h.serving; few = h.few }

-- all that is kept of pictures, where the states of layers stand for the unit too
pub decoder-over : {R W P : Type 0} (d : Decoder R W P) (vps : Option VpsInForceValue) (past : List Judged) (p : Fact) (unit : ℕ) → is_slice p ≡ false →
    states.Stands d.states (judged past p ∷ past) → DecoderStands d vps past unit → DecoderStands d vps (judged past p ∷ past) unit
decoder-over d vps past p unit none now h = record {
  keeps = record { states_are = now; pictures = pictures-over d past p d.making (no-picture-in p none) h.keeps.pictures };
  open_is = opens-over vps d.picture past p unit none h.open_is;
  made = h.made;
}
