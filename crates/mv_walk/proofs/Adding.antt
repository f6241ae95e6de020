-- What is kept of pictures behind a segment that isn't the first one of its picture.
use Rattle.std.proofs.Common.{◌≡◌, ℕ, ◌<◌, ◌≤◌, Bool, true, false, not, ◌&&◌, ◌||◌, List, ◌∷◌, length, Option, None, Some, refl, ap, sym, subst, ◌∙◌}
use Rattle.std.specs.Prelude.{nat_eq, option_map, is_some}
use Rattle.std.specs.Option.{IfSome}
use Rattle.std.proofs.lemmas.Bool.{and_parts, eqb-true}
use Rattle.mv_units.specs.declared.head.UnitHead.{UnitHead}
use Rattle.mv_pictures.specs.Facts.{Fact}
use Rattle.mv_pictures.specs.History.{judged}
use Rattle.mv_pictures.specs.Items as items
use Rattle.mv_pictures.specs.Judged.{Judged, is_end, is_layer_end, is_picture, is_slice, kind, layer}
use Rattle.mv_pictures.specs.Kinds.{is_eob_kind, is_eos_kind, is_slice_kind}
use Rattle.mv_au.specs.States as states
use Rattle.mv_au.proofs.StateLaws as state_laws
use Rattle.mv_reflists.specs.Sizes.{total}
use Rattle.mv_walk_order.specs.Orders as orders
use Rattle.mv_walk_layer.specs.Standing as layers
use Rattle.mv_walk_segment.specs.Open as open_picture
use Rattle.mv_walk_segment.specs.OpenValue.{DecodedValue, OpenValue, ServedValue}
use Rattle.mv_walk_segment.specs.Serving.{IsServing}
use Rattle.mv_walk_segment.specs.Taken.{AreShort}
use Rattle.mv_walk_sets.specs.InForce.{VpsInForceValue}
use Rattle.mv_walk.specs.Decoders.{DecoderStands, IsOpen, KeepsPictures, in_making, is_decoded_open, layer_at}
use Rattle.mv_walk.specs.declared.decoder.Decoder.{Decoder}
use Rattle.mv_walk.proofs.Others.{pictures-over}

-- a slice segment ends nothing
other-kind : (k n : ℕ) → is_slice_kind n ≡ false → is_slice_kind k ≡ true → nat_eq k n ≡ false
other-kind k n other slice = go (nat_eq k n) refl
  where
    go : (b : Bool) → nat_eq k n ≡ b → nat_eq k n ≡ false
    go true e = absurd (let w : true ≡ false = sym slice ∙ ap is_slice_kind (eqb-true k n e) ∙ other in cc)
    go false e = e

last-none : (x k y : Bool) → y ≡ false → (x && k && y) ≡ false
last-none true true y none = none
last-none true false y none = refl
last-none false true y none = refl
last-none false false y none = refl

neither : (a b : Bool) → a ≡ false → b ≡ false → (a || b) ≡ false
neither true b wrong none = absurd (let e : true ≡ false = wrong in cc)
neither false b same none = none

slice-kind : (p : Fact) → is_slice p ≡ true → is_slice_kind (kind p) ≡ true
slice-kind p slice = (and_parts (items.is_known p.placed.item) (is_slice_kind (kind p)) slice).1

pub segment-no_end : (p : Fact) → is_slice p ≡ true → is_end p ≡ false
segment-no_end p slice =
    last-none (nat_eq (layer p) 0) (items.is_known p.placed.item) (is_eos_kind (kind p) || is_eob_kind (kind p))
    (neither (is_eos_kind (kind p)) (is_eob_kind (kind p)) (other-kind (kind p) 36 refl (slice-kind p slice)) (other-kind (kind p) 37 refl (slice-kind p slice)))

pub segment-no_layer_end : (p : Fact) → is_slice p ≡ true → is_layer_end p ≡ false
segment-no_layer_end p slice = last-none (not (nat_eq (layer p) 0)) (items.is_known p.placed.item) (is_eos_kind (kind p)) (other-kind (kind p) 36 refl (slice-kind p slice))

-- the picture with its segment
few-kept : (old new : Option DecodedValue) → option_map (λ (d : DecodedValue). d.sizes) new ≡ option_map (λ (d : DecodedValue). d.sizes) old → (IfSome old (λ d. AreShort d.lists) → IfSome new (λ d. AreShort d.lists)) →
    IfSome old (λ d. (total d.sizes ≤ 255) × AreShort d.lists) → IfSome new (λ d. (total d.sizes ≤ 255) × AreShort d.lists)
few-kept None None e short h = tt
few-kept None (Some d) e short h = absurd (let w : Some d.sizes ≡ None = e in cc)
few-kept (Some d) None e short h = tt
few-kept (Some d) (Some n) e short h = let same : n.sizes ≡ d.sizes = (let w : Some n.sizes ≡ Some d.sizes = e in cc) in (subst (λ s. total s ≤ 255) (sym same) h.0, short h.1)

decoded-kept : (old new : Option DecodedValue) → option_map (λ (d : DecodedValue). d.sizes) new ≡ option_map (λ (d : DecodedValue). d.sizes) old → is_some new ≡ is_some old
decoded-kept None None e = refl
decoded-kept None (Some d) e = absurd (let w : Some d.sizes ≡ None = e in cc)
decoded-kept (Some d) None e = absurd (let w : None ≡ Some d.sizes = e in cc)
decoded-kept (Some d) (Some n) e = refl

-- what is kept stands for the segment
pub later-stands : {R W P : Type 0} (old new : Decoder R W P) (vps : VpsInForceValue) (past : List Judged) (p : Fact) (unit : ℕ) (it added : OpenValue) → DecoderStands old (Some vps) past unit →
    is_slice p ≡ true → is_picture p ≡ false → old.picture ≡ Some it → new.picture ≡ Some added → open_picture.Keeps it added → (IfSome it.decoded (λ d. AreShort d.lists) → IfSome added.decoded (λ d. AreShort d.lists)) → open_picture.IsOpen vps.value added (judged past p ∷ past) unit →
    new.states ≡ old.states → new.layers ≡ old.layers → new.order ≡ old.order → new.base_count ≡ old.base_count → new.pictures ≡ old.pictures → new.sequences ≡ old.sequences →
    ((n : ℕ) → in_making new.making n ≡ in_making old.making n) → IfSome new.making (λ m. m.shown.layer < 64) → is_some new.making ≡ is_some old.making →
    DecoderStands new (Some vps) (judged past p ∷ past) unit
later-stands {R} {W} {P} old new vps past p unit it added h slice later was now keeps short opens states_same layers_same order base pictures sequences makes low made =
    let o : IsOpen vps.value (Some it) past unit = subst (λ x. IsOpen vps.value x past unit) was h.open_is in
    let k : KeepsPictures old (judged past p ∷ past) old.making = pictures-over old past p old.making later h.keeps.pictures in
    record {
      keeps = record {
        states_are = subst (λ s. states.Stands s (judged past p ∷ past)) (sym states_same) (state_laws.stands-over past p later old.states h.keeps.states_are (segment-no_end p slice) (segment-no_layer_end p slice));
        pictures = record {
          all = ap (λ x. length x.items) layers_same ∙ k.all;
          layers_are = λ n lt. subst (layers.Stands (layer_at new.layers.items n) (judged past p ∷ past) n) (sym (makes n))
              (subst (λ x. layers.Stands (layer_at x.items n) (judged past p ∷ past) n (in_making old.making n)) (sym layers_same) (k.layers_are n lt));
          order_is = subst (λ s. orders.Stands s (judged past p ∷ past)) (sym order) k.order_is;
          base_is = λ q. k.base_is q ∙ sym base;
          pictures_are = pictures ∙ k.pictures_are;
          sequences_are = sequences ∙ k.sequences_are;
          in_layer = low;
        };
      };
      open_is = subst (λ x. IsOpen vps.value x (judged past p ∷ past) unit) (sym now) (record {
        stands = opens;
        serving = subst (λ (s : ServedValue). IsServing vps.value added.head s) (sym keeps.served_is) (subst (λ (i : UnitHead). IsServing vps.value i it.served) (sym keeps.head_is) o.serving);
        few = few-kept it.decoded added.decoded keeps.sizes_are short o.few;
      });
      made = made ∙ h.made ∙ ap is_decoded_open was ∙ sym (decoded-kept it.decoded added.decoded keeps.sizes_are) ∙ sym (ap is_decoded_open now);
    }
