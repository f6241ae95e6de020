-- The picture that its first segment opens.
use Rattle.std.proofs.Common.{◌≡◌, ◌≤◌, ℤ, false, List, ◌∷◌, Option, None, Some, refl, ap, ap₂, sym, ◌∙◌}
use Rattle.std.specs.Prelude.{Ok}
use Rattle.std.specs.Option.{IfSome}
use Rattle.mv_syntax.specs.Words.{or_zero}
use Rattle.mv_pictures.specs.Facts.{Fact}
use Rattle.mv_pictures.specs.History.{judged}
use Rattle.mv_pictures.specs.Judged.{Judged}
use Rattle.mv_pictures.specs.Layers.{whole}
use Rattle.mv_pictures.specs.Look.{look}
use Rattle.mv_pictures.specs.PictureRules.{no_irap}
use Rattle.mv_au.specs.States as states
use Rattle.mv_au.specs.States.{state_of}
use Rattle.mv_au.specs.declared.states.PicState.{PicState}
use Rattle.mv_reflists.specs.Sizes.{total}
use Rattle.mv_walk_segment.specs.Open as open_picture
use Rattle.mv_walk_segment.specs.OpenValue.{DecodedValue, OpenValue}
use Rattle.mv_walk_segment.specs.Serving.{IsServing}
use Rattle.mv_walk_segment.specs.Taken.{AreShort}
use Rattle.mv_walk_segment.proofs.AfterLaws.{first-stands}
use Rattle.mv_walk_sets.specs.InForce.{VpsInForceValue}
use Rattle.mv_walk_laws.specs.Rest.{picture_rule}
use Rattle.mv_walk.specs.Decoders.{KeepsPictures}
use Rattle.mv_walk.specs.Firsts.{AreTold, IsFirst, TakesFirst, TakesPicture}
use Rattle.mv_walk.specs.declared.decoder.Decoder.{Decoder}
use Rattle.mv_walk.specs.declared.first.FirstSegment.{FirstSegment}
use Rattle.mv_walk.proofs.Beginning.{decoded-is, slice-is}
use Rattle.mv_walk.proofs.Tried.{picture-taken}

abbrev pub opened : FirstSegment → Option DecodedValue → OpenValue
opened s decoded = record { head = s.head; served = s.served; first = s.header; address = or_zero s.header.address.slice_segment_address; decoded = decoded }

opens : (vps : VpsInForceValue) (s : FirstSegment) (past : List Judged) (p : Fact) (told : Option ℤ × Option DecodedValue) → IsFirst vps s past p → AreTold past p told →
    open_picture.IsFirst vps.value (opened s told.1) past p
opens vps s past p told f t = record {
  slice = slice-is p f.picture;
  picture = f.picture;
  vps_is = ap whole f.vps_is;
  head_is = f.head_is;
  sets_are = f.sets_are;
  context_is = f.context_is;
  opening_is = f.header_is.opening_is;
  header_is = f.header_is.header_is;
  address_is = refl;
  decoded_is = decoded-is past p f.picture ∙ sym t.1;
  lists_are = lists told.1 t.2;
}
  where
    lists : (o : Option DecodedValue) → IfSome o (λ d. open_picture.AreLists d (judged past p) (judged past p) × (total d.sizes ≤ 255) × AreShort d.lists) → IfSome o (λ d. open_picture.AreLists d (judged past p) (judged past p))
    lists None h = tt
    lists (Some d) h = h.0

few-told : (past : List Judged) (p : Fact) (o : Option DecodedValue) → IfSome o (λ d. open_picture.AreLists d (judged past p) (judged past p) × (total d.sizes ≤ 255) × AreShort d.lists) → IfSome o (λ d. (total d.sizes ≤ 255) × AreShort d.lists)
few-told past p None h = tt
few-told past p (Some d) h = (h.1, h.2)

-- what is kept stands for it, where it is accepted
pub first-taken : {R W P : Type 0} (taken : Decoder R W P) (vps : VpsInForceValue) (s : FirstSegment) (past : List Judged) (p : Fact) (state : PicState) (told : Option ℤ × Option DecodedValue) → IsFirst vps s past p →
    IsServing vps.value s.head s.served → no_irap (look past p) p ≡ false → state ≡ state_of (look past p) p → states.Stands taken.states (judged past p ∷ past) → TakesPicture past p taken (Ok told) →
    TakesFirst vps past p (record taken { picture = Some (opened s told.1) }) (Ok (state, told.0))
first-taken {R} {W} {P} taken vps s past p state told f serving irap is stands t =
    let none : picture_rule past p ≡ None = picture-taken past p irap ∙ t.0 in
    let kept : KeepsPictures taken (judged past p ∷ past) taken.making = t.1 none in
    let are : AreTold past p told = t.3 in (
      none,
      record {
        keeps = record {
          states_are = stands;
          pictures = record {
            all = kept.all;
            layers_are = kept.layers_are;
            order_is = kept.order_is;
            base_is = kept.base_is;
            pictures_are = kept.pictures_are;
            sequences_are = kept.sequences_are;
            in_layer = kept.in_layer;
          };
        };
        open_is = record { stands = first-stands vps.value (opened s told.1) past p (opens vps s past p told f are); serving = serving; few = few-told past p told.1 are.2 };
        made = t.2 ∙ sym are.1;
      },
      ap₂ (λ (a : PicState) (c : Option ℤ). (a, c)) is are.0,
    )
