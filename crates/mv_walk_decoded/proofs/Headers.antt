-- The active layers of a header (F.7.4.7.1): at most 62, and of a picture of layer 0 none.
use Rattle.std.proofs.Common.{◌≡◌, ℕ, suc, ◌+◌, ◌≤◌, Bool, true, false, cond, not, ◌||◌, List, [], ◌∷◌, length, Option, Some, None, refl, ap, sym, subst, arith, ◌∙◌}
use Rattle.std.specs.Prelude.{nat_eq, option_and_then, option_map}
use Rattle.std.specs.Option.{IfSome}
use Rattle.mv_common.specs.declared.format.Format.{Format}
use Rattle.mv_syntax.specs.Table.{Valid}
use Rattle.mv_syntax.specs.Words.{coded_set, is_set, or_zero}
use Rattle.mv_units.specs.declared.head.UnitHead.{UnitHead}
use Rattle.mv_vps.specs.Vps.{WholeVps}
use Rattle.mv_sps.specs.Sps.{SpsValue}
use Rattle.mv_pps.specs.Pps.{PpsValue}
use Rattle.mv_slice.specs.Context.{Fits, SliceContextValue}
use Rattle.mv_slice.specs.InterLayer.{SliceInterLayerValue, inter_layer as inter_layer_fields}
use Rattle.mv_slice.specs.Layers.{active_layers as active_numbers, num_active_ref_layer_pics}
use Rattle.mv_slice.specs.Picture.{picture}
use Rattle.mv_slice.specs.Slice.{header_layers, slice_header}
use Rattle.mv_slice.specs.declared.slice.SliceFull.{SliceFull}
use Rattle.mv_slice.specs.declared.slice.SliceHead.{SliceHead}
use Rattle.mv_pictures.specs.AccessUnits.{Placed}
use Rattle.mv_pictures.specs.Carried.{value_of}
use Rattle.mv_pictures.specs.Contexts.{slice_context}
use Rattle.mv_pictures.specs.Facts.{Fact, Sets, context_of, fact, sets_of}
use Rattle.mv_pictures.specs.Layers.{whole}
use Rattle.mv_walk_decoded.proofs.Lower.{active_few, as_many, full_parts}

pub layers-few : (ctx : SliceContextValue) (kind : ℕ) (head : SliceHead) → Fits ctx → Valid (slice_header ctx kind) head → length (header_layers ctx head.full) ≤ 62
layers-few ctx kind head fits valid = go head.full (full_parts ctx kind head valid)
  where
    go : (o : Option SliceFull) → IfSome o (λ part. Valid (picture ctx kind) part.picture × Valid (inter_layer_fields ctx) part.inter_layer) → length (header_layers ctx o) ≤ 62
    go None h = omega arith
    go (Some full) h = subst (λ n. n ≤ 62) (sym (as_many ctx full.inter_layer fits h.1)) (active_few ctx full.inter_layer fits h.1)

no-length : (xs : List ℕ) → length xs ≡ 0 → xs ≡ []
no-length [] h = refl
no-length (x ∷ xs) h = absurd (omega (arith, h))

none-active : (ctx : SliceContextValue) (v : SliceInterLayerValue) → nat_eq ctx.layer 0 ≡ true → num_active_ref_layer_pics ctx v.inter_layer_pred_enabled_flag v.num_inter_layer_ref_pics_minus1 ≡ 0
unfolding num_active_ref_layer_pics
none-active ctx v base =
    ap (λ b. cond (b || nat_eq (length ctx.eligible) 0) 0 (cond (is_set ctx.default_ref_layers_active_flag) (length ctx.eligible) (cond (not (coded_set v.inter_layer_pred_enabled_flag)) 0
    (cond (is_set ctx.max_one_active_ref_layer_flag || nat_eq ctx.directs 1) 1 (or_zero v.num_inter_layer_ref_pics_minus1 + 1))))) base

pub layers-none : (ctx : SliceContextValue) (kind : ℕ) (head : SliceHead) → Fits ctx → Valid (slice_header ctx kind) head → nat_eq ctx.layer 0 ≡ true → header_layers ctx head.full ≡ []
layers-none ctx kind head fits valid base = go head.full (full_parts ctx kind head valid)
  where
    go : (o : Option SliceFull) → IfSome o (λ part. Valid (picture ctx kind) part.picture × Valid (inter_layer_fields ctx) part.inter_layer) → header_layers ctx o ≡ []
    go None h = refl
    go (Some full) h = no-length (header_layers ctx (Some full)) (as_many ctx full.inter_layer fits h.1 ∙ none-active ctx full.inter_layer base)

-- a context is of its unit's layer
pub layer-of : (earlier : List Fact) (q : Placed) (ctx : SliceContextValue) → (fact earlier q).context ≡ Some ctx → ctx.layer ≡ q.item.head.layer
unfolding fact context_of slice_context
layer-of earlier q ctx h = sets (sets_of earlier q) h
  where
    chosen : (a : Option WholeVps) (b : Option Format) (c : Option SpsValue) (d : Option PpsValue)
        → option_and_then (λ vps. option_and_then (λ format. option_and_then (λ sps. option_map (slice_context vps q.item.head format sps) d) c) b) a ≡ Some ctx
        → ctx.layer ≡ q.item.head.layer
    chosen (Some a) (Some b) (Some c) (Some d) h = let same : slice_context a q.item.head b c d ≡ ctx = cc in ap (λ (x : SliceContextValue). x.layer) (sym same)
    chosen None b c d h = absurd (cc)
    chosen (Some a) None c d h = absurd (cc)
    chosen (Some a) (Some b) None d h = absurd (cc)
    chosen (Some a) (Some b) (Some c) None h = absurd (cc)

    sets : (s : Sets) → context_of q s ≡ Some ctx → ctx.layer ≡ q.item.head.layer
    sets s h = chosen (whole q.item.at) s.format (option_and_then value_of s.sps) (option_and_then value_of s.pps) h
