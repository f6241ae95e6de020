-- The inter-layer fields of a slice segment header (F.7.3.6.1). A number past the direct reference layers, one that asks for
-- more layers than may be referred to, and layers that don't rise break the syntax rule, 52 (this project's profile).
use Rattle.std.specs.Prelude.{ℕ, Bool, not, ◌&&◌, ◌||◌, List, Option, Some, nat_lt, nat_le, nat_eq, refl}
use Rattle.std.specs.List.{list_any}
use Rattle.mv_syntax.specs.Table.{Table, ◌>>=◌, u, named, when, shaped}
use Rattle.mv_syntax.specs.Words.{◌▸◌, ◌!◌∶◌, at_least, is_set, coded_set}
use Rattle.mv_syntax.specs.Loops.{items_after}
use Rattle.mv_rules.specs.declared.rule.Rule.TheVariants.{SliceSyntax}
use Rattle.mv_slice.specs.Context.{SliceContextValue}
use Rattle.mv_fields.specs.Widths.{clog2}
use Rattle.mv_slice.specs.Layers.{num_active_ref_layer_pics, lacks_layers}

-- the fields in coded order; a loop that is not coded is None
pub record SliceInterLayerValue : Type 0 where
  pub inter_layer_pred_enabled_flag : Option ℕ
  pub num_inter_layer_ref_pics_minus1 : Option ℕ
  pub inter_layer_pred_layer_idc : Option (List ℕ)

-- num_inter_layer_ref_pics_minus1 names a number past the direct reference layers, or asks for more layers than are eligible
abbrev pub is_bad_number : SliceContextValue → ℕ → Bool
is_bad_number ctx n = at_least ctx.directs n || lacks_layers ctx (num_active_ref_layer_pics ctx (Some 1) (Some n))

-- inter_layer_pred_layer_idc is past the direct reference layers, or not above those before it
abbrev pub is_bad_layer : SliceContextValue → List ℕ → ℕ → Bool
is_bad_layer ctx before n = at_least ctx.directs n || list_any (λ m. nat_le n m) before

-- the number of an active layer, behind those before it: one of the direct reference layers, above all before
unfoldable pub active_layer : SliceContextValue → ℕ → List ℕ → Table ℕ
active_layer ctx i before =
    named "inter_layer_pred_layer_idc"
    (u (clog2 ctx.directs) ! SliceSyntax ∶ is_bad_layer ctx before)

-- for i = 0 to NumActiveRefLayerPics-1
unfoldable pub active_layer_numbers : SliceContextValue → ℕ → Table (List ℕ)
active_layer_numbers ctx n = items_after 0 n (active_layer ctx)

unfoldable pub inter_layer : SliceContextValue → Table SliceInterLayerValue
inter_layer ctx = shaped
    (λ (inter_layer_pred_enabled_flag, (num_inter_layer_ref_pics_minus1, inter_layer_pred_layer_idc)). record {
      inter_layer_pred_enabled_flag = inter_layer_pred_enabled_flag;
      num_inter_layer_ref_pics_minus1 = num_inter_layer_ref_pics_minus1;
      inter_layer_pred_layer_idc = inter_layer_pred_layer_idc;
    })
    (λ v.
    v.inter_layer_pred_enabled_flag
    ▸ v.num_inter_layer_ref_pics_minus1
    ▸ v.inter_layer_pred_layer_idc)
    (λ _. refl)
    do
      inter_layer_pred_enabled_flag ← named "inter_layer_pred_enabled_flag"
          (when (nat_lt 0 ctx.layer && not (is_set ctx.default_ref_layers_active_flag) && nat_lt 0 ctx.directs) (u 1))
      let several : Bool = coded_set inter_layer_pred_enabled_flag && nat_lt 1 ctx.directs in do
        num_inter_layer_ref_pics_minus1 ← named "num_inter_layer_ref_pics_minus1" (when (several && not (is_set ctx.max_one_active_ref_layer_flag))
            (u (clog2 ctx.directs) ! SliceSyntax ∶ is_bad_number ctx))
        let num_active : ℕ = num_active_ref_layer_pics ctx inter_layer_pred_enabled_flag num_inter_layer_ref_pics_minus1 in
            when (several && not (nat_eq num_active ctx.directs)) (active_layer_numbers ctx num_active)
