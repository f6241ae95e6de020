-- The bytes of the headers are those of their tables.
use Rattle.std.proofs.Common.{◌≡◌, ℕ, zero, suc, ◌<◌, refl, sym, ap, ◌∙◌, arith}
use Rattle.mv_syntax.specs.Bits.{u_bits, halvings, ue_zeros, ue_bits, se_code, se_bits, align_bits, trailing_bits}
use Rattle.mv_syntax.specs.Loops.{items, items_after, columns, columns_after, each}
use Rattle.mv_fields.specs.Widths.{clog2}
use Rattle.mv_short_sets.specs.ShortSet as short
use Rattle.mv_short_sets.specs.ShortSet.{st_ref_pic_set, set_fields}
use Rattle.mv_slice.specs.Derived.{num_used, short_deltas}
use Rattle.mv_slice.specs.Ending.{ending}
use Rattle.mv_slice.specs.Filters.{deblocking, filters}
use Rattle.mv_slice.specs.InterLayer.{inter_layer}
use Rattle.mv_slice.specs.Layers.{num_active_ref_layer_pics}
use Rattle.mv_slice.specs.ListModification.{list_modification}
use Rattle.mv_slice.specs.Opening.{opening, address}
use Rattle.mv_slice.specs.Picture.{picture, references}
use Rattle.mv_slice.specs.Prediction.{lists, prediction}
use Rattle.mv_slice.specs.Slice.{full, slice_fields, slice_header, num_pic_total_curr}
use Rattle.mv_gen.specs.Contexts.{context}
use Rattle.mv_gen.specs.HeaderBytes.{base_header, second_header}
use Rattle.mv_gen.specs.Headers.{bytes_of, head_of, header_of, slice_head}

pub base_header_is : (lsb : ℕ) → lsb < 8 → base_header lsb ≡ header_of 0 lsb
unfolding header_of bytes_of head_of slice_head context slice_header slice_fields full opening address picture references inter_layer num_active_ref_layer_pics num_pic_total_curr num_used short_deltas prediction lists list_modification deblocking filters ending st_ref_pic_set set_fields items items_after columns columns_after each u_bits halvings ue_zeros ue_bits se_code se_bits align_bits trailing_bits clog2 short.picture
base_header_is zero few = refl
base_header_is (suc zero) few = refl
base_header_is (suc (suc zero)) few = refl
base_header_is (suc (suc (suc zero))) few = refl
base_header_is (suc (suc (suc (suc zero)))) few = refl
base_header_is (suc (suc (suc (suc (suc zero))))) few = refl
base_header_is (suc (suc (suc (suc (suc (suc zero)))))) few = refl
base_header_is (suc (suc (suc (suc (suc (suc (suc zero))))))) few = refl
base_header_is (suc (suc (suc (suc (suc (suc (suc (suc n)))))))) few = absurd (omega arith)

pub second_header_is : (lsb : ℕ) → lsb < 8 → second_header lsb ≡ header_of 1 lsb
unfolding header_of bytes_of head_of slice_head context slice_header slice_fields full opening address picture references inter_layer num_active_ref_layer_pics num_pic_total_curr num_used short_deltas prediction lists list_modification deblocking filters ending st_ref_pic_set set_fields items items_after columns columns_after each u_bits halvings ue_zeros ue_bits se_code se_bits align_bits trailing_bits clog2 short.picture
second_header_is zero few = refl
second_header_is (suc zero) few = refl
second_header_is (suc (suc zero)) few = refl
second_header_is (suc (suc (suc zero))) few = refl
second_header_is (suc (suc (suc (suc zero)))) few = refl
second_header_is (suc (suc (suc (suc (suc zero))))) few = refl
second_header_is (suc (suc (suc (suc (suc (suc zero)))))) few = refl
second_header_is (suc (suc (suc (suc (suc (suc (suc zero))))))) few = refl
second_header_is (suc (suc (suc (suc (suc (suc (suc (suc n)))))))) few = absurd (omega arith)

pub header_of_base : (layer lsb : ℕ) → layer ≡ 0 → lsb < 8 → base_header lsb ≡ header_of layer lsb
header_of_base layer lsb base few = base_header_is lsb few ∙ ap (λ (l : ℕ). header_of l lsb) (sym base)

pub header_of_second : (layer lsb : ℕ) → layer < 2 → (layer ≡ 0 → ⊥) → lsb < 8 → second_header lsb ≡ header_of layer lsb
header_of_second layer lsb low other few =
    let second : 1 ≡ layer = omega arith in
    second_header_is lsb few ∙ ap (λ (l : ℕ). header_of l lsb) second
