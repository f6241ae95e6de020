-- The headers are valid by their tables, and their bytes have the table's bits.
use Rattle.std.proofs.Common.{◌≡◌, ℕ, zero, suc, ◌<◌, refl, arith, rules}
use Rattle.mv_syntax.specs.Bits.{byte_bits, u_bits, halvings, ue_zeros, ue_bits, se_code, se_bits, align_bits, trailing_bits}
use Rattle.mv_syntax.specs.Loops.{items, items_after, columns, columns_after, each}
use Rattle.mv_syntax.specs.Table.{Valid, bits_of}
use Rattle.mv_fields.specs.Widths.{clog2}
use Rattle.mv_short_sets.specs.Deltas.{deltas, direct, predicted}
use Rattle.mv_short_sets.specs.ShortSet as short
use Rattle.mv_short_sets.specs.ShortSet.{st_ref_pic_set, set_fields}
use Rattle.mv_slice.specs.Context.{Fits}
use Rattle.mv_slice.specs.Derived.{num_used, short_deltas}
use Rattle.mv_slice.specs.Ending.{ending}
use Rattle.mv_slice.specs.Filters.{deblocking, filters}
use Rattle.mv_slice.specs.InterLayer.{inter_layer}
use Rattle.mv_slice.specs.Layers.{num_active_ref_layer_pics}
use Rattle.mv_slice.specs.ListModification.{list_modification}
use Rattle.mv_slice.specs.Opening.{opening, address}
use Rattle.mv_slice.specs.Picture.{picture, references}
use Rattle.mv_slice.specs.Prediction.{lists, prediction}
use Rattle.mv_slice.specs.Slice.{full, slice_fields, slice_header, num_pic_total_curr}
use Rattle.mv_gen.specs.Contexts.{context}
use Rattle.mv_gen.specs.Headers.{bytes_of, head_of, header_of, slice_head}

base_fits : Fits (context 0)
unfolding context
base_fits = search rules

second_fits : Fits (context 1)
unfolding context
second_fits = search rules

pub fits : (layer : ℕ) → layer < 2 → Fits (context layer)
fits zero low = base_fits
fits (suc zero) low = second_fits
fits (suc (suc n)) low = absurd (omega arith)

-- a header is valid, and its bytes have its bits
abbrev IsValid : ℕ → ℕ → Type 0
IsValid layer lsb = Valid (slice_header (context layer) (head_of layer lsb).kind) (slice_head layer lsb)

abbrev HasBits : ℕ → ℕ → Type 0
HasBits layer lsb = byte_bits (header_of layer lsb) ≡ bits_of (slice_header (context layer) (head_of layer lsb).kind) (slice_head layer lsb)

base_valid : (lsb : ℕ) → lsb < 8 → IsValid 0 lsb
unfolding head_of slice_head context slice_header slice_fields full opening address picture references inter_layer num_active_ref_layer_pics num_pic_total_curr num_used short_deltas prediction lists list_modification deblocking filters ending st_ref_pic_set set_fields items items_after columns columns_after each se_code clog2 short.picture deltas direct predicted
base_valid zero few = search rules
base_valid (suc zero) few = search rules
base_valid (suc (suc zero)) few = search rules
base_valid (suc (suc (suc zero))) few = search rules
base_valid (suc (suc (suc (suc zero)))) few = search rules
base_valid (suc (suc (suc (suc (suc zero))))) few = search rules
base_valid (suc (suc (suc (suc (suc (suc zero)))))) few = search rules
base_valid (suc (suc (suc (suc (suc (suc (suc zero))))))) few = search rules
base_valid (suc (suc (suc (suc (suc (suc (suc (suc n)))))))) few = absurd (omega arith)

base_bits : (lsb : ℕ) → lsb < 8 → HasBits 0 lsb
unfolding header_of bytes_of head_of slice_head context slice_header slice_fields full opening address picture references inter_layer num_active_ref_layer_pics num_pic_total_curr num_used short_deltas prediction lists list_modification deblocking filters ending st_ref_pic_set set_fields items items_after columns columns_after each byte_bits u_bits halvings ue_zeros ue_bits se_code se_bits align_bits trailing_bits clog2 short.picture
base_bits zero few = refl
base_bits (suc zero) few = refl
base_bits (suc (suc zero)) few = refl
base_bits (suc (suc (suc zero))) few = refl
base_bits (suc (suc (suc (suc zero)))) few = refl
base_bits (suc (suc (suc (suc (suc zero))))) few = refl
base_bits (suc (suc (suc (suc (suc (suc zero)))))) few = refl
base_bits (suc (suc (suc (suc (suc (suc (suc zero))))))) few = refl
base_bits (suc (suc (suc (suc (suc (suc (suc (suc n)))))))) few = absurd (omega arith)

second_valid : (lsb : ℕ) → lsb < 8 → IsValid 1 lsb
unfolding head_of slice_head context slice_header slice_fields full opening address picture references inter_layer num_active_ref_layer_pics num_pic_total_curr num_used short_deltas prediction lists list_modification deblocking filters ending st_ref_pic_set set_fields items items_after columns columns_after each se_code clog2 short.picture deltas direct predicted
second_valid zero few = search rules
second_valid (suc zero) few = search rules
second_valid (suc (suc zero)) few = search rules
second_valid (suc (suc (suc zero))) few = search rules
second_valid (suc (suc (suc (suc zero)))) few = search rules
second_valid (suc (suc (suc (suc (suc zero))))) few = search rules
second_valid (suc (suc (suc (suc (suc (suc zero)))))) few = search rules
second_valid (suc (suc (suc (suc (suc (suc (suc zero))))))) few = search rules
second_valid (suc (suc (suc (suc (suc (suc (suc (suc n)))))))) few = absurd (omega arith)

second_bits : (lsb : ℕ) → lsb < 8 → HasBits 1 lsb
unfolding header_of bytes_of head_of slice_head context slice_header slice_fields full opening address picture references inter_layer num_active_ref_layer_pics num_pic_total_curr num_used short_deltas prediction lists list_modification deblocking filters ending st_ref_pic_set set_fields items items_after columns columns_after each byte_bits u_bits halvings ue_zeros ue_bits se_code se_bits align_bits trailing_bits clog2 short.picture
second_bits zero few = refl
second_bits (suc zero) few = refl
second_bits (suc (suc zero)) few = refl
second_bits (suc (suc (suc zero))) few = refl
second_bits (suc (suc (suc (suc zero)))) few = refl
second_bits (suc (suc (suc (suc (suc zero))))) few = refl
second_bits (suc (suc (suc (suc (suc (suc zero)))))) few = refl
second_bits (suc (suc (suc (suc (suc (suc (suc zero))))))) few = refl
second_bits (suc (suc (suc (suc (suc (suc (suc (suc n)))))))) few = absurd (omega arith)

pub valid : (layer lsb : ℕ) → layer < 2 → lsb < 8 → IsValid layer lsb
valid zero lsb low few = base_valid lsb few
valid (suc zero) lsb low few = second_valid lsb few
valid (suc (suc n)) lsb low few = absurd (omega arith)

pub bits : (layer lsb : ℕ) → layer < 2 → lsb < 8 → HasBits layer lsb
bits zero lsb low few = base_bits lsb few
bits (suc zero) lsb low few = second_bits lsb few
bits (suc (suc n)) lsb low few = absurd (omega arith)
