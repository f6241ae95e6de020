-- The count of a picture is told by what is asked of it by its header.
use Rattle.std.proofs.Common.{◌≡◌, ℕ, ◌^◌, ◌<◌, ℤ, pos, List, Bool, true, false, cond, not, ◌&&◌, ◌||◌, Option, Some, None, Result, Ok, Err, refl, ap, sym, subst, arith, ◌∙◌}
use Rattle.std.specs.Prelude.{nat_eq, option_and_then, option_map, slice_set}
use Rattle.mv_syntax.specs.Words.{◌otherwise◌, or_zero}
use Rattle.mv_rules.specs.declared.rule.Rule.{Rule}
use Rattle.mv_units.specs.declared.head.UnitHead.{UnitHead}
use Rattle.mv_slice.specs.Context.{SliceContextValue}
use Rattle.mv_slice.specs.declared.slice.SliceFull.{SliceFull}
use Rattle.mv_slice.specs.declared.slice.SliceHead.{SliceHead}
use Rattle.mv_pictures.specs.AccessUnits.{tid}
use Rattle.mv_pictures.specs.Facts.{Fact}
use Rattle.mv_pictures.specs.Judged.{Judged, kind, layer}
use Rattle.mv_pictures.specs.Look.{Look, look}
use Rattle.mv_pictures.specs.Starts.{is_decoded, is_sequence_start, is_start, starts_layer, is_idr_or_bla, is_anew}
use Rattle.mv_pictures.specs.Judged.{is_picture}
use Rattle.mv_pictures.specs.Counts.{base_count, nearest}
use Rattle.mv_pictures.specs.Held.{has_count}
use Rattle.mv_pictures.specs.SliceFields.{coded_lsb, head_of, max_lsb}
use Rattle.mv_rps.specs.declared.counts.PocAsk.{PocAsk}
use Rattle.mv_rps.specs.Asked.{anchor_after, count_of, counted, has_low_bits, is_off_base, on_base, taken, within_range}
use Rattle.mv_walk_layer.specs.LayerValue.{LayerValue, with_count}
use Rattle.mv_walk_layer.specs.Standing.{Stands, answer, asked_within, within}
use Rattle.mv_walk_decoded.specs.Actives.{layer_of}
use Rattle.mv_walk_decoded.specs.Asked.{asked_by, lsb_in}
use Rattle.mv_walk_decoded.specs.Decided.{IsAsked, base_for}
use Rattle.mv_walk_decoded.specs.Made.{Given}
use Rattle.mv_walk_decoded.specs.Made as made
use Rattle.mv_walk_decoded.proofs.Lower.{counts-decoded, counts-start}

-- ---- What is asked

abbrev pub ask : UnitHead → Bool → Option ℕ → ℕ → Option ℤ → PocAsk
ask h s bits m b = record { layer = h.layer; kind = h.kind; tid = h.tid; start = s; lsb = bits; max_lsb = m; base = b }

module _ (h : UnitHead) (s : Bool) (bits : Option ℕ) (m : ℕ) (b : Option ℤ) where
  abbrev pub with : Option ℤ → PocAsk
  with = ask h s bits m

  count-same : (a : Option ℤ) → count_of a (with (cond (nat_eq h.layer 0) None b)) ≡ count_of a (with b)
  count-same a = go s (nat_eq h.layer 0)
    where
      go : (s z : Bool) → cond s (cond z (Some (pos (or_zero bits))) (cond z None b)) (option_map (nearest m (or_zero bits)) a)
          ≡ cond s (cond z (Some (pos (or_zero bits))) b) (option_map (nearest m (or_zero bits)) a)
      go true true = refl
      go true false = refl
      go false z = refl

  on-same : (r : Result ℤ Rule) → on_base (with (cond (nat_eq h.layer 0) None b)) r ≡ on_base (with b) r
  on-same (Err rule) = refl
  on-same (Ok c) = go (nat_eq h.layer 0)
    where
      go : (z : Bool) → cond (not z && (not (has_count c (cond z None b)) || (s && not (has_low_bits (with b) c)))) (Err Rule.PocMismatch) (Ok c)
          ≡ cond (not z && (not (has_count c b) || (s && not (has_low_bits (with b) c)))) (Err Rule.PocMismatch) (Ok c)
      go true = refl
      go false = refl

  pub counted-same : (a : Option ℤ) → counted a (with (cond (nat_eq h.layer 0) None b)) ≡ counted a (with b)
  counted-same a =
      ap (λ c. on_base (with (cond (nat_eq h.layer 0) None b)) (within_range c)) (count-same a)
      ∙ on-same (within_range (count_of a (with b)))

  pub after-same : (a : Option ℤ) → anchor_after a (with (cond (nat_eq h.layer 0) None b)) ≡ anchor_after a (with b)
  after-same a = ap (taken a (with (cond (nat_eq h.layer 0) None b))) (counted-same a) ∙ go (counted a (with b))
    where
      go : (r : Result ℤ Rule) → taken a (with (cond (nat_eq h.layer 0) None b)) r ≡ taken a (with b) r
      go (Err rule) = refl
      go (Ok c) = refl

-- ---- Starts

-- a picture that is no start starts no sequence
pub starts-none : (l : Look) (p : Fact) → is_start l p ≡ false → is_sequence_start l p ≡ false
unfolding is_start is_sequence_start
starts-none l p h = go (nat_eq (layer p) 0) (is_picture p) (is_idr_or_bla p || is_anew l) (is_picture p && starts_layer l p) h
  where
    go : (z q x y : Bool) → cond z ((z && q) && x) y ≡ false → ((z && q) && x) ≡ false
    go true q x y h = h
    go false q x y h = refl

module _ {P : Type 0} (g : Given P) (past : List Judged) (p : Fact) (asked : IsAsked g past p) (few : g.first.head.layer < 64) where
  pub layer-is : layer p ≡ g.first.head.layer
  layer-is = ap (λ (h : UnitHead). h.layer) asked.head_is

  pub own-stands : is_start (look past p) p ≡ false → Stands (made.own g) past (layer p) None
  own-stands start =
      subst (λ n. Stands (layer_of g.layers n) past (layer p) None) layer-is
      (asked.layers_stand (starts-none (look past p) p start) (layer p) (omega (arith, few, layer-is)))

  lsb-is : coded_lsb p ≡ lsb_in g.header.full
  unfolding coded_lsb
  lsb-is = ap (λ o. option_and_then (λ (full : SliceFull). full.picture.slice_pic_order_cnt_lsb) (option_and_then (λ (h : SliceHead). h.full) o)) asked.header_is

  pub max-is : max_lsb p ≡ 2 ^ g.ctx.lsb_bits
  unfolding max_lsb
  max-is = ap (λ o. 2 ^ (option_map (λ (c : SliceContextValue). c.lsb_bits) o otherwise 4)) asked.context_is

  abbrev own_ask : Option ℤ → PocAsk
  own_ask b = ask p.placed.item.head (is_start (look past p) p) (coded_lsb p) (max_lsb p) b

  asked-is : made.asked g ≡ own_ask (base_for (look past p) p)
  asked-is =
      ap (λ h. ask h g.first.start (lsb_in g.header.full) (2 ^ g.ctx.lsb_bits) g.first.base) (sym asked.head_is)
      ∙ ap (λ s. ask p.placed.item.head s (lsb_in g.header.full) (2 ^ g.ctx.lsb_bits) g.first.base) (sym asked.start_is)
      ∙ ap (λ o. ask p.placed.item.head (is_start (look past p) p) o (2 ^ g.ctx.lsb_bits) g.first.base) (sym lsb-is)
      ∙ ap (λ m. ask p.placed.item.head (is_start (look past p) p) (coded_lsb p) m g.first.base) (sym max-is)
      ∙ ap own_ask (sym asked.base_is)

  -- the count, or the rule on counts that refuses it
  pub count-is : made.count g ≡ answer (look past p) p
  count-is =
      ap (counted (made.own g).counts) asked-is
      ∙ counted-same p.placed.item.head (is_start (look past p) p) (coded_lsb p) (max_lsb p) (within (base_count (look past p) p)) (made.own g).counts
      ∙ go (is_start (look past p) p) refl
    where
      go : (s : Bool) → is_start (look past p) p ≡ s → counted (made.own g).counts (asked_within (look past p) p) ≡ answer (look past p) p
      go true e = counts-start (made.own g).counts past p e
      go false e = counts-decoded (made.own g) past p None (own-stands e) asked.decoded

  pub own-after : with_count (made.asked g) (made.own g) ≡ with_count (asked_within (look past p) p) (made.own g)
  own-after =
      ap (λ a. with_count a (made.own g)) asked-is
      ∙ ap (λ c. let l : LayerValue P = record { counts = c; buffer = (made.own g).buffer; latest = (made.own g).latest } in l)
      (after-same p.placed.item.head (is_start (look past p) p) (coded_lsb p) (max_lsb p) (within (base_count (look past p) p)) (made.own g).counts)
