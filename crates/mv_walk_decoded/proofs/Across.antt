-- The active reference layers, by what is kept of them.
use Rattle.std.proofs.Common.{◌≡◌, ℕ, zero, suc, ◌<◌, ◌≤◌, ℤ, Bool, true, false, cond, not, ◌&&◌, ◌||◌, All, List, [], ◌∷◌, filter, length, map, get_or, Option, Some, None, refl, ap, ap₂, sym, subst, arith, ◌∙◌}
use Rattle.std.specs.Prelude.{is_none, is_some, nat_eq, option_and_then, option_map, slice_get}
use Rattle.std.specs.List.{cons_option, filter_map, find, list_any}
use Rattle.std.proofs.lemmas.Bool.{and_parts}
use Rattle.std.proofs.lemmas.List.Elements.{All-cons, All-head, All-map, All-nil, All-tail, All-weaker}
use Rattle.std.proofs.lemmas.Option.{slice_get-get_or}
use Rattle.mv_syntax.specs.Table.{Valid}
use Rattle.mv_syntax.specs.Words.{◌otherwise◌}
use Rattle.mv_common.specs.declared.format.Format.{Format}
use Rattle.mv_layers.specs.LayerInfos.{LayerInfoValue, directs_of, is_layer}
use Rattle.mv_vps.specs.Vps.{WholeVps}
use Rattle.mv_slice.specs.Context.{Fits, SliceContextValue}
use Rattle.mv_slice.specs.Slice.{header_layers, slice_header}
use Rattle.mv_slice.specs.declared.slice.SliceFull.{SliceFull}
use Rattle.mv_slice.specs.declared.slice.SliceHead.{SliceHead}
use Rattle.mv_pictures.specs.Facts.{Fact, fact}
use Rattle.mv_pictures.specs.Judged.{Judged, au, is_picture, layer, vps_at}
use Rattle.mv_pictures.specs.Layers.{directs, layers_at, view}
use Rattle.mv_pictures.specs.Look.{in_sequence, look}
use Rattle.mv_pictures.specs.PictureRules.{has_format, same_format, sps_changed, other_sps, decoded_before, missing_inter_layer as lacks_pictures}
use Rattle.mv_pictures.specs.References.{decoded_in, inter_layer, is_side_of_base, is_zero_side, payload_of, term_in, with_term}
use Rattle.mv_pictures.specs.SliceFields.{active_layers, full_of}
use Rattle.mv_pictures.specs.Starts.{is_anew, is_decoded, is_idr_or_bla, is_sequence_start, is_start}
use Rattle.mv_pictures.specs.Terms.{Term}
use Rattle.mv_reflists.specs.declared.inter_layer_sets.Active2.{Active2}
use Rattle.mv_reflists.specs.InterLayer as sets
use Rattle.mv_reflists.specs.InterLayer.{inter_layer_sets, layers_where, missing_inter_layer}
use Rattle.mv_reflists.specs.Stands.{active2, actives}
use Rattle.mv_tried.specs.Decoded.{has_other_sps, lacks_inter_layer, refers_to_other_format}
use Rattle.mv_walk_layer.specs.LayerValue.{LatestValue, LayerValue, is_other_sps, latest_here, no_pictures}
use Rattle.mv_walk_layer.specs.Standing.{Stands, Told, told_of, told_of_kept}
use Rattle.mv_walk_decoded.specs.Actives.{active_at, format_differs, has_other_format, here, in_place, is_of_other_format, layer_of, named, sps_changes}
use Rattle.mv_walk_decoded.specs.Decided.{IsAsked, layers_between}
use Rattle.mv_walk_decoded.specs.Made.{Given}
use Rattle.mv_walk_decoded.specs.Made as made
use Rattle.mv_walk_decoded.proofs.Counting.{layer-is, own-stands, starts-none}
use Rattle.mv_walk_decoded.proofs.Headers.{layer-of, layers-none}
use Rattle.mv_walk_decoded.proofs.Lower.{here-told, missing_across, sps-told, those_across}

-- ---- By what is told of a picture

other_told : Format → Option Told → Bool
other_told f o = option_map (λ (t : Told). not (has_format (Some f) t.format)) o otherwise false

other_kept : (f : Format) (o : Option LatestValue) → (option_map (is_of_other_format f) o otherwise false) ≡ other_told f (option_map told_of_kept o)
unfolding other_told
other_kept f None = refl
other_kept f (Some l) = refl

other_judged : (f : Format) (o : Option Judged) → (option_map (λ (d : Judged). not (has_format (Some f) d.fact.sets.format)) o otherwise false) ≡ other_told f (option_map told_of o)
unfolding other_told
other_judged f None = refl
other_judged f (Some d) = refl

some-mapped : {A B : Type 0} (f : A → B) (o : Option A) → is_some (option_map f o) ≡ is_some o
some-mapped f None = refl
some-mapped f (Some x) = refl

read-below : (ds : List ℕ) → All (λ n. n < 64) ds → (i : ℕ) → get_or ds i 0 < 64
read-below [] h i = omega arith
read-below (d ∷ ds) h zero = All-head (λ n. n < 64) d ds h
read-below (d ∷ ds) h (suc i) = read-below ds (All-tail (λ n. n < 64) d ds h) i

every : (Q : ℕ → Type 0) → ((n : ℕ) → Q n) → (ns : List ℕ) → All Q ns
every Q h [] = All-nil Q
every Q h (n ∷ ns) = All-cons Q n ns (h n) (every Q h ns)

module _ {P : Type 0} (g : Given P) (past : List Judged) (p : Fact) (asked : IsAsked g past p) (few : g.first.head.layer < 64) (all : length g.layers ≡ 64)
    (fits : Fits g.ctx) (valid : Valid (slice_header g.ctx g.first.head.kind) g.header) (below : All (λ n. n < 64) (directs (in_place g.vps) g.first.head.layer)) where
  directs-are : (n : ℕ) → directs (vps_at p) n ≡ directs (in_place g.vps) n
  unfolding directs layers_at
  directs-are n = ap (λ o. directs_of (option_map (λ (v : WholeVps). v.derived.layers) o otherwise []) n) asked.vps_is

  view-is : (n : ℕ) → view (vps_at p) n ≡ view (in_place g.vps) n
  unfolding view layers_at
  view-is n = ap (λ o. option_map (λ (info : LayerInfoValue). info.view_id) (find (is_layer n) (option_map (λ (v : WholeVps). v.derived.layers) o otherwise [])) otherwise 0) asked.vps_is

  full-is : full_of p ≡ g.header.full
  full-is = ap (option_and_then (λ (h : SliceHead). h.full)) asked.header_is

  active-layers-are : active_layers p ≡ named (directs (in_place g.vps) g.first.head.layer) (header_layers g.ctx g.header.full)
  unfolding active_layers
  active-layers-are =
      ap (λ c. map (λ i. get_or (directs (vps_at p) (layer p)) i 0) (option_map (λ ctx. header_layers ctx (full_of p)) c otherwise [])) asked.context_is
      ∙ ap (λ f. map (λ i. get_or (directs (vps_at p) (layer p)) i 0) (header_layers g.ctx f)) full-is
      ∙ ap (λ ds. map (λ i. get_or ds i 0) (header_layers g.ctx g.header.full)) (directs-are (layer p) ∙ ap (directs (in_place g.vps)) (layer-is g past p asked few))

  -- each is told as it stands
  IsHere : ℕ → Type 0
  IsHere n = option_map told_of_kept (here g.layers (au p) n) ≡ option_map told_of (decoded_in p (in_sequence past n))

  one-here : is_sequence_start (look past p) p ≡ false → (n : ℕ) → n < 64 → IsHere n
  unfolding IsHere
  one-here none n lt =
      ap (λ o. option_map told_of_kept (option_and_then (latest_here (au p)) o)) (slice_get-get_or g.layers n no_pictures (omega (arith, lt, all)))
      ∙ here-told (layer_of g.layers n) past p n None (asked.layers_stand none n lt) asked.in_order

  layers-below : All (λ n. n < 64) (active_layers p)
  layers-below =
      subst (All (λ n. n < 64)) (sym active-layers-are)
      (All-map (λ n. n < 64) (λ i. get_or (directs (in_place g.vps) g.first.head.layer) i 0) (header_layers g.ctx g.header.full)
      (every (λ i. get_or (directs (in_place g.vps) g.first.head.layer) i 0 < 64)
      (read-below (directs (in_place g.vps) g.first.head.layer) below)
      (header_layers g.ctx g.header.full)))

  starts-base : is_sequence_start (look past p) p ≡ true → nat_eq (layer p) 0 ≡ true
  unfolding is_sequence_start
  starts-base h = (and_parts (nat_eq (layer p) 0) (is_picture p) (and_parts (nat_eq (layer p) 0 && is_picture p) (is_idr_or_bla p || is_anew (look past p)) h).0).0

  none-active : is_sequence_start (look past p) p ≡ true → active_layers p ≡ []
  unfolding fact
  none-active h =
      active-layers-are
      ∙ ap (named (directs (in_place g.vps) g.first.head.layer))
      (layers-none g.ctx g.first.head.kind g.header fits valid
      (ap (λ n. nat_eq n 0) (layer-of asked.earlier asked.placed g.ctx (subst (λ q. q.context ≡ Some g.ctx) asked.of_stream asked.context_is)
      ∙ ap (λ q. layer q) (sym asked.of_stream)) ∙ starts-base h))

  all-here : All IsHere (active_layers p)
  all-here = go (is_sequence_start (look past p) p) refl
    where
      go : (b : Bool) → is_sequence_start (look past p) p ≡ b → All IsHere (active_layers p)
      go true h = subst (All IsHere) (sym (none-active h)) (All-nil IsHere)
      go false h = All-weaker (λ n. n < 64) IsHere (one-here h) (active_layers p) layers-below

  -- ---- The active layers

  active-is : (n : ℕ) → IsHere n → active_at g.layers (in_place g.vps) (au p) n ≡ active2 past p n
  unfolding active2 IsHere
  active-is n h =
      ap₂ (λ (v : ℕ) (b : Bool). let a : Active2 = record { layer = n; view = v; here = b } in a) (sym (view-is n))
      (sym (some-mapped told_of_kept (here g.layers (au p) n)) ∙ ap is_some h ∙ some-mapped told_of (decoded_in p (in_sequence past n)))

  each-active : (ns : List ℕ) → All IsHere ns → map (active_at g.layers (in_place g.vps) (au p)) ns ≡ map (active2 past p) ns
  each-active [] h = refl
  each-active (n ∷ ns) h = ap₂ (λ a b. a ∷ b) (active-is n (All-head IsHere n ns h)) (each-active ns (All-tail IsHere n ns h))

  pub actives-are : made.actives g ≡ actives past p
  actives-are =
      ap (map (active_at g.layers (in_place g.vps) g.first.au)) (sym active-layers-are)
      ∙ ap (λ u. map (active_at g.layers (in_place g.vps) u) (active_layers p)) (sym asked.au_is)
      ∙ each-active (active_layers p) all-here

  -- ---- MissingInterLayer, and the inter-layer reference pictures

  pub missing-is : missing_inter_layer (made.actives g) ≡ lacks_inter_layer (look past p) p
  unfolding look
  missing-is = ap missing_inter_layer actives-are ∙ sym (missing_across past p (active_layers p))

  between-is : made.between g ≡ inter_layer_sets (view (vps_at p) (layer p)) (view (vps_at p) 0) (actives past p)
  between-is =
      ap (λ n. inter_layer_sets (view (in_place g.vps) n) (view (in_place g.vps) 0) (made.actives g)) (sym (layer-is g past p asked few))
      ∙ ap₂ (λ v w. inter_layer_sets v w (made.actives g)) (sym (view-is (layer p))) (sym (view-is 0))
      ∙ ap (inter_layer_sets (view (vps_at p) (layer p)) (view (vps_at p) 0)) actives-are

  pub zeros-are : missing_inter_layer (made.actives g) ≡ false → (made.between g).zero ≡ layers_between (look past p) p (is_zero_side p)
  unfolding inter_layer_sets inter_layer look is_zero_side active2
  zeros-are none =
      ap (λ (s : sets.InterLayerSets). s.zero) between-is
      ∙ those_across past p (sets.is_zero_side (view (vps_at p) (layer p)) (view (vps_at p) 0)) (is_zero_side p) (active_layers p)
      (λ n d l. ap (λ m. is_side_of_base (view (vps_at p) (layer p)) (view (vps_at p) 0) (view (vps_at p) m)) (sym l)) (sym (ap missing_inter_layer actives-are) ∙ none)

  pub ones-are : missing_inter_layer (made.actives g) ≡ false → (made.between g).one ≡ layers_between (look past p) p (λ d. not (is_zero_side p d))
  unfolding inter_layer_sets inter_layer look is_zero_side active2
  ones-are none =
      ap (λ (s : sets.InterLayerSets). s.one) between-is
      ∙ those_across past p (sets.is_one_side (view (vps_at p) (layer p)) (view (vps_at p) 0)) (λ d. not (is_zero_side p d)) (active_layers p)
      (λ n d l. ap (λ m. not (is_side_of_base (view (vps_at p) (layer p)) (view (vps_at p) 0) (view (vps_at p) m))) (sym l)) (sym (ap missing_inter_layer actives-are) ∙ none)

  -- ---- FormatDiffers

  format-is : (n : ℕ) → IsHere n → has_other_format g.layers (au p) g.active.format n ≡ (option_map (λ (d : Judged). not (has_format (Some g.active.format) d.fact.sets.format)) (decoded_in p (in_sequence past n)) otherwise false)
  unfolding IsHere
  format-is n h =
      other_kept g.active.format (here g.layers (au p) n)
      ∙ ap (other_told g.active.format) h
      ∙ sym (other_judged g.active.format (decoded_in p (in_sequence past n)))

  each-format : (ns : List ℕ) → All IsHere ns → list_any (λ (a : Active2). has_other_format g.layers (au p) g.active.format a.layer) (map (active_at g.layers (in_place g.vps) (au p)) ns)
      ≡ list_any (λ (r : Judged × Term). not (has_format (Some g.active.format) r.0.fact.sets.format)) (filter_map (with_term p) (map (in_sequence past) ns))
  each-format [] h = refl
  each-format (n ∷ ns) h =
      ap₂ (λ a b. a || b) (format-is n (All-head IsHere n ns h)) (each-format ns (All-tail IsHere n ns h))
      ∙ go (decoded_in p (in_sequence past n))
    where
      go : (o : Option Judged)
          → ((option_map (λ (d : Judged). not (has_format (Some g.active.format) d.fact.sets.format)) o otherwise false) || list_any (λ (r : Judged × Term). not (has_format (Some g.active.format) r.0.fact.sets.format)) (filter_map (with_term p) (map (in_sequence past) ns)))
          ≡ list_any (λ (r : Judged × Term). not (has_format (Some g.active.format) r.0.fact.sets.format)) (cons_option (option_map (λ d. (d, term_in (in_sequence past n) d)) o) (filter_map (with_term p) (map (in_sequence past) ns)))
      go None = refl
      go (Some d) = refl

  pub format-differs-is : format_differs g.layers g.first.au g.active.format (made.actives g) ≡ refers_to_other_format (look past p) p
  unfolding inter_layer look
  format-differs-is =
      ap (λ ns. list_any (λ (a : Active2). has_other_format g.layers g.first.au g.active.format a.layer) (map (active_at g.layers (in_place g.vps) g.first.au) ns)) (sym active-layers-are)
      ∙ ap (λ u. list_any (λ (a : Active2). has_other_format g.layers u g.active.format a.layer) (map (active_at g.layers (in_place g.vps) u) (active_layers p))) (sym asked.au_is)
      ∙ each-format (active_layers p) all-here
      ∙ ap (λ f. list_any (λ (r : Judged × Term). not (has_format f r.0.fact.sets.format)) (filter_map (with_term p) (map (in_sequence past) (active_layers p)))) (sym asked.format_is)

  -- ---- SpsChanged

  pub sps-changes-is : sps_changes (made.own g) g.active.sps.payload g.first.start ≡ has_other_sps (look past p) p
  unfolding sps_changed
  sps-changes-is = ap (λ s. not s && is_other_sps g.active.sps.payload (made.own g)) (sym asked.start_is) ∙ go (is_start (look past p) p) refl
    where
      go : (s : Bool) → is_start (look past p) p ≡ s → (not s && is_other_sps g.active.sps.payload (made.own g)) ≡ (not s && (option_map (other_sps p) (decoded_before (look past p)) otherwise false))
      go true e = refl
      go false e =
          ap (λ o. is_other_sps (payload_of o) (made.own g)) (sym asked.sps_is)
          ∙ sps-told (made.own g) past p None (own-stands g past p asked few e) asked.decoded e
          ∙ ap₂ (λ a b. a && not b && (option_map (other_sps p) (decoded_before (look past p)) otherwise false)) asked.decoded e
