-- What is made of a picture is what is decided of it.
use Rattle.std.proofs.Common.{◌≡◌, ℕ, ◌<◌, ◌≤◌, ℤ, Bool, true, false, cond, not, ◌&&◌, All, List, [], ◌∷◌, ◌++◌, length, map, drop, Option, Some, None, Result, Ok, Err, refl, ap, ap₂, sym, subst, arith, ◌∙◌}
use Rattle.std.specs.Prelude.{IsSome, nat_eq, option_map, slice_set, ⊤}
use Rattle.std.specs.Option.{IfSome, option_or}
use Rattle.mv_syntax.specs.Table.{Valid}
use Rattle.mv_syntax.specs.Words.{◌otherwise◌}
use Rattle.mv_rules.specs.declared.rule.Rule.{Rule}
use Rattle.mv_slice.specs.Context.{Fits, SliceContextValue}
use Rattle.mv_slice.specs.Slice.{header_layers, slice_header}
use Rattle.mv_slice.specs.declared.slice.SliceFull.{SliceFull}
use Rattle.mv_pictures.specs.Facts.{Fact}
use Rattle.mv_pictures.specs.History.{judged}
use Rattle.mv_pictures.specs.Judged.{Judged, layer}
use Rattle.mv_pictures.specs.Layers.{directs, view}
use Rattle.mv_pictures.specs.Look.{look}
use Rattle.mv_pictures.specs.Counts.{count}
use Rattle.mv_pictures.specs.PictureRules.{is_in_range}
use Rattle.mv_pictures.specs.Rules.{Case, case, output_cases}
use Rattle.mv_pictures.specs.SliceFields.{is_full, num_pic_total_curr, predicts}
use Rattle.mv_pictures.specs.Terms.{Lists, after, before, long}
use Rattle.mv_rps.specs.RefSet.{entries_of}
use Rattle.mv_rps.specs.Resolving.{is_after, is_before, is_long, kept_of}
use Rattle.mv_dpb.specs.declared.held.Keep.{Keep}
use Rattle.mv_reflists.specs.InterLayer.{InterLayerSets, missing_inter_layer}
use Rattle.mv_reflists.specs.Lists.{lists}
use Rattle.mv_reflists.specs.Sizes.{tags, total}
use Rattle.mv_tried.specs.Decoded.{decoded_cases, decoded_list_cases, has_other_sps, has_past_entry, has_too_many_refs, is_collocated_past_list, is_mismatched, is_out_of_range, is_referring_irap, lacks_inter_layer, lacks_ref, refers_to_other_format}
use Rattle.mv_tried.specs.Tried.{first_of}
use Rattle.mv_walk_layer.specs.LayerValue.{LayerValue, with_count}
use Rattle.mv_walk_layer.specs.Standing.{answer, asked_within, broken, counted_or}
use Rattle.mv_walk_order.specs.OrderValues.{OrdersValue}
use Rattle.mv_walk_order.specs.Orders.{Stands}
use Rattle.mv_walk_decoded.specs.declared.decided.Decided.{Decided}
use Rattle.mv_walk_decoded.specs.declared.fault.DecideFault.{DecideFault}
use Rattle.mv_walk_decoded.specs.declared.fault.DecideFault.TheVariants.{Refused, Memory as out_of_memory}
use Rattle.mv_walk_decoded.specs.Actives.{format_differs, in_place, layer_of, sets_refuse, sps_changes}
use Rattle.mv_walk_decoded.specs.Asked.{Tried, put_out_in, rule_if}
use Rattle.mv_walk_decoded.specs.Decided.{IsAsked, IsDecided, decided_cases}
use Rattle.mv_walk_decoded.specs.Made.{Given, Makes, listing_refuses, refuses}
use Rattle.mv_walk_decoded.specs.Made as made
use Rattle.mv_walk_decoded.specs.Making.{layers_refuse, lists_refuse, order_after, order_refuses, references_refuse, set_by}
use Rattle.mv_walk_decoded.proofs.Across.{format-differs-is, missing-is, ones-are, sps-changes-is, zeros-are}
use Rattle.mv_walk_decoded.proofs.Bounds.{actives-few, lists-few, one-few, part-few, zero-few}
use Rattle.mv_walk_decoded.proofs.Counting.{count-is, layer-is, own-after}
use Rattle.mv_walk_decoded.proofs.Headers.{layers-few}
use Rattle.mv_walk_decoded.proofs.Holding.{broken-is, five, found-is, has-count, parts-are, references-refuse-is, set-is, three}
use Rattle.mv_walk_decoded.proofs.Listing.{cascade, judged-lists, judged-tags, lists-refuse-is, total-is}
use Rattle.mv_walk_decoded.proofs.Lower.{first_append, first_next, first_nothing, part_after, part_before, part_long}
use Rattle.mv_walk_decoded.proofs.Ordering.{order-refuses-is, order-stands, put-is}

ladder : List Case → Option Rule
ladder [] = None
ladder (c ∷ cs) = cond c.holds (Some c.rule) (ladder cs)

first-ladder : (cs : List Case) → first_of cs ≡ ladder cs
unfolding ladder
first-ladder [] = first_nothing
first-ladder (c ∷ cs) = first_next c cs ∙ ap (cond c.holds (Some c.rule)) (first-ladder cs)

-- the rules up to those on lists, where one holds, and else what follows
upto : (a b out off irap many lacks m : Bool) → Option Rule → Option Rule
upto a b out off irap many lacks m rest =
    cond a (Some Rule.SpsChanged) (cond b (Some Rule.FormatDiffers) (cond out (Some Rule.PocRange) (cond off (Some Rule.PocMismatch) (cond irap (Some Rule.IrapRefers)
    (cond many (Some Rule.TooManyRefs) (cond lacks (Some Rule.MissingRef) (cond m (Some Rule.MissingInterLayer) rest)))))))

chain : (a b out off irap many lacks m : Bool) (behind lists order : Option Rule) → (out ≡ false → off ≡ false → lacks ≡ false → m ≡ false → behind ≡ option_or lists order) →
    option_or (option_or (rule_if Rule.SpsChanged a) (rule_if Rule.FormatDiffers b)) (option_or (five out off irap many lacks) (option_or (rule_if Rule.MissingInterLayer m) behind))
    ≡ option_or (upto a b out off irap many lacks m lists) order
unfolding five three upto
chain true b out off irap many lacks m behind lists order h = refl
chain false true out off irap many lacks m behind lists order h = refl
chain false false true off irap many lacks m behind lists order h = refl
chain false false false true irap many lacks m behind lists order h = refl
chain false false false false true many lacks m behind lists order h = refl
chain false false false false false true lacks m behind lists order h = refl
chain false false false false false false true m behind lists order h = refl
chain false false false false false false false true behind lists order h = refl
chain false false false false false false false false behind lists order h = h refl refl refl refl

none-or : (a b : Option Rule) → option_or a b ≡ None → (a ≡ None) × (b ≡ None)
none-or None b h = (refl, h)
none-or (Some r) b h = absurd (cc)

none-if : (r : Rule) (b : Bool) → rule_if r b ≡ None → b ≡ false
none-if r true h = absurd (cc)
none-if r false h = refl

-- none of five rules holds
record NoneOfFive (out off lacks : Bool) : Type 0 where
  no_out : out ≡ false
  no_off : off ≡ false
  no_lacks : lacks ≡ false

none-five : (out off irap many lacks : Bool) → five out off irap many lacks ≡ None → NoneOfFive out off lacks
unfolding five three
none-five true off irap many lacks h = absurd (cc)
none-five false true irap many lacks h = absurd (cc)
none-five false false true many lacks h = absurd (cc)
none-five false false false true lacks h = absurd (cc)
none-five false false false false true h = absurd (cc)
none-five false false false false false h = record { no_out = refl; no_off = refl; no_lacks = refl }

module _ {P : Type 0} (g : Given P) (past : List Judged) (p : Fact) (asked : IsAsked g past p) (few : g.first.head.layer < 64) (all : length g.layers ≡ 64)
    (fits : Fits g.ctx) (valid : Valid (slice_header g.ctx g.first.head.kind) g.header) (below : All (λ n. n < 64) (directs (in_place g.vps) g.first.head.layer)) (full : SliceFull) (is_there : g.header.full ≡ Some full) where
  counted-ok : is_out_of_range (look past p) p ≡ false → is_mismatched (look past p) p ≡ false → (c : ℤ) × (made.count g ≡ Ok c)
  counted-ok in_range on = by_count (count (look past p) p) refl
    where
      no-broken : broken (look past p) p ≡ None
      no-broken = broken-is g past p asked few ∙ ap₂ (λ a b. cond a (Some Rule.PocRange) (cond b (Some Rule.PocMismatch) None)) in_range on

      by_count : (o : Option ℤ) → count (look past p) p ≡ o → (c : ℤ) × (made.count g ≡ Ok c)
      by_count None e = absurd (let wrong : true ≡ false = sym (ap (λ o. not (option_map is_in_range o otherwise false)) e) ∙ in_range in cc)
      by_count (Some c) e = (c, count-is g past p asked few ∙ ap₂ counted_or no-broken e)

  abbrev lists_rule : Option Rule
  lists_rule = cascade (is_full p && has_past_entry p) (is_full p && predicts p && nat_eq (num_pic_total_curr p) 0) (is_full p && is_collocated_past_list p)

  behind-is : is_out_of_range (look past p) p ≡ false → is_mismatched (look past p) p ≡ false → lacks_ref (look past p) p ≡ false → lacks_inter_layer (look past p) p ≡ false →
      listing_refuses g (made.count g) ≡ option_or lists_rule (first_of (output_cases past (judged past p)))
  behind-is in_range on refs between =
      let found = counted-ok in_range on in
      let counts : count (look past p) p ≡ Some found.0 = has-count g past p asked few found.0 found.1 in
      ap (listing_refuses g) found.1
      ∙ ap₂ option_or
      (lists-refuse-is g past p asked few all fits valid below found.0 counts full is_there refs between (missing-is g past p asked few all fits valid below ∙ between))
      (order-refuses-is g past p asked few found.0 counts on)

  cases-are : first_of (decided_cases past p)
      ≡ option_or (upto (has_other_sps (look past p) p) (refers_to_other_format (look past p) p) (is_out_of_range (look past p) p) (is_mismatched (look past p) p)
      (is_referring_irap p) (has_too_many_refs p) (lacks_ref (look past p) p) (lacks_inter_layer (look past p) p) lists_rule) (first_of (output_cases past (judged past p)))
  unfolding decoded_cases decoded_list_cases ladder upto cascade
  cases-are =
      first_append (drop 1 (decoded_cases (look past p) p)) (output_cases past (judged past p))
      ∙ ap (λ x. option_or x (first_of (output_cases past (judged past p)))) (first-ladder (drop 1 (decoded_cases (look past p) p)))

  pub refuses-is : refuses g ≡ first_of (decided_cases past p)
  refuses-is =
      ap₂ (λ a b. option_or (option_or (rule_if Rule.SpsChanged a) (rule_if Rule.FormatDiffers b)) (option_or (references_refuse (made.own g) (made.asked g) g.ctx g.header) (option_or (layers_refuse (made.actives g)) (listing_refuses g (made.count g)))))
      (sps-changes-is g past p asked few all fits valid below) (format-differs-is g past p asked few all fits valid below)
      ∙ ap₂ (λ r m. option_or (option_or (rule_if Rule.SpsChanged (has_other_sps (look past p) p)) (rule_if Rule.FormatDiffers (refers_to_other_format (look past p) p))) (option_or r (option_or (rule_if Rule.MissingInterLayer m) (listing_refuses g (made.count g)))))
      (references-refuse-is g past p asked few) (missing-is g past p asked few all fits valid below)
      ∙ chain (has_other_sps (look past p) p) (refers_to_other_format (look past p) p) (is_out_of_range (look past p) p) (is_mismatched (look past p) p)
      (is_referring_irap p) (has_too_many_refs p) (lacks_ref (look past p) p) (lacks_inter_layer (look past p) p) (listing_refuses g (made.count g)) lists_rule (first_of (output_cases past (judged past p))) behind-is
      ∙ sym cases-are

  -- ---- How many references there are at most

  sizes-few : (c : ℤ) → length (entries_of g.ctx g.header) ≤ 15 → total (made.sizes g c) ≤ 255
  sizes-few c h =
      omega (
        arith,
        h,
        part-few is_before (set_by g.ctx g.header c) (made.held g),
        part-few is_after (set_by g.ctx g.header c) (made.held g),
        part-few is_long (set_by g.ctx g.header c) (made.held g),
        zero-few (view (in_place g.vps) g.first.head.layer) (view (in_place g.vps) 0) (made.actives g),
        one-few (view (in_place g.vps) g.first.head.layer) (view (in_place g.vps) 0) (made.actives g),
        actives-few g.layers (in_place g.vps) g.first.head.layer g.first.au (header_layers g.ctx g.header.full),
        layers-few g.ctx g.first.head.kind g.header fits valid,
      )

  -- ---- What is decided where none refuses

  decides : (layers_after : List (LayerValue P)) (order_behind : OrdersValue) (v : Decided) → Makes g layers_after order_behind v → refuses g ≡ None → IsDecided g.layers layers_after order_behind past p v
  decides layers_after order_behind v m none =
      let first = none-or (sets_refuse g.layers g.first.head.layer g.active.sps.payload g.first.start g.first.au g.active.format (made.actives g)) _ none in
      let second = none-or (references_refuse (made.own g) (made.asked g) g.ctx g.header) _ first.1 in
      let third = none-or (layers_refuse (made.actives g)) _ second.1 in
      let nones = none-five (is_out_of_range (look past p) p) (is_mismatched (look past p) p) (is_referring_irap p) (has_too_many_refs p) (lacks_ref (look past p) p) (sym (references-refuse-is g past p asked few) ∙ second.0) in
      let here : missing_inter_layer (made.actives g) ≡ false = none-if Rule.MissingInterLayer (missing_inter_layer (made.actives g)) third.0 in
      let between : lacks_inter_layer (look past p) p ≡ false = sym (missing-is g past p asked few all fits valid below) ∙ here in
      let c : ℤ = v.count in
      let counts : count (look past p) p ≡ Some c = has-count g past p asked few c m.counts in
      let fourth = none-or (lists_refuse (made.sizes g c) g.ctx g.header.full) (order_refuses (put_out_in g.header.full) g.order g.first.head.layer c) (sym (ap (listing_refuses g) m.counts) ∙ third.1) in
      record {
        counts = counts;
        keep = m.resolved.keep ∙ ap₂ kept_of (set-is g past p asked few c counts) (found-is g past p asked few);
        rising = m.resolved.rising;
        within_buffer = subst (λ n. All (λ (k : Keep). k.place < length (layer_of g.layers n).buffer) v.resolved.keep.items) (sym (layer-is g past p asked few)) m.resolved.within;
        few = let a : length v.resolved.keep.items ≤ 15 = omega (arith, m.resolved.few, m.resolved.few_entries) in a;
        befores = parts-are g past p asked few is_before before part_before c counts v.resolved.keep.items v.resolved.before.items m.resolved.keep m.resolved.before;
        afters = parts-are g past p asked few is_after after part_after c counts v.resolved.keep.items v.resolved.after.items m.resolved.keep m.resolved.after;
        longs = parts-are g past p asked few is_long long part_long c counts v.resolved.keep.items v.resolved.long.items m.resolved.keep m.resolved.long;
        zeros = ap (λ (s : InterLayerSets). s.zero) m.between_are ∙ zeros-are g past p asked few all fits valid below here;
        ones = ap (λ (s : InterLayerSets). s.one) m.between_are ∙ ones-are g past p asked few all fits valid below here;
        tags_are = judged-tags g past p asked few all fits valid below c counts full is_there nones.no_lacks between here ∙ ap tags (sym m.sizes_are);
        total_is = ap total m.sizes_are ∙ total-is g past p asked few all fits valid below c counts full is_there nones.no_lacks between here;
        few_references = subst (λ s. total s ≤ 255) (sym m.sizes_are) (sizes-few c m.resolved.few_entries);
        lists_are = lists-by g.header.full is_there m.lists_are ∙ judged-lists g past p asked few all fits valid below c counts full is_there nones.no_lacks between here;
        few_entries = subst (λ (ls : Lists). (length ls.list0 ≤ 15) × (length ls.list1 ≤ 15)) (sym (lists-by g.header.full is_there m.lists_are)) (lists-few g.ctx g.first.head.kind g.header fits valid (made.sizes g c) full is_there);
        put_out = m.put_out ∙ put-is g past p asked few c counts;
        own_layer = m.layers_are ∙ ap (slice_set g.layers g.first.head.layer) (own-after g past p asked few) ∙ at-layer (sym (layer-is g past p asked few));
        order_stands = subst (λ s. Stands s (judged past p ∷ past)) (sym m.order_is) (order-stands g past p asked few c counts nones.no_off fourth.1);
      }
    where
      lists-by : (o : Option SliceFull) → o ≡ Some full → IfSome o (λ f. v.lists ≡ lists (made.sizes g v.count) g.ctx f) → v.lists ≡ lists (made.sizes g v.count) g.ctx full
      lists-by o e h = let at : IfSome (Some full) (λ f. v.lists ≡ lists (made.sizes g v.count) g.ctx f) = subst (λ o. IfSome o (λ f. v.lists ≡ lists (made.sizes g v.count) g.ctx f)) e h in at

      at-layer : {n : ℕ} → g.first.head.layer ≡ n → slice_set g.layers g.first.head.layer (with_count (asked_within (look past p) p) (layer_of g.layers g.first.head.layer)) ≡ slice_set g.layers n (with_count (asked_within (look past p) p) (layer_of g.layers n))
      at-layer e = ap (λ n. slice_set g.layers n (with_count (asked_within (look past p) p) (layer_of g.layers n))) e

  pub tried-decides : (layers_after : List (LayerValue P)) (order_behind : OrdersValue) (r : Result Decided DecideFault) → Tried (refuses g) (Makes g layers_after order_behind) r →
      Tried (first_of (decided_cases past p)) (IsDecided g.layers layers_after order_behind past p) r
  tried-decides layers_after order_behind (Ok v) h = (sym refuses-is ∙ h.0, decides layers_after order_behind v h.1 h.0)
  tried-decides layers_after order_behind (Err (Refused rule)) h = sym refuses-is ∙ h
  tried-decides layers_after order_behind (Err out_of_memory) h = tt
