-- The lists of a picture's first segment, and how many references it has (8.3.4, F.8.3.4).
use Rattle.std.proofs.Common.{◌≡◌, ℕ, suc, ◌+◌, ◌<◌, ◌≤◌, ℤ, Bool, true, false, cond, not, ◌&&◌, ◌||◌, All, List, [], ◌∷◌, ◌++◌, filter, length, map, replicate, Option, Some, None, refl, ap, ap₂, sym, subst, arith, ◌∙◌}
use Rattle.std.specs.Prelude.{IsSome, is_some, nat_eq, option_and_then, option_map}
use Rattle.std.specs.Option.{IfSome, option_or}
use Rattle.std.specs.List.{filter_map, list_any}
use Rattle.std.proofs.lemmas.List.{length-map}
use Rattle.std.proofs.lemmas.List.Filters.{length-filter_both}
use Rattle.mv_syntax.specs.Table.{Valid}
use Rattle.mv_syntax.specs.Words.{◌otherwise◌}
use Rattle.mv_rules.specs.declared.rule.Rule.{Rule}
use Rattle.mv_units.specs.declared.head.UnitHead.{UnitHead}
use Rattle.mv_slice.specs.Context.{Fits, SliceContextValue}
use Rattle.mv_slice.specs.Slice.{slice_header}
use Rattle.mv_slice.specs.declared.slice.SliceFull.{SliceFull}
use Rattle.mv_slice.specs.declared.slice.SliceHead.{SliceHead}
use Rattle.mv_pictures.specs.Facts.{Fact}
use Rattle.mv_pictures.specs.History.{judged, judgement}
use Rattle.mv_pictures.specs.Judged.{Judged, is_picture, kind, layer}
use Rattle.mv_pictures.specs.Layers.{directs}
use Rattle.mv_pictures.specs.Lists.{full_lists, lists, no_lists, picture_before, segment_before, segment_tags}
use Rattle.mv_pictures.specs.Look.{Look, asked as seen, look}
use Rattle.mv_pictures.specs.Starts.{is_decoded}
use Rattle.mv_pictures.specs.Counts.{count}
use Rattle.mv_pictures.specs.Held.{Held, match_of}
use Rattle.mv_pictures.specs.PictureRules as rules
use Rattle.mv_pictures.specs.References.{inter_layer, inter_ones, inter_zeros, is_used, is_zero_side, matched, references, tags, term_in}
use Rattle.mv_pictures.specs.SliceFields.{entries, full_of, is_full, num_pic_total_curr, list_entry_l0, list_entry_l1, lists_of, predicts}
use Rattle.mv_pictures.specs.Terms.{Tag, Term, after, before, inter_one, inter_zero, long}
use Rattle.mv_rps.specs.Resolving.{is_after, is_before, is_long, part}
use Rattle.mv_reflists.specs.declared.sizes.Sizes.{Sizes}
use Rattle.mv_reflists.specs.InterLayer.{missing_inter_layer}
use Rattle.mv_reflists.specs.Lists as own
use Rattle.mv_reflists.specs.Rules.{collocated, list_entry, list_rule, no_refs}
use Rattle.mv_reflists.specs.Sizes.{total}
use Rattle.mv_reflists.specs.Sizes as sized
use Rattle.mv_reflists.specs.Stands.{IsSegment}
use Rattle.mv_tried.specs.Decoded.{has_past_entry, is_collocated_past_list, lacks_inter_layer, lacks_ref}
use Rattle.mv_walk_layer.specs.Sums.{num_references}
use Rattle.mv_walk_decoded.specs.Actives.{in_place}
use Rattle.mv_walk_decoded.specs.Decided.{IsAsked, layers_between}
use Rattle.mv_walk_decoded.specs.Made.{Given}
use Rattle.mv_walk_decoded.specs.Made as made
use Rattle.mv_walk_decoded.specs.Making.{lists_refuse, set_by}
use Rattle.mv_walk_decoded.proofs.Across.{ones-are, zeros-are}
use Rattle.mv_walk_decoded.proofs.Holding.{part-length}
use Rattle.mv_walk_decoded.proofs.Lower.{of_decoded-full, part_after, part_before, part_long, picture-slice, same_collocated, same_list_entry, same_lists, same_no_refs, sums-total}

-- the judgement of a picture asks all of the past
pub judged-is : (past : List Judged) (p : Fact) → is_picture p ≡ true → judged past p ≡ judgement (look past p) p
unfolding judged seen
judged-is past p h = ap (λ b. judgement (look (cond b past []) p) p) (picture-slice p h)

tagged : {A : Type 0} (tag : Tag) (term : A → Term) (xs : List A) → map (λ (r : Tag × Term). r.0) (map (λ x. (tag, term x)) xs) ≡ replicate (length xs) tag
tagged tag term [] = refl
tagged tag term (x ∷ xs) = ap (λ ts. tag ∷ ts) (tagged tag term xs)

map-append : {A B : Type 0} (f : A → B) (xs ys : List A) → map f (xs ++ ys) ≡ map f xs ++ map f ys
map-append f [] ys = refl
map-append f (x ∷ xs) ys = ap (λ zs. f x ∷ zs) (map-append f xs ys)

-- the first rule of three that holds
unfoldable pub cascade : Bool → Bool → Bool → Option Rule
cascade entry none past_list = cond entry (Some Rule.ListEntry) (cond none (Some Rule.NoRefs) (cond past_list (Some Rule.Collocated) None))

module _ {P : Type 0} (g : Given P) (past : List Judged) (p : Fact) (asked : IsAsked g past p) (few : g.first.head.layer < 64) (all : length g.layers ≡ 64)
    (fits : Fits g.ctx) (valid : Valid (slice_header g.ctx g.first.head.kind) g.header) (below : All (λ n. n < 64) (directs (in_place g.vps) g.first.head.layer))
    (c : ℤ) (counts : count (look past p) p ≡ Some c) (full : SliceFull) (is_there : g.header.full ≡ Some full) where
  full-is : full_of p ≡ Some full
  full-is = ap (option_and_then (λ (h : SliceHead). h.full)) asked.header_is ∙ is_there

  pub has-full : is_full p ≡ true
  has-full = ap (λ o. option_map (λ _. true) o otherwise false) full-is

  segment : IsSegment p g.ctx full
  segment = record { past = asked.earlier; placed = asked.placed; is = asked.of_stream; context = asked.context_is; header = full-is }

  of-decoded : rules.is_of_decoded (look past p) p ≡ is_full p
  of-decoded = of_decoded-full (look past p) p asked.picture asked.decoded

  -- ---- How many there are

  module _ (refs : lacks_ref (look past p) p ≡ false) (between : lacks_inter_layer (look past p) p ≡ false) (here : missing_inter_layer (made.actives g) ≡ false) where
    befores : (made.sizes g c).before ≡ length (filter_map (match_of (look past p) p) (filter (is_used before) (entries p)))
    befores = part-length g past p asked few is_before before part_before c counts

    afters : (made.sizes g c).after ≡ length (filter_map (match_of (look past p) p) (filter (is_used after) (entries p)))
    afters = part-length g past p asked few is_after after part_after c counts

    longs : (made.sizes g c).long ≡ length (filter_map (match_of (look past p) p) (filter (is_used long) (entries p)))
    longs = part-length g past p asked few is_long long part_long c counts

    layers-length : (test : Judged → Bool) (ns : List ℕ) → ns ≡ layers_between (look past p) p test → length ns ≡ length (filter (λ (r : Judged × Term). test r.0) (inter_layer (look past p) p))
    layers-length test ns e = ap length e ∙ length-map (filter (λ (r : Judged × Term). test r.0) (inter_layer (look past p) p)) (λ (r : Judged × Term). layer r.0.fact)

    zeros : (made.sizes g c).zero ≡ length (filter (λ (r : Judged × Term). is_zero_side p r.0) (inter_layer (look past p) p))
    zeros = layers-length (is_zero_side p) (made.between g).zero (zeros-are g past p asked few all fits valid below here)

    ones : (made.sizes g c).one ≡ length (filter (λ (r : Judged × Term). not (is_zero_side p r.0)) (inter_layer (look past p) p))
    ones = layers-length (λ d. not (is_zero_side p d)) (made.between g).one (ones-are g past p asked few all fits valid below here)

    valid-at : Valid (slice_header g.ctx (kind p)) g.header
    valid-at = subst (λ k. Valid (slice_header g.ctx k) g.header) (sym (ap (λ (h : UnitHead). h.kind) asked.head_is)) valid

    no-ref : rules.missing_ref (look past p) p ≡ false
    unfolding rules.missing_ref
    no-ref = ap (λ b. b && lacks_ref (look past p) p) asked.decoded ∙ refs

    no-layer : rules.missing_inter_layer (look past p) p ≡ false
    unfolding rules.missing_inter_layer
    no-layer = ap (λ b. b && lacks_inter_layer (look past p) p) asked.decoded ∙ between

    references-are : num_references (look past p) p ≡ length (filter_map (match_of (look past p) p) (filter (is_used before) (entries p)))
        + length (filter_map (match_of (look past p) p) (filter (is_used after) (entries p)))
        + length (filter_map (match_of (look past p) p) (filter (is_used long) (entries p)))
        + length (inter_layer (look past p) p)
    unfolding matched
    references-are =
        ap₂ (λ m n. m + n)
        (ap₂ (λ m n. m + n)
        (ap₂ (λ m n. m + n)
        (length-map (filter_map (match_of (look past p) p) (filter (is_used before) (entries p))) (λ (h : Held). (before, term_in (look past p).own h.it)))
        (length-map (filter_map (match_of (look past p) p) (filter (is_used after) (entries p))) (λ (h : Held). (after, term_in (look past p).own h.it))))
        (length-map (filter_map (match_of (look past p) p) (filter (is_used long) (entries p))) (λ (h : Held). (long, term_in (look past p).own h.it))))
        (let same : length (inter_layer (look past p) p) ≡ length (inter_layer (look past p) p) = refl in same)

    sides : length (filter (λ (r : Judged × Term). is_zero_side p r.0) (inter_layer (look past p) p)) + length (filter (λ (r : Judged × Term). not (is_zero_side p r.0)) (inter_layer (look past p) p)) ≡ length (inter_layer (look past p) p)
    sides = length-filter_both (λ (r : Judged × Term). is_zero_side p r.0) (λ (r : Judged × Term). not (is_zero_side p r.0)) (λ r. refl) (inter_layer (look past p) p)

    pub total-is : total (made.sizes g c) ≡ num_pic_total_curr p
    total-is =
        add (made.sizes g c).before (made.sizes g c).after (made.sizes g c).long (made.sizes g c).zero (made.sizes g c).one _ _ _ _ _ befores afters longs zeros ones (length (inter_layer (look past p) p)) sides
        ∙ sym references-are
        ∙ sums-total past p g.ctx g.header asked.context_is asked.header_is fits valid-at asked.decoded no-ref no-layer
      where
        add : (a b l z o a' b' l' z' o' : ℕ) → a ≡ a' → b ≡ b' → l ≡ l' → z ≡ z' → o ≡ o' → (n : ℕ) → z' + o' ≡ n → a + b + l + z + o ≡ a' + b' + l' + n
        add a b l z o a' b' l' z' o' ea eb el ez eo n e = omega (arith, ea, eb, el, ez, eo, e)

    -- ---- The rules on lists

    pub lists-refuse-is : lists_refuse (made.sizes g c) g.ctx g.header.full
        ≡ cascade (is_full p && has_past_entry p) (is_full p && predicts p && nat_eq (num_pic_total_curr p) 0) (is_full p && is_collocated_past_list p)
    unfolding list_rule cascade rules.list_entry rules.no_refs rules.collocated
    lists-refuse-is =
        ap (option_and_then (list_rule (total (made.sizes g c)) g.ctx)) is_there
        ∙ ap (λ n. list_rule n g.ctx full) total-is
        ∙ ap (λ b. cond b (Some Rule.ListEntry) (cond (no_refs (num_pic_total_curr p) full) (Some Rule.NoRefs) (cond (collocated g.ctx full) (Some Rule.Collocated) None)))
        (sym (same_list_entry (look past p) p g.ctx full segment (of-decoded ∙ has-full)) ∙ ap (λ b. b && has_past_entry p) of-decoded)
        ∙ ap (λ b. cond (is_full p && has_past_entry p) (Some Rule.ListEntry) (cond b (Some Rule.NoRefs) (cond (collocated g.ctx full) (Some Rule.Collocated) None)))
        (sym (same_no_refs (look past p) p g.ctx full segment (of-decoded ∙ has-full)) ∙ ap (λ b. b && predicts p && nat_eq (num_pic_total_curr p) 0) of-decoded)
        ∙ ap (λ b. cond (is_full p && has_past_entry p) (Some Rule.ListEntry) (cond (is_full p && predicts p && nat_eq (num_pic_total_curr p) 0) (Some Rule.NoRefs) (cond b (Some Rule.Collocated) None)))
        (sym (same_collocated (look past p) p g.ctx full segment (of-decoded ∙ has-full)) ∙ ap (λ b. b && is_collocated_past_list p) of-decoded)

    -- ---- The references by their parts, and the lists

    of-part : (tag : Tag) (n : ℕ) → n ≡ length (filter_map (match_of (look past p) p) (filter (is_used tag) (entries p))) → map (λ (r : Tag × Term). r.0) (matched (look past p) p tag) ≡ replicate n tag
    unfolding matched
    of-part tag n e =
        tagged tag (λ (h : Held). term_in (look past p).own h.it) (filter_map (match_of (look past p) p) (filter (is_used tag) (entries p)))
        ∙ ap (λ n. replicate n tag) (sym e)

    pub tags-are : tags (look past p) p ≡ sized.tags (made.sizes g c)
    unfolding tags references inter_zeros inter_ones sized.tags
    tags-are =
        ap (λ b. map (λ (r : Tag × Term). r.0) (cond b (matched (look past p) p before ++ matched (look past p) p after ++ matched (look past p) p long ++ inter_zeros (look past p) p ++ inter_ones (look past p) p) [])) asked.decoded
        ∙ map-append (λ (r : Tag × Term). r.0) (matched (look past p) p before ++ matched (look past p) p after ++ matched (look past p) p long ++ inter_zeros (look past p) p) (inter_ones (look past p) p)
        ∙ ap₂ (λ (x y : List Tag). x ++ y)
        (map-append (λ (r : Tag × Term). r.0) (matched (look past p) p before ++ matched (look past p) p after ++ matched (look past p) p long) (inter_zeros (look past p) p)
        ∙ ap₂ (λ (x y : List Tag). x ++ y)
        (map-append (λ (r : Tag × Term). r.0) (matched (look past p) p before ++ matched (look past p) p after) (matched (look past p) p long)
        ∙ ap₂ (λ (x y : List Tag). x ++ y)
        (map-append (λ (r : Tag × Term). r.0) (matched (look past p) p before) (matched (look past p) p after)
        ∙ ap₂ (λ (x y : List Tag). x ++ y) (of-part before (made.sizes g c).before befores) (of-part after (made.sizes g c).after afters))
        (of-part long (made.sizes g c).long longs))
        (tagged inter_zero (λ (r : Judged × Term). r.1) (filter (λ (r : Judged × Term). is_zero_side p r.0) (inter_layer (look past p) p)) ∙ ap (λ n. replicate n inter_zero) (sym zeros)))
        (tagged inter_one (λ (r : Judged × Term). r.1) (filter (λ (r : Judged × Term). not (is_zero_side p r.0)) (inter_layer (look past p) p)) ∙ ap (λ n. replicate n inter_one) (sym ones))

    pub judged-tags : (judged past p).tags ≡ sized.tags (made.sizes g c)
    unfolding judgement
    judged-tags = ap (λ (d : Judged). d.tags) (judged-is past p asked.picture) ∙ tags-are

    pub judged-lists : own.lists (made.sizes g c) g.ctx full ≡ (judged past p).lists
    unfolding judgement lists segment_tags
    judged-lists =
        sym (ap (λ (d : Judged). d.lists) (judged-is past p asked.picture)
        ∙ ap (λ b. cond b (full_lists (segment_tags (look past p) p) p) (option_map (λ (d : Judged). d.lists) (segment_before (look past p) p) otherwise no_lists)) has-full
        ∙ ap (λ b. full_lists (cond b (tags (look past p) p) (option_map (λ (d : Judged). d.tags) (picture_before (look past p) p) otherwise [])) p) asked.picture
        ∙ ap (λ ts. full_lists ts p) tags-are
        ∙ same_lists p g.ctx full (made.sizes g c) segment)
