-- A decoded picture whose references are all there has as many as its header counts.
use Rattle.std.proofs.Common.{◌≡◌, ◌⊎◌, inl, inr, ℕ, suc, ◌+◌, ◌<◌, ◌≤◌, nat_eq, Bool, true, false, cond, not, ◌&&◌, ◌||◌, List, [], ◌∷◌, filter, length, map, Option, Some, None, refl, sym, ap, ap₂, ◌∙◌, subst, arith}
use Rattle.std.specs.Prelude.{int_lt, pos, is_none, nat_lt, option_and_then, option_map}
use Rattle.std.specs.List.{cons_option, enumerate_from, filter_map, list_any}
use Rattle.std.specs.Option.{IfSome}
use Rattle.std.proofs.lemmas.Bool.{cases_lt, eq-eqb, eqb-false, eqb-true, lt-ltb, ltb-false, not-false}
use Rattle.std.proofs.lemmas.List.{length-append, length-map, length-take-le}
use Rattle.std.proofs.lemmas.List.Elements.{filter-append}
use Rattle.mv_rules.specs.declared.rule.Rule.TheVariants.{SliceSyntax}
use Rattle.mv_syntax.specs.Table.{Valid, u, when}
use Rattle.mv_syntax.specs.Words.{◌!◌∶◌, coded_set, is_set, or_zero, over, ◌otherwise◌}
use Rattle.mv_syntax.specs.Loops.{items_after}
use Rattle.mv_history.proofs.Kept.{filter-map}
use Rattle.mv_short_sets.specs.declared.delta.Delta.{Delta}
use Rattle.mv_fields.specs.Widths.{clog2}
use Rattle.mv_slice.specs.declared.long_terms.LongTerm.{LongTerm}
use Rattle.mv_slice.specs.declared.picture.SliceReferences.{SliceReferences}
use Rattle.mv_slice.specs.declared.slice.SliceFull.{SliceFull}
use Rattle.mv_slice.specs.declared.slice.SliceHead.{SliceHead}
use Rattle.mv_slice.specs.Context.{Fits, SliceContextValue}
use Rattle.mv_slice.specs.Derived.{is_long_used, long_entries as coded_longs, num_long_used, num_short_used, num_used, short_deltas}
use Rattle.mv_slice.specs.InterLayer.{SliceInterLayerValue, active_layer_numbers, inter_layer as inter_layer_fields, is_bad_number}
use Rattle.mv_slice.specs.Layers.{active_layers as active_numbers, lacks_layers, num_active_ref_layer_pics}
use Rattle.mv_slice.specs.LongTerms.{LongTermsValue}
use Rattle.mv_slice.specs.Picture.{picture}
use Rattle.mv_slice.specs.Slice.{header_layers, header_total, num_pic_total_curr as total, slice_header}
use Rattle.mv_slice.proofs.Totals.{active_few, eligible_few, full_parts}
use Rattle.mv_pictures.specs.Facts.{Fact}
use Rattle.mv_pictures.specs.SliceFields.{Aim, Entry, active_layers, at_cycle, at_delta, at_lsb, coded_entries, entries, full_of, head_of, long_entries, long_entry, num_pic_total_curr, short_entry}
use Rattle.mv_pictures.specs.Terms.{Tag, after, before, long, same_tag}
use Rattle.mv_pictures.specs.Judged.{Judged, kind}
use Rattle.mv_pictures.specs.Look.{Look, in_sequence, look}
use Rattle.mv_pictures.specs.Starts.{is_decoded}
use Rattle.mv_pictures.specs.Held.{Held, match_of}
use Rattle.mv_pictures.specs.References.{decoded_in, inter_layer, is_used, matched, tag_of, term_in, with_term}
use Rattle.mv_walk_layer.specs.Sums.{num_references}
use Rattle.mv_pictures.specs.PictureRules.{missing_inter_layer, missing_ref, too_many_refs}

-- ---- As many layers are active as are counted

-- where no layers are named: by the three flags and by whether all direct layers are counted, the first eligible ones are enough
chosen : (none default off one : Bool) (e n : ℕ) → (none ≡ false → 1 ≤ e) → (none ≡ false → default ≡ false → off ≡ false → one ≡ false → n ≤ e) →
    cond none 0 (cond default e (cond off 0 (cond one 1 n))) ≤ e
chosen true default off one e n some all = omega arith
chosen false true off one e n some all = omega arith
chosen false false true one e n some all = omega arith
chosen false false false true e n some all = some refl
chosen false false false false e n some all = all refl refl refl refl

or_false : (a b : Bool) → (a || b) ≡ false → (a ≡ false) × (b ≡ false)
or_false true b h = absurd (let wrong : true ≡ false = h in cc)
or_false false b h = (refl, h)

module _ (ctx : SliceContextValue) (v : SliceInterLayerValue) where
  abbrev none : Bool
  none = nat_eq ctx.layer 0 || nat_eq (length ctx.eligible) 0

  abbrev one : Bool
  one = is_set ctx.max_one_active_ref_layer_flag || nat_eq ctx.directs 1

  abbrev enabled : Bool
  enabled = coded_set v.inter_layer_pred_enabled_flag

  abbrev several : Bool
  several = enabled && nat_lt 1 ctx.directs

  abbrev counted : ℕ
  counted = num_active_ref_layer_pics ctx v.inter_layer_pred_enabled_flag v.num_inter_layer_ref_pics_minus1

  -- with the fields that are coded
  chosen_is : none ≡ false → is_set ctx.default_ref_layers_active_flag ≡ false → enabled ≡ true → one ≡ false → counted ≡ or_zero v.num_inter_layer_ref_pics_minus1 + 1
  unfolding num_active_ref_layer_pics
  chosen_is not_none not_default is_on not_one =
      ap (λ b. cond b 0 (cond (is_set ctx.default_ref_layers_active_flag) (length ctx.eligible) (cond (not enabled) 0 (cond one 1 (or_zero v.num_inter_layer_ref_pics_minus1 + 1))))) not_none
      ∙ ap (λ b. cond b (length ctx.eligible) (cond (not enabled) 0 (cond one 1 (or_zero v.num_inter_layer_ref_pics_minus1 + 1)))) not_default
      ∙ ap (λ b. cond (not b) 0 (cond one 1 (or_zero v.num_inter_layer_ref_pics_minus1 + 1))) is_on
      ∙ ap (λ b. cond b 1 (or_zero v.num_inter_layer_ref_pics_minus1 + 1)) not_one

  -- a number that isn't bad asks for no more than are eligible, where all direct layers are counted
  enough : (n : ℕ) → is_bad_number ctx n ≡ false → none ≡ false → is_set ctx.default_ref_layers_active_flag ≡ false → one ≡ false → n + 1 ≡ ctx.directs → n + 1 ≤ length ctx.eligible
  unfolding lacks_layers num_active_ref_layer_pics
  enough n fine not_none not_default not_one all =
      let lacks : (nat_eq (num_active_ref_layer_pics ctx (Some 1) (Some n)) ctx.directs && over (length ctx.eligible) (num_active_ref_layer_pics ctx (Some 1) (Some n))) ≡ false =
      (or_false _ _ fine).1 in
      let here : num_active_ref_layer_pics ctx (Some 1) (Some n) ≡ n + 1 =
      ap (λ b. cond b 0 (cond (is_set ctx.default_ref_layers_active_flag) (length ctx.eligible) (cond one 1 (n + 1)))) not_none
      ∙ ap (λ b. cond b (length ctx.eligible) (cond one 1 (n + 1))) not_default
      ∙ ap (λ b. cond b 1 (n + 1)) not_one in
      let within : (nat_eq (n + 1) ctx.directs && over (length ctx.eligible) (n + 1)) ≡ false =
      sym (ap (λ k. nat_eq k ctx.directs && over (length ctx.eligible) k) here) ∙ lacks in
      ltb-false (length ctx.eligible) (n + 1) (sym (ap (λ b. b && over (length ctx.eligible) (n + 1)) (eq-eqb (n + 1) ctx.directs all)) ∙ within)

  several_is : Fits ctx → none ≡ false → enabled ≡ true → one ≡ false → several ≡ true
  several_is fits not_none is_on not_one =
      ap₂ (λ a b. a && b) is_on (lt-ltb 1 ctx.directs (let some : length ctx.eligible ≡ 0 → ⊥ = eqb-false (length ctx.eligible) 0 (or_false _ _ not_none).1 in
      let not_1 : ctx.directs ≡ 1 → ⊥ = eqb-false ctx.directs 1 (or_false _ _ not_one).1 in more ctx.directs (length ctx.eligible) (eligible_few ctx fits) some not_1))
    where
      more : (d e : ℕ) → e ≤ d → (e ≡ 0 → ⊥) → (d ≡ 1 → ⊥) → 1 < d
      more d e within some not_1 = go (cases_lt 1 d)
        where
          go : (1 < d) ⊎ (d ≤ 1) → 1 < d
          go (inl h) = h
          go (inr h) = absurd (by_e (cases_lt 0 e))
            where
              by_e : (0 < e) ⊎ (e ≤ 0) → ⊥
              by_e (inl less) = not_1 (omega (arith, less, within, h))
              by_e (inr low) = some (omega (arith, low))

  no_named : Fits ctx → Valid (inter_layer_fields ctx) v → v.inter_layer_pred_layer_idc ≡ None → counted ≤ length ctx.eligible
  unfolding inter_layer_fields num_active_ref_layer_pics
  no_named fits h is =
      chosen none (is_set ctx.default_ref_layers_active_flag) (not enabled) one (length ctx.eligible) (or_zero v.num_inter_layer_ref_pics_minus1 + 1)
      (λ not_none. let some : length ctx.eligible ≡ 0 → ⊥ = eqb-false (length ctx.eligible) 0 (or_false _ _ not_none).1 in positive (length ctx.eligible) some)
      (λ not_none not_default on_not not_one.
      let is_on : enabled ≡ true = not-false enabled on_not in
      let more : several ≡ true = several_is fits not_none is_on not_one in
      let all : nat_eq counted ctx.directs ≡ true =
      let uncoded : (several && not (nat_eq counted ctx.directs)) ≡ false = subst (λ o. Valid (when (several && not (nat_eq counted ctx.directs)) (active_layer_numbers ctx counted)) o) is h.0.1.1 in
      not-false (nat_eq counted ctx.directs) (sym (ap (λ s. s && not (nat_eq counted ctx.directs)) more) ∙ uncoded) in
      let same : counted ≡ or_zero v.num_inter_layer_ref_pics_minus1 + 1 = chosen_is not_none not_default is_on not_one in
      number v.num_inter_layer_ref_pics_minus1 h.0.1.0 more not_none not_default not_one (sym same ∙ eqb-true counted ctx.directs all))
    where
      positive : (e : ℕ) → (e ≡ 0 → ⊥) → 1 ≤ e
      positive e some = go (cases_lt 0 e)
        where
          go : (0 < e) ⊎ (e ≤ 0) → 1 ≤ e
          go (inl h) = omega (arith, h)
          go (inr h) = absurd (some (omega (arith, h)))

      number : (o : Option ℕ) → Valid (when (several && not (is_set ctx.max_one_active_ref_layer_flag)) (u (clog2 ctx.directs) ! SliceSyntax ∶ is_bad_number ctx)) o → several ≡ true →
          none ≡ false → is_set ctx.default_ref_layers_active_flag ≡ false → one ≡ false → or_zero o + 1 ≡ ctx.directs → or_zero o + 1 ≤ length ctx.eligible
      number None h more not_none not_default not_one all =
          absurd (let wrong : true ≡ false = sym (ap₂ (λ a b. a && not b) more (or_false _ _ not_one).0) ∙ h in cc)
      number (Some n) h more not_none not_default not_one all = enough n h.1.1 not_none not_default not_one all

  pub as_many : Fits ctx → Valid (inter_layer_fields ctx) v → length (active_numbers ctx counted v.inter_layer_pred_layer_idc) ≡ counted
  unfolding inter_layer_fields active_layer_numbers items_after
  as_many fits h = go v.inter_layer_pred_layer_idc refl
    where
      go : (o : Option (List ℕ)) → v.inter_layer_pred_layer_idc ≡ o → length (active_numbers ctx counted o) ≡ counted
      go None is = length-take-le counted ctx.eligible (no_named fits h is)
      go (Some ns) is =
          let coded : Valid (when (several && not (nat_eq counted ctx.directs)) (active_layer_numbers ctx counted)) (Some ns) =
          subst (λ o. Valid (when (several && not (nat_eq counted ctx.directs)) (active_layer_numbers ctx counted)) o) is h.0.1.1 in
          coded.1.0

-- ---- Used entries

split : (es : List Entry) → length (filter (is_used before) es) + length (filter (is_used after) es) + length (filter (is_used long) es) ≡ length (filter (λ (e : Entry). e.used) es)
unfolding tag_of
split [] = refl
split (e ∷ es) = by_aim e.aim (split es)
  where
    b : List Entry
    b = filter (is_used before) es

    a : List Entry
    a = filter (is_used after) es

    g : List Entry
    g = filter (is_used long) es

    u : List Entry
    u = filter (λ (e : Entry). e.used) es

    by_sign : (used sign : Bool) → length b + length a + length g ≡ length u →
        length (cond (used && same_tag before (cond sign before after)) (e ∷ b) b) + length (cond (used && same_tag after (cond sign before after)) (e ∷ a) a)
        + length (cond (used && same_tag long (cond sign before after)) (e ∷ g) g) ≡ length (cond used (e ∷ u) u)
    by_sign true true rest = omega (arith, rest)
    by_sign true false rest = omega (arith, rest)
    by_sign false sign rest = rest

    by_long : (used : Bool) → length b + length a + length g ≡ length u →
        length (cond (used && false) (e ∷ b) b) + length (cond (used && false) (e ∷ a) a) + length (cond (used && true) (e ∷ g) g) ≡ length (cond used (e ∷ u) u)
    by_long true rest = omega (arith, rest)
    by_long false rest = rest

    by_aim : (aim : Aim) → length b + length a + length g ≡ length u →
        length (cond (e.used && same_tag before (tag_of aim)) (e ∷ b) b) + length (cond (e.used && same_tag after (tag_of aim)) (e ∷ a) a)
        + length (cond (e.used && same_tag long (tag_of aim)) (e ∷ g) g) ≡ length (cond e.used (e ∷ u) u)
    by_aim (at_delta delta) rest = by_sign e.used (int_lt delta (pos 0)) rest
    by_aim (at_lsb bits) rest = by_long e.used rest
    by_aim (at_cycle bits c) rest = by_long e.used rest

-- each used entry has a match
all_matched : (l : Look) (p : Fact) (tag : Tag) (es : List Entry) → list_any (λ (e : Entry). e.used && is_none (match_of l p e)) es ≡ false →
    length (filter_map (match_of l p) (filter (is_used tag) es)) ≡ length (filter (is_used tag) es)
all_matched l p tag [] none = refl
all_matched l p tag (e ∷ es) none =
    go e.used (same_tag tag (tag_of e.aim)) (match_of l p e) refl (or_false (e.used && is_none (match_of l p e)) (list_any (λ (e : Entry). e.used && is_none (match_of l p e)) es) none).0
    (all_matched l p tag es (or_false (e.used && is_none (match_of l p e)) (list_any (λ (e : Entry). e.used && is_none (match_of l p e)) es) none).1)
  where
    go : (used same : Bool) (o : Option Held) → match_of l p e ≡ o → (used && is_none o) ≡ false → length (filter_map (match_of l p) (filter (is_used tag) es)) ≡ length (filter (is_used tag) es) →
        length (filter_map (match_of l p) (cond (used && same) (e ∷ filter (is_used tag) es) (filter (is_used tag) es))) ≡ length (cond (used && same) (e ∷ filter (is_used tag) es) (filter (is_used tag) es))
    go true true None is h rest = absurd (let wrong : true ≡ false = h in cc)
    go true true (Some m) is h rest = ap (λ o. length (cons_option o (filter_map (match_of l p) (filter (is_used tag) es)))) is ∙ ap suc rest
    go true false o is h rest = rest
    go false same o is h rest = rest

matched_length : (l : Look) (p : Fact) (tag : Tag) → list_any (λ (e : Entry). e.used && is_none (match_of l p e)) (entries p) ≡ false → length (matched l p tag) ≡ length (filter (is_used tag) (entries p))
unfolding matched
matched_length l p tag none =
    length-map (filter_map (match_of l p) (filter (is_used tag) (entries p))) (λ (h : Held). (tag, term_in l.own h.it))
    ∙ all_matched l p tag (entries p) none

-- they are those that the header counts
long_used : (ctx : SliceContextValue) (n : ℕ) (es : List LongTerm) → length (filter (λ (x : ℕ × LongTerm). is_long_used ctx x.1) (enumerate_from n es)) ≡ length (filter (is_long_used ctx) es)
long_used ctx n [] = refl
long_used ctx n (e ∷ es) = go (is_long_used ctx e) (long_used ctx (n + 1) es)
  where
    go : (b : Bool) → length (filter (λ (x : ℕ × LongTerm). is_long_used ctx x.1) (enumerate_from (n + 1) es)) ≡ length (filter (is_long_used ctx) es) →
        length (cond b ((n, e) ∷ filter (λ (x : ℕ × LongTerm). is_long_used ctx x.1) (enumerate_from (n + 1) es)) (filter (λ (x : ℕ × LongTerm). is_long_used ctx x.1) (enumerate_from (n + 1) es)))
        ≡ length (cond b (e ∷ filter (is_long_used ctx) es) (filter (is_long_used ctx) es))
    go true rest = ap suc rest
    go false rest = rest

longs_used : (ctx : SliceContextValue) (o : Option LongTermsValue) → length (filter (λ (e : Entry). e.used) (long_entries ctx o)) ≡ num_long_used ctx (coded_longs o)
unfolding num_long_used long_entry
longs_used ctx None = refl
longs_used ctx (Some lt) =
    ap length (filter-map (long_entry ctx lt) (λ (e : Entry). e.used) (enumerate_from 0 lt.entries))
    ∙ length-map (filter (λ (x : ℕ × LongTerm). is_long_used ctx x.1) (enumerate_from 0 lt.entries)) (long_entry ctx lt)
    ∙ long_used ctx 0 lt.entries

coded_used : (ctx : SliceContextValue) (o : Option SliceReferences) → length (filter (λ (e : Entry). e.used) (option_map (coded_entries ctx) o otherwise [])) ≡ num_used ctx o
unfolding num_used num_short_used
coded_used ctx None = refl
coded_used ctx (Some r) =
    let ds : List Delta = short_deltas ctx r.st_ref_pic_set r.short_term_ref_pic_set_idx in
    ap length (filter-append (λ (e : Entry). e.used) (map short_entry ds) (long_entries ctx r.long_terms))
    ∙ length-append (filter (λ (e : Entry). e.used) (map short_entry ds)) (filter (λ (e : Entry). e.used) (long_entries ctx r.long_terms))
    ∙ ap₂ (λ m n. m + n)
    (ap length (filter-map short_entry (λ (e : Entry). e.used) ds) ∙ length-map (filter (λ (d : Delta). d.used) ds) short_entry)
    (longs_used ctx r.long_terms)

-- ---- Inter-layer references

all_there : (p : Fact) (xs : List (List Judged)) → list_any (λ (units : List Judged). is_none (decoded_in p units)) xs ≡ false → length (filter_map (with_term p) xs) ≡ length xs
all_there p [] none = refl
all_there p (x ∷ xs) none =
    let parts = or_false (is_none (decoded_in p x)) (list_any (λ (units : List Judged). is_none (decoded_in p units)) xs) none in
    go (decoded_in p x) parts.0 (all_there p xs parts.1)
  where
    go : (o : Option Judged) → is_none o ≡ false → length (filter_map (with_term p) xs) ≡ length xs →
        length (cons_option (option_map (λ d. (d, term_in x d)) o) (filter_map (with_term p) xs)) ≡ suc (length xs)
    go None h rest = absurd (let wrong : true ≡ false = h in cc)
    go (Some d) h rest = ap suc rest

inter_length : (past : List Judged) (p : Fact) → list_any (λ (units : List Judged). is_none (decoded_in p units)) (look past p).across ≡ false → length (inter_layer (look past p) p) ≡ length (active_layers p)
unfolding inter_layer look
inter_length past p none = all_there p (map (in_sequence past) (active_layers p)) none ∙ length-map (active_layers p) (in_sequence past)

-- ---- All of them

-- what a picture's header says of entries and layers
record Header (p : Fact) (used layers : ℕ) : Type 0 where
  used_are : length (filter (λ (e : Entry). e.used) (entries p)) ≡ used
  layers_are : length (active_layers p) ≡ layers
  total_is : num_pic_total_curr p ≡ used + layers
  few : layers ≤ 62

header_of : (p : Fact) (ctx : SliceContextValue) (head : SliceHead) → p.context ≡ Some ctx → head_of p ≡ Some head → Fits ctx → Valid (slice_header ctx (kind p)) head →
    (used : ℕ) × ((layers : ℕ) × Header p used layers)
unfolding entries active_layers num_pic_total_curr total
header_of p ctx head context is fits valid = go head.full refl
  where
    full_is : full_of p ≡ head.full
    full_is = ap (option_and_then (λ (h : SliceHead). h.full)) is

    entries_by : (o : Option SliceFull) → head.full ≡ o → entries p ≡ (option_map (coded_entries ctx) (option_and_then (λ (full : SliceFull). full.picture.references) o) otherwise [])
    entries_by o at =
        ap (λ c. option_and_then (λ ctx. option_map (coded_entries ctx) (option_and_then (λ (full : SliceFull). full.picture.references) (full_of p))) c otherwise []) context
        ∙ ap (λ f. option_map (coded_entries ctx) (option_and_then (λ (full : SliceFull). full.picture.references) f) otherwise []) (full_is ∙ at)

    layers_by : (o : Option SliceFull) → head.full ≡ o → length (active_layers p) ≡ length (header_layers ctx o)
    layers_by o at =
        length-map (option_map (λ ctx. header_layers ctx (full_of p)) p.context otherwise []) _
        ∙ ap (λ c. length (option_map (λ ctx. header_layers ctx (full_of p)) c otherwise [])) context
        ∙ ap (λ f. length (header_layers ctx f)) (full_is ∙ at)

    total_by : (o : Option SliceFull) → head.full ≡ o → num_pic_total_curr p ≡ header_total ctx o
    total_by o at = ap (λ c. option_map (λ ctx. header_total ctx (full_of p)) c otherwise 0) context ∙ ap (header_total ctx) (full_is ∙ at)

    go : (o : Option SliceFull) → head.full ≡ o → (used : ℕ) × ((layers : ℕ) × Header p used layers)
    go None at = (
      0,
      (
        0,
        record {
          used_are = ap (λ es. length (filter (λ (e : Entry). e.used) es)) (entries_by None at);
          layers_are = layers_by None at;
          total_is = total_by None at;
          few = omega arith;
        },
      ),
    )
    go (Some full) at =
        let inner : Valid (inter_layer_fields ctx) full.inter_layer = (subst (λ o. IfSome o (λ part. Valid (picture ctx (kind p)) part.picture × Valid (inter_layer_fields ctx) part.inter_layer)) at (full_parts ctx (kind p) head valid)).1 in (
          num_used ctx full.picture.references,
          (
            num_active_ref_layer_pics ctx full.inter_layer.inter_layer_pred_enabled_flag full.inter_layer.num_inter_layer_ref_pics_minus1,
            record {
              used_are = ap (λ es. length (filter (λ (e : Entry). e.used) es)) (entries_by (Some full) at) ∙ coded_used ctx full.picture.references;
              layers_are = layers_by (Some full) at ∙ as_many ctx full.inter_layer fits inner;
              total_is = total_by (Some full) at;
              few = active_few ctx full.inter_layer fits inner;
            },
          ),
        )

-- no rule on references holds
record AllThere (l : Look) (p : Fact) : Type 0 where
  no_ref : list_any (λ (e : Entry). e.used && is_none (match_of l p e)) (entries p) ≡ false
  no_layer : list_any (λ (units : List Judged). is_none (decoded_in p units)) l.across ≡ false

all_there_of : (l : Look) (p : Fact) → is_decoded l p ≡ true → missing_ref l p ≡ false → missing_inter_layer l p ≡ false → AllThere l p
unfolding missing_ref missing_inter_layer
all_there_of l p decoded ref between = record {
  no_ref = sym (ap (λ b. b && list_any (λ (e : Entry). e.used && is_none (match_of l p e)) (entries p)) decoded) ∙ ref;
  no_layer = sym (ap (λ b. b && list_any (λ (units : List Judged). is_none (decoded_in p units)) l.across) decoded) ∙ between;
}

summed : (past : List Judged) (p : Fact) (used layers : ℕ) → Header p used layers → AllThere (look past p) p → num_references (look past p) p ≡ used + layers
summed past p used layers header there =
    ap₂ (λ m n. m + n)
    (ap₂ (λ m n. m + n) (ap₂ (λ m n. m + n) (matched_length (look past p) p before there.no_ref) (matched_length (look past p) p after there.no_ref)) (matched_length (look past p) p long there.no_ref)
    ∙ split (entries p) ∙ header.used_are)
    (inter_length past p there.no_layer ∙ header.layers_are)

pub sums-total : (past : List Judged) (p : Fact) (ctx : SliceContextValue) (head : SliceHead) → p.context ≡ Some ctx → head_of p ≡ Some head → Fits ctx → Valid (slice_header ctx (kind p)) head →
    is_decoded (look past p) p ≡ true → missing_ref (look past p) p ≡ false → missing_inter_layer (look past p) p ≡ false → num_references (look past p) p ≡ num_pic_total_curr p
sums-total past p ctx head context is fits valid decoded ref between =
    let header = header_of p ctx head context is fits valid in
    summed past p header.0 header.1.0 header.1.1 (all_there_of (look past p) p decoded ref between) ∙ sym header.1.1.total_is

used_few : (es : List Entry) → length (filter (λ (e : Entry). e.used) es) ≤ length es
used_few [] = omega arith
used_few (e ∷ es) = go e.used (used_few es)
  where
    go : (b : Bool) → length (filter (λ (e : Entry). e.used) es) ≤ length es → length (cond b (e ∷ filter (λ (e : Entry). e.used) es) (filter (λ (e : Entry). e.used) es)) ≤ suc (length es)
    go true low = omega (arith, low)
    go false low = omega (arith, low)

pub sums-few : (past : List Judged) (p : Fact) (ctx : SliceContextValue) (head : SliceHead) → p.context ≡ Some ctx → head_of p ≡ Some head → Fits ctx → Valid (slice_header ctx (kind p)) head →
    is_decoded (look past p) p ≡ true → too_many_refs (look past p) p ≡ false → missing_ref (look past p) p ≡ false → missing_inter_layer (look past p) p ≡ false → num_references (look past p) p ≤ 77
unfolding too_many_refs
sums-few past p ctx head context is fits valid decoded many ref between =
    let header = header_of p ctx head context is fits valid in
    let same : num_references (look past p) p ≡ header.0 + header.1.0 = summed past p header.0 header.1.0 header.1.1 (all_there_of (look past p) p decoded ref between) in
    let all : length (entries p) ≤ 15 = ltb-false 15 (length (entries p)) (sym (ap (λ b. b && nat_lt 15 (length (entries p))) decoded) ∙ many) in
    let low : length (filter (λ (e : Entry). e.used) (entries p)) ≤ length (entries p) = used_few (entries p) in
    let used : length (filter (λ (e : Entry). e.used) (entries p)) ≡ header.0 = header.1.1.used_are in
    let few : header.1.0 ≤ 62 = header.1.1.few in
    omega (arith, same, all, low, used, few)
