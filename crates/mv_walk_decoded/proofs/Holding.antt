-- The count and the references of a picture, by what its layer holds (8.3.1, 8.3.2).
use Rattle.std.proofs.Common.{◌≡◌, ℕ, ◌+◌, ◌<◌, ◌≤◌, ◌^◌, ℤ, pos, Bool, true, false, cond, not, ◌&&◌, ◌||◌, All, List, [], ◌∷◌, filter, length, map, get_or, Option, Some, None, Result, Ok, Err, refl, ap, ap₂, sym, subst, arith, ◌∙◌}
use Rattle.std.specs.Prelude.{is_none, is_some, nat_eq, nat_lt, option_map}
use Rattle.std.specs.Option.{option_or}
use Rattle.std.specs.List.{filter_map, list_any}
use Rattle.std.proofs.lemmas.List.{length-map}
use Rattle.std.proofs.lemmas.List.Elements.{All-nil}
use Rattle.mv_syntax.specs.Words.{◌otherwise◌}
use Rattle.mv_rules.specs.declared.rule.Rule.{Rule}
use Rattle.mv_slice.specs.Numbers.{is_irap}
use Rattle.mv_pictures.specs.Facts.{Fact}
use Rattle.mv_pictures.specs.Judged.{Judged, au, kind, layer}
use Rattle.mv_pictures.specs.Look.{Look, look}
use Rattle.mv_pictures.specs.Starts.{is_decoded, is_start}
use Rattle.mv_pictures.specs.Counts.{count}
use Rattle.mv_pictures.specs.Held.{Held, current, held, match_of}
use Rattle.mv_pictures.specs.PictureRules.{is_in_range, poc_mismatch, poc_range, has_base_count, has_low_bits}
use Rattle.mv_pictures.specs.References.{is_used, matched, term_in}
use Rattle.mv_pictures.specs.SliceFields.{Aim, Entry, entries, max_lsb}
use Rattle.mv_pictures.specs.Terms.{Tag, after, before, long}
use Rattle.mv_dpb.specs.declared.held.Held.{Held as InBuffer}
use Rattle.mv_dpb.specs.declared.held.Keep.{Keep}
use Rattle.mv_units.specs.declared.head.UnitHead.{UnitHead}
use Rattle.mv_rps.specs.RefSet.{RefSetValue, entries_of, refusal, refused_by}
use Rattle.mv_rps.specs.Resolving.{is_after, is_before, is_long, is_missing, kept_of, missing, part}
use Rattle.mv_rps.specs.Standing.{AreApart, AreCounted, au_kept, set_for, told}
use Rattle.mv_tried.specs.Decoded.{has_too_many_refs, is_mismatched, is_out_of_range, is_referring_irap, lacks_ref}
use Rattle.mv_walk_layer.specs.LayerValue.{LayerValue, found}
use Rattle.mv_walk_layer.specs.Standing.{answer, broken, counted_or}
use Rattle.mv_walk_decoded.specs.Decided.{ArePart, IsAsked}
use Rattle.mv_walk_decoded.specs.Made.{Given}
use Rattle.mv_walk_decoded.specs.Made as made
use Rattle.mv_walk_decoded.specs.Making.{after_count, references_refuse, set_by, set_refuses}
use Rattle.mv_walk_decoded.proofs.Counting.{count-is, max-is, own-stands}
use Rattle.mv_walk_decoded.proofs.Lower.{entries_coded, found-apart, found-counted, found-told, missing_told, part_after, part_before, part_long, start-finds}

none-apart : AreApart []
none-apart i j d i_in j_in same = absurd (omega (arith, i_in))

-- the first rule of five that holds
unfoldable pub five : Bool → Bool → Bool → Bool → Bool → Option Rule
five out off irap many lacks =
    cond out (Some Rule.PocRange) (cond off (Some Rule.PocMismatch) (cond irap (Some Rule.IrapRefers) (cond many (Some Rule.TooManyRefs) (cond lacks (Some Rule.MissingRef) None))))

unfoldable pub three : Bool → Bool → Bool → Option Rule
three irap many lacks = cond irap (Some Rule.IrapRefers) (cond many (Some Rule.TooManyRefs) (cond lacks (Some Rule.MissingRef) None))

three-joined : (irap many lacks : Bool) → option_or (refused_by irap many) (cond lacks (Some Rule.MissingRef) None) ≡ three irap many lacks
unfolding three
three-joined true many lacks = refl
three-joined false true lacks = refl
three-joined false false lacks = refl

module _ {P : Type 0} (g : Given P) (past : List Judged) (p : Fact) (asked : IsAsked g past p) (few : g.first.head.layer < 64) where
  pub found-is : made.held g ≡ told (held (look past p) p)
  found-is = ap (λ s. found s (made.own g)) (sym asked.start_is) ∙ go (is_start (look past p) p) refl
    where
      go : (s : Bool) → is_start (look past p) p ≡ s → found s (made.own g) ≡ told (held (look past p) p)
      go true e = sym (ap told (start-finds (look past p) p e))
      go false e = ap (λ s. found s (made.own g)) (sym e) ∙ found-told (made.own g) past p (own-stands g past p asked few e)

  pub are-counted : AreCounted (held (look past p) p)
  are-counted = go (is_start (look past p) p) refl
    where
      go : (s : Bool) → is_start (look past p) p ≡ s → AreCounted (held (look past p) p)
      go true e = subst AreCounted (sym (start-finds (look past p) p e)) (All-nil (λ (h : Held). is_some h.it.count ≡ true))
      go false e = found-counted past p (own-stands g past p asked few e).sound

  pub are-apart : AreApart (told (held (look past p) p))
  are-apart = go (is_start (look past p) p) refl
    where
      go : (s : Bool) → is_start (look past p) p ≡ s → AreApart (told (held (look past p) p))
      go true e = subst (λ hs. AreApart (told hs)) (sym (start-finds (look past p) p e)) none-apart
      go false e = found-apart past p (own-stands g past p asked few e).sound

  entries-are : entries_of g.ctx g.header ≡ entries p
  entries-are = entries_coded p g.ctx g.header asked.context_is asked.header_is

  pub set-is : (c : ℤ) → count (look past p) p ≡ Some c → set_by g.ctx g.header c ≡ set_for (look past p) p
  set-is c h =
      ap (λ es. let s : RefSetValue = record { entries = es; max_lsb = 2 ^ g.ctx.lsb_bits; current = c } in s) entries-are
      ∙ ap (λ m. let s : RefSetValue = record { entries = entries p; max_lsb = m; current = c } in s) (sym (max-is g past p asked few))
      ∙ ap (λ o. let s : RefSetValue = record { entries = entries p; max_lsb = max_lsb p; current = o otherwise pos 0 } in s) (sym h)

  -- ---- The rules

  lacks-is : (c : ℤ) → count (look past p) p ≡ Some c → is_missing (set_by g.ctx g.header c) (made.held g) ≡ lacks_ref (look past p) p
  lacks-is c h = ap₂ is_missing (set-is c h) found-is ∙ missing_told (look past p) p are-counted are-apart

  set-refuses-is : (c : ℤ) → count (look past p) p ≡ Some c →
      set_refuses g.first.head.kind (set_by g.ctx g.header c) (made.held g) ≡ three (is_referring_irap p) (has_too_many_refs p) (lacks_ref (look past p) p)
  set-refuses-is c h =
      ap (λ es. option_or (refusal g.first.head.kind es) (missing (set_by g.ctx g.header c) (made.held g))) entries-are
      ∙ ap (λ (k : ℕ). option_or (refusal k (entries p)) (missing (set_by g.ctx g.header c) (made.held g))) (sym (ap (λ (h : UnitHead). h.kind) asked.head_is))
      ∙ ap (λ b. option_or (refusal (kind p) (entries p)) (cond b (Some Rule.MissingRef) None)) (lacks-is c h)
      ∙ three-joined (is_referring_irap p) (has_too_many_refs p) (lacks_ref (look past p) p)

  pub broken-is : broken (look past p) p ≡ cond (is_out_of_range (look past p) p) (Some Rule.PocRange) (cond (is_mismatched (look past p) p) (Some Rule.PocMismatch) None)
  unfolding poc_range poc_mismatch
  broken-is =
      ap₂
      (λ a b. cond (a && is_out_of_range (look past p) p) (Some Rule.PocRange)
      (cond (b && not (nat_eq (layer p) 0) && (not (has_base_count (look past p) p) || (is_start (look past p) p && not (has_low_bits (look past p) p)))) (Some Rule.PocMismatch) None))
      asked.decoded asked.decoded

  pub references-refuse-is : references_refuse (made.own g) (made.asked g) g.ctx g.header
      ≡ five (is_out_of_range (look past p) p) (is_mismatched (look past p) p) (is_referring_irap p) (has_too_many_refs p) (lacks_ref (look past p) p)
  unfolding five three
  references-refuse-is =
      ap (after_count g.first.head.kind g.ctx g.header (made.held g)) (count-is g past p asked few)
      ∙ ap (λ b. after_count g.first.head.kind g.ctx g.header (made.held g) (counted_or b (count (look past p) p))) broken-is
      ∙ by_count (count (look past p) p) refl
    where
      by_off : (off : Bool) (n : ℤ) → count (look past p) p ≡ Some n →
          after_count g.first.head.kind g.ctx g.header (made.held g) (counted_or (cond off (Some Rule.PocMismatch) None) (Some n))
          ≡ cond off (Some Rule.PocMismatch) (three (is_referring_irap p) (has_too_many_refs p) (lacks_ref (look past p) p))
      by_off true n h = refl
      by_off false n h = set-refuses-is n h

      by_out : (out : Bool) (n : ℤ) → count (look past p) p ≡ Some n →
          after_count g.first.head.kind g.ctx g.header (made.held g) (counted_or (cond out (Some Rule.PocRange) (cond (is_mismatched (look past p) p) (Some Rule.PocMismatch) None)) (Some n))
          ≡ cond out (Some Rule.PocRange) (cond (is_mismatched (look past p) p) (Some Rule.PocMismatch) (three (is_referring_irap p) (has_too_many_refs p) (lacks_ref (look past p) p)))
      by_out true n h = refl
      by_out false n h = by_off (is_mismatched (look past p) p) n h

      by_count : (c : Option ℤ) → count (look past p) p ≡ c →
          after_count g.first.head.kind g.ctx g.header (made.held g) (counted_or (cond (not (option_map is_in_range c otherwise false)) (Some Rule.PocRange) (cond (is_mismatched (look past p) p) (Some Rule.PocMismatch) None)) c)
          ≡ cond (not (option_map is_in_range c otherwise false)) (Some Rule.PocRange) (cond (is_mismatched (look past p) p) (Some Rule.PocMismatch) (three (is_referring_irap p) (has_too_many_refs p) (lacks_ref (look past p) p)))
      by_count None h = refl
      by_count (Some n) h = by_out (not (is_in_range n)) n h

  -- a picture that is counted has this count
  pub has-count : (c : ℤ) → made.count g ≡ Ok c → count (look past p) p ≡ Some c
  has-count c h = go (broken (look past p) p) (count (look past p) p) (sym (count-is g past p asked few) ∙ h)
    where
      go : (b : Option Rule) (o : Option ℤ) → counted_or b o ≡ Ok c → o ≡ Some c
      go (Some r) o e = absurd (cc)
      go None (Some n) e = cc
      go None None e = absurd (cc)

  -- ---- The parts of the set

  pub parts-are : (in_part : Aim → Bool) (tag : Tag)
      → ((l : Look) (q : Fact) → AreCounted (held l q) → AreApart (told (held l q))
      → map (au_kept (told (held l q)) (kept_of (set_for l q) (told (held l q)))) (part in_part (set_for l q) (told (held l q)))
      ≡ map (λ (h : Held). Some (au h.it.fact)) (filter_map (match_of l q) (filter (is_used tag) (entries q))))
      → (c : ℤ) → count (look past p) p ≡ Some c → (keep : List Keep) (indexes : List ℕ)
      → keep ≡ kept_of (set_by g.ctx g.header c) (made.held g) → indexes ≡ part in_part (set_by g.ctx g.header c) (made.held g)
      → ArePart (look past p) p keep tag indexes
  parts-are in_part tag told_by c h keep indexes kept_is are =
      ap₂ (λ ks xs. map (au_kept (told (held (look past p) p)) ks) xs)
      (kept_is ∙ ap₂ kept_of (set-is c h) found-is) (are ∙ ap₂ (part in_part) (set-is c h) found-is)
      ∙ told_by (look past p) p are-counted are-apart

  pub part-length : (in_part : Aim → Bool) (tag : Tag)
      → ((l : Look) (q : Fact) → AreCounted (held l q) → AreApart (told (held l q))
      → map (au_kept (told (held l q)) (kept_of (set_for l q) (told (held l q)))) (part in_part (set_for l q) (told (held l q)))
      ≡ map (λ (h : Held). Some (au h.it.fact)) (filter_map (match_of l q) (filter (is_used tag) (entries q))))
      → (c : ℤ) → count (look past p) p ≡ Some c
      → length (part in_part (set_by g.ctx g.header c) (made.held g)) ≡ length (filter_map (match_of (look past p) p) (filter (is_used tag) (entries p)))
  part-length in_part tag told_by c h =
      ap₂ (λ s hs. length (part in_part s hs)) (set-is c h) found-is
      ∙ sym (length-map (part in_part (set_for (look past p) p) (told (held (look past p) p))) (au_kept (told (held (look past p) p)) (kept_of (set_for (look past p) p) (told (held (look past p) p)))))
      ∙ ap length (told_by (look past p) p are-counted are-apart)
      ∙ length-map (filter_map (match_of (look past p) p) (filter (is_used tag) (entries p))) (λ (h : Held). Some (au h.it.fact))
