-- Entries, one more.
use Rattle.std.proofs.Common.{◌≡◌, ℕ, suc, ◌+◌, ◌^◌, ◌<◌, ◌≤◌, List, [], ◌∷◌, ◌++◌, length, map, take, get_or, refl, sym, ap, ap₂, ◌∙◌, arith}
use Rattle.std.specs.Prelude.{◌||◌, Option, Some, None, option_and_then, option_map}
use Rattle.std.specs.Option.{IfSome}
use Rattle.mv_syntax.specs.Words.{◌otherwise◌, or_zero}
use Rattle.mv_syntax.specs.Table.{Valid}
use Rattle.mv_slice.specs.declared.slice.SliceHead.{SliceHead}
use Rattle.mv_slice.specs.declared.slice.SliceFull.{SliceFull}
use Rattle.mv_slice.specs.declared.picture.SliceReferences.{SliceReferences}
use Rattle.std.specs.List.{enumerate_from, list_any}
use Rattle.std.proofs.lemmas.List.{append_assoc, length-append, length-map, length-take-le, map-append, take_more}
use Rattle.std.proofs.lemmas.List.FromFn.{length-enumerate_from}
use Rattle.mv_short_sets.specs.ShortSetValue.{ShortSetValue}
use Rattle.mv_short_sets.specs.Deltas.{deltas, deltas_of_each}
use Rattle.mv_short_sets.specs.declared.delta.Delta.{Delta}
use Rattle.mv_short_sets.proofs.DeltaLaws.{deltas-at}
use Rattle.mv_short_sets.proofs.SetLaws.{deltas-few}
use Rattle.mv_short_sets.proofs.SetSizes.{deltas_few}
use Rattle.mv_vpssets.proofs.SetSteps.{numbered_more}
use Rattle.mv_slice.specs.declared.long_terms.LongTerm.{LongTerm}
use Rattle.mv_slice.specs.Context.{Fits, SliceContextValue}
use Rattle.mv_slice.specs.LongTerms.{LongTermsValue, long_terms}
use Rattle.mv_slice.specs.Picture.{own_set, picture, references}
use Rattle.mv_slice.specs.InterLayer.{inter_layer}
use Rattle.mv_slice.specs.Slice.{slice_header}
use Rattle.mv_slice.proofs.Counting.{all_args, few_entries}
use Rattle.mv_slice.proofs.Totals.{full_parts, long_valid, own_valid, references_valid}
use Rattle.mv_slice.specs.Derived.{cycle, short_deltas}
use Rattle.mv_pictures.specs.Facts.{Fact}
use Rattle.mv_pictures.specs.SliceFields.{Entry, coded_entries, entries, head_of, long_entries, long_entry, max_lsb, short_entry}
use Rattle.mv_rps.specs.declared.entries.CodedEntry.{CodedEntry}
use Rattle.mv_rps.specs.RefSet.{cycle_before, entries_of, entry_of, with_cycle}

pub long_more : (ctx : SliceContextValue) (lt : LongTermsValue) (i : ℕ) (before : List Entry) (items new : List CodedEntry) (e : LongTerm) (one : CodedEntry) (c : ℕ)
    → map entry_of items ≡ before ++ map (long_entry ctx lt) (enumerate_from 0 (take i lt.entries)) → i < length lt.entries → e ≡ get_or lt.entries i e
    → c ≡ cycle lt i → entry_of one ≡ with_cycle ctx e c → new ≡ items ++ one ∷ []
    → map entry_of new ≡ before ++ map (long_entry ctx lt) (enumerate_from 0 (take (i + 1) lt.entries))
unfolding long_entry
long_more ctx lt i before items new e one c so_far less there counted is more =
    let f : ℕ × LongTerm → Entry = long_entry ctx lt in
    let taken : take (i + 1) lt.entries ≡ take i lt.entries ++ e ∷ [] = take_more lt.entries i e less ∙ ap (λ x. take i lt.entries ++ x ∷ []) (sym there) in
    let numbered : enumerate_from 0 (take (i + 1) lt.entries) ≡ enumerate_from 0 (take i lt.entries) ++ (i, e) ∷ [] =
    ap (enumerate_from 0) taken ∙ numbered_more 0 (take i lt.entries) e i (omega (arith, length-take-le i lt.entries (omega arith))) in
    let here : entry_of one ≡ f (i, e) = is ∙ ap (with_cycle ctx e) counted in
    ap (map entry_of) more ∙ map-append entry_of items (one ∷ [])
    ∙ ap₂ (λ xs x. xs ++ x ∷ []) so_far here
    ∙ append_assoc before (map f (enumerate_from 0 (take i lt.entries))) (f (i, e) ∷ [])
    ∙ ap (λ xs. before ++ xs) (sym (map-append f (enumerate_from 0 (take i lt.entries)) ((i, e) ∷ [])) ∙ ap (map f) (sym numbered))

pub deltas_there : (ctx : SliceContextValue) (r : ℕ) (before : List ShortSetValue) (set : ShortSetValue) → r < length ctx.short_sets
    → before ≡ take r ctx.short_sets → set ≡ get_or ctx.short_sets r set
    → deltas r (deltas_of_each before) set ≡ get_or (deltas_of_each ctx.short_sets) r []
deltas_there ctx r before set less are there =
    ap₂ (λ b s. deltas r (deltas_of_each b) s) are there ∙ sym (deltas-at ctx.short_sets r set less)

-- the entry before the next is this one
pub cycle_next : (lt : LongTermsValue) (i : ℕ) → cycle lt i ≡ cycle_before lt (i + 1)
cycle_next lt i = let next : suc i ≡ i + 1 = omega arith in ap (cycle_before lt) next

-- entries are used as those that are kept of them
pub used_map : (es : List CodedEntry) → list_any (λ (e : CodedEntry). e.used) es ≡ list_any (λ (e : Entry). e.used) (map entry_of es)
used_map [] = refl
used_map (e ∷ es) = ap (λ b. e.used || b) (used_map es)

-- the entries of a picture are those of its header
pub entries_coded : (p : Fact) (ctx : SliceContextValue) (head : SliceHead) → p.context ≡ Some ctx → head_of p ≡ Some head → entries_of ctx head ≡ entries p
unfolding entries
entries_coded p ctx head context header =
    let references : Option SliceHead → Option SliceReferences =
    λ h. option_and_then (λ (full : SliceFull). full.picture.references) (option_and_then (λ (h : SliceHead). h.full) h) in
    sym
    (ap (λ c. option_and_then (λ ctx. option_map (coded_entries ctx) (references (head_of p))) c otherwise []) context
    ∙ ap (λ h. option_map (coded_entries ctx) (references h) otherwise []) header)

-- and so is MaxPicOrderCntLsb
pub max_lsb_coded : (p : Fact) (ctx : SliceContextValue) → p.context ≡ Some ctx → 2 ^ ctx.lsb_bits ≡ max_lsb p
unfolding max_lsb
max_lsb_coded p ctx context = sym (ap (λ c. 2 ^ (option_map (λ (ctx : SliceContextValue). ctx.lsb_bits) c otherwise 4)) context)

-- ---- How many there are

short_few : (ctx : SliceContextValue) (coded : Option ShortSetValue) (idx : Option ℕ) → Fits ctx → IfSome coded (λ set. Valid (own_set ctx) set)
    → length (short_deltas ctx coded idx) ≤ 16
unfolding short_deltas
short_few ctx (Some set) idx fits h = deltas-few ctx.num_short_term_ref_pic_sets ctx.num_short_term_ref_pic_sets (deltas_of_each ctx.short_sets) set h
short_few ctx None idx fits h = deltas_few ctx.num_short_term_ref_pic_sets ctx.num_short_term_ref_pic_sets ctx.short_sets (or_zero idx) (all_args ctx fits)

long_few : (ctx : SliceContextValue) (coded : Option LongTermsValue) → IfSome coded (λ some. Valid (long_terms ctx) some) → length (long_entries ctx coded) ≤ 32
long_few ctx (Some some) h =
    omega (arith, length-map (enumerate_from 0 some.entries) (long_entry ctx some), length-enumerate_from 0 some.entries, few_entries ctx some h)
long_few ctx None h = omega arith

coded_few : (ctx : SliceContextValue) (coded : Option SliceReferences) → Fits ctx → IfSome coded (λ v. Valid (references ctx) v)
    → length (option_map (coded_entries ctx) coded otherwise []) ≤ 48
coded_few ctx (Some v) fits h =
    let deltas : List Delta = short_deltas ctx v.st_ref_pic_set v.short_term_ref_pic_set_idx in
    omega (
      arith,
      length-append (map short_entry deltas) (long_entries ctx v.long_terms),
      length-map deltas short_entry,
      short_few ctx v.st_ref_pic_set v.short_term_ref_pic_set_idx fits (own_valid ctx v h),
      long_few ctx v.long_terms (long_valid ctx v h),
    )
coded_few ctx None fits h = omega arith

-- a header has at most 48 entries
pub entries_few : (ctx : SliceContextValue) (kind : ℕ) (head : SliceHead) → Fits ctx → Valid (slice_header ctx kind) head → length (entries_of ctx head) ≤ 48
entries_few ctx kind head fits h = go head.full (full_parts ctx kind head h)
  where
    go : (full : Option SliceFull) → IfSome full (λ part. Valid (picture ctx kind) part.picture × Valid (inter_layer ctx) part.inter_layer)
        → length (option_map (coded_entries ctx) (option_and_then (λ (full : SliceFull). full.picture.references) full) otherwise []) ≤ 48
    go (Some full) parts = coded_few ctx full.picture.references fits (references_valid ctx kind full.picture parts.0)
    go None parts = omega arith
