-- Headers of slice segments: what is read is valid, and the first segment of a picture has a full one.
use Rattle.std.proofs.Common.{◌≡◌, ℕ, Bool, true, false, not, ◌&&◌, List, Option, None, Some, Result, Ok, Err, refl, ap, sym, subst, ◌∙◌}
use Rattle.std.specs.Prelude.{is_some, option_map}
use Rattle.std.proofs.lemmas.Bool.{and_parts}
use Rattle.mv_syntax.specs.Bits.{Fault, byte_bits}
use Rattle.mv_syntax.specs.Table.{Table, Valid, u as unsigned, when}
use Rattle.mv_syntax.specs.Words.{coded_set, is_set}
use Rattle.mv_syntax.specs.inner.Reader.{read}
use Rattle.mv_syntax.proofs.TableLaws.{reads-read}
use Rattle.mv_units.specs.Escapes.{payload}
use Rattle.mv_slice.specs.Context.{SliceContextValue}
use Rattle.mv_slice.specs.Opening.{address}
use Rattle.mv_slice.specs.Slice.{full, slice_fields, slice_header}
use Rattle.mv_slice.specs.declared.slice.SliceHead.{SliceHead}
use Rattle.mv_pictures.specs.AccessUnits.{Placed, placed}
use Rattle.mv_pictures.specs.Facts.{Fact, fact, header_of}
use Rattle.mv_pictures.specs.History.{facts_of}
use Rattle.mv_pictures.specs.Items.{Item, is_first_segment, is_picture, is_slice}
use Rattle.mv_commuting.specs.OneMore.{fact_behind}
use Rattle.mv_walk_laws.specs.Streams.{item_behind, placed_behind}

absent : (c : Bool) (t : Table ℕ) (o : Option ℕ) → c ≡ false → Valid (when c t) o → o ≡ None
absent c t None e h = refl
absent c t (Some n) e h = absurd (let wrong : true ≡ false = sym h.0 ∙ e in cc)

coded : {A : Type 0} (c : Bool) (t : Table A) (o : Option A) → c ≡ true → Valid (when c t) o → is_some o ≡ true
coded c t None e h = absurd (let wrong : true ≡ false = sym e ∙ h in cc)
coded c t (Some v) e h = refl

-- a valid header of a first segment is no dependent one
pub first-full : (ctx : SliceContextValue) (kind : ℕ) (v : SliceHead) → Valid (slice_header ctx kind) v → is_set v.opening.first_slice_segment_in_pic_flag ≡ true → is_some v.full ≡ true
unfolding slice_header slice_fields address
first-full ctx kind v h first =
    coded (not (coded_set v.address.dependent_slice_segment_flag)) (full ctx kind) v.full
    (ap (λ o. not (coded_set o))
    (absent (not (is_set v.opening.first_slice_segment_in_pic_flag) && is_set ctx.dependent_slice_segments_enabled_flag) (unsigned 1) v.address.dependent_slice_segment_flag
    (ap (λ b. not b && is_set ctx.dependent_slice_segments_enabled_flag) first)
    h.0.1.0.0.0))
    h.0.1.1.0

header-reads : (i : Item) (ctx : SliceContextValue) (header : SliceHead) → header_of i ctx ≡ Ok header → Valid (slice_header ctx i.head.kind) header
unfolding header_of
header-reads i ctx header h = go (read (slice_header ctx i.head.kind) (byte_bits (payload i.bytes))) refl h
  where
    go : (r : Result (SliceHead × List Bool) Fault) → read (slice_header ctx i.head.kind) (byte_bits (payload i.bytes)) ≡ r →
        Path (Result SliceHead Fault) (elim r [ Ok x ↦ Ok x.0 | Err fault ↦ Err fault ]) (Ok header) → Valid (slice_header ctx i.head.kind) header
    go (Ok x) is e =
        let same : x.0 ≡ header = cc in
        subst (Valid (slice_header ctx i.head.kind)) same (reads-read (slice_header ctx i.head.kind) (byte_bits (payload i.bytes)) x.0 x.1 is).0
    go (Err fault) is e = absurd (cc)

-- the header of a unit in a stream
pub header-valid : (past : List Fact) (q : Placed) (ctx : SliceContextValue) (header : SliceHead) → (fact past q).context ≡ Some ctx → (fact past q).header ≡ Some (Ok header) →
    Valid (slice_header ctx q.item.head.kind) header
unfolding fact
header-valid past q ctx header from h =
    header-reads q.item ctx header
    (let read : Path (Option (Result SliceHead Fault)) (Some (header_of q.item ctx)) (Some (Ok header)) = sym (ap (option_map (header_of q.item)) from) ∙ h in cc)

pub header-full : (past : List Fact) (q : Placed) (ctx : SliceContextValue) (header : SliceHead) → (fact past q).context ≡ Some ctx → (fact past q).header ≡ Some (Ok header) →
    q.item.opening ≡ Some header.opening → is_picture q.item ≡ true → is_some header.full ≡ true
header-full past q ctx header from h opening picture =
    first-full ctx q.item.head.kind header (header-valid past q ctx header from h)
    (sym (ap is_first_segment opening) ∙ (and_parts (is_slice q.item) (is_first_segment q.item.opening) picture).1)

-- of the next unit of a stream
pub next-full : (us : List (List ℕ)) (u : List ℕ) (header : SliceHead) → (fact_behind us u).header ≡ Some (Ok header) → (fact_behind us u).placed.item.opening ≡ Some header.opening →
    is_picture (item_behind us u) ≡ true → is_some header.full ≡ true
unfolding placed
next-full us u header h opening picture = go (fact_behind us u).context refl
  where
    its : (fact_behind us u).header ≡ option_map (header_of (item_behind us u)) (fact_behind us u).context
    its = unfold fact placed in refl

    same : (placed_behind us u).item.opening ≡ (fact_behind us u).placed.item.opening
    same = unfold fact in refl

    opens : (placed_behind us u).item.opening ≡ Some header.opening
    opens = same ∙ opening

    go : (c : Option SliceContextValue) → (fact_behind us u).context ≡ c → is_some header.full ≡ true
    go (Some ctx) is = header-full (facts_of us) (placed_behind us u) ctx header is h opens picture
    go None is = absurd (let wrong : Path (Option (Result SliceHead Fault)) None (Some (Ok header)) = sym (its ∙ ap (option_map (header_of (item_behind us u))) is) ∙ h in cc)
