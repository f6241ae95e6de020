-- What the header of a segment of a stream says of its lists.
use Rattle.std.proofs.Common.{◌≡◌, ℕ, ◌≤◌, Bool, true, false, ◌&&◌, ◌||◌, List, length, Option, Some, None, Result, Ok, Err, refl, sym, ap, subst, ◌∙◌, arith}
use Rattle.std.specs.Prelude.{option_map, option_and_then}
use Rattle.std.specs.Option.{IfSome}
use Rattle.std.proofs.lemmas.Bool.{ltb-false}
use Rattle.mv_syntax.specs.Bits.{Fault, byte_bits}
use Rattle.mv_syntax.specs.Table.{Valid, u, ue, when}
use Rattle.mv_syntax.specs.Words.{◌!◌∶◌, over, or_zero, coded_set}
use Rattle.mv_syntax.specs.Loops.{us}
use Rattle.mv_syntax.specs.inner.Reader.{read}
use Rattle.mv_syntax.proofs.LoopLaws.{items-length}
use Rattle.mv_syntax.proofs.TableLaws.{reads-of}
use Rattle.mv_rules.specs.declared.rule.Rule.TheVariants.{SliceSyntax}
use Rattle.mv_units.specs.Escapes.{payload}
use Rattle.mv_slice.specs.declared.slice.SliceFull.{SliceFull}
use Rattle.mv_slice.specs.declared.slice.SliceHead.{SliceHead}
use Rattle.mv_slice.specs.declared.lists.SliceLists.{SliceLists}
use Rattle.mv_slice.specs.Context.{SliceContextValue, Fits}
use Rattle.mv_slice.specs.ListModification.{list_modification}
use Rattle.mv_slice.specs.Numbers.{is_b, is_p}
use Rattle.mv_slice.specs.Prediction as tables
use Rattle.mv_slice.specs.Prediction.{num_entries, prediction}
use Rattle.mv_slice.specs.Slice.{full, slice_fields, slice_header}
use Rattle.mv_pictures.specs.Facts.{Fact, fact, header_of}
use Rattle.mv_pictures.specs.Judged.{kind}
use Rattle.mv_reflists.specs.Segment.{predicts, active_l0, active_l1, list_entry_l0, list_entry_l1}
use Rattle.mv_reflists.specs.inner.Listed.{AreAll}
use Rattle.mv_reflists.specs.Stands.{IsSegment}
use Rattle.mv_reflists.proofs.Headers.{few_l0, few_l1, all_l0, all_l1}

-- ---- It is valid

pub full_valid : (ctx : SliceContextValue) (nal_unit_type : ℕ) (head : SliceHead) (v : SliceFull) → Valid (slice_header ctx nal_unit_type) head → head.full ≡ Some v
    → Valid (full ctx nal_unit_type) v
unfolding slice_header slice_fields
full_valid ctx nal_unit_type head v h e = coded _ head.full h.0.1.1.0 e
  where
    coded : (c : Bool) (o : Option SliceFull) → Valid (when c (full ctx nal_unit_type)) o → o ≡ Some v → Valid (full ctx nal_unit_type) v
    coded c o h e = let P : Option SliceFull → Type 0 = λ o. Valid (when c (full ctx nal_unit_type)) o in (subst P e h).1

header_is : (p : Fact) (ctx : SliceContextValue) (v : SliceFull) → IsSegment p ctx v → p.header ≡ Some (header_of p.placed.item ctx)
unfolding fact
header_is p ctx v s =
    let P : Fact → Type 0 = λ f. f.header ≡ option_map (header_of f.placed.item) f.context in
    subst P (sym s.is) refl ∙ ap (option_map (header_of p.placed.item)) s.context

pub segment_valid : (p : Fact) (ctx : SliceContextValue) (v : SliceFull) → IsSegment p ctx v → Valid (full ctx (kind p)) v
unfolding header_of
segment_valid p ctx v s =
    by_read (read (slice_header ctx (kind p)) (byte_bits (payload p.placed.item.bytes))) refl
    (ap (λ h. option_and_then (λ (head : SliceHead). head.full) (option_and_then (λ r. elim r [ Ok v ↦ Some v | Err fault ↦ None ]) h)) (sym (header_is p ctx v s)) ∙ s.header)
  where
    by_read : (r : Result (SliceHead × List Bool) Fault) → read (slice_header ctx (kind p)) (byte_bits (payload p.placed.item.bytes)) ≡ r
        → option_and_then (λ (head : SliceHead). head.full)
        (option_and_then (λ (q : Result SliceHead Fault). elim q [ Ok v ↦ Some v | Err fault ↦ None ]) (Some (elim r [ Ok x ↦ Ok x.0 | Err fault ↦ Err fault ])))
        ≡ Some v
        → Valid (full ctx (kind p)) v
    by_read (Ok x) e h = full_valid ctx (kind p) x.0 v (reads-of (slice_header ctx (kind p)) _ x.0 x.1 e).valid h
    by_read (Err fault) e h = absurd (cc)

-- ---- Its lists

within_14 : (c : Bool) (o : Option ℕ) → Valid (when c (ue ! SliceSyntax ∶ over 14)) o → or_zero o ≤ 14
within_14 c None h = omega arith
within_14 c (Some n) h = ltb-false 14 n h.1.1

-- list entries, coded where the flag of the modification is set
abbrev pub AreCoded : Option ℕ → Option (List ℕ) → ℕ → Type 0
AreCoded flag list_entry active = IfSome list_entry (λ entries. (coded_set flag ≡ true) × (length entries ≡ active))

are_coded : (flag : Option ℕ) (list_entry : Option (List ℕ)) (n width : ℕ) → Valid (when (coded_set flag) (us 0 n width)) list_entry → AreCoded flag list_entry n
are_coded flag None n width h = tt
are_coded flag (Some entries) n width h = (h.0, items-length _ 0 n entries h.1)

-- a flag that is set is coded
set_where : (c : Bool) (flag : Option ℕ) → Valid (when c (u 1)) flag → coded_set flag ≡ true → c ≡ true
set_where c None h e = absurd (cc)
set_where c (Some n) h e = h.0

right_of : (a b : Bool) → (a && b) ≡ true → b ≡ true
right_of true b e = e
right_of false b e = absurd (cc)

-- of the lists of a P or B segment
pub record Listed (ctx : SliceContextValue) (v : SliceFull) (l : SliceLists) : Type 0 where
  pub predicts : predicts v ≡ true
  pub few_l0 : or_zero l.num_ref_idx_l0_active_minus1 ≤ 14
  pub few_l1 : or_zero l.num_ref_idx_l1_active_minus1 ≤ 14
  pub entries_l0 : AreCoded l.modification.ref_pic_list_modification_flag_l0 l.modification.list_entry_l0 (num_entries l.num_ref_idx_l0_active_minus1 ctx.num_ref_idx_l0_default_active_minus1)
  pub entries_l1 : AreCoded l.modification.ref_pic_list_modification_flag_l1 l.modification.list_entry_l1 (num_entries l.num_ref_idx_l1_active_minus1 ctx.num_ref_idx_l1_default_active_minus1)
  pub b_l1 : coded_set l.modification.ref_pic_list_modification_flag_l1 ≡ true → is_b v.picture.slice_type ≡ true

listed_of : (ctx : SliceContextValue) (v : SliceFull) (total : ℕ) (temporal_mvp : Bool) (l : SliceLists) → predicts v ≡ true
    → Valid (tables.lists ctx v.picture.slice_type total temporal_mvp) l → Listed ctx v l
unfolding tables.lists list_modification
listed_of ctx v total temporal_mvp l e h =
    let m = h.0.1.1.1.0 in
    record {
      predicts = e;
      few_l0 = within_14 _ l.num_ref_idx_l0_active_minus1 h.0.1.0;
      few_l1 = within_14 _ l.num_ref_idx_l1_active_minus1 h.0.1.1.0;
      entries_l0 = are_coded l.modification.ref_pic_list_modification_flag_l0 l.modification.list_entry_l0 _ _ m.0.1.0;
      entries_l1 = are_coded l.modification.ref_pic_list_modification_flag_l1 l.modification.list_entry_l1 _ _ m.0.1.1.1;
      b_l1 = λ set. right_of _ (is_b v.picture.slice_type) (set_where _ l.modification.ref_pic_list_modification_flag_l1 m.0.1.1.0 set);
    }

pub lists_listed : (ctx : SliceContextValue) (nal_unit_type : ℕ) (v : SliceFull) → Valid (full ctx nal_unit_type) v → IfSome v.prediction.lists (Listed ctx v)
unfolding full prediction
lists_listed ctx nal_unit_type v h = coded _ _ v.prediction.lists h.0.1.1.0.0.1.1
  where
    coded : (total : ℕ) (temporal_mvp : Bool) (o : Option SliceLists)
        → Valid (when (is_p v.picture.slice_type || is_b v.picture.slice_type) (tables.lists ctx v.picture.slice_type total temporal_mvp)) o → IfSome o (Listed ctx v)
    coded total temporal_mvp None h = tt
    coded total temporal_mvp (Some l) h = listed_of ctx v total temporal_mvp l h.0 h.1

-- ---- The conditions of the call

pub segment_few_l0 : (ctx : SliceContextValue) (v : SliceFull) → Fits ctx → IfSome v.prediction.lists (Listed ctx v) → active_l0 ctx v ≤ 15
segment_few_l0 ctx v fits h = few_l0 ctx v (omega (arith, fits.few_l0)) (go v.prediction.lists h)
  where
    go : (o : Option SliceLists) → IfSome o (Listed ctx v) → IfSome o (λ l. or_zero l.num_ref_idx_l0_active_minus1 ≤ 14)
    go None h = tt
    go (Some l) h = h.few_l0

pub segment_few_l1 : (ctx : SliceContextValue) (v : SliceFull) → Fits ctx → IfSome v.prediction.lists (Listed ctx v) → active_l1 ctx v ≤ 15
segment_few_l1 ctx v fits h = few_l1 ctx v (omega (arith, fits.few_l1)) (go v.prediction.lists h)
  where
    go : (o : Option SliceLists) → IfSome o (Listed ctx v) → IfSome o (λ l. or_zero l.num_ref_idx_l1_active_minus1 ≤ 14)
    go None h = tt
    go (Some l) h = h.few_l1

in_segment : (has : Bool) (flag : Option ℕ) (list_entry : Option (List ℕ)) (n : ℕ) → (coded_set flag ≡ true → has ≡ true) → AreCoded flag list_entry n → AreAll has list_entry n
in_segment has flag None n e h = tt
in_segment has flag (Some entries) n e h = (e h.0, h.1)

pub segment_all_l0 : (ctx : SliceContextValue) (v : SliceFull) → IfSome v.prediction.lists (Listed ctx v) → IfSome (list_entry_l0 v) (λ entries. length entries ≡ active_l0 ctx v)
segment_all_l0 ctx v h = all_l0 ctx v (go v.prediction.lists h)
  where
    go : (o : Option SliceLists) → IfSome o (Listed ctx v)
        → IfSome o (λ l. AreAll (predicts v) l.modification.list_entry_l0 (num_entries l.num_ref_idx_l0_active_minus1 ctx.num_ref_idx_l0_default_active_minus1))
    go None h = tt
    go (Some l) h = in_segment (predicts v) l.modification.ref_pic_list_modification_flag_l0 l.modification.list_entry_l0 _ (λ _. h.predicts) h.entries_l0

pub segment_all_l1 : (ctx : SliceContextValue) (v : SliceFull) → IfSome v.prediction.lists (Listed ctx v) → IfSome (list_entry_l1 v) (λ entries. length entries ≡ active_l1 ctx v)
segment_all_l1 ctx v h = all_l1 ctx v (go v.prediction.lists h)
  where
    go : (o : Option SliceLists) → IfSome o (Listed ctx v)
        → IfSome o (λ l. AreAll (is_b v.picture.slice_type) l.modification.list_entry_l1 (num_entries l.num_ref_idx_l1_active_minus1 ctx.num_ref_idx_l1_default_active_minus1))
    go None h = tt
    go (Some l) h = in_segment (is_b v.picture.slice_type) l.modification.ref_pic_list_modification_flag_l1 l.modification.list_entry_l1 _ h.b_l1 h.entries_l1
