-- The rules on the lists of a later segment that agrees with its picture, and what the picture stands for behind it.
use Rattle.std.proofs.Common.{◌≡◌, ℕ, Bool, true, false, cond, ◌&&◌, List, [], ◌∷◌, Option, Some, None, option_map, Result, Ok, Err, refl, sym, ap, ap₂, ◌∙◌, subst, if◌then◌else◌, filter}
use Rattle.std.specs.Prelude.{is_some, nat_eq, option_and_then}
use Rattle.std.specs.Option.{IfSome}
use Rattle.std.specs.List.{find}
use Rattle.std.proofs.lemmas.Bool.{and_from, and_left, and_right, eq-eqb}
use Rattle.mv_history.specs.History.{from}
use Rattle.mv_syntax.specs.Bits.{Fault}
use Rattle.mv_syntax.specs.Words.{◌otherwise◌, or_zero}
use Rattle.mv_rules.specs.declared.rule.Rule.{Rule}
use Rattle.mv_units.specs.declared.head.UnitHead.{UnitHead}
use Rattle.mv_vps.specs.Vps.{WholeVps}
use Rattle.mv_slice.specs.declared.slice.SliceFull.{SliceFull}
use Rattle.mv_slice.specs.declared.slice.SliceHead.{SliceHead}
use Rattle.mv_slice.specs.Context.{Fits, SliceContextValue}
use Rattle.mv_slice.specs.Slice.{header_total, num_pic_total_curr as total_of}
use Rattle.mv_pictures.specs.AccessUnits.{Placed}
use Rattle.mv_pictures.specs.Facts.{Fact, fact}
use Rattle.mv_pictures.specs.History.{judged, judgement}
use Rattle.mv_pictures.specs.SliceFields.{full_of, is_full, num_pic_total_curr, predicts}
use Rattle.mv_pictures.specs.Judged.{Judged, begins, in_au, is_base, is_picture, is_slice, kind, layer, of_layer}
use Rattle.mv_pictures.specs.Lists as rules_of
use Rattle.mv_pictures.specs.Lists.{full_lists, no_lists, picture_before, segment_tags}
use Rattle.mv_pictures.specs.Look.{Look, asked, in_sequence, look, sequence}
use Rattle.mv_pictures.specs.PictureRules as rules
use Rattle.mv_pictures.specs.References.{tags as tags_of}
use Rattle.mv_pictures.specs.Rules.{Case, case}
use Rattle.mv_pictures.specs.SliceRules.{address, agrees, full_agrees, same_full}
use Rattle.mv_pictures.specs.Starts.{is_decoded, is_sequence_start}
use Rattle.mv_pictures.specs.Terms.{Lists, Tag}
use Rattle.mv_reflists.specs.Lists as own
use Rattle.mv_reflists.specs.Rules.{collocated, list_entry, list_rule, no_refs}
use Rattle.mv_reflists.specs.Sizes.{tags, total}
use Rattle.mv_reflists.specs.Stands.{IsSegment}
use Rattle.mv_reflists.proofs.Agreeing.{same_collocated, same_list_entry, same_lists, same_no_refs}
use Rattle.mv_reflists.proofs.Fields.{Listed, lists_listed, segment_all_l0, segment_all_l1, segment_few_l0, segment_few_l1, segment_valid}
use Rattle.mv_tried.specs.Finer.{facts_in}
use Rattle.mv_tried.specs.Tried.{first_of, list_cases}
use Rattle.mv_walk_segment.specs.OpenValue.{DecodedValue, OpenValue}
use Rattle.mv_walk_segment.specs.Open.{AreLists, IsNext, IsOpen, is_segment_of}
use Rattle.mv_walk_segment.specs.Serving.{context_by}
use Rattle.mv_walk_segment.specs.Taken.{AreListed, broken_by, with_lists}
use Rattle.mv_walk_segment.proofs.AddLaws.{full-agrees, layers, same-context}
use Rattle.mv_walk_segment.proofs.SameLaws.{total-same}

-- the units of a layer in the sequence, with one more
pub in_sequence-more : (d : Judged) (past : List Judged) (n : ℕ) → in_sequence (d ∷ past) n ≡ (if of_layer n d then d ∷ (if begins d then [] else in_sequence past n) else (if begins d then [] else in_sequence past n))
unfolding sequence from
in_sequence-more d past n = go (begins d)
  where
    go : (b : Bool) → filter (of_layer n) (cond b (d ∷ []) (d ∷ from begins past)) ≡ cond (of_layer n d) (d ∷ cond b [] (filter (of_layer n) (from begins past))) (cond b [] (filter (of_layer n) (from begins past)))
    go true = refl
    go false = refl

-- the first of the rules on lists
abbrev chain : Bool → Bool → Bool → Option Rule
chain a b c = if a then Some Rule.ListEntry else (if b then Some Rule.NoRefs else (if c then Some Rule.Collocated else None))

chained : (l : Look) (p : Fact) → first_of (list_cases l p) ≡ chain (rules.list_entry l p) (rules.no_refs l p) (rules.collocated l p)
unfolding first_of list_cases
chained l p = go (rules.list_entry l p) (rules.no_refs l p) (rules.collocated l p)
  where
    go : (a b c : Bool) → option_map (λ (x : Case). x.rule) (find (λ (x : Case). x.holds) (case Rule.ListEntry a ∷ case Rule.NoRefs b ∷ case Rule.Collocated c ∷ [])) ≡ chain a b c
    go true b c = refl
    go false true c = refl
    go false false true = refl
    go false false false = refl

-- a segment of a picture that isn't decoded, or a dependent one, breaks none
none-broken : (l : Look) (p : Fact) → rules.is_of_decoded l p ≡ false → chain (rules.list_entry l p) (rules.no_refs l p) (rules.collocated l p) ≡ None
unfolding rules.list_entry rules.no_refs rules.collocated
none-broken l p e =
    ap (λ (b : Bool). chain b (rules.no_refs l p) (rules.collocated l p)) (and_left (rules.is_of_decoded l p) _ e)
    ∙ ap (λ (b : Bool). chain false b (rules.collocated l p))
    (and_left (rules.is_of_decoded l p && predicts p) (nat_eq (num_pic_total_curr p) 0) (and_left (rules.is_of_decoded l p) (predicts p) e))
    ∙ ap (λ (b : Bool). chain false false b) (and_left (rules.is_of_decoded l p) _ e)

total-at : (ctx : SliceContextValue) (full : SliceFull) (o : Option SliceFull) → (option_map (same_full full) o otherwise false) ≡ true → total_of ctx full.picture full.inter_layer ≡ header_total ctx o
total-at ctx full (Some first) e = total-same ctx full first e
total-at ctx full None e = absurd (cc)

module _ (vps : WholeVps) (opened : OpenValue) (head : UnitHead) (header : SliceHead) (past : List Judged) (q : Placed) (next : IsNext vps opened head header past q) where
  abbrev p : Fact
  p = fact (facts_in past) q

  abbrev first : Judged
  first = next.stands.first

  abbrev last : Judged
  last = next.stands.last

  abbrev ctx : SliceContextValue
  ctx = context_by vps opened.served.active opened.head

  abbrev l : Look
  l = look past p

  own-first : picture_before l p ≡ Some first
  unfolding look fact
  own-first =
      ap (λ (n : ℕ). find (λ (d : Judged). is_picture d.fact && in_au q.au d) (in_sequence past n)) (sym (layers vps opened head header past q next)) ∙ next.stands.own_picture

  own-last : rules_of.segment_before l p ≡ Some last
  unfolding look fact
  own-last =
      ap (λ (n : ℕ). find (λ (d : Judged). is_slice d.fact && in_au q.au d) (in_sequence past n)) (sym (layers vps opened head header past q next)) ∙ next.stands.own_segment

  full-is : full_of p ≡ header.full
  full-is =
      ap (λ (o : Option (Result SliceHead Fault)). option_and_then (λ (h : SliceHead). h.full) (option_and_then (λ (r : Result SliceHead Fault). elim r [ Ok v ↦ Some v | Err fault ↦ None ]) o)) next.header_is

  has_full : is_full p ≡ (option_map (λ (f : SliceFull). true) header.full otherwise false)
  has_full = ap (λ (o : Option SliceFull). option_map (λ (f : SliceFull). true) o otherwise false) full-is

  no_picture : is_picture p ≡ false
  unfolding fact
  no_picture = next.later

  of_decoded : rules.is_of_decoded l p ≡ ((option_map (λ (f : SliceFull). true) header.full otherwise false) && is_some opened.decoded)
  unfolding rules.is_of_decoded
  of_decoded =
      let before : Option Judged → Bool = λ o. option_map (λ (d : Judged). d.decoded) o otherwise false in
      ap (λ (b : Bool). is_full p && (if b then is_decoded l p else before (picture_before l p))) no_picture
      ∙ ap (λ (o : Option Judged). is_full p && before o) own-first
      ∙ ap (λ (b : Bool). is_full p && b) next.stands.decoded_is
      ∙ ap (λ (b : Bool). b && is_some opened.decoded) has_full

  lists-of : (d : DecodedValue) → opened.decoded ≡ Some d → AreLists d first last
  lists-of d e = subst (λ (o : Option DecodedValue). IfSome o (λ x. AreLists x first last)) e next.stands.lists_are

  module _ (agreed : agrees p first.fact ≡ true) where
    segment-is : (full : SliceFull) → header.full ≡ Some full → IsSegment p ctx full
    segment-is full e = record { past = facts_in past; placed = q; is = refl; context = same-context vps opened head header past q next agreed; header = full-is ∙ e }

    totals : (d : DecodedValue) (full : SliceFull) → opened.decoded ≡ Some d → header.full ≡ Some full → num_pic_total_curr p ≡ total d.sizes
    unfolding num_pic_total_curr
    totals d full decoded e =
        let has : full_of p ≡ Some full = full-is ∙ e in
        ap (λ (c : Option SliceContextValue). option_map (λ (x : SliceContextValue). header_total x (full_of p)) c otherwise 0) (same-context vps opened head header past q next agreed)
        ∙ ap (header_total ctx) has
        ∙ total-at ctx full (full_of first.fact)
        (sym (ap (λ (o : Option SliceFull). full_agrees o (full_of first.fact)) has) ∙ full-agrees vps opened head header past q next agreed)
        ∙ sym (ap (λ (c : Option SliceContextValue). option_map (λ (x : SliceContextValue). header_total x (full_of first.fact)) c otherwise 0) next.stands.context_is)
        ∙ sym (lists-of d decoded).total_is

    pub broken-is : first_of (list_cases l p) ≡ broken_by opened.decoded ctx header.full
    unfolding list_rule
    broken-is = chained l p ∙ go opened.decoded header.full refl refl
      where
        decoded_by : (d : Option DecodedValue) (f : Option SliceFull) → opened.decoded ≡ d → header.full ≡ f → rules.is_of_decoded l p ≡ ((option_map (λ (x : SliceFull). true) f otherwise false) && is_some d)
        decoded_by d f ed ef = of_decoded ∙ ap₂ (λ (x : Option SliceFull) (y : Option DecodedValue). (option_map (λ (z : SliceFull). true) x otherwise false) && is_some y) ef ed

        go : (d : Option DecodedValue) (f : Option SliceFull) → opened.decoded ≡ d → header.full ≡ f
            → chain (rules.list_entry l p) (rules.no_refs l p) (rules.collocated l p) ≡ broken_by d ctx f
        go None None ed ef = none-broken l p (decoded_by None None ed ef)
        go None (Some full) ed ef = none-broken l p (decoded_by None (Some full) ed ef)
        go (Some d) None ed ef = none-broken l p (decoded_by (Some d) None ed ef)
        go (Some d) (Some full) ed ef =
            let seg : IsSegment p ctx full = segment-is full ef in
            let of : rules.is_of_decoded l p ≡ true = decoded_by (Some d) (Some full) ed ef in
            ap (λ (b : Bool). chain b (rules.no_refs l p) (rules.collocated l p)) (same_list_entry l p ctx full seg of)
            ∙ ap (λ (b : Bool). chain (list_entry (num_pic_total_curr p) full) b (rules.collocated l p)) (same_no_refs l p ctx full seg of)
            ∙ ap (λ (b : Bool). chain (list_entry (num_pic_total_curr p) full) (no_refs (num_pic_total_curr p) full) b) (same_collocated l p ctx full seg of)
            ∙ ap (λ (n : ℕ). chain (list_entry n full) (no_refs n full) (collocated ctx full)) (totals d full ed ef)

    -- ---- The conditions of lists

    pub listed : Fits ctx → IfSome header.full (λ full. AreListed ctx full)
    listed fits = go header.full refl
      where
        go : (f : Option SliceFull) → header.full ≡ f → IfSome f (λ full. AreListed ctx full)
        go None e = tt
        go (Some full) e =
            let parts : IfSome full.prediction.lists (Listed ctx full) = lists_listed ctx (kind p) full (segment_valid p ctx full (segment-is full e)) in
            record { few_l0 = segment_few_l0 ctx full fits parts; few_l1 = segment_few_l1 ctx full fits parts; all_l0 = segment_all_l0 ctx full parts; all_l1 = segment_all_l1 ctx full parts }

    -- ---- The lists of the segment

    tags-are : (d : DecodedValue) → opened.decoded ≡ Some d → segment_tags l p ≡ tags d.sizes
    unfolding segment_tags
    tags-are d e =
        ap (λ (b : Bool). if b then tags_of l p else (option_map (λ (x : Judged). x.tags) (picture_before l p) otherwise [])) no_picture
        ∙ ap (λ (o : Option Judged). option_map (λ (x : Judged). x.tags) o otherwise []) own-first
        ∙ (lists-of d e).tags_are

    abbrev after : OpenValue
    after = record { head = opened.head; served = opened.served; first = opened.first; address = or_zero header.address.slice_segment_address; decoded = with_lists opened.decoded ctx header.full }

    abbrev j : Judged
    j = judged past p

    begins-not : begins j ≡ false
    unfolding judged judgement is_sequence_start
    begins-not =
        and_right (of_layer 0 j) (is_sequence_start (look (asked past p) p) p) (and_left (is_base p) _ (and_right (nat_eq (layer p) 0) (is_picture p) no_picture))

    own-more : in_sequence (j ∷ past) (layer first.fact) ≡ j ∷ in_sequence past (layer first.fact)
    unfolding judged judgement fact
    own-more =
        let n : ℕ = layer first.fact in
        let rest : Bool → List Judged = λ b. if b then [] else in_sequence past n in
        in_sequence-more j past n
        ∙ ap (λ (b : Bool). if b then j ∷ rest (begins j) else rest (begins j)) (eq-eqb q.item.head.layer n (sym (layers vps opened head header past q next)))
        ∙ ap (λ (b : Bool). j ∷ rest b) begins-not

    full_there : (f : Option SliceFull) → header.full ≡ f → is_full p ≡ (option_map (λ (x : SliceFull). true) f otherwise false)
    full_there f e = has_full ∙ ap (λ (x : Option SliceFull). option_map (λ (z : SliceFull). true) x otherwise false) e

    lists-dependent : (d : DecodedValue) → opened.decoded ≡ Some d → header.full ≡ None → rules_of.lists l p ≡ d.lists
    unfolding rules_of.lists
    lists-dependent d ed ef =
        let before : Option Judged → Lists = λ o. option_map (λ (x : Judged). x.lists) o otherwise no_lists in
        ap (λ (b : Bool). if b then full_lists (segment_tags l p) p else before (rules_of.segment_before l p)) (full_there None ef)
        ∙ ap before own-last
        ∙ (lists-of d ed).lists_are

    lists-full : (d : DecodedValue) (full : SliceFull) → opened.decoded ≡ Some d → header.full ≡ Some full → rules_of.lists l p ≡ own.lists d.sizes ctx full
    unfolding rules_of.lists
    lists-full d full ed ef =
        let before : Lists = option_map (λ (x : Judged). x.lists) (rules_of.segment_before l p) otherwise no_lists in
        ap (λ (b : Bool). if b then full_lists (segment_tags l p) p else before) (full_there (Some full) ef)
        ∙ ap (λ (t : List Tag). full_lists t p) (tags-are d ed)
        ∙ same_lists p ctx full d.sizes (segment-is full ef)

    judged-lists : j.lists ≡ rules_of.lists l p
    unfolding judged judgement asked fact
    judged-lists = ap (λ (b : Bool). rules_of.lists (look (if b then past else []) p) p) next.slice

    after-decoded : is_some opened.decoded ≡ is_some (with_lists opened.decoded ctx header.full)
    after-decoded = go opened.decoded header.full
      where
        go : (d : Option DecodedValue) (f : Option SliceFull) → is_some d ≡ is_some (with_lists d ctx f)
        go None f = refl
        go (Some d) None = refl
        go (Some d) (Some full) = refl

    after-lists : IfSome (with_lists opened.decoded ctx header.full) (λ d. AreLists d first j)
    after-lists = go opened.decoded header.full refl refl
      where
        go : (d : Option DecodedValue) (f : Option SliceFull) → opened.decoded ≡ d → header.full ≡ f → IfSome (with_lists d ctx f) (λ x. AreLists x first j)
        go None f ed ef = tt
        go (Some d) None ed ef =
            record { tags_are = (lists-of d ed).tags_are; total_is = (lists-of d ed).total_is; lists_are = judged-lists ∙ lists-dependent d ed ef }
        go (Some d) (Some full) ed ef =
            record { tags_are = (lists-of d ed).tags_are; total_is = (lists-of d ed).total_is; lists_are = judged-lists ∙ lists-full d full ed ef }

    address-is : or_zero header.address.slice_segment_address ≡ address j.fact
    unfolding address judged judgement
    address-is =
        sym (ap (λ (o : Option (Result SliceHead Fault)). option_map (λ (h : SliceHead). or_zero h.address.slice_segment_address) (option_and_then (λ (r : Result SliceHead Fault). elim r [ Ok v ↦ Some v | Err fault ↦ None ]) o) otherwise 0) next.header_is)

    pub after-is : IsOpen vps after (j ∷ past) q.au
    unfolding judged judgement fact
    after-is =
        let n : ℕ = layer first.fact in
        let same : nat_eq q.item.head.layer n ≡ true = eq-eqb q.item.head.layer n (sym (layers vps opened head header past q next)) in
        let here : nat_eq q.au q.au ≡ true = eq-eqb q.au q.au refl in
        let of_picture : Judged → Bool = λ d. is_picture d.fact && in_au q.au d in
        let of_slice : Judged → Bool = λ d. is_slice d.fact && in_au q.au d in
        record {
          first = first;
          last = j;
          picture = ap (λ (b : Bool). cond b (Some j) (find (λ (d : Judged). is_picture d.fact) past)) no_picture ∙ next.stands.picture;
          au_is = next.stands.au_is;
          segment =
              ap (λ (b : Bool). cond b (Some j) (find (is_segment_of n q.au) past))
              (and_from (is_slice p) (nat_eq q.item.head.layer n && nat_eq q.au q.au) next.slice (and_from (nat_eq q.item.head.layer n) (nat_eq q.au q.au) same here));
          own_picture =
              ap (find of_picture) own-more
              ∙ ap (λ (b : Bool). cond (b && in_au q.au j) (Some j) (find of_picture (in_sequence past n))) no_picture
              ∙ next.stands.own_picture;
          own_segment =
              ap (find of_slice) own-more
              ∙ ap (λ (b : Bool). cond b (Some j) (find of_slice (in_sequence past n))) (and_from (is_slice p) (in_au q.au j) next.slice here);
          vps_is = next.stands.vps_is;
          head_is = next.stands.head_is;
          sets_are = next.stands.sets_are;
          context_is = next.stands.context_is;
          opening_is = next.stands.opening_is;
          header_is = next.stands.header_is;
          address_is = address-is;
          decoded_is = next.stands.decoded_is ∙ after-decoded;
          lists_are = after-lists;
        }
