-- A later segment of a picture: the rules that it breaks, and what the picture stands for behind it.
use Rattle.std.proofs.Common.{◌≡◌, ℕ, Bool, true, false, not, ◌&&◌, List, [], ◌∷◌, Option, Some, None, option_map, Result, Ok, Err, refl, sym, ap, ◌∙◌, if◌then◌else◌}
use Rattle.std.specs.Prelude.{⊤, nat_eq, option_and_then}
use Rattle.std.specs.List.{find}
use Rattle.std.specs.Option.{option_or}
use Rattle.std.proofs.lemmas.Bool.{and_from, and_parts, eq-eqb, eqb-true, not-false}
use Rattle.mv_syntax.specs.Bits.{Fault}
use Rattle.mv_syntax.specs.Words.{◌otherwise◌}
use Rattle.mv_rules.specs.declared.rule.Rule.{Rule}
use Rattle.mv_units.specs.declared.head.UnitHead.{UnitHead}
use Rattle.mv_vps.specs.Vps.{WholeVps}
use Rattle.mv_slice.specs.declared.opening.SliceOpening.{SliceOpening}
use Rattle.mv_slice.specs.declared.slice.SliceHead.{SliceHead}
use Rattle.mv_slice.specs.Context.{SliceContextValue}
use Rattle.mv_pictures.specs.Items.{is_slice as item_slice}
use Rattle.mv_pictures.specs.AccessUnits.{Placed, is_own_picture}
use Rattle.mv_pictures.specs.Facts.{Fact, fact, named_sets, own_picture, sets_of}
use Rattle.mv_pictures.specs.SliceFields.{full_of, head_of}
use Rattle.mv_pictures.specs.Judged.{Judged}
use Rattle.mv_pictures.specs.Look.{look}
use Rattle.mv_pictures.specs.SliceRules.{address, address_order, agrees, full_agrees, same_field, same_opening, same_option, segment_before, slice_differs}
use Rattle.mv_pictures.specs.Rules.{Case, case}
use Rattle.mv_au.specs.Agreement.{IsLater, IsSegment as IsRead, answer}
use Rattle.mv_tried.specs.Finer.{agreement_cases, facts_in}
use Rattle.mv_tried.specs.Tried.{first_of, list_cases}
use Rattle.mv_walk_segment.specs.OpenValue.{OpenValue}
use Rattle.mv_walk_segment.specs.Open.{IsNext, Takes, later_rule}
use Rattle.mv_walk_segment.specs.Taken.{taken}
use Rattle.mv_walk_segment.specs.Serving.{context_by, sets_by}
use Rattle.mv_walk_segment.proofs.OpenLaws.{find-fact, own-is, served-is}
use Rattle.mv_walk_segment.proofs.ReadLaws.{context-at}

-- a fact with a context in place of its own
abbrev pub with_context : Fact → Option SliceContextValue → Fact
with_context p ctx = record { placed = p.placed; sps_unit = p.sps_unit; pps_unit = p.pps_unit; sets = p.sets; context = ctx; header = p.header }

-- the rule of an answer
abbrev pub told : Result ⊤ Rule → Option Rule
told r = elim r [ Ok done ↦ None | Err rule ↦ Some rule ]

head_from : ℕ → ℕ → ℕ → UnitHead
head_from k l t = record { kind = k; layer = l; tid = t }

module _ (vps : WholeVps) (opened : OpenValue) (head : UnitHead) (header : SliceHead) (past : List Judged) (q : Placed) (next : IsNext vps opened head header past q) where
  abbrev p : Fact
  p = fact (facts_in past) q

  abbrev first : Judged
  first = next.stands.first

  abbrev ctx : SliceContextValue
  ctx = context_by vps opened.served.active opened.head

  pub layers : first.fact.placed.item.head.layer ≡ q.item.head.layer
  layers = ap (λ (h : UnitHead). h.layer) next.stands.head_is ∙ sym next.layer_is ∙ ap (λ (h : UnitHead). h.layer) (sym next.head_is)

  open_layer : opened.head.layer ≡ q.item.head.layer
  open_layer = sym next.layer_is ∙ ap (λ (h : UnitHead). h.layer) (sym next.head_is)

  pub own : own_picture (facts_in past) q ≡ Some first.fact
  own =
      own-is vps opened past q next.stands next.later
      ∙ ap (λ (b : Bool). if b then Some first.fact else None) (eq-eqb opened.head.layer q.item.head.layer open_layer)

  before : option_map address (segment_before (facts_in past) p) ≡ Some opened.address
  unfolding segment_before is_own_picture fact
  before =
      let test : ℕ → Fact → Bool = λ n f. item_slice f.placed.item && (nat_eq f.placed.item.head.layer n && nat_eq f.placed.au q.au) in
      ap (option_map address)
      (find-fact (test q.item.head.layer) past
      ∙ ap (λ (n : ℕ). option_map (λ (d : Judged). d.fact) (find (λ (d : Judged). test n d.fact) past)) (sym layers)
      ∙ ap (option_map (λ (d : Judged). d.fact)) next.stands.segment)
      ∙ ap Some (sym next.stands.address_is)

  head_is : (c : Option SliceContextValue) → head_of (with_context p c) ≡ Some header
  head_is c = ap (option_and_then (λ (r : Result SliceHead Fault). elim r [ Ok v ↦ Some v | Err fault ↦ None ])) next.header_is

  pub first-read : IsRead opened.head opened.first first.fact
  first-read = record {
    head_is = sym next.stands.head_is;
    opening_is = next.stands.opening_is;
    header_is = ap (option_and_then (λ (r : Result SliceHead Fault). elim r [ Ok v ↦ Some v | Err fault ↦ None ])) next.stands.header_is;
  }

  pub next-read : IsRead head header (with_context p (Some ctx))
  unfolding fact
  next-read = record { head_is = sym next.head_is; opening_is = next.opening_is; header_is = head_is (Some ctx) }

  pub is-later : IsLater opened.address ctx (facts_in past) first.fact (with_context p (Some ctx))
  unfolding fact segment_before
  is-later = record { slice = next.slice; picture = own; context = refl; before = before }

  -- ---- Where it agrees, it has the context of the picture

  pub agrees-there : slice_differs (facts_in past) p ≡ false → agrees p first.fact ≡ true
  unfolding slice_differs fact
  agrees-there e =
      not-false (agrees p first.fact)
      (sym
      (ap (λ (b : Bool). b && (option_map (λ (f : Fact). not (agrees p f)) (own_picture (facts_in past) q) otherwise false)) next.slice
      ∙ ap (λ (o : Option Fact). option_map (λ (f : Fact). not (agrees p f)) o otherwise false) own)
      ∙ e)

  module _ (agreed : agrees p first.fact ≡ true) where
    same-head : q.item.head ≡ opened.head
    unfolding agrees fact head_from
    same-head =
        let kinds : Bool = nat_eq q.item.head.kind first.fact.placed.item.head.kind in
        let tids : Bool = nat_eq q.item.head.tid first.fact.placed.item.head.tid in
        let openings : Bool = same_option same_opening q.item.opening first.fact.placed.item.opening in
        let p0 = and_parts ((kinds && tids) && openings) (full_agrees (full_of p) (full_of first.fact)) agreed in
        let p1 = and_parts (kinds && tids) openings p0.0 in
        let p2 = and_parts kinds tids p1.0 in
        ap (λ (k : ℕ). head_from k q.item.head.layer q.item.head.tid) (eqb-true q.item.head.kind first.fact.placed.item.head.kind p2.0)
        ∙ ap (λ (l : ℕ). head_from first.fact.placed.item.head.kind l q.item.head.tid) (sym layers)
        ∙ ap (λ (t : ℕ). head_from first.fact.placed.item.head.kind first.fact.placed.item.head.layer t) (eqb-true q.item.head.tid first.fact.placed.item.head.tid p2.1)
        ∙ next.stands.head_is

    openings-agree : same_opening header.opening opened.first.opening ≡ true
    unfolding agrees fact same_option
    openings-agree =
        let kinds : Bool = nat_eq q.item.head.kind first.fact.placed.item.head.kind in
        let tids : Bool = nat_eq q.item.head.tid first.fact.placed.item.head.tid in
        let openings : Bool = same_option same_opening q.item.opening first.fact.placed.item.opening in
        let p0 = and_parts ((kinds && tids) && openings) (full_agrees (full_of p) (full_of first.fact)) agreed in
        let p1 = and_parts (kinds && tids) openings p0.0 in
        let p2 = and_parts kinds tids p1.0 in
        sym
        (ap (λ (o : Option SliceOpening). same_option same_opening o first.fact.placed.item.opening) next.opening_is
        ∙ ap (same_option same_opening (Some header.opening)) next.stands.opening_is)
        ∙ p1.1

    pub full-agrees : full_agrees (full_of p) (full_of first.fact) ≡ true
    unfolding agrees fact
    full-agrees =
        let kinds : Bool = nat_eq q.item.head.kind first.fact.placed.item.head.kind in
        let tids : Bool = nat_eq q.item.head.tid first.fact.placed.item.head.tid in
        let openings : Bool = same_option same_opening q.item.opening first.fact.placed.item.opening in
        let p0 = and_parts ((kinds && tids) && openings) (full_agrees (full_of p) (full_of first.fact)) agreed in
        let p1 = and_parts (kinds && tids) openings p0.0 in
        let p2 = and_parts kinds tids p1.0 in
        p0.1

    same-pps : nat_eq header.opening.slice_pic_parameter_set_id opened.first.opening.slice_pic_parameter_set_id ≡ true
    unfolding same_opening
    same-pps =
        (and_parts (same_field header.opening.no_output_of_prior_pics_flag opened.first.opening.no_output_of_prior_pics_flag)
        (nat_eq header.opening.slice_pic_parameter_set_id opened.first.opening.slice_pic_parameter_set_id) openings-agree).1

    pub same-sets : sets_of (facts_in past) q ≡ sets_by opened.served.active
    same-sets =
        let id : ℕ = header.opening.slice_pic_parameter_set_id in
        served-is vps opened past q id next.stands next.slice next.later (ap (option_map (λ (o : SliceOpening). o.slice_pic_parameter_set_id)) next.opening_is)
        ∙ ap (λ (b : Bool). if b then sets_by opened.served.active else named_sets (facts_in past) q)
        (and_from (nat_eq opened.head.layer q.item.head.layer) (nat_eq id opened.first.opening.slice_pic_parameter_set_id) (eq-eqb opened.head.layer q.item.head.layer open_layer) same-pps)

    pub same-context : p.context ≡ Some ctx
    same-context = context-at vps opened.served.active opened.head (facts_in past) q same-sets next.vps_is same-head

  -- ---- The rules on fields and addresses

  first_told : (d a : Bool) → told (if d then Err Rule.SliceDiffers else (if a then Err Rule.AddressOrder else Ok tt)) ≡ (if d then Some Rule.SliceDiffers else (if a then Some Rule.AddressOrder else None))
  first_told true a = refl
  first_told false true = refl
  first_told false false = refl

  agreement-first : first_of (agreement_cases (facts_in past) p) ≡ (if slice_differs (facts_in past) p then Some Rule.SliceDiffers else (if address_order (facts_in past) p then Some Rule.AddressOrder else None))
  unfolding first_of agreement_cases
  agreement-first = go (slice_differs (facts_in past) p) (address_order (facts_in past) p)
    where
      go : (d a : Bool) → option_map (λ (c : Case). c.rule) (find (λ (c : Case). c.holds) (case Rule.SliceDiffers d ∷ case Rule.AddressOrder a ∷ [])) ≡ (if d then Some Rule.SliceDiffers else (if a then Some Rule.AddressOrder else None))
      go true a = refl
      go false true = refl
      go false false = refl

  pub agreement-told : first_of (agreement_cases (facts_in past) p) ≡ told (answer (facts_in past) (with_context p (Some ctx)))
  unfolding answer slice_differs agrees
  agreement-told =
      agreement-first ∙ go (slice_differs (facts_in past) p) refl ∙ sym (first_told (slice_differs (facts_in past) p) (address_order (facts_in past) (with_context p (Some ctx))))
    where
      go : (d : Bool) → slice_differs (facts_in past) p ≡ d
          → (if d then Some Rule.SliceDiffers else (if address_order (facts_in past) p then Some Rule.AddressOrder else None))
          ≡ (if d then Some Rule.SliceDiffers else (if address_order (facts_in past) (with_context p (Some ctx)) then Some Rule.AddressOrder else None))
      go true e = refl
      go false e =
          ap (λ (c : Option SliceContextValue). if address_order (facts_in past) (with_context p c) then Some Rule.AddressOrder else None) (same-context (agrees-there e))

  pub ok-agrees : answer (facts_in past) (with_context p (Some ctx)) ≡ Ok tt → agrees p first.fact ≡ true
  unfolding answer slice_differs agrees
  ok-agrees e = go (slice_differs (facts_in past) p) refl e
    where
      go : (d : Bool) → slice_differs (facts_in past) p ≡ d
          → Path (Result ⊤ Rule) (if d then Err Rule.SliceDiffers else (if address_order (facts_in past) (with_context p (Some ctx)) then Err Rule.AddressOrder else Ok tt)) (Ok tt) → agrees p first.fact ≡ true
      go true same h = absurd (cc)
      go false same h = agrees-there same

  pub refused-rule : (rule : Rule) → answer (facts_in past) (with_context p (Some ctx)) ≡ Err rule → later_rule past p ≡ Some rule
  refused-rule rule e = ap (λ (o : Option Rule). option_or o (first_of (list_cases (look past p) p))) (agreement-told ∙ ap told e)

  pub ok-rule : answer (facts_in past) (with_context p (Some ctx)) ≡ Ok tt → later_rule past p ≡ first_of (list_cases (look past p) p)
  ok-rule e = ap (λ (o : Option Rule). option_or o (first_of (list_cases (look past p) p))) (agreement-told ∙ ap told e)

pub takes-taken : (r s : Option Rule) → s ≡ r → Takes (taken r) s
takes-taken None s e = e
takes-taken (Some rule) s e = e
