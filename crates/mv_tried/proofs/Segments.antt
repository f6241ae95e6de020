-- What a slice segment breaks by its sets and its header.
use Rattle.std.proofs.Common.{◌≡◌, ℕ, Bool, true, false, cond, not, ◌&&◌, ◌||◌, List, [], ◌∷◌, Option, None, Some, refl, ap, ◌∙◌, if◌then◌else◌}
use Rattle.std.specs.Prelude.{is_none, is_some, nat_eq, option_map, option_and_then, Result, Ok, Err}
use Rattle.mv_syntax.specs.Bits.{Fault, short, breaks}
use Rattle.mv_syntax.specs.Words.{◌otherwise◌}
use Rattle.mv_rules.specs.Rule.{rule_number}
use Rattle.mv_rules.specs.declared.rule.Rule.{Rule}
use Rattle.mv_common.specs.declared.format.Format.{Format}
use Rattle.mv_sps.specs.Sps.{SpsValue}
use Rattle.mv_pps.specs.Pps.{PpsValue}
use Rattle.mv_slice.specs.declared.opening.SliceOpening.{SliceOpening}
use Rattle.mv_slice.specs.declared.slice.SliceHead.{SliceHead}
use Rattle.mv_pictures.specs.AccessUnits.{Placed}
use Rattle.mv_pictures.specs.Carried.{Carried}
use Rattle.mv_pictures.specs.Facts.{Fact, Sets, fact, named_sets, no_sets, own_picture, pps_id, same_pps_id, seen_pps, served_by, sets_of}
use Rattle.mv_pictures.specs.Items as items
use Rattle.mv_pictures.specs.Judged.{is_slice}
use Rattle.mv_pictures.specs.Rules.{Case, case}
use Rattle.mv_pictures.specs.SliceRules.{cross_layer_bla, missing_pps, missing_sps, slice_syntax}
use Rattle.mv_pictures.specs.UnitRules.{fails, is_cut}
use Rattle.mv_tried.specs.Segments.{header_rule, rule_of_segment, segment_rule}
use Rattle.mv_tried.specs.Tried.{first_of, segment_cases}

-- what the cases are of a slice segment, by its first fields, its sets and its header
segment_list : Bool → Option SliceOpening → Sets → Option (Result SliceHead Fault) → List Case
segment_list slice opening sets header =
    case Rule.MissingPps (slice && is_some opening && is_none sets.pps)
    ∷ case Rule.MissingSps (slice && is_some sets.pps && (is_none sets.sps || is_none sets.format))
    ∷ case Rule.SliceSyntax (slice && (is_none opening || (option_map (λ r. fails r || is_cut Rule.SliceSyntax r) header otherwise false)))
    ∷ case Rule.CrossLayerBla (slice && (option_map (is_cut Rule.CrossLayerBla) header otherwise false))
    ∷ []

segment_cases-are : (p : Fact) → segment_cases p ≡ segment_list (is_slice p) p.placed.item.opening p.sets p.header
unfolding segment_cases segment_list missing_pps missing_sps slice_syntax cross_layer_bla
segment_cases-are p = refl

cut : (r : ℕ) (syntax_ bla : Bool) →
    option_map (λ (c : Case). c.rule) (cond syntax_ (Some (case Rule.SliceSyntax syntax_)) (cond bla (Some (case Rule.CrossLayerBla bla)) None))
    ≡ cond syntax_ (Some Rule.SliceSyntax) (cond bla (Some Rule.CrossLayerBla) None)
cut r true bla = refl
cut r false true = refl
cut r false false = refl

by_header : (header : Option (Result SliceHead Fault)) →
    first_of (case Rule.SliceSyntax (option_map (λ r. fails r || is_cut Rule.SliceSyntax r) header otherwise false)
    ∷ case Rule.CrossLayerBla (option_map (is_cut Rule.CrossLayerBla) header otherwise false) ∷ []) ≡ header_rule header
unfolding first_of
by_header None = refl
by_header (Some (Ok head)) = refl
by_header (Some (Err short)) = refl
by_header (Some (Err (breaks r))) = cut r (nat_eq r (rule_number Rule.SliceSyntax)) (nat_eq r (rule_number Rule.CrossLayerBla))

by_sets : (opening : Option SliceOpening) (pps : Option (Carried PpsValue)) (sps : Option (Carried SpsValue)) (format : Option Format) (header : Option (Result SliceHead Fault)) → (opening ≡ None → pps ≡ None) →
    first_of (segment_list true opening (record { pps = pps; sps = sps; format = format }) header) ≡ rule_of_segment opening (record { pps = pps; sps = sps; format = format }) header
unfolding first_of segment_list
by_sets None None sps format header h = refl
by_sets None (Some pps) sps format header h = absurd (let wrong : Some pps ≡ None = h refl in cc)
by_sets (Some opening) None sps format header h = refl
by_sets (Some opening) (Some pps) None format header h = refl
by_sets (Some opening) (Some pps) (Some sps) None header h = refl
by_sets (Some opening) (Some pps) (Some sps) (Some format) header h = by_header header

pub segment-breaks : (p : Fact) → is_slice p ≡ true → (p.placed.item.opening ≡ None → p.sets.pps ≡ None) → first_of (segment_cases p) ≡ segment_rule p
unfolding segment_rule
segment-breaks p slice h =
    ap first_of (segment_cases-are p)
    ∙ ap (λ b. first_of (segment_list b p.placed.item.opening p.sets p.header)) slice
    ∙ by_sets p.placed.item.opening p.sets.pps p.sets.sps p.sets.format p.header h

-- ---- First fields that don't read name nothing

same_none : (q f : Placed) → q.item.opening ≡ None → same_pps_id q f ≡ false
same_none q f h =
    ap (λ opening. option_map (λ a. option_map (nat_eq a) (pps_id f) otherwise false) (option_map (λ (o : SliceOpening). o.slice_pic_parameter_set_id) opening) otherwise false) h

server_none : (before : List Fact) (q : Placed) → q.item.opening ≡ None → served_by before q ≡ None
unfolding served_by
server_none before q h = go (own_picture before q)
  where
    go : (own : Option Fact) → option_and_then (λ (f : Fact). if same_pps_id q f.placed then Some f else None) own ≡ None
    go None = refl
    go (Some f) = ap (λ b. cond b (Some f) None) (same_none q f.placed h)

named_none : (before : List Fact) (q : Placed) → q.item.opening ≡ None → (named_sets before q).pps ≡ None
unfolding named_sets
named_none before q h = ap (λ opening. option_and_then (seen_pps before q.item.at q.item.head.layer) (option_map (λ (o : SliceOpening). o.slice_pic_parameter_set_id) opening)) h

sets_none : (before : List Fact) (q : Placed) → q.item.opening ≡ None → (sets_of before q).pps ≡ None
unfolding sets_of
sets_none before q h = go (items.is_slice q.item)
  where
    go : (b : Bool) → (cond (not b) no_sets (option_map (λ (f : Fact). f.sets) (served_by before q) otherwise named_sets before q)).pps ≡ None
    go false = refl
    go true = ap (λ server. (option_map (λ (f : Fact). f.sets) server otherwise named_sets before q).pps) (server_none before q h) ∙ named_none before q h

pub segment-rule : (before : List Fact) (q : Placed) → items.is_slice q.item ≡ true → first_of (segment_cases (fact before q)) ≡ segment_rule (fact before q)
unfolding fact
segment-rule before q slice = segment-breaks (fact before q) slice (sets_none before q)
