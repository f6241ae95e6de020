-- What is told of a segment by its sets and its header.
use Rattle.std.proofs.Common.{◌≡◌, ℕ, Bool, true, false, List, ◌++◌, Option, Some, None, option_map, Result, Ok, Err, refl, sym, ap, ap₂, ◌∙◌, subst, if◌then◌else◌, inl, inr}
use Rattle.std.specs.Prelude.{IfErr, IfOk, nat_eq, option_and_then}
use Rattle.std.proofs.lemmas.Bool.{and_parts, eqb-true}
use Rattle.std.proofs.lemmas.List.{append_assoc}
use Rattle.mv_rules.specs.Rule.{rule_number}
use Rattle.mv_rules.specs.declared.rule.Rule.{Rule}
use Rattle.mv_rules.specs.declared.refusal.ReadFault.{ReadFault}
use Rattle.mv_rules.specs.declared.refusal.ReadFault.TheVariants.{Refused, Memory as out_of_memory}
use Rattle.mv_syntax.specs.Bits.{Fault, short, breaks, byte_bits}
use Rattle.mv_syntax.specs.Table.{Reads as ReadsTable, Table, Valid, bits_of}
use Rattle.mv_syntax.specs.inner.Reader.{read}
use Rattle.mv_syntax.proofs.TableLaws.{ok_value, read-reads, reads-of}
use Rattle.mv_units.specs.declared.head.UnitHead.{UnitHead}
use Rattle.mv_units.specs.Escapes.{payload}
use Rattle.mv_vps.specs.Vps.{WholeVps}
use Rattle.mv_slice.specs.declared.opening.SliceOpening.{SliceOpening}
use Rattle.mv_slice.specs.declared.slice.SliceHead.{SliceHead}
use Rattle.mv_slice.specs.Context.{SliceContextValue}
use Rattle.mv_slice.specs.Opening.{opening}
use Rattle.mv_slice.specs.Slice.{slice_fields, slice_header}
use Rattle.mv_pictures.specs.Contexts.{slice_context}
use Rattle.mv_pictures.specs.Items.{opening_of}
use Rattle.mv_pictures.specs.Layers.{whole}
use Rattle.mv_pictures.specs.Kinds.{is_slice_kind}
use Rattle.mv_pictures.specs.AccessUnits.{Placed}
use Rattle.mv_pictures.specs.Facts.{Fact, Sets, context_of, fact, header_of, sets_of}
use Rattle.mv_sets.specs.Sets.{ActiveValue}
use Rattle.mv_contexts.specs.Units.{IsWhy, header_in}
use Rattle.mv_tried.specs.Segments.{header_rule, rule_of_segment, segment_rule}
use Rattle.mv_walk_segment.specs.Serving.{IsSegment, Reads, context_by, sets_by}

-- ---- The first fields of a header are those of its unit

begins : {A : Type 0} (t : Table A) (v : A) (b more pad rest : List Bool) → Valid t v → b ≡ ((bits_of t v ++ more) ++ pad) ++ rest → (tail : List Bool) × ReadsTable t b v tail
begins t v b more pad rest valid e =
    let own = bits_of t v in
    (more ++ (pad ++ rest), record { valid = valid; bits = e ∙ append_assoc (own ++ more) pad rest ∙ append_assoc own more (pad ++ rest) })

opening_reads : (ctx : SliceContextValue) (kind : ℕ) (b rest : List Bool) (h : SliceHead) → ReadsTable (slice_header ctx kind) b h rest → (tail : List Bool) × ReadsTable (opening kind) b h.opening tail
unfolding slice_header slice_fields
opening_reads ctx kind b rest h r = begins (opening kind) h.opening b _ _ rest r.valid.0.0 r.bits

pub opening-read : (ctx : SliceContextValue) (head : UnitHead) (unit : List ℕ) (h : SliceHead) → is_slice_kind head.kind ≡ true → header_in ctx head unit ≡ Ok h → opening_of head unit ≡ Some h.opening
unfolding opening_of
opening-read ctx head unit h slice e = go (read (slice_header ctx head.kind) (byte_bits (payload unit))) refl e
  where
    found : Result (SliceOpening × List Bool) Fault → Option SliceOpening
    found r = elim r [ Ok x ↦ Some x.0 | Err fault ↦ None ]

    go : (r : Result (SliceHead × List Bool) Fault) → read (slice_header ctx head.kind) (byte_bits (payload unit)) ≡ r
        → Path (Result SliceHead Fault) (elim r [ Ok x ↦ Ok x.0 | Err fault ↦ Err fault ]) (Ok h)
        → (elim (is_slice_kind head.kind) [ true ↦ found (read (opening head.kind) (byte_bits (payload unit))) | false ↦ None ]) ≡ Some h.opening
    go (Ok x) there same =
        let (tail, first) = opening_reads ctx head.kind (byte_bits (payload unit)) x.1 x.0 (reads-of (slice_header ctx head.kind) (byte_bits (payload unit)) x.0 x.1 there) in
        ap (λ (b : Bool). elim b [ true ↦ found (read (opening head.kind) (byte_bits (payload unit))) | false ↦ None ]) slice
        ∙ ap found (read-reads (opening head.kind) (byte_bits (payload unit)) x.0.opening tail first)
        ∙ ap (λ (v : SliceHead). Some v.opening) (ok_value x.0 h same)
    go (Err fault) there same = absurd (cc)

-- ---- Why a header isn't told

why : (there : Result SliceHead Fault) (rule : Rule) → IsWhy there (Refused rule) → header_rule (Some there) ≡ Some rule
why (Ok h) rule (inl (e, wrong)) = absurd (cc)
why (Ok h) rule (inr (e, wrong)) = absurd (cc)
why (Err short) rule (inl (e, cuts)) = ap Some (sym e)
why (Err short) rule (inr (e, wrong)) = absurd (cc)
why (Err (breaks r)) rule (inl (e, cuts)) =
    ap (λ (b : Bool). if b then Some Rule.SliceSyntax else (if nat_eq r (rule_number Rule.CrossLayerBla) then Some Rule.CrossLayerBla else None)) cuts ∙ ap Some (sym e)
why (Err (breaks r)) rule (inr (e, cuts)) =
    ap (λ (n : ℕ). if nat_eq n (rule_number Rule.SliceSyntax) then Some Rule.SliceSyntax else (if nat_eq n (rule_number Rule.CrossLayerBla) then Some Rule.CrossLayerBla else None))
    (eqb-true r (rule_number Rule.CrossLayerBla) cuts)
    ∙ ap Some (sym e)

-- ---- A segment that sets serve

pub context-at : (vps : WholeVps) (active : ActiveValue) (head : UnitHead) (past : List Fact) (q : Placed) → sets_of past q ≡ sets_by active → whole q.item.at ≡ Some vps → q.item.head ≡ head
    → (fact past q).context ≡ Some (context_by vps active head)
unfolding fact context_of
context-at vps active head past q served vps_is head_is =
    ap (context_of q) served
    ∙ ap (option_and_then (λ (v : WholeVps). Some (slice_context v q.item.head active.format active.sps.value.0 active.pps.value.0))) vps_is
    ∙ ap (λ (h : UnitHead). Some (context_by vps active h)) head_is

module _ (vps : WholeVps) (active : ActiveValue) (head : UnitHead) (unit : List ℕ) (past : List Fact) (q : Placed) (id : ℕ)
    (segment : IsSegment vps head id q) (bytes : q.item.bytes ≡ unit) (served : sets_of past q ≡ sets_by active) where
  slice_kind : is_slice_kind head.kind ≡ true
  slice_kind = ap (λ (h : UnitHead). is_slice_kind h.kind) (sym segment.head_is) ∙ (and_parts _ (is_slice_kind q.item.head.kind) segment.slice).1

  context-is : (fact past q).context ≡ Some (context_by vps active head)
  context-is = context-at vps active head past q served segment.vps_is segment.head_is

  header-is : (fact past q).header ≡ Some (header_in (context_by vps active head) head unit)
  unfolding fact header_of
  header-is =
      ap (option_map (header_of q.item)) context-is
      ∙ ap (λ (h : UnitHead). Some (header_in (context_by vps active head) h q.item.bytes)) segment.head_is
      ∙ ap (λ (u : List ℕ). Some (header_in (context_by vps active head) head u)) bytes

  rule-is : segment_rule (fact past q) ≡ header_rule (Some (header_in (context_by vps active head) head unit))
  unfolding segment_rule fact
  rule-is =
      ap (λ (s : Sets). rule_of_segment q.item.opening s (fact past q).header) served
      ∙ ap (rule_of_segment q.item.opening (sets_by active)) header-is
      ∙ go q.item.opening (Some (header_in (context_by vps active head) head unit)) segment.id_is
    where
      go : (o : Option SliceOpening) (h : Option (Result SliceHead Fault)) → option_map (λ (v : SliceOpening). v.slice_pic_parameter_set_id) o ≡ Some id
          → rule_of_segment o (sets_by active) h ≡ header_rule h
      go (Some v) h e = refl
      go None h e = absurd (cc)

  pub reads-are : (result : Result SliceHead ReadFault) → IfOk result (λ h. header_in (context_by vps active head) head unit ≡ Ok h) → IfErr result (IsWhy (header_in (context_by vps active head) head unit))
      → Reads result (fact past q)
  unfolding fact
  reads-are (Ok h) there free = record {
    none = rule-is ∙ ap (λ r. header_rule (Some r)) there;
    header_is = header-is ∙ ap Some there;
    opening_is = segment.opening_is ∙ ap₂ opening_of segment.head_is bytes ∙ opening-read (context_by vps active head) head unit h slice_kind there;
  }
  reads-are (Err (Refused rule)) free because = rule-is ∙ why (header_in (context_by vps active head) head unit) rule because
  reads-are (Err out_of_memory) free other = tt

  -- by a context that is the one of the sets
  pub reads-by : (ctx : SliceContextValue) (result : Result SliceHead ReadFault) → ctx ≡ context_by vps active head → IfOk result (λ h. header_in ctx head unit ≡ Ok h) → IfErr result (IsWhy (header_in ctx head unit))
      → Reads result (fact past q)
  reads-by ctx result same there because =
      reads-are result (subst (λ (x : SliceContextValue). IfOk result (λ h. header_in x head unit ≡ Ok h)) same there)
      (subst (λ (x : SliceContextValue). IfErr result (IsWhy (header_in x head unit))) same because)
