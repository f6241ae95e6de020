-- The sets that a segment names are those that are kept, and they are valid.
use Rattle.std.proofs.Common.{◌≡◌, ℕ, Bool, true, false, cond, List, [], ◌∷◌, Option, Some, None, option_map, Result, Ok, Err, refl, sym, ap, ◌∙◌, subst, if◌then◌else◌}
use Rattle.std.specs.Prelude.{All, IfErr, IfOk, option_and_then}
use Rattle.std.specs.Option.{option_or}
use Rattle.std.specs.List.{find}
use Rattle.std.proofs.lemmas.List.Elements.{All-head, All-tail}
use Rattle.std.proofs.lemmas.Option.{same_Some}
use Rattle.std.proofs.lemmas.Bool.{and_parts}
use Rattle.mv_history.specs.History.{since}
use Rattle.mv_rules.specs.declared.rule.Rule.{Rule}
use Rattle.mv_rules.specs.declared.refusal.ReadFault.{ReadFault}
use Rattle.mv_rules.specs.declared.refusal.ReadFault.TheVariants.{Refused, Memory as out_of_memory}
use Rattle.mv_slice.specs.declared.opening.SliceOpening.{SliceOpening}
use Rattle.mv_syntax.specs.Bits.{Fault, byte_bits}
use Rattle.mv_syntax.specs.Words.{◌otherwise◌}
use Rattle.mv_syntax.specs.Payload.{Payload, ValidPayload}
use Rattle.mv_syntax.specs.inner.PayloadReader.{read_payload}
use Rattle.mv_syntax.proofs.PayloadLaws.{reads-read_payload}
use Rattle.mv_syntax.proofs.TableLaws.{ok_value}
use Rattle.mv_units.specs.declared.head.UnitHead.{UnitHead}
use Rattle.mv_units.specs.Escapes.{payload}
use Rattle.mv_common.specs.declared.format.Format.{Format}
use Rattle.mv_layers.specs.LayerInfos.{is_known}
use Rattle.mv_vps.specs.Vps.{ValidVps, WholeVps}
use Rattle.mv_sps.specs.Sps.{SpsValue, sps_payload}
use Rattle.mv_pps.specs.Pps.{PpsValue, pps}
use Rattle.mv_pictures.specs.Carried.{Carried, carried, carried_pps as unit_pps, carried_sps as unit_sps, value_of}
use Rattle.mv_pictures.specs.Contexts.{format_of}
use Rattle.mv_pictures.specs.Items.{is_known as item_known}
use Rattle.mv_pictures.specs.Layers.{knows}
use Rattle.mv_pictures.specs.Kinds.{is_slice_kind}
use Rattle.mv_pictures.specs.AccessUnits.{Placed}
use Rattle.mv_pictures.specs.Facts.{Fact, Sets, fact, sets_of, max_sub_layers, named_format, named_pps, named_sets, named_sps, pps_id, pps_of_unit, seen_pps, seen_sps, sps_of_unit, turned}
use Rattle.mv_sets.specs.Sets.{ActiveValue, carried_pps, carried_sps}
use Rattle.mv_sets.specs.Store.{Gives, IsAsked, carried_sets, serving}
use Rattle.mv_contexts.specs.Sets.{AreSets}
use Rattle.mv_contexts.proofs.FormatLaws.{format-sized}
use Rattle.mv_tried.specs.Segments.{header_rule, lacking_set, rule_of_segment, segment_rule}
use Rattle.mv_walk_segment.specs.Serving.{IsCarried, IsSegment, IsServing, Names, Reads, eligible_at, sets_by}
use Rattle.mv_walk_segment.specs.OpenValue.{ServedValue}

-- ---- What is named is there, or lacks

sets_from : Option (Carried PpsValue) → Option (Carried SpsValue) → Option Format → Sets
sets_from p s f = record { pps = p; sps = s; format = f }

pub named-there : (s : Sets) (active : ActiveValue) → serving s ≡ Ok (carried_sets active) → s ≡ sets_by active
unfolding sets_from
named-there s active e = go s.pps s.sps s.format e
  where
    go : (p : Option (Carried PpsValue)) (v : Option (Carried SpsValue)) (f : Option Format) → serving (sets_from p v f) ≡ Ok (carried_sets active) → sets_from p v f ≡ sets_by active
    go None v f e = absurd (cc)
    go (Some p) None f e = absurd (cc)
    go (Some p) (Some v) None e = absurd (cc)
    go (Some p) (Some v) (Some f) e = ap (λ (t : Carried PpsValue × Carried SpsValue × Format). sets_from (Some t.0) (Some t.1) (Some t.2)) (ok_value (p, v, f) (carried_sets active) e)

pub named-lacks : (s : Sets) (rule : Rule) → serving s ≡ Err rule → lacking_set s.pps s.sps s.format ≡ Some rule
unfolding sets_from
named-lacks s rule e = go s.pps s.sps s.format e
  where
    told : Result (Carried PpsValue × Carried SpsValue × Format) Rule → Option Rule
    told r = elim r [ Ok x ↦ None | Err broken ↦ Some broken ]

    go : (p : Option (Carried PpsValue)) (v : Option (Carried SpsValue)) (f : Option Format) → serving (sets_from p v f) ≡ Err rule → lacking_set p v f ≡ Some rule
    go None v f e = ap told e
    go (Some p) None f e = ap told e
    go (Some p) (Some v) None e = ap told e
    go (Some p) (Some v) (Some f) e = absurd (cc)

-- ---- What is seen is carried by a unit

found-in : {A B : Type 0} (P : A → Type 0) (test stop : A → Bool) (get : A → Option B) (xs : List A) (b : B) → All P xs
    → option_and_then get (find test (since stop xs)) ≡ Some b → (x : A) × P x × (get x ≡ Some b)
unfolding since
found-in P test stop get [] b all e = absurd (cc)
found-in P test stop get (x ∷ xs) b all e = go (stop x) (λ h. found-in P test stop get xs b (All-tail P x xs all) h) e
  where
    again : (t : Bool) → (option_and_then get (find test (since stop xs)) ≡ Some b → (y : _) × P y × (get y ≡ Some b))
        → option_and_then get (cond t (Some x) (find test (since stop xs))) ≡ Some b → (y : _) × P y × (get y ≡ Some b)
    again true rest e = (x, All-head P x xs all, e)
    again false rest e = rest e

    go : (s : Bool) → (option_and_then get (find test (since stop xs)) ≡ Some b → (y : _) × P y × (get y ≡ Some b))
        → option_and_then get (find test (cond s [] (x ∷ since stop xs))) ≡ Some b → (y : _) × P y × (get y ≡ Some b)
    go true rest e = absurd (cc)
    go false rest e = again (test x) rest e

where_some : {A : Type 0} (b : Bool) (x : Option A) (y : A) → (if b then x else None) ≡ Some y → x ≡ Some y
where_some true x y e = e
where_some false x y e = absurd (cc)

-- what a unit carries, where it reads as a value, is valid with some tail
valid-carried : {A : Type 0} (table : Payload A) (head : UnitHead) (bytes : List ℕ) (v : A) → (carried table (λ coded. coded.0) head bytes).reading ≡ Ok v → (tail : Option (List Bool)) × ValidPayload table (v, tail)
valid-carried table head bytes v e = go (read_payload table (byte_bits (payload bytes))) refl e
  where
    go : (r : Result (_ × Option (List Bool)) Fault) → read_payload table (byte_bits (payload bytes)) ≡ r → Path (Result _ Fault) (elim r [ Ok x ↦ Ok x.0 | Err fault ↦ Err fault ]) (Ok v)
        → (tail : Option (List Bool)) × ValidPayload table (v, tail)
    go (Ok x) there same =
        (x.1, subst (λ w. ValidPayload table (w, x.1)) (ok_value x.0 v same) (reads-read_payload table (byte_bits (payload bytes)) x there).valid)
    go (Err fault) there same = absurd (cc)

seen-pps-valid : (past : List Fact) (q : Placed) (layer id : ℕ) (c : Carried PpsValue) (v : PpsValue) → All IsCarried past → c.reading ≡ Ok v → seen_pps past q.item.at layer id ≡ Some c
    → (tail : Option (List Bool)) × ValidPayload pps (v, tail)
unfolding seen_pps pps_of_unit unit_pps
seen-pps-valid past q layer id c v all is e =
    let (f, own, there) = found-in IsCarried _ turned (λ (f : Fact). f.pps_unit) past c all e in
    let same = same_Some _ c (where_some _ (Some (unit_pps f.placed.item.head f.placed.item.bytes)) c (sym own.pps_is ∙ there)) in
    valid-carried pps f.placed.item.head f.placed.item.bytes v (ap (λ (x : Carried PpsValue). x.reading) same ∙ is)

seen-sps-valid : (past : List Fact) (q : Placed) (layer id : ℕ) (c : Carried SpsValue) (v : SpsValue) → All IsCarried past → c.reading ≡ Ok v → seen_sps past q.item.at layer id ≡ Some c
    → (l n : ℕ) × (tail : Option (List Bool)) × ValidPayload (sps_payload l n) (v, tail)
unfolding seen_sps sps_of_unit unit_sps
seen-sps-valid past q layer id c v all is e =
    let (f, own, there) = found-in IsCarried _ turned (λ (f : Fact). f.sps_unit) past c all e in
    let n : ℕ = max_sub_layers f.placed.item.at in
    let same = same_Some _ c (where_some _ (Some (unit_sps n f.placed.item.head f.placed.item.bytes)) c (sym own.sps_is ∙ there)) in
    let (tail, valid) = valid-carried (sps_payload f.placed.item.head.layer n) f.placed.item.head f.placed.item.bytes v (ap (λ (x : Carried SpsValue). x.reading) same ∙ is) in
    (f.placed.item.head.layer, n, tail, valid)

-- ---- What is named is valid

pub known-there : (vps : WholeVps) (head : UnitHead) (id : ℕ) (q : Placed) → IsSegment vps head id q → is_known vps.derived.layers head.layer ≡ true
unfolding knows
known-there vps head id q s =
    ap (λ (h : UnitHead). is_known vps.derived.layers h.layer) (sym s.head_is)
    ∙ sym (ap (λ (o : Option WholeVps). option_map (λ (v : WholeVps). is_known v.derived.layers q.item.head.layer) o otherwise true) s.vps_is)
    ∙ (and_parts (item_known q.item) (is_slice_kind q.item.head.kind) s.slice).0

some_there : {A B : Type 0} (f : A → Option B) (o : Option A) (b : B) → option_and_then f o ≡ Some b → (a : A) × (f a ≡ Some b)
some_there f None b e = absurd (cc)
some_there f (Some a) b e = (a, e)

pub named-valid : (vps : WholeVps) (head : UnitHead) (id : ℕ) (active : ActiveValue) (past : List Fact) (q : Placed) → ValidVps vps → All IsCarried past → IsSegment vps head id q
    → named_sets past q ≡ sets_by active → AreSets active
unfolding named_sets sps_payload
named-valid vps head id active past q h all segment e =
    let pps_there : named_pps past q ≡ Some (carried_pps active.pps) = ap (λ (s : Sets). s.pps) e in
    let sps_there : named_sps past q (named_pps past q) ≡ Some (carried_sps active.sps) = ap (λ (s : Sets). s.sps) e in
    let format_there : named_format q (named_sps past q (named_pps past q)) ≡ Some active.format = ap (λ (s : Sets). s.format) e in
    let (pps_number, pps_seen) = some_there (seen_pps past q.item.at q.item.head.layer) (pps_id q) (carried_pps active.pps) pps_there in
    let (pps_tail, pps_valid) = seen-pps-valid past q q.item.head.layer pps_number (carried_pps active.pps) active.pps.value.0 all refl pps_seen in
    let (names, sps_seen) = some_there (λ (v : PpsValue). seen_sps past q.item.at q.item.head.layer v.opening.pps_seq_parameter_set_id) (option_and_then value_of (named_pps past q)) (carried_sps active.sps) sps_there in
    let (l, n, sps_tail, sps_valid) = seen-sps-valid past q q.item.head.layer names.opening.pps_seq_parameter_set_id (carried_sps active.sps) active.sps.value.0 all refl sps_seen in
    let formatted : format_of vps q.item.head.layer active.sps.value.0 ≡ Some active.format =
    sym (
    ap (λ (o : Option (Carried SpsValue)). named_format q o) sps_there
    ∙ ap (option_and_then (λ (v : WholeVps). format_of v q.item.head.layer active.sps.value.0)) segment.vps_is
    ) ∙ format_there in
    record {
      layer = l;
      vps_sub_layers = n;
      sps_tail = sps_tail;
      pps_tail = pps_tail;
      sps = sps_valid;
      pps = pps_valid;
      format = format-sized vps q.item.head.layer l n active.sps.value.0 active.format h sps_valid.fields formatted;
    }

-- ---- What is answered

pub names-with : (result : Result ServedValue ReadFault) (active : ActiveValue) (s : Sets) → IfOk result (λ v. v.active ≡ active) → IfErr result (λ fault. fault ≡ out_of_memory)
    → serving s ≡ Ok (carried_sets active) → Names result s
names-with (Ok v) active s same free e = named-there s active e ∙ ap sets_by (sym same)
names-with (Err (Refused rule)) active s free memory e = absurd (cc)
names-with (Err out_of_memory) active s free memory e = tt

pub serving-with : (vps : WholeVps) (head : UnitHead) (result : Result ServedValue ReadFault) (active : ActiveValue) → is_known vps.derived.layers head.layer ≡ true → AreSets active
    → IfOk result (λ v. v.active ≡ active) → IfOk result (λ v. v.eligible ≡ eligible_at vps head) → IfOk result (λ v. IsServing vps head v)
serving-with vps head (Ok v) active known valid same layers = record { known = known; sets = subst AreSets (sym same) valid; layers = layers }
serving-with vps head (Err fault) active known valid same layers = tt

pub names-lack : (fault : ReadFault) (s : Sets) → Gives (Err fault) (serving s) → Names (Err fault) s
names-lack (Refused rule) s e = named-lacks s rule e
names-lack out_of_memory s e = tt

pub lacks-rule : (past : List Fact) (q : Placed) (id : ℕ) (rule : Rule) → pps_id q ≡ Some id → sets_of past q ≡ named_sets past q
    → lacking_set (named_sets past q).pps (named_sets past q).sps (named_sets past q).format ≡ Some rule → segment_rule (fact past q) ≡ Some rule
unfolding segment_rule fact
lacks-rule past q id rule id_is served lacks =
    ap (λ (s : Sets). rule_of_segment q.item.opening s (fact past q).header) served ∙ go q.item.opening id_is
  where
    go : (o : Option SliceOpening) → option_map (λ (v : SliceOpening). v.slice_pic_parameter_set_id) o ≡ Some id → rule_of_segment o (named_sets past q) (fact past q).header ≡ Some rule
    go (Some v) e = ap (λ (r : Option Rule). option_or r (header_rule (fact past q).header)) lacks
    go None e = absurd (cc)

-- such a segment is one that a store is asked of
pub asked-by : (vps : WholeVps) (head : UnitHead) (id : ℕ) (q : Placed) → IsSegment vps head id q → IsAsked vps head.layer id q
asked-by vps head id q s = record { vps_is = s.vps_is; layer_is = ap (λ (h : UnitHead). h.layer) s.head_is; id_is = s.id_is }

-- what lacks is told of a segment that what it names serves
pub reads-lack : (past : List Fact) (q : Placed) (id : ℕ) (fault : ReadFault) → pps_id q ≡ Some id → sets_of past q ≡ named_sets past q → Names (Err fault) (named_sets past q) → Reads (Err fault) (fact past q)
reads-lack past q id (Refused rule) id_is served lacks = lacks-rule past q id rule id_is served lacks
reads-lack past q id out_of_memory id_is served free = tt
