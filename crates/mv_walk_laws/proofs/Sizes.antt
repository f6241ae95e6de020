-- Parameter sets that read have at most 65,536 bytes.
use Rattle.std.proofs.Common.{◌≡◌, ℕ, ◌*◌, ◌≤◌, Bool, true, false, cond, not, ◌&&◌, List, [], ◌∷◌, length, reverse, Option, None, Some, Result, Ok, Err, refl, sym, subst, arith, if◌then◌else◌}
use Rattle.std.specs.Prelude.{All, option_and_then, option_map}
use Rattle.std.specs.List.{find}
use Rattle.std.specs.Option.{IfSome}
use Rattle.std.proofs.lemmas.List.Elements.{All-cons, All-nil}
use Rattle.mv_syntax.specs.Bits.{Fault, byte_bits}
use Rattle.mv_syntax.specs.Payload.{Payload, ReadsPayload, size_limit}
use Rattle.mv_syntax.specs.Words.{◌otherwise◌}
use Rattle.mv_syntax.specs.inner.PayloadReader.{read_payload}
use Rattle.mv_syntax.proofs.BitLaws.{length-byte_bits}
use Rattle.mv_syntax.proofs.PayloadLaws.{reads-read_payload}
use Rattle.mv_history.specs.History.{run, since}
use Rattle.mv_history.proofs.Kept.{All-since}
use Rattle.mv_units.specs.declared.head.UnitHead.{UnitHead}
use Rattle.mv_units.specs.Escapes.{payload}
use Rattle.mv_sps.specs.Sps.{SpsValue, sps_payload}
use Rattle.mv_pps.specs.Pps.{PpsValue, pps}
use Rattle.mv_vps.specs.Vps.{VpsValue, vps}
use Rattle.mv_pictures.specs.AccessUnits.{Placed, all_placed, is_own_picture}
use Rattle.mv_pictures.specs.Carried.{Carried, carried, carried_pps, carried_sps, carried_vps, value_of, whole_vps}
use Rattle.mv_pictures.specs.Facts.{Fact, fact, facts, has_pps_id, has_sps_id, is_seen, max_sub_layers, named_pps, named_sets, named_sps, no_sets, own_picture, pps_id, pps_of_unit, same_pps_id, seen_pps, seen_sps, served_by, sets_of, sps_of_unit, turned}
use Rattle.mv_pictures.specs.History.{facts_of}
use Rattle.mv_pictures.specs.Items.{Item, is_known, is_picture, is_slice, items}
use Rattle.mv_pictures.specs.Kinds.{is_pps_kind, is_sps_kind}
use Rattle.mv_pictures.specs.Layers.{InForce}
use Rattle.mv_commuting.specs.OneMore.{fact_behind}
use Rattle.mv_commuting.proofs.Closures.{find_all}
use Rattle.mv_walk_laws.specs.Sizes.{AreShort, IsShort}
use Rattle.mv_walk_laws.specs.Streams.{placed_behind}

pub reads-short : {A : Type 0} (p : Payload A) (bytes : List ℕ) (v : A × Option (List Bool)) → ReadsPayload p (byte_bits bytes) v → length bytes ≤ 65536
reads-short p bytes v h =
    let fits : length (byte_bits bytes) ≤ size_limit = subst (λ b. length b ≤ size_limit) (sym h.bits) h.valid.size in
    let bits : length (byte_bits bytes) ≡ 8 * length bytes = length-byte_bits bytes in
    omega (arith, bits, fits)

pub vps-size : (bytes : List ℕ) (v : VpsValue × Option (List Bool)) → ReadsPayload vps (byte_bits bytes) v → length bytes ≤ 65536
vps-size bytes v h = reads-short vps bytes v h

pub sps-size : (layer vps_sub_layers : ℕ) (bytes : List ℕ) (v : SpsValue × Option (List Bool)) → ReadsPayload (sps_payload layer vps_sub_layers) (byte_bits bytes) v → length bytes ≤ 65536
sps-size layer vps_sub_layers bytes v h = reads-short (sps_payload layer vps_sub_layers) bytes v h

pub pps-size : (bytes : List ℕ) (v : PpsValue × Option (List Bool)) → ReadsPayload pps (byte_bits bytes) v → length bytes ≤ 65536
pps-size bytes v h = reads-short pps bytes v h

carried-short : {A B : Type 0} (table : Payload A) (as_value : A × Option (List Bool) → B) (h : UnitHead) (bytes : List ℕ) → IsShort (carried table as_value h bytes)
carried-short {A} {B} table as_value h bytes v e = go (read_payload table (byte_bits (payload bytes))) refl e
  where
    go : (r : Result (A × Option (List Bool)) Fault) → read_payload table (byte_bits (payload bytes)) ≡ r →
        Path (Result B Fault) (elim r [ Ok x ↦ Ok (as_value x) | Err fault ↦ Err fault ]) (Ok v) → length (payload bytes) ≤ 65536
    go (Ok x) is e = reads-short table (payload bytes) x (reads-read_payload table (byte_bits (payload bytes)) x is)
    go (Err fault) is e = absurd (cc)

pub vps-short : (h : UnitHead) (bytes : List ℕ) → IsShort (carried_vps h bytes)
unfolding carried_vps
vps-short h bytes = carried-short vps whole_vps h bytes

sps_unit-short : (i : Item) → IfSome (sps_of_unit i) IsShort
unfolding sps_of_unit carried_sps
sps_unit-short i = go (is_known i && is_sps_kind i.head.kind)
  where
    go : (b : Bool) → IfSome (cond b (Some (carried (sps_payload i.head.layer (max_sub_layers i.at)) (λ (coded : SpsValue × Option (List Bool)). coded.0) i.head i.bytes)) None) IsShort
    go true = carried-short (sps_payload i.head.layer (max_sub_layers i.at)) (λ (coded : SpsValue × Option (List Bool)). coded.0) i.head i.bytes
    go false = tt

pps_unit-short : (i : Item) → IfSome (pps_of_unit i) IsShort
unfolding pps_of_unit carried_pps
pps_unit-short i = go (is_known i && is_pps_kind i.head.kind)
  where
    go : (b : Bool) → IfSome (cond b (Some (carried pps (λ (coded : PpsValue × Option (List Bool)). coded.0) i.head i.bytes)) None) IsShort
    go true = carried-short pps (λ (coded : PpsValue × Option (List Bool)). coded.0) i.head i.bytes
    go false = tt

-- ---- Sets in reach

seen_pps-short : (past : List Fact) (at : InForce) (layer id : ℕ) → All AreShort past → IfSome (seen_pps past at layer id) IsShort
unfolding seen_pps
seen_pps-short past at layer id h = go (find (λ (f : Fact). is_seen at layer (has_pps_id id) f.pps_unit) (since turned past)) refl
  where
    go : (o : Option Fact) → find (λ (f : Fact). is_seen at layer (has_pps_id id) f.pps_unit) (since turned past) ≡ o → IfSome (option_and_then (λ (f : Fact). f.pps_unit) o) IsShort
    go None is = tt
    go (Some f) is = (find_all AreShort (λ (f : Fact). is_seen at layer (has_pps_id id) f.pps_unit) (since turned past) f (All-since AreShort turned past h) is).0.pps_unit

seen_sps-short : (past : List Fact) (at : InForce) (layer id : ℕ) → All AreShort past → IfSome (seen_sps past at layer id) IsShort
unfolding seen_sps
seen_sps-short past at layer id h = go (find (λ (f : Fact). is_seen at layer (has_sps_id id) f.sps_unit) (since turned past)) refl
  where
    go : (o : Option Fact) → find (λ (f : Fact). is_seen at layer (has_sps_id id) f.sps_unit) (since turned past) ≡ o → IfSome (option_and_then (λ (f : Fact). f.sps_unit) o) IsShort
    go None is = tt
    go (Some f) is = (find_all AreShort (λ (f : Fact). is_seen at layer (has_sps_id id) f.sps_unit) (since turned past) f (All-since AreShort turned past h) is).0.sps_unit

named_pps-short : (past : List Fact) (p : Placed) → All AreShort past → IfSome (named_pps past p) IsShort
named_pps-short past p h = go (pps_id p)
  where
    go : (o : Option ℕ) → IfSome (option_and_then (seen_pps past p.item.at p.item.head.layer) o) IsShort
    go None = tt
    go (Some id) = seen_pps-short past p.item.at p.item.head.layer id h

named_sps-short : (past : List Fact) (p : Placed) (set : Option (Carried PpsValue)) → All AreShort past → IfSome (named_sps past p set) IsShort
named_sps-short past p set h = go (option_and_then value_of set)
  where
    go : (o : Option PpsValue) → IfSome (option_and_then (λ (v : PpsValue). seen_sps past p.item.at p.item.head.layer v.opening.pps_seq_parameter_set_id) o) IsShort
    go None = tt
    go (Some v) = seen_sps-short past p.item.at p.item.head.layer v.opening.pps_seq_parameter_set_id h

-- ---- The sets that serve a segment

picks : (test : Fact → Bool) (o : Option Fact) (f : Fact) → option_and_then (λ (f : Fact). if test f then Some f else None) o ≡ Some f → o ≡ Some f
picks test None f h = absurd (cc)
picks test (Some g) f h = go (test g) h
  where
    go : (b : Bool) → cond b (Some g) None ≡ Some f → Some g ≡ Some f
    go true h = h
    go false h = absurd (let wrong : Path (Option Fact) None (Some f) = h in cc)

served-short : (past : List Fact) (p : Placed) (f : Fact) → All AreShort past → served_by past p ≡ Some f → AreShort f
unfolding served_by own_picture
served-short past p f h is =
    let own = picks (λ (f : Fact). same_pps_id p f.placed) (own_picture past p) f is in
    let latest = picks (λ (f : Fact). not (is_picture p.item) && is_own_picture p f.placed) (find (λ (f : Fact). is_picture f.placed.item) past) f own in
    (find_all AreShort (λ (f : Fact). is_picture f.placed.item) past f h latest).0

sets-short : (past : List Fact) (p : Placed) → All AreShort past → IfSome (sets_of past p).sps IsShort × IfSome (sets_of past p).pps IsShort
unfolding sets_of named_sets
sets-short past p h = go (is_slice p.item) (served_by past p) refl
  where
    go : (b : Bool) (o : Option Fact) → served_by past p ≡ o →
        IfSome (cond (not b) no_sets (option_map (λ (f : Fact). f.sets) o otherwise named_sets past p)).sps IsShort
        × IfSome (cond (not b) no_sets (option_map (λ (f : Fact). f.sets) o otherwise named_sets past p)).pps IsShort
    go false o is = (tt, tt)
    go true None is = unfold named_sets in (named_sps-short past p (named_pps past p) h, named_pps-short past p h)
    go true (Some f) is = let short : AreShort f = served-short past p f h is in (short.sps, short.pps)

pub fact-short : (past : List Fact) (p : Placed) → All AreShort past → AreShort (fact past p)
unfolding fact
fact-short past p h = record { sps_unit = sps_unit-short p.item; pps_unit = pps_unit-short p.item; sps = (sets-short past p h).0; pps = (sets-short past p h).1 }

pub facts-short : (ps : List Placed) → All AreShort (facts ps)
unfolding facts run
facts-short [] = All-nil AreShort
facts-short (p ∷ ps) = All-cons AreShort (fact (facts ps) p) (facts ps) (fact-short (facts ps) p (facts-short ps)) (facts-short ps)

-- of the next unit of a stream
pub next-short : (us : List (List ℕ)) (u : List ℕ) → AreShort (fact_behind us u)
unfolding facts_of
next-short us u = fact-short (facts_of us) (placed_behind us u) (facts-short (all_placed (items (reverse us))))

pub served-sps : (f : Fact) (s : Carried SpsValue) (v : SpsValue) → AreShort f → f.sets.sps ≡ Some s → s.reading ≡ Ok v → length s.payload ≤ 65536
served-sps f s v short is reads = (subst (λ o. IfSome o IsShort) is short.sps) v reads

pub served-pps : (f : Fact) (s : Carried PpsValue) (v : PpsValue) → AreShort f → f.sets.pps ≡ Some s → s.reading ≡ Ok v → length s.payload ≤ 65536
served-pps f s v short is reads = (subst (λ o. IfSome o IsShort) is short.pps) v reads
