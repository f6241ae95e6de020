-- What units carry is what their bytes say; a set that reads is valid.
use Rattle.std.proofs.Common.{◌≡◌, ℕ, Bool, true, false, cond, ◌&&◌, List, [], ◌∷◌, reverse, Option, None, Some, Result, Ok, Err, refl, ap, sym, subst, ◌∙◌}
use Rattle.std.specs.Prelude.{All}
use Rattle.std.proofs.lemmas.List.Elements.{All-cons, All-nil}
use Rattle.mv_history.specs.History.{run}
use Rattle.mv_syntax.specs.Bits.{Fault, byte_bits}
use Rattle.mv_syntax.specs.Payload.{Payload, ValidPayload}
use Rattle.mv_syntax.specs.inner.PayloadReader.{read_payload}
use Rattle.mv_syntax.proofs.PayloadLaws.{reads-read_payload}
use Rattle.mv_units.specs.declared.head.UnitHead.{UnitHead}
use Rattle.mv_units.specs.Escapes.{payload}
use Rattle.mv_sps.specs.Sps.{SpsValue, sps_payload}
use Rattle.mv_pps.specs.Pps.{PpsValue, pps}
use Rattle.mv_pictures.specs.AccessUnits.{Placed, all_placed}
use Rattle.mv_pictures.specs.Carried.{Carried, carried, carried_pps, carried_sps}
use Rattle.mv_pictures.specs.Facts.{Fact, fact, facts, max_sub_layers, pps_of_unit, sps_of_unit}
use Rattle.mv_pictures.specs.History.{facts_of}
use Rattle.mv_pictures.specs.Items.{Item, is_known, items}
use Rattle.mv_pictures.specs.Kinds.{is_pps_kind, is_sps_kind}
use Rattle.mv_commuting.specs.OneMore.{fact_behind}
use Rattle.mv_walk_laws.specs.Streams.{item_behind}
use Rattle.mv_walk_laws.proofs.Carrying.{pps-is, sps-is}

pub facts-carry : (ps : List Placed) → All (λ (f : Fact). (f.sps_unit ≡ sps_of_unit f.placed.item) × (f.pps_unit ≡ pps_of_unit f.placed.item)) (facts ps)
unfolding facts run fact
facts-carry [] = All-nil (λ (f : Fact). (f.sps_unit ≡ sps_of_unit f.placed.item) × (f.pps_unit ≡ pps_of_unit f.placed.item))
facts-carry (p ∷ ps) =
    All-cons (λ (f : Fact). (f.sps_unit ≡ sps_of_unit f.placed.item) × (f.pps_unit ≡ pps_of_unit f.placed.item)) (fact (facts ps) p) (facts ps) (refl, refl) (facts-carry ps)

pub all-carry : (us : List (List ℕ)) → All (λ (f : Fact). (f.sps_unit ≡ sps_of_unit f.placed.item) × (f.pps_unit ≡ pps_of_unit f.placed.item)) (facts_of us)
unfolding facts_of
all-carry us = facts-carry (all_placed (items (reverse us)))

-- a set that reads is valid, whatever stands behind its fields
carried-valid : {A : Type 0} (table : Payload A) (h : UnitHead) (bytes : List ℕ) (v : A) → (carried table (λ (coded : A × Option (List Bool)). coded.0) h bytes).reading ≡ Ok v →
    (tail : Option (List Bool)) × ValidPayload table (v, tail)
carried-valid {A} table h bytes v e = go (read_payload table (byte_bits (payload bytes))) refl e
  where
    go : (r : Result (A × Option (List Bool)) Fault) → read_payload table (byte_bits (payload bytes)) ≡ r →
        Path (Result A Fault) (elim r [ Ok x ↦ Ok x.0 | Err fault ↦ Err fault ]) (Ok v) → (tail : Option (List Bool)) × ValidPayload table (v, tail)
    go (Ok x) is e =
        let same : x.0 ≡ v = cc in
        (x.1, subst (λ (a : A). ValidPayload table (a, x.1)) same (reads-read_payload table (byte_bits (payload bytes)) x is).valid)
    go (Err fault) is e = absurd (cc)

pub sps-valid : (us : List (List ℕ)) (u : List ℕ) (c : Carried SpsValue) (v : SpsValue) → (fact_behind us u).sps_unit ≡ Some c → c.reading ≡ Ok v →
    (vps_sub_layers : ℕ) × (tail : Option (List Bool)) × ValidPayload (sps_payload (item_behind us u).head.layer vps_sub_layers) (v, tail)
sps-valid us u c v carries reads = go (is_known i && is_sps_kind i.head.kind) (unfold sps_of_unit carried_sps in sym (sps-is us u) ∙ carries)
  where
    i : Item
    i = item_behind us u

    table : Payload SpsValue
    table = sps_payload i.head.layer (max_sub_layers i.at)

    go : (b : Bool) → cond b (Some (carried table (λ (coded : SpsValue × Option (List Bool)). coded.0) i.head i.bytes)) None ≡ Some c →
        (vps_sub_layers : ℕ) × (tail : Option (List Bool)) × ValidPayload (sps_payload i.head.layer vps_sub_layers) (v, tail)
    go true e =
        let same : carried table (λ (coded : SpsValue × Option (List Bool)). coded.0) i.head i.bytes ≡ c = cc in
        let found : (tail : Option (List Bool)) × ValidPayload table (v, tail) = carried-valid table i.head i.bytes v (ap (λ (c : Carried SpsValue). c.reading) same ∙ reads) in
        (max_sub_layers i.at, found.0, found.1)
    go false e = absurd (let wrong : Path (Option (Carried SpsValue)) None (Some c) = e in cc)

pub pps-valid : (us : List (List ℕ)) (u : List ℕ) (c : Carried PpsValue) (v : PpsValue) → (fact_behind us u).pps_unit ≡ Some c → c.reading ≡ Ok v →
    (tail : Option (List Bool)) × ValidPayload pps (v, tail)
pps-valid us u c v carries reads = go (is_known i && is_pps_kind i.head.kind) (unfold pps_of_unit carried_pps in sym (pps-is us u) ∙ carries)
  where
    i : Item
    i = item_behind us u

    go : (b : Bool) → cond b (Some (carried pps (λ (coded : PpsValue × Option (List Bool)). coded.0) i.head i.bytes)) None ≡ Some c → (tail : Option (List Bool)) × ValidPayload pps (v, tail)
    go true e =
        let same : carried pps (λ (coded : PpsValue × Option (List Bool)). coded.0) i.head i.bytes ≡ c = cc in
        carried-valid pps i.head i.bytes v (ap (λ (c : Carried PpsValue). c.reading) same ∙ reads)
    go false e = absurd (let wrong : Path (Option (Carried PpsValue)) None (Some c) = e in cc)
