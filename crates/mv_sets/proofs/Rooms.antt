-- What a store is made of, at its start and behind a changed video parameter set.
use Rattle.std.proofs.Common.{◌≡◌, ℕ, ◌+◌, ◌*◌, ◌<◌, true, List, [], ◌∷◌, length, map, Option, None, Some, refl, ap, sym, ◌∙◌, subst}
use Rattle.std.specs.Prelude.{All, IfSome}
use Rattle.std.proofs.lemmas.List.{length-map, length-replicate, length-set}
use Rattle.std.proofs.lemmas.List.Elements.{All-cons, All-nil, All-replicate, All-set}
use Rattle.mv_pictures.specs.Facts.{Fact, turned}
use Rattle.mv_sets.specs.Sets.{PpsSetValue, SpsSetValue}
use Rattle.mv_sets.specs.Formats.{SpsFormatFits}
use Rattle.mv_sets.specs.Numbered.{Numbered, TableValue}
use Rattle.mv_sets.specs.Resolved.{with_pps, with_sps}
use Rattle.mv_sets.specs.Store.{CarriesPps, CarriesSps, Stands}
use Rattle.mv_sets.specs.StoreValue.{HasRoom, IsStore, StoreValue}
use Rattle.mv_sets.specs.Tables.{emptied, latest, no_sets, with_set}
use Rattle.mv_sets.proofs.TableLaws.{latest-holds}
use Rattle.mv_sets.proofs.StoreLaws.{stands-emptied, stands-new, stands-pps, stands-sps}

abbrev Fits : Option (Numbered SpsSetValue) → Type 0
Fits entry = IfSome entry (λ n. SpsFormatFits n.set.value.0)

new-room : {A : Type 0} (ids : ℕ) → HasRoom {A = A} ids (no_sets ids)
new-room {A = A} ids = record { ids_are = refl; entries_are = length-replicate {A = Option (Numbered A)} (64 * ids) None }

emptied-room : {A : Type 0} (ids : ℕ) (t : TableValue A) → HasRoom ids t → HasRoom ids (emptied t)
emptied-room ids t h = record { ids_are = h.ids_are; entries_are = length-map t.entries (λ entry. None) ∙ h.entries_are }

none-fits : (entries : List (Option (Numbered SpsSetValue))) → All Fits (map (λ entry. None) entries)
none-fits [] = All-nil Fits
none-fits (entry ∷ entries) = All-cons Fits None (map (λ entry. None) entries) tt (none-fits entries)

is_new : IsStore (record { sps = no_sets 16; pps = no_sets 64 })
is_new = record { sps_room = new-room 16; pps_room = new-room 64; formats = All-replicate Fits (64 * 16) None tt }

is_emptied : (s : StoreValue) → IsStore s → IsStore (record { sps = emptied s.sps; pps = emptied s.pps })
is_emptied s h = record { sps_room = emptied-room 16 s.sps h.sps_room; pps_room = emptied-room 64 s.pps h.pps_room; formats = none-fits s.sps.entries }

pub by_tables : (P : StoreValue → Type 0) (s : StoreValue) (sps : TableValue SpsSetValue) (pps : TableValue PpsSetValue) → sps ≡ s.sps → pps ≡ s.pps → P s → P (record { sps = sps; pps = pps })
by_tables P s sps pps e f h = subst (λ t. P (record { sps = t; pps = pps })) (sym e) (subst (λ t. P (record { sps = s.sps; pps = t })) (sym f) h)

pub new-is : (sps : TableValue SpsSetValue) (pps : TableValue PpsSetValue) → sps ≡ no_sets 16 → pps ≡ no_sets 64 → IsStore (record { sps = sps; pps = pps })
new-is sps pps e f = by_tables IsStore (record { sps = no_sets 16; pps = no_sets 64 }) sps pps e f is_new

pub new-stands : (sps : TableValue SpsSetValue) (pps : TableValue PpsSetValue) → sps ≡ no_sets 16 → pps ≡ no_sets 64 → Stands (record { sps = sps; pps = pps }) []
new-stands sps pps e f = by_tables (λ s. Stands s []) (record { sps = no_sets 16; pps = no_sets 64 }) sps pps e f stands-new

pub emptied-is : (s : StoreValue) → IsStore s → (sps : TableValue SpsSetValue) (pps : TableValue PpsSetValue) → sps ≡ emptied s.sps → pps ≡ emptied s.pps → IsStore (record { sps = sps; pps = pps })
emptied-is s h sps pps e f = by_tables IsStore (record { sps = emptied s.sps; pps = emptied s.pps }) sps pps e f (is_emptied s h)

pub emptied-stands : (s : StoreValue) (sps : TableValue SpsSetValue) (pps : TableValue PpsSetValue) → sps ≡ emptied s.sps → pps ≡ emptied s.pps →
    (past : List Fact) (f : Fact) → turned f ≡ true → Stands (record { sps = sps; pps = pps }) (f ∷ past)
emptied-stands s sps pps e f past u h = by_tables (λ t. Stands t (u ∷ past)) (record { sps = emptied s.sps; pps = emptied s.pps }) sps pps e f (stands-emptied s past u h)

-- ---- A set more

room-of : {A : Type 0} (ids : ℕ) (t : TableValue A) → HasRoom ids t → length t.entries ≡ 64 * t.ids
room-of ids t h = h.entries_are ∙ ap (λ n. 64 * n) (sym h.ids_are)

within-of : {A : Type 0} (ids : ℕ) (t : TableValue A) → HasRoom ids t → (id : ℕ) → id < ids → id < t.ids
within-of ids t h id few = subst (λ n. id < n) (sym h.ids_are) few

pub put-is : (s : StoreValue) → IsStore s → (layer id : ℕ) (kept set : SpsSetValue) → kept ≡ set → SpsFormatFits set.value.0 → (t : TableValue SpsSetValue)
    → t ≡ with_set s.sps layer id kept → IsStore (record { sps = t; pps = s.pps })
put-is s h layer id kept set e fits t put =
    let entry : Option (Numbered SpsSetValue) = Some (record { number = s.sps.count + 1; set = kept }) in
    by_tables IsStore (record { sps = with_set s.sps layer id kept; pps = s.pps }) t s.pps put refl
    (record {
      sps_room = record { ids_are = h.sps_room.ids_are; entries_are = length-set s.sps.entries (layer * s.sps.ids + id) entry ∙ h.sps_room.entries_are };
      pps_room = h.pps_room;
      formats = All-set Fits s.sps.entries (layer * s.sps.ids + id) entry (subst (λ k. SpsFormatFits k.value.0) (sym e) fits) h.formats;
    })

module _ (s : StoreValue) (is : IsStore s) (past : List Fact) (f : Fact) (stands : Stands s past) where
  pub sps-put : (set : SpsSetValue) → set.layer < 64 → set.value.0.opening.sps_seq_parameter_set_id < 16 → CarriesSps f set.layer set.payload set.value.0 →
      (id : ℕ) → id ≡ set.value.0.opening.sps_seq_parameter_set_id → (kept : SpsSetValue) → kept ≡ set → (t : TableValue SpsSetValue) → t ≡ with_set s.sps set.layer id kept → Stands (record { sps = t; pps = s.pps }) (f ∷ past)
  sps-put set few within carries id same kept e t put =
      by_tables (λ s. Stands s (f ∷ past)) (with_sps s set) t s.pps (put ∙ ap (λ i. with_set s.sps set.layer i kept) same ∙ ap (with_set s.sps set.layer set.value.0.opening.sps_seq_parameter_set_id) e) refl
      (stands-sps s past f stands set few (within-of 16 s.sps is.sps_room set.value.0.opening.sps_seq_parameter_set_id within) (room-of 16 s.sps is.sps_room) carries)

  pub pps-put : (set : PpsSetValue) → set.layer < 64 → set.value.0.opening.pps_pic_parameter_set_id < 64 → CarriesPps f set.layer set.payload set.value.0 →
      (id : ℕ) → id ≡ set.value.0.opening.pps_pic_parameter_set_id → (kept : PpsSetValue) → kept ≡ set → (t : TableValue PpsSetValue) → t ≡ with_set s.pps set.layer id kept → Stands (record { sps = s.sps; pps = t }) (f ∷ past)
  pps-put set few within carries id same kept e t put =
      by_tables (λ s. Stands s (f ∷ past)) (with_pps s set) s.sps t refl (put ∙ ap (λ i. with_set s.pps set.layer i kept) same ∙ ap (with_set s.pps set.layer set.value.0.opening.pps_pic_parameter_set_id) e)
      (stands-pps s past f stands set few (within-of 64 s.pps is.pps_room set.value.0.opening.pps_pic_parameter_set_id within) (room-of 64 s.pps is.pps_room) carries)

-- ---- The latest set

pub found-fits : (t : TableValue SpsSetValue) → All Fits t.entries → (id : ℕ) (layers : List ℕ) (n : Numbered SpsSetValue) → Some n ≡ latest t id layers → SpsFormatFits n.set.value.0
found-fits t h id layers n e = subst (λ o. Fits o) (sym e) (latest-holds (λ (n : Numbered SpsSetValue). SpsFormatFits n.set.value.0) t h id layers)
