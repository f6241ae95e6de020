-- A store stands for one unit more, and the sets that it answers are those that a slice segment names.
use Rattle.std.proofs.Common.{◌≡◌, ℕ, ◌+◌, ◌*◌, ◌<◌, Bool, true, false, cond, ◌&&◌, List, [], ◌∷◌, length, Option, Some, None, refl, ap, sym, ◌∙◌, subst, arith}
use Rattle.std.specs.Prelude.{filter_map, nat_eq, option_and_then, option_map, Result, Ok, Err}
use Rattle.std.specs.List.{cons_option, find, list_any}
use Rattle.std.proofs.lemmas.Bool.{cond-false, cond-true}
use Rattle.mv_syntax.specs.Words.{◌otherwise◌}
use Rattle.mv_rules.specs.declared.rule.Rule.{Rule}
use Rattle.mv_rules.specs.declared.refusal.ReadFault.{ReadFault}
use Rattle.mv_common.specs.declared.format.Format.{Format}
use Rattle.mv_layers.specs.LayerInfos.{closure_of}
use Rattle.mv_layers.specs.OutputLayers.{is_among}
use Rattle.mv_vps.specs.Vps.{WholeVps}
use Rattle.mv_pps.specs.Pps.{PpsValue}
use Rattle.mv_sps.specs.Sps.{SpsValue}
use Rattle.mv_history.specs.History.{since}
use Rattle.mv_pictures.specs.Carried.{Carried, value_of}
use Rattle.mv_pictures.specs.Contexts.{format_of}
use Rattle.mv_pictures.specs.Layers.{InForce, closure, layers_at}
use Rattle.mv_pictures.specs.AccessUnits.{Placed}
use Rattle.mv_pictures.specs.Facts.{Fact, Sets, has_pps_id, has_sps_id, is_seen, named_format, named_pps, named_sets, named_sps, seen_pps, seen_sps, turned}
use Rattle.mv_sets.specs.Sets.{ActiveValue, PpsSetValue, SpsSetValue, carried_pps, carried_sps}
use Rattle.mv_sets.specs.Numbered.{Numbered, TableValue}
use Rattle.mv_sets.specs.Resolved.{Answers, latest_pps, latest_sps, of_pps, of_sps, resolved, with_format, with_pps, with_sps}
use Rattle.mv_sets.specs.Store.{CarriesPps, CarriesSps, Gives, IsAsked, KeepsLatest, Stands, carried_sets, is_of, numbered, received, serving, with_number}
use Rattle.mv_sets.specs.StoreValue.{StoreValue}
use Rattle.mv_sets.specs.Tables.{emptied, found, latest, no_sets, with_set}
use Rattle.mv_sets.proofs.Numbers.{any-and, find-filter_map, find-numbered, find-same, latest-first, latest_from-map, latest_from-same}
use Rattle.mv_sets.proofs.TableLaws.{found-emptied, found-none, found-with}

-- ---- Sets of one kind

module _ {S A : Type 0} (as_carried : S → Carried A) (has_id : ℕ → A → Bool) where
  none-kept : (t : TableValue S) → t.count ≡ 0 → ((id layer : ℕ) → found t id layer ≡ None) → KeepsLatest as_carried has_id t []
  unfolding numbered
  none-kept t count none = record { count_is = count; entries_are = λ id layer. ap (option_map (with_number as_carried)) (none id layer) }

  module _ (t : TableValue S) (sets : List (Carried A)) (keeps : KeepsLatest as_carried has_id t sets) where
    -- a set more, which is of its layer and id alone
    one-kept : (l i : ℕ) (set : S) → l < 64 → i < t.ids → length t.entries ≡ 64 * t.ids →
        ((id layer : ℕ) → is_of has_id id layer (record { number = length sets + 1; set = as_carried set }) ≡ (nat_eq layer l && nat_eq i id)) →
        KeepsLatest as_carried has_id (with_set t l i set) (as_carried set ∷ sets)
    unfolding numbered
    one-kept l i set few within room alone = record {
      count_is = omega (arith, keeps.count_is);
      entries_are = λ id layer.
          ap (option_map (with_number as_carried)) (found-with t l i set few within room id layer)
          ∙ go (nat_eq layer l && nat_eq i id) (found t id layer) (find (is_of has_id id layer) (numbered sets)) (keeps.entries_are id layer)
          ∙ ap (λ b. cond b (Some (record { number = length sets + 1; set = as_carried set })) (find (is_of has_id id layer) (numbered sets))) (sym (alone id layer));
    }
      where
        n : Numbered (Carried A)
        n = record { number = length sets + 1; set = as_carried set }

        go : (b : Bool) (o : Option (Numbered S)) (w : Option (Numbered (Carried A))) → option_map (with_number as_carried) o ≡ w →
            option_map (with_number as_carried) (cond b (Some (record { number = t.count + 1; set = set })) o) ≡ cond b (Some n) w
        go true o w e = ap (λ m. Some (record { number = m + 1; set = as_carried set })) keeps.count_is
        go false o w e = e

    -- the latest in a list of layers is the first of the sets that is of one of them
    latest-kept : (id : ℕ) (layers : List ℕ) →
        option_map (λ (n : Numbered (Carried A)). n.set) (option_map (with_number as_carried) (latest t id layers)) ≡ find (λ (c : Carried A). is_among layers c.layer && (option_map (has_id id) (value_of c) otherwise false)) sets
    latest-kept id layers =
        ap (option_map (λ (n : Numbered (Carried A)). n.set)) (
        latest_from-map as_carried (found t id) None layers
        ∙ latest_from-same (λ layer. option_map (with_number as_carried) (found t id layer)) (λ layer. find (is_of has_id id layer) (numbered sets)) (λ layer. keeps.entries_are id layer) None layers
        ∙ latest-first (is_of has_id id) sets layers
        ∙ find-same (λ m. list_any (λ layer. is_of has_id id layer m) layers) (λ m. test m.set) (λ m. any-and (λ layer. nat_eq layer m.set.layer) (option_map (has_id id) (value_of m.set) otherwise false) layers) (numbered sets)
        )
        ∙ find-numbered test sets
      where
        test : Carried A → Bool
        test c = is_among layers c.layer && (option_map (has_id id) (value_of c) otherwise false)

-- what is received of one unit more
more-received : {A : Type 0} (unit : Fact → Option A) (f : Fact) (past : List Fact) → turned f ≡ false → received unit (f ∷ past) ≡ cons_option (unit f) (received unit past)
unfolding since
more-received unit f past h = ap (filter_map unit) (cond-false (turned f) [] (f ∷ since turned past) h)

none-received : {A : Type 0} (unit : Fact → Option A) (f : Fact) (past : List Fact) → turned f ≡ true → received unit (f ∷ past) ≡ []
unfolding since
none-received unit f past h = ap (filter_map unit) (cond-true (turned f) [] (f ∷ since turned past) h)

kept-same : {S A : Type 0} (as_carried : S → Carried A) (has_id : ℕ → A → Bool) (t : TableValue S) (xs ys : List (Carried A)) → xs ≡ ys → KeepsLatest as_carried has_id t ys → KeepsLatest as_carried has_id t xs
kept-same as_carried has_id t xs ys e h = subst (λ zs. KeepsLatest as_carried has_id t zs) (sym e) h

-- ---- One unit more

pub stands-new : Stands (record { sps = no_sets 16; pps = no_sets 64 }) []
unfolding since
stands-new = record {
  sps = none-kept carried_sps has_sps_id (no_sets 16) refl (found-none 16);
  pps = none-kept carried_pps has_pps_id (no_sets 64) refl (found-none 64);
}

abbrev all_sps : List Fact → List (Carried SpsValue)
all_sps past = received (λ (f : Fact). f.sps_unit) past

abbrev all_pps : List Fact → List (Carried PpsValue)
all_pps past = received (λ (f : Fact). f.pps_unit) past

sps-same : (t : TableValue SpsSetValue) (xs ys : List (Carried SpsValue)) → xs ≡ ys → KeepsLatest carried_sps has_sps_id t ys → KeepsLatest carried_sps has_sps_id t xs
sps-same t xs ys e h = kept-same carried_sps has_sps_id t xs ys e h

pps-same : (t : TableValue PpsSetValue) (xs ys : List (Carried PpsValue)) → xs ≡ ys → KeepsLatest carried_pps has_pps_id t ys → KeepsLatest carried_pps has_pps_id t xs
pps-same t xs ys e h = kept-same carried_pps has_pps_id t xs ys e h

pub stands-emptied : (s : StoreValue) (past : List Fact) (f : Fact) → turned f ≡ true → Stands (record { sps = emptied s.sps; pps = emptied s.pps }) (f ∷ past)
stands-emptied s past f h = record {
  sps = sps-same (emptied s.sps) (all_sps (f ∷ past)) [] (none-received (λ (f : Fact). f.sps_unit) f past h) (none-kept carried_sps has_sps_id (emptied s.sps) refl (found-emptied s.sps));
  pps = pps-same (emptied s.pps) (all_pps (f ∷ past)) [] (none-received (λ (f : Fact). f.pps_unit) f past h) (none-kept carried_pps has_pps_id (emptied s.pps) refl (found-emptied s.pps));
}

module _ (s : StoreValue) (past : List Fact) (f : Fact) (stands : Stands s past) where
  received-sps : turned f ≡ false → (o : Option (Carried SpsValue)) → f.sps_unit ≡ o → all_sps (f ∷ past) ≡ cons_option o (all_sps past)
  received-sps h o e = more-received (λ (f : Fact). f.sps_unit) f past h ∙ ap (λ o. cons_option o (all_sps past)) e

  received-pps : turned f ≡ false → (o : Option (Carried PpsValue)) → f.pps_unit ≡ o → all_pps (f ∷ past) ≡ cons_option o (all_pps past)
  received-pps h o e = more-received (λ (f : Fact). f.pps_unit) f past h ∙ ap (λ o. cons_option o (all_pps past)) e

  same-sps : turned f ≡ false → f.sps_unit ≡ None → KeepsLatest carried_sps has_sps_id s.sps (all_sps (f ∷ past))
  same-sps h e = sps-same s.sps (all_sps (f ∷ past)) (all_sps past) (received-sps h None e) stands.sps

  same-pps : turned f ≡ false → f.pps_unit ≡ None → KeepsLatest carried_pps has_pps_id s.pps (all_pps (f ∷ past))
  same-pps h e = pps-same s.pps (all_pps (f ∷ past)) (all_pps past) (received-pps h None e) stands.pps

  pub stands-other : turned f ≡ false → f.sps_unit ≡ None → f.pps_unit ≡ None → Stands s (f ∷ past)
  stands-other h no_sps no_pps = record { sps = same-sps h no_sps; pps = same-pps h no_pps }

  pub stands-sps : (set : SpsSetValue) → set.layer < 64 → set.value.0.opening.sps_seq_parameter_set_id < s.sps.ids → length s.sps.entries ≡ 64 * s.sps.ids →
      CarriesSps f set.layer set.payload set.value.0 → Stands (with_sps s set) (f ∷ past)
  stands-sps set few within room carries =
      let id : ℕ = set.value.0.opening.sps_seq_parameter_set_id in
      record {
        sps = sps-same (with_set s.sps set.layer id set) (all_sps (f ∷ past)) (carried_sps set ∷ all_sps past) (received-sps carries.stays (Some (carried_sps set)) carries.sps_is)
            (one-kept carried_sps has_sps_id s.sps (all_sps past) stands.sps set.layer id set few within room (λ i layer. refl));
        pps = same-pps carries.stays carries.no_pps;
      }

  pub stands-pps : (set : PpsSetValue) → set.layer < 64 → set.value.0.opening.pps_pic_parameter_set_id < s.pps.ids → length s.pps.entries ≡ 64 * s.pps.ids →
      CarriesPps f set.layer set.payload set.value.0 → Stands (with_pps s set) (f ∷ past)
  stands-pps set few within room carries =
      let id : ℕ = set.value.0.opening.pps_pic_parameter_set_id in
      record {
        sps = same-sps carries.stays carries.no_sps;
        pps = pps-same (with_set s.pps set.layer id set) (all_pps (f ∷ past)) (carried_pps set ∷ all_pps past) (received-pps carries.stays (Some (carried_pps set)) carries.pps_is)
            (one-kept carried_pps has_pps_id s.pps (all_pps past) stands.pps set.layer id set few within room (λ i layer. refl));
      }

-- ---- The sets that a segment names

carried-set : {S A : Type 0} (as_carried : S → A) (o : Option (Numbered S)) → option_map as_carried (option_map (λ (n : Numbered S). n.set) o) ≡ option_map (λ (n : Numbered A). n.set) (option_map (with_number as_carried) o)
carried-set as_carried None = refl
carried-set as_carried (Some n) = refl

module _ (s : StoreValue) (past : List Fact) (stands : Stands s past) (vps : WholeVps) (layer id : ℕ) (p : Placed) (asked : IsAsked vps layer id p) where
  abbrev at : InForce
  at = p.item.at

  reach : closure at layer ≡ closure_of vps.derived.layers layer
  unfolding closure layers_at
  reach = ap (λ (w : Option WholeVps). closure_of (option_map (λ (v : WholeVps). v.derived.layers) w otherwise []) layer) asked.vps_is

  seen-pps : option_map carried_pps (latest_pps s vps layer id) ≡ seen_pps past p.item.at p.item.head.layer id
  unfolding seen_pps is_seen
  seen-pps =
      carried-set carried_pps (latest s.pps id (closure_of vps.derived.layers layer))
      ∙ latest-kept carried_pps has_pps_id s.pps (received (λ (f : Fact). f.pps_unit) past) stands.pps id (closure_of vps.derived.layers layer)
      ∙ ap (λ layers. find (λ (c : Carried PpsValue). is_among layers c.layer && (option_map (has_pps_id id) (value_of c) otherwise false)) (received (λ (f : Fact). f.pps_unit) past)) (sym (ap (closure at) asked.layer_is ∙ reach))
      ∙ find-filter_map (λ (f : Fact). f.pps_unit) (λ (c : Carried PpsValue). is_among (closure at p.item.head.layer) c.layer && (option_map (has_pps_id id) (value_of c) otherwise false)) (since turned past)

  seen-sps : (id : ℕ) → option_map carried_sps (latest_sps s vps layer id) ≡ seen_sps past p.item.at p.item.head.layer id
  unfolding seen_sps is_seen
  seen-sps id =
      carried-set carried_sps (latest s.sps id (closure_of vps.derived.layers layer))
      ∙ latest-kept carried_sps has_sps_id s.sps (received (λ (f : Fact). f.sps_unit) past) stands.sps id (closure_of vps.derived.layers layer)
      ∙ ap (λ layers. find (λ (c : Carried SpsValue). is_among layers c.layer && (option_map (has_sps_id id) (value_of c) otherwise false)) (received (λ (f : Fact). f.sps_unit) past)) (sym (ap (closure at) asked.layer_is ∙ reach))
      ∙ find-filter_map (λ (f : Fact). f.sps_unit) (λ (c : Carried SpsValue). is_among (closure at p.item.head.layer) c.layer && (option_map (has_sps_id id) (value_of c) otherwise false)) (since turned past)

  pps-named : named_pps past p ≡ option_map carried_pps (latest_pps s vps layer id)
  pps-named = ap (option_and_then (seen_pps past p.item.at p.item.head.layer)) asked.id_is ∙ sym seen-pps

  format-named : (o : Option SpsSetValue) → named_format p (option_map carried_sps o) ≡ option_and_then (λ (sps : SpsSetValue). format_of vps layer sps.value.0) o
  format-named o =
      ap (λ (w : Option WholeVps). option_and_then (λ (vps : WholeVps). option_and_then (format_of vps p.item.head.layer) (option_and_then value_of (option_map carried_sps o))) w) asked.vps_is
      ∙ ap (λ n. option_and_then (format_of vps n) (option_and_then value_of (option_map carried_sps o))) asked.layer_is
      ∙ go o
    where
      go : (o : Option SpsSetValue) → option_and_then (format_of vps layer) (option_and_then value_of (option_map carried_sps o)) ≡ option_and_then (λ (sps : SpsSetValue). format_of vps layer sps.value.0) o
      go None = refl
      go (Some sps) = refl

  abbrev as_served : Result ActiveValue Rule → Result (Carried PpsValue × Carried SpsValue × Format) Rule
  as_served (Ok a) = Ok (carried_sets a)
  as_served (Err rule) = Err rule

  abbrev sets_by : Option (Carried PpsValue) → Sets
  sets_by pps = record { pps = pps; sps = named_sps past p pps; format = named_format p (named_sps past p pps) }

  by-format : (pps : PpsSetValue) (sps : SpsSetValue) (format : Option Format) → serving (record { pps = Some (carried_pps pps); sps = Some (carried_sps sps); format = format }) ≡ as_served (with_format pps sps format)
  by-format pps sps None = refl
  by-format pps sps (Some format) = refl

  by-sps : (pps : PpsSetValue) (o : Option SpsSetValue) →
      serving (record { pps = Some (carried_pps pps); sps = option_map carried_sps o; format = option_and_then (λ (sps : SpsSetValue). format_of vps layer sps.value.0) o }) ≡ as_served (of_sps vps layer pps o)
  by-sps pps None = refl
  by-sps pps (Some sps) = by-format pps sps (format_of vps layer sps.value.0)

  by-pps : (o : Option PpsSetValue) → serving (sets_by (option_map carried_pps o)) ≡ as_served (of_pps s vps layer o)
  by-pps None = refl
  by-pps (Some pps) =
      let o : Option SpsSetValue = latest_sps s vps layer pps.value.0.opening.pps_seq_parameter_set_id in
      ap (λ sps. serving (record { pps = Some (carried_pps pps); sps = sps; format = named_format p sps })) (sym (seen-sps pps.value.0.opening.pps_seq_parameter_set_id))
      ∙ ap (λ format. serving (record { pps = Some (carried_pps pps); sps = option_map carried_sps o; format = format })) (format-named o)
      ∙ by-sps pps o

  served : serving (named_sets past p) ≡ as_served (resolved s vps layer id)
  unfolding named_sets
  served = ap (λ pps. serving (sets_by pps)) pps-named ∙ by-pps (latest_pps s vps layer id)

  pub gives : (result : Result ActiveValue ReadFault) → Answers result (resolved s vps layer id) → Gives result (serving (named_sets past p))
  gives (Ok active) e = served ∙ ap as_served e
  gives (Err (ReadFault.Refused rule)) e = served ∙ ap as_served e
  gives (Err ReadFault.Memory) e = tt
