-- The next unit of a stream, where it is the first segment of a picture, as what is kept of pictures is asked of it.
use Rattle.std.proofs.Common.{◌≡◌, ℕ, ◌+◌, ◌<◌, ◌≤◌, ◌^◌, Bool, true, false, ◌&&◌, List, [], ◌∷◌, ◌++◌, length, reverse, None, Some, refl, ap, ap₂, sym, subst, ◌∙◌}
use Rattle.std.specs.Prelude.{All, nat_eq, option_map}
use Rattle.std.proofs.lemmas.List.Elements.{All-head}
use Rattle.mv_history.specs.History.{Throughout}
use Rattle.mv_syntax.specs.Words.{◌otherwise◌}
use Rattle.mv_units.specs.declared.head.UnitHead.{UnitHead}
use Rattle.mv_pictures.specs.AccessUnits.{all_placed, has_changed_vps, number, placed}
use Rattle.mv_pictures.specs.Facts.{fact}
use Rattle.mv_pictures.specs.History.{facts_of, history_of, judged, judgement}
use Rattle.mv_pictures.specs.Items.{Item, is_first_segment, is_picture, is_slice, is_known, is_vps, item, items, opening_of}
use Rattle.mv_pictures.specs.Judged.{Judged, au}
use Rattle.mv_pictures.specs.Kinds.{is_slice_kind}
use Rattle.mv_pictures.specs.Layers.{whole}
use Rattle.mv_pictures.specs.Look.{look}
use Rattle.mv_pictures.specs.PictureRules.{poc_mismatch}
use Rattle.mv_pictures.specs.Verdict.{breaks_none}
use Rattle.mv_commuting.specs.HeldOneMore.{held_of}
use Rattle.mv_commuting.specs.OneMore.{fact_behind}
use Rattle.mv_commuting.proofs.Anchors.{anchors-of}
use Rattle.mv_commuting.proofs.More.{history-more}
use Rattle.mv_commuting.proofs.Rising.{numbers-rise-of}
use Rattle.mv_tried.specs.Finer.{facts_in}
use Rattle.mv_tried.specs.Tried.{first_of}
use Rattle.mv_au.specs.Tracker.{broken}
use Rattle.mv_walk_layer.specs.Standing as layers
use Rattle.mv_walk_layer.proofs.Soundness.{held-sound}
use Rattle.mv_walk_order.specs.Orders as orders
use Rattle.mv_walk_segment.specs.Serving.{IsHeader, IsSegment, sets_by}
use Rattle.mv_walk_segment.proofs.OpenLaws.{named-first}
use Rattle.mv_walk_segment.proofs.ReadLaws.{context-at}
use Rattle.mv_pictures.specs.Facts.{named_sets, sets_of}
use Rattle.mv_walk_sets.specs.InForce.{VpsInForceValue, carried_of, in_force}
use Rattle.mv_walk_sets.specs.declared.roles.Role.{Role}
use Rattle.mv_walk_laws.specs.Streams.{item_behind, placed_behind, placed_units}
use Rattle.mv_walk_laws.proofs.Bases.{base-behind}
use Rattle.mv_walk_laws.proofs.Changes.{change-next}
use Rattle.mv_walk_laws.proofs.Lengths.{history-length}
use Rattle.mv_walk_laws.proofs.OneCount.{next-agrees, steady, throughout-weaker}
use Rattle.mv_walk_laws.proofs.OneMore.{au-of, fact-told, item-of, placed-of, placed-told, vps-other}
use Rattle.mv_walk_laws.proofs.Sound.{sound-more}
use Rattle.mv_walk_laws.proofs.Steps.{none-later}
use Rattle.mv_walk_laws.proofs.Verdicts.{first-accepted}
use Rattle.mv_walk.specs.Courses.{Stood}
use Rattle.mv_walk.specs.Firsts.{IsFirst}
use Rattle.mv_walk.specs.Taking.{IsRole, Peeks}
use Rattle.mv_walk.specs.declared.course.Course.{Course}
use Rattle.mv_walk.specs.declared.first.FirstSegment.{FirstSegment}
use Rattle.mv_walk.proofs.RoleParts.{IsSet, slice_is}

-- ---- The unit

pub unit-opening : (us : List (List ℕ)) (u : List ℕ) (h : UnitHead) (r : Role) → IsRole us u h r → (item_behind us u).opening ≡ opening_of h u
unfolding item
unit-opening us u h r is = ap (λ k. opening_of k u) is.head_is

pub unit-head : (us : List (List ℕ)) (u : List ℕ) (h : UnitHead) (r : Role) → IsRole us u h r → (item_behind us u).head ≡ h
unfolding item
unit-head us u h r is = is.head_is

pub unit-bytes : (us : List (List ℕ)) (u : List ℕ) → (item_behind us u).bytes ≡ u
unfolding item
unit-bytes us u = refl

pub segment-is : (us : List (List ℕ)) (u : List ℕ) (h : UnitHead) → IsRole us u h Role.Slice → is_slice (item_behind us u) ≡ true
segment-is us u h r =
    let k : IsSet (is_vps (item_behind us u)) (is_known (item_behind us u)) (is_slice_kind (item_behind us u).head.kind) = slice_is (item_behind us u) r.role_is in
    ap (λ b. b && is_slice_kind (item_behind us u).head.kind) k.known ∙ k.kind

pub picture-is : (us : List (List ℕ)) (u : List ℕ) (h : UnitHead) (first : Bool) (id : ℕ) → IsRole us u h Role.Slice → Peeks u h first id → is_picture (item_behind us u) ≡ first
picture-is us u h first id r peek = ap (λ b. b && is_first_segment (item_behind us u).opening) (segment-is us u h r) ∙ ap is_first_segment (unit-opening us u h Role.Slice r) ∙ peek.first_is

pub unit-vps : {R W P : Type 0} (c : Course R W P) (us : List (List ℕ)) (u : List ℕ) (h : UnitHead) (v : VpsInForceValue) → Stood c us → IsRole us u h Role.Slice → c.vps ≡ Some v →
    (item_behind us u).at ≡ Some (carried_of v)
unfolding in_force
unit-vps c us u h v s r is = vps-other us u (slice_is (item_behind us u) r.role_is).no_video ∙ s.vps_is ∙ ap in_force is

-- a segment with this head that names this picture parameter set
pub segment-of : {R W P : Type 0} (c : Course R W P) (us : List (List ℕ)) (u : List ℕ) (h : UnitHead) (first : Bool) (id : ℕ) (v : VpsInForceValue) → Stood c us → IsRole us u h Role.Slice → Peeks u h first id → c.vps ≡ Some v →
    IsSegment v.value h id (placed_behind us u)
unfolding placed item
segment-of c us u h first id v s r peek is = record {
  slice = segment-is us u h r;
  vps_is = ap whole (unit-vps c us u h v s r is);
  head_is = unit-head us u h Role.Slice r;
  opening_is = refl;
  id_is = ap (option_map _) (unit-opening us u h Role.Slice r) ∙ peek.id_is;
}

-- ---- The stream behind it

anchored : (us : List (List ℕ)) (u : List ℕ) → layers.IsDecodedAnchor (judged (history_of us) (fact_behind us u))
anchored us u = All-head layers.IsDecodedAnchor (judged (history_of us) (fact_behind us u)) (history_of us) (subst (All layers.IsDecodedAnchor) (history-more us u) (anchors-of (us ++ u ∷ [])))

steady-behind : (us : List (List ℕ)) (u : List ℕ) → breaks_none (history_of us) ≡ true → broken (placed_units us) (placed_behind us u) ≡ None → is_picture (item_behind us u) ≡ true →
    poc_mismatch (look (history_of us) (fact_behind us u)) (fact_behind us u) ≡ false → orders.AreSteady (judged (history_of us) (fact_behind us u) ∷ history_of us)
unfolding judged judgement
steady-behind us u none unit picture rule = (
  record {
    rises = subst (λ n. All (λ (e : Judged). au e.fact ≤ n) (history_of us)) (sym (au-of us u)) (none-later us u);
    one_count = λ decoded. next-agrees us u none unit rule picture decoded;
  },
  throughout-weaker _ orders.IsSteady (λ past d h. record { rises = h.0; one_count = h.1 }) (history_of us) (steady us none),
)

-- ---- All that is asked

pub first-of-stream : {R W P : Type 0} (c : Course R W P) (us : List (List ℕ)) (u : List ℕ) (h : UnitHead) (id : ℕ) (v : VpsInForceValue) (s : FirstSegment) → Stood c us → length us + 1 < 2 ^ 64 →
    IsRole us u h Role.Slice → Peeks u h true id → c.vps ≡ Some v → s.head ≡ h → s.au ≡ number (placed_units us) (item_behind us u) →
    (option_map (nat_eq (number (placed_units us) (item_behind us u))) c.changed otherwise false) ≡ s.behind_change →
    named_sets (facts_of us) (placed_behind us u) ≡ sets_by s.served.active → IsHeader s.header (fact_behind us u) →
    Throughout (λ past q. broken past q ≡ None) (all_placed (item_behind us u ∷ items (reverse us))) → broken (placed_units us) (placed_behind us u) ≡ None →
    IsFirst v s (history_of us) (fact_behind us u)
unfolding fact placed
first-of-stream c us u h id v s stood few r peek is head_is au_is changed named header kept unit =
    let i : Item = item_behind us u in
    let picture : is_picture i ≡ true = picture-is us u h true id r peek in
    let head : (fact_behind us u).placed.item.head ≡ s.head = ap (λ (x : Item). x.head) (item-of us u) ∙ unit-head us u h Role.Slice r ∙ sym head_is in
    let sets : sets_of (facts_of us) (placed_behind us u) ≡ sets_by s.served.active =
    named-first (facts_of us) (placed_behind us u) (segment-is us u h r) (picture) ∙ named in
    record {
      of_stream = fact-told us u ∙ ap (fact (facts_in (history_of us))) (sym (placed-of us u));
      picture = ap is_picture (item-of us u) ∙ picture;
      head_is = head;
      au_is = au-of us u ∙ sym au_is;
      vps_is = ap (λ (x : Item). x.at) (item-of us u) ∙ unit-vps c us u h v stood r is;
      changed_is = ap₂ has_changed_vps (placed-told us) (placed-of us u) ∙ change-next c.changed us u stood.changed_is ∙ changed;
      sets_are = sets;
      context_is = context-at v.value s.served.active s.head (facts_of us) (placed_behind us u) sets (ap whole (unit-vps c us u h v stood r is)) (unit-head us u h Role.Slice r ∙ sym head_is);
      header_is = header;
      rises = record { rises = numbers-rise-of us; behind = subst (λ n. All (λ (e : Judged). au e.fact ≤ n) (history_of us)) (sym (au-of us u)) (none-later us u) };
      anchored = anchored us u;
      few = subst (λ n. n + 1 < 2 ^ 64) (sym (history-length us)) few;
      behind_base = λ above. subst (λ n. option_map (λ (b : Judged). nat_eq (au b.fact) n) (look (history_of us) (fact_behind us u)).base ≡ Some true) (au-of us u ∙ sym au_is)
          (base-behind us u kept picture (ap (λ (x : UnitHead). nat_eq x.layer 0) (unit-head us u h Role.Slice r ∙ sym head_is) ∙ above));
      steady = steady-behind us u stood.sound.breaks unit picture;
      goes_on = λ rule n. subst (λ past. layers.IsSound (held_of past n)) (history-more us u)
          (held-sound (us ++ u ∷ []) n (sound-more c.decoder.asked us u stood.sound r.clean (first-accepted c.decoder.asked us u picture (unfold first_of in r.decides.0) header.none unit rule)).breaks);
    }
