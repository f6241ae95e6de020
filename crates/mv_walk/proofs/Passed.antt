-- What is kept behind a unit that is read no further than its head.
use Rattle.std.proofs.Common.{◌≡◌, ℕ, Bool, true, false, List, [], ◌∷◌, ◌++◌, None, refl, ap, sym, subst, ◌∙◌}
use Rattle.std.specs.Prelude.{◌||◌, is_some}
use Rattle.mv_units.specs.declared.head.UnitHead.{UnitHead}
use Rattle.mv_pictures.specs.AccessUnits.{number}
use Rattle.mv_pictures.specs.Facts.{Fact}
use Rattle.mv_pictures.specs.History.{facts_of, history_of, judged}
use Rattle.mv_pictures.specs.Items.{Item, is_known, is_slice}
use Rattle.mv_pictures.specs.Judged.{Judged, is_end, is_layer_end}
use Rattle.mv_commuting.specs.OneMore.{fact_behind}
use Rattle.mv_au.specs.States.{IsEndOf}
use Rattle.mv_au.specs.Tracker.{IsTold}
use Rattle.mv_sets.specs.Store as store
use Rattle.mv_walk_sets.specs.declared.roles.Role.{Role}
use Rattle.mv_walk_laws.specs.Streams.{item_behind, placed_units}
use Rattle.mv_walk_laws.proofs.OneMore.{item-of}
use Rattle.mv_walk.specs.Courses.{Stood}
use Rattle.mv_walk.specs.Decoders.{DecoderStands, Keeps, Opens, is_decoded_open}
use Rattle.mv_walk.specs.Taking.{IsRole, Joined}
use Rattle.mv_walk.specs.declared.course.Course.{Course}
use Rattle.mv_walk.specs.declared.decoder.Decoder.{Decoder}
use Rattle.mv_walk.proofs.FirstOf.{unit-head}
use Rattle.mv_walk.proofs.Joins.{told-as}
use Rattle.mv_walk.proofs.Others.{opens-over}
use Rattle.mv_walk.proofs.RoleParts.{passed_is}
use Rattle.mv_walk.proofs.StoodMore.{both-none, joined-over, more-stood, passed-store, passed-unobjected, slice-none}

-- what a test of ends tells of it
abbrev pub TellsEnd : UnitHead → Bool → Type 0
TellsEnd h ends = (f : Fact) → f.placed.item.head ≡ h → is_known f.placed.item ≡ true → ends ≡ (is_end f || is_layer_end f)

left-off : (a b : Bool) → (a || b) ≡ false → a ≡ false
left-off true b wrong = absurd (let e : true ≡ false = wrong in cc)
left-off false b h = refl

right-off : (a b : Bool) → (a || b) ≡ false → b ≡ false
right-off true b wrong = absurd (let e : true ≡ false = wrong in cc)
right-off false b h = h

told-end : (us : List (List ℕ)) (u : List ℕ) (h : UnitHead) (ends : Bool) → IsRole us u h Role.Passed → TellsEnd h ends → ends ≡ (is_end (fact_behind us u) || is_layer_end (fact_behind us u))
told-end us u h ends r told =
    told (fact_behind us u) (ap (λ (i : Item). i.head) (item-of us u) ∙ unit-head us u h Role.Passed r) (ap is_known (item-of us u) ∙ (passed_is (item_behind us u) r.role_is).known)

pub no-slice : (us : List (List ℕ)) (u : List ℕ) (h : UnitHead) → IsRole us u h Role.Passed → is_slice (item_behind us u) ≡ false
no-slice us u h r = both-none (is_known (item_behind us u)) _ (passed_is (item_behind us u) r.role_is).slice

-- one that ends nothing
pub passed-over : {R W P : Type 0} (old mid new : Course R W P) (us : List (List ℕ)) (u : List ℕ) (h : UnitHead) (ends : Bool) → Joined us u old mid → Stood old us → IsRole us u h Role.Passed →
    new.vps ≡ mid.vps → new.changed ≡ mid.changed → new.units ≡ mid.units → new.sets ≡ mid.sets → new.decoder ≡ mid.decoder → TellsEnd h ends → ends ≡ false → Stood new (us ++ u ∷ [])
passed-over {R} {W} {P} old mid new us u h ends j s r vps changed units sets decoder told off =
    let none : (is_end (fact_behind us u) || is_layer_end (fact_behind us u)) ≡ false = sym (told-end us u h ends r told) ∙ off in
    more-stood old mid new us u j s r.clean (passed-unobjected old.decoder.asked us u h r) (passed_is (item_behind us u) r.role_is).no_video vps changed units (ap (λ (d : Decoder R W P). d.asked) decoder)
    (subst (λ x. store.Stands x (fact_behind us u ∷ facts_of us)) (sym sets) (passed-store old mid us u h j s r))
    (subst (λ d. DecoderStands d mid.vps (judged (history_of us) (fact_behind us u) ∷ history_of us) (number (placed_units us) (item_behind us u))) (sym decoder)
    (joined-over old mid us u j (no-slice us u h r) (left-off (is_end (fact_behind us u)) (is_layer_end (fact_behind us u)) none) (right-off (is_end (fact_behind us u)) (is_layer_end (fact_behind us u)) none)))

-- an end
pub passed-end : {R W P : Type 0} (old mid new : Course R W P) (us : List (List ℕ)) (u : List ℕ) (h : UnitHead) (ends : Bool) → Joined us u old mid → Stood old us → IsRole us u h Role.Passed →
    new.vps ≡ mid.vps → new.changed ≡ mid.changed → new.units ≡ mid.units → new.sets ≡ mid.sets → TellsEnd h ends → ends ≡ true →
    ((past : List Judged) (q : Fact) → IsEndOf h.layer q → Keeps mid.decoder past mid.decoder.making → Keeps new.decoder (judged past q ∷ past) new.decoder.making) →
    new.decoder ≡ record mid.decoder { states = new.decoder.states } → Stood new (us ++ u ∷ [])
passed-end {R} {W} {P} old mid new us u h ends j s r vps changed units sets told on keeps rest =
    let p : Fact = fact_behind us u in
    let at : IsEndOf h.layer p = record { layer_is = ap (λ (i : Item). i.head.layer) (item-of us u) ∙ ap (λ (i : UnitHead). i.layer) (unit-head us u h Role.Passed r); ends = sym (told-end us u h ends r told) ∙ on } in
    more-stood old mid new us u j s r.clean (passed-unobjected old.decoder.asked us u h r) (passed_is (item_behind us u) r.role_is).no_video vps changed units (ap (λ (d : Decoder R W P). d.asked) rest)
    (subst (λ x. store.Stands x (fact_behind us u ∷ facts_of us)) (sym sets) (passed-store old mid us u h j s r))
    (record {
      keeps = keeps (history_of us) p at j.decoder_is.keeps;
      open_is = subst (λ o. Opens mid.vps o (judged (history_of us) p ∷ history_of us) (number (placed_units us) (item_behind us u))) (sym (ap (λ (d : Decoder R W P). d.picture) rest))
          (opens-over mid.vps mid.decoder.picture (history_of us) p (number (placed_units us) (item_behind us u)) (slice-none us u (no-slice us u h r)) j.decoder_is.open_is);
      made = ap (λ (d : Decoder R W P). is_some d.making) rest ∙ j.decoder_is.made ∙ sym (ap (λ (d : Decoder R W P). is_decoded_open d.picture) rest);
    })

-- as the tracker is told of it
pub told-passed : (us : List (List ℕ)) (u : List ℕ) (h : UnitHead) → IsRole us u h Role.Passed → IsTold (item_behind us u) h None
told-passed us u h r = told-as us u h (passed_is (item_behind us u) r.role_is).known (unit-head us u h Role.Passed r) (no-slice us u h r)
