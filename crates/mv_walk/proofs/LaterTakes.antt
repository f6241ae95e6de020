-- A segment that isn't the first one of its picture, as calls are asked of it.
use Rattle.std.proofs.Common.{◌≡◌, ℕ, Bool, true, false, List, Option, Some, sym, subst}
use Rattle.std.specs.Prelude.{Result, Err}
use Rattle.std.specs.Option.{IfSome}
use Rattle.std.proofs.lemmas.List.Elements.{All-weaker}
use Rattle.mv_rules.specs.declared.refusal.ReadFault.{ReadFault}
use Rattle.mv_units.specs.declared.head.UnitHead.{UnitHead}
use Rattle.mv_slice.specs.declared.slice.SliceHead.{SliceHead}
use Rattle.mv_vps.specs.Vps.{ValidVps, WholeVps}
use Rattle.mv_pictures.specs.AccessUnits.{Placed, placed}
use Rattle.mv_pictures.specs.Facts.{Fact, fact, pps_of_unit, sps_of_unit}
use Rattle.mv_pictures.specs.History.{facts_of, history_of}
use Rattle.mv_pictures.specs.Items as items
use Rattle.mv_pictures.specs.Judged.{Judged}
use Rattle.mv_commuting.specs.OneMore.{fact_behind}
use Rattle.mv_tried.specs.Finer.{facts_in}
use Rattle.mv_sets.specs.Store as store
use Rattle.mv_walk_segment.specs.Open as open_picture
use Rattle.mv_walk_segment.specs.OpenValue.{OpenValue}
use Rattle.mv_walk_segment.specs.Serving.{IsCarried, IsInStream, IsSegment, IsServing, Reads}
use Rattle.mv_walk_sets.specs.InForce.{AreRead, VpsInForceValue}
use Rattle.mv_walk_sets.specs.declared.roles.Role.{Role}
use Rattle.mv_walk_laws.specs.Streams.{placed_behind}
use Rattle.mv_walk_laws.proofs.CarriedSets.{all-carry}
use Rattle.mv_walk_laws.proofs.OneMore.{fact-told, facts-told}
use Rattle.mv_walk_laws.proofs.Segments.{later-begins}
use Rattle.mv_walk.specs.Courses.{Stood}
use Rattle.mv_walk.specs.Decoders.{IsOpen, Opens}
use Rattle.mv_walk.specs.Ending.{of_read}
use Rattle.mv_walk.specs.Taking.{IsRole, Peeks, Takes}
use Rattle.mv_walk.specs.declared.course.Course.{Course}
use Rattle.mv_walk.proofs.FirstOf.{picture-is, segment-is, segment-of, unit-bytes}
use Rattle.mv_walk.proofs.LaterOf.{decoder-here}
use Rattle.mv_walk.proofs.Segments.{first-segment-refused, later-segment-refused}

pub valid-in : {R W P : Type 0} (c : Course R W P) (v : VpsInForceValue) → AreRead c.vps → c.vps ≡ Some v → ValidVps v.value
valid-in c v read is = (subst AreRead is read).valid

-- the sets that are kept stand for the units before a segment
pub in-stream : {R W P : Type 0} (c : Course R W P) (us : List (List ℕ)) (u : List ℕ) (h : UnitHead) (first : Bool) (id : ℕ) (v : VpsInForceValue) → Stood c us → IsRole us u h Role.Slice → Peeks u h first id → c.vps ≡ Some v →
    IsInStream c.sets v.value h id
in-stream c us u h first id v s role peek is = record {
  past = facts_of us;
  placed = placed_behind us u;
  stands = s.sets_are;
  carried = All-weaker (λ (f : Fact). (f.sps_unit ≡ sps_of_unit f.placed.item) × (f.pps_unit ≡ pps_of_unit f.placed.item)) IsCarried (λ f e. record { sps_is = e.0; pps_is = e.1 }) (facts_of us) (all-carry us);
  segment = segment-of c us u h first id v s role peek is;
}

-- what is open serves it
open-by : {R W P : Type 0} (c : Course R W P) (v : VpsInForceValue) (past : List Judged) (n : ℕ) → c.vps ≡ Some v → Opens c.vps c.decoder.picture past n → IsOpen v.value c.decoder.picture past n
open-by c v past n is h = subst (λ (o : Option VpsInForceValue). Opens o c.decoder.picture past n) is h

pub served : {R W P : Type 0} (c : Course R W P) (us : List (List ℕ)) (v : VpsInForceValue) → Stood c us → c.vps ≡ Some v → IfSome c.decoder.picture (λ it. IsServing v.value it.head it.served)
served c us v s is = (open-by c v (history_of us) _ is s.decoder_is.open_is).serving

pub open-at : {R W P : Type 0} (c : Course R W P) (us : List (List ℕ)) (u : List ℕ) (h : UnitHead) (id : ℕ) (v : VpsInForceValue) → Stood c us → IsRole us u h Role.Slice → Peeks u h false id → c.vps ≡ Some v →
    IsOpen v.value c.decoder.picture (history_of us) (placed_behind us u).au
unfolding placed
open-at c us u h id v s role peek is =
    open-by c v (history_of us) _ is (decoder-here c us u s (later-begins us u (segment-is us u h role) (picture-is us u h false id role peek))).open_is

-- its header reads, or it breaks a rule on its sets or its header
pub later-reads : {R W P : Type 0} (c : Course R W P) (us : List (List ℕ)) (u : List ℕ) (h : UnitHead) (id : ℕ) (v : VpsInForceValue) (r : Result SliceHead ReadFault) → Stood c us → IsRole us u h Role.Slice → Peeks u h false id → c.vps ≡ Some v →
    ((past : List Judged) (q : Placed) → open_picture.Stands v.value c.decoder.picture past q.au → store.Stands c.sets (facts_in past) → IsSegment v.value h id q → q.item.bytes ≡ u → items.is_picture q.item ≡ false →
    Reads r (fact (facts_in past) q)) → Reads r (fact_behind us u)
unfolding placed
later-reads c us u h id v r s role peek is answers =
    subst (Reads r) (sym (fact-told us u))
    (answers (history_of us) (placed_behind us u) (open-at c us u h id v s role peek is).stands (subst (λ fs. store.Stands c.sets fs) (sym (facts-told us)) s.sets_are) (segment-of c us u h false id v s role peek is)
    (unit-bytes us u) (picture-is us u h false id role peek))

pub later-read-refused : {R W P : Type 0} (o : ℕ) (new : Course R W P) (us : List (List ℕ)) (u : List ℕ) (h : UnitHead) (id : ℕ) (fault : ReadFault) → IsRole us u h Role.Slice → Peeks u h false id → Reads (Err fault) (fact_behind us u) →
    Takes o us u new (Err (of_read fault))
later-read-refused o new us u h id (ReadFault.Refused rule) role peek t = later-segment-refused o new us u h id rule role peek t
later-read-refused o new us u h id ReadFault.Memory role peek t = tt

pub first-read-refused : {R W P : Type 0} (o : ℕ) (new : Course R W P) (us : List (List ℕ)) (u : List ℕ) (h : UnitHead) (id : ℕ) (fault : ReadFault) → IsRole us u h Role.Slice → Peeks u h true id → Reads (Err fault) (fact_behind us u) →
    Takes o us u new (Err (of_read fault))
first-read-refused o new us u h id (ReadFault.Refused rule) role peek t = first-segment-refused o new us u h id rule role peek t
first-read-refused o new us u h id ReadFault.Memory role peek t = tt

-- the same by the video parameter set and the picture that a call was given
pub later-reads-by : {R W P : Type 0} (c : Course R W P) (us : List (List ℕ)) (u : List ℕ) (h : UnitHead) (id : ℕ) (v : VpsInForceValue) (w : WholeVps) (picture : Option OpenValue) (r : Result SliceHead ReadFault) → Stood c us →
    IsRole us u h Role.Slice → Peeks u h false id → c.vps ≡ Some v → w ≡ v.value → picture ≡ c.decoder.picture →
    ((past : List Judged) (q : Placed) → open_picture.Stands w picture past q.au → store.Stands c.sets (facts_in past) → IsSegment w h id q → q.item.bytes ≡ u → items.is_picture q.item ≡ false →
    Reads r (fact (facts_in past) q)) → Reads r (fact_behind us u)
later-reads-by c us u h id v w picture r s role peek is same here answers =
    later-reads c us u h id v r s role peek is (λ past q stands kept segment.
    answers past q (subst (λ p. open_picture.Stands w p past q.au) (sym here) (subst (λ x. open_picture.Stands x c.decoder.picture past q.au) (sym same) stands)) kept
    (subst (λ x. IsSegment x h id q) (sym same) segment))
