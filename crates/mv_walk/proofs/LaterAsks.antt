-- A segment that isn't the first one of its picture, behind a stream: what the tracker is told, and the open picture is asked.
use Rattle.std.proofs.Common.{◌≡◌, ℕ, false, List, Some, None, ap, subst}
use Rattle.std.specs.Prelude.{Err}
use Rattle.mv_units.specs.declared.head.UnitHead.{UnitHead}
use Rattle.mv_slice.specs.declared.slice.SliceHead.{SliceHead}
use Rattle.mv_pictures.specs.AccessUnits.{placed}
use Rattle.mv_pictures.specs.History.{history_of}
use Rattle.mv_pictures.specs.Layers.{whole}
use Rattle.mv_commuting.specs.OneMore.{fact_behind}
use Rattle.mv_au.specs.Tracker.{broken}
use Rattle.mv_walk_segment.specs.Serving.{IsHeader}
use Rattle.mv_walk_sets.specs.InForce.{VpsInForceValue}
use Rattle.mv_walk_sets.specs.declared.roles.Role.{Role}
use Rattle.mv_walk_laws.specs.Streams.{placed_behind, placed_units}
use Rattle.mv_walk_laws.proofs.Segments.{later-begins}
use Rattle.mv_walk.specs.Courses.{Stood}
use Rattle.mv_walk.specs.Decoders.{DecoderStands}
use Rattle.mv_walk.specs.Laters.{CanAdd, IsNextOf, TakesLater}
use Rattle.mv_walk.specs.Taking.{IsRole, Peeks}
use Rattle.mv_walk.specs.declared.course.Course.{Course}
use Rattle.mv_walk.specs.declared.decoder.Decoder.{Decoder}
use Rattle.mv_walk.specs.declared.ending.Stop.{Stop}
use Rattle.mv_walk.proofs.FirstOf.{picture-is, segment-is, unit-head, unit-vps}
use Rattle.mv_walk.proofs.LaterOf.{can-add, decoder-here}
use Rattle.mv_walk.proofs.LaterTakes.{open-at}

module _ {R W P : Type 0} (c : Course R W P) (us : List (List ℕ)) (u : List ℕ) (h : UnitHead) (id : ℕ) (v : VpsInForceValue) (s : Stood c us) (role : IsRole us u h Role.Slice) (peek : Peeks u h false id) (is : c.vps ≡ Some v)
    (header : SliceHead) (header_is : IsHeader header (fact_behind us u)) (unit : broken (placed_units us) (placed_behind us u) ≡ None) where
  pub asks : CanAdd v.value c.decoder.picture h header × IsNextOf v.value c.decoder.picture h header (history_of us) (placed_behind us u)
  unfolding placed
  asks =
      can-add v c.decoder.picture us u h header (open-at c us u h id v s role peek is) (segment-is us u h role) (picture-is us u h false id role peek)
      (ap whole (unit-vps c us u h v s role is)) (unit-head us u h Role.Slice role) header_is unit

  pub stands-here : DecoderStands c.decoder (Some v) (history_of us) (placed_behind us u).au
  unfolding placed
  stands-here = subst (λ o. DecoderStands c.decoder o (history_of us) (placed_behind us u).au) is (decoder-here c us u s (later-begins us u (segment-is us u h role) (picture-is us u h false id role peek)))

  -- no viewer is shown anything
  pub never-view : (new : Decoder R W P) (stop : Stop) → TakesLater v (history_of us) (placed_behind us u) new (Err stop) → stop ≡ Stop.View → ⊥
  never-view new stop t view = subst (λ x. TakesLater v (history_of us) (placed_behind us u) new (Err x)) view t
