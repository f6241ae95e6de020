-- What is kept of a stream from unit to unit stands for its units so far, none of which is objected to (this project's profile).
-- Units stand in the order of the stream; histories have the latest first.
use Rattle.std.specs.Prelude.{ℕ, ◌≡◌, ◌+◌, ◌^◌, ◌<◌, List, reverse, length}
use Rattle.mv_pictures.specs.Extract.{last_vps}
use Rattle.mv_pictures.specs.History.{facts_of, history_of}
use Rattle.mv_pictures.specs.Items.{items}
use Rattle.mv_au.specs.Tracker as tracker
use Rattle.mv_sets.specs.Store as store
use Rattle.mv_walk_sets.specs.InForce.{AreRead, in_force}
use Rattle.mv_walk_laws.specs.Streams.{IsLatestChange, IsSound, current}
use Rattle.mv_walk.specs.Decoders.{DecoderStands}
use Rattle.mv_walk.specs.declared.course.Course.{Course}

-- what is kept stands for units
pub record Stood {R W P : Type 0} (c : Course R W P) (us : List (List ℕ)) : Type 0 where
  pub sound : IsSound c.decoder.asked us
  pub vps_is : last_vps us ≡ in_force c.vps
  pub read : AreRead c.vps
  pub changed_is : IsLatestChange c.changed us
  pub sets_are : store.Stands c.sets (facts_of us)
  pub units_are : tracker.Stands c.units (items (reverse us))
  pub decoder_is : DecoderStands c.decoder c.vps (history_of us) (current us)

-- it stands for some units, and one may come
pub record HasUnits {R W P : Type 0} (c : Course R W P) : Type 0 where
  pub units : List (List ℕ)
  pub stood : Stood c units
  pub few : length units + 1 < 2 ^ 64
