-- A layer of which nothing came in the sequence.
use Rattle.std.specs.Prelude.{false}
use Rattle.mv_au.specs.declared.states.LayerState.{LayerState}

abbrev pub no_state : LayerState
no_state = record { initialised = false; after_start = false }
