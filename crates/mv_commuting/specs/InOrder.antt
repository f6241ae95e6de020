-- What the video parameter set in force at a unit describes (F.7.4.3.1.1).
use Rattle.mv_layers.specs.Derived.{DerivedValue}
use Rattle.mv_pictures.specs.Layers.{InForce, layers_at, sets_at}

-- its layers and its output layer sets; none where none is in force, or where it doesn't read
abbrev pub described_at : InForce → DerivedValue
described_at at = record { layers = layers_at at; sets = sets_at at }
