-- The lists of flags of profile_tier_level have a flag for each sub-layer.
use Rattle.std.proofs.Common.{◌≡◌, ℕ, List, Bool, length, Ok}
use Rattle.mv_syntax.specs.Table.{Valid}
use Rattle.mv_syntax.specs.inner.Reader.{read}
use Rattle.mv_syntax.proofs.TableLaws.{reads-of}
use Rattle.mv_syntax.proofs.LoopLaws.{columns-lengths}
use Rattle.mv_common.specs.ProfileTier.{sub_layer_flags, all_sub_layer_flags}

pub valid_lengths : (subs : ℕ) (ones others : List ℕ) → Valid (all_sub_layer_flags subs) (ones, others) → (length ones ≡ subs) × (length others ≡ subs)
unfolding all_sub_layer_flags
valid_lengths subs ones others h = columns-lengths sub_layer_flags 0 subs ones others h

pub read_lengths : (subs : ℕ) (b : List Bool) (ones others : List ℕ) (rest : List Bool) → read (all_sub_layer_flags subs) b ≡ Ok ((ones, others), rest) → (length ones ≡ subs) × (length others ≡ subs)
read_lengths subs b ones others rest e = valid_lengths subs ones others (reads-of (all_sub_layer_flags subs) b (ones, others) rest e).valid
