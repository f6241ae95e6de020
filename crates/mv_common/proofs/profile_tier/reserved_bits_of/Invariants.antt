use Rattle.std.proofs.Common.{◌≡◌}
use Rattle.mv_syntax.specs.inner.Reader.{read}
use Rattle.mv_syntax.specs.inner.Turns.{rest_of_items}
use Rattle.mv_common.specs.ProfileTier.{reserved_pair, reserved_bits}
use Rattle.mv_common.proofs.profile_tier.reserved_bits_of.Given as goal

abbrev pub invariant-loop-i : goal.invariant-loop-i
invariant-loop-i l =
    (read (reserved_bits l.subs) l.fn.bits.left ≡ rest_of_items reserved_pair l.i 8 l.reserved.items l.bits.left)
    × (l.bits.total ≡ l.fn.bits.total)
