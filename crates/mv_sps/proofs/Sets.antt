-- The short-term reference picture sets of a sequence parameter set, each behind the sets before it.
use Rattle.std.proofs.Common.{◌≡◌, ℕ, ◌<◌, Bool, List, [], ◌∷◌, ◌++◌, length, take, Ok, sym, arith, length-take-le}
use Rattle.mv_syntax.specs.Table.{Valid}
use Rattle.mv_syntax.specs.inner.Reader.{read}
use Rattle.mv_syntax.proofs.TableLaws.{reads-read}
use Rattle.mv_syntax.proofs.LoopLaws.{items_after-length}
use Rattle.mv_short_sets.specs.ShortSetValue.{ShortSetValue}
use Rattle.mv_short_sets.specs.ShortSet.{ValidSets}
use Rattle.mv_short_sets.proofs.SetLaws.{sets_push}
use Rattle.mv_sps.specs.References.{short_set, short_sets}

-- a set that was read stands behind the valid sets before it
pub set_pushed : (num i : ℕ) (sets more : List ShortSetValue) (s : ShortSetValue) (b rest : List Bool) → ValidSets num sets → length sets ≡ i
    → more ≡ sets ++ s ∷ [] → read (short_set num i sets) b ≡ Ok (s, rest) → ValidSets num more
unfolding short_set
set_pushed num i sets more s b rest h count is e =
    sets_push num i sets more s h count is (reads-read (short_set num i sets) b s rest e).0

-- so many sets stand before set i
pub taken_whole : (num : ℕ) (sets : List ShortSetValue) (i k : ℕ) → Valid (short_sets num) sets → i < num → k ≡ i → k ≡ length (take k sets)
unfolding short_sets
taken_whole num sets i k h below same =
    let count : length sets ≡ num = items_after-length (short_set num) 0 num sets h in sym (length-take-le k sets (omega arith))
