-- Access units don't fall, and those of the pictures of a layer rise.
use Rattle.std.proofs.Common.{◌≡◌, ◌⊎◌, inl, inr, ℕ, ◌<◌, ◌≤◌, true, List, [], ◌∷◌, reverse, sym, subst, arith}
use Rattle.std.specs.Prelude.{All, slice_index_or}
use Rattle.std.proofs.lemmas.Bool.{cases_lt}
use Rattle.std.proofs.lemmas.List.Elements.{All-weaker}
use Rattle.mv_history.specs.History.{Throughout, run}
use Rattle.mv_history.proofs.Kept.{All-unmap}
use Rattle.mv_pictures.specs.AccessUnits.{Placed, all_placed, number, placed}
use Rattle.mv_pictures.specs.Facts.{fact, facts}
use Rattle.mv_pictures.specs.History.{facts_of, history, history_of, judged, judgement}
use Rattle.mv_pictures.specs.Items.{items}
use Rattle.mv_pictures.specs.Judged.{Judged, au, is_picture}
use Rattle.mv_pictures.specs.Verdict.{is_accepted}
use Rattle.mv_commuting.specs.Kept.{IsEarlierPicture, IsOtherPicture}
use Rattle.mv_commuting.proofs.Extracts.{accepted-fine}
use Rattle.mv_commuting.proofs.Facts.{this}
use Rattle.mv_commuting.proofs.Places.{begun, numbers_within}
use Rattle.mv_commuting.proofs.Seats.{names-one}
use Rattle.mv_commuting.proofs.Shown.{placed_of_hist}
use Rattle.mv_commuting.proofs.Steady.{AllFine, hist, this_judged}

placed_within : (us : List (List ℕ)) (u : List ℕ) → All (λ (q : Placed). q.au ≤ (this us u).au) (all_placed (items us))
unfolding all_placed placed number
placed_within us u =
    All-weaker (λ (q : Placed). q.au ≤ begun (run placed (items us))) (λ (q : Placed). q.au ≤ (this us u).au) (λ q low. omega (arith, low)) (run placed (items us)) (numbers_within (items us))

all_within : (us : List (List ℕ)) (u : List ℕ) → All (λ (e : Judged). au e.fact ≤ au (this_judged us u).fact) (hist us)
unfolding judged judgement fact
all_within us u =
    All-unmap (λ (q : Placed). q.au ≤ (this us u).au) (λ (d : Judged). d.fact.placed) (hist us)
    (subst (All (λ (q : Placed). q.au ≤ (this us u).au)) (sym (placed_of_hist us)) (placed_within us u))

numbers-rise : (us : List (List ℕ)) → Throughout (λ past d. All (λ (e : Judged). au e.fact ≤ au d.fact) past) (hist us)
unfolding items run all_placed facts history
numbers-rise [] = tt
numbers-rise (u ∷ us) = (all_within us u, numbers-rise us)

-- not above, and another one
earlier : (d : Judged) (past : List Judged) → All (λ (e : Judged). au e.fact ≤ au d.fact) past → All (IsOtherPicture d) past → All (IsEarlierPicture d) past
earlier d past within other k x low picture same = go (cases_lt (au (slice_index_or past k x).fact) (au d.fact)) (within k x low) (other k x low picture same)
  where
    go : (au (slice_index_or past k x).fact < au d.fact) ⊎ (au d.fact ≤ au (slice_index_or past k x).fact) → au (slice_index_or past k x).fact ≤ au d.fact →
        (au (slice_index_or past k x).fact ≡ au d.fact → ⊥) → au (slice_index_or past k x).fact < au d.fact
    go (inl less) not_above other = less
    go (inr not_below) not_above other = absurd (other (omega (arith, not_below, not_above)))

earlier_each : (ds : List Judged) → Throughout (λ past d. All (λ (e : Judged). au e.fact ≤ au d.fact) past) ds → Throughout (λ past d. is_picture d.fact ≡ true → All (IsOtherPicture d) past) ds →
    Throughout (λ past d. is_picture d.fact ≡ true → All (IsEarlierPicture d) past) ds
earlier_each [] within other = tt
earlier_each (d ∷ past) within other = (λ picture. earlier d past within.0 (other.0 picture), earlier_each past within.1 other.1)

pub pictures-rise : (us : List (List ℕ)) → AllFine us → Throughout (λ past d. is_picture d.fact ≡ true → All (IsEarlierPicture d) past) (hist us)
pictures-rise us fine = earlier_each (hist us) (numbers-rise us) (names-one us fine)

-- ---- In the order of the stream

pub numbers-rise-of : (us : List (List ℕ)) → Throughout (λ past d. All (λ (e : Judged). au e.fact ≤ au d.fact) past) (history_of us)
unfolding history_of facts_of
numbers-rise-of us = numbers-rise (reverse us)

pub pictures-rise-of : (us : List (List ℕ)) → is_accepted us ≡ true → Throughout (λ past d. is_picture d.fact ≡ true → All (IsEarlierPicture d) past) (history_of us)
unfolding history_of facts_of
pictures-rise-of us h = pictures-rise (reverse us) (accepted-fine us h)
