-- What a walker's calls answer, by what is answered of a unit and of the end.
use Rattle.std.proofs.Common.{◌≡◌, ℕ, ◌+◌, ◌<◌, ◌≤◌, ◌^◌, cond, not, List, [], ◌∷◌, ◌++◌, length, reverse, filter, refl, ap, ap₂, sym, subst, ◌∙◌, arith}
use Rattle.std.specs.Prelude.{Ok, Err, if◌then◌else◌}
use Rattle.std.proofs.lemmas.List.{length-append}
use Rattle.std.proofs.lemmas.List.Filters.{length-filter_both}
use Rattle.mv_pictures.specs.Extract as extracts
use Rattle.mv_pictures.specs.Items.{items, stays}
use Rattle.mv_walk_laws.specs.Streams.{item_behind}
use Rattle.mv_walk_laws.proofs.Counting.{kept-counted, kept-more}
use Rattle.mv_walk_laws.proofs.Lengths.{items-length}
use Rattle.mv_walk_laws.proofs.OneMore.{item-of}
use Rattle.mv_walk.specs.Courses.{Stood}
use Rattle.mv_walk.specs.Ending.{error_of}
use Rattle.mv_walk.specs.Going.{IsBehind}
use Rattle.mv_walk.specs.Stepping.{Ends, Steps, counted_totals}
use Rattle.mv_walk.specs.Told.{step_of}
use Rattle.mv_walk.specs.Walking.{Closes, Walks, refusal_at}
use Rattle.mv_walk.specs.declared.course.Course.{Course}
use Rattle.mv_walk.specs.declared.ending.Stop.{Stop}
use Rattle.mv_walk.specs.declared.step.Step.{Step}
use Rattle.mv_walk.specs.declared.step.Totals.{Totals}

-- ---- A unit

pub walks-err : {R W P : Type 0} (o : ℕ) (us : List (List ℕ)) (byte number : ℕ) (u : List ℕ) (stands : List (List ℕ) → Type 0) (new : Course R W P) (stop : Stop) → Steps o us u new (Err stop) → number ≡ length us →
    Walks o us byte u stands (Err (error_of stop number byte))
walks-err o us byte number u stands new (Stop.Breaks rule) h n = (rule, h, ap (λ k. refusal_at k byte rule) n)
walks-err o us byte number u stands new (Stop.Lacks asked count) h n = h
walks-err o us byte number u stands new Stop.View h n = tt
walks-err o us byte number u stands new Stop.Memory h n = tt

-- how many units are kept
few-kept : (o : ℕ) (us : List (List ℕ)) → length (filter (stays o) (items (reverse us))) ≤ length us
few-kept o us = subst (λ n. length (filter (stays o) (items (reverse us))) ≤ n) (items-length us) (omega (arith, length-filter_both (stays o) (λ i. not (stays o i)) (λ i. refl) (items (reverse us))))

-- what it has counted with a unit more
pub behind-more : {R W P : Type 0} (asked number kept more_number more_kept : ℕ) (old new : Course R W P) (us : List (List ℕ)) (u : List ℕ) (step : Step) → IsBehind asked number kept old us → length us + 1 < 2 ^ 64 →
    Stood new (us ++ u ∷ []) → new.decoder.asked ≡ old.decoder.asked → step ≡ step_of asked us u → more_number ≡ number + 1 → (kept + 1 < 2 ^ 64 → more_kept ≡ kept + (if step.kept then 1 else 0)) →
    IsBehind asked more_number more_kept new (us ++ u ∷ [])
unfolding step_of
behind-more asked number kept more_number more_kept old new us u step b few stood same told one kept_more =
    let at_most : length (filter (stays asked) (items (reverse us))) ≤ length us = few-kept asked us in
    let count : kept ≡ length (filter (stays asked) (items (reverse us))) = b.kept_is in
    let its : step.kept ≡ stays asked (item_behind us u) = ap (λ (s : Step). s.kept) told ∙ ap (stays asked) (item-of us u) in
    record {
      number_is = one ∙ ap (λ n. n + 1) b.number_is ∙ sym (length-append us (u ∷ []));
      kept_is = kept_more (omega arith) ∙ ap₂ (λ n c. n + cond c 1 0) b.kept_is its ∙ sym (kept-more us u asked);
      asked_is = same ∙ b.asked_is;
      stood = stood;
    }

-- ---- The end

pub closes-err : (o : ℕ) (us : List (List ℕ)) (byte number units kept : ℕ) (stop : Stop) → Ends us units kept (Err stop) → number ≡ length us → Closes o us byte (Err (error_of stop number byte))
closes-err o us byte number units kept (Stop.Breaks rule) h n = (h.0, ap₂ (λ k r. refusal_at k byte r) n h.1)
closes-err o us byte number units kept (Stop.Lacks asked count) h n = h
closes-err o us byte number units kept Stop.View h n = tt
closes-err o us byte number units kept Stop.Memory h n = tt

pub closes-ok : {R W P : Type 0} (asked number kept : ℕ) (c : Course R W P) (us : List (List ℕ)) (byte : ℕ) (totals : Totals) → IsBehind asked number kept c us → Ends us number kept (Ok totals) → Closes asked us byte (Ok totals)
unfolding extracts.totals
closes-ok asked number kept c us byte totals b h = (h.0, h.1 ∙ ap₂ (counted_totals us) b.number_is (b.kept_is ∙ sym (kept-counted us asked)))
