-- What holds of units of which none breaks a rule, whether or not a base picture was decoded.
use Rattle.std.proofs.Common.{◌≡◌, ℕ, ◌<◌, ◌≤◌, true, false, List, [], reverse, length}
use Rattle.std.specs.Prelude.{All, option_map}
use Rattle.std.proofs.lemmas.List.Elements.{All-filter}
use Rattle.mv_syntax.specs.Words.{◌otherwise◌}
use Rattle.mv_history.specs.History.{Throughout}
use Rattle.mv_pictures.specs.Held.{Held}
use Rattle.mv_pictures.specs.History.{facts_of, history_of}
use Rattle.mv_pictures.specs.Judged.{Judged, au, begins, is_picture, of_layer}
use Rattle.mv_pictures.specs.Look.{in_sequence, sequence}
use Rattle.mv_pictures.specs.PictureRules.{is_in_range}
use Rattle.mv_pictures.specs.Verdict.{breaks_none}
use Rattle.mv_commuting.specs.HeldOneMore.{held_of}
use Rattle.mv_commuting.specs.Kept.{IsEarlierPicture}
use Rattle.mv_commuting.proofs.Anchors.{All-from, counts_in_range}
use Rattle.mv_commuting.proofs.HeldBound.{held-falls, held_all, held_at_most}
use Rattle.mv_commuting.proofs.Histories.{fine-accepted}
use Rattle.mv_commuting.proofs.Rising.{pictures-rise}

pub pictures-so-far : (us : List (List ℕ)) → breaks_none (history_of us) ≡ true → Throughout (λ past d. is_picture d.fact ≡ true → All (IsEarlierPicture d) past) (history_of us)
unfolding history_of facts_of
pictures-so-far us h = pictures-rise (reverse us) (fine-accepted (reverse us) h)

pub counts-so-far : (us : List (List ℕ)) → breaks_none (history_of us) ≡ true → All (λ (d : Judged). d.decoded ≡ true → (option_map is_in_range d.count otherwise false) ≡ true) (history_of us)
unfolding history_of facts_of
counts-so-far us h = counts_in_range (reverse us) h

pub held-counts-so-far : (us : List (List ℕ)) (n : ℕ) → breaks_none (history_of us) ≡ true → All (λ (h : Held). (option_map is_in_range h.it.count otherwise false) ≡ true) (held_of (history_of us) n)
unfolding sequence
held-counts-so-far us n h =
    held_all (λ (d : Judged). (option_map is_in_range d.count otherwise false) ≡ true) [] (in_sequence (history_of us) n)
    (All-filter (of_layer n) (λ (d : Judged). d.decoded ≡ true → (option_map is_in_range d.count otherwise false) ≡ true) (sequence (history_of us))
    (All-from (λ (d : Judged). d.decoded ≡ true → (option_map is_in_range d.count otherwise false) ≡ true) begins (history_of us) (counts-so-far us h)))

pub falls-so-far : (us : List (List ℕ)) (n : ℕ) → breaks_none (history_of us) ≡ true → Throughout (λ past (h : Held). All (λ (g : Held). au g.it.fact < au h.it.fact) past) (held_of (history_of us) n)
unfolding history_of facts_of
falls-so-far us n h = held-falls (reverse us) n (fine-accepted (reverse us) h)

pub at_most-so-far : (us : List (List ℕ)) (n : ℕ) → breaks_none (history_of us) ≡ true → length (held_of (history_of us) n) ≤ 16
unfolding history_of facts_of
at_most-so-far us n h = held_at_most (reverse us) n (fine-accepted (reverse us) h) h
