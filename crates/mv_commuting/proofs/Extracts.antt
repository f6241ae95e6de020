-- The laws of extraction, in the order of the stream.
use Rattle.std.proofs.Common.{◌≡◌, ℕ, true, not, List, [], reverse, refl, ap, sym, ◌∙◌, filter}
use Rattle.std.proofs.lemmas.Bool.{and_parts}
use Rattle.std.proofs.lemmas.List.{reverse-reverse}
use Rattle.mv_pictures.specs.Decoding.{decode, decode_history, out, out_history}
use Rattle.mv_pictures.specs.Extract.{extract}
use Rattle.mv_pictures.specs.History.{facts_of, history_of}
use Rattle.mv_pictures.specs.Verdict.{breaks_none, is_accepted, no_picture}
use Rattle.std.specs.Prelude.{All}
use Rattle.mv_history.specs.History.{Throughout}
use Rattle.mv_pictures.specs.Held.{held_behind}
use Rattle.mv_pictures.specs.Judged.{Judged, is_picture, is_slice, of_layer, vps_at}
use Rattle.mv_pictures.specs.Look.{in_sequence, initialised}
use Rattle.mv_commuting.specs.Kept.{IsOtherPicture, KeepsOutputsOf, decode_kept, is_kept}
use Rattle.mv_commuting.proofs.Alive.{held-whole}
use Rattle.mv_commuting.proofs.Seats.{names-one, seated-all}
use Rattle.mv_commuting.proofs.Histories.{extract-history, fine-accepted, kept_units}
use Rattle.mv_commuting.proofs.Items.{items-twice}
use Rattle.mv_commuting.proofs.Shown.{decode-keep, out-keep}
use Rattle.mv_commuting.proofs.Steady.{AllFine, hist}

pub hist-of : (us : List (List ℕ)) → history_of us ≡ hist (reverse us)
unfolding history_of facts_of
hist-of us = refl

pub extract-of : (us : List (List ℕ)) (o : ℕ) → extract us o ≡ reverse (kept_units o (reverse us))
unfolding extract
extract-of us o = refl

pub extract-twice : (us : List (List ℕ)) (o : ℕ) → extract (extract us o) o ≡ extract us o
extract-twice us o =
    extract-of (extract us o) o
    ∙ ap (λ rs. reverse (kept_units o rs)) (ap reverse (extract-of us o) ∙ reverse-reverse (kept_units o (reverse us)))
    ∙ ap reverse (items-twice o (reverse us))
    ∙ sym (extract-of us o)

pub accepted-fine : (us : List (List ℕ)) → is_accepted us ≡ true → AllFine (reverse us)
unfolding is_accepted history_of facts_of
accepted-fine us h = fine-accepted (reverse us) (and_parts (breaks_none (history_of us)) (not (no_picture (history_of us))) h).0

pub history-extract : (us : List (List ℕ)) (o : ℕ) → is_accepted us ≡ true → history_of (extract us o) ≡ filter (is_kept o) (history_of us)
history-extract us o h =
    hist-of (extract us o)
    ∙ ap hist (ap reverse (extract-of us o) ∙ reverse-reverse (kept_units o (reverse us)))
    ∙ extract-history o (reverse us) (accepted-fine us h)
    ∙ ap (filter (is_kept o)) (sym (hist-of us))

pub decode-extract : (us : List (List ℕ)) (o : ℕ) → is_accepted us ≡ true → decode (extract us o) ≡ decode_kept us o
unfolding decode history_of facts_of
decode-extract us o h = ap decode_history (history-extract us o h) ∙ decode-keep o (reverse us)

pub out-extract : (us : List (List ℕ)) (o p : ℕ) → is_accepted us ≡ true → KeepsOutputsOf us o p → out (extract us o) p ≡ out us p
unfolding out history_of facts_of
out-extract us o p h kept =
    ap (λ all. out_history all p) (history-extract us o h)
    ∙ out-keep o p (reverse us) (accepted-fine us h) (λ k d low. record { kept = kept k d low })

-- ---- The laws of histories

pub held-of : (us : List (List ℕ)) (n : ℕ) → initialised (history_of us) n ≡ true → held_behind [] (in_sequence (history_of us) n) ≡ held_behind [] (filter (of_layer n) (history_of us))
unfolding history_of facts_of
held-of us n h = held-whole (reverse us) n h

pub names-of : (us : List (List ℕ)) → is_accepted us ≡ true → Throughout (λ past d. is_picture d.fact ≡ true → All (IsOtherPicture d) past) (history_of us)
unfolding history_of facts_of
names-of us h = names-one (reverse us) (accepted-fine us h)

pub seats-of : (us : List (List ℕ)) → is_accepted us ≡ true → All (λ (d : Judged). is_slice d.fact ≡ true → d.seq_vps ≡ vps_at d.fact) (history_of us)
unfolding history_of facts_of
seats-of us h = seated-all (reverse us) (accepted-fine us h)
