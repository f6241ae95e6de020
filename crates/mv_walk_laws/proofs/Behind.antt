-- Behind a unit that breaks no rule: what holds while no unit breaks one holds there too.
use Rattle.std.proofs.Common.{◌≡◌, ℕ, ◌<◌, ◌≤◌, Bool, true, false, cond, not, ◌&&◌, ◌||◌, List, [], ◌∷◌, ◌++◌, length, None, refl, ap, sym, subst, ◌∙◌, filter}
use Rattle.std.specs.Prelude.{All, is_none, nat_eq, option_map}
use Rattle.std.proofs.lemmas.Bool.{and_from}
use Rattle.mv_history.specs.History.{Throughout}
use Rattle.mv_syntax.specs.Words.{◌otherwise◌}
use Rattle.mv_pictures.specs.Facts.{Fact}
use Rattle.mv_pictures.specs.Held.{Held}
use Rattle.mv_pictures.specs.History.{history_of, judged, judgement}
use Rattle.mv_pictures.specs.Judged.{Judged, au, begins, is_picture, layer, of_layer}
use Rattle.mv_pictures.specs.Look.{asked, look}
use Rattle.mv_pictures.specs.Output.{count_of}
use Rattle.mv_pictures.specs.PictureRules.{is_in_range}
use Rattle.mv_pictures.specs.Starts.{is_anew, is_decoded, is_idr_or_bla, is_sequence_start, is_skipped}
use Rattle.mv_pictures.specs.Verdict.{breaks_none}
use Rattle.mv_commuting.specs.HeldOneMore.{held_of}
use Rattle.mv_commuting.specs.OneMore.{fact_behind}
use Rattle.mv_commuting.proofs.More.{history-more}
use Rattle.mv_commuting.proofs.SoFar.{at_most-so-far, falls-so-far, held-counts-so-far}
use Rattle.mv_walk_laws.specs.Streams.{broken_behind}
use Rattle.mv_walk_laws.proofs.OneCount.{steady}

pub unbroken-more : (us : List (List ℕ)) (u : List ℕ) → breaks_none (history_of us) ≡ true → broken_behind us u ≡ None → breaks_none (judged (history_of us) (fact_behind us u) ∷ history_of us) ≡ true
unfolding breaks_none
unbroken-more us u h none = and_from (is_none (broken_behind us u)) (breaks_none (history_of us)) (ap is_none none) h

pub next-obeys : (P : List Judged → Type 0) → ((vs : List (List ℕ)) → breaks_none (history_of vs) ≡ true → P (history_of vs)) → (us : List (List ℕ)) (u : List ℕ) →
    breaks_none (history_of us) ≡ true → broken_behind us u ≡ None → P (judged (history_of us) (fact_behind us u) ∷ history_of us)
next-obeys P law us u h none =
    subst P (history-more us u) (law (us ++ u ∷ []) (subst (λ (ds : List Judged). breaks_none ds ≡ true) (sym (history-more us u)) (unbroken-more us u h none)))

-- what is held of a layer, and how access units and counts go on
pub next-counts : (us : List (List ℕ)) (u : List ℕ) (n : ℕ) → breaks_none (history_of us) ≡ true → broken_behind us u ≡ None →
    All (λ (h : Held). (option_map is_in_range h.it.count otherwise false) ≡ true) (held_of (judged (history_of us) (fact_behind us u) ∷ history_of us) n)
next-counts us u n h none =
    next-obeys (λ (ds : List Judged). All (λ (h : Held). (option_map is_in_range h.it.count otherwise false) ≡ true) (held_of ds n)) (λ vs h. held-counts-so-far vs n h) us u h none

pub next-falls : (us : List (List ℕ)) (u : List ℕ) (n : ℕ) → breaks_none (history_of us) ≡ true → broken_behind us u ≡ None →
    Throughout (λ past (h : Held). All (λ (g : Held). au g.it.fact < au h.it.fact) past) (held_of (judged (history_of us) (fact_behind us u) ∷ history_of us) n)
next-falls us u n h none =
    next-obeys (λ (ds : List Judged). Throughout (λ past (h : Held). All (λ (g : Held). au g.it.fact < au h.it.fact) past) (held_of ds n)) (λ vs h. falls-so-far vs n h) us u h none

pub next-few : (us : List (List ℕ)) (u : List ℕ) (n : ℕ) → breaks_none (history_of us) ≡ true → broken_behind us u ≡ None →
    length (held_of (judged (history_of us) (fact_behind us u) ∷ history_of us) n) ≤ 16
next-few us u n h none = next-obeys (λ (ds : List Judged). length (held_of ds n) ≤ 16) (λ vs h. at_most-so-far vs n h) us u h none

pub next-steady : (us : List (List ℕ)) (u : List ℕ) → breaks_none (history_of us) ≡ true → broken_behind us u ≡ None →
    Throughout (λ past d. All (λ (e : Judged). au e.fact ≤ au d.fact) past
    × (d.decoded ≡ true → All (λ (e : Judged). e.decoded ≡ true → au e.fact ≡ au d.fact → count_of e ≡ count_of d) past)) (judged (history_of us) (fact_behind us u) ∷ history_of us)
next-steady us u h none =
    next-obeys (Throughout (λ past d. All (λ (e : Judged). au e.fact ≤ au d.fact) past
    × (d.decoded ≡ true → All (λ (e : Judged). e.decoded ≡ true → au e.fact ≡ au d.fact → count_of e ≡ count_of d) past))) steady us u h none

-- ---- What is no picture

and-false : (b : Bool) → (b && false) ≡ false
and-false true = refl
and-false false = refl

pub plain-decoded : (past : List Judged) (p : Fact) → is_picture p ≡ false → (judged past p).decoded ≡ false
unfolding judged judgement is_decoded
plain-decoded past p none = ap (λ b. b && not (is_skipped (look (asked past p) p) p)) none

plain-starts : (past : List Judged) (p : Fact) → is_picture p ≡ false → (judged past p).seq ≡ false
unfolding judged judgement is_sequence_start
plain-starts past p none =
    ap (λ b. (nat_eq (layer p) 0 && b) && (is_idr_or_bla p || is_anew (look (asked past p) p))) none
    ∙ ap (λ b. b && (is_idr_or_bla p || is_anew (look (asked past p) p))) (and-false (nat_eq (layer p) 0))

pub plain-begins : (past : List Judged) (p : Fact) → is_picture p ≡ false → begins (judged past p) ≡ false
plain-begins past p none = ap (λ b. of_layer 0 (judged past p) && b) (plain-starts past p none) ∙ and-false (of_layer 0 (judged past p))

uncounted : (test : Judged → Bool) (past : List Judged) (d : Judged) → test d ≡ false → length (filter test (d ∷ past)) ≡ length (filter test past)
uncounted test past d none = ap (λ b. length (cond b (d ∷ filter test past) (filter test past))) none

pub plain-pictures : (past : List Judged) (p : Fact) → is_picture p ≡ false → length (filter (λ (d : Judged). d.decoded) (judged past p ∷ past)) ≡ length (filter (λ (d : Judged). d.decoded) past)
plain-pictures past p none = uncounted (λ (d : Judged). d.decoded) past (judged past p) (plain-decoded past p none)

pub plain-sequences : (past : List Judged) (p : Fact) → is_picture p ≡ false → length (filter begins (judged past p ∷ past)) ≡ length (filter begins past)
plain-sequences past p none = uncounted begins past (judged past p) (plain-begins past p none)
