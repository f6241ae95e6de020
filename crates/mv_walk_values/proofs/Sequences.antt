-- The base picture that starts the latest sequence is of no later access unit than the pictures behind it: so the terms of those
-- are the same among the units of the sequence and among all.
use Rattle.std.proofs.Common.{◌≡◌, ℕ, ◌≤◌, Bool, true, false, cond, All, List, [], ◌∷◌, refl, ap, sym, ◌∙◌, arith}
use Rattle.std.proofs.lemmas.Bool.{eqb-true}
use Rattle.std.proofs.lemmas.List.Elements.{All-cons, All-filter, All-nil, All-weaker}
use Rattle.mv_history.specs.History.{Throughout, from}
use Rattle.mv_history.proofs.Kept.{All-both}
use Rattle.mv_pictures.specs.Held.{Held}
use Rattle.mv_pictures.specs.Judged.{Judged, au, begins, layer, of_layer}
use Rattle.mv_pictures.specs.Look.{in_sequence, sequence}
use Rattle.mv_pictures.specs.References.{term_in}
use Rattle.mv_commuting.specs.HeldOneMore.{held_of}
use Rattle.mv_commuting.proofs.Anchors.{All-from}
use Rattle.mv_commuting.proofs.HeldBound.{held_all, held-layer}
use Rattle.mv_walk_values.specs.Orderly.{IsOrderly}
use Rattle.mv_walk_values.specs.Values.{term_of}
use Rattle.mv_walk_values.proofs.Orderly.{term_in_sequence}

-- a base picture that starts a sequence is of no later access unit than a picture
abbrev IsNear : Judged → Judged → Type 0
IsNear d r = begins r ≡ true → au r.fact ≤ au d.fact

near_from : (past : List Judged) → Throughout (λ before (d : Judged). All (λ (e : Judged). au e.fact ≤ au d.fact) before) past → All (λ (d : Judged). All (IsNear d) (from begins past)) (from begins past)
unfolding from
near_from [] numbers = All-nil (λ (d : Judged). All (IsNear d) [])
near_from (e ∷ past) numbers = go (begins e) refl (near_from past numbers.1)
  where
    own : All (IsNear e) (from begins past)
    own = All-from (IsNear e) begins past (All-weaker (λ (r : Judged). au r.fact ≤ au e.fact) (IsNear e) (λ r low is. low) past numbers.0)

    go : (b : Bool) → begins e ≡ b → All (λ (d : Judged). All (IsNear d) (from begins past)) (from begins past) →
        All (λ (d : Judged). All (IsNear d) (cond b (e ∷ []) (e ∷ from begins past))) (cond b (e ∷ []) (e ∷ from begins past))
    go true is rest =
        All-cons (λ (d : Judged). All (IsNear d) (e ∷ [])) e []
        (All-cons (IsNear e) e [] (λ _. omega arith) (All-nil (IsNear e))) (All-nil (λ (d : Judged). All (IsNear d) (e ∷ [])))
    go false is rest =
        All-cons (λ (d : Judged). All (IsNear d) (e ∷ from begins past)) e (from begins past)
        (All-cons (IsNear e) e (from begins past) (λ _. omega arith) own)
        (All-weaker (λ (d : Judged). All (IsNear d) (from begins past)) (λ (d : Judged). All (IsNear d) (e ∷ from begins past))
        (λ d near. All-cons (IsNear d) e (from begins past) (λ other. absurd (let wrong : true ≡ false = sym other ∙ is in cc)) near)
        (from begins past) rest)

pub near_sequence : (past : List Judged) → IsOrderly past → All (λ (d : Judged). All (λ (r : Judged). begins r ≡ true → au r.fact ≤ au d.fact) (sequence past)) (sequence past)
unfolding sequence
near_sequence past orderly = near_from past orderly.numbers

-- so a picture of the sequence has its term there
pub terms_in_sequence : (past : List Judged) → IsOrderly past → All (λ (d : Judged). term_in (in_sequence past (layer d.fact)) d ≡ term_of past d) (sequence past)
terms_in_sequence past orderly =
    All-weaker (λ (d : Judged). All (λ (r : Judged). begins r ≡ true → au r.fact ≤ au d.fact) (sequence past)) (λ (d : Judged). term_in (in_sequence past (layer d.fact)) d ≡ term_of past d)
    (λ d near. term_in_sequence past d orderly near) (sequence past) (near_sequence past orderly)

-- and a held one of a layer
pub held_terms : (past : List Judged) (n : ℕ) → IsOrderly past → All (λ (h : Held). term_in (in_sequence past n) h.it ≡ term_of past h.it) (held_of past n)
held_terms past n orderly =
    All-weaker (λ (h : Held). (of_layer n h.it ≡ true) × (term_in (in_sequence past (layer h.it.fact)) h.it ≡ term_of past h.it)) (λ (h : Held). term_in (in_sequence past n) h.it ≡ term_of past h.it)
    (λ h both. ap (λ m. term_in (in_sequence past m) h.it) (sym (eqb-true (layer h.it.fact) n both.0)) ∙ both.1) (held_of past n)
    (All-both (λ (h : Held). of_layer n h.it ≡ true) (λ (h : Held). term_in (in_sequence past (layer h.it.fact)) h.it ≡ term_of past h.it) (held_of past n) (held-layer past n) whole)
  where
    HasTerm : Judged → Type 0
    HasTerm d = term_in (in_sequence past (layer d.fact)) d ≡ term_of past d

    whole : All (λ (h : Held). term_in (in_sequence past (layer h.it.fact)) h.it ≡ term_of past h.it) (held_of past n)
    whole =
        held_all HasTerm [] (in_sequence past n)
        (All-weaker HasTerm (λ (d : Judged). d.decoded ≡ true → HasTerm d) (λ d is decoded. is) (in_sequence past n)
        (All-filter (of_layer n) HasTerm (sequence past) (terms_in_sequence past orderly)))
