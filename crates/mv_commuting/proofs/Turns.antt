-- Between two changes of the video parameter set the one in force is the same.
use Rattle.std.proofs.Common.{◌≡◌, ◌⊎◌, inl, inr, ℕ, Bool, true, false, cond, not, ◌&&◌, List, [], ◌∷◌, Option, None, Some, Ok, Err, refl, ap, sym, subst, ◌∙◌}
use Rattle.std.specs.Prelude.{nat_eq, All, option_and_then, option_map, bytes_eq}
use Rattle.std.specs.List.{find}
use Rattle.std.proofs.lemmas.Bool.{eqb-true, and_parts, not-false}
use Rattle.std.proofs.lemmas.List.Elements.{All-nil, All-cons, All-weaker}
use Rattle.std.proofs.lemmas.Slice.Eq.{bytes_eq-Decides}
use Rattle.mv_units.specs.declared.head.UnitHead.{UnitHead}
use Rattle.mv_units.specs.Head.{head}
use Rattle.mv_units.specs.Escapes.{payload}
use Rattle.mv_syntax.specs.Bits.{byte_bits}
use Rattle.mv_syntax.specs.inner.PayloadReader.{read_payload}
use Rattle.mv_syntax.specs.Words.{◌otherwise◌}
use Rattle.mv_vps.specs.Vps.{WholeVps, vps}
use Rattle.mv_history.specs.History.{run, since}
use Rattle.mv_pictures.specs.Kinds.{is_vps_kind}
use Rattle.mv_pictures.specs.Carried.{Carried, carried_vps, whole_vps}
use Rattle.mv_pictures.specs.Layers.{InForce}
use Rattle.mv_pictures.specs.Items.{Item, is_vps, is_vps_head, item, items, same_vps, turns, vps_behind}
use Rattle.mv_commuting.proofs.Closures.{find_all}

-- the video parameter set of a payload
made : List ℕ → Carried WholeVps
made p = record { layer = 0; payload = p; reading = elim (read_payload vps (byte_bits p)) [ Ok v ↦ Ok (whole_vps v) | Err fault ↦ Err fault ] }

abbrev IsMade : InForce → Type 0
IsMade at = (at ≡ None) ⊎ ((p : List ℕ) × (at ≡ Some (made p)))

carried_made : (h : UnitHead) (bytes : List ℕ) → nat_eq h.layer 0 ≡ true → carried_vps h bytes ≡ made (payload bytes)
unfolding carried_vps made
carried_made h bytes base =
    ap (λ layer. record { layer = layer; payload = payload bytes; reading = elim (read_payload vps (byte_bits (payload bytes))) [ Ok v ↦ Ok (whole_vps v) | Err fault ↦ Err fault ] })
    (eqb-true h.layer 0 base)

behind_made : (past : List Item) → All (λ (i : Item). IsMade i.at) past → IsMade (vps_behind past)
unfolding vps_behind
behind_made past h = go (find is_vps past) refl
  where
    go : (o : Option Item) → find is_vps past ≡ o → IsMade (option_and_then (λ (i : Item). i.at) o)
    go None is = inl refl
    go (Some i) is = (find_all (λ (i : Item). IsMade i.at) is_vps past i h is).0

items_made : (us : List (List ℕ)) → All (λ (i : Item). IsMade i.at) (items us)
unfolding items run item
items_made [] = All-nil (λ (i : Item). IsMade i.at)
items_made (u ∷ us) = All-cons (λ (i : Item). IsMade i.at) (item (items us) u) (items us) (go (is_vps_head (head u)) refl (items_made us)) (items_made us)
  where
    go : (b : Bool) → is_vps_head (head u) ≡ b → All (λ (i : Item). IsMade i.at) (items us) → IsMade (cond b (Some (carried_vps (head u) u)) (vps_behind (items us)))
    go true is rest = inr (payload u, ap Some (carried_made (head u) u (and_parts (is_vps_kind (head u).kind) (nat_eq (head u).layer 0) is).1))
    go false is rest = behind_made (items us) rest

-- a video parameter set that doesn't turn is the first or repeats the one before
repeats : (old : InForce) (new : List ℕ) → IsMade old → (option_map (λ old. option_map (λ new. not (same_vps old new)) (Some (made new)) otherwise false) old otherwise false) ≡ false →
    (old ≡ None) ⊎ (Some (made new) ≡ old)
unfolding made
repeats None new is same = inl refl
repeats (Some old) new (inl is) same = absurd (cc)
repeats (Some old) new (inr (p, is)) same =
    let it : old ≡ made p = cc in
    let payloads : old.payload ≡ p = ap (λ (c : Carried WholeVps). c.payload) it in
    let equal : bytes_eq old.payload new ≡ true = not-false (bytes_eq old.payload new) same in
    let to : p ≡ new = sym payloads ∙ (bytes_eq-Decides old.payload new).0 equal in
    inr (ap (λ q. Some (made q)) (sym to) ∙ sym is)

pub unturned : (us : List (List ℕ)) (u : List ℕ) → turns (item (items us) u) ≡ false → (vps_behind (items us) ≡ None) ⊎ ((item (items us) u).at ≡ vps_behind (items us))
unfolding item turns
unturned us u h = go (is_vps_head (head u)) refl h
  where
    go : (b : Bool) → is_vps_head (head u) ≡ b →
        (b && (option_map (λ old. option_map (λ new. not (same_vps old new)) (cond b (Some (carried_vps (head u) u)) (vps_behind (items us))) otherwise false) (vps_behind (items us)) otherwise false)) ≡ false →
        (vps_behind (items us) ≡ None) ⊎ (cond b (Some (carried_vps (head u) u)) (vps_behind (items us)) ≡ vps_behind (items us))
    go false is same = inr refl
    go true is same = again
      where
        same_made : carried_vps (head u) u ≡ made (payload u)
        same_made = carried_made (head u) u (and_parts (is_vps_kind (head u).kind) (nat_eq (head u).layer 0) is).1

        again : (vps_behind (items us) ≡ None) ⊎ (Some (carried_vps (head u) u) ≡ vps_behind (items us))
        again = subst (λ c. (vps_behind (items us) ≡ None) ⊎ (Some c ≡ vps_behind (items us))) (sym same_made)
            (repeats (vps_behind (items us)) (payload u) (behind_made (items us) (items_made us))
            (subst (λ c. (option_map (λ old. option_map (λ new. not (same_vps old new)) (Some c) otherwise false) (vps_behind (items us)) otherwise false) ≡ false) same_made same))

-- behind a unit the video parameter set in force is that at it
pub behind_item : (us : List (List ℕ)) (u : List ℕ) → vps_behind (item (items us) u ∷ items us) ≡ (item (items us) u).at
unfolding vps_behind item
behind_item us u = go (is_vps_head (head u)) refl
  where
    go : (b : Bool) → is_vps_head (head u) ≡ b → option_and_then (λ (i : Item). i.at) (cond b (Some (item (items us) u)) (find is_vps (items us))) ≡ cond (is_vps_head (head u)) (Some (carried_vps (head u) u)) (vps_behind (items us))
    go true e = refl
    go false e = sym (ap (λ b. cond b (Some (carried_vps (head u) u)) (vps_behind (items us))) e)

-- since the latest change, each unit has the video parameter set that is in force now, or came before the first
abbrev pub IsInForce : InForce → InForce → Type 0
IsInForce now at = (at ≡ None) ⊎ (at ≡ now)

pub later_in_force : (old new at : InForce) → (old ≡ None) ⊎ (new ≡ old) → IsInForce old at → IsInForce new at
later_in_force old new at step (inl none) = inl none
later_in_force old new at (inl none) (inr is) = inl (is ∙ none)
later_in_force old new at (inr same) (inr is) = inr (is ∙ sym same)

pub in_force : (us : List (List ℕ)) → All (λ (i : Item). IsInForce (vps_behind (items us)) i.at) (since turns (items us))
unfolding items run since
in_force [] = All-nil (λ (i : Item). IsInForce (vps_behind []) i.at)
in_force (u ∷ us) = go (turns (item (items us) u)) refl (in_force us)
  where
    go : (b : Bool) → turns (item (items us) u) ≡ b → All (λ (i : Item). IsInForce (vps_behind (items us)) i.at) (since turns (items us)) →
        All (λ (i : Item). IsInForce (vps_behind (item (items us) u ∷ items us)) i.at) (cond b [] (item (items us) u ∷ since turns (items us)))
    go true is rest = All-nil (λ (i : Item). IsInForce (vps_behind (item (items us) u ∷ items us)) i.at)
    go false is rest =
        All-cons (λ (i : Item). IsInForce (vps_behind (item (items us) u ∷ items us)) i.at) (item (items us) u) (since turns (items us))
        (inr (sym (behind_item us u)))
        (All-weaker (λ (i : Item). IsInForce (vps_behind (items us)) i.at) (λ (i : Item). IsInForce (vps_behind (item (items us) u ∷ items us)) i.at)
        (λ i. later_in_force (vps_behind (items us)) (vps_behind (item (items us) u ∷ items us)) i.at
        (subst (λ new. (vps_behind (items us) ≡ None) ⊎ (new ≡ vps_behind (items us))) (sym (behind_item us u)) (unturned us u is)))
        (since turns (items us)) rest)
