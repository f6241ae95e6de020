-- What a piece brings, from what its first bytes bring to a length, and the others behind it.
use Rattle.std.proofs.Common.{◌≡◌, ℕ, ◌+◌, ◌-◌, ◌<◌, ◌≤◌, min, Bool, true, false, nat_lt, List, [], ◌++◌, length, take, drop, refl, ap, sym, ◌∙◌, arith, length-append, append_assoc, append-nil, inl, inr}
use Rattle.std.proofs.lemmas.Bool.{ltb-true, ltb-false}
use Rattle.std.proofs.lemmas.List.{length-take, length-drop}
use Rattle.std.proofs.Math.Seq.{take-add}
use Rattle.mv_rules.specs.declared.refusal.Refusal.{Refusal}
use Rattle.mv_rules.specs.declared.rule.Rule.{Rule}
use Rattle.mv_lenform.specs.Moves.{OpenBefore, Comes, RefusesAt}
use Rattle.mv_prefixed.specs.Reading.{Open, front}
use Rattle.mv_lenform.specs.Stages.{bytes_held}
use Rattle.mv_lenform.specs.declared.machine.Machine.{Machine}
use Rattle.mv_prefixed.proofs.Fronts.{front-short}

-- the bytes of a length stand before those of its unit
pub length-held : (h u p h' : List ℕ) (have c : ℕ) → (have < 4 → u ≡ []) → h' ≡ h ++ take c p → c ≡ min (4 - have) (length p) → h' ++ u ≡ (h ++ u) ++ take c p
length-held h u p h' have c none is count = go (nat_lt have 4) refl
  where
    go : (b : Bool) → nat_lt have 4 ≡ b → h' ++ u ≡ (h ++ u) ++ take c p
    go true less =
        let empty : u ≡ [] = none (ltb-true have 4 less) in
        ap (λ v. h' ++ v) empty ∙ append-nil h' ∙ is ∙ ap (λ v. v ++ take c p) (sym (append-nil h)) ∙ ap (λ v. (h ++ v) ++ take c p) (sym empty)
    go false more =
        let zero_bytes : c ≡ 0 = let enough = ltb-false have 4 more in omega (arith, count) in
        let nothing : take c p ≡ [] = ap (λ n. take n p) zero_bytes in
        ap (λ v. v ++ u) (is ∙ ap (λ v. h ++ v) nothing ∙ append-nil h) ∙ sym (append-nil (h ++ u)) ∙ ap (λ v. (h ++ u) ++ v) (sym nothing)

pub length-before : (h u p : List ℕ) (have c : ℕ) → length h ≤ have → (have < 4 → u ≡ []) → c ≡ min (4 - have) (length p) → OpenBefore (h ++ u) p c
length-before h u p have c len none count = λ k less.
    let few : have < 4 = omega (arith, count, less) in
    let empty : length u ≡ 0 = ap (λ v. length v) (none few) in
    front-short ((h ++ u) ++ take k p) (omega (arith, less, count, len, empty, length-append (h ++ u) (take k p), length-append h u, length-take k p))

shift : (kept p kept' : List ℕ) (c j : ℕ) → kept' ≡ kept ++ take c p → kept ++ take (c + j) p ≡ kept' ++ take j (drop c p)
shift kept p kept' c j is =
    ap (λ v. kept ++ v) (take-add c j p) ∙ sym (append_assoc kept (take c p) (take j (drop c p))) ∙ ap (λ v. v ++ take j (drop c p)) (sym is)

pub before-both : (kept p kept' : List ℕ) (c m : ℕ) → kept' ≡ kept ++ take c p → OpenBefore kept p c → OpenBefore kept' (drop c p) m → OpenBefore kept p (c + m)
before-both kept p kept' c m is first next = λ k less. go k less (nat_lt k c) refl
  where
    go : (k : ℕ) → k < c + m → (b : Bool) → nat_lt k c ≡ b → front (kept ++ take k p) ≡ Open
    go k less true low = first k (ltb-true k c low)
    go k less false high =
        let above = ltb-false k c high in
        let same : k ≡ c + (k - c) = omega (arith, above) in
        ap (λ n. front (kept ++ take n p)) same ∙ ap front (shift kept p kept' c (k - c) is) ∙ next (k - c) (omega (arith, above, less))

pub comes-both : (old mid new : Machine) (p : List ℕ) (c m : ℕ) → bytes_held mid ≡ bytes_held old ++ take c p → c ≤ length p → Comes mid new (drop c p) m → Comes old new p (c + m)
comes-both old mid new p c m is fits (inl goes) = inl (record {
  all = let all = goes.all in omega (arith, all, length-drop c p);
  reads = goes.reads;
  keeps = goes.keeps ∙ sym (shift (bytes_held old) p (bytes_held mid) c m is);
})
comes-both old mid new p c m is fits (inr ends) = inr (record {
  found = ends.found;
  whole = ap front (shift (bytes_held old) p (bytes_held mid) c m is) ∙ ends.whole;
})

pub refuses-both : (old mid new : Machine) (p : List ℕ) (r : Refusal) (c : ℕ) → bytes_held mid ≡ bytes_held old ++ take c p → c ≤ length p → OpenBefore (bytes_held old) p c → mid.fed ≡ old.fed + c → mid.given ≡ old.given →
    RefusesAt mid new (drop c p) r → RefusesAt old new p r
refuses-both old mid new p r c is fits first fed given next = record {
  count = c + next.count;
  some = let some = next.some in omega arith;
  within = let within = next.within in omega (arith, within, length-drop c p);
  before = before-both (bytes_held old) p (bytes_held mid) c next.count is first next.before;
  rule = next.rule;
  broken = ap front (shift (bytes_held old) p (bytes_held mid) c next.count is) ∙ next.broken;
  refusal = next.refusal ∙ same mid.given old.given _ _ next.rule given
      (let len : length (bytes_held old ++ take (c + next.count) p) ≡ length (bytes_held mid ++ take next.count (drop c p)) = ap (λ v. length v) (shift (bytes_held old) p (bytes_held mid) c next.count is) in omega (arith, len, fed));
  stage = next.stage;
}
  where
    same : (a b c d : ℕ) (rule : Rule) → a ≡ b → c ≡ d → ◌≡◌ {A = Refusal} (record { unit = a; byte = c; rule = rule }) (record { unit = b; byte = d; rule = rule })
    same a b c d rule units bytes = rw (units, bytes) refl
