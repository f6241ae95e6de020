-- Laws of what a sink appends: nothing, one piece after another, a slice part by part, and where a write fails.
use Rattle.std.proofs.Common.{ℕ, ◌≡◌, ◌+◌, ◌-◌, ◌<◌, ◌≤◌, Option, None, Some, List, [], ◌++◌, take, drop, length, refl, ap, sym, subst, ◌∙◌, arith, append_assoc, length-append}
use Rattle.std.proofs.lemmas.List.{append-nil, take_rest, take-append-le}
use Rattle.std.proofs.Math.Seq.{take-add, take-append-add}
use Rattle.mv_io.specs.Sink.{Appends, AppendsPrefix}

-- a sink that stays as it is appended nothing
pub Appends-nothing : (old : Option (List ℕ)) → Appends old old []
Appends-nothing None = refl
Appends-nothing (Some had) = ap Some (sym (append-nil had))

-- one piece, and then another
pub Appends-then : (old mid new : Option (List ℕ)) (xs ys : List ℕ) → Appends old mid xs → Appends mid new ys → Appends old new (xs ++ ys)
Appends-then None None new xs ys first next = next
Appends-then None (Some has) new xs ys first next = absurd (cc)
Appends-then (Some had) None new xs ys first next = absurd (cc)
Appends-then (Some had) (Some has) new xs ys first next =
    let same : has ≡ had ++ xs = cc in
    next ∙ ap (λ s. Some (s ++ ys)) same ∙ ap Some (append_assoc had xs ys)

-- the first bytes of a slice, and then the first of its rest
pub Appends-part : (old mid new : Option (List ℕ)) (bytes : List ℕ) (at n : ℕ) → Appends old mid (take at bytes) → Appends mid new (take n (take (length bytes - at) (drop at bytes))) → Appends old new (take (at + n) bytes)
Appends-part old mid new bytes at n first next =
    let rest : Appends mid new (take n (drop at bytes)) = rw (← take_rest bytes at) next in
    rw (take-add at n bytes) (Appends-then old mid new _ _ first rest)

-- the first of two pieces failed
pub AppendsPrefix-first : (old new : Option (List ℕ)) (xs ys : List ℕ) → AppendsPrefix old new xs → AppendsPrefix old new (xs ++ ys)
AppendsPrefix-first old new xs ys h =
    let within : h.count ≤ length xs = let below : h.count < length xs = h.not_all in omega arith in
    record {
      count = h.count;
      not_all = let below : h.count < length xs = h.not_all in omega (arith, length-append xs ys);
      appends = subst (Appends old new) (sym (take-append-le h.count xs ys within)) h.appends;
    }

-- the first piece was taken, and the second failed
pub AppendsPrefix-then : (old mid new : Option (List ℕ)) (xs ys : List ℕ) → Appends old mid xs → AppendsPrefix mid new ys → AppendsPrefix old new (xs ++ ys)
AppendsPrefix-then old mid new xs ys first h = record {
  count = length xs + h.count;
  not_all = let below : h.count < length ys = h.not_all in omega (arith, length-append xs ys);
  appends = subst (Appends old new) (sym (take-append-add xs ys h.count)) (Appends-then old mid new xs (take h.count ys) first h.appends);
}
