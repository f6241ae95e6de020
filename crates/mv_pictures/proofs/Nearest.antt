-- The count of a picture that is no start: `nearest` gives a number with the low bits that lies in the interval around the
-- anchor, and it is the only one.
use Rattle.std.proofs.Common.{◌≡◌, ◌∙◌, ap, refl, ℕ, ◌+◌, ◌-◌, ◌*◌, ◌/◌, ◌%◌, ◌<◌, ℤ, pos, negsuc, ◌+ℤ◌, ◌-ℤ◌, ◌<ℤ◌, ◌≤ℤ◌, arith}
use Rattle.std.proofs.lemmas.Int.{ints, int_rem_euclid_is}
use Rattle.std.proofs.lemmas.Nat.{div-add-mod'}
use Rattle.std.proofs.Math.Nat.{add-mul-mod_self_right, add-mod_right, mod-eq_of_lt, mod-lt}
use Rattle.mv_pictures.specs.Counts.{residue, lowest, nearest, IsNearest}

-- b less a multiple of n, and b plus one, have the residue b
below : (n b k : ℕ) (c : ℤ) → b < n → c +ℤ pos (k * n) ≡ pos b → residue n c ≡ pos b
below n b k c small e = int_rem_euclid_is c (pos n) n k b (omega arith) refl e ∙ ap pos (mod-eq_of_lt small)

above : (n b k : ℕ) (c : ℤ) → b < n → c ≡ pos (b + n + k * n) → residue n c ≡ pos b
above n b k c small e =
    int_rem_euclid_is c (pos n) n 0 (b + n + k * n) (omega arith) refl (omega (arith, ints))
    ∙ ap pos (add-mul-mod_self_right (b + n) k n ∙ add-mod_right b n ∙ mod-eq_of_lt small)

-- what is low plus the remainder of b - low has the residue b, and lies from low to n behind it
reached : (n b : ℕ) (low z : ℤ) → b < n → low +ℤ z ≡ pos b → residue n (low +ℤ residue n z) ≡ pos b
reached n b low (pos a) small e = below n b (a / n) _ small (let whole = div-add-mod' a n in omega (arith, ints))
reached n b low (negsuc a) small e =
    above n b (a / n) _ small (let whole = div-add-mod' a n in let less = mod-lt a {m = n} (omega arith) in omega (arith, ints))

within : (n : ℕ) (z : ℤ) → 0 < n → (pos 0 ≤ℤ residue n z) × (residue n z <ℤ pos n)
within n (pos a) some = let less = mod-lt a some in (omega (arith, ints), omega (arith, ints))
within n (negsuc a) some = let less = mod-lt a some in (omega (arith, ints), omega (arith, ints))

pub nearest_is : (max bits : ℕ) (a : ℤ) → bits < max → max ≡ 2 * (max / 2) → IsNearest max bits a (nearest max bits a)
unfolding nearest
nearest_is max bits a small even =
    let low = lowest max a in
    let near = within max (pos bits -ℤ low) (omega arith) in
    record {
      low_bits = reached max bits low (pos bits -ℤ low) small (omega (arith, ints));
      above = let least = near.0 in omega (arith, ints);
      not_above = let most = near.1 in omega (arith, ints);
    }

-- a number from low to n behind it with the residue b is reached so
apart : (n b m : ℕ) (low c : ℤ) → b < n → m < n → c ≡ low +ℤ pos m → residue n c ≡ pos b → residue n (pos b -ℤ low) ≡ pos m
apart n b m low (pos x) small few e r =
    let whole = div-add-mod' x n in
    let same : pos (x % n) ≡ pos b = r in
    below n m (x / n) _ few (omega (arith, ints))
apart n b m low (negsuc x) small few e r =
    let whole = div-add-mod' x n in
    let less = mod-lt x {m = n} (omega arith) in
    let same : pos (n - 1 - x % n) ≡ pos b = r in
    above n m (x / n) _ few (omega (arith, ints))

pub nearest_alone : (max bits : ℕ) (a c : ℤ) → bits < max → max ≡ 2 * (max / 2) → IsNearest max bits a c → c ≡ nearest max bits a
unfolding nearest
nearest_alone max bits a c small even near = go (c -ℤ lowest max a) refl
  where
    go : (z : ℤ) → c -ℤ lowest max a ≡ z → c ≡ lowest max a +ℤ residue max (pos bits -ℤ lowest max a)
    go (pos m) e =
        let least = near.above in
        let most = near.not_above in
        let is = apart max bits m (lowest max a) c small (omega (arith, ints)) (omega (arith, ints)) near.low_bits in
        omega (arith, ints)
    go (negsuc m) e = let least = near.above in absurd (omega (arith, ints))
