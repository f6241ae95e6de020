-- Numbers that words write, by what was parsed.
use Rattle.std.proofs.Common.{◌≡◌, ◌≤◌, ◌<◌, ◌^◌, ℕ, List, [], ◌∷◌, length, drop, cond, sym, subst, ap, arith}
use Rattle.std.specs.Prelude.{slice_index}
use Rattle.std.specs.Char.{digit_value}
use Rattle.std.specs.Str.Parse.{IsNumeral, digits_value, without_leading_plus}
use Rattle.std.proofs.lemmas.Bool.{ne_eqb}
use Rattle.mv_cli.specs.Words.{IsNumber, IsSigned}

-- a word that begins with a plus writes no number
pub unsigned : (word : List ℕ) (n : ℕ) → IsNumber word n → ¬ IsSigned word
unsigned [] n number signed = let h = number.digits.0 in omega (arith, h)
unsigned (c ∷ cs) n number signed =
    let plus : digit_value 43 < 10 = subst (λ d. digit_value d < 10) signed number.digits.1.0 in omega (arith, plus)

unplussed : (word : List ℕ) → ¬ IsSigned word → without_leading_plus word ≡ word
unplussed word isnt = ap (λ b. drop (cond b 1 0) word) (ne_eqb (slice_index word 0) 43 isnt)

-- what was parsed of a word without a plus
pub parsed : (word : List ℕ) (n : ℕ) → ¬ IsSigned word → length word ≤ 10 → IsNumeral 10 (without_leading_plus word) × (digits_value 10 (without_leading_plus word) < 2 ^ 32) → n ≡ digits_value 10 (without_leading_plus word) → IsNumber word n
parsed word n isnt short reads is =
    let same = unplussed word isnt in
    let value : n ≡ digits_value 10 word = subst (λ w. n ≡ digits_value 10 w) same is in
    record {
      digits = subst (IsNumeral 10) same reads.0;
      short = short;
      value = value;
      below = subst (λ m. m < 2 ^ 32) (sym is) reads.1;
    }

pub unparsed : (word : List ℕ) (n : ℕ) → ¬ IsSigned word → ¬ (IsNumeral 10 (without_leading_plus word) × (digits_value 10 (without_leading_plus word) < 2 ^ 32)) → ¬ IsNumber word n
unparsed word n isnt fails number =
    let same = sym (unplussed word isnt) in
    fails (subst (IsNumeral 10) same number.digits, subst (λ w. digits_value 10 w < 2 ^ 32) same (subst (λ m. m < 2 ^ 32) number.value number.below))
