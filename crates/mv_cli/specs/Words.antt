-- The words that the program takes (this project's profile).
use Rattle.std.specs.Prelude.{ℕ, ◌≡◌, ◌<◌, ◌≤◌, ◌^◌, List, [], ◌∷◌, length, codes, slice_index}
use Rattle.std.specs.Str.Parse.{IsNumeral, digits_value}
use Rattle.mv_cli.specs.declared.command.Command.{Command}
use Rattle.mv_cli.specs.declared.command.Command.TheVariants.{Extract, Check, Pack, Unpack}

-- a word writes a number: it is of 1 to 10 decimal digits, leading zeros among them, and the number is below 2^32
pub record IsNumber (word : List ℕ) (n : ℕ) : Type 0 where
  pub digits : IsNumeral 10 word
  pub short : length word ≤ 10
  pub value : n ≡ digits_value 10 word
  pub below : n < 2 ^ 32

-- a word begins with a plus
abbrev pub IsSigned : List ℕ → Type 0
IsSigned word = slice_index word 0 ≡ 43

-- the words are `extract` and the number of a set
pub record IsExtract (words : List (List ℕ)) (n : ℕ) : Type 0 where
  pub word : List ℕ
  pub both : words ≡ codes "extract" ∷ word ∷ []
  pub number : IsNumber word n

-- the words of each command of one word
abbrev pub MeansPlain : List (List ℕ) → Command → Type 0
MeansPlain words (Extract n) = ⊥
MeansPlain words Check = words ≡ codes "check" ∷ []
MeansPlain words Pack = words ≡ codes "pack" ∷ []
MeansPlain words Unpack = words ≡ codes "unpack" ∷ []

-- the words of each command: `extract` and the number of a set, or `check`, or `pack`, or `unpack`, and no others
abbrev pub Means : List (List ℕ) → Command → Type 0
Means words (Extract n) = IsExtract words n
Means words Check = words ≡ codes "check" ∷ []
Means words Pack = words ≡ codes "pack" ∷ []
Means words Unpack = words ≡ codes "unpack" ∷ []

-- the words are those of some command, and of some command of one word
abbrev pub IsForm : List (List ℕ) → Type 0
IsForm words = (command : Command) × Means words command

abbrev pub IsPlain : List (List ℕ) → Type 0
IsPlain words = (command : Command) × MeansPlain words command

-- the line for all other words
abbrev pub usage_line : List ℕ
usage_line = codes "usage: mv_cli extract N | digest N [format1] | check | show | gen NUMBER COUNT [sum] | pack | unpack\n"
