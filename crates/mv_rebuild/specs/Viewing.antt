-- What a viewer puts out of the pictures that it is shown (this project's profile).
use Rattle.std.specs.Prelude.{ℕ, ◌++◌, List, [], ⊤, Result, Ok, Err, take}
use Rattle.std.specs.List.{flat_map}
use Rattle.mv_dpb.specs.declared.shown.Shown.{Shown}
use Rattle.mv_rebuild.specs.declared.viewer.ViewFailed.{ViewFailed}

-- of a picture that is shown it puts out some numbers; which lists of numbers it may have put out in all; how often it failed; and
-- a number by which it is known again, which no call changes: where it holds a reference to what it puts out on, that reference's
pub record Viewing (V P : Type 0) : Type 1 where
  pub text : Shown → P → List ℕ
  pub puts : V → List ℕ → Type 0
  pub faults : V → ℕ
  pub name : V → ℕ

-- behind what it had put out, all of a picture's numbers, or where it failed the first of them
abbrev pub Shows : {V P : Type 0} → Viewing V P → V → List ℕ → List ℕ → Result ⊤ ViewFailed → Type 0
Shows viewing now before text (Ok done) = viewing.puts now (before ++ text)
Shows viewing now before text (Err failed) = (n : ℕ) × viewing.puts now (before ++ take n text)

-- what is put out of pictures, one after another, by what is put out of each
abbrev pub text_of : {P : Type 0} → (Shown → P → List ℕ) → List (Shown × P) → List ℕ
text_of {P} text pictures = flat_map (λ (s : Shown × P). text s.0 s.1) pictures

-- one that puts out nothing, and never fails
abbrev pub no_viewing : {V P : Type 0} → Viewing V P
no_viewing = record { text = λ shown pic. []; puts = λ now numbers. ⊤; faults = λ now. 0; name = λ now. 0 }
