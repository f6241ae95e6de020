-- One read of a source over memory tells what it gave.
use Rattle.std.proofs.Common.{ℕ, Some, ◌≡◌, ◌<◌, ◌≤◌, ◌==◌, ◌||◌, unwrap_or, slice_get, Bool, List, [], ◌++◌, take, drop, length, min, if◌then◌else◌, arith, sym, ◌∙◌, Ok}
use Rattle.std.proofs.lemmas.List.{take-append-drop, take_at, length-take-le, nil_from_length}
use Rattle.mv_io.specs.Source.{ReadTells}
use Rattle.mv_io.specs.MemSource.{Supply, supply_gives, told_of}

-- a read that has room gives something of what is left
size-above_zero : (size room : ℕ) → 0 < room → 0 < (if size == 0 then room else min size room)
size-above_zero size room = grind arith

-- a source that gives nothing has nothing left
pub gives_nothing : (s : Supply) (room : ℕ) → 0 < room → supply_gives s room ≡ 0 → s.left ≡ []
gives_nothing s room some none =
    let above = size-above_zero (unwrap_or (slice_get s.pieces s.number) 0) room some in
    nil_from_length s.left (grind (arith, above, none))

-- what a read does to the buffer and to the source is what ReadTells asks
pub supply_tells : {E : Type 0} (old : Supply) (left : List ℕ) (ended : Bool) (before into : List ℕ) (n : ℕ)
    → 0 < length before → n ≡ supply_gives old (length before) → into ≡ take n old.left ++ drop n before
    → left ≡ drop n old.left → ended ≡ (old.ended || (n == 0))
    → ReadTells {E = E} (told_of old) (Some (record { left = left; ended = ended })) (Ok n) into
supply_tells old left ended before into n room count filled rest end =
    let within : n ≤ length old.left = omega (arith, count) in
    let front = take_at (take n old.left) (drop n before) n (length-take-le n old.left within) in
    record {
      gives = rw (rest, filled, front) (sym (take-append-drop n old.left));
      ends = λ nothing.
          let none : n ≡ 0 = grind arith in
          (gives_nothing old (length before) room (sym count ∙ none), grind arith);
      goes_on = λ some. grind arith;
      fails = tt;
    }
