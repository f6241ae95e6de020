use Rattle.std.proofs.Common.{◌≡◌, ◌≤◌, List, ℕ, zero, suc, [], ◌∷◌, length, get_or, refl, sym, ap, arith}
use Rattle.mv_unit_lines.specs.Names.{names}
use Rattle.mv_unit_lines.proofs.names.name_of.Goals as goal

past : (xs : List (List ℕ)) (i : ℕ) → length xs ≤ i → [] ≡ get_or xs i []
past [] i le = refl
past (x ∷ xs) zero le = absurd (omega arith)
past (x ∷ xs) (suc i) le = past xs i (omega arith)

named : (k kind : ℕ) → kind ≡ k → get_or names k [] ≡ get_or names kind []
named k kind is = ap (λ (n : ℕ). get_or names n []) (sym is)

pub returns-then-kind-gt40 : goal.returns-then-kind-gt40
returns-then-kind-gt40 c = past names c.args.kind c.if-kind-gt40.true

pub returns-in-0 : goal.returns-in-0
returns-in-0 c = named 0 c.args.kind c.in-0.is

pub returns-in-1 : goal.returns-in-1
returns-in-1 c = named 1 c.args.kind c.in-1.is

pub returns-in-2 : goal.returns-in-2
returns-in-2 c = named 2 c.args.kind c.in-2.is

pub returns-in-3 : goal.returns-in-3
returns-in-3 c = named 3 c.args.kind c.in-3.is

pub returns-in-4 : goal.returns-in-4
returns-in-4 c = named 4 c.args.kind c.in-4.is

pub returns-in-5 : goal.returns-in-5
returns-in-5 c = named 5 c.args.kind c.in-5.is

pub returns-in-6 : goal.returns-in-6
returns-in-6 c = named 6 c.args.kind c.in-6.is

pub returns-in-7 : goal.returns-in-7
returns-in-7 c = named 7 c.args.kind c.in-7.is

pub returns-in-8 : goal.returns-in-8
returns-in-8 c = named 8 c.args.kind c.in-8.is

pub returns-in-9 : goal.returns-in-9
returns-in-9 c = named 9 c.args.kind c.in-9.is

pub returns-in-10 : goal.returns-in-10
returns-in-10 c = named 10 c.args.kind c.in-10.is

pub returns-in-11 : goal.returns-in-11
returns-in-11 c = named 11 c.args.kind c.in-11.is

pub returns-in-12 : goal.returns-in-12
returns-in-12 c = named 12 c.args.kind c.in-12.is

pub returns-in-13 : goal.returns-in-13
returns-in-13 c = named 13 c.args.kind c.in-13.is

pub returns-in-14 : goal.returns-in-14
returns-in-14 c = named 14 c.args.kind c.in-14.is

pub returns-in-15 : goal.returns-in-15
returns-in-15 c = named 15 c.args.kind c.in-15.is

pub returns-in-16 : goal.returns-in-16
returns-in-16 c = named 16 c.args.kind c.in-16.is

pub returns-in-17 : goal.returns-in-17
returns-in-17 c = named 17 c.args.kind c.in-17.is

pub returns-in-18 : goal.returns-in-18
returns-in-18 c = named 18 c.args.kind c.in-18.is

pub returns-in-19 : goal.returns-in-19
returns-in-19 c = named 19 c.args.kind c.in-19.is

pub returns-in-20 : goal.returns-in-20
returns-in-20 c = named 20 c.args.kind c.in-20.is

pub returns-in-21 : goal.returns-in-21
returns-in-21 c = named 21 c.args.kind c.in-21.is

pub returns-in-22 : goal.returns-in-22
returns-in-22 c = named 22 c.args.kind c.in-22.is

pub returns-in-23 : goal.returns-in-23
returns-in-23 c = named 23 c.args.kind c.in-23.is

pub returns-in-24 : goal.returns-in-24
returns-in-24 c = named 24 c.args.kind c.in-24.is

pub returns-in-25 : goal.returns-in-25
returns-in-25 c = named 25 c.args.kind c.in-25.is

pub returns-in-26 : goal.returns-in-26
returns-in-26 c = named 26 c.args.kind c.in-26.is

pub returns-in-27 : goal.returns-in-27
returns-in-27 c = named 27 c.args.kind c.in-27.is

pub returns-in-28 : goal.returns-in-28
returns-in-28 c = named 28 c.args.kind c.in-28.is

pub returns-in-29 : goal.returns-in-29
returns-in-29 c = named 29 c.args.kind c.in-29.is

pub returns-in-30 : goal.returns-in-30
returns-in-30 c = named 30 c.args.kind c.in-30.is

pub returns-in-31 : goal.returns-in-31
returns-in-31 c = named 31 c.args.kind c.in-31.is

pub returns-in-32 : goal.returns-in-32
returns-in-32 c = named 32 c.args.kind c.in-32.is

pub returns-in-33 : goal.returns-in-33
returns-in-33 c = named 33 c.args.kind c.in-33.is

pub returns-in-34 : goal.returns-in-34
returns-in-34 c = named 34 c.args.kind c.in-34.is

pub returns-in-35 : goal.returns-in-35
returns-in-35 c = named 35 c.args.kind c.in-35.is

pub returns-in-36 : goal.returns-in-36
returns-in-36 c = named 36 c.args.kind c.in-36.is

pub returns-in-37 : goal.returns-in-37
returns-in-37 c = named 37 c.args.kind c.in-37.is

pub returns-in-38 : goal.returns-in-38
returns-in-38 c = named 38 c.args.kind c.in-38.is

pub returns-in-39 : goal.returns-in-39
returns-in-39 c = named 39 c.args.kind c.in-39.is

pub returns-in_default : goal.returns-in_default
returns-in_default c =
    let last : c.args.kind ≡ 40 = grind (arith) in
    named 40 c.args.kind last
