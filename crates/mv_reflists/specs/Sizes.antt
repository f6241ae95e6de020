-- The references of a picture, by how many stand in each part of them.
use Rattle.std.specs.Prelude.{ℕ, ◌+◌, List, ◌++◌, replicate}
use Rattle.mv_pictures.specs.Terms.{Tag, before, after, long, inter_zero, inter_one}
use Rattle.mv_reflists.specs.declared.sizes.Sizes.{Sizes}

-- the part of each reference, in the order in which lists count them
unfoldable pub tags : Sizes → List Tag
tags sizes =
    replicate sizes.before before
    ++ replicate sizes.after after
    ++ replicate sizes.long long
    ++ replicate sizes.zero inter_zero
    ++ replicate sizes.one inter_one

-- NumPicTotalCurr (F.7.4.7.2)
abbrev pub total : Sizes → ℕ
total sizes = sizes.before + sizes.after + sizes.long + sizes.zero + sizes.one
