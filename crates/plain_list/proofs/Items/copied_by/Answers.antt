use Rattle.std.proofs.Common.{◌≡◌, ◌+◌, ◌<◌, ◌++◌, ◌∷◌, [], List, ℕ, length, take, get_or, refl}
use Rattle.std.proofs.lemmas.Fn.{says_at}
use Rattle.std.proofs.lemmas.List.{take_more}
use Rattle.plain_list.proofs.Items.copied_by.Goals as goal

-- one element more, which equals its original
grown : {X : Type 0} (xs ys zs : List X) (i : ℕ) (x y : X) → i < length xs → ys ≡ take i xs → x ≡ get_or xs i x → y ≡ x → zs ≡ ys ++ y ∷ [] → zs ≡ take (i + 1) xs
grown xs ys zs i x y within front at same more = let e = take_more xs i x within in cc

pub loop-item-preserved : goal.loop-item-preserved
loop-item-preserved g c =
    grown
    _
    _
    _
    _
    _
    _
    c.loop-item-test.true
    c.loop-item.invariant
    c.item-item.is
    (c.requires.copies _ _ (says_at g.F.Fn c.in_ok-copy.ensures refl))
    c.in_ok-push.ensures.items
