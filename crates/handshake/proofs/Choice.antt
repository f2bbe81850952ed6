-- The mode that is picked, in the words of the iterators.
use Rattle.std.proofs.Common.{◌≡◌, refl, List, [], ◌∷◌, ℕ, nat_eq}
use Rattle.std.specs.List.{find, list_any}
use Rattle.std.specs.Cmp.{nat_eq_equiv}
use Rattle.handshake.specs.Pick.{on_list, pick_of}

on-any : (x : ℕ) (l : List ℕ) → list_any (λ y. nat_eq y x) l ≡ on_list x l
unfolding on_list
on-any x [] = refl
on-any x (y ∷ ys) = rw (on-any x ys, nat_eq_equiv.symm y x)

pub find-pick : (p l : List ℕ) → find (λ x. list_any (λ y. nat_eq y x) l) p ≡ pick_of p l
unfolding pick_of
find-pick [] l = refl
find-pick (x ∷ xs) l = rw (on-any x l, find-pick xs l)
