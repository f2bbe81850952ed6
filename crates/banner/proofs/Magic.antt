-- That bytes begin with the magic, whose bytes are not 0, is said byte by byte and at once.
use mathlib.Core.Path.{◌≡◌, refl, ap, sym, ◌∙◌}
use mathlib.Core.Bool.{false, ◌&&◌}
use mathlib.Core.List.{List, [], ◌∷◌, map}
use Prim.Native.Nat.{ℕ, suc}
use lib.Dec.{eqb}
use lib.ListN.{get_or, take, length}
use lib.Pointwise.{pointwise}
use native.Mathlib.Omega.{arith}
use Rattle.std.proofs.lemmas.Bool.Decides.{nat_tests}
use Rattle.std.specs.List.{starts_with}
use Rattle.banner.specs.Banner.{magic, same_from}

-- a byte more in front
later : (i : ℕ) (ms : List ℕ) (b : ℕ) (bs : List ℕ) → same_from (suc i) ms (b ∷ bs) ≡ same_from i ms bs
later i [] b bs = refl
later i (m ∷ ms) b bs = ap (λ t. eqb (get_or bs i 0) m && t) (later (suc i) ms b bs)

turned : (a b : ℕ) → eqb a b ≡ eqb b a
turned a b = grind (arith, nat_tests)

never : (k : ℕ) → eqb (suc k) 0 ≡ false
never k = grind (arith, nat_tests)

-- bytes of which none is 0 do not stand past an end
begins : (ks bs : List ℕ) → pointwise eqb (map suc ks) (take (length (map suc ks)) bs) ≡ same_from 0 (map suc ks) bs
begins [] bs = refl
begins (k ∷ ks) [] = ap (λ t. t && same_from 1 (map suc ks) []) (sym (turned 0 (suc k) ∙ never k))
begins (k ∷ ks) (b ∷ bs) =
    ap (λ t. eqb (suc k) b && t) (begins ks bs ∙ sym (later 0 (map suc ks) b bs)) ∙ ap (λ t. t && same_from 1 (map suc ks) (b ∷ bs)) (turned (suc k) b)

pub magic-starts : (bs : List ℕ) → starts_with eqb bs magic ≡ same_from 0 magic bs
magic-starts bs = begins (98 ∷ 100 ∷ 111 ∷ 103 ∷ 31 ∷ 117 ∷ 49 ∷ 9 ∷ []) bs
