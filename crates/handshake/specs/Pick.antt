-- The first of the client's preferred modes that is on the server's own list, or none (02, K7).
use Rattle.std.specs.Prelude.{Option, Some, None, Bool, false, cond, ◌||◌, List, [], ◌∷◌, ℕ, eqb}

unfoldable pub on_list : ℕ → List ℕ → Bool
on_list x [] = false
on_list x (y ∷ ys) = eqb x y || on_list x ys

unfoldable pub pick_of : List ℕ → List ℕ → Option ℕ
pick_of [] allowed = None
pick_of (x ∷ xs) allowed = cond (on_list x allowed) (Some x) (pick_of xs allowed)
