-- The receiver gathers the bytes of a stage (Gathers).
use Prim.Native.Nat.{ℕ, ◌+◌}
use mathlib.Core.List.{List, [], ◌++◌}
use mathlib.Core.Path.{◌≡◌, refl}
use lib.ListN.{length}
use Rattle.receiver.specs.declared.State.{State}
use Rattle.receiver.specs.declared.Place.{Place}
use Rattle.receiver.specs.declared.Place.TheVariants as place
use Rattle.receiver.specs.State.{place_of}
use Rattle.receiver.specs.Step.{block_with, store_with, absorbed, stored, reached, size}
use Rattle.receiver.proofs.Scan.{bare}
use Rattle.buffer.proofs.Sets.{sets-append}
use Rattle.receiver.proofs.Gathers.{Gathering, got-append}

block-append : (p : Place) (got : ℕ) (b xs ys : List ℕ) → block_with p (got + length xs) (block_with p got b xs) ys ≡ block_with p got b (xs ++ ys)
block-append place.Block got b xs ys = sets-append b got xs ys
block-append place.Store got b xs ys = refl
block-append place.Nowhere got b xs ys = refl

pub store-append : (p : Place) (got : ℕ) (s xs ys : List ℕ) → store_with p (got + length xs) (store_with p got s xs) ys ≡ store_with p got s (xs ++ ys)
store-append place.Block got s xs ys = refl
store-append place.Store got s xs ys = sets-append s got xs ys
store-append place.Nowhere got s xs ys = refl

pub store-none : (p : Place) (got : ℕ) (s : List ℕ) → store_with p got s [] ≡ s
store-none place.Block got s = refl
store-none place.Store got s = refl
store-none place.Nowhere got s = refl

pub absorbed-twice : (st : State) (xs ys : List ℕ) → absorbed (absorbed st xs) ys ≡ absorbed st (xs ++ ys)
absorbed-twice st xs ys =
    let p = st.position in
    rw (got-append p.got xs ys, block-append (place_of p.stage) p.got p.block xs ys)

abbrev pub stages : Gathering
stages = record {
  State = State;
  got = λ st. st.position.got;
  size = size;
  absorbed = absorbed;
  stored = stored;
  reached = λ st s t. bare (reached st s t);
  silent = λ st s. refl;
  got-absorbed = λ st xs. refl;
  size-absorbed = λ st xs. refl;
  absorbed-append = absorbed-twice;
  stored-append = λ st. store-append (place_of st.position.stage) st.position.got;
  stored-none = λ st. store-none (place_of st.position.stage) st.position.got;
}
