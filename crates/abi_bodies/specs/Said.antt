-- The words of a body, by what they say: as the code makes them.
use Rattle.std.specs.Prelude.{List, [], ◌∷◌, ℕ, get_or}
use Rattle.refusal.specs.Refusals.{no_refusal}
use Rattle.fields.specs.Field.{numbers_from, bytes_from}
use Rattle.abi_bodies.specs.declared.Said.{Said}
use Rattle.abi_bodies.specs.Words.{span_words, list_words, saying}

abbrev pub of_kind : ℕ → List ℕ → Said
of_kind kind ns = record { kind = kind; numbers = ns; first = numbers_from 0 0; second = numbers_from 0 0; bytes = bytes_from 0 0; refusal = no_refusal }

-- the seven numbers of a list of seven
abbrev pub seven : List ℕ → List ℕ
seven ns = get_or ns 0 0 ∷ get_or ns 1 0 ∷ get_or ns 2 0 ∷ get_or ns 3 0 ∷ get_or ns 4 0 ∷ get_or ns 5 0 ∷ get_or ns 6 0 ∷ []

abbrev pub said_words : Said → List ℕ
said_words b = saying b.kind (seven b.numbers) (list_words b.first) (list_words b.second) (span_words b.bytes) b.refusal
