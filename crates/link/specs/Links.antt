-- THE CLAIM: whatever file is read, the reads write its text.
use Rattle.std.specs.Prelude.{◌≡◌, List, [], ◌∷◌, ◌++◌, ℕ, ◌+◌, ◌*◌, ◌≤◌, length, take, drop}
use Rattle.buffer.specs.Le.{Bytes}
use Rattle.text.specs.Page.{Page}
use Rattle.link.specs.declared.Link.{Link}
use Rattle.link.specs.File.{count_of, length_of, link_text}
use Rattle.link.specs.Reads.{begun, wanted_of, ReadOn}

-- a read: the text that it was lent, what it handed back, and the store and the text as it left them
pub record Read : Type 0 where
  pub lent : Page
  pub link : Link
  pub store : List ℕ
  pub text : Page

-- each read meets the promise of `read`, on the bytes of the file that the link wants next, as far as they are there, with a text of 65,536 bytes or more
abbrev pub Reading : List ℕ → Link → List ℕ → ℕ → List Read → Type 0
Reading file l s t [] = Unit {0}
Reading file l s t (r ∷ rs) =
    ReadOn l s (take (wanted_of l) (drop t file)) r.lent r.link r.store r.text
    × (65536 ≤ length r.lent.bytes)
    × Reading file r.link r.store (t + wanted_of l) rs

abbrev pub link_by : Link → List Read → Link
link_by l [] = l
link_by l (r ∷ rs) = link_by r.link rs

-- what is written: the front of each text, one behind the other
abbrev pub written_by : List Read → List ℕ
written_by [] = []
written_by (r ∷ rs) = take r.text.at r.text.bytes ++ written_by rs

-- how many bytes are asked for
abbrev pub asked_by : Link → List Read → ℕ
asked_by l [] = 0
asked_by l (r ∷ rs) = wanted_of l + asked_by r.link rs

pub record Checked (file store : List ℕ) (rs : List Read) : Type 0 where
  -- once the link wants no more bytes, and so the program stops, it is the text of the file
  pub text : wanted_of (link_by begun rs) ≡ 0 → written_by rs ≡ link_text file store
  -- bytes behind the last body are not read
  pub within : asked_by begun rs ≤ 2 + (4 * count_of file + length_of file)

unfoldable pub EveryLink : Type 0
EveryLink = (file store : List ℕ) (rs : List Read) → Bytes file → Reading file begun store 0 rs → Checked file store rs
