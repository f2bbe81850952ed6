-- The text of a last part: padded segments, as many as there are, and the epilogue behind them, by their places.
use Rattle.std.proofs.Common.{◌≡◌, ℕ, ◌+◌, ◌-◌, ◌≤◌, Bool, ◌&&◌, List, [], ◌∷◌, ◌++◌, length, get_or, take, drop, sym, refl, ap, ◌∙◌, ap₂, add-zero, arith, length-append, length-take, get_or-drop, take-take, drop-drop}
use Rattle.buffer.specs.Zeros.{all_zero}
use Rattle.buffer.proofs.Parts.{drop-take}
use Rattle.buffer.proofs.Zeros.{zeros-append}
use Rattle.secure.specs.Layout.{round_up}
use Rattle.secure.specs.Reading.{unpadded, padding_of, late_byte_in}

-- where the epilogue stands, behind segments of these lengths from a place on
abbrev pub behind_all : ℕ → List ℕ → ℕ
behind_all at [] = at
behind_all at (n ∷ ns) = behind_all (at + round_up n) ns

pub late-at : (ns : List ℕ) (at : ℕ) (text : List ℕ) → late_byte_in ns (drop at text) ≡ get_or text (behind_all at ns) 0
late-at [] at text = get_or-drop at text 0 0 ∙ ap (λ (k : ℕ). get_or text k 0) (add-zero at)
late-at (n ∷ ns) at text = ap (late_byte_in ns) (drop-drop (round_up n) at text) ∙ late-at ns (at + round_up n) text

-- zeros behind each segment, and behind the late byte
abbrev pub all_padded : ℕ → List ℕ → List ℕ → Bool
all_padded at [] text = all_zero (drop (at + 1) text)
all_padded at (n ∷ ns) text = all_zero (drop n (take (round_up n) (drop at text))) && all_padded (at + round_up n) ns text

pub padded-at : (ns : List ℕ) (at : ℕ) (text : List ℕ) → all_zero (padding_of ns (drop at text)) ≡ all_padded at ns text
padded-at [] at text = ap all_zero (drop-drop 1 at text)
padded-at (n ∷ ns) at text =
    let pads : List ℕ = drop n (take (round_up n) (drop at text)) in
    zeros-append pads (padding_of ns (drop (round_up n) (drop at text)))
    ∙ ap (λ (b : Bool). all_zero pads && b)
    (ap (λ (t : List ℕ). all_zero (padding_of ns t)) (drop-drop (round_up n) at text) ∙ padded-at ns (at + round_up n) text)

-- the segments one behind the other
abbrev pub segments_at : ℕ → List ℕ → List ℕ → List ℕ
segments_at at [] text = []
segments_at at (n ∷ ns) text = take n (drop at text) ++ segments_at (at + round_up n) ns text

pub unpadded-at : (ns : List ℕ) (at : ℕ) (text : List ℕ) → unpadded ns (drop at text) ≡ segments_at at ns text
unpadded-at [] at text = refl
unpadded-at (n ∷ ns) at text =
    ap (λ (t : List ℕ). take n (drop at text) ++ t) (ap (unpadded ns) (drop-drop (round_up n) at text) ∙ unpadded-at ns (at + round_up n) text)

abbrev pub length_of : List ℕ → ℕ
length_of [] = 0
length_of (n ∷ ns) = n + length_of ns

pub unpadded-short : (ns text : List ℕ) → length (unpadded ns text) ≤ length_of ns
unpadded-short [] text = omega arith
unpadded-short (n ∷ ns) text =
    let ih = unpadded-short ns (drop (round_up n) text) in
    omega (arith, length-append (take n text) (unpadded ns (drop (round_up n) text)), length-take n text, ih)

-- they are in the text's front
abbrev pub rounds : List ℕ → ℕ
rounds [] = 0
rounds (n ∷ ns) = round_up n + rounds ns

pub unpadded-front : (ns : List ℕ) (m : ℕ) (l : List ℕ) → rounds ns ≤ m → unpadded ns (take m l) ≡ unpadded ns l
unpadded-front [] m l h = refl
unpadded-front (n ∷ ns) m l h =
    let r : ℕ = round_up n in
    let e : r + (m - r) ≡ m = omega arith in
    ap₂ (λ (x y : List ℕ). x ++ y) (take-take n m l (omega arith))
    (ap (unpadded ns) (ap (λ (k : ℕ). drop r (take k l)) (sym e) ∙ drop-take r (m - r) l) ∙ unpadded-front ns (m - r) (drop r l) (omega arith))
