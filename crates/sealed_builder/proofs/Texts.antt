-- The texts of parts as code lays them down.
use Rattle.std.proofs.Common.{◌≡◌, ℕ, ◌-◌, ◌≤◌, Bool, List, ◌++◌, length, take, drop, replicate, sym, ap, ◌∙◌, ap₂, arith, length-take, length-take-le}
use Rattle.buffer.specs.Splice.{replace_front}
use Rattle.buffer.proofs.Parts.{rest, back, next}
use Rattle.body.specs.Body.{rest_sent}
use Rattle.body.proofs.Laws.{take-sent, drop-sent, length-sent}
use Rattle.secure.proofs.Lengths.{length-padded}
use Rattle.secure.specs.Layout.{round_up, padded, inlined}

-- the front of segment 1 that goes into the inline buffer, and the zeros behind it
pub front-short : (first xs : List ℕ) → xs ≡ take 48 first → length xs ≤ 48
front-short first xs e = omega (arith, ap length e ∙ length-take 48 first)

pub inline-is : (first xs : List ℕ) → xs ≡ take 48 first → xs ++ replicate (48 - length xs) 0 ≡ inlined first
inline-is first xs e =
    let n : 48 - length xs ≡ 48 - length first = omega (arith, ap length e ∙ length-take 48 first) in
    ap₂ (λ (l : List ℕ) (k : ℕ). l ++ replicate k 0) e n

-- a segment, padded, and what a writer lent the part behind it puts there
pub padded-next : (abort : Bool) (n e : ℕ) (bytes xs tail out l₁ zs : List ℕ) (behind : List ℕ → List ℕ)
    → n ≤ length bytes → e ≡ round_up n → xs ≡ take n bytes → tail ≡ drop n bytes
    → l₁ ≡ replace_front (padded (rest_sent abort xs)) out → zs ≡ replace_front (behind (rest_sent abort tail)) (rest l₁ e)
    → back l₁ e zs ≡ replace_front (padded (take n (rest_sent abort bytes)) ++ behind (drop n (rest_sent abort bytes))) out
padded-next abort n e bytes xs tail out l₁ zs behind h ee ex et e₁ e₂ =
    let s : rest_sent abort xs ≡ take n (rest_sent abort bytes) = ap (rest_sent abort) ex ∙ sym (take-sent abort n bytes) in
    let t : rest_sent abort tail ≡ drop n (rest_sent abort bytes) = ap (rest_sent abort) et ∙ sym (drop-sent abort n bytes) in
    let en : length (padded (rest_sent abort xs)) ≡ e =
    length-padded (rest_sent abort xs) ∙ ap round_up (length-sent abort xs ∙ ap length ex ∙ length-take-le n bytes h) ∙ sym ee in
    next out l₁ (padded (rest_sent abort xs)) (behind (rest_sent abort tail)) zs e en e₁ e₂
    ∙ ap₂ (λ (x y : List ℕ). replace_front (padded x ++ behind y) out) s t
