-- How long the texts of parts are.
use Rattle.std.proofs.Common.{◌≡◌, ℕ, suc, ◌+◌, ◌-◌, ◌<◌, ◌≤◌, Bool, true, false, cond, List, [], ◌∷◌, ◌++◌, length, take, drop, replicate, sym, refl, ap, ◌∙◌, ap₂, append-nil, zero-add, arith, length-append, length-drop, length-take, length-take-le}
use lib.ListN.{length-replicate}
use Rattle.preamble.specs.declared.Header.{Header}
use Rattle.preamble.specs.Layout.{total, preamble_bytes}
use Rattle.preamble.proofs.Laws.{length-preamble}
use Rattle.body.specs.Body.{rest_length, late_byte, rest_sent}
use Rattle.body.proofs.Laws.{length-sent}
use Rattle.banner.specs.declared.Revision.TheVariants.{Msgr21}
use Rattle.aes.specs.Aes.{State}
use Rattle.gcm.specs.Gcm.{sealed_by}
use Rattle.gcm.proofs.Placing.{sealed-length}
use Rattle.secure.proofs.LastText.{length_of, rounds}
use Rattle.secure.specs.Layout.{next_nonce, padding, round_up, padded, padded_from, last_lengths, inlined, first_text, second_text, last_text, no_second_part, no_last_part, unless_none, later_texts, texts, parts_from, sealed_parts, sealed_frame, second_part, last_part, sealed_length, part_count}

pub length-inlined : (first : List ℕ) → length (inlined first) ≡ 48
length-inlined first =
    length-append (take 48 first) (replicate (48 - length first) 0)
    ∙ omega (arith, length-take 48 first, length-replicate {A = ℕ} (48 - length first) 0)

pub length-first-text : (h : Header) (first : List ℕ) → length (first_text h first) ≡ 80
unfolding first_text
length-first-text h first = length-append (preamble_bytes h) (inlined first) ∙ ap₂ ◌+◌ (length-preamble h) (length-inlined first)

pub length-padded : (bytes : List ℕ) → length (padded bytes) ≡ round_up (length bytes)
length-padded bytes =
    length-append bytes (replicate (padding (length bytes)) 0) ∙ ap (λ (k : ℕ). length bytes + k) (length-replicate (padding (length bytes)) 0)

pub length-segment : (n : ℕ) (bytes : List ℕ) → n ≤ length bytes → length (padded (take n bytes)) ≡ round_up n
length-segment n bytes h = length-padded (take n bytes) ∙ ap round_up (length-take-le n bytes h)

length_from : (ns : List ℕ) (late : ℕ) (bytes : List ℕ) → length bytes ≡ length_of ns → length (padded_from ns late bytes) ≡ rounds ns + 16
length_from [] late bytes e = refl
length_from (n ∷ ns) late bytes e =
    let i = length_from ns late (drop n bytes) (length-drop n bytes ∙ omega arith) in
    length-append (padded (take n bytes)) (padded_from ns late (drop n bytes)) ∙ omega (arith, length-segment n bytes (omega arith))

pub length-last-text : (h : Header) (late : ℕ) (bytes : List ℕ) → length bytes ≡ rest_length h → length (last_text h late bytes) + 16 ≡ last_part h
unfolding last_text
length-last-text h late bytes e = (let l = length_from (last_lengths h) late bytes (e ∙ omega arith) in omega arith)

pub length-rest-text : (h : Header) (first : List ℕ) → length first ≡ h.s1.len → length (second_text first) + 16 ≡ second_part h
length-rest-text h first e =
    ap (λ (k : ℕ). k + 16) (length-padded (drop 48 first) ∙ ap round_up (length-drop 48 first ∙ ap (λ (k : ℕ). k - 48) e))

-- sealed, each part is its tag longer
length-one : (w : List State) (nonce t : List ℕ) (b : Bool) (n : ℕ) → length t + 16 ≡ n → length (sealed_parts w (parts_from nonce (unless_none b t))) ≡ cond b 0 n
length-one w nonce t true n e = refl
length-one w nonce t false n e = ap length (append-nil (sealed_by w nonce t)) ∙ sealed-length w nonce t ∙ e

length_two : (w : List State) (nonce t u : List ℕ) (a b : Bool) (m n : ℕ) → length t + 16 ≡ m → length u + 16 ≡ n
    → length (sealed_parts w (parts_from nonce (unless_none a t ++ unless_none b u))) ≡ cond a 0 m + cond b 0 n
length_two w nonce t u true b m n e f = length-one w nonce u b n f ∙ sym (zero-add (cond b 0 n))
length_two w nonce t u false b m n e f =
    length-append (sealed_by w nonce t) (sealed_parts w (parts_from (next_nonce nonce) (unless_none b u)))
    ∙ ap₂ ◌+◌ (sealed-length w nonce t ∙ e) (length-one w (next_nonce nonce) u b n f)

pub length-frame : (w : List State) (nonce : List ℕ) (h : Header) (abort : Bool) (source : List ℕ) → length source ≡ total h
    → length (sealed_frame w nonce h abort source) ≡ sealed_length h
unfolding sealed_frame texts later_texts sealed_length
length-frame w nonce h abort source e =
    let first : List ℕ = take h.s1.len source in
    let others : List ℕ = rest_sent abort (drop h.s1.len source) in
    let late : ℕ = late_byte Msgr21 abort in
    let e₁ : length first ≡ h.s1.len = length-take-le h.s1.len source (omega arith) in
    let e₂ : length others ≡ rest_length h = length-sent abort (drop h.s1.len source) ∙ length-drop h.s1.len source ∙ omega arith in
    let later : List ℕ = sealed_parts w (parts_from (next_nonce nonce) (unless_none (no_second_part h) (second_text first) ++ unless_none (no_last_part h) (last_text h late others))) in
    let two : length later ≡ cond (no_second_part h) 0 (second_part h) + cond (no_last_part h) 0 (last_part h) =
    length_two w (next_nonce nonce) (second_text first) (last_text h late others) (no_second_part h) (no_last_part h) (second_part h) (last_part h) (length-rest-text h first e₁) (length-last-text h late others e₂) in
    length-append (sealed_by w nonce (first_text h first)) later
    ∙ ap₂ ◌+◌ (sealed-length w nonce (first_text h first) ∙ ap (λ (k : ℕ). k + 16) (length-first-text h first)) two
    ∙ omega arith

-- ---- how many parts there are

count-two : (a b : Bool) (x y : List ℕ) → suc (length (unless_none a x ++ unless_none b y)) ≡ 1 + cond a 0 1 + cond b 0 1
count-two true true x y = refl
count-two true false x y = refl
count-two false true x y = refl
count-two false false x y = refl

pub texts-count : (h : Header) (abort : Bool) (source : List ℕ) → length (texts h abort source) ≡ part_count h
unfolding texts later_texts part_count
texts-count h abort source = count-two (no_second_part h) (no_last_part h) _ _

pub some : (h : Header) → 1 ≤ part_count h
unfolding part_count
some h = omega arith

pub positive : (h : Header) → 0 < sealed_length h
unfolding sealed_length
positive h = omega arith
