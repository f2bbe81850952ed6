-- What a receiver of sealed frames is between two calls: which part its next bytes are of, what a part reads, and the rules behind refusal 26 (docs/STATE.md says them in words).
use Rattle.std.specs.Prelude.{ℕ, ◌+◌, ◌%◌, ◌^◌, Bool, true, false, cond, not, ◌&&◌, ◌||◌, List, drop, replicate, ◌==◌, nat_le, nat_lt}
use Rattle.refusal.specs.declared.Numbers.{Numbers}
use Rattle.refusal.specs.declared.Refusal.TheVariants as refusal
use Rattle.refusal.specs.Refusals.{is_fine, refusal_number, is_no_refusal}
use Rattle.preamble.specs.declared.Header.{Header}
use Rattle.preamble.specs.Judge.{judge_header}
use Rattle.preamble.specs.Layout.{is_no_header}
use Rattle.secure.specs.Layout.{all_nonces, next_nonce, inline_length, first_length, no_second_part, second_part_length, last_part_length}
use Rattle.buffer.specs.Zeros.{all_zero}
use Rattle.secure.specs.Layout as layout
use Rattle.sealed_receiver.specs.declared.Stage.{Stage}
use Rattle.sealed_receiver.specs.declared.Stage.TheVariants as stage
use Rattle.sealed_receiver.specs.declared.Receiving.{Receiving}
use Rattle.sealed_receiver.specs.declared.Known.{Known}
use Rattle.sealed_receiver.specs.declared.State.{State}

-- ---- stages

abbrev pub is_first : Stage → Bool
is_first stage.First = true
is_first stage.Second = false
is_first stage.Last = false
is_first stage.Refused = false

abbrev pub is_refused : Stage → Bool
is_refused stage.First = false
is_refused stage.Second = false
is_refused stage.Last = false
is_refused stage.Refused = true

-- how many bytes a part has, with its tag; none where the frame has no such part
abbrev pub size_of : Stage → Header → ℕ
size_of stage.First h = first_length
size_of stage.Second h = second_part_length h
size_of stage.Last h = last_part_length h
size_of stage.Refused h = 0

-- where they go in the store: behind the opened segment bytes. The first part's go into the block
abbrev pub place_of : Stage → Header → ℕ
place_of stage.First h = 0
place_of stage.Second h = inline_length
place_of stage.Last h = h.s1.len
place_of stage.Refused h = 0

-- behind an accepted preamble
abbrev pub in_frame : Stage → Bool
in_frame k = not (is_first k || is_refused k)

-- the store that an unfinished frame needs
abbrev pub needed : Stage → Header → ℕ
needed k h = cond (in_frame k) (layout.needed h) 0

-- ---- nonces

-- how many parts were opened: one number more than 64 bits can say, for all nonces
abbrev pub opened_of : Receiving → ℕ
opened_of r = cond r.exhausted all_nonces r.opened

abbrev pub receiving_state : List ℕ → List ℕ → ℕ → Bool → Receiving
receiving_state key nonce opened exhausted = record { key = key; nonce = nonce; opened = opened; exhausted = exhausted }

-- from a switch on
unfoldable pub fresh_receiving : List ℕ → List ℕ → Receiving
fresh_receiving key nonce = receiving_state key nonce 0 false

-- behind one part more, of those that were left
unfoldable pub opened_more : Receiving → Receiving
opened_more r = receiving_state r.key (next_nonce r.nonce) ((r.opened + 1) % 2 ^ 64) (nat_le all_nonces (r.opened + 1))

-- once it is refused, a receiver keeps no key
unfoldable pub no_receiving : Receiving
no_receiving = receiving_state (replicate 16 0) (replicate 12 0) 0 false

-- ---- the rules

abbrev pub is_no_receiving : Receiving → Bool
is_no_receiving r = (all_zero r.key && all_zero r.nonce) && (r.opened == 0 && not r.exhausted)

abbrev pub receiving_rule : Stage → Receiving → Bool
receiving_rule k r = cond (is_refused k) (is_no_receiving r) (not r.exhausted || r.opened == 0)

-- the parts of the frame under way before this one, each of which was opened with a nonce of its own
abbrev pub opened_before : Stage → Header → ℕ
opened_before stage.First h = 0
opened_before stage.Second h = 1
opened_before stage.Last h = 1 + cond (no_second_part h) 0 1
opened_before stage.Refused h = 0

abbrev pub opened_rule : Stage → Header → Receiving → Bool
opened_rule k h r = nat_le (opened_before k h) (opened_of r)

-- a header, from an accepted preamble to the frame's end
abbrev pub header_rule : Stage → Header → Bool
header_rule k h = cond (in_frame k) (is_fine (judge_header h)) (is_no_header h)

-- a refusal that a receiver of sealed frames gives: 5 to 10, 12, and 17 to 19, with one detail
abbrev pub given : Numbers → Bool
given n =
    ((nat_le (refusal_number refusal.PreambleChecksum) n.number && nat_le n.number (refusal_number (refusal.StoreShort 0)))
    || (n.number == refusal_number (refusal.LateStatus 0)
    || (nat_le (refusal_number refusal.AuthTag) n.number && nat_le n.number (refusal_number refusal.Padding))))
    && (n.second == 0 && n.third == 0)

abbrev pub refusal_rule : Stage → Numbers → Bool
refusal_rule k n = cond (is_refused k) (given n) (is_no_refusal n)

-- fewer bytes came than the part has, and so the frame has that part
abbrev pub count_rule : Stage → Header → ℕ → Bool
count_rule k h got = cond (is_refused k) (got == 0) (nat_lt got (size_of k h))

-- the block holds those of the first part, and zeros behind them
abbrev pub in_block : Stage → ℕ → ℕ
in_block k got = cond (is_first k) got 0

abbrev pub block_rule : Stage → ℕ → List ℕ → Bool
block_rule k got block = all_zero (drop (in_block k got) block)

abbrev pub rules : Stage → Known → Bool
rules k v = (receiving_rule k v.receiving && opened_rule k v.header v.receiving) && (header_rule k v.header && refusal_rule k v.refusal)

-- A STATE AGREES WITH ITSELF where all rules hold; 26 is for any other
unfoldable pub agrees_at : Stage → ℕ → List ℕ → Known → Bool
agrees_at k got block v = (rules k v && count_rule k v.header got) && block_rule k got block

abbrev pub agrees : State → Bool
agrees st = agrees_at st.position.stage st.position.got st.position.block st.known
