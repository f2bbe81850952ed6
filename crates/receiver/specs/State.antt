-- What a receiver's state is between two calls: what its next bytes are, what a stage reads, and the rules behind refusal 26 (docs/STATE.md says them in words).
use Rattle.std.specs.Prelude.{List, Bool, true, not, cond, ◌&&◌, ◌||◌, ℕ, ◌-◌, drop, replicate, leb, ltb, eqb}
use Rattle.buffer.specs.Zeros.{all_zero}
use Rattle.refusal.specs.declared.Numbers.{Numbers}
use Rattle.refusal.specs.declared.Refusal.TheVariants as refusal
use Rattle.refusal.specs.Refusals.{is_fine, refusal_number, no_missing, is_no_refusal}
use Rattle.banner.specs.Banner.{is_no_features, is_msgr21, same_revision, judge_own, judge_features, revision_of, judge_length}
use Rattle.preamble.specs.Layout.{total, is_no_header}
use Rattle.preamble.specs.Judge.{judge_header}
use Rattle.body.specs.Body.{no_first_sum, epilogue_length}
use Rattle.receiver.specs.declared.Stage.{Stage}
use Rattle.receiver.specs.declared.Stage.TheVariants as stage
use Rattle.receiver.specs.declared.Place.{Place}
use Rattle.receiver.specs.declared.Place.TheVariants as place
use Rattle.receiver.specs.declared.Known.{Known}
use Rattle.receiver.specs.declared.State.{State}

-- ---- stages: four lists of ten, and all else by formulas over them

-- their order in a stream
abbrev pub rank : Stage → ℕ
rank stage.Magic = 0
rank stage.Length = 1
rank stage.Payload = 2
rank stage.Skip = 3
rank stage.Preamble = 4
rank stage.First = 5
rank stage.FirstSum = 6
rank stage.Rest = 7
rank stage.Epilogue = 8
rank stage.Refused = 9

-- the stage of a rank: 9, and any number above it, is refused
unfoldable pub stage_of : ℕ → Stage
stage_of n =
    cond (eqb n 0) stage.Magic
    (cond (eqb n 1) stage.Length
    (cond (eqb n 2) stage.Payload
    (cond (eqb n 3) stage.Skip
    (cond (eqb n 4) stage.Preamble
    (cond (eqb n 5) stage.First
    (cond (eqb n 6) stage.FirstSum
    (cond (eqb n 7) stage.Rest
    (cond (eqb n 8) stage.Epilogue stage.Refused))))))))

-- how many bytes a stage reads
abbrev pub size_of : Stage → Known → ℕ
size_of stage.Magic v = 8
size_of stage.Length v = 2
size_of stage.Payload v = 16
size_of stage.Skip v = v.payload - 16
size_of stage.Preamble v = 32
size_of stage.First v = v.header.s1.len
size_of stage.FirstSum v = 4
size_of stage.Rest v = total v.header
size_of stage.Epilogue v = epilogue_length v.revision v.header
size_of stage.Refused v = 0

-- where they go: into the block, into the store, or nowhere
abbrev pub place_of : Stage → Place
place_of stage.Magic = place.Block
place_of stage.Length = place.Block
place_of stage.Payload = place.Block
place_of stage.Skip = place.Nowhere
place_of stage.Preamble = place.Block
place_of stage.First = place.Store
place_of stage.FirstSum = place.Block
place_of stage.Rest = place.Store
place_of stage.Epilogue = place.Block
place_of stage.Refused = place.Nowhere

abbrev pub is_refused : Stage → Bool
is_refused k = eqb (rank k) 9

-- behind an accepted preamble
abbrev pub in_body : Stage → Bool
in_body k = ltb 4 (rank k) && ltb (rank k) 9

-- from the stage of rank n on, while nothing is refused
abbrev pub live_from : ℕ → Stage → Bool
live_from n k = leb n (rank k) && not (is_refused k)

-- the store that an unfinished frame needs
abbrev pub needed : Stage → Known → ℕ
needed k v = cond (in_body k) (total v.header) 0

-- a block of which no byte came
abbrev pub blank : List ℕ
blank = replicate 32 0

-- ---- the rules

-- refusals with three details
abbrev pub three_details : ℕ → Bool
three_details n = eqb n (refusal_number (refusal.PeerRequires no_missing)) || eqb n (refusal_number (refusal.PeerLacks no_missing))

-- a refusal that a receiver gives: 1 to 12, 24, or 16 at its start; only 3 and 4 have three details
abbrev pub given : Numbers → Bool
given n =
    ((leb (refusal_number refusal.Magic) n.number && leb n.number (refusal_number (refusal.LateStatus 0)))
    || (eqb n.number (refusal_number refusal.OwnFeatures) || eqb n.number (refusal_number (refusal.NonCanonical 0))))
    && (three_details n.number || (eqb n.second 0 && eqb n.third 0))

-- our own features are those of a start that was not refused, unless the refusal is 16
abbrev pub own_rule : Stage → Known → Bool
own_rule k v = cond (is_refused k && eqb v.refusal.number (refusal_number refusal.OwnFeatures)) true (is_fine (judge_own v.own.supported v.own.required))

-- the payload's length, from its last byte on
abbrev pub payload_rule : Stage → Known → Bool
payload_rule k v = cond (live_from 2 k) (is_fine (judge_length v.payload)) (eqb v.payload 0)

-- the peer's features, once they came, and behind the banner the revision that both sides' features give
abbrev pub peer_rule : Stage → Known → Bool
peer_rule k v = cond (live_from 3 k) true (is_no_features v.peer)

abbrev pub revision_rule : Stage → Known → Bool
revision_rule k v =
    cond (live_from 4 k)
    (is_fine (judge_features v.own.supported v.own.required v.peer.supported v.peer.required)
    && same_revision (revision_of v.own.supported v.peer.supported) v.revision)
    (not (is_msgr21 v.revision))

-- a header, from an accepted preamble to the frame's end
abbrev pub header_rule : Stage → Known → Bool
header_rule k v = cond (in_body k) (is_fine (judge_header v.header)) (is_no_header v.header)

-- segment 1 has its checksum behind it, where a stage is about either
abbrev pub has_first_sum : Known → Bool
has_first_sum v = not (no_first_sum v.revision v.header)

abbrev pub first_sum_rule : Stage → Known → Bool
first_sum_rule k v = cond (eqb (rank k) 5 || eqb (rank k) 6) (has_first_sum v) true

-- segment 1's checksum was there and held: in the stages behind it, to the frame's end
abbrev pub first_sum_held : Stage → Known → Bool
first_sum_held k v = (eqb (rank k) 7 || eqb (rank k) 8) && has_first_sum v

abbrev pub first_rule : Stage → Known → Bool
first_rule k v = cond v.first (first_sum_held k v) (not (first_sum_held k v))

abbrev pub refusal_rule : Stage → Known → Bool
refusal_rule k v = cond (is_refused k) (given v.refusal) (is_no_refusal v.refusal)

abbrev pub rules : Stage → Known → Bool
rules k v =
    ((own_rule k v && payload_rule k v) && (peer_rule k v && revision_rule k v)) && ((header_rule k v && (first_sum_rule k v && first_rule k v)) && refusal_rule k v)

-- how many bytes of the stage came at least: where segment 1 has its checksum, the other segments come behind it
abbrev pub least_of : Stage → Known → ℕ
least_of k v = cond (eqb (rank k) 7 && has_first_sum v) v.header.s1.len 0

-- fewer came than the stage reads
abbrev pub count_rule : Stage → Known → ℕ → Bool
count_rule k v got = cond (is_refused k) (eqb got 0) (leb (least_of k v) got && ltb got (size_of k v))

-- the block holds those that came, where they go there, and zeros behind them
abbrev pub in_block : Place → ℕ → ℕ
in_block place.Block got = got
in_block place.Store got = 0
in_block place.Nowhere got = 0

abbrev pub block_rule : Stage → ℕ → List ℕ → Bool
block_rule k got block = all_zero (drop (in_block (place_of k) got) block)

-- A STATE AGREES WITH ITSELF where all rules hold; 26 is for any other
unfoldable pub agrees_at : Stage → ℕ → List ℕ → Known → Bool
agrees_at k got block v = (rules k v && count_rule k v got) && block_rule k got block

abbrev pub agrees : State → Bool
agrees st = agrees_at st.position.stage st.position.got st.position.block st.known
