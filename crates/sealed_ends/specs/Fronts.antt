-- Where a sealed frame begins in a stream (02, K4): behind a banner and crc frames, the switch, and sealed frames.
use Rattle.std.specs.Prelude.{List, [], ◌∷◌, ◌++◌, ℕ, ◌+◌, ◌<◌, length}
use Rattle.banner.specs.declared.Features.{Features}
use Rattle.banner.specs.declared.Revision.{Revision}
use Rattle.stream.specs.declared.Event.{Event}
use Rattle.stream.specs.Events.{role_of, of_frame_end}
use Rattle.stream.specs.Stream.{Entry, Trace, trace_of}
use Rattle.secure.specs.Layout.{nonce_after, part_count}
use Rattle.secure.specs.Reading.{sealed_trace}
use Rattle.connection.specs.Switched.{Switch, behind, trace_with, frames_in}
use Rattle.ends.specs.Handed.{FramesUpTo, UpTo}

-- how many parts frames and drops had, each with a nonce of its own
abbrev pub parts_of : Event → ℕ
parts_of e = of_frame_end part_count (role_of e)

abbrev pub parts_in : List Entry → ℕ
parts_in [] = 0
parts_in (e ∷ es) = parts_of e.event + parts_in es

-- the bytes up to and including the frame behind which the switch is made, the key, the nonce of the peer's first part, and the bytes of sealed frames behind it
pub record Front : Type 0 where
  pub crc : List ℕ
  pub key : List ℕ
  pub nonce : List ℕ
  pub sealed : List ℕ

abbrev pub bytes_in : Front → List ℕ
bytes_in F = F.crc ++ F.sealed

-- what the definitions have for them, from a store on
abbrev pub crc_in : Features → List ℕ → Front → Trace
crc_in own store F = trace_of own F.crc store

abbrev pub sealed_in : Features → List ℕ → Front → Trace
sealed_in own store F = sealed_trace F.key F.nonce 0 (length F.crc) F.sealed (crc_in own store F).store

abbrev pub switch_in : Features → List ℕ → Front → Switch
switch_in own store F = behind (frames_in (crc_in own store F).entries) F.key F.nonce

abbrev pub trace_in : Features → List ℕ → Front → Trace
trace_in own store F = trace_with (switch_in own store F) own (bytes_in F) store

-- behind them: how many parts were sealed, and the nonce of the next one
abbrev pub spent_in : Features → List ℕ → Front → ℕ
spent_in own store F = parts_in (sealed_in own store F).entries

abbrev pub next_in : Features → List ℕ → Front → List ℕ
next_in own store F = nonce_after (spent_in own store F) F.nonce

-- a sealed frame begins at their end: a banner and frames, the last one before the switch, and behind it sealed frames and drops
pub record Begins (own : Features) (store : List ℕ) (revision : Revision) (F : Front) : Type 0 where
  pub crc : UpTo revision (length F.crc) (crc_in own store F).entries
  pub some : 0 < frames_in (crc_in own store F).entries
  pub sealed : FramesUpTo (length (bytes_in F)) (length F.crc) (sealed_in own store F).entries
