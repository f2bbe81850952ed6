-- Demands 1 and 2 of calls by C. Each exported call is a call of the functions behind it in ABI form, so what is claimed of those holds of it.
use Rattle.std.specs.Prelude.{◌≡◌, List, [], ◌∷◌, ◌++◌, true, false, ℕ, ◌+◌, ◌≤◌, ◌<◌, length}
use Rattle.buffer.specs.Le.{Bytes}
use Rattle.refusal.specs.declared.Numbers.{Numbers}
use Rattle.banner.specs.declared.Features.{Features}
use Rattle.refusal.specs.Refusals.{fine, contradiction}
use Rattle.banner.specs.Banner as banner
use Rattle.banner.specs.Banner.{judge_own, judge_features}
use Rattle.preamble.specs.Layout.{total}
use Rattle.builder.specs.Build.{banner_length}
use Rattle.stream.specs.declared.Event.TheVariants as event
use Rattle.stream.specs.Stream.{entry, trace_of}
use Rattle.receiver.specs.declared.Received as crc
use Rattle.std.specs.Prelude.{Some}
use Rattle.receiver.specs.Step.{started}
use Rattle.receiver.specs.Calls.{Call, Chained, taken_by, list_of}
use Rattle.receiver.specs.Every.{AnyCall, Handed, all_taken, all_reported, unfinished_by}
use Rattle.connection.specs.declared.Received.{Received}
use Rattle.connection.specs.Step.{ready_rule, agrees, Answered}
use Rattle.connection.specs.Every.{Sound}
use Rattle.ends.specs.Handed.{UpTo, ExactlyBehind, Through}
use Rattle.ends.specs.Trip.{Build, bytes_of, entries_of, store_after, following}
use Rattle.ends.specs.Ends.{Link, Fitting, sent_by, all_entries, store_after_all}
use Rattle.abi.specs.declared.Written.{Written}
use Rattle.abi.specs.Words.{revision_by_number, header_at}
use Rattle.abi_receiver.specs.Words.{abi_of, report_words}
use Rattle.abi_connection.specs.Words.{AbiConnection, connection_of, fits, next, AbiStarted, AbiReceived, handed, kind_in, ReceivedBy}
use Rattle.abi_builder.specs.Words.{AbiBuiltBanner, AbiBuiltFrame}
use Rattle.mahuixen.specs.Calls.{AbiPiece, AbiCall, taking, AbiChained}

-- ---- demand 1: one call

-- the call of the connection that it is, of which `Sound` holds: 26 and nothing else for fields that contradict each other, a store that became short, progress
pub record InnerCall (p : AbiConnection) (s piece : List ℕ) (n : ℕ) (r : AbiReceived) (s' : List ℕ) : Type 0 where
  pub received : Received
  pub number : n ≡ kind_in r
  pub abi : r ≡ handed (next p received.state) (report_words received.taken received.report)
  pub answered : Answered (connection_of p) s piece received s'
  pub sound : Sound (connection_of p) s piece received s'

-- it takes nothing, keeps the store, hands the state back, gives the refusal and answers its kind, 4
pub record AbiRefuses (p : AbiConnection) (why : Numbers) (s : List ℕ) (n : ℕ) (r : AbiReceived) (s' : List ℕ) : Type 0 where
  pub number : n ≡ 4
  pub state : r.state ≡ p
  pub report : r.report ≡ report_words 0 (Some (event.Refused why))
  pub store : s' ≡ s

pub record AbiSound (p : AbiConnection) (s piece : List ℕ) (n : ℕ) (r : AbiReceived) (s' : List ℕ) : Type 0 where
  -- a number beyond its field, or a mark that does not keep its rule: 26, and nothing is taken or changed
  pub beyond : fits p ≡ false → AbiRefuses p contradiction s n r s'
  pub unready : ready_rule (connection_of p) ≡ false → AbiRefuses p contradiction s n r s'
  pub inner : fits p ≡ true → ready_rule (connection_of p) ≡ true → InnerCall p s piece n r s'
  -- a refused stream stays refused: every later call, with any store and any piece
  pub stays : (why : Numbers) → fits p ≡ true → agrees (connection_of p) ≡ true → (t : ℕ) → r.report ≡ report_words t (Some (event.Refused why))
      → (s₂ piece₂ : List ℕ) (n₂ : ℕ) (r₂ : AbiReceived) (s₃ : List ℕ) → ReceivedBy r.state s₂ piece₂ n₂ r₂ s₃ → AbiRefuses r.state why s₂ n₂ r₂ s₃

-- ---- demand 1: bytes add up, over any calls from a start, each given the state that the last one handed back; with no switch, they are calls of the receiver

-- the words that a call was handed back are those of what the receiver answered, its state and its report, and the number that was answered is the report's kind
pub record OfCrc (n : ℕ) (r : AbiReceived) (c : crc.Received) : Type 0 where
  pub number : n ≡ kind_in r
  pub state : r.state.crc ≡ abi_of c.state
  pub report : r.report ≡ report_words c.taken c.report

pub record AbiAnyCall : Type 0 where
  pub lent : List ℕ
  pub piece : List ℕ
  pub number : ℕ
  pub received : AbiReceived
  pub store : List ℕ

abbrev pub AbiHanded : AbiConnection → List AbiAnyCall → Type 0
AbiHanded p [] = Unit {0}
AbiHanded p (c ∷ cs) = ReceivedBy p c.lent c.piece c.number c.received c.store × AbiHanded c.received.state cs

-- call by call, with the same stores and pieces
abbrev pub AnyOfCrc : List AbiAnyCall → List AnyCall → Type 0
AnyOfCrc [] [] = Unit {0}
AnyOfCrc [] (c ∷ cs) = ⊥
AnyOfCrc (p ∷ ps) [] = ⊥
AnyOfCrc (p ∷ ps) (c ∷ cs) = (p.lent ≡ c.lent) × (p.piece ≡ c.piece) × OfCrc p.number p.received c.received × (p.store ≡ c.store) × AnyOfCrc ps cs

pub record AbiAdds (own : Features) (ps : List AbiAnyCall) : Type 0 where
  pub calls : List AnyCall
  pub abi : AnyOfCrc ps calls
  pub handed : Handed (started own) calls
  pub adds : all_taken calls ≡ all_reported calls + unfinished_by 0 calls

pub record AbiDemand1 : Type 0 where
  pub sound : (p : AbiConnection) (s piece : List ℕ) (n : ℕ) (r : AbiReceived) (s' : List ℕ) → ReceivedBy p s piece n r s' → AbiSound p s piece n r s'
  pub adds : (own : Features) (n : ℕ) (p : AbiConnection) → AbiStarted own n p → (ps : List AbiAnyCall) → AbiHanded p ps → AbiAdds own ps

-- ---- demand 2

-- calls for pieces alone: no switch is tried
abbrev pub pieces : List AbiPiece → List AbiCall
pieces [] = []
pieces (c ∷ cs) = taking c ∷ pieces cs

-- call by call, with the same pieces and stores
abbrev pub PiecesOfCrc : List AbiPiece → List Call → Type 0
PiecesOfCrc [] [] = Unit {0}
PiecesOfCrc [] (c ∷ cs) = ⊥
PiecesOfCrc (p ∷ ps) [] = ⊥
PiecesOfCrc (p ∷ ps) (c ∷ cs) = (p.size ≡ c.size) × OfCrc p.number p.received c.received × (p.store ≡ c.store) × PiecesOfCrc ps cs

-- the calls of the receiver that they are, and what holds of the list of their reports
pub record AsCallsOf (own : Features) (stream store : List ℕ) (ps : List AbiPiece) (Holds : List Call → Type 0) : Type 0 where
  pub calls : List Call
  pub abi : PiecesOfCrc ps calls
  pub chained : Chained stream (started own) store 0 calls
  pub holds : Holds calls

-- a build by C that wrote something, as a refused one never does, from the words of a header; the source is what its type holds
pub record AbiAccepts (revision : ℕ) (buf : List ℕ) (queued : ℕ) (b : Build) : Type 0 where
  pub words : List ℕ
  pub header : b.header ≡ header_at 0 words
  pub built : Written
  pub promised : AbiBuiltFrame revision words b.abort b.source buf queued built b.buffer
  pub accepted : 0 < built.written
  pub written : built.written ≡ b.written
  pub source : Bytes b.source

-- builds, each behind what the ones before it queued, and a link from its beginning
abbrev pub AbiQueued : ℕ → List ℕ → ℕ → List Build → Type 0
AbiQueued revision buf queued [] = Unit {0}
AbiQueued revision buf queued (b ∷ bs) = AbiAccepts revision buf queued b × AbiQueued revision b.buffer (queued + b.written) bs

pub record AbiLinked (revision : ℕ) (l : Link) : Type 0 where
  pub banner : Written
  pub promised : AbiBuiltBanner l.features.supported l.features.required l.space l.queued banner l.buffer
  pub accepted : 0 < (banner).written
  pub written : (banner).written ≡ l.written
  pub builds : AbiQueued revision l.buffer (l.queued + l.written) l.builds

pub record AbiDemand2 : Type 0 where
  -- handed over exactly when the checks hold
  pub handed : (own : Features) (n : ℕ) (p : AbiConnection) → AbiStarted own n p
      → (front X store : List ℕ) (revision : ℕ) → UpTo (revision_by_number revision) (length front) (trace_of own front store).entries
      → (ps : List AbiPiece) → AbiChained (front ++ X) p store 0 (pieces ps)
      → AsCallsOf own (front ++ X) store ps
      (λ cs. Through own front X (revision_by_number revision) cs → ExactlyBehind own front X store (revision_by_number revision) (list_of (judge_own own.supported own.required) cs))
  -- what was built comes back
  pub trip : (own : Features) (n : ℕ) (p : AbiConnection) → AbiStarted own n p
      → (front store : List ℕ) (revision : ℕ) → UpTo (revision_by_number revision) (length front) (trace_of own front store).entries
      → (buf : List ℕ) (queued : ℕ) (b : Build) → AbiAccepts revision buf queued b → total b.header ≤ length store
      → (behind : List ℕ) (ps : List AbiPiece) → AbiChained (front ++ bytes_of queued b ++ behind) p store 0 (pieces ps)
      → AsCallsOf own (front ++ bytes_of queued b ++ behind) store ps
      (λ cs. length (front ++ bytes_of queued b) ≤ taken_by 0 cs
      → list_of (judge_own own.supported own.required) cs
      ≡ (trace_of own front store).entries
      ++ (entries_of (revision_by_number revision) (length front) (trace_of own front store).store b
      ++ following (revision_by_number revision) (length (front ++ bytes_of queued b)) behind (store_after b (trace_of own front store).store) (taken_by 0 cs)))
  -- our banner and any builds behind it are reported as they were built; the revision is the one that the two sides' features give
  pub ends : (own : Features) (n : ℕ) (p : AbiConnection) → AbiStarted own n p
      → (store : List ℕ) (revision : ℕ) (l : Link) → revision_by_number revision ≡ banner.revision_of own.supported l.features.supported → AbiLinked revision l
      → judge_own own.supported own.required ≡ fine
      → judge_features own.supported own.required l.features.supported l.features.required ≡ fine
      → Fitting (length store) l.builds
      → (behind : List ℕ) (ps : List AbiPiece) → AbiChained (sent_by l ++ behind) p store 0 (pieces ps)
      → AsCallsOf own (sent_by l ++ behind) store ps
      (λ cs. length (sent_by l) ≤ taken_by 0 cs
      → list_of (judge_own own.supported own.required) cs
      ≡ entry (event.Banner l.features (banner.revision_of own.supported l.features.supported)) banner_length store
      ∷ (all_entries (banner.revision_of own.supported l.features.supported) banner_length store l.builds
      ++ following (banner.revision_of own.supported l.features.supported) (length (sent_by l)) behind (store_after_all l.builds store) (taken_by 0 cs)))
