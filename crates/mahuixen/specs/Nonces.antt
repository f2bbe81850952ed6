-- No nonce twice (02, K11), of sealed builds by C from a switch by C on, refused ones among them.
use Rattle.std.specs.Prelude.{◌≡◌, ◌↔◌, List, [], ◌∷◌, ◌++◌, Bool, true, cond, ◌&&◌, ℕ, ◌<◌, eqb, length}
use Rattle.buffer.specs.Splice.{splice}
use Rattle.refusal.specs.declared.Refusal.TheVariants.{StateContradicts, SwitchRefused, NoncesSpent}
use Rattle.refusal.specs.Refusals.{fine, numbers_of}
use Rattle.std.specs.Prelude.{Ok}
use Rattle.aes.specs.Aes.{key_expansion}
use Rattle.secure.specs.Layout.{Part, nonces_of, sealed_parts, frame_parts, part_count}
use Rattle.sealed_builder.specs.declared.Sending.{Sending}
use Rattle.sealed_builder.specs.Build.{spent_of, judge_earlier}
use Rattle.sealed_builder.specs.Nonces.{Build, AllDifferent, left}
use Rattle.abi.specs.Words.{within, abi_refused, header_at, header_limits}
use Rattle.abi_connection.specs.Words.{AbiConnection, AbiSending, abi_sending, AbiSwitched, AbiSwitchedWith}
use Rattle.abi_sealed.specs.Words.{sending_of, sending_limits, AbiSealed, AbiBuiltSealed}

-- ---- a list of builds by C, each given the sending state that the last one handed back

-- what was asked, a header as its words, and what was handed back
pub record AbiBuild : Type 0 where
  pub header : List ℕ
  pub abort : Bool
  pub source : List ℕ
  pub buffer : List ℕ
  pub queued : ℕ
  pub sealed : AbiSealed

abbrev pub written_by : AbiBuild → ℕ
written_by b = b.sealed.answer.written

abbrev pub AbiMeets : AbiSending → AbiBuild → Type 0
AbiMeets x b = AbiBuiltSealed x.numbers x.key x.nonce b.header b.abort b.source b.buffer b.queued b.sealed

-- the key stays
abbrev pub sending_behind : AbiSending → AbiBuild → AbiSending
sending_behind x b = abi_sending b.sealed.numbers x.key b.sealed.nonce

abbrev pub AbiBuilds : AbiSending → List AbiBuild → Type 0
AbiBuilds x [] = Unit {0}
AbiBuilds x (b ∷ bs) = AbiMeets x b × AbiBuilds (sending_behind x b) bs

abbrev pub sending_after : AbiSending → List AbiBuild → AbiSending
sending_after x [] = x
sending_after x (b ∷ bs) = sending_after (sending_behind x b) bs

-- the sending state that words stand for
abbrev pub sending_in : AbiSending → Sending
sending_in x = sending_of x.numbers x.key x.nonce

-- the build of `build_sealed` that a build with this key is, where it wrote something, as a refused one never does
abbrev pub build_of : List ℕ → AbiBuild → Build
build_of key b = record {
  header = header_at 0 b.header;
  abort = b.abort;
  source = b.source;
  buffer = b.buffer;
  queued = b.queued;
  answer = record { built = Ok (written_by b); sending = sending_of b.sealed.numbers key b.sealed.nonce };
  after = b.sealed.buffer;
}

-- ---- the nonces that they used for sealing: those of the parts that a build has, where it wrote something

abbrev pub parts_of : AbiSending → AbiBuild → List Part
parts_of x b = frame_parts x.nonce (header_at 0 b.header) b.abort b.source

abbrev pub used_by : AbiSending → AbiBuild → List (List ℕ)
used_by x b = cond (eqb (written_by b) 0) [] (nonces_of (parts_of x b))

abbrev pub used : AbiSending → List AbiBuild → List (List ℕ)
used x [] = []
used x (b ∷ bs) = used_by x b ++ used (sending_behind x b) bs

-- a switch by C that was made
pub record AbiMade (key sending : List ℕ) (r : AbiSwitched) : Type 0 where
  pub state : AbiConnection
  pub receiving : List ℕ
  pub promised : AbiSwitchedWith state key receiving sending r
  pub number : r.number ≡ 0

-- ---- THE CLAIM

abbrev pub in_fields : AbiSending → AbiBuild → Bool
in_fields x b = within sending_limits 0 x.numbers && within header_limits 0 b.header

-- no word is beyond its field, nothing earlier in the order applies, and the frame needs more nonces than are left
pub record TooFew (x : AbiSending) (b : AbiBuild) : Type 0 where
  pub words : in_fields x b ≡ true
  pub earlier : judge_earlier (sending_in x) (header_at 0 b.header) b.abort (length b.source) (length b.buffer) b.queued ≡ fine
  pub few : left (sending_in x) < part_count (header_at 0 b.header)

-- what a build wrote behind the queued bytes are parts, sealed each with its own nonce, and the nonces used are theirs
pub record AbiSealedWith (x : AbiSending) (b : AbiBuild) : Type 0 where
  pub parts : List Part
  pub bytes : b.sealed.buffer ≡ splice b.buffer b.queued (sealed_parts (key_expansion x.key) parts)
  pub nonces : used_by x b ≡ nonces_of parts

pub record AbiNoNonceTwice : Type 0 where
  pub different : (key nonce : List ℕ) (r : AbiSwitched) → AbiMade key nonce r → (bs : List AbiBuild) → AbiBuilds r.sending bs → AllDifferent (used r.sending bs)
  -- from then on as many are spent as were used
  pub counted : (key nonce : List ℕ) (r : AbiSwitched) → AbiMade key nonce r → (bs : List AbiBuild) → AbiBuilds r.sending bs
      → spent_of (sending_in (sending_after r.sending bs)) ≡ length (used r.sending bs)
  -- they are those of the bytes that were written
  pub wrote : (x : AbiSending) (b : AbiBuild) → AbiMeets x b → 0 < written_by b → AbiSealedWith x b
  -- 18 is given exactly then
  pub eighteen : (x : AbiSending) (b : AbiBuild) → AbiMeets x b → (b.sealed.answer ≡ abi_refused (numbers_of NoncesSpent)) ↔ TooFew x b
  -- a refused build changes nothing and spends none
  pub unspent : (x : AbiSending) (b : AbiBuild) → AbiMeets x b → written_by b ≡ 0 → (sending_in (sending_behind x b) ≡ sending_in x) × (b.sealed.buffer ≡ b.buffer)
  -- nothing is built with what a refused try to switch hands back: 27, where no word of the header is beyond its field
  pub none : (p : AbiConnection) (key receiving sending : List ℕ) (r : AbiSwitched) → AbiSwitchedWith p key receiving sending r → (r.number ≡ 0 → ⊥)
      → (b : AbiBuild) → AbiMeets r.sending b
      → b.sealed.answer ≡ abi_refused (numbers_of (cond (within header_limits 0 b.header) SwitchRefused StateContradicts))
