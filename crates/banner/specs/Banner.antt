-- The banner (000, "Banner"; 01, "Banner" and refusals 1 to 4 and 16).
use Rattle.std.specs.Prelude.{List, [], ◌∷◌, ◌++◌, Bool, true, false, not, cond, ◌&&◌, ℕ, suc, ◌%◌, get_or, leb, ltb, eqb}
use Rattle.buffer.specs.Le.{le, number_at}
use Rattle.refusal.specs.declared.Missing.{Missing}
use Rattle.refusal.specs.declared.Refusal.{Refusal}
use Rattle.refusal.specs.declared.Refusal.TheVariants as refusal
use Rattle.refusal.specs.Refusals.{Judged, first_of, unless}
use Rattle.banner.specs.declared.Features.{Features}
use Rattle.banner.specs.declared.Revision.{Revision}
use Rattle.banner.specs.declared.Revision.TheVariants.{Msgr20, Msgr21}
use Rattle.banner.specs.Bits.{missing, lowest_bit, bit_count}

-- ---- bytes

-- "ceph v2" and a line feed
abbrev pub magic : List ℕ
magic = 0x63 ∷ 0x65 ∷ 0x70 ∷ 0x68 ∷ 0x20 ∷ 0x76 ∷ 0x32 ∷ 0x0A ∷ []

-- the payload that we send: supported and required features
abbrev pub payload_length : ℕ
payload_length = 16

abbrev pub banner_bytes : ℕ → ℕ → List ℕ
banner_bytes supported required = magic ++ le 2 payload_length ++ le 8 supported ++ le 8 required

-- ---- features

-- those of a side that is not known yet
abbrev pub no_features : Features
no_features = record { supported = 0; required = 0 }

abbrev pub is_no_features : Features → Bool
is_no_features f = eqb f.supported 0 && eqb f.required 0

-- own features: no bit but bit 0, and none required that is not supported
abbrev pub judge_own : ℕ → ℕ → Judged
judge_own supported required = unless (ltb supported 2 && ltb required 2 && eqb (missing 64 required supported) 0) refusal.OwnFeatures

-- bits that one side requires and the other does not support: they, the lowest one's number, how many
abbrev pub missing_of : ℕ → Missing
missing_of bits = record { bits = bits; lowest = lowest_bit 64 bits; count = bit_count 64 bits }

abbrev pub judge_missing : (Missing → Refusal) → ℕ → Judged
judge_missing why bits = unless (eqb bits 0) (why (missing_of bits))

unfoldable pub judge_features : ℕ → ℕ → ℕ → ℕ → Judged
judge_features ownSupported ownRequired supported required =
    first_of
    (judge_missing refusal.PeerRequires (missing 64 required ownSupported)
    ∷ judge_missing refusal.PeerLacks (missing 64 ownRequired supported)
    ∷ [])

-- msgr2.1 exactly when both sides support bit 0
abbrev pub revision_of : ℕ → ℕ → Revision
revision_of ownSupported supported = cond (eqb (ownSupported % 2) 1 && eqb (supported % 2) 1) Msgr21 Msgr20

abbrev pub is_msgr21 : Revision → Bool
is_msgr21 Msgr20 = false
is_msgr21 Msgr21 = true

abbrev pub same_revision : Revision → Revision → Bool
same_revision Msgr20 r = not (is_msgr21 r)
same_revision Msgr21 r = is_msgr21 r

-- a revision's number, in lines and in words for C: 1 is msgr2.1, 0 msgr2.0
abbrev pub revision_number : Revision → ℕ
revision_number Msgr20 = 0
revision_number Msgr21 = 1

-- the features in a banner's payload: supported, required
abbrev pub features_of : List ℕ → Features
features_of payload = record { supported = number_at 8 0 payload; required = number_at 8 8 payload }

-- ---- banner

-- the bytes from place i on are ms
abbrev pub same_from : ℕ → List ℕ → List ℕ → Bool
same_from i [] bytes = true
same_from i (m ∷ ms) bytes = eqb (get_or bytes i 0) m && same_from (suc i) ms bytes

abbrev pub judge_magic : List ℕ → Judged
judge_magic bytes = unless (same_from 0 magic bytes) refusal.Magic

abbrev pub least_payload : ℕ
least_payload = 16

abbrev pub most_payload : ℕ
most_payload = 1024

abbrev pub judge_length : ℕ → Judged
judge_length n = unless (leb least_payload n && leb n most_payload) (refusal.BannerLength n)
