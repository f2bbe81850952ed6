-- No nonce twice (02, K11): the claim over any calls from the switch on, refused ones among them.
use Rattle.std.specs.Prelude.{◌≡◌, ℕ, ◌-◌, ◌<◌, Bool, List, [], ◌∷◌, ◌++◌, length, ◌≢◌}
use Rattle.refusal.specs.declared.Numbers.{Numbers}
use Rattle.refusal.specs.declared.Refusal.TheVariants as refusal
use Rattle.refusal.specs.Refusals.{fine, numbers_of}
use Rattle.refusal.specs.Writes.{WriteOutcome, wrote, refused_for, outcome_of}
use Rattle.preamble.specs.declared.Header.{Header}
use Rattle.buffer.specs.Splice.{splice}
use Rattle.aes.specs.Aes.{key_expansion}
use Rattle.secure.specs.Layout.{all_nonces, Part, nonces_of, sealed_parts, part_count}
use Rattle.sealed_builder.specs.declared.Sending.{Sending}
use Rattle.sealed_builder.specs.declared.Sealed.{Sealed}
use Rattle.sealed_builder.specs.Build.{spent_of, fresh_sending, sent_parts, judge_earlier, BuiltSealed}

-- ---- a list of builds, each given the state that the last one handed back

-- what was asked, what was answered, and the buffer then
pub record Build : Type 0 where
  pub header : Header
  pub abort : Bool
  pub source : List ℕ
  pub buffer : List ℕ
  pub queued : ℕ
  pub answer : Sealed
  pub after : List ℕ

abbrev pub Meets : Sending → Build → Type 0
Meets s b = BuiltSealed s b.header b.abort b.source b.buffer b.queued b.answer b.after

abbrev pub Chained : Sending → List Build → Type 0
Chained s [] = Unit {0}
Chained s (b ∷ bs) = Meets s b × Chained b.answer.sending bs

-- ---- the nonces that they used for sealing: those of the parts that their promise has the written bytes be

abbrev pub used_in : WriteOutcome → List Part → List (List ℕ)
used_in (wrote n) parts = nonces_of parts
used_in (refused_for r) parts = []

abbrev pub used_by : Sending → Build → List (List ℕ)
used_by s b = used_in (outcome_of b.answer.built) (sent_parts s b.header b.abort b.source)

abbrev pub used : Sending → List Build → List (List ℕ)
used s [] = []
used s (b ∷ bs) = used_by s b ++ used b.answer.sending bs

abbrev pub sending_after : Sending → List Build → Sending
sending_after s [] = s
sending_after s (b ∷ bs) = sending_after b.answer.sending bs

-- ---- THE CLAIM

abbrev pub NoneIs : List ℕ → List (List ℕ) → Type 0
NoneIs x [] = Unit {0}
NoneIs x (y ∷ ys) = (x ≢ y) × NoneIs x ys

abbrev pub AllDifferent : List (List ℕ) → Type 0
AllDifferent [] = Unit {0}
AllDifferent (x ∷ xs) = NoneIs x xs × AllDifferent xs

abbrev pub left : Sending → ℕ
left s = all_nonces - spent_of s

-- 18 is given exactly when nothing earlier in the order applies and the frame needs more nonces than are left
pub record Exactly (s : Sending) (b : Build) : Type 0 where
  pub given : outcome_of b.answer.built ≡ refused_for (numbers_of refusal.NoncesSpent)
      → (judge_earlier s b.header b.abort (length b.source) (length b.buffer) b.queued ≡ fine) × (left s < part_count b.header)
  pub due : judge_earlier s b.header b.abort (length b.source) (length b.buffer) b.queued ≡ fine → left s < part_count b.header
      → outcome_of b.answer.built ≡ refused_for (numbers_of refusal.NoncesSpent)

-- what a build wrote behind the queued bytes are parts, sealed each with its own nonce, and the nonces used are theirs
pub record SealedWith (s : Sending) (b : Build) : Type 0 where
  pub parts : List Part
  pub bytes : b.after ≡ splice b.buffer b.queued (sealed_parts (key_expansion s.key) parts)
  pub nonces : used_by s b ≡ nonces_of parts

pub record NoNonceTwice : Type 0 where
  pub different : (key nonce : List ℕ) (bs : List Build) → Chained (fresh_sending key nonce) bs → AllDifferent (used (fresh_sending key nonce) bs)
  -- they are those of the bytes that were written, which are all sealed under one key
  pub wrote : (s : Sending) (b : Build) (n : ℕ) → Meets s b → outcome_of b.answer.built ≡ wrote n → SealedWith s b
  pub one_key : (s : Sending) (bs : List Build) → Chained s bs → (sending_after s bs).key ≡ s.key
  -- a switch's state has spent none, and from then on as many are spent as were used
  pub counted : (key nonce : List ℕ) (bs : List Build) → Chained (fresh_sending key nonce) bs
      → spent_of (sending_after (fresh_sending key nonce) bs) ≡ length (used (fresh_sending key nonce) bs)
  -- a frame needs a nonce for each of its parts
  pub needs : (s : Sending) (h : Header) (abort : Bool) (source : List ℕ) → length (nonces_of (sent_parts s h abort source)) ≡ part_count h
  pub eighteen : (s : Sending) (b : Build) → Meets s b → Exactly s b
  -- and a refused build spends none
  pub unspent : (s : Sending) (b : Build) (r : Numbers) → Meets s b → outcome_of b.answer.built ≡ refused_for r → b.answer.sending ≡ s
