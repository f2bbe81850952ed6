-- The numbers of the tags (000's list of frames), and what a byte is: the tag with that number, or none's.
use Rattle.std.specs.Prelude.{◌≡◌, ◌≤◌, ℕ, Result, MatchResult, IsOk, ◌↔◌}
use Rattle.refusal.specs.declared.Refusal.{Refusal}
use Rattle.refusal.specs.declared.Refusal.TheVariants as refusal
use Rattle.tag.specs.declared.Tag.{Tag}
use Rattle.tag.specs.declared.Tag.TheVariants.{Hello, AuthRequest, AuthBadMethod, AuthReplyMore, AuthRequestMore, AuthDone, AuthSignature, ClientIdent, ServerIdent, IdentMissingFeatures, SessionReconnect, SessionReset, SessionRetry, SessionRetryGlobal, SessionReconnectOk, Wait, Message, Keepalive2, Keepalive2Ack, Ack}

-- THE TABLE
abbrev pub number_of : Tag → ℕ
number_of Hello = 1
number_of AuthRequest = 2
number_of AuthBadMethod = 3
number_of AuthReplyMore = 4
number_of AuthRequestMore = 5
number_of AuthDone = 6
number_of AuthSignature = 7
number_of ClientIdent = 8
number_of ServerIdent = 9
number_of IdentMissingFeatures = 10
number_of SessionReconnect = 11
number_of SessionReset = 12
number_of SessionRetry = 13
number_of SessionRetryGlobal = 14
number_of SessionReconnectOk = 15
number_of Wait = 16
number_of Message = 17
number_of Keepalive2 = 18
number_of Keepalive2Ack = 19
number_of Ack = 20

-- THE PROMISE of a conversion: the tag that has the number, where the number is 1 to 20, and refusal 8 otherwise
pub record Named (n : ℕ) (r : Result Tag Refusal) : Type 0 where
  pub tag : MatchResult r (λ tag. number_of tag ≡ n) (λ why. why ≡ refusal.Tag n)
  pub range : IsOk r ↔ (1 ≤ n) × (n ≤ 20)
