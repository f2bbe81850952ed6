-- What a tag's row makes is what is written out by tag, what stands at its places is what the table says, and it stands within the body.
use mathlib.Core.Path.{◌≡◌, refl, sym, ap, ◌∙◌}
use mathlib.Core.Bool.{Bool, true, false, cond, ◌||◌}
use mathlib.Core.List.{List, [], ◌∷◌}
use Prim.Native.Nat.{ℕ, ◌+◌, ◌-◌, ◌*◌, ◌/◌, ◌≤◌, ◌<◌}
use native.Mathlib.Nat.{zero-add}
use native.Mathlib.Omega.{arith}
use lib.Dec.{ltb, eqb}
use borrow.Author.Tests.{le-leb, lt-leb, lt-ltb, le-ltb, eq-eqb, ne_eqb, ltb-true, ltb-false}
use lib.ListN.{length}
use Rattle.buffer.specs.Le.{number_at}
use Rattle.preamble.specs.Judge.{segment_limit}
use Rattle.refusal.proofs.Booleans.{at_test, by_less, at_cond, wrong}
use Rattle.fields.specs.declared.Span.{Span}
use Rattle.fields.specs.declared.NumberList.{NumberList}
use Rattle.fields.specs.Layout.{Kind, good, fault, past, step_of}
use Rattle.fields.specs.Layout as kind
use Rattle.fields.specs.Field.{bytes_from}
use Rattle.std.specs.Prelude.{Result, Ok}
use Rattle.refusal.specs.declared.Refusal.{Refusal}
use Rattle.bodies.specs.declared.Body.{Body}
use Rattle.bodies.specs.declared.Body.TheVariants as body
use Rattle.bodies.specs.Table.{Found, listed, layout_in, layout_of, hello, auth_request, bad_method, more, auth_done, ident, reconnect, one_number, reset, stamp}
use Rattle.bodies.specs.Read.{read_by, read_body, answer_of, malformed_body, settled_body}
use Rattle.bodies.specs.ByTag.{malformed_when, short, ends_at, list_then, list_end, list_at, rest_at, hello_body, auth_request_body, bad_method_body, more_body, auth_done_body, ident_body, reconnect_body, one_number_body, reset_body, stamp_body, tag_body, body_of, Within, EveryBody}
use Rattle.bodies.specs.Claims.{Reads}
use Rattle.bodies.proofs.Bodies.{said_at, Makes, from, stopped, Shows, answers}

-- malformed at a place where one number is below another, or else what follows
when_less : {x y : Result Body Refusal} (a b at : ℕ) → (a < b → x ≡ malformed_body at) → (b ≤ a → x ≡ y) → x ≡ malformed_when (ltb a b) at y
when_less {x} {y} a b at l g =
    at_test (λ t. x ≡ malformed_when t at y) (ltb a b) (λ e. l (ltb-true a b e)) (λ e. g (ltb-false a b e))

-- the same by either of two tests
when_either : {x y : Result Body Refusal} (a b c d at : ℕ) → (a < b → x ≡ malformed_body at) → (c < d → x ≡ malformed_body at) → (b ≤ a → d ≤ c → x ≡ y) → x ≡ malformed_when (ltb a b || ltb c d) at y
when_either {x} {y} a b c d at l k g =
    at_test (λ t. x ≡ malformed_when (t || ltb c d) at y) (ltb a b) (λ e. l (ltb-true a b e)) (λ e. when_less c d at k (g (ltb-false a b e)))

module _ (s : List ℕ) (at : ℕ) where
  -- past the last field
  finished : (b : Result Body Refusal) → at ≤ length s → from [] s at b ≡ ends_at s at b
  unfolding from settled_body
  finished b h =
      when_less at (length s) at (λ k. rw (ne_eqb at (length s) (λ e. omega arith))) (λ k. rw (eq-eqb at (length s) (omega arith)))

  -- a field that fails, and one that stands
  fails : (k : Kind) (ks : List Kind) (m : Makes (k ∷ ks)) (p : ℕ) → step_of k s (good at) ≡ fault p → from (k ∷ ks) s at m ≡ malformed_body p
  unfolding from
  fails k ks m p e = stopped s ks (step_of k s (good at)) p _ e

  stands : (k : Kind) (ks : List Kind) (m : Makes (k ∷ ks)) (n : ℕ) → step_of k s (good at) ≡ good n → from (k ∷ ks) s at m ≡ from ks s n (m (said_at k s at))
  unfolding from
  stands k ks m n e = rw e

  -- each field, and what follows where it stands
  module _ (ks : List Kind) where
    number-on : (w n : ℕ) (m : ℕ → Makes ks) → at + w ≤ length s → at + w ≡ n → from (kind.number w ∷ ks) s at m ≡ from ks s n (m (number_at w at s))
    unfolding step_of
    number-on w n m h e = stands (kind.number w) ks m n (rw (le-leb w (length s - at) (omega arith), e))

    past-then : {y : Result Body Refusal} (k : Kind) (w : ℕ) (m : Makes (k ∷ ks)) → step_of k s (good at) ≡ past w s at → 1 ≤ w → (at + w ≤ length s → from ks s (at + w) (m (said_at k s at)) ≡ y) → from (k ∷ ks) s at m ≡ malformed_when (short s (at + w)) at y
    past-then k w m p o f =
        when_less (length s) (at + w) at (λ h. fails k ks m at (p ∙ rw (lt-leb w (length s - at) (omega arith))))
        (λ h. stands k ks m (at + w) (p ∙ rw (le-leb w (length s - at) (omega arith))) ∙ f h)

    negative-then : {y : Result Body Refusal} (m : ℕ → Makes ks) → from ks s (at + 4) (m (number_at 4 at s)) ≡ y → from (kind.negative ∷ ks) s at m ≡ malformed_when (short s (at + 4) || ltb (number_at 4 at s) 2147483648) at y
    unfolding step_of
    negative-then m f =
        when_either (length s) (at + 4) (number_at 4 at s) 2147483648 at
        (λ h. fails kind.negative ks m at (at_cond (λ c. c ≡ fault at) (ltb (number_at 4 at s) 2147483648) refl (rw (lt-leb 4 (length s - at) (omega arith)))))
        (λ u. fails kind.negative ks m at (rw (lt-ltb (number_at 4 at s) 2147483648 u)))
        (λ h u. stands kind.negative ks m (at + 4) (rw (le-ltb (number_at 4 at s) 2147483648 u, le-leb 4 (length s - at) (omega arith))) ∙ f)

    list_then_lem : {y : Result Body Refusal} (m : NumberList → Makes ks) → (list_end s at ≤ length s → from ks s (list_end s at) (m (list_at s at)) ≡ y) → from (kind.numbers ∷ ks) s at m ≡ list_then s at y
    unfolding step_of
    list_then_lem m f =
        let n = number_at 4 at s in
        let long : 32 < n → from (kind.numbers ∷ ks) s at m ≡ malformed_body at = λ u. fails kind.numbers ks m at (rw (lt-ltb 32 n u)) in
        let cut : (p : ℕ) → n ≤ 32 → length s < list_end s at → at + (length s - at) / 4 * 4 ≡ p → from (kind.numbers ∷ ks) s at m ≡ malformed_body p = λ p u v e. fails kind.numbers ks m p (rw (le-ltb 32 n u, lt-leb (4 + 4 * n) (length s - at) (omega arith), e)) in
        when_less (length s) (at + 4) at (λ h. by_less 32 n long (λ u. cut at u (omega arith) (omega arith))) (λ h.
        when_less 32 n at long (λ u.
        when_less (length s) (list_end s at) (at + 4 + (length s - (at + 4)) / 4 * 4) (λ v. cut _ u v (omega arith)) (λ v.
        let e : at + (4 + 4 * n) ≡ list_end s at = omega arith in
        stands kind.numbers ks m (list_end s at) (rw (le-ltb 32 n u, le-leb (4 + 4 * n) (length s - at) (omega arith), e)) ∙ f v)))

  -- all bytes to the end, in a row that ends there
  opaque-last : (m : Span → Result Body Refusal) → at ≤ length s → from (kind.opaque 0 ∷ []) s at m ≡ m (rest_at s at)
  unfolding step_of from settled_body
  opaque-last m h =
      let z : length s - 0 ≡ length s = omega arith in
      rw (le-leb 0 (length s - at) (omega arith), z, eq-eqb (length s) (length s) refl)

  -- all bytes but the closing ones
  closing_on : (k n : ℕ) (ks : List Kind) (m : Span → Makes ks) → at + k ≤ length s → length s - k ≡ n
      → from (kind.opaque k ∷ ks) s at m ≡ from ks s n (m (bytes_from at (n - at)))
  unfolding step_of
  closing_on k n ks m h e = stands (kind.opaque k) ks m n (rw (le-leb k (length s - at) (omega arith), e)) ∙ rw e

-- ---- the bodies

abbrev identified : ℕ → Span → ℕ → ℕ → ℕ → ℕ → ℕ → ℕ → Result Body Refusal
identified n p a b c d e f = Ok (body.Ident n p (record { gid = a; global_seq = b; supported = c; required = d; flags = e; cookie = f }))

abbrev resumed : ℕ → Span → ℕ → ℕ → ℕ → ℕ → ℕ → Result Body Refusal
resumed n p a b c d e = Ok (body.Reconnect n p (record { client_cookie = a; server_cookie = b; global_seq = c; connect_seq = d; msg_seq = e }))

module _ (s : List ℕ) where
  pub hello_is : from hello s 0 (λ n p. Ok (body.Hello n p)) ≡ hello_body s
  unfolding hello_body step_of
  hello_is = past-then s 0 _ (kind.number 1) 1 _ refl (omega arith) (opaque-last s 1 _)

  pub auth_request_is : from auth_request s 0 (λ n l p. Ok (body.AuthRequest n l p)) ≡ auth_request_body s
  unfolding auth_request_body step_of
  auth_request_is =
      past-then s 0 _ (kind.number 4) 4 _ refl (omega arith) (λ _. list_then_lem s 4 _ _ (opaque-last s (list_end s 4) _))

  pub bad_method_is : from bad_method s 0 (λ n e l m. Ok (body.BadMethod n e l m)) ≡ bad_method_body s
  unfolding bad_method_body step_of
  bad_method_is =
      past-then s 0 _ (kind.number 4) 4 _ refl (omega arith) (λ _.
      negative-then s 4 _ _
      (list_then_lem s 8 _ _ (λ _. list_then_lem s (list_end s 8) _ _ (finished s (list_end s (list_end s 8)) _))))

  pub more_is : from more s 0 (λ p. Ok (body.More p)) ≡ more_body s
  unfolding more_body step_of
  more_is =
      let n : ℕ = 4 + number_at 4 0 s in
      let cut : length s < n → from more s 0 (λ p. Ok (body.More p)) ≡ malformed_body 0 = λ h. fails s 0 kind.payload [] _ 0 (rw (lt-leb n (length s - 0) (omega arith))) in
      when_either (length s) 4 (length s) n 0 (λ h. cut (omega arith)) cut
      (λ _ h. stands s 0 kind.payload [] _ n (rw (le-leb n (length s - 0) (omega arith), zero-add n)) ∙ finished s n _ h)

  pub auth_done_is : from auth_done s 0 (λ g n p. Ok (body.AuthDone g n p)) ≡ auth_done_body s
  unfolding auth_done_body step_of
  auth_done_is =
      past-then s 0 _ (kind.number 8) 8 _ refl (omega arith) (λ _.
      past-then s 8 _ (kind.number 4) 4 _ refl (omega arith) (opaque-last s 12 _))

  pub one_number_is : from one_number s 0 (λ n. Ok (body.Number n)) ≡ one_number_body s
  unfolding one_number_body step_of
  one_number_is = past-then s 0 _ (kind.number 8) 8 _ refl (omega arith) (finished s 8 _)

  pub reset_is : from reset s 0 (λ n. Ok (body.Reset n)) ≡ reset_body s
  unfolding reset_body step_of
  reset_is = past-then s 0 _ (kind.number 1) 1 _ refl (omega arith) (finished s 1 _)

  pub stamp_is : from stamp s 0 (λ p. Ok (body.Stamp p)) ≡ stamp_body s
  unfolding stamp_body step_of
  stamp_is = past-then s 0 _ (kind.fixed 8) 8 _ refl (omega arith) (finished s 8 _)

  -- the closing fields end where the body does
  ended : (b : Result Body Refusal) → from [] s (length s) b ≡ b
  unfolding from settled_body
  ended b = rw (eq-eqb (length s) (length s) refl)

  -- too short for the address count, or for the closing fields
  closing_missing : (k : ℕ) (ks : List Kind) (m : ℕ → Span → Makes ks) → length s < 4 + k → from (kind.number 4 ∷ kind.opaque k ∷ ks) s 0 m ≡ malformed_body 0
  unfolding step_of
  closing_missing k ks m h =
      past-then s 0 _ (kind.number 4) 4 m refl (omega arith) (λ t. fails s 4 (kind.opaque k) ks _ 0 (rw (lt-leb k (length s - 4) (omega arith))))
      ∙ at_cond (λ b. b ≡ malformed_body 0) (short s 4) refl refl

  pub ident_is : from ident s 0 identified ≡ ident_body s
  unfolding ident_body
  ident_is =
      let at : ℕ = length s - 48 in
      when_less (length s) 52 0 (closing_missing 48 _ identified) (λ h.
      number-on s 0 _ 4 4 identified (omega arith) refl ∙ closing_on s 4 48 at _ _ (omega arith) refl
      ∙ number-on s at _ 8 (at + 8) _ (omega arith) refl ∙ number-on s (at + 8) _ 8 (at + 16) _ (omega arith) (omega arith)
      ∙ number-on s (at + 16) _ 8 (at + 24) _ (omega arith) (omega arith) ∙ number-on s (at + 24) _ 8 (at + 32) _ (omega arith) (omega arith)
      ∙ number-on s (at + 32) _ 8 (at + 40) _ (omega arith) (omega arith) ∙ number-on s (at + 40) _ 8 (length s) _ (omega arith) (omega arith) ∙ ended _)

  pub reconnect_is : from reconnect s 0 resumed ≡ reconnect_body s
  unfolding reconnect_body
  reconnect_is =
      let at : ℕ = length s - 40 in
      when_less (length s) 44 0 (closing_missing 40 _ resumed) (λ h.
      number-on s 0 _ 4 4 resumed (omega arith) refl ∙ closing_on s 4 40 at _ _ (omega arith) refl
      ∙ number-on s at _ 8 (at + 8) _ (omega arith) refl ∙ number-on s (at + 8) _ 8 (at + 16) _ (omega arith) (omega arith)
      ∙ number-on s (at + 16) _ 8 (at + 24) _ (omega arith) (omega arith) ∙ number-on s (at + 24) _ 8 (at + 32) _ (omega arith) (omega arith)
      ∙ number-on s (at + 32) _ 8 (length s) _ (omega arith) (omega arith) ∙ ended _)

  -- ---- within the body

  record Stands (b : Result Body Refusal) : Type 0 where
    fact : Within s b

  kept : {x : Result Body Refusal} (b : Bool) (at : ℕ) → (b ≡ false → Stands x) → Stands (malformed_when b at x)
  unfolding Within
  kept true at h = record { fact = tt }
  kept false at h = h refl

  fits : {x : Result Body Refusal} (n at : ℕ) → (n ≤ length s → Stands x) → Stands (malformed_when (short s n) at x)
  fits n at h = kept (short s n) at (λ t. h (ltb-false (length s) n t))

  list_fits : {x : Result Body Refusal} (at : ℕ) → (list_end s at ≤ length s → Stands x) → Stands (list_then s at x)
  list_fits at h = fits (at + 4) at (λ _. kept (ltb 32 (number_at 4 at s)) at (λ _. fits (list_end s at) _ h))

  not_short : (b : Bool) (n : ℕ) → (b || short s n) ≡ false → n ≤ length s
  not_short true n t = wrong (sym t)
  not_short false n t = ltb-false (length s) n t

  -- ---- by tag: what stands in a body is what the table says, and it stands within

  record Right (f : Found) (b : Result Body Refusal) : Type 0 where
    answer : answer_of s b ≡ read_by f s
    within : Stands b

  right : (ks : List Kind) (m : Makes ks) {b : Result Body Refusal} → from ks s 0 m ≡ b → Shows s ks m (λ l. l) → Stands b → Right (listed ks) b
  right ks m i h w = record { answer = answers s ks m i h; within = w }

  by_row : {f g : Found} {x y : Result Body Refusal} (b : Bool) → Right f x → Right g y → Right (cond b f g) (cond b x y)
  by_row true p q = p
  by_row false p q = q

  tags : (tag : ℕ) → Right (layout_of tag) (tag_body tag s)
  unfolding layout_in Within hello_body auth_request_body bad_method_body more_body auth_done_body ident_body reconnect_body one_number_body reset_body stamp_body tag_body
  tags tag =
      let greeting = right hello _ hello_is (λ n p. refl) (fits 1 0 (λ h. record { fact = omega arith })) in
      let request = right auth_request _ auth_request_is (λ n l p. refl) (fits 4 0 (λ _. list_fits 4 (λ h. record { fact = (omega arith, omega arith) }))) in
      let refusal = right bad_method _ bad_method_is (λ n e l m. refl) (fits 4 0 (λ _. kept (short s 8 || ltb (number_at 4 4 s) 2147483648) 4 (λ _. list_fits 8 (λ h. list_fits (list_end s 8) (λ k. kept (ltb (list_end s (list_end s 8)) (length s)) _ (λ _. record { fact = (omega arith, omega arith) })))))) in
      let payload = right more _ more_is (λ p. refl) (kept (short s 4 || short s (4 + number_at 4 0 s)) 0 (λ t. kept (ltb (4 + number_at 4 0 s) (length s)) _ (λ _. record { fact = not_short (short s 4) (4 + number_at 4 0 s) t }))) in
      let finished = right auth_done _ auth_done_is (λ g n p. refl) (fits 8 0 (λ _. fits 12 8 (λ h. record { fact = omega arith }))) in
      let identity = right ident identified ident_is (λ n p a b c d e f. refl) (fits 52 0 (λ h. record { fact = omega arith })) in
      let resumption = right reconnect resumed reconnect_is (λ n p a b c d e. refl) (fits 44 0 (λ h. record { fact = omega arith })) in
      let number = right one_number _ one_number_is (λ n. refl) (fits 8 0 (λ _. kept (ltb 8 (length s)) 8 (λ _. record { fact = tt }))) in
      let resets = right reset _ reset_is (λ n. refl) (fits 1 0 (λ _. kept (ltb 1 (length s)) 1 (λ _. record { fact = tt }))) in
      let stamped = right stamp _ stamp_is (λ p. refl) (fits 8 0 (λ h. kept (ltb 8 (length s)) 8 (λ _. record { fact = h }))) in
      by_row (eqb tag 1) greeting
      (by_row (eqb tag 2) request
      (by_row (eqb tag 3) refusal
      (by_row (eqb tag 4) payload
      (by_row (eqb tag 5) payload
      (by_row (eqb tag 6) finished
      (by_row (eqb tag 8) identity
      (by_row (eqb tag 9) identity
      (by_row (eqb tag 10) number
      (by_row (eqb tag 11) resumption
      (by_row (eqb tag 12) resets
      (by_row (eqb tag 15) number
      (by_row (eqb tag 18) stamped
      (by_row (eqb tag 19) stamped
      (by_row (eqb tag 20) number (record { answer = refl; within = record { fact = tt } })))))))))))))))

  pub reads_as : (tag : ℕ) → answer_of s (body_of tag s) ≡ read_body tag s
  unfolding read_body body_of
  reads_as tag =
      by_less segment_limit (length s) (λ h. rw (lt-ltb segment_limit (length s) h, lt-leb (length s) segment_limit h))
      (λ h. rw (le-ltb segment_limit (length s) h, le-leb (length s) segment_limit h) (tags tag).answer)

  pub all-within : (tag : ℕ) → Within s (body_of tag s)
  unfolding body_of
  all-within tag = (kept (ltb segment_limit (length s)) 0 (λ _. (tags tag).within)).fact

-- THE CLAIM
pub every_body : EveryBody
unfolding EveryBody
every_body tag s = (reads_as s tag, all-within s tag)

-- ---- the calls of `read`

reads : {b : Result Body Refusal} (s : List ℕ) (tag : ℕ) → b ≡ body_of tag s → Reads tag s b
reads s tag e = record { body = e; answer = ap (answer_of s) e ∙ reads_as s tag }

pub above-limit : (s : List ℕ) (tag : ℕ) → segment_limit < length s → Reads tag s (malformed_body 0)
unfolding body_of
above-limit s tag h = reads s tag (rw (lt-ltb segment_limit (length s) h))

pub within-limit : {b : Result Body Refusal} (s : List ℕ) (tag : ℕ) → length s ≤ segment_limit → b ≡ tag_body tag s → Reads tag s b
unfolding body_of
within-limit s tag h r = reads s tag (rw (le-ltb segment_limit (length s) h) r)
