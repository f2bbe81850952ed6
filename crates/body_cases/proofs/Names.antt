-- A body that is read has its tag's names.
use mathlib.Core.Path.{◌≡◌, refl, sym, ap, ◌∙◌}
use mathlib.Core.Bool.{true, ◌||◌}
use mathlib.Core.List.{List}
use Prim.Native.Nat.{ℕ, ◌<◌}
use Prim.Native.String.{String}
use borrow.Author.Tests.{eqb-true}
use lib.Dec.{eqb}
use Rattle.fields.specs.declared.Span.{Span}
use Rattle.fields.specs.declared.NumberList.{NumberList}
use Rattle.fields.specs.Field.{Field}
use Rattle.fields.specs.Reading.{span_in, numbers_in}
use Rattle.refusal.specs.declared.Refusal.{Refusal}
use Rattle.refusal.specs.Refusals.{numbers_of}
use Rattle.std.specs.Prelude.{Ok, Err}
use Rattle.bodies.specs.declared.Body.{Body}
use Rattle.bodies.specs.declared.Body.TheVariants as body
use Rattle.bodies.specs.declared.Ident.{Ident}
use Rattle.bodies.specs.declared.Reconnect.{Reconnect}
use Rattle.bodies.specs.Rows.{hello_of, auth_request_of, bad_method_of, more_of, auth_done_of, ident_of, reconnect_of, one_number_of, reset_of, stamp_of}
use Rattle.bodies.specs.Read.{whole, refused, read_body, answer_of}
use Rattle.bodies.specs.Table.{is_listed, layout_of}
use Rattle.bodies.specs.Write.{kinds_of, writes}
use Rattle.bodies.specs.Claims.{Reads}
use Rattle.bodies.proofs.Tags.{serves_hello, serves_auth_request, serves_bad_method, serves_more, serves_auth_done, serves_ident, serves_reconnect, serves_number, serves_reset, serves_stamp}
use Rattle.bodies.proofs.Trips.{kinds-read}
use Rattle.refusal.proofs.Booleans.{by_test}
use Rattle.body_cases.specs.Reading.{hello_names, request_names, bad_method_names, more_names, done_names, ident_names, reconnect_names, reset_names, stamp_names, names_of, number_names, row_line, read_line}

-- one of two tags, and one of three
two : (n m tag : ℕ) {names : List String} → names_of n ≡ names → names_of m ≡ names → (eqb tag n || eqb tag m) ≡ true → names_of tag ≡ names
two n m tag p q h =
    by_test (eqb tag n) (λ e. ap names_of (eqb-true tag n e) ∙ p) (λ e. ap names_of (eqb-true tag m (rw e at h)) ∙ q)

three : (tag : ℕ) → (eqb tag 10 || (eqb tag 15 || eqb tag 20)) ≡ true → names_of tag ≡ number_names tag
unfolding names_of
three tag h =
    by_test (eqb tag 10) (λ e. rw (eqb-true tag 10 e)) (λ e.
    by_test (eqb tag 15) (λ f. rw (eqb-true tag 15 f)) (λ f. rw (eqb-true tag 20 (rw (e, f) at h))))

module _ (tag : ℕ) (s : List ℕ) (b : Body) (h : tag < 256) (r : Reads tag s (Ok b)) where
  -- fields of kinds that only tags with such names have
  named : (fs : List Field) (names : List String) → answer_of s (Ok b) ≡ whole fs → (is_listed (layout_of tag) (kinds_of fs) ≡ true → names_of tag ≡ names)
      → row_line tag names fs ≡ read_line tag (read_body tag s)
  named fs names e k =
      let read : read_body tag s ≡ whole fs = sym r.answer ∙ e in
      rw (read, k (kinds-read tag s fs read))

  pub line-hello : (n : ℕ) (p : Span) → b ≡ body.Hello n p → row_line tag hello_names (hello_of n (span_in s p)) ≡ read_line tag (read_body tag s)
  unfolding writes kinds_of names_of
  line-hello n p e = named (hello_of n (span_in s p)) hello_names (ap (λ (x : Body). answer_of s (Ok x)) e) (λ w. rw (eqb-true tag 1 (serves_hello tag n h ∙ w)))

  pub line-request : (m : ℕ) (l : NumberList) (p : Span) → b ≡ body.AuthRequest m l p → row_line tag request_names (auth_request_of m (numbers_in s l) (span_in s p)) ≡ read_line tag (read_body tag s)
  unfolding writes kinds_of names_of
  line-request m l p e = named (auth_request_of m (numbers_in s l) (span_in s p)) request_names (ap (λ (x : Body). answer_of s (Ok x)) e) (λ w. rw (eqb-true tag 2 (serves_auth_request tag m h ∙ w)))

  pub line-bad_method : (m n : ℕ) (l q : NumberList) → b ≡ body.BadMethod m n l q → row_line tag bad_method_names (bad_method_of m n (numbers_in s l) (numbers_in s q)) ≡ read_line tag (read_body tag s)
  unfolding writes kinds_of names_of
  line-bad_method m n l q e = named (bad_method_of m n (numbers_in s l) (numbers_in s q)) bad_method_names (ap (λ (x : Body). answer_of s (Ok x)) e) (λ w. rw (eqb-true tag 3 (serves_bad_method tag m n h ∙ w)))

  pub line-more : (p : Span) → b ≡ body.More p → row_line tag more_names (more_of (span_in s p)) ≡ read_line tag (read_body tag s)
  unfolding writes kinds_of names_of
  line-more p e = named (more_of (span_in s p)) more_names (ap (λ (x : Body). answer_of s (Ok x)) e) (λ w. two 4 5 tag refl refl (serves_more tag h ∙ w))

  pub line-done : (g m : ℕ) (p : Span) → b ≡ body.AuthDone g m p → row_line tag done_names (auth_done_of g m (span_in s p)) ≡ read_line tag (read_body tag s)
  unfolding writes kinds_of names_of
  line-done g m p e = named (auth_done_of g m (span_in s p)) done_names (ap (λ (x : Body). answer_of s (Ok x)) e) (λ w. rw (eqb-true tag 6 (serves_auth_done tag g m h ∙ w)))

  pub line-ident : (n : ℕ) (p : Span) (i : Ident) → b ≡ body.Ident n p i → row_line tag ident_names (ident_of n (span_in s p) i) ≡ read_line tag (read_body tag s)
  unfolding writes kinds_of names_of
  line-ident n p i e = named (ident_of n (span_in s p) i) ident_names (ap (λ (x : Body). answer_of s (Ok x)) e) (λ w. two 8 9 tag refl refl (serves_ident tag n i h ∙ w))

  pub line-reconnect : (n : ℕ) (p : Span) (q : Reconnect) → b ≡ body.Reconnect n p q → row_line tag reconnect_names (reconnect_of n (span_in s p) q) ≡ read_line tag (read_body tag s)
  unfolding writes kinds_of names_of
  line-reconnect n p q e = named (reconnect_of n (span_in s p) q) reconnect_names (ap (λ (x : Body). answer_of s (Ok x)) e) (λ w. rw (eqb-true tag 11 (serves_reconnect tag n q h ∙ w)))

  pub line-number : (n : ℕ) → b ≡ body.Number n → row_line tag (number_names tag) (one_number_of n) ≡ read_line tag (read_body tag s)
  unfolding writes kinds_of
  line-number n e = named (one_number_of n) (number_names tag) (ap (λ (x : Body). answer_of s (Ok x)) e) (λ w. three tag (serves_number tag n h ∙ w))

  pub line-reset : (n : ℕ) → b ≡ body.Reset n → row_line tag reset_names (reset_of n) ≡ read_line tag (read_body tag s)
  unfolding writes kinds_of names_of
  line-reset n e = named (reset_of n) reset_names (ap (λ (x : Body). answer_of s (Ok x)) e) (λ w. rw (eqb-true tag 12 (serves_reset tag n h ∙ w)))

  pub line-stamp : (p : Span) → b ≡ body.Stamp p → row_line tag stamp_names (stamp_of (span_in s p)) ≡ read_line tag (read_body tag s)
  unfolding writes kinds_of names_of
  line-stamp p e = named (stamp_of (span_in s p)) stamp_names (ap (λ (x : Body). answer_of s (Ok x)) e) (λ w. two 18 19 tag refl refl (serves_stamp tag h ∙ w))

pub line_refused : (tag : ℕ) (s : List ℕ) (w : Refusal) → Reads tag s (Err w) → read_line tag (refused (numbers_of w)) ≡ read_line tag (read_body tag s)
line_refused tag s w r = ap (read_line tag) r.answer
