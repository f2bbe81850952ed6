-- The bodies' fields, filled: what a request to write holds, and what an answer to read stands for.
use Rattle.std.specs.Prelude.{List, [], ◌∷◌, ℕ}
use Rattle.fields.specs.Field.{Field, number, negative, numbers, opaque, fixed}
use Rattle.fields.specs.Field as filled
use Rattle.bodies.specs.declared.Ident.{Ident}
use Rattle.bodies.specs.declared.Reconnect.{Reconnect}
use Rattle.bodies.specs.declared.Request.{Request}
use Rattle.bodies.specs.declared.Request.TheVariants as request

abbrev pub hello_of : ℕ → List ℕ → List Field
hello_of entityType address = number 1 entityType ∷ opaque 0 address ∷ []

abbrev pub auth_request_of : ℕ → List ℕ → List ℕ → List Field
auth_request_of method modes payload = number 4 method ∷ numbers modes ∷ opaque 0 payload ∷ []

abbrev pub bad_method_of : ℕ → ℕ → List ℕ → List ℕ → List Field
bad_method_of method error methods modes = number 4 method ∷ negative error ∷ numbers methods ∷ numbers modes ∷ []

abbrev pub more_of : List ℕ → List Field
more_of payload = filled.payload payload ∷ []

abbrev pub auth_done_of : ℕ → ℕ → List ℕ → List Field
auth_done_of globalId mode payload = number 8 globalId ∷ number 4 mode ∷ opaque 0 payload ∷ []

abbrev pub ident_of : ℕ → List ℕ → Ident → List Field
ident_of addresses block i =
    number 4 addresses ∷ opaque 48 block ∷ number 8 i.gid ∷ number 8 i.global_seq ∷ number 8 i.supported
    ∷ number 8 i.required ∷ number 8 i.flags ∷ number 8 i.cookie ∷ []

abbrev pub reconnect_of : ℕ → List ℕ → Reconnect → List Field
reconnect_of addresses block k =
    number 4 addresses ∷ opaque 40 block ∷ number 8 k.client_cookie ∷ number 8 k.server_cookie ∷ number 8 k.global_seq
    ∷ number 8 k.connect_seq ∷ number 8 k.msg_seq ∷ []

abbrev pub one_number_of : ℕ → List Field
one_number_of n = number 8 n ∷ []

abbrev pub reset_of : ℕ → List Field
reset_of full = number 1 full ∷ []

abbrev pub stamp_of : List ℕ → List Field
stamp_of bytes = fixed 8 bytes ∷ []

-- a request's fields, with its two lists and its bytes
abbrev pub requested : Request → List ℕ → List ℕ → List ℕ → List Field
requested (request.Hello n) ms ns bs = hello_of n bs
requested (request.AuthRequest m) ms ns bs = auth_request_of m ms bs
requested (request.BadMethod m e) ms ns bs = bad_method_of m e ms ns
requested request.More ms ns bs = more_of bs
requested (request.AuthDone g m) ms ns bs = auth_done_of g m bs
requested (request.Ident n i) ms ns bs = ident_of n bs i
requested (request.Reconnect n k) ms ns bs = reconnect_of n bs k
requested (request.Number n) ms ns bs = one_number_of n
requested (request.Reset n) ms ns bs = reset_of n
requested request.Stamp ms ns bs = stamp_of bs
