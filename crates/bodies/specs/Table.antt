-- THE TABLE of bodies: each tag's fields, in their order (000, "Hello", "Authentication", "Message flow handshake", "Message exchange"; 02, K6).
-- Reading and writing are both stated from it.
use Rattle.std.specs.Prelude.{Bool, true, false, cond, ◌&&◌, List, [], ◌∷◌, ℕ, eqb}
use Rattle.fields.specs.Layout.{Kind, number, negative, numbers, payload, opaque, fixed}

-- entity_type; the address, opaque
abbrev pub hello : List Kind
hello = number 1 ∷ opaque 0 ∷ []

-- method; preferred modes; the method's payload, opaque, to the end
abbrev pub auth_request : List Kind
auth_request = number 4 ∷ numbers ∷ opaque 0 ∷ []

-- method; error, below zero; allowed methods; allowed modes
abbrev pub bad_method : List Kind
bad_method = number 4 ∷ negative ∷ numbers ∷ numbers ∷ []

-- length and payload
abbrev pub more : List Kind
more = payload ∷ []

-- global_id; connection mode; the method's payload, opaque, to the end
abbrev pub auth_done : List Kind
auth_done = number 8 ∷ number 4 ∷ opaque 0 ∷ []

-- address count; blocks, opaque; and in the last 48 bytes gid, global_seq, supported, required, flags, cookie
abbrev pub ident : List Kind
ident = number 4 ∷ opaque 48 ∷ number 8 ∷ number 8 ∷ number 8 ∷ number 8 ∷ number 8 ∷ number 8 ∷ []

-- address count; blocks, opaque; and in the last 40 bytes the client's and the server's cookie, global_seq, connect_seq, msg_seq
abbrev pub reconnect : List Kind
reconnect = number 4 ∷ opaque 40 ∷ number 8 ∷ number 8 ∷ number 8 ∷ number 8 ∷ number 8 ∷ []

-- features, or a msg_seq
abbrev pub one_number : List Kind
one_number = number 8 ∷ []

-- full, any byte
abbrev pub reset : List Kind
reset = number 1 ∷ []

-- the stamp, 8 opaque bytes
abbrev pub stamp : List Kind
stamp = fixed 8 ∷ []

pub record Row : Type 0 where
  pub tag : ℕ
  pub layout : List Kind

infix 20 ◌⇒◌
abbrev ◌⇒◌ : ℕ → List Kind → Row
◌⇒◌ tag layout = record { tag = tag; layout = layout }

abbrev pub table : List Row
table =
    (1 ⇒ hello)
    ∷ (2 ⇒ auth_request)
    ∷ (3 ⇒ bad_method)
    ∷ (4 ⇒ more)
    ∷ (5 ⇒ more)
    ∷ (6 ⇒ auth_done)
    ∷ (8 ⇒ ident)
    ∷ (9 ⇒ ident)
    ∷ (10 ⇒ one_number)
    ∷ (11 ⇒ reconnect)
    ∷ (12 ⇒ reset)
    ∷ (15 ⇒ one_number)
    ∷ (18 ⇒ stamp)
    ∷ (19 ⇒ stamp)
    ∷ (20 ⇒ one_number)
    ∷ []

pub data Found : Type 0 where
  listed : List Kind → Found
  unlisted : Found

unfoldable pub layout_in : List Row → ℕ → Found
layout_in [] tag = unlisted
layout_in (r ∷ rs) tag = cond (eqb tag r.tag) (listed r.layout) (layout_in rs tag)

abbrev pub layout_of : ℕ → Found
layout_of tag = layout_in table tag

-- ---- whether fields of these kinds are a tag's

abbrev pub shape : Kind → ℕ
shape (number w) = 0
shape negative = 1
shape numbers = 2
shape payload = 3
shape (opaque k) = 4
shape (fixed w) = 5

abbrev pub width : Kind → ℕ
width (number w) = w
width negative = 0
width numbers = 0
width payload = 0
width (opaque k) = k
width (fixed w) = w

abbrev pub same_kinds : List Kind → List Kind → Bool
same_kinds [] [] = true
same_kinds [] (k ∷ ks) = false
same_kinds (j ∷ js) [] = false
same_kinds (j ∷ js) (k ∷ ks) = eqb (shape j) (shape k) && (eqb (width j) (width k) && same_kinds js ks)

abbrev pub is_listed : Found → List Kind → Bool
is_listed (listed js) ks = same_kinds js ks
is_listed unlisted ks = false
