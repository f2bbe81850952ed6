-- Bodies as eighteen words, written out: one of each kind, and refused ones.
use Rattle.std.specs.Prelude.{◌≡◌, List, [], ◌∷◌, ◌++◌, ℕ, replicate}
use Rattle.buffer.specs.Le.{le}
use Rattle.abi_bodies.specs.Words.{body_words, abi_body}

pub record Reading : Type 0 where
  pub tag : ℕ
  pub segment : List ℕ
  pub words : List ℕ

abbrev reads : ℕ → List ℕ → List ℕ → Reading
reads tag segment words = record { tag = tag; segment = segment; words = words }

abbrev zeros : ℕ → List ℕ
zeros n = replicate n 0

abbrev ident : List ℕ
ident = le 4 2 ++ 5 ∷ 6 ∷ 7 ∷ le 8 11 ++ le 8 12 ++ le 8 13 ++ le 8 14 ++ le 8 15 ++ le 8 16

unfoldable pub readings : List Reading
readings =
    -- hello: entity_type; the address
    reads 1 (8 ∷ 1 ∷ 2 ∷ 3 ∷ []) (1 ∷ 8 ∷ zeros 6 ++ 0 ∷ 0 ∷ 0 ∷ 0 ∷ 1 ∷ 3 ∷ zeros 4)
    -- auth request: method; modes; payload
    ∷ reads 2 (le 4 7 ++ le 4 2 ++ le 4 1 ++ le 4 2 ++ 9 ∷ []) (2 ∷ 7 ∷ zeros 6 ++ 8 ∷ 2 ∷ 0 ∷ 0 ∷ 16 ∷ 1 ∷ zeros 4)
    -- bad method: method, error; methods; modes
    ∷ reads 3 (le 4 7 ++ le 4 4294967201 ++ le 4 1 ++ le 4 2 ++ le 4 2 ++ le 4 1 ++ le 4 2) (3 ∷ 7 ∷ 4294967201 ∷ zeros 5 ++ 12 ∷ 1 ∷ 20 ∷ 2 ∷ 0 ∷ 0 ∷ zeros 4)
    -- more, from either side: payload
    ∷ reads 4 (le 4 3 ++ 7 ∷ 8 ∷ 9 ∷ []) (4 ∷ zeros 7 ++ 0 ∷ 0 ∷ 0 ∷ 0 ∷ 4 ∷ 3 ∷ zeros 4)
    ∷ reads 5 (le 4 0) (4 ∷ zeros 7 ++ 0 ∷ 0 ∷ 0 ∷ 0 ∷ 4 ∷ 0 ∷ zeros 4)
    -- auth done: global_id, mode; payload
    ∷ reads 6 (le 8 4107 ++ le 4 2 ++ 9 ∷ 9 ∷ []) (5 ∷ 4107 ∷ 2 ∷ zeros 5 ++ 0 ∷ 0 ∷ 0 ∷ 0 ∷ 12 ∷ 2 ∷ zeros 4)
    -- idents: address count, gid, global_seq, supported, required, flags, cookie; addresses
    ∷ reads 8 ident (6 ∷ 2 ∷ 11 ∷ 12 ∷ 13 ∷ 14 ∷ 15 ∷ 16 ∷ 0 ∷ 0 ∷ 0 ∷ 0 ∷ 4 ∷ 3 ∷ zeros 4)
    ∷ reads 9 ident (6 ∷ 2 ∷ 11 ∷ 12 ∷ 13 ∷ 14 ∷ 15 ∷ 16 ∷ 0 ∷ 0 ∷ 0 ∷ 0 ∷ 4 ∷ 3 ∷ zeros 4)
    -- reconnect: address count, client_cookie, server_cookie, global_seq, connect_seq, msg_seq; addresses
    ∷ reads 11 (le 4 1 ++ 6 ∷ le 8 21 ++ le 8 22 ++ le 8 23 ++ le 8 24 ++ le 8 25) (7 ∷ 1 ∷ 21 ∷ 22 ∷ 23 ∷ 24 ∷ 25 ∷ 0 ∷ 0 ∷ 0 ∷ 0 ∷ 0 ∷ 4 ∷ 1 ∷ zeros 4)
    -- one number, a reset, a stamp
    ∷ reads 15 (le 8 5) (8 ∷ 5 ∷ zeros 16)
    ∷ reads 20 (le 8 6) (8 ∷ 6 ∷ zeros 16)
    ∷ reads 12 (255 ∷ []) (9 ∷ 255 ∷ zeros 16)
    ∷ reads 18 (zeros 8) (10 ∷ zeros 11 ++ 0 ∷ 8 ∷ zeros 4)
    -- refused: malformed at a place, no body of that tag, a tag of more than 8 bits whose low ones are an ident's
    ∷ reads 5 (le 4 1 ++ 1 ∷ 2 ∷ []) (zeros 14 ++ 20 ∷ 5 ∷ 0 ∷ 0 ∷ [])
    ∷ reads 255 (1 ∷ []) (zeros 14 ++ 20 ∷ 0 ∷ 0 ∷ 0 ∷ [])
    ∷ reads 264 ident (zeros 14 ++ 26 ∷ 0 ∷ 0 ∷ 0 ∷ [])
    ∷ []

abbrev pub AllRead : List Reading → Type 0
AllRead [] = Unit {0}
AllRead (x ∷ xs) = (body_words (abi_body x.tag x.segment) ≡ x.words) × AllRead xs

unfoldable pub Worked : Type 0
Worked = AllRead readings
