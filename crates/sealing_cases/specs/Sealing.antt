-- S and O records: a text is sealed, and sealed bytes are opened.
use Rattle.std.specs.Prelude.{Bool, cond, ◌&&◌, List, [], ◌∷◌, ℕ, ◌+◌, leb, take, drop, get_or}
use Rattle.refusal.specs.Writes.{Done}
use Rattle.buffer.specs.Le.{number_at}
use Rattle.aes.specs.Aes.{key_expansion}
use Rattle.gcm.specs.Calls.{seal_done, open_done}
use Rattle.records.specs.Records.{Record, done_line, sized, allowed, whole, counted}

-- key 16 bytes, nonce 12 bytes, buffer length u32, fill u8, length u32, bytes; there is room for so long a buffer
abbrev pub sealing_size : ℕ → List ℕ → ℕ
sealing_size room s = sized (leb (number_at 4 29 s) room && allowed (number_at 4 34 s)) (38 + number_at 4 34 s)

abbrev pub key_of : List ℕ → List ℕ
key_of s = take 16 (drop 1 s)

abbrev pub nonce_of : List ℕ → List ℕ
nonce_of s = take 12 (drop 17 s)

abbrev pub given_of : List ℕ → List ℕ
given_of s = take (number_at 4 34 s) (drop 38 s)

abbrev pub buffer_of : List ℕ → List ℕ
buffer_of s = counted (get_or s 33 0) (number_at 4 29 s)

-- what sealing or opening with the key comes to
unfoldable pub done_by : Bool → List ℕ → List ℕ → List ℕ → List ℕ → Done
done_by opens key nonce given buf = cond opens (open_done (key_expansion key) nonce given buf) (seal_done (key_expansion key) nonce given buf)

unfoldable pub done_of : Bool → List ℕ → Done
done_of opens s = done_by opens (key_of s) (nonce_of s) (given_of s) (buffer_of s)

-- `opens` is O
unfoldable pub sealing_record : Bool → ℕ → List ℕ → Record
sealing_record opens room s = whole (sealing_size room s) s (done_line (done_of opens s) ∷ [])
