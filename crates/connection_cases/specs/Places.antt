-- Where the parts of R, X and T records stand, and whether each is in its range.
use Rattle.std.specs.Prelude.{Bool, true, cond, ◌&&◌, ◌||◌, List, [], ◌∷◌, ℕ, zero, suc, ◌+◌, ◌-◌, ◌*◌, leb, ltb, get_or}
use Rattle.buffer.specs.Le.{number_at}
use Rattle.records.specs.Records.{sized, allowed}
use Rattle.connection_cases.specs.declared.places.Layout.{Layout}
use Rattle.connection_cases.specs.declared.places.Call.{Call}

-- R: own supported u64, own required u64, store length u32, fill u8, number of calls u16, that many u32 piece lengths, stream length u32, stream bytes
-- X: as R, with the number of switches u8 and that many switches in front of the number of calls
-- T: as X, but each call is two u32: the number, and lent
abbrev pub layout_of : Bool → Bool → List ℕ → Layout
layout_of switches lends s = record { from = cond switches 23 22; switches = cond switches (get_or s 22 0) 0; lends = lends }

-- a switch: key 16 bytes, receiving nonce 12 bytes, sending nonce 12 bytes, spent u64
abbrev pub switch_size : ℕ
switch_size = 48

abbrev pub count_at : Layout → ℕ
count_at l = l.from + switch_size * l.switches

abbrev pub calls_of : Layout → List ℕ → ℕ
calls_of l s = number_at 2 (count_at l) s

abbrev pub calls_at : Layout → ℕ
calls_at l = count_at l + 2

abbrev pub call_width : Bool → ℕ
call_width lends = cond lends 8 4

abbrev pub stream_at : Layout → List ℕ → ℕ
stream_at l s = calls_at l + call_width l.lends * calls_of l s

abbrev pub stream_of : Layout → List ℕ → ℕ
stream_of l s = number_at 4 (stream_at l s) s

-- a call of R or X lends the whole store
abbrev pub lent_at : Bool → List ℕ → ℕ → ℕ
lent_at lends s i = cond lends (number_at 4 (i + 4) s) 65536

unfoldable pub call_at : Bool → List ℕ → ℕ → Call
call_at lends s i = record { number = number_at 4 i s; lent = lent_at lends s i }

-- n calls from place i on
unfoldable pub calls_from : Bool → List ℕ → ℕ → ℕ → List Call
calls_from lends s zero i = []
calls_from lends s (suc n) i = call_at lends s i ∷ calls_from lends s n (i + call_width lends)

-- FFFFFF00 + i, i below the number of switches, is a try to switch with the i-th, from 0
abbrev pub is_try : Layout → ℕ → Bool
is_try l n = leb 4294967040 n && ltb n (4294967040 + l.switches)

-- where the i-th stands
abbrev pub try_at : Layout → ℕ → ℕ
try_at l n = l.from + switch_size * (n - 4294967040)

-- any other number is a length; lent is a length too
abbrev pub call_good : Layout → Call → Bool
call_good l c = (is_try l c.number || allowed c.number) && allowed c.lent

unfoldable pub calls_good : Layout → List Call → Bool
calls_good l [] = true
calls_good l (x ∷ xs) = call_good l x && calls_good l xs

-- largest: 8 switches, 4,096 calls, a stream of 131,072 bytes; there is room for so long a store
abbrev pub in_range : ℕ → Layout → List ℕ → Bool
in_range room l s =
    (leb l.switches 8 && leb (calls_of l s) 4096)
    && ((leb (number_at 4 17 s) room && leb (stream_of l s) 131072) && calls_good l (calls_from l.lends s (calls_of l s) (calls_at l)))

unfoldable pub receiver_size : ℕ → Layout → List ℕ → ℕ
receiver_size room l s = sized (in_range room l s) (stream_at l s + 4 + stream_of l s)
