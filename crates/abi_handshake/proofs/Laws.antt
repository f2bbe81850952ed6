-- A tag within its field.
use Rattle.std.proofs.Common.{◌≡◌, ◌≤◌, true, ◌&&◌, List, ℕ, leb}
use Rattle.std.proofs.lemmas.Bool.{leb-true, and_parts}
use Rattle.abi.specs.Words.{within, max_u8}
use Rattle.abi_handshake.specs.Words.{verdict_limits, fits}

pub tag_fits : (s tag : ℕ) (ws : List ℕ) → fits s tag ws ≡ true → tag ≤ 255
tag_fits s tag ws k =
    let b = and_parts (leb s 8) (leb tag max_u8 && within verdict_limits 0 ws) k in
    leb-true tag max_u8 (and_parts (leb tag max_u8) (within verdict_limits 0 ws) b.1).0
