-- The units of a text, counted over its bytes.
use Rattle.std.specs.Prelude.{◌≡◌, ℕ, ◌≤◌, nat_lt, if◌then◌else◌, List, length, take, sum_by}

-- how many units begin with a byte of UTF-8: those of the character that it is the first byte of, and none where it continues one
abbrev pub begun_at : ℕ → ℕ
begun_at b = if nat_lt b 0x80 then 1 else (if nat_lt b 0xC0 then 0 else (if nat_lt b 0xF0 then 1 else 2))

-- how many units begin in some bytes
abbrev pub begun_in : List ℕ → ℕ
begun_in bs = sum_by begun_at bs

-- so many bytes at the front, in which so many units begin, no more than are wanted
pub record IsFrontOf (bs : List ℕ) (most size count : ℕ) : Type 0 where
  pub within : size ≤ length bs
  pub counted : count ≡ begun_in (take size bs)
  pub few : count ≤ most
